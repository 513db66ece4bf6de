-- What a crate above may know of polynomials besides the definitions. Written with p(x) for the value at x.
--   Values by powers
--     evaluate_lt        a value is an element
--     evaluate-horner    the value by powers is the value by Horner's rule
--   Values by Horner's rule
--     horner-nil, horner-cons, horner_lt, horner_at_zero
--     horner_end, horner-drop   from the last coefficient to the first: none, and one more
--     horner-zero        the zero polynomial is 0 everywhere
--     horner-plus        (p + q)(z) = p(z) + q(z)
--     horner-scale       (c p)(z) = c · p(z)
--     horner-product     (p q)(z) = p(z) · q(z)
--     horner_root        ((X + x) p)(z) = (z + x) · p(z), where p has room for it
--   Coefficients, lengths, bytes, degrees
--     at_plus, at_scale, at_product, at_root, past_end, combined, root_filled
--     length-plus, length-scale, length_root
--     bytes-plus, bytes-scale, bytes_product, bytes_root
--     below_more, below_length, below-plus, below-scale, below_root, below-product
--     zero_root, zero-product_r
--   Roots
--     factor             p(x) = 0 gives p = (X + x) times the quotient
--     zero_of_roots      as many different roots as coefficients: zero
--     equal_of_values    two of n coefficients, equal at n different points, are the same
pub use Rattle.polynomial.proofs.Values.{evaluate_lt, evaluate-horner, horner-nil, horner-cons, horner_lt, horner_at_zero, horner-zero, horner-plus}
pub use Rattle.polynomial.proofs.Values.{horner-scale, horner-product, horner_root, horner_end, horner-drop}
pub use Rattle.polynomial.proofs.Coefficients.{at_plus, at_scale, at_product, at_root, past_end, combined, root_filled}
pub use Rattle.polynomial.proofs.Coefficients.{length-plus, length-scale, length_root, bytes-plus, bytes-scale, bytes_product, bytes_root}
pub use Rattle.polynomial.proofs.Coefficients.{below_more, below_length, below-plus, below-scale, below_root, below-product, zero_root, zero-product_r}
pub use Rattle.polynomial.proofs.Roots.{quotient, factor, zero_of_roots, equal_of_values}
