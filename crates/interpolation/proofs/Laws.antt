-- What a crate above may know of interpolation besides the contracts and the definitions.
--   What the candidate is worth, of t + 1 coefficients, at the points xs (units, all different) with the values ys received
--     recovers           a polynomial of t + 1 bytes that agrees at more than half of length xs + t of the points is the candidate
--     unique             two polynomials of one length that agree at so many points are the same
--     length-candidate, bytes-candidate
--     into_candidate     what the code hands out is the candidate, where it can be tried
--   The definitions as equations, for code that computes them
--     agreements-count, wrong-values, root_pair, combine_pair, advance_right, advance-wrong, next_first, next_second
--     start_state, run_none, run_more, smaller_first, smaller-second, reduced-filled, series_none, series-suc, candidate-series
pub use Rattle.interpolation.proofs.Invariant.{Units}
pub use Rattle.interpolation.proofs.Complete.{recovers, unique, length-candidate, bytes-candidate}
pub use Rattle.interpolation.proofs.Equations.{agreements-count, wrong-values, root_pair, combine_pair, advance_right, advance-wrong, next_first}
pub use Rattle.interpolation.proofs.Equations.{next_second}
pub use Rattle.interpolation.proofs.Equations.{start_state, run_none, run_more, smaller_first, smaller-second, reduced-filled, series_none, series-suc}
pub use Rattle.interpolation.proofs.Equations.{candidate-series, into_candidate}
