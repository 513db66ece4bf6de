-- The field of 256 elements (document 01, 'Field and code'). An element is a number below 256; its bits are the coefficients of a
-- polynomial over two elements, bit k that of X to the k. The product looks at the low eight bits of any number, so that most laws
-- hold of all numbers.
--   gadd a b                             the sum: exclusive or
--   modulus, poly_mul n a b, reduce k p  11d; the product of polynomials, of n bits of b; the remainder, of a polynomial of 8 + k bits
--   gmul a b                             the product: of polynomials, reduced by 11d
--   gpow a n                             a multiplied by itself n times
--   ginv a                               the inverse; that of 00 is 00
--   orbit n p, index_of l i a            p, 02 p, .. : n of them; where a first stands in l, counted from i
--   glog a                               the exponent: a is that power of 02; that of 00 is 0
use Rattle.std.specs.Prelude.{cond, List, [], ◌∷◌, ℕ, zero, suc, ◌+◌, ◌*◌, ◌/◌, ◌%◌, ◌^◌, eqb}
use Rattle.std.specs.Int.Bits.{bit_xor}

unfoldable pub gadd : ℕ → ℕ → ℕ
gadd a b = bit_xor a b

-- the polynomial by which products are reduced: X to the 8, and 1d
abbrev pub modulus : ℕ
modulus = 0x11d

-- the product of polynomials: for each bit k that is set in b, of the low n bits, a times X to the k; all these added
unfoldable pub poly_mul : ℕ → ℕ → ℕ → ℕ
unfolding gadd
poly_mul zero a b = 0
poly_mul (suc n) a b = gadd (b % 2 * a) (poly_mul n (a * 2) (b / 2))

-- what is left of p, whose degree is below 8 + n, modulo 11d: from the highest bit down to bit 8, where bit 8 + k is set,
-- 11d times X to the k is taken away, which is to add it
unfoldable pub reduce : ℕ → ℕ → ℕ
unfolding gadd
reduce zero p = p
reduce (suc k) p = reduce k (gadd p (p / 2 ^ (8 + k) % 2 * (modulus * 2 ^ k)))

unfoldable pub gmul : ℕ → ℕ → ℕ
unfolding poly_mul reduce
gmul a b = reduce 7 (poly_mul 8 (a % 256) b)

unfoldable pub gpow : ℕ → ℕ → ℕ
unfolding gmul
gpow a zero = 1
gpow a (suc n) = gmul a (gpow a n)

-- the power 254: the power 255 of each element but 00 is 01 (law `gmul-ginv`)
unfoldable pub ginv : ℕ → ℕ
ginv a = gpow a 254

-- n elements, p the first, each the one before it times 02
unfoldable pub orbit : ℕ → ℕ → List ℕ
orbit zero p = []
orbit (suc n) p = p ∷ orbit n (gmul 2 p)

-- where a first stands in a list whose places are counted from i; 0 where it stands nowhere
unfoldable pub index_of : List ℕ → ℕ → ℕ → ℕ
index_of [] i a = 0
index_of (x ∷ xs) i a = cond (eqb x a) i (index_of xs (suc i) a)

-- the place among the 255 powers of 02
unfoldable pub glog : ℕ → ℕ
glog a = index_of (orbit 255 1) 0 a
