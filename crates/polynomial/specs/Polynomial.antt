-- Polynomials over the field of 256 elements: lists of coefficients, the constant one first.
--   gsum n f        f 0 + .. + f (n - 1), in the field
--   evaluate p x    the value at x: p0 + p1 x + p2 x² + .., by powers of x (document 01, 'Field and code')
--   horner p x      p0 + x (p1 + x (p2 + ..)): the same value (law `evaluate-horner`)
--   plus p q        the sum
--   scale c p       c times p
--   product p q     the product
--   times_root x p  X + x times p, in as many coefficients as p has: right where the last one of p is 0
--   Bytes p         every coefficient is an element
--   Zero p          every coefficient is 0
--   Below n p       of degree below n: the coefficients from place n on are 0
--   Points n x      x 0, .., x (n - 1) are different elements
use Rattle.std.specs.Prelude.{◌≡◌, List, [], ◌∷◌, ℕ, zero, suc, ◌≤◌, ◌<◌, length, get_or}
use Rattle.gf256.specs.Field.{gadd, gmul, gpow}
use Rattle.lists.specs.Fill.{tabulate}

unfoldable pub gsum : ℕ → (ℕ → ℕ) → ℕ
gsum zero f = 0
gsum (suc n) f = gadd (gsum n f) (f n)

unfoldable pub evaluate : List ℕ → ℕ → ℕ
evaluate p x = gsum (length p) (λ j. gmul (get_or p j 0) (gpow x j))

unfoldable pub horner : List ℕ → ℕ → ℕ
horner [] x = 0
horner (c ∷ p) x = gadd c (gmul x (horner p x))

unfoldable pub plus : List ℕ → List ℕ → List ℕ
plus [] q = q
plus (a ∷ p) [] = a ∷ p
plus (a ∷ p) (b ∷ q) = gadd a b ∷ plus p q

unfoldable pub scale : ℕ → List ℕ → List ℕ
scale c [] = []
scale c (a ∷ p) = gmul c a ∷ scale c p

unfoldable pub product : List ℕ → List ℕ → List ℕ
product [] q = []
product (c ∷ p) q = plus (scale c q) (0 ∷ product p q)

unfoldable pub times_root : ℕ → List ℕ → List ℕ
times_root x p = tabulate (λ i. gadd (get_or (0 ∷ p) i 0) (gmul x (get_or p i 0))) (length p)

abbrev pub Bytes : List ℕ → Type 0
Bytes p = (i : ℕ) → get_or p i 0 < 256

abbrev pub Zero : List ℕ → Type 0
Zero p = (i : ℕ) → get_or p i 0 ≡ 0

abbrev pub Below : ℕ → List ℕ → Type 0
Below n p = (i : ℕ) → n ≤ i → get_or p i 0 ≡ 0

pub record Points (n : ℕ) (x : ℕ → ℕ) : Type 0 where
  pub element : (i : ℕ) → i < n → x i < 256
  pub different : (i j : ℕ) → i < n → j < n → x i ≡ x j → i ≡ j
