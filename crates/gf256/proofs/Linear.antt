-- The product is additive in each factor (`gmul-add_l`, `gmul-add_r`: the distributive laws). Every element is a sum of powers of 2
-- (`element-ind`), so two operations that are additive in each argument are equal if they are at the 64 pairs of powers of 2
-- (`bilinear_ext`).
use mathlib.Core.Path.{◌≡◌, refl, sym, ap, ap₂, ◌∙◌, subst}
use mathlib.Core.Bool.{Bool}
use Prim.Native.Nat.{ℕ, zero, suc, ◌+◌, ◌*◌, ◌/◌, ◌%◌, ◌^◌, ◌≤◌, ◌<◌}
use native.Mathlib.Nat.{mod-lt, mod-mod, mod-one, zero-mul, one-mul}
use native.Mathlib.Numerals.{add-one, one-add}
use native.Mathlib.Omega.{arith}
use lib.Bits.{xor_shifted}
use lib.Dec.{T, eqb, eqb→eq, ltb, ltb→lt, lit<}
use lib.Pow.{mod-pow-add, mod-mod-pow, field, pow_pos}
use Rattle.lists.proofs.Table.{below, below_at}
use Rattle.gf256.specs.Field.{gadd, modulus, poly_mul, reduce, gmul}
use Rattle.gf256.proofs.Sum.{Additive, additive_zero, bit_cases, bit_lt, add-mod, add_shr, add_double, scale_r, scale_l, bit-add, gadd_lt, gadd_medial}
use Rattle.gf256.proofs.Sum.{gadd-zero_l}

-- ---- the product of polynomials, and the reduction
poly_add_l : (n b : ℕ) → Additive (λ a. poly_mul n a b)
unfolding poly_mul
poly_add_l zero b a a' = sym (gadd-zero_l 0)
poly_add_l (suc n) b a a' =
    ap₂ gadd
    (scale_r (b % 2) (bit_lt b) a a')
    (ap (λ x. poly_mul n x (b / 2)) (add_double a a') ∙ poly_add_l n (b / 2) (a * 2) (a' * 2))
    ∙ gadd_medial (b % 2 * a) (b % 2 * a') (poly_mul n (a * 2) (b / 2)) (poly_mul n (a' * 2) (b / 2))

poly_add_r : (n a : ℕ) → Additive (poly_mul n a)
unfolding poly_mul
poly_add_r zero a b b' = sym (gadd-zero_l 0)
poly_add_r (suc n) a b b' =
    ap₂ gadd
    (ap (λ (x : ℕ). x * a) (add-mod 1 b b') ∙ scale_l a (b % 2) (b' % 2) (bit_lt b) (bit_lt b'))
    (ap (poly_mul n (a * 2)) (add_shr 1 b b') ∙ poly_add_r n (a * 2) (b / 2) (b' / 2))
    ∙ gadd_medial (b % 2 * a) (b' % 2 * a) (poly_mul n (a * 2) (b / 2)) (poly_mul n (a * 2) (b' / 2))

poly_low : (n a b : ℕ) → poly_mul n a (b % 2 ^ n) ≡ poly_mul n a b
unfolding poly_mul
poly_low zero a b = refl
poly_low (suc n) a b =
    ap₂ (λ x y. gadd (x * a) (poly_mul n (a * 2) y))
    (subst (λ m. b % 2 ^ m % 2 ≡ b % 2) (add-one n) (mod-mod-pow b n 1))
    (subst (λ m. b % 2 ^ m / 2 ≡ b / 2 % 2 ^ n) (add-one n) (field b n 1))
    ∙ ap (gadd (b % 2 * a)) (poly_low n (a * 2) (b / 2))

reduce-add : (n : ℕ) → Additive (reduce n)
unfolding reduce
reduce-add zero p q = refl
reduce-add (suc k) p q =
    ap (λ x. reduce k (gadd (gadd p q) x)) (bit-add (8 + k) (modulus * 2 ^ k) p q)
    ∙ ap (reduce k) (gadd_medial p q (top p) (top q))
    ∙ reduce-add k (gadd p (top p)) (gadd q (top q))
  where
    top : ℕ → ℕ
    top x = x / 2 ^ (8 + k) % 2 * (modulus * 2 ^ k)

-- ---- distributive, on each side
pub gmul-add_l : (a b c : ℕ) → gmul (gadd a b) c ≡ gadd (gmul a c) (gmul b c)
unfolding gmul
gmul-add_l a b c =
    ap (λ x. reduce 7 (poly_mul 8 x c)) (add-mod 8 a b)
    ∙ ap (reduce 7) (poly_add_l 8 c (a % 256) (b % 256))
    ∙ reduce-add 7 (poly_mul 8 (a % 256) c) (poly_mul 8 (b % 256) c)

pub gmul-add_r : (a b c : ℕ) → gmul a (gadd b c) ≡ gadd (gmul a b) (gmul a c)
unfolding gmul
gmul-add_r a b c = ap (reduce 7) (poly_add_r 8 (a % 256) b c) ∙ reduce-add 7 (poly_mul 8 (a % 256) b) (poly_mul 8 (a % 256) c)

-- ---- only the low eight bits count
pub gmul_low_l : (a b : ℕ) → gmul (a % 256) b ≡ gmul a b
unfolding gmul
gmul_low_l a b = ap (λ x. reduce 7 (poly_mul 8 x b)) (mod-mod a 256)

pub gmul_low_r : (a b : ℕ) → gmul a (b % 256) ≡ gmul a b
unfolding gmul
gmul_low_r a b = ap (reduce 7) (poly_low 8 (a % 256) b)

-- ---- every element is a sum of powers of 2
split_bit : (k a : ℕ) → a % 2 ^ suc k ≡ gadd (a / 2 ^ k % 2 * 2 ^ k) (a % 2 ^ k)
unfolding gadd
split_bit k a =
    ap (λ m. a % 2 ^ m) (sym (one-add k))
    ∙ mod-pow-add a 1 k
    ∙ sym (xor_shifted (a / 2 ^ k % 2) k (a % 2 ^ k) (mod-lt a (pow_pos k)))

module _ (P : ℕ → Type 0) (none : P 0) (more : (x y : ℕ) → P x → P y → P (gadd x y)) (basis : (k : ℕ) → k < 8 → P (2 ^ k)) where
  low : (k : ℕ) → k ≤ 8 → (a : ℕ) → P (a % 2 ^ k)
  low zero h a = rw mod-one none
  low (suc k) h a =
      subst P (sym (split_bit k a))
      (more (a / 2 ^ k % 2 * 2 ^ k) (a % 2 ^ k)
      (bit_cases (λ x. P (x * 2 ^ k)) (rw (zero-mul (2 ^ k)) none) (rw (one-mul (2 ^ k)) (basis k h)) (a / 2 ^ k % 2) (bit_lt (a / 2 ^ k)))
      (low k (omega arith) a))

  pub element-ind : (a : ℕ) → P (a % 256)
  element-ind = low 8 (omega arith)

-- two additive maps that agree at the powers of 2 agree at every element
pub additive_ext : (f g : ℕ → ℕ) → Additive f → Additive g → ((k : ℕ) → k < 8 → f (2 ^ k) ≡ g (2 ^ k)) → (a : ℕ) → f (a % 256) ≡ g (a % 256)
additive_ext f g hf hg =
    element-ind (λ x. f x ≡ g x) (additive_zero f hf ∙ sym (additive_zero g hg)) (λ x y p q. hf x y ∙ ap₂ gadd p q ∙ sym (hg x y))

-- an additive map that gives elements at the powers of 2 gives elements
pub additive_lt : (f : ℕ → ℕ) → Additive f → ((k : ℕ) → k < 8 → f (2 ^ k) < 256) → (a : ℕ) → f (a % 256) < 256
additive_lt f hf = element-ind (λ x. f x < 256) (rw (additive_zero f hf) (lit< tt)) (λ x y p q. rw (hf x y) (gadd_lt p q))

-- ---- operations that are additive in each argument and look at the low eight bits
pub record Bilinear (F : ℕ → ℕ → ℕ) : Type 0 where
  pub add_l : (b : ℕ) → Additive (λ a. F a b)
  pub add_r : (a : ℕ) → Additive (F a)
  pub low_l : (a b : ℕ) → F (a % 256) b ≡ F a b
  pub low_r : (a b : ℕ) → F a (b % 256) ≡ F a b

-- a test at the 64 pairs of powers of 2
abbrev pub at_pairs : (ℕ → ℕ → Bool) → Bool
at_pairs test = below 8 (λ k. below 8 (λ j. test (2 ^ k) (2 ^ j)))

pub at_pair : (test : ℕ → ℕ → Bool) → T (at_pairs test) → (k j : ℕ) → k < 8 → j < 8 → T (test (2 ^ k) (2 ^ j))
at_pair test t k j hk hj =
    below_at 8 (λ j. test (2 ^ k) (2 ^ j)) (below_at 8 (λ k. below 8 (λ j. test (2 ^ k) (2 ^ j))) t k hk) j hj

pub bilinear_ext : (F G : ℕ → ℕ → ℕ) → Bilinear F → Bilinear G → T (at_pairs (λ x y. eqb (F x y) (G x y))) → (a b : ℕ) → F a b ≡ G a b
bilinear_ext F G hF hG t a b =
    sym (hF.low_l a b)
    ∙ additive_ext (λ x. F x b) (λ x. G x b) (hF.add_l b) (hG.add_l b)
    (λ k hk.
    sym (hF.low_r (2 ^ k) b)
    ∙ additive_ext (F (2 ^ k)) (G (2 ^ k)) (hF.add_r (2 ^ k)) (hG.add_r (2 ^ k))
    (λ j hj. eqb→eq (F (2 ^ k) (2 ^ j)) (G (2 ^ k) (2 ^ j)) (at_pair (λ x y. eqb (F x y) (G x y)) t k j hk hj)) b
    ∙ hG.low_r (2 ^ k) b)
    a
    ∙ hG.low_l a b

pub bilinear_lt : (F : ℕ → ℕ → ℕ) → Bilinear F → T (at_pairs (λ x y. ltb (F x y) 256)) → (a b : ℕ) → F a b < 256
bilinear_lt F hF t a b =
    rw (sym (hF.low_l a b))
    (additive_lt (λ x. F x b) (hF.add_l b)
    (λ k hk.
    rw (sym (hF.low_r (2 ^ k) b))
    (additive_lt (F (2 ^ k)) (hF.add_r (2 ^ k)) (λ j hj. ltb→lt (F (2 ^ k) (2 ^ j)) 256 (at_pair (λ x y. ltb (F x y) 256) t k j hk hj)) b))
    a)
