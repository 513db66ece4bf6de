-- The values of sums, multiples and products. The main law: `evaluate-horner`, the value by powers is the value by Horner's rule.
use mathlib.Core.Path.{◌≡◌, refl, sym, ap, ap₂, ◌∙◌}
use mathlib.Core.List.{List, [], ◌∷◌}
use Prim.Native.Nat.{ℕ, zero, suc, ◌+◌, ◌-◌, ◌≤◌, ◌<◌}
use native.Mathlib.Numerals.{add-one}
use native.Mathlib.Omega.{arith}
use lib.Dec.{lit<}
use lib.ListN.{length, get_or, drop}
use lib.Seq.{drop-length, drop-cons}
use Rattle.gf256.specs.Field.{gadd, gmul, gpow}
use Rattle.gf256.proofs.Laws.{gadd_assoc, gadd_comm, gadd-zero_l, gadd-zero_r, gadd_self, gadd_medial, gadd_lt, gmul_left_comm, gmul_assoc, gmul-add_l}
use Rattle.gf256.proofs.Laws.{gmul-add_r, gmul-zero_l, gmul-zero_r, gmul_one_r, gmul_lt, gpow-zero, gpow-suc}
use Rattle.lists.specs.Fill.{tabulate}
use Rattle.lists.proofs.Fills.{tabulate_none, tabulate_front}
use Rattle.polynomial.specs.Polynomial.{gsum, evaluate, horner, plus, scale, product, times_root, Bytes, Zero, Below}

-- ---- sums in the field
gsum_front : (n : ℕ) (f : ℕ → ℕ) → gsum (suc n) f ≡ gadd (f 0) (gsum n (λ i. f (suc i)))
unfolding gsum
gsum_front zero f = gadd_comm 0 (f 0)
gsum_front (suc n) f = ap (λ z. gadd z (f (suc n))) (gsum_front n f) ∙ gadd_assoc (f 0) (gsum n (λ i. f (suc i))) (f (suc n))

gsum-scale : (c n : ℕ) (f g : ℕ → ℕ) → ((i : ℕ) → f i ≡ gmul c (g i)) → gsum n f ≡ gmul c (gsum n g)
unfolding gsum
gsum-scale c zero f g h = sym (gmul-zero_r c)
gsum-scale c (suc n) f g h = ap₂ gadd (gsum-scale c n f g h) (h n) ∙ sym (gmul-add_r c (gsum n g) (g n))

gsum_lt : (n : ℕ) (f : ℕ → ℕ) → ((i : ℕ) → f i < 256) → gsum n f < 256
unfolding gsum
gsum_lt zero f h = lit< tt
gsum_lt (suc n) f h = gadd_lt (gsum_lt n f h) (h n)

-- ---- the value by powers
-- every value is an element
pub evaluate_lt : (p : List ℕ) (x : ℕ) → evaluate p x < 256
unfolding evaluate
evaluate_lt p x = gsum_lt (length p) (λ j. gmul (get_or p j 0) (gpow x j)) (λ j. gmul_lt (get_or p j 0) (gpow x j))

evaluate-cons : (c : ℕ) (p : List ℕ) (x : ℕ) → c < 256 → evaluate (c ∷ p) x ≡ gadd c (gmul x (evaluate p x))
unfolding evaluate
evaluate-cons c p x h =
    gsum_front (length p) (λ j. gmul (get_or (c ∷ p) j 0) (gpow x j))
    ∙ ap₂ gadd (ap (gmul c) (gpow-zero x) ∙ gmul_one_r c h)
    (gsum-scale x (length p) (λ j. gmul (get_or p j 0) (gpow x (suc j))) (λ j. gmul (get_or p j 0) (gpow x j))
    (λ j. ap (gmul (get_or p j 0)) (gpow-suc x j) ∙ gmul_left_comm (get_or p j 0) x (gpow x j)))

pub evaluate-horner : (p : List ℕ) (x : ℕ) → Bytes p → evaluate p x ≡ horner p x
unfolding horner gsum evaluate
evaluate-horner [] x h = refl
evaluate-horner (c ∷ p) x h = evaluate-cons c p x (h 0) ∙ ap (λ z. gadd c (gmul x z)) (evaluate-horner p x (λ i. h (suc i)))

-- ---- Horner's rule
pub horner-nil : (x : ℕ) → horner [] x ≡ 0
unfolding horner
horner-nil x = refl

pub horner-cons : (c : ℕ) (p : List ℕ) (x : ℕ) → horner (c ∷ p) x ≡ gadd c (gmul x (horner p x))
unfolding horner
horner-cons c p x = refl

-- from the last coefficient to the first: none is left
pub horner_end : (p : List ℕ) (x : ℕ) → horner (drop (length p) p) x ≡ 0
horner_end p x = ap (λ q. horner q x) (drop-length p) ∙ horner-nil x

-- a coefficient more at the front
pub horner-drop : (p : List ℕ) (x j : ℕ) → j < length p → horner (drop j p) x ≡ gadd (get_or p j 0) (gmul x (horner (drop (j + 1) p) x))
horner-drop p x j l =
    ap (λ q. horner q x) (drop-cons p j 0 l ∙ ap (λ n. get_or p j 0 ∷ drop n p) (sym (add-one j))) ∙ horner-cons (get_or p j 0) (drop (j + 1) p) x

pub horner_lt : (p : List ℕ) (x : ℕ) → Bytes p → horner p x < 256
unfolding horner
horner_lt [] x h = lit< tt
horner_lt (c ∷ p) x h = gadd_lt (h 0) (gmul_lt x (horner p x))

pub horner-zero : (p : List ℕ) (z : ℕ) → Zero p → horner p z ≡ 0
unfolding horner
horner-zero [] z h = refl
horner-zero (c ∷ p) z h = ap₂ gadd (h 0) (ap (gmul z) (horner-zero p z (λ i. h (suc i))) ∙ gmul-zero_r z) ∙ gadd_self 0

-- the value at 0 is the constant coefficient
pub horner_at_zero : (p : List ℕ) → horner p 0 ≡ get_or p 0 0
unfolding horner
horner_at_zero [] = refl
horner_at_zero (c ∷ p) = ap (gadd c) (gmul-zero_l (horner p 0)) ∙ gadd-zero_r c

pub horner-plus : (p q : List ℕ) (z : ℕ) → horner (plus p q) z ≡ gadd (horner p z) (horner q z)
unfolding horner plus
horner-plus [] q z = sym (gadd-zero_l (horner q z))
horner-plus (a ∷ p) [] z = sym (gadd-zero_r (horner (a ∷ p) z))
horner-plus (a ∷ p) (b ∷ q) z =
    ap (gadd (gadd a b)) (ap (gmul z) (horner-plus p q z) ∙ gmul-add_r z (horner p z) (horner q z))
    ∙ gadd_medial a b (gmul z (horner p z)) (gmul z (horner q z))

pub horner-scale : (c : ℕ) (p : List ℕ) (z : ℕ) → horner (scale c p) z ≡ gmul c (horner p z)
unfolding horner scale
horner-scale c [] z = sym (gmul-zero_r c)
horner-scale c (a ∷ p) z =
    ap (gadd (gmul c a)) (ap (gmul z) (horner-scale c p z) ∙ gmul_left_comm z c (horner p z))
    ∙ sym (gmul-add_r c a (gmul z (horner p z)))

pub horner-product : (p q : List ℕ) (z : ℕ) → horner (product p q) z ≡ gmul (horner p z) (horner q z)
unfolding horner product
horner-product [] q z = sym (gmul-zero_l (horner q z))
horner-product (c ∷ p) q z =
    horner-plus (scale c q) (0 ∷ product p q) z
    ∙ ap₂ gadd (horner-scale c q z)
    (gadd-zero_l (gmul z (horner (product p q) z)) ∙ ap (gmul z) (horner-product p q z) ∙ sym (gmul_assoc z (horner p z) (horner q z)))
    ∙ sym (gmul-add_l c (gmul z (horner p z)) (horner q z))

-- times X + x, with `before` in the place of the coefficient before the first
root_from : ℕ → ℕ → List ℕ → List ℕ
root_from x before p = tabulate (λ i. gadd (get_or (before ∷ p) i 0) (gmul x (get_or p i 0))) (length p)

root_from_lem : (x before n : ℕ) (p : List ℕ) (z : ℕ) → n ≤ length p → Below n (before ∷ p)
    → horner (root_from x before p) z ≡ gadd before (gmul (gadd z x) (horner p z))
unfolding horner root_from
root_from_lem x before n [] z l h =
    ap (λ (q : List ℕ). horner q z) (tabulate_none (λ i. gadd (get_or (before ∷ []) i 0) (gmul x (get_or {A = ℕ} [] i 0))))
    ∙ sym (ap₂ gadd (h 0 (omega arith)) (gmul-zero_r (gadd z x)) ∙ gadd_self 0)
root_from_lem x before n (c ∷ p) z l h =
    let zx = gadd z x in
    let v = horner p z in
    ap (λ (q : List ℕ). horner q z) (tabulate_front (λ i. gadd (get_or (before ∷ c ∷ p) i 0) (gmul x (get_or (c ∷ p) i 0))) (length p))
    ∙ ap (gadd (gadd before (gmul x c)))
    (ap (gmul z) (root_from_lem x c (n - 1) p z (omega arith) (λ i g. h (suc i) (omega arith))) ∙ gmul-add_r z c (gmul zx v)
    ∙ ap (gadd (gmul z c)) (gmul_left_comm z zx v))
    ∙ gadd_assoc before (gmul x c) (gadd (gmul z c) (gmul zx (gmul z v)))
    ∙ ap (gadd before)
    (sym (gadd_assoc (gmul x c) (gmul z c) (gmul zx (gmul z v)))
    ∙ ap (λ w. gadd w (gmul zx (gmul z v))) (gadd_comm (gmul x c) (gmul z c) ∙ sym (gmul-add_l z x c))
    ∙ sym (gmul-add_r zx c (gmul z v)))

pub horner_root : (x n : ℕ) (p : List ℕ) (z : ℕ) → n < length p → Below n p → horner (times_root x p) z ≡ gmul (gadd z x) (horner p z)
unfolding times_root root_from
horner_root x n p z l h = root_from_lem x 0 (suc n) p z (omega arith) lower ∙ gadd-zero_l (gmul (gadd z x) (horner p z))
  where
    lower : Below (suc n) (0 ∷ p)
    lower zero l = refl
    lower (suc i) l = h i (omega arith)
