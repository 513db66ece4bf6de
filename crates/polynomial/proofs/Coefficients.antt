-- The coefficients of sums, multiples and products, their degrees and their lengths. The main law: `below-product`, the degree of a
-- product.
use mathlib.Core.Path.{◌≡◌, refl, sym, ap, ap₂, ◌∙◌, subst}
use mathlib.Core.List.{List, [], ◌∷◌}
use Prim.Native.Nat.{ℕ, zero, suc, ◌+◌, ◌≤◌, ◌<◌}
use native.Mathlib.Omega.{arith}
use lib.Dec.{lit<}
use lib.ListN.{length, get_or, get_or-eq_default}
use lib.Seq.{ext_get_or}
use Rattle.gf256.specs.Field.{gadd, gmul}
use Rattle.gf256.proofs.Laws.{gadd-zero_l, gadd-zero_r, gadd_self, gadd_lt, gadd-zero, gmul_lt, gmul-zero_l, gmul-zero_r}
use Rattle.lists.specs.Fill.{tabulate}
use Rattle.lists.proofs.Fills.{length-tabulate, get_or-tabulate}
use Rattle.lists.proofs.Tests.{lt_or_le}
use mathlib.Core.Logic.{⊎_elim}
use Rattle.polynomial.specs.Polynomial.{plus, scale, product, times_root, Bytes, Zero, Below}

-- ---- coefficient by coefficient
pub at_plus : (p q : List ℕ) (i : ℕ) → get_or (plus p q) i 0 ≡ gadd (get_or p i 0) (get_or q i 0)
unfolding plus
at_plus [] q i = sym (gadd-zero_l (get_or q i 0))
at_plus (a ∷ p) [] i = sym (gadd-zero_r (get_or (a ∷ p) i 0))
at_plus (a ∷ p) (b ∷ q) zero = refl
at_plus (a ∷ p) (b ∷ q) (suc i) = at_plus p q i

pub at_scale : (c : ℕ) (p : List ℕ) (i : ℕ) → get_or (scale c p) i 0 ≡ gmul c (get_or p i 0)
unfolding scale
at_scale c [] i = sym (gmul-zero_r c)
at_scale c (a ∷ p) zero = refl
at_scale c (a ∷ p) (suc i) = at_scale c p i

-- the product of c ∷ p by q, coefficient by coefficient
pub at_product : (c : ℕ) (p q : List ℕ) (i : ℕ) → get_or (product (c ∷ p) q) i 0 ≡ gadd (gmul c (get_or q i 0)) (get_or (0 ∷ product p q) i 0)
unfolding product
at_product c p q i = at_plus (scale c q) (0 ∷ product p q) i ∙ ap (λ z. gadd z (get_or (0 ∷ product p q) i 0)) (at_scale c q i)

pub at_root : (x : ℕ) (p : List ℕ) (i : ℕ) → i < length p → get_or (times_root x p) i 0 ≡ gadd (get_or (0 ∷ p) i 0) (gmul x (get_or p i 0))
unfolding times_root
at_root x p i l = get_or-tabulate (λ i. gadd (get_or (0 ∷ p) i 0) (gmul x (get_or p i 0))) (length p) i 0 l

-- ---- lengths
pub length-scale : (c : ℕ) (p : List ℕ) → length (scale c p) ≡ length p
unfolding scale
length-scale c [] = refl
length-scale c (a ∷ p) = ap suc (length-scale c p)

pub length-plus : (p q : List ℕ) → length p ≡ length q → length (plus p q) ≡ length p
unfolding plus
length-plus [] [] e = refl
length-plus [] (b ∷ q) e = absurd (omega arith)
length-plus (a ∷ p) [] e = absurd (omega arith)
length-plus (a ∷ p) (b ∷ q) e = ap suc (length-plus p q (omega arith))

pub length_root : (x : ℕ) (p : List ℕ) → length (times_root x p) ≡ length p
unfolding times_root
length_root x p = length-tabulate (λ i. gadd (get_or (0 ∷ p) i 0) (gmul x (get_or p i 0))) (length p)

-- past the end
pub past_end : (p : List ℕ) (i : ℕ) → length p ≤ i → get_or p i 0 ≡ 0
past_end p i l = get_or-eq_default p 0 l

-- ---- by index, as a loop writes them
pub root_filled : (x : ℕ) (p : List ℕ) → times_root x p ≡ tabulate (λ i. gadd (get_or (0 ∷ p) i 0) (gmul x (get_or p i 0))) (length p)
unfolding times_root
root_filled x p = refl

pub combined : (a b : ℕ) (p q : List ℕ) → length p ≡ length q
    → plus (scale a p) (scale b q) ≡ tabulate (λ i. gadd (gmul a (get_or p i 0)) (gmul b (get_or q i 0))) (length p)
combined a b p q e =
    let f : ℕ → ℕ = λ i. gadd (gmul a (get_or p i 0)) (gmul b (get_or q i 0)) in
    let l : length (plus (scale a p) (scale b q)) ≡ length p =
    length-plus (scale a p) (scale b q) (length-scale a p ∙ e ∙ sym (length-scale b q)) ∙ length-scale a p in
    ext_get_or 0 (plus (scale a p) (scale b q)) (tabulate f (length p)) (l ∙ sym (length-tabulate f (length p)))
    (λ i h. at_plus (scale a p) (scale b q) i ∙ ap₂ gadd (at_scale a p i) (at_scale b q i) ∙ sym (get_or-tabulate f (length p) i 0 (omega arith)))

-- ---- bytes
pub bytes-plus : (p q : List ℕ) → Bytes p → Bytes q → Bytes (plus p q)
bytes-plus p q hp hq i = rw (at_plus p q i) (gadd_lt (hp i) (hq i))

pub bytes-scale : (c : ℕ) (p : List ℕ) → Bytes (scale c p)
bytes-scale c p i = rw (at_scale c p i) (gmul_lt c (get_or p i 0))

bytes_before : (p : List ℕ) → Bytes p → Bytes (0 ∷ p)
bytes_before p h zero = lit< tt
bytes_before p h (suc i) = h i

pub bytes_product : (p q : List ℕ) → Bytes (product p q)
unfolding product
bytes_product [] q i = lit< tt
bytes_product (c ∷ p) q i = rw (at_product c p q i) (gadd_lt (gmul_lt c (get_or q i 0)) (bytes_before (product p q) (bytes_product p q) i))

pub bytes_root : (x : ℕ) (p : List ℕ) → Bytes p → Bytes (times_root x p)
bytes_root x p h i =
    ⊎_elim
    (λ (l : i < length p). rw (at_root x p i l) (gadd_lt (bytes_before p h i) (gmul_lt x (get_or p i 0))))
    (λ (l : length p ≤ i). rw (past_end (times_root x p) i (subst (λ n. n ≤ i) (sym (length_root x p)) l)) (lit< tt))
    (lt_or_le i (length p))

-- ---- degrees
pub below_more : (m n : ℕ) (p : List ℕ) → m ≤ n → Below m p → Below n p
below_more m n p l h i g = h i (omega arith)

pub below_length : (p : List ℕ) → Below (length p) p
below_length p i l = past_end p i l

pub below-plus : (n : ℕ) (p q : List ℕ) → Below n p → Below n q → Below n (plus p q)
below-plus n p q hp hq i l = at_plus p q i ∙ ap₂ gadd (hp i l) (hq i l) ∙ gadd_self 0

pub below-scale : (c n : ℕ) (p : List ℕ) → Below n p → Below n (scale c p)
below-scale c n p h i l = at_scale c p i ∙ ap (gmul c) (h i l) ∙ gmul-zero_r c

below_before : (n : ℕ) (p : List ℕ) → Below n p → Below (suc n) (0 ∷ p)
below_before n p h zero l = refl
below_before n p h (suc i) l = h i (omega arith)

pub below_root : (x n : ℕ) (p : List ℕ) → Below n p → Below (suc n) (times_root x p)
below_root x n p h i l =
    ⊎_elim
    (λ (g : i < length p).
    at_root x p i g ∙ ap₂ gadd (below_before n p h i l) (ap (gmul x) (h i (omega arith)) ∙ gmul-zero_r x) ∙ gadd_self 0)
    (λ (g : length p ≤ i). past_end (times_root x p) i (subst (λ n. n ≤ i) (sym (length_root x p)) g))
    (lt_or_le i (length p))

zero_before : (p : List ℕ) → Zero p → Zero (0 ∷ p)
zero_before p h zero = refl
zero_before p h (suc i) = h i

pub zero_root : (x : ℕ) (p : List ℕ) → Zero p → Zero (times_root x p)
zero_root x p h i =
    ⊎_elim
    (λ (g : i < length p).
    at_root x p i g ∙ ap₂ gadd (zero_before p h i) (ap (gmul x) (h i) ∙ gmul-zero_r x) ∙ gadd_self 0)
    (λ (g : length p ≤ i). past_end (times_root x p) i (subst (λ n. n ≤ i) (sym (length_root x p)) g))
    (lt_or_le i (length p))

pub zero-product_l : (p q : List ℕ) → Zero p → Zero (product p q)
unfolding product
zero-product_l [] q h i = refl
zero-product_l (c ∷ p) q h i =
    at_product c p q i
    ∙ ap₂ gadd (ap (λ z. gmul z (get_or q i 0)) (h 0) ∙ gmul-zero_l (get_or q i 0)) (zero_before (product p q) (zero-product_l p q (λ i. h (suc i))) i)
    ∙ gadd_self 0

pub zero-product_r : (p q : List ℕ) → Zero q → Zero (product p q)
unfolding product
zero-product_r [] q h i = refl
zero-product_r (c ∷ p) q h i =
    at_product c p q i
    ∙ ap₂ gadd (ap (gmul c) (h i) ∙ gmul-zero_r c) (zero_before (product p q) (zero-product_r p q h) i)
    ∙ gadd_self 0

-- degree at most m times degree below n
pub below-product : (m n : ℕ) (p q : List ℕ) → Below (suc m) p → Below n q → Below (m + n) (product p q)
unfolding product
below-product m n [] q hp hq i l = refl
below-product zero n (c ∷ p) q hp hq i l =
    at_product c p q i
    ∙ ap₂ gadd (ap (gmul c) (hq i (omega arith)) ∙ gmul-zero_r c)
    (zero_before (product p q) (zero-product_l p q (λ j. hp (suc j) (omega arith))) i)
    ∙ gadd_self 0
below-product (suc m) n (c ∷ p) q hp hq i l =
    at_product c p q i
    ∙ ap₂ gadd (ap (gmul c) (hq i (omega arith)) ∙ gmul-zero_r c)
    (below_before (m + n) (product p q) (below-product m n p q (λ j g. hp (suc j) (omega arith)) hq) i (omega arith))
    ∙ gadd_self 0

-- ---- equality
pub equal_of_sum : (p q : List ℕ) → length p ≡ length q → Zero (plus p q) → p ≡ q
equal_of_sum p q e h = ext_get_or 0 p q e (λ i l. gadd-zero (get_or p i 0) (get_or q i 0) (sym (at_plus p q i) ∙ h i))
