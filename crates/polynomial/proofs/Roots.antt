-- Roots. The main laws: `factor` (a polynomial with the root x is a multiple of X + x), `zero_of_roots` (one with as many different
-- roots as coefficients is zero) and `equal_of_values` (two of n coefficients that are equal at n different points are the same).
use mathlib.Core.Path.{◌≡◌, refl, sym, ap, ap₂, ◌∙◌, subst}
use mathlib.Core.Bool.{Bool, true, not, ◌&&◌}
use mathlib.Core.List.{List, [], ◌∷◌}
use mathlib.Core.Logic.{◌≢◌}
use Prim.Native.Nat.{ℕ, zero, suc, ◌-◌, ◌≤◌, ◌<◌}
use native.Mathlib.Omega.{arith}
use borrow.Author.Tests.{eqb-true, eqb-false, eq-eqb, not-true}
use lib.Dec.{eqb}
use lib.ListN.{length}
use Rattle.gf256.specs.Field.{gadd, gmul}
use Rattle.gf256.proofs.Laws.{gadd_assoc, gadd_comm, gadd-zero_r, gadd_self, gadd_medial, gadd_lt, gadd-zero, gmul_left_comm, gmul-add_l, gmul-add_r}
use Rattle.gf256.proofs.Laws.{gmul-zero_r, gmul-zero}
use Rattle.lists.specs.Sum.{count}
use Rattle.lists.proofs.Sums.{count-member, count_without, count_mono}
use Rattle.lists.proofs.Tests.{and_left, and_right}
use Rattle.polynomial.specs.Polynomial.{evaluate, horner, plus, Bytes, Zero, Below, Points}
use Rattle.polynomial.proofs.Coefficients.{bytes-plus, below-plus, below_length, equal_of_sum}
use Rattle.polynomial.proofs.Values.{evaluate-horner, horner_lt, horner-zero, horner-plus}

-- the quotient of c ∷ p by X + x, whatever c: the values at x of the ends of p
unfoldable pub quotient : ℕ → List ℕ → List ℕ
quotient x [] = []
quotient x (d ∷ p) = horner (d ∷ p) x ∷ quotient x p

-- z p(z) + x p(x) is a multiple of z + x
division : (x z : ℕ) (p : List ℕ) → gadd (gmul z (horner p z)) (gmul x (horner p x)) ≡ gmul (gadd z x) (horner (quotient x p) z)
unfolding horner quotient
division x z [] = ap₂ gadd (gmul-zero_r z) (gmul-zero_r x) ∙ gadd_self 0 ∙ sym (gmul-zero_r (gadd z x))
division x z (d ∷ p) =
    let zA = gmul z (horner p z) in
    let xB = gmul x (horner p x) in
    let P = gadd d xB in
    let q = horner (quotient x p) z in
    sym
    (gmul-add_r (gadd z x) P (gmul z q)
    ∙ ap₂ gadd (gmul-add_l z x P ∙ gadd_comm (gmul z P) (gmul x P)) (gmul_left_comm (gadd z x) z q ∙ ap (gmul z) (sym (division x z p)))
    ∙ gadd_assoc (gmul x P) (gmul z P) (gmul z (gadd zA xB))
    ∙ ap (gadd (gmul x P))
    (sym (gmul-add_r z P (gadd zA xB))
    ∙ ap (gmul z) (gadd_medial d xB zA xB ∙ ap (gadd (gadd d zA)) (gadd_self xB) ∙ gadd-zero_r (gadd d zA)))
    ∙ gadd_comm (gmul x P) (gmul z (gadd d zA)))

-- the factor theorem
pub factor : (x z c : ℕ) (p : List ℕ) → horner (c ∷ p) x ≡ 0 → horner (c ∷ p) z ≡ gmul (gadd z x) (horner (quotient x p) z)
unfolding horner
factor x z c p e =
    ap (λ y. gadd y (gmul z (horner p z))) (gadd-zero c (gmul x (horner p x)) e)
    ∙ gadd_comm (gmul x (horner p x)) (gmul z (horner p z)) ∙ division x z p

bytes_quotient : (x : ℕ) (p : List ℕ) → Bytes p → Bytes (quotient x p)
unfolding quotient
bytes_quotient x [] h i = h i
bytes_quotient x (d ∷ p) h zero = horner_lt (d ∷ p) x h
bytes_quotient x (d ∷ p) h (suc i) = bytes_quotient x p (λ j. h (suc j)) i

-- each other root is one of the quotient
other_root : (x z c : ℕ) (p : List ℕ) → x < 256 → z < 256 → z ≢ x → Bytes p → horner (c ∷ p) x ≡ 0 → horner (c ∷ p) z ≡ 0 → horner (quotient x p) z ≡ 0
other_root x z c p hx hz ne hp ex ez =
    gmul-zero (gadd z x) (horner (quotient x p) z) positive (gadd_lt hz hx) (horner_lt (quotient x p) z (bytes_quotient x p hp))
    (sym (factor x z c p ex) ∙ ez)
  where
    differ : gadd z x ≢ 0
    differ e = ne (gadd-zero z x e)

    positive : 0 < gadd z x
    positive = omega (arith, differ)

head_zero : (c x : ℕ) (p : List ℕ) → horner (c ∷ p) x ≡ 0 → Zero p → c ≡ 0
unfolding horner
head_zero c x p e h = gadd-zero c (gmul x (horner p x)) e ∙ ap (gmul x) (horner-zero p x h) ∙ gmul-zero_r x

of_quotient : (x : ℕ) (p : List ℕ) → Zero (quotient x p) → Zero p
unfolding quotient
of_quotient x [] h i = refl
of_quotient x (d ∷ p) h zero = head_zero d x p (h 0) (of_quotient x p (λ j. h (suc j)))
of_quotient x (d ∷ p) h (suc i) = of_quotient x p (λ j. h (suc j)) i

-- the quotient has a coefficient less
below_quotient : (x n : ℕ) (p : List ℕ) → Below n p → Below n (quotient x p)
unfolding quotient
below_quotient x n [] h i l = refl
below_quotient x n (d ∷ p) h zero l = horner-zero (d ∷ p) x (λ j. h j (omega arith))
below_quotient x n (d ∷ p) h (suc i) l = below_quotient x (n - 1) p (λ j g. h (suc j) (omega arith)) i (omega arith)

-- as many different roots as coefficients: zero
pub zero_of_roots : (m n : ℕ) (x : ℕ → ℕ) (p : List ℕ) → Points n x → Bytes p → Below m p → m ≤ count n (λ i. eqb (horner p (x i)) 0) → Zero p
zero_of_roots zero n x p d hp b l = λ i. b i (omega arith)
zero_of_roots (suc m) n x [] d hp b l = λ i. refl
zero_of_roots (suc m) n x (c ∷ p) d hp b l =
    let root : ℕ → Bool = λ i. eqb (horner (c ∷ p) (x i)) 0 in
    let r = count-member n root (omega arith) in
    let i : ℕ = r.0 in
    let hi : i < n = r.1 in
    let zi : horner (c ∷ p) (x i) ≡ 0 = eqb-true (horner (c ∷ p) (x i)) 0 r.2 in
    let others : count n (λ j. root j && not (eqb j i)) ≤ count n (λ j. eqb (horner (quotient (x i) p) (x j)) 0) =
    count_mono n (λ j. root j && not (eqb j i)) (λ j. eqb (horner (quotient (x i) p) (x j)) 0)
    (λ j hj e.
    let ne : j ≢ i = eqb-false j i (not-true (eqb j i) (and_right (root j) (not (eqb j i)) e)) in
    eq-eqb (horner (quotient (x i) p) (x j)) 0
    (other_root (x i) (x j) c p (d.element i hi) (d.element j hj) (λ s. ne (d.different j i hj hi s)) (λ j. hp (suc j)) zi
    (eqb-true (horner (c ∷ p) (x j)) 0 (and_left (root j) (not (eqb j i)) e)))) in
    let z : Zero p =
    of_quotient (x i) p
    (zero_of_roots m n x (quotient (x i) p) d (bytes_quotient (x i) p (λ j. hp (suc j))) (below_quotient (x i) m p (λ j g. b (suc j) (omega arith)))
    (omega (arith, others, count_without n root i hi r.2))) in
    whole (head_zero c (x i) p zi z) z
  where
    whole : c ≡ 0 → Zero p → Zero (c ∷ p)
    whole e z zero = e
    whole e z (suc i) = z i

-- two polynomials of n coefficients that are equal at n different points are the same
pub equal_of_values : (n : ℕ) (x : ℕ → ℕ) (p q : List ℕ) → Points n x → Bytes p → Bytes q → length p ≡ length q
    → length p ≤ count n (λ i. eqb (evaluate p (x i)) (evaluate q (x i))) → p ≡ q
equal_of_values n x p q d hp hq e l =
    equal_of_sum p q e
    (zero_of_roots (length p) n x (plus p q) d (bytes-plus p q hp hq)
    (below-plus (length p) p q (below_length p) (subst (λ m. Below m q) (sym e) (below_length q)))
    (omega (arith, count_mono n (λ i. eqb (evaluate p (x i)) (evaluate q (x i))) (λ i. eqb (horner (plus p q) (x i)) 0) root)))
  where
    root : (i : ℕ) → i < n → eqb (evaluate p (x i)) (evaluate q (x i)) ≡ true → eqb (horner (plus p q) (x i)) 0 ≡ true
    root i h s =
        eq-eqb (horner (plus p q) (x i)) 0
        (horner-plus p q (x i)
        ∙ ap₂ gadd (sym (evaluate-horner p (x i) hp) ∙ eqb-true (evaluate p (x i)) (evaluate q (x i)) s) (sym (evaluate-horner q (x i) hq))
        ∙ gadd_self (evaluate q (x i)))
