-- What the candidate is worth. The main laws: `recovers` (a polynomial of t + 1 coefficients that agrees in more than half of n + t of n
-- places is the candidate) and `unique` (there is at most one such polynomial).
use mathlib.Core.Path.{◌≡◌, refl, sym, ap, ap₂, ◌∙◌, subst}
use mathlib.Core.Bool.{Bool, true, false, cond, ◌&&◌}
use mathlib.Core.List.{List, [], ◌∷◌}
use mathlib.Core.Logic.{⊎_elim}
use Prim.Native.Nat.{ℕ, zero, suc, ◌+◌, ◌-◌, ◌*◌, ◌≤◌, ◌<◌}
use native.Mathlib.Nat.{eq-zero-or-pos}
use native.Mathlib.Omega.{arith}
use borrow.Author.Tests.{eqb-true, eq-eqb, leb-true, leb-false}
use lib.Dec.{eqb, leb, lit<}
use lib.ListN.{length, get_or}
use Rattle.gf256.specs.Field.{gadd, gmul, ginv}
use Rattle.gf256.proofs.Laws.{gadd_assoc, gadd_self, gadd-zero, gmul_assoc, gmul_lt, gmul-zero_l, gmul-zero_r, gmul_one_r, gmul-ginv, gadd-zero_r}
use Rattle.lists.specs.Fill.{tabulate}
use Rattle.lists.proofs.Fills.{length-tabulate, get_or-tabulate}
use Rattle.lists.proofs.Sums.{count_mono, count_meet}
use Rattle.lists.proofs.Tests.{and_left, and_right, lt_or_le}
use Rattle.polynomial.specs.Polynomial.{evaluate, horner, plus, product, Bytes, Zero, Below, Points}
use Rattle.polynomial.proofs.Laws.{evaluate-horner, horner-plus, horner-product, horner-zero, horner_at_zero, at_plus, at_product, past_end, bytes-plus}
use Rattle.polynomial.proofs.Laws.{bytes_product, below_more, below_length, below-plus, below-product, zero-product_r, zero_of_roots, equal_of_values}
use Rattle.interpolation.specs.Interpolation.{agreements, Ratio, wrong_by, Ratios, swapped, run, smaller, reduced, series, candidate}
use Rattle.interpolation.proofs.Invariant.{Weighs, Invariant, Units, det, holds-swapped, holds_run}

-- ---- Q - f E
rest : List ℕ → Ratio → List ℕ
rest f P = plus P.Q (product f P.E)

-- where f takes the value received and the pair is right, Q - f E has a root
rest_root : (f : List ℕ) (P : Ratio) (x y : ℕ) → wrong_by y P x ≡ 0 → horner f x ≡ y → horner (rest f P) x ≡ 0
unfolding rest wrong_by
rest_root f P x y r e =
    horner-plus P.Q (product f P.E) x
    ∙ ap (gadd (horner P.Q x)) (horner-product f P.E x ∙ ap (λ z. gmul z (horner P.E x)) e)
    ∙ r

rest_below : (t k : ℕ) (f : List ℕ) (P : Ratio) → Below (suc t) f → Weighs t k P → Below (suc k) (rest f P)
unfolding rest
rest_below t k f P hf h =
    below-plus (suc k) P.Q (product f P.E) h.weighs_Q (⊎_elim empty full (eq-zero-or-pos (suc k - t)))
  where
    empty : suc k - t ≡ 0 → Below (suc k) (product f P.E)
    empty e i l = zero-product_r f P.E (λ j. h.weighs_E j (omega arith)) i

    full : 0 < suc k - t → Below (suc k) (product f P.E)
    full l = below_more (t + (suc k - t)) (suc k) (product f P.E) (omega arith) (below-product t (suc k - t) f P.E hf h.weighs_E)

-- ---- the power series
pub at_reduced : (c : ℕ) (q e : List ℕ) (i : ℕ) → length q ≡ length e → get_or (reduced c q e) i 0 ≡ gadd (get_or q (suc i) 0) (gmul c (get_or e (suc i) 0))
unfolding reduced
at_reduced c q e i same =
    let f : ℕ → ℕ = λ i. gadd (get_or q (suc i) 0) (gmul c (get_or e (suc i) 0)) in
    ⊎_elim
    (λ (l : i < length q). get_or-tabulate f (length q) i 0 l)
    (λ (l : length q ≤ i).
    past_end (tabulate f (length q)) i (subst (λ n. n ≤ i) (sym (length-tabulate f (length q))) l)
    ∙ sym (ap₂ gadd (past_end q (suc i) (omega arith)) (ap (gmul c) (past_end e (suc i) (omega arith)) ∙ gmul-zero_r c) ∙ gadd_self 0))
    (lt_or_le i (length q))

pub length-reduced : (c : ℕ) (q e : List ℕ) → length (reduced c q e) ≡ length q
unfolding reduced
length-reduced c q e = length-tabulate (λ i. gadd (get_or q (suc i) 0) (gmul c (get_or e (suc i) 0))) (length q)

-- q + (c ∷ f) e, coefficient by coefficient
at_rest : (c : ℕ) (f q e : List ℕ) (i : ℕ) → get_or (plus q (product (c ∷ f) e)) i 0 ≡ gadd (gadd (get_or q i 0) (gmul c (get_or e i 0))) (get_or (0 ∷ product f e) i 0)
at_rest c f q e i =
    at_plus q (product (c ∷ f) e) i ∙ ap (gadd (get_or q i 0)) (at_product c f e i)
    ∙ sym (gadd_assoc (get_or q i 0) (gmul c (get_or e i 0)) (get_or (0 ∷ product f e) i 0))

series_of : (f q e : List ℕ) → length q ≡ length e → 0 < get_or e 0 0 → get_or e 0 0 < 256 → Bytes f → Zero (plus q (product f e)) → series (length f) q e ≡ f
unfolding series
series_of [] q e same pos small hf z = refl
series_of (c ∷ f) q e same pos small hf z =
    let first : gmul (get_or q 0 0) (ginv (get_or e 0 0)) ≡ c =
    ap (λ x. gmul x (ginv (get_or e 0 0)))
    (gadd-zero (get_or q 0 0) (gmul c (get_or e 0 0)) (sym (gadd-zero_r (gadd (get_or q 0 0) (gmul c (get_or e 0 0)))) ∙ sym (at_rest c f q e 0) ∙ z 0))
    ∙ gmul_assoc c (get_or e 0 0) (ginv (get_or e 0 0)) ∙ ap (gmul c) (gmul-ginv (get_or e 0 0) pos small) ∙ gmul_one_r c (hf 0) in
    let left : Zero (plus (reduced c q e) (product f e)) =
    λ i. at_plus (reduced c q e) (product f e) i
    ∙ ap (λ x. gadd x (get_or (product f e) i 0)) (at_reduced c q e i same)
    ∙ sym (at_rest c f q e (suc i)) ∙ z (suc i) in
    ap (λ x. x ∷ series (length f) (reduced x q e) e) first
    ∙ ap (λ r. c ∷ r) (series_of f (reduced c q e) e (length-reduced c q e ∙ same) pos small (λ i. hf (suc i)) left)

pub length-series : (n : ℕ) (q e : List ℕ) → length (series n q e) ≡ n
unfolding series
length-series zero q e = refl
length-series (suc n) q e = ap suc (length-series n (reduced (gmul (get_or q 0 0) (ginv (get_or e 0 0))) q e) e)

pub bytes-series : (n : ℕ) (q e : List ℕ) → Bytes (series n q e)
unfolding series
bytes-series zero q e i = lit< tt
bytes-series (suc n) q e zero = gmul_lt (get_or q 0 0) (ginv (get_or e 0 0))
bytes-series (suc n) q e (suc i) = bytes-series n (reduced (gmul (get_or q 0 0) (ginv (get_or e 0 0))) q e) e i

-- ---- the candidate
pub length-candidate : (t : ℕ) (xs ys : List ℕ) → length (candidate t xs ys) ≡ t + 1
unfolding candidate
length-candidate t xs ys = let P = smaller (run t xs ys (length xs)) in length-series (t + 1) P.Q P.E

pub bytes-candidate : (t : ℕ) (xs ys : List ℕ) → Bytes (candidate t xs ys)
unfolding candidate
bytes-candidate t xs ys = let P = smaller (run t xs ys (length xs)) in bytes-series (t + 1) P.Q P.E

module _ (t : ℕ) (xs ys f : List ℕ) (units : Units xs) (points : Points (length xs) (λ i. get_or xs i 0)) (hf : Bytes f) (lf : length f ≡ t + 1)
    (most : length xs + t < 2 * agreements xs ys f) where
  abbrev w : ℕ
  w = length xs + t + 1

  -- Q = f E for a pair whose bound is small enough
  rest_zero : (s : Ratios) → s.u ≤ s.v → Invariant w t xs ys (length xs) s → Zero (rest f s.A)
  unfolding rest agreements
  rest_zero s order h =
      zero_of_roots (suc s.u) (length xs) (λ i. get_or xs i 0) (rest f s.A) points
      (bytes-plus s.A.Q (product f s.A.E) h.bytes_A.bytes_Q (bytes_product f s.A.E))
      (rest_below t s.u f s.A (below_more (length f) (suc t) f (omega arith) (below_length f)) h.weighs_A)
      (omega (
        arith,
        h.total,
        count_mono (length xs) (λ i. eqb (evaluate f (get_or xs i 0)) (get_or ys i 0)) (λ i. eqb (horner (rest f s.A) (get_or xs i 0)) 0)
            (λ i l e. eq-eqb (horner (rest f s.A) (get_or xs i 0)) 0
            (rest_root f s.A (get_or xs i 0) (get_or ys i 0) (h.right_A i l)
            (sym (evaluate-horner f (get_or xs i 0) hf) ∙ eqb-true (evaluate f (get_or xs i 0)) (get_or ys i 0) e))),
      ))

  -- then E(0) is not 0, since the determinant isn't
  locator_pos : (A B : Ratio) → 0 < det A B → Zero (rest f A) → 0 < horner A.E 0
  unfolding rest det
  locator_pos A B h z = ⊎_elim none (λ l. l) (eq-zero-or-pos (horner A.E 0))
    where
      none : horner A.E 0 ≡ 0 → 0 < horner A.E 0
      none e =
          let q : horner A.Q 0 ≡ 0 =
          gadd-zero (horner A.Q 0) (gmul (horner f 0) (horner A.E 0))
          (ap (gadd (horner A.Q 0)) (sym (horner-product f A.E 0)) ∙ sym (horner-plus A.Q (product f A.E) 0) ∙ horner-zero (rest f A) 0 z)
          ∙ ap (gmul (horner f 0)) e ∙ gmul-zero_r (horner f 0) in
          let d : det A B ≡ 0 =
          ap₂ gadd (ap (λ z. gmul z (horner B.E 0)) q ∙ gmul-zero_l (horner B.E 0)) (ap (gmul (horner B.Q 0)) e ∙ gmul-zero_r (horner B.Q 0))
          ∙ gadd_self 0 in
          absurd (omega arith)

  of_smaller : (s : Ratios) → s.u ≤ s.v → Invariant w t xs ys (length xs) s → series (t + 1) s.A.Q s.A.E ≡ f
  unfolding rest
  of_smaller s order h =
      let z = rest_zero s order h in
      ap (λ n. series n s.A.Q s.A.E) (sym lf)
      ∙ series_of f s.A.Q s.A.E (h.whole_A.whole_Q ∙ sym h.whole_A.whole_E)
      (subst (λ n. 0 < n) (horner_at_zero s.A.E) (locator_pos s.A s.B h.apart z)) (h.bytes_A.bytes_E 0) hf z

  pub recovers : candidate t xs ys ≡ f
  unfolding candidate smaller
  recovers = by (run t xs ys (length xs)) (holds_run t xs ys units (length xs) (omega arith))
    where
      of : (s : Ratios) → Invariant w t xs ys (length xs) s → (k : Bool) → leb s.u s.v ≡ k
          → series (t + 1) (cond k s.A s.B).Q (cond k s.A s.B).E ≡ f
      of s h true e = of_smaller s (leb-true s.u s.v e) h
      of s h false e = of_smaller (swapped s) (omega (arith, leb-false s.u s.v e)) (holds-swapped w t xs ys (length xs) s h)

      by : (s : Ratios) → Invariant w t xs ys (length xs) s → series (t + 1) (smaller s).Q (smaller s).E ≡ f
      by s h = of s h (leb s.u s.v) refl

-- at most one polynomial of a length agrees in so many places
pub unique : (xs ys p q : List ℕ) → Points (length xs) (λ i. get_or xs i 0) → Bytes p → Bytes q → length p ≡ length q
    → length xs + length p ≤ agreements xs ys p + agreements xs ys q → p ≡ q
unfolding agreements
unique xs ys p q points hp hq e l =
    equal_of_values (length xs) (λ i. get_or xs i 0) p q points hp hq e
    (omega (
      arith,
      count_meet (length xs) (λ i. eqb (evaluate p (get_or xs i 0)) (get_or ys i 0)) (λ i. eqb (evaluate q (get_or xs i 0)) (get_or ys i 0)),
      count_mono (length xs) (λ i. eqb (evaluate p (get_or xs i 0)) (get_or ys i 0) && eqb (evaluate q (get_or xs i 0)) (get_or ys i 0))
          (λ i. eqb (evaluate p (get_or xs i 0)) (evaluate q (get_or xs i 0))) both,
    ))
  where
    both : (i : ℕ) → i < length xs → (eqb (evaluate p (get_or xs i 0)) (get_or ys i 0) && eqb (evaluate q (get_or xs i 0)) (get_or ys i 0)) ≡ true
        → eqb (evaluate p (get_or xs i 0)) (evaluate q (get_or xs i 0)) ≡ true
    both i h s =
        let a = eqb (evaluate p (get_or xs i 0)) (get_or ys i 0) in
        let b = eqb (evaluate q (get_or xs i 0)) (get_or ys i 0) in
        eq-eqb (evaluate p (get_or xs i 0)) (evaluate q (get_or xs i 0))
        (eqb-true (evaluate p (get_or xs i 0)) (get_or ys i 0) (and_left a b s) ∙ sym (eqb-true (evaluate q (get_or xs i 0)) (get_or ys i 0) (and_right a b s)))
