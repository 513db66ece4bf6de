-- What a step keeps: both pairs are right at the points done, their weighted degrees stay within the bounds, and their determinant at 0 is not
-- 0. The main law: `holds_run`.
use mathlib.Core.Path.{◌≡◌, refl, sym, ap, ap₂, ◌∙◌, subst}
use mathlib.Core.Bool.{Bool, true, false, cond}
use mathlib.Core.List.{List}
use mathlib.Core.Logic.{⊎_elim}
use Prim.Native.Nat.{ℕ, zero, suc, ◌+◌, ◌-◌, ◌≤◌, ◌<◌}
use native.Mathlib.Nat.{eq-zero-or-pos}
use native.Mathlib.Omega.{arith}
use borrow.Author.Tests.{eqb-true, eqb-false, leb-true, leb-false}
use lib.Dec.{eqb, leb, lit<}
use lib.ListN.{length, get_or, replicate, length-replicate}
use Rattle.gf256.specs.Field.{gadd, gmul}
use Rattle.gf256.proofs.Laws.{gadd_comm, gadd-zero_l, gadd-zero_r, gadd_self, gadd_medial, gadd_lt, gmul_comm, gmul_assoc, gmul_left_comm, gmul-add_l}
use Rattle.gf256.proofs.Laws.{gmul-add_r, gmul_lt, gmul-zero_l, gmul-zero_r, gmul_one_r, gmul_pos}
use Rattle.lists.proofs.Sums.{below_suc}
use Rattle.polynomial.specs.Polynomial.{horner, plus, scale, times_root, Bytes, Zero, Below}
use Rattle.polynomial.proofs.Laws.{horner-plus, horner-scale, horner_root, horner_at_zero, horner_lt, bytes-plus, bytes-scale, bytes_root, length-plus}
use Rattle.polynomial.proofs.Laws.{length-scale, length_root, below_more, below-plus, below-scale, below_root, zero_root}
use Rattle.interpolation.specs.Interpolation.{Ratio, ratio, wrong_by, combine, with_root, Ratios, ratios, swapped, constant, start, advance, next, run}

-- ---- the discrepancy is linear in the pair
wrong-combine : (y a b x : ℕ) (A B : Ratio) → wrong_by y (combine a B b A) x ≡ gadd (gmul a (wrong_by y B x)) (gmul b (wrong_by y A x))
unfolding wrong_by combine
wrong-combine y a b x A B =
    let q = horner A.Q x in
    let e = horner A.E x in
    let q' = horner B.Q x in
    let e' = horner B.E x in
    ap₂ gadd
    (horner-plus (scale a B.Q) (scale b A.Q) x ∙ ap₂ gadd (horner-scale a B.Q x) (horner-scale b A.Q x))
    (ap (gmul y) (horner-plus (scale a B.E) (scale b A.E) x ∙ ap₂ gadd (horner-scale a B.E x) (horner-scale b A.E x))
    ∙ gmul-add_r y (gmul a e') (gmul b e)
    ∙ ap₂ gadd (gmul_left_comm y a e') (gmul_left_comm y b e))
    ∙ gadd_medial (gmul a q') (gmul b q) (gmul a (gmul y e')) (gmul b (gmul y e))
    ∙ ap₂ gadd (sym (gmul-add_r a q' (gmul y e'))) (sym (gmul-add_r b q (gmul y e)))

-- ---- weighted degree at most k
pub record Weighs (t k : ℕ) (P : Ratio) : Type 0 where
  pub weighs_Q : Below (suc k) P.Q
  pub weighs_E : Below (suc k - t) P.E

-- w coefficients
pub record Whole (w : ℕ) (P : Ratio) : Type 0 where
  pub whole_Q : length P.Q ≡ w
  pub whole_E : length P.E ≡ w

-- a pair with room for one more degree
record Room (w t k : ℕ) (P : Ratio) : Type 0 where
  pub whole : Whole w P
  pub weighs : Weighs t k P
  pub room : suc k < w

root_Q : (w t k r z : ℕ) (A : Ratio) → Room w t k A → horner (times_root r A.Q) z ≡ gmul (gadd z r) (horner A.Q z)
root_Q w t k r z A m = horner_root r (suc k) A.Q z (omega (arith, m.whole.whole_Q, m.room)) m.weighs.weighs_Q

root_E : (w t k r z : ℕ) (A : Ratio) → Room w t k A → horner (times_root r A.E) z ≡ gmul (gadd z r) (horner A.E z)
root_E w t k r z A m = horner_root r (suc k - t) A.E z (omega (arith, m.whole.whole_E, m.room)) m.weighs.weighs_E

wrong_root : (w t k y r x : ℕ) (A : Ratio) → Room w t k A → wrong_by y (with_root r A) x ≡ gmul (gadd x r) (wrong_by y A x)
unfolding wrong_by with_root
wrong_root w t k y r x A m =
    ap₂ gadd (root_Q w t k r x A m) (ap (gmul y) (root_E w t k r x A m) ∙ gmul_left_comm y (gadd x r) (horner A.E x))
    ∙ sym (gmul-add_r (gadd x r) (horner A.Q x) (gmul y (horner A.E x)))

wrong_at_root : (w t k y x : ℕ) (A : Ratio) → Room w t k A → wrong_by y (with_root x A) x ≡ 0
wrong_at_root w t k y x A m = wrong_root w t k y x x A m ∙ ap (λ z. gmul z (wrong_by y A x)) (gadd_self x) ∙ gmul-zero_l (wrong_by y A x)

weighs_more : (t k k' : ℕ) (P : Ratio) → k ≤ k' → Weighs t k P → Weighs t k' P
weighs_more t k k' P l h = record {
  weighs_Q = below_more (suc k) (suc k') P.Q (omega arith) h.weighs_Q;
  weighs_E = below_more (suc k - t) (suc k' - t) P.E (omega arith) h.weighs_E;
}

weighs_combine : (t k a b : ℕ) (A B : Ratio) → Weighs t k A → Weighs t k B → Weighs t k (combine a B b A)
unfolding combine
weighs_combine t k a b A B hA hB = record {
  weighs_Q = below-plus (suc k) (scale a B.Q) (scale b A.Q) (below-scale a (suc k) B.Q hB.weighs_Q) (below-scale b (suc k) A.Q hA.weighs_Q);
  weighs_E = below-plus (suc k - t) (scale a B.E) (scale b A.E) (below-scale a (suc k - t) B.E hB.weighs_E)
      (below-scale b (suc k - t) A.E hA.weighs_E);
}

weighs_root : (t k x : ℕ) (A : Ratio) → Weighs t k A → Weighs t (k + 1) (with_root x A)
unfolding with_root
weighs_root t k x A h = record {
  weighs_Q = below_more (suc (suc k)) (suc (k + 1)) (times_root x A.Q) (omega arith) (below_root x (suc k) A.Q h.weighs_Q);
  weighs_E = ⊎_elim empty longer (eq-zero-or-pos (suc k - t));
}
  where
    empty : suc k - t ≡ 0 → Below (suc (k + 1) - t) (times_root x A.E)
    empty e i l = zero_root x A.E (λ j. h.weighs_E j (omega arith)) i

    longer : 0 < suc k - t → Below (suc (k + 1) - t) (times_root x A.E)
    longer l = below_more (suc (suc k - t)) (suc (k + 1) - t) (times_root x A.E) (omega arith) (below_root x (suc k - t) A.E h.weighs_E)

-- ---- the determinant at 0, which is no point: while it is not 0, neither pair is 0
unfoldable pub det : Ratio → Ratio → ℕ
det A B = gadd (gmul (horner A.Q 0) (horner B.E 0)) (gmul (horner B.Q 0) (horner A.E 0))

det_sym : (A B : Ratio) → det A B ≡ det B A
unfolding det
det_sym A B = gadd_comm (gmul (horner A.Q 0) (horner B.E 0)) (gmul (horner B.Q 0) (horner A.E 0))

det_lt : (A B : Ratio) → det A B < 256
unfolding det
det_lt A B = gadd_lt (gmul_lt (horner A.Q 0) (horner B.E 0)) (gmul_lt (horner B.Q 0) (horner A.E 0))

det_root : (w t k x : ℕ) (A B : Ratio) → Room w t k A → det (with_root x A) B ≡ gmul x (det A B)
unfolding det with_root
det_root w t k x A B m =
    let q = horner A.Q 0 in
    let e = horner A.E 0 in
    let q' = horner B.Q 0 in
    let e' = horner B.E 0 in
    ap₂ gadd
    (ap (λ z. gmul z e') (root_Q w t k x 0 A m ∙ ap (λ z. gmul z q) (gadd-zero_l x)) ∙ gmul_assoc x q e')
    (ap (gmul q') (root_E w t k x 0 A m ∙ ap (λ z. gmul z e) (gadd-zero_l x)) ∙ gmul_left_comm q' x e)
    ∙ sym (gmul-add_r x (gmul q e') (gmul q' e))

det_combine : (a b : ℕ) (A B : Ratio) → det A (combine a B b A) ≡ gmul a (det A B)
unfolding det combine
det_combine a b A B =
    let q = horner A.Q 0 in
    let e = horner A.E 0 in
    let q' = horner B.Q 0 in
    let e' = horner B.E 0 in
    ap₂ gadd
    (ap (gmul q) (horner-plus (scale a B.E) (scale b A.E) 0 ∙ ap₂ gadd (horner-scale a B.E 0) (horner-scale b A.E 0))
    ∙ gmul-add_r q (gmul a e') (gmul b e)
    ∙ ap₂ gadd (gmul_left_comm q a e') (gmul_left_comm q b e))
    (ap (λ z. gmul z e) (horner-plus (scale a B.Q) (scale b A.Q) 0 ∙ ap₂ gadd (horner-scale a B.Q 0) (horner-scale b A.Q 0))
    ∙ gmul-add_l (gmul a q') (gmul b q) e
    ∙ ap₂ gadd (gmul_assoc a q' e) (gmul_assoc b q e))
    ∙ gadd_medial (gmul a (gmul q e')) (gmul b (gmul q e)) (gmul a (gmul q' e)) (gmul b (gmul q e))
    ∙ ap₂ gadd (sym (gmul-add_r a (gmul q e') (gmul q' e))) (gadd_self (gmul b (gmul q e)))
    ∙ gadd-zero_r (gmul a (gadd (gmul q e') (gmul q' e)))

-- ---- bytes and lengths
pub record BytesOf (P : Ratio) : Type 0 where
  pub bytes_Q : Bytes P.Q
  pub bytes_E : Bytes P.E

bytes_of_root : (x : ℕ) (A : Ratio) → BytesOf A → BytesOf (with_root x A)
unfolding with_root
bytes_of_root x A h = record { bytes_Q = bytes_root x A.Q h.bytes_Q; bytes_E = bytes_root x A.E h.bytes_E }

bytes_of-combine : (a b : ℕ) (A B : Ratio) → BytesOf (combine a B b A)
unfolding combine
bytes_of-combine a b A B = record {
  bytes_Q = bytes-plus (scale a B.Q) (scale b A.Q) (bytes-scale a B.Q) (bytes-scale b A.Q);
  bytes_E = bytes-plus (scale a B.E) (scale b A.E) (bytes-scale a B.E) (bytes-scale b A.E);
}

wrong_lt : (y : ℕ) (P : Ratio) (x : ℕ) → BytesOf P → wrong_by y P x < 256
unfolding wrong_by
wrong_lt y P x h = gadd_lt (horner_lt P.Q x h.bytes_Q) (gmul_lt y (horner P.E x))

whole_root : (w x : ℕ) (A : Ratio) → Whole w A → Whole w (with_root x A)
unfolding with_root
whole_root w x A h = record { whole_Q = length_root x A.Q ∙ h.whole_Q; whole_E = length_root x A.E ∙ h.whole_E }

whole_sum : (w a b : ℕ) (p q : List ℕ) → length p ≡ w → length q ≡ w → length (plus (scale a p) (scale b q)) ≡ w
whole_sum w a b p q hp hq = length-plus (scale a p) (scale b q) (length-scale a p ∙ hp ∙ sym (length-scale b q ∙ hq)) ∙ length-scale a p ∙ hp

whole_combine : (w a b : ℕ) (A B : Ratio) → Whole w A → Whole w B → Whole w (combine a B b A)
unfolding combine
whole_combine w a b A B hA hB = record {
  whole_Q = whole_sum w a b B.Q A.Q hB.whole_Q hA.whole_Q;
  whole_E = whole_sum w a b B.E A.E hB.whole_E hA.whole_E;
}

-- ---- the invariant, where the first n points are done
abbrev Right : List ℕ → List ℕ → Ratio → ℕ → Type 0
Right xs ys P n = (i : ℕ) → i < n → wrong_by (get_or ys i 0) P (get_or xs i 0) ≡ 0

pub record Invariant (w t : ℕ) (xs ys : List ℕ) (n : ℕ) (s : Ratios) : Type 0 where
  pub right_A : Right xs ys s.A n
  pub right_B : Right xs ys s.B n
  pub weighs_A : Weighs t s.u s.A
  pub weighs_B : Weighs t s.v s.B
  pub total : s.u + s.v ≡ n + t
  pub apart : 0 < det s.A s.B
  pub bytes_A : BytesOf s.A
  pub bytes_B : BytesOf s.B
  pub whole_A : Whole w s.A
  pub whole_B : Whole w s.B

module _ (w t : ℕ) (xs ys : List ℕ) where
  pub holds-swapped : (n : ℕ) (s : Ratios) → Invariant w t xs ys n s → Invariant w t xs ys n (swapped s)
  holds-swapped n s h = record {
    right_A = h.right_B;
    right_B = h.right_A;
    weighs_A = h.weighs_B;
    weighs_B = h.weighs_A;
    total = omega arith;
    apart = subst (λ n. 0 < n) (det_sym s.A s.B) h.apart;
    bytes_A = h.bytes_B;
    bytes_B = h.bytes_A;
    whole_A = h.whole_B;
    whole_B = h.whole_A;
  }

  -- right at one point more
  right_more : (P : Ratio) (n : ℕ) → Right xs ys P n → wrong_by (get_or ys n 0) P (get_or xs n 0) ≡ 0 → Right xs ys P (suc n)
  right_more P n h e i l = ⊎_elim (λ (q : i ≡ n). subst (λ j. wrong_by (get_or ys j 0) P (get_or xs j 0) ≡ 0) (sym q) e) (λ (m : i < n). h i m) (below_suc l)

  right_root : (k r : ℕ) (A : Ratio) (n : ℕ) → Room w t k A → Right xs ys A n → Right xs ys (with_root r A) n
  right_root k r A n m h i l =
      let x = get_or xs i 0 in
      wrong_root w t k (get_or ys i 0) r x A m ∙ ap (gmul (gadd x r)) (h i l) ∙ gmul-zero_r (gadd x r)

  right_combine : (a b : ℕ) (A B : Ratio) (n : ℕ) → Right xs ys A n → Right xs ys B n → Right xs ys (combine a B b A) n
  right_combine a b A B n ha hb i l =
      wrong-combine (get_or ys i 0) a b (get_or xs i 0) A B
      ∙ ap₂ gadd (ap (gmul a) (hb i l) ∙ gmul-zero_r a) (ap (gmul b) (ha i l) ∙ gmul-zero_r b)
      ∙ gadd_self 0

  module _ (n : ℕ) (s : Ratios) (pos : 0 < get_or xs n 0) (small : get_or xs n 0 < 256) (order : s.u ≤ s.v) (fits : suc (n + t) < w)
      (h : Invariant w t xs ys n s) where
    abbrev x : ℕ
    x = get_or xs n 0

    abbrev y : ℕ
    y = get_or ys n 0

    abbrev a : ℕ
    a = wrong_by y s.A x

    abbrev b : ℕ
    b = wrong_by y s.B x

    stays : a ≡ 0 → Invariant w t xs ys (suc n) (ratios s.A s.u (with_root x s.B) (s.v + 1))
    stays e =
        let m : Room w t s.v s.B = record { whole = h.whole_B; weighs = h.weighs_B; room = omega (arith, h.total) } in
        record {
          right_A = right_more s.A n h.right_A e;
          right_B = right_more (with_root x s.B) n (right_root s.v x s.B n m h.right_B) (wrong_at_root w t s.v y x s.B m);
          weighs_A = h.weighs_A;
          weighs_B = weighs_root t s.v x s.B h.weighs_B;
          total = omega (arith, h.total);
          apart =
              subst (λ n. 0 < n)
              (ap (gmul x) (det_sym s.A s.B) ∙ sym (det_root w t s.v x s.B s.A m) ∙ det_sym (with_root x s.B) s.A)
              (gmul_pos x (det s.A s.B) pos small h.apart (det_lt s.A s.B));
          bytes_A = h.bytes_A;
          bytes_B = bytes_of_root x s.B h.bytes_B;
          whole_A = h.whole_A;
          whole_B = whole_root w x s.B h.whole_B;
        }

    moves : (a ≡ 0 → ⊥) → Invariant w t xs ys (suc n) (ratios (with_root x s.A) (s.u + 1) (combine a s.B b s.A) s.v)
    moves ne =
        let m : Room w t s.u s.A = record { whole = h.whole_A; weighs = h.weighs_A; room = omega (arith, h.total) } in
        record {
          right_A = right_more (with_root x s.A) n (right_root s.u x s.A n m h.right_A) (wrong_at_root w t s.u y x s.A m);
          right_B =
              right_more (combine a s.B b s.A) n (right_combine a b s.A s.B n h.right_A h.right_B)
              (wrong-combine y a b x s.A s.B ∙ ap (gadd (gmul a b)) (gmul_comm b a) ∙ gadd_self (gmul a b));
          weighs_A = weighs_root t s.u x s.A h.weighs_A;
          weighs_B = weighs_combine t s.v a b s.A s.B (weighs_more t s.u s.v s.A order h.weighs_A) h.weighs_B;
          total = omega (arith, h.total);
          apart =
              subst (λ n. 0 < n)
              (ap (gmul x) (sym (det_combine a b s.A s.B)) ∙ sym (det_root w t s.u x s.A (combine a s.B b s.A) m))
              (gmul_pos x (gmul a (det s.A s.B)) pos small
              (gmul_pos a (det s.A s.B) (omega (arith, ne)) (wrong_lt y s.A x h.bytes_A) h.apart (det_lt s.A s.B))
              (gmul_lt a (det s.A s.B)));
          bytes_A = bytes_of_root x s.A h.bytes_A;
          bytes_B = bytes_of-combine a b s.A s.B;
          whole_A = whole_root w x s.A h.whole_A;
          whole_B = whole_combine w a b s.A s.B h.whole_A h.whole_B;
        }

    pub holds-advance : Invariant w t xs ys (suc n) (advance x y s)
    unfolding advance
    holds-advance = by (eqb a 0) refl
      where
        by : (k : Bool) → eqb a 0 ≡ k
            → Invariant w t xs ys (suc n) (cond k (ratios s.A s.u (with_root x s.B) (s.v + 1))
            (ratios (with_root x s.A) (s.u + 1) (combine a s.B b s.A) s.v))
        by true e = stays (eqb-true a 0 e)
        by false e = moves (eqb-false a 0 e)

-- ---- the start
constant_at_zero : (w c : ℕ) → horner (constant w c) 0 ≡ c
constant_at_zero w c = horner_at_zero (constant w c)

det_start : (w : ℕ) → det (ratio (constant w 1) (constant w 0)) (ratio (constant w 0) (constant w 1)) ≡ 1
unfolding det
det_start w =
    ap₂ gadd
    (ap₂ gmul (constant_at_zero w 1) (constant_at_zero w 1) ∙ gmul_one_r 1 (lit< tt))
    (ap₂ gmul (constant_at_zero w 0) (constant_at_zero w 0) ∙ gmul-zero_l 0)
    ∙ gadd-zero_r 1

zeros : (n i : ℕ) → ◌≡◌ {A = ℕ} (get_or (replicate n 0) i 0) 0
zeros zero i = refl
zeros (suc n) zero = refl
zeros (suc n) (suc i) = zeros n i

below-constant : (w c : ℕ) → Below 1 (constant w c)
below-constant w c zero l = absurd (omega arith)
below-constant w c (suc i) l = zeros (w - 1) i

zero-constant : (w : ℕ) → Zero (constant w 0)
zero-constant w zero = refl
zero-constant w (suc i) = zeros (w - 1) i

bytes-constant : (w c : ℕ) → c < 256 → Bytes (constant w c)
bytes-constant w c h zero = h
bytes-constant w c h (suc i) = rw (zeros (w - 1) i) (lit< tt)

whole_constant : (w c : ℕ) → 0 < w → length (constant w c) ≡ w
whole_constant w c h = omega (arith, length-replicate {A = ℕ} (w - 1) 0)

holds_start : (w t : ℕ) (xs ys : List ℕ) → 0 < w → Invariant w t xs ys 0 (start w t)
unfolding start
holds_start w t xs ys h = record {
  right_A = λ i l. absurd (omega arith);
  right_B = λ i l. absurd (omega arith);
  weighs_A = record { weighs_Q = below-constant w 1; weighs_E = λ i l. zero-constant w i };
  weighs_B = record { weighs_Q = λ i l. zero-constant w i; weighs_E = λ i l. below-constant w 1 i (omega arith) };
  total = omega arith;
  apart = subst (λ n. 0 < n) (sym (det_start w)) (lit< tt);
  bytes_A = record { bytes_Q = bytes-constant w 1 (lit< tt); bytes_E = bytes-constant w 0 (lit< tt) };
  bytes_B = record { bytes_Q = bytes-constant w 0 (lit< tt); bytes_E = bytes-constant w 1 (lit< tt) };
  whole_A = record { whole_Q = whole_constant w 1 h; whole_E = whole_constant w 0 h };
  whole_B = record { whole_Q = whole_constant w 0 h; whole_E = whole_constant w 1 h };
}

-- ---- the run
pub record Units (xs : List ℕ) : Type 0 where
  pub positive : (i : ℕ) → i < length xs → 0 < get_or xs i 0
  pub small : (i : ℕ) → i < length xs → get_or xs i 0 < 256

module _ (t : ℕ) (xs ys : List ℕ) (units : Units xs) where
  abbrev w : ℕ
  w = length xs + t + 1

  holds_next : (n : ℕ) (s : Ratios) → n < length xs → Invariant w t xs ys n s → Invariant w t xs ys (suc n) (next (get_or xs n 0) (get_or ys n 0) s)
  unfolding next
  holds_next n s l h = by (leb s.u s.v) refl
    where
      by : (k : Bool) → leb s.u s.v ≡ k
          → Invariant w t xs ys (suc n) (cond k (advance (get_or xs n 0) (get_or ys n 0) s) (swapped (advance (get_or xs n 0) (get_or ys n 0) (swapped s))))
      by true e = holds-advance w t xs ys n s (units.positive n l) (units.small n l) (leb-true s.u s.v e) (omega arith) h
      by false e =
          holds-swapped w t xs ys (suc n) (advance (get_or xs n 0) (get_or ys n 0) (swapped s))
          (holds-advance w t xs ys n (swapped s) (units.positive n l) (units.small n l) (omega (arith, leb-false s.u s.v e)) (omega arith)
          (holds-swapped w t xs ys n s h))

  pub holds_run : (n : ℕ) → n ≤ length xs → Invariant w t xs ys n (run t xs ys n)
  unfolding run
  holds_run zero l = holds_start w t xs ys (omega arith)
  holds_run (suc n) l = holds_next n (run t xs ys n) (omega arith) (holds_run n (omega arith))
