-- What the sets C, D, F and E that `star_of rows n t` answers are, with no word of the matching: bounds, neighbours, sizes, a clique's core,
-- and the words that their correct members hold.
use mathlib.Core.Path.{◌≡◌, refl, sym, ap, ◌∙◌}
use mathlib.Core.Logic.{⊎_elim}
use mathlib.Core.List.{List}
use mathlib.Core.Bool.{Bool, true, false, cond, ◌&&◌}
use Prim.Native.Nat.{ℕ, ◌+◌, ◌-◌, ◌*◌, ◌^◌, ◌≤◌, ◌<◌}
use native.Mathlib.Omega.{arith}
use borrow.Author.Tests.{leb-true, le-leb, lt-ltb, eq-eqb, eqb-true}
use lib.Dec.{eqb, leb}
use lib.Pow.{pow_pos}
use Rattle.lists.specs.Sum.{count}
use Rattle.lists.proofs.Tests.{true≢false, and_left, and_right, and_both, cond_yes, same_or_not}
use Rattle.lists.proofs.Sums.{good_part, count_none_below}
use Rattle.bitset.specs.Set.{member, size_of}
use Rattle.bitset.proofs.Laws.{set_lt, none_in_0, member_below, size_below}
use Rattle.settings.specs.Valid.{Quorum}
use Rattle.graph.specs.Neighbour.{neighbour}
use Rattle.graph.specs.Pairs.{Pair}
use Rattle.graph.proofs.Laws.{neighbour_sym, neighbour_self}
use Rattle.matching.specs.First.{matching_of}
use Rattle.matching.proofs.Laws.{matching_first}
use Rattle.star.specs.Star.{Star, set_C, set_D, set_F, set_e, sets_from, no_sets, is_large, star_from, refusal_for, star_of, found}
use Rattle.star.proofs.Parts.{c_lt, at_least_lt}
use Rattle.star.proofs.Answer.{refusal_0, 0_refusal}
use Rattle.star.proofs.Core as core
use Rattle.star.proofs.Agree as agree

-- the empty set
size_0 : size_of 0 ≡ 0
size_0 = size_below 0 0 (omega arith) (omega arith) ∙ count_none_below (member 0)

d_lt_set : (n : ℕ) (adj : ℕ → ℕ → Bool) (M : List Pair) → set_D n adj M < 2 ^ n
unfolding set_D
d_lt_set n adj M = set_lt n _

f_lt_set : (n t : ℕ) (adj : ℕ → ℕ → Bool) (M : List Pair) → set_F n t adj M < 2 ^ n
unfolding set_F
f_lt_set n t adj M = at_least_lt n adj (set_C n adj M) (t + 1)

e_lt_set : (n t : ℕ) (adj : ℕ → ℕ → Bool) (M : List Pair) → set_e n t adj M < 2 ^ n
unfolding set_e
e_lt_set n t adj M = at_least_lt n adj (set_F n t adj M) (2 * t + 1)

module _ (rows : List ℕ) (n t : ℕ) where
  abbrev S : Star
  S = sets_from n t (neighbour rows) (matching_of n (neighbour rows))

  -- what holds of large sets, where the settings are valid, and of empty ones
  by_cases : (P : Star → Type 0) → (Quorum n t → is_large n t S ≡ true → P S) → ((r : ℕ) → P (no_sets r)) → P (star_of rows n t)
  unfolding star_of star_from
  by_cases P large none = valid (eqb (refusal_for n t) 0) refl
    where
      sets : (b : Bool) → is_large n t S ≡ b → Quorum n t → P (cond b S (no_sets 0))
      sets true e q = large q e
      sets false e q = none 0

      valid : (b : Bool) → eqb (refusal_for n t) 0 ≡ b → P (cond b (cond (is_large n t S) S (no_sets 0)) (no_sets (refusal_for n t)))
      valid true e = sets (is_large n t S) refl (refusal_0 n t (eqb-true (refusal_for n t) 0 e))
      valid false e = none (refusal_for n t)

  pub star_refusal_lem : (star_of rows n t).refusal ≡ refusal_for n t
  unfolding star_of star_from sets_from no_sets
  star_refusal_lem = valid (eqb (refusal_for n t) 0) refl
    where
      sets : (b : Bool) → (cond b S (no_sets 0)).refusal ≡ 0
      sets true = refl
      sets false = refl

      valid : (b : Bool) → eqb (refusal_for n t) 0 ≡ b → (cond b (cond (is_large n t S) S (no_sets 0)) (no_sets (refusal_for n t))).refusal ≡ refusal_for n t
      valid true e = sets (is_large n t S) ∙ sym (eqb-true (refusal_for n t) 0 e)
      valid false e = refl

  -- ---- bounds
  pub c-below : (star_of rows n t).c < 2 ^ n
  unfolding sets_from no_sets
  c-below = by_cases (λ s. s.c < 2 ^ n) (λ _ _. c_lt n (neighbour rows) (matching_of n (neighbour rows))) (λ _. pow_pos n)

  pub d-below : (star_of rows n t).d < 2 ^ n
  unfolding sets_from no_sets
  d-below = by_cases (λ s. s.d < 2 ^ n) (λ _ _. d_lt_set n (neighbour rows) (matching_of n (neighbour rows))) (λ _. pow_pos n)

  pub f-below : (star_of rows n t).f < 2 ^ n
  unfolding sets_from no_sets
  f-below = by_cases (λ s. s.f < 2 ^ n) (λ _ _. f_lt_set n t (neighbour rows) (matching_of n (neighbour rows))) (λ _. pow_pos n)

  pub e-below : (star_of rows n t).e < 2 ^ n
  unfolding sets_from no_sets
  e-below = by_cases (λ s. s.e < 2 ^ n) (λ _ _. e_lt_set n t (neighbour rows) (matching_of n (neighbour rows))) (λ _. pow_pos n)

  pub c-member : (x : ℕ) → member (star_of rows n t).c x ≡ true → x < n
  c-member x h = member_below n (star_of rows n t).c x c-below h

  pub d-member : (x : ℕ) → member (star_of rows n t).d x ≡ true → x < n
  d-member x h = member_below n (star_of rows n t).d x d-below h

  pub f-member : (x : ℕ) → member (star_of rows n t).f x ≡ true → x < n
  f-member x h = member_below n (star_of rows n t).f x f-below h

  pub e-member : (x : ℕ) → member (star_of rows n t).e x ≡ true → x < n
  e-member x h = member_below n (star_of rows n t).e x e-below h

  -- ---- neighbours
  pub c_neighbours : (c d : ℕ) → member (star_of rows n t).c c ≡ true → member (star_of rows n t).d d ≡ true → neighbour rows c d ≡ true
  unfolding sets_from no_sets
  c_neighbours c d =
      by_cases (λ s. member s.c c ≡ true → member s.d d ≡ true → neighbour rows c d ≡ true)
      (λ _ _ a b. core.complete n t (neighbour rows) (neighbour_sym rows) (neighbour_self rows) (matching_of n (neighbour rows))
      (matching_first n (neighbour rows)) c d a b)
      (λ _ a. absurd (none_in_0 c a))

  pub f_neighbours : (f : ℕ) → member (star_of rows n t).f f ≡ true → t + 1 ≤ count n (λ x. member (star_of rows n t).c x && neighbour rows f x)
  unfolding sets_from no_sets set_F
  f_neighbours f =
      by_cases (λ s. member s.f f ≡ true → t + 1 ≤ count n (λ x. member s.c x && neighbour rows f x))
      (λ _ _ a. core.in_at_least n (neighbour rows) (set_C n (neighbour rows) (matching_of n (neighbour rows))) (t + 1) f a)
      (λ _ a. absurd (none_in_0 f a))

  pub e_neighbours : (e : ℕ) → member (star_of rows n t).e e ≡ true → 2 * t + 1 ≤ count n (λ x. member (star_of rows n t).f x && neighbour rows e x)
  unfolding sets_from no_sets set_e
  e_neighbours e =
      by_cases (λ s. member s.e e ≡ true → 2 * t + 1 ≤ count n (λ x. member s.f x && neighbour rows e x))
      (λ _ _ a. core.in_at_least n (neighbour rows) (set_F n t (neighbour rows) (matching_of n (neighbour rows))) (2 * t + 1) e a)
      (λ _ a. absurd (none_in_0 e a))

  -- ---- found or not
  not_none : (r : ℕ) → found (no_sets r) ≡ true → ⊥
  unfolding found no_sets
  not_none r h = true≢false (sym h)

  pub found-valid : found (star_of rows n t) ≡ true → Quorum n t
  found-valid = by_cases (λ s. found s ≡ true → Quorum n t) (λ q _ _. q) (λ r h. absurd (not_none r h))

  -- the sizes, as counts of the indices below n
  sizes : (s : Star) → Quorum n t → s.c < 2 ^ n → s.d < 2 ^ n → s.f < 2 ^ n → s.e < 2 ^ n → is_large n t s ≡ true
      → (n ≤ count n (member s.c) + 2 * t) × (n ≤ count n (member s.d) + t) × (2 * t + 1 ≤ count n (member s.f)) × (2 * t + 1 ≤ count n
      (member s.e))
  unfolding is_large
  sizes s q bc bd bf be y =
      let c = leb (n - 2 * t) (size_of s.c) in
      let d = leb (n - t) (size_of s.d) in
      let f = leb (2 * t + 1) (size_of s.f) in
      let e = leb (2 * t + 1) (size_of s.e) in
      let rest = and_right c (d && (f && e)) y in
      let last = and_right d (f && e) rest in (
        omega (arith, leb-true (n - 2 * t) (size_of s.c) (and_left c (d && (f && e)) y), size_below n s.c q.n_most bc),
        omega (arith, leb-true (n - t) (size_of s.d) (and_left d (f && e) rest), size_below n s.d q.n_most bd),
        omega (arith, leb-true (2 * t + 1) (size_of s.f) (and_left f e last), size_below n s.f q.n_most bf),
        omega (arith, leb-true (2 * t + 1) (size_of s.e) (and_right f e last), size_below n s.e q.n_most be),
      )

  four : found (star_of rows n t) ≡ true
      → (n ≤ count n (member (star_of rows n t).c) + 2 * t) × (n ≤ count n (member (star_of rows n t).d) + t) × (2 * t + 1 ≤ count n
      (member (star_of rows n t).f)) × (2 * t + 1 ≤ count n (member (star_of rows n t).e))
  unfolding sets_from
  four =
      by_cases (λ s. found s ≡ true → (n ≤ count n (member s.c) + 2 * t) × (n ≤ count n (member s.d) + t) × (2 * t + 1 ≤ count n
      (member s.f)) × (2 * t + 1 ≤ count n (member s.e)))
      (λ q y _. sizes S q (c_lt n (neighbour rows) (matching_of n (neighbour rows))) (d_lt_set n (neighbour rows) (matching_of n (neighbour rows)))
      (f_lt_set n t (neighbour rows) (matching_of n (neighbour rows)))
      (e_lt_set n t (neighbour rows) (matching_of n (neighbour rows))) y)
      (λ r h. absurd (not_none r h))

  pub c_size : found (star_of rows n t) ≡ true → n ≤ count n (member (star_of rows n t).c) + 2 * t
  c_size h = (four h).0

  pub d_size : found (star_of rows n t) ≡ true → n ≤ count n (member (star_of rows n t).d) + t
  d_size h = (four h).1

  pub f_size : found (star_of rows n t) ≡ true → 2 * t + 1 ≤ count n (member (star_of rows n t).f)
  f_size h = (four h).2

  pub e_size : found (star_of rows n t) ≡ true → 2 * t + 1 ≤ count n (member (star_of rows n t).e)
  e_size h = (four h).3

  -- a core that is large enough is not empty
  large-found : is_large n t S ≡ true → found S ≡ true
  unfolding is_large found
  large-found y =
      let c = leb (n - 2 * t) (size_of S.c) in
      let d = leb (n - t) (size_of S.d) in
      let f = leb (2 * t + 1) (size_of S.f) in
      let e = leb (2 * t + 1) (size_of S.e) in
      let l = leb-true (2 * t + 1) (size_of S.e) (and_right f e (and_right d (f && e) (and_right c (d && (f && e)) y))) in
      ⊎_elim (λ (z : S.e ≡ 0). absurd (omega (arith, ap size_of z, size_0, l))) (λ (z : S.e ≡ 0 → ⊥). lt-ltb 0 S.e (omega arith)) (same_or_not S.e 0)

  pub not_found : found (star_of rows n t) ≡ false → star_of rows n t ≡ no_sets (refusal_for n t)
  unfolding star_of star_from
  not_found = valid (eqb (refusal_for n t) 0) refl
    where
      sets : (b : Bool) → is_large n t S ≡ b → found (cond b S (no_sets 0)) ≡ false → cond b S (no_sets 0) ≡ no_sets 0
      sets true e h = absurd (true≢false (sym (large-found e) ∙ h))
      sets false e h = refl

      valid : (b : Bool) → eqb (refusal_for n t) 0 ≡ b → found (cond b (cond (is_large n t S) S (no_sets 0)) (no_sets (refusal_for n t))) ≡ false
          → cond b (cond (is_large n t S) S (no_sets 0)) (no_sets (refusal_for n t)) ≡ no_sets (refusal_for n t)
      valid true e h = sets (is_large n t S) refl h ∙ ap no_sets (sym (eqb-true (refusal_for n t) 0 e))
      valid false e h = refl

  pub has_found : (x : ℕ) → member (star_of rows n t).e x ≡ true → found (star_of rows n t) ≡ true
  unfolding no_sets
  has_found x = by_cases (λ s. member s.e x ≡ true → found s ≡ true) (λ _ y _. large-found y) (λ r h. absurd (none_in_0 x h))

  -- ---- a clique of at least n - t
  module _ (q : Quorum n t) (H : ℕ → Bool) (clique : (x y : ℕ) → x < n → y < n → H x ≡ true → H y ≡ true → neighbour rows x y ≡ true)
      (many : n ≤ count n H + t) where
    abbrev adj : ℕ → ℕ → Bool
    adj = neighbour rows

    abbrev M : List Pair
    M = matching_of n adj

    large : is_large n t S ≡ true
    unfolding is_large sets_from
    large =
        let C = set_C n adj M in
        let D = set_D n adj M in
        let F = set_F n t adj M in
        let E = set_e n t adj M in
        let big = matching_first n adj in
        and_both (leb (n - 2 * t) (size_of C)) _
        (le-leb (n - 2 * t) (size_of C) (omega
        (arith, core.C_large n t adj (neighbour_sym rows) (neighbour_self rows) M big H clique many, size_below n C q.n_most (c_lt n adj M))))
        (and_both (leb (n - t) (size_of D)) _
        (le-leb (n - t) (size_of D) (omega
        (arith, core.D_large n t adj (neighbour_sym rows) (neighbour_self rows) M big H clique many, size_below n D q.n_most (d_lt_set n adj M))))
        (and_both (leb (2 * t + 1) (size_of F)) _
        (le-leb (2 * t + 1) (size_of F) (omega (
          arith,
          core.F_large n t adj (neighbour_sym rows) (neighbour_self rows) M big H clique many q.t_most,
          size_below n F q.n_most
              (f_lt_set n t adj M),
        )))
        (le-leb (2 * t + 1) (size_of E) (omega (
          arith,
          core.E_large n t adj (neighbour_sym rows) (neighbour_self rows) M big H clique many q.t_most,
          size_below n E q.n_most
              (e_lt_set n t adj M),
        )))))

    is_S : star_of rows n t ≡ S
    unfolding star_of star_from
    is_S =
        cond_yes (eqb (refusal_for n t) 0) (star_from n t adj) (no_sets (refusal_for n t)) (eq-eqb (refusal_for n t) 0 (0_refusal n t q))
        ∙ cond_yes (is_large n t S) S (no_sets 0) large

    pub clique_found : found (star_of rows n t) ≡ true
    clique_found = ap found is_S ∙ large-found large

    pub clique_core : (x : ℕ) → x < n → H x ≡ true → member (star_of rows n t).e x ≡ true
    unfolding sets_from
    clique_core x l h =
        ap (λ (s : Star). member s.e x) is_S ∙ core.clique_in_E n t adj (neighbour_sym rows) (neighbour_self rows) M (matching_first n adj) H clique many
        q.t_most x l h

    pub clique_f : (x : ℕ) → x < n → H x ≡ true → member (star_of rows n t).f x ≡ true
    unfolding sets_from
    clique_f x l h =
        ap (λ (s : Star). member s.f x) is_S ∙ core.clique_in_F n t adj (neighbour_sym rows) (neighbour_self rows) M (matching_first n adj) H clique many
        q.t_most x l h

  -- ---- the correct, of whom at most t of the n are lacking
  module _ (correct : ℕ → Bool) (most : n ≤ count n correct + t) where
    pub core_correct : found (star_of rows n t) ≡ true → t + 1 ≤ count n (λ x. member (star_of rows n t).e x && correct x)
    core_correct h = omega (arith, e_size h, good_part n t correct most (member (star_of rows n t).e))

    -- a word for each; two correct ones that agree in t + 1 places are the same, and correct neighbours agree at each other's place
    module _ (W : Type 0) (word : ℕ → ℕ → W)
        (code : (i j : ℕ) → i < n → j < n → correct i ≡ true → correct j ≡ true → (p : ℕ → Bool) → t + 1 ≤ count n p
        → ((x : ℕ) → x < n → p x ≡ true → word i x ≡ word j x) → (x : ℕ) → x < n → word i x ≡ word j x)
        (near : (i j : ℕ) → i < n → j < n → correct i ≡ true → correct j ≡ true → neighbour rows i j ≡ true → word i j ≡ word j j) where
      -- a word that the three sets share
      Shared : Type 0
      Shared =
          (h : ℕ)
          × ((c : ℕ) → member (star_of rows n t).c c ≡ true → correct c ≡ true → (x : ℕ) → x < n → word c x ≡ word h x)
          × ((f : ℕ) → member (star_of rows n t).f f ≡ true → correct f ≡ true → word f f ≡ word h f)
          × ((e : ℕ) → member (star_of rows n t).e e ≡ true → correct e ≡ true → (x : ℕ) → x < n → word e x ≡ word h x)

      shared : found (star_of rows n t) ≡ true → Shared
      unfolding Shared
      shared y =
          let bound = (found-valid y).t_most in
          let s = star_of rows n t in (
            agree.h n t s.c s.d s.f s.e (neighbour rows) (neighbour_sym rows) bound (c_size y)
                (d_size y) c_neighbours f_neighbours e_neighbours correct most W word code near,
            (λ c hc g. agree.C_word n t s.c s.d s.f s.e (neighbour rows) (neighbour_sym rows) bound (c_size y)
                (d_size y) c_neighbours f_neighbours e_neighbours correct most W word code near c (c-member c hc) hc g),
            (λ f hf g. agree.F_own n t s.c s.d s.f s.e (neighbour rows) (neighbour_sym rows) bound (c_size y)
                (d_size y) c_neighbours f_neighbours e_neighbours correct most W word code near f (f-member f hf) hf g),
            λ e he g. agree.E_word n t s.c s.d s.f s.e (neighbour rows) (neighbour_sym rows) bound (c_size y)
                (d_size y) c_neighbours f_neighbours e_neighbours correct most W word code near e (e-member e he) he g,
          )

      pub one_word : (a b : ℕ) → member (star_of rows n t).e a ≡ true → member (star_of rows n t).e b ≡ true → correct a ≡ true → correct b ≡ true
          → (x : ℕ) → x < n → word a x ≡ word b x
      unfolding Shared
      one_word a b ha hb ga gb x l = let s = shared (has_found a ha) in s.3 a ha ga x l ∙ sym (s.3 b hb gb x l)

      pub own_place : (f e : ℕ) → member (star_of rows n t).f f ≡ true → member (star_of rows n t).e e ≡ true → correct f ≡ true → correct e ≡ true
          → word f f ≡ word e f
      unfolding Shared
      own_place f e hf he gf ge = let s = shared (has_found e he) in s.2 f hf gf ∙ sym (s.3 e he ge f (f-member f hf))

      pub c_word : (c e : ℕ) → member (star_of rows n t).c c ≡ true → member (star_of rows n t).e e ≡ true → correct c ≡ true → correct e ≡ true
          → (x : ℕ) → x < n → word c x ≡ word e x
      unfolding Shared
      c_word c e hc he gc ge x l = let s = shared (has_found e he) in s.1 c hc gc x l ∙ sym (s.3 e he ge x l)

-- ---- not found
-- the four sets are empty
pub no_sets_lem : (r : ℕ) → ((no_sets r).c ≡ 0) × ((no_sets r).d ≡ 0) × ((no_sets r).f ≡ 0) × ((no_sets r).e ≡ 0)
unfolding no_sets
no_sets_lem r = (refl, refl, refl, refl)

pub no_sets_number : (r : ℕ) → (no_sets r).refusal ≡ r
unfolding no_sets
no_sets_number r = refl
