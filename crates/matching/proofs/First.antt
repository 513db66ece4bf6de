-- The function `matching_of` meets the relation `FirstLargest`: `matching_first`.
use mathlib.Core.Path.{◌≡◌, refl, sym, ap, subst, ◌∙◌}
use mathlib.Core.Logic.{⊎_elim}
use mathlib.Core.List.{List}
use mathlib.Core.Bool.{Bool, true, false, cond, not, ◌&&◌}
use mathlib.Core.Option.{Option, none, some}
use Prim.Native.Nat.{ℕ, zero, suc, ◌+◌, ◌≤◌, ◌<◌}
use native.Mathlib.Omega.{arith}
use borrow.Author.Tests.{eqb-false, ne_eqb, not-true}
use lib.Dec.{eqb}
use Rattle.lists.specs.Options.{or_else, front}
use Rattle.lists.proofs.Tests.{true≢false, and_left, and_right, and_both}
use Rattle.lists.proofs.Sums.{below_suc}
use Rattle.graph.specs.Pairs.{Pair}
use Rattle.matching.specs.Matching.{FirstLargest, Missing}
use Rattle.matching.specs.First.{first_found, of_size, or_list, up_to, matching_of, MatchingFirst}
use Rattle.matching.specs.Steps.{Joined, AtMost, NoneOfSize, FirstOfSize}
use Rattle.matching.proofs.Sizes.{Minus, same_first, same_none, fewer, matching_half, first_zero, none_empty, joined-map, step_found, step_drop}
use Rattle.matching.proofs.Sizes.{step_none}

-- the answer is right for pairs that pass P
abbrev Right : (Pair → Type 0) → ℕ → Option (List Pair) → Type 0
Right P k none = NoneOfSize P k
Right P k (some M) = FirstOfSize P k M

right_same : (P Q : Pair → Type 0) → ((p : Pair) → P p → Q p) → ((p : Pair) → Q p → P p) → (k : ℕ) (r : Option (List Pair)) → Right P k r → Right Q k r
right_same P Q to from k none h = same_none P Q to from k h
right_same P Q to from k (some M) h = same_first P Q to from k M h

-- who is left
abbrev Free : ℕ → ℕ → (ℕ → Bool) → ℕ → Type 0
Free u v free x = (v ≤ x) × (x < v + u) × (free x ≡ true)

module _ (adj : ℕ → ℕ → Bool) where
  abbrev Apart : ℕ → ℕ → Type 0
  Apart a b = adj a b ≡ false

  module _ (u v k : ℕ) (free : ℕ → Bool)
      (less : (f : ℕ → Bool) → Right (Joined Apart (Free u (suc v) f)) k (of_size adj u (suc v) f k)) where
    abbrev S : ℕ → Type 0
    S = Free (suc u) v free

    -- no partner of v below w leaves k pairs among the others
    abbrev Tried : ℕ → Type 0
    Tried w = (x : ℕ) → x < w → v < x → S v → S x → Apart v x → NoneOfSize (Joined Apart (Minus (Minus S v) x)) k

    abbrev Partly : ℕ → Option (List Pair) → Type 0
    Partly w none = Tried w
    Partly w (some M) = FirstOfSize (Joined Apart S) (suc k) M

    abbrev take : ℕ → ℕ → Bool
    take w x = free x && not (eqb x w)

    abbrev may : ℕ → Bool
    may w = free v && (free w && not (adj v w))

    -- who is left without v and w
    to : (w x : ℕ) → Free u (suc v) (take w) x → Minus (Minus S v) w x
    to w x a = (
      ((omega (arith, a.0), omega (arith, a.1), and_left (free x) (not (eqb x w)) a.2), λ e. omega (arith, a.0)),
      eqb-false x w (not-true (eqb x w) (and_right (free x) (not (eqb x w)) a.2)),
    )

    from : (w x : ℕ) → Minus (Minus S v) w x → Free u (suc v) (take w) x
    from w x a =
        let s = a.0.0 in
        (omega (arith, s.0, a.0.1), omega (arith, s.1), and_both (free x) (not (eqb x w)) s.2 (ap not (ne_eqb x w a.1)))

    one_try : (w top : ℕ) (r q : Option (List Pair)) → v < w → S v → S w → Apart v w → Tried w → (Tried (suc w) → Partly top q)
        → Right (Joined Apart (Free u (suc v) (take w))) k r → Partly top (or_else (front (v, w) r) q)
    one_try w top none q lt sv sw e tr next r =
        next (λ x l g a b d. ⊎_elim
        (λ p. subst (λ (y : ℕ). NoneOfSize (Joined Apart (Minus (Minus S v) y)) k) (sym p)
        (same_none (Joined Apart (Free u (suc v) (take w))) (Joined Apart (Minus (Minus S v) w))
        (joined-map Apart (Free u (suc v) (take w)) (Minus (Minus S v) w) (to w))
        (joined-map Apart (Minus (Minus S v) w) (Free u (suc v) (take w)) (from w)) k r))
        (λ m. tr x m g a b d) (below_suc l))
    one_try w top (some M) q lt sv sw e tr next r =
        step_found Apart S v (λ x a. a.0) k w M sv sw lt e (λ b l g s d. tr b l g sv s d)
        (same_first (Joined Apart (Free u (suc v) (take w))) (Joined Apart (Minus (Minus S v) w))
        (joined-map Apart (Free u (suc v) (take w)) (Minus (Minus S v) w) (to w))
        (joined-map Apart (Minus (Minus S v) w) (Free u (suc v) (take w)) (from w)) k M r)

    find_right : (j w : ℕ) → w + j ≡ v + suc u → v < w → Tried w
        → Partly (v + suc u) (first_found (λ w. cond (may w) (front (v, w) (of_size adj u (suc v) (take w) k)) none) j w)
    unfolding first_found
    find_right zero w e l tr = subst Tried (omega arith) tr
    find_right (suc j) w e l tr = go (may w) refl (find_right j (suc w) (omega arith) (omega arith))
      where
        rest : Option (List Pair)
        rest = first_found (λ w. cond (may w) (front (v, w) (of_size adj u (suc v) (take w) k)) none) j (suc w)

        go : (b : Bool) → may w ≡ b → (Tried (suc w) → Partly (v + suc u) rest)
            → Partly (v + suc u) (or_else (cond b (front (v, w) (of_size adj u (suc v) (take w) k)) none) rest)
        go true q next =
            let p = and_right (free v) (free w && not (adj v w)) q in
            one_try w (v + suc u) (of_size adj u (suc v) (take w) k) rest l (omega arith, omega arith, and_left (free v) (free w && not (adj v w)) q)
            (omega arith, omega arith, and_left (free w) (not (adj v w)) p)
            (not-true (adj v w) (and_right (free w) (not (adj v w)) p)) tr next (less (take w))
        go false q next =
            next (λ x m g a b d. ⊎_elim
            (λ p. absurd (true≢false (sym (and_both (free v) (free w && not (adj v w)) a.2
            (and_both (free w) (not (adj v w)) (subst (λ (y : ℕ). free y ≡ true) p b.2) (ap not (subst (λ (y : ℕ). adj v y ≡ false) p d)))) ∙ q)))
            (λ n. tr x n g a b d) (below_suc m))

    -- one vertex of the search
    vertex : (q r : Option (List Pair)) → Partly (v + suc u) q → Right (Joined Apart (Free u (suc v) free)) (suc k) r
        → Right (Joined Apart S) (suc k) (or_else q r)
    vertex none r p h =
        go r (right_same (Joined Apart (Free u (suc v) free)) (Joined Apart (Minus S v))
        (joined-map Apart (Free u (suc v) free) (Minus S v) (λ x a. ((omega (arith, a.0), omega (arith, a.1), a.2), λ e. omega (arith, a.0))))
        (joined-map Apart (Minus S v) (Free u (suc v) free) (λ x a. (omega (arith, a.0.0, a.1), omega (arith, a.0.1), a.0.2))) (suc k) r h)
      where
        tried : (b : ℕ) → v < b → S v → S b → Apart v b → NoneOfSize (Joined Apart (Minus (Minus S v) b)) k
        tried b l sv sb e = p b sb.1 l sv sb e

        go : (r : Option (List Pair)) → Right (Joined Apart (Minus S v)) (suc k) r → Right (Joined Apart S) (suc k) r
        go none h = step_none Apart S v (λ x a. a.0) k tried h
        go (some M) h = step_drop Apart S v (λ x a. a.0) k tried M h
    vertex (some M) r p h = p

  of_size_right : (u v : ℕ) (free : ℕ → Bool) (k : ℕ) → Right (Joined Apart (Free u v free)) k (of_size adj u v free k)
  unfolding of_size
  of_size_right zero v free zero = first_zero (Joined Apart (Free 0 v free))
  of_size_right zero v free (suc k) = none_empty Apart (Free 0 v free) k (λ x a. omega (arith, a.0, a.1))
  of_size_right (suc u) v free zero = first_zero (Joined Apart (Free (suc u) v free))
  of_size_right (suc u) v free (suc k) =
      vertex u v k free (λ f. of_size_right u (suc v) f k)
      (first_found (λ w. cond (free v && (free w && not (adj v w))) (front (v, w) (of_size adj u (suc v) (λ x. free x && not (eqb x w)) k)) none) u (suc v))
      (of_size adj u (suc v) free (suc k))
      (find_right u v k free (λ f. of_size_right u (suc v) f k) u (suc v) (omega arith) (omega arith) (λ x l g. absurd (omega arith)))
      (of_size_right u (suc v) free (suc k))

  module _ (n : ℕ) where
    -- pairs of the n vertices from 0 on, in the two ways they are said
    out : (p : Pair) → Joined Apart (Free n 0 (λ _. true)) p → Missing n adj p
    out p j = (j.2, omega (arith, j.1.1), j.3)

    back : (p : Pair) → Missing n adj p → Joined Apart (Free n 0 (λ _. true)) p
    back p m = ((omega arith, omega (arith, m.0, m.1), refl), (omega arith, omega (arith, m.1), refl), m.0, m.2)

    up_to_right : (k : ℕ) → AtMost (Missing n adj) k → FirstLargest (Missing n adj) (up_to adj n k)
    unfolding up_to AtMost
    up_to_right zero h = record { matches = (tt, tt); largest = h; first = λ N m l. tt }
    up_to_right (suc k) h =
        go (of_size adj n 0 (λ _. true) (suc k))
        (right_same (Joined Apart (Free n 0 (λ _. true))) (Missing n adj) out back (suc k) (of_size adj n 0 (λ _. true) (suc k))
        (of_size_right n 0 (λ _. true) (suc k)))
        (up_to_right k)
      where
        go : (r : Option (List Pair)) → Right (Missing n adj) (suc k) r
            → (AtMost (Missing n adj) k → FirstLargest (Missing n adj) (up_to adj n k))
            → FirstLargest (Missing n adj) (or_list r (up_to adj n k))
        go none q next = next (fewer (Missing n adj) k h q)
        go (some M) q next = record { matches = q.matches; largest = λ N m. omega (arith, h N m, q.size); first = λ N m l. q.first N m (l ∙ q.size) }

    at_most_n : AtMost (Missing n adj) n
    unfolding AtMost
    at_most_n N m = omega (arith, matching_half n adj N m)

pub matching_first : MatchingFirst
unfolding matching_of
matching_first n adj = up_to_right adj n n (at_most_n adj n)
