-- The rows that the search works on: an edge of them is a missing pair below n, so the first largest matching along them is that of the
-- missing pairs (`answer_is`).
use mathlib.Core.Path.{◌≡◌, refl, sym, ap, subst, subst₂, ◌∙◌}
use mathlib.Core.Logic.{⊎_elim}
use mathlib.Core.List.{List}
use mathlib.Core.Bool.{Bool, true, false, not}
use Prim.Native.Nat.{ℕ, ◌≤◌, ◌<◌}
use native.Mathlib.Omega.{arith}
use lib.ListN.{length, get_or, get_or-eq_default}
use Rattle.lists.proofs.Tests.{lt_or_le}
use Rattle.lists.proofs.Fills.{length-tabulate, get_or-tabulate}
use Rattle.bitset.specs.Set.{set_of}
use Rattle.bitset.proofs.Laws.{none_in_0}
use Rattle.graph.specs.Neighbour.{missing}
use Rattle.graph.specs.Pairs.{Pair}
use Rattle.graph.proofs.Laws.{missing-member, missing_past, missing_out}
use Rattle.matching.specs.Matching.{FirstLargest, Missing}
use Rattle.matching.specs.Answer.{complement, stored, pairs_of, IsFirstLargest}
use Rattle.matching.specs.Steps.{In, Edge, Symmetric, Within, Largest}
use Rattle.matching.specs.declared.Matching.{Matching}
use Rattle.matching.proofs.Sets.{not_in, set_in}
use Rattle.matching.proofs.Sizes.{same_largest, matching_half}
use Rattle.matching.proofs.Stored.{pairs-stored}

module _ (n : ℕ) (adj : ℕ → ℕ → Bool) (most : n ≤ 16) where
  pub complement_row : (i : ℕ) → i < 16 → get_or (complement n adj) i 0 ≡ missing n adj i
  unfolding complement
  complement_row i l = get_or-tabulate (missing n adj) 16 i 0 l

  complement_past : (i : ℕ) → 16 ≤ i → get_or (complement n adj) i 0 ≡ 0
  unfolding complement
  complement_past i l = get_or-eq_default (complement n adj) 0 {n = i} (omega (arith, length-tabulate (missing n adj) 16))

  -- an edge is a pair below n that are not neighbours
  edge_out : (x y : ℕ) → Edge (complement n adj) x y → (x < n) × (y < n) × (adj x y ≡ false)
  edge_out x y e =
      ⊎_elim
      (λ (l : x < 16).
      let m : In (missing n adj x) y = subst (λ (s : ℕ). In s y) (complement_row x l) e in
      ⊎_elim
      (λ (k : y < n). let r = missing_out n adj x y k m in (r.0, k, r.1))
      (λ (k : n ≤ y). absurd (not_in (missing n adj x) y (missing_past n adj x y k) m))
      (lt_or_le y n))
      (λ (l : 16 ≤ x). absurd (none_in_0 y (subst (λ (s : ℕ). In s y) (complement_past x l) e)))
      (lt_or_le x 16)

  edge_in : (x y : ℕ) → x < n → y < n → adj x y ≡ false → Edge (complement n adj) x y
  edge_in x y lx ly e = subst (λ (s : ℕ). In s y) (sym (complement_row x (omega arith))) (missing-member n adj x y lx ly ∙ ap not e)

  pub complement_sym : ((i j : ℕ) → adj i j ≡ adj j i) → Symmetric (complement n adj)
  complement_sym both x y e = let r = edge_out x y e in edge_in y x r.1 r.0 (both y x ∙ r.2)

  out : (p : Pair) → Within (complement n adj) (set_of n (λ _. true)) p → Missing n adj p
  out p j = let e = edge_out p.0 p.1 j.3 in (j.2, e.1, e.2)

  back : (p : Pair) → Missing n adj p → Within (complement n adj) (set_of n (λ _. true)) p
  back p m =
      let l : p.0 < n = omega (arith, m.0, m.1) in
      (set_in n (λ _. true) p.0 l refl, set_in n (λ _. true) p.1 m.1 refl, m.0, edge_in p.0 p.1 l m.1 m.2)

  -- the first largest matching of the complement, within all indices below n, is that of the missing pairs
  pub answer_is : (graph : List ℕ) (s : ℕ) (r : Matching) → graph ≡ complement n adj → s ≡ set_of n (λ _. true) → Largest graph s r → IsFirstLargest n adj r
  answer_is graph s r eg es q =
      let M : List Pair = q.0 in
      let big : FirstLargest (Missing n adj) M =
      same_largest (Within (complement n adj) (set_of n (λ _. true))) (Missing n adj) out back M
      (subst₂ (λ (g : List ℕ) (x : ℕ). FirstLargest (Within g x) M) eg es q.1) in
      let few : length M ≤ 8 = omega (arith, matching_half n adj M big.matches) in
      let e : pairs_of r ≡ M = ap pairs_of q.2 ∙ pairs-stored M few in
      record { first_largest = subst (FirstLargest (Missing n adj)) (sym e) big; answered = q.2 ∙ ap stored (sym e) }
