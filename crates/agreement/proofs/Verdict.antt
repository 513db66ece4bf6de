-- Step 7. One core for all: with none all say none and zeros; else its correct members hold one block, and all end with agreed and that block;
-- either way they name no correct controller (`verdict`). So a block that is agreed on was held by t + 1 of them (`agreed_held`). If all held one block
-- after call 2, the correct controllers are a clique of at least n - t, so that the core holds them all (`common_in_core`) and the block is that one
-- (`common_verdict`): with a correct sender the sender's (`sender-in_core`, `sender_verdict`), without a sender the one that all were started with
-- (`alike_verdict`).
use mathlib.Core.Path.{◌≡◌, sym, ap, ap₂, subst, ◌∙◌}
use mathlib.Core.Bool.{true, false, ◌&&◌}
use mathlib.Core.List.{List}
use mathlib.Core.Logic.{⊎_elim}
use Prim.Native.Nat.{ℕ, ◌+◌, ◌-◌, ◌^◌, ◌≤◌, ◌<◌}
use native.Mathlib.Omega.{arith}
use lib.Dec.{lit<}
use lib.ListN.{get_or, replicate}
use Rattle.lists.specs.Same.{same}
use Rattle.lists.proofs.Tests.{true≢false, same_or_not, and_left, and_right, and_both}
use Rattle.lists.proofs.Sums.{count-member, count_mono}
use Rattle.lists.proofs.Sames.{eq_same}
use Rattle.bitset.specs.Set.{member, restricted}
use Rattle.bitset.proofs.Laws.{restrict_below, member_over}
use Rattle.wire.specs.Length.{block_length}
use Rattle.reed_solomon.specs.Encode.{piece_of}
use Rattle.protocol.specs.Calls.{core_of}
use Rattle.reconstruction.specs.declared.Outcome.{Outcome}
use Rattle.reconstruction.specs.declared.Outcome.TheVariants.{Agreed, None}
use Rattle.reconstruction.specs.Outcomes.{outcome_number}
use Rattle.agreement.specs.Agreement.{System, Correct, Supposed, StartedAlike, outcome_of, block_of, Holds}
use Rattle.agreement.specs.Named.{named_by}
use Rattle.agreement.specs.Held.{holders}
use Rattle.agreement.proofs.System.{coded}
use Rattle.agreement.proofs.Coding.{IsBlock, Code}
use Rattle.agreement.proofs.Graph.{Graph}
use Rattle.agreement.proofs.Blocks.{held_block, is_block, agree_marks, sender-block, own_block}
use Rattle.agreement.proofs.Votes.{correct_at, by_index, to_index, most_correct, row_is_marks}
use Rattle.agreement.proofs.Cores.{last_matrix, one_core, one_block, enough_correct}
use Rattle.agreement.proofs.Ends.{ends_none, none_unnamed, ends-agreed, ends_unnamed}

module _ (S : System) (H : Supposed S) (w : ℕ) (f : Correct S w) (C : Code S.run S.settings.n S.settings.t S.settings.k)
    (G : Graph (last_matrix S w) S.settings.n S.settings.t) where
  -- the core
  abbrev pub core_set : ℕ
  core_set = core_of (last_matrix S w) S.settings.n S.settings.t

  -- what all correct controllers end with; none of them names another
  pub record Verdict (o : Outcome) (b : List ℕ) : Type 0 where
    pub all : (i : ℕ) → Correct S i → (outcome_of S i ≡ o) × (block_of S i ≡ b)
    pub unnamed : (i j : ℕ) → Correct S i → Correct S j → member (named_by S i) (j - 1) ≡ false

  few_rows : S.settings.n ≤ 16
  few_rows = (coded S H w f).quorum.n_most

  empty : core_set ≡ 0 → (i : ℕ) → Correct S i → restricted (core_of (last_matrix S i) S.settings.n S.settings.t) S.settings.n ≡ 0
  empty z i g =
      ap (λ (x : ℕ). restricted x S.settings.n) (one_core S H i w g f ∙ z)
      ∙ restrict_below 0 S.settings.n (subst (λ (x : ℕ). x < 2 ^ S.settings.n) z G.core_lt)

  without : core_set ≡ 0 → Verdict None (replicate (block_length S.settings.k S.settings.t) 0)
  without z = record {
    all = λ i g. ends_none S H i g (empty z i g);
    unnamed = λ i j g h. none_unnamed S H i g (empty z i g) (j - 1);
  }

  -- with a core whose correct members hold B
  with : (core_set ≡ 0 → ⊥) → (B : List ℕ) → IsBlock S.settings.k S.settings.t B
      → ((i : ℕ) → Correct S i → member core_set (i - 1) ≡ true → held_block S i ≡ B) → Verdict Agreed B
  with z B is holds =
      let one : (i : ℕ) → Correct S i → core_of (last_matrix S i) S.settings.n S.settings.t ≡ core_set = λ i g. one_core S H i w g f in
      let some : restricted core_set S.settings.n ≡ 0 → ⊥ = λ q. z (sym (restrict_below core_set S.settings.n G.core_lt) ∙ q) in
      record {
        all = ends-agreed S H C core_set B is one some (enough_correct S H w f C G z) holds;
        unnamed = ends_unnamed S H C core_set B is one some (enough_correct S H w f C G z) holds;
      }

  -- a correct member of the core
  heart : (core_set ≡ 0 → ⊥) → (c : ℕ) × Correct S (c + 1) × (member core_set c ≡ true)
  heart z =
      let r = count-member S.settings.n (λ x. member core_set x && correct_at S x) (omega (arith, enough_correct S H w f C G z)) in (
        r.0,
        by_index S r.0 (r.1, and_right (member core_set r.0) (correct_at S r.0) r.2),
        and_left (member core_set r.0) (correct_at S r.0)
            r.2,
      )

  -- the common block is the one that this member held after call 2, and with it all correct members, at least t + 1
  held_by_lem : (core_set ≡ 0 → ⊥) → (B : List ℕ) × Verdict Agreed B × (S.settings.t + 1 ≤ holders S 2 B)
  held_by_lem z =
      let h = heart z in
      let c = h.0 in
      let B = held_block S (c + 1) in
      let at : (x : ℕ) → x + 1 - 1 ≡ x = λ x. omega arith in
      let holds : (i : ℕ) → Correct S i → member core_set (i - 1) ≡ true → held_block S i ≡ B = λ i g m.
      one_block S H w f C G i (c + 1) g h.1 m (ap (member core_set) (at c) ∙ h.2) in (
        B,
        with z B (is_block S H (c + 1) h.1) holds,
        omega (
          arith,
          enough_correct S H w f C G z,
          count_mono S.settings.n (λ x. member core_set x && correct_at S x) (λ x. correct_at S x && same (held_block S (x + 1)) B)
              (λ x l y.
              let m = and_left (member core_set x) (correct_at S x) y in
              let g = and_right (member core_set x) (correct_at S x) y in
              and_both (correct_at S x) (same (held_block S (x + 1)) B) g
              (eq_same (held_block S (x + 1)) B (holds (x + 1) (by_index S x (l, g)) (ap (member core_set) (at x) ∙ m)))),
        ),
      )

  pub verdict : (o : Outcome) × (b : List ℕ) × Verdict o b
  verdict =
      ⊎_elim
      (λ (z : core_set ≡ 0). (None, replicate (block_length S.settings.k S.settings.t) 0, without z))
      (λ (z : core_set ≡ 0 → ⊥). let r = held_by_lem z in (Agreed, r.0, r.1))
      (same_or_not core_set 0)

  -- so t + 1 held whatever is agreed on: without a core nothing is
  pub agreed_held : (i : ℕ) (B : List ℕ) → Correct S i → Holds S i B → S.settings.t + 1 ≤ holders S 2 B
  agreed_held i B g a =
      ⊎_elim
      (λ (z : core_set ≡ 0). absurd (omega (arith, ap outcome_number (sym a.0 ∙ ((without z).all i g).0))))
      (λ (z : core_set ≡ 0 → ⊥).
      let r = held_by_lem z in
      subst (λ (A : List ℕ). S.settings.t + 1 ≤ holders S 2 A) (sym (r.1.all i g).1 ∙ a.1) r.2)
      (same_or_not core_set 0)

  -- ---- all held one block after call 2
  module _ (B : List ℕ) (common : (i : ℕ) → Correct S i → held_block S i ≡ B) where
    -- correct controllers mark each other
    marked : (x y : ℕ) (p : Correct S (x + 1)) (q : Correct S (y + 1)) → member (get_or (last_matrix S w) x 0) y ≡ true
    marked x y p q =
        let a : x + 1 - 1 ≡ x = omega arith in
        let b : y + 1 - 1 ≡ y = omega arith in
        let same : held_block S (y + 1) ≡ held_block S (x + 1) = common (y + 1) q ∙ sym (common (x + 1) p) in
        ap₂ member (ap (λ (z : ℕ). get_or (last_matrix S w) z 0) (sym a) ∙ row_is_marks S H few_rows w (x + 1) f p) (sym b)
        ∙ agree_marks S H C (x + 1) (y + 1) p q
        (ap (λ (b : List ℕ). piece_of S.settings.k S.settings.t b (y + 1)) same)
        (ap (λ (b : List ℕ). piece_of S.settings.k S.settings.t b (x + 1)) same)

    -- so that they are all in the core
    pub common_in_core : (i : ℕ) → Correct S i → member core_set (i - 1) ≡ true
    common_in_core i h =
        let r = to_index S i h in
        G.clique_in (correct_at S)
        (λ x y l m p q.
        let fx = by_index S x (l, p) in
        let fy = by_index S y (m, q) in
        G.marks_near x y (marked x y fx fy) (marked y x fy fx))
        (most_correct S H) (i - 1) r.0 r.1

    pub common_verdict : Verdict Agreed B
    common_verdict =
        with (λ z. true≢false (sym (ap (λ (x : ℕ). member x (w - 1)) (sym z) ∙ common_in_core w f) ∙ member_over 0 0 (w - 1) (lit< tt) (omega arith)))
        B
        (subst (IsBlock S.settings.k S.settings.t) (common w f) (is_block S H w f))
        (λ i h m. common i h)

  -- ---- the sender is correct
  pub sender-in_core : Correct S S.settings.sender → (i : ℕ) → Correct S i → member core_set (i - 1) ≡ true
  sender-in_core g = common_in_core (S.block S.settings.sender) (sender-block S H g)

  pub sender_verdict : Correct S S.settings.sender → Verdict Agreed (S.block S.settings.sender)
  sender_verdict g = common_verdict (S.block S.settings.sender) (sender-block S H g)

  -- ---- there is no sender, and all were started with one block
  pub alike_verdict : (B : List ℕ) → StartedAlike S B → Verdict Agreed B
  alike_verdict B a = common_verdict B (λ i h. own_block S H a.no_sender i h ∙ a.alike i h)
