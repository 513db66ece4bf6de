-- Laws for the functions of call 3t + 8. The main ones: `first_found_lem` and `first_none`, a search for the first index that passes.
use mathlib.Core.Path.{◌≡◌, sym, ap, ◌∙◌}
use mathlib.Core.Logic.{⊎_elim}
use mathlib.Core.Bool.{Bool, true, false, not, ◌&&◌}
use mathlib.Core.List.{List, []}
use Prim.Native.Nat.{ℕ, ◌+◌, ◌≤◌, ◌<◌}
use native.Mathlib.Omega.{arith}
use borrow.Author.Tests.{ne_eqb, eqb-false, lt-ltb, le-ltb, not-true}
use lib.Dec.{eqb, ltb}
use lib.ListN.{length, replicate}
use Rattle.lists.specs.Same.{same}
use Rattle.lists.proofs.Tests.{true≢false, and_left, and_right, cond_yes, cond_no, lt_or_le}
use Rattle.bitset.specs.Set.{member, first}
use Rattle.bitset.proofs.Laws.{first_le, first_passes, first_some}
use Rattle.wire.specs.declared.slot.Layout.{Layout}
use Rattle.wire.specs.Slot.{message_of, to_all}
use Rattle.reconstruction.specs.Reconstruction.{is_chosen, chosen_piece, sent_piece}

-- ---- a search
-- an index that passes, with none before it
pub first_found_lem : (n : ℕ) (p : ℕ → Bool) (i : ℕ) → i < n → p i ≡ true → ((j : ℕ) → j < i → p j ≡ false) → i ≡ first n p
first_found_lem n p i l y none =
    let at_most = first_some n p i y in
    ⊎_elim
    (λ (m : first n p < i). absurd (true≢false (sym (first_passes n p (omega arith)) ∙ none (first n p) m)))
    (λ (m : i ≤ first n p). omega arith)
    (lt_or_le (first n p) i)

-- no index that passes
pub first_none : (n : ℕ) (p : ℕ → Bool) → ((j : ℕ) → j < n → p j ≡ false) → n ≡ first n p
first_none n p none =
    let at_most = first_le n p in
    ⊎_elim
    (λ (m : first n p < n). absurd (true≢false (sym (first_passes n p m) ∙ none (first n p) m)))
    (λ (m : n ≤ first n p). omega arith)
    (lt_or_le (first n p) n)

-- ---- a vote: the controller of index i is a member that sent m
abbrev pub vote : ℕ → List ℕ → Layout → List ℕ → ℕ → Bool
vote core inbox layout m i = member core i && same (message_of inbox layout (i + 1)) m

-- ---- a piece that is there goes to all
pub sent_some : (out : Layout) (n : ℕ) (m o : List ℕ) → (length m ≡ 0 → ⊥) → to_all out n m o ≡ sent_piece out n m o
unfolding sent_piece
sent_some out n m o h = sym (cond_no (eqb (length m) 0) (replicate (length o) 0) (to_all out n m o) (ne_eqb (length m) 0 h))

-- ---- the choice, and what is sent by it
module _ (n t core : ℕ) (inbox : List ℕ) (layout : Layout) where
  module _ (i : ℕ) where
    -- a piece that is chosen is there
    pub chosen_there : is_chosen n t core inbox layout i ≡ true → length (message_of inbox layout (i + 1)) ≡ 0 → ⊥
    unfolding is_chosen
    chosen_there e =
        eqb-false (length (message_of inbox layout (i + 1))) 0
        (not-true (eqb (length (message_of inbox layout (i + 1))) 0)
        (and_left (not (eqb (length (message_of inbox layout (i + 1))) 0)) _ (and_right (member core i) _ e)))

  -- the search's answer
  pub chosen_some : (i : ℕ) → i < n → is_chosen n t core inbox layout i ≡ true → ((j : ℕ) → j < i → is_chosen n t core inbox layout j ≡ false)
      → message_of inbox layout (i + 1) ≡ chosen_piece n t core inbox layout
  unfolding chosen_piece
  chosen_some i l y none =
      let q : ℕ → Bool = is_chosen n t core inbox layout in
      let M : ℕ → List ℕ = λ x. message_of inbox layout (x + 1) in
      let e = first_found_lem n q i l y none in
      ap M e ∙ sym (cond_yes (ltb (first n q) n) (M (first n q)) [] (lt-ltb (first n q) n (omega arith)))

  pub chosen_none : ((j : ℕ) → j < n → is_chosen n t core inbox layout j ≡ false) → chosen_piece n t core inbox layout ≡ []
  unfolding chosen_piece
  chosen_none none =
      let q : ℕ → Bool = is_chosen n t core inbox layout in
      let past : n ≤ first n q = omega (arith, first_none n q none) in
      cond_no (ltb (first n q) n) (message_of inbox layout (first n q + 1)) [] (le-ltb (first n q) n past)
