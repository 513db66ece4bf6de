-- The slots that are named. The main laws: `member_named`, and document 02's words for one slot, `named_absent`, `named_differs`, `not_named` and
-- `named_other_run`.
use mathlib.Core.Path.{◌≡◌, sym, ap, ◌∙◌}
use mathlib.Core.Bool.{true, false, not}
use mathlib.Core.List.{List}
use Prim.Native.Nat.{ℕ, ◌+◌, ◌^◌, ◌≤◌, ◌<◌}
use native.Mathlib.Omega.{arith}
use borrow.Author.Tests.{eqb-true, eqb-false}
use lib.Dec.{eqb}
use lib.ListN.{length}
use Rattle.wire.specs.declared.slot.Layout.{Layout}
use Rattle.lists.proofs.Sames.{eq_same, no_same, same_all, same_differ}
use Rattle.lists.proofs.Tests.{not-not}
use Rattle.bitset.specs.Set.{member}
use Rattle.bitset.proofs.Laws.{member-set, set_lt_16}
use Rattle.wire.specs.Slot.{message_of}
use Rattle.wire.proofs.Laws.{length-message, other_run_absent}
use Rattle.reed_solomon.specs.Encode.{piece_of}
use Rattle.reed_solomon.specs.Decode.{has_piece, received, is_named, named_of, NamedAbsent, NamedDiffers, NotNamed, NamedOtherRun}
use Rattle.reed_solomon.proofs.Rule.{length_piece, get_or_piece}

pub member_named : (n t : ℕ) (layout : Layout) (slots block : List ℕ) (i : ℕ) → i < n
    → member (named_of n t layout slots block) i ≡ is_named t layout slots block (i + 1)
unfolding named_of
member_named n t layout slots block i l = member-set n (λ i. is_named t layout slots block (i + 1)) i l

pub named_lt : (n t : ℕ) (layout : Layout) (slots block : List ℕ) → n ≤ 16 → named_of n t layout slots block < 2 ^ 16
unfolding named_of
named_lt n t layout slots block few = set_lt_16 n (λ i. is_named t layout slots block (i + 1)) few

module _ (t : ℕ) (layout : Layout) (slots block : List ℕ) (j : ℕ) where
  -- a message of another length than a piece's
  pub named_length : (length (message_of slots layout j) ≡ layout.length → ⊥) → is_named t layout slots block j ≡ true
  unfolding is_named
  named_length n = ap not (no_same (message_of slots layout j) (piece_of layout.length t block j) (λ e. n (e ∙ length_piece layout.length t block j)))

  -- the slot holds its piece
  pub true_not_named : message_of slots layout j ≡ piece_of layout.length t block j → is_named t layout slots block j ≡ false
  unfolding is_named
  true_not_named e = ap not (eq_same (message_of slots layout j) (piece_of layout.length t block j) e)

-- ---- document 02's words
pub named_absent : NamedAbsent
unfolding has_piece
named_absent t layout slots block j least e =
    let m = message_of slots layout j in
    named_length t layout slots block j (λ z. omega (arith, z, eqb-true (length m) 0 (sym (not-not (eqb (length m) 0)) ∙ ap not e)))

pub named_differs : NamedDiffers
unfolding is_named received
named_differs t layout slots block j s l n =
    ap not (same_differ (message_of slots layout j) (piece_of layout.length t block j) s (λ e. n (e ∙ get_or_piece layout.length t block j s l)))

pub not_named : NotNamed
unfolding has_piece received is_named
not_named t layout slots block j e h =
    let m = message_of slots layout j in
    let long : length m ≡ layout.length = length-message slots layout j (eqb-false (length m) 0 (sym (not-not (eqb (length m) 0)) ∙ ap not e)) in
    ap not
    (same_all m (piece_of layout.length t block j) (long ∙ sym (length_piece layout.length t block j))
    (λ s l. h s (omega arith) ∙ sym (get_or_piece layout.length t block j s (omega arith))))

pub named_other_run : NamedOtherRun
named_other_run t layout slots block j least o =
    named_length t layout slots block j (λ e. omega (arith, sym e, ap length (other_run_absent slots layout j o)))
