-- `compare` meets its contract.
use mathlib.Core.Path.{◌≡◌, sym, ap, ◌∙◌}
use mathlib.Core.Bool.{Bool, not}
use mathlib.Core.List.{List}
use Prim.Native.Nat.{ℕ, ◌+◌, ◌*◌}
use native.Mathlib.Omega.{arith}
use lib.ListN.{length}
use Rattle.wire.specs.declared.slot.Layout.{Layout}
use Rattle.lists.specs.Same.{same}
use Rattle.bitset.specs.Set.{set_of, inserted}
use Rattle.bitset.proofs.Laws.{set_none, insert_next, insert_skip}
use Rattle.wire.specs.Slot.{message_of}
use Rattle.reed_solomon.specs.Decode.{is_named, named_of}
use Rattle.reed_solomon.specs.Encode.{piece_of}
use Rattle.reed_solomon.specs.Steps.{transposed, row_values, counted}
use Rattle.reed_solomon.proofs.Rows.{row_piece}
use Rattle.reed_solomon.proofs.Counts.{counts_of, counts_all, counts_none, length_counts, count-few, counted_slot}
use Rattle.reed_solomon.proofs.comparison.compare.Goals as goal
use Rattle.reed_solomon.proofs.comparison.compare.Goals.{then-compare_slot, else-compare_slot}

-- the columns' values are the piece
module _ (t : ℕ) (layout : Layout) (slots block cols : List ℕ) (size : length block ≡ layout.length * (t + 1)) (are : cols ≡ transposed layout.length (t + 1) block) (j : ℕ) where
  piece_is : row_values layout.length t cols j ≡ piece_of layout.length t block j
  piece_is = ap (λ (l : List ℕ). row_values layout.length t l j) are ∙ row_piece layout.length t block size j

  named_is : (r : Bool) → r ≡ not (same (message_of slots layout j) (row_values layout.length t cols j)) → is_named t layout slots block j ≡ r
  unfolding is_named
  named_is r e = sym (e ∙ ap (λ (l : List ℕ). not (same (message_of slots layout j) l)) piece_is)

-- the counts with slot i + 1
counts_next : (t : ℕ) (layout : Layout) (slots block cols : List ℕ) → length block ≡ layout.length * (t + 1) → cols ≡ transposed layout.length (t + 1) block → (i : ℕ) (before after : List ℕ)
    → before ≡ counts_of t layout slots block i → after ≡ counted (message_of slots layout (i + 1)) (row_values layout.length t cols (i + 1)) before
    → after ≡ counts_of t layout slots block (i + 1)
counts_next t layout slots block cols size are i before after e h =
    h ∙ ap (λ (l : List ℕ). counted (message_of slots layout (i + 1)) l before) (piece_is t layout slots block cols size are (i + 1))
    ∙ counted_slot t layout slots block i before e

pub loop-i-init : goal.loop-i-init
loop-i-init c =
    let a = c.args in
    let p = a.pieces.now in
    (sym (set_none (λ j. is_named p.t p.layout p.slots.now a.block.now (j + 1))), c.requires.3 ∙ sym (counts_none p.t p.layout p.slots.now a.block.now))

pub compare_slot-requires : goal.compare_slot-requires
compare_slot-requires c =
    let a = c.args in
    let p = a.pieces.now in
    let l = c.loop-i in
    let few = p.lent.coded.quorum.n_most in (
      c.transpose.auto.out ∙ c.requires.1,
      l.auto.piece ∙ c.requires.2,
      ap length l.invariant.1 ∙ length_counts p.t p.layout p.slots.now a.block.now l.i,
      omega (arith, few),
      count-few p.t p.layout p.slots.now a.block.now l.i l.counts l.invariant.1 (omega (arith, few)),
    )

pub loop-i-preserved : goal.loop-i-preserved
loop-i-preserved c =
    let a = c.args in
    let p = a.pieces.now in
    let l = c.loop-i in
    let r = c.compare_slot in
    let T = c.transpose in
    let is : ℕ → Bool = λ j. is_named p.t p.layout p.slots.now a.block.now (j + 1) in
    let named = named_is p.t p.layout p.slots.now a.block.now T.new.out c.requires.0 T.ensures (l.i + 1) r.result r.ensures.0 in (
      elim c.if-compare_slot.branch [
        | then-compare_slot w ↦ w.named-is ∙ w.insert-named.ensures ∙ ap (λ (x : ℕ). inserted x l.i) l.invariant.0
            ∙ insert_next l.i is (omega (arith, p.lent.coded.quorum.n_most)) (named ∙ w.if-compare_slot.true)
        | else-compare_slot w ↦ w.named-is ∙ l.invariant.0 ∙ insert_skip l.i is (named ∙ w.if-compare_slot.false)
      ],
      counts_next p.t p.layout p.slots.now a.block.now T.new.out c.requires.0 T.ensures l.i l.counts r.new.counts l.invariant.1 r.ensures.1,
    )

pub returns : goal.returns
unfolding named_of
returns c =
    let a = c.args in
    let p = a.pieces.now in
    let l = c.loop-i in
    let all : l.i ≡ p.n = omega arith in
    record {
      named_are = l.invariant.0 ∙ ap (λ (x : ℕ). set_of x (λ j. is_named p.t p.layout p.slots.now a.block.now (j + 1))) all;
      counts_are =
          l.invariant.1 ∙ ap (counts_of p.t p.layout p.slots.now a.block.now) all ∙ counts_all p.t p.layout p.slots.now a.block.now p.n;
    }
