-- `Coder::send_pairs` meets its contract.
use Rattle.dispersal.proofs.Steps.{first_piece, paired, pair_room, two_pieces_sized}
use Rattle.dispersal.proofs.Calls.{two_pieces_is}
use Rattle.dispersal.specs.Dispersal.{two_pieces}
use Rattle.reed_solomon.proofs.Laws.{length_piece}
use Rattle.reed_solomon.specs.Encode.{piece_of}
use Rattle.wire.proofs.Laws.{slots_start, put_next_slot}
use Rattle.wire.specs.Slot.{width, bytes}
use Rattle.lists.proofs.Parts.{slot_within, next_offset}
use lib.Seq.{take_at}
use lib.ListN.{length, take}
use native.Mathlib.Omega.{arith}
use Prim.Native.Nat.{◌+◌}
use mathlib.Core.List.{◌++◌}
use mathlib.Core.Path.{◌≡◌, refl, sym, ap, ◌∙◌}
use Rattle.dispersal.proofs.Coder.send_pairs.Goals as goal

pub loop-j-init : goal.loop-j-init
loop-j-init c =
    let s = c.args.self.now in (
      c.write_piece.auto.m ∙ pair_room s.k c.args.layout.length s.ready.coded.k_most c.requires.0,
      first_piece s.k (piece_of s.k s.t s.block.now s.own) _ c.write_piece.new.m (length_piece s.k s.t s.block.now s.own) c.write_piece.ensures,
      slots_start c.args.layout (two_pieces s.k s.t s.own s.block.now) c.args.outbox.now _ refl,
    )

pub loop-j-preserved : goal.loop-j-preserved
loop-j-preserved c =
    let a = c.args in
    let s = a.self.now in
    let j = c.loop-j.j in
    let p = piece_of s.k s.t s.block.now s.own in
    let q = piece_of s.k s.t s.block.now (j + 1) in
    let m' = c.write_piece-in-loop-j.new.m in
    let pair : m' ≡ p ++ q = paired s.k p q c.loop-j.m m' c.loop-j.invariant.1 (c.loop-j.invariant.0 ∙ c.requires.0) c.write_piece-in-loop-j.ensures in
    let long : length m' ≡ a.layout.length = c.write_piece-in-loop-j.auto.m ∙ c.loop-j.invariant.0 in (
      long,
      ap (take s.k) pair ∙ take_at p q s.k (length_piece s.k s.t s.block.now s.own),
      c.send_one.ensures
          ∙ put_next_slot a.layout (two_pieces s.k s.t s.own s.block.now)
          (two_pieces_sized s.k s.t s.own s.block.now a.layout c.requires.0) a.outbox.now c.loop-j.outbox m' j
          (omega (arith, slot_within s.n (width a.layout) j (omega (arith, c.loop-j-test.true)), next_offset j (width a.layout), c.requires.1))
          c.loop-j.invariant.2 (two_pieces_is s.k s.t s.own s.block.now (j + 1) ∙ ap bytes (sym pair)) long,
    )
