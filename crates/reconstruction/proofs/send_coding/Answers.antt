-- `send_coding` meets its contract.
use Rattle.reed_solomon.proofs.Laws.{coded_ok, coded_piece}
use Rattle.reconstruction.proofs.Pieces.{pieces, sized_pieces}
use Rattle.reed_solomon.specs.Encode.{piece_of, Coding}
use Rattle.wire.proofs.Laws.{slots_start, put_next_slot}
use Rattle.wire.specs.Slot.{width, bytes}
use Rattle.lists.proofs.Parts.{slot_within, next_offset}
use Rattle.lists.proofs.Zeros.{length_front}
use native.Mathlib.Omega.{arith}
use Prim.Native.Nat.{◌+◌}
use mathlib.Core.Path.{◌≡◌, refl, sym, ap, ◌∙◌}
use Rattle.reconstruction.proofs.send_coding.Goals as goal

pub loop-j-init : goal.loop-j-init
loop-j-init c =
    let a = c.args in
    (length_front 128 a.s.k c.requires.0.k_most, slots_start a.layout (pieces a.s.k a.s.t a.block.now) a.outbox.now 0 refl)

pub unwrap-requires : goal.unwrap-requires
unwrap-requires c =
    let a = c.args in
    let v : Coding a.s.n a.s.t a.s.k (c.loop-j.j + 1) a.block.now = record { coded = c.requires.0; number = record { least = omega arith; most = omega arith }; size = c.requires.1 } in
    coded_ok v c.encode.result _ c.encode.new.piece c.loop-j.invariant.0 c.encode.ensures

pub loop-j-preserved : goal.loop-j-preserved
loop-j-preserved c =
    let a = c.args in
    let j = c.loop-j.j in
    let f = pieces a.s.k a.s.t a.block.now in
    let v : Coding a.s.n a.s.t a.s.k (j + 1) a.block.now = record { coded = c.requires.0; number = record { least = omega arith; most = omega arith }; size = c.requires.1 } in
    let p : c.encode.new.piece ≡ piece_of a.s.k a.s.t a.block.now (j + 1) = coded_piece v c.encode.result _ c.encode.new.piece c.loop-j.invariant.0 c.encode.ensures in
    let long = c.encode.auto.piece ∙ c.loop-j.invariant.0 in (
      long,
      c.send_one.ensures
          ∙ put_next_slot a.layout f (sized_pieces a.layout a.s.k a.s.t a.block.now c.requires.2) a.outbox.now c.loop-j.outbox c.encode.new.piece j
          (omega (arith, slot_within a.s.n (width a.layout) j (omega arith), next_offset j (width a.layout), c.requires.3)) c.loop-j.invariant.1
          (ap bytes (sym p)) (long ∙ sym c.requires.2),
    )
