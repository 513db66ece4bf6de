-- `share_own` meets its contract.
use Rattle.reed_solomon.proofs.Laws.{coded_ok, coded_piece}
use Rattle.reconstruction.proofs.Choice.{sent_some}
use Rattle.reed_solomon.proofs.Laws.{length_piece}
use Rattle.reed_solomon.specs.Encode.{piece_of}
use Rattle.wire.specs.Slot.{to_all}
use Rattle.lists.proofs.Zeros.{length_front}
use native.Mathlib.Omega.{arith}
use Prim.Native.Nat.{ℕ}
use mathlib.Core.List.{List}
use mathlib.Core.Path.{ap, ◌∙◌}
use Rattle.reconstruction.proofs.share_own.Goals as goal

pub unwrap-requires : goal.unwrap-requires
unwrap-requires c =
    coded_ok c.requires.0 c.encode.result _ c.encode.new.piece (length_front 128 c.args.s.k c.requires.0.coded.k_most) c.encode.ensures

pub returns : goal.returns
returns c =
    let a = c.args in
    let p = piece_of a.s.k a.s.t a.block.now a.own in
    c.send_all.ensures
    ∙ ap (λ (m : List ℕ). to_all a.out a.s.n m a.outbox.now)
    (coded_piece c.requires.0 c.encode.result _ c.encode.new.piece (length_front 128 a.s.k c.requires.0.coded.k_most) c.encode.ensures)
    ∙ sent_some a.out a.s.n p a.outbox.now (λ z. omega (arith, z, length_piece a.s.k a.s.t a.block.now a.own, c.requires.0.coded.k_least))
