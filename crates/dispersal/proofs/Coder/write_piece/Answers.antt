-- `Coder::write_piece` meets its contract.
use Rattle.reed_solomon.proofs.Laws.{coded_ok, coded_piece}
use Rattle.dispersal.proofs.Steps.{length-part, put_piece}
use Rattle.reed_solomon.specs.Encode.{Coding}
use Rattle.dispersal.proofs.Coder.write_piece.Goals as goal

pub unwrap-requires : goal.unwrap-requires
unwrap-requires c =
    let s = c.args.self.now in
    let v : Coding s.n s.t s.k c.args.j s.block.now = record { coded = s.ready.coded; number = c.requires.0; size = s.ready.size } in
    coded_ok v c.encode.result _ c.encode.new.piece (length-part c.args.at s.k c.args.m.now c.requires.1) c.encode.ensures

pub returns : goal.returns
returns c =
    let s = c.args.self.now in
    let v : Coding s.n s.t s.k c.args.j s.block.now = record { coded = s.ready.coded; number = c.requires.0; size = s.ready.size } in
    put_piece c.args.at s.k c.args.m.now _ _
    (coded_piece v c.encode.result _ c.encode.new.piece (length-part c.args.at s.k c.args.m.now c.requires.1) c.encode.ensures)
