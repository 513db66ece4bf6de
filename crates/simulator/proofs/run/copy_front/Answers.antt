-- `copy_front` meets its contract: the front of an array is lent.
use Rattle.std.proofs.Common.{arith, ◌∙◌}
use lib.Seq.{length-take-le, take_at}
use Rattle.simulator.proofs.run.copy_front.Goals as goal

pub returns : goal.returns
returns c =
    let e = c.copy_from_slice.ensures in
    take_at c.copy_from_slice.new.self _ c.args.o (e.len ∙ length-take-le c.args.o c.args.to.now (omega (arith, c.told-to, c.requires))) ∙ e.after
