-- `Coder::new` meets its contract.
use Rattle.reed_solomon.proofs.Laws.{ready_yes}
use mathlib.Core.Path.{sym, ◌∙◌}
use Rattle.dispersal.proofs.Coder.new.Goals as goal

pub invariant_of-result : goal.invariant_of-result
invariant_of-result c =
    let a = c.args in
    record { ready = (ready_yes a.s.n a.s.t a.s.k a.own a.block.now a.fits (sym c.is_ready.ensures ∙ c.if-not-is_ready.false)).0 }
