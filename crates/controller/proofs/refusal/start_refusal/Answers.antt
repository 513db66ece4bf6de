-- `controller::refusal::start_refusal` meets its contract.
use Rattle.protocol.proofs.Laws.{start_by_size}
use Rattle.settings.specs.Refusal.{refusal_of}
use Rattle.settings.specs.declared.Entry.TheVariants.{Start}
use lib.Dec.{eqb}
use Prim.Native.Nat.{ℕ}
use mathlib.Core.Path.{ap, ◌∙◌}
use Rattle.controller.proofs.refusal.start_refusal.Goals as goal

pub returns : goal.returns
returns c =
    let a = c.args in
    c.check.ensures
    ∙ ap (λ (x : ℕ). refusal_of Start a.s a.own (eqb a.b x)) c.block_length.ensures
    ∙ start_by_size a.s a.own a.b
