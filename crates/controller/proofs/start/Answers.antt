-- `controller::start` meets its contract.
use Rattle.protocol.proofs.Laws.{start_found, start_refused}
use Rattle.protocol.specs.Step.{Answer}
use Rattle.protocol.specs.declared.State.{State}
use Rattle.settings.specs.Number.{row_of}
use Rattle.settings.proofs.Laws.{row_least}
use native.Mathlib.Omega.{arith}
use lib.ListN.{length}
use mathlib.Core.Path.{refl, sym, ap, ◌∙◌}
use Rattle.controller.proofs.start.Goals as goal

pub returns-in-Ok : goal.returns-in-Ok
returns-in-Ok c =
    let a = c.args in
    ap {B = Answer} (λ (s : State). record { number = 0; state = s }) c.initial.ensures
    ∙ sym (start_found a.s a.own (length a.block.now) a.run 0 c.in-Ok.ensures refl)

pub returns-in-Err : goal.returns-in-Err
returns-in-Err c =
    let a = c.args in
    let row = row_of c.in-Err.refusal in
    ap {B = Answer} (λ (s : State). record { number = row; state = s }) c.zero_state.ensures
    ∙ sym (start_refused a.s a.own (length a.block.now) a.run row c.in-Err.ensures (λ z. omega (arith, row_least c.in-Err.refusal)))
