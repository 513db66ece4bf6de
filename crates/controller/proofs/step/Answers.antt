-- `controller::step` meets its contract: refused, everything comes back; else the call.
use Rattle.protocol.proofs.Laws.{step_refused, step_carried, step_0}
use Rattle.protocol.specs.Step.{after, done}
use Rattle.settings.proofs.Laws.{row_least}
use lib.ListN.{length}
use native.Mathlib.Omega.{arith}
use Prim.Native.Nat.{ℕ}
use mathlib.Core.Path.{sym, ap, ◌∙◌}
use Rattle.controller.proofs.step.Goals as goal

pub invariant_of-perform : goal.invariant_of-perform
invariant_of-perform c =
    let a = c.args in
    let r = step_0 a.s (length a.block.now) (length a.inbox.now) (length a.outbox.now) (sym c.in-Ok.ensures) in
    record {
      bounded = record {
        few = r.valid.coded.quorum.n_most;
        least = r.next_least;
        most = omega (arith, r.next_most, r.valid.coded.quorum.t_most, r.valid.coded.quorum.n_most);
      };
    }

pub returns-in-Ok : goal.returns-in-Ok
returns-in-Ok c =
    let a = c.args in
    ap done c.perform.ensures ∙ sym (step_carried a.s a.block.now a.inbox.now a.outbox.now (sym c.in-Ok.ensures))

pub returns-in-Err : goal.returns-in-Err
returns-in-Err c =
    let a = c.args in
    ap (λ (x : ℕ). after (record { number = x; state = a.s }) a.block.now a.outbox.now) c.in-Err.ensures
    ∙ sym (step_refused a.s a.block.now a.inbox.now a.outbox.now (λ z. omega (arith, row_least c.in-Err.refusal, c.in-Err.ensures)))
