-- `controller::calls::Pending::perform` meets its contract, kind by kind.
use Rattle.protocol.specs.Calls.{Carried, carried, call_of}
use Rattle.protocol.proofs.Laws.{of_send, of_receive, of_compare, of_collect, of_tally, of_hold, of_settle, of_core, of_choose, of_finish, of_outside}
use Rattle.protocol.specs.declared.State.{State}
use Rattle.wire.specs.declared.Call.{Call}
use Rattle.wire.specs.Round.{call_kind}
use Prim.Native.Nat.{ℕ}
use mathlib.Core.List.{List}
use mathlib.Core.Path.{◌≡◌, refl, sym, ap, ◌∙◌}
use Rattle.controller.proofs.calls.Pending.perform.Goals as goal

-- the arm of a kind k: its function leaves x, which is y, and `law` says that the call of that kind leaves y
arm : (s : State) (b i o : List ℕ) {k : Call} {x y : Carried} → k ≡ call_kind s.settings.t s.next → x ≡ y → call_of k s b i o ≡ y
    → x ≡ call_of (call_kind s.settings.t s.next) s b i o
arm s b i o kind e law = e ∙ sym law ∙ ap (λ (k : Call). call_of k s b i o) kind

-- where the block, or the outbox, is not lent to it
beside_block : (b : List ℕ) {x y : Carried} → x ≡ y → carried x.state b x.outbox ≡ carried y.state b y.outbox
beside_block b e = ap (λ (z : Carried). carried z.state b z.outbox) e

beside_outbox : (o : List ℕ) {x y : Carried} → x ≡ y → carried x.state x.block o ≡ carried y.state y.block o
beside_outbox o e = ap (λ (z : Carried). carried z.state z.block o) e

pub returns-in-Send : goal.returns-in-Send
returns-in-Send c =
    arm c.args.self.state c.args.block.now c.args.inbox.now c.args.outbox.now c.in-Send.ensures c.send_call.ensures (of_send _ _ _ _)

pub returns-in-Receive : goal.returns-in-Receive
returns-in-Receive c =
    arm c.args.self.state c.args.block.now c.args.inbox.now c.args.outbox.now c.in-Receive.ensures c.receive_call.ensures
    (of_receive _ _ _ _)

pub returns-in-Compare : goal.returns-in-Compare
returns-in-Compare c =
    arm c.args.self.state c.args.block.now c.args.inbox.now c.args.outbox.now c.in-Compare.ensures c.compare_call.ensures (of_compare _ _ _ _)

pub returns-in-Collect : goal.returns-in-Collect
returns-in-Collect c =
    let a = c.args in
    arm c.args.self.state c.args.block.now c.args.inbox.now c.args.outbox.now c.in-Collect.ensures (beside_block a.block.now c.collect_call.ensures)
    (of_collect _ _ _ _)

pub returns-in-Tally : goal.returns-in-Tally
returns-in-Tally c =
    let a = c.args in
    arm c.args.self.state c.args.block.now c.args.inbox.now c.args.outbox.now c.in-Tally.ensures (beside_block a.block.now c.tally_call.ensures) (of_tally _ _ _ _)

pub returns-in-Hold : goal.returns-in-Hold
returns-in-Hold c =
    let a = c.args in
    arm c.args.self.state c.args.block.now c.args.inbox.now c.args.outbox.now c.in-Hold.ensures (beside_block a.block.now c.hold_call.ensures) (of_hold _ _ _ _)

pub returns-in-Settle : goal.returns-in-Settle
returns-in-Settle c =
    let a = c.args in
    arm c.args.self.state c.args.block.now c.args.inbox.now c.args.outbox.now c.in-Settle.ensures (beside_block a.block.now c.settle_call.ensures)
    (of_settle _ _ _ _)

pub returns-in-Core : goal.returns-in-Core
returns-in-Core c =
    arm c.args.self.state c.args.block.now c.args.inbox.now c.args.outbox.now c.in-Core.ensures c.core_call.ensures (of_core _ _ _ _)

pub returns-in-Choose : goal.returns-in-Choose
returns-in-Choose c =
    arm c.args.self.state c.args.block.now c.args.inbox.now c.args.outbox.now c.in-Choose.ensures c.choose_call.ensures (of_choose _ _ _ _)

pub returns-in-Finish : goal.returns-in-Finish
returns-in-Finish c =
    let a = c.args in
    arm c.args.self.state c.args.block.now c.args.inbox.now c.args.outbox.now c.in-Finish.ensures (beside_outbox a.outbox.now c.finish_call.ensures)
    (of_finish _ _ _ _)

pub returns-in-Outside : goal.returns-in-Outside
returns-in-Outside c =
    arm c.args.self.state c.args.block.now c.args.inbox.now c.args.outbox.now c.in-Outside.ensures refl (of_outside _ _ _ _)
