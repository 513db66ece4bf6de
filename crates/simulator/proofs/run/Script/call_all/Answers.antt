-- `call_all` meets its contract.
use Rattle.std.proofs.Common.{arith, ap, sym, ◌∙◌, ◌+◌, []}
use Rattle.simulator.specs.declared.run.Controller.{Controller}
use Rattle.simulator.specs.Steps.{scene, stepped, zero_controller}
use Rattle.simulator.proofs.Writing.{get_or_inside}
use Rattle.simulator.proofs.Turns.{turn_start, turn_correct, turn_faulty, turned_called}
use Rattle.simulator.proofs.run.Script.call_all.Goals as goal
use Rattle.simulator.proofs.run.Script.call_all.Goals.{then-not-member, else-not-member}

pub loop-i-init : goal.loop-i-init
loop-i-init c = turn_start c.args.self.now.input.now c.args.self.now.file.now c.args.c c.args.controllers.now c.args.sent.now c.args.sending.now

pub loop-i-preserved : goal.loop-i-preserved
loop-i-preserved c =
    let a = c.args in
    let f = a.self.now.file.now in
    let i = c.loop-i.i in
    let few = a.self.now.playable.small.coded.quorum.n_most in
    let T = c.loop-i.invariant in
    elim c.if-not-member.branch [
      | then-not-member w ↦
          let e = w.call.ensures ∙ ap (λ (x : Controller). stepped (scene a.self.now.input.now f []) a.c x a.sent.now (i + 1)) (get_or_inside c.loop-i.controllers i _ zero_controller (omega (arith, few))) in
          rw w.controllers-is (rw w.sending-is (turn_correct T (sym c.member.ensures ∙ w.if-not-member.true) (omega (arith, few)) (omega (arith, few, c.told-sending)) w.call.result w.call.new.outbox e))
      | else-not-member w ↦ rw w.controllers-is (rw w.sending-is (turn_faulty T (sym c.member.ensures ∙ w.if-not-member.false)))
    ]

pub returns : goal.returns
returns c = turned_called c.loop-i.invariant (omega arith)
