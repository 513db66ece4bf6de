-- `append_results` meets its contract.
use native.Mathlib.Omega.{arith}
use mathlib.Core.Path.{refl, subst, sym, ap, ◌∙◌}
use lib.ListN.{length, take}
use Prim.Native.Nat.{◌+◌, ◌<◌}
use Rattle.text.specs.declared.writer.Writer.{Writer}
use Rattle.simulator.specs.declared.run.Controller.{Controller}
use Rattle.simulator.specs.Steps.{Wrote, zero_controller}
use Rattle.simulator.proofs.Writing.{adds, after, front_most, get_or_inside, lines, lines_le, lines_start, turn_correct, turn_faulty}
use Rattle.simulator.proofs.lines.append_results.Goals as goal
use Rattle.simulator.proofs.lines.append_results.Goals.{then-not-member, else-not-member}

pub loop-i-init : goal.loop-i-init
loop-i-init c = record { same = refl; wrote = lines_start c.args.file.now.faulty c.args.controllers.now c.args.b c.requires.2 }

pub append_result-requires : goal.append_result-requires
append_result-requires c =
    let a = c.args in
    let q = c.requires in
    let i = c.loop-i.i in
    let l = lines_le a.file.now.faulty a.controllers.now a.b i (omega arith) q.1 in
    let s = adds q.2 (omega (arith, l)) c.loop-i.invariant.wrote in
    (omega arith, front_most a.b _ q.1, after s 395 (omega (arith, l)))

pub loop-i-preserved : goal.loop-i-preserved
loop-i-preserved c =
    let a = c.args in
    let q = c.requires in
    let i = c.loop-i.i in
    let l = lines_le a.file.now.faulty a.controllers.now a.b i (omega arith) q.1 in
    let s = adds q.2 (omega (arith, l)) c.loop-i.invariant.wrote in
    let n : i < length a.controllers.now = omega arith in
    elim c.if-not-member.branch [
      | then-not-member w ↦
          let v = turn_correct a.file.now.faulty a.controllers.now a.b i s (sym c.member.ensures ∙ w.if-not-member.true)
          (ap (λ (x : Controller). x.state.outcome) (get_or_inside a.controllers.now i _ zero_controller n))
          (ap (λ (x : Controller). take a.b x.block) (get_or_inside a.controllers.now i _ zero_controller n)) w.append_result.ensures.wrote in
          record { same = cc; wrote = subst (λ (x : Writer). Wrote a.w.now.out.now a.w.now.end (lines a.file.now.faulty a.controllers.now a.b (i + 1)) x.out.now x.end) (sym w.w-is) v }
      | else-not-member w ↦
          let v = turn_faulty a.file.now.faulty a.controllers.now a.b i s (sym c.member.ensures ∙ w.if-not-member.false) in
          record { same = cc; wrote = subst (λ (x : Writer). Wrote a.w.now.out.now a.w.now.end (lines a.file.now.faulty a.controllers.now a.b (i + 1)) x.out.now x.end) (sym w.w-is) v }
    ]
