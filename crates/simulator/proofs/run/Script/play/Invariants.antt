-- `play` meets its contract: the loop makes call after call.
use Rattle.simulator.specs.Play.{given}
use Rattle.simulator.specs.Steps.{AfterCalls, scene, inbox_in}
use Rattle.simulator.proofs.run.Script.play.Given as goal

abbrev pub invariant-loop-c : goal.invariant-loop-c
invariant-loop-c l = AfterCalls (scene l.self.input.now l.self.file.now (given l.self.file.now)) l.c l.controllers l.sent (inbox_in l.self.file.now.settings l.c)
