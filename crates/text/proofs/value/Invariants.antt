-- `text::value` meets its contract: what the whole field says is what the rest says after x, and x is at most high.
use Rattle.std.proofs.Common.{◌≡◌, ◌≤◌, drop}
use Rattle.text.specs.Steps.{capped}
use Rattle.text.proofs.value.Given as goal

abbrev pub invariant-loop-b : goal.invariant-loop-b
invariant-loop-b l = (l.x ≤ l.high) × (capped l.high l.x (drop l.b-index l.f) ≡ capped l.high 0 l.f)
