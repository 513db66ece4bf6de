-- `state_bytes::offset` meets its contract: the loop adds width after width.
use Rattle.state_bytes.specs.State.{offset}
use mathlib.Core.Path.{◌≡◌}
use Rattle.state_bytes.proofs.offset.Given as goal

abbrev pub invariant-loop-j : goal.invariant-loop-j
invariant-loop-j l = l.a ≡ offset l.j
