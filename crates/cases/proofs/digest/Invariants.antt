-- `cases::digest` meets its contract: what is left of the slice is digested from r on.
use Rattle.std.proofs.Common.{◌≡◌, drop, map}
use Rattle.cases.specs.Random.{digested}
use Rattle.cases.proofs.digest.Given as goal

abbrev pub invariant-loop-x : goal.invariant-loop-x
invariant-loop-x g l = digested l.r (map g.T.Unsigned.value (drop l.x-index l.s)) ≡ digested l.d (map g.T.Unsigned.value l.s)
