-- `scale` meets its contract. The invariant: the elements before the index are multiplied.
use mathlib.Core.Path.{◌≡◌}
use lib.ListN.{get_or}
use Rattle.lists.specs.Fill.{filled}
use Rattle.gf256.specs.Field.{gmul}
use Rattle.gf256.proofs.scale.Given as goal

abbrev pub invariant-loop-x : goal.invariant-loop-x
invariant-loop-x l = l.p ≡ filled (λ j. gmul l.a (get_or l.initial.p j 0)) l.x-index l.initial.p
