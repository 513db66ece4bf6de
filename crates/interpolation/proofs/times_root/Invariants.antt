-- `times_root` meets its contract. The invariant: the first places are done, and `before` is the coefficient before the next one.
use Rattle.lists.specs.Fill.{filled}
use Rattle.gf256.specs.Field.{gadd, gmul}
use lib.ListN.{get_or}
use mathlib.Core.List.{◌∷◌}
use mathlib.Core.Path.{◌≡◌}
use Rattle.interpolation.proofs.times_root.Given as goal

abbrev pub invariant-loop-c : goal.invariant-loop-c
invariant-loop-c l =
    (l.before ≡ get_or (0 ∷ l.initial.p) l.c-index 0) × (l.p ≡ filled (λ j. gadd (get_or (0 ∷ l.initial.p) j 0) (gmul l.x (get_or l.initial.p j 0))) l.c-index l.initial.p)
