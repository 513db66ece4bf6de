-- `Pair::divide` meets its contract. The invariant: the coefficients written, with the series of what is left, are the series.
use Rattle.interpolation.specs.Interpolation.{series}
use lib.ListN.{length, take}
use Prim.Native.Nat.{◌-◌}
use mathlib.Core.List.{◌++◌}
use mathlib.Core.Path.{◌≡◌}
use Rattle.interpolation.proofs.Pair.divide.Given as goal

abbrev pub invariant-loop-x : goal.invariant-loop-x
invariant-loop-x l =
    (l.self.e.now ≡ l.initial.self.e.now) × (length l.self.q.now ≡ length l.initial.self.q.now)
    × (take l.x-index l.m ++ series (length l.initial.m - l.x-index) l.self.q.now l.self.e.now
    ≡ series (length l.initial.m) l.initial.self.q.now l.initial.self.e.now)
