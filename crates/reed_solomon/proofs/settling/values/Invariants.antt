-- `values` meets its contract. The invariant: the values of the coefficients from index j on.
use mathlib.Core.Path.{◌≡◌}
use Rattle.reed_solomon.proofs.Right.{values_from}
use Rattle.reed_solomon.proofs.settling.values.Given as goal

abbrev pub invariant-loop-j : goal.invariant-loop-j
invariant-loop-j l = l.out ≡ values_from l.m l.xs l.j
