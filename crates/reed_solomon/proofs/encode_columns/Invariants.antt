-- `encode_columns` meets its contract. The invariant: the values of the coefficients from j on.
use mathlib.Core.Path.{◌≡◌}
use lib.ListN.{length}
use Rattle.reed_solomon.specs.Encode.{stripe}
use Rattle.reed_solomon.proofs.Rows.{rows_from}
use Rattle.reed_solomon.proofs.encode_columns.Given as goal

abbrev pub invariant-loop-j : goal.invariant-loop-j
invariant-loop-j l = l.piece ≡ rows_from (length l.initial.column) (stripe l.t l.block) l.x l.j
