-- `is_given` meets its contract. The invariant: no receiver before j has a place.
use Rattle.std.proofs.Common.{◌≡◌, ℕ, ◌+◌, ◌<◌, false, get_or}
use Rattle.system_file.specs.Steps.{is_taken}
use Rattle.system_file.proofs.table.is_given.Given as goal

abbrev pub invariant-loop-j : goal.invariant-loop-j
invariant-loop-j l = (i : ℕ) → i < l.j → is_taken (get_or l.row i 0) l.to (i + 1) ≡ false
