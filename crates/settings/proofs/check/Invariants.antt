-- `settings::check` meets its contract: the first broken row is the first of those that are left.
use Rattle.std.proofs.Common.{◌≡◌, map, drop}
use Rattle.settings.specs.Refusal.{broken, refusal_of, first_of}
use Rattle.settings.specs.Number.{row_of}
use Rattle.settings.proofs.check.Given as goal

abbrev pub invariant-loop-row : goal.invariant-loop-row
invariant-loop-row l =
    first_of (broken l.s l.number l.fits) (map row_of (drop l.row-index l.row-items)) ≡ refusal_of l.fn.entry l.s l.number l.fits
