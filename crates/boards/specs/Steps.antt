-- For the contracts of private functions; a reader of the public contracts needs none of it.
--   outcome_or_row a   the number of an outcome, or that of the row by which it is refused
use Rattle.std.specs.Prelude.{ℕ, Result, Ok, Err}
use Rattle.settings.specs.declared.Refusal.{Refusal}
use Rattle.settings.specs.Number.{row_of}
use Rattle.reconstruction.specs.declared.Outcome.{Outcome}
use Rattle.reconstruction.specs.Outcomes.{outcome_number}

abbrev pub outcome_or_row : Result Outcome Refusal → ℕ
outcome_or_row (Ok o) = outcome_number o
outcome_or_row (Err r) = row_of r
