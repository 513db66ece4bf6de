-- The number that is returned for an answer: 0, or that of the row by which a call is refused.
--   row_of r     the number of a row
--   number_of a  0 for Ok, and for Err the number of the row; of an answer Result<(), Refusal> it says all (law `one_answer`)
use Rattle.std.specs.Prelude.{ℕ, Result, Ok, Err}
use Rattle.settings.specs.declared.Refusal.{Refusal}
use Rattle.settings.specs.declared.Refusal.TheVariants.{Controllers, Tolerance, Stripes, Number, Sender, Length, State, Finished}

abbrev pub row_of : Refusal → ℕ
row_of Controllers = 1
row_of Tolerance = 2
row_of Stripes = 3
row_of Number = 4
row_of Sender = 5
row_of Length = 6
row_of State = 7
row_of Finished = 8

abbrev pub number_of : {A : Type 0} → Result A Refusal → ℕ
number_of (Ok a) = 0
number_of (Err r) = row_of r
