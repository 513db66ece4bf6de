-- The outcomes with document 01's number and word for each: the numbers in the order of 'The house', the words as the simulator prints them.
--   Listed, listed w  the number and the word of an outcome, in bytes
--   outcome_number w  its number
--   outcome_word w    its word
--   outcome_from x    the outcome of a number; open where it is no outcome's
use Rattle.std.specs.Prelude.{cond, List, [], ◌∷◌, ℕ, eqb}
use Rattle.reconstruction.specs.declared.Outcome.{Outcome}
use Rattle.reconstruction.specs.declared.Outcome.TheVariants.{Open, Agreed, None, Beyond}

pub record Listed : Type 0 where
  pub number : ℕ
  pub word : List ℕ

abbrev pub listed : Outcome → Listed
listed Open = record { number = 0; word = 0x6f ∷ 0x70 ∷ 0x65 ∷ 0x6e ∷ [] }
listed Agreed = record { number = 1; word = 0x61 ∷ 0x67 ∷ 0x72 ∷ 0x65 ∷ 0x65 ∷ 0x64 ∷ [] }
listed None = record { number = 2; word = 0x6e ∷ 0x6f ∷ 0x6e ∷ 0x65 ∷ [] }
listed Beyond = record { number = 3; word = 0x62 ∷ 0x65 ∷ 0x79 ∷ 0x6f ∷ 0x6e ∷ 0x64 ∷ [] }

abbrev pub outcome_number : Outcome → ℕ
outcome_number w = (listed w).number

abbrev pub outcome_word : Outcome → List ℕ
outcome_word w = (listed w).word

unfoldable pub outcome_from : ℕ → Outcome
outcome_from x = cond (eqb x 1) Agreed (cond (eqb x 2) None (cond (eqb x 3) Beyond Open))
