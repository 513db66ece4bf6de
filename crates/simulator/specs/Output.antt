-- What the simulator writes (document 01, 'The house program'): for a file that has its form a line of names, then one line for each correct
-- controller, in rising order; for any other file one line that says which line is wrong.
--   names_line            controller,outcome,block
--   result_line i w b     number, outcome, block
--   results faulty w b n  the lines of the correct ones among 1 .. n; w and b have the outcome and the block of each
--   output_of F           the output for a scenario
--   bad_line x            the output for a file whose first wrong line is x
--   scenario_of input c   what the simulator plays for a file
--   written_for input r   the output for what was read
--   simulated input       the output for a file: the simulator's definition
use Rattle.std.specs.Prelude.{Bool, cond, List, [], ◌∷◌, ◌++◌, ℕ, zero, suc}
use Rattle.text.specs.Read.{newline, comma}
use Rattle.text.specs.Write.{decimal, hexadecimal}
use Rattle.reconstruction.specs.declared.Outcome.{Outcome}
use Rattle.reconstruction.specs.Outcomes.{outcome_word}
use Rattle.system_file.specs.Form.{Contents, Read, wrong, right, read_of}
use Rattle.system_file.specs.Table.{is_faulty, said_of}
use Rattle.simulation.specs.Run.{Scenario, ended}

abbrev pub names_line : List ℕ
names_line =
    0x63 ∷ 0x6f ∷ 0x6e ∷ 0x74 ∷ 0x72 ∷ 0x6f ∷ 0x6c ∷ 0x6c ∷ 0x65 ∷ 0x72 ∷ 0x2c
    ∷ 0x6f ∷ 0x75 ∷ 0x74 ∷ 0x63 ∷ 0x6f ∷ 0x6d ∷ 0x65 ∷ 0x2c
    ∷ 0x62 ∷ 0x6c ∷ 0x6f ∷ 0x63 ∷ 0x6b ∷ 0x0a ∷ []

unfoldable pub result_line : ℕ → Outcome → List ℕ → List ℕ
result_line i w b = decimal i ++ (comma ∷ (outcome_word w ++ (comma ∷ (hexadecimal b ++ (newline ∷ [])))))

unfoldable pub results : (ℕ → Bool) → (ℕ → Outcome) → (ℕ → List ℕ) → ℕ → List ℕ
results faulty w b zero = []
results faulty w b (suc i) = results faulty w b i ++ cond (faulty (suc i)) [] (result_line (suc i) (w (suc i)) (b (suc i)))

unfoldable pub output_of : Scenario → List ℕ
output_of F = names_line ++ results F.faulty (λ i. (ended F i).state.outcome) (λ i. (ended F i).block) F.settings.n

-- bad,
unfoldable pub bad_line : ℕ → List ℕ
bad_line x = 0x62 ∷ 0x61 ∷ 0x64 ∷ comma ∷ (decimal x ++ (newline ∷ []))

abbrev pub scenario_of : List ℕ → Contents → Scenario
scenario_of input c = record {
  settings = c.settings;
  block = c.block;
  faulty = is_faulty c.messages;
  said = said_of input c;
}

unfoldable pub written_for : List ℕ → Read → List ℕ
written_for input (wrong x) = bad_line x
written_for input (right c) = output_of (scenario_of input c)

unfoldable pub simulated : List ℕ → List ℕ
simulated input = written_for input (read_of input)
