-- What demand 3 says of the simulator's output (document 01, 'The house program': who stands under `from` is faulty; one line for each of the
-- others).
--   OneOutput input c  for the file `input`, which says c: the lines of the correct controllers differ in their numbers only; if the sender is correct,
--                      or there is none (document 02, U6), they say agreed and the block that the file gives
--   SimulatorAgrees    a file that has its form and has at most t faulty controllers has one output
use Rattle.std.specs.Prelude.{◌≡◌, false, List, ◌++◌, ℕ, ◌+◌, ◌≤◌}
use Rattle.lists.specs.Sum.{count}
use Rattle.reconstruction.specs.declared.Outcome.{Outcome}
use Rattle.reconstruction.specs.declared.Outcome.TheVariants.{Agreed}
use Rattle.system_file.specs.Form.{Contents, right, read_of}
use Rattle.system_file.specs.Table.{is_faulty}
use Rattle.simulator.specs.Output.{names_line, results, simulated}

pub record OneOutput (input : List ℕ) (c : Contents) : Type 0 where
  pub outcome : Outcome
  pub block : List ℕ
  pub lines : simulated input ≡ names_line ++ results (is_faulty c.messages) (λ _. outcome) (λ _. block) c.settings.n
  pub sender-agreed : 1 ≤ c.settings.sender → is_faulty c.messages c.settings.sender ≡ false → (outcome ≡ Agreed) × (block ≡ c.block)
  pub alike-agreed : c.settings.sender ≡ 0 → (outcome ≡ Agreed) × (block ≡ c.block)

abbrev pub SimulatorAgrees : Type 0
SimulatorAgrees =
    (input : List ℕ) (c : Contents) → read_of input ≡ right c → count c.settings.n (λ i. is_faulty c.messages (i + 1)) ≤ c.settings.t → OneOutput input c
