-- What demand 3 says of a simulated run (document 01, 'The house program': the others follow the steps).
--   Tolerated F       at most t controllers are faulty
--   OneResult F       the correct controllers end with one outcome and one block: with agreed and the block given, if the sender is correct or
--                     there is none (document 02, U6: then every correct controller starts with it)
--   SimulationAgrees  a run of a proper scenario with at most t faulty controllers has one result
use Rattle.std.specs.Prelude.{◌≡◌, false, List, ℕ, ◌+◌, ◌≤◌}
use Rattle.lists.specs.Sum.{count}
use Rattle.reconstruction.specs.declared.Outcome.{Outcome}
use Rattle.reconstruction.specs.declared.Outcome.TheVariants.{Agreed}
use Rattle.simulation.specs.Run.{Scenario, Proper, ended}

abbrev pub Tolerated : Scenario → Type 0
Tolerated F = count F.settings.n (λ i. F.faulty (i + 1)) ≤ F.settings.t

pub record OneResult (F : Scenario) : Type 0 where
  pub outcome : Outcome
  pub block : List ℕ
  -- each correct controller ends with both
  pub all : (i : ℕ) → 1 ≤ i → i ≤ F.settings.n → F.faulty i ≡ false → ((ended F i).state.outcome ≡ outcome) × ((ended F i).block ≡ block)
  -- a correct sender's block is agreed on, and without a sender the one that all correct controllers start with
  pub sender-agreed : 1 ≤ F.settings.sender → F.faulty F.settings.sender ≡ false → (outcome ≡ Agreed) × (block ≡ F.block)
  pub alike-agreed : F.settings.sender ≡ 0 → (outcome ≡ Agreed) × (block ≡ F.block)

abbrev pub SimulationAgrees : Type 0
SimulationAgrees = (F : Scenario) → Proper F → Tolerated F → OneResult F
