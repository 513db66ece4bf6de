-- The simulator's output for a file with at most t faulty controllers: `one_output`.
use mathlib.Core.Path.{refl, ap, ◌∙◌}
use mathlib.Core.List.{List, ◌++◌}
use Prim.Native.Nat.{ℕ}
use Rattle.system_file.specs.Table.{is_faulty}
use Rattle.simulation.specs.Run.{ended}
use Rattle.simulator.specs.Output.{names_line, scenario_of}
use Rattle.simulator.proofs.Laws.{results-alike, simulated_right, output_is, scenario_proper}
use Rattle.simulation_agreement.specs.Output.{SimulatorAgrees}
use Rattle.simulation_agreement.proofs.Result.{one_result}

pub one_output : SimulatorAgrees
one_output input c e few =
    let F = scenario_of input c in
    let r = one_result F (scenario_proper input c e) few in
    record {
      outcome = r.outcome;
      block = r.block;
      lines =
          simulated_right input c e
          ∙ output_is F
          ∙ ap (λ (l : List ℕ). names_line ++ l)
          (results-alike (is_faulty c.messages) (is_faulty c.messages) (λ i. (ended F i).state.outcome) (λ _. r.outcome) (λ i. (ended F i).block)
          (λ _. r.block) c.settings.n (λ i l m. refl) r.all);
      sender-agreed = r.sender-agreed;
      alike-agreed = r.alike-agreed;
    }
