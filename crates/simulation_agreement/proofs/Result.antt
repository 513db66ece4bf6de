-- A simulated run with at most t faulty controllers has one result: `one_result`.
use mathlib.Core.Path.{◌≡◌, refl, sym, ap, ◌∙◌}
use mathlib.Core.Bool.{not}
use Prim.Native.Nat.{ℕ, ◌+◌}
use native.Mathlib.Omega.{arith}
use Rattle.lists.proofs.Sums.{count-not, count-member}
use Rattle.protocol.specs.declared.State.{State}
use Rattle.agreement.specs.Agreement.{Correct, StartedAlike, outcome_of, block_of}
use Rattle.agreement.proofs.Laws.{by_index, agreement}
use Rattle.simulation.specs.Run.{Scenario, Proper, ended}
use Rattle.simulation_agreement.specs.Simulation.{Tolerated, SimulationAgrees}
use Rattle.simulation_agreement.proofs.Run.{system_of, number_of, not-faulty, run_supposed, run_ends}

-- of n controllers, at least 3t + 1, one is correct
some_correct : (F : Scenario) (p : Proper F) → Tolerated F → (x : ℕ) × Correct (system_of F p) (x + 1)
some_correct F p few =
    let q = p.coded.quorum.t_most in
    let r = count-member F.settings.n (λ i. not (F.faulty (i + 1))) (omega (arith, few, count-not F.settings.n (λ i. F.faulty (i + 1)))) in
    (r.0, by_index (system_of F p) r.0 (r.1, r.2))

pub one_result : SimulationAgrees
one_result F p few =
    let S = system_of F p in
    let C = agreement S (run_supposed F p few) in
    let w = some_correct F p few in
    let a = w.0 + 1 in
    let f = w.1 in
    let shown : (i : ℕ) → Correct S i → ((ended F i).state.outcome ≡ outcome_of S i) × ((ended F i).block ≡ block_of S i) =
    λ i g.
    let e = run_ends F p i (number_of F p i g) (not-faulty F p i g) in
    (sym (ap (λ (s : State). s.outcome) e.0), sym e.1) in
    record {
      outcome = (ended F a).state.outcome;
      block = (ended F a).block;
      all = λ i least most y.
          let g : Correct S i = record { least = least; most = most; is = ap not y } in (
            (shown i g).0 ∙ C.same_outcome i a g f ∙ sym (shown a f).0,
            (shown i g).1 ∙ C.same_block i a g f ∙ sym (shown a f).1,
          );
      sender-agreed = λ least y.
          let g : Correct S F.settings.sender = record { least = least; most = p.sender-most; is = ap not y } in
          ((shown a f).0 ∙ C.sender-outcome a g f, (shown a f).1 ∙ C.sender-block a g f);
      alike-agreed = λ z.
          let g : StartedAlike S F.block = record { no_sender = z; alike = λ i h. refl } in
          ((shown a f).0 ∙ C.alike-outcome a F.block g f, (shown a f).1 ∙ C.alike-block a F.block g f);
    }
