-- Laws of the simulator's output. The main ones: `simulated_right` and `simulated-wrong` (the output by what was read), `results-alike` (the lines
-- depend on who is faulty and on outcome and block of the correct controllers only), `scenario_proper` (a file that has its form says a proper
-- scenario), `table_output` (the scenario of the reader's table has the same output).
use mathlib.Core.Path.{◌≡◌, refl, sym, ap, ap₂, ◌∙◌}
use mathlib.Core.Bool.{Bool, true, false, cond}
use mathlib.Core.List.{List, [], ◌++◌}
use Prim.Native.Nat.{ℕ, zero, suc, ◌+◌, ◌-◌, ◌*◌, ◌≤◌}
use native.Mathlib.Omega.{arith}
use Rattle.bitset.specs.Set.{member, set_of}
use Rattle.wire.specs.Length.{message_length}
use Rattle.reconstruction.specs.declared.Outcome.{Outcome}
use Rattle.std.specs.Prelude.{Ok}
use Rattle.text.specs.Write.{padded}
use Rattle.system_file.specs.declared.SystemFile.{SystemFile}
use Rattle.system_file.specs.Form.{Contents, wrong, right, read_of}
use Rattle.system_file.specs.Table.{is_faulty, text_of, said_of, table_of, place_in, file_of}
use Rattle.system_file.proofs.Laws.{read_right, said_is, said_cases, said_bytes, table_place, faulty-member}
use Rattle.simulation.specs.Run.{Scenario, Playing, Proper, ended}
use Rattle.simulation.proofs.Laws.{played-alike}
use Rattle.simulator.specs.Output.{names_line, result_line, results, output_of, bad_line, scenario_of, written_for, simulated}
use Rattle.simulator.specs.Steps.{scene}

pub results-alike : (faulty faulty' : ℕ → Bool) (w w' : ℕ → Outcome) (b b' : ℕ → List ℕ) (n : ℕ) → ((i : ℕ) → 1 ≤ i → i ≤ n → faulty i ≡ faulty' i)
    → ((i : ℕ) → 1 ≤ i → i ≤ n → faulty i ≡ false → (w i ≡ w' i) × (b i ≡ b' i)) → results faulty w b n ≡ results faulty' w' b' n
unfolding results
results-alike faulty faulty' w w' b b' zero e h = refl
results-alike faulty faulty' w w' b b' (suc n) e h =
    ap₂ ◌++◌ (results-alike faulty faulty' w w' b b' n (λ i l m. e i l (omega arith)) (λ i l m. h i l (omega arith)))
    (go (faulty (suc n)) (h (suc n) (omega arith) (omega arith))
    ∙ ap (λ (x : Bool). cond x [] (result_line (suc n) (w' (suc n)) (b' (suc n)))) (e (suc n) (omega arith) (omega arith)))
  where
    go : (x : Bool) → (x ≡ false → (w (suc n) ≡ w' (suc n)) × (b (suc n) ≡ b' (suc n)))
        → cond x [] (result_line (suc n) (w (suc n)) (b (suc n))) ≡ cond x [] (result_line (suc n) (w' (suc n)) (b' (suc n)))
    go true g = refl
    go false g = ap₂ (result_line (suc n)) (g refl).0 (g refl).1

-- the output by what was read
pub simulated_right : (input : List ℕ) (c : Contents) → read_of input ≡ right c → simulated input ≡ output_of (scenario_of input c)
unfolding simulated written_for
simulated_right input c e = ap (written_for input) e

pub simulated-wrong : (input : List ℕ) (x : ℕ) → read_of input ≡ wrong x → simulated input ≡ bad_line x
unfolding simulated written_for
simulated-wrong input x e = ap (written_for input) e

pub output_is : (F : Scenario) → output_of F ≡ names_line ++ results F.faulty (λ i. (ended F i).state.outcome) (λ i. (ended F i).block) F.settings.n
unfolding output_of
output_is F = refl

pub scenario_proper : (input : List ℕ) (c : Contents) → read_of input ≡ right c → Proper (scenario_of input c)
scenario_proper input c e =
    let q = read_right input c e in
    record {
      coded = q.coded;
      sender-most = q.sender;
      block_length = q.block_length;
      block-bytes = q.block-bytes;
      said_length = said_cases input c e;
      said_bytes = said_bytes input c;
    }

-- the scenario of the table
reader_output : (input : List ℕ) (c : Contents) → read_of input ≡ right c
    → output_of (scene input (record { settings = c.settings; block = padded 192 c.block; faulty = set_of 16 (λ i. is_faulty c.messages (i + 1)); places = table_of c.messages }) c.block)
    ≡ output_of (scenario_of input c)
reader_output input c e =
    let q = read_right input c e in
    let few = q.coded.quorum.n_most in
    let set = set_of 16 (λ i. is_faulty c.messages (i + 1)) in
    let T = scene input (record { settings = c.settings; block = padded 192 c.block; faulty = set; places = table_of c.messages }) c.block in
    let F = scenario_of input c in
    let faulty : (j : ℕ) → 1 ≤ j → j ≤ c.settings.n → member set (j - 1) ≡ is_faulty c.messages j =
    λ j a b.
    let back : j - 1 + 1 ≡ j = omega arith in
    faulty-member c (j - 1) (omega (arith, few)) ∙ ap (is_faulty c.messages) back in
    let said : (r f j : ℕ) → 1 ≤ r → r ≤ 3 * c.settings.t + 8 → 1 ≤ f → f ≤ c.settings.n → 1 ≤ j → j ≤ c.settings.n
    → text_of input (message_length c.settings.n c.settings.t c.settings.k r) (place_in (table_of c.messages) r f j) ≡ said_of input c r f j =
    λ r f j a b d g h k.
    ap (text_of input (message_length c.settings.n c.settings.t c.settings.k r))
    (table_place c.messages r f j a (omega (arith, few, q.coded.quorum.t_most)) d (omega (arith, few)) h (omega (arith, few)))
    ∙ sym (said_is input c r f j) in
    let same : (i : ℕ) → 1 ≤ i → i ≤ c.settings.n → ended T i ≡ ended F i =
    λ i a b. played-alike c.settings c.block (λ j. member set (j - 1)) (is_faulty c.messages)
    (λ r f j. text_of input (message_length c.settings.n c.settings.t c.settings.k r) (place_in (table_of c.messages) r f j))
    (said_of input c) faulty said (3 * c.settings.t + 9) i (omega arith) a b in
    output_is T
    ∙ ap (λ (l : List ℕ). names_line ++ l)
    (results-alike (λ j. member set (j - 1)) (is_faulty c.messages) (λ i. (ended T i).state.outcome) (λ i. (ended F i).state.outcome)
    (λ i. (ended T i).block) (λ i. (ended F i).block) c.settings.n faulty
    (λ i a b _. (ap (λ (p : Playing). p.state.outcome) (same i a b), ap (λ (p : Playing). p.block) (same i a b))))
    ∙ sym (output_is F)

-- whatever holds the reader's answer
pub table_output : (input : List ℕ) (c : Contents) → read_of input ≡ right c → (file : SystemFile) → Ok file ≡ file_of (right c)
    → output_of (scene input file c.block) ≡ output_of (scenario_of input c)
table_output input c e file is =
    let answer : SystemFile = record {
      settings = c.settings;
      block = padded 192 c.block;
      faulty = set_of 16 (λ i. is_faulty c.messages (i + 1));
      places = table_of c.messages;
    } in
    let u : file ≡ answer = cc in
    ap (λ (f : SystemFile). output_of (scene input f c.block)) u ∙ reader_output input c e
