-- The whole run. The main laws: `run_output` (what it ends with is the output), `file_playable` (what a file says can be played).
use mathlib.Core.Path.{◌≡◌, refl, sym, ap, subst, ◌∙◌}
use mathlib.Core.List.{List, ◌++◌}
use Prim.Native.Nat.{ℕ, ◌+◌, ◌-◌, ◌*◌}
use native.Mathlib.Omega.{arith}
use lib.ListN.{length, get_or, take}
use Rattle.std.specs.Prelude.{Ok}
use Rattle.bitset.specs.Set.{member, set_of}
use Rattle.text.specs.Write.{padded}
use Rattle.system_file.specs.declared.SystemFile.{SystemFile}
use Rattle.system_file.specs.Form.{Contents, right, read_of}
use Rattle.system_file.specs.Table.{is_faulty, table_of, file_of, Properly}
use Rattle.system_file.proofs.Laws.{read_right, table_room, file_right}
use Rattle.simulation.specs.Run.{ended}
use Rattle.simulator.specs.Output.{names_line, output_of, simulated}
use Rattle.simulator.specs.declared.run.Controller.{Controller}
use Rattle.simulator.specs.Play.{FileSettings, Playable, block_in, given}
use Rattle.simulator.specs.Steps.{AfterCalls, scene, zero_controller, results_of}
use Rattle.simulator.proofs.Running.{block_le}
use Rattle.simulator.proofs.Writing.{take-padded}
use Rattle.simulator.proofs.Outputs.{results-alike, output_is, simulated_right, table_output}

module _ (input : List ℕ) (c : Contents) (e : read_of input ≡ right c) {file : SystemFile} (is : Ok file ≡ file_of (right c)) where
  proper : Properly input c
  proper = read_right input c e

  small : FileSettings c.settings
  small = record { coded = proper.coded; few-stripes = proper.stripes }

  answer : SystemFile
  answer = record {
    settings = c.settings;
    block = padded 192 c.block;
    faulty = set_of 16 (λ i. is_faulty c.messages (i + 1));
    places = table_of c.messages;
  }

  file_is : file ≡ answer
  unfolding answer
  file_is = cc

  block_is : take (block_in c.settings) (padded 192 c.block) ≡ c.block
  block_is = take-padded 192 c.block (block_in c.settings) (omega (arith, proper.block_length, block_le small)) (sym proper.block_length)

  given_is : given file ≡ c.block
  unfolding answer
  given_is = ap given file_is ∙ block_is

  playable : Playable input file
  unfolding answer
  playable =
      subst (Playable input) (sym file_is)
      (record {
        small = small;
        rooms = record { input_most = proper.size; room = table_room input c e };
        block_is = ap length block_is ∙ proper.block_length;
      })

-- what a file says can be played
pub file_playable : (input : List ℕ) {file : SystemFile} → Ok file ≡ file_of (read_of input) → Playable input file
file_playable input {file} is =
    let q = file_right (read_of input) file is in
    playable input q.0 q.1 (is ∙ ap file_of q.1)

-- what it ends with
pub run_output : (input : List ℕ) {file : SystemFile} → Ok file ≡ file_of (read_of input) → (cs : List Controller) (sent : List (List ℕ)) (o : ℕ)
    → AfterCalls (scene input file (given file)) (3 * file.settings.t + 9) cs sent o
    → names_line ++ results_of file (block_in file.settings) cs ≡ simulated input
run_output input {file} is cs sent o H =
    let q = file_right (read_of input) file is in
    let F = scene input file (given file) in
    ap (λ (l : List ℕ). names_line ++ l)
    (results-alike (λ i. member file.faulty (i - 1)) (λ i. member file.faulty (i - 1)) (λ i. (get_or cs (i - 1) zero_controller).state.outcome)
    (λ i. (ended F i).state.outcome) (λ i. take (block_in file.settings) (get_or cs (i - 1) zero_controller).block) (λ i. (ended F i).block)
    file.settings.n (λ i l m. refl) (λ i l m _. (ap (λ s. s.outcome) (H.state i l m), H.block i l m)))
    ∙ sym (output_is F) ∙ ap (λ (b : List ℕ). output_of (scene input file b)) (given_is input q.0 q.1 (is ∙ ap file_of q.1))
    ∙ table_output input q.0 q.1 file (is ∙ ap file_of q.1) ∙ sym (simulated_right input q.0 q.1)
