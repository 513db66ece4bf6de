-- For the contracts of private functions; a reader of the public contracts needs none of it.
--   layout_in S c           the layout of the slots of round c
--   outbox_in S c           the length of the outbox of call c
--   inbox_in S c            the length of the inbox of the call after c
--   Making ..               what making an inbox finds: a call and a controller of the run, and a cleared inbox
--   scene input file block  the scenario of what the reader answers
--   zero_controller         what stands for a controller that is not there
--   sent_by sent o          what each sent, as the code keeps it: o bytes of its outbox
--   held x b y              what a controller holds whose outbox is y, as the code keeps it: b bytes of its block
--   now_of cs sent S o      what each controller holds
--   taken a                 what is held after a step
--   stepped F c x sent i    what controller i holds after call c + 1, where it held x and all sent what stands in `sent`
--   Called F c now ..       each correct controller made call c + 1, and the others stay
--   AfterCalls F c cs ..    each controller holds what it holds after c calls
--   results_of file b cs    the lines of the correct controllers of a file, with b bytes of each one's block
--   Room out at m           the text ends at `at`, zeros follow, and m more bytes fit
--   Wrote out at s out' r   s was appended
use Rattle.std.specs.Prelude.{◌≡◌, true, false, List, [], ◌++◌, ℕ, ◌+◌, ◌-◌, ◌*◌, ◌≤◌, length, get_or, take, replicate}
use Rattle.bitset.specs.Set.{member}
use Rattle.settings.specs.declared.Settings.{Settings}
use Rattle.text.specs.Write.{padded}
use Rattle.wire.specs.Length.{round_layout, message_length, inbox_length, outbox_length}
use Rattle.wire.specs.declared.slot.Layout.{Layout}
use Rattle.protocol.specs.State.{zero_state}
use Rattle.protocol.specs.Step.{After, step_of}
use Rattle.system_file.specs.declared.SystemFile.{SystemFile}
use Rattle.system_file.specs.Table.{text_of, place_in}
use Rattle.simulator.specs.Output.{results}
use Rattle.simulator.specs.Play.{block_in}
use Rattle.simulation.specs.Run.{run_number, Scenario, Playing, inbox_of, called, played}
use Rattle.simulator.specs.declared.run.Controller.{Controller}

abbrev pub layout_in : Settings → ℕ → Layout
layout_in S c = round_layout run_number S.n S.t S.k c

abbrev pub outbox_in : Settings → ℕ → ℕ
outbox_in S c = outbox_length S.n S.t S.k c

abbrev pub inbox_in : Settings → ℕ → ℕ
inbox_in S c = inbox_length S.n S.t S.k (c + 1)

pub record Making (input : List ℕ) (file : SystemFile) (c i : ℕ) (inbox : List ℕ) : Type 0 where
  pub calls-most : c ≤ 3 * file.settings.t + 8
  pub number-least : 1 ≤ i
  pub number-most : i ≤ file.settings.n
  pub cleared : inbox ≡ replicate (inbox_in file.settings c) 0

abbrev pub scene : List ℕ → SystemFile → (block : List ℕ) → Scenario
scene input file block = record {
  settings = file.settings;
  block = block;
  faulty = λ i. member file.faulty (i - 1);
  said = λ r f j. text_of input (message_length file.settings.n file.settings.t file.settings.k r) (place_in file.places r f j);
}

abbrev pub zero_controller : Controller
zero_controller = record { state = zero_state; block = [] }

abbrev pub sent_by : List (List ℕ) → ℕ → ℕ → Playing
sent_by sent o i = record { state = zero_state; block = []; outbox = take o (get_or sent (i - 1) []) }

abbrev pub held : Controller → (b : ℕ) (outbox : List ℕ) → Playing
held x b outbox = record { state = x.state; block = take b x.block; outbox = outbox }

abbrev pub now_of : List Controller → List (List ℕ) → Settings → ℕ → ℕ → Playing
now_of cs sent S o i = held (get_or cs (i - 1) zero_controller) (block_in S) (take o (get_or sent (i - 1) []))

-- a step, with what is held after it
abbrev pub taken : After → Playing
taken a = record { state = a.answer.state; block = a.block; outbox = a.outbox }

abbrev pub stepped : Scenario → (c : ℕ) → Controller → List (List ℕ) → (i : ℕ) → Playing
stepped F c x sent i =
    taken (step_of x.state (take (block_in F.settings) x.block) (inbox_of F c (sent_by sent (inbox_in F.settings c)) i) (replicate (outbox_in F.settings (c + 1)) 0))

pub record Called (F : Scenario) (c : ℕ) (now after : ℕ → Playing) : Type 0 where
  pub correct : (i : ℕ) → 1 ≤ i → i ≤ F.settings.n → F.faulty i ≡ false → after i ≡ called F c now i
  pub state : (i : ℕ) → 1 ≤ i → i ≤ F.settings.n → F.faulty i ≡ true → (after i).state ≡ (now i).state
  pub block : (i : ℕ) → 1 ≤ i → i ≤ F.settings.n → F.faulty i ≡ true → (after i).block ≡ (now i).block

pub record AfterCalls (F : Scenario) (c : ℕ) (cs : List Controller) (sent : List (List ℕ)) (o : ℕ) : Type 0 where
  pub state : (i : ℕ) → 1 ≤ i → i ≤ F.settings.n → (now_of cs sent F.settings o i).state ≡ (played F c i).state
  pub block : (i : ℕ) → 1 ≤ i → i ≤ F.settings.n → (now_of cs sent F.settings o i).block ≡ (played F c i).block
  pub outbox : (i : ℕ) → 1 ≤ i → i ≤ F.settings.n → c ≤ 3 * F.settings.t + 8 → F.faulty i ≡ false → (now_of cs sent F.settings o i).outbox ≡ (played F c i).outbox

abbrev pub results_of : SystemFile → ℕ → List Controller → List ℕ
results_of file b cs =
    results (λ i. member file.faulty (i - 1)) (λ i. (get_or cs (i - 1) zero_controller).state.outcome) (λ i. take b (get_or cs (i - 1) zero_controller).block) file.settings.n

pub record Room (out : List ℕ) (at m : ℕ) : Type 0 where
  pub zeros : out ≡ padded (length out) (take at out)
  pub room : at + m ≤ length out

pub record Wrote (out : List ℕ) (at : ℕ) (s out' : List ℕ) (r : ℕ) : Type 0 where
  pub text : out' ≡ padded (length out) (take at out ++ s)
  pub end : r ≡ at + length s
