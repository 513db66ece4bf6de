-- All calls. The main laws: `call_is` (a step is the call of the definition), `held_next` (what each controller holds after one call more), `start_turn` and
-- `start_end` (what the run begins with), `held_last` (what it ends with).
use mathlib.Core.Path.{◌≡◌, refl, sym, ap, subst, ◌∙◌}
use mathlib.Core.Bool.{true, false}
use mathlib.Core.List.{List, [], ◌++◌}
use mathlib.Core.Logic.{⊎_elim}
use Prim.Native.Nat.{ℕ, suc, ◌+◌, ◌-◌, ◌*◌, ◌≤◌, ◌<◌}
use native.Mathlib.Numerals.{add-one}
use native.Mathlib.Omega.{arith}
use lib.ListN.{length, get_or, set, take, replicate, length-set, length-replicate, get_or-replicate}
use lib.Seq.{get_or-set_same, get_or-set_other, take_at}
use Rattle.protocol.specs.declared.State.{State}
use Rattle.lists.proofs.Tests.{either}
use Rattle.lists.proofs.Sums.{below_suc}
use Rattle.bitset.specs.Set.{member}
use Rattle.wire.specs.Length.{message_length}
use Rattle.wire.proofs.Laws.{length_pos, inbox_is, outbox_is, first_inbox}
use Rattle.protocol.specs.Step.{step_of}
use Rattle.system_file.specs.declared.SystemFile.{SystemFile}
use Rattle.system_file.specs.Table.{text_of, place_in}
use Rattle.simulation.specs.Run.{run_number, Scenario, Playing, began, called, played}
use Rattle.simulation.proofs.Laws.{called_is, cleared, inbox_ext, called_ext, called_other, played_start, played_correct, played-faulty}
use Rattle.simulator.specs.declared.run.Controller.{Controller}
use Rattle.simulator.specs.Play.{FileSettings, block_in, given}
use Rattle.simulator.specs.Steps.{Called, AfterCalls, inbox_in, outbox_in, scene, zero_controller, sent_by, held, now_of, taken, stepped}

-- ---- one call
abbrev pub playing : List ℕ → List ℕ → State → Playing
playing v y s = record { state = s; block = v; outbox = y }

-- the lent front of the block's array came back as v
pub held_front : {s : State} {v : List ℕ} (d y : List ℕ) {b : ℕ} → length v ≡ b
    → held (record { state = s; block = v ++ d }) b y ≡ record { state = s; block = v; outbox = y }
held_front {s} {v} d y {b} e = (λ x. record { state = s; block = take_at v d b e x; outbox = y })

-- x is the controller of index i
pub call_is : (input : List ℕ) (file : SystemFile) (cs : List Controller) (sent : List (List ℕ)) (c i : ℕ) {x : Controller} → x ≡ get_or cs i zero_controller
    → stepped (scene input file []) c x sent (i + 1)
    ≡ called (scene input file []) c (now_of cs sent file.settings (inbox_in file.settings c)) (i + 1)
call_is input file cs sent c i {x} e =
    let F = scene input file [] in
    let now = now_of cs sent file.settings (inbox_in file.settings c) in
    let back : i + 1 - 1 ≡ i = omega arith in
    let d : x ≡ get_or cs (i + 1 - 1) zero_controller = e ∙ ap (λ (y : ℕ). get_or cs y zero_controller) (sym back) in
    let m = inbox_ext F c (sent_by sent (inbox_in file.settings c)) now (i + 1) (λ j _ _ _. refl) in
    let z = sym (cleared F (c + 1)) in
    (λ y. taken (step_of (d y).state (take (block_in file.settings) (d y).block) (m y) (z y))) ∙ sym (called_is F c now (i + 1))

-- ---- one call of each
module _ (input : List ℕ) (file : SystemFile) (v : FileSettings file.settings) (block : List ℕ) where
  F : Scenario
  F = scene input file block

  module _ {c : ℕ} {cs : List Controller} {sent : List (List ℕ)} (after : List Controller) (sending : List (List ℕ)) (most : c ≤ 3 * file.settings.t + 8)
      (H : AfterCalls (scene input file block) c cs sent (inbox_in file.settings c))
      (C : Called (scene input file []) c (now_of cs sent file.settings (inbox_in file.settings c)) (now_of after sending file.settings (outbox_in file.settings (c + 1)))) where
    correct_is : (i : ℕ) → 1 ≤ i → i ≤ file.settings.n → member file.faulty (i - 1) ≡ false
        → now_of after sending file.settings (outbox_in file.settings (c + 1)) i ≡ played F (suc c) i
    unfolding F
    correct_is i a b f =
        let now = now_of cs sent file.settings (inbox_in file.settings c) in
        C.correct i a b f
        ∙ called_other file.settings [] block (λ j. member file.faulty (j - 1))
        (λ r g j. text_of input (message_length file.settings.n file.settings.t file.settings.k r) (place_in file.places r g j)) c now i
        ∙ called_ext F c now (played F c) i (H.state i a b) (H.block i a b) (λ j d e g. H.outbox j d e most g)
        ∙ sym (played_correct F c i f)

    -- the outboxes, o bytes of each, were copied to sent'
    pub held_next : {o : ℕ} → o ≡ outbox_in file.settings (c + 1) → (sent' : List (List ℕ))
        → ((x : ℕ) → x < file.settings.n → take o (get_or sent' x []) ≡ take o (get_or sending x []))
        → AfterCalls (scene input file block) (c + 1) after sent' (inbox_in file.settings (c + 1))
    unfolding F
    held_next {o} e sent' h =
        subst (λ (d : ℕ). AfterCalls F d after sent' (inbox_in file.settings (c + 1))) (sym (add-one c))
        (record {
          state = λ i a b. ⊎_elim
              (λ (f : member file.faulty (i - 1) ≡ true).
              C.state i a b f ∙ H.state i a b ∙ ap (λ (p : Playing). p.state) (sym (played-faulty F c i f)))
              (λ (f : member file.faulty (i - 1) ≡ false). ap (λ (p : Playing). p.state) (correct_is i a b f))
              (either (member file.faulty (i - 1)));
          block = λ i a b. ⊎_elim
              (λ (f : member file.faulty (i - 1) ≡ true).
              C.block i a b f ∙ H.block i a b ∙ ap (λ (p : Playing). p.block) (sym (played-faulty F c i f)))
              (λ (f : member file.faulty (i - 1) ≡ false). ap (λ (p : Playing). p.block) (correct_is i a b f))
              (either (member file.faulty (i - 1)));
          outbox = λ i a b l f.
              let S = file.settings in
              let pos = length_pos v.coded (c + 1) (omega arith) (omega arith) in
              ap (λ (w : ℕ). take w (get_or sent' (i - 1) []))
              (inbox_is run_number S.n S.t S.k (c + 1) pos ∙ sym (outbox_is run_number S.n S.t S.k (c + 1) pos) ∙ sym e)
              ∙ h (i - 1) (omega arith)
              ∙ ap (λ (w : ℕ). take w (get_or sending (i - 1) [])) e
              ∙ ap (λ (p : Playing). p.outbox) (correct_is i a b f);
        })

-- after the last call nothing counts that was sent
pub held_last : {F : Scenario} {c : ℕ} {cs : List Controller} {sent : List (List ℕ)} → AfterCalls F c cs sent (inbox_in F.settings c) → c ≡ 3 * F.settings.t + 9
    → (sent' : List (List ℕ)) → AfterCalls F (3 * F.settings.t + 9) cs sent' (inbox_in F.settings (3 * F.settings.t + 9))
held_last {F} {c} {cs} H e sent' =
    subst (λ (d : ℕ). AfterCalls F d cs sent' (inbox_in F.settings d)) e
    (record { state = H.state; block = H.block; outbox = λ i a b m. absurd (omega arith) })

-- ---- what the run begins with
-- the controllers before index i were started
pub record StartedTo (input : List ℕ) (file : SystemFile) (i : ℕ) (cs : List Controller) : Type 0 where
  pub size : length cs ≡ 16
  pub each : (x : ℕ) → x < i → held (get_or cs x zero_controller) (block_in file.settings) [] ≡ began (scene input file (given file)) (x + 1)

pub start_first : (input : List ℕ) (file : SystemFile) (x : Controller) → held x (block_in file.settings) [] ≡ began (scene input file (given file)) 1
    → StartedTo input file 1 (replicate 16 x)
start_first input file x e = record {
  size = length-replicate {A = Controller} 16 x;
  each = λ y l.
      let z : y ≡ 0 = omega arith in
      ap (λ (r : Controller). held r (block_in file.settings) []) (get_or-replicate 16 y x zero_controller (omega arith)) ∙ e
      ∙ ap (λ (r : ℕ). began (scene input file (given file)) (r + 1)) (sym z);
}

module _ {input : List ℕ} {file : SystemFile} {i : ℕ} {cs : List Controller} (h : StartedTo input file i cs) where
  pub start_turn : i < 16 → (x : Controller) → held x (block_in file.settings) [] ≡ began (scene input file (given file)) (i + 1)
      → StartedTo input file (i + 1) (set cs i x)
  start_turn l x e = record { size = length-set cs i x ∙ h.size; each = each }
    where
      each : (y : ℕ) → y < i + 1 → held (get_or (set cs i x) y zero_controller) (block_in file.settings) [] ≡ began (scene input file (given file)) (y + 1)
      each y g =
          ⊎_elim
          (λ (q : y ≡ i).
          ap (λ (r : Controller). held r (block_in file.settings) [])
          (ap (λ (r : ℕ). get_or (set cs i x) r zero_controller) q ∙ get_or-set_same cs i x zero_controller (omega (arith, h.size)))
          ∙ e ∙ ap (λ (r : ℕ). began (scene input file (given file)) (r + 1)) (sym q))
          (λ (d : y < i).
          ap (λ (r : Controller). held r (block_in file.settings) []) (get_or-set_other cs i y x zero_controller (λ q. omega arith)) ∙ h.each y d)
          (below_suc (omega arith))

  -- nothing was sent before the first call
  pub start_end : file.settings.n ≤ i → (sent : List (List ℕ)) → AfterCalls (scene input file (given file)) 0 cs sent (inbox_in file.settings 0)
  start_end l sent =
      let F = scene input file (given file) in
      let is : (j : ℕ) → 1 ≤ j → j ≤ file.settings.n → held (get_or cs (j - 1) zero_controller) (block_in file.settings) [] ≡ played F 0 j
      = λ j a b. let q : j - 1 + 1 ≡ j = omega arith in h.each (j - 1) (omega arith) ∙ ap (began F) q ∙ sym (played_start F j) in
      record {
        state = λ j a b. ap (λ (p : Playing). p.state) (is j a b);
        block = λ j a b. ap (λ (p : Playing). p.block) (is j a b);
        outbox = λ j a b _ _.
            ap (λ (w : ℕ). take w (get_or sent (j - 1) [])) (first_inbox file.settings.n file.settings.t file.settings.k)
            ∙ ap (λ (p : Playing). p.outbox) (is j a b);
      }
