-- The run of a proper scenario as a system of demand 3 (`system_of`). It meets what is supposed there (`run_supposed`), and each correct controller
-- ends with what it has at the end of the run (`run_ends`).
use mathlib.Core.Path.{◌≡◌, sym, ap, subst, ◌∙◌}
use mathlib.Core.Bool.{false, not}
use mathlib.Core.List.{List}
use Prim.Native.Nat.{ℕ, zero, suc, ◌+◌, ◌-◌, ◌≤◌, ◌<◌}
use native.Mathlib.Omega.{arith}
use borrow.Author.Tests.{eq-eqb, not-true}
use lib.Dec.{eqb, lit<}
use lib.ListN.{length, get_or}
use Rattle.lists.specs.Fill.{tabulate}
use Rattle.lists.proofs.Tests.{not-not}
use Rattle.lists.proofs.Sums.{count_ext}
use Rattle.lists.proofs.Fills.{length-tabulate, get_or-tabulate}
use Rattle.settings.specs.declared.Settings.{Settings}
use Rattle.settings.specs.Valid.{Numbered, Valid}
use Rattle.settings.proofs.Laws.{0_starting}
use Rattle.wire.specs.Length.{block_length, block_size, inbox_length, outbox_length}
use Rattle.wire.specs.Slot.{slot_of}
use Rattle.wire.proofs.Laws.{block_size_is}
use Rattle.protocol.specs.declared.State.{State}
use Rattle.protocol.specs.Step.{start_of}
use Rattle.protocol.proofs.Laws.{start_number, start_state, start_by_size, step_number_lem, 0_step}
use Rattle.agreement.specs.Run.{Lent, Local, Made, stepped, left, left_after, made, calls}
use Rattle.agreement.specs.Agreement.{System, Correct, Supposed, at_start, calls_of, at_end, no_call, call, Arrives}
use Rattle.agreement.proofs.Laws.{step_number, At, step_at, valid_at}
use Rattle.simulation.specs.Run.{run_number, layout_at, Scenario, Proper, Playing, inbox_of, outbox_of, played, last, ended}
use Rattle.simulation.proofs.Laws.{began_is, called_is, slot_correct, played_start, played_correct}
use Rattle.simulation_agreement.specs.Simulation.{Tolerated}
use Rattle.simulation_agreement.proofs.Boxes.{holds-bytes, inbox-bytes, lent-bytes, inbox_size, in_slot}
use Rattle.simulation_agreement.proofs.Steps.{Goes, calls_made, ends_with}

abbrev holding : Playing → Local
holding x = record { state = x.state; block = x.block }

-- what controller i holds after c calls, and what is lent to its next one
abbrev pub held_by : Scenario → (i c : ℕ) → Local
held_by F i c = holding (played F c i)

abbrev pub lent_to : (F : Scenario) → Proper F → (i c : ℕ) → Lent
lent_to F p i c = record { inbox = inbox_of F c (played F c) i; outbox = outbox_of F (c + 1); inbox-bytes = inbox-bytes F p c i }

abbrev pub system_of : (F : Scenario) → Proper F → System
system_of F p = record {
  settings = F.settings;
  run = run_number;
  run_most = lit< tt;
  correct = λ i. not (F.faulty i);
  block = λ i. F.block;
  block-bytes = λ i. p.block-bytes;
  steps = λ i. tabulate (lent_to F p i) (last F);
}

-- ---- one correct controller
module _ (F : Scenario) (p : Proper F) (i : ℕ) (v : Numbered F.settings.n i) (y : F.faulty i ≡ false) where
  valid : Valid F.settings i
  valid = record { coded = p.coded; number = v; sender = p.sender-most }

  pub start_carried : (start_of F.settings i run_number (length F.block)).number ≡ 0
  start_carried =
      start_number F.settings i run_number (length F.block)
      ∙ sym (start_by_size F.settings i (length F.block))
      ∙ 0_starting F.settings i (eqb (length F.block) (block_size F.settings.n F.settings.t F.settings.k)) valid
      (eq-eqb (length F.block) (block_size F.settings.n F.settings.t F.settings.k) (p.block_length ∙ sym (block_size_is p.coded)))

  -- the run's call is a step on what is held, with what is lent
  goes_on : (c : ℕ) → left (held_by F i c) (lent_to F p i c) ≡ held_by F i (suc c)
  goes_on c = sym (ap holding (played_correct F c i y ∙ called_is F c (played F c) i))

  sends_on : (c : ℕ) → (stepped (held_by F i c) (lent_to F p i c)).outbox ≡ (played F (suc c) i).outbox
  sends_on c = sym (ap (λ (x : Playing). x.outbox) (played_correct F c i y ∙ called_is F c (played F c) i))

  begins : at_start (system_of F p) i ≡ held_by F i 0
  begins = sym (ap holding (played_start F i ∙ began_is F i))

  -- each call is carried out
  carried : (c : ℕ) → c < last F → At F.settings i run_number (c + 1) (held_by F i c) → step_number (held_by F i c) (lent_to F p i c) ≡ 0
  carried c l a =
      0_step (played F c i).state (length (played F c i).block) (length (inbox_of F c (played F c) i)) (length (outbox_of F (c + 1)))
      (record {
        valid = valid_at (held_by F i c) a valid;
        next_least = omega arith;
        next_most = omega (arith, ap (λ (x : Settings). x.t) a.settings_is);
        block_length = (holds-bytes F p c i).block_is.size ∙ sym (λ x. block_length (a.settings_is x).k (a.settings_is x).t);
        inbox_length = inbox_size F p c i (omega arith) v ∙ sym
            (λ x. inbox_length (a.settings_is x).n (a.settings_is x).t (a.settings_is x).k (a.next_is x));
        outbox_length = (lent-bytes F p (c + 1)).size ∙ sym (λ x. outbox_length (a.settings_is x).n (a.settings_is x).t (a.settings_is x).k (a.next_is x));
      })

  -- after c calls the next one is c + 1
  at : (c : ℕ) → c ≤ last F → At F.settings i run_number (c + 1) (held_by F i c)
  at zero l =
      let e = sym (ap (λ (h : Local). h.state) begins) ∙ start_state F.settings i run_number (length F.block) start_carried in
      record {
        settings_is = ap (λ (s : State). s.settings) e;
        own_is = ap (λ (s : State). s.own) e;
        run_is = ap (λ (s : State). s.run) e;
        next_is = ap (λ (s : State). s.next) e;
      }
  at (suc c) l =
      let a = at c (omega arith) in
      let e : c + 1 + 1 ≡ suc c + 1 = omega arith in
      subst (λ (x : ℕ). At F.settings i run_number x (held_by F i (suc c))) e
      (subst (At F.settings i run_number (c + 1 + 1)) (goes_on c)
      (step_at F.settings i run_number (c + 1) (held_by F i c) (lent_to F p i c) a (carried c (omega arith) a)))

  goes : (c : ℕ) → c < last F → Goes (held_by F i) (lent_to F p i) c
  goes c l = record {
    next = goes_on c;
    out =
        eq-eqb (stepped (held_by F i c) (lent_to F p i c)).answer.number 0
        (step_number_lem (played F c i).state (played F c i).block (inbox_of F c (played F c) i) (outbox_of F (c + 1)) ∙ carried c l (at c (omega arith)));
  }

  calls_are : calls_of (system_of F p) i ≡ tabulate (λ c. made (held_by F i c) (lent_to F p i c)) (last F)
  calls_are =
      ap (λ (h : Local). calls h (tabulate (lent_to F p i) (last F))) begins
      ∙ calls_made (last F) (held_by F i) (lent_to F p i) goes

  -- all calls are made
  pub all_made : length (calls_of (system_of F p) i) ≡ last F
  all_made = ap length calls_are ∙ length-tabulate (λ c. made (held_by F i c) (lent_to F p i c)) (last F)

  -- call c + 1
  pub call_is : (c : ℕ) → c < last F → get_or (calls_of (system_of F p) i) c no_call ≡ made (held_by F i c) (lent_to F p i c)
  call_is c l =
      ap (λ (m : List Made). get_or m c no_call) calls_are
      ∙ get_or-tabulate (λ c. made (held_by F i c) (lent_to F p i c)) (last F) c no_call l

  pub run_ends : ((at_end (system_of F p) i).state ≡ (ended F i).state) × ((at_end (system_of F p) i).block ≡ (ended F i).block)
  run_ends =
      let e : at_end (system_of F p) i ≡ held_by F i (last F) =
      ap (λ (h : Local). left_after h (tabulate (lent_to F p i) (last F))) begins
      ∙ ends_with (last F) (held_by F i) (lent_to F p i) goes in
      (ap (λ (h : Local). h.state) e, ap (λ (h : Local). h.block) e)

-- ---- all of them
module _ (F : Scenario) (p : Proper F) where
  pub number_of : (i : ℕ) → Correct (system_of F p) i → Numbered F.settings.n i
  number_of i f = record { least = f.least; most = f.most }

  pub not-faulty : (i : ℕ) → Correct (system_of F p) i → F.faulty i ≡ false
  not-faulty i f = not-true (F.faulty i) f.is

  -- what i sent to j in round c + 1 is what j's next call is lent
  slot_arrives : (i j c : ℕ) → Correct (system_of F p) i → Correct (system_of F p) j → suc c < last F → Arrives (system_of F p) i j (suc c)
  slot_arrives i j c f g l =
      let layout = layout_at F (suc c) in
      let vi = number_of i f in
      let vj = number_of j g in
      let yi = not-faulty i f in
      let yj = not-faulty j g in
      let a : suc c + 1 - 1 ≡ suc c = omega arith in
      let b : suc c - 1 ≡ c = omega arith in
      let reads : call (system_of F p) j (suc c + 1) ≡ made (held_by F j (suc c)) (lent_to F p j (suc c)) =
      ap (λ (x : ℕ). get_or (calls_of (system_of F p) j) x no_call) a ∙ call_is F p j vj yj (suc c) l in
      let sends : call (system_of F p) i (suc c) ≡ made (held_by F i c) (lent_to F p i c) =
      ap (λ (x : ℕ). get_or (calls_of (system_of F p) i) x no_call) b ∙ call_is F p i vi yi c (omega arith) in
      ap (λ (m : Made). slot_of m.lent.inbox layout i) reads
      ∙ in_slot F p c i j (omega arith) vi vj
      ∙ slot_correct F (suc c) (played F (suc c)) j i yi
      ∙ sym (ap (λ (m : Made). slot_of m.sends layout j) sends ∙ ap (λ (o : List ℕ). slot_of o layout j) (sends_on F p i vi yi c))

  arrival : (i j c : ℕ) → Correct (system_of F p) i → Correct (system_of F p) j → 1 ≤ c → c < last F → Arrives (system_of F p) i j c
  arrival i j zero f g least most = absurd (omega arith)
  arrival i j (suc c) f g least most = slot_arrives i j c f g most

  pub run_supposed : Tolerated F → Supposed (system_of F p)
  run_supposed few = record {
    tolerance = p.coded.quorum.t_most;
    few = omega (arith, few, count_ext F.settings.n (λ i. not (not (F.faulty (i + 1)))) (λ i. F.faulty (i + 1)) (λ i l. not-not (F.faulty (i + 1))));
    started = λ i f. start_carried F p i (number_of i f) (not-faulty i f);
    finished = λ i f. all_made F p i (number_of i f) (not-faulty i f);
    arrives = arrival;
  }
