-- Demand 3 for runs that are made through the exported functions. The main laws: `library_runs` (they are the runs of `agreement`, with the state
-- as bytes), `library_agrees` (one outcome, one block and one final block), `library_names` (whom correct controllers name) and `library_held` (who
-- held the block that is agreed on).
use mathlib.Core.Path.{◌≡◌, refl, sym, ap, ap₂, subst, ◌∙◌}
use mathlib.Core.Bool.{Bool, true, false, cond, ◌&&◌}
use mathlib.Core.List.{List, [], ◌∷◌}
use Prim.Native.Nat.{ℕ, zero, suc, ◌+◌, ◌-◌, ◌≤◌, ◌<◌}
use native.Mathlib.Nat.{not-suc-le-zero, le_of_suc-le-suc}
use native.Mathlib.Omega.{arith}
use lib.Dec.{eqb}
use lib.ListN.{length, get_or}
use Rattle.lists.specs.Same.{same}
use Rattle.lists.proofs.Tests.{and_left}
use Rattle.lists.proofs.Sums.{count_mono}
use Rattle.settings.specs.declared.Settings.{Settings}
use Rattle.wire.specs.Length.{block_length, block_size}
use Rattle.wire.proofs.Laws.{block_size_is}
use Rattle.protocol.specs.declared.State.{State}
use Rattle.protocol.specs.Step.{start_of}
use Rattle.protocol.proofs.Laws.{step_refused, step_number_lem}
use Rattle.agreement.specs.Run.{Lent, Local, Made, stepped, left, carried_out, left_after, made, calls, begun}
use Rattle.agreement.specs.Agreement.{System, Correct, Supposed, Holds, at_start, calls_of, at_end, last, no_call, call, piece_layout}
use Rattle.agreement.specs.Agreement.{last_inbox}
use Rattle.agreement.specs.Held.{block_after, core_after}
use Rattle.agreement.proofs.Laws.{At, coded, length-block, call_at, call-last, agreement, named_by-last, no_correct_named, named_by-many}
use Rattle.agreement.proofs.Laws.{by_index, late_named, held_by_many, held_on, all_in_core}
use Rattle.state_bytes.specs.State.{state_length, state_bytes, state_of, Words}
use Rattle.state_bytes.proofs.Laws.{read_written}
use Rattle.bitset.specs.Set.{member}
use Rattle.reed_solomon.specs.Decode.{named_of}
use Rattle.reconstruction.specs.declared.Outcome.TheVariants.{Agreed}
use Rattle.reconstruction.specs.Outcomes.{outcome_number}
use Rattle.reconstruction.proofs.Laws.{agreed-number}
use Rattle.boards.specs.Boards.{ReturnedStep, returned_step, step_as_bytes, returned, Returned, outcome_in, named_in, final_bytes}
use Rattle.boards.proofs.Laws.{start_bytes_lem, step_bytes_lem, late-bytes, outcome-bytes, named_bytes, final_bytes_lem, final_same}
use Rattle.boards_agreement.specs.Library.{Kept, makes, kept, kept_after, kept_from, LibraryRuns, kept_at, SetByLastCall, LibraryAgrees, LibraryNames}
use Rattle.boards_agreement.specs.Library.{calls_kept, none_kept, kept_after_call, LibraryHeld, LibraryLate}
use Rattle.boards_agreement.proofs.Bounds.{start_words, step_words}

-- what is held, with the state as bytes
as_kept : Local → Kept
as_kept h = record { state = state_bytes h.state; block = h.block }

-- ---- step by step
makes_same : (h : Local) → Words h.state → (l : Lent) → makes (as_kept h) l ≡ step_as_bytes (stepped h l)
unfolding as_kept
makes_same h w l = step_bytes_lem h.state w h.block l.inbox l.outbox

kept_same : (h : Local) → Words h.state → (l : Lent) → kept (as_kept h) l ≡ as_kept (left h l)
unfolding as_kept
kept_same h w l = ap (λ (x : ReturnedStep). record { state = x.state; block = x.block }) (makes_same h w l)

left_words : (h : Local) (l : Lent) → Words h.state → Words (left h l).state
left_words h l w = step_words h.state h.block l.inbox l.outbox w

ends_words : (h : Local) (ls : List Lent) → Words h.state → Words (left_after h ls).state
ends_words h [] w = w
ends_words h (l ∷ ls) w = ends_words (left h l) ls (left_words h l w)

after_same : (h : Local) (ls : List Lent) → Words h.state → kept_after (as_kept h) ls ≡ as_kept (left_after h ls)
after_same h [] w = refl
after_same h (l ∷ ls) w = ap (λ (c : Kept). kept_after c ls) (kept_same h w l) ∙ after_same (left h l) ls (left_words h l w)

-- ---- call by call
-- after each call the library keeps what the run holds, and that is within its bounds
abbrev SameCalls : List Kept → List Made → Type 0
SameCalls ks ms =
    (m : ℕ) → m < length ms → (get_or ks m none_kept ≡ as_kept (get_or ms m no_call).after) × Words (get_or ms m no_call).after.state

calls_same : (h : Local) (ls : List Lent) → Words h.state → SameCalls (calls_kept (as_kept h) ls) (calls h ls)
calls_same h [] w = λ m lt. absurd (not-suc-le-zero lt)
calls_same h (l ∷ ls) w =
    let r : Kept = as_kept (left h l) in
    let both : calls_kept (as_kept h) (l ∷ ls) ≡ cond (carried_out h l) (r ∷ calls_kept r ls) (calls_kept r ls) = λ x.
    let k = kept_same h w l x in
    cond (eqb (makes_same h w l x).number 0) (k ∷ calls_kept k ls) (calls_kept k ls) in
    subst (λ (ks : List Kept). SameCalls ks (calls h (l ∷ ls))) (sym both) (go (carried_out h l) (calls_same (left h l) ls (left_words h l w)))
  where
    go : (b : Bool) → SameCalls (calls_kept (as_kept (left h l)) ls) (calls (left h l) ls)
        → SameCalls (cond b (as_kept (left h l) ∷ calls_kept (as_kept (left h l)) ls) (calls_kept (as_kept (left h l)) ls))
        (cond b (made h l ∷ calls (left h l) ls) (calls (left h l) ls))
    go true q zero lt = (refl, left_words h l w)
    go true q (suc m) lt = q m (le_of_suc-le-suc lt)
    go false q m lt = q m lt

-- ---- from the start
module _ (s : Settings) (own run : ℕ) (b buffer : List ℕ) (few : run < 65536) (size : length buffer ≡ state_length)
    (started : (start_of s own run (length b)).number ≡ 0) where
  from_same : kept_from s own run b buffer ≡ as_kept (begun s own run b)
  unfolding as_kept
  from_same = ap (λ (x : Returned). record { state = x.bytes; block = b }) (start_bytes_lem s own run (length b) buffer size started)

  begun_words : Words (begun s own run b).state
  begun_words = start_words s own run (length b) few

  run_same : (ls : List Lent) → kept_after (kept_from s own run b buffer) ls ≡ as_kept (left_after (begun s own run b) ls)
  run_same ls = ap (λ (c : Kept). kept_after c ls) from_same ∙ after_same (begun s own run b) ls begun_words

  run_calls : (ls : List Lent) → SameCalls (calls_kept (kept_from s own run b buffer) ls) (calls (begun s own run b) ls)
  run_calls ls =
      subst (λ (c : Kept). SameCalls (calls_kept c ls) (calls (begun s own run b) ls)) (sym from_same) (calls_same (begun s own run b) ls begun_words)

pub library_runs : LibraryRuns
library_runs s own run b buffer few size ls l started =
    ap (λ (c : Kept). makes c l) (run_same s own run b buffer few size started ls)
    ∙ makes_same (left_after (begun s own run b) ls) (ends_words (begun s own run b) ls (begun_words s own run b buffer few size started)) l

-- ---- systems
module _ (S : System) (supposed : Supposed S) (buffers : ℕ → List ℕ) (sizes : (i : ℕ) → length (buffers i) ≡ state_length) where
  at : (i : ℕ) → Correct S i → kept_at S buffers i ≡ as_kept (at_end S i)
  at i c = run_same S.settings i S.run (S.block i) (buffers i) S.run_most (sizes i) (supposed.started i c) (S.steps i)

  end_words : (i : ℕ) → Words (at_end S i).state
  end_words i = ends_words (at_start S i) (S.steps i) (start_words S.settings i S.run (length (S.block i)) S.run_most)

  -- what the state and the block at the end are, as the library keeps them
  outcome_at : (i : ℕ) → Correct S i → outcome_in (kept_at S buffers i).state ≡ outcome_number (at_end S i).state.outcome
  unfolding as_kept
  outcome_at i c = ap (λ (x : Kept). outcome_in x.state) (at i c) ∙ outcome-bytes (at_end S i).state (end_words i)

  block_at : (i : ℕ) → Correct S i → (kept_at S buffers i).block ≡ (at_end S i).block
  unfolding as_kept
  block_at i c = ap (λ (x : Kept). x.block) (at i c)

  named_at : (i : ℕ) → Correct S i → named_in (kept_at S buffers i).state ≡ (at_end S i).state.named
  unfolding as_kept
  named_at i c = ap (λ (x : Kept). named_in x.state) (at i c) ∙ named_bytes (at_end S i).state (end_words i)

  -- what is kept after call c
  call_kept : (i : ℕ) → Correct S i → (c : ℕ) → 1 ≤ c → c ≤ last S
      → (kept_after_call S buffers i c ≡ as_kept (call S i c).after) × Words (call S i c).after.state
  call_kept i f c least most =
      run_calls S.settings i S.run (S.block i) (buffers i) S.run_most (sizes i) (supposed.started i f) (S.steps i) (c - 1)
      (let all : length (calls_of S i) ≡ last S = supposed.finished i f in omega arith)

  block_after_lem : (i : ℕ) → Correct S i → (c : ℕ) → 1 ≤ c → c ≤ last S → (kept_after_call S buffers i c).block ≡ block_after S i c
  unfolding as_kept
  block_after_lem i f c least most = ap (λ (x : Kept). x.block) (call_kept i f c least most).0

  core_after_lem : (i : ℕ) → Correct S i → (c : ℕ) → 1 ≤ c → c ≤ last S → (state_of (kept_after_call S buffers i c).state).core ≡ core_after S i c
  unfolding as_kept
  core_after_lem i f c least most =
      let q = call_kept i f c least most in
      ap (λ (x : Kept). (state_of x.state).core) q.0 ∙ ap (λ (s : State). s.core) (read_written (call S i c).after.state q.1)

  -- an outcome agreed, and the block that is kept
  holds_at : (i : ℕ) → Correct S i → outcome_in (kept_at S buffers i).state ≡ outcome_number Agreed → Holds S i (kept_at S buffers i).block
  holds_at i c e = (agreed-number (at_end S i).state.outcome (sym (outcome_at i c) ∙ e), sym (block_at i c))

  set_by_last : (i : ℕ) → Correct S i → SetByLastCall S buffers i
  set_by_last i c =
      let q = (agreement S supposed).set i c in
      record {
        none = λ z. let r = q.none z in (outcome_at i c ∙ ap outcome_number r.0, block_at i c ∙ r.1);
        agreed = λ z B d. let r = q.agreed z B d in (outcome_at i c ∙ ap outcome_number r.0, block_at i c ∙ r.1);
        beyond = λ z d. let r = q.beyond z d in (outcome_at i c ∙ ap outcome_number r.0, block_at i c ∙ r.1);
      }

  later-steps : (i : ℕ) → Correct S i → (l : Lent)
      → makes (kept_at S buffers i) l ≡ returned_step 8 (kept_at S buffers i).state (kept_at S buffers i).block l.outbox
  unfolding as_kept
  later-steps i c l =
      let h = at_end S i in
      let e : (stepped h l).answer.number ≡ 8 = ((agreement S supposed).later i c l).0 in
      let q = step_refused h.state h.block l.inbox l.outbox (λ z. omega (arith, e, step_number_lem h.state h.block l.inbox l.outbox, z)) in
      ap (λ (x : Kept). makes x l) (at i c)
      ∙ makes_same h (end_words i) l
      ∙ (λ x. returned_step (e x) (state_bytes (q x).answer.state) (q x).block (q x).outbox)
      ∙ sym (ap (λ (x : Kept). returned_step 8 x.state x.block l.outbox) (at i c))

  -- the settings at the end are the system's
  end_size : (i : ℕ) → Correct S i → block_size (at_end S i).state.settings.n (at_end S i).state.settings.t (at_end S i).state.settings.k ≡ block_size
      S.settings.n S.settings.t S.settings.k
  end_size i c =
      let a = subst (At S.settings i S.run (last S + 1)) (call-last S supposed i c)
      (call_at S supposed i c (last S) (omega arith) (omega arith)).after_at in
      ap (λ (x : Settings). block_size x.n x.t x.k) a.settings_is

  one_outcome : (i j : ℕ) → Correct S i → Correct S j → outcome_in (kept_at S buffers i).state ≡ outcome_in (kept_at S buffers j).state
  one_outcome i j ci cj = outcome_at i ci ∙ ap outcome_number ((agreement S supposed).same_outcome i j ci cj) ∙ sym (outcome_at j cj)

  one_block : (i j : ℕ) → Correct S i → Correct S j → (kept_at S buffers i).block ≡ (kept_at S buffers j).block
  one_block i j ci cj = block_at i ci ∙ (agreement S supposed).same_block i j ci cj ∙ sym (block_at j cj)

  one_final : (i j : ℕ) → Correct S i → Correct S j → (out : List ℕ)
      → final_bytes (kept_at S buffers i).state (kept_at S buffers i).block out ≡ final_bytes (kept_at S buffers j).state (kept_at S buffers j).block out
  unfolding as_kept
  one_final i j ci cj out =
      ap (λ (c : Kept). final_bytes c.state c.block out) (at i ci)
      ∙ final_same (at_end S i).state (at_end S j).state (end_words i) (end_words j) (at_end S i).block (at_end S j).block out
      ((agreement S supposed).same_outcome i j ci cj) (end_size i ci ∙ sym (end_size j cj)) ((agreement S supposed).same_block i j ci cj)
      ∙ sym (ap (λ (c : Kept). final_bytes c.state c.block out) (at j cj))

  -- agreed on a block of the stated length: 1 and that block
  agreed_final : (i : ℕ) → Correct S i → (B : List ℕ) → Holds S i B → length B ≡ block_length S.settings.k S.settings.t → (out : List ℕ)
      → length out ≡ length B → final_bytes (kept_at S buffers i).state (kept_at S buffers i).block out ≡ returned 1 B
  unfolding as_kept
  agreed_final i ci B (o, b) long out e =
      let r : outcome_number (at_end S i).state.outcome ≡ 1 = ap outcome_number o in
      let size : length B ≡ block_size (at_end S i).state.settings.n (at_end S i).state.settings.t (at_end S i).state.settings.k
      = long ∙ sym (block_size_is (coded S supposed i ci)) ∙ sym (end_size i ci) in
      ap (λ (c : Kept). final_bytes c.state c.block out) (at i ci)
      ∙ final_bytes_lem (at_end S i).state (end_words i) (at_end S i).block out (ap length b ∙ size) (e ∙ size) (λ z. omega (arith, r, z))
      ∙ ap₂ returned r b

pub library_agrees : LibraryAgrees
library_agrees S supposed buffers sizes = record {
  set = set_by_last S supposed buffers sizes;
  later = later-steps S supposed buffers sizes;
  same_outcome = one_outcome S supposed buffers sizes;
  same_block = one_block S supposed buffers sizes;
  same_final = one_final S supposed buffers sizes;
  sender_final = λ i cs ci.
      let C = agreement S supposed in
      agreed_final S supposed buffers sizes i ci (S.block S.settings.sender) (C.sender-outcome i cs ci, C.sender-block i cs ci)
      (length-block S supposed S.settings.sender cs);
  alike_final = λ i B a ci.
      let C = agreement S supposed in
      agreed_final S supposed buffers sizes i ci B (C.alike-outcome i B a ci, C.alike-block i B a ci)
      (ap length (sym (a.alike i ci)) ∙ length-block S supposed i ci);
}

pub library_names : LibraryNames
library_names S supposed buffers sizes =
    let named : (i : ℕ) (c : Correct S i) → named_in (kept_at S buffers i).state ≡ (at_end S i).state.named = named_at S supposed buffers sizes in
    let outcome : (i : ℕ) (c : Correct S i) → outcome_in (kept_at S buffers i).state ≡ outcome_number (at_end S i).state.outcome
    = outcome_at S supposed buffers sizes in
    record {
      agreed = λ i c e.
          named i c ∙ (named_by-last S supposed i c).agreed (agreed-number (at_end S i).state.outcome (sym (outcome i c) ∙ e))
          ∙ ap (named_of S.settings.n S.settings.t (piece_layout S) (last_inbox S i)) (sym (block_at S supposed buffers sizes i c));
      other = λ i c n. named i c ∙ (named_by-last S supposed i c).other (λ e. n (outcome i c ∙ ap outcome_number e));
      no_correct = λ i j c d. ap (λ (m : ℕ). member m (j - 1)) (named i c) ∙ no_correct_named S supposed i j c d;
      late = λ i j c least most e o.
          ap (λ (m : ℕ). member m (j - 1)) (named i c)
          ∙ late_named S supposed i j c least most (agreed-number (at_end S i).state.outcome (sym (outcome i c) ∙ e)) o;
      by_many = λ shown marks. named_by-many S supposed shown (λ i c. marks i c ∙ named i c);
    }

pub library_held : LibraryHeld
library_held S supposed buffers sizes =
    let after = block_after_lem S supposed buffers sizes in
    let holds = holds_at S supposed buffers sizes in
    record {
      held_by_many = λ i c e.
          omega (
            arith,
            held_by_many S supposed i (kept_at S buffers i).block c (holds i c e),
            count_mono S.settings.n (λ x. S.correct (x + 1) && same (block_after S (x + 1) 2) (kept_at S buffers i).block)
                (λ x. S.correct (x + 1) && same (kept_after_call S buffers (x + 1) 2).block (kept_at S buffers i).block)
                (λ x l y.
                let f = by_index S x (l, and_left (S.correct (x + 1)) (same (block_after S (x + 1) 2) (kept_at S buffers i).block) y) in
                ap (λ (b : List ℕ). S.correct (x + 1) && same b (kept_at S buffers i).block)
                (after (x + 1) f 2 (omega arith) (omega arith))
                ∙ y),
          );
      held_on = λ i j c d e h x least most.
          after j d x (omega (arith, least)) most
          ∙ held_on S supposed i j (kept_at S buffers i).block c d (holds i c e) (sym (after j d 2 (omega arith) (omega arith)) ∙ h) x least most;
      all_in_core = λ s i j c d x least most.
          ap (λ (m : ℕ). member m (j - 1)) (core_after_lem S supposed buffers sizes i c x (omega (arith, least)) most)
          ∙ all_in_core S supposed s i j c d x least most;
    }

-- late messages
pub library_late : LibraryLate
library_late = late-bytes
