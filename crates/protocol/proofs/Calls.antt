-- Laws of start and step. The main ones: `one_answered` (what is said of an answer determines it), `start_0` (what a start carried out says), `step_refused` and `step_carried` (a step hands everything back,
-- or does its call), `of_send` to `of_outside` (what a call of each kind is), `step_0` and `0_step` (number 0 exactly where no row of the
-- table names the step), `8_step` (a finished run), and `call_keeps` (a call keeps the settings, the own number and the run
-- number, and counts on).
use mathlib.Core.Path.{◌≡◌, refl, sym, ap, ap₂, subst, ◌∙◌}
use mathlib.Core.Bool.{Bool, true, false, cond, not, ◌&&◌, ◌||◌}
use mathlib.Core.List.{List}
use mathlib.Core.Logic.{◌⊎◌, ⊎_elim}
use Prim.Native.Nat.{ℕ, ◌+◌, ◌*◌, ◌≤◌, ◌<◌}
use native.Mathlib.Omega.{arith}
use borrow.Author.Tests.{eq-eqb, ne_eqb, eqb-true, eqb-false, not-false}
use lib.Dec.{eqb}
use lib.ListN.{length}
use Rattle.lists.proofs.Tests.{either, and_left, and_right, and_both, and_no_left, and_no_right, and_tail, or_neither, or_left, or_right, cond_yes, cond_no}
use Rattle.lists.proofs.Tests.{cond-zero, same_or_not}
use Rattle.std.specs.Prelude.{Result, Ok, Err}
use Rattle.settings.specs.declared.Settings.{Settings}
use Rattle.settings.specs.declared.Refusal.{Refusal}
use Rattle.settings.specs.declared.Refusal.TheVariants as row
use Rattle.settings.specs.Number.{row_of}
use Rattle.settings.specs.declared.Entry.TheVariants.{Start}
use Rattle.settings.specs.Refusal.{outside, refusal_of, state_refusal}
use Rattle.settings.specs.Valid.{Valid}
use Rattle.settings.proofs.Laws.{starting_0, state_0, 0_state, yes_outside, outside_no, no_outside, starting_fits, one_answer, row_least}
use Rattle.wire.specs.declared.Call.{Call}
use Rattle.wire.specs.declared.Call.TheVariants.{Send, Receive, Compare, Collect, Tally, Hold, Settle, Core, Choose, Finish, Outside}
use Rattle.wire.specs.Round.{call_kind}
use Rattle.wire.specs.Length.{block_length, block_size, inbox_length, outbox_length}
use Rattle.wire.proofs.Laws.{Fact, call_fact, block_size_is}
use Rattle.protocol.specs.declared.State.{State}
use Rattle.protocol.specs.declared.Refused.{Refused}
use Rattle.protocol.specs.State.{fresh_state, zero_state}
use Rattle.protocol.specs.Calls.{carried, send_call, receive_call, compare_call, collect_call, tally_call, hold_call, settle_call, core_call, choose_call}
use Rattle.protocol.specs.Calls.{finish_call, call_of}
use Rattle.protocol.specs.Step.{Answer, answered, start_refusal, start_of, lengths_fit, step_refusal, After, after, done, step_of, Ready}

-- ---- the answer, as the code gives it
-- its view determines it
row_in : Result Unit Refusal → Refusal
row_in (Ok _) = row.State
row_in (Err r) = r

row_one : (r q : Refusal) → row_of r ≡ row_of q → r ≡ q
unfolding row_in
row_one r q e = ap row_in (one_answer (Err r) (Err q) e)

pub one_answered : (a b : Result State Refused) → answered a ≡ answered b → a ≡ b
one_answered (Ok s) (Ok u) e = ap (λ (x : Answer). Ok x.state) e
one_answered (Ok s) (Err r) e = absurd (omega (arith, ap (λ (x : Answer). x.number) e, row_least r.refusal))
one_answered (Err r) (Ok s) e = absurd (omega (arith, ap (λ (x : Answer). x.number) e, row_least r.refusal))
one_answered (Err r) (Err q) e =
    ap₂ (λ (f : Refusal) (s : State). Err (record { refusal = f; state = s })) (row_one r.refusal q.refusal (ap (λ (x : Answer). x.number) e))
    (ap (λ (x : Answer). x.state) e)

-- ---- start
module _ (s : Settings) (own run b : ℕ) where
  -- the number is that of the refusal
  pub start_number : (start_of s own run b).number ≡ start_refusal s own b
  unfolding start_of
  start_number = go (eqb (start_refusal s own b) 0) refl
    where
      go : (x : Bool) → eqb (start_refusal s own b) 0 ≡ x
          → (cond {A = Answer} x (record { number = 0; state = fresh_state s own run }) (record { number = start_refusal s own b; state = zero_state })).number
          ≡ start_refusal s own b
      go true e = sym (eqb-true (start_refusal s own b) 0 e)
      go false e = refl

  module _ (z : (start_of s own run b).number ≡ 0) where
    code : start_refusal s own b ≡ 0
    code = sym start_number ∙ z

    pub start_0 : Valid s own × (b ≡ block_length s.k s.t)
    unfolding start_refusal
    start_0 =
        let r = starting_0 s own (eqb b (block_length s.k s.t)) code in
        (r.0, eqb-true b (block_length s.k s.t) r.1)

    pub start_state : (start_of s own run b).state ≡ fresh_state s own run
    unfolding start_of
    start_state =
        ap (λ (x : Answer). x.state)
        (cond_yes (eqb (start_refusal s own b) 0) _ _ (eq-eqb (start_refusal s own b) 0 code))

-- the state that start returns has the run number that is given, or 0
pub start_run : (P : ℕ → Type 0) (s : Settings) (own run b : ℕ) → P run → P 0 → P (start_of s own run b).state.run
unfolding start_of
start_run P s own run b h z = go (eqb (start_refusal s own b) 0)
  where
    go : (x : Bool) → P (cond {A = Answer} x (record { number = 0; state = fresh_state s own run })
        (record { number = start_refusal s own b; state = zero_state })).state.run
    go true = h
    go false = z

-- ---- step
module _ (s : State) (b i o : List ℕ) where
  pub step_refused : (step_refusal s (length b) (length i) (length o) ≡ 0 → ⊥)
      → step_of s b i o ≡ after (record { number = step_refusal s (length b) (length i) (length o); state = s }) b o
  unfolding step_of
  step_refused n = cond_no (eqb (step_refusal s (length b) (length i) (length o)) 0) _ _ (ne_eqb (step_refusal s (length b) (length i) (length o)) 0 n)

  pub step_carried : step_refusal s (length b) (length i) (length o) ≡ 0 → step_of s b i o ≡ done (call_of (call_kind s.settings.t s.next) s b i o)
  unfolding step_of
  step_carried z = cond_yes (eqb (step_refusal s (length b) (length i) (length o)) 0) _ _ (eq-eqb (step_refusal s (length b) (length i) (length o)) 0 z)

  pub step_number_lem : (step_of s b i o).answer.number ≡ step_refusal s (length b) (length i) (length o)
  step_number_lem =
      ⊎_elim
      (λ (e : eqb (step_refusal s (length b) (length i) (length o)) 0 ≡ true).
      let z = eqb-true (step_refusal s (length b) (length i) (length o)) 0 e in
      ap (λ (a : After). a.answer.number) (step_carried z) ∙ sym z)
      (λ (e : eqb (step_refusal s (length b) (length i) (length o)) 0 ≡ false).
      ap (λ (a : After). a.answer.number) (step_refused (eqb-false (step_refusal s (length b) (length i) (length o)) 0 e)))
      (either (eqb (step_refusal s (length b) (length i) (length o)) 0))

module _ (s : State) (b i o : ℕ) where
  bad : Bool
  bad = not (eqb (state_refusal s.settings s.own) 0) || outside 1 (3 * s.settings.t + 10) s.next

  pub step_0 : step_refusal s b i o ≡ 0 → Ready s b i o
  unfolding step_refusal lengths_fit bad
  step_0 z =
      let one = cond-zero bad 6 _ z in
      let two = cond-zero (eqb s.next (3 * s.settings.t + 10)) 7 _ one.1 in
      let three = cond-zero (not (lengths_fit s b i o)) 5 0 two.1 in
      let parts = or_neither (not (eqb (state_refusal s.settings s.own) 0)) (outside 1 (3 * s.settings.t + 10) s.next) one.0 in
      let range = outside_no 1 (3 * s.settings.t + 10) s.next parts.1 in
      let late : s.next ≡ 3 * s.settings.t + 10 → ⊥ = eqb-false s.next (3 * s.settings.t + 10) two.0 in
      let fit : lengths_fit s b i o ≡ true = not-false (lengths_fit s b i o) three.0 in
      let B = eqb b (block_length s.settings.k s.settings.t) in
      let I = eqb i (inbox_length s.settings.n s.settings.t s.settings.k s.next) in
      let O = eqb o (outbox_length s.settings.n s.settings.t s.settings.k s.next) in
      record {
        valid = state_0 s.settings s.own
            (eqb-true (state_refusal s.settings s.own) 0 (not-false (eqb (state_refusal s.settings s.own) 0) parts.0));
        next_least = range.0;
        next_most = omega arith;
        block_length = eqb-true b (block_length s.settings.k s.settings.t) (and_left B (I && O) fit);
        inbox_length = eqb-true i (inbox_length s.settings.n s.settings.t s.settings.k s.next) (and_left I O (and_right B (I && O) fit));
        outbox_length = eqb-true o (outbox_length s.settings.n s.settings.t s.settings.k s.next) (and_right I O (and_right B (I && O) fit));
      }

  fine : Valid s.settings s.own → 1 ≤ s.next → s.next ≤ 3 * s.settings.t + 10 → bad ≡ false
  unfolding bad
  fine v l m =
      rw (eq-eqb (state_refusal s.settings s.own) 0 (0_state s.settings s.own v)) (no_outside 1 (3 * s.settings.t + 10) s.next l m)

  pub 0_step : Ready s b i o → step_refusal s b i o ≡ 0
  unfolding step_refusal lengths_fit bad
  0_step r =
      cond_no bad 7 _ (fine r.valid r.next_least (omega arith))
      ∙ cond_no (eqb s.next (3 * s.settings.t + 10)) 8 _ (ne_eqb s.next (3 * s.settings.t + 10) (λ e. omega arith))
      ∙ cond_no (not (lengths_fit s b i o)) 6 0
      (ap not (and_both (eqb b (block_length s.settings.k s.settings.t)) _ (eq-eqb b (block_length s.settings.k s.settings.t) r.block_length)
      (and_both (eqb i (inbox_length s.settings.n s.settings.t s.settings.k s.next))
      (eqb o (outbox_length s.settings.n s.settings.t s.settings.k s.next))
      (eq-eqb i (inbox_length s.settings.n s.settings.t s.settings.k s.next) r.inbox_length)
      (eq-eqb o (outbox_length s.settings.n s.settings.t s.settings.k s.next) r.outbox_length))))

  -- a run that is finished
  pub 8_step : Valid s.settings s.own → s.next ≡ 3 * s.settings.t + 10 → step_refusal s b i o ≡ 8
  unfolding step_refusal bad
  8_step v e =
      cond_no bad 7 _ (fine v (omega arith) (omega arith))
      ∙ cond_yes (eqb s.next (3 * s.settings.t + 10)) 8 _ (eq-eqb s.next (3 * s.settings.t + 10) e)

-- ---- calls
-- what a call of each kind is: the layers above cite these and don't unfold `call_of`
module _ (s : State) (b i o : List ℕ) where
  pub of_send : call_of Send s b i o ≡ send_call s b o
  unfolding call_of
  of_send = refl

  pub of_receive : call_of Receive s b i o ≡ receive_call s b i o
  unfolding call_of
  of_receive = refl

  pub of_compare : call_of Compare s b i o ≡ compare_call s b i o
  unfolding call_of
  of_compare = refl

  pub of_collect : call_of Collect s b i o ≡ collect_call s b i o
  unfolding call_of
  of_collect = refl

  pub of_tally : call_of Tally s b i o ≡ tally_call s b i o
  unfolding call_of
  of_tally = refl

  pub of_hold : call_of Hold s b i o ≡ hold_call s b i o
  unfolding call_of
  of_hold = refl

  pub of_settle : call_of Settle s b i o ≡ settle_call s b i o
  unfolding call_of
  of_settle = refl

  pub of_core : call_of Core s b i o ≡ core_call s b i o
  unfolding call_of
  of_core = refl

  pub of_choose : call_of Choose s b i o ≡ choose_call s b i o
  unfolding call_of
  of_choose = refl

  pub of_finish : call_of Finish s b i o ≡ finish_call s b i o
  unfolding call_of
  of_finish = refl

  pub of_outside : call_of Outside s b i o ≡ carried s b o
  unfolding call_of
  of_outside = refl

pub record Keeps (s s' : State) : Type 0 where
  pub settings : s'.settings ≡ s.settings
  pub own : s'.own ≡ s.own
  pub run : s'.run ≡ s.run
  pub next : s'.next ≡ s.next + 1

pub call_keeps : (c : Call) (s : State) (b i o : List ℕ) → (c ≡ Outside → ⊥) → Keeps s (call_of c s b i o).state
unfolding call_of
call_keeps Send s b i o x = record { settings = refl; own = refl; run = refl; next = refl }
call_keeps Receive s b i o x = record { settings = refl; own = refl; run = refl; next = refl }
call_keeps Compare s b i o x = record { settings = refl; own = refl; run = refl; next = refl }
call_keeps Collect s b i o x = record { settings = refl; own = refl; run = refl; next = refl }
call_keeps Tally s b i o x = record { settings = refl; own = refl; run = refl; next = refl }
call_keeps Hold s b i o x = record { settings = refl; own = refl; run = refl; next = refl }
call_keeps Settle s b i o x = record { settings = refl; own = refl; run = refl; next = refl }
call_keeps Core s b i o x = record { settings = refl; own = refl; run = refl; next = refl }
call_keeps Choose s b i o x = record { settings = refl; own = refl; run = refl; next = refl }
call_keeps Finish s b i o x = record { settings = refl; own = refl; run = refl; next = refl }
call_keeps Outside s b i o x = absurd (x refl)

-- a step that is carried out is a call of the run
pub call_inside : (t c : ℕ) → 1 ≤ c → c ≤ 3 * t + 9 → call_kind t c ≡ Outside → ⊥
call_inside t c h l e =
    ⊎_elim (λ (z : c ≡ 0). omega arith) (λ (z : 3 * t + 9 < c). omega arith) (subst (λ (k : Call). Fact t c k) e (call_fact t c))

-- a step keeps the run number, whether it is carried out or not
pub step_run : (s : State) (b i o : List ℕ) → (step_of s b i o).answer.state.run ≡ s.run
step_run s b i o =
    let c = call_kind s.settings.t s.next in
    ⊎_elim
    (λ (z : step_refusal s (length b) (length i) (length o) ≡ 0).
    let r = step_0 s (length b) (length i) (length o) z in
    ap (λ (a : After). a.answer.state.run) (step_carried s b i o z)
    ∙ (call_keeps c s b i o (call_inside s.settings.t s.next r.next_least r.next_most)).run)
    (λ (z : step_refusal s (length b) (length i) (length o) ≡ 0 → ⊥). ap (λ (a : After). a.answer.state.run) (step_refused s b i o z))
    (same_or_not (step_refusal s (length b) (length i) (length o)) 0)

-- only call 2 and the last call write the block
pub call-block : (c : Call) (s : State) (b i o : List ℕ) → (c ≡ Receive → ⊥) → (c ≡ Finish → ⊥) → (call_of c s b i o).block ≡ b
unfolding call_of
call-block Send s b i o x y = refl
call-block Receive s b i o x y = absurd (x refl)
call-block Compare s b i o x y = refl
call-block Collect s b i o x y = refl
call-block Tally s b i o x y = refl
call-block Hold s b i o x y = refl
call-block Settle s b i o x y = refl
call-block Core s b i o x y = refl
call-block Choose s b i o x y = refl
call-block Finish s b i o x y = absurd (y refl)
call-block Outside s b i o x y = refl

pub block-call : (t c : ℕ) → 3 ≤ c → c ≤ 3 * t + 8 → (call_kind t c ≡ Receive → ⊥) × (call_kind t c ≡ Finish → ⊥)
block-call t c h l =
    let f = call_fact t c in (
      (λ e. let z : c ≡ 2 = subst (λ (k : Call). Fact t c k) e f in omega arith),
      (λ e. let z : c ≡ 3 * t + 9 = subst (λ (k : Call). Fact t c k) e f in omega arith),
    )

-- ---- the numbers, as the code finds them
module _ (s : Settings) (own b : ℕ) where
  pub start_found : (run r : ℕ) → r ≡ start_refusal s own b → r ≡ 0 → start_of s own run b ≡ record { number = 0; state = fresh_state s own run }
  unfolding start_of
  start_found run r e z = cond_yes (eqb (start_refusal s own b) 0) _ _ (eq-eqb (start_refusal s own b) 0 (sym e ∙ z))

  pub start_refused : (run r : ℕ) → r ≡ start_refusal s own b → (r ≡ 0 → ⊥) → start_of s own run b ≡ record { number = r; state = zero_state }
  unfolding start_of
  start_refused run r e z =
      cond_no (eqb (start_refusal s own b) 0) _ _ (ne_eqb (start_refusal s own b) 0 (λ q. z (e ∙ q)))
      ∙ ap (λ (x : ℕ). record { number = x; state = zero_state }) (sym e)

  -- the lent length against the length that the table gives
  pub start_by_size : refusal_of Start s own (eqb b (block_size s.n s.t s.k)) ≡ start_refusal s own b
  unfolding start_refusal
  start_by_size =
      starting_fits s own (eqb b (block_size s.n s.t s.k)) (eqb b (block_length s.k s.t)) (λ v. ap (eqb b) (block_size_is v))

module _ (s : State) (b i o : ℕ) where
  pub 7_settings : not (eqb (state_refusal s.settings s.own) 0) ≡ true → step_refusal s b i o ≡ 7
  unfolding step_refusal
  7_settings y = cond_yes (not (eqb (state_refusal s.settings s.own) 0) || outside 1 (3 * s.settings.t + 10) s.next) 7 _ (or_left _ _ y)

  pub 7_next : (s.next < 1) ⊎ (3 * s.settings.t + 10 < s.next) → step_refusal s b i o ≡ 7
  unfolding step_refusal
  7_next h =
      cond_yes (not (eqb (state_refusal s.settings s.own) 0) || outside 1 (3 * s.settings.t + 10) s.next) 7 _
      (or_right (not (eqb (state_refusal s.settings s.own) 0)) (outside 1 (3 * s.settings.t + 10) s.next)
      (yes_outside 1 (3 * s.settings.t + 10) s.next h))

  pub settings-valid : not (eqb (state_refusal s.settings s.own) 0) ≡ false → Valid s.settings s.own
  settings-valid y =
      state_0 s.settings s.own (eqb-true (state_refusal s.settings s.own) 0 (not-false (eqb (state_refusal s.settings s.own) 0) y))

  -- where neither 7 nor 8 is met, the lengths decide
  pub lengths_decide : Valid s.settings s.own → 1 ≤ s.next → s.next ≤ 3 * s.settings.t + 10 → (s.next ≡ 3 * s.settings.t + 10 → ⊥)
      → step_refusal s b i o ≡ cond (not (lengths_fit s b i o)) 6 0
  unfolding step_refusal bad
  lengths_decide v l m n =
      cond_no (bad s b i o) 7 _ (fine s b i o v l m)
      ∙ cond_no (eqb s.next (3 * s.settings.t + 10)) 8 _ (ne_eqb s.next (3 * s.settings.t + 10) n)

  -- the lengths that a step must be lent
  pub fits-not-block : Valid s.settings s.own → (b ≡ block_size s.settings.n s.settings.t s.settings.k → ⊥) → lengths_fit s b i o ≡ false
  unfolding lengths_fit
  fits-not-block v n =
      and_no_left (eqb b (block_length s.settings.k s.settings.t)) _
      (ne_eqb b (block_length s.settings.k s.settings.t) (λ e. n (e ∙ sym (block_size_is v.coded))))

  pub fits-not-inbox : (i ≡ inbox_length s.settings.n s.settings.t s.settings.k s.next → ⊥) → lengths_fit s b i o ≡ false
  unfolding lengths_fit
  fits-not-inbox n =
      and_no_right (eqb b (block_length s.settings.k s.settings.t)) _
      (and_no_left (eqb i (inbox_length s.settings.n s.settings.t s.settings.k s.next)) _
      (ne_eqb i (inbox_length s.settings.n s.settings.t s.settings.k s.next) n))

  pub fits-outbox : Valid s.settings s.own → b ≡ block_size s.settings.n s.settings.t s.settings.k
      → i ≡ inbox_length s.settings.n s.settings.t s.settings.k s.next
      → lengths_fit s b i o ≡ eqb o (outbox_length s.settings.n s.settings.t s.settings.k s.next)
  unfolding lengths_fit
  fits-outbox v e f =
      and_tail (eqb b (block_length s.settings.k s.settings.t)) _
      (eq-eqb b (block_length s.settings.k s.settings.t) (e ∙ block_size_is v.coded))
      ∙ and_tail (eqb i (inbox_length s.settings.n s.settings.t s.settings.k s.next)) _
      (eq-eqb i (inbox_length s.settings.n s.settings.t s.settings.k s.next) f)
