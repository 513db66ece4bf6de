-- Step 1. A run is its calls in order: refused steps change nothing (`chain`), call c is made on a state whose next call is c (`nth`), each
-- call goes on from what the one before left, and after the last call every step is refused with 8 (`finished_step`).
use mathlib.Core.Path.{◌≡◌, refl, sym, ap, subst, ◌∙◌}
use mathlib.Core.Bool.{Bool, true, false, cond}
use mathlib.Core.List.{List, [], ◌∷◌}
use Prim.Native.Nat.{ℕ, zero, suc, ◌+◌, ◌*◌, ◌<◌}
use native.Mathlib.Nat.{add-zero, not-suc-le-zero, le_of_suc-le-suc}
use native.Mathlib.Omega.{arith}
use borrow.Author.Tests.{eqb-true, eqb-false}
use lib.ListN.{length, get_or}
use Rattle.settings.specs.declared.Settings.{Settings}
use Rattle.settings.specs.Valid.{Valid}
use Rattle.wire.specs.Round.{call_kind}
use Rattle.protocol.specs.declared.State.{State}
use Rattle.protocol.specs.Calls.{Carried, call_of}
use Rattle.protocol.specs.Step.{step_refusal, After, done, Ready}
use Rattle.protocol.proofs.Laws.{step_refused, step_carried, step_number_lem, step_0, 8_step, call_keeps, call_inside}
use Rattle.agreement.specs.Run.{Lent, Local, Made, stepped, left, carried_out, left_after, made, calls}

-- the refusal number of a step on what is held, with what is lent
abbrev pub step_number : Local → Lent → ℕ
step_number h l = step_refusal h.state (length h.block) (length l.inbox) (length l.outbox)

-- the call that a step performs where it is not refused
abbrev pub performs : Local → Lent → Carried
performs h l = call_of (call_kind h.state.settings.t h.state.next) h.state h.block l.inbox l.outbox

rest : After → Local
rest a = record { state = a.answer.state; block = a.block }

module _ (h : Local) (l : Lent) where
  carried_out_lem : step_number h l ≡ 0 → stepped h l ≡ done (performs h l)
  carried_out_lem = step_carried h.state h.block l.inbox l.outbox

  -- a refused step leaves what it was given
  pub refused_left : (step_number h l ≡ 0 → ⊥) → left h l ≡ h
  unfolding rest
  refused_left z = ap rest (step_refused h.state h.block l.inbox l.outbox z)

  pub carried_out_yes : carried_out h l ≡ true → step_number h l ≡ 0
  carried_out_yes e = sym (step_number_lem h.state h.block l.inbox l.outbox) ∙ eqb-true (stepped h l).answer.number 0 e

  pub carried_out_no : carried_out h l ≡ false → step_number h l ≡ 0 → ⊥
  carried_out_no e z = eqb-false (stepped h l).answer.number 0 e (step_number_lem h.state h.block l.inbox l.outbox ∙ z)

-- the calls go on from one another: each on what the one before left, the first on h, and the last leaves e
abbrev pub Chain : Local → List Made → Local → Type 0
Chain h [] e = h ≡ e
Chain h (m ∷ ms) e = (m ≡ made h m.lent) × (step_number h m.lent ≡ 0) × Chain (left h m.lent) ms e

-- whatever steps are refused, a run is the chain of its calls
pub chain : (h : Local) (ls : List Lent) → Chain h (calls h ls) (left_after h ls)
chain h [] = refl
chain h (l ∷ ls) = go (carried_out h l) refl (chain (left h l) ls)
  where
    go : (b : Bool) → carried_out h l ≡ b → Chain (left h l) (calls (left h l) ls) (left_after (left h l) ls)
        → Chain h (cond b (made h l ∷ calls (left h l) ls) (calls (left h l) ls)) (left_after (left h l) ls)
    go true e r = (refl, carried_out_yes h l e, r)
    go false e r = subst (λ (x : Local). Chain x (calls (left h l) ls) (left_after (left h l) ls)) (refused_left h l (carried_out_no h l e)) r

-- a run refused in between is the run without the refused steps
pub refused_away : (h : Local) (l : Lent) (ls : List Lent) → carried_out h l ≡ false
    → (calls h (l ∷ ls) ≡ calls h ls) × (left_after h (l ∷ ls) ≡ left_after h ls)
refused_away h l ls e =
    let same = refused_left h l (carried_out_no h l e) in (
      ap (λ (b : Bool). cond b (made h l ∷ calls (left h l) ls) (calls (left h l) ls)) e
          ∙ ap (λ (x : Local). calls x ls) same,
      ap (λ (x : Local). left_after x ls) same,
    )

-- what is held before call c of a run with these settings and this run number
pub record At (s : Settings) (own run c : ℕ) (h : Local) : Type 0 where
  pub settings_is : h.state.settings ≡ s
  pub own_is : h.state.own ≡ own
  pub run_is : h.state.run ≡ run
  pub next_is : h.state.next ≡ c

module _ (s : Settings) (own run c : ℕ) (h : Local) (l : Lent) (a : At s own run c h) where
  -- a call leaves what the next call is made on
  pub step_at : step_number h l ≡ 0 → At s own run (c + 1) (left h l)
  step_at z =
      let r = step_0 h.state (length h.block) (length l.inbox) (length l.outbox) z in
      let keeps = call_keeps (call_kind h.state.settings.t h.state.next) h.state h.block l.inbox l.outbox
      (call_inside h.state.settings.t h.state.next r.next_least r.next_most) in
      let e : (left h l).state ≡ (performs h l).state = ap (λ (x : After). x.answer.state) (carried_out_lem h l z) in
      record {
        settings_is = ap (λ (x : State). x.settings) e ∙ keeps.settings ∙ a.settings_is;
        own_is = ap (λ (x : State). x.own) e ∙ keeps.own ∙ a.own_is;
        run_is = ap (λ (x : State). x.run) e ∙ keeps.run ∙ a.run_is;
        next_is = ap (λ (x : State). x.next) e ∙ keeps.next ∙ ap (λ (x : ℕ). x + 1) a.next_is;
      }

-- what is held is valid where the settings and the own number are
pub valid_at : {s : Settings} {own run c : ℕ} (h : Local) → At s own run c h → Valid s own → Valid h.state.settings h.state.own
valid_at {s} {own} {run} {c} h a v = subst (Valid h.state.settings) (sym a.own_is) (subst (λ (x : Settings). Valid x own) (sym a.settings_is) v)

-- a run that is finished stays so: every step is refused with 8 and leaves what it was given
module _ (s : Settings) (own run : ℕ) (valid : Valid s own) (h : Local) (a : At s own run (3 * s.t + 10) h) (l : Lent) where
  eight : step_number h l ≡ 8
  eight =
      8_step h.state (length h.block) (length l.inbox) (length l.outbox)
      (valid_at h a valid)
      (a.next_is ∙ ap (λ (x : Settings). 3 * x.t + 10) (sym a.settings_is))

  pub finished_step : ((stepped h l).answer.number ≡ 8) × (left h l ≡ h)
  finished_step = (
    step_number_lem h.state h.block l.inbox l.outbox ∙ eight,
    refused_left h l (λ z. let e : step_number h l ≡ 8 = eight in omega arith),
  )

-- what is known of call c
pub record CallAt (s : Settings) (own run c : ℕ) (m : Made) : Type 0 where
  pub before_at : At s own run c m.before
  pub after_at : At s own run (c + 1) m.after
  pub ready : Ready m.before.state (length m.before.block) (length m.lent.inbox) (length m.lent.outbox)
  pub state_is : m.after.state ≡ (performs m.before m.lent).state
  pub block_is : m.after.block ≡ (performs m.before m.lent).block
  pub sends_is : m.sends ≡ (performs m.before m.lent).outbox

module _ (s : Settings) (own run : ℕ) where
  first_at : (c : ℕ) (h : Local) (m : Made) → At s own run c h → m ≡ made h m.lent → step_number h m.lent ≡ 0 → CallAt s own run c m
  first_at c h m a e z =
      subst (λ (x : Made). CallAt s own run c x) (sym e)
      (record {
        before_at = a;
        after_at = step_at s own run c h m.lent a z;
        ready = step_0 h.state (length h.block) (length m.lent.inbox) (length m.lent.outbox) z;
        state_is = ap (λ (x : After). x.answer.state) (carried_out_lem h m.lent z);
        block_is = ap (λ (x : After). x.block) (carried_out_lem h m.lent z);
        sends_is = ap (λ (x : After). x.outbox) (carried_out_lem h m.lent z);
      })

  -- the calls of a chain are numbered from that of its first
  pub nth : (d : Made) (h : Local) (ms : List Made) (e : Local) (c : ℕ) → Chain h ms e → At s own run c h → (i : ℕ) → i < length ms
      → CallAt s own run (c + i) (get_or ms i d)
  nth d h [] e c ch a i lt = absurd (not-suc-le-zero lt)
  nth d h (m ∷ ms) e c ch a zero lt = rw add-zero (first_at c h m a ch.0 ch.1)
  nth d h (m ∷ ms) e c ch a (suc i) lt =
      let step : c + 1 + i ≡ c + suc i = omega arith in
      subst (λ (x : ℕ). CallAt s own run x (get_or ms i d)) step
      (nth d (left h m.lent) ms e (c + 1) ch.2 (step_at s own run c h m.lent a ch.1) i (le_of_suc-le-suc lt))

-- the first call is made on what the chain begins with, each other on what the one before left, and the last leaves its end
pub first_before : (d : Made) (h : Local) (ms : List Made) (e : Local) → Chain h ms e → 0 < length ms → (get_or ms 0 d).before ≡ h
first_before d h [] e ch lt = absurd (not-suc-le-zero lt)
first_before d h (m ∷ ms) e ch lt = ap (λ (x : Made). x.before) ch.0

pub next_before : (d : Made) (h : Local) (ms : List Made) (e : Local) → Chain h ms e → (i : ℕ) → suc i < length ms
    → (get_or ms (suc i) d).before ≡ (get_or ms i d).after
next_before d h [] e ch i lt = absurd (not-suc-le-zero lt)
next_before d h (m ∷ ms) e ch zero lt =
    first_before d (left h m.lent) ms e ch.2 (le_of_suc-le-suc lt) ∙ sym (ap (λ (x : Made). x.after) ch.0)
next_before d h (m ∷ ms) e ch (suc i) lt = next_before d (left h m.lent) ms e ch.2 i (le_of_suc-le-suc lt)

pub last-after : (d : Made) (h : Local) (ms : List Made) (e : Local) → Chain h ms e → (i : ℕ) → length ms ≡ suc i → (get_or ms i d).after ≡ e
last-after d h [] e ch i eq = absurd (omega arith)
last-after d h (m ∷ []) e ch zero eq = ap (λ (x : Made). x.after) ch.0 ∙ ch.2
last-after d h (m ∷ []) e ch (suc i) eq = absurd (omega arith)
last-after d h (m ∷ (m' ∷ ms)) e ch zero eq = absurd (omega arith)
last-after d h (m ∷ (m' ∷ ms)) e ch (suc i) eq = last-after d (left h m.lent) (m' ∷ ms) e ch.2 i (omega arith)
