-- Laws of the run of a system. The main ones: `slot_faulty` and `slot_correct` (the slots of an inbox), `called_ext` (a call depends on what the
-- controller itself holds and on the outboxes of the correct ones) and `played-alike` (two scenarios that say the same of the numbers and rounds of
-- the system are played alike).
use mathlib.Core.Path.{◌≡◌, refl, sym, ap, ap₂, ◌∙◌}
use mathlib.Core.Bool.{Bool, true, false, cond}
use mathlib.Core.List.{List, []}
use mathlib.Core.Logic.{⊎_elim}
use Prim.Native.Nat.{ℕ, zero, suc, ◌+◌, ◌*◌, ◌≤◌}
use native.Mathlib.Omega.{arith}
use lib.ListN.{length, replicate}
use Rattle.lists.specs.Join.{joined}
use Rattle.lists.proofs.Tests.{either, cond_yes, cond_no}
use Rattle.lists.proofs.Joins.{joined_ext}
use Rattle.settings.specs.declared.Settings.{Settings}
use Rattle.wire.specs.Length.{round_layout, outbox_length}
use Rattle.wire.specs.Slot.{slot_of, written}
use Rattle.protocol.specs.Step.{start_of, step_of}
use Rattle.simulation.specs.Run.{run_number, layout_at, Scenario, Playing, began, sent_as, slot_to, inbox_of, outbox_of, called, played}

-- ---- what is made and lent
module _ (F : Scenario) where
  pub began_is : (i : ℕ) → began F i ≡ record {
    state = (start_of F.settings i run_number (length F.block)).state;
    block = F.block;
    outbox = [];
  }
  unfolding began
  began_is i = refl

  pub called_is : (c : ℕ) (now : ℕ → Playing) (i : ℕ)
      → let a = step_of (now i).state (now i).block (inbox_of F c now i) (outbox_of F (c + 1)) in
      called F c now i ≡ record { state = a.answer.state; block = a.block; outbox = a.outbox }
  unfolding called
  called_is c now i = refl

  pub inbox_first : (now : ℕ → Playing) (i : ℕ) → inbox_of F 0 now i ≡ []
  unfolding inbox_of
  inbox_first now i = refl

  pub inbox-later : (c : ℕ) (now : ℕ → Playing) (i : ℕ) → inbox_of F (suc c) now i ≡ joined (λ x. slot_to F (suc c) now i (x + 1)) F.settings.n
  unfolding inbox_of
  inbox-later c now i = refl

  pub slot_faulty : (c : ℕ) (now : ℕ → Playing) (i j : ℕ) → F.faulty j ≡ true
      → slot_to F c now i j ≡ written (layout_at F c) (sent_as (F.said c j i))
  unfolding slot_to
  slot_faulty c now i j f = cond_yes (F.faulty j) _ _ f

  pub slot_correct : (c : ℕ) (now : ℕ → Playing) (i j : ℕ) → F.faulty j ≡ false
      → slot_to F c now i j ≡ slot_of (now j).outbox (layout_at F c) i
  unfolding slot_to
  slot_correct c now i j f = cond_no (F.faulty j) _ _ f

  pub cleared : (c : ℕ) → outbox_of F c ≡ replicate (outbox_length F.settings.n F.settings.t F.settings.k c) 0
  unfolding outbox_of
  cleared c = refl

-- ---- of what the others hold, only the outboxes of correct ones count
module _ (F : Scenario) (c : ℕ) (now now' : ℕ → Playing) (i : ℕ)
    (outboxes : (j : ℕ) → 1 ≤ j → j ≤ F.settings.n → F.faulty j ≡ false → (now j).outbox ≡ (now' j).outbox) where
  slot_ext : (j : ℕ) → 1 ≤ j → j ≤ F.settings.n → slot_to F c now i j ≡ slot_to F c now' i j
  slot_ext j least most =
      ⊎_elim
      (λ (y : F.faulty j ≡ true). slot_faulty F c now i j y ∙ sym (slot_faulty F c now' i j y))
      (λ (y : F.faulty j ≡ false).
      slot_correct F c now i j y
      ∙ ap (λ (o : List ℕ). slot_of o (layout_at F c) i) (outboxes j least most y)
      ∙ sym (slot_correct F c now' i j y))
      (either (F.faulty j))

pub inbox_ext : (F : Scenario) (c : ℕ) (now now' : ℕ → Playing) (i : ℕ)
    → ((j : ℕ) → 1 ≤ j → j ≤ F.settings.n → F.faulty j ≡ false → (now j).outbox ≡ (now' j).outbox) → inbox_of F c now i ≡ inbox_of F c now' i
unfolding inbox_of
inbox_ext F zero now now' i h = refl
inbox_ext F (suc c) now now' i h =
    joined_ext (λ x. slot_to F (suc c) now i (x + 1)) (λ x. slot_to F (suc c) now' i (x + 1)) F.settings.n
    (λ x l. slot_ext F (suc c) now now' i h (x + 1) (omega arith) (omega arith))

pub called_ext : (F : Scenario) (c : ℕ) (now now' : ℕ → Playing) (i : ℕ) → (now i).state ≡ (now' i).state → (now i).block ≡ (now' i).block
    → ((j : ℕ) → 1 ≤ j → j ≤ F.settings.n → F.faulty j ≡ false → (now j).outbox ≡ (now' j).outbox) → called F c now i ≡ called F c now' i
unfolding called
called_ext F c now now' i s b o =
    let e = inbox_ext F c now now' i o in
    (λ x. let a = step_of (s x) (b x) (e x) (outbox_of F (c + 1)) in record { state = a.answer.state; block = a.block; outbox = a.outbox })

-- ---- calls, one after the other
pub played_start : (F : Scenario) (i : ℕ) → played F 0 i ≡ began F i
unfolding played
played_start F i = refl

pub played_correct : (F : Scenario) (c i : ℕ) → F.faulty i ≡ false → played F (suc c) i ≡ called F c (played F c) i
unfolding played
played_correct F c i n = cond_no (F.faulty i) (played F c i) (called F c (played F c) i) n

pub played-faulty : (F : Scenario) (c i : ℕ) → F.faulty i ≡ true → played F (suc c) i ≡ played F c i
unfolding played
played-faulty F c i y = cond_yes (F.faulty i) (played F c i) (called F c (played F c) i) y

-- ---- scenarios that say the same
module _ (s : Settings) (block : List ℕ) (faulty faulty' : ℕ → Bool) (said said' : (r f j : ℕ) → List ℕ)
    (same-faulty : (j : ℕ) → 1 ≤ j → j ≤ s.n → faulty j ≡ faulty' j)
    (same-said : (r f j : ℕ) → 1 ≤ r → r ≤ 3 * s.t + 8 → 1 ≤ f → f ≤ s.n → 1 ≤ j → j ≤ s.n → said r f j ≡ said' r f j) where
  one : Scenario
  one = record { settings = s; block = block; faulty = faulty; said = said }

  other : Scenario
  other = record { settings = s; block = block; faulty = faulty'; said = said' }

  slot_alike : (c : ℕ) (now : ℕ → Playing) (i j : ℕ) → 1 ≤ c → c ≤ 3 * s.t + 8 → 1 ≤ i → i ≤ s.n → 1 ≤ j → j ≤ s.n
      → slot_to one c now i j ≡ slot_to other c now i j
  unfolding slot_to one other
  slot_alike c now i j a b d e f g =
      ap₂ (λ (x : Bool) (m : List ℕ). cond x (written (round_layout run_number s.n s.t s.k c) (sent_as m))
      (slot_of (now j).outbox (round_layout run_number s.n s.t s.k c) i))
      (same-faulty j f g) (same-said c j i a b f g d e)

  inbox-alike : (c : ℕ) (now : ℕ → Playing) (i : ℕ) → c ≤ 3 * s.t + 8 → 1 ≤ i → i ≤ s.n → inbox_of one c now i ≡ inbox_of other c now i
  unfolding inbox_of one other
  inbox-alike zero now i b d e = refl
  inbox-alike (suc c) now i b d e =
      joined_ext (λ x. slot_to one (suc c) now i (x + 1)) (λ x. slot_to other (suc c) now i (x + 1)) s.n
      (λ x l. slot_alike (suc c) now i (x + 1) (omega arith) b d e (omega arith) (omega arith))

  called-alike : (c : ℕ) (now : ℕ → Playing) (i : ℕ) → c ≤ 3 * s.t + 8 → 1 ≤ i → i ≤ s.n → called one c now i ≡ called other c now i
  unfolding called outbox_of one other
  called-alike c now i b d e =
      let q = inbox-alike c now i b d e in
      (λ x. let a = step_of (now i).state (now i).block (q x)
      (outbox_of one (c + 1)) in record { state = a.answer.state; block = a.block; outbox = a.outbox })

  alike : (c i : ℕ) → c ≤ 3 * s.t + 9 → 1 ≤ i → i ≤ s.n → played one c i ≡ played other c i
  unfolding one other began
  alike zero i b d e = played_start one i ∙ sym (played_start other i)
  alike (suc c) i b d e =
      ⊎_elim
      (λ (y : faulty i ≡ true).
      played-faulty one c i y ∙ alike c i (omega arith) d e ∙ sym (played-faulty other c i (sym (same-faulty i d e) ∙ y)))
      (λ (y : faulty i ≡ false).
      played_correct one c i y
      ∙ called_ext one c (played one c) (played other c) i (ap (λ (p : Playing). p.state) (alike c i (omega arith) d e))
      (ap (λ (p : Playing). p.block) (alike c i (omega arith) d e))
      (λ j f g _. ap (λ (p : Playing). p.outbox) (alike c j (omega arith) f g))
      ∙ called-alike c (played other c) i (omega arith) d e
      ∙ sym (played_correct other c i (sym (same-faulty i d e) ∙ y)))
      (either (faulty i))

  pub played-alike : (c i : ℕ) → c ≤ 3 * s.t + 9 → 1 ≤ i → i ≤ s.n
      → played (record { settings = s; block = block; faulty = faulty; said = said }) c i
      ≡ played (record { settings = s; block = block; faulty = faulty'; said = said' }) c i
  unfolding one other
  played-alike c i b d e = alike c i b d e

-- a call does not read the block that was given
module _ (s : Settings) (b b' : List ℕ) (faulty : ℕ → Bool) (said : (r f j : ℕ) → List ℕ) where
  pub called_other : (c : ℕ) (now : ℕ → Playing) (i : ℕ)
      → called (record { settings = s; block = b; faulty = faulty; said = said }) c now i
      ≡ called (record { settings = s; block = b'; faulty = faulty; said = said }) c now i
  unfolding called inbox_of slot_to outbox_of
  called_other zero now i = refl
  called_other (suc c) now i = refl
