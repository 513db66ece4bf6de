-- Of which kind a numbered round or call is (`round-..`, `call-..`), which number a kind of call has (`call_fact`), how many rounds and calls there are,
-- and the phase of a round of the vote.
use mathlib.Core.Path.{◌≡◌, refl, ap, ◌∙◌}
use mathlib.Core.Bool.{Bool, true, false, cond}
use mathlib.Core.Logic.{◌⊎◌, inl, inr}
use Prim.Native.Nat.{ℕ, ◌+◌, ◌-◌, ◌*◌, ◌/◌, ◌%◌, ◌<◌, ◌≤◌}
use native.Mathlib.Omega.{arith}
use borrow.Author.Tests.{ne_eqb, le-leb, lt-leb, eqb-true, eqb-false, leb-true, leb-false}
use lib.Dec.{leb, eqb}
use Rattle.wire.specs.declared.Round.TheVariants.{Block, Pieces, Marks, Matrix, Seen, King, Forward, Rebuild, Outside}
use Rattle.wire.specs.declared.Call.{Call}
use Rattle.wire.specs.declared.Call.TheVariants.{Send, Receive, Compare, Collect, Tally, Hold, Settle, Core, Choose, Finish, Outside as NoCall}
use Rattle.wire.specs.Round.{phase_round, last_round, round_kind, phase_call, last_call, call_kind, phase_of}
use Rattle.wire.proofs.Numbers.{from_four}

-- ---- kinds of rounds
pub round-block : (t : ℕ) → round_kind t 1 ≡ Block
unfolding round_kind
round-block t = refl

pub round_pieces : (t : ℕ) → round_kind t 2 ≡ Pieces
unfolding round_kind
round_pieces t = refl

pub round_marks : (t : ℕ) → round_kind t 3 ≡ Marks
unfolding round_kind
round_marks t = refl

pub round_vote : (t c : ℕ) → 4 ≤ c → c ≤ 3 * t + 6 → round_kind t c ≡ phase_round (c % 3)
unfolding round_kind
round_vote t c h l =
    rw (
      ne_eqb c 0 (λ e. omega arith),
      ne_eqb c 1 (λ e. omega arith),
      ne_eqb c 2 (λ e. omega arith),
      ne_eqb c 3 (λ e. omega arith),
      le-leb c (3 * t + 6) l,
    )

pub round-last : (t c : ℕ) → 3 * t + 7 ≤ c → round_kind t c ≡ last_round (c - 3 * t)
unfolding round_kind
round-last t c l =
    rw (
      ne_eqb c 0 (λ e. omega arith),
      ne_eqb c 1 (λ e. omega arith),
      ne_eqb c 2 (λ e. omega arith),
      ne_eqb c 3 (λ e. omega arith),
      lt-leb c (3 * t + 6) (omega arith),
    )

pub round_matrix : (t p : ℕ) → 1 ≤ p → p ≤ t + 1 → round_kind t (3 * p + 1) ≡ Matrix
round_matrix t p h l =
    let e : (3 * p + 1) % 3 ≡ 1 = omega arith in
    round_vote t (3 * p + 1) (omega arith) (omega arith) ∙ ap phase_round e

pub round_seen : (t p : ℕ) → 1 ≤ p → p ≤ t + 1 → round_kind t (3 * p + 2) ≡ Seen
round_seen t p h l =
    let e : (3 * p + 2) % 3 ≡ 2 = omega arith in
    round_vote t (3 * p + 2) (omega arith) (omega arith) ∙ ap phase_round e

pub round_king : (t p : ℕ) → 1 ≤ p → p ≤ t + 1 → round_kind t (3 * p + 3) ≡ King
round_king t p h l =
    let e : (3 * p + 3) % 3 ≡ 0 = omega arith in
    round_vote t (3 * p + 3) (omega arith) (omega arith) ∙ ap phase_round e

pub round_forward : (t : ℕ) → round_kind t (3 * t + 7) ≡ Forward
round_forward t =
    let e : 3 * t + 7 - 3 * t ≡ 7 = omega arith in
    round-last t (3 * t + 7) (omega arith) ∙ ap last_round e

pub round_rebuild : (t : ℕ) → round_kind t (3 * t + 8) ≡ Rebuild
round_rebuild t =
    let e : 3 * t + 8 - 3 * t ≡ 8 = omega arith in
    round-last t (3 * t + 8) (omega arith) ∙ ap last_round e

pub round_past : (t c : ℕ) → 3 * t + 8 < c → round_kind t c ≡ Outside
round_past t c l =
    round-last t c (omega arith)
    ∙ rw (ne_eqb (c - 3 * t) 7 (λ e. omega arith), ne_eqb (c - 3 * t) 8 (λ e. omega arith))

pub round-zero : (t : ℕ) → round_kind t 0 ≡ Outside
unfolding round_kind
round-zero t = refl

-- ---- kinds of calls
pub call_send : (t : ℕ) → call_kind t 1 ≡ Send
unfolding call_kind
call_send t = refl

pub call_receive : (t : ℕ) → call_kind t 2 ≡ Receive
unfolding call_kind
call_receive t = refl

pub call_compare : (t : ℕ) → call_kind t 3 ≡ Compare
unfolding call_kind
call_compare t = refl

pub call_collect : (t : ℕ) → call_kind t 4 ≡ Collect
unfolding call_kind
call_collect t = refl

call_vote : (t c : ℕ) → 5 ≤ c → c ≤ 3 * t + 6 → call_kind t c ≡ phase_call (c % 3)
unfolding call_kind
call_vote t c h l =
    rw (
      ne_eqb c 0 (λ e. omega arith),
      ne_eqb c 1 (λ e. omega arith),
      ne_eqb c 2 (λ e. omega arith),
      ne_eqb c 3 (λ e. omega arith),
      ne_eqb c 4 (λ e. omega arith),
      le-leb c (3 * t + 6) l,
    )

call-last : (t c : ℕ) → 3 * t + 7 ≤ c → call_kind t c ≡ last_call (c - 3 * t)
unfolding call_kind
call-last t c l =
    rw (
      ne_eqb c 0 (λ e. omega arith),
      ne_eqb c 1 (λ e. omega arith),
      ne_eqb c 2 (λ e. omega arith),
      ne_eqb c 3 (λ e. omega arith),
      ne_eqb c 4 (λ e. omega arith),
      lt-leb c (3 * t + 6) (omega arith),
    )

pub call_tally : (t p : ℕ) → 1 ≤ p → p ≤ t + 1 → call_kind t (3 * p + 2) ≡ Tally
call_tally t p h l =
    let e : (3 * p + 2) % 3 ≡ 2 = omega arith in
    call_vote t (3 * p + 2) (omega arith) (omega arith) ∙ ap phase_call e

pub call_hold : (t p : ℕ) → 1 ≤ p → p ≤ t + 1 → call_kind t (3 * p + 3) ≡ Hold
call_hold t p h l =
    let e : (3 * p + 3) % 3 ≡ 0 = omega arith in
    call_vote t (3 * p + 3) (omega arith) (omega arith) ∙ ap phase_call e

pub call_settle : (t p : ℕ) → 1 ≤ p → p ≤ t → call_kind t (3 * p + 4) ≡ Settle
call_settle t p h l =
    let e : (3 * p + 4) % 3 ≡ 1 = omega arith in
    call_vote t (3 * p + 4) (omega arith) (omega arith) ∙ ap phase_call e

pub call_core : (t : ℕ) → call_kind t (3 * t + 7) ≡ Core
call_core t =
    let e : 3 * t + 7 - 3 * t ≡ 7 = omega arith in
    call-last t (3 * t + 7) (omega arith) ∙ ap last_call e

pub call_choose : (t : ℕ) → call_kind t (3 * t + 8) ≡ Choose
call_choose t =
    let e : 3 * t + 8 - 3 * t ≡ 8 = omega arith in
    call-last t (3 * t + 8) (omega arith) ∙ ap last_call e

pub call-finish : (t : ℕ) → call_kind t (3 * t + 9) ≡ Finish
call-finish t =
    let e : 3 * t + 9 - 3 * t ≡ 9 = omega arith in
    call-last t (3 * t + 9) (omega arith) ∙ ap last_call e

-- what a kind of call says of its number
abbrev pub Fact : ℕ → ℕ → Call → Type 0
Fact t c Send = c ≡ 1
Fact t c Receive = c ≡ 2
Fact t c Compare = c ≡ 3
Fact t c Collect = c ≡ 4
Fact t c Tally = (p : ℕ) × (1 ≤ p) × (p ≤ t + 1) × (c ≡ 3 * p + 2)
Fact t c Hold = (p : ℕ) × (1 ≤ p) × (p ≤ t + 1) × (c ≡ 3 * p + 3)
Fact t c Settle = (p : ℕ) × (1 ≤ p) × (p ≤ t) × (c ≡ 3 * p + 4)
Fact t c Core = c ≡ 3 * t + 7
Fact t c Choose = c ≡ 3 * t + 8
Fact t c Finish = c ≡ 3 * t + 9
Fact t c NoCall = (c ≡ 0) ⊎ (3 * t + 9 < c)

-- a choice by a test on c, with what each way shows
pick : (t c : ℕ) (b : Bool) (x y : Call) → (b ≡ true → Fact t c x) → (b ≡ false → Fact t c y) → Fact t c (cond b x y)
pick t c true x y f g = f refl
pick t c false x y f g = g refl

phase_fact : (t c : ℕ) → 5 ≤ c → c ≤ 3 * t + 6 → Fact t c (phase_call (c % 3))
phase_fact t c h l =
    pick t c (eqb (c % 3) 2) Tally (cond (eqb (c % 3) 0) Hold Settle)
    (λ e. let q = eqb-true (c % 3) 2 e in (c / 3, omega arith, omega arith, omega arith))
    (λ e.
    pick t c (eqb (c % 3) 0) Hold Settle
    (λ d. let q = eqb-true (c % 3) 0 d in (c / 3 - 1, omega arith, omega arith, omega arith))
    (λ d.
    let q = eqb-false (c % 3) 2 e in
    let r = eqb-false (c % 3) 0 d in
    let one : c % 3 ≡ 1 = omega arith in
    (c / 3 - 1, one_phase c h one, settled c l one, after c h one)))
  where
    one_phase : (c : ℕ) → 5 ≤ c → c % 3 ≡ 1 → 1 ≤ c / 3 - 1
    one_phase c h e = omega arith

    settled : (c : ℕ) → c ≤ 3 * t + 6 → c % 3 ≡ 1 → c / 3 - 1 ≤ t
    settled c l e = omega arith

    after : (c : ℕ) → 5 ≤ c → c % 3 ≡ 1 → c ≡ 3 * (c / 3 - 1) + 4
    after c h e = omega arith

last_fact : (t c : ℕ) → 3 * t + 7 ≤ c → Fact t c (last_call (c - 3 * t))
last_fact t c l =
    pick t c (eqb (c - 3 * t) 7) Core (cond (eqb (c - 3 * t) 8) Choose (cond (eqb (c - 3 * t) 9) Finish NoCall))
    (λ e. let q = eqb-true (c - 3 * t) 7 e in omega arith)
    (λ e.
    pick t c (eqb (c - 3 * t) 8) Choose (cond (eqb (c - 3 * t) 9) Finish NoCall)
    (λ d. let q = eqb-true (c - 3 * t) 8 d in omega arith)
    (λ d.
    pick t c (eqb (c - 3 * t) 9) Finish NoCall
    (λ f. let q = eqb-true (c - 3 * t) 9 f in omega arith)
    (λ f.
    let q = eqb-false (c - 3 * t) 7 e in
    let r = eqb-false (c - 3 * t) 8 d in
    let s = eqb-false (c - 3 * t) 9 f in
    inr (omega arith))))

pub call_fact : (t c : ℕ) → Fact t c (call_kind t c)
unfolding call_kind
call_fact t c =
    pick t c (eqb c 0) NoCall _ (λ e. inl (eqb-true c 0 e))
    (λ a. pick t c (eqb c 1) Send _ (eqb-true c 1)
    (λ b. pick t c (eqb c 2) Receive _ (eqb-true c 2)
    (λ d. pick t c (eqb c 3) Compare _ (eqb-true c 3)
    (λ e. pick t c (eqb c 4) Collect _ (eqb-true c 4)
    (λ f. pick t c (leb c (3 * t + 6)) (phase_call (c % 3)) (last_call (c - 3 * t))
    (λ g. phase_fact t c (five c (from_four c (eqb-false c 0 a) (eqb-false c 1 b) (eqb-false c 2 d) (eqb-false c 3 e)) (eqb-false c 4 f))
    (leb-true c (3 * t + 6) g))
    (λ g. last_fact t c (after t c (leb-false c (3 * t + 6) g))))))))
  where
    five : (c : ℕ) → 4 ≤ c → (c ≡ 4 → ⊥) → 5 ≤ c
    five c l n = omega arith

    after : (t c : ℕ) → 3 * t + 6 < c → 3 * t + 7 ≤ c
    after t c l = omega arith

-- ---- phases
pub phase_king : (p : ℕ) → phase_of (3 * p + 3) ≡ p
unfolding phase_of
phase_king p = omega arith
