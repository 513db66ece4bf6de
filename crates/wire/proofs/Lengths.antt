-- The lengths of messages, blocks, inboxes and outboxes within the settings, by the table of factors, and that every message of a run has one.
use mathlib.Core.Path.{◌≡◌, refl, sym, ap, subst, ◌∙◌}
use mathlib.Core.Bool.{Bool, true, false, cond}
use mathlib.Core.Logic.{⊎_elim}
use Prim.Native.Nat.{ℕ, ◌+◌, ◌-◌, ◌*◌, ◌%◌, ◌<◌, ◌≤◌}
use native.Mathlib.Nat.{mul-pos}
use native.Mathlib.Omega.{arith}
use borrow.Author.Tests.{eq-eqb, ne_eqb, eqb-true}
use lib.Dec.{eqb}
use Rattle.lists.proofs.Tests.{either, cond_yes, cond_no, lt_or_le, same_or_not}
use Rattle.settings.specs.Refusal.{lengths_refusal}
use Rattle.settings.specs.Valid.{Coded}
use Rattle.settings.proofs.Laws.{lengths_0, 0_lengths}
use Rattle.wire.specs.declared.Round.{Round}
use Rattle.wire.specs.declared.Round.TheVariants.{Block, Pieces, Marks, Matrix, Seen, King, Forward, Rebuild, Outside}
use Rattle.wire.specs.Round.{phase_round, round_kind}
use Rattle.wire.specs.Length.{block_length, row_length, in_settings, block_size, kind_length, round_layout, message_length, box_length, inbox_length, outbox_length}
use Rattle.wire.specs.Slot.{header, width}
use Rattle.wire.proofs.Numbers.{from_four}
use Rattle.wire.proofs.Factors.{row_le}
use Rattle.wire.proofs.RoundKinds.{round-block, round_pieces, round_marks, round_vote, round_forward, round_rebuild, round_past, round-zero}

-- ---- settings
pub in_settings_lem : {n t k : ℕ} → Coded n t k → in_settings n t k ≡ true
unfolding in_settings
in_settings_lem {n} {t} {k} v = eq-eqb _ 0 (0_lengths n t k v)

pub settings_in_lem : (n t k : ℕ) → in_settings n t k ≡ true → Coded n t k
unfolding in_settings
settings_in_lem n t k e = lengths_0 n t k (eqb-true _ 0 e)

-- ---- lengths
pub kind_length_is : {n t k : ℕ} → Coded n t k → (r : Round) → kind_length r n t k ≡ row_length r n t k
unfolding kind_length
kind_length_is {n} {t} {k} v r = cond_yes (in_settings n t k) (row_length r n t k) 0 (in_settings_lem v)

-- settings that are refused have no lengths
pub kind_length_none : (n t k : ℕ) (r : Round) → (lengths_refusal n t k ≡ 0 → ⊥) → kind_length r n t k ≡ 0
unfolding kind_length in_settings
kind_length_none n t k r h = cond_no (in_settings n t k) (row_length r n t k) 0 (ne_eqb (lengths_refusal n t k) 0 h)

pub message_length_is : {n t k : ℕ} → Coded n t k → (c : ℕ) → message_length n t k c ≡ row_length (round_kind t c) n t k
message_length_is {n} {t} {k} v c = kind_length_is v (round_kind t c)

-- a length that is not 0 is within the settings
pub length_some : (n t k c : ℕ) → (message_length n t k c ≡ 0 → ⊥) → Coded n t k
unfolding kind_length
length_some n t k c h =
    ⊎_elim (λ (e : in_settings n t k ≡ true). settings_in_lem n t k e)
    (λ (e : in_settings n t k ≡ false). absurd (h (cond_no (in_settings n t k) (row_length (round_kind t c) n t k) 0 e)))
    (either (in_settings n t k))

pub length_le : {n t k : ℕ} → Coded n t k → (c : ℕ) → message_length n t k c ≤ 768
length_le {n} {t} {k} v c = rw (message_length_is v c) (row_le (round_kind t c) n t k v.quorum.n_most (omega arith) v.k_most)

pub block_length_is : (k t : ℕ) → block_length k t ≡ k * (t + 1)
unfolding block_length
block_length_is k t = refl

pub block_size_is : {n t k : ℕ} → Coded n t k → block_size n t k ≡ block_length k t
unfolding block_size
block_size_is {n} {t} {k} v = cond_yes (in_settings n t k) (block_length k t) 0 (in_settings_lem v)

-- the length column, row by row
pub row_block : (n t k : ℕ) → row_length Block n t k ≡ block_length k t
unfolding row_length
row_block n t k = refl

pub row_pieces : (n t k : ℕ) → row_length Pieces n t k ≡ 2 * k
unfolding row_length
row_pieces n t k = refl

pub row_marks : (n t k : ℕ) → row_length Marks n t k ≡ 2
unfolding row_length
row_marks n t k = refl

pub row_matrix : (n t k : ℕ) → row_length Matrix n t k ≡ 2 * n
unfolding row_length
row_matrix n t k = refl

pub row_seen : (n t k : ℕ) → row_length Seen n t k ≡ 4 * n
unfolding row_length
row_seen n t k = refl

pub row_king : (n t k : ℕ) → row_length King n t k ≡ 2 * n
unfolding row_length
row_king n t k = refl

pub row_forward : (n t k : ℕ) → row_length Forward n t k ≡ k
unfolding row_length
row_forward n t k = refl

pub row_rebuild : (n t k : ℕ) → row_length Rebuild n t k ≡ k
unfolding row_length
row_rebuild n t k = refl

pub row_outside : (n t k : ℕ) → row_length Outside n t k ≡ 0
unfolding row_length
row_outside n t k = refl

-- ---- every message of a run has a length
phase_pos : (n t k m : ℕ) → Coded n t k → 1 ≤ row_length (phase_round m) n t k
phase_pos n t k m v = go (eqb m 1) (eqb m 2)
  where
    go : (a b : Bool) → 1 ≤ row_length (cond a Matrix (cond b Seen King)) n t k
    go true b = omega (arith, row_matrix n t k, v.quorum.n_least)
    go false true = omega (arith, row_seen n t k, v.quorum.n_least)
    go false false = omega (arith, row_king n t k, v.quorum.n_least)

pub length_pos : {n t k : ℕ} → Coded n t k → (c : ℕ) → 1 ≤ c → c ≤ 3 * t + 8 → 1 ≤ message_length n t k c
length_pos {n} {t} {k} v c h l =
    rw (message_length_is v c)
    (⊎_elim (λ (e : c ≡ 1). at e (round-block t) (omega (arith, row_block n t k, block_length_is k t, mul-pos v.k_least (one t))))
    (λ (a : c ≡ 1 → ⊥). ⊎_elim (λ (e : c ≡ 2). at e (round_pieces t) (omega (arith, row_pieces n t k, v.k_least)))
    (λ (b : c ≡ 2 → ⊥). ⊎_elim (λ (e : c ≡ 3). at e (round_marks t) (omega (arith, row_marks n t k)))
    (λ (d : c ≡ 3 → ⊥). ⊎_elim
    (λ (m : c < 3 * t + 7). subst (λ (r : Round). 1 ≤ row_length r n t k) (sym (round_vote t c (from_four c (λ e. omega arith) a b d) (omega arith)))
    (phase_pos n t k (c % 3) v))
    (λ (m : 3 * t + 7 ≤ c). ⊎_elim (λ (e : c ≡ 3 * t + 7). at e (round_forward t) (omega (arith, row_forward n t k, v.k_least)))
    (λ (f : c ≡ 3 * t + 7 → ⊥). at (end c l m f) (round_rebuild t) (omega (arith, row_rebuild n t k, v.k_least)))
    (same_or_not c (3 * t + 7)))
    (lt_or_le c (3 * t + 7)))
    (same_or_not c 3))
    (same_or_not c 2))
    (same_or_not c 1))
  where
    one : (t : ℕ) → 0 < t + 1
    one t = omega arith

    end : (c : ℕ) → c ≤ 3 * t + 8 → 3 * t + 7 ≤ c → (c ≡ 3 * t + 7 → ⊥) → c ≡ 3 * t + 8
    end c l m f = omega arith

    at : {x : ℕ} {r : Round} → c ≡ x → round_kind t x ≡ r → 1 ≤ row_length r n t k → 1 ≤ row_length (round_kind t c) n t k
    at {x} {r} e q p = subst (λ (y : Round). 1 ≤ row_length y n t k) (sym (ap (round_kind t) e ∙ q)) p

-- ---- inboxes and outboxes
-- outside the rounds there is no length
pub length_none : (n t k c : ℕ) → round_kind t c ≡ Outside → message_length n t k c ≡ 0
unfolding kind_length
length_none n t k c e =
    ⊎_elim
    (λ (q : in_settings n t k ≡ true). cond_yes (in_settings n t k) (row_length (round_kind t c) n t k) 0 q ∙ ap (λ (r : Round). row_length r n t k) e
    ∙ row_outside n t k)
    (λ (q : in_settings n t k ≡ false). cond_no (in_settings n t k) (row_length (round_kind t c) n t k) 0 q)
    (either (in_settings n t k))

box_none : (n t k c : ℕ) → message_length n t k c ≡ 0 → box_length n t k c ≡ 0
unfolding box_length
box_none n t k c e = cond_yes (eqb (message_length n t k c) 0) 0 (n * (header + message_length n t k c)) (eq-eqb (message_length n t k c) 0 e)

box_some : (run n t k c : ℕ) → 1 ≤ message_length n t k c → box_length n t k c ≡ n * width (round_layout run n t k c)
unfolding box_length width
box_some run n t k c l = cond_no (eqb (message_length n t k c) 0) 0 (n * (header + message_length n t k c)) (ne_eqb (message_length n t k c) 0 (λ e. omega arith))

-- the outbox of a call whose round has messages, and the inbox of the call after it: n slots, whatever the run
pub outbox_is : (run n t k c : ℕ) → 1 ≤ message_length n t k c → outbox_length n t k c ≡ n * width (round_layout run n t k c)
unfolding outbox_length
outbox_is = box_some

pub inbox_is : (run n t k c : ℕ) → 1 ≤ message_length n t k c → inbox_length n t k (c + 1) ≡ n * width (round_layout run n t k c)
unfolding inbox_length
inbox_is run n t k c l =
    let e : c + 1 - 1 ≡ c = omega arith in
    ap (box_length n t k) e ∙ box_some run n t k c l

pub first_inbox : (n t k : ℕ) → inbox_length n t k 1 ≡ 0
unfolding inbox_length
first_inbox n t k = box_none n t k 0 (length_none n t k 0 (round-zero t))

pub last-outbox : (n t k : ℕ) → outbox_length n t k (3 * t + 9) ≡ 0
unfolding outbox_length
last-outbox n t k = box_none n t k (3 * t + 9) (length_none n t k (3 * t + 9) (round_past t (3 * t + 9) (omega arith)))
