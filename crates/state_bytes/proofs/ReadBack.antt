-- What was written is read back. The main laws: `read_written` (what was written is read back), `length_state` (the bytes of a state have the
-- stated length) and `state_words` (every list of bytes is a state whose fields are within their bounds).
use mathlib.Core.Path.{◌≡◌, sym, ap, subst, ◌∙◌}
use mathlib.Core.Logic.{⊎_elim}
use mathlib.Core.List.{List, [], ◌∷◌}
use Prim.Native.Nat.{ℕ, zero, suc, ◌/◌, ◌%◌, ◌^◌, ◌≤◌, ◌<◌}
use native.Mathlib.Nat.{zero-lt-suc, pow-le-pow_right, lt_of_lt_of_le}
use native.Mathlib.Omega.{arith}
use borrow.Author.Tests.{eq-eqb}
use lib.Dec.{eqb}
use lib.ListN.{length, get_or, take, drop, length-take, get_or-eq_default}
use Rattle.lists.specs.Fill.{tabulate}
use Rattle.lists.proofs.Fills.{length-tabulate, get_or-tabulate, tabulate_ext, tabulate-get_or}
use Rattle.lists.proofs.Parts.{all_take, all_drop}
use Rattle.lists.proofs.Tests.{cond_yes, lt_or_le}
use Rattle.bitset.specs.Row.{row_of, rows_in, rows_of}
use Rattle.bitset.proofs.Laws.{restrict_below, row_lt, row_read, row_pair}
use Rattle.reconstruction.specs.declared.Outcome.{Outcome}
use Rattle.reconstruction.specs.declared.Outcome.TheVariants.{Open, Agreed, None, Beyond}
use Rattle.reconstruction.specs.Outcomes.{outcome_number}
use Rattle.protocol.specs.declared.State.{State}
use Rattle.protocol.specs.State.{zero_state}
use Rattle.state_bytes.specs.State.{little_endian, number_of, widths, width_of, offset, state_length, six_numbers, field_bytes, state_bytes, field_in}
use Rattle.reconstruction.specs.Outcomes.{outcome_from}
use Rattle.reconstruction.proofs.Laws.{outcome_back}
use Rattle.state_bytes.specs.State.{field_number, state_in, state_of, Words}
use Rattle.state_bytes.proofs.Digits.{number_lt, number_back}
use Rattle.state_bytes.proofs.Fields.{number-width_is, number-field, length_fields, field_read, made}

-- the bytes of a state have the stated length
pub length_state : (s : State) → length (state_bytes s) ≡ state_length
unfolding state_bytes
length_state s = length_fields s (length widths)

-- ---- each field is read back
field_back : (s : State) (i : ℕ) → i < length widths → field_in (state_bytes s) i ≡ field_bytes s i
unfolding state_bytes field_in
field_back s i h = field_read s (length widths) i h

number_read_lem : (s : State) → Words s → (i : ℕ) → i < 6 → get_or (six_numbers s) i 0 ≡ field_number (state_bytes s) i
number_read_lem s w i h =
    let x = get_or (six_numbers s) i 0 in
    let fits : x < 256 ^ width_of i = subst (λ (m : ℕ). x < 256 ^ m) (sym (number-width_is i h)) (w.numbers i) in
    sym (ap number_of (field_back s i (omega arith) ∙ number-field s i h) ∙ number_back (width_of i) x fits)

outcome_fits : (w : Outcome) → outcome_number w < 256 ^ width_of 6
unfolding width_of
outcome_fits Open = omega arith
outcome_fits Agreed = omega arith
outcome_fits None = omega arith
outcome_fits Beyond = omega arith

outcome_read : (w : Outcome) → outcome_from (number_of (little_endian (width_of 6) (outcome_number w))) ≡ w
outcome_read w = ap outcome_from (number_back (width_of 6) (outcome_number w) (outcome_fits w)) ∙ outcome_back w

rows_back : (m : List ℕ) → length m ≡ 16 → ((i : ℕ) → get_or m i 0 < 2 ^ 16) → tabulate (row_of 16 (rows_of 16 m)) 16 ≡ m
rows_back m e h =
    tabulate_ext (row_of 16 (rows_of 16 m)) (λ i. get_or m i 0) 16 (λ i l. row_read 16 m i (omega arith) l ∙ restrict_below (get_or m i 0) 16 (h i))
    ∙ ap (tabulate (λ i. get_or m i 0)) (sym e) ∙ tabulate-get_or m 0

row_back : (x : ℕ) → x < 2 ^ 16 → row_of 16 (little_endian 2 x) 0 ≡ x
unfolding little_endian
row_back x h =
    let u : x / 256 % 256 ≡ x / 256 = omega arith in
    ap (λ (y : ℕ). row_of 16 (x % 256 ∷ y ∷ []) 0) u ∙ row_pair 16 x h

-- ---- what was written is read back
fields_back : (s : State) → Words s → s ≡ state_in (state_bytes s)
unfolding field_bytes width_of
fields_back s w =
    let b = state_bytes s in
    let number = number_read_lem s w in
    made b (number 0 (omega arith)) (number 1 (omega arith)) (number 2 (omega arith)) (number 3 (omega arith)) (number 4 (omega arith)) (number 5 (omega arith))
    (sym (ap (λ (x : List ℕ). outcome_from (number_of x)) (field_back s 6 (omega arith)) ∙ outcome_read s.outcome))
    (sym (ap rows_in (field_back s 7 (omega arith)) ∙ rows_back s.matrix w.matrix_length w.matrix_rows))
    (sym (ap rows_in (field_back s 8 (omega arith)) ∙ rows_back s.weak w.weak-length w.weak_rows))
    (sym (ap (λ (x : List ℕ). row_of 16 x 0) (field_back s 9 (omega arith)) ∙ row_back s.core w.core_row))
    (sym (ap (λ (x : List ℕ). row_of 16 x 0) (field_back s 10 (omega arith)) ∙ row_back s.named w.named_row))
    (sym (ap number_of (field_back s 11 (omega arith)) ∙ number_back 2 s.run w.run_word))

pub read_written : (s : State) → Words s → state_of (state_bytes s) ≡ s
unfolding state_of
read_written s w =
    cond_yes (eqb (length (state_bytes s)) state_length) (state_in (state_bytes s)) zero_state (eq-eqb (length (state_bytes s)) state_length (length_state s))
    ∙ sym (fields_back s w)

-- ---- every list of bytes is a state
-- six numbers below 2 ^ 64; there is no seventh
pub numbers_lt : (s : State) → s.settings.n < 2 ^ 64 → s.settings.t < 2 ^ 64 → s.settings.k < 2 ^ 64 → s.own < 2 ^ 64 → s.settings.sender < 2 ^ 64
    → s.next < 2 ^ 64
    → (i : ℕ) → get_or (six_numbers s) i 0 < 2 ^ 64
numbers_lt s n t k own sender next zero = n
numbers_lt s n t k own sender next (suc zero) = t
numbers_lt s n t k own sender next (suc (suc zero)) = k
numbers_lt s n t k own sender next (suc (suc (suc zero))) = own
numbers_lt s n t k own sender next (suc (suc (suc (suc zero)))) = sender
numbers_lt s n t k own sender next (suc (suc (suc (suc (suc zero))))) = next
numbers_lt s n t k own sender next (suc (suc (suc (suc (suc (suc i)))))) = omega arith

module _ (l : List ℕ) (bytes : (i : ℕ) → get_or l i 0 < 256) where
  -- a number is below the bound of its width
  number_bound : (i : ℕ) → field_number l i < 256 ^ width_of i
  unfolding field_in
  number_bound i =
      let t = take (width_of i) (drop (offset i) l) in
      let small : (j : ℕ) → get_or t j 0 < 256
      = all_take (λ x. x < 256) (omega arith) (width_of i) (drop (offset i) l) (all_drop (λ x. x < 256) (omega arith) (offset i) l bytes) in
      let size : length t ≤ width_of i = omega (arith, length-take (width_of i) (drop (offset i) l)) in
      lt_of_lt_of_le (number_lt t small) (pow-le-pow_right (zero-lt-suc 255) size)

  numbers_bound : (i : ℕ) → get_or (six_numbers (state_in l)) i 0 < 2 ^ 64
  unfolding state_in width_of
  numbers_bound =
      numbers_lt (state_in l) (number_bound 0) (number_bound 1) (number_bound 2) (number_bound 3) (number_bound 4) (number_bound 5)

  rows_bound : (m : List ℕ) (i : ℕ) → get_or (rows_in m) i 0 < 2 ^ 16
  rows_bound m i =
      ⊎_elim
      (λ (h : i < 16). rw (get_or-tabulate (row_of 16 m) 16 i 0 h) (row_lt 16 m i))
      (λ (h : 16 ≤ i). rw (get_or-eq_default (tabulate (row_of 16 m) 16) 0 {n = i} (omega (arith, length-tabulate (row_of 16 m) 16))) (omega arith))
      (lt_or_le i 16)

  fields_words : Words (state_in l)
  unfolding state_in width_of
  fields_words = record {
    numbers = numbers_bound;
    matrix_length = length-tabulate (row_of 16 (field_in l 7)) 16;
    matrix_rows = rows_bound (field_in l 7);
    weak-length = length-tabulate (row_of 16 (field_in l 8)) 16;
    weak_rows = rows_bound (field_in l 8);
    core_row = row_lt 16 (field_in l 9) 0;
    named_row = row_lt 16 (field_in l 10) 0;
    run_word = number_bound 11;
  }

  pub state_words : length l ≡ state_length → Words (state_of l)
  unfolding state_of
  state_words e = rw (cond_yes (eqb (length l) state_length) (state_in l) zero_state (eq-eqb (length l) state_length e)) fields_words
