-- The fields of a state in its bytes. The main laws: `field_read` (field i stands at its offset), `next_field` and `last-field` (fields that are
-- written one behind the other are the bytes of the state), and `made` (fields that are read one by one are those of the state).
use mathlib.Core.Path.{◌≡◌, refl, sym, ap, ap₂, subst, ◌∙◌}
use mathlib.Core.Logic.{⊎_elim}
use mathlib.Core.List.{List, ◌++◌, append-nil}
use Prim.Native.Nat.{ℕ, zero, suc, ◌+◌, ◌-◌, ◌*◌, ◌≤◌, ◌<◌, min}
use native.Mathlib.Nat.{le_of_eq}
use native.Mathlib.Numerals.{add-one}
use native.Mathlib.Omega.{arith}
use borrow.Rule.Slice.PartMut.{put_mid}
use borrow.Author.Tests.{eq-eqb, ne_eqb}
use lib.Dec.{eqb, leb, leb→le}
use mathlib.Core.Bool.{cond}
use lib.ListN.{length, get_or, take, drop, length-append, length-drop, drop_of_length-le, get_or-eq_default}
use lib.Seq.{length-take-le, drop_at, take_all, take-append-le, drop-append-le}
use Rattle.lists.specs.Fill.{filled}
use Rattle.lists.specs.Join.{joined}
use Rattle.lists.proofs.Sums.{below_suc, sum_none, sum_more, sum-suc, sum_le, sum_const}
use Rattle.lists.proofs.Joins.{joined_none, joined_more}
use Rattle.lists.proofs.Parts.{put_next}
use Rattle.lists.proofs.Table.{below_at}
use Rattle.lists.proofs.Tests.{cond_yes, cond_no, lt_or_le}
use Rattle.bitset.specs.Row.{row_byte, row_of, rows_of}
use Rattle.bitset.proofs.Laws.{length_rows_few, rows_written}
use Rattle.reconstruction.specs.declared.Outcome.{Outcome}
use Rattle.reconstruction.specs.Outcomes.{outcome_number}
use Rattle.protocol.specs.declared.State.{State}
use Rattle.state_bytes.specs.State.{little_endian, widths, width_of, offset, state_length, six_numbers, field_bytes, state_bytes, field_in, field_number}
use Rattle.reconstruction.specs.Outcomes.{outcome_from}
use Rattle.state_bytes.specs.State.{field_rows, state_in}
use Rattle.state_bytes.specs.declared.TheConstants.{LENGTH}
use Rattle.state_bytes.proofs.Digits.{length_digits}

-- ---- widths and offsets
pub width_le : (i : ℕ) → width_of i ≤ 255
unfolding width_of
width_le i =
    ⊎_elim
    (λ (h : i < length widths). leb→le (get_or widths i 0) 255 (below_at (length widths) (λ j. leb (get_or widths j 0) 255) tt i h))
    (λ (h : length widths ≤ i). rw (get_or-eq_default widths 0 {n = i} h) (omega arith))
    (lt_or_le i (length widths))

-- the first six fields are of eight bytes
pub number-width_is : (i : ℕ) → i < 6 → width_of i ≡ 8
unfolding width_of
number-width_is zero h = refl
number-width_is (suc zero) h = refl
number-width_is (suc (suc zero)) h = refl
number-width_is (suc (suc (suc zero))) h = refl
number-width_is (suc (suc (suc (suc zero)))) h = refl
number-width_is (suc (suc (suc (suc (suc zero))))) h = refl
number-width_is (suc (suc (suc (suc (suc (suc i)))))) h = absurd (omega arith)

pub offset_none : offset 0 ≡ 0
unfolding offset
offset_none = sum_none width_of

pub offset_more : (i : ℕ) → offset (i + 1) ≡ offset i + width_of i
unfolding offset
offset_more i = sum_more i width_of

offset-suc : (i : ℕ) → offset (suc i) ≡ offset i + width_of i
unfolding offset
offset-suc i = sum-suc i width_of

pub offset_le : (i : ℕ) → offset i ≤ i * 255
unfolding offset
offset_le i = omega (arith, sum_le i width_of (λ _. 255) (λ j _. width_le j), sum_const i 255)

-- a field ends where the next one starts, or before
pub field-within : (n i : ℕ) → i < n → offset i + width_of i ≤ offset n
field-within zero i h = absurd (omega arith)
field-within (suc n) i h =
    ⊎_elim
    (λ (e : i ≡ n). subst (λ (x : ℕ). offset x + width_of x ≤ offset (suc n)) (sym e) (le_of_eq (sym (offset-suc n))))
    (λ (l : i < n). omega (arith, field-within n i l, offset-suc n))
    (below_suc h)

pub state_length_is : state_length ≡ LENGTH
unfolding width_of
state_length_is =
    omega (
      arith,
      offset_none,
      offset_more 0,
      offset_more 1,
      offset_more 2,
      offset_more 3,
      offset_more 4,
      offset_more 5,
      offset_more 6,
      offset_more 7,
      offset_more 8,
      offset_more 9,
      offset_more 10,
      offset_more 11,
    )

-- whether bytes are as many as a state's
module _ {A : Type 0} (bytes : List ℕ) (x y : A) where
  pub if-state : length bytes ≡ LENGTH → cond (eqb (length bytes) state_length) x y ≡ x
  if-state h = cond_yes (eqb (length bytes) state_length) x y (eq-eqb (length bytes) state_length (h ∙ sym state_length_is))

  pub if-other : (length bytes ≡ LENGTH → ⊥) → cond (eqb (length bytes) state_length) x y ≡ y
  if-other h = cond_no (eqb (length bytes) state_length) x y (ne_eqb (length bytes) state_length (λ (e : length bytes ≡ state_length). h (e ∙ state_length_is)))

-- ---- the bytes of a field
-- as many as its width
pub length-field_bytes : (s : State) (i : ℕ) → length (field_bytes s i) ≡ width_of i
unfolding field_bytes width_of
length-field_bytes s zero = length_digits (width_of 0) s.settings.n
length-field_bytes s (suc zero) = length_digits (width_of 1) s.settings.t
length-field_bytes s (suc (suc zero)) = length_digits (width_of 2) s.settings.k
length-field_bytes s (suc (suc (suc zero))) = length_digits (width_of 3) s.own
length-field_bytes s (suc (suc (suc (suc zero)))) = length_digits (width_of 4) s.settings.sender
length-field_bytes s (suc (suc (suc (suc (suc zero))))) = length_digits (width_of 5) s.next
length-field_bytes s (suc (suc (suc (suc (suc (suc zero)))))) = length_digits (width_of 6) (outcome_number s.outcome)
length-field_bytes s (suc (suc (suc (suc (suc (suc (suc zero))))))) = length_rows_few 16 s.matrix (omega arith)
length-field_bytes s (suc (suc (suc (suc (suc (suc (suc (suc zero)))))))) = length_rows_few 16 s.weak (omega arith)
length-field_bytes s (suc (suc (suc (suc (suc (suc (suc (suc (suc zero))))))))) = length_digits (width_of 9) s.core
length-field_bytes s (suc (suc (suc (suc (suc (suc (suc (suc (suc (suc zero)))))))))) = length_digits (width_of 10) s.named
length-field_bytes s (suc (suc (suc (suc (suc (suc (suc (suc (suc (suc (suc zero))))))))))) = length_digits (width_of 11) s.run
length-field_bytes s (suc (suc (suc (suc (suc (suc (suc (suc (suc (suc (suc (suc i)))))))))))) = refl

-- the first six are numbers
pub number-field : (s : State) (i : ℕ) → i < 6 → field_bytes s i ≡ little_endian (width_of i) (get_or (six_numbers s) i 0)
unfolding field_bytes
number-field s zero h = refl
number-field s (suc zero) h = refl
number-field s (suc (suc zero)) h = refl
number-field s (suc (suc (suc zero))) h = refl
number-field s (suc (suc (suc (suc zero)))) h = refl
number-field s (suc (suc (suc (suc (suc zero))))) h = refl
number-field s (suc (suc (suc (suc (suc (suc i)))))) h = absurd (omega arith)

-- the two matrices
module _ (s : State) (i : ℕ) where
  pub matrix_field : i ≡ 7 → field_bytes s i ≡ rows_of 16 s.matrix
  unfolding field_bytes
  matrix_field e = ap (field_bytes s) e

  pub weak-field : i ≡ 8 → field_bytes s i ≡ rows_of 16 s.weak
  unfolding field_bytes
  weak-field e = ap (field_bytes s) e

joined-suc : (f : ℕ → List ℕ) (n : ℕ) → joined f (suc n) ≡ joined f n ++ f n
joined-suc f n = ap (joined f) (sym (add-one n)) ∙ joined_more f n

-- the fields before field n take as many bytes as its offset says
pub length_fields : (s : State) (n : ℕ) → length (joined (field_bytes s) n) ≡ offset n
length_fields s zero = ap length (joined_none (field_bytes s)) ∙ sym offset_none
length_fields s (suc n) =
    ap length (joined-suc (field_bytes s) n) ∙ length-append (joined (field_bytes s) n) (field_bytes s n)
    ∙ omega (arith, length_fields s n, length-field_bytes s n, offset-suc n)

-- field i stands at its offset
pub field_read : (s : State) (n i : ℕ) → i < n → take (width_of i) (drop (offset i) (joined (field_bytes s) n)) ≡ field_bytes s i
field_read s zero i h = absurd (omega arith)
field_read s (suc n) i h =
    let f = field_bytes s in
    ap (λ (l : List ℕ). take (width_of i) (drop (offset i) l)) (joined-suc f n)
    ∙ ⊎_elim
    (λ (e : i ≡ n).
    subst (λ (x : ℕ). take (width_of x) (drop (offset x) (joined f n ++ f n)) ≡ f x) (sym e)
    (ap (take (width_of n)) (drop_at (joined f n) (f n) (offset n) (length_fields s n)) ∙ take_all (width_of n) (f n) (le_of_eq (length-field_bytes s n))))
    (λ (l : i < n).
    let w = field-within n i l in
    let long = length_fields s n in
    ap (take (width_of i)) (drop-append-le (offset i) (joined f n) (f n) (omega (arith, w, long)))
    ∙ take-append-le (width_of i) (drop (offset i) (joined f n)) (f n) (omega (arith, w, long, length-drop (offset i) (joined f n)))
    ∙ field_read s n i l)
    (below_suc h)

-- ---- writing a field to as many bytes as it takes
module _ (s : State) (i : ℕ) (v : List ℕ) where
  -- 16 rows
  pub rows_put : (rows out : List ℕ) → field_bytes s i ≡ rows_of 16 rows → length out ≡ width_of i → v ≡ filled (row_byte 16 rows) (2 * min 16 16) out
      → v ≡ field_bytes s i
  rows_put rows out is_field e is-v =
      let long : length out ≡ 2 * 16 = e ∙ sym (length-field_bytes s i) ∙ ap length is_field ∙ length_rows_few 16 rows (omega arith) in
      is-v ∙ rows_written 16 rows out (omega arith) ∙ ap (λ (x : List ℕ). rows_of 16 rows ++ x) (drop_of_length-le out {i = 2 * 16} (omega arith))
      ∙ append-nil (rows_of 16 rows) ∙ sym is_field

-- ---- writing: b is what is written so far, the fields before i, and behind them the rest of the buffer o
module _ (s : State) (o : List ℕ) (size : length o ≡ state_length) (i a w : ℕ) (h : i < length widths) (is-a : a ≡ offset i) (is-w : w ≡ width_of i)
    (b : List ℕ) (is_b : b ≡ joined (field_bytes s) i ++ drop a o) where
  front : length (joined (field_bytes s) i) ≡ a
  front = length_fields s i ∙ sym is-a

  -- as much as is lent is there
  pub lent : length (take (a + w - a) (drop a b)) ≡ width_of i
  lent =
      let room : a + w ≤ length o = omega (arith, field-within (length widths) i h) in
      length-take-le (a + w - a) (drop a b)
      (omega (arith, length-drop a b, ap length is_b, length-append (joined (field_bytes s) i) (drop a o), length-drop a o, front))
      ∙ omega arith

  -- one field more
  pub next_field : (v : List ℕ) → v ≡ field_bytes s i → put_mid a (a + w - a) b v ≡ joined (field_bytes s) (i + 1) ++ drop (a + w) o
  next_field v is-v =
      ap (λ (x : List ℕ). put_mid a (a + w - a) x v) is_b
      ∙ put_next (joined (field_bytes s) i) v o a (a + w) front (omega arith)
      ∙ ap (λ (x : List ℕ). x ++ drop (a + w) o) (ap (λ (x : List ℕ). joined (field_bytes s) i ++ x) is-v ∙ sym (joined_more (field_bytes s) i))

pub first_field : (s : State) (o : List ℕ) → o ≡ joined (field_bytes s) 0 ++ drop 0 o
first_field s o = sym (ap (λ (x : List ℕ). x ++ o) (joined_none (field_bytes s)))

pub last-field : (s : State) (o : List ℕ) → length o ≡ state_length → (i a : ℕ) → i ≡ length widths → a ≡ offset i → (b : List ℕ)
    → b ≡ joined (field_bytes s) i ++ drop a o → b ≡ state_bytes s
unfolding state_bytes
last-field s o size i a e is-a b is_b =
    is_b
    ∙ ap (λ (x : List ℕ). joined (field_bytes s) i ++ x) (drop_of_length-le o {i = a} (le_of_eq (size ∙ sym (is-a ∙ ap offset e))))
    ∙ append-nil (joined (field_bytes s) i)
    ∙ ap (joined (field_bytes s)) e

-- ---- reading
-- the part that is read
pub part_field : (bytes : List ℕ) (i a w : ℕ) → a ≡ offset i → w ≡ width_of i → take (a + w - a) (drop a bytes) ≡ field_in bytes i
unfolding field_in
part_field bytes i a w is-a is-w =
    let back : a + w - a ≡ width_of i = omega arith in
    ap₂ (λ (m n : ℕ). take m (drop n bytes)) back is-a

pub length-field : (bytes : List ℕ) (i : ℕ) → length bytes ≡ state_length → i < length widths → length (field_in bytes i) ≡ width_of i
unfolding field_in
length-field bytes i size h =
    length-take-le (width_of i) (drop (offset i) bytes) (omega (arith, length-drop (offset i) bytes, field-within (length widths) i h))

-- a state that is read field by field
pub made : (b : List ℕ) {n t k own run sender next : ℕ} {o : Outcome} {m w : List ℕ} {c r : ℕ} → n ≡ field_number b 0 → t ≡ field_number b 1 → k ≡ field_number b 2
    → own ≡ field_number b 3 → sender ≡ field_number b 4 → next ≡ field_number b 5 → o ≡ outcome_from (field_number b 6) → m ≡ field_rows b 7 → w ≡ field_rows b 8
    → c ≡ row_of 16 (field_in b 9) 0 → r ≡ row_of 16 (field_in b 10) 0 → run ≡ field_number b 11
    → ◌≡◌ {A = State} (record {
      settings = record { n = n; t = t; k = k; sender = sender };
      own = own;
      run = run;
      next = next;
      outcome = o;
      matrix = m;
      weak = w;
      core = c;
      named = r;
    }) (state_in b)
unfolding state_in
made b e-n e-t e-k e-own e-sender e-next e-o e-m e-w e-c e-r e-run = rw (e-n, e-t, e-k, e-own, e-sender, e-next, e-o, e-m, e-w, e-c, e-r, e-run)
