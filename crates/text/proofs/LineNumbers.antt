-- Laws of the numbers in the first fields of a line. The main ones: `rest_end` (what follows some commas is the end of the line), `numbers-found` and
-- `numbers_none` (what an answer tells), `numbers_range` (each field is in its range), and the turns of the loop that reads the fields.
use mathlib.Core.Path.{◌≡◌, refl, sym, ap, ◌∙◌}
use mathlib.Core.Bool.{true, false, ◌&&◌}
use mathlib.Core.List.{List}
use mathlib.Core.Logic.{⊎_elim}
use Prim.Native.Nat.{ℕ, zero, suc, ◌+◌, ◌-◌, ◌*◌, ◌/◌, ◌≤◌, ◌<◌}
use native.Mathlib.Numerals.{add-one}
use native.Mathlib.Omega.{arith}
use borrow.Author.Tests.{le-leb, lt-leb, leb-true}
use lib.Dec.{leb}
use lib.ListN.{length, get_or, set, drop, replicate, length-drop}
use lib.Seq.{drop-drop}
use Rattle.lists.specs.Fill.{filled}
use Rattle.lists.proofs.Tests.{true≢false, fails, passes, and_left, and_right, and_both, and_no_left, and_no_right, cond_yes, cond_no}
use Rattle.lists.proofs.Sums.{below_suc}
use Rattle.lists.proofs.Fills.{filled_none, get_or-filled, fill_more}
use Rattle.lists.proofs.Parts.{end_drop}
use Rattle.std.specs.Prelude.{Option, Some, None}
use Rattle.text.specs.declared.lines.Numbers.{Numbers}
use Rattle.text.specs.Read.{comma, before, behind, value_of, number_read}
use Rattle.text.specs.Lines.{rest, field, in_range, in_ranges, is_numbers, numbers_in, numbers_of}
use Rattle.text.proofs.Fields.{before_le, behind-drop}
use Rattle.text.proofs.Numbers.{number_some, number_is, answer_value, answer-wrong}

-- ---- what follows some commas
rest_drop : (i : ℕ) (l : List ℕ) → (d : ℕ) × (rest i l ≡ drop d l)
unfolding rest
rest_drop zero l = (0, refl)
rest_drop (suc i) l =
    let q = rest_drop i (behind comma l) in
    let b = length (before comma l) + 1 in
    (b + q.0, q.1 ∙ ap (drop q.0) (behind-drop comma l) ∙ drop-drop q.0 b l)

-- it is the end of the line
pub rest_le : (i : ℕ) (l : List ℕ) → length (rest i l) ≤ length l
rest_le i l = let q = rest_drop i l in (end_drop (rest i l) l q.0 q.1).0

pub rest_end : (i : ℕ) (l : List ℕ) → rest i l ≡ drop (length l - length (rest i l)) l
rest_end i l = let q = rest_drop i l in (end_drop (rest i l) l q.0 q.1).1

-- one comma more
rest_more : (i : ℕ) (l : List ℕ) → rest (suc i) l ≡ behind comma (rest i l)
unfolding rest
rest_more zero l = refl
rest_more (suc i) l = rest_more i (behind comma l)

-- ---- the numbers in the first fields
module _ (rs l : List ℕ) where
  -- the answer, by the test
  numbers_yes : is_numbers rs l ≡ true → numbers_of rs l ≡ Some (numbers_in rs l)
  unfolding numbers_of
  numbers_yes y = cond_yes _ _ _ y

  numbers_no : is_numbers rs l ≡ false → numbers_of rs l ≡ None
  unfolding numbers_of
  numbers_no y = cond_no _ _ _ y

  -- a field that is no number in its range
  no_ranges : (i n : ℕ) → i < n → in_range rs l i ≡ false → in_ranges rs l n ≡ false
  unfolding in_ranges
  no_ranges i zero h w = absurd (omega arith)
  no_ranges i (suc n) h w =
      ⊎_elim (λ (e : i ≡ n). and_no_right (in_ranges rs l n) _ (ap (in_range rs l) (sym e) ∙ w))
      (λ (g : i < n). and_no_left _ _ (no_ranges i n g w))
      (below_suc h)

  -- the parts of the test
  numbers-few : is_numbers rs l ≡ true → length rs / 2 ≤ 4
  unfolding is_numbers
  numbers-few y = leb-true (length rs / 2) 4 (and_left _ _ y)

  pub numbers_range : is_numbers rs l ≡ true → (i : ℕ) → i < length rs / 2 → in_range rs l i ≡ true
  unfolding is_numbers
  numbers_range y i h = passes _ (λ z. true≢false (sym (and_right (leb (length rs / 2) 4) _ y) ∙ no_ranges i (length rs / 2) h z))

  -- three ranges, and four
  pub numbers_three : length rs / 2 ≡ 3 → is_numbers rs l ≡ ((in_range rs l 0 && in_range rs l 1) && in_range rs l 2)
  unfolding is_numbers in_ranges
  numbers_three e = ap (λ (n : ℕ). leb n 4 && in_ranges rs l n) e

  pub numbers_four : length rs / 2 ≡ 4 → is_numbers rs l ≡ (((in_range rs l 0 && in_range rs l 1) && in_range rs l 2) && in_range rs l 3)
  unfolding is_numbers in_ranges
  numbers_four e = ap (λ (n : ℕ). leb n 4 && in_ranges rs l n) e

  -- too many ranges
  pub numbers-many : 4 < length rs / 2 → None ≡ numbers_of rs l
  unfolding is_numbers
  numbers-many h = sym (numbers_no (and_no_left _ _ (lt-leb (length rs / 2) 4 h)))

-- what an answer tells
pub record NumbersFound (rs l : List ℕ) (f : Numbers) : Type 0 where
  pub numbers : is_numbers rs l ≡ true
  pub value : (i : ℕ) → i < length rs / 2 → get_or f.values i 0 ≡ value_of (field i l)
  pub end : f.end ≡ length l - length (rest (length rs / 2) l)
  pub follows : drop f.end l ≡ rest (length rs / 2) l

module _ (rs l : List ℕ) where
  pub numbers_none : None ≡ numbers_of rs l → is_numbers rs l ≡ false
  numbers_none d = fails _ (λ y. let q = numbers_yes rs l y in let z : ◌≡◌ {A = ℕ} 0 1 = cc in omega arith)

  pub numbers-found : {f : Numbers} → Some f ≡ numbers_of rs l → NumbersFound rs l f
  numbers-found {f} d =
      let y = passes (is_numbers rs l) (λ e. let n = numbers_no rs l e in let z : ◌≡◌ {A = ℕ} 0 1 = cc in omega arith) in
      let t = numbers_yes rs l y in
      let q : f ≡ numbers_in rs l = cc in
      record {
        numbers = y;
        value = λ i h. ap (λ (x : Numbers). get_or x.values i 0) q
            ∙ get_or-filled (λ j. value_of (field j l)) (length rs / 2) (replicate 4 0) i 0 h (omega (arith, numbers-few rs l y));
        end = ap (λ (x : Numbers). x.end) q;
        follows = ap (λ (x : Numbers). drop x.end l) q ∙ sym (rest_end (length rs / 2) l);
      }

-- ---- the turns of the loop
-- what is known where i fields were read, and field i starts at a
pub record Sofar (rs l values : List ℕ) (a i : ℕ) : Type 0 where
  pub start : drop a l ≡ rest i l
  pub ranges : in_ranges rs l i ≡ true
  pub kept : values ≡ filled (λ j. value_of (field j l)) i (replicate 4 0)

pub sofar_start : (rs l : List ℕ) → Sofar rs l (replicate 4 0) 0 0
unfolding rest in_ranges
sofar_start rs l = record { start = refl; ranges = refl; kept = sym (filled_none _ (replicate 4 0)) }

module _ {rs l values : List ℕ} {a i : ℕ} (s : Sofar rs l values a i) where
  -- x is field i, and r is what was read there
  module _ {x : List ℕ} (e : x ≡ before comma (drop a l)) {r : Option ℕ} (d : r ≡ number_read (get_or rs (2 * i) 0) (get_or rs (2 * i + 1) 0) x) where
    is_field : x ≡ field i l
    unfolding field
    is_field = e ∙ ap (before comma) s.start

    answer : number_read (get_or rs (2 * i) 0) (get_or rs (2 * i + 1) 0) (field i l) ≡ r
    answer = ap (number_read (get_or rs (2 * i) 0) (get_or rs (2 * i + 1) 0)) (sym is_field) ∙ sym d

    pub sofar_stop : r ≡ None → i < length rs / 2 → None ≡ numbers_of rs l
    unfolding is_numbers
    sofar_stop u h =
        sym (numbers_no rs l (and_no_right (leb (length rs / 2) 4) _ (no_ranges rs l i (length rs / 2) h (answer-wrong _ _ _ (answer ∙ u)))))

    module _ {v : ℕ} (u : r ≡ Some v) where
      told : (in_range rs l i ≡ true) × (v ≡ value_of (field i l))
      told = answer_value _ _ _ v (answer ∙ u)

      -- the number stands within the line
      pub sofar_within : a + length x ≤ length l
      sofar_within =
          let n = number_some (field i l) (number_is _ _ _ told.0) in
          omega (arith, n, ap length is_field, ap length e, before_le comma (drop a l), length-drop a l)

      pub sofar_more : i < 4 → Sofar rs l (set values i v) (a + (length x + 1)) (i + 1)
      unfolding in_ranges
      sofar_more h = record {
        start = rw (add-one i)
            (sym (drop-drop (length x + 1) a l) ∙ ap (λ (y : List ℕ). drop (length y + 1) (drop a l)) e ∙ sym (behind-drop comma (drop a l))
            ∙ ap (behind comma) s.start ∙ sym (rest_more i l));
        ranges = rw (add-one i) (and_both _ _ s.ranges told.0);
        kept = fill_more (λ j. value_of (field j l)) i (replicate 4 0) values v h s.kept told.1;
      }

  -- all were read, and x follows
  pub sofar_end : i ≡ length rs / 2 → i ≤ 4 → {x : List ℕ} → x ≡ drop a l
      → Some (record { values = values; end = length l - length x }) ≡ numbers_of rs l
  unfolding is_numbers
  sofar_end h g {x} e =
      let y = and_both _ _ (le-leb (length rs / 2) 4 (omega arith)) (ap (in_ranges rs l) (sym h) ∙ s.ranges) in
      let q : record { values = values; end = length l - length x } ≡ numbers_in rs l = cc in
      ap Some q ∙ sym (numbers_yes rs l y)
