-- Laws of decimal numbers as they are read. The main ones: `number_yes`, `number_no` and `number_range` (what a number in a range is), and the
-- turns of the loop that reads digits.
use mathlib.Core.Path.{◌≡◌, refl, sym, ap, ◌∙◌}
use mathlib.Core.Bool.{Bool, true, false, cond, not, ◌&&◌}
use mathlib.Core.List.{List, [], ◌∷◌, ◌++◌}
use mathlib.Core.Logic.{⊎_elim}
use Prim.Native.Nat.{ℕ, zero, suc, ◌+◌, ◌-◌, ◌*◌, ◌≤◌, ◌<◌}
use native.Mathlib.Nat.{le_refl}
use native.Mathlib.Numerals.{add-one}
use native.Mathlib.Omega.{arith}
use borrow.Author.Tests.{ne_eqb, le-leb, lt-leb, leb-true}
use lib.Dec.{eqb, leb}
use lib.ListN.{length, get_or, drop}
use lib.Seq.{drop-cons}
use Rattle.lists.proofs.Tests.{true≢false, either, fails, and_left, and_right, and_both, and_no_left, and_no_right, and_tail, or_left, cond_yes}
use Rattle.lists.proofs.Tests.{cond_no}
use Rattle.std.specs.Prelude.{Some, None, IsTrue, ◌↔◌, EachIndex, slice_index}
use Rattle.text.specs.Read.{every, is_digit, digit_of, is_number, value_from, value_of, number_in, number_read}
use Rattle.text.specs.Steps.{headed, capped}

-- ---- digits
-- from 0x30 to 0x39
pub digit_low : (b : ℕ) → is_digit b ≡ true → 0x30 ≤ b
unfolding is_digit
digit_low b e = leb-true 0x30 b (and_left (leb 0x30 b) (leb b 0x39) e)

pub digit_high : (b : ℕ) → is_digit b ≡ true → b ≤ 0x39
unfolding is_digit
digit_high b e = leb-true b 0x39 (and_right (leb 0x30 b) (leb b 0x39) e)

-- the value is below 10
pub digit_lt : (b : ℕ) → is_digit b ≡ true → digit_of b < 10
unfolding digit_of
digit_lt b e = omega (arith, digit_low b e, digit_high b e)

-- from 0x30 on
pub digit_from : (b : ℕ) → 0x30 ≤ b → is_digit b ≡ leb b 0x39
unfolding is_digit
digit_from b l = and_tail (leb 0x30 b) (leb b 0x39) (le-leb 0x30 b l)

-- ---- a test of every byte
-- a byte that fails
pub every_stop : (p : ℕ → Bool) (l : List ℕ) (i : ℕ) → i < length l → p (get_or l i 0) ≡ false → every p (drop i l) ≡ false
unfolding every
every_stop p l i h e = ap (every p) (drop-cons l i 0 h) ∙ and_no_left (p (get_or l i 0)) (every p (drop (suc i) l)) e

-- the test of each by its index
every_of : (p : ℕ → Bool) (l : List ℕ) → ((i : ℕ) → i < length l → p (get_or l i 0) ≡ true) → every p l ≡ true
unfolding every
every_of p [] h = refl
every_of p (x ∷ l) h = and_both (p x) (every p l) (h 0 (omega arith)) (every_of p l (λ i g. h (suc i) (omega arith)))

of_every : (p : ℕ → Bool) (l : List ℕ) → every p l ≡ true → (i : ℕ) → i < length l → p (get_or l i 0) ≡ true
unfolding every
of_every p [] e i h = absurd (omega arith)
of_every p (x ∷ l) e zero h = and_left (p x) (every p l) e
of_every p (x ∷ l) e (suc i) h = of_every p l (and_right (p x) (every p l) e) i (omega arith)

pub every_each : (p : ℕ → Bool) (l : List ℕ) (b : Bool) → IsTrue b ↔ EachIndex l (λ k. p (slice_index l k) ≡ true) → b ≡ every p l
every_each p l true h = sym (every_of p l (h.0 refl))
every_each p l false h = sym (fails (every p l) (λ e. true≢false (sym (h.1 (of_every p l e)))))

-- both parts pass
pub every_append : (p : ℕ → Bool) (a b : List ℕ) → every p a ≡ true → every p b ≡ true → every p (a ++ b) ≡ true
unfolding every
every_append p [] b e h = h
every_append p (x ∷ a) b e h =
    and_both (p x) (every p (a ++ b)) (and_left (p x) (every p a) e) (every_append p a b (and_right (p x) (every p a) e) h)

-- ---- the first byte
pub headed_other : (f : List ℕ) → 0 < length f → (get_or f 0 0 ≡ 0x30 → ⊥) → headed f ≡ true
unfolding headed
headed_other [] l n = absurd (omega arith)
headed_other (d ∷ f) l n = or_left (not (eqb d 0x30)) (eqb (length f) 0) (ap not (ne_eqb d 0x30 n))

-- a number is digits that start as a number can
pub number-headed : (f : List ℕ) → is_number f ≡ (every is_digit f && headed f)
unfolding is_number headed every
number-headed [] = refl
number-headed (d ∷ f) = refl

pub number_some : (f : List ℕ) → is_number f ≡ true → 0 < length f
unfolding is_number
number_some [] e = absurd (true≢false (sym e))
number_some (d ∷ f) e = omega arith

-- ---- the value
-- digits never make a number smaller
pub value_grows : (f : List ℕ) (x : ℕ) → x ≤ value_from x f
unfolding value_from
value_grows [] x = le_refl x
value_grows (d ∷ f) x = omega (arith, value_grows f (x * 10 + digit_of d))

module _ (high : ℕ) where
  -- the answer, by the test
  capped_yes : (x : ℕ) (f : List ℕ) → every is_digit f ≡ true → value_from x f ≤ high → capped high x f ≡ Some (value_from x f)
  unfolding capped
  capped_yes x f e h = cond_yes _ _ _ (and_both _ _ e (le-leb _ high h))

  capped_no : (x : ℕ) (f : List ℕ) → (every is_digit f && leb (value_from x f) high) ≡ false → capped high x f ≡ None
  unfolding capped
  capped_no x f e = cond_no _ _ _ e

  -- the loop that reads digits: the end, a byte that is no digit, a value above high
  pub capped_end : (x : ℕ) (l : List ℕ) (i : ℕ) → length l ≤ i → x ≤ high → capped high x (drop i l) ≡ Some x
  unfolding every value_from
  capped_end x l i h m = ap (capped high x) (lib.ListN.drop_of_length-le l h) ∙ capped_yes x [] refl m

  pub capped_stop : (x : ℕ) (l : List ℕ) (i : ℕ) → i < length l → is_digit (get_or l i 0) ≡ false → capped high x (drop i l) ≡ None
  capped_stop x l i h e = capped_no x (drop i l) (and_no_left _ _ (every_stop is_digit l i h e))

  pub capped_over : (x : ℕ) (f : List ℕ) → high < x → capped high x f ≡ None
  capped_over x f h = capped_no x f (and_no_right _ _ (lt-leb _ high (omega (arith, value_grows f x))))

  capped-cons : (x d : ℕ) (f : List ℕ) → is_digit d ≡ true → capped high x (d ∷ f) ≡ capped high (x * 10 + (d - 0x30)) f
  unfolding capped every value_from digit_of
  capped-cons x d f e =
      ap (λ (b : Bool). cond (b && leb (value_from (x * 10 + (d - 0x30)) f) high) (Some (value_from (x * 10 + (d - 0x30)) f)) None)
      (and_tail (is_digit d) (every is_digit f) e)

  -- one digit more
  pub capped_more : (x : ℕ) (l : List ℕ) (i : ℕ) → i < length l → is_digit (get_or l i 0) ≡ true
      → capped high x (drop i l) ≡ capped high (x * 10 + (get_or l i 0 - 0x30)) (drop (i + 1) l)
  capped_more x l i h e =
      rw (add-one i) (ap (capped high x) (drop-cons l i 0 h) ∙ capped-cons x (get_or l i 0) (drop (suc i) l) e)

  -- what an answer tells: all are digits, and their value
  capped_some : (f : List ℕ) (v : ℕ) → Some v ≡ capped high 0 f → (every is_digit f ≡ true) × (v ≡ value_of f) × (v ≤ high)
  unfolding value_of
  capped_some f v d =
      ⊎_elim
      (λ (e : (every is_digit f && leb (value_from 0 f) high) ≡ true).
      let q = and_left (every is_digit f) _ e in
      let l = leb-true (value_from 0 f) high (and_right (every is_digit f) _ e) in
      let y = capped_yes 0 f q l in
      let z : v ≡ value_from 0 f = cc in
      (q, z, omega arith))
      (λ (e : (every is_digit f && leb (value_from 0 f) high) ≡ false). let n = capped_no 0 f e in let z : ◌≡◌ {A = ℕ} 0 1 = cc in absurd (omega arith))
      (either (every is_digit f && leb (value_from 0 f) high))

-- what the loop's goals need
pub ruleset value_turns = (digit_low, digit_high, capped_end, capped_stop, capped_over, capped_more)

-- ---- a number in a range
module _ (low high : ℕ) (f : List ℕ) where
  -- the answer, by the test
  pub number_yes : number_in low high f ≡ true → number_read low high f ≡ Some (value_of f)
  unfolding number_read
  number_yes e = cond_yes (number_in low high f) (Some (value_of f)) None e

  pub number_no : number_in low high f ≡ false → number_read low high f ≡ None
  unfolding number_read
  number_no e = cond_no (number_in low high f) (Some (value_of f)) None e

  -- what the test says: digits with no leading zero, and the range; and back
  pub number_is : number_in low high f ≡ true → is_number f ≡ true
  unfolding number_in
  number_is e = and_left (is_number f) (leb low (value_of f) && leb (value_of f) high) e

  pub number_range : number_in low high f ≡ true → (low ≤ value_of f) × (value_of f ≤ high)
  unfolding number_in
  number_range e =
      let r : (leb low (value_of f) && leb (value_of f) high) ≡ true = and_right (is_number f) (leb low (value_of f) && leb (value_of f) high) e in (
        leb-true low (value_of f) (and_left (leb low (value_of f)) (leb (value_of f) high) r),
        leb-true (value_of f) high (and_right (leb low (value_of f)) (leb (value_of f) high) r),
      )

  pub number_in_lem : is_number f ≡ true → low ≤ value_of f → value_of f ≤ high → number_in low high f ≡ true
  unfolding number_in
  number_in_lem e l h =
      and_both (is_number f) (leb low (value_of f) && leb (value_of f) high) e
      (and_both (leb low (value_of f)) (leb (value_of f) high) (le-leb low (value_of f) l) (le-leb (value_of f) high h))

  -- the test, by the answer
  pub answer_value : (v : ℕ) → number_read low high f ≡ Some v → (number_in low high f ≡ true) × (v ≡ value_of f)
  answer_value v e =
      ⊎_elim (λ (y : number_in low high f ≡ true). (y, let s = number_yes y in cc))
      (λ (y : number_in low high f ≡ false). let s = number_no y in let z : ◌≡◌ {A = ℕ} 0 1 = cc in absurd (omega arith))
      (either (number_in low high f))

  pub answer-wrong : number_read low high f ≡ None → number_in low high f ≡ false
  answer-wrong e =
      ⊎_elim (λ (y : number_in low high f ≡ true). let s = number_yes y in let z : ◌≡◌ {A = ℕ} 0 1 = cc in absurd (omega arith))
      (λ (y : number_in low high f ≡ false). y)
      (either (number_in low high f))

  -- ---- the code's tests of the first byte and of the value
  pub wrong_head : headed f ≡ false → number_read low high f ≡ None
  wrong_head h =
      number_no (fails (number_in low high f)
      (λ e. true≢false (sym (and_right (every is_digit f) (headed f) (sym (number-headed f) ∙ number_is e)) ∙ h)))

  pub wrong_value : None ≡ capped high 0 f → number_read low high f ≡ None
  unfolding value_of
  wrong_value d =
      number_no (fails (number_in low high f)
      (λ e.
      let y = capped_yes high 0 f (and_left (every is_digit f) (headed f) (sym (number-headed f) ∙ number_is e)) (number_range e).1 in
      let z : ◌≡◌ {A = ℕ} 0 1 = cc in
      omega arith))

  module _ (v : ℕ) (d : Some v ≡ capped high 0 f) where
    pub wrong_low : v < low → number_read low high f ≡ None
    wrong_low h = number_no (fails (number_in low high f) (λ e. omega (arith, (capped_some high f v d).1, (number_range e).0)))

    pub value_read : headed f ≡ true → low ≤ v → number_read low high f ≡ Some v
    value_read h l =
        let p = capped_some high f v d in
        number_yes (number_in_lem (number-headed f ∙ and_both (every is_digit f) (headed f) p.0 h) (omega (arith, p.1)) (omega (arith, p.1)))
        ∙ ap Some (sym p.1)

-- what the code's goals need
pub ruleset number_cases = (wrong_head, wrong_value, wrong_low, value_read)
