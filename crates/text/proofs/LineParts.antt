-- Laws of lines. The main ones: `line_part` (a line as a part of the text), `ended_yes` and `next_is`, `names_said` and `names_none` (what the place
-- behind a line of names tells).
use mathlib.Core.Path.{◌≡◌, refl, sym, ap, subst, ◌∙◌}
use mathlib.Core.Bool.{true, false}
use mathlib.Core.List.{List}
use Prim.Native.Nat.{ℕ, ◌+◌, ◌≤◌, ◌<◌}
use native.Mathlib.Omega.{arith}
use borrow.Author.Tests.{lt-ltb, le-ltb, ltb-true}
use lib.ListN.{length, take, drop, length-drop}
use Rattle.lists.proofs.Sames.{same_eq, eq_same}
use Rattle.lists.proofs.Tests.{fails, passes, and_left, and_both, and_no_left, and_no_right, cond_yes, cond_no}
use Rattle.text.specs.Read.{newline, before}
use Rattle.std.specs.Prelude.{Some, None}
use Rattle.text.specs.Lines.{line_at, is_ended, next_at, is_names, named_at}
use Rattle.text.proofs.Fields.{before_le, before_take}

-- ---- lines
module _ (input : List ℕ) (a : ℕ) where
  pub line_is : before newline (drop a input) ≡ line_at input a
  unfolding line_at
  line_is = refl

  pub line_le : a ≤ length input → a + length (line_at input a) ≤ length input
  unfolding line_at
  line_le h = omega (arith, before_le newline (drop a input), length-drop a input)

  pub line_part : line_at input a ≡ take (length (line_at input a)) (drop a input)
  unfolding line_at
  line_part = before_take newline (drop a input)

  pub yes_ended : a + length (line_at input a) < length input → is_ended input a ≡ true
  unfolding is_ended
  yes_ended h = lt-ltb (a + length (line_at input a)) (length input) h

  pub no_ended : length input ≤ a + length (line_at input a) → is_ended input a ≡ false
  unfolding is_ended
  no_ended h = le-ltb (a + length (line_at input a)) (length input) h

  pub ended_yes : is_ended input a ≡ true → a + length (line_at input a) < length input
  unfolding is_ended
  ended_yes e = ltb-true (a + length (line_at input a)) (length input) e

  pub next_is : next_at input a ≡ a + length (line_at input a) + 1
  unfolding next_at
  next_is = refl

-- a line l that the code holds: whether it ends in a newline
module _ (input l : List ℕ) (a : ℕ) (e : l ≡ line_at input a) where
  pub held_ended : a + length l < length input → is_ended input a ≡ true
  held_ended h = yes_ended input a (subst (λ (x : List ℕ). a + length x < length input) e h)

  pub held_short : length input ≤ a + length l → is_ended input a ≡ false
  held_short h = no_ended input a (subst (λ (x : List ℕ). length input ≤ a + length x) e h)

  pub held_next : a + length l + 1 ≡ next_at input a
  held_next = ap (λ (x : List ℕ). a + length x + 1) e ∙ sym (next_is input a)

-- ---- a line of names
-- what the place behind it tells
pub record Named (names input : List ℕ) (a r : ℕ) : Type 0 where
  pub named : is_names names input a ≡ true
  pub next : r ≡ next_at input a
  pub least : 1 ≤ r
  pub most : r ≤ length input

module _ (names input : List ℕ) (a : ℕ) where
  named_ended : is_names names input a ≡ true → is_ended input a ≡ true
  unfolding is_names
  named_ended y = and_left _ _ y

  -- the answer, by the test
  named_yes : is_names names input a ≡ true → named_at names input a ≡ Some (next_at input a)
  unfolding named_at
  named_yes y = cond_yes _ _ _ y

  named_no : is_names names input a ≡ false → named_at names input a ≡ None
  unfolding named_at
  named_no e = cond_no _ _ _ e

  pub names_said : (r : ℕ) → Some r ≡ named_at names input a → Named names input a r
  names_said r d =
      let y = passes (is_names names input a) (λ e. let n = named_no e in let z : ◌≡◌ {A = ℕ} 0 1 = cc in omega arith) in
      let t = named_yes y in
      let q : r ≡ next_at input a = cc in
      record {
        named = y;
        next = q;
        least = omega (arith, q, next_is input a);
        most = omega (arith, q, next_is input a, ended_yes input a (named_ended y));
      }

  pub names_none : None ≡ named_at names input a → is_names names input a ≡ false
  names_none d = fails _ (λ y. let q = named_yes y in let z : ◌≡◌ {A = ℕ} 0 1 = cc in omega arith)

  -- the cases of the code
  not-ended : is_ended input a ≡ false → None ≡ named_at names input a
  unfolding is_names
  not-ended e = sym (named_no (and_no_left _ _ e))

  pub names_past : length input ≤ a → None ≡ named_at names input a
  names_past h = not-ended (no_ended input a (omega arith))

  module _ (l : List ℕ) (e : l ≡ line_at input a) where
    pub names_short : length input ≤ a + length l → None ≡ named_at names input a
    names_short h = not-ended (held_short input l a e h)

    pub names_same : a + length l < length input → l ≡ names → Some (a + length l + 1) ≡ named_at names input a
    unfolding is_names
    names_same h s = ap Some (held_next input l a e) ∙ sym (named_yes (and_both _ _ (held_ended input l a e h) (eq_same _ _ (sym e ∙ s))))

    pub names_other : (l ≡ names → ⊥) → None ≡ named_at names input a
    unfolding is_names
    names_other n = sym (named_no (and_no_right (is_ended input a) _ (fails _ (λ y. n (e ∙ same_eq _ _ y)))))

-- what the code's goals need
pub ruleset names_cases = (names_past, names_short, names_same, names_other)
