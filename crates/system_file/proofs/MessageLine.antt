-- Laws of a message line. The main ones: `message_is` (its tests: numbers, then bytes), `line_yes` and its neighbours (what the code answers),
-- `said_message` and `message-not` (what an answer tells), `message-placed` (what a message line says is in range).
use Rattle.std.specs.Prelude.{Option, Some, None}
use mathlib.Core.Path.{◌≡◌, refl, sym, ap, ◌∙◌}
use mathlib.Core.Bool.{Bool, true, false, cond, ◌&&◌}
use mathlib.Core.List.{List}
use mathlib.Core.Logic.{⊎_elim}
use Prim.Native.Nat.{ℕ, ◌+◌, ◌-◌, ◌*◌, ◌≤◌}
use native.Mathlib.Omega.{arith}
use lib.ListN.{length, get_or, drop}
use Rattle.lists.proofs.Tests.{either, fails, and_left, and_right, and_both, and_no_left, and_no_right}
use Rattle.text.specs.Read.{value_of, is_bytes}
use Rattle.text.specs.declared.lines.Numbers.{Numbers}
use Rattle.text.specs.Lines.{line_at, is_ended, rest, field, in_range, is_numbers, numbers_of}
use Rattle.text.proofs.Laws.{number_range, bytes-digits, ended_yes, rest_le, NumbersFound, numbers-found, numbers_none, numbers_range, numbers_three}
use Rattle.settings.specs.Valid.{Coded, Numbered}
use Rattle.wire.specs.Length.{message_length}
use Rattle.wire.proofs.Laws.{length_pos}
use Rattle.settings.specs.declared.Settings.{Settings}
use Rattle.system_file.specs.declared.messages.Said.{Said}
use Rattle.system_file.specs.Form.{file_limit, is_message, Message, message_at}
use Rattle.system_file.specs.Steps.{line_in, message_ranges, said, Enters}

-- ---- the tests: numbers in their ranges, and then bytes
-- the rest of the line is a message of its round's length
abbrev is_text : Settings → List ℕ → Bool
is_text σ l = is_bytes (message_length σ.n σ.t σ.k (value_of (field 0 l))) (rest 3 l)

regroup : (a b c d : Bool) → (a && (b && (c && d))) ≡ (((a && b) && c) && d)
regroup true true c d = refl
regroup true false c d = refl
regroup false b c d = refl

message_is : (σ : Settings) (l : List ℕ) → is_message σ l ≡ (is_numbers (message_ranges σ) l && is_text σ l)
unfolding is_message
message_is σ l =
    let r = in_range (message_ranges σ) l in
    regroup (r 0) (r 1) (r 2) (is_text σ l) ∙ ap (λ (b : Bool). b && is_text σ l) (sym (numbers_three (message_ranges σ) l refl))

-- ---- the cases of the code
module _ (σ : Settings) (l : List ℕ) (a : ℕ) where
  there : Said
  there = record { round = value_of (field 0 l); from = value_of (field 1 l); to = value_of (field 2 l); place = a + (length l - length (rest 3 l)) }

  -- the answer, by the tests
  line_is : {b : Bool} → is_message σ l ≡ b → cond b (Some there) None ≡ line_in σ l a
  unfolding line_in there
  line_is e = ap (λ (b : Bool). cond b (Some there) None) (sym e)

  -- rs are the ranges that the code holds
  module _ {rs : List ℕ} (g : rs ≡ message_ranges σ) where
    held : {x : Option Numbers} → x ≡ numbers_of rs l → x ≡ numbers_of (message_ranges σ) l
    held d = d ∙ ap (λ (x : List ℕ). numbers_of x l) g

    pub no_numbers : None ≡ numbers_of rs l → None ≡ line_in σ l a
    no_numbers d = line_is (message_is σ l ∙ and_no_left _ _ (numbers_none (message_ranges σ) l (held d)))

    -- f are the numbers, x is what follows them, and b says whether it is m bytes
    module _ {f : Numbers} (d : Some f ≡ numbers_of rs l) {x : List ℕ} (e : x ≡ drop f.end l)
        {m : ℕ} (u : m ≡ message_length σ.n σ.t σ.k (get_or f.values 0 0)) {b : Bool} (v : b ≡ is_bytes m x) where
      pub said_numbers : NumbersFound (message_ranges σ) l f
      said_numbers = numbers-found (message_ranges σ) l (held d)

      text_is : is_text σ l ≡ b
      text_is = sym (v ∙ rw (u, said_numbers.value 0 (omega arith), e, said_numbers.follows))

      pub no_message : b ≡ false → None ≡ line_in σ l a
      no_message w = line_is (message_is σ l ∙ and_no_right (is_numbers (message_ranges σ) l) _ (text_is ∙ w))

      pub line_yes : b ≡ true
          → Some (record { round = get_or f.values 0 0; from = get_or f.values 1 0; to = get_or f.values 2 0; place = a + f.end }) ≡ line_in σ l a
      unfolding there
      line_yes w =
          let n = said_numbers in
          rw (n.value 0 (omega arith), n.value 1 (omega arith), n.value 2 (omega arith), n.end)
          (line_is (message_is σ l ∙ and_both _ _ n.numbers (text_is ∙ w)))

-- ---- what an answer tells
module _ (σ : Settings) (input : List ℕ) (a : ℕ) where
  pub message-not : None ≡ line_in σ (line_at input a) a → is_message σ (line_at input a) ≡ false
  message-not e = fails _ (λ y. let q = line_is σ (line_at input a) a y in let z : ◌≡◌ {A = ℕ} 0 1 = cc in omega arith)

  pub said_message : (m : Said) → Some m ≡ line_in σ (line_at input a) a
      → (is_message σ (line_at input a) ≡ true) × (said m ≡ message_at input a)
  unfolding there message_at
  said_message m e =
      ⊎_elim
      (λ (y : is_message σ (line_at input a) ≡ true).
      let q = line_is σ (line_at input a) a y in let t : m ≡ there σ (line_at input a) a = cc in (y, ap said t))
      (λ (y : is_message σ (line_at input a) ≡ false).
      let q = line_is σ (line_at input a) a y in let z : ◌≡◌ {A = ℕ} 0 1 = cc in absurd (omega arith))
      (either (is_message σ (line_at input a)))

-- ---- ranges
-- a message that stands in the file, in range
pub record Placed (σ : Settings) (size : ℕ) (m : Message) : Type 0 where
  pub round-least : 1 ≤ m.round
  pub round-most : m.round ≤ 3 * σ.t + 8
  pub from : Numbered σ.n m.from
  pub to_most : m.to ≤ σ.n
  pub place-least : 1 ≤ m.place
  pub room : m.place + 2 * message_length σ.n σ.t σ.k m.round ≤ size

pub message-placed : (σ : Settings) (input : List ℕ) (a : ℕ) → 1 ≤ a → is_ended input a ≡ true → is_message σ (line_at input a) ≡ true
    → Placed σ (length input) (message_at input a)
unfolding message_at
message-placed σ input a h e y =
    let l = line_at input a in
    let p = sym (message_is σ l) ∙ y in
    let range = numbers_range (message_ranges σ) l (and_left _ _ p) in
    let rr = number_range 1 (3 * σ.t + 8) (field 0 l) (range 0 (omega arith)) in
    let rf = number_range 1 σ.n (field 1 l) (range 1 (omega arith)) in
    let rt = number_range 0 σ.n (field 2 l) (range 2 (omega arith)) in
    record {
      round-least = rr.0;
      round-most = rr.1;
      from = record { least = rf.0; most = rf.1 };
      to_most = rt.1;
      place-least = omega arith;
      room = omega (arith, ended_yes input a e, rest_le 3 l, bytes-digits _ _ (and_right (is_numbers (message_ranges σ) l) _ p));
    }

pub placed_enters : {σ : Settings} → Coded σ.n σ.t σ.k → (size : ℕ) → size ≤ file_limit → (m : Message) → Placed σ size m → Enters m
placed_enters {σ} v size h m p =
    let q = v.quorum in
    record {
      round-least = p.round-least;
      round-most = omega (arith, p.round-most, q.t_most, q.n_most);
      from-least = p.from.least;
      from-most = omega (arith, p.from.most, q.n_most);
      to_most = omega (arith, p.to_most, q.n_most);
      place-least = p.place-least;
      place-most = omega (arith, p.room, length_pos v m.round p.round-least p.round-most);
    }
