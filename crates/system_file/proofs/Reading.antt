-- Laws of reading. The main ones: `read_end`, `read_stop` and `read_more` (the message lines, one by one), `read_bare` (they are read by the
-- settings alone), `read_keeps` (each message that was read is in range), and the rows of `read_of`.
use mathlib.Core.Path.{◌≡◌, refl, sym, ap, subst, ◌∙◌}
use mathlib.Core.Bool.{Bool, true, false, cond, not, ◌&&◌}
use mathlib.Core.List.{List, ◌∷◌}
use mathlib.Core.Logic.{⊎_elim}
use Prim.Native.Nat.{ℕ, zero, suc, ◌+◌, ◌≤◌, ◌<◌}
use native.Mathlib.Omega.{arith}
use borrow.Author.Tests.{le-leb, lt-leb, lt-ltb, le-ltb}
use lib.Dec.{leb, ltb}
use lib.ListN.{length}
use Rattle.lists.proofs.Tests.{either, and_left, and_right, cond_yes, cond_no, lt_or_le}
use Rattle.text.specs.Lines.{line_at, is_ended, next_at, is_names}
use Rattle.text.proofs.Laws.{next_is}
use Rattle.system_file.specs.Form.{
  file_limit,
  settings_names,
  message_names,
  is_settings,
  is_message,
  Message,
  message_at,
  is_repeated,
  Contents,
  Read,
  wrong,
  right,
  with_message,
  read_from,
  contents_of,
  read_of,
}
use Rattle.system_file.specs.Steps.{bare, restored}
use Rattle.system_file.proofs.Rows.{All, more}
use Rattle.system_file.proofs.MessageLine.{Placed, message-placed}

-- the test of one message line
unfoldable pub is_line : List ℕ → Contents → ℕ → Bool
is_line input c a = is_ended input a && (is_message c.settings (line_at input a) && not (is_repeated c.messages (message_at input a)))

-- ---- message lines
module _ (input : List ℕ) (c : Contents) (a line : ℕ) where
  Turn : ℕ → Read
  Turn fuel = cond (is_line input c a) (read_from fuel input (with_message c (message_at input a)) (next_at input a) (line + 1)) (wrong line)

  pub read_end : (fuel : ℕ) → length input ≤ a → read_from fuel input c a line ≡ right c
  unfolding read_from is_line Turn
  read_end zero h = refl
  read_end (suc fuel) h = cond_yes (leb (length input) a) (right c) (Turn fuel) (le-leb (length input) a h)

  turn : (fuel : ℕ) → a < length input → read_from (suc fuel) input c a line ≡ Turn fuel
  unfolding read_from is_line Turn
  turn fuel h = cond_no (leb (length input) a) (right c) (Turn fuel) (lt-leb (length input) a h)

  pub read_stop : (fuel : ℕ) → a < length input → is_line input c a ≡ false → read_from (suc fuel) input c a line ≡ wrong line
  unfolding Turn
  read_stop fuel h e =
      turn fuel h ∙ cond_no (is_line input c a) (read_from fuel input (with_message c (message_at input a)) (next_at input a) (line + 1)) (wrong line) e

  pub read_more : (fuel : ℕ) → a < length input → is_line input c a ≡ true
      → read_from (suc fuel) input c a line ≡ read_from fuel input (with_message c (message_at input a)) (next_at input a) (line + 1)
  unfolding Turn
  read_more fuel h e =
      turn fuel h ∙ cond_yes (is_line input c a) (read_from fuel input (with_message c (message_at input a)) (next_at input a) (line + 1)) (wrong line) e

-- ---- the settings alone
restored_same : (c : Contents) (m : Message) (r : Read) → restored (with_message c m) r ≡ restored c r
restored_same c m (wrong line) = refl
restored_same c m (right d) = refl

pub read_bare : (fuel : ℕ) (input : List ℕ) (c : Contents) (a line : ℕ)
    → read_from fuel input c a line ≡ restored c (read_from fuel input (bare c.settings c.messages) a line)
unfolding read_from is_line
read_bare zero input c a line = refl
read_bare (suc fuel) input c a line =
    let b = bare c.settings c.messages in
    let m = message_at input a in
    ⊎_elim
    (λ (h : a < length input). ⊎_elim
    (λ (e : is_line input c a ≡ true).
    read_more input c a line fuel h e ∙ read_bare fuel input (with_message c m) (next_at input a) (line + 1)
    ∙ restored_same c m (read_from fuel input (bare c.settings (m ∷ c.messages)) (next_at input a) (line + 1))
    ∙ ap (restored c) (sym (read_more input b a line fuel h e)))
    (λ (e : is_line input c a ≡ false). read_stop input c a line fuel h e ∙ ap (restored c) (sym (read_stop input b a line fuel h e)))
    (either (is_line input c a)))
    (λ (h : length input ≤ a). read_end input c a line (suc fuel) h ∙ ap (restored c) (sym (read_end input b a line (suc fuel) h)))
    (lt_or_le a (length input))

-- ---- what was read
-- c with the messages ms
abbrev pub with_all : Contents → List Message → Contents
with_all c ms = record { settings = c.settings; block = c.block; messages = ms }

right_inj : (c d : Contents) → right c ≡ right d → c ≡ d
right_inj c d e = cc

wrong_right : (line : ℕ) (c : Contents) → wrong line ≡ right c → ⊥
wrong_right line c e = let z : ◌≡◌ {A = ℕ} 0 1 = cc in omega arith

-- the messages are in range, and all else stays
pub read_keeps : (fuel : ℕ) (input : List ℕ) (c : Contents) (a line : ℕ) (d : Contents) → 1 ≤ a → All (Placed c.settings (length input)) c.messages
    → read_from fuel input c a line ≡ right d → (with_all c d.messages ≡ d) × All (Placed c.settings (length input)) d.messages
unfolding read_from
read_keeps zero input c a line d h p e =
    let q = right_inj c d e in
    subst (λ (x : Contents). (with_all c x.messages ≡ x) × All (Placed c.settings (length input)) x.messages) q (refl, p)
read_keeps (suc fuel) input c a line d h p e =
    let m = message_at input a in
    ⊎_elim
    (λ (g : a < length input). ⊎_elim
    (λ (y : is_line input c a ≡ true).
    read_keeps fuel input (with_message c m) (next_at input a) (line + 1) d (omega (arith, next_is input a)) (more (new y) p)
    (sym (read_more input c a line fuel g y) ∙ e))
    (λ (y : is_line input c a ≡ false). absurd (wrong_right line d (sym (read_stop input c a line fuel g y) ∙ e)))
    (either (is_line input c a)))
    (λ (g : length input ≤ a).
    let q = right_inj c d (sym (read_end input c a line (suc fuel) g) ∙ e) in
    subst (λ (x : Contents). (with_all c x.messages ≡ x) × All (Placed c.settings (length input)) x.messages) q (refl, p))
    (lt_or_le a (length input))
  where
    new : is_line input c a ≡ true → Placed c.settings (length input) (message_at input a)
    new y = unfold is_line in (
        let r = is_message c.settings (line_at input a) && not (is_repeated c.messages (message_at input a)) in
        message-placed c.settings input a h (and_left (is_ended input a) r y)
        (and_left (is_message c.settings (line_at input a)) (not (is_repeated c.messages (message_at input a))) (and_right (is_ended input a) r y)))

-- ---- the whole file
module _ (input : List ℕ) where
  A : ℕ
  A = next_at input 0

  B : ℕ
  B = next_at input A

  is_set : Bool
  is_set = is_ended input A && is_settings (line_at input A)

  last : Read
  last = read_from (length input) input (contents_of (line_at input A)) (next_at input B) 4

  third : Read
  third = cond (not (is_names message_names input B)) (wrong 3) last

  second : Read
  second = cond (not is_set) (wrong 2) third

  first : Read
  first = cond (not (is_names settings_names input 0)) (wrong 1) second

  rows : read_of input ≡ cond (ltb file_limit (length input)) (wrong 0) first
  unfolding read_of A B is_set last third second first
  rows = refl

  pub read_long : file_limit < length input → read_of input ≡ wrong 0
  read_long h = rows ∙ cond_yes (ltb file_limit (length input)) (wrong 0) first (lt-ltb file_limit (length input) h)

  module _ (h : length input ≤ file_limit) where
    to_first : read_of input ≡ first
    to_first = rows ∙ cond_no (ltb file_limit (length input)) (wrong 0) first (le-ltb file_limit (length input) h)

    pub read_unnamed : is_names settings_names input 0 ≡ false → read_of input ≡ wrong 1
    unfolding first
    read_unnamed e = to_first ∙ cond_yes (not (is_names settings_names input 0)) (wrong 1) second (ap not e)

    module _ (e : is_names settings_names input 0 ≡ true) where
      to_second : read_of input ≡ second
      unfolding first
      to_second = to_first ∙ cond_no (not (is_names settings_names input 0)) (wrong 1) second (ap not e)

      pub read_unset : (is_ended input (next_at input 0) && is_settings (line_at input (next_at input 0))) ≡ false → read_of input ≡ wrong 2
      unfolding A is_set second
      read_unset n = to_second ∙ cond_yes (not is_set) (wrong 2) third (ap not n)

      module _ (s : (is_ended input (next_at input 0) && is_settings (line_at input (next_at input 0))) ≡ true) where
        to_third : read_of input ≡ third
        unfolding A is_set second
        to_third = to_second ∙ cond_no (not is_set) (wrong 2) third (ap not s)

        pub read_untold : is_names message_names input (next_at input (next_at input 0)) ≡ false → read_of input ≡ wrong 3
        unfolding A B third
        read_untold n = to_third ∙ cond_yes (not (is_names message_names input B)) (wrong 3) last (ap not n)

        pub read_all : is_names message_names input (next_at input (next_at input 0)) ≡ true
            → read_of input ≡ read_from (length input) input (contents_of (line_at input (next_at input 0))) (next_at input (next_at input (next_at input 0))) 4
        unfolding A B last third
        read_all n = to_third ∙ cond_no (not (is_names message_names input B)) (wrong 3) last (ap not n)

  -- a file that was read passed each test
  pub record Passed (c : Contents) : Type 0 where
    pub size : length input ≤ file_limit
    pub ended : is_ended input (next_at input 0) ≡ true
    pub settings : is_settings (line_at input (next_at input 0)) ≡ true
    pub messages : read_from (length input) input (contents_of (line_at input (next_at input 0))) (next_at input (next_at input (next_at input 0))) 4 ≡ right c

  pub read_passed : (c : Contents) → read_of input ≡ right c → Passed c
  read_passed c e =
      ⊎_elim
      (λ (h : file_limit < length input). absurd (wrong_right 0 c (sym (read_long h) ∙ e)))
      (λ (h : length input ≤ file_limit). ⊎_elim
      (λ (n : is_names settings_names input 0 ≡ true). ⊎_elim
      (λ (s : (is_ended input (next_at input 0) && is_settings (line_at input (next_at input 0))) ≡ true). ⊎_elim
      (λ (m : is_names message_names input (next_at input (next_at input 0)) ≡ true). record {
        size = h;
        ended = and_left (is_ended input (next_at input 0)) (is_settings (line_at input (next_at input 0))) s;
        settings = and_right (is_ended input (next_at input 0)) (is_settings (line_at input (next_at input 0))) s;
        messages = sym (read_all h n s m) ∙ e;
      })
      (λ (m : is_names message_names input (next_at input (next_at input 0)) ≡ false). absurd (wrong_right 3 c (sym (read_untold h n s m) ∙ e)))
      (either (is_names message_names input (next_at input (next_at input 0)))))
      (λ (s : (is_ended input (next_at input 0) && is_settings (line_at input (next_at input 0))) ≡ false). absurd (wrong_right 2 c (sym (read_unset h n s) ∙ e)))
      (either (is_ended input (next_at input 0) && is_settings (line_at input (next_at input 0)))))
      (λ (n : is_names settings_names input 0 ≡ false). absurd (wrong_right 1 c (sym (read_unnamed h n) ∙ e)))
      (either (is_names settings_names input 0)))
      (lt_or_le file_limit (length input))
