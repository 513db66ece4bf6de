-- Laws of a buffer that text is appended to. The main ones: `append-padded` and `end_padded` (text behind text that is written, and zeros after
-- it), `length-appended`, `append_part` (a part that is lent), and the turn of the loop that writes two digits of each byte.
use mathlib.Core.Path.{◌≡◌, sym, ap, ap₂, ◌∙◌}
use mathlib.Core.List.{List, [], ◌++◌, append_assoc}
use mathlib.Core.Logic.{⊎_elim}
use Prim.Native.Nat.{ℕ, suc, ◌+◌, ◌-◌, ◌*◌, ◌/◌, ◌%◌, ◌≤◌, ◌<◌}
use native.Mathlib.Nat.{sub-zero}
use native.Mathlib.Omega.{arith}
use borrow.Author.Tests.{le-leb, lt-leb}
use lib.ListN.{length, get_or, set, take, drop, replicate, length-append, length-drop}
use lib.Seq.{take-append_seam, drop-append-add, drop-drop, length-take-le}
use Rattle.lists.proofs.Tests.{lt_or_le, cond_yes, cond_no}
use Rattle.lists.proofs.Parts.{copy_more, copy_all}
use Rattle.lists.proofs.Zeros.{length-zeros, drop-zeros}
use Rattle.text.specs.Write.{hex_byte, hexadecimal, fits, appended, end_of, padded}
use Rattle.text.specs.Steps.{placed}
use Rattle.text.proofs.Digits.{length-hexadecimal, get_or_high, get_or_low}

-- ---- room or none
module _ (at : ℕ) (s out : List ℕ) where
  -- where there is room, s stands at the place, and the end is behind it
  pub appended-room : at + length s ≤ length out → appended at s out ≡ placed at s out
  unfolding appended fits placed
  appended-room h = cond_yes (fits at s out) (placed at s out) out (le-leb (at + length s) (length out) h)

  pub appended-fits : at + length s ≤ length out → appended at s out ≡ take at out ++ (s ++ drop (at + length s) out)
  unfolding placed
  appended-fits h = appended-room h

  pub end_room : at + length s ≤ length out → end_of at s out ≡ at + length s
  unfolding end_of fits
  end_room h = cond_yes (fits at s out) (at + length s) at (le-leb (at + length s) (length out) h)

  -- where there is none, nothing changes
  pub appended_full : length out < at + length s → appended at s out ≡ out
  unfolding appended fits placed
  appended_full h = cond_no (fits at s out) (placed at s out) out (lt-leb (at + length s) (length out) h)

  pub end_full : length out < at + length s → end_of at s out ≡ at
  unfolding end_of fits
  end_full h = cond_no (fits at s out) (at + length s) at (lt-leb (at + length s) (length out) h)

  length-placed : at + length s ≤ length out → length (placed at s out) ≡ length out
  unfolding placed
  length-placed h =
      length-append (take at out) (s ++ drop (at + length s) out)
      ∙ omega (arith, length-take-le at out (omega arith), length-append s (drop (at + length s) out), length-drop (at + length s) out)

  -- the buffer's length stays
  pub length-appended : length (appended at s out) ≡ length out
  length-appended =
      ⊎_elim (λ (h : length out < at + length s). ap length (appended_full h))
      (λ (h : at + length s ≤ length out). ap length (appended-room h) ∙ length-placed h)
      (lt_or_le (length out) (at + length s))

-- a part of n bytes that is lent at the place `at` and comes back as s
pub append_part : (at : ℕ) (s out : List ℕ) (n : ℕ) → n ≡ length s → at + n ≤ length out
    → take at out ++ (s ++ drop (at + n - at) (drop at out)) ≡ appended at s out
unfolding placed
append_part at s out n e h =
    let m : at + (at + n - at) ≡ at + length s = omega arith in
    ap (λ (l : List ℕ). take at out ++ (s ++ l)) (drop-drop (at + n - at) at out ∙ ap (λ (k : ℕ). drop k out) m) ∙ sym (appended-room at s out (omega arith))

-- what the code's goals need
pub ruleset append_cases = (end_room, appended_full, end_full)

-- ---- the loop that writes two digits of each byte
pub hex_turn : (s out : List ℕ) (i v w : ℕ) → length out ≡ 2 * length s → i < length s → v ≡ hex_byte (get_or s i 0 / 16) → w ≡ hex_byte (get_or s i 0 % 16)
    → set (set (take (2 * i) (hexadecimal s) ++ drop (2 * i) out) (2 * i) v) (2 * i + 1) w ≡ take (2 * (i + 1)) (hexadecimal s) ++ drop (2 * (i + 1)) out
hex_turn s out i v w h l e f =
    let n = length-hexadecimal s in
    let p : 2 * i + 1 ≡ suc (2 * i) = omega arith in
    let q : 2 * (i + 1) ≡ 2 * i + 1 + 1 = omega arith in
    let r : w ≡ get_or (hexadecimal s) (2 * i + 1) 0 = f ∙ sym (get_or_low s i l) ∙ ap (λ (k : ℕ). get_or (hexadecimal s) k 0) (sym p) in
    rw (q, e, ← get_or_high s i l, copy_more (2 * i) (hexadecimal s) out (omega arith) (omega arith), r)
    (copy_more (2 * i + 1) (hexadecimal s) out (omega arith) (omega arith))

pub hex_end : (s out : List ℕ) (n : ℕ) → length out ≡ 2 * length s → n ≡ length s → take (2 * n) (hexadecimal s) ++ drop (2 * n) out ≡ hexadecimal s
hex_end s out n h e = copy_all (2 * n) (hexadecimal s) out (omega (arith, length-hexadecimal s)) (omega arith)

-- ---- text behind text p that is written, and the rest r after it
module _ (p s r : List ℕ) (h : length s ≤ length r) where
  behind-room : length p + length s ≤ length (p ++ r)
  behind-room = omega (arith, length-append p r)

  pub append-behind : appended (length p) s (p ++ r) ≡ (p ++ s) ++ drop (length s) r
  unfolding placed
  append-behind =
      appended-room (length p) s (p ++ r) behind-room
      ∙ ap₂ (λ (a b : List ℕ). a ++ (s ++ b)) (take-append_seam p r) (drop-append-add p r (length s))
      ∙ sym (append_assoc p s (drop (length s) r))

  pub end_behind : end_of (length p) s (p ++ r) ≡ length p + length s
  end_behind = end_room (length p) s (p ++ r) behind-room

-- ---- text with zeros after it
abbrev zeros : ℕ → List ℕ
zeros n = replicate n 0

-- nothing is written yet
pub padded_none : (m : ℕ) → padded m [] ≡ replicate m 0
unfolding padded
padded_none m = ap zeros (sub-zero m)

pub length-padded : (m : ℕ) (x : List ℕ) → length x ≤ m → length (padded m x) ≡ m
unfolding padded
length-padded m x h = length-append x (zeros (m - length x)) ∙ omega (arith, length-zeros (m - length x))

-- s behind x
module _ (m : ℕ) (x s : List ℕ) (h : length x + length s ≤ m) where
  zeros_left : length s ≤ length (zeros (m - length x))
  zeros_left = omega (arith, length-zeros (m - length x))

  pub append-padded : appended (length x) s (padded m x) ≡ padded m (x ++ s)
  unfolding padded
  append-padded =
      let e : m - length x - length s ≡ m - length (x ++ s) = omega (arith, length-append x s) in
      append-behind x s (zeros (m - length x)) zeros_left
      ∙ ap (λ (r : List ℕ). (x ++ s) ++ r) (drop-zeros (length s) (m - length x) ∙ ap zeros e)

  pub end_padded : end_of (length x) s (padded m x) ≡ length (x ++ s)
  unfolding padded
  end_padded = end_behind x s (zeros (m - length x)) zeros_left ∙ sym (length-append x s)
