-- What is supposed of the controllers and of the phases of a vote. `correct` is a test on indices; index i is controller i + 1. Nothing is
-- supposed of what the others send: it may differ from receiver to receiver.
--   CorrectIndex n correct i  i is one of the n controllers, and correct
--   Resilient n t correct     3t + 1 at most n, and all but at most t of the n controllers are correct
--   phase_count t             how many phases a vote has
--   Kings n t king            the kings of the phases 0, 1, .. are different controllers
--   BitPhase                  a phase for one bit, from the bits held before to those held after
--   MatrixPhase               a phase for matrices, in terms of what the inboxes of its three rounds hold
--   Vote                      the phases of a vote, one after the other: `rows p i` is the matrix of i before phase p, counted from 0
--   Agreed                    after the last phase all correct controllers have one matrix, and a bit or a row on which all correct ones started equal
--                             is still what it was
use Rattle.std.specs.Prelude.{◌≡◌, Bool, true, List, ℕ, suc, ◌+◌, ◌*◌, ◌≤◌, ◌<◌, get_or}
use Rattle.lists.specs.Sum.{count}
use Rattle.bitset.specs.Set.{restricted}
use Rattle.bitset.specs.Row.{rows_of}
use Rattle.wire.specs.declared.slot.Layout.{Layout}
use Rattle.wire.specs.Slot.{message_of}
use Rattle.phase_king.specs.Bit.{zero_seen, one_seen, held, weak, settled}
use Rattle.phase_king.specs.Matrix.{cell, zeros_of, ones_of, held_of, weak_of, settled_of, seen_message}

abbrev pub CorrectIndex : ℕ → (ℕ → Bool) → ℕ → Type 0
CorrectIndex n correct i = (i < n) × (correct i ≡ true)

pub record Resilient (n t : ℕ) (correct : ℕ → Bool) : Type 0 where
  pub small : 3 * t < n
  pub most : n ≤ count n correct + t

abbrev pub phase_count : ℕ → ℕ
phase_count t = suc t

pub record Kings (n t : ℕ) (king : ℕ → ℕ) : Type 0 where
  pub below : (p : ℕ) → p < phase_count t → king p < n
  pub distinct : (p q : ℕ) → p < phase_count t → q < phase_count t → king p ≡ king q → p ≡ q

-- `said i`, `zeros i`, `ones i` and `kings i` are what i reads: in the first round each slot's bit, in the second whether each slot has
-- zero and one seen, in the third the king's bit.
pub record BitPhase (n t : ℕ) (correct : ℕ → Bool) (king : ℕ) (before after : ℕ → Bool) : Type 0 where
  pub said : ℕ → ℕ → Bool
  pub zeros : ℕ → ℕ → Bool
  pub ones : ℕ → ℕ → Bool
  pub kings : ℕ → Bool
  pub first : (i j : ℕ) → CorrectIndex n correct i → CorrectIndex n correct j → said i j ≡ before j
  pub second0 : (i j : ℕ) → CorrectIndex n correct i → CorrectIndex n correct j → zeros i j ≡ zero_seen n t (said j)
  pub second1 : (i j : ℕ) → CorrectIndex n correct i → CorrectIndex n correct j → ones i j ≡ one_seen n t (said j)
  pub third : (i : ℕ) → CorrectIndex n correct i → CorrectIndex n correct king → kings i ≡ held n t (ones king)
  pub result : (i : ℕ) → CorrectIndex n correct i → after i ≡ settled (held n t (ones i)) (weak n t (zeros i) (ones i)) (kings i)

-- `in1 i`, `in2 i` and `in3 i` are the inboxes of i of the three rounds, of the layouts layout1, layout2 and layout3. A correct controller's
-- message is in its slot: in the first round its matrix, in the second its zeros and ones, in the third the king's matrix.
pub record MatrixPhase (n t : ℕ) (correct : ℕ → Bool) (king : ℕ) (before after : ℕ → List ℕ) : Type 0 where
  pub layout1 : Layout
  pub layout2 : Layout
  pub layout3 : Layout
  pub in1 : ℕ → List ℕ
  pub in2 : ℕ → List ℕ
  pub in3 : ℕ → List ℕ
  pub first : (i j : ℕ) → CorrectIndex n correct i → CorrectIndex n correct j → message_of (in1 i) layout1 (j + 1) ≡ rows_of n (before j)
  pub second : (i j : ℕ) → CorrectIndex n correct i → CorrectIndex n correct j
      → message_of (in2 i) layout2 (j + 1) ≡ seen_message n (zeros_of (in1 j) layout1 n t) (ones_of (in1 j) layout1 n t)
  pub third : (i : ℕ) → CorrectIndex n correct i → CorrectIndex n correct king
      → message_of (in3 i) layout3 (king + 1) ≡ rows_of n (held_of (in2 king) layout2 n t)
  pub result : (i : ℕ) → CorrectIndex n correct i
      → after i ≡ settled_of (held_of (in2 i) layout2 n t) (weak_of (in2 i) layout2 n t) (in3 i) layout3 n (king + 1)

abbrev pub Vote : (n t : ℕ) → (ℕ → Bool) → (ℕ → ℕ) → (ℕ → ℕ → List ℕ) → Type 0
Vote n t correct king rows = (p : ℕ) → p < phase_count t → MatrixPhase n t correct (king p) (rows p) (rows (suc p))

pub record Agreed (n t : ℕ) (correct : ℕ → Bool) (rows : ℕ → ℕ → List ℕ) : Type 0 where
  pub same : (i k : ℕ) → CorrectIndex n correct i → CorrectIndex n correct k → rows (phase_count t) i ≡ rows (phase_count t) k
  pub bit_kept : (r j : ℕ) (b : Bool) → r < n → j < n → ((i : ℕ) → CorrectIndex n correct i → cell (rows 0 i) r j ≡ b)
      → (i : ℕ) → CorrectIndex n correct i → cell (rows (phase_count t) i) r j ≡ b
  pub row_kept : (r x : ℕ) → r < n → ((i : ℕ) → CorrectIndex n correct i → get_or (rows 0 i) r 0 ≡ x)
      → (i : ℕ) → CorrectIndex n correct i → get_or (rows (phase_count t) i) r 0 ≡ restricted x n
