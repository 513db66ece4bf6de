-- Laws of the vote. The main one: `vote`, after the phases of a vote all correct controllers have one matrix, and a
-- bit or row on which all correct ones started equal is what it was, whatever the others sent to each of them, with any different kings.
-- `vote_in_order`: kings 1 to t + 1. `marks_kept`: the row of a controller whose marks all correct ones received. Below them the same for one
-- bit, and the laws of what slots say, of the matrices and of what is sent (`bytes_seen`: it is bytes).
use mathlib.Core.Path.{◌≡◌, sym, ap, ◌∙◌}
use mathlib.Core.Bool.{Bool}
use mathlib.Core.List.{List}
use Prim.Native.Nat.{ℕ, suc, ◌+◌, ◌*◌, ◌^◌, ◌≤◌, ◌<◌}
use native.Mathlib.Omega.{arith}
use lib.Dec.{lit<}
use lib.ListN.{length, get_or}
use Rattle.lists.proofs.Parts.{all_append}
use Rattle.bitset.specs.Row.{row_of, rows_of}
use Rattle.bitset.proofs.Laws.{restrict_below, row_lt, length_rows_few, bytes_rows}
use Rattle.wire.specs.declared.slot.Layout.{Layout}
use Rattle.wire.specs.Slot.{width, message_of, bytes, slots, to_all}
use Rattle.wire.proofs.Laws.{to_all_lem}
use Rattle.phase_king.specs.Matrix.{limit, first_matrix, held_of, weak_of, settled_of, seen_message}
use Rattle.phase_king.specs.Vote.{CorrectIndex, Resilient, phase_count, Kings, BitPhase, Vote, Agreed}
use Rattle.phase_king.proofs.Bits
use Rattle.phase_king.proofs.Matrices.{length_matrix, matrix_lt, first_row, agreed}
use Rattle.phase_king.proofs.Writes.{length_seen}

-- ---- the vote
pub vote : (n t : ℕ) (correct : ℕ → Bool) (king : ℕ → ℕ) (rows : ℕ → ℕ → List ℕ) → n ≤ 16 → Resilient n t correct → Kings n t king
    → Vote n t correct king rows → Agreed n t correct rows
vote n t correct king rows u system kings phases = agreed n t correct u system king kings rows phases

-- the protocol's kings, controllers 1 to t + 1, are different
pub in_order : (n t : ℕ) (correct : ℕ → Bool) → Resilient n t correct → Kings n t (λ p. p)
in_order n t correct system = record { below = λ p l. omega (arith, system.small); distinct = λ p q l m e. e }

pub vote_in_order : (n t : ℕ) (correct : ℕ → Bool) (rows : ℕ → ℕ → List ℕ) → n ≤ 16 → Resilient n t correct → Vote n t correct (λ p. p) rows
    → Agreed n t correct rows
vote_in_order n t correct rows u system phases = vote n t correct (λ p. p) rows u system (in_order n t correct system) phases

-- call 4 and the vote: where the message of controller r + 1 reached all correct controllers as m, its row ends as the marks in m
pub marks_kept : (n t : ℕ) (correct : ℕ → Bool) (rows : ℕ → ℕ → List ℕ) → n ≤ 16 → Agreed n t correct rows
    → (inbox : ℕ → List ℕ) (layout : Layout) (r : ℕ) (m : List ℕ) → r < n → ((i : ℕ) → CorrectIndex n correct i → rows 0 i ≡ first_matrix (inbox i) layout n)
    → ((i : ℕ) → CorrectIndex n correct i → message_of (inbox i) layout (r + 1) ≡ m)
    → (i : ℕ) → CorrectIndex n correct i → get_or (rows (phase_count t) i) r 0 ≡ row_of n m 0
marks_kept n t correct rows u all inbox layout r m l start sent i f =
    all.row_kept r (row_of n m 0) l
    (λ k g. ap (λ (x : List ℕ). get_or x r 0) (start k g) ∙ first_row (inbox k) layout n r u l ∙ ap (λ (x : List ℕ). row_of n x 0) (sent k g))
    i f
    ∙ restrict_below (row_of n m 0) n (row_lt n m 0)

-- ---- one bit
-- a phase keeps a bit that all correct controllers hold
pub bit_validity : (n t : ℕ) (correct : ℕ → Bool) (king : ℕ) (before after : ℕ → Bool) → Resilient n t correct → BitPhase n t correct king before after
    → (b : Bool) → ((i : ℕ) → CorrectIndex n correct i → before i ≡ b) → (i : ℕ) → CorrectIndex n correct i → after i ≡ b
bit_validity n t correct king before after system phase = Bits.bit_validity n t correct system king before after phase

-- a correct king makes all correct controllers equal
pub bit_king : (n t : ℕ) (correct : ℕ → Bool) (king : ℕ) (before after : ℕ → Bool) → Resilient n t correct → BitPhase n t correct king before after
    → CorrectIndex n correct king → (i j : ℕ) → CorrectIndex n correct i → CorrectIndex n correct j → after i ≡ after j
bit_king n t correct king before after system phase w i j f g =
    let same = Bits.bit_king n t correct system king before after phase w in
    same i f ∙ sym (same j g)

module _ (n t : ℕ) (correct : ℕ → Bool) (king : ℕ → ℕ) (bits : ℕ → ℕ → Bool) (system : Resilient n t correct) (kings : Kings n t king)
    (phases : (p : ℕ) → p < phase_count t → BitPhase n t correct (king p) (bits p) (bits (suc p))) where
  -- all phases end in one bit
  pub bit_agreement : (i j : ℕ) → CorrectIndex n correct i → CorrectIndex n correct j → bits (phase_count t) i ≡ bits (phase_count t) j
  bit_agreement = Bits.bit_agreement n t correct system king kings bits phases

  -- a bit that all correct controllers started with stays
  pub bit_kept : (b : Bool) → ((i : ℕ) → CorrectIndex n correct i → bits 0 i ≡ b) → (i : ℕ) → CorrectIndex n correct i → bits (phase_count t) i ≡ b
  bit_kept b h = Bits.bit_stays n t correct system king kings bits phases b 0 (phase_count t) h (omega arith) (omega arith)

-- ---- matrices have 16 rows
pub length_first : (inbox : List ℕ) (layout : Layout) (n : ℕ) → length (first_matrix inbox layout n) ≡ 16
unfolding first_matrix
length_first inbox layout n = length_matrix (limit n) _

pub length_held : (inbox : List ℕ) (layout : Layout) (n t : ℕ) → length (held_of inbox layout n t) ≡ 16
unfolding held_of
length_held inbox layout n t = length_matrix (limit n) _

pub length-weak : (inbox : List ℕ) (layout : Layout) (n t : ℕ) → length (weak_of inbox layout n t) ≡ 16
unfolding weak_of
length-weak inbox layout n t = length_matrix (limit n) _

pub length_settled : (rows weak inbox : List ℕ) (layout : Layout) (n king : ℕ) → length (settled_of rows weak inbox layout n king) ≡ 16
unfolding settled_of
length_settled rows weak inbox layout n king = length_matrix (limit n) _

-- ---- and each row is a number of 16 bits
pub first_lt : (inbox : List ℕ) (layout : Layout) (n r : ℕ) → get_or (first_matrix inbox layout n) r 0 < 2 ^ 16
unfolding first_matrix
first_lt inbox layout n r = matrix_lt (limit n) _ r (omega arith)

pub held_lt : (inbox : List ℕ) (layout : Layout) (n t r : ℕ) → get_or (held_of inbox layout n t) r 0 < 2 ^ 16
unfolding held_of
held_lt inbox layout n t r = matrix_lt (limit n) _ r (omega arith)

pub weak_lt : (inbox : List ℕ) (layout : Layout) (n t r : ℕ) → get_or (weak_of inbox layout n t) r 0 < 2 ^ 16
unfolding weak_of
weak_lt inbox layout n t r = matrix_lt (limit n) _ r (omega arith)

pub settled_lt : (rows weak inbox : List ℕ) (layout : Layout) (n king r : ℕ) → get_or (settled_of rows weak inbox layout n king) r 0 < 2 ^ 16
unfolding settled_of
settled_lt rows weak inbox layout n king r = matrix_lt (limit n) _ r (omega arith)

-- ---- what is sent, in an outbox of n slots of that layout
module _ (layout : Layout) (n : ℕ) (u : n ≤ 16) (outbox : List ℕ) (h : length outbox ≡ n * width layout) where
  sent : (m : List ℕ) → length m ≡ layout.length → to_all layout (limit n) m outbox ≡ slots layout (λ _. bytes m) n
  sent m e = let l : limit n ≡ n = omega arith in rw l (to_all_lem layout n m outbox e h)

  pub matrix_sent : (rows : List ℕ) → layout.length ≡ 2 * n → to_all layout (limit n) (rows_of n rows) outbox ≡ slots layout (λ _. bytes (rows_of n rows)) n
  matrix_sent rows e = sent (rows_of n rows) (length_rows_few n rows u ∙ sym e)

  pub seen_sent : (zeros ones : List ℕ) → layout.length ≡ 4 * n
      → to_all layout (limit n) (seen_message n zeros ones) outbox ≡ slots layout (λ _. bytes (seen_message n zeros ones)) n
  seen_sent zeros ones e = let l : limit n ≡ n = omega arith in sent (seen_message n zeros ones) (omega (arith, length_seen n zeros ones, e))

pub length_seen_few : (n : ℕ) (zeros ones : List ℕ) → n ≤ 16 → length (seen_message n zeros ones) ≡ 4 * n
length_seen_few n zeros ones u = length_seen n zeros ones ∙ omega arith

pub bytes_seen : (n : ℕ) (zeros ones : List ℕ) → n ≤ 16 → (x : ℕ) → get_or (seen_message n zeros ones) x 0 < 256
unfolding seen_message
bytes_seen n zeros ones h = all_append (λ x. x < 256) (lit< tt) (rows_of n zeros) (rows_of n ones) (bytes_rows n zeros h) (bytes_rows n ones h)
