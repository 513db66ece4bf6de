-- What is written into a message and an outbox. The main laws: `seen_written` (two matrices, one behind the other) and `is_to_all`.
use mathlib.Core.Path.{◌≡◌, sym, ap, ap₂, ◌∙◌}
use mathlib.Core.List.{List, ◌++◌, append-nil, append_assoc}
use Prim.Native.Nat.{ℕ, ◌+◌, ◌-◌, ◌*◌, ◌≤◌}
use native.Mathlib.Omega.{arith}
use lib.Dec.{eqb}
use lib.ListN.{length, take, drop, replicate, length-append, length-drop, drop_of_length-le}
use lib.Seq.{take_all, take_at, drop_at, drop-drop}
use borrow.Author.Tests.{eq-eqb, ne_eqb}
use Rattle.lists.specs.Fill.{filled}
use Rattle.lists.proofs.Tests.{cond_yes, cond_no}
use Rattle.lists.proofs.Fills.{length-filled}
use Rattle.bitset.specs.Row.{row_byte, rows_length, rows_of}
use Rattle.bitset.proofs.Laws.{length_rows, rows_written}
use Rattle.wire.specs.declared.slot.Layout.{Layout}
use Rattle.wire.specs.Slot.{to_all}
use Rattle.phase_king.specs.Matrix.{limit, seen_message, sent_by_king}

pub length_seen : (n : ℕ) (zeros ones : List ℕ) → length (seen_message n zeros ones) ≡ 2 * rows_length n
unfolding seen_message
length_seen n zeros ones = length-append (rows_of n zeros) (rows_of n ones) ∙ omega (arith, length_rows n zeros, length_rows n ones)

pub seen_written : (n k : ℕ) (zeros ones o w v : List ℕ) → k ≡ rows_length n → 2 * rows_length n ≤ length o
    → w ≡ filled (row_byte n zeros) (rows_length n) o → v ≡ filled (row_byte n ones) (rows_length n) (take (length w - k) (drop k w))
    → take k w ++ (v ++ drop (length w - k) (drop k w)) ≡ seen_message n zeros ones ++ drop (2 * rows_length n) o
unfolding seen_message
seen_written n k zeros ones o w v e h p q =
    let long : length w ≡ length o = ap length p ∙ length-filled (row_byte n zeros) (rows_length n) o in
    let sized : length (rows_of n zeros) ≡ k = length_rows n zeros ∙ sym e in
    let parts : w ≡ rows_of n zeros ++ drop k o = p ∙ rows_written n zeros o (omega arith) ∙ ap (λ (i : ℕ). rows_of n zeros ++ drop i o) (sym e) in
    let front : take k w ≡ rows_of n zeros = ap (take k) parts ∙ take_at (rows_of n zeros) (drop k o) k sized in
    let rest : drop k w ≡ drop k o = ap (drop k) parts ∙ drop_at (rows_of n zeros) (drop k o) k sized in
    let most : length (drop k w) ≤ length w - k = omega (arith, length-drop k w) in
    let twice : k + rows_length n ≡ 2 * rows_length n = omega arith in
    let back : v ≡ rows_of n ones ++ drop (2 * rows_length n) o =
    q ∙ ap (filled (row_byte n ones) (rows_length n)) (take_all (length w - k) (drop k w) most ∙ rest)
    ∙ rows_written n ones (drop k o) (omega (arith, length-drop k o))
    ∙ ap (λ (l : List ℕ). rows_of n ones ++ l) (drop-drop (rows_length n) k o ∙ ap (λ (i : ℕ). drop i o) twice) in
    ap₂ (λ (x y : List ℕ). x ++ y) front (ap₂ (λ (x y : List ℕ). x ++ y) back (drop_of_length-le (drop k w) most) ∙ append-nil _)
    ∙ sym (append_assoc (rows_of n zeros) (rows_of n ones) (drop (2 * rows_length n) o))

-- the message at the front of a list
pub front_of : (m b o : List ℕ) (k : ℕ) → b ≡ m ++ o → length m ≡ k → take k b ≡ m
front_of m b o k e l = ap (take k) e ∙ take_at m o k l

pub rows_front : (n k : ℕ) (rows b o : List ℕ) → k ≡ rows_length n → rows_length n ≤ length o → b ≡ filled (row_byte n rows) (rows_length n) o
    → take k b ≡ rows_of n rows
rows_front n k rows b o e h p = front_of (rows_of n rows) b (drop (rows_length n) o) k (p ∙ rows_written n rows o h) (length_rows n rows ∙ sym e)

-- one message in all slots
pub is_to_all : (layout : Layout) (n count : ℕ) (m part outbox last : List ℕ) → count ≡ limit n → part ≡ m → last ≡ to_all layout count part outbox
    → last ≡ to_all layout (limit n) m outbox
is_to_all layout n count m part outbox last e h p = p ∙ ap₂ (λ (i : ℕ) (l : List ℕ). to_all layout i l outbox) e h

-- the king's matrix, and silence from everyone else
module _ (layout : Layout) (own king n : ℕ) (rows o : List ℕ) where
  pub king_all : own ≡ king → sent_by_king layout own king n rows o ≡ to_all layout (limit n) (rows_of n rows) o
  unfolding sent_by_king
  king_all e = cond_yes (eqb own king) (to_all layout (limit n) (rows_of n rows) o) (replicate (length o) 0) (eq-eqb own king e)

  pub king_none : (own ≡ king → ⊥) → sent_by_king layout own king n rows o ≡ replicate (length o) 0
  unfolding sent_by_king
  king_none z = cond_no (eqb own king) (to_all layout (limit n) (rows_of n rows) o) (replicate (length o) 0) (ne_eqb own king z)
