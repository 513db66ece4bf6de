-- What the proof uses of the code: `Code`. A change of the decoding rule touches `code_laws` and what it cites, and nothing else here.
use mathlib.Core.Path.{◌≡◌, ap, ◌∙◌}
use mathlib.Core.Bool.{false}
use mathlib.Core.List.{List}
use Prim.Native.Nat.{ℕ, ◌+◌, ◌-◌, ◌≤◌}
use native.Mathlib.Omega.{arith}
use lib.ListN.{length}
use Rattle.lists.specs.Sum.{count}
use Rattle.lists.specs.Same.{same}
use Rattle.lists.proofs.Sames.{same_eq}
use Rattle.bitset.specs.Set.{member}
use Rattle.settings.specs.Valid.{Coded}
use Rattle.polynomial.specs.Polynomial.{Bytes}
use Rattle.wire.specs.Length.{block_length}
use Rattle.wire.specs.Slot.{layout_with, message_of}
use Rattle.reed_solomon.specs.Encode.{piece_of}
use Rattle.reed_solomon.specs.Decode.{Decodes, is_named, named_of}
use Rattle.reed_solomon.proofs.Laws.{length_piece, blocks_equal, pieces_decode, present_count_le, member_named, true_not_named}

-- a block: of the right length, and of bytes
pub record IsBlock (k t : ℕ) (B : List ℕ) : Type 0 where
  pub size : length B ≡ block_length k t
  pub bytes : Bytes B

pub record Code (run n t k : ℕ) : Type 0 where
  pub length_piece : (B : List ℕ) (i : ℕ) → length (piece_of k t B i) ≡ k
  -- two blocks whose pieces agree at t + 1 different numbers are the same block
  pub determined : (A B : List ℕ) → IsBlock k t A → IsBlock k t B
      → t + 1 ≤ count n (λ i. same (piece_of k t A (i + 1)) (piece_of k t B (i + 1))) → A ≡ B
  -- with at least n - t slots that have the true pieces of B, B meets decoding's rule
  pub recovered : (slots B : List ℕ) → IsBlock k t B → n ≤ count n (λ i. same (message_of slots (layout_with run k) (i + 1)) (piece_of k t B (i + 1))) + t
      → Decodes n t (layout_with run k) slots B
  -- a slot that has its true piece of B is not named
  pub unnamed : (slots B : List ℕ) (j : ℕ) → 1 ≤ j → j ≤ n → message_of slots (layout_with run k) j ≡ piece_of k t B j
      → member (named_of n t (layout_with run k) slots B) (j - 1) ≡ false

pub code_laws : (run n t k : ℕ) → Coded n t k → Code run n t k
code_laws run n t k v = record {
  length_piece = λ B i. length_piece k t B i;
  determined = λ A B a b many.
      blocks_equal n t k A B (λ i. same (piece_of k t A (i + 1)) (piece_of k t B (i + 1))) (omega (arith, v.quorum.n_most)) a.size b.size a.bytes
      b.bytes
      (λ i l y. same_eq (piece_of k t A (i + 1)) (piece_of k t B (i + 1)) y) many;
  recovered = λ slots B is many.
      pieces_decode n t (layout_with run k) slots B (λ i. same (message_of slots (layout_with run k) (i + 1)) (piece_of k t B (i + 1))) is.size is.bytes
      (λ i l y. same_eq (message_of slots (layout_with run k) (i + 1)) (piece_of k t B (i + 1)) y)
      (omega (arith, many, present_count_le n (layout_with run k) slots, v.quorum.t_most));
  unnamed = λ slots B j least most true-piece.
      let e : j - 1 + 1 ≡ j = omega arith in
      member_named n t (layout_with run k) slots B (j - 1) (omega arith) ∙ ap (is_named t (layout_with run k) slots B) e
      ∙ true_not_named t (layout_with run k) slots B j true-piece;
}
