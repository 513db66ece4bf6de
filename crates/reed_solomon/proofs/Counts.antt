-- Laws of the counts of the slots that differ in each stripe. The main one: `counted_slot`, the counts with one slot more.
use mathlib.Core.Path.{◌≡◌, refl, sym, ap, ap₂, ◌∙◌}
use mathlib.Core.Bool.{Bool, true, false, not, ◌&&◌}
use mathlib.Core.List.{List}
use mathlib.Core.Logic.{⊎_elim}
use Prim.Native.Nat.{ℕ, ◌+◌, ◌≤◌, ◌<◌}
use native.Mathlib.Omega.{arith}
use borrow.Author.Tests.{eqb-true, eqb-false, not-true, not-false}
use lib.Dec.{eqb}
use lib.ListN.{length, get_or, replicate, get_or-eq_default}
use Rattle.wire.specs.declared.slot.Layout.{Layout}
use Rattle.lists.specs.Fill.{tabulate, filled}
use Rattle.lists.specs.Sum.{ind}
use Rattle.lists.proofs.Tests.{either, lt_or_le, and_tail, and_no_left}
use Rattle.lists.proofs.Sums.{count_more, count_le, count_none_below, ind_no}
use Rattle.lists.proofs.Fills.{length-tabulate, get_or-tabulate, tabulate_ext, tabulate_const, filled_none, filled_all}
use Rattle.wire.specs.Slot.{message_of}
use Rattle.wire.proofs.Laws.{length-message}
use Rattle.polynomial.specs.Polynomial.{evaluate}
use Rattle.reed_solomon.specs.Encode.{stripe, piece_of}
use Rattle.reed_solomon.specs.Decode.{has_piece, received, differing}
use Rattle.reed_solomon.specs.Steps.{counted}

-- the length of the message of a slot that is present, and of one that is not
pub length_present : (layout : Layout) (slots : List ℕ) (j : ℕ) → has_piece layout slots j ≡ true → length (message_of slots layout j) ≡ layout.length
unfolding has_piece
length_present layout slots j h =
    let n = length (message_of slots layout j) in
    length-message slots layout j (eqb-false n 0 (not-true (eqb n 0) h))

pub length_absent : (layout : Layout) (slots : List ℕ) (j : ℕ) → has_piece layout slots j ≡ false → length (message_of slots layout j) ≡ 0
unfolding has_piece
length_absent layout slots j h =
    let n = length (message_of slots layout j) in
    eqb-true n 0 (not-false (eqb n 0) h)

pub message_le : (layout : Layout) (slots : List ℕ) (j : ℕ) → length (message_of slots layout j) ≤ layout.length
message_le layout slots j =
    ⊎_elim
    (λ (h : has_piece layout slots j ≡ true). omega (arith, length_present layout slots j h))
    (λ (h : has_piece layout slots j ≡ false). omega (arith, length_absent layout slots j h))
    (either (has_piece layout slots j))

module _ (t : ℕ) (layout : Layout) (slots block : List ℕ) where
  -- the counts of the first i slots
  unfoldable pub counts_of : ℕ → List ℕ
  counts_of i = tabulate (λ s. differing i layout slots s (stripe t block s)) layout.length

  pub counts_all : (i : ℕ) → counts_of i ≡ tabulate (λ s. differing i layout slots s (stripe t block s)) layout.length
  unfolding counts_of
  counts_all i = refl

  pub counts_none : counts_of 0 ≡ replicate layout.length 0
  unfolding counts_of differing
  counts_none =
      tabulate_ext (λ s. differing 0 layout slots s (stripe t block s)) (λ _. 0) layout.length (λ s h. count_none_below _)
      ∙ tabulate_const 0 layout.length

  pub length_counts : (i : ℕ) → length (counts_of i) ≡ layout.length
  unfolding counts_of
  length_counts i = length-tabulate (λ s. differing i layout slots s (stripe t block s)) layout.length

  pub count-few : (i : ℕ) (counts : List ℕ) → counts ≡ counts_of i → i ≤ 16 → (s : ℕ) → get_or counts s 0 < 255
  unfolding counts_of differing
  count-few i counts e h s =
      ⊎_elim
      (λ (l : s < layout.length). omega (
        arith,
        ap (λ (x : List ℕ). get_or x s 0) e,
        get_or-tabulate (λ s. differing i layout slots s (stripe t block s)) layout.length s 0 l,
        count_le i (λ j. has_piece layout slots (j + 1) && not (eqb (evaluate (stripe t block s) (j + 1)) (received layout slots s (j + 1)))),
      ))
      (λ (l : layout.length ≤ s). omega (arith, get_or-eq_default counts 0 {n = s} (omega (arith, ap length e, length_counts i))))
      (lt_or_le s layout.length)

  pub counted_slot : (i : ℕ) (counts : List ℕ) → counts ≡ counts_of i
      → counted (message_of slots layout (i + 1)) (piece_of layout.length t block (i + 1)) counts ≡ counts_of (i + 1)
  unfolding counted counts_of piece_of differing received
  counted_slot i counts e =
      let m = message_of slots layout (i + 1) in
      let f : ℕ → ℕ = λ s. get_or counts s 0 + ind (not (eqb (get_or (piece_of layout.length t block (i + 1)) s 0) (get_or m s 0))) in
      let g : ℕ → ℕ → ℕ = λ i s. differing i layout slots s (stripe t block s) in
      let is : ℕ → ℕ → Bool = λ s j. has_piece layout slots (j + 1) && not (eqb (evaluate (stripe t block s) (j + 1)) (received layout slots s (j + 1))) in
      ⊎_elim
      (λ (h : has_piece layout slots (i + 1) ≡ true).
      ap (λ n. filled f n counts) (length_present layout slots (i + 1) h) ∙ filled_all f layout.length counts (ap length e ∙ length_counts i)
      ∙ tabulate_ext f (g (i + 1)) layout.length
      (λ s l.
      ap₂ ◌+◌ (ap (λ (x : List ℕ). get_or x s 0) e ∙ get_or-tabulate (g i) layout.length s 0 l)
      (ap (λ (v : ℕ). ind (not (eqb v (get_or m s 0)))) (get_or-tabulate (λ s. evaluate (stripe t block s) (i + 1)) layout.length s 0 l)
      ∙ ap ind (sym (and_tail (has_piece layout slots (i + 1)) (not (eqb (evaluate (stripe t block s) (i + 1)) (get_or m s 0))) h)))
      ∙ sym (count_more i (is s))))
      (λ (h : has_piece layout slots (i + 1) ≡ false).
      ap (λ n. filled f n counts) (length_absent layout slots (i + 1) h) ∙ filled_none f counts ∙ e
      ∙ tabulate_ext (g i) (g (i + 1)) layout.length
      (λ s l. omega (
        arith,
        count_more i (is s),
        ind_no (and_no_left (has_piece layout slots (i + 1)) (not (eqb (evaluate (stripe t block s) (i + 1)) (received layout slots s (i + 1)))) h),
      )))
      (either (has_piece layout slots (i + 1)))
