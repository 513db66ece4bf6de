-- Stripes and blocks, points and columns. The main laws: `block-joined`, a block is its stripes joined, and `differing-points`, the values that
-- differ counted over the list of points.
use mathlib.Core.Path.{◌≡◌, sym, ap, ◌∙◌}
use mathlib.Core.Bool.{Bool, true, false, not}
use mathlib.Core.List.{List, [], ◌∷◌, ◌++◌}
use mathlib.Core.Logic.{⊎_elim}
use Prim.Native.Nat.{ℕ, ◌+◌, ◌-◌, ◌*◌, ◌≤◌, ◌<◌}
use native.Mathlib.Nat.{add-mul, le_trans, mul-le-mul_right}
use native.Mathlib.Omega.{arith}
use lib.Dec.{eqb, lit<}
use lib.ListN.{length, get_or, take, drop, length-drop}
use lib.Seq.{length-take-le, get_or-take, get_or-drop, take-take}
use borrow.Rule.Slice.PartMut.{put_mid}
use Rattle.wire.specs.declared.slot.Layout.{Layout}
use Rattle.lists.specs.Sum.{count}
use Rattle.lists.specs.Join.{joined, part}
use Rattle.lists.specs.Select.{Rising}
use Rattle.lists.proofs.Sums.{count_le, count_ext, count-not}
use Rattle.lists.proofs.Selects.{selected_none, selected_yes, selected_no, rising-selected, rising-different, length-selected}
use Rattle.lists.proofs.Selects.{count-selected}
use Rattle.lists.proofs.Tests.{lt_or_le}
use Rattle.lists.proofs.Fills.{get_or-tabulate}
use Rattle.lists.proofs.Parts.{slot_within, drop-take}
use Rattle.lists.proofs.Joins.{part_take, part_put_same, joined_parts, joined_ext}
use Rattle.polynomial.specs.Polynomial.{evaluate, Bytes, Points}
use Rattle.polynomial.proofs.Laws.{past_end}
use Rattle.interpolation.specs.Interpolation.{agreements}
use Rattle.interpolation.proofs.Laws.{Units, agreements-count}
use Rattle.reed_solomon.specs.Encode.{stripe}
use Rattle.reed_solomon.specs.Decode.{has_piece, received, present_count, differing}
use Rattle.reed_solomon.specs.Steps.{points, column, differences, Pointed}

-- ---- points and columns
-- numbers that rise are units of the field, all different
module _ (n : ℕ) (xs : List ℕ) (h : n < 256) (r : Rising n xs) where
  pub units_rising : Units xs
  units_rising = record { positive = r.least; small = λ i l. omega (arith, r.most i l) }

  pub points-rising : Points (length xs) (λ i. get_or xs i 0)
  points-rising = record { element = λ i l. omega (arith, r.most i l); different = rising-different n xs r }

module _ (n : ℕ) (layout : Layout) (slots : List ℕ) where
  pub rising-points : Rising n (points n layout slots)
  unfolding points
  rising-points = rising-selected (has_piece layout slots) n

  pub points_yes : has_piece layout slots (n + 1) ≡ true → points (n + 1) layout slots ≡ points n layout slots ++ ((n + 1) ∷ [])
  unfolding points
  points_yes e = selected_yes (has_piece layout slots) n e

  pub points_no : has_piece layout slots (n + 1) ≡ false → points (n + 1) layout slots ≡ points n layout slots
  unfolding points
  points_no e = selected_no (has_piece layout slots) n e

  pub length-points : length (points n layout slots) ≡ present_count n layout slots
  unfolding points present_count
  length-points = length-selected (has_piece layout slots) n

  pub points_le : length (points n layout slots) ≤ n
  unfolding present_count
  points_le = omega (arith, length-points, count_le n (λ i. has_piece layout slots (i + 1)))

  -- the present slots' numbers are different points, enough where more than t are present
  pub pointed_points : (t : ℕ) → n ≤ 16 → t ≤ 5 → t + 1 ≤ length (points n layout slots) → Pointed t (points n layout slots)
  pointed_points t few few-faulty many = record {
    rising = record { least = rising-points.least; most = λ i l. omega (arith, rising-points.most i l); order = rising-points.order };
    many = many;
    few = omega (arith, points_le);
    few-faulty = few-faulty;
  }

pub points_none : (layout : Layout) (slots : List ℕ) → points 0 layout slots ≡ []
unfolding points
points_none layout slots = selected_none (has_piece layout slots)

module _ (layout : Layout) (slots : List ℕ) (s : ℕ) where
  differs : List ℕ → ℕ → Bool
  differs m j = not (eqb (evaluate m j) (received layout slots s j))

  differences-column : (xs m : List ℕ) → differences xs (column layout slots s xs) m ≡ count (length xs) (λ i. differs m (get_or xs i 0))
  unfolding column differences differs
  differences-column xs m =
      count_ext (length xs) (λ i. not (eqb (evaluate m (get_or xs i 0)) (get_or (column layout slots s xs) i 0))) (λ i. differs m (get_or xs i 0))
      (λ i l. ap (λ y. not (eqb (evaluate m (get_or xs i 0)) y)) (get_or-tabulate (λ j. received layout slots s (get_or xs j 0)) (length xs) i 0 l))

  -- what differs at the points of the present slots is what the rule counts
  pub differing-points : (n : ℕ) (m : List ℕ) → differences (points n layout slots) (column layout slots s (points n layout slots)) m
      ≡ differing n layout slots s m
  unfolding points differing differs
  differing-points n m = differences-column (points n layout slots) m ∙ count-selected (has_piece layout slots) (differs m) n

pub differences_le : (xs ys m : List ℕ) → differences xs ys m ≤ length xs
unfolding differences
differences_le xs ys m = count_le (length xs) (λ i. not (eqb (evaluate m (get_or xs i 0)) (get_or ys i 0)))

-- a value agrees or differs
pub agreements-differences : (xs ys m : List ℕ) → agreements xs ys m + differences xs ys m ≡ length xs
unfolding differences
agreements-differences xs ys m =
    let same : ℕ → Bool = λ i. eqb (evaluate m (get_or xs i 0)) (get_or ys i 0) in
    omega (arith, agreements-count xs ys m, count-not (length xs) same)

pub different-numbers : (n : ℕ) → n < 256 → Points n (λ i. i + 1)
different-numbers n h = record { element = λ i l. omega arith; different = λ i j l g e. omega arith }

-- ---- stripes
pub length-stripe : (k t : ℕ) (block : List ℕ) (s : ℕ) → length block ≡ k * (t + 1) → s < k → length (stripe t block s) ≡ t + 1
unfolding stripe
length-stripe k t block s e l =
    length-take-le (t + 1) (drop (s * (t + 1)) block) (omega (arith, length-drop (s * (t + 1)) block, slot_within k (t + 1) s l))

-- a stripe lies in the front that ends behind it, or later
stripe-within : (t : ℕ) (block : List ℕ) (s from : ℕ) → s < from → stripe t block s ≡ take (t + 1) (drop (s * (t + 1)) (take (from * (t + 1)) block))
unfolding stripe
stripe-within t block s from l =
    let w = t + 1 in
    sym
    (ap (take w) (drop-take (s * w) (from * w) block)
    ∙ take-take w (from * w - s * w) (drop (s * w) block) (omega (arith, slot_within from w s l)))

pub stripe_front : (t : ℕ) (b c : List ℕ) (from : ℕ) → take (from * (t + 1)) b ≡ take (from * (t + 1)) c → (s : ℕ) → s < from → stripe t b s ≡ stripe t c s
stripe_front t b c from e s l =
    stripe-within t b s from l ∙ ap (λ (f : List ℕ). take (t + 1) (drop (s * (t + 1)) f)) e ∙ sym (stripe-within t c s from l)

-- a shorter front
pub front_less : (w : ℕ) (b c : List ℕ) (s from : ℕ) → take (from * w) b ≡ take (from * w) c → s < from → take (s * w) b ≡ take (s * w) c
front_less w b c s from e l =
    let h : s * w ≤ from * w = omega (arith, slot_within from w s l) in
    sym (take-take (s * w) (from * w) b h) ∙ ap (take (s * w)) e ∙ take-take (s * w) (from * w) c h

-- a stripe that was lent and came back as y
pub stripe_put : (k t : ℕ) (block y : List ℕ) (s : ℕ) → length block ≡ k * (t + 1) → s < k → length y ≡ t + 1
    → stripe t (put_mid (s * (t + 1)) (s * (t + 1) + (t + 1) - s * (t + 1)) block y) s ≡ y
unfolding stripe
stripe_put k t block y s e l h =
    sym (part_take (t + 1) (put_mid (s * (t + 1)) (s * (t + 1) + (t + 1) - s * (t + 1)) block y) s)
    ∙ part_put_same (t + 1) block y k s l (omega (arith, e)) h

-- the longest block
pub block-most : (k t : ℕ) → k ≤ 128 → t ≤ 5 → k * (t + 1) ≤ 768
block-most k t h l = le_trans (mul-le-mul_right (t + 1) h) (omega arith)

-- the stripes before a place and those from it on
pub rest_size : (k from w : ℕ) → from ≤ k → (k - from) * w + from * w ≡ k * w
rest_size k from w l =
    let e : k - from + from ≡ k = omega arith in
    sym (add-mul (k - from) from w) ∙ ap (λ n. n * w) e

pub bytes-stripe : (t : ℕ) (block : List ℕ) (s : ℕ) → Bytes block → Bytes (stripe t block s)
unfolding stripe
bytes-stripe t block s h i =
    ⊎_elim
    (λ (l : i < t + 1). rw (get_or-take (t + 1) (drop (s * (t + 1)) block) i 0 l) (rw (get_or-drop (s * (t + 1)) block i 0) (h (s * (t + 1) + i))))
    (λ (l : t + 1 ≤ i).
    rw (past_end (take (t + 1) (drop (s * (t + 1)) block)) i (omega (arith, lib.ListN.length-take (t + 1) (drop (s * (t + 1)) block)))) (lit< tt))
    (lt_or_le i (t + 1))

-- ---- stripes joined
pub block-joined : (k t : ℕ) (block : List ℕ) → length block ≡ k * (t + 1) → block ≡ joined (stripe t block) k
unfolding stripe
block-joined k t block e = joined_parts (t + 1) block k e ∙ joined_ext (part (t + 1) block) (stripe t block) k (λ s l. part_take (t + 1) block s)
