-- The place of a message in the table: `place_inside` says what `place_in` is within the ranges of rounds and numbers, `place_ranges` that it is 0
-- outside.
use Rattle.std.specs.Prelude.{Some, None, cond}
use mathlib.Core.Path.{◌≡◌, refl, sym, ap, ◌∙◌}
use mathlib.Core.Bool.{Bool, true, false, ◌&&◌}
use mathlib.Core.List.{List}
use mathlib.Core.Logic.{⊎_elim}
use Prim.Native.Nat.{ℕ, zero, suc, ◌≤◌, ◌<◌}
use native.Mathlib.Omega.{arith}
use borrow.Author.Tests.{le-leb, lt-leb}
use lib.Dec.{leb}
use lib.ListN.{get_or}
use Rattle.lists.proofs.Tests.{and_both, and_no_left, and_no_right, cond_yes, cond_no, fails, passes, same_or_not, lt_or_le}
use Rattle.system_file.specs.Table.{table_index, in_table, place_in, some_place}

abbrev within : ℕ → ℕ → Bool
within most x = leb 1 x && leb x most

outside-within : (most x : ℕ) → (x < 1) → within most x ≡ false
outside-within most x l = and_no_left (leb 1 x) (leb x most) (lt-leb 1 x l)

above_within : (most x : ℕ) → most < x → within most x ≡ false
above_within most x l = and_no_right (leb 1 x) (leb x most) (lt-leb x most l)

inside_within : (most x : ℕ) → 1 ≤ x → x ≤ most → within most x ≡ true
inside_within most x a b = and_both (leb 1 x) (leb x most) (le-leb 1 x a) (le-leb x most b)

module _ (places : List ℕ) (r f j : ℕ) where
  none : in_table r f j ≡ false → place_in places r f j ≡ 0
  unfolding place_in
  none n = cond_no (in_table r f j) (get_or places (table_index r f j) 0) 0 n

  no_round : within 23 r ≡ false → place_in places r f j ≡ 0
  unfolding in_table
  no_round n = none (and_no_left (within 23 r) (within 16 f && within 16 j) n)

  no_sender : within 16 f ≡ false → place_in places r f j ≡ 0
  unfolding in_table
  no_sender n = none (and_no_right (within 23 r) (within 16 f && within 16 j) (and_no_left (within 16 f) (within 16 j) n))

  no_receiver : within 16 j ≡ false → place_in places r f j ≡ 0
  unfolding in_table
  no_receiver n = none (and_no_right (within 23 r) (within 16 f && within 16 j) (and_no_right (within 16 f) (within 16 j) n))

  pub round-zero : r ≡ 0 → place_in places r f j ≡ 0
  round-zero e = no_round (outside-within 23 r (omega arith))

  pub round_past : 23 < r → place_in places r f j ≡ 0
  round_past l = no_round (above_within 23 r l)

  pub sender-zero : f ≡ 0 → place_in places r f j ≡ 0
  sender-zero e = no_sender (outside-within 16 f (omega arith))

  pub sender_past : 16 < f → place_in places r f j ≡ 0
  sender_past l = no_sender (above_within 16 f l)

  pub receiver_zero : j ≡ 0 → place_in places r f j ≡ 0
  receiver_zero e = no_receiver (outside-within 16 j (omega arith))

  pub receiver_past : 16 < j → place_in places r f j ≡ 0
  receiver_past l = no_receiver (above_within 16 j l)

  pub place_inside : 1 ≤ r → r ≤ 23 → 1 ≤ f → f ≤ 16 → 1 ≤ j → j ≤ 16 → place_in places r f j ≡ get_or places (table_index r f j) 0
  unfolding place_in in_table
  place_inside a b c d e g =
      cond_yes (in_table r f j) (get_or places (table_index r f j) 0) 0
      (and_both (within 23 r) (within 16 f && within 16 j) (inside_within 23 r a b)
      (and_both (within 16 f) (within 16 j) (inside_within 16 f c d) (inside_within 16 j e g)))

  pub place_ranges : (place_in places r f j ≡ 0 → ⊥) → ((1 ≤ r) × (r ≤ 23)) × (((1 ≤ f) × (f ≤ 16)) × ((1 ≤ j) × (j ≤ 16)))
  place_ranges some = (
    (
      ⊎_elim (λ (e : r ≡ 0). absurd (some (round-zero e))) (λ (n : r ≡ 0 → ⊥). omega arith) (same_or_not r 0),
      ⊎_elim (λ (l : 23 < r). absurd (some (round_past l))) (λ (l : r ≤ 23). l) (lt_or_le 23 r),
    ),
    (
      (
        ⊎_elim (λ (e : f ≡ 0). absurd (some (sender-zero e))) (λ (n : f ≡ 0 → ⊥). omega arith) (same_or_not f 0),
        ⊎_elim (λ (l : 16 < f). absurd (some (sender_past l))) (λ (l : f ≤ 16). l) (lt_or_le 16 f),
      ),
      (
        ⊎_elim (λ (e : j ≡ 0). absurd (some (receiver_zero e))) (λ (n : j ≡ 0 → ⊥). omega arith) (same_or_not j 0),
        ⊎_elim (λ (l : 16 < j). absurd (some (receiver_past l))) (λ (l : j ≤ 16). l) (lt_or_le 16 j),
      ),
    ),
  )

-- what the place at an index of the table says
module _ (places : List ℕ) (r f j : ℕ) where
  pub no_place : None ≡ cond (in_table r f j) (Some (table_index r f j)) None → None ≡ some_place (place_in places r f j)
  unfolding place_in
  no_place d =
      let n = fails (in_table r f j) (λ y. let q = cond_yes (in_table r f j) (Some (table_index r f j)) None y in let z : ◌≡◌ {A = ℕ} 0 1 = cc in omega arith) in
      ap some_place (sym (cond_no _ _ _ n))

  pub place_at : (i : ℕ) → Some i ≡ cond (in_table r f j) (Some (table_index r f j)) None → get_or places i 0 ≡ place_in places r f j
  unfolding place_in
  place_at i d =
      let y = passes (in_table r f j) (λ n. let q = cond_no (in_table r f j) (Some (table_index r f j)) None n in let z : ◌≡◌ {A = ℕ} 0 1 = cc in omega arith) in
      let q = cond_yes (in_table r f j) (Some (table_index r f j)) None y in
      let t : i ≡ table_index r f j = cc in
      ap (λ (x : ℕ). get_or places x 0) t ∙ sym (cond_yes _ _ _ y)

  pub some_at : (x i : ℕ) → Some i ≡ cond (in_table r f j) (Some (table_index r f j)) None → x ≡ get_or places i 0 → (x ≡ 0 → ⊥)
      → Some x ≡ some_place (place_in places r f j)
  some_at zero i d e n = absurd (n refl)
  some_at (suc x) i d e n = ap some_place (e ∙ place_at i d)

  pub none_at : (i : ℕ) → Some i ≡ cond (in_table r f j) (Some (table_index r f j)) None → get_or places i 0 ≡ 0
      → None ≡ some_place (place_in places r f j)
  none_at i d e = ap some_place (sym e ∙ place_at i d)
