-- One phase of the vote for one bit (document 01, 'Rounds', rounds 3p + 1 to 3p + 3), as functions of what the n slots say. A slot is a
-- Bool, true for 1; index i is controller i + 1.
--   zero_seen n t said      at least n - t slots say 0 (Berman, Garay and Perry: C⁰ is 1)
--   one_seen n t said       at least n - t slots say 1 (C¹ is 1)
--   held n t ones           1 if the slots with one seen exceed t, else 0
--   support n t zeros ones  the count for the bit now held
--   weak n t zeros ones     that count is below n - t
--   settled held weak king  the king's bit where weak, else the bit held
use Rattle.std.specs.Prelude.{Bool, not, cond, ℕ, ◌-◌, leb, ltb}
use Rattle.lists.specs.Sum.{count}

unfoldable pub zero_seen : ℕ → ℕ → (ℕ → Bool) → Bool
zero_seen n t said = leb (n - t) (count n (λ i. not (said i)))

unfoldable pub one_seen : ℕ → ℕ → (ℕ → Bool) → Bool
one_seen n t said = leb (n - t) (count n said)

unfoldable pub held : ℕ → ℕ → (ℕ → Bool) → Bool
held n t ones = ltb t (count n ones)

unfoldable pub support : ℕ → ℕ → (ℕ → Bool) → (ℕ → Bool) → ℕ
support n t zeros ones = cond (held n t ones) (count n ones) (count n zeros)

unfoldable pub weak : ℕ → ℕ → (ℕ → Bool) → (ℕ → Bool) → Bool
weak n t zeros ones = ltb (support n t zeros ones) (n - t)

unfoldable pub settled : Bool → Bool → Bool → Bool
settled held weak king = cond weak king held
