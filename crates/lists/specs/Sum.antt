-- Sums and counts over the indices 0 .. n - 1. A set of indices is a test, ℕ → Bool.
--   sum n f    f 0 + .. + f (n - 1)
--   ind b      1 where b holds, else 0
--   count n p  how many indices below n pass the test p
use Rattle.std.specs.Prelude.{Bool, true, false, ℕ, zero, suc, ◌+◌}

unfoldable pub sum : ℕ → (ℕ → ℕ) → ℕ
sum zero f = 0
sum (suc n) f = sum n f + f n

abbrev pub ind : Bool → ℕ
ind true = 1
ind false = 0

unfoldable pub count : ℕ → (ℕ → Bool) → ℕ
count n p = sum n (λ i. ind (p i))
