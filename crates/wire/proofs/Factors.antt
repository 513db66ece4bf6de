-- The table of factors: they give the length that document 01's table of rounds has (`row_value`), which is at most 768 (`row_le`).
use mathlib.Core.Path.{◌≡◌, sym, ap}
use mathlib.Core.List.{List}
use Prim.Native.Nat.{ℕ, ◌+◌, ◌*◌, ◌≤◌}
use native.Mathlib.Nat.{mul-le-mul}
use native.Mathlib.Omega.{arith}
use lib.ListN.{get_or}
use Rattle.wire.specs.declared.Round.{Round}
use Rattle.wire.specs.declared.Round.TheVariants.{Block, Pieces, Marks, Matrix, Seen, King, Forward, Rebuild, Outside}
use Rattle.wire.specs.Length.{block_length, row_length, factors_of}

-- ---- lengths
abbrev pub total : List ℕ → ℕ → ℕ → ℕ → ℕ
total row n t k = get_or row 0 0 * (k * (t + 1)) + get_or row 1 0 * k + get_or row 2 0 * n + get_or row 3 0

pub row_value : (r : Round) (n t k : ℕ) → total (factors_of r) n t k ≡ row_length r n t k
unfolding row_length block_length
row_value Block n t k = omega arith
row_value Pieces n t k = omega arith
row_value Marks n t k = omega arith
row_value Matrix n t k = omega arith
row_value Seen n t k = omega arith
row_value King n t k = omega arith
row_value Forward n t k = omega arith
row_value Rebuild n t k = omega arith
row_value Outside n t k = omega arith

-- outside the rounds the length is 0
pub row_none : (r : Round) (n t k : ℕ) → r ≡ Outside → 0 ≡ row_length r n t k
unfolding row_length
row_none r n t k e = sym (ap (λ (x : Round). row_length x n t k) e)

-- ---- how large lengths are
pub block_bound : {k t : ℕ} → k ≤ 128 → t ≤ 5 → k * (t + 1) ≤ 768
block_bound {k} {t} h g =
    let u : t + 1 ≤ 6 = omega arith in
    mul-le-mul h u

pub box_bound : {n l : ℕ} → n ≤ 16 → l ≤ 1024 → n * l ≤ 16384
box_bound h g = mul-le-mul h g

-- no message is longer than 768 bytes
pub row_le : (r : Round) (n t k : ℕ) → n ≤ 16 → t ≤ 5 → k ≤ 128 → row_length r n t k ≤ 768
unfolding row_length block_length
row_le Block n t k a b c = block_bound c b
row_le Pieces n t k a b c = omega arith
row_le Marks n t k a b c = omega arith
row_le Matrix n t k a b c = omega arith
row_le Seen n t k a b c = omega arith
row_le King n t k a b c = omega arith
row_le Forward n t k a b c = omega arith
row_le Rebuild n t k a b c = omega arith
row_le Outside n t k a b c = omega arith
