-- A test on round numbers.
use mathlib.Core.Path.{◌≡◌, refl}
use Prim.Native.Nat.{ℕ, zero, suc, ◌≤◌}
use native.Mathlib.Omega.{arith}

-- a number that is none of 0 to 3
pub from_four : (c : ℕ) → (c ≡ 0 → ⊥) → (c ≡ 1 → ⊥) → (c ≡ 2 → ⊥) → (c ≡ 3 → ⊥) → 4 ≤ c
from_four zero a b d e = absurd (a refl)
from_four (suc zero) a b d e = absurd (b refl)
from_four (suc (suc zero)) a b d e = absurd (d refl)
from_four (suc (suc (suc zero))) a b d e = absurd (e refl)
from_four (suc (suc (suc (suc c)))) a b d e = omega arith
