-- Lists of zeros as polynomials: those at the start, and the length that a list keeps from one.
use mathlib.Core.Path.{◌≡◌, ap, ◌∙◌}
use mathlib.Core.List.{List, ◌∷◌}
use Prim.Native.Nat.{ℕ, zero, suc, ◌-◌, ◌<◌}
use native.Mathlib.Omega.{arith}
use lib.ListN.{length, set, replicate, length-replicate}
use Rattle.interpolation.specs.Interpolation.{constant}

pub set-constant : (w c : ℕ) → 0 < w → set (replicate w 0) 0 c ≡ constant w c
set-constant zero c h = absurd (omega arith)
set-constant (suc w) c h = let e : w ≡ suc w - 1 = omega arith in ap (λ n. c ∷ replicate n 0) e

pub zeros-constant : (w : ℕ) → 0 < w → replicate w 0 ≡ constant w 0
zeros-constant zero h = absurd (omega arith)
zeros-constant (suc w) h = let e : w ≡ suc w - 1 = omega arith in ap (λ n. 0 ∷ replicate n 0) e

pub length-kept : (w : ℕ) (x z : List ℕ) → length x ≡ length z → z ≡ replicate w 0 → length x ≡ w
length-kept w x z kept zeros = kept ∙ ap length zeros ∙ length-replicate w 0
