-- `update` meets its contract. The invariant: the elements before i are what f says.
use mathlib.Core.Path.{◌≡◌}
use Prim.Native.Nat.{ℕ, ◌<◌}
use lib.ListN.{get_or}
use Rattle.lists.specs.Fill.{filled}
use Rattle.gf256.proofs.update.Given as goal

abbrev pub invariant-loop-i : goal.invariant-loop-i
invariant-loop-i g l =
    (h : ℕ → ℕ → ℕ) → ((x y r : ℕ) → x < 256 → y < 256 → goal.F-post g l.f x y r → r ≡ h x y)
    → l.p ≡ filled (λ j. h (get_or l.initial.p j 0) (get_or l.q j 0)) l.i l.initial.p
