-- Laws of lists of zeros. The main ones: `take-zeros` and `drop-zeros`, a front and what is behind it.
use mathlib.Core.Path.{◌≡◌, sym, ap, ◌∙◌}
use mathlib.Core.List.{◌++◌}
use Prim.Native.Nat.{ℕ, ◌+◌, ◌-◌, ◌≤◌}
use lib.ListN.{length, take, drop, replicate, length-replicate, replicate-append-replicate}
use Rattle.std.proofs.lemmas.List.{take-replicate, drop-replicate}

pub length-zeros : (n : ℕ) → length {A = ℕ} (replicate n 0) ≡ n
length-zeros n = length-replicate n 0

pub take-zeros : (n w : ℕ) → w ≤ n → take {A = ℕ} w (replicate n 0) ≡ replicate w 0
take-zeros n w h = take-replicate w n 0 h

pub length_front : (n w : ℕ) → w ≤ n → length {A = ℕ} (take w (replicate n 0)) ≡ w
length_front n w h = ap length (take-zeros n w h) ∙ length-zeros w

pub drop-zeros : (k n : ℕ) → drop {A = ℕ} k (replicate n 0) ≡ replicate (n - k) 0
drop-zeros k n = drop-replicate k n 0

pub zeros_split : (w m : ℕ) → replicate {A = ℕ} (w + m) 0 ≡ replicate w 0 ++ replicate m 0
zeros_split w m = sym (replicate-append-replicate w m 0)
