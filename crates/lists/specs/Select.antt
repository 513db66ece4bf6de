-- The numbers from 1 on that pass a test.
--   selected p n  those of 1 .. n, in rising order
--   Rising n l    the elements of l are of 1 .. n, and rise
use Rattle.std.specs.Prelude.{Bool, cond, List, [], ◌∷◌, ◌++◌, ℕ, zero, suc, ◌+◌, ◌≤◌, ◌<◌, length, get_or}

unfoldable pub selected : (ℕ → Bool) → ℕ → List ℕ
selected p zero = []
selected p (suc n) = selected p n ++ cond (p (n + 1)) ((n + 1) ∷ []) []

pub record Rising (n : ℕ) (l : List ℕ) : Type 0 where
  pub least : (i : ℕ) → i < length l → 1 ≤ get_or l i 0
  pub most : (i : ℕ) → i < length l → get_or l i 0 ≤ n
  pub order : (i j : ℕ) → i < j → j < length l → get_or l i 0 < get_or l j 0
