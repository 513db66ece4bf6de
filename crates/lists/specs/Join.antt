-- Lists joined from parts of one width.
--   joined f n  f 0 ++ .. ++ f (n - 1)
--   part w l i  part i of l, counted from 0, where each has w elements
use Rattle.std.specs.Prelude.{List, [], ◌++◌, ℕ, zero, suc, ◌*◌, take, drop}

unfoldable pub joined : (ℕ → List ℕ) → ℕ → List ℕ
joined f zero = []
joined f (suc n) = joined f n ++ f n

unfoldable pub part : ℕ → List ℕ → ℕ → List ℕ
part w l i = take w (drop (i * w) l)
