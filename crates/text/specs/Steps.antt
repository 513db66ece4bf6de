-- For the contracts of private functions; a reader of the public contracts needs none of it.
--   headed f         f is not empty, and starts with no zero unless it is one byte long
--   capped high x f  the number that the digits f say after x; none where it is above high, or where f is not all digits
--   placed at s out  out with s at the place `at`, where it has room
use Rattle.std.specs.Prelude.{Bool, false, cond, not, ◌&&◌, ◌||◌, Option, Some, None, List, [], ◌∷◌, ◌++◌, ℕ, ◌+◌, eqb, leb, length, take, drop}
use Rattle.text.specs.Read.{every, is_digit, value_from}

unfoldable pub headed : List ℕ → Bool
headed [] = false
headed (d ∷ f) = not (eqb d 0x30) || eqb (length f) 0

unfoldable pub capped : (high x : ℕ) → List ℕ → Option ℕ
capped high x f = cond (every is_digit f && leb (value_from x f) high) (Some (value_from x f)) None

unfoldable pub placed : ℕ → List ℕ → List ℕ → List ℕ
placed at s out = take at out ++ (s ++ drop (at + length s) out)
