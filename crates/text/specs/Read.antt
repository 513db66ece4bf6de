-- Fields of lines, decimal numbers and lower-case hexadecimal bytes, as they are read (document 01, 'The house program': numbers have no
-- leading zero, bytes are lower case, every line ends in a newline).
--   newline, comma          the byte that ends a line, and the one between two fields
--   before c l              the bytes of l before its first c; all of l where it has none
--   behind c l              the bytes of l behind its first c; none where it has none
--   every p l               each byte of l passes the test p
--   is_digit b, digit_of b  a decimal digit, and its value
--   is_number f             decimal digits, at least one, and no leading zero
--   value_from x f          the number that the digits of x and then the digits f say
--   value_of f              the number that decimal digits say
--   number_in low high f    f is a number from low to high
--   number_read low high f  that number; none where f is no such number
--   is_hex b, hex_of b      a lower-case hexadecimal digit, and its value; 0 for any other byte
--   is_bytes len f          exactly len bytes, each two lower-case hexadecimal digits
--   bytes_of f              the bytes that hexadecimal digits say, two digits a byte, the high one first
use Rattle.std.specs.Prelude.{Bool, true, false, cond, not, ◌&&◌, ◌||◌, Option, Some, None, List, [], ◌∷◌, ℕ, ◌+◌, ◌-◌, ◌*◌, eqb, leb, length, drop}

abbrev pub newline : ℕ
newline = 0x0a

abbrev pub comma : ℕ
comma = 0x2c

unfoldable pub before : ℕ → List ℕ → List ℕ
before c [] = []
before c (x ∷ l) = cond (eqb x c) [] (x ∷ before c l)

unfoldable pub behind : ℕ → List ℕ → List ℕ
behind c l = drop (length (before c l) + 1) l

unfoldable pub every : (ℕ → Bool) → List ℕ → Bool
every p [] = true
every p (x ∷ l) = p x && every p l

unfoldable pub is_digit : ℕ → Bool
is_digit b = leb 0x30 b && leb b 0x39

unfoldable pub digit_of : ℕ → ℕ
digit_of b = b - 0x30

unfoldable pub is_number : List ℕ → Bool
is_number [] = false
is_number (d ∷ f) = every is_digit (d ∷ f) && (not (eqb d 0x30) || eqb (length f) 0)

unfoldable pub value_from : ℕ → List ℕ → ℕ
value_from x [] = x
value_from x (d ∷ f) = value_from (x * 10 + digit_of d) f

unfoldable pub value_of : List ℕ → ℕ
value_of f = value_from 0 f

unfoldable pub number_in : (low high : ℕ) → List ℕ → Bool
number_in low high f = is_number f && (leb low (value_of f) && leb (value_of f) high)

unfoldable pub number_read : (low high : ℕ) → List ℕ → Option ℕ
number_read low high f = cond (number_in low high f) (Some (value_of f)) None

unfoldable pub is_hex : ℕ → Bool
is_hex b = is_digit b || (leb 0x61 b && leb b 0x66)

unfoldable pub hex_of : ℕ → ℕ
hex_of b = cond (is_digit b) (digit_of b) (cond (is_hex b) (b - 0x57) 0)

unfoldable pub is_bytes : ℕ → List ℕ → Bool
is_bytes len f = eqb (length f) (2 * len) && every is_hex f

unfoldable pub bytes_of : List ℕ → List ℕ
bytes_of [] = []
bytes_of (a ∷ []) = []
bytes_of (a ∷ (b ∷ f)) = (hex_of a * 16 + hex_of b) ∷ bytes_of f
