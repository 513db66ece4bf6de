-- Decimal numbers and lower-case hexadecimal bytes as they are written, and a buffer that text is appended to.
--   digit_byte d, hex_byte d  the byte of a decimal digit, and of a hexadecimal one
--   digits m x                the last m decimal digits of x, at most, with no leading zero
--   decimal x                 x in decimal digits with no leading zero; no number of 64 bits has more than 20
--   hexadecimal l             the bytes l, two lower-case hexadecimal digits each, the high one first
--   fits at s out             out has room for s at the place `at`
--   appended at s out         out with s at the place `at`; as it is where it has no room
--   end_of at s out           the place after s; `at` where out has no room
--   padded m s                s, and then zeros up to m bytes
use Rattle.std.specs.Prelude.{Bool, cond, List, [], ◌∷◌, ◌++◌, ℕ, zero, suc, ◌+◌, ◌-◌, ◌/◌, ◌%◌, leb, ltb, length, take, drop, replicate}

abbrev pub digit_byte : ℕ → ℕ
digit_byte d = 0x30 + d

unfoldable pub hex_byte : ℕ → ℕ
hex_byte d = cond (ltb d 10) (0x30 + d) (0x57 + d)

unfoldable pub digits : ℕ → ℕ → List ℕ
digits zero x = []
digits (suc m) x = cond (ltb x 10) (digit_byte x ∷ []) (digits m (x / 10) ++ (digit_byte (x % 10) ∷ []))

unfoldable pub decimal : ℕ → List ℕ
decimal x = digits 20 x

unfoldable pub hexadecimal : List ℕ → List ℕ
hexadecimal [] = []
hexadecimal (b ∷ l) = hex_byte (b / 16) ∷ (hex_byte (b % 16) ∷ hexadecimal l)

unfoldable pub fits : ℕ → List ℕ → List ℕ → Bool
fits at s out = leb (at + length s) (length out)

unfoldable pub appended : ℕ → List ℕ → List ℕ → List ℕ
appended at s out = cond (fits at s out) (take at out ++ (s ++ drop (at + length s) out)) out

unfoldable pub end_of : ℕ → List ℕ → List ℕ → ℕ
end_of at s out = cond (fits at s out) (at + length s) at

unfoldable pub padded : ℕ → List ℕ → List ℕ
padded m s = s ++ replicate (m - length s) 0
