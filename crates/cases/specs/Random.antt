-- Random numbers, and digests by the same generator; run numbers, and others that differ from one in one byte.
--   next_random x   x times 1664525 plus 1013904223, modulo 2 to the 32
--   mixed x y       next of the sum, modulo 2 to the 64
--   seeded a b c d  a mixed with b, c and d, one after the other
--   drawn a b c d   the upper 16 bits of that
--   digested d s    d mixed with the elements of s, one after the other
--   some_run x      the run number for the remainder of x by 4: 0, 1, 256, 65535
--   other_run x c   x with the lowest bit of one byte changed: of the low byte for an even c, else of the high one
use Rattle.std.specs.Prelude.{ℕ, ◌+◌, ◌*◌, ◌/◌, ◌%◌, ◌^◌, cond, List, [], ◌∷◌, ◌==◌, bit_xor, slice_index}

unfoldable pub next_random : ℕ → ℕ
next_random x = (x % 4294967296 * 1664525 + 1013904223) % 4294967296

unfoldable pub mixed : ℕ → ℕ → ℕ
mixed x y = next_random ((x + y) % 2 ^ 64)

abbrev pub seeded : ℕ → ℕ → ℕ → ℕ → ℕ
seeded a b c d = mixed (mixed (mixed a b) c) d

abbrev pub drawn : ℕ → ℕ → ℕ → ℕ → ℕ
drawn a b c d = seeded a b c d / 65536

unfoldable pub digested : ℕ → List ℕ → ℕ
digested d [] = d
digested d (x ∷ s) = digested (mixed d x) s

unfoldable pub some_run : ℕ → ℕ
some_run x = slice_index (0 ∷ 1 ∷ 256 ∷ 65535 ∷ []) (x % 4)

unfoldable pub other_run : ℕ → ℕ → ℕ
other_run x c = cond (c % 2 == 0) (bit_xor x 1) (bit_xor x 256)
