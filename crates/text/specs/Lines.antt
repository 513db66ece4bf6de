-- Lines of a text and fields of a line (document 01, 'The house program': a line of names, lines of values, every line ends in a newline).
--   line_at input a         the line that starts at byte a, without its newline; empty past the end
--   is_ended input a        that line ends in a newline
--   next_at input a         where the line after it starts
--   is_names names input a  the line at a has these names, and ends in a newline
--   named_at names input a  where the line after it starts, where it does
--   rest i l, field i l     what follows the first i commas of the line l, and the field there
--   in_range rs l i         field i of the line l is a number in range i; rs has the lowest and the highest number of each range in turn
--   in_ranges rs l n        each of the first n fields is
--   is_numbers rs l         there are four ranges at most, and the first fields are numbers in them
--   numbers_in rs l         the values of these fields, with zeros up to four, and where what follows these fields starts
--   numbers_of rs l         these, or none where this test fails
use Rattle.std.specs.Prelude.{Bool, true, cond, ◌&&◌, Option, Some, None, List, ℕ, zero, suc, ◌+◌, ◌-◌, ◌*◌, ◌/◌, leb, ltb, length, get_or, drop, replicate}
use Rattle.lists.specs.Fill.{filled}
use Rattle.lists.specs.Same.{same}
use Rattle.text.specs.Read.{newline, comma, before, behind, value_of, number_in}
use Rattle.text.specs.declared.lines.Numbers.{Numbers}

unfoldable pub line_at : List ℕ → ℕ → List ℕ
line_at input a = before newline (drop a input)

unfoldable pub is_ended : List ℕ → ℕ → Bool
is_ended input a = ltb (a + length (line_at input a)) (length input)

unfoldable pub next_at : List ℕ → ℕ → ℕ
next_at input a = a + length (line_at input a) + 1

unfoldable pub is_names : List ℕ → List ℕ → ℕ → Bool
is_names names input a = is_ended input a && same (line_at input a) names

unfoldable pub named_at : List ℕ → List ℕ → ℕ → Option ℕ
named_at names input a = cond (is_names names input a) (Some (next_at input a)) None

unfoldable pub rest : ℕ → List ℕ → List ℕ
rest zero l = l
rest (suc i) l = rest i (behind comma l)

unfoldable pub field : ℕ → List ℕ → List ℕ
field i l = before comma (rest i l)

abbrev pub in_range : List ℕ → List ℕ → ℕ → Bool
in_range rs l i = number_in (get_or rs (2 * i) 0) (get_or rs (2 * i + 1) 0) (field i l)

unfoldable pub in_ranges : List ℕ → List ℕ → ℕ → Bool
in_ranges rs l zero = true
in_ranges rs l (suc n) = in_ranges rs l n && in_range rs l n

unfoldable pub is_numbers : List ℕ → List ℕ → Bool
is_numbers rs l = leb (length rs / 2) 4 && in_ranges rs l (length rs / 2)

abbrev pub numbers_in : List ℕ → List ℕ → Numbers
numbers_in rs l = record {
  values = filled (λ i. value_of (field i l)) (length rs / 2) (replicate 4 0);
  end = length l - length (rest (length rs / 2) l);
}

unfoldable pub numbers_of : List ℕ → List ℕ → Option Numbers
numbers_of rs l = cond (is_numbers rs l) (Some (numbers_in rs l)) None
