-- `graph::missing_digit` meets its contract: the bit of the pair, the smaller index first; 0 for oneself.
use Rattle.graph.proofs.Bits.{digit_pair, digit_same}
use native.Mathlib.Omega.{arith}
use mathlib.Core.Path.{◌∙◌}
use Rattle.graph.proofs.missing_digit.Goals as goal

pub returns-then-i-j : goal.returns-then-i-j
returns-then-i-j c = digit_same c.args.bits c.args.i c.args.j c.if-i-j.true

pub returns-else-i-j : goal.returns-else-i-j
returns-else-i-j c =
    c.digit_at.ensures ∙ rw (c.place.ensures.0, c.min.ensures, c.max.ensures) (digit_pair c.args.bits c.args.i c.args.j c.if-i-j.false (omega arith))
