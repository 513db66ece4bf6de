-- `writer::write_digits` meets its contract: the digits of the rest y, which has at + 1 places, and what is written behind them, are those of x.
use Rattle.std.proofs.Common.{◌≡◌, ◌++◌, ◌+◌, ◌^◌, ◌≤◌, ◌<◌, length, drop}
use Rattle.text.specs.Write.{digits, decimal}
use Rattle.text.proofs.writer.write_digits.Given as goal

abbrev pub invariant-loop-y : goal.invariant-loop-y
invariant-loop-y l = (l.at ≤ 19) × (l.y < 10 ^ (l.at + 1)) × (length l.b ≡ 20) × (digits (l.at + 1) l.y ++ drop (l.at + 1) l.b ≡ decimal l.x)

abbrev pub decreases-loop-y : goal.decreases-loop-y
decreases-loop-y l = l.y
