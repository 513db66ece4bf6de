-- `bitset::member` meets its contract: the digit by a shift and a remainder; no digit from 16 on.
use native.Mathlib.Omega.{arith}
use borrow.Author.Tests.{le-ltb}
use Rattle.bitset.proofs.Sets.{member_over}
use Rattle.bitset.specs.Set.{member}
use mathlib.Core.Path.{sym, refl, ◌∙◌}
use Rattle.bitset.proofs.member.Goals as goal

pub returns-then-i-lt16 : goal.returns-then-i-lt16
unfolding member
returns-then-i-lt16 c = refl

pub returns-else-i-lt16 : goal.returns-else-i-lt16
returns-else-i-lt16 c = le-ltb c.args.i 16 c.if-i-lt16.false ∙ sym (member_over 16 c.args.s c.args.i (omega arith) c.if-i-lt16.false)
