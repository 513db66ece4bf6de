-- `bitset::single` meets its contract: a shift of 1 below the width loses nothing.
use mathlib.Core.Path.{sym, ◌∙◌}
use native.Mathlib.Omega.{arith}
use native.Mathlib.Nat.{one-mul}
use lib.Dec.{lit<}
use lib.Pow.{shl_exact}
use Rattle.bitset.proofs.Operations.{single_is, single_over}
use Rattle.bitset.proofs.single.Goals as goal

pub returns-then-i-lt16 : goal.returns-then-i-lt16
returns-then-i-lt16 c = shl_exact 1 c.args.i 16 (lit< tt) (omega arith) ∙ one-mul _ ∙ sym (single_is c.args.i c.if-i-lt16.true)

pub returns-else-i-lt16 : goal.returns-else-i-lt16
returns-else-i-lt16 c = sym (single_over c.args.i c.if-i-lt16.false)
