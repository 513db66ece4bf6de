-- `graph::with_bit` meets its contract.
use Rattle.graph.proofs.Making.{byte_with, byte_same}
use native.Mathlib.Omega.{arith}
use mathlib.Core.Path.{◌∙◌}
use Rattle.graph.proofs.with_bit.Goals as goal

pub returns-then-yes : goal.returns-then-yes
returns-then-yes c = rw c.if-yes.true (c.low.ensures ∙ byte_with c.args.s c.args.k _ (c.insert.ensures ∙ rw c.from.ensures))

pub returns-else-yes : goal.returns-else-yes
returns-else-yes c = rw c.if-yes.false (byte_same c.args.s c.args.k (omega arith))
