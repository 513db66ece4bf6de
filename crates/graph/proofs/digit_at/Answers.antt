-- `graph::digit_at` meets its contract.
use Rattle.graph.proofs.Bits.{digit_is}
use Rattle.graph.proofs.digit_at.Goals as goal

pub returns : goal.returns
returns c = digit_is _ _ _ c.from.ensures
