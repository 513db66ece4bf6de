-- `bitset::remove` meets its contract: the difference with the set of i.
use Rattle.bitset.proofs.Operations.{difference_single}
use mathlib.Core.Path.{◌∙◌}
use Rattle.bitset.proofs.remove.Goals as goal

pub returns : goal.returns
returns c = c.difference.ensures ∙ rw c.single.ensures (difference_single c.args.s c.args.i)
