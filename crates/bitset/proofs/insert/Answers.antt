-- `bitset::insert` meets its contract: the union with the set of i.
use Rattle.bitset.proofs.Operations.{union_single}
use mathlib.Core.Path.{◌∙◌}
use Rattle.bitset.proofs.insert.Goals as goal

pub returns : goal.returns
returns c = c.union.ensures ∙ rw c.single.ensures (union_single c.args.s c.args.i)
