-- `log` meets its contract. The table's rule: it is the list of the places of 0, .., 255 among the powers of 02, which antt computes, and
-- `get_or-tabulate` says what stands at each place of that list.
use borrow.Author.Rules.{rules}
use Rattle.lists.specs.Fill.{tabulate}
use Rattle.lists.proofs.Fills.{get_or-tabulate}
use Rattle.gf256.specs.Field.{gmul, orbit, index_of, glog}
use Rattle.gf256.proofs.log.Goals as goal

pub returns : goal.returns
unfolding gmul orbit index_of glog tabulate
returns c = get_or-tabulate (index_of (orbit 255 1) 0) 256 c.args.a 0 (search rules)
