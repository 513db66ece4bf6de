-- `star_of_pairs` meets its contract: the star of the bits that were copied.
use Rattle.std.proofs.Common.{arith}
use Rattle.std.proofs.lemmas.Grind.{common_steps}
use Rattle.star.proofs.Laws.{star_of-pairs, no_sets_number}
use Rattle.boards.specs.Boards.{star_returned, pair_star_bytes}
use Rattle.boards.proofs.code.star_of_pairs.Goals as goal

pub returns-in_err-found : goal.returns-in_err-found
unfolding pair_star_bytes star_returned
returns-in_err-found c = grind (arith, common_steps, star_of-pairs, no_sets_number)

pub returns : goal.returns
unfolding pair_star_bytes star_returned
returns c = grind (arith, common_steps, star_of-pairs)
