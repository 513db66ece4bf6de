-- `star::find` meets its contract: the star of the bits of the rows is the star of the rows.
use Rattle.star.proofs.Same.{bits_star}
use Rattle.star.proofs.find.Goals as goal

pub returns : goal.returns
returns c =
    let A = c.args in
    bits_star A.rows.now A.n A.t _ _ c.bits_of.ensures c.of_bits.ensures
