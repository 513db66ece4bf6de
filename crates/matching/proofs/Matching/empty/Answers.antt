-- `Matching::empty` meets its contract.
use mathlib.Core.Path.{refl}
use Rattle.matching.specs.Answer.{stored, slots}
use Rattle.matching.proofs.Matching.empty.Goals as goal

pub returns : goal.returns
unfolding stored slots
returns c = refl
