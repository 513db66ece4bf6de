-- `state_bytes::width` meets its contract: the table is the list of the widths.
use Rattle.state_bytes.specs.State.{width_of}
use mathlib.Core.Path.{refl}
use Rattle.state_bytes.proofs.width.Goals as goal

pub returns : goal.returns
unfolding width_of
returns c = refl
