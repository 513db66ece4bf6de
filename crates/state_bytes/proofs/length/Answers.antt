-- `state_bytes::length` meets its contract: the number is the sum of the widths.
use mathlib.Core.Path.{sym}
use Rattle.state_bytes.proofs.Fields.{state_length_is}
use Rattle.state_bytes.proofs.length.Goals as goal

pub returns : goal.returns
returns c = sym state_length_is
