-- `bad` meets its contract.
use native.Mathlib.Omega.{arith}
use Rattle.simulator.proofs.Writing.{zeros-room, zeros_wrote}
use Rattle.simulator.proofs.lines.bad.Goals as goal

pub write_bad-length-requires : goal.write_bad-length-requires
write_bad-length-requires c = zeros-room 6400 25 (omega arith)

pub returns : goal.returns
returns c = zeros_wrote 6400 c.write_bad-length.ensures
