-- `offset` meets its contract.
use Rattle.state_bytes.proofs.Fields.{width_le, offset_none, offset_more, offset_le}
use native.Mathlib.Omega.{arith}
use mathlib.Core.Path.{sym}
use Rattle.state_bytes.proofs.offset.Goals as goal

pub loop-j-init : goal.loop-j-init
loop-j-init c = sym offset_none

pub overflow_add-a : goal.overflow_add-a
overflow_add-a c =
    let j = c.loop-j.j in
    omega (arith, c.width-a.ensures, offset_le j, width_le j)

pub loop-j-preserved : goal.loop-j-preserved
loop-j-preserved c = omega (arith, c.width-a.ensures, offset_more c.loop-j.j)
