-- `state_bytes::put` meets its contract.
use mathlib.Core.Path.{ap, ◌∙◌}
use lib.ListN.{length, take}
use native.Mathlib.Omega.{arith}
use Rattle.state_bytes.proofs.Digits.{take_le_bytes}
use Rattle.state_bytes.proofs.put.Goals as goal

pub returns : goal.returns
returns c =
    let n = length c.args.bytes.now in
    c.copy_from_slice.ensures.after ∙ ap (take n) c.to_le_bytes.ensures ∙ take_le_bytes n c.args.x (omega (arith, c.requires))
