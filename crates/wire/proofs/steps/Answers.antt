-- `wire::steps` meets its contract.
use Rattle.std.proofs.Common.{arith, inl, inr}
use Rattle.settings.proofs.Laws.{yes_outside, no_outside}
use Rattle.wire.proofs.steps.Goals as goal

pub returns-in-1-to-5 : goal.returns-in-1-to-5
returns-in-1-to-5 c = rw (no_outside 1 5 c.args.t (omega arith) (omega arith))

pub returns-in_default : goal.returns-in_default
returns-in_default c = rw (yes_outside 1 5 c.args.t (inl (omega arith)))

pub returns-in_default-2 : goal.returns-in_default-2
returns-in_default-2 c = rw (yes_outside 1 5 c.args.t (inr (omega arith)))
