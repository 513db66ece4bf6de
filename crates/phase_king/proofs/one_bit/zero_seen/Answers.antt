-- `phase_king::one_bit::zero_seen` meets its contract: those who don't say 1 say 0.
use Rattle.std.proofs.Common.{ap₂, ◌∙◌}
use lib.Dec.{leb}
use Rattle.phase_king.proofs.Steps.{zero_seen_is}
use Rattle.phase_king.proofs.one_bit.zero_seen.Goals as goal

pub returns : goal.returns
returns c = ap₂ leb c.saturating_sub.ensures c.saturating_sub-2.ensures ∙ zero_seen_is _ c.args.t _ _ c.count_bit.ensures
