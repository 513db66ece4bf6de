-- `phase_king::one_bit::weak_bit` meets its contract.
use Rattle.std.proofs.Common.{sym, ap₂, ◌∙◌}
use lib.Dec.{ltb}
use Rattle.lists.proofs.Tests.{cond_yes, cond_no}
use Rattle.phase_king.specs.Bit.{weak, support}
use Rattle.phase_king.proofs.one_bit.weak_bit.Goals as goal

pub returns-then-held_bit : goal.returns-then-held_bit
unfolding weak support
returns-then-held_bit c =
    ap₂ ltb (c.count_bit.ensures ∙ sym (cond_yes _ _ _ (sym c.held_bit.ensures ∙ c.if-held_bit.true))) c.saturating_sub-quorum.ensures

pub returns-else-held_bit : goal.returns-else-held_bit
unfolding weak support
returns-else-held_bit c =
    ap₂ ltb (c.count_bit-else-held_bit.ensures ∙ sym (cond_no _ _ _ (sym c.held_bit.ensures ∙ c.if-held_bit.false))) c.saturating_sub-quorum.ensures
