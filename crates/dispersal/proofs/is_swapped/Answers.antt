-- `is_swapped` meets its contract.
use Rattle.dispersal.proofs.Steps.{short_message}
use Rattle.lists.specs.Same.{same}
use Rattle.lists.proofs.Parts.{part_rest}
use Rattle.lists.proofs.Tests.{and_no_left}
use lib.ListN.{take}
use mathlib.Core.Path.{sym, ap, ◌∙◌}
use Rattle.dispersal.proofs.is_swapped.Goals.{then-k-message, else-k-message}
use Rattle.dispersal.proofs.is_swapped.Goals as goal

pub returns-else-is_equal : goal.returns-else-is_equal
returns-else-is_equal c =
    let a = c.args in
    elim c.if-k-message.branch [
      | then-k-message w ↦ c.if-is_equal.false ∙ sym (and_no_left _ _ (sym (w.is_equal.ensures ∙ ap (same (take a.k a.message.now)) (part_rest a.k a.m.now))
          ∙ sym w.value-is ∙ c.if-is_equal.false))
      | else-k-message w ↦ c.if-is_equal.false ∙ sym (and_no_left _ _ (short_message a.k a.message.now a.m.now w.if-k-message.false c.requires))
    ]
