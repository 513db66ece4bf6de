-- `mark_values` meets its contract.
use mathlib.Core.Path.{ap, ◌∙◌}
use mathlib.Core.List.{List}
use Prim.Native.Nat.{ℕ}
use Rattle.reed_solomon.specs.Steps.{unequal, different}
use Rattle.reed_solomon.proofs.settling.mark_values.Goals as goal

pub returns : goal.returns
unfolding different
returns c = c.mark_unequal.ensures ∙ ap (λ (v : List ℕ). unequal v c.args.ys.now) c.values.ensures
