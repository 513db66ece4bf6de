-- `mark_unequal` meets its contract.
use Rattle.std.proofs.Common.{ℕ, Bool, ◌∙◌, not, eqb, ap, get_or, rules}
use Rattle.std.proofs.Math.Nat.{min-eq_left}
use Rattle.bitset.specs.Set.{set_of}
use Rattle.reed_solomon.specs.Steps.{unequal}
use Rattle.reed_solomon.proofs.settling.mark_unequal.Goals as goal

pub returns : goal.returns
unfolding unequal
returns c =
    let a = c.args in
    let differ : ℕ → Bool = λ i. not (eqb (get_or a.a.now i 0) (get_or a.b.now i 0)) in
    c.select.ensures differ (λ i b l h. search rules) ∙ ap (λ (n : ℕ). set_of n differ) (min-eq_left c.requires.1)
