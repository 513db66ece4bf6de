-- `phase_king::weak_row` meets its contract.
use Rattle.std.proofs.Common.{◌≡◌, ◌+◌, ◌∙◌, rules}
use Rattle.phase_king.specs.Bit.{weak}
use Rattle.phase_king.specs.Matrix.{cell, said}
use Rattle.phase_king.proofs.Steps.{weak_heard}
use Rattle.phase_king.proofs.weak_row.Goals as goal

pub returns : goal.returns
returns c =
    let a = c.args in
    let s = a.inbox.now in
    c.row_of.ensures (λ j. weak s.n a.t (said s.slots.now s.layout s.n a.r j) (said s.slots.now s.layout s.n (s.n + a.r) j))
    (λ j b l e.
    let told : b ≡ weak s.n a.t (λ i. cell c.rows-zeros.result i j) (λ i. cell c.rows-ones.result i j) = search rules in
    told ∙ weak_heard _ _ _ _ _ _ _ a.t j s.few c.rows-zeros.ensures c.rows-ones.ensures)
