-- `phase_king::held_row` meets its contract.
use Rattle.std.proofs.Common.{◌≡◌, ◌+◌, ◌∙◌, rules}
use Rattle.phase_king.specs.Bit.{held}
use Rattle.phase_king.specs.Matrix.{cell, said}
use Rattle.phase_king.proofs.Steps.{held_heard}
use Rattle.phase_king.proofs.held_row.Goals as goal

pub returns : goal.returns
returns c =
    let a = c.args in
    let s = a.inbox.now in
    c.row_of.ensures (λ j. held s.n a.t (said s.slots.now s.layout s.n (s.n + a.r) j))
    (λ j b l e.
    let told : b ≡ held s.n a.t (λ i. cell c.rows-ones.result i j) = search rules in
    told ∙ held_heard _ _ _ _ _ a.t j s.few c.rows-ones.ensures)
