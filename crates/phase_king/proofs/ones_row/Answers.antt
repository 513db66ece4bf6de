-- `phase_king::ones_row` meets its contract.
use Rattle.std.proofs.Common.{◌≡◌, ◌∙◌, rules}
use Rattle.phase_king.specs.Bit.{one_seen}
use Rattle.phase_king.specs.Matrix.{cell, said}
use Rattle.phase_king.proofs.Steps.{one_heard}
use Rattle.phase_king.proofs.ones_row.Goals as goal

pub returns : goal.returns
returns c =
    let a = c.args in
    let s = a.inbox.now in
    c.row_of.ensures (λ j. one_seen s.n a.t (said s.slots.now s.layout s.n a.r j))
    (λ j b l e.
    let told : b ≡ one_seen s.n a.t (λ i. cell c.rows-said.result i j) = search rules in
    told ∙ one_heard _ _ _ _ _ a.t j s.few c.rows-said.ensures)
