-- `phase_king::zeros_row` meets its contract.
use Rattle.std.proofs.Common.{◌≡◌, ◌∙◌, rules}
use Rattle.phase_king.specs.Bit.{zero_seen}
use Rattle.phase_king.specs.Matrix.{cell, said}
use Rattle.phase_king.proofs.Steps.{zero_heard}
use Rattle.phase_king.proofs.zeros_row.Goals as goal

pub returns : goal.returns
returns c =
    let a = c.args in
    let s = a.inbox.now in
    c.row_of.ensures (λ j. zero_seen s.n a.t (said s.slots.now s.layout s.n a.r j))
    (λ j b l e.
    let told : b ≡ zero_seen s.n a.t (λ i. cell c.rows-said.result i j) = search rules in
    told ∙ zero_heard _ _ _ _ _ a.t j s.few c.rows-said.ensures)
