-- `phase_king::settled_row` meets its contract.
use Rattle.std.proofs.Common.{◌≡◌, ◌∙◌, ap, Bool, rules}
use Rattle.bitset.specs.Set.{member}
use Rattle.phase_king.specs.Bit.{settled}
use Rattle.phase_king.specs.Matrix.{king_says}
use Rattle.phase_king.proofs.Steps.{king_heard}
use Rattle.phase_king.proofs.settled_row.Goals as goal

pub returns : goal.returns
returns c =
    let a = c.args in
    let s = a.inbox.now in
    c.row_of.ensures (λ j. settled (member a.held j) (member a.weak j) (king_says s.slots.now s.layout s.n a.king a.r j))
    (λ j b l e.
    let told : b ≡ settled (member a.held j) (member a.weak j) (member c.king_row-says.result j) = search rules in
    told ∙ ap (λ (k : Bool). settled (member a.held j) (member a.weak j) k) (king_heard _ _ _ _ _ _ j c.king_row-says.ensures))
