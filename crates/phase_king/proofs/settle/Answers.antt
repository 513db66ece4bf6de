-- `phase_king::settle` meets its contract.
use Rattle.std.proofs.Common.{ap, List, ℕ, rules}
use Rattle.phase_king.specs.declared.Matrix.{Matrix}
use Rattle.phase_king.specs.Bit.{settled}
use Rattle.phase_king.specs.Matrix.{cell, king_says, settled_of}
use Rattle.phase_king.proofs.Steps.{is_matrix}
use Rattle.phase_king.proofs.settle.Goals as goal

matrix : List ℕ → Matrix
matrix l = record { rows = l }

pub returns : goal.returns
unfolding matrix settled_of
returns c =
    let a = c.args in
    ap matrix
    (is_matrix _ (λ b l n r j. settled (cell a.rows.now r j) (cell a.weak.now r j) (king_says b l n a.king r j)) a.n _ c.new-inbox.ensures
    c.matrix_of-settled.ensures (λ r x l e. search rules))
