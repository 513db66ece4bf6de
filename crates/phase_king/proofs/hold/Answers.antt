-- `phase_king::hold` meets its contract.
use Rattle.std.proofs.Common.{ap₂, List, ℕ, ◌+◌, rules}
use Rattle.phase_king.specs.declared.Held.{Held}
use Rattle.phase_king.specs.Bit.{held, weak}
use Rattle.phase_king.specs.Matrix.{said, held_of, weak_of}
use Rattle.phase_king.proofs.Steps.{is_matrix}
use Rattle.phase_king.proofs.hold.Goals as goal

kept : List ℕ → List ℕ → Held
kept m w = record { rows = m; weak = w }

pub returns : goal.returns
unfolding kept held_of weak_of
returns c =
    let a = c.args in
    ap₂ kept
    (is_matrix _ (λ b l n r j. held n a.t (said b l n (n + r) j)) a.n _ c.new-inbox.ensures c.matrix_of-rows.ensures (λ r x l e. search rules))
    (is_matrix _ (λ b l n r j. weak n a.t (said b l n r j) (said b l n (n + r) j)) a.n _ c.new-inbox.ensures c.matrix_of-weak.ensures
    (λ r x l e. search rules))
