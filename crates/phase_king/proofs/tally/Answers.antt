-- `phase_king::tally` meets its contract.
use Rattle.std.proofs.Common.{ap₂, List, ℕ, rules}
use Rattle.phase_king.specs.declared.Seen.{Seen}
use Rattle.phase_king.specs.Bit.{zero_seen, one_seen}
use Rattle.phase_king.specs.Matrix.{said, zeros_of, ones_of}
use Rattle.phase_king.proofs.Steps.{is_matrix}
use Rattle.phase_king.proofs.tally.Goals as goal

seen : List ℕ → List ℕ → Seen
seen z o = record { zeros = z; ones = o }

pub returns : goal.returns
unfolding seen zeros_of ones_of
returns c =
    let a = c.args in
    ap₂ seen
    (is_matrix _ (λ b l n r j. zero_seen n a.t (said b l n r j)) a.n _ c.new-inbox.ensures c.matrix_of-zeros.ensures (λ r x l e. search rules))
    (is_matrix _ (λ b l n r j. one_seen n a.t (said b l n r j)) a.n _ c.new-inbox.ensures c.matrix_of-ones.ensures (λ r x l e. search rules))
