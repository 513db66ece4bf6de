-- `phase_king::collect` meets its contract.
use Rattle.std.proofs.Common.{ap, List, ℕ}
use Rattle.phase_king.specs.declared.Matrix.{Matrix}
use Rattle.phase_king.proofs.Steps.{is_collected}
use Rattle.phase_king.proofs.collect.Goals as goal

matrix : List ℕ → Matrix
matrix l = record { rows = l }

pub returns : goal.returns
unfolding matrix
returns c = ap matrix (is_collected c.args.n _ c.new.ensures c.rows-rows.ensures)
