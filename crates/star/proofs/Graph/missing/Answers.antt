-- `Graph::missing` meets its contract.
use Rattle.graph.specs.Bits.{adjacent}
use Rattle.matching.proofs.Laws.{complement_row}
use lib.ListN.{get_or}
use mathlib.Core.List.{List}
use mathlib.Core.Path.{ap, ◌∙◌}
use Prim.Native.Nat.{ℕ}
use Rattle.star.proofs.Graph.missing.Goals as goal

pub returns : goal.returns
returns c =
    let g = c.args.self.now in
    ap (λ (l : List ℕ). get_or l c.args.i 0) g.missing ∙ complement_row g.n (adjacent g.bits) g.few c.args.i c.requires
