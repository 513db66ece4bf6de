-- `Graph::in_b` meets its contract.
use Rattle.graph.specs.Bits.{adjacent}
use Rattle.bitset.specs.Set.{intersection}
use Rattle.star.proofs.Parts.{lacks_is}
use Rattle.lists.proofs.Tests.{and_tail}
use lib.Dec.{ltb}
use Prim.Native.Nat.{ℕ}
use mathlib.Core.Path.{sym, ap, ◌∙◌}
use Rattle.star.proofs.Graph.in_b.Goals as goal

pub returns-then-member : goal.returns-then-member
returns-then-member c =
    let g = c.args.self.now in
    ap (ltb 0) (c.intersection.ensures ∙ ap (λ (x : ℕ). intersection x c.args.c) c.missing.ensures)
    ∙ lacks_is g.n (adjacent g.bits) c.args.c c.args.i g.few c.requires.0 c.requires.1
    ∙ sym (and_tail _ _ (sym c.member.ensures ∙ c.if-member.true))
