-- `graph::Pair::is_missing` meets its contract: two different indices are neighbours where they mark each other.
use Rattle.graph.proofs.Neighbours.{neighbour_other}
use borrow.Author.Tests.{lt-ltb}
use native.Mathlib.Omega.{arith}
use Rattle.graph.proofs.Pair.is_missing.Goals as goal
use Rattle.graph.proofs.Pair.is_missing.Goals.{then-member, else-member}

pub returns-after-member : goal.returns-after-member
returns-after-member c =
    let P = c.args.self in
    rw (lt-ltb P.large c.args.n c.if-self-n.true, neighbour_other c.args.rows.now P.small P.large (λ e. omega arith), ← c.member.ensures)
    (elim c.if-member.branch [
      | then-member w ↦ rw (w.result-is, w.member-then-member.ensures, w.if-member.true)
      | else-member w ↦ rw (w.result-is, w.if-member.false)
    ])
