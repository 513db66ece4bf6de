-- `decode_slots` meets its contract.
use mathlib.Core.Path.{sym, subst}
use native.Mathlib.Omega.{arith}
use Rattle.reed_solomon.specs.Steps.{Pointed}
use Rattle.reed_solomon.proofs.Rule.{few-beyond}
use Rattle.reed_solomon.proofs.Stripes.{length-points, pointed_points}
use Rattle.reed_solomon.proofs.decode_slots.Goals as goal

pub returns-then-count-t : goal.returns-then-count-t
returns-then-count-t c =
    let a = c.args in
    few-beyond a.n a.t a.layout a.slots.now c.requires.0.k_least
    (omega (arith, c.list_points-count.ensures.size, length-points a.n a.layout a.slots.now, c.if-count-t.true))

pub invariant_of-pieces : goal.invariant_of-pieces
invariant_of-pieces c =
    let a = c.args in
    let l = c.list_points-count in
    let q = c.requires.0.quorum in
    record {
      lent = record {
        coded = c.requires.0;
        are = l.ensures.are;
        pointed =
            subst (Pointed a.t) (sym l.ensures.are)
            (pointed_points a.n a.layout a.slots.now a.t q.n_most (omega (arith, q.n_most, q.t_most)) (omega (arith, l.ensures.size, c.if-count-t.false)));
      };
    }
