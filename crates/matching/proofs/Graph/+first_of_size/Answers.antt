-- `Graph::first_of_size` meets its contract.
use mathlib.Core.Path.{sym, subst, ◌∙◌}
use native.Mathlib.Omega.{arith}
use Rattle.matching.specs.Steps.{Searched}
use Rattle.matching.proofs.Steps.{none_in_empty, try_start, try_fail, try_skip, try_found, found-count, try_drop}
use Rattle.matching.proofs.Steps.{try_rest_less, try_less}
use Rattle.matching.proofs.Graph.+first_of_size.Goals as goal
use Rattle.matching.proofs.Graph.+first_of_size.Goals.{then-member+in_default, else-member}

pub returns-in_err-v : goal.returns-in_err-v
returns-in_err-v t c =
    subst (Searched _ _ _) (sym c.from_residual.ensures) (none_in_empty c.args.self.now.rows c.args.s c.args.k c.in_err-v.ensures c.if-k-eq0.false)

pub loop-w-init : goal.loop-w-init
loop-w-init t c =
    try_start _ _ _ _ _ _ c.in_ok-v.ensures c.if-k-eq0.false c.requires c.remove-rest.ensures c.intersection-partners.ensures

pub first_of_size-requires : goal.first_of_size-requires
first_of_size-requires t c = (
  omega (arith, try_less _ _ _ _ _ _ _ c.ranges.s.fits c.loop-w.invariant (sym c.member.ensures ∙ c.if-member.true) _ c.remove.ensures, c.decreases),
  omega (arith, c.loop-w.invariant.few),
)

pub with-requires : goal.with-requires
with-requires t c =
    let inv = c.loop-w.invariant in (
      omega (arith, inv.few, inv.some, found-count _ _ _ _ _ _ _ c.ranges.s.fits inv (sym c.member.ensures ∙ c.if-member.true) _ c.remove.ensures _ c.in-Some.ensures),
      omega (arith, inv.low),
      omega arith,
    )

pub returns-in-Some : goal.returns-in-Some
returns-in-Some t c =
    try_found _ _ _ _ _ _ _ c.ranges.s.fits c.loop-w.invariant (sym c.member.ensures ∙ c.if-member.true) _ c.remove.ensures _ c.in-Some.ensures _ c.with.ensures

pub loop-w-preserved : goal.loop-w-preserved
loop-w-preserved t c =
    let inv = c.loop-w.invariant in
    elim c.if-member.branch [
      | then-member+in_default w ↦ try_fail _ _ _ _ _ _ _ c.ranges.s.fits inv (sym c.member.ensures ∙ w.if-member.true) _ w.remove.ensures w.in_default.ensures
      | else-member w ↦ try_skip _ _ _ _ _ _ _ c.ranges.s.fits inv (sym c.member.ensures ∙ w.if-member.false)
    ]

pub first_of_size-requires-2 : goal.first_of_size-requires-2
first_of_size-requires-2 t c = (omega (arith, try_rest_less _ _ _ _ _ _ _ c.ranges.s.fits c.loop-w.invariant, c.decreases), c.requires)

pub returns : goal.returns
returns t c = try_drop _ _ _ _ _ _ _ c.ranges.s.fits c.loop-w.invariant (omega arith) _ c.first_of_size-2.ensures
