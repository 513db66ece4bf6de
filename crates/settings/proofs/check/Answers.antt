-- `check` meets its contract.
use Rattle.std.proofs.Common.{◌∙◌, sym, ap}
use Rattle.settings.proofs.Order.{found_row, next_row, no_row}
use Rattle.settings.specs.Number.{row_of}
use Rattle.settings.specs.Refusal.{broken, first_of, refusal_of}
use Rattle.settings.specs.declared.Refusal.TheVariants.{Controllers}
use Rattle.settings.proofs.check.Goals as goal

pub loop-row-init : goal.loop-row-init
unfolding refusal_of
loop-row-init c = ap (first_of (broken c.args.s c.args.number c.args.fits)) c.rows-row-items.ensures

pub returns-then-breaks : goal.returns-then-breaks
returns-then-breaks c =
    let p = broken c.args.s c.args.number c.args.fits in
    sym (found_row p row_of c.rows-row-items.result.now c.loop-row.row-index Controllers c.loop-row-test.true
    (sym c.breaks.ensures ∙ c.if-breaks.true))
    ∙ c.loop-row.invariant

pub loop-row-preserved : goal.loop-row-preserved
loop-row-preserved c =
    let p = broken c.args.s c.args.number c.args.fits in
    sym (next_row p row_of c.rows-row-items.result.now c.loop-row.row-index Controllers c.loop-row-test.true
    (sym c.breaks.ensures ∙ c.if-breaks.false))
    ∙ c.loop-row.invariant

pub returns : goal.returns
returns c =
    let p = broken c.args.s c.args.number c.args.fits in
    sym (no_row p row_of c.rows-row-items.result.now c.loop-row.row-index c.loop-row-test.false) ∙ c.loop-row.invariant
