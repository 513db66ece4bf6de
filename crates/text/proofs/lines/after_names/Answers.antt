-- `lines::after_names` meets its contract.
use Rattle.std.proofs.Common.{rules}
use Rattle.text.proofs.LineParts.{names_short, names_other, names_same}
use Rattle.text.proofs.lines.after_names.Goals as goal
use Rattle.text.proofs.lines.after_names.Goals.{then-input-end-via-then-input-end, then-input-end-via-else-input-end+then-ne}

pub returns-then-input-end : goal.returns-then-input-end
returns-then-input-end c =
    let a = c.args in
    elim c.then-input-end.branch [
      | then-input-end-via-then-input-end w ↦ names_short a.names.now a.input.now a.at c.line_at-l.result.now c.line_at-l.ensures w.if-input-end.true
      | then-input-end-via-else-input-end+then-ne w ↦ names_other a.names.now a.input.now a.at c.line_at-l.result.now c.line_at-l.ensures (search rules)
    ]

pub returns : goal.returns
returns c =
    let a = c.args in names_same a.names.now a.input.now a.at c.line_at-l.result.now c.line_at-l.ensures c.if-input-end.false (search rules)
