-- `settings_at` meets its contract.
use mathlib.Core.Path.{◌∙◌}
use Rattle.system_file.proofs.Heads.{head_short, head_line}
use Rattle.system_file.proofs.head.settings_at.Goals as goal

pub returns-then-input-at : goal.returns-then-input-at
returns-then-input-at c =
    let a = c.args in
    head_short a.input.now c.line_at-l.result.now a.at c.line_at-l.ensures c.if-input-at.true

pub returns : goal.returns
returns c =
    let a = c.args in
    c.settings_line.ensures ∙ head_line a.input.now c.line_at-l.result.now a.at c.line_at-l.ensures c.if-input-at.false
