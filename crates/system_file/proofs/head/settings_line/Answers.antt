-- `settings_line` meets its contract.
use native.Mathlib.Omega.{arith}
use mathlib.Core.Path.{refl, sym, ◌∙◌}
use Rattle.settings.proofs.Laws.{row_least}
use Rattle.text.proofs.Laws.{numbers-found}
use Rattle.system_file.proofs.Heads.{ranges, no_numbers, no_settings, no_block, head_yes}
use Rattle.system_file.proofs.head.settings_line.Goals as goal

pub returns-in_err-numbers : goal.returns-in_err-numbers
returns-in_err-numbers c = c.from_residual.ensures ∙ no_numbers c.args.l.now c.args.at (sym c.in_err-numbers.was ∙ c.read_numbers.ensures)

pub returns-in_default : goal.returns-in_default
returns-in_default c =
    no_settings c.args.l.now c.args.at c.in_ok-numbers.ensures c.in_default.ensures (λ z. omega (arith, row_least c.in_default.field-0))

pub returns-then-not-is_bytes : goal.returns-then-not-is_bytes
returns-then-not-is_bytes c =
    no_block c.args.l.now c.args.at (c.in_ok-numbers.ensures) c.in-Ok.ensures refl
    c.tail-block.ensures c.block_length.ensures c.is_bytes.ensures c.if-not-is_bytes.true

pub overflow_add-result : goal.overflow_add-result
overflow_add-result c = omega (arith, (numbers-found ranges c.args.l.now (c.in_ok-numbers.ensures)).end)

pub returns : goal.returns
returns c =
    head_yes c.args.l.now c.args.at (c.in_ok-numbers.ensures) c.in-Ok.ensures refl
    c.tail-block.ensures c.block_length.ensures c.is_bytes.ensures c.if-not-is_bytes.false
