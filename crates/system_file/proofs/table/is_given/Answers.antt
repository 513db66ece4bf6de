-- `is_given` meets its contract.
use native.Mathlib.Omega.{arith}
use mathlib.Core.Path.{sym, ◌∙◌}
use Rattle.system_file.proofs.Rows.{given_at, given_none}
use Rattle.system_file.proofs.table.is_given.Goals as goal

pub returns-then-is_taken : goal.returns-then-is_taken
returns-then-is_taken c =
    sym (given_at c.args.row.now c.args.to c.loop-j.j (omega (arith, c.requires)) (sym c.is_taken.ensures ∙ c.if-is_taken.true))

pub returns : goal.returns
returns c = sym (given_none c.args.row.now c.args.to (λ j l. c.loop-j.invariant j (omega (arith, c.requires))))
