-- `bitset::read_row` meets its contract.
use native.Mathlib.Omega.{arith}
use Rattle.bitset.proofs.Rows.{row_held, row_missing}
use Rattle.bitset.specs.Row.{word_at}
use Rattle.bitset.specs.Set.{restricted}
use Prim.Native.Nat.{ℕ}
use mathlib.Core.Path.{sym, ap, ◌∙◌}
use Rattle.bitset.proofs.read_row.Goals as goal

pub returns-then-m-r : goal.returns-then-m-r
returns-then-m-r c =
    sym (row_missing c.args.n c.args.m.now c.args.r (omega arith))

pub returns : goal.returns
unfolding word_at
returns c =
    c.restrict.ensures
    ∙ ap (λ (x : ℕ). restricted x c.args.n) c.word.ensures
    ∙ sym (row_held c.args.n c.args.m.now c.args.r (omega arith))
