-- `phase_king::one_bit::count_bit` meets its contract.
use Rattle.std.proofs.Common.{arith, sym, ap, ◌∙◌, ◌≡◌, ◌+◌}
use Rattle.lists.specs.Sum.{ind, count}
use Rattle.lists.proofs.Sums.{byte_ind, count_none_below, counted, count_le}
use Rattle.phase_king.specs.Matrix.{cell}
use Rattle.phase_king.proofs.one_bit.count_bit.Goals as goal

pub loop-i-init : goal.loop-i-init
loop-i-init c = sym (count_none_below _)

-- the count with row i
more : (c : goal.After-from-count) → c.loop-i.count + c.from-count.result ≡ count (c.loop-i.i + 1) (λ i. cell c.args.rows.now i c.args.j)
more c = counted c.loop-i.i (λ i. cell c.args.rows.now i c.args.j) _ _ c.loop-i.invariant (c.from-count.ensures ∙ byte_ind _ ∙ ap ind c.member.ensures)

pub overflow_add-count : goal.overflow_add-count
overflow_add-count c = omega (arith, more c, count_le (c.loop-i.i + 1) (λ i. cell c.args.rows.now i c.args.j), c.type_inv.inbox)

pub loop-i-preserved : goal.loop-i-preserved
loop-i-preserved c = more c
