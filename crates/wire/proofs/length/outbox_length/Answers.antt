-- `wire::outbox_length` meets its contract.
use Rattle.std.proofs.Common.{ℕ, ◌+◌, ◌*◌, ◌≤◌, arith, sym, ap, ◌∙◌}
use Rattle.lists.proofs.Tests.{cond_yes, cond_no}
use lib.Dec.{eqb}
use borrow.Author.Tests.{eq-eqb, ne_eqb}
use Rattle.wire.specs.Slot.{header}
use Rattle.wire.specs.Length.{message_length, box_length, outbox_length}
use Rattle.wire.proofs.Factors.{box_bound}
use Rattle.wire.proofs.Lengths.{length_le, length_some}
use Rattle.wire.proofs.length.outbox_length.Goals as goal

pub overflow_add-result : goal.overflow_add-result
overflow_add-result c =
    let a = c.args in
    omega (arith, length_le (length_some a.n a.t a.k a.c (λ e. c.if-len-eq0.false (c.message_length-len.ensures ∙ e))) a.c, c.message_length-len.ensures)

pub overflow_mul-result : goal.overflow_mul-result
overflow_mul-result c =
    let a = c.args in
    let v = length_some a.n a.t a.k a.c (λ e. c.if-len-eq0.false (c.message_length-len.ensures ∙ e)) in
    let l : header + c.message_length-len.result ≤ 1024 = omega (arith, length_le v a.c, c.message_length-len.ensures) in
    omega (arith, box_bound {n = a.n} {l = header + c.message_length-len.result} v.quorum.n_most l)

pub returns-then-len-eq0 : goal.returns-then-len-eq0
unfolding outbox_length box_length
returns-then-len-eq0 c =
    let a = c.args in
    sym (cond_yes _ 0 _ (eq-eqb (message_length a.n a.t a.k a.c) 0 (sym c.message_length-len.ensures ∙ c.if-len-eq0.true)))

pub returns-else-len-eq0 : goal.returns-else-len-eq0
unfolding outbox_length box_length
returns-else-len-eq0 c =
    let a = c.args in
    let m = message_length a.n a.t a.k a.c in
    ap (λ (x : ℕ). a.n * (header + x)) c.message_length-len.ensures
    ∙ sym (cond_no (eqb m 0) 0 (a.n * (header + m)) (ne_eqb m 0 (λ e. c.if-len-eq0.false (c.message_length-len.ensures ∙ e))))
