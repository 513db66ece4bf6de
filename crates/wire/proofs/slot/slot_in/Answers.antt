-- `wire::slot::slot_in` meets its contract: where a product or a sum overflows, or the slot ends past the box, the box does not hold it.
use Rattle.std.proofs.Common.{ap₂, ◌∙◌, arith, ◌*◌, ℕ}
use Rattle.wire.specs.Slot.{width}
use Rattle.wire.proofs.Slots.{not_within, slot_is_in}
use Rattle.wire.proofs.slot.slot_in.Goals as goal

pub returns-in_err-w : goal.returns-in_err-w
unfolding width
returns-in_err-w c =
    rw c.from_residual.ensures (not_within c.args.slots.now c.args.layout c.args.j (λ s. omega (arith, c.in_err-w.ensures)))

pub returns-in_err-checked_sub : goal.returns-in_err-checked_sub
returns-in_err-checked_sub c =
    rw c.from_residual-in_err-checked_sub.ensures
    (not_within c.args.slots.now c.args.layout c.args.j (λ s. absurd (c.in_err-checked_sub.ensures s)))

pub returns-in_err-start : goal.returns-in_err-start
unfolding width
returns-in_err-start c =
    let e = ap₂ (λ (x y : ℕ). x * y) c.in_ok-checked_sub.ensures.1 c.in_ok-w.ensures.1 in
    rw c.from_residual-in_err-start.ensures
    (not_within c.args.slots.now c.args.layout c.args.j (λ s. omega (arith, e, c.in_err-start.ensures)))

pub returns-in_err-end : goal.returns-in_err-end
unfolding width
returns-in_err-end c =
    let e = c.in_ok-start.ensures.1 ∙ ap₂ (λ (x y : ℕ). x * y) c.in_ok-checked_sub.ensures.1 c.in_ok-w.ensures.1 in
    rw c.from_residual-in_err-end.ensures
    (not_within c.args.slots.now c.args.layout c.args.j (λ s. omega (arith, e, c.in_err-end.ensures, c.in_ok-w.ensures.1)))

pub returns-then-slots-end : goal.returns-then-slots-end
unfolding width
returns-then-slots-end c =
    let e = c.in_ok-start.ensures.1 ∙ ap₂ (λ (x y : ℕ). x * y) c.in_ok-checked_sub.ensures.1 c.in_ok-w.ensures.1 in
    not_within c.args.slots.now c.args.layout c.args.j (λ s. omega (arith, e, c.in_ok-end.ensures.1, c.in_ok-w.ensures.1))

pub returns : goal.returns
unfolding width
returns c =
    let e = c.in_ok-start.ensures.1 ∙ ap₂ (λ (x y : ℕ). x * y) c.in_ok-checked_sub.ensures.1 c.in_ok-w.ensures.1 in
    slot_is_in c.args.slots.now c.args.layout c.args.j _ _ (omega (arith, c.in_ok-checked_sub.ensures.0)) e
    (omega (arith, c.in_ok-end.ensures.1, c.in_ok-w.ensures.1)) (omega arith)
