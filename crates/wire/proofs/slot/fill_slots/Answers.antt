-- `wire::slot::fill_slots` meets its contract.
use Rattle.std.proofs.Common.{◌∙◌, refl, arith, subst, ◌≡◌, ℕ, ◌*◌, ◌++◌, drop}
use Rattle.lists.proofs.Parts.{slot_within, next_offset}
use Rattle.wire.specs.Slot.{width, bytes, slots}
use Rattle.wire.proofs.Slots.{sized_bytes, slots_start, put_next_slot, slots_all}
use Rattle.wire.proofs.slot.fill_slots.Goals as goal

pub loop-j-init : goal.loop-j-init
loop-j-init c =
    let a = c.args in
    slots_start a.layout (λ _. bytes a.m.now) a.outbox.now 0 refl

pub loop-j-preserved : goal.loop-j-preserved
loop-j-preserved c =
    let a = c.args in
    let j = c.loop-j.j in
    c.send_one.ensures
    ∙ put_next_slot a.layout (λ _. bytes a.m.now) (λ i. sized_bytes a.layout a.m.now c.requires.1) a.outbox.now c.loop-j.outbox a.m.now j
    (omega (arith, slot_within a.n (width a.layout) j (omega arith), next_offset j (width a.layout), c.requires.0)) c.loop-j.invariant refl
    c.requires.1

pub returns : goal.returns
returns c =
    let a = c.args in
    let all : c.loop-j.j ≡ a.n = omega arith in
    slots_all a.layout (λ _. bytes a.m.now) a.outbox.now c.loop-j.outbox a.n
    (subst (λ (x : ℕ). c.loop-j.outbox ≡ slots a.layout (λ _. bytes a.m.now) x ++ drop (x * width a.layout) a.outbox.now) all c.loop-j.invariant)
    c.requires.0
