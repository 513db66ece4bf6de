-- `wire::slot::put_slot` meets its contract.
use Rattle.std.proofs.Common.{◌≡◌, ap₂, ◌∙◌, List, ℕ, ◌++◌, ◌-◌, length, take, drop, set}
use Rattle.wire.specs.Slot.{header}
use Rattle.wire.proofs.Slots.{with_header, put_head}
use Rattle.wire.proofs.slot.put_slot.Goals as goal

pub returns : goal.returns
returns c =
    let a = c.args in
    let d = a.slot.now in
    let head : set (set (set d 0 1) 1 c.low.result) 2 c.high.result ≡ with_header a.layout d
    = ap₂ (λ (x y : ℕ). set (set (set d 0 1) 1 x) 2 y) c.low.ensures c.high.ensures in
    ap₂ (λ (h m : List ℕ). take header h ++ (m ++ drop (length h - header) (drop header h))) head c.copy_from_slice.ensures.after
    ∙ put_head a.layout d a.m.now c.requires.0 c.requires.1
