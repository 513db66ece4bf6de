-- `wire::slot::copy` meets its contract.
use Rattle.std.proofs.Common.{List, ℕ, ◌++◌, ap, ◌∙◌, drop, rules}
use Rattle.wire.proofs.Slots.{copied_end}
use Rattle.wire.proofs.slot.copy.Goals as goal

pub returns : goal.returns
returns c =
    let a = c.args in
    ap (λ (l : List ℕ). l ++ drop c.min-n.result a.dst.now) c.copy_from_slice.ensures.after
    ∙ copied_end c.min-n.result a.src.now a.dst.now (search rules)
