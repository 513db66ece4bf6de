-- `wire::inbox_length` meets its contract.
use Rattle.std.proofs.Common.{ap, ◌∙◌}
use Rattle.wire.specs.Length.{inbox_length, outbox_length, box_length}
use Rattle.wire.proofs.length.inbox_length.Goals as goal

pub returns : goal.returns
unfolding inbox_length outbox_length
returns c =
    let a = c.args in
    c.outbox_length.ensures ∙ ap (box_length a.n a.t a.k) c.saturating_sub.ensures
