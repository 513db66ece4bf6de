use Rattle.std.proofs.Common.{◌+◌, rules}
use Rattle.bitset.specs.Row.{row_of}
use Rattle.wire.specs.Slot.{message_of}
use Rattle.phase_king.specs.Steps.{said_rows}
use Rattle.phase_king.proofs.inbox.Inbox.rows.Goals as goal

pub returns : goal.returns
unfolding said_rows
returns c =
    let s = c.args.self.now in
    c.matrix_of.ensures (λ i. row_of s.n (message_of s.slots.now s.layout (i + 1)) c.args.r) (λ i x l e. search rules)
