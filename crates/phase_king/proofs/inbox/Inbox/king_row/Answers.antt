-- `phase_king::inbox::Inbox::king_row` meets its contract.
use Rattle.std.proofs.Common.{sym, ap, ◌∙◌, List, ℕ}
use borrow.Author.Tests.{le-leb, lt-leb}
use Rattle.lists.proofs.Tests.{cond_yes, cond_no}
use Rattle.bitset.specs.Row.{row_of}
use Rattle.bitset.proofs.Laws.{row_none}
use Rattle.phase_king.specs.Steps.{king_row}
use Rattle.phase_king.proofs.inbox.Inbox.king_row.Goals as goal

pub returns-then-self-king : goal.returns-then-self-king
unfolding king_row
returns-then-self-king c =
    let a = c.args in
    sym (ap (λ (m : List ℕ). row_of a.self.now.n m a.r) (cond_no _ _ _ (lt-leb a.king a.self.now.n c.if-self-king.true)) ∙ row_none a.self.now.n a.r)

pub returns-else-self-king : goal.returns-else-self-king
unfolding king_row
returns-else-self-king c =
    let a = c.args in
    c.read_row.ensures
    ∙ ap (λ (m : List ℕ). row_of a.self.now.n m a.r) (c.message.ensures ∙ sym (cond_yes _ _ _ (le-leb a.king a.self.now.n c.if-self-king.false)))
