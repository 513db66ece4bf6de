-- `phase_king::inbox::Inbox::row` meets its contract: an absent slot says nothing but zeros.
use Rattle.std.proofs.Common.{sym, ap, ◌∙◌, List, ℕ, arith}
use borrow.Author.Tests.{eqb-true}
use Rattle.bitset.specs.Row.{row_of}
use Rattle.bitset.proofs.Laws.{row_missing}
use Rattle.phase_king.proofs.inbox.Inbox.row.Goals as goal

pub returns-then-is_empty : goal.returns-then-is_empty
returns-then-is_empty c =
    let a = c.args in
    let e = eqb-true _ _ (sym c.is_empty.ensures ∙ c.if-is_empty.true) in
    sym (ap (λ (m : List ℕ). row_of a.self.now.n m a.r) (sym c.message-m.ensures) ∙ row_missing a.self.now.n c.message-m.result.now a.r (omega (arith, e)))
