-- `phase_king::inbox::Inbox::matrix_of` meets its contract: the loop fills row after row.
use Rattle.std.proofs.Common.{◌≡◌, ℕ, ◌<◌, replicate}
use Rattle.lists.specs.Fill.{filled}
use Rattle.phase_king.proofs.inbox.Inbox.matrix_of.Given as goal

abbrev pub invariant-loop-r : goal.invariant-loop-r
invariant-loop-r g l =
    (f : ℕ → ℕ) → ((r x : ℕ) → r < l.self.n → goal.F-post g l.f r x → x ≡ f r) → l.rows ≡ filled f l.r (replicate 16 0)
