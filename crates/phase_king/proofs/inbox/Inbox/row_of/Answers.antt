-- `phase_king::inbox::Inbox::row_of` meets its contract: n is 16 at most.
use Rattle.std.proofs.Common.{ℕ, subst, ◌≤◌}
use Rattle.std.proofs.Math.Nat.{min-eq_left}
use Rattle.bitset.specs.Set.{Selected}
use Rattle.phase_king.proofs.inbox.Inbox.row_of.Goals as goal

pub returns : goal.returns
returns g c =
    let few : c.args.self.now.n ≤ 16 = c.args.self.now.few in
    subst (λ (n : ℕ). Selected (goal.F-post g c.args.f) n c.select.result) (min-eq_left few) c.select.ensures
