-- `settings::too_many` meets its contract: 3t + 1 exceeds n exactly where t exceeds (n - 1) / 3.
use Rattle.settings.specs.Refusal.{too_many}
use Rattle.lists.proofs.Tests.{bool_ext}
use borrow.Author.Tests.{lt-ltb, eq-eqb, ne_eqb, ltb-true}
use Rattle.std.proofs.Common.{ltb, ◌+◌, ◌-◌, ◌*◌, ◌/◌, arith}
use Rattle.settings.proofs.too_many.Goals as goal

pub returns-then-t-eq0 : goal.returns-then-t-eq0
unfolding too_many
returns-then-t-eq0 c = rw (eq-eqb c.args.t 0 c.if-t-eq0.true)

pub returns-else-t-eq0 : goal.returns-else-t-eq0
unfolding too_many
returns-else-t-eq0 c =
    let n = c.args.n in
    let t = c.args.t in
    rw (ne_eqb t 0 c.if-t-eq0.false, c.saturating_sub.ensures)
    (bool_ext (ltb ((n - 1) / 3) t) (ltb n (3 * t + 1))
    (λ e. lt-ltb n (3 * t + 1) (omega (arith, ltb-true ((n - 1) / 3) t e)))
    (λ e. lt-ltb ((n - 1) / 3) t (omega (arith, ltb-true n (3 * t + 1) e))))
