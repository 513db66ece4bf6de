-- `Graph::set_d` meets its contract.
use Rattle.std.proofs.Common.{◌≡◌, ◌≤◌, ℕ, Bool, not, ◌&&◌, subst, rules}
use Rattle.std.proofs.Math.Nat.{min-eq_left}
use Rattle.bitset.specs.Set.{member, set_of}
use Rattle.graph.specs.Bits.{adjacent}
use Rattle.star.specs.Star.{lacks}
use Rattle.star.proofs.Graph.set_d.Goals as goal

pub returns : goal.returns
returns c =
    let g = c.args.self.now in
    let few : g.n ≤ 16 = g.few in
    let test : ℕ → Bool = λ i. not (member c.args.u i && lacks g.n (adjacent g.bits) c.args.c i) in
    subst (λ (n : ℕ). c.select.result ≡ set_of n test) (min-eq_left few) (c.select.ensures test (λ i b l h. search rules))
