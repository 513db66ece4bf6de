-- `Graph::at_least` meets its contract.
use Rattle.std.proofs.Common.{◌≡◌, ◌∙◌, ◌≤◌, ℕ, Bool, leb, ap, subst, rules}
use Rattle.std.proofs.Math.Nat.{min-eq_left}
use Rattle.bitset.specs.Set.{set_of, size_of, difference}
use Rattle.bitset.proofs.Laws.{set_ext}
use Rattle.graph.specs.Bits.{adjacent}
use Rattle.graph.specs.Neighbour.{missing}
use Rattle.star.specs.Star.{at_least}
use Rattle.star.proofs.Parts.{count_is}
use Rattle.star.proofs.Graph.at_least.Goals as goal

pub returns : goal.returns
unfolding at_least
returns c =
    let g = c.args.self.now in
    let few : g.n ≤ 16 = g.few in
    let size : ℕ → Bool = λ i. leb c.args.k (size_of (difference c.args.s (missing g.n (adjacent g.bits) i))) in
    subst (λ (n : ℕ). c.select.result ≡ set_of n size) (min-eq_left few) (c.select.ensures size (λ i b l h. search rules))
    ∙ set_ext g.n size _ (λ i l. ap (leb c.args.k) (count_is g.n (adjacent g.bits) c.args.s i few c.requires l))
