-- `Offers::votes` meets its contract: the size of the set of those who sent m.
use Rattle.reconstruction.proofs.Choice.{vote}
use Rattle.reconstruction.specs.Reconstruction.{votes}
use Rattle.bitset.specs.Set.{set_of, size_of}
use Rattle.bitset.proofs.Laws.{size_set}
use Rattle.std.proofs.Common.{rules}
use native.Mathlib.Omega.{arith}
use Prim.Native.Nat.{ℕ, min}
use mathlib.Core.Bool.{Bool}
use mathlib.Core.Path.{◌≡◌, ap, ◌∙◌}
use Rattle.reconstruction.proofs.Offers.votes.Goals as goal

pub returns : goal.returns
unfolding votes
returns c =
    let s = c.args.self.now in
    let sent : ℕ → Bool = vote s.core s.inbox.now s.layout c.args.m.now in
    let few : min s.n 16 ≡ s.n = omega (arith, s.quorum.n_most) in
    c.size.ensures
    ∙ ap size_of (c.select.ensures sent (λ i b l k. search rules))
    ∙ ap (λ (n : ℕ). size_of (set_of n sent)) few
    ∙ size_set s.n sent s.quorum.n_most
