-- `Graph::sets` meets its contract.
use Rattle.star.proofs.Parts.{c_lt, at_least_lt, sets_are}
use Rattle.star.specs.Star.{set_C}
use Rattle.matching.specs.Matching.{matched}
use Rattle.graph.specs.Bits.{adjacent}
use Rattle.graph.specs.Pairs.{Pair}
use Rattle.bitset.specs.Set.{set_of}
use Rattle.std.specs.Prelude.{reverse}
use mathlib.Core.List.{List}
use mathlib.Core.Path.{sym, ap, subst, ◌∙◌}
use Prim.Native.Nat.{ℕ, ◌^◌, ◌<◌}
use Rattle.star.proofs.Graph.sets.Goals as goal

pub set_d-d-requires : goal.set_d-d-requires
set_d-d-requires c = subst (λ (x : ℕ). x < 2 ^ c.args.self.now.n) (sym c.set_c-c.ensures) (c_lt _ _ _)

pub at_least-f-requires : goal.at_least-f-requires
at_least-f-requires c = subst (λ (x : ℕ). x < 2 ^ c.args.self.now.n) (sym c.set_c-c.ensures) (c_lt _ _ _)

pub at_least-e-requires : goal.at_least-e-requires
at_least-e-requires c = subst (λ (x : ℕ). x < 2 ^ c.args.self.now.n) (sym c.at_least-f.ensures) (at_least_lt _ _ _ _)

pub returns : goal.returns
returns c =
    let g = c.args.self.now in
    sets_are _ _ _ _ _ _ _ _ _ g.few
    (c.set_c-c.ensures ∙ ap (λ (M : List Pair). set_C g.n (adjacent g.bits) (reverse M)) c.pairs-pairs.ensures)
    (c.matched_set.ensures ∙ ap (λ (M : List Pair). set_of 16 (matched (reverse M))) c.pairs-pairs.ensures)
    c.set_d-d.ensures c.at_least-f.ensures c.at_least-e.ensures
