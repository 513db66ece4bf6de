-- `Graph::set_c` meets its contract.
use Rattle.std.specs.Prelude.{ℕ, min, reverse, take, true}
use Rattle.bitset.specs.Set.{set_of}
use Rattle.graph.specs.Bits.{adjacent}
use Rattle.graph.specs.Pairs.{Pair}
use Rattle.matching.proofs.Laws.{reverse-more, each_reverse}
use Rattle.star.specs.Star.{set_C}
use Rattle.star.proofs.Parts.{c_start, c_more}
use lib.ListN.{get_or}
use native.Mathlib.Omega.{arith}
use mathlib.Core.Path.{◌≡◌, sym, ap, ◌∙◌}
use Rattle.star.proofs.Graph.set_c.Goals as goal

pub loop-p-init : goal.loop-p-init
loop-p-init c =
    let g = c.args.self.now in
    let e : min g.n 16 ≡ g.n = omega (arith, g.few) in
    c.below-c.ensures ∙ ap (λ (x : ℕ). set_of x (λ _. true)) e ∙ c_start g.n (adjacent g.bits)

pub left_by-c-requires : goal.left_by-c-requires
left_by-c-requires c =
    let low = each_reverse _ c.args.pairs.now c.loop-p.p-index c.requires c.loop-p-test.true in
    (omega (arith, low.0, c.args.self.now.few), omega (arith, low.1, c.args.self.now.few))

pub loop-p-preserved : goal.loop-p-preserved
loop-p-preserved c =
    let g = c.args.self.now in
    let ps = c.args.pairs.now in
    let k = c.loop-p.p-index in
    let p : Pair = get_or ps k (0, 0) in
    c.left_by-c.ensures
    ∙ c_more g.n (adjacent g.bits) p (reverse (take k ps)) c.loop-p.c g.few (each_reverse _ ps k c.requires c.loop-p-test.true) c.loop-p.invariant
    ∙ ap (set_C g.n (adjacent g.bits)) (sym (reverse-more ps k c.loop-p-test.true))
