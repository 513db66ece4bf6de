-- `matched_set` meets its contract.
use Rattle.std.specs.Prelude.{ℕ, reverse, take}
use Rattle.bitset.specs.Set.{set_of, inserted}
use Rattle.graph.specs.Pairs.{Pair}
use Rattle.matching.specs.Matching.{matched}
use Rattle.matching.proofs.Laws.{reverse-more}
use Rattle.star.proofs.Parts.{matched_start, matched_more}
use lib.ListN.{get_or}
use mathlib.Core.List.{List}
use mathlib.Core.Path.{sym, ap, ◌∙◌}
use Rattle.star.proofs.matched_set.Goals as goal

pub loop-p-init : goal.loop-p-init
loop-p-init c = matched_start

pub loop-p-preserved : goal.loop-p-preserved
loop-p-preserved c =
    let ps = c.args.pairs.now in
    let k = c.loop-p.p-index in
    let p : Pair = get_or ps k (0, 0) in
    c.insert-s.ensures ∙ ap (λ (x : ℕ). inserted x p.1) c.insert.ensures ∙ matched_more p (reverse (take k ps)) c.loop-p.s c.loop-p.invariant
    ∙ ap (λ (M : List Pair). set_of 16 (matched M)) (sym (reverse-more ps k c.loop-p-test.true))
