-- `rebuild` meets its contract: the block is found, or there is none and zeros take its place.
use mathlib.Core.Path.{ap, ◌∙◌}
use Prim.Native.Nat.{ℕ}
use lib.ListN.{replicate}
use Rattle.wire.proofs.Laws.{block_length_is}
use Rattle.reed_solomon.proofs.Rule.{decode_0}
use Rattle.reed_solomon.proofs.Decoded.{beyond_answers}
use Rattle.reed_solomon.proofs.rebuild.Goals as goal

pub decode_slots-named-requires : goal.decode_slots-named-requires
decode_slots-named-requires c =
    let a = c.args in
    let w = decode_0 a.n a.t a.layout a.slots.now a.block.now c.requires in
    (w.0, w.0.quorum.n_most, w.2 ∙ block_length_is a.layout.length a.t)

pub returns-then-is_none : goal.returns-then-is_none
returns-then-is_none c =
    let a = c.args in
    let w = decode_0 a.n a.t a.layout a.slots.now a.block.now c.requires in
    let d = c.decode_slots-named in
    beyond_answers a.n a.t a.layout a.slots.now a.block.now d.new.block c.fill.new.self d.result c.if-is_none.ensures c.requires d.ensures
    (c.fill.ensures.after (λ y e. e) ∙ ap (λ (m : ℕ). replicate m 0) (d.auto.block ∙ w.2))
