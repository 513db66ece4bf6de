-- `Coder::marks` meets its contract.
use Rattle.dispersal.proofs.Steps.{first_piece, pair_room}
use Rattle.dispersal.specs.Dispersal.{is_marked}
use Rattle.reed_solomon.proofs.Laws.{length_piece}
use Rattle.reed_solomon.specs.Encode.{piece_of}
use Rattle.bitset.proofs.Laws.{set_none, insert_next, insert_skip}
use Rattle.bitset.specs.Set.{inserted}
use native.Mathlib.Omega.{arith}
use Prim.Native.Nat.{ℕ, ◌+◌, ◌*◌}
use mathlib.Core.Bool.{Bool}
use mathlib.Core.Path.{refl, sym, ap, ◌∙◌}
use Rattle.dispersal.proofs.Coder.marks.Goals.{then-is_marked, else-is_marked}
use Rattle.dispersal.proofs.Coder.marks.Goals as goal

pub loop-i-init : goal.loop-i-init
loop-i-init c =
    let s = c.args.self.now in (
      c.write_piece.auto.m ∙ pair_room s.k (2 * s.k) s.ready.coded.k_most refl,
      first_piece s.k (piece_of s.k s.t s.block.now s.own) _ c.write_piece.new.m (length_piece s.k s.t s.block.now s.own) c.write_piece.ensures,
      sym (set_none (λ j. is_marked s.k s.t s.own c.args.inbox.now c.args.layout s.block.now (j + 1))),
    )

pub loop-i-preserved : goal.loop-i-preserved
loop-i-preserved c =
    let s = c.args.self.now in
    let i = c.loop-i.i in
    let marked : ℕ → Bool = λ j. is_marked s.k s.t s.own c.args.inbox.now c.args.layout s.block.now (j + 1) in (
      c.is_marked.auto.m ∙ c.loop-i.invariant.0,
      c.is_marked.ensures.1,
      elim c.if-is_marked.branch [
        | then-is_marked w ↦ w.set-is ∙ w.insert-set.ensures ∙ ap (λ (x : ℕ). inserted x i) c.loop-i.invariant.2
            ∙ insert_next i marked (omega (arith, c.loop-i-test.true, s.ready.coded.quorum.n_most)) (sym c.is_marked.ensures.0 ∙ w.if-is_marked.true)
        | else-is_marked w ↦ w.set-is ∙ c.loop-i.invariant.2 ∙ insert_skip i marked (sym c.is_marked.ensures.0 ∙ w.if-is_marked.false)
      ],
    )
