-- `list_points` meets its contract.
use Rattle.reed_solomon.proofs.Stripes.{points_none, points_yes, points_no}
use Rattle.reed_solomon.specs.Steps.{points}
use Rattle.lists.proofs.Selects.{select_more}
use mathlib.Core.List.{List, [], ◌∷◌, ◌++◌}
use lib.ListN.{length, set, take, drop, length-append}
use lib.Seq.{take_at}
use native.Mathlib.Omega.{arith}
use Prim.Native.Nat.{ℕ, ◌+◌}
use mathlib.Core.Path.{◌≡◌, sym, ap, ap₂, ◌∙◌}
use Rattle.reed_solomon.proofs.list_points.Goals as goal
use Rattle.reed_solomon.proofs.list_points.Goals.{then-has_piece, else-has_piece}

pub loop-i-init : goal.loop-i-init
loop-i-init c =
    let a = c.args in
    let none = points_none a.layout a.slots.now in
    (omega arith, sym (ap length none), sym (ap (λ (l : List ℕ). l ++ a.xs.now) none))

pub loop-i-preserved : goal.loop-i-preserved
loop-i-preserved c =
    let a = c.args in
    let l = c.loop-i in
    let p = points l.i a.layout a.slots.now in
    elim c.if-has_piece.branch [
      | then-has_piece w ↦
          let more = points_yes l.i a.layout a.slots.now (sym w.if-has_piece.ensures) in (
            omega arith,
            w.count-is ∙ omega (arith, l.invariant.1, ap length more, length-append p ((l.i + 1) ∷ [])),
            w.xs-is
                ∙ ap (λ (z : List ℕ). set z l.count (l.i + 1)) l.invariant.2
                ∙ select_more p a.xs.now (l.i + 1) l.count (sym l.invariant.1) (omega arith)
                ∙ ap₂ (λ (z : List ℕ) (n : ℕ). z ++ drop n a.xs.now) (sym more) (sym w.count-is),
          )
      | else-has_piece w ↦
          let same = points_no l.i a.layout a.slots.now (sym w.if-has_piece.ensures) in (
            omega arith,
            w.count-is ∙ l.invariant.1 ∙ ap length (sym same),
            w.xs-is ∙ l.invariant.2 ∙ ap₂ (λ (z : List ℕ) (n : ℕ). z ++ drop n a.xs.now) (sym same) (sym w.count-is),
          )
    ]

pub returns : goal.returns
returns c =
    let a = c.args in
    let l = c.loop-i in
    let e : l.i ≡ a.n = omega arith in
    let p = points l.i a.layout a.slots.now in
    record {
      size = l.invariant.1 ∙ ap (λ n. length (points n a.layout a.slots.now)) e;
      are =
          ap (take l.count) l.invariant.2 ∙ take_at p (drop l.count a.xs.now) l.count (sym l.invariant.1)
          ∙ ap (λ n. points n a.layout a.slots.now) e;
    }
