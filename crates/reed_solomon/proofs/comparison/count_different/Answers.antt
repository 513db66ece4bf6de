-- `count_different` meets its contract.
use mathlib.Core.Path.{◌≡◌, sym, ap, ◌∙◌}
use mathlib.Core.Bool.{Bool, true, false, not}
use mathlib.Core.List.{List}
use Prim.Native.Nat.{ℕ, ◌+◌, ◌≤◌}
use native.Mathlib.Omega.{arith}
use mir.Val.{bool_byte}
use lib.Dec.{eqb}
use lib.ListN.{length, get_or}
use Rattle.lists.specs.Fill.{filled}
use Rattle.lists.specs.Sum.{ind}
use Rattle.lists.proofs.Sums.{byte_ind}
use Rattle.lists.proofs.Fills.{filled_none, fill_own, get_or-filled_past}
use Rattle.reed_solomon.specs.Steps.{counted}
use Rattle.reed_solomon.proofs.comparison.count_different.Goals as goal

byte_le : (b : Bool) → bool_byte b ≤ 1
byte_le true = omega arith
byte_le false = omega arith

pub loop-s-init : goal.loop-s-init
loop-s-init c = sym (filled_none _ _)

pub overflow_add-counts : goal.overflow_add-counts
overflow_add-counts c =
    let a = c.args in
    let l = c.loop-s in
    omega (
      arith,
      c.requires.2 l.s,
      c.from.ensures,
      byte_le (not (eqb (get_or a.piece.now l.s 0) (get_or a.m.now l.s 0))),
      ap (λ (x : List ℕ). get_or x l.s 0) l.invariant,
      get_or-filled_past (λ s. get_or a.counts.now s 0 + ind (not (eqb (get_or a.piece.now s 0) (get_or a.m.now s 0)))) l.s a.counts.now l.s 0 (omega arith),
    )

pub loop-s-preserved : goal.loop-s-preserved
loop-s-preserved c =
    let a = c.args in
    let l = c.loop-s in
    fill_own (λ s x. x + ind (not (eqb (get_or a.piece.now s 0) (get_or a.m.now s 0)))) 0 l.s a.counts.now l.counts _ (omega arith) l.invariant
    (ap (λ n. get_or l.counts l.s 0 + n) (c.from.ensures ∙ byte_ind _))

pub returns : goal.returns
unfolding counted
returns c =
    let a = c.args in
    let l = c.loop-s in
    let e : l.s ≡ length a.m.now = omega arith in
    l.invariant ∙ ap (λ n. filled (λ s. get_or a.counts.now s 0 + ind (not (eqb (get_or a.piece.now s 0) (get_or a.m.now s 0)))) n a.counts.now) e
