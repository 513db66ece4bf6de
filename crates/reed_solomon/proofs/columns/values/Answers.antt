-- `values` meets its contract.
use mathlib.Core.Path.{◌≡◌, refl, ap, ◌∙◌}
use Prim.Native.Nat.{ℕ, ◌+◌, ◌-◌, ◌*◌, ◌≤◌, ◌<◌}
use native.Mathlib.Nat.{mul_comm}
use native.Mathlib.Omega.{arith}
use lib.ListN.{length}
use Rattle.lists.proofs.Parts.{part_rest, next_offset, slot_within}
use Rattle.reed_solomon.proofs.Rows.{multiple_less, multiple_zero, rows_from, standing, length_rows, row_end, row_step, row_all}
use Rattle.reed_solomon.proofs.columns.values.Goals as goal

-- the last column
last : (r t n : ℕ) → n ≡ r * (t + 1) → n ≡ t * r + r
last r t n e = omega (arith, e, mul_comm r (t + 1), next_offset t r)

-- a column before that at j lies before it, and within
before : (r t n j a : ℕ) → n ≡ r * (t + 1) → a ≡ j * r → j ≤ t → 0 < a → (r ≤ a) × (a ≤ n)
before r t n j a e q h g =
    let m = multiple_less j a r q g in
    (omega (arith, m.2), omega (arith, m.2, slot_within t r m.0 (omega (arith, m.1)), last r t n e))

pub loop-a-init : goal.loop-a-init
loop-a-init c =
    let a = c.args in
    let r = length a.out.now in (
      a.t,
      c.copy_from_slice.auto.self,
      refl,
      omega arith,
      c.copy_from_slice.ensures.after ∙ part_rest (a.t * r) a.cols.now ∙ row_end r a.t a.cols.now a.x c.requires.0,
    )

pub overflow_sub-a : goal.overflow_sub-a
overflow_sub-a c =
    let l = c.loop-a in
    (before (length c.args.out.now) c.args.t (length c.args.cols.now) l.invariant.0 l.a c.requires.0 l.invariant.2 l.invariant.3 (omega arith)).0

pub slice_bounds-horner_at_point-count : goal.slice_bounds-horner_at_point-count
slice_bounds-horner_at_point-count c = omega arith

pub slice_bounds-horner_at_point-end : goal.slice_bounds-horner_at_point-end
slice_bounds-horner_at_point-end c =
    let l = c.loop-a in
    (before (length c.args.out.now) c.args.t (length c.args.cols.now) l.invariant.0 l.a c.requires.0 l.invariant.2 l.invariant.3 (omega arith)).1

pub loop-a-smaller : goal.loop-a-smaller
loop-a-smaller c =
    omega (arith, c.requires.1, c.loop-a-test.true)

pub loop-a-preserved : goal.loop-a-preserved
loop-a-preserved c =
    let a = c.args in
    let r = length a.out.now in
    let l = c.loop-a in
    let d = c.horner_at_point in
    let m = multiple_less l.invariant.0 l.a r l.invariant.2 (omega (arith, c.loop-a-test.true)) in
    let is = d.ensures
    ∙ row_step r a.t a.cols.now a.x m.0 (l.a - r) (l.a - (l.a - r)) l.out (omega (arith, m.1, l.invariant.3)) (omega (arith, m.2))
    (omega (arith, m.2)) (l.invariant.4 ∙ ap (rows_from r (standing r a.t a.cols.now a.x) a.x) m.1) in
    (m.0, ap length is ∙ length_rows r (standing r a.t a.cols.now a.x) a.x m.0, omega (arith, m.2), omega (arith, m.1, l.invariant.3), is)

pub shape_of-out : goal.shape_of-out
shape_of-out c = c.loop-a.invariant.1

pub returns : goal.returns
returns c =
    let a = c.args in
    let r = length a.out.now in
    let l = c.loop-a in
    let none : l.invariant.0 ≡ 0 = multiple_zero l.invariant.0 r c.requires.1 (omega (arith, l.invariant.2, c.loop-a-test.false)) in
    l.invariant.4 ∙ ap (rows_from r (standing r a.t a.cols.now a.x) a.x) none
    ∙ row_all r a.t a.cols.now a.x (λ i. omega (arith, c.type_inv.cols i))
