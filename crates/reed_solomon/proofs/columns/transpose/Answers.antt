-- `transpose` meets its contract.
use mathlib.Core.Path.{◌≡◌, sym, ap, ap₂, ◌∙◌}
use mathlib.Core.List.{List, ◌++◌, append-nil}
use Prim.Native.Nat.{ℕ, ◌+◌, ◌-◌, ◌*◌}
use native.Mathlib.Nat.{zero-mul, mul_comm}
use native.Mathlib.Omega.{arith}
use borrow.Rule.Slice.PartMut.{put_mid}
use lib.ListN.{length, take, drop, drop_of_length-le}
use Rattle.lists.specs.Join.{joined}
use Rattle.lists.proofs.Joins.{joined_none, joined_more, length-joined}
use Rattle.lists.proofs.Parts.{next_offset, put_next, length-lent}
use Rattle.reed_solomon.proofs.Rows.{length-every, column-within}
use Rattle.reed_solomon.specs.Steps.{every, transposed}
use Rattle.reed_solomon.proofs.columns.transpose.Goals as goal

pub loop-j-init : goal.loop-j-init
loop-j-init c =
    let a = c.args in
    sym (ap₂ ◌++◌ (joined_none (λ i. every a.w a.l.now i a.h)) (ap (λ n. drop n a.out.now) (zero-mul a.h)))

pub loop-j-preserved : goal.loop-j-preserved
loop-j-preserved c =
    let a = c.args in
    let l = c.loop-j in
    let d = c.take_column in
    let m = d.new.out in
    let z = l.j * a.h in
    let g : ℕ → List ℕ = λ i. every a.w a.l.now i a.h in
    let lent : length (take (z + a.h - z) (drop z l.out)) ≡ a.h =
    length-lent z a.h l.out (omega (arith, column-within a.h a.w l.j (length a.out.now) (omega arith) c.requires.1, l.auto.out)) in
    ap (λ (x : List ℕ). put_mid z (z + a.h - z) x m) l.invariant
    ∙ put_next (joined g l.j) m a.out.now z (z + a.h)
    (length-joined a.h g l.j (λ i _. length-every a.w a.l.now i a.h)) (omega arith)
    ∙ ap₂ (λ (x : List ℕ) (e : ℕ). x ++ drop e a.out.now)
    (ap (λ (x : List ℕ). joined g l.j ++ x) (d.ensures ∙ ap (every a.w a.l.now l.j) lent) ∙ sym (joined_more g l.j))
    (sym (next_offset l.j a.h))

pub returns : goal.returns
unfolding transposed
returns c =
    let a = c.args in
    let l = c.loop-j in
    let g : ℕ → List ℕ = λ i. every a.w a.l.now i a.h in
    let e : l.j ≡ a.w = omega arith in
    l.invariant
    ∙ ap (λ (x : List ℕ). joined g l.j ++ x)
    (drop_of_length-le a.out.now {i = l.j * a.h} (omega (arith, c.requires.1, ap (λ n. n * a.h) e, mul_comm a.w a.h)))
    ∙ append-nil (joined g l.j) ∙ ap (joined g) e
