-- `encode_columns` meets its contract.
use mathlib.Core.Path.{◌≡◌, sym, ap, ◌∙◌}
use Prim.Native.Nat.{◌+◌, ◌-◌, ◌*◌}
use native.Mathlib.Omega.{arith}
use lib.ListN.{length}
use Rattle.reed_solomon.specs.Encode.{stripe, piece_of}
use Rattle.reed_solomon.specs.Steps.{every}
use Rattle.reed_solomon.proofs.Rows.{rows_from, piece_end, piece_step, piece_all}
use Rattle.reed_solomon.proofs.encode_columns.Goals as goal

pub loop-j-init : goal.loop-j-init
loop-j-init c =
    let a = c.args in
    c.take_column.ensures ∙ ap (every (a.t + 1) a.block.now a.t) (sym c.requires.2)
    ∙ piece_end (length a.column.now) a.t a.block.now a.x (c.requires.1 ∙ ap (λ n. n * (a.t + 1)) (sym c.requires.2))

pub loop-j-preserved : goal.loop-j-preserved
loop-j-preserved c =
    let a = c.args in
    let l = c.loop-j in
    let d = c.take_column-in-loop-j in
    let k = length a.column.now in
    let j = l.j - 1 in
    let next : l.j ≡ j + 1 = omega arith in
    c.horner_at_point.ensures
    ∙ piece_step k a.t a.block.now a.x (c.requires.1 ∙ ap (λ n. n * (a.t + 1)) (sym c.requires.2)) j d.new.out l.piece (omega arith)
    (d.ensures ∙ ap (every (a.t + 1) a.block.now j) l.auto.column) (l.invariant ∙ ap (rows_from k (stripe a.t a.block.now) a.x) next)

pub returns : goal.returns
returns c =
    let a = c.args in
    let l = c.loop-j in
    let k = length a.column.now in
    let none : l.j ≡ 0 = omega arith in
    l.invariant
    ∙ ap (rows_from k (stripe a.t a.block.now) a.x) none
    ∙ piece_all k a.t a.block.now a.x (c.requires.1 ∙ ap (λ n. n * (a.t + 1)) (sym c.requires.2)) (λ i. omega (arith, c.type_inv.block i))
    ∙ ap (λ n. piece_of n a.t a.block.now a.x) c.requires.2
