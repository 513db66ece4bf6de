-- `bits_of` meets its contract.
use Rattle.graph.proofs.Making.{bits_to, bits_start, bits_more, bits_all}
use Rattle.graph.proofs.Bits.{missing-place}
use Rattle.graph.proofs.Order.{place_first, place_next, place_turn, place_end}
use Rattle.graph.specs.Neighbour.{neighbour}
use Rattle.graph.specs.Pairs.{place}
use Rattle.graph.specs.Bits.{missing_at}
use native.Mathlib.Omega.{arith}
use mathlib.Core.Path.{◌≡◌, sym, ap, ◌∙◌}
use Prim.Native.Nat.{ℕ, ◌+◌, ◌<◌}
use Rattle.graph.proofs.bits_of.Goals as goal

pub loop-i-init : goal.loop-i-init
loop-i-init c = bits_start _ _ ∙ ap (bits_to _ _) (sym place_first)

pub loop-j-preserved : goal.loop-j-preserved
loop-j-preserved c =
    let A = c.args in
    let adj = neighbour A.rows.now in
    let p = c.place-p.result in
    let below : c.loop-i.i < c.loop-j.j = omega arith in
    let at : p ≡ place c.loop-i.i c.loop-j.j = c.place-p.ensures.0 in
    bits_more A.n adj c.loop-j.bits p c.with_bit.result c.is_missing.result c.place-p.ensures.1
    (c.loop-j.invariant ∙ ap (bits_to A.n adj) (sym at))
    (c.is_missing.ensures ∙ sym (ap (missing_at A.n adj) at ∙ missing-place A.n adj c.loop-i.i c.loop-j.j below c.loop-j-test.true))
    c.with_bit.ensures
    ∙ ap (bits_to A.n adj) (ap (λ (x : ℕ). x + 1) at ∙ sym (place_next c.loop-i.i c.loop-j.j below))

pub loop-i-preserved : goal.loop-i-preserved
loop-i-preserved c =
    let all : c.loop-j.j ≡ 16 = omega arith in
    c.loop-j.invariant ∙ ap (bits_to c.args.n (neighbour c.args.rows.now)) (ap (place c.loop-i.i) all ∙ place_turn c.loop-i.i c.loop-i-test.true)

pub returns : goal.returns
returns c =
    let A = c.args in
    let adj = neighbour A.rows.now in
    let all : c.loop-i.i ≡ 16 = omega arith in
    c.loop-i.invariant ∙ ap (λ (x : ℕ). bits_to A.n adj (place x (x + 1))) all ∙ ap (bits_to A.n adj) place_end ∙ bits_all A.n adj
