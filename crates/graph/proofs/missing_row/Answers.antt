-- `missing_row` meets its contract.
use Rattle.graph.proofs.Neighbours.{missing_is, missing_none}
use Rattle.graph.proofs.Bits.{missing_16}
use Rattle.graph.specs.Bits.{adjacent}
use Rattle.bitset.proofs.Laws.{set_none, set_more, set_lt_16}
use Rattle.bitset.specs.Set.{set_of}
use native.Mathlib.Omega.{arith}
use mathlib.Core.Bool.{not}
use mathlib.Core.Path.{◌≡◌, sym, ap, ap₂, ◌∙◌}
use Prim.Native.Nat.{ℕ, ◌+◌, ◌*◌, ◌^◌, min}
use Rattle.graph.proofs.missing_row.Goals as goal

pub returns-then-m-i : goal.returns-then-m-i
returns-then-m-i c =
    let A = c.args in
    sym (missing_16 A.bits A.n A.i ∙ missing_none (min A.n 16) (adjacent A.bits) A.i (omega arith))

pub loop-j-init : goal.loop-j-init
loop-j-init c = sym (set_none _)

-- the set with one digit more
next : (c : goal.After-shifted-s) → c.loop-j.s + c.shifted-s.result ≡ set_of (c.loop-j.j + 1) (λ x. not (adjacent c.args.bits c.args.i x))
next c =
    ap₂ (λ (x y : ℕ). x + y) c.loop-j.invariant (c.shifted-s.ensures ∙ ap (λ (x : ℕ). x * 2 ^ c.loop-j.j) c.missing_digit.ensures)
    ∙ sym (set_more c.loop-j.j (λ x. not (adjacent c.args.bits c.args.i x)))

pub overflow_add-s : goal.overflow_add-s
overflow_add-s c =
    omega (arith, next c, set_lt_16 (c.loop-j.j + 1) (λ x. not (adjacent c.args.bits c.args.i x)) (omega arith))

pub loop-j-preserved : goal.loop-j-preserved
loop-j-preserved c = next c

pub returns : goal.returns
returns c =
    let A = c.args in
    let all : c.loop-j.j ≡ min A.n 16 = omega arith in
    c.loop-j.invariant ∙ ap (λ (x : ℕ). set_of x (λ y. not (adjacent A.bits A.i y))) all
    ∙ missing_is (min A.n 16) (adjacent A.bits) A.i (omega arith) ∙ sym (missing_16 A.bits A.n A.i)
