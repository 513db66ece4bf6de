-- `star::is_large` meets its contract.
use Rattle.star.proofs.Parts.{few-c, few-d, few-f, rest_e}
use Rattle.bitset.proofs.Laws.{size_le}
use lib.Dec.{leb}
use borrow.Author.Tests.{lt-leb}
use native.Mathlib.Omega.{arith}
use Prim.Native.Nat.{ℕ, ◌+◌, ◌*◌}
use mathlib.Core.Path.{ap, ◌∙◌}
use Rattle.star.proofs.is_large.Goals as goal
use Rattle.star.proofs.is_large.Goals.{then-size-t-via-then-size-t, then-size-t-via-else-size-t+then-size-t-2}

pub overflow_add-size : goal.overflow_add-size
overflow_add-size c = omega (arith, c.size.ensures, size_le c.args.s.c)

pub overflow_add-size-else-size-t : goal.overflow_add-size-else-size-t
overflow_add-size-else-size-t c = omega (arith, c.size-else-size-t.ensures, size_le c.args.s.d)

pub returns-then-size-t : goal.returns-then-size-t
returns-then-size-t c =
    elim c.then-size-t.branch [
      | then-size-t-via-then-size-t w ↦ few-c _ _ _ (omega (arith, c.size.ensures, w.if-size-t.true))
      | then-size-t-via-else-size-t+then-size-t-2 w ↦
          few-d _ _ _ (omega (arith, c.size.ensures, w.if-size-t.false)) (omega (arith, w.size-else-size-t.ensures, w.if-size-t-2.true))
    ]

pub returns-then-t-size : goal.returns-then-t-size
returns-then-t-size c =
    ap (λ (x : ℕ). leb (2 * c.args.t + 1) x) c.size-then-t-size.ensures ∙ rest_e _ _ _ (omega arith) (omega arith) (omega arith)

pub returns-else-t-size : goal.returns-else-t-size
returns-else-t-size c = lt-leb _ _ (omega arith) ∙ few-f _ _ _ (omega arith) (omega arith) (omega arith)
