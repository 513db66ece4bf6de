-- `write_digits` meets its contract.
use Rattle.text.proofs.Digits.{digits_start, digits_turn, digits_end, places_left, places_turn}
use lib.ListN.{length-set}
use native.Mathlib.Omega.{arith}
use mathlib.Core.Path.{sym, ◌∙◌}
use Rattle.text.proofs.writer.write_digits.Goals as goal

pub loop-y-init : goal.loop-y-init
loop-y-init c = (omega arith, omega arith, omega arith, digits_start c.args.x c.args.b.now (omega arith))

pub overflow_sub-at : goal.overflow_sub-at
overflow_sub-at c =
    places_left c.loop-y.at c.loop-y.y (omega arith) c.loop-y.invariant.1

pub loop-y-preserved : goal.loop-y-preserved
loop-y-preserved c =
    let k = places_left c.loop-y.at c.loop-y.y (omega arith) c.loop-y.invariant.1 in (
      omega arith,
      places_turn c.loop-y.at c.loop-y.y k c.loop-y.invariant.1,
      simp length-set c.loop-y.invariant.2,
      sym (digits_turn c.loop-y.at c.loop-y.y c.digit_byte.result c.loop-y.b (omega arith) k (omega arith) c.digit_byte.ensures)
          ∙ c.loop-y.invariant.3,
    )

pub returns : goal.returns
returns c = (
  omega arith,
  sym (digits_end c.loop-y.at c.loop-y.y c.digit_byte-2.result c.loop-y.b (omega arith) (omega arith) c.digit_byte-2.ensures) ∙ c.loop-y.invariant.3,
)
