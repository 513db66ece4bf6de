-- `text::read_number` meets its contract.
use Rattle.std.proofs.Common.{rules, arith, sym, ◌∙◌}
use Rattle.text.proofs.Numbers.{value_read}
use Rattle.text.proofs.read_number.Goals as goal

pub returns : goal.returns
returns c =
    let a = c.args in
    sym (value_read a.low a.high a.f.now c.in_ok-x.x (search rules) (sym c.has_head.ensures ∙ c.if-not-has_head.false) (omega arith))
