-- `next` meets its contract.
use Rattle.interpolation.specs.Steps.{ratios_of}
use Rattle.interpolation.specs.Interpolation.{swapped}
use Rattle.interpolation.proofs.Laws.{next_first, next_second}
use native.Mathlib.Omega.{arith}
use mathlib.Core.Path.{sym, ap, ◌∙◌}
use Rattle.interpolation.proofs.next.Goals as goal

pub advance-requires-else-first-second : goal.advance-requires-else-first-second
advance-requires-else-first-second c =
    let h = c.requires.0 in
    (record { size_e = h.size_e' ∙ sym h.size_q'; size_q' = sym h.size_q'; size_e' = h.size_e ∙ sym h.size_q' }, omega arith)

pub returns-then-first-second : goal.returns-then-first-second
returns-then-first-second c =
    let a = c.args in
    let r = c.advance.ensures in
    record {
      result = r.result ∙ sym (next_first a.x a.y (ratios_of a.first.now a.second.now) c.if-first-second.true);
      total = r.total;
      width = r.width;
      width' = r.width';
    }

pub returns-else-first-second : goal.returns-else-first-second
returns-else-first-second c =
    let a = c.args in
    let r = c.advance-else-first-second.ensures in
    record {
      result = ap swapped r.result ∙ sym (next_second a.x a.y (ratios_of a.first.now a.second.now) c.if-first-second.false);
      total = omega (arith, r.total);
      width = r.width';
      width' = r.width;
    }
