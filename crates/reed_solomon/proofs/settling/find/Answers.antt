-- `find` meets its contract: bytes that are right, or the candidate is not and so nothing is.
use mathlib.Core.Path.{◌≡◌, sym, ap, ◌∙◌}
use native.Mathlib.Omega.{arith}
use Rattle.interpolation.specs.Interpolation.{candidate}
use Rattle.interpolation.proofs.Laws.{into_candidate}
use Rattle.reed_solomon.specs.Steps.{is_right}
use Rattle.reed_solomon.proofs.Rule.{none_right}
use Rattle.reed_solomon.proofs.settling.find.Goals as goal

pub returns : goal.returns
returns c =
    let a = c.args in
    let p = a.pieces.now in
    let xs = p.points.now in
    let ys = a.ys.now in
    let h = p.lent.pointed in
    let is : c.candidate.new.m ≡ candidate p.t xs ys =
    c.candidate.ensures ∙ into_candidate xs ys c.try_guesses.new.m p.t c.requires.0 (c.try_guesses.auto.m ∙ c.requires.1) (omega (arith, h.few, h.few-faulty)) in
    none_right p.t xs ys h (sym (ap (is_right p.t xs ys) is) ∙ sym c.is_right.ensures ∙ c.if-is_right.false)
