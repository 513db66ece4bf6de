-- `mend_all` meets its contract.
use Rattle.std.proofs.Common.{◌≡◌, ℕ, length, Option, None, sym, subst, ◌∙◌, rules}
use Rattle.polynomial.specs.Polynomial.{Bytes}
use Rattle.reed_solomon.specs.Steps.{Checked, Rebuilds}
use Rattle.reed_solomon.proofs.Mending.{none_at, mended, all_right}
use Rattle.reed_solomon.proofs.mend_all.Goals as goal

-- written out, so that a guess that is not looked at is seen to be wrong
pub loop-compared-init : goal.loop-compared-init
loop-compared-init c =
    let bytes : Bytes c.args.block.now = search rules in
    (c.check-compared.ensures, c.requires, bytes)

pub returns-in_err-known : goal.returns-in_err-known
returns-in_err-known c =
    let p = c.args.pieces.now in
    let l = c.loop-compared in
    let is : c.from_residual.result ≡ None = search rules in
    let wrong =
    subst (λ (w : Option ℕ). Checked p.n p.t p.layout p.slots.now (length p.points.now) l.block 0 l.compared.named w) c.in-Some.is l.invariant.0 in
    subst (λ (r : Option ℕ). Rebuilds p.n p.t p.layout p.slots.now r c.mend.new.block) (sym is)
    (none_at p.n p.t p.layout p.slots.now p.points.now p.lent c.in-Some.s wrong.right.1 c.in_err-known.ensures)

pub loop-compared-preserved : goal.loop-compared-preserved
loop-compared-preserved c =
    let p = c.args.pieces.now in
    let l = c.loop-compared in
    let h = c.check-compared-in-Some in
    let after = c.mend.new.block in
    let bytes : Bytes after = search rules in (
      mended p.n p.t p.layout p.slots.now p.points.now p.lent l.block after c.in-Some.s l.compared.named h.result.named h.result.wrong
          (subst (λ (w : Option ℕ). Checked p.n p.t p.layout p.slots.now (length p.points.now) l.block 0 l.compared.named w) c.in-Some.is l.invariant.0)
          c.in_ok-known.ensures h.ensures,
      c.mend.auto.block ∙ l.invariant.1,
      bytes,
    )

pub returns : goal.returns
returns c =
    let p = c.args.pieces.now in
    let l = c.loop-compared in
    let none : l.compared.wrong ≡ None = search rules in
    all_right p.n p.t p.layout p.slots.now p.points.now p.lent l.block l.compared.named
    (subst (λ (w : Option ℕ). Checked p.n p.t p.layout p.slots.now (length p.points.now) l.block 0 l.compared.named w) none l.invariant.0) l.invariant.1
    l.invariant.2
