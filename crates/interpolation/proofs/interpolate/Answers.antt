-- `interpolate` meets its contract.
use Rattle.interpolation.proofs.Zeros.{set-constant, zeros-constant}
use Rattle.interpolation.proofs.Laws.{start_state, run_none, run_more}
use Rattle.interpolation.specs.Interpolation.{Ratio, ratio, ratios, constant, run, next}
use lib.ListN.{length, get_or, set, length-replicate, length-set}
use native.Mathlib.Omega.{arith}
use Prim.Native.Nat.{ℕ, ◌+◌}
use mathlib.Core.List.{List}
use mathlib.Core.Path.{◌≡◌, sym, ap, ap₂, ◌∙◌}
use Rattle.interpolation.proofs.interpolate.Goals as goal

pub loop-i-init : goal.loop-i-init
loop-i-init c =
    let h = c.requires in
    let p = c.args.first.now in
    let r = c.args.second.now in
    let t = r.weight in
    let w = length c.args.xs.now + t + 1 in
    let long : (l : List ℕ) → l ≡ _ → length l ≡ w = λ l e. ap length e ∙ length-replicate w 0 in
    let A : ratio (set p.q.now 0 1) p.e.now ≡ ratio (constant w 1) (constant w 0) =
    ap₂ ratio (ap (λ l. set l 0 1) h.zero_q ∙ set-constant w 1 (omega arith)) (h.zero_e ∙ zeros-constant w (omega arith)) in
    let B : ratio r.q.now (set r.e.now 0 1) ≡ ratio (constant w 0) (constant w 1) =
    ap₂ ratio (h.zero_q' ∙ zeros-constant w (omega arith)) (ap (λ l. set l 0 1) h.zero_e' ∙ set-constant w 1 (omega arith)) in
    let size : length (set p.q.now 0 1) ≡ w = length-set p.q.now 0 1 ∙ long p.q.now h.zero_q in (
      omega (arith, h.least),
      record {
        size_e = long p.e.now h.zero_e ∙ sym size;
        size_q' = long r.q.now h.zero_q' ∙ sym size;
        size_e' = length-set r.e.now 0 1 ∙ long r.e.now h.zero_e' ∙ sym size;
      },
      size,
      ap (λ u. ratios (ratio (set p.q.now 0 1) p.e.now) u (ratio r.q.now (set r.e.now 0 1)) t) h.least
          ∙ ap₂ (λ (P R : Ratio). ratios P 0 R t) A B ∙ sym (run_none t c.args.xs.now c.args.ys.now ∙ start_state w t),
    )

pub loop-i-preserved : goal.loop-i-preserved
loop-i-preserved c =
    let a = c.args in
    let l = c.loop-i in
    let inv = l.invariant in
    let s = inv.1 in
    let r = c.next.ensures in (
      omega (arith, r.total, inv.0),
      record {
        size_e = sym r.width.size_e ∙ s.size_e ∙ r.width.size_q;
        size_q' = sym r.width'.size_q ∙ s.size_q' ∙ r.width.size_q;
        size_e' = sym r.width'.size_e ∙ s.size_e' ∙ r.width.size_q;
      },
      sym r.width.size_q ∙ inv.2,
      r.result ∙ ap (next (get_or a.xs.now l.i 0) (get_or a.ys.now l.i 0)) inv.3 ∙ sym (run_more a.second.now.weight a.xs.now a.ys.now l.i),
    )

pub returns-clause-state : goal.returns-clause-state
returns-clause-state c =
    let a = c.args in
    let e : c.loop-i.i ≡ length a.xs.now = omega arith in
    c.loop-i.invariant.3 ∙ ap (run a.second.now.weight a.xs.now a.ys.now) e
