-- `advance` meets its contract.
use Rattle.interpolation.specs.Steps.{ratio_of, ratios_of}
use Rattle.interpolation.specs.Interpolation.{Ratio, ratios, combine, with_root}
use Rattle.interpolation.proofs.Laws.{advance_right, advance-wrong}
use native.Mathlib.Omega.{arith}
use Prim.Native.Nat.{ℕ, ◌+◌}
use mathlib.Core.Path.{refl, sym, ap₂, ◌∙◌}
use Rattle.interpolation.proofs.advance.Goals as goal

pub combine-requires : goal.combine-requires
combine-requires c =
    let h = c.requires.0 in
    record { size_q = h.size_q'; size_e = h.size_e' ∙ sym h.size_e }

pub returns-then-a-eq0 : goal.returns-then-a-eq0
returns-then-a-eq0 c =
    let a = c.args in
    let p = a.first.now in
    let r = c.add_root.ensures in
    record {
      result =
          ap₂ (λ (P : Ratio) (v : ℕ). ratios (ratio_of p) p.weight P v) r.ratio r.weight
          ∙ sym (advance_right a.x a.y (ratios_of p a.second.now) (sym c.wrong_by-a.ensures ∙ c.if-a-eq0.true));
      total = omega (arith, r.weight);
      width = record { size_q = refl; size_e = refl };
      width' = r.width;
    }

pub returns : goal.returns
returns c =
    let a = c.args in
    let p = a.first.now in
    let r = a.second.now in
    let wa = c.wrong_by-a.ensures in
    let wb = c.wrong_by-b.ensures in
    let f = c.add_root-2.ensures in
    let g = c.combine.ensures in
    record {
      result =
          ap₂ (λ (P : Ratio) (u : ℕ). ratios P u (ratio_of c.combine.new.self) c.combine.new.self.weight) f.ratio f.weight
          ∙ ap₂ (λ (R : Ratio) (v : ℕ). ratios (with_root a.x (ratio_of p)) (p.weight + 1) R v) (g.ratio ∙ ap₂ (λ k l. combine k (ratio_of r) l (ratio_of p)) wa wb) g.weight
          ∙ sym (advance-wrong a.x a.y (ratios_of p r) (λ e. c.if-a-eq0.false (wa ∙ e)));
      total = omega (arith, f.weight, g.weight);
      width = f.width;
      width' = g.width;
    }
