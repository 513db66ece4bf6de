-- `combine` meets its contract: p is multiplied, and then the multiple of q is added.
use mathlib.Core.Path.{sym, ap, ◌∙◌}
use mathlib.Core.List.{List}
use Prim.Native.Nat.{ℕ}
use lib.ListN.{length, get_or}
use Rattle.lists.specs.Fill.{tabulate, filled}
use Rattle.lists.proofs.Fills.{length-tabulate, get_or-tabulate, tabulate_ext, filled_all}
use Rattle.gf256.specs.Field.{gadd, gmul}
use Rattle.polynomial.proofs.Laws.{combined}
use Rattle.interpolation.proofs.combine.Goals as goal

pub returns : goal.returns
returns c =
    let a = c.args in
    let p = a.p.now in
    let q = a.q.now in
    let f : ℕ → ℕ = λ i. gmul a.a (get_or p i 0) in
    let added : List ℕ → ℕ → ℕ = λ r i. gadd (get_or r i 0) (gmul a.b (get_or q i 0)) in
    c.add_multiple.ensures
    ∙ ap (λ (r : List ℕ). filled (added r) (length q) r) c.scale.ensures
    ∙ ap (λ n. filled (added (tabulate f (length p))) n (tabulate f (length p))) (sym c.requires)
    ∙ filled_all (added (tabulate f (length p))) (length p) (tabulate f (length p)) (length-tabulate f (length p))
    ∙ tabulate_ext (added (tabulate f (length p))) (λ i. gadd (f i) (gmul a.b (get_or q i 0))) (length p)
    (λ i h. ap (λ v. gadd v (gmul a.b (get_or q i 0))) (get_or-tabulate f (length p) i 0 h))
    ∙ sym (combined a.a a.b p q c.requires)
