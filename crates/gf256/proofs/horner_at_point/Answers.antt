-- `horner_at_point` meets its contract: the two loops, one after the other.
use mathlib.Core.Path.{◌≡◌, sym, ap, ◌∙◌}
use mathlib.Core.List.{List}
use mathlib.Core.Logic.{⊎_elim}
use Prim.Native.Nat.{ℕ, ◌≤◌, ◌<◌}
use native.Mathlib.Omega.{arith}
use lib.ListN.{length, get_or, get_or-eq_default}
use lib.Seq.{ext_get_or}
use Rattle.lists.specs.Fill.{tabulate, filled}
use Rattle.lists.proofs.Fills.{length-tabulate, get_or-tabulate, length-filled, get_or-filled, get_or-filled_past}
use Rattle.lists.proofs.Tests.{lt_or_le}
use Rattle.gf256.specs.Field.{gadd, gmul}
use Rattle.gf256.proofs.Laws.{gadd_comm, gadd-zero_l}
use Rattle.gf256.proofs.horner_at_point.Goals as goal

module _ (x : ℕ) (p cs : List ℕ) where
  abbrev product : ℕ → ℕ
  product i = gmul x (get_or p i 0)

  -- cs added to the products, as far as it reaches
  both_loops : filled (λ i. gadd (get_or (tabulate product (length p)) i 0) (get_or cs i 0)) (length cs) (tabulate product (length p))
      ≡ tabulate (λ i. gadd (get_or cs i 0) (product i)) (length p)
  both_loops =
      let q = tabulate product (length p) in
      let f : ℕ → ℕ = λ i. gadd (get_or q i 0) (get_or cs i 0) in
      let g : ℕ → ℕ = λ i. gadd (get_or cs i 0) (product i) in
      let long : length (filled f (length cs) q) ≡ length p = length-filled f (length cs) q ∙ length-tabulate product (length p) in
      ext_get_or 0 (filled f (length cs) q) (tabulate g (length p)) (long ∙ sym (length-tabulate g (length p)))
      (λ i l.
      let u : i < length p = omega (arith, long) in
      let e : get_or q i 0 ≡ product i = get_or-tabulate product (length p) i 0 u in
      ⊎_elim
      (λ (h : i < length cs).
      get_or-filled f (length cs) q i 0 h (omega (arith, length-tabulate product (length p)))
      ∙ ap (λ y. gadd y (get_or cs i 0)) e
      ∙ gadd_comm (product i) (get_or cs i 0))
      (λ (h : length cs ≤ i).
      get_or-filled_past f (length cs) q i 0 h
      ∙ e
      ∙ sym (ap (λ c. gadd c (product i)) (get_or-eq_default cs 0 h) ∙ gadd-zero_l (product i)))
      (lt_or_le i (length cs))
      ∙ sym (get_or-tabulate g (length p) i 0 u))

pub returns : goal.returns
returns c =
    let a = c.args in
    let cs = a.cs.now in
    c.add_all.ensures
    ∙ ap (λ (q : List ℕ). filled (λ i. gadd (get_or q i 0) (get_or cs i 0)) (length cs) q) c.scale.ensures
    ∙ both_loops a.x a.p.now cs
