-- The rule for one stripe as the code tests it: values at many points, the marks of those that differ, and their number. The main laws: `values_step`, a
-- step of Horner's rule at all points, and `size_different`, as many are marked as differ.
use mathlib.Core.Path.{◌≡◌, sym, ap, ◌∙◌}
use mathlib.Core.Bool.{Bool, not}
use mathlib.Core.List.{List}
use Prim.Native.Nat.{ℕ, ◌+◌, ◌≤◌, ◌<◌}
use native.Mathlib.Omega.{arith}
use lib.Dec.{eqb}
use lib.ListN.{length, get_or, drop, replicate}
use Rattle.lists.specs.Sum.{count}
use Rattle.lists.specs.Fill.{tabulate, filled}
use Rattle.lists.proofs.Sums.{count_ext}
use Rattle.lists.proofs.Fills.{length-tabulate, get_or-tabulate, tabulate_ext, tabulate_const, filled_all}
use Rattle.bitset.specs.Set.{size_of}
use Rattle.bitset.proofs.Laws.{size_set}
use Rattle.gf256.specs.Field.{gadd, gmul}
use Rattle.polynomial.specs.Polynomial.{evaluate, horner, Bytes}
use Rattle.polynomial.proofs.Laws.{evaluate-horner, horner_end, horner-drop}
use Rattle.reed_solomon.specs.Steps.{values_at, differences, unequal, different}

-- ---- values at many points
-- the values of the last coefficients of m, from index j on
abbrev pub values_from : (m xs : List ℕ) → ℕ → List ℕ
values_from m xs j = tabulate (λ i. horner (drop j m) (get_or xs i 0)) (length xs)

module _ (m xs : List ℕ) where
  pub values_none : replicate (length xs) 0 ≡ values_from m xs (length m)
  values_none =
      sym
      (tabulate_ext (λ i. horner (drop (length m) m) (get_or xs i 0)) (λ _. 0) (length xs) (λ i l. horner_end m (get_or xs i 0))
      ∙ tabulate_const 0 (length xs))

  pub values_step : (out : List ℕ) (j : ℕ) → j < length m → out ≡ values_from m xs (j + 1)
      → filled (λ i. gadd (get_or m j 0) (gmul (get_or xs i 0) (get_or out i 0))) (length xs) out ≡ values_from m xs j
  values_step out j h e =
      let f : ℕ → ℕ = λ i. gadd (get_or m j 0) (gmul (get_or xs i 0) (get_or out i 0)) in
      let g : ℕ → ℕ = λ i. horner (drop (j + 1) m) (get_or xs i 0) in
      filled_all f (length xs) out (ap length e ∙ length-tabulate g (length xs))
      ∙ tabulate_ext f (λ i. horner (drop j m) (get_or xs i 0)) (length xs)
      (λ i l.
      ap (λ v. gadd (get_or m j 0) (gmul (get_or xs i 0) v)) (ap (λ (o : List ℕ). get_or o i 0) e ∙ get_or-tabulate g (length xs) i 0 l)
      ∙ sym (horner-drop m (get_or xs i 0) j h))

  pub values_all : Bytes m → values_from m xs 0 ≡ values_at m xs
  unfolding values_at
  values_all h =
      tabulate_ext (λ i. horner (drop 0 m) (get_or xs i 0)) (λ i. evaluate m (get_or xs i 0)) (length xs) (λ i l. sym (evaluate-horner m (get_or xs i 0) h))

pub length-values : (m xs : List ℕ) → length (values_at m xs) ≡ length xs
unfolding values_at
length-values m xs = length-tabulate (λ i. evaluate m (get_or xs i 0)) (length xs)

-- ---- as many are marked as differ
pub size_different : (xs ys m : List ℕ) → length xs ≤ 16 → size_of (different xs ys m) ≡ differences xs ys m
unfolding different unequal values_at differences
size_different xs ys m few =
    let value : ℕ → ℕ = λ i. evaluate m (get_or xs i 0) in
    let p : ℕ → Bool = λ i. not (eqb (get_or (values_at m xs) i 0) (get_or ys i 0)) in
    size_set (length (values_at m xs)) p (omega (arith, length-values m xs))
    ∙ ap (λ n. count n p) (length-values m xs)
    ∙ count_ext (length xs) p (λ i. not (eqb (value i) (get_or ys i 0)))
    (λ i l. ap (λ v. not (eqb v (get_or ys i 0))) (get_or-tabulate value (length xs) i 0 l))
