-- The definitions as equations, for the proofs of code that computes them.
use mathlib.Core.Path.{◌≡◌, refl, ap, ◌∙◌}
use mathlib.Core.Bool.{◌&&◌}
use mathlib.Core.List.{List, [], ◌∷◌}
use Prim.Native.Nat.{ℕ, suc, ◌+◌, ◌-◌, ◌≤◌, ◌<◌}
use native.Mathlib.Numerals.{add-one}
use native.Mathlib.Omega.{arith}
use borrow.Author.Tests.{eq-eqb, ne_eqb, le-leb, lt-leb}
use lib.Dec.{eqb, leb}
use lib.ListN.{length, get_or}
use Rattle.gf256.specs.Field.{gadd, gmul, ginv}
use Rattle.lists.specs.Sum.{count}
use Rattle.lists.specs.Fill.{tabulate}
use Rattle.lists.proofs.Tests.{cond_yes, cond_no, and_no_left, and_no_right, and_both}
use Rattle.polynomial.specs.Polynomial.{evaluate, horner, plus, scale, times_root}
use Rattle.interpolation.specs.Interpolation.{agreements, Ratio, ratio, wrong_by, combine, with_root, Ratios, ratios, swapped, constant, start, advance}
use Rattle.interpolation.specs.Interpolation.{next, run, smaller, reduced, series, candidate, most, can_try, candidate_into}

pub agreements-count : (xs ys m : List ℕ) → agreements xs ys m ≡ count (length xs) (λ i. eqb (evaluate m (get_or xs i 0)) (get_or ys i 0))
unfolding agreements
agreements-count xs ys m = refl

pub wrong-values : (y : ℕ) (q e : List ℕ) (x : ℕ) → wrong_by y (ratio q e) x ≡ gadd (horner q x) (gmul y (horner e x))
unfolding wrong_by
wrong-values y q e x = refl

pub root_pair : (x : ℕ) (q e : List ℕ) → with_root x (ratio q e) ≡ ratio (times_root x q) (times_root x e)
unfolding with_root
root_pair x q e = refl

pub combine_pair : (a b : ℕ) (q e q' e' : List ℕ) → combine a (ratio q e) b (ratio q' e') ≡ ratio (plus (scale a q) (scale b q'))
    (plus (scale a e) (scale b e'))
unfolding combine
combine_pair a b q e q' e' = refl

module _ (x y : ℕ) (s : Ratios) where
  pub advance_right : wrong_by y s.A x ≡ 0 → advance x y s ≡ ratios s.A s.u (with_root x s.B) (s.v + 1)
  unfolding advance
  advance_right e = cond_yes (eqb (wrong_by y s.A x) 0) _ _ (eq-eqb (wrong_by y s.A x) 0 e)

  pub advance-wrong : (wrong_by y s.A x ≡ 0 → ⊥)
      → advance x y s ≡ ratios (with_root x s.A) (s.u + 1) (combine (wrong_by y s.A x) s.B (wrong_by y s.B x) s.A) s.v
  unfolding advance
  advance-wrong n = cond_no (eqb (wrong_by y s.A x) 0) _ _ (ne_eqb (wrong_by y s.A x) 0 n)

  pub next_first : s.u ≤ s.v → next x y s ≡ advance x y s
  unfolding next
  next_first l = cond_yes (leb s.u s.v) _ _ (le-leb s.u s.v l)

  pub next_second : s.v < s.u → next x y s ≡ swapped (advance x y (swapped s))
  unfolding next
  next_second l = cond_no (leb s.u s.v) _ _ (lt-leb s.u s.v l)

pub start_state : (w t : ℕ) → start w t ≡ ratios (ratio (constant w 1) (constant w 0)) 0 (ratio (constant w 0) (constant w 1)) t
unfolding start
start_state w t = refl

pub run_none : (t : ℕ) (xs ys : List ℕ) → run t xs ys 0 ≡ start (length xs + t + 1) t
unfolding run
run_none t xs ys = refl

pub run_more : (t : ℕ) (xs ys : List ℕ) (i : ℕ) → run t xs ys (i + 1) ≡ next (get_or xs i 0) (get_or ys i 0) (run t xs ys i)
unfolding run
run_more t xs ys i = rw add-one

pub smaller_first : (s : Ratios) → s.u ≤ s.v → smaller s ≡ s.A
unfolding smaller
smaller_first s l = cond_yes (leb s.u s.v) _ _ (le-leb s.u s.v l)

pub smaller-second : (s : Ratios) → s.v < s.u → smaller s ≡ s.B
unfolding smaller
smaller-second s l = cond_no (leb s.u s.v) _ _ (lt-leb s.u s.v l)

pub reduced-filled : (c : ℕ) (q e : List ℕ) → reduced c q e ≡ tabulate (λ i. gadd (get_or q (suc i) 0) (gmul c (get_or e (suc i) 0))) (length q)
unfolding reduced
reduced-filled c q e = refl

pub series_none : (q e : List ℕ) → series 0 q e ≡ []
unfolding series
series_none q e = refl

pub series-suc : (n c : ℕ) (q e : List ℕ) → c ≡ gmul (get_or q 0 0) (ginv (get_or e 0 0)) → series (suc n) q e ≡ c ∷ series n (reduced c q e) e
unfolding series
series-suc n c q e h = rw h

pub candidate-series : (t : ℕ) (xs ys : List ℕ) (P : Ratio) → smaller (run t xs ys (length xs)) ≡ P → candidate t xs ys ≡ series (t + 1) P.Q P.E
unfolding candidate
candidate-series t xs ys P e = rw e

-- ---- the candidate as the code hands it out
module _ (xs ys m : List ℕ) where
  pub into_uneven : (length ys ≡ length xs → ⊥) → candidate_into xs ys m ≡ m
  unfolding candidate_into
  into_uneven n =
      cond_no (can_try xs ys m) _ m (and_no_left (eqb (length ys) (length xs)) (leb 1 (length m) && leb (length xs + length m) most)
      (ne_eqb (length ys) (length xs) n))

  pub into_none : length m ≡ 0 → candidate_into xs ys m ≡ m
  unfolding candidate_into
  into_none e =
      cond_no (can_try xs ys m) _ m
      (and_no_right (eqb (length ys) (length xs)) (leb 1 (length m) && leb (length xs + length m) most)
      (and_no_left (leb 1 (length m)) (leb (length xs + length m) most) (lt-leb 1 (length m) (omega arith))))

  pub into_many : most < length xs + length m → candidate_into xs ys m ≡ m
  unfolding candidate_into
  into_many l =
      cond_no (can_try xs ys m) _ m
      (and_no_right (eqb (length ys) (length xs)) (leb 1 (length m) && leb (length xs + length m) most)
      (and_no_right (leb 1 (length m)) (leb (length xs + length m) most) (lt-leb (length xs + length m) most l)))

  pub into_candidate : (t : ℕ) → length ys ≡ length xs → length m ≡ t + 1 → length xs + t + 1 ≤ most → candidate_into xs ys m ≡ candidate t xs ys
  unfolding candidate_into
  into_candidate t e h l =
      let b : length m - 1 ≡ t = omega arith in
      cond_yes (can_try xs ys m) _ m
      (and_both (eqb (length ys) (length xs)) (leb 1 (length m) && leb (length xs + length m) most) (eq-eqb (length ys) (length xs) e)
      (and_both (leb 1 (length m)) (leb (length xs + length m) most) (le-leb 1 (length m) (omega arith)) (le-leb (length xs + length m) most (omega arith))))
      ∙ ap (λ n. candidate n xs ys) b
