-- Interpolation of a polynomial through values some of which are wrong (Welch and Berlekamp), by pairs of polynomials that are made
-- right for one point after the other (Kötter). A pair Q, E is right at x, where y was received, when Q(x) = y E(x). Its weighted degree
-- is the larger of the degree of Q and t more than that of E. What the result is worth is said by the laws `recovers` and `unique`.
--   agreements xs ys m      the number of points of the list xs at which m takes the value that the list ys has
--   Ratio, ratio q e        a pair Q, E
--   wrong_by y P x          Q(x) - y E(x)
--   combine a B b A         a B + b A
--   with_root x A           X + x times A
--   Ratios, ratios          two pairs and bounds of their weighted degrees
--   swapped s               the other pair first
--   constant w c            the polynomial c, in w coefficients
--   start w t               1, 0 and 0, 1, in w coefficients
--   advance x y s           a point more, where A has the smaller bound: if A is right there, it stays, and B gets the root x; else A gets it, and B is
--                           made right there by A
--   next x y s              the same, whichever has the smaller bound
--   run t xs ys i           the state after the first i points
--   smaller s               the pair of the smaller bound
--   reduced c q e           q + c e without its constant coefficient, over X, in as many coefficients
--   series n q e            the first n coefficients of q / e as a power series
--   candidate t xs ys       the t + 1 coefficients that Q / E gives: the only polynomial that can agree in enough places
--   most                    the most points and coefficients that the code takes: n + t + 1 for n 16 and t 5
--   can_try xs ys m         a value for each point, at least one coefficient, and not too many
--   candidate_into xs ys m  the candidate of as many coefficients as m has; m as it is where it can't be tried
use Rattle.std.specs.Prelude.{Bool, cond, ◌&&◌, List, [], ◌∷◌, ℕ, zero, suc, ◌+◌, ◌-◌, eqb, leb, length, get_or, replicate}
use Rattle.gf256.specs.Field.{gadd, gmul, ginv}
use Rattle.lists.specs.Sum.{count}
use Rattle.lists.specs.Fill.{tabulate}
use Rattle.polynomial.specs.Polynomial.{evaluate, horner, plus, scale, times_root}

unfoldable pub agreements : List ℕ → List ℕ → List ℕ → ℕ
agreements xs ys m = count (length xs) (λ i. eqb (evaluate m (get_or xs i 0)) (get_or ys i 0))

pub record Ratio : Type 0 where
  pub Q : List ℕ
  pub E : List ℕ

abbrev pub ratio : List ℕ → List ℕ → Ratio
ratio q e = record { Q = q; E = e }

unfoldable pub wrong_by : ℕ → Ratio → ℕ → ℕ
wrong_by y P x = gadd (horner P.Q x) (gmul y (horner P.E x))

unfoldable pub combine : ℕ → Ratio → ℕ → Ratio → Ratio
combine a B b A = ratio (plus (scale a B.Q) (scale b A.Q)) (plus (scale a B.E) (scale b A.E))

unfoldable pub with_root : ℕ → Ratio → Ratio
with_root x A = ratio (times_root x A.Q) (times_root x A.E)

pub record Ratios : Type 0 where
  pub A : Ratio
  pub u : ℕ
  pub B : Ratio
  pub v : ℕ

abbrev pub ratios : Ratio → ℕ → Ratio → ℕ → Ratios
ratios A u B v = record { A = A; u = u; B = B; v = v }

-- the other pair first
abbrev pub swapped : Ratios → Ratios
swapped s = ratios s.B s.v s.A s.u

-- the polynomial c in w coefficients
abbrev pub constant : ℕ → ℕ → List ℕ
constant w c = c ∷ replicate (w - 1) 0

unfoldable pub start : ℕ → ℕ → Ratios
start w t = ratios (ratio (constant w 1) (constant w 0)) 0 (ratio (constant w 0) (constant w 1)) t

unfoldable pub advance : ℕ → ℕ → Ratios → Ratios
advance x y s =
    let a = wrong_by y s.A x in
    let b = wrong_by y s.B x in
    cond (eqb a 0)
    (ratios s.A s.u (with_root x s.B) (s.v + 1))
    (ratios (with_root x s.A) (s.u + 1) (combine a s.B b s.A) s.v)

unfoldable pub next : ℕ → ℕ → Ratios → Ratios
next x y s = cond (leb s.u s.v) (advance x y s) (swapped (advance x y (swapped s)))

unfoldable pub run : ℕ → List ℕ → List ℕ → ℕ → Ratios
run t xs ys zero = start (length xs + t + 1) t
run t xs ys (suc i) = next (get_or xs i 0) (get_or ys i 0) (run t xs ys i)

unfoldable pub smaller : Ratios → Ratio
smaller s = cond (leb s.u s.v) s.A s.B

unfoldable pub reduced : ℕ → List ℕ → List ℕ → List ℕ
reduced c q e = tabulate (λ i. gadd (get_or q (suc i) 0) (gmul c (get_or e (suc i) 0))) (length q)

unfoldable pub series : ℕ → List ℕ → List ℕ → List ℕ
series zero q e = []
series (suc n) q e =
    let c = gmul (get_or q 0 0) (ginv (get_or e 0 0)) in
    c ∷ series n (reduced c q e) e

unfoldable pub candidate : ℕ → List ℕ → List ℕ → List ℕ
candidate t xs ys =
    let P = smaller (run t xs ys (length xs)) in
    series (t + 1) P.Q P.E

abbrev pub most : ℕ
most = 22

abbrev pub can_try : List ℕ → List ℕ → List ℕ → Bool
can_try xs ys m = eqb (length ys) (length xs) && (leb 1 (length m) && leb (length xs + length m) most)

unfoldable pub candidate_into : List ℕ → List ℕ → List ℕ → List ℕ
candidate_into xs ys m = cond (can_try xs ys m) (candidate (length m - 1) xs ys) m
