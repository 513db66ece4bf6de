-- For the contracts of private functions; a reader of the public contracts needs none of it.
--   ratio_of p       a pair of polynomials
--   ratios_of p r    two pairs and the bounds of their weighted degrees
--   SameWidth p r    the polynomials of r have as many coefficients as those of p
--   Alike p r        all four polynomials have as many coefficients
--   Next f p r p' r' the pairs p', r' are f of p, r, with as many coefficients, and their bounds add up to one more
--   Zeros xs ys p r  all four are zeros, as many as the points xs and t + 1 need, where 0 and t are the bounds; ys has a value for each point
use Rattle.std.specs.Prelude.{◌≡◌, List, ℕ, ◌+◌, ◌<◌, length, replicate}
use Rattle.interpolation.specs.Interpolation.{Ratio, Ratios, ratios, ratio}
use Rattle.interpolation.specs.declared.Pair.{Pair}

abbrev pub ratio_of : Pair → Ratio
ratio_of p = ratio p.q.now p.e.now

abbrev pub ratios_of : Pair → Pair → Ratios
ratios_of p r = ratios (ratio_of p) p.weight (ratio_of r) r.weight

pub record SameWidth (p r : Pair) : Type 0 where
  pub size_q : length p.q.now ≡ length r.q.now
  pub size_e : length p.e.now ≡ length r.e.now

pub record Alike (p r : Pair) : Type 0 where
  pub size_e : length p.e.now ≡ length p.q.now
  pub size_q' : length r.q.now ≡ length p.q.now
  pub size_e' : length r.e.now ≡ length p.q.now

pub record Next (f : Ratios → Ratios) (p r p' r' : Pair) : Type 0 where
  pub result : ratios_of p' r' ≡ f (ratios_of p r)
  pub total : p'.weight + r'.weight ≡ p.weight + r.weight + 1
  pub width : SameWidth p p'
  pub width' : SameWidth r r'

pub record Zeros (xs ys : List ℕ) (p r : Pair) : Type 0 where
  pub values : length ys ≡ length xs
  pub few : length xs + r.weight < 64
  pub least : p.weight ≡ 0
  pub zero_q : p.q.now ≡ replicate (length xs + r.weight + 1) 0
  pub zero_e : p.e.now ≡ replicate (length xs + r.weight + 1) 0
  pub zero_q' : r.q.now ≡ replicate (length xs + r.weight + 1) 0
  pub zero_e' : r.e.now ≡ replicate (length xs + r.weight + 1) 0
