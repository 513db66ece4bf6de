-- Document 02, U9, on the graphs of document 01's examples g, h and i: their missing pairs, as 15 bytes, and the stars of these. Proved in
-- proofs/Pairs.antt.
--   first_four a b c d  15 bytes, of which the first four are given, then zeros
--   MissingPairs        the table
use Rattle.std.specs.Prelude.{◌≡◌, List, ◌∷◌, ℕ, replicate}
use Rattle.graph.specs.Neighbour.{neighbour}
use Rattle.graph.specs.Bits.{bits_of}
use Rattle.star.specs.Star.{no_sets, star_of_bits}
use Rattle.examples.specs.Examples.{graph}

abbrev pub first_four : (a b c d : ℕ) → List ℕ
first_four a b c d = a ∷ b ∷ c ∷ d ∷ replicate 11 0

pub record MissingPairs : Type 0 where
  -- g: 1-4, 2-4 and 3-4 have the places 2, 16 and 29
  pub g : bits_of 4 (neighbour (graph 7 7 7 8)) ≡ first_four 0x04 0x00 0x01 0x20
  pub g_star : star_of_bits (first_four 0x04 0x00 0x01 0x20) 4 1 ≡ record { refusal = 0; c = 6; d = 7; f = 7; e = 7 }
  -- the same with the bits of all numbers past 4 set, which are not read
  pub g_past : star_of_bits (0xfc ∷ 0x7f ∷ replicate 13 0xff) 4 1 ≡ record { refusal = 0; c = 6; d = 7; f = 7; e = 7 }
  -- h: 1-2 and 1-3 besides, at the places 0 and 1: not found
  pub h : bits_of 4 (neighbour (graph 1 6 6 8)) ≡ first_four 0x07 0x00 0x01 0x20
  pub h_star : star_of_bits (first_four 0x07 0x00 0x01 0x20) 4 1 ≡ no_sets 0
  -- i: all neighbours: no bit is set, and the core is all four
  pub i : bits_of 4 (neighbour (graph 15 15 15 15)) ≡ replicate 15 0
  pub i_star : (star_of_bits (replicate 15 0) 4 1).e ≡ 15
