-- Document 01, 'Checked examples': each with its letter, over the definitions, as one table. Proved in proofs/Proved.antt.
--   code i               what encoding gives controller i of the block 0a14, at n 4, t 1, k 1
--   four_pieces a b c d  four slots of run 0, each with a piece of one byte
--   decodes a b c d      what decoding answers, and leaves in a block of zeros, from four pieces, at n 4, t 1, k 1
--   graph a b c d        16 rows of marks, of which the first four are given; mark i of a row has the value 2^(i - 1)
--   Examples             the table, a to j
use Rattle.std.specs.Prelude.{◌≡◌, true, false, List, [], ◌∷◌, ℕ, ltb, replicate}
use Rattle.gf256.specs.Field.{gmul}
use Rattle.reed_solomon.specs.Encode.{Encoded, encoded, encode_of}
use Rattle.reed_solomon.specs.Decode.{Decoded, Block, Beyond, Answers}
use Rattle.phase_king.specs.Bit.{zero_seen, one_seen}
use Rattle.star.specs.Star.{no_sets, star_of}
use Rattle.wire.specs.declared.Round.TheVariants.{Rebuild, Outside}
use Rattle.wire.specs.Round.{round_count, round_kind}
use Rattle.wire.specs.Slot.{layout_with}

abbrev pub code : ℕ → Encoded
code i = encode_of 4 1 1 i (0x0a ∷ 0x14 ∷ []) (0 ∷ [])

abbrev pub four_pieces : (a b c d : ℕ) → List ℕ
four_pieces a b c d = 1 ∷ 0 ∷ 0 ∷ a ∷ 1 ∷ 0 ∷ 0 ∷ b ∷ 1 ∷ 0 ∷ 0 ∷ c ∷ 1 ∷ 0 ∷ 0 ∷ d ∷ []

abbrev pub decodes : (a b c d : ℕ) → Decoded → List ℕ → Type 0
decodes a b c d = Answers 4 1 (layout_with 0 1) (four_pieces a b c d) (0 ∷ 0 ∷ [])

abbrev pub graph : (a b c d : ℕ) → List ℕ
graph a b c d = a ∷ b ∷ c ∷ d ∷ replicate 12 0

pub record Examples : Type 0 where
  -- a: 80 times 02 is 1d
  pub a : gmul 0x80 0x02 ≡ 0x1d
  -- b: 14 times 03 is 3c
  pub b : gmul 0x14 0x03 ≡ 0x3c
  -- c: n 4, t 1: 0a14 codes to 1e 22 36 5a
  pub c : (code 1 ≡ encoded 0 (0x1e ∷ [])) × (code 2 ≡ encoded 0 (0x22 ∷ [])) × (code 3 ≡ encoded 0 (0x36 ∷ [])) × (code 4 ≡ encoded 0 (0x5a ∷ []))
  -- d: 00 22 36 5a decodes to 0a14, and (document 02, U1) 1 is named
  pub d : decodes 0x00 0x22 0x36 0x5a (Block 1) (0x0a ∷ 0x14 ∷ [])
  -- e: 1e 22 37 5b is beyond
  pub e : decodes 0x1e 0x22 0x37 0x5b Beyond (0 ∷ 0 ∷ [])
  -- f: n 4: three slots say 1: one is seen, zero isn't; two and two: neither
  pub f : (one_seen 4 1 (λ i. ltb i 3) ≡ true) × (zero_seen 4 1 (λ i. ltb i 3) ≡ false)
  pub f_two : (one_seen 4 1 (λ i. ltb i 2) ≡ false) × (zero_seen 4 1 (λ i. ltb i 2) ≡ false)
  -- g: n 4, non-neighbours 1-4, 2-4, 3-4: C {2, 3}, D, F, E {1, 2, 3}
  pub g : star_of (graph 7 7 7 8) 4 1 ≡ record { refusal = 0; c = 6; d = 7; f = 7; e = 7 }
  -- h: non-neighbours 1-2, 1-3, 1-4, 2-4, 3-4: not found
  pub h : star_of (graph 1 6 6 8) 4 1 ≡ no_sets 0
  -- i: all neighbours: the core is all four
  pub i : (star_of (graph 15 15 15 15) 4 1).e ≡ 15
  -- j: t 1: 11 rounds; t 5: 23. The last of them rebuilds, and there is none after it
  pub j : (round_count 1 ≡ 11) × (round_count 5 ≡ 23)
  pub j-last : (round_kind 1 11 ≡ Rebuild) × (round_kind 1 12 ≡ Outside) × (round_kind 5 23 ≡ Rebuild) × (round_kind 5 24 ≡ Outside)
