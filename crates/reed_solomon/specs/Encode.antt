-- Coding (document 01, 'Field and code'): a stripe m0..mt is coded by f(i) = m0 + m1 i + .. + mt i^t for i = 1..n.
--   stripe t block s                    stripe s of a block, counted from 0: the bytes s(t + 1) .. s(t + 1) + t
--   piece_of k t block i                the piece of controller i: byte s is the value at i of stripe s
--   encode_fits k t block piece         the lent lengths are the stated ones: a block, and k bytes
--   encode_refusal n t k i block piece  the number of the refusal table's row, or 0 ('Turned down': coding tries 1, 2, 3, 4, 6)
--   Encoded, encoded r piece            what a call leaves: the number that it returns, and the lent piece
--   encode_of n t k i block piece       refused: its number, nothing changes; else 0 and the piece
--   is_ready n t k i block fits         the rows that coding tries let the settings, the number i and the lengths pass; fits is the test of what is lent
--                                       beside the block, for callers that code into a box
--   Coding n t k i block                what they then say: piece i of the block can be coded
use Rattle.std.specs.Prelude.{◌≡◌, Bool, cond, ◌&&◌, List, ℕ, ◌+◌, ◌*◌, eqb, length, take, drop}
use Rattle.lists.specs.Fill.{tabulate}
use Rattle.settings.specs.Refusal.{encoding_refusal}
use Rattle.settings.specs.Valid.{Coded, Numbered}
use Rattle.wire.specs.Length.{block_length}
use Rattle.polynomial.specs.Polynomial.{evaluate}

unfoldable pub stripe : ℕ → List ℕ → ℕ → List ℕ
stripe t block s = take (t + 1) (drop (s * (t + 1)) block)

unfoldable pub piece_of : (k t : ℕ) → List ℕ → ℕ → List ℕ
piece_of k t block i = tabulate (λ s. evaluate (stripe t block s) i) k

abbrev pub encode_fits : (k t : ℕ) → List ℕ → List ℕ → Bool
encode_fits k t block piece = eqb (length block) (block_length k t) && eqb (length piece) k

unfoldable pub encode_refusal : (n t k i : ℕ) → List ℕ → List ℕ → ℕ
encode_refusal n t k i block piece =
    encoding_refusal n t k i (encode_fits k t block piece)

pub record Encoded : Type 0 where
  pub number : ℕ
  pub piece : List ℕ

abbrev pub encoded : ℕ → List ℕ → Encoded
encoded r piece = record { number = r; piece = piece }

unfoldable pub encode_of : (n t k i : ℕ) → List ℕ → List ℕ → Encoded
encode_of n t k i block piece =
    cond (eqb (encode_refusal n t k i block piece) 0)
    (encoded 0 (piece_of k t block i))
    (encoded (encode_refusal n t k i block piece) piece)

unfoldable pub is_ready : (n t k i : ℕ) → List ℕ → Bool → Bool
is_ready n t k i block fits =
    eqb (encoding_refusal n t k i (eqb (length block) (block_length k t) && fits)) 0

pub record Coding (n t k i : ℕ) (block : List ℕ) : Type 0 where
  pub coded : Coded n t k
  pub number : Numbered n i
  pub size : length block ≡ block_length k t
