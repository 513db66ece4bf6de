-- The table of worked examples holds: `examples`. Each side computes to the same value; of decoding, the counts of the rule are computed, and for
-- 'beyond' the candidate.
use mathlib.Core.Path.{refl}
use mathlib.Core.List.{[], ◌∷◌}
use Prim.Native.Nat.{zero, suc}
use native.Mathlib.Omega.{arith}
use lib.Dec.{lit<}
use Rattle.lists.specs.Sum.{sum, count}
use Rattle.lists.specs.Fill.{tabulate, filled}
use Rattle.lists.specs.Join.{part}
use Rattle.lists.specs.Same.{same}
use Rattle.lists.specs.Select.{selected}
use Rattle.bitset.specs.Set.{member, set_of, size_of}
use Rattle.gf256.specs.Field.{gadd, gmul, ginv, gpow, poly_mul, reduce}
use Rattle.settings.specs.Refusal.{outside, too_many, broken, refusal_of, encoding_refusal, decoding_refusal, star_refusal}
use Rattle.wire.specs.Length.{block_length}
use Rattle.wire.specs.Slot.{layout_with, width, slot_of, holds, run_in, is_present, message_of}
use Rattle.polynomial.specs.Polynomial.{Bytes, gsum, evaluate, horner, plus, scale, times_root}
use Rattle.interpolation.specs.Interpolation.{wrong_by, combine, with_root, start, advance, next, run, smaller, reduced, series, candidate}
use Rattle.reed_solomon.specs.Encode.{stripe, piece_of, encode_refusal, encode_of}
use Rattle.reed_solomon.specs.Decode.{Block, Beyond, has_piece, received, present_count, differing, is_named, named_of, decode_refusal}
use Rattle.reed_solomon.specs.First.{meets}
use Rattle.reed_solomon.specs.Steps.{points, column, differences}
use Rattle.reed_solomon.proofs.Laws.{meets-decodes, stripe-beyond}
use Rattle.phase_king.specs.Bit.{zero_seen, one_seen}
use Rattle.graph.specs.Neighbour.{neighbour}
use Rattle.matching.specs.Matching.{matched}
use Rattle.matching.specs.First.{first_found, of_size, up_to, matching_of}
use Rattle.star.specs.Star.{struck, set_C, lacks, set_D, at_least, set_F, set_e, sets_from, no_sets, is_large, star_from, refusal_for, star_of}
use Rattle.wire.specs.Round.{round_count, round_kind}
use Rattle.examples.specs.Examples.{four_pieces, decodes, Examples}

-- ---- decoding, at n 4, t 1, k 1
-- example d: the block is of bytes, and one of the four present pieces differs from its code
bytes-d : Bytes (0x0a ∷ 0x14 ∷ [])
bytes-d zero = lit< tt
bytes-d (suc zero) = lit< tt
bytes-d (suc (suc i)) = lit< tt

example_d : decodes 0x00 0x22 0x36 0x5a (Block 1) (0x0a ∷ 0x14 ∷ [])
unfolding sum count tabulate filled same set_of gadd gmul gpow poly_mul reduce outside too_many broken refusal_of encoding_refusal decoding_refusal star_refusal
    block_length width slot_of part holds run_in is_present message_of gsum evaluate stripe piece_of has_piece received present_count differing is_named named_of meets
    decode_refusal
example_d = (refl, meets-decodes 4 1 (layout_with 0 1) (four_pieces 0x00 0x22 0x36 0x5a) (0x0a ∷ 0x14 ∷ []) refl bytes-d refl, refl)

-- example e: too many of the pieces differ from the code of the candidate for the stripe, so no block meets the rule
example_e : decodes 0x1e 0x22 0x37 0x5b Beyond (0 ∷ 0 ∷ [])
unfolding sum count tabulate filled gadd gmul ginv gpow poly_mul reduce outside too_many broken refusal_of encoding_refusal decoding_refusal star_refusal
    block_length width slot_of part holds run_in is_present message_of gsum evaluate horner plus scale times_root wrong_by combine with_root start advance next run
    smaller reduced series candidate has_piece received selected points column differences decode_refusal
example_e = (refl, stripe-beyond 4 1 (layout_with 0 1) (four_pieces 0x1e 0x22 0x37 0x5b) (omega arith) 0 (omega arith) refl, refl)

pub examples : Examples
unfolding sum count tabulate filled member set_of size_of gadd gmul gpow poly_mul reduce outside too_many broken refusal_of encoding_refusal decoding_refusal
    star_refusal block_length gsum evaluate stripe piece_of encode_refusal encode_of zero_seen one_seen neighbour matched first_found of_size up_to matching_of struck
    set_C lacks set_D at_least set_F set_e sets_from no_sets is_large star_from refusal_for star_of round_count round_kind
examples =
    record {
      a = refl;
      b = refl;
      c = (refl, refl, refl, refl);
      d = example_d;
      e = example_e;
      f = (refl, refl);
      f_two = (refl, refl);
      g = refl;
      h = refl;
      i = refl;
      j = (refl, refl);
      j-last = (refl, refl, refl, refl);
    }
