-- The table of missing pairs holds: `missing-pairs`. Each side computes to the same value.
use mathlib.Core.Path.{refl}
use Rattle.lists.specs.Sum.{sum, count}
use Rattle.lists.specs.Fill.{tabulate}
use Rattle.bitset.specs.Set.{member, set_of, size_of}
use Rattle.settings.specs.Refusal.{outside, too_many, broken, refusal_of, star_refusal}
use Rattle.graph.specs.Neighbour.{neighbour}
use Rattle.graph.specs.Pairs.{with_larger, pairs_from, order, pair_at, place}
use Rattle.graph.specs.Bits.{bit, missing_at, bits_of, adjacent}
use Rattle.matching.specs.Matching.{matched}
use Rattle.matching.specs.First.{first_found, of_size, up_to, matching_of}
use Rattle.star.specs.Star.{struck, set_C, lacks, set_D, at_least, set_F, set_e, sets_from, no_sets, is_large, star_from, refusal_for, star_of_bits}
use Rattle.examples.specs.Pairs.{MissingPairs}

pub missing-pairs : MissingPairs
unfolding sum count tabulate member set_of size_of outside too_many broken refusal_of star_refusal neighbour with_larger pairs_from order pair_at place bit missing_at
    bits_of adjacent matched first_found of_size up_to matching_of struck set_C lacks set_D at_least set_F set_e sets_from no_sets is_large star_from refusal_for star_of_bits
missing-pairs =
    record {
      g = refl;
      g_star = refl;
      g_past = refl;
      h = refl;
      h_star = refl;
      i = refl;
      i_star = refl;
    }
