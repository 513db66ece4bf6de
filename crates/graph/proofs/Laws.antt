-- What a crate above may know of the neighbour graph besides the contracts and the definitions.
--   Neighbours by rows of marks
--     neighbour_self     everyone is its own neighbour
--     neighbour_sym      neighbours are so both ways
--     neighbour_other    others are neighbours if they mark each other
--     neighbour_same     only the marks of the two count
--   The set of those with whom i makes a missing pair, in any graph
--     missing-member     below n they are those that are not neighbours of i
--     missing_past       nobody else; missing_out: and i is below n too
--   The order of the 120 pairs
--     place_pair         the pair at a place is one of indices, the smaller first, and that is its place
--     pair_place         the place of a pair has that pair
--     order_rises        the order is that of the smaller index and then the larger
--   The graph as 120 bits
--     length_bits        15 bytes
--     bit_of             the bit at a place, of the bits made from a graph
--     adjacent_of        the bits made from a graph say that graph below n
--     adjacent_sym       in any bits neighbours are so both ways
--     adjacent_same      of any bits, only those of pairs below n count
--     missing_16         an index past 15 makes no missing pair
pub use Rattle.graph.proofs.Neighbours.{neighbour_self, neighbour_sym, neighbour_other, neighbour_same, missing-member, missing_past, missing_out}
pub use Rattle.graph.proofs.Order.{place_pair, pair_place, order_rises}
pub use Rattle.graph.proofs.Bits.{length_bits, bit_of, adjacent_of, adjacent_sym, adjacent_same, missing_16}
