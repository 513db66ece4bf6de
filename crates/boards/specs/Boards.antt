-- What the exported functions answer and leave: the definitions of the crates below, with the state as bytes. A lent state of another length is
-- refused with 6, which is tried first.
--   bad_length                                  6, row 6 of the refusal table
--   beyond_number                               what decoding answers where no block meets the rule: 255, the number of no refusal
--   Returned, returned r bytes                  a number answered, and the lent bytes as the call leaves them
--   start_returned state a                      an answer of `start`, with the state as bytes; refused, the lent bytes stay
--   start_bytes s own run b state               start to a lent state; b is the length of the lent block
--   ReturnedStep, returned_step r state b o     what a step leaves: its number, the state, the block and the outbox
--   step_as_bytes a                             an answer of `step`, with the state as bytes
--   step_returned state a                       the same where it was carried out; refused, the state stays byte for byte
--   step_bytes state b i o                      step on the state that the bytes stand for
--   outcome_in state                            the number of the outcome in a state
--   named_in state                              the marks of those named in a state; none where it has another length
--   final_size state                            the length of a block by the state's settings
--   final_fits state block final                both lent blocks have it
--   final_bytes state block final               the outcome, and the final block: the block as it is, once the outcome is set
--   decode_number d                             the number for an answer of decoding
--   named_after d m                             the marks that it leaves where m was: those of the block; none for beyond; refused, m
--   DecodeLeaves n t layout slots b m r b' m'   decoding: r is the number of its answer, b' the block that it leaves, and m' the marks
--   set_rows s                                  the sets C, D, F and E as the first of 16 rows of marks
--   set_bytes s                                 the bytes of these four rows
--   star_returned s sets                        an answer of the star; refused, the lent bytes stay
--   of_lengths a lent b out w                   w where `lent` has a bytes and `out` b; else 6, and `out` stays
--   star_bytes n t rows sets                    the star of the rows in 32 bytes, to 8 bytes
--   pair_bytes n rows pairs                     the missing pairs of the rows in 32 bytes, to 15 bytes
--   pair_star_bytes n t pairs sets              the star of the missing pairs in 15 bytes, to 8 bytes
use Rattle.std.specs.Prelude.{◌≡◌, Bool, cond, ◌&&◌, List, ◌∷◌, ℕ, eqb, length, replicate}
use Rattle.lists.specs.Fill.{tabulate}
use Rattle.bitset.specs.Row.{rows_in, row_byte}
use Rattle.settings.specs.declared.Settings.{Settings}
use Rattle.wire.specs.declared.slot.Layout.{Layout}
use Rattle.wire.specs.Length.{block_size}
use Rattle.reed_solomon.specs.Decode.{Decoded, Block, Beyond, Refused, Answers}
use Rattle.reconstruction.specs.Outcomes.{outcome_number}
use Rattle.graph.specs.Neighbour.{neighbour}
use Rattle.graph.specs.Bits.{bits_of}
use Rattle.star.specs.Star.{Star, star_of, star_of_bits}
use Rattle.protocol.specs.Step.{Answer, After, start_of, step_of}
use Rattle.state_bytes.specs.State.{state_length, state_bytes, state_of}

abbrev pub bad_length : ℕ
bad_length = 6

abbrev pub beyond_number : ℕ
beyond_number = 255

pub record Returned : Type 0 where
  pub number : ℕ
  pub bytes : List ℕ

abbrev pub returned : ℕ → List ℕ → Returned
returned r bytes = record { number = r; bytes = bytes }

abbrev pub start_returned : List ℕ → Answer → Returned
start_returned state a = cond (eqb a.number 0) (returned 0 (state_bytes a.state)) (returned a.number state)

unfoldable pub start_bytes : Settings → (own run b : ℕ) → List ℕ → Returned
start_bytes s own run b state =
    cond (eqb (length state) state_length) (start_returned state (start_of s own run b)) (returned bad_length state)

pub record ReturnedStep : Type 0 where
  pub number : ℕ
  pub state : List ℕ
  pub block : List ℕ
  pub outbox : List ℕ

abbrev pub returned_step : ℕ → List ℕ → List ℕ → List ℕ → ReturnedStep
returned_step r state b o = record { number = r; state = state; block = b; outbox = o }

abbrev pub step_as_bytes : After → ReturnedStep
step_as_bytes a = returned_step a.answer.number (state_bytes a.answer.state) a.block a.outbox

unfoldable pub step_returned : List ℕ → After → ReturnedStep
step_returned state a =
    cond (eqb a.answer.number 0) (step_as_bytes a) (returned_step a.answer.number state a.block a.outbox)

unfoldable pub step_bytes : (state b i o : List ℕ) → ReturnedStep
step_bytes state b i o = cond (eqb (length state) state_length) (step_returned state (step_of (state_of state) b i o)) (returned_step bad_length state b o)

unfoldable pub outcome_in : List ℕ → ℕ
outcome_in state = cond (eqb (length state) state_length) (outcome_number (state_of state).outcome) bad_length

abbrev pub named_in : List ℕ → ℕ
named_in state = (state_of state).named

abbrev pub final_size : List ℕ → ℕ
final_size state = block_size (state_of state).settings.n (state_of state).settings.t (state_of state).settings.k

abbrev pub final_fits : (state block final : List ℕ) → Bool
final_fits state block final = eqb (length block) (final_size state) && eqb (length final) (final_size state)

unfoldable pub final_bytes : (state block final : List ℕ) → Returned
final_bytes state block final =
    cond (eqb (length state) state_length && final_fits state block final)
    (cond (eqb (outcome_in state) 0) (returned 0 final) (returned (outcome_in state) block))
    (returned bad_length final)

abbrev pub decode_number : Decoded → ℕ
decode_number (Block named) = 0
decode_number Beyond = beyond_number
decode_number (Refused r) = r

abbrev pub named_after : Decoded → ℕ → ℕ
named_after (Block named) m = named
named_after Beyond m = 0
named_after (Refused r) m = m

abbrev pub DecodeLeaves : (n t : ℕ) (layout : Layout) (slots b : List ℕ) (m r : ℕ) (b' : List ℕ) (m' : ℕ) → Type 0
DecodeLeaves n t layout slots b m r b' m' = (d : Decoded) × (r ≡ decode_number d) × Answers n t layout slots b d b' × (m' ≡ named_after d m)

abbrev pub set_rows : Star → List ℕ
set_rows s = s.c ∷ s.d ∷ s.f ∷ s.e ∷ replicate 12 0

unfoldable pub set_bytes : Star → List ℕ
set_bytes s = tabulate (row_byte 16 (set_rows s)) 8

unfoldable pub star_returned : Star → List ℕ → Returned
star_returned s sets = cond (eqb s.refusal 0) (returned 0 (set_bytes s)) (returned s.refusal sets)

abbrev pub of_lengths : ℕ → List ℕ → ℕ → List ℕ → Returned → Returned
of_lengths a lent b out w = cond (eqb (length lent) a && eqb (length out) b) w (returned bad_length out)

unfoldable pub star_bytes : (n t : ℕ) → List ℕ → List ℕ → Returned
star_bytes n t rows sets = of_lengths 32 rows 8 sets (star_returned (star_of (rows_in rows) n t) sets)

unfoldable pub pair_bytes : ℕ → List ℕ → List ℕ → Returned
pair_bytes n rows pairs = of_lengths 32 rows 15 pairs (returned 0 (bits_of n (neighbour (rows_in rows))))

unfoldable pub pair_star_bytes : (n t : ℕ) → List ℕ → List ℕ → Returned
pair_star_bytes n t pairs sets = of_lengths 15 pairs 8 sets (star_returned (star_of_bits pairs n t) sets)
