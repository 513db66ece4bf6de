-- Start and step: the number, the state and every lent byte, for all inputs (document 01, 'The house', 'Turned down'). Start takes a run number, any
-- of 16 bits, which the state keeps (document 02, U11): no row of the table names it.
--   Answer                 what start and step answer: a number, 0 or that of the row by which they refuse, and a state
--   answered a             what the answer of the code says: 0 and the state, or the number of the row and the state that the refusal hands back
--   start_refusal s own b  start tries rows 1 to 6, in order; b is the length of the lent block
--   start_of s own run b   the answer; refused, the zero state. Start neither reads nor changes the block
--   lengths_fit s b i o    the lent block, inbox and outbox are as long as the next call states
--   step_refusal s b i o   a step tries 7, 8, 6
--   After, after a b o     the answer of a step with the block and the outbox as it leaves them
--   done c                 that of a call carried out
--   step_of s b i o        a step; refused, it hands the state back as given and changes no lent byte
--   Ready s b i o          what no row of the table names: the state and the lent lengths of a step that is carried out
use Rattle.std.specs.Prelude.{◌≡◌, Bool, cond, not, ◌&&◌, ◌||◌, List, ℕ, ◌+◌, ◌*◌, ◌≤◌, eqb, length, Result, Ok, Err}
use Rattle.settings.specs.declared.Settings.{Settings}
use Rattle.settings.specs.declared.Entry.TheVariants.{Start}
use Rattle.settings.specs.Refusal.{outside, refusal_of, state_refusal}
use Rattle.settings.specs.Number.{row_of}
use Rattle.settings.specs.Valid.{Valid}
use Rattle.wire.specs.Round.{call_kind}
use Rattle.wire.specs.Length.{block_length, inbox_length, outbox_length}
use Rattle.protocol.specs.declared.State.{State}
use Rattle.protocol.specs.declared.Refused.{Refused}
use Rattle.protocol.specs.State.{zero_state, fresh_state}
use Rattle.protocol.specs.Calls.{Carried, call_of}

pub record Answer : Type 0 where
  pub number : ℕ
  pub state : State

abbrev pub answered : Result State Refused → Answer
answered (Ok s) = record { number = 0; state = s }
answered (Err r) = record { number = row_of r.refusal; state = r.state }

unfoldable pub start_refusal : Settings → (own b : ℕ) → ℕ
start_refusal s own b = refusal_of Start s own (eqb b (block_length s.k s.t))

unfoldable pub start_of : Settings → (own run b : ℕ) → Answer
start_of s own run b =
    cond (eqb (start_refusal s own b) 0)
    (record { number = 0; state = fresh_state s own run })
    (record { number = start_refusal s own b; state = zero_state })

unfoldable pub lengths_fit : State → (b i o : ℕ) → Bool
lengths_fit s b i o =
    eqb b (block_length s.settings.k s.settings.t)
    && (eqb i (inbox_length s.settings.n s.settings.t s.settings.k s.next)
    && eqb o (outbox_length s.settings.n s.settings.t s.settings.k s.next))

unfoldable pub step_refusal : State → (b i o : ℕ) → ℕ
step_refusal s b i o =
    cond (not (eqb (state_refusal s.settings s.own) 0) || outside 1 (3 * s.settings.t + 10) s.next) 7
    (cond (eqb s.next (3 * s.settings.t + 10)) 8
    (cond (not (lengths_fit s b i o)) 6
    0))

pub record After : Type 0 where
  pub answer : Answer
  pub block : List ℕ
  pub outbox : List ℕ

abbrev pub after : Answer → List ℕ → List ℕ → After
after a b o = record { answer = a; block = b; outbox = o }

abbrev pub done : Carried → After
done c = after (record { number = 0; state = c.state }) c.block c.outbox

unfoldable pub step_of : State → List ℕ → List ℕ → List ℕ → After
step_of s b i o =
    cond (eqb (step_refusal s (length b) (length i) (length o)) 0)
    (done (call_of (call_kind s.settings.t s.next) s b i o))
    (after (record { number = step_refusal s (length b) (length i) (length o); state = s }) b o)

pub record Ready (s : State) (b i o : ℕ) : Type 0 where
  pub valid : Valid s.settings s.own
  pub next_least : 1 ≤ s.next
  pub next_most : s.next ≤ 3 * s.settings.t + 9
  pub block_length : b ≡ block_length s.settings.k s.settings.t
  pub inbox_length : i ≡ inbox_length s.settings.n s.settings.t s.settings.k s.next
  pub outbox_length : o ≡ outbox_length s.settings.n s.settings.t s.settings.k s.next
