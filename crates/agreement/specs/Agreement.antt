-- Demand 3, as one proposition on the lists of steps of all correct controllers of a system together (document 01, 'The house'). Runs without a
-- sender, sender 0, are taken in (document 02, U6). All correct controllers have one run number (document 02, U11); late messages of other runs may
-- stand in any slot of a faulty one.
--   System                      the settings and the run number; who is correct; the block that each was started with; the steps each made after its start
--   Correct S i                 controller i is one of 1 .. n, and correct (document 01: it follows the steps)
--   at_start, calls_of, at_end  what a controller holds at its start, its calls, and what it holds after all its steps
--   last S                      the number of the last call
--   no_call                     a call with nothing in it
--   call S i c                  call c of controller i; past its calls `no_call`
--   layout_of S c               the layout of the slots of round c
--   piece_layout S              that of the slots in the inbox of the last call, which hold pieces
--   Arrives S i j c             the message from i to j arrives unchanged in round c
--   Supposed S                  what is supposed
--   last_core, last_inbox       the core before the last call, and the inbox lent to it
--   outcome_of, block_of        the outcome and the block at the end
--   SetByLast S i               outcome and block at the end are those that the last call sets
--   RefusesMore S i             every later step is refused with 8 and leaves both
--   StartedAlike S B            there is no sender, and every correct controller was started with the block B
--   Concluded S                 what is concluded
--   Agreement                   demand 3: supposed implies concluded
--   Holds S i A                 controller i ends with the block A agreed on (document 01: it holds the plan)
--   OnePlan                     for readers: no two correct controllers hold different blocks
use Rattle.std.specs.Prelude.{◌≡◌, Bool, true, not, List, [], ℕ, ◌+◌, ◌-◌, ◌*◌, ◌≤◌, ◌<◌, length, get_or, replicate}
use Rattle.lists.specs.Sum.{count}
use Rattle.settings.specs.declared.Settings.{Settings}
use Rattle.bitset.specs.Set.{restricted}
use Rattle.polynomial.specs.Polynomial.{Bytes}
use Rattle.wire.specs.declared.slot.Layout.{Layout}
use Rattle.wire.specs.Length.{round_layout}
use Rattle.wire.specs.Slot.{layout_with, slot_of}
use Rattle.reed_solomon.specs.Decode.{Decodes}
use Rattle.reconstruction.specs.declared.Outcome.{Outcome}
use Rattle.reconstruction.specs.declared.Outcome.TheVariants.{Agreed, None, Beyond}
use Rattle.protocol.specs.State.{zero_state}
use Rattle.protocol.specs.Step.{start_of}
use Rattle.agreement.specs.Run.{Lent, Local, Made, stepped, left, left_after, calls, begun}

-- of a controller that is not correct, neither block nor steps are read: nothing is supposed of it
pub record System : Type 0 where
  pub settings : Settings
  pub run : ℕ
  pub run_most : run < 65536
  pub correct : ℕ → Bool
  pub block : ℕ → List ℕ
  pub block-bytes : (i : ℕ) → Bytes (block i)
  pub steps : ℕ → List Lent

pub record Correct (S : System) (i : ℕ) : Type 0 where
  pub least : 1 ≤ i
  pub most : i ≤ S.settings.n
  pub is : S.correct i ≡ true

abbrev pub at_start : System → ℕ → Local
at_start S i = begun S.settings i S.run (S.block i)

abbrev pub calls_of : System → ℕ → List Made
calls_of S i = calls (at_start S i) (S.steps i)

abbrev pub at_end : System → ℕ → Local
at_end S i = left_after (at_start S i) (S.steps i)

abbrev pub last : System → ℕ
last S = 3 * S.settings.t + 9

abbrev pub no_call : Made
no_call = record {
  before = record { state = zero_state; block = [] };
  lent = record { inbox = []; outbox = []; inbox-bytes = λ i. lib.Dec.lit< tt };
  after = record { state = zero_state; block = [] };
  sends = [];
}

abbrev pub call : System → ℕ → ℕ → Made
call S i c = get_or (calls_of S i) (c - 1) no_call

abbrev pub layout_of : System → ℕ → Layout
layout_of S c = round_layout S.run S.settings.n S.settings.t S.settings.k c

abbrev pub piece_layout : System → Layout
piece_layout S = layout_with S.run S.settings.k

-- slot i of the inbox of j's call c + 1 is, byte for byte, slot j of the outbox that i's call c left
abbrev pub Arrives : System → (i j c : ℕ) → Type 0
Arrives S i j c =
    slot_of (call S j (c + 1)).lent.inbox (layout_of S c) i
    ≡ slot_of (call S i c).sends (layout_of S c) j

pub record Supposed (S : System) : Type 0 where
  -- n is at least 3t + 1, and at most t controllers are not correct
  pub tolerance : 3 * S.settings.t + 1 ≤ S.settings.n
  pub few : count S.settings.n (λ i. not (S.correct (i + 1))) ≤ S.settings.t
  -- each correct controller's start, with the system's settings (the sender 0 to n), its own number and the system's run number, is carried out
  pub started : (i : ℕ) → Correct S i → (start_of S.settings i S.run (length (S.block i))).number ≡ 0
  -- all its 3t + 9 calls are carried out, whatever steps are refused before, between and after them
  pub finished : (i : ℕ) → Correct S i → length (calls_of S i) ≡ last S
  -- each message between correct controllers, or to oneself, arrives unchanged in its round; so its slot is of this run
  pub arrives : (i j c : ℕ) → Correct S i → Correct S j → 1 ≤ c → c < last S → Arrives S i j c

-- the state on which the last call was made, and the inbox lent to it
abbrev pub last_core : System → ℕ → ℕ
last_core S i = (call S i (last S)).before.state.core

abbrev pub last_inbox : System → ℕ → List ℕ
last_inbox S i = (call S i (last S)).lent.inbox

abbrev pub outcome_of : System → ℕ → Outcome
outcome_of S i = (at_end S i).state.outcome

abbrev pub block_of : System → ℕ → List ℕ
block_of S i = (at_end S i).block

-- document 01's last call: no core: none, and zeros; else agreed and the block that meets decoding's rule (document 02, U2); if there is none, beyond
-- and zeros
pub record SetByLast (S : System) (i : ℕ) : Type 0 where
  pub none : restricted (last_core S i) S.settings.n ≡ 0 → (outcome_of S i ≡ None) × (block_of S i ≡ replicate (length (S.block i)) 0)
  pub agreed : (restricted (last_core S i) S.settings.n ≡ 0 → ⊥) → (B : List ℕ)
      → Decodes S.settings.n S.settings.t (piece_layout S) (last_inbox S i) B
      → (outcome_of S i ≡ Agreed) × (block_of S i ≡ B)
  pub beyond : (restricted (last_core S i) S.settings.n ≡ 0 → ⊥)
      → ((B : List ℕ) → Decodes S.settings.n S.settings.t (piece_layout S) (last_inbox S i) B → ⊥)
      → (outcome_of S i ≡ Beyond) × (block_of S i ≡ replicate (length (S.block i)) 0)

abbrev pub RefusesMore : System → ℕ → Type 0
RefusesMore S i = (l : Lent) → ((stepped (at_end S i) l).answer.number ≡ 8) × (left (at_end S i) l ≡ at_end S i)

pub record StartedAlike (S : System) (B : List ℕ) : Type 0 where
  pub no_sender : S.settings.sender ≡ 0
  pub alike : (i : ℕ) → Correct S i → S.block i ≡ B

pub record Concluded (S : System) : Type 0 where
  -- each correct controller's outcome and block are those that the last call sets, and later steps leave them
  pub set : (i : ℕ) → Correct S i → SetByLast S i
  pub later : (i : ℕ) → Correct S i → RefusesMore S i
  -- the outcomes are equal, and the blocks are equal byte for byte; without a sender too, whatever blocks the controllers were started with
  pub same_outcome : (i j : ℕ) → Correct S i → Correct S j → outcome_of S i ≡ outcome_of S j
  pub same_block : (i j : ℕ) → Correct S i → Correct S j → block_of S i ≡ block_of S j
  -- if the sender is correct, and so one of 1 .. n, every outcome is agreed, and every block is the one that the sender was started with
  pub sender-outcome : (i : ℕ) → Correct S S.settings.sender → Correct S i → outcome_of S i ≡ Agreed
  pub sender-block : (i : ℕ) → Correct S S.settings.sender → Correct S i → block_of S i ≡ S.block S.settings.sender
  -- if there is no sender and all correct controllers were started with one block, every outcome is agreed, and every block is that one
  pub alike-outcome : (i : ℕ) (B : List ℕ) → StartedAlike S B → Correct S i → outcome_of S i ≡ Agreed
  pub alike-block : (i : ℕ) (B : List ℕ) → StartedAlike S B → Correct S i → block_of S i ≡ B

abbrev pub Agreement : Type 0
Agreement = (S : System) → Supposed S → Concluded S

abbrev pub Holds : System → ℕ → List ℕ → Type 0
Holds S i A = (outcome_of S i ≡ Agreed) × (block_of S i ≡ A)

abbrev pub OnePlan : Type 0
OnePlan = (S : System) → Supposed S → (i j : ℕ) → Correct S i → Correct S j → (A B : List ℕ) → Holds S i A → Holds S j B → A ≡ B
