-- The run of a system (document 01, 'The house program'): who stands under `from` is faulty and sends only its lines; the others follow the
-- steps, in lockstep.
--   Scenario             settings, the block given, who is faulty, and what the faulty ones say: the message of a round from one to another, empty for
--                        none
--   run_number           the run number of a simulated run, 0 (document 02, U11)
--   layout_at F c        the layout of the slots of round c
--   Proper F             the settings are in range, the block has its length, each message its round's length, and all are bytes
--   Playing              one controller between two calls: its state, its block, and what its last call sent
--   began F i            after its start
--   sent_as m            what a faulty controller sends: its message, or silence
--   slot_to F c now i j  the slot that i gets from j in round c: from a faulty j what the file says; else, byte for byte, slot i of the outbox that j's
--                        call c left
--   inbox_of F c now i   the inbox of round c of controller i; of length 0 for the first call
--   outbox_of F c        the outbox lent to call c, cleared
--   called F c now i     call c + 1 of controller i, where `now` is what each holds after c calls
--   played F c i         controller i after c calls; a faulty one stays as it began
--   last F               the number of the last call
--   ended F i            controller i after the last call
use Rattle.std.specs.Prelude.{◌≡◌, Bool, cond, List, [], ◌∷◌, ◌⊎◌, ℕ, zero, suc, ◌+◌, ◌*◌, ◌≤◌, length, replicate}
use Rattle.lists.specs.Join.{joined}
use Rattle.settings.specs.declared.Settings.{Settings}
use Rattle.settings.specs.Valid.{Coded}
use Rattle.polynomial.specs.Polynomial.{Bytes}
use Rattle.wire.specs.Length.{block_length, round_layout, outbox_length}
use Rattle.wire.specs.declared.slot.Layout.{Layout}
use Rattle.wire.specs.Slot.{slot_of, Sent, silence, bytes, written}
use Rattle.protocol.specs.declared.State.{State}
use Rattle.protocol.specs.Step.{start_of, step_of}

pub record Scenario : Type 0 where
  pub settings : Settings
  pub block : List ℕ
  pub faulty : ℕ → Bool
  pub said : (round from to : ℕ) → List ℕ

abbrev pub run_number : ℕ
run_number = 0

abbrev pub layout_at : Scenario → ℕ → Layout
layout_at F c = round_layout run_number F.settings.n F.settings.t F.settings.k c

pub record Proper (F : Scenario) : Type 0 where
  pub coded : Coded F.settings.n F.settings.t F.settings.k
  pub sender-most : F.settings.sender ≤ F.settings.n
  pub block_length : length F.block ≡ block_length F.settings.k F.settings.t
  pub block-bytes : Bytes F.block
  pub said_length : (r f j : ℕ) → (F.said r f j ≡ []) ⊎ (length (F.said r f j) ≡ (layout_at F r).length)
  pub said_bytes : (r f j : ℕ) → Bytes (F.said r f j)

pub record Playing : Type 0 where
  pub state : State
  pub block : List ℕ
  pub outbox : List ℕ

unfoldable pub began : Scenario → ℕ → Playing
began F i = record {
  state = (start_of F.settings i run_number (length F.block)).state;
  block = F.block;
  outbox = [];
}

abbrev pub sent_as : List ℕ → Sent
sent_as [] = silence
sent_as (x ∷ m) = bytes (x ∷ m)

unfoldable pub slot_to : Scenario → ℕ → (ℕ → Playing) → (i j : ℕ) → List ℕ
slot_to F c now i j =
    cond (F.faulty j) (written (layout_at F c) (sent_as (F.said c j i))) (slot_of (now j).outbox (layout_at F c) i)

unfoldable pub inbox_of : Scenario → ℕ → (ℕ → Playing) → ℕ → List ℕ
inbox_of F zero now i = []
inbox_of F (suc c) now i = joined (λ x. slot_to F (suc c) now i (x + 1)) F.settings.n

unfoldable pub outbox_of : Scenario → ℕ → List ℕ
outbox_of F c = replicate (outbox_length F.settings.n F.settings.t F.settings.k c) 0

unfoldable pub called : Scenario → ℕ → (ℕ → Playing) → ℕ → Playing
called F c now i =
    let a = step_of (now i).state (now i).block (inbox_of F c now i) (outbox_of F (c + 1)) in
    record { state = a.answer.state; block = a.block; outbox = a.outbox }

unfoldable pub played : Scenario → ℕ → ℕ → Playing
played F zero i = began F i
played F (suc c) i = cond (F.faulty i) (played F c i) (called F c (played F c) i)

abbrev pub last : Scenario → ℕ
last F = 3 * F.settings.t + 9

abbrev pub ended : Scenario → ℕ → Playing
ended F i = played F (last F) i
