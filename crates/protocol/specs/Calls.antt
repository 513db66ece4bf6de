-- The calls (document 01, 'Rounds'): what each leaves of the state, the block and the outbox. Call c reads the inbox of round c - 1 and fills
-- the outbox of round c. Every call but the last sets the outcome to open, and names nobody.
--   Carried, carried s b o       the state, the block and the outbox after a call carried out
--   inbox_layout s               the layout of the slots in the inbox of the next call, of the run whose number the state keeps
--   outbox_layout s              and in its outbox
--   read_phase s, write_phase s  the phase of the round that the next call reads, and of the round that it fills
--   core_of rows n t             the core: E of the star of the matrix
--   matrix_to_all s m o          the outbox with the matrix to all
--   send_call, receive_call, compare_call, collect_call, tally_call, hold_call, settle_call, core_call, choose_call, finish_call
--                                the calls, in their order
--   settled_matrix s i           the matrix after round 3p + 3, in two of them
--   call_of kind s b i o         the call of a kind on the state s, the block b, the inbox i and the outbox o
use Rattle.std.specs.Prelude.{List, ℕ, ◌-◌}
use Rattle.bitset.specs.Row.{rows_of}
use Rattle.wire.specs.declared.Call.{Call}
use Rattle.wire.specs.declared.Call.TheVariants.{Send, Receive, Compare, Collect, Tally, Hold, Settle, Core, Choose, Finish, Outside}
use Rattle.wire.specs.Round.{phase_of}
use Rattle.wire.specs.declared.slot.Layout.{Layout}
use Rattle.wire.specs.Length.{round_layout}
use Rattle.wire.specs.Slot.{to_all}
use Rattle.dispersal.specs.Dispersal.{sent_block, received_block, sent_pieces, marks_of, sent_marks}
use Rattle.phase_king.specs.Matrix.{first_matrix, zeros_of, ones_of, held_of, weak_of, settled_of, seen_message, sent_by_king}
use Rattle.star.specs.Star.{star_of}
use Rattle.reconstruction.specs.declared.Outcome.TheVariants.{Open}
use Rattle.reconstruction.specs.Reconstruction.{forwarded, shared, finished}
use Rattle.protocol.specs.declared.State.{State}
use Rattle.protocol.specs.State.{advanced, with_matrix, with_votes, with_core, with_named}

pub record Carried : Type 0 where
  pub state : State
  pub block : List ℕ
  pub outbox : List ℕ

abbrev pub carried : State → List ℕ → List ℕ → Carried
carried s b o = record { state = s; block = b; outbox = o }

abbrev pub inbox_layout : State → Layout
inbox_layout s = round_layout s.run s.settings.n s.settings.t s.settings.k (s.next - 1)

abbrev pub outbox_layout : State → Layout
outbox_layout s = round_layout s.run s.settings.n s.settings.t s.settings.k s.next

abbrev pub read_phase : State → ℕ
read_phase s = phase_of (s.next - 1)

abbrev pub write_phase : State → ℕ
write_phase s = phase_of s.next

abbrev pub core_of : List ℕ → (n t : ℕ) → ℕ
core_of rows n t = (star_of rows n t).e

abbrev pub matrix_to_all : State → List ℕ → List ℕ → List ℕ
matrix_to_all s m o = to_all (outbox_layout s) s.settings.n (rows_of s.settings.n m) o

-- call 1: the sender's block to all; without a sender everyone is silent (document 02, U6)
abbrev pub send_call : State → List ℕ → List ℕ → Carried
send_call s b o = carried (advanced s Open) b (sent_block (outbox_layout s) s.settings.n s.own s.settings.sender b o)

-- call 2: the block is the sender's message, zeros if absent, and without a sender the lent one; the own piece and piece j to each j
abbrev pub receive_call : State → List ℕ → List ℕ → List ℕ → Carried
receive_call s b i o =
    let b' = received_block i (inbox_layout s) s.settings.sender b in
    carried (advanced s Open) b' (sent_pieces s.run s.settings.n s.settings.t s.settings.k s.own b' o)

-- call 3: the marks to all
abbrev pub compare_call : State → List ℕ → List ℕ → List ℕ → Carried
compare_call s b i o =
    carried (advanced s Open) b
    (sent_marks (outbox_layout s) s.settings.n (marks_of s.settings.n s.settings.t s.settings.k s.own i (inbox_layout s) b) o)

-- call 4: row j of the matrix is the message of j; the matrix to all
abbrev pub collect_call : State → List ℕ → List ℕ → List ℕ → Carried
collect_call s b i o =
    let m = first_matrix i (inbox_layout s) s.settings.n in
    carried (with_matrix (advanced s Open) m) b (matrix_to_all s m o)

-- after 3p + 1: where zero and where one is seen, to all
abbrev pub tally_call : State → List ℕ → List ℕ → List ℕ → Carried
tally_call s b i o =
    carried (advanced s Open) b
    (to_all (outbox_layout s) s.settings.n
    (seen_message s.settings.n (zeros_of i (inbox_layout s) s.settings.n s.settings.t) (ones_of i (inbox_layout s) s.settings.n s.settings.t)) o)

-- after 3p + 2: the bits now held; king p sends them to all
abbrev pub hold_call : State → List ℕ → List ℕ → List ℕ → Carried
hold_call s b i o =
    let m = held_of i (inbox_layout s) s.settings.n s.settings.t in
    carried (with_votes (advanced s Open) m (weak_of i (inbox_layout s) s.settings.n s.settings.t)) b
    (sent_by_king (outbox_layout s) s.own (write_phase s) s.settings.n m o)

-- after 3p + 3: the king's bit where the count was low
abbrev pub settled_matrix : State → List ℕ → List ℕ
settled_matrix s i = settled_of s.matrix s.weak i (inbox_layout s) s.settings.n (read_phase s)

-- and the next phase begins: the matrix to all
abbrev pub settle_call : State → List ℕ → List ℕ → List ℕ → Carried
settle_call s b i o = let m = settled_matrix s i in carried (with_matrix (advanced s Open) m) b (matrix_to_all s m o)

-- call 3t + 7: after the last phase, the core; its members send to j piece j of their own coding
abbrev pub core_call : State → List ℕ → List ℕ → List ℕ → Carried
core_call s b i o =
    let m = settled_matrix s i in
    let e = core_of m s.settings.n s.settings.t in
    carried (with_core (advanced s Open) m e) b (forwarded s.run s.settings.n s.settings.t s.settings.k s.own e b o)

-- call 3t + 8: the own piece to all, if there is one
abbrev pub choose_call : State → List ℕ → List ℕ → List ℕ → Carried
choose_call s b i o = carried (advanced s Open) b (shared s.settings.n s.settings.t s.settings.k s.own s.core i (inbox_layout s) b o)

-- the last call: decodes and writes the block; the outcome, and whom the controller names
abbrev pub finish_call : State → List ℕ → List ℕ → List ℕ → Carried
finish_call s b i o =
    let f = finished s.settings.n s.settings.t (inbox_layout s) s.core i b in
    carried (with_named (advanced s f.ending.outcome) f.ending.named) f.block o

unfoldable pub call_of : Call → State → List ℕ → List ℕ → List ℕ → Carried
call_of Send s b i o = send_call s b o
call_of Receive s b i o = receive_call s b i o
call_of Compare s b i o = compare_call s b i o
call_of Collect s b i o = collect_call s b i o
call_of Tally s b i o = tally_call s b i o
call_of Hold s b i o = hold_call s b i o
call_of Settle s b i o = settle_call s b i o
call_of Core s b i o = core_call s b i o
call_of Choose s b i o = choose_call s b i o
call_of Finish s b i o = finish_call s b i o
call_of Outside s b i o = carried s b o
