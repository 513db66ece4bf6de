-- One controller's run (document 01, 'The house'): a start, then any list of steps, refused ones anywhere among them. The contracts of the
-- functions `start` and `step` are the equations `start_of` and `step_of` that a run is made of here.
--   Lent                the inbox and the outbox that the caller lends to a step, of any length; the inbox holds any bytes
--   Local               what passes from each step to the next: the state and the block
--   stepped h l         one step
--   left h l            what it leaves to the next
--   carried_out h l     whether it was carried out: it returned 0
--   left_after h ls     what is held after a list of steps
--   Made, made h l      a step that was carried out: what it was made on, what was lent, what it left, and what it sends
--   calls h ls          the calls among a list of steps: those carried out, in order
--   begun s own run b   what the first step gets: the state that start with the run number `run` returned, and the block lent to start
use Rattle.std.specs.Prelude.{Bool, cond, List, [], ◌∷◌, ℕ, eqb, length}
use Rattle.settings.specs.declared.Settings.{Settings}
use Rattle.polynomial.specs.Polynomial.{Bytes}
use Rattle.protocol.specs.declared.State.{State}
use Rattle.protocol.specs.Step.{start_of, step_of, After}

pub record Lent : Type 0 where
  pub inbox : List ℕ
  pub outbox : List ℕ
  pub inbox-bytes : Bytes inbox

pub record Local : Type 0 where
  pub state : State
  pub block : List ℕ

abbrev pub stepped : Local → Lent → After
stepped h l = step_of h.state h.block l.inbox l.outbox

abbrev pub left : Local → Lent → Local
left h l = record { state = (stepped h l).answer.state; block = (stepped h l).block }

abbrev pub carried_out : Local → Lent → Bool
carried_out h l = eqb (stepped h l).answer.number 0

abbrev pub left_after : Local → List Lent → Local
left_after h [] = h
left_after h (l ∷ ls) = left_after (left h l) ls

pub record Made : Type 0 where
  pub before : Local
  pub lent : Lent
  pub after : Local
  pub sends : List ℕ

abbrev pub made : Local → Lent → Made
made h l = record { before = h; lent = l; after = left h l; sends = (stepped h l).outbox }

abbrev pub calls : Local → List Lent → List Made
calls h [] = []
calls h (l ∷ ls) = cond (carried_out h l) (made h l ∷ calls (left h l) ls) (calls (left h l) ls)

abbrev pub begun : Settings → (own run : ℕ) → List ℕ → Local
begun s own run b = record { state = (start_of s own run (length b)).state; block = b }
