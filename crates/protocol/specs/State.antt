-- The state of a controller (document 01, 'The house'; document 02, U1 and U11). It is written out in two places: `initial`, from which the zero and the
-- fresh state are made, and `changed`, by which each group of fields is changed.
--   initial s own r next  the outcome open, and no matrix, weak bits or core, and nobody named; r is the run number
--   zero_state            all zero, and the outcome open
--   fresh_state s own r   what start returns when carried out
--   changed s ..          the state s with the next call, the outcome, the matrix, the weak bits, the core and the marks of those named given
--   with_call s next w    with another next call, the outcome w and nobody named, whoever was
--   advanced s w          the state at the call after its next one, with the outcome w and nobody named
--   with_matrix s m       with another matrix
--   with_votes s m w      with another matrix, and the bits of it whose count was low
--   with_core s m e       with another matrix, and a core
--   with_named s m        with the marks m of those named
use Rattle.std.specs.Prelude.{List, ℕ, ◌+◌, replicate}
use Rattle.settings.specs.declared.Settings.{Settings}
use Rattle.reconstruction.specs.declared.Outcome.{Outcome}
use Rattle.reconstruction.specs.declared.Outcome.TheVariants.{Open}
use Rattle.protocol.specs.declared.State.{State}

abbrev pub initial : Settings → (own run next : ℕ) → State
initial s own run next = record {
  settings = s;
  own = own;
  run = run;
  next = next;
  outcome = Open;
  matrix = replicate 16 0;
  weak = replicate 16 0;
  core = 0;
  named = 0;
}

abbrev pub zero_state : State
zero_state = initial (record { n = 0; t = 0; k = 0; sender = 0 }) 0 0 0

abbrev pub fresh_state : Settings → (own run : ℕ) → State
fresh_state s own run = initial s own run 1

abbrev pub changed : State → (next : ℕ) → Outcome → (matrix weak : List ℕ) → (core named : ℕ) → State
changed s next outcome matrix weak core named = record {
  settings = s.settings;
  own = s.own;
  run = s.run;
  next = next;
  outcome = outcome;
  matrix = matrix;
  weak = weak;
  core = core;
  named = named;
}

abbrev pub with_call : State → (next : ℕ) → Outcome → State
with_call s next w = changed s next w s.matrix s.weak s.core 0

abbrev pub advanced : State → Outcome → State
advanced s w = with_call s (s.next + 1) w

abbrev pub with_matrix : State → List ℕ → State
with_matrix s m = changed s s.next s.outcome m s.weak s.core s.named

abbrev pub with_votes : State → List ℕ → List ℕ → State
with_votes s m w = changed s s.next s.outcome m w s.core s.named

abbrev pub with_core : State → List ℕ → ℕ → State
with_core s m e = changed s s.next s.outcome m s.weak e s.named

abbrev pub with_named : State → ℕ → State
with_named s m = changed s s.next s.outcome s.matrix s.weak s.core m
