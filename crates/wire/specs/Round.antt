-- Rounds and calls (document 01, 'The house': a run has 3t + 8 rounds and 3t + 9 calls; 'Rounds': the table).
--   round_count t, call_count t  how many there are
--   phase_round m, last_round m  the kinds of rounds of a phase, by their remainder by 3, and of those after the vote, without their 3t
--   round_kind t c               the row of the table in which round c stands: 1, 2, 3, then 3p + 1, 3p + 2, 3p + 3 for p = 1 .. t + 1, then 3t + 7, 3t +
--                                8; Outside for every other number
--   phase_call m, last_call m    the same of calls
--   call_kind t c                the kind of call c, which reads the inbox of round c - 1 and fills the outbox of round c
--   phase_of c                   the phase p of the rounds 3p + 1, 3p + 2 and 3p + 3, whose king is controller p
use Rattle.std.specs.Prelude.{cond, ℕ, ◌+◌, ◌-◌, ◌*◌, ◌/◌, ◌%◌, leb, eqb}
use Rattle.wire.specs.declared.Round.{Round}
use Rattle.wire.specs.declared.Round.TheVariants.{Block, Pieces, Marks, Matrix, Seen, King, Forward, Rebuild, Outside}
use Rattle.wire.specs.declared.Call.{Call}
use Rattle.wire.specs.declared.Call.TheVariants.{Send, Receive, Compare, Collect, Tally, Hold, Settle, Core, Choose, Finish, Outside as NoCall}

unfoldable pub round_count : ℕ → ℕ
round_count t = 3 * t + 8

unfoldable pub call_count : ℕ → ℕ
call_count t = 3 * t + 9

-- the rounds of phase p: 3p + 1, 3p + 2, 3p + 3
abbrev pub phase_round : ℕ → Round
phase_round m = cond (eqb m 1) Matrix (cond (eqb m 2) Seen King)

-- the rounds 3t + 7 and 3t + 8
abbrev pub last_round : ℕ → Round
last_round m = cond (eqb m 7) Forward (cond (eqb m 8) Rebuild Outside)

unfoldable pub round_kind : ℕ → ℕ → Round
round_kind t c =
    cond (eqb c 0) Outside
    (cond (eqb c 1) Block
    (cond (eqb c 2) Pieces
    (cond (eqb c 3) Marks
    (cond (leb c (3 * t + 6)) (phase_round (c % 3))
    (last_round (c - 3 * t))))))

-- the calls after rounds 3p + 1, 3p + 2 and 3p + 3
abbrev pub phase_call : ℕ → Call
phase_call m = cond (eqb m 2) Tally (cond (eqb m 0) Hold Settle)

-- the calls 3t + 7, 3t + 8 and 3t + 9
abbrev pub last_call : ℕ → Call
last_call m = cond (eqb m 7) Core (cond (eqb m 8) Choose (cond (eqb m 9) Finish NoCall))

unfoldable pub call_kind : ℕ → ℕ → Call
call_kind t c =
    cond (eqb c 0) NoCall
    (cond (eqb c 1) Send
    (cond (eqb c 2) Receive
    (cond (eqb c 3) Compare
    (cond (eqb c 4) Collect
    (cond (leb c (3 * t + 6)) (phase_call (c % 3))
    (last_call (c - 3 * t)))))))

unfoldable pub phase_of : ℕ → ℕ
phase_of c = (c - 1) / 3
