-- `read_messages` meets its contract.
use mathlib.Core.Path.{ap, ◌∙◌}
use native.Mathlib.Omega.{arith}
use lib.ListN.{length}
use Rattle.system_file.proofs.Rows.{length_table}
use Rattle.system_file.proofs.Entries.{sofar_start, sofar_end, sofar_stop, sofar_step, sofar_more}
use Rattle.system_file.proofs.messages.read_messages.Goals as goal

pub loop-at-init : goal.loop-at-init
loop-at-init c =
    let a = c.args in
    sofar_start a.input.now a.s a.start a.places.now c.requires.started c.requires.places_value

pub enter_line-requires : goal.enter_line-requires
enter_line-requires c =
    let i = c.loop-at.invariant in (
      record { coded = c.requires.started.coded; size = c.requires.started.size; at_least = i.after; at_most = i.within },
      ap length i.table ∙ length_table i.messages,
    )

-- after a line that was entered
pub overflow_sub-entry : goal.overflow_sub-entry
overflow_sub-entry c =
    let s = c.requires.started in
    (sofar_step s.coded s.size c.loop-at.invariant c.loop-at-test.true c.in-Some.entry
    c.in-Some.ensures.value).0

pub loop-at-smaller : goal.loop-at-smaller
loop-at-smaller c =
    let s = c.requires.started in
    let q = sofar_step s.coded s.size c.loop-at.invariant c.loop-at-test.true c.in-Some.entry
    c.in-Some.ensures.value in
    omega (arith, q.1, q.2)

pub loop-at-preserved : goal.loop-at-preserved
loop-at-preserved c =
    let s = c.requires.started in
    sofar_more s.coded s.size c.loop-at.invariant c.loop-at-test.true c.in-Some.entry
    c.in-Some.ensures.value c.enter_line.new.places c.insert-faulty.result c.enter_line.ensures.places_after c.insert-faulty.ensures

pub returns-in_default : goal.returns-in_default
returns-in_default c =
    let s = c.requires.started in
    let q = sofar_stop s.coded s.size c.loop-at.invariant c.loop-at-test.true
    c.enter_line.new.places c.in_default.ensures.value in
    record { value = q.0; places_after = q.1 }

pub returns : goal.returns
returns c =
    let s = c.requires.started in
    let q = sofar_end s.coded s.size c.loop-at.invariant c.loop-at-test.false in
    record { value = q.0; places_after = q.1 }
