-- `enter_line` meets its contract.
use mathlib.Core.Path.{sym, ◌∙◌}
use Rattle.system_file.proofs.Entries.{entry_short, entry_wrong, said_enters, entry_said, entry_given}
use Rattle.system_file.proofs.messages.enter_line.Goals as goal

pub returns-then-input-end : goal.returns-then-input-end
returns-then-input-end c =
    let a = c.args in
    let q = entry_short a.s a.input.now c.line_at-l.result.now a.at a.places.now c.line_at-l.ensures c.if-input-end.true in
    record { value = q.0; places_after = q.1 }

pub returns-in_err-message : goal.returns-in_err-message
returns-in_err-message c =
    let a = c.args in
    let q = entry_wrong a.s a.input.now c.line_at-l.result.now a.at a.places.now c.line_at-l.ensures (sym c.in_err-message.was ∙ c.message_line.ensures) in
    record { value = c.from_residual.ensures ∙ q.0; places_after = q.1 }

pub enter-requires : goal.enter-requires
enter-requires c =
    let a = c.args in (
      said_enters a.s a.input.now c.line_at-l.result.now a.at a.places.now c.line_at-l.ensures
          c.in_ok-message.message c.if-input-end.false c.in_ok-message.ensures c.requires.0,
      c.requires.1,
    )

-- where the line says a message
pub returns-then-not-enter : goal.returns-then-not-enter
returns-then-not-enter c =
    let a = c.args in
    let q = entry_given a.s a.input.now c.line_at-l.result.now a.at a.places.now c.line_at-l.ensures
    c.in_ok-message.message c.if-input-end.false c.in_ok-message.ensures c.enter.ensures.value c.enter.ensures.places_after c.if-not-enter.true in
    record { value = q.0; places_after = q.1 }

pub returns : goal.returns
returns c =
    let a = c.args in
    let q = entry_said a.s a.input.now c.line_at-l.result.now a.at a.places.now c.line_at-l.ensures
    c.in_ok-message.message c.if-input-end.false c.in_ok-message.ensures c.enter.ensures.value c.enter.ensures.places_after c.if-not-enter.false in
    record { value = q.0; places_after = q.1 }
