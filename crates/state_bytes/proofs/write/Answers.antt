-- `state_bytes::write` meets its contract.
use mathlib.Core.Path.{sym, ◌∙◌}
use Rattle.state_bytes.proofs.Fields.{if-state, if-other}
use Rattle.state_bytes.proofs.write.Goals as goal

pub returns-in-Some : goal.returns-in-Some
returns-in-Some c = c.put_fields.ensures ∙ sym (if-state c.args.bytes.now _ _ c.in-Some.ensures.cases.long)

pub returns-in_default : goal.returns-in_default
returns-in_default c = sym (if-other c.args.bytes.now _ _ c.in_default.ensures.cases)
