-- `state_bytes::read` meets its contract.
use mathlib.Core.Path.{sym, ap, ◌∙◌}
use Rattle.state_bytes.specs.State.{state_of, state_in}
use Rattle.state_bytes.proofs.Fields.{if-state, if-other}
use Rattle.state_bytes.proofs.read.Goals as goal

pub returns-in-Some : goal.returns-in-Some
unfolding state_of
returns-in-Some c =
    let q = c.in-Some.ensures.cases in
    c.state_in.ensures ∙ ap state_in q.same ∙ sym (if-state c.args.bytes.now _ _ q.long)

pub returns-in-None : goal.returns-in-None
unfolding state_of
returns-in-None c = c.zero_state.ensures ∙ sym (if-other c.args.bytes.now _ _ c.in-None.ensures.cases)
