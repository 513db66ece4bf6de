-- `finish` meets its contract.
use Rattle.reconstruction.proofs.Rounds.{finished_none, finished_answers}
use Rattle.reconstruction.specs.Reconstruction.{ending, finish}
use Rattle.reconstruction.specs.declared.Outcome.TheVariants.{None}
use Rattle.reed_solomon.specs.Decode.{Block, Beyond, Refused}
use Rattle.settings.specs.Number.{row_of}
use mathlib.Core.Path.{sym, ap, ◌∙◌}
use Rattle.reconstruction.proofs.finish.Goals as goal

pub returns-then-restrict-eq0 : goal.returns-then-restrict-eq0
returns-then-restrict-eq0 c =
    let a = c.args in
    ap (finish (ending None 0)) c.silence.ensures
    ∙ sym (finished_none a.s.n a.s.t a.layout a.core a.inbox.now a.block.now (sym c.restrict.ensures ∙ c.if-restrict-eq0.true))

pub returns-in-Ok-Some : goal.returns-in-Ok-Some
returns-in-Ok-Some c =
    let a = c.args in
    finished_answers a.s.n a.s.t a.layout a.core a.inbox.now a.block.now (λ z. c.if-restrict-eq0.false (c.restrict.ensures ∙ z))
    (Block c.in-Ok-Some.named) c.decode.new.block
    (rw c.in-Ok-Some.field-0-is at c.in-Ok-Some.ensures)

pub returns-in-Ok-None : goal.returns-in-Ok-None
returns-in-Ok-None c =
    let a = c.args in
    finished_answers a.s.n a.s.t a.layout a.core a.inbox.now a.block.now (λ z. c.if-restrict-eq0.false (c.restrict.ensures ∙ z))
    Beyond c.decode.new.block
    (rw c.in-Ok-None.field-0-is at c.in-Ok-None.ensures)

pub returns-in-Err : goal.returns-in-Err
returns-in-Err c =
    let a = c.args in
    finished_answers a.s.n a.s.t a.layout a.core a.inbox.now a.block.now (λ z. c.if-restrict-eq0.false (c.restrict.ensures ∙ z))
    (Refused (row_of c.in-Err.field-0)) c.decode.new.block
    c.in-Err.ensures
