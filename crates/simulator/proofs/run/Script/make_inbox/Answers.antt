-- `make_inbox` meets its contract.
use mathlib.Core.List.{[]}
use Rattle.simulator.specs.Steps.{inbox_in, scene, sent_by}
use Rattle.simulator.proofs.Running.{first_made}
use Rattle.simulator.proofs.run.Script.make_inbox.Goals as goal

pub returns-else-c-ne0 : goal.returns-else-c-ne0
returns-else-c-ne0 c =
    let a = c.args in
    let f = a.self.now.file.now in
    first_made (scene a.self.now.input.now f []) (sent_by a.sent.now (inbox_in f.settings a.c)) a.c a.i a.inbox.now c.if-c-ne0.false c.requires.cleared
