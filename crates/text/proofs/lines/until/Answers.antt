-- `lines::until` meets its contract.
use Rattle.std.proofs.Common.{ap, ◌∙◌}
use Rattle.text.specs.Read.{before}
use Rattle.text.proofs.Fields.{until_none}
use Rattle.text.proofs.lines.until.Goals as goal

pub returns-in-None : goal.returns-in-None
returns-in-None c = until_none c.args.c c.tail-rest.result.now c.in-None.ensures ∙ ap (before c.args.c) c.tail-rest.ensures
