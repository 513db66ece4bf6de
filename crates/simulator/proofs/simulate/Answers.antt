-- `simulate` meets its contract.
use Rattle.std.proofs.Common.{sym, ap, ◌∙◌, ℕ, length}
use Rattle.text.specs.Write.{padded}
use Rattle.system_file.specs.Form.{read_of}
use Rattle.system_file.proofs.Laws.{file-wrong}
use Rattle.simulator.specs.Output.{bad_line}
use Rattle.simulator.proofs.Outputs.{simulated-wrong}
use Rattle.simulator.proofs.simulate.Goals as goal

pub returns-in-Err : goal.returns-in-Err
returns-in-Err c =
    let input = c.args.input.now in
    let e = simulated-wrong input _ (file-wrong (read_of input) c.in-Err.error c.in-Err.ensures) in
    let line = c.from.ensures in (
      c.bad.ensures.0 ∙ ap (λ (x : ℕ). padded 6400 (bad_line x)) line ∙ ap (padded 6400) (sym e),
      c.bad.ensures.1 ∙ ap (λ (x : ℕ). length (bad_line x)) line ∙ ap length (sym e),
    )
