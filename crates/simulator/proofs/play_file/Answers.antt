-- `play_file` meets its contract.
use Rattle.std.proofs.Common.{ap, ◌∙◌, [], length}
use Rattle.text.specs.Write.{padded}
use Rattle.simulator.proofs.Whole.{file_playable, run_output}
use Rattle.simulator.proofs.play_file.Goals as goal

pub invariant_of-script : goal.invariant_of-script
invariant_of-script c = record { playable = file_playable c.args.input.now c.requires }

pub results-requires : goal.results-requires
results-requires c = (file_playable c.args.input.now c.requires).small

pub returns : goal.returns
returns c =
    let e = run_output c.args.input.now c.requires c.play-controllers.result [] _ (c.play-controllers.ensures []) in
    (c.results.ensures.0 ∙ ap (padded 6400) e, c.results.ensures.1 ∙ ap length e)
