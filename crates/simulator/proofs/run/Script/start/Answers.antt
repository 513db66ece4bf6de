-- `start` meets its contract.
use Rattle.std.proofs.Common.{arith, sym, ap, ◌∙◌, ◌≡◌, ℕ, [], length, take}
use lib.ListN.{length-take}
use Rattle.wire.proofs.Laws.{block_size_is}
use Rattle.protocol.specs.Step.{Answer, start_of}
use Rattle.simulation.specs.Run.{run_number}
use Rattle.simulation.proofs.Laws.{began_is}
use Rattle.simulator.specs.Play.{block_in, given}
use Rattle.simulator.specs.Steps.{scene}
use Rattle.simulator.proofs.run.Script.start.Goals as goal

pub slice_bounds-block-end : goal.slice_bounds-block-end
slice_bounds-block-end c =
    let f = c.args.self.now.file.now in
    omega (arith, c.block_length-b.ensures, block_size_is c.args.self.now.playable.small.coded, c.args.self.now.playable.block_is, length-take (block_in f.settings) f.block)

pub slice_bounds-start-end : goal.slice_bounds-start-end
slice_bounds-start-end c =
    let f = c.args.self.now.file.now in
    let b : c.block_length-b.result ≡ block_in f.settings = c.block_length-b.ensures ∙ block_size_is c.args.self.now.playable.small.coded in
    b ∙ sym c.args.self.now.playable.block_is ∙ ap (λ (x : ℕ). length (take x f.block)) (sym b)

pub returns : goal.returns
returns c =
    let f = c.args.self.now.file.now in
    let i = c.args.i in
    let b : c.block_length-b.result ≡ block_in f.settings = c.block_length-b.ensures ∙ block_size_is c.args.self.now.playable.small.coded in
    let e = c.state_of.ensures ∙ ap (λ (x : Answer). x.state) c.start-answer.ensures
    ∙ ap (λ (x : ℕ). (start_of f.settings i run_number (length (take x f.block))).state) b in
    (λ x. record { state = e x; block = given f; outbox = [] }) ∙ sym (began_is (scene c.args.self.now.input.now f (given f)) i)
