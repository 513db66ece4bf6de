-- `call` meets its contract: fronts of arrays are lent for the inbox and the outbox.
use Rattle.std.proofs.Common.{arith, sym, ap, ◌∙◌, ◌≡◌, ◌+◌, ℕ, length, take, replicate}
use lib.Seq.{length-take-le, take_at}
use Rattle.lists.proofs.Zeros.{take-zeros, length_front}
use Rattle.wire.proofs.Laws.{block_size_is}
use Rattle.simulator.specs.Play.{block_in}
use Rattle.protocol.specs.Step.{step_of}
use Rattle.simulator.specs.Steps.{outbox_in, held, taken}
use Rattle.simulator.proofs.Running.{block_le, inbox_le, outbox_le}
use Rattle.simulator.proofs.run.Script.call.Goals as goal

pub slice_bounds-space-end : goal.slice_bounds-space-end
slice_bounds-space-end c = omega (arith, c.inbox_length-size.ensures, inbox_le c.args.self.now.playable.small c.args.c c.requires.0)

pub slice_bounds-inbox-end : goal.slice_bounds-inbox-end
slice_bounds-inbox-end c =
    sym (length_front 3120 c.inbox_length-size.result (omega (arith, c.inbox_length-size.ensures, inbox_le c.args.self.now.playable.small c.args.c c.requires.0)))

pub make_inbox-requires : goal.make_inbox-requires
make_inbox-requires c =
    let size = c.inbox_length-size in
    record {
      calls-most = c.requires.0;
      number-least = omega arith;
      number-most = omega (arith, c.requires.1);
      cleared = take-zeros 3120 size.result (omega (arith, size.ensures, inbox_le c.args.self.now.playable.small c.args.c c.requires.0))
          ∙ ap (λ (x : ℕ). replicate x 0) size.ensures;
    }

pub step-requires : goal.step-requires
step-requires c =
    let v = c.args.self.now.playable.small in
    omega (arith, c.block_length-b.ensures, block_size_is v.coded, block_le v)

pub slice_bounds-step-end : goal.slice_bounds-step-end
slice_bounds-step-end c =
    let v = c.args.self.now.playable.small in
    omega (arith, c.outbox_length-o.ensures, outbox_le v (c.args.c + 1) (omega arith) (omega (arith, c.requires.0)))

pub returns : goal.returns
returns c =
    let a = c.args in
    let S = a.self.now.file.now.settings in
    let v = c.args.self.now.playable.small in
    let b : c.block_length-b.result ≡ block_in S = c.block_length-b.ensures ∙ block_size_is v.coded in
    let o = c.outbox_length-o.ensures in
    let y = c.step.new.outbox in
    let front : length (take c.outbox_length-o.result a.outbox.now) ≡ outbox_in S (a.c + 1)
    = length-take-le c.outbox_length-o.result a.outbox.now (omega (arith, o, outbox_le v (a.c + 1) (omega arith) (omega (arith, c.requires.0)))) ∙ o in
    let x = c.step.result in
    ap (held x (block_in S)) (take_at y _ (outbox_in S (a.c + 1)) (c.step.auto.outbox ∙ front)) ∙ ap (λ (z : ℕ). held x z y) (sym b) ∙ c.step.ensures
    ∙ (λ z. taken (step_of a.before.state (take (b z) a.before.block) (c.make_inbox.ensures z) (replicate (front z) 0)))
