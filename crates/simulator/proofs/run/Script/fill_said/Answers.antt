-- `fill_said` meets its contract: the digits are read by way of m.
use Rattle.std.proofs.Common.{arith, ap, ◌∙◌}
use Rattle.wire.specs.Slot.{put_slot}
use Rattle.simulator.proofs.Running.{read_text}
use Rattle.simulator.proofs.run.Script.fill_said.Goals as goal

pub returns : goal.returns
returns c =
    let a = c.args in
    let h = c.read_bytes.ensures in
    let r = c.requires in
    c.send_one.ensures ∙ ap (put_slot a.inbox.now a.layout a.j)
    (c.read_bytes.ensures ∙ read_text a.self.now.input.now _ a.layout.length a.place (λ z. omega arith) r.0 r.3)
