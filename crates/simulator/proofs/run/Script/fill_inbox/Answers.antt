-- `fill_inbox` meets its contract.
use Rattle.std.proofs.Common.{arith, ap, sym, ◌∙◌, ◌<◌, ℕ, [], length, take, get_or}
use Rattle.lists.proofs.Zeros.{length_front}
use Rattle.simulator.proofs.Writing.{get_or_inside}
use Rattle.wire.specs.declared.slot.Layout.{Layout}
use Rattle.simulator.proofs.Running.{place_is, no_place, length-cleared, place-room, message_le, inbox_le, turn_silent, turn_said, turn_sent, fill_start, fill_end}
use Rattle.simulator.proofs.run.Script.fill_inbox.Goals as goal
use Rattle.simulator.proofs.run.Script.fill_inbox.Goals.{then-not-member, else-not-member+in-Some, else-not-member+in_default}

pub loop-j-init : goal.loop-j-init
loop-j-init c = fill_start c.args.sent.now c.args.self.now.playable c.requires.0 c.requires.1

pub slice_bounds-message-end : goal.slice_bounds-message-end
slice_bounds-message-end c =
    let l = ap (λ (x : Layout). x.length) c.round_layout-layout.ensures in
    omega (arith, l, message_le c.args.self.now.playable.small c.args.c)

pub slice_bounds-m-end : goal.slice_bounds-m-end
slice_bounds-m-end c =
    let l = ap (λ (x : Layout). x.length) c.round_layout-layout.ensures in
    sym (length_front 192 c.round_layout-layout.result.length (omega (arith, l, message_le c.args.self.now.playable.small c.args.c)))

pub front-requires : goal.front-requires
front-requires c =
    let h = c.requires.0 in
    omega (arith, length-cleared c.args.sent.now c.args.self.now.playable h c.requires.1, inbox_le c.args.self.now.playable.small c.args.c h.calls-most)

pub fill_said-requires : goal.fill_said-requires
fill_said-requires c =
    let h = c.requires.0 in
    let j = c.loop-j.j in
    let p = place_is _ _ c.in-Some.ensures in
    let l = ap (λ (x : Layout). x.length) c.round_layout-layout.ensures in (
      c.loop-j.auto.m ∙ length_front 192 c.round_layout-layout.result.length (omega (arith, l, message_le c.args.self.now.playable.small c.args.c)),
      c.args.self.now.playable.rooms.input_most,
      p.1,
      omega (arith, l, p.0, place-room c.args.sent.now c.args.self.now.playable h c.requires.1 j (λ z. omega (arith, p.0, p.1))),
    )

pub loop-j-preserved : goal.loop-j-preserved
loop-j-preserved c =
    let boxes = c.args.sent.now in
    let h = c.requires.0 in
    let r = c.requires.1 in
    let l = c.round_layout-layout.ensures in
    let e = c.loop-j.invariant in
    let s = c.loop-j.auto.inbox in
    let j = c.loop-j.j in
    let less : j < c.args.self.now.file.now.settings.n = c.loop-j-test.true in
    let o = length-cleared boxes c.args.self.now.playable h r in
    elim c.if-not-member.branch [
      | then-not-member w ↦
          let out = w.front.ensures.0 ∙ ap (take (length c.args.inbox.now)) (get_or_inside boxes j _ [] (omega arith)) ∙ ap (λ (n : ℕ). take n (get_or boxes j [])) o in
          w.inbox-is ∙ turn_sent boxes c.args.self.now.playable h r less e s l (sym c.member.ensures ∙ w.if-not-member.true) out (w.front.ensures.1 ∙ o) w.relay.ensures
      | else-not-member+in-Some w ↦
          let p = place_is _ _ w.in-Some.ensures in
          w.inbox-is ∙ turn_said boxes c.args.self.now.playable h r less e s l (sym c.member.ensures ∙ w.if-not-member.false) (λ z. omega (arith, p.0, p.1)) p.0 w.fill_said.ensures
      | else-not-member+in_default w ↦
          w.inbox-is ∙ turn_silent boxes c.args.self.now.playable h r less e s l (sym c.member.ensures ∙ w.if-not-member.false) (no_place _ w.in_default.ensures)
    ]

pub returns : goal.returns
returns c = fill_end c.args.sent.now c.args.self.now.playable c.requires.0 c.requires.1 (omega arith) c.loop-j.invariant
