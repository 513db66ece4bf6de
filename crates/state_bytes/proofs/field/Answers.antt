-- `state_bytes::field` meets its contract: the part that starts at the field's offset.
use Rattle.state_bytes.proofs.Fields.{width_le, offset_le, state_length_is, field-within, part_field}
use Rattle.state_bytes.specs.State.{widths}
use lib.ListN.{length}
use native.Mathlib.Omega.{arith}
use Rattle.state_bytes.proofs.field.Goals as goal

pub overflow_add-e : goal.overflow_add-e
overflow_add-e c =
    let i = c.args.i in
    omega (arith, c.offset-a.ensures, c.width.ensures, offset_le i, width_le i)

pub slice_bounds-result-end : goal.slice_bounds-result-end
slice_bounds-result-end c =
    omega (arith, c.offset-a.ensures, c.width.ensures, state_length_is, field-within (length widths) c.args.i c.requires)

pub returns : goal.returns
returns c =
    let a = c.args in
    let o = c.offset-a in
    let w = c.width in
    part_field a.bytes.now a.i o.result w.result o.ensures w.ensures
