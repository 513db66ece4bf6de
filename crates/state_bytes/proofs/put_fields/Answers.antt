-- `put_fields` meets its contract.
use Rattle.state_bytes.proofs.Fields.{width_le, offset_none, offset_more, offset_le, state_length_is, field-within, lent, next_field, first_field, last-field}
use Rattle.state_bytes.specs.State.{widths}
use lib.ListN.{length}
use native.Mathlib.Omega.{arith}
use mathlib.Core.Path.{◌≡◌, sym}
use Rattle.state_bytes.proofs.put_fields.Goals as goal

pub loop-i-init : goal.loop-i-init
loop-i-init c = (sym offset_none, first_field c.args.s c.args.bytes.now)

pub overflow_add-e : goal.overflow_add-e
overflow_add-e c =
    let i = c.loop-i.i in
    omega (arith, c.width.ensures, offset_le i, width_le i)

pub slice_bounds-put_field-end : goal.slice_bounds-put_field-end
slice_bounds-put_field-end c =
    let L = c.loop-i in
    omega (arith, c.width.ensures, L.invariant, state_length_is, field-within (length widths) L.i (omega arith))

pub put_field-requires : goal.put_field-requires
put_field-requires c =
    let L = c.loop-i in
    let w = c.width in
    (omega arith, lent c.args.s c.args.bytes.now (omega (arith, state_length_is)) L.i L.a w.result (omega arith) L.invariant.0 w.ensures L.bytes L.invariant.1)

pub loop-i-preserved : goal.loop-i-preserved
loop-i-preserved c =
    let L = c.loop-i in
    let w = c.width in
    let p = c.put_field in (
      omega (arith, w.ensures, offset_more L.i),
      next_field c.args.s c.args.bytes.now (omega (arith, state_length_is)) L.i L.a w.result (omega arith) L.invariant.0 w.ensures L.bytes L.invariant.1 p.new.bytes p.ensures,
    )

pub returns : goal.returns
returns c =
    let L = c.loop-i in
    let e : L.i ≡ length widths = omega arith in
    last-field c.args.s c.args.bytes.now (omega (arith, state_length_is)) L.i L.a e L.invariant.0 L.bytes L.invariant.1
