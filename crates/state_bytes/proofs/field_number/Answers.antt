-- `state_bytes::field_number` meets its contract.
use Rattle.state_bytes.proofs.Digits.{from_digits}
use Rattle.state_bytes.proofs.Fields.{state_length_is, number-width_is, length-field}
use Rattle.state_bytes.specs.State.{number_of, field_in}
use Rattle.state_bytes.specs.declared.TheConstants.{LENGTH}
use lib.ListN.{length}
use native.Mathlib.Omega.{arith}
use mathlib.Core.List.{List}
use Prim.Native.Nat.{ℕ, ◌<◌}
use mathlib.Core.Path.{◌≡◌, sym, ap, ◌∙◌}
use Rattle.state_bytes.proofs.field_number.Goals as goal

-- the field has eight bytes
eight : (b f : List ℕ) (i : ℕ) → length b ≡ LENGTH → i < 6 → f ≡ field_in b i → length f ≡ 8
eight b f i e h is = ap length is ∙ length-field b i (e ∙ sym state_length_is) (omega (arith, h)) ∙ number-width_is i h

pub unwrap-requires : goal.unwrap-requires
unwrap-requires c = c.try_into.ensures.0 (eight c.args.bytes.now c.field.result.now c.args.i (omega arith) c.requires c.field.ensures)

pub returns : goal.returns
returns c =
    let f = c.field.result.now in
    let q = rw c.unwrap.ensures at c.try_into.ensures.1 in
    let same : c.unwrap.result ≡ f = q.same in
    let long : length c.unwrap.result ≡ 8 =
    ap length same ∙ eight c.args.bytes.now f c.args.i (omega arith) c.requires c.field.ensures in
    c.from_le_bytes.ensures ∙ from_digits c.unwrap.result long ∙ ap number_of (same ∙ c.field.ensures)
