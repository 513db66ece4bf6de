-- `state_bytes::outcome` meets its contract.
use Rattle.state_bytes.proofs.Digits.{byte_number}
use Rattle.state_bytes.proofs.Fields.{state_length_is, length-field}
use Rattle.state_bytes.specs.State.{widths, width_of, number_of, field_in}
use Rattle.state_bytes.specs.declared.TheConstants.{LENGTH}
use Rattle.reconstruction.specs.Outcomes.{outcome_from}
use lib.ListN.{length}
use mathlib.Core.List.{List}
use native.Mathlib.Omega.{arith}
use Prim.Native.Nat.{ℕ, ◌<◌}
use mathlib.Core.Path.{◌≡◌, sym, ap, ◌∙◌}
use Rattle.state_bytes.proofs.outcome.Goals as goal

-- a field has as many bytes as its width says
long : (b f : List ℕ) (i : ℕ) → i < length widths → length b ≡ LENGTH → f ≡ field_in b i → length f ≡ width_of i
long b f i h r e = ap length e ∙ length-field b i (r ∙ sym state_length_is) h

pub bounds-field-0 : goal.bounds-field-0
unfolding width_of
bounds-field-0 c = omega (arith, long c.args.bytes.now _ _ (omega arith) (omega arith) c.field.ensures)

pub returns : goal.returns
unfolding width_of
returns c =
    c.from.ensures
    ∙ ap outcome_from
    (byte_number c.field.result.now (long c.args.bytes.now _ 6 (omega arith) (omega arith) c.field.ensures) ∙ ap number_of c.field.ensures)
