-- `state_bytes::run_number` meets its contract.
use Rattle.state_bytes.proofs.Digits.{word_number}
use Rattle.state_bytes.proofs.Fields.{state_length_is, length-field}
use Rattle.state_bytes.specs.State.{width_of, number_of, field_in}
use Rattle.state_bytes.specs.declared.TheConstants.{LENGTH}
use lib.ListN.{length}
use mathlib.Core.List.{List}
use Prim.Native.Nat.{ℕ}
use native.Mathlib.Omega.{arith}
use mathlib.Core.Path.{◌≡◌, sym, ap, ◌∙◌}
use Rattle.state_bytes.proofs.run_number.Goals as goal

-- the field has two bytes
two : (b f : List ℕ) → length b ≡ LENGTH → f ≡ field_in b 11 → length f ≡ 2
unfolding width_of
two b f r e = ap length e ∙ length-field b 11 (r ∙ sym state_length_is) (omega arith)

pub bounds-f-0 : goal.bounds-f-0
bounds-f-0 c = omega (arith, two c.args.bytes.now _ (omega arith) c.field-f.ensures)

pub bounds-f-1 : goal.bounds-f-1
bounds-f-1 c = omega (arith, two c.args.bytes.now _ (omega arith) c.field-f.ensures)

pub returns : goal.returns
returns c =
    c.word.ensures ∙ word_number c.field-f.result.now (two c.args.bytes.now _ (omega arith) c.field-f.ensures) ∙ ap number_of c.field-f.ensures
