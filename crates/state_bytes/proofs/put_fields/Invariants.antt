-- `state_bytes::put_fields` meets its contract: the loop writes field after field.
use Rattle.state_bytes.specs.State.{offset, field_bytes}
use Rattle.lists.specs.Join.{joined}
use lib.ListN.{drop}
use mathlib.Core.List.{◌++◌}
use mathlib.Core.Path.{◌≡◌}
use Rattle.state_bytes.proofs.put_fields.Given as goal

abbrev pub invariant-loop-i : goal.invariant-loop-i
invariant-loop-i l = (l.a ≡ offset l.i) × (l.bytes ≡ joined (field_bytes l.s) l.i ++ drop l.a l.initial.bytes)
