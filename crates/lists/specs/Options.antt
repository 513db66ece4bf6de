-- Answers that may be none.
--   or_else r q  r, or q where r is none
--   front x r    x before the list of r
use Rattle.std.specs.Prelude.{List, ◌∷◌}
use Rattle.std.proofs.Math.Option.{Option, none, some}

abbrev pub or_else {ℓ} : {A : Type ℓ} → Option A → Option A → Option A
or_else none q = q
or_else (some x) q = some x

abbrev pub front {ℓ} : {A : Type ℓ} → A → Option (List A) → Option (List A)
front x none = none
front x (some l) = some (x ∷ l)
