-- What the answer of `settings::state_refusal` says.
use mathlib.Core.Path.{◌≡◌, sym, ap, ◌∙◌}
use mathlib.Core.Bool.{true, false, not}
use borrow.Author.Tests.{eqb-true}
use lib.Dec.{eqb}
use Prim.Native.Nat.{ℕ}
use Rattle.std.specs.Prelude.{Result, is_ok}
use Rattle.settings.specs.declared.Settings.{Settings}
use Rattle.settings.specs.declared.Refusal.{Refusal}
use Rattle.settings.specs.Number.{number_of}
use Rattle.settings.specs.Refusal.{state_refusal}
use Rattle.settings.specs.Valid.{Valid}
use Rattle.settings.proofs.Laws.{ok_0, state_0}

module _ (s : Settings) (own : ℕ) (r : Result Unit Refusal) (e : number_of r ≡ state_refusal s own) where
  pub ok_valid : is_ok r ≡ true → Valid s own
  ok_valid y = state_0 s own (sym e ∙ eqb-true (number_of r) 0 (sym (ok_0 r) ∙ y))

  pub err_refused : is_ok r ≡ false → not (eqb (state_refusal s own) 0) ≡ true
  err_refused n = ap not (ap (λ (x : ℕ). eqb x 0) (sym e) ∙ sym (ok_0 r) ∙ n)
