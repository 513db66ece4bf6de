-- The number returned for an answer: 0 exactly for Ok, and that of a row for no other row.
use Rattle.std.proofs.Common.{◌≡◌, ◌∙◌, ◌≤◌, ℕ, cond, refl, sym, ap, eqb, is_ok, Result, Ok, Err, arith}
use Rattle.settings.specs.declared.Refusal.{Refusal}
use Rattle.settings.specs.declared.Refusal.TheVariants.{Controllers, Tolerance, Stripes, Number, Sender, Length, State, Finished}
use Rattle.settings.specs.Number.{row_of, number_of}

pub row_least : (r : Refusal) → 1 ≤ row_of r
row_least Controllers = omega arith
row_least Tolerance = omega arith
row_least Stripes = omega arith
row_least Number = omega arith
row_least Sender = omega arith
row_least Length = omega arith
row_least State = omega arith
row_least Finished = omega arith

pub ok_0 : {A : Type 0} (a : Result A Refusal) → is_ok a ≡ eqb (number_of a) 0
ok_0 (Ok a) = refl
ok_0 (Err Controllers) = refl
ok_0 (Err Tolerance) = refl
ok_0 (Err Stripes) = refl
ok_0 (Err Number) = refl
ok_0 (Err Sender) = refl
ok_0 (Err Length) = refl
ok_0 (Err State) = refl
ok_0 (Err Finished) = refl

-- the row of a number
abbrev row : ℕ → Refusal
row x =
    cond (eqb x 1) Controllers
    (cond (eqb x 2) Tolerance
    (cond (eqb x 3) Stripes
    (cond (eqb x 4) Number
    (cond (eqb x 5) Sender
    (cond (eqb x 6) Length
    (cond (eqb x 7) State
    Finished))))))

row_row : (r : Refusal) → row (row_of r) ≡ r
row_row Controllers = refl
row_row Tolerance = refl
row_row Stripes = refl
row_row Number = refl
row_row Sender = refl
row_row Length = refl
row_row State = refl
row_row Finished = refl

pub one_answer : (a b : Result Unit Refusal) → number_of a ≡ number_of b → a ≡ b
one_answer (Ok _) (Ok _) e = refl
one_answer (Ok _) (Err r) e = absurd (omega (arith, row_least r))
one_answer (Err r) (Ok _) e = absurd (omega (arith, row_least r))
one_answer (Err r) (Err q) e = ap Err (sym (row_row r) ∙ ap row e ∙ row_row q)
