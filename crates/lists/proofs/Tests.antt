-- Laws of tests (Bool): a test holds or fails, never both; what `&&`, `||` and `cond` say. Those that std has are std's, under the names of this crate.
use mathlib.Core.Path.{◌≡◌, refl, sym, ap, ◌∙◌}
use mathlib.Core.Bool.{Bool, true, false, cond, not, ◌&&◌, ◌||◌}
use Prim.Native.Nat.{ℕ, zero, suc}
use native.Mathlib.Omega.{arith}
use borrow.Author.Tests.{eq-eqb, ne_eqb, eqb-true, le-leb}
use lib.Dec.{eqb, leb}
use Rattle.std.proofs.lemmas.Bool.{and_parts}
-- a test holds or fails
pub use Rattle.std.proofs.lemmas.Bool.{true≢false, cases_Bool as either, false_from_ne_true as fails, true_from_ne_false as passes}
-- `&&` and `||`
pub use Rattle.std.proofs.lemmas.Bool.{and_from as and_both, and_left as and_no_left, and_right as and_no_right}
pub use Rattle.std.proofs.lemmas.Bool.{or_cases, or_left, or_right, or_parts as or_neither}
pub use mathlib.Core.Bool.{not-not, and-true as and_true, and_comm, or_comm, or-false as or_none}
-- a choice by a test that is known
pub use Rattle.std.proofs.lemmas.Bool.{cond-true as cond_yes, cond-false as cond_no}
-- two numbers are equal or not; one is below the other or not
pub use Rattle.std.proofs.lemmas.Bool.{cases_eq as same_or_not, cases_lt as lt_or_le}

-- two tests that imply each other are equal
pub bool_ext : (a b : Bool) → (a ≡ true → b ≡ true) → (b ≡ true → a ≡ true) → a ≡ b
bool_ext true b f g = sym (f refl)
bool_ext false true f g = g refl
bool_ext false false f g = refl

pub and_left : (a b : Bool) → (a && b) ≡ true → a ≡ true
and_left a b e = (and_parts a b e).0

pub and_right : (a b : Bool) → (a && b) ≡ true → b ≡ true
and_right a b e = (and_parts a b e).1

pub and_tail : (a b : Bool) → a ≡ true → (a && b) ≡ b
and_tail a b e = rw e

pub or_tail : (a b : Bool) → a ≡ false → (a || b) ≡ b
or_tail a b e = rw e

-- a refusal's number is not 0, so where the choice is 0 the test failed
pub cond-zero : (b : Bool) (m x : ℕ) → cond b (suc m) x ≡ 0 → (b ≡ false) × (x ≡ 0)
cond-zero true m x e = absurd (omega arith)
cond-zero false m x e = (refl, e)

pub eqb_comm : (a b : ℕ) → eqb a b ≡ eqb b a
eqb_comm a b = bool_ext (eqb a b) (eqb b a) (λ e. eq-eqb b a (sym (eqb-true a b e))) (λ e. eq-eqb a b (sym (eqb-true b a e)))

-- the two ways to ask whether there is something
pub pos_test : (x : ℕ) → leb 1 x ≡ not (eqb x 0)
pos_test zero = refl
pos_test (suc x) = le-leb 1 (suc x) (omega arith) ∙ sym (ap not (ne_eqb (suc x) 0 (λ e. omega (arith, e))))
