-- Laws of equality as a test: `same_eq` and `eq_same`, and a turn of a loop that compares.
use mathlib.Core.Path.{◌≡◌, refl, sym, ap, subst, ◌∙◌}
use mathlib.Core.Bool.{true, false, ◌&&◌}
use mathlib.Core.List.{List, [], ◌∷◌}
use Prim.Native.Nat.{ℕ, ◌<◌}
use borrow.Author.Tests.{eq-eqb}
use lib.Dec.{eqb}
use lib.Pointwise.{pointwise}
use lib.ListN.{length, get_or}
use lib.Seq.{ext_get_or}
use Rattle.std.specs.Cmp.Lexicographic.{same_text}
use Rattle.lists.specs.Same.{same}
use Rattle.lists.proofs.Tests.{fails, and_both}

-- the library's equality of byte strings is that test
pub same_pointwise : (a b : List ℕ) → pointwise eqb a b ≡ same a b
unfolding same
same_pointwise [] [] = refl
same_pointwise [] (y ∷ ys) = refl
same_pointwise (x ∷ xs) [] = refl
same_pointwise (x ∷ xs) (y ∷ ys) = ap (λ t. eqb x y && t) (same_pointwise xs ys)

pub same_eq : (a b : List ℕ) → same a b ≡ true → a ≡ b
same_eq a b e = same_text a b (sym (same_pointwise a b ∙ e))

pub same_refl : (a : List ℕ) → same a a ≡ true
unfolding same
same_refl [] = refl
same_refl (x ∷ xs) = and_both (eqb x x) (same xs xs) (eq-eqb x x refl) (same_refl xs)

pub eq_same : (a b : List ℕ) → a ≡ b → same a b ≡ true
eq_same a b e = subst (λ (l : List ℕ). same a l ≡ true) e (same_refl a)

pub ne_same : (a b : List ℕ) → (a ≡ b → ⊥) → same a b ≡ false
ne_same a b n = fails (same a b) (λ e. n (same_eq a b e))

-- lists of one length that agree at every index are the same; lists of other lengths, or that differ at an index, are not
pub same_all : (a b : List ℕ) → length a ≡ length b → ((i : ℕ) → i < length a → get_or a i 0 ≡ get_or b i 0) → same a b ≡ true
same_all a b e h = eq_same a b (ext_get_or 0 a b e h)

pub no_same : (a b : List ℕ) → (length a ≡ length b → ⊥) → same a b ≡ false
no_same a b n = ne_same a b (λ e. n (ap length e))

pub same_differ : (a b : List ℕ) (i : ℕ) → (get_or a i 0 ≡ get_or b i 0 → ⊥) → same a b ≡ false
same_differ a b i n = ne_same a b (λ e. n (ap (λ (l : List ℕ). get_or l i 0) e))
