-- Laws of the bytes before a byte and behind it. The main ones: `before_le` and `before_take` (a front part of the list), `before_text` and
-- `behind_text` (a text, the byte and the rest, taken apart again), `until_some` and `until_none` (the place that `find` answers).
use mathlib.Core.Path.{◌≡◌, refl, sym, ap, ◌∙◌}
use mathlib.Core.Bool.{Bool, true, false, cond, not}
use mathlib.Core.List.{List, [], ◌∷◌, ◌++◌}
use mathlib.Core.Logic.{⊎_elim}
use Prim.Native.Nat.{ℕ, ◌+◌, ◌≤◌, ◌<◌}
use native.Mathlib.Nat.{le_refl}
use native.Mathlib.Omega.{arith}
use borrow.Author.Tests.{eq-eqb, ne_eqb, lt-ltb, le-ltb}
use lib.Dec.{eqb, ltb}
use lib.ListN.{length, take, drop}
use lib.Seq.{drop-append-add, take_all}
use Rattle.lists.proofs.Tests.{true≢false, and_left, and_right, cond_yes, cond_no, same_or_not, lt_or_le}
use Rattle.std.specs.Prelude.{Some, None, position, nat_eq}
use Rattle.std.specs.List.{position_or_len}
use Rattle.text.specs.Read.{before, behind, every}

-- the list starts with the byte, or with another
pub before_at : (c x : ℕ) (l : List ℕ) → x ≡ c → before c (x ∷ l) ≡ []
unfolding before
before_at c x l e = cond_yes (eqb x c) [] (x ∷ before c l) (eq-eqb x c e)

pub before_past : (c x : ℕ) (l : List ℕ) → (x ≡ c → ⊥) → before c (x ∷ l) ≡ x ∷ before c l
unfolding before
before_past c x l n = cond_no (eqb x c) [] (x ∷ before c l) (ne_eqb x c n)

-- no longer than the list
pub before_le : (c : ℕ) (l : List ℕ) → length (before c l) ≤ length l
unfolding before
before_le c [] = le_refl 0
before_le c (x ∷ l) =
    ⊎_elim (λ (e : x ≡ c). omega (arith, ap length (before_at c x l e)))
    (λ (n : x ≡ c → ⊥). omega (arith, ap length (before_past c x l n), before_le c l))
    (same_or_not x c)

-- a front part of the list
pub before_take : (c : ℕ) (l : List ℕ) → before c l ≡ take (length (before c l)) l
unfolding before
before_take c [] = refl
before_take c (x ∷ l) =
    ⊎_elim (λ (e : x ≡ c). rw (before_at c x l e))
    (λ (n : x ≡ c → ⊥). rw (before_past c x l n) (ap (λ (r : List ℕ). x ∷ r) (before_take c l)))
    (same_or_not x c)

-- ---- text whose bytes pass a test, and a byte that fails it
module _ (p : ℕ → Bool) (c : ℕ) (n : p c ≡ false) where
  passes_other : (x : ℕ) → p x ≡ true → x ≡ c → ⊥
  passes_other x h e = true≢false (sym h ∙ ap p e ∙ n)

  -- no such byte
  pub before_all : (s : List ℕ) → every p s ≡ true → before c s ≡ s
  unfolding before every
  before_all [] h = refl
  before_all (x ∷ s) h =
      before_past c x s (passes_other x (and_left (p x) (every p s) h)) ∙ ap (λ (l : List ℕ). x ∷ l) (before_all s (and_right (p x) (every p s) h))

  -- the byte behind the text
  pub before_text : (s r : List ℕ) → every p s ≡ true → before c (s ++ (c ∷ r)) ≡ s
  unfolding every
  before_text [] r h = before_at c c r refl
  before_text (x ∷ s) r h =
      before_past c x (s ++ (c ∷ r)) (passes_other x (and_left (p x) (every p s) h))
      ∙ ap (λ (l : List ℕ). x ∷ l) (before_text s r (and_right (p x) (every p s) h))

  pub behind_text : (s r : List ℕ) → every p s ≡ true → behind c (s ++ (c ∷ r)) ≡ r
  unfolding behind
  behind_text s r h = ap (λ (l : List ℕ). drop (length l + 1) (s ++ (c ∷ r))) (before_text s r h) ∙ drop-append-add s (c ∷ r) 1

-- ---- the place of the byte
-- as std says it
front : (x : ℕ) (r : List ℕ) (n : ℕ) (b : Bool) → n ≡ length r → cond (not b) (1 + n) 0 ≡ length (cond b [] (x ∷ r))
front x r n true e = refl
front x r n false e = omega arith

length_front : (c : ℕ) (l : List ℕ) → position_or_len (λ x. nat_eq x c) l ≡ length (before c l)
unfolding before
length_front c [] = refl
length_front c (x ∷ l) = front x (before c l) _ (eqb x c) (length_front c l)

-- what stands before the byte that was found; all of l where none was
module _ (c : ℕ) (l : List ℕ) where
  place : ℕ
  place = length (before c l)

  position_is : position (λ x. nat_eq x c) l ≡ cond (ltb place (length l)) (Some place) None
  unfolding place
  position_is = ap (λ (n : ℕ). cond (ltb n (length l)) (Some n) None) (length_front c l)

  pub until_some : (i : ℕ) → Some i ≡ position (λ x. nat_eq x c) l → take i l ≡ before c l
  unfolding place
  until_some i d =
      ⊎_elim
      (λ (h : place < length l).
      let q = position_is ∙ cond_yes _ _ _ (lt-ltb _ _ h) in let e : i ≡ place = cc in ap (λ (n : ℕ). take n l) e ∙ sym (before_take c l))
      (λ (h : length l ≤ place). let q = position_is ∙ cond_no _ _ _ (le-ltb _ _ h) in let z : ◌≡◌ {A = ℕ} 0 1 = cc in absurd (omega arith))
      (lt_or_le place (length l))

  pub until_none : None ≡ position (λ x. nat_eq x c) l → l ≡ before c l
  unfolding place
  until_none d =
      ⊎_elim
      (λ (h : place < length l). let q = position_is ∙ cond_yes _ _ _ (lt-ltb _ _ h) in let z : ◌≡◌ {A = ℕ} 0 1 = cc in absurd (omega arith))
      (λ (h : length l ≤ place). sym (before_take c l ∙ take_all place l h))
      (lt_or_le place (length l))

pub behind-drop : (c : ℕ) (l : List ℕ) → behind c l ≡ drop (length (before c l) + 1) l
unfolding behind
behind-drop c l = refl
