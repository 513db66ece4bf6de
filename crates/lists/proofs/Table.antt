-- A rule of a table, tested once over the whole table by computation and carried to each entry: `at`; of the numbers below n, `below_at` and `equal_below`.
use mathlib.Core.Path.{◌≡◌, ◌∙◌, subst, sym}
use mathlib.Core.Bool.{Bool, true, false}
use mathlib.Core.List.{List, [], ◌∷◌}
use Prim.Native.Nat.{ℕ, zero, suc, ◌+◌, ◌<◌}
use native.Mathlib.Nat.{add-zero, zero-add, add-suc, suc-add, le_of_suc-le-suc, not-suc-le-zero}
use lib.Dec.{T, eqb, eqb→eq}
use lib.ListN.{length, get_or}
use mathlib.Core.Logic.{⊎_elim}
use Rattle.lists.proofs.Sums.{below_suc}

-- both tests; the second is computed only where the first passes
abbrev pub both : Bool → Bool → Bool
both true b = b
both false b = false

pub both_left : (a b : Bool) → T (both a b) → T a
both_left true b t = tt
both_left false b t = t

pub both_right : (a b : Bool) → T (both a b) → T b
both_right true b t = t
both_right false b t = absurd t

-- the test f passes at each place of the list, counted from i, and its entry
abbrev pub every_at {ℓ} : {A : Type ℓ} → (ℕ → A → Bool) → ℕ → List A → Bool
every_at f i [] = true
every_at f i (x ∷ xs) = both (f i x) (every_at f (suc i) xs)

module _ {A : Type 0} (z : A) where
  from : (f : ℕ → A → Bool) (xs : List A) (i : ℕ) → T (every_at f i xs) → (k : ℕ) → k < length xs → T (f (i + k) (get_or xs k z))
  from f [] i t k h = absurd (not-suc-le-zero h)
  from f (x ∷ xs) i t zero h = subst (λ (m : ℕ). T (f m x)) (sym (add-zero i)) (both_left (f i x) (every_at f (suc i) xs) t)
  from f (x ∷ xs) i t (suc k) h =
      subst (λ (m : ℕ). T (f m (get_or xs k z))) (suc-add i k ∙ sym (add-suc i k))
      (from f xs (suc i) (both_right (f i x) (every_at f (suc i) xs) t) k (le_of_suc-le-suc h))

  pub at : (f : ℕ → A → Bool) (xs : List A) → T (every_at f 0 xs) → (k : ℕ) → k < length xs → T (f k (get_or xs k z))
  at f xs t k h = subst (λ (m : ℕ). T (f m (get_or xs k z))) (zero-add k) (from f xs 0 t k h)

-- the same for a test at the numbers below n
abbrev pub below : ℕ → (ℕ → Bool) → Bool
below zero p = true
below (suc n) p = both (p n) (below n p)

pub below_at : (n : ℕ) (p : ℕ → Bool) → T (below n p) → (k : ℕ) → k < n → T (p k)
below_at zero p t k h = absurd (not-suc-le-zero h)
below_at (suc n) p t k h =
    ⊎_elim (λ (e : k ≡ n). subst (λ m. T (p m)) (sym e) (both_left (p n) (below n p) t))
    (λ (l : k < n). below_at n p (both_right (p n) (below n p) t) k l) (below_suc h)

-- two functions that a test finds equal at each number below n
pub equal_below : (n : ℕ) (f g : ℕ → ℕ) → T (below n (λ k. eqb (f k) (g k))) → (k : ℕ) → k < n → f k ≡ g k
equal_below n f g t k h = eqb→eq (f k) (g k) (below_at n (λ k. eqb (f k) (g k)) t k h)
