-- Laws of `tabulate` and `filled`. The main ones: `fill_more`, a turn of a loop that fills a list from the front, and `tabulate_front`, the first
-- element and the others.
use mathlib.Core.Path.{◌≡◌, refl, sym, ap, ap₂, ◌∙◌}
use mathlib.Core.List.{List, [], ◌∷◌, ◌++◌}
use mathlib.Core.Logic.{⊎_elim}
use Prim.Native.Nat.{ℕ, zero, suc, ◌+◌, ◌≤◌, ◌<◌, min}
use native.Mathlib.Nat.{le_of_suc-le-suc}
use native.Mathlib.Numerals.{add-one}
use native.Mathlib.Omega.{arith}
use lib.ListN.{length, get_or, set, drop, replicate}
use Rattle.lists.specs.Fill.{tabulate, filled}
use Rattle.lists.proofs.Tests.{lt_or_le}

module _ {A : Type 0} where
  -- ---- tabulate
  pub tabulate_none : (f : ℕ → A) → tabulate f 0 ≡ []
  unfolding tabulate
  tabulate_none f = refl

  -- one element more, at the front
  pub tabulate_front : (f : ℕ → A) (n : ℕ) → tabulate f (suc n) ≡ f 0 ∷ tabulate (λ i. f (suc i)) n
  unfolding tabulate
  tabulate_front f n = refl

  pub length-tabulate : (f : ℕ → A) (n : ℕ) → length (tabulate f n) ≡ n
  unfolding tabulate
  length-tabulate f zero = refl
  length-tabulate f (suc n) = ap suc (length-tabulate (λ i. f (suc i)) n)

  pub get_or-tabulate : (f : ℕ → A) (n i : ℕ) (d : A) → i < n → get_or (tabulate f n) i d ≡ f i
  unfolding tabulate
  get_or-tabulate f zero i d l = absurd (omega arith)
  get_or-tabulate f (suc n) zero d l = refl
  get_or-tabulate f (suc n) (suc i) d l = get_or-tabulate (λ i. f (suc i)) n i d (le_of_suc-le-suc l)

  pub tabulate_ext : (f g : ℕ → A) (n : ℕ) → ((i : ℕ) → i < n → f i ≡ g i) → tabulate f n ≡ tabulate g n
  unfolding tabulate
  tabulate_ext f g zero h = refl
  tabulate_ext f g (suc n) h = ap₂ ◌∷◌ (h 0 (omega arith)) (tabulate_ext (λ i. f (suc i)) (λ i. g (suc i)) n (λ i l. h (suc i) (omega arith)))

  -- one element more, at the end
  pub tabulate-suc : (f : ℕ → A) (n : ℕ) → tabulate f (suc n) ≡ tabulate f n ++ (f n ∷ [])
  unfolding tabulate
  tabulate-suc f zero = refl
  tabulate-suc f (suc n) = ap (λ l. f 0 ∷ l) (tabulate-suc (λ i. f (suc i)) n)

  pub tabulate_const : (a : A) (n : ℕ) → tabulate (λ _. a) n ≡ replicate n a
  unfolding tabulate
  tabulate_const a zero = refl
  tabulate_const a (suc n) = ap (λ l. a ∷ l) (tabulate_const a n)

  -- a list is what its elements say
  pub tabulate-get_or : (l : List A) (d : A) → tabulate (λ i. get_or l i d) (length l) ≡ l
  unfolding tabulate
  tabulate-get_or [] d = refl
  tabulate-get_or (x ∷ l) d = ap (λ r. x ∷ r) (tabulate-get_or l d)

  -- ---- filled
  pub filled_none : (f : ℕ → A) (d : List A) → filled f 0 d ≡ d
  unfolding filled
  filled_none f d = refl

  pub length-filled : (f : ℕ → A) (n : ℕ) (d : List A) → length (filled f n d) ≡ length d
  unfolding filled
  length-filled f zero d = refl
  length-filled f (suc n) [] = refl
  length-filled f (suc n) (x ∷ d) = ap suc (length-filled (λ i. f (suc i)) n d)

  pub get_or-filled : (f : ℕ → A) (n : ℕ) (d : List A) (i : ℕ) (z : A) → i < n → i < length d → get_or (filled f n d) i z ≡ f i
  unfolding filled
  get_or-filled f zero d i z l u = absurd (omega arith)
  get_or-filled f (suc n) [] i z l u = absurd (omega arith)
  get_or-filled f (suc n) (x ∷ d) zero z l u = refl
  get_or-filled f (suc n) (x ∷ d) (suc i) z l u = get_or-filled (λ i. f (suc i)) n d i z (le_of_suc-le-suc l) (le_of_suc-le-suc u)

  -- the elements from n on stay
  pub get_or-filled_past : (f : ℕ → A) (n : ℕ) (d : List A) (i : ℕ) (z : A) → n ≤ i → get_or (filled f n d) i z ≡ get_or d i z
  unfolding filled
  get_or-filled_past f zero d i z l = refl
  get_or-filled_past f (suc n) [] i z l = refl
  get_or-filled_past f (suc n) (x ∷ d) zero z l = absurd (omega arith)
  get_or-filled_past f (suc n) (x ∷ d) (suc i) z l = get_or-filled_past (λ i. f (suc i)) n d i z (le_of_suc-le-suc l)

  pub filled_ext : (f g : ℕ → A) (n : ℕ) (d : List A) → ((i : ℕ) → i < n → f i ≡ g i) → filled f n d ≡ filled g n d
  unfolding filled
  filled_ext f g zero d h = refl
  filled_ext f g (suc n) [] h = refl
  filled_ext f g (suc n) (x ∷ d) h = ap₂ ◌∷◌ (h 0 (omega arith)) (filled_ext (λ i. f (suc i)) (λ i. g (suc i)) n d (λ i l. h (suc i) (omega arith)))

  fill_suc : (f : ℕ → A) (n : ℕ) (d : List A) → n < length d → set (filled f n d) n (f n) ≡ filled f (suc n) d
  unfolding filled
  fill_suc f n [] l = absurd (omega arith)
  fill_suc f zero (x ∷ d) l = refl
  fill_suc f (suc n) (x ∷ d) l = ap (λ r. f 0 ∷ r) (fill_suc (λ i. f (suc i)) n d (le_of_suc-le-suc l))

  -- a turn of a loop that fills
  pub fill_more : (f : ℕ → A) (n : ℕ) (d xs : List A) (v : A) → n < length d → xs ≡ filled f n d → v ≡ f n → set xs n v ≡ filled f (n + 1) d
  fill_more f n d xs v l e h = rw (e, h, add-one) (fill_suc f n d l)

  -- filled whole, nothing of what stood there is left
  pub filled_all : (f : ℕ → A) (n : ℕ) (d : List A) → length d ≡ n → filled f n d ≡ tabulate f n
  unfolding filled tabulate
  filled_all f zero [] e = refl
  filled_all f zero (x ∷ d) e = absurd (omega arith)
  filled_all f (suc n) [] e = absurd (omega arith)
  filled_all f (suc n) (x ∷ d) e = ap (λ r. f 0 ∷ r) (filled_all (λ i. f (suc i)) n d (omega arith))

  -- where the list is long enough, the first n are the function's and the rest stays
  pub filled_split : (f : ℕ → A) (n : ℕ) (d : List A) → n ≤ length d → filled f n d ≡ tabulate f n ++ drop n d
  unfolding filled tabulate
  filled_split f zero d h = refl
  filled_split f (suc n) [] h = absurd (omega arith)
  filled_split f (suc n) (x ∷ d) h = ap (λ r. f 0 ∷ r) (filled_split (λ i. f (suc i)) n d (le_of_suc-le-suc h))

  -- more than the list holds is the same as all of it
  pub filled_over : (f : ℕ → A) (n : ℕ) (d : List A) → length d ≤ n → filled f n d ≡ filled f (length d) d
  unfolding filled
  filled_over f zero [] h = refl
  filled_over f zero (x ∷ d) h = absurd (omega arith)
  filled_over f (suc n) [] h = refl
  filled_over f (suc n) (x ∷ d) h = ap (λ r. f 0 ∷ r) (filled_over (λ i. f (suc i)) n d (le_of_suc-le-suc h))

  -- the list after the last turn of a loop that fills
  pub fill_end : (f : ℕ → A) (n : ℕ) (d xs : List A) → xs ≡ filled f n d → length d ≤ n → xs ≡ tabulate f (length d)
  fill_end f n d xs e h = e ∙ filled_over f n d h ∙ filled_all f (length d) d refl

  -- a turn of a loop that replaces each element by what g makes of it
  pub fill_own : (g : ℕ → A → A) (z : A) (n : ℕ) (d xs : List A) (v : A) → n < length d → xs ≡ filled (λ i. g i (get_or d i z)) n d
      → v ≡ g n (get_or xs n z) → set xs n v ≡ filled (λ i. g i (get_or d i z)) (n + 1) d
  fill_own g z n d xs v l e h =
      let f : ℕ → A = λ i. g i (get_or d i z) in
      fill_more f n d xs v l e (h ∙ ap (g n) (ap (λ (q : List A). get_or q n z) e ∙ get_or-filled_past f n d n z (omega arith)))

  -- the list after the last turn of a loop to the lesser of its length and m
  pub fill_least : (f : ℕ → A) (n m : ℕ) (d xs : List A) → xs ≡ filled f n d → n ≡ min (length d) m → xs ≡ filled f m d
  fill_least f n m d xs e h =
      e
      ∙ ⊎_elim
      (λ (l : length d < m). let q : n ≡ length d = omega (arith, h) in ap (λ n. filled f n d) q ∙ sym (filled_over f m d (omega arith)))
      (λ (l : m ≤ length d). let q : n ≡ m = omega (arith, h) in ap (λ n. filled f n d) q)
      (lt_or_le (length d) m)
