-- Rows tried one after the other: what the first broken one is, at a broken row, past one that is not, and behind the last.
use Rattle.std.proofs.Common.{◌≡◌, ◌∙◌, ap, sym, Bool, true, false, cond, List, map, length, get_or, drop, ℕ, ◌+◌, ◌<◌, ◌≤◌, add-one}
use lib.ListN.{drop_of_length-le}
use lib.Seq.{drop-cons}
use Rattle.lists.proofs.Tests.{cond_yes, cond_no}
use Rattle.settings.specs.Refusal.{first_of}

module _ {A : Type 0} (p : ℕ → Bool) (f : A → ℕ) where
  abbrev rest : List A → ℕ → ℕ
  rest l i = first_of p (map f (drop i l))

  here : (l : List A) (i : ℕ) (d : A) → i < length l → rest l i ≡ cond (p (f (get_or l i d))) (f (get_or l i d)) (rest l (i + 1))
  here l i d h =
      ap (λ (m : List A). first_of p (map f m)) (drop-cons l i d h)
      ∙ ap (λ (j : ℕ). cond (p (f (get_or l i d))) (f (get_or l i d)) (rest l j)) (sym (add-one i))

  pub found_row : (l : List A) (i : ℕ) (d : A) → i < length l → p (f (get_or l i d)) ≡ true → rest l i ≡ f (get_or l i d)
  found_row l i d h e = here l i d h ∙ cond_yes (p (f (get_or l i d))) (f (get_or l i d)) (rest l (i + 1)) e

  pub next_row : (l : List A) (i : ℕ) (d : A) → i < length l → p (f (get_or l i d)) ≡ false → rest l i ≡ rest l (i + 1)
  next_row l i d h e = here l i d h ∙ cond_no (p (f (get_or l i d))) (f (get_or l i d)) (rest l (i + 1)) e

  pub no_row : (l : List A) (i : ℕ) → length l ≤ i → rest l i ≡ 0
  no_row l i h = ap (λ (m : List A). first_of p (map f m)) (drop_of_length-le l h)
