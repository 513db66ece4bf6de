-- Loops that fill a list from the front, in the place of what they read, and loops that use up a list. The main law: `unread`, what a
-- turn still finds. Then Horner's rule as a fold (`horner-fold`).
use mathlib.Core.Path.{◌≡◌, sym, ap, ◌∙◌}
use mathlib.Core.List.{List, [], ◌∷◌, ◌++◌, append_assoc, append-nil}
use Prim.Native.Nat.{ℕ, ◌+◌, ◌≤◌, ◌<◌}
use native.Mathlib.Numerals.{add-one}
use lib.ListN.{length, take, get_or, set}
use lib.Seq.{take-suc-set, take_all}
use Rattle.std.specs.Prelude.{reverse}
use Rattle.std.specs.List.{fold}
use Rattle.std.proofs.lemmas.List.{reverse-append}
use Rattle.std.proofs.lemmas.Grind.{fold-append}
use Rattle.gf256.specs.Field.{gadd, gmul}
use Rattle.polynomial.specs.Polynomial.{horner}
use Rattle.polynomial.proofs.Laws.{horner-nil, horner-cons}
use Rattle.lists.specs.Fill.{filled}
use Rattle.lists.proofs.Fills.{length-filled, get_or-filled_past}

module _ (f : ℕ → ℕ) (n : ℕ) (d xs : List ℕ) (e : xs ≡ filled f n d) where
  pub filled-length : length xs ≡ length d
  filled-length = ap length e ∙ length-filled f n d

  -- the places from n on are as they were
  pub unread : (j : ℕ) → n ≤ j → get_or xs j 0 ≡ get_or d j 0
  unread j h = ap (λ l. get_or l j 0) e ∙ get_or-filled_past f n d j 0 h

-- what is written, with what is still to be written, is `out`: a turn that writes v at i, and the end
pub write_next : (p out old later : List ℕ) (i v : ℕ) → i < length p → old ≡ v ∷ later → take i p ++ old ≡ out → take (i + 1) (set p i v) ++ later ≡ out
write_next p out old later i v h e inv =
    ap (λ n. take n (set p i v) ++ later) (add-one i)
    ∙ ap (λ l. l ++ later) (take-suc-set p i v h)
    ∙ append_assoc (take i p) (v ∷ []) later
    ∙ ap (λ l. take i p ++ l) (sym e) ∙ inv

pub write_end : (p out old : List ℕ) (i : ℕ) → length p ≤ i → old ≡ [] → take i p ++ old ≡ out → p ≡ out
write_end p out old i h e inv = sym (ap (λ l. take i p ++ l) e ∙ append-nil (take i p) ∙ take_all i p h) ∙ inv

-- from the last coefficient to the first
pub horner-fold : (x : ℕ) (p : List ℕ) → fold (λ r c. gadd c (gmul x r)) 0 (reverse p) ≡ horner p x
horner-fold x [] = sym (horner-nil x)
horner-fold x (c ∷ p) =
    ap (fold (λ r c. gadd c (gmul x r)) 0) (reverse-append (c ∷ []) p)
    ∙ fold-append (λ r c. gadd c (gmul x r)) 0 (reverse p) (c ∷ [])
    ∙ ap (λ r. gadd c (gmul x r)) (horner-fold x p)
    ∙ sym (horner-cons c p x)
