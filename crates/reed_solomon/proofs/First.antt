-- The first list of bytes that passes a test. The main law: `first_right`, it is one of them, and where there is none no list passes.
use mathlib.Core.Path.{◌≡◌, refl, subst}
use mathlib.Core.Bool.{Bool, true, false, cond}
use mathlib.Core.List.{List, [], ◌∷◌}
use mathlib.Core.Logic.{⊎_elim}
use mathlib.Core.Option.{Option, none, some}
use Prim.Native.Nat.{ℕ, zero, suc, ◌≤◌, ◌<◌}
use native.Mathlib.Omega.{arith}
use lib.Dec.{lit<}
use lib.ListN.{length}
use Rattle.lists.specs.Options.{or_else, front}
use Rattle.lists.proofs.Tests.{lt_or_le}
use Rattle.polynomial.specs.Polynomial.{Bytes}
use Rattle.reed_solomon.specs.First.{first_below, first_bytes}

abbrev pub Right : ℕ → (List ℕ → Bool) → Option (List ℕ) → Type 0
Right len p none = (l : List ℕ) → length l ≡ len → Bytes l → p l ≡ false
Right len p (some l) = (length l ≡ len) × Bytes l × (p l ≡ true)

bytes-nil : Bytes []
bytes-nil i = lit< tt

bytes-cons : (x : ℕ) (l : List ℕ) → x < 256 → Bytes l → Bytes (x ∷ l)
bytes-cons x l h b zero = h
bytes-cons x l h b (suc i) = b i

right_nil : (p : List ℕ → Bool) → Right 0 p (cond (p []) (some []) none)
right_nil p = go (p []) refl
  where
    only : (x : Bool) → p [] ≡ x → (l : List ℕ) → length l ≡ 0 → p l ≡ x
    only x e [] h = e
    only x e (y ∷ l) h = absurd (omega (arith, h))

    go : (x : Bool) → p [] ≡ x → Right 0 p (cond x (some []) none)
    go true e = (refl, bytes-nil, e)
    go false e = λ l h _. only false e l h

-- the same of the lists that begin with a number below m
abbrev Partly : (m len : ℕ) → (List ℕ → Bool) → Option (List ℕ) → Type 0
Partly m len p none = (x : ℕ) → x < m → (l : List ℕ) → length l ≡ len → Bytes l → p (x ∷ l) ≡ false
Partly m len p (some l) = Right (suc len) p (some l)

one_more : (m len : ℕ) (p : List ℕ → Bool) (r q : Option (List ℕ)) → m < 256 → Partly m len p r → Right len (λ l. p (m ∷ l)) q
    → Partly (suc m) len p (or_else r (front m q))
one_more m len p (some l) q h before now = before
one_more m len p none (some l) h before now = (omega (arith, now.0), bytes-cons m l h now.1, now.2)
one_more m len p none none h before now = λ x lt l e b.
    ⊎_elim
    (λ (g : x < m). before x g l e b)
    (λ (g : m ≤ x). let s : m ≡ x = omega (arith, lt, g) in subst (λ (y : ℕ). p (y ∷ l) ≡ false) s (now l e b))
    (lt_or_le x m)

below : (len : ℕ) (p : List ℕ → Bool) (f : ℕ → Option (List ℕ)) → ((x : ℕ) → Right len (λ l. p (x ∷ l)) (f x)) → (m : ℕ) → m ≤ 256
    → Partly m len p (first_below m (λ x. front x (f x)))
unfolding first_below
below len p f each zero h = λ x lt. absurd (omega (arith, lt))
below len p f each (suc m) h =
    one_more m len p (first_below m (λ x. front x (f x))) (f m) (omega (arith, h)) (below len p f each m (omega (arith, h))) (each m)

whole : (len : ℕ) (p : List ℕ → Bool) (r : Option (List ℕ)) → Partly 256 len p r → Right (suc len) p r
whole len p (some l) h = h
whole len p none h = go
  where
    go : (l : List ℕ) → length l ≡ suc len → Bytes l → p l ≡ false
    go [] e b = absurd (omega (arith, e))
    go (x ∷ l) e b = h x (b 0) l (omega (arith, e)) (λ i. b (suc i))

pub first_right : (len : ℕ) (p : List ℕ → Bool) → Right len p (first_bytes len p)
unfolding first_bytes
first_right zero p = right_nil p
first_right (suc len) p =
    whole len p (first_below 256 (λ x. front x (first_bytes len (λ l. p (x ∷ l)))))
    (below len p (λ x. first_bytes len (λ l. p (x ∷ l))) (λ x. first_right len (λ l. p (x ∷ l))) 256 (omega arith))
