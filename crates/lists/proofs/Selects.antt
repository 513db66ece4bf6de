-- Laws of the numbers that pass a test. The main ones: `rising-selected`, they are of 1 .. n and rise, and `count-selected`, a count over the list is a
-- count over 1 .. n.
use mathlib.Core.Path.{◌≡◌, refl, sym, ap, ◌∙◌}
use mathlib.Core.Bool.{Bool, true, false, cond, ◌&&◌}
use mathlib.Core.List.{List, [], ◌∷◌, ◌++◌, append-nil}
use mathlib.Core.Logic.{⊎_elim}
use Prim.Native.Nat.{ℕ, zero, suc, ◌+◌, ◌≤◌, ◌<◌}
use native.Mathlib.Numerals.{add-one}
use native.Mathlib.Omega.{arith}
use lib.ListN.{length, get_or, set, drop, get_or-append}
use lib.Seq.{set_at, drop-cons, append_snoc}
use Rattle.std.proofs.lemmas.List.{get_or_push, length_push}
use Rattle.lists.specs.Sum.{ind, count}
use Rattle.lists.specs.Select.{selected, Rising}
use Rattle.lists.proofs.Tests.{lt_or_le}
use Rattle.lists.proofs.Sums.{count_none_below, count-suc, count_more, count_ext}

pub selected_none : (p : ℕ → Bool) → selected p 0 ≡ []
unfolding selected
selected_none p = refl

pub selected_more : (p : ℕ → Bool) (n : ℕ) → selected p (n + 1) ≡ selected p n ++ cond (p (n + 1)) ((n + 1) ∷ []) []
unfolding selected
selected_more p n = ap (selected p) (add-one n)

pub selected_yes : (p : ℕ → Bool) (n : ℕ) → p (n + 1) ≡ true → selected p (n + 1) ≡ selected p n ++ ((n + 1) ∷ [])
selected_yes p n e = selected_more p n ∙ ap (λ b. selected p n ++ cond b ((n + 1) ∷ []) []) e

pub selected_no : (p : ℕ → Bool) (n : ℕ) → p (n + 1) ≡ false → selected p (n + 1) ≡ selected p n
selected_no p n e = selected_more p n ∙ ap (λ b. selected p n ++ cond b ((n + 1) ∷ []) []) e ∙ append-nil (selected p n)

-- ---- an element more at the end
each_snoc : (P : ℕ → Type 0) (l : List ℕ) (x : ℕ) → ((i : ℕ) → i < length l → P (get_or l i 0)) → P x
    → (i : ℕ) → i < length (l ++ (x ∷ [])) → P (get_or (l ++ (x ∷ [])) i 0)
each_snoc P l x each last i h =
    ⊎_elim
    (λ (g : i < length l). rw (get_or-append l (x ∷ []) 0 i g) (each i g))
    (λ (g : length l ≤ i). rw (get_or_push l x 0 i (omega (arith, length_push l x))) last)
    (lt_or_le i (length l))

count_snoc : (q : ℕ → Bool) (l : List ℕ) (x : ℕ)
    → count (length (l ++ (x ∷ []))) (λ i. q (get_or (l ++ (x ∷ [])) i 0)) ≡ count (length l) (λ i. q (get_or l i 0)) + ind (q x)
count_snoc q l x =
    ap (λ m. count m (λ i. q (get_or (l ++ (x ∷ [])) i 0))) (length_push l x)
    ∙ count_more (length l) (λ i. q (get_or (l ++ (x ∷ [])) i 0))
    ∙ omega (
      arith,
      count_ext (length l) (λ i. q (get_or (l ++ (x ∷ [])) i 0)) (λ i. q (get_or l i 0)) (λ i h. ap q (get_or-append l (x ∷ []) 0 i h)),
      ap (λ y. ind (q y)) (get_or_push l x 0 (length l) refl),
    )

-- ---- the numbers rise
rising_more : (n : ℕ) (l : List ℕ) (b : Bool) → Rising n l → Rising (suc n) (l ++ cond b ((n + 1) ∷ []) [])
rising_more n l false r = rw (append-nil l) (record { least = r.least; most = λ i h. omega (arith, r.most i h); order = r.order })
rising_more n l true r =
    record {
      least = each_snoc (λ y. 1 ≤ y) l (n + 1) r.least (omega arith);
      most = each_snoc (λ y. y ≤ suc n) l (n + 1) (λ i h. omega (arith, r.most i h)) (omega arith);
      order = λ i j h g.
          ⊎_elim
          (λ (f : j < length l).
          rw (get_or-append l ((n + 1) ∷ []) 0 i (omega arith), get_or-append l ((n + 1) ∷ []) 0 j f) (r.order i j h f))
          (λ (f : length l ≤ j).
          let e : i < length l = omega (arith, length_push l (n + 1)) in
          rw (get_or-append l ((n + 1) ∷ []) 0 i e, get_or_push l (n + 1) 0 j (omega (arith, length_push l (n + 1)))) (omega (arith, r.most i e)))
          (lt_or_le j (length l));
    }

pub rising-selected : (p : ℕ → Bool) (n : ℕ) → Rising n (selected p n)
unfolding selected
rising-selected p zero = record { least = λ i h. absurd (omega arith); most = λ i h. absurd (omega arith); order = λ i j h g. absurd (omega arith) }
rising-selected p (suc n) = rising_more n (selected p n) (p (n + 1)) (rising-selected p n)

-- numbers that rise are different
pub rising-different : (n : ℕ) (l : List ℕ) → Rising n l → (i j : ℕ) → i < length l → j < length l → get_or l i 0 ≡ get_or l j 0 → i ≡ j
rising-different n l r i j h g e =
    ⊎_elim
    (λ (f : i < j). absurd (omega (arith, r.order i j f g)))
    (λ (f : j ≤ i).
    ⊎_elim
    (λ (d : j < i). absurd (omega (arith, r.order j i d h)))
    (λ (d : i ≤ j). omega arith)
    (lt_or_le j i))
    (lt_or_le i j)

-- ---- counts
count-last : (q : ℕ → Bool) (l : List ℕ) (x : ℕ) (b : Bool)
    → count (length (l ++ cond b (x ∷ []) [])) (λ i. q (get_or (l ++ cond b (x ∷ []) []) i 0)) ≡ count (length l) (λ i. q (get_or l i 0)) + ind (b && q x)
count-last q l x true = count_snoc q l x
count-last q l x false = ap (λ (z : List ℕ). count (length z) (λ i. q (get_or z i 0))) (append-nil l) ∙ omega arith

pub count-selected : (p q : ℕ → Bool) (n : ℕ) → count (length (selected p n)) (λ i. q (get_or (selected p n) i 0)) ≡ count n (λ i. p (i + 1) && q (i + 1))
unfolding selected
count-selected p q zero = count_none_below _ ∙ sym (count_none_below _)
count-selected p q (suc n) =
    count-last q (selected p n) (n + 1) (p (n + 1)) ∙ omega (arith, count-selected p q n, count-suc n (λ i. p (i + 1) && q (i + 1)))

length_last : (l : List ℕ) (x : ℕ) (b : Bool) → length (l ++ cond b (x ∷ []) []) ≡ length l + ind b
length_last l x true = length_push l x
length_last l x false = ap length (append-nil l) ∙ omega arith

pub length-selected : (p : ℕ → Bool) (n : ℕ) → length (selected p n) ≡ count n (λ i. p (i + 1))
unfolding selected
length-selected p zero = sym (count_none_below _)
length-selected p (suc n) =
    length_last (selected p n) (n + 1) (p (n + 1)) ∙ omega (arith, length-selected p n, count-suc n (λ i. p (i + 1)))

-- ---- a turn of a loop that writes them to the front of d: x is the next one
pub select_more : (l d : List ℕ) (x c : ℕ) → length l ≡ c → c < length d → set (l ++ drop c d) c x ≡ (l ++ (x ∷ [])) ++ drop (c + 1) d
select_more l d x c e h =
    ap (λ (z : List ℕ). set (l ++ z) c x) (drop-cons d c 0 h)
    ∙ set_at l (get_or d c 0) (drop (suc c) d) x c e
    ∙ ap (λ m. l ++ (x ∷ drop m d)) (sym (add-one c))
    ∙ sym (append_snoc l x (drop (c + 1) d))
