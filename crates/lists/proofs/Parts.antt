-- Laws of parts of lists that were lent and came back, of copies, and of slots of one width. The main one: `put_next`, a part
-- lent behind what is written already.
use mathlib.Core.Path.{◌≡◌, refl, sym, ap, subst, ◌∙◌}
use mathlib.Core.List.{List, [], ◌∷◌, ◌++◌, append-nil, append_assoc}
use mathlib.Core.Logic.{⊎_elim}
use Prim.Native.Nat.{ℕ, zero, suc, ◌+◌, ◌-◌, ◌*◌, ◌≤◌, ◌<◌}
use native.Mathlib.Nat.{le_of_suc-le-suc, suc-mul, mul-le-mul_right, le_refl, sub-zero}
use native.Mathlib.Numerals.{add-one}
use native.Mathlib.Omega.{arith}
use lib.ListN.{length, get_or, set, take, drop, replicate, drop_of_length-le, length-append}
use lib.Seq.{take_all, take_at, take-nil, take-take, take-append-le, drop_at, drop-drop, length-take-le}
use Rattle.std.proofs.lemmas.List.{take_rest}
use Rattle.lists.proofs.Tests.{lt_or_le}

-- ---- copies from the front
copy_suc : (i : ℕ) (s d : List ℕ) → i < length s → i < length d → set (take i s ++ drop i d) i (get_or s i 0) ≡ take (suc i) s ++ drop (suc i) d
copy_suc i [] d h g = absurd (omega arith)
copy_suc i (x ∷ s) [] h g = absurd (omega arith)
copy_suc zero (x ∷ s) (y ∷ d) h g = refl
copy_suc (suc i) (x ∷ s) (y ∷ d) h g = ap (λ (l : List ℕ). x ∷ l) (copy_suc i s d (le_of_suc-le-suc h) (le_of_suc-le-suc g))

-- a turn of a loop that copies
pub copy_more : (i : ℕ) (s d : List ℕ) → i < length s → i < length d → set (take i s ++ drop i d) i (get_or s i 0) ≡ take (i + 1) s ++ drop (i + 1) d
copy_more i s d h g = rw add-one (copy_suc i s d h g)

pub copy_all : (i : ℕ) (s d : List ℕ) → length s ≤ i → length d ≤ i → take i s ++ drop i d ≡ s
copy_all i s d h g = ap (λ (l : List ℕ). take i s ++ l) (drop_of_length-le d g) ∙ append-nil (take i s) ∙ take_all i s h

-- ---- one value from the front
pub fill_all : (i v : ℕ) (d : List ℕ) → i ≡ length d → replicate i v ++ drop i d ≡ replicate (length d) v
fill_all i v d e =
    ap (λ (l : List ℕ). replicate i v ++ l) (drop_of_length-le d (subst (λ (m : ℕ). length d ≤ m) (sym e) (le_refl (length d))))
    ∙ append-nil (replicate i v) ∙ ap (λ (m : ℕ). replicate m v) e

-- ---- parts
-- a part that was lent behind what is written, p, and came back as v
pub put_next : (p v o : List ℕ) (a e : ℕ) → length p ≡ a → a ≤ e
    → take a (p ++ drop a o) ++ (v ++ drop (e - a) (drop a (p ++ drop a o))) ≡ (p ++ v) ++ drop e o
put_next p v o a e h g =
    let u : a + (e - a) ≡ e = omega arith in
    rw (take_at p (drop a o) a h, drop_at p (drop a o) a h, drop-drop (e - a) a o, u, append_assoc p v (drop e o))

-- a part from a to e that came back as v, of the same length: the length stays
pub length_put : (d v : List ℕ) (a e : ℕ) → a ≤ e → e ≤ length d → length v ≡ e - a → length (take a d ++ (v ++ drop (e - a) (drop a d))) ≡ length d
length_put d v a e h g l =
    length-append (take a d) (v ++ drop (e - a) (drop a d))
    ∙ omega (
      arith,
      length-append v (drop (e - a) (drop a d)),
      length-take-le a d (omega arith),
      lib.ListN.length-drop (e - a) (drop a d),
      lib.ListN.length-drop a d,
    )

-- what stands before a part that was lent
pub front_put : (a : ℕ) (l x : List ℕ) → a ≤ length l → take a (take a l ++ x) ≡ take a l
front_put a l x h = take-append-le a (take a l) x (omega (arith, length-take-le a l h)) ∙ take-take a a l (omega arith)

-- a part of w elements that is lent
pub length-lent : (a w : ℕ) (l : List ℕ) → a + w ≤ length l → length (take (a + w - a) (drop a l)) ≡ w
length-lent a w l h =
    let e : a + w - a ≡ w = omega arith in
    length-take-le (a + w - a) (drop a l) (omega (arith, lib.ListN.length-drop a l)) ∙ e

-- the part from a to the end
pub part_rest : (a : ℕ) (l : List ℕ) → take (length l - a) (drop a l) ≡ drop a l
part_rest a l = take_rest l a

-- what follows the first d elements of a front part
pub drop-take : (d m : ℕ) (l : List ℕ) → drop d (take m l) ≡ take (m - d) (drop d l)
drop-take zero m l = ap (λ (x : ℕ). take x l) (sym (sub-zero m))
drop-take (suc d) m [] = ap (drop (suc d)) (take-nil m) ∙ sym (take-nil (m - suc d))
drop-take (suc d) zero (x ∷ l) = let e : 0 - suc d ≡ 0 = omega arith in ap (λ (y : ℕ). take y (drop d l)) (sym e)
drop-take (suc d) (suc m) (x ∷ l) = let e : suc m - suc d ≡ m - d = omega arith in drop-take d m l ∙ ap (λ (y : ℕ). take y (drop d l)) (sym e)

-- an end of a list, by its length
pub end_drop : (s l : List ℕ) (d : ℕ) → s ≡ drop d l → (length s ≤ length l) × (s ≡ drop (length l - length s) l)
end_drop s l d e =
    let n : length s ≡ length l - d = ap length e ∙ lib.ListN.length-drop d l in (
      omega arith,
      ⊎_elim
          (λ (h : d < length l). let q : length l - length s ≡ d = omega arith in e ∙ ap (λ (x : ℕ). drop x l) (sym q))
          (λ (h : length l ≤ d). e ∙ drop_of_length-le l h ∙ sym (drop_of_length-le l {i = length l - length s} (omega arith)))
          (lt_or_le d (length l)),
    )

-- ---- parts of one width, one behind the other
-- part j of n lies within them
pub slot_within : (n w j : ℕ) → j < n → j * w + w ≤ n * w
slot_within n w j l = subst (λ (m : ℕ). m ≤ n * w) (suc-mul j w) (mul-le-mul_right w l)

pub next_offset : (j w : ℕ) → (j + 1) * w ≡ j * w + w
next_offset j w = rw add-one (suc-mul j w)

-- ---- what holds of 0 and of each element of a list holds of each element of a part
module _ (P : ℕ → Type 0) (none : P 0) where
  pub all_take : (n : ℕ) (l : List ℕ) → ((i : ℕ) → P (get_or l i 0)) → (i : ℕ) → P (get_or (take n l) i 0)
  all_take zero l h i = none
  all_take (suc n) [] h i = none
  all_take (suc n) (x ∷ l) h zero = h 0
  all_take (suc n) (x ∷ l) h (suc i) = all_take n l (λ j. h (suc j)) i

  pub all_drop : (n : ℕ) (l : List ℕ) → ((i : ℕ) → P (get_or l i 0)) → (i : ℕ) → P (get_or (drop n l) i 0)
  all_drop zero l h i = h i
  all_drop (suc n) [] h i = none
  all_drop (suc n) (x ∷ l) h i = all_drop n l (λ j. h (suc j)) i

  pub all_append : (a b : List ℕ) → ((i : ℕ) → P (get_or a i 0)) → ((i : ℕ) → P (get_or b i 0)) → (i : ℕ) → P (get_or (a ++ b) i 0)
  all_append [] b f g i = g i
  all_append (x ∷ a) b f g zero = f 0
  all_append (x ∷ a) b f g (suc i) = all_append a b (λ j. f (suc j)) g i

  pub all_set : (l : List ℕ) (a v : ℕ) → ((i : ℕ) → P (get_or l i 0)) → P v → (i : ℕ) → P (get_or (set l a v) i 0)
  all_set [] a v f h i = f i
  all_set (x ∷ l) zero v f h zero = h
  all_set (x ∷ l) zero v f h (suc i) = f (suc i)
  all_set (x ∷ l) (suc a) v f h zero = f 0
  all_set (x ∷ l) (suc a) v f h (suc i) = all_set l a v (λ j. f (suc j)) h i

  pub all_zeros : (n : ℕ) (i : ℕ) → P (get_or (replicate n 0) i 0)
  all_zeros zero i = none
  all_zeros (suc n) zero = none
  all_zeros (suc n) (suc i) = all_zeros n i
