-- Laws of lists joined from parts of one width. The main ones: `part_joined` (part i of f 0 ++ f 1 ++ .. is f i), `joined_parts` (a list is its
-- parts joined), and `part_put_same` and `part_put_other` (the parts of a list one of whose parts was lent and came back).
use mathlib.Core.Path.{◌≡◌, refl, sym, ap, ap₂, ◌∙◌}
use mathlib.Core.List.{List, [], ◌++◌}
use mathlib.Core.Logic.{⊎_elim}
use Prim.Native.Nat.{ℕ, zero, suc, ◌+◌, ◌-◌, ◌*◌, ◌≤◌, ◌<◌}
use native.Mathlib.Nat.{zero-mul, suc-mul}
use native.Mathlib.Numerals.{add-one}
use native.Mathlib.Omega.{arith}
use lib.ListN.{length, get_or, take, drop, replicate, length-append, length-drop, take-append-drop, replicate-append-replicate}
use lib.Seq.{length-take-le, get_or-take, get_or-drop, drop_at, take_all, take_at, take-add, take-append-le, drop-append-le, drop-drop, drop-append-add}
use Rattle.lists.specs.Fill.{tabulate}
use Rattle.lists.specs.Join.{joined, part}
use Rattle.lists.proofs.Sums.{below_suc}
use Rattle.lists.proofs.Tests.{lt_or_le}
use Rattle.lists.proofs.Parts.{slot_within, all_append}
use Rattle.lists.proofs.Fills.{length-tabulate, get_or-tabulate, tabulate_ext, tabulate-get_or}

pub joined_none : (f : ℕ → List ℕ) → joined f 0 ≡ []
unfolding joined
joined_none f = refl

pub joined_more : (f : ℕ → List ℕ) (i : ℕ) → joined f (i + 1) ≡ joined f i ++ f i
unfolding joined
joined_more f i = rw add-one

pub joined_ext : (f g : ℕ → List ℕ) (n : ℕ) → ((i : ℕ) → i < n → f i ≡ g i) → joined f n ≡ joined g n
unfolding joined
joined_ext f g zero h = refl
joined_ext f g (suc n) h = ap₂ ◌++◌ (joined_ext f g n (λ i l. h i (omega arith))) (h n (omega arith))

module _ (w : ℕ) (f : ℕ → List ℕ) where
  pub length-joined : (n : ℕ) → ((i : ℕ) → i < n → length (f i) ≡ w) → length (joined f n) ≡ n * w
  unfolding joined
  length-joined zero h = sym (zero-mul w)
  length-joined (suc n) h =
      length-append (joined f n) (f n)
      ∙ omega (arith, length-joined n (λ i l. h i (omega arith)), h n (omega arith), suc-mul n w)

  pub part_joined : (n : ℕ) → ((i : ℕ) → i < n → length (f i) ≡ w) → (i : ℕ) → i < n → part w (joined f n) i ≡ f i
  unfolding joined part
  part_joined zero h i l = absurd (omega arith)
  part_joined (suc n) h i l =
      let size : length (joined f n) ≡ n * w = length-joined n (λ i l. h i (omega arith)) in
      ⊎_elim
      (λ (e : i ≡ n).
      ap (take w) (drop_at (joined f n) (f n) (i * w) (size ∙ ap (λ m. m * w) (sym e)))
      ∙ take_all w (f n) (omega (arith, h n (omega arith))) ∙ ap f (sym e))
      (λ (m : i < n).
      let within : i * w + w ≤ length (joined f n) = omega (arith, size, slot_within n w i m) in
      ap (take w) (drop-append-le (i * w) (joined f n) (f n) (omega arith))
      ∙ take-append-le w (drop (i * w) (joined f n)) (f n) (omega (arith, length-drop (i * w) (joined f n)))
      ∙ part_joined n (λ i l. h i (omega arith)) i m)
      (below_suc l)

-- zeros joined are zeros
pub joined-zeros : (w n : ℕ) → replicate (n * w) 0 ≡ joined (λ _. replicate w 0) n
unfolding joined
joined-zeros w zero = ap (λ (m : ℕ). replicate m 0) (zero-mul w)
joined-zeros w (suc n) =
    ap (λ (m : ℕ). replicate m 0) (suc-mul n w) ∙ sym (replicate-append-replicate (n * w) w 0)
    ∙ ap (λ (l : List ℕ). l ++ replicate w 0) (joined-zeros w n)

-- what holds of 0 and of each element of each part holds of each element
module _ (P : ℕ → Type 0) where
  pub all_joined : (f : ℕ → List ℕ) (n : ℕ) → P 0 → ((i : ℕ) → i < n → (x : ℕ) → P (get_or (f i) x 0)) → (x : ℕ) → P (get_or (joined f n) x 0)
  unfolding joined
  all_joined f zero z h x = z
  all_joined f (suc n) z h x = all_append P z (joined f n) (f n) (all_joined f n z (λ i l. h i (omega arith))) (h n (omega arith)) x

-- ---- parts
pub part_take : (w : ℕ) (l : List ℕ) (i : ℕ) → part w l i ≡ take w (drop (i * w) l)
unfolding part
part_take w l i = refl

pub length_part : (w : ℕ) (l : List ℕ) (n i : ℕ) → i < n → n * w ≤ length l → length (part w l i) ≡ w
unfolding part
length_part w l n i h m = length-take-le w (drop (i * w) l) (omega (arith, length-drop (i * w) l, slot_within n w i h))

-- the first n parts
pub front_joined : (w : ℕ) (l : List ℕ) (n : ℕ) → joined (part w l) n ≡ take (n * w) l
unfolding joined part
front_joined w l zero = sym (ap (λ m. take m l) (zero-mul w))
front_joined w l (suc n) =
    ap (λ (x : List ℕ). x ++ take w (drop (n * w) l)) (front_joined w l n)
    ∙ sym (take-add (n * w) w l) ∙ ap (λ m. take m l) (sym (suc-mul n w))

pub joined_parts : (w : ℕ) (l : List ℕ) (n : ℕ) → length l ≡ n * w → l ≡ joined (part w l) n
joined_parts w l n e = sym (front_joined w l n ∙ take_all (n * w) l (omega arith))

pub same_parts : (w n : ℕ) (a b : List ℕ) → length a ≡ n * w → length b ≡ n * w → ((i : ℕ) → i < n → part w a i ≡ part w b i) → a ≡ b
same_parts w n a b ha hb h = joined_parts w a n ha ∙ joined_ext (part w a) (part w b) n h ∙ sym (joined_parts w b n hb)

-- ---- parts by their elements
pub get_or_part : (w : ℕ) (l : List ℕ) (i j : ℕ) → j < w → get_or (part w l i) j 0 ≡ get_or l (i * w + j) 0
get_or_part w l i j h = ap (λ (x : List ℕ). get_or x j 0) (part_take w l i) ∙ get_or-take w (drop (i * w) l) j 0 h ∙ get_or-drop (i * w) l j 0

pub part_given : (w : ℕ) (l : List ℕ) (n i : ℕ) → i < n → n * w ≤ length l → part w l i ≡ tabulate (λ j. get_or l (i * w + j) 0) w
part_given w l n i h m =
    let e : length (part w l i) ≡ w = length_part w l n i h m in
    sym (tabulate-get_or (part w l i) 0) ∙ ap (tabulate (λ j. get_or (part w l i) j 0)) e
    ∙ tabulate_ext (λ j. get_or (part w l i) j 0) (λ j. get_or l (i * w + j) 0) w (λ j g. get_or_part w l i j g)

pub part_tabulate : (f : ℕ → ℕ) (w n i : ℕ) → i < n → part w (tabulate f (n * w)) i ≡ tabulate (λ j. f (i * w + j)) w
part_tabulate f w n i h =
    let l = tabulate f (n * w) in
    part_given w l n i h (omega (arith, length-tabulate f (n * w)))
    ∙ tabulate_ext (λ j. get_or l (i * w + j) 0) (λ j. f (i * w + j)) w
    (λ j g. get_or-tabulate f (n * w) (i * w + j) 0 (omega (arith, slot_within n w i h)))

-- ---- a part that was lent and came back as y
module _ (w : ℕ) (l y : List ℕ) (n i : ℕ) (h : i < n) (m : n * w ≤ length l) (s : length y ≡ w) where
  put : List ℕ
  put = take (i * w) l ++ (y ++ drop (i * w + w - i * w) (drop (i * w) l))

  front : length (take (i * w) l) ≡ i * w
  front = length-take-le (i * w) l (omega (arith, slot_within n w i h))

  pub part_put_same : part w (take (i * w) l ++ (y ++ drop (i * w + w - i * w) (drop (i * w) l))) i ≡ y
  unfolding part
  part_put_same =
      ap (take w) (drop_at (take (i * w) l) (y ++ drop (i * w + w - i * w) (drop (i * w) l)) (i * w) front)
      ∙ take_at y (drop (i * w + w - i * w) (drop (i * w) l)) w s

  -- a part before it
  lower : (j : ℕ) → j < i → part w put j ≡ part w l j
  unfolding part put
  lower j g =
      let r = y ++ drop (i * w + w - i * w) (drop (i * w) l) in
      let b : j * w + w ≤ i * w = slot_within i w j g in
      ap (take w) (drop-append-le (j * w) (take (i * w) l) r (omega (arith, front)))
      ∙ take-append-le w (drop (j * w) (take (i * w) l)) r (omega (arith, front, length-drop (j * w) (take (i * w) l)))
      ∙ sym (take-append-le w (drop (j * w) (take (i * w) l)) (drop (i * w) l) (omega (arith, front, length-drop (j * w) (take (i * w) l))))
      ∙ ap (take w) (sym (drop-append-le (j * w) (take (i * w) l) (drop (i * w) l) (omega (arith, front))))
      ∙ ap (λ (x : List ℕ). take w (drop (j * w) x)) (take-append-drop (i * w) l)

  -- a part after it
  upper : (j : ℕ) → i < j → part w put j ≡ part w l j
  unfolding part put
  upper j g =
      let b : i * w + w ≤ j * w = slot_within j w i g in
      let d = j * w - (i * w + w) in
      let e : j * w ≡ length (take (i * w) l) + (length y + d) = omega (arith, front, s) in
      let u : i * w + w - i * w ≡ w = omega arith in
      let v : i * w + (w + d) ≡ j * w = omega arith in
      ap (λ (x : ℕ). take w (drop x (take (i * w) l ++ (y ++ drop (i * w + w - i * w) (drop (i * w) l))))) e
      ∙ ap (take w)
      (drop-append-add (take (i * w) l) (y ++ drop (i * w + w - i * w) (drop (i * w) l)) (length y + d)
      ∙ drop-append-add y (drop (i * w + w - i * w) (drop (i * w) l)) d
      ∙ ap (λ (x : ℕ). drop d (drop x (drop (i * w) l))) u
      ∙ drop-drop d w (drop (i * w) l)
      ∙ drop-drop (w + d) (i * w) l
      ∙ ap (λ (x : ℕ). drop x l) v)

  pub part_put_other : (j : ℕ) → (j ≡ i → ⊥) → part w (take (i * w) l ++ (y ++ drop (i * w + w - i * w) (drop (i * w) l))) j ≡ part w l j
  unfolding put
  part_put_other j c =
      ⊎_elim
      (λ (g : j < i). lower j g)
      (λ (g : i ≤ j). upper j (omega arith))
      (lt_or_le j i)
