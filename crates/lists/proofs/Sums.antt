-- Laws of sums and counts. The main ones: `count_split` (a set is its members inside and outside another), `count_mono`
-- (a subset has at most as many), and `tally` (where f exceeds g by at most 1, and only outside a set that lacks at most t
-- indices, the sum of f exceeds that of g by at most t), on which every quorum argument rests.
use mathlib.Core.Path.{◌≡◌, refl, sym, ap, ap₂, subst, ◌∙◌}
use mathlib.Core.Logic.{◌⊎◌, ⊎_elim}
use mathlib.Core.Bool.{Bool, true, false, not, ◌&&◌}
use Prim.Native.Nat.{ℕ, zero, suc, ◌+◌, ◌*◌, ◌≤◌, ◌<◌}
use native.Mathlib.Nat.{eq-or-lt_of_le, le_of_suc-le-suc, zero-add, suc-add}
use native.Mathlib.Numerals.{add-one}
use native.Mathlib.Omega.{arith}
use borrow.Author.Tests.{eq-eqb, eqb-true}
use lib.Dec.{eqb}
use mir.Val.{bool_byte}
use Rattle.lists.specs.Sum.{sum, ind, count}
use Rattle.lists.proofs.Tests.{true≢false, either, fails, and_right, and_tail}

-- an index below n + 1 is n or below it
pub below_suc : {i n : ℕ} → i < suc n → (i ≡ n) ⊎ (i < n)
below_suc h = eq-or-lt_of_le (le_of_suc-le-suc h)

-- ---- sums
-- one index more: a loop's turn
pub sum_more : (n : ℕ) (f : ℕ → ℕ) → sum (n + 1) f ≡ sum n f + f n
unfolding sum
sum_more n f = rw add-one

pub sum_none : (f : ℕ → ℕ) → sum 0 f ≡ 0
unfolding sum
sum_none f = refl

pub sum-suc : (n : ℕ) (f : ℕ → ℕ) → sum (suc n) f ≡ sum n f + f n
unfolding sum
sum-suc n f = refl

pub sum_ext : (n : ℕ) (f g : ℕ → ℕ) → ((i : ℕ) → i < n → f i ≡ g i) → sum n f ≡ sum n g
unfolding sum
sum_ext zero f g h = refl
sum_ext (suc n) f g h = ap₂ ◌+◌ (sum_ext n f g (λ i l. h i (omega arith))) (h n (omega arith))

pub sum_le : (n : ℕ) (f g : ℕ → ℕ) → ((i : ℕ) → i < n → f i ≤ g i) → sum n f ≤ sum n g
unfolding sum
sum_le zero f g h = omega arith
sum_le (suc n) f g h = omega (arith, sum_le n f g (λ i l. h i (omega arith)), h n (omega arith))

pub sum-add : (n : ℕ) (f g : ℕ → ℕ) → sum n (λ i. f i + g i) ≡ sum n f + sum n g
unfolding sum
sum-add zero f g = refl
sum-add (suc n) f g = omega (arith, sum-add n f g)

pub sum_const : (n c : ℕ) → sum n (λ _. c) ≡ n * c
unfolding sum
sum_const zero c = omega arith
sum_const (suc n) c = omega (arith, sum_const n c)

-- a summand that grows by v
pub sum_at : (n i v : ℕ) (f g : ℕ → ℕ) → i < n → g i ≡ f i + v → ((j : ℕ) → j < n → (j ≡ i → ⊥) → g j ≡ f j) → sum n g ≡ sum n f + v
sum_at zero i v f g l e h = absurd (omega arith)
sum_at (suc n) i v f g l e h =
    ⊎_elim
    (λ (q : i ≡ n). omega (
      arith,
      sum-suc n f,
      sum-suc n g,
      subst (λ (j : ℕ). g j ≡ f j + v) q e,
      sum_ext n g f (λ j m. h j (omega arith) (λ r. omega arith)),
    ))
    (λ (m : i < n). omega (
      arith,
      sum-suc n f,
      sum-suc n g,
      h n (omega arith) (λ r. omega arith),
      sum_at n i v f g m e (λ j u. h j (omega arith)),
    ))
    (below_suc l)

-- the first summand apart from the rest
pub sum_front : (n : ℕ) (f : ℕ → ℕ) → sum (suc n) f ≡ f 0 + sum n (λ i. f (suc i))
sum_front zero f = omega (arith, sum-suc 0 f, sum_none f, sum_none (λ i. f (suc i)))
sum_front (suc n) f = omega (arith, sum-suc (suc n) f, sum-suc n (λ i. f (suc i)), sum_front n f)

-- ---- a test as a number
pub ind_le : (b : Bool) → ind b ≤ 1
ind_le true = omega arith
ind_le false = omega arith

pub ind_yes : {b : Bool} → b ≡ true → ind b ≡ 1
ind_yes e = ap ind e

pub ind_no : {b : Bool} → b ≡ false → ind b ≡ 0
ind_no e = ap ind e

-- as the code makes one
pub byte_ind : (b : Bool) → bool_byte b ≡ ind b
byte_ind true = refl
byte_ind false = refl

pub ind-not : (b : Bool) → ind b + ind (not b) ≡ 1
ind-not true = refl
ind-not false = refl

ind_split : (a b : Bool) → ind a ≡ ind (a && b) + ind (a && not b)
ind_split true true = refl
ind_split true false = refl
ind_split false b = refl

ind_mono : (a b : Bool) → (a ≡ true → b ≡ true) → ind a ≤ ind b
ind_mono true b h = omega (arith, ap ind (h refl))
ind_mono false b h = omega arith

-- ---- counts
pub count_none_below : (p : ℕ → Bool) → count 0 p ≡ 0
unfolding count
count_none_below p = sum_none (λ i. ind (p i))

pub count-suc : (n : ℕ) (p : ℕ → Bool) → count (suc n) p ≡ count n p + ind (p n)
unfolding count
count-suc n p = sum-suc n (λ i. ind (p i))

pub count_more : (n : ℕ) (p : ℕ → Bool) → count (n + 1) p ≡ count n p + ind (p n)
unfolding count
count_more n p = sum_more n (λ i. ind (p i))

-- the first index apart from the rest
pub count_front : (n : ℕ) (p : ℕ → Bool) → count (suc n) p ≡ ind (p 0) + count n (λ i. p (suc i))
unfolding count
count_front n p = sum_front n (λ i. ind (p i))

-- a turn of a loop that counts
pub counted : (n : ℕ) (p : ℕ → Bool) (c b : ℕ) → c ≡ count n p → b ≡ ind (p n) → c + b ≡ count (n + 1) p
counted n p c b e h = omega (arith, count_more n p)

pub counted_yes : (n : ℕ) (p : ℕ → Bool) (c : ℕ) → p n ≡ true → c ≡ count n p → c + 1 ≡ count (n + 1) p
counted_yes n p c h e = omega (arith, count_more n p, ind_yes h)

pub counted_no : (n : ℕ) (p : ℕ → Bool) (c : ℕ) → p n ≡ false → c ≡ count n p → c ≡ count (n + 1) p
counted_no n p c h e = omega (arith, count_more n p, ind_no h)

pub count_le : (n : ℕ) (p : ℕ → Bool) → count n p ≤ n
count_le zero p = omega (arith, count_none_below p)
count_le (suc n) p = omega (arith, count_le n p, ind_le (p n), count-suc n p)

pub count_ext : (n : ℕ) (p q : ℕ → Bool) → ((i : ℕ) → i < n → p i ≡ q i) → count n p ≡ count n q
unfolding count
count_ext n p q h = sum_ext n (λ i. ind (p i)) (λ i. ind (q i)) (λ i l. ap ind (h i l))

pub count_mono : (n : ℕ) (p q : ℕ → Bool) → ((i : ℕ) → i < n → p i ≡ true → q i ≡ true) → count n p ≤ count n q
unfolding count
count_mono n p q h = sum_le n (λ i. ind (p i)) (λ i. ind (q i)) (λ i l. ind_mono (p i) (q i) (h i l))

pub count-not : (n : ℕ) (p : ℕ → Bool) → count n p + count n (λ i. not (p i)) ≡ n
count-not zero p = omega (arith, count_none_below p, count_none_below (λ i. not (p i)))
count-not (suc n) p = omega (arith, count-not n p, ind-not (p n), count-suc n p, count-suc n (λ i. not (p i)))

-- a set is its members inside q and those outside
pub count_split : (n : ℕ) (p q : ℕ → Bool) → count n p ≡ count n (λ i. p i && q i) + count n (λ i. p i && not (q i))
count_split zero p q = count_none_below p ∙ omega (arith, count_none_below (λ i. p i && q i), count_none_below (λ i. p i && not (q i)))
count_split (suc n) p q =
    omega (
      arith,
      count_split n p q,
      ind_split (p n) (q n),
      count-suc n p,
      count-suc n (λ i. p i && q i),
      count-suc n (λ i. p i && not (q i)),
    )

-- two sets that have more than n members together meet in at least as many as there are too many
pub count_meet : (n : ℕ) (p q : ℕ → Bool) → count n p + count n q ≤ n + count n (λ i. p i && q i)
count_meet n p q =
    omega (
      arith,
      count_split n p q,
      count-not n q,
      count_mono n (λ i. p i && not (q i)) (λ i. not (q i)) (λ i l h. and_right (p i) (not (q i)) h),
    )

pub count_none : (n : ℕ) (p : ℕ → Bool) → ((i : ℕ) → i < n → p i ≡ false) → count n p ≡ 0
count_none zero p h = count_none_below p
count_none (suc n) p h = omega (arith, count-suc n p, ind_no (h n (omega arith)), count_none n p (λ i l. h i (omega arith)))

pub count_all : (n : ℕ) (p : ℕ → Bool) → ((i : ℕ) → i < n → p i ≡ true) → count n p ≡ n
count_all zero p h = count_none_below p
count_all (suc n) p h = omega (arith, count-suc n p, ind_yes (h n (omega arith)), count_all n p (λ i l. h i (omega arith)))

-- a count that reaches n is of all
pub count_full : (n : ℕ) (p : ℕ → Bool) → n ≤ count n p → (i : ℕ) → i < n → p i ≡ true
count_full zero p h i l = absurd (omega arith)
count_full (suc n) p h i l =
    ⊎_elim
    (λ (e : i ≡ n). subst (λ (j : ℕ). p j ≡ true) (sym e) (⊎_elim (λ y. y) (λ y. absurd (omega (arith, count-suc n p, count_le n p, ind_no y))) (either (p n))))
    (λ (m : i < n). count_full n p (omega (arith, count-suc n p, ind_le (p n))) i m)
    (below_suc l)

-- indices from n on that fail don't count
pub count_past : (d n : ℕ) (p : ℕ → Bool) → ((i : ℕ) → n ≤ i → i < d + n → p i ≡ false) → count (d + n) p ≡ count n p
count_past zero n p h = ap (λ (m : ℕ). count m p) (zero-add n)
count_past (suc d) n p h =
    ap (λ (m : ℕ). count m p) (suc-add d n)
    ∙ count-suc (d + n) p
    ∙ omega (arith, ind_no (h (d + n) (omega arith) (omega arith)), count_past d n p (λ i l m. h i l (omega arith)))

pub count_some : (n : ℕ) (p : ℕ → Bool) (i : ℕ) → i < n → p i ≡ true → 1 ≤ count n p
count_some zero p i l h = absurd (omega arith)
count_some (suc n) p i l h =
    ⊎_elim
    (λ (e : i ≡ n). omega (arith, count-suc n p, ind_yes (subst (λ (j : ℕ). p j ≡ true) e h)))
    (λ (m : i < n). omega (arith, count-suc n p, count_some n p i m h))
    (below_suc l)

-- a count that is not 0 has a member
pub count-member : (n : ℕ) (p : ℕ → Bool) → 1 ≤ count n p → (i : ℕ) × (i < n) × (p i ≡ true)
count-member zero p h = absurd (omega (arith, count_none_below p))
count-member (suc n) p h =
    ⊎_elim
    (λ (y : p n ≡ true). (n, omega arith, y))
    (λ (y : p n ≡ false). let r = count-member n p (omega (arith, count-suc n p, ind_no y)) in (r.0, omega (arith, r.1), r.2))
    (either (p n))

pub count_once : (n : ℕ) (p : ℕ → Bool) → ((i j : ℕ) → i < n → j < n → p i ≡ true → p j ≡ true → i ≡ j) → count n p ≤ 1
count_once zero p h = omega (arith, count_none_below p)
count_once (suc n) p h =
    ⊎_elim
    (λ (y : p n ≡ true). omega (
      arith,
      count-suc n p,
      ind_yes y,
      count_none n p (λ i l. fails (p i) (λ q. omega (arith, h i n (omega arith) (omega arith) q y))),
    ))
    (λ (y : p n ≡ false). omega (arith, count-suc n p, ind_no y, count_once n p (λ i j l m. h i j (omega arith) (omega arith))))
    (either (p n))

-- one index is one
pub count_one : (n j : ℕ) → j < n → count n (λ i. eqb i j) ≡ 1
count_one n j l =
    omega (
      arith,
      count_some n (λ i. eqb i j) j l (eq-eqb j j refl),
      count_once n (λ i. eqb i j) (λ a b u v p q. eqb-true a j p ∙ sym (eqb-true b j q)),
    )

-- a member taken out
pub count_without : (n : ℕ) (p : ℕ → Bool) (j : ℕ) → j < n → p j ≡ true → count n (λ i. p i && not (eqb i j)) + 1 ≡ count n p
count_without n p j l h =
    omega (
      arith,
      count_split n p (λ i. eqb i j),
      count_one n j l,
      count_ext n (λ i. p i && eqb i j) (λ i. eqb i j)
          (λ i m. ⊎_elim (λ (y : eqb i j ≡ true). and_tail (p i) (eqb i j) (subst (λ (a : ℕ). p a ≡ true) (sym (eqb-true i j y)) h))
          (λ (y : eqb i j ≡ false). fails (p i && eqb i j) (λ q. true≢false (sym (and_right (p i) (eqb i j) q) ∙ y)) ∙ sym y)
          (either (eqb i j))),
    )

-- ---- quorums: `good` lacks at most t of the n indices
module _ (n t : ℕ) (good : ℕ → Bool) (most : n ≤ count n good + t) where
  slot : (b : Bool) (x y : ℕ) → x ≤ y + 1 → (b ≡ true → x ≤ y) → x + ind b ≤ y + 1
  slot true x y any here = omega (arith, here refl)
  slot false x y any here = omega arith

  sums : (m : ℕ) (f g : ℕ → ℕ) → ((i : ℕ) → i < m → f i ≤ g i + 1) → ((i : ℕ) → i < m → good i ≡ true → f i ≤ g i)
      → sum m f + count m good ≤ sum m g + m
  sums zero f g any here = omega (arith, sum_none f, sum_none g, count_none_below good)
  sums (suc m) f g any here =
      omega (
        arith,
        sums m f g (λ i l. any i (omega arith)) (λ i l. here i (omega arith)),
        slot (good m) (f m) (g m) (any m (omega arith)) (here m (omega arith)),
        sum-suc m f,
        sum-suc m g,
        count-suc m good,
      )

  pub tally : (f g : ℕ → ℕ) → ((i : ℕ) → i < n → f i ≤ g i + 1) → ((i : ℕ) → i < n → good i ≡ true → f i ≤ g i) → sum n f ≤ sum n g + t
  tally f g any here = omega (arith, sums n f g any here, most)

  -- what every good index has, at least n - t have
  pub many : (p : ℕ → Bool) → ((i : ℕ) → i < n → good i ≡ true → p i ≡ true) → n ≤ count n p + t
  many p h = omega (arith, count_mono n good p h, most)

  -- what no good index has, at most t have
  pub few : (p : ℕ → Bool) → ((i : ℕ) → i < n → good i ≡ true → p i ≡ false) → count n p ≤ t
  few p h =
      omega (
        arith,
        count-not n good,
        count_mono n p (λ i. not (good i))
            (λ i l y. ⊎_elim (λ (g : good i ≡ true). absurd (true≢false (sym y ∙ h i l g))) (λ (g : good i ≡ false). ap not g) (either (good i))),
        most,
      )

  -- where the good agree, two counts are at most t apart
  pub close : (p q : ℕ → Bool) → ((i : ℕ) → i < n → good i ≡ true → p i ≡ q i) → count n p ≤ count n q + t
  unfolding count
  close p q h =
      tally (λ i. ind (p i)) (λ i. ind (q i)) (λ i l. omega (arith, ind_le (p i))) (λ i l g. omega (arith, ap ind (h i l g)))

  -- of any set, all but at most t members are good
  pub good_part : (p : ℕ → Bool) → count n p ≤ count n (λ i. p i && good i) + t
  good_part p =
      omega (
        arith,
        count_split n p good,
        few (λ i. p i && not (good i)) (λ i l g. fails (p i && not (good i)) (λ y. true≢false (sym (and_right (p i) (not (good i)) y) ∙ ap not g))),
      )
