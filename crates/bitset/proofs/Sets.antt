-- Laws of sets. The main ones: `member-set` (the members of `set_of n p` are those that pass p), `ext` (two sets with the same
-- members are equal), `size_set` (the size is the count); then what inserting, removing, restricting and the least member say.
use mathlib.Core.Path.{◌≡◌, refl, sym, ap, subst, ◌∙◌}
use mathlib.Core.Logic.{⊎_elim}
use mathlib.Core.Bool.{Bool, true, false, cond, not, ◌&&◌, ◌||◌}
use Prim.Native.Nat.{ℕ, zero, suc, ◌+◌, ◌-◌, ◌*◌, ◌/◌, ◌%◌, ◌^◌, ◌≤◌, ◌<◌}
use native.Mathlib.Nat.{mod-one, mod-eq_of_lt, mul-le-mul_right, one-mul}
use native.Mathlib.Numerals.{add-one}
use native.Mathlib.Omega.{arith}
use borrow.Author.Tests.{eq-eqb, ne_eqb, eqb-true}
use lib.Dec.{eqb, lit<}
use lib.Pow.{mod-pow-add, pow_mono}
use Rattle.lists.specs.Sum.{ind, count}
use Rattle.lists.proofs.Tests.{true≢false, either, and_no_right, and_true, or_left, or_right, or_none, same_or_not, lt_or_le}
use Rattle.lists.proofs.Sums.{below_suc, sum-suc, sum_none, sum_ext, sum_at, ind_le, count_le, count_ext, count_past, count_without}
use Rattle.bitset.specs.Set.{member, set_of, size_of, inserted, removed, restricted, first, lowest_of}
use Rattle.bitset.proofs.Digits.{digit_ind, member_top, member_lower, member_past}

-- ---- the set of a test
pub set_none : (p : ℕ → Bool) → set_of 0 p ≡ 0
unfolding set_of
set_none p = sum_none (λ i. ind (p i) * 2 ^ i)

set-suc : (n : ℕ) (p : ℕ → Bool) → set_of (suc n) p ≡ set_of n p + ind (p n) * 2 ^ n
unfolding set_of
set-suc n p = sum-suc n (λ i. ind (p i) * 2 ^ i)

-- bound
pub set_lt : (n : ℕ) (p : ℕ → Bool) → set_of n p < 2 ^ n
set_lt zero p = omega (arith, set_none p)
set_lt (suc n) p = omega (arith, set-suc n p, set_lt n p, mul-le-mul_right (2 ^ n) (ind_le (p n)))

pub set_lt_16 : (n : ℕ) (p : ℕ → Bool) → n ≤ 16 → set_of n p < 2 ^ 16
set_lt_16 n p h = omega (arith, set_lt n p, pow_mono {i = n} {j = 16} h)

-- all indices below n
pub set_all : (n : ℕ) → set_of n (λ _. true) + 1 ≡ 2 ^ n
set_all zero = omega (arith, set_none (λ _. true))
set_all (suc n) = omega (arith, set-suc n (λ _. true), set_all n)

-- reading back
pub member-set : (n : ℕ) (p : ℕ → Bool) (i : ℕ) → i < n → member (set_of n p) i ≡ p i
member-set zero p i l = absurd (omega arith)
member-set (suc n) p i l =
    rw (set-suc n p)
    (⊎_elim
    (λ (e : i ≡ n). subst (λ (j : ℕ). member (set_of n p + ind (p n) * 2 ^ n) j ≡ p j) (sym e) (member_top n (set_of n p) (p n) (set_lt n p)))
    (λ (m : i < n). member_lower n i (set_of n p) (ind (p n)) m ∙ member-set n p i m)
    (below_suc l))

pub member-set_past : (n : ℕ) (p : ℕ → Bool) (i : ℕ) → n ≤ i → member (set_of n p) i ≡ false
member-set_past n p i l = member_past n (set_of n p) i (set_lt n p) l

-- a number of k digits has no member from k on
pub member_over : (k s i : ℕ) → s < 2 ^ k → k ≤ i → member s i ≡ false
member_over = member_past

-- the empty set has no member
pub member_none : (i : ℕ) → member 0 i ≡ false
member_none i = member_past 0 0 i (lit< tt) (omega arith)

pub none_in_0 : (i : ℕ) → member 0 i ≡ true → ⊥
none_in_0 i y = true≢false (sym y ∙ member_none i)

-- a member of a number of k digits is below k
pub member_below : (k s i : ℕ) → s < 2 ^ k → member s i ≡ true → i < k
member_below k s i h y = ⊎_elim (λ (l : i < k). l) (λ (l : k ≤ i). absurd (true≢false (sym y ∙ member_past k s i h l))) (lt_or_le i k)

-- tests that agree give one set
pub set_ext : (n : ℕ) (p q : ℕ → Bool) → ((i : ℕ) → i < n → p i ≡ q i) → set_of n p ≡ set_of n q
unfolding set_of
set_ext n p q h = sum_ext n (λ i. ind (p i) * 2 ^ i) (λ i. ind (q i) * 2 ^ i) (λ i l. ap (λ (b : Bool). ind b * 2 ^ i) (h i l))

-- indices that fail from n on don't count
pub set_past : (n m : ℕ) (p : ℕ → Bool) → n ≤ m → ((i : ℕ) → n ≤ i → p i ≡ false) → set_of m p ≡ set_of n p
set_past n zero p l h =
    let e : n ≡ 0 = omega arith in
    ap (λ (x : ℕ). set_of x p) (sym e)
set_past n (suc m) p l h =
    ⊎_elim
    (λ (e : n ≡ suc m). ap (λ (x : ℕ). set_of x p) (sym e))
    (λ (ne : n ≡ suc m → ⊥).
    let k : n ≤ m = omega arith in
    set-suc m p ∙ ap (λ (b : Bool). set_of m p + ind b * 2 ^ m) (h m k) ∙ omega arith ∙ set_past n m p k h)
    (same_or_not n (suc m))

-- a test that nobody passes
pub set_empty : (n : ℕ) (p : ℕ → Bool) → ((i : ℕ) → p i ≡ false) → set_of n p ≡ 0
set_empty n p h = set_past 0 n p (omega arith) (λ i _. h i) ∙ set_none p

-- one index more, as a number
pub set_more : (n : ℕ) (p : ℕ → Bool) → set_of (n + 1) p ≡ set_of n p + ind (p n) * 2 ^ n
set_more n p = ap (λ (m : ℕ). set_of m p) (add-one n) ∙ set-suc n p

pub digit_member : (s i : ℕ) → s / 2 ^ i % 2 ≡ ind (member s i)
unfolding member
digit_member s i = digit_ind (s / 2 ^ i)

-- the members below n, as a remainder
pub set_members : (n s : ℕ) → set_of n (member s) ≡ s % 2 ^ n
unfolding member
set_members zero s = set_none (member s) ∙ sym (mod-one s)
set_members (suc n) s =
    let e : s % 2 ^ (1 + n) ≡ s / 2 ^ n % 2 * 2 ^ n + s % 2 ^ n = mod-pow-add s 1 n in
    let o : 1 + n ≡ suc n = omega arith in
    omega (arith, set-suc n (member s), set_members n s, rw o at e, ap (λ (d : ℕ). d * 2 ^ n) (digit_ind (s / 2 ^ n)))

-- a set is what its members say
pub set_of_members : (n s : ℕ) → s < 2 ^ n → set_of n (member s) ≡ s
set_of_members n s h = set_members n s ∙ mod-eq_of_lt h

pub ext : (n a b : ℕ) → a < 2 ^ n → b < 2 ^ n → ((i : ℕ) → i < n → member a i ≡ member b i) → a ≡ b
ext n a b ha hb h = sym (set_of_members n a ha) ∙ set_ext n (member a) (member b) h ∙ set_of_members n b hb

-- ---- size
pub size_le : (s : ℕ) → size_of s ≤ 16
unfolding size_of
size_le s = count_le 16 (member s)

-- the size of a set with no member from n on
pub size_below : (n s : ℕ) → n ≤ 16 → s < 2 ^ n → size_of s ≡ count n (member s)
unfolding size_of
size_below n s l h =
    let e : 16 - n + n ≡ 16 = omega arith in
    ap (λ (m : ℕ). count m (member s)) (sym e) ∙ count_past (16 - n) n (member s) (λ i u v. member_past n s i h u)

pub size_set : (n : ℕ) (p : ℕ → Bool) → n ≤ 16 → size_of (set_of n p) ≡ count n p
size_set n p l = size_below n (set_of n p) l (set_lt n p) ∙ count_ext n (member (set_of n p)) p (member-set n p)

-- ---- inserting
pub insert_lt : (s i : ℕ) → inserted s i < 2 ^ 16
unfolding inserted
insert_lt s i = set_lt 16 (λ j. member s j || eqb j i)

pub member_insert : (s i j : ℕ) → j < 16 → member (inserted s i) j ≡ (member s j || eqb j i)
unfolding inserted
member_insert s i j l = member-set 16 (λ a. member s a || eqb a i) j l

pub insert_over : (s i : ℕ) → s < 2 ^ 16 → 16 ≤ i → inserted s i ≡ s
unfolding inserted
insert_over s i h l =
    set_ext 16 (λ j. member s j || eqb j i) (member s) (λ j m. ap (λ (b : Bool). member s j || b) (ne_eqb j i (λ e. omega arith)) ∙ or_none (member s j))
    ∙ set_of_members 16 s h

pub insert_member : (s i : ℕ) → s < 2 ^ 16 → member s i ≡ true → inserted s i ≡ s
unfolding inserted
insert_member s i h y = set_ext 16 (λ j. member s j || eqb j i) (member s) same ∙ set_of_members 16 s h
  where
    same : (j : ℕ) → j < 16 → (member s j || eqb j i) ≡ member s j
    same j m =
        ⊎_elim
        (λ (e : eqb j i ≡ true). let q : member s j ≡ true = subst (λ (a : ℕ). member s a ≡ true) (sym (eqb-true j i e)) y in or_left (member s j) (eqb j i) q
        ∙ sym q)
        (λ (e : eqb j i ≡ false). ap (λ (b : Bool). member s j || b) e ∙ or_none (member s j))
        (either (eqb j i))

-- a new member's worth is added
pub insert_add : (s i : ℕ) → s < 2 ^ 16 → i < 16 → member s i ≡ false → inserted s i ≡ s + 2 ^ i
unfolding inserted set_of
insert_add s i h l y =
    sum_at 16 i (2 ^ i) (λ j. ind (member s j) * 2 ^ j) (λ j. ind (member s j || eqb j i) * 2 ^ j) l
    (ap (λ (b : Bool). ind b * 2 ^ i) (or_right (member s i) (eqb i i) (eq-eqb i i refl)) ∙ one-mul (2 ^ i)
    ∙ sym (ap (λ (b : Bool). ind b * 2 ^ i + 2 ^ i) y ∙ omega arith))
    (λ j m n. ap (λ (b : Bool). ind b * 2 ^ j) (ap (λ (b : Bool). member s j || b) (ne_eqb j i n) ∙ or_none (member s j)))
    ∙ ap (λ (x : ℕ). x + 2 ^ i) (set_of_members 16 s h)

-- a turn of a loop that makes the set of a test
pub insert_next : (n : ℕ) (p : ℕ → Bool) → n < 16 → p n ≡ true → inserted (set_of n p) n ≡ set_of (n + 1) p
insert_next n p l y =
    insert_add (set_of n p) n (set_lt_16 n p (omega arith)) l (member-set_past n p n (omega arith))
    ∙ sym (set_more n p ∙ ap (λ (b : Bool). set_of n p + ind b * 2 ^ n) y ∙ omega arith)

pub insert_skip : (n : ℕ) (p : ℕ → Bool) → p n ≡ false → set_of n p ≡ set_of (n + 1) p
insert_skip n p y =
    sym (set_more n p ∙ ap (λ (b : Bool). set_of n p + ind b * 2 ^ n) y ∙ omega arith)

-- ---- removing
pub remove_lt : (s i : ℕ) → removed s i < 2 ^ 16
unfolding removed
remove_lt s i = set_lt 16 (λ j. member s j && not (eqb j i))

pub member_remove : (s i j : ℕ) → j < 16 → member (removed s i) j ≡ (member s j && not (eqb j i))
unfolding removed
member_remove s i j l = member-set 16 (λ a. member s a && not (eqb a i)) j l

pub remove_other : (s i : ℕ) → s < 2 ^ 16 → member s i ≡ false → removed s i ≡ s
unfolding removed
remove_other s i h y = set_ext 16 (λ j. member s j && not (eqb j i)) (member s) same ∙ set_of_members 16 s h
  where
    same : (j : ℕ) → j < 16 → (member s j && not (eqb j i)) ≡ member s j
    same j m =
        ⊎_elim
        (λ (e : eqb j i ≡ true). let q : member s j ≡ false = subst (λ (a : ℕ). member s a ≡ false) (sym (eqb-true j i e)) y in and_no_right (member s j)
        (not (eqb j i)) (ap not e) ∙ sym q)
        (λ (e : eqb j i ≡ false). ap (λ (b : Bool). member s j && not b) e ∙ and_true (member s j))
        (either (eqb j i))

-- a member's worth is taken away
pub remove_sub : (s i : ℕ) → s < 2 ^ 16 → i < 16 → member s i ≡ true → removed s i + 2 ^ i ≡ s
unfolding removed set_of
remove_sub s i h l y =
    sym (sum_at 16 i (2 ^ i) (λ j. ind (member s j && not (eqb j i)) * 2 ^ j) (λ j. ind (member s j) * 2 ^ j) l
    (ap (λ (b : Bool). ind b * 2 ^ i) y ∙ one-mul (2 ^ i)
    ∙ sym (ap (λ (b : Bool). ind b * 2 ^ i + 2 ^ i) (and_no_right (member s i) (not (eqb i i)) (ap not (eq-eqb i i refl))) ∙ omega arith))
    (λ j m n. sym (ap (λ (b : Bool). ind (member s j && not b) * 2 ^ j) (ne_eqb j i n) ∙ ap (λ (b : Bool). ind b * 2 ^ j) (and_true (member s j)))))
    ∙ set_of_members 16 s h

pub size_remove : (s i : ℕ) → i < 16 → member s i ≡ true → size_of (removed s i) + 1 ≡ size_of s
unfolding size_of
size_remove s i l y =
    ap (λ (x : ℕ). x + 1) (count_ext 16 (member (removed s i)) (λ j. member s j && not (eqb j i)) (member_remove s i))
    ∙ count_without 16 (member s) i l y

-- ---- restricting
pub restrict_lt : (s n : ℕ) → restricted s n < 2 ^ n
unfolding restricted
restrict_lt s n = set_lt n (member s)

pub restrict_mod : (s n : ℕ) → restricted s n ≡ s % 2 ^ n
unfolding restricted
restrict_mod s n = set_members n s

pub member_restrict : (s n i : ℕ) → i < n → member (restricted s n) i ≡ member s i
unfolding restricted
member_restrict s n i l = member-set n (member s) i l

pub member_restrict_past : (s n i : ℕ) → n ≤ i → member (restricted s n) i ≡ false
unfolding restricted
member_restrict_past s n i l = member-set_past n (member s) i l

-- a set with no member from n on stays
pub restrict_below : (s n : ℕ) → s < 2 ^ n → restricted s n ≡ s
unfolding restricted
restrict_below s n h = set_of_members n s h

pub restrict_set : (n : ℕ) (p : ℕ → Bool) → restricted (set_of n p) n ≡ set_of n p
restrict_set n p = restrict_below (set_of n p) n (set_lt n p)

-- ---- the least member
pub first_le : (n : ℕ) (p : ℕ → Bool) → first n p ≤ n
unfolding first
first_le zero p = omega arith
first_le (suc n) p = go (p 0) (first_le n (λ i. p (suc i)))
  where
    go : (b : Bool) → first n (λ i. p (suc i)) ≤ n → cond b 0 (suc (first n (λ i. p (suc i)))) ≤ suc n
    go true h = omega arith
    go false h = omega arith

-- it passes
pub first_passes : (n : ℕ) (p : ℕ → Bool) → first n p < n → p (first n p) ≡ true
unfolding first
first_passes zero p l = absurd (omega arith)
first_passes (suc n) p l = go (p 0) refl l (first_passes n (λ i. p (suc i)))
  where
    go : (b : Bool) → p 0 ≡ b → cond b 0 (suc (first n (λ i. p (suc i)))) < suc n
        → (first n (λ i. p (suc i)) < n → p (suc (first n (λ i. p (suc i)))) ≡ true) → p (cond b 0 (suc (first n (λ i. p (suc i))))) ≡ true
    go true e m ih = e
    go false e m ih = ih (omega arith)

-- and nothing below it does
pub first_least : (n : ℕ) (p : ℕ → Bool) (i : ℕ) → i < first n p → p i ≡ false
unfolding first
first_least zero p i l = absurd (omega arith)
first_least (suc n) p zero l = go (p 0) refl l
  where
    go : (b : Bool) → p 0 ≡ b → 0 < cond b 0 (suc (first n (λ i. p (suc i)))) → p 0 ≡ false
    go true e m = absurd (omega arith)
    go false e m = e
first_least (suc n) p (suc i) l = go (p 0) l (first_least n (λ i. p (suc i)) i)
  where
    go : (b : Bool) → suc i < cond b 0 (suc (first n (λ i. p (suc i)))) → (i < first n (λ i. p (suc i)) → p (suc i) ≡ false) → p (suc i) ≡ false
    go true m ih = absurd (omega arith)
    go false m ih = ih (omega arith)

pub first_some : (n : ℕ) (p : ℕ → Bool) (i : ℕ) → p i ≡ true → first n p ≤ i
first_some n p i y =
    ⊎_elim (λ (l : i < first n p). absurd (true≢false (sym y ∙ first_least n p i l))) (λ (l : first n p ≤ i). l) (lt_or_le i (first n p))

pub lowest_le : (s : ℕ) → lowest_of s ≤ 16
unfolding lowest_of
lowest_le s = first_le 16 (member s)

pub lowest_member : (s : ℕ) → lowest_of s < 16 → member s (lowest_of s) ≡ true
unfolding lowest_of
lowest_member s l = first_passes 16 (member s) l

pub lowest_least : (s i : ℕ) → member s i ≡ true → lowest_of s ≤ i
unfolding lowest_of
lowest_least s i y = first_some 16 (member s) i y

-- a set that is not empty has a least member
pub lowest_some : (s : ℕ) → s < 2 ^ 16 → 0 < s → lowest_of s < 16
unfolding lowest_of
lowest_some s h l =
    ⊎_elim (λ (m : first 16 (member s) < 16). m)
    (λ (m : 16 ≤ first 16 (member s)). absurd (omega (
      arith,
      ext 16 s 0 h (lit< tt) (λ i u. first_least 16 (member s) i (omega arith) ∙ sym (member_none i)),
    )))
    (lt_or_le (first 16 (member s)) 16)
