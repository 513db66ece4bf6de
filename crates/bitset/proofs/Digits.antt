-- Binary digits: the test `member` of a sum of digits, of a half, and the machine's counts of digits. The main one: `member_top`,
-- a digit set on top of lower ones is read back.
use mathlib.Core.Path.{◌≡◌, refl, sym, ap, ap₂, ◌∙◌}
use mathlib.Core.Bool.{Bool, true, false, cond}
use Prim.Native.Nat.{ℕ, zero, suc, ◌+◌, ◌-◌, ◌*◌, ◌/◌, ◌%◌, ◌^◌, ◌≤◌, ◌<◌}
use native.Mathlib.Nat.{add_comm, mul_assoc, add-mul-mod_self_right, mod-lt, div-one, div-eq_of_lt}
use native.Mathlib.Omega.{arith}
use lib.Count.{ones, ones_step, count_trailing_zeros, under}
use lib.Dec.{eqb, lit<}
use lib.Pow.{high, field, pow-add, pow_mono, shr-shr}
use Rattle.lists.specs.Sum.{ind, count}
use Rattle.lists.proofs.Sums.{count_none_below, count_front, count_ext}
use Rattle.bitset.specs.Set.{member, first}

ind_digit : (b : Bool) → eqb (ind b % 2) 1 ≡ b
ind_digit true = refl
ind_digit false = refl

digit : (d : ℕ) → d < 2 → d ≡ ind (eqb d 1)
digit zero l = refl
digit (suc zero) l = refl
digit (suc (suc d)) l = absurd (omega arith)

-- a digit as a test and back
pub digit_ind : (x : ℕ) → x % 2 ≡ ind (eqb (x % 2) 1)
digit_ind x = digit (x % 2) (mod-lt x (lit< tt))

pub member_top : (n a : ℕ) (b : Bool) → a < 2 ^ n → member (a + ind b * 2 ^ n) n ≡ b
unfolding member
member_top n a b l = rw (add_comm a (ind b * 2 ^ n), high (ind b) n l) (ind_digit b)

-- digit j of x lies in its 1 + j lowest digits
lowest_digits : (x j : ℕ) → x / 2 ^ j % 2 ≡ x % 2 ^ (1 + j) / 2 ^ j
lowest_digits x j = sym (field x 1 j)

above : (k j a c : ℕ) → (a + c * 2 ^ (k + (1 + j))) / 2 ^ j % 2 ≡ a / 2 ^ j % 2
above k j a c =
    lowest_digits (a + c * 2 ^ (k + (1 + j))) j
    ∙ ap (λ (x : ℕ). (a + x) % 2 ^ (1 + j) / 2 ^ j) (ap (λ (x : ℕ). c * x) (pow-add 2 k (1 + j)) ∙ sym (mul_assoc c (2 ^ k) (2 ^ (1 + j))))
    ∙ ap (λ (x : ℕ). x / 2 ^ j) (add-mul-mod_self_right a (c * 2 ^ k) (2 ^ (1 + j)))
    ∙ sym (lowest_digits a j)

-- and what is added above leaves the lower digits
pub member_lower : (n j a c : ℕ) → j < n → member (a + c * 2 ^ n) j ≡ member a j
unfolding member
member_lower n j a c l =
    let e : n - (1 + j) + (1 + j) ≡ n = omega arith in
    ap (λ (d : ℕ). eqb d 1) (rw e at (above (n - (1 + j)) j a c))

-- a number below 2 ^ k has no digit at k or above
pub member_past : (k s i : ℕ) → s < 2 ^ k → k ≤ i → member s i ≡ false
unfolding member
member_past k s i h l = rw (div-eq_of_lt {n = s} {m = 2 ^ i} (omega (arith, pow_mono {i = k} {j = i} l)))

-- the digits of a half
pub member_half : (s i : ℕ) → member s (suc i) ≡ member (s / 2) i
unfolding member
member_half s i =
    let e : 1 + i ≡ suc i = omega arith in
    ap (λ (x : ℕ). eqb (s / 2 ^ x % 2) 1) (sym e) ∙ ap (λ (x : ℕ). eqb (x % 2) 1) (sym (shr-shr s 1 i))

pub member-zero : (s : ℕ) → member s 0 ≡ eqb (s % 2) 1
unfolding member
member-zero s = ap (λ (x : ℕ). eqb (x % 2) 1) (div-one s)

-- the machine's count of set digits
pub ones-count : (k s : ℕ) → s < 2 ^ k → ones s ≡ count k (member s)
unfolding ones
ones-count zero s h =
    let z : s ≡ 0 = omega arith in
    ap ones z ∙ sym (count_none_below (member s))
ones-count (suc k) s h =
    let e : count k (λ i. member s (suc i)) ≡ count k (member (s / 2)) = count_ext k (λ i. member s (suc i)) (member (s / 2)) (λ i l. member_half s i) in
    omega (
      arith,
      ones_step s,
      ones-count k (s / 2) (omega arith),
      count_front k (member s),
      digit_ind s,
      ap ind (member-zero s),
    )

pub first_ext : (n : ℕ) (p q : ℕ → Bool) → ((i : ℕ) → p i ≡ q i) → first n p ≡ first n q
unfolding first
first_ext zero p q h = refl
first_ext (suc n) p q h = ap₂ (λ (b : Bool) (x : ℕ). cond b 0 (suc x)) (h 0) (first_ext n (λ i. p (suc i)) (λ i. q (suc i)) (λ i. h (suc i)))

-- the machine's count of zeros below the lowest set digit
pub trailing_first : (k s : ℕ) → count_trailing_zeros k s ≡ first k (member s)
unfolding count_trailing_zeros first
trailing_first zero s = refl
trailing_first (suc k) s =
    go (s % 2) refl (trailing_first k (s / 2) ∙ first_ext k (member (s / 2)) (λ i. member s (suc i)) (λ i. sym (member_half s i)))
  where
    go : (r : ℕ) → s % 2 ≡ r → count_trailing_zeros k (s / 2) ≡ first k (λ i. member s (suc i))
        → under r (count_trailing_zeros k (s / 2)) ≡ cond (member s 0) 0 (suc (first k (λ i. member s (suc i))))
    go zero e ih = ap suc ih ∙ sym (ap (λ (b : Bool). cond b 0 (suc (first k (λ i. member s (suc i))))) (member-zero s ∙ ap (λ (d : ℕ). eqb d 1) e))
    go (suc zero) e ih = sym (ap (λ (b : Bool). cond b 0 (suc (first k (λ i. member s (suc i))))) (member-zero s ∙ ap (λ (d : ℕ). eqb d 1) e))
    go (suc (suc r)) e ih = absurd (omega arith)
