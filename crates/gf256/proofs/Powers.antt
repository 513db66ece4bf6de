-- Powers, exponents and inverses. The main law: every element but 00 is a power of 02, the one that its exponent says (`gpow-glog`); so the
-- power 255 of each is 01, it has an inverse (`gmul-ginv`), and there are no zero divisors (`gmul_none`).
use mathlib.Core.Path.{◌≡◌, refl, sym, ap, ap₂, ◌∙◌}
use mathlib.Core.Logic.{◌⊎◌, inl, inr}
use mathlib.Core.Bool.{Bool, true, false, cond}
use mathlib.Core.List.{List}
use Prim.Native.Nat.{ℕ, zero, suc, ◌+◌, ◌-◌, ◌*◌, ◌/◌, ◌%◌, ◌<◌}
use native.Mathlib.Nat.{zero-add, suc-add, add-zero, add-suc, zero-mul, suc-mul, div-add-mod', mul_comm}
use native.Mathlib.Omega.{arith}
use lib.Dec.{T, eqb, eqb→eq, lit<}
use lib.ListN.{get_or, length}
use Rattle.lists.proofs.Table.{below, equal_below, every_at, at}
use Rattle.gf256.specs.Field.{gmul, gpow, ginv, glog, orbit, index_of}
use Rattle.gf256.proofs.Product.{gmul_lt, gmul_comm, gmul_assoc, gmul_medial, gmul_one_l, gmul_one_r, gmul-zero_l, gmul-zero_r}

-- ---- powers
pub gpow-zero : (a : ℕ) → gpow a 0 ≡ 1
unfolding gpow
gpow-zero a = refl

pub gpow-suc : (a n : ℕ) → gpow a (suc n) ≡ gmul a (gpow a n)
unfolding gpow
gpow-suc a n = refl

pub gpow_one : (a : ℕ) → a < 256 → gpow a 1 ≡ a
gpow_one a h = gpow-suc a 0 ∙ ap (gmul a) (gpow-zero a) ∙ gmul_one_r a h

pub gpow_lt : (a n : ℕ) → gpow a n < 256
gpow_lt a zero = rw (gpow-zero a) (lit< tt)
gpow_lt a (suc n) = rw (gpow-suc a n) (gmul_lt a (gpow a n))

pub gpow-add : (a m n : ℕ) → gpow a (m + n) ≡ gmul (gpow a m) (gpow a n)
unfolding gpow
gpow-add a zero n = ap (gpow a) (zero-add n) ∙ sym (gmul_one_l (gpow a n) (gpow_lt a n))
gpow-add a (suc m) n = ap (gpow a) (suc-add m n) ∙ ap (gmul a) (gpow-add a m n) ∙ sym (gmul_assoc a (gpow a m) (gpow a n))

pub gpow-mul : (a m n : ℕ) → gpow a (m * n) ≡ gpow (gpow a n) m
unfolding gpow
gpow-mul a zero n = ap (gpow a) (zero-mul n)
gpow-mul a (suc m) n =
    ap (gpow a) (suc-mul m n)
    ∙ gpow-add a (m * n) n
    ∙ gmul_comm (gpow a (m * n)) (gpow a n)
    ∙ ap (gmul (gpow a n)) (gpow-mul a m n)

pub gpow_of_one : (n : ℕ) → gpow 1 n ≡ 1
unfolding gpow
gpow_of_one zero = refl
gpow_of_one (suc n) = ap (gmul 1) (gpow_of_one n) ∙ gmul_one_l 1 (lit< tt)

pub gpow_of_product : (a b n : ℕ) → gpow (gmul a b) n ≡ gmul (gpow a n) (gpow b n)
unfolding gpow
gpow_of_product a b zero = sym (gmul_one_l 1 (lit< tt))
gpow_of_product a b (suc n) = ap (gmul (gmul a b)) (gpow_of_product a b n) ∙ gmul_medial a b (gpow a n) (gpow b n)

-- ---- 02 to the power 255 is 01, so exponents of 02 count modulo 255
pub gpow-order : gpow 2 255 ≡ 1
unfolding gpow
gpow-order = refl

turns : (q : ℕ) → gpow 2 (q * 255) ≡ 1
turns q = gpow-mul 2 q 255 ∙ ap (λ x. gpow x q) gpow-order ∙ gpow_of_one q

pub gpow-mod : (n : ℕ) → gpow 2 (n % 255) ≡ gpow 2 n
gpow-mod n =
    sym (gmul_one_l (gpow 2 (n % 255)) (gpow_lt 2 (n % 255)))
    ∙ ap (λ x. gmul x (gpow 2 (n % 255))) (sym (turns (n / 255)))
    ∙ sym (gpow-add 2 (n / 255 * 255) (n % 255))
    ∙ ap (gpow 2) (div-add-mod' n 255)

-- ---- the list of the powers of 02, and the place in it
length-orbit : (n p : ℕ) → length (orbit n p) ≡ n
unfolding orbit
length-orbit zero p = refl
length-orbit (suc n) p = ap suc (length-orbit n (gmul 2 p))

orbit-from : (n i k : ℕ) → k < n → get_or (orbit n (gpow 2 i)) k 0 ≡ gpow 2 (i + k)
unfolding orbit gpow
orbit-from zero i k h = absurd (omega arith)
orbit-from (suc n) i zero h = ap (gpow 2) (sym (add-zero i))
orbit-from (suc n) i (suc k) h = orbit-from n (suc i) k (omega arith) ∙ ap (gpow 2) (suc-add i k ∙ sym (add-suc i k))

-- entry k is the power k
pub get_or-orbit : (n k : ℕ) → k < n → get_or (orbit n 1) k 0 ≡ gpow 2 k
unfolding gpow
get_or-orbit n k h = orbit-from n 0 k h ∙ ap (gpow 2) (zero-add k)

place_lt : (n p i a : ℕ) → 0 < i + n → index_of (orbit n p) i a < i + n
unfolding orbit index_of
place_lt zero p i a h = h
place_lt (suc n) p i a h = go (eqb p a) (place_lt n (gmul 2 p) (suc i) a (omega arith))
  where
    later : ℕ
    later = index_of (orbit n (gmul 2 p)) (suc i) a

    go : (b : Bool) → later < suc i + n → cond b i later < i + suc n
    go true l = omega arith
    go false l = omega arith

pub glog_lt : (a : ℕ) → glog a < 255
unfolding glog
glog_lt a = omega (arith, place_lt 255 1 0 a (lit< tt))

-- what stands in a list of powers at the place of a + 1 is a + 1
found_in : List ℕ → ℕ → ℕ
found_in powers a = get_or powers (index_of powers 0 (suc a)) 0

all_found : List ℕ → Bool
all_found powers = below 255 (λ a. eqb (found_in powers a) (suc a))

all_found_lem : T (all_found (orbit 255 1))
unfolding gmul orbit index_of found_in all_found
all_found_lem = tt

pub gpow-glog : (a : ℕ) → 0 < a → a < 256 → gpow 2 (glog a) ≡ a
unfolding glog found_in all_found
gpow-glog zero p h = absurd (omega arith)
gpow-glog (suc a) p h =
    sym (get_or-orbit 255 (glog (suc a)) (glog_lt (suc a)))
    ∙ equal_below 255 (found_in (orbit 255 1)) suc all_found_lem a (omega arith)

-- the place of the entry k is k
placed_at : List ℕ → ℕ → ℕ → Bool
placed_at powers k x = eqb (index_of powers 0 x) k

all_placed : List ℕ → Bool
all_placed powers = every_at (placed_at powers) 0 powers

all_placed_lem : T (all_placed (orbit 255 1))
unfolding gmul orbit index_of placed_at all_placed
all_placed_lem = tt

pub glog-gpow : (e : ℕ) → e < 255 → glog (gpow 2 e) ≡ e
unfolding glog placed_at all_placed
glog-gpow e h =
    ap glog (sym (get_or-orbit 255 e h))
    ∙ eqb→eq (glog (get_or (orbit 255 1) e 0)) e
    (at 0 (placed_at (orbit 255 1)) (orbit 255 1) all_placed_lem e (rw (length-orbit 255 1) h))

pub glog-zero : glog 0 ≡ 0
unfolding gmul glog orbit index_of
glog-zero = refl

pub glog_one : glog 1 ≡ 0
glog_one = ap glog (sym (gpow-zero 2)) ∙ glog-gpow 0 (lit< tt)

-- exponents of factors add up
pub gmul-glog : (a b : ℕ) → 0 < a → a < 256 → 0 < b → b < 256 → gmul a b ≡ gpow 2 (glog a + glog b)
gmul-glog a b pa ha pb hb = ap₂ gmul (sym (gpow-glog a pa ha)) (sym (gpow-glog b pb hb)) ∙ sym (gpow-add 2 (glog a) (glog b))

-- ---- inverses
pub ginv_lt : (a : ℕ) → ginv a < 256
unfolding ginv
ginv_lt a = gpow_lt a 254

pub ginv-zero : ginv 0 ≡ 0
unfolding ginv
ginv-zero = gpow-suc 0 253 ∙ gmul-zero_l (gpow 0 253)

power_255 : (a : ℕ) → 0 < a → a < 256 → gpow a 255 ≡ 1
power_255 a p h =
    ap (λ x. gpow x 255) (sym (gpow-glog a p h))
    ∙ sym (gpow-mul 2 255 (glog a))
    ∙ ap (gpow 2) (mul_comm 255 (glog a))
    ∙ turns (glog a)

pub gmul-ginv : (a : ℕ) → 0 < a → a < 256 → gmul a (ginv a) ≡ 1
unfolding ginv
gmul-ginv a p h = sym (gpow-suc a 254) ∙ power_255 a p h

-- a factor but 00 cancels
pub gmul_cancel : (a b c : ℕ) → 0 < a → a < 256 → b < 256 → c < 256 → gmul a b ≡ gmul a c → b ≡ c
gmul_cancel a b c p h hb hc e = sym (back b hb) ∙ ap (gmul (ginv a)) e ∙ back c hc
  where
    back : (x : ℕ) → x < 256 → gmul (ginv a) (gmul a x) ≡ x
    back x hx =
        sym (gmul_assoc (ginv a) a x)
        ∙ ap (λ y. gmul y x) (gmul_comm (ginv a) a ∙ gmul-ginv a p h)
        ∙ gmul_one_l x hx

pub ginv_unique : (a b : ℕ) → 0 < a → a < 256 → b < 256 → gmul a b ≡ 1 → b ≡ ginv a
ginv_unique a b p h hb e = gmul_cancel a b (ginv a) p h hb (ginv_lt a) (e ∙ sym (gmul-ginv a p h))

-- the exponent of the inverse is what is left of 255
pub ginv-glog : (a : ℕ) → 0 < a → a < 256 → ginv a ≡ gpow 2 (255 - glog a)
ginv-glog a p h =
    sym (ginv_unique a (gpow 2 (255 - glog a)) p h (gpow_lt 2 (255 - glog a))
    (ap (λ x. gmul x (gpow 2 (255 - glog a))) (sym (gpow-glog a p h))
    ∙ sym (gpow-add 2 (glog a) (255 - glog a))
    ∙ ap (gpow 2) whole
    ∙ gpow-order))
  where
    whole : glog a + (255 - glog a) ≡ 255
    whole = omega (arith, glog_lt a)

-- ---- no zero divisors
pub gmul-zero : (a b : ℕ) → 0 < a → a < 256 → b < 256 → gmul a b ≡ 0 → b ≡ 0
gmul-zero a b p h hb e = gmul_cancel a b 0 p h hb (lit< tt) (e ∙ sym (gmul-zero_r a))

pub gmul_none : (a b : ℕ) → a < 256 → b < 256 → gmul a b ≡ 0 → (a ≡ 0) ⊎ (b ≡ 0)
gmul_none zero b ha hb e = inl refl
gmul_none (suc a) b ha hb e = inr (gmul-zero (suc a) b (omega arith) ha hb e)

pub gmul_pos : (a b : ℕ) → 0 < a → a < 256 → 0 < b → b < 256 → 0 < gmul a b
gmul_pos a b pa ha pb hb = go (gmul a b) refl
  where
    go : (x : ℕ) → gmul a b ≡ x → 0 < x
    go zero e = absurd (omega (arith, gmul-zero a b pa ha hb e))
    go (suc x) e = omega arith

pub gpow_pos : (a n : ℕ) → 0 < a → a < 256 → 0 < gpow a n
gpow_pos a zero p h = rw (gpow-zero a) (lit< tt)
gpow_pos a (suc n) p h = rw (gpow-suc a n) (gmul_pos a (gpow a n) p h (gpow_pos a n p h) (gpow_lt a n))

pub ginv_pos : (a : ℕ) → 0 < a → a < 256 → 0 < ginv a
unfolding ginv
ginv_pos a = gpow_pos a 254
