-- Laws of the graph as missing pairs: the bits made from a graph say that graph below n (`adjacent_of`); in any bits everyone is its own
-- neighbour, neighbours are so both ways, and of the bits only those of pairs below n count (`adjacent_same`). Then the digits that the
-- code reads, and the missing pairs of indices past 15.
use mathlib.Core.Path.{◌≡◌, refl, sym, ap, ap₂, subst, ◌∙◌}
use mathlib.Core.Logic.{⊎_elim}
use mathlib.Core.List.{List}
use mathlib.Core.Bool.{Bool, true, false, not, ◌&&◌, ◌||◌}
use Prim.Native.Nat.{ℕ, ◌+◌, ◌*◌, ◌/◌, ◌%◌, ◌^◌, ◌≤◌, ◌<◌, min, max}
use native.Mathlib.Omega.{arith}
use borrow.Author.Tests.{eq-eqb, ne_eqb, lt-ltb, le-ltb}
use lib.Dec.{eqb, ltb}
use lib.ListN.{length, get_or}
use Rattle.lists.specs.Sum.{ind}
use Rattle.lists.proofs.Tests.{not-not, and_no_left, and_no_right, and_tail, or_left, or_right, or_tail, eqb_comm, lt_or_le}
use Rattle.lists.proofs.Fills.{length-tabulate, get_or-tabulate}
use Rattle.bitset.specs.Set.{member, set_of}
use Rattle.bitset.proofs.Laws.{member-set, set_past, set_empty, digit_member}
use Rattle.graph.specs.Neighbour.{missing}
use Rattle.graph.specs.Pairs.{place}
use Rattle.graph.specs.Bits.{bit, missing_at, bits_of, adjacent}
use Rattle.graph.proofs.Order.{pair_place}

-- ---- the bits made from a graph
pub length_bits : (n : ℕ) (adj : ℕ → ℕ → Bool) → length (bits_of n adj) ≡ 15
unfolding bits_of
length_bits n adj = length-tabulate (λ b. set_of 8 (λ k. missing_at n adj (8 * b + k))) 15

pub bit_of : (n : ℕ) (adj : ℕ → ℕ → Bool) (p : ℕ) → p < 120 → bit (bits_of n adj) p ≡ missing_at n adj p
unfolding bit bits_of
bit_of n adj p l =
    let b : p / 8 < 15 = omega arith in
    let e : 8 * (p / 8) + p % 8 ≡ p = omega arith in
    ap (λ (x : ℕ). member x (p % 8)) (get_or-tabulate (λ b. set_of 8 (λ k. missing_at n adj (8 * b + k))) 15 (p / 8) 0 b)
    ∙ member-set 8 (λ k. missing_at n adj (8 * (p / 8) + k)) (p % 8) (omega arith)
    ∙ ap (missing_at n adj) e

-- by the indices of the pair
pub missing-place : (n : ℕ) (adj : ℕ → ℕ → Bool) (i j : ℕ) → i < j → j < 16 → missing_at n adj (place i j) ≡ (ltb j n && not (adj i j))
unfolding missing_at
missing-place n adj i j l m = let r = pair_place i j l m in ap₂ (λ (a b : ℕ). ltb b n && not (adj a b)) r.1 r.2

-- ---- neighbours by any bits
module _ (bits : List ℕ) where
  pub adjacent_self : (i j : ℕ) → i ≡ j → adjacent bits i j ≡ true
  unfolding adjacent
  adjacent_self i j e = or_left (eqb i j) _ (eq-eqb i j e)

  pub adjacent_sym : (i j : ℕ) → adjacent bits i j ≡ adjacent bits j i
  unfolding adjacent
  adjacent_sym i j =
      let small : min i j ≡ min j i = omega arith in
      let large : max i j ≡ max j i = omega arith in
      ap₂ (λ (x y : Bool). x || not y) (eqb_comm i j) (ap₂ (λ (a b : ℕ). ltb b 16 && bit bits (place a b)) small large)

  pub adjacent_less : (i j : ℕ) → i < j → j < 16 → adjacent bits i j ≡ not (bit bits (place i j))
  unfolding adjacent
  adjacent_less i j l m =
      let small : min i j ≡ i = omega arith in
      let large : max i j ≡ j = omega arith in
      or_tail (eqb i j) _ (ne_eqb i j (λ e. omega arith))
      ∙ ap₂ (λ (a b : ℕ). not (ltb b 16 && bit bits (place a b))) small large ∙ ap not (and_tail (ltb j 16) (bit bits (place i j)) (lt-ltb j 16 m))

  -- an index past 15 is in no pair
  pub adjacent_past : (i j : ℕ) → 16 ≤ max i j → adjacent bits i j ≡ true
  unfolding adjacent
  adjacent_past i j l = or_right (eqb i j) _ (ap not (and_no_left (ltb (max i j) 16) _ (le-ltb (max i j) 16 l)))

  pub missing_16 : (n i : ℕ) → missing n (adjacent bits) i ≡ missing (min n 16) (adjacent bits) i
  unfolding missing
  missing_16 n i =
      ⊎_elim
      (λ (l : n < 16). let e : min n 16 ≡ n = omega arith in ap (λ (m : ℕ). missing m (adjacent bits) i) (sym e))
      (λ (l : 16 ≤ n). let e : min n 16 ≡ 16 = omega arith in past l ∙ ap (λ (m : ℕ). missing m (adjacent bits) i) (sym e))
      (lt_or_le n 16)
    where
      none : (m j : ℕ) → 16 ≤ max i j → (ltb i m && not (adjacent bits i j)) ≡ false
      none m j l = and_no_right (ltb i m) _ (ap not (adjacent_past i j l))

      empty : (m : ℕ) → 16 ≤ i → set_of 16 (λ j. ltb i m && not (adjacent bits i j)) ≡ 0
      empty m s = set_empty 16 _ (λ j. none m j (omega arith))

      past : 16 ≤ n → missing n (adjacent bits) i ≡ missing 16 (adjacent bits) i
      past l =
          set_past 16 n (λ j. ltb i n && not (adjacent bits i j)) l (λ j u. none n j (omega arith))
          ∙ ⊎_elim
          (λ (s : i < 16). ap (λ (b : Bool). set_of 16 (λ j. b && not (adjacent bits i j))) (lt-ltb i n (omega arith) ∙ sym (lt-ltb i 16 s)))
          (λ (s : 16 ≤ i). empty n s ∙ sym (empty 16 s))
          (lt_or_le i 16)

  -- ---- the digits that the code reads
  pub digit_pair : (i j : ℕ) → (i ≡ j → ⊥) → max i j < 16 → ind (bit bits (place (min i j) (max i j))) ≡ ind (not (adjacent bits i j))
  unfolding adjacent
  digit_pair i j ne l = rw (ne_eqb i j ne, lt-ltb (max i j) 16 l, not-not) refl

  pub digit_same : (i j : ℕ) → i ≡ j → 0 ≡ ind (not (adjacent bits i j))
  digit_same i j e = sym (ap (λ (b : Bool). ind (not b)) (adjacent_self i j e))

  pub digit_is : (p x : ℕ) → x ≡ get_or bits (p / 8) 0 → x / 2 ^ (p % 8) % 2 ≡ ind (bit bits p)
  unfolding bit
  digit_is p x e = digit_member x (p % 8) ∙ ap (λ (y : ℕ). ind (member y (p % 8))) e

-- ---- below n
-- only the bits of pairs below n count
pub adjacent_same : (n : ℕ) (a b : List ℕ) → n ≤ 16 → ((i j : ℕ) → i < j → j < n → bit a (place i j) ≡ bit b (place i j))
    → (i j : ℕ) → i < n → j < n → adjacent a i j ≡ adjacent b i j
adjacent_same n a b most same i j li lj =
    ⊎_elim (λ (l : i < j). rising i j l lj)
    (λ (l : j ≤ i). ⊎_elim (λ (m : j < i). adjacent_sym a i j ∙ rising j i m li ∙ adjacent_sym b j i)
    (λ (m : i ≤ j). adjacent_self a i j (omega arith) ∙ sym (adjacent_self b i j (omega arith))) (lt_or_le j i))
    (lt_or_le i j)
  where
    rising : (i j : ℕ) → i < j → j < n → adjacent a i j ≡ adjacent b i j
    rising i j l m = adjacent_less a i j l (omega arith) ∙ ap not (same i j l m) ∙ sym (adjacent_less b i j l (omega arith))

-- the bits made from a graph say that graph below n
module _ (n : ℕ) (adj : ℕ → ℕ → Bool) (own : (i : ℕ) → adj i i ≡ true) (turn : (i j : ℕ) → adj i j ≡ adj j i) (most : n ≤ 16) where
  adjacent-rising : (i j : ℕ) → i < j → j < n → adjacent (bits_of n adj) i j ≡ adj i j
  adjacent-rising i j l m =
      let s : j < 16 = omega arith in
      adjacent_less (bits_of n adj) i j l s
      ∙ ap not (bit_of n adj (place i j) (pair_place i j l s).0 ∙ missing-place n adj i j l s ∙ and_tail (ltb j n) (not (adj i j)) (lt-ltb j n m))
      ∙ not-not (adj i j)

  pub adjacent_of : (i j : ℕ) → i < n → j < n → adjacent (bits_of n adj) i j ≡ adj i j
  adjacent_of i j li lj =
      ⊎_elim (λ (l : i < j). adjacent-rising i j l lj)
      (λ (l : j ≤ i). ⊎_elim (λ (m : j < i). adjacent_sym (bits_of n adj) i j ∙ adjacent-rising j i m li ∙ turn j i)
      (λ (m : i ≤ j). let e : i ≡ j = omega arith in adjacent_self (bits_of n adj) i j e ∙ sym (subst (λ (x : ℕ). adj i x ≡ true) e (own i))) (lt_or_le j i))
      (lt_or_le i j)
