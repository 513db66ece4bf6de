-- The loop that makes the 120 bits from a graph: none are made at the start, one more with each pair (`bits_more`), all at the end.
use mathlib.Core.Path.{◌≡◌, refl, sym, ap, ap₂, subst, ◌∙◌}
use mathlib.Core.Logic.{◌⊎◌, ⊎_elim}
use mathlib.Core.List.{List}
use mathlib.Core.Bool.{Bool, true, false, ◌&&◌, ◌||◌}
use Prim.Native.Nat.{ℕ, ◌+◌, ◌*◌, ◌/◌, ◌%◌, ◌≤◌, ◌<◌}
use native.Mathlib.Omega.{arith}
use borrow.Author.Tests.{eq-eqb, ne_eqb, lt-ltb, le-ltb}
use lib.Dec.{eqb, ltb}
use lib.ListN.{length, get_or, set, replicate, length-set}
use lib.Seq.{get_or-set_same, get_or-set_other, ext_get_or}
use Rattle.lists.specs.Fill.{tabulate}
use Rattle.lists.proofs.Tests.{and_no_left, and_no_right, and_tail, and_true, or_none, lt_or_le, same_or_not}
use Rattle.lists.proofs.Fills.{length-tabulate, get_or-tabulate, tabulate_ext, tabulate_const}
use Rattle.bitset.specs.Set.{member, set_of, inserted}
use Rattle.bitset.proofs.Laws.{member-set, set_ext, set_empty, member_insert, set_members, set_of_members}
use Rattle.graph.specs.Bits.{missing_at, bits_of}

module _ (n : ℕ) (adj : ℕ → ℕ → Bool) where
  -- the bit at place q is made, and set, where the places below e are made
  abbrev made : ℕ → ℕ → Bool
  made e q = ltb q e && missing_at n adj q

  byte : ℕ → ℕ → ℕ
  byte e b = set_of 8 (λ k. made e (8 * b + k))

  -- the bits of the places below e, the others 0
  pub bits_to : ℕ → List ℕ
  bits_to e = tabulate (byte e) 15

  pub bits_start : replicate 15 0 ≡ bits_to 0
  unfolding bits_to byte
  bits_start =
      sym (tabulate_ext (byte 0) (λ _. 0) 15
      (λ b l. set_empty 8 (λ k. made 0 (8 * b + k)) (λ k. and_no_left (ltb (8 * b + k) 0) _ (le-ltb (8 * b + k) 0 (omega arith))))
      ∙ tabulate_const 0 15)

  pub bits_all : bits_to 120 ≡ bits_of n adj
  unfolding bits_to byte bits_of
  bits_all =
      tabulate_ext (byte 120) (λ b. set_of 8 (λ k. missing_at n adj (8 * b + k))) 15
      (λ b l. set_ext 8 (λ k. made 120 (8 * b + k)) (λ k. missing_at n adj (8 * b + k))
      (λ k m. and_tail (ltb (8 * b + k) 120) _ (lt-ltb (8 * b + k) 120 (omega arith))))

  -- the other places stay
  made_other : (p q : ℕ) → (q ≡ p → ⊥) → made p q ≡ made (p + 1) q
  made_other p q ne =
      ap (λ (x : Bool). x && missing_at n adj q)
      (⊎_elim (λ (l : q < p). lt-ltb q p l ∙ sym (lt-ltb q (p + 1) (omega arith)))
      (λ (l : p ≤ q). le-ltb q p l ∙ sym (le-ltb q (p + 1) (⊎_elim (λ (e : q ≡ p). absurd (ne e)) (λ _. omega arith) (same_or_not q p)))) (lt_or_le q p))

  -- one place more: the byte that holds it gets its bit
  pub bits_more : (bits : List ℕ) (p v : ℕ) (y : Bool) → p < 120 → bits ≡ bits_to p → y ≡ missing_at n adj p
      → v ≡ set_of 8 (λ k. member (get_or bits (p / 8) 0) k || (y && eqb k (p % 8))) → set bits (p / 8) v ≡ bits_to (p + 1)
  unfolding bits_to byte
  bits_more bits p v y l eb ey ev =
      ext_get_or 0 (set bits (p / 8) v) (bits_to (p + 1)) (length-set bits (p / 8) v ∙ len ∙ sym (length-tabulate (byte (p + 1)) 15))
      (λ b u. go b (subst (λ (x : ℕ). b < x) (length-set bits (p / 8) v ∙ len) u) (same_or_not b (p / 8)))
    where
      len : length bits ≡ 15
      len = ap length eb ∙ length-tabulate (byte p) 15

      old : (b : ℕ) → b < 15 → get_or bits b 0 ≡ byte p b
      old b u = ap (λ (x : List ℕ). get_or x b 0) eb ∙ get_or-tabulate (byte p) 15 b 0 u

      new : (b : ℕ) → b < 15 → get_or (bits_to (p + 1)) b 0 ≡ byte (p + 1) b
      new b u = get_or-tabulate (byte (p + 1)) 15 b 0 u

      here : p / 8 < 15
      here = omega arith

      -- the bits of that byte
      digit : (k : ℕ) → k < 8 → (member (get_or bits (p / 8) 0) k || (y && eqb k (p % 8))) ≡ made (p + 1) (8 * (p / 8) + k)
      digit k m =
          let was : member (get_or bits (p / 8) 0) k ≡ made p (8 * (p / 8) + k) =
          ap (λ (x : ℕ). member x k) (old (p / 8) here) ∙ member-set 8 (λ k. made p (8 * (p / 8) + k)) k m in
          ⊎_elim
          (λ (e : k ≡ p % 8).
          let q : 8 * (p / 8) + k ≡ p = omega arith in
          ap₂ (λ (a b : Bool). a || (y && b)) (was ∙ and_no_left (ltb (8 * (p / 8) + k) p) _ (le-ltb (8 * (p / 8) + k) p (omega arith))) (eq-eqb k (p % 8) e)
          ∙ and_true y
          ∙ ey ∙ sym (ap (made (p + 1)) q ∙ and_tail (ltb p (p + 1)) (missing_at n adj p) (lt-ltb p (p + 1) (omega arith))))
          (λ (ne : k ≡ p % 8 → ⊥).
          ap₂ (λ (a b : Bool). a || (y && b)) was (ne_eqb k (p % 8) ne) ∙ ap (λ (z : Bool). made p (8 * (p / 8) + k) || z) (and_no_right y false refl)
          ∙ or_none (made p (8 * (p / 8) + k))
          ∙ made_other p (8 * (p / 8) + k) (λ e. ne (omega arith)))
          (same_or_not k (p % 8))

      go : (b : ℕ) → b < 15 → (b ≡ p / 8) ⊎ (b ≡ p / 8 → ⊥) → get_or (set bits (p / 8) v) b 0 ≡ get_or (bits_to (p + 1)) b 0
      go b u s =
          ⊎_elim
          (λ (e : b ≡ p / 8).
          subst (λ (x : ℕ). get_or (set bits (p / 8) v) x 0 ≡ get_or (bits_to (p + 1)) x 0) (sym e)
          (get_or-set_same bits (p / 8) v 0 (subst (λ (x : ℕ). p / 8 < x) (sym len) here) ∙ ev
          ∙ set_ext 8 _ (λ k. made (p + 1) (8 * (p / 8) + k)) digit ∙ sym (new (p / 8) here)))
          (λ (ne : b ≡ p / 8 → ⊥).
          get_or-set_other bits (p / 8) b v 0 ne ∙ old b u
          ∙ set_ext 8 (λ k. made p (8 * b + k)) (λ k. made (p + 1) (8 * b + k)) (λ k m. made_other p (8 * b + k) (λ e. ne (omega arith))) ∙ sym (new b u))
          s

-- a byte with one bit more, and as it was
pub byte_with : (s k x : ℕ) → x ≡ inserted s k → x % 256 ≡ set_of 8 (λ i. member s i || (true && eqb i k))
byte_with s k x e =
    sym (set_members 8 x)
    ∙ set_ext 8 (member x) (λ i. member s i || (true && eqb i k)) (λ i l. ap (λ (y : ℕ). member y i) e ∙ member_insert s k i (omega arith))

pub byte_same : (s k : ℕ) → s < 256 → s ≡ set_of 8 (λ i. member s i || (false && eqb i k))
byte_same s k l = sym (set_ext 8 (λ i. member s i || (false && eqb i k)) (member s) (λ i m. or_none (member s i)) ∙ set_of_members 8 s l)
