-- From a guessed block to the one that meets the rule. The main laws: `mended` (after a stripe was decoded, all to the next wrong one are right) and
-- `all_right` (where none is wrong, the block meets the rule).
use Rattle.std.proofs.Common.{◌≡◌, ℕ, ◌+◌, ◌-◌, ◌*◌, ◌≤◌, ◌<◌, List, length, Option, Some, None, true, sym, ap, subst, ◌∙◌, arith}
use mathlib.Core.Logic.{⊎_elim}
use Rattle.wire.specs.declared.slot.Layout.{Layout}
use Rattle.lists.proofs.Tests.{lt_or_le}
use Rattle.wire.proofs.Laws.{block_length_is}
use Rattle.polynomial.specs.Polynomial.{Bytes}
use Rattle.reed_solomon.specs.Encode.{stripe}
use Rattle.reed_solomon.specs.Decode.{present_count, differing, Decodes, named_of}
use Rattle.reed_solomon.specs.Steps.{column, is_right, NoneRight, RightUpTo, Checked, Lent, Mended}
use Rattle.reed_solomon.proofs.Stripes.{length-points, stripe_front}
use Rattle.reed_solomon.proofs.Rule.{right_rule, none_beyond}

-- ---- right up to a wrong one
-- how many are left from the wrong one on
abbrev pub left : ℕ → Option ℕ → ℕ
left k None = 0
left k (Some s) = k - s

pub right_map : (p q : ℕ → Type 0) (k from : ℕ) (wrong : Option ℕ) → ((i : ℕ) → i < k → p i → q i) → RightUpTo p k from wrong → RightUpTo q k from wrong
right_map p q k from None f r = λ i a b. f i b (r i a b)
right_map p q k from (Some s) f r = (r.0, r.1, λ i a b. f i (omega (arith, r.1)) (r.2 i a b))

module _ (right : ℕ → Type 0) (k s : ℕ) where
  -- those before s, s itself and those behind it
  all_three : (end : ℕ) → ((i : ℕ) → i < s → right i) → right s → ((i : ℕ) → s + 1 ≤ i → i < end → right i) → (i : ℕ) → i < end → right i
  all_three end before at behind i g =
      ⊎_elim
      (λ (u : i < s). before i u)
      (λ (u : s ≤ i).
      ⊎_elim
      (λ (v : s < i). behind i (omega arith) g)
      (λ (v : i ≤ s). let e : s ≡ i = omega arith in subst right e at)
      (lt_or_le s i))
      (lt_or_le i s)

  pub right_past : (next : Option ℕ) → ((i : ℕ) → i < s → right i) → right s → RightUpTo right k (s + 1) next → RightUpTo right k 0 next
  right_past None before at r = λ i _ g. all_three k before at r i g
  right_past (Some e) before at r = (omega arith, r.1, λ i _ g. all_three e before at r.2 i g)

module _ (n t : ℕ) (layout : Layout) (slots xs : List ℕ) (l : Lent n t layout slots xs) where
  -- as many points as present slots
  present : length xs ≡ present_count n layout slots
  present = ap length l.are ∙ length-points n layout slots

  -- bytes of a stripe that are right at the points
  right_at : (s : ℕ) (m : List ℕ) → is_right t xs (column layout slots s xs) m ≡ true → 2 * differing n layout slots s m + t + 1 ≤ length xs
  right_at s m e =
      let r = right_rule n t layout slots s m (subst (λ (ys : List ℕ). is_right t ys (column layout slots s ys) m ≡ true) l.are e) in omega (arith, r, present)

  pub none_at : (s : ℕ) → s < layout.length → NoneRight t xs (column layout slots s xs) → (B : List ℕ) → Decodes n t layout slots B → ⊥
  none_at s h e = none_beyond n t layout slots s h (subst (λ (ys : List ℕ). NoneRight t ys (column layout slots s ys)) l.are e)

  pub mended : (before after : List ℕ) (s old named : ℕ) (next : Option ℕ) → Checked n t layout slots (length xs) before 0 old (Some s)
      → Mended t layout slots xs s (Some s) before after → Checked n t layout slots (length xs) after (s + 1) named next
      → Checked n t layout slots (length xs) after 0 named next
  mended before after s old named next b m c = record {
    named_are = c.named_are;
    right =
        right_past (λ i. 2 * differing n layout slots i (stripe t after i) + t + 1 ≤ length xs) layout.length s next
        (λ i u.
        subst (λ (x : List ℕ). 2 * differing n layout slots i x + t + 1 ≤ length xs) (sym (stripe_front t after before s m.1 i u))
        (b.right.2 i (omega arith) u))
        (right_at s (stripe t after s) m.0) c.right;
  }

  pub all_right : (block : List ℕ) (named : ℕ) → Checked n t layout slots (length xs) block 0 named None → length block ≡ layout.length * (t + 1)
      → Bytes block → Decodes n t layout slots block × (named ≡ named_of n t layout slots block)
  all_right block named c size bytes = (
    record { size = size ∙ sym (block_length_is layout.length t); bytes = bytes; right = λ i g. omega (arith, c.right i (omega arith) g, present) },
    c.named_are,
  )
