-- `check` meets its contract: the counts are those of the first k of 128 bytes, and the stripes before the first wrong one are right by them.
use mathlib.Core.Path.{◌≡◌, ap, subst, ◌∙◌}
use mathlib.Core.List.{List, ◌++◌}
use Prim.Native.Nat.{ℕ, ◌+◌, ◌*◌, ◌≤◌, ◌<◌}
use native.Mathlib.Omega.{arith}
use lib.ListN.{length, get_or, take, drop, replicate}
use lib.Seq.{take_at, length-take-le}
use borrow.Author.Rules.{rules}
use Rattle.wire.specs.declared.slot.Layout.{Layout}
use Rattle.lists.proofs.Fills.{length-tabulate, get_or-tabulate}
use Rattle.lists.proofs.Zeros.{take-zeros}
use Rattle.reed_solomon.specs.Encode.{stripe}
use Rattle.reed_solomon.specs.Decode.{differing}
use Rattle.reed_solomon.specs.Steps.{Compared, RightUpTo}
use Rattle.reed_solomon.proofs.Mending.{right_map}
use Rattle.reed_solomon.proofs.Stripes.{block-most}
use Rattle.reed_solomon.proofs.comparison.check.Goals as goal

-- the front of the counts, lent and come back
module _ (n t : ℕ) (layout : Layout) (slots block : List ℕ) (named : ℕ) (counts rest : List ℕ) (h : Compared n t layout slots block named counts) where
  size : length counts ≡ layout.length
  size = ap length h.counts_are ∙ length-tabulate (λ s. differing n layout slots s (stripe t block s)) layout.length

  front : take layout.length (counts ++ rest) ≡ counts
  front = take_at counts rest layout.length size

  front_size : length (take layout.length (counts ++ rest)) ≡ layout.length
  front_size = ap length front ∙ size

  at : (i : ℕ) → i < layout.length → get_or (take layout.length (counts ++ rest)) i 0 ≡ differing n layout slots i (stripe t block i)
  at i l =
      ap (λ (x : List ℕ). get_or x i 0) (front ∙ h.counts_are) ∙ get_or-tabulate (λ s. differing n layout slots s (stripe t block s)) layout.length i 0 l

pub compare-named-requires : goal.compare-named-requires
compare-named-requires c =
    let a = c.args in
    let p = a.pieces.now in
    let few = p.lent.coded.k_most in
    let most = block-most p.layout.length p.t few p.lent.pointed.few-faulty in
    let long : length a.cols.now ≡ 768 = search rules in
    let long' : length a.piece.now ≡ 128 = search rules in (
      c.requires.1,
      length-take-le (length a.block.now) a.cols.now (omega (arith, c.requires.1, long, most)) ∙ c.requires.1,
      length-take-le p.layout.length a.piece.now (omega (arith, long', few)),
      take-zeros 128 p.layout.length few,
    )

pub returns : goal.returns
returns c =
    let a = c.args in
    let p = a.pieces.now in
    let k = p.layout.length in
    let r = c.compare-named in
    let present = length p.points.now in
    let rest : List ℕ = drop k (replicate 128 0) in
    let counts : List ℕ = take k (r.new.counts ++ rest) in
    let by_count : ℕ → Type 0 = λ i. 2 * get_or counts i 0 + p.t + 1 ≤ present in
    record {
      named_are = r.ensures.named_are;
      right =
          right_map by_count (λ i. 2 * differing p.n p.layout p.slots.now i (stripe p.t a.block.now i) + p.t + 1 ≤ present) k a.from c.first_wrong-wrong.result
          (λ i l. subst (λ (m : ℕ). 2 * m + p.t + 1 ≤ present) (at p.n p.t p.layout p.slots.now a.block.now r.result r.new.counts rest r.ensures i l))
          (subst (λ m. RightUpTo by_count m a.from c.first_wrong-wrong.result)
          (front_size p.n p.t p.layout p.slots.now a.block.now r.result r.new.counts rest r.ensures) c.first_wrong-wrong.ensures);
    }
