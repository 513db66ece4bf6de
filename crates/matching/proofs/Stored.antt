-- What is answered of a matching holds its pairs (`pairs-stored`). Of a list of pairs backwards: it grows at the front (`reverse-more`), and what
-- each of its pairs passes, what stands at an index of the list passes (`each_reverse`).
use mathlib.Core.Path.{◌≡◌, refl, sym, ap, subst, ◌∙◌}
use mathlib.Core.List.{List, [], ◌∷◌}
use Prim.Native.Nat.{ℕ, zero, suc, ◌+◌, ◌-◌, ◌≤◌, ◌<◌}
use native.Mathlib.Omega.{arith}
use native.Mathlib.Numerals.{add-one}
use lib.ListN.{length, get_or, take, length-set}
use Rattle.std.specs.Prelude.{reverse}
use Rattle.std.proofs.lemmas.List.{reverse-append, reverse-reverse, length-reverse, get_or-reverse}
use Rattle.std.proofs.Math.Seq.{take-suc, take-suc-set}
use Rattle.graph.specs.Pairs.{Pair}
use Rattle.matching.specs.Matching.{Each}
use Rattle.matching.specs.Answer.{slots, stored, pairs_of}

length-slots : (M : List Pair) → length (slots M) ≡ 8
unfolding slots
length-slots [] = refl
length-slots (p ∷ M) = length-set (slots M) (length M) p ∙ length-slots M

slots-pairs : (M : List Pair) → length M ≤ 8 → reverse (take (length M) (slots M)) ≡ M
unfolding slots
slots-pairs [] h = refl
slots-pairs (p ∷ M) h =
    ap reverse (take-suc-set (slots M) (length M) p (omega (arith, length-slots M)))
    ∙ reverse-append (take (length M) (slots M)) (p ∷ [])
    ∙ ap (λ (l : List Pair). p ∷ l) (slots-pairs M (omega arith))

pub pairs-stored : (M : List Pair) → length M ≤ 8 → pairs_of (stored M) ≡ M
unfolding stored
pairs-stored M h = slots-pairs M h

pub reverse-more : (ps : List Pair) (k : ℕ) → k < length ps → reverse (take (k + 1) ps) ≡ get_or ps k (0, 0) ∷ reverse (take k ps)
reverse-more ps k h =
    ap (λ (i : ℕ). reverse (take i ps)) (add-one k) ∙ ap reverse (take-suc ps k (0, 0) h) ∙ reverse-append (take k ps) (get_or ps k (0, 0) ∷ [])

each_at : (P : Pair → Type 0) (M : List Pair) (i : ℕ) → Each P M → i < length M → P (get_or M i (0, 0))
each_at P [] i h l = absurd (omega arith)
each_at P (p ∷ M) zero h l = h.0
each_at P (p ∷ M) (suc i) h l = each_at P M i h.1 (omega arith)

pub each_reverse : (P : Pair → Type 0) (ps : List Pair) (k : ℕ) → Each P (reverse ps) → k < length ps → P (get_or ps k (0, 0))
each_reverse P ps k h l =
    let same : length (reverse ps) ≡ length ps = length-reverse ps in
    let less : k < length (reverse ps) = omega arith in
    let e : get_or ps k (0, 0) ≡ get_or (reverse ps) (length (reverse ps) - 1 - k) (0, 0) =
    ap (λ (xs : List Pair). get_or xs k (0, 0)) (sym (reverse-reverse ps)) ∙ get_or-reverse (reverse ps) k (0, 0) less in
    subst P (sym e) (each_at P (reverse ps) (length (reverse ps) - 1 - k) h (omega arith))
