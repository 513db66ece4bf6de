-- The block that meets decoding's rule as a function, for definitions that need one: the first of all blocks, in dictionary order, that meets
-- it. Within the settings it is the only one (`DecodesUnique`), so the order says nothing. The definition is never computed.
--   first_below m f                       the first of f 0, .., f (m - 1) that is not none
--   first_bytes len p                     the first list of len bytes that passes the test p; none where none does
--   is_right_stripe n t layout slots s m  the rule as a test: m are the right bytes of stripe s
--   meets n t layout slots B              each stripe of B is right
--   DecodesMeets                          what meets the rule passes the test (law `decodes-meets`)
--   MeetsDecodes                          a block that passes the test meets the rule (law `meets-decodes`)
--   rebuilt n t layout slots              the block that meets the rule; none where none does
--   RebuiltDecodes                        it does meet the rule (law `rebuilt-decodes`)
--   RebuiltBlock                          it is every block that meets the rule, where 1 .. n are different elements of the field (law `rebuilt-block`)
--   RebuiltNone                           it is none where no block meets the rule (law `rebuilt_none`)
use Rattle.std.specs.Prelude.{◌≡◌, Bool, true, cond, List, [], ◌∷◌, ℕ, zero, suc, ◌+◌, ◌*◌, ◌<◌, eqb, leb, length}
use Rattle.std.proofs.Math.Option.{Option, none, some}
use Rattle.lists.specs.Options.{or_else, front}
use Rattle.lists.specs.Sum.{count}
use Rattle.wire.specs.declared.slot.Layout.{Layout}
use Rattle.wire.specs.Length.{block_length}
use Rattle.polynomial.specs.Polynomial.{Bytes}
use Rattle.reed_solomon.specs.Encode.{stripe}
use Rattle.reed_solomon.specs.Decode.{present_count, differing, Decodes}

unfoldable pub first_below : ℕ → (ℕ → Option (List ℕ)) → Option (List ℕ)
first_below zero f = none
first_below (suc m) f = or_else (first_below m f) (f m)

unfoldable pub first_bytes : ℕ → (List ℕ → Bool) → Option (List ℕ)
first_bytes zero p = cond (p []) (some []) none
first_bytes (suc len) p = first_below 256 (λ x. front x (first_bytes len (λ l. p (x ∷ l))))

abbrev pub is_right_stripe : (n t : ℕ) → Layout → List ℕ → ℕ → List ℕ → Bool
is_right_stripe n t layout slots s m = leb (2 * differing n layout slots s m + t + 1) (present_count n layout slots)

unfoldable pub meets : (n t : ℕ) → Layout → List ℕ → List ℕ → Bool
meets n t layout slots B = eqb (count layout.length (λ s. is_right_stripe n t layout slots s (stripe t B s))) layout.length

abbrev pub DecodesMeets : Type 0
DecodesMeets = (n t : ℕ) (layout : Layout) (slots B : List ℕ) → Decodes n t layout slots B → meets n t layout slots B ≡ true

abbrev pub MeetsDecodes : Type 0
MeetsDecodes =
    (n t : ℕ) (layout : Layout) (slots B : List ℕ) → length B ≡ block_length layout.length t → Bytes B
    → meets n t layout slots B ≡ true → Decodes n t layout slots B

unfoldable pub rebuilt : (n t : ℕ) → Layout → List ℕ → Option (List ℕ)
rebuilt n t layout slots = first_bytes (block_length layout.length t) (meets n t layout slots)

abbrev pub RebuiltDecodes : Type 0
RebuiltDecodes = (n t : ℕ) (layout : Layout) (slots B : List ℕ) → rebuilt n t layout slots ≡ some B → Decodes n t layout slots B

abbrev pub RebuiltBlock : Type 0
RebuiltBlock = (n t : ℕ) (layout : Layout) (slots : List ℕ) → n < 256 → (B : List ℕ) → Decodes n t layout slots B → rebuilt n t layout slots ≡ some B

abbrev pub RebuiltNone : Type 0
RebuiltNone = (n t : ℕ) (layout : Layout) (slots : List ℕ) → ((B : List ℕ) → Decodes n t layout slots B → ⊥) → rebuilt n t layout slots ≡ none
