-- The decoding rule. The main laws: `decodes_unique` (at most one block meets it), `answers_unique` (so there is one answer), `right_rule` and
-- `none_beyond` (what the code finds of a stripe is what the rule asks), `rebuilt-block` and `rebuilt_none` (the function `rebuilt`).
use mathlib.Core.Path.{◌≡◌, refl, sym, ap, ap₂, subst, ◌∙◌}
use mathlib.Core.Bool.{Bool, true, false, not, ◌&&◌}
use mathlib.Core.List.{List}
use mathlib.Core.Option.{Option, none, some}
use mathlib.Core.Logic.{◌⊎◌, inl, inr, ⊎_elim}
use Prim.Native.Nat.{ℕ, ◌+◌, ◌*◌, ◌≤◌, ◌<◌}
use native.Mathlib.Omega.{arith}
use borrow.Author.Tests.{eq-eqb, ne_eqb, eqb-true, le-leb, leb-true}
use lib.Dec.{eqb, leb, lit<}
use lib.ListN.{length, get_or}
use Rattle.std.specs.Prelude.{Result, is_ok}
use Rattle.wire.specs.declared.slot.Layout.{Layout}
use Rattle.lists.specs.Sum.{count}
use Rattle.lists.specs.Select.{Rising}
use Rattle.lists.specs.Same.{same}
use Rattle.bitset.specs.Set.{set_of}
use Rattle.lists.proofs.Sums.{count_le, count_all, count_full, count_mono, count_split}
use Rattle.lists.proofs.Fills.{length-tabulate, get_or-tabulate}
use Rattle.lists.proofs.Tests.{true≢false, fails, and_both, cond_yes, cond_no, lt_or_le}
use Rattle.settings.specs.Refusal.{encoding_refusal, decoding_refusal}
use Rattle.settings.specs.Valid.{Coded, Numbered}
use Rattle.settings.specs.declared.Refusal.{Refusal}
use Rattle.settings.specs.Number.{number_of}
use Rattle.settings.proofs.Laws.{encoding_0, 0_encoding, decoding_0, 0_decoding, ok_0}
use Rattle.wire.specs.Length.{block_length}
use Rattle.wire.specs.Slot.{width, message_of, SameMessages}
use Rattle.wire.proofs.Laws.{block_length_is}
use Rattle.polynomial.specs.Polynomial.{evaluate, Bytes}
use Rattle.polynomial.proofs.Laws.{evaluate_lt, equal_of_values, past_end}
use Rattle.interpolation.specs.Interpolation.{candidate}
use Rattle.interpolation.proofs.Laws.{recovers}
use Rattle.reed_solomon.specs.Encode.{stripe, piece_of, encode_fits, encode_refusal, Encoded, encoded, encode_of, Coding}
use Rattle.reed_solomon.specs.Decode.{has_piece, received, present_count, differing, Decodes, decode_fits, decode_refusal, DecodesUnique, Block, Beyond, Refused}
use Rattle.reed_solomon.specs.Decode.{is_named, named_of, AnswersUnique, PiecesDecode, FewBeyond}
use Rattle.reed_solomon.specs.First.{first_bytes, is_right_stripe, meets, DecodesMeets, MeetsDecodes, rebuilt, RebuiltDecodes, RebuiltBlock, RebuiltNone}
use Rattle.reed_solomon.specs.Steps.{points, column, differences, is_right, NoneRight, Pointed}
use Rattle.reed_solomon.proofs.Sizes.{both_true, true_both}
use Rattle.reed_solomon.proofs.First.{Right, first_right}
use Rattle.reed_solomon.proofs.Stripes.{length-points, differing-points, agreements-differences, rising-points, units_rising, points-rising}
use Rattle.reed_solomon.proofs.Stripes.{different-numbers, length-stripe, bytes-stripe, block-joined}
use Rattle.lists.specs.Join.{joined}
use Rattle.lists.proofs.Joins.{joined_ext}

-- ---- bytes that are right at a list of points
-- bytes that are right are the candidate, however they were found
right_candidate : (n t : ℕ) (xs ys m : List ℕ) → n < 256 → Rising n xs → Bytes m → length m ≡ t + 1 → is_right t xs ys m ≡ true → candidate t xs ys ≡ m
right_candidate n t xs ys m few rising hm lm right =
    recovers t xs ys m (units_rising n xs few rising) (points-rising n xs few rising) hm lm
    (omega (arith, leb-true (2 * differences xs ys m + t + 1) (length xs) right, agreements-differences xs ys m))

-- where the candidate is not right, nothing is
pub none_right : (t : ℕ) (xs ys : List ℕ) → Pointed t xs → is_right t xs ys (candidate t xs ys) ≡ false → NoneRight t xs ys
none_right t xs ys p wrong m hm lm =
    fails (is_right t xs ys m)
    (λ right.
    true≢false (sym right ∙ sym (ap (is_right t xs ys) (right_candidate 16 t xs ys m (omega arith) p.rising hm lm right)) ∙ wrong))

module _ (n t : ℕ) (layout : Layout) (slots : List ℕ) where
  -- ---- the number of the refusal table, and what 0 says
  pub decode_number_lem : (block : List ℕ) (fits : Bool) (r : ℕ) → fits ≡ decode_fits n t layout slots block
      → r ≡ decoding_refusal n t layout.length fits → r ≡ decode_refusal n t layout slots block
  unfolding decode_refusal
  decode_number_lem block fits r is-fits is-r = is-r ∙ ap (decoding_refusal n t layout.length) is-fits

  pub decode_0 : (block : List ℕ) → decode_refusal n t layout slots block ≡ 0
      → Coded n t layout.length × (length slots ≡ n * width layout) × (length block ≡ block_length layout.length t)
  unfolding decode_refusal
  decode_0 block e =
      let r = decoding_0 n t layout.length (decode_fits n t layout slots block) e in
      let both = both_true (length slots) (n * width layout) (length block) (block_length layout.length t) r.1 in
      (r.0, both.0, both.1)

  pub 0_decode : (block : List ℕ) → Coded n t layout.length → length slots ≡ n * width layout → length block ≡ block_length layout.length t
      → decode_refusal n t layout slots block ≡ 0
  unfolding decode_refusal
  0_decode block v a b =
      0_decoding n t layout.length (decode_fits n t layout slots block) v
      (true_both (length slots) (n * width layout) (length block) (block_length layout.length t) a b)

  -- ---- the rule and the candidate
  abbrev xs : List ℕ
  xs = points n layout slots

  -- the rule at the points of the present slots
  right_points : (s : ℕ) (m : List ℕ) → is_right t xs (column layout slots s xs) m ≡ is_right_stripe n t layout slots s m
  right_points s m = ap₂ (λ d c. leb (2 * d + t + 1) c) (differing-points layout slots s n m) (length-points n layout slots)

  pub right_rule : (s : ℕ) (m : List ℕ) → is_right t xs (column layout slots s xs) m ≡ true
      → 2 * differing n layout slots s m + t + 1 ≤ present_count n layout slots
  right_rule s m e = leb-true (2 * differing n layout slots s m + t + 1) (present_count n layout slots) (sym (right_points s m) ∙ e)

  rule_right : (s : ℕ) (m : List ℕ) → 2 * differing n layout slots s m + t + 1 ≤ present_count n layout slots → is_right t xs (column layout slots s xs) m ≡ true
  rule_right s m h = right_points s m ∙ le-leb (2 * differing n layout slots s m + t + 1) (present_count n layout slots) h

  -- where no bytes of a stripe are right, no block meets the rule
  pub none_beyond : (s : ℕ) → s < layout.length → NoneRight t xs (column layout slots s xs) → (B : List ℕ) → Decodes n t layout slots B → ⊥
  none_beyond s l h B d =
      true≢false
      (sym (rule_right s (stripe t B s) (d.right s l))
      ∙ h (stripe t B s) (bytes-stripe t B s d.bytes) (length-stripe layout.length t B s (d.size ∙ block_length_is layout.length t) l))

  -- 1 .. n are different elements of the field
  module _ (few : n < 256) where
    -- each stripe of a block that meets the rule is the candidate
    each : (B : List ℕ) → Decodes n t layout slots B → (s : ℕ) → s < layout.length → stripe t B s ≡ candidate t xs (column layout slots s xs)
    each B d s l =
        sym
        (right_candidate n t xs (column layout slots s xs) (stripe t B s) few (rising-points n layout slots) (bytes-stripe t B s d.bytes)
        (length-stripe layout.length t B s (d.size ∙ block_length_is layout.length t) l) (rule_right s (stripe t B s) (d.right s l)))

    decodes-joined : (B : List ℕ) → Decodes n t layout slots B → B ≡ joined (λ s. candidate t xs (column layout slots s xs)) layout.length
    decodes-joined B d =
        block-joined layout.length t B (d.size ∙ block_length_is layout.length t)
        ∙ joined_ext (stripe t B) (λ s. candidate t xs (column layout slots s xs)) layout.length (each B d)

    -- where a stripe's candidate is not right, no block meets the rule
    pub stripe-beyond : (s : ℕ) → s < layout.length → is_right t xs (column layout slots s xs) (candidate t xs (column layout slots s xs)) ≡ false
        → (B : List ℕ) → Decodes n t layout slots B → ⊥
    stripe-beyond s l wrong B d =
        true≢false (sym (rule_right s (stripe t B s) (d.right s l)) ∙ ap (is_right t xs (column layout slots s xs)) (each B d s l) ∙ wrong)

-- ---- at most one block meets the rule, and there is one answer
pub decodes_unique : DecodesUnique
decodes_unique n t layout slots few B C d e = decodes-joined n t layout slots few B d ∙ sym (decodes-joined n t layout slots few C e)

pub few-beyond : FewBeyond
few-beyond n t layout slots least few B d = omega (arith, d.right 0 least)

pub answers_unique : AnswersUnique
answers_unique n t layout slots before (Block a) (Block b) B C d e =
    let same : B ≡ C = decodes_unique n t layout slots (omega (arith, (decode_0 n t layout slots before d.0).0.quorum.n_most)) B C d.1 e.1 in
    (ap Block (d.2 ∙ ap (named_of n t layout slots) same ∙ sym e.2), same)
answers_unique n t layout slots before (Block a) Beyond B C d e = absurd (e.1 B d.1)
answers_unique n t layout slots before (Block a) (Refused r) B C d e = absurd (e.1 (e.0 ∙ d.0))
answers_unique n t layout slots before Beyond (Block b) B C d e = absurd (d.1 C e.1)
answers_unique n t layout slots before Beyond Beyond B C d e = (refl, d.2 ∙ sym e.2)
answers_unique n t layout slots before Beyond (Refused r) B C d e = absurd (e.1 (e.0 ∙ d.0))
answers_unique n t layout slots before (Refused r) (Block b) B C d e = absurd (d.1 (d.0 ∙ e.0))
answers_unique n t layout slots before (Refused r) Beyond B C d e = absurd (d.1 (d.0 ∙ e.0))
answers_unique n t layout slots before (Refused r) (Refused q) B C d e = (ap Refused (d.0 ∙ sym e.0), d.2 ∙ sym e.2)

-- ---- the rule as a test
pub decodes-meets : DecodesMeets
unfolding meets
decodes-meets n t layout slots B d =
    let right : ℕ → Bool = λ s. is_right_stripe n t layout slots s (stripe t B s) in
    eq-eqb (count layout.length right) layout.length
    (count_all layout.length right (λ s l. le-leb (2 * differing n layout slots s (stripe t B s) + t + 1) (present_count n layout slots) (d.right s l)))

pub meets-decodes : MeetsDecodes
unfolding meets
meets-decodes n t layout slots B size bytes e =
    let right : ℕ → Bool = λ s. is_right_stripe n t layout slots s (stripe t B s) in
    record {
      size = size;
      bytes = bytes;
      right = λ s l.
          leb-true (2 * differing n layout slots s (stripe t B s) + t + 1) (present_count n layout slots)
          (count_full layout.length right (omega (arith, eqb-true (count layout.length right) layout.length e)) s l);
    }

-- ---- the block that meets the rule as a function
-- it meets the rule, or none does
abbrev Rebuilds : (n t : ℕ) → Layout → List ℕ → Option (List ℕ) → Type 0
Rebuilds n t layout slots none = (B : List ℕ) → Decodes n t layout slots B → ⊥
Rebuilds n t layout slots (some B) = Decodes n t layout slots B

rebuilds : (n t : ℕ) (layout : Layout) (slots : List ℕ) → Rebuilds n t layout slots (rebuilt n t layout slots)
unfolding rebuilt
rebuilds n t layout slots = go (first_bytes (block_length layout.length t) (meets n t layout slots))
    (first_right (block_length layout.length t) (meets n t layout slots))
  where
    go : (r : Option (List ℕ)) → Right (block_length layout.length t) (meets n t layout slots) r → Rebuilds n t layout slots r
    go none h = λ B d. true≢false (sym (decodes-meets n t layout slots B d) ∙ h B d.size d.bytes)
    go (some B) h = meets-decodes n t layout slots B h.0 h.1 h.2

pub rebuilt-decodes : RebuiltDecodes
rebuilt-decodes n t layout slots B e = subst (Rebuilds n t layout slots) e (rebuilds n t layout slots)

pub rebuilt-block : RebuiltBlock
rebuilt-block n t layout slots few B d = go (rebuilt n t layout slots) (rebuilds n t layout slots)
  where
    go : (r : Option (List ℕ)) → Rebuilds n t layout slots r → r ≡ some B
    go none h = absurd (h B d)
    go (some C) h = ap some (decodes_unique n t layout slots few C B h d)

pub rebuilt_none : RebuiltNone
rebuilt_none n t layout slots unmet = go (rebuilt n t layout slots) (rebuilds n t layout slots)
  where
    go : (r : Option (List ℕ)) → Rebuilds n t layout slots r → r ≡ none
    go none h = refl
    go (some C) h = absurd (unmet C h)

-- a block meets the rule, or none does
pub decodes-or-not : (n t : ℕ) (layout : Layout) (slots : List ℕ)
    → ((B : List ℕ) × Decodes n t layout slots B) ⊎ ((B : List ℕ) → Decodes n t layout slots B → ⊥)
decodes-or-not n t layout slots = go (rebuilt n t layout slots) (rebuilds n t layout slots)
  where
    go : (r : Option (List ℕ)) → Rebuilds n t layout slots r → ((B : List ℕ) × Decodes n t layout slots B) ⊎ ((B : List ℕ) → Decodes n t layout slots B → ⊥)
    go none h = inr h
    go (some B) h = inl (B, h)

-- ---- coding refused or carried out
module _ (n t k i : ℕ) (block piece : List ℕ) where
  pub encode_number : (fits : Bool) (r : ℕ) → fits ≡ encode_fits k t block piece
      → r ≡ encoding_refusal n t k i fits → r ≡ encode_refusal n t k i block piece
  unfolding encode_refusal
  encode_number fits r is-fits is-r = is-r ∙ ap (encoding_refusal n t k i) is-fits

  pub encode_refused : (r : ℕ) → r ≡ encode_refusal n t k i block piece → (r ≡ 0 → ⊥) → encode_of n t k i block piece ≡ encoded r piece
  unfolding encode_of
  encode_refused r e ne =
      cond_no (eqb (encode_refusal n t k i block piece) 0) _ _ (ne_eqb (encode_refusal n t k i block piece) 0 (λ z. ne (e ∙ z)))
      ∙ ap (λ x. encoded x piece) (sym e)

  pub encode_carried : encode_refusal n t k i block piece ≡ 0 → encode_of n t k i block piece ≡ encoded 0 (piece_of k t block i)
  unfolding encode_of
  encode_carried e = cond_yes (eqb (encode_refusal n t k i block piece) 0) _ _ (eq-eqb (encode_refusal n t k i block piece) 0 e)

  pub encode_0 : encode_refusal n t k i block piece ≡ 0 → Coded n t k × Numbered n i × (length block ≡ block_length k t) × (length piece ≡ k)
  unfolding encode_refusal
  encode_0 e =
      let r = encoding_0 n t k i (encode_fits k t block piece) e in
      let both = both_true (length block) (block_length k t) (length piece) k r.2 in
      (r.0, r.1, both.0, both.1)

  pub 0_encode : Coded n t k → Numbered n i → length block ≡ block_length k t → length piece ≡ k → encode_refusal n t k i block piece ≡ 0
  unfolding encode_refusal
  0_encode v m a b =
      0_encoding n t k i (encode_fits k t block piece) v m
      (true_both (length block) (block_length k t) (length piece) k a b)

  pub encode_valid : Coded n t k → Numbered n i → length block ≡ block_length k t → length piece ≡ k
      → encode_of n t k i block piece ≡ encoded 0 (piece_of k t block i)
  encode_valid v m a b = encode_carried (0_encode v m a b)

-- coding within the settings is carried out, and leaves the piece
module _ {n t k j : ℕ} {b : List ℕ} (v : Coding n t k j b) (r : Result Unit Refusal) (p q : List ℕ) (l : length p ≡ k)
    (e : encoded (number_of r) q ≡ encode_of n t k j b p) where
  done : encoded (number_of r) q ≡ encoded 0 (piece_of k t b j)
  done = e ∙ encode_valid n t k j b p v.coded v.number v.size l

  pub coded_ok : is_ok r ≡ true
  coded_ok = ok_0 r ∙ eq-eqb (number_of r) 0 (ap (λ (x : Encoded). x.number) done)

  pub coded_piece : q ≡ piece_of k t b j
  coded_piece = ap (λ (x : Encoded). x.piece) done

-- ---- pieces
pub length_piece : (k t : ℕ) (block : List ℕ) (i : ℕ) → length (piece_of k t block i) ≡ k
unfolding piece_of
length_piece k t block i = length-tabulate (λ s. evaluate (stripe t block s) i) k

pub get_or_piece : (k t : ℕ) (block : List ℕ) (i s : ℕ) → s < k → get_or (piece_of k t block i) s 0 ≡ evaluate (stripe t block s) i
unfolding piece_of
get_or_piece k t block i s l = get_or-tabulate (λ s. evaluate (stripe t block s) i) k s 0 l

pub bytes_piece : (k t : ℕ) (block : List ℕ) (i : ℕ) → Bytes (piece_of k t block i)
bytes_piece k t block i s =
    ⊎_elim
    (λ (l : s < k). rw (get_or_piece k t block i s l) (evaluate_lt (stripe t block s) i))
    (λ (l : k ≤ s). rw (past_end (piece_of k t block i) s (omega (arith, length_piece k t block i))) (lit< tt))
    (lt_or_le s k)

-- t + 1 equal pieces determine the block: `same` says of an index that the two codings have the same piece there
pub blocks_equal : (n t k : ℕ) (b b' : List ℕ) (same : ℕ → Bool) → n < 256 → length b ≡ block_length k t → length b' ≡ block_length k t → Bytes b → Bytes b'
    → ((i : ℕ) → i < n → same i ≡ true → piece_of k t b (i + 1) ≡ piece_of k t b' (i + 1)) → t + 1 ≤ count n same → b ≡ b'
blocks_equal n t k b b' same few l l' h h' equal many =
    block-joined k t b (l ∙ block_length_is k t)
    ∙ joined_ext (stripe t b) (stripe t b') k each
    ∙ sym (block-joined k t b' (l' ∙ block_length_is k t))
  where
    each : (s : ℕ) → s < k → stripe t b s ≡ stripe t b' s
    each s g =
        let m : length (stripe t b s) ≡ t + 1 = length-stripe k t b s (l ∙ block_length_is k t) g in
        let m' : length (stripe t b' s) ≡ t + 1 = length-stripe k t b' s (l' ∙ block_length_is k t) g in
        equal_of_values n (λ i. i + 1) (stripe t b s) (stripe t b' s) (different-numbers n few) (bytes-stripe t b s h) (bytes-stripe t b' s h') (m ∙ sym m')
        (omega (
          arith,
          m,
          count_mono n same (λ i. eqb (evaluate (stripe t b s) (i + 1)) (evaluate (stripe t b' s) (i + 1)))
              (λ i u e. eq-eqb (evaluate (stripe t b s) (i + 1)) (evaluate (stripe t b' s) (i + 1))
              (sym (get_or_piece k t b (i + 1) s g) ∙ ap (λ p. get_or p s 0) (equal i u e) ∙ get_or_piece k t b' (i + 1) s g)),
        ))

-- ---- true pieces in enough slots
module _ (n t : ℕ) (layout : Layout) (slots b : List ℕ) (right : ℕ → Bool)
    (true-piece : (i : ℕ) → i < n → right i ≡ true → message_of slots layout (i + 1) ≡ piece_of layout.length t b (i + 1)) where
  -- `right` says of an index that its slot has the block's piece: that slot is present, and its values are those of the code
  right_present : 1 ≤ layout.length → (i : ℕ) → i < n → right i ≡ true → has_piece layout slots (i + 1) ≡ true
  unfolding has_piece
  right_present least i l e =
      ap not
      (ne_eqb (length (message_of slots layout (i + 1))) 0
      (λ z. omega (arith, z, ap length (true-piece i l e), length_piece layout.length t b (i + 1))))

  right_equal : (s : ℕ) → s < layout.length → (i : ℕ) → i < n → right i ≡ true → eqb (evaluate (stripe t b s) (i + 1)) (received layout slots s (i + 1)) ≡ true
  unfolding received
  right_equal s g i l e =
      eq-eqb (evaluate (stripe t b s) (i + 1)) (get_or (message_of slots layout (i + 1)) s 0)
      (sym (get_or_piece layout.length t b (i + 1) s g) ∙ ap (λ p. get_or p s 0) (sym (true-piece i l e)))

  -- so at most the other present ones differ
  pub few_differ : (s : ℕ) → s < layout.length → differing n layout slots s (stripe t b s) + count n right ≤ present_count n layout slots
  unfolding present_count differing
  few_differ s g =
      let p : ℕ → Bool = λ i. has_piece layout slots (i + 1) in
      let q : ℕ → Bool = λ i. eqb (evaluate (stripe t b s) (i + 1)) (received layout slots s (i + 1)) in
      omega (
        arith,
        count_split n p q,
        count_mono n right (λ i. p i && q i) (λ i l e. and_both (p i) (q i) (right_present (omega (arith, g)) i l e) (right_equal s g i l e)),
      )

pub pieces_decode : PiecesDecode
pieces_decode n t layout slots b right l h true-piece many = record {
  size = l;
  bytes = h;
  right = λ s g. omega (arith, few_differ n t layout slots b right true-piece s g);
}

pub present_count_le : (n : ℕ) (layout : Layout) (slots : List ℕ) → present_count n layout slots ≤ n
unfolding present_count
present_count_le n layout slots = count_le n (λ i. has_piece layout slots (i + 1))

-- ---- slots with one message each
module _ (layout : Layout) (slots other : List ℕ) (h : SameMessages layout slots other) where
  differing_same : (n : ℕ) → differing n layout slots ≡ differing n layout other
  unfolding differing has_piece received
  differing_same n =
      λ x s m. count n (λ i. not (eqb (length (h (i + 1) x)) 0) && not (eqb (evaluate m (i + 1)) (get_or (h (i + 1) x) s 0)))

  present_same : (n : ℕ) → present_count n layout slots ≡ present_count n layout other
  unfolding present_count has_piece
  present_same n = λ x. count n (λ i. not (eqb (length (h (i + 1) x)) 0))

  -- give one block
  pub rebuilt_same : (n t : ℕ) → rebuilt n t layout slots ≡ rebuilt n t layout other
  unfolding rebuilt meets
  rebuilt_same n t =
      λ x.
      first_bytes (block_length layout.length t)
      (λ B. eqb (count layout.length (λ s. leb (2 * differing_same n x s (stripe t B s) + t + 1) (present_same n x))) layout.length)

  -- and the same marks
  pub named_same : (n t : ℕ) (B : List ℕ) → named_of n t layout slots B ≡ named_of n t layout other B
  unfolding named_of is_named
  named_same n t B = λ x. set_of n (λ i. not (same (h (i + 1) x) (piece_of layout.length t B (i + 1))))

  -- lengths are refused alike
  pub decode_refusal_same : (n t : ℕ) (B : List ℕ) → length slots ≡ length other → decode_refusal n t layout slots B ≡ decode_refusal n t layout other B
  unfolding decode_refusal
  decode_refusal_same n t B e =
      ap (λ (l : ℕ). decoding_refusal n t layout.length (eqb l (n * width layout) && eqb (length B) (block_length layout.length t))) e
