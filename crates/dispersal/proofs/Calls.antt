-- Laws of calls 1 to 3 within the settings. The main ones: `sent_block_lem`, `sent_silence` and `sent_pieces_lem` (what is sent), `received-kept` and
-- `received-message` (the block is the lent one, or the sender's message), `marked_yes` and `yes_marked` (when the message of a controller with
-- block B is marked), `row_of_marks` (the marks are read back), `bytes_marks` (they are sent as bytes).
use mathlib.Core.Path.{◌≡◌, refl, sym, ap, subst, ◌∙◌}
use mathlib.Core.Logic.{⊎_elim}
use mathlib.Core.Bool.{Bool, true, not, cond, ◌&&◌, ◌||◌}
use mathlib.Core.List.{List, ◌++◌}
use Prim.Native.Nat.{ℕ, zero, suc, ◌+◌, ◌*◌, ◌≤◌, ◌<◌}
use native.Mathlib.Omega.{arith}
use borrow.Author.Tests.{eq-eqb, ne_eqb, eqb-true}
use lib.Dec.{eqb, lit<}
use lib.ListN.{length, take, drop, replicate, length-append, length-replicate, get_or}
use lib.Seq.{take_at, drop_at}
use Rattle.lists.specs.Same.{same}
use Rattle.lists.proofs.Tests.{same_or_not, and_left, and_right, and_both, or_left, or_right, or_cases, cond_yes, cond_no}
use Rattle.lists.proofs.Sames.{same_eq, eq_same}
use Rattle.lists.proofs.Parts.{all_zeros}
use Rattle.bitset.specs.Set.{set_of, restricted}
use Rattle.bitset.specs.Row.{row_of}
use Rattle.bitset.proofs.Laws.{restrict_lt, row_pair, halves}
use Rattle.settings.specs.Valid.{Coded, Numbered}
use Rattle.wire.specs.declared.slot.Layout.{Layout}
use Rattle.wire.specs.declared.Round.TheVariants.{Pieces}
use Rattle.wire.specs.Length.{block_length, kind_layout}
use Rattle.wire.specs.Slot.{width, message_of, bytes, slots, to_all, copied, SameMessages}
use Rattle.wire.proofs.Laws.{to_all_lem, length-message, message_all, copied_all, length-copied}
use Rattle.reed_solomon.specs.Encode.{piece_of, is_ready}
use Rattle.reed_solomon.proofs.Laws.{yes_ready}
use Rattle.dispersal.specs.Dispersal.{sent_block, received_block, two_pieces, sent_pieces, is_marked, marks_of, marks_message, sent_marks}

-- ---- call 1
module _ (layout : Layout) (n own sender : ℕ) (b o : List ℕ) where
  pub sent_block_lem : own ≡ sender → length b ≡ layout.length → length o ≡ n * width layout
      → sent_block layout n own sender b o ≡ slots layout (λ _. bytes b) n
  unfolding sent_block
  sent_block_lem e d l =
      cond_yes (eqb own sender) (to_all layout n b o) (replicate (length o) 0) (eq-eqb own sender e) ∙ to_all_lem layout n b o d l

  -- the others are silent
  pub sent_silence : (own ≡ sender → ⊥) → sent_block layout n own sender b o ≡ replicate (length o) 0
  unfolding sent_block
  sent_silence z = cond_no (eqb own sender) (to_all layout n b o) (replicate (length o) 0) (ne_eqb own sender z)

-- ---- call 2
module _ (inbox : List ℕ) (layout : Layout) (sender : ℕ) (b : List ℕ) where
  abbrev came : List ℕ
  came = message_of inbox layout sender

  -- without a sender the lent block is kept
  pub received-kept : sender ≡ 0 → received_block inbox layout sender b ≡ b
  unfolding received_block
  received-kept z = cond_yes (eqb sender 0) b _ (eq-eqb sender 0 z)

  -- with one it is zeros, or what came
  pub received-zeros : (sender ≡ 0 → ⊥) → length came ≡ 0 → received_block inbox layout sender b ≡ replicate (length b) 0
  unfolding received_block
  received-zeros s z = cond_no (eqb sender 0) b _ (ne_eqb sender 0 s) ∙ cond_yes (eqb (length came) 0) (replicate (length b) 0) _ (eq-eqb (length came) 0 z)

  pub received_copy : (sender ≡ 0 → ⊥) → (length came ≡ 0 → ⊥) → received_block inbox layout sender b ≡ copied came b
  unfolding received_block
  received_copy s n = cond_no (eqb sender 0) b _ (ne_eqb sender 0 s) ∙ cond_no (eqb (length came) 0) (replicate (length b) 0) _ (ne_eqb (length came) 0 n)

  pub received-message : (sender ≡ 0 → ⊥) → (length came ≡ 0 → ⊥) → length b ≡ layout.length → received_block inbox layout sender b ≡ came
  received-message s n e = received_copy s n ∙ copied_all came b (length-message inbox layout sender n ∙ sym e)

  -- what holds in the three cases
  by_cases : (P : List ℕ → Type 0) → P b → P (replicate (length b) 0) → ((length came ≡ 0 → ⊥) → P (copied came b))
      → P (received_block inbox layout sender b)
  by_cases P kept zeros copy =
      ⊎_elim
      (λ (z : sender ≡ 0). subst P (sym (received-kept z)) kept)
      (λ (s : sender ≡ 0 → ⊥).
      ⊎_elim
      (λ (z : length came ≡ 0). subst P (sym (received-zeros s z)) zeros)
      (λ (n : length came ≡ 0 → ⊥). subst P (sym (received_copy s n)) (copy n))
      (same_or_not (length came) 0))
      (same_or_not sender 0)

  pub length-received : length (received_block inbox layout sender b) ≡ length b
  length-received = by_cases (λ (l : List ℕ). length l ≡ length b) refl (length-replicate (length b) 0) (λ _. length-copied came b)

  -- what holds of 0, of every byte of the inbox and of every byte of the lent block holds of every byte of the block
  pub received_all : (P : ℕ → Type 0) → P 0 → ((i : ℕ) → P (get_or inbox i 0)) → ((i : ℕ) → P (get_or b i 0)) → length b ≡ layout.length
      → (i : ℕ) → P (get_or (received_block inbox layout sender b) i 0)
  received_all P z h lent e i =
      by_cases (λ (l : List ℕ). P (get_or l i 0)) (lent i) (all_zeros P z (length b) i)
      (λ n. subst (λ (l : List ℕ). P (get_or l i 0)) (sym (copied_all came b (length-message inbox layout sender n ∙ sym e)))
      (message_all P z inbox layout sender h i))

-- ---- within the settings
module _ (n t k own : ℕ) (b : List ℕ) (v : Coded n t k) (w : Numbered n own) (size : length b ≡ block_length k t) where
  ready : (fits : Bool) → fits ≡ true → is_ready n t k own b fits ≡ true
  ready fits e = yes_ready n t k own b fits (record { coded = v; number = w; size = size }) e

  -- round 2
  pub sent_pieces_lem : (run : ℕ) (o : List ℕ) → length o ≡ n * width (kind_layout run Pieces n t k)
      → sent_pieces run n t k own b o ≡ slots (kind_layout run Pieces n t k) (two_pieces k t own b) n
  unfolding sent_pieces
  sent_pieces_lem run o e =
      let w = n * width (kind_layout run Pieces n t k) in
      cond_yes (is_ready n t k own b (eqb (length o) w)) (slots (kind_layout run Pieces n t k) (two_pieces k t own b) n) o
      (ready (eqb (length o) w) (eq-eqb (length o) w e))

  -- the marks, as members of a set
  pub marks_set : (inbox : List ℕ) (layout : Layout) → marks_of n t k own inbox layout b ≡ set_of n (λ i. is_marked k t own inbox layout b (i + 1))
  unfolding marks_of
  marks_set inbox layout = cond_yes (is_ready n t k own b true) (set_of n (λ i. is_marked k t own inbox layout b (i + 1))) 0 (ready true refl)

-- what round 2 sends, as it is read
pub two_pieces_is : (k t own : ℕ) (b : List ℕ) (j : ℕ) → two_pieces k t own b j ≡ bytes (piece_of k t b own ++ piece_of k t b j)
unfolding two_pieces
two_pieces_is k t own b j = refl

-- ---- call 3: the message of j, whose own piece is p and whose coding for us is q
module _ (k t own : ℕ) (inbox : List ℕ) (layout : Layout) (b : List ℕ) (j : ℕ) (p q : List ℕ) (arrived : message_of inbox layout j ≡ p ++ q)
    (p-long : length p ≡ k) (k_least : 1 ≤ k) where
  first : take k (message_of inbox layout j) ≡ p
  first = ap (take k) arrived ∙ take_at p q k p-long

  second : drop k (message_of inbox layout j) ≡ q
  second = ap (drop k) arrived ∙ drop_at p q k p-long

  -- marked: the pieces are those of the own coding
  pub marked_yes : is_marked k t own inbox layout b j ≡ true → (j ≡ own → ⊥) → (p ≡ piece_of k t b j) × (q ≡ piece_of k t b own)
  unfolding is_marked
  marked_yes e n =
      ⊎_elim (λ (y : eqb j own ≡ true). absurd (n (eqb-true j own y)))
      (λ y.
      let both = and_right (not (eqb (length (message_of inbox layout j)) 0)) _ y in (
        sym first ∙ same_eq (take k (message_of inbox layout j)) (piece_of k t b j)
            (and_left (same (take k (message_of inbox layout j)) (piece_of k t b j)) _ both),
        sym second ∙ same_eq (drop k (message_of inbox layout j)) (piece_of k t b own)
            (and_right (same (take k (message_of inbox layout j)) (piece_of k t b j)) _ both),
      ))
      (or_cases (eqb j own) _ e)

  -- and the other way round
  pub yes_marked : p ≡ piece_of k t b j → q ≡ piece_of k t b own → is_marked k t own inbox layout b j ≡ true
  unfolding is_marked
  yes_marked e f =
      or_right (eqb j own) _
      (and_both (not (eqb (length (message_of inbox layout j)) 0)) _
      (ap not (ne_eqb (length (message_of inbox layout j)) 0 (λ z. omega (arith, ap length arrived, length-append p q))))
      (and_both (same (take k (message_of inbox layout j)) (piece_of k t b j)) (same (drop k (message_of inbox layout j)) (piece_of k t b own))
      (eq_same (take k (message_of inbox layout j)) (piece_of k t b j) (first ∙ e))
      (eq_same (drop k (message_of inbox layout j)) (piece_of k t b own) (second ∙ f))))

-- oneself is always marked
pub marked_self : (k t own : ℕ) (inbox : List ℕ) (layout : Layout) (b : List ℕ) → is_marked k t own inbox layout b own ≡ true
unfolding is_marked
marked_self k t own inbox layout b = or_left (eqb own own) _ (eq-eqb own own refl)

-- ---- boxes with one message in each slot
module _ (layout : Layout) (inbox other : List ℕ) (h : SameMessages layout inbox other) where
  pub received_same : (sender : ℕ) (b : List ℕ) → received_block inbox layout sender b ≡ received_block other layout sender b
  unfolding received_block
  received_same sender b =
      ap (λ (m : List ℕ). cond (eqb sender 0) b (cond (eqb (length m) 0) (replicate (length b) 0) (copied m b))) (h sender)

  pub marks_same : (n t k own : ℕ) (b : List ℕ) → marks_of n t k own inbox layout b ≡ marks_of n t k own other layout b
  unfolding marks_of is_marked
  marks_same n t k own b =
      λ x.
      cond (is_ready n t k own b true)
      (set_of n (λ i.
      eqb (i + 1) own
      || (not (eqb (length (h (i + 1) x)) 0)
      && (same (take k (h (i + 1) x)) (piece_of k t b (i + 1)) && same (drop k (h (i + 1) x)) (piece_of k t b own)))))
      0

-- ---- the marks as a message
pub length_marks : (n s : ℕ) → length (marks_message n s) ≡ 2
unfolding marks_message
length_marks n s = refl

pub bytes_marks : (n s : ℕ) → n ≤ 16 → (x : ℕ) → get_or (marks_message n s) x 0 < 256
unfolding marks_message
bytes_marks n s h zero = (halves s n h).0
bytes_marks n s h (suc zero) = (halves s n h).1
bytes_marks n s h (suc (suc x)) = lit< tt

pub sent_marks_lem : (layout : Layout) (n s : ℕ) (o : List ℕ) → layout.length ≡ 2 → length o ≡ n * width layout
    → sent_marks layout n s o ≡ slots layout (λ _. bytes (marks_message n s)) n
unfolding sent_marks
sent_marks_lem layout n s o d e = to_all_lem layout n (marks_message n s) o (length_marks n s ∙ sym d) e

pub row_of_marks : (n s : ℕ) → row_of n (marks_message n s) 0 ≡ restricted s n
unfolding marks_message
row_of_marks n s = row_pair n (restricted s n) (restrict_lt s n)
