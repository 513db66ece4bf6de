-- Laws that the proofs of the code share. The main one: `paired`, the message of the own piece and piece j.
use mathlib.Core.Path.{◌≡◌, sym, ap, ap₂, ◌∙◌}
use mathlib.Core.Bool.{false, not, ◌&&◌}
use mathlib.Core.List.{List, ◌++◌, append-nil}
use Prim.Native.Nat.{ℕ, ◌+◌, ◌-◌, ◌*◌, ◌≤◌, ◌<◌}
use native.Mathlib.Omega.{arith}
use borrow.Author.Tests.{ne_eqb}
use lib.Dec.{eqb}
use lib.ListN.{length, take, drop, replicate, length-append, length-take, length-drop, drop_of_length-le}
use lib.Seq.{take_at, drop_at, drop-drop, length-take-le}
use Rattle.lists.specs.Same.{same}
use Rattle.lists.proofs.Tests.{and_tail, or_tail}
use Rattle.lists.proofs.Sames.{no_same}
use Rattle.wire.specs.declared.slot.Layout.{Layout}
use Rattle.wire.specs.Slot.{message_of}
use Rattle.wire.specs.declared.Round.TheVariants.{Pieces}
use Rattle.wire.specs.Length.{kind_length}
use Rattle.wire.proofs.Laws.{kind_length_is, row_pieces, Sized, sized_bytes}
use Rattle.settings.specs.Valid.{Coded}
use Rattle.reed_solomon.specs.Encode.{piece_of}
use Rattle.reed_solomon.proofs.Laws.{length_piece}
use Rattle.dispersal.specs.Dispersal.{two_pieces, is_marked}
use Rattle.dispersal.proofs.Calls.{two_pieces_is}

-- ---- the table's length is that of two pieces
pub kind_pieces : {n t k : ℕ} → Coded n t k → kind_length Pieces n t k ≡ 2 * k
kind_pieces {n} {t} {k} v = kind_length_is v Pieces ∙ row_pieces n t k

-- ---- pieces

-- the k bytes of m from a on
module _ (a k : ℕ) (m : List ℕ) where
  pub length-part : a + k ≤ length m → length (take (a + k - a) (drop a m)) ≡ k
  length-part h =
      let w : a + k - a ≤ length (drop a m) = omega (arith, length-drop a m) in
      omega (arith, length-take-le (a + k - a) (drop a m) w)

  pub put_piece : (q p : List ℕ) → q ≡ p → take a m ++ (q ++ drop (a + k - a) (drop a m)) ≡ take a m ++ (p ++ drop (a + k) m)
  put_piece q p e =
      let u : a + (a + k - a) ≡ a + k = omega arith in
      ap₂ (λ (x y : List ℕ). take a m ++ (x ++ y)) e (drop-drop (a + k - a) a m ∙ ap (λ (x : ℕ). drop x m) u)

-- the piece p at the front of m
pub first_piece : (k : ℕ) (p m m' : List ℕ) → length p ≡ k → m' ≡ take 0 m ++ (p ++ drop (0 + k) m) → take k m' ≡ p
first_piece k p m m' l e = ap (take k) e ∙ take_at p (drop (0 + k) m) k l

-- a piece q behind the piece p at the front of m
pub paired : (k : ℕ) (p q m m' : List ℕ) → take k m ≡ p → length m ≡ 2 * k → m' ≡ take k m ++ (q ++ drop (k + k) m) → m' ≡ p ++ q
paired k p q m m' h l e =
    let past : length m ≤ k + k = omega arith in
    e ∙ ap₂ (λ (x y : List ℕ). x ++ (q ++ y)) h (drop_of_length-le m past) ∙ ap (λ (x : List ℕ). p ++ x) (append-nil q)

-- both have the length of two pieces
module _ (k t own : ℕ) (b : List ℕ) where
  pub length-two_pieces : (j : ℕ) → length (piece_of k t b own ++ piece_of k t b j) ≡ 2 * k
  length-two_pieces j =
      length-append (piece_of k t b own) (piece_of k t b j) ∙ omega (arith, length_piece k t b own, length_piece k t b j)

  pub two_pieces_sized : (layout : Layout) → layout.length ≡ 2 * k → (j : ℕ) → Sized layout (two_pieces k t own b j)
  two_pieces_sized layout e j =
      rw (two_pieces_is k t own b j) (sized_bytes layout (piece_of k t b own ++ piece_of k t b j) (length-two_pieces j ∙ sym e))

-- the front of an array that holds two pieces
pub pair_room : (k len : ℕ) → k ≤ 128 → len ≡ 2 * k → length (take {A = ℕ} len (replicate 256 0)) ≡ len
pair_room k len h e = let o : List ℕ = replicate 256 0 in length-take-le len o (omega arith)

-- ---- marks
-- a message that is shorter than a piece
pub short_message : (k : ℕ) (message m : List ℕ) → length message < k → length m ≡ 2 * k → same (take k message) (drop k m) ≡ false
short_message k message m l e =
    no_same (take k message) (drop k m) (λ q. omega (arith, length-take k message, length-drop k m))

module _ (k t own : ℕ) (inbox : List ℕ) (layout : Layout) (b : List ℕ) (j : ℕ) where
  module _ (other : j ≡ own → ⊥) where
    -- m has the own piece, then piece j
    pub marked_present : (m : List ℕ) → (length (message_of inbox layout j) ≡ 0 → ⊥) → m ≡ piece_of k t b own ++ piece_of k t b j
        → (same (take k (message_of inbox layout j)) (drop k m) && same (drop k (message_of inbox layout j)) (take k m)) ≡ is_marked k t own inbox layout b j
    unfolding is_marked
    marked_present m n e =
        let M = message_of inbox layout j in
        let p = piece_of k t b own in
        let q = piece_of k t b j in
        ap₂ (λ (x y : List ℕ). same (take k M) x && same (drop k M) y)
        (ap (drop k) e ∙ drop_at p q k (length_piece k t b own)) (ap (take k) e ∙ take_at p q k (length_piece k t b own))
        ∙ sym (or_tail (eqb j own) _ (ne_eqb j own other) ∙ and_tail (not (eqb (length M) 0)) _ (ap not (ne_eqb (length M) 0 n)))
