-- A step that is lent bytes leaves bytes, of the lengths that it was lent: `bytes_step`. Below it the same for a call that is carried out
-- (`call-bytes`), kind by kind.
use mathlib.Core.Path.{◌≡◌, refl, sym, ap, subst, ◌∙◌}
use mathlib.Core.Bool.{Bool, true, false, cond, ◌&&◌}
use mathlib.Core.List.{List, ◌++◌}
use mathlib.Core.Logic.{◌⊎◌, inl, inr, ⊎_elim}
use Prim.Native.Nat.{ℕ, ◌+◌, ◌-◌, ◌*◌, ◌≤◌, ◌<◌}
use native.Mathlib.Omega.{arith}
use borrow.Author.Tests.{eqb-true}
use lib.Dec.{eqb, lit<}
use lib.ListN.{length, replicate, length-append, length-replicate}
use Rattle.lists.proofs.Tests.{and_left, and_right, either, same_or_not}
use Rattle.lists.proofs.Parts.{all_append, all_zeros}
use Rattle.bitset.specs.Set.{restricted}
use Rattle.bitset.specs.Row.{rows_of}
use Rattle.bitset.proofs.Laws.{bytes_rows}
use Rattle.settings.specs.Valid.{Coded}
use Rattle.polynomial.specs.Polynomial.{Bytes}
use Rattle.wire.specs.declared.Call.{Call}
use Rattle.wire.specs.declared.Call.TheVariants.{Send, Receive, Compare, Collect, Tally, Hold, Settle, Core, Choose, Finish, Outside}
use Rattle.wire.specs.declared.Round.{Round}
use Rattle.wire.specs.declared.Round.TheVariants.{Block, Pieces, Marks, Forward, Rebuild}
use Rattle.wire.specs.Round.{call_kind, round_kind}
use Rattle.wire.specs.Length.{row_length, kind_layout, message_length, inbox_length}
use Rattle.wire.specs.declared.slot.Layout.{Layout}
use Rattle.wire.specs.Slot.{layout_with, width, Sent, bytes, slots, to_all}
use Rattle.wire.proofs.Laws.{kind_length_is, Fact, call_fact, message_length_is, length_pos, outbox_is, inbox_is, round-block, round_pieces, round_marks}
use Rattle.wire.proofs.Laws.{round_forward, round_rebuild, row_block, row_pieces, row_marks, row_forward, row_rebuild, Sized, sized_bytes, length-slots}
use Rattle.wire.proofs.Laws.{content, slots_each}
use Rattle.reed_solomon.specs.Encode.{piece_of}
use Rattle.reed_solomon.specs.Decode.{Decodes}
use Rattle.reed_solomon.proofs.Laws.{length_piece, bytes_piece, 0_decode, decodes-or-not}
use Rattle.dispersal.specs.Dispersal.{sent_block, received_block, two_pieces, sent_pieces, marks_of, marks_message, sent_marks}
use Rattle.dispersal.proofs.Laws.{sent_block_lem, sent_silence, length-received, received_all, sent_pieces_lem, two_pieces_is, length_marks, bytes_marks, sent_marks_lem}
use Rattle.phase_king.specs.Matrix.{limit, sent_by_king, zeros_of, ones_of, seen_message}
use Rattle.phase_king.proofs.Laws.{king_all, king_none, bytes_seen}
use Rattle.reconstruction.specs.Reconstruction.{Finished, in_core, forwarded, own_piece, chosen_piece, shared, finished}
use Rattle.reconstruction.proofs.Laws.{kind_forward, kind_rebuild, forwarded-member, forwarded_other, shared_sends, shared_none, own_member, own_other}
use Rattle.reconstruction.proofs.Laws.{length_chosen, chosen_each, finished_none, finished-agreed, finished-beyond}
use Rattle.protocol.specs.declared.State.{State}
use Rattle.protocol.specs.Calls.{Carried, inbox_layout, outbox_layout, write_phase, call_of}
use Rattle.protocol.specs.Step.{step_refusal, After, step_of, Ready}
use Rattle.protocol.proofs.Laws.{step_refused, step_carried, step_0, of_send, of_receive, of_compare, of_collect, of_tally, of_hold, of_settle, of_core}
use Rattle.protocol.proofs.Laws.{of_choose, of_finish, of_outside}

-- m bytes
pub record IsBytes (m : ℕ) (l : List ℕ) : Type 0 where
  pub size : length l ≡ m
  pub bytes : Bytes l

abbrev pub Byte : ℕ → Type 0
Byte x = x < 256

-- ---- outboxes
pub zeros-bytes : (m : ℕ) → IsBytes m (replicate m 0)
zeros-bytes m = record { size = length-replicate m 0; bytes = all_zeros Byte (lit< tt) m }

slots-bytes : (layout : Layout) (f : ℕ → Sent) (n : ℕ) → layout.run < 65536 → ((j : ℕ) → Sized layout (f j)) → ((j : ℕ) → Bytes (content (f j)))
    → IsBytes (n * width layout) (slots layout f n)
slots-bytes layout f n word sized each = record {
  size = length-slots layout f sized n;
  bytes = slots_each Byte layout (lit< tt) (lit< tt) (omega arith) (omega arith) f each n;
}

-- one message to all
one_bytes : (layout : Layout) (m : List ℕ) (n : ℕ) → layout.run < 65536 → IsBytes layout.length m
    → IsBytes (n * width layout) (slots layout (λ _. bytes m) n)
one_bytes layout m n word h = slots-bytes layout (λ _. bytes m) n word (λ j. sized_bytes layout m h.size) (λ j. h.bytes)

to_all-bytes : (layout : Layout) (n : ℕ) (m o : List ℕ) → layout.run < 65536 → Bytes m → Bytes o → IsBytes (length o) (to_all layout n m o)
to_all-bytes layout n m o word h g = go (eqb (length m) layout.length && eqb (length o) (n * width layout)) refl
  where
    go : (b : Bool) → (eqb (length m) layout.length && eqb (length o) (n * width layout)) ≡ b
        → IsBytes (length o) (cond b (slots layout (λ _. bytes m) n) o)
    go true e =
        subst (λ (x : ℕ). IsBytes x (slots layout (λ _. bytes m) n))
        (sym (eqb-true (length o) (n * width layout) (and_right (eqb (length m) layout.length) _ e)))
        (one_bytes layout m n word (record { size = eqb-true (length m) layout.length (and_left _ (eqb (length o) (n * width layout)) e); bytes = h }))
    go false e = record { size = refl; bytes = g }

piece_of-bytes : (k t : ℕ) (b : List ℕ) (j : ℕ) → IsBytes k (piece_of k t b j)
piece_of-bytes k t b j = record { size = length_piece k t b j; bytes = bytes_piece k t b j }

-- ---- calls
module _ (s : State) (b i o : List ℕ) (r : Ready s (length b) (length i) (length o)) (word : s.run < 65536)
    (block : Bytes b) (inbox : Bytes i) (outbox : Bytes o) where
  coded : Coded s.settings.n s.settings.t s.settings.k
  coded = r.valid.coded

  few : s.settings.n ≤ 16
  few = coded.quorum.n_most

  -- the length of a message by the row of the table, and the layout of a round by its kind
  row : (c : ℕ) (k : Round) → round_kind s.settings.t c ≡ k
      → message_length s.settings.n s.settings.t s.settings.k c ≡ row_length k s.settings.n s.settings.t s.settings.k
  row c k e = message_length_is coded c ∙ ap (λ (x : Round). row_length x s.settings.n s.settings.t s.settings.k) e

  kind_is : (c : ℕ) (k : Round) → s.next ≡ c → round_kind s.settings.t c ≡ k
      → outbox_layout s ≡ kind_layout s.run k s.settings.n s.settings.t s.settings.k
  kind_is c k at e = ap (λ (x : Round). kind_layout s.run x s.settings.n s.settings.t s.settings.k) (ap (round_kind s.settings.t) at ∙ e)

  -- the outbox is n slots
  room : 1 ≤ s.next → s.next ≤ 3 * s.settings.t + 8 → length o ≡ s.settings.n * width (outbox_layout s)
  room least most = r.outbox_length ∙ outbox_is s.run s.settings.n s.settings.t s.settings.k s.next (length_pos coded s.next least most)

  kind_room : (c : ℕ) (k : Round) → s.next ≡ c → round_kind s.settings.t c ≡ k → 1 ≤ c → c ≤ 3 * s.settings.t + 8
      → length o ≡ s.settings.n * width (kind_layout s.run k s.settings.n s.settings.t s.settings.k)
  kind_room c k at e least most =
      room (omega arith) (omega arith) ∙ ap (λ (x : Layout). s.settings.n * width x) (kind_is c k at e)

  filled : (layout : Layout) (x y : List ℕ) → length o ≡ s.settings.n * width layout → x ≡ y → IsBytes (s.settings.n * width layout) y
      → IsBytes (length o) x
  filled layout x y l e h = record { size = ap length e ∙ h.size ∙ sym l; bytes = subst Bytes (sym e) h.bytes }

  silent : (x : List ℕ) → x ≡ replicate (length o) 0 → IsBytes (length o) x
  silent x e = subst (IsBytes (length o)) (sym e) (zeros-bytes (length o))

  send : s.next ≡ 1 → IsBytes (length o) (sent_block (outbox_layout s) s.settings.n s.own s.settings.sender b o)
  send at =
      let L = outbox_layout s in
      let l = room (omega arith) (omega arith) in
      let long : length b ≡ L.length =
      r.block_length ∙ sym (ap (λ (x : Layout). x.length) (kind_is 1 Block at (round-block s.settings.t)) ∙ kind_length_is coded Block
      ∙ row_block s.settings.n s.settings.t s.settings.k) in
      ⊎_elim
      (λ (e : s.own ≡ s.settings.sender).
      filled L _ (slots L (λ _. bytes b) s.settings.n) l (sent_block_lem L s.settings.n s.own s.settings.sender b o e long l)
      (one_bytes L b s.settings.n word (record { size = long; bytes = block })))
      (λ (z : s.own ≡ s.settings.sender → ⊥). silent _ (sent_silence L s.settings.n s.own s.settings.sender b o z))
      (same_or_not s.own s.settings.sender)

  receive : s.next ≡ 2 → IsBytes (length b) (received_block i (inbox_layout s) s.settings.sender b)
  receive at =
      let e : s.next - 1 ≡ 1 = omega arith in
      record {
        size = length-received i (inbox_layout s) s.settings.sender b;
        bytes =
            received_all i (inbox_layout s) s.settings.sender b Byte (lit< tt) inbox block
            (r.block_length ∙ sym (ap (λ (c : ℕ). message_length s.settings.n s.settings.t s.settings.k c) e
            ∙ row 1 Block (round-block s.settings.t) ∙ row_block s.settings.n s.settings.t s.settings.k));
      }

  pieces : s.next ≡ 2 → (b' : List ℕ) → length b' ≡ length b
      → IsBytes (length o) (sent_pieces s.run s.settings.n s.settings.t s.settings.k s.own b' o)
  pieces at b' long =
      let L = kind_layout s.run Pieces s.settings.n s.settings.t s.settings.k in
      let l = kind_room 2 Pieces at (round_pieces s.settings.t) (omega arith) (omega arith) in
      let p : ℕ → List ℕ = piece_of s.settings.k s.settings.t b' in
      let two : L.length ≡ 2 * s.settings.k = kind_length_is coded Pieces ∙ row_pieces s.settings.n s.settings.t s.settings.k in
      filled L _ (slots L (two_pieces s.settings.k s.settings.t s.own b') s.settings.n) l
      (sent_pieces_lem s.settings.n s.settings.t s.settings.k s.own b' coded r.valid.number (long ∙ r.block_length) s.run o l)
      (slots-bytes L (two_pieces s.settings.k s.settings.t s.own b') s.settings.n word
      (λ j. subst (Sized L) (sym (two_pieces_is s.settings.k s.settings.t s.own b' j))
      (sized_bytes L (p s.own ++ p j)
      (length-append (p s.own) (p j) ∙ omega
      (arith, two, length_piece s.settings.k s.settings.t b' s.own, length_piece s.settings.k s.settings.t b' j))))
      (λ j. subst (λ (x : Sent). Bytes (content x)) (sym (two_pieces_is s.settings.k s.settings.t s.own b' j))
      (all_append Byte (lit< tt) (p s.own) (p j) (bytes_piece s.settings.k s.settings.t b' s.own)
      (bytes_piece s.settings.k s.settings.t b' j))))

  compare : s.next ≡ 3 → (m : ℕ) → IsBytes (length o) (sent_marks (outbox_layout s) s.settings.n m o)
  compare at m =
      let L = outbox_layout s in
      let l = room (omega arith) (omega arith) in
      let two : L.length ≡ 2 = ap (λ (x : Layout). x.length) (kind_is 3 Marks at (round_marks s.settings.t)) ∙ kind_length_is coded Marks
      ∙ row_marks s.settings.n s.settings.t s.settings.k in
      filled L _ (slots L (λ _. bytes (marks_message s.settings.n m)) s.settings.n) l (sent_marks_lem L s.settings.n m o two l)
      (one_bytes L (marks_message s.settings.n m) s.settings.n word
      (record { size = length_marks s.settings.n m ∙ sym two; bytes = bytes_marks s.settings.n m few }))

  matrix : (n : ℕ) (m : List ℕ) → IsBytes (length o) (to_all (outbox_layout s) n (rows_of s.settings.n m) o)
  matrix n m = to_all-bytes (outbox_layout s) n (rows_of s.settings.n m) o word (bytes_rows s.settings.n m few) outbox

  king : (p : ℕ) (m : List ℕ) → IsBytes (length o) (sent_by_king (outbox_layout s) s.own p s.settings.n m o)
  king p m =
      ⊎_elim
      (λ (e : s.own ≡ p). subst (IsBytes (length o)) (sym (king_all (outbox_layout s) s.own p s.settings.n m o e)) (matrix (limit s.settings.n) m))
      (λ (e : s.own ≡ p → ⊥). silent _ (king_none (outbox_layout s) s.own p s.settings.n m o e))
      (same_or_not s.own p)

  forward : s.next ≡ 3 * s.settings.t + 7 → (core : ℕ)
      → IsBytes (length o) (forwarded s.run s.settings.n s.settings.t s.settings.k s.own core b o)
  forward at core =
      let L = kind_layout s.run Forward s.settings.n s.settings.t s.settings.k in
      let l = kind_room (3 * s.settings.t + 7) Forward at (round_forward s.settings.t) (omega arith) (omega arith) in
      let p : ℕ → List ℕ = piece_of s.settings.k s.settings.t b in
      ⊎_elim
      (λ (y : in_core core s.own ≡ true).
      filled L _ (slots L (λ j. bytes (p j)) s.settings.n) l
      (forwarded-member s.settings.n s.settings.t s.settings.k s.own b coded r.valid.number r.block_length s.run core o y l)
      (slots-bytes L (λ j. bytes (p j)) s.settings.n word
      (λ j. sized_bytes L (p j) (length_piece s.settings.k s.settings.t b j ∙ sym (kind_forward coded)))
      (λ j. bytes_piece s.settings.k s.settings.t b j)))
      (λ (y : in_core core s.own ≡ false). silent _ (forwarded_other s.run s.settings.n s.settings.t s.settings.k s.own core b o y))
      (either (in_core core s.own))

  -- the own piece: that of the own coding, or the chosen one, or none
  piece : (core : ℕ) (layout : Layout) → layout.length ≡ s.settings.k
      → (length (own_piece s.settings.n s.settings.t s.settings.k s.own core i layout b) ≡ 0) ⊎ IsBytes s.settings.k
      (own_piece s.settings.n s.settings.t s.settings.k s.own core i layout b)
  piece core layout e =
      ⊎_elim
      (λ (y : in_core core s.own ≡ true).
      inr (subst (IsBytes s.settings.k) (sym (own_member s.settings.n s.settings.t s.settings.k s.own core i layout b y))
      (piece_of-bytes s.settings.k s.settings.t b s.own)))
      (λ (y : in_core core s.own ≡ false).
      let q = own_other s.settings.n s.settings.t s.settings.k s.own core i layout b y in
      ⊎_elim
      (λ (z : length (chosen_piece s.settings.n s.settings.t core i layout) ≡ 0). inl (ap length q ∙ z))
      (λ (z : length (chosen_piece s.settings.n s.settings.t core i layout) ≡ 0 → ⊥).
      inr (subst (IsBytes s.settings.k) (sym q)
      (record {
        size = length_chosen s.settings.n s.settings.t core i layout z
            ∙ e;
        bytes = chosen_each s.settings.n s.settings.t core i layout Byte (lit< tt) inbox;
      })))
      (same_or_not (length (chosen_piece s.settings.n s.settings.t core i layout)) 0))
      (either (in_core core s.own))

  choose : s.next ≡ 3 * s.settings.t + 8 → (core : ℕ)
      → IsBytes (length o) (shared s.settings.n s.settings.t s.settings.k s.own core i (inbox_layout s) b o)
  choose at core =
      let L = kind_layout s.run Rebuild s.settings.n s.settings.t s.settings.k in
      let l = kind_room (3 * s.settings.t + 8) Rebuild at (round_rebuild s.settings.t) (omega arith) (omega arith) in
      let e : s.next - 1 ≡ 3 * s.settings.t + 7 = omega arith in
      let m = own_piece s.settings.n s.settings.t s.settings.k s.own core i (inbox_layout s) b in
      ⊎_elim
      (λ (z : length m ≡ 0). silent _
      (shared_none s.settings.n s.settings.t s.settings.k s.own b coded r.valid.number r.block_length core i (inbox_layout s) o l z))
      (λ (h : IsBytes s.settings.k m).
      filled L _ (slots L (λ _. bytes m) s.settings.n) l
      (shared_sends s.settings.n s.settings.t s.settings.k s.own b coded r.valid.number r.block_length core i (inbox_layout s) o l m refl
      h.size)
      (one_bytes L m s.settings.n word (record { size = h.size ∙ sym (kind_rebuild coded); bytes = h.bytes })))
      (piece core (inbox_layout s) (ap (λ (c : ℕ). message_length s.settings.n s.settings.t s.settings.k c) e
      ∙ row (3 * s.settings.t + 7) Forward (round_forward s.settings.t) ∙ row_forward s.settings.n s.settings.t s.settings.k))

  finish : s.next ≡ 3 * s.settings.t + 9 → (core : ℕ) → IsBytes (length b) (finished s.settings.n s.settings.t (inbox_layout s) core i b).block
  finish at core =
      let back : s.next - 1 ≡ 3 * s.settings.t + 8 = omega arith in
      let layout_is : inbox_layout s ≡ layout_with s.run s.settings.k =
      ap (λ (c : ℕ). layout_with s.run (message_length s.settings.n s.settings.t s.settings.k c)) back
      ∙ ap (layout_with s.run)
      (row (3 * s.settings.t + 8) Rebuild (round_rebuild s.settings.t) ∙ row_rebuild s.settings.n s.settings.t s.settings.k) in
      let long : length i ≡ s.settings.n * width (layout_with s.run s.settings.k) =
      r.inbox_length
      ∙ ap (inbox_length s.settings.n s.settings.t s.settings.k) (omega arith)
      ∙ inbox_is s.run s.settings.n s.settings.t s.settings.k (3 * s.settings.t + 8)
      (length_pos coded (3 * s.settings.t + 8) (omega arith) (omega arith))
      ∙ ap (λ (x : ℕ). s.settings.n * width (layout_with s.run x))
      (row (3 * s.settings.t + 8) Rebuild (round_rebuild s.settings.t) ∙ row_rebuild s.settings.n s.settings.t s.settings.k) in
      subst (λ (l : Layout). IsBytes (length b) (finished s.settings.n s.settings.t l core i b).block) (sym layout_is)
      (⊎_elim
      (λ (z : restricted core s.settings.n ≡ 0).
      subst (λ (x : Finished). IsBytes (length b) x.block)
      (sym (finished_none s.settings.n s.settings.t (layout_with s.run s.settings.k) core i b z))
      (zeros-bytes (length b)))
      (λ (z : restricted core s.settings.n ≡ 0 → ⊥).
      let e = 0_decode s.settings.n s.settings.t (layout_with s.run s.settings.k) i b coded long r.block_length in
      ⊎_elim
      (λ (d : (B : List ℕ) × Decodes s.settings.n s.settings.t (layout_with s.run s.settings.k) i B).
      subst (λ (x : Finished). IsBytes (length b) x.block)
      (sym (finished-agreed s.settings.n s.settings.t (layout_with s.run s.settings.k) core i b z e d.0 d.1))
      (record { size = d.1.size ∙ sym r.block_length; bytes = d.1.bytes }))
      (λ (d : (B : List ℕ) → Decodes s.settings.n s.settings.t (layout_with s.run s.settings.k) i B → ⊥).
      subst (λ (x : Finished). IsBytes (length b) x.block)
      (sym (finished-beyond s.settings.n s.settings.t (layout_with s.run s.settings.k) core i b z e d))
      (zeros-bytes (length b)))
      (decodes-or-not s.settings.n s.settings.t (layout_with s.run s.settings.k) i))
      (same_or_not (restricted core s.settings.n) 0))

  abbrev Left : Carried → Type 0
  Left c = IsBytes (length b) c.block × IsBytes (length o) c.outbox

  same : IsBytes (length b) b
  same = record { size = refl; bytes = block }

  by_kind : (kind : Call) → Fact s.settings.t s.next kind → Left (call_of kind s b i o)
  by_kind Send at = subst Left (sym (of_send s b i o)) (same, send at)
  by_kind Receive at =
      subst Left (sym (of_receive s b i o)) (receive at, pieces at (received_block i (inbox_layout s) s.settings.sender b) (receive at).size)
  by_kind Compare at =
      subst Left (sym (of_compare s b i o)) (same, compare at (marks_of s.settings.n s.settings.t s.settings.k s.own i (inbox_layout s) b))
  by_kind Collect at = subst Left (sym (of_collect s b i o)) (same, matrix _ _)
  by_kind Tally at =
      let z = zeros_of i (inbox_layout s) s.settings.n s.settings.t in
      let a = ones_of i (inbox_layout s) s.settings.n s.settings.t in
      subst Left (sym (of_tally s b i o))
      (same, to_all-bytes (outbox_layout s) s.settings.n (seen_message s.settings.n z a) o word (bytes_seen s.settings.n z a few) outbox)
  by_kind Hold at = subst Left (sym (of_hold s b i o)) (same, king (write_phase s) _)
  by_kind Settle at = subst Left (sym (of_settle s b i o)) (same, matrix _ _)
  by_kind Core at = subst Left (sym (of_core s b i o)) (same, forward at _)
  by_kind Choose at = subst Left (sym (of_choose s b i o)) (same, choose at s.core)
  by_kind Finish at = subst Left (sym (of_finish s b i o)) (finish at s.core, record { size = refl; bytes = outbox })
  by_kind Outside at = subst Left (sym (of_outside s b i o)) (same, record { size = refl; bytes = outbox })

  pub call-bytes : Left (call_of (call_kind s.settings.t s.next) s b i o)
  call-bytes = by_kind (call_kind s.settings.t s.next) (call_fact s.settings.t s.next)

-- ---- steps
pub bytes_step : (s : State) (b i o : List ℕ) → s.run < 65536 → Bytes b → Bytes i → Bytes o
    → IsBytes (length b) (step_of s b i o).block × IsBytes (length o) (step_of s b i o).outbox
bytes_step s b i o word hb hi ho =
    let Left : After → Type 0 = λ a. IsBytes (length b) a.block × IsBytes (length o) a.outbox in
    ⊎_elim
    (λ (z : step_refusal s (length b) (length i) (length o) ≡ 0).
    subst Left (sym (step_carried s b i o z)) (call-bytes s b i o (step_0 s (length b) (length i) (length o) z) word hb hi ho))
    (λ (z : step_refusal s (length b) (length i) (length o) ≡ 0 → ⊥).
    subst Left (sym (step_refused s b i o z)) (record { size = refl; bytes = hb }, record { size = refl; bytes = ho }))
    (same_or_not (step_refusal s (length b) (length i) (length o)) 0)
