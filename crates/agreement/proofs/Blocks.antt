-- Step 2. After call 2 each correct controller i holds a block B i (`is_block`): the sender's if the sender is correct (`sender-block`); if there is
-- no sender, round 1 is silent (`round_1_silent`) and B i is its own (`own_block`). The marks of i have a correct j exactly where the codings of B i and
-- B j agree at both their places (`marks_agree`, `agree_marks`).
use mathlib.Core.Path.{◌≡◌, refl, sym, ap, subst, ◌∙◌}
use mathlib.Core.Bool.{true}
use mathlib.Core.List.{List, ◌++◌}
use mathlib.Core.Logic.{⊎_elim}
use Prim.Native.Nat.{ℕ, ◌+◌, ◌-◌, ◌*◌, ◌≤◌, ◌<◌}
use native.Mathlib.Nat.{mul-pos}
use native.Mathlib.Omega.{arith}
use lib.Dec.{lit<}
use lib.ListN.{length, length-append, replicate}
use Rattle.lists.proofs.Tests.{same_or_not}
use Rattle.bitset.specs.Set.{member}
use Rattle.bitset.proofs.Laws.{member-set, set_lt}
use Rattle.wire.specs.declared.Call.TheVariants.{Send, Receive, Compare}
use Rattle.settings.specs.declared.Settings.{Settings}
use Rattle.wire.specs.declared.slot.Layout.{Layout}
use Rattle.wire.specs.declared.Round.{Round}
use Rattle.wire.specs.declared.Round.TheVariants.{Pieces}
use Rattle.wire.specs.Length.{block_length, kind_layout, round_layout}
use Rattle.wire.specs.Slot.{width, message_of, bytes, slots}
use Rattle.wire.proofs.Laws.{call_send, call_receive, call_compare, round-block, round_pieces, round_marks, row_block, row_pieces, row_marks, block_length_is}
use Rattle.wire.proofs.Laws.{Sized, sized_bytes}
use Rattle.reed_solomon.specs.Encode.{piece_of}
use Rattle.dispersal.specs.Dispersal.{sent_block, received_block, two_pieces, sent_pieces, is_marked, marks_of, marks_message, sent_marks}
use Rattle.dispersal.proofs.Laws.{sent_block_lem, sent_silence, received-kept, received-message, length-received, received_all, sent_pieces_lem, two_pieces_is}
use Rattle.dispersal.proofs.Laws.{marks_set, marked_yes, yes_marked, sent_marks_lem}
use Rattle.protocol.specs.Calls.{Carried, send_call, receive_call, compare_call}
use Rattle.protocol.proofs.Laws.{of_send, of_receive, of_compare}
use Rattle.agreement.specs.Run.{Local}
use Rattle.agreement.specs.Agreement.{System, Correct, Supposed, call, layout_of}
use Rattle.agreement.specs.Held.{block_after}
use Rattle.agreement.proofs.System.{coded, numbered, length-block, call_at, call_first, call_next, length-round, outbox_long, performs_kind, sends_by}
use Rattle.agreement.proofs.System.{block-from, delivered}
use Rattle.agreement.proofs.Coding.{IsBlock, Code}

-- the block of i after call 2
abbrev pub held_block : System → ℕ → List ℕ
held_block S i = block_after S i 2

module _ (S : System) (H : Supposed S) where
  module _ (i : ℕ) (f : Correct S i) where
    pub len_1 : (layout_of S 1).length ≡ block_length S.settings.k S.settings.t
    len_1 = length-round S H i f 1 (round-block S.settings.t) (row_block S.settings.n S.settings.t S.settings.k)

    pub len_2 : (layout_of S 2).length ≡ 2 * S.settings.k
    len_2 = length-round S H i f 2 (round_pieces S.settings.t) (row_pieces S.settings.n S.settings.t S.settings.k)

    layout_2 : layout_of S 2 ≡ kind_layout S.run Pieces S.settings.n S.settings.t S.settings.k
    layout_2 = ap (λ (x : Round). kind_layout S.run x S.settings.n S.settings.t S.settings.k) (round_pieces S.settings.t)

    pub len_3 : (layout_of S 3).length ≡ 2
    len_3 = length-round S H i f 3 (round_marks S.settings.t) (row_marks S.settings.n S.settings.t S.settings.k)

    -- ---- call 1
    sends_1 : (call S i 1).sends ≡ sent_block (layout_of S 1) S.settings.n i S.settings.sender (S.block i) (call S i 1).lent.outbox
    sends_1 =
        let m = call S i 1 in
        let F : Settings → (own run next : ℕ) → List ℕ → List ℕ = λ s own run next b.
        sent_block (round_layout run s.n s.t s.k next) s.n own s.sender b m.lent.outbox in
        sends_by S H i f 1 (omega arith) (omega arith) Send (call_send S.settings.t) (λ s b _ o. send_call s b o) of_send
        (λ s own run next. F s own run next m.before.block) refl
        ∙ ap (F S.settings i S.run 1) (ap (λ (h : Local). h.block) (call_first S H i f))

    -- it keeps the block, so that call 2 is lent the one that the controller was started with
    lent_2 : (call S i 2).before.block ≡ S.block i
    lent_2 =
        ap (λ (h : Local). h.block) (call_next S H i f 1 (omega arith) (omega arith))
        ∙ (call_at S H i f 1 (omega arith) (omega arith)).block_is
        ∙ ap (λ (x : Carried). x.block)
        (performs_kind S H i f 1 (omega arith) (omega arith) Send (call_send S.settings.t) (λ s b _ o. send_call s b o) of_send)
        ∙ ap (λ (h : Local). h.block) (call_first S H i f)

    -- ---- call 2
    received : held_block S i ≡ received_block (call S i 2).lent.inbox (layout_of S 1) S.settings.sender (S.block i)
    received =
        let m = call S i 2 in
        let r = call_at S H i f 2 (omega arith) (omega arith) in
        let a = r.before_at in
        r.block_is
        ∙ ap (λ (x : Carried). x.block) (performs_kind S H i f 2 (omega arith) (omega arith) Receive (call_receive S.settings.t) receive_call of_receive)
        ∙ (λ x. received_block m.lent.inbox (round_layout (a.run_is x) (a.settings_is x).n (a.settings_is x).t (a.settings_is x).k (a.next_is x - 1))
        (a.settings_is x).sender (lent_2 x))

    long_2 : length (S.block i) ≡ (layout_of S 1).length
    long_2 = length-block S H i f ∙ sym len_1

    pub is_block : IsBlock S.settings.k S.settings.t (held_block S i)
    is_block = record {
      size =
          ap length received ∙ length-received (call S i 2).lent.inbox (layout_of S 1) S.settings.sender (S.block i) ∙ length-block S H i f;
      bytes = λ p.
          subst (λ (l : List ℕ). lib.ListN.get_or l p 0 < 256) (sym received)
          (received_all (call S i 2).lent.inbox (layout_of S 1) S.settings.sender (S.block i) (λ x. x < 256) (lit< tt)
          (call S i 2).lent.inbox-bytes (S.block-bytes i) long_2 p);
    }

    -- round 2: to j the own piece, then piece j
    pub pieces_sent : (call S i 2).sends ≡ slots (layout_of S 2) (two_pieces S.settings.k S.settings.t i (held_block S i)) S.settings.n
    pieces_sent =
        let m = call S i 2 in
        let o = m.lent.outbox in
        sends_by S H i f 2 (omega arith) (omega arith) Receive (call_receive S.settings.t) receive_call of_receive
        (λ s own run next. sent_pieces run s.n s.t s.k own
        (received_block m.lent.inbox (round_layout run s.n s.t s.k (next - 1)) s.sender m.before.block) o) refl
        ∙ ap (λ (b : List ℕ). sent_pieces S.run S.settings.n S.settings.t S.settings.k i
        (received_block m.lent.inbox (layout_of S 1) S.settings.sender b) o) lent_2
        ∙ ap (λ (b : List ℕ). sent_pieces S.run S.settings.n S.settings.t S.settings.k i b o) (sym received)
        ∙ sent_pieces_lem S.settings.n S.settings.t S.settings.k i (held_block S i) (coded S H i f) (numbered S H i f) is_block.size S.run o
        (outbox_long S H i f 2 (omega arith) (omega arith) ∙ ap (λ (x : Layout). S.settings.n * width x) layout_2)
        ∙ ap (λ (x : Layout). slots x (two_pieces S.settings.k S.settings.t i (held_block S i)) S.settings.n) (sym layout_2)

    -- ---- call 3
    unfoldable pub marks : ℕ
    marks = marks_of S.settings.n S.settings.t S.settings.k i (call S i 3).lent.inbox (layout_of S 2) (held_block S i)

    pub marks_sent : (call S i 3).sends ≡ slots (layout_of S 3) (λ _. bytes (marks_message S.settings.n marks)) S.settings.n
    unfolding marks
    marks_sent =
        let m = call S i 3 in
        let o = m.lent.outbox in
        let F : Settings → (own run next : ℕ) → List ℕ → List ℕ = λ s own run next b.
        sent_marks (round_layout run s.n s.t s.k next) s.n
        (marks_of s.n s.t s.k own m.lent.inbox (round_layout run s.n s.t s.k (next - 1)) b) o in
        sends_by S H i f 3 (omega arith) (omega arith) Compare (call_compare S.settings.t) compare_call of_compare
        (λ s own run next. F s own run next m.before.block) refl
        ∙ ap (F S.settings i S.run 3) (block-from S H i f 3 (omega arith) (omega arith))
        ∙ sent_marks_lem (layout_of S 3) S.settings.n
        (marks_of S.settings.n S.settings.t S.settings.k i m.lent.inbox (layout_of S 2) (held_block S i)) o
        len_3 (outbox_long S H i f 3 (omega arith) (omega arith))

    -- the marks as a set
    pub marks_member : (j : ℕ) → 1 ≤ j → j ≤ S.settings.n
        → member marks (j - 1) ≡ is_marked S.settings.k S.settings.t i (call S i 3).lent.inbox (layout_of S 2) (held_block S i) j
    unfolding marks
    marks_member j h l =
        let e : j - 1 + 1 ≡ j = omega arith in
        ap (λ (s : ℕ). member s (j - 1))
        (marks_set S.settings.n S.settings.t S.settings.k i (held_block S i) (coded S H i f) (numbered S H i f) is_block.size
        (call S i 3).lent.inbox (layout_of S 2))
        ∙ member-set S.settings.n (λ x. is_marked S.settings.k S.settings.t i (call S i 3).lent.inbox (layout_of S 2) (held_block S i) (x + 1))
        (j - 1) (omega arith)
        ∙ ap (is_marked S.settings.k S.settings.t i (call S i 3).lent.inbox (layout_of S 2) (held_block S i)) e

    pub marks_lt : marks < Prim.Native.Nat.◌^◌ 2 S.settings.n
    unfolding marks
    marks_lt =
        subst (λ (s : ℕ). s < Prim.Native.Nat.◌^◌ 2 S.settings.n)
        (sym (marks_set S.settings.n S.settings.t S.settings.k i (held_block S i) (coded S H i f) (numbered S H i f) is_block.size
        (call S i 3).lent.inbox (layout_of S 2)))
        (set_lt S.settings.n (λ x. is_marked S.settings.k S.settings.t i (call S i 3).lent.inbox (layout_of S 2) (held_block S i) (x + 1)))

  -- ---- the sender is correct
  module _ (g : Correct S S.settings.sender) where
    sent : (call S S.settings.sender 1).sends ≡ slots (layout_of S 1) (λ _. bytes (S.block S.settings.sender)) S.settings.n
    sent =
        let i = S.settings.sender in
        sends_1 i g
        ∙ sent_block_lem (layout_of S 1) S.settings.n i i (S.block i) (call S i 1).lent.outbox refl (long_2 i g)
        (outbox_long S H i g 1 (omega arith) (omega arith))

    pub sender-block : (i : ℕ) → Correct S i → held_block S i ≡ S.block S.settings.sender
    sender-block i f =
        let came : message_of (call S i 2).lent.inbox (layout_of S 1) S.settings.sender ≡ S.block S.settings.sender =
        delivered S H S.settings.sender i 1 g f (omega arith) (omega arith) (λ _. bytes (S.block S.settings.sender))
        (λ m. sized_bytes (layout_of S 1) (S.block S.settings.sender) (long_2 S.settings.sender g)) sent in
        let some : 0 < S.settings.k * (S.settings.t + 1) = mul-pos (coded S H i f).k_least (omega arith) in
        received i f
        ∙ received-message (call S i 2).lent.inbox (layout_of S 1) S.settings.sender (S.block i) (λ z. omega (arith, g.least, z))
        (λ z. omega (arith, ap length came, length-block S H S.settings.sender g, block_length_is S.settings.k S.settings.t)) (long_2 i f)
        ∙ came

  -- ---- there is no sender
  pub round_1_silent : S.settings.sender ≡ 0 → (i : ℕ) → Correct S i → (call S i 1).sends ≡ replicate (S.settings.n * width (layout_of S 1)) 0
  round_1_silent z i f =
      sends_1 i f
      ∙ sent_silence (layout_of S 1) S.settings.n i S.settings.sender (S.block i) (call S i 1).lent.outbox (λ e. omega (arith, f.least, e, z))
      ∙ ap (λ (x : ℕ). replicate x 0) (outbox_long S H i f 1 (omega arith) (omega arith))

  pub own_block : S.settings.sender ≡ 0 → (i : ℕ) → Correct S i → held_block S i ≡ S.block i
  own_block z i f = received i f ∙ received-kept (call S i 2).lent.inbox (layout_of S 1) S.settings.sender (S.block i) z

  -- ---- marks between two correct controllers
  module _ (C : Code S.run S.settings.n S.settings.t S.settings.k) where
    piece : ℕ → ℕ → List ℕ
    piece i j = piece_of S.settings.k S.settings.t (held_block S i) j

    -- what j reads of i in call 3: i's own piece, then piece j of i's coding
    pieces_read : (i j : ℕ) → Correct S i → Correct S j
        → message_of (call S j 3).lent.inbox (layout_of S 2) i ≡ piece_of S.settings.k S.settings.t (held_block S i) i ++ piece_of S.settings.k
        S.settings.t (held_block S i) j
    pieces_read i j f g =
        delivered S H i j 2 f g (omega arith) (omega arith) (two_pieces S.settings.k S.settings.t i (held_block S i))
        (λ m. subst (Sized (layout_of S 2)) (sym (two_pieces_is S.settings.k S.settings.t i (held_block S i) m))
        (sized_bytes (layout_of S 2) (piece_of S.settings.k S.settings.t (held_block S i) i ++ piece_of S.settings.k S.settings.t (held_block S i) m)
        (length-append (piece_of S.settings.k S.settings.t (held_block S i) i) (piece_of S.settings.k S.settings.t (held_block S i) m)
        ∙ omega (arith, C.length_piece (held_block S i) i, C.length_piece (held_block S i) m, len_2 i f))))
        (pieces_sent i f)
        ∙ ap Rattle.wire.proofs.Laws.content (two_pieces_is S.settings.k S.settings.t i (held_block S i) j)

    -- i marks j: the codings agree at both places
    pub marks_agree : (i j : ℕ) (f : Correct S i) (g : Correct S j) → member (marks i f) (j - 1) ≡ true
        → (piece_of S.settings.k S.settings.t (held_block S j) j ≡ piece_of S.settings.k S.settings.t (held_block S i) j) × (piece_of
        S.settings.k S.settings.t (held_block S j) i ≡ piece_of S.settings.k S.settings.t (held_block S i) i)
    marks_agree i j f g y =
        ⊎_elim
        (λ (e : j ≡ i). (
          ap (λ (x : ℕ). piece_of S.settings.k S.settings.t (held_block S x) j) e,
          ap
              (λ (x : ℕ). piece_of S.settings.k S.settings.t (held_block S x) i) e,
        ))
        (λ (n : j ≡ i → ⊥).
        marked_yes S.settings.k S.settings.t i (call S i 3).lent.inbox (layout_of S 2) (held_block S i) j
        (piece_of S.settings.k S.settings.t (held_block S j) j) (piece_of S.settings.k S.settings.t (held_block S j) i)
        (pieces_read j i g f) (C.length_piece (held_block S j) j) (coded S H i f).k_least
        (sym (marks_member i f j g.least g.most) ∙ y) n)
        (same_or_not j i)

    pub agree_marks : (i j : ℕ) (f : Correct S i) (g : Correct S j)
        → piece_of S.settings.k S.settings.t (held_block S j) j ≡ piece_of S.settings.k S.settings.t (held_block S i) j
        → piece_of S.settings.k S.settings.t (held_block S j) i ≡ piece_of S.settings.k S.settings.t (held_block S i) i
        → member (marks i f) (j - 1) ≡ true
    agree_marks i j f g p q =
        marks_member i f j g.least g.most
        ∙ yes_marked S.settings.k S.settings.t i (call S i 3).lent.inbox (layout_of S 2) (held_block S i) j
        (piece_of S.settings.k S.settings.t (held_block S j) j) (piece_of S.settings.k S.settings.t (held_block S j) i)
        (pieces_read j i g f) (C.length_piece (held_block S j) j) (coded S H i f).k_least p q
