-- Step 5. Where there is a core, whose correct members hold B, every correct controller sends its piece of B in round 3t + 8 (`piece_sent`): at
-- least t + 1 correct members gave it that piece, and at most t members lie.
use mathlib.Core.Path.{◌≡◌, sym, ap, ap₂, subst, ◌∙◌}
use mathlib.Core.Bool.{true, false, ◌&&◌}
use mathlib.Core.List.{List}
use mathlib.Core.Logic.{⊎_elim}
use Prim.Native.Nat.{ℕ, ◌+◌, ◌-◌, ◌*◌, ◌≤◌}
use native.Mathlib.Omega.{arith}
use Rattle.lists.specs.Sum.{count}
use Rattle.lists.proofs.Tests.{either}
use Rattle.bitset.specs.Set.{member}
use Rattle.wire.specs.declared.Call.TheVariants.{Core, Choose}
use Rattle.settings.specs.declared.Settings.{Settings}
use Rattle.wire.specs.declared.slot.Layout.{Layout}
use Rattle.wire.specs.declared.Round.{Round}
use Rattle.wire.specs.declared.Round.TheVariants.{Forward, Rebuild}
use Rattle.wire.specs.Length.{kind_layout, round_layout}
use Rattle.wire.specs.Slot.{layout_with, width, message_of, bytes, slots}
use Rattle.wire.proofs.Laws.{call_core, call_choose, round_forward, round_rebuild, row_forward, row_rebuild, sized_bytes}
use Rattle.reed_solomon.specs.Encode.{piece_of}
use Rattle.protocol.specs.Calls.{core_of, inbox_layout}
use Rattle.reconstruction.specs.Reconstruction.{in_core, forwarded, own_piece, shared}
use Rattle.reconstruction.proofs.Laws.{in_core_lem, forwarded-member, shared_sends, own_member, own_other, chosen}
use Rattle.protocol.specs.declared.State.{State}
use Rattle.protocol.specs.Calls.{core_call, choose_call}
use Rattle.protocol.proofs.Laws.{of_core, of_choose}
use Rattle.agreement.specs.Agreement.{System, Correct, Supposed, last, call, layout_of, piece_layout}
use Rattle.agreement.proofs.System.{coded, numbered, length-round, outbox_long, sends_by, state_by, block-from, delivered}
use Rattle.agreement.proofs.Coding.{Code}
use Rattle.agreement.proofs.Blocks.{held_block, is_block}
use Rattle.agreement.proofs.Votes.{correct_at, by_index}
use Rattle.agreement.proofs.Cores.{last_matrix, core_of_lem, core_choose}

module _ (S : System) (H : Supposed S) where
  module _ (i : ℕ) (f : Correct S i) where
    pub len_forward : (layout_of S (3 * S.settings.t + 7)).length ≡ S.settings.k
    len_forward =
        length-round S H i f (3 * S.settings.t + 7) (round_forward S.settings.t) (row_forward S.settings.n S.settings.t S.settings.k)

    pub len_rebuild : (layout_of S (3 * S.settings.t + 8)).length ≡ S.settings.k
    len_rebuild =
        length-round S H i f (3 * S.settings.t + 8) (round_rebuild S.settings.t) (row_rebuild S.settings.n S.settings.t S.settings.k)

    layout_forward : layout_of S (3 * S.settings.t + 7) ≡ kind_layout S.run Forward S.settings.n S.settings.t S.settings.k
    layout_forward = ap (λ (x : Round). kind_layout S.run x S.settings.n S.settings.t S.settings.k) (round_forward S.settings.t)

    pub layout_rebuild : layout_of S (3 * S.settings.t + 8) ≡ kind_layout S.run Rebuild S.settings.n S.settings.t S.settings.k
    layout_rebuild = ap (λ (x : Round). kind_layout S.run x S.settings.n S.settings.t S.settings.k) (round_rebuild S.settings.t)

    -- the core of i, as a set
    abbrev pub core_at : ℕ
    core_at = core_of (last_matrix S i) S.settings.n S.settings.t

    -- a core member sends to x piece x of its own coding
    forward_sent : member core_at (i - 1) ≡ true → (call S i (3 * S.settings.t + 7)).sends ≡ slots (layout_of S (3 * S.settings.t + 7))
        (λ x. bytes (piece_of S.settings.k S.settings.t (held_block S i) x)) S.settings.n
    forward_sent y =
        let m = call S i (3 * S.settings.t + 7) in
        let e : (core_call m.before.state m.before.block m.lent.inbox m.lent.outbox).state.core ≡ core_at =
        sym (ap (λ (s : State). s.core)
        (state_by S H i f (3 * S.settings.t + 7) (omega arith) (omega arith) Core (call_core S.settings.t) core_call of_core))
        ∙ core_of_lem S H i f in
        sends_by S H i f (3 * S.settings.t + 7) (omega arith) (omega arith) Core (call_core S.settings.t) core_call of_core
        (λ s own run next. forwarded run s.n s.t s.k own core_at (held_block S i) m.lent.outbox)
        (λ x. forwarded m.before.state.run m.before.state.settings.n m.before.state.settings.t m.before.state.settings.k
        m.before.state.own (e x)
        (block-from S H i f (3 * S.settings.t + 7) (omega arith) (omega arith) x) m.lent.outbox)
        ∙ forwarded-member S.settings.n S.settings.t S.settings.k i (held_block S i) (coded S H i f) (numbered S H i f)
        (is_block S H i f).size S.run core_at m.lent.outbox
        (in_core_lem core_at i f.least ∙ y)
        (outbox_long S H i f (3 * S.settings.t + 7) (omega arith) (omega arith) ∙ ap (λ (x : Layout). S.settings.n * width x) layout_forward)
        ∙ ap (λ (x : Layout). slots x (λ x. bytes (piece_of S.settings.k S.settings.t (held_block S i) x)) S.settings.n) (sym layout_forward)

  -- ---- a core, whose correct members hold B
  module _ (C : Code S.run S.settings.n S.settings.t S.settings.k) (e : ℕ) (B : List ℕ)
      (core_is : (i : ℕ) → Correct S i → core_of (last_matrix S i) S.settings.n S.settings.t ≡ e)
      (enough : S.settings.t + 1 ≤ count S.settings.n (λ x. member e x && correct_at S x))
      (holds : (i : ℕ) → Correct S i → member e (i - 1) ≡ true → held_block S i ≡ B) where
    -- what a correct member gave to i
    given : (i j : ℕ) (f : Correct S i) → Correct S j → member e (j - 1) ≡ true
        → message_of (call S i (3 * S.settings.t + 8)).lent.inbox (layout_of S (3 * S.settings.t + 7)) j ≡ piece_of S.settings.k S.settings.t B i
    given i j f g y =
        let n : 3 * S.settings.t + 7 + 1 ≡ 3 * S.settings.t + 8 = omega arith in
        subst (λ (c : ℕ). message_of (call S i c).lent.inbox (layout_of S (3 * S.settings.t + 7)) j ≡ piece_of S.settings.k S.settings.t B i) n
        (delivered S H j i (3 * S.settings.t + 7) g f (omega arith) (omega arith) (λ x. bytes (piece_of S.settings.k S.settings.t (held_block S j) x))
        (λ x. sized_bytes (layout_of S (3 * S.settings.t + 7)) (piece_of S.settings.k S.settings.t (held_block S j) x)
        (C.length_piece (held_block S j) x ∙ sym (len_forward j g)))
        (forward_sent j g (ap (λ (s : ℕ). member s (j - 1)) (core_is j g) ∙ y))
        ∙ ap (λ (b : List ℕ). piece_of S.settings.k S.settings.t b i) (holds j g y))

    module _ (i : ℕ) (f : Correct S i) where
      -- the piece of i: its own if it is a member, else the one that at least t + 1 members sent
      own : own_piece S.settings.n S.settings.t S.settings.k i e (call S i (3 * S.settings.t + 8)).lent.inbox
          (layout_of S (3 * S.settings.t + 7)) (held_block S i) ≡ piece_of S.settings.k S.settings.t B i
      own =
          ⊎_elim
          (λ (y : in_core e i ≡ true).
          own_member S.settings.n S.settings.t S.settings.k i e (call S i (3 * S.settings.t + 8)).lent.inbox
          (layout_of S (3 * S.settings.t + 7)) (held_block S i) y
          ∙ ap (λ (b : List ℕ). piece_of S.settings.k S.settings.t b i) (holds i f (sym (in_core_lem e i f.least) ∙ y)))
          (λ (y : in_core e i ≡ false).
          own_other S.settings.n S.settings.t S.settings.k i e (call S i (3 * S.settings.t + 8)).lent.inbox
          (layout_of S (3 * S.settings.t + 7)) (held_block S i) y
          ∙ chosen S.settings.n S.settings.t e (call S i (3 * S.settings.t + 8)).lent.inbox (layout_of S (3 * S.settings.t + 7)) (correct_at S)
          (piece_of S.settings.k S.settings.t B i)
          (λ z. omega (arith, C.length_piece B i, (coded S H i f).k_least)) H.few enough
          (λ x l m c.
          let g = by_index S x (l, c) in
          let b : x + 1 - 1 ≡ x = omega arith in
          given i (x + 1) f g (ap (member e) b ∙ m)))
          (either (in_core e i))

      pub piece_sent : (call S i (3 * S.settings.t + 8)).sends ≡ slots (layout_of S (3 * S.settings.t + 8))
          (λ _. bytes (piece_of S.settings.k S.settings.t B i)) S.settings.n
      piece_sent =
          let m = call S i (3 * S.settings.t + 8) in
          let n : 3 * S.settings.t + 8 - 1 ≡ 3 * S.settings.t + 7 = omega arith in
          let F : Settings → (own run c : ℕ) → List ℕ = λ s own run c.
          shared s.n s.t s.k own e m.lent.inbox (round_layout run s.n s.t s.k c) (held_block S i) m.lent.outbox in
          sends_by S H i f (3 * S.settings.t + 8) (omega arith) (omega arith) Choose (call_choose S.settings.t) choose_call of_choose
          (λ s own run next. F s own run (next - 1))
          (λ x. shared m.before.state.settings.n m.before.state.settings.t m.before.state.settings.k m.before.state.own
          ((core_choose S H i f ∙ core_is i f) x) m.lent.inbox
          (inbox_layout m.before.state) (block-from S H i f (3 * S.settings.t + 8) (omega arith) (omega arith) x) m.lent.outbox)
          ∙ ap (F S.settings i S.run) n
          ∙ shared_sends S.settings.n S.settings.t S.settings.k i (held_block S i) (coded S H i f) (numbered S H i f) (is_block S H i f).size e
          m.lent.inbox (layout_of S (3 * S.settings.t + 7)) m.lent.outbox
          (outbox_long S H i f (3 * S.settings.t + 8) (omega arith) (omega arith) ∙ ap (λ (x : Layout). S.settings.n * width x) (layout_rebuild i f))
          (piece_of S.settings.k S.settings.t B i) own (C.length_piece B i)
          ∙ ap (λ (x : Layout). slots x (λ _. bytes (piece_of S.settings.k S.settings.t B i)) S.settings.n) (sym (layout_rebuild i f))

      -- and every correct j reads it in its last call
      pub piece_read : (j : ℕ) → Correct S j → message_of (call S j (last S)).lent.inbox (piece_layout S) i ≡ piece_of S.settings.k
          S.settings.t B i
      piece_read j g =
          let n : 3 * S.settings.t + 8 + 1 ≡ last S = omega arith in
          ap₂ (λ (c l : ℕ). message_of (call S j c).lent.inbox (layout_with S.run l) i) (sym n) (sym (len_rebuild i f))
          ∙ delivered S H i j (3 * S.settings.t + 8) f g (omega arith) (omega arith) (λ _. bytes (piece_of S.settings.k S.settings.t B i))
          (λ x. sized_bytes (layout_of S (3 * S.settings.t + 8)) (piece_of S.settings.k S.settings.t B i)
          (C.length_piece B i ∙ sym (len_rebuild i f))) piece_sent
