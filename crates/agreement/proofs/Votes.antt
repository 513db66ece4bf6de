-- Step 3. The vote: after call 3t + 7 all correct controllers hold one matrix (`one_matrix`), and a correct controller's row in it is its marks
-- (`row_is_marks`).
use mathlib.Core.Path.{◌≡◌, refl, sym, ap, ap₂, subst, ◌∙◌}
use mathlib.Core.Bool.{Bool, true}
use mathlib.Core.List.{List}
use mathlib.Core.Logic.{⊎_elim}
use Prim.Native.Nat.{ℕ, zero, suc, ◌+◌, ◌-◌, ◌*◌, ◌≤◌, ◌<◌}
use native.Mathlib.Omega.{arith}
use lib.ListN.{length, get_or}
use Rattle.lists.specs.Sum.{count}
use Rattle.lists.proofs.Tests.{same_or_not}
use Rattle.lists.proofs.Sums.{count-not}
use Rattle.bitset.specs.Row.{rows_of}
use Rattle.bitset.proofs.Laws.{restrict_below, length_rows_few}
use Rattle.settings.specs.declared.Settings.{Settings}
use Rattle.wire.specs.declared.slot.Layout.{Layout}
use Rattle.wire.specs.declared.Call.{Call}
use Rattle.wire.specs.declared.Call.TheVariants.{Collect, Tally, Hold, Settle, Core}
use Rattle.wire.specs.Round.{call_kind, round_kind, phase_of}
use Rattle.wire.specs.Length.{round_layout}
use Rattle.wire.specs.Slot.{message_of, bytes, to_all}
use Rattle.wire.proofs.Laws.{call_collect, call_tally, call_hold, call_settle, call_core, round_matrix, round_seen, round_king, row_matrix, row_seen}
use Rattle.wire.proofs.Laws.{row_king, phase_king, to_all_lem, sized_bytes}
use Rattle.dispersal.specs.Dispersal.{marks_message}
use Rattle.dispersal.proofs.Laws.{row_of_marks, length_marks}
use Rattle.phase_king.specs.Matrix.{limit, first_matrix, zeros_of, ones_of, held_of, weak_of, settled_of, seen_message, sent_by_king}
use Rattle.phase_king.specs.Vote.{Resilient, MatrixPhase, Agreed, phase_count}
use Rattle.phase_king.proofs.Laws.{vote_in_order, marks_kept, length_seen_few, king_all}
use Rattle.protocol.specs.declared.State.{State}
use Rattle.protocol.specs.Calls.{Carried, inbox_layout, matrix_to_all, settled_matrix, collect_call, tally_call, hold_call, settle_call, core_call, call_of}
use Rattle.protocol.proofs.Laws.{of_collect, of_tally, of_hold, of_settle, of_core}
use Rattle.agreement.specs.Run.{Local}
use Rattle.agreement.specs.Agreement.{System, Correct, Supposed, last, call, layout_of}
use Rattle.agreement.proofs.System.{coded, call_next, length-round, outbox_long, sends_by, state_by, leaves_by, delivered}
use Rattle.agreement.proofs.Blocks.{len_3, marks, marks_sent, marks_lt}

-- who is correct, by index
abbrev pub correct_at : System → ℕ → Bool
correct_at S i = S.correct (i + 1)

pub by_index : (S : System) (i : ℕ) → (i < S.settings.n) × (correct_at S i ≡ true) → Correct S (i + 1)
by_index S i f = record { least = omega arith; most = omega (arith, f.0); is = f.1 }

pub to_index : (S : System) (i : ℕ) → Correct S i → (i - 1 < S.settings.n) × (correct_at S (i - 1) ≡ true)
to_index S i f =
    let h = f.least in
    let l = f.most in
    let e : i - 1 + 1 ≡ i = omega arith in
    (omega arith, ap S.correct e ∙ f.is)

-- the matrix of controller i + 1 before phase p, counted from 0
abbrev pub rows_at : System → ℕ → ℕ → List ℕ
rows_at S p i = (call S (i + 1) (3 * p + 4)).after.state.matrix

module _ (S : System) (H : Supposed S) where
  pub most_correct : S.settings.n ≤ count S.settings.n (correct_at S) + S.settings.t
  most_correct = omega (arith, count-not S.settings.n (correct_at S), H.few)

  voters : Resilient S.settings.n S.settings.t (correct_at S)
  voters = record { small = omega (arith, H.tolerance); most = most_correct }

  -- a message to all is in every slot
  all_read : (i j : ℕ) (f : Correct S i) → Correct S j → (c : ℕ) → 1 ≤ c → c < last S → (m : List ℕ) → length m ≡ (layout_of S c).length
      → (call S i c).sends ≡ to_all (layout_of S c) S.settings.n m (call S i c).lent.outbox
      → message_of (call S j (c + 1)).lent.inbox (layout_of S c) i ≡ m
  all_read i j f g c h l m long e =
      delivered S H i j c f g h l (λ _. bytes m) (λ x. sized_bytes (layout_of S c) m long)
      (e ∙ to_all_lem (layout_of S c) S.settings.n m (call S i c).lent.outbox long (outbox_long S H i f c h l))

  module _ (i : ℕ) (f : Correct S i) where
    few_rows : S.settings.n ≤ 16
    few_rows = (coded S H i f).quorum.n_most

    -- lengths of the vote's messages, phase p counted from 0
    len_matrix : (p : ℕ) → p < suc S.settings.t → (layout_of S (3 * p + 4)).length ≡ 2 * S.settings.n
    len_matrix p l =
        let e : 3 * p + 4 ≡ 3 * (p + 1) + 1 = omega arith in
        length-round S H i f (3 * p + 4) (ap (round_kind S.settings.t) e ∙ round_matrix S.settings.t (p + 1) (omega arith) (omega arith))
        (row_matrix S.settings.n S.settings.t S.settings.k)

    len_seen : (p : ℕ) → p < suc S.settings.t → (layout_of S (3 * p + 5)).length ≡ 4 * S.settings.n
    len_seen p l =
        let e : 3 * p + 5 ≡ 3 * (p + 1) + 2 = omega arith in
        length-round S H i f (3 * p + 5) (ap (round_kind S.settings.t) e ∙ round_seen S.settings.t (p + 1) (omega arith) (omega arith))
        (row_seen S.settings.n S.settings.t S.settings.k)

    len_king : (p : ℕ) → p < suc S.settings.t → (layout_of S (3 * p + 6)).length ≡ 2 * S.settings.n
    len_king p l =
        let e : 3 * p + 6 ≡ 3 * (p + 1) + 3 = omega arith in
        length-round S H i f (3 * p + 6) (ap (round_kind S.settings.t) e ∙ round_king S.settings.t (p + 1) (omega arith) (omega arith))
        (row_king S.settings.n S.settings.t S.settings.k)

    -- a call that leaves a matrix and sends it to all
    matrix_by : (c : ℕ) (least : 1 ≤ c) (most : c ≤ last S) (kind : Call) (is : call_kind S.settings.t c ≡ kind)
        (D : State → List ℕ → List ℕ → List ℕ → Carried) (does : (s : State) (b x o : List ℕ) → call_of kind s b x o ≡ D s b x o)
        → ((s : State) (b x o : List ℕ) → (D s b x o).outbox ≡ matrix_to_all s (D s b x o).state.matrix o)
        → (call S i c).sends ≡ to_all (layout_of S c) S.settings.n (rows_of S.settings.n (call S i c).after.state.matrix) (call S i c).lent.outbox
    matrix_by c least most kind is D does law =
        let m = call S i c in
        let rows = (D m.before.state m.before.block m.lent.inbox m.lent.outbox).state.matrix in
        sends_by S H i f c least most kind is D does
        (λ s own run next. to_all (round_layout run s.n s.t s.k next) s.n (rows_of s.n rows) m.lent.outbox)
        (law m.before.state m.before.block m.lent.inbox m.lent.outbox)
        ∙ ap (λ (x : List ℕ). to_all (layout_of S c) S.settings.n (rows_of S.settings.n x) m.lent.outbox)
        (sym (ap (λ (s : State). s.matrix) (state_by S H i f c least most kind is D does)))

    -- ---- call 4
    first_rows : (call S i 4).after.state.matrix ≡ first_matrix (call S i 4).lent.inbox (layout_of S 3) S.settings.n
    first_rows =
        leaves_by S H i f 4 (omega arith) (omega arith) Collect (call_collect S.settings.t) collect_call of_collect (λ s. s.matrix)
        (λ s own run next. first_matrix (call S i 4).lent.inbox (round_layout run s.n s.t s.k (next - 1)) s.n) refl

    -- ---- phase p, counted from 0
    module _ (p : ℕ) (l : p < suc S.settings.t) where
      -- call 3p + 5: zeros and ones
      tally_kind : call_kind S.settings.t (3 * p + 5) ≡ Tally
      tally_kind =
          let e : 3 * p + 5 ≡ 3 * (p + 1) + 2 = omega arith in
          ap (call_kind S.settings.t) e ∙ call_tally S.settings.t (p + 1) (omega arith) (omega arith)

      seen_sent : (call S i (3 * p + 5)).sends
          ≡ to_all (layout_of S (3 * p + 5)) S.settings.n
          (seen_message S.settings.n (zeros_of (call S i (3 * p + 5)).lent.inbox (layout_of S (3 * p + 4)) S.settings.n S.settings.t)
          (ones_of (call S i (3 * p + 5)).lent.inbox (layout_of S (3 * p + 4)) S.settings.n S.settings.t))
          (call S i (3 * p + 5)).lent.outbox
      seen_sent =
          let m = call S i (3 * p + 5) in
          let e : 3 * p + 5 - 1 ≡ 3 * p + 4 = omega arith in
          let F : Settings → (run c d : ℕ) → List ℕ = λ s run c d.
          to_all (round_layout run s.n s.t s.k c) s.n
          (seen_message s.n (zeros_of m.lent.inbox (round_layout run s.n s.t s.k d) s.n s.t)
          (ones_of m.lent.inbox (round_layout run s.n s.t s.k d) s.n s.t))
          m.lent.outbox in
          sends_by S H i f (3 * p + 5) (omega arith) (omega arith) Tally tally_kind tally_call of_tally (λ s own run next. F s run next (next - 1)) refl
          ∙ ap (F S.settings S.run (3 * p + 5)) e

      -- call 3p + 6: the bits held
      hold_kind : call_kind S.settings.t (3 * p + 6) ≡ Hold
      hold_kind =
          let e : 3 * p + 6 ≡ 3 * (p + 1) + 3 = omega arith in
          ap (call_kind S.settings.t) e ∙ call_hold S.settings.t (p + 1) (omega arith) (omega arith)

      -- what is left of them, by a field of the state
      hold_by : (g : State → List ℕ) (R : List ℕ → Layout → ℕ → ℕ → List ℕ)
          → ((s : State) (b x o : List ℕ) → g (hold_call s b x o).state ≡ R x (inbox_layout s) s.settings.n s.settings.t)
          → g (call S i (3 * p + 6)).after.state ≡ R (call S i (3 * p + 6)).lent.inbox (layout_of S (3 * p + 5)) S.settings.n S.settings.t
      hold_by g R law =
          let m = call S i (3 * p + 6) in
          let e : 3 * p + 6 - 1 ≡ 3 * p + 5 = omega arith in
          leaves_by S H i f (3 * p + 6) (omega arith) (omega arith) Hold hold_kind hold_call of_hold g
          (λ s own run next. R m.lent.inbox (round_layout run s.n s.t s.k (next - 1)) s.n s.t)
          (law m.before.state m.before.block m.lent.inbox m.lent.outbox)
          ∙ ap (λ (c : ℕ). R m.lent.inbox (layout_of S c) S.settings.n S.settings.t) e

      held_rows : (call S i (3 * p + 6)).after.state.matrix ≡ held_of (call S i (3 * p + 6)).lent.inbox (layout_of S (3 * p + 5)) S.settings.n
          S.settings.t
      held_rows = hold_by (λ s. s.matrix) held_of (λ s b x o. refl)

      weak_rows : (call S i (3 * p + 6)).after.state.weak ≡ weak_of (call S i (3 * p + 6)).lent.inbox (layout_of S (3 * p + 5)) S.settings.n
          S.settings.t
      weak_rows = hold_by (λ s. s.weak) weak_of (λ s b x o. refl)

      -- king p + 1 sends them
      king_sent : i ≡ p + 1 → (call S i (3 * p + 6)).sends
          ≡ to_all (layout_of S (3 * p + 6)) S.settings.n
          (rows_of S.settings.n (held_of (call S i (3 * p + 6)).lent.inbox (layout_of S (3 * p + 5)) S.settings.n S.settings.t))
          (call S i (3 * p + 6)).lent.outbox
      king_sent king =
          let m = call S i (3 * p + 6) in
          let e : 3 * p + 6 - 1 ≡ 3 * p + 5 = omega arith in
          let q : 3 * p + 6 ≡ 3 * (p + 1) + 3 = omega arith in
          let u : limit S.settings.n ≡ S.settings.n = omega (arith, few_rows) in
          let rows = held_of m.lent.inbox (layout_of S (3 * p + 5)) S.settings.n S.settings.t in
          let F : Settings → (own run c d : ℕ) → List ℕ = λ s own run c d.
          sent_by_king (round_layout run s.n s.t s.k c) own (phase_of c) s.n
          (held_of m.lent.inbox (round_layout run s.n s.t s.k d) s.n s.t)
          m.lent.outbox in
          sends_by S H i f (3 * p + 6) (omega arith) (omega arith) Hold hold_kind hold_call of_hold (λ s own run next. F s own run next (next - 1)) refl
          ∙ ap (F S.settings i S.run (3 * p + 6)) e
          ∙ king_all (layout_of S (3 * p + 6)) i (phase_of (3 * p + 6)) S.settings.n rows m.lent.outbox (king ∙ sym (ap phase_of q ∙ phase_king (p + 1)))
          ∙ ap (λ (x : ℕ). to_all (layout_of S (3 * p + 6)) x (rows_of S.settings.n rows) m.lent.outbox) u

      -- call 3p + 7, after the king's round: it settles the matrix
      settled_kind : (kind : Call) → call_kind S.settings.t (3 * p + 7) ≡ kind
          → (D : State → List ℕ → List ℕ → List ℕ → Carried) → ((s : State) (b x o : List ℕ) → call_of kind s b x o ≡ D s b x o)
          → ((s : State) (b x o : List ℕ) → (D s b x o).state.matrix ≡ settled_matrix s x)
          → (call S i (3 * p + 7)).after.state.matrix
          ≡ settled_of (call S i (3 * p + 7)).before.state.matrix (call S i (3 * p + 7)).before.state.weak (call S i (3 * p + 7)).lent.inbox
          (layout_of S (3 * p + 6)) S.settings.n (p + 1)
      settled_kind kind is D does law =
          let m = call S i (3 * p + 7) in
          let e : 3 * p + 7 - 1 ≡ 3 * p + 6 = omega arith in
          let q : 3 * p + 6 ≡ 3 * (p + 1) + 3 = omega arith in
          let F : Settings → (run c king : ℕ) → List ℕ = λ s run c king.
          settled_of m.before.state.matrix m.before.state.weak m.lent.inbox (round_layout run s.n s.t s.k c) s.n king in
          leaves_by S H i f (3 * p + 7) (omega arith) (omega arith) kind is D does (λ s. s.matrix) (λ s own run next. F s run (next - 1) (phase_of (next - 1)))
          (law m.before.state m.before.block m.lent.inbox m.lent.outbox)
          ∙ ap₂ (F S.settings S.run) e (ap phase_of (e ∙ q) ∙ phase_king (p + 1))

      settled_rows_lem : (call S i (3 * p + 7)).after.state.matrix
          ≡ settled_of (call S i (3 * p + 7)).before.state.matrix (call S i (3 * p + 7)).before.state.weak (call S i (3 * p + 7)).lent.inbox
          (layout_of S (3 * p + 6)) S.settings.n (p + 1)
      settled_rows_lem =
          ⊎_elim
          (λ (e : p ≡ S.settings.t).
          let q : 3 * p + 7 ≡ 3 * S.settings.t + 7 = omega arith in
          settled_kind Core (ap (call_kind S.settings.t) q ∙ call_core S.settings.t) core_call of_core (λ s b x o. refl))
          (λ (n : p ≡ S.settings.t → ⊥).
          let q : 3 * p + 7 ≡ 3 * (p + 1) + 4 = omega arith in
          settled_kind Settle (ap (call_kind S.settings.t) q ∙ call_settle S.settings.t (p + 1) (omega arith) (omega arith)) settle_call of_settle
          (λ s b x o. refl))
          (same_or_not p S.settings.t)

    -- ---- call 3p + 4: the matrix that the phase starts with
    matrix_sent : (p : ℕ) → p < suc S.settings.t
        → (call S i (3 * p + 4)).sends ≡ to_all (layout_of S (3 * p + 4)) S.settings.n (rows_of S.settings.n (call S i (3 * p + 4)).after.state.matrix)
        (call S i (3 * p + 4)).lent.outbox
    matrix_sent zero l = matrix_by 4 (omega arith) (omega arith) Collect (call_collect S.settings.t) collect_call of_collect (λ s b x o. refl)
    matrix_sent (suc q) l =
        let e : 3 * suc q + 4 ≡ 3 * (q + 1) + 4 = omega arith in
        matrix_by (3 * suc q + 4) (omega arith) (omega arith) Settle
        (ap (call_kind S.settings.t) e ∙ call_settle S.settings.t (q + 1) (omega arith) (omega arith)) settle_call of_settle (λ s b x o. refl)

  -- ---- a phase, in terms of what the inboxes hold
  phase : (p : ℕ) → p < suc S.settings.t → MatrixPhase S.settings.n S.settings.t (correct_at S) p (rows_at S p) (rows_at S (suc p))
  phase p l = record {
    layout1 = layout_of S (3 * p + 4);
    layout2 = layout_of S (3 * p + 5);
    layout3 = layout_of S (3 * p + 6);
    in1 = λ i. (call S (i + 1) (3 * p + 5)).lent.inbox;
    in2 = λ i. (call S (i + 1) (3 * p + 6)).lent.inbox;
    in3 = λ i. (call S (i + 1) (3 * p + 7)).lent.inbox;
    first = λ i j f g.
        let fi = by_index S i f in
        let gj = by_index S j g in
        let e : 3 * p + 4 + 1 ≡ 3 * p + 5 = omega arith in
        subst (λ (c : ℕ). message_of (call S (i + 1) c).lent.inbox (layout_of S (3 * p + 4)) (j + 1) ≡ rows_of S.settings.n (rows_at S p j)) e
        (all_read (j + 1) (i + 1) gj fi (3 * p + 4) (omega arith) (omega arith) (rows_of S.settings.n (rows_at S p j))
        (length_rows_few S.settings.n (rows_at S p j) (few_rows (j + 1) gj) ∙ sym (len_matrix (j + 1) gj p l)) (matrix_sent (j + 1) gj p l));
    second = λ i j f g.
        let fi = by_index S i f in
        let gj = by_index S j g in
        let e : 3 * p + 5 + 1 ≡ 3 * p + 6 = omega arith in
        let z = zeros_of (call S (j + 1) (3 * p + 5)).lent.inbox (layout_of S (3 * p + 4)) S.settings.n S.settings.t in
        let o = ones_of (call S (j + 1) (3 * p + 5)).lent.inbox (layout_of S (3 * p + 4)) S.settings.n S.settings.t in
        subst (λ (c : ℕ). message_of (call S (i + 1) c).lent.inbox (layout_of S (3 * p + 5)) (j + 1) ≡ seen_message S.settings.n z o) e
        (all_read (j + 1) (i + 1) gj fi (3 * p + 5) (omega arith) (omega arith) (seen_message S.settings.n z o)
        (length_seen_few S.settings.n z o (few_rows (j + 1) gj) ∙ sym (len_seen (j + 1) gj p l)) (seen_sent (j + 1) gj p l));
    third = λ i f g.
        let fi = by_index S i f in
        let gk = by_index S p g in
        let e : 3 * p + 6 + 1 ≡ 3 * p + 7 = omega arith in
        let h = held_of (call S (p + 1) (3 * p + 6)).lent.inbox (layout_of S (3 * p + 5)) S.settings.n S.settings.t in
        subst (λ (c : ℕ). message_of (call S (i + 1) c).lent.inbox (layout_of S (3 * p + 6)) (p + 1) ≡ rows_of S.settings.n h) e
        (all_read (p + 1) (i + 1) gk fi (3 * p + 6) (omega arith) (omega arith) (rows_of S.settings.n h)
        (length_rows_few S.settings.n h (few_rows (p + 1) gk) ∙ sym (len_king (p + 1) gk p l)) (king_sent (p + 1) gk p l refl));
    result = λ i f.
        let fi = by_index S i f in
        let e : 3 * suc p + 4 ≡ 3 * p + 7 = omega arith in
        let b : 3 * p + 7 ≡ 3 * p + 6 + 1 = omega arith in
        let back : (call S (i + 1) (3 * p + 7)).before ≡ (call S (i + 1) (3 * p + 6)).after =
        ap (λ (c : ℕ). (call S (i + 1) c).before) b ∙ call_next S H (i + 1) fi (3 * p + 6) (omega arith) (omega arith) in
        ap (λ (c : ℕ). (call S (i + 1) c).after.state.matrix) e
        ∙ settled_rows_lem (i + 1) fi p l
        ∙ ap₂ (λ (x y : List ℕ). settled_of x y (call S (i + 1) (3 * p + 7)).lent.inbox (layout_of S (3 * p + 6)) S.settings.n (p + 1))
        (ap (λ (h : Local). h.state.matrix) back ∙ held_rows (i + 1) fi p l)
        (ap (λ (h : Local). h.state.weak) back ∙ weak_rows (i + 1) fi p l);
  }

  -- ---- the vote
  module _ (few : S.settings.n ≤ 16) where
    all : Agreed S.settings.n S.settings.t (correct_at S) (rows_at S)
    all = vote_in_order S.settings.n S.settings.t (correct_at S) (rows_at S) few voters phase

    end : 3 * phase_count S.settings.t + 4 ≡ 3 * S.settings.t + 7
    end = omega arith

    -- all correct controllers hold one matrix
    pub one_matrix : (i j : ℕ) → Correct S i → Correct S j
        → (call S i (3 * S.settings.t + 7)).after.state.matrix ≡ (call S j (3 * S.settings.t + 7)).after.state.matrix
    one_matrix i j f g =
        let a : i - 1 + 1 ≡ i = omega (arith, f.least) in
        let b : j - 1 + 1 ≡ j = omega (arith, g.least) in
        ap₂ (λ (x y : ℕ). (call S x y).after.state.matrix) (sym a) (sym end)
        ∙ all.same (i - 1) (j - 1) (to_index S i f) (to_index S j g)
        ∙ ap₂ (λ (x y : ℕ). (call S x y).after.state.matrix) b end

    -- and a correct controller's row in it is its marks
    pub row_is_marks : (i j : ℕ) → Correct S i → (g : Correct S j) → get_or (call S i (3 * S.settings.t + 7)).after.state.matrix (j - 1) 0 ≡ marks S H j g
    row_is_marks i j f g =
        let a : i - 1 + 1 ≡ i = omega (arith, f.least) in
        let b : j - 1 + 1 ≡ j = omega (arith, g.least) in
        let m = marks_message S.settings.n (marks S H j g) in
        ap₂ (λ (x y : ℕ). get_or (call S x y).after.state.matrix (j - 1) 0) (sym a) (sym end)
        ∙ marks_kept S.settings.n S.settings.t (correct_at S) (rows_at S) few all (λ x. (call S (x + 1) 4).lent.inbox) (layout_of S 3) (j - 1) m
        (to_index S j g).0
        (λ x h. first_rows (x + 1) (by_index S x h))
        (λ x h. ap (message_of (call S (x + 1) 4).lent.inbox (layout_of S 3)) b
        ∙ delivered S H j (x + 1) 3 g (by_index S x h) (omega arith) (omega arith) (λ _. bytes m)
        (λ y. sized_bytes (layout_of S 3) m (length_marks S.settings.n (marks S H j g) ∙ sym (len_3 S H j g))) (marks_sent S H j g))
        (i - 1) (to_index S i f)
        ∙ row_of_marks S.settings.n (marks S H j g)
        ∙ restrict_below (marks S H j g) S.settings.n (marks_lt S H j g)
