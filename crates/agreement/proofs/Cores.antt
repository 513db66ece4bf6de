-- Step 4. All correct controllers have one core (`one_core`), which stays to the end (`core_from`). Where it is not empty it has at least t + 1 correct
-- members (`enough_correct`), and these hold one block (`one_block`).
use mathlib.Core.Path.{◌≡◌, refl, sym, ap, ap₂, ◌∙◌}
use mathlib.Core.Bool.{Bool, true, not, ◌&&◌}
use mathlib.Core.List.{List}
use mathlib.Core.Logic.{⊎_elim}
use Prim.Native.Nat.{ℕ, ◌+◌, ◌-◌, ◌*◌, ◌≤◌, ◌<◌}
use native.Mathlib.Omega.{arith}
use lib.ListN.{get_or}
use Rattle.lists.specs.Sum.{count}
use Rattle.lists.specs.Same.{same}
use Rattle.lists.proofs.Sums.{count_mono, count_split, count_all}
use Rattle.lists.proofs.Tests.{and_right, lt_or_le}
use Rattle.lists.proofs.Sames.{eq_same}
use Rattle.bitset.specs.Set.{member}
use Rattle.wire.specs.declared.Call.TheVariants.{Core, Choose, Finish}
use Rattle.wire.proofs.Laws.{call_core, call_choose, call-finish}
use Rattle.reed_solomon.specs.Encode.{piece_of}
use Rattle.graph.specs.Neighbour.{neighbour}
use Rattle.protocol.specs.Calls.{core_of}
use Rattle.protocol.specs.declared.State.{State}
use Rattle.protocol.specs.Calls.{core_call, choose_call, finish_call}
use Rattle.protocol.proofs.Laws.{of_core, of_choose, of_finish}
use Rattle.agreement.specs.Run.{Local}
use Rattle.agreement.specs.Agreement.{System, Correct, Supposed, last, call}
use Rattle.agreement.specs.Held.{core_after}
use Rattle.agreement.proofs.System.{coded, call_at, call_next, state_by}
use Rattle.agreement.proofs.Coding.{Code}
use Rattle.agreement.proofs.Graph.{Graph}
use Rattle.agreement.proofs.Blocks.{held_block, is_block, marks, marks_agree}
use Rattle.agreement.proofs.Votes.{correct_at, by_index, to_index, one_matrix, row_is_marks}

-- the matrix of controller i after the vote
abbrev pub last_matrix : System → ℕ → List ℕ
last_matrix S i = (call S i (3 * S.settings.t + 7)).after.state.matrix

module _ (S : System) (H : Supposed S) where
  module _ (i : ℕ) (f : Correct S i) where
    few_rows : S.settings.n ≤ 16
    few_rows = (coded S H i f).quorum.n_most

    pub core_of_lem : core_after S i (3 * S.settings.t + 7) ≡ core_of (last_matrix S i) S.settings.n S.settings.t
    core_of_lem =
        let m = call S i (3 * S.settings.t + 7) in
        let a = (call_at S H i f (3 * S.settings.t + 7) (omega arith) (omega arith)).before_at in
        let is = state_by S H i f (3 * S.settings.t + 7) (omega arith) (omega arith) Core (call_core S.settings.t) core_call of_core in
        ap (λ (s : State). s.core) is
        ∙ (λ x. core_of (core_call m.before.state m.before.block m.lent.inbox m.lent.outbox).state.matrix (a.settings_is x).n
        (a.settings_is x).t)
        ∙ ap (λ (x : List ℕ). core_of x S.settings.n S.settings.t) (sym (ap (λ (s : State). s.matrix) is))

    -- the two calls after it are made on that core and keep it
    pub core_choose : (call S i (3 * S.settings.t + 8)).before.state.core ≡ core_of (last_matrix S i) S.settings.n S.settings.t
    core_choose =
        let e : 3 * S.settings.t + 8 ≡ 3 * S.settings.t + 7 + 1 = omega arith in
        ap (λ (c : ℕ). (call S i c).before.state.core) e
        ∙ ap (λ (h : Local). h.state.core) (call_next S H i f (3 * S.settings.t + 7) (omega arith) (omega arith))
        ∙ core_of_lem

    core_chosen : core_after S i (3 * S.settings.t + 8) ≡ core_of (last_matrix S i) S.settings.n S.settings.t
    core_chosen =
        ap (λ (s : State). s.core)
        (state_by S H i f (3 * S.settings.t + 8) (omega arith) (omega arith) Choose (call_choose S.settings.t) choose_call of_choose)
        ∙ core_choose

    pub core_last : (call S i (last S)).before.state.core ≡ core_of (last_matrix S i) S.settings.n S.settings.t
    core_last =
        let e : last S ≡ 3 * S.settings.t + 8 + 1 = omega arith in
        ap (λ (c : ℕ). (call S i c).before.state.core) e
        ∙ ap (λ (h : Local). h.state.core) (call_next S H i f (3 * S.settings.t + 8) (omega arith) (omega arith))
        ∙ core_chosen

    core_end : core_after S i (last S) ≡ core_of (last_matrix S i) S.settings.n S.settings.t
    core_end =
        ap (λ (s : State). s.core) (state_by S H i f (last S) (omega arith) (omega arith) Finish (call-finish S.settings.t) finish_call of_finish)
        ∙ core_last

    pub core_from : (c : ℕ) → 3 * S.settings.t + 7 ≤ c → c ≤ last S → core_after S i c ≡ core_of (last_matrix S i) S.settings.n S.settings.t
    core_from c least most =
        ⊎_elim
        (λ (l : c < 3 * S.settings.t + 8). let e : c ≡ 3 * S.settings.t + 7 = omega arith in ap (core_after S i) e ∙ core_of_lem)
        (λ (l : 3 * S.settings.t + 8 ≤ c).
        ⊎_elim
        (λ (l' : c < last S). let e : c ≡ 3 * S.settings.t + 8 = omega arith in ap (core_after S i) e ∙ core_chosen)
        (λ (l' : last S ≤ c). let e : c ≡ last S = omega arith in ap (core_after S i) e ∙ core_end)
        (lt_or_le c (last S)))
        (lt_or_le c (3 * S.settings.t + 8))

  -- all correct controllers have one core
  pub one_core : (i j : ℕ) → Correct S i → Correct S j
      → core_of (last_matrix S i) S.settings.n S.settings.t ≡ core_of (last_matrix S j) S.settings.n S.settings.t
  one_core i j f g = ap (λ (x : List ℕ). core_of x S.settings.n S.settings.t) (one_matrix S H (few_rows i f) i j f g)

  -- ---- the core of controller w, which is correct
  module _ (w : ℕ) (f : Correct S w) (C : Code S.run S.settings.n S.settings.t S.settings.k)
      (G : Graph (last_matrix S w) S.settings.n S.settings.t) where
    abbrev pub core : ℕ
    core = core_of (last_matrix S w) S.settings.n S.settings.t

    -- a word is a block's coding: place x is piece x + 1
    word : ℕ → ℕ → List ℕ
    word i x = piece_of S.settings.k S.settings.t (held_block S (i + 1)) (x + 1)

    code : (i j : ℕ) → i < S.settings.n → j < S.settings.n → correct_at S i ≡ true → correct_at S j ≡ true → (Q : ℕ → Bool)
        → S.settings.t + 1 ≤ count S.settings.n Q
        → ((x : ℕ) → x < S.settings.n → Q x ≡ true → word i x ≡ word j x) → held_block S (i + 1) ≡ held_block S (j + 1)
    unfolding word
    code i j li lj ci cj Q many agree =
        C.determined (held_block S (i + 1)) (held_block S (j + 1)) (is_block S H (i + 1) (by_index S i (li, ci))) (is_block S H (j + 1) (by_index S j (lj, cj)))
        (omega (
          arith,
          many,
          count_mono S.settings.n Q (λ x. same (piece_of S.settings.k S.settings.t (held_block S (i + 1)) (x + 1))
              (piece_of S.settings.k S.settings.t (held_block S (j + 1)) (x + 1)))
              (λ x l y. eq_same (piece_of S.settings.k S.settings.t (held_block S (i + 1)) (x + 1))
              (piece_of S.settings.k S.settings.t (held_block S (j + 1)) (x + 1)) (agree x l y)),
        ))

    -- correct neighbours agree at each other's place
    near : (i j : ℕ) → i < S.settings.n → j < S.settings.n → correct_at S i ≡ true → correct_at S j ≡ true → neighbour (last_matrix S w) i j ≡ true
        → word i j ≡ word j j
    unfolding word
    near i j li lj ci cj y =
        ⊎_elim
        (λ (e : i ≡ j). ap (λ (x : ℕ). word x j) e)
        (λ both.
        let fi = by_index S i (li, ci) in
        let fj = by_index S j (lj, cj) in
        let a : i + 1 - 1 ≡ i = omega arith in
        let b : j + 1 - 1 ≡ j = omega arith in
        let row : get_or (last_matrix S w) i 0 ≡ marks S H (i + 1) fi = ap (λ (x : ℕ). get_or (last_matrix S w) x 0) (sym a)
        ∙ row_is_marks S H (few_rows w f) w (i + 1) f fi in
        sym (marks_agree S H C (i + 1) (j + 1) fi fj (ap₂ member (sym row) b ∙ both.0)).0)
        (G.near_marks i j y)

    -- the correct members of the core hold one block
    pub one_block : (a b : ℕ) → Correct S a → Correct S b → member core (a - 1) ≡ true → member core (b - 1) ≡ true → held_block S a ≡ held_block S b
    unfolding word
    one_block a b fa fb ma mb =
        let ia = to_index S a fa in
        let ib = to_index S b fb in
        let ea : a - 1 + 1 ≡ a = omega (arith, fa.least) in
        let eb : b - 1 + 1 ≡ b = omega (arith, fb.least) in
        ap (held_block S) (sym ea)
        ∙ code (a - 1) (b - 1) ia.0 ib.0 ia.1 ib.1 (λ _. true) (omega (arith, count_all S.settings.n (λ _. true) (λ x l. refl), H.tolerance))
        (λ x l y. G.one_word (correct_at S) H.few word
        (λ i j li lj ci cj Q many agree x l. ap (λ (B : List ℕ). piece_of S.settings.k S.settings.t B (x + 1)) (code i j li lj ci cj Q many agree))
        near (a - 1) (b - 1) ia.0 ib.0 ia.1 ib.1 ma mb x l)
        ∙ ap (held_block S) eb

    -- at least t + 1 of them are correct
    pub enough_correct : (core ≡ 0 → ⊥) → S.settings.t + 1 ≤ count S.settings.n (λ x. member core x && correct_at S x)
    enough_correct z =
        omega (
          arith,
          G.core_size z,
          H.few,
          count_split S.settings.n (member (core_of (last_matrix S w) S.settings.n S.settings.t)) (correct_at S),
          count_mono S.settings.n (λ x. member (core_of (last_matrix S w) S.settings.n S.settings.t) x && not (correct_at S x))
              (λ x. not (correct_at S x))
              (λ x l y. and_right (member (core_of (last_matrix S w) S.settings.n S.settings.t) x) (not (correct_at S x)) y),
        )
