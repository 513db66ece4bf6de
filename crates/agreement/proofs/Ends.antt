-- Steps 6 and 7. What the last call sets (`set_by_last`, `named_at_end`); with a core whose correct members hold B every correct controller ends with
-- agreed and B (`ends-agreed`) and names no correct one (`ends_unnamed`); with none it ends with none and zeros (`ends_none`), and names nobody
-- (`none_unnamed`).
use mathlib.Core.Path.{◌≡◌, sym, ap, ◌∙◌}
use mathlib.Core.Bool.{true, false, ◌&&◌}
use mathlib.Core.List.{List}
use mathlib.Core.Logic.{⊎_elim}
use Prim.Native.Nat.{ℕ, ◌+◌, ◌-◌, ◌*◌, ◌≤◌}
use native.Mathlib.Omega.{arith}
use lib.ListN.{length, replicate}
use Rattle.lists.specs.Sum.{count}
use Rattle.lists.specs.Same.{same}
use Rattle.lists.proofs.Sums.{many}
use Rattle.lists.proofs.Sames.{eq_same}
use Rattle.lists.proofs.Tests.{same_or_not}
use Rattle.bitset.specs.Set.{member, restricted}
use Rattle.bitset.proofs.Laws.{member_none}
use Rattle.wire.specs.declared.Call.TheVariants.{Finish}
use Rattle.wire.specs.Length.{block_length, round_layout}
use Rattle.wire.specs.Slot.{layout_with, width, message_of}
use Rattle.wire.proofs.Laws.{call-finish}
use Rattle.reed_solomon.specs.Encode.{piece_of}
use Rattle.reed_solomon.specs.Decode.{Decodes, named_of, decode_refusal}
use Rattle.reed_solomon.proofs.Laws.{0_decode, decodes-or-not}
use Rattle.protocol.specs.Calls.{core_of}
use Rattle.reconstruction.specs.declared.Outcome.{Outcome}
use Rattle.reconstruction.specs.declared.Outcome.TheVariants.{Agreed, None, Beyond}
use Rattle.reconstruction.specs.declared.Ending.{Ending}
use Rattle.reconstruction.specs.Outcomes.{outcome_number}
use Rattle.reconstruction.specs.Reconstruction.{ending, Finished as Final, finished}
use Rattle.reconstruction.proofs.Laws.{finished_none, finished-agreed, finished-beyond}
use Rattle.protocol.specs.declared.State.{State}
use Rattle.protocol.specs.Calls.{Carried, finish_call, inbox_layout}
use Rattle.protocol.proofs.Laws.{of_finish}
use Rattle.agreement.specs.Run.{Local}
use Rattle.agreement.specs.Agreement.{System, Correct, Supposed, last, call, layout_of, piece_layout, last_core, last_inbox, outcome_of}
use Rattle.agreement.specs.Agreement.{block_of, SetByLast}
use Rattle.agreement.specs.Named.{named_by, NamedAtEnd}
use Rattle.agreement.proofs.System.{coded, length-block, call_at, call-last, inbox_long, block_long, performs_kind}
use Rattle.agreement.proofs.Coding.{IsBlock, Code}
use Rattle.agreement.proofs.Blocks.{held_block}
use Rattle.agreement.proofs.Votes.{correct_at, by_index, most_correct}
use Rattle.agreement.proofs.Cores.{last_matrix, core_last}
use Rattle.agreement.proofs.Pieces.{len_rebuild, piece_read}

abbrev outcome : Ending → Outcome
outcome e = e.outcome

abbrev named : Ending → ℕ
named e = e.named

module _ (S : System) (H : Supposed S) where
  module _ (i : ℕ) (f : Correct S i) where
    -- the block that is lent to the last call
    lent_block : List ℕ
    lent_block = (call S i (last S)).before.block

    block_is : length (call S i (last S)).before.block ≡ block_length S.settings.k S.settings.t
    block_is = block_long S H i f (last S) (omega arith) (omega arith)

    inbox_is : length (last_inbox S i) ≡ S.settings.n * width (piece_layout S)
    inbox_is =
        let n : 3 * S.settings.t + 8 + 1 ≡ last S = omega arith in
        ap (λ (c : ℕ). length (call S i c).lent.inbox) (sym n)
        ∙ inbox_long S H i f (3 * S.settings.t + 8) (omega arith) (omega arith)
        ∙ ap (λ (x : ℕ). S.settings.n * width (layout_with S.run x)) (len_rebuild S H i f)

    -- the layout of the inbox that the last call reads
    layout_is : inbox_layout (call S i (last S)).before.state ≡ piece_layout S
    layout_is =
        let a = (call_at S H i f (last S) (omega arith) (omega arith)).before_at in
        let n : last S - 1 ≡ 3 * S.settings.t + 8 = omega arith in
        (λ x. round_layout (a.run_is x) (a.settings_is x).n (a.settings_is x).t (a.settings_is x).k (a.next_is x - 1))
        ∙ ap (layout_of S) n ∙ ap (layout_with S.run) (len_rebuild S H i f)

    final : Final
    final = finished S.settings.n S.settings.t (piece_layout S) (last_core S i) (last_inbox S i) (call S i (last S)).before.block

    -- the outcome and the marks at the end
    abbrev ended : Ending
    ended = ending (outcome_of S i) (named_by S i)

    ended_final : ended ≡ final.ending
    unfolding final
    ended_final =
        let m = call S i (last S) in
        let r = call_at S H i f (last S) (omega arith) (omega arith) in
        let a = r.before_at in
        let told : State → Ending = λ s. ending s.outcome s.named in
        ap (λ (h : Local). told h.state) (sym (call-last S H i f))
        ∙ ap told r.state_is
        ∙ ap (λ (x : Carried). told x.state)
        (performs_kind S H i f (last S) (omega arith) (omega arith) Finish (call-finish S.settings.t) finish_call of_finish)
        ∙ (λ x. (finished (a.settings_is x).n (a.settings_is x).t (layout_is x) m.before.state.core m.lent.inbox m.before.block).ending)

    block_final : block_of S i ≡ final.block
    unfolding final
    block_final =
        let m = call S i (last S) in
        let r = call_at S H i f (last S) (omega arith) (omega arith) in
        let a = r.before_at in
        ap (λ (h : Local). h.block) (sym (call-last S H i f))
        ∙ r.block_is
        ∙ ap (λ (x : Carried). x.block) (performs_kind S H i f (last S) (omega arith) (omega arith) Finish (call-finish S.settings.t) finish_call of_finish)
        ∙ (λ x. (finished (a.settings_is x).n (a.settings_is x).t (layout_is x) m.before.state.core m.lent.inbox m.before.block).block)

    -- no core
    none : restricted (last_core S i) S.settings.n ≡ 0
        → (ended ≡ ending None 0) × (block_of S i ≡ replicate (block_length S.settings.k S.settings.t) 0)
    unfolding final
    none z =
        let e = finished_none S.settings.n S.settings.t (piece_layout S) (last_core S i) (last_inbox S i) (call S i (last S)).before.block z in (
          ended_final ∙ ap (λ (x : Final). x.ending) e,
          block_final ∙ ap (λ (x : Final). x.block) e ∙ ap (λ (x : ℕ). replicate x 0) block_is,
        )

    -- decoding is carried out
    carried_out_lem : decode_refusal S.settings.n S.settings.t (piece_layout S) (last_inbox S i) (call S i (last S)).before.block ≡ 0
    carried_out_lem =
        0_decode S.settings.n S.settings.t (piece_layout S) (last_inbox S i) (call S i (last S)).before.block (coded S H i f) inbox_is block_is

    -- what decoding's rule gives
    agreed : (restricted (last_core S i) S.settings.n ≡ 0 → ⊥) → (B : List ℕ) → Decodes S.settings.n S.settings.t (piece_layout S) (last_inbox S i) B
        → (ended ≡ ending Agreed (named_of S.settings.n S.settings.t (piece_layout S) (last_inbox S i) B)) × (block_of S i ≡ B)
    unfolding final
    agreed z B d =
        let q = finished-agreed S.settings.n S.settings.t (piece_layout S) (last_core S i) (last_inbox S i)
        (call S i (last S)).before.block z carried_out_lem B d in
        (ended_final ∙ ap (λ (x : Final). x.ending) q, block_final ∙ ap (λ (x : Final). x.block) q)

    -- where no block meets it
    beyond : (restricted (last_core S i) S.settings.n ≡ 0 → ⊥)
        → ((B : List ℕ) → Decodes S.settings.n S.settings.t (piece_layout S) (last_inbox S i) B → ⊥)
        → (ended ≡ ending Beyond 0) × (block_of S i ≡ replicate (block_length S.settings.k S.settings.t) 0)
    unfolding final
    beyond z d =
        let q = finished-beyond S.settings.n S.settings.t (piece_layout S) (last_core S i) (last_inbox S i)
        (call S i (last S)).before.block z carried_out_lem d in
        (ended_final ∙ ap (λ (x : Final). x.ending) q, block_final ∙ ap (λ (x : Final). x.block) q ∙ ap (λ (x : ℕ). replicate x 0) block_is)

    pub set_by_last : SetByLast S i
    set_by_last =
        let size : block_length S.settings.k S.settings.t ≡ length (S.block i) = sym (length-block S H i f) in
        record {
          none = λ z. let r = none z in (ap outcome r.0, r.1 ∙ ap (λ (x : ℕ). replicate x 0) size);
          agreed = λ z B d. let r = agreed z B d in (ap outcome r.0, r.1);
          beyond = λ z d. let r = beyond z d in (ap outcome r.0, r.1 ∙ ap (λ (x : ℕ). replicate x 0) size);
        }

    -- with none and beyond nobody is named
    unnamed_at : (o : Outcome) → (outcome_number o ≡ 1 → ⊥) → ended ≡ ending o 0 → NamedAtEnd S i
    unnamed_at o n e = record {
      agreed = λ a. absurd (n (ap outcome_number (sym (ap outcome e) ∙ a)));
      other = λ _. ap named e;
    }

    pub named_at_end : NamedAtEnd S i
    named_at_end =
        ⊎_elim
        (λ (z : restricted (last_core S i) S.settings.n ≡ 0). unnamed_at None (λ e. omega (arith, e)) (none z).0)
        (λ (z : restricted (last_core S i) S.settings.n ≡ 0 → ⊥).
        ⊎_elim
        (λ (d : (B : List ℕ) × Decodes S.settings.n S.settings.t (piece_layout S) (last_inbox S i) B).
        let r = agreed z d.0 d.1 in
        record {
          agreed = λ _. ap named r.0 ∙ ap (named_of S.settings.n S.settings.t (piece_layout S) (last_inbox S i)) (sym r.1);
          other = λ n. absurd (n (ap outcome r.0));
        })
        (λ (d : (B : List ℕ) → Decodes S.settings.n S.settings.t (piece_layout S) (last_inbox S i) B → ⊥).
        unnamed_at Beyond (λ e. omega (arith, e)) (beyond z d).0)
        (decodes-or-not S.settings.n S.settings.t (piece_layout S) (last_inbox S i)))
        (same_or_not (restricted (last_core S i) S.settings.n) 0)

    -- the core of the last call is that of the matrix
    without : restricted (core_of (last_matrix S i) S.settings.n S.settings.t) S.settings.n ≡ 0 → restricted (last_core S i) S.settings.n ≡ 0
    without z = ap (λ (x : ℕ). restricted x S.settings.n) (core_last S H i f) ∙ z

    -- no core: none, and zeros
    pub ends_none : restricted (core_of (last_matrix S i) S.settings.n S.settings.t) S.settings.n ≡ 0
        → (outcome_of S i ≡ None) × (block_of S i ≡ replicate (block_length S.settings.k S.settings.t) 0)
    ends_none z = let r = none (without z) in (ap outcome r.0, r.1)

    pub none_unnamed : restricted (core_of (last_matrix S i) S.settings.n S.settings.t) S.settings.n ≡ 0 → (x : ℕ) → member (named_by S i) x ≡ false
    none_unnamed z x = ap (λ (m : ℕ). member m x) (ap named (none (without z)).0) ∙ member_none x

  -- a core whose correct members hold B: agreed, and B
  module _ (C : Code S.run S.settings.n S.settings.t S.settings.k) (e : ℕ) (B : List ℕ) (is : IsBlock S.settings.k S.settings.t B)
      (core_is : (i : ℕ) → Correct S i → core_of (last_matrix S i) S.settings.n S.settings.t ≡ e) (some : restricted e S.settings.n ≡ 0 → ⊥)
      (enough : S.settings.t + 1 ≤ count S.settings.n (λ x. member e x && correct_at S x))
      (holds : (i : ℕ) → Correct S i → member e (i - 1) ≡ true → held_block S i ≡ B) where
    ends : (i : ℕ) → (f : Correct S i)
        → (ended i f ≡ ending Agreed (named_of S.settings.n S.settings.t (piece_layout S) (last_inbox S i) B)) × (block_of S i ≡ B)
    ends i f =
        agreed i f (λ z. some (ap (λ (x : ℕ). restricted x S.settings.n) (sym (core_last S H i f ∙ core_is i f)) ∙ z)) B
        (C.recovered (last_inbox S i) B is
        (many S.settings.n S.settings.t (correct_at S) (most_correct S H)
        (λ x. same (message_of (last_inbox S i) (piece_layout S) (x + 1)) (piece_of S.settings.k S.settings.t B (x + 1)))
        (λ x l c. eq_same (message_of (last_inbox S i) (piece_layout S) (x + 1)) (piece_of S.settings.k S.settings.t B (x + 1))
        (piece_read S H C e B core_is enough holds (x + 1) (by_index S x (l, c)) i f))))

    pub ends-agreed : (i : ℕ) → Correct S i → (outcome_of S i ≡ Agreed) × (block_of S i ≡ B)
    ends-agreed i f = let r = ends i f in (ap outcome r.0, r.1)

    -- every correct j has sent its piece of B
    pub ends_unnamed : (i j : ℕ) → Correct S i → Correct S j → member (named_by S i) (j - 1) ≡ false
    ends_unnamed i j f g =
        ap (λ (m : ℕ). member m (j - 1)) (ap named (ends i f).0)
        ∙ C.unnamed (last_inbox S i) B j g.least g.most (piece_read S H C e B core_is enough holds j g i f)
