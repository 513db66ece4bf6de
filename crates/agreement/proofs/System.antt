-- The calls of a correct controller in a system, one by one: `call_at` (call c, with the system's settings), `call_first`, `call_next` and
-- `call-last` (how they go on from one another), `block-from` (the block between call 2 and the last), and `delivered` (what i sent to j in
-- round c is what j's call c + 1 reads).
use mathlib.Core.Path.{◌≡◌, refl, sym, ap, subst, ◌∙◌}
use mathlib.Core.List.{List}
use Prim.Native.Nat.{ℕ, zero, suc, ◌+◌, ◌-◌, ◌*◌, ◌≤◌, ◌<◌}
use native.Mathlib.Nat.{mul-le-mul_right}
use native.Mathlib.Omega.{arith}
use lib.ListN.{length, get_or}
use Rattle.settings.specs.declared.Settings.{Settings}
use Rattle.settings.specs.Valid.{Coded, Numbered, Valid}
use Rattle.wire.specs.declared.Call.{Call}
use Rattle.wire.specs.declared.Round.{Round}
use Rattle.wire.specs.Round.{call_kind, round_kind}
use Rattle.wire.specs.Length.{block_length, row_length, inbox_length, outbox_length}
use Rattle.wire.specs.Slot.{width, message_of, Sent, slots}
use Rattle.wire.proofs.Laws.{message_length_is, length_pos, inbox_is, outbox_is, Sized, content, arrived}
use Rattle.protocol.specs.declared.State.{State}
use Rattle.protocol.specs.Calls.{Carried, call_of}
use Rattle.protocol.proofs.Laws.{start_0, start_state, call-block, block-call}
use Rattle.agreement.specs.Run.{Local}
use Rattle.agreement.specs.Agreement.{System, Correct, Supposed, at_start, calls_of, at_end, last, no_call, call, RefusesMore, layout_of}
use Rattle.agreement.proofs.Run.{Chain, chain, performs, At, CallAt, nth, first_before, next_before, last-after, finished_step}

module _ (S : System) (H : Supposed S) (i : ℕ) (f : Correct S i) where
  start : Valid S.settings i × (length (S.block i) ≡ block_length S.settings.k S.settings.t)
  start = start_0 S.settings i S.run (length (S.block i)) (H.started i f)

  pub valid : Valid S.settings i
  valid = start.0

  pub coded : Coded S.settings.n S.settings.t S.settings.k
  coded = valid.coded

  pub numbered : Numbered S.settings.n i
  numbered = valid.number

  pub length-block : length (S.block i) ≡ block_length S.settings.k S.settings.t
  length-block = start.1

  begun_at : At S.settings i S.run 1 (at_start S i)
  begun_at =
      let e = start_state S.settings i S.run (length (S.block i)) (H.started i f) in
      record {
        settings_is = ap (λ (s : State). s.settings) e;
        own_is = ap (λ (s : State). s.own) e;
        run_is = ap (λ (s : State). s.run) e;
        next_is = ap (λ (s : State). s.next) e;
      }

  links : Chain (at_start S i) (calls_of S i) (at_end S i)
  links = chain (at_start S i) (S.steps i)

  -- call c is made on a state whose next call is c, with the system's settings and run number
  pub call_at : (c : ℕ) → 1 ≤ c → c ≤ last S → CallAt S.settings i S.run c (call S i c)
  call_at c least most =
      let all : length (calls_of S i) ≡ last S = H.finished i f in
      let number : 1 + (c - 1) ≡ c = omega arith in
      subst (λ (x : ℕ). CallAt S.settings i S.run x (call S i c)) number
      (nth S.settings i S.run no_call (at_start S i) (calls_of S i) (at_end S i) 1 links begun_at (c - 1) (omega arith))

  -- call 1 is made on what start left, each other on what the call before left
  pub call_first : (call S i 1).before ≡ at_start S i
  call_first =
      let all : length (calls_of S i) ≡ last S = H.finished i f in
      first_before no_call (at_start S i) (calls_of S i) (at_end S i) links (omega arith)

  pub call_next : (c : ℕ) → 1 ≤ c → c < last S → (call S i (c + 1)).before ≡ (call S i c).after
  call_next c least most =
      let all : length (calls_of S i) ≡ last S = H.finished i f in
      let number : suc (c - 1) ≡ c + 1 - 1 = omega arith in
      subst (λ (x : ℕ). (get_or (calls_of S i) x no_call).before ≡ (call S i c).after) number
      (next_before no_call (at_start S i) (calls_of S i) (at_end S i) links (c - 1) (omega arith))

  -- what is held at the end is what the last call left
  pub call-last : (call S i (last S)).after ≡ at_end S i
  call-last =
      let all : length (calls_of S i) ≡ last S = H.finished i f in
      last-after no_call (at_start S i) (calls_of S i) (at_end S i) links (last S - 1) (omega arith)

  -- and every later step is refused with 8
  pub later : RefusesMore S i
  later l =
      let number : last S + 1 ≡ 3 * S.settings.t + 10 = omega arith in
      let a = subst (λ (x : ℕ). At S.settings i S.run x (call S i (last S)).after) number (call_at (last S) (omega arith) (omega arith)).after_at in
      finished_step S.settings i S.run valid (at_end S i) (subst (At S.settings i S.run (3 * S.settings.t + 10)) call-last a) l

  -- ---- lengths
  pub length-round_some : (c : ℕ) → 1 ≤ c → c < last S → 1 ≤ (layout_of S c).length
  length-round_some c least most = length_pos coded c least (omega arith)

  -- the length of a round's messages is that of its kind
  pub length-round : (c : ℕ) {r : Round} {m : ℕ} → round_kind S.settings.t c ≡ r → row_length r S.settings.n S.settings.t S.settings.k ≡ m
      → (layout_of S c).length ≡ m
  length-round c e is = message_length_is coded c ∙ ap (λ (x : Round). row_length x S.settings.n S.settings.t S.settings.k) e ∙ is

  pub outbox_long : (c : ℕ) → 1 ≤ c → c < last S → length (call S i c).lent.outbox ≡ S.settings.n * width (layout_of S c)
  outbox_long c least most =
      let r = call_at c least (omega arith) in
      let a = r.before_at in
      r.ready.outbox_length
      ∙ (λ x. outbox_length (a.settings_is x).n (a.settings_is x).t (a.settings_is x).k (a.next_is x))
      ∙ outbox_is S.run S.settings.n S.settings.t S.settings.k c (length-round_some c least most)

  pub inbox_long : (c : ℕ) → 1 ≤ c → c < last S → length (call S i (c + 1)).lent.inbox ≡ S.settings.n * width (layout_of S c)
  inbox_long c least most =
      let r = call_at (c + 1) (omega arith) (omega arith) in
      let a = r.before_at in
      r.ready.inbox_length
      ∙ (λ x. inbox_length (a.settings_is x).n (a.settings_is x).t (a.settings_is x).k (a.next_is x))
      ∙ inbox_is S.run S.settings.n S.settings.t S.settings.k c (length-round_some c least most)

  pub block_long : (c : ℕ) → 1 ≤ c → c ≤ last S → length (call S i c).before.block ≡ block_length S.settings.k S.settings.t
  block_long c least most =
      let r = call_at c least most in
      let a = r.before_at in
      r.ready.block_length ∙ (λ x. block_length (a.settings_is x).k (a.settings_is x).t)

  -- ---- the call that is performed
  -- by its kind: what D says, where a call of that kind is D
  pub performs_kind : (c : ℕ) → 1 ≤ c → c ≤ last S → (kind : Call) → call_kind S.settings.t c ≡ kind
      → (D : State → List ℕ → List ℕ → List ℕ → Carried) → ((s : State) (b x o : List ℕ) → call_of kind s b x o ≡ D s b x o)
      → performs (call S i c).before (call S i c).lent
      ≡ D (call S i c).before.state (call S i c).before.block (call S i c).lent.inbox (call S i c).lent.outbox
  performs_kind c least most kind e D does =
      let m = call S i c in
      let a = (call_at c least most).before_at in
      ap (λ (x : Call). call_of x m.before.state m.before.block m.lent.inbox m.lent.outbox)
      ((λ x. call_kind (a.settings_is x).t (a.next_is x)) ∙ e)
      ∙ does m.before.state m.before.block m.lent.inbox m.lent.outbox

  -- what a call of a kind sends and what it leaves, with the system's settings and run number in the place of the state's
  module _ (c : ℕ) (least : 1 ≤ c) (most : c ≤ last S) (kind : Call) (is : call_kind S.settings.t c ≡ kind)
      (D : State → List ℕ → List ℕ → List ℕ → Carried) (does : (s : State) (b x o : List ℕ) → call_of kind s b x o ≡ D s b x o) where
    pub sends_by : (F : Settings → (own run next : ℕ) → List ℕ)
        → (D (call S i c).before.state (call S i c).before.block (call S i c).lent.inbox (call S i c).lent.outbox).outbox
        ≡ F (call S i c).before.state.settings (call S i c).before.state.own (call S i c).before.state.run (call S i c).before.state.next
        → (call S i c).sends ≡ F S.settings i S.run c
    sends_by F e =
        let r = call_at c least most in
        let a = r.before_at in
        r.sends_is
        ∙ ap (λ (x : Carried). x.outbox) (performs_kind c least most kind is D does)
        ∙ e ∙ (λ x. F (a.settings_is x) (a.own_is x) (a.run_is x) (a.next_is x))

    pub state_by : (call S i c).after.state
        ≡ (D (call S i c).before.state (call S i c).before.block (call S i c).lent.inbox (call S i c).lent.outbox).state
    state_by = (call_at c least most).state_is ∙ ap (λ (x : Carried). x.state) (performs_kind c least most kind is D does)

    pub leaves_by : {A : Type 0} → (f : State → A) (F : Settings → (own run next : ℕ) → A)
        → f (D (call S i c).before.state (call S i c).before.block (call S i c).lent.inbox (call S i c).lent.outbox).state
        ≡ F (call S i c).before.state.settings (call S i c).before.state.own (call S i c).before.state.run (call S i c).before.state.next
        → f (call S i c).after.state ≡ F S.settings i S.run c
    leaves_by f F e =
        let a = (call_at c least most).before_at in
        ap f state_by ∙ e ∙ (λ x. F (a.settings_is x) (a.own_is x) (a.run_is x) (a.next_is x))

  -- ---- the block from call 3 on is what call 2 left
  block-kept : (c : ℕ) → 3 ≤ c → c < last S → (call S i c).after.block ≡ (call S i c).before.block
  block-kept c least most =
      let m = call S i c in
      let r = call_at c (omega arith) (omega arith) in
      let kinds = block-call S.settings.t c least (omega arith) in
      r.block_is
      ∙ ap (λ (x : Carried). x.block)
      (performs_kind c (omega arith) (omega arith) (call_kind S.settings.t c) refl (call_of (call_kind S.settings.t c)) (λ s b x o. refl))
      ∙ call-block (call_kind S.settings.t c) m.before.state m.before.block m.lent.inbox m.lent.outbox kinds.0 kinds.1

  block-add : (d : ℕ) → d + 3 ≤ last S → (call S i (d + 3)).before.block ≡ (call S i 2).after.block
  block-add zero l = ap (λ (h : Local). h.block) (call_next 2 (omega arith) (omega arith))
  block-add (suc d) l =
      let e : suc d + 3 ≡ d + 3 + 1 = omega arith in
      ap (λ (c : ℕ). (call S i c).before.block) e
      ∙ ap (λ (h : Local). h.block) (call_next (d + 3) (omega arith) (omega arith))
      ∙ block-kept (d + 3) (omega arith) (omega arith)
      ∙ block-add d (omega arith)

  pub block-from : (c : ℕ) → 3 ≤ c → c ≤ last S → (call S i c).before.block ≡ (call S i 2).after.block
  block-from c least most =
      let e : c - 3 + 3 ≡ c = omega arith in
      subst (λ (x : ℕ). (call S i x).before.block ≡ (call S i 2).after.block) e (block-add (c - 3) (omega arith))

-- ---- what arrives
-- what i sent to j in round c is what j's next call reads of it
pub delivered : (S : System) (H : Supposed S) (i j c : ℕ) → Correct S i → Correct S j → 1 ≤ c → c < last S → (g : ℕ → Sent)
    → ((m : ℕ) → Sized (layout_of S c) (g m)) → (call S i c).sends ≡ slots (layout_of S c) g S.settings.n
    → message_of (call S j (c + 1)).lent.inbox (layout_of S c) i ≡ content (g j)
delivered S H i j c fi fj least most g sized e =
    arrived (layout_of S c) g sized (call S j (c + 1)).lent.inbox (call S i c).sends S.settings.n i j e fj.least fj.most fi.least
    (subst (λ (x : ℕ). i * width (layout_of S c) ≤ x) (sym (inbox_long S H j fj c least most)) (mul-le-mul_right (width (layout_of S c)) fi.most))
    (H.arrives i j c fi fj least most)
