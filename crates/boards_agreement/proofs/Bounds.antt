-- The fields of a state stay within their bounds. The main laws: `start_words` and `step_words`, for every start and step, refused ones too.
use mathlib.Core.Path.{◌≡◌, refl, sym, ap, subst, ◌∙◌}
use mathlib.Core.List.{List}
use mathlib.Core.Logic.{⊎_elim}
use Prim.Native.Nat.{ℕ, ◌^◌, ◌≤◌, ◌<◌}
use native.Mathlib.Nat.{lt_of_lt_of_le}
use native.Mathlib.Omega.{arith}
use lib.Dec.{lit<}
use lib.ListN.{length, get_or, replicate}
use lib.Pow.{pow_mono}
use Rattle.lists.proofs.Parts.{all_zeros}
use Rattle.lists.proofs.Tests.{same_or_not}
use Rattle.settings.specs.declared.Settings.{Settings}
use Rattle.settings.specs.Valid.{Valid}
use Rattle.wire.specs.declared.Call.{Call}
use Rattle.wire.specs.declared.Call.TheVariants.{Send, Receive, Compare, Collect, Tally, Hold, Settle, Core, Choose, Finish, Outside}
use Rattle.wire.specs.Round.{call_kind}
use Rattle.phase_king.specs.Matrix.{first_matrix, held_of, weak_of}
use Rattle.phase_king.proofs.Laws.{length_first, length_held, length-weak, length_settled, first_lt, held_lt, weak_lt, settled_lt}
use Rattle.star.proofs.Laws.{e-below}
use Rattle.reconstruction.specs.declared.Outcome.{Outcome}
use Rattle.reconstruction.specs.declared.Outcome.TheVariants.{Open}
use Rattle.reconstruction.specs.Reconstruction.{finished}
use Rattle.reconstruction.proofs.Laws.{finished_lt}
use Rattle.protocol.specs.declared.State.{State}
use Rattle.protocol.specs.State.{zero_state, fresh_state, advanced, with_matrix, with_votes, with_core, with_named}
use Rattle.protocol.specs.Calls.{Carried, inbox_layout, read_phase, core_of, settled_matrix, call_of}
use Rattle.protocol.specs.Step.{Answer, start_refusal, start_of, step_refusal, After, step_of}
use Rattle.protocol.proofs.Laws.{
  start_0,
  start_number,
  start_found,
  start_refused,
  step_refused,
  step_carried,
  step_0,
  of_send,
  of_receive,
  of_compare,
  of_collect,
  of_tally,
  of_hold,
  of_settle,
  of_core,
  of_choose,
  of_finish,
  of_outside,
}
use Rattle.state_bytes.specs.State.{six_numbers, Words}
use Rattle.state_bytes.proofs.Laws.{numbers_lt}

-- ---- the states that are built
-- with a matrix, a weak matrix and a core of zeros, and nobody named
zeros_words : (s : State) → ((i : ℕ) → get_or (six_numbers s) i 0 < 2 ^ 64) → s.matrix ≡ replicate 16 0 → s.weak ≡ replicate 16 0 → s.core ≡ 0
    → s.named ≡ 0 → s.run < 2 ^ 16 → Words s
zeros_words s h m w c r u = record {
  numbers = h;
  matrix_length = ap length m;
  matrix_rows = λ i. rw m (all_zeros (λ x. x < 2 ^ 16) (lit< tt) 16 i);
  weak-length = ap length w;
  weak_rows = λ i. rw w (all_zeros (λ x. x < 2 ^ 16) (lit< tt) 16 i);
  core_row = rw c (lit< tt);
  named_row = rw r (lit< tt);
  run_word = u;
}

zero_words : Words zero_state
zero_words = zeros_words zero_state (numbers_lt zero_state (lit< tt) (lit< tt) (lit< tt) (lit< tt) (lit< tt) (lit< tt)) refl refl refl refl (lit< tt)

fresh_words : (s : Settings) (own run : ℕ) → Valid s own → run < 2 ^ 16 → Words (fresh_state s own run)
fresh_words s own run v u =
    let q = v.coded.quorum in
    zeros_words (fresh_state s own run)
    (numbers_lt (fresh_state s own run) (omega (arith, q.n_most)) (omega (arith, q.n_most, q.t_most)) (omega (arith, v.coded.k_most))
    (omega (arith, q.n_most, v.number.most)) (omega (arith, q.n_most, v.sender)) (lit< tt))
    refl
    refl
    refl
    refl
    u

pub start_words : (s : Settings) (own run b : ℕ) → run < 2 ^ 16 → Words (start_of s own run b).state
start_words s own run b u =
    ⊎_elim
    (λ (z : start_refusal s own b ≡ 0).
    subst (λ (a : Answer). Words a.state) (sym (start_found s own b run (start_refusal s own b) refl z))
    (fresh_words s own run (start_0 s own run b (start_number s own run b ∙ z)).0 u))
    (λ (z : start_refusal s own b ≡ 0 → ⊥).
    subst (λ (a : Answer). Words a.state) (sym (start_refused s own b run (start_refusal s own b) refl z)) zero_words)
    (same_or_not (start_refusal s own b) 0)

-- ---- the changes of a call
advanced_words : (s : State) (w : Outcome) → Words s → s.next ≤ 24 → Words (advanced s w)
advanced_words s w h l =
    let below : (i : ℕ) → get_or (six_numbers (advanced s w)) i 0 < 2 ^ 64 =
    numbers_lt (advanced s w) (h.numbers 0) (h.numbers 1) (h.numbers 2) (h.numbers 3) (h.numbers 4) (omega arith) in
    grind arith

matrix_words : (s : State) (m : List ℕ) → Words s → length m ≡ 16 → ((i : ℕ) → get_or m i 0 < 2 ^ 16) → Words (with_matrix s m)
matrix_words s m h l r = grind arith

votes_words : (s : State) (m w : List ℕ) → Words s → length m ≡ 16 → ((i : ℕ) → get_or m i 0 < 2 ^ 16) → length w ≡ 16 → ((i : ℕ) → get_or w i 0 < 2 ^ 16)
    → Words (with_votes s m w)
votes_words s m w h l r l' r' = grind arith

core_words : (s : State) (m : List ℕ) (e : ℕ) → Words s → length m ≡ 16 → ((i : ℕ) → get_or m i 0 < 2 ^ 16) → e < 2 ^ 16 → Words (with_core s m e)
core_words s m e h l r c = grind arith

named_words : (s : State) (m : ℕ) → Words s → m < 2 ^ 16 → Words (with_named s m)
named_words s m h l = grind arith

-- ---- each call
module _ (s : State) (b i o : List ℕ) (h : Words s) (few : s.settings.n ≤ 16) (l : s.next ≤ 24) where
  open_words : Words (advanced s Open)
  open_words = advanced_words s Open h l

  settled : List ℕ
  settled = settled_matrix s i

  settled_length : length settled ≡ 16
  unfolding settled
  settled_length = length_settled s.matrix s.weak i (inbox_layout s) s.settings.n (read_phase s)

  settled_rows_lem : (r : ℕ) → get_or settled r 0 < 2 ^ 16
  unfolding settled
  settled_rows_lem r = settled_lt s.matrix s.weak i (inbox_layout s) s.settings.n (read_phase s) r

  core_below : core_of settled s.settings.n s.settings.t < 2 ^ 16
  core_below = lt_of_lt_of_le (e-below settled s.settings.n s.settings.t) (pow_mono few)

  by : (c : Call) (a : Carried) → call_of c s b i o ≡ a → Words a.state → Words (call_of c s b i o).state
  by c a e w = subst (λ (x : Carried). Words x.state) (sym e) w

  call_words : (c : Call) → Words (call_of c s b i o).state
  unfolding settled
  call_words Send = by Send _ (of_send s b i o) open_words
  call_words Receive = by Receive _ (of_receive s b i o) open_words
  call_words Compare = by Compare _ (of_compare s b i o) open_words
  call_words Collect =
      by Collect _ (of_collect s b i o)
      (matrix_words (advanced s Open) (first_matrix i (inbox_layout s) s.settings.n) open_words (length_first i (inbox_layout s) s.settings.n)
      (first_lt i (inbox_layout s) s.settings.n))
  call_words Tally = by Tally _ (of_tally s b i o) open_words
  call_words Hold =
      by Hold _ (of_hold s b i o)
      (votes_words (advanced s Open) (held_of i (inbox_layout s) s.settings.n s.settings.t)
      (weak_of i (inbox_layout s) s.settings.n s.settings.t) open_words
      (length_held i (inbox_layout s) s.settings.n s.settings.t) (held_lt i (inbox_layout s) s.settings.n s.settings.t)
      (length-weak i (inbox_layout s) s.settings.n s.settings.t)
      (weak_lt i (inbox_layout s) s.settings.n s.settings.t))
  call_words Settle = by Settle _ (of_settle s b i o) (matrix_words (advanced s Open) settled open_words settled_length settled_rows_lem)
  call_words Core =
      by Core _ (of_core s b i o) (core_words (advanced s Open) settled
      (core_of settled s.settings.n s.settings.t) open_words settled_length settled_rows_lem core_below)
  call_words Choose = by Choose _ (of_choose s b i o) open_words
  call_words Finish =
      let f = finished s.settings.n s.settings.t (inbox_layout s) s.core i b in
      by Finish _ (of_finish s b i o)
      (named_words (advanced s f.ending.outcome) f.ending.named (advanced_words s f.ending.outcome h l)
      (finished_lt s.settings.n s.settings.t (inbox_layout s) s.core i b few))
  call_words Outside = by Outside _ (of_outside s b i o) h

pub step_words : (s : State) (b i o : List ℕ) → Words s → Words (step_of s b i o).answer.state
step_words s b i o h =
    let r = step_refusal s (length b) (length i) (length o) in
    ⊎_elim
    (λ (z : r ≡ 0).
    let ready = step_0 s (length b) (length i) (length o) z in
    let q = ready.valid.coded.quorum in
    subst (λ (a : After). Words a.answer.state) (sym (step_carried s b i o z))
    (call_words s b i o h q.n_most (omega (arith, ready.next_most, q.t_most, q.n_most)) (call_kind s.settings.t s.next)))
    (λ (z : r ≡ 0 → ⊥). subst (λ (a : After). Words a.answer.state) (sym (step_refused s b i o z)) h)
    (same_or_not r 0)
