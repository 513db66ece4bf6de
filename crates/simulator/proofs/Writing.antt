-- Laws of text that is written behind text. The main one: `chain` (s, and behind it s', is s ++ s'). `added` and `after` say what a call of text's
-- functions writes and the room that it leaves; `zeros-room` and `zeros_wrote` are for a new buffer; `lines_start`, `turn_correct` and `turn_faulty`
-- for the loop that writes the lines of the controllers.
use mathlib.Core.Path.{◌≡◌, refl, sym, ap, ap₂, subst, ◌∙◌}
use mathlib.Core.Bool.{Bool, true, false}
use mathlib.Core.List.{List, [], ◌∷◌, ◌++◌, append-nil, append_assoc}
use mathlib.Core.Logic.{⊎_elim}
use Prim.Native.Nat.{ℕ, zero, suc, ◌+◌, ◌-◌, ◌*◌, ◌≤◌, ◌<◌}
use native.Mathlib.Numerals.{add-one}
use native.Mathlib.Omega.{arith}
use lib.ListN.{length, get_or, take, drop, replicate, length-append, length-replicate, length-take}
use lib.Seq.{length-take-le, take_at}
use Rattle.lists.proofs.Tests.{either, cond_yes, cond_no}
use Rattle.text.specs.Read.{newline, comma}
use Rattle.text.specs.Write.{decimal, hexadecimal, appended, end_of, padded}
use Rattle.text.proofs.Laws.{append-behind, padded_none, length-padded, append-padded, end_padded, decimal_short, length-hexadecimal}
use Rattle.reconstruction.specs.declared.Outcome.{Outcome}
use Rattle.reconstruction.specs.declared.Outcome.TheVariants.{Open, Agreed, None, Beyond}
use Rattle.reconstruction.specs.Outcomes.{outcome_word}
use Rattle.bitset.specs.Set.{member}
use Rattle.simulator.specs.declared.run.Controller.{Controller}
use Rattle.simulator.specs.Output.{result_line, results}
use Rattle.simulator.specs.Steps.{Room, Wrote, zero_controller}

-- ---- text with zeros after it: the text is at the front
padded_front : (m : ℕ) (x : List ℕ) → length x ≤ m → padded m x ≡ x ++ drop (length x) (replicate m 0)
padded_front m x h =
    sym (append-padded m [] x (omega arith))
    ∙ ap (appended 0 x) (padded_none m)
    ∙ append-behind [] x (replicate m 0) (omega (arith, length-replicate {A = ℕ} m 0))

pub take-padded : (m : ℕ) (x : List ℕ) (n : ℕ) → length x ≤ m → n ≡ length x → take n (padded m x) ≡ x
take-padded m x n h e = ap (take n) (padded_front m x h) ∙ take_at x (drop (length x) (replicate m 0)) n (sym e)

-- ---- text behind text
-- s was appended, where m more bytes fitted
pub record Added (out : List ℕ) (at m : ℕ) (s out' : List ℕ) (r : ℕ) : Type 0 where
  pub had : Room out at m
  pub fits : length s ≤ m
  pub wrote : Wrote out at s out' r

module _ {out : List ℕ} {at m : ℕ} (h : Room out at m) where
  text_length : length (take at out) ≡ at
  text_length = length-take-le at out (omega (arith, h.room))

  pub adds : {s out' : List ℕ} {r : ℕ} → length s ≤ m → Wrote out at s out' r → Added out at m s out' r
  adds l w = record { had = h; fits = l; wrote = w }

  -- by a call of one of text's functions
  pub added : (s : List ℕ) {out' : List ℕ} {r : ℕ} → length s ≤ m → (out' ≡ appended at s out) × (r ≡ end_of at s out) → Added out at m s out' r
  added s l e =
      let x = take at out in
      let f : length x + length s ≤ length out = omega (arith, h.room, text_length) in
      let a : at ≡ length x = sym text_length in
      adds l record {
        text = e.0 ∙ ap₂ (λ (n : ℕ) (o : List ℕ). appended n s o) a h.zeros ∙ append-padded (length out) x s f;
        end =
            e.1 ∙ ap₂ (λ (n : ℕ) (o : List ℕ). end_of n s o) a h.zeros
            ∙ end_padded (length out) x s f
            ∙ length-append x s
            ∙ ap (λ (n : ℕ). n + length s) text_length;
      }

  pub wrote_none : Wrote out at [] out at
  wrote_none = record { text = h.zeros ∙ ap (padded (length out)) (sym (append-nil (take at out))); end = omega arith }

module _ {out : List ℕ} {at m : ℕ} {s out' : List ℕ} {r : ℕ} (a : Added out at m s out' r) where
  text_fits : length (take at out ++ s) ≤ length out
  text_fits = omega (arith, a.had.room, a.fits, text_length a.had, length-append (take at out) s)

  -- the buffer's length stays
  pub length-after : length out' ≡ length out
  length-after = ap length a.wrote.text ∙ length-padded (length out) (take at out ++ s) text_fits

  text_after : take r out' ≡ take at out ++ s
  text_after =
      ap (take r) a.wrote.text
      ∙ take-padded (length out) (take at out ++ s) r text_fits
      (a.wrote.end ∙ omega (arith, text_length a.had, length-append (take at out) s))

  -- the room that is left
  pub after : (m' : ℕ) → length s + m' ≤ m → Room out' r m'
  after m' k = record {
    zeros = a.wrote.text ∙ sym (ap₂ padded length-after text_after);
    room = omega (arith, a.had.room, a.wrote.end, length-after);
  }

  -- one text behind another
  pub chain : {s' out'' : List ℕ} {r' : ℕ} → Wrote out' r s' out'' r' → Wrote out at (s ++ s') out'' r'
  chain {s'} v = record {
    text =
        v.text ∙ ap₂ (λ (n : ℕ) (x : List ℕ). padded n (x ++ s')) length-after text_after
        ∙ ap (padded (length out)) (append_assoc (take at out) s s');
    end = omega (arith, v.end, a.wrote.end, length-append s s');
  }

-- ---- a new buffer, of zeros
pub zeros-room : (n m : ℕ) → m ≤ n → Room (replicate n 0) 0 m
zeros-room n m h = record {
  zeros = sym (padded_none n) ∙ ap (λ (k : ℕ). padded k []) (sym (length-replicate {A = ℕ} n 0));
  room = omega (arith, length-replicate {A = ℕ} n 0);
}

pub zeros_wrote : (n : ℕ) {s out : List ℕ} {r : ℕ} → Wrote (replicate n 0) 0 s out r → (out ≡ padded n s) × (r ≡ length s)
zeros_wrote n {s} w = (w.text ∙ ap (λ (k : ℕ). padded k s) (length-replicate {A = ℕ} n 0), omega (arith, w.end))

-- ---- how long a line is
pub word_le : (w : Outcome) → length (outcome_word w) ≤ 6
word_le Open = omega arith
word_le Agreed = omega arith
word_le None = omega arith
word_le Beyond = omega arith

pub front_most : (b : ℕ) (l : List ℕ) → b ≤ 192 → length (take b l) ≤ 192
front_most b l h = omega (arith, length-take b l)

pub number_le : (i : ℕ) → i ≤ 16 → length (decimal i) ≤ 2
number_le i h = decimal_short 2 i (omega arith) (omega arith)

result-most : (i : ℕ) (w : Outcome) (b : List ℕ) → i ≤ 16 → length b ≤ 192 → length (result_line i w b) ≤ 395
unfolding result_line
result-most i w b h l =
    let t = hexadecimal b ++ (newline ∷ []) in
    omega (
      arith,
      number_le i h,
      word_le w,
      length-hexadecimal b,
      length-append (hexadecimal b) (newline ∷ []),
      length-append (outcome_word w) (comma ∷ t),
      length-append (decimal i) (comma ∷ (outcome_word w ++ (comma ∷ t))),
    )

-- ---- the lines of the controllers
module _ (f : ℕ → Bool) (w : ℕ → Outcome) (b : ℕ → List ℕ) where
  abbrev line : ℕ → List ℕ
  line i = result_line i (w i) (b i)

  results_correct : (i : ℕ) → f (suc i) ≡ false → results f w b (suc i) ≡ results f w b i ++ line (suc i)
  unfolding results
  results_correct i h = ap (λ (l : List ℕ). results f w b i ++ l) (cond_no (f (suc i)) [] (line (suc i)) h)

  results-faulty : (i : ℕ) → f (suc i) ≡ true → results f w b (suc i) ≡ results f w b i
  unfolding results
  results-faulty i h = ap (λ (l : List ℕ). results f w b i ++ l) (cond_yes (f (suc i)) [] (line (suc i)) h) ∙ append-nil (results f w b i)

  results-most : (i : ℕ) → i ≤ 16 → ((j : ℕ) → 1 ≤ j → j ≤ i → length (b j) ≤ 192) → length (results f w b i) ≤ i * 395
  unfolding results
  results-most zero h l = omega arith
  results-most (suc i) h l =
      let r = results-most i (omega arith) (λ j p q. l j p (omega arith)) in
      ⊎_elim (λ (y : f (suc i) ≡ true). omega (arith, ap length (results-faulty i y), r))
      (λ (y : f (suc i) ≡ false). omega (
        arith,
        ap length (results_correct i y),
        length-append (results f w b i) (line (suc i)),
        result-most (suc i) (w (suc i)) (b (suc i)) h (l (suc i) (omega arith) (omega arith)),
        r,
      ))
      (either (f (suc i)))

-- ---- the loop that writes them: controllers are counted from 0
-- an element that is there
pub get_or_inside : {A : Type 0} (l : List A) (i : ℕ) (d e : A) → i < length l → get_or l i d ≡ get_or l i e
get_or_inside [] i d e h = absurd (omega arith)
get_or_inside (x ∷ l) zero d e h = refl
get_or_inside (x ∷ l) (suc i) d e h = get_or_inside l i d e (omega arith)

module _ (faulty : ℕ) (cs : List Controller) (b : ℕ) where
  abbrev faults : ℕ → Bool
  faults = λ i. member faulty (i - 1)

  abbrev outcomes : ℕ → Outcome
  outcomes = λ i. (get_or cs (i - 1) zero_controller).state.outcome

  abbrev blocks : ℕ → List ℕ
  blocks = λ i. take b (get_or cs (i - 1) zero_controller).block

  abbrev pub lines : ℕ → List ℕ
  lines n = results faults outcomes blocks n

  pub lines_le : (i : ℕ) → i ≤ 16 → b ≤ 192 → length (lines i) ≤ i * 395
  lines_le i h l = results-most faults outcomes blocks i h (λ j p q. omega (arith, length-take b (get_or cs (j - 1) zero_controller).block))

  lines_correct : (i : ℕ) → member faulty i ≡ false
      → lines (i + 1) ≡ lines i ++ result_line (i + 1) (get_or cs i zero_controller).state.outcome (take b (get_or cs i zero_controller).block)
  lines_correct i h =
      let e : suc i - 1 ≡ i = omega arith in
      rw add-one
      (results_correct faults outcomes blocks i (ap (member faulty) e ∙ h)
      ∙ ap (λ (x : ℕ). lines i ++ result_line (suc i) (get_or cs x zero_controller).state.outcome (take b (get_or cs x zero_controller).block)) e)

  lines_faulty : (i : ℕ) → member faulty i ≡ true → lines (i + 1) ≡ lines i
  lines_faulty i h =
      let e : suc i - 1 ≡ i = omega arith in
      rw add-one (results-faulty faults outcomes blocks i (ap (member faulty) e ∙ h))

  pub lines_start : {out : List ℕ} {at m : ℕ} → Room out at m → Wrote out at (lines 0) out at
  unfolding results
  lines_start h = wrote_none h

  module _ (i : ℕ) {out : List ℕ} {at m : ℕ} {out' : List ℕ} {r : ℕ} (a : Added out at m (lines i) out' r) where
    -- v and x are the outcome and the block, as the code has them
    pub turn_correct : member faulty i ≡ false → {v : Outcome} {x out'' : List ℕ} {r' : ℕ} → v ≡ (get_or cs i zero_controller).state.outcome
        → x ≡ take b (get_or cs i zero_controller).block → Wrote out' r (result_line (i + 1) v x) out'' r' → Wrote out at (lines (i + 1)) out'' r'
    turn_correct c {v} {x} {out''} {r'} e f w =
        let g : lines i ++ result_line (i + 1) v x ≡ lines (i + 1) =
        ap₂ (λ (v : Outcome) (x : List ℕ). lines i ++ result_line (i + 1) v x) e f ∙ sym (lines_correct i c) in
        subst (λ (s : List ℕ). Wrote out at s out'' r') g (chain a w)

    pub turn_faulty : member faulty i ≡ true → Wrote out at (lines (i + 1)) out' r
    turn_faulty c = subst (λ (s : List ℕ). Wrote out at s out' r) (sym (lines_faulty i c)) a.wrote
