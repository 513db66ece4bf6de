-- Laws of message lines that are entered in the table. The main ones: `entry_said` and its neighbours (what the code answers for one line),
-- `entry_line` (a line is entered where the definition takes it), and `Sofar` with `sofar_start`, `sofar_more`, `sofar_stop` and `sofar_end` (the loop
-- over the lines).
use mathlib.Core.Path.{◌≡◌, refl, sym, ap, subst, ◌∙◌}
use mathlib.Core.Bool.{Bool, true, false, cond, not, ◌&&◌}
use mathlib.Core.List.{List, [], ◌∷◌}
use mathlib.Core.Logic.{⊎_elim}
use Prim.Native.Nat.{ℕ, zero, suc, ◌+◌, ◌-◌, ◌≤◌, ◌<◌}
use native.Mathlib.Omega.{arith}
use lib.ListN.{length}
use Rattle.lists.proofs.Tests.{either, fails, and_left, and_right, and_both, and_no_left, and_no_right, cond_yes, cond_no}
use Rattle.text.specs.Lines.{line_at, is_ended, next_at}
use Rattle.text.proofs.Laws.{ended_yes, next_is, held_ended, held_short, held_next}
use Rattle.bitset.specs.Set.{set_of, inserted}
use Rattle.bitset.proofs.Laws.{set_empty}
use Rattle.settings.specs.Valid.{Coded}
use Rattle.settings.specs.declared.Settings.{Settings}
use Rattle.system_file.specs.declared.messages.Said.{Said}
use Rattle.system_file.specs.declared.messages.Entry.{Entry}
use Rattle.std.specs.Prelude.{Some, None, Ok, Err}
use Rattle.system_file.specs.Form.{
  is_message,
  Message,
  message_at,
  is_repeated,
  Read,
  wrong,
  right,
  read_from,
}
use Rattle.system_file.specs.declared.FormError.TheVariants.{Line}
use Rattle.system_file.specs.Table.{is_faulty, table_of, error_of}
use Rattle.system_file.specs.Steps.{line_in, is_new, table_with, said, Enters, is_entry, entry_at, table_at, bare, lines_of, table_in, Started}
use Rattle.system_file.proofs.Rows.{All, none, more, all_map, table_more, new_repeated, faulty_more}
use Rattle.system_file.proofs.MessageLine.{message-not, said_message, Placed, message-placed, placed_enters}
use Rattle.system_file.proofs.Reading.{is_line, read_end, read_stop, read_more}

-- ---- what is entered
module _ (σ : Settings) (input : List ℕ) (a : ℕ) where
  module _ (ps : List ℕ) where
    -- what the line gives
    pub entry : Entry
    entry = record { from = (message_at input a).from; next = next_at input a }

    pub entry_no : is_entry σ input a ps ≡ false → (None ≡ entry_at σ input a ps) × (ps ≡ table_at σ input a ps)
    unfolding entry_at table_at
    entry_no e = (sym (cond_no _ _ _ e), sym (cond_no _ _ _ e))

    pub entry_yes : is_entry σ input a ps ≡ true → (Some entry ≡ entry_at σ input a ps) × (table_with ps (message_at input a) ≡ table_at σ input a ps)
    unfolding entry_at table_at entry
    entry_yes e = (sym (cond_yes _ _ _ e), sym (cond_yes _ _ _ e))

    pub no_entry_short : is_ended input a ≡ false → is_entry σ input a ps ≡ false
    unfolding is_entry
    no_entry_short e = and_no_left (is_ended input a) (is_message σ (line_at input a) && is_new ps (message_at input a)) e

    pub no_entry_other : is_message σ (line_at input a) ≡ false → is_entry σ input a ps ≡ false
    unfolding is_entry
    no_entry_other e =
        and_no_right (is_ended input a) (is_message σ (line_at input a) && is_new ps (message_at input a))
        (and_no_left (is_message σ (line_at input a)) (is_new ps (message_at input a)) e)

    pub no_entry_given : is_new ps (message_at input a) ≡ false → is_entry σ input a ps ≡ false
    unfolding is_entry
    no_entry_given e =
        and_no_right (is_ended input a) (is_message σ (line_at input a) && is_new ps (message_at input a))
        (and_no_right (is_message σ (line_at input a)) (is_new ps (message_at input a)) e)

    pub yes_entry : is_ended input a ≡ true → is_message σ (line_at input a) ≡ true → is_new ps (message_at input a) ≡ true → is_entry σ input a ps ≡ true
    unfolding is_entry
    yes_entry e y w =
        and_both (is_ended input a) (is_message σ (line_at input a) && is_new ps (message_at input a)) e
        (and_both (is_message σ (line_at input a)) (is_new ps (message_at input a)) y w)

    pub entry_ended : is_entry σ input a ps ≡ true → is_ended input a ≡ true
    unfolding is_entry
    entry_ended e = and_left (is_ended input a) (is_message σ (line_at input a) && is_new ps (message_at input a)) e

    pub entry_placed : 1 ≤ a → is_entry σ input a ps ≡ true → Placed σ (length input) (message_at input a)
    unfolding is_entry
    entry_placed h e =
        message-placed σ input a h (entry_ended e)
        (and_left (is_message σ (line_at input a)) (is_new ps (message_at input a))
        (and_right (is_ended input a) (is_message σ (line_at input a) && is_new ps (message_at input a)) e))

-- ---- the code, for a line l that it holds
module _ (σ : Settings) (input l : List ℕ) (a : ℕ) (ps : List ℕ) (e : l ≡ line_at input a) where
  pub entry_short : length input ≤ a + length l → (None ≡ entry_at σ input a ps) × (ps ≡ table_at σ input a ps)
  entry_short h = entry_no σ input a ps (no_entry_short σ input a ps (held_short input l a e h))

  pub entry_wrong : None ≡ line_in σ l a → (None ≡ entry_at σ input a ps) × (ps ≡ table_at σ input a ps)
  entry_wrong d =
      entry_no σ input a ps (no_entry_other σ input a ps (message-not σ input a (d ∙ ap (λ (y : List ℕ). line_in σ y a) e)))

  module _ (m : Said) (h : a + length l < length input) (d : Some m ≡ line_in σ l a) where
    is : (is_message σ (line_at input a) ≡ true) × (said m ≡ message_at input a)
    is = said_message σ input a m (d ∙ ap (λ (y : List ℕ). line_in σ y a) e)

    ended : is_ended input a ≡ true
    ended = held_ended input l a e h

    pub said_enters : Started input σ a → Enters (said m)
    said_enters v =
        placed_enters v.coded (length input) v.size (said m)
        (subst (Placed σ (length input)) (sym is.1) (message-placed σ input a v.at_least ended is.0))

    -- new says whether the table takes it, and qs is the table then
    module _ {new : Bool} {qs : List ℕ} (u : new ≡ is_new ps (said m)) (v : qs ≡ cond new (table_with ps (said m)) ps) where
      pub entry_said : new ≡ true → (Some (record { from = m.from; next = a + length l + 1 }) ≡ entry_at σ input a ps) × (qs ≡ table_at σ input a ps)
      unfolding entry
      entry_said w =
          let q = entry_yes σ input a ps (yes_entry σ input a ps ended is.0 (ap (is_new ps) (sym is.1) ∙ sym u ∙ w)) in (
            ap (λ (x : ℕ). Some (record { from = m.from; next = x })) (held_next input l a e)
                ∙ ap (λ (x : Message). Some (record { from = x.from; next = next_at input a })) is.1 ∙ q.0,
            v ∙ ap (λ (b : Bool). cond b (table_with ps (said m)) ps) w ∙ ap (table_with ps) is.1 ∙ q.1,
          )

      pub entry_given : new ≡ false → (None ≡ entry_at σ input a ps) × (qs ≡ table_at σ input a ps)
      entry_given w =
          let q = entry_no σ input a ps (no_entry_given σ input a ps (ap (is_new ps) (sym is.1) ∙ sym u ∙ w)) in
          (q.0, v ∙ ap (λ (b : Bool). cond b (table_with ps (said m)) ps) w ∙ q.1)

-- ---- a turn of the loop
module _ (σ : Settings) (v : Coded σ.n σ.t σ.k) (input : List ℕ) (size : length input ≤ 65536) (a : ℕ) (h : 1 ≤ a) (ms : List Message)
    (kept : All (Placed σ (length input)) ms) where
  enters : All Enters ms
  enters = all_map (λ m p. placed_enters v (length input) size m p) kept

  -- the line is entered where the definition takes it
  pub entry_line : is_entry σ input a (table_of ms) ≡ is_line input (bare σ ms) a
  unfolding is_entry is_line
  entry_line = go (is_ended input a) (is_message σ (line_at input a)) refl refl
    where
      go : (b d : Bool) → is_ended input a ≡ b → is_message σ (line_at input a) ≡ d
          → (b && (d && is_new (table_of ms) (message_at input a))) ≡ (b && (d && not (is_repeated ms (message_at input a))))
      go false d y z = refl
      go true false y z = refl
      go true true y z = new_repeated ms (message_at input a) (placed_enters v (length input) size (message_at input a) (message-placed σ input a h y z)) enters

-- ---- the answer for one line
module _ (σ : Settings) (input : List ℕ) (a : ℕ) (ps : List ℕ) where
  pub no_entry : None ≡ entry_at σ input a ps → is_entry σ input a ps ≡ false
  no_entry e =
      fails (is_entry σ input a ps)
      (λ y. let q = (entry_yes σ input a ps y).0 in let z : ◌≡◌ {A = ℕ} 0 1 = cc in omega arith)

  pub made_entry : (m : Entry) → Some m ≡ entry_at σ input a ps
      → (is_entry σ input a ps ≡ true) × (m.from ≡ (message_at input a).from) × (m.next ≡ next_at input a)
  unfolding entry
  made_entry m e =
      ⊎_elim
      (λ (y : is_entry σ input a ps ≡ true).
      let q = (entry_yes σ input a ps y).0 in
      let t : m ≡ entry σ input a ps = cc in
      (y, ap (λ (x : Entry). x.from) t, ap (λ (x : Entry). x.next) t))
      (λ (y : is_entry σ input a ps ≡ false). let q = (entry_no σ input a ps y).0 in let z : ◌≡◌ {A = ℕ} 0 1 = cc in absurd (omega arith))
      (either (is_entry σ input a ps))

-- the error of a line
pub error_line : (x : ℕ) → 1 ≤ x → error_of x ≡ Line x
error_line zero h = absurd (omega arith)
error_line (suc x) h = refl

-- ---- the loop: what was read before the line at `at`
pub record Sofar (input : List ℕ) (σ : Settings) (start : ℕ) (places : List ℕ) (at line faulty : ℕ) : Type 0 where
  pub messages : List Message
  pub fuel : ℕ
  pub table : places ≡ table_of messages
  pub set : faulty ≡ set_of 16 (λ i. is_faulty messages (i + 1))
  pub kept : All (Placed σ (length input)) messages
  pub enough : length input ≤ fuel + at
  pub within : at ≤ length input
  pub after : 1 ≤ at
  pub least : 4 ≤ line
  pub lines : line ≤ at + 4
  pub same : read_from (length input) input (bare σ []) start 4 ≡ read_from fuel input (bare σ messages) at line

pub sofar_start : (input : List ℕ) (σ : Settings) (start : ℕ) (places : List ℕ) → Started input σ start → places ≡ table_of []
    → Sofar input σ start places start 4 0
unfolding is_faulty
sofar_start input σ start places v e = record {
  messages = [];
  fuel = length input;
  table = e;
  set = sym (set_empty 16 (λ i. is_faulty [] (i + 1)) (λ _. refl));
  kept = none;
  enough = omega arith;
  within = v.at_most;
  after = v.at_least;
  least = omega arith;
  lines = omega (arith, v.at_least);
  same = refl;
}

module _ {input : List ℕ} {σ : Settings} {start : ℕ} (v : Coded σ.n σ.t σ.k) (size : length input ≤ 65536) {places : List ℕ} {at line faulty : ℕ}
    (s : Sofar input σ start places at line faulty) where
  R : Read
  R = read_from (length input) input (bare σ []) start 4

  pub sofar_end : length input ≤ at
      → (Ok faulty ≡ lines_of (read_from (length input) input (bare σ []) start 4))
      × (places ≡ table_in (read_from (length input) input (bare σ []) start 4) places)
  unfolding R
  sofar_end h =
      let q : R ≡ right (bare σ s.messages) = s.same ∙ read_end input (bare σ s.messages) at line s.fuel h in
      (ap Ok s.set ∙ sym (ap lines_of q), s.table ∙ sym (ap (λ (r : Read). table_in r places) q))

  -- a line before the end
  module _ (h : at < length input) where
    less : s.fuel ≡ suc (s.fuel - 1)
    less = omega (arith, s.enough)

    tests : is_entry σ input at places ≡ is_line input (bare σ s.messages) at
    tests = ap (is_entry σ input at) s.table ∙ entry_line σ v input size at s.after s.messages s.kept

    pub sofar_stop : (qs : List ℕ) → None ≡ entry_at σ input at places
        → (Err (Line line) ≡ lines_of (read_from (length input) input (bare σ []) start 4))
        × (qs ≡ table_in (read_from (length input) input (bare σ []) start 4) qs)
    unfolding R
    sofar_stop qs e =
        let q : R ≡ wrong line = s.same ∙ ap (λ (x : ℕ). read_from x input (bare σ s.messages) at line) less
        ∙ read_stop input (bare σ s.messages) at line (s.fuel - 1) h (sym tests ∙ no_entry σ input at places e) in
        (ap Err (sym (error_line line (omega (arith, s.least)))) ∙ sym (ap lines_of q), sym (ap (λ (r : Read). table_in r qs) q))

    module _ (g : Entry) (e : Some g ≡ entry_at σ input at places) where
      made : (is_entry σ input at places ≡ true) × (g.from ≡ (message_at input at).from) × (g.next ≡ next_at input at)
      made = made_entry σ input at places g e

      new : Placed σ (length input) (message_at input at)
      new = entry_placed σ input at places s.after made.0

      pub sofar_step : (1 ≤ g.from) × (at < g.next) × (g.next ≤ length input)
      sofar_step = (
        omega (arith, made.1, new.from.least),
        omega (arith, made.2, next_is input at),
        omega (arith, made.2, next_is input at, ended_yes input at (entry_ended σ input at places made.0)),
      )

      pub sofar_more : (qs : List ℕ) (x : ℕ) → qs ≡ table_at σ input at places → x ≡ inserted faulty (g.from - 1) → Sofar input σ start qs g.next (line + 1) x
      sofar_more qs x u w =
          let m = message_at input at in
          record {
            messages = m ∷ s.messages;
            fuel = s.fuel - 1;
            table = u ∙ sym (entry_yes σ input at places made.0).1 ∙ ap (λ (y : List ℕ). table_with y m) s.table ∙ table_more m s.messages;
            set = w ∙ ap (λ (y : ℕ). inserted y (g.from - 1)) s.set ∙ ap (λ (y : ℕ). inserted (set_of 16 (λ i. is_faulty s.messages (i + 1))) (y - 1)) made.1
                ∙ faulty_more m s.messages new.from.least;
            kept = more new s.kept;
            enough = omega (arith, s.enough, sofar_step.1);
            within = sofar_step.2;
            after = omega (arith, s.after, sofar_step.1);
            least = omega (arith, s.least);
            lines = omega (arith, s.lines, sofar_step.1);
            same = s.same ∙ ap (λ (y : ℕ). read_from y input (bare σ s.messages) at line) less
                ∙ read_more input (bare σ s.messages) at line (s.fuel - 1) h (sym tests ∙ made.0)
                ∙ ap (λ (y : ℕ). read_from (s.fuel - 1) input (bare σ (m ∷ s.messages)) y (line + 1)) (sym made.2);
          }
