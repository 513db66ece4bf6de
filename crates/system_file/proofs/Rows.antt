-- Laws of the table of places. The main ones: `table_more` (the table after one message more), `row_of` (a row of the table), `given_repeated` (a
-- message is repeated where its row has a place for a receiver), `put_row` (the table after one of its rows was lent and filled), `faulty_more`.
use mathlib.Core.Path.{◌≡◌, refl, sym, ap, ap₂, ◌∙◌}
use mathlib.Core.Bool.{Bool, true, false, cond, not, ◌&&◌, ◌||◌}
use mathlib.Core.List.{List, [], ◌∷◌, ◌++◌}
use mathlib.Core.Logic.{◌⊎◌, inl, inr, ⊎_elim}
use Prim.Native.Nat.{ℕ, ◌+◌, ◌-◌, ◌*◌, ◌/◌, ◌%◌, ◌≤◌, ◌<◌}
use native.Mathlib.Omega.{arith}
use borrow.Author.Tests.{eq-eqb, ne_eqb, eqb-true, eqb-false, lt-ltb, ltb-true, not-true}
use lib.Dec.{eqb}
use lib.ListN.{length, get_or, take, drop, take-append-drop}
use Rattle.lists.specs.Fill.{tabulate, filled}
use Rattle.lists.specs.Join.{part}
use Rattle.lists.specs.Sum.{count}
use Rattle.lists.proofs.Tests.{true≢false, either, bool_ext, fails, and_left, and_right, and_both}
use Rattle.lists.proofs.Tests.{or_cases, or_left, or_right, or_comm, cond_yes, cond_no, same_or_not}
use Rattle.lists.proofs.Fills.{length-tabulate, get_or-tabulate, tabulate_ext, filled_all}
use Rattle.lists.proofs.Joins.{part_take, same_parts, get_or_part, part_given, part_tabulate, part_put_same, part_put_other}
use Rattle.lists.proofs.Parts.{length_put}
use Rattle.lists.proofs.Sums.{count_some, count-member}
use Rattle.bitset.specs.Set.{set_of, inserted}
use Rattle.bitset.proofs.Laws.{ext, set_lt, insert_lt, member_insert, member-set}
use Rattle.system_file.specs.Form.{Message, clashes, is_repeated}
use Rattle.system_file.specs.Table.{is_faulty, reaches, place_of, table_size, table_of}
use Rattle.system_file.specs.Steps.{is_to, is_taken, is_given, row_with, row_at, is_new, table_with, Enters}

-- what holds of each message
pub data All (P : Message → Type 0) : List Message → Type 0 where
  none : All P []
  more : {m : Message} {ms : List Message} → P m → All P ms → All P (m ∷ ms)

pub all_map : {P Q : Message → Type 0} → ((m : Message) → P m → Q m) → {ms : List Message} → All P ms → All Q ms
all_map f none = none
all_map f (more {m = m} p a) = more (f m p) (all_map f a)

-- ---- the index of a place: what it says of round, sender and receiver
pub at_index : {A : Type 0} (g : ℕ → ℕ → ℕ → A) (r f j : ℕ) → 1 ≤ r → 1 ≤ f → f ≤ 16 → j < 16
    → g ((((r - 1) * 16 + (f - 1)) * 16 + j) / 256 + 1) ((((r - 1) * 16 + (f - 1)) * 16 + j) / 16 % 16 + 1) ((((r - 1) * 16 + (f - 1)) * 16 + j) % 16 + 1)
    ≡ g r f (j + 1)
at_index g r f j hr hf lf h =
    let x = ((r - 1) * 16 + (f - 1)) * 16 + j in
    let er : x / 256 + 1 ≡ r = omega arith in
    let ef : x / 16 % 16 + 1 ≡ f = omega arith in
    let ej : x % 16 + 1 ≡ j + 1 = omega arith in
    ap (λ (y : ℕ). g y (x / 16 % 16 + 1) (x % 16 + 1)) er ∙ ap (λ (y : ℕ). g r y (x % 16 + 1)) ef ∙ ap (g r f) ej

pub row_lt : (r f : ℕ) → 1 ≤ r → r ≤ 23 → 1 ≤ f → f ≤ 16 → (r - 1) * 16 + (f - 1) < 368
row_lt r f hr lr hf lf = omega arith

-- ---- rows
pub length_table : (ms : List Message) → length (table_of ms) ≡ table_size
unfolding table_of
length_table ms = length-tabulate (λ x. place_of ms (x / 256 + 1) (x / 16 % 16 + 1) (x % 16 + 1)) table_size

pub row_of : (ms : List Message) (r f : ℕ) → 1 ≤ r → r ≤ 23 → 1 ≤ f → f ≤ 16 → row_at (table_of ms) r f ≡ tabulate (λ j. place_of ms r f (j + 1)) 16
unfolding row_at table_of
row_of ms r f hr lr hf lf =
    let i = (r - 1) * 16 + (f - 1) in
    let g : ℕ → ℕ = λ x. place_of ms (x / 256 + 1) (x / 16 % 16 + 1) (x % 16 + 1) in
    part_tabulate g 16 368 i (row_lt r f hr lr hf lf)
    ∙ tabulate_ext (λ j. g (i * 16 + j)) (λ j. place_of ms r f (j + 1)) 16 (λ j h. at_index (place_of ms) r f j hr hf lf h)

-- ---- one message more
pub place_more : (m : Message) (ms : List Message) (r f j : ℕ) → reaches m r f j ≡ true → place_of (m ∷ ms) r f j ≡ m.place
unfolding place_of
place_more m ms r f j e = cond_yes (reaches m r f j) m.place (place_of ms r f j) e

pub place_same : (m : Message) (ms : List Message) (r f j : ℕ) → reaches m r f j ≡ false → place_of (m ∷ ms) r f j ≡ place_of ms r f j
unfolding place_of
place_same m ms r f j e = cond_no (reaches m r f j) m.place (place_of ms r f j) e

pub table_more : (m : Message) (ms : List Message) → table_with (table_of ms) m ≡ table_of (m ∷ ms)
unfolding table_of table_with place_of
table_more m ms =
    let g : ℕ → ℕ = λ x. place_of ms (x / 256 + 1) (x / 16 % 16 + 1) (x % 16 + 1) in
    let s : ℕ → Bool = λ x. reaches m (x / 256 + 1) (x / 16 % 16 + 1) (x % 16 + 1) in
    tabulate_ext (λ x. cond (s x) m.place (get_or (tabulate g table_size) x 0)) (λ x. cond (s x) m.place (g x)) table_size
    (λ x h. ap (cond (s x) m.place) (get_or-tabulate g table_size x 0 h))

-- ---- receivers
pub row_to_all : (j : ℕ) (to : ℕ) → to ≡ 0 → is_to to j ≡ true
unfolding is_to
row_to_all j to e = or_left (eqb to 0) (eqb to j) (eq-eqb to 0 e)

pub to_one : (j : ℕ) (to : ℕ) → to ≡ j → is_to to j ≡ true
unfolding is_to
to_one j to e = or_right (eqb to 0) (eqb to j) (eq-eqb to j e)

pub to_cases : (j : ℕ) (to : ℕ) → is_to to j ≡ true → (to ≡ 0) ⊎ (to ≡ j)
unfolding is_to
to_cases j to e = ⊎_elim (λ (a : eqb to 0 ≡ true). inl (eqb-true to 0 a)) (λ (a : eqb to j ≡ true). inr (eqb-true to j a)) (or_cases (eqb to 0) (eqb to j) e)

module _ (m : Message) where
  pub reach_parts : (r f j : ℕ) → reaches m r f j ≡ true → (m.round ≡ r) × (m.from ≡ f) × (is_to m.to j ≡ true)
  unfolding reaches is_to
  reach_parts r f j e =
      let t = eqb m.to 0 || eqb m.to j in
      let b = and_right (eqb m.round r) (eqb m.from f && t) e in (
        eqb-true m.round r (and_left (eqb m.round r) (eqb m.from f && t) e),
        eqb-true m.from f (and_left (eqb m.from f) t b),
        and_right (eqb m.from f) t b,
      )

  parts_reach : (r f j : ℕ) → m.round ≡ r → m.from ≡ f → is_to m.to j ≡ true → reaches m r f j ≡ true
  unfolding reaches is_to
  parts_reach r f j a b d =
      let t = eqb m.to 0 || eqb m.to j in
      and_both (eqb m.round r) (eqb m.from f && t) (eq-eqb m.round r a) (and_both (eqb m.from f) t (eq-eqb m.from f b) d)

  -- in its own row a message reaches its receivers
  pub reach_row : (j : ℕ) → reaches m m.round m.from j ≡ is_to m.to j
  reach_row j =
      bool_ext (reaches m m.round m.from j) (is_to m.to j)
      (λ e. (reach_parts m.round m.from j e).2)
      (λ e. parts_reach m.round m.from j refl refl e)

-- ---- messages that give the same
module _ (x m : Message) where
  shared : Bool
  shared = eqb x.to m.to || (eqb x.to 0 || eqb m.to 0)

  clash_parts : clashes x m ≡ true → (x.round ≡ m.round) × (x.from ≡ m.from) × (shared ≡ true)
  unfolding clashes shared
  clash_parts e =
      let b = and_right (eqb x.round m.round) (eqb x.from m.from && shared) e in (
        eqb-true x.round m.round (and_left (eqb x.round m.round) (eqb x.from m.from && shared) e),
        eqb-true x.from m.from (and_left (eqb x.from m.from) shared b),
        and_right (eqb x.from m.from) shared b,
      )

  parts_clash : x.round ≡ m.round → x.from ≡ m.from → shared ≡ true → clashes x m ≡ true
  unfolding clashes shared
  parts_clash a b d =
      and_both (eqb x.round m.round) (eqb x.from m.from && shared) (eq-eqb x.round m.round a)
      (and_both (eqb x.from m.from) shared (eq-eqb x.from m.from b) d)

  -- a receiver of both
  both_clash : (j : ℕ) → reaches x m.round m.from j ≡ true → is_to m.to j ≡ true → clashes x m ≡ true
  unfolding shared
  both_clash j a b =
      let p = reach_parts x m.round m.from j a in
      let same = eqb x.to m.to in
      let ends = eqb x.to 0 || eqb m.to 0 in
      parts_clash p.0 p.1
      (⊎_elim
      (λ (e : x.to ≡ 0). or_right same ends (or_left (eqb x.to 0) (eqb m.to 0) (eq-eqb x.to 0 e)))
      (λ (e : x.to ≡ j). ⊎_elim
      (λ (d : m.to ≡ 0). or_right same ends (or_right (eqb x.to 0) (eqb m.to 0) (eq-eqb m.to 0 d)))
      (λ (d : m.to ≡ j). or_left same ends (eq-eqb x.to m.to (e ∙ sym d)))
      (to_cases j m.to b))
      (to_cases j x.to p.2))

  Both : Type 0
  Both = (j : ℕ) × (j < 16) × (reaches x m.round m.from (j + 1) ≡ true) × (is_to m.to (j + 1) ≡ true)

  clash_both : x.to ≤ 16 → m.to ≤ 16 → clashes x m ≡ true → Both
  unfolding shared Both
  clash_both lx lm e =
      let p = clash_parts e in
      let give : (j : ℕ) → j < 16 → is_to x.to (j + 1) ≡ true → is_to m.to (j + 1) ≡ true → Both = λ j l a b.
      (j, l, parts_reach x m.round m.from (j + 1) p.0 p.1 a, b) in
      ⊎_elim
      (λ (z : m.to ≡ 0). ⊎_elim
      (λ (y : x.to ≡ 0). give 0 (omega arith) (row_to_all 1 x.to y) (row_to_all 1 m.to z))
      (λ (y : x.to ≡ 0 → ⊥). give (x.to - 1) (omega arith) (to_one (x.to - 1 + 1) x.to (omega arith)) (row_to_all (x.to - 1 + 1) m.to z))
      (same_or_not x.to 0))
      (λ (z : m.to ≡ 0 → ⊥).
      let u : is_to m.to (m.to - 1 + 1) ≡ true = to_one (m.to - 1 + 1) m.to (omega arith) in
      ⊎_elim
      (λ (y : eqb x.to m.to ≡ true).
      let q = eqb-true x.to m.to y in
      give (m.to - 1) (omega arith) (to_one (m.to - 1 + 1) x.to (omega arith)) u)
      (λ (y : (eqb x.to 0 || eqb m.to 0) ≡ true). ⊎_elim
      (λ (w : eqb x.to 0 ≡ true). give (m.to - 1) (omega arith) (row_to_all (m.to - 1 + 1) x.to (eqb-true x.to 0 w)) u)
      (λ (w : eqb m.to 0 ≡ true). absurd (z (eqb-true m.to 0 w)))
      (or_cases (eqb x.to 0) (eqb m.to 0) y))
      (or_cases (eqb x.to m.to) (eqb x.to 0 || eqb m.to 0) p.2))
      (same_or_not m.to 0)

-- ---- a place that is taken
pub taken_parts : (x to j : ℕ) → is_taken x to j ≡ true → (x ≡ 0 → ⊥) × (is_to to j ≡ true)
unfolding is_taken
taken_parts x to j e = (eqb-false x 0 (not-true (eqb x 0) (and_left (not (eqb x 0)) (is_to to j) e)), and_right (not (eqb x 0)) (is_to to j) e)

pub parts_taken : (x to j : ℕ) → (x ≡ 0 → ⊥) → is_to to j ≡ true → is_taken x to j ≡ true
unfolding is_taken
parts_taken x to j n e = and_both (not (eqb x 0)) (is_to to j) (ap not (ne_eqb x 0 n)) e

-- a place that is found is that of a message that gives the same
found_repeated : (ms : List Message) (m : Message) (j : ℕ) → (place_of ms m.round m.from j ≡ 0 → ⊥) → is_to m.to j ≡ true → is_repeated ms m ≡ true
unfolding is_repeated place_of
found_repeated [] m j n e = absurd (n refl)
found_repeated (x ∷ ms) m j n e =
    ⊎_elim
    (λ (a : reaches x m.round m.from j ≡ true). or_left (clashes x m) (is_repeated ms m) (both_clash x m j a e))
    (λ (a : reaches x m.round m.from j ≡ false).
    or_right (clashes x m) (is_repeated ms m) (found_repeated ms m j (λ z. n (place_same x ms m.round m.from j a ∙ z)) e))
    (either (reaches x m.round m.from j))

-- a place is found where a message gives the same
repeated_found : {ms : List Message} (m : Message) → m.to ≤ 16 → All Enters ms → is_repeated ms m ≡ true
    → (j : ℕ) × (j < 16) × (is_taken (place_of ms m.round m.from (j + 1)) m.to (j + 1) ≡ true)
unfolding is_repeated
repeated_found m l none e = absurd (true≢false (sym e))
repeated_found m l (more {m = x} {ms = ms} p a) e = go (repeated_found m l a) (or_cases (clashes x m) (is_repeated ms m) e)
  where
    Found : List Message → Type 0
    Found l = (j : ℕ) × (j < 16) × (is_taken (place_of l m.round m.from (j + 1)) m.to (j + 1) ≡ true)

    held : (j : ℕ) → reaches x m.round m.from j ≡ true → place_of (x ∷ ms) m.round m.from j ≡ 0 → ⊥
    held j b z = let q = place_more x ms m.round m.from j b in omega (arith, p.place-least)

    kept : (j : ℕ) → (place_of ms m.round m.from j ≡ 0 → ⊥) → place_of (x ∷ ms) m.round m.from j ≡ 0 → ⊥
    kept j n z =
        ⊎_elim (λ (b : reaches x m.round m.from j ≡ true). held j b z)
        (λ (b : reaches x m.round m.from j ≡ false). n (sym (place_same x ms m.round m.from j b) ∙ z))
        (either (reaches x m.round m.from j))

    go : (is_repeated ms m ≡ true → Found ms) → (clashes x m ≡ true) ⊎ (is_repeated ms m ≡ true) → Found (x ∷ ms)
    go ih (inl b) =
        let q : Both x m = clash_both x m p.to_most l b in
        unfold Both in (q.0, q.1, parts_taken (place_of (x ∷ ms) m.round m.from (q.0 + 1)) m.to (q.0 + 1) (held (q.0 + 1) q.2) q.3)
    go ih (inr b) =
        let q = ih b in
        let t = taken_parts (place_of ms m.round m.from (q.0 + 1)) m.to (q.0 + 1) q.2 in
        (q.0, q.1, parts_taken (place_of (x ∷ ms) m.round m.from (q.0 + 1)) m.to (q.0 + 1) (kept (q.0 + 1) t.0) t.1)

-- ---- the test of the code
module _ (row : List ℕ) (to : ℕ) where
  pub given_at : (j : ℕ) → j < 16 → is_taken (get_or row j 0) to (j + 1) ≡ true → is_given row to ≡ true
  unfolding is_given
  given_at j l e = lt-ltb 0 (count 16 (λ i. is_taken (get_or row i 0) to (i + 1))) (count_some 16 (λ i. is_taken (get_or row i 0) to (i + 1)) j l e)

  pub at_given : is_given row to ≡ true → (j : ℕ) × (j < 16) × (is_taken (get_or row j 0) to (j + 1) ≡ true)
  unfolding is_given
  at_given e =
      count-member 16 (λ i. is_taken (get_or row i 0) to (i + 1)) (ltb-true 0 (count 16 (λ i. is_taken (get_or row i 0) to (i + 1))) e)

  pub given_none : ((j : ℕ) → j < 16 → is_taken (get_or row j 0) to (j + 1) ≡ false) → is_given row to ≡ false
  given_none h = fails (is_given row to) (λ e. let q = at_given e in true≢false (sym q.2 ∙ h q.0 q.1))

pub given_repeated : (ms : List Message) (m : Message) → Enters m → All Enters ms → is_given (row_at (table_of ms) m.round m.from) m.to ≡ is_repeated ms m
given_repeated ms m p a =
    let row = row_at (table_of ms) m.round m.from in
    let says : (j : ℕ) → j < 16 → get_or row j 0 ≡ place_of ms m.round m.from (j + 1) = λ j l.
    ap (λ (x : List ℕ). get_or x j 0) (row_of ms m.round m.from p.round-least p.round-most p.from-least p.from-most)
    ∙ get_or-tabulate (λ j. place_of ms m.round m.from (j + 1)) 16 j 0 l in
    bool_ext (is_given row m.to) (is_repeated ms m)
    (λ e.
    let q = at_given row m.to e in
    let t = taken_parts (get_or row q.0 0) m.to (q.0 + 1) q.2 in
    found_repeated ms m (q.0 + 1) (λ z. t.0 (says q.0 q.1 ∙ z)) t.1)
    (λ e.
    let q = repeated_found m p.to_most a e in
    given_at row m.to q.0 q.1 (ap (λ (x : ℕ). is_taken x m.to (q.0 + 1)) (says q.0 q.1) ∙ q.2))

pub new_repeated : (ms : List Message) (m : Message) → Enters m → All Enters ms → is_new (table_of ms) m ≡ not (is_repeated ms m)
unfolding is_new
new_repeated ms m p a = ap not (given_repeated ms m p a)

-- ---- a row that was lent and filled
pub length_with : (row : List ℕ) (to p : ℕ) → length (row_with row to p) ≡ 16
unfolding row_with
length_with row to p = length-tabulate (λ j. cond (is_to to (j + 1)) p (get_or row j 0)) 16

-- where the row of a message starts
abbrev base : Message → ℕ
base m = ((m.round - 1) * 16 + (m.from - 1)) * 16

module _ (ps : List ℕ) (m : Message) (p : Enters m) (e : length ps ≡ table_size) where
  here : ℕ
  here = (m.round - 1) * 16 + (m.from - 1)

  here_lt : here < 368
  unfolding here
  here_lt = row_lt m.round m.from p.round-least p.round-most p.from-least p.from-most

  s : ℕ → Bool
  s x = reaches m (x / 256 + 1) (x / 16 % 16 + 1) (x % 16 + 1)

  with_part : (i : ℕ) → i < 368 → part 16 (table_with ps m) i ≡ tabulate (λ j. cond (s (i * 16 + j)) m.place (get_or ps (i * 16 + j) 0)) 16
  unfolding table_with s
  with_part i h = part_tabulate (λ x. cond (s x) m.place (get_or ps x 0)) 16 368 i h

  -- in the row of m its receivers are reached, in no other row any
  at_row : (j : ℕ) → j < 16 → s (here * 16 + j) ≡ is_to m.to (j + 1)
  unfolding s here
  at_row j h = at_index (reaches m) m.round m.from j p.round-least p.from-least p.from-most h ∙ reach_row m (j + 1)

  at_other : (i j : ℕ) → j < 16 → (i ≡ here → ⊥) → s (i * 16 + j) ≡ false
  unfolding s here
  at_other i j h n =
      fails (s (i * 16 + j))
      (λ y. let q = reach_parts m ((i * 16 + j) / 256 + 1) ((i * 16 + j) / 16 % 16 + 1) ((i * 16 + j) % 16 + 1) y in n (omega (arith, q.0, q.1)))

  with_here : part 16 (table_with ps m) here ≡ row_with (row_at ps m.round m.from) m.to m.place
  unfolding row_with row_at here
  with_here =
      with_part here here_lt
      ∙ tabulate_ext (λ j. cond (s (here * 16 + j)) m.place (get_or ps (here * 16 + j) 0))
      (λ j. cond (is_to m.to (j + 1)) m.place (get_or (part 16 ps here) j 0)) 16
      (λ j h.
      ap (λ (b : Bool). cond b m.place (get_or ps (here * 16 + j) 0)) (at_row j h)
      ∙ ap (cond (is_to m.to (j + 1)) m.place) (sym (get_or_part 16 ps here j h)))

  with_other : (i : ℕ) → i < 368 → (i ≡ here → ⊥) → part 16 (table_with ps m) i ≡ part 16 ps i
  with_other i h n =
      with_part i h
      ∙ tabulate_ext (λ j. cond (s (i * 16 + j)) m.place (get_or ps (i * 16 + j) 0)) (λ j. get_or ps (i * 16 + j) 0) 16
      (λ j g. cond_no (s (i * 16 + j)) m.place (get_or ps (i * 16 + j) 0) (at_other i j g n))
      ∙ sym (part_given 16 ps 368 i h (omega arith))

  -- the row as the code lends it
  lent_row : take (base m + 16 - base m) (drop (base m) ps) ≡ row_at ps m.round m.from
  unfolding row_at
  lent_row =
      let q : base m + 16 - base m ≡ 16 = omega arith in
      ap (λ (x : ℕ). take x (drop (base m) ps)) q ∙ sym (part_take 16 ps ((m.round - 1) * 16 + (m.from - 1)))

  pub put_row : (y : List ℕ) → y ≡ row_with (row_at ps m.round m.from) m.to m.place
      → take (base m) ps ++ (y ++ drop (base m + 16 - base m) (drop (base m) ps)) ≡ table_with ps m
  unfolding here table_with
  put_row y z =
      let put = take (base m) ps ++ (y ++ drop (base m + 16 - base m) (drop (base m) ps)) in
      let sy : length y ≡ 16 = ap length z ∙ length_with (row_at ps m.round m.from) m.to m.place in
      let lt : here < 368 = here_lt in
      same_parts 16 368 put (table_with ps m)
      (length_put ps y (base m) (base m + 16) (omega arith) (omega arith) (omega arith) ∙ e)
      (length-tabulate (λ x. cond (reaches m (x / 256 + 1) (x / 16 % 16 + 1) (x % 16 + 1)) m.place (get_or ps x 0)) table_size)
      (λ i l. ⊎_elim
      (λ (q : i ≡ here). ap (part 16 put) q ∙ part_put_same 16 ps y 368 here lt (omega arith) sy ∙ z ∙ sym with_here ∙ ap (part 16 (table_with ps m)) (sym q))
      (λ (q : i ≡ here → ⊥). part_put_other 16 ps y 368 here lt (omega arith) sy i q ∙ sym (with_other i l q))
      (same_or_not i here))

  -- what the code answers and leaves, from what it answers and leaves for the row
  pub entered : (new : Bool) (y : List ℕ) → new ≡ not (is_given (take (base m + 16 - base m) (drop (base m) ps)) m.to)
      → y ≡ cond new (row_with (take (base m + 16 - base m) (drop (base m) ps)) m.to m.place) (take (base m + 16 - base m) (drop (base m) ps))
      → (new ≡ is_new ps m) × (take (base m) ps ++ (y ++ drop (base m + 16 - base m) (drop (base m) ps)) ≡ cond new (table_with ps m) ps)
  unfolding is_new
  entered true y u v =
      (u ∙ ap (λ (x : List ℕ). not (is_given x m.to)) lent_row, put_row y (v ∙ ap (λ (x : List ℕ). row_with x m.to m.place) lent_row))
  entered false y u v = (
    u ∙ ap (λ (x : List ℕ). not (is_given x m.to)) lent_row,
    ap (λ (x : List ℕ). take (base m) ps ++ (x ++ drop (base m + 16 - base m) (drop (base m) ps))) v
        ∙ ap (λ (x : List ℕ). take (base m) ps ++ x) (take-append-drop (base m + 16 - base m) (drop (base m) ps)) ∙ take-append-drop (base m) ps,
  )

-- ---- the faulty controllers
from_index : (f j : ℕ) → 1 ≤ f → eqb j (f - 1) ≡ eqb f (j + 1)
from_index f j h =
    bool_ext (eqb j (f - 1)) (eqb f (j + 1)) (λ e. let q = eqb-true j (f - 1) e in eq-eqb f (j + 1) (omega arith))
    (λ e. let q = eqb-true f (j + 1) e in eq-eqb j (f - 1) (omega arith))

pub faulty_more : (m : Message) (ms : List Message) → 1 ≤ m.from
    → inserted (set_of 16 (λ i. is_faulty ms (i + 1))) (m.from - 1) ≡ set_of 16 (λ i. is_faulty (m ∷ ms) (i + 1))
unfolding is_faulty
faulty_more m ms h =
    let q : ℕ → Bool = λ i. is_faulty ms (i + 1) in
    let d : ℕ → Bool = λ i. eqb m.from (i + 1) || is_faulty ms (i + 1) in
    ext 16 (inserted (set_of 16 q) (m.from - 1)) (set_of 16 d) (insert_lt (set_of 16 q) (m.from - 1)) (set_lt 16 d)
    (λ i l.
    member_insert (set_of 16 q) (m.from - 1) i l ∙ ap₂ ◌||◌ (member-set 16 q i l) (from_index m.from i h)
    ∙ or_comm (is_faulty ms (i + 1)) (eqb m.from (i + 1)) ∙ sym (member-set 16 d i l))

-- a row that is filled whole
pub row_filled : (row : List ℕ) (to p : ℕ) → length row ≡ 16 → filled (λ j. cond (is_to to (j + 1)) p (get_or row j 0)) 16 row ≡ row_with row to p
unfolding row_with
row_filled row to p e = filled_all (λ j. cond (is_to to (j + 1)) p (get_or row j 0)) 16 row e
