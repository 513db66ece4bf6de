-- Slots of one width. The main laws: `slot_of-slots`, slot j of an outbox written slot by slot, `message_of_slot`, a slot that arrived as it
-- was written is read as what was sent, and `slots_each`, what holds of each byte of the messages holds of each byte of the slots.
use mathlib.Core.Path.{◌≡◌, refl, sym, ap, ap₂, subst, ◌∙◌}
use mathlib.Core.Bool.{Bool, cond, true, false, not, ◌&&◌}
use mathlib.Core.List.{List, [], ◌∷◌, ◌++◌, append-nil}
use mathlib.Core.Logic.{⊎_elim}
use Prim.Native.Nat.{ℕ, zero, suc, ◌+◌, ◌-◌, ◌*◌, ◌/◌, ◌%◌, ◌<◌, ◌≤◌, min}
use native.Mathlib.Nat.{zero-mul, mul-le-mul_right, le_of_eq}
use native.Mathlib.Omega.{arith}
use borrow.Author.Tests.{eq-eqb, ne_eqb, le-leb, lt-leb, eqb-false, leb-true}
use lib.Dec.{leb, eqb}
use lib.ListN.{length, get_or, set, take, drop, replicate, length-append, length-drop, length-take, drop_of_length-le}
use lib.ListN.{get_or-replicate, length-replicate}
use lib.Seq.{length-take-le, take_all, take_at, drop_at, drop-drop, get_or-take}
use Rattle.lists.proofs.Tests.{either, and_left, and_right, and_both, and_no_left, and_no_right, and_tail, cond_yes, cond_no, lt_or_le, same_or_not, true≢false}
use Rattle.lists.specs.Join.{part}
use Rattle.lists.proofs.Parts.{all_take, all_drop, all_zeros, next_offset, drop-take, length_put}
use Rattle.lists.proofs.Joins.{part_take, joined_none, joined_more, joined-zeros, length-joined, part_joined, all_joined, part_put_same}
use Rattle.lists.proofs.Joins.{part_put_other}
use Rattle.wire.specs.declared.slot.Layout.{Layout}
use Rattle.wire.specs.Slot.{header, width, slot_of, holds, run_in, is_present, message_of, offset_of, Sent, silence, bytes, written, slots, to_all, put_slot}
use Rattle.wire.specs.Slot.{relayed, silenced, copied, SameMessages, OtherRunAbsent, LateAbsent}
use Rattle.wire.specs.Steps.{IsSlot, HasNone, IsMessage}

-- ---- the layout
pub width_pos : (layout : Layout) → 0 < width layout
unfolding width
width_pos layout = omega arith

-- slot j ends where the next begins
pub slot_end : (j w : ℕ) → 1 ≤ j → (j - 1) * w + w ≡ j * w
slot_end j w h =
    let e : j - 1 + 1 ≡ j = omega arith in
    sym (next_offset (j - 1) w) ∙ ap (λ (i : ℕ). i * w) e

-- ---- what a box holds
pub yes_holds : (box : List ℕ) (layout : Layout) (j : ℕ) → 1 ≤ j → j * width layout ≤ length box → holds box layout j ≡ true
unfolding holds
yes_holds box layout j h l =
    and_both (not (eqb j 0)) (leb (j * width layout) (length box)) (ap not (ne_eqb j 0 (λ e. omega arith))) (le-leb (j * width layout) (length box) l)

pub holds-zero : (box : List ℕ) (layout : Layout) (j : ℕ) → j ≡ 0 → holds box layout j ≡ false
unfolding holds
holds-zero box layout j e = and_no_left (not (eqb j 0)) (leb (j * width layout) (length box)) (ap not (eq-eqb j 0 e))

pub holds_past : (box : List ℕ) (layout : Layout) (j : ℕ) → length box < j * width layout → holds box layout j ≡ false
unfolding holds
holds_past box layout j l = and_no_right (not (eqb j 0)) (leb (j * width layout) (length box)) (lt-leb (j * width layout) (length box) l)

-- slot j ends past the box, or j is 0
pub not_within : (box : List ℕ) (layout : Layout) (j : ℕ) → (1 ≤ j → length box < (j - 1) * width layout + width layout) → holds box layout j ≡ false
not_within box layout j h =
    ⊎_elim (λ (z : j < 1). holds-zero box layout j (omega arith))
    (λ (s : 1 ≤ j). holds_past box layout j (omega (arith, h s, slot_end j (width layout) s)))
    (lt_or_le j 1)

pub holds_no : (box : List ℕ) (layout : Layout) (j : ℕ) → 1 ≤ j → holds box layout j ≡ false → length box < j * width layout
holds_no box layout j some n =
    ⊎_elim (λ (l : length box < j * width layout). l)
    (λ (l : j * width layout ≤ length box). absurd (true≢false (sym (yes_holds box layout j some l) ∙ n)))
    (lt_or_le (length box) (j * width layout))

pub holds_yes : (box : List ℕ) (layout : Layout) (j : ℕ) → holds box layout j ≡ true → (1 ≤ j) × (j * width layout ≤ length box)
unfolding holds
holds_yes box layout j e =
    let z : j ≡ 0 → ⊥ = eqb-false j 0 (borrow.Author.Tests.not-true (eqb j 0) (and_left (not (eqb j 0)) (leb (j * width layout) (length box)) e)) in
    (omega arith, leb-true (j * width layout) (length box) (and_right (not (eqb j 0)) (leb (j * width layout) (length box)) e))

-- ---- the message of a slot
module _ (box : List ℕ) (layout : Layout) (j : ℕ) where
  pub message_none : holds box layout j ≡ false → message_of box layout j ≡ []
  unfolding message_of
  message_none e =
      cond_no (holds box layout j && is_present layout (slot_of box layout j)) (drop header (slot_of box layout j)) []
      (and_no_left (holds box layout j) (is_present layout (slot_of box layout j)) e)

  pub message_absent : is_present layout (slot_of box layout j) ≡ false → message_of box layout j ≡ []
  unfolding message_of
  message_absent e =
      cond_no (holds box layout j && is_present layout (slot_of box layout j)) (drop header (slot_of box layout j)) []
      (and_no_right (holds box layout j) (is_present layout (slot_of box layout j)) e)

  pub message_held : holds box layout j ≡ true → is_present layout (slot_of box layout j) ≡ true → message_of box layout j ≡ drop header (slot_of box layout j)
  unfolding message_of
  message_held h e =
      cond_yes (holds box layout j && is_present layout (slot_of box layout j)) (drop header (slot_of box layout j)) []
      (and_both (holds box layout j) (is_present layout (slot_of box layout j)) h e)

  -- the slot as a part that is lent
  slot_take : slot_of box layout j ≡ take (width layout) (drop ((j - 1) * width layout) box)
  unfolding slot_of
  slot_take = part_take (width layout) box (j - 1)

  -- a slot that is held is as wide as a slot
  pub length_held : holds box layout j ≡ true → length (slot_of box layout j) ≡ width layout
  length_held h =
      let f = holds_yes box layout j h in
      ap length slot_take
      ∙ length-take-le (width layout) (drop ((j - 1) * width layout) box)
      (subst (λ (m : ℕ). width layout ≤ m) (sym (length-drop ((j - 1) * width layout) box)) (omega (arith, slot_end j (width layout) f.0, f.1)))

-- ---- what a slot carries
-- 01 in front, and the run's number
pub yes_present : (layout : Layout) (slot : List ℕ) → get_or slot 0 0 ≡ 1 → run_in slot ≡ layout.run → is_present layout slot ≡ true
unfolding is_present
yes_present layout slot e r =
    and_both (eqb (get_or slot 0 0) 1) (eqb (run_in slot) layout.run) (eq-eqb (get_or slot 0 0) 1 e) (eq-eqb (run_in slot) layout.run r)

pub no_present : (layout : Layout) (slot : List ℕ) → (get_or slot 0 0 ≡ 1 → ⊥) → is_present layout slot ≡ false
unfolding is_present
no_present layout slot n = and_no_left (eqb (get_or slot 0 0) 1) (eqb (run_in slot) layout.run) (ne_eqb (get_or slot 0 0) 1 n)

pub other_present : (layout : Layout) (slot : List ℕ) → (run_in slot ≡ layout.run → ⊥) → is_present layout slot ≡ false
unfolding is_present
other_present layout slot n = and_no_right (eqb (get_or slot 0 0) 1) (eqb (run_in slot) layout.run) (ne_eqb (run_in slot) layout.run n)

-- behind 01 only the run's number tells
pub run_present : (layout : Layout) (slot : List ℕ) (r : ℕ) → get_or slot 0 0 ≡ 1 → r ≡ get_or slot 1 0 + 256 * get_or slot 2 0
    → eqb r layout.run ≡ is_present layout slot
unfolding is_present run_in
run_present layout slot r e is-r =
    ap (λ (x : ℕ). eqb x layout.run) is-r ∙ sym (and_tail (eqb (get_or slot 0 0) 1) (eqb (run_in slot) layout.run) (eq-eqb (get_or slot 0 0) 1 e))

-- a number in two bytes, low byte first, is read back
run_bytes : (run : ℕ) → run % 256 + 256 * (run / 256) ≡ run
run_bytes run = omega arith

run_written : (layout : Layout) (m : List ℕ) → run_in (written layout (bytes m)) ≡ layout.run
unfolding run_in written
run_written layout m = run_bytes layout.run

-- ---- where a message starts
module _ (box : List ℕ) (layout : Layout) (j : ℕ) where
  pub offset_none : holds box layout j ≡ false → offset_of box layout j ≡ 0
  unfolding offset_of
  offset_none e =
      cond_no (holds box layout j && is_present layout (slot_of box layout j)) ((j - 1) * width layout + header) 0
      (and_no_left (holds box layout j) (is_present layout (slot_of box layout j)) e)

  pub offset_absent : is_present layout (slot_of box layout j) ≡ false → offset_of box layout j ≡ 0
  unfolding offset_of
  offset_absent e =
      cond_no (holds box layout j && is_present layout (slot_of box layout j)) ((j - 1) * width layout + header) 0
      (and_no_right (holds box layout j) (is_present layout (slot_of box layout j)) e)

  pub offset_held : holds box layout j ≡ true → is_present layout (slot_of box layout j) ≡ true → offset_of box layout j ≡ (j - 1) * width layout + header
  unfolding offset_of
  offset_held h e =
      cond_yes (holds box layout j && is_present layout (slot_of box layout j)) ((j - 1) * width layout + header) 0
      (and_both (holds box layout j) (is_present layout (slot_of box layout j)) h e)

-- a message that is there has the round's length
pub length-message : (box : List ℕ) (layout : Layout) (j : ℕ) → (length (message_of box layout j) ≡ 0 → ⊥) → length (message_of box layout j) ≡ layout.length
unfolding width
length-message box layout j n =
    ⊎_elim
    (λ (h : holds box layout j ≡ true).
    ⊎_elim
    (λ (p : is_present layout (slot_of box layout j) ≡ true).
    ap length (message_held box layout j h p) ∙ length-drop header (slot_of box layout j) ∙ omega (arith, length_held box layout j h))
    (λ (p : is_present layout (slot_of box layout j) ≡ false). absurd (n (ap length (message_absent box layout j p))))
    (either (is_present layout (slot_of box layout j))))
    (λ (h : holds box layout j ≡ false). absurd (n (ap length (message_none box layout j h))))
    (either (holds box layout j))

-- what holds of 0 and of each byte of the box holds of each byte of a message
pub message_all : (P : ℕ → Type 0) → P 0 → (box : List ℕ) (layout : Layout) (j : ℕ) → ((i : ℕ) → P (get_or box i 0)) → (i : ℕ)
    → P (get_or (message_of box layout j) i 0)
unfolding message_of
message_all P z box layout j h i = go (holds box layout j && is_present layout (slot_of box layout j))
  where
    go : (b : Bool) → P (get_or (cond b (drop header (slot_of box layout j)) []) i 0)
    go true =
        all_drop P z header (slot_of box layout j)
        (subst (λ (l : List ℕ). (x : ℕ) → P (get_or l x 0)) (sym (slot_take box layout j))
        (all_take P z (width layout) (drop ((j - 1) * width layout) box) (all_drop P z ((j - 1) * width layout) box h))) i
    go false = z

-- ---- slots written in full
abbrev pub Sized : Layout → Sent → Type 0
Sized layout s = length (written layout s) ≡ width layout

pub sized_silence : (layout : Layout) → Sized layout silence
unfolding written
sized_silence layout = length-replicate (width layout) 0

pub sized_bytes : (layout : Layout) (m : List ℕ) → length m ≡ layout.length → Sized layout (bytes m)
unfolding written width
sized_bytes layout m e = omega arith

-- the slots are their parts joined: what lists' laws say of joined lists
pub length-slots : (layout : Layout) (f : ℕ → Sent) → ((j : ℕ) → Sized layout (f j)) → (n : ℕ) → length (slots layout f n) ≡ n * width layout
unfolding slots
length-slots layout f h n = length-joined (width layout) (λ i. written layout (f (i + 1))) n (λ i l. h (i + 1))

pub slots_none : (layout : Layout) (f : ℕ → Sent) → slots layout f 0 ≡ []
unfolding slots
slots_none layout f = joined_none (λ i. written layout (f (i + 1)))

pub slots_next : (layout : Layout) (f : ℕ → Sent) (j : ℕ) → slots layout f (j + 1) ≡ slots layout f j ++ written layout (f (j + 1))
unfolding slots
slots_next layout f j = joined_more (λ i. written layout (f (i + 1))) j

-- silence is an outbox of zeros
pub silent_slots : (layout : Layout) (n : ℕ) → replicate (n * width layout) 0 ≡ slots layout (λ _. silence) n
unfolding slots written
silent_slots layout n = joined-zeros (width layout) n

-- slot j of an outbox written slot by slot
pub slot_of-slots : (layout : Layout) (f : ℕ → Sent) → ((j : ℕ) → Sized layout (f j)) → (n j : ℕ) → 1 ≤ j → j ≤ n
    → slot_of (slots layout f n) layout j ≡ written layout (f j)
unfolding slot_of slots
slot_of-slots layout f sized n j least most =
    let back : j - 1 + 1 ≡ j = omega arith in
    part_joined (width layout) (λ i. written layout (f (i + 1))) n (λ i l. sized (i + 1)) (j - 1) (omega arith)
    ∙ ap (λ (x : ℕ). written layout (f x)) back

-- what a receiver reads of what was sent
abbrev pub content : Sent → List ℕ
content silence = []
content (bytes m) = m

pub message_of_slot : (box : List ℕ) (layout : Layout) (j : ℕ) (s : Sent) → 1 ≤ j → j * width layout ≤ length box → slot_of box layout j ≡ written layout s
    → message_of box layout j ≡ content s
unfolding written
message_of_slot box layout j silence least fits e =
    message_absent box layout j
    (ap (is_present layout) e ∙ no_present layout (replicate (width layout) 0)
    (λ z. omega (arith, get_or-replicate {A = ℕ} (width layout) 0 0 0 (width_pos layout))))
message_of_slot box layout j (bytes m) least fits e =
    message_held box layout j (yes_holds box layout j least fits)
    (ap (is_present layout) e ∙ yes_present layout (written layout (bytes m)) refl (run_written layout m))
    ∙ ap (drop header) e

-- what holds of 0, of 1, of the two bytes of the run number and of each byte of what is sent holds of each byte of what is written
module _ (P : ℕ → Type 0) (layout : Layout) (none : P 0) (mark : P 1) (low : P (layout.run % 256)) (high : P (layout.run / 256)) where
  pub written_each : (s : Sent) → ((x : ℕ) → P (get_or (content s) x 0)) → (x : ℕ) → P (get_or (written layout s) x 0)
  unfolding written
  written_each silence h x = all_zeros P none (width layout) x
  written_each (bytes m) h zero = mark
  written_each (bytes m) h (suc zero) = low
  written_each (bytes m) h (suc (suc zero)) = high
  written_each (bytes m) h (suc (suc (suc x))) = h x

  pub slots_each : (f : ℕ → Sent) → ((j x : ℕ) → P (get_or (content (f j)) x 0)) → (n x : ℕ) → P (get_or (slots layout f n) x 0)
  unfolding slots
  slots_each f h n x = all_joined P (λ i. written layout (f (i + 1))) n none (λ i l. written_each (f (i + 1)) (h (i + 1))) x

-- ---- writing one slot
pub put_none : (box : List ℕ) (layout : Layout) (j : ℕ) (m : List ℕ) → holds box layout j ≡ false → put_slot box layout j m ≡ box
unfolding put_slot
put_none box layout j m e =
    cond_no (holds box layout j && eqb (length m) layout.length) _ box (and_no_left (holds box layout j) (eqb (length m) layout.length) e)

pub put_other : (box : List ℕ) (layout : Layout) (j : ℕ) (m : List ℕ) → (length m ≡ layout.length → ⊥) → put_slot box layout j m ≡ box
unfolding put_slot
put_other box layout j m n =
    cond_no (holds box layout j && eqb (length m) layout.length) _ box
    (and_no_right (holds box layout j) (eqb (length m) layout.length) (ne_eqb (length m) layout.length n))

pub put_held : (box : List ℕ) (layout : Layout) (j : ℕ) (m : List ℕ) → 1 ≤ j → j * width layout ≤ length box → length m ≡ layout.length
    → put_slot box layout j m ≡ take ((j - 1) * width layout) box ++ (written layout (bytes m) ++ drop (j * width layout) box)
unfolding put_slot
put_held box layout j m h l e =
    cond_yes (holds box layout j && eqb (length m) layout.length) _ box
    (and_both (holds box layout j) (eqb (length m) layout.length) (yes_holds box layout j h l) (eq-eqb (length m) layout.length e))

-- ---- a slot passed on
module _ (box : List ℕ) (layout : Layout) (j : ℕ) (src : List ℕ) (i : ℕ) where
  pub relay_no_target : holds box layout j ≡ false → relayed box layout j src i ≡ box
  unfolding relayed
  relay_no_target n = cond_no (holds box layout j && holds src layout i) _ box (and_no_left (holds box layout j) (holds src layout i) n)

  pub relay_no_source : holds src layout i ≡ false → relayed box layout j src i ≡ box
  unfolding relayed
  relay_no_source n = cond_no (holds box layout j && holds src layout i) _ box (and_no_right (holds box layout j) (holds src layout i) n)

  pub relay_held : 1 ≤ j → j * width layout ≤ length box → 1 ≤ i → i * width layout ≤ length src
      → relayed box layout j src i ≡ take ((j - 1) * width layout) box ++ (slot_of src layout i ++ drop (j * width layout) box)
  unfolding relayed
  relay_held a b c d =
      cond_yes (holds box layout j && holds src layout i) _ box
      (and_both (holds box layout j) (holds src layout i) (yes_holds box layout j a b) (yes_holds src layout i c d))

-- ---- an outbox written slot by slot
-- one message to all, in an outbox that is as long as its slots
pub to_all_lem : (layout : Layout) (n : ℕ) (m o : List ℕ) → length m ≡ layout.length → length o ≡ n * width layout
    → to_all layout n m o ≡ slots layout (λ _. bytes m) n
to_all_lem layout n m o d e =
    cond_yes (eqb (length m) layout.length && eqb (length o) (n * width layout)) (slots layout (λ _. bytes m) n) o
    (and_both (eqb (length m) layout.length) (eqb (length o) (n * width layout)) (eq-eqb (length m) layout.length d)
    (eq-eqb (length o) (n * width layout) e))

pub to_all_no : (layout : Layout) (n : ℕ) (m o : List ℕ) → (eqb (length m) layout.length && eqb (length o) (n * width layout)) ≡ false
    → to_all layout n m o ≡ o
to_all_no layout n m o e =
    cond_no (eqb (length m) layout.length && eqb (length o) (n * width layout)) (slots layout (λ _. bytes m) n) o e

-- a turn of a loop that writes an outbox slot by slot
pub put_next_slot : (layout : Layout) (f : ℕ → Sent) → ((i : ℕ) → Sized layout (f i)) → (o box m : List ℕ) (j : ℕ) → (j + 1) * width layout ≤ length o
    → box ≡ slots layout f j ++ drop (j * width layout) o → f (j + 1) ≡ bytes m → length m ≡ layout.length
    → put_slot box layout (j + 1) m ≡ slots layout f (j + 1) ++ drop ((j + 1) * width layout) o
put_next_slot layout f sized o box m j room is-box is_m is_layout =
    let w = width layout in
    let size : length (slots layout f j) ≡ j * w = length-slots layout f sized j in
    let back : j + 1 - 1 ≡ j = omega arith in
    let long : length box ≡ length o =
    ap length is-box ∙ length-append (slots layout f j) (drop (j * w) o) ∙ omega (arith, length-drop (j * w) o, next_offset j w) in
    put_held box layout (j + 1) m (omega arith) (omega arith) is_layout
    ∙ ap (λ (x : List ℕ). take ((j + 1 - 1) * w) x ++ (written layout (bytes m) ++ drop ((j + 1) * w) x)) is-box
    ∙ ap (λ (x : ℕ). take (x * w) (slots layout f j ++ drop (j * w) o) ++ (written layout (bytes m) ++ drop ((j + 1) * w)
    (slots layout f j ++ drop (j * w) o))) back
    ∙ ap₂ (λ (x y : List ℕ). x ++ (written layout (bytes m) ++ y)) (take_at (slots layout f j) (drop (j * w) o) (j * w) size) (rest size)
    ∙ sym (mathlib.Core.List.append_assoc (slots layout f j) (written layout (bytes m)) (drop ((j + 1) * w) o))
    ∙ ap (λ (x : List ℕ). x ++ drop ((j + 1) * w) o) (ap (λ (s : Sent). slots layout f j ++ written layout s) (sym is_m) ∙ sym (slots_next layout f j))
  where
    rest : length (slots layout f j) ≡ j * width layout
        → drop ((j + 1) * width layout) (slots layout f j ++ drop (j * width layout) o) ≡ drop ((j + 1) * width layout) o
    rest size =
        ap (λ (x : ℕ). drop x (slots layout f j ++ drop (j * width layout) o)) (next_offset j (width layout))
        ∙ sym (drop-drop (width layout) (j * width layout) (slots layout f j ++ drop (j * width layout) o))
        ∙ ap (drop (width layout)) (drop_at (slots layout f j) (drop (j * width layout) o) (j * width layout) size)
        ∙ drop-drop (width layout) (j * width layout) o
        ∙ ap (λ (x : ℕ). drop x o) (sym (next_offset j (width layout)))

-- after the last turn the outbox is the slots
pub slots_all : (layout : Layout) (f : ℕ → Sent) (o box : List ℕ) (n : ℕ) → box ≡ slots layout f n ++ drop (n * width layout) o → length o ≡ n * width layout
    → box ≡ slots layout f n
slots_all layout f o box n is-box is-o =
    is-box ∙ ap (λ (x : List ℕ). slots layout f n ++ x) (drop_of_length-le o (le_of_eq is-o)) ∙ append-nil (slots layout f n)

-- before the first turn it is the outbox as lent
pub slots_start : (layout : Layout) (f : ℕ → Sent) (o : List ℕ) (j : ℕ) → j ≡ 0 → o ≡ slots layout f j ++ drop (j * width layout) o
slots_start layout f o j e =
    sym
    (ap (λ (x : ℕ). slots layout f x ++ drop (x * width layout) o) e
    ∙ ap₂ (λ (l : List ℕ) (x : ℕ). l ++ drop x o) (slots_none layout f) (zero-mul (width layout)))

-- ---- copies
pub copied_all : (s d : List ℕ) → length s ≡ length d → copied s d ≡ s
unfolding copied
copied_all s d e =
    ap (λ (l : List ℕ). take (length d) s ++ l) (drop_of_length-le d (le_of_eq (sym e))) ∙ append-nil (take (length d) s) ∙ take_all (length d) s (le_of_eq e)

-- a loop that copies has come to the end of one of the two
pub copied_end : (i : ℕ) (s d : List ℕ) → i ≡ min (length s) (length d) → take i s ++ drop i d ≡ copied s d
unfolding copied
copied_end i s d e =
    ⊎_elim
    (λ (l : length s < length d).
    let q : i ≡ length s = omega arith in
    ap (λ (x : ℕ). take x s ++ drop x d) q
    ∙ ap (λ (x : List ℕ). x ++ drop (length s) d) (take_all (length s) s (le_of_eq refl) ∙ sym (take_all (length d) s (omega arith))))
    (λ (l : length d ≤ length s).
    let q : i ≡ length d = omega arith in
    ap (λ (x : ℕ). take x s ++ drop x d) q
    ∙ ap (λ (x : List ℕ). take (length d) s ++ x) (drop_of_length-le d (le_of_eq refl) ∙ sym (drop_of_length-le d l)))
    (lt_or_le (length s) (length d))

pub length-copied : (s d : List ℕ) → length (copied s d) ≡ length d
unfolding copied
length-copied s d =
    length-append (take (length d) s) (drop (length s) d) ∙ omega (arith, length-take (length d) s, length-drop (length s) d)

-- ---- the answers of the code
pub slot_is_in : (box : List ℕ) (layout : Layout) (j a e : ℕ) → 1 ≤ j → a ≡ (j - 1) * width layout → e ≡ a + width layout → e ≤ length box → IsSlot box layout j a e
slot_is_in box layout j a e some at to room = record {
  held = yes_holds box layout j some (omega (arith, slot_end j (width layout) some));
  starts = at;
  ends = to;
  within = room;
}

pub none_held : (box : List ℕ) (layout : Layout) (j : ℕ) → holds box layout j ≡ false → HasNone box layout j
none_held box layout j e = record { no_offset = offset_none box layout j e; no_message = message_none box layout j e }

module _ (box : List ℕ) (layout : Layout) (j a e : ℕ) (s : IsSlot box layout j a e) where
  some : 1 ≤ j
  some = (holds_yes box layout j s.held).0

  pub ends_at : e ≡ j * width layout
  ends_at = omega (arith, s.starts, s.ends, slot_end j (width layout) some)

  -- the part of the box that the slot is lent as
  pub part_is : take (e - a) (drop a box) ≡ slot_of box layout j
  part_is =
      let l : e - a ≡ width layout = omega (arith, s.ends) in
      ap₂ (λ (n i : ℕ). take n (drop i box)) l s.starts ∙ sym (slot_take box layout j)

  pub length_part : length (take (e - a) (drop a box)) ≡ width layout
  length_part = ap length part_is ∙ length_held box layout j s.held

  -- the box in which that part came back as v
  put_back : (v : List ℕ) → take a box ++ (v ++ drop (e - a) (drop a box)) ≡ take ((j - 1) * width layout) box ++ (v ++ drop (j * width layout) box)
  put_back v =
      let u : a + (e - a) ≡ j * width layout = omega (arith, s.ends, ends_at) in
      ap₂ (λ (x y : List ℕ). x ++ (v ++ y)) (ap (λ (i : ℕ). take i box) s.starts) (drop-drop (e - a) a box ∙ ap (λ (i : ℕ). drop i box) u)

  pub put_there : (m v : List ℕ) → length m ≡ layout.length → v ≡ written layout (bytes m)
      → take a box ++ (v ++ drop (e - a) (drop a box)) ≡ put_slot box layout j m
  put_there m v l is-v =
      put_back v ∙ ap (λ (x : List ℕ). take ((j - 1) * width layout) box ++ (x ++ drop (j * width layout) box)) is-v
      ∙ sym (put_held box layout j m some (holds_yes box layout j s.held).1 l)

  pub none_present : is_present layout (take (e - a) (drop a box)) ≡ false → HasNone box layout j
  none_present n =
      let absent : is_present layout (slot_of box layout j) ≡ false = ap (is_present layout) (sym part_is) ∙ n in
      record { no_offset = offset_absent box layout j absent; no_message = message_absent box layout j absent }

  pub message_there : is_present layout (take (e - a) (drop a box)) ≡ true → IsMessage box layout j (a + header) e
  unfolding width
  message_there y =
      let present : is_present layout (slot_of box layout j) ≡ true = ap (is_present layout) (sym part_is) ∙ y in
      let rest : e - (a + header) ≡ e - a - header = omega arith in
      record {
        starts = ap (λ (x : ℕ). x + header) s.starts ∙ sym (offset_held box layout j s.held present);
        ends = omega (arith, s.ends);
        within = s.within;
        reads =
            ap (λ (n : ℕ). take n (drop (a + header) box)) rest ∙ ap (take (e - a - header)) (sym (drop-drop header a box))
            ∙ sym (drop-take header (e - a) (drop a box)) ∙ ap (drop header) part_is ∙ sym (message_held box layout j s.held present);
      }

pub relay_there : (box src v : List ℕ) (layout : Layout) (j a e i b f : ℕ) → IsSlot box layout j a e → IsSlot src layout i b f → v ≡ take (f - b) (drop b src)
    → take a box ++ (v ++ drop (e - a) (drop a box)) ≡ relayed box layout j src i
relay_there box src v layout j a e i b f s t is-v =
    let g = holds_yes box layout j s.held in
    let h = holds_yes src layout i t.held in
    put_back box layout j a e s v
    ∙ ap (λ (x : List ℕ). take ((j - 1) * width layout) box ++ (x ++ drop (j * width layout) box)) (is-v ∙ part_is src layout i b f t)
    ∙ sym (relay_held box layout j src i g.0 g.1 h.0 h.1)

-- the header's bytes set in the front of a slot
abbrev pub with_header : Layout → List ℕ → List ℕ
with_header layout d = set (set (set d 0 1) 1 (layout.run % 256)) 2 (layout.run / 256)

-- a slot whose header is set and whose rest was lent and came back as the message
pub put_head : (layout : Layout) (d m : List ℕ) → length d ≡ width layout → length m ≡ layout.length
    → take header (with_header layout d) ++ (m ++ drop (length (with_header layout d) - header) (drop header (with_header layout d))) ≡ written layout (bytes m)
unfolding width written
put_head layout [] m h f = absurd (omega arith)
put_head layout (x ∷ []) m h f = absurd (omega arith)
put_head layout (x ∷ y ∷ []) m h f = absurd (omega arith)
put_head layout (x ∷ y ∷ z ∷ d) m h f =
    let l : length (1 ∷ layout.run % 256 ∷ layout.run / 256 ∷ d) - header ≡ length d = omega arith in
    ap (λ (v : List ℕ). 1 ∷ layout.run % 256 ∷ layout.run / 256 ∷ v)
    (ap (λ (i : ℕ). m ++ drop i d) l ∙ ap (λ (x : List ℕ). m ++ x) (drop_of_length-le d (le_of_eq refl)) ∙ append-nil m)

-- while an outbox is written, its length stays
pub length_rest : (layout : Layout) (f : ℕ → Sent) → ((i : ℕ) → Sized layout (f i)) → (o box : List ℕ) (j : ℕ) → j * width layout ≤ length o
    → box ≡ slots layout f j ++ drop (j * width layout) o → length box ≡ length o
length_rest layout f sized o box j h e =
    ap length e ∙ length-append (slots layout f j) (drop (j * width layout) o)
    ∙ omega (arith, length-slots layout f sized j, length-drop (j * width layout) o)

-- ---- a box as parts of one width
-- how large boxes are, for those who hold them
pub width_le : (layout : Layout) → width layout ≤ layout.length + header
unfolding width
width_le layout = omega arith

pub slot_is : (box : List ℕ) (layout : Layout) (j : ℕ) → slot_of box layout j ≡ part (width layout) box (j - 1)
unfolding slot_of
slot_is box layout j = refl

pub length_slot : (box : List ℕ) (layout : Layout) (j : ℕ) → 1 ≤ j → j * width layout ≤ length box → length (slot_of box layout j) ≡ width layout
length_slot box layout j some room = length_held box layout j (yes_holds box layout j some room)

pub silent_slot : (layout : Layout) → written layout silence ≡ replicate (width layout) 0
unfolding written
silent_slot layout = refl

-- a box whose first j slots are written, and a slot put or passed on behind them
module _ (layout : Layout) (p r : List ℕ) (j : ℕ) (front : length p ≡ j * width layout) (room : width layout ≤ length r) where
  within_box : (j + 1) * width layout ≤ length (p ++ r)
  within_box = omega (arith, length-append p r, next_offset j (width layout))

  behind : (v : List ℕ) → take ((j + 1 - 1) * width layout) (p ++ r) ++ (v ++ drop ((j + 1) * width layout) (p ++ r)) ≡ p ++ (v ++ drop (width layout) r)
  behind v =
      let w = width layout in
      let back : j + 1 - 1 ≡ j = omega arith in
      ap₂ (λ (x : ℕ) (y : ℕ). take (x * w) (p ++ r) ++ (v ++ drop y (p ++ r))) back (next_offset j w)
      ∙ ap₂ (λ (x y : List ℕ). x ++ (v ++ y)) (take_at p r (j * w) front)
      (sym (drop-drop w (j * w) (p ++ r)) ∙ ap (drop w) (drop_at p r (j * w) front))

  pub put_into : (m : List ℕ) → length m ≡ layout.length → put_slot (p ++ r) layout (j + 1) m ≡ p ++ (written layout (bytes m) ++ drop (width layout) r)
  put_into m e = put_held (p ++ r) layout (j + 1) m (omega arith) within_box e ∙ behind (written layout (bytes m))

  pub relay_into : (src : List ℕ) (i : ℕ) → 1 ≤ i → i * width layout ≤ length src
      → relayed (p ++ r) layout (j + 1) src i ≡ p ++ (slot_of src layout i ++ drop (width layout) r)
  relay_into src i some held = relay_held (p ++ r) layout (j + 1) src i (omega arith) within_box some held ∙ behind (slot_of src layout i)

-- ---- what arrives
-- slot j of what was written, read back
pub read_back : (layout : Layout) (f : ℕ → Sent) → ((i : ℕ) → Sized layout (f i)) → (n j : ℕ) → 1 ≤ j → j ≤ n
    → message_of (slots layout f n) layout j ≡ content (f j)
read_back layout f sized n j h l =
    message_of_slot (slots layout f n) layout j (f j) h
    (subst (λ (m : ℕ). j * width layout ≤ m) (sym (length-slots layout f sized n)) (mul-le-mul_right (width layout) l))
    (slot_of-slots layout f sized n j h l)

-- a slot that arrived, byte for byte, as it was sent is read as what was sent
pub arrived : (layout : Layout) (f : ℕ → Sent) → ((i : ℕ) → Sized layout (f i)) → (inbox outbox : List ℕ) (n i j : ℕ) → outbox ≡ slots layout f n
    → 1 ≤ j → j ≤ n → 1 ≤ i → i * width layout ≤ length inbox → slot_of inbox layout i ≡ slot_of outbox layout j → message_of inbox layout i ≡ content (f j)
arrived layout f sized inbox outbox n i j e hj lj hi li same =
    message_of_slot inbox layout i (f j) hi li (same ∙ ap (λ (o : List ℕ). slot_of o layout j) e ∙ slot_of-slots layout f sized n j hj lj)

-- ---- slots of another run
pub other_run_absent : OtherRunAbsent
other_run_absent box layout j o = message_absent box layout j (other_present layout (slot_of box layout j) o.other)

-- the run number stands in the first three bytes
run_front : (a b : List ℕ) → take header a ≡ take header b → run_in a ≡ run_in b
unfolding run_in
run_front a b e =
    ap₂ (λ (x y : ℕ). x + 256 * y)
    (sym (get_or-take 3 a 1 0 (omega arith)) ∙ ap (λ (l : List ℕ). get_or l 1 0) e ∙ get_or-take 3 b 1 0 (omega arith))
    (sym (get_or-take 3 a 2 0 (omega arith)) ∙ ap (λ (l : List ℕ). get_or l 2 0) e ∙ get_or-take 3 b 2 0 (omega arith))

pub late_absent : LateAbsent
late_absent box layout late j m n e =
    message_absent box layout j
    (other_present layout (slot_of box layout j) (λ r. n (sym (run_front (slot_of box layout j) (written late (bytes m)) e ∙ run_written late m) ∙ r)))

-- ---- a slot made silent
module _ (box : List ℕ) (layout : Layout) (j : ℕ) where
  silenced_none : holds box layout j ≡ false → silenced box layout j ≡ box
  unfolding silenced
  silenced_none n = cond_no (holds box layout j) _ box n

  -- in the form of a part that was lent and came back
  silenced_held : holds box layout j ≡ true
      → silenced box layout j
      ≡ take ((j - 1) * width layout) box
      ++ (replicate (width layout) 0 ++ drop ((j - 1) * width layout + width layout - (j - 1) * width layout) (drop ((j - 1) * width layout) box))
  unfolding silenced written
  silenced_held y =
      let a = (j - 1) * width layout in
      let some = (holds_yes box layout j y).0 in
      let u : a + (a + width layout - a) ≡ j * width layout = omega (arith, slot_end j (width layout) some) in
      cond_yes (holds box layout j) _ box y
      ∙ sym
      (ap (λ (x : List ℕ). take a box ++ (replicate (width layout) 0 ++ x))
      (drop-drop (a + width layout - a) a box ∙ ap (λ (i : ℕ). drop i box) u))

  pub length-silenced : length (silenced box layout j) ≡ length box
  length-silenced =
      ⊎_elim
      (λ (y : holds box layout j ≡ true).
      let a = (j - 1) * width layout in
      let f = holds_yes box layout j y in
      ap length (silenced_held y)
      ∙ length_put box (replicate (width layout) 0) a (a + width layout) (omega arith) (omega (arith, f.1, slot_end j (width layout) f.0))
      (length-replicate (width layout) 0 ∙ omega arith))
      (λ (n : holds box layout j ≡ false). ap length (silenced_none n))
      (either (holds box layout j))

  -- the slots of a box in which slot j was made silent
  module _ (y : holds box layout j ≡ true) where
    room : j - 1 < j
    room = omega (arith, (holds_yes box layout j y).0)

    silent_there : slot_of (silenced box layout j) layout j ≡ written layout silence
    unfolding slot_of written
    silent_there =
        ap (λ (b : List ℕ). part (width layout) b (j - 1)) (silenced_held y)
        ∙ part_put_same (width layout) box (replicate (width layout) 0) j (j - 1) room (holds_yes box layout j y).1 (length-replicate (width layout) 0)

    others_stay : (i : ℕ) → 1 ≤ i → (i ≡ j → ⊥) → slot_of (silenced box layout j) layout i ≡ slot_of box layout i
    unfolding slot_of
    others_stay i some n =
        ap (λ (b : List ℕ). part (width layout) b (i - 1)) (silenced_held y)
        ∙ part_put_other (width layout) box (replicate (width layout) 0) j (j - 1) room (holds_yes box layout j y).1 (length-replicate (width layout) 0)
        (i - 1) (λ e. n (omega (arith, e, (holds_yes box layout j y).0)))

    pub silenced-message : message_of (silenced box layout j) layout j ≡ []
    silenced-message =
        message_of_slot (silenced box layout j) layout j silence (holds_yes box layout j y).0
        (subst (λ (x : ℕ). j * width layout ≤ x) (sym length-silenced) (holds_yes box layout j y).1) silent_there

    pub others_read : (i : ℕ) → 1 ≤ i → (i ≡ j → ⊥) → message_of box layout i ≡ message_of (silenced box layout j) layout i
    unfolding message_of holds
    others_read i some n =
        ap₂ (λ (l : ℕ) (b : List ℕ). cond ((not (eqb i 0) && leb (i * width layout) l) && is_present layout b) (drop header b) []) (sym length-silenced)
        (sym (others_stay i some n))

-- a slot without a message can be made silent, and every slot reads as it did
pub silenced_reads : (box : List ℕ) (layout : Layout) (j : ℕ) → message_of box layout j ≡ [] → SameMessages layout box (silenced box layout j)
silenced_reads box layout j none i =
    ⊎_elim
    (λ (y : holds box layout j ≡ true).
    ⊎_elim
    (λ (e : i ≡ j). ap (message_of box layout) e ∙ none ∙ sym (ap (message_of (silenced box layout j) layout) e ∙ silenced-message box layout j y))
    (λ (n : i ≡ j → ⊥).
    ⊎_elim
    (λ (z : i < 1).
    message_none box layout i (holds-zero box layout i (omega arith))
    ∙ sym (message_none (silenced box layout j) layout i (holds-zero (silenced box layout j) layout i (omega arith))))
    (λ (some : 1 ≤ i). others_read box layout j y i some n)
    (lt_or_le i 1))
    (same_or_not i j))
    (λ (n : holds box layout j ≡ false). ap (λ (b : List ℕ). message_of b layout i) (sym (silenced_none box layout j n)))
    (either (holds box layout j))
