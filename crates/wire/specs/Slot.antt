-- Slots: an inbox or outbox has n slots in number order, each a header and then the round's message (document 01, 'The house'). The header is a byte,
-- 01 where the slot is present, and the run number, low byte first (document 02, U11).
--   layout_with run len         what a slot is: the layout in the run with the number `run`, with messages of len bytes
--   header, width layout        the bytes before a message, and of a whole slot
--   slot_of box layout j        the bytes of slot j, counted from 1
--   holds box layout j          the box holds slot j whole
--   run_in slot                 the run number that a slot carries
--   is_present layout slot      its first byte is 01, and it carries the number of the layout's run; any other slot is absent
--   message_of box layout j     the message in slot j; empty where the slot is absent, j is 0, or the box does not hold it whole
--   offset_of box layout j      where in the box that message starts; 0 where there is none
--   Sent                        what one controller sends to another in a round: silence, or a message
--   written layout s            a slot written in full: 01, the run number and the message, or all 00
--   slots layout f n            the n slots of an outbox whose slot j is f j
--   to_all layout n m outbox    the outbox with the message m in its n slots; as it is where it is not exactly as long, or m is not of the layout's
--                               length
--   put_slot box layout j m     the box with slot j written with the message m; the box as it is where it does not hold the slot whole or m is not of
--                               the layout's length
--   relayed box layout j src i  the box with slot j replaced by slot i of the box src, byte for byte; the box as it is where either does not hold its
--                               slot whole
--   silenced box layout j       the box with slot j all 00; the box as it is where it does not hold the slot whole
--   copied s d                  d with its first bytes replaced by those of s, as far as both reach
--   SameMessages layout a b     the boxes a and b have one message in each slot
--   OtherRun layout slot        a slot whose first byte is 01, and which carries another run's number
--   OtherRunAbsent              its message is the empty part (law `other_run_absent`)
--   LateAbsent                  so is that of a slot that begins as one of another run was written, whatever round it is from (law `late_absent`)
use Rattle.std.specs.Prelude.{◌≡◌, Bool, cond, not, ◌&&◌, List, [], ◌∷◌, ◌++◌, ℕ, ◌+◌, ◌-◌, ◌*◌, ◌/◌, ◌%◌, leb, eqb, length, get_or, take, drop, replicate}
use Rattle.lists.specs.Join.{joined, part}
use Rattle.wire.specs.declared.slot.Layout.{Layout}

abbrev pub layout_with : ℕ → ℕ → Layout
layout_with run len = record { run = run; length = len }

abbrev pub header : ℕ
header = 3

unfoldable pub width : Layout → ℕ
width layout = header + layout.length

unfoldable pub slot_of : List ℕ → Layout → ℕ → List ℕ
slot_of box layout j = part (width layout) box (j - 1)

unfoldable pub holds : List ℕ → Layout → ℕ → Bool
holds box layout j = not (eqb j 0) && leb (j * width layout) (length box)

unfoldable pub run_in : List ℕ → ℕ
run_in slot = get_or slot 1 0 + 256 * get_or slot 2 0

unfoldable pub is_present : Layout → List ℕ → Bool
is_present layout slot = eqb (get_or slot 0 0) 1 && eqb (run_in slot) layout.run

unfoldable pub message_of : List ℕ → Layout → ℕ → List ℕ
message_of box layout j = cond (holds box layout j && is_present layout (slot_of box layout j)) (drop header (slot_of box layout j)) []

unfoldable pub offset_of : List ℕ → Layout → ℕ → ℕ
offset_of box layout j = cond (holds box layout j && is_present layout (slot_of box layout j)) ((j - 1) * width layout + header) 0

pub data Sent : Type 0 where
  silence : Sent
  bytes : List ℕ → Sent

unfoldable pub written : Layout → Sent → List ℕ
written layout silence = replicate (width layout) 0
written layout (bytes m) = 1 ∷ layout.run % 256 ∷ layout.run / 256 ∷ m

unfoldable pub slots : Layout → (ℕ → Sent) → ℕ → List ℕ
slots layout f n = joined (λ i. written layout (f (i + 1))) n

abbrev pub to_all : Layout → ℕ → List ℕ → List ℕ → List ℕ
to_all layout n m outbox =
    cond (eqb (length m) layout.length && eqb (length outbox) (n * width layout)) (slots layout (λ _. bytes m) n) outbox

unfoldable pub put_slot : List ℕ → Layout → ℕ → List ℕ → List ℕ
put_slot box layout j m =
    cond (holds box layout j && eqb (length m) layout.length)
    (take ((j - 1) * width layout) box ++ (written layout (bytes m) ++ drop (j * width layout) box))
    box

unfoldable pub relayed : List ℕ → Layout → ℕ → List ℕ → ℕ → List ℕ
relayed box layout j src i =
    cond (holds box layout j && holds src layout i)
    (take ((j - 1) * width layout) box ++ (slot_of src layout i ++ drop (j * width layout) box))
    box

unfoldable pub silenced : List ℕ → Layout → ℕ → List ℕ
silenced box layout j =
    cond (holds box layout j) (take ((j - 1) * width layout) box ++ (written layout silence ++ drop (j * width layout) box)) box

unfoldable pub copied : List ℕ → List ℕ → List ℕ
copied s d = take (length d) s ++ drop (length s) d

abbrev pub SameMessages : Layout → List ℕ → List ℕ → Type 0
SameMessages layout a b = (j : ℕ) → message_of a layout j ≡ message_of b layout j

pub record OtherRun (layout : Layout) (slot : List ℕ) : Type 0 where
  pub first : get_or slot 0 0 ≡ 1
  pub other : run_in slot ≡ layout.run → ⊥

abbrev pub OtherRunAbsent : Type 0
OtherRunAbsent = (box : List ℕ) (layout : Layout) (j : ℕ) → OtherRun layout (slot_of box layout j) → message_of box layout j ≡ []

-- `late` is the layout with which the slot was written: that of any round of another run
abbrev pub LateAbsent : Type 0
LateAbsent =
    (box : List ℕ) (layout late : Layout) (j : ℕ) (m : List ℕ) → (late.run ≡ layout.run → ⊥)
    → take header (slot_of box layout j) ≡ take header (written late (bytes m)) → message_of box layout j ≡ []
