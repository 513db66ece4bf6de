-- Message lengths, and the lengths of inboxes and outboxes (document 01, 'The house' and 'Rounds').
--   block_length k t                     the bytes of a block, stripe after stripe
--   row_length r n t k                   the length column of the table
--   factors_of r                         the factors of k × (t + 1), k, n and 1 in that length
--   in_settings n t k                    rows 1 to 3 of the refusal table let the settings pass
--   block_size n t k                     the length of a block; 0 outside the settings
--   kind_length r n t k                  the length of a message of a kind of round; 0 outside the settings
--   kind_layout run r n t k              the layout of the slots of a kind of round in the run with the number `run`
--   round_layout run n t k c             the layout of the slots of round c of that run
--   message_length n t k c               the length of a message of round c; 0 outside the settings and rounds
--   box_length n t k c                   the length of an inbox or outbox of round c: n slots, whatever the run; 0 outside the settings and rounds
--   inbox_length, outbox_length n t k c  the length that call c is lent; 0 for the first inbox and the last outbox
use Rattle.std.specs.Prelude.{Bool, cond, List, [], ◌∷◌, ℕ, ◌+◌, ◌-◌, ◌*◌, eqb}
use Rattle.settings.specs.Refusal.{lengths_refusal}
use Rattle.wire.specs.declared.Round.{Round}
use Rattle.wire.specs.declared.Round.TheVariants.{Block, Pieces, Marks, Matrix, Seen, King, Forward, Rebuild, Outside}
use Rattle.wire.specs.Round.{round_kind}
use Rattle.wire.specs.declared.slot.Layout.{Layout}
use Rattle.wire.specs.Slot.{layout_with, header}

unfoldable pub block_length : ℕ → ℕ → ℕ
block_length k t = k * (t + 1)

unfoldable pub row_length : Round → ℕ → ℕ → ℕ → ℕ
row_length Block n t k = block_length k t
row_length Pieces n t k = 2 * k
row_length Marks n t k = 2
row_length Matrix n t k = 2 * n
row_length Seen n t k = 4 * n
row_length King n t k = 2 * n
row_length Forward n t k = k
row_length Rebuild n t k = k
row_length Outside n t k = 0

abbrev pub factors_of : Round → List ℕ
factors_of Block = 1 ∷ 0 ∷ 0 ∷ 0 ∷ []
factors_of Pieces = 0 ∷ 2 ∷ 0 ∷ 0 ∷ []
factors_of Marks = 0 ∷ 0 ∷ 0 ∷ 2 ∷ []
factors_of Matrix = 0 ∷ 0 ∷ 2 ∷ 0 ∷ []
factors_of Seen = 0 ∷ 0 ∷ 4 ∷ 0 ∷ []
factors_of King = 0 ∷ 0 ∷ 2 ∷ 0 ∷ []
factors_of Forward = 0 ∷ 1 ∷ 0 ∷ 0 ∷ []
factors_of Rebuild = 0 ∷ 1 ∷ 0 ∷ 0 ∷ []
factors_of Outside = []

unfoldable pub in_settings : ℕ → ℕ → ℕ → Bool
in_settings n t k = eqb (lengths_refusal n t k) 0

unfoldable pub block_size : ℕ → ℕ → ℕ → ℕ
block_size n t k = cond (in_settings n t k) (block_length k t) 0

unfoldable pub kind_length : Round → ℕ → ℕ → ℕ → ℕ
kind_length r n t k = cond (in_settings n t k) (row_length r n t k) 0

abbrev pub kind_layout : ℕ → Round → ℕ → ℕ → ℕ → Layout
kind_layout run r n t k = layout_with run (kind_length r n t k)

abbrev pub round_layout : ℕ → ℕ → ℕ → ℕ → ℕ → Layout
round_layout run n t k c = kind_layout run (round_kind t c) n t k

abbrev pub message_length : ℕ → ℕ → ℕ → ℕ → ℕ
message_length n t k c = kind_length (round_kind t c) n t k

unfoldable pub box_length : ℕ → ℕ → ℕ → ℕ → ℕ
box_length n t k c = cond (eqb (message_length n t k c) 0) 0 (n * (header + message_length n t k c))

unfoldable pub inbox_length : ℕ → ℕ → ℕ → ℕ → ℕ
inbox_length n t k c = box_length n t k (c - 1)

unfoldable pub outbox_length : ℕ → ℕ → ℕ → ℕ → ℕ
outbox_length n t k c = box_length n t k c
