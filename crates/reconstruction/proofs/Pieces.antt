-- Pieces on their way to an outbox: each has its length.
use mathlib.Core.Path.{◌≡◌, sym, ◌∙◌}
use mathlib.Core.List.{List}
use Prim.Native.Nat.{ℕ}
use Rattle.wire.specs.declared.slot.Layout.{Layout}
use Rattle.wire.specs.Slot.{Sent, bytes}
use Rattle.wire.proofs.Laws.{Sized, sized_bytes}
use Rattle.reed_solomon.specs.Encode.{piece_of}
use Rattle.reed_solomon.proofs.Laws.{length_piece}

-- to j, piece j
abbrev pub pieces : (k t : ℕ) → List ℕ → ℕ → Sent
pieces k t b j = bytes (piece_of k t b j)

pub sized_pieces : (layout : Layout) (k t : ℕ) (b : List ℕ) → layout.length ≡ k → (j : ℕ) → Sized layout (pieces k t b j)
sized_pieces layout k t b e j = sized_bytes layout (piece_of k t b j) (length_piece k t b j ∙ sym e)
