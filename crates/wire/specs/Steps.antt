-- For the contracts of private functions; a reader of the public contracts needs none of it.
--   IsSlot box layout j a e     the box holds slot j whole, from a to e
--   HasNone box layout j        there is no message in slot j
--   IsMessage box layout j a e  the message in slot j is there, from a to e
use Rattle.std.specs.Prelude.{◌≡◌, List, [], ℕ, ◌+◌, ◌-◌, ◌*◌, ◌≤◌, length, slice_range, true}
use Rattle.wire.specs.declared.slot.Layout.{Layout}
use Rattle.wire.specs.Slot.{width, holds, offset_of, message_of}

pub record IsSlot (box : List ℕ) (layout : Layout) (j a e : ℕ) : Type 0 where
  pub held : holds box layout j ≡ true
  pub starts : a ≡ (j - 1) * width layout
  pub ends : e ≡ a + width layout
  pub within : e ≤ length box

pub record HasNone (box : List ℕ) (layout : Layout) (j : ℕ) : Type 0 where
  pub no_offset : offset_of box layout j ≡ 0
  pub no_message : message_of box layout j ≡ []

pub record IsMessage (box : List ℕ) (layout : Layout) (j a e : ℕ) : Type 0 where
  pub starts : a ≡ offset_of box layout j
  pub ends : e ≡ a + layout.length
  pub within : e ≤ length box
  pub reads : slice_range box a e ≡ message_of box layout j
