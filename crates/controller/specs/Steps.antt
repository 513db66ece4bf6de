-- For the contracts of private functions; a reader of the public contracts needs none of it. A step that is carried out has what it asks.
--   Bounded s  at most 16 controllers, and a next call that the code can count on from
use Rattle.std.specs.Prelude.{◌≤◌}
use Rattle.protocol.specs.declared.State.{State}

pub record Bounded (s : State) : Type 0 where
  pub few : s.settings.n ≤ 16
  pub least : 1 ≤ s.next
  pub most : s.next ≤ 24
