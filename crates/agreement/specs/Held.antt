-- Who held the block that is agreed on, and who is in the core (document 02, U14), under what demand 3 supposes; demand 3 itself is in Agreement. At
-- least t + 1 correct controllers held it from the second call on: faulty ones, the sender among them, cannot bring in a block that no correct one held.
--   block_after S i c  the block of controller i as its call c left it
--   holders S c B      how many correct controllers, of 1 .. n, held the block B after call c, byte for byte
--   HeldByMany         whatever block a correct controller ends with as agreed, at least t + 1 correct ones held that very block after call 2
--   HeldOn             and whoever held it then holds it after every later call, to the end
--   core_after S i c   the core in the state of controller i as its call c left it
--   AllInCore          if the sender is correct, every correct controller is in the core of each, from call 3t + 7 on
use Rattle.std.specs.Prelude.{◌≡◌, true, ◌&&◌, List, ℕ, ◌+◌, ◌-◌, ◌*◌, ◌≤◌}
use Rattle.lists.specs.Same.{same}
use Rattle.lists.specs.Sum.{count}
use Rattle.bitset.specs.Set.{member}
use Rattle.agreement.specs.Agreement.{System, Correct, Supposed, Holds, call, last}

abbrev pub block_after : System → (i c : ℕ) → List ℕ
block_after S i c = (call S i c).after.block

abbrev pub holders : System → (c : ℕ) → List ℕ → ℕ
holders S c B = count S.settings.n (λ x. S.correct (x + 1) && same (block_after S (x + 1) c) B)

-- what call 2 leaves is the sender's message, zeros where it is absent; runs without a sender, sender 0, are covered: there it is the block that the
-- controller was started with
abbrev pub HeldByMany : Type 0
HeldByMany = (S : System) → Supposed S → (i : ℕ) (B : List ℕ) → Correct S i → Holds S i B → S.settings.t + 1 ≤ holders S 2 B

abbrev pub HeldOn : Type 0
HeldOn =
    (S : System) → Supposed S → (i j : ℕ) (B : List ℕ) → Correct S i → Correct S j → Holds S i B → block_after S j 2 ≡ B
    → (c : ℕ) → 2 ≤ c → c ≤ last S → block_after S j c ≡ B

abbrev pub core_after : System → (i c : ℕ) → ℕ
core_after S i c = (call S i c).after.state.core

-- a correct sender is one of 1 .. n; refused steps keep the state, so that what a call left is the state until the next one, or to the end
abbrev pub AllInCore : Type 0
AllInCore =
    (S : System) → Supposed S → Correct S S.settings.sender → (i j : ℕ) → Correct S i → Correct S j
    → (c : ℕ) → 3 * S.settings.t + 7 ≤ c → c ≤ last S → member (core_after S i c) (j - 1) ≡ true
