-- Whom the correct controllers name at the end (document 02, U1), under what demand 3 supposes; demand 3 itself is in Agreement. The marks of two
-- correct controllers may differ: a faulty one may send its true piece to one of them, and another or none to the other.
--   named_by S i         the marks of those whom controller i names at the end: index j - 1 for controller j
--   NamedAtEnd S i       with the outcome agreed they are of those whose piece in the last round was absent, or was not, byte for byte, their piece of the
--                        block at the end; with any other outcome there are none
--   NamedByLast          that holds of every correct controller
--   NoCorrectNamed       no correct controller names a correct one
--   LateNamed            with the outcome agreed a correct controller names everyone whose slot in the last round carries another run's number (document
--                        02, U11)
--   NamedByMany          so whoever is named by t + 1 is not correct, whatever marks those show who are not correct themselves
use Rattle.std.specs.Prelude.{◌≡◌, true, false, ℕ, ◌+◌, ◌-◌, ◌≤◌}
use Rattle.lists.specs.Sum.{count}
use Rattle.bitset.specs.Set.{member}
use Rattle.wire.specs.Slot.{slot_of, OtherRun}
use Rattle.reed_solomon.specs.Decode.{named_of}
use Rattle.reconstruction.specs.declared.Outcome.TheVariants.{Agreed}
use Rattle.agreement.specs.Agreement.{System, Correct, Supposed, piece_layout, at_end, last_inbox, outcome_of, block_of}

abbrev pub named_by : System → ℕ → ℕ
named_by S i = (at_end S i).state.named

pub record NamedAtEnd (S : System) (i : ℕ) : Type 0 where
  pub agreed : outcome_of S i ≡ Agreed → named_by S i ≡ named_of S.settings.n S.settings.t (piece_layout S) (last_inbox S i) (block_of S i)
  pub other : (outcome_of S i ≡ Agreed → ⊥) → named_by S i ≡ 0

abbrev pub NamedByLast : Type 0
NamedByLast = (S : System) → Supposed S → (i : ℕ) → Correct S i → NamedAtEnd S i

abbrev pub NoCorrectNamed : Type 0
NoCorrectNamed = (S : System) → Supposed S → (i j : ℕ) → Correct S i → Correct S j → member (named_by S i) (j - 1) ≡ false

abbrev pub LateNamed : Type 0
LateNamed =
    (S : System) → Supposed S → (i j : ℕ) → Correct S i → 1 ≤ j → j ≤ S.settings.n → outcome_of S i ≡ Agreed
    → OtherRun (piece_layout S) (slot_of (last_inbox S i) (piece_layout S) j) → member (named_by S i) (j - 1) ≡ true

abbrev pub NamedByMany : Type 0
NamedByMany =
    (S : System) → Supposed S → (shown : ℕ → ℕ) → ((i : ℕ) → Correct S i → shown i ≡ named_by S i)
    → (j : ℕ) → S.settings.t + 1 ≤ count S.settings.n (λ x. member (shown (x + 1)) (j - 1)) → Correct S j → ⊥
