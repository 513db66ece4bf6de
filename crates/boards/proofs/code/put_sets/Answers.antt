-- `put_sets` meets its contract: the four rows fill the 8 bytes.
use mathlib.Core.Path.{◌≡◌, ap, ◌∙◌}
use mathlib.Core.List.{List}
use Prim.Native.Nat.{ℕ}
use native.Mathlib.Omega.{arith}
use lib.ListN.{length}
use Rattle.lists.specs.Fill.{filled}
use Rattle.lists.proofs.Fills.{filled_all, filled_over}
use Rattle.boards.specs.Boards.{set_bytes}
use Rattle.boards.proofs.code.put_sets.Goals as goal

written : (f : ℕ → ℕ) (sets v : List ℕ) → length sets ≡ 8 → v ≡ filled f 32 sets → v ≡ filled f 8 sets
written f sets v e is-v = is-v ∙ filled_over f 32 sets (omega arith) ∙ ap (λ (m : ℕ). filled f m sets) e

pub returns : goal.returns
unfolding set_bytes
returns c =
    written _ c.args.sets.now _ c.requires (rw c.copy_from_slice.ensures.after at c.write_rows.ensures)
    ∙ filled_all _ 8 c.args.sets.now c.requires
