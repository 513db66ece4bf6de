-- `has_piece` meets its contract.
use Rattle.reed_solomon.specs.Decode.{has_piece}
use Rattle.lists.proofs.Tests.{pos_test}
use lib.ListN.{length}
use mathlib.Core.Bool.{not}
use lib.Dec.{eqb}
use mathlib.Core.Path.{ap, ◌∙◌}
use Rattle.reed_solomon.proofs.has_piece.Goals as goal

pub returns : goal.returns
unfolding has_piece
returns c = pos_test (length c.message.result.now) ∙ ap (λ m. not (eqb (length m) 0)) c.message.ensures
