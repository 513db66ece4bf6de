-- `is_ready` meets its contract.
use Rattle.reed_solomon.proofs.Ready.{ready_not, ready_is}
use Rattle.settings.proofs.Laws.{ok_0}
use lib.Dec.{eqb}
use Prim.Native.Nat.{ℕ}
use mathlib.Core.Path.{sym, ap, ◌∙◌}
use Rattle.reed_solomon.proofs.is_ready.Goals as goal

pub returns-then-is_block : goal.returns-then-is_block
returns-then-is_block c =
    let a = c.args in
    c.is_ok.ensures.value
    ∙ ok_0 c.encoding_refusal.result
    ∙ ap (λ (r : ℕ). eqb r 0) c.encoding_refusal.ensures
    ∙ ready_is a.n a.t a.k a.number a.block.now a.fits (sym c.is_block.ensures ∙ c.if-is_block.true)

pub returns-else-is_block : goal.returns-else-is_block
returns-else-is_block c =
    let a = c.args in
    c.if-is_block.false ∙ sym (ready_not a.n a.t a.k a.number a.block.now a.fits (sym c.is_block.ensures ∙ c.if-is_block.false))
