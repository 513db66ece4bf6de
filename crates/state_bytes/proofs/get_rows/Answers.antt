-- `get_rows` meets its contract.
use Rattle.lists.specs.Fill.{filled}
use Rattle.lists.proofs.Fills.{filled_none, filled_all, fill_more}
use Rattle.bitset.specs.Row.{row_of}
use lib.ListN.{replicate}
use native.Mathlib.Omega.{arith}
use mathlib.Core.Path.{◌≡◌, refl, sym, ap, ◌∙◌}
use Prim.Native.Nat.{ℕ}
use Rattle.state_bytes.proofs.get_rows.Goals as goal

pub loop-i-init : goal.loop-i-init
loop-i-init c = sym (filled_none (row_of 16 c.args.bytes.now) (replicate 16 0))

pub loop-i-preserved : goal.loop-i-preserved
loop-i-preserved c =
    let L = c.loop-i in
    let f = row_of 16 c.args.bytes.now in
    fill_more f L.i (replicate 16 0) L.rows c.read_row.result (omega arith) L.invariant c.read_row.ensures

pub returns : goal.returns
returns c =
    let L = c.loop-i in
    let f = row_of 16 c.args.bytes.now in
    let all : L.i ≡ 16 = omega arith in
    L.invariant ∙ ap (λ (n : ℕ). filled f n (replicate 16 0)) all ∙ filled_all f 16 (replicate 16 0) refl
