-- `text::all_hex` meets its contract.
use Rattle.std.proofs.Common.{rules, ◌≡◌, true, slice_index}
use Rattle.std.specs.Prelude.{IsTrue, ◌↔◌, EachIndex}
use Rattle.text.specs.Read.{is_hex}
use Rattle.text.proofs.Numbers.{every_each}
use Rattle.std.proofs.iter.runs.Made.{chains}
use Rattle.text.proofs.all_hex.Goals as goal

pub returns : goal.returns
returns c =
    let h : IsTrue c.all.result ↔ EachIndex c.args.f.now (λ k. is_hex (slice_index c.args.f.now k) ≡ true) = search (rules, chains) in
    every_each is_hex c.args.f.now c.all.result h
