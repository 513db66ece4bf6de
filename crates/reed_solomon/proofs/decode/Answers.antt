-- `decode` meets its contract.
use mathlib.Core.Path.{◌≡◌, sym}
use borrow.Author.Rules.{rules}
use Rattle.std.proofs.Common.{Err}
use Rattle.reed_solomon.proofs.Rule.{decode_number_lem}
use Rattle.reed_solomon.proofs.Decoded.{refused_answers}
use Rattle.reed_solomon.proofs.decode.Goals as goal

pub returns-in_err-decoding_refusal : goal.returns-in_err-decoding_refusal
returns-in_err-decoding_refusal c =
    let a = c.args in
    let r = c.in_err-decoding_refusal in
    let is : c.from_residual.result ≡ Err r.field-0.0 = search rules in
    refused_answers a.n a.t a.layout a.slots.now a.block.now r.field-0.0 c.from_residual.result is
    (decode_number_lem a.n a.t a.layout a.slots.now a.block.now _ _ c.decode_fits-fits.ensures r.ensures)

pub rebuild-requires : goal.rebuild-requires
rebuild-requires c =
    let a = c.args in
    sym (decode_number_lem a.n a.t a.layout a.slots.now a.block.now _ _ c.decode_fits-fits.ensures c.in_ok-decoding_refusal.ensures)
