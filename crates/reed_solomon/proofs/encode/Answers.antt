-- `encode` meets its contract.
use Rattle.reed_solomon.proofs.Rule.{encode_number, encode_refused, encode_carried, encode_0}
use Rattle.reed_solomon.specs.Encode.{encoded, piece_of}
use Rattle.std.proofs.Common.{Result, Err}
use Rattle.settings.specs.declared.Refusal.{Refusal}
use Rattle.settings.specs.Number.{number_of}
use Rattle.settings.proofs.Laws.{row_least}
use Rattle.wire.proofs.Laws.{block_length_is}
use native.Mathlib.Omega.{arith}
use borrow.Author.Rules.{rules}
use Prim.Native.Nat.{◌≤◌, ◌*◌, ◌+◌}
use mathlib.Core.Path.{◌≡◌, sym, ap, subst, ◌∙◌}
use Rattle.reed_solomon.proofs.encode.Goals as goal

pub returns-in_err-encoding_refusal : goal.returns-in_err-encoding_refusal
returns-in_err-encoding_refusal c =
    let a = c.args in
    let r = c.in_err-encoding_refusal in
    let is : c.from_residual.result ≡ Err r.field-0.0 = search rules in
    ap (λ (x : Result Unit Refusal). encoded (number_of x) a.piece.now) is
    ∙ sym (encode_refused a.n a.t a.k a.number a.block.now a.piece.now _
    (encode_number a.n a.t a.k a.number a.block.now a.piece.now _ _ c.encode_fits-fits.ensures r.ensures)
    (λ z. omega (arith, row_least r.field-0.0, z)))

pub overflow_cast-number : goal.overflow_cast-number
overflow_cast-number c =
    let a = c.args in
    let e = encode_number a.n a.t a.k a.number a.block.now a.piece.now _ _ c.encode_fits-fits.ensures c.in_ok-encoding_refusal.ensures in
    let r = encode_0 a.n a.t a.k a.number a.block.now a.piece.now (sym e) in
    omega (arith, r.0.quorum.n_most, r.1.most)

pub encode_piece-requires : goal.encode_piece-requires
encode_piece-requires c =
    let a = c.args in
    let e = encode_number a.n a.t a.k a.number a.block.now a.piece.now _ _ c.encode_fits-fits.ensures c.in_ok-encoding_refusal.ensures in
    let r = encode_0 a.n a.t a.k a.number a.block.now a.piece.now (sym e) in (
      omega (arith, r.0.quorum.n_most, r.0.quorum.t_most),
      subst (λ m. m ≤ 128) (sym r.3) r.0.k_most,
      r.2 ∙ block_length_is a.k a.t ∙ ap (λ m. m * (a.t + 1)) (sym r.3),
    )

pub returns : goal.returns
returns c =
    let a = c.args in
    let e = encode_number a.n a.t a.k a.number a.block.now a.piece.now _ _ c.encode_fits-fits.ensures c.in_ok-encoding_refusal.ensures in
    let r = encode_0 a.n a.t a.k a.number a.block.now a.piece.now (sym e) in
    ap (encoded 0) (c.encode_piece.ensures ∙ ap (λ m. piece_of m a.t a.block.now a.number) r.3)
    ∙ sym (encode_carried a.n a.t a.k a.number a.block.now a.piece.now (sym e))
