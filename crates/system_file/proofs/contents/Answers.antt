-- `contents` meets its contract.
use mathlib.Core.Path.{◌≡◌, sym, ap, ◌∙◌}
use mathlib.Core.List.{List, [], ◌++◌}
use Prim.Native.Nat.{ℕ, ◌-◌, ◌≤◌}
use lib.ListN.{length, take, drop, replicate}
use Rattle.std.specs.Prelude.{Ok}
use Rattle.std.proofs.lemmas.Result.{err_from_is_err_and}
use Rattle.text.specs.Read.{bytes_of}
use Rattle.text.specs.Write.{padded}
use Rattle.system_file.specs.Form.{read_from}
use Rattle.system_file.specs.Table.{file_of}
use Rattle.system_file.specs.Steps.{bare, block_at, opened}
use Rattle.system_file.proofs.Reading.{read_bare}
use Rattle.system_file.proofs.Answers.{block-padded, table_none, file, file_right, file-wrong}
use Rattle.system_file.proofs.contents.Goals as goal

-- out is an array with the bytes of these digits at its front
block_is : (input out : List ℕ) (start end : ℕ) → length (block_at input start end) ≤ 192
    → out ≡ take 192 (bytes_of (take (end - start) (drop start input))) ++ drop (length (bytes_of (take (end - start) (drop start input)))) (replicate 192 0)
    → out ≡ padded 192 (block_at input start end)
unfolding block_at
block_is input out start end h e = e ∙ block-padded 192 (bytes_of (take (end - start) (drop start input))) h

pub read_messages-requires : goal.read_messages-requires
read_messages-requires c = record { started = c.requires.started; places_value = table_none }

pub returns-in_err-faulty : goal.returns-in_err-faulty
returns-in_err-faulty c =
    let a = c.args in
    let input = a.input.now in
    let h = a.head in
    let o = opened h.settings (block_at input h.start h.end) in
    let r = read_from (length input) input (bare h.settings []) a.at 4 in
    let p = err_from_is_err_and c.from_residual.result c.from_residual.ensures.1 in
    rw (p.1, p.2) (file-wrong o r c.in_err-faulty.field-0.0 c.in_err-faulty.ensures.value ∙ ap file_of (sym (read_bare (length input) input o a.at 4)))

pub returns : goal.returns
returns c =
    let a = c.args in
    let input = a.input.now in
    let h = a.head in
    let o = opened h.settings (block_at input h.start h.end) in
    let r = read_from (length input) input (bare h.settings []) a.at 4 in
    let places = c.read_messages.new.places in
    ap (λ (x : List ℕ). Ok (file h.settings x c.in_ok-faulty.faulty places))
    (block_is input c.read_bytes.new.out h.start h.end c.requires.fits c.read_bytes.ensures)
    ∙ file_right o r c.in_ok-faulty.faulty places c.in_ok-faulty.ensures.value c.read_messages.ensures.places_after
    ∙ ap file_of (sym (read_bare (length input) input o a.at 4))
