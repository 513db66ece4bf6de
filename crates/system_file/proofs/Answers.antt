-- Laws of the reader's answer. The main ones: `block-padded` (the block's array), `table_none` (the table before the first message), `file_right` and
-- `file-wrong` (the answer from what the message lines say).
use mathlib.Core.Path.{◌≡◌, sym, ap, ◌∙◌}
use mathlib.Core.List.{List, [], ◌++◌}
use Prim.Native.Nat.{ℕ, ◌+◌, ◌≤◌}
use native.Mathlib.Omega.{arith}
use lib.ListN.{length, take, drop, replicate, length-replicate}
use lib.Seq.{take_all}
use Rattle.lists.proofs.Fills.{tabulate_const}
use Rattle.bitset.specs.Set.{set_of}
use Rattle.text.specs.Write.{appended, padded}
use Rattle.text.proofs.Laws.{append-behind, padded_none, append-padded}
use Rattle.system_file.specs.declared.SystemFile.{SystemFile}
use Rattle.settings.specs.declared.Settings.{Settings}
use Rattle.std.specs.Prelude.{Ok, Err}
use Rattle.system_file.specs.declared.FormError.{FormError}
use Rattle.system_file.specs.Form.{Contents, Read, wrong, right}
use Rattle.system_file.specs.Table.{is_faulty, place_of, table_size, table_of, error_of, file_of}
use Rattle.system_file.specs.Steps.{restored, lines_of, table_in}

-- ---- the arrays
pub block-padded : (m : ℕ) (s : List ℕ) → length s ≤ m → take m s ++ drop (length s) (replicate m 0) ≡ padded m s
block-padded m s h =
    ap (λ (x : List ℕ). x ++ drop (length s) (replicate m 0)) (take_all m s h)
    ∙ sym (append-behind [] s (replicate m 0) (omega (arith, length-replicate {A = ℕ} m 0)))
    ∙ ap (appended 0 s) (sym (padded_none m)) ∙ append-padded m [] s (omega arith)

pub table_none : replicate table_size 0 ≡ table_of []
unfolding table_of place_of
table_none = sym (tabulate_const 0 table_size)

-- ---- the answer
abbrev pub file : Settings → List ℕ → ℕ → List ℕ → SystemFile
file σ block faulty places = record { settings = σ; block = block; faulty = faulty; places = places }

-- from what the message lines say
pub file_right : (c : Contents) (r : Read) (faulty : ℕ) (places : List ℕ) → Ok faulty ≡ lines_of r → places ≡ table_in r places
    → Ok (file c.settings (padded 192 c.block) faulty places) ≡ file_of (restored c r)
file_right c (wrong line) faulty places d p = let z : ◌≡◌ {A = ℕ} 0 1 = cc in absurd (omega arith)
file_right c (right b) faulty places d p =
    let s = set_of 16 (λ i. is_faulty b.messages (i + 1)) in
    let q : faulty ≡ s = cc in
    ap (λ (y : ℕ). Ok (file c.settings (padded 192 c.block) y places)) q ∙ ap (λ (y : List ℕ). Ok (file c.settings (padded 192 c.block) s y)) p

pub file-wrong : (c : Contents) (r : Read) (x : FormError) → Err x ≡ lines_of r → Err x ≡ file_of (restored c r)
file-wrong c (wrong l) x d = let q : x ≡ error_of l = cc in ap Err q
file-wrong c (right b) x d = let z : ◌≡◌ {A = ℕ} 0 1 = cc in absurd (omega arith)
