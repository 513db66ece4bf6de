-- Laws of a file that was read, of its messages and of the reader's answer. The main ones: `read_right` (what holds of each file that is read),
-- `place_read` (the table says where a message starts), `said_cases` (a message has its round's length), `file_right` and `file-wrong`.
use mathlib.Core.Path.{◌≡◌, refl, sym, ap, subst, ◌∙◌}
use mathlib.Core.Bool.{true, false}
use mathlib.Core.List.{List, [], ◌∷◌}
use mathlib.Core.Logic.{◌⊎◌, inl, inr, ⊎_elim}
use Prim.Native.Nat.{ℕ, zero, suc, ◌+◌, ◌-◌, ◌*◌, ◌/◌, ◌%◌, ◌≤◌, ◌<◌}
use native.Mathlib.Omega.{arith}
use borrow.Author.Tests.{ne_eqb, eqb-true}
use lib.Dec.{eqb}
use lib.ListN.{length, get_or, take, drop, length-drop}
use lib.Seq.{length-take-le}
use Rattle.lists.proofs.Tests.{true≢false, either, or_cases, cond_no, same_or_not}
use Rattle.lists.proofs.Fills.{get_or-tabulate}
use Rattle.bitset.specs.Set.{member, set_of}
use Rattle.bitset.proofs.Laws.{member-set}
use Rattle.text.specs.Read.{value_of, bytes_of}
use Rattle.text.specs.Lines.{line_at, next_at, rest, field}
use Rattle.text.proofs.Laws.{next_is, length-bytes_of, length-bytes, bytes_lt}
use Rattle.settings.specs.declared.Settings.{Settings}
use Rattle.settings.specs.Valid.{Numbered}
use Rattle.wire.specs.Length.{block_length, message_length}
use Rattle.system_file.specs.Form.{Message, Contents, Read, wrong, right, settings_in, contents_of, read_of}
use Rattle.system_file.specs.Table.{is_faulty, reaches, place_of, text_of, said_of, table_size, table_index, table_of, place_in, line_of, file_of, Properly}
use Rattle.std.specs.Prelude.{Ok, Err}
use Rattle.system_file.specs.declared.SystemFile.{SystemFile}
use Rattle.system_file.specs.declared.FormError.{FormError}
use Rattle.system_file.specs.declared.FormError.TheVariants.{TooLong, Line}
use Rattle.system_file.proofs.Rows.{All, none, more, at_index, place_more, place_same, reach_parts}
use Rattle.system_file.proofs.Places.{place_inside, place_ranges}
use Rattle.system_file.proofs.Heads.{Settled, settings_parts, settled_stripes}
use Rattle.system_file.proofs.MessageLine.{Placed}
use Rattle.system_file.proofs.Reading.{with_all, read_keeps, read_passed}

-- ---- the table
pub index_lt : (r f j : ℕ) → 1 ≤ r → r ≤ 23 → 1 ≤ f → f ≤ 16 → 1 ≤ j → j ≤ 16 → table_index r f j < table_size
unfolding table_index
index_lt r f j hr lr hf lf hj lj = omega arith

-- the table says where the message of round r from f to j starts
pub place_read : (ms : List Message) (r f j : ℕ) → 1 ≤ r → r ≤ 23 → 1 ≤ f → f ≤ 16 → 1 ≤ j → j ≤ 16
    → get_or (table_of ms) (table_index r f j) 0 ≡ place_of ms r f j
unfolding table_of table_index
place_read ms r f j hr lr hf lf hj lj =
    let g : ℕ → ℕ = λ x. place_of ms (x / 256 + 1) (x / 16 % 16 + 1) (x % 16 + 1) in
    let x : table_index r f j ≡ ((r - 1) * 16 + (f - 1)) * 16 + (j - 1) = omega arith in
    let e : j - 1 + 1 ≡ j = omega arith in
    get_or-tabulate g table_size (table_index r f j) 0 (index_lt r f j hr lr hf lf hj lj)
    ∙ ap g x ∙ at_index (place_of ms) r f (j - 1) hr hf lf (omega arith) ∙ ap (place_of ms r f) e

pub faulty-member : (c : Contents) (i : ℕ) → i < 16 → member (set_of 16 (λ x. is_faulty c.messages (x + 1))) i ≡ is_faulty c.messages (i + 1)
faulty-member c i h = member-set 16 (λ x. is_faulty c.messages (x + 1)) i h

-- ---- texts
pub text_none : (input : List ℕ) (len : ℕ) → text_of input len 0 ≡ []
unfolding text_of
text_none input len = refl

pub text_some : (input : List ℕ) (len p : ℕ) → (p ≡ 0 → ⊥) → text_of input len p ≡ bytes_of (take (2 * len) (drop p input))
unfolding text_of
text_some input len p n = cond_no (eqb p 0) [] (bytes_of (take (2 * len) (drop p input))) (ne_eqb p 0 n)

text_length : (input : List ℕ) (len p : ℕ) → (p ≡ 0 → ⊥) → p + 2 * len ≤ length input → length (text_of input len p) ≡ len
text_length input len p n h =
    ap length (text_some input len p n)
    ∙ length-bytes_of len (take (2 * len) (drop p input)) (length-take-le (2 * len) (drop p input) (omega (arith, length-drop p input)))

text_bytes : (input : List ℕ) (len p i : ℕ) → get_or (text_of input len p) i 0 < 256
text_bytes input len p i =
    ⊎_elim
    (λ (e : p ≡ 0). subst (λ (x : ℕ). get_or (text_of input len x) i 0 < 256) (sym e)
    (subst (λ (x : List ℕ). get_or x i 0 < 256) (sym (text_none input len)) (omega arith)))
    (λ (n : p ≡ 0 → ⊥). subst (λ (x : List ℕ). get_or x i 0 < 256) (sym (text_some input len p n)) (bytes_lt (take (2 * len) (drop p input)) i))
    (same_or_not p 0)

-- ---- a file that was read
all_room : {σ : Settings} {size : ℕ} {ms : List Message} → All (Placed σ size) ms → (r f j : ℕ) → (place_of ms r f j ≡ 0 → ⊥)
    → place_of ms r f j + 2 * message_length σ.n σ.t σ.k r ≤ size
unfolding place_of
all_room none r f j h = absurd (h refl)
all_room {σ} {size} (more {m = m} {ms = ms} p a) r f j h = go (all_room a r f j) (either (reaches m r f j))
  where
    go : ((place_of ms r f j ≡ 0 → ⊥) → place_of ms r f j + 2 * message_length σ.n σ.t σ.k r ≤ size)
        → (reaches m r f j ≡ true) ⊎ (reaches m r f j ≡ false)
        → place_of (m ∷ ms) r f j + 2 * message_length σ.n σ.t σ.k r ≤ size
    go ih (inl y) =
        subst (λ (x : ℕ). x + 2 * message_length σ.n σ.t σ.k r ≤ size) (sym (place_more m ms r f j y))
        (subst (λ (x : ℕ). m.place + 2 * message_length σ.n σ.t σ.k x ≤ size) (reach_parts m r f j y).0 p.room)
    go ih (inr y) =
        subst (λ (x : ℕ). x + 2 * message_length σ.n σ.t σ.k r ≤ size) (sym (place_same m ms r f j y)) (ih (λ z. h (place_same m ms r f j y ∙ z)))

all_faulty : {σ : Settings} {size : ℕ} {ms : List Message} → All (Placed σ size) ms → (i : ℕ) → is_faulty ms i ≡ true → Numbered σ.n i
unfolding is_faulty
all_faulty none i e = absurd (true≢false (sym e))
all_faulty {σ} (more {m = m} {ms = ms} p a) i e =
    ⊎_elim
    (λ (y : eqb m.from i ≡ true). subst (Numbered σ.n) (eqb-true m.from i y) p.from)
    (λ (y : is_faulty ms i ≡ true). all_faulty a i y)
    (or_cases (eqb m.from i) (is_faulty ms i) e)

settled_properly : (input l : List ℕ) (ms : List Message) → length input ≤ 65536 → Settled l
    → All (Placed (settings_in l) (length input)) ms → Properly input (with_all (contents_of l) ms)
unfolding contents_of settings_in
settled_properly input l ms h s a =
    record {
      coded = s.valid.coded;
      stripes = settled_stripes l s;
      sender = s.valid.sender;
      block_length = length-bytes (block_length (value_of (field 2 l)) (value_of (field 1 l))) (rest 4 l) s.block;
      block-bytes = λ i. bytes_lt (rest 4 l) i;
      size = h;
      room = λ r f j n. all_room a r f j n;
      faulty = λ i e. all_faulty a i e;
    }

pub read_right : (input : List ℕ) (c : Contents) → read_of input ≡ right c → Properly input c
unfolding contents_of settings_in
read_right input c e =
    let p = read_passed input c e in
    let l = line_at input (next_at input 0) in
    let s = settings_parts l p.settings in
    let a = next_at input (next_at input (next_at input 0)) in
    let q = read_keeps (length input) input (contents_of l) a 4 c (omega (arith, next_is input (next_at input (next_at input 0)))) none p.messages in
    subst (Properly input) q.0 (settled_properly input l c.messages p.size s q.1)

pub place-room : (input : List ℕ) (c : Contents) → read_of input ≡ right c → (r f j : ℕ) → (place_of c.messages r f j ≡ 0 → ⊥)
    → place_of c.messages r f j + 2 * message_length c.settings.n c.settings.t c.settings.k r ≤ length input
place-room input c e = (read_right input c e).room

pub said_is : (input : List ℕ) (c : Contents) (r f j : ℕ)
    → said_of input c r f j ≡ text_of input (message_length c.settings.n c.settings.t c.settings.k r) (place_of c.messages r f j)
unfolding said_of
said_is input c r f j = refl

-- a message of the file is absent or has its round's length
pub said_cases : (input : List ℕ) (c : Contents) → read_of input ≡ right c → (r f j : ℕ)
    → (said_of input c r f j ≡ []) ⊎ (length (said_of input c r f j) ≡ message_length c.settings.n c.settings.t c.settings.k r)
unfolding said_of
said_cases input c e r f j =
    let len = message_length c.settings.n c.settings.t c.settings.k r in
    ⊎_elim
    (λ (z : place_of c.messages r f j ≡ 0). inl (ap (text_of input len) z ∙ text_none input len))
    (λ (n : place_of c.messages r f j ≡ 0 → ⊥). inr (text_length input len (place_of c.messages r f j) n (place-room input c e r f j n)))
    (same_or_not (place_of c.messages r f j) 0)

pub said_bytes : (input : List ℕ) (c : Contents) (r f j i : ℕ) → get_or (said_of input c r f j) i 0 < 256
unfolding said_of
said_bytes input c r f j i = text_bytes input (message_length c.settings.n c.settings.t c.settings.k r) (place_of c.messages r f j) i

-- ---- the table of a file that was read
-- it has each message where the file has it
pub table_place : (ms : List Message) (r f j : ℕ) → 1 ≤ r → r ≤ 23 → 1 ≤ f → f ≤ 16 → 1 ≤ j → j ≤ 16 → place_in (table_of ms) r f j ≡ place_of ms r f j
table_place ms r f j hr lr hf lf hj lj = place_inside (table_of ms) r f j hr lr hf lf hj lj ∙ place_read ms r f j hr lr hf lf hj lj

-- and each stands in the file
pub table_room : (input : List ℕ) (c : Contents) → read_of input ≡ right c → (r f j : ℕ) → (place_in (table_of c.messages) r f j ≡ 0 → ⊥)
    → place_in (table_of c.messages) r f j + 2 * message_length c.settings.n c.settings.t c.settings.k r ≤ length input
table_room input c e r f j some =
    let h = place_ranges (table_of c.messages) r f j some in
    let p = table_place c.messages r f j h.0.0 h.0.1 h.1.0.0 h.1.0.1 h.1.1.0 h.1.1.1 in
    omega (arith, p, place-room input c e r f j (λ z. some (p ∙ z)))

-- ---- what the reader's answer says of the file
pub file_right : (r : Read) (f : SystemFile) → Ok f ≡ file_of r → (c : Contents) × (r ≡ right c)
file_right (wrong x) f e = let z : ◌≡◌ {A = ℕ} 0 1 = cc in absurd (omega arith)
file_right (right c) f e = (c, refl)

pub file-wrong : (r : Read) (x : FormError) → Err x ≡ file_of r → r ≡ wrong (line_of x)
file-wrong (wrong zero) x e = let q : x ≡ TooLong = cc in ap (λ (y : FormError). wrong (line_of y)) (sym q)
file-wrong (wrong (suc y)) x e = let q : x ≡ Line (suc y) = cc in ap (λ (z : FormError). wrong (line_of z)) (sym q)
file-wrong (right c) x e = let z : ◌≡◌ {A = ℕ} 0 1 = cc in absurd (omega arith)
