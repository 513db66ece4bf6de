-- Laws of the settings line. The main ones: `settings_parts` (what the tests of the line say), `head_yes` and its neighbours (what the code answers),
-- `head_said` and `head_none` (what an answer tells), `head_opened` (what the reader of the contents asks), `head_settings` (the settings and the block are
-- those of the definition), `read_contents` (the whole file's answer).
use Rattle.std.specs.Prelude.{Result, Some, None}
use mathlib.Core.Path.{◌≡◌, refl, sym, ap, subst, ◌∙◌}
use mathlib.Core.Bool.{Bool, true, false, cond, ◌&&◌}
use mathlib.Core.List.{List, [], ◌∷◌}
use mathlib.Core.Logic.{⊎_elim}
use Prim.Native.Nat.{ℕ, ◌+◌, ◌-◌, ◌*◌, ◌≤◌, ◌<◌}
use native.Mathlib.Nat.{mul-le-mul}
use native.Mathlib.Omega.{arith}
use borrow.Author.Tests.{le-leb, leb-true}
use lib.Dec.{leb}
use lib.ListN.{length, get_or, take, drop}
use lib.Seq.{drop-drop}
use Rattle.lists.proofs.Tests.{true≢false, either, fails, and_left, and_right, and_both, cond_yes, cond_no}
use Rattle.lists.proofs.Parts.{drop-take}
use Rattle.text.specs.Read.{value_of, number_in, is_bytes, bytes_of}
use Rattle.text.specs.declared.lines.Numbers.{Numbers}
use Rattle.text.specs.Lines.{line_at, is_ended, next_at, is_names, rest, field, is_numbers, numbers_of}
use Rattle.text.proofs.Laws.{number_range, number_is, number_in_lem, length-bytes, line_part, ended_yes, next_is, held_ended, held_short, rest_le, rest_end}
use Rattle.text.proofs.Laws.{NumbersFound, numbers-found, numbers_none, numbers_range, numbers_four}
use Rattle.settings.specs.Refusal.{state_refusal}
use Rattle.settings.specs.Valid.{Coded, Valid}
use Rattle.settings.proofs.Laws.{state_0, 0_state}
use Rattle.wire.specs.Length.{block_length, block_size}
use Rattle.wire.proofs.Laws.{block_length_is, block_size_is}
use Rattle.system_file.specs.declared.SystemFile.{SystemFile}
use Rattle.settings.specs.declared.Settings.{Settings}
use Rattle.system_file.specs.declared.head.Head.{Head}
use Rattle.system_file.specs.declared.FormError.{FormError}
use Rattle.system_file.specs.Form.{file_limit, settings_names, message_names, is_settings, Contents, read_from, settings_in, contents_of, read_of}
use Rattle.system_file.specs.Table.{file_of}
use Rattle.system_file.specs.Steps.{head_in, head_at, block_at, opened, Opened}
use Rattle.system_file.proofs.Reading.{read_all}

-- ---- tests
-- the ranges of n, t, k and the sender
abbrev pub ranges : List ℕ
ranges = 4 ∷ 16 ∷ 1 ∷ 5 ∷ 1 ∷ 32 ∷ 0 ∷ 16 ∷ []

-- what the tests say: numbers in these ranges, settings, and a block of their length
pub record Settled (l : List ℕ) : Type 0 where
  pub numbers : is_numbers ranges l ≡ true
  pub valid : Valid (settings_in l) 1
  pub block : is_bytes (block_length (settings_in l).k (settings_in l).t) (rest 4 l) ≡ true

module _ (l : List ℕ) where
  pub settings_parts : is_settings l ≡ true → Settled l
  unfolding is_settings settings_in
  settings_parts e =
      let n = value_of (field 0 l) in
      let e1 = and_right (number_in 4 16 (field 0 l)) _ e in
      let e2 = and_right (number_in 1 n (field 1 l)) _ e1 in
      let e3 = and_right (leb (3 * value_of (field 1 l) + 1) n) _ e2 in
      let e4 = and_right (number_in 1 32 (field 2 l)) _ e3 in
      let rn = number_range 4 16 (field 0 l) (and_left _ _ e) in
      let rt = number_range 1 n (field 1 l) (and_left _ _ e1) in
      let rk = number_range 1 32 (field 2 l) (and_left _ _ e3) in
      let rs = number_range 0 n (field 3 l) (and_left _ _ e4) in
      let q = leb-true (3 * value_of (field 1 l) + 1) n (and_left _ _ e2) in
      let t = number_in_lem 1 5 (field 1 l) (number_is _ _ _ (and_left _ _ e1)) rt.0 (omega arith) in
      let s = number_in_lem 0 16 (field 3 l) (number_is _ _ _ (and_left _ _ e4)) rs.0 (omega arith) in
      record {
        numbers = numbers_four ranges l refl ∙ rw (and_left (number_in 4 16 (field 0 l)) _ e, t, and_left (number_in 1 32 (field 2 l)) _ e3, s);
        valid = record {
          coded = record { quorum = record { n_least = rn.0; n_most = rn.1; t_least = rt.0; t_most = q }; k_least = rk.0; k_most = omega arith };
          number = record { least = omega arith; most = omega (arith, rn.0) };
          sender = rs.1;
        };
        block = and_right (number_in 0 n (field 3 l)) _ e4;
      }

  -- k is at most 32
  pub settled_stripes : Settled l → (settings_in l).k ≤ 32
  unfolding settings_in
  settled_stripes p = (number_range _ _ _ (numbers_range ranges l p.numbers 2 (omega arith))).1

  -- what they say is all that they ask
  parts_settings : Settled l → is_settings l ≡ true
  unfolding is_settings settings_in
  parts_settings p =
      let r = numbers_range ranges l p.numbers in
      let q = p.valid.coded.quorum in
      let n = value_of (field 0 l) in
      let t = number_in_lem 1 n (field 1 l) (number_is _ _ _ (r 1 (omega arith))) q.t_least (omega (arith, q.t_most)) in
      let s = number_in_lem 0 n (field 3 l) (number_is _ _ _ (r 3 (omega arith))) (omega arith) p.valid.sender in
      rw (r 0 (omega arith), t, le-leb (3 * value_of (field 1 l) + 1) n q.t_most, r 2 (omega arith), s, p.block)

-- ---- the cases of the code
-- the settings with the numbers vs
abbrev settings : List ℕ → Settings
settings vs = record { n = get_or vs 0 0; t = get_or vs 1 0; k = get_or vs 2 0; sender = get_or vs 3 0 }

module _ (l : List ℕ) (a : ℕ) where
  there : Head
  there = record { settings = settings_in l; start = a + (length l - length (rest 4 l)); end = a + length l }

  -- the answer, by the tests
  head_is : {b : Bool} → is_settings l ≡ b → cond b (Some there) None ≡ head_in l a
  unfolding head_in there
  head_is e = ap (λ (b : Bool). cond b (Some there) None) (sym e)

  head_no : (Settled l → ⊥) → None ≡ head_in l a
  head_no h = head_is (fails _ (λ e. h (settings_parts l e)))

  pub no_numbers : None ≡ numbers_of ranges l → None ≡ head_in l a
  no_numbers d = head_no (λ p. true≢false (sym p.numbers ∙ numbers_none ranges l d))

  -- f are the numbers, and r is what refuses them
  module _ {f : Numbers} (d : Some f ≡ numbers_of ranges l) {r : ℕ} (g : r ≡ state_refusal (settings f.values) 1) where
    pub head_numbers : NumbersFound ranges l f
    head_numbers = numbers-found ranges l d

    settings-are : settings f.values ≡ settings_in l
    unfolding settings_in
    settings-are =
        let n = head_numbers in
        rw (n.value 0 (omega arith), n.value 1 (omega arith), n.value 2 (omega arith), n.value 3 (omega arith))

    refusal_is : r ≡ state_refusal (settings_in l) 1
    refusal_is = g ∙ ap (λ (s : Settings). state_refusal s 1) settings-are

    pub no_settings : (r ≡ 0 → ⊥) → None ≡ head_in l a
    no_settings n = head_no (λ p. n (refusal_is ∙ 0_state _ _ p.valid))

    -- they are settings; x is what follows them, and b says whether it is m bytes
    module _ (z : r ≡ 0) {x : List ℕ} (e : x ≡ drop f.end l)
        {m : ℕ} (u : m ≡ block_size (get_or f.values 0 0) (get_or f.values 1 0) (get_or f.values 2 0)) {b : Bool} (v : b ≡ is_bytes m x) where
      valid : Valid (settings_in l) 1
      valid = state_0 _ _ (sym refusal_is ∙ z)

      is_block : is_bytes (block_length (settings_in l).k (settings_in l).t) (rest 4 l) ≡ b
      is_block =
          sym (v ∙ rw (u ∙ ap (λ (s : Settings). block_size s.n s.t s.k) settings-are ∙ block_size_is valid.coded, e, head_numbers.follows))

      pub no_block : b ≡ false → None ≡ head_in l a
      no_block w = head_no (λ p. true≢false (sym p.block ∙ is_block ∙ w))

      pub head_yes : b ≡ true → Some (record { settings = settings f.values; start = a + f.end; end = a + length l }) ≡ head_in l a
      unfolding there
      head_yes w =
          rw (settings-are, head_numbers.end)
          (head_is (parts_settings l (record { numbers = head_numbers.numbers; valid = valid; block = is_block ∙ w })))

-- the line at a, which the code holds as l
module _ (input l : List ℕ) (a : ℕ) (e : l ≡ line_at input a) where
  pub head_short : length input ≤ a + length l → None ≡ head_at input a
  unfolding head_at
  head_short h = sym (cond_no _ _ _ (held_short input l a e h))

  pub head_line : a + length l < length input → head_in l a ≡ head_at input a
  unfolding head_at
  head_line h = ap (λ (x : List ℕ). head_in x a) e ∙ sym (cond_yes _ _ _ (held_ended input l a e h))

-- ---- what an answer tells
pub record Headed (input : List ℕ) (a : ℕ) (h : Head) : Type 0 where
  pub ended : is_ended input a ≡ true
  pub tests : is_settings (line_at input a) ≡ true
  pub settings-are : h.settings ≡ settings_in (line_at input a)
  pub start_is : h.start ≡ a + (length (line_at input a) - length (rest 4 (line_at input a)))
  pub end_is : h.end ≡ a + length (line_at input a)

-- two tests in turn
cond-and : {A : Type 0} (a b : Bool) (x y : A) → cond (a && b) x y ≡ cond a (cond b x y) y
cond-and true b x y = refl
cond-and false b x y = refl

module _ (input : List ℕ) (a : ℕ) where
  is_head : {b : Bool} → (is_ended input a && is_settings (line_at input a)) ≡ b → cond b (Some (there (line_at input a) a)) None ≡ head_at input a
  unfolding head_at head_in there
  is_head e =
      ap (λ (b : Bool). cond b (Some (there (line_at input a) a)) None) (sym e) ∙ cond-and (is_ended input a) (is_settings (line_at input a)) _ _

  pub head_none : None ≡ head_at input a → (is_ended input a && is_settings (line_at input a)) ≡ false
  head_none e = fails _ (λ y. let q = is_head y in let z : ◌≡◌ {A = ℕ} 0 1 = cc in omega arith)

  pub head_said : (h : Head) → Some h ≡ head_at input a → Headed input a h
  unfolding there
  head_said h e =
      ⊎_elim
      (λ (y : (is_ended input a && is_settings (line_at input a)) ≡ true).
      let q = is_head y in
      let t : h ≡ there (line_at input a) a = cc in
      record {
        ended = and_left _ _ y;
        tests = and_right (is_ended input a) _ y;
        settings-are = ap (λ (x : Head). x.settings) t;
        start_is = ap (λ (x : Head). x.start) t;
        end_is = ap (λ (x : Head). x.end) t;
      })
      (λ (y : (is_ended input a && is_settings (line_at input a)) ≡ false).
      let q = is_head y in let z : ◌≡◌ {A = ℕ} 0 1 = cc in absurd (omega arith))
      (either (is_ended input a && is_settings (line_at input a)))

-- ---- what follows from it
module _ {input : List ℕ} {a : ℕ} {head : Head} (h : Headed input a head) where
  pub head_end : head.end < length input
  head_end = omega (arith, ended_yes input a h.ended, h.end_is)

  pub head_next : head.end + 1 ≡ next_at input a
  head_next = omega (arith, h.end_is, next_is input a)

  pub head_both : (is_ended input a && is_settings (line_at input a)) ≡ true
  head_both = and_both _ _ h.ended h.tests

  digits : take (head.end - head.start) (drop head.start input) ≡ rest 4 (line_at input a)
  digits =
      let l = line_at input a in
      let d = length l - length (rest 4 l) in
      let m : head.end - head.start ≡ length l - d = omega (arith, h.end_is, h.start_is) in
      ap (λ (x : ℕ). take x (drop head.start input)) m ∙ ap (λ (x : ℕ). take (length l - d) (drop x input)) h.start_is
      ∙ sym (rest_end 4 l ∙ ap (drop d) (line_part input a) ∙ drop-take d (length l) (drop a input) ∙ ap (take (length l - d)) (drop-drop d a input))

  pub block_is : block_at input head.start head.end ≡ bytes_of (rest 4 (line_at input a))
  unfolding block_at
  block_is = ap bytes_of digits

  coded : Coded head.settings.n head.settings.t head.settings.k
  coded =
      subst (λ (x : Settings). Coded x.n x.t x.k) (sym h.settings-are)
      (settings_parts (line_at input a) h.tests).valid.coded

  block-fits : length (block_at input head.start head.end) ≤ 192
  block-fits =
      let p = settings_parts (line_at input a) h.tests in
      let s = settings_in (line_at input a) in
      let q = p.valid.coded.quorum in
      let t : s.t + 1 ≤ 6 = omega (arith, q.t_most, q.n_most) in
      omega (arith, ap length block_is, length-bytes _ _ p.block, block_length_is s.k s.t, mul-le-mul (settled_stripes (line_at input a) p) t)

  pub head_opened : length input ≤ file_limit → (x : ℕ) → 1 ≤ x → x ≤ length input → Opened input head.settings head.start head.end x
  head_opened size x u w = record {
    started = record { coded = coded; size = size; at_least = u; at_most = w };
    order = omega (arith, h.start_is, h.end_is, rest_le 4 (line_at input a));
    within = omega (arith, head_end);
    fits = block-fits;
  }

  -- the settings of the definition
  pub head_settings : opened head.settings (block_at input head.start head.end) ≡ contents_of (line_at input a)
  unfolding contents_of settings_in
  head_settings =
      ap (λ (x : Settings). opened x (block_at input head.start head.end)) h.settings-are ∙ ap (opened (settings_in (line_at input a))) block_is

  -- the answer for the whole file, from that for its message lines
  pub read_contents : length input ≤ file_limit → is_names settings_names input 0 ≡ true → a ≡ next_at input 0 → is_names message_names input (head.end + 1) ≡ true → (x : ℕ)
      → x ≡ next_at input (head.end + 1) → (r : Result SystemFile FormError) → r ≡ file_of (read_from (length input) input (opened head.settings (block_at input head.start head.end)) x 4) → r ≡ file_of (read_of input)
  read_contents size u v w x y r d =
      let q : head.end + 1 ≡ next_at input (next_at input 0) = head_next ∙ ap (next_at input) v in
      d ∙ ap file_of (ap (λ (z : ℕ). read_from (length input) input (opened head.settings (block_at input head.start head.end)) z 4) (y ∙ ap (next_at input) q)
      ∙ ap (λ (z : Contents). read_from (length input) input z (next_at input (next_at input (next_at input 0))) 4)
      (head_settings ∙ ap (λ (z : ℕ). contents_of (line_at input z)) v)
      ∙ sym (read_all input size u (subst (λ (z : ℕ). (is_ended input z && is_settings (line_at input z)) ≡ true) v head_both)
      (ap (is_names message_names input) (sym q) ∙ w)))
