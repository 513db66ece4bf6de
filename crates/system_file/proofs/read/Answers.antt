-- `read` meets its contract.
use mathlib.Core.Path.{◌≡◌, sym, ap, subst, ◌∙◌}
use mathlib.Core.Bool.{true, false, ◌&&◌}
use Prim.Native.Nat.{ℕ, ◌+◌}
use native.Mathlib.Omega.{arith}
use mathlib.Core.List.{List}
use Rattle.std.specs.Prelude.{Some}
use Rattle.text.specs.Lines.{line_at, is_ended, next_at, is_names, named_at}
use Rattle.text.proofs.Laws.{Named, names_said, names_none}
use Rattle.system_file.specs.declared.head.Head.{Head}
use Rattle.system_file.specs.Form.{settings_names, message_names, is_settings}
use Rattle.system_file.specs.Table.{file_of}
use Rattle.system_file.specs.Steps.{head_at}
use Rattle.system_file.proofs.Reading.{read_long, read_unnamed, read_unset, read_untold}
use Rattle.system_file.proofs.Heads.{Headed, head_none, head_said, head_end, head_next, head_both, head_opened, read_contents}
use Rattle.system_file.proofs.read.Goals as goal

-- what the first two lines say, for a file that is not too long
record Begun (input : List ℕ) (a : ℕ) (h : Head) : Type 0 where
  first : Named settings_names input 0 a
  headed : Headed input a h
  settled : (is_ended input (next_at input 0) && is_settings (line_at input (next_at input 0))) ≡ true
  second : h.end + 1 ≡ next_at input (next_at input 0)

begun : (input : List ℕ) {a : ℕ} {h : Head} → Some a ≡ named_at settings_names input 0 → Some h ≡ head_at input a → Begun input a h
begun input {a} {h} d e =
    let f = names_said settings_names input 0 a d in
    let g = head_said input a h e in
    record {
      first = f;
      headed = g;
      settled = subst (λ (x : ℕ). (is_ended input x && is_settings (line_at input x)) ≡ true) f.next (head_both g);
      second = head_next g ∙ ap (next_at input) f.next;
    }

pub returns-then-input-gt-LIMIT : goal.returns-then-input-gt-LIMIT
returns-then-input-gt-LIMIT c = ap file_of (sym (read_long c.args.input.now c.if-input-gt-LIMIT.true))

pub returns-in_default : goal.returns-in_default
returns-in_default c =
    let input = c.args.input.now in
    ap file_of (sym (read_unnamed input c.if-input-gt-LIMIT.false (names_none settings_names input 0 c.in_default.ensures)))

-- after the first line
pub settings_at-requires : goal.settings_at-requires
settings_at-requires c = (names_said settings_names c.args.input.now 0 c.in-Some.first c.in-Some.ensures).most

pub returns-in_default-settings_at : goal.returns-in_default-settings_at
returns-in_default-settings_at c =
    let input = c.args.input.now in
    let first = names_said settings_names input 0 c.in-Some.first c.in-Some.ensures in
    ap file_of (sym (read_unset input c.if-input-gt-LIMIT.false first.named
    (subst (λ (x : ℕ). (is_ended input x && is_settings (line_at input x)) ≡ false) first.next (head_none input c.in-Some.first c.in_default-settings_at.ensures))))

-- after the settings line
pub overflow_add-head : goal.overflow_add-head
overflow_add-head c =
    let b = begun c.args.input.now c.in-Some.ensures c.in-Some-settings_at.ensures in
    omega (arith, head_end b.headed, c.if-input-gt-LIMIT.false)

pub returns-in_default-after_names : goal.returns-in_default-after_names
returns-in_default-after_names c =
    let input = c.args.input.now in
    let b = begun input c.in-Some.ensures c.in-Some-settings_at.ensures in
    let w = names_none message_names input (c.in-Some-settings_at.head.end + 1) c.in_default-after_names.ensures in
    ap file_of (sym (read_untold input c.if-input-gt-LIMIT.false b.first.named b.settled (ap (is_names message_names input) (sym b.second) ∙ w)))

-- after the second line of names
pub contents-requires : goal.contents-requires
contents-requires c =
    let input = c.args.input.now in
    let b = begun input c.in-Some.ensures c.in-Some-settings_at.ensures in
    let third = names_said message_names input (c.in-Some-settings_at.head.end + 1) c.in-Some-after_names.third c.in-Some-after_names.ensures in
    head_opened b.headed c.if-input-gt-LIMIT.false c.in-Some-after_names.third third.least third.most

pub returns : goal.returns
returns c =
    let input = c.args.input.now in
    let b = begun input c.in-Some.ensures c.in-Some-settings_at.ensures in
    let third = names_said message_names input (c.in-Some-settings_at.head.end + 1) c.in-Some-after_names.third c.in-Some-after_names.ensures in
    read_contents b.headed c.if-input-gt-LIMIT.false b.first.named b.first.next
    third.named c.in-Some-after_names.third third.next c.contents.result c.contents.ensures
