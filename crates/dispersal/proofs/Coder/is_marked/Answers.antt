-- `Coder::is_marked` meets its contract.
use Rattle.dispersal.proofs.Steps.{paired, marked_present}
use Rattle.reed_solomon.proofs.Laws.{length_piece}
use Rattle.reed_solomon.specs.Encode.{piece_of}
use Rattle.lists.specs.Same.{same}
use borrow.Author.Tests.{eqb-false}
use lib.Seq.{take_at}
use lib.ListN.{length, take, drop}
use Prim.Native.Nat.{ℕ}
use mathlib.Core.List.{List, ◌++◌}
use mathlib.Core.Bool.{◌&&◌}
use mathlib.Core.Path.{◌≡◌, sym, ap, ◌∙◌}
use Rattle.dispersal.proofs.Coder.is_marked.Goals as goal

pub returns : goal.returns
returns c =
    let a = c.args in
    let s = a.self.now in
    let p = piece_of s.k s.t s.block.now s.own in
    let q = piece_of s.k s.t s.block.now a.j in
    let m' = c.write_piece.new.m in
    let pair : m' ≡ p ++ q = paired s.k p q a.m.now m' c.requires.2 c.requires.1 c.write_piece.ensures in (
      c.is_swapped.ensures
          ∙ ap (λ (x : List ℕ). same (take s.k x) (drop s.k m') && same (drop s.k x) (take s.k m')) c.message-message.ensures
          ∙ marked_present s.k s.t s.own a.inbox.now a.layout s.block.now a.j c.if-j-self.false m'
          (λ e. eqb-false _ 0 (sym c.is_empty.ensures ∙ c.if-is_empty.false) (ap length c.message-message.ensures ∙ e)) pair,
      ap (take s.k) pair ∙ take_at p q s.k (length_piece s.k s.t s.block.now s.own),
    )
