-- What `is_ready` says. The main laws: `ready_yes`, the settings, the number and the lengths that pass, and `yes_ready`, they do pass.
use mathlib.Core.Path.{◌≡◌}
use mathlib.Core.Bool.{Bool, true, false, ◌&&◌}
use mathlib.Core.List.{List}
use Prim.Native.Nat.{ℕ}
use borrow.Author.Tests.{eq-eqb, eqb-true, eqb-false}
use lib.Dec.{eqb}
use lib.ListN.{length}
use Rattle.lists.proofs.Tests.{fails, and_left, and_right, and_both}
use Rattle.settings.specs.Refusal.{encoding_refusal}
use Rattle.settings.proofs.Laws.{encoding_0, 0_encoding}
use Rattle.wire.specs.Length.{block_length}
use Rattle.reed_solomon.specs.Encode.{is_ready, Coding}

module _ (n t k i : ℕ) (block : List ℕ) (fits : Bool) where
  pub ready_yes : is_ready n t k i block fits ≡ true → Coding n t k i block × (fits ≡ true)
  unfolding is_ready
  ready_yes e =
      let l = eqb (length block) (block_length k t) in
      let r = encoding_0 n t k i (l && fits) (eqb-true _ 0 e) in
      (record { coded = r.0; number = r.1; size = eqb-true (length block) (block_length k t) (and_left l fits r.2) }, and_right l fits r.2)

  pub yes_ready : Coding n t k i block → fits ≡ true → is_ready n t k i block fits ≡ true
  unfolding is_ready
  yes_ready c f =
      let l = eqb (length block) (block_length k t) in
      eq-eqb _ 0 (0_encoding n t k i (l && fits) c.coded c.number
      (and_both l fits (eq-eqb (length block) (block_length k t) c.size) f))

  -- a block of another length
  pub ready_not : eqb (length block) (block_length k t) ≡ false → is_ready n t k i block fits ≡ false
  ready_not e = fails (is_ready n t k i block fits) (λ r. eqb-false (length block) (block_length k t) e (ready_yes r).0.size)

  -- a block of the stated length: the settings and the number decide
  pub ready_is : eqb (length block) (block_length k t) ≡ true
      → eqb (encoding_refusal n t k i fits) 0 ≡ is_ready n t k i block fits
  unfolding is_ready
  ready_is e = rw e mathlib.Core.Path.refl
