-- The length of a block, tested with no sum or product that can overflow, and two lengths tested. The main law: `whole_block`.
use mathlib.Core.Path.{◌≡◌, ap, ◌∙◌}
use mathlib.Core.Bool.{true, ◌&&◌}
use Prim.Native.Nat.{ℕ, min, ◌+◌, ◌*◌, ◌<◌}
use native.Mathlib.Nat.{mul-suc}
use native.Mathlib.Numerals.{add-one}
use native.Mathlib.Omega.{arith}
use borrow.Author.Tests.{eq-eqb, eqb-true}
use lib.Dec.{eqb}
use Rattle.lists.proofs.Tests.{bool_ext, and_left, and_right, and_both}
use Rattle.wire.specs.Length.{block_length}
use Rattle.wire.proofs.Laws.{block_length_is}

module _ (a b c d : ℕ) where
  pub both_true : (eqb a b && eqb c d) ≡ true → (a ≡ b) × (c ≡ d)
  both_true e = (eqb-true a b (and_left (eqb a b) (eqb c d) e), eqb-true c d (and_right (eqb a b) (eqb c d) e))

  pub true_both : a ≡ b → c ≡ d → (eqb a b && eqb c d) ≡ true
  true_both e f = and_both (eqb a b) (eqb c d) (eq-eqb a b e) (eq-eqb c d f)

module _ (len k t : ℕ) where
  size : block_length k t ≡ k * t + k
  size = block_length_is k t ∙ ap (λ n. k * n) (add-one t) ∙ mul-suc k t

  -- no list is as long as the most that a number can be
  pub whole_block : (most : ℕ) → len < most → eqb len (min (min (k * t) most + k) most) ≡ eqb len (block_length k t)
  whole_block most l =
      bool_ext (eqb len (min (min (k * t) most + k) most)) (eqb len (block_length k t))
      (λ h.
      let e : len ≡ min (min (k * t) most + k) most = eqb-true len (min (min (k * t) most + k) most) h in eq-eqb len (block_length k t) (omega (arith, size)))
      (λ h.
      let e : len ≡ block_length k t = eqb-true len (block_length k t) h in
      eq-eqb len (min (min (k * t) most + k) most) (omega (arith, size)))
