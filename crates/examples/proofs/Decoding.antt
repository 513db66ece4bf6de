-- What decoding gives of all blocks, and whom it names: `three_silent` and `seven_false`, by the law `pieces_decode`.
use mathlib.Core.Path.{◌≡◌, refl, sym, ap, ◌∙◌}
use mathlib.Core.Bool.{Bool, true, false, not, cond}
use mathlib.Core.List.{List}
use mathlib.Core.Logic.{⊎_elim}
use Prim.Native.Nat.{ℕ, ◌+◌, ◌≤◌, ◌<◌}
use native.Mathlib.Omega.{arith}
use lib.ListN.{length}
use borrow.Author.Tests.{eq-eqb}
use Rattle.lists.specs.Same.{same}
use Rattle.lists.proofs.Tests.{true≢false, fails, either}
use Rattle.lists.proofs.Sums.{count-not, count_mono}
use Rattle.lists.proofs.Sames.{same_eq}
use Rattle.bitset.proofs.Laws.{set_ext}
use Rattle.settings.specs.Valid.{Coded}
use Rattle.wire.specs.Slot.{layout_with, message_of, silence, bytes, slots}
use Rattle.wire.proofs.Laws.{Sized, sized_silence, sized_bytes, content, length-slots, read_back}
use Rattle.reed_solomon.specs.Encode.{piece_of}
use Rattle.reed_solomon.specs.Decode.{has_piece, present_count, is_named, named_of}
use Rattle.reed_solomon.proofs.Laws.{0_decode, length_piece, pieces_decode, named_absent, true_not_named}
use Rattle.examples.specs.Decoding.{sent, ThreeSilent, SevenFalse}

-- ---- silent controllers
module _ (run k : ℕ) (B : List ℕ) (silent : ℕ → Bool) where
  sized : (j : ℕ) → Sized (layout_with run k) (sent silent k 2 B j)
  sized j = go (silent j)
    where
      go : (b : Bool) → Sized (layout_with run k) (cond b silence (bytes (piece_of k 2 B j)))
      go true = sized_silence (layout_with run k)
      go false = sized_bytes (layout_with run k) (piece_of k 2 B j) (length_piece k 2 B j)

  abbrev all : List ℕ
  all = slots (layout_with run k) (sent silent k 2 B) 7

  read : (i : ℕ) → i < 7 → (b : Bool) → silent (i + 1) ≡ b → message_of all (layout_with run k) (i + 1) ≡ content (cond b silence (bytes (piece_of k 2 B (i + 1))))
  read i l b e =
      read_back (layout_with run k) (sent silent k 2 B) sized 7 (i + 1) (omega arith) (omega arith)
      ∙ ap (λ b. content (cond b silence (bytes (piece_of k 2 B (i + 1))))) e

  spoke : (i : ℕ) → not (silent (i + 1)) ≡ true → silent (i + 1) ≡ false
  spoke i e = fails (silent (i + 1)) (λ s. true≢false (sym e ∙ ap not s))

  -- a silent controller's slot is absent
  present_spoke : (i : ℕ) → i < 7 → has_piece (layout_with run k) all (i + 1) ≡ true → not (silent (i + 1)) ≡ true
  unfolding has_piece
  present_spoke i l e =
      ap not
      (fails (silent (i + 1))
      (λ s. true≢false (sym e ∙ ap not (eq-eqb (length (message_of all (layout_with run k) (i + 1))) 0 (ap length (read i l true s))))))

  -- and it is the one that is named
  silent_named : 1 ≤ k → (i : ℕ) → i < 7 → silent (i + 1) ≡ is_named 2 (layout_with run k) all B (i + 1)
  silent_named least i l =
      ⊎_elim
      (λ (e : silent (i + 1) ≡ true).
      e
      ∙ sym (named_absent 2 (layout_with run k) all B (i + 1) least
      (fails (has_piece (layout_with run k) all (i + 1)) (λ p. true≢false (sym (present_spoke i l p) ∙ ap not e)))))
      (λ (e : silent (i + 1) ≡ false). e ∙ sym (true_not_named 2 (layout_with run k) all B (i + 1) (read i l false e)))
      (either (silent (i + 1)))

pub three_silent : ThreeSilent
unfolding present_count named_of
three_silent run k B before silent least most size is-bytes sized-before three =
    let coded : Coded 7 2 k = record {
      quorum = record { n_least = omega arith; n_most = omega arith; t_least = omega arith; t_most = omega arith };
      k_least = least;
      k_most = most;
    } in
    let spoken : ℕ → Bool = λ i. not (silent (i + 1)) in (
      0_decode 7 2 (layout_with run k) (all run k B silent) before coded
          (length-slots (layout_with run k) (sent silent k 2 B) (sized run k B silent) 7) sized-before,
      pieces_decode 7 2 (layout_with run k) (all run k B silent) B spoken size is-bytes (λ i l e. read run k B silent i l false (spoke run k B silent i e))
          (omega (
            arith,
            count-not 7 (λ i. silent (i + 1)),
            count_mono 7 (λ i. has_piece (layout_with run k) (all run k B silent) (i + 1)) spoken (present_spoke run k B silent),
          )),
      set_ext 7 (λ i. silent (i + 1)) (λ i. is_named 2 (layout_with run k) (all run k B silent) B (i + 1)) (silent_named run k B silent least),
    )

-- ---- false pieces
pub seven_false : SevenFalse
unfolding is_named
seven_false layout slots B before taken size is-bytes here few =
    let right : ℕ → Bool = λ i. same (message_of slots layout (i + 1)) (piece_of layout.length 1 B (i + 1)) in (
      taken,
      pieces_decode 16 1 layout slots B right size is-bytes
          (λ i l e. same_eq (message_of slots layout (i + 1)) (piece_of layout.length 1 B (i + 1)) e) (omega (arith, count-not 16 right)),
      refl,
    )
