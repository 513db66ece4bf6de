-- What decoding answers. The main law: `one_decoded`, what an answer says determines it.
use Rattle.std.proofs.Common.{◌≡◌, ℕ, List, replicate, Bool, true, false, Option, Some, None, Result, Ok, Err, is_some, refl, sym, ap, subst, arith}
use Rattle.lists.proofs.Tests.{true≢false}
use Rattle.settings.specs.declared.Refusal.{Refusal}
use Rattle.settings.specs.Number.{row_of}
use Rattle.settings.proofs.Laws.{row_least, one_answer}
use Rattle.wire.specs.declared.slot.Layout.{Layout}
use Rattle.wire.specs.Length.{block_length}
use Rattle.reed_solomon.specs.Decode.{decode_refusal, Decoded, Block, Beyond, Refused, decoded_of, Answers}
use Rattle.reed_solomon.specs.Steps.{Rebuilds}

module _ (n t : ℕ) (layout : Layout) (slots before : List ℕ) where
  -- a call that is refused
  pub refused_answers : (x : Refusal) (a : Result (Option ℕ) Refusal) → a ≡ Err x → row_of x ≡ decode_refusal n t layout slots before
      → Answers n t layout slots before (decoded_of a) before
  refused_answers x a is e =
      subst (λ (d : Result (Option ℕ) Refusal). Answers n t layout slots before (decoded_of d) before) (sym is)
      (e, (λ z. omega (arith, row_least x, z)), refl)

  -- one that finds none
  pub beyond_answers : (block after : List ℕ) (named : Option ℕ) → is_some named ≡ false → decode_refusal n t layout slots before ≡ 0
      → Rebuilds n t layout slots named block → after ≡ replicate (block_length layout.length t) 0
      → Answers n t layout slots before (decoded_of (Ok named)) after
  beyond_answers block after (Some x) e z r zeros = absurd (true≢false e)
  beyond_answers block after None e z r zeros = (z, r, zeros)

-- what is in an answer, or else d
named_in : ℕ → Decoded → ℕ
named_in d (Block x) = x
named_in d Beyond = d
named_in d (Refused x) = x

is_block : Decoded → Bool
is_block (Block x) = true
is_block Beyond = false
is_block (Refused x) = false

is_beyond : Decoded → Bool
is_beyond (Block x) = false
is_beyond Beyond = true
is_beyond (Refused x) = false

err_of : Refusal → Result Unit Refusal → Refusal
err_of d (Ok x) = d
err_of d (Err r) = r

pub one_decoded : (a b : Result (Option ℕ) Refusal) → decoded_of a ≡ decoded_of b → a ≡ b
unfolding is_block is_beyond named_in err_of
one_decoded (Ok (Some x)) (Ok (Some y)) e = ap (λ (z : ℕ). Ok (Some z)) (ap (named_in 0) e)
one_decoded (Ok (Some x)) (Ok None) e = absurd (true≢false (ap is_block e))
one_decoded (Ok (Some x)) (Err r) e = absurd (true≢false (ap is_block e))
one_decoded (Ok None) (Ok (Some y)) e = absurd (true≢false (sym (ap is_block e)))
one_decoded (Ok None) (Ok None) e = refl
one_decoded (Ok None) (Err r) e = absurd (true≢false (ap is_beyond e))
one_decoded (Err r) (Ok (Some y)) e = absurd (true≢false (sym (ap is_block e)))
one_decoded (Err r) (Ok None) e = absurd (true≢false (sym (ap is_beyond e)))
one_decoded (Err r) (Err q) e = ap Err (ap (err_of r) (one_answer (Err r) (Err q) (ap (named_in 0) e)))
