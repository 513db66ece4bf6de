-- `star::of_bits` meets its contract: the refusal, then the star of the first largest matching.
use Rattle.star.proofs.Answer.{refusal_0, refused, below, answered, not-large}
use Rattle.star.specs.Star.{IsStar, no_sets, refusal_for, sets_of}
use Rattle.star.specs.declared.Sets.{Sets}
use Rattle.settings.specs.Refusal.{star_refusal}
use Rattle.settings.specs.Valid.{Quorum}
use Rattle.settings.specs.declared.Refusal.{Refusal}
use Rattle.std.proofs.Common.{Result, Err}
use Rattle.graph.specs.Bits.{adjacent}
use Rattle.matching.specs.Answer.{complement}
use borrow.Author.Rules.{rules}
use Prim.Native.Nat.{ℕ, min}
use native.Mathlib.Omega.{arith}
use mathlib.Core.Path.{◌≡◌, refl, sym, ap, subst, ◌∙◌}
use Rattle.star.proofs.of_bits.Goals as goal

pub returns-in_err-star_refusal : goal.returns-in_err-star_refusal
unfolding refusal_for
returns-in_err-star_refusal c =
    let a = c.args in
    let r = c.in_err-star_refusal in
    let is : c.from_residual.result ≡ Err r.field-0.0 = search rules in
    subst (λ (x : Result Sets Refusal). IsStar a.n a.t (adjacent a.bits) (sets_of x)) (sym is) (refused a.bits a.n a.t r.field-0.0 r.ensures)

-- the settings that are let pass
taken : (n t : ℕ) → 0 ≡ star_refusal n t → refusal_for n t ≡ 0
unfolding refusal_for
taken n t e = sym e

quorum : (n t : ℕ) → 0 ≡ star_refusal n t → Quorum n t
quorum n t e = refusal_0 n t (taken n t e)

pub invariant_of-graph : goal.invariant_of-graph
invariant_of-graph c =
    let a = c.args in
    let few = (quorum a.n a.t c.in_ok-star_refusal.ensures).n_most in
    let all : min a.n 16 ≡ a.n = omega (arith, few) in
    record { few = few; missing = c.complement.ensures ∙ ap (λ (n : ℕ). complement n (adjacent a.bits)) all }

pub sets-sets-requires : goal.sets-sets-requires
sets-sets-requires c =
    let a = c.args in
    let e = c.in_ok-star_refusal.ensures in
    let q = quorum a.n a.t e in
    (omega (arith, q.t_most), below a.bits a.n a.t (taken a.n a.t e) q.n_most _ c.largest.ensures)

pub is_large-requires : goal.is_large-requires
is_large-requires c = let q = quorum c.args.n c.args.t c.in_ok-star_refusal.ensures in (q.n_most, omega (arith, q.t_most))

pub returns-then-is_large : goal.returns-then-is_large
returns-then-is_large c =
    let a = c.args in
    let e = c.in_ok-star_refusal.ensures in
    answered a.bits a.n a.t (taken a.n a.t e) (quorum a.n a.t e).n_most _ c.largest.ensures _ c.sets-sets.ensures (sym c.is_large.ensures ∙ c.if-is_large.true)

pub returns : goal.returns
unfolding no_sets
returns c =
    let a = c.args in
    let e = c.in_ok-star_refusal.ensures in
    not-large a.bits a.n a.t (taken a.n a.t e) (quorum a.n a.t e).n_most _ c.largest.ensures _ _ c.sets-sets.ensures (sym c.is_large.ensures ∙ c.if-is_large.false)
    refl
