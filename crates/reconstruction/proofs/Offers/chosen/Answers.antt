-- `Offers::chosen` meets its contract.
use Rattle.reconstruction.proofs.Choice.{chosen_some, chosen_none, chosen_there}
use Rattle.reconstruction.specs.Reconstruction.{is_chosen, chosen_piece}
use Rattle.std.proofs.lemmas.Iterator.{first_from_Range}
use Rattle.std.proofs.Common.{rules, Some, None}
use borrow.Author.Tests.{tests}
use native.Mathlib.Omega.{arith}
use Prim.Native.Nat.{ℕ}
use lib.ListN.{length}
use mathlib.Core.List.{[]}
use mathlib.Core.Bool.{Bool, true, false}
use mathlib.Core.Path.{◌≡◌, ap, sym, ◌∙◌}
use Rattle.reconstruction.proofs.Offers.chosen.Goals as goal

pub returns-in_err-i : goal.returns-in_err-i
returns-in_err-i c =
    let s = c.args.self.now in
    let passes : ℕ → Bool = is_chosen s.n s.t s.core s.inbox.now s.layout in
    let found = first_from_Range _ _ _ None (λ i. passes i ≡ true) (λ i. passes i ≡ false) c.in_err-i.ensures.ran (λ x q k. search (rules, tests)) (λ x q k. search (rules, tests)) in
    let none : chosen_piece s.n s.t s.core s.inbox.now s.layout ≡ [] = chosen_none s.n s.t s.core s.inbox.now s.layout (λ j l. found j (omega arith) l) in
    search rules

pub overflow_add-i : goal.overflow_add-i
overflow_add-i c =
    let s = c.args.self.now in
    let passes : ℕ → Bool = is_chosen s.n s.t s.core s.inbox.now s.layout in
    let found = first_from_Range _ _ _ (Some c.in_ok-i.i) (λ i. passes i ≡ true) (λ i. passes i ≡ false) c.in_ok-i.ensures.ran (λ x q k. search (rules, tests)) (λ x q k. search (rules, tests)) in
    omega (arith, found.1, s.quorum.n_most)

pub returns : goal.returns
returns c =
    let s = c.args.self.now in
    let i = c.in_ok-i.i in
    let passes : ℕ → Bool = is_chosen s.n s.t s.core s.inbox.now s.layout in
    let found = first_from_Range _ _ _ (Some i) (λ i. passes i ≡ true) (λ i. passes i ≡ false) c.in_ok-i.ensures.ran (λ x q k. search (rules, tests)) (λ x q k. search (rules, tests)) in (
      c.message.ensures ∙ chosen_some s.n s.t s.core s.inbox.now s.layout i found.1 found.2 (λ j l. found.3 j (omega arith) l),
      λ z. chosen_there s.n s.t s.core s.inbox.now s.layout i found.2 (sym (ap length c.message.ensures) ∙ z),
    )
