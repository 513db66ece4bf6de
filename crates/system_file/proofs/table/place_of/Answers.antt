-- `place_of` meets its contract.
use lib.ListN.{get_or-eq_default}
use mathlib.Core.Path.{◌∙◌, sym}
use Rattle.system_file.proofs.Places.{no_place, some_at, none_at}
use Rattle.system_file.proofs.table.place_of.Goals as goal

pub returns-in_err-at : goal.returns-in_err-at
returns-in_err-at c =
    let a = c.args in
    c.from_residual.ensures ∙ no_place a.places.now a.r a.f a.j (sym c.in_err-at.was ∙ c.index.ensures)

pub returns-in_err-place : goal.returns-in_err-place
returns-in_err-place c =
    let a = c.args in
    c.from_residual-in_err-place.ensures ∙ none_at a.places.now a.r a.f a.j c.in_ok-at.at c.in_ok-at.ensures
    (get_or-eq_default a.places.now 0 c.in_err-place.ensures.lookup.3)

pub returns-then-place-eq0 : goal.returns-then-place-eq0
returns-then-place-eq0 c =
    let a = c.args in
    none_at a.places.now a.r a.f a.j c.in_ok-at.at c.in_ok-at.ensures (sym (c.in_ok-place.ensures.lookup.3.1 0) ∙ c.if-place-eq0.true)

pub returns : goal.returns
returns c =
    let a = c.args in
    some_at a.places.now a.r a.f a.j c.from.result c.in_ok-at.at c.in_ok-at.ensures (c.from.ensures ∙ c.in_ok-place.ensures.lookup.3.1 0)
    (λ z. c.if-place-eq0.false (sym c.from.ensures ∙ z))
