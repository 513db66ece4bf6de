-- What a refusal number says. The main laws: for each entry point X, the number is 0 exactly where what it tries is valid: `X-0` says what
-- number 0 gives, `0-X` is the converse.
use mathlib.Core.Path.{◌≡◌, refl, sym, ap, ◌∙◌}
use mathlib.Core.Logic.{◌⊎◌, inl, inr, ⊎_elim}
use mathlib.Core.Bool.{Bool, true, false, cond, not}
use mathlib.Core.List.{List, [], ◌∷◌}
use Prim.Native.Nat.{ℕ, zero, suc, ◌+◌, ◌*◌, ◌≤◌, ◌<◌}
use native.Mathlib.Omega.{arith}
use borrow.Author.Tests.{lt-ltb, le-ltb, ltb-false, ne_eqb, eqb-false, not-false}
use lib.Dec.{ltb, eqb}
use Rattle.lists.proofs.Tests.{or_neither, or_right, cond-zero, cond_no, either, cond_yes}
use Rattle.settings.specs.declared.Settings.{Settings}
use Rattle.settings.specs.declared.Entry.{Entry}
use Rattle.settings.specs.declared.Entry.TheVariants.{Start, State, Encode, Decode, Lengths, Star}
use Rattle.settings.specs.Refusal.{outside, too_many, broken, tried, first_of, refusal_of, untried, partial}
use Rattle.settings.specs.Refusal.{state_refusal, encoding_refusal, decoding_refusal, lengths_refusal, star_refusal}
use Rattle.settings.specs.Valid.{Quorum, Coded, Numbered, Valid}

-- ---- the rows
-- a number below or above the range, and one within
pub yes_outside : (low high x : ℕ) → (x < low) ⊎ (high < x) → outside low high x ≡ true
unfolding outside
yes_outside low high x (inl l) = rw (lt-ltb x low l)
yes_outside low high x (inr l) = or_right (ltb x low) (ltb high x) (lt-ltb high x l)

pub outside_no : (low high x : ℕ) → outside low high x ≡ false → (low ≤ x) × (x ≤ high)
unfolding outside
outside_no low high x e =
    let r = or_neither (ltb x low) (ltb high x) e in
    (ltb-false x low r.0, ltb-false high x r.1)

pub no_outside : (low high x : ℕ) → low ≤ x → x ≤ high → outside low high x ≡ false
unfolding outside
no_outside low high x l h = rw (le-ltb x low l) (le-ltb high x h)

too_many_no : (n t : ℕ) → too_many n t ≡ false → (1 ≤ t) × (3 * t + 1 ≤ n)
unfolding too_many
too_many_no n t e =
    let r = or_neither (eqb t 0) (ltb n (3 * t + 1)) e in
    let z : t ≡ 0 → ⊥ = eqb-false t 0 r.0 in
    (omega arith, ltb-false n (3 * t + 1) r.1)

no_too_many : (n t : ℕ) → 1 ≤ t → 3 * t + 1 ≤ n → too_many n t ≡ false
unfolding too_many
no_too_many n t l h = rw (ne_eqb t 0 (λ e. omega arith)) (le-ltb n (3 * t + 1) h)

-- ---- every row of a list
abbrev Each : (ℕ → Type 0) → List ℕ → Type 0
Each P [] = Unit {0}
Each P (r ∷ rows) = P r × Each P rows

-- rows tried are not numbered 0
abbrev Rows : List ℕ → Type 0
Rows = Each (λ r. 0 < r)

none_first : (p : ℕ → Bool) (rows : List ℕ) → Rows rows → first_of p rows ≡ 0 → Each (λ r. p r ≡ false) rows
none_first p [] w e = tt
none_first p (zero ∷ rows) w e = absurd (omega (arith, w.0))
none_first p (suc r ∷ rows) w e =
    let c = cond-zero (p (suc r)) r (first_of p rows) e in
    (c.0, none_first p rows w.1 c.1)

first_none : (p : ℕ → Bool) (rows : List ℕ) → Each (λ r. p r ≡ false) rows → first_of p rows ≡ 0
first_none p [] w = refl
first_none p (r ∷ rows) w = cond_no (p r) r (first_of p rows) w.0 ∙ first_none p rows w.1

rows : (e : Entry) → Rows (tried e)
rows Start = omega arith
rows State = omega arith
rows Encode = omega arith
rows Decode = omega arith
rows Lengths = omega arith
rows Star = omega arith

module _ (s : Settings) (i : ℕ) (fits : Bool) where
  -- what each entry point has tried
  passed : (e : Entry) → refusal_of e s i fits ≡ 0 → Each (λ r. broken s i fits r ≡ false) (tried e)
  unfolding refusal_of
  passed e z = none_first (broken s i fits) (tried e) (rows e) z

  passes_all : (e : Entry) → Each (λ r. broken s i fits r ≡ false) (tried e) → refusal_of e s i fits ≡ 0
  unfolding refusal_of
  passes_all e w = first_none (broken s i fits) (tried e) w

  quorum : broken s i fits 1 ≡ false → broken s i fits 2 ≡ false → Quorum s.n s.t
  unfolding broken
  quorum a b =
      let x = outside_no 4 16 s.n a in
      let y = too_many_no s.n s.t b in
      record { n_least = x.0; n_most = x.1; t_least = y.0; t_most = y.1 }

  coded : broken s i fits 1 ≡ false → broken s i fits 2 ≡ false → broken s i fits 3 ≡ false → Coded s.n s.t s.k
  unfolding broken
  coded a b c =
      let x = outside_no 1 128 s.k c in
      record { quorum = quorum a b; k_least = x.0; k_most = x.1 }

  numbered : broken s i fits 4 ≡ false → Numbered s.n i
  unfolding broken
  numbered a =
      let x = outside_no 1 s.n i a in
      record { least = x.0; most = x.1 }

  sending : broken s i fits 5 ≡ false → s.sender ≤ s.n
  unfolding broken
  sending a = (outside_no 0 s.n s.sender a).1

  fitting : broken s i fits 6 ≡ false → fits ≡ true
  unfolding broken
  fitting a = not-false fits a

  one : Quorum s.n s.t → broken s i fits 1 ≡ false
  unfolding broken
  one q = no_outside 4 16 s.n q.n_least q.n_most

  two : Quorum s.n s.t → broken s i fits 2 ≡ false
  unfolding broken
  two q = no_too_many s.n s.t q.t_least q.t_most

  three : Coded s.n s.t s.k → broken s i fits 3 ≡ false
  unfolding broken
  three q = no_outside 1 128 s.k q.k_least q.k_most

  four : Numbered s.n i → broken s i fits 4 ≡ false
  unfolding broken
  four q = no_outside 1 s.n i q.least q.most

  five : s.sender ≤ s.n → broken s i fits 5 ≡ false
  unfolding broken
  five q = no_outside 0 s.n s.sender (omega arith) q

  six : fits ≡ true → broken s i fits 6 ≡ false
  unfolding broken
  six e = ap not e

  coded_rows : Coded s.n s.t s.k → (broken s i fits 1 ≡ false) × (broken s i fits 2 ≡ false) × (broken s i fits 3 ≡ false)
  coded_rows q = (one q.quorum, two q.quorum, three q)

  valid : broken s i fits 1 ≡ false → broken s i fits 2 ≡ false → broken s i fits 3 ≡ false → broken s i fits 4 ≡ false → broken s i fits 5 ≡ false
      → Valid s i
  valid a b c d e = record { coded = coded a b c; number = numbered d; sender = sending e }

-- ---- number 0, entry point by entry point, both ways
module _ (n t : ℕ) where
  abbrev Q : Settings
  Q = partial n t untried

  pub star_0 : star_refusal n t ≡ 0 → Quorum n t
  unfolding star_refusal
  star_0 z = let w = passed Q untried true Star z in quorum Q untried true w.0 w.1.0

  pub 0_star : Quorum n t → star_refusal n t ≡ 0
  unfolding star_refusal
  0_star q = passes_all Q untried true Star (one Q untried true q, (two Q untried true q, tt))

module _ (n t k : ℕ) where
  abbrev P : Settings
  P = partial n t k

  pub lengths_0 : lengths_refusal n t k ≡ 0 → Coded n t k
  unfolding lengths_refusal
  lengths_0 z = let w = passed P untried true Lengths z in coded P untried true w.0 w.1.0 w.1.1.0

  pub 0_lengths : Coded n t k → lengths_refusal n t k ≡ 0
  unfolding lengths_refusal
  0_lengths q = let r = coded_rows P untried true q in passes_all P untried true Lengths (r.0, (r.1, (r.2, tt)))

  pub decoding_0 : (fits : Bool) → decoding_refusal n t k fits ≡ 0 → Coded n t k × (fits ≡ true)
  unfolding decoding_refusal
  decoding_0 fits z =
      let w = passed P untried fits Decode z in
      (coded P untried fits w.0 w.1.0 w.1.1.0, fitting P untried fits w.1.1.1.0)

  pub 0_decoding : (fits : Bool) → Coded n t k → fits ≡ true → decoding_refusal n t k fits ≡ 0
  unfolding decoding_refusal
  0_decoding fits q e =
      let r = coded_rows P untried fits q in
      passes_all P untried fits Decode (r.0, (r.1, (r.2, (six P untried fits e, tt))))

  pub encoding_0 : (i : ℕ) (fits : Bool) → encoding_refusal n t k i fits ≡ 0 → Coded n t k × Numbered n i × (fits ≡ true)
  unfolding encoding_refusal
  encoding_0 i fits z =
      let w = passed P i fits Encode z in
      (coded P i fits w.0 w.1.0 w.1.1.0, numbered P i fits w.1.1.1.0, fitting P i fits w.1.1.1.1.0)

  pub 0_encoding : (i : ℕ) (fits : Bool) → Coded n t k → Numbered n i → fits ≡ true → encoding_refusal n t k i fits ≡ 0
  unfolding encoding_refusal
  0_encoding i fits q h e =
      let r = coded_rows P i fits q in
      passes_all P i fits Encode (r.0, (r.1, (r.2, (four P i fits h, (six P i fits e, tt)))))

module _ (s : Settings) (own : ℕ) where
  pub state_0 : state_refusal s own ≡ 0 → Valid s own
  unfolding state_refusal
  state_0 z = let w = passed s own true State z in valid s own true w.0 w.1.0 w.1.1.0 w.1.1.1.0 w.1.1.1.1.0

  pub 0_state : Valid s own → state_refusal s own ≡ 0
  unfolding state_refusal
  0_state v =
      let r = coded_rows s own true v.coded in
      passes_all s own true State (r.0, (r.1, (r.2, (four s own true v.number, (five s own true v.sender, tt)))))

  pub starting_0 : (fits : Bool) → refusal_of Start s own fits ≡ 0 → Valid s own × (fits ≡ true)
  starting_0 fits z =
      let w = passed s own fits Start z in
      (valid s own fits w.0 w.1.0 w.1.1.0 w.1.1.1.0 w.1.1.1.1.0, fitting s own fits w.1.1.1.1.1.0)

  pub 0_starting : (fits : Bool) → Valid s own → fits ≡ true → refusal_of Start s own fits ≡ 0
  0_starting fits v e =
      let r = coded_rows s own fits v.coded in
      passes_all s own fits Start (r.0, (r.1, (r.2, (four s own fits v.number, (five s own fits v.sender, (six s own fits e, tt))))))

-- start tries the lent length last, so that the length counts only within rows 1 to 3
pub starting_fits : (s : Settings) (own : ℕ) (a b : Bool) → (Coded s.n s.t s.k → a ≡ b) → refusal_of Start s own a ≡ refusal_of Start s own b
unfolding refusal_of broken
starting_fits s own a b h =
    ⊎_elim
    (λ (y : outside 4 16 s.n ≡ true). cond_yes (outside 4 16 s.n) 1 _ y ∙ sym (cond_yes (outside 4 16 s.n) 1 _ y))
    (λ (x : outside 4 16 s.n ≡ false).
    ⊎_elim
    (λ (y : too_many s.n s.t ≡ true). ap (cond (outside 4 16 s.n) 1)
    (cond_yes (too_many s.n s.t) 2 _ y ∙ sym (cond_yes (too_many s.n s.t) 2 _ y)))
    (λ (y : too_many s.n s.t ≡ false).
    ⊎_elim
    (λ (z : outside 1 128 s.k ≡ true).
    ap (λ (r : ℕ). cond (outside 4 16 s.n) 1 (cond (too_many s.n s.t) 2 r))
    (cond_yes (outside 1 128 s.k) 3 _ z ∙ sym (cond_yes (outside 1 128 s.k) 3 _ z)))
    (λ (z : outside 1 128 s.k ≡ false). ap (refusal_of Start s own) (h (coded s own a x y z)))
    (either (outside 1 128 s.k)))
    (either (too_many s.n s.t)))
    (either (outside 4 16 s.n))
