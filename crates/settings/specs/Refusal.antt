-- The refusal table, rows 1 to 6 (document 01, 'Turned down'; row 5 as document 02, U6, has it: sender 0 is a run without a sender).
--   outside low high x     x is outside low .. high
--   too_many n t           row 2
--   broken s i fits row    whether the settings s and a controller's number i (its own, or that of a piece) break the row; fits says that each lent
--                          length is exactly the stated one
--   tried e                the rows that an entry point tries, in their order
--   first_of p rows        the first of the rows that passes p; 0 where none does
--   refusal_of e s i fits  the number returned: the first row tried that is broken, or 0
--   untried                a value in range, for what an entry point does not try
--   partial n t k          settings whose sender is not tried
--   state_refusal s own, encoding_refusal n t k i fits, decoding_refusal n t k fits, lengths_refusal n t k, star_refusal n t
--                          the number of each entry point that tries only some rows, from what it tries
use Rattle.std.specs.Prelude.{Bool, true, false, cond, not, ◌||◌, List, [], ◌∷◌, ℕ, ◌+◌, ◌*◌, ltb, eqb}
use Rattle.settings.specs.declared.Settings.{Settings}
use Rattle.settings.specs.declared.Entry.{Entry}
use Rattle.settings.specs.declared.Entry.TheVariants.{Start, State, Encode, Decode, Lengths, Star}

unfoldable pub outside : ℕ → ℕ → ℕ → Bool
outside low high x = ltb x low || ltb high x

unfoldable pub too_many : ℕ → ℕ → Bool
too_many n t = eqb t 0 || ltb n (3 * t + 1)

unfoldable pub broken : Settings → (i : ℕ) → Bool → (row : ℕ) → Bool
broken s i fits row =
    cond (eqb row 1) (outside 4 16 s.n)
    (cond (eqb row 2) (too_many s.n s.t)
    (cond (eqb row 3) (outside 1 128 s.k)
    (cond (eqb row 4) (outside 1 s.n i)
    (cond (eqb row 5) (outside 0 s.n s.sender)
    (cond (eqb row 6) (not fits)
    false)))))

abbrev pub tried : Entry → List ℕ
tried Start = 1 ∷ 2 ∷ 3 ∷ 4 ∷ 5 ∷ 6 ∷ []
tried State = 1 ∷ 2 ∷ 3 ∷ 4 ∷ 5 ∷ []
tried Encode = 1 ∷ 2 ∷ 3 ∷ 4 ∷ 6 ∷ []
tried Decode = 1 ∷ 2 ∷ 3 ∷ 6 ∷ []
tried Lengths = 1 ∷ 2 ∷ 3 ∷ []
tried Star = 1 ∷ 2 ∷ []

abbrev pub first_of : (ℕ → Bool) → List ℕ → ℕ
first_of p [] = 0
first_of p (r ∷ rows) = cond (p r) r (first_of p rows)

unfoldable pub refusal_of : Entry → Settings → (i : ℕ) → Bool → ℕ
refusal_of e s i fits = first_of (broken s i fits) (tried e)

abbrev pub untried : ℕ
untried = 1

abbrev pub partial : (n t k : ℕ) → Settings
partial n t k = record { n = n; t = t; k = k; sender = untried }

unfoldable pub state_refusal : Settings → (own : ℕ) → ℕ
state_refusal s own = refusal_of State s own true

unfoldable pub encoding_refusal : (n t k i : ℕ) → Bool → ℕ
encoding_refusal n t k i fits = refusal_of Encode (partial n t k) i fits

unfoldable pub decoding_refusal : (n t k : ℕ) → Bool → ℕ
decoding_refusal n t k fits = refusal_of Decode (partial n t k) untried fits

unfoldable pub lengths_refusal : (n t k : ℕ) → ℕ
lengths_refusal n t k = refusal_of Lengths (partial n t k) untried true

unfoldable pub star_refusal : (n t : ℕ) → ℕ
star_refusal n t = refusal_of Star (partial n t untried) untried true
