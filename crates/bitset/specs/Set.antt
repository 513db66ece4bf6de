-- Sets of controllers as numbers of 16 bits. Index i stands for controller i + 1, so the bit worth 1 is for controller 1
-- (document 01, 'Rounds': its term is marks).
--   member s i                                   whether i is in the set s
--   set_of n p                                   the set of the indices below n that pass the test p
--   size_of s                                    how many members s has
--   inserted s i                                 s with i, which is below 16; else s
--   removed s i                                  s without i
--   intersection a b, difference a b, union a b  the members of both; of a and not of b; of either
--   restricted s n                               the members of s below n
--   first n p                                    the least index below n that passes p; n where none does
--   lowest_of s                                  the least member of s; 16 where it has none
--   Selected answer n s                          s is the set of each test, of the indices below n, that says what is answered: `answer i b` says that b may
--                                                be answered at i
use Rattle.std.specs.Prelude.{◌≡◌, ◌<◌, Bool, cond, not, ◌&&◌, ◌||◌, ℕ, zero, suc, ◌*◌, ◌/◌, ◌%◌, ◌^◌, eqb}
use Rattle.lists.specs.Sum.{sum, ind, count}

unfoldable pub member : ℕ → ℕ → Bool
member s i = eqb (s / 2 ^ i % 2) 1

unfoldable pub set_of : ℕ → (ℕ → Bool) → ℕ
set_of n p = sum n (λ i. ind (p i) * 2 ^ i)

unfoldable pub size_of : ℕ → ℕ
size_of s = count 16 (member s)

unfoldable pub inserted : ℕ → ℕ → ℕ
inserted s i = set_of 16 (λ j. member s j || eqb j i)

unfoldable pub removed : ℕ → ℕ → ℕ
removed s i = set_of 16 (λ j. member s j && not (eqb j i))

unfoldable pub intersection : ℕ → ℕ → ℕ
intersection a b = set_of 16 (λ i. member a i && member b i)

unfoldable pub difference : ℕ → ℕ → ℕ
difference a b = set_of 16 (λ i. member a i && not (member b i))

unfoldable pub union : ℕ → ℕ → ℕ
union a b = set_of 16 (λ i. member a i || member b i)

unfoldable pub restricted : ℕ → ℕ → ℕ
restricted s n = set_of n (member s)

unfoldable pub first : ℕ → (ℕ → Bool) → ℕ
first zero p = 0
first (suc n) p = cond (p 0) 0 (suc (first n (λ i. p (suc i))))

unfoldable pub lowest_of : ℕ → ℕ
lowest_of s = first 16 (member s)

abbrev pub Selected : (ℕ → Bool → Type 0) → ℕ → ℕ → Type 0
Selected answer n s = (p : ℕ → Bool) → ((i : ℕ) (b : Bool) → i < n → answer i b → b ≡ p i) → s ≡ set_of n p
