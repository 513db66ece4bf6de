-- What demand 3 supposes, as tests of a system: `meets_supposed`; and short forms in which a system of four controllers is written down.
--   Meets S                the tests
--   Step, lents            what is lent to a step: an inbox, and the length of an outbox of zeros
--   run_number             the number of the systems' run, 0102 in hexadecimal
--   present m, absent len  a slot of that run with a message; a slot of 00 in a round of that length
--   late m                 a slot with a message of run 0002, whose number has the same low byte
--   rows a b c d           a matrix of four rows of marks
--   box a b c d            four slots
--   answers h ls           the numbers that a list of steps returns
use mathlib.Core.Path.{◌≡◌, refl, sym}
use mathlib.Core.Bool.{Bool, true, false, not}
use mathlib.Core.List.{List, [], ◌∷◌, ◌++◌}
use Prim.Native.Nat.{ℕ, zero, suc, ◌+◌, ◌-◌, ◌*◌, ◌≤◌}
use native.Mathlib.Omega.{arith}
use lib.Dec.{T, ltb, leb, eqb, ltb→lt, leb→le, eqb→eq, lit<}
use lib.ListN.{length, get_or, replicate}
use Rattle.lists.specs.Sum.{count}
use Rattle.lists.specs.Same.{same}
use Rattle.lists.proofs.Tests.{true≢false}
use Rattle.lists.proofs.Sames.{same_eq}
use Rattle.lists.proofs.Table.{both, both_left, both_right, below, below_at}
use Rattle.polynomial.specs.Polynomial.{Bytes}
use Rattle.wire.specs.Length.{round_layout}
use Rattle.wire.specs.Slot.{slot_of}
use Rattle.protocol.specs.Step.{start_of}
use Rattle.agreement.specs.Run.{Lent, Local, Made, stepped, left}
use Rattle.agreement.specs.Agreement.{System, Correct, Supposed, calls_of, call, last, no_call}

-- the test b, where a holds
abbrev pub given : Bool → Bool → Bool
given true b = b
given false b = true

given_at : (a b : Bool) → T (given a b) → a ≡ true → T b
given_at true b t e = t
given_at false b t e = absurd (true≢false (sym e))

-- the test p at each of 1 .. n
abbrev pub each : ℕ → (ℕ → Bool) → Bool
each n p = below n (λ m. p (suc m))

each_at : (n : ℕ) (p : ℕ → Bool) → T (each n p) → (i : ℕ) → 1 ≤ i → i ≤ n → T (p i)
each_at n p t zero least most = absurd (omega arith)
each_at n p t (suc m) least most = below_at n (λ m. p (suc m)) t m most

pub passed : (b : Bool) → T b → b ≡ true
passed true t = refl
passed false t = absurd t

-- the test p at each correct controller
pub at_correct : (S : System) (p : ℕ → Bool) → T (each S.settings.n (λ i. given (S.correct i) (p i))) → (i : ℕ) → Correct S i → T (p i)
at_correct S p t i f =
    given_at (S.correct i) (p i) (each_at S.settings.n (λ i. given (S.correct i) (p i)) t i f.least f.most) f.is

abbrev pub starts : System → ℕ → Bool
starts S i = eqb (start_of S.settings i S.run (length (S.block i))).number 0

abbrev pub finishes : System → ℕ → Bool
finishes S i = eqb (length (calls_of S i)) (last S)

-- whether the message from i to j arrives in round c, given the calls of i and of j, which are so computed once for all rounds
abbrev pub arrived_in : System → (i j : ℕ) → List Made → List Made → ℕ → Bool
arrived_in S i j of-i of-j c =
    same (slot_of (get_or of-j (c + 1 - 1) no_call).lent.inbox (round_layout S.run S.settings.n S.settings.t S.settings.k c) i)
    (slot_of (get_or of-i (c - 1) no_call).sends (round_layout S.run S.settings.n S.settings.t S.settings.k c) j)

abbrev pub all_in : System → (i j : ℕ) → List Made → List Made → Bool
all_in S i j of-i of-j = each (last S - 1) (arrived_in S i j of-i of-j)

abbrev pub arrived : System → (i j c : ℕ) → Bool
arrived S i j c = arrived_in S i j (calls_of S i) (calls_of S j) c

abbrev pub all_arrived : System → (i j : ℕ) → Bool
all_arrived S i j = given (S.correct i) (given (S.correct j) (all_in S i j (calls_of S i) (calls_of S j)))

pub record Meets (S : System) : Type 0 where
  pub tolerance : T (leb (3 * S.settings.t + 1) S.settings.n)
  pub few : T (leb (count S.settings.n (λ i. not (S.correct (i + 1)))) S.settings.t)
  pub started : T (each S.settings.n (λ i. given (S.correct i) (starts S i)))
  pub finished : T (each S.settings.n (λ i. given (S.correct i) (finishes S i)))
  pub arrives : T (each S.settings.n (λ i. each S.settings.n (all_arrived S i)))

pub meets_supposed : (S : System) → Meets S → Supposed S
meets_supposed S M = record {
  tolerance = leb→le (3 * S.settings.t + 1) S.settings.n M.tolerance;
  few = leb→le (count S.settings.n (λ i. not (S.correct (i + 1)))) S.settings.t M.few;
  started = λ i f. eqb→eq (start_of S.settings i S.run (length (S.block i))).number 0 (at_correct S (starts S) M.started i f);
  finished = λ i f. eqb→eq (length (calls_of S i)) (last S) (at_correct S (finishes S) M.finished i f);
  arrives = λ i j c f g least most.
      same_eq (slot_of (call S j (c + 1)).lent.inbox (round_layout S.run S.settings.n S.settings.t S.settings.k c) i)
      (slot_of (call S i c).sends (round_layout S.run S.settings.n S.settings.t S.settings.k c) j)
      (passed (arrived S i j c)
      (each_at (last S - 1) (arrived S i j)
      (given_at (S.correct j) (each (last S - 1) (arrived S i j))
      (given_at (S.correct i) (given (S.correct j) (each (last S - 1) (arrived S i j)))
      (each_at S.settings.n (all_arrived S i)
      (each_at S.settings.n (λ i. each S.settings.n (all_arrived S i)) M.arrives i f.least f.most) j g.least g.most)
      f.is) g.is) c least (omega arith)));
}

abbrev pub Step : Type 0
Step = List ℕ × ℕ

unfoldable pub small : List ℕ → Bool
small [] = true
small (x ∷ xs) = both (ltb x 256) (small xs)

pub small_bytes : (xs : List ℕ) → T (small xs) → Bytes xs
unfolding small
small_bytes [] t m = lit< tt
small_bytes (x ∷ xs) t zero = ltb→lt x 256 (both_left (ltb x 256) (small xs) t)
small_bytes (x ∷ xs) t (suc m) = small_bytes xs (both_right (ltb x 256) (small xs) t) m

unfoldable pub smalls : List Step → Bool
smalls [] = true
smalls (s ∷ ss) = both (small s.0) (smalls ss)

unfoldable pub lents : (ss : List Step) → T (smalls ss) → List Lent
unfolding smalls
lents [] t = []
lents (s ∷ ss) t =
    record { inbox = s.0; outbox = replicate s.1 0; inbox-bytes = small_bytes s.0 (both_left (small s.0) (smalls ss) t) }
    ∷ lents ss (both_right (small s.0) (smalls ss) t)

abbrev pub run_number : ℕ
run_number = 0x0102

abbrev pub present : List ℕ → List ℕ
present m = 0x01 ∷ 0x02 ∷ 0x01 ∷ m

abbrev pub late : List ℕ → List ℕ
late m = 0x01 ∷ 0x02 ∷ 0x00 ∷ m

abbrev pub absent : ℕ → List ℕ
absent len = replicate (3 + len) 0

abbrev pub rows : (a b c d : ℕ) → List ℕ
rows a b c d = a ∷ 0 ∷ b ∷ 0 ∷ c ∷ 0 ∷ d ∷ 0 ∷ []

abbrev pub box : (a b c d : List ℕ) → List ℕ
box a b c d = a ++ (b ++ (c ++ d))

unfoldable pub answers : Local → List Lent → List ℕ
answers h [] = []
answers h (l ∷ ls) = (stepped h l).answer.number ∷ answers (left h l) ls
