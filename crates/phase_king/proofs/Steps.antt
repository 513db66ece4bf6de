-- What the functions' proofs cite: counts, and that the private functions' results are the matrices of the definitions.
use mathlib.Core.Path.{◌≡◌, sym, ap, ap₂, ◌∙◌}
use mathlib.Core.Bool.{Bool, not, cond}
use mathlib.Core.List.{List}
use Prim.Native.Nat.{ℕ, ◌+◌, ◌-◌, ◌≤◌, ◌<◌}
use native.Mathlib.Omega.{arith}
use lib.Dec.{leb, ltb}
use lib.ListN.{replicate}
use Rattle.lists.specs.Sum.{count}
use Rattle.lists.proofs.Sums.{count_ext, count-not}
use Rattle.lists.specs.Fill.{filled}
use Rattle.lists.proofs.Fills.{get_or-filled, filled_ext}
use Rattle.bitset.specs.Set.{member, set_of}
use Rattle.bitset.specs.Row.{row_of}
use Rattle.bitset.proofs.Laws.{set_of_members, row_lt}
use Rattle.wire.specs.declared.slot.Layout.{Layout}
use Rattle.wire.specs.Slot.{message_of}
use Rattle.phase_king.specs.Bit.{zero_seen, one_seen, held, support, weak}
use Rattle.phase_king.specs.Matrix.{limit, cell, matrix_of, said, king_says, first_matrix}
use Rattle.phase_king.specs.Steps.{said_rows, king_row, IsMatrixOf}

-- those who don't say 1 say 0
pub zero_seen_is : (n t : ℕ) (p : ℕ → Bool) (c : ℕ) → c ≡ count n p → leb (n - t) (n - c) ≡ zero_seen n t p
unfolding zero_seen
zero_seen_is n t p c e = ap (leb (n - t)) (omega (arith, count-not n p))

-- what the slots' rows have
cell_said : (inbox : List ℕ) (layout : Layout) (n r j i : ℕ) → n ≤ 16 → i < n → cell (said_rows inbox layout n r) i j ≡ said inbox layout n r j i
unfolding said_rows said
cell_said inbox layout n r j i u l =
    ap (λ (x : ℕ). member x j) (get_or-filled (λ i. row_of n (message_of inbox layout (i + 1)) r) n (replicate 16 0) i 0 l (omega arith))

count_said : (inbox : List ℕ) (layout : Layout) (n r j : ℕ) → n ≤ 16 → count n (λ i. cell (said_rows inbox layout n r) i j) ≡ count n (said inbox layout n r j)
count_said inbox layout n r j u = count_ext n (λ i. cell (said_rows inbox layout n r) i j) (said inbox layout n r j) (λ i l. cell_said inbox layout n r j i u l)

count_unsaid : (inbox : List ℕ) (layout : Layout) (n r j : ℕ) → n ≤ 16
    → count n (λ i. not (cell (said_rows inbox layout n r) i j)) ≡ count n (λ i. not (said inbox layout n r j i))
count_unsaid inbox layout n r j u =
    count_ext n (λ i. not (cell (said_rows inbox layout n r) i j)) (λ i. not (said inbox layout n r j i)) (λ i l. ap not (cell_said inbox layout n r j i u l))

-- the first matrix is row 0 of each message
pub first_rows : (inbox : List ℕ) (layout : Layout) (n : ℕ) → said_rows inbox layout (limit n) 0 ≡ first_matrix inbox layout n
unfolding said_rows first_matrix matrix_of said
first_rows inbox layout n =
    filled_ext (λ i. row_of (limit n) (message_of inbox layout (i + 1)) 0) (λ i. set_of (limit n) (member (row_of (limit n) (message_of inbox layout (i + 1)) 0)))
    (limit n) (replicate 16 0)
    (λ i l. sym (set_of_members (limit n) (row_of (limit n) (message_of inbox layout (i + 1)) 0) (row_lt (limit n) (message_of inbox layout (i + 1)) 0)))

-- the bits of a row, from what the slots say
module _ (rows inbox : List ℕ) (layout : Layout) (n r t j : ℕ) (few : n ≤ 16) (heard : rows ≡ said_rows inbox layout n r) where
  pub count_heard : count n (λ i. cell rows i j) ≡ count n (said inbox layout n r j)
  count_heard = ap (λ (m : List ℕ). count n (λ i. cell m i j)) heard ∙ count_said inbox layout n r j few

  pub zero_heard : zero_seen n t (λ i. cell rows i j) ≡ zero_seen n t (said inbox layout n r j)
  unfolding zero_seen
  zero_heard = ap (leb (n - t)) (ap (λ (m : List ℕ). count n (λ i. not (cell m i j))) heard ∙ count_unsaid inbox layout n r j few)

  pub one_heard : one_seen n t (λ i. cell rows i j) ≡ one_seen n t (said inbox layout n r j)
  unfolding one_seen
  one_heard = ap (leb (n - t)) count_heard

  pub held_heard : held n t (λ i. cell rows i j) ≡ held n t (said inbox layout n r j)
  unfolding held
  held_heard = ap (ltb t) count_heard

pub weak_heard : (zeros ones inbox : List ℕ) (layout : Layout) (n r q t j : ℕ) → n ≤ 16 → zeros ≡ said_rows inbox layout n r → ones ≡ said_rows inbox layout n q
    → weak n t (λ i. cell zeros i j) (λ i. cell ones i j) ≡ weak n t (said inbox layout n r j) (said inbox layout n q j)
unfolding weak support held
weak_heard zeros ones inbox layout n r q t j few e f =
    ap₂ (λ (z o : ℕ). ltb (cond (ltb t o) o z) (n - t)) (count_heard zeros inbox layout n r t j few e) (count_heard ones inbox layout n q t j few f)

pub king_heard : (says : ℕ) (inbox : List ℕ) (layout : Layout) (n king r j : ℕ) → says ≡ king_row inbox layout n king r
    → member says j ≡ king_says inbox layout n king r j
unfolding king_row king_says
king_heard says inbox layout n king r j e = ap (λ (x : ℕ). member x j) e

-- what is made of the inbox with n cut off at 16 is made of the inbox that was given
carried : {A : Type 0} (f : List ℕ → Layout → ℕ → A) {box inbox : List ℕ} {made layout : Layout} {m : ℕ} (n : ℕ)
    → (box ≡ inbox) × (made ≡ layout) × (m ≡ limit n) → f box made m ≡ f inbox layout (limit n)
carried f {box} {inbox} {made} {layout} {m} n e =
    ap (λ b. f b made m) e.0 ∙ ap (λ l. f inbox l m) e.1 ∙ ap (f inbox layout) e.2

pub is_collected : {box inbox : List ℕ} {made layout : Layout} {m : ℕ} (n : ℕ) (rows : List ℕ) → (box ≡ inbox) × (made ≡ layout) × (m ≡ limit n)
    → rows ≡ said_rows box made m 0 → rows ≡ first_matrix inbox layout n
is_collected {inbox = inbox} {layout = layout} n rows e h = h ∙ carried (λ b l x. said_rows b l x 0) n e ∙ first_rows inbox layout n

pub is_matrix : (answer : ℕ → ℕ → Type 0) (bits : List ℕ → Layout → ℕ → ℕ → ℕ → Bool) {box inbox : List ℕ} {made layout : Layout} {m : ℕ} (n : ℕ)
    (rows : List ℕ) → (box ≡ inbox) × (made ≡ layout) × (m ≡ limit n) → IsMatrixOf answer m rows
    → ((r x : ℕ) → r < m → answer r x → x ≡ set_of m (bits box made m r)) → rows ≡ matrix_of (limit n) (bits inbox layout (limit n))
unfolding matrix_of
is_matrix answer bits {box} {inbox} {made} {layout} {m} n rows e is h =
    is (λ r. set_of m (bits box made m r)) h ∙ carried (λ b l x. filled (λ r. set_of x (bits b l x r)) x (replicate 16 0)) n e
