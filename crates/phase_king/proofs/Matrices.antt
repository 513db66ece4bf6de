-- Laws of matrices, and the vote for matrices in message bytes. The main ones: `cell_matrix` (a bit of `matrix_of n f` is what f says),
-- `matrix_ext`, and `phase_bit` (a phase for matrices is a phase for each bit).
use mathlib.Core.Path.{◌≡◌, refl, sym, ap, ap₂, subst, ◌∙◌}
use mathlib.Core.Bool.{Bool, true, false, cond}
use mathlib.Core.List.{List, []}
use Prim.Native.Nat.{ℕ, suc, ◌+◌, ◌^◌, ◌≤◌, ◌<◌}
use native.Mathlib.Omega.{arith}
use borrow.Author.Tests.{le-leb, lt-leb}
use mathlib.Core.Logic.{⊎_elim}
use lib.Dec.{leb, lit<}
use lib.ListN.{length, get_or, replicate}
use Rattle.lists.proofs.Parts.{all_zeros}
use Rattle.lists.proofs.Tests.{cond_yes, cond_no, lt_or_le}
use Rattle.lists.proofs.Fills.{length-filled, get_or-filled, get_or-filled_past, filled_ext}
use Rattle.bitset.specs.Set.{member, set_of, restricted}
use Rattle.bitset.specs.Row.{row_of, rows_of}
use Rattle.bitset.proofs.Laws.{member_over, set_lt, set_lt_16, member-set, set_ext, set_of_members, ext, restrict_lt, member_restrict, row_lt, row_none}
use Rattle.bitset.proofs.Laws.{row_left, row_right, length_rows_few, row_read}
use Rattle.wire.specs.declared.slot.Layout.{Layout}
use Rattle.wire.specs.Slot.{message_of, SameMessages}
use Rattle.phase_king.specs.Bit.{zero_seen, one_seen, held, weak, settled}
use Rattle.phase_king.specs.Matrix.{limit, cell, matrix_of, said, king_says, first_matrix, zeros_of, ones_of, held_of, weak_of, settled_of, seen_message}
use Rattle.phase_king.specs.Vote.{CorrectIndex, Resilient, phase_count, Kings, BitPhase, MatrixPhase, Vote, Agreed}
use Rattle.phase_king.proofs.Bits.{bit_stays, bit_agreement}

-- ---- matrices
pub length_matrix : (n : ℕ) (f : ℕ → ℕ → Bool) → length (matrix_of n f) ≡ 16
unfolding matrix_of
length_matrix n f = length-filled (λ r. set_of n (f r)) n (replicate 16 0)

pub row_matrix : (n : ℕ) (f : ℕ → ℕ → Bool) (r : ℕ) → n ≤ 16 → r < n → get_or (matrix_of n f) r 0 ≡ set_of n (f r)
unfolding matrix_of
row_matrix n f r u l = get_or-filled (λ r. set_of n (f r)) n (replicate 16 0) r 0 l (omega arith)

-- each row is a number of 16 bits
pub matrix_lt : (n : ℕ) (f : ℕ → ℕ → Bool) (r : ℕ) → n ≤ 16 → get_or (matrix_of n f) r 0 < 2 ^ 16
unfolding matrix_of
matrix_lt n f r l =
    ⊎_elim
    (λ (h : r < n). rw (get_or-filled (λ r. set_of n (f r)) n (replicate 16 0) r 0 h (omega arith)) (set_lt_16 n (f r) l))
    (λ (h : n ≤ r). rw (get_or-filled_past (λ r. set_of n (f r)) n (replicate 16 0) r 0 h) (all_zeros (λ x. x < 2 ^ 16) (lit< tt) 16 r))
    (lt_or_le r n)

pub cell_matrix : (n : ℕ) (f : ℕ → ℕ → Bool) (r j : ℕ) → n ≤ 16 → r < n → j < n → cell (matrix_of n f) r j ≡ f r j
cell_matrix n f r j u l h = ap (λ (x : ℕ). member x j) (row_matrix n f r u l) ∙ member-set n (f r) j h

pub matrix_ext : (n : ℕ) (f g : ℕ → ℕ → Bool) → ((r j : ℕ) → r < n → j < n → f r j ≡ g r j) → matrix_of n f ≡ matrix_of n g
unfolding matrix_of
matrix_ext n f g h =
    filled_ext (λ r. set_of n (f r)) (λ r. set_of n (g r)) n (replicate 16 0) (λ r l. set_ext n (f r) (g r) (λ j k. h r j l k))

-- two matrices with the same bits are equal
pub matrix_same : (n : ℕ) (f g : ℕ → ℕ → Bool) (a b : List ℕ) → n ≤ 16 → a ≡ matrix_of n f → b ≡ matrix_of n g
    → ((r j : ℕ) → r < n → j < n → cell a r j ≡ cell b r j) → a ≡ b
matrix_same n f g a b u d e h =
    d
    ∙ matrix_ext n f g (λ r j l k.
    sym (ap (λ (m : List ℕ). cell m r j) d ∙ cell_matrix n f r j u l k) ∙ h r j l k ∙ ap (λ (m : List ℕ). cell m r j) e ∙ cell_matrix n g r j u l k)
    ∙ sym e

-- ---- what a slot says
none_says : (n r j : ℕ) → member (row_of n [] r) j ≡ false
none_says n r j = ap (λ (x : ℕ). member x j) (row_none n r) ∙ member_over 0 0 j (omega arith) (omega arith)

-- an absent slot says 0, and so does an absent king or one whose number is past n
pub said_absent : (inbox : List ℕ) (layout : Layout) (n r j i : ℕ) → message_of inbox layout (i + 1) ≡ [] → said inbox layout n r j i ≡ false
unfolding said
said_absent inbox layout n r j i e = ap (λ (m : List ℕ). member (row_of n m r) j) e ∙ none_says n r j

pub king_absent : (inbox : List ℕ) (layout : Layout) (n king r j : ℕ) → message_of inbox layout king ≡ [] → king_says inbox layout n king r j ≡ false
unfolding king_says
king_absent inbox layout n king r j e =
    ap (λ (m : List ℕ). member (row_of n (cond (leb king n) m []) r) j) e ∙ ap (λ (m : List ℕ). member (row_of n m r) j) (cond_either (leb king n))
    ∙ none_says n r j
  where
    cond_either : (b : Bool) → cond {A = List ℕ} b [] [] ≡ []
    cond_either true = refl
    cond_either false = refl

pub king_past : (inbox : List ℕ) (layout : Layout) (n king r j : ℕ) → n < king → king_says inbox layout n king r j ≡ false
unfolding king_says
king_past inbox layout n king r j l = ap (λ (m : List ℕ). member (row_of n m r) j) (cond_no _ _ _ (lt-leb king n l)) ∙ none_says n r j

-- a row of a matrix that was sent
row_sent : (n : ℕ) (m : List ℕ) (r j : ℕ) → n ≤ 16 → r < n → j < n → member (row_of n (rows_of n m) r) j ≡ cell m r j
row_sent n m r j u l h = ap (λ (x : ℕ). member x j) (row_read n m r u l) ∙ member_restrict (get_or m r 0) n j h

pub said_matrix : (inbox : List ℕ) (layout : Layout) (n i : ℕ) (m : List ℕ) (r j : ℕ) → n ≤ 16 → r < n → j < n
    → message_of inbox layout (i + 1) ≡ rows_of n m → said inbox layout n r j i ≡ cell m r j
unfolding said
said_matrix inbox layout n i m r j u l h e = ap (λ (x : List ℕ). member (row_of n x r) j) e ∙ row_sent n m r j u l h

pub said_zeros : (inbox : List ℕ) (layout : Layout) (n i : ℕ) (zeros ones : List ℕ) (r j : ℕ) → n ≤ 16 → r < n → j < n
    → message_of inbox layout (i + 1) ≡ seen_message n zeros ones → said inbox layout n r j i ≡ cell zeros r j
unfolding said seen_message
said_zeros inbox layout n i zeros ones r j u l h e =
    ap (λ (x : List ℕ). member (row_of n x r) j) e
    ∙ ap (λ (x : ℕ). member x j) (row_left n (rows_of n zeros) (rows_of n ones) r (omega (arith, length_rows_few n zeros u)))
    ∙ row_sent n zeros r j u l h

pub said_ones : (inbox : List ℕ) (layout : Layout) (n i : ℕ) (zeros ones : List ℕ) (r j : ℕ) → n ≤ 16 → r < n → j < n
    → message_of inbox layout (i + 1) ≡ seen_message n zeros ones → said inbox layout n (n + r) j i ≡ cell ones r j
unfolding said seen_message
said_ones inbox layout n i zeros ones r j u l h e =
    ap (λ (x : List ℕ). member (row_of n x (n + r)) j) e
    ∙ ap (λ (x : ℕ). member x j) (row_right n (rows_of n zeros) (rows_of n ones) n r (length_rows_few n zeros u))
    ∙ row_sent n ones r j u l h

pub king_matrix : (inbox : List ℕ) (layout : Layout) (n k : ℕ) (m : List ℕ) (r j : ℕ) → n ≤ 16 → k < n → r < n → j < n
    → message_of inbox layout (k + 1) ≡ rows_of n m → king_says inbox layout n (k + 1) r j ≡ cell m r j
unfolding king_says
king_matrix inbox layout n k m r j u b l h e =
    ap (λ (x : List ℕ). member (row_of n x r) j) (cond_yes _ _ _ (le-leb (k + 1) n (omega arith)) ∙ e) ∙ row_sent n m r j u l h

-- ---- the bits of the matrices that a controller makes
module _ (inbox : List ℕ) (layout : Layout) (n t r j : ℕ) (u : n ≤ 16) (l : r < n) (h : j < n) where
  limited : limit n ≡ n
  limited = omega arith

  pub cell-zeros : cell (zeros_of inbox layout n t) r j ≡ zero_seen n t (said inbox layout n r j)
  unfolding zeros_of
  cell-zeros = rw limited (cell_matrix n (λ r j. zero_seen n t (said inbox layout n r j)) r j u l h)

  pub cell-ones : cell (ones_of inbox layout n t) r j ≡ one_seen n t (said inbox layout n r j)
  unfolding ones_of
  cell-ones = rw limited (cell_matrix n (λ r j. one_seen n t (said inbox layout n r j)) r j u l h)

  pub cell_held : cell (held_of inbox layout n t) r j ≡ held n t (said inbox layout n (n + r) j)
  unfolding held_of
  cell_held = rw limited (cell_matrix n (λ r j. held n t (said inbox layout n (n + r) j)) r j u l h)

  pub cell-weak : cell (weak_of inbox layout n t) r j ≡ weak n t (said inbox layout n r j) (said inbox layout n (n + r) j)
  unfolding weak_of
  cell-weak = rw limited (cell_matrix n (λ r j. weak n t (said inbox layout n r j) (said inbox layout n (n + r) j)) r j u l h)

settled_matrix_lem : (rows weak inbox : List ℕ) (layout : Layout) (n king : ℕ) → n ≤ 16
    → settled_of rows weak inbox layout n king ≡ matrix_of n (λ r j. settled (cell rows r j) (cell weak r j) (king_says inbox layout n king r j))
unfolding settled_of
settled_matrix_lem rows weak inbox layout n king u =
    let e : limit n ≡ n = omega arith in
    rw e

pub cell_settled : (rows weak inbox : List ℕ) (layout : Layout) (n king r j : ℕ) → n ≤ 16 → r < n → j < n
    → cell (settled_of rows weak inbox layout n king) r j ≡ settled (cell rows r j) (cell weak r j) (king_says inbox layout n king r j)
cell_settled rows weak inbox layout n king r j u l h =
    ap (λ (m : List ℕ). cell m r j) (settled_matrix_lem rows weak inbox layout n king u)
    ∙ cell_matrix n (λ r j. settled (cell rows r j) (cell weak r j) (king_says inbox layout n king r j)) r j u l h

-- row r of the first matrix is the row in the message of slot r + 1
pub first_row : (inbox : List ℕ) (layout : Layout) (n r : ℕ) → n ≤ 16 → r < n
    → get_or (first_matrix inbox layout n) r 0 ≡ row_of n (message_of inbox layout (r + 1)) 0
unfolding first_matrix said
first_row inbox layout n r u l =
    let e : limit n ≡ n = omega arith in
    rw e
    (row_matrix n (λ r j. member (row_of n (message_of inbox layout (r + 1)) 0) j) r u l
    ∙ set_of_members n (row_of n (message_of inbox layout (r + 1)) 0) (row_lt n (message_of inbox layout (r + 1)) 0))

-- ---- the vote
module _ (n t : ℕ) (correct : ℕ → Bool) (u : n ≤ 16) where
  -- a phase for matrices is a phase for each bit
  pub phase_bit : (king : ℕ) (before after : ℕ → List ℕ) → MatrixPhase n t correct king before after → (r j : ℕ) → r < n → j < n
      → BitPhase n t correct king (λ i. cell (before i) r j) (λ i. cell (after i) r j)
  phase_bit king before after phase r j l h = record {
    said = λ i. said (phase.in1 i) phase.layout1 n r j;
    zeros = λ i. said (phase.in2 i) phase.layout2 n r j;
    ones = λ i. said (phase.in2 i) phase.layout2 n (n + r) j;
    kings = λ i. king_says (phase.in3 i) phase.layout3 n (king + 1) r j;
    first = λ i k f g. said_matrix (phase.in1 i) phase.layout1 n k (before k) r j u l h (phase.first i k f g);
    second0 = λ i k f g.
        said_zeros (phase.in2 i) phase.layout2 n k (zeros_of (phase.in1 k) phase.layout1 n t) (ones_of (phase.in1 k) phase.layout1 n t) r j u l h
        (phase.second i k f g)
        ∙ cell-zeros (phase.in1 k) phase.layout1 n t r j u l h;
    second1 = λ i k f g.
        said_ones (phase.in2 i) phase.layout2 n k (zeros_of (phase.in1 k) phase.layout1 n t) (ones_of (phase.in1 k) phase.layout1 n t) r j u l h
        (phase.second i k f g)
        ∙ cell-ones (phase.in1 k) phase.layout1 n t r j u l h;
    third = λ i f w.
        king_matrix (phase.in3 i) phase.layout3 n king (held_of (phase.in2 king) phase.layout2 n t) r j u w.0 l h (phase.third i f w)
        ∙ cell_held (phase.in2 king) phase.layout2 n t r j u l h;
    result = λ i f.
        ap (λ (m : List ℕ). cell m r j) (phase.result i f)
        ∙ cell_settled (held_of (phase.in2 i) phase.layout2 n t) (weak_of (phase.in2 i) phase.layout2 n t) (phase.in3 i) phase.layout3 n
        (king + 1) r j u l h
        ∙ ap₂ (λ (x y : Bool). settled x y (king_says (phase.in3 i) phase.layout3 n (king + 1) r j))
        (cell_held (phase.in2 i) phase.layout2 n t r j u l h) (cell-weak (phase.in2 i) phase.layout2 n t r j u l h);
  }

  module _ (system : Resilient n t correct) (king : ℕ → ℕ) (kings : Kings n t king) (rows : ℕ → ℕ → List ℕ) (phases : Vote n t correct king rows) where
    bit_phases : (r j : ℕ) → r < n → j < n → (p : ℕ) → p < phase_count t
        → BitPhase n t correct (king p) (λ i. cell (rows p i) r j) (λ i. cell (rows (suc p) i) r j)
    bit_phases r j l h p b = phase_bit (king p) (rows p) (rows (suc p)) (phases p b) r j l h

    bit_kept : (r j : ℕ) (b : Bool) → r < n → j < n → ((i : ℕ) → CorrectIndex n correct i → cell (rows 0 i) r j ≡ b)
        → (i : ℕ) → CorrectIndex n correct i → cell (rows (phase_count t) i) r j ≡ b
    bit_kept r j b l h e =
        bit_stays n t correct system king kings (λ p i. cell (rows p i) r j) (bit_phases r j l h) b 0 (phase_count t) e (omega arith) (omega arith)

    -- the last matrix is one of n rows and n bits
    last : (i : ℕ) → CorrectIndex n correct i → (f : ℕ → ℕ → Bool) × (rows (phase_count t) i ≡ matrix_of n f)
    last i f =
        let phase = phases t (omega arith) in (
          _,
          phase.result i f ∙ settled_matrix_lem (held_of (phase.in2 i) phase.layout2 n t) (weak_of (phase.in2 i) phase.layout2 n t) (phase.in3 i)
              phase.layout3 n (king t + 1) u,
        )

    pub agreed : Agreed n t correct rows
    agreed = record {
      same = λ i k f g.
          matrix_same n (last i f).0 (last k g).0 (rows (phase_count t) i) (rows (phase_count t) k) u (last i f).1 (last k g).1
          (λ r j l h. bit_agreement n t correct system king kings (λ p m. cell (rows p m) r j) (bit_phases r j l h) i k f g);
      bit_kept = bit_kept;
      row_kept = λ r x l e i f.
          let whole : get_or (rows (phase_count t) i) r 0 ≡ set_of n ((last i f).0 r) =
          ap (λ (m : List ℕ). get_or m r 0) (last i f).1 ∙ row_matrix n (last i f).0 r u l in
          ext n (get_or (rows (phase_count t) i) r 0) (restricted x n)
          (subst (λ (y : ℕ). y < 2 ^ n) (sym whole) (set_lt n ((last i f).0 r))) (restrict_lt x n)
          (λ j h. bit_kept r j (member x j) l h (λ k g. ap (λ (y : ℕ). member y j) (e k g)) i f ∙ sym (member_restrict x n j h));
    }

-- ---- inboxes with one message in each slot
module _ (layout : Layout) (inbox other : List ℕ) (h : SameMessages layout inbox other) where
  said_same : (n : ℕ) → said inbox layout n ≡ said other layout n
  unfolding said
  said_same n = λ x r j i. member (row_of n (h (i + 1) x) r) j

  pub first_same : (n : ℕ) → first_matrix inbox layout n ≡ first_matrix other layout n
  unfolding first_matrix
  first_same n = λ x. matrix_of (limit n) (λ r j. said_same (limit n) x 0 j r)

  pub zeros_same : (n t : ℕ) → zeros_of inbox layout n t ≡ zeros_of other layout n t
  unfolding zeros_of
  zeros_same n t = λ x. matrix_of (limit n) (λ r j. zero_seen (limit n) t (said_same (limit n) x r j))

  pub ones_same : (n t : ℕ) → ones_of inbox layout n t ≡ ones_of other layout n t
  unfolding ones_of
  ones_same n t = λ x. matrix_of (limit n) (λ r j. one_seen (limit n) t (said_same (limit n) x r j))

  pub held_same : (n t : ℕ) → held_of inbox layout n t ≡ held_of other layout n t
  unfolding held_of
  held_same n t = λ x. matrix_of (limit n) (λ r j. held (limit n) t (said_same (limit n) x (limit n + r) j))

  pub weak_same : (n t : ℕ) → weak_of inbox layout n t ≡ weak_of other layout n t
  unfolding weak_of
  weak_same n t = λ x. matrix_of (limit n) (λ r j. weak (limit n) t (said_same (limit n) x r j) (said_same (limit n) x (limit n + r) j))

  pub settled_same : (rows low : List ℕ) (n king : ℕ) → settled_of rows low inbox layout n king ≡ settled_of rows low other layout n king
  unfolding settled_of king_says
  settled_same rows low n king =
      λ x.
      matrix_of (limit n)
      (λ r j. settled (cell rows r j) (cell low r j) (member (row_of (limit n) (cond (leb king (limit n)) (h king x) []) r) j))
