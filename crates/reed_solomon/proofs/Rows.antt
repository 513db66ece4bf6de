-- Laws of bytes laid out column by column. The main ones: `rows_step`, a step of Horner's rule for many polynomials, said of columns by `row_step` and of
-- a block's stripes by `piece_step`; `row_piece`, the values of the rows of a block that was transposed are its piece.
use mathlib.Core.Path.{◌≡◌, refl, sym, ap, ap₂, ◌∙◌}
use mathlib.Core.List.{List}
use mathlib.Core.Logic.{⊎_elim}
use Prim.Native.Nat.{ℕ, zero, suc, ◌+◌, ◌*◌, ◌≤◌, ◌<◌}
use native.Mathlib.Nat.{zero-mul, suc-mul, mul_comm}
use native.Mathlib.Numerals.{add-one}
use native.Mathlib.Omega.{arith}
use lib.ListN.{length, get_or, take, drop, length-drop, get_or-eq_default}
use lib.Seq.{get_or-take, get_or-drop}
use Rattle.lists.specs.Fill.{tabulate}
use Rattle.lists.specs.Join.{joined}
use Rattle.lists.proofs.Tests.{lt_or_le}
use Rattle.lists.proofs.Fills.{length-tabulate, get_or-tabulate, tabulate_ext, tabulate-get_or}
use Rattle.lists.proofs.Parts.{slot_within, next_offset}
use Rattle.lists.proofs.Joins.{part_joined, get_or_part, part_given, part_take}
use Rattle.gf256.specs.Field.{gadd, gmul}
use Rattle.gf256.proofs.Laws.{gadd-zero_r, gmul-zero_r}
use Rattle.polynomial.specs.Polynomial.{evaluate, horner, Bytes}
use Rattle.polynomial.proofs.Laws.{evaluate-horner, horner-drop, horner_end}
use Rattle.reed_solomon.specs.Encode.{stripe, piece_of}
use Rattle.reed_solomon.specs.Steps.{every, transposed, row_values}
use Rattle.reed_solomon.proofs.Stripes.{length-stripe, bytes-stripe}

-- ---- one column
pub length-every : (w : ℕ) (l : List ℕ) (j n : ℕ) → length (every w l j n) ≡ n
unfolding every
length-every w l j n = length-tabulate (λ s. get_or l (s * w + j) 0) n

pub get_or-every : (w : ℕ) (l : List ℕ) (j n i : ℕ) → i < n → get_or (every w l j n) i 0 ≡ get_or l (i * w + j) 0
unfolding every
get_or-every w l j n i h = get_or-tabulate (λ s. get_or l (s * w + j) 0) n i 0 h

pub bytes-every : (w : ℕ) (l : List ℕ) (j n : ℕ) → Bytes l → Bytes (every w l j n)
bytes-every w l j n b i =
    ⊎_elim
    (λ (h : i < n). omega (arith, get_or-every w l j n i h, b (i * w + j)))
    (λ (h : n ≤ i). omega (arith, get_or-eq_default (every w l j n) 0 {n = i} (omega (arith, length-every w l j n))))
    (lt_or_le i n)

-- column j of w columns of h bytes lies within
pub column-within : (h w j n : ℕ) → j < w → n ≡ h * w → j * h + h ≤ n
column-within h w j n g e = omega (arith, slot_within w h j g, mul_comm w h)

-- ---- offsets that are multiples
pub multiple_less : (j a r : ℕ) → a ≡ j * r → 0 < a → (i : ℕ) × (j ≡ i + 1) × (a ≡ i * r + r)
multiple_less zero a r e h = absurd (omega (arith, zero-mul r))
multiple_less (suc i) a r e h = (i, sym (add-one i), e ∙ suc-mul i r)

pub multiple_zero : (j r : ℕ) → 1 ≤ r → j * r ≡ 0 → j ≡ 0
multiple_zero zero r h e = refl
multiple_zero (suc i) r h e = absurd (omega (arith, suc-mul i r))

-- ---- the values at x of the polynomials row 0, .., row (k - 1), by their coefficients from j on
module _ (k : ℕ) (row : ℕ → List ℕ) (x : ℕ) where
  unfoldable pub rows_from : ℕ → List ℕ
  rows_from j = tabulate (λ s. horner (drop j (row s)) x) k

  pub length_rows : (j : ℕ) → length (rows_from j) ≡ k
  unfolding rows_from
  length_rows j = length-tabulate (λ s. horner (drop j (row s)) x) k

  -- the last coefficients alone, which are l
  pub rows_end : (t : ℕ) (l : List ℕ) → length l ≡ k → ((s : ℕ) → s < k → (length (row s) ≡ t + 1) × (get_or l s 0 ≡ get_or (row s) t 0)) → l ≡ rows_from t
  unfolding rows_from
  rows_end t l size is =
      sym (tabulate-get_or l 0)
      ∙ ap (tabulate (λ s. get_or l s 0)) size
      ∙ tabulate_ext (λ s. get_or l s 0) (λ s. horner (drop t (row s)) x) k
      (λ s h.
      let q = row s in
      let e = (is s h).0 in
      let none : horner (drop (t + 1) q) x ≡ 0 = ap (λ n. horner (drop n q) x) (sym e) ∙ horner_end q x in
      (is s h).1
      ∙ sym (gadd-zero_r (get_or q t 0))
      ∙ ap (gadd (get_or q t 0)) (sym (ap (gmul x) none ∙ gmul-zero_r x))
      ∙ sym (horner-drop q x t (omega (arith, e))))

  -- one coefficient of each more, which are l
  pub rows_step : (j : ℕ) (l p : List ℕ) → ((s : ℕ) → s < k → (j < length (row s)) × (get_or l s 0 ≡ get_or (row s) j 0)) → p ≡ rows_from (j + 1)
      → tabulate (λ s. gadd (get_or l s 0) (gmul x (get_or p s 0))) (length p) ≡ rows_from j
  unfolding rows_from
  rows_step j l p is e =
      let f : ℕ → ℕ = λ s. gadd (get_or l s 0) (gmul x (get_or p s 0)) in
      ap (tabulate f) (ap length e ∙ length_rows (j + 1))
      ∙ tabulate_ext f (λ s. horner (drop j (row s)) x) k
      (λ s h.
      ap₂ (λ (u v : ℕ). gadd u (gmul x v)) (is s h).1
      (ap (λ (l : List ℕ). get_or l s 0) e ∙ get_or-tabulate (λ s. horner (drop (j + 1) (row s)) x) k s 0 h)
      ∙ sym (horner-drop (row s) x j (is s h).0))

  pub rows_all : ((s : ℕ) → Bytes (row s)) → rows_from 0 ≡ tabulate (λ s. evaluate (row s) x) k
  unfolding rows_from
  rows_all b = tabulate_ext (λ s. horner (row s) x) (λ s. evaluate (row s) x) k (λ s h. sym (evaluate-horner (row s) x (b s)))

-- ---- the same of polynomials that stand in columns
module _ (k t : ℕ) (cols : List ℕ) (x : ℕ) where
  abbrev pub standing : ℕ → List ℕ
  standing s = every k cols s (t + 1)

  -- the last column alone
  pub row_end : length cols ≡ k * (t + 1) → drop (t * k) cols ≡ rows_from k standing x t
  row_end e =
      rows_end k standing x t (drop (t * k) cols) (omega (arith, length-drop (t * k) cols, next_offset t k, mul_comm k (t + 1)))
      (λ s h. (length-every k cols s (t + 1), get_or-drop (t * k) cols s 0 ∙ sym (get_or-every k cols s (t + 1) t (omega arith))))

  -- one column more, at the front; it stands at a
  pub row_step : (j a n : ℕ) (p : List ℕ) → j ≤ t → a ≡ j * k → n ≡ k → p ≡ rows_from k standing x (j + 1)
      → tabulate (λ s. gadd (get_or (take n (drop a cols)) s 0) (gmul x (get_or p s 0))) (length p) ≡ rows_from k standing x j
  row_step j a n p g ea en e =
      rows_step k standing x j (take n (drop a cols)) p
      (λ s h. (
        omega (arith, length-every k cols s (t + 1)),
        get_or-take n (drop a cols) s 0 (omega arith) ∙ get_or-drop a cols s 0 ∙ ap (λ (m : ℕ). get_or cols (m + s) 0) ea
            ∙ sym (get_or-every k cols s (t + 1) j (omega arith)),
      ))
      e

  pub row_all : Bytes cols → rows_from k standing x 0 ≡ row_values k t cols x
  unfolding row_values
  row_all b = rows_all k standing x (λ s. bytes-every k cols s (t + 1) b)

-- ---- the same of the stripes of a block
module _ (k t : ℕ) (block : List ℕ) (x : ℕ) (size : length block ≡ k * (t + 1)) where
  -- byte s of column j of a block is byte j of stripe s
  column-stripe : (j : ℕ) → j ≤ t → (s : ℕ) → s < k → get_or (every (t + 1) block j k) s 0 ≡ get_or (stripe t block s) j 0
  unfolding stripe
  column-stripe j g s h =
      get_or-every (t + 1) block j k s h
      ∙ sym (get_or-take (t + 1) (drop (s * (t + 1)) block) j 0 (omega arith) ∙ get_or-drop (s * (t + 1)) block j 0)

  pub piece_end : every (t + 1) block t k ≡ rows_from k (stripe t block) x t
  piece_end =
      rows_end k (stripe t block) x t (every (t + 1) block t k) (length-every (t + 1) block t k)
      (λ s h. (length-stripe k t block s size h, column-stripe t (omega arith) s h))

  pub piece_step : (j : ℕ) (l p : List ℕ) → j < t → l ≡ every (t + 1) block j k → p ≡ rows_from k (stripe t block) x (j + 1)
      → tabulate (λ s. gadd (get_or l s 0) (gmul x (get_or p s 0))) (length p) ≡ rows_from k (stripe t block) x j
  piece_step j l p g is e =
      rows_step k (stripe t block) x j l p
      (λ s h. (omega (arith, length-stripe k t block s size h), ap (λ (q : List ℕ). get_or q s 0) is ∙ column-stripe j (omega arith) s h)) e

  pub piece_all : Bytes block → rows_from k (stripe t block) x 0 ≡ piece_of k t block x
  unfolding piece_of
  piece_all b = rows_all k (stripe t block) x (λ s. bytes-stripe t block s b)

-- ---- a block that was transposed: its rows are the stripes
module _ (k t : ℕ) (block : List ℕ) (e : length block ≡ k * (t + 1)) where
  pub every-stripe : (s : ℕ) → s < k → every k (transposed k (t + 1) block) s (t + 1) ≡ stripe t block s
  unfolding transposed stripe every
  every-stripe s h =
      let w = t + 1 in
      let f : ℕ → List ℕ = λ j. every w block j k in
      let cols = joined f w in
      tabulate_ext (λ j. get_or cols (j * k + s) 0) (λ j. get_or block (s * w + j) 0) w
      (λ j g.
      sym (get_or_part k cols j s h) ∙ ap (λ (l : List ℕ). get_or l s 0) (part_joined k f w (λ i _. length-every w block i k) j g)
      ∙ get_or-every w block j k s h)
      ∙ sym (part_given w block k s h (omega arith)) ∙ part_take w block s

  pub row_piece : (x : ℕ) → row_values k t (transposed k (t + 1) block) x ≡ piece_of k t block x
  unfolding row_values piece_of
  row_piece x =
      tabulate_ext (λ s. evaluate (every k (transposed k (t + 1) block) s (t + 1)) x) (λ s. evaluate (stripe t block s) x) k
      (λ s h. ap (λ (l : List ℕ). evaluate l x) (every-stripe s h))
