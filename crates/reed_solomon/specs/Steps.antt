-- For the contracts of private functions; a reader of the public contracts needs none of it.
-- The rule for one stripe, at a list of points:
--   points n layout slots           the points that are read: the numbers of the present slots, rising
--   column layout slots s xs        the values received at the points xs
--   values_at m xs                  the values of the polynomial m at the points xs
--   differences xs ys m             at how many of the points xs the message m does not take the value that ys has
--   unequal a b, different xs ys m  the marks of the places at which a and b differ; of those of the points xs
--   is_right t xs ys m              the rule, for the values ys at the points xs
--   NoneRight t xs ys               no bytes are right
--   Pointed t xs                    xs are points of controllers, rising, enough for t + 1 bytes and not too many
--   Settled t xs ys found m         m are right where something is found; where nothing is, no bytes are
--   Listed n layout slots count xs  the first count of xs are the points
-- Bytes column by column:
--   every w l j n          n bytes of l, every w-th from byte j on
--   transposed h w l       the bytes of l, which has h rows of w bytes, column by column
--   row_values k t cols x  the values at x of k polynomials of t + 1 coefficients that stand in cols column by column
-- A block beside the slots:
--   counted m piece counts                                   1 added to each count at which the message m has another byte than piece
--   Compared n t layout slots block named counts             the marks of the slots that are named, and how many present values differ in each stripe
--   RightUpTo right k from wrong                             the stripes from `from` on are right up to the one that is wrong, and all k where none is
--   FirstWrong t present counts from wrong                   by the counts they are
--   Checked n t layout slots present block from named wrong  the marks of the slots that are named, and the stripes from `from` on are right up to a wrong one
--   Lent n t layout slots xs                                 xs are the points of the present slots, enough for t + 1 bytes
--   Mended t layout slots xs s found before after            where something is found, the bytes of stripe s of the block after the call are right, and the
--                                                            stripes before it stay; where nothing is, no bytes of stripe s are right
--   Rebuilds n t layout slots named block                    the block that meets the rule, with its marks; without marks, none meets it
use Rattle.std.specs.Prelude.{◌≡◌, Bool, true, false, not, List, ℕ, ◌+◌, ◌*◌, ◌≤◌, ◌<◌, eqb, leb, length, get_or, take, Option, MatchOption}
use Rattle.lists.specs.Sum.{count, ind}
use Rattle.lists.specs.Fill.{tabulate, filled}
use Rattle.lists.specs.Join.{joined}
use Rattle.lists.specs.Select.{selected, Rising}
use Rattle.bitset.specs.Set.{set_of}
use Rattle.settings.specs.Valid.{Coded}
use Rattle.wire.specs.declared.slot.Layout.{Layout}
use Rattle.polynomial.specs.Polynomial.{evaluate, Bytes}
use Rattle.reed_solomon.specs.Encode.{stripe}
use Rattle.reed_solomon.specs.Decode.{has_piece, received, differing, Decodes, named_of}

unfoldable pub points : ℕ → Layout → List ℕ → List ℕ
points n layout slots = selected (has_piece layout slots) n

unfoldable pub column : Layout → List ℕ → ℕ → List ℕ → List ℕ
column layout slots s xs = tabulate (λ i. received layout slots s (get_or xs i 0)) (length xs)

unfoldable pub values_at : List ℕ → List ℕ → List ℕ
values_at m xs = tabulate (λ i. evaluate m (get_or xs i 0)) (length xs)

unfoldable pub differences : List ℕ → List ℕ → List ℕ → ℕ
differences xs ys m = count (length xs) (λ i. not (eqb (evaluate m (get_or xs i 0)) (get_or ys i 0)))

unfoldable pub unequal : List ℕ → List ℕ → ℕ
unequal a b = set_of (length a) (λ i. not (eqb (get_or a i 0) (get_or b i 0)))

unfoldable pub different : List ℕ → List ℕ → List ℕ → ℕ
different xs ys m = unequal (values_at m xs) ys

abbrev pub is_right : ℕ → List ℕ → List ℕ → List ℕ → Bool
is_right t xs ys m = leb (2 * differences xs ys m + t + 1) (length xs)

abbrev pub NoneRight : ℕ → List ℕ → List ℕ → Type 0
NoneRight t xs ys = (m : List ℕ) → Bytes m → length m ≡ t + 1 → is_right t xs ys m ≡ false

pub record Pointed (t : ℕ) (xs : List ℕ) : Type 0 where
  pub rising : Rising 16 xs
  pub many : t + 1 ≤ length xs
  pub few : length xs ≤ 16
  pub few-faulty : t ≤ 5

abbrev pub Settled : {A : Type 0} → ℕ → List ℕ → List ℕ → Option A → List ℕ → Type 0
Settled t xs ys found m = MatchOption found (NoneRight t xs ys) (λ _. is_right t xs ys m ≡ true)

pub record Listed (n : ℕ) (layout : Layout) (slots : List ℕ) (count : ℕ) (xs : List ℕ) : Type 0 where
  pub size : count ≡ length (points n layout slots)
  pub are : take count xs ≡ points n layout slots

unfoldable pub every : ℕ → List ℕ → ℕ → ℕ → List ℕ
every w l j n = tabulate (λ s. get_or l (s * w + j) 0) n

unfoldable pub transposed : (h w : ℕ) → List ℕ → List ℕ
transposed h w l = joined (λ j. every w l j h) w

unfoldable pub row_values : (k t : ℕ) → List ℕ → ℕ → List ℕ
row_values k t cols x = tabulate (λ s. evaluate (every k cols s (t + 1)) x) k

unfoldable pub counted : List ℕ → List ℕ → List ℕ → List ℕ
counted m piece counts = filled (λ s. get_or counts s 0 + ind (not (eqb (get_or piece s 0) (get_or m s 0)))) (length m) counts

pub record Compared (n t : ℕ) (layout : Layout) (slots block : List ℕ) (named : ℕ) (counts : List ℕ) : Type 0 where
  pub named_are : named ≡ named_of n t layout slots block
  pub counts_are : counts ≡ tabulate (λ s. differing n layout slots s (stripe t block s)) layout.length

abbrev pub RightUpTo : (ℕ → Type 0) → (k from : ℕ) → Option ℕ → Type 0
RightUpTo right k from wrong =
    MatchOption wrong ((i : ℕ) → from ≤ i → i < k → right i) (λ s. (from ≤ s) × (s < k) × ((i : ℕ) → from ≤ i → i < s → right i))

abbrev pub FirstWrong : (t present : ℕ) → List ℕ → ℕ → Option ℕ → Type 0
FirstWrong t present counts from wrong = RightUpTo (λ i. 2 * get_or counts i 0 + t + 1 ≤ present) (length counts) from wrong

pub record Checked (n t : ℕ) (layout : Layout) (slots : List ℕ) (present : ℕ) (block : List ℕ) (from named : ℕ) (wrong : Option ℕ) : Type 0 where
  pub named_are : named ≡ named_of n t layout slots block
  pub right : RightUpTo (λ i. 2 * differing n layout slots i (stripe t block i) + t + 1 ≤ present) layout.length from wrong

pub record Lent (n t : ℕ) (layout : Layout) (slots xs : List ℕ) : Type 0 where
  pub coded : Coded n t layout.length
  pub are : xs ≡ points n layout slots
  pub pointed : Pointed t xs

abbrev pub Mended : {A : Type 0} → ℕ → Layout → (slots xs : List ℕ) → ℕ → Option A → (before after : List ℕ) → Type 0
Mended t layout slots xs s found before after =
    MatchOption found (NoneRight t xs (column layout slots s xs))
    (λ _.
    (is_right t xs (column layout slots s xs) (stripe t after s) ≡ true)
    × (take (s * (t + 1)) after ≡ take (s * (t + 1)) before))

abbrev pub Rebuilds : (n t : ℕ) → Layout → List ℕ → Option ℕ → List ℕ → Type 0
Rebuilds n t layout slots named block =
    MatchOption named ((B : List ℕ) → Decodes n t layout slots B → ⊥)
    (λ x. Decodes n t layout slots block × (x ≡ named_of n t layout slots block))
