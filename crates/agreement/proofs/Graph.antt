-- What the proof uses of the star: `Graph`. A change of the graph's representation touches `graph_laws` and what it cites, and nothing else here.
use mathlib.Core.Path.{◌≡◌}
use mathlib.Core.Logic.{◌⊎◌}
use mathlib.Core.Bool.{Bool, true, not}
use mathlib.Core.List.{List}
use Prim.Native.Nat.{ℕ, ◌+◌, ◌*◌, ◌^◌, ◌≤◌, ◌<◌}
use native.Mathlib.Omega.{arith}
use Rattle.std.proofs.lemmas.Grind.{common_steps}
use lib.ListN.{get_or}
use Rattle.lists.specs.Sum.{count}
use Rattle.lists.proofs.Tests.{same_or_not}
use Rattle.lists.proofs.Sums.{count-not}
use Rattle.bitset.specs.Set.{member}
use Rattle.settings.specs.Valid.{Quorum}
use Rattle.graph.specs.Neighbour.{neighbour}
use Rattle.graph.proofs.Laws.{neighbour_self, neighbour_other}
use Rattle.star.specs.Star.{refusal_for}
use Rattle.star.proofs.Laws.{e-below, e_size, not_found, no_sets_lem, clique_core, one_word}
use Rattle.protocol.specs.Calls.{core_of}

pub record Graph (rows : List ℕ) (n t : ℕ) : Type 0 where
  -- neighbours are the same or mark each other
  pub near_marks : (i j : ℕ) → neighbour rows i j ≡ true → (i ≡ j) ⊎ ((member (get_or rows i 0) j ≡ true) × (member (get_or rows j 0) i ≡ true))
  pub marks_near : (i j : ℕ) → member (get_or rows i 0) j ≡ true → member (get_or rows j 0) i ≡ true → neighbour rows i j ≡ true
  -- the core is a set of controllers; where it is not empty it has at least 2t + 1 members
  pub core_lt : core_of rows n t < 2 ^ n
  pub core_size : (core_of rows n t ≡ 0 → ⊥) → 2 * t + 1 ≤ count n (member (core_of rows n t))
  -- a clique of at least n - t is in the core
  pub clique_in : (H : ℕ → Bool) → ((x y : ℕ) → x < n → y < n → H x ≡ true → H y ≡ true → neighbour rows x y ≡ true) → n ≤ count n H + t
      → (x : ℕ) → x < n → H x ≡ true → member (core_of rows n t) x ≡ true
  -- Lemma 22 of source 001: the good members of the core hold one word
  pub one_word : (G : ℕ → Bool) → count n (λ x. not (G x)) ≤ t → (word : ℕ → ℕ → List ℕ)
      → ((i j : ℕ) → i < n → j < n → G i ≡ true → G j ≡ true → (Q : ℕ → Bool) → t + 1 ≤ count n Q
      → ((x : ℕ) → x < n → Q x ≡ true → word i x ≡ word j x) → (x : ℕ) → x < n → word i x ≡ word j x)
      → ((i j : ℕ) → i < n → j < n → G i ≡ true → G j ≡ true → neighbour rows i j ≡ true → word i j ≡ word j j)
      → (a b : ℕ) → a < n → b < n → G a ≡ true → G b ≡ true → member (core_of rows n t) a ≡ true → member (core_of rows n t) b ≡ true
      → (x : ℕ) → x < n → word a x ≡ word b x

pub graph_laws : (n t : ℕ) → Quorum n t → (rows : List ℕ) → Graph rows n t
graph_laws n t q rows = record {
  near_marks = λ i j y. grind (arith, common_steps, same_or_not i j, neighbour_other rows i j);
  marks_near = λ i j a b. grind (arith, common_steps, same_or_not i j, neighbour_self rows i, neighbour_other rows i j);
  core_lt = e-below rows n t;
  core_size = λ z. grind (arith, common_steps, e_size rows n t, not_found rows n t, no_sets_lem (refusal_for n t));
  clique_in = λ H clique many. clique_core rows n t q H clique many;
  one_word = λ G few word code near a b la lb ga gb ma mb.
      one_word rows n t G (omega (arith, few, count-not n G)) (List ℕ) word code near a b ma mb ga gb;
}
