-- For the contracts of private functions; a reader of the public contracts needs none of it.
-- What the search promises. A graph is given by rows of sets, as `complement` makes them.
--   In s x             x is a member of the set s
--   Edge graph x y     row x of the graph has y
--   Symmetric graph    row x has y where row y has x
--   Joined E S p       p is a pair of S that E joins, the smaller end first
--   Within graph s p   p is a pair of members of the set s that the graph joins, the smaller end first
--   AtMost P b         no matching of pairs that pass P has more than b pairs
--   NoneOfSize P k     none has exactly k
--   FirstOfSize P k M  M is the first in dictionary order of those that have k
--   Closed graph s c   c is a part of s, and nobody in it has a partner in s that is outside
--   Found graph s k m  m is the first matching of k pairs within s
--   Searched ..        what a search for k pairs within s answers: none, or the first one
--   Largest graph s r  r is the first largest matching within s
use Rattle.std.specs.Prelude.{◌≡◌, List, true, ℕ, ◌≤◌, ◌<◌, length, get_or, Option, MatchOption}
use Rattle.bitset.specs.Set.{member}
use Rattle.graph.specs.Pairs.{Pair}
use Rattle.matching.specs.Matching.{IsMatching, NotAfter, FirstLargest}
use Rattle.matching.specs.Answer.{stored}
use Rattle.matching.specs.declared.Matching.{Matching}

abbrev pub In : ℕ → ℕ → Type 0
In s x = member s x ≡ true

abbrev pub Edge : List ℕ → ℕ → ℕ → Type 0
Edge graph x y = In (get_or graph x 0) y

abbrev pub Symmetric : List ℕ → Type 0
Symmetric graph = (x y : ℕ) → Edge graph x y → Edge graph y x

abbrev pub Joined : (ℕ → ℕ → Type 0) → (ℕ → Type 0) → Pair → Type 0
Joined E S p = S p.0 × S p.1 × (p.0 < p.1) × E p.0 p.1

abbrev pub Within : List ℕ → ℕ → Pair → Type 0
Within graph s = Joined (Edge graph) (In s)

unfoldable pub AtMost : (Pair → Type 0) → ℕ → Type 0
AtMost P b = (N : List Pair) → IsMatching P N → length N ≤ b

unfoldable pub NoneOfSize : (Pair → Type 0) → ℕ → Type 0
NoneOfSize P k = (N : List Pair) → IsMatching P N → length N ≡ k → ⊥

pub record FirstOfSize (P : Pair → Type 0) (k : ℕ) (M : List Pair) : Type 0 where
  pub matches : IsMatching P M
  pub size : length M ≡ k
  pub first : (N : List Pair) → IsMatching P N → length N ≡ k → NotAfter M N

pub record Closed (graph : List ℕ) (s c : ℕ) : Type 0 where
  pub part : (x : ℕ) → In c x → In s x
  pub shut : (x y : ℕ) → In c x → In s y → Edge graph x y → In c y

abbrev pub Found : List ℕ → ℕ → ℕ → Matching → Type 0
Found graph s k m = (M : List Pair) × FirstOfSize (Within graph s) k M × (m ≡ stored M)

abbrev pub Searched : List ℕ → ℕ → ℕ → Option Matching → Type 0
Searched graph s k r = MatchOption r (NoneOfSize (Within graph s) k) (Found graph s k)

abbrev pub Largest : List ℕ → ℕ → Matching → Type 0
Largest graph s r = (M : List Pair) × FirstLargest (Within graph s) M × (r ≡ stored M)
