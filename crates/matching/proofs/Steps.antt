-- The loops of the search, each by a record that its turns keep: `Growing` (a component), `Halving` (components one by one),
-- `Shrinking` (members taken out), and the search itself, `Trying` (partners one by one).
use mathlib.Core.Path.{◌≡◌, sym, ap, subst, ◌∙◌}
use mathlib.Core.Logic.{⊎_elim}
use mathlib.Core.List.{List, [], ◌∷◌}
use mathlib.Core.Bool.{true, false}
use Rattle.std.specs.Prelude.{Option, Some, None}
use Prim.Native.Nat.{ℕ, suc, ◌+◌, ◌-◌, ◌*◌, ◌/◌, ◌^◌, ◌≤◌, ◌<◌}
use native.Mathlib.Omega.{arith}
use lib.ListN.{length, get_or, set}
use Rattle.lists.specs.Sum.{count}
use Rattle.lists.proofs.Tests.{true≢false, bool_ext, same_or_not}
use Rattle.lists.proofs.Sums.{count_le, below_suc}
use Rattle.bitset.specs.Set.{member, size_of, inserted, removed, intersection, difference, union, lowest_of}
use Rattle.bitset.proofs.Laws.{size_le, size_below, size_remove, insert_lt, remove_lt, lowest_member, lowest_least, none_in_0}
use Rattle.bitset.proofs.Laws.{intersection_lt, difference_lt}
use Rattle.graph.specs.Pairs.{Pair}
use Rattle.matching.specs.Steps.{In, Edge, Symmetric, Joined, Within, AtMost, NoneOfSize, FirstOfSize, Closed, Found, Searched, Largest}
use Rattle.matching.specs.Answer.{slots, stored}
use Rattle.matching.specs.declared.Matching.{Matching}
use Rattle.matching.proofs.Sets.{in_lt, not_in, in_intersection, intersection_in, difference_in, in_union, union_left, union_right, in_remove}
use Rattle.matching.proofs.Sets.{remove_in, in_single, single_in, difference_fewer}
use Rattle.matching.proofs.Pairs.{widen, each_map, two_each}
use Rattle.matching.proofs.Sizes.{Minus, same_first, same_none, first_zero, none_empty, joined-map, step_found, step_drop, step_none, fewer}
use Rattle.matching.proofs.Sizes.{at_most_empty, take_out, split_off}

one_more : (k : ℕ) → 1 ≤ k → suc (k - 1) ≡ k
one_more k h = omega arith

plus-zero : (b : ℕ) → b ≡ b + 0
plus-zero b = omega arith

-- x is the least member of s
abbrev pub Least : ℕ → ℕ → Type 0
Least s x = (x ≡ lowest_of s) × (x < 16)

pub least_in : (s x : ℕ) → Least s x → In s x
least_in s x l = subst (In s) (sym l.0) (lowest_member s (omega (arith, l.0, l.1)))

-- ---- a component: c is reached, the partners of those outside `unseen` are in it
pub record Growing (graph : List ℕ) (s v c unseen next : ℕ) : Type 0 where
  pub has : In c v
  pub part : (x : ℕ) → In c x → In s x
  pub seen : (x y : ℕ) → In s x → (In unseen x → ⊥) → In s y → Edge graph x y → In c y
  pub next_out : (x : ℕ) → In next x → In c x × In unseen x
  pub next_in : (x : ℕ) → In c x → In unseen x → In next x
  pub next_small : next < 2 ^ 16

module _ (graph : List ℕ) (s v : ℕ) (hs : s < 2 ^ 16) where
  pub grow_start : (c : ℕ) → In s v → c ≡ inserted 0 v → Growing graph s v c s c
  grow_start c sv e =
      let at : (x : ℕ) → In c x → x ≡ v = λ x a. in_single v x (subst (λ (z : ℕ). In z x) e a) in
      let part : (x : ℕ) → In c x → In s x = λ x a. subst (In s) (sym (at x a)) sv in
      record {
        has = subst (λ (z : ℕ). In z v) (sym e) (single_in v (in_lt s v hs sv));
        part = part;
        seen = λ x y sx n. absurd (n sx);
        next_out = λ x a. (a, part x a);
        next_in = λ x a b. a;
        next_small = subst (λ (z : ℕ). z < 2 ^ 16) (sym e) (insert_lt 0 v);
      }

  pub grow_more : (c unseen next x d c' unseen' next' : ℕ) → Growing graph s v c unseen next → Least next x → unseen' ≡ removed unseen x
      → d ≡ intersection (get_or graph x 0) s → c' ≡ union c d → next' ≡ intersection c' unseen' → Growing graph s v c' unseen' next'
  grow_more c unseen next x d c' unseen' next' g l eu ed ec en =
      let low : In c x = (g.next_out x (least_in next x l)).0 in
      let grown : (y : ℕ) → In c y → In c' y = λ y a. subst (λ (z : ℕ). In z y) (sym ec) (union_left c d y (in_lt s y hs (g.part y a)) a) in
      let part : (y : ℕ) → In c' y → In s y = λ y a. ⊎_elim (g.part y) (λ b. (in_intersection (get_or graph x 0) s y (subst (λ (z : ℕ). In z y) ed b)).1)
      (in_union c d y (subst (λ (z : ℕ). In z y) ec a)) in
      record {
        has = grown v g.has;
        part = part;
        seen = λ y z sy n sz e. ⊎_elim
            (λ q. subst (λ (a : ℕ). In a z) (sym ec) (union_right c d z (in_lt s z hs sz)
            (subst (λ (a : ℕ). In a z) (sym ed) (intersection_in (get_or graph x 0) s z (in_lt s z hs sz) (subst (λ (a : ℕ). Edge graph a z) q e) sz))))
            (λ q. grown z (g.seen y z sy (λ u. n (subst (λ (a : ℕ). In a y) (sym eu) (remove_in unseen x y (in_lt s y hs sy) u q))) sz e))
            (same_or_not y x);
        next_out = λ y a. in_intersection c' unseen' y (subst (λ (z : ℕ). In z y) en a);
        next_in = λ y a b. subst (λ (z : ℕ). In z y) (sym en) (intersection_in c' unseen' y (in_lt s y hs (part y a)) a b);
        next_small = subst (λ (z : ℕ). z < 2 ^ 16) (sym en) (intersection_lt c' unseen');
      }

  pub grow_less : (c unseen next x unseen' : ℕ) → Growing graph s v c unseen next → Least next x → unseen' ≡ removed unseen x
      → size_of unseen' < size_of unseen
  grow_less c unseen next x unseen' g l eu = omega (arith, size_remove unseen x l.1 (g.next_out x (least_in next x l)).1, ap size_of eu)

  pub grow_done : (c unseen next : ℕ) → Growing graph s v c unseen next → next ≡ 0 → Closed graph s c
  grow_done c unseen next g e =
      record {
        part = g.part;
        shut = λ x y cx sy d. g.seen x y (g.part x cx) (λ u. none_in_0 x (subst (λ (z : ℕ). In z x) e (g.next_in x cx u))) sy d;
      }

-- ---- components one by one: a bound for those that are left is one for all
pub record Halving (graph : List ℕ) (s left sum : ℕ) : Type 0 where
  pub bound : (b : ℕ) → AtMost (Within graph left) b → AtMost (Within graph s) (b + sum)
  pub small : left < 2 ^ 16
  pub fits : sum + 8 * size_of left ≤ 128

module _ (graph : List ℕ) (both : Symmetric graph) (s : ℕ) where
  pub halve_start : s < 2 ^ 16 → Halving graph s s 0
  halve_start h = record { bound = λ b a. subst (AtMost (Within graph s)) (plus-zero b) a; small = h; fits = omega (arith, size_le s) }

  module _ (left sum v c : ℕ) (g : Halving graph s left sum) (l : Least left v) (has : In c v) (q : Closed graph left c) (hc : c < 2 ^ 16) where
    pub halve_less : size_of (difference left c) < size_of left
    halve_less = difference_fewer left c v g.small (least_in left v l) has

    -- the component, then the rest
    part_bound : (b : ℕ) → AtMost (Within graph (difference left c)) b → AtMost (Within graph left) (b + size_of c / 2)
    unfolding AtMost
    part_bound b a =
        split_off (Edge graph) (In left) 16 (member c) b (size_of c / 2) (λ x h. in_lt left x g.small h)
        (λ x y hx hy e. bool_ext (member c x) (member c y) (λ m. q.shut x y m hy e) (λ m. q.shut y x m hx (both x y e)))
        (omega (arith, size_below 16 c (omega arith) hc))
        (λ N m. a N (widen (joined-map (Edge graph) (λ x. In left x × (member c x ≡ false)) (In (difference left c))
        (λ x h. difference_in left c x (in_lt left x g.small h.0) h.0 (not_in c x h.1))) N m))

    pub halve_more : (left' sum' : ℕ) → left' ≡ difference left c → sum' ≡ sum + size_of c / 2 → Halving graph s left' sum'
    halve_more left' sum' el es =
        record {
          bound = λ b a. subst (AtMost (Within graph s)) (shift b)
              (g.bound (b + size_of c / 2) (part_bound b (subst (λ (z : ℕ). AtMost (Within graph z) b) el a)));
          small = subst (λ (z : ℕ). z < 2 ^ 16) (sym el) (difference_lt left c);
          fits = omega (arith, g.fits, halve_less, ap size_of el, size_le c);
        }
      where
        shift : (b : ℕ) → b + size_of c / 2 + sum ≡ b + sum'
        shift b = omega arith

  pub halve_done : (left sum : ℕ) → Halving graph s left sum → left ≡ 0 → (sum ≤ 128) × AtMost (Within graph s) sum
  halve_done left sum g e = (
    omega (arith, g.fits),
    subst (AtMost (Within graph s)) (zero-plus sum) (g.bound 0 (at_most_empty (Edge graph) (In left) (λ x a. none_in_0 x (subst (λ (z : ℕ). In z x) e a)))),
  )
    where
      zero-plus : (b : ℕ) → 0 + b ≡ b
      zero-plus b = omega arith

-- ---- members taken out: x of them
pub record Shrinking (graph : List ℕ) (s left x : ℕ) : Type 0 where
  pub bound : (b : ℕ) → AtMost (Within graph left) b → AtMost (Within graph s) (b + x)
  pub small : left < 2 ^ 16

module _ (graph : List ℕ) (s : ℕ) where
  pub shrink_start : s < 2 ^ 16 → Shrinking graph s s 0
  shrink_start h = record { bound = λ b a. subst (AtMost (Within graph s)) (plus-zero b) a; small = h }

  pub shrink_more : (left x y left' : ℕ) → Shrinking graph s left x → left' ≡ removed left y → Shrinking graph s left' (x + 1)
  unfolding AtMost
  shrink_more left x y left' g e =
      record {
        bound = λ b a. subst (AtMost (Within graph s)) (shift b) (g.bound (b + 1) (take_out (Edge graph) (In left) y b
            (λ N m. a N (widen (joined-map (Edge graph) (λ z. In left z × (z ≡ y → ⊥)) (In left')
            (λ z h. subst (λ (d : ℕ). In d z) (sym e) (remove_in left y z (in_lt left z g.small h.0) h.0 h.1))) N m))));
        small = subst (λ (z : ℕ). z < 2 ^ 16) (sym e) (remove_lt left y);
      }
    where
      shift : (b : ℕ) → b + 1 + x ≡ b + (x + 1)
      shift b = omega arith

  pub shrink_short : (left x k h : ℕ) → Shrinking graph s left x → AtMost (Within graph left) h → h + x < k → NoneOfSize (Within graph s) k
  unfolding AtMost NoneOfSize
  shrink_short left x k h g a l N m e = omega (arith, g.bound h a N m)

-- ---- the search for k pairs within s: of the partners of the least member v those below w are tried
pub record Trying (graph : List ℕ) (s k v rest partners w : ℕ) : Type 0 where
  pub has : In s v
  pub least : (x : ℕ) → In s x → v ≤ x
  pub low : v < 16
  pub rest_is : rest ≡ removed s v
  pub partners_are : partners ≡ intersection (get_or graph v 0) rest
  pub some : 1 ≤ k
  pub few : k ≤ 8
  pub tried : (x : ℕ) → x < w → v < x → In s x → Edge graph v x → NoneOfSize (Joined (Edge graph) (Minus (Minus (In s) v) x)) (k - 1)

-- the ways out before the search
pub found_zero : (graph : List ℕ) (s k : ℕ) (m : Matching) → k ≡ 0 → m ≡ stored [] → Found graph s k m
found_zero graph s k m e em = ([], subst (λ (x : ℕ). FirstOfSize (Within graph s) x []) (sym e) (first_zero (Within graph s)), em)

pub none_in_empty : (graph : List ℕ) (s k : ℕ) → s ≡ 0 → (k ≡ 0 → ⊥) → NoneOfSize (Within graph s) k
none_in_empty graph s k e n =
    subst (NoneOfSize (Within graph s)) (one_more k (omega arith)) (none_empty (Edge graph) (In s) (k - 1) (λ x a. none_in_0 x (subst (λ (z : ℕ). In z x) e a)))

pub try_start : (graph : List ℕ) (s k v rest partners : ℕ) → Least s v → (k ≡ 0 → ⊥) → k ≤ 8 → rest ≡ removed s v
    → partners ≡ intersection (get_or graph v 0) rest → Trying graph s k v rest partners 0
try_start graph s k v rest partners l nk hk er ep =
    record {
      has = least_in s v l;
      least = λ x a. omega (arith, l.0, lowest_least s x a);
      low = l.1;
      rest_is = er;
      partners_are = ep;
      some = omega arith;
      few = hk;
      tried = λ x l g a e. absurd (omega arith);
    }

module _ (graph : List ℕ) (s k v rest partners w : ℕ) (hs : s < 2 ^ 16) (g : Trying graph s k v rest partners w) where
  rest_in : (x : ℕ) → In s x → (x ≡ v → ⊥) → In rest x
  rest_in x a n = subst (λ (z : ℕ). In z x) (sym g.rest_is) (remove_in s v x (in_lt s x hs a) a n)

  in_rest : (x : ℕ) → In rest x → In s x × (x ≡ v → ⊥)
  in_rest x a = in_remove s v x (subst (λ (z : ℕ). In z x) g.rest_is a)

  -- all partners are tried
  module _ (end : 16 ≤ w) where
    all : (x : ℕ) → v < x → In s v → In s x → Edge graph v x → NoneOfSize (Joined (Edge graph) (Minus (Minus (In s) v) x)) (k - 1)
    all x b _ a e = g.tried x (omega (arith, in_lt s x hs a)) b a e

    out : (p : Pair) → Within graph rest p → Joined (Edge graph) (Minus (In s) v) p
    out = joined-map (Edge graph) (In rest) (Minus (In s) v) in_rest

    back : (p : Pair) → Joined (Edge graph) (Minus (In s) v) p → Within graph rest p
    back = joined-map (Edge graph) (Minus (In s) v) (In rest) (λ x a. rest_in x a.0 a.1)

    drop : (M : List Pair) → FirstOfSize (Within graph rest) k M → FirstOfSize (Within graph s) k M
    drop M r =
        subst (λ (x : ℕ). FirstOfSize (Within graph rest) x M → FirstOfSize (Within graph s) x M) (one_more k g.some)
        (λ z. step_drop (Edge graph) (In s) v g.least (k - 1) all M
        (same_first (Within graph rest) (Joined (Edge graph) (Minus (In s) v)) out back (suc (k - 1)) M z)) r

    gone : NoneOfSize (Within graph rest) k → NoneOfSize (Within graph s) k
    gone r =
        subst (λ (x : ℕ). NoneOfSize (Within graph rest) x → NoneOfSize (Within graph s) x) (one_more k g.some)
        (λ z. step_none (Edge graph) (In s) v g.least (k - 1) all
        (same_none (Within graph rest) (Joined (Edge graph) (Minus (In s) v)) out back (suc (k - 1)) z)) r

    pub try_drop : (r : Option Matching) → Searched graph rest k r → Searched graph s k r
    try_drop None q = gone q
    try_drop (Some m) q = (q.0, drop q.0 q.1, q.2)

  -- the set is smaller at each call
  pub try_rest_less : size_of rest < size_of s
  try_rest_less = omega (arith, size_remove s v g.low g.has, ap size_of g.rest_is)

  -- one more is tried
  pub try_next : (member partners w ≡ true → NoneOfSize (Joined (Edge graph) (Minus (Minus (In s) v) w)) (k - 1)) → Trying graph s k v rest partners (w + 1)
  try_next h =
      record {
        has = g.has;
        least = g.least;
        low = g.low;
        rest_is = g.rest_is;
        partners_are = g.partners_are;
        some = g.some;
        few = g.few;
        tried = λ x l b a e. ⊎_elim
            (λ i. subst (λ (y : ℕ). NoneOfSize (Joined (Edge graph) (Minus (Minus (In s) v) y)) (k - 1)) (sym i) (h (subst (In partners) i (partner x b a e))))
            (λ u. g.tried x u b a e)
            (below_suc (below x l));
      }
    where
      below : (x : ℕ) → x < w + 1 → x < suc w
      below x l = omega arith

      partner : (x : ℕ) → v < x → In s x → Edge graph v x → In partners x
      partner x b a e =
          subst (λ (z : ℕ). In z x) (sym g.partners_are)
          (intersection_in (get_or graph v 0) rest x (in_lt s x hs a) e (rest_in x a (λ q. omega arith)))

  pub try_skip : member partners w ≡ false → Trying graph s k v rest partners (w + 1)
  try_skip f = try_next (λ t. absurd (true≢false (sym t ∙ f)))

  -- w is a partner
  module _ (is : member partners w ≡ true) where
    both : Edge graph v w × In rest w
    both = in_intersection (get_or graph v 0) rest w (subst (λ (z : ℕ). In z w) g.partners_are is)

    module _ (r : ℕ) (er : r ≡ removed rest w) where
      pub try_less : size_of r < size_of s
      try_less = omega (arith, size_remove rest w (in_lt s w hs (in_rest w both.1).0) both.1, ap size_of er, try_rest_less)

      -- who is left without v and w
      to : (p : Pair) → Within graph r p → Joined (Edge graph) (Minus (Minus (In s) v) w) p
      to =
          joined-map (Edge graph) (In r) (Minus (Minus (In s) v) w)
          (λ x a. let q = in_remove rest w x (subst (λ (z : ℕ). In z x) er a) in (in_rest x q.0, q.1))

      from : (p : Pair) → Joined (Edge graph) (Minus (Minus (In s) v) w) p → Within graph r p
      from =
          joined-map (Edge graph) (Minus (Minus (In s) v) w) (In r)
          (λ x a. subst (λ (z : ℕ). In z x) (sym er) (remove_in rest w x (in_lt s x hs a.0.0) (rest_in x a.0.0 a.0.1) a.1))

      -- with w the others have too few pairs
      pub try_fail : NoneOfSize (Within graph r) (k - 1) → Trying graph s k v rest partners (w + 1)
      try_fail q = try_next (λ _. same_none (Within graph r) (Joined (Edge graph) (Minus (Minus (In s) v) w)) to from (k - 1) q)

      -- with w the others have k - 1 pairs
      module _ (m : Matching) (q : Found graph r (k - 1) m) where
        pub found-count : m.count ≡ k - 1
        unfolding stored
        found-count = ap (λ (x : Matching). x.count) q.2 ∙ q.1.size

        pub try_found : (m' : Matching) → (m'.count ≡ m.count + 1) × (m'.pairs ≡ set m.pairs m.count (v, w)) → Found graph s k m'
        unfolding stored slots
        try_found m' e =
            let sw = in_rest w both.1 in
            let first : FirstOfSize (Within graph s) (suc (k - 1)) ((v, w) ∷ q.0) =
            step_found (Edge graph) (In s) v g.least (k - 1) w q.0 g.has sw.0 (omega (arith, g.least w sw.0, sw.1)) both.0
            (λ x l. g.tried x l)
            (same_first (Within graph r) (Joined (Edge graph) (Minus (Minus (In s) v) w)) to from (k - 1) q.0 q.1) in (
              (v, w) ∷ q.0,
              subst (λ (x : ℕ). FirstOfSize (Within graph s) x ((v, w) ∷ q.0)) (one_more k g.some) first,
              (let ec : m'.count ≡ suc (length q.0) = e.0 ∙ ap (λ (x : Matching). x.count + 1) q.2 ∙ plus-one (length q.0) in
                  let ep : m'.pairs ≡ set (slots q.0) (length q.0) (v, w) = e.1 ∙ ap (λ (x : Matching). set x.pairs x.count (v, w)) q.2 in
                  λ i. record { count = ec i; pairs = ep i }),
            )
          where
            plus-one : (b : ℕ) → b + 1 ≡ suc b
            plus-one b = omega arith

-- ---- sizes from the largest down
pub at_most_8 : (graph : List ℕ) (s : ℕ) → s < 2 ^ 16 → AtMost (Within graph s) 8
unfolding AtMost
at_most_8 graph s h N m =
    let two : 2 * length N ≤ count 16 (member s) =
    two_each 16 (member s) N m.1 (each_map (λ p j. (in_lt s p.0 h j.0, in_lt s p.1 h j.1, j.0, j.1, λ e. omega (arith, j.2))) N m.0) in
    omega (arith, count_le 16 (member s))

pub at_most_less : (graph : List ℕ) (s k : ℕ) → 0 < k → AtMost (Within graph s) k → NoneOfSize (Within graph s) k → AtMost (Within graph s) (k - 1)
at_most_less graph s k p h q =
    let i = sym (one_more k (omega arith)) in
    fewer (Within graph s) (k - 1) (subst (AtMost (Within graph s)) i h) (subst (NoneOfSize (Within graph s)) i q)

pub largest-found : (graph : List ℕ) (s k : ℕ) (m : Matching) → AtMost (Within graph s) k → Found graph s k m → Largest graph s m
unfolding AtMost
largest-found graph s k m h q =
    let f = q.1 in (
      q.0,
      record { matches = f.matches; largest = λ N n. omega (arith, h N n, f.size); first = λ N n l. f.first N n (l ∙ f.size) },
      q.2,
    )

pub largest_none : (graph : List ℕ) (s : ℕ) (m : Matching) → AtMost (Within graph s) 0 → m ≡ stored [] → Largest graph s m
unfolding AtMost
largest_none graph s m h e = ([], record { matches = (tt, tt); largest = h; first = λ N n l. tt }, e)
