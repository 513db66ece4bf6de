-- A largest matching of non-neighbours cannot be made longer. The main laws: `no_free_pair` (two unmatched are neighbours) and
-- `no_augmenting` (the ends of one pair do not have two different unmatched non-neighbours). Then `pigeonhole`: where each member
-- of a set has a pair and no two have the same, there are no more members than pairs.
use mathlib.Core.Path.{◌≡◌, refl, sym, ap, subst, ◌∙◌}
use mathlib.Core.Logic.{◌⊎◌, inl, inr, ⊎_elim}
use mathlib.Core.List.{List, [], ◌∷◌}
use mathlib.Core.Bool.{Bool, true, false, not, ◌&&◌, ◌||◌, cond}
use Prim.Native.Nat.{ℕ, suc, ◌≤◌, ◌<◌}
use native.Mathlib.Omega.{arith}
use borrow.Author.Tests.{eq-eqb, eqb-true, eqb-false, ltb-true, ltb-false, not-true}
use lib.Dec.{eqb, ltb}
use lib.ListN.{length}
use Rattle.lists.specs.Sum.{count}
use Rattle.lists.proofs.Tests.{true≢false, fails, and_left, and_right, or_cases, or_left, or_right, or_neither}
use Rattle.lists.proofs.Sums.{count_none, count_split, count_once, count_one}
use Rattle.graph.specs.Pairs.{Pair, Before}
use Rattle.matching.specs.Matching.{Each, Disjoint, Rising, IsMatching, FirstLargest, Missing, any_pair, is_end, matched}
use Rattle.matching.proofs.Pairs.{tri, each_map, each_both, disjoint_sym, widen, keep, keep_matching, keep_split, one_each}

-- ---- one of the pairs
abbrev pub Among : Pair → List Pair → Type 0
Among p [] = ⊥
Among p (q ∷ M) = (p ≡ q) ⊎ Among p M

pub each_among : (P : Pair → Type 0) (M : List Pair) (p : Pair) → Each P M → Among p M → P p
each_among P [] p h i = absurd i
each_among P (q ∷ M) p h i = ⊎_elim (λ e. subst P (sym e) h.0) (λ j. each_among P M p h.1 j) i

pub any_in : (R : Pair → Bool) (M : List Pair) → any_pair R M ≡ true → (p : Pair) × Among p M × (R p ≡ true)
any_in R [] e = absurd (true≢false (sym e))
any_in R (q ∷ M) e = ⊎_elim (λ r. (q, inl refl, r)) (λ r. let s = any_in R M r in (s.0, inr s.1, s.2)) (or_cases (R q) (any_pair R M) e)

pub any_of : (R : Pair → Bool) (M : List Pair) (p : Pair) → Among p M → R p ≡ true → any_pair R M ≡ true
any_of R [] p i r = absurd i
any_of R (q ∷ M) p i r =
    ⊎_elim (λ e. or_left (R q) (any_pair R M) (subst (λ (x : Pair). R x ≡ true) e r)) (λ j. or_right (R q) (any_pair R M) (any_of R M p j r)) i

pub ends_of : (p : Pair) (x : ℕ) → is_end x p ≡ true → (x ≡ p.0) ⊎ (x ≡ p.1)
ends_of p x e = ⊎_elim (λ f. inl (eqb-true x p.0 f)) (λ f. inr (eqb-true x p.1 f)) (or_cases (eqb x p.0) (eqb x p.1) e)

pub end_small : (p : Pair) → is_end p.0 p ≡ true
end_small p = or_left (eqb p.0 p.0) (eqb p.0 p.1) (eq-eqb p.0 p.0 refl)

pub end_large : (p : Pair) → is_end p.1 p ≡ true
end_large p = or_right (eqb p.1 p.0) (eqb p.1 p.1) (eq-eqb p.1 p.1 refl)

pub matched_none : (x : ℕ) → matched [] x ≡ false
unfolding matched
matched_none x = refl

pub matched-cons : (p : Pair) (M : List Pair) (x : ℕ) → matched (p ∷ M) x ≡ (is_end x p || matched M x)
unfolding matched
matched-cons p M x = refl

pub matched_in : (M : List Pair) (x : ℕ) → matched M x ≡ true → (p : Pair) × Among p M × (is_end x p ≡ true)
unfolding matched
matched_in M x e = any_in (is_end x) M e

pub matched_of : (M : List Pair) (x : ℕ) (p : Pair) → Among p M → is_end x p ≡ true → matched M x ≡ true
unfolding matched
matched_of M x p i e = any_of (is_end x) M p i e

-- x is no end of the pair
abbrev Avoids : ℕ → Pair → Type 0
Avoids x q = (x ≡ q.0 → ⊥) × (x ≡ q.1 → ⊥)

avoids : (x : ℕ) (q : Pair) → is_end x q ≡ false → Avoids x q
avoids x q e = let n = or_neither (eqb x q.0) (eqb x q.1) e in (eqb-false x q.0 n.0, eqb-false x q.1 n.1)

free : (M : List Pair) (x : ℕ) → matched M x ≡ false → Each (Avoids x) M
unfolding matched
free [] x e = tt
free (q ∷ M) x e = let n = or_neither (is_end x q) (any_pair (is_end x) M) e in (avoids x q n.0, free M x n.1)

-- the other pairs of a matching share no end with p
others : (M : List Pair) (p : Pair) → Among p M → Rising M → Each (λ q. Disjoint p q ⊎ (p ≡ q)) M
others [] p i r = tt
others (q ∷ M) p i r =
    ⊎_elim
    (λ e. (inr e, each_map (λ x d. inl (subst (λ (y : Pair). Disjoint y x) (sym e) d)) M r.1))
    (λ j. (inl (disjoint_sym q p (each_among (Disjoint q) M p r.1 j)), others M p j r.2))
    i

-- ---- a pair more, at its place
unfoldable ins : Pair → List Pair → List Pair
ins p [] = p ∷ []
ins p (q ∷ M) = cond (ltb p.0 q.0) (p ∷ q ∷ M) (q ∷ ins p M)

ins_each : (P : Pair → Type 0) (p : Pair) (M : List Pair) → P p → Each P M → Each P (ins p M)
unfolding ins
ins_each P p [] a h = (a, tt)
ins_each P p (q ∷ M) a h = go (ltb p.0 q.0) (ins_each P p M a h.1)
  where
    go : (b : Bool) → Each P (ins p M) → Each P (cond b (p ∷ q ∷ M) (q ∷ ins p M))
    go true r = (a, h)
    go false r = (h.0, r)

ins_length : (p : Pair) (M : List Pair) → length (ins p M) ≡ suc (length M)
unfolding ins
ins_length p [] = refl
ins_length p (q ∷ M) = go (ltb p.0 q.0) (ins_length p M)
  where
    go : (b : Bool) → length (ins p M) ≡ suc (length M) → length (cond b (p ∷ q ∷ M) (q ∷ ins p M)) ≡ suc (suc (length M))
    go true e = refl
    go false e = ap suc e

ins_rising : (p : Pair) (M : List Pair) → Each (Disjoint p) M → Rising M → Rising (ins p M)
unfolding ins
ins_rising p [] d r = (tt, tt, tt)
ins_rising p (q ∷ M) d r = go (ltb p.0 q.0) refl (ins_rising p M d.1 r.2)
  where
    go : (b : Bool) → ltb p.0 q.0 ≡ b → Rising (ins p M) → Rising (cond b (p ∷ q ∷ M) (q ∷ ins p M))
    go true e h =
        let l = ltb-true p.0 q.0 e in
        ((inl l, each_map (λ x b. inl (⊎_elim (λ y. omega arith) (λ y. omega (arith, y.0)) b)) M r.0), d, r)
    go false e h =
        let l : q.0 < p.0 = omega (arith, ltb-false p.0 q.0 e, d.0.0) in
        (ins_each (Before q) p M (inl l) r.0, ins_each (Disjoint q) p M (disjoint_sym p q d.0) r.1, h)

module _ (n : ℕ) (adj : ℕ → ℕ → Bool) (turn : (a b : ℕ) → adj a b ≡ adj b a) where
  -- two that are not neighbours as a pair, the smaller first
  pair_up : (u w : ℕ) → u < n → w < n → (u ≡ w → ⊥) → adj u w ≡ false
      → (p : Pair) × Missing n adj p × ((q : Pair) → Avoids u q → Avoids w q → Disjoint p q) × ((x : ℕ) → (x ≡ u → ⊥) → (x ≡ w → ⊥) → Avoids x p)
  pair_up u w lu lw ne e =
      ⊎_elim
      (λ l. ((u, w), (l, lw, e), (λ q a b. (a.0, a.1, b.0, b.1)), λ x a b. (a, b)))
      (⊎_elim
      (λ q. absurd (ne q))
      (λ l. ((w, u), (l, lu, turn w u ∙ e), (λ q a b. (b.0, b.1, a.0, a.1)), λ x a b. (b, a))))
      (tri u w)

  module _ (M : List Pair) (big : FirstLargest (Missing n adj) M) where
    pub pair_at : (p : Pair) → Among p M → Missing n adj p
    pair_at p i = each_among (Missing n adj) M p big.matches.0 i

    pub matched_lt : (x : ℕ) → matched M x ≡ true → x < n
    matched_lt x e =
        let r = matched_in M x e in
        let m = pair_at r.0 r.1 in
        ⊎_elim (λ (f : x ≡ r.0.0). omega (arith, m.0, m.1)) (λ (f : x ≡ r.0.1). omega (arith, m.1)) (ends_of r.0 x r.2)

    pub no_free_pair : (u w : ℕ) → u < n → w < n → (u ≡ w → ⊥) → matched M u ≡ false → matched M w ≡ false → adj u w ≡ false → ⊥
    no_free_pair u w lu lw ne nu nw e =
        let p = pair_up u w lu lw ne e in
        let N = ins p.0 M in
        let m : IsMatching (Missing n adj) N = (
          ins_each (Missing n adj) p.0 M p.1 big.matches.0,
          ins_rising p.0 M (each_both (λ q a b. p.2 q a b) M (free M u nu) (free M w nw)) big.matches.1,
        ) in
        omega (arith, big.largest N m, ins_length p.0 M)

    pub no_augmenting : (p : Pair) (c d : ℕ) → Among p M → c < n → d < n → (c ≡ d → ⊥) → matched M c ≡ false → matched M d ≡ false
        → adj c p.0 ≡ false → adj d p.1 ≡ false → ⊥
    no_augmenting p c d i lc ld ne nc nd ec ed =
        let a = p.0 in
        let b = p.1 in
        let mp = pair_at p i in
        let la : a < n = omega (arith, mp.0, mp.1) in
        let yes-a : matched M a ≡ true = matched_of M a p i (end_small p) in
        let yes-b : matched M b ≡ true = matched_of M b p i (end_large p) in
        let apart : (x y : ℕ) → matched M x ≡ false → matched M y ≡ true → x ≡ y
        → ⊥ = λ x y f t e. true≢false (sym t ∙ subst (λ (z : ℕ). matched M z ≡ false) e f) in
        let gone : Pair → Bool = λ q. is_end a q in
        let rest = keep (λ q. not (gone q)) M in
        let lost : Each (λ q. Avoids c q × Avoids d q) M = each_both (λ q x y. (x, y)) M (free M c nc) (free M d nd) in
        let apart-p : Each (λ q. Disjoint p q ⊎ (p ≡ q)) M = others M p i big.matches.1 in
        let known : Each (λ q. (Disjoint p q ⊎ (p ≡ q)) × (Avoids c q × Avoids d q)) M = each_both (λ q x y. (x, y)) M apart-p lost in
        let all : Each (λ q. Missing n adj q × (Disjoint p q ⊎ (p ≡ q)) × (Avoids c q × Avoids d q)) M = each_both
        {Q = λ q. (Disjoint p q ⊎ (p ≡ q)) × (Avoids c q × Avoids d q)} (λ q x y. (x, y.0, y.1)) M big.matches.0 known in
        -- the matching without p
        let kept : IsMatching (λ q. Missing n adj q × Disjoint p q × Avoids c q × Avoids d q) rest =
        widen (λ q h. (
          h.0.0,
          ⊎_elim (λ z. z)
              (λ z. absurd (true≢false (sym (subst (λ (y : Pair). is_end a y ≡ true) z (end_small p)) ∙ not-true (gone q) h.1)))
              h.0.1,
          h.0.2.0,
          h.0.2.1,
        )) rest
        (keep_matching (λ q. not (gone q)) (λ q. Missing n adj q × (Disjoint p q ⊎ (p ≡ q)) × (Avoids c q × Avoids d q)) M (all, big.matches.1)) in
        let few : length (keep gone M) ≤ count (suc a) (λ x. eqb x a) =
        one_each (suc a) (λ x. eqb x a) (keep gone M) (keep_matching gone (Missing n adj) M big.matches).1
        (each_map (λ q h. ⊎_elim (λ e. inl (omega arith, eq-eqb q.0 a (sym e))) (λ e. inr (omega arith, eq-eqb q.1 a (sym e))) (ends_of q a h.1))
        (keep gone M) (keep_matching gone (Missing n adj) M big.matches).0) in
        let p₁ = pair_up c a lc la (apart c a nc yes-a) ec in
        let p₂ = pair_up d b ld mp.1 (apart d b nd yes-b) ed in
        let N₁ = ins p₁.0 rest in
        let N₂ = ins p₂.0 N₁ in
        let away : Disjoint p₂.0 p₁.0 =
        p₂.2 p₁.0 (p₁.3 d (λ e. ne (sym e)) (apart d a nd yes-a)) (p₁.3 b (λ e. apart c b nc yes-b (sym e)) (λ e. omega (arith, mp.0))) in
        let r₁ : Rising N₁ = ins_rising p₁.0 rest (each_map (λ q h. p₁.2 q h.2 (h.1.0, h.1.1)) rest kept.0) kept.1 in
        let m₂ : IsMatching (Missing n adj) N₂ = (
          ins_each (Missing n adj) p₂.0 N₁ p₂.1 (ins_each (Missing n adj) p₁.0 rest p₁.1 (each_map (λ q h. h.0) rest kept.0)),
          ins_rising p₂.0 N₁ (ins_each (Disjoint p₂.0) p₁.0 rest away (each_map (λ q h. p₂.2 q h.3 (h.1.2, h.1.3)) rest kept.0)) r₁,
        ) in
        omega (arith, big.largest N₂ m₂, ins_length p₂.0 N₁, ins_length p₁.0 rest, keep_split gone M, count_one (suc a) a (omega arith))

-- ---- members and pairs
pub pigeonhole : (n : ℕ) (R : ℕ → Pair → Bool) (M : List Pair) (s : ℕ → Bool)
    → ((x : ℕ) → x < n → s x ≡ true → any_pair (R x) M ≡ true)
    → ((p : Pair) (x y : ℕ) → Among p M → x < n → y < n → s x ≡ true → s y ≡ true → R x p ≡ true → R y p ≡ true → x ≡ y)
    → count n s ≤ length M
pigeonhole n R [] s has same = omega (arith, count_none n s (λ x l. fails (s x) (λ p. true≢false (sym (has x l p)))))
pigeonhole n R (p ∷ M) s has same =
    let ih : count n (λ x. s x && not (R x p)) ≤ length M =
    pigeonhole n R M (λ x. s x && not (R x p))
    (λ x l q. ⊎_elim (λ r. absurd (true≢false (sym r ∙ not-true (R x p) (and_right (s x) (not (R x p)) q)))) (λ r. r)
    (or_cases (R x p) (any_pair (R x) M) (has x l (and_left (s x) (not (R x p)) q))))
    (λ q x y i l m a b. same q x y (inr i) l m (and_left (s x) (not (R x p)) a) (and_left (s y) (not (R y p)) b)) in
    omega (
      arith,
      count_split n s (λ x. R x p),
      ih,
      count_once n (λ x. s x && R x p)
          (λ x y l m a b. same p x y (inl refl) l m (and_left (s x) (R x p) a) (and_left (s y) (R y p) b) (and_right (s x) (R x p) a)
          (and_right (s y) (R y p) b)),
    )
