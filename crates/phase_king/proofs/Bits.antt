-- The vote for one bit. The main laws: `bit_validity` (a phase keeps a bit on which all correct controllers agree), `bit_king` (after a
-- phase with a correct king all correct controllers have one bit), `bit_stays` and `bit_agreement` (the phases of a vote, any kings).
use mathlib.Core.Path.{◌≡◌, refl, sym, ap, subst, ◌∙◌}
use mathlib.Core.Bool.{Bool, true, false, not, cond, ◌&&◌}
use mathlib.Core.Logic.{◌⊎◌, inl, inr, ⊎_elim}
use Prim.Native.Nat.{ℕ, zero, suc, ◌+◌, ◌-◌, ◌≤◌, ◌<◌}
use native.Mathlib.Nat.{eq-or-lt_of_le, le_of_suc-le-suc}
use native.Mathlib.Omega.{arith}
use borrow.Author.Tests.{leb-true, ltb-false, lt-ltb, le-ltb, le-leb, lt-leb, ne_eqb}
use lib.Arith.{le-zero}
use lib.Dec.{eqb}
use Rattle.lists.specs.Sum.{count}
use Rattle.lists.proofs.Tests.{either, fails, and_both}
use Rattle.lists.proofs.Sums.{below_suc, count-not, count_without, many, few, close}
use Rattle.phase_king.specs.Bit.{zero_seen, one_seen, held, support, weak, settled}
use Rattle.phase_king.specs.Vote.{CorrectIndex, Resilient, phase_count, Kings, BitPhase}

-- m different indices below n that pass the test p are at most as many as pass it
different : (m n : ℕ) (f : ℕ → ℕ) (p : ℕ → Bool) → ((a : ℕ) → a < m → f a < n) → ((a b : ℕ) → a < m → b < m → f a ≡ f b → a ≡ b)
    → ((a : ℕ) → a < m → p (f a) ≡ true) → m ≤ count n p
different zero n f p below apart holds = omega arith
different (suc m) n f p below apart holds =
    let rest : m ≤ count n (λ i. p i && not (eqb i (f m))) =
    different m n f (λ i. p i && not (eqb i (f m))) (λ a l. below a (omega arith)) (λ a b l u. apart a b (omega arith) (omega arith))
    (λ a l. and_both (p (f a)) (not (eqb (f a) (f m))) (holds a (omega arith))
    (ap not (ne_eqb (f a) (f m) (λ e. omega (arith, apart a m (omega arith) (omega arith) e))))) in
    omega (arith, count_without n p (f m) (below m (omega arith)) (holds m (omega arith)))

module _ (n t : ℕ) (correct : ℕ → Bool) (system : Resilient n t correct) where
  -- what is seen, as a count
  zeros_said : (p : ℕ → Bool) → zero_seen n t p ≡ true → n ≤ count n (λ i. not (p i)) + t
  unfolding zero_seen
  zeros_said p z = omega (arith, leb-true)

  ones_said : (p : ℕ → Bool) → one_seen n t p ≡ true → n ≤ count n p + t
  unfolding one_seen
  ones_said p o = omega (arith, leb-true)

  -- quorum intersection: no two correct controllers see zero and one
  quorum : (p q : ℕ → Bool) → ((i : ℕ) → i < n → correct i ≡ true → q i ≡ p i) → zero_seen n t p ≡ true → one_seen n t q ≡ true → ⊥
  quorum p q h z o =
      omega (
        arith,
        zeros_said p z,
        ones_said q o,
        system.small,
        count-not n p,
        close n t correct system.most q p h,
      )

  module _ (king : ℕ) (before after : ℕ → Bool) (phase : BitPhase n t correct king before after) where
    -- a count that reaches n - t keeps the bit
    strong : (b : Bool) (zeros ones : ℕ → Bool) (k : Bool) → held n t ones ≡ b → n ≤ cond b (count n ones) (count n zeros) + t
        → settled (held n t ones) (weak n t zeros ones) k ≡ b
    unfolding settled weak support
    strong b zeros ones k e h = rw (e, le-ltb (cond b (count n ones) (count n zeros)) (n - t) (omega arith))

    -- all correct controllers hold b before: all hold b after
    pub bit_validity : (b : Bool) → ((i : ℕ) → CorrectIndex n correct i → before i ≡ b) → (i : ℕ) → CorrectIndex n correct i → after i ≡ b
    unfolding zero_seen one_seen held
    bit_validity true h i f =
        let seen : (j : ℕ) → CorrectIndex n correct j → one_seen n t (phase.said j) ≡ true =
        λ j g. le-leb (n - t) (count n (phase.said j))
        (omega (arith, many n t correct system.most (phase.said j) (λ k l w. phase.first j k g (l, w) ∙ h k (l, w)))) in
        let reached : n ≤ count n (phase.ones i) + t =
        many n t correct system.most (phase.ones i) (λ j l w. phase.second1 i j f (l, w) ∙ seen j (l, w)) in
        phase.result i f
        ∙ strong true (phase.zeros i) (phase.ones i) (phase.kings i) (lt-ltb t (count n (phase.ones i)) (omega (arith, system.small))) reached
    bit_validity false h i f =
        let seen0 : (j : ℕ) → CorrectIndex n correct j → zero_seen n t (phase.said j) ≡ true =
        λ j g. le-leb (n - t) (count n (λ s. not (phase.said j s)))
        (omega (arith, many n t correct system.most (λ s. not (phase.said j s)) (λ k l w. ap not (phase.first j k g (l, w) ∙ h k (l, w))))) in
        let seen1 : (j : ℕ) → CorrectIndex n correct j → one_seen n t (phase.said j) ≡ false =
        λ j g. lt-leb (n - t) (count n (phase.said j))
        (omega (arith, system.small, few n t correct system.most (phase.said j) (λ k l w. phase.first j k g (l, w) ∙ h k (l, w)))) in
        phase.result i f
        ∙ strong false (phase.zeros i) (phase.ones i) (phase.kings i)
        (le-ltb t (count n (phase.ones i)) (few n t correct system.most (phase.ones i) (λ j l w. phase.second1 i j f (l, w) ∙ seen1 j (l, w))))
        (many n t correct system.most (phase.zeros i) (λ j l w. phase.second0 i j f (l, w) ∙ seen0 j (l, w)))

    -- where the zeros that a correct controller counts exceed t, no correct one saw one, since else no correct one saw zero
    no_one_seen : (i : ℕ) → CorrectIndex n correct i → t < count n (phase.zeros i) → (j : ℕ) → CorrectIndex n correct j → one_seen n t (phase.said j) ≡ false
    no_one_seen i f h j g =
        fails (one_seen n t (phase.said j)) (λ o. omega (
          arith,
          few n t correct system.most (phase.zeros i) (λ k l w.
              phase.second0 i k f (l, w)
              ∙ fails (zero_seen n t (phase.said k)) (λ z.
              quorum (phase.said k) (phase.said j) (λ s u v. phase.first j s g (u, v) ∙ sym (phase.first k s (l, w) (u, v))) z o)),
        ))

    -- a correct controller whose count reaches n - t holds what a correct king holds
    backed : (b : Bool) (i : ℕ) → CorrectIndex n correct i → CorrectIndex n correct king → n ≤ cond b (count n (phase.ones i)) (count n (phase.zeros i)) + t
        → held n t (phase.ones king) ≡ b
    unfolding held
    backed true i f w h =
        lt-ltb t (count n (phase.ones king)) (omega (
          arith,
          system.small,
          close n t correct system.most (phase.ones i) (phase.ones king) (λ j l g. phase.second1 i j f (l, g) ∙ sym (phase.second1 king j w (l, g))),
        ))
    backed false i f w h =
        le-ltb t (count n (phase.ones king))
        (few n t correct system.most (phase.ones king) (λ j l g.
        phase.second1 king j w (l, g) ∙ no_one_seen i f (omega (arith, system.small)) j (l, g)))

    -- a correct king: every correct controller ends with the bit that the king held
    pub bit_king : CorrectIndex n correct king → (i : ℕ) → CorrectIndex n correct i → after i ≡ held n t (phase.ones king)
    unfolding settled weak support
    bit_king w i f = phase.result i f ∙ go (held n t (phase.ones i)) refl (weak n t (phase.zeros i) (phase.ones i)) refl
      where
        go : (b : Bool) → held n t (phase.ones i) ≡ b → (below : Bool) → weak n t (phase.zeros i) (phase.ones i) ≡ below
            → settled b below (phase.kings i) ≡ held n t (phase.ones king)
        go b e true l = phase.third i f w
        go b e false l =
            sym (backed b i f w (omega (arith, ltb-false (cond b (count n (phase.ones i)) (count n (phase.zeros i))) (n - t) (rw e at l))))

  module _ (king : ℕ → ℕ) (kings : Kings n t king) where
    -- a correct king among the first m, or none
    find : (m : ℕ) → ((p : ℕ) × (p < m) × (correct (king p) ≡ true)) ⊎ ((p : ℕ) → p < m → correct (king p) ≡ false)
    find zero = inr (λ p l. absurd (omega arith))
    find (suc m) =
        ⊎_elim
        (λ (y : correct (king m) ≡ true). inl (m, omega arith, y))
        (λ (y : correct (king m) ≡ false). ⊎_elim
        (λ w. inl (w.0, omega (arith, w.1), w.2))
        (λ w. inr (λ p l. ⊎_elim (λ (e : p ≡ m). subst (λ (q : ℕ). correct (king q) ≡ false) (sym e) y) (λ (u : p < m). w p u) (below_suc l)))
        (find m))
        (either (correct (king m)))

    -- some king is correct
    some_king : (p : ℕ) × (p < phase_count t) × (correct (king p) ≡ true)
    some_king =
        ⊎_elim (λ w. w)
        (λ w. absurd (omega (
          arith,
          system.most,
          count-not n correct,
          different (phase_count t) n king (λ i. not (correct i)) kings.below kings.distinct (λ p l. ap not (w p l)),
        )))
        (find (phase_count t))

    module _ (bits : ℕ → ℕ → Bool) (phases : (p : ℕ) → p < phase_count t → BitPhase n t correct (king p) (bits p) (bits (suc p))) where
      -- once all correct controllers hold b they keep it
      pub bit_stays : (b : Bool) (k m : ℕ) → ((i : ℕ) → CorrectIndex n correct i → bits k i ≡ b) → k ≤ m → m ≤ phase_count t
          → (i : ℕ) → CorrectIndex n correct i → bits m i ≡ b
      bit_stays b k zero h l u = λ i f. rw (le-zero l) at (h i f)
      bit_stays b k (suc m) h l u =
          ⊎_elim (λ (q : k ≡ suc m). λ i f. rw q at (h i f))
          (λ (q : k < suc m).
          bit_validity (king m) (bits m) (bits (suc m)) (phases m u) b (bit_stays b k m h (le_of_suc-le-suc q) (omega arith)))
          (eq-or-lt_of_le l)

      pub bit_agreement : (i j : ℕ) → CorrectIndex n correct i → CorrectIndex n correct j → bits (phase_count t) i ≡ bits (phase_count t) j
      bit_agreement i j f g =
          let k = some_king in
          let phase = phases k.0 k.1 in
          let all = bit_stays (held n t (phase.ones (king k.0))) (suc k.0) (phase_count t)
          (bit_king (king k.0) (bits k.0) (bits (suc k.0)) phase (kings.below k.0 k.1, k.2)) k.1 (omega arith) in
          all i f ∙ sym (all j g)
