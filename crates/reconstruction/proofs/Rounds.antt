-- Laws of calls 3t + 7 to 3t + 9 within the settings. The main ones: `forwarded-member` (what a core member sends), `chosen` (the piece of at
-- least t + 1 good members is chosen), `shared_sends` (what everyone sends), `forwarded_other` and `shared_none` (who sends nothing),
-- `finished_none`, `finished-agreed`, `finished-beyond` and `finished-refused` (what the last call sets), `finished_lt` (the marks are 16 bits).
use mathlib.Core.Path.{◌≡◌, refl, sym, ap, subst, ◌∙◌}
use mathlib.Core.Bool.{Bool, true, false, cond, not, ◌&&◌}
use mathlib.Core.List.{List, []}
use mathlib.Core.Option.{Option}
use mathlib.Core.Option as option
use Prim.Native.Nat.{ℕ, ◌+◌, ◌-◌, ◌*◌, ◌^◌, ◌≤◌, ◌<◌}
use native.Mathlib.Omega.{arith}
use borrow.Author.Tests.{eq-eqb, ne_eqb, le-leb, lt-ltb, leb-true}
use lib.Dec.{eqb, leb, ltb, lit<}
use lib.ListN.{length, get_or, replicate}
use Rattle.lists.specs.Sum.{count}
use Rattle.lists.specs.Same.{same}
use Rattle.lists.proofs.Tests.{and_left, and_right, and_both, cond_yes, cond_no}
use Rattle.lists.proofs.Sums.{count_mono, count-member, count_split}
use Rattle.lists.proofs.Sames.{same_eq, eq_same}
use Rattle.bitset.specs.Set.{member, restricted, first}
use Rattle.bitset.proofs.Laws.{first_some, first_passes}
use Rattle.settings.specs.Valid.{Coded, Numbered}
use Rattle.wire.specs.declared.slot.Layout.{Layout}
use Rattle.wire.specs.declared.Round.TheVariants.{Forward, Rebuild}
use Rattle.wire.specs.Length.{block_length, kind_length, kind_layout}
use Rattle.wire.specs.Slot.{width, message_of, bytes, slots, to_all, SameMessages}
use Rattle.wire.proofs.Laws.{kind_length_is, row_forward, row_rebuild, to_all_lem, length-message, message_all}
use Rattle.reed_solomon.specs.Encode.{piece_of, is_ready}
use Rattle.reed_solomon.specs.Decode.{Decoded, Block, Beyond, Refused, decode_refusal, Answers}
use Rattle.reed_solomon.specs.First.{rebuilt}
use Rattle.reed_solomon.proofs.Laws.{yes_ready, decode_0, rebuilt-block, rebuilt_none, named_lt, rebuilt_same, named_same, decode_refusal_same}
use Rattle.reconstruction.specs.declared.Outcome.{Outcome}
use Rattle.reconstruction.specs.declared.Outcome.TheVariants.{Open, None}
use Rattle.reconstruction.specs.declared.Outcome.TheVariants as outcome
use Rattle.reconstruction.specs.Reconstruction.{in_core, forwarded, votes, is_chosen, chosen_piece, own_piece, sent_piece, shared, ending, finish}
use Rattle.reconstruction.specs.Reconstruction.{finished_by, finished, FinishedAgreed, FinishedBeyond}
use Rattle.reconstruction.specs.Outcomes.{outcome_number, outcome_from}
use Rattle.reconstruction.specs.declared.Ending.{Ending}

-- membership by number
pub in_core_lem : (core j : ℕ) → 1 ≤ j → in_core core j ≡ member core (j - 1)
unfolding in_core
in_core_lem core j h = ap (λ (b : Bool). not b && member core (j - 1)) (ne_eqb j 0 (λ e. omega arith))

-- the table's length is that of a piece
pub kind_forward : {n t k : ℕ} → Coded n t k → kind_length Forward n t k ≡ k
kind_forward {n} {t} {k} v = kind_length_is v Forward ∙ row_forward n t k

pub kind_rebuild : {n t k : ℕ} → Coded n t k → kind_length Rebuild n t k ≡ k
kind_rebuild {n} {t} {k} v = kind_length_is v Rebuild ∙ row_rebuild n t k

-- who is not in the core forwards nothing
pub forwarded_other : (run n t k own core : ℕ) (b o : List ℕ) → in_core core own ≡ false → forwarded run n t k own core b o ≡ replicate (length o) 0
unfolding forwarded
forwarded_other run n t k own core b o e = cond_no (in_core core own) _ (replicate (length o) 0) e

module _ (n t k own : ℕ) (b : List ℕ) (v : Coded n t k) (w : Numbered n own) (size : length b ≡ block_length k t) where
  ready : (o : List ℕ) (l : ℕ) → length o ≡ l → is_ready n t k own b (eqb (length o) l) ≡ true
  ready o l e = yes_ready n t k own b (eqb (length o) l) (record { coded = v; number = w; size = size }) (eq-eqb (length o) l e)

  -- call 3t + 7
  pub forwarded-member : (run core : ℕ) (o : List ℕ) → in_core core own ≡ true → length o ≡ n * width (kind_layout run Forward n t k)
      → forwarded run n t k own core b o ≡ slots (kind_layout run Forward n t k) (λ j. bytes (piece_of k t b j)) n
  unfolding forwarded
  forwarded-member run core o y e =
      let l = n * width (kind_layout run Forward n t k) in
      cond_yes (in_core core own) _ (replicate (length o) 0) y
      ∙ cond_yes (is_ready n t k own b (eqb (length o) l)) (slots (kind_layout run Forward n t k) (λ j. bytes (piece_of k t b j)) n) o
      (ready o l e)

  -- call 3t + 8
  module _ (core : ℕ) (inbox : List ℕ) (layout : Layout) (o : List ℕ) (e : length o ≡ n * width (kind_layout layout.run Rebuild n t k)) where
    shared_is : shared n t k own core inbox layout b o ≡ sent_piece (kind_layout layout.run Rebuild n t k) n (own_piece n t k own core inbox layout b) o
    unfolding shared
    shared_is =
        let l = n * width (kind_layout layout.run Rebuild n t k) in
        cond_yes (is_ready n t k own b (eqb (length o) l)) (sent_piece (kind_layout layout.run Rebuild n t k) n (own_piece n t k own core inbox layout b) o) o
        (ready o l e)

    pub shared_sends : (m : List ℕ) → own_piece n t k own core inbox layout b ≡ m → length m ≡ k
        → shared n t k own core inbox layout b o ≡ slots (kind_layout layout.run Rebuild n t k) (λ _. bytes m) n
    unfolding sent_piece
    shared_sends m is_m long =
        let out = kind_layout layout.run Rebuild n t k in
        shared_is
        ∙ ap (λ (x : List ℕ). sent_piece out n x o) is_m
        ∙ cond_no (eqb (length m) 0) (replicate (length o) 0) (to_all out n m o) (ne_eqb (length m) 0 (λ z. omega (arith, v.k_least)))
        ∙ to_all_lem out n m o (long ∙ sym (kind_rebuild v)) e

    -- who has no piece is silent
    pub shared_none : length (own_piece n t k own core inbox layout b) ≡ 0 → shared n t k own core inbox layout b o ≡ replicate (length o) 0
    unfolding sent_piece
    shared_none none =
        let m = own_piece n t k own core inbox layout b in
        shared_is ∙ cond_yes (eqb (length m) 0) (replicate (length o) 0) (to_all (kind_layout layout.run Rebuild n t k) n m o) (eq-eqb (length m) 0 none)

-- a member's piece is its own
pub own_member : (n t k own core : ℕ) (inbox : List ℕ) (layout : Layout) (b : List ℕ) → in_core core own ≡ true
    → own_piece n t k own core inbox layout b ≡ piece_of k t b own
unfolding own_piece
own_member n t k own core inbox layout b y = cond_yes (in_core core own) (piece_of k t b own) (chosen_piece n t core inbox layout) y

-- another takes the piece that is chosen
pub own_other : (n t k own core : ℕ) (inbox : List ℕ) (layout : Layout) (b : List ℕ) → in_core core own ≡ false
    → own_piece n t k own core inbox layout b ≡ chosen_piece n t core inbox layout
unfolding own_piece
own_other n t k own core inbox layout b y = cond_no (in_core core own) (piece_of k t b own) (chosen_piece n t core inbox layout) y

module _ (n t core : ℕ) (inbox : List ℕ) (layout : Layout) where
  -- a piece that is chosen has the round's length
  pub length_chosen : (length (chosen_piece n t core inbox layout) ≡ 0 → ⊥) → length (chosen_piece n t core inbox layout) ≡ layout.length
  unfolding chosen_piece
  length_chosen = go (ltb (first n (is_chosen n t core inbox layout)) n)
    where
      go : (b : Bool) → (length (cond b (message_of inbox layout (first n (is_chosen n t core inbox layout) + 1)) []) ≡ 0 → ⊥)
          → length (cond b (message_of inbox layout (first n (is_chosen n t core inbox layout) + 1)) []) ≡ layout.length
      go true z = length-message inbox layout (first n (is_chosen n t core inbox layout) + 1) z
      go false z = absurd (z refl)

  -- what holds of 0 and of each byte of the inbox holds of each byte of the piece
  pub chosen_each : (P : ℕ → Type 0) → P 0 → ((x : ℕ) → P (get_or inbox x 0)) → (x : ℕ) → P (get_or (chosen_piece n t core inbox layout) x 0)
  unfolding chosen_piece
  chosen_each P none h x = go (ltb (first n (is_chosen n t core inbox layout)) n)
    where
      go : (b : Bool) → P (get_or (cond b (message_of inbox layout (first n (is_chosen n t core inbox layout) + 1)) []) x 0)
      go true = message_all P none inbox layout (first n (is_chosen n t core inbox layout) + 1) h x
      go false = none

-- ---- the choice: at least t + 1 members are good, at most t of all are not, and every good member sent P
module _ (n t core : ℕ) (inbox : List ℕ) (layout : Layout) (good : ℕ → Bool) (P : List ℕ) (some : length P ≡ 0 → ⊥)
    (few : count n (λ i. not (good i)) ≤ t) (enough : t + 1 ≤ count n (λ i. member core i && good i))
    (sent : (i : ℕ) → i < n → member core i ≡ true → good i ≡ true → message_of inbox layout (i + 1) ≡ P) where
  many : t + 1 ≤ votes n core inbox layout P
  unfolding votes
  many =
      omega (
        arith,
        enough,
        count_mono n (λ i. member core i && good i) (λ i. member core i && same (message_of inbox layout (i + 1)) P)
            (λ i l y.
            let m = and_left (member core i) (good i) y in
            and_both (member core i) (same (message_of inbox layout (i + 1)) P) m
            (eq_same (message_of inbox layout (i + 1)) P (sent i l m (and_right (member core i) (good i) y)))),
      )

  -- a piece that t + 1 members sent was sent by a good one
  right : (x : List ℕ) → t + 1 ≤ votes n core inbox layout x → x ≡ P
  unfolding votes
  right x h =
      let Q : ℕ → Bool = λ i. member core i && same (message_of inbox layout (i + 1)) x in
      let g = count-member n (λ i. Q i && good i)
      (omega (arith, h, few, count_split n Q good, count_mono n (λ i. Q i && not (good i)) (λ i. not (good i)) (λ i l y. and_right (Q i) (not (good i)) y))) in
      let i = g.0 in
      let y = and_left (Q i) (good i) g.2 in
      sym (same_eq (message_of inbox layout (i + 1)) x (and_right (member core i) (same (message_of inbox layout (i + 1)) x) y))
      ∙ sent i g.1 (and_left (member core i) (same (message_of inbox layout (i + 1)) x) y) (and_right (Q i) (good i) g.2)

  pub chosen : chosen_piece n t core inbox layout ≡ P
  unfolding chosen_piece is_chosen
  chosen =
      let q : ℕ → Bool = is_chosen n t core inbox layout in
      let g = count-member n (λ i. member core i && good i) (omega (arith, enough)) in
      let i = g.0 in
      let m = and_left (member core i) (good i) g.2 in
      let s : message_of inbox layout (i + 1) ≡ P = sent i g.1 m (and_right (member core i) (good i) g.2) in
      let yes : q i ≡ true =
      and_both (member core i) _ m
      (and_both (not (eqb (length (message_of inbox layout (i + 1))) 0)) (leb (t + 1) (votes n core inbox layout (message_of inbox layout (i + 1))))
      (ap not (ne_eqb (length (message_of inbox layout (i + 1))) 0 (λ z. some (sym (ap length s) ∙ z))))
      (le-leb (t + 1) (votes n core inbox layout (message_of inbox layout (i + 1)))
      (subst (λ (y : List ℕ). t + 1 ≤ votes n core inbox layout y) (sym s) many))) in
      let below : first n q < n = omega (arith, first_some n q i yes, g.1) in
      let passes = first_passes n q below in
      let M : ℕ → List ℕ = λ x. message_of inbox layout (x + 1) in
      cond_yes (ltb (first n q) n) (M (first n q)) [] (lt-ltb (first n q) n below)
      ∙ right (M (first n q))
      (leb-true (t + 1) (votes n core inbox layout (M (first n q)))
      (and_right (not (eqb (length (M (first n q))) 0)) _ (and_right (member core (first n q)) _ passes)))

-- ---- the last call
pub finished_none : (n t : ℕ) (layout : Layout) (core : ℕ) (inbox b : List ℕ) → restricted core n ≡ 0
    → finished n t layout core inbox b ≡ finish (ending None 0) (replicate (length b) 0)
unfolding finished
finished_none n t layout core inbox b e =
    cond_yes (eqb (restricted core n) 0) (finish (ending None 0) (replicate (length b) 0)) _ (eq-eqb (restricted core n) 0 e)

-- a core: what decoding gives
with_core_lem : (n t : ℕ) (layout : Layout) (core : ℕ) (inbox b : List ℕ) → (restricted core n ≡ 0 → ⊥)
    → finished n t layout core inbox b
    ≡ cond (eqb (decode_refusal n t layout inbox b) 0) (finished_by n t layout inbox (length b) (rebuilt n t layout inbox)) (finish (ending Open 0) b)
unfolding finished
with_core_lem n t layout core inbox b z = cond_no (eqb (restricted core n) 0) (finish (ending None 0) (replicate (length b) 0)) _ (ne_eqb (restricted core n) 0 z)

-- the block that meets the rule, or none
ruled : (n t : ℕ) (layout : Layout) (core : ℕ) (inbox b : List ℕ) → (restricted core n ≡ 0 → ⊥) → decode_refusal n t layout inbox b ≡ 0
    → finished n t layout core inbox b ≡ finished_by n t layout inbox (length b) (rebuilt n t layout inbox)
ruled n t layout core inbox b z e =
    with_core_lem n t layout core inbox b z
    ∙ cond_yes (eqb (decode_refusal n t layout inbox b) 0) _ (finish (ending Open 0) b) (eq-eqb (decode_refusal n t layout inbox b) 0 e)

pub finished-agreed : FinishedAgreed
finished-agreed n t layout core inbox b z e B d =
    ruled n t layout core inbox b z e
    ∙ ap (finished_by n t layout inbox (length b)) (rebuilt-block n t layout inbox (omega (arith, (decode_0 n t layout inbox b e).0.quorum.n_most)) B d)

pub finished-beyond : FinishedBeyond
finished-beyond n t layout core inbox b z e d =
    ruled n t layout core inbox b z e ∙ ap (finished_by n t layout inbox (length b)) (rebuilt_none n t layout inbox d)

-- decoding refused: open, and the block as it was
pub finished-refused : (n t : ℕ) (layout : Layout) (core : ℕ) (inbox b : List ℕ) → (restricted core n ≡ 0 → ⊥) → (decode_refusal n t layout inbox b ≡ 0 → ⊥)
    → finished n t layout core inbox b ≡ finish (ending Open 0) b
finished-refused n t layout core inbox b z e =
    with_core_lem n t layout core inbox b z
    ∙ cond_no (eqb (decode_refusal n t layout inbox b) 0) _ (finish (ending Open 0) b) (ne_eqb (decode_refusal n t layout inbox b) 0 e)

-- what decoding answers and leaves is what the last call sets
-- the outcome and the marks for each answer of decoding; it is never refused in a run
abbrev pub decoded_ending : Decoded → Ending
decoded_ending (Block named) = ending outcome.Agreed named
decoded_ending Beyond = ending outcome.Beyond 0
decoded_ending (Refused r) = ending Open 0

pub finished_answers : (n t : ℕ) (layout : Layout) (core : ℕ) (inbox b : List ℕ) → (restricted core n ≡ 0 → ⊥) → (d : Decoded) (after : List ℕ)
    → Answers n t layout inbox b d after → finish (decoded_ending d) after ≡ finished n t layout core inbox b
finished_answers n t layout core inbox b z (Block named) after h =
    ap (λ (m : ℕ). finish (ending outcome.Agreed m) after) h.2 ∙ sym (finished-agreed n t layout core inbox b z h.0 after h.1)
finished_answers n t layout core inbox b z Beyond after h =
    ap (finish (ending outcome.Beyond 0)) (h.2 ∙ ap (λ (x : ℕ). replicate x 0) (sym (decode_0 n t layout inbox b h.0).2))
    ∙ sym (finished-beyond n t layout core inbox b z h.0 h.1)
finished_answers n t layout core inbox b z (Refused r) after h =
    ap (finish (ending Open 0)) h.2 ∙ sym (finished-refused n t layout core inbox b z (λ e. h.1 (h.0 ∙ e)))

-- whoever is named is one of 16
pub finished_lt : (n t : ℕ) (layout : Layout) (core : ℕ) (inbox b : List ℕ) → n ≤ 16 → (finished n t layout core inbox b).ending.named < 2 ^ 16
unfolding finished
finished_lt n t layout core inbox b few = go (eqb (restricted core n) 0) (eqb (decode_refusal n t layout inbox b) 0) (rebuilt n t layout inbox)
  where
    go : (x y : Bool) (r : Option (List ℕ))
        → (cond x (finish (ending None 0) (replicate (length b) 0)) (cond y (finished_by n t layout inbox (length b) r) (finish (ending Open 0) b))).ending.named
        < 2 ^ 16
    go true y r = lit< tt
    go false false r = lit< tt
    go false true option.none = lit< tt
    go false true (option.some B) = named_lt n t layout inbox B few

-- ---- inboxes with one message in each slot
module _ (layout : Layout) (inbox other : List ℕ) (h : SameMessages layout inbox other) where
  chosen_same : (n t core : ℕ) → chosen_piece n t core inbox layout ≡ chosen_piece n t core other layout
  unfolding chosen_piece is_chosen votes
  chosen_same n t core =
      λ x.
      let is : ℕ → Bool = λ i.
      member core i
      && (not (eqb (length (h (i + 1) x)) 0) && leb (t + 1) (count n (λ j. member core j && same (h (j + 1) x) (h (i + 1) x)))) in
      cond (ltb (first n is) n) (h (first n is + 1) x) []

  -- give one piece to send
  pub shared_same : (n t k own core : ℕ) (b o : List ℕ) → shared n t k own core inbox layout b o ≡ shared n t k own core other layout b o
  unfolding shared own_piece
  shared_same n t k own core b o =
      let out = kind_layout layout.run Rebuild n t k in
      ap (λ (p : List ℕ). cond (is_ready n t k own b (eqb (length o) (n * width out)))
      (sent_piece out n (cond (in_core core own) (piece_of k t b own) p) o) o) (chosen_same n t core)

  -- and one ending
  pub finished_same : (n t core : ℕ) (b : List ℕ) → length inbox ≡ length other → finished n t layout core inbox b ≡ finished n t layout core other b
  unfolding finished
  finished_same n t core b e =
      λ x.
      cond (eqb (restricted core n) 0)
      (finish (ending None 0) (replicate (length b) 0))
      (cond (eqb (decode_refusal_same layout inbox other h n t b e x) 0)
      ((by_same n t (length b) (rebuilt n t layout inbox) ∙ ap (finished_by n t layout other (length b)) (rebuilt_same layout inbox other h n t)) x)
      (finish (ending Open 0) b))
    where
      by_same : (n t len : ℕ) (r : Option (List ℕ)) → finished_by n t layout inbox len r ≡ finished_by n t layout other len r
      by_same n t len option.none = refl
      by_same n t len (option.some B) = ap (λ (m : ℕ). finish (ending outcome.Agreed m) B) (named_same layout inbox other h n t B)

-- agreed is known by its number
pub outcome_back : (w : Outcome) → outcome_from (outcome_number w) ≡ w
unfolding outcome_from
outcome_back outcome.Open = refl
outcome_back outcome.Agreed = refl
outcome_back outcome.None = refl
outcome_back outcome.Beyond = refl

pub agreed-number : (w : Outcome) → outcome_number w ≡ outcome_number outcome.Agreed → w ≡ outcome.Agreed
agreed-number Open e = absurd (omega (arith, e))
agreed-number outcome.Agreed e = refl
agreed-number None e = absurd (omega (arith, e))
agreed-number outcome.Beyond e = absurd (omega (arith, e))
