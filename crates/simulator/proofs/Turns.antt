-- One call of each controller, in turn. The main laws: `turn_correct` and `turn_faulty` (a turn of the loop), `turned_called` (what the loop ends with), `copied_turn` (one outbox copied).
use mathlib.Core.Path.{◌≡◌, refl, sym, ap, ap₂, ◌∙◌}
use mathlib.Core.Bool.{true, false}
use mathlib.Core.List.{List, []}
use mathlib.Core.Logic.{◌⊎◌, inl, inr, ⊎_elim}
use Prim.Native.Nat.{ℕ, ◌+◌, ◌-◌, ◌≤◌, ◌<◌}
use native.Mathlib.Omega.{arith}
use lib.ListN.{length, get_or, set, take, length-set}
use lib.Seq.{get_or-set_same, get_or-set_other}
use Rattle.lists.proofs.Tests.{true≢false, same_or_not}
use Rattle.lists.proofs.Sums.{below_suc}
use Rattle.bitset.specs.Set.{member}
use Rattle.system_file.specs.declared.SystemFile.{SystemFile}
use Rattle.simulation.specs.Run.{Playing, called}
use Rattle.simulator.specs.declared.run.Controller.{Controller}
use Rattle.simulator.specs.Play.{block_in}
use Rattle.simulator.specs.Steps.{Called, inbox_in, outbox_in, scene, zero_controller, held, stepped, now_of}
use Rattle.simulator.proofs.Plays.{call_is}

-- the controllers before index i made their calls; the others, and the faulty ones, are as they were, and so are their outboxes
pub record Turned (input : List ℕ) (file : SystemFile) (c i : ℕ) (cs : List Controller) (sent sending₀ : List (List ℕ)) (after : List Controller) (sending : List (List ℕ)) : Type 0 where
  pub size : length after ≡ length cs
  pub boxes : length sending ≡ length sending₀
  pub called_is : (x : ℕ) → x < i → member file.faulty x ≡ false
      → held (get_or after x zero_controller) (block_in file.settings) (take (outbox_in file.settings (c + 1)) (get_or sending x []))
      ≡ called (scene input file []) c (now_of cs sent file.settings (inbox_in file.settings c)) (x + 1)
  pub same : (x : ℕ) → (i ≤ x) ⊎ (member file.faulty x ≡ true) → get_or after x zero_controller ≡ get_or cs x zero_controller
  pub same_box : (x : ℕ) → (i ≤ x) ⊎ (member file.faulty x ≡ true) → get_or sending x [] ≡ get_or sending₀ x []

pub turn_start : (input : List ℕ) (file : SystemFile) (c : ℕ) (cs : List Controller) (sent sending : List (List ℕ)) → Turned input file c 0 cs sent sending cs sending
turn_start input file c cs sent sending = record { size = refl; boxes = refl; called_is = λ x l. absurd (omega arith); same = λ x h. refl; same_box = λ x h. refl }

module _ {input : List ℕ} {file : SystemFile} {c i : ℕ} {cs : List Controller} {sent sending₀ : List (List ℕ)} {after : List Controller} {sending : List (List ℕ)}
    (T : Turned input file c i cs sent sending₀ after sending) where
  weaker : (x : ℕ) → (i + 1 ≤ x) ⊎ (member file.faulty x ≡ true) → (i ≤ x) ⊎ (member file.faulty x ≡ true)
  weaker x (inl h) = inl (omega arith)
  weaker x (inr h) = inr h

  -- a faulty one stays
  pub turn_faulty : member file.faulty i ≡ true → Turned input file c (i + 1) cs sent sending₀ after sending
  turn_faulty f = record {
    size = T.size;
    boxes = T.boxes;
    called_is = λ x h g. T.called_is x (before x h g) g;
    same = λ x h. T.same x (weaker x h);
    same_box = λ x h. T.same_box x (weaker x h);
  }
    where
      before : (x : ℕ) → x < i + 1 → member file.faulty x ≡ false → x < i
      before x h g =
          ⊎_elim
          (λ (e : x ≡ i). absurd (true≢false (sym f ∙ ap (member file.faulty) (sym e) ∙ g)))
          (λ (d : x ≡ i → ⊥). omega arith)
          (same_or_not x i)

  -- a correct one makes its call, and its outbox is y
  pub turn_correct : member file.faulty i ≡ false → i < length cs → i < length sending₀ → (x : Controller) (y : List ℕ)
      → held x (block_in file.settings) (take (outbox_in file.settings (c + 1)) y) ≡ stepped (scene input file []) c (get_or after i zero_controller) sent (i + 1)
      → Turned input file c (i + 1) cs sent sending₀ (set after i x) (set sending i y)
  turn_correct f l m x y e = record {
    size = length-set after i x ∙ T.size;
    boxes = length-set sending i y ∙ T.boxes;
    called_is = λ j h g. ⊎_elim
        (λ (q : j ≡ i).
        ap₂ kept
        (ap (λ (z : ℕ). get_or (set after i x) z zero_controller) q ∙ get_or-set_same after i x zero_controller (omega (arith, T.size, l)))
        (ap (λ (z : ℕ). get_or (set sending i y) z []) q ∙ get_or-set_same sending i y [] (omega (arith, T.boxes, m)))
        ∙ e ∙ call_is input file cs sent c i (T.same i (inl (omega arith)))
        ∙ ap (λ (z : ℕ). called (scene input file []) c (now_of cs sent file.settings (inbox_in file.settings c)) (z + 1)) (sym q))
        (λ (d : j < i).
        ap₂ kept (get_or-set_other after i j x zero_controller (λ q. omega arith)) (get_or-set_other sending i j y [] (λ q. omega arith))
        ∙ T.called_is j d g)
        (below_suc (omega arith));
    same = λ j h. get_or-set_other after i j x zero_controller (other j h) ∙ T.same j (weaker j h);
    same_box = λ j h. get_or-set_other sending i j y [] (other j h) ∙ T.same_box j (weaker j h);
  }
    where
      kept : Controller → List ℕ → Playing
      kept z v = held z (block_in file.settings) (take (outbox_in file.settings (c + 1)) v)

      other : (j : ℕ) → (i + 1 ≤ j) ⊎ (member file.faulty j ≡ true) → j ≡ i → ⊥
      other j (inl h) q = omega arith
      other j (inr h) q = true≢false (sym h ∙ ap (member file.faulty) q ∙ f)

  pub turned_called : i ≡ file.settings.n
      → Called (scene input file []) c (now_of cs sent file.settings (inbox_in file.settings c)) (now_of after sending file.settings (outbox_in file.settings (c + 1)))
  turned_called e = record {
    correct = λ j a b f.
        let q : j - 1 + 1 ≡ j = omega arith in
        T.called_is (j - 1) (omega arith) f ∙ ap (called (scene input file []) c (now_of cs sent file.settings (inbox_in file.settings c))) q;
    state = λ j a b f. ap (λ (x : Controller). x.state) (T.same (j - 1) (inr f));
    block = λ j a b f. ap (λ (x : Controller). take (block_in file.settings) x.block) (T.same (j - 1) (inr f));
  }

-- ---- what was sent is copied
-- the outboxes before index i were copied, o bytes of each
pub record Copied (o i : ℕ) (sending sent : List (List ℕ)) : Type 0 where
  pub boxes : length sent ≡ 16
  pub each : (x : ℕ) → x < i → take o (get_or sent x []) ≡ take o (get_or sending x [])

pub copied_start : (o : ℕ) (sending sent : List (List ℕ)) → length sent ≡ 16 → Copied o 0 sending sent
copied_start o sending sent b = record { boxes = b; each = λ x l. absurd (omega arith) }

pub copied_turn : {o i : ℕ} {sending sent : List (List ℕ)} → Copied o i sending sent → i < 16 → (y : List ℕ) → take o y ≡ take o (get_or sending i [])
    → Copied o (i + 1) sending (set sent i y)
copied_turn {o} {i} {sending} {sent} C l y e = record {
  boxes = length-set sent i y ∙ C.boxes;
  each = λ x h. ⊎_elim
      (λ (q : x ≡ i).
      ap (take o) (ap (λ (z : ℕ). get_or (set sent i y) z []) q ∙ get_or-set_same sent i y [] (omega (arith, C.boxes, l)))
      ∙ e ∙ ap (λ (z : ℕ). take o (get_or sending z [])) (sym q))
      (λ (d : x < i). ap (take o) (get_or-set_other sent i x y [] (λ q. omega arith)) ∙ C.each x d)
      (below_suc (omega arith));
}
