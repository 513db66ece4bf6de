-- Every block and outbox of a run holds bytes (`holds-bytes`), and so does every inbox (`inbox-bytes`). An outbox and an inbox are as long as the call
-- states (`lent-bytes`, `inbox_size`), and slot i of an inbox is what came from i (`in_slot`).
use mathlib.Core.Path.{◌≡◌, refl, sym, ap, subst, ◌∙◌}
use mathlib.Core.Bool.{true, false}
use mathlib.Core.List.{List, [], ◌∷◌}
use mathlib.Core.Logic.{◌⊎◌, ⊎_elim}
use Prim.Native.Nat.{ℕ, zero, suc, ◌+◌, ◌-◌, ◌*◌, ◌≤◌, ◌<◌}
use native.Mathlib.Nat.{mul-le-mul_right}
use native.Mathlib.Numerals.{add-one}
use native.Mathlib.Omega.{arith}
use lib.Dec.{lit<}
use lib.ListN.{length}
use Rattle.lists.specs.Join.{part}
use Rattle.lists.proofs.Tests.{either}
use Rattle.lists.proofs.Parts.{all_take, all_drop}
use Rattle.lists.proofs.Joins.{part_take, length-joined, part_joined, all_joined}
use Rattle.settings.specs.Valid.{Numbered}
use Rattle.polynomial.specs.Polynomial.{Bytes}
use Rattle.wire.specs.declared.slot.Layout.{Layout}
use Rattle.wire.specs.Length.{block_length, inbox_length, outbox_length}
use Rattle.wire.specs.Slot.{width, slot_of}
use Rattle.wire.proofs.Laws.{length_pos, outbox_is, inbox_is, first_inbox, Sized, sized_silence, sized_bytes, content, written_each, slot_is, length_slot}
use Rattle.protocol.specs.Step.{After, step_of}
use Rattle.protocol.proofs.Laws.{start_run, step_run}
use Rattle.simulation.specs.Run.{run_number, layout_at, Scenario, Proper, Playing, sent_as, slot_to, inbox_of, outbox_of, played}
use Rattle.simulation.proofs.Laws.{began_is, called_is, inbox_first, inbox-later, slot_faulty, slot_correct, cleared, played_start, played_correct}
use Rattle.simulation.proofs.Laws.{played-faulty}
use Rattle.simulation_agreement.proofs.Bytes.{IsBytes, Byte, zeros-bytes, bytes_step}

-- ---- slots
slot_bytes : (box : List ℕ) (layout : Layout) (j : ℕ) → Bytes box → Bytes (slot_of box layout j)
slot_bytes box layout j h =
    subst Bytes (sym (slot_is box layout j ∙ part_take (width layout) box (j - 1)))
    (all_take Byte (lit< tt) (width layout) _ (all_drop Byte (lit< tt) ((j - 1) * width layout) box h))

-- what a faulty controller sends is its message
sent_content : (m : List ℕ) → content (sent_as m) ≡ m
sent_content [] = refl
sent_content (x ∷ m) = refl

sent_sized : (layout : Layout) (m : List ℕ) → (m ≡ []) ⊎ (length m ≡ layout.length) → Sized layout (sent_as m)
sent_sized layout [] h = sized_silence layout
sent_sized layout (x ∷ m) h =
    ⊎_elim (λ (e : x ∷ m ≡ []). absurd (omega (arith, ap length e))) (λ (e : length (x ∷ m) ≡ layout.length). sized_bytes layout (x ∷ m) e) h

module _ (F : Scenario) (p : Proper F) where
  slot_to-bytes : (c : ℕ) (now : ℕ → Playing) → ((j : ℕ) → Bytes (now j).outbox) → (i j : ℕ) → Bytes (slot_to F c now i j)
  slot_to-bytes c now h i j =
      ⊎_elim
      (λ (y : F.faulty j ≡ true).
      subst Bytes (sym (slot_faulty F c now i j y))
      (written_each Byte (layout_at F c) (lit< tt) (lit< tt) (lit< tt) (lit< tt) (sent_as (F.said c j i))
      (subst Bytes (sym (sent_content (F.said c j i))) (p.said_bytes c j i))))
      (λ (y : F.faulty j ≡ false). subst Bytes (sym (slot_correct F c now i j y)) (slot_bytes (now j).outbox (layout_at F c) i (h j)))
      (either (F.faulty j))

  box_bytes : (c : ℕ) (now : ℕ → Playing) → ((j : ℕ) → Bytes (now j).outbox) → (i : ℕ) → Bytes (inbox_of F c now i)
  box_bytes zero now h i = subst Bytes (sym (inbox_first F now i)) (λ x. lit< tt)
  box_bytes (suc c) now h i =
      subst Bytes (sym (inbox-later F c now i))
      (all_joined Byte (λ x. slot_to F (suc c) now i (x + 1)) F.settings.n (lit< tt) (λ x l. slot_to-bytes (suc c) now h i (x + 1)))

  -- ---- what a run lends and holds
  -- an outbox is lent cleared
  pub lent-bytes : (c : ℕ) → IsBytes (outbox_length F.settings.n F.settings.t F.settings.k c) (outbox_of F c)
  lent-bytes c =
      subst (IsBytes (outbox_length F.settings.n F.settings.t F.settings.k c)) (sym (cleared F c))
      (zeros-bytes (outbox_length F.settings.n F.settings.t F.settings.k c))

  -- block, outbox and run number of a controller after c calls
  pub record HoldsBytes (c i : ℕ) : Type 0 where
    pub block_is : IsBytes (block_length F.settings.k F.settings.t) (played F c i).block
    pub sends : Bytes (played F c i).outbox
    pub run_most : (played F c i).state.run < 65536

  -- a call of a correct controller
  after : ℕ → ℕ → After
  after c i = step_of (played F c i).state (played F c i).block (inbox_of F c (played F c) i) (outbox_of F (c + 1))

  taken : After → Playing
  taken a = record { state = a.answer.state; block = a.block; outbox = a.outbox }

  step_is : (c i : ℕ) → F.faulty i ≡ false → played F (suc c) i ≡ taken (after c i)
  unfolding after taken
  step_is c i f = played_correct F c i f ∙ called_is F c (played F c) i

  after-bytes : (c i : ℕ) → (played F c i).state.run < 65536 → Bytes (played F c i).block → ((j : ℕ) → Bytes (played F c j).outbox)
      → IsBytes (length (played F c i).block) (after c i).block × IsBytes (length (outbox_of F (c + 1))) (after c i).outbox
  unfolding after
  after-bytes c i word h g =
      bytes_step (played F c i).state (played F c i).block (inbox_of F c (played F c) i) (outbox_of F (c + 1)) word h (box_bytes c (played F c) g i)
      (lent-bytes (c + 1)).bytes

  run_after : (c i : ℕ) → (played F c i).state.run < 65536 → (after c i).answer.state.run < 65536
  unfolding after
  run_after c i h =
      subst (λ (x : ℕ). x < 65536)
      (sym (step_run (played F c i).state (played F c i).block (inbox_of F c (played F c) i) (outbox_of F (c + 1)))) h

  pub holds-bytes : (c i : ℕ) → HoldsBytes c i
  unfolding taken
  holds-bytes zero i =
      let e = played_start F i ∙ began_is F i in
      record {
        block_is = subst (λ (x : Playing). IsBytes (block_length F.settings.k F.settings.t) x.block) (sym e)
            (record { size = p.block_length; bytes = p.block-bytes });
        sends = subst (λ (x : Playing). Bytes x.outbox) (sym e) (λ x. lit< tt);
        run_most = subst (λ (x : Playing). x.state.run < 65536) (sym e)
            (start_run (λ x. x < 65536) F.settings i run_number (length F.block) (lit< tt) (lit< tt));
      }
  holds-bytes (suc c) i =
      let q = holds-bytes c i in
      ⊎_elim
      (λ (y : F.faulty i ≡ true).
      let e = sym (played-faulty F c i y) in
      record {
        block_is = subst (λ (x : Playing). IsBytes (block_length F.settings.k F.settings.t) x.block) e q.block_is;
        sends = subst (λ (x : Playing). Bytes x.outbox) e q.sends;
        run_most = subst (λ (x : Playing). x.state.run < 65536) e q.run_most;
      })
      (λ (y : F.faulty i ≡ false).
      let e = sym (step_is c i y) in
      let r = after-bytes c i q.run_most q.block_is.bytes (λ j. (holds-bytes c j).sends) in
      record {
        block_is =
            subst (λ (x : Playing). IsBytes (block_length F.settings.k F.settings.t) x.block) e
            (subst (λ (m : ℕ). IsBytes m (after c i).block) q.block_is.size r.0);
        sends = subst (λ (x : Playing). Bytes x.outbox) e r.1.bytes;
        run_most = subst (λ (x : Playing). x.state.run < 65536) e (run_after c i q.run_most);
      })
      (either (F.faulty i))

  pub inbox-bytes : (c i : ℕ) → Bytes (inbox_of F c (played F c) i)
  inbox-bytes c i = box_bytes c (played F c) (λ j. (holds-bytes c j).sends) i

  -- ---- lengths
  -- what a correct controller's call sends is as long as its outbox
  sent_size : (c i : ℕ) → F.faulty i ≡ false → length (played F (suc c) i).outbox ≡ outbox_length F.settings.n F.settings.t F.settings.k (suc c)
  unfolding taken
  sent_size c i y =
      ap (λ (x : Playing). length x.outbox) (step_is c i y)
      ∙ (after-bytes c i (holds-bytes c i).run_most (holds-bytes c i).block_is.bytes (λ j. (holds-bytes c j).sends)).1.size
      ∙ (lent-bytes (c + 1)).size
      ∙ ap (outbox_length F.settings.n F.settings.t F.settings.k) (add-one c)

  some_length : (c : ℕ) → suc c ≤ 3 * F.settings.t + 8 → 1 ≤ (layout_at F (suc c)).length
  some_length c l = length_pos p.coded (suc c) (omega arith) l

  slot_size : (c i j : ℕ) → suc c ≤ 3 * F.settings.t + 8 → Numbered F.settings.n i
      → length (slot_to F (suc c) (played F (suc c)) i j) ≡ width (layout_at F (suc c))
  slot_size c i j l v =
      ⊎_elim
      (λ (y : F.faulty j ≡ true).
      ap length (slot_faulty F (suc c) (played F (suc c)) i j y) ∙ sent_sized (layout_at F (suc c)) (F.said (suc c) j i) (p.said_length (suc c) j i))
      (λ (y : F.faulty j ≡ false).
      ap length (slot_correct F (suc c) (played F (suc c)) i j y)
      ∙ length_slot (played F (suc c) j).outbox (layout_at F (suc c)) i v.least
      (subst (λ (m : ℕ). i * width (layout_at F (suc c)) ≤ m)
      (sym (sent_size c j y ∙ outbox_is run_number F.settings.n F.settings.t F.settings.k (suc c) (some_length c l)))
      (mul-le-mul_right (width (layout_at F (suc c))) v.most)))
      (either (F.faulty j))

  pub inbox_size : (c i : ℕ) → c ≤ 3 * F.settings.t + 8 → Numbered F.settings.n i
      → length (inbox_of F c (played F c) i) ≡ inbox_length F.settings.n F.settings.t F.settings.k (c + 1)
  inbox_size zero i l v = ap length (inbox_first F (played F 0) i) ∙ sym (first_inbox F.settings.n F.settings.t F.settings.k)
  inbox_size (suc c) i l v =
      ap length (inbox-later F c (played F (suc c)) i)
      ∙ length-joined (width (layout_at F (suc c))) (λ x. slot_to F (suc c) (played F (suc c)) i (x + 1)) F.settings.n (λ x b. slot_size c i (x + 1) l v)
      ∙ sym (inbox_is run_number F.settings.n F.settings.t F.settings.k (suc c) (some_length c l))

  -- slot i of an inbox is what came from i
  pub in_slot : (c i j : ℕ) → suc c ≤ 3 * F.settings.t + 8 → Numbered F.settings.n i → Numbered F.settings.n j
      → slot_of (inbox_of F (suc c) (played F (suc c)) j) (layout_at F (suc c)) i ≡ slot_to F (suc c) (played F (suc c)) j i
  in_slot c i j l v w =
      let a = v.least in
      let b = v.most in
      let e : i - 1 + 1 ≡ i = omega arith in
      slot_is (inbox_of F (suc c) (played F (suc c)) j) (layout_at F (suc c)) i
      ∙ ap (λ (x : List ℕ). part (width (layout_at F (suc c))) x (i - 1)) (inbox-later F c (played F (suc c)) j)
      ∙ part_joined (width (layout_at F (suc c))) (λ x. slot_to F (suc c) (played F (suc c)) j (x + 1)) F.settings.n (λ x d. slot_size c j (x + 1) l w)
      (i - 1) (omega arith)
      ∙ ap (slot_to F (suc c) (played F (suc c)) j) e
