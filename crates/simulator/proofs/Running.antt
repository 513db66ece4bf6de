-- Laws of the run as the code does it. The main ones: `read_text` (the message that stands in the file, read), `turn_silent`, `turn_said` and `turn_sent`
-- (a slot of an inbox more), `fill_end` (all of them).
use mathlib.Core.Path.{◌≡◌, refl, sym, ap, ap₂, ◌∙◌}
use mathlib.Core.Bool.{true, false}
use mathlib.Core.List.{List, [], ◌∷◌, ◌++◌, append-nil, append_assoc}
use mathlib.Core.Logic.{⊎_elim}
use Prim.Native.Nat.{ℕ, zero, suc, ◌+◌, ◌-◌, ◌*◌, ◌≤◌, ◌<◌}
use native.Mathlib.Omega.{arith}
use native.Mathlib.Nat.{suc-mul, zero-mul, add-mul, mul-le-mul, mul-le-mul_right}
use lib.ListN.{length, get_or, take, drop, replicate, length-append, length-drop, drop_of_length-le}
use lib.Seq.{length-take-le, take_all}
use Rattle.lists.specs.Join.{joined}
use Rattle.lists.proofs.Tests.{same_or_not}
use Rattle.lists.proofs.Zeros.{length-zeros, drop-zeros, zeros_split}
use Rattle.lists.proofs.Joins.{joined_none, joined_more}
use Rattle.bitset.specs.Set.{member}
use Rattle.text.specs.Read.{bytes_of}
use Rattle.text.proofs.Laws.{length-bytes_of}
use Rattle.settings.specs.declared.Settings.{Settings}
use Rattle.wire.specs.declared.slot.Layout.{Layout}
use Rattle.wire.specs.declared.Round.{Round}
use Rattle.wire.specs.declared.Round.TheVariants.{Block, Pieces, Marks, Matrix, Seen, King, Forward, Rebuild, Outside}
use Rattle.wire.specs.Round.{round_kind}
use Rattle.wire.specs.Length.{block_length, row_length, message_length, inbox_length, outbox_length}
use Rattle.wire.specs.Slot.{width, slot_of, bytes, written, put_slot, relayed}
use Rattle.wire.proofs.Laws.{width_le, message_length_is, block_length_is, row_block, row_pieces, row_marks, row_matrix, row_seen, row_king, row_forward}
use Rattle.wire.proofs.Laws.{row_rebuild, row_outside, length_pos, outbox_is, inbox_is, first_inbox, last-outbox, silent_slot}
use Rattle.wire.proofs.Laws.{put_into, relay_into}
use Rattle.system_file.specs.declared.SystemFile.{SystemFile}
use Rattle.std.specs.Prelude.{Some, None}
use Rattle.system_file.specs.Table.{text_of, place_in, some_place}
use Rattle.system_file.proofs.Laws.{text_none, text_some}
use Rattle.simulation.specs.Run.{run_number, Scenario, Playing, sent_as, slot_to, inbox_of}
use Rattle.simulation.proofs.Laws.{slot_faulty, slot_correct, inbox_first, inbox-later}
use Rattle.simulator.specs.Play.{FileSettings, Playable}
use Rattle.simulator.specs.Steps.{layout_in, inbox_in, Making, scene, sent_by}

-- the digits of a message that stands in the file, read into m
pub read_text : (input m : List ℕ) (len place : ℕ) → (place ≡ 0 → ⊥) → length m ≡ len → place + 2 * len ≤ length input
    → take (length m) (bytes_of (take (place + 2 * len - place) (drop place input))) ++ drop
    (length (bytes_of (take (place + 2 * len - place) (drop place input)))) m
    ≡ text_of input len place
read_text input m len place some size room =
    let e : place + 2 * len - place ≡ 2 * len = omega arith in
    let f = take (2 * len) (drop place input) in
    let long : length (bytes_of f) ≡ len = length-bytes_of len f (length-take-le (2 * len) (drop place input) (omega (arith, length-drop place input))) in
    ap (λ (x : ℕ). take (length m) (bytes_of (take x (drop place input))) ++ drop (length (bytes_of (take x (drop place input)))) m) e
    ∙ ap₂ ◌++◌ (take_all (length m) (bytes_of f) (omega arith)) (drop_of_length-le m {i = length (bytes_of f)} (omega arith))
    ∙ append-nil (bytes_of f)
    ∙ sym (text_some input len place some)

-- ---- a place that is answered
pub place_is : (p x : ℕ) → Some p ≡ some_place x → (p ≡ x) × (1 ≤ p)
place_is p zero e = let z : ◌≡◌ {A = ℕ} 0 1 = cc in absurd (omega arith)
place_is p (suc x) e = let q : p ≡ suc x = cc in (q, omega (arith, q))

pub no_place : (x : ℕ) → None ≡ some_place x → x ≡ 0
no_place zero e = refl
no_place (suc x) e = let z : ◌≡◌ {A = ℕ} 0 1 = cc in absurd (omega arith)

-- ---- an inbox filled slot by slot
sent_some : (m : List ℕ) → 0 < length m → sent_as m ≡ bytes m
sent_some [] l = absurd (omega arith)
sent_some (x ∷ m) l = refl

abbrev zeros : ℕ → List ℕ
zeros m = replicate m 0

rest_zeros : (w m : ℕ) → drop w (zeros (w + m)) ≡ zeros m
rest_zeros w m = let e : w + m - w ≡ m = omega arith in drop-zeros w (w + m) ∙ ap zeros e

-- the outbox of the controller of index x, as the code keeps it
abbrev pub sent : List (List ℕ) → ℕ → ℕ → List ℕ
sent boxes o x = take o (get_or boxes x [])

-- slot x of the inbox, counted from 0, and the inbox after j slots
abbrev pub slot_at : (input : List ℕ) (file : SystemFile) (boxes : List (List ℕ)) (c i : ℕ) → ℕ → List ℕ
slot_at input file boxes c i x = slot_to (scene input file []) c (sent_by boxes (inbox_in file.settings c)) i (x + 1)

abbrev pub filled_to : (input : List ℕ) (file : SystemFile) (boxes : List (List ℕ)) (c i : ℕ) → ℕ → List ℕ
filled_to input file boxes c i j =
    joined (slot_at input file boxes c i) j ++ zeros ((file.settings.n - j) * width (layout_in file.settings c))

-- the inbox of a later call
later_inbox : (F : Scenario) (now : ℕ → Playing) (i c : ℕ) → 1 ≤ c → joined (λ x. slot_to F c now i (x + 1)) F.settings.n ≡ inbox_of F c now i
later_inbox F now i zero l = absurd (omega arith)
later_inbox F now i (suc c) l = sym (inbox-later F c now i)

module _ {input : List ℕ} {file : SystemFile} {c i : ℕ} {inbox₀ : List ℕ} (boxes : List (List ℕ)) (play : Playable input file) (h : Making input file c i inbox₀) (later : 1 ≤ c) where
  abbrev slot : ℕ → List ℕ
  slot = slot_at input file boxes c i

  abbrev filled : ℕ → List ℕ
  filled = filled_to input file boxes c i

  some : 0 < message_length file.settings.n file.settings.t file.settings.k c
  some = length_pos play.small.coded c later h.calls-most

  outbox_fits : inbox_in file.settings c ≡ file.settings.n * width (layout_in file.settings c)
  outbox_fits = inbox_is run_number file.settings.n file.settings.t file.settings.k c some

  pub length-cleared : length inbox₀ ≡ inbox_in file.settings c
  length-cleared = ap length h.cleared ∙ length-zeros (inbox_in file.settings c)

  said : ℕ → List ℕ
  said x = text_of input (message_length file.settings.n file.settings.t file.settings.k c) (place_in file.places c (x + 1) i)

  pub place-room : (x : ℕ) → (place_in file.places c (x + 1) i ≡ 0 → ⊥)
      → place_in file.places c (x + 1) i + 2 * message_length file.settings.n file.settings.t file.settings.k c ≤ length input
  place-room x n = play.rooms.room c (x + 1) i n

  said_length : (x : ℕ) → (place_in file.places c (x + 1) i ≡ 0 → ⊥) → length (said x) ≡ message_length file.settings.n file.settings.t file.settings.k c
  unfolding said
  said_length x n =
      let len = message_length file.settings.n file.settings.t file.settings.k c in
      let p = place_in file.places c (x + 1) i in
      ap length (text_some input len p n)
      ∙ length-bytes_of len (take (2 * len) (drop p input)) (length-take-le (2 * len) (drop p input) (omega (arith, length-drop p input, place-room x n)))

  back : (x : ℕ) → x + 1 - 1 ≡ x
  back x = omega arith

  at_silent : (x : ℕ) → member file.faulty x ≡ true → place_in file.places c (x + 1) i ≡ 0 → slot x ≡ zeros (width (layout_in file.settings c))
  at_silent x f z =
      let len = message_length file.settings.n file.settings.t file.settings.k c in
      slot_faulty (scene input file []) c (sent_by boxes (inbox_in file.settings c)) i (x + 1) (ap (member file.faulty) (back x) ∙ f)
      ∙ ap (λ (p : ℕ). written (layout_in file.settings c) (sent_as (text_of input len p))) z
      ∙ ap (λ (s : List ℕ). written (layout_in file.settings c) (sent_as s)) (text_none input len)
      ∙ silent_slot (layout_in file.settings c)

  at_said : (x : ℕ) → member file.faulty x ≡ true → (place_in file.places c (x + 1) i ≡ 0 → ⊥) → slot x ≡ written (layout_in file.settings c) (bytes (said x))
  unfolding said
  at_said x f z =
      slot_faulty (scene input file []) c (sent_by boxes (inbox_in file.settings c)) i (x + 1) (ap (member file.faulty) (back x) ∙ f)
      ∙ ap (written (layout_in file.settings c)) (sent_some (said x) (omega (arith, said_length x z, some)))

  at_correct : (x : ℕ) → member file.faulty x ≡ false → slot x ≡ slot_of (sent boxes (inbox_in file.settings c) x) (layout_in file.settings c) i
  at_correct x f =
      slot_correct (scene input file []) c (sent_by boxes (inbox_in file.settings c)) i (x + 1) (ap (member file.faulty) (back x) ∙ f)
      ∙ ap (λ (y : ℕ). slot_of (sent boxes (inbox_in file.settings c) y) (layout_in file.settings c) i) (back x)

  -- the inbox after j slots, which is as long as it was
  module _ {j : ℕ} (l : j < file.settings.n) {inbox : List ℕ} (e : inbox ≡ filled_to input file boxes c i j) (same : length inbox ≡ length inbox₀)
      {layout : Layout} (lay : layout ≡ layout_in file.settings c) where
    rest_is : (file.settings.n - j) * width (layout_in file.settings c) ≡ width (layout_in file.settings c) + (file.settings.n - (j + 1)) * width (layout_in file.settings c)
    rest_is =
        let e : file.settings.n - j ≡ suc (file.settings.n - (j + 1)) = omega arith in
        ap (λ (y : ℕ). y * width (layout_in file.settings c)) e ∙ omega (arith, suc-mul (file.settings.n - (j + 1)) (width (layout_in file.settings c)))

    all_is : file.settings.n * width (layout_in file.settings c) ≡ j * width (layout_in file.settings c) + (file.settings.n - j) * width (layout_in file.settings c)
    all_is =
        let e : file.settings.n ≡ j + (file.settings.n - j) = omega arith in
        ap (λ (y : ℕ). y * width (layout_in file.settings c)) e ∙ add-mul j (file.settings.n - j) (width (layout_in file.settings c))

    front_is : length (joined slot j) ≡ j * width (layout_in file.settings c)
    front_is =
        let r = (file.settings.n - j) * width (layout_in file.settings c) in
        omega (arith, sym (ap length e), length-append (joined slot j) (zeros r), length-zeros r, same, length-cleared, outbox_fits, all_is)

    -- a slot v written behind the first j
    goes_on : (v : List ℕ) → slot j ≡ v
        → joined slot j ++ (v ++ drop (width (layout_in file.settings c)) (zeros ((file.settings.n - j) * width (layout_in file.settings c)))) ≡ filled (j + 1)
    goes_on v g =
        ap₂ (λ (x y : List ℕ). joined slot j ++ (x ++ y)) (sym g)
        (ap (λ (y : ℕ). drop (width (layout_in file.settings c)) (zeros y)) rest_is
        ∙ rest_zeros (width (layout_in file.settings c)) ((file.settings.n - (j + 1)) * width (layout_in file.settings c)))
        ∙ sym (append_assoc (joined slot j) (slot j) (zeros ((file.settings.n - (j + 1)) * width (layout_in file.settings c))))
        ∙ ap (λ (x : List ℕ). x ++ zeros ((file.settings.n - (j + 1)) * width (layout_in file.settings c))) (sym (joined_more slot j))

    room_left : width (layout_in file.settings c) ≤ length (zeros ((file.settings.n - j) * width (layout_in file.settings c)))
    room_left = omega (arith, rest_is, length-zeros ((file.settings.n - j) * width (layout_in file.settings c)))

    -- the turns of the loop
    pub turn_silent : member file.faulty j ≡ true → place_in file.places c (j + 1) i ≡ 0 → inbox ≡ filled_to input file boxes c i (j + 1)
    turn_silent f z =
        let v = width (layout_in file.settings c) in
        let r = (file.settings.n - (j + 1)) * width (layout_in file.settings c) in
        e ∙ ap (λ (x : List ℕ). joined slot j ++ x)
        (ap zeros rest_is ∙ zeros_split v r
        ∙ ap (λ (x : List ℕ). zeros v ++ x) (sym (ap (λ (y : ℕ). drop v (zeros y)) rest_is ∙ rest_zeros v r)))
        ∙ goes_on (zeros v) (at_silent j f z)

    pub turn_said : member file.faulty j ≡ true → (place_in file.places c (j + 1) i ≡ 0 → ⊥) → {place : ℕ} → place ≡ place_in file.places c (j + 1) i
        → {inbox' : List ℕ}
        → inbox' ≡ put_slot inbox layout (j + 1) (text_of input layout.length place)
        → inbox' ≡ filled_to input file boxes c i (j + 1)
    unfolding said
    turn_said f n {place} p d =
        let len = message_length file.settings.n file.settings.t file.settings.k c in
        d ∙ ap (λ (x : Layout). put_slot inbox x (j + 1) (text_of input x.length place)) lay ∙ ap₂ (λ (x : List ℕ) (y : ℕ). put_slot x (layout_in file.settings c) (j + 1) (text_of input len y)) e p
        ∙ put_into (layout_in file.settings c) (joined slot j) (zeros ((file.settings.n - j) * width (layout_in file.settings c))) j front_is room_left
        (said j) (said_length j n)
        ∙ goes_on (written (layout_in file.settings c) (bytes (said j))) (at_said j f n)

    pub turn_sent : member file.faulty j ≡ false → {outbox : List ℕ} → outbox ≡ sent boxes (inbox_in file.settings c) j → length outbox ≡ inbox_in file.settings c
        → {inbox' : List ℕ} → inbox' ≡ relayed inbox layout (j + 1) outbox i → inbox' ≡ filled_to input file boxes c i (j + 1)
    turn_sent f {outbox} g size d =
        let v = width (layout_in file.settings c) in
        let room : i * v ≤ length (sent boxes (inbox_in file.settings c) j) = omega (arith, size, ap length g, outbox_fits, mul-le-mul_right v h.number-most) in
        d ∙ ap (λ (x : Layout). relayed inbox x (j + 1) outbox i) lay ∙ ap₂ (λ (x y : List ℕ). relayed x (layout_in file.settings c) (j + 1) y i) e g
        ∙ relay_into (layout_in file.settings c) (joined slot j) (zeros ((file.settings.n - j) * v)) j front_is room_left (sent boxes (inbox_in file.settings c) j) i
        h.number-least room
        ∙ goes_on (slot_of (sent boxes (inbox_in file.settings c) j) (layout_in file.settings c) i) (at_correct j f)

  pub fill_start : inbox₀ ≡ filled_to input file boxes c i 0
  fill_start =
      let e : file.settings.n - 0 ≡ file.settings.n = omega arith in
      h.cleared ∙ ap zeros (outbox_fits ∙ ap (λ (y : ℕ). y * width (layout_in file.settings c)) (sym e))
      ∙ ap (λ (x : List ℕ). x ++ zeros ((file.settings.n - 0) * width (layout_in file.settings c))) (sym (joined_none slot))

  pub fill_end : {inbox : List ℕ} {j : ℕ} → j ≡ file.settings.n → inbox ≡ filled_to input file boxes c i j
      → inbox ≡ inbox_of (scene input file []) c (sent_by boxes (inbox_in file.settings c)) i
  fill_end {inbox} {j} q e =
      let z : file.settings.n - file.settings.n ≡ 0 = omega arith in
      e ∙ ap filled q
      ∙ ap (λ (x : List ℕ). joined slot file.settings.n ++ x)
      (ap (λ (y : ℕ). zeros (y * width (layout_in file.settings c))) z ∙ ap zeros (zero-mul (width (layout_in file.settings c))))
      ∙ append-nil (joined slot file.settings.n) ∙ later_inbox (scene input file []) (sent_by boxes (inbox_in file.settings c)) i c later

-- ---- sizes
small_row : (r : Round) (n t k : ℕ) → n ≤ 16 → t ≤ 5 → k ≤ 32 → row_length r n t k ≤ 192
small_row Block n t k a b c = omega (arith, row_block n t k, block_length_is k t, mul-le-mul {n₁ = k} {m₁ = t + 1} {n₂ = 32} {m₂ = 6} c (omega arith))
small_row Pieces n t k a b c = omega (arith, row_pieces n t k)
small_row Marks n t k a b c = omega (arith, row_marks n t k)
small_row Matrix n t k a b c = omega (arith, row_matrix n t k)
small_row Seen n t k a b c = omega (arith, row_seen n t k)
small_row King n t k a b c = omega (arith, row_king n t k)
small_row Forward n t k a b c = omega (arith, row_forward n t k)
small_row Rebuild n t k a b c = omega (arith, row_rebuild n t k)
small_row Outside n t k a b c = omega (arith, row_outside n t k)

module _ {S : Settings} (v : FileSettings S) where
  pub message_le : (c : ℕ) → message_length S.n S.t S.k c ≤ 192
  message_le c =
      omega (
        arith,
        message_length_is v.coded c,
        small_row (round_kind S.t c) S.n S.t S.k v.coded.quorum.n_most
            (omega (arith, v.coded.quorum.t_most, v.coded.quorum.n_most)) v.few-stripes,
      )

  pub block_le : block_length S.k S.t ≤ 192
  block_le =
      omega (
        arith,
        row_block S.n S.t S.k,
        small_row Block S.n S.t S.k v.coded.quorum.n_most
            (omega (arith, v.coded.quorum.t_most, v.coded.quorum.n_most)) v.few-stripes,
      )

  box_most : (layout : Layout) → layout.length ≤ 192 → S.n * width layout ≤ 3120
  box_most layout l =
      omega (arith, mul-le-mul {n₁ = S.n} {m₁ = width layout} {n₂ = 16} {m₂ = 195} v.coded.quorum.n_most (omega (arith, width_le layout)))

  pub inbox_le : (c : ℕ) → c ≤ 3 * S.t + 8 → inbox_length S.n S.t S.k (c + 1) ≤ 3120
  inbox_le zero l = omega (arith, first_inbox S.n S.t S.k)
  inbox_le (suc c) l =
      omega (
        arith,
        inbox_is run_number S.n S.t S.k (suc c) (length_pos v.coded (suc c) (omega arith) l),
        box_most (layout_in S (suc c)) (message_le (suc c)),
      )

  pub outbox_le : (c : ℕ) → 1 ≤ c → c ≤ 3 * S.t + 9 → outbox_length S.n S.t S.k c ≤ 3120
  outbox_le c least most =
      ⊎_elim
      (λ (e : c ≡ 3 * S.t + 9). omega (arith, ap (outbox_length S.n S.t S.k) e, last-outbox S.n S.t S.k))
      (λ (d : c ≡ 3 * S.t + 9 → ⊥).
      omega (arith, outbox_is run_number S.n S.t S.k c (length_pos v.coded c least (omega arith)), box_most (layout_in S c) (message_le c)))
      (same_or_not c (3 * S.t + 9))

-- ---- the inbox of the first call
pub first_made : (F : Scenario) (now : ℕ → Playing) (c i : ℕ) (inbox : List ℕ) → c ≡ 0
    → inbox ≡ zeros (inbox_length F.settings.n F.settings.t F.settings.k (c + 1)) → inbox ≡ inbox_of F c now i
first_made F now c i inbox z e =
    e ∙ ap (λ (x : ℕ). zeros (inbox_length F.settings.n F.settings.t F.settings.k (x + 1))) z
    ∙ ap zeros (first_inbox F.settings.n F.settings.t F.settings.k)
    ∙ sym (ap (λ (x : ℕ). inbox_of F x now i) z ∙ inbox_first F now i)
