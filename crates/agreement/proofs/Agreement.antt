-- Demand 3: `agreement`. Its corollary for readers: `one_plan`. Beside it, whom correct controllers name (document 02, U1 and U11): `named_by-last`,
-- `no_correct_named`, `late_named` and `named_by-many`; who held the block that is agreed on, and who is in the core (document 02, U14):
-- `held_by_many`, `held_on` and `all_in_core`.
use mathlib.Core.Path.{◌≡◌, sym, ap, ◌∙◌}
use mathlib.Core.Bool.{not}
use mathlib.Core.Logic.{⊎_elim}
use Prim.Native.Nat.{ℕ, ◌+◌, ◌-◌, ◌≤◌, ◌<◌}
use native.Mathlib.Omega.{arith}
use Rattle.lists.proofs.Sums.{count_mono}
use Rattle.lists.proofs.Tests.{true≢false, fails, lt_or_le}
use Rattle.bitset.specs.Set.{member}
use Rattle.reed_solomon.specs.Decode.{is_named}
use Rattle.reed_solomon.proofs.Laws.{member_named, named_other_run}
use Rattle.agreement.specs.Run.{Local}
use Rattle.agreement.specs.Agreement.{System, Correct, Supposed, Agreement, OnePlan, last, piece_layout, last_inbox, block_of}
use Rattle.agreement.specs.Named.{NamedByLast, NoCorrectNamed, LateNamed, NamedByMany}
use Rattle.agreement.specs.Held.{block_after, HeldByMany, HeldOn, AllInCore}
use Rattle.agreement.proofs.System.{coded, call_next, call-last, block-from, later}
use Rattle.agreement.proofs.Coding.{Code, code_laws}
use Rattle.agreement.proofs.Graph.{Graph, graph_laws}
use Rattle.agreement.proofs.Votes.{by_index}
use Rattle.agreement.proofs.Cores.{last_matrix, core_from}
use Rattle.agreement.proofs.Ends.{set_by_last, named_at_end}
use Rattle.agreement.proofs.Verdict.{verdict, agreed_held, sender-in_core, sender_verdict, alike_verdict}

-- the laws of the code and of the star, for the settings and the matrix of a correct controller
module _ (S : System) (H : Supposed S) (i : ℕ) (f : Correct S i) where
  code_at : Code S.run S.settings.n S.settings.t S.settings.k
  code_at = code_laws S.run S.settings.n S.settings.t S.settings.k (coded S H i f)

  graph_at : Graph (last_matrix S i) S.settings.n S.settings.t
  graph_at = graph_laws S.settings.n S.settings.t (coded S H i f).quorum (last_matrix S i)

-- demand 3
pub agreement : Agreement
agreement S H = record {
  set = set_by_last S H;
  later = later S H;
  same_outcome = λ i j f g. let v = (verdict S H i f (code_at S H i f) (graph_at S H i f)).2 in (v.all i f).0 ∙ sym (v.all j g).0;
  same_block = λ i j f g. let v = (verdict S H i f (code_at S H i f) (graph_at S H i f)).2 in (v.all i f).1 ∙ sym (v.all j g).1;
  sender-outcome = λ i g f. ((sender_verdict S H i f (code_at S H i f) (graph_at S H i f) g).all i f).0;
  sender-block = λ i g f. ((sender_verdict S H i f (code_at S H i f) (graph_at S H i f) g).all i f).1;
  alike-outcome = λ i B a f. ((alike_verdict S H i f (code_at S H i f) (graph_at S H i f) B a).all i f).0;
  alike-block = λ i B a f. ((alike_verdict S H i f (code_at S H i f) (graph_at S H i f) B a).all i f).1;
}

-- no two correct controllers hold different blocks
pub one_plan : OnePlan
one_plan S H i j f g A B a b = sym a.1 ∙ (agreement S H).same_block i j f g ∙ b.1

-- whom a correct controller names at the end
pub named_by-last : NamedByLast
named_by-last = named_at_end

-- no correct controller names a correct one
pub no_correct_named : NoCorrectNamed
no_correct_named S H i j f g = (verdict S H i f (code_at S H i f) (graph_at S H i f)).2.unnamed i j f g

-- whoever's slot in the last round carries another run's number is named
pub late_named : LateNamed
late_named S H i j f least most agreed late =
    let e : j - 1 + 1 ≡ j = omega arith in
    let layout = piece_layout S in
    ap (λ (m : ℕ). member m (j - 1)) ((named_by-last S H i f).agreed agreed)
    ∙ member_named S.settings.n S.settings.t layout (last_inbox S i) (block_of S i) (j - 1) (omega arith)
    ∙ ap (is_named S.settings.t layout (last_inbox S i) (block_of S i)) e
    ∙ named_other_run S.settings.t layout (last_inbox S i) (block_of S i) j (coded S H i f).k_least late

-- whoever is named by t + 1 is not correct: those who name a correct one are not correct, and they are at most t
pub named_by-many : NamedByMany
named_by-many S H shown true-marks j many g =
    omega (
      arith,
      H.few,
      count_mono S.settings.n (λ x. member (shown (x + 1)) (j - 1)) (λ x. not (S.correct (x + 1)))
          (λ x l m. ap not (fails (S.correct (x + 1)) (λ c.
          let f = by_index S x (l, c) in
          true≢false (sym m ∙ ap (λ (r : ℕ). member r (j - 1)) (true-marks (x + 1) f) ∙ no_correct_named S H (x + 1) j f g)))),
    )

-- a block that is agreed on was held by t + 1 correct controllers after call 2
pub held_by_many : HeldByMany
held_by_many S H i B f = agreed_held S H i f (code_at S H i f) (graph_at S H i f) i B f

-- and whoever held it then holds it after every later call: up to the last one they keep the block, and that one leaves the block agreed on
pub held_on : HeldOn
held_on S H i j B f g a e c least most =
    ⊎_elim
    (λ (l : c < last S).
    sym (ap (λ (h : Local). h.block) (call_next S H j g c (omega arith) (omega arith)))
    ∙ block-from S H j g (c + 1) (omega arith) (omega arith)
    ∙ e)
    (λ (l : last S ≤ c).
    let is : c ≡ last S = omega arith in
    ap (block_after S j) is
    ∙ ap (λ (h : Local). h.block) (call-last S H j g)
    ∙ (agreement S H).same_block j i g f
    ∙ a.1)
    (lt_or_le c (last S))

-- with a correct sender every correct controller is in the core
pub all_in_core : AllInCore
all_in_core S H g i j fi fj c least most =
    ap (λ (s : ℕ). member s (j - 1)) (core_from S H i fi c least most) ∙ sender-in_core S H i fi (code_at S H i fi) (graph_at S H i fi) g j fj
