-- Lists of steps none of which is refused: their calls are the steps one after the other (`calls_made`), and the last leaves what is held at the
-- end (`ends_with`).
use mathlib.Core.Path.{◌≡◌, sym, ap, ◌∙◌}
use mathlib.Core.Bool.{true}
use mathlib.Core.List.{List, ◌∷◌}
use Prim.Native.Nat.{ℕ, zero, suc, ◌<◌}
use native.Mathlib.Omega.{arith}
use Rattle.lists.specs.Fill.{tabulate}
use Rattle.lists.proofs.Tests.{cond_yes}
use Rattle.lists.proofs.Fills.{tabulate_none, tabulate_front}
use Rattle.agreement.specs.Run.{Lent, Local, Made, left, carried_out, left_after, made, calls}

-- h 0, h 1, .. are what is held, and l 0, l 1, .. what is lent
pub record Goes (h : ℕ → Local) (l : ℕ → Lent) (x : ℕ) : Type 0 where
  pub next : left (h x) (l x) ≡ h (suc x)
  pub out : carried_out (h x) (l x) ≡ true

pub calls_made : (d : ℕ) (h : ℕ → Local) (l : ℕ → Lent) → ((x : ℕ) → x < d → Goes h l x)
    → calls (h 0) (tabulate l d) ≡ tabulate (λ x. made (h x) (l x)) d
calls_made zero h l g = ap (calls (h 0)) (tabulate_none l) ∙ sym (tabulate_none (λ x. made (h x) (l x)))
calls_made (suc d) h l g =
    let first = g 0 (omega arith) in
    let rest = tabulate (λ x. l (suc x)) d in
    ap (calls (h 0)) (tabulate_front l d)
    ∙ cond_yes (carried_out (h 0) (l 0)) (made (h 0) (l 0) ∷ calls (left (h 0) (l 0)) rest) (calls (left (h 0) (l 0)) rest) first.out
    ∙ ap (λ (y : Local). made (h 0) (l 0) ∷ calls y rest) first.next
    ∙ ap (λ (m : List Made). made (h 0) (l 0) ∷ m)
    (calls_made d (λ x. h (suc x)) (λ x. l (suc x)) (λ x b. let q = g (suc x) (omega arith) in record { next = q.next; out = q.out }))
    ∙ sym (tabulate_front (λ x. made (h x) (l x)) d)

pub ends_with : (d : ℕ) (h : ℕ → Local) (l : ℕ → Lent) → ((x : ℕ) → x < d → Goes h l x) → left_after (h 0) (tabulate l d) ≡ h d
ends_with zero h l g = ap (left_after (h 0)) (tabulate_none l)
ends_with (suc d) h l g =
    ap (left_after (h 0)) (tabulate_front l d)
    ∙ ap (λ (y : Local). left_after y (tabulate (λ x. l (suc x)) d)) (g 0 (omega arith)).next
    ∙ ends_with d (λ x. h (suc x)) (λ x. l (suc x)) (λ x b. let q = g (suc x) (omega arith) in record { next = q.next; out = q.out })
