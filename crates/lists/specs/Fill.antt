-- Lists given by a function of the index.
--   tabulate f n  f 0, .., f (n - 1)
--   filled f n d  d with its first n elements, or all where it has fewer, replaced by f 0, f 1, ..
use Rattle.std.specs.Prelude.{List, [], ◌∷◌, ℕ, zero, suc}

unfoldable pub tabulate {ℓ} : {A : Type ℓ} → (ℕ → A) → ℕ → List A
tabulate f zero = []
tabulate f (suc n) = f 0 ∷ tabulate (λ i. f (suc i)) n

unfoldable pub filled {ℓ} : {A : Type ℓ} → (ℕ → A) → ℕ → List A → List A
filled f zero d = d
filled f (suc n) [] = []
filled f (suc n) (x ∷ d) = f 0 ∷ filled (λ i. f (suc i)) n d
