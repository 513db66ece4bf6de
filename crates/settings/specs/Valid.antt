-- Settings that rows 1 to 5 let pass (document 01, 'The house': n 4 to 16; t at least 1, 3t + 1 at most n; k 1 to 128; numbers 1 to n; document 02,
-- U6: the sender 0 to n, 0 for none).
--   Quorum n t    rows 1 and 2
--   Coded n t k   rows 1 to 3
--   Numbered n i  i is a controller's number
--   Valid s own   rows 1 to 5, own being a controller's own number
use Rattle.std.specs.Prelude.{ℕ, ◌+◌, ◌*◌, ◌≤◌}
use Rattle.settings.specs.declared.Settings.{Settings}

pub record Quorum (n t : ℕ) : Type 0 where
  pub n_least : 4 ≤ n
  pub n_most : n ≤ 16
  pub t_least : 1 ≤ t
  pub t_most : 3 * t + 1 ≤ n

pub record Coded (n t k : ℕ) : Type 0 where
  pub quorum : Quorum n t
  pub k_least : 1 ≤ k
  pub k_most : k ≤ 128

pub record Numbered (n i : ℕ) : Type 0 where
  pub least : 1 ≤ i
  pub most : i ≤ n

pub record Valid (s : Settings) (own : ℕ) : Type 0 where
  pub coded : Coded s.n s.t s.k
  pub number : Numbered s.n own
  pub sender : s.sender ≤ s.n
