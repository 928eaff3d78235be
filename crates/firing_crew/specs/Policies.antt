-- Policies.
use Rattle.std.specs.Prelude.{ℕ, ◌+◌, ◌%◌}

-- what a policy with this turn answers to a count and a word; the sum has no bound
abbrev pub chosen : ℕ → ℕ → ℕ → ℕ
chosen turn count word = (word + turn) % count
