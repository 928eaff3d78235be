-- The words that a worker draws: a generator of the form s := (a s + c) mod m, whose state is the word.
use Rattle.std.specs.Prelude.{ℕ, ◌+◌, ◌*◌, ◌%◌}
use Rattle.firing_crew.specs.declared.draw.TheConstants.{FACTOR, MODULUS, SHIFT}

-- where the words of a caller begin; the sum has no bound
abbrev pub first_state : ℕ → ℕ → ℕ
first_state seed caller = (seed + caller) % MODULUS

-- the word that is drawn after this one
abbrev pub next_word : ℕ → ℕ
next_word word = (FACTOR * word + SHIFT) % MODULUS
