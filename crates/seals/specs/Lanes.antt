-- The check word of a block by sums: every fourth of its words is a lane, with the sum of its words and the sum of these sums.
use Rattle.std.specs.Prelude.{ℕ, ◌+◌, ◌-◌, ◌*◌, ◌%◌}

-- a to d are the sums of four lanes of 32 words and x to z, t those of their sums, modulo 2 ^ 32; w is word 127, which has no part in the check word.
-- 300 × 2 ^ 32 keeps the difference from going below zero
abbrev pub lanes_check : ℕ → ℕ → ℕ → ℕ → ℕ → ℕ → ℕ → ℕ → ℕ → ℕ
lanes_check a x b y c z d t w = (257 * a + 259 * b + 261 * c + 263 * d + (1288490188800 - (8 * (x + y + z + t) + 255 * w))) % 4294967296
