-- Numbers that become words.
use Rattle.std.specs.Prelude.{◌≡◌, ℕ, ◌%◌, ◌^◌}

-- a number in the code tells this number modulo 2^24
pub record IsNumber (told n : ℕ) : Type 0 where
  pub same : told % 2 ^ 24 ≡ n % 2 ^ 24
