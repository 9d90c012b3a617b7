-- String literals in the memory.
use Rattle.std.specs.Prelude.{◌≡◌, ℕ, ◌+◌, List, ◌++◌, drop}
use Rattle.c_lowered.specs.Whole.{letters_before}
use Rattle.c_counted.specs.Numbers.{IsNumber}
use Rattle.c_addressing.specs.Here.{first_or}

-- the literals lie one behind the other from an address on; behind them another one is told
pub record AreAddresses (next : List ℕ) (end a : ℕ) (literals : List (List ℕ)) : Type 0 where
  pub told : (n : ℕ) → IsNumber (first_or end (drop n next)) (a + letters_before n literals)

-- their addresses stand behind others
pub record AddsAddresses (old new : List ℕ) (end a : ℕ) (literals : List (List ℕ)) : Type 0 where
  pub more : List ℕ
  pub behind : new ≡ old ++ more
  pub are : AreAddresses more end a literals
