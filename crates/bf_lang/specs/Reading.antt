-- A text, read up to a place.
use Rattle.std.specs.Prelude.{◌≡◌, ℕ, ◌+◌, ◌<◌, ◌≤◌, List, length, take}
use Rattle.std.specs.List.{count_by}
use Rattle.bf_lang.specs.declared.text.Brackets.{Brackets}
use Rattle.bf_lang.specs.Brackets.{Stands}
use Rattle.bf_lang.specs.Text.{is_open_byte, is_close_byte}

-- how many bytes before a place are `[`
abbrev pub opens_before : List ℕ → ℕ → ℕ
opens_before text p = count_by is_open_byte (take p text)

-- how many are `]`
abbrev pub closes_before : List ℕ → ℕ → ℕ
closes_before text p = count_by is_close_byte (take p text)

-- the `[` at a place is open up to another, and no bracket is open before it
pub record IsOuter (text : List ℕ) (k outer : ℕ) : Type 0 where
  pub opening : Stands is_open_byte text outer
  pub before : outer < k
  pub even : opens_before text outer ≡ closes_before text outer
  pub above : (p : ℕ) → outer < p → p ≤ k → closes_before text p < opens_before text p

-- up to a place no `]` is without its `[`, and these brackets are open
pub record IsScanned (text : List ℕ) (k : ℕ) (brackets : Brackets) : Type 0 where
  pub within : k ≤ length text
  pub whole : (p : ℕ) → p ≤ k → closes_before text p ≤ opens_before text p
  pub level : opens_before text k ≡ closes_before text k + brackets.depth
  pub outer : 0 < brackets.depth → IsOuter text k brackets.outer
