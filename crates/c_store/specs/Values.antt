-- What expressions are worth, and what cells hold.
use Rattle.std.specs.Prelude.{ℕ, List}

pub data Value : Type 0 where
  Word : (n : ℕ) → Value
  -- the null pointer, of objects and of functions
  Null : Value
  -- a pointer into the object of this number, which has so many cells, at an offset
  Point : (object length offset : ℕ) → Value
  -- a pointer into the string literal of this number, at an offset
  Letter : (literal offset : ℕ) → Value
  -- a pointer to the function of this number
  Function : (function : ℕ) → Value
  -- of what gives no result
  Missing : Value

pub data Cell : Type 0 where
  Unset : Cell
  Holds : (v : Value) → Cell

-- a string literal: the function in which it stands (0 at file scope), how many stand before it there, and its text
pub record Literal : Type 0 where
  pub owner : ℕ
  pub number : ℕ
  pub text : List ℕ

-- an object that lives
pub record Object : Type 0 where
  pub number : ℕ
  pub cells : List Cell

-- the memory of a run
pub record Stack : Type 0 where
  -- the number that the next object gets
  pub next : ℕ
  -- the live objects, the oldest first
  pub live : List Object
