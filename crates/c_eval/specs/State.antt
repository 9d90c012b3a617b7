-- What a run of C has at a moment.
use Rattle.std.specs.Prelude.{ℕ, Bool, List, Option}

-- what an expression is worth
pub data Value : Type 0 where
  -- a number below 2^24
  Word : (n : ℕ) → Value
  -- the null pointer, of objects and of functions
  Null : Value
  -- a pointer into an object, by the object's number and an offset of cells
  Point : (object offset : ℕ) → Value
  -- a pointer into a string literal: the function in which it stands (none at file scope), how many stand before it there, its text, and an offset
  Letter : (owner : Option (List ℕ)) → (number : ℕ) → (text : List ℕ) → (offset : ℕ) → Value
  -- a pointer to a function of the text
  Function : (name : List ℕ) → Value
  -- of what gives no result: a call of a function without one, a cast to void, a struct that stands as a value
  Missing : Value

-- a cell is unset, or holds a word, an object pointer or a function
pub data Cell : Type 0 where
  Unset : Cell
  Holds : (v : Value) → Cell

-- an object is a list of cells; one whose block was left is dead, and keeps its cells
pub record Object : Type 0 where
  pub live : Bool
  pub cells : List Cell

-- the undefined acts
pub data Act : Type 0 where
  ZeroDivisor : Act
  -- an access outside a live object or through null
  OutsideObject : Act
  -- an access of a cell that holds another kind
  OtherKind : Act
  -- a read of an unset cell
  UnsetCell : Act
  -- a write to a string literal
  LiteralWrite : Act
  -- pointer arithmetic on null, or that leaves the object and its end
  PointerArithmetic : Act
  -- order or difference with null, or of pointers into different objects, or a difference that is no whole number of elements
  PointerOrder : Act
  -- equality with a pointer to a dead object, or between one object's end and a pointer into another
  PointerEquality : Act
  -- a shift count of 24 or more
  ShiftCount : Act
  -- the use of the result of a function that gave none
  NoResult : Act
  -- a charge above the limit
  ChargeLimit : Act
  -- a call through null
  NullCall : Act
  -- a helper function went past what it may use; no text that a programmer writes comes here
  HelperLimit : Act

-- the number of an act
abbrev pub number_of : Act → ℕ
number_of ZeroDivisor = 1
number_of OutsideObject = 2
number_of OtherKind = 3
number_of UnsetCell = 4
number_of LiteralWrite = 5
number_of PointerArithmetic = 6
number_of PointerOrder = 7
number_of PointerEquality = 8
number_of ShiftCount = 9
number_of NoResult = 10
number_of ChargeLimit = 11
number_of NullCall = 12
number_of HelperLimit = 13

-- what a run has at a moment
pub record State : Type 0 where
  -- every object that was made, by number
  pub objects : List Object
  -- the units of fuel that are left
  pub left : ℕ
  -- what is left of the second fuel, which the calls and turns of helper functions use
  pub spare : ℕ
  -- the charges of the live calls of helper functions
  pub words : ℕ
  -- the charges of the other live calls
  pub charge : ℕ
  -- how many bytes of the input were taken
  pub taken : ℕ
  -- what was written
  pub output : List ℕ

-- how a part of a run ends
pub data Outcome (A : Type 0) : Type 0 where
  -- it is done, and the run goes on
  Gives : (a : A) → (st : State) → Outcome A
  -- the run has ended
  Ended : (st : State) → Outcome A
  -- a unit of fuel was wanted, and none was left
  Going : (st : State) → Outcome A
  -- an undefined act
  Undefined : (act : Act) → (st : State) → Outcome A

-- a part of a run: what it does from each moment
abbrev pub Run : Type 0 → Type 0
Run A = State → Outcome A
