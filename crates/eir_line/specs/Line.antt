-- The form of one line of EIR text.
use Rattle.std.specs.Prelude.{ℕ, ◌^◌, nat_lt, Bool, true, List, [], ◌∷◌}
use Rattle.std.specs.List.{list_all}
use Rattle.eir_core.specs.declared.ops.Reg.{Reg}
use Rattle.eir_core.specs.declared.ops.Cond.{Cond}
use Rattle.eir_line.specs.declared.words.BinaryOp.{BinaryOp}

-- what stands for a word: a register, a number, or a label's value with what is added to it
pub data Term : Type 0 where
  Register : Reg → Term
  -- whether a minus stands before it, and its magnitude
  Number : Bool → ℕ → Term
  -- a name, and the addend
  Label : List ℕ → ℕ → Term

-- what a line says behind its labels
pub data Statement : Type 0 where
  Nothing : Statement
  -- register, value
  Binary : BinaryOp → Reg → Term → Statement
  Putc : Term → Statement
  Getc : Reg → Statement
  Exit : Statement
  -- target
  Jump : Term → Statement
  -- target, register, value
  JumpIf : Cond → Term → Reg → Term → Statement
  Dump : Statement
  Text : Statement
  -- the number of the piece, 0 where none stands there
  Data : ℕ → Statement
  Long : Term → Statement
  -- the bytes of a string
  Bytes : List ℕ → Statement
  -- `.file` or `.loc`
  Note : Statement

pub record Line : Type 0 where
  pub labels : List (List ℕ)
  pub statement : Statement

-- numbers go up to 2^24 - 1
abbrev pub fits : ℕ → Bool
fits n = nat_lt n (2 ^ 24)

abbrev pub term_fits : Term → Bool
term_fits (Register r) = true
term_fits (Number minus n) = fits n
term_fits (Label name addend) = fits addend

-- what stands for a word in a statement
abbrev pub terms_of : Statement → List Term
terms_of (Binary op r t) = t ∷ []
terms_of (Putc t) = t ∷ []
terms_of (Jump t) = t ∷ []
terms_of (JumpIf c target r t) = target ∷ t ∷ []
terms_of (Long t) = t ∷ []
terms_of _ = []

-- each number, addend and piece's number of the statement is in range
abbrev pub is_in_range : Statement → Bool
is_in_range (Data n) = fits n
is_in_range s = list_all term_fits (terms_of s)
