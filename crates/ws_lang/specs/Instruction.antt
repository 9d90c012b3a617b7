-- The instructions, and which lists of them are programs.
use Rattle.std.specs.Prelude.{Bool, List, [], ◌∷◌, ◌++◌, ℤ, IsTrue, Contains}
use Rattle.std.specs.List.{AllByRecursion}
use Rattle.mach_core.specs.Integer.{is_in_range}

-- a label is the list of its signs: a tab is true, a space is false
abbrev pub Label : Type 0
Label = List Bool

pub data Instruction : Type 0 where
  Push : ℤ → Instruction
  Duplicate : Instruction
  Swap : Instruction
  Discard : Instruction
  Copy : ℤ → Instruction
  Slide : ℤ → Instruction
  Add : Instruction
  Subtract : Instruction
  Multiply : Instruction
  Divide : Instruction
  Modulo : Instruction
  Store : Instruction
  Retrieve : Instruction
  Mark : Label → Instruction
  Call : Label → Instruction
  Jump : Label → Instruction
  JumpIfZero : Label → Instruction
  JumpIfNegative : Label → Instruction
  Return : Instruction
  End : Instruction
  WriteCharacter : Instruction
  WriteNumber : Instruction
  ReadCharacter : Instruction
  ReadNumber : Instruction

-- the numbers that an instruction has: one or none
abbrev pub numbers_of : Instruction → List ℤ
numbers_of (Push n) = n ∷ []
numbers_of (Copy n) = n ∷ []
numbers_of (Slide n) = n ∷ []
numbers_of _ = []

-- the labels that an instruction marks: one or none
abbrev pub marks_of : Instruction → List Label
marks_of (Mark label) = label ∷ []
marks_of _ = []

-- the labels that an instruction goes to: one or none
abbrev pub uses_of : Instruction → List Label
uses_of (Call label) = label ∷ []
uses_of (Jump label) = label ∷ []
uses_of (JumpIfZero label) = label ∷ []
uses_of (JumpIfNegative label) = label ∷ []
uses_of _ = []

-- the labels that are marked, in order
abbrev pub marks : List Instruction → List Label
marks [] = []
marks (instruction ∷ code) = marks_of instruction ++ marks code

-- the labels that are gone to, in order
abbrev pub uses : List Instruction → List Label
uses [] = []
uses (instruction ∷ code) = uses_of instruction ++ uses code

-- no label comes again after itself
abbrev pub AreDistinct : List Label → Type 0
AreDistinct [] = Unit {0}
AreDistinct (label ∷ labels) = (Contains labels label → ⊥) × AreDistinct labels

-- each number of an instruction is within signed 64 bits
abbrev pub IsInRange : Instruction → Type 0
IsInRange instruction = AllByRecursion (λ n. IsTrue (is_in_range n)) (numbers_of instruction)

-- each number is within signed 64 bits, no label is marked twice, and each label that is gone to is marked
pub record IsWhitespace (code : List Instruction) : Type 0 where
  pub in_range : AllByRecursion IsInRange code
  pub marked_once : AreDistinct (marks code)
  pub marked : AllByRecursion (Contains (marks code)) (uses code)
