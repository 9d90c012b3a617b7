-- The pieces that code is handed on in, and what comes of it.
-- It serves the proofs alone: what an emission promises names none of it.
use Rattle.std.specs.Prelude.{ℕ, ◌+◌, ◌*◌, ◌^◌, ◌<◌, ⊤, List, [], ◌∷◌, ◌++◌, pos, Result, Ok, Err}
use Rattle.std.specs.declared.option.Option.{Option}
use Rattle.mach_core.specs.Outside.{Rose}
use Rattle.mach_core.specs.Put.{Passes, GotPrefix}
use Rattle.word24.specs.Word.{number_of}
use Rattle.sim_trait.specs.declared.backend.EmitFault.{EmitFault}
use Rattle.sim_trait.specs.declared.backend.EmitFault.TheVariants.{TooLarge, Write, Memory}
use Rattle.ws_lang.specs.Instruction.{Instruction, Push, Store}
use Rattle.ws_back.specs.declared.piece.Piece.{Piece}
use Rattle.ws_back.specs.declared.piece.Piece.TheVariants.{Word, Command, Branch, Op}
use Rattle.ws_back.specs.Code.{op_code, branch_code}
use Rattle.ws_back.specs.Text.{text_of}
use Rattle.ws_back.specs.Commands.{instruction_of, IsWritable}

-- the code of a piece, in a program of so many blocks
abbrev pub piece_code : ℕ → Piece → List Instruction
piece_code n (Word a word) = Push (pos a) ∷ Push (pos (number_of word)) ∷ Store ∷ []
piece_code n (Command command) = instruction_of command ∷ []
piece_code n (Branch middle) = branch_code middle
piece_code n (Op op) = op_code n op

-- its numbers have 25 digits at most
abbrev pub IsPiece : Piece → Type 0
IsPiece (Word a word) = a < 2 ^ 25
IsPiece (Command command) = IsWritable command
IsPiece (Branch middle) = 2 * middle + 1 < 2 ^ 25
IsPiece (Op op) = ⊤

-- a text was handed on: all of it is out or held, or else a front of it is out
abbrev pub IsHanded : Option (List ℕ) → Option (List ℕ) → Type 0 → List ℕ → List ℕ → Result (Unit {0}) EmitFault → Type 0
IsHanded old new rose text held (Ok x) = Passes old new text held
IsHanded old new rose text held (Err (TooLarge n)) = ⊥
IsHanded old new rose text held (Err Write) = rose × GotPrefix old new text
IsHanded old new rose text held (Err Memory) = GotPrefix old new text

-- the text of some code was handed on behind what was held, to a sink that is seen by what it got and by its count of faults
abbrev pub IsCodeHanded : {S : Type 0} → (S → Option (List ℕ)) → (S → ℕ) → S → S → List ℕ → List ℕ → List Instruction → Result (Unit {0}) EmitFault → Type 0
IsCodeHanded got faults old new held held' code result = IsHanded (got old) (got new) (Rose (faults old) (faults new)) (held ++ text_of code) held' result
