-- Trimming: the operations of a block without those that make no difference.
use Rattle.std.specs.Prelude.{Bool, false, not, cond, ◌&&◌, ◌||◌, nat_eq, List, [], ◌∷◌}
use Rattle.word24.specs.Word.{number_of}
use Rattle.eir_core.specs.declared.ops.Reg.{Reg}
use Rattle.eir_core.specs.declared.ops.Operand.{Operand}
use Rattle.eir_core.specs.declared.ops.Operand.TheVariants.{Reg as register, Imm}
use Rattle.eir_core.specs.declared.ops.Op.{Op}
use Rattle.eir_core.specs.declared.ops.Op.TheVariants.{Mov, Add, Sub, Load, Store, Putc, Getc, Exit, Set, Jump, JumpIf}
use Rattle.eir_core.specs.Registers.{place_of}

-- the two registers are one
abbrev pub is_same : Reg → Reg → Bool
is_same r x = nat_eq (place_of r) (place_of x)

-- the operand is this register
abbrev pub is_register : Operand → Reg → Bool
is_register (register r) x = is_same r x
is_register (Imm w) x = false

-- the operand is the constant 0
abbrev pub is_zero : Operand → Bool
is_zero (register r) = false
is_zero (Imm w) = nat_eq (number_of w) 0

-- the operation reads the register: as an operand, or because it makes its result of it, stores it or compares it
abbrev pub reads : Op → Reg → Bool
reads (Mov r v) x = is_register v x
reads (Add r v) x = is_same r x || is_register v x
reads (Sub r v) x = is_same r x || is_register v x
reads (Load r v) x = is_register v x
reads (Store r v) x = is_same r x || is_register v x
reads (Putc v) x = is_register v x
reads (Getc r) x = false
reads Exit x = false
reads (Set test r v) x = is_same r x || is_register v x
reads (Jump target) x = is_register target x
reads (JumpIf test target r v) x = is_register target x || (is_same r x || is_register v x)

-- the operation gives the register a word that doesn't depend on the one in it, unless it reads it as an operand
abbrev pub overwrites : Op → Reg → Bool
overwrites (Mov r v) x = is_same r x
overwrites (Load r v) x = is_same r x
overwrites (Getc r) x = is_same r x
overwrites op x = false

-- one of the operations overwrites the register and doesn't read it, and none before that one reads it
abbrev pub is_overwritten : List Op → Reg → Bool
is_overwritten [] r = false
is_overwritten (op ∷ ops) r = not (reads op r) && (overwrites op r || is_overwritten ops r)

-- a Mov of a register to itself, or an Add or Sub of the constant 0
abbrev pub changes_nothing : Op → Bool
changes_nothing (Mov r v) = is_register v r
changes_nothing (Add r v) = is_zero v
changes_nothing (Sub r v) = is_zero v
changes_nothing op = false

-- a Mov, Add, Sub, Set or Load on a register of which this is true
abbrev pub sets_only : (Reg → Bool) → Op → Bool
sets_only test (Mov r v) = test r
sets_only test (Add r v) = test r
sets_only test (Sub r v) = test r
sets_only test (Load r v) = test r
sets_only test (Set cond r v) = test r
sets_only test op = false

-- the operation is dropped before these that are kept: there is one, and the operation changes nothing, or sets only a
-- register that they overwrite
abbrev pub is_dropped : Op → List Op → Bool
is_dropped op [] = false
is_dropped op (next ∷ kept) = changes_nothing op || sets_only (is_overwritten (next ∷ kept)) op

-- the operations of a block that are kept, from the last one back
abbrev pub trimmed : List Op → List Op
trimmed [] = []
trimmed (op ∷ ops) = cond (is_dropped op (trimmed ops)) (trimmed ops) (op ∷ trimmed ops)
