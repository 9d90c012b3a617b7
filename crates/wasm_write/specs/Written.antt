-- The bytes of a module in as few as it takes.
use Rattle.std.specs.Prelude.{ℕ, zero, suc, Bool, true, false, List, [], ◌∷◌, ◌++◌, length, replicate, ℤ, Option, None, Some}
use Rattle.std.specs.List.{flat_map}
use Rattle.wasm_bin.specs.declared.module.FuncType.{FuncType}
use Rattle.wasm_bin.specs.declared.module.Limits.{Limits}
use Rattle.wasm_bin.specs.declared.module.GlobalVar.{GlobalVar}
use Rattle.wasm_bin.specs.declared.module.Module.{Module}
use Rattle.wasm_bin.specs.Opcode.{Operands, Plain, Typed, Index, Table, Access, Reserved, Number, Coded}
use Rattle.wasm_bin.specs.Parts.{Foreign, Shown, Function, Stretch, Parts, parts_of}
use Rattle.wasm_write.specs.Leb.{number_bytes, integer_bytes}

-- bytes behind their number
abbrev pub counted : List ℕ → List ℕ
counted row = number_bytes (length row) ++ row

-- values behind their number
abbrev pub vector_bytes : {A : Type 0} → (A → List ℕ) → List A → List ℕ
vector_bytes bytes xs = number_bytes (length xs) ++ flat_map bytes xs

-- so many times i32
abbrev pub value_types_bytes : ℕ → List ℕ
value_types_bytes n = number_bytes n ++ replicate n 0x7F

abbrev pub func_type_bytes : FuncType → List ℕ
func_type_bytes t = 0x60 ∷ (value_types_bytes t.params ++ value_types_bytes t.results)

abbrev pub import_bytes : Foreign → List ℕ
import_bytes i = counted i.origin ++ (counted i.name ++ 0x00 ∷ number_bytes i.kind)

abbrev pub range_bytes : ℕ → Option ℕ → List ℕ
range_bytes least None = 0x00 ∷ number_bytes least
range_bytes least (Some largest) = 0x01 ∷ (number_bytes least ++ number_bytes largest)

abbrev pub limits_bytes : Limits → List ℕ
limits_bytes l = range_bytes l.min l.max

-- i32.const and end
abbrev pub initial_bytes : ℤ → List ℕ
initial_bytes z = 0x41 ∷ (integer_bytes z ++ 0x0B ∷ [])

abbrev pub flag_byte : Bool → ℕ
flag_byte false = 0x00
flag_byte true = 0x01

abbrev pub global_bytes : GlobalVar → List ℕ
global_bytes g = 0x7F ∷ flag_byte g.mutable ∷ initial_bytes g.first

abbrev pub export_bytes : Shown → List ℕ
export_bytes e = counted e.name ++ e.sort ∷ number_bytes e.index

abbrev pub segment_bytes : Stretch → List ℕ
segment_bytes s = 0x00 ∷ (initial_bytes s.offset ++ counted s.bytes)

abbrev pub block_type_byte : Bool → ℕ
block_type_byte false = 0x40
block_type_byte true = 0x7F

abbrev pub operands_bytes : Operands → List ℕ
operands_bytes Plain = []
operands_bytes (Typed gives) = block_type_byte gives ∷ []
operands_bytes (Index n) = number_bytes n
operands_bytes (Table labels label) = vector_bytes number_bytes labels ++ number_bytes label
operands_bytes (Access m) = number_bytes m.align ++ number_bytes m.offset
operands_bytes Reserved = 0x00 ∷ []
operands_bytes (Number z) = integer_bytes z

abbrev pub instruction_bytes : Coded → List ℕ
instruction_bytes i = i.0 ∷ operands_bytes i.1

-- the locals of a function, in one run
abbrev pub locals_bytes : ℕ → List ℕ
locals_bytes zero = 0x00 ∷ []
locals_bytes (suc n) = 0x01 ∷ (number_bytes (suc n) ++ 0x7F ∷ [])

-- the body of a function
abbrev pub body_bytes : Function → List ℕ
body_bytes c = counted (locals_bytes c.locals ++ flat_map instruction_bytes c.instructions)

-- a section: its number, the size of its contents, and these
abbrev pub section : ℕ → List ℕ → List ℕ
section id contents = id ∷ counted contents

-- the section of values, which isn't there where there are none
abbrev pub vector_section : {A : Type 0} → ℕ → (A → List ℕ) → List A → List ℕ
vector_section id bytes [] = []
vector_section id bytes (x ∷ xs) = section id (vector_bytes bytes (x ∷ xs))

abbrev pub memory_section : Option Limits → List ℕ
memory_section None = []
memory_section (Some l) = section 5 (0x01 ∷ limits_bytes l)

abbrev pub start_section : Option ℕ → List ℕ
start_section None = []
start_section (Some func) = section 8 (number_bytes func)

-- `\0asm` and the version 1
abbrev pub header : List ℕ
header = 0x00 ∷ 0x61 ∷ 0x73 ∷ 0x6D ∷ 0x01 ∷ 0x00 ∷ 0x00 ∷ 0x00 ∷ []

-- the sections 1, 2, 3 and 5
abbrev pub declarations_bytes : Parts → List ℕ
declarations_bytes m = vector_section 1 func_type_bytes m.types
    ++ (vector_section 2 import_bytes m.imports
    ++ (vector_section 3 number_bytes m.funcs
    ++ memory_section m.memory))

-- the sections 6, 7, 8, 10 and 11
abbrev pub definitions_bytes : Parts → List ℕ
definitions_bytes m = vector_section 6 global_bytes m.globals
    ++ (vector_section 7 export_bytes m.exports
    ++ (start_section m.start
    ++ (vector_section 10 body_bytes m.bodies
    ++ vector_section 11 segment_bytes m.segments)))

-- the bytes of a module: the header, and the sections in the order of their numbers
abbrev pub parts_bytes : Parts → List ℕ
parts_bytes m = header ++ (declarations_bytes m ++ definitions_bytes m)

abbrev pub module_bytes : Module → List ℕ
module_bytes m = parts_bytes (parts_of m)
