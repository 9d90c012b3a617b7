-- The binary format as a grammar: which bytes spell what.
use Rattle.std.specs.Prelude.{◌≡◌, ◌≢◌, ℕ, zero, suc, ◌-◌, ◌^◌, ◌<◌, ◌≤◌, Bool, true, false, IsTrue, ◌==◌, ◌||◌, ◌⊎◌, List, [], ◌∷◌, ◌++◌, length, map, sum, ℤ, Option, Some, None}
use Rattle.std.specs.Str.{IsUtf8}
use Rattle.wasm_bin.specs.declared.module.FuncType.{FuncType}
use Rattle.wasm_bin.specs.declared.module.Limits.{Limits}
use Rattle.wasm_bin.specs.declared.module.GlobalVar.{GlobalVar}
use Rattle.wasm_bytes.specs.Number.{unsigned_value, signed_value, is_i32}
use Rattle.wasm_bin.specs.Opcode.{Operands, Plain, Typed, Index, Table, Access, Reserved, Number, Coded, is_block, is_control, is_indexed, is_access, is_sizing, is_comparison, is_arithmetic}
use Rattle.wasm_bin.specs.Parts.{Foreign, Shown, Function, Stretch, Parts}
use Rattle.wasm_bin.specs.Section.{params_of}

infixr 20 ◌⋅◌
-- a set of rows of bytes
abbrev pub Language : Type 1
Language = List ℕ → Type 0

-- a row of the first, and behind it a row of the second
pub record Then (First Second : Language) (bytes : List ℕ) : Type 0 where
  pub front : List ℕ
  pub back : List ℕ
  pub parts : bytes ≡ front ++ back
  pub first : First front
  pub second : Second back

abbrev pub ◌⋅◌ : Language → Language → Language
First ⋅ Second = Then First Second

-- this row alone
abbrev pub Row : List ℕ → Language
Row row bytes = bytes ≡ row

-- this byte alone
abbrev pub Byte : ℕ → Language
Byte byte = Row (byte ∷ [])

-- no row
abbrev pub Never : Language
Never bytes = ⊥

-- so many rows of it, one after the other
abbrev pub Times : ℕ → Language → Language
Times zero Spells = Row []
Times (suc n) Spells = Spells ⋅ Times n Spells

-- what spells each of these values, one after the other
abbrev pub InTurn : {A : Type 0} → (A → Language) → List A → Language
InTurn Spells [] = Row []
InTurn Spells (x ∷ xs) = Spells x ⋅ InTurn Spells xs

-- the bytes of a number in LEB128: each is at least 128 but the last
abbrev pub IsLeb : List ℕ → Type 0
IsLeb [] = ⊥
IsLeb (byte ∷ []) = byte < 128
IsLeb (byte ∷ next ∷ others) = (128 ≤ byte) × IsLeb (next ∷ others)

-- an unsigned number of 32 bits, in five bytes at most
unfoldable pub SpellsNumber : ℕ → Language
SpellsNumber n bytes = IsLeb bytes × (length bytes ≤ 5) × (unsigned_value bytes ≡ n) × (n < 2 ^ 32)

-- a signed number of 32 bits, in five bytes at most
unfoldable pub SpellsInteger : ℤ → Language
SpellsInteger z bytes = IsLeb bytes × (length bytes ≤ 5) × (signed_value bytes ≡ z) × IsTrue (is_i32 z)

-- a number that doesn't pass a limit
unfoldable pub SpellsLimited : ℕ → ℕ → Language
SpellsLimited limit n bytes = (n ≤ limit) × SpellsNumber n bytes

-- a vector: its length, at most 2^20, and its items
abbrev pub SpellsVector : {A : Type 0} → (A → Language) → List A → Language
SpellsVector Spells xs = SpellsLimited (2 ^ 20) (length xs) ⋅ InTurn Spells xs

-- their number, and the bytes
unfoldable pub SpellsBytes : List ℕ → Language
SpellsBytes row = SpellsNumber (length row) ⋅ Row row

-- a name: bytes that are UTF-8
unfoldable pub SpellsName : List ℕ → Language
SpellsName name bytes = IsUtf8 name × SpellsBytes name bytes

-- i32
abbrev pub ValueType : Language
ValueType = Byte 0x7F

-- a function's type: its parameters, at most 2^16, and its results
unfoldable pub SpellsFuncType : FuncType → Language
SpellsFuncType t = Byte 0x60 ⋅ SpellsLimited (2 ^ 16) t.params ⋅ Times t.params ValueType ⋅ SpellsNumber t.results ⋅ Times t.results ValueType

-- an import: a module, a name, and the type of a function
unfoldable pub SpellsImport : Foreign → Language
SpellsImport i = SpellsName i.origin ⋅ SpellsName i.name ⋅ Byte 0x00 ⋅ SpellsNumber i.kind

-- a least size, at most 1024 pages, and a largest size or none
unfoldable pub SpellsRange : ℕ → Option ℕ → Language
SpellsRange least None = Byte 0x00 ⋅ SpellsLimited 1024 least
SpellsRange least (Some largest) = Byte 0x01 ⋅ SpellsLimited 1024 least ⋅ SpellsNumber largest

-- the limits of a memory
unfoldable pub SpellsLimits : Limits → Language
SpellsLimits l = SpellsRange l.min l.max

-- a vector of memories, one at most
unfoldable pub SpellsMemories : Option Limits → Language
SpellsMemories None = SpellsNumber 0
SpellsMemories (Some l) = SpellsNumber 1 ⋅ SpellsLimits l

-- an initial value: i32.const and end
unfoldable pub SpellsInitial : ℤ → Language
SpellsInitial z = Byte 0x41 ⋅ SpellsInteger z ⋅ Byte 0x0B

-- whether a global may be written
unfoldable pub SpellsFlag : Bool → Language
SpellsFlag false = Byte 0x00
SpellsFlag true = Byte 0x01

-- a global: its type, and its initial value
unfoldable pub SpellsGlobal : GlobalVar → Language
SpellsGlobal g = ValueType ⋅ SpellsFlag g.mutable ⋅ SpellsInitial g.first

-- a function, a memory or a global
unfoldable pub SpellsSort : ℕ → Language
SpellsSort sort bytes = ((sort ≡ 0) ⊎ (sort ≡ 2) ⊎ (sort ≡ 3)) × Byte sort bytes

-- an export: a name, and what it stands for
unfoldable pub SpellsExport : Shown → Language
SpellsExport e = SpellsName e.name ⋅ SpellsSort e.sort ⋅ SpellsNumber e.index

-- a segment: the memory 0, where it begins, and its bytes
unfoldable pub SpellsSegment : Stretch → Language
SpellsSegment s = SpellsNumber 0 ⋅ SpellsInitial s.offset ⋅ SpellsBytes s.bytes

-- the type of a block: no value, or one of i32
unfoldable pub SpellsBlockType : Bool → Language
SpellsBlockType false = Byte 0x40
SpellsBlockType true = ValueType

-- the opcode takes such operands
unfoldable pub Takes : ℕ → Operands → Type 0
Takes op Plain = IsTrue (op == 0x05 || is_comparison op || is_arithmetic op || is_control op)
Takes op (Typed gives) = IsTrue (is_block op)
Takes op (Index n) = IsTrue (is_indexed op)
Takes op (Table labels label) = op ≡ 0x0E
Takes op (Access m) = IsTrue (is_access op)
Takes op Reserved = IsTrue (is_sizing op)
Takes op (Number z) = op ≡ 0x41

-- the operands of an instruction
unfoldable pub SpellsOperands : Operands → Language
SpellsOperands Plain = Row []
SpellsOperands (Typed gives) = SpellsBlockType gives
SpellsOperands (Index n) = SpellsNumber n
SpellsOperands (Table labels label) = SpellsVector SpellsNumber labels ⋅ SpellsNumber label
SpellsOperands (Access m) = SpellsNumber m.align ⋅ SpellsNumber m.offset
SpellsOperands Reserved = Byte 0x00
SpellsOperands (Number z) = SpellsInteger z

-- an instruction: its opcode, and its operands
unfoldable pub SpellsInstruction : Coded → Language
SpellsInstruction i bytes = Takes i.0 i.1 × (Byte i.0 ⋅ SpellsOperands i.1) bytes

-- the opcode of an instruction that is no block, no else and no end
pub record IsSingle (op : ℕ) : Type 0 where
  pub opens_none : is_block op ≡ false
  pub no_else : op ≢ 0x05
  pub no_end : op ≢ 0x0B

-- instructions within so many blocks: single ones, blocks with their end, and ifs with an else and an end; at most 2^20 blocks nest
pub data Nests : ℕ → List Coded → Type 0 where
  Empty : {depth : ℕ} → Nests depth []
  Single : {depth : ℕ} (i : Coded) (others : List Coded) → IsSingle i.0 → Nests depth others → Nests depth (i ∷ others)
  Enclosed : {depth : ℕ} (i last : Coded) (inside others : List Coded) → is_block i.0 ≡ true → last.0 ≡ 0x0B → depth < 2 ^ 20
      → Nests (suc depth) inside → Nests depth others → Nests depth (i ∷ (inside ++ last ∷ others))
  Alternative : {depth : ℕ} (i middle last : Coded) (inside otherwise others : List Coded) → i.0 ≡ 0x04 → middle.0 ≡ 0x05 → last.0 ≡ 0x0B → depth < 2 ^ 20
      → Nests (suc depth) inside → Nests (suc depth) otherwise → Nests depth others → Nests depth (i ∷ (inside ++ middle ∷ (otherwise ++ last ∷ others)))

-- an expression: instructions that nest, and an end
pub record IsExpression (code : List Coded) : Type 0 where
  pub inside : List Coded
  pub last : Coded
  pub parts : code ≡ inside ++ last ∷ []
  pub nests : Nests 0 inside
  pub is_end : last.0 ≡ 0x0B

-- the code of a function: an expression, instruction after instruction
unfoldable pub SpellsCode : List Coded → Language
SpellsCode code bytes = IsExpression code × InTurn SpellsInstruction code bytes

-- a run of locals: their number, and their type
unfoldable pub SpellsRun : ℕ → Language
SpellsRun n = SpellsNumber n ⋅ ValueType

-- runs of locals, at most 2^16 locals with the parameters
pub record SpellsLocals (params locals : ℕ) (bytes : List ℕ) : Type 0 where
  pub runs : List ℕ
  pub total : sum runs ≡ locals
  pub room : locals ≤ 2 ^ 16 - params
  pub spelled : (SpellsNumber (length runs) ⋅ InTurn SpellsRun runs) bytes

-- contents behind their size
pub record Sized (Spells : Language) (bytes : List ℕ) : Type 0 where
  pub contents : List ℕ
  pub spelled : Spells contents
  pub sized : SpellsBytes contents bytes

-- the body of a function of so many parameters: its locals and its code
unfoldable pub SpellsBody : ℕ → Function → Language
SpellsBody params c = Sized (SpellsLocals params c.locals ⋅ SpellsCode c.instructions)

-- a body for each function, by its number of parameters
unfoldable pub SpellsBodies : List ℕ → List Function → Language
SpellsBodies [] [] = Row []
SpellsBodies (params ∷ others) (body ∷ bodies) = SpellsBody params body ⋅ SpellsBodies others bodies
SpellsBodies [] (body ∷ bodies) = Never
SpellsBodies (params ∷ others) [] = Never

-- a section: its number, its size and its contents
abbrev pub Section : ℕ → Language → Language
Section id Spells = Byte id ⋅ Sized Spells

-- a custom section: a name, and any bytes
pub record Named (bytes : List ℕ) : Type 0 where
  pub name : List ℕ
  pub spelled : (SpellsName name ⋅ λ any. Unit {0}) bytes

-- custom sections, as many as there are
pub record Customs (bytes : List ℕ) : Type 0 where
  pub number : ℕ
  pub spelled : Times number (Section 0 Named) bytes

-- the section of this number, or none where this holds
abbrev pub Optional : ℕ → Language → Type 0 → Language
Optional id Spells Absent bytes = Section id Spells bytes ⊎ (Absent × Row [] bytes)

-- the same behind custom sections
abbrev pub Following : ℕ → Language → Type 0 → Language
Following id Spells Absent = Customs ⋅ Optional id Spells Absent

-- the section of a vector, or none where it is empty
abbrev pub VectorSection : {A : Type 0} → ℕ → (A → Language) → List A → Language
VectorSection id Spells xs = Following id (SpellsVector Spells xs) (xs ≡ [])

-- the index of the function that runs first
abbrev pub SpellsStart : Option ℕ → Language
SpellsStart None = Never
SpellsStart (Some n) = SpellsNumber n

-- as many bodies as there are functions
abbrev pub SpellsFuncs : List FuncType → List ℕ → List Function → Language
SpellsFuncs types funcs bodies = SpellsNumber (length funcs) ⋅ SpellsBodies (map (params_of types) funcs) bodies

-- `\0asm` and the version 1
unfoldable pub Header : Language
Header = Byte 0x00 ⋅ Byte 0x61 ⋅ Byte 0x73 ⋅ Byte 0x6D ⋅ Byte 0x01 ⋅ Byte 0x00 ⋅ Byte 0x00 ⋅ Byte 0x00

-- a module without tables: the header, and the sections but 4 and 9 in the order of their numbers, with custom sections before, between and behind them
abbrev pub SpellsModule : Parts → Language
SpellsModule m = Header
    ⋅ VectorSection 1 SpellsFuncType m.types
    ⋅ VectorSection 2 SpellsImport m.imports
    ⋅ VectorSection 3 SpellsNumber m.funcs
    ⋅ Following 5 (SpellsMemories m.memory) (m.memory ≡ None)
    ⋅ VectorSection 6 SpellsGlobal m.globals
    ⋅ VectorSection 7 SpellsExport m.exports
    ⋅ Following 8 (SpellsStart m.start) (m.start ≡ None)
    ⋅ Following 10 (SpellsFuncs m.types m.funcs m.bodies) ((m.funcs ≡ []) × (m.bodies ≡ []))
    ⋅ VectorSection 11 SpellsSegment m.segments
    ⋅ Customs

-- the bytes of a file spell these parts
unfoldable pub ModuleSpells : List ℕ → Parts → Type 0
ModuleSpells bytes parts = SpellsModule parts bytes
