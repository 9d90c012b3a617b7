-- The words of EIR text.
use Rattle.std.specs.Prelude.{ℕ, List, [], ◌∷◌, Option}
use Rattle.std.specs.Prelude.{codes}
use Rattle.std.specs.Str.{bytes_eq}
use Rattle.std.specs.Map.{lookup}
use Rattle.eir_core.specs.declared.ops.Reg.{Reg}
use Rattle.eir_core.specs.declared.ops.Reg.TheVariants.{A, B, C, D, SP, BP}
use Rattle.eir_core.specs.declared.ops.Cond.TheVariants.{Eq, Ne, Lt, Gt, Le, Ge}
use Rattle.eir_line.specs.declared.words.BinaryOp.TheVariants.{Mov, Add, Sub, Load, Store, Set}
use Rattle.eir_line.specs.declared.words.Mnemonic.{Mnemonic}
use Rattle.eir_line.specs.declared.words.Mnemonic.TheVariants.{Binary, Putc, Getc, Exit, Dump, Jump, JumpIf, Text, Data, Long, Bytes, Note}

-- what a table has at a word
abbrev pub meaning : {X : Type 0} → List (List ℕ × X) → List ℕ → Option X
meaning table word = lookup (λ entry. bytes_eq word entry) table

abbrev pub registers : List (List ℕ × Reg)
registers = (codes "A", A) ∷ (codes "B", B) ∷ (codes "C", C) ∷ (codes "D", D) ∷ (codes "SP", SP) ∷ (codes "BP", BP) ∷ []

abbrev pub mnemonics : List (List ℕ × Mnemonic)
mnemonics =
    (codes "mov", Binary Mov) ∷ (codes "add", Binary Add) ∷ (codes "sub", Binary Sub) ∷ (codes "load", Binary Load) ∷ (codes "store", Binary Store)
    ∷ (codes "eq", Binary (Set Eq)) ∷ (codes "ne", Binary (Set Ne)) ∷ (codes "lt", Binary (Set Lt)) ∷ (codes "gt", Binary (Set Gt)) ∷ (codes "le", Binary (Set Le)) ∷ (codes "ge", Binary (Set Ge))
    ∷ (codes "putc", Putc) ∷ (codes "getc", Getc) ∷ (codes "exit", Exit) ∷ (codes "dump", Dump)
    ∷ (codes "jmp", Jump) ∷ (codes "jeq", JumpIf Eq) ∷ (codes "jne", JumpIf Ne) ∷ (codes "jlt", JumpIf Lt) ∷ (codes "jgt", JumpIf Gt) ∷ (codes "jle", JumpIf Le) ∷ (codes "jge", JumpIf Ge)
    ∷ (codes ".text", Text) ∷ (codes ".data", Data) ∷ (codes ".long", Long) ∷ (codes ".string", Bytes) ∷ (codes ".file", Note) ∷ (codes ".loc", Note) ∷ []

unfoldable pub register_of : List ℕ → Option Reg
register_of word = meaning registers word

unfoldable pub mnemonic_of : List ℕ → Option Mnemonic
mnemonic_of word = meaning mnemonics word
