-- The spelling of a program: each command is one byte, and every other byte is a comment.
use Rattle.std.specs.Prelude.{◌≡◌, ℕ, ◌<◌, Bool, ◌==◌, List, [], ◌∷◌, Option, Some, None, Result, Ok, Err, ⊤, if◌then◌else◌}
use Rattle.bf_lang.specs.declared.command.Command.{Command}
use Rattle.bf_lang.specs.declared.command.Command.TheVariants.{Right, Left, Plus, Minus, Write, Read, Open, Close}
use Rattle.bf_lang.specs.declared.text.BfFault.{BfFault}
use Rattle.bf_lang.specs.declared.text.BfFault.TheVariants.{Unopened, Unclosed, Memory}
use Rattle.bf_lang.specs.Brackets.{IsUnopened, IsUnclosed, IsPaired}

-- the byte of each command: `>` `<` `+` `-` `.` `,` `[` `]`
abbrev pub byte_of : Command → ℕ
byte_of Right = 62
byte_of Left = 60
byte_of Plus = 43
byte_of Minus = 45
byte_of Write = 46
byte_of Read = 44
byte_of Open = 91
byte_of Close = 93

-- the command of a byte; a comment has none
abbrev pub command_of : ℕ → Option Command
command_of byte =
    if byte == 62 then Some Right else
    if byte == 60 then Some Left else
    if byte == 43 then Some Plus else
    if byte == 45 then Some Minus else
    if byte == 46 then Some Write else
    if byte == 44 then Some Read else
    if byte == 91 then Some Open else
    if byte == 93 then Some Close else None

abbrev pub with_command : Option Command → List Command → List Command
with_command None code = code
with_command (Some command) code = command ∷ code

-- the commands of a text, in order
abbrev pub commands_in : List ℕ → List Command
commands_in [] = []
commands_in (byte ∷ bytes) = with_command (command_of byte) (commands_in bytes)

-- the byte is `[`
abbrev pub is_open_byte : ℕ → Bool
is_open_byte byte = byte == 91

-- the byte is `]`
abbrev pub is_close_byte : ℕ → Bool
is_close_byte byte = byte == 93

-- the text spells this program: these are its commands, and each bracket has its partner
pub record bf_spells (text : List ℕ) (code : List Command) : Type 0 where
  pub commands : code ≡ commands_in text
  pub paired : IsPaired is_open_byte is_close_byte text

-- the first place of which something holds
pub record IsFirst (P : ℕ → Type 0) (place : ℕ) : Type 0 where
  pub holds : P place
  pub none_before : (k : ℕ) → k < place → ¬ (P k)

-- why a text was refused: a place is the index of a byte
abbrev pub IsRefusedFor : List ℕ → BfFault → Type 0
IsRefusedFor text (Unopened place) = IsFirst (IsUnopened is_open_byte is_close_byte text) place
IsRefusedFor text (Unclosed place) = ((k : ℕ) → ¬ (IsUnopened is_open_byte is_close_byte text k)) × IsFirst (IsUnclosed is_open_byte is_close_byte text) place
IsRefusedFor text Memory = ⊤

-- the program that the text spells, or why it spells none
abbrev pub IsReadAs : List ℕ → Result (List Command) BfFault → Type 0
IsReadAs text (Ok code) = bf_spells text code
IsReadAs text (Err fault) = IsRefusedFor text fault
