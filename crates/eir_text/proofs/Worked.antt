-- Texts, worked out by the definitions.
use Rattle.std.proofs.Common.{◌≡◌, ℕ, List, [], ◌∷◌, map, codes, Option, Some, None, refl}
use Rattle.word24.specs.Word.{number_of}
use Rattle.eir_core.specs.declared.ops.Reg.TheVariants.{A, B}
use Rattle.eir_core.specs.declared.ops.Operand.{Operand}
use Rattle.eir_core.specs.declared.ops.Operand.TheVariants.{Reg as register, Imm}
use Rattle.eir_core.specs.declared.ops.Cond.TheVariants.{Eq}
use Rattle.eir_core.specs.declared.ops.Op.TheVariants.{Mov, Load, Putc, Getc, Exit, Jump, JumpIf}
use Rattle.eir_core.specs.Eir.{Eir}
use Rattle.eir_line.specs.Words.{register_of, mnemonic_of}
use Rattle.eir_line.specs.Grammar.{form_of, statement_at, operands_at, labels_at, label_at, register_at, number_at, signed_at, label_value_at, named_at, term_at, constant_at, escaped_of, hex_at, octal_at, escape_at, byte_at, string_at}
use Rattle.eir_text.specs.declared.fault.EirFault.{EirFault}
use Rattle.eir_text.specs.declared.fault.EirFault.TheVariants.{BadLine, NumberRange, DuplicateLabel, UnknownLabel}
use Rattle.eir_text.specs.Sections.{placed_of}
use Rattle.eir_text.specs.Spells.{Spells, wrapped, program_said, refusal_of}
use Rattle.eir_text.proofs.Once.{unrefused_spelled}

-- why a text is refused, if it is
abbrev pub refused : List ℕ → Option EirFault
unfolding form_of statement_at operands_at labels_at label_at register_at number_at signed_at label_value_at named_at term_at constant_at escaped_of hex_at octal_at escape_at byte_at string_at register_of mnemonic_of
refused text = refusal_of text

-- the program that its lines say
abbrev pub said : List ℕ → Eir
unfolding form_of statement_at operands_at labels_at label_at register_at number_at signed_at label_value_at named_at term_at constant_at escaped_of hex_at octal_at escape_at byte_at string_at register_of mnemonic_of
said text = program_said (placed_of text)

abbrev pub number : ℕ → Operand
number n = Imm (wrapped n)

-- the copy loop: labels at the line's end and in front of operations, and a comment
pub copy_loop : said (codes "l: getc A\njeq e, A, 0\n\tputc  A # out\njmp l\r\ne:exit\n") ≡ record {
  blocks = (Getc A ∷ JumpIf Eq (number 2) A (number 0) ∷ []) ∷ (Putc (register A) ∷ Jump (number 0) ∷ []) ∷ (Exit ∷ []) ∷ [];
  words = [];
  start = 0;
}
unfolding said
copy_loop = refl

pub copy_loop_is_taken : refused (codes "l: getc A\njeq e, A, 0\n\tputc  A # out\njmp l\r\ne:exit\n") ≡ None
unfolding refused
copy_loop_is_taken = refl

-- so the text spells this program
pub copy_loop_spells : Spells (codes "l: getc A\njeq e, A, 0\n\tputc  A # out\njmp l\r\ne:exit\n") (record {
  blocks = (Getc A ∷ JumpIf Eq (number 2) A (number 0) ∷ []) ∷ (Putc (register A) ∷ Jump (number 0) ∷ []) ∷ (Exit ∷ []) ∷ [];
  words = [];
  start = 0;
})
unfolding refused said
copy_loop_spells = (unrefused_spelled (codes "l: getc A\njeq e, A, 0\n\tputc  A # out\njmp l\r\ne:exit\n") refl).0

-- each refusal with its line
pub unknown_label : refused (codes "jmp nowhere") ≡ Some (UnknownLabel 1)
unfolding refused
unknown_label = refl

pub duplicate_label : refused (codes "a:\na:") ≡ Some (DuplicateLabel 2)
unfolding refused
duplicate_label = refl

pub number_out_of_range : refused (codes "mov A, 16777216") ≡ Some (NumberRange 1)
unfolding refused
number_out_of_range = refl

pub missing_operand : refused (codes "exit\nmov A") ≡ Some (BadLine 2)
unfolding refused
missing_operand = refl

-- a line that is bad by itself comes before a name that is unknown
pub unknown_directive : refused (codes "jmp nowhere\n.globl x") ≡ Some (BadLine 2)
unfolding refused
unknown_directive = refl

-- of lines that are bad by themselves the lowest comes
pub lower_number_first : refused (codes "mov A, 16777216\nmov") ≡ Some (NumberRange 1)
unfolding refused
lower_number_first = refl

-- on one line a wrong section comes before a number out of range
pub wrong_section_first : refused (codes ".long 16777216") ≡ Some (BadLine 1)
unfolding refused
wrong_section_first = refl

-- of names the lowest line comes
pub lower_unknown_first : refused (codes "a: jmp b\na:") ≡ Some (UnknownLabel 1)
unfolding refused
lower_unknown_first = refl

-- and on one line the name that is defined again
pub duplicate_first : refused (codes "a:\na: jmp b") ≡ Some (DuplicateLabel 2)
unfolding refused
duplicate_first = refl

-- one line may define a name twice
pub twice_on_a_line : refused (codes "a: a:") ≡ Some (DuplicateLabel 1)
unfolding refused
twice_on_a_line = refl

-- data and text share their names
pub one_name_space : refused (codes "a: exit\n.data\na: .long 1") ≡ Some (DuplicateLabel 3)
unfolding refused
one_name_space = refl

-- a register is no label, and no value of `.long`
pub register_is_no_label : refused (codes "A: exit") ≡ Some (BadLine 1)
unfolding refused
register_is_no_label = refl

pub register_is_no_number : refused (codes ".data\n.long SP") ≡ Some (BadLine 2)
unfolding refused
register_is_no_number = refl

-- no blank stands between a name and its colon, nor behind a minus
pub blank_before_colon : refused (codes "a : exit") ≡ Some (BadLine 1)
unfolding refused
blank_before_colon = refl

pub blank_behind_minus : refused (codes "mov A, - 1") ≡ Some (BadLine 1)
unfolding refused
blank_behind_minus = refl

-- an addend and the number of a piece have the range of numbers
pub addend_out_of_range : refused (codes "a: jmp a + 16777216") ≡ Some (NumberRange 1)
unfolding refused
addend_out_of_range = refl

pub piece_out_of_range : refused (codes ".data 16777216") ≡ Some (NumberRange 1)
unfolding refused
piece_out_of_range = refl

pub piece_in_range : refused (codes ".data 16777215") ≡ None
unfolding refused
piece_in_range = refl

-- the longest run of octal digits is taken, and its value is at most 255
pub octal_above_255 : refused (codes ".data\n.string \"\\400\"") ≡ Some (BadLine 2)
unfolding refused
octal_above_255 = refl

-- a blank stands behind `.file`, and then anything
pub note_without_blank : refused (codes ".file\"x\"") ≡ Some (BadLine 1)
unfolding refused
note_without_blank = refl

pub note_is_anything : refused (codes ".file \"x # y\n.loc 1 2 ?") ≡ None
unfolding refused
note_is_anything = refl

-- `dump` stands in the text section alone
pub dump_in_data : refused (codes ".data\ndump") ≡ Some (BadLine 2)
unfolding refused
dump_in_data = refl

-- the empty text is taken
pub nothing : refused (codes "") ≡ None
unfolding refused
nothing = refl

-- -k stands for 2^24 - k, and -0 for 0
pub minus_is_wrapped : map number_of (said (codes ".data\n.long -1\n.long -16777215\n.long -0")).words ≡ 16777215 ∷ 1 ∷ 0 ∷ []
unfolding said
minus_is_wrapped = refl

pub minus_out_of_range : refused (codes "mov A, -16777216") ≡ Some (NumberRange 1)
unfolding refused
minus_out_of_range = refl

-- a label's value with an addend is taken modulo 2^24
pub addend_is_wrapped : map number_of (said (codes ".data\n.long 7\na: .long a + 16777215")).words ≡ 7 ∷ 0 ∷ []
unfolding said
addend_is_wrapped = refl

-- the number rises once for labels in a row, and once for a jump with a label behind it
pub labels_share_a_block : (said (codes "a: b: exit\nc:\nd: jmp a\ne: putc d\nputc e\nputc b\nputc c")).blocks ≡ (Exit ∷ []) ∷ (Jump (number 0) ∷ []) ∷ (Putc (number 1) ∷ Putc (number 2) ∷ Putc (number 0) ∷ Putc (number 1) ∷ []) ∷ []
unfolding said
labels_share_a_block = refl

-- behind a jump, a conditional one too, a block begins; behind `exit` none does
pub jumps_end_blocks : (said (codes "jmp 0\njeq 0, A, B\nexit\nexit")).blocks ≡ (Jump (number 0) ∷ []) ∷ (JumpIf Eq (number 0) A (register B) ∷ []) ∷ (Exit ∷ Exit ∷ []) ∷ []
unfolding said
jumps_end_blocks = refl

-- `dump` counts as no operation, so the label is in block 0
pub dump_is_no_operation : (said (codes "dump\na: exit\nputc a")).blocks ≡ (Exit ∷ Putc (number 0) ∷ []) ∷ []
unfolding said
dump_is_no_operation = refl

-- `main` at the end names the first number without a block
pub main_at_the_end : (said (codes "exit\nmain:")).start ≡ 1
unfolding said
main_at_the_end = refl

-- `main` of the data is no start
pub main_in_data : (said (codes "exit\na: exit\n.data\nmain: .long 5")).start ≡ 0
unfolding said
main_in_data = refl

-- pieces lie by rising number, in file order among equals, and a label has the address of what follows it in its own piece
pub pieces_by_number : map number_of (said (codes ".data 1\nx: .long 7\n.data\ns: .string \"A\\n\"\n.loc 1 2 3\n.text\nmain: mov A, x\nmov A, _edata\nload A, s")).words ≡ 65 ∷ 10 ∷ 0 ∷ 7 ∷ []
unfolding said
pieces_by_number = refl

pub addresses_by_number : (said (codes ".data 1\nx: .long 7\n.data\ns: .string \"A\\n\"\n.loc 1 2 3\n.text\nmain: mov A, x\nmov A, _edata\nload A, s")).blocks ≡ (Mov A (number 3) ∷ Mov A (number 4) ∷ Load A (number 0) ∷ []) ∷ []
unfolding said
addresses_by_number = refl

-- a label at the end of a part has the address of the next part of its piece
pub parts_of_a_piece : map number_of (said (codes ".data 1\n.long 5\ne:\n.data 2\n.long 6\n.data 1\n.long e\n")).words ≡ 5 ∷ 1 ∷ 6 ∷ []
unfolding said
parts_of_a_piece = refl

-- a label in front of a section line belongs to the section before
pub label_before_section : (said (codes "exit\nx: .data\ny: .text\nputc x\nputc y")).blocks ≡ (Exit ∷ []) ∷ (Putc (number 1) ∷ Putc (number 0) ∷ []) ∷ []
unfolding said
label_before_section = refl

-- a line may define `_edata`
pub end_is_defined : (said (codes ".data\n_edata: .long 5\n.text\nputc _edata")).blocks ≡ (Putc (number 0) ∷ []) ∷ []
unfolding said
end_is_defined = refl

-- a letter that has no meaning behind a backslash
pub escape_of_no_meaning : refused (codes ".data\n.string \"\\e\"") ≡ Some (BadLine 2)
unfolding refused
escape_of_no_meaning = refl

-- two hex digits, at most three octal ones, and a `#` in a string is no comment
pub escapes_of_bytes : map number_of (said (codes ".data\n.string \"\\a\\x4a7\\1018\\0#\\\"\"")).words ≡ 7 ∷ 74 ∷ 55 ∷ 65 ∷ 56 ∷ 0 ∷ 35 ∷ 34 ∷ 0 ∷ []
unfolding said
escapes_of_bytes = refl
