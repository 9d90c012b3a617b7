-- Worked rows: what the definitions say of concrete bytes, each by computing.
use Rattle.std.proofs.Common.{◌≡◌, ℕ, zero, suc, ◌+◌, ◌-◌, ◌^◌, true, false, List, [], ◌∷◌, ◌++◌, length, map, Some, None, Result, Ok, Err, pos, negsuc, refl}
use Rattle.std.specs.Str.{is_utf8, chars}
use lib.Utf8.{encode}
use Rattle.wasm_bytes.specs.declared.fault.ModFault.{ModFault}
use Rattle.wasm_bytes.specs.declared.fault.ModFault.TheVariants.{Malformed, Unsupported, TooLarge}
use Rattle.wasm_bin.specs.Section.{module_at, front_at, header_at, custom_at, customs_at, opened_at, other_at, start_at, each_body_at, bodies_at, code_section_at, end_at, params_of, module_in}
use Rattle.wasm_bin.specs.Body.{block_type_at, table_at, access_at, plain_of, operands_at, Blocks, blocks_after, opcode_at, code_at, runs_at, locals_at, sized_at, function_at, body_at}
use Rattle.wasm_bin.specs.Entry.{items_at, value_type_at, value_types_at, func_type_at, import_sort_at, import_at, flag_at, largest_at, limits_at, memories_at, only_at, initial_at, global_at, export_sort_at, export_at, memory_index_at, segment_at}
use Rattle.wasm_bytes.specs.Number.{leb_at, u32_at, i32_at, limited_at}
use Rattle.wasm_bytes.specs.Text.{taken_at, bytes_at, name_at}
use Rattle.wasm_bin.specs.Opcode.{is_block, is_control, is_indexed, is_access, is_sizing, is_comparison, is_arithmetic, is_instruction, Plain, Typed, Index, Table, Access, Reserved, Number, Coded}
use Rattle.wasm_bytes.specs.Outcome.{◌>>=◌}
use Rattle.wasm_bytes.specs.Piece.{Piece}
use Rattle.wasm_bin.specs.Parts.{Parts}
use Rattle.wasm_bin.specs.Grammar.{ModuleSpells}
use Rattle.wasm_bin.proofs.GrammarModules.{modules_spelled}

-- the reading with all its steps
unfoldable read : List ℕ → Result Parts ModFault
unfolding module_at front_at header_at custom_at customs_at opened_at other_at start_at each_body_at bodies_at code_section_at end_at block_type_at table_at access_at plain_of operands_at blocks_after opcode_at code_at runs_at locals_at sized_at function_at body_at items_at value_type_at value_types_at func_type_at import_sort_at import_at flag_at largest_at limits_at memories_at only_at initial_at global_at export_sort_at export_at memory_index_at segment_at leb_at u32_at i32_at limited_at taken_at bytes_at name_at is_block is_control is_indexed is_access is_sizing is_comparison is_arithmetic is_instruction is_utf8 chars encode
read bytes = module_in bytes

-- the header
abbrev pub header : List ℕ
header = 0x00 ∷ 0x61 ∷ 0x73 ∷ 0x6D ∷ 0x01 ∷ 0x00 ∷ 0x00 ∷ 0x00 ∷ []

-- the header and these sections
abbrev pub with_header : List ℕ → List ℕ
with_header sections = header ++ sections

-- a module of one function of type [] to [], whose body has these instructions, which begin at 23, and an end
abbrev with_code : List ℕ → List ℕ
with_code code = header ++ (0x01 ∷ 0x04 ∷ 0x01 ∷ 0x60 ∷ 0x00 ∷ 0x00 ∷ 0x03 ∷ 0x02 ∷ 0x01 ∷ 0x00 ∷ 0x0A ∷ []) ++ (length code + 4) ∷ 0x01 ∷ (length code + 2) ∷ 0x00 ∷ (code ++ 0x0B ∷ [])

-- what these bytes alone read as
abbrev alone : {A : Type 0} → (Piece → A) → List ℕ → A
alone reading bytes = reading (record { left = bytes; end = length bytes })

-- all of these bytes make the value
abbrev whole : {A : Type 0} → A → ℕ → Result (A × Piece) ModFault
whole x size = Ok (x, record { left = []; end = size })

-- a module that imports putchar and writes `H`
abbrev pub greeting : List ℕ
greeting = with_header (0x01 ∷ 0x08 ∷ 0x02 ∷ 0x60 ∷ 0x00 ∷ 0x00 ∷ 0x60 ∷ 0x01 ∷ 0x7F ∷ 0x00 ∷ 0x02 ∷ 0x0F ∷ 0x01 ∷ 0x03 ∷ 0x65 ∷ 0x6E ∷ 0x76 ∷ 0x07 ∷ 0x70 ∷ 0x75 ∷ 0x74 ∷ 0x63 ∷ 0x68 ∷ 0x61 ∷ 0x72 ∷ 0x00 ∷ 0x01 ∷ 0x03 ∷ 0x02 ∷ 0x01 ∷ 0x00 ∷ 0x07 ∷ 0x08 ∷ 0x01 ∷ 0x04 ∷ 0x6D ∷ 0x61 ∷ 0x69 ∷ 0x6E ∷ 0x00 ∷ 0x01 ∷ 0x0A ∷ 0x09 ∷ 0x01 ∷ 0x07 ∷ 0x00 ∷ 0x41 ∷ 0xC8 ∷ 0x00 ∷ 0x10 ∷ 0x00 ∷ 0x0B ∷ [])

-- its parts
abbrev pub greeting_parts : Parts
greeting_parts = record {
  types = record { params = 0; results = 0 } ∷ record { params = 1; results = 0 } ∷ [];
  imports = record { origin = 0x65 ∷ 0x6E ∷ 0x76 ∷ []; name = 0x70 ∷ 0x75 ∷ 0x74 ∷ 0x63 ∷ 0x68 ∷ 0x61 ∷ 0x72 ∷ []; kind = 1 } ∷ [];
  funcs = 0 ∷ [];
  memory = None;
  globals = [];
  exports = record { name = 0x6D ∷ 0x61 ∷ 0x69 ∷ 0x6E ∷ []; sort = 0; index = 1 } ∷ [];
  start = None;
  bodies = record { locals = 0; instructions = (0x41, Number (pos 72)) ∷ (0x10, Index 0) ∷ (0x0B, Plain) ∷ [] } ∷ [];
  segments = [];
}

-- no parts
abbrev nothing : Parts
nothing = record { types = []; imports = []; funcs = []; memory = None; globals = []; exports = []; start = None; bodies = []; segments = [] }

-- a whole module reads as its parts, and the header alone as a module without parts
pub row_read : (module_in greeting ≡ Ok greeting_parts) × (module_in header ≡ Ok nothing)
unfolding read
row_read = (refl, refl)

-- by the grammar too these bytes spell these parts
pub row_spelled : ModuleSpells greeting greeting_parts
row_spelled = (modules_spelled greeting greeting_parts).0 row_read.0

-- a header that is cut, and a byte behind the last section
pub row_ends : map module_in (
    (0x00 ∷ 0x61 ∷ 0x73 ∷ 0x6D ∷ 0x01 ∷ 0x00 ∷ 0x00 ∷ [])
    ∷ (greeting ++ 0x0C ∷ [])
    ∷ (0x00 ∷ 0x61 ∷ 0x73 ∷ 0x6D ∷ 0x02 ∷ 0x00 ∷ 0x00 ∷ 0x00 ∷ [])
    ∷ []) ≡ Err (Malformed 7) ∷ Err (Malformed 60) ∷ Err (Malformed 4) ∷ []
unfolding read
row_ends = refl

-- unsigned numbers: the largest, one padded to five bytes, a stray bit in the last byte, six bytes, and one that is cut
pub row_unsigned : map (alone u32_at) (
    (0xFF ∷ 0xFF ∷ 0xFF ∷ 0xFF ∷ 0x0F ∷ [])
    ∷ (0x80 ∷ 0x80 ∷ 0x80 ∷ 0x80 ∷ 0x00 ∷ [])
    ∷ (0xFF ∷ 0xFF ∷ 0xFF ∷ 0xFF ∷ 0x1F ∷ [])
    ∷ (0x80 ∷ 0x80 ∷ 0x80 ∷ 0x80 ∷ 0x80 ∷ 0x00 ∷ [])
    ∷ (0x80 ∷ 0x80 ∷ [])
    ∷ []) ≡ whole 4294967295 5 ∷ whole 0 5 ∷ Err (Malformed 4) ∷ Err (Malformed 4) ∷ Err (Malformed 2) ∷ []
unfolding read
row_unsigned = refl

-- signed numbers: -1, -1 padded, -64, 64, the least, the greatest, and one past each
pub row_signed : map (alone i32_at) (
    (0x7F ∷ [])
    ∷ (0xFF ∷ 0x7F ∷ [])
    ∷ (0x40 ∷ [])
    ∷ (0xC0 ∷ 0x00 ∷ [])
    ∷ (0x80 ∷ 0x80 ∷ 0x80 ∷ 0x80 ∷ 0x78 ∷ [])
    ∷ (0xFF ∷ 0xFF ∷ 0xFF ∷ 0xFF ∷ 0x07 ∷ [])
    ∷ (0xFF ∷ 0xFF ∷ 0xFF ∷ 0xFF ∷ 0x77 ∷ [])
    ∷ (0x80 ∷ 0x80 ∷ 0x80 ∷ 0x80 ∷ 0x08 ∷ [])
    ∷ []) ≡ whole (negsuc 0) 1 ∷ whole (negsuc 0) 2 ∷ whole (negsuc 63) 1 ∷ whole (pos 64) 2 ∷ whole (negsuc 2147483647) 5 ∷ whole (pos 2147483647) 5 ∷ Err (Malformed 4) ∷ Err (Malformed 4) ∷ []
unfolding read
row_signed = refl

-- a section whose contents end before its size, one that ends before its contents, and one whose size goes past the end
pub row_sizes : map module_in (
    (with_header (0x01 ∷ 0x02 ∷ 0x00 ∷ 0x00 ∷ []))
    ∷ (with_header (0x01 ∷ 0x01 ∷ 0x01 ∷ 0x60 ∷ 0x00 ∷ 0x00 ∷ []))
    ∷ (with_header (0x01 ∷ 0x05 ∷ 0x00 ∷ []))
    ∷ []) ≡ Err (Malformed 11) ∷ Err (Malformed 11) ∷ Err (Malformed 11) ∷ []
unfolding read
row_sizes = refl

-- sections: 4 and 9 in their places, 1 twice, 4 behind 5, and one without a meaning
pub row_sections : map module_in (
    (with_header (0x04 ∷ 0x01 ∷ 0x00 ∷ []))
    ∷ (with_header (0x09 ∷ 0x01 ∷ 0x00 ∷ []))
    ∷ (with_header (0x01 ∷ 0x01 ∷ 0x00 ∷ 0x01 ∷ 0x01 ∷ 0x00 ∷ []))
    ∷ (with_header (0x05 ∷ 0x01 ∷ 0x00 ∷ 0x04 ∷ 0x01 ∷ 0x00 ∷ []))
    ∷ (with_header (0x0C ∷ 0x00 ∷ []))
    ∷ []) ≡ Err (Unsupported 8) ∷ Err (Unsupported 8) ∷ Err (Malformed 11) ∷ Err (Malformed 11) ∷ Err (Malformed 8) ∷ []
unfolding read
row_sections = refl

-- a function without a code section, also before section 11, and one with no body in it
pub row_bodies : map module_in (
    (with_header (0x01 ∷ 0x04 ∷ 0x01 ∷ 0x60 ∷ 0x00 ∷ 0x00 ∷ 0x03 ∷ 0x02 ∷ 0x01 ∷ 0x00 ∷ []))
    ∷ (with_header (0x01 ∷ 0x04 ∷ 0x01 ∷ 0x60 ∷ 0x00 ∷ 0x00 ∷ 0x03 ∷ 0x02 ∷ 0x01 ∷ 0x00 ∷ 0x0B ∷ 0x01 ∷ 0x00 ∷ []))
    ∷ (with_header (0x01 ∷ 0x04 ∷ 0x01 ∷ 0x60 ∷ 0x00 ∷ 0x00 ∷ 0x03 ∷ 0x02 ∷ 0x01 ∷ 0x00 ∷ 0x0A ∷ 0x01 ∷ 0x00 ∷ []))
    ∷ []) ≡ Err (Malformed 18) ∷ Err (Malformed 18) ∷ Err (Malformed 20) ∷ []
unfolding read
row_bodies = refl

-- names: a byte that is not UTF-8, a zero in two bytes, half of a pair, a character of four bytes, one past the last, and a name that is cut
pub row_names : map module_in (
    (with_header (0x02 ∷ 0x05 ∷ 0x01 ∷ 0x01 ∷ 0xFF ∷ 0x00 ∷ 0x00 ∷ []))
    ∷ (with_header (0x00 ∷ 0x03 ∷ 0x02 ∷ 0xC0 ∷ 0x80 ∷ []))
    ∷ (with_header (0x00 ∷ 0x04 ∷ 0x03 ∷ 0xED ∷ 0xA0 ∷ 0x80 ∷ []))
    ∷ (with_header (0x00 ∷ 0x05 ∷ 0x04 ∷ 0xF0 ∷ 0x9F ∷ 0x98 ∷ 0x80 ∷ []))
    ∷ (with_header (0x00 ∷ 0x05 ∷ 0x04 ∷ 0xF4 ∷ 0x90 ∷ 0x80 ∷ 0x80 ∷ []))
    ∷ (with_header (0x00 ∷ 0x02 ∷ 0x05 ∷ 0x41 ∷ []))
    ∷ []) ≡ Err (Malformed 12) ∷ Err (Malformed 11) ∷ Err (Malformed 11) ∷ Ok nothing ∷ Err (Malformed 11) ∷ Err (Malformed 12) ∷ []
unfolding read
row_names = refl

-- a value type other than i32, an import of a table, an export of one, a second memory, and a segment of a second memory
pub row_unsupported : map module_in (
    (with_header (0x01 ∷ 0x05 ∷ 0x01 ∷ 0x60 ∷ 0x01 ∷ 0x7D ∷ 0x00 ∷ []))
    ∷ (with_header (0x02 ∷ 0x06 ∷ 0x01 ∷ 0x00 ∷ 0x00 ∷ 0x01 ∷ 0x70 ∷ 0x00 ∷ []))
    ∷ (with_header (0x07 ∷ 0x04 ∷ 0x01 ∷ 0x00 ∷ 0x01 ∷ 0x00 ∷ []))
    ∷ (with_header (0x05 ∷ 0x05 ∷ 0x02 ∷ 0x00 ∷ 0x00 ∷ 0x00 ∷ 0x00 ∷ []))
    ∷ (with_header (0x0B ∷ 0x06 ∷ 0x01 ∷ 0x01 ∷ 0x41 ∷ 0x00 ∷ 0x0B ∷ 0x00 ∷ []))
    ∷ []) ≡ Err (Unsupported 13) ∷ Err (Unsupported 13) ∷ Err (Unsupported 12) ∷ Err (Unsupported 10) ∷ Err (Unsupported 11) ∷ []
unfolding read
row_unsupported = refl

-- initial expressions: a global that is read, an end at once, an else, and two constants
pub row_initials : map module_in (
    (with_header (0x06 ∷ 0x06 ∷ 0x01 ∷ 0x7F ∷ 0x00 ∷ 0x23 ∷ 0x00 ∷ 0x0B ∷ []))
    ∷ (with_header (0x06 ∷ 0x04 ∷ 0x01 ∷ 0x7F ∷ 0x00 ∷ 0x0B ∷ []))
    ∷ (with_header (0x06 ∷ 0x04 ∷ 0x01 ∷ 0x7F ∷ 0x00 ∷ 0x05 ∷ []))
    ∷ (with_header (0x06 ∷ 0x08 ∷ 0x01 ∷ 0x7F ∷ 0x00 ∷ 0x41 ∷ 0x00 ∷ 0x41 ∷ 0x00 ∷ 0x0B ∷ []))
    ∷ []) ≡ Err (Unsupported 13) ∷ Err (Unsupported 13) ∷ Err (Malformed 13) ∷ Err (Unsupported 15) ∷ []
unfolding read
row_initials = refl

-- opcodes: of 64-bit integers, of tables, of a later version, and none; an else outside an if and a second one; a block that does not end
pub row_opcodes : map module_in (
    (with_code (0x42 ∷ 0x00 ∷ []))
    ∷ (with_code (0x11 ∷ 0x00 ∷ 0x00 ∷ []))
    ∷ (with_code (0xC0 ∷ []))
    ∷ (with_code (0x06 ∷ []))
    ∷ (with_code (0x05 ∷ []))
    ∷ (with_code (0x04 ∷ 0x40 ∷ 0x05 ∷ 0x05 ∷ 0x0B ∷ []))
    ∷ (with_code (0x02 ∷ 0x40 ∷ []))
    ∷ (with_code (0x02 ∷ 0x7E ∷ []))
    ∷ (with_code (0x3F ∷ 0x01 ∷ []))
    ∷ []) ≡ Err (Unsupported 23) ∷ Err (Unsupported 23) ∷ Err (Malformed 23) ∷ Err (Malformed 23) ∷ Err (Malformed 23) ∷ Err (Malformed 26) ∷ Err (Malformed 26) ∷ Err (Unsupported 24) ∷ Err (Malformed 24) ∷ []
unfolding read
row_opcodes = refl

-- 1024 pages at the start, one more, and a larger maximum
pub row_pages : map (alone memories_at) (
    (0x01 ∷ 0x00 ∷ 0x80 ∷ 0x08 ∷ [])
    ∷ (0x01 ∷ 0x00 ∷ 0x81 ∷ 0x08 ∷ [])
    ∷ (0x01 ∷ 0x01 ∷ 0x00 ∷ 0x81 ∷ 0x80 ∷ 0x04 ∷ [])
    ∷ []) ≡ whole (Some (record { min = 1024; max = None })) 4 ∷ Err (TooLarge 2) ∷ whole (Some (record { min = 0; max = Some 65537 })) 6 ∷ []
unfolding read
row_pages = refl

-- 65,536 locals in two runs, one more, and as many behind a parameter
pub row_locals : (alone (locals_at 0) (0x02 ∷ 0x80 ∷ 0x80 ∷ 0x02 ∷ 0x7F ∷ 0x80 ∷ 0x80 ∷ 0x02 ∷ 0x7F ∷ []) ≡ whole 65536 9) × (alone (locals_at 0) (0x02 ∷ 0x80 ∷ 0x80 ∷ 0x02 ∷ 0x7F ∷ 0x81 ∷ 0x80 ∷ 0x02 ∷ 0x7F ∷ []) ≡ Err (TooLarge 5)) × (alone (locals_at 1) (0x02 ∷ 0x80 ∷ 0x80 ∷ 0x02 ∷ 0x7F ∷ 0x80 ∷ 0x80 ∷ 0x02 ∷ 0x7F ∷ []) ≡ Err (TooLarge 5))
unfolding read
row_locals = (refl, refl, refl)

-- a list of 2^20 values may be, and one more is too many
pub row_list : map (alone (limited_at (2 ^ 20))) (
    (0x80 ∷ 0x80 ∷ 0x40 ∷ [])
    ∷ (0x81 ∷ 0x80 ∷ 0x40 ∷ [])
    ∷ []) ≡ whole 1048576 3 ∷ Err (TooLarge 0) ∷ []
unfolding read
row_list = refl

-- a block within 2^20 - 1 others may begin, and one within 2^20 is too deep
pub row_nesting : (blocks : Blocks) → (length blocks ≡ 2 ^ 20 - 1 → alone (opcode_at blocks) (0x02 ∷ []) ≡ whole 0x02 1) × (length blocks ≡ 2 ^ 20 → alone (opcode_at blocks) (0x02 ∷ []) ≡ Err (TooLarge 0))
unfolding read
row_nesting blocks = (λ e. rw e refl, λ e. rw e refl)

-- function types: two results, 65,537 parameters, and a result of 64 bits
pub row_types : map (alone func_type_at) (
    (0x60 ∷ 0x00 ∷ 0x02 ∷ 0x7F ∷ 0x7F ∷ [])
    ∷ (0x60 ∷ 0x81 ∷ 0x80 ∷ 0x04 ∷ [])
    ∷ (0x60 ∷ 0x00 ∷ 0x01 ∷ 0x7E ∷ [])
    ∷ []) ≡ whole (record { params = 0; results = 2 }) 5 ∷ Err (TooLarge 1) ∷ Err (Unsupported 3) ∷ []
unfolding read
row_types = refl

-- a module of every section, with custom sections in front, between and behind; its data goes to an unsigned offset above 2^31
pub row_every : module_in (with_header (0x00 ∷ 0x02 ∷ 0x01 ∷ 0x41 ∷ 0x01 ∷ 0x04 ∷ 0x01 ∷ 0x60 ∷ 0x00 ∷ 0x00 ∷ 0x03 ∷ 0x02 ∷ 0x01 ∷ 0x00 ∷ 0x00 ∷ 0x03 ∷ 0x00 ∷ 0xFF ∷ 0xFF ∷ 0x05 ∷ 0x04 ∷ 0x01 ∷ 0x01 ∷ 0x01 ∷ 0x02 ∷ 0x06 ∷ 0x06 ∷ 0x01 ∷ 0x7F ∷ 0x01 ∷ 0x41 ∷ 0x7F ∷ 0x0B ∷ 0x07 ∷ 0x05 ∷ 0x01 ∷ 0x01 ∷ 0x6D ∷ 0x02 ∷ 0x00 ∷ 0x08 ∷ 0x01 ∷ 0x00 ∷ 0x0A ∷ 0x15 ∷ 0x01 ∷ 0x13 ∷ 0x02 ∷ 0x01 ∷ 0x7F ∷ 0x02 ∷ 0x7F ∷ 0x03 ∷ 0x7F ∷ 0x0E ∷ 0x01 ∷ 0x00 ∷ 0x01 ∷ 0x28 ∷ 0x02 ∷ 0x80 ∷ 0x01 ∷ 0x40 ∷ 0x00 ∷ 0x0B ∷ 0x0B ∷ 0x0B ∷ 0x0C ∷ 0x01 ∷ 0x00 ∷ 0x41 ∷ 0x80 ∷ 0x80 ∷ 0x80 ∷ 0x80 ∷ 0x78 ∷ 0x0B ∷ 0x02 ∷ 0x41 ∷ 0x42 ∷ 0x00 ∷ 0x01 ∷ 0x00 ∷ [])) ≡ Ok (record {
  types = record { params = 0; results = 0 } ∷ [];
  imports = [];
  funcs = 0 ∷ [];
  memory = Some (record { min = 1; max = Some 2 });
  globals = record { mutable = true; first = negsuc 0 } ∷ [];
  exports = record { name = 0x6D ∷ []; sort = 2; index = 0 } ∷ [];
  start = Some 0;
  bodies = record { locals = 3; instructions = (0x03, Typed true) ∷ (0x0E, Table (0 ∷ []) 1) ∷ (0x28, Access (record { align = 2; offset = 128 })) ∷ (0x40, Reserved) ∷ (0x0B, Plain) ∷ (0x0B, Plain) ∷ [] } ∷ [];
  segments = record { offset = negsuc 2147483647; bytes = 0x41 ∷ 0x42 ∷ [] } ∷ [];
})
unfolding read
row_every = refl

-- a function of the second type takes its two parameters, and one whose type is not there takes none
pub row_parameters : map (params_of (record { params = 0; results = 0 } ∷ record { params = 2; results = 1 } ∷ [])) (1 ∷ 2 ∷ []) ≡ 2 ∷ 0 ∷ []
row_parameters = refl

-- so many numbers from one on
abbrev from : ℕ → ℕ → List ℕ
from first zero = []
from first (suc n) = first ∷ from (first + 1) n

-- what an opcode at the place 7 gives, with `40 40` behind it
abbrev opcode_alone : ℕ → Result Coded ModFault
opcode_alone op = operands_at 7 op (record { left = 0x40 ∷ 0x40 ∷ []; end = 10 }) >>= λ x. Ok x.0

-- an opcode that is not taken is unsupported where the standard's version 1.0 has it
pub row_not_taken : (map opcode_alone (0x11 ∷ (from 0x29 3 ++ from 0x30 6 ++ from 0x37 3 ++ from 0x3C 3 ++ from 0x42 3 ++ from 0x50 23 ++ from 0x79 71)) ≡ map (λ op. Err (Unsupported 7)) (from 0 113))
    × (map opcode_alone (from 0x06 5 ++ from 0x12 8 ++ from 0x1C 4 ++ from 0x25 3 ++ from 0xC0 64) ≡ map (λ op. Err (Malformed 7)) (from 0 84))
unfolding read
row_not_taken = (refl, refl)

-- each other opcode is taken with its operands: all 59, of which br_table and the two of sizes have operands of their own
pub row_taken : (map opcode_alone (from 0x00 2 ++ 0x05 ∷ 0x0B ∷ 0x0F ∷ 0x1A ∷ 0x1B ∷ (from 0x45 11 ++ from 0x67 18)) ≡ map (λ op. Ok (op, Plain)) (from 0x00 2 ++ 0x05 ∷ 0x0B ∷ 0x0F ∷ 0x1A ∷ 0x1B ∷ (from 0x45 11 ++ from 0x67 18)))
    × (map opcode_alone (from 0x02 3) ≡ map (λ op. Ok (op, Typed false)) (from 0x02 3))
    × (map opcode_alone (0x0C ∷ 0x0D ∷ 0x10 ∷ from 0x20 5) ≡ map (λ op. Ok (op, Index 64)) (0x0C ∷ 0x0D ∷ 0x10 ∷ from 0x20 5))
    × (map opcode_alone (0x28 ∷ (from 0x2C 4 ++ 0x36 ∷ 0x3A ∷ 0x3B ∷ [])) ≡ map (λ op. Ok (op, Access (record { align = 64; offset = 64 }))) (0x28 ∷ (from 0x2C 4 ++ 0x36 ∷ 0x3A ∷ 0x3B ∷ [])))
    × (opcode_alone 0x41 ≡ Ok (0x41, Number (negsuc 63)))
    × (operands_at 7 0x0E (record { left = 0x02 ∷ 0x05 ∷ 0x06 ∷ 0x07 ∷ []; end = 12 }) ≡ Ok ((0x0E, Table (5 ∷ 6 ∷ []) 7), record { left = []; end = 12 }))
    × (map (λ op. operands_at 7 op (record { left = 0x00 ∷ []; end = 9 })) (from 0x3F 2) ≡ map (λ op. Ok ((op, Reserved), record { left = []; end = 9 })) (from 0x3F 2))
unfolding read
row_taken = (refl, refl, refl, refl, refl, refl, refl)
