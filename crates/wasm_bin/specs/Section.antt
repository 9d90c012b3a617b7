-- The sections of a module.
use Rattle.std.specs.Prelude.{ℕ, zero, suc, ◌==◌, List, [], ◌∷◌, length, map, slice_get, Option, Some, None, is_some, ◌||◌, Result, Ok, Err, if◌then◌else◌}
use Rattle.std.specs.Option.{option_map_or}
use Rattle.wasm_bytes.specs.declared.fault.ModFault.{ModFault}
use Rattle.wasm_bytes.specs.declared.fault.ModFault.TheVariants.{Malformed, Unsupported}
use Rattle.wasm_bytes.specs.declared.cursor.Window.{Window}
use Rattle.wasm_bin.specs.declared.module.FuncType.{FuncType}
use Rattle.wasm_bin.specs.declared.module.Limits.{Limits}
use Rattle.wasm_bin.specs.declared.module.GlobalVar.{GlobalVar}
use Rattle.wasm_bytes.specs.Outcome.{◌>>=◌}
use Rattle.wasm_bytes.specs.Piece.{Piece, Cut, Reading, place, begins_with, expected_at, view_window}
use Rattle.wasm_bytes.specs.Number.{u32_at}
use Rattle.wasm_bytes.specs.Text.{name_at}
use Rattle.wasm_bin.specs.Parts.{Foreign, Shown, Function, Parts}
use Rattle.wasm_bin.specs.Entry.{list_at, func_type_at, import_at, memories_at, global_at, export_at, segment_at}
use Rattle.wasm_bin.specs.Body.{sized_at, filled_at, body_at}

-- a custom section: 0, a size, a name and any bytes
unfoldable pub custom_at : Piece → Result Piece ModFault
custom_at p = do
  front ← expected_at 0 p
  w ← sized_at front
  name ← name_at w.inside
  if w.whole then Ok w.behind else Err (Malformed w.inside.end)

-- custom sections as long as they come; there are no more of them than bytes
unfoldable pub customs_at : ℕ → Piece → Result Piece ModFault
customs_at zero p = Ok p
customs_at (suc n) p = if begins_with 0 p then (custom_at p >>= customs_at n) else Ok p

abbrev pub past_customs : Piece → Result Piece ModFault
past_customs p = customs_at (length p.left) p

-- the section of this number, where it comes next
unfoldable pub opened_at : ℕ → Piece → Result (Option Cut) ModFault
opened_at id p = if begins_with id p then (expected_at id p >>= sized_at >>= λ w. Ok (Some w)) else Ok None

abbrev pub view_opened : Option Window → Option Cut
view_opened None = None
view_opened (Some w) = Some (view_window w)

-- the contents of a section, or what stands for no section
abbrev pub contents_at : {A : Type 0} → Reading A → A → Piece → Option Cut → Result (A × Piece) ModFault
contents_at reading absent p None = Ok (absent, p)
contents_at reading absent p (Some w) = filled_at reading w

-- custom sections, and the section of this number or none
abbrev pub section_at : {A : Type 0} → ℕ → Reading A → A → Reading A
section_at id reading absent p = past_customs p >>= λ q. opened_at id q >>= contents_at reading absent q

-- custom sections, and no section of this number, which is of another kind of modules
unfoldable pub other_at : ℕ → Piece → Result Piece ModFault
other_at id p = do
  q ← past_customs p
  if begins_with id q then Err (Unsupported (place q)) else Ok q

-- one index
unfoldable pub start_at : Reading (Option ℕ)
start_at p = do
  n ← u32_at p
  Ok (Some n.0, n.1)

-- the number of parameters of the type with this index, and 0 where there is none
abbrev pub params_of : List FuncType → ℕ → ℕ
params_of types kind = option_map_or (λ (t : FuncType). t.params) (slice_get types kind) 0

-- a body for each function, by its number of parameters
unfoldable pub each_body_at : List ℕ → Reading (List Function)
each_body_at [] p = Ok ([], p)
each_body_at (params ∷ others) p = body_at params p >>= λ first. each_body_at others first.1 >>= λ rest. Ok (first.0 ∷ rest.0, rest.1)

-- the number of the functions, and their bodies
unfoldable pub bodies_at : List FuncType → List ℕ → Reading (List Function)
bodies_at types funcs p = do
  n ← u32_at p
  if n.0 == length funcs then each_body_at (map (params_of types) funcs) n.1 else Err (Malformed (place p))

-- custom sections, and the bodies of the functions; there is no such section only where there is no function
unfoldable pub code_section_at : List FuncType → List ℕ → Reading (List Function)
code_section_at types funcs p = do
  q ← past_customs p
  w ← opened_at 10 q
  if (length funcs == 0) || is_some w then contents_at (bodies_at types funcs) [] q w else Err (Malformed (place q))

-- custom sections, and nothing behind them
unfoldable pub end_at : Piece → Result Piece ModFault
end_at p = do
  q ← past_customs p
  if length q.left == 0 then Ok q else Err (Malformed (place q))

-- `\0asm` and the version 1
unfoldable pub header_at : Piece → Result Piece ModFault
header_at p = expected_at 0x00 p >>= expected_at 0x61 >>= expected_at 0x73 >>= expected_at 0x6D >>= expected_at 0x01 >>= expected_at 0x00 >>= expected_at 0x00 >>= expected_at 0x00

-- what stands before the code
pub record Opening : Type 0 where
  pub types : List FuncType
  pub imports : List Foreign
  pub funcs : List ℕ
  pub memory : Option Limits
  pub globals : List GlobalVar
  pub exports : List Shown
  pub start : Option ℕ

-- the header, and the sections 1, 2, 3, 5, 6, 7 and 8
unfoldable pub front_at : Reading Opening
front_at p = do
  header ← header_at p
  types ← section_at 1 (list_at func_type_at) [] header
  imports ← section_at 2 (list_at import_at) [] types.1
  funcs ← section_at 3 (list_at u32_at) [] imports.1
  tables ← other_at 4 funcs.1
  memory ← section_at 5 memories_at None tables
  globals ← section_at 6 (list_at global_at) [] memory.1
  exports ← section_at 7 (list_at export_at) [] globals.1
  start ← section_at 8 start_at None exports.1
  Ok (record { types = types.0; imports = imports.0; funcs = funcs.0; memory = memory.0; globals = globals.0; exports = exports.0; start = start.0 }, start.1)

-- the front, the sections 10 and 11, and the end
unfoldable pub module_at : Piece → Result Parts ModFault
module_at p = do
  front ← front_at p
  elements ← other_at 9 front.1
  bodies ← code_section_at front.0.types front.0.funcs elements
  segments ← section_at 11 (list_at segment_at) [] bodies.1
  rest ← end_at segments.1
  Ok (record { types = front.0.types; imports = front.0.imports; funcs = front.0.funcs; memory = front.0.memory; globals = front.0.globals; exports = front.0.exports; start = front.0.start; bodies = bodies.0; segments = segments.0 })

-- what the bytes of a file read as
abbrev pub module_in : List ℕ → Result Parts ModFault
module_in bytes = module_at (record { left = bytes; end = length bytes })
