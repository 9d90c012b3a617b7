-- How many bytes a module takes at most.
use Rattle.std.proofs.Common.{◌≡◌, ℕ, zero, suc, ◌+◌, ◌*◌, ◌<◌, ◌≤◌, List, [], ◌∷◌, ◌++◌, length, replicate, Option, None, Some, arith, length-append}
use Rattle.std.specs.Prelude.{sum_by, ℤ}
use Rattle.std.specs.List.{flat_map}
use Rattle.std.proofs.lemmas.List.{length-replicate}
use Rattle.std.proofs.lemmas.List.Sums.{sum_by-cons}
use Rattle.wasm_bin.specs.declared.module.FuncType.{FuncType}
use Rattle.wasm_bin.specs.declared.module.Limits.{Limits}
use Rattle.wasm_bin.specs.declared.module.GlobalVar.{GlobalVar}
use Rattle.wasm_bin.specs.declared.module.Module.{Module}
use Rattle.wasm_bin.specs.Opcode.{Operands, Plain, Typed, Index, Table, Access, Reserved, Number, Coded}
use Rattle.wasm_bin.specs.Parts.{Foreign, Shown, Function, Stretch, Parts, parts_of}
use Rattle.wasm_write.specs.Leb.{number_bytes, integer_bytes}
use Rattle.wasm_write.specs.Written.{counted, vector_bytes, value_types_bytes, func_type_bytes, import_bytes, range_bytes, limits_bytes, initial_bytes, global_bytes, export_bytes, segment_bytes, operands_bytes, instruction_bytes, locals_bytes, body_bytes, section, vector_section, memory_section, start_section, header, declarations_bytes, definitions_bytes, module_bytes}
use Rattle.wasm_write.specs.Most.{func_type_most, import_most, export_most, segment_most, operands_most, instruction_most, body_most, module_most}
use Rattle.wasm_write.proofs.Digits.{number_few}
use Rattle.wasm_write.proofs.Signs.{integer_few}

rows_most : {A : Type 0} (f : A → List ℕ) (most : A → ℕ) → ((x : A) → length (f x) ≤ most x) → (xs : List A) → length (flat_map f xs) ≤ sum_by most xs
rows_most f most each [] = omega arith
rows_most f most each (x ∷ xs) = omega (arith, each x, rows_most f most each xs, length-append (f x) (flat_map f xs), sum_by-cons most x xs)

rows_each : {A : Type 0} (f : A → List ℕ) (n : ℕ) → ((x : A) → length (f x) ≤ n) → (xs : List A) → length (flat_map f xs) ≤ n * length xs
rows_each f n each [] = omega arith
rows_each f n each (x ∷ xs) =
    let rest = rows_each f n each xs in
    let step : n * suc (length xs) ≡ n + n * length xs = omega arith in
    omega (arith, each x, rest, step, length-append (f x) (flat_map f xs))

counted_most : (row : List ℕ) → length (counted row) ≤ 5 + length row
counted_most row = omega (arith, number_few (length row), length-append (number_bytes (length row)) row)

section_most : (id : ℕ) (contents : List ℕ) → length (section id contents) ≤ 6 + length contents
section_most id contents = omega (arith, counted_most contents)

vector_most : {A : Type 0} (id : ℕ) (f : A → List ℕ) (xs : List A) → length (vector_section id f xs) ≤ 11 + length (flat_map f xs)
vector_most id f [] = omega arith
vector_most id f (x ∷ xs) = omega (arith, section_most id (vector_bytes f (x ∷ xs)), number_few (length (x ∷ xs)), length-append (number_bytes (length (x ∷ xs))) (flat_map f (x ∷ xs)))

value_types_most : (n : ℕ) → length (value_types_bytes n) ≤ 5 + n
value_types_most n = omega (arith, number_few n, length-append (number_bytes n) (replicate n 0x7F), length-replicate {A = ℕ} n 0x7F)

func_type_few : (t : FuncType) → length (func_type_bytes t) ≤ func_type_most t
func_type_few t = omega (arith, value_types_most t.params, value_types_most t.results, length-append (value_types_bytes t.params) (value_types_bytes t.results))

import_few : (i : Foreign) → length (import_bytes i) ≤ import_most i
import_few i =
    let kind = 0x00 ∷ number_bytes i.kind in
    omega (arith, counted_most i.origin, counted_most i.name, number_few i.kind, length-append (counted i.origin) (counted i.name ++ kind), length-append (counted i.name) kind)

initial_few : (z : ℤ) → length (initial_bytes z) ≤ 7
initial_few z = omega (arith, integer_few z, length-append (integer_bytes z) (0x0B ∷ []))

global_few : (g : GlobalVar) → length (global_bytes g) ≤ 9
global_few g = omega (arith, initial_few g.first)

export_few : (e : Shown) → length (export_bytes e) ≤ export_most e
export_few e = omega (arith, counted_most e.name, number_few e.index, length-append (counted e.name) (e.sort ∷ number_bytes e.index))

segment_few : (s : Stretch) → length (segment_bytes s) ≤ segment_most s
segment_few s = omega (arith, initial_few s.offset, counted_most s.bytes, length-append (initial_bytes s.offset) (counted s.bytes))

operands_few : (operands : Operands) → length (operands_bytes operands) ≤ operands_most operands
operands_few Plain = omega arith
operands_few (Typed gives) = omega arith
operands_few (Index n) = omega (arith, number_few n)
operands_few (Table labels label) =
    let all = flat_map number_bytes labels in
    omega (arith, number_few (length labels), number_few label, rows_each number_bytes 5 number_few labels, length-append (vector_bytes number_bytes labels) (number_bytes label), length-append (number_bytes (length labels)) all)
operands_few (Access m) = omega (arith, number_few m.align, number_few m.offset, length-append (number_bytes m.align) (number_bytes m.offset))
operands_few Reserved = omega arith
operands_few (Number z) = omega (arith, integer_few z)

instruction_few : (i : Coded) → length (instruction_bytes i) ≤ instruction_most i
instruction_few i = omega (arith, operands_few i.1)

locals_few : (n : ℕ) → length (locals_bytes n) ≤ 7
locals_few zero = omega arith
locals_few (suc n) = omega (arith, number_few (suc n), length-append (number_bytes (suc n)) (0x7F ∷ []))

body_few : (c : Function) → length (body_bytes c) ≤ body_most c
body_few c =
    let code = flat_map instruction_bytes c.instructions in
    omega (arith, counted_most (locals_bytes c.locals ++ code), locals_few c.locals, rows_most instruction_bytes instruction_most instruction_few c.instructions, length-append (locals_bytes c.locals) code)

pub range_few : (least : ℕ) (largest : Option ℕ) → length (range_bytes least largest) ≤ 11
range_few least None = omega (arith, number_few least)
range_few least (Some largest) = omega (arith, number_few least, number_few largest, length-append (number_bytes least) (number_bytes largest))

memory_few : (memory : Option Limits) → length (memory_section memory) ≤ 18
memory_few None = omega arith
memory_few (Some l) = omega (arith, section_most 5 (0x01 ∷ limits_bytes l), range_few l.min l.max)

start_few : (start : Option ℕ) → length (start_section start) ≤ 11
start_few None = omega arith
start_few (Some func) = omega (arith, section_most 8 (number_bytes func), number_few func)

four : (a b c d : List ℕ) → length (a ++ (b ++ (c ++ d))) ≡ length a + (length b + (length c + length d))
four a b c d = omega (arith, length-append a (b ++ (c ++ d)), length-append b (c ++ d), length-append c d)

five : (a b c d e : List ℕ) → length (a ++ (b ++ (c ++ (d ++ e)))) ≡ length a + (length b + (length c + (length d + length e)))
five a b c d e = omega (arith, length-append a (b ++ (c ++ (d ++ e))), four b c d e)

-- a part of a row is no longer than the row
pub four_below : (a b c d : List ℕ) (n : ℕ) → length (a ++ (b ++ (c ++ d))) < n → (length a < n) × (length b < n) × (length c < n) × (length d < n)
four_below a b c d n h = let e = four a b c d in (omega arith, omega arith, omega arith, omega arith)

pub five_below : (a b c d e : List ℕ) (n : ℕ) → length (a ++ (b ++ (c ++ (d ++ e)))) < n → (length a < n) × (length b < n) × (length c < n) × (length d < n) × (length e < n)
five_below a b c d e n h = let whole = five a b c d e in (omega arith, omega arith, omega arith, omega arith, omega arith)

declarations_few : (m : Parts) → length (declarations_bytes m) ≤ 51 + sum_by func_type_most m.types + sum_by import_most m.imports + 5 * length m.funcs
declarations_few m =
    let types = vector_section 1 func_type_bytes m.types in
    let imports = vector_section 2 import_bytes m.imports in
    let funcs = vector_section 3 number_bytes m.funcs in
    omega (
      arith,
      four types imports funcs (memory_section m.memory),
      vector_most 1 func_type_bytes m.types,
      vector_most 2 import_bytes m.imports,
      vector_most 3 number_bytes m.funcs,
      memory_few m.memory,
      rows_most func_type_bytes func_type_most func_type_few m.types,
      rows_most import_bytes import_most import_few m.imports,
      rows_each number_bytes 5 number_few m.funcs,
    )

definitions_few : (m : Parts) → length (definitions_bytes m) ≤ 55 + 9 * length m.globals + sum_by export_most m.exports + sum_by body_most m.bodies + sum_by segment_most m.segments
definitions_few m =
    let globals = vector_section 6 global_bytes m.globals in
    let exports = vector_section 7 export_bytes m.exports in
    let start = start_section m.start in
    let bodies = vector_section 10 body_bytes m.bodies in
    let segments = vector_section 11 segment_bytes m.segments in
    omega (
      arith,
      five globals exports start bodies segments,
      vector_most 6 global_bytes m.globals,
      vector_most 7 export_bytes m.exports,
      start_few m.start,
      vector_most 10 body_bytes m.bodies,
      vector_most 11 segment_bytes m.segments,
      rows_each global_bytes 9 global_few m.globals,
      rows_most export_bytes export_most export_few m.exports,
      rows_most body_bytes body_most body_few m.bodies,
      rows_most segment_bytes segment_most segment_few m.segments,
    )

pub written_short : (m : Module) → length (module_bytes m) ≤ module_most (parts_of m)
written_short m =
    let p = parts_of m in
    omega (arith, declarations_few p, definitions_few p, length-append header (declarations_bytes p ++ definitions_bytes p), length-append (declarations_bytes p) (definitions_bytes p))
