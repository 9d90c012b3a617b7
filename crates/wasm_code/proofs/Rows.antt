-- Some bytes spell the module of a program.
use Rattle.std.proofs.Common.{◌≡◌, ℕ, zero, suc, ◌+◌, ◌*◌, ◌^◌, ◌<◌, ◌≤◌, true, false, List, [], ◌∷◌, ◌++◌, length, map, replicate, None, Some, inl, refl, sym, ap, subst, arith}
use Rattle.std.specs.Prelude.{pos, sum_by}
use Rattle.std.specs.List.{range_with_len, flat_map}
use Rattle.std.specs.Str.{IsUtf8, is_utf8, chars}
use lib.Utf8.{encode}
use Rattle.std.proofs.lemmas.List.{map-append}
use Rattle.std.proofs.lemmas.List.Sums.{sum_by-cons}
use Rattle.std.proofs.lemmas.Str.{IsUtf8-from_is_utf8}
use Rattle.word24.specs.declared.word.Word.{Word}
use Rattle.word24.specs.Word.{number_of}
use Rattle.eir_core.specs.declared.ops.Reg.{Reg}
use Rattle.eir_core.specs.declared.ops.Reg.TheVariants.{A, B, C, D, SP, BP}
use Rattle.eir_core.specs.declared.ops.Operand.{Operand}
use Rattle.eir_core.specs.declared.ops.Operand.TheVariants.{Reg as register, Imm}
use Rattle.eir_core.specs.declared.ops.Cond.{Cond}
use Rattle.eir_core.specs.declared.ops.Cond.TheVariants.{Eq, Ne, Lt, Gt, Le, Ge}
use Rattle.eir_core.specs.declared.ops.Op.{Op}
use Rattle.eir_core.specs.declared.ops.Op.TheVariants.{Mov, Add, Sub, Load, Store, Putc, Getc, Exit, Set, Jump, JumpIf}
use Rattle.eir_core.specs.Eir.{Eir, IsEir, size_of}
use Rattle.wasm_bin.specs.declared.module.FuncType.{FuncType}
use Rattle.wasm_bin.specs.declared.module.Instr.{Instr}
use Rattle.wasm_bin.specs.declared.module.Instr.TheVariants as instr
use Rattle.wasm_bin.specs.Opcode.{Plain, Typed, Index, Table, Access, Number, Coded, coded, is_block, is_control, is_indexed, is_access, is_comparison, is_arithmetic}
use Rattle.wasm_bin.specs.Parts.{Stretch, foreign, shown, stretch, parts_of}
use Rattle.wasm_bin.specs.Grammar.{InTurn, Takes, SpellsNumber, SpellsVector, SpellsFuncType, SpellsImport, SpellsRange, SpellsLimits, SpellsMemories, SpellsInitial, SpellsSort, SpellsExport, SpellsSegment, SpellsBlockType, SpellsOperands, SpellsInstruction, SpellsCode, SpellsRun, SpellsLocals, SpellsBody, SpellsBodies, SpellsFuncs, SpellsGlobal, SpellsStart, VectorSection, Header, SpellsModule, ModuleSpells, IsExpression}
use Rattle.wasm_rule.specs.Memory.{bytes_of}
use Rattle.wasm_rule.specs.Spells.{WasmSpells}
use Rattle.wasm_build.proofs.Nests.{expression}
use Rattle.wasm_code.specs.Emitted.{register_local, goal_local, value_code, wrapped_code, place_code, whole_word, test_code, flag_code, goal_code, op_code, ops_code, blocks_code, choice_code, turn_code, main_code, segments_for, types_for, host_import, main_export, module_for}
use Rattle.wasm_rule.specs.Start.{env_name, main_name}
use Rattle.wasm_rule.specs.Step.{getchar_name, putchar_name}
use Rattle.wasm_code.proofs.Nest.{main, main_spelled, main_deep}
use Rattle.wasm_code.proofs.Typed.{within, main_typed, valid}
use Rattle.wasm_code.proofs.Linked.{bytes_long, linkable}
use Rattle.wasm_code.proofs.Spelled.{Has, weaker, both, this, byte, times, number, limited, integer, bytes, name, sized, present, absent, customs, none, one, joined, vector, instruction}

-- the language has a row of these instructions, of at most so many bytes
abbrev Coding : List Instr → ℕ → Type 0
Coding code most = Has (InTurn SpellsInstruction (map coded code)) most

followed : {m n : ℕ} (x y : List Instr) → Coding x m → Coding y n → Coding (x ++ y) (m + n)
followed {m} {n} x y a b = subst (λ (is : List Coded). Has (InTurn SpellsInstruction is) (m + n)) (sym (map-append coded x y)) (joined SpellsInstruction (map coded x) (map coded y) a b)

alone : {m : ℕ} (i : Instr) → Has (SpellsInstruction (coded i)) m → Coding (i ∷ []) (m + 0)
alone i h = one SpellsInstruction (coded i) [] h (none SpellsInstruction)

-- an instruction with an index
indexed : (op k : ℕ) → is_indexed op ≡ true → k < 2 ^ 32 → Has (SpellsInstruction (op, Index k)) 6
unfolding Takes SpellsOperands
indexed op k is small = instruction op (Index k) is (number k small)

get : (k : ℕ) → k < 2 ^ 32 → Coding (instr.LocalGet k ∷ []) 6
unfolding is_indexed
get k small = alone (instr.LocalGet k) (indexed 0x20 k refl small)

set : (k : ℕ) → k < 2 ^ 32 → Coding (instr.LocalSet k ∷ []) 6
unfolding is_indexed
set k small = alone (instr.LocalSet k) (indexed 0x21 k refl small)

br : (k : ℕ) → k < 2 ^ 32 → Coding (instr.Br k ∷ []) 6
unfolding is_indexed
br k small = alone (instr.Br k) (indexed 0x0C k refl small)

br_if : (k : ℕ) → k < 2 ^ 32 → Coding (instr.BrIf k ∷ []) 6
unfolding is_indexed
br_if k small = alone (instr.BrIf k) (indexed 0x0D k refl small)

call : (k : ℕ) → k < 2 ^ 32 → Coding (instr.Call k ∷ []) 6
unfolding is_indexed
call k small = alone (instr.Call k) (indexed 0x10 k refl small)

const : (n : ℕ) → n < 2 ^ 31 → Coding (instr.Const (pos n) ∷ []) 6
unfolding Takes SpellsOperands
const n small = alone (instr.Const (pos n)) (instruction 0x41 (Number (pos n)) refl (integer n small))

-- an instruction without operands
record IsPlain (i : Instr) : Type 0 where
  op : ℕ
  is : coded i ≡ (op, Plain)
  takes : Takes op Plain

plain : (i : Instr) → IsPlain i → Coding (i ∷ []) 1
unfolding SpellsOperands
plain i h = alone i (subst (λ (c : Coded). Has (SpellsInstruction c) 1) (sym h.is) (instruction h.op Plain h.takes (this [])))

add_plain : IsPlain instr.Add
unfolding Takes is_comparison is_arithmetic
add_plain = record { op = 0x6A; is = refl; takes = refl }

sub_plain : IsPlain instr.Sub
unfolding Takes is_comparison is_arithmetic
sub_plain = record { op = 0x6B; is = refl; takes = refl }

and_plain : IsPlain instr.And
unfolding Takes is_comparison is_arithmetic
and_plain = record { op = 0x71; is = refl; takes = refl }

shl_plain : IsPlain instr.Shl
unfolding Takes is_comparison is_arithmetic
shl_plain = record { op = 0x74; is = refl; takes = refl }

return_plain : IsPlain instr.Return
unfolding Takes is_comparison is_arithmetic is_control
return_plain = record { op = 0x0F; is = refl; takes = refl }

end_plain : IsPlain instr.End
unfolding Takes is_comparison is_arithmetic is_control
end_plain = record { op = 0x0B; is = refl; takes = refl }

test_plain : (test : Cond) → IsPlain (test_code test)
unfolding Takes is_comparison is_arithmetic
test_plain Eq = record { op = 0x46; is = refl; takes = refl }
test_plain Ne = record { op = 0x47; is = refl; takes = refl }
test_plain Lt = record { op = 0x49; is = refl; takes = refl }
test_plain Gt = record { op = 0x4B; is = refl; takes = refl }
test_plain Le = record { op = 0x4D; is = refl; takes = refl }
test_plain Ge = record { op = 0x4F; is = refl; takes = refl }

whole : Has (SpellsOperands (Access whole_word)) 10
unfolding SpellsOperands
whole = both (number 2 (omega arith)) (number 0 (omega arith))

load : Coding (instr.Load whole_word ∷ []) 11
unfolding Takes is_access
load = alone (instr.Load whole_word) (instruction 0x28 (Access whole_word) refl whole)

store : Coding (instr.Store whole_word ∷ []) 11
unfolding Takes is_access
store = alone (instr.Store whole_word) (instruction 0x36 (Access whole_word) refl whole)

block_type : Has (SpellsOperands (Typed false)) 1
unfolding SpellsOperands SpellsBlockType
block_type = byte 0x40

block : Coding (instr.Block false ∷ []) 2
unfolding Takes is_block
block = alone (instr.Block false) (instruction 0x02 (Typed false) refl block_type)

loop : Coding (instr.Loop false ∷ []) 2
unfolding Takes is_block
loop = alone (instr.Loop false) (instruction 0x03 (Typed false) refl block_type)

numbers : (a n : ℕ) → a + n < 2 ^ 32 → Has (InTurn SpellsNumber (range_with_len a n)) (5 * n)
numbers a zero small = none SpellsNumber
numbers a (suc n) small = weaker (one SpellsNumber a (range_with_len (a + 1) n) (number a (omega arith)) (numbers (a + 1) n (omega arith))) (omega arith)

long_range : (a n : ℕ) → length (range_with_len a n) ≡ n
long_range a zero = refl
long_range a (suc n) = ap suc (long_range (a + 1) n)

table : (n : ℕ) → n ≤ 2 ^ 16 → Coding (instr.BrTable (range_with_len 0 n) (n + 1) ∷ []) (11 + 5 * n)
unfolding Takes SpellsOperands
table n few =
    let labels = range_with_len 0 n in
    let long = long_range 0 n in
    weaker (alone (instr.BrTable labels (n + 1)) (instruction 0x0E (Table labels (n + 1)) refl (both (vector SpellsNumber labels (omega arith) (numbers 0 n (omega arith))) (number (n + 1) (omega arith))))) (omega arith)

few_locals : (r : Reg) → register_local r < 2 ^ 32
few_locals A = omega arith
few_locals B = omega arith
few_locals C = omega arith
few_locals D = omega arith
few_locals SP = omega arith
few_locals BP = omega arith

get_reg : (r : Reg) → Coding (instr.LocalGet (register_local r) ∷ []) 6
get_reg r = get (register_local r) (few_locals r)

set_reg : (r : Reg) → Coding (instr.LocalSet (register_local r) ∷ []) 6
set_reg r = set (register_local r) (few_locals r)

value : (v : Operand) → Coding (value_code v) 6
value (register r) = get_reg r
value (Imm w) = const w.value (let word = w.in_range in omega arith)

wrapped : (r : Reg) → Coding (wrapped_code r) 13
wrapped r = followed (instr.Const (pos 16777215) ∷ []) (instr.And ∷ instr.LocalSet (register_local r) ∷ []) (const 16777215 (omega arith)) (followed (instr.And ∷ []) (instr.LocalSet (register_local r) ∷ []) (plain instr.And and_plain) (set_reg r))

place : (v : Operand) → Coding (place_code v) 13
place v = followed (value_code v) (instr.Const (pos 2) ∷ instr.Shl ∷ []) (value v) (followed (instr.Const (pos 2) ∷ []) (instr.Shl ∷ []) (const 2 (omega arith)) (plain instr.Shl shl_plain))

flag : (test : Cond) (r : Reg) (v : Operand) → Coding (flag_code test r v) 13
flag test r v =
    followed (instr.LocalGet (register_local r) ∷ []) (value_code v ++ test_code test ∷ []) (get_reg r)
    (followed (value_code v) (test_code test ∷ []) (value v) (plain (test_code test) (test_plain test)))

goal : (target : Operand) → Coding (goal_code target) 12
goal target = followed (value_code target) (instr.LocalSet goal_local ∷ []) (value target) (set goal_local (omega arith))

arithmetic : (r : Reg) (v : Operand) (i : Instr) → IsPlain i → Coding (instr.LocalGet (register_local r) ∷ (value_code v ++ i ∷ wrapped_code r)) 26
arithmetic r v i h =
    followed (instr.LocalGet (register_local r) ∷ []) (value_code v ++ i ∷ wrapped_code r) (get_reg r)
    (followed (value_code v) (i ∷ wrapped_code r) (value v) (followed (i ∷ []) (wrapped_code r) (plain i h) (wrapped r)))

op : (out : ℕ) (o : Op) → out < 2 ^ 32 → Coding (op_code out o) 64
op out (Mov r v) h = weaker (followed (value_code v) (instr.LocalSet (register_local r) ∷ []) (value v) (set_reg r)) (omega arith)
op out (Add r v) h = weaker (arithmetic r v instr.Add add_plain) (omega arith)
op out (Sub r v) h = weaker (arithmetic r v instr.Sub sub_plain) (omega arith)
op out (Load r v) h = weaker
    (followed (place_code v) (instr.Load whole_word ∷ instr.LocalSet (register_local r) ∷ []) (place v) (followed (instr.Load whole_word ∷ []) (instr.LocalSet (register_local r) ∷ []) load (set_reg r))) (omega arith)
op out (Store r v) h = weaker
    (followed (place_code v) (instr.LocalGet (register_local r) ∷ instr.Store whole_word ∷ []) (place v) (followed (instr.LocalGet (register_local r) ∷ []) (instr.Store whole_word ∷ []) (get_reg r) store)) (omega arith)
op out (Putc v) h = weaker (followed (value_code v) (instr.Call 1 ∷ []) (value v) (call 1 (omega arith))) (omega arith)
op out (Getc r) h = weaker (followed (instr.Call 0 ∷ []) (instr.LocalSet (register_local r) ∷ []) (call 0 (omega arith)) (set_reg r)) (omega arith)
op out Exit h = weaker (plain instr.Return return_plain) (omega arith)
op out (Set test r v) h = weaker (followed (flag_code test r v) (instr.LocalSet (register_local r) ∷ []) (flag test r v) (set_reg r)) (omega arith)
op out (Jump target) h = weaker (followed (goal_code target) (instr.Br out ∷ []) (goal target) (br out h)) (omega arith)
op out (JumpIf test target r v) h = weaker
    (followed (goal_code target) (flag_code test r v ++ instr.BrIf out ∷ []) (goal target) (followed (flag_code test r v) (instr.BrIf out ∷ []) (flag test r v) (br_if out h))) (omega arith)

ops : (out : ℕ) (os : List Op) → out < 2 ^ 32 → Coding (ops_code out os) (64 * length os)
ops out [] h = none SpellsInstruction
ops out (o ∷ os) h = weaker (followed (op_code out o) (ops_code out os) (op out o h) (ops out os h)) (omega arith)

blocks : (bs : List (List Op)) → length bs < 2 ^ 32 → Coding (blocks_code bs) (1 + length bs + 64 * sum_by length bs)
blocks [] h = weaker (plain instr.End end_plain) (omega arith)
blocks (os ∷ bs) h =
    let all = sum_by-cons length os bs in
    weaker
    (followed (ops_code (length bs) os) (instr.End ∷ blocks_code bs) (ops (length bs) os (omega arith))
    (followed (instr.End ∷ []) (blocks_code bs) (plain instr.End end_plain) (blocks bs (omega arith)))) (omega arith)

opened : (n : ℕ) → Coding (replicate n (instr.Block false)) (2 * n)
opened zero = none SpellsInstruction
opened (suc n) = weaker (followed (instr.Block false ∷ []) (replicate n (instr.Block false)) block (opened n)) (omega arith)

choice : (n : ℕ) → n ≤ 2 ^ 16 → Coding (choice_code n) (18 + 5 * n)
choice n few =
    weaker
    (followed (instr.LocalGet goal_local ∷ []) (instr.BrTable (range_with_len 0 n) (n + 1) ∷ instr.End ∷ []) (get goal_local (omega arith))
    (followed (instr.BrTable (range_with_len 0 n) (n + 1) ∷ []) (instr.End ∷ []) (table n few) (plain instr.End end_plain))) (omega arith)

turn : (bs : List (List Op)) → length bs ≤ 2 ^ 16 → Coding (turn_code bs) (21 + 8 * length bs + 64 * sum_by length bs)
turn bs few =
    let n = length bs in
    let nested = replicate n (instr.Block false) in
    weaker
    (followed (instr.Loop false ∷ []) (nested ++ (choice_code n ++ blocks_code bs)) loop
    (followed nested (choice_code n ++ blocks_code bs) (opened n) (followed (choice_code n) (blocks_code bs) (choice n few) (blocks bs (omega arith))))) (omega arith)

code : (p : Eir) → IsEir p → size_of p ≤ 2 ^ 16 → Coding (main_code p) (2 ^ 24)
code p is small =
    let start = is.start in
    weaker
    (followed (instr.Const (pos p.start) ∷ []) (instr.LocalSet goal_local ∷ turn_code p.blocks) (const p.start (omega arith))
    (followed (instr.LocalSet goal_local ∷ []) (turn_code p.blocks) (set goal_local (omega arith)) (turn p.blocks (omega arith)))) (omega arith)

is_expression : (p : Eir) → length p.blocks ≤ 2 ^ 16 → IsExpression (map coded (main_code p))
is_expression p few = subst (λ (is : List Instr). IsExpression (map coded is)) (sym (main_spelled p)) (expression (within p) (0 ∷ []) (main p) 0 0 (main_typed p) (main_deep p few))

-- seven locals, in one run
locals : Has (SpellsLocals 0 7) 11
unfolding SpellsRun
locals =
    let runs = both (number 1 (omega arith)) (one SpellsRun 7 [] (both (number 7 (omega arith)) (byte 0x7F)) (none SpellsRun)) in
    record { row = runs.row; spelled = record { runs = 7 ∷ []; total = refl; room = omega arith; spelled = runs.spelled }; few = runs.few }

body_code : (p : Eir) → IsEir p → size_of p ≤ 2 ^ 16 → Has (SpellsCode (map coded (main_code p))) (2 ^ 24)
unfolding SpellsCode
body_code p is small = let c = code p is small in record { row = c.row; spelled = (is_expression p (omega arith), c.spelled); few = c.few }

body : (p : Eir) → IsEir p → size_of p ≤ 2 ^ 16 → Has (SpellsBody 0 (record { locals = 7; instructions = map coded (main_code p) })) (2 ^ 25)
unfolding SpellsBody
body p is small = weaker (sized (both locals (body_code p is small)) (omega arith)) (omega arith)

bodies : (p : Eir) → IsEir p → size_of p ≤ 2 ^ 16 → Has (SpellsFuncs types_for (0 ∷ []) (record { locals = 7; instructions = map coded (main_code p) } ∷ [])) (2 ^ 26)
unfolding SpellsBodies
bodies p is small = weaker (both (number 1 (omega arith)) (both (body p is small) (this []))) (omega arith)

func_type : (t : FuncType) → t.params ≤ 2 ^ 16 → t.results < 2 ^ 32 → Has (SpellsFuncType t) (11 + t.params + t.results)
unfolding SpellsFuncType
func_type t params results = weaker (both (byte 0x60) (both (limited (2 ^ 16) t.params params (omega arith)) (both (times t.params 0x7F) (both (number t.results results) (times t.results 0x7F))))) (omega arith)

types : Has (SpellsVector SpellsFuncType types_for) 100
types =
    let plain_type : FuncType = record { params = 0; results = 0 } in
    let getchar_type : FuncType = record { params = 0; results = 1 } in
    let putchar_type : FuncType = record { params = 1; results = 0 } in
    weaker (vector SpellsFuncType types_for (omega arith)
    (one SpellsFuncType plain_type (getchar_type ∷ putchar_type ∷ []) (func_type plain_type (omega arith) (omega arith))
    (one SpellsFuncType getchar_type (putchar_type ∷ []) (func_type getchar_type (omega arith) (omega arith))
    (one SpellsFuncType putchar_type [] (func_type putchar_type (omega arith) (omega arith)) (none SpellsFuncType))))) (omega arith)

env_text : IsUtf8 env_name
unfolding is_utf8 chars encode
env_text = IsUtf8-from_is_utf8 env_name refl

getchar_text : IsUtf8 getchar_name
unfolding is_utf8 chars encode
getchar_text = IsUtf8-from_is_utf8 getchar_name refl

putchar_text : IsUtf8 putchar_name
unfolding is_utf8 chars encode
putchar_text = IsUtf8-from_is_utf8 putchar_name refl

main_text : IsUtf8 main_name
unfolding is_utf8 chars encode
main_text = IsUtf8-from_is_utf8 main_name refl

getchar : Has (SpellsImport (foreign (host_import getchar_name 1))) 100
unfolding SpellsImport
getchar = weaker (both (name env_name env_text (omega arith)) (both (name getchar_name getchar_text (omega arith)) (both (byte 0x00) (number 1 (omega arith))))) (omega arith)

putchar : Has (SpellsImport (foreign (host_import putchar_name 2))) 100
unfolding SpellsImport
putchar = weaker (both (name env_name env_text (omega arith)) (both (name putchar_name putchar_text (omega arith)) (both (byte 0x00) (number 2 (omega arith))))) (omega arith)

imports : Has (SpellsVector SpellsImport (foreign (host_import getchar_name 1) ∷ foreign (host_import putchar_name 2) ∷ [])) 300
imports =
    weaker (vector SpellsImport (foreign (host_import getchar_name 1) ∷ foreign (host_import putchar_name 2) ∷ []) (omega arith)
    (one SpellsImport (foreign (host_import getchar_name 1)) (foreign (host_import putchar_name 2) ∷ []) getchar
    (one SpellsImport (foreign (host_import putchar_name 2)) [] putchar (none SpellsImport)))) (omega arith)

funcs : Has (SpellsVector SpellsNumber (0 ∷ [])) 100
funcs = weaker (vector SpellsNumber (0 ∷ []) (omega arith) (one SpellsNumber 0 [] (number 0 (omega arith)) (none SpellsNumber))) (omega arith)

memory : Has (SpellsMemories (Some (record { min = 1024; max = Some 1024 }))) 100
unfolding SpellsMemories SpellsLimits SpellsRange
memory = weaker (both (number 1 (omega arith)) (both (byte 0x01) (both (limited 1024 1024 (omega arith) (omega arith)) (number 1024 (omega arith))))) (omega arith)

sort : Has (SpellsSort 0) 1
unfolding SpellsSort
sort = record { row = 0 ∷ []; spelled = (inl refl, refl); few = omega arith }

exports : Has (SpellsVector SpellsExport (shown main_export ∷ [])) 100
unfolding SpellsExport
exports = weaker (vector SpellsExport (shown main_export ∷ []) (omega arith) (one SpellsExport (shown main_export) []
    (both (name main_name main_text (omega arith)) (both sort (number 2 (omega arith)))) (none SpellsExport))) (omega arith)

initial : Has (SpellsInitial (pos 0)) 7
unfolding SpellsInitial
initial = both (byte 0x41) (both (integer 0 (omega arith)) (byte 0x0B))

segment : (row : List ℕ) → length row ≤ 2 ^ 26 → Has (SpellsSegment (record { offset = pos 0; bytes = row })) (2 ^ 27)
unfolding SpellsSegment
segment row few = weaker (both (number 0 (omega arith)) (both initial (bytes row (omega arith)))) (omega arith)

abbrev no_segments : List Stretch
no_segments = []

-- the words, if there are any
segments : (words : List Word) → length words ≤ 2 ^ 24 → Has (VectorSection 11 SpellsSegment (map stretch (segments_for words))) (2 ^ 28)
segments [] few = weaker (absent 11 (SpellsVector SpellsSegment no_segments) (no_segments ≡ []) refl) (omega arith)
segments (word ∷ words) few =
    let row = flat_map (bytes_of 4) (map number_of (word ∷ words)) in
    let long = bytes_long (word ∷ words) in
    let s : Stretch = record { offset = pos 0; bytes = row } in
    weaker (present 11 ((s ∷ []) ≡ []) (vector SpellsSegment (s ∷ []) (omega arith) (one SpellsSegment s [] (segment row (omega arith)) (none SpellsSegment))) (omega arith)) (omega arith)

header : Has Header 8
unfolding Header
header = both (byte 0x00) (both (byte 0x61) (both (byte 0x73) (both (byte 0x6D) (both (byte 0x01) (both (byte 0x00) (both (byte 0x00) (byte 0x00)))))))

whole_module : (p : Eir) → IsEir p → size_of p ≤ 2 ^ 16 → Has (SpellsModule (parts_of (module_for p))) (2 ^ 29)
whole_module p is small =
    let m = parts_of (module_for p) in
    weaker
    (both header
    (both (present 1 (m.types ≡ []) types (omega arith))
    (both (present 2 (m.imports ≡ []) imports (omega arith))
    (both (present 3 (m.funcs ≡ []) funcs (omega arith))
    (both (present 5 (m.memory ≡ None) memory (omega arith))
    (both (absent 6 (SpellsVector SpellsGlobal []) (m.globals ≡ []) refl)
    (both (present 7 (m.exports ≡ []) exports (omega arith))
    (both (absent 8 (SpellsStart None) (m.start ≡ None) refl)
    (both (present 10 ((m.funcs ≡ []) × (m.bodies ≡ [])) (bodies p is small) (omega arith))
    (both (segments p.words (omega arith)) customs)))))))))) (omega arith)

pub spelled : (p : Eir) → IsEir p → size_of p ≤ 2 ^ 16 → (row : List ℕ) × WasmSpells row (module_for p) × (length row ≤ 2 ^ 29)
unfolding ModuleSpells
spelled p is small =
    let h = whole_module p is small in
    (h.row, record { spelled = h.spelled; valid = valid p; linkable = linkable p small }, h.few)
