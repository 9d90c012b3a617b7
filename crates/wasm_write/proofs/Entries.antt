-- The shortest rows of what stands in the sections.
use Rattle.std.proofs.Common.{◌≡◌, ℕ, zero, suc, ◌+◌, ◌-◌, ◌*◌, ◌^◌, ◌<◌, ◌≤◌, Bool, true, false, List, [], ◌∷◌, ◌++◌, length, replicate, Option, None, Some, refl, sym, ap, subst, arith, length-append, append_assoc, append-nil}
use Rattle.std.specs.Prelude.{ℤ, sum}
use Rattle.std.specs.List.{flat_map}
use Rattle.wasm_bin.specs.declared.module.FuncType.{FuncType}
use Rattle.wasm_bin.specs.declared.module.Limits.{Limits}
use Rattle.wasm_bin.specs.declared.module.GlobalVar.{GlobalVar}
use Rattle.wasm_bin.specs.Opcode.{Operands, Plain, Typed, Index, Table, Access, Reserved, Number, Coded}
use Rattle.wasm_bin.specs.Parts.{Foreign, Shown, Function, Stretch}
use Rattle.wasm_bin.specs.Grammar.{Language, ◌⋅◌, InTurn, SpellsNumber, SpellsName, SpellsFuncType, SpellsImport, SpellsRange, SpellsLimits, SpellsMemories, SpellsInitial, SpellsFlag, SpellsGlobal, SpellsSort, SpellsExport, SpellsSegment, SpellsBlockType, SpellsOperands, SpellsInstruction, SpellsCode, SpellsRun, SpellsLocals, SpellsBody}
use Rattle.wasm_write.specs.Leb.{number_bytes}
use Rattle.wasm_write.specs.Written.{counted, value_types_bytes, func_type_bytes, import_bytes, range_bytes, limits_bytes, initial_bytes, flag_byte, global_bytes, export_bytes, segment_bytes, block_type_byte, operands_bytes, instruction_bytes, locals_bytes, body_bytes}
use Rattle.wasm_write.proofs.Digits.{number_zero, number_one, number_some, number_short, number_spelled, number_least}
use Rattle.wasm_write.proofs.Shortest.{Best, best_row, best_then, best_turn, best_times, best_number, best_integer, best_limited, best_bytes, best_vector, best_sized}

-- a row that is said otherwise
along : {Spells : Language} {a b : List ℕ} → a ≡ b → Best Spells a → Best Spells b
along {Spells} e p = subst (λ row. Best Spells row) e p

pub best_name : (name : List ℕ) → Best (SpellsName name) (counted name)
unfolding SpellsName
best_name name = record { found = λ other s. (s.0, (best_bytes name).found other s.1); least = λ other s. (best_bytes name).least other s.1 }

pub best_func_type : (t : FuncType) → Best (SpellsFuncType t) (func_type_bytes t)
unfolding SpellsFuncType
best_func_type t =
    let params = replicate t.params 0x7F in
    let results = value_types_bytes t.results in
    along (ap (λ (row : List ℕ). 0x60 ∷ row) (sym (append_assoc (number_bytes t.params) params results)))
    (best_then (best_row (0x60 ∷ [])) (best_then (best_limited (2 ^ 16) t.params) (best_then (best_times t.params 0x7F) (best_then (best_number t.results) (best_times t.results 0x7F)))))

pub best_import : (i : Foreign) → Best (SpellsImport i) (import_bytes i)
unfolding SpellsImport
best_import i = best_then (best_name i.origin) (best_then (best_name i.name) (best_then (best_row (0x00 ∷ [])) (best_number i.kind)))

pub best_range : (least : ℕ) (largest : Option ℕ) → Best (SpellsRange least largest) (range_bytes least largest)
unfolding SpellsRange
best_range least None = best_then (best_row (0x00 ∷ [])) (best_limited 1024 least)
best_range least (Some largest) = best_then (best_row (0x01 ∷ [])) (best_then (best_limited 1024 least) (best_number largest))

pub best_memory : (l : Limits) → Best (SpellsMemories (Some l)) (0x01 ∷ limits_bytes l)
unfolding SpellsMemories SpellsLimits
best_memory l = along (ap (λ (row : List ℕ). row ++ limits_bytes l) number_one) (best_then (best_number 1) (best_range l.min l.max))

pub best_initial : (z : ℤ) → Best (SpellsInitial z) (initial_bytes z)
unfolding SpellsInitial
best_initial z = best_then (best_row (0x41 ∷ [])) (best_then (best_integer z) (best_row (0x0B ∷ [])))

best_flag : (flag : Bool) → Best (SpellsFlag flag) (flag_byte flag ∷ [])
unfolding SpellsFlag
best_flag false = best_row (0x00 ∷ [])
best_flag true = best_row (0x01 ∷ [])

pub best_global : (g : GlobalVar) → Best (SpellsGlobal g) (global_bytes g)
unfolding SpellsGlobal
best_global g = best_then (best_row (0x7F ∷ [])) (best_then (best_flag g.mutable) (best_initial g.first))

best_sort : (sort : ℕ) → Best (SpellsSort sort) (sort ∷ [])
unfolding SpellsSort
best_sort sort = record { found = λ other s. (s.0, refl); least = λ other s. omega (arith, ap length s.1) }

pub best_export : (e : Shown) → Best (SpellsExport e) (export_bytes e)
unfolding SpellsExport
best_export e = best_then (best_name e.name) (best_then (best_sort e.sort) (best_number e.index))

pub best_segment : (s : Stretch) → Best (SpellsSegment s) (segment_bytes s)
unfolding SpellsSegment
best_segment s = along (ap (λ (row : List ℕ). row ++ (initial_bytes s.offset ++ counted s.bytes)) number_zero)
    (best_then (best_number 0) (best_then (best_initial s.offset) (best_bytes s.bytes)))

best_block_type : (gives : Bool) → Best (SpellsBlockType gives) (block_type_byte gives ∷ [])
unfolding SpellsBlockType
best_block_type false = best_row (0x40 ∷ [])
best_block_type true = best_row (0x7F ∷ [])

pub best_operands : (operands : Operands) → Best (SpellsOperands operands) (operands_bytes operands)
unfolding SpellsOperands
best_operands Plain = best_row []
best_operands (Typed gives) = best_block_type gives
best_operands (Index n) = best_number n
best_operands (Table labels label) = best_then (best_vector SpellsNumber number_bytes best_number labels) (best_number label)
best_operands (Access m) = best_then (best_number m.align) (best_number m.offset)
best_operands Reserved = best_row (0x00 ∷ [])
best_operands (Number z) = best_integer z

pub best_instruction : (i : Coded) → Best (SpellsInstruction i) (instruction_bytes i)
unfolding SpellsInstruction
best_instruction i =
    let both = best_then (best_row (i.0 ∷ [])) (best_operands i.1) in
    record { found = λ other s. (s.0, both.found other s.1); least = λ other s. both.least other s.1 }

pub best_code : (code : List Coded) → Best (SpellsCode code) (flat_map instruction_bytes code)
unfolding SpellsCode
best_code code =
    let each = best_turn SpellsInstruction instruction_bytes best_instruction code in
    record { found = λ other s. (s.0, each.found other s.1); least = λ other s. each.least other s.1 }

-- a run of locals has two bytes or more
run_long : (n : ℕ) (bytes : List ℕ) → SpellsRun n bytes → length (number_bytes n) + 1 ≤ length bytes
unfolding SpellsRun
run_long n bytes s = omega (arith, number_least n s.front s.first, ap length s.parts, length-append s.front s.back, ap length s.second)

runs_long : (runs : List ℕ) (bytes : List ℕ) → InTurn SpellsRun runs bytes → 2 * length runs ≤ length bytes
runs_long [] bytes s = omega arith
runs_long (n ∷ runs) bytes s = omega (arith, run_long n s.front s.first, number_some n, runs_long runs s.back s.second, ap length s.parts, length-append s.front s.back)

-- the bytes of runs of locals with their number
all_long : (runs : List ℕ) (bytes : List ℕ) → (SpellsNumber (length runs) ⋅ InTurn SpellsRun runs) bytes → 1 + 2 * length runs ≤ length bytes
all_long runs bytes s = omega (arith, number_some (length runs), number_least (length runs) s.front s.first, runs_long runs s.back s.second, ap length s.parts, length-append s.front s.back)

one_long : (n : ℕ) (bytes : List ℕ) → (SpellsNumber 1 ⋅ InTurn SpellsRun (n ∷ [])) bytes → 2 + length (number_bytes n) ≤ length bytes
one_long n bytes s = omega (arith, number_some 1, number_least 1 s.front s.first, run_long n s.second.front s.second.first, ap length s.parts, length-append s.front s.back, ap length s.second.parts, length-append s.second.front s.second.back)

-- more runs than one are no shorter
runs_least : (n params : ℕ) (runs bytes : List ℕ) → sum runs ≡ suc n → suc n ≤ 2 ^ 16 - params → (SpellsNumber (length runs) ⋅ InTurn SpellsRun runs) bytes → 2 + length (number_bytes (suc n)) ≤ length bytes
runs_least n params [] bytes e room s = absurd (omega arith)
runs_least n params (m ∷ []) bytes e room s =
    let same : m ≡ suc n = omega arith in
    rw (← same) (one_long m bytes s)
runs_least n params (m ∷ k ∷ runs) bytes e room s =
    let few : suc n ≤ 2 ^ 16 = omega arith in
    omega (arith, number_short (suc n) few, all_long (m ∷ k ∷ runs) bytes s)

run_spelled : (n : ℕ) → n < 2 ^ 32 → SpellsRun n (number_bytes n ++ 0x7F ∷ [])
unfolding SpellsRun
run_spelled n h = record { front = number_bytes n; back = 0x7F ∷ []; parts = refl; first = number_spelled n h; second = refl }

one_spelled : (n : ℕ) → n < 2 ^ 32 → (SpellsNumber 1 ⋅ InTurn SpellsRun (n ∷ [])) (0x01 ∷ (number_bytes n ++ 0x7F ∷ []))
one_spelled n h =
    let run = number_bytes n ++ 0x7F ∷ [] in
    record {
      front = 0x01 ∷ [];
      back = run;
      parts = refl;
      first = subst (SpellsNumber 1) number_one (number_spelled 1 (omega arith));
      second = record { front = run; back = []; parts = sym (append-nil run); first = run_spelled n h; second = refl };
    }

none_spelled : (SpellsNumber 0 ⋅ InTurn SpellsRun []) (0x00 ∷ [])
none_spelled = record { front = 0x00 ∷ []; back = []; parts = refl; first = subst (SpellsNumber 0) number_zero (number_spelled 0 (omega arith)); second = refl }

pub best_locals : (params locals : ℕ) → Best (SpellsLocals params locals) (locals_bytes locals)
best_locals params zero = record {
  found = λ other s. record { runs = []; total = refl; room = s.room; spelled = none_spelled };
  least = λ other s. omega (arith, all_long s.runs other s.spelled);
}
best_locals params (suc n) = record {
  found = λ other s.
      let room = s.room in
      let fits : suc n < 2 ^ 32 = omega arith in
      let total : sum (suc n ∷ []) ≡ suc n = omega arith in
      record { runs = suc n ∷ []; total = total; room = room; spelled = one_spelled (suc n) fits };
  least = λ other s. omega (arith, runs_least n params s.runs other s.total s.room s.spelled, length-append (number_bytes (suc n)) (0x7F ∷ []));
}

pub best_body : (params : ℕ) (c : Function) → Best (SpellsBody params c) (body_bytes c)
unfolding SpellsBody
best_body params c = best_sized (best_then (best_locals params c.locals) (best_code c.instructions))
