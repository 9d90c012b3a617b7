-- The shortest row of a module.
use Rattle.std.proofs.Common.{◌≡◌, ℕ, List, [], ◌∷◌, ◌++◌, length, map, Option, None, Some, inl, inr, refl, sym, subst, ◌∙◌, arith, append_assoc, append-nil, ◌≤◌}
use Rattle.std.specs.List.{flat_map}
use Rattle.std.proofs.lemmas.List.{nil_from_length, length-map}
use Rattle.wasm_bin.specs.declared.module.FuncType.{FuncType}
use Rattle.wasm_bin.specs.declared.module.Limits.{Limits}
use Rattle.wasm_bin.specs.declared.module.Module.{Module}
use Rattle.wasm_bin.specs.Parts.{Function, Parts, parts_of}
use Rattle.std.proofs.Common.{Ok}
use Rattle.wasm_bin.specs.Section.{params_of, module_in}
use Rattle.wasm_bin.specs.Module.{module_spells}
use Rattle.wasm_bin.specs.Grammar.{Never, SpellsNumber, SpellsFuncType, SpellsImport, SpellsMemories, SpellsGlobal, SpellsExport, SpellsSegment, SpellsBodies, SpellsStart, SpellsFuncs, Following, Header, SpellsModule, ModuleSpells}
use Rattle.wasm_bin.proofs.GrammarModules.{modules_spelled}
use Rattle.wasm_write.specs.Leb.{number_bytes}
use Rattle.wasm_write.specs.Written.{vector_bytes, func_type_bytes, import_bytes, global_bytes, export_bytes, segment_bytes, body_bytes, vector_section, memory_section, start_section, header, parts_bytes, module_bytes}
use Rattle.wasm_write.specs.Laws.{IsShortest}
use Rattle.wasm_write.proofs.Shortest.{Best, best_row, best_then, best_number, best_customs, best_present, best_absent, best_vector_section}
use Rattle.wasm_write.proofs.Entries.{best_func_type, best_import, best_memory, best_global, best_export, best_segment, best_body}

best_never : (row : List ℕ) → Best Never row
best_never row = record { found = λ other s. absurd s; least = λ other s. absurd s }

best_bodies : (params : List ℕ) (bodies : List Function) → Best (SpellsBodies params bodies) (flat_map body_bytes bodies)
unfolding SpellsBodies
best_bodies [] [] = best_row []
best_bodies (p ∷ params) (body ∷ bodies) = best_then (best_body p body) (best_bodies params bodies)
best_bodies [] (body ∷ bodies) = best_never (flat_map body_bytes (body ∷ bodies))
best_bodies (p ∷ params) [] = best_never []

bodies_count : (params : List ℕ) (bodies : List Function) (bytes : List ℕ) → SpellsBodies params bodies bytes → length params ≡ length bodies
unfolding SpellsBodies
bodies_count [] [] bytes s = refl
bodies_count (p ∷ params) (body ∷ bodies) bytes s = let rest = bodies_count params bodies s.back s.second in omega arith
bodies_count [] (body ∷ bodies) bytes s = absurd s
bodies_count (p ∷ params) [] bytes s = absurd s

funcs_count : (types : List FuncType) (funcs : List ℕ) (bodies : List Function) (bytes : List ℕ) → SpellsFuncs types funcs bodies bytes → length funcs ≡ length bodies
funcs_count types funcs bodies bytes s = sym (length-map funcs (params_of types)) ∙ bodies_count (map (params_of types) funcs) bodies s.back s.second

best_funcs : (types : List FuncType) (funcs : List ℕ) (bodies : List Function) → Best (SpellsFuncs types funcs bodies) (vector_bytes body_bytes bodies)
best_funcs types funcs bodies =
    let both = best_then (best_number (length funcs)) (best_bodies (map (params_of types) funcs) bodies) in
    record {
      found = λ other s. subst (λ (n : ℕ). SpellsFuncs types funcs bodies (number_bytes n ++ flat_map body_bytes bodies)) (funcs_count types funcs bodies other s) (both.found other s);
      least = λ other s. subst (λ (n : ℕ). length (number_bytes n ++ flat_map body_bytes bodies) ≤ length other) (funcs_count types funcs bodies other s) (both.least other s);
    }

abbrev no_bodies : List Function
no_bodies = []

-- where there is no body there is no function
no_func : (types : List FuncType) (funcs : List ℕ) (bytes : List ℕ) → Following 10 (SpellsFuncs types funcs no_bodies) ((funcs ≡ []) × (no_bodies ≡ [])) bytes → (funcs ≡ []) × (no_bodies ≡ [])
no_func types funcs bytes s = elim s.second as (λ _. (funcs ≡ []) × (no_bodies ≡ [])) [
  | inl there ↦ (nil_from_length funcs (funcs_count types funcs no_bodies there.second.contents there.second.spelled), refl)
  | inr absent ↦ absent.0
]

best_code_section : (types : List FuncType) (funcs : List ℕ) (bodies : List Function) → Best (Following 10 (SpellsFuncs types funcs bodies) ((funcs ≡ []) × (bodies ≡ []))) (vector_section 10 body_bytes bodies)
best_code_section types funcs [] = record {
  found = λ other s. record { front = []; back = []; parts = refl; first = record { number = 0; spelled = refl }; second = inr (no_func types funcs other s, refl) };
  least = λ other s. omega arith;
}
best_code_section types funcs (body ∷ bodies) = best_present 10 ((funcs ≡ []) × ((body ∷ bodies) ≡ [])) (λ e. let no = e.1 in cc) (best_funcs types funcs (body ∷ bodies))

abbrev no_memory : Option Limits
no_memory = None

best_memory_section : (memory : Option Limits) → Best (Following 5 (SpellsMemories memory) (memory ≡ None)) (memory_section memory)
best_memory_section None = best_absent 5 (SpellsMemories None) (no_memory ≡ None) refl
best_memory_section (Some l) = best_present 5 (Some l ≡ None) (λ e. cc) (best_memory l)

abbrev no_start : Option ℕ
no_start = None

best_start_section : (start : Option ℕ) → Best (Following 8 (SpellsStart start) (start ≡ None)) (start_section start)
best_start_section None = best_absent 8 (SpellsStart None) (no_start ≡ None) refl
best_start_section (Some func) = best_present 8 (Some func ≡ None) (λ e. cc) (best_number func)

best_header : Best Header header
unfolding Header
best_header = best_then (best_row (0x00 ∷ [])) (best_then (best_row (0x61 ∷ [])) (best_then (best_row (0x73 ∷ [])) (best_then (best_row (0x6D ∷ []))
    (best_then (best_row (0x01 ∷ [])) (best_then (best_row (0x00 ∷ [])) (best_then (best_row (0x00 ∷ [])) (best_row (0x00 ∷ []))))))))

-- the sections one by one
in_order : (h a b c d e f g i j : List ℕ) → h ++ (a ++ (b ++ (c ++ (d ++ (e ++ (f ++ (g ++ (i ++ (j ++ []))))))))) ≡ h ++ ((a ++ (b ++ (c ++ d))) ++ (e ++ (f ++ (g ++ (i ++ j)))))
in_order h a b c d e f g i j = simp (append_assoc, append-nil)

pub best_module : (m : Parts) → Best (SpellsModule m) (parts_bytes m)
best_module m =
    let types = vector_section 1 func_type_bytes m.types in
    let imports = vector_section 2 import_bytes m.imports in
    let funcs = vector_section 3 number_bytes m.funcs in
    let memory = memory_section m.memory in
    let globals = vector_section 6 global_bytes m.globals in
    let exports = vector_section 7 export_bytes m.exports in
    let start = start_section m.start in
    let bodies = vector_section 10 body_bytes m.bodies in
    let segments = vector_section 11 segment_bytes m.segments in
    subst (Best (SpellsModule m)) (in_order header types imports funcs memory globals exports start bodies segments)
    (best_then best_header
    (best_then (best_vector_section 1 SpellsFuncType func_type_bytes best_func_type m.types)
    (best_then (best_vector_section 2 SpellsImport import_bytes best_import m.imports)
    (best_then (best_vector_section 3 SpellsNumber number_bytes best_number m.funcs)
    (best_then (best_memory_section m.memory)
    (best_then (best_vector_section 6 SpellsGlobal global_bytes best_global m.globals)
    (best_then (best_vector_section 7 SpellsExport export_bytes best_export m.exports)
    (best_then (best_start_section m.start)
    (best_then (best_code_section m.types m.funcs m.bodies)
    (best_then (best_vector_section 11 SpellsSegment segment_bytes best_segment m.segments) best_customs))))))))))

pub written_shortest : (bytes : List ℕ) (m : Module) → module_spells bytes m → IsShortest (SpellsModule (parts_of m)) (module_bytes m)
unfolding ModuleSpells
written_shortest bytes m s =
    let best = best_module (parts_of m) in
    record { spelled = best.found bytes s; least = best.least }

pub written_read : (bytes : List ℕ) (m : Module) → module_spells bytes m → module_in (module_bytes m) ≡ Ok (parts_of m)
unfolding ModuleSpells
written_read bytes m s = (modules_spelled (module_bytes m) (parts_of m)).1 ((best_module (parts_of m)).found bytes s)
