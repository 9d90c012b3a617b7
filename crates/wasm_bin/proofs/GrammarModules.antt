-- A module is read exactly where the grammar spells it.
use Rattle.std.proofs.Common.{◌≡◌, ℕ, ◌<◌, Bool, true, false, List, [], ◌++◌, length, Option, Some, None, Ok, refl, sym, ap, subst, ◌∙◌, inl, inr, arith}
use Rattle.std.specs.Prelude.{◌==◌, ◌||◌, is_some}
use Rattle.std.proofs.lemmas.Bool.{or_right}
use Rattle.std.proofs.lemmas.List.{append-nil}
use Rattle.wasm_bytes.specs.declared.fault.ModFault.TheVariants.{Malformed}
use Rattle.wasm_bin.specs.declared.module.FuncType.{FuncType}
use Rattle.wasm_bin.specs.declared.module.Limits.{Limits}
use Rattle.wasm_bin.specs.declared.module.GlobalVar.{GlobalVar}
use Rattle.wasm_bytes.specs.Piece.{Piece, Cut, Reading, place, expected_at}
use Rattle.wasm_bytes.specs.Number.{u32_at}
use Rattle.wasm_bin.specs.Parts.{Foreign, Shown, Function, Stretch, Parts}
use Rattle.wasm_bin.specs.Entry.{list_at, func_type_at, import_at, memories_at, global_at, export_at, segment_at}
use Rattle.wasm_bin.specs.Section.{past_customs, opened_at, contents_at, section_at, other_at, start_at, bodies_at, code_section_at, end_at, header_at, Opening, front_at, module_at, module_in}
use Rattle.wasm_bin.specs.Grammar.{Language, ◌⋅◌, Byte, SpellsNumber, SpellsVector, SpellsFuncType, SpellsImport, SpellsMemories, SpellsGlobal, SpellsExport, SpellsSegment, Sized, Customs, Optional, Following, VectorSection, SpellsStart, SpellsFuncs, Header, SpellsModule, ModuleSpells}
use Rattle.wasm_bin.proofs.GrammarSteps.{Took, Reads, Skips, bind_ok, guard_ok, along, join, split, nothing_taken, expected_skips, number_reads, vector_reads}
use Rattle.wasm_bin.proofs.GrammarEntries.{func_type_reads, import_reads, memories_reads, global_reads, export_reads, segment_reads}
use Rattle.wasm_bin.proofs.GrammarBodies.{bodies_read}
use Rattle.wasm_bin.proofs.GrammarSections.{past_all, past_sound, past_stop, contents_sound, section_sound, Follows, Behind, section_whole, contents_whole, section_past, opened_none, section_complete, follows_section, other_sound, other_complete, within_more, nil_is, end_sound, end_follows, end_complete}

header_skips : Skips header_at Header
unfolding header_at Header
header_skips = record {
  sound = λ p q e.
      let h = bind_ok _ (expected_at 0x00) q e in
      let g = bind_ok _ (expected_at 0x00) h.0 h.1 in
      let f = bind_ok _ (expected_at 0x00) g.0 g.1 in
      let v = bind_ok _ (expected_at 0x01) f.0 f.1 in
      let m = bind_ok _ (expected_at 0x6D) v.0 v.1 in
      let s = bind_ok _ (expected_at 0x73) m.0 m.1 in
      let a = bind_ok (expected_at 0x00 p) (expected_at 0x61) s.0 s.1 in
      join _ _ p a.0 q ((expected_skips 0x00).sound p a.0 a.1)
      (join _ _ a.0 s.0 q ((expected_skips 0x61).sound a.0 s.0 a.2)
      (join _ _ s.0 m.0 q ((expected_skips 0x73).sound s.0 m.0 s.2)
      (join _ _ m.0 v.0 q ((expected_skips 0x6D).sound m.0 v.0 m.2)
      (join _ _ v.0 f.0 q ((expected_skips 0x01).sound v.0 f.0 v.2)
      (join _ _ f.0 g.0 q ((expected_skips 0x00).sound f.0 g.0 f.2)
      (join _ _ g.0 h.0 q ((expected_skips 0x00).sound g.0 h.0 g.2) ((expected_skips 0x00).sound h.0 q h.2)))))));
  complete = λ p q t.
      let a = split _ _ p q t in
      let b = split _ _ a.middle q a.second in
      let c = split _ _ b.middle q b.second in
      let d = split _ _ c.middle q c.second in
      let e = split _ _ d.middle q d.second in
      let f = split _ _ e.middle q e.second in
      let g = split _ _ f.middle q f.second in
      rw ((expected_skips 0x00).complete p a.middle a.first, (expected_skips 0x61).complete a.middle b.middle b.first, (expected_skips 0x73).complete b.middle c.middle c.first, (expected_skips 0x6D).complete c.middle d.middle d.first, (expected_skips 0x01).complete d.middle e.middle e.first, (expected_skips 0x00).complete e.middle f.middle f.first, (expected_skips 0x00).complete f.middle g.middle g.first) ((expected_skips 0x00).complete g.middle q g.second);
}

start_complete : (p : Piece) (x : Option ℕ) (q : Piece) → Took (SpellsStart x) p q → start_at p ≡ Ok (x, q)
unfolding start_at
start_complete p None q t = absurd t.spelled
start_complete p (Some n) q t = rw (number_reads.complete p n q t) refl

start_reads : Reads start_at SpellsStart
unfolding start_at
start_reads = record {
  sound = λ p x q e.
      let a = bind_ok (u32_at p) _ (x, q) e in
      along (λ v. Took (SpellsStart v.0) p v.1) (Some a.0.0, a.0.1) (x, q) a.2 (number_reads.sound p a.0.0 a.0.1 a.1);
  complete = start_complete;
}

-- ---- the sections of vectors

vector_sound : {A : Type 0} (id : ℕ) (reading : Reading A) (Spells : A → Language) → Reads reading Spells → (p : Piece) (xs : List A) (q : Piece) → section_at id (list_at reading) [] p ≡ Ok (xs, q) → Took (VectorSection id Spells xs) p q
vector_sound id reading Spells reads p xs q e = section_sound id (list_at reading) (SpellsVector Spells) (vector_reads reading Spells reads) [] (λ xs. xs ≡ []) refl p xs q e

vector_complete : {A : Type 0} (id : ℕ) (reading : Reading A) (Spells : A → Language) → Reads reading Spells → 0 < id → (front p : Piece) (xs : List A) (q : Piece) → past_customs front ≡ past_customs p → Took (VectorSection id Spells xs) p q → Follows id q
    → Behind (section_at id (list_at reading) [] front) xs q
vector_complete id reading Spells reads lt front p xs q e t f = section_complete id (list_at reading) (SpellsVector Spells) (vector_reads reading Spells reads) [] (λ xs. xs ≡ []) (λ xs h. h) lt front p xs q e t f

-- ---- the bodies

left_true : (b : Bool) → (b || false) ≡ true → b ≡ true
left_true true e = refl
left_true false e = e

none_left : (funcs : List ℕ) (o : Option Cut) → (length funcs == 0 || is_some o) ≡ true → o ≡ None → funcs ≡ []
none_left funcs o e none = nil_is funcs (left_true (length funcs == 0) (subst (λ v. (length funcs == 0 || is_some v) ≡ true) none e))

code_sound : (types : List FuncType) (funcs : List ℕ) (p : Piece) (bodies : List Function) (q : Piece) → code_section_at types funcs p ≡ Ok (bodies, q) → Took (Following 10 (SpellsFuncs types funcs bodies) ((funcs ≡ []) × (bodies ≡ []))) p q
unfolding code_section_at
code_sound types funcs p bodies q e =
    let a = bind_ok (past_customs p) _ (bodies, q) e in
    let b = bind_ok (opened_at 10 a.0) _ (bodies, q) a.2 in
    let g = guard_ok (length funcs == 0 || is_some b.0) (contents_at (bodies_at types funcs) [] a.0 b.0) (Malformed (place a.0)) (bodies, q) b.2 in
    join Customs (Optional 10 (SpellsFuncs types funcs bodies) ((funcs ≡ []) × (bodies ≡ []))) p a.0 q (past_sound p a.0 a.1).0
    (contents_sound 10 (bodies_at types funcs) (SpellsFuncs types funcs) (bodies_read types funcs) [] (λ bodies. (funcs ≡ []) × (bodies ≡ [])) a.0 b.0 bodies q b.1 (λ none. (none_left funcs b.0 g.0 none, refl)) g.1)

code_whole : (types : List FuncType) (funcs : List ℕ) (front p : Piece) (bodies : List Function) (q : Piece) (w : Cut) (r : Piece) → past_customs front ≡ Ok p → opened_at 10 p ≡ Ok (Some w) → bodies_at types funcs w.inside ≡ Ok (bodies, r)
    → contents_at (bodies_at types funcs) [] p (Some w) ≡ Ok (bodies, q) → code_section_at types funcs front ≡ Ok (bodies, q)
unfolding code_section_at
code_whole types funcs front p bodies q w r e o b c = rw (e, o, or_right (length funcs == 0) true refl) c

code_none : (types : List FuncType) (funcs : List ℕ) (front p : Piece) (bodies : List Function) → past_customs front ≡ Ok p → opened_at 10 p ≡ Ok None → funcs ≡ [] → bodies ≡ [] → code_section_at types funcs front ≡ Ok (bodies, p)
unfolding code_section_at
code_none types funcs front p bodies e o nil none =
    let test : (length funcs == 0) ≡ true = ap (λ (xs : List ℕ). length xs == 0) nil in
    rw (e, o, test, none) refl

code_case : (types : List FuncType) (funcs : List ℕ) (front p q : Piece) (bodies : List Function) (spelled : List ℕ) → past_customs front ≡ past_customs p → p.left ≡ spelled ++ q.left → q.end ≡ p.end
    → Optional 10 (SpellsFuncs types funcs bodies) ((funcs ≡ []) × (bodies ≡ [])) spelled → Follows 10 q → Behind (code_section_at types funcs front) bodies q
code_case types funcs front p q bodies spelled e parts same (inl h) f =
    let t : Took (Byte 10 ⋅ Sized (SpellsFuncs types funcs bodies)) p q = record { front = spelled; parts = parts; same = same; spelled = h } in
    let w = section_whole 10 (bodies_at types funcs) (SpellsFuncs types funcs) (bodies_read types funcs) p bodies q t in
    record { next = q; read = code_whole types funcs front p bodies q w.window w.rest (e ∙ section_past 10 (SpellsFuncs types funcs bodies) p q (omega arith) t) w.opened w.read (contents_whole 10 (bodies_at types funcs) [] p bodies q w); same = refl }
code_case types funcs front p q bodies spelled e parts same (inr h) f =
    let k : p ≡ q = nothing_taken p q (record { front = spelled; parts = parts; same = same; spelled = h.1 }) in
    record {
      next = f.next;
      read = code_none types funcs front f.next bodies (e ∙ ap past_customs k ∙ f.past) (opened_none 10 f.next (f.above 10 (omega arith))) h.0.0 h.0.1;
      same = past_stop f.next (f.above 0 (omega arith)) ∙ sym f.past;
    }

code_complete : (types : List FuncType) (funcs : List ℕ) (front p : Piece) (bodies : List Function) (q : Piece) → past_customs front ≡ past_customs p → Took (Following 10 (SpellsFuncs types funcs bodies) ((funcs ≡ []) × (bodies ≡ []))) p q → Follows 10 q
    → Behind (code_section_at types funcs front) bodies q
code_complete types funcs front p bodies q e t f =
    let s = split Customs (Optional 10 (SpellsFuncs types funcs bodies) ((funcs ≡ []) × (bodies ≡ []))) p q t in
    code_case types funcs front s.middle q bodies s.second.front (e ∙ past_all p s.middle s.first) s.second.parts s.second.same s.second.spelled f

-- ---- what stands before the code

record FrontTaken (o : Opening) (p q : Piece) : Type 0 where
  pub after_header : Piece
  pub after_types : Piece
  pub after_imports : Piece
  pub after_funcs : Piece
  pub after_memory : Piece
  pub after_globals : Piece
  pub after_exports : Piece
  pub header : Took Header p after_header
  pub types : Took (VectorSection 1 SpellsFuncType o.types) after_header after_types
  pub imports : Took (VectorSection 2 SpellsImport o.imports) after_types after_imports
  pub funcs : Took (VectorSection 3 SpellsNumber o.funcs) after_imports after_funcs
  pub memory : Took (Following 5 (SpellsMemories o.memory) (o.memory ≡ None)) after_funcs after_memory
  pub globals : Took (VectorSection 6 SpellsGlobal o.globals) after_memory after_globals
  pub exports : Took (VectorSection 7 SpellsExport o.exports) after_globals after_exports
  pub start : Took (Following 8 (SpellsStart o.start) (o.start ≡ None)) after_exports q

front_sound : (p : Piece) (o : Opening) (q : Piece) → front_at p ≡ Ok (o, q) → FrontTaken o p q
unfolding front_at
front_sound p o q e =
    let header = bind_ok (header_at p) _ (o, q) e in
    let types = bind_ok (section_at 1 (list_at func_type_at) [] header.0) _ (o, q) header.2 in
    let imports = bind_ok (section_at 2 (list_at import_at) [] types.0.1) _ (o, q) types.2 in
    let funcs = bind_ok (section_at 3 (list_at u32_at) [] imports.0.1) _ (o, q) imports.2 in
    let tables = bind_ok (other_at 4 funcs.0.1) _ (o, q) funcs.2 in
    let memory = bind_ok (section_at 5 memories_at None tables.0) _ (o, q) tables.2 in
    let globals = bind_ok (section_at 6 (list_at global_at) [] memory.0.1) _ (o, q) memory.2 in
    let exports = bind_ok (section_at 7 (list_at export_at) [] globals.0.1) _ (o, q) globals.2 in
    let start = bind_ok (section_at 8 start_at None exports.0.1) _ (o, q) exports.2 in
    let found : Opening = record { types = types.0.0; imports = imports.0.0; funcs = funcs.0.0; memory = memory.0.0; globals = globals.0.0; exports = exports.0.0; start = start.0.0 } in
    along (λ v. FrontTaken v.0 p v.1) (found, start.0.1) (o, q) start.2 (record {
      after_header = header.0;
      after_types = types.0.1;
      after_imports = imports.0.1;
      after_funcs = funcs.0.1;
      after_memory = memory.0.1;
      after_globals = globals.0.1;
      after_exports = exports.0.1;
      header = header_skips.sound p header.0 header.1;
      types = vector_sound 1 func_type_at SpellsFuncType func_type_reads header.0 types.0.0 types.0.1 types.1;
      imports = vector_sound 2 import_at SpellsImport import_reads types.0.1 imports.0.0 imports.0.1 imports.1;
      funcs = vector_sound 3 u32_at SpellsNumber number_reads imports.0.1 funcs.0.0 funcs.0.1 funcs.1;
      memory = within_more 5 (SpellsMemories memory.0.0) (memory.0.0 ≡ None) funcs.0.1 tables.0 memory.0.1 (other_sound 4 funcs.0.1 tables.0 tables.1)
          (section_sound 5 memories_at SpellsMemories memories_reads None (λ m. m ≡ None) refl tables.0 memory.0.0 memory.0.1 memory.1);
      globals = vector_sound 6 global_at SpellsGlobal global_reads memory.0.1 globals.0.0 globals.0.1 globals.1;
      exports = vector_sound 7 export_at SpellsExport export_reads globals.0.1 exports.0.0 exports.0.1 exports.1;
      start = section_sound 8 start_at SpellsStart start_reads None (λ s. s ≡ None) refl exports.0.1 start.0.0 start.0.1 start.1;
    })

pub front_again : (p a b c d e f g h i : Piece) (types : List FuncType) (imports : List Foreign) (funcs : List ℕ) (memory : Option Limits) (globals : List GlobalVar) (exports : List Shown) (start : Option ℕ)
    → header_at p ≡ Ok a → section_at 1 (list_at func_type_at) [] a ≡ Ok (types, b) → section_at 2 (list_at import_at) [] b ≡ Ok (imports, c) → section_at 3 (list_at u32_at) [] c ≡ Ok (funcs, d) → other_at 4 d ≡ Ok e
    → section_at 5 memories_at None e ≡ Ok (memory, f) → section_at 6 (list_at global_at) [] f ≡ Ok (globals, g) → section_at 7 (list_at export_at) [] g ≡ Ok (exports, h) → section_at 8 start_at None h ≡ Ok (start, i)
    → front_at p ≡ Ok (record { types = types; imports = imports; funcs = funcs; memory = memory; globals = globals; exports = exports; start = start }, i)
unfolding front_at
front_again p a b c d e f g h i types imports funcs memory globals exports start h0 h1 h2 h3 h4 h5 h6 h7 h8 = rw (h0, h1, h2, h3, h4, h5, h6, h7, h8) refl

front_complete : (p : Piece) (o : Opening) (q : Piece) → FrontTaken o p q → Follows 8 q → Behind (front_at p) o q
front_complete p o q t f8 =
    let f7 = follows_section 8 7 (SpellsStart o.start) (o.start ≡ None) t.after_exports q (omega arith) (omega arith) t.start f8 in
    let f6 = follows_section 7 6 (SpellsVector SpellsExport o.exports) (o.exports ≡ []) t.after_globals t.after_exports (omega arith) (omega arith) t.exports f7 in
    let f5 = follows_section 6 5 (SpellsVector SpellsGlobal o.globals) (o.globals ≡ []) t.after_memory t.after_globals (omega arith) (omega arith) t.globals f6 in
    let f4 = follows_section 5 4 (SpellsMemories o.memory) (o.memory ≡ None) t.after_funcs t.after_memory (omega arith) (omega arith) t.memory f5 in
    let f3 = follows_section 5 3 (SpellsMemories o.memory) (o.memory ≡ None) t.after_funcs t.after_memory (omega arith) (omega arith) t.memory f5 in
    let f2 = follows_section 3 2 (SpellsVector SpellsNumber o.funcs) (o.funcs ≡ []) t.after_imports t.after_funcs (omega arith) (omega arith) t.funcs f3 in
    let f1 = follows_section 2 1 (SpellsVector SpellsImport o.imports) (o.imports ≡ []) t.after_types t.after_imports (omega arith) (omega arith) t.imports f2 in
    let types = vector_complete 1 func_type_at SpellsFuncType func_type_reads (omega arith) t.after_header t.after_header o.types t.after_types refl t.types f1 in
    let imports = vector_complete 2 import_at SpellsImport import_reads (omega arith) types.next t.after_types o.imports t.after_imports types.same t.imports f2 in
    let funcs = vector_complete 3 u32_at SpellsNumber number_reads (omega arith) imports.next t.after_imports o.funcs t.after_funcs imports.same t.funcs f3 in
    let tables = other_complete 4 4 funcs.next t.after_funcs (omega arith) funcs.same f4 in
    let memory = section_complete 5 memories_at SpellsMemories memories_reads None (λ m. m ≡ None) (λ m h. h) (omega arith) tables.next t.after_funcs o.memory t.after_memory tables.same t.memory f5 in
    let globals = vector_complete 6 global_at SpellsGlobal global_reads (omega arith) memory.next t.after_memory o.globals t.after_globals memory.same t.globals f6 in
    let exports = vector_complete 7 export_at SpellsExport export_reads (omega arith) globals.next t.after_globals o.exports t.after_exports globals.same t.exports f7 in
    let start = section_complete 8 start_at SpellsStart start_reads None (λ s. s ≡ None) (λ s h. h) (omega arith) exports.next t.after_exports o.start q exports.same t.start f8 in
    record {
      next = start.next;
      read = front_again p t.after_header types.next imports.next funcs.next tables.next memory.next globals.next exports.next start.next o.types o.imports o.funcs o.memory o.globals o.exports o.start
          (header_skips.complete p t.after_header t.header) types.read imports.read funcs.read tables.went memory.read globals.read exports.read start.read;
      same = start.same;
    }

-- ---- the whole module

abbrev opening_of : Parts → Opening
opening_of m = record { types = m.types; imports = m.imports; funcs = m.funcs; memory = m.memory; globals = m.globals; exports = m.exports; start = m.start }

-- a module that was read to its end
record ModuleTaken (m : Parts) (p : Piece) : Type 0 where
  pub after_start : Piece
  pub after_code : Piece
  pub after_segments : Piece
  pub last : Piece
  pub front : FrontTaken (opening_of m) p after_start
  pub code : Took (Following 10 (SpellsFuncs m.types m.funcs m.bodies) ((m.funcs ≡ []) × (m.bodies ≡ []))) after_start after_code
  pub segments : Took (VectorSection 11 SpellsSegment m.segments) after_code after_segments
  pub customs : Took Customs after_segments last
  pub ends : last.left ≡ []

module_sound : (p : Piece) (m : Parts) → module_at p ≡ Ok m → ModuleTaken m p
unfolding module_at
module_sound p m e =
    let front = bind_ok (front_at p) _ m e in
    let elements = bind_ok (other_at 9 front.0.1) _ m front.2 in
    let bodies = bind_ok (code_section_at front.0.0.types front.0.0.funcs elements.0) _ m elements.2 in
    let segments = bind_ok (section_at 11 (list_at segment_at) [] bodies.0.1) _ m bodies.2 in
    let rest = bind_ok (end_at segments.0.1) _ m segments.2 in
    let last = end_sound segments.0.1 rest.0 rest.1 in
    let o = front.0.0 in
    let found : Parts = record { types = o.types; imports = o.imports; funcs = o.funcs; memory = o.memory; globals = o.globals; exports = o.exports; start = o.start; bodies = bodies.0.0; segments = segments.0.0 } in
    along (λ v. ModuleTaken v p) found m rest.2 (record {
      after_start = front.0.1;
      after_code = bodies.0.1;
      after_segments = segments.0.1;
      last = rest.0;
      front = front_sound p front.0.0 front.0.1 front.1;
      code = within_more 10 (SpellsFuncs front.0.0.types front.0.0.funcs bodies.0.0) ((front.0.0.funcs ≡ []) × (bodies.0.0 ≡ [])) front.0.1 elements.0 bodies.0.1 (other_sound 9 front.0.1 elements.0 elements.1)
          (code_sound front.0.0.types front.0.0.funcs elements.0 bodies.0.0 bodies.0.1 bodies.1);
      segments = vector_sound 11 segment_at SpellsSegment segment_reads bodies.0.1 segments.0.0 segments.0.1 segments.1;
      customs = last.0;
      ends = last.1;
    })

module_again : (p a b c d q : Piece) (o : Opening) (bodies : List Function) (segments : List Stretch) → front_at p ≡ Ok (o, a) → other_at 9 a ≡ Ok b → code_section_at o.types o.funcs b ≡ Ok (bodies, c) → section_at 11 (list_at segment_at) [] c ≡ Ok (segments, d) → end_at d ≡ Ok q
    → module_at p ≡ Ok (record { types = o.types; imports = o.imports; funcs = o.funcs; memory = o.memory; globals = o.globals; exports = o.exports; start = o.start; bodies = bodies; segments = segments })
unfolding module_at
module_again p a b c d q o bodies segments h0 h1 h2 h3 h4 = rw (h0, h1, h2, h3, h4) refl

module_complete : (p : Piece) (m : Parts) → ModuleTaken m p → module_at p ≡ Ok m
module_complete p m t =
    let f11 = end_follows 11 t.after_segments t.last t.customs t.ends in
    let f10 = follows_section 11 10 (SpellsVector SpellsSegment m.segments) (m.segments ≡ []) t.after_code t.after_segments (omega arith) (omega arith) t.segments f11 in
    let f9 = follows_section 10 9 (SpellsFuncs m.types m.funcs m.bodies) ((m.funcs ≡ []) × (m.bodies ≡ [])) t.after_start t.after_code (omega arith) (omega arith) t.code f10 in
    let f8 = follows_section 10 8 (SpellsFuncs m.types m.funcs m.bodies) ((m.funcs ≡ []) × (m.bodies ≡ [])) t.after_start t.after_code (omega arith) (omega arith) t.code f10 in
    let front = front_complete p (opening_of m) t.after_start t.front f8 in
    let elements = other_complete 9 9 front.next t.after_start (omega arith) front.same f9 in
    let code = code_complete m.types m.funcs elements.next t.after_start m.bodies t.after_code elements.same t.code f10 in
    let segments = vector_complete 11 segment_at SpellsSegment segment_reads (omega arith) code.next t.after_code m.segments t.after_segments code.same t.segments f11 in
    module_again p front.next elements.next code.next segments.next t.last (opening_of m) m.bodies m.segments front.read elements.went code.read segments.read (end_complete segments.next t.after_segments t.last segments.same t.customs t.ends)

spelled_taken : (p : Piece) (m : Parts) → ModuleTaken m p → SpellsModule m p.left
spelled_taken p m t =
    let f = t.front in
    let all = join _ _ p f.after_header t.last f.header
    (join _ _ f.after_header f.after_types t.last f.types
    (join _ _ f.after_types f.after_imports t.last f.imports
    (join _ _ f.after_imports f.after_funcs t.last f.funcs
    (join _ _ f.after_funcs f.after_memory t.last f.memory
    (join _ _ f.after_memory f.after_globals t.last f.globals
    (join _ _ f.after_globals f.after_exports t.last f.exports
    (join _ _ f.after_exports t.after_start t.last f.start
    (join _ _ t.after_start t.after_code t.last t.code
    (join _ _ t.after_code t.after_segments t.last t.segments t.customs))))))))) in
    let whole : p.left ≡ all.front = all.parts ∙ ap (λ (xs : List ℕ). all.front ++ xs) t.ends ∙ append-nil all.front in
    subst (SpellsModule m) (sym whole) all.spelled

taken_spelled : (p : Piece) (m : Parts) → SpellsModule m p.left → ModuleTaken m p
taken_spelled p m h =
    let q : Piece = record { left = []; end = p.end } in
    let t : Took (SpellsModule m) p q = record { front = p.left; parts = sym (append-nil p.left); same = refl; spelled = h } in
    let a = split Header _ p q t in
    let b = split (VectorSection 1 SpellsFuncType m.types) _ a.middle q a.second in
    let c = split (VectorSection 2 SpellsImport m.imports) _ b.middle q b.second in
    let d = split (VectorSection 3 SpellsNumber m.funcs) _ c.middle q c.second in
    let e = split (Following 5 (SpellsMemories m.memory) (m.memory ≡ None)) _ d.middle q d.second in
    let f = split (VectorSection 6 SpellsGlobal m.globals) _ e.middle q e.second in
    let g = split (VectorSection 7 SpellsExport m.exports) _ f.middle q f.second in
    let i = split (Following 8 (SpellsStart m.start) (m.start ≡ None)) _ g.middle q g.second in
    let j = split (Following 10 (SpellsFuncs m.types m.funcs m.bodies) ((m.funcs ≡ []) × (m.bodies ≡ []))) _ i.middle q i.second in
    let k = split (VectorSection 11 SpellsSegment m.segments) Customs j.middle q j.second in
    record {
      after_start = i.middle;
      after_code = j.middle;
      after_segments = k.middle;
      last = q;
      front = record {
        after_header = a.middle;
        after_types = b.middle;
        after_imports = c.middle;
        after_funcs = d.middle;
        after_memory = e.middle;
        after_globals = f.middle;
        after_exports = g.middle;
        header = a.first;
        types = b.first;
        imports = c.first;
        funcs = d.first;
        memory = e.first;
        globals = f.first;
        exports = g.first;
        start = i.first;
      };
      code = j.first;
      segments = k.first;
      customs = k.second;
      ends = refl;
    }

pub modules_spelled : (bytes : List ℕ) (m : Parts) → (module_in bytes ≡ Ok m → ModuleSpells bytes m) × (ModuleSpells bytes m → module_in bytes ≡ Ok m)
unfolding ModuleSpells
modules_spelled bytes m =
    let p : Piece = record { left = bytes; end = length bytes } in
    (λ e. spelled_taken p m (module_sound p m e), λ h. module_complete p m (taken_spelled p m h))
