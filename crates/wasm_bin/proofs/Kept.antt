-- A module that bytes spell keeps the limits.
use Rattle.std.proofs.Common.{◌≡◌, ◌∙◌, ℕ, suc, ◌≤◌, ◌^◌, List, [], ◌∷◌, length, map, Option, None, Some, inl, inr, refl, sym, ap, subst, arith}
use Rattle.std.specs.Prelude.{All}
use Rattle.std.proofs.lemmas.List.{length-map}
use Rattle.std.proofs.lemmas.List.Elements.{All-nil, All-cons}
use Rattle.wasm_bin.specs.declared.module.FuncType.{FuncType}
use Rattle.wasm_bin.specs.declared.module.Limits.{Limits}
use Rattle.wasm_bin.specs.declared.module.Module.{Module}
use Rattle.wasm_bin.specs.Grammar.{Language, InTurn, SpellsBodies, SpellsFuncs, SpellsLimited, SpellsNumber, SpellsFuncType, SpellsImport, SpellsGlobal, SpellsExport, SpellsSegment, SpellsMemories, SpellsLimits, SpellsRange, ModuleSpells, Following, VectorSection}
use Rattle.wasm_bin.specs.Parts.{Function, foreign, shown, function_of, stretch, parts_of}
use Rattle.wasm_bin.specs.Section.{params_of}
use Rattle.wasm_bin.specs.Module.{module_spells}
use Rattle.wasm_bin.specs.Limits.{HasFewPages, KeepsLimits}

vector_few : {A : Type 0} (id : ℕ) (Spells : A → Language) (xs : List A) (bytes : List ℕ) → VectorSection id Spells xs bytes → length xs ≤ 2 ^ 20
unfolding SpellsLimited
vector_few id Spells xs bytes v = elim v.second [
  | inl section ↦ section.second.spelled.first.0
  | inr absent ↦ omega (arith, ap length absent.0)
]

abbrev IsShort : FuncType → Type 0
IsShort t = t.params ≤ 2 ^ 16

in_turn_short : (types : List FuncType) (bytes : List ℕ) → InTurn SpellsFuncType types bytes → All IsShort types
unfolding SpellsFuncType SpellsLimited
in_turn_short [] bytes h = All-nil IsShort
in_turn_short (t ∷ types) bytes h = All-cons IsShort t types h.first.second.first.0 (in_turn_short types h.back h.second)

types_short : (types : List FuncType) (bytes : List ℕ) → VectorSection 1 SpellsFuncType types bytes → All IsShort types
types_short types bytes v = elim v.second [
  | inl section ↦ in_turn_short types section.second.spelled.back section.second.spelled.second
  | inr absent ↦ subst (λ (l : List FuncType). All IsShort l) (sym absent.0) (All-nil IsShort)
]

range_few : (least : ℕ) (largest : Option ℕ) (bytes : List ℕ) → SpellsRange least largest bytes → least ≤ 1024
unfolding SpellsRange SpellsLimited
range_few least None bytes h = h.second.0
range_few least (Some largest) bytes h = h.second.first.0

some_or_none : (l : Limits) → Some l ≡ None → ⊥
some_or_none l e = cc

memory_few : (memory : Option Limits) (bytes : List ℕ) → Following 5 (SpellsMemories memory) (memory ≡ None) bytes → HasFewPages memory
unfolding SpellsMemories SpellsLimits
memory_few None bytes v = tt
memory_few (Some l) bytes v = elim v.second [
  | inl section ↦ range_few l.min l.max section.second.spelled.back section.second.spelled.second
  | inr absent ↦ absurd (some_or_none l absent.0)
]

bodies_length : (params : List ℕ) (bodies : List Function) (bytes : List ℕ) → SpellsBodies params bodies bytes → length bodies ≡ length params
unfolding SpellsBodies
bodies_length [] [] bytes h = refl
bodies_length (p ∷ params) (b ∷ bodies) bytes h = ap suc (bodies_length params bodies h.back h.second)
bodies_length [] (b ∷ bodies) bytes h = absurd h
bodies_length (p ∷ params) [] bytes h = absurd h

bodies_many : (types : List FuncType) (funcs : List ℕ) (bodies : List Function) (bytes : List ℕ) → Following 10 (SpellsFuncs types funcs bodies) ((funcs ≡ []) × (bodies ≡ [])) bytes → length bodies ≡ length funcs
bodies_many types funcs bodies bytes v = elim v.second [
  | inl section ↦ bodies_length (map (params_of types) funcs) bodies section.second.spelled.back section.second.spelled.second ∙ length-map funcs (params_of types)
  | inr absent ↦ ap length absent.0.1 ∙ sym (ap length absent.0.0)
]

pub kept : (bytes : List ℕ) (m : Module) → module_spells bytes m → KeepsLimits m
unfolding ModuleSpells
kept bytes m s =
    let p = parts_of m in
    let t1 = s.second in
    let t2 = t1.second in
    let t3 = t2.second in
    let t5 = t3.second in
    let t6 = t5.second in
    let t7 = t6.second in
    let t8 = t7.second in
    let t10 = t8.second in
    let t11 = t10.second in
    record {
      types = vector_few 1 SpellsFuncType p.types t1.front t1.first;
      params = types_short p.types t1.front t1.first;
      imports = subst (λ n. n ≤ 2 ^ 20) (length-map m.imports foreign) (vector_few 2 SpellsImport p.imports t2.front t2.first);
      funcs = vector_few 3 SpellsNumber p.funcs t3.front t3.first;
      bodies = sym (length-map m.bodies function_of) ∙ bodies_many p.types p.funcs p.bodies t10.front t10.first;
      pages = memory_few p.memory t5.front t5.first;
      globals = vector_few 6 SpellsGlobal p.globals t6.front t6.first;
      exports = subst (λ n. n ≤ 2 ^ 20) (length-map m.exports shown) (vector_few 7 SpellsExport p.exports t7.front t7.first);
      segments = subst (λ n. n ≤ 2 ^ 20) (length-map m.segments stretch) (vector_few 11 SpellsSegment p.segments t11.front t11.first);
    }
