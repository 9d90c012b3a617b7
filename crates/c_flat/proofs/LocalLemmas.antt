-- Declarations of objects in blocks, with their first values.
use Rattle.std.proofs.Common.{◌≡◌, ◌+◌, ◌<◌, ◌≤◌, ◌^◌, ℕ, List, [], ◌∷◌, ◌++◌, map, replicate, Option, Some, None, false, refl, sym, ap, subst, ◌∙◌, arith}
use Rattle.std.specs.Prelude.{Result, Ok, Err, OnOk, IsOk}
use Rattle.std.specs.declared.alloc.AllocError.{AllocError}
use Rattle.std.proofs.lemmas.List.{map-append}
use Rattle.c_syntax.specs.Plain as plain
use Rattle.c_syntax.specs.Plain.{CValue, CDecl}
use Rattle.c_types.specs.Types.{CType, Tags, words_of}
use Rattle.c_types.specs.Scope.{Scope}
use Rattle.c_types.specs.Declarations.{declared}
use Rattle.c_types.specs.Limits.{most_words}
use Rattle.c_types.specs.Census.{scope_behind}
use Rattle.c_eval.specs.State.{Cell, Unset}
use Rattle.c_eval.specs.Environment.{Environment, object_type_in, declaring, past_first, behind, behind_literals, objects_in}
use Rattle.c_eval.specs.LiteralsIn.{first_literals, stmt_literals}
use Rattle.c_code.specs.Code.{Instruction, Site, first_code, local_code, stmt_code}
use Rattle.c_types.specs.Known.{Grows}
use Rattle.c_types.specs.Table.{Table, known, HasType}
use Rattle.c_emitted.specs.declared.emitter.Emitter.{Emitter}
use Rattle.c_emitted.specs.Emits.{Emits}
use Rattle.c_here.specs.declared.here.Here.{Here}
use Rattle.c_here.specs.Here.{IsHere}
use Rattle.c_fitting.specs.Whole.{FirstIsFit, StmtIsFit}
use Rattle.c_cells.specs.declared.structs.StructKinds.{StructKinds}
use Rattle.c_cells.specs.Structs.{AreStructKinds}
use Rattle.c_cells.proofs.StructLemmas.{struct_kinds_kept}
use Rattle.c_flat.specs.First.{maybe_first_code}
use Rattle.c_blocks.specs.declared.objects.Block.{Block}
use Rattle.c_blocks.specs.declared.locals.Local.{Local}
use Rattle.c_blocks.specs.Locals.{IsDeclared}
use Rattle.c_blocks.specs.Objects.{unset_objects}
use Rattle.c_blocks.specs.Standing.{Stands, Keeps}
use Rattle.c_blocks.proofs.LocalLemmas.{declares_as}
use Rattle.c_flat.specs.Compiled.{IsPlaced, Reaches, Goes, Compiles}
use Rattle.c_flat.proofs.PlaceLemmas.{first_place}
use Rattle.c_flat.proofs.PlacedLemmas.{placed_behind, goes_later}
use Rattle.c_flat.proofs.GoingLemmas.{three_as}

-- the code of a first value where it is declared
first_is : (o : Option CValue) (d : CDecl) (site : Site) (env : Environment) (slot : ℕ) → slot ≡ env.next → maybe_first_code site (declaring d env) (object_type_in env.scope d) slot o ≡ local_code d site env o
first_is None d site env slot e = refl
first_is (Some v) d site env slot e = ap (λ (n : ℕ). first_code v (object_type_in env.scope d) n 0 site (declaring d env)) e

-- limits fit a word
small_words : (n : ℕ) → n ≤ most_words → n < 2 ^ 24
small_words n h = omega (arith, h)

-- an object's declaration got its code
local_now : (old mid new : Table) (h e : Here) (kinds : StructKinds) (a b : Emitter) (k l : Block) (d : CDecl) (local : Local) → Keeps old mid h e → l.free ≡ k.free → Grows (known mid) (known new) → new.tags ≡ mid.tags
    → ((site : Site) (env : Environment) → Stands old h a k site env → IsOk (declared env.scope false d) → words_of env.scope.tags (object_type_in env.scope d) < 2 ^ 24 → IsDeclared mid e a k l site env d local)
    → ((site : Site) (env : Environment) (t : CType) → IsHere mid e a site env → AreStructKinds mid kinds env.scope.tags → HasType mid local.ty t → FirstIsFit env.scope t d.first → Emits a b (maybe_first_code site env t local.slot d.first) (first_literals env.scope d.first))
    → Compiles old new h e kinds a b k l (plain.Local d)
local_now old mid new h e kinds a b k l d local keeps free grows tags declares emits = record {
  goes = goes_later old mid new h e k l (record { keeps = keeps; free = free }) grows tags;
  code = λ site env p fit.
      let s = env.scope in
      let t = object_type_in s d in
      let is = declares site env p.stands fit.0 (small_words (words_of s.tags t) fit.1.0) in
      let inner = declaring d env in
      let same : inner.scope.tags ≡ s.tags = ap (λ (x : Scope). x.tags) (declares_as s d fit.0) in
      let structs : AreStructKinds mid kinds inner.scope.tags = subst (λ (x : Tags). AreStructKinds mid kinds x) (sym same) (struct_kinds_kept old mid kinds s.tags keeps.tags p.structs) in
      let first = emits site inner t is.stands.here structs is.ty fit.1.1 in
      let at : IsPlaced mid e kinds a l site inner = record { stands = is.stands; structs = structs } in
      let ls = first_literals inner.scope d.first in
      let js = maybe_first_code site inner t local.slot d.first in
      let words = words_of s.tags t in
      let more : unset_objects l.lengths.items ≡ unset_objects k.lengths.items ++ (replicate words Unset ∷ []) = ap (λ (x : List ℕ). unset_objects x) is.lengths ∙ map-append (λ (n : ℕ). replicate n Unset) k.lengths.items (words ∷ []) in
      let r : Reaches new e kinds a b k l site (behind_literals ls inner) js ls (objects_in s (plain.Local d)) = record { emits = first; placed = placed_behind mid new e kinds a b l site inner grows tags first at; more = more } in
      three_as new e kinds a b k l site (behind_literals ls inner) (behind (plain.Local d) env) js (stmt_code (plain.Local d) k.free site env) ls (stmt_literals s (plain.Local d)) (objects_in s (plain.Local d)) (objects_in s (plain.Local d)) (first_place d.first inner)
      (first_is d.first d site env local.slot is.slot) refl refl r;
}

pub local_on : (r : Result (Unit {0}) AllocError) (old mid new : Table) (h e : Here) (kinds : StructKinds) (a b : Emitter) (k l : Block) (d : CDecl) (local : Local) → Keeps old mid h e → l.free ≡ k.free → OnOk r (Grows (known mid) (known new)) → OnOk r (new.tags ≡ mid.tags)
    → ((site : Site) (env : Environment) → Stands old h a k site env → IsOk (declared env.scope false d) → words_of env.scope.tags (object_type_in env.scope d) < 2 ^ 24 → IsDeclared mid e a k l site env d local)
    → ((site : Site) (env : Environment) (t : CType) → IsHere mid e a site env → AreStructKinds mid kinds env.scope.tags → HasType mid local.ty t → FirstIsFit env.scope t d.first → OnOk r (Emits a b (maybe_first_code site env t local.slot d.first) (first_literals env.scope d.first)))
    → OnOk r (Compiles old new h e kinds a b k l (plain.Local d))
local_on (Ok x) old mid new h e kinds a b k l d local keeps free grows tags declares emits = local_now old mid new h e kinds a b k l d local keeps free grows tags declares emits
local_on (Err x) old mid new h e kinds a b k l d local keeps free grows tags declares emits = tt

-- no tree that is fit has a declaration without an object
pub no_local : (old new : Table) (h e : Here) (kinds : StructKinds) (a : Emitter) (k l : Block) (d : CDecl) → Keeps old new h e → l.free ≡ k.free
    → ((site : Site) (env : Environment) → Stands old h a k site env → IsOk (declared env.scope false d) → words_of env.scope.tags (object_type_in env.scope d) < 2 ^ 24 → ⊥) → Compiles old new h e kinds a a k l (plain.Local d)
no_local old new h e kinds a k l d keeps free none = record {
  goes = record { keeps = keeps; free = free };
  code = λ site env p fit. absurd (none site env p.stands fit.0 (small_words (words_of env.scope.tags (object_type_in env.scope d)) fit.1.0));
}
