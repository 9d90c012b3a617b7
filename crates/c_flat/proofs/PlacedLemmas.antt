-- What the code knows of a place, while code is emitted and blocks come and go.
use Rattle.std.proofs.Common.{◌≡◌, ◌+◌, ℕ, List, [], ◌++◌, length, refl, sym, ap, subst, ◌∙◌, append-nil, Option}
use Rattle.std.specs.Prelude.{Result, Ok, Err, OnOk, IfOk}
use Rattle.std.specs.Map.{lookup}
use Rattle.std.specs.Str.{bytes_eq}
use Rattle.std.specs.declared.alloc.AllocError.{AllocError}
use Rattle.c_syntax.specs.Plain.{CExpr, CStmt}
use Rattle.c_syntax.specs.Words.{meaning}
use Rattle.c_eval.specs.State.{Cell}
use Rattle.c_eval.specs.Environment.{Environment, behind_literals, past_maybe, past_stmt, behind, objects_in}
use Rattle.c_eval.specs.LiteralsIn.{maybe_literals, stmt_literals}
use Rattle.c_code.specs.Code.{Instruction, Site, loop_code, maybe_test_code, maybe_effect_code, stmt_code}
use Rattle.c_resolved.specs.Same.{IsOwner}
use Rattle.c_types.specs.Known.{Grows}
use Rattle.c_types.specs.Table.{Table, known}
use Rattle.c_operands.proofs.OperandLemmas.{grows_then}
use Rattle.c_declared.specs.Held.{HoldsSome, IsAround}
use Rattle.c_declared.proofs.HeldLemmas.{held_kept}
use Rattle.c_operands.specs.declared.declarations.Declarations.{Declarations}
use Rattle.c_emitted.specs.declared.emitter.Emitter.{Emitter}
use Rattle.c_emitted.specs.Tables.{Tables}
use Rattle.c_emitted.specs.Emits.{tables_of, file_named, IsFile, Emits, KeepsTables}
use Rattle.c_here.specs.declared.here.Here.{Here}
use Rattle.c_here.specs.Here.{IsHere}
use Rattle.c_here.proofs.HereLemmas.{here_behind}
use Rattle.c_fitting.specs.Whole.{MaybeIsFit, StmtIsFit, TakesNoSlot}
use Rattle.c_cells.specs.declared.structs.StructKinds.{StructKinds}
use Rattle.c_cells.specs.Structs.{AreStructKinds}
use Rattle.c_cells.proofs.StructLemmas.{struct_kinds_kept}
use Rattle.c_blocks.specs.declared.objects.Block.{Block}
use Rattle.c_blocks.specs.declared.blocks.Marks.{Marks}
use Rattle.c_blocks.specs.Blocks.{IsEntered, IsBeside, IsSame}
use Rattle.c_blocks.specs.Objects.{unset_objects}
use Rattle.c_blocks.specs.Standing.{Stands, Keeps}
use Rattle.c_blocks.proofs.BlockLemmas.{entered_here, same_behind, same_some}
use Rattle.c_eval.specs.Environment.{in_block}
use Rattle.c_flat.specs.Compiled.{IsPlaced, Reaches, Goes, Compiles, Loops}
use Rattle.c_flat.proofs.PlaceLemmas.{same_place, past_is}

-- where the tables stay
here_kept : (table : Table) (h : Here) (a b : Emitter) (site : Site) (env : Environment) → KeepsTables a b → IsHere table h a site env → IsHere table h b site env
here_kept table h a b site env keeps here = record {
  holds = here.holds;
  slots = here.slots;
  files = record {
    found = λ name.
        subst (λ (ls : List ℕ). IsFile ls (file_named b name) (meaning site.names name)) (sym (ap (λ (t : Tables). t.files) keeps.tables))
        (subst (λ es. IsFile (tables_of a).files (lookup (λ k. bytes_eq name k.now) es) (meaning site.names name)) (sym keeps.stays.files) (here.files.found name));
  };
  owner = subst (λ (n : ℕ). IsOwner (tables_of b).names site.owner n) (sym keeps.stays.owner) (subst (λ (t : Tables). IsOwner t.names site.owner a.owner) (sym keeps.tables) here.owner);
  before = keeps.before ∙ here.before;
}

pub placed_kept : (table : Table) (h : Here) (kinds : StructKinds) (a b : Emitter) (k : Block) (site : Site) (env : Environment) → KeepsTables a b → IsPlaced table h kinds a k site env → IsPlaced table h kinds b k site env
placed_kept table h kinds a b k site env keeps p = record { stands = record { here = here_kept table h a b site env keeps p.stands.here; next = p.stands.next }; structs = p.structs }

-- behind code with so many literals
pub placed_behind : (old new : Table) (h : Here) (kinds : StructKinds) (a b : Emitter) (k : Block) (site : Site) (env : Environment) {is : List Instruction} {ls : List (List ℕ)} → Grows (known old) (known new) → new.tags ≡ old.tags → Emits a b is ls
    → IsPlaced old h kinds a k site env → IsPlaced new h kinds b k site (behind_literals ls env)
placed_behind old new h kinds a b k site env {is} {ls} grows tags e p = record {
  stands = record { here = here_behind old new h a b site env grows tags e p.stands.here; next = p.stands.next };
  structs = struct_kinds_kept old new kinds env.scope.tags tags p.structs;
}

-- behind code without literals
pub placed_quiet : (old new : Table) (h : Here) (kinds : StructKinds) (a b : Emitter) (k : Block) (site : Site) (env : Environment) {is : List Instruction} → Grows (known old) (known new) → new.tags ≡ old.tags → Emits a b is [] → IsPlaced old h kinds a k site env
    → IsPlaced new h kinds b k site env
placed_quiet old new h kinds a b k site env {is} grows tags e p = subst (λ (place : Environment). IsPlaced new h kinds b k site place) (same_place env) (placed_behind old new h kinds a b k site env grows tags e p)

-- a block begins, whose objects are the next ones
pub placed_entered : (table : Table) (h e : Here) (m : Marks) (kinds : StructKinds) (out : Emitter) (k l : Block) (site : Site) (env : Environment) → IsEntered h e m → l.next ≡ k.free → IsPlaced table h kinds out k site env
    → IsPlaced table e kinds out l site (in_block k.free env)
placed_entered table h e m kinds out k l site env i next p = record { stands = record { here = entered_here table h e m out site env k.free i p.stands.here; next = next }; structs = p.structs }

-- a block has ended
pub placed_same : (old new : Table) (h e : Here) (kinds : StructKinds) (a b : Emitter) (k : Block) (site : Site) (env : Environment) {is : List Instruction} {ls : List (List ℕ)} → IsSame h e → Grows (known old) (known new) → new.tags ≡ old.tags → Emits a b is ls
    → IsPlaced old h kinds a k site env → IsPlaced new e kinds b k site (behind_literals ls env)
placed_same old new h e kinds a b k site env {is} {ls} same grows tags emits p = record {
  stands = record { here = same_behind old new h e a b site env same grows tags emits p.stands.here; next = p.stands.next };
  structs = struct_kinds_kept old new kinds env.scope.tags tags p.structs;
}

-- behind a body, which declares nothing
pub body_placed : (table : Table) (h : Here) (kinds : StructKinds) (out : Emitter) (k : Block) (site : Site) (t : CStmt) (env : Environment) → TakesNoSlot t → IsPlaced table h kinds out k site (behind t env) → IsPlaced table h kinds out k site (past_stmt t env)
body_placed table h kinds out k site t env none p = subst (λ (place : Environment). IsPlaced table h kinds out k site place) (past_is t env none) p

-- a statement that declares nothing has been passed: all of its code is known
pub finish : (old new : Table) (h e : Here) (kinds : StructKinds) (a c d : Emitter) (k l : Block) (site : Site) (env : Environment) (n : ℕ) {is : List Instruction} {ls : List (List ℕ)} → IsPlaced old h kinds a k site env
    → IsPlaced new e kinds c l site (record env { literals_before = n }) → Emits a d is ls → unset_objects l.lengths.items ≡ unset_objects k.lengths.items ++ [] → Reaches new e kinds a d k l site (behind_literals ls env) is ls []
finish old new h e kinds a c d k l site env n {is} {ls} first last emits more =
    let w = here_behind old old h a d site env (λ m x y. y) refl emits first.stands.here in
    record {
      emits = emits;
      placed = record {
        stands = record { here = record { holds = last.stands.here.holds; slots = last.stands.here.slots; files = w.files; owner = w.owner; before = w.before }; next = last.stands.next };
        structs = last.structs;
      };
      more = more;
    }

pub nothing_more : (k : Block) → unset_objects k.lengths.items ≡ unset_objects k.lengths.items ++ []
nothing_more k = sym (append-nil (unset_objects k.lengths.items))

pub no_more : (k l m : Block) → unset_objects l.lengths.items ≡ unset_objects k.lengths.items ++ [] → unset_objects m.lengths.items ≡ unset_objects l.lengths.items ++ [] → unset_objects m.lengths.items ≡ unset_objects k.lengths.items ++ []
no_more k l m e f = f ∙ (append-nil (unset_objects l.lengths.items) ∙ e)

-- ---- whatever the tree is

pub stayed_beside : (h : Here) → IsBeside h h
stayed_beside h = record { declared = record { outer = refl; layouts = refl; defined = refl }; slots = refl }

pub beside_then : (h e f : Here) → IsBeside h e → IsBeside e f → IsBeside h f
beside_then h e f i j = record {
  declared = record { outer = j.declared.outer ∙ i.declared.outer; layouts = j.declared.layouts ∙ i.declared.layouts; defined = j.declared.defined ∙ i.declared.defined };
  slots = j.slots ∙ i.slots;
}

-- types alone have grown
pub goes_on : (old new : Table) (h : Here) (k : Block) → Grows (known old) (known new) → new.tags ≡ old.tags → HoldsSome old h.declared → Goes old new h h k k
goes_on old new h k grows tags some = record { keeps = record { grows = grows; tags = tags; beside = stayed_beside h; holds = held_kept old new h.declared grows tags some }; free = refl }

pub goes_then : (old mid new : Table) (h e f : Here) (k l m : Block) → Goes old mid h e k l → Goes mid new e f l m → Goes old new h f k m
goes_then old mid new h e f k l m g i = record {
  keeps = record {
    grows = grows_then (known old) (known mid) (known new) g.keeps.grows i.keeps.grows;
    tags = i.keeps.tags ∙ g.keeps.tags;
    beside = beside_then h e f g.keeps.beside i.keeps.beside;
    holds = i.keeps.holds;
  };
  free = i.free ∙ g.free;
}

-- types grow before
pub goes_behind : (old mid new : Table) (h e : Here) (k l : Block) → Grows (known old) (known mid) → mid.tags ≡ old.tags → Goes mid new h e k l → Goes old new h e k l
goes_behind old mid new h e k l grows tags i = record {
  keeps = record { grows = grows_then (known old) (known mid) (known new) grows i.keeps.grows; tags = i.keeps.tags ∙ tags; beside = i.keeps.beside; holds = i.keeps.holds };
  free = i.free;
}

pub goes_later : (old mid new : Table) (h e : Here) (k l : Block) → Goes old mid h e k l → Grows (known mid) (known new) → new.tags ≡ mid.tags → Goes old new h e k l
goes_later old mid new h e k l g grows tags = record {
  keeps = record { grows = grows_then (known old) (known mid) (known new) g.keeps.grows grows; tags = tags ∙ g.keeps.tags; beside = g.keeps.beside; holds = held_kept mid new e.declared grows tags g.keeps.holds };
  free = g.free;
}

-- a block has ended
pub block_goes : (old new : Table) (h e : Here) (k : Block) → IsSame h e → Grows (known old) (known new) → new.tags ≡ old.tags → HoldsSome old h.declared → Goes old new h e k k
block_goes old new h e k same grows tags some = record { keeps = record { grows = grows; tags = tags; beside = same.beside; holds = same_some old new h e same grows tags some }; free = refl }

-- a statement's code is told by what its last part answers
pub compiles_on : (r : Result (Unit {0}) AllocError) (old new : Table) (h e : Here) (kinds : StructKinds) (a b : Emitter) (k l : Block) (t : CStmt) → OnOk r (Goes old new h e k l)
    → ((site : Site) (env : Environment) → IsPlaced old h kinds a k site env → StmtIsFit env.scope t → OnOk r (Reaches new e kinds a b k l site (behind t env) (stmt_code t k.free site env) (stmt_literals env.scope t) (objects_in env.scope t)))
    → OnOk r (Compiles old new h e kinds a b k l t)
compiles_on (Ok x) old new h e kinds a b k l t goes code = record { goes = goes; code = code }
compiles_on (Err x) old new h e kinds a b k l t goes code = tt

pub loops_on : (r : Result (Unit {0}) AllocError) (old new : Table) (h e : Here) (kinds : StructKinds) (a b : Emitter) (k l : Block) (test step : Option CExpr) (t : CStmt) → OnOk r (Goes old new h e k l)
    → ((site : Site) (env : Environment) → IsPlaced old h kinds a k site env → MaybeIsFit env.scope test → MaybeIsFit env.scope step → StmtIsFit env.scope t → TakesNoSlot t
    → OnOk r (Reaches new e kinds a b k l site (past_stmt t (past_maybe step (past_maybe test env))) (loop_code (maybe_test_code test site env) (maybe_effect_code step site (past_maybe test env)) (stmt_code t k.free site (past_maybe step (past_maybe test env))))
    (maybe_literals env.scope test ++ (maybe_literals env.scope step ++ stmt_literals env.scope t)) []))
    → OnOk r (Loops old new h e kinds a b k l test step t)
loops_on (Ok x) old new h e kinds a b k l test step t goes code = record { goes = goes; code = code }
loops_on (Err x) old new h e kinds a b k l test step t goes code = tt
