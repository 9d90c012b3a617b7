-- Places while types grow and code is emitted.
use Rattle.std.proofs.Common.{◌≡◌, ◌+◌, ℕ, List, length, map, sym, ap, subst, ◌∙◌}
use Rattle.std.specs.Prelude.{Vec}
use Rattle.std.specs.Map.{lookup}
use Rattle.std.specs.Str.{bytes_eq}
use Rattle.c_syntax.specs.Words.{meaning}
use Rattle.c_eval.specs.Environment.{Environment, behind_literals}
use Rattle.c_code.specs.Code as code
use Rattle.c_code.specs.Code.{Site}
use Rattle.std.specs.declared.alloc.Global.{Global}
use Rattle.c_store.specs.declared.value.Cell as rust_cell
use Rattle.c_store.specs.Values.{Cell}
use Rattle.c_store.specs.Shown.{cell_of}
use Rattle.c_resolved.specs.Same.{IsOwner}
use Rattle.c_types.specs.Known.{Grows}
use Rattle.c_types.specs.Table.{Table, known}
use Rattle.c_declared.specs.Held.{HoldsSome}
use Rattle.c_declared.proofs.HeldLemmas.{holds_kept}
use Rattle.c_operands.specs.declared.declarations.Declarations.{Declarations}
use Rattle.c_operands.specs.Scoped.{FitsSome}
use Rattle.c_emitted.specs.declared.emitter.Emitter.{Emitter}
use Rattle.c_emitted.specs.Emits.{tables_of, file_named, IsFile, Emits}
use Rattle.c_emitted.proofs.EmitLemmas.{owner_kept}
use Rattle.c_here.specs.declared.here.Here as rust
use Rattle.c_here.specs.Here.{IsHere}

-- what the code knows of a place holds behind code with so many literals
pub here_behind : (old new : Table) (h : rust.Here) (a b : Emitter) (site : Site) (env : Environment) {is : List code.Instruction} {ls : List (List ℕ)} → Grows (known old) (known new) → new.tags ≡ old.tags → Emits a b is ls
    → IsHere old h a site env → IsHere new h b site (behind_literals ls env)
here_behind old new h a b site env {is} {ls} grows same e here =
    let entries = e.stays.files in
    let objects : (tables_of b).files ≡ (tables_of a).files = ap (λ (os : List (Vec rust_cell.Cell Global)). map (λ (cells : List Cell). length cells) (map (λ (cells : Vec rust_cell.Cell Global). map cell_of cells.items) os)) e.stays.objects in
    record {
      holds = holds_kept old new h.declared env.scope grows same here.holds;
      slots = here.slots;
      files = record {
        found = λ name.
            subst (λ (ls : List ℕ). IsFile ls (file_named b name) (meaning site.names name)) (sym objects)
            (subst (λ es. IsFile (tables_of a).files (lookup (λ k. bytes_eq name k.now) es) (meaning site.names name)) (sym entries) (here.files.found name));
      };
      owner = subst (λ (n : ℕ). IsOwner (tables_of b).names site.owner n) (sym e.stays.owner) (owner_kept e.tables.names here.owner);
      before = e.before ∙ ap (λ (n : ℕ). n + length ls) here.before;
    }

-- and where types alone grow
pub here_later : (old new : Table) (h : rust.Here) (a : Emitter) (site : Site) (env : Environment) → Grows (known old) (known new) → new.tags ≡ old.tags → IsHere old h a site env → IsHere new h a site env
here_later old new h a site env grows same here = record { holds = holds_kept old new h.declared env.scope grows same here.holds; slots = here.slots; files = here.files; owner = here.owner; before = here.before }

pub some_later : (old new : Table) (d : Declarations) → Grows (known old) (known new) → new.tags ≡ old.tags → HoldsSome old d → HoldsSome new d
some_later old new d grows same h = (h.0, holds_kept old new d h.0 grows same h.1)

pub some_fits : (table : Table) (d : Declarations) → HoldsSome table d → FitsSome table d
some_fits table d h = (h.0, h.1.fits)
