-- Objects of file scope before the first external, and behind code.
use Rattle.std.proofs.Common.{◌≡◌, List, [], ◌∷◌, length, map, refl, sym, ap, subst}
use Rattle.std.specs.Prelude.{Vec, None}
use Rattle.std.specs.declared.alloc.Global.{Global}
use Rattle.std.specs.Map.{lookup}
use Rattle.std.specs.Str.{bytes_eq}
use Rattle.c_syntax.specs.Plain.{CUnit}
use Rattle.c_types.specs.Units.{start_scope}
use Rattle.c_eval.specs.State as run
use Rattle.c_eval.specs.Text.{file_start}
use Rattle.c_store.specs.declared.value.Cell as rust
use Rattle.c_store.specs.Values.{Cell}
use Rattle.c_store.specs.Shown.{cell_of}
use Rattle.c_resolved.specs.Same.{SameBlock, no_block}
use Rattle.c_resolved.specs.Means as means
use Rattle.c_resolved.specs.Means.{file_lengths}
use Rattle.c_types.specs.Table.{Table}
use Rattle.c_operands.specs.declared.declarations.Declarations.{Declarations}
use Rattle.c_declared.specs.Held.{Holds}
use Rattle.c_emitted.specs.declared.emitter.Emitter.{Emitter}
use Rattle.c_emitted.specs.Tables.{Tables, no_tables, Extends}
use Rattle.c_emitted.specs.Emits.{tables_of, IsFile}
use Rattle.c_emitted.proofs.TableLemmas.{extends_then}
use Rattle.c_objects.specs.Made.{StandsAtFile, AreShown, shown_objects}
use Rattle.c_objects.specs.Made as made

no_objects : (os : List (Vec rust.Cell Global)) → map (λ (cells : List Cell). length cells) (map (λ (cells : Vec rust.Cell Global). map cell_of cells.items) os) ≡ [] → os ≡ []
no_objects [] h = refl
no_objects (o ∷ os) h = absurd cc

objects_none : (out : Emitter) → tables_of out ≡ no_tables → out.objects.items ≡ []
objects_none out none = no_objects out.objects.items (ap (λ (t : Tables). t.files) none)

-- nothing is made yet
pub starts : (table : Table) (d : Declarations) (out : Emitter) (u : CUnit) → Holds table d (start_scope u) → out.code ≡ [] → tables_of out ≡ no_tables → out.owner ≡ 0 → out.before ≡ 0 → out.files.entries ≡ [] → made.IsFile table d out (file_start u) []
starts table d out u holds code none owner before files = record {
  holds = holds;
  stands = record {
    files = record { found = λ name. subst (λ es. IsFile (tables_of out).files (lookup (λ k. bytes_eq name k.now) es) None) (sym files) refl };
    owner = owner;
    before = before;
    next = sym (ap length (objects_none out none));
    code = code;
  };
  shown = record { same = λ names p x. subst (λ (os : List (Vec rust.Cell Global)). SameBlock (means.tables_of names p) (file_lengths p) [] (map (λ (o : Vec rust.Cell Global). map cell_of o.items) os)) (sym (objects_none out none)) no_block };
}

-- what is shown stays so while tables grow and the objects are as they were
pub shown_on : (a b : Emitter) (new : List (List run.Cell)) → Extends (tables_of a) (tables_of b) → b.objects.items ≡ a.objects.items → AreShown a new → AreShown b new
shown_on a b new e same h = record {
  same = λ names p x. subst (λ (os : List (Vec rust.Cell Global)). SameBlock (means.tables_of names p) (file_lengths p) new (map (λ (o : Vec rust.Cell Global). map cell_of o.items) os)) (sym same) (h.same names p (extends_then e x));
}
