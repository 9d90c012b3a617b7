-- Bodies and functions that get code.
use Rattle.std.proofs.Common.{◌≡◌, ℕ, ◌+◌, List, [], ◌∷◌, ◌++◌, length, map, Option, Some, sym, ap, subst, ◌∙◌, arith}
use Rattle.std.specs.Map.{lookup}
use Rattle.std.specs.Str.{bytes_eq}
use Rattle.c_syntax.specs.Words.{meaning}
use Rattle.c_eval.specs.State as run
use Rattle.c_store.specs.Shown.{cell_of}
use Rattle.c_resolved.specs.Resolved.{kind_of}
use Rattle.c_pieces.specs.Places.{AreInSlots}
use Rattle.std.proofs.lemmas.List.{length-map}
use Rattle.c_syntax.specs.Plain.{CDecl, CStmt}
use Rattle.c_syntax.specs.View.{decl_of, decls_of}
use Rattle.c_syntax.specs.declared.tree.Decl.{Decl}
use Rattle.c_types.specs.Scope.{Scope}
use Rattle.c_types.specs.Units as plain
use Rattle.c_types.specs.Units.{body_scope}
use Rattle.c_eval.specs.Environment.{Environment}
use Rattle.c_eval.specs.LiteralsIn.{stmt_literals}
use Rattle.c_code.specs.Code as code
use Rattle.c_code.specs.Code.{Site, stmt_code, slots_for}
use Rattle.c_code.specs.Machine.{parameter_slots}
use Rattle.c_types.specs.Table.{Table, known}
use Rattle.c_types.specs.Known.{Grows}
use Rattle.c_operands.specs.declared.declarations.Declarations.{Declarations}
use Rattle.c_declared.specs.Held.{Holds}
use Rattle.c_signatures.specs.Blocks.{IsSame}
use Rattle.c_signatures.specs.declared.signature.Signature.{Signature}
use Rattle.c_signatures.specs.Signatures.{IsSignature}
use Rattle.c_signatures.proofs.BlockLemmas.{same_holds}
use Rattle.c_check.proofs.BodyLemmas.{signature_kept}
use Rattle.c_census.specs.Sums.{HoldsWith}
use Rattle.c_plain.specs.declared.code.Entry.{Entry}
use Rattle.c_emitted.specs.declared.emitter.Emitter.{Emitter}
use Rattle.c_emitted.specs.Emits.{tables_of, file_named, IsFile, AreFiles, Emits}
use Rattle.c_emitted.proofs.TableLemmas.{begins_get, extends_then}
use Rattle.c_emitted.proofs.EmitLemmas.{later}
use Rattle.c_cells.specs.declared.structs.StructKinds.{StructKinds}
use Rattle.c_cells.specs.Structs.{AreStructKinds}
use Rattle.c_here.specs.declared.here.Here.{Here}
use Rattle.c_here.specs.Here.{IsHere}
use Rattle.c_fitting.specs.Whole.{DefinitionIsFit}
use Rattle.c_blocks.specs.declared.objects.Block.{Block}
use Rattle.c_flat.specs.Compiled.{IsPlaced, Compiles}
use Rattle.c_linked.specs.Begun.{BeginsFunction}
use Rattle.c_tracks.specs.Tracks.{told_charge}
use Rattle.c_flat.specs.Defined.{defined, body_start, IsAtBody, CompilesBody, Defines}

-- a signature in what is declared again
pub with_later : (old new : Table) (d e : Declarations) (f : Signature) → Grows (known old) (known new) → new.tags ≡ old.tags → IsSame d e → HoldsWith old d f → HoldsWith new e f
with_later old new d e f grows tags same h = (h.0, h.1, same_holds old new d e h.0 grows tags same h.2, signature_kept old new h.0 f h.1 grows h.3)

pub same_then : (d e f : Declarations) → IsSame d e → IsSame e f → IsSame d f
same_then d e f h k = record { block = k.block ∙ h.block; outer = k.outer ∙ h.outer; layouts = k.layouts ∙ h.layouts; defined = k.defined ∙ h.defined }

-- ---- bodies

pub body_emits : (table new : Table) (h0 h1 h2 : Here) (f : Signature) (kinds : StructKinds) (a b c : Emitter) (k l : Block) (name : List ℕ) (count : ℕ) (t : CStmt)
    → ((s : Scope) (g : plain.Signature) → Holds table h0.declared s → IsSignature table s f g → Holds table h1.declared (body_scope s name g)) → h1.slots ≡ h0.slots → k.next ≡ count → k.free ≡ count + 0
    → Compiles table new h1 h2 kinds a b k l t → Emits b c (code.Push run.Missing ∷ code.Return ∷ []) [] → CompilesBody table h0 f kinds a c name count t
body_emits table new h0 h1 h2 f kinds a b c k l name count t holds same next free compiles ends = λ s g site params held is at structs fit none.
    let env : Environment = body_start s name g params in
    let here : IsHere table h1 a site env = record {
      holds = holds s g held is;
      slots = subst (λ x. AreInSlots x (parameter_slots params 0)) (sym same) at.slots;
      files = at.files;
      owner = at.owner;
      before = at.before;
    } in
    let placed : IsPlaced table h1 kinds a k site env = record {
      stands = record { here = here; next = next ∙ sym at.many };
      structs = subst (λ tags. AreStructKinds table kinds tags) (sym is.tags) structs;
    } in
    let slots : k.free ≡ length params + slots_for t = let m = at.many in omega (arith, free, m, none) in
    let reached = compiles.code site env placed fit in
    later (subst (λ n. Emits a b (stmt_code t n site env) (stmt_literals env.scope t)) slots reached.emits) ends

-- ---- functions

files_begun : (a b : Emitter) (names : List (List ℕ × Option ℕ)) → b.objects.items ≡ a.objects.items → b.files.entries ≡ a.files.entries → AreFiles a names → AreFiles b names
files_begun a b names objects files h = record {
  found = λ name.
      subst (λ o. IsFile (tables_of b).files o (meaning names name)) (ap (λ es. lookup (λ k. bytes_eq name k.now) es) (sym files))
      (subst (λ l. IsFile l (file_named a name) (meaning names name)) (ap (λ os. map (λ cells. length cells) (map (λ cells. map cell_of cells.items) os)) (sym objects)) (h.found name));
}

params_count : (ds : List Decl) → length (map (λ (d : CDecl). d.name) (decls_of ds)) ≡ length ds
params_count ds = length-map (decls_of ds) (λ (d : CDecl). d.name) ∙ length-map ds decl_of

pub function_defines : (t1 t2 : Table) (h1 : Here) (f : Signature) (kinds : StructKinds) (a b c : Emitter) (number : ℕ) (name : List ℕ) (ds : List Decl) (t : CStmt) (s : Scope) (g : plain.Signature) (names : List (List ℕ × Option ℕ)) (count charge : ℕ) (entry : Entry)
    → BeginsFunction a b name number → CompilesBody t1 h1 f kinds b c name count t → Holds t1 h1.declared s → IsSignature t1 s f g → AreFiles a names → AreStructKinds t1 kinds s.tags → DefinitionIsFit (defined s name (decls_of ds) t g)
    → AreInSlots h1.slots (parameter_slots (map (λ d. d.name) (decls_of ds)) 0) → count ≡ length ds → entry.at ≡ length a.code → entry.params ≡ count → entry.result ≡ kind_of g.result → entry.charge ≡ told_charge charge
    → Defines a c names (defined s name (decls_of ds) t g) charge (record { function = number; entry = entry })
function_defines t1 t2 h1 f kinds a b c number name ds t s g names count charge entry begins body holds is files structs fit slots many at params result charged =
    let site : Site = record { owner = Some name; names = names } in
    let xs : List (List ℕ) = map (λ d. d.name) (decls_of ds) in
    let place : IsAtBody h1 b count site xs = record {
      slots = slots;
      many = params_count ds ∙ sym many;
      files = files_begun a b names begins.objects begins.files files;
      owner = begins.owner;
      before = begins.before;
    } in
    let emits = body s g site xs holds is place structs fit.0 fit.1 in
    record {
      adds = record {
        code = emits.code;
        behind = emits.behind ∙ ap (λ l. l ++ emits.code) begins.code;
        count = emits.count;
        meant = emits.meant;
        tables = extends_then begins.tables emits.tables;
        objects = emits.stays.objects ∙ begins.objects;
        files = emits.stays.files ∙ begins.files;
      };
      number = begins_get emits.tables.names number name begins.number;
      at = at;
      params = params ∙ (many ∙ sym (params_count ds));
      result = result;
      charged = charged;
    }
