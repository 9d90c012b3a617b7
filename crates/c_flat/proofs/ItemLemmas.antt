-- Externals, one after the other.
use Rattle.std.proofs.Common.{◌≡◌, ℕ, Bool, true, List, [], ◌∷◌, ◌++◌, ◌||◌, false, Option, Some, None, refl, sym, ap, subst, ◌∙◌, append_assoc}
use Rattle.std.specs.Prelude.{Ok, Err, IsOk, is_some}
use Rattle.std.specs.Str.{bytes_eq}
use Rattle.std.proofs.lemmas.List.{append-nil}
use Rattle.c_syntax.specs.View.{maybe_stmt}
use Rattle.c_syntax.specs.declared.tree.Stmt.{Stmt}
use Rattle.c_syntax.specs.Plain as plain
use Rattle.c_syntax.specs.Plain.{CTy, CDecl, CStmt, CItem}
use Rattle.c_types.specs.Refusals.{Judged}
use Rattle.c_types.specs.Scope.{Scope, contains}
use Rattle.c_types.specs.Declarations.{declared, scope_or}
use Rattle.c_types.specs.Units.{Signature, signature, body_scope, item_judged}
use Rattle.c_types.specs.Room.{charge_in, charge_of}
use Rattle.c_types.specs.Table.{Table}
use Rattle.c_declared.specs.Held.{Holds, HoldsSome}
use Rattle.c_here.specs.declared.here.Here.{Here}
use Rattle.c_cells.specs.declared.structs.StructKinds.{StructKinds}
use Rattle.c_cells.specs.Structs.{AreStructKinds}
use Rattle.c_cells.proofs.StructLemmas.{struct_kinds_kept}
use Rattle.c_opening.specs.Named.{tag_in, tags_in, with_some, HasNumber}
use Rattle.c_eval.specs.Meaning.{Rules}
use Rattle.c_eval.specs.Text.{Definition, definition_in, item_definitions, definitions}
use Rattle.c_emitted.specs.declared.emitter.Emitter.{Emitter}
use Rattle.c_emitted.specs.Emits.{AreFiles}
use Rattle.c_fitting.specs.Whole.{DefinitionIsFit, DefinitionsAreFit, ItemIsFit, ItemsAreFit}
use Rattle.c_linked.specs.declared.program.Compiled.{Compiled}
use Rattle.c_objects.specs.Passed.{behind_function}
use Rattle.c_objects.proofs.PassedLemmas.{ok_inner, object_passed, function_passed, function_tags}
use Rattle.c_flat.specs.Defined.{defined}
use Rattle.c_flat.specs.Walk.{IsBefore, AddsFunctions, Passes, KnowsCharge, KnowsCharges}
use Rattle.c_flat.proofs.AddLemmas.{no_functions_more, functions_then, files_kept}

-- ---- definitions whose signature is judged

pub fit_of : (s : Scope) (name : List ℕ) (at : ℕ) (result : CTy) (params : List CDecl) (body : CStmt) (g : Signature) → signature s at result params ≡ Ok g → ItemIsFit s (plain.Function name at result params (Some body)) → DefinitionIsFit (defined s name params body g)
fit_of s name at result params body g is fit = (subst (λ (r : Judged Signature). DefinitionsAreFit (definition_in s name params body r)) is fit).0

pub charge_is : (rules : Rules) (s : Scope) (name : List ℕ) (at : ℕ) (result : CTy) (params : List CDecl) (body : CStmt) (g : Signature) → signature s at result params ≡ Ok g → KnowsCharge rules s (plain.Function name at result params (Some body))
    → rules.charge name ≡ charge_of (body_scope s name g) params body
charge_is rules s name at result params body g is knows = knows ∙ ap (λ (r : Judged Signature). charge_in s name params body r) is

pub definition_is : (s : Scope) (name : List ℕ) (at : ℕ) (result : CTy) (params : List CDecl) (body : CStmt) (g : Signature) → signature s at result params ≡ Ok g → defined s name params body g ∷ [] ≡ item_definitions s (plain.Function name at result params (Some body))
definition_is s name at result params body g is = ap (λ (r : Judged Signature). definition_in s name params body r) (sym is)

pub no_definition : (s : Scope) (name : List ℕ) (at : ℕ) (result : CTy) (params : List CDecl) (body : CStmt) (e : _) → signature s at result params ≡ Err e → [] ≡ item_definitions s (plain.Function name at result params (Some body))
no_definition s name at result params body e is = ap (λ (r : Judged Signature). definition_in s name params body r) (sym is)

pub no_body : (rules : Rules) (out : Emitter) (names : List (List ℕ × Option ℕ)) (compiled : List Compiled) (s : Scope) (name : List ℕ) (at : ℕ) (result : CTy) (params : List CDecl) (body : Option Stmt) → body ≡ None
    → AddsFunctions rules out out names compiled compiled (item_definitions s (plain.Function name at result params (maybe_stmt body)))
no_body rules out names compiled s name at result params body none =
    subst (λ (o : Option Stmt). AddsFunctions rules out out names compiled compiled (item_definitions s (plain.Function name at result params (maybe_stmt o)))) (sym none) (no_functions_more rules out names compiled)

-- ---- one external

pub function_passes : (rules : Rules) (t0 t1 : Table) (h0 h1 : Here) (kinds : StructKinds) (a b : Emitter) (names : List (List ℕ × Option ℕ)) (before after : List Compiled) (s : Scope) (name : List ℕ) (at : ℕ) (result : CTy) (params : List CDecl) (body : Option CStmt)
    → t1.tags ≡ t0.tags → IsBefore t0 h0 kinds a names s → IsOk (item_judged s (plain.Function name at result params body)) → Holds t1 h1.declared (behind_function s name at result params (is_some body))
    → AddsFunctions rules a b names before after (item_definitions s (plain.Function name at result params body))
    → Passes rules t1 h1 kinds a b names before after (scope_or s (item_judged s (plain.Function name at result params body))) (item_definitions s (plain.Function name at result params body))
function_passes rules t0 t1 h0 h1 kinds a b names before after s name at result params body same is ok holds adds =
    let p = ok_inner (item_judged s (plain.Function name at result params body)) ok in
    let behind : Scope = behind_function s name at result params (is_some body) in
    let there : behind ≡ scope_or s (item_judged s (plain.Function name at result params body)) = function_passed s name at result params body p.0 p.1 in
    let structs : AreStructKinds t1 kinds behind.tags =
    struct_kinds_kept t0 t1 kinds behind.tags same (subst (AreStructKinds t0 kinds) (sym (function_tags s name at result params (is_some body))) is.structs) in
    let files : AreFiles b names = files_kept a b names adds.adds.objects adds.adds.files is.files in
    record { adds = adds; is = subst (IsBefore t1 h1 kinds b names) there (record { holds = holds; structs = structs; files = files }) }

pub other_passes : (rules : Rules) (t : Table) (h : Here) (kinds : StructKinds) (a : Emitter) (names : List (List ℕ × Option ℕ)) (compiled : List Compiled) (inner : Scope) → AreFiles a names → Holds t h.declared inner → AreStructKinds t kinds inner.tags
    → Passes rules t h kinds a a names compiled compiled inner []
other_passes rules t h kinds a names compiled inner files holds structs = record { adds = no_functions_more rules a names compiled; is = record { holds = holds; structs = structs; files = files } }

pub object_structs : (t0 t1 : Table) (kinds : StructKinds) (s : Scope) (d : CDecl) → t1.tags ≡ t0.tags → IsOk (item_judged s (plain.Object d)) → AreStructKinds t0 kinds s.tags → AreStructKinds t1 kinds (scope_or s (declared s true d)).tags
object_structs t0 t1 kinds s d same ok structs =
    let p = ok_inner (declared s true d) ok in
    let o = object_passed s p.0 d p.1 in
    let tags : (scope_or s (declared s true d)).tags ≡ s.tags = ap (λ (r : Judged Scope). (scope_or s r).tags) p.1 ∙ ap (λ (r : Scope). r.tags) o.is in
    struct_kinds_kept t0 t1 kinds (scope_or s (declared s true d)).tags same (subst (AreStructKinds t0 kinds) (sym tags) structs)

-- ---- all externals

-- the externals so far, and those that are left
pub record SoFar (rules : Rules) (now : Table) (e : Here) (structs : StructKinds) (a out : Emitter) (names : List (List ℕ × Option ℕ)) (before after : List Compiled) (s : Scope) (left all : List CItem) : Type 0 where
  pub inner : Scope
  pub done : List Definition
  pub adds : AddsFunctions rules a out names before after done
  pub is : IsBefore now e structs out names inner
  pub fit : ItemsAreFit inner left
  pub knows : KnowsCharges rules inner left
  pub whole : definitions s all ≡ done ++ definitions inner left

pub record Going (t0 now : Table) (h e : Here) (kinds structs : StructKinds) (a out : Emitter) (before after : List Compiled) (left all : List CItem) : Type 0 where
  pub some : HoldsSome now e.declared
  pub tags : now.tags ≡ t0.tags
  pub numbered : (name : List ℕ) → contains (tags_in left) name ≡ true → HasNumber t0 name
  pub so_far : (rules : Rules) (s : Scope) (names : List (List ℕ × Option ℕ)) → IsBefore t0 h kinds a names s → ItemsAreFit s all → KnowsCharges rules s all → SoFar rules now e structs a out names before after s left all

pub begun : (t0 : Table) (h : Here) (kinds : StructKinds) (a : Emitter) (before : List Compiled) (all : List CItem) → HoldsSome t0 h.declared → ((name : List ℕ) → contains (tags_in all) name ≡ true → HasNumber t0 name) → Going t0 t0 h h kinds kinds a a before before all all
begun t0 h kinds a before all some numbered = record {
  some = some;
  tags = refl;
  numbered = numbered;
  so_far = λ rules s names is fit knows. record {
    inner = s;
    done = [];
    adds = no_functions_more rules a names before;
    is = is;
    fit = fit;
    knows = knows;
    whole = refl;
  };
}

or_true : (b c : Bool) → c ≡ true → (b || c) ≡ true
or_true true c e = refl
or_true false c e = e

-- the tags of the others
others_numbered : (table : Table) (x : CItem) (rest : List CItem) → ((name : List ℕ) → contains (tags_in (x ∷ rest)) name ≡ true → HasNumber table name) → (name : List ℕ) → contains (tags_in rest) name ≡ true → HasNumber table name
others_numbered table x rest h name there = h name (by (tag_in x)) where
  by : (o : Option (List ℕ)) → contains (with_some o (tags_in rest)) name ≡ true
  by None = there
  by (Some tag) = or_true (bytes_eq name tag) (contains (tags_in rest) name) there

-- an external more
pub goes_on : (t0 t1 t2 : Table) (h e g : Here) (kinds structs more_structs : StructKinds) (a b c : Emitter) (before mid after : List Compiled) (x : CItem) (left rest all : List CItem) → Going t0 t1 h e kinds structs a b before mid left all → left ≡ x ∷ rest
    → HoldsSome t2 g.declared → t2.tags ≡ t1.tags
    → ((rules : Rules) (s : Scope) (names : List (List ℕ × Option ℕ)) → IsBefore t1 e structs b names s → IsOk (item_judged s x) → ItemIsFit s x → KnowsCharge rules s x
    → Passes rules t2 g more_structs b c names mid after (scope_or s (item_judged s x)) (item_definitions s x))
    → Going t0 t2 h g kinds more_structs a c before after rest all
goes_on t0 t1 t2 h e g kinds structs more_structs a b c before mid after x left rest all k next some tags passes = record {
  some = some;
  tags = tags ∙ k.tags;
  numbered = others_numbered t0 x rest (subst (λ (l : List CItem). (name : List ℕ) → contains (tags_in l) name ≡ true → HasNumber t0 name) next k.numbered);
  so_far = λ rules s names is fit knows.
      let f = k.so_far rules s names is fit knows in
      let fits : ItemsAreFit f.inner (x ∷ rest) = subst (λ (l : List CItem). ItemsAreFit f.inner l) next f.fit in
      let charges : KnowsCharges rules f.inner (x ∷ rest) = subst (λ (l : List CItem). KnowsCharges rules f.inner l) next f.knows in
      let m = passes rules f.inner names f.is fits.0 fits.1 charges.0 in
      let inner : Scope = scope_or f.inner (item_judged f.inner x) in
      record {
        inner = inner;
        done = f.done ++ item_definitions f.inner x;
        adds = functions_then rules a b c names before mid after f.done (item_definitions f.inner x) f.adds m.adds;
        is = m.is;
        fit = fits.2;
        knows = charges.1;
        whole = f.whole ∙ (ap (λ (l : List CItem). f.done ++ definitions f.inner l) next ∙ sym (append_assoc f.done (item_definitions f.inner x) (definitions inner rest)));
      };
}

-- all are passed
pub done : (t0 t1 : Table) (h e : Here) (kinds structs : StructKinds) (a b : Emitter) (before after : List Compiled) (left all : List CItem) (rules : Rules) (s : Scope) (names : List (List ℕ × Option ℕ)) → Going t0 t1 h e kinds structs a b before after left all → left ≡ []
    → IsBefore t0 h kinds a names s → ItemsAreFit s all → KnowsCharges rules s all → AddsFunctions rules a b names before after (definitions s all)
done t0 t1 h e kinds structs a b before after left all rules s names k none is fit knows =
    let f = k.so_far rules s names is fit knows in
    let whole : f.done ≡ definitions s all = sym (f.whole ∙ (ap (λ (l : List CItem). f.done ++ definitions f.inner l) none ∙ append-nil f.done)) in
    subst (λ (fs : List Definition). AddsFunctions rules a b names before after fs) whole f.adds
