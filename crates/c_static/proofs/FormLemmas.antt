-- First values at file scope by their forms.
use Rattle.std.proofs.Common.{◌≡◌, ℕ, true, false, List, [], ◌∷◌, ◌++◌, Option, Some, None, refl, sym, ap, subst, ◌∙◌}
use Rattle.std.specs.Prelude.{slice_get}
use Rattle.c_syntax.specs.Plain as plain
use Rattle.c_syntax.specs.Plain.{CExpr}
use Rattle.c_syntax.specs.declared.tree.UnOp.TheVariants as unary
use Rattle.c_syntax.specs.Words.{meaning}
use Rattle.c_types.specs.Types.{CType}
use Rattle.c_types.specs.Scope as scope
use Rattle.c_types.specs.Scope.{Scope, entity_of}
use Rattle.c_types.specs.Table.{Table}
use Rattle.c_scopes.specs.declared.entity.Entity.{Entity}
use Rattle.c_scopes.specs.declared.entity.Entity.TheVariants.{Object, Routine, BuiltIn, Printf}
use Rattle.c_operands.specs.declared.declarations.Declarations.{Declarations}
use Rattle.c_operands.specs.Scoped.{IsEntityOrNone}
use Rattle.c_operands.proofs.NameLemmas.{found, both_blocks}
use Rattle.c_eval.specs.State as run
use Rattle.c_eval.specs.Environment.{Environment, constant_in}
use Rattle.c_eval.specs.LiteralsIn.{literals_in}
use Rattle.c_eval.specs.Text.{static_pointer, static_named, static_value}
use Rattle.c_store.specs.declared.value.Value as rust
use Rattle.c_store.specs.Values as values
use Rattle.c_store.specs.Values.{Literal}
use Rattle.c_store.specs.Shown.{value_of}
use Rattle.c_resolved.specs.Same as same
use Rattle.c_resolved.specs.Same.{Same, IsOwner, at_file}
use Rattle.c_emitted.specs.declared.emitter.Emitter.{Emitter}
use Rattle.c_emitted.specs.declared.emitter.File.{File}
use Rattle.c_emitted.specs.Tables.{Tables, tables_in, Extends}
use Rattle.c_plain.specs.Program.{Program}
use Rattle.c_plain.specs.Operators as words
use Rattle.c_eval.specs.Operators as operators
use Rattle.c_resolved.specs.Resolved.{kind_of}
use Rattle.c_resolved.specs.Means as means
use Rattle.c_resolved.specs.Means.{file_lengths}
use Rattle.c_resolved.proofs.Meant.{conversions}
use Rattle.c_emitted.specs.Emits.{tables_of, file_named, IsFile}
use Rattle.c_emitted.proofs.TableLemmas.{begins_get, extends_then}
use Rattle.c_emitted.proofs.EmitLemmas.{file_is}
use Rattle.c_static.specs.Forms.{PlainForm, Text, Null, Name, Constant, static_form, is_object, IsQuietForm}
use Rattle.c_static.specs.File.{IsAtFile, IsWorth}

abbrev pub form_value : Environment → CExpr → PlainForm → run.Value
form_value here e (Text text) = run.Letter None here.literals_before text 0
form_value here e Null = run.Null
form_value here e (Name name) = static_named here name
form_value here e Constant = run.Word (constant_in here.scope e)

pub value_by_form : (here : Environment) (e : CExpr) → static_value here e ≡ form_value here e (static_form e)
value_by_form here (plain.Str at text) = refl
value_by_form here (plain.Null at) = refl
value_by_form here (plain.Var at name) = refl
value_by_form here (plain.Unary at unary.Address (plain.Var p name)) = refl
value_by_form here _ = refl

abbrev pub form_literals : Scope → CExpr → PlainForm → List (List ℕ)
form_literals s e (Text text) = text ∷ []
form_literals s e Null = []
form_literals s e (Name name) = []
form_literals s e Constant = literals_in s e

pub literals_by_form : (s : Scope) (e : CExpr) → literals_in s e ≡ form_literals s e (static_form e)
literals_by_form s (plain.Str at text) = refl
literals_by_form s (plain.Null at) = refl
literals_by_form s (plain.Var at name) = refl
literals_by_form s (plain.Unary at unary.Address (plain.Var p name)) = refl
literals_by_form s _ = refl

-- a constant has none
pub none_in_constant : (form : PlainForm) (ls : List (List ℕ)) → form ≡ Constant → IsQuietForm form ls → ls ≡ []
none_in_constant form ls e quiet = let P : PlainForm → Type 0 = λ f. IsQuietForm f ls in subst P e quiet

-- ---- names

named_entity : (table : Table) (d : Declarations) (out : Emitter) (here : Environment) (name : List ℕ) → IsAtFile table d out here → IsEntityOrNone table (meaning (d.names.block ++ d.names.outer) name) (entity_of here.scope name)
named_entity table d out here name at =
    found table (d.names.block ++ d.names.outer) (here.scope.block ++ here.scope.outer) name
    (both_blocks table d.names.block d.names.outer here.scope.block here.scope.outer at.holds.fits.block at.holds.fits.outer)

object_there : (table : Table) (o : Option Entity) (p : Option scope.Entity) → is_object o ≡ true → IsEntityOrNone table o p → (t : CType) × (p ≡ Some (scope.Object t))
object_there table (Some (Object n)) (Some (scope.Object t)) e h = (t, refl)
object_there table (Some (Object n)) (Some (scope.Routine t b)) e h = absurd h
object_there table (Some (Object n)) (Some (scope.BuiltIn t)) e h = absurd h
object_there table (Some (Object n)) (Some scope.Printf) e h = absurd h
object_there table (Some (Object n)) None e h = absurd h
object_there table (Some (Routine n b)) p e h = absurd cc
object_there table (Some (BuiltIn n)) p e h = absurd cc
object_there table (Some Printf) p e h = absurd cc
object_there table None p e h = absurd cc

-- a name that is no object is a function
no_object : (table : Table) (name : List ℕ) (o : Option Entity) (p : Option scope.Entity) (m : Option (Option ℕ)) → is_object o ≡ false → IsEntityOrNone table o p → static_pointer name p m ≡ run.Function name
no_object table name (Some (Object n)) p m e h = absurd cc
no_object table name o (Some (scope.Routine t b)) m e h = refl
no_object table name o (Some (scope.BuiltIn t)) m e h = refl
no_object table name o (Some scope.Printf) m e h = refl
no_object table name o None m e h = refl
no_object table name (Some (Routine n b)) (Some (scope.Object t)) m e h = absurd h
no_object table name (Some (BuiltIn n)) (Some (scope.Object t)) m e h = absurd h
no_object table name (Some Printf) (Some (scope.Object t)) m e h = absurd h
no_object table name None (Some (scope.Object t)) m e h = absurd h

nowhere : (name : List ℕ) (p : Option scope.Entity) (m : Option (Option ℕ)) → m ≡ None → static_pointer name p m ≡ run.Function name
nowhere name p m e = ap (static_pointer name p) e ∙ by p where
  by : (p : Option scope.Entity) → static_pointer name p None ≡ run.Function name
  by (Some (scope.Object t)) = refl
  by (Some (scope.Routine t b)) = refl
  by (Some (scope.BuiltIn t)) = refl
  by (Some scope.Printf) = refl
  by None = refl

pub function_named : (table : Table) (d : Declarations) (out : Emitter) (here : Environment) (name : List ℕ) → IsAtFile table d out here → is_object (meaning (d.names.block ++ d.names.outer) name) ≡ false → static_named here name ≡ run.Function name
function_named table d out here name at e = no_object table name (meaning (d.names.block ++ d.names.outer) name) (entity_of here.scope name) (meaning here.objects name) e (named_entity table d out here name at)

-- ---- what values are worth

pub worth_by : (t : Tables) (v u : run.Value) (w : rust.Value) (x : values.Value) → v ≡ u → value_of w ≡ x
    → ((names : List (List ℕ)) (p : Program) → Extends t (tables_in names p) → Same (means.tables_of names p) (file_lengths p) u x) → IsWorth t v w
worth_by t v u w x e f h = record {
  same = λ names p more.
      subst (λ (a : run.Value). Same (means.tables_of names p) (file_lengths p) a (value_of w)) (sym e)
      (subst (λ (b : values.Value). Same (means.tables_of names p) (file_lengths p) u b) (sym f) (h names p more));
}

-- the start of an object
pub start_worth : (table : Table) (d : Declarations) (out : Emitter) (here : Environment) (name : List ℕ) (f : File) (start : rust.Value) → IsAtFile table d out here
    → is_object (meaning (d.names.block ++ d.names.outer) name) ≡ true → file_named out name ≡ Some f → value_of start ≡ values.Point f.object f.length 0 → IsWorth (tables_of out) (static_named here name) start
start_worth table d out here name f start at e there is =
    let o = object_there table (meaning (d.names.block ++ d.names.outer) name) (entity_of here.scope name) e (named_entity table d out here name at) in
    let h = file_is (tables_of out).files (file_named out name) f (meaning here.objects name) (at.files.found name) there in
    let points : static_named here name ≡ run.Point f.object 0 = ap (λ (p : Option scope.Entity). static_pointer name p (meaning here.objects name)) o.1 ∙ ap (static_pointer name (Some (scope.Object o.0))) h.0 in
    worth_by (tables_of out) (static_named here name) (run.Point f.object 0) start (values.Point f.object f.length 0) points is
    (λ names p more. same.point f.object f.length 0 (begins_get more.files f.object f.length h.1))

-- a function
pub function_worth : (t : Tables) (name : List ℕ) (v : run.Value) (number : ℕ) (w : rust.Value) → v ≡ run.Function name → value_of w ≡ values.Function number → slice_get t.names number ≡ Some name → IsWorth t v w
function_worth t name v number w e is at = worth_by t v (run.Function name) w (values.Function number) e is (λ names p more. same.function number name (begins_get more.names number name at))

-- a string literal
pub letter_worth : (t : Tables) (before number owner : ℕ) (text : List ℕ) (v : run.Value) (w : rust.Value) → v ≡ run.Letter None before text 0 → value_of w ≡ values.Letter number 0
    → slice_get t.literals number ≡ Some (record { owner = owner; number = before; text = text }) → owner ≡ 0 → IsWorth t v w
letter_worth t before number owner text v w e is at none =
    let l : Literal = record { owner = owner; number = before; text = text } in
    worth_by t v (run.Letter None before text 0) w (values.Letter number 0) e is
    (λ names p more. same.letter None number l 0 (begins_get more.literals number l at) (subst (λ (n : ℕ). IsOwner names None n) (sym none) at_file))

pub null_worth : (t : Tables) (v : run.Value) (w : rust.Value) → v ≡ run.Null → value_of w ≡ values.Null → IsWorth t v w
null_worth t v w e is = worth_by t v run.Null w values.Null e is (λ names p more. same.null)

pub word_worth : (t : Tables) (n : ℕ) (v : run.Value) (w : rust.Value) → v ≡ run.Word n → value_of w ≡ values.Word n → IsWorth t v w
word_worth t n v w e is = worth_by t v (run.Word n) w (values.Word n) e is (λ names p more. same.word n)

-- a value that converts
pub converted_worth : (t : Tables) (ty : CType) (v : run.Value) (w x : rust.Value) → value_of x ≡ words.converted (kind_of ty) (value_of w) → IsWorth t v w → IsWorth t (operators.converted ty v) x
converted_worth t ty v w x e h =
    worth_by t (operators.converted ty v) (operators.converted ty v) x (words.converted (kind_of ty) (value_of w)) refl e
    (λ names p more. conversions (means.tables_of names p) (file_lengths p) ty v (value_of w) (h.same names p more))
