-- Functions, and the externals of a whole text.
use Rattle.std.specs.Prelude.{ℕ, Bool, true, false, not, ◌&&◌, ◌||◌, List, [], ◌∷◌, ◌++◌, Option, Some, None, is_none, is_some, Ok, Err, codes}
use Rattle.std.specs.List.{list_any}
use Rattle.std.specs.Str.{bytes_eq}
use Rattle.c_syntax.specs.Plain as plain
use Rattle.c_syntax.specs.Plain.{CTy, CStmt, CStmts, CDecl, CTag, CItem, CUnit}
use Rattle.c_syntax.specs.Words.{meaning}
use Rattle.c_types.specs.declared.fault.TypeFault.TheVariants as fault
use Rattle.c_types.specs.Types.{CType, CTypes, Function, NoType, MoreType, same_type}
use Rattle.c_types.specs.Refusals.{Judged, after, both, keeping}
use Rattle.c_types.specs.Scope.{Scope, Entity, Object, Routine, BuiltIn, with_name, is_declared_here, entered, file_scope}
use Rattle.c_types.specs.Expressions.{written, parameter_type, is_result_type}
use Rattle.c_types.specs.Declarations.{declared, scope_or, tag_declared}
use Rattle.c_types.specs.Statements.{Around, stated, all_stated}

-- a parameter's type, and the scope behind it
pub record Parameter : Type 0 where
  pub ty : CType
  pub scope : Scope

-- a parameter without a name declares nothing
abbrev pub with_parameter : Scope → List ℕ → CType → Scope
with_parameter s [] t = s
with_parameter s name t = with_name s name (Object t)

-- the type of a parameter
abbrev pub declared_parameter : Scope → CDecl → Judged CType
declared_parameter s p = after (written s p.pos p.ty) (λ t. parameter_type p.pos t)

abbrev pub parameter : Scope → CDecl → Judged Parameter
parameter s p =
    after (declared_parameter s p) (λ t.
    keeping ((not (is_declared_here s p.name), fault.Twice p.pos) ∷ (is_none p.first, fault.Mismatch p.pos) ∷ []) (record { ty = t; scope = with_parameter s p.name t }))

abbrev pub parameter_scope_or : Scope → Judged Parameter → Scope
parameter_scope_or s (Ok p) = p.scope
parameter_scope_or s (Err e) = s

-- the types of parameters, and the scope behind them, which the body's outer block shares
pub record Parameters : Type 0 where
  pub types : CTypes
  pub scope : Scope

abbrev pub all_parameters : Scope → List CDecl → Judged Parameters
all_parameters s [] = Ok (record { types = NoType; scope = s })
all_parameters s (p ∷ ps) =
    let r = parameter s p in
    both r (all_parameters (parameter_scope_or s r) ps) (λ first rest. Ok (record { types = MoreType first.ty rest.types; scope = rest.scope }))

-- a function's result and parameters
pub record Signature : Type 0 where
  pub result : CType
  pub parameters : Parameters

abbrev pub type_of : Signature → CType
type_of f = Function f.result f.parameters.types

abbrev pub result_type : Scope → ℕ → CTy → Judged CType
result_type s at t = after (written s at t) (λ u. keeping ((is_result_type u, fault.Mismatch at) ∷ []) u)

abbrev pub signature : Scope → ℕ → CTy → List CDecl → Judged Signature
signature s at result params = both (result_type s at result) (all_parameters (entered s) params) (λ t ps. Ok (record { result = t; parameters = ps }))

-- a function's prototypes and its one definition agree; so does a prototype of a function that is always known
abbrev pub may_declare : Option Entity → CType → Bool → Bool
may_declare None t defines = true
may_declare (Some (Routine u begun)) t defines = same_type t u && not (begun && defines)
may_declare (Some (BuiltIn u)) t defines = same_type t u && not defines
may_declare (Some _) t defines = false

-- what its name stands for from then on
abbrev pub entity_behind : Option Entity → CType → Bool → Entity
entity_behind (Some (BuiltIn u)) t defines = BuiltIn u
entity_behind (Some (Routine u begun)) t defines = Routine t (begun || defines)
entity_behind _ t defines = Routine t defines

abbrev pub with_function : Scope → List ℕ → CType → Bool → Scope
with_function s name t defines = with_name s name (entity_behind (meaning s.block name) t defines)

-- the scope of a body: the parameters, then the names of the file, the function's own included
abbrev pub body_scope : Scope → List ℕ → Signature → Scope
body_scope s name f = record f.parameters.scope { outer = (with_function s name (type_of f) true).block ++ s.outer }

abbrev pub around_body : Signature → Around
around_body f = record { result = f.result; continues = false; breaks = false }

-- a body shares its scope with the parameters
abbrev pub body_judged : Scope → Around → Option CStmt → Judged Scope
body_judged s w None = Ok s
body_judged s w (Some (plain.Block ss)) = all_stated s w ss
body_judged s w (Some t) = stated s w t

abbrev pub declared_function : Scope → List ℕ → ℕ → Option CStmt → Signature → Judged Scope
declared_function s name at body f =
    after (body_judged (body_scope s name f) (around_body f) body) (λ _.
    keeping ((may_declare (meaning s.block name) (type_of f) (is_some body), fault.Twice at) ∷ []) (with_function s name (type_of f) (is_some body)))

-- the scope behind an external
abbrev pub item_judged : Scope → CItem → Judged Scope
item_judged s (plain.StructItem tag) = tag_declared s tag
item_judged s (plain.Object d) = declared s true d
item_judged s (plain.Function name at result params body) = after (signature s at result params) (λ f. declared_function s name at body f)

abbrev pub all_items : Scope → List CItem → Judged Scope
all_items s [] = Ok s
all_items s (item ∷ items) = let r = item_judged s item in both r (all_items (scope_or s r) items) (λ _ inner. Ok inner)

-- the functions that a text defines
abbrev pub defined_in : List CItem → List (List ℕ)
defined_in [] = []
defined_in (plain.Function name at result params (Some body) ∷ items) = name ∷ defined_in items
defined_in (item ∷ items) = defined_in items

-- the scope before a text's first external
abbrev pub start_scope : CUnit → Scope
start_scope u = file_scope (defined_in u.items)

-- a definition `int main(void)` or `int main()`
abbrev pub is_main : CItem → Bool
is_main (plain.Function name at plain.Int [] (Some body)) = bytes_eq name (codes "main")
is_main _ = false

-- the scope of a typed text's end; a refusal with a place comes before NoMain
abbrev pub unit_judged : CUnit → Judged Scope
unit_judged u = after (all_items (start_scope u) u.items) (λ s. keeping ((list_any is_main u.items, fault.NoMain u.end) ∷ []) s)
