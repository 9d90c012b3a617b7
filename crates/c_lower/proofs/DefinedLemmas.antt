-- Functions that externals define.
use Rattle.std.proofs.Common.{◌≡◌, ℕ, Bool, true, false, ◌||◌, List, [], ◌∷◌, Option, Some, None, refl, sym, ap, subst}
use Rattle.std.specs.Prelude.{Ok, Err, IsOk}
use Rattle.std.specs.Str.{bytes_eq}
use Rattle.c_syntax.specs.Plain as plain
use Rattle.c_syntax.specs.Plain.{CTy, CDecl, CStmt, CItem}
use Rattle.c_types.specs.declared.fault.TypeFault.{TypeFault}
use Rattle.c_types.specs.Refusals.{Judged}
use Rattle.c_types.specs.Scope.{Scope, contains}
use Rattle.c_types.specs.Units.{Signature, signature}
use Rattle.c_types.specs.Table.{Table}
use Rattle.c_eval.specs.Text.{definition_in, item_definitions}
use Rattle.c_opening.specs.Named.{tag_in, tags_in, with_some, HasNumber}
use Rattle.c_lower.specs.Functions.{defined}

pub definition_is : (s : Scope) (name : List ℕ) (at : ℕ) (result : CTy) (params : List CDecl) (body : CStmt) (g : Signature) → signature s at result params ≡ Ok g → defined s name params body g ∷ [] ≡ item_definitions s (plain.Function name at result params (Some body))
definition_is s name at result params body g is = ap (λ (r : Judged Signature). definition_in s name params body r) (sym is)

pub no_definition : (s : Scope) (name : List ℕ) (at : ℕ) (result : CTy) (params : List CDecl) (body : CStmt) (e : TypeFault) → signature s at result params ≡ Err e → [] ≡ item_definitions s (plain.Function name at result params (Some body))
no_definition s name at result params body e is = ap (λ (r : Judged Signature). definition_in s name params body r) (sym is)

-- an external that is judged
pub judged_ok : (r : Judged Scope) (inner : Scope) → r ≡ Ok inner → IsOk r
judged_ok r inner e = subst (λ (j : Judged Scope). IsOk j) (sym e) refl

or_true : (b c : Bool) → c ≡ true → (b || c) ≡ true
or_true true c e = refl
or_true false c e = e

-- the tags of the others
pub others_numbered : (table : Table) (x : CItem) (rest : List CItem) → ((name : List ℕ) → contains (tags_in (x ∷ rest)) name ≡ true → HasNumber table name) → (name : List ℕ) → contains (tags_in rest) name ≡ true → HasNumber table name
others_numbered table x rest h name there = h name (by (tag_in x)) where
  by : (o : Option (List ℕ)) → contains (with_some o (tags_in rest)) name ≡ true
  by None = there
  by (Some tag) = or_true (bytes_eq name tag) (contains (tags_in rest) name) there
