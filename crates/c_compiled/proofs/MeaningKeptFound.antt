-- The functions of a program and of the one with fewer operators, by name.
use Rattle.std.proofs.Common.{◌≡◌, ℕ, List, [], ◌∷◌, ◌++◌, Option, Some, None, Bool, true, false, refl, sym, ap, ◌∙◌, subst, cond}
use Rattle.std.specs.Prelude.{◌||◌, map, Ok, Err}
use Rattle.std.specs.List.{find}
use Rattle.std.specs.Str.{bytes_eq}
use Rattle.std.proofs.lemmas.Slice.Eq.{bytes_eq-Decides}
use Rattle.c_syntax.specs.Plain as plain
use Rattle.c_syntax.specs.Plain.{CDecl, CStmt, CItem}
use Rattle.c_types.specs.Refusals.{Judged}
use Rattle.c_types.specs.Scope.{Scope, contains}
use Rattle.c_types.specs.Declarations.{scope_or}
use Rattle.c_types.specs.Units.{Signature, signature, body_scope, item_judged, defined_in}
use Rattle.c_eval.specs.Text.{Definition, definition_in, definitions}
use Rattle.c_valid.specs.Limited.{StmtIsLimited}
use Rattle.c_valid.specs.Laws.{FunctionsAreLimited}
use Rattle.c_helpers.specs.Names.{stmt_names}
use Rattle.c_worlds.specs.Named.{Each}
use Rattle.c_fewer_meaning.specs.FewerStatementsOrdinary.{StmtIsOrdinary}
use Rattle.c_fewer_items.specs.Kept.{DefinitionStands, FrontStands, FunctionsStand, MaybeDefinitionStands}
use Rattle.c_fewer_calls.specs.Standing.{MaybeStands}
use Rattle.c_fewer_items.proofs.Statements.{definitions_stay_limited}
use Rattle.c_fewer_items.specs.SmallElementsLaws.{BodiesAreOrdinary}
use Rattle.c_fewer_names.specs.Names.{BodiesReach}

abbrev pub is_named : List ℕ → Definition → Bool
is_named name f = bytes_eq name f.name

-- a function that a text doesn't define isn't found in it
pub missing : (items : List CItem) (s : Scope) (name : List ℕ) → contains (defined_in items) name ≡ false → find (is_named name) (definitions s items) ≡ None
missing [] s name e = refl
missing (plain.StructItem tag ∷ items) s name e = missing items (scope_or s (item_judged s (plain.StructItem tag))) name e
missing (plain.Object d ∷ items) s name e = missing items (scope_or s (item_judged s (plain.Object d))) name e
missing (plain.Function n at result params None ∷ items) s name e = missing items (scope_or s (item_judged s (plain.Function n at result params None))) name e
missing (plain.Function n at result params (Some body) ∷ items) s name e =
    go (bytes_eq name n) refl e (signature s at result params) (definitions (scope_or s (item_judged s (plain.Function n at result params (Some body)))) items) (λ k. missing items (scope_or s (item_judged s (plain.Function n at result params (Some body)))) name k)
  where
    go : (b : Bool) → bytes_eq name n ≡ b → (b || contains (defined_in items) name) ≡ false → (q : Judged Signature) (rest : List Definition) → (contains (defined_in items) name ≡ false → find (is_named name) rest ≡ None) → find (is_named name) (definition_in s n params body q ++ rest) ≡ None
    go true k e q rest more = absurd (cc e)
    go false k e (Ok f) rest more = ap (λ b. cond b (Some (record { name = n; result = f.result; params = map (λ (d : CDecl). d.name) params; scope = body_scope s n f; body = body })) (find (is_named name) rest)) k ∙ more e
    go false k e (Err f) rest more = more e

-- ---- what holds of a function that is found

module _ (kept : List (List ℕ)) (R : List ℕ → Type 0) where
  abbrev Facts : Option Definition → Type 0
  Facts None = Unit {0}
  Facts (Some f) = StmtIsLimited f.scope f.body × StmtIsOrdinary f.scope f.body × Each R (stmt_names f.body)

  pub facts_of : (fs : List Definition) → FunctionsAreLimited fs → BodiesAreOrdinary fs → BodiesReach kept R fs → (name : List ℕ) → contains kept name ≡ true → Facts (find (is_named name) fs)
  facts_of [] l o r name k = tt
  facts_of (f ∷ fs) l o r name k = go (bytes_eq name f.name) refl (facts_of fs l.1 o.1 r.1 name k)
    where
      go : (b : Bool) → bytes_eq name f.name ≡ b → Facts (find (is_named name) fs) → Facts (cond b (Some f) (find (is_named name) fs))
      go true e more = (l.0, o.0, r.0 (ap (λ z. contains kept z) (sym ((bytes_eq-Decides name f.name).0 e)) ∙ k))
      go false e more = more

module _ (test : List ℕ → Bool) (reached : List ℕ → Bool) (kept : List (List ℕ)) where
  pub function_stands : (o p : Option Definition) → MaybeDefinitionStands test o p → Facts kept (λ name. reached name ≡ true) o → MaybeStands test reached o p
  function_stands None None d f = tt
  function_stands (Some x) (Some y) d f = record {
    scope = d.scope;
    is = d.is;
    stand = d.stand;
    short = d.short;
    limited = f.0;
    ordinary = f.1;
    names = d.passes;
    around = d.around;
    behind = d.behind;
    typed = d.typed;
    reaches = f.2;
  }
  function_stands None (Some y) d f = absurd d
  function_stands (Some x) None d f = absurd d

-- ---- limits

pub both_limited : (fs gs : List Definition) → FunctionsAreLimited fs → FunctionsAreLimited gs → FunctionsAreLimited (fs ++ gs)
both_limited [] gs h k = k
both_limited (f ∷ fs) gs h k = (h.0, both_limited fs gs h.1 k)

pub stay_limited : (test : List ℕ → Bool) (names : List (List ℕ)) (fs gs : List Definition) → FunctionsStand test names fs gs → FunctionsAreLimited fs → FunctionsAreLimited gs
stay_limited test names [] gs h l = subst (λ z. FunctionsAreLimited z) (sym h) tt
stay_limited test names (f ∷ fs) gs h l = go (contains names f.name) h.1 (stay_limited test names fs h.0 h.2 l.1)
  where
    go : (b : Bool) → FrontStands test b f gs h.0 → FunctionsAreLimited h.0 → FunctionsAreLimited gs
    go true d more = subst (λ z. FunctionsAreLimited z) (sym d.1) (definitions_stay_limited test f d.0 d.2 l.0, more)
    go false d more = subst (λ z. FunctionsAreLimited z) (sym d) more
