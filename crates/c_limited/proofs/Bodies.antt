-- The bodies of a typed text's functions are within the limits.
use Rattle.std.proofs.Common.{◌≡◌, ℕ, List, [], ◌∷◌, ◌++◌, Option, Some, None, Bool, true, false, refl, subst, cond}
use Rattle.std.specs.Prelude.{not, Ok, Err}
use Rattle.std.specs.Option.{option_map_or}
use Rattle.std.specs.Str.{bytes_eq}
use Rattle.c_syntax.specs.Plain as plain
use Rattle.c_syntax.specs.Plain.{CDecl, CStmt, CStmts, CItem}
use Rattle.c_syntax.specs.Words.{meaning}
use Rattle.c_types.specs.declared.fault.TypeFault.{TypeFault}
use Rattle.c_types.specs.declared.fault.TypeFault.TheVariants as fault
use Rattle.c_types.specs.Types.{CType}
use Rattle.c_types.specs.Refusals.{Judged, Rule, after, broken, keeping}
use Rattle.c_types.specs.Scope.{Scope, Entity, Object, with_name, is_declared_here, entered}
use Rattle.c_types.specs.Declarations.{first_fitting, declared_type, declared_object, scope_or}
use Rattle.c_types.specs.Statements.{Around, stated, all_stated}
use Rattle.c_types.specs.Units.{Signature, signature, body_scope, around_body, body_judged, declared_function, item_judged, all_items}
use Rattle.c_types.specs.Census.{scope_behind, body_sum, maybe_body_sum, items_sum}
use Rattle.c_eval.specs.Text.{Definition, definition_in, definitions}
use Rattle.c_valid.specs.Limited.{StmtIsLimited, StmtsAreLimited}
use Rattle.c_valid.specs.Laws.{FunctionsAreLimited}
use Rattle.c_limited.proofs.Good.{Fine, after_fine, both_fine, stated_scope}
use Rattle.c_limited.proofs.Moved.{Beside, declared_beside, fresh_name, stmt_moved}
use Rattle.c_limited.proofs.Sums.{weight, wide, strange, Within, front, last, stmt_limited, stmts_limited}

-- ---- behind a statement

-- what is undeclared behind a declaration was so before
undeclared_before : (s : Scope) (d : CDecl) (name : List ℕ) → is_declared_here (scope_behind s (plain.Local d)) name ≡ false → is_declared_here s name ≡ false
undeclared_before s d name e = of_type (declared_type s d) e
  where
    by_name : (t : Bool) (x : Entity) (o : Option Entity) → option_map_or (λ _. true) (cond t (Some x) o) false ≡ false → option_map_or (λ _. true) o false ≡ false
    by_name true x o e = absurd (cc e)
    by_name false x o e = e

    of_rule : (o : Option TypeFault) (x : Entity) → is_declared_here (scope_or s (option_map_or (λ e. Err e) o (Ok (with_name s d.name x)))) name ≡ false → is_declared_here s name ≡ false
    of_rule None x e = by_name (bytes_eq name d.name) x (meaning s.block name) e
    of_rule (Some f) x e = e

    of_first : (r : Judged (Unit {0})) (rules : List Rule) (x : Entity) → is_declared_here (scope_or s (after r (λ _. keeping rules (with_name s d.name x)))) name ≡ false → is_declared_here s name ≡ false
    of_first (Ok u) rules x e = of_rule (broken rules) x e
    of_first (Err f) rules x e = e

    of_type : (r : Judged CType) → is_declared_here (scope_or s (after r (λ t. declared_object s false d t))) name ≡ false → is_declared_here s name ≡ false
    of_type (Ok t) e = of_first (first_fitting (with_name s d.name (Object t)) (record { file = false; pos = d.pos }) t d.first) ((not (is_declared_here s d.name), fault.Twice d.pos) ∷ []) (Object t) e
    of_type (Err f) e = e

behind_beside : (s s' : Scope) (w : Around) (t : CStmt) → Beside s s s' → Fine (stated s w t) → Beside (scope_behind s t) (scope_behind s t) (scope_behind s' t)
behind_beside s s' w (plain.Local d) b g =
    let c = declared_beside s s s' d b (fresh_name s d g.good) in record { tags = c.tags; names = c.names; defined = c.defined; here = λ name e. c.here name (undeclared_before s d name e) }
behind_beside s s' w t b g = b

all_moved : (s s' : Scope) (w : Around) (ss : CStmts) → Beside s s s' → Fine (all_stated s w ss) → StmtsAreLimited s ss → StmtsAreLimited s' ss
all_moved s s' w plain.NoStmt b g l = tt
all_moved s s' w (plain.MoreStmt t ts) b g l =
    let h = both_fine (stated s w t) (all_stated (scope_or s (stated s w t)) w ts) (λ _ inner. Ok inner) g in
    (stmt_moved s s s' w t b h.0 l.0, all_moved (scope_behind s t) (scope_behind s' t) w ts (behind_beside s s' w t b h.0) (subst (λ z. Fine (all_stated z w ts)) (stated_scope s w t).same h.1) l.1)

-- ---- functions

body_limited : (s : Scope) (w : Around) (body : CStmt) → Fine (body_judged s w (Some body)) → Within (body_sum weight s body) (body_sum wide s body) (body_sum strange s body) → StmtIsLimited s body
body_limited s w (plain.Block ss) g h = all_moved s (entered s) w ss (record { tags = refl; names = refl; defined = refl; here = λ name e. e }) g (stmts_limited s ss (last _ _ _ h))
body_limited s w t g h = stmt_limited s t h

function_limited : (s : Scope) (name : List ℕ) (at : ℕ) (params : List CDecl) (body : CStmt) (r : Judged Signature) → Fine (after r (λ f. declared_function s name at (Some body) f))
    → Within (maybe_body_sum weight s name (Some body) r) (maybe_body_sum wide s name (Some body) r) (maybe_body_sum strange s name (Some body) r) → (rest : List Definition) → FunctionsAreLimited rest → FunctionsAreLimited (definition_in s name params body r ++ rest)
function_limited s name at params body (Ok f) g h rest l =
    (body_limited (body_scope s name f) (around_body f) body (after_fine (body_judged (body_scope s name f) (around_body f) (Some body)) _ g) h, l)
function_limited s name at params body (Err e) g h rest l = absurd g.good

pub functions_limited : (s : Scope) (items : List CItem) → Fine (all_items s items) → Within (items_sum weight s items) (items_sum wide s items) (items_sum strange s items) → FunctionsAreLimited (definitions s items)
functions_limited s [] g h = tt
functions_limited s (plain.StructItem tag ∷ items) g h =
    let k = both_fine (item_judged s (plain.StructItem tag)) (all_items (scope_or s (item_judged s (plain.StructItem tag))) items) (λ _ inner. Ok inner) g in
    functions_limited (scope_or s (item_judged s (plain.StructItem tag))) items k.1 (last _ _ _ h)
functions_limited s (plain.Object d ∷ items) g h =
    let k = both_fine (item_judged s (plain.Object d)) (all_items (scope_or s (item_judged s (plain.Object d))) items) (λ _ inner. Ok inner) g in
    functions_limited (scope_or s (item_judged s (plain.Object d))) items k.1 (last _ _ _ h)
functions_limited s (plain.Function name at result params None ∷ items) g h =
    let item : CItem = plain.Function name at result params None in
    let k = both_fine (item_judged s item) (all_items (scope_or s (item_judged s item)) items) (λ _ inner. Ok inner) g in
    functions_limited (scope_or s (item_judged s item)) items k.1 (last _ _ _ h)
functions_limited s (plain.Function name at result params (Some body) ∷ items) g h =
    let item : CItem = plain.Function name at result params (Some body) in
    let k = both_fine (item_judged s item) (all_items (scope_or s (item_judged s item)) items) (λ _ inner. Ok inner) g in
    function_limited s name at params body (signature s at result params) k.0 (last _ _ _ (front _ _ _ h)) (definitions (scope_or s (item_judged s item)) items) (functions_limited (scope_or s (item_judged s item)) items k.1 (last _ _ _ h))
