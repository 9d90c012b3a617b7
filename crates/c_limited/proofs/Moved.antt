-- What a body's trees are in the block of its function, which begins without the parameters.
use Rattle.std.proofs.Common.{◌≡◌, ℕ, ◌<◌, List, [], ◌∷◌, ◌++◌, Option, Some, None, Bool, true, false, refl, ap, ◌∙◌, subst, cond}
use Rattle.std.specs.Prelude.{not, Ok, Err}
use Rattle.std.specs.Option.{option_map_or}
use Rattle.std.specs.Str.{bytes_eq}
use Rattle.c_syntax.specs.Plain as plain
use Rattle.c_syntax.specs.Plain.{CExpr, CExprs, CTy, CTys, CValue, CValues, CDecl, CStmt, CStmts, CPart, CParts}
use Rattle.c_syntax.specs.Words.{meaning}
use Rattle.c_types.specs.declared.fault.TypeFault.{TypeFault}
use Rattle.c_types.specs.declared.fault.TypeFault.TheVariants as fault
use Rattle.c_types.specs.Types.{CType, words_of, is_object_type}
use Rattle.c_types.specs.Refusals.{Judged, Rule, after, both, broken, keeping}
use Rattle.c_types.specs.Scope.{Scope, Entity, Object, contains, with_name, is_declared_here, entered}
use Rattle.c_types.specs.Declarations.{Site, Slots, first_slot, next_slots, slots_of, object_rules, site_rules, braces_rules, fitting, all_fitting, first_fitting, completed, declared_type, declared_object, declared, scope_or}
use Rattle.c_types.specs.Statements.{Around, in_loop, stated}
use Rattle.c_types.specs.Census.{scope_behind, scope_behind_all}
use Rattle.c_eval.specs.Environment.{type_or_void}
use Rattle.c_valid.specs.Valid.{most_cells}
use Rattle.c_valid.specs.Limited.{StmtIsLimited, StmtsAreLimited, PartsAreLimited}
use Rattle.c_alike.specs.Alike.{NameIsAlike, EachName, EachNameOf, EachNameIn, EachNameInAll}
use Rattle.c_alike.proofs.Judged.{judged_alike, written_alike}
use Rattle.c_limited.proofs.Good.{Good, Fine, both_fine, three_fine}

-- what holds of all names holds of each name of a tree
module _ (P : List ℕ → Type 0) (all : (name : List ℕ) → P name) where
  mutual
    every : (e : CExpr) → EachName P e
    every (plain.Number at n unsigned) = tt
    every (plain.Str at text) = tt
    every (plain.Null at) = tt
    every (plain.Var at name) = all name
    every (plain.Unary at op x) = every x
    every (plain.Step at op x) = every x
    every (plain.Binary at op x y) = (every x, every y)
    every (plain.Assign at op x y) = (every x, every y)
    every (plain.Cond at x y z) = (every x, every y, every z)
    every (plain.Comma at x y) = (every x, every y)
    every (plain.Cast at t x) = (every_in t, every x)
    every (plain.SizeTy at t) = every_in t
    every (plain.SizeOf at x) = every x
    every (plain.Index at x y) = (every x, every y)
    every (plain.Call at g es) = (every g, every_of es)
    every (plain.Member at x m) = every x
    every (plain.Arrow at x m) = every x

    every_of : (es : CExprs) → EachNameOf P es
    every_of plain.NoExpr = tt
    every_of (plain.MoreExpr e es) = (every e, every_of es)

    every_in : (t : CTy) → EachNameIn P t
    every_in plain.Void = tt
    every_in plain.Int = tt
    every_in plain.Unsigned = tt
    every_in plain.Char = tt
    every_in plain.UChar = tt
    every_in (plain.Struct name) = tt
    every_in (plain.Pointer t) = every_in t
    every_in (plain.Array t) = every_in t
    every_in (plain.ArrayOf t n) = (every_in t, every n)
    every_in (plain.Func t ts) = (every_in t, every_in_all ts)

    every_in_all : (ts : CTys) → EachNameInAll P ts
    every_in_all plain.NoTy = tt
    every_in_all (plain.MoreTy t ts) = (every_in t, every_in_all ts)

-- two scopes with the same names, tags and functions; a name that a third doesn't declare in its block is declared in the blocks of both or of none
pub record Beside (root s s' : Scope) : Type 0 where
  pub tags : s.tags ≡ s'.tags
  pub names : s.block ++ s.outer ≡ s'.block ++ s'.outer
  pub defined : s.defined ≡ s'.defined
  pub here : (name : List ℕ) → is_declared_here root name ≡ false → is_declared_here s name ≡ is_declared_here s' name

entered_same : (root s s' : Scope) → Beside root s s' → entered s ≡ entered s'
entered_same root s s' b = λ i. record { tags = b.tags i; block = []; outer = b.names i; defined = b.defined i }

module _ (root s s' : Scope) (b : Beside root s s') where
  alike : (name : List ℕ) → NameIsAlike s s' name
  alike name = record { entity = ap (λ names. meaning names name) b.names; defined = ap (λ d. contains d name) b.defined }

  mutual
    fitting_same : (site : Site) (t : Option CType) (v : CValue) → fitting s site t v ≡ fitting s' site t v
    fitting_same site t (plain.One e) = ap (λ r. after r (λ x. keeping (object_rules t e x ++ site_rules site.file e x) tt)) (judged_alike s s' e b.tags (every (NameIsAlike s s') alike e))
    fitting_same site t (plain.Many vs) =
        let e = all_fitting_same site (slots_of s.tags t) vs in
        ap (λ r. after r (λ _. keeping (braces_rules site.pos (slots_of s.tags t) vs) tt)) e ∙ ap (λ tags. after (all_fitting s' site (slots_of tags t) vs) (λ _. keeping (braces_rules site.pos (slots_of tags t) vs) tt)) b.tags

    all_fitting_same : (site : Site) (slots : Slots) (vs : CValues) → all_fitting s site slots vs ≡ all_fitting s' site slots vs
    all_fitting_same site slots plain.NoValue = refl
    all_fitting_same site slots (plain.MoreValue v vs) = let e = fitting_same site (first_slot slots) v in let f = all_fitting_same site (next_slots slots) vs in λ i. both (e i) (f i) (λ _ _. Ok tt)

  first_same : (site : Site) (t : CType) (v : Option CValue) → first_fitting s site t v ≡ first_fitting s' site t v
  first_same site t None = refl
  first_same site t (Some v) = fitting_same site (Some t) v

  type_same : (d : CDecl) → declared_type s d ≡ declared_type s' d
  type_same d =
      let e = written_alike s s' d.pos d.ty b.tags (every_in (NameIsAlike s s') alike d.ty) in
      λ i. after (e i) (λ t. keeping ((is_object_type (b.tags i) (completed t d.first), fault.Mismatch d.pos) ∷ []) (completed t d.first))

-- ---- declarations

with_name_beside : (root s s' : Scope) (name : List ℕ) (x : Entity) → Beside root s s' → Beside root (with_name s name x) (with_name s' name x)
with_name_beside root s s' name x b = record {
  tags = b.tags;
  names = ap (λ names. (name, x) ∷ names) b.names;
  defined = b.defined;
  here = λ other e. by_name (bytes_eq other name) (meaning s.block other) (meaning s'.block other) (b.here other e);
}
  where
    by_name : (t : Bool) (o o' : Option Entity) → option_map_or (λ _. true) o false ≡ option_map_or (λ _. true) o' false → option_map_or (λ _. true) (cond t (Some x) o) false ≡ option_map_or (λ _. true) (cond t (Some x) o') false
    by_name true o o' e = refl
    by_name false o o' e = e

by_rule : (root s s' inner inner' : Scope) (o : Option TypeFault) → Beside root s s' → Beside root inner inner' → Beside root (scope_or s (option_map_or (λ e. Err e) o (Ok inner))) (scope_or s' (option_map_or (λ e. Err e) o (Ok inner')))
by_rule root s s' inner inner' None a b = b
by_rule root s s' inner inner' (Some e) a b = a

by_first : (root s s' inner inner' : Scope) (r : Judged (Unit {0})) (rules : List Rule) → Beside root s s' → Beside root inner inner' → Beside root (scope_or s (after r (λ _. keeping rules inner))) (scope_or s' (after r (λ _. keeping rules inner')))
by_first root s s' inner inner' (Ok u) rules a b = by_rule root s s' inner inner' (broken rules) a b
by_first root s s' inner inner' (Err e) rules a b = a

module _ (root s s' : Scope) (d : CDecl) (b : Beside root s s') (fresh : is_declared_here root d.name ≡ false) where
  object_beside : (t : CType) → Beside root (scope_or s (declared_object s false d t)) (scope_or s' (declared_object s' false d t))
  object_beside t =
      let inner : Scope = with_name s d.name (Object t) in
      let inner' : Scope = with_name s' d.name (Object t) in
      let site : Site = record { file = false; pos = d.pos } in
      let c : Beside root inner inner' = with_name_beside root s s' d.name (Object t) b in
      subst (λ r. Beside root (scope_or s (declared_object s false d t)) (scope_or s' (after r (λ _. keeping ((not (is_declared_here s' d.name), fault.Twice d.pos) ∷ []) inner')))) (first_same root inner inner' c site t d.first)
      (subst (λ h. Beside root (scope_or s (declared_object s false d t)) (scope_or s' (after (first_fitting inner site t d.first) (λ _. keeping ((not h, fault.Twice d.pos) ∷ []) inner')))) (b.here d.name fresh)
      (by_first root s s' inner inner' (first_fitting inner site t d.first) ((not (is_declared_here s d.name), fault.Twice d.pos) ∷ []) b c))

  by_type : (r : Judged CType) → Beside root (scope_or s (after r (λ t. declared_object s false d t))) (scope_or s' (after r (λ t. declared_object s' false d t)))
  by_type (Ok t) = object_beside t
  by_type (Err e) = b

  pub declared_beside : Beside root (scope_behind s (plain.Local d)) (scope_behind s' (plain.Local d))
  declared_beside = subst (λ r. Beside root (scope_or s (declared s false d)) (scope_or s' (after r (λ t. declared_object s' false d t)))) (type_same root s s' b d) (by_type (declared_type s d))

-- a declaration that isn't refused has a name that its block didn't declare
pub fresh_name : (s : Scope) (d : CDecl) → Good (declared s false d) → is_declared_here s d.name ≡ false
fresh_name s d g = of_type (declared_type s d) g
  where
    of_rule : (h : Bool) (inner : Scope) → Good (keeping ((not h, fault.Twice d.pos) ∷ []) inner) → h ≡ false
    of_rule true inner g = absurd g
    of_rule false inner g = refl

    of_first : (r : Judged (Unit {0})) (h : Bool) (inner : Scope) → Good (after r (λ _. keeping ((not h, fault.Twice d.pos) ∷ []) inner)) → h ≡ false
    of_first (Ok u) h inner g = of_rule h inner g
    of_first (Err e) h inner g = absurd g

    of_type : (r : Judged CType) → Good (after r (λ t. declared_object s false d t)) → is_declared_here s d.name ≡ false
    of_type (Ok t) g = of_first (first_fitting (with_name s d.name (Object t)) (record { file = false; pos = d.pos }) t d.first) (is_declared_here s d.name) (with_name s d.name (Object t)) g
    of_type (Err e) g = absurd g

-- ---- statements

head_moved : (root s s' : Scope) (w : Around) (first : CStmt) (test step : Option CExpr) (t : CStmt) → Beside root s s' → Fine (stated root w (plain.For first test step t)) → StmtIsLimited s (plain.For first test step t)
    → ((u : Around) → Fine (stated root u first) → StmtIsLimited s first → StmtIsLimited s' first) → ((u : Around) (z z' : Scope) → Beside root z z' → Fine (stated root u t) → StmtIsLimited z t → StmtIsLimited z' t) → StmtIsLimited s' (plain.For first test step t)
head_moved root s s' w (plain.Block ss) test step t b g l head body =
    (subst (λ z. StmtsAreLimited z ss) (entered_same root s s' b) l.0, l.1, l.2, subst (λ z. StmtIsLimited (scope_behind_all z ss) t) (entered_same root s s' b) l.3)
head_moved root s s' w (plain.Local d) test step t b g l head body =
    let h = three_fine _ _ _ _ g in
    (head w h.0 l.0, l.1, l.2, body (in_loop w) _ _ (declared_beside root s s' d b (fresh_name root d h.0.good)) h.2 l.3)
head_moved root s s' w first test step t b g l head body = let h = three_fine _ _ _ _ g in (head w h.0 l.0, l.1, l.2, body (in_loop w) s s' b h.2 l.3)

pub stmt_moved : (root s s' : Scope) (w : Around) (t : CStmt) → Beside root s s' → Fine (stated root w t) → StmtIsLimited s t → StmtIsLimited s' t
stmt_moved root s s' w (plain.Block ss) b g l = subst (λ z. StmtsAreLimited z ss) (entered_same root s s' b) l
stmt_moved root s s' w (plain.Local d) b g l = (subst (λ n. n < most_cells) (λ i. words_of (b.tags i) (type_or_void (type_same root s s' b d i))) l.0, l.1)
stmt_moved root s s' w (plain.Do_expr e) b g l = l
stmt_moved root s s' w plain.Empty b g l = l
stmt_moved root s s' w (plain.If e t) b g l = (l.0, stmt_moved root s s' w t b (both_fine _ _ _ g).1 l.1)
stmt_moved root s s' w (plain.IfElse e t u) b g l = let h = three_fine _ _ _ _ g in (l.0, stmt_moved root s s' w t b h.1 l.1, stmt_moved root s s' w u b h.2 l.2)
stmt_moved root s s' w (plain.While e t) b g l = (l.0, stmt_moved root s s' (in_loop w) t b (both_fine _ _ _ g).1 l.1)
stmt_moved root s s' w (plain.Do t e) b g l = (stmt_moved root s s' (in_loop w) t b (both_fine _ _ _ g).1 l.0, l.1)
stmt_moved root s s' w (plain.For first test step t) b g l =
    head_moved root s s' w first test step t b g l (λ u h k. stmt_moved root s s' u first b h k) (λ u z z' c h k. stmt_moved root z z' u t c h k)
stmt_moved root s s' w (plain.Return at e) b g l = l
stmt_moved root s s' w (plain.Break at) b g l = l
stmt_moved root s s' w (plain.Continue at) b g l = l
stmt_moved root s s' w (plain.Switch e ps) b g l = (l.0, subst (λ z. PartsAreLimited z ps) (entered_same root s s' b) l.1)
