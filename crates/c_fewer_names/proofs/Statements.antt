-- Names of statements with fewer operators.
use Rattle.std.proofs.Common.{◌≡◌, ℕ, List, [], ◌∷◌, ◌++◌, Option, Some, None, Bool, true, false, refl, cond}
use Rattle.std.specs.Prelude.{not, Ok, Err}
use Rattle.std.specs.Option.{option_map, option_map_or}
use Rattle.std.specs.Str.{bytes_eq}
use Rattle.c_syntax.specs.Plain as plain
use Rattle.c_syntax.specs.Plain.{CExpr, CValue, CValues, CDecl, CStmt, CStmts, CPart, CParts}
use Rattle.c_types.specs.declared.fault.TypeFault.{TypeFault}
use Rattle.c_types.specs.declared.fault.TypeFault.TheVariants as fault
use Rattle.c_types.specs.Types.{CType}
use Rattle.c_types.specs.Refusals.{Judged, Rule, after, broken, keeping}
use Rattle.c_types.specs.Scope.{Scope, Object, BuiltIn, Printf, entity_of, entered, with_name, is_declared_here}
use Rattle.c_types.specs.Declarations.{first_fitting, declared_type, declared_object, scope_or}
use Rattle.c_types.specs.Census.{scope_behind, scope_behind_all, scope_behind_head, scope_behind_part}
use Rattle.c_alike.specs.Alike.{EachName}
use Rattle.c_fewer_types.specs.Written.{StringsAreShort}
use Rattle.c_helpers.specs.Names.{names_in, maybe_names, value_names, values_names, first_names, stmt_names, stmts_names, part_names, parts_names}
use Rattle.c_helpers.specs.Fewer.{fewer, maybe_fewer, with_values, with_all_values, fewer_in, fewer_in_all, fewer_in_part, fewer_in_parts, fewer_in_body}
use Rattle.c_fewer_types.specs.Standing.{ValueHas, ValuesHave, FirstHas, MaybeHas, is_declaration, StmtHas, StmtsHave, PartHas, PartsHave, IsDeclaration, AnyDeclaration}
use Rattle.c_worlds.specs.Named.{Each}
use Rattle.c_fewer_names.specs.Laws.{HoldsOfKnown, EvaluatedNamesAreAll, NamesComeFromBefore}
use Rattle.c_fewer_names.proofs.Expressions.{each_left, each_right, each_both, each_expr, fewer_bare, names_before}

no_declaration : (s : Scope) (t : CStmt) → is_declaration t ≡ false → is_declaration (fewer_in s t) ≡ false
no_declaration s (plain.Local d) e = absurd (cc e)
no_declaration s t e = refl

-- ---- what is evaluated is all

anything : (s : Scope) → HoldsOfKnown (λ name. Unit {0}) s
anything s = record { built_in = λ name t e. tt; format = λ name e. tt }

module _ (P : List ℕ → Type 0) where
  expr_all : (s : Scope) (e : CExpr) → Each P (names_in (fewer s e)) → EachName P (fewer s e)
  expr_all s e h = each_expr P (fewer s e) (fewer_bare (λ name. Unit {0}) s (anything s) e) h

  maybe_all : (s : Scope) (o : Option CExpr) → Each P (maybe_names (maybe_fewer s o)) → MaybeHas (EachName P) (maybe_fewer s o)
  maybe_all s None h = tt
  maybe_all s (Some e) h = expr_all s e h

  mutual
    value_all : (s : Scope) (v : CValue) → Each P (value_names (with_values (fewer s) v)) → ValueHas (EachName P) (with_values (fewer s) v)
    value_all s (plain.One e) h = expr_all s e h
    value_all s (plain.Many vs) h = values_all s vs h

    values_all : (s : Scope) (vs : CValues) → Each P (values_names (with_all_values (fewer s) vs)) → ValuesHave (EachName P) (with_all_values (fewer s) vs)
    values_all s plain.NoValue h = tt
    values_all s (plain.MoreValue v vs) h =
        (value_all s v (each_left P (value_names (with_values (fewer s) v)) (values_names (with_all_values (fewer s) vs)) h), values_all s vs (each_right P (value_names (with_values (fewer s) v)) (values_names (with_all_values (fewer s) vs)) h))

  first_all : (s : Scope) (o : Option CValue) → Each P (first_names (option_map (with_values (fewer s)) o)) → FirstHas (EachName P) (option_map (with_values (fewer s)) o)
  first_all s None h = tt
  first_all s (Some v) h = value_all s v h

  abbrev Short : CStmt → Type 0
  Short t = StmtHas StringsAreShort IsDeclaration t

  mutual
    stmt_all : (t : CStmt) (s : Scope) → Short t → Each P (stmt_names (fewer_in s t)) → StmtHas (EachName P) AnyDeclaration (fewer_in s t)
    stmt_all (plain.Block ss) s k h = stmts_all ss (entered s) k h
    stmt_all (plain.Local d) s k h = (tt, first_all (scope_behind s (plain.Local d)) d.first h)
    stmt_all (plain.Do_expr e) s k h = expr_all s e h
    stmt_all plain.Empty s k h = tt
    stmt_all (plain.If e t) s k h = (expr_all s e (each_left P (names_in (fewer s e)) (stmt_names (fewer_in s t)) h), stmt_all t s k.1 (each_right P (names_in (fewer s e)) (stmt_names (fewer_in s t)) h))
    stmt_all (plain.IfElse e t u) s k h =
        let r = each_right P (names_in (fewer s e)) (stmt_names (fewer_in s t) ++ stmt_names (fewer_in s u)) h in
        (expr_all s e (each_left P (names_in (fewer s e)) (stmt_names (fewer_in s t) ++ stmt_names (fewer_in s u)) h), stmt_all t s k.1 (each_left P (stmt_names (fewer_in s t)) (stmt_names (fewer_in s u)) r), stmt_all u s k.2 (each_right P (stmt_names (fewer_in s t)) (stmt_names (fewer_in s u)) r))
    stmt_all (plain.While e t) s k h = (expr_all s e (each_left P (names_in (fewer s e)) (stmt_names (fewer_in s t)) h), stmt_all t s k.1 (each_right P (names_in (fewer s e)) (stmt_names (fewer_in s t)) h))
    stmt_all (plain.Do t e) s k h = (expr_all s e (each_right P (stmt_names (fewer_in s t)) (names_in (fewer s e)) h), stmt_all t s k.1 (each_left P (stmt_names (fewer_in s t)) (names_in (fewer s e)) h))
    stmt_all (plain.For first test step t) s k h =
        let z : Scope = scope_behind_head s first in
        let r = each_right P (stmt_names (fewer_in s first)) (maybe_names (maybe_fewer z test) ++ (maybe_names (maybe_fewer z step) ++ stmt_names (fewer_in z t))) h in
        let q = each_right P (maybe_names (maybe_fewer z test)) (maybe_names (maybe_fewer z step) ++ stmt_names (fewer_in z t)) r in (
          no_declaration s first k.0,
          stmt_all first s k.1 (each_left P (stmt_names (fewer_in s first)) (maybe_names (maybe_fewer z test) ++ (maybe_names (maybe_fewer z step) ++ stmt_names (fewer_in z t))) h),
          maybe_all z test (each_left P (maybe_names (maybe_fewer z test)) (maybe_names (maybe_fewer z step) ++ stmt_names (fewer_in z t)) r),
          maybe_all z step (each_left P (maybe_names (maybe_fewer z step)) (stmt_names (fewer_in z t)) q),
          stmt_all t z k.4 (each_right P (maybe_names (maybe_fewer z step)) (stmt_names (fewer_in z t)) q),
        )
    stmt_all (plain.Return at o) s k h = maybe_all s o h
    stmt_all (plain.Break at) s k h = tt
    stmt_all (plain.Continue at) s k h = tt
    stmt_all (plain.Switch e ps) s k h =
        (expr_all s e (each_left P (names_in (fewer s e)) (parts_names (fewer_in_parts (entered s) ps)) h), parts_all ps (entered s) k.1 (each_right P (names_in (fewer s e)) (parts_names (fewer_in_parts (entered s) ps)) h))

    stmts_all : (ss : CStmts) (s : Scope) → StmtsHave StringsAreShort IsDeclaration ss → Each P (stmts_names (fewer_in_all s ss)) → StmtsHave (EachName P) AnyDeclaration (fewer_in_all s ss)
    stmts_all plain.NoStmt s k h = tt
    stmts_all (plain.MoreStmt t ts) s k h =
        (stmt_all t s k.0 (each_left P (stmt_names (fewer_in s t)) (stmts_names (fewer_in_all (scope_behind s t) ts)) h), stmts_all ts (scope_behind s t) k.1 (each_right P (stmt_names (fewer_in s t)) (stmts_names (fewer_in_all (scope_behind s t) ts)) h))

    part_all : (p : CPart) (s : Scope) → PartHas StringsAreShort IsDeclaration p → Each P (part_names (fewer_in_part s p)) → PartHas (EachName P) AnyDeclaration (fewer_in_part s p)
    part_all (plain.Label at e) s k h = tt
    part_all (plain.Item t) s k h = stmt_all t s k h

    parts_all : (ps : CParts) (s : Scope) → PartsHave StringsAreShort IsDeclaration ps → Each P (parts_names (fewer_in_parts s ps)) → PartsHave (EachName P) AnyDeclaration (fewer_in_parts s ps)
    parts_all plain.NoPart s k h = tt
    parts_all (plain.MorePart p ps) s k h =
        (part_all p s k.0 (each_left P (part_names (fewer_in_part s p)) (parts_names (fewer_in_parts (scope_behind_part s p) ps)) h), parts_all ps (scope_behind_part s p) k.1 (each_right P (part_names (fewer_in_part s p)) (parts_names (fewer_in_parts (scope_behind_part s p) ps)) h))

  body_all : (s : Scope) (body : CStmt) → Short body → Each P (stmt_names (fewer_in_body s body)) → StmtHas (EachName P) AnyDeclaration (fewer_in_body s body)
  body_all s (plain.Block ss) k h = stmts_all ss s k h
  body_all s t k h = stmt_all t s k h

pub evaluated_names_are_all : EvaluatedNamesAreAll
evaluated_names_are_all test s body k h = body_all (λ name. test name ≡ true) s body k h

-- ---- scopes within

module _ (P : List ℕ → Type 0) where
  abbrev Knows : Scope → Type 0
  Knows s = HoldsOfKnown P s

  within_block : (s : Scope) → Knows s → Knows (entered s)
  within_block s a = record { built_in = a.built_in; format = a.format }

  behind_name : (s : Scope) (n : List ℕ) (t : CType) → Knows s → Knows (with_name s n (Object t))
  behind_name s n t a = record { built_in = λ name u e. of_built name u (bytes_eq name n) e; format = λ name e. of_format name (bytes_eq name n) e }
    where
      of_built : (name : List ℕ) (u : CType) (b : Bool) → cond b (Some (Object t)) (entity_of s name) ≡ Some (BuiltIn u) → P name
      of_built name u true e = absurd (cc e)
      of_built name u false e = a.built_in name u e

      of_format : (name : List ℕ) (b : Bool) → cond b (Some (Object t)) (entity_of s name) ≡ Some Printf → P name
      of_format name true e = absurd (cc e)
      of_format name false e = a.format name e

  behind_local : (s : Scope) (d : CDecl) → Knows s → Knows (scope_behind s (plain.Local d))
  behind_local s d a = of_type (declared_type s d)
    where
      of_rule : (o : Option TypeFault) (t : CType) → Knows (scope_or s (option_map_or (λ e. Err e) o (Ok (with_name s d.name (Object t)))))
      of_rule None t = behind_name s d.name t a
      of_rule (Some f) t = a

      of_first : (r : Judged (Unit {0})) (rules : List Rule) (t : CType) → Knows (scope_or s (after r (λ _. keeping rules (with_name s d.name (Object t)))))
      of_first (Ok u) rules t = of_rule (broken rules) t
      of_first (Err f) rules t = a

      of_type : (r : Judged CType) → Knows (scope_or s (after r (λ t. declared_object s false d t)))
      of_type (Ok t) = of_first (first_fitting (with_name s d.name (Object t)) (record { file = false; pos = d.pos }) t d.first) ((not (is_declared_here s d.name), fault.Twice d.pos) ∷ []) t
      of_type (Err f) = a

  behind_stmt : (s : Scope) (t : CStmt) → Knows s → Knows (scope_behind s t)
  behind_stmt s (plain.Local d) a = behind_local s d a
  behind_stmt s t a = a

  behind_all : (s : Scope) (ss : CStmts) → Knows s → Knows (scope_behind_all s ss)
  behind_all s plain.NoStmt a = a
  behind_all s (plain.MoreStmt t ts) a = behind_all (scope_behind s t) ts (behind_stmt s t a)

  behind_head : (s : Scope) (t : CStmt) → Knows s → Knows (scope_behind_head s t)
  behind_head s (plain.Block ss) a = behind_all (entered s) ss (within_block s a)
  behind_head s (plain.Local d) a = behind_local s d a
  behind_head s t a = a

  behind_part : (s : Scope) (p : CPart) → Knows s → Knows (scope_behind_part s p)
  behind_part s (plain.Label at e) a = a
  behind_part s (plain.Item t) a = behind_stmt s t a

  -- ---- names of the tree as it was

  expr_before : (s : Scope) (e : CExpr) → Knows s → Each P (names_in (fewer s e)) → Each P (names_in e)
  expr_before s e a h = names_before P s a e h

  maybe_before : (s : Scope) (o : Option CExpr) → Knows s → Each P (maybe_names (maybe_fewer s o)) → Each P (maybe_names o)
  maybe_before s None a h = tt
  maybe_before s (Some e) a h = expr_before s e a h

  mutual
    value_before : (s : Scope) (v : CValue) → Knows s → Each P (value_names (with_values (fewer s) v)) → Each P (value_names v)
    value_before s (plain.One e) a h = expr_before s e a h
    value_before s (plain.Many vs) a h = values_before s vs a h

    values_before : (s : Scope) (vs : CValues) → Knows s → Each P (values_names (with_all_values (fewer s) vs)) → Each P (values_names vs)
    values_before s plain.NoValue a h = tt
    values_before s (plain.MoreValue v vs) a h =
        each_both P (value_names v) (values_names vs) (value_before s v a (each_left P (value_names (with_values (fewer s) v)) (values_names (with_all_values (fewer s) vs)) h))
        (values_before s vs a (each_right P (value_names (with_values (fewer s) v)) (values_names (with_all_values (fewer s) vs)) h))

  first_before : (s : Scope) (o : Option CValue) → Knows s → Each P (first_names (option_map (with_values (fewer s)) o)) → Each P (first_names o)
  first_before s None a h = tt
  first_before s (Some v) a h = value_before s v a h

  mutual
    stmt_before : (t : CStmt) (s : Scope) → Knows s → Each P (stmt_names (fewer_in s t)) → Each P (stmt_names t)
    stmt_before (plain.Block ss) s a h = stmts_before ss (entered s) (within_block s a) h
    stmt_before (plain.Local d) s a h = first_before (scope_behind s (plain.Local d)) d.first (behind_local s d a) h
    stmt_before (plain.Do_expr e) s a h = expr_before s e a h
    stmt_before plain.Empty s a h = tt
    stmt_before (plain.If e t) s a h =
        each_both P (names_in e) (stmt_names t) (expr_before s e a (each_left P (names_in (fewer s e)) (stmt_names (fewer_in s t)) h)) (stmt_before t s a (each_right P (names_in (fewer s e)) (stmt_names (fewer_in s t)) h))
    stmt_before (plain.IfElse e t u) s a h =
        let r = each_right P (names_in (fewer s e)) (stmt_names (fewer_in s t) ++ stmt_names (fewer_in s u)) h in
        each_both P (names_in e) (stmt_names t ++ stmt_names u) (expr_before s e a (each_left P (names_in (fewer s e)) (stmt_names (fewer_in s t) ++ stmt_names (fewer_in s u)) h))
        (each_both P (stmt_names t) (stmt_names u) (stmt_before t s a (each_left P (stmt_names (fewer_in s t)) (stmt_names (fewer_in s u)) r)) (stmt_before u s a (each_right P (stmt_names (fewer_in s t)) (stmt_names (fewer_in s u)) r)))
    stmt_before (plain.While e t) s a h =
        each_both P (names_in e) (stmt_names t) (expr_before s e a (each_left P (names_in (fewer s e)) (stmt_names (fewer_in s t)) h)) (stmt_before t s a (each_right P (names_in (fewer s e)) (stmt_names (fewer_in s t)) h))
    stmt_before (plain.Do t e) s a h =
        each_both P (stmt_names t) (names_in e) (stmt_before t s a (each_left P (stmt_names (fewer_in s t)) (names_in (fewer s e)) h)) (expr_before s e a (each_right P (stmt_names (fewer_in s t)) (names_in (fewer s e)) h))
    stmt_before (plain.For first test step t) s a h =
        let z : Scope = scope_behind_head s first in
        let b : Knows z = behind_head s first a in
        let r = each_right P (stmt_names (fewer_in s first)) (maybe_names (maybe_fewer z test) ++ (maybe_names (maybe_fewer z step) ++ stmt_names (fewer_in z t))) h in
        let q = each_right P (maybe_names (maybe_fewer z test)) (maybe_names (maybe_fewer z step) ++ stmt_names (fewer_in z t)) r in
        each_both P (stmt_names first) (maybe_names test ++ (maybe_names step ++ stmt_names t)) (stmt_before first s a (each_left P (stmt_names (fewer_in s first)) (maybe_names (maybe_fewer z test) ++ (maybe_names (maybe_fewer z step) ++ stmt_names (fewer_in z t))) h))
        (each_both P (maybe_names test) (maybe_names step ++ stmt_names t) (maybe_before z test b (each_left P (maybe_names (maybe_fewer z test)) (maybe_names (maybe_fewer z step) ++ stmt_names (fewer_in z t)) r))
        (each_both P (maybe_names step) (stmt_names t) (maybe_before z step b (each_left P (maybe_names (maybe_fewer z step)) (stmt_names (fewer_in z t)) q)) (stmt_before t z b (each_right P (maybe_names (maybe_fewer z step)) (stmt_names (fewer_in z t)) q))))
    stmt_before (plain.Return at o) s a h = maybe_before s o a h
    stmt_before (plain.Break at) s a h = tt
    stmt_before (plain.Continue at) s a h = tt
    stmt_before (plain.Switch e ps) s a h =
        each_both P (names_in e) (parts_names ps) (expr_before s e a (each_left P (names_in (fewer s e)) (parts_names (fewer_in_parts (entered s) ps)) h))
        (parts_before ps (entered s) (within_block s a) (each_right P (names_in (fewer s e)) (parts_names (fewer_in_parts (entered s) ps)) h))

    stmts_before : (ss : CStmts) (s : Scope) → Knows s → Each P (stmts_names (fewer_in_all s ss)) → Each P (stmts_names ss)
    stmts_before plain.NoStmt s a h = tt
    stmts_before (plain.MoreStmt t ts) s a h =
        each_both P (stmt_names t) (stmts_names ts) (stmt_before t s a (each_left P (stmt_names (fewer_in s t)) (stmts_names (fewer_in_all (scope_behind s t) ts)) h))
        (stmts_before ts (scope_behind s t) (behind_stmt s t a) (each_right P (stmt_names (fewer_in s t)) (stmts_names (fewer_in_all (scope_behind s t) ts)) h))

    part_before : (p : CPart) (s : Scope) → Knows s → Each P (part_names (fewer_in_part s p)) → Each P (part_names p)
    part_before (plain.Label at e) s a h = tt
    part_before (plain.Item t) s a h = stmt_before t s a h

    parts_before : (ps : CParts) (s : Scope) → Knows s → Each P (parts_names (fewer_in_parts s ps)) → Each P (parts_names ps)
    parts_before plain.NoPart s a h = tt
    parts_before (plain.MorePart p ps) s a h =
        each_both P (part_names p) (parts_names ps) (part_before p s a (each_left P (part_names (fewer_in_part s p)) (parts_names (fewer_in_parts (scope_behind_part s p) ps)) h))
        (parts_before ps (scope_behind_part s p) (behind_part s p a) (each_right P (part_names (fewer_in_part s p)) (parts_names (fewer_in_parts (scope_behind_part s p) ps)) h))

  body_before : (s : Scope) (body : CStmt) → Knows s → Each P (stmt_names (fewer_in_body s body)) → Each P (stmt_names body)
  body_before s (plain.Block ss) a h = stmts_before ss s a h
  body_before s t a h = stmt_before t s a h

pub names_come_from_before : NamesComeFromBefore
names_come_from_before test s body a h = body_before (λ name. test name ≡ true) s body a h
