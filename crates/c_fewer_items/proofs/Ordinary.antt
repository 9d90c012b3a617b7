-- Trees that write narrow types alone have small elements.
use Rattle.std.proofs.Common.{◌≡◌, ℕ, ◌+◌, List, [], ◌∷◌, Option, Some, None, Bool, true, false, refl, cond, arith}
use Rattle.std.specs.Prelude.{not, IfOk, Ok, Err}
use Rattle.std.specs.Option.{option_map_or}
use Rattle.std.specs.Str.{bytes_eq}
use Rattle.c_syntax.specs.Plain as plain
use Rattle.c_syntax.specs.Plain.{CExpr, CExprs, CValue, CValues, CDecl, CStmt, CStmts, CPart, CParts}
use Rattle.c_types.specs.declared.fault.TypeFault.{TypeFault}
use Rattle.c_types.specs.declared.fault.TypeFault.TheVariants as fault
use Rattle.c_types.specs.Types as type
use Rattle.c_types.specs.Types.{CType, Tags, decayed, words_of}
use Rattle.c_types.specs.Limits.{is_over, wide_types}
use Rattle.c_types.specs.Refusals.{Judged, Rule, after, broken, keeping}
use Rattle.c_types.specs.Scope.{Scope, Object, entity_of, with_name, is_declared_here, entered}
use Rattle.c_types.specs.Operands.{Operand}
use Rattle.c_types.specs.Expressions.{judged}
use Rattle.c_types.specs.Declarations.{first_fitting, declared_type, declared_object, scope_or}
use Rattle.c_types.specs.Census.{scope_behind, scope_behind_all, scope_behind_head, scope_behind_part}
use Rattle.c_eval.specs.Environment.{operand_type, type_in, value_type_in}
use Rattle.c_limited.specs.Narrow.{IsNarrow, EntityIsNarrow, ScopeIsNarrow, WritesNarrow, EachWritesNarrow}
use Rattle.c_limited.proofs.Narrow.{operands_are_narrow, narrow_elements_are_small}
use Rattle.c_fewer_meaning.specs.Ordinary.{IsSmall, IsOrdinary, AreOrdinary}
use Rattle.c_fewer_meaning.specs.FewerStatementsOrdinary.{MaybeIsOrdinary, ValueIsOrdinary, ValuesAreOrdinary, FirstIsOrdinary, StmtIsOrdinary, StmtsAreOrdinary, PartIsOrdinary, PartsAreOrdinary}
use Rattle.c_fewer_items.specs.Writes.{MaybeWritesNarrow, ValueWritesNarrow, ValuesWriteNarrow, FirstWritesNarrow, StmtWritesNarrow, StmtsWriteNarrow, PartWritesNarrow, PartsWriteNarrow}
use Rattle.c_fewer_items.specs.FewerOrdinaryLaws.{ExpressionsAreOrdinary, StatementsAreOrdinary}

-- ---- expressions

decayed_narrow : (tags : Tags) (t : CType) → IsNarrow tags t → IsNarrow tags (decayed t)
decayed_narrow tags (type.Array t n) c = let whole : is_over (words_of tags (type.Array t n)) + wide_types tags t ≡ 0 = c in omega (arith, whole)
decayed_narrow tags type.Void c = c
decayed_narrow tags type.Int c = c
decayed_narrow tags type.Unsigned c = c
decayed_narrow tags type.Char c = c
decayed_narrow tags type.UChar c = c
decayed_narrow tags type.Null c = c
decayed_narrow tags (type.Struct tag) c = c
decayed_narrow tags (type.Pointer t) c = c
decayed_narrow tags (type.Function t ts) c = c

module _ (s : Scope) (known : ScopeIsNarrow s) where
  type_narrow : (e : CExpr) → WritesNarrow s e → IsNarrow s.tags (type_in s e)
  type_narrow e n = go (judged s e) (operands_are_narrow s e known n)
    where
      go : (r : Judged Operand) → IfOk r (λ a. IsNarrow s.tags a.ty) → IsNarrow s.tags (operand_type r)
      go (Ok a) h = h
      go (Err f) h = refl

  small : (e : CExpr) → WritesNarrow s e → IsSmall s.tags (type_in s e)
  small e n = narrow_elements_are_small s.tags (type_in s e) (type_narrow e n)

  value_small : (e : CExpr) → WritesNarrow s e → IsSmall s.tags (value_type_in s e)
  value_small e n = narrow_elements_are_small s.tags (value_type_in s e) (decayed_narrow s.tags (type_in s e) (type_narrow e n))

  mutual
    ordinary : (e : CExpr) → WritesNarrow s e → IsOrdinary s e
    ordinary (plain.Number at n unsigned) h = tt
    ordinary (plain.Str at text) h = tt
    ordinary (plain.Null at) h = tt
    ordinary (plain.Var at name) h = tt
    ordinary (plain.Unary at op a) h = ordinary a h
    ordinary (plain.Step at op a) h = (small a h, ordinary a h)
    ordinary (plain.Binary at op a b) h = (value_small a h.0, value_small b h.1, ordinary a h.0, ordinary b h.1)
    ordinary (plain.Assign at None a b) h = (ordinary a h.0, ordinary b h.1)
    ordinary (plain.Assign at (Some op) a b) h = (small a h.0, ordinary a h.0, ordinary b h.1)
    ordinary (plain.Cond at a b c) h = (ordinary a h.0, ordinary b h.1, ordinary c h.2)
    ordinary (plain.Comma at a b) h = (ordinary a h.0, ordinary b h.1)
    ordinary (plain.Cast at t a) h = ordinary a h.1
    ordinary (plain.SizeTy at t) h = tt
    ordinary (plain.SizeOf at a) h = tt
    ordinary (plain.Index at a b) h = (value_small a h.0, value_small b h.1, ordinary a h.0, ordinary b h.1)
    ordinary (plain.Call at f es) h = (ordinary f h.0, each_ordinary es h.1)
    ordinary (plain.Member at a m) h = ordinary a h
    ordinary (plain.Arrow at a m) h = ordinary a h

    each_ordinary : (es : CExprs) → EachWritesNarrow s es → AreOrdinary s es
    each_ordinary plain.NoExpr h = tt
    each_ordinary (plain.MoreExpr e es) h = (ordinary e h.0, each_ordinary es h.1)

  maybe_ordinary : (e : Option CExpr) → MaybeWritesNarrow s e → MaybeIsOrdinary s e
  maybe_ordinary None h = tt
  maybe_ordinary (Some e) h = ordinary e h

  mutual
    value_ordinary : (v : CValue) → ValueWritesNarrow s v → ValueIsOrdinary s v
    value_ordinary (plain.One e) h = ordinary e h
    value_ordinary (plain.Many vs) h = values_ordinary vs h

    values_ordinary : (vs : CValues) → ValuesWriteNarrow s vs → ValuesAreOrdinary s vs
    values_ordinary plain.NoValue h = tt
    values_ordinary (plain.MoreValue v vs) h = (value_ordinary v h.0, values_ordinary vs h.1)

  first_ordinary : (o : Option CValue) → FirstWritesNarrow s o → FirstIsOrdinary s o
  first_ordinary None h = tt
  first_ordinary (Some v) h = value_ordinary v h

-- ---- scopes behind

entered_narrow : (s : Scope) → ScopeIsNarrow s → ScopeIsNarrow (entered s)
entered_narrow s a = record { names = a.names; members = a.members }

name_narrow : (s : Scope) (n : List ℕ) (t : CType) → ScopeIsNarrow s → IsNarrow s.tags t → ScopeIsNarrow (with_name s n (Object t))
name_narrow s n t a c = record { names = λ name. go name (bytes_eq name n); members = a.members }
  where
    go : (name : List ℕ) (b : Bool) → EntityIsNarrow s.tags (cond b (Some (Object t)) (entity_of s name))
    go name true = c
    go name false = a.names name

local_narrow : (s : Scope) (d : CDecl) → ScopeIsNarrow s → IfOk (declared_type s d) (IsNarrow s.tags) → ScopeIsNarrow (scope_behind s (plain.Local d))
local_narrow s d a h = of_type (declared_type s d) h
  where
    of_rule : (o : Option TypeFault) (t : CType) → IsNarrow s.tags t → ScopeIsNarrow (scope_or s (option_map_or (λ e. Err e) o (Ok (with_name s d.name (Object t)))))
    of_rule None t c = name_narrow s d.name t a c
    of_rule (Some f) t c = a

    of_first : (r : Judged (Unit {0})) (rules : List Rule) (t : CType) → IsNarrow s.tags t → ScopeIsNarrow (scope_or s (after r (λ _. keeping rules (with_name s d.name (Object t)))))
    of_first (Ok u) rules t c = of_rule (broken rules) t c
    of_first (Err f) rules t c = a

    of_type : (r : Judged CType) → IfOk r (IsNarrow s.tags) → ScopeIsNarrow (scope_or s (after r (λ t. declared_object s false d t)))
    of_type (Ok t) c = of_first (first_fitting (with_name s d.name (Object t)) (record { file = false; pos = d.pos }) t d.first) ((not (is_declared_here s d.name), fault.Twice d.pos) ∷ []) t c
    of_type (Err f) c = a

stmt_narrow : (s : Scope) (t : CStmt) → ScopeIsNarrow s → StmtWritesNarrow s t → ScopeIsNarrow (scope_behind s t)
stmt_narrow s (plain.Local d) a h = local_narrow s d a h.0
stmt_narrow s t a h = a

all_narrow : (ss : CStmts) (s : Scope) → ScopeIsNarrow s → StmtsWriteNarrow s ss → ScopeIsNarrow (scope_behind_all s ss)
all_narrow plain.NoStmt s a h = a
all_narrow (plain.MoreStmt t ts) s a h = all_narrow ts (scope_behind s t) (stmt_narrow s t a h.0) h.1

head_narrow : (s : Scope) (first : CStmt) → ScopeIsNarrow s → StmtWritesNarrow s first → ScopeIsNarrow (scope_behind_head s first)
head_narrow s (plain.Block ss) a h = all_narrow ss (entered s) (entered_narrow s a) h
head_narrow s (plain.Local d) a h = local_narrow s d a h.0
head_narrow s t a h = a

part_narrow : (s : Scope) (p : CPart) → ScopeIsNarrow s → PartWritesNarrow s p → ScopeIsNarrow (scope_behind_part s p)
part_narrow s (plain.Label at e) a h = a
part_narrow s (plain.Item t) a h = stmt_narrow s t a h

-- ---- statements

mutual
  stmt_ordinary : (t : CStmt) (s : Scope) → ScopeIsNarrow s → StmtWritesNarrow s t → StmtIsOrdinary s t
  stmt_ordinary (plain.Block ss) s a h = all_ordinary ss (entered s) (entered_narrow s a) h
  stmt_ordinary (plain.Local d) s a h = first_ordinary (scope_behind s (plain.Local d)) (local_narrow s d a h.0) d.first h.1
  stmt_ordinary (plain.Do_expr e) s a h = ordinary s a e h
  stmt_ordinary plain.Empty s a h = tt
  stmt_ordinary (plain.If e t) s a h = (ordinary s a e h.0, stmt_ordinary t s a h.1)
  stmt_ordinary (plain.IfElse e t u) s a h = (ordinary s a e h.0, stmt_ordinary t s a h.1, stmt_ordinary u s a h.2)
  stmt_ordinary (plain.While e t) s a h = (ordinary s a e h.0, stmt_ordinary t s a h.1)
  stmt_ordinary (plain.Do t e) s a h = (stmt_ordinary t s a h.0, ordinary s a e h.1)
  stmt_ordinary (plain.For first test step t) s a h =
      let inner : Scope = scope_behind_head s first in
      let b : ScopeIsNarrow inner = head_narrow s first a h.0 in
      (stmt_ordinary first s a h.0, maybe_ordinary inner b test h.1, maybe_ordinary inner b step h.2, stmt_ordinary t inner b h.3)
  stmt_ordinary (plain.Return at e) s a h = maybe_ordinary s a e h
  stmt_ordinary (plain.Break at) s a h = tt
  stmt_ordinary (plain.Continue at) s a h = tt
  stmt_ordinary (plain.Switch e ps) s a h = (ordinary s a e h.0, parts_ordinary ps (entered s) (entered_narrow s a) h.1)

  all_ordinary : (ss : CStmts) (s : Scope) → ScopeIsNarrow s → StmtsWriteNarrow s ss → StmtsAreOrdinary s ss
  all_ordinary plain.NoStmt s a h = tt
  all_ordinary (plain.MoreStmt t ts) s a h = (stmt_ordinary t s a h.0, all_ordinary ts (scope_behind s t) (stmt_narrow s t a h.0) h.1)

  part_ordinary : (p : CPart) (s : Scope) → ScopeIsNarrow s → PartWritesNarrow s p → PartIsOrdinary s p
  part_ordinary (plain.Label at e) s a h = tt
  part_ordinary (plain.Item t) s a h = stmt_ordinary t s a h

  parts_ordinary : (ps : CParts) (s : Scope) → ScopeIsNarrow s → PartsWriteNarrow s ps → PartsAreOrdinary s ps
  parts_ordinary plain.NoPart s a h = tt
  parts_ordinary (plain.MorePart p ps) s a h = (part_ordinary p s a h.0, parts_ordinary ps (scope_behind_part s p) (part_narrow s p a h.0) h.1)

pub expressions_are_ordinary : ExpressionsAreOrdinary
expressions_are_ordinary s e a h = ordinary s a e h

pub statements_are_ordinary : StatementsAreOrdinary
statements_are_ordinary s t a h = stmt_ordinary t s a h
