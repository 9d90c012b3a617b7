-- Trees whose sums are small write narrow types alone, also in a scope that sees the same names.
use Rattle.std.proofs.Common.{◌≡◌, ℕ, ◌+◌, ◌≤◌, List, [], ◌∷◌, ◌++◌, Option, Some, None, Bool, true, false, refl, sym, ap, ◌∙◌, subst, arith}
use Rattle.std.specs.Prelude.{IfOk, Ok, Err, if◌then◌else◌}
use Rattle.c_syntax.specs.Plain as plain
use Rattle.c_syntax.specs.Plain.{CExpr, CExprs, CTy, CTys, CValue, CValues, CDecl, CStmt, CStmts, CParts}
use Rattle.c_types.specs.declared.fault.TypeFault.TheVariants as fault
use Rattle.c_types.specs.Types.{CType, Tags, is_object_type}
use Rattle.c_types.specs.Refusals.{Judged, after, both, all_three, keeping}
use Rattle.c_types.specs.Scope.{Scope, entered}
use Rattle.c_types.specs.Operands.{Operand}
use Rattle.c_types.specs.Expressions.{names_function, judged, written}
use Rattle.c_types.specs.Declarations.{completed, declared_type, declared, scope_or}
use Rattle.c_types.specs.Statements.{Around, in_loop, in_switch, condition_rules, test_rules, switch_rules, maybe_judged, CaseLabel, PartJudged, part_scope_or, stated, all_stated, part_judged, all_parts}
use Rattle.c_types.specs.Census.{expr_sum, exprs_sum, maybe_sum, value_sum, values_sum, first_sum, of_type, object_sum, scope_behind, scope_behind_all, stmt_sum, stmts_sum, parts_sum}
use Rattle.c_types.specs.Limits.{wide_types}
use Rattle.c_alike.specs.Alike.{NameIsAlike, EachName, EachNameOf, EachNameIn, EachNameInAll}
use Rattle.c_alike.proofs.Judged.{types_are_judged_alike}
use Rattle.c_limited.specs.Narrow.{IsNarrow, WritesNarrow, EachWritesNarrow}
use Rattle.c_limited.proofs.Sums.{weight, wide, strange, Within, front, last}
use Rattle.c_fewer_types.specs.Written.{StringsAreShort}
use Rattle.c_fewer_types.specs.Standing.{StmtHas, StmtsHave, PartsHave, IsDeclaration}
use Rattle.c_fewer_types.proofs.FewerTypedRules.{after_is, both_is, three_is}
use Rattle.c_fewer_types.proofs.Behind.{stated_behind}
use Rattle.c_fewer_meaning.specs.Seeing.{SeesAll}
use Rattle.c_fewer_meaning.proofs.Expressions.{entered_sees, local_declares}
use Rattle.c_fewer_meaning.proofs.Trees.{trees_are_the_same}
use Rattle.c_fewer_items.specs.Writes.{MaybeWritesNarrow, ValueWritesNarrow, ValuesWriteNarrow, FirstWritesNarrow, StmtWritesNarrow, StmtsWriteNarrow, PartsWriteNarrow}

-- ---- what holds of all names holds of those of a type

module _ (Q : List ℕ → Type 0) (h : (name : List ℕ) → Q name) where
  mutual
    every : (e : CExpr) → EachName Q e
    every (plain.Number at n unsigned) = tt
    every (plain.Str at text) = tt
    every (plain.Null at) = tt
    every (plain.Var at name) = h name
    every (plain.Unary at op x) = every x
    every (plain.Step at op x) = every x
    every (plain.Binary at op x y) = (every x, every y)
    every (plain.Assign at op x y) = (every x, every y)
    every (plain.Cond at x y z) = (every x, every y, every z)
    every (plain.Comma at x y) = (every x, every y)
    every (plain.Cast at t x) = (every_in t, every x)
    every (plain.SizeTy at t) = every_in t
    every (plain.SizeOf at x) = every x
    every (plain.Index at x y) = (every x, every y)
    every (plain.Call at f es) = (every f, every_of es)
    every (plain.Member at x m) = every x
    every (plain.Arrow at x m) = every x

    every_of : (es : CExprs) → EachNameOf Q es
    every_of plain.NoExpr = tt
    every_of (plain.MoreExpr e es) = (every e, every_of es)

    every_in : (t : CTy) → EachNameIn Q t
    every_in plain.Void = tt
    every_in plain.Int = tt
    every_in plain.Unsigned = tt
    every_in plain.Char = tt
    every_in plain.UChar = tt
    every_in (plain.Struct name) = tt
    every_in (plain.Pointer t) = every_in t
    every_in (plain.Array t) = every_in t
    every_in (plain.ArrayOf t n) = (every_in t, every n)
    every_in (plain.Func t ts) = (every_in t, every_in_all ts)

    every_in_all : (ts : CTys) → EachNameInAll Q ts
    every_in_all plain.NoTy = tt
    every_in_all (plain.MoreTy t ts) = (every_in t, every_in_all ts)

-- ---- types

-- nothing of a type that is written is too wide
pub told_narrow : (tags : Tags) (r : Judged CType) → of_type (wide_types tags) r ≤ 0 → IfOk r (IsNarrow tags)
told_narrow tags (Ok t) h = omega (arith, h)
told_narrow tags (Err e) h = tt

pub object_narrow : (tags : Tags) (r : Judged CType) → of_type (λ t. wide_types tags t + 0) r ≤ 0 → IfOk r (IsNarrow tags)
object_narrow tags (Ok t) h = omega (arith, h)
object_narrow tags (Err e) h = tt

module _ (s z : Scope) (a : SeesAll s z) where
  written_same : (at : ℕ) (t : CTy) → written s at t ≡ written z at t
  written_same at t = types_are_judged_alike s z at t a.tags (every_in (NameIsAlike s z) a.names t)

  type_same : (d : CDecl) → declared_type s d ≡ declared_type z d
  type_same d = ap (λ r. after r (λ t. keeping ((is_object_type s.tags (completed t d.first), fault.Mismatch d.pos) ∷ []) (completed t d.first))) (written_same d.pos d.ty)
      ∙ ap (λ tags. after (written z d.pos d.ty) (λ t. keeping ((is_object_type tags (completed t d.first), fault.Mismatch d.pos) ∷ []) (completed t d.first))) a.tags

  moved : (r q : Judged CType) → r ≡ q → IfOk r (IsNarrow s.tags) → IfOk q (IsNarrow z.tags)
  moved r q e h = subst (λ tags. IfOk q (IsNarrow tags)) a.tags (subst (λ q. IfOk q (IsNarrow s.tags)) e h)

  -- ---- expressions

  called_writes : (f : CExpr) (b : Bool) (w n p : ℕ) → names_function s f ≡ b → (Within w n p → WritesNarrow z f) → Within (if b then 0 else w) (if b then 0 else n) (if b then 0 else p) → WritesNarrow z f
  called_writes (plain.Var at name) b w n p e small h = tt
  called_writes f true w n p e small h = absurd (cc e)
  called_writes f false w n p e small h = small h

  mutual
    expr_writes : (e : CExpr) → Within (expr_sum weight s e) (expr_sum wide s e) (expr_sum strange s e) → WritesNarrow z e
    expr_writes (plain.Number at n unsigned) h = tt
    expr_writes (plain.Str at text) h = omega (arith, h.light)
    expr_writes (plain.Null at) h = tt
    expr_writes (plain.Var at name) h = tt
    expr_writes (plain.Unary at op x) h = expr_writes x (last _ _ _ h)
    expr_writes (plain.Step at op x) h = expr_writes x (last _ _ _ h)
    expr_writes (plain.Binary at op x y) h = (expr_writes x (last _ _ _ (front _ _ _ h)), expr_writes y (last _ _ _ h))
    expr_writes (plain.Assign at op x y) h = (expr_writes x (last _ _ _ (front _ _ _ h)), expr_writes y (last _ _ _ h))
    expr_writes (plain.Cond at x y c) h = (expr_writes x (last _ _ _ (front _ _ _ (front _ _ _ h))), expr_writes y (last _ _ _ (front _ _ _ h)), expr_writes c (last _ _ _ h))
    expr_writes (plain.Comma at x y) h = (expr_writes x (last _ _ _ (front _ _ _ h)), expr_writes y (last _ _ _ h))
    expr_writes (plain.Cast at t x) h =
        let few : of_type (wide_types s.tags) (written s at t) ≤ 0 = omega (arith, (front _ _ _ (front _ _ _ h)).narrow) in
        (moved (written s at t) (written z at t) (written_same at t) (told_narrow s.tags (written s at t) few), expr_writes x (last _ _ _ h))
    expr_writes (plain.SizeTy at t) h = tt
    expr_writes (plain.SizeOf at x) h = tt
    expr_writes (plain.Index at x y) h = (expr_writes x (last _ _ _ (front _ _ _ h)), expr_writes y (last _ _ _ h))
    expr_writes (plain.Call at f es) h = (called_writes f (names_function s f) (expr_sum weight s f) (expr_sum wide s f) (expr_sum strange s f) refl (λ k. expr_writes f k) (last _ _ _ (front _ _ _ h)), exprs_write es (last _ _ _ h))
    expr_writes (plain.Member at x m) h = expr_writes x (last _ _ _ h)
    expr_writes (plain.Arrow at x m) h = expr_writes x (last _ _ _ h)

    exprs_write : (es : CExprs) → Within (exprs_sum weight s es) (exprs_sum wide s es) (exprs_sum strange s es) → EachWritesNarrow z es
    exprs_write plain.NoExpr h = tt
    exprs_write (plain.MoreExpr e es) h = (expr_writes e (front _ _ _ h), exprs_write es (last _ _ _ h))

  maybe_writes : (e : Option CExpr) → Within (maybe_sum weight s e) (maybe_sum wide s e) (maybe_sum strange s e) → MaybeWritesNarrow z e
  maybe_writes None h = tt
  maybe_writes (Some e) h = expr_writes e h

  mutual
    value_writes : (v : CValue) → Within (value_sum weight s v) (value_sum wide s v) (value_sum strange s v) → ValueWritesNarrow z v
    value_writes (plain.One e) h = expr_writes e (last _ _ _ h)
    value_writes (plain.Many vs) h = values_write vs (last _ _ _ h)

    values_write : (vs : CValues) → Within (values_sum weight s vs) (values_sum wide s vs) (values_sum strange s vs) → ValuesWriteNarrow z vs
    values_write plain.NoValue h = tt
    values_write (plain.MoreValue v vs) h = (value_writes v (front _ _ _ h), values_write vs (last _ _ _ h))

  first_writes : (v : Option CValue) → Within (first_sum weight s v) (first_sum wide s v) (first_sum strange s v) → FirstWritesNarrow z v
  first_writes None h = tt
  first_writes (Some v) h = value_writes v h

-- ---- statements

abbrev pub Short : CStmt → Type 0
Short t = StmtHas StringsAreShort IsDeclaration t

local_writes : (s z : Scope) (d : CDecl) (r : Scope) → SeesAll s z → declared s false d ≡ Ok r → Within (object_sum weight s d) (object_sum wide s d) (object_sum strange s d) → StmtWritesNarrow z (plain.Local d)
local_writes s z d r a e h =
    let m = local_declares s z d r a e in
    let behind : scope_or s (declared s false d) ≡ r = ap (λ q. scope_or s q) e in
    let there : scope_or z (declared z false d) ≡ m.other = ap (λ q. scope_or z q) m.is in
    let sees : SeesAll (scope_or s (declared s false d)) (scope_or z (declared z false d)) = subst (λ x. SeesAll x (scope_or z (declared z false d))) (sym behind) (subst (λ x. SeesAll r x) (sym there) m.sees) in
    let few : of_type (λ t. wide_types s.tags t + 0) (declared_type s d) ≤ 0 = omega (arith, h.narrow) in
    (moved s z a (declared_type s d) (declared_type z d) (type_same s z a d) (object_narrow s.tags (declared_type s d) few), first_writes (scope_or s (declared s false d)) (scope_or z (declared z false d)) sees d.first (last _ _ _ (front _ _ _ h)))

-- behind a statement they see the same names
behind_sees : (s z : Scope) (w : Around) (t : CStmt) (r : Scope) → SeesAll s z → Short t → stated s w t ≡ Ok r → SeesAll (scope_behind s t) (scope_behind z t)
behind_sees s z w t r a k e =
    let m = trees_are_the_same s z w t r a k e in
    subst (λ x. SeesAll x (scope_behind z t)) (sym (stated_behind s w t r e)) (subst (λ x. SeesAll r x) (sym (stated_behind z w t m.0 m.1)) m.2)

-- what a block's statements come to
record BlockSees (s z : Scope) (ss : CStmts) (r : Scope) : Type 0 where
  sees : SeesAll (scope_behind_all s ss) (scope_behind_all z ss)
  behind : scope_behind_all s ss ≡ r

block_sees : (ss : CStmts) (s z : Scope) (w : Around) (r : Scope) → SeesAll s z → StmtsHave StringsAreShort IsDeclaration ss → all_stated s w ss ≡ Ok r → BlockSees s z ss r
block_sees plain.NoStmt s z w r a k e = record { sees = a; behind = cc e }
block_sees (plain.MoreStmt t ts) s z w r a k e =
    let l = both_is (stated s w t) (all_stated (scope_or s (stated s w t)) w ts) (λ _ inner. Ok inner) r e in
    let inner : all_stated (scope_behind s t) w ts ≡ Ok l.1.0 = subst (λ x. all_stated x w ts ≡ Ok l.1.0) (ap (λ q. scope_or s q) l.1.1 ∙ sym (stated_behind s w t l.0 l.1.1)) l.1.2 in
    let m = block_sees ts (scope_behind s t) (scope_behind z t) w l.1.0 (behind_sees s z w t l.0 a k.0 l.1.1) k.1 inner in
    let same : l.1.0 ≡ r = cc l.1.3 in
    record { sees = m.sees; behind = m.behind ∙ same }

abbrev pub Writes : CStmt → Type 0
Writes t = (s z : Scope) (w : Around) (r : Scope) → SeesAll s z → Short t → stated s w t ≡ Ok r → Within (stmt_sum weight s t) (stmt_sum wide s t) (stmt_sum strange s t) → StmtWritesNarrow z t

-- a `for`, with the scope behind its head
for_parts : (first : CStmt) (test step : Option CExpr) (t : CStmt) (s z inner other : Scope) → SeesAll inner other → StmtWritesNarrow z first → (Within (stmt_sum weight inner t) (stmt_sum wide inner t) (stmt_sum strange inner t) → StmtWritesNarrow other t)
    → (x y p : ℕ) → Within (x + maybe_sum weight inner test + maybe_sum weight inner step + stmt_sum weight inner t) (y + maybe_sum wide inner test + maybe_sum wide inner step + stmt_sum wide inner t) (p + maybe_sum strange inner test + maybe_sum strange inner step + stmt_sum strange inner t)
    → StmtWritesNarrow z first × MaybeWritesNarrow other test × MaybeWritesNarrow other step × StmtWritesNarrow other t
for_parts first test step t s z inner other a head body x y p h = (head, maybe_writes inner other a test (last _ _ _ (front _ _ _ (front _ _ _ h))), maybe_writes inner other a step (last _ _ _ (front _ _ _ h)), body (last _ _ _ h))

block_for : (ss : CStmts) (test step : Option CExpr) (t : CStmt) → Writes (plain.Block ss) → Writes t → Writes (plain.For (plain.Block ss) test step t)
block_for ss test step t head body s z w r a k e h =
    let list : Judged Scope = all_stated (entered s) w ss in
    let inner : Scope = scope_or s list in
    let l = three_is list (both (maybe_judged inner test) (maybe_judged inner step) (λ a _. Ok a)) (stated inner (in_loop w) t) (λ _ a _. keeping (test_rules a) s) r e in
    let m = block_sees ss (entered s) (entered z) w l.0 (entered_sees s z a) k.1 l.1.1.1 in
    let there : inner ≡ scope_behind_all (entered s) ss = ap (λ j. scope_or s j) l.1.1.1 ∙ sym m.behind in
    let typed : stated (scope_behind_all (entered s) ss) (in_loop w) t ≡ Ok l.1.1.0 = subst (λ x. stated x (in_loop w) t ≡ Ok l.1.1.0) there l.1.1.3 in
    let block : stated s w (plain.Block ss) ≡ Ok s = ap (λ q. after {A = Scope} {B = Scope} q (λ _. Ok s)) l.1.1.1 in
    for_parts (plain.Block ss) test step t s z (scope_behind_all (entered s) ss) (scope_behind_all (entered z) ss) m.sees (head s z w s a k.1 block (last _ _ _ (front _ _ _ (front _ _ _ (front _ _ _ h)))))
    (λ g. body (scope_behind_all (entered s) ss) (scope_behind_all (entered z) ss) (in_loop w) l.1.1.0 m.sees k.4 typed g) _ _ _ h

other_for : (first : CStmt) (test step : Option CExpr) (t : CStmt) (s z : Scope) (w : Around) (r : Scope) → Writes first → Writes t → SeesAll s z → Short first → Short t → all_three (stated s w first) (both (maybe_judged s test) (maybe_judged s step) (λ a _. Ok a)) (stated s (in_loop w) t) (λ _ a _. keeping (test_rules a) s) ≡ Ok r
    → (x y p : ℕ) → Within (x + stmt_sum weight s first + maybe_sum weight s test + maybe_sum weight s step + stmt_sum weight s t) (y + stmt_sum wide s first + maybe_sum wide s test + maybe_sum wide s step + stmt_sum wide s t) (p + stmt_sum strange s first + maybe_sum strange s test + maybe_sum strange s step + stmt_sum strange s t)
    → StmtWritesNarrow z first × MaybeWritesNarrow z test × MaybeWritesNarrow z step × StmtWritesNarrow z t
other_for first test step t s z w r head body a kf kt e x y p h =
    let l = three_is (stated s w first) (both (maybe_judged s test) (maybe_judged s step) (λ a _. Ok a)) (stated s (in_loop w) t) (λ _ a _. keeping (test_rules a) s) r e in
    for_parts first test step t s z s z a (head s z w l.0 a kf l.1.1.1 (last _ _ _ (front _ _ _ (front _ _ _ (front _ _ _ h))))) (λ g. body s z (in_loop w) l.1.1.0 a kt l.1.1.3 g) _ _ _ h

for_writes : (first : CStmt) (test step : Option CExpr) (t : CStmt) → Writes first → Writes t → Writes (plain.For first test step t)
for_writes (plain.Block ss) test step t head body s z w r a k e h = block_for ss test step t head body s z w r a k e h
for_writes (plain.Local d) test step t head body s z w r a k e h = absurd (cc k.0)
for_writes first test step t head body s z w r a k e h = other_for first test step t s z w r head body a k.1 k.4 e 1 0 0 h

-- parts that are judged
abbrev PartsAreJudged : Scope → Around → CParts → Type 0
PartsAreJudged s w ps = (labels : List CaseLabel) × (all_parts s w ps ≡ Ok labels)

label_stays : (s : Scope) (at : ℕ) (r : Judged (Option Operand)) → part_scope_or s (after r (λ a. Ok (record { scope = s; labels = record { pos = at; value = a } ∷ [] }))) ≡ s
label_stays s at (Ok o) = refl
label_stays s at (Err e) = refl

item_goes : (s : Scope) (r : Judged Scope) (inner : Scope) → r ≡ Ok inner → part_scope_or s (after r (λ inner. Ok (record { scope = inner; labels = [] }))) ≡ inner
item_goes s r inner e = ap (λ q. part_scope_or s (after q (λ inner. Ok (record { scope = inner; labels = [] })))) e

mutual
  stmt_writes : (t : CStmt) → Writes t
  stmt_writes (plain.Block ss) s z w r a k e h = let l = after_is (all_stated (entered s) w ss) (λ _. Ok s) r e in all_write ss (entered s) (entered z) w l.0 (entered_sees s z a) k l.1 (last _ _ _ h)
  stmt_writes (plain.Local d) s z w r a k e h = local_writes s z d r a e (last _ _ _ h)
  stmt_writes (plain.Do_expr x) s z w r a k e h = expr_writes s z a x (last _ _ _ h)
  stmt_writes plain.Empty s z w r a k e h = tt
  stmt_writes (plain.If x t) s z w r a k e h = let l = both_is (judged s x) (stated s w t) (λ a _. keeping (condition_rules a) s) r e in (expr_writes s z a x (last _ _ _ (front _ _ _ h)), stmt_writes t s z w l.1.0 a k.1 l.1.2 (last _ _ _ h))
  stmt_writes (plain.IfElse x t u) s z w r a k e h =
      let l = three_is (judged s x) (stated s w t) (stated s w u) (λ a _ _. keeping (condition_rules a) s) r e in
      (expr_writes s z a x (last _ _ _ (front _ _ _ (front _ _ _ h))), stmt_writes t s z w l.1.0 a k.1 l.1.1.2 (last _ _ _ (front _ _ _ h)), stmt_writes u s z w l.1.1.0 a k.2 l.1.1.3 (last _ _ _ h))
  stmt_writes (plain.While x t) s z w r a k e h = let l = both_is (judged s x) (stated s (in_loop w) t) (λ a _. keeping (condition_rules a) s) r e in (expr_writes s z a x (last _ _ _ (front _ _ _ h)), stmt_writes t s z (in_loop w) l.1.0 a k.1 l.1.2 (last _ _ _ h))
  stmt_writes (plain.Do t x) s z w r a k e h = let l = both_is (judged s x) (stated s (in_loop w) t) (λ a _. keeping (condition_rules a) s) r e in (stmt_writes t s z (in_loop w) l.1.0 a k.1 l.1.2 (last _ _ _ (front _ _ _ h)), expr_writes s z a x (last _ _ _ h))
  stmt_writes (plain.For first test step t) s z w r a k e h = for_writes first test step t (λ s z w r a k e h. stmt_writes first s z w r a k e h) (λ s z w r a k e h. stmt_writes t s z w r a k e h) s z w r a k e h
  stmt_writes (plain.Return at x) s z w r a k e h = maybe_writes s z a x (last _ _ _ h)
  stmt_writes (plain.Break at) s z w r a k e h = tt
  stmt_writes (plain.Continue at) s z w r a k e h = tt
  stmt_writes (plain.Switch x ps) s z w r a k e h =
      let l = both_is (judged s x) (all_parts (entered s) (in_switch w) ps) (λ a labels. keeping (switch_rules a labels) s) r e in
      (expr_writes s z a x (last _ _ _ (front _ _ _ h)), parts_write ps (entered s) (entered z) (in_switch w) (entered_sees s z a) k.1 (l.1.0, l.1.2) (last _ _ _ h))

  all_write : (ss : CStmts) (s z : Scope) (w : Around) (r : Scope) → SeesAll s z → StmtsHave StringsAreShort IsDeclaration ss → all_stated s w ss ≡ Ok r → Within (stmts_sum weight s ss) (stmts_sum wide s ss) (stmts_sum strange s ss) → StmtsWriteNarrow z ss
  all_write plain.NoStmt s z w r a k e h = tt
  all_write (plain.MoreStmt t ts) s z w r a k e h =
      let l = both_is (stated s w t) (all_stated (scope_or s (stated s w t)) w ts) (λ _ inner. Ok inner) r e in
      let inner : all_stated (scope_behind s t) w ts ≡ Ok l.1.0 = subst (λ x. all_stated x w ts ≡ Ok l.1.0) (ap (λ q. scope_or s q) l.1.1 ∙ sym (stated_behind s w t l.0 l.1.1)) l.1.2 in
      (stmt_writes t s z w l.0 a k.0 l.1.1 (front _ _ _ h), all_write ts (scope_behind s t) (scope_behind z t) w l.1.0 (behind_sees s z w t l.0 a k.0 l.1.1) k.1 inner (last _ _ _ h))

  parts_write : (ps : CParts) (s z : Scope) (w : Around) → SeesAll s z → PartsHave StringsAreShort IsDeclaration ps → PartsAreJudged s w ps → Within (parts_sum weight s ps) (parts_sum wide s ps) (parts_sum strange s ps) → PartsWriteNarrow z ps
  parts_write plain.NoPart s z w a k e h = tt
  parts_write (plain.MorePart (plain.Label at x) ps) s z w a k e h =
      let l = both_is (part_judged s w (plain.Label at x)) (all_parts (part_scope_or s (part_judged s w (plain.Label at x))) w ps) (λ (part : PartJudged) labels. Ok (part.labels ++ labels)) e.0 e.1 in
      let stays : part_scope_or s (part_judged s w (plain.Label at x)) ≡ s = label_stays s at (maybe_judged s x) in
      (tt, parts_write ps s z w a k.1 (l.1.0, subst (λ y. all_parts y w ps ≡ Ok l.1.0) stays l.1.2) (last _ _ _ h))
  parts_write (plain.MorePart (plain.Item t) ps) s z w a k e h =
      let l = both_is (part_judged s w (plain.Item t)) (all_parts (part_scope_or s (part_judged s w (plain.Item t))) w ps) (λ (part : PartJudged) labels. Ok (part.labels ++ labels)) e.0 e.1 in
      let m = after_is (stated s w t) (λ inner. Ok (record { scope = inner; labels = [] })) l.0 l.1.1 in
      let goes : part_scope_or s (part_judged s w (plain.Item t)) ≡ scope_behind s t = item_goes s (stated s w t) m.0 m.1 ∙ sym (stated_behind s w t m.0 m.1) in
      (stmt_writes t s z w m.0 a k.0 m.1 (last _ _ _ (front _ _ _ h)), parts_write ps (scope_behind s t) (scope_behind z t) w (behind_sees s z w t m.0 a k.0 m.1) k.1 (l.1.0, subst (λ y. all_parts y w ps ≡ Ok l.1.0) goes l.1.2) (last _ _ _ h))

pub statement_writes : (t : CStmt) → Writes t
statement_writes t s z w r a k e h = stmt_writes t s z w r a k e h

pub block_writes : (ss : CStmts) (s z : Scope) (w : Around) (r : Scope) → SeesAll s z → StmtsHave StringsAreShort IsDeclaration ss → all_stated s w ss ≡ Ok r → Within (stmts_sum weight s ss) (stmts_sum wide s ss) (stmts_sum strange s ss) → StmtsWriteNarrow z ss
block_writes ss s z w r a k e h = all_write ss s z w r a k e h
