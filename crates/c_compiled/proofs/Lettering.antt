-- The literals of a statement, expression by expression.
use Rattle.std.proofs.Common.{◌≡◌, ℕ, ◌+◌, Bool, true, false, List, ◌++◌, length, Option, Some, None, refl, sym, ap, ◌∙◌, subst, arith}
use Rattle.std.proofs.Common.{length-append}
use Rattle.c_syntax.specs.Plain.{CExpr, Number, Str, Null, Var, Unary, Step, Binary, Assign, Cond as Choice, Comma, Cast, SizeTy, SizeOf, Index, Call, Member, Arrow, CValue, CValues, One, Many, NoValue, MoreValue, CDecl, CStmt, CStmts, NoStmt, MoreStmt, Block, Local, Do_expr, Empty, If, IfElse, While, Do, For, Return, Break, Continue, Switch, CParts, NoPart, MorePart, Label, Item}
use Rattle.c_syntax.specs.declared.tree.StepOp.TheVariants as step
use Rattle.c_types.specs.Types.{CType}
use Rattle.c_types.specs.Scope.{Scope, entered}
use Rattle.c_types.specs.Declarations.{Slots, first_slot, next_slots, slots_of, takes_string}
use Rattle.c_types.specs.Census.{scope_behind, scope_behind_all}
use Rattle.c_eval.specs.Environment.{object_type_in, type_or_nothing, Environment, past, past_maybe, past_value, past_first, declaring, past_stmt, behind, behind_all, in_block}
use Rattle.c_eval.specs.LiteralsIn.{literals_in, value_literals, values_literals, maybe_literals, first_literals, stmt_literals, stmts_literals, parts_literals}
use Rattle.c_eval.specs.Eval.{array_text}
use Rattle.c_lowered.specs.Expressions.{unused}
use Rattle.c_memory.specs.Lies.{Ground}
use Rattle.c_landing.specs.Few.{LiteralsAre}
use Rattle.c_valued.proofs.Parts.{literals_left, literals_right}
use Rattle.c_stated.specs.Statements.{MaybeHas, EffectHas, WhereTaken, AreWords, FirstHas, FirstsHas, MaybeFirstHas, DeclaresNothing, StmtHas, StmtsHas, PartsHas}
use Rattle.c_stated.proofs.Parts.{first_scope}
use Rattle.c_stated.specs.Texts.{ExprIs}
use Rattle.c_compiled.specs.Lettered.{OperatorsAre, StatementsAreLettered}

-- ---- what stands behind

first_before : (v : Option CValue) (site : Environment) → (past_first v site).literals_before ≡ site.literals_before + length (first_literals site.scope v)
first_before None site = omega arith
first_before (Some v) site = refl

maybe_scope : (e : Option CExpr) (site : Environment) → (past_maybe e site).scope ≡ site.scope
maybe_scope None site = refl
maybe_scope (Some e) site = refl

maybe_before : (e : Option CExpr) (site : Environment) → (past_maybe e site).literals_before ≡ site.literals_before + length (maybe_literals site.scope e)
maybe_before None site = omega arith
maybe_before (Some e) site = refl

behind_scope : (t : CStmt) (site : Environment) → (behind t site).scope ≡ scope_behind site.scope t
behind_scope (Local d) site = first_scope d.first (declaring d site)
behind_scope (Block ss) site = refl
behind_scope (Do_expr e) site = refl
behind_scope Empty site = refl
behind_scope (If e a) site = refl
behind_scope (IfElse e a b) site = refl
behind_scope (While e a) site = refl
behind_scope (Do a e) site = refl
behind_scope (For x y z a) site = refl
behind_scope (Return at e) site = refl
behind_scope (Break at) site = refl
behind_scope (Continue at) site = refl
behind_scope (Switch e ps) site = refl

behind_before : (t : CStmt) (site : Environment) → (behind t site).literals_before ≡ site.literals_before + length (stmt_literals site.scope t)
behind_before (Local d) site = first_before d.first (declaring d site)
behind_before (Block ss) site = refl
behind_before (Do_expr e) site = refl
behind_before Empty site = refl
behind_before (If e a) site = refl
behind_before (IfElse e a b) site = refl
behind_before (While e a) site = refl
behind_before (Do a e) site = refl
behind_before (For x y z a) site = refl
behind_before (Return at e) site = refl
behind_before (Break at) site = refl
behind_before (Continue at) site = refl
behind_before (Switch e ps) site = refl

all_scope : (ts : CStmts) (site : Environment) → (behind_all ts site).scope ≡ scope_behind_all site.scope ts
all_scope NoStmt site = refl
all_scope (MoreStmt t ts) site = all_scope ts (behind t site) ∙ ap (λ z. scope_behind_all z ts) (behind_scope t site)

all_before : (ts : CStmts) (site : Environment) → (behind_all ts site).literals_before ≡ site.literals_before + length (stmts_literals site.scope ts)
all_before NoStmt site = omega arith
all_before (MoreStmt t ts) site =
    let rest = all_before ts (behind t site) in
    let here = behind_before t site in
    let same : length (stmts_literals (behind t site).scope ts) ≡ length (stmts_literals (scope_behind site.scope t) ts) = ap (λ z. length (stmts_literals z ts)) (behind_scope t site) in
    let sum = length-append (stmt_literals site.scope t) (stmts_literals (scope_behind site.scope t) ts) in
    omega (arith, rest, here, same, sum)

unused_literals : (e : CExpr) (s : Scope) → literals_in s (unused e) ≡ literals_in s e
unused_literals (Step at step.PostInc a) s = refl
unused_literals (Step at step.PostDec a) s = refl
unused_literals (Step at step.PreInc a) s = refl
unused_literals (Step at step.PreDec a) s = refl
unused_literals (Number at n x) s = refl
unused_literals (Str at text) s = refl
unused_literals (Null at) s = refl
unused_literals (Var at name) s = refl
unused_literals (Unary at op a) s = refl
unused_literals (Binary at op a b) s = refl
unused_literals (Assign at op a b) s = refl
unused_literals (Choice at a b c) s = refl
unused_literals (Comma at a b) s = refl
unused_literals (Cast at t a) s = refl
unused_literals (SizeTy at t) s = refl
unused_literals (SizeOf at a) s = refl
unused_literals (Index at a b) s = refl
unused_literals (Call at f es) s = refl
unused_literals (Member at a m) s = refl
unused_literals (Arrow at a m) s = refl

module _ (g : Ground) (owner : Option (List ℕ)) (E F : CExpr → Environment → Type 0) (f : (e : CExpr) (site : Environment) → E e site → LiteralsAre g owner (literals_in site.scope e) site.literals_before → F e site) where
  abbrev L : List (List ℕ) → ℕ → Type 0
  L texts before = LiteralsAre g owner texts before

  abbrev D : CDecl → Environment → Type 0
  D d site = MaybeFirstHas E (object_type_in site.scope d) d.first (declaring d site)

  abbrev G : CDecl → Environment → Type 0
  G d site = MaybeFirstHas F (object_type_in site.scope d) d.first (declaring d site)

  left : (xs ys : List (List ℕ)) (before : ℕ) → L (xs ++ ys) before → L xs before
  left xs ys before l = literals_left g owner xs ys before l

  right : (xs ys : List (List ℕ)) (before : ℕ) → L (xs ++ ys) before → L ys (before + length xs)
  right xs ys before l = literals_right g owner xs ys before l

  -- the same literals, told of another scope and number
  moved : (texts : Scope → List (List ℕ)) (s s' : Scope) (n n' : ℕ) → s' ≡ s → n' ≡ n → L (texts s) n → L (texts s') n'
  moved texts s s' n n' e i l = subst (λ z. L (texts z) n') (sym e) (subst (λ z. L (texts s) z) (sym i) l)

  taken : (b : Bool) (T : Type 0) (e : CExpr) (site : Environment) → L (literals_in site.scope e) site.literals_before → WhereTaken b T (E e site) → WhereTaken b T (F e site)
  taken true T e site l h = h
  taken false T e site l h = f e site h l

  mutual
    first_has : (v : CValue) (t : CType) (site : Environment) → FirstHas E t v site → L (value_literals site.scope v) site.literals_before → FirstHas F t v site
    first_has (One e) t site h l = taken (takes_string t e) (AreWords (array_text t e)) e site l h
    first_has (Many vs) t site h l = firsts_have vs (slots_of site.scope.tags (Some t)) site h l

    firsts_have : (vs : CValues) (slots : Slots) (site : Environment) → FirstsHas E slots vs site → L (values_literals site.scope vs) site.literals_before → FirstsHas F slots vs site
    firsts_have NoValue slots site h l = tt
    firsts_have (MoreValue v vs) slots site h l = (
      first_has v (type_or_nothing (first_slot slots)) site h.0 (left (value_literals site.scope v) (values_literals site.scope vs) site.literals_before l),
      firsts_have vs (next_slots slots) (past_value v site) h.1 (right (value_literals site.scope v) (values_literals site.scope vs) site.literals_before l),
    )

  maybe_first_has : (v : Option CValue) (t : CType) (site : Environment) → MaybeFirstHas E t v site → L (first_literals site.scope v) site.literals_before → MaybeFirstHas F t v site
  maybe_first_has None t site h l = tt
  maybe_first_has (Some v) t site h l = first_has v t site h l

  maybe_has : (e : Option CExpr) (site : Environment) → MaybeHas E e site → L (maybe_literals site.scope e) site.literals_before → MaybeHas F e site
  maybe_has None site h l = tt
  maybe_has (Some e) site h l = f e site h l

  unused_has : (e : CExpr) (site : Environment) → E (unused e) site → L (literals_in site.scope e) site.literals_before → F (unused e) site
  unused_has e site h l = f (unused e) site h (subst (λ z. L z site.literals_before) (sym (unused_literals e site.scope)) l)

  effect_has : (e : Option CExpr) (site : Environment) → EffectHas E e site → L (maybe_literals site.scope e) site.literals_before → EffectHas F e site
  effect_has None site h l = tt
  effect_has (Some e) site h l = unused_has e site h l

  -- what is behind the head of a `for`
  abbrev turns : (test step : Option CExpr) → CStmt → Scope → List (List ℕ)
  turns test step t s = maybe_literals s test ++ (maybe_literals s step ++ stmt_literals s t)

  abbrev Turns : (CExpr → Environment → Type 0) → (CDecl → Environment → Type 0) → (test step : Option CExpr) → CStmt → Environment → Type 0
  Turns E D test step t inner = MaybeHas E test inner × EffectHas E step (past_maybe test inner) × DeclaresNothing t × StmtHas E D t (past_maybe step (past_maybe test inner))

  turns_have : (test step : Option CExpr) (t : CStmt) → ((site : Environment) → StmtHas E D t site → L (stmt_literals site.scope t) site.literals_before → StmtHas F G t site) → (inner : Environment) → Turns E D test step t inner → L (turns test step t inner.scope) inner.literals_before → Turns F G test step t inner
  turns_have test step t body inner h l =
      let s = inner.scope in
      let one = past_maybe test inner in
      let two = past_maybe step one in
      let behind_test = moved (λ z. maybe_literals z step ++ stmt_literals z t) s one.scope (inner.literals_before + length (maybe_literals s test)) one.literals_before (maybe_scope test inner) (maybe_before test inner) (right (maybe_literals s test) (maybe_literals s step ++ stmt_literals s t) inner.literals_before l) in
      let behind_step = moved (λ z. stmt_literals z t) one.scope two.scope (one.literals_before + length (maybe_literals one.scope step)) two.literals_before (maybe_scope step one) (maybe_before step one) (right (maybe_literals one.scope step) (stmt_literals one.scope t) one.literals_before behind_test) in (
        maybe_has test inner h.0 (left (maybe_literals s test) (maybe_literals s step ++ stmt_literals s t) inner.literals_before l),
        effect_has step one h.1 (left (maybe_literals one.scope step) (stmt_literals one.scope t) one.literals_before behind_test),
        h.2,
        body two h.3 behind_step,
      )

  mutual
    stmt_has : (t : CStmt) (site : Environment) → StmtHas E D t site → L (stmt_literals site.scope t) site.literals_before → StmtHas F G t site
    stmt_has (Block ss) site h l = stmts_have ss (in_block 0 site) h l
    stmt_has (Local d) site h l = (h.0, maybe_first_has d.first (object_type_in site.scope d) (declaring d site) h.1 l)
    stmt_has (Do_expr e) site h l = unused_has e site h l
    stmt_has Empty site h l = tt
    stmt_has (If e t) site h l = (f e site h.0 (left (literals_in site.scope e) (stmt_literals site.scope t) site.literals_before l), h.1, stmt_has t (past e site) h.2 (right (literals_in site.scope e) (stmt_literals site.scope t) site.literals_before l))
    stmt_has (IfElse e t v) site h l =
        let s = site.scope in
        let rest = right (literals_in s e) (stmt_literals s t ++ stmt_literals s v) site.literals_before l in (
          f e site h.0 (left (literals_in s e) (stmt_literals s t ++ stmt_literals s v) site.literals_before l),
          h.1,
          h.2,
          stmt_has t (past e site) h.3 (left (stmt_literals s t) (stmt_literals s v) _ rest),
          stmt_has v (past_stmt t (past e site)) h.4 (right (stmt_literals s t) (stmt_literals s v) _ rest),
        )
    stmt_has (While e t) site h l = (f e site h.0 (left (literals_in site.scope e) (stmt_literals site.scope t) site.literals_before l), h.1, stmt_has t (past e site) h.2 (right (literals_in site.scope e) (stmt_literals site.scope t) site.literals_before l))
    stmt_has (Do t e) site h l =
        (h.0, stmt_has t site h.1 (left (stmt_literals site.scope t) (literals_in site.scope e) site.literals_before l), f e (past_stmt t site) h.2 (right (stmt_literals site.scope t) (literals_in site.scope e) site.literals_before l))
    stmt_has (For (Block ss) test step t) site h l =
        let inner = behind_all ss (in_block 0 site) in
        let s = scope_behind_all (entered site.scope) ss in
        let rest = moved (turns test step t) s inner.scope (site.literals_before + length (stmts_literals (entered site.scope) ss)) inner.literals_before (all_scope ss (in_block 0 site)) (all_before ss (in_block 0 site)) (right (stmts_literals (entered site.scope) ss) (turns test step t s) site.literals_before l) in
        let more = turns_have test step t (λ site h l. stmt_has t site h l) inner (h.1, h.2, h.3, h.4) rest in
        (stmts_have ss (in_block 0 site) h.0 (left (stmts_literals (entered site.scope) ss) (turns test step t s) site.literals_before l), more.0, more.1, more.2, more.3)
    stmt_has (For (Local d) test step t) site h l = absurd h.0
    stmt_has (For (Do_expr e) test step t) site h l =
        let more = turns_have test step t (λ site h l. stmt_has t site h l) (behind (Do_expr e) site) (h.2, h.3, h.4, h.5) (right (stmt_literals site.scope (Do_expr e)) (turns test step t site.scope) site.literals_before l) in
        (h.0, stmt_has (Do_expr e) site h.1 (left (stmt_literals site.scope (Do_expr e)) (turns test step t site.scope) site.literals_before l), more.0, more.1, more.2, more.3)
    stmt_has (For Empty test step t) site h l =
        let more = turns_have test step t (λ site h l. stmt_has t site h l) (behind Empty site) (h.2, h.3, h.4, h.5) (right (stmt_literals site.scope Empty) (turns test step t site.scope) site.literals_before l) in
        (h.0, stmt_has Empty site h.1 (left (stmt_literals site.scope Empty) (turns test step t site.scope) site.literals_before l), more.0, more.1, more.2, more.3)
    stmt_has (For (If e a) test step t) site h l =
        let more = turns_have test step t (λ site h l. stmt_has t site h l) (behind (If e a) site) (h.2, h.3, h.4, h.5) (right (stmt_literals site.scope (If e a)) (turns test step t site.scope) site.literals_before l) in
        (h.0, stmt_has (If e a) site h.1 (left (stmt_literals site.scope (If e a)) (turns test step t site.scope) site.literals_before l), more.0, more.1, more.2, more.3)
    stmt_has (For (IfElse e a b) test step t) site h l =
        let more = turns_have test step t (λ site h l. stmt_has t site h l) (behind (IfElse e a b) site) (h.2, h.3, h.4, h.5) (right (stmt_literals site.scope (IfElse e a b)) (turns test step t site.scope) site.literals_before l) in
        (h.0, stmt_has (IfElse e a b) site h.1 (left (stmt_literals site.scope (IfElse e a b)) (turns test step t site.scope) site.literals_before l), more.0, more.1, more.2, more.3)
    stmt_has (For (While e a) test step t) site h l =
        let more = turns_have test step t (λ site h l. stmt_has t site h l) (behind (While e a) site) (h.2, h.3, h.4, h.5) (right (stmt_literals site.scope (While e a)) (turns test step t site.scope) site.literals_before l) in
        (h.0, stmt_has (While e a) site h.1 (left (stmt_literals site.scope (While e a)) (turns test step t site.scope) site.literals_before l), more.0, more.1, more.2, more.3)
    stmt_has (For (Do a e) test step t) site h l =
        let more = turns_have test step t (λ site h l. stmt_has t site h l) (behind (Do a e) site) (h.2, h.3, h.4, h.5) (right (stmt_literals site.scope (Do a e)) (turns test step t site.scope) site.literals_before l) in
        (h.0, stmt_has (Do a e) site h.1 (left (stmt_literals site.scope (Do a e)) (turns test step t site.scope) site.literals_before l), more.0, more.1, more.2, more.3)
    stmt_has (For (For x y z a) test step t) site h l =
        let more = turns_have test step t (λ site h l. stmt_has t site h l) (behind (For x y z a) site) (h.2, h.3, h.4, h.5) (right (stmt_literals site.scope (For x y z a)) (turns test step t site.scope) site.literals_before l) in
        (h.0, stmt_has (For x y z a) site h.1 (left (stmt_literals site.scope (For x y z a)) (turns test step t site.scope) site.literals_before l), more.0, more.1, more.2, more.3)
    stmt_has (For (Return at e) test step t) site h l =
        let more = turns_have test step t (λ site h l. stmt_has t site h l) (behind (Return at e) site) (h.2, h.3, h.4, h.5) (right (stmt_literals site.scope (Return at e)) (turns test step t site.scope) site.literals_before l) in
        (h.0, stmt_has (Return at e) site h.1 (left (stmt_literals site.scope (Return at e)) (turns test step t site.scope) site.literals_before l), more.0, more.1, more.2, more.3)
    stmt_has (For (Break at) test step t) site h l =
        let more = turns_have test step t (λ site h l. stmt_has t site h l) (behind (Break at) site) (h.2, h.3, h.4, h.5) (right (stmt_literals site.scope (Break at)) (turns test step t site.scope) site.literals_before l) in
        (h.0, stmt_has (Break at) site h.1 (left (stmt_literals site.scope (Break at)) (turns test step t site.scope) site.literals_before l), more.0, more.1, more.2, more.3)
    stmt_has (For (Continue at) test step t) site h l =
        let more = turns_have test step t (λ site h l. stmt_has t site h l) (behind (Continue at) site) (h.2, h.3, h.4, h.5) (right (stmt_literals site.scope (Continue at)) (turns test step t site.scope) site.literals_before l) in
        (h.0, stmt_has (Continue at) site h.1 (left (stmt_literals site.scope (Continue at)) (turns test step t site.scope) site.literals_before l), more.0, more.1, more.2, more.3)
    stmt_has (For (Switch e ps) test step t) site h l =
        let more = turns_have test step t (λ site h l. stmt_has t site h l) (behind (Switch e ps) site) (h.2, h.3, h.4, h.5) (right (stmt_literals site.scope (Switch e ps)) (turns test step t site.scope) site.literals_before l) in
        (h.0, stmt_has (Switch e ps) site h.1 (left (stmt_literals site.scope (Switch e ps)) (turns test step t site.scope) site.literals_before l), more.0, more.1, more.2, more.3)
    stmt_has (Return at e) site h l = maybe_has e site h l
    stmt_has (Break at) site h l = tt
    stmt_has (Continue at) site h l = tt
    stmt_has (Switch e ps) site h l =
        let s = site.scope in
        (f e site h.0 (left (literals_in s e) (parts_literals (entered s) ps) site.literals_before l), h.1, parts_have ps (in_block 0 (past e site)) h.2 (right (literals_in s e) (parts_literals (entered s) ps) site.literals_before l))

    stmts_have : (ts : CStmts) (site : Environment) → StmtsHas E D ts site → L (stmts_literals site.scope ts) site.literals_before → StmtsHas F G ts site
    stmts_have NoStmt site h l = tt
    stmts_have (MoreStmt t ts) site h l =
        let s = site.scope in
        let next = scope_behind s t in
        let rest = moved (λ z. stmts_literals z ts) next (behind t site).scope (site.literals_before + length (stmt_literals s t)) (behind t site).literals_before (behind_scope t site) (behind_before t site) (right (stmt_literals s t) (stmts_literals next ts) site.literals_before l) in
        (stmt_has t site h.0 (left (stmt_literals s t) (stmts_literals next ts) site.literals_before l), stmts_have ts (behind t site) h.1 rest)

    parts_have : (ps : CParts) (site : Environment) → PartsHas E D ps site → L (parts_literals site.scope ps) site.literals_before → PartsHas F G ps site
    parts_have NoPart site h l = tt
    parts_have (MorePart (Label at e) ps) site h l = parts_have ps site h l
    parts_have (MorePart (Item t) ps) site h l =
        let s = site.scope in
        let next = scope_behind s t in
        let rest = moved (λ z. parts_literals z ps) next (behind t site).scope (site.literals_before + length (stmt_literals s t)) (behind t site).literals_before (behind_scope t site) (behind_before t site) (right (stmt_literals s t) (parts_literals next ps) site.literals_before l) in
        (stmt_has t site h.0 (left (stmt_literals s t) (parts_literals next ps) site.literals_before l), parts_have ps (behind t site) h.1 rest)

-- ---- as lowering asks

pub statements_are_lettered : StatementsAreLettered
statements_are_lettered S w may t site h l = stmt_has S.ground w.owner (λ e site. OperatorsAre S.ground.valued may e site) (λ e site. ExprIs S w may e site) (λ e site h l. (h.0, h.1, l)) t site h l
