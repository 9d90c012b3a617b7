-- Trees of helper functions, judged by computing.
use Rattle.std.proofs.Common.{◌≡◌, ℕ, ◌+◌, ◌≤◌, Bool, true, false, List, [], ◌∷◌, ◌++◌, Option, Some, None, refl, arith}
use Rattle.std.specs.Prelude.{not, ◌&&◌, ◌||◌, ◌==◌, nat_lt, nat_le, if◌then◌else◌}
use Rattle.std.proofs.lemmas.Bool.Decides.{nat_tests}
use Rattle.std.proofs.lemmas.Bool.{and_parts}
use Rattle.c_syntax.specs.Plain.{CExpr, CExprs, NoExpr, MoreExpr, Number, Str, Null, Var, Unary, Step, Binary, Assign, Cond as Choice, Comma, Cast, SizeTy, SizeOf, Index, Call, Member, Arrow, CValue, One, Many, CDecl, CStmt, CStmts, NoStmt, MoreStmt, Block, Local, Do_expr, Empty, If, IfElse, While, Do, For, Return, Break, Continue, Switch}
use Rattle.c_syntax.specs.declared.tree.UnOp.{UnOp}
use Rattle.c_syntax.specs.declared.tree.UnOp.TheVariants as unary
use Rattle.c_syntax.specs.declared.tree.BinOp.{BinOp}
use Rattle.c_syntax.specs.declared.tree.BinOp.TheVariants as binary
use Rattle.c_types.specs.Types.{CType, is_pointer, Tags, words_of}
use Rattle.c_types.specs.Scope.{Scope, Entity, Object, Routine, BuiltIn, Printf, entity_of}
use Rattle.c_types.specs.Declarations.{takes_string}
use Rattle.c_eval.specs.Operators.{element_words}
use Rattle.c_eval.specs.Environment.{value_type_in, object_type_in, Environment, past, declaring, behind, in_block, Callee, Direct, Known, Format, Through, callee_in}
use Rattle.c_eval.specs.LiteralsIn.{names_printf, literals_in, literals_in_all, literals_behind}
use Rattle.c_eval.specs.Eval.{World, array_text}
use Rattle.c_helpers.specs.Frames.{beyond, waiting_all}
use Rattle.c_lowered.specs.Expressions.{known_name, unused}
use Rattle.c_landing.specs.Landing.{Setting}
use Rattle.c_landing.specs.Few.{words_there, LiteralsAre, NameIsFew, IsNarrow, SidesAreNarrow, UnaryIsFew, BinaryIsFew, IsFew}
use Rattle.c_valued.specs.Calls.{KnownIsFunction, HasWords, OfPointer, CallsAre, ArgumentsAre}
use Rattle.c_stated.specs.Statements.{WhereTaken, AreWords, MaybeFirstHas, DeclaresNothing, StmtsHas}
use Rattle.c_stated.specs.Texts.{ExprIs, DeclarationIs, StatementIs}
use Rattle.c_followed.specs.Breaks.{BreaksAreIn, AllBreaksAreIn}

-- ---- by computing

abbrev pub is_object : Option Entity → Bool
is_object (Some (Object t)) = true
is_object _ = false

abbrev pub is_narrow : Tags → CType → Bool
is_narrow tags t = not (is_pointer t) || element_words tags t == 1

abbrev pub is_few_unary : UnOp → Bool
is_few_unary unary.Invert = false
is_few_unary op = true

abbrev pub is_few_binary : BinOp → Tags → CType → CType → Bool
is_few_binary binary.Add tags t u = is_narrow tags t && is_narrow tags u
is_few_binary binary.Sub tags t u = is_narrow tags t && is_narrow tags u
is_few_binary binary.And tags t u = true
is_few_binary binary.Or tags t u = true
is_few_binary binary.Eq tags t u = true
is_few_binary binary.Ne tags t u = true
is_few_binary binary.Lt tags t u = true
is_few_binary binary.Gt tags t u = true
is_few_binary binary.Le tags t u = true
is_few_binary binary.Ge tags t u = true
is_few_binary op tags t u = false

-- a function of the text, or one that is always known
abbrev pub is_named : Option (List ℕ) → Callee → Bool
is_named (Some known) (Direct name params) = true
is_named None (Direct name params) = true
is_named None (Known name params) = true
is_named _ _ = false

-- its words in its caller's frame have room
abbrev pub has_words : Callee → (waiting : ℕ) → Bool
has_words (Direct name params) n = nat_le (words_there name) n
has_words callee n = true

abbrev mutual
  -- the operators of an expression are few, it has no literal, and it calls what may be called
  pub few : (Callee → Bool) → Scope → CExpr → Bool
  few may s (Number at n unsigned) = true
  few may s (Null at) = true
  few may s (Var at name) = is_object (entity_of s name)
  few may s (Unary at op a) = is_few_unary op && few may s a
  few may s (Binary at op a b) = is_few_binary op s.tags (value_type_in s a) (value_type_in s b) && (few may s a && few may s b)
  few may s (Assign at None a b) = few may s a && few may s b
  few may s (Cast at t a) = few may s a
  few may s (Call at (Var pos name) es) = (may (callee_in s (Var pos name)) && is_named (known_name (Var pos name)) (callee_in s (Var pos name)) && has_words (callee_in s (Var pos name)) (waiting_all 1 (beyond (Var pos name)) es)) && all_few may s es
  few may s _ = false

  pub all_few : (Callee → Bool) → Scope → CExprs → Bool
  all_few may s NoExpr = true
  all_few may s (MoreExpr e es) = few may s e && all_few may s es

abbrev pub first_fits : (Callee → Bool) → CType → Option CValue → Scope → Bool
first_fits may t None s = true
first_fits may t (Some (One e)) s = not (takes_string t e) && few may s e
first_fits may t (Some (Many vs)) s = false

abbrev pub declares_nothing : CStmt → Bool
declares_nothing (Local d) = false
declares_nothing t = true

abbrev mutual
  -- so it is with each expression of a statement, in which nothing breaks
  pub fits : (Callee → Bool) → CStmt → Environment → Bool
  fits may (Block ss) site = all_fit may ss (in_block 0 site)
  fits may (Local d) site = nat_lt 0 (words_of site.scope.tags (object_type_in site.scope d)) && first_fits may (object_type_in site.scope d) d.first (declaring d site).scope
  fits may (Do_expr e) site = few may site.scope (unused e)
  fits may (If e t) site = few may site.scope e && (declares_nothing t && fits may t (past e site))
  fits may (While e t) site = few may site.scope e && (declares_nothing t && fits may t (past e site))
  fits may (Return at None) site = true
  fits may (Return at (Some e)) site = few may site.scope e
  fits may _ site = false

  pub all_fit : (Callee → Bool) → CStmts → Environment → Bool
  all_fit may NoStmt site = true
  all_fit may (MoreStmt t ts) site = fits may t site && all_fit may ts (behind t site)

-- ---- what that says

object_few : (valued : List ℕ → Bool) (name : List ℕ) (x : Option Entity) → is_object x ≡ true → NameIsFew valued name x
object_few valued name (Some (Object t)) h = tt
object_few valued name (Some (Routine t begun)) h = absurd (cc h)
object_few valued name (Some (BuiltIn t)) h = absurd (cc h)
object_few valued name (Some Printf) h = absurd (cc h)
object_few valued name None h = absurd (cc h)

narrow : (tags : Tags) (t : CType) → is_narrow tags t ≡ true → IsNarrow tags t
narrow tags t h p = by (is_pointer t) p h
  where
    by : (b : Bool) → b ≡ true → (not b || element_words tags t == 1) ≡ true → element_words tags t ≡ 1
    by true p h = grind (arith, h)
    by false p h = absurd (cc p)

unary_few : (op : UnOp) → is_few_unary op ≡ true → UnaryIsFew op
unary_few unary.Invert h = absurd (cc h)
unary_few unary.Address h = tt
unary_few unary.Deref h = tt
unary_few unary.Not h = tt
unary_few unary.Minus h = tt
unary_few unary.Plus h = tt

binary_few : (op : BinOp) (tags : Tags) (t u : CType) → is_few_binary op tags t u ≡ true → BinaryIsFew op × SidesAreNarrow op tags t u
binary_few binary.Add tags t u h = let b = and_parts _ _ h in (tt, (narrow tags t b.0, narrow tags u b.1))
binary_few binary.Sub tags t u h = let b = and_parts _ _ h in (tt, (narrow tags t b.0, narrow tags u b.1))
binary_few binary.And tags t u h = (tt, tt)
binary_few binary.Or tags t u h = (tt, tt)
binary_few binary.Eq tags t u h = (tt, tt)
binary_few binary.Ne tags t u h = (tt, tt)
binary_few binary.Lt tags t u h = (tt, tt)
binary_few binary.Gt tags t u h = (tt, tt)
binary_few binary.Le tags t u h = (tt, tt)
binary_few binary.Ge tags t u h = (tt, tt)
binary_few binary.Mul tags t u h = absurd (cc h)
binary_few binary.Div tags t u h = absurd (cc h)
binary_few binary.Mod tags t u h = absurd (cc h)
binary_few binary.Shl tags t u h = absurd (cc h)
binary_few binary.Shr tags t u h = absurd (cc h)
binary_few binary.BitAnd tags t u h = absurd (cc h)
binary_few binary.BitOr tags t u h = absurd (cc h)
binary_few binary.BitXor tags t u h = absurd (cc h)

known_function : (known : Option (List ℕ)) (c : Callee) → is_named known c ≡ true → KnownIsFunction known c
known_function None c h = tt
known_function (Some known) (Direct name params) h = tt
known_function (Some known) (Known name params) h = absurd (cc h)
known_function (Some known) Format h = absurd (cc h)
known_function (Some known) (Through params) h = absurd (cc h)

words_have : (c : Callee) (n : ℕ) → has_words c n ≡ true → HasWords c n
words_have (Direct name params) n h = grind (arith, nat_tests, h)
words_have (Known name params) n h = tt
words_have Format n h = tt
words_have (Through params) n h = tt

no_pointer : (T : Type 0) (known : Option (List ℕ)) (c : Callee) → is_named known c ≡ true → OfPointer c T
no_pointer T known (Direct name params) h = tt
no_pointer T known (Known name params) h = tt
no_pointer T known Format h = tt
no_pointer T None (Through params) h = absurd (cc h)
no_pointer T (Some known) (Through params) h = absurd (cc h)

module _ (valued : List ℕ → Bool) (may : Callee → Bool) where
  mutual
    is_few : (e : CExpr) (s : Scope) → few may s e ≡ true → IsFew e valued s
    is_few (Number at n x) s h = tt
    is_few (Str at text) s h = absurd (cc h)
    is_few (Null at) s h = tt
    is_few (Var at name) s h = object_few valued name (entity_of s name) h
    is_few (Unary at op a) s h = let b = and_parts _ _ h in (unary_few op b.0, is_few a s b.1)
    is_few (Step at op a) s h = absurd (cc h)
    is_few (Binary at op a b) s h =
        let p = and_parts _ _ h in
        let q = and_parts (few may s a) (few may s b) p.1 in
        let o = binary_few op s.tags (value_type_in s a) (value_type_in s b) p.0 in (o.0, o.1, is_few a s q.0, is_few b s q.1)
    is_few (Assign at None a b) s h = let q = and_parts (few may s a) (few may s b) h in (tt, tt, is_few a s q.0, is_few b s q.1)
    is_few (Assign at (Some op) a b) s h = absurd (cc h)
    is_few (Choice at a b c) s h = absurd (cc h)
    is_few (Comma at a b) s h = absurd (cc h)
    is_few (Cast at t a) s h = is_few a s h
    is_few (SizeTy at t) s h = absurd (cc h)
    is_few (SizeOf at a) s h = absurd (cc h)
    is_few (Index at a b) s h = absurd (cc h)
    is_few (Call at f es) s h = tt
    is_few (Member at a m) s h = absurd (cc h)
    is_few (Arrow at a m) s h = absurd (cc h)

    calls_are : (e : CExpr) (s : Scope) → few may s e ≡ true → CallsAre may valued e s
    calls_are (Number at n x) s h = tt
    calls_are (Str at text) s h = absurd (cc h)
    calls_are (Null at) s h = tt
    calls_are (Var at name) s h = tt
    calls_are (Unary at op a) s h = calls_are a s (and_parts _ _ h).1
    calls_are (Step at op a) s h = absurd (cc h)
    calls_are (Binary at op a b) s h = let q = and_parts (few may s a) (few may s b) (and_parts _ _ h).1 in (calls_are a s q.0, calls_are b s q.1)
    calls_are (Assign at None a b) s h = let q = and_parts (few may s a) (few may s b) h in (calls_are a s q.0, calls_are b s q.1)
    calls_are (Assign at (Some op) a b) s h = absurd (cc h)
    calls_are (Choice at a b c) s h = absurd (cc h)
    calls_are (Comma at a b) s h = absurd (cc h)
    calls_are (Cast at t a) s h = calls_are a s h
    calls_are (SizeTy at t) s h = absurd (cc h)
    calls_are (SizeOf at a) s h = absurd (cc h)
    calls_are (Index at a b) s h = absurd (cc h)
    calls_are (Call at (Var pos name) es) s h =
        let p = and_parts _ (all_few may s es) h in
        let r = and_parts _ (has_words (callee_in s (Var pos name)) (waiting_all 1 (beyond (Var pos name)) es)) p.0 in
        let q = and_parts (may (callee_in s (Var pos name))) _ r.0 in
        (q.0, known_function (known_name (Var pos name)) (callee_in s (Var pos name)) q.1, no_pointer _ (known_name (Var pos name)) (callee_in s (Var pos name)) q.1, arguments_are es s p.1, words_have (callee_in s (Var pos name)) (waiting_all 1 (beyond (Var pos name)) es) r.1)
    calls_are (Member at a m) s h = absurd (cc h)
    calls_are (Arrow at a m) s h = absurd (cc h)
    calls_are (Call pos (Number place n x) es) s h = absurd (cc h)
    calls_are (Call pos (Str place text) es) s h = absurd (cc h)
    calls_are (Call pos (Null at) es) s h = absurd (cc h)
    calls_are (Call pos (Unary place op a) es) s h = absurd (cc h)
    calls_are (Call pos (Step place op a) es) s h = absurd (cc h)
    calls_are (Call pos (Binary place op a b) es) s h = absurd (cc h)
    calls_are (Call pos (Assign place op a b) es) s h = absurd (cc h)
    calls_are (Call pos (Choice place a b c) es) s h = absurd (cc h)
    calls_are (Call pos (Comma place a b) es) s h = absurd (cc h)
    calls_are (Call pos (Cast place t a) es) s h = absurd (cc h)
    calls_are (Call pos (SizeTy place t) es) s h = absurd (cc h)
    calls_are (Call pos (SizeOf place a) es) s h = absurd (cc h)
    calls_are (Call pos (Index place a b) es) s h = absurd (cc h)
    calls_are (Call pos (Call place f fs) es) s h = absurd (cc h)
    calls_are (Call pos (Member place a m) es) s h = absurd (cc h)
    calls_are (Call pos (Arrow place a m) es) s h = absurd (cc h)

    arguments_are : (es : CExprs) (s : Scope) → all_few may s es ≡ true → ArgumentsAre may valued es s
    arguments_are NoExpr s h = tt
    arguments_are (MoreExpr e es) s h = let p = and_parts (few may s e) (all_few may s es) h in (is_few e s p.0, calls_are e s p.0, arguments_are es s p.1)

-- nothing has a literal
both_empty : (xs ys : List (List ℕ)) → xs ≡ [] → ys ≡ [] → xs ++ ys ≡ []
both_empty [] ys e f = f
both_empty (x ∷ xs) ys e f = absurd (cc e)

-- of one list or the other
among : (b : Bool) (xs ys : List (List ℕ)) → xs ≡ [] → ys ≡ [] → (if b then xs else ys) ≡ []
among true xs ys e f = e
among false xs ys e f = f

module _ (may : Callee → Bool) where
  mutual
    no_literals : (e : CExpr) (s : Scope) → few may s e ≡ true → literals_in s e ≡ []
    no_literals (Number at n x) s h = refl
    no_literals (Str at text) s h = absurd (cc h)
    no_literals (Null at) s h = refl
    no_literals (Var at name) s h = refl
    no_literals (Unary at op a) s h = no_literals a s (and_parts _ _ h).1
    no_literals (Step at op a) s h = absurd (cc h)
    no_literals (Binary at op a b) s h = let q = and_parts (few may s a) (few may s b) (and_parts _ _ h).1 in both_empty _ _ (no_literals a s q.0) (no_literals b s q.1)
    no_literals (Assign at None a b) s h = let q = and_parts (few may s a) (few may s b) h in both_empty _ _ (no_literals a s q.0) (no_literals b s q.1)
    no_literals (Assign at (Some op) a b) s h = absurd (cc h)
    no_literals (Choice at a b c) s h = absurd (cc h)
    no_literals (Comma at a b) s h = absurd (cc h)
    no_literals (Cast at t a) s h = no_literals a s h
    no_literals (SizeTy at t) s h = absurd (cc h)
    no_literals (SizeOf at a) s h = absurd (cc h)
    no_literals (Index at a b) s h = absurd (cc h)
    no_literals (Call at (Var pos name) es) s h = let p = and_parts _ (all_few may s es) h in among (names_printf s (Var pos name)) (literals_behind s es) (literals_in_all s es) (none_behind es s p.1) (none_in es s p.1)
    no_literals (Member at a m) s h = absurd (cc h)
    no_literals (Arrow at a m) s h = absurd (cc h)
    no_literals (Call pos (Number place n x) es) s h = absurd (cc h)
    no_literals (Call pos (Str place text) es) s h = absurd (cc h)
    no_literals (Call pos (Null at) es) s h = absurd (cc h)
    no_literals (Call pos (Unary place op a) es) s h = absurd (cc h)
    no_literals (Call pos (Step place op a) es) s h = absurd (cc h)
    no_literals (Call pos (Binary place op a b) es) s h = absurd (cc h)
    no_literals (Call pos (Assign place op a b) es) s h = absurd (cc h)
    no_literals (Call pos (Choice place a b c) es) s h = absurd (cc h)
    no_literals (Call pos (Comma place a b) es) s h = absurd (cc h)
    no_literals (Call pos (Cast place t a) es) s h = absurd (cc h)
    no_literals (Call pos (SizeTy place t) es) s h = absurd (cc h)
    no_literals (Call pos (SizeOf place a) es) s h = absurd (cc h)
    no_literals (Call pos (Index place a b) es) s h = absurd (cc h)
    no_literals (Call pos (Call place f fs) es) s h = absurd (cc h)
    no_literals (Call pos (Member place a m) es) s h = absurd (cc h)
    no_literals (Call pos (Arrow place a m) es) s h = absurd (cc h)

    none_in : (es : CExprs) (s : Scope) → all_few may s es ≡ true → literals_in_all s es ≡ []
    none_in NoExpr s h = refl
    none_in (MoreExpr e es) s h = let p = and_parts (few may s e) (all_few may s es) h in both_empty _ _ (no_literals e s p.0) (none_in es s p.1)

    none_behind : (es : CExprs) (s : Scope) → all_few may s es ≡ true → literals_behind s es ≡ []
    none_behind NoExpr s h = refl
    none_behind (MoreExpr e es) s h = none_in es s (and_parts (few may s e) (all_few may s es) h).1

-- ---- statements

module _ (S : Setting) (w : World) (may : Callee → Bool) where
  pub expr_is : (e : CExpr) (site : Environment) → few may site.scope e ≡ true → ExprIs S w may e site
  expr_is e site h = (is_few S.ground.valued may e site.scope h, calls_are S.ground.valued may e site.scope h, nowhere (literals_in site.scope e) (no_literals may e site.scope h))
    where
      nowhere : (texts : List (List ℕ)) → texts ≡ [] → LiteralsAre S.ground w.owner texts site.literals_before
      nowhere [] e j text found = absurd (cc found)
      nowhere (x ∷ xs) e j text found = absurd (cc e)

  abbrev E : CExpr → Environment → Type 0
  E e site = ExprIs S w may e site

  abbrev D : CDecl → Environment → Type 0
  D d site = DeclarationIs S w may d site

  positive : (n : ℕ) → nat_lt 0 n ≡ true → 1 ≤ n
  positive n e = grind (arith, nat_tests, e)

  untaken : (b : Bool) (T R : Type 0) → not b ≡ true → R → WhereTaken b T R
  untaken true T R h r = absurd (cc h)
  untaken false T R h r = r

  first_is : (t : CType) (v : Option CValue) (site : Environment) → first_fits may t v site.scope ≡ true → MaybeFirstHas E t v site
  first_is t None site h = tt
  first_is t (Some (One e)) site h = let p = and_parts (not (takes_string t e)) (few may site.scope e) h in untaken (takes_string t e) (AreWords (array_text t e)) (E e site) p.0 (expr_is e site p.1)
  first_is t (Some (Many vs)) site h = absurd (cc h)

  pub nothing_declared : (t : CStmt) → declares_nothing t ≡ true → DeclaresNothing t
  nothing_declared (Local d) h = absurd (cc h)
  nothing_declared (Block ss) h = tt
  nothing_declared (Do_expr e) h = tt
  nothing_declared Empty h = tt
  nothing_declared (If e t) h = tt
  nothing_declared (IfElse e t v) h = tt
  nothing_declared (While e t) h = tt
  nothing_declared (Do t e) h = tt
  nothing_declared (For first test step t) h = tt
  nothing_declared (Return at e) h = tt
  nothing_declared (Break at) h = tt
  nothing_declared (Continue at) h = tt
  nothing_declared (Switch e ps) h = tt

  mutual
    pub statement_is : (t : CStmt) (site : Environment) → fits may t site ≡ true → StatementIs S w may t site
    statement_is (Block ss) site h = statements_are ss (in_block 0 site) h
    statement_is (Local d) site h = let p = and_parts (nat_lt 0 (words_of site.scope.tags (object_type_in site.scope d))) _ h in (positive _ p.0, first_is (object_type_in site.scope d) d.first (declaring d site) p.1)
    statement_is (Do_expr e) site h = expr_is (unused e) site h
    statement_is Empty site h = absurd (cc h)
    statement_is (If e t) site h = let p = and_parts (few may site.scope e) _ h in let q = and_parts (declares_nothing t) _ p.1 in (expr_is e site p.0, nothing_declared t q.0, statement_is t (past e site) q.1)
    statement_is (IfElse e t v) site h = absurd (cc h)
    statement_is (While e t) site h = let p = and_parts (few may site.scope e) _ h in let q = and_parts (declares_nothing t) _ p.1 in (expr_is e site p.0, nothing_declared t q.0, statement_is t (past e site) q.1)
    statement_is (Do t e) site h = absurd (cc h)
    statement_is (For first test step t) site h = absurd (cc h)
    statement_is (Return at None) site h = tt
    statement_is (Return at (Some e)) site h = expr_is e site h
    statement_is (Break at) site h = absurd (cc h)
    statement_is (Continue at) site h = absurd (cc h)
    statement_is (Switch e ps) site h = absurd (cc h)

    pub statements_are : (ts : CStmts) (site : Environment) → all_fit may ts site ≡ true → StmtsHas E D ts site
    statements_are NoStmt site h = tt
    statements_are (MoreStmt t ts) site h = let p = and_parts (fits may t site) _ h in (statement_is t site p.0, statements_are ts (behind t site) p.1)

module _ (may : Callee → Bool) where
  mutual
    pub breaks_nowhere : (b c : Bool) (t : CStmt) (site : Environment) → fits may t site ≡ true → BreaksAreIn b c t
    breaks_nowhere b c (Block ss) site h = all_break_nowhere b c ss (in_block 0 site) h
    breaks_nowhere b c (Local d) site h = tt
    breaks_nowhere b c (Do_expr e) site h = tt
    breaks_nowhere b c Empty site h = absurd (cc h)
    breaks_nowhere b c (If e t) site h = breaks_nowhere b c t (past e site) (and_parts (declares_nothing t) _ (and_parts (few may site.scope e) _ h).1).1
    breaks_nowhere b c (IfElse e t v) site h = absurd (cc h)
    breaks_nowhere b c (While e t) site h = breaks_nowhere true true t (past e site) (and_parts (declares_nothing t) _ (and_parts (few may site.scope e) _ h).1).1
    breaks_nowhere b c (Do t e) site h = absurd (cc h)
    breaks_nowhere b c (For first test step t) site h = absurd (cc h)
    breaks_nowhere b c (Return at e) site h = tt
    breaks_nowhere b c (Break at) site h = absurd (cc h)
    breaks_nowhere b c (Continue at) site h = absurd (cc h)
    breaks_nowhere b c (Switch e ps) site h = absurd (cc h)

    all_break_nowhere : (b c : Bool) (ts : CStmts) (site : Environment) → all_fit may ts site ≡ true → AllBreaksAreIn b c ts
    all_break_nowhere b c NoStmt site h = tt
    all_break_nowhere b c (MoreStmt t ts) site h = let p = and_parts (fits may t site) _ h in (breaks_nowhere b c t site p.0, all_break_nowhere b c ts (behind t site) p.1)
