-- The tree of a spelling: brackets, `const`, and a type without declared names give no node.
use Rattle.std.specs.Prelude.{ℕ, zero, suc, Bool, true, false, List, [], ◌∷◌, ◌++◌, Option, Some, None, map}
use Rattle.c_syntax.specs.declared.token.Kind.{Kind}
use Rattle.c_syntax.specs.declared.token.Kind.TheVariants as kind
use Rattle.c_syntax.specs.declared.token.Key.{Key}
use Rattle.c_syntax.specs.declared.token.Key.TheVariants as key
use Rattle.c_syntax.specs.declared.token.Mark.{Mark}
use Rattle.c_syntax.specs.declared.token.Mark.TheVariants as mark
use Rattle.c_syntax.specs.declared.token.Token.{Token}
use Rattle.c_syntax.specs.declared.tree.UnOp.TheVariants as unary
use Rattle.c_syntax.specs.declared.tree.StepOp.TheVariants as stepping
use Rattle.c_syntax.specs.declared.tree.BinOp.TheVariants as binary
use Rattle.c_syntax.specs.declared.tree.StepOp.{StepOp}
use Rattle.c_syntax.specs.declared.tree.BinOp.{BinOp}
use Rattle.c_syntax.specs.Plain as plain
use Rattle.c_syntax.specs.Plain.{CExpr, CExprs, CTy, CTys, CValue, CDecl, CStmt, CPart, CItem, CUnit, exprs, tys, values, stmts, parts}
use Rattle.c_grammar.specs.Grammar.{Piece, NextArgument, FunctionPart, Pointer, Qualifier, SecondWord, Members, NextMember, AnyLength, FullLength, NextParam, ParamLengths, NamePart, Initial, NextInit, Production, Atom, Parens, ExprInside, TypeInside, Prefix, SizeOf, Suffix, Member, Index, Call, NoArguments, Arguments, Assign, Cond, CommaExpr, Cast, Binary, PieceP, ConstSpec, WordSpec, SignSpec, StructSpec, MemberP, NameCore, FunctionCore, NoParams, Params, ParamName, ParamFunction, Declaration, FirstValue, ValueComma, NextValue, Braces, Block, Empty, ExprStatement, If, IfElse, While, Do, For, Switch, Return, Jump, CaseLabel, DefaultLabel, Whole, StaticExternal, DeclaredP, Pointed, Function, Objects}
use Rattle.c_grammar.specs.Spelling.{Spelling, Leaf, Node, Row, Spellings, Nil, Cons}

-- what a part stands for
mutual
  pub data Meaning : Type 0 where
    Nothing : Meaning
    Word : (t : Token) → Meaning
    Expression : (e : CExpr) → Meaning
    Expressions : (es : List CExpr) → Meaning
    -- a type in brackets, and the place of the bracket
    Bracketed : (pos : ℕ) → (t : CTy) → Meaning
    -- a type, the place of its first token, whether it is `void` by itself, and the struct that it declares
    Type' : (t : CTy) → (pos : ℕ) → (bare : Bool) → (tags : List CItem) → Meaning
    -- what is declared of a type
    Declares : (d : CTy → CDecl) → Meaning
    Declarations : (ds : List CDecl) → Meaning
    Length : (n : Option CExpr) → Meaning
    TheValue : (v : CValue) → Meaning
    TheValues : (vs : List CValue) → Meaning
    Statement : (s : CStmt) → Meaning
    Label : (p : CPart) → Meaning
    -- a parameter's lengths, or a pointer to a function, without a name
    Unnamed : (f : CTy → CTy) → Meaning
    -- the end of an external, of the type that its words say and the one that its stars make of it
    Items : (items : CTy → CTy → List CItem) → Meaning
    Several : (ms : Meanings) → Meaning

  pub data Meanings : Type 0 where
    none : Meanings
    more : (m : Meaning) → (ms : Meanings) → Meanings

abbrev pub expression : Meaning → CExpr
expression (Expression e) = e
expression _ = plain.Null 0

abbrev pub maybe_expression : Meaning → Option CExpr
maybe_expression (Several (more (Expression e) ms)) = Some e
maybe_expression _ = None

abbrev pub next_expressions : Meanings → List CExpr
next_expressions none = []
next_expressions (more m ms) = expression m ∷ next_expressions ms

abbrev pub several : Meaning → Meanings
several (Several ms) = ms
several _ = none

abbrev pub count : Meanings → ℕ
count none = 0
count (more m ms) = suc (count ms)

abbrev pub expressions : Meaning → List CExpr
expressions (Expressions es) = es
expressions _ = []

abbrev pub place : Meaning → ℕ
place (Word t) = t.pos
place (Type' t p b tags) = p
place (Bracketed p t) = p
place _ = 0

abbrev pub kind_name : Kind → List ℕ
kind_name (kind.Name x) = x
kind_name _ = []

abbrev pub name : Meaning → List ℕ
name (Word t) = kind_name t.kind
name _ = []

abbrev pub type_of : Meaning → CTy
type_of (Type' t p b tags) = t
type_of (Bracketed p t) = t
type_of _ = plain.Void

abbrev pub is_bare : Meaning → Bool
is_bare (Type' t p b tags) = b
is_bare _ = false

abbrev pub tags_of : Meaning → List CItem
tags_of (Type' t p b tags) = tags
tags_of _ = []

abbrev pub declarations : Meaning → List CDecl
declarations (Declarations ds) = ds
declarations _ = []

abbrev pub nothing_declared : CTy → CDecl
nothing_declared t = record { name = []; pos = 0; ty = t; first = None }

abbrev pub declares : Meaning → CTy → CDecl
declares (Declares d) t = d t
declares _ t = nothing_declared t

abbrev pub value : Meaning → CValue
value (TheValue v) = v
value (Expression e) = plain.One e
value _ = plain.One (plain.Null 0)

abbrev pub maybe_value : Meaning → Option CValue
maybe_value (Several (more m ms)) = Some (value m)
maybe_value _ = None

abbrev pub value_list : Meaning → List CValue
value_list (TheValues vs) = vs
value_list _ = []

abbrev pub statement : Meaning → CStmt
statement (Statement s) = s
statement _ = plain.Empty

-- a declaration gives a local for each name
abbrev pub block_items : Meanings → List CStmt
block_items none = []
block_items (more (Declarations ds) ms) = map plain.Local ds ++ block_items ms
block_items (more m ms) = statement m ∷ block_items ms

abbrev pub local_part : CDecl → CPart
local_part d = plain.Item (plain.Local d)

abbrev pub switch_parts : Meanings → List CPart
switch_parts none = []
switch_parts (more (Declarations ds) ms) = map local_part ds ++ switch_parts ms
switch_parts (more (Label p) ms) = p ∷ switch_parts ms
switch_parts (more m ms) = plain.Item (statement m) ∷ switch_parts ms

-- the first part of a `for`
abbrev pub for_first : Meaning → CStmt
for_first (Declarations ds) = plain.Block (stmts (map plain.Local ds))
for_first m = statement m

abbrev pub items : Meaning → CTy → CTy → List CItem
items (Items f) base t = f base t
items _ base t = []

abbrev pub all_items : Meanings → List CItem
all_items none = []
all_items (more m ms) = items m plain.Void plain.Void ++ all_items ms

abbrev pub atom_of : Kind → ℕ → CExpr
atom_of (kind.Number v u) p = plain.Number p v u
atom_of (kind.Str x) p = plain.Str p x
atom_of (kind.Name x) p = plain.Var p x
atom_of _ p = plain.Null p

abbrev pub prefix_mark : Mark → ℕ → CExpr → CExpr
prefix_mark mark.Amp p a = plain.Unary p unary.Address a
prefix_mark mark.Star p a = plain.Unary p unary.Deref a
prefix_mark mark.Plus p a = plain.Unary p unary.Plus a
prefix_mark mark.Minus p a = plain.Unary p unary.Minus a
prefix_mark mark.Tilde p a = plain.Unary p unary.Invert a
prefix_mark mark.Bang p a = plain.Unary p unary.Not a
prefix_mark mark.PlusPlus p a = plain.Step p stepping.PreInc a
prefix_mark mark.MinusMinus p a = plain.Step p stepping.PreDec a
prefix_mark _ p a = a

abbrev pub the_mark : Kind → Mark
the_mark (kind.Mark m) = m
the_mark _ = mark.Semi

abbrev pub the_key : Kind → Key
the_key (kind.Key k) = k
the_key _ = key.Auto

abbrev pub word : Meaning → Kind
word (Word t) = t.kind
word _ = kind.End

abbrev pub step_behind : Mark → StepOp
step_behind mark.PlusPlus = stepping.PostInc
step_behind _ = stepping.PostDec

abbrev pub member_of : Mark → ℕ → CExpr → List ℕ → CExpr
member_of mark.Dot p a x = plain.Member p a x
member_of _ p a x = plain.Arrow p a x

abbrev pub operator : Mark → BinOp
operator mark.OrOr = binary.Or
operator mark.AndAnd = binary.And
operator mark.Bar = binary.BitOr
operator mark.Caret = binary.BitXor
operator mark.Amp = binary.BitAnd
operator mark.EqEq = binary.Eq
operator mark.NotEq = binary.Ne
operator mark.Less = binary.Lt
operator mark.Greater = binary.Gt
operator mark.LessEq = binary.Le
operator mark.GreaterEq = binary.Ge
operator mark.Shl = binary.Shl
operator mark.Shr = binary.Shr
operator mark.Plus = binary.Add
operator mark.Minus = binary.Sub
operator mark.Star = binary.Mul
operator mark.Slash = binary.Div
operator _ = binary.Mod

-- none: `=`
abbrev pub assigning : Mark → Option BinOp
assigning mark.PlusAssign = Some binary.Add
assigning mark.MinusAssign = Some binary.Sub
assigning mark.StarAssign = Some binary.Mul
assigning mark.SlashAssign = Some binary.Div
assigning mark.PercentAssign = Some binary.Mod
assigning mark.AmpAssign = Some binary.BitAnd
assigning mark.BarAssign = Some binary.BitOr
assigning mark.CaretAssign = Some binary.BitXor
assigning mark.ShlAssign = Some binary.Shl
assigning mark.ShrAssign = Some binary.Shr
assigning _ = None

abbrev pub size_of : ℕ → Meaning → CExpr
size_of p (Bracketed q t) = plain.SizeTy p t
size_of p m = plain.SizeOf p (expression m)

-- `(` and what it begins
abbrev pub bracketed : ℕ → Meaning → Meaning
bracketed p (Expression e) = Expression e
bracketed p m = Bracketed p (type_of m)

abbrev pub word_type : Key → CTy
word_type key.Void = plain.Void
word_type key.Char = plain.Char
word_type _ = plain.Int

-- `signed` or `unsigned`, and the word behind it
abbrev pub sign_type : Key → Option Key → CTy
sign_type key.Unsigned (Some key.Char) = plain.UChar
sign_type key.Unsigned _ = plain.Unsigned
sign_type _ (Some key.Char) = plain.Char
sign_type _ _ = plain.Int

abbrev pub second_word : Meaning → Option Key
second_word (Several (more m ms)) = Some (the_key (word m))
second_word _ = None

abbrev pub is_void : Key → Bool
is_void key.Void = true
is_void _ = false

abbrev pub is_none : Meaning → Bool
is_none (Several none) = true
is_none _ = false

abbrev pub and : Bool → Bool → Bool
and true b = b
and false b = false

abbrev pub pointers : ℕ → CTy → CTy
pointers zero t = t
pointers (suc n) t = plain.Pointer (pointers n t)

abbrev pub starred : Meaning → CTy → CTy
starred m t = pointers (count (several m)) t

abbrev pub array : Meaning → CTy → CTy
array (Length None) t = plain.Array t
array (Length (Some e)) t = plain.ArrayOf t e
array _ t = t

-- the first length is the outermost
abbrev pub arrays : Meanings → CTy → CTy
arrays none t = t
arrays (more m ms) t = array m (arrays ms t)

abbrev pub parameter_types : List CDecl → List CTy
parameter_types ds = map (λ d. d.ty) ds

abbrev pub function_pointer : Meaning → CTy → CTy
function_pointer params t = plain.Pointer (plain.Func t (tys (parameter_types (declarations params))))

abbrev pub named : Meaning → (CTy → CTy) → CTy → CDecl
named n f t = record { name = name n; pos = place n; ty = f t; first = None }

abbrev pub with_value : CDecl → Option CValue → CDecl
with_value d v = record { name = d.name; pos = d.pos; ty = d.ty; first = v }

-- a declared name behind stars
abbrev pub declared : Meaning → Meaning → CTy → CDecl
declared stars core t = declares core (starred stars t)

abbrev pub all_declared : CTy → Meanings → List CDecl
all_declared t none = []
all_declared t (more m ms) = declares m t ∷ all_declared t ms

abbrev pub unnamed : Meaning → CTy → CTy
unnamed (Several (more (Unnamed f) ms)) t = f t
unnamed _ t = t

-- an unnamed parameter has the place of its first token
abbrev pub parameter_of : Meaning → ℕ → CTy → CDecl
parameter_of (Several (more (Declares d) ms)) p t = d t
parameter_of tail p t = record { name = []; pos = p; ty = unnamed tail t; first = None }

abbrev pub parameter : Meaning → Meaning → Meaning → CDecl
parameter spec stars tail = parameter_of tail (place spec) (starred stars (type_of spec))

abbrev pub if_void : Bool → List CDecl → List CDecl
if_void true ds = []
if_void false ds = ds

-- `void` by itself says that there are none
abbrev pub parameters : Meaning → Meaning → Meaning → Meaning → List CDecl
parameters spec stars tail others =
    if_void (and (is_bare spec) (and (is_none stars) (and (is_none tail) (is_none others)))) (parameter spec stars tail ∷ all_declared plain.Void (several others))

abbrev pub struct_tags : Meaning → Meaning → List CItem
struct_tags n (Several (more m ms)) = plain.StructItem (record { name = name n; pos = place n; members = declarations m }) ∷ []
struct_tags n _ = []

abbrev pub struct_type : Meanings → Meaning
struct_type (more s (more n (more body (more consts none)))) = Type' (plain.Struct (name n)) (place s) false (struct_tags n body)
struct_type (more s (more n (more consts none))) = Type' (plain.Struct (name n)) (place s) false []
struct_type _ = Nothing

abbrev pub member_list : Meanings → List CDecl
member_list none = []
member_list (more m ms) = declarations m ++ member_list ms

abbrev pub function_parameter : Meaning → (CTy → CTy) → Meaning
function_parameter (Several (more n ms)) f = Declares (named n f)
function_parameter _ f = Unnamed f

abbrev pub in_function : Meaning → CTy → CTy
in_function (Several (more params ms)) t = function_pointer params t
in_function _ t = t

abbrev pub with_else : CStmt → CStmt → CStmt
with_else (plain.If e s) t = plain.IfElse e s t
with_else s t = s

abbrev pub jump : Key → ℕ → CStmt
jump key.Break p = plain.Break p
jump _ p = plain.Continue p

-- a function's end: `;` or its block
abbrev pub body_of : CStmt → Option CStmt
body_of (plain.Block ss) = Some (plain.Block ss)
body_of _ = None

abbrev pub function : CDecl → List CDecl → Option CStmt → CItem
function d params body = plain.Function d.name d.pos d.ty params body

abbrev pub piece_meaning : Piece → Meanings → Meaning
piece_meaning NextArgument (more comma (more a none)) = a
piece_meaning FunctionPart (more o (more star (more c (more o' (more params none))))) = params
piece_meaning Pointer ms = Nothing
piece_meaning Qualifier ms = Nothing
piece_meaning SecondWord (more w (more consts none)) = w
piece_meaning Members (more o (more ms (more c none))) = Declarations (member_list (several ms))
piece_meaning NextMember (more comma (more stars (more core none))) = Declares (declared stars core)
piece_meaning AnyLength (more o (more n (more c none))) = Length (maybe_expression n)
piece_meaning FullLength (more o (more n (more c none))) = Length (Some (expression n))
piece_meaning NextParam (more comma (more spec (more stars (more tail none)))) = Declares (λ t. parameter spec stars tail)
piece_meaning ParamLengths (more o (more n (more c (more others none)))) = Unnamed (λ t. array (Length (maybe_expression n)) (arrays (several others) t))
piece_meaning NamePart (more n none) = n
piece_meaning Initial (more eq (more v none)) = TheValue (value v)
piece_meaning NextInit (more comma (more stars (more core (more v none)))) = Declares (λ t. with_value (declared stars core t) (maybe_value v))
piece_meaning _ ms = Nothing

-- what a production makes of its parts
unfoldable pub act : Production → Meanings → Meaning
act Atom (more w none) = Expression (atom_of (word w) (place w))
act Parens (more o (more inside none)) = bracketed (place o) inside
act ExprInside (more a (more c none)) = a
act TypeInside (more spec (more stars (more function (more c none)))) = Type' (in_function function (starred stars (type_of spec))) 0 false []
act Prefix (more w (more a none)) = Expression (prefix_mark (the_mark (word w)) (place w) (expression a))
act SizeOf (more w (more a none)) = Expression (size_of (place w) a)
act Suffix (more a (more w none)) = Expression (plain.Step (place w) (step_behind (the_mark (word w))) (expression a))
act Member (more a (more w (more n none))) = Expression (member_of (the_mark (word w)) (place w) (expression a) (name n))
act Index (more a (more o (more b (more c none)))) = Expression (plain.Index (place o) (expression a) (expression b))
act Call (more f (more o (more args none))) = Expression (plain.Call (place o) (expression f) (exprs (expressions args)))
act NoArguments ms = Expressions []
act Arguments (more a (more others (more c none))) = Expressions (expression a ∷ next_expressions (several others))
act (Binary n) (more a (more w (more b none))) = Expression (plain.Binary (place w) (operator (the_mark (word w))) (expression a) (expression b))
act Assign (more a (more w (more b none))) = Expression (plain.Assign (place w) (assigning (the_mark (word w))) (expression a) (expression b))
act Cond (more a (more q (more b (more c (more d none))))) = Expression (plain.Cond (place q) (expression a) (expression b) (expression d))
act CommaExpr (more a (more w (more b none))) = Expression (plain.Comma (place w) (expression a) (expression b))
act Cast (more t (more a none)) = Expression (plain.Cast (place t) (type_of t) (expression a))
act (PieceP k) ms = piece_meaning k ms
act (ConstSpec e) (more w (more spec none)) = Type' (type_of spec) (place w) false (tags_of spec)
act (WordSpec e) (more w (more consts none)) = Type' (word_type (the_key (word w))) (place w) (and (is_void (the_key (word w))) (is_none consts)) []
act (SignSpec e) (more w (more consts (more second none))) = Type' (sign_type (the_key (word w)) (second_word second)) (place w) false []
act (StructSpec e) ms = struct_type ms
act MemberP (more spec (more stars (more core (more others (more semi none))))) = Declarations (declared stars core (type_of spec) ∷ all_declared (type_of spec) (several others))
act (NameCore o) (more n (more lengths none)) = Declares (named n (arrays (several lengths)))
act (FunctionCore o) (more l (more star (more n (more lengths (more r (more l' (more params none))))))) = Declares (named n (λ t. arrays (several lengths) (function_pointer params t)))
act NoParams ms = Declarations []
act Params (more spec (more stars (more tail (more others (more r none))))) = Declarations (parameters spec stars tail others)
act ParamName (more n (more lengths none)) = Declares (named n (unnamed lengths))
act ParamFunction (more l (more star (more n (more length (more r (more l' (more params none))))))) = function_parameter n (λ t. arrays (several length) (function_pointer params t))
act Declaration (more spec (more stars (more core (more v (more others (more semi none)))))) =
    Declarations (with_value (declared stars core (type_of spec)) (maybe_value v) ∷ all_declared (type_of spec) (several others))
act FirstValue (more l (more v none)) = TheValues (value v ∷ [])
act ValueComma (more vs (more comma none)) = vs
act NextValue (more vs (more v none)) = TheValues (value_list vs ++ value v ∷ [])
act Braces (more vs (more r none)) = TheValue (plain.Many (values (value_list vs)))
act Block (more l (more ms (more r none))) = Statement (plain.Block (stmts (block_items (several ms))))
act Empty ms = Statement plain.Empty
act ExprStatement (more a (more semi none)) = Statement (plain.Do_expr (expression a))
act If (more w (more l (more a (more r (more s none))))) = Statement (plain.If (expression a) (statement s))
act IfElse (more i (more w (more t none))) = Statement (with_else (statement i) (statement t))
act While (more w (more l (more a (more r (more s none))))) = Statement (plain.While (expression a) (statement s))
act Do (more w (more s (more w' (more l (more a (more r (more semi none))))))) = Statement (plain.Do (statement s) (expression a))
act For (more w (more l (more first (more test (more semi (more step (more r (more s none)))))))) = Statement (plain.For (for_first first) (maybe_expression test) (maybe_expression step) (statement s))
act Switch (more w (more l (more a (more r (more l' (more ms (more r' none))))))) = Statement (plain.Switch (expression a) (parts (switch_parts (several ms))))
act Return (more w (more a (more semi none))) = Statement (plain.Return (place w) (maybe_expression a))
act Jump (more w (more semi none)) = Statement (jump (the_key (word w)) (place w))
act CaseLabel (more w (more a (more colon none))) = Label (plain.Label (place w) (Some (expression a)))
act DefaultLabel (more w (more colon none)) = Label (plain.Label (place w) None)
act Whole (more externals (more end none)) = Items (λ base t. all_items (several externals))
act StaticExternal (more w (more x none)) = x
act DeclaredP (more spec (more rest none)) = Items (λ base t. tags_of spec ++ items rest (type_of spec) (type_of spec))
act Pointed (more w (more const (more rest none))) = Items (λ base t. items rest base (plain.Pointer t))
act Function (more n (more l (more params (more end none)))) = Items (λ base t. function (declares n t) (declarations params) (body_of (statement end)) ∷ [])
act Objects (more core (more v (more others (more semi none)))) = Items (λ base t. map plain.Object (with_value (declares core t) (maybe_value v) ∷ all_declared base (several others)))
act _ ms = Nothing

abbrev mutual
  pub meaning : Spelling → Meaning
  meaning (Leaf t) = Word t
  meaning (Node p kids) = act p (meanings kids)
  meaning (Row items) = Several (meanings items)

  pub meanings : Spellings → Meanings
  meanings Nil = none
  meanings (Cons x xs) = more (meaning x) (meanings xs)

-- the place of the last token
abbrev pub end_place : Meanings → ℕ
end_place (more externals (more end none)) = place end
end_place _ = 0

-- the tree of a whole text
abbrev pub unit_tree : Spellings → CUnit
unit_tree kids = record { items = items (act Whole (meanings kids)) plain.Void plain.Void; end = end_place (meanings kids) }
