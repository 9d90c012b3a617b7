-- What the parts of a spelling mean is as tokens of a text spell it.
use Rattle.std.proofs.Common.{◌≡◌, ℕ, zero, suc, List, [], ◌∷◌, ◌++◌, map, Option, Some, None, Bool, true, false, refl, sym, ap, ◌∙◌, subst}
use Rattle.c_syntax.specs.declared.token.Key.{Key}
use Rattle.c_syntax.specs.declared.token.Key.TheVariants as key
use Rattle.c_syntax.specs.declared.token.Kind.{Kind}
use Rattle.c_syntax.specs.declared.token.Kind.TheVariants as kind
use Rattle.c_syntax.specs.declared.token.Mark.{Mark}
use Rattle.c_syntax.specs.declared.token.Mark.TheVariants as mark
use Rattle.c_syntax.specs.declared.token.Token.{Token}
use Rattle.c_syntax.specs.Plain as plain
use Rattle.c_syntax.specs.Plain.{CExpr, CTy, CValue, CDecl, CStmt, CPart, CItem, CUnit, exprs, tys, values, stmts, parts}
use Rattle.c_grammar.specs.declared.names.Piece.{Piece}
use Rattle.c_grammar.specs.declared.names.Piece.TheVariants.{NextArgument, FunctionPart, Pointer, Qualifier, SecondWord, Members, NextMember, AnyLength, FullLength, NextParam, ParamLengths, NamePart, Initial, NextInit}
use Rattle.c_grammar.specs.declared.names.Production.{Production}
use Rattle.c_grammar.specs.declared.names.Production.TheVariants.{Atom, Parens, ExprInside, TypeInside, Prefix, SizeOf, Suffix, Member, Index, Call, NoArguments, Arguments, Assign, Cond, CommaExpr, Cast, Binary, PieceP, ConstSpec, WordSpec, SignSpec, StructSpec, MemberP, NameCore, FunctionCore, NoParams, Params, ParamName, ParamFunction, Declaration, FirstValue, ValueComma, NextValue, Braces, Block, Empty, ExprStatement, If, IfElse, While, Do, For, Switch, Return, Jump, CaseLabel, DefaultLabel, Whole, StaticExternal, DeclaredP, Pointed, Function, Objects}
use Rattle.c_grammar.specs.Spelling.{Spelling, Leaf, Node, Row, Spellings, Nil, Cons, tokens, all_tokens}
use Rattle.c_grammar.specs.Spells.{IsUnitWithin}
use Rattle.c_grammar.specs.Tree as tree
use Rattle.c_grammar.specs.Tree.{Meaning, Meanings, Nothing, Word, Expression, Expressions, Bracketed, Type', Declares, Declarations, Length, TheValue, TheValues, Statement, Label, Unnamed, Items, Several, none, more, expression, maybe_expression, next_expressions, several, count, expressions, kind_name, type_of, tags_of, declarations, declares, value, maybe_value, value_list, statement, block_items, local_part, switch_parts, for_first, items, all_items, atom_of, prefix_mark, the_mark, the_key, word, member_of, assigning, size_of, bracketed, word_type, sign_type, second_word, pointers, starred, array, arrays, parameter_types, function_pointer, named, with_value, declared, all_declared, unnamed, parameter_of, parameter, if_void, parameters, struct_tags, struct_type, member_list, function_parameter, in_function, with_else, jump, body_of, function, piece_meaning, act, meaning, meanings, unit_tree}
use Rattle.c_fewer_types.specs.Standing.{IsTextName, is_declaration}
use Rattle.c_spelled_programs.specs.Tokens.{KindIsOfText, AreOfText}
use Rattle.c_spelled_programs.specs.Spelled.{ExprIsSpelled, ExprsAreSpelled, TyIsSpelled, TysAreSpelled, MaybeIsSpelled, ValueIsSpelled, ValuesAreSpelled, FirstIsSpelled, DeclIsSpelled, DeclsAreSpelled, StmtIsSpelled, StmtsAreSpelled, PartIsSpelled, PartsAreSpelled, BodyIsSpelled, ItemIsSpelled, ItemsAreSpelled}

abbrev EachExpr : List CExpr → Type 0
EachExpr [] = Unit {0}
EachExpr (e ∷ es) = ExprIsSpelled e × EachExpr es

abbrev EachValue : List CValue → Type 0
EachValue [] = Unit {0}
EachValue (v ∷ vs) = ValueIsSpelled v × EachValue vs

-- a statement that is no declaration
abbrev Stands : CStmt → Type 0
Stands t = StmtIsSpelled t × (is_declaration t ≡ false)

abbrev mutual
  IsSound : Meaning → Type 0
  IsSound Nothing = Unit {0}
  IsSound (Word t) = KindIsOfText t.kind
  IsSound (Expression e) = ExprIsSpelled e
  IsSound (Expressions es) = EachExpr es
  IsSound (Bracketed p t) = TyIsSpelled t
  IsSound (Type' t pos bare tags) = TyIsSpelled t × ItemsAreSpelled tags
  IsSound (Declares d) = (t : CTy) → TyIsSpelled t → DeclIsSpelled (d t)
  IsSound (Declarations ds) = DeclsAreSpelled ds
  IsSound (Length n) = MaybeIsSpelled n
  IsSound (TheValue v) = ValueIsSpelled v
  IsSound (TheValues vs) = EachValue vs
  IsSound (Statement t) = Stands t
  IsSound (Label p) = PartIsSpelled p
  IsSound (Unnamed f) = (t : CTy) → TyIsSpelled t → TyIsSpelled (f t)
  IsSound (Items f) = (base t : CTy) → TyIsSpelled base → TyIsSpelled t → ItemsAreSpelled (f base t)
  IsSound (Several ms) = AreSound ms

  AreSound : Meanings → Type 0
  AreSound none = Unit {0}
  AreSound (more m ms) = IsSound m × AreSound ms

-- ---- parts

one_sound : (m : Meaning) → IsSound m → ExprIsSpelled (expression m)
one_sound (Expression e) h = h
one_sound m h = tt

maybe_sound : (m : Meaning) → IsSound m → MaybeIsSpelled (maybe_expression m)
maybe_sound (Several (more (Expression e) ms)) h = h.0
maybe_sound m h = tt

several_sound : (m : Meaning) → IsSound m → AreSound (several m)
several_sound (Several ms) h = h
several_sound m h = tt

next_sound : (ms : Meanings) → AreSound ms → EachExpr (next_expressions ms)
next_sound none h = tt
next_sound (more m ms) h = (one_sound m h.0, next_sound ms h.1)

all_sound : (m : Meaning) → IsSound m → EachExpr (expressions m)
all_sound (Expressions es) h = h
all_sound m h = tt

arguments_sound : (es : List CExpr) → EachExpr es → ExprsAreSpelled (exprs es)
arguments_sound [] h = tt
arguments_sound (e ∷ es) h = (h.0, arguments_sound es h.1)

type_sound : (m : Meaning) → IsSound m → TyIsSpelled (type_of m)
type_sound (Type' t pos bare tags) h = h.0
type_sound (Bracketed p t) h = h
type_sound m h = tt

tags_sound : (m : Meaning) → IsSound m → ItemsAreSpelled (tags_of m)
tags_sound (Type' t pos bare tags) h = h.1
tags_sound m h = tt

declarations_sound : (m : Meaning) → IsSound m → DeclsAreSpelled (declarations m)
declarations_sound (Declarations ds) h = h
declarations_sound m h = tt

declares_sound : (m : Meaning) → IsSound m → (t : CTy) → TyIsSpelled t → DeclIsSpelled (declares m t)
declares_sound (Declares d) h t k = h t k
declares_sound m h t k = (refl, k, tt)

value_sound : (m : Meaning) → IsSound m → ValueIsSpelled (value m)
value_sound (TheValue v) h = h
value_sound (Expression e) h = h
value_sound m h = tt

maybe_value_sound : (m : Meaning) → IsSound m → FirstIsSpelled (maybe_value m)
maybe_value_sound (Several (more m ms)) h = value_sound m h.0
maybe_value_sound m h = tt

list_sound : (m : Meaning) → IsSound m → EachValue (value_list m)
list_sound (TheValues vs) h = h
list_sound m h = tt

values_sound : (vs : List CValue) → EachValue vs → ValuesAreSpelled (values vs)
values_sound [] h = tt
values_sound (v ∷ vs) h = (h.0, values_sound vs h.1)

values_behind : (vs : List CValue) (v : CValue) → EachValue vs → ValueIsSpelled v → EachValue (vs ++ v ∷ [])
values_behind [] v h k = (k, tt)
values_behind (w ∷ vs) v h k = (h.0, values_behind vs v h.1 k)

kind_named : (k : Kind) → KindIsOfText k → IsTextName (kind_name k)
kind_named (kind.Name x) h = h
kind_named k h = refl

name_sound : (m : Meaning) → IsSound m → IsTextName (tree.name m)
name_sound (Word t) h = kind_named t.kind h
name_sound m h = refl

word_sound : (m : Meaning) → IsSound m → KindIsOfText (word m)
word_sound (Word t) h = h
word_sound m h = tt

bracketed_sound : (p : ℕ) (m : Meaning) → IsSound m → IsSound (bracketed p m)
bracketed_sound p (Expression e) h = h
bracketed_sound p m h = type_sound m h

-- ---- expressions

atom_sound : (k : Kind) (p : ℕ) → KindIsOfText k → ExprIsSpelled (atom_of k p)
atom_sound (kind.Number v u) p h = tt
atom_sound (kind.Str x) p h = h
atom_sound (kind.Name x) p h = tt
atom_sound k p h = tt

prefix_sound : (m : Mark) (p : ℕ) (a : CExpr) → ExprIsSpelled a → ExprIsSpelled (prefix_mark m p a)
prefix_sound mark.Amp p a h = h
prefix_sound mark.Star p a h = h
prefix_sound mark.Plus p a h = h
prefix_sound mark.Minus p a h = h
prefix_sound mark.Tilde p a h = h
prefix_sound mark.Bang p a h = h
prefix_sound mark.PlusPlus p a h = h
prefix_sound mark.MinusMinus p a h = h
prefix_sound m p a h = h

size_sound : (p : ℕ) (m : Meaning) → IsSound m → ExprIsSpelled (size_of p m)
size_sound p (Bracketed q t) h = h
size_sound p m h = one_sound m h

member_sound : (m : Mark) (p : ℕ) (a : CExpr) (x : List ℕ) → ExprIsSpelled a → ExprIsSpelled (member_of m p a x)
member_sound mark.Dot p a x h = h
member_sound m p a x h = h

assign_sound : (m : Mark) (p : ℕ) (a b : CExpr) → ExprIsSpelled a → ExprIsSpelled b → ExprIsSpelled (plain.Assign p (assigning m) a b)
assign_sound mark.PlusAssign p a b g h = (tt, g, h)
assign_sound mark.MinusAssign p a b g h = (tt, g, h)
assign_sound mark.StarAssign p a b g h = (tt, g, h)
assign_sound mark.SlashAssign p a b g h = (tt, g, h)
assign_sound mark.PercentAssign p a b g h = (tt, g, h)
assign_sound mark.AmpAssign p a b g h = (tt, g, h)
assign_sound mark.BarAssign p a b g h = (tt, g, h)
assign_sound mark.CaretAssign p a b g h = (tt, g, h)
assign_sound mark.ShlAssign p a b g h = (tt, g, h)
assign_sound mark.ShrAssign p a b g h = (tt, g, h)
assign_sound m p a b g h = (g, h)

-- ---- types

word_typed : (k : Key) → TyIsSpelled (word_type k)
word_typed key.Void = tt
word_typed key.Char = tt
word_typed k = tt

sign_typed : (k : Key) (o : Option Key) → TyIsSpelled (sign_type k o)
sign_typed key.Unsigned (Some key.Char) = tt
sign_typed key.Unsigned o = tt
sign_typed k (Some key.Char) = tt
sign_typed k o = tt

pointers_sound : (n : ℕ) (t : CTy) → TyIsSpelled t → TyIsSpelled (pointers n t)
pointers_sound zero t k = k
pointers_sound (suc n) t k = pointers_sound n t k

starred_sound : (m : Meaning) (t : CTy) → TyIsSpelled t → TyIsSpelled (starred m t)
starred_sound m t k = pointers_sound (count (several m)) t k

array_sound : (m : Meaning) → IsSound m → (t : CTy) → TyIsSpelled t → TyIsSpelled (array m t)
array_sound (Length None) h t k = k
array_sound (Length (Some e)) h t k = (k, h)
array_sound m h t k = k

arrays_sound : (ms : Meanings) → AreSound ms → (t : CTy) → TyIsSpelled t → TyIsSpelled (arrays ms t)
arrays_sound none h t k = k
arrays_sound (more m ms) h t k = array_sound m h.0 (arrays ms t) (arrays_sound ms h.1 t k)

types_sound : (ds : List CDecl) → DeclsAreSpelled ds → TysAreSpelled (tys (parameter_types ds))
types_sound [] h = tt
types_sound (d ∷ ds) h = (h.0.1, types_sound ds h.1)

function_sound : (m : Meaning) → IsSound m → (t : CTy) → TyIsSpelled t → TyIsSpelled (function_pointer m t)
function_sound m h t k = (k, types_sound (declarations m) (declarations_sound m h))

in_function_sound : (m : Meaning) → IsSound m → (t : CTy) → TyIsSpelled t → TyIsSpelled (in_function m t)
in_function_sound (Several (more params ms)) h t k = function_sound params h.0 t k
in_function_sound m h t k = k

-- ---- declarations

named_sound : (n : Meaning) → IsSound n → (f : CTy → CTy) → ((t : CTy) → TyIsSpelled t → TyIsSpelled (f t)) → (t : CTy) → TyIsSpelled t → DeclIsSpelled (named n f t)
named_sound n h f g t k = (name_sound n h, g t k, tt)

valued_sound : (d : CDecl) (v : Option CValue) → DeclIsSpelled d → FirstIsSpelled v → DeclIsSpelled (with_value d v)
valued_sound d v h k = (h.0, h.1, k)

declared_sound : (stars core : Meaning) → IsSound core → (t : CTy) → TyIsSpelled t → DeclIsSpelled (declared stars core t)
declared_sound stars core h t k = declares_sound core h (starred stars t) (starred_sound stars t k)

all_declared_sound : (t : CTy) → TyIsSpelled t → (ms : Meanings) → AreSound ms → DeclsAreSpelled (all_declared t ms)
all_declared_sound t k none h = tt
all_declared_sound t k (more m ms) h = (declares_sound m h.0 t k, all_declared_sound t k ms h.1)

unnamed_sound : (m : Meaning) → IsSound m → (t : CTy) → TyIsSpelled t → TyIsSpelled (unnamed m t)
unnamed_sound (Several (more (Unnamed f) ms)) h t k = h.0 t k
unnamed_sound m h t k = k

parameter_of_sound : (m : Meaning) → IsSound m → (p : ℕ) (t : CTy) → TyIsSpelled t → DeclIsSpelled (parameter_of m p t)
parameter_of_sound (Several (more (Declares d) ms)) h p t k = h.0 t k
parameter_of_sound m h p t k = (refl, unnamed_sound m h t k, tt)

parameter_sound : (spec stars m : Meaning) → IsSound spec → IsSound m → DeclIsSpelled (parameter spec stars m)
parameter_sound spec stars m g h = parameter_of_sound m h (tree.place spec) (starred stars (type_of spec)) (starred_sound stars (type_of spec) (type_sound spec g))

if_void_sound : (b : Bool) (ds : List CDecl) → DeclsAreSpelled ds → DeclsAreSpelled (if_void b ds)
if_void_sound true ds h = tt
if_void_sound false ds h = h

parameters_sound : (spec stars tail others : Meaning) → IsSound spec → IsSound tail → IsSound others → DeclsAreSpelled (parameters spec stars tail others)
parameters_sound spec stars tail others g h k = if_void_sound _ (parameter spec stars tail ∷ all_declared plain.Void (several others)) (parameter_sound spec stars tail g h, all_declared_sound plain.Void tt (several others) (several_sound others k))

both_declared : (ds es : List CDecl) → DeclsAreSpelled ds → DeclsAreSpelled es → DeclsAreSpelled (ds ++ es)
both_declared [] es h k = k
both_declared (d ∷ ds) es h k = (h.0, both_declared ds es h.1 k)

members_sound : (ms : Meanings) → AreSound ms → DeclsAreSpelled (member_list ms)
members_sound none h = tt
members_sound (more m ms) h = both_declared (declarations m) (member_list ms) (declarations_sound m h.0) (members_sound ms h.1)

struct_tags_sound : (n body : Meaning) → IsSound body → ItemsAreSpelled (struct_tags n body)
struct_tags_sound n (Several (more m ms)) h = (declarations_sound m h.0, tt)
struct_tags_sound n (Several none) h = tt
struct_tags_sound n body h = tt

struct_sound : (ms : Meanings) → AreSound ms → IsSound (struct_type ms)
struct_sound (more s (more n (more body (more consts none)))) h = (tt, struct_tags_sound n body h.1.1.0)
struct_sound (more s (more n (more consts none))) h = (tt, tt)
struct_sound ms h = tt

function_parameter_sound : (m : Meaning) → IsSound m → (f : CTy → CTy) → ((t : CTy) → TyIsSpelled t → TyIsSpelled (f t)) → IsSound (function_parameter m f)
function_parameter_sound (Several (more n ms)) h f g = λ t k. named_sound n h.0 f g t k
function_parameter_sound (Several none) h f g = g
function_parameter_sound m h f g = g

-- ---- statements

statement_sound : (m : Meaning) → IsSound m → Stands (statement m)
statement_sound (Statement t) h = h
statement_sound m h = (tt, refl)

locals_sound : (ds : List CDecl) (ts : List CStmt) → DeclsAreSpelled ds → StmtsAreSpelled (stmts ts) → StmtsAreSpelled (stmts (map plain.Local ds ++ ts))
locals_sound [] ts g h = h
locals_sound (d ∷ ds) ts g h = (g.0, locals_sound ds ts g.1 h)

locals_alone : (ds : List CDecl) → DeclsAreSpelled ds → StmtsAreSpelled (stmts (map plain.Local ds))
locals_alone [] g = tt
locals_alone (d ∷ ds) g = (g.0, locals_alone ds g.1)

block_sound : (ms : Meanings) → AreSound ms → StmtsAreSpelled (stmts (block_items ms))
block_sound none h = tt
block_sound (more (Declarations ds) ms) h = locals_sound ds (block_items ms) h.0 (block_sound ms h.1)
block_sound (more m ms) h = ((statement_sound m h.0).0, block_sound ms h.1)

local_parts_sound : (ds : List CDecl) (ps : List CPart) → DeclsAreSpelled ds → PartsAreSpelled (parts ps) → PartsAreSpelled (parts (map local_part ds ++ ps))
local_parts_sound [] ps g h = h
local_parts_sound (d ∷ ds) ps g h = (g.0, local_parts_sound ds ps g.1 h)

switch_sound : (ms : Meanings) → AreSound ms → PartsAreSpelled (parts (switch_parts ms))
switch_sound none h = tt
switch_sound (more (Declarations ds) ms) h = local_parts_sound ds (switch_parts ms) h.0 (switch_sound ms h.1)
switch_sound (more (Label p) ms) h = (h.0, switch_sound ms h.1)
switch_sound (more m ms) h = ((statement_sound m h.0).0, switch_sound ms h.1)

head_sound : (m : Meaning) → IsSound m → Stands (for_first m)
head_sound (Declarations ds) h = (locals_alone ds h, refl)
head_sound m h = statement_sound m h

else_sound : (s t : CStmt) → Stands s → Stands t → Stands (with_else s t)
else_sound (plain.If e s) t g h = ((g.0.0, g.0.1, h.0), refl)
else_sound s t g h = g

jump_sound : (k : Key) (p : ℕ) → Stands (jump k p)
jump_sound key.Break p = (tt, refl)
jump_sound k p = (tt, refl)

body_sound : (t : CStmt) → StmtIsSpelled t → BodyIsSpelled (body_of t)
body_sound (plain.Block ss) h = h
body_sound t h = tt

-- ---- externals

both_items : (xs ys : List CItem) → ItemsAreSpelled xs → ItemsAreSpelled ys → ItemsAreSpelled (xs ++ ys)
both_items [] ys g h = h
both_items (x ∷ xs) ys g h = (g.0, both_items xs ys g.1 h)

items_sound : (m : Meaning) → IsSound m → (base t : CTy) → TyIsSpelled base → TyIsSpelled t → ItemsAreSpelled (items m base t)
items_sound (Items f) h base t j k = h base t j k
items_sound m h base t j k = tt

all_items_sound : (ms : Meanings) → AreSound ms → ItemsAreSpelled (all_items ms)
all_items_sound none h = tt
all_items_sound (more m ms) h = both_items (items m plain.Void plain.Void) (all_items ms) (items_sound m h.0 plain.Void plain.Void tt tt) (all_items_sound ms h.1)

objects_sound : (ds : List CDecl) → DeclsAreSpelled ds → ItemsAreSpelled (map plain.Object ds)
objects_sound [] h = tt
objects_sound (d ∷ ds) h = (h.0, objects_sound ds h.1)

-- ---- pieces

piece_sound : (k : Piece) (ms : Meanings) → AreSound ms → IsSound (piece_meaning k ms)
piece_sound NextArgument (more comma (more a none)) h = h.1.0
piece_sound FunctionPart (more o (more star (more c (more o' (more params none))))) h = h.1.1.1.1.0
piece_sound SecondWord (more w (more consts none)) h = h.0
piece_sound NamePart (more n none) h = h.0
piece_sound Pointer ms h = tt
piece_sound Qualifier ms h = tt
piece_sound Members (more o (more ms (more c none))) h = members_sound (several ms) (several_sound ms h.1.0)
piece_sound NextMember (more comma (more stars (more core none))) h = λ t k. declared_sound stars core h.1.1.0 t k
piece_sound AnyLength (more o (more n (more c none))) h = maybe_sound n h.1.0
piece_sound FullLength (more o (more n (more c none))) h = one_sound n h.1.0
piece_sound NextParam (more comma (more spec (more stars (more tail none)))) h = λ t k. parameter_sound spec stars tail h.1.0 h.1.1.1.0
piece_sound ParamLengths (more o (more n (more c (more others none)))) h = λ t k. array_sound (Length (maybe_expression n)) (maybe_sound n h.1.0) (arrays (several others) t) (arrays_sound (several others) (several_sound others h.1.1.1.0) t k)
piece_sound Initial (more eq (more v none)) h = value_sound v h.1.0
piece_sound NextInit (more comma (more stars (more core (more v none)))) h = λ t k. valued_sound (declared stars core t) (maybe_value v) (declared_sound stars core h.1.1.0 t k) (maybe_value_sound v h.1.1.1.0)
piece_sound k ms h = tt

-- ---- productions

act_sound : (p : Production) (ms : Meanings) → AreSound ms → IsSound (act p ms)
unfolding act
act_sound Atom (more w none) h = atom_sound (word w) (tree.place w) (word_sound w h.0)
act_sound Parens (more o (more inside none)) h = bracketed_sound (tree.place o) inside h.1.0
act_sound ExprInside (more a (more c none)) h = h.0
act_sound TypeInside (more spec (more stars (more function (more c none)))) h = (in_function_sound function h.1.1.0 (starred stars (type_of spec)) (starred_sound stars (type_of spec) (type_sound spec h.0)), tt)
act_sound Prefix (more w (more a none)) h = prefix_sound (the_mark (word w)) (tree.place w) (expression a) (one_sound a h.1.0)
act_sound SizeOf (more w (more a none)) h = size_sound (tree.place w) a h.1.0
act_sound Suffix (more a (more w none)) h = one_sound a h.0
act_sound Member (more a (more w (more n none))) h = member_sound (the_mark (word w)) (tree.place w) (expression a) (tree.name n) (one_sound a h.0)
act_sound Index (more a (more o (more b (more c none)))) h = (one_sound a h.0, one_sound b h.1.1.0)
act_sound Call (more f (more o (more args none))) h = (one_sound f h.0, arguments_sound (expressions args) (all_sound args h.1.1.0))
act_sound NoArguments ms h = tt
act_sound Arguments (more a (more others (more c none))) h = (one_sound a h.0, next_sound (several others) (several_sound others h.1.0))
act_sound (Binary n) (more a (more w (more b none))) h = (one_sound a h.0, one_sound b h.1.1.0)
act_sound Assign (more a (more w (more b none))) h = assign_sound (the_mark (word w)) (tree.place w) (expression a) (expression b) (one_sound a h.0) (one_sound b h.1.1.0)
act_sound Cond (more a (more q (more b (more c (more d none))))) h = (one_sound a h.0, one_sound b h.1.1.0, one_sound d h.1.1.1.1.0)
act_sound CommaExpr (more a (more w (more b none))) h = (one_sound a h.0, one_sound b h.1.1.0)
act_sound Cast (more t (more a none)) h = (type_sound t h.0, one_sound a h.1.0)
act_sound (PieceP k) ms h = piece_sound k ms h
act_sound (ConstSpec e) (more w (more spec none)) h = (type_sound spec h.1.0, tags_sound spec h.1.0)
act_sound (WordSpec e) (more w (more consts none)) h = (word_typed (the_key (word w)), tt)
act_sound (SignSpec e) (more w (more consts (more second none))) h = (sign_typed (the_key (word w)) (second_word second), tt)
act_sound (StructSpec e) ms h = struct_sound ms h
act_sound MemberP (more spec (more stars (more core (more others (more semi none))))) h = (declared_sound stars core h.1.1.0 (type_of spec) (type_sound spec h.0), all_declared_sound (type_of spec) (type_sound spec h.0) (several others) (several_sound others h.1.1.1.0))
act_sound (NameCore o) (more n (more lengths none)) h = λ t k. named_sound n h.0 (arrays (several lengths)) (λ t k. arrays_sound (several lengths) (several_sound lengths h.1.0) t k) t k
act_sound (FunctionCore o) (more l (more star (more n (more lengths (more r (more l' (more params none))))))) h =
    λ t k. named_sound n h.1.1.0 (λ t. arrays (several lengths) (function_pointer params t)) (λ t k. arrays_sound (several lengths) (several_sound lengths h.1.1.1.0) (function_pointer params t) (function_sound params h.1.1.1.1.1.1.0 t k)) t k
act_sound NoParams ms h = tt
act_sound Params (more spec (more stars (more tail (more others (more r none))))) h = parameters_sound spec stars tail others h.0 h.1.1.0 h.1.1.1.0
act_sound ParamName (more n (more lengths none)) h = λ t k. named_sound n h.0 (unnamed lengths) (λ t k. unnamed_sound lengths h.1.0 t k) t k
act_sound ParamFunction (more l (more star (more n (more length (more r (more l' (more params none))))))) h =
    function_parameter_sound n h.1.1.0 (λ t. arrays (several length) (function_pointer params t)) (λ t k. arrays_sound (several length) (several_sound length h.1.1.1.0) (function_pointer params t) (function_sound params h.1.1.1.1.1.1.0 t k))
act_sound Declaration (more spec (more stars (more core (more v (more others (more semi none)))))) h =
    (valued_sound (declared stars core (type_of spec)) (maybe_value v) (declared_sound stars core h.1.1.0 (type_of spec) (type_sound spec h.0)) (maybe_value_sound v h.1.1.1.0), all_declared_sound (type_of spec) (type_sound spec h.0) (several others) (several_sound others h.1.1.1.1.0))
act_sound FirstValue (more l (more v none)) h = (value_sound v h.1.0, tt)
act_sound ValueComma (more vs (more comma none)) h = h.0
act_sound NextValue (more vs (more v none)) h = values_behind (value_list vs) (value v) (list_sound vs h.0) (value_sound v h.1.0)
act_sound Braces (more vs (more r none)) h = values_sound (value_list vs) (list_sound vs h.0)
act_sound Block (more l (more ms (more r none))) h = (block_sound (several ms) (several_sound ms h.1.0), refl)
act_sound Empty ms h = (tt, refl)
act_sound ExprStatement (more a (more semi none)) h = (one_sound a h.0, refl)
act_sound If (more w (more l (more a (more r (more s none))))) h = ((one_sound a h.1.1.0, (statement_sound s h.1.1.1.1.0).0), refl)
act_sound IfElse (more i (more w (more t none))) h = else_sound (statement i) (statement t) (statement_sound i h.0) (statement_sound t h.1.1.0)
act_sound While (more w (more l (more a (more r (more s none))))) h = ((one_sound a h.1.1.0, (statement_sound s h.1.1.1.1.0).0), refl)
act_sound Do (more w (more s (more w' (more l (more a (more r (more semi none))))))) h = ((one_sound a h.1.1.1.1.0, (statement_sound s h.1.0).0), refl)
act_sound For (more w (more l (more first (more test (more semi (more step (more r (more s none)))))))) h =
    (((head_sound first h.1.1.0).1, (head_sound first h.1.1.0).0, maybe_sound test h.1.1.1.0, maybe_sound step h.1.1.1.1.1.0, (statement_sound s h.1.1.1.1.1.1.1.0).0), refl)
act_sound Switch (more w (more l (more a (more r (more l' (more ms (more r' none))))))) h = ((one_sound a h.1.1.0, switch_sound (several ms) (several_sound ms h.1.1.1.1.1.0)), refl)
act_sound Return (more w (more a (more semi none))) h = (maybe_sound a h.1.0, refl)
act_sound Jump (more w (more semi none)) h = jump_sound (the_key (word w)) (tree.place w)
act_sound CaseLabel (more w (more a (more colon none))) h = one_sound a h.1.0
act_sound DefaultLabel (more w (more colon none)) h = tt
act_sound Whole (more externals (more end none)) h = λ base t j k. all_items_sound (several externals) (several_sound externals h.0)
act_sound StaticExternal (more w (more x none)) h = h.1.0
act_sound DeclaredP (more spec (more rest none)) h = λ base t j k. both_items (tags_of spec) (items rest (type_of spec) (type_of spec)) (tags_sound spec h.0) (items_sound rest h.1.0 (type_of spec) (type_of spec) (type_sound spec h.0) (type_sound spec h.0))
act_sound Pointed (more w (more const (more rest none))) h = λ base t j k. items_sound rest h.1.1.0 base (plain.Pointer t) j k
act_sound Function (more n (more l (more params (more end none)))) h =
    λ base t j k. let d = declares_sound n h.0 t k in ((d.0, d.1, declarations_sound params h.1.1.0, body_sound (statement end) (statement_sound end h.1.1.1.0).0), tt)
act_sound Objects (more core (more v (more others (more semi none)))) h =
    λ base t j k. objects_sound (with_value (declares core t) (maybe_value v) ∷ all_declared base (several others)) (valued_sound (declares core t) (maybe_value v) (declares_sound core h.0 t k) (maybe_value_sound v h.1.0), all_declared_sound base j (several others) (several_sound others h.1.1.0))
act_sound p ms h = tt

-- ---- spellings

first_of_text : (ts us : List Token) → AreOfText (ts ++ us) → AreOfText ts
first_of_text [] us h = tt
first_of_text (t ∷ ts) us h = (h.0, first_of_text ts us h.1)

last_of_text : (ts us : List Token) → AreOfText (ts ++ us) → AreOfText us
last_of_text [] us h = h
last_of_text (t ∷ ts) us h = last_of_text ts us h.1

mutual
  meaning_sound : (x : Spelling) → AreOfText (tokens x) → IsSound (meaning x)
  meaning_sound (Leaf t) h = h.0
  meaning_sound (Node p kids) h = act_sound p (meanings kids) (meanings_sound kids h)
  meaning_sound (Row xs) h = meanings_sound xs h

  meanings_sound : (xs : Spellings) → AreOfText (all_tokens xs) → AreSound (meanings xs)
  meanings_sound Nil h = tt
  meanings_sound (Cons x xs) h = (meaning_sound x (first_of_text (tokens x) (all_tokens xs) h), meanings_sound xs (last_of_text (tokens x) (all_tokens xs) h))

-- the externals of a unit that tokens of a text spell
pub unit_spelled : (ts : List Token) (u : CUnit) → AreOfText ts → IsUnitWithin ts u → ItemsAreSpelled u.items
unit_spelled ts u a h =
    let kids = h.spells.spelt.kids in
    let told : AreOfText (all_tokens kids) = subst (λ z. AreOfText z) h.spells.spelt.tokens_are a in
    subst (λ (v : CUnit). ItemsAreSpelled v.items) (sym h.spells.tree_is) (items_sound (act Whole (meanings kids)) (act_sound Whole (meanings kids) (meanings_sound kids told)) plain.Void plain.Void tt tt)
