-- What the parts of a spelling mean declares in blocks alone.
use Rattle.std.proofs.Common.{ℕ, List, [], ◌∷◌, ◌++◌, map, refl, sym, subst}
use Rattle.c_syntax.specs.declared.token.Key.{Key}
use Rattle.c_syntax.specs.declared.token.Key.TheVariants as key
use Rattle.c_syntax.specs.Plain as plain
use Rattle.c_syntax.specs.Plain.{CTy, CDecl, CStmt, CStmts, CPart, CParts, CItem, CUnit, stmts, parts}
use Rattle.c_grammar.specs.declared.names.Piece.{Piece}
use Rattle.c_grammar.specs.declared.names.Piece.TheVariants.{NextArgument, FunctionPart, Pointer, Qualifier, SecondWord, Members, NextMember, AnyLength, FullLength, NextParam, ParamLengths, NamePart, Initial, NextInit}
use Rattle.c_grammar.specs.declared.names.Production.{Production}
use Rattle.c_grammar.specs.declared.names.Production.TheVariants.{Atom, Parens, ExprInside, TypeInside, Prefix, SizeOf, Suffix, Member, Index, Call, NoArguments, Arguments, Assign, Cond, CommaExpr, Cast, Binary, PieceP, ConstSpec, WordSpec, SignSpec, StructSpec, MemberP, NameCore, FunctionCore, NoParams, Params, ParamName, ParamFunction, Declaration, FirstValue, ValueComma, NextValue, Braces, Block, Empty, ExprStatement, If, IfElse, While, Do, For, Switch, Return, Jump, CaseLabel, DefaultLabel, Whole, StaticExternal, DeclaredP, Pointed, Function, Objects}
use Rattle.c_grammar.specs.Spelling.{Spelling, Leaf, Node, Row, Spellings, Nil, Cons}
use Rattle.c_grammar.specs.Tree as tree
use Rattle.c_grammar.specs.Tree.{Meaning, Meanings, Nothing, Word, Expression, Expressions, Bracketed, Type', Declares, Declarations, Length, TheValue, TheValues, Statement, Label, Unnamed, Items, Several, none, more, several, type_of, tags_of, declares, declarations, value, maybe_value, statement, block_items, local_part, switch_parts, for_first, items, all_items, bracketed, word, the_key, struct_tags, struct_type, function_parameter, with_else, jump, body_of, function, piece_meaning, act, meaning, meanings, unit_tree}
use Rattle.c_fitting.specs.Blocks.{IsNoDeclaration, DeclaresInBlocks, AllDeclareInBlocks, PartDeclaresInBlocks, PartsDeclareInBlocks, ItemDeclaresInBlocks, ItemsDeclareInBlocks, UnitDeclaresInBlocks}
use Rattle.c_fitting.specs.InBlocksLaws.{UnitsDeclareInBlocks}

-- a statement that is no declaration and holds none outside of blocks
abbrev IsBlocked : CStmt → Type 0
IsBlocked t = DeclaresInBlocks t × IsNoDeclaration t

abbrev mutual
  IsSound : Meaning → Type 0
  IsSound (Statement t) = IsBlocked t
  IsSound (Label p) = PartDeclaresInBlocks p
  IsSound (Type' t pos bare tags) = ItemsDeclareInBlocks tags
  IsSound (Items f) = (base t : CTy) → ItemsDeclareInBlocks (f base t)
  IsSound (Several ms) = AreSound ms
  IsSound _ = Unit {0}

  AreSound : Meanings → Type 0
  AreSound none = Unit {0}
  AreSound (more m ms) = IsSound m × AreSound ms

-- ---- parts

statement_sound : (m : Meaning) → IsSound m → IsBlocked (statement m)
statement_sound (Statement t) h = h
statement_sound m h = (tt, refl)

several_sound : (m : Meaning) → IsSound m → AreSound (several m)
several_sound (Several ms) h = h
several_sound m h = tt

tags_sound : (m : Meaning) → IsSound m → ItemsDeclareInBlocks (tags_of m)
tags_sound (Type' t pos bare tags) h = h
tags_sound m h = tt

items_sound : (m : Meaning) → IsSound m → (base t : CTy) → ItemsDeclareInBlocks (items m base t)
items_sound (Items f) h base t = h base t
items_sound m h base t = tt

both_items : (xs ys : List CItem) → ItemsDeclareInBlocks xs → ItemsDeclareInBlocks ys → ItemsDeclareInBlocks (xs ++ ys)
both_items [] ys g h = h
both_items (x ∷ xs) ys g h = (g.0, both_items xs ys g.1 h)

all_items_sound : (ms : Meanings) → AreSound ms → ItemsDeclareInBlocks (all_items ms)
all_items_sound none h = tt
all_items_sound (more m ms) h = both_items (items m plain.Void plain.Void) (all_items ms) (items_sound m h.0 plain.Void plain.Void) (all_items_sound ms h.1)

objects_sound : (ds : List CDecl) → ItemsDeclareInBlocks (map plain.Object ds)
objects_sound [] = tt
objects_sound (d ∷ ds) = (tt, objects_sound ds)

locals_sound : (ds : List CDecl) (ts : List CStmt) → AllDeclareInBlocks (stmts ts) → AllDeclareInBlocks (stmts (map plain.Local ds ++ ts))
locals_sound [] ts h = h
locals_sound (d ∷ ds) ts h = (tt, locals_sound ds ts h)

locals_alone : (ds : List CDecl) → AllDeclareInBlocks (stmts (map plain.Local ds))
locals_alone [] = tt
locals_alone (d ∷ ds) = (tt, locals_alone ds)

block_sound : (ms : Meanings) → AreSound ms → AllDeclareInBlocks (stmts (block_items ms))
block_sound none h = tt
block_sound (more (Declarations ds) ms) h = locals_sound ds (block_items ms) (block_sound ms h.1)
block_sound (more m ms) h = ((statement_sound m h.0).0, block_sound ms h.1)

local_parts_sound : (ds : List CDecl) (ps : List CPart) → PartsDeclareInBlocks (parts ps) → PartsDeclareInBlocks (parts (map local_part ds ++ ps))
local_parts_sound [] ps h = h
local_parts_sound (d ∷ ds) ps h = (tt, local_parts_sound ds ps h)

switch_sound : (ms : Meanings) → AreSound ms → PartsDeclareInBlocks (parts (switch_parts ms))
switch_sound none h = tt
switch_sound (more (Declarations ds) ms) h = local_parts_sound ds (switch_parts ms) (switch_sound ms h.1)
switch_sound (more (Label p) ms) h = (h.0, switch_sound ms h.1)
switch_sound (more m ms) h = ((statement_sound m h.0).0, switch_sound ms h.1)

head_sound : (m : Meaning) → IsSound m → IsBlocked (for_first m)
head_sound (Declarations ds) h = (locals_alone ds, refl)
head_sound m h = statement_sound m h

else_sound : (s t : CStmt) → IsBlocked s → IsBlocked t → IsBlocked (with_else s t)
else_sound (plain.If e s) t g h = (((g.0.0, g.0.1), h), refl)
else_sound s t g h = g

jump_sound : (k : Key) (p : ℕ) → IsBlocked (jump k p)
jump_sound key.Break p = (tt, refl)
jump_sound k p = (tt, refl)

body_sound : (d : CDecl) (ps : List CDecl) (t : CStmt) → IsBlocked t → ItemDeclaresInBlocks (function d ps (body_of t))
body_sound d ps (plain.Block ss) h = h
body_sound d ps t h = tt

bracketed_sound : (p : ℕ) (m : Meaning) → IsSound (bracketed p m)
bracketed_sound p (Expression e) = tt
bracketed_sound p m = tt

struct_tags_sound : (n body : Meaning) → ItemsDeclareInBlocks (struct_tags n body)
struct_tags_sound n (Several (more m ms)) = (tt, tt)
struct_tags_sound n (Several none) = tt
struct_tags_sound n body = tt

struct_sound : (ms : Meanings) → IsSound (struct_type ms)
struct_sound (more s (more n (more body (more consts none)))) = struct_tags_sound n body
struct_sound (more s (more n (more consts none))) = tt
struct_sound ms = tt

parameter_sound : (m : Meaning) (f : CTy → CTy) → IsSound (function_parameter m f)
parameter_sound (Several (more n ms)) f = tt
parameter_sound (Several none) f = tt
parameter_sound m f = tt

piece_sound : (k : Piece) (ms : Meanings) → AreSound ms → IsSound (piece_meaning k ms)
piece_sound NextArgument (more comma (more a none)) h = h.1.0
piece_sound FunctionPart (more o (more star (more c (more o' (more params none))))) h = h.1.1.1.1.0
piece_sound SecondWord (more w (more consts none)) h = h.0
piece_sound NamePart (more n none) h = h.0
piece_sound Pointer ms h = tt
piece_sound Qualifier ms h = tt
piece_sound Members (more o (more ms (more c none))) h = tt
piece_sound NextMember (more comma (more stars (more core none))) h = tt
piece_sound AnyLength (more o (more n (more c none))) h = tt
piece_sound FullLength (more o (more n (more c none))) h = tt
piece_sound NextParam (more comma (more spec (more stars (more tail none)))) h = tt
piece_sound ParamLengths (more o (more n (more c (more others none)))) h = tt
piece_sound Initial (more eq (more v none)) h = tt
piece_sound NextInit (more comma (more stars (more core (more v none)))) h = tt
piece_sound k ms h = tt

-- ---- productions

act_sound : (p : Production) (ms : Meanings) → AreSound ms → IsSound (act p ms)
unfolding act
act_sound Parens (more o (more inside none)) h = bracketed_sound (tree.place o) inside
act_sound ExprInside (more a (more c none)) h = h.0
act_sound (PieceP k) ms h = piece_sound k ms h
act_sound (ConstSpec e) (more w (more spec none)) h = tags_sound spec h.1.0
act_sound (StructSpec e) ms h = struct_sound ms
act_sound ParamFunction (more l (more star (more n (more length (more r (more l' (more params none))))))) h = parameter_sound n _
act_sound ValueComma (more vs (more comma none)) h = h.0
act_sound Block (more l (more ms (more r none))) h = (block_sound (several ms) (several_sound ms h.1.0), refl)
act_sound If (more w (more l (more a (more r (more s none))))) h = (statement_sound s h.1.1.1.1.0, refl)
act_sound IfElse (more i (more w (more t none))) h = else_sound (statement i) (statement t) (statement_sound i h.0) (statement_sound t h.1.1.0)
act_sound While (more w (more l (more a (more r (more s none))))) h = (statement_sound s h.1.1.1.1.0, refl)
act_sound Do (more w (more s (more w' (more l (more a (more r (more semi none))))))) h = (statement_sound s h.1.0, refl)
act_sound For (more w (more l (more first (more test (more semi (more step (more r (more s none)))))))) h = ((head_sound first h.1.1.0, statement_sound s h.1.1.1.1.1.1.1.0), refl)
act_sound Switch (more w (more l (more a (more r (more l' (more ms (more r' none))))))) h = (switch_sound (several ms) (several_sound ms h.1.1.1.1.1.0), refl)
act_sound Jump (more w (more semi none)) h = jump_sound (the_key (word w)) (tree.place w)
act_sound Whole (more externals (more end none)) h = λ base t. all_items_sound (several externals) (several_sound externals h.0)
act_sound StaticExternal (more w (more x none)) h = h.1.0
act_sound DeclaredP (more spec (more rest none)) h = λ base t. both_items (tags_of spec) (items rest (type_of spec) (type_of spec)) (tags_sound spec h.0) (items_sound rest h.1.0 (type_of spec) (type_of spec))
act_sound Pointed (more w (more const (more rest none))) h = λ base t. items_sound rest h.1.1.0 base (plain.Pointer t)
act_sound Function (more n (more l (more params (more end none)))) h = λ base t. (body_sound (declares n t) (declarations params) (statement end) (statement_sound end h.1.1.1.0), tt)
act_sound Objects (more core (more v (more others (more semi none)))) h = λ base t. objects_sound (tree.with_value (declares core t) (maybe_value v) ∷ tree.all_declared base (several others))
act_sound Atom (more w none) h = tt
act_sound TypeInside (more spec (more stars (more function (more c none)))) h = tt
act_sound Prefix (more w (more a none)) h = tt
act_sound SizeOf (more w (more a none)) h = tt
act_sound Suffix (more a (more w none)) h = tt
act_sound Member (more a (more w (more n none))) h = tt
act_sound Index (more a (more o (more b (more c none)))) h = tt
act_sound Call (more f (more o (more args none))) h = tt
act_sound NoArguments ms h = tt
act_sound Arguments (more a (more others (more c none))) h = tt
act_sound (Binary n) (more a (more w (more b none))) h = tt
act_sound Assign (more a (more w (more b none))) h = tt
act_sound Cond (more a (more q (more b (more c (more d none))))) h = tt
act_sound CommaExpr (more a (more w (more b none))) h = tt
act_sound Cast (more t (more a none)) h = tt
act_sound (WordSpec e) (more w (more consts none)) h = tt
act_sound (SignSpec e) (more w (more consts (more second none))) h = tt
act_sound MemberP (more spec (more stars (more core (more others (more semi none))))) h = tt
act_sound (NameCore o) (more n (more lengths none)) h = tt
act_sound (FunctionCore o) (more l (more star (more n (more lengths (more r (more l' (more params none))))))) h = tt
act_sound NoParams ms h = tt
act_sound Params (more spec (more stars (more tail (more others (more r none))))) h = tt
act_sound ParamName (more n (more lengths none)) h = tt
act_sound Declaration (more spec (more stars (more core (more v (more others (more semi none)))))) h = tt
act_sound FirstValue (more l (more v none)) h = tt
act_sound NextValue (more vs (more v none)) h = tt
act_sound Braces (more vs (more r none)) h = tt
act_sound Empty ms h = (tt, refl)
act_sound ExprStatement (more a (more semi none)) h = (tt, refl)
act_sound Return (more w (more a (more semi none))) h = (tt, refl)
act_sound CaseLabel (more w (more a (more colon none))) h = tt
act_sound DefaultLabel (more w (more colon none)) h = tt
act_sound p ms h = tt

-- ---- spellings

mutual
  meaning_sound : (x : Spelling) → IsSound (meaning x)
  meaning_sound (Leaf t) = tt
  meaning_sound (Node p kids) = act_sound p (meanings kids) (meanings_sound kids)
  meaning_sound (Row xs) = meanings_sound xs

  meanings_sound : (xs : Spellings) → AreSound (meanings xs)
  meanings_sound Nil = tt
  meanings_sound (Cons x xs) = (meaning_sound x, meanings_sound xs)

pub units_declare_in_blocks : UnitsDeclareInBlocks
units_declare_in_blocks ts u h =
    let kids = h.spells.spelt.kids in
    subst (λ v. UnitDeclaresInBlocks v) (sym h.spells.tree_is) (items_sound (act Whole (meanings kids)) (act_sound Whole (meanings kids) (meanings_sound kids)) plain.Void plain.Void)
