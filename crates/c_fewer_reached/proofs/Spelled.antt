-- What the parts of a spelling mean assigns by the operators that C has for it alone.
use Rattle.std.proofs.Common.{◌≡◌, ℕ, List, [], ◌∷◌, subst}
use Rattle.c_syntax.specs.declared.token.Kind.{Kind}
use Rattle.c_syntax.specs.declared.token.Kind.TheVariants as kind
use Rattle.c_syntax.specs.declared.token.Mark.{Mark}
use Rattle.c_syntax.specs.declared.token.Mark.TheVariants as mark
use Rattle.c_syntax.specs.Plain as plain
use Rattle.c_syntax.specs.Plain.{CExpr, CTy, exprs}
use Rattle.c_grammar.specs.declared.names.Piece.{Piece}
use Rattle.c_grammar.specs.declared.names.Piece.TheVariants.{NextArgument, FunctionPart, Pointer, Qualifier, SecondWord, Members, NextMember, AnyLength, FullLength, NextParam, ParamLengths, NamePart, Initial, NextInit}
use Rattle.c_grammar.specs.declared.names.Production.{Production}
use Rattle.c_grammar.specs.declared.names.Production.TheVariants.{Atom, Parens, ExprInside, TypeInside, Prefix, SizeOf, Suffix, Member, Index, Call, NoArguments, Arguments, Assign, Cond, CommaExpr, Cast, Binary, PieceP, ConstSpec, WordSpec, SignSpec, StructSpec, MemberP, NameCore, FunctionCore, NoParams, Params, ParamName, ParamFunction, Declaration, FirstValue, ValueComma, NextValue, Braces, Block, Empty, ExprStatement, If, IfElse, While, Do, For, Switch, Return, Jump, CaseLabel, DefaultLabel, Whole, StaticExternal, DeclaredP, Pointed, Function, Objects}
use Rattle.c_grammar.specs.Spelling.{Spelling, Leaf, Node, Row, Spellings, Nil, Cons}
use Rattle.c_grammar.specs.Tree as tree
use Rattle.c_grammar.specs.Tree.{Meaning, Meanings, Word, Expression, Expressions, Several, none, more, several, expression, expressions, next_expressions, atom_of, prefix_mark, the_mark, member_of, assigning, size_of, struct_type, function_parameter, bracketed, word, piece_meaning, act, meaning, meanings}
use Rattle.c_fewer_reached.specs.Updates.{UpdatesAre, AllUpdatesAre}
use Rattle.c_fewer_reached.specs.UpdatesLaws.{ExpressionsUpdate}

abbrev EachUpdates : List CExpr → Type 0
EachUpdates [] = Unit {0}
EachUpdates (e ∷ es) = UpdatesAre e × EachUpdates es

abbrev mutual
  IsSound : Meaning → Type 0
  IsSound (Expression e) = UpdatesAre e
  IsSound (Expressions es) = EachUpdates es
  IsSound (Several ms) = AreSound ms
  IsSound _ = Unit {0}

  AreSound : Meanings → Type 0
  AreSound none = Unit {0}
  AreSound (more m ms) = IsSound m × AreSound ms

-- ---- parts

one_sound : (m : Meaning) → IsSound m → UpdatesAre (expression m)
one_sound (Expression e) h = h
one_sound m h = tt

several_sound : (m : Meaning) → IsSound m → AreSound (several m)
several_sound (Several ms) h = h
several_sound m h = tt

next_sound : (ms : Meanings) → AreSound ms → EachUpdates (next_expressions ms)
next_sound none h = tt
next_sound (more m ms) h = (one_sound m h.0, next_sound ms h.1)

all_sound : (m : Meaning) → IsSound m → EachUpdates (expressions m)
all_sound (Expressions es) h = h
all_sound m h = tt

arguments_sound : (es : List CExpr) → EachUpdates es → AllUpdatesAre (exprs es)
arguments_sound [] h = tt
arguments_sound (e ∷ es) h = (h.0, arguments_sound es h.1)

bracketed_sound : (p : ℕ) (m : Meaning) → IsSound m → IsSound (bracketed p m)
bracketed_sound p (Expression e) h = h
bracketed_sound p m h = tt

-- ---- expressions

atom_sound : (k : Kind) (p : ℕ) → UpdatesAre (atom_of k p)
atom_sound (kind.Number v u) p = tt
atom_sound (kind.Str x) p = tt
atom_sound (kind.Name x) p = tt
atom_sound k p = tt

prefix_sound : (m : Mark) (p : ℕ) (a : CExpr) → UpdatesAre a → UpdatesAre (prefix_mark m p a)
prefix_sound mark.Amp p a h = h
prefix_sound mark.Star p a h = h
prefix_sound mark.Plus p a h = h
prefix_sound mark.Minus p a h = h
prefix_sound mark.Tilde p a h = h
prefix_sound mark.Bang p a h = h
prefix_sound mark.PlusPlus p a h = h
prefix_sound mark.MinusMinus p a h = h
prefix_sound m p a h = h

size_sound : (p : ℕ) (m : Meaning) → UpdatesAre (size_of p m)
size_sound p (tree.Bracketed q t) = tt
size_sound p m = tt

member_sound : (m : Mark) (p : ℕ) (a : CExpr) (x : List ℕ) → UpdatesAre a → UpdatesAre (member_of m p a x)
member_sound mark.Dot p a x h = h
member_sound m p a x h = h

assign_sound : (m : Mark) (p : ℕ) (a b : CExpr) → UpdatesAre a → UpdatesAre b → UpdatesAre (plain.Assign p (assigning m) a b)
assign_sound mark.PlusAssign p a b g h = (tt, g, h)
assign_sound mark.MinusAssign p a b g h = (tt, g, h)
assign_sound mark.StarAssign p a b g h = (tt, g, h)
assign_sound mark.SlashAssign p a b g h = (tt, g, h)
assign_sound mark.PercentAssign p a b g h = (tt, g, h)
assign_sound mark.AmpAssign p a b g h = (tt, g, h)
assign_sound mark.BarAssign p a b g h = (tt, g, h)
assign_sound mark.CaretAssign p a b g h = (tt, g, h)
assign_sound mark.ShlAssign p a b g h = (tt, g, h)
assign_sound mark.ShrAssign p a b g h = (tt, g, h)
assign_sound m p a b g h = (g, h)

struct_sound : (ms : Meanings) → IsSound (struct_type ms)
struct_sound (more s (more n (more body (more consts none)))) = tt
struct_sound (more s (more n (more consts none))) = tt
struct_sound ms = tt

parameter_sound : (m : Meaning) (f : CTy → CTy) → IsSound (function_parameter m f)
parameter_sound (Several (more n ms)) f = tt
parameter_sound (Several none) f = tt
parameter_sound m f = tt

piece_sound : (k : Piece) (ms : Meanings) → AreSound ms → IsSound (piece_meaning k ms)
piece_sound NextArgument (more comma (more a none)) h = h.1.0
piece_sound FunctionPart (more o (more star (more c (more o' (more params none))))) h = h.1.1.1.1.0
piece_sound SecondWord (more w (more consts none)) h = h.0
piece_sound NamePart (more n none) h = h.0
piece_sound Pointer ms h = tt
piece_sound Qualifier ms h = tt
piece_sound Members (more o (more ms (more c none))) h = tt
piece_sound NextMember (more comma (more stars (more core none))) h = tt
piece_sound AnyLength (more o (more n (more c none))) h = tt
piece_sound FullLength (more o (more n (more c none))) h = tt
piece_sound NextParam (more comma (more spec (more stars (more tail none)))) h = tt
piece_sound ParamLengths (more o (more n (more c (more others none)))) h = tt
piece_sound Initial (more eq (more v none)) h = tt
piece_sound NextInit (more comma (more stars (more core (more v none)))) h = tt
piece_sound k ms h = tt

-- ---- productions

act_sound : (p : Production) (ms : Meanings) → AreSound ms → IsSound (act p ms)
unfolding act
act_sound Atom (more w none) h = atom_sound (word w) (tree.place w)
act_sound Parens (more o (more inside none)) h = bracketed_sound (tree.place o) inside h.1.0
act_sound ExprInside (more a (more c none)) h = h.0
act_sound Prefix (more w (more a none)) h = prefix_sound (the_mark (word w)) (tree.place w) (expression a) (one_sound a h.1.0)
act_sound SizeOf (more w (more a none)) h = size_sound (tree.place w) a
act_sound Suffix (more a (more w none)) h = one_sound a h.0
act_sound Member (more a (more w (more n none))) h = member_sound (the_mark (word w)) (tree.place w) (expression a) (tree.name n) (one_sound a h.0)
act_sound Index (more a (more o (more b (more c none)))) h = (one_sound a h.0, one_sound b h.1.1.0)
act_sound Call (more f (more o (more args none))) h = (one_sound f h.0, arguments_sound (expressions args) (all_sound args h.1.1.0))
act_sound NoArguments ms h = tt
act_sound Arguments (more a (more others (more c none))) h = (one_sound a h.0, next_sound (several others) (several_sound others h.1.0))
act_sound (Binary n) (more a (more w (more b none))) h = (one_sound a h.0, one_sound b h.1.1.0)
act_sound Assign (more a (more w (more b none))) h = assign_sound (the_mark (word w)) (tree.place w) (expression a) (expression b) (one_sound a h.0) (one_sound b h.1.1.0)
act_sound Cond (more a (more q (more b (more c (more d none))))) h = (one_sound a h.0, one_sound b h.1.1.0, one_sound d h.1.1.1.1.0)
act_sound CommaExpr (more a (more w (more b none))) h = (one_sound a h.0, one_sound b h.1.1.0)
act_sound Cast (more t (more a none)) h = one_sound a h.1.0
act_sound (PieceP k) ms h = piece_sound k ms h
act_sound (StructSpec e) ms h = struct_sound ms
act_sound ParamFunction (more l (more star (more n (more length (more r (more l' (more params none))))))) h = parameter_sound n _
act_sound ValueComma (more vs (more comma none)) h = h.0
act_sound StaticExternal (more w (more x none)) h = h.1.0
act_sound (ConstSpec e) (more w (more spec none)) h = tt
act_sound Block (more l (more ms (more r none))) h = tt
act_sound If (more w (more l (more a (more r (more s none))))) h = tt
act_sound IfElse (more i (more w (more t none))) h = tt
act_sound While (more w (more l (more a (more r (more s none))))) h = tt
act_sound Do (more w (more s (more w' (more l (more a (more r (more semi none))))))) h = tt
act_sound For (more w (more l (more first (more test (more semi (more step (more r (more s none)))))))) h = tt
act_sound Switch (more w (more l (more a (more r (more l' (more ms (more r' none))))))) h = tt
act_sound Jump (more w (more semi none)) h = tt
act_sound Whole (more externals (more end none)) h = tt
act_sound DeclaredP (more spec (more rest none)) h = tt
act_sound Pointed (more w (more const (more rest none))) h = tt
act_sound Function (more n (more l (more params (more end none)))) h = tt
act_sound Objects (more core (more v (more others (more semi none)))) h = tt
act_sound TypeInside (more spec (more stars (more function (more c none)))) h = tt
act_sound (WordSpec e) (more w (more consts none)) h = tt
act_sound (SignSpec e) (more w (more consts (more second none))) h = tt
act_sound MemberP (more spec (more stars (more core (more others (more semi none))))) h = tt
act_sound (NameCore o) (more n (more lengths none)) h = tt
act_sound (FunctionCore o) (more l (more star (more n (more lengths (more r (more l' (more params none))))))) h = tt
act_sound NoParams ms h = tt
act_sound Params (more spec (more stars (more tail (more others (more r none))))) h = tt
act_sound ParamName (more n (more lengths none)) h = tt
act_sound Declaration (more spec (more stars (more core (more v (more others (more semi none)))))) h = tt
act_sound FirstValue (more l (more v none)) h = tt
act_sound NextValue (more vs (more v none)) h = tt
act_sound Braces (more vs (more r none)) h = tt
act_sound Empty ms h = tt
act_sound ExprStatement (more a (more semi none)) h = tt
act_sound Return (more w (more a (more semi none))) h = tt
act_sound CaseLabel (more w (more a (more colon none))) h = tt
act_sound DefaultLabel (more w (more colon none)) h = tt
act_sound p ms h = tt

-- ---- spellings

mutual
  meaning_sound : (x : Spelling) → IsSound (meaning x)
  meaning_sound (Leaf t) = tt
  meaning_sound (Node p kids) = act_sound p (meanings kids) (meanings_sound kids)
  meaning_sound (Row xs) = meanings_sound xs

  meanings_sound : (xs : Spellings) → AreSound (meanings xs)
  meanings_sound Nil = tt
  meanings_sound (Cons x xs) = (meaning_sound x, meanings_sound xs)

pub expressions_update : ExpressionsUpdate
expressions_update x e k = subst (λ m. IsSound m) k (meaning_sound x)
