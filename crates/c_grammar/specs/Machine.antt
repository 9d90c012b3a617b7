-- Reading token by token: the productions that are open stand on a stack, the innermost first.
use Rattle.std.specs.Prelude.{ℕ, nat_le, nat_eq, List, [], ◌∷◌, Option, Some, None, Bool, true, false}
use Rattle.c_syntax.specs.declared.token.Token.{Token}
use Rattle.c_grammar.specs.Class as class
use Rattle.c_grammar.specs.Class.{Class, class_of, level, is_prefix, is_atom, is_assignment, is_type_word, same_class}
use Rattle.c_grammar.specs.Grammar.{Terminal, Exactly, Operator, PrefixOperator, Atomic, Assigning, TypeWord, Piece, NextArgument, FunctionPart, Pointer, Qualifier, SecondWord, Members, NextMember, AnyLength, FullLength, NextParam, ParamLengths, NamePart, Initial, NextInit, Part, Only, Expr, Inside, CallEnd, ParamsEnd, CastHead, IfHead, Spec, Core, BareName, ParamTail, MemberDecl, Value, Values, ValuesComma, ValuesEnd, Statement, BlockItem, SwitchPart, ForFirst, FunctionEnd, External, Declared, ExternalRest, DeclaredRest, Symbol, Tok, One, Many, Maybe, Production, Atom, Parens, ExprInside, TypeInside, Prefix, SizeOf, Suffix, Member, Index, Call, NoArguments, Arguments, Assign, Cond, CommaExpr, Cast, Binary, PieceP, ConstSpec, WordSpec, SignSpec, StructSpec, MemberP, NameCore, FunctionCore, NoParams, Params, ParamName, ParamFunction, Declaration, FirstValue, ValueComma, NextValue, Braces, Block, Empty, ExprStatement, If, IfElse, While, Do, For, Switch, Return, Jump, CaseLabel, DefaultLabel, Whole, StaticExternal, DeclaredP, Pointed, Function, Objects, rhs}
use Rattle.c_grammar.specs.Spelling.{Spelling, Leaf, Node, Row, Spellings, Nil, Cons, Category, Level, BracketedType, SpecC, CoreC, ValuesC, ValuesCommaC, IfC, category, accepts, and}

-- a production that is open: its parts so far, those of the `{ part }` that it stands at, and the places that are left
pub data Frame : Type 0 where
  At : (p : Production) → (done row : Spellings) → (left : List Symbol) → Frame

abbrev pub append : Spellings → Spellings → Spellings
append Nil ys = ys
append (Cons x xs) ys = Cons x (append xs ys)

abbrev pub snoc : Spellings → Spelling → Spellings
snoc xs x = append xs (Cons x Nil)

abbrev pub is_level : ℕ → Option ℕ → Bool
is_level n None = false
is_level n (Some m) = nat_eq m n

abbrev pub takes : Terminal → Class → Bool
takes (Exactly d) c = same_class c d
takes (Operator n) c = is_level n (level c)
takes PrefixOperator c = is_prefix c
takes Atomic c = is_atom c
takes Assigning c = is_assignment c
takes TypeWord c = is_type_word c

abbrev pub or_else : Option Production → Option Production → Option Production
or_else (Some p) q = Some p
or_else None q = q

-- the production that begins with a token where an expression is wanted
abbrev pub expr_opening : Class → Option Production
expr_opening class.Name = Some Atom
expr_opening class.Number = Some Atom
expr_opening class.Str = Some Atom
expr_opening class.Null = Some Atom
expr_opening class.LParen = Some Parens
expr_opening class.Amp = Some Prefix
expr_opening class.Sum = Some Prefix
expr_opening class.Star = Some Prefix
expr_opening class.Tilde = Some Prefix
expr_opening class.Step = Some Prefix
expr_opening class.Sizeof = Some SizeOf
expr_opening _ = None

abbrev pub spec_opening : Bool → Class → Option Production
spec_opening e class.Const = Some (ConstSpec e)
spec_opening e class.Void = Some (WordSpec e)
spec_opening e class.Basic = Some (WordSpec e)
spec_opening e class.Sign = Some (SignSpec e)
spec_opening e class.Struct = Some (StructSpec e)
spec_opening e _ = None

abbrev pub statement_opening : Class → Option Production
statement_opening class.LBrace = Some Block
statement_opening class.Semi = Some Empty
statement_opening class.If = Some If
statement_opening class.While = Some While
statement_opening class.Do = Some Do
statement_opening class.For = Some For
statement_opening class.Switch = Some Switch
statement_opening class.Return = Some Return
statement_opening class.Jump = Some Jump
statement_opening c = expr_opening c

abbrev pub label_opening : Class → Option Production
label_opening class.Case = Some CaseLabel
label_opening class.Default = Some DefaultLabel
label_opening _ = None

abbrev pub core_opening : Bool → Class → Option Production
core_opening o class.Name = Some (NameCore o)
core_opening o class.LParen = Some (FunctionCore o)
core_opening o _ = None

abbrev pub rest_opening : Class → Option Production
rest_opening class.Star = Some Pointed
rest_opening c = core_opening true c

abbrev pub tail_opening : Class → Option Production
tail_opening class.Name = Some ParamName
tail_opening class.LBracket = Some (PieceP ParamLengths)
tail_opening class.LParen = Some ParamFunction
tail_opening _ = None

abbrev pub chosen : Bool → Production → Option Production
chosen true p = Some p
chosen false p = None

abbrev pub on_class : Class → Production → Class → Option Production
on_class d p c = chosen (same_class c d) p

-- the token with which a piece begins
abbrev pub piece_class : Piece → Class
piece_class NextArgument = class.Comma
piece_class FunctionPart = class.LParen
piece_class Pointer = class.Star
piece_class Qualifier = class.Const
piece_class SecondWord = class.Basic
piece_class Members = class.LBrace
piece_class NextMember = class.Comma
piece_class AnyLength = class.LBracket
piece_class FullLength = class.LBracket
piece_class NextParam = class.Comma
piece_class ParamLengths = class.LBracket
piece_class NamePart = class.Name
piece_class Initial = class.Equals
piece_class NextInit = class.Comma

-- the production that begins with a token where a part is wanted
unfoldable pub opening : Part → Class → Option Production
opening (Expr n) c = expr_opening c
opening (Only k) c = on_class (piece_class k) (PieceP k) c
opening IfHead c = None
opening Inside c = or_else (spec_opening false c) (expr_opening c)
opening CallEnd c = or_else (on_class class.RParen NoArguments c) (expr_opening c)
opening ParamsEnd c = or_else (on_class class.RParen NoParams c) (spec_opening false c)
opening CastHead c = None
opening (Spec e) c = spec_opening e c
opening (Core o) c = core_opening o c
opening BareName c = None
opening ParamTail c = tail_opening c
opening MemberDecl c = spec_opening false c
opening Value c = or_else (on_class class.LBrace FirstValue c) (expr_opening c)
opening Values c = None
opening ValuesComma c = None
opening ValuesEnd c = None
opening Statement c = statement_opening c
opening BlockItem c = or_else (spec_opening false c) (statement_opening c)
opening SwitchPart c = or_else (label_opening c) (or_else (spec_opening false c) (statement_opening c))
opening ForFirst c = or_else (on_class class.Semi Empty c) (or_else (spec_opening false c) (expr_opening c))
opening FunctionEnd c = or_else (on_class class.Semi Empty c) (on_class class.LBrace Block c)
opening External c = or_else (on_class class.Static StaticExternal c) (spec_opening true c)
opening Declared c = spec_opening true c
opening ExternalRest c = or_else (on_class class.Semi Empty c) (rest_opening c)
opening DeclaredRest c = rest_opening c

-- an operator that may follow an operand: its level, the level that the operand must have, and its production
pub record Extension : Type 0 where
  pub level : ℕ
  pub operand : ℕ
  pub production : Production

abbrev pub binary_extension : Option ℕ → Option Extension
binary_extension None = None
binary_extension (Some n) = Some (record { level = n; operand = n; production = Binary n })

abbrev pub extension : Class → Option Extension
extension class.Step = Some (record { level = 15; operand = 15; production = Suffix })
extension class.Dot = Some (record { level = 15; operand = 15; production = Member })
extension class.LBracket = Some (record { level = 15; operand = 15; production = Index })
extension class.LParen = Some (record { level = 15; operand = 15; production = Call })
extension class.Question = Some (record { level = 2; operand = 3; production = Cond })
extension class.Equals = Some (record { level = 1; operand = 2; production = Assign })
extension class.Compound = Some (record { level = 1; operand = 2; production = Assign })
extension class.Comma = Some (record { level = 0; operand = 0; production = CommaExpr })
extension c = binary_extension (level c)

abbrev pub if_so : Bool → Option Production → Option Production
if_so true p = p
if_so false p = None

abbrev pub extended : ℕ → ℕ → Option Extension → Option Production
extended n k None = None
extended n k (Some e) = if_so (and (nat_le n e.level) (nat_le e.operand k)) (Some e.production)

-- the least level of an expression that a part begins with
abbrev pub floor : Part → Option ℕ
floor (Expr n) = Some n
floor Inside = Some 0
floor CallEnd = Some 1
floor Value = Some 1
floor Statement = Some 0
floor BlockItem = Some 0
floor SwitchPart = Some 0
floor ForFirst = Some 0
floor _ = None

-- the production of a part that an expression begins
abbrev pub expr_ending : Part → Option Production
expr_ending Inside = Some ExprInside
expr_ending CallEnd = Some Arguments
expr_ending Statement = Some ExprStatement
expr_ending BlockItem = Some ExprStatement
expr_ending SwitchPart = Some ExprStatement
expr_ending ForFirst = Some ExprStatement
expr_ending _ = None

abbrev pub expr_announced : Option ℕ → ℕ → Part → Class → Option Production
expr_announced None k n c = None
expr_announced (Some m) k n c = or_else (extended m k (extension c)) (expr_ending n)

abbrev pub cast_announced : Option ℕ → Option Production
cast_announced None = None
cast_announced (Some m) = if_so (nat_le m 13) (Some Cast)

abbrev pub spec_announced : Bool → Part → Option Production
spec_announced false Inside = Some TypeInside
spec_announced false ParamsEnd = Some Params
spec_announced false MemberDecl = Some MemberP
spec_announced false BlockItem = Some Declaration
spec_announced false SwitchPart = Some Declaration
spec_announced false ForFirst = Some Declaration
spec_announced true External = Some DeclaredP
spec_announced true Declared = Some DeclaredP
spec_announced e _ = None

abbrev pub core_ending : Bool → Class → Option Production
core_ending true class.LParen = Some Function
core_ending bare c = Some Objects

abbrev pub core_announced : Bool → Part → Class → Option Production
core_announced bare ExternalRest c = core_ending bare c
core_announced bare DeclaredRest c = core_ending bare c
core_announced bare n c = None

abbrev pub values_announced : Production → Part → Class → Option Production
values_announced q Value class.RBrace = Some Braces
values_announced q Value c = Some q
values_announced q n c = None

abbrev pub else_announced : Part → Class → Option Production
else_announced Statement class.Else = Some IfElse
else_announced BlockItem class.Else = Some IfElse
else_announced SwitchPart class.Else = Some IfElse
else_announced n c = None

-- the production that begins with what was read, where a part is wanted and a token follows; none: it is the part
unfoldable pub announced : Category → Part → Class → Option Production
announced (Level k) n c = expr_announced (floor n) k n c
announced BracketedType n c = cast_announced (floor n)
announced (SpecC e) n c = spec_announced e n
announced (CoreC o bare) n c = core_announced bare n c
announced ValuesC n c = values_announced ValueComma n c
announced ValuesCommaC n c = values_announced NextValue n c
announced (IfC o) n c = else_announced n c
announced _ n c = None

-- the token was read; the production has ended before it, with these parts; or neither
pub data Progress : Type 0 where
  Moved : (s : List Frame) → Progress
  Finished : (kids : Spellings) → Progress
  Stuck : Progress

abbrev pub moved : Option (List Frame) → Progress
moved None = Stuck
moved (Some s) = Moved s

abbrev pub at_token : Bool → Production → Spellings → Token → List Symbol → List Frame → Option (List Frame)
at_token true p done t left s = Some (At p (snoc done (Leaf t)) Nil left ∷ s)
at_token false p done t left s = None

abbrev pub first_token : List Symbol → Production → Token → List Frame → Option (List Frame)
first_token (Tok k ∷ left) p t s = at_token (takes k (class_of t)) p Nil t left s
first_token _ p t s = None

unfoldable pub enter : Production → Token → List Frame → Option (List Frame)
enter p t s = first_token (rhs p) p t s

abbrev pub choose : Option Production → Token → List Frame → Progress → Progress
choose None t s r = r
choose (Some p) t s r = moved (enter p t s)

-- at the places that are left a token is read
abbrev pub begin : Token → Production → Spellings → List Symbol → List Frame → Progress
begin t p done [] s = Finished done
begin t p done (Tok k ∷ left) s = moved (at_token (takes k (class_of t)) p done t left s)
begin t p done (One n ∷ left) s = choose (opening n (class_of t)) t (At p done Nil (One n ∷ left) ∷ s) Stuck
begin t p done (Many n ∷ left) s = choose (opening n (class_of t)) t (At p done Nil (Many n ∷ left) ∷ s) (begin t p (snoc done (Row Nil)) left s)
begin t p done (Maybe n ∷ left) s = choose (opening n (class_of t)) t (At p done Nil (Maybe n ∷ left) ∷ s) (begin t p (snoc done (Row Nil)) left s)

abbrev pub unfinished : Progress → Progress
unfinished (Moved s) = Moved s
unfinished (Finished kids) = Stuck
unfinished Stuck = Stuck

abbrev pub where_so : Bool → Progress → Progress
where_so true r = r
where_so false r = Stuck

abbrev pub wraps : List Symbol → Production → Category → Spelling → Token → List Frame → Progress
wraps (One m ∷ left) q c x t s = where_so (accepts c m) (unfinished (begin t q (Cons x Nil) left s))
wraps _ q c x t s = Stuck

-- what was read begins a production, or is the part that was wanted
abbrev pub wrapped : Option Production → Part → Category → Spelling → Token → List Frame → Progress → Progress
wrapped (Some q) n c x t s r = wraps (rhs q) q c x t s
wrapped None n c x t s r = where_so (accepts c n) r

-- a part that was read is put at the place where it was wanted
abbrev pub placed : Category → Spelling → Token → Production → Spellings → Spellings → List Symbol → List Frame → Progress
placed c x t q done row [] s = Stuck
placed c x t q done row (Tok k ∷ left) s = Stuck
placed c x t q done row (One n ∷ left) s = wrapped (announced c n (class_of t)) n c x t (At q done row (One n ∷ left) ∷ s) (begin t q (snoc done x) left s)
placed c x t q done row (Many n ∷ left) s =
    wrapped (announced c n (class_of t)) n c x t (At q done row (Many n ∷ left) ∷ s)
    (choose (opening n (class_of t)) t (At q done (snoc row x) (Many n ∷ left) ∷ s) (begin t q (snoc done (Row (snoc row x))) left s))
placed c x t q done row (Maybe n ∷ left) s = wrapped (announced c n (class_of t)) n c x t (At q done row (Maybe n ∷ left) ∷ s) (begin t q (snoc done (Row (Cons x Nil))) left s)

abbrev pub closed : Progress → (Spellings → Option (List Frame)) → Option (List Frame)
closed (Moved s) f = Some s
closed (Finished kids) f = f kids
closed Stuck f = None

-- a production has ended before a token
abbrev pub give : Production → Spellings → Token → List Frame → Option (List Frame)
give p kids t [] = None
give p kids t (At q done row left ∷ s) = closed (placed (category p kids) (Node p kids) t q done row left s) (λ all. give q all t s)

unfoldable pub step : List Frame → Token → Option (List Frame)
step [] t = None
step (At p done (Cons x xs) left ∷ s) t = None
step (At p done Nil left ∷ s) t = closed (begin t p done left s) (λ all. give p all t s)

unfoldable pub then_run : Option (List Frame) → (List Frame → Option (List Frame)) → Option (List Frame)
then_run None f = None
then_run (Some s) f = f s

abbrev pub run : List Token → List Frame → Option (List Frame)
run [] s = Some s
run (t ∷ ts) s = then_run (step s t) (run ts)

abbrev pub start : List Frame
start = At Whole Nil Nil (rhs Whole) ∷ []

-- a whole text was read
abbrev pub whole : Spellings → List Frame
whole kids = At Whole kids Nil [] ∷ []
