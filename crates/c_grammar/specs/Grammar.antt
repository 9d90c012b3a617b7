-- The grammar of C: what stands on the right of each production.
use Rattle.std.specs.Prelude.{◌≡◌, ◌<◌, ◌^◌, ◌-◌, ℕ, suc, List, [], ◌∷◌, Some, Bool, true, false}
use Rattle.c_grammar.specs.Class as class
use Rattle.c_grammar.specs.Class.{Class, level, is_prefix, is_atom, is_assignment, is_type_word}
pub use Rattle.c_grammar.specs.declared.names.Terminal.{Terminal}
pub use Rattle.c_grammar.specs.declared.names.Terminal.TheVariants.{Exactly, Operator, PrefixOperator, Atomic, Assigning, TypeWord}
pub use Rattle.c_grammar.specs.declared.names.Piece.{Piece}
pub use Rattle.c_grammar.specs.declared.names.Piece.TheVariants.{NextArgument, FunctionPart, Pointer, Qualifier, SecondWord, Members, NextMember, AnyLength, FullLength, NextParam, ParamLengths, NamePart, Initial, NextInit}
pub use Rattle.c_grammar.specs.declared.names.Part.{Part}
pub use Rattle.c_grammar.specs.declared.names.Part.TheVariants.{Expr, Only, IfHead, Inside, CallEnd, ParamsEnd, CastHead, Spec, Core, BareName, ParamTail, MemberDecl, Value, Values, ValuesComma, ValuesEnd, Statement, BlockItem, SwitchPart, ForFirst, FunctionEnd, External, Declared, ExternalRest, DeclaredRest}
pub use Rattle.c_grammar.specs.declared.names.Symbol.{Symbol}
pub use Rattle.c_grammar.specs.declared.names.Symbol.TheVariants.{Tok, One, Many, Maybe}
pub use Rattle.c_grammar.specs.declared.names.Production.{Production}
pub use Rattle.c_grammar.specs.declared.names.Production.TheVariants.{Atom, Parens, ExprInside, TypeInside, Prefix, SizeOf, Suffix, Member, Index, Call, NoArguments, Arguments, Assign, Cond, CommaExpr, Cast, Binary, PieceP, ConstSpec, WordSpec, SignSpec, StructSpec, MemberP, NameCore, FunctionCore, NoParams, Params, ParamName, ParamFunction, Declaration, FirstValue, ValueComma, NextValue, Braces, Block, Empty, ExprStatement, If, IfElse, While, Do, For, Switch, Return, Jump, CaseLabel, DefaultLabel, Whole, StaticExternal, DeclaredP, Pointed, Function, Objects}

abbrev pub Takes : Terminal → Class → Type 0
Takes (Exactly d) c = c ≡ d
Takes (Operator n) c = level c ≡ Some n
Takes PrefixOperator c = is_prefix c ≡ true
Takes Atomic c = is_atom c ≡ true
Takes Assigning c = is_assignment c ≡ true
Takes TypeWord c = is_type_word c ≡ true

abbrev pub token : Class → Symbol
token c = Tok (Exactly c)

abbrev pub expr : ℕ → Symbol
expr n = One (Expr n)

-- lengths in square brackets
abbrev pub length : Bool → Part
length true = Only AnyLength
length false = Only FullLength

abbrev pub piece_rhs : Piece → List Symbol
piece_rhs NextArgument = token class.Comma ∷ expr 1 ∷ []
piece_rhs FunctionPart = token class.LParen ∷ One (Only Pointer) ∷ token class.RParen ∷ token class.LParen ∷ One ParamsEnd ∷ []
piece_rhs Pointer = token class.Star ∷ Maybe (Only Qualifier) ∷ []
piece_rhs Qualifier = token class.Const ∷ []
piece_rhs SecondWord = token class.Basic ∷ Many (Only Qualifier) ∷ []
piece_rhs Members = token class.LBrace ∷ Many MemberDecl ∷ token class.RBrace ∷ []
piece_rhs NextMember = token class.Comma ∷ Many (Only Pointer) ∷ One (Core false) ∷ []
piece_rhs AnyLength = token class.LBracket ∷ Maybe (Expr 1) ∷ token class.RBracket ∷ []
piece_rhs FullLength = token class.LBracket ∷ expr 1 ∷ token class.RBracket ∷ []
piece_rhs NextParam = token class.Comma ∷ One (Spec false) ∷ Many (Only Pointer) ∷ Maybe ParamTail ∷ []
piece_rhs ParamLengths = token class.LBracket ∷ Maybe (Expr 1) ∷ token class.RBracket ∷ Many (Only FullLength) ∷ []
piece_rhs NamePart = token class.Name ∷ []
piece_rhs Initial = token class.Equals ∷ One Value ∷ []
piece_rhs NextInit = token class.Comma ∷ Many (Only Pointer) ∷ One (Core true) ∷ Maybe (Only Initial) ∷ []

-- a pointer to a function that is declared
abbrev pub function_core : Part → List Symbol
function_core lengths = token class.LParen ∷ One (Only Pointer) ∷ token class.Name ∷ Many lengths ∷ token class.RParen ∷ token class.LParen ∷ One ParamsEnd ∷ []

unfoldable pub rhs : Production → List Symbol
rhs Atom = Tok Atomic ∷ []
rhs Parens = token class.LParen ∷ One Inside ∷ []
rhs ExprInside = expr 0 ∷ token class.RParen ∷ []
rhs TypeInside = One (Spec false) ∷ Many (Only Pointer) ∷ Maybe (Only FunctionPart) ∷ token class.RParen ∷ []
rhs Prefix = Tok PrefixOperator ∷ expr 13 ∷ []
rhs SizeOf = token class.Sizeof ∷ expr 14 ∷ []
rhs Suffix = expr 15 ∷ token class.Step ∷ []
rhs Member = expr 15 ∷ token class.Dot ∷ token class.Name ∷ []
rhs Index = expr 15 ∷ token class.LBracket ∷ expr 0 ∷ token class.RBracket ∷ []
rhs Call = expr 15 ∷ token class.LParen ∷ One CallEnd ∷ []
rhs NoArguments = token class.RParen ∷ []
rhs Arguments = expr 1 ∷ Many (Only NextArgument) ∷ token class.RParen ∷ []
rhs (Binary n) = expr n ∷ Tok (Operator n) ∷ expr (suc n) ∷ []
rhs Assign = expr 2 ∷ Tok Assigning ∷ expr 1 ∷ []
rhs Cond = expr 3 ∷ token class.Question ∷ expr 0 ∷ token class.Colon ∷ expr 2 ∷ []
rhs CommaExpr = expr 0 ∷ token class.Comma ∷ expr 1 ∷ []
rhs Cast = One CastHead ∷ expr 13 ∷ []
rhs (PieceP k) = piece_rhs k
rhs (ConstSpec external) = token class.Const ∷ One (Spec external) ∷ []
rhs (WordSpec external) = Tok TypeWord ∷ Many (Only Qualifier) ∷ []
rhs (SignSpec external) = token class.Sign ∷ Many (Only Qualifier) ∷ Maybe (Only SecondWord) ∷ []
rhs (StructSpec false) = token class.Struct ∷ token class.Name ∷ Many (Only Qualifier) ∷ []
rhs (StructSpec true) = token class.Struct ∷ token class.Name ∷ Maybe (Only Members) ∷ Many (Only Qualifier) ∷ []
rhs MemberP = One (Spec false) ∷ Many (Only Pointer) ∷ One (Core false) ∷ Many (Only NextMember) ∷ token class.Semi ∷ []
rhs (NameCore o) = token class.Name ∷ Many (length o) ∷ []
rhs (FunctionCore o) = function_core (length o)
rhs NoParams = token class.RParen ∷ []
rhs Params = One (Spec false) ∷ Many (Only Pointer) ∷ Maybe ParamTail ∷ Many (Only NextParam) ∷ token class.RParen ∷ []
rhs ParamName = token class.Name ∷ Maybe (Only ParamLengths) ∷ []
rhs ParamFunction = token class.LParen ∷ One (Only Pointer) ∷ Maybe (Only NamePart) ∷ Maybe (Only AnyLength) ∷ token class.RParen ∷ token class.LParen ∷ One ParamsEnd ∷ []
rhs Declaration = One (Spec false) ∷ Many (Only Pointer) ∷ One (Core true) ∷ Maybe (Only Initial) ∷ Many (Only NextInit) ∷ token class.Semi ∷ []
rhs FirstValue = token class.LBrace ∷ One Value ∷ []
rhs ValueComma = One Values ∷ token class.Comma ∷ []
rhs NextValue = One ValuesComma ∷ One Value ∷ []
rhs Braces = One ValuesEnd ∷ token class.RBrace ∷ []
rhs Block = token class.LBrace ∷ Many BlockItem ∷ token class.RBrace ∷ []
rhs Empty = token class.Semi ∷ []
rhs ExprStatement = expr 0 ∷ token class.Semi ∷ []
rhs If = token class.If ∷ token class.LParen ∷ expr 0 ∷ token class.RParen ∷ One Statement ∷ []
rhs IfElse = One IfHead ∷ token class.Else ∷ One Statement ∷ []
rhs While = token class.While ∷ token class.LParen ∷ expr 0 ∷ token class.RParen ∷ One Statement ∷ []
rhs Do = token class.Do ∷ One Statement ∷ token class.While ∷ token class.LParen ∷ expr 0 ∷ token class.RParen ∷ token class.Semi ∷ []
rhs For = token class.For ∷ token class.LParen ∷ One ForFirst ∷ Maybe (Expr 0) ∷ token class.Semi ∷ Maybe (Expr 0) ∷ token class.RParen ∷ One Statement ∷ []
rhs Switch = token class.Switch ∷ token class.LParen ∷ expr 0 ∷ token class.RParen ∷ token class.LBrace ∷ Many SwitchPart ∷ token class.RBrace ∷ []
rhs Return = token class.Return ∷ Maybe (Expr 0) ∷ token class.Semi ∷ []
rhs Jump = token class.Jump ∷ token class.Semi ∷ []
rhs CaseLabel = token class.Case ∷ expr 2 ∷ token class.Colon ∷ []
rhs DefaultLabel = token class.Default ∷ token class.Colon ∷ []
rhs Whole = Many External ∷ token class.End ∷ []
rhs StaticExternal = token class.Static ∷ One Declared ∷ []
rhs DeclaredP = One (Spec true) ∷ One ExternalRest ∷ []
rhs Pointed = token class.Star ∷ Maybe (Only Qualifier) ∷ One DeclaredRest ∷ []
rhs Function = One BareName ∷ token class.LParen ∷ One ParamsEnd ∷ One FunctionEnd ∷ []
rhs Objects = One (Core true) ∷ Maybe (Only Initial) ∷ Many (Only NextInit) ∷ token class.Semi ∷ []

-- the level behind that of a binary operator fits its type in the code
abbrev pub HasRoom : Production → Type 0
HasRoom (Binary n) = n < 2 ^ 32 - 1
HasRoom _ = Unit {0}
