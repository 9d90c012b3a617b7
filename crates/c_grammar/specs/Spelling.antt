-- Parse trees, and which of them are C.
use Rattle.std.specs.Prelude.{◌≡◌, ℕ, nat_le, nat_eq, List, [], ◌∷◌, ◌++◌, Bool, true, false, IsTrue}
use Rattle.c_syntax.specs.declared.token.Token.{Token}
use Rattle.c_grammar.specs.Class.{class_of}
use Rattle.c_grammar.specs.Grammar.{Takes, Piece, NextArgument, FunctionPart, Pointer, Qualifier, SecondWord, Members, NextMember, AnyLength, FullLength, NextParam, ParamLengths, NamePart, Initial, NextInit, Part, Only, Expr, Inside, CallEnd, ParamsEnd, CastHead, IfHead, Spec, Core, BareName, ParamTail, MemberDecl, Value, Values, ValuesComma, ValuesEnd, Statement, BlockItem, SwitchPart, ForFirst, FunctionEnd, External, Declared, ExternalRest, DeclaredRest, Symbol, Tok, One, Many, Maybe, Production, Atom, Parens, ExprInside, TypeInside, Prefix, SizeOf, Suffix, Member, Index, Call, NoArguments, Arguments, Assign, Cond, CommaExpr, Cast, Binary, PieceP, ConstSpec, WordSpec, SignSpec, StructSpec, MemberP, NameCore, FunctionCore, NoParams, Params, ParamName, ParamFunction, Declaration, FirstValue, ValueComma, NextValue, Braces, Block, Empty, ExprStatement, If, IfElse, While, Do, For, Switch, Return, Jump, CaseLabel, DefaultLabel, Whole, StaticExternal, DeclaredP, Pointed, Function, Objects, rhs}
pub use Rattle.c_grammar.specs.declared.names.Category.{Category}
pub use Rattle.c_grammar.specs.declared.names.Category.TheVariants.{Level, BracketedType, InsideC, CallEndC, ParamsEndC, SpecC, CoreC, PieceC, ParamTailC, MemberC, BracesC, ValuesC, ValuesCommaC, IfC, StatementC, EmptyC, ExprStatementC, BlockC, DeclarationC, LabelC, UnitC, StaticC, DeclaredC, RestC}

-- a token, a production with what spells its places, or the parts of a `{ part }` or `[ part ]`
mutual
  pub data Spelling : Type 0 where
    Leaf : (t : Token) → Spelling
    Node : (p : Production) → (kids : Spellings) → Spelling
    Row : (items : Spellings) → Spelling

  pub data Spellings : Type 0 where
    Nil : Spellings
    Cons : (x : Spelling) → (xs : Spellings) → Spellings

abbrev mutual
  pub tokens : Spelling → List Token
  tokens (Leaf t) = t ∷ []
  tokens (Node p kids) = all_tokens kids
  tokens (Row items) = all_tokens items

  pub all_tokens : Spellings → List Token
  all_tokens Nil = []
  all_tokens (Cons x xs) = tokens x ++ all_tokens xs

-- a production that ends in a statement
abbrev pub has_body : Production → Bool
has_body IfElse = true
has_body While = true
has_body For = true
has_body _ = false

abbrev pub is_if : Production → Bool
is_if If = true
is_if _ = false

abbrev pub or : Bool → Bool → Bool
or true b = true
or false b = b

abbrev pub and : Bool → Bool → Bool
and true b = b
and false b = false

-- it ends in an `if` without `else`, which would take an `else` that follows
abbrev mutual
  pub ends_open : Spelling → Bool
  ends_open (Leaf t) = false
  ends_open (Node p kids) = or (is_if p) (and (has_body p) (last_open kids))
  ends_open (Row items) = false

  pub last_open : Spellings → Bool
  last_open Nil = false
  last_open (Cons x Nil) = ends_open x
  last_open (Cons x (Cons y ys)) = last_open (Cons y ys)

-- brackets around a type are no expression
abbrev pub inside_category : Spelling → Category
inside_category (Node TypeInside kids) = BracketedType
inside_category _ = Level 15

abbrev pub brackets_category : Spellings → Category
brackets_category (Cons o (Cons x xs)) = inside_category x
brackets_category _ = Level 15

abbrev pub is_empty : Spelling → Bool
is_empty (Row Nil) = true
is_empty _ = false

abbrev pub has_no_length : Spellings → Bool
has_no_length (Cons o (Cons x xs)) = is_empty x
has_no_length _ = false

abbrev pub category : Production → Spellings → Category
category Atom kids = Level 15
category Parens kids = brackets_category kids
category ExprInside kids = InsideC
category TypeInside kids = InsideC
category Prefix kids = Level 14
category SizeOf kids = Level 14
category Suffix kids = Level 15
category Member kids = Level 15
category Index kids = Level 15
category Call kids = Level 15
category NoArguments kids = CallEndC
category Arguments kids = CallEndC
category (Binary n) kids = Level n
category Assign kids = Level 1
category Cond kids = Level 2
category CommaExpr kids = Level 0
category Cast kids = Level 13
category (PieceP k) kids = PieceC k
category (ConstSpec e) kids = SpecC e
category (WordSpec e) kids = SpecC e
category (SignSpec e) kids = SpecC e
category (StructSpec e) kids = SpecC e
category MemberP kids = MemberC
category (NameCore o) kids = CoreC o (has_no_length kids)
category (FunctionCore o) kids = CoreC o false
category NoParams kids = ParamsEndC
category Params kids = ParamsEndC
category ParamName kids = ParamTailC
category ParamFunction kids = ParamTailC
category Declaration kids = DeclarationC
category FirstValue kids = ValuesC
category ValueComma kids = ValuesCommaC
category NextValue kids = ValuesC
category Braces kids = BracesC
category Block kids = BlockC
category Empty kids = EmptyC
category ExprStatement kids = ExprStatementC
category If kids = IfC (last_open kids)
category IfElse kids = StatementC
category While kids = StatementC
category Do kids = StatementC
category For kids = StatementC
category Switch kids = StatementC
category Return kids = StatementC
category Jump kids = StatementC
category CaseLabel kids = LabelC
category DefaultLabel kids = LabelC
category Whole kids = UnitC
category StaticExternal kids = StaticC
category DeclaredP kids = DeclaredC
category Pointed kids = RestC
category Function kids = RestC
category Objects kids = RestC

abbrev pub piece_code : Piece → ℕ
piece_code NextArgument = 0
piece_code FunctionPart = 1
piece_code Pointer = 2
piece_code Qualifier = 3
piece_code SecondWord = 4
piece_code Members = 5
piece_code NextMember = 6
piece_code AnyLength = 7
piece_code FullLength = 8
piece_code NextParam = 9
piece_code ParamLengths = 10
piece_code NamePart = 11
piece_code Initial = 12
piece_code NextInit = 13

abbrev pub same : Bool → Bool → Bool
same true b = b
same false true = false
same false false = true

abbrev pub takes_level : ℕ → Part → Bool
takes_level k (Expr n) = nat_le n k
takes_level k Value = nat_le 1 k
takes_level k _ = false

-- the operand of `sizeof` may be a type in brackets
abbrev pub takes_type : Part → Bool
takes_type (Expr n) = nat_eq n 14
takes_type CastHead = true
takes_type _ = false

abbrev pub takes_spec : Bool → Part → Bool
takes_spec e (Spec e') = same e e'
takes_spec e _ = false

abbrev pub takes_core : Bool → Bool → Part → Bool
takes_core o bare (Core o') = same o o'
takes_core o bare BareName = and o bare
takes_core o bare _ = false

abbrev pub takes_piece : Piece → Part → Bool
takes_piece k (Only j) = nat_eq (piece_code j) (piece_code k)
takes_piece ParamLengths ParamTail = true
takes_piece k _ = false

abbrev pub is_statement : Part → Bool
is_statement Statement = true
is_statement BlockItem = true
is_statement SwitchPart = true
is_statement _ = false

abbrev pub takes_if : Bool → Part → Bool
takes_if o IfHead = same o false
takes_if o n = is_statement n

abbrev pub takes_empty : Part → Bool
takes_empty ForFirst = true
takes_empty FunctionEnd = true
takes_empty ExternalRest = true
takes_empty n = is_statement n

abbrev pub takes_expr_statement : Part → Bool
takes_expr_statement ForFirst = true
takes_expr_statement n = is_statement n

abbrev pub takes_block : Part → Bool
takes_block FunctionEnd = true
takes_block n = is_statement n

abbrev pub takes_declaration : Part → Bool
takes_declaration BlockItem = true
takes_declaration SwitchPart = true
takes_declaration ForFirst = true
takes_declaration _ = false

abbrev pub takes_declared : Part → Bool
takes_declared External = true
takes_declared Declared = true
takes_declared _ = false

abbrev pub takes_rest : Part → Bool
takes_rest ExternalRest = true
takes_rest DeclaredRest = true
takes_rest _ = false

abbrev pub takes_values : Part → Bool
takes_values Values = true
takes_values ValuesEnd = true
takes_values _ = false

abbrev pub takes_values_comma : Part → Bool
takes_values_comma ValuesComma = true
takes_values_comma ValuesEnd = true
takes_values_comma _ = false

abbrev pub is_inside : Part → Bool
is_inside Inside = true
is_inside _ = false

abbrev pub is_call_end : Part → Bool
is_call_end CallEnd = true
is_call_end _ = false

abbrev pub is_params_end : Part → Bool
is_params_end ParamsEnd = true
is_params_end _ = false

abbrev pub is_param_tail : Part → Bool
is_param_tail ParamTail = true
is_param_tail _ = false

abbrev pub is_member : Part → Bool
is_member MemberDecl = true
is_member _ = false

abbrev pub is_value : Part → Bool
is_value Value = true
is_value _ = false

abbrev pub is_switch_part : Part → Bool
is_switch_part SwitchPart = true
is_switch_part _ = false

abbrev pub is_external : Part → Bool
is_external External = true
is_external _ = false

-- a part may be spelled by a production of this category
abbrev pub accepts : Category → Part → Bool
accepts (Level k) n = takes_level k n
accepts BracketedType n = takes_type n
accepts InsideC n = is_inside n
accepts CallEndC n = is_call_end n
accepts ParamsEndC n = is_params_end n
accepts (SpecC e) n = takes_spec e n
accepts (CoreC o bare) n = takes_core o bare n
accepts (PieceC k) n = takes_piece k n
accepts ParamTailC n = is_param_tail n
accepts MemberC n = is_member n
accepts BracesC n = is_value n
accepts ValuesC n = takes_values n
accepts ValuesCommaC n = takes_values_comma n
accepts (IfC o) n = takes_if o n
accepts StatementC n = is_statement n
accepts EmptyC n = takes_empty n
accepts ExprStatementC n = takes_expr_statement n
accepts BlockC n = takes_block n
accepts DeclarationC n = takes_declaration n
accepts LabelC n = is_switch_part n
accepts UnitC n = false
accepts StaticC n = is_external n
accepts DeclaredC n = takes_declared n
accepts RestC n = takes_rest n

-- a spelling may stand at a place of a production
abbrev mutual
  pub Fits : Spelling → Symbol → Type 0
  Fits (Leaf t) (Tok k) = Takes k (class_of t)
  Fits (Node p kids) (One n) = IsTrue (accepts (category p kids) n) × AllFit kids (rhs p)
  Fits (Row items) (Many n) = ItemsFit items n
  Fits (Row Nil) (Maybe n) = Unit {0}
  Fits (Row (Cons x Nil)) (Maybe n) = Fits x (One n)
  Fits _ _ = ⊥

  pub AllFit : Spellings → List Symbol → Type 0
  AllFit Nil [] = Unit {0}
  AllFit (Cons x xs) (s ∷ ss) = Fits x s × AllFit xs ss
  AllFit _ _ = ⊥

  pub ItemsFit : Spellings → Part → Type 0
  ItemsFit Nil n = Unit {0}
  ItemsFit (Cons x xs) n = Fits x (One n) × ItemsFit xs n

-- the places of a whole text
abbrev pub IsUnit : Spellings → Type 0
IsUnit kids = AllFit kids (rhs Whole)

-- a spelling of a whole text, with its tokens
pub record Spelt (ts : List Token) : Type 0 where
  pub kids : Spellings
  pub fits : IsUnit kids
  pub tokens_are : ts ≡ all_tokens kids

-- some text starts with these tokens
pub record Starts (ts : List Token) : Type 0 where
  pub rest : List Token
  pub spelt : Spelt (ts ++ rest)
