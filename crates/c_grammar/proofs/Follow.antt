-- Which classes of tokens may follow a part, and that each place of a production tells what follows it from itself.
use Rattle.std.proofs.Common.{◌≡◌, ℕ, zero, suc, List, [], ◌∷◌, Option, Some, None, Bool, true, false, refl, sym, ap, ◌∙◌, subst, arith}
use Rattle.std.specs.Prelude.{nat_le, nat_eq}
use Rattle.c_grammar.specs.Class as class
use Rattle.c_grammar.specs.Class.{Class, class_of, class_code, level, same_class}
use Rattle.c_grammar.specs.Grammar.{piece_rhs, Piece, NextArgument, FunctionPart, Pointer, Qualifier, SecondWord, Members, NextMember, AnyLength, FullLength, NextParam, ParamLengths, NamePart, Initial, NextInit, Part, Only, Expr, CastHead, IfHead, Spec, Core, BareName, ParamTail, Value, Values, ValuesComma, ValuesEnd, Statement, BlockItem, SwitchPart, Symbol, Tok, One, Many, Maybe, Production, Atom, Parens, ExprInside, TypeInside, Prefix, SizeOf, Suffix, Member, Index, Call, NoArguments, Arguments, Assign, Cond, CommaExpr, Cast, Binary, PieceP, ConstSpec, WordSpec, SignSpec, StructSpec, MemberP, NameCore, FunctionCore, NoParams, Params, ParamName, ParamFunction, Declaration, FirstValue, ValueComma, NextValue, Braces, Block, Empty, ExprStatement, If, IfElse, While, Do, For, Switch, Return, Jump, CaseLabel, DefaultLabel, Whole, StaticExternal, DeclaredP, Pointed, Function, Objects, rhs}
use Rattle.c_grammar.specs.Spelling.{Spelling, Leaf, Node, Row, Spellings, Nil, Cons, Category, Level, BracketedType, InsideC, CallEndC, ParamsEndC, SpecC, CoreC, PieceC, ParamTailC, MemberC, BracesC, ValuesC, ValuesCommaC, IfC, StatementC, EmptyC, ExprStatementC, BlockC, DeclarationC, LabelC, UnitC, StaticC, DeclaredC, RestC, category, brackets_category, inside_category, accepts, piece_code, takes_level, takes_type, takes_spec, takes_core, takes_piece, takes_if, takes_values, is_statement, is_param_tail}
use Rattle.c_grammar.specs.Spelling as spelling
use Rattle.c_grammar.specs.Machine.{takes, or_else, expr_opening, opening, Extension, extension, if_so, extended, floor, expr_announced, cast_announced, spec_announced, core_announced, values_announced, else_announced, announced}
use Rattle.c_grammar.proofs.Codes.{le_of, le_to, eq_of, classes, nth, decoded}
use Rattle.c_grammar.proofs.Examples.{and, and_left, and_right}
use Rattle.c_grammar.proofs.Useful.{rest_of}
use Rattle.std.proofs.lemmas.Bool.{false≢true}

abbrev pub or : Bool → Bool → Bool
or true b = true
or false b = b

abbrev pub neg : Bool → Bool
neg true = false
neg false = true

abbrev pub implies : Bool → Bool → Bool
implies true b = b
implies false b = true

pub implied : (a b : Bool) → implies a b ≡ true → a ≡ true → b ≡ true
implied true b h e = h
implied false b h e = absurd (false≢true e)

pub no_of : (a : Bool) → neg a ≡ true → a ≡ false
no_of true h = absurd (false≢true h)
no_of false h = refl

-- a fact of each class
abbrev pub all_in : (Class → Bool) → List Class → Bool
all_in f [] = true
all_in f (c ∷ cs) = and (f c) (all_in f cs)

all_nth : (cs : List Class) (f : Class → Bool) (i : ℕ) → f class.Unused ≡ true → all_in f cs ≡ true → f (nth cs i) ≡ true
all_nth [] f i u h = u
all_nth (c ∷ cs) f zero u h = and_left (f c) (all_in f cs) h
all_nth (c ∷ cs) f (suc i) u h = all_nth cs f i u (and_right (f c) (all_in f cs) h)

pub every : (f : Class → Bool) → all_in f (class.Unused ∷ classes) ≡ true → (c : Class) → f c ≡ true
every f h c = let P : Class → Type 0 = λ z. f z ≡ true in subst P (decoded c) (all_nth classes f (class_code c) (and_left (f class.Unused) (all_in f classes) h) (and_right (f class.Unused) (all_in f classes) h))

abbrev pub has : Option Production → Bool
has None = false
has (Some p) = true

-- no operator of a level or above
abbrev pub not_reached : ℕ → Option Extension → Bool
not_reached n None = true
not_reached n (Some e) = neg (nat_le n e.level)

abbrev pub ends_spec : Class → Bool
ends_spec class.Star = true
ends_spec class.Name = true
ends_spec class.LParen = true
ends_spec class.LBracket = true
ends_spec class.Comma = true
ends_spec class.RParen = true
ends_spec class.Semi = true
ends_spec _ = false

abbrev pub ends_pointer : Class → Bool
ends_pointer class.Star = true
ends_pointer class.Name = true
ends_pointer class.LParen = true
ends_pointer class.LBracket = true
ends_pointer class.Comma = true
ends_pointer class.RParen = true
ends_pointer _ = false

abbrev pub ends_core : Class → Bool
ends_core class.Equals = true
ends_core class.Comma = true
ends_core class.Semi = true
ends_core class.RParen = true
ends_core class.LParen = true
ends_core _ = false

abbrev pub ends_item : Class → Bool
ends_item class.Comma = true
ends_item class.RParen = true
ends_item _ = false

abbrev pub ends_init : Class → Bool
ends_init class.Comma = true
ends_init class.Semi = true
ends_init _ = false

abbrev pub ends_value : Class → Bool
ends_value class.Comma = true
ends_value class.Semi = true
ends_value class.RBrace = true
ends_value _ = false

abbrev pub not_else : Class → Bool
not_else class.Else = false
not_else _ = true

abbrev pub piece_ends : Piece → Class → Bool
piece_ends NextArgument c = ends_item c
piece_ends Pointer c = ends_pointer c
piece_ends SecondWord c = ends_spec c
piece_ends NextMember c = ends_init c
piece_ends NextParam c = ends_item c
piece_ends ParamLengths c = ends_item c
piece_ends Initial c = ends_init c
piece_ends NextInit c = ends_init c
piece_ends _ c = true

-- a class may follow a part
abbrev pub ends : Part → Class → Bool
ends (Expr n) c = not_reached n (extension c)
ends (Only k) c = piece_ends k c
ends IfHead c = not_else c
ends (Spec e) c = ends_spec c
ends (Core o) c = ends_core c
ends BareName c = ends_core c
ends ParamTail c = ends_item c
ends Value c = ends_value c
ends Values c = ends_value c
ends ValuesEnd c = ends_value c
ends Statement c = not_else c
ends BlockItem c = not_else c
ends SwitchPart c = not_else c
ends _ c = true

-- a class may follow a production
abbrev pub after : Production → Class → Bool
after Prefix c = not_reached 13 (extension c)
after SizeOf c = not_reached 14 (extension c)
after (Binary n) c = not_reached (suc n) (extension c)
after Assign c = not_reached 1 (extension c)
after Cond c = not_reached 2 (extension c)
after CommaExpr c = not_reached 1 (extension c)
after Cast c = not_reached 13 (extension c)
after (PieceP k) c = piece_ends k c
after (ConstSpec e) c = ends_spec c
after (WordSpec e) c = ends_spec c
after (SignSpec e) c = ends_spec c
after (StructSpec e) c = ends_spec c
after (NameCore o) c = ends_core c
after ParamName c = ends_item c
after FirstValue c = ends_value c
after NextValue c = ends_value c
after If c = not_else c
after IfElse c = not_else c
after While c = not_else c
after For c = not_else c
after _ c = true

-- a class may be the first of what stands at places, before what follows them
abbrev pub may : List Symbol → Bool → Class → Bool
may [] a c = a
may (Tok k ∷ ss) a c = takes k c
may (One n ∷ ss) a c = has (opening n c)
may (Many n ∷ ss) a c = or (has (opening n c)) (may ss a c)
may (Maybe n ∷ ss) a c = or (has (opening n c)) (may ss a c)

-- a class may follow what stands at a place
abbrev pub ok : Symbol → Class → Bool
ok (Tok k) c = true
ok (One n) c = ends n c
ok (Many n) c = and (ends n c) (neg (has (opening n c)))
ok (Maybe n) c = and (ends n c) (neg (has (opening n c)))

-- and what stands there again
abbrev pub again : Symbol → Class → Bool
again (Many n) c = implies (has (opening n c)) (ends n c)
again _ c = true

-- each place tells what follows it
abbrev pub clear : List Symbol → Bool → Class → Bool
clear [] a c = true
clear (s ∷ ss) a c = and (implies (may ss a c) (ok s c)) (and (again s c) (clear ss a c))

-- but for the last place
abbrev pub clear_front : List Symbol → Class → Bool
clear_front [] c = true
clear_front (s ∷ []) c = true
clear_front (s ∷ r ∷ ss) c = and (implies (may (r ∷ ss) true c) (ok s c)) (and (again s c) (clear_front (r ∷ ss) c))

binary_clear : (x a : Bool) → and (implies x true) (and true (and (implies a a) (and true true))) ≡ true
binary_clear true true = refl
binary_clear true false = refl
binary_clear false true = refl
binary_clear false false = refl

pub piece_clear : (k : Piece) (c : Class) → clear (rest_of (piece_rhs k)) (piece_ends k c) c ≡ true
unfolding opening same_class
piece_clear NextArgument c = every (λ c. clear (rest_of (piece_rhs NextArgument)) (piece_ends NextArgument c) c) refl c
piece_clear FunctionPart c = every (λ c. clear (rest_of (piece_rhs FunctionPart)) (piece_ends FunctionPart c) c) refl c
piece_clear Pointer c = every (λ c. clear (rest_of (piece_rhs Pointer)) (piece_ends Pointer c) c) refl c
piece_clear Qualifier c = every (λ c. clear (rest_of (piece_rhs Qualifier)) (piece_ends Qualifier c) c) refl c
piece_clear SecondWord c = every (λ c. clear (rest_of (piece_rhs SecondWord)) (piece_ends SecondWord c) c) refl c
piece_clear Members c = every (λ c. clear (rest_of (piece_rhs Members)) (piece_ends Members c) c) refl c
piece_clear NextMember c = every (λ c. clear (rest_of (piece_rhs NextMember)) (piece_ends NextMember c) c) refl c
piece_clear AnyLength c = every (λ c. clear (rest_of (piece_rhs AnyLength)) (piece_ends AnyLength c) c) refl c
piece_clear FullLength c = every (λ c. clear (rest_of (piece_rhs FullLength)) (piece_ends FullLength c) c) refl c
piece_clear NextParam c = every (λ c. clear (rest_of (piece_rhs NextParam)) (piece_ends NextParam c) c) refl c
piece_clear ParamLengths c = every (λ c. clear (rest_of (piece_rhs ParamLengths)) (piece_ends ParamLengths c) c) refl c
piece_clear NamePart c = every (λ c. clear (rest_of (piece_rhs NamePart)) (piece_ends NamePart c) c) refl c
piece_clear Initial c = every (λ c. clear (rest_of (piece_rhs Initial)) (piece_ends Initial c) c) refl c
piece_clear NextInit c = every (λ c. clear (rest_of (piece_rhs NextInit)) (piece_ends NextInit c) c) refl c

pub clear_rest : (p : Production) (c : Class) → clear (rest_of (rhs p)) (after p c) c ≡ true
unfolding rhs opening same_class
clear_rest Atom c = every (λ c. clear (rest_of (rhs Atom)) (after Atom c) c) refl c
clear_rest Parens c = every (λ c. clear (rest_of (rhs Parens)) (after Parens c) c) refl c
clear_rest ExprInside c = every (λ c. clear (rest_of (rhs ExprInside)) (after ExprInside c) c) refl c
clear_rest TypeInside c = every (λ c. clear (rest_of (rhs TypeInside)) (after TypeInside c) c) refl c
clear_rest Prefix c = every (λ c. clear (rest_of (rhs Prefix)) (after Prefix c) c) refl c
clear_rest SizeOf c = every (λ c. clear (rest_of (rhs SizeOf)) (after SizeOf c) c) refl c
clear_rest Suffix c = every (λ c. clear (rest_of (rhs Suffix)) (after Suffix c) c) refl c
clear_rest Member c = every (λ c. clear (rest_of (rhs Member)) (after Member c) c) refl c
clear_rest Index c = every (λ c. clear (rest_of (rhs Index)) (after Index c) c) refl c
clear_rest Call c = every (λ c. clear (rest_of (rhs Call)) (after Call c) c) refl c
clear_rest NoArguments c = every (λ c. clear (rest_of (rhs NoArguments)) (after NoArguments c) c) refl c
clear_rest Arguments c = every (λ c. clear (rest_of (rhs Arguments)) (after Arguments c) c) refl c
clear_rest Assign c = every (λ c. clear (rest_of (rhs Assign)) (after Assign c) c) refl c
clear_rest Cond c = every (λ c. clear (rest_of (rhs Cond)) (after Cond c) c) refl c
clear_rest CommaExpr c = every (λ c. clear (rest_of (rhs CommaExpr)) (after CommaExpr c) c) refl c
clear_rest Cast c = every (λ c. clear (rest_of (rhs Cast)) (after Cast c) c) refl c
clear_rest (Binary n) c = binary_clear (has (expr_opening c)) (not_reached (suc n) (extension c))
clear_rest (PieceP k) c = piece_clear k c
clear_rest (ConstSpec true) c = every (λ c. clear (rest_of (rhs (ConstSpec true))) (after (ConstSpec true) c) c) refl c
clear_rest (ConstSpec false) c = every (λ c. clear (rest_of (rhs (ConstSpec false))) (after (ConstSpec false) c) c) refl c
clear_rest (WordSpec true) c = every (λ c. clear (rest_of (rhs (WordSpec true))) (after (WordSpec true) c) c) refl c
clear_rest (WordSpec false) c = every (λ c. clear (rest_of (rhs (WordSpec false))) (after (WordSpec false) c) c) refl c
clear_rest (SignSpec true) c = every (λ c. clear (rest_of (rhs (SignSpec true))) (after (SignSpec true) c) c) refl c
clear_rest (SignSpec false) c = every (λ c. clear (rest_of (rhs (SignSpec false))) (after (SignSpec false) c) c) refl c
clear_rest (StructSpec true) c = every (λ c. clear (rest_of (rhs (StructSpec true))) (after (StructSpec true) c) c) refl c
clear_rest (StructSpec false) c = every (λ c. clear (rest_of (rhs (StructSpec false))) (after (StructSpec false) c) c) refl c
clear_rest MemberP c = every (λ c. clear (rest_of (rhs MemberP)) (after MemberP c) c) refl c
clear_rest (NameCore true) c = every (λ c. clear (rest_of (rhs (NameCore true))) (after (NameCore true) c) c) refl c
clear_rest (NameCore false) c = every (λ c. clear (rest_of (rhs (NameCore false))) (after (NameCore false) c) c) refl c
clear_rest (FunctionCore true) c = every (λ c. clear (rest_of (rhs (FunctionCore true))) (after (FunctionCore true) c) c) refl c
clear_rest (FunctionCore false) c = every (λ c. clear (rest_of (rhs (FunctionCore false))) (after (FunctionCore false) c) c) refl c
clear_rest NoParams c = every (λ c. clear (rest_of (rhs NoParams)) (after NoParams c) c) refl c
clear_rest Params c = every (λ c. clear (rest_of (rhs Params)) (after Params c) c) refl c
clear_rest ParamName c = every (λ c. clear (rest_of (rhs ParamName)) (after ParamName c) c) refl c
clear_rest ParamFunction c = every (λ c. clear (rest_of (rhs ParamFunction)) (after ParamFunction c) c) refl c
clear_rest Declaration c = every (λ c. clear (rest_of (rhs Declaration)) (after Declaration c) c) refl c
clear_rest FirstValue c = every (λ c. clear (rest_of (rhs FirstValue)) (after FirstValue c) c) refl c
clear_rest ValueComma c = every (λ c. clear (rest_of (rhs ValueComma)) (after ValueComma c) c) refl c
clear_rest NextValue c = every (λ c. clear (rest_of (rhs NextValue)) (after NextValue c) c) refl c
clear_rest Braces c = every (λ c. clear (rest_of (rhs Braces)) (after Braces c) c) refl c
clear_rest Block c = every (λ c. clear (rest_of (rhs Block)) (after Block c) c) refl c
clear_rest Empty c = every (λ c. clear (rest_of (rhs Empty)) (after Empty c) c) refl c
clear_rest ExprStatement c = every (λ c. clear (rest_of (rhs ExprStatement)) (after ExprStatement c) c) refl c
clear_rest If c = every (λ c. clear (rest_of (rhs If)) (after If c) c) refl c
clear_rest IfElse c = every (λ c. clear (rest_of (rhs IfElse)) (after IfElse c) c) refl c
clear_rest While c = every (λ c. clear (rest_of (rhs While)) (after While c) c) refl c
clear_rest Do c = every (λ c. clear (rest_of (rhs Do)) (after Do c) c) refl c
clear_rest For c = every (λ c. clear (rest_of (rhs For)) (after For c) c) refl c
clear_rest Switch c = every (λ c. clear (rest_of (rhs Switch)) (after Switch c) c) refl c
clear_rest Return c = every (λ c. clear (rest_of (rhs Return)) (after Return c) c) refl c
clear_rest Jump c = every (λ c. clear (rest_of (rhs Jump)) (after Jump c) c) refl c
clear_rest CaseLabel c = every (λ c. clear (rest_of (rhs CaseLabel)) (after CaseLabel c) c) refl c
clear_rest DefaultLabel c = every (λ c. clear (rest_of (rhs DefaultLabel)) (after DefaultLabel c) c) refl c
clear_rest Whole c = every (λ c. clear (rest_of (rhs Whole)) (after Whole c) c) refl c
clear_rest StaticExternal c = every (λ c. clear (rest_of (rhs StaticExternal)) (after StaticExternal c) c) refl c
clear_rest DeclaredP c = every (λ c. clear (rest_of (rhs DeclaredP)) (after DeclaredP c) c) refl c
clear_rest Pointed c = every (λ c. clear (rest_of (rhs Pointed)) (after Pointed c) c) refl c
clear_rest Function c = every (λ c. clear (rest_of (rhs Function)) (after Function c) c) refl c
clear_rest Objects c = every (λ c. clear (rest_of (rhs Objects)) (after Objects c) c) refl c

pub unit_clear : (c : Class) → clear (rhs Whole) true c ≡ true
unfolding rhs opening same_class
unit_clear c = every (λ c. clear (rhs Whole) true c) refl c

-- the productions that end in a statement
pub body_clear : (p : Production) → spelling.or (spelling.is_if p) (spelling.has_body p) ≡ true → (c : Class) → clear_front (rest_of (rhs p)) c ≡ true
unfolding rhs opening same_class
body_clear If h c = every (λ c. clear_front (rest_of (rhs If)) c) refl c
body_clear IfElse h c = every (λ c. clear_front (rest_of (rhs IfElse)) c) refl c
body_clear While h c = every (λ c. clear_front (rest_of (rhs While)) c) refl c
body_clear For h c = every (λ c. clear_front (rest_of (rhs For)) c) refl c
body_clear _ h c = absurd (false≢true h)

pub trans_le : (a b c : ℕ) → nat_le a b ≡ true → nat_le b c ≡ true → nat_le a c ≡ true
trans_le a b c h g = le_to a c (omega (arith, le_of a b h, le_of b c g))

lower_number : (i j l : ℕ) → nat_le i j ≡ true → neg (nat_le i l) ≡ true → neg (nat_le j l) ≡ true
lower_number i j l h g = at (nat_le j l) refl
  where
    at : (b : Bool) → nat_le j l ≡ b → neg b ≡ true
    at false e = refl
    at true e = sym (ap neg (trans_le i j l h e)) ∙ g

pub lower : (i j : ℕ) (o : Option Extension) → nat_le i j ≡ true → not_reached i o ≡ true → not_reached j o ≡ true
lower i j None h g = refl
lower i j (Some e) h g = lower_number i j e.level h g

pub value_one : (c : Class) → ends_value c ≡ true → not_reached 1 (extension c) ≡ true
value_one c e = implied (ends_value c) (not_reached 1 (extension c)) (every (λ c. implies (ends_value c) (not_reached 1 (extension c))) refl c) e

fourteen : (c : Class) → not_reached 14 (extension c) ≡ true → not_reached 13 (extension c) ≡ true
fourteen c e = implied (not_reached 14 (extension c)) (not_reached 13 (extension c)) (every (λ c. implies (not_reached 14 (extension c)) (not_reached 13 (extension c))) refl c) e

level_case : (k : ℕ) (n : Part) (c : Class) → takes_level k n ≡ true → ends n c ≡ true → (r : ℕ) → ((j : ℕ) → nat_le j k ≡ true → not_reached j (extension c) ≡ true → not_reached r (extension c) ≡ true) → not_reached r (extension c) ≡ true
level_case k (Expr j) c a e r g = g j a e
level_case k Value c a e r g = g 1 a (value_one c e)
level_case k _ c a e r g = absurd (false≢true a)

le_suc : (j k : ℕ) → nat_le j k ≡ true → nat_le j (suc k) ≡ true
le_suc j k h = le_to j (suc k) (omega (arith, le_of j k h))

abbrev pieces : List Piece
pieces = NextArgument ∷ FunctionPart ∷ Pointer ∷ Qualifier ∷ SecondWord ∷ Members ∷ NextMember ∷ AnyLength ∷ FullLength ∷ NextParam ∷ ParamLengths ∷ NamePart ∷ Initial ∷ NextInit ∷ []

abbrev nth_piece : List Piece → ℕ → Piece
nth_piece [] n = NextInit
nth_piece (c ∷ cs) zero = c
nth_piece (c ∷ cs) (suc n) = nth_piece cs n

piece_decoded : (k : Piece) → nth_piece pieces (piece_code k) ≡ k
piece_decoded NextArgument = refl
piece_decoded FunctionPart = refl
piece_decoded Pointer = refl
piece_decoded Qualifier = refl
piece_decoded SecondWord = refl
piece_decoded Members = refl
piece_decoded NextMember = refl
piece_decoded AnyLength = refl
piece_decoded FullLength = refl
piece_decoded NextParam = refl
piece_decoded ParamLengths = refl
piece_decoded NamePart = refl
piece_decoded Initial = refl
piece_decoded NextInit = refl

pub piece_same : (j k : Piece) → nat_eq (piece_code j) (piece_code k) ≡ true → j ≡ k
piece_same j k h = sym (piece_decoded j) ∙ ap (nth_piece pieces) (eq_of (piece_code j) (piece_code k) h) ∙ piece_decoded k

piece_after : (k : Piece) (n : Part) (c : Class) → takes_piece k n ≡ true → ends n c ≡ true → piece_ends k c ≡ true
piece_after k (Only j) c a e = ap (λ z. piece_ends z c) (sym (piece_same j k a)) ∙ e
piece_after ParamLengths ParamTail c a e = e
piece_after k ParamTail c a e = tail_only k a
  where
    tail_only : (k : Piece) → takes_piece k ParamTail ≡ true → piece_ends k c ≡ true
    tail_only ParamLengths a = e
    tail_only _ a = absurd (false≢true a)
piece_after k _ c a e = absurd (false≢true a)

spec_after : (f : Bool) (n : Part) (c : Class) → takes_spec f n ≡ true → ends n c ≡ true → ends_spec c ≡ true
spec_after f (Spec j) c a e = e
spec_after f _ c a e = absurd (false≢true a)

core_after : (o bare : Bool) (n : Part) (c : Class) → takes_core o bare n ≡ true → ends n c ≡ true → ends_core c ≡ true
core_after o bare (Core j) c a e = e
core_after o bare BareName c a e = e
core_after o bare _ c a e = absurd (false≢true a)

tail_after : (n : Part) (c : Class) → is_param_tail n ≡ true → ends n c ≡ true → ends_item c ≡ true
tail_after ParamTail c a e = e
tail_after _ c a e = absurd (false≢true a)

values_after : (n : Part) (c : Class) → takes_values n ≡ true → ends n c ≡ true → ends_value c ≡ true
values_after Values c a e = e
values_after ValuesEnd c a e = e
values_after _ c a e = absurd (false≢true a)

statement_after : (n : Part) (c : Class) → is_statement n ≡ true → ends n c ≡ true → not_else c ≡ true
statement_after Statement c a e = e
statement_after BlockItem c a e = e
statement_after SwitchPart c a e = e
statement_after _ c a e = absurd (false≢true a)

if_after : (o : Bool) (n : Part) (c : Class) → takes_if o n ≡ true → ends n c ≡ true → not_else c ≡ true
if_after o IfHead c a e = e
if_after o Statement c a e = e
if_after o BlockItem c a e = e
if_after o SwitchPart c a e = e
if_after o _ c a e = absurd (false≢true a)

-- what may follow a part may follow each production that it can be
pub ends_after : (p : Production) (kids : Spellings) (n : Part) (c : Class) → accepts (category p kids) n ≡ true → ends n c ≡ true → after p c ≡ true
ends_after Prefix kids n c a e = level_case 14 n c a e 13 (λ j h g. fourteen c (lower j 14 (extension c) h g))
ends_after SizeOf kids n c a e = level_case 14 n c a e 14 (λ j h g. lower j 14 (extension c) h g)
ends_after (Binary l) kids n c a e = level_case l n c a e (suc l) (λ j h g. lower j (suc l) (extension c) (le_suc j l h) g)
ends_after Assign kids n c a e = level_case 1 n c a e 1 (λ j h g. lower j 1 (extension c) h g)
ends_after Cond kids n c a e = level_case 2 n c a e 2 (λ j h g. lower j 2 (extension c) h g)
ends_after CommaExpr kids n c a e = level_case 0 n c a e 1 (λ j h g. lower j 1 (extension c) (le_suc j 0 h) g)
ends_after Cast kids n c a e = level_case 13 n c a e 13 (λ j h g. lower j 13 (extension c) h g)
ends_after (PieceP k) kids n c a e = piece_after k n c a e
ends_after (ConstSpec f) kids n c a e = spec_after f n c a e
ends_after (WordSpec f) kids n c a e = spec_after f n c a e
ends_after (SignSpec f) kids n c a e = spec_after f n c a e
ends_after (StructSpec f) kids n c a e = spec_after f n c a e
ends_after (NameCore o) kids n c a e = core_after o (spelling.has_no_length kids) n c a e
ends_after ParamName kids n c a e = tail_after n c a e
ends_after FirstValue kids n c a e = values_after n c a e
ends_after NextValue kids n c a e = values_after n c a e
ends_after If kids n c a e = if_after (spelling.last_open kids) n c a e
ends_after IfElse kids n c a e = statement_after n c a e
ends_after While kids n c a e = statement_after n c a e
ends_after For kids n c a e = statement_after n c a e
ends_after _ kids n c a e = refl

pub not_extended : (j k : ℕ) (o : Option Extension) → not_reached j o ≡ true → extended j k o ≡ None
not_extended j k None h = refl
not_extended j k (Some e) h = at (nat_le j e.level) h
  where
    at : (b : Bool) → neg b ≡ true → if_so (spelling.and b (nat_le e.operand k)) (Some e.production) ≡ None
    at false h = refl
    at true h = absurd (false≢true h)

fourteen_no : (j : ℕ) → nat_eq j 14 ≡ true → nat_le j 13 ≡ false
fourteen_no j h = ap (λ z. nat_le z 13) (eq_of j 14 h)

level_none : (k : ℕ) (n : Part) (c : Class) → takes_level k n ≡ true → ends n c ≡ true → expr_announced (floor n) k n c ≡ None
level_none k (Expr j) c a e = ap (λ o. or_else o None) (not_extended j k (extension c) e)
level_none k Value c a e = ap (λ o. or_else o None) (not_extended 1 k (extension c) (value_one c e))
level_none k _ c a e = absurd (false≢true a)

type_none : (n : Part) → takes_type n ≡ true → cast_announced (floor n) ≡ None
type_none (Expr j) a = ap (λ b. if_so b (Some Cast)) (fourteen_no j a)
type_none CastHead a = refl
type_none _ a = absurd (false≢true a)

spec_none : (f : Bool) (n : Part) → takes_spec f n ≡ true → spec_announced f n ≡ None
spec_none true (Spec j) a = refl
spec_none false (Spec j) a = refl
spec_none true _ a = absurd (false≢true a)
spec_none false _ a = absurd (false≢true a)

core_none : (o bare : Bool) (n : Part) (c : Class) → takes_core o bare n ≡ true → core_announced bare n c ≡ None
core_none o bare (Core j) c a = refl
core_none o bare BareName c a = refl
core_none o bare _ c a = absurd (false≢true a)

values_none : (q : Production) (n : Part) (c : Class) → spelling.or (takes_values n) (spelling.takes_values_comma n) ≡ true → values_announced q n c ≡ None
values_none q Values c a = refl
values_none q ValuesComma c a = refl
values_none q ValuesEnd c a = refl
values_none q _ c a = absurd (false≢true a)

or_left : (a b : Bool) → a ≡ true → spelling.or a b ≡ true
or_left a b h = ap (λ z. spelling.or z b) h

or_right : (a b : Bool) → b ≡ true → spelling.or a b ≡ true
or_right true b h = refl
or_right false b h = h

else_none : (n : Part) (c : Class) → ends n c ≡ true → else_announced n c ≡ None
else_none Statement class.Else e = absurd (false≢true e)
else_none Statement _ e = refl
else_none BlockItem class.Else e = absurd (false≢true e)
else_none BlockItem _ e = refl
else_none SwitchPart class.Else e = absurd (false≢true e)
else_none SwitchPart _ e = refl
else_none _ c e = refl

-- what may follow a part begins no other production with it
pub ends_none : (k : Category) (n : Part) (c : Class) → accepts k n ≡ true → ends n c ≡ true → announced k n c ≡ None
unfolding announced
ends_none (Level k) n c a e = level_none k n c a e
ends_none BracketedType n c a e = type_none n a
ends_none (SpecC f) n c a e = spec_none f n a
ends_none (CoreC o bare) n c a e = core_none o bare n c a
ends_none ValuesC n c a e = values_none ValueComma n c (or_left (takes_values n) (spelling.takes_values_comma n) a)
ends_none ValuesCommaC n c a e = values_none NextValue n c (or_right (takes_values n) (spelling.takes_values_comma n) a)
ends_none (IfC o) n c a e = else_none n c e
ends_none _ n c a e = refl
