-- A spelling of each part, and tokens for the places that are left.
use Rattle.std.proofs.Common.{◌≡◌, ℕ, suc, List, [], ◌∷◌, Bool, true, false, refl, ap, ◌∙◌, arith, zero, Some}
use Rattle.std.specs.Prelude.{nat_le}
use Rattle.c_syntax.specs.declared.token.Kind.{Kind}
use Rattle.c_syntax.specs.declared.token.Kind.TheVariants as kind
use Rattle.c_syntax.specs.declared.token.Key.TheVariants as key
use Rattle.c_syntax.specs.declared.token.Mark.TheVariants as mark
use Rattle.c_syntax.specs.declared.token.Token.{Token}
use Rattle.c_grammar.specs.Class as class
use Rattle.c_grammar.specs.Class.{Class, class_of, level}
use Rattle.c_grammar.specs.Grammar.{Terminal, Exactly, Operator, PrefixOperator, Atomic, Assigning, TypeWord, Piece, NextArgument, FunctionPart, Pointer, Qualifier, SecondWord, Members, NextMember, AnyLength, FullLength, NextParam, ParamLengths, NamePart, Initial, NextInit, Part, Only, Expr, Inside, CallEnd, ParamsEnd, CastHead, IfHead, Spec, Core, BareName, ParamTail, MemberDecl, Value, Values, ValuesComma, ValuesEnd, Statement, BlockItem, SwitchPart, ForFirst, FunctionEnd, External, Declared, ExternalRest, DeclaredRest, Symbol, Tok, One, Many, Maybe, Atom, ExprInside, NoArguments, PieceP, WordSpec, MemberP, NameCore, NoParams, ParamName, Empty, DeclaredP, Objects, rhs}
use Rattle.c_grammar.proofs.Codes.{le_of}
use Rattle.c_grammar.specs.Spelling.{Spelling, Leaf, Node, Row, Spellings, Nil, Cons, Fits, AllFit}

abbrev sample : Class → Kind
sample class.Name = kind.Name []
sample class.Number = kind.Number 0 false
sample class.Str = kind.Str []
sample class.Null = kind.Null
sample class.LParen = kind.Mark mark.LParen
sample class.RParen = kind.Mark mark.RParen
sample class.LBracket = kind.Mark mark.LBracket
sample class.RBracket = kind.Mark mark.RBracket
sample class.LBrace = kind.Mark mark.LBrace
sample class.RBrace = kind.Mark mark.RBrace
sample class.Comma = kind.Mark mark.Comma
sample class.Semi = kind.Mark mark.Semi
sample class.Colon = kind.Mark mark.Colon
sample class.Question = kind.Mark mark.Question
sample class.Dot = kind.Mark mark.Dot
sample class.Equals = kind.Mark mark.Assign
sample class.Compound = kind.Mark mark.PlusAssign
sample class.OrOr = kind.Mark mark.OrOr
sample class.AndAnd = kind.Mark mark.AndAnd
sample class.Bar = kind.Mark mark.Bar
sample class.Caret = kind.Mark mark.Caret
sample class.Equality = kind.Mark mark.EqEq
sample class.Relation = kind.Mark mark.Less
sample class.Shift = kind.Mark mark.Shl
sample class.Slash = kind.Mark mark.Slash
sample class.Amp = kind.Mark mark.Amp
sample class.Sum = kind.Mark mark.Plus
sample class.Star = kind.Mark mark.Star
sample class.Tilde = kind.Mark mark.Tilde
sample class.Step = kind.Mark mark.PlusPlus
sample class.Sizeof = kind.Key key.Sizeof
sample class.Const = kind.Key key.Const
sample class.Static = kind.Key key.Static
sample class.Struct = kind.Key key.Struct
sample class.Void = kind.Key key.Void
sample class.Basic = kind.Key key.Int
sample class.Sign = kind.Key key.Signed
sample class.If = kind.Key key.If
sample class.Else = kind.Key key.Else
sample class.While = kind.Key key.While
sample class.Do = kind.Key key.Do
sample class.For = kind.Key key.For
sample class.Switch = kind.Key key.Switch
sample class.Case = kind.Key key.Case
sample class.Default = kind.Key key.Default
sample class.Return = kind.Key key.Return
sample class.Jump = kind.Key key.Break
sample class.End = kind.End
sample class.Unused = kind.Key key.Auto

abbrev pub token_of : Class → Token
token_of c = record { kind = sample c; pos = 0 }

pub token_class : (c : Class) → class_of (token_of c) ≡ c
unfolding class_of
token_class class.Name = refl
token_class class.Number = refl
token_class class.Str = refl
token_class class.Null = refl
token_class class.LParen = refl
token_class class.RParen = refl
token_class class.LBracket = refl
token_class class.RBracket = refl
token_class class.LBrace = refl
token_class class.RBrace = refl
token_class class.Comma = refl
token_class class.Semi = refl
token_class class.Colon = refl
token_class class.Question = refl
token_class class.Dot = refl
token_class class.Equals = refl
token_class class.Compound = refl
token_class class.OrOr = refl
token_class class.AndAnd = refl
token_class class.Bar = refl
token_class class.Caret = refl
token_class class.Equality = refl
token_class class.Relation = refl
token_class class.Shift = refl
token_class class.Slash = refl
token_class class.Amp = refl
token_class class.Sum = refl
token_class class.Star = refl
token_class class.Tilde = refl
token_class class.Step = refl
token_class class.Sizeof = refl
token_class class.Const = refl
token_class class.Static = refl
token_class class.Struct = refl
token_class class.Void = refl
token_class class.Basic = refl
token_class class.Sign = refl
token_class class.If = refl
token_class class.Else = refl
token_class class.While = refl
token_class class.Do = refl
token_class class.For = refl
token_class class.Switch = refl
token_class class.Case = refl
token_class class.Default = refl
token_class class.Return = refl
token_class class.Jump = refl
token_class class.End = refl
token_class class.Unused = refl

-- parts that can be spelled by themselves, as all are that do not begin a production
abbrev pub small_part : Part → Bool
small_part (Expr n) = nat_le n 14
small_part IfHead = false
small_part CastHead = false
small_part BareName = false
small_part Values = false
small_part ValuesComma = false
small_part ValuesEnd = false
small_part _ = true

abbrev leaf : Class → Spelling
leaf c = Leaf (token_of c)

abbrev pub atom : Spelling
atom = Node Atom (Cons (leaf class.Name) Nil)

abbrev pointer : Spelling
pointer = Node (PieceP Pointer) (Cons (leaf class.Star) (Cons (Row Nil) Nil))

abbrev params : Spelling
params = Node NoParams (Cons (leaf class.RParen) Nil)

abbrev spec : Bool → Spelling
spec e = Node (WordSpec e) (Cons (leaf class.Basic) (Cons (Row Nil) Nil))

abbrev pub core : Bool → Spelling
core o = Node (NameCore o) (Cons (leaf class.Name) (Cons (Row Nil) Nil))

abbrev pub empty : Spelling
empty = Node Empty (Cons (leaf class.Semi) Nil)

abbrev pub piece : Piece → Spelling
piece NextArgument = Node (PieceP NextArgument) (Cons (leaf class.Comma) (Cons atom Nil))
piece FunctionPart = Node (PieceP FunctionPart) (Cons (leaf class.LParen) (Cons pointer (Cons (leaf class.RParen) (Cons (leaf class.LParen) (Cons params Nil)))))
piece Pointer = pointer
piece Qualifier = Node (PieceP Qualifier) (Cons (leaf class.Const) Nil)
piece SecondWord = Node (PieceP SecondWord) (Cons (leaf class.Basic) (Cons (Row Nil) Nil))
piece Members = Node (PieceP Members) (Cons (leaf class.LBrace) (Cons (Row Nil) (Cons (leaf class.RBrace) Nil)))
piece NextMember = Node (PieceP NextMember) (Cons (leaf class.Comma) (Cons (Row Nil) (Cons (core false) Nil)))
piece AnyLength = Node (PieceP AnyLength) (Cons (leaf class.LBracket) (Cons (Row Nil) (Cons (leaf class.RBracket) Nil)))
piece FullLength = Node (PieceP FullLength) (Cons (leaf class.LBracket) (Cons atom (Cons (leaf class.RBracket) Nil)))
piece NextParam = Node (PieceP NextParam) (Cons (leaf class.Comma) (Cons (spec false) (Cons (Row Nil) (Cons (Row Nil) Nil))))
piece ParamLengths = Node (PieceP ParamLengths) (Cons (leaf class.LBracket) (Cons (Row Nil) (Cons (leaf class.RBracket) (Cons (Row Nil) Nil))))
piece NamePart = Node (PieceP NamePart) (Cons (leaf class.Name) Nil)
piece Initial = Node (PieceP Initial) (Cons (leaf class.Equals) (Cons atom Nil))
piece NextInit = Node (PieceP NextInit) (Cons (leaf class.Comma) (Cons (Row Nil) (Cons (core true) (Cons (Row Nil) Nil))))

atom_kids : AllFit (Cons (leaf class.Name) Nil) (rhs Atom)
unfolding class_of rhs
atom_kids = (refl, tt)

pub atom_fits : (n : ℕ) → nat_le n 15 ≡ true → Fits atom (One (Expr n))
atom_fits n h = (h, atom_kids)

atom_value : Fits atom (One Value)
atom_value = (refl, atom_kids)

pointer_fits : Fits pointer (One (Only Pointer))
unfolding class_of rhs
pointer_fits = (refl, (refl, (tt, tt)))

params_fit : Fits params (One ParamsEnd)
unfolding class_of rhs
params_fit = (refl, (refl, tt))

spec_fits : (e : Bool) → Fits (spec e) (One (Spec e))
unfolding class_of rhs
spec_fits true = (refl, (refl, (tt, tt)))
spec_fits false = (refl, (refl, (tt, tt)))

core_kids : (o : Bool) → AllFit (Cons (leaf class.Name) (Cons (Row Nil) Nil)) (rhs (NameCore o))
unfolding class_of rhs
core_kids o = (refl, (tt, tt))

pub core_fits : (o : Bool) → Fits (core o) (One (Core o))
core_fits true = (refl, core_kids true)
core_fits false = (refl, core_kids false)

rest_fits : AllFit (Cons (core true) (Cons (Row Nil) (Cons (Row Nil) (Cons (leaf class.Semi) Nil)))) (rhs Objects)
unfolding class_of rhs
rest_fits = (core_fits true, (tt, (tt, (refl, tt))))

empty_kids : AllFit (Cons (leaf class.Semi) Nil) (rhs Empty)
unfolding class_of rhs
empty_kids = (refl, tt)

piece_fits : (k : Piece) → Fits (piece k) (One (Only k))
unfolding class_of rhs
piece_fits NextArgument = (refl, (refl, (atom_fits 1 refl, tt)))
piece_fits FunctionPart = (refl, (refl, (pointer_fits, (refl, (refl, (params_fit, tt))))))
piece_fits Pointer = pointer_fits
piece_fits Qualifier = (refl, (refl, tt))
piece_fits SecondWord = (refl, (refl, (tt, tt)))
piece_fits Members = (refl, (refl, (tt, (refl, tt))))
piece_fits NextMember = (refl, (refl, (tt, (core_fits false, tt))))
piece_fits AnyLength = (refl, (refl, (tt, (refl, tt))))
piece_fits FullLength = (refl, (refl, (atom_fits 1 refl, (refl, tt))))
piece_fits NextParam = (refl, (refl, (spec_fits false, (tt, (tt, tt)))))
piece_fits ParamLengths = (refl, (refl, (tt, (refl, (tt, tt)))))
piece_fits NamePart = (refl, (refl, tt))
piece_fits Initial = (refl, (refl, (atom_value, tt)))
piece_fits NextInit = (refl, (refl, (tt, (core_fits true, (tt, tt)))))

abbrev rest : Spelling
rest = Node Objects (Cons (core true) (Cons (Row Nil) (Cons (Row Nil) (Cons (leaf class.Semi) Nil))))

abbrev example : Part → Spelling
example (Expr n) = atom
example (Only k) = piece k
example IfHead = atom
example Inside = Node ExprInside (Cons atom (Cons (leaf class.RParen) Nil))
example CallEnd = Node NoArguments (Cons (leaf class.RParen) Nil)
example ParamsEnd = params
example CastHead = atom
example (Spec e) = spec e
example (Core o) = core o
example BareName = atom
example ParamTail = Node ParamName (Cons (leaf class.Name) (Cons (Row Nil) Nil))
example MemberDecl = Node MemberP (Cons (spec false) (Cons (Row Nil) (Cons (core false) (Cons (Row Nil) (Cons (leaf class.Semi) Nil)))))
example Value = atom
example Values = atom
example ValuesComma = atom
example ValuesEnd = atom
example Statement = empty
example BlockItem = empty
example SwitchPart = empty
example ForFirst = empty
example FunctionEnd = empty
example External = Node DeclaredP (Cons (spec true) (Cons empty Nil))
example Declared = Node DeclaredP (Cons (spec true) (Cons empty Nil))
example ExternalRest = empty
example DeclaredRest = rest

declared_kids : AllFit (Cons (spec true) (Cons empty Nil)) (rhs DeclaredP)
unfolding class_of rhs
declared_kids = (spec_fits true, ((refl, empty_kids), tt))

wide : (n : ℕ) → nat_le n 14 ≡ true → nat_le n 15 ≡ true
wide n h = grind (arith, h)

example_fits : (n : Part) → small_part n ≡ true → Fits (example n) (One n)
unfolding class_of rhs
example_fits (Expr n) h = atom_fits n (wide n h)
example_fits (Only k) h = piece_fits k
example_fits IfHead h = cc (h)
example_fits Inside h = (refl, (atom_fits 0 refl, (refl, tt)))
example_fits CallEnd h = (refl, (refl, tt))
example_fits ParamsEnd h = params_fit
example_fits CastHead h = cc (h)
example_fits (Spec e) h = spec_fits e
example_fits (Core o) h = core_fits o
example_fits BareName h = cc (h)
example_fits ParamTail h = (refl, (refl, (tt, tt)))
example_fits MemberDecl h = (refl, (spec_fits false, (tt, (core_fits false, (tt, (refl, tt))))))
example_fits Value h = atom_value
example_fits Values h = cc (h)
example_fits ValuesComma h = cc (h)
example_fits ValuesEnd h = cc (h)
example_fits Statement h = (refl, empty_kids)
example_fits BlockItem h = (refl, empty_kids)
example_fits SwitchPart h = (refl, empty_kids)
example_fits ForFirst h = (refl, empty_kids)
example_fits FunctionEnd h = (refl, empty_kids)
example_fits External h = (refl, declared_kids)
example_fits Declared h = (refl, declared_kids)
example_fits ExternalRest h = (refl, empty_kids)
example_fits DeclaredRest h = (refl, rest_fits)

-- an operator of a level
abbrev operator_class : ℕ → Class
operator_class zero = class.Unused
operator_class (suc zero) = class.Unused
operator_class (suc (suc zero)) = class.Unused
operator_class (suc (suc (suc zero))) = class.OrOr
operator_class (suc (suc (suc (suc zero)))) = class.AndAnd
operator_class (suc (suc (suc (suc (suc zero))))) = class.Bar
operator_class (suc (suc (suc (suc (suc (suc zero)))))) = class.Caret
operator_class (suc (suc (suc (suc (suc (suc (suc zero))))))) = class.Amp
operator_class (suc (suc (suc (suc (suc (suc (suc (suc zero)))))))) = class.Equality
operator_class (suc (suc (suc (suc (suc (suc (suc (suc (suc zero))))))))) = class.Relation
operator_class (suc (suc (suc (suc (suc (suc (suc (suc (suc (suc zero)))))))))) = class.Shift
operator_class (suc (suc (suc (suc (suc (suc (suc (suc (suc (suc (suc zero))))))))))) = class.Sum
operator_class (suc (suc (suc (suc (suc (suc (suc (suc (suc (suc (suc (suc zero)))))))))))) = class.Star
operator_class (suc (suc (suc (suc (suc (suc (suc (suc (suc (suc (suc (suc (suc n))))))))))))) = class.Unused

operator_level : (n : ℕ) → nat_le 3 n ≡ true → nat_le n 12 ≡ true → level (operator_class n) ≡ Some n
operator_level zero h g = cc (h)
operator_level (suc zero) h g = cc (h)
operator_level (suc (suc zero)) h g = cc (h)
operator_level (suc (suc (suc zero))) h g = refl
operator_level (suc (suc (suc (suc zero)))) h g = refl
operator_level (suc (suc (suc (suc (suc zero))))) h g = refl
operator_level (suc (suc (suc (suc (suc (suc zero)))))) h g = refl
operator_level (suc (suc (suc (suc (suc (suc (suc zero))))))) h g = refl
operator_level (suc (suc (suc (suc (suc (suc (suc (suc zero)))))))) h g = refl
operator_level (suc (suc (suc (suc (suc (suc (suc (suc (suc zero))))))))) h g = refl
operator_level (suc (suc (suc (suc (suc (suc (suc (suc (suc (suc zero)))))))))) h g = refl
operator_level (suc (suc (suc (suc (suc (suc (suc (suc (suc (suc (suc zero))))))))))) h g = refl
operator_level (suc (suc (suc (suc (suc (suc (suc (suc (suc (suc (suc (suc zero)))))))))))) h g = refl
operator_level (suc (suc (suc (suc (suc (suc (suc (suc (suc (suc (suc (suc (suc n))))))))))))) h g = absurd (omega (arith, le_of (suc (suc (suc (suc (suc (suc (suc (suc (suc (suc (suc (suc (suc n))))))))))))) 12 g))

abbrev pub and : Bool → Bool → Bool
and true b = b
and false b = false

abbrev pub small_symbol : Symbol → Bool
small_symbol (Tok (Operator n)) = and (nat_le 3 n) (nat_le n 12)
small_symbol (Tok k) = true
small_symbol (One n) = small_part n
small_symbol (Many n) = small_part n
small_symbol (Maybe n) = small_part n

-- all of the places can be filled
abbrev pub small : List Symbol → Bool
small [] = true
small (s ∷ ss) = and (small_symbol s) (small ss)

pub and_left : (a b : Bool) → and a b ≡ true → a ≡ true
and_left true b h = refl
and_left false b h = h

pub and_right : (a b : Bool) → and a b ≡ true → b ≡ true
and_right true b h = h
and_right false b h = cc (h)

abbrev terminal_class : Terminal → Class
terminal_class (Exactly c) = c
terminal_class (Operator n) = operator_class n
terminal_class PrefixOperator = class.Star
terminal_class Atomic = class.Name
terminal_class Assigning = class.Equals
terminal_class TypeWord = class.Void

abbrev filler : Symbol → Spelling
filler (Tok k) = leaf (terminal_class k)
filler (One n) = example n
filler (Many n) = Row Nil
filler (Maybe n) = Row Nil

filler_fits : (s : Symbol) → small_symbol s ≡ true → Fits (filler s) s
unfolding class_of
filler_fits (Tok (Exactly c)) h = token_class c
filler_fits (Tok (Operator n)) h = ap level (token_class (operator_class n)) ∙ operator_level n (and_left (nat_le 3 n) (nat_le n 12) h) (and_right (nat_le 3 n) (nat_le n 12) h)
filler_fits (Tok PrefixOperator) h = refl
filler_fits (Tok Atomic) h = refl
filler_fits (Tok Assigning) h = refl
filler_fits (Tok TypeWord) h = refl
filler_fits (One n) h = example_fits n h
filler_fits (Many n) h = tt
filler_fits (Maybe n) h = tt

abbrev pub fill : List Symbol → Spellings
fill [] = Nil
fill (s ∷ ss) = Cons (filler s) (fill ss)

pub fill_fits : (ss : List Symbol) → small ss ≡ true → AllFit (fill ss) ss
fill_fits [] h = tt
fill_fits (s ∷ ss) h = (filler_fits s (and_left (small_symbol s) (small ss) h), fill_fits ss (and_right (small_symbol s) (small ss) h))
