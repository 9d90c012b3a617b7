-- The classes of tokens that the grammar tells apart.
use Rattle.std.specs.Prelude.{ℕ, nat_eq, Option, Some, None, Bool, true, false}
use Rattle.c_syntax.specs.declared.token.Kind.{Kind}
use Rattle.c_syntax.specs.declared.token.Kind.TheVariants as kind
use Rattle.c_syntax.specs.declared.token.Key.{Key}
use Rattle.c_syntax.specs.declared.token.Key.TheVariants as key
use Rattle.c_syntax.specs.declared.token.Mark.{Mark}
use Rattle.c_syntax.specs.declared.token.Mark.TheVariants as mark
use Rattle.c_syntax.specs.declared.token.Token.{Token}
pub use Rattle.c_grammar.specs.declared.names.Class.{Class}
pub use Rattle.c_grammar.specs.declared.names.Class.TheVariants.{Name, Number, Str, Null, LParen, RParen, LBracket, RBracket, LBrace, RBrace, Comma, Semi, Colon, Question, Dot, Equals, Compound, OrOr, AndAnd, Bar, Caret, Equality, Relation, Shift, Slash, Amp, Sum, Star, Tilde, Step, Sizeof, Const, Static, Struct, Void, Basic, Sign, If, Else, While, Do, For, Switch, Case, Default, Return, Jump, End, Unused}

abbrev pub mark_class : Mark → Class
mark_class mark.LParen = LParen
mark_class mark.RParen = RParen
mark_class mark.LBracket = LBracket
mark_class mark.RBracket = RBracket
mark_class mark.LBrace = LBrace
mark_class mark.RBrace = RBrace
mark_class mark.Comma = Comma
mark_class mark.Semi = Semi
mark_class mark.Colon = Colon
mark_class mark.Question = Question
mark_class mark.Dot = Dot
mark_class mark.Arrow = Dot
mark_class mark.Assign = Equals
mark_class mark.PlusAssign = Compound
mark_class mark.MinusAssign = Compound
mark_class mark.StarAssign = Compound
mark_class mark.SlashAssign = Compound
mark_class mark.PercentAssign = Compound
mark_class mark.AmpAssign = Compound
mark_class mark.BarAssign = Compound
mark_class mark.CaretAssign = Compound
mark_class mark.ShlAssign = Compound
mark_class mark.ShrAssign = Compound
mark_class mark.OrOr = OrOr
mark_class mark.AndAnd = AndAnd
mark_class mark.Bar = Bar
mark_class mark.Caret = Caret
mark_class mark.Amp = Amp
mark_class mark.EqEq = Equality
mark_class mark.NotEq = Equality
mark_class mark.Less = Relation
mark_class mark.Greater = Relation
mark_class mark.LessEq = Relation
mark_class mark.GreaterEq = Relation
mark_class mark.Shl = Shift
mark_class mark.Shr = Shift
mark_class mark.Plus = Sum
mark_class mark.Minus = Sum
mark_class mark.Star = Star
mark_class mark.Slash = Slash
mark_class mark.Percent = Slash
mark_class mark.PlusPlus = Step
mark_class mark.MinusMinus = Step
mark_class mark.Tilde = Tilde
mark_class mark.Bang = Tilde

abbrev pub key_class : Key → Class
key_class key.Break = Jump
key_class key.Case = Case
key_class key.Char = Basic
key_class key.Const = Const
key_class key.Continue = Jump
key_class key.Default = Default
key_class key.Do = Do
key_class key.Else = Else
key_class key.For = For
key_class key.If = If
key_class key.Int = Basic
key_class key.Return = Return
key_class key.Signed = Sign
key_class key.Sizeof = Sizeof
key_class key.Static = Static
key_class key.Struct = Struct
key_class key.Switch = Switch
key_class key.Unsigned = Sign
key_class key.Void = Void
key_class key.While = While
key_class _ = Unused

abbrev pub kind_class : Kind → Class
kind_class (kind.Name x) = Name
kind_class (kind.Number v u) = Number
kind_class (kind.Str x) = Str
kind_class kind.Null = Null
kind_class (kind.Key k) = key_class k
kind_class (kind.Mark m) = mark_class m
kind_class kind.End = End

unfoldable pub class_of : Token → Class
class_of t = kind_class t.kind

-- the level of a binary operator, the loosest first; levels 0 to 2 are the comma, assignments and `?:`
abbrev pub level : Class → Option ℕ
level OrOr = Some 3
level AndAnd = Some 4
level Bar = Some 5
level Caret = Some 6
level Amp = Some 7
level Equality = Some 8
level Relation = Some 9
level Shift = Some 10
level Sum = Some 11
level Star = Some 12
level Slash = Some 12
level _ = None

-- an operator that stands before its operand
abbrev pub is_prefix : Class → Bool
is_prefix Amp = true
is_prefix Sum = true
is_prefix Star = true
is_prefix Tilde = true
is_prefix Step = true
is_prefix _ = false

-- an expression by itself
abbrev pub is_atom : Class → Bool
is_atom Name = true
is_atom Number = true
is_atom Str = true
is_atom Null = true
is_atom _ = false

abbrev pub is_assignment : Class → Bool
is_assignment Equals = true
is_assignment Compound = true
is_assignment _ = false

-- a word that is a type by itself
abbrev pub is_type_word : Class → Bool
is_type_word Void = true
is_type_word Basic = true
is_type_word _ = false

abbrev pub class_code : Class → ℕ
class_code Name = 0
class_code Number = 1
class_code Str = 2
class_code Null = 3
class_code LParen = 4
class_code RParen = 5
class_code LBracket = 6
class_code RBracket = 7
class_code LBrace = 8
class_code RBrace = 9
class_code Comma = 10
class_code Semi = 11
class_code Colon = 12
class_code Question = 13
class_code Dot = 14
class_code Equals = 15
class_code Compound = 16
class_code OrOr = 17
class_code AndAnd = 18
class_code Bar = 19
class_code Caret = 20
class_code Equality = 21
class_code Relation = 22
class_code Shift = 23
class_code Slash = 24
class_code Amp = 25
class_code Sum = 26
class_code Star = 27
class_code Tilde = 28
class_code Step = 29
class_code Sizeof = 30
class_code Const = 31
class_code Static = 32
class_code Struct = 33
class_code Void = 34
class_code Basic = 35
class_code Sign = 36
class_code If = 37
class_code Else = 38
class_code While = 39
class_code Do = 40
class_code For = 41
class_code Switch = 42
class_code Case = 43
class_code Default = 44
class_code Return = 45
class_code Jump = 46
class_code End = 47
class_code Unused = 48

unfoldable pub same_class : Class → Class → Bool
same_class c d = nat_eq (class_code c) (class_code d)
