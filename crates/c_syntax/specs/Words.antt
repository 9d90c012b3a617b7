-- The keywords and the marks of C.
use Rattle.std.specs.Prelude.{ℕ, Bool, ◌&&◌, nat_lt, List, [], ◌∷◌, Option, codes}
use Rattle.std.specs.Str.{bytes_eq}
use Rattle.std.specs.Map.{lookup}
use Rattle.c_syntax.specs.declared.token.Key.{Key}
use Rattle.c_syntax.specs.declared.token.Key.TheVariants as key
use Rattle.c_syntax.specs.declared.token.Mark.{Mark}
use Rattle.c_syntax.specs.declared.token.Mark.TheVariants as mark

-- what a table has at a word
abbrev pub meaning : {X : Type 0} → List (List ℕ × X) → List ℕ → Option X
meaning table word = lookup (λ entry. bytes_eq word entry) table

abbrev pub keywords : List (List ℕ × Key)
keywords =
    (codes "auto", key.Auto) ∷ (codes "break", key.Break) ∷ (codes "case", key.Case) ∷ (codes "char", key.Char) ∷ (codes "const", key.Const) ∷ (codes "continue", key.Continue)
    ∷ (codes "default", key.Default) ∷ (codes "do", key.Do) ∷ (codes "double", key.Double) ∷ (codes "else", key.Else) ∷ (codes "enum", key.Enum) ∷ (codes "extern", key.Extern)
    ∷ (codes "float", key.Float) ∷ (codes "for", key.For) ∷ (codes "goto", key.Goto) ∷ (codes "if", key.If) ∷ (codes "inline", key.Inline) ∷ (codes "int", key.Int)
    ∷ (codes "long", key.Long) ∷ (codes "register", key.Register) ∷ (codes "restrict", key.Restrict) ∷ (codes "return", key.Return) ∷ (codes "short", key.Short)
    ∷ (codes "signed", key.Signed) ∷ (codes "sizeof", key.Sizeof) ∷ (codes "static", key.Static) ∷ (codes "struct", key.Struct) ∷ (codes "switch", key.Switch)
    ∷ (codes "typedef", key.Typedef) ∷ (codes "union", key.Union) ∷ (codes "unsigned", key.Unsigned) ∷ (codes "void", key.Void) ∷ (codes "volatile", key.Volatile)
    ∷ (codes "while", key.While) ∷ (codes "_Alignas", key.Alignas) ∷ (codes "_Alignof", key.Alignof) ∷ (codes "_Atomic", key.Atomic) ∷ (codes "_Bool", key.Bool)
    ∷ (codes "_Complex", key.Complex) ∷ (codes "_Generic", key.Generic) ∷ (codes "_Imaginary", key.Imaginary) ∷ (codes "_Noreturn", key.Noreturn)
    ∷ (codes "_Static_assert", key.StaticAssert) ∷ (codes "_Thread_local", key.ThreadLocal) ∷ []

abbrev pub marks : List (List ℕ × Mark)
marks =
    (codes "(", mark.LParen) ∷ (codes ")", mark.RParen) ∷ (codes "[", mark.LBracket) ∷ (codes "]", mark.RBracket) ∷ (codes "{", mark.LBrace) ∷ (codes "}", mark.RBrace)
    ∷ (codes ",", mark.Comma) ∷ (codes ";", mark.Semi) ∷ (codes ":", mark.Colon) ∷ (codes "?", mark.Question) ∷ (codes ".", mark.Dot) ∷ (codes "->", mark.Arrow)
    ∷ (codes "=", mark.Assign) ∷ (codes "+=", mark.PlusAssign) ∷ (codes "-=", mark.MinusAssign) ∷ (codes "*=", mark.StarAssign) ∷ (codes "/=", mark.SlashAssign)
    ∷ (codes "%=", mark.PercentAssign) ∷ (codes "&=", mark.AmpAssign) ∷ (codes "|=", mark.BarAssign) ∷ (codes "^=", mark.CaretAssign) ∷ (codes "<<=", mark.ShlAssign)
    ∷ (codes ">>=", mark.ShrAssign) ∷ (codes "||", mark.OrOr) ∷ (codes "&&", mark.AndAnd) ∷ (codes "|", mark.Bar) ∷ (codes "^", mark.Caret) ∷ (codes "&", mark.Amp)
    ∷ (codes "==", mark.EqEq) ∷ (codes "!=", mark.NotEq) ∷ (codes "<", mark.Less) ∷ (codes ">", mark.Greater) ∷ (codes "<=", mark.LessEq) ∷ (codes ">=", mark.GreaterEq)
    ∷ (codes "<<", mark.Shl) ∷ (codes ">>", mark.Shr) ∷ (codes "+", mark.Plus) ∷ (codes "-", mark.Minus) ∷ (codes "*", mark.Star) ∷ (codes "/", mark.Slash)
    ∷ (codes "%", mark.Percent) ∷ (codes "++", mark.PlusPlus) ∷ (codes "--", mark.MinusMinus) ∷ (codes "~", mark.Tilde) ∷ (codes "!", mark.Bang) ∷ []

-- a length that most keywords have
abbrev pub is_usual : ℕ → Bool
is_usual n = nat_lt 1 n && nat_lt n 9

unfoldable pub key_of : List ℕ → Option Key
key_of word = meaning keywords word

unfoldable pub mark_of : List ℕ → Option Mark
mark_of word = meaning marks word
