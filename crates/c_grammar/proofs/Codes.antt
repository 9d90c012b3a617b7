-- Classes are told apart by their codes.
use Rattle.std.proofs.Common.{◌≡◌, ℕ, suc, zero, List, [], ◌∷◌, true, refl, sym, ap, ◌∙◌, arith}
use Rattle.std.specs.Prelude.{nat_eq, nat_le, ◌≤◌, Option, Some, None}
use Rattle.c_grammar.specs.Class.{Class, Name, Number, Str, Null, LParen, RParen, LBracket, RBracket, LBrace, RBrace, Comma, Semi, Colon, Question, Dot, Equals, Compound, OrOr, AndAnd, Bar, Caret, Equality, Relation, Shift, Slash, Amp, Sum, Star, Tilde, Step, Sizeof, Const, Static, Struct, Void, Basic, Sign, If, Else, While, Do, For, Switch, Case, Default, Return, Jump, End, Unused, class_code, same_class, level}
use Rattle.c_grammar.specs.Grammar.{Terminal, Exactly, Operator, PrefixOperator, Atomic, Assigning, TypeWord, Takes}
use Rattle.c_grammar.specs.Machine.{takes, is_level}

abbrev pub classes : List Class
classes = Name ∷ Number ∷ Str ∷ Null ∷ LParen ∷ RParen ∷ LBracket ∷ RBracket ∷ LBrace ∷ RBrace ∷ Comma ∷ Semi ∷ Colon ∷ Question ∷ Dot ∷ Equals ∷ Compound ∷ OrOr ∷ AndAnd ∷ Bar ∷ Caret ∷ Equality ∷ Relation ∷ Shift ∷ Slash ∷ Amp ∷ Sum ∷ Star ∷ Tilde ∷ Step ∷ Sizeof ∷ Const ∷ Static ∷ Struct ∷ Void ∷ Basic ∷ Sign ∷ If ∷ Else ∷ While ∷ Do ∷ For ∷ Switch ∷ Case ∷ Default ∷ Return ∷ Jump ∷ End ∷ Unused ∷ []

abbrev pub nth : List Class → ℕ → Class
nth [] n = Unused
nth (c ∷ cs) zero = c
nth (c ∷ cs) (suc n) = nth cs n

pub decoded : (c : Class) → nth classes (class_code c) ≡ c
decoded Name = refl
decoded Number = refl
decoded Str = refl
decoded Null = refl
decoded LParen = refl
decoded RParen = refl
decoded LBracket = refl
decoded RBracket = refl
decoded LBrace = refl
decoded RBrace = refl
decoded Comma = refl
decoded Semi = refl
decoded Colon = refl
decoded Question = refl
decoded Dot = refl
decoded Equals = refl
decoded Compound = refl
decoded OrOr = refl
decoded AndAnd = refl
decoded Bar = refl
decoded Caret = refl
decoded Equality = refl
decoded Relation = refl
decoded Shift = refl
decoded Slash = refl
decoded Amp = refl
decoded Sum = refl
decoded Star = refl
decoded Tilde = refl
decoded Step = refl
decoded Sizeof = refl
decoded Const = refl
decoded Static = refl
decoded Struct = refl
decoded Void = refl
decoded Basic = refl
decoded Sign = refl
decoded If = refl
decoded Else = refl
decoded While = refl
decoded Do = refl
decoded For = refl
decoded Switch = refl
decoded Case = refl
decoded Default = refl
decoded Return = refl
decoded Jump = refl
decoded End = refl
decoded Unused = refl

pub eq_of : (a b : ℕ) → nat_eq a b ≡ true → a ≡ b
eq_of a b h = grind (arith, h)

pub eq_to : (a b : ℕ) → a ≡ b → nat_eq a b ≡ true
eq_to a b h = grind (arith, h)

pub le_of : (a b : ℕ) → nat_le a b ≡ true → a ≤ b
le_of a b h = grind (arith, h)

pub le_to : (a b : ℕ) → a ≤ b → nat_le a b ≡ true
le_to a b h = grind (arith, h)

pub same_of : (c d : Class) → same_class c d ≡ true → c ≡ d
unfolding same_class
same_of c d h = sym (decoded c) ∙ ap (nth classes) (eq_of (class_code c) (class_code d) h) ∙ decoded d

pub same_self : (c : Class) → same_class c c ≡ true
unfolding same_class
same_self c = eq_to (class_code c) (class_code c) refl

level_of : (n : ℕ) (o : Option ℕ) → is_level n o ≡ true → o ≡ Some n
level_of n None h = cc (h)
level_of n (Some m) h = ap Some (eq_of m n h)

pub takes_sound : (k : Terminal) (c : Class) → takes k c ≡ true → Takes k c
takes_sound (Exactly d) c h = same_of c d h
takes_sound (Operator n) c h = level_of n (level c) h
takes_sound PrefixOperator c h = h
takes_sound Atomic c h = h
takes_sound Assigning c h = h
takes_sound TypeWord c h = h

level_is : (n : ℕ) (o : Option ℕ) → o ≡ Some n → is_level n o ≡ true
level_is n o h = ap (is_level n) h ∙ eq_to n n refl

pub takes_complete : (k : Terminal) (c : Class) → Takes k c → takes k c ≡ true
takes_complete (Exactly d) c h = ap (λ z. same_class z d) h ∙ same_self d
takes_complete (Operator n) c h = level_is n (level c) h
takes_complete PrefixOperator c h = h
takes_complete Atomic c h = h
takes_complete Assigning c h = h
takes_complete TypeWord c h = h
