-- The productions that begin with a token or a part have room, and what a production makes is what accepts it.
use Rattle.std.proofs.Common.{◌≡◌, ℕ, Bool, true, false, Option, Some, None, refl, sym, ap, ◌∙◌, subst, lit<}
use Rattle.std.specs.Prelude.{IsTrue, nat_le}
use Rattle.c_grammar.specs.Class.{same_class, level}
use Rattle.c_grammar.specs.declared.names.Class.{Class}
use Rattle.c_grammar.specs.declared.names.Class.TheVariants as class
use Rattle.c_grammar.specs.declared.names.Piece.{Piece}
use Rattle.c_grammar.specs.declared.names.Part.{Part}
use Rattle.c_grammar.specs.declared.names.Part.TheVariants.{Only, Expr, Inside, CallEnd, ParamsEnd, CastHead, IfHead, Spec, Core, BareName, ParamTail, MemberDecl, Value, Values, ValuesComma, ValuesEnd, Statement, BlockItem, SwitchPart, ForFirst, FunctionEnd, External, Declared, ExternalRest, DeclaredRest}
use Rattle.c_grammar.specs.declared.names.Production.{Production}
use Rattle.c_grammar.specs.declared.names.Production.TheVariants.{Cast, NoArguments, PieceP, NoParams, FirstValue, Empty, Block, StaticExternal, Parens, ConstSpec, WordSpec, SignSpec, StructSpec, ValueComma, NextValue}
use Rattle.c_grammar.specs.declared.names.Category.{Category}
use Rattle.c_grammar.specs.declared.names.Category.TheVariants.{Level, BracketedType, SpecC, CoreC, ValuesC, ValuesCommaC, IfC}
use Rattle.c_grammar.specs.Grammar.{HasRoom}
use Rattle.c_grammar.specs.Machine.{or_else, chosen, on_class, piece_class, opening, expr_opening, spec_opening, statement_opening, label_opening, core_opening, rest_opening, tail_opening, Extension, extension, extended, if_so, floor, expr_ending, expr_announced, cast_announced, spec_announced, core_ending, core_announced, values_announced, else_announced, announced}
use Rattle.c_grammar.specs.Spelling.{accepts, and}
use Rattle.c_grammar.specs.Values as values
use Rattle.c_grammar.specs.Values.{ValueList, nil, cons, brackets_of, type_or_expression, category_of}
use Rattle.c_held.specs.View.{made_of}
use Rattle.c_held.specs.Shape.{Becomes, AreWords, MeetsPart}
use Rattle.c_held.specs.declared.value.Made.{Made}
use Rattle.c_held.specs.declared.value.Meaning.{Meaning}
use Rattle.c_progress.specs.Progress.{IsFit}

abbrev pub HaveRoom : Option Production → Type 0
HaveRoom None = Unit {0}
HaveRoom (Some p) = HasRoom p

or_room : (a b : Option Production) → HaveRoom a → HaveRoom b → HaveRoom (or_else a b)
or_room None b h g = g
or_room (Some p) b h g = h

chosen_room : (b : Bool) (p : Production) → HasRoom p → HaveRoom (chosen b p)
chosen_room true p h = h
chosen_room false p h = tt

if_room : (b : Bool) (p : Option Production) → HaveRoom p → HaveRoom (if_so b p)
if_room true p h = h
if_room false p h = tt

expr_room : (c : Class) → HaveRoom (expr_opening c)
expr_room class.Name = tt
expr_room _ = tt

spec_room : (e : Bool) (c : Class) → HaveRoom (spec_opening e c)
spec_room e class.Const = tt
spec_room e _ = tt

statement_room : (c : Class) → HaveRoom (statement_opening c)
statement_room class.LBrace = tt
statement_room _ = tt

label_room : (c : Class) → HaveRoom (label_opening c)
label_room class.Case = tt
label_room _ = tt

core_room : (o : Bool) (c : Class) → HaveRoom (core_opening o c)
core_room o class.Name = tt
core_room o _ = tt

rest_room : (c : Class) → HaveRoom (rest_opening c)
rest_room class.Star = tt
rest_room _ = tt

tail_room : (c : Class) → HaveRoom (tail_opening c)
tail_room class.Name = tt
tail_room _ = tt

on_room : (d : Class) (p : Production) (c : Class) → HasRoom p → HaveRoom (on_class d p c)
on_room d p c h = chosen_room (same_class c d) p h

opening_room : (n : Part) (c : Class) → HaveRoom (opening n c)
unfolding opening
opening_room (Expr n) c = expr_room c
opening_room (Only k) c = on_room (piece_class k) (PieceP k) c tt
opening_room IfHead c = tt
opening_room Inside c = or_room (spec_opening false c) (expr_opening c) (spec_room false c) (expr_room c)
opening_room CallEnd c = or_room (on_class class.RParen NoArguments c) (expr_opening c) (on_room class.RParen NoArguments c tt) (expr_room c)
opening_room ParamsEnd c = or_room (on_class class.RParen NoParams c) (spec_opening false c) (on_room class.RParen NoParams c tt) (spec_room false c)
opening_room CastHead c = tt
opening_room (Spec e) c = spec_room e c
opening_room (Core o) c = core_room o c
opening_room BareName c = tt
opening_room ParamTail c = tail_room c
opening_room MemberDecl c = spec_room false c
opening_room Value c = or_room (on_class class.LBrace FirstValue c) (expr_opening c) (on_room class.LBrace FirstValue c tt) (expr_room c)
opening_room Values c = tt
opening_room ValuesComma c = tt
opening_room ValuesEnd c = tt
opening_room Statement c = statement_room c
opening_room BlockItem c = or_room (spec_opening false c) (statement_opening c) (spec_room false c) (statement_room c)
opening_room SwitchPart c = or_room (label_opening c) (or_else (spec_opening false c) (statement_opening c)) (label_room c) (or_room (spec_opening false c) (statement_opening c) (spec_room false c) (statement_room c))
opening_room ForFirst c = or_room (on_class class.Semi Empty c) (or_else (spec_opening false c) (expr_opening c)) (on_room class.Semi Empty c tt) (or_room (spec_opening false c) (expr_opening c) (spec_room false c) (expr_room c))
opening_room FunctionEnd c = or_room (on_class class.Semi Empty c) (on_class class.LBrace Block c) (on_room class.Semi Empty c tt) (on_room class.LBrace Block c tt)
opening_room External c = or_room (on_class class.Static StaticExternal c) (spec_opening true c) (on_room class.Static StaticExternal c tt) (spec_room true c)
opening_room Declared c = spec_room true c
opening_room ExternalRest c = or_room (on_class class.Semi Empty c) (rest_opening c) (on_room class.Semi Empty c tt) (rest_room c)
opening_room DeclaredRest c = rest_room c

-- what an opening answers has room
pub opened_room : (n : Part) (c : Class) (p : Production) → Some p ≡ opening n c → HasRoom p
opened_room n c p e = subst HaveRoom (sym e) (opening_room n c)

abbrev RoomOf : Option Extension → Type 0
RoomOf None = Unit {0}
RoomOf (Some e) = HasRoom e.production

extension_room : (c : Class) → RoomOf (extension c)
extension_room class.OrOr = lit< tt
extension_room class.AndAnd = lit< tt
extension_room class.Bar = lit< tt
extension_room class.Caret = lit< tt
extension_room class.Amp = lit< tt
extension_room class.Equality = lit< tt
extension_room class.Relation = lit< tt
extension_room class.Shift = lit< tt
extension_room class.Sum = lit< tt
extension_room class.Star = lit< tt
extension_room class.Slash = lit< tt
extension_room _ = tt

extended_room : (n k : ℕ) (e : Option Extension) → RoomOf e → HaveRoom (extended n k e)
extended_room n k None h = tt
extended_room n k (Some e) h = if_room _ (Some e.production) h

ending_room : (n : Part) → HaveRoom (expr_ending n)
ending_room Inside = tt
ending_room _ = tt

expr_announced_room : (f : Option ℕ) (k : ℕ) (n : Part) (c : Class) → HaveRoom (expr_announced f k n c)
expr_announced_room None k n c = tt
expr_announced_room (Some m) k n c = or_room (extended m k (extension c)) (expr_ending n) (extended_room m k (extension c) (extension_room c)) (ending_room n)

cast_room : (f : Option ℕ) → HaveRoom (cast_announced f)
cast_room None = tt
cast_room (Some m) = if_room (nat_le m 13) (Some Cast) tt

spec_announced_room : (e : Bool) (n : Part) → HaveRoom (spec_announced e n)
spec_announced_room false Inside = tt
spec_announced_room false _ = tt
spec_announced_room true External = tt
spec_announced_room true _ = tt

core_ending_room : (bare : Bool) (c : Class) → HaveRoom (core_ending bare c)
core_ending_room true class.LParen = tt
core_ending_room true _ = tt
core_ending_room false class.LParen = tt
core_ending_room false _ = tt

core_announced_room : (bare : Bool) (n : Part) (c : Class) → HaveRoom (core_announced bare n c)
core_announced_room bare ExternalRest c = core_ending_room bare c
core_announced_room bare DeclaredRest c = core_ending_room bare c
core_announced_room bare _ c = tt

values_room : (q : Production) → HasRoom q → (n : Part) (c : Class) → HaveRoom (values_announced q n c)
values_room q h Value class.RBrace = tt
values_room q h Value _ = h
values_room q h _ c = tt

else_room : (n : Part) (c : Class) → HaveRoom (else_announced n c)
else_room Statement class.Else = tt
else_room Statement _ = tt
else_room BlockItem class.Else = tt
else_room BlockItem _ = tt
else_room SwitchPart class.Else = tt
else_room SwitchPart _ = tt
else_room _ c = tt

announced_room : (a : Category) (n : Part) (c : Class) → HaveRoom (announced a n c)
unfolding announced
announced_room (Level k) n c = expr_announced_room (floor n) k n c
announced_room BracketedType n c = cast_room (floor n)
announced_room (SpecC e) n c = spec_announced_room e n
announced_room (CoreC o bare) n c = core_announced_room bare n c
announced_room ValuesC n c = values_room ValueComma tt n c
announced_room ValuesCommaC n c = values_room NextValue tt n c
announced_room (IfC o) n c = else_room n c
announced_room _ n c = tt

-- and what a part announces
pub announced_has_room : (a : Category) (n : Part) (c : Class) (p : Production) → Some p ≡ announced a n c → HasRoom p
announced_has_room a n c p e = subst HaveRoom (sym e) (announced_room a n c)

-- brackets are no words of a type
no_type : (b e : Bool) → accepts (type_or_expression b) (Spec e) ≡ true → ⊥
no_type true e h = cc (h)
no_type false e h = cc (h)

no_brackets : (vs : ValueList) (e : Bool) → accepts (brackets_of vs) (Spec e) ≡ true → ⊥
no_brackets nil e h = cc (h)
no_brackets (cons o nil) e h = cc (h)
no_brackets (cons o (cons (values.Token' t) vs)) e h = cc (h)
no_brackets (cons o (cons (values.Made f m) vs)) e h = no_type f.type_inside e h
no_brackets (cons o (cons (values.Values ws) vs)) e h = cc (h)

words_fit : (p : Production) (vs : ValueList) (m : Meaning) (e : Bool) → Becomes p m → accepts (category_of p vs) (Spec e) ≡ true → AreWords m
words_fit (ConstSpec x) vs m e b h = b
words_fit (WordSpec x) vs m e b h = b
words_fit (SignSpec x) vs m e b h = b
words_fit (StructSpec x) vs m e b h = b
words_fit Parens vs m e b h = absurd (no_brackets vs e h)
words_fit _ vs m e b h = absurd (cc (h))

part_fits : (p : Production) (vs : ValueList) (m : Meaning) → Becomes p m → (n : Part) → IsTrue (accepts (category_of p vs) n) → MeetsPart n m
part_fits p vs m b (Spec e) h = words_fit p vs m e b h
part_fits p vs m b _ h = tt

category_in : values.Value → Category
category_in (values.Made f m) = f.category
category_in (values.Token' t) = Level 0
category_in (values.Values vs) = Level 0

pub made_category : (p : Production) (vs : ValueList) (m : Made) → made_of m ≡ values.made p vs → m.facts.category ≡ category_of p vs
unfolding category_in
made_category p vs m e = ap category_in e

pub made_fits : (p : Production) (vs : ValueList) (m : Made) → made_of m ≡ values.made p vs → Becomes p m.meaning → IsFit m
made_fits p vs m e b n h = part_fits p vs m.meaning b n (subst (λ c. IsTrue (accepts c n)) (made_category p vs m e) h)
