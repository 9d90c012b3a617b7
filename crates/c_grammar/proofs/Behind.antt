-- Behind the part that it begins with, each production is the one that the machine chooses.
use Rattle.std.proofs.Common.{◌≡◌, ℕ, suc, List, ◌∷◌, Option, Some, None, Bool, true, false, refl, sym, ap, ◌∙◌, subst, arith, inl, inr}
use Rattle.std.specs.Prelude.{nat_le, nat_eq}
use Rattle.c_grammar.specs.Class as class
use Rattle.c_grammar.specs.Class.{Class, class_of, class_code, level, same_class, is_atom, is_prefix, is_assignment, is_type_word}
use Rattle.c_grammar.specs.Grammar.{piece_rhs, Piece, NextArgument, FunctionPart, Pointer, Qualifier, SecondWord, Members, NextMember, AnyLength, FullLength, NextParam, ParamLengths, NamePart, Initial, NextInit, Part, Only, Expr, Inside, CallEnd, ParamsEnd, CastHead, IfHead, Spec, Core, BareName, MemberDecl, Value, Values, ValuesComma, ValuesEnd, Statement, BlockItem, SwitchPart, ForFirst, External, Declared, ExternalRest, DeclaredRest, Symbol, One, Production, ExprInside, TypeInside, Prefix, SizeOf, Suffix, Member, Index, Call, Arguments, Assign, Cond, CommaExpr, Cast, Binary, PieceP, ConstSpec, WordSpec, SignSpec, StructSpec, MemberP, NameCore, Params, ParamName, Declaration, FirstValue, ValueComma, NextValue, Braces, ExprStatement, If, IfElse, While, For, DeclaredP, Function, Objects, rhs}
use Rattle.c_grammar.specs.Spelling.{Spelling, Leaf, Node, Row, Spellings, Nil, Cons, Category, Level, BracketedType, InsideC, CallEndC, ParamsEndC, SpecC, CoreC, PieceC, ParamTailC, MemberC, BracesC, ValuesC, ValuesCommaC, IfC, StatementC, EmptyC, ExprStatementC, BlockC, DeclarationC, LabelC, UnitC, StaticC, DeclaredC, RestC, category, brackets_category, accepts, piece_code, takes_level, takes_type, takes_spec, takes_core, takes_piece, takes_if, takes_values, takes_rest, is_statement, is_param_tail, has_no_length, last_open}
use Rattle.c_grammar.specs.Spelling as spelling
use Rattle.c_grammar.specs.Machine.{is_level, or_else, opening, Extension, binary_extension, extension, if_so, extended, expr_ending, floor, expr_announced, cast_announced, core_ending, core_announced, values_announced, else_announced, announced}
use Rattle.c_grammar.proofs.Codes.{le_of, eq_of, eq_to, same_of}
use Rattle.c_grammar.proofs.Examples.{small_part}
use Rattle.c_grammar.proofs.Useful.{rest_of}
use Rattle.c_grammar.proofs.Follow.{or, neg, implies, implied, every, has, not_reached, ends, after, may, trans_le, ends_after}
use Rattle.c_grammar.proofs.Choices.{false_true, Under, floor_of, same_le}
use Rattle.std.proofs.lemmas.Bool.{false≢true}

abbrev pub AcceptsFirst : List Symbol → Category → Type 0
AcceptsFirst (One m ∷ ss) k = accepts k m ≡ true
AcceptsFirst _ k = ⊥

record IsLevel (j : ℕ) (c : Category) : Type 0 where
  k : ℕ
  is : c ≡ Level k
  le : nat_le j k ≡ true

expr_first : (j : ℕ) (c : Category) → nat_eq j 14 ≡ false → accepts c (Expr j) ≡ true → IsLevel j c
expr_first j (Level k) h a = record { k = k; is = refl; le = a }
expr_first j BracketedType h a = absurd (false_true (sym h ∙ a))
expr_first j _ h a = absurd (false≢true a)

spec_first : (f : Bool) (c : Category) → accepts c (Spec f) ≡ true → c ≡ SpecC f
spec_first true (SpecC true) a = refl
spec_first false (SpecC false) a = refl
spec_first true (SpecC false) a = absurd (false≢true a)
spec_first false (SpecC true) a = absurd (false≢true a)
spec_first true _ a = absurd (false≢true a)
spec_first false _ a = absurd (false≢true a)

-- an operator behind an operand
ext_announced : (i k : ℕ) (n : Part) (v : Class) (e : Extension) → floor n ≡ Some i → extension v ≡ Some e → nat_le i e.level ≡ true → nat_le e.operand k ≡ true → expr_announced (floor n) k n v ≡ Some e.production
ext_announced i k n v e fl ex h g =
    ap (λ o. expr_announced o k n v) fl ∙ ap (λ o. or_else (extended i k o) (expr_ending n)) ex ∙ ap (λ b. or_else (if_so (spelling.and b (nat_le e.operand k)) (Some e.production)) (expr_ending n)) h ∙ ap (λ b. or_else (if_so b (Some e.production)) (expr_ending n)) g

operator_announced : (l : ℕ) (m n : Part) → takes_level l m ≡ true → Under m n → (e : Extension) → nat_le l e.level ≡ true → (c : Category) → nat_eq e.operand 14 ≡ false → accepts c (Expr e.operand) ≡ true → (v : Class) → extension v ≡ Some e → announced c n v ≡ Some e.production
unfolding announced
operator_announced l m n a u e h c d b v ex =
    let f = floor_of l m n a u in
    let r = expr_first e.operand c d b in
    ap (λ z. announced z n v) r.is ∙ ext_announced f.i r.k n v e f.is ex (trans_le f.i l e.level f.le h) r.le

abbrev ext : ℕ → ℕ → Production → Extension
ext l o p = record { level = l; operand = o; production = p }

level_is : (l : ℕ) (o : Option ℕ) → is_level l o ≡ true → o ≡ Some l
level_is l None h = absurd (false≢true h)
level_is l (Some j) h = ap Some (eq_of j l h)

pub some_number : (a b : ℕ) → Some a ≡ Some b → a ≡ b
some_number a b h = cc (h)

binary_class : (v : Class) (l : ℕ) → level v ≡ Some l → extension v ≡ Some (ext l l (Binary l))
binary_class class.OrOr l h = ap binary_extension h
binary_class class.AndAnd l h = ap binary_extension h
binary_class class.Bar l h = ap binary_extension h
binary_class class.Caret l h = ap binary_extension h
binary_class class.Amp l h = ap binary_extension h
binary_class class.Equality l h = ap binary_extension h
binary_class class.Relation l h = ap binary_extension h
binary_class class.Shift l h = ap binary_extension h
binary_class class.Sum l h = ap binary_extension h
binary_class class.Star l h = ap binary_extension h
binary_class class.Slash l h = ap binary_extension h
binary_class _ l h = cc (h)

level_low : (v : Class) (l : ℕ) → level v ≡ Some l → nat_eq l 14 ≡ false
level_low class.OrOr l h = ap (λ z. nat_eq z 14) (sym (some_number 3 l h))
level_low class.AndAnd l h = ap (λ z. nat_eq z 14) (sym (some_number 4 l h))
level_low class.Bar l h = ap (λ z. nat_eq z 14) (sym (some_number 5 l h))
level_low class.Caret l h = ap (λ z. nat_eq z 14) (sym (some_number 6 l h))
level_low class.Amp l h = ap (λ z. nat_eq z 14) (sym (some_number 7 l h))
level_low class.Equality l h = ap (λ z. nat_eq z 14) (sym (some_number 8 l h))
level_low class.Relation l h = ap (λ z. nat_eq z 14) (sym (some_number 9 l h))
level_low class.Shift l h = ap (λ z. nat_eq z 14) (sym (some_number 10 l h))
level_low class.Sum l h = ap (λ z. nat_eq z 14) (sym (some_number 11 l h))
level_low class.Star l h = ap (λ z. nat_eq z 14) (sym (some_number 12 l h))
level_low class.Slash l h = ap (λ z. nat_eq z 14) (sym (some_number 12 l h))
level_low _ l h = cc (h)

assign_class : (v : Class) → is_assignment v ≡ true → extension v ≡ Some (ext 1 2 Assign)
assign_class class.Equals h = refl
assign_class class.Compound h = refl
assign_class _ h = absurd (false≢true h)

class_is : (v d : Class) → same_class v d ≡ true → (o : Option Extension) → extension d ≡ o → extension v ≡ o
class_is v d h o e = ap extension (same_of v d h) ∙ e

-- an expression that ends a part
inside_announced : (m n : Part) → accepts InsideC m ≡ true → Under m n → (c : Category) → accepts c (Expr 0) ≡ true → (v : Class) → same_class v class.RParen ≡ true → announced c n v ≡ Some ExprInside
unfolding announced opening same_class
inside_announced Inside n a (inr b) c d v h = absurd b
inside_announced Inside n a (inl e) c d class.RParen h = let P : Part → Type 0 = λ z. announced c z class.RParen ≡ Some ExprInside in let r = expr_first 0 c refl d in subst P e.0 (ap (λ z. announced z Inside class.RParen) r.is)
inside_announced Inside n a (inl e) c d _ h = absurd (false≢true h)
inside_announced _ n a u c d v h = absurd (false≢true a)

arguments_announced : (m n : Part) → accepts CallEndC m ≡ true → Under m n → (c : Category) → accepts c (Expr 1) ≡ true → (v : Class) → or (has (opening (Only NextArgument) v)) (same_class v class.RParen) ≡ true → announced c n v ≡ Some Arguments
unfolding announced opening same_class
arguments_announced CallEnd n a (inr b) c d v h = absurd b
arguments_announced CallEnd n a (inl e) c d class.Comma h = let P : Part → Type 0 = λ z. announced c z class.Comma ≡ Some Arguments in let r = expr_first 1 c refl d in subst P e.0 (ap (λ z. announced z CallEnd class.Comma) r.is)
arguments_announced CallEnd n a (inl e) c d class.RParen h = let P : Part → Type 0 = λ z. announced c z class.RParen ≡ Some Arguments in let r = expr_first 1 c refl d in subst P e.0 (ap (λ z. announced z CallEnd class.RParen) r.is)
arguments_announced CallEnd n a (inl e) c d _ h = absurd (false≢true h)
arguments_announced _ n a u c d v h = absurd (false≢true a)

statement_announced : (m n : Part) → accepts ExprStatementC m ≡ true → Under m n → (c : Category) → accepts c (Expr 0) ≡ true → (v : Class) → same_class v class.Semi ≡ true → announced c n v ≡ Some ExprStatement
unfolding announced opening same_class
statement_announced Statement n a (inr b) c d v h = absurd b
statement_announced Statement n a (inl e) c d class.Semi h = let P : Part → Type 0 = λ z. announced c z class.Semi ≡ Some ExprStatement in let r = expr_first 0 c refl d in subst P e.0 (ap (λ z. announced z Statement class.Semi) r.is)
statement_announced Statement n a (inl e) c d _ h = absurd (false≢true h)
statement_announced BlockItem n a (inr b) c d v h = absurd b
statement_announced BlockItem n a (inl e) c d class.Semi h = let P : Part → Type 0 = λ z. announced c z class.Semi ≡ Some ExprStatement in let r = expr_first 0 c refl d in subst P e.0 (ap (λ z. announced z BlockItem class.Semi) r.is)
statement_announced BlockItem n a (inl e) c d _ h = absurd (false≢true h)
statement_announced SwitchPart n a (inr b) c d v h = absurd b
statement_announced SwitchPart n a (inl e) c d class.Semi h = let P : Part → Type 0 = λ z. announced c z class.Semi ≡ Some ExprStatement in let r = expr_first 0 c refl d in subst P e.0 (ap (λ z. announced z SwitchPart class.Semi) r.is)
statement_announced SwitchPart n a (inl e) c d _ h = absurd (false≢true h)
statement_announced ForFirst n a (inr b) c d v h = absurd b
statement_announced ForFirst n a (inl e) c d class.Semi h = let P : Part → Type 0 = λ z. announced c z class.Semi ≡ Some ExprStatement in let r = expr_first 0 c refl d in subst P e.0 (ap (λ z. announced z ForFirst class.Semi) r.is)
statement_announced ForFirst n a (inl e) c d _ h = absurd (false≢true h)
statement_announced _ n a u c d v h = absurd (false≢true a)

type_announced : (m n : Part) → accepts InsideC m ≡ true → Under m n → (c : Category) → accepts c (Spec false) ≡ true → (v : Class) → announced c n v ≡ Some TypeInside
unfolding announced
type_announced Inside n a (inl e) c d v = let P : Part → Type 0 = λ z. announced c z v ≡ Some TypeInside in subst P e.0 (ap (λ z. announced z Inside v) (spec_first false c d))
type_announced Inside n a (inr b) c d v = absurd b
type_announced _ n a u c d v = absurd (false≢true a)

params_announced : (m n : Part) → accepts ParamsEndC m ≡ true → Under m n → (c : Category) → accepts c (Spec false) ≡ true → (v : Class) → announced c n v ≡ Some Params
unfolding announced
params_announced ParamsEnd n a (inl e) c d v = let P : Part → Type 0 = λ z. announced c z v ≡ Some Params in subst P e.0 (ap (λ z. announced z ParamsEnd v) (spec_first false c d))
params_announced ParamsEnd n a (inr b) c d v = absurd b
params_announced _ n a u c d v = absurd (false≢true a)

member_announced : (m n : Part) → accepts MemberC m ≡ true → Under m n → (c : Category) → accepts c (Spec false) ≡ true → (v : Class) → announced c n v ≡ Some MemberP
unfolding announced
member_announced MemberDecl n a (inl e) c d v = let P : Part → Type 0 = λ z. announced c z v ≡ Some MemberP in subst P e.0 (ap (λ z. announced z MemberDecl v) (spec_first false c d))
member_announced MemberDecl n a (inr b) c d v = absurd b
member_announced _ n a u c d v = absurd (false≢true a)

declaration_announced : (m n : Part) → accepts DeclarationC m ≡ true → Under m n → (c : Category) → accepts c (Spec false) ≡ true → (v : Class) → announced c n v ≡ Some Declaration
unfolding announced
declaration_announced BlockItem n a (inl e) c d v = let P : Part → Type 0 = λ z. announced c z v ≡ Some Declaration in subst P e.0 (ap (λ z. announced z BlockItem v) (spec_first false c d))
declaration_announced BlockItem n a (inr b) c d v = absurd b
declaration_announced SwitchPart n a (inl e) c d v = let P : Part → Type 0 = λ z. announced c z v ≡ Some Declaration in subst P e.0 (ap (λ z. announced z SwitchPart v) (spec_first false c d))
declaration_announced SwitchPart n a (inr b) c d v = absurd b
declaration_announced ForFirst n a (inl e) c d v = let P : Part → Type 0 = λ z. announced c z v ≡ Some Declaration in subst P e.0 (ap (λ z. announced z ForFirst v) (spec_first false c d))
declaration_announced ForFirst n a (inr b) c d v = absurd b
declaration_announced _ n a u c d v = absurd (false≢true a)

declared_announced : (m n : Part) → accepts DeclaredC m ≡ true → Under m n → (c : Category) → accepts c (Spec true) ≡ true → (v : Class) → announced c n v ≡ Some DeclaredP
unfolding announced
declared_announced External n a (inl e) c d v = let P : Part → Type 0 = λ z. announced c z v ≡ Some DeclaredP in subst P e.0 (ap (λ z. announced z External v) (spec_first true c d))
declared_announced External n a (inr b) c d v = absurd b
declared_announced Declared n a (inl e) c d v = let P : Part → Type 0 = λ z. announced c z v ≡ Some DeclaredP in subst P e.0 (ap (λ z. announced z Declared v) (spec_first true c d))
declared_announced Declared n a (inr b) c d v = absurd b
declared_announced _ n a u c d v = absurd (false≢true a)

-- a type in brackets begins a cast
type_first : (c : Category) → accepts c CastHead ≡ true → c ≡ BracketedType
type_first BracketedType a = refl
type_first _ a = absurd (false≢true a)

cast_announced_at : (m n : Part) → takes_level 13 m ≡ true → Under m n → (c : Category) → accepts c CastHead ≡ true → (v : Class) → announced c n v ≡ Some Cast
unfolding announced
cast_announced_at m n a u c d v =
    let f = floor_of 13 m n a u in
    ap (λ z. announced z n v) (type_first c d) ∙ ap cast_announced f.is ∙ ap (λ b. if_so b (Some Cast)) f.le

-- values
values_first : (c : Category) → accepts c Values ≡ true → c ≡ ValuesC
values_first ValuesC a = refl
values_first _ a = absurd (false≢true a)

comma_first : (c : Category) → accepts c ValuesComma ≡ true → c ≡ ValuesCommaC
comma_first ValuesCommaC a = refl
comma_first _ a = absurd (false≢true a)

value_comma_announced : (m n : Part) → accepts ValuesCommaC m ≡ true → Under m n → (c : Category) → accepts c Values ≡ true → (v : Class) → v ≡ class.Comma → announced c n v ≡ Some ValueComma
unfolding announced
value_comma_announced ValuesComma n a (inl e) c d v s = absurd (false_true (ap small_part e.0 ∙ e.1))
value_comma_announced ValuesComma n a (inr b) c d v s = ap (λ z. announced z n v) (values_first c d) ∙ ap (λ z. values_announced ValueComma z v) b ∙ ap (values_announced ValueComma Value) s
value_comma_announced ValuesEnd n a (inl e) c d v s = absurd (false_true (ap small_part e.0 ∙ e.1))
value_comma_announced ValuesEnd n a (inr b) c d v s = ap (λ z. announced z n v) (values_first c d) ∙ ap (λ z. values_announced ValueComma z v) b ∙ ap (values_announced ValueComma Value) s
value_comma_announced _ n a u c d v s = absurd (false≢true a)

next_class : (v : Class) → has (opening Value v) ≡ true → values_announced NextValue Value v ≡ Some NextValue
unfolding opening same_class
next_class class.RBrace h = absurd (false≢true h)
next_class _ h = refl

next_value_announced : (m n : Part) → accepts ValuesC m ≡ true → Under m n → (c : Category) → accepts c ValuesComma ≡ true → (v : Class) → has (opening Value v) ≡ true → announced c n v ≡ Some NextValue
unfolding announced
next_value_announced Values n a (inl e) c d v s = absurd (false_true (ap small_part e.0 ∙ e.1))
next_value_announced Values n a (inr b) c d v s = ap (λ z. announced z n v) (comma_first c d) ∙ ap (λ z. values_announced NextValue z v) b ∙ next_class v s
next_value_announced ValuesEnd n a (inl e) c d v s = absurd (false_true (ap small_part e.0 ∙ e.1))
next_value_announced ValuesEnd n a (inr b) c d v s = ap (λ z. announced z n v) (comma_first c d) ∙ ap (λ z. values_announced NextValue z v) b ∙ next_class v s
next_value_announced _ n a u c d v s = absurd (false≢true a)

braces_of : (c : Category) → accepts c ValuesEnd ≡ true → announced c Value class.RBrace ≡ Some Braces
unfolding announced
braces_of ValuesC a = refl
braces_of ValuesCommaC a = refl
braces_of _ a = absurd (false≢true a)

braces_announced : (m n : Part) → accepts BracesC m ≡ true → Under m n → (c : Category) → accepts c ValuesEnd ≡ true → (v : Class) → v ≡ class.RBrace → announced c n v ≡ Some Braces
braces_announced Value n a (inl e) c d v s = let P : Part → Type 0 = λ z. announced c z class.RBrace ≡ Some Braces in ap (announced c n) s ∙ subst P e.0 (braces_of c d)
braces_announced Value n a (inr b) c d v s = absurd b
braces_announced _ n a u c d v s = absurd (false≢true a)

if_first : (c : Category) → accepts c IfHead ≡ true → c ≡ IfC false
if_first (IfC false) a = refl
if_first (IfC true) a = absurd (false≢true a)
if_first _ a = absurd (false≢true a)

else_at : (n : Part) → is_statement n ≡ true → else_announced n class.Else ≡ Some IfElse
else_at Statement a = refl
else_at BlockItem a = refl
else_at SwitchPart a = refl
else_at _ a = absurd (false≢true a)

else_announced_at : (m n : Part) → accepts StatementC m ≡ true → Under m n → (c : Category) → accepts c IfHead ≡ true → (v : Class) → v ≡ class.Else → announced c n v ≡ Some IfElse
unfolding announced
else_announced_at Statement n a (inl e) c d v s = ap (λ z. announced z n v) (if_first c d) ∙ ap (else_announced n) s ∙ else_at n (ap is_statement (sym e.0))
else_announced_at Statement n a (inr b) c d v s = absurd b
else_announced_at BlockItem n a (inl e) c d v s = ap (λ z. announced z n v) (if_first c d) ∙ ap (else_announced n) s ∙ else_at n (ap is_statement (sym e.0))
else_announced_at BlockItem n a (inr b) c d v s = absurd b
else_announced_at SwitchPart n a (inl e) c d v s = ap (λ z. announced z n v) (if_first c d) ∙ ap (else_announced n) s ∙ else_at n (ap is_statement (sym e.0))
else_announced_at SwitchPart n a (inr b) c d v s = absurd b
else_announced_at _ n a u c d v s = absurd (false≢true a)

-- declared names
record IsCore (o : Bool) (c : Category) : Type 0 where
  bare : Bool
  is : c ≡ CoreC o bare

core_first : (c : Category) → accepts c (Core true) ≡ true → IsCore true c
core_first (CoreC true bare) a = record { bare = bare; is = refl }
core_first (CoreC false bare) a = absurd (false≢true a)
core_first _ a = absurd (false≢true a)

bare_first : (c : Category) → accepts c BareName ≡ true → c ≡ CoreC true true
bare_first (CoreC true true) a = refl
bare_first (CoreC true false) a = absurd (false≢true a)
bare_first (CoreC false bare) a = absurd (false≢true a)
bare_first _ a = absurd (false≢true a)

rest_core : (n : Part) → takes_rest n ≡ true → (bare : Bool) (v : Class) → core_announced bare n v ≡ core_ending bare v
rest_core ExternalRest a bare v = refl
rest_core DeclaredRest a bare v = refl
rest_core _ a bare v = absurd (false≢true a)

object_class : (bare : Bool) (v : Class) → or (has (opening (Only Initial) v)) (or (has (opening (Only NextInit) v)) (same_class v class.Semi)) ≡ true → core_ending bare v ≡ Some Objects
unfolding opening same_class
object_class true class.Equals h = refl
object_class true class.Comma h = refl
object_class true class.Semi h = refl
object_class true _ h = absurd (false≢true h)
object_class false class.Equals h = refl
object_class false class.Comma h = refl
object_class false class.Semi h = refl
object_class false _ h = absurd (false≢true h)

function_announced : (m n : Part) → accepts RestC m ≡ true → Under m n → (c : Category) → accepts c BareName ≡ true → (v : Class) → v ≡ class.LParen → announced c n v ≡ Some Function
unfolding announced
function_announced ExternalRest n a (inl e) c d v s = ap (λ z. announced z n v) (bare_first c d) ∙ rest_core n (ap takes_rest (sym e.0)) true v ∙ ap (core_ending true) s
function_announced ExternalRest n a (inr b) c d v s = absurd b
function_announced DeclaredRest n a (inl e) c d v s = ap (λ z. announced z n v) (bare_first c d) ∙ rest_core n (ap takes_rest (sym e.0)) true v ∙ ap (core_ending true) s
function_announced DeclaredRest n a (inr b) c d v s = absurd b
function_announced _ n a u c d v s = absurd (false≢true a)

objects_announced : (m n : Part) → accepts RestC m ≡ true → Under m n → (c : Category) → accepts c (Core true) ≡ true → (v : Class) → or (has (opening (Only Initial) v)) (or (has (opening (Only NextInit) v)) (same_class v class.Semi)) ≡ true → announced c n v ≡ Some Objects
unfolding announced
objects_announced ExternalRest n a (inl e) c d v s = let r = core_first c d in ap (λ z. announced z n v) r.is ∙ rest_core n (ap takes_rest (sym e.0)) r.bare v ∙ object_class r.bare v s
objects_announced ExternalRest n a (inr b) c d v s = absurd b
objects_announced DeclaredRest n a (inl e) c d v s = let r = core_first c d in ap (λ z. announced z n v) r.is ∙ rest_core n (ap takes_rest (sym e.0)) r.bare v ∙ object_class r.bare v s
objects_announced DeclaredRest n a (inr b) c d v s = absurd b
objects_announced _ n a u c d v s = absurd (false≢true a)

-- the production behind the part that it begins with
pub announces_at : (p : Production) (kids : Spellings) (m n : Part) → accepts (category p kids) m ≡ true → Under m n → (c : Category) → AcceptsFirst (rhs p) c → (v : Class) (b : Bool) → may (rest_of (rhs p)) b v ≡ true → announced c n v ≡ Some p
unfolding rhs
announces_at ExprInside kids m n a u c d v b h = inside_announced m n a u c d v h
announces_at TypeInside kids m n a u c d v b h = type_announced m n a u c d v
announces_at Suffix kids m n a u c d v b h = operator_announced 15 m n a u (ext 15 15 Suffix) refl c refl d v (class_is v class.Step h (Some (ext 15 15 Suffix)) refl)
announces_at Member kids m n a u c d v b h = operator_announced 15 m n a u (ext 15 15 Member) refl c refl d v (class_is v class.Dot h (Some (ext 15 15 Member)) refl)
announces_at Index kids m n a u c d v b h = operator_announced 15 m n a u (ext 15 15 Index) refl c refl d v (class_is v class.LBracket h (Some (ext 15 15 Index)) refl)
announces_at Call kids m n a u c d v b h = operator_announced 15 m n a u (ext 15 15 Call) refl c refl d v (class_is v class.LParen h (Some (ext 15 15 Call)) refl)
announces_at Arguments kids m n a u c d v b h = arguments_announced m n a u c d v h
announces_at (Binary l) kids m n a u c d v b h =
    let e = level_is l (level v) h in
    operator_announced l m n a u (ext l l (Binary l)) (same_le l) c (level_low v l e) d v (binary_class v l e)
announces_at Assign kids m n a u c d v b h = operator_announced 1 m n a u (ext 1 2 Assign) refl c refl d v (assign_class v h)
announces_at Cond kids m n a u c d v b h = operator_announced 2 m n a u (ext 2 3 Cond) refl c refl d v (class_is v class.Question h (Some (ext 2 3 Cond)) refl)
announces_at CommaExpr kids m n a u c d v b h = operator_announced 0 m n a u (ext 0 0 CommaExpr) refl c refl d v (class_is v class.Comma h (Some (ext 0 0 CommaExpr)) refl)
announces_at Cast kids m n a u c d v b h = cast_announced_at m n a u c d v
announces_at MemberP kids m n a u c d v b h = member_announced m n a u c d v
announces_at Params kids m n a u c d v b h = params_announced m n a u c d v
announces_at Declaration kids m n a u c d v b h = declaration_announced m n a u c d v
announces_at ValueComma kids m n a u c d v b h = value_comma_announced m n a u c d v (same_of v class.Comma h)
announces_at NextValue kids m n a u c d v b h = next_value_announced m n a u c d v h
announces_at Braces kids m n a u c d v b h = braces_announced m n a u c d v (same_of v class.RBrace h)
announces_at ExprStatement kids m n a u c d v b h = statement_announced m n a u c d v h
announces_at IfElse kids m n a u c d v b h = else_announced_at m n a u c d v (same_of v class.Else h)
announces_at DeclaredP kids m n a u c d v b h = declared_announced m n a u c d v
announces_at Function kids m n a u c d v b h = function_announced m n a u c d v (same_of v class.LParen h)
announces_at Objects kids m n a u c d v b h = objects_announced m n a u c d v h
announces_at (PieceP k) kids m n a u c d v b h = no_piece k d
  where
    no_piece : (k : Piece) → AcceptsFirst (piece_rhs k) c → announced c n v ≡ Some (PieceP k)
    no_piece NextArgument d = absurd d
    no_piece FunctionPart d = absurd d
    no_piece Pointer d = absurd d
    no_piece Qualifier d = absurd d
    no_piece SecondWord d = absurd d
    no_piece Members d = absurd d
    no_piece NextMember d = absurd d
    no_piece AnyLength d = absurd d
    no_piece FullLength d = absurd d
    no_piece NextParam d = absurd d
    no_piece ParamLengths d = absurd d
    no_piece NamePart d = absurd d
    no_piece Initial d = absurd d
    no_piece NextInit d = absurd d
announces_at (StructSpec true) kids m n a u c d v b h = absurd d
announces_at (StructSpec false) kids m n a u c d v b h = absurd d
announces_at _ kids m n a u c d v b h = absurd d

-- an operator may follow its operand
abbrev operand_at : ℕ → Option Extension → Bool
operand_at n None = false
operand_at n (Some e) = nat_eq e.operand n

abbrev operand_le : ℕ → Option Extension → Bool
operand_le k None = false
operand_le k (Some e) = nat_le e.operand k

operand_bound : (o : Option Extension) (n k : ℕ) → operand_at n o ≡ true → nat_le n k ≡ true → operand_le k o ≡ true
operand_bound None n k h g = absurd (false≢true h)
operand_bound (Some e) n k h g = ap (λ z. nat_le z k) (eq_of e.operand n h) ∙ g

abbrev level_below : Option Extension → Bool
level_below None = true
level_below (Some e) = nat_le e.level e.operand

below_reached : (l : ℕ) (o : Option Extension) → level_below o ≡ true → operand_le l o ≡ true → not_reached (suc l) o ≡ true
below_reached l None h g = refl
below_reached l (Some e) h g = at (nat_le (suc l) e.level) refl
  where
    at : (b : Bool) → nat_le (suc l) e.level ≡ b → neg b ≡ true
    at false i = refl
    at true i = absurd (omega (arith, le_of (suc l) e.level i, le_of e.level e.operand h, le_of e.operand l g))

bound_reached : (k r : ℕ) → ((c : Class) → implies (operand_le k (extension c)) (not_reached r (extension c)) ≡ true) → (n : ℕ) (v : Class) → nat_le n k ≡ true → operand_at n (extension v) ≡ true → not_reached r (extension v) ≡ true
bound_reached k r t n v a h = implied (operand_le k (extension v)) (not_reached r (extension v)) (t v) (operand_bound (extension v) n k h a)

ext_after : (p : Production) (kids : Spellings) (n : ℕ) (v : Class) → accepts (category p kids) (Expr n) ≡ true → operand_at n (extension v) ≡ true → after p v ≡ true
ext_after Prefix kids n v a h = bound_reached 14 13 (every (λ c. implies (operand_le 14 (extension c)) (not_reached 13 (extension c))) refl) n v a h
ext_after SizeOf kids n v a h = bound_reached 14 14 (every (λ c. implies (operand_le 14 (extension c)) (not_reached 14 (extension c))) refl) n v a h
ext_after (Binary l) kids n v a h = below_reached l (extension v) (every (λ c. level_below (extension c)) refl v) (operand_bound (extension v) n l h a)
ext_after Assign kids n v a h = bound_reached 1 1 (every (λ c. implies (operand_le 1 (extension c)) (not_reached 1 (extension c))) refl) n v a h
ext_after Cond kids n v a h = bound_reached 2 2 (every (λ c. implies (operand_le 2 (extension c)) (not_reached 2 (extension c))) refl) n v a h
ext_after CommaExpr kids n v a h = bound_reached 0 1 (every (λ c. implies (operand_le 0 (extension c)) (not_reached 1 (extension c))) refl) n v a h
ext_after Cast kids n v a h = bound_reached 13 13 (every (λ c. implies (operand_le 13 (extension c)) (not_reached 13 (extension c))) refl) n v a h
ext_after (PieceP k) kids n v a h = absurd (false≢true a)
ext_after (ConstSpec f) kids n v a h = absurd (false≢true a)
ext_after (WordSpec f) kids n v a h = absurd (false≢true a)
ext_after (SignSpec f) kids n v a h = absurd (false≢true a)
ext_after (StructSpec f) kids n v a h = absurd (false≢true a)
ext_after (NameCore o) kids n v a h = absurd (false≢true a)
ext_after ParamName kids n v a h = absurd (false≢true a)
ext_after FirstValue kids n v a h = absurd (false≢true a)
ext_after NextValue kids n v a h = absurd (false≢true a)
ext_after If kids n v a h = absurd (false≢true a)
ext_after IfElse kids n v a h = absurd (false≢true a)
ext_after While kids n v a h = absurd (false≢true a)
ext_after For kids n v a h = absurd (false≢true a)
ext_after _ kids n v a h = refl

some_operand : (v : Class) (e : Extension) (n : ℕ) → extension v ≡ Some e → e.operand ≡ n → operand_at n (extension v) ≡ true
some_operand v e n h g = ap (operand_at n) h ∙ eq_to e.operand n g

abbrev pub FirstAfter : List Symbol → Production → Spellings → Class → Type 0
FirstAfter (One m ∷ ss) q ks v = accepts (category q ks) m ≡ true → after q v ≡ true
FirstAfter _ q ks v = Unit {0}

by_end : (m : Part) (f : Class → Bool) → ((c : Class) → implies (f c) (ends m c) ≡ true) → (q : Production) (ks : Spellings) (v : Class) → f v ≡ true → accepts (category q ks) m ≡ true → after q v ≡ true
by_end m f t q ks v h a = ends_after q ks m v a (implied (f v) (ends m v) (t v) h)

abbrev pub is_if_else : Production → Bool
is_if_else IfElse = true
is_if_else _ = false

-- what follows the part that a production begins with may follow it, but for `else`
pub first_after : (p : Production) → is_if_else p ≡ false → (v : Class) (b : Bool) → may (rest_of (rhs p)) b v ≡ true → (q : Production) (ks : Spellings) → FirstAfter (rhs p) q ks v
unfolding rhs opening same_class
first_after ExprInside o v b h q ks = by_end (Expr 0) (λ c. same_class c class.RParen) (every (λ c. implies (same_class c class.RParen) (ends (Expr 0) c)) refl) q ks v h
first_after TypeInside o v b h q ks = by_end (Spec false) (λ c. may (rest_of (rhs TypeInside)) false c) (every (λ c. implies (may (rest_of (rhs TypeInside)) false c) (ends (Spec false) c)) refl) q ks v h
first_after Suffix o v b h q ks = λ a. ext_after q ks 15 v a (some_operand v (ext 15 15 Suffix) 15 (class_is v class.Step h (Some (ext 15 15 Suffix)) refl) refl)
first_after Member o v b h q ks = λ a. ext_after q ks 15 v a (some_operand v (ext 15 15 Member) 15 (class_is v class.Dot h (Some (ext 15 15 Member)) refl) refl)
first_after Index o v b h q ks = λ a. ext_after q ks 15 v a (some_operand v (ext 15 15 Index) 15 (class_is v class.LBracket h (Some (ext 15 15 Index)) refl) refl)
first_after Call o v b h q ks = λ a. ext_after q ks 15 v a (some_operand v (ext 15 15 Call) 15 (class_is v class.LParen h (Some (ext 15 15 Call)) refl) refl)
first_after Arguments o v b h q ks = by_end (Expr 1) (λ c. may (rest_of (rhs Arguments)) false c) (every (λ c. implies (may (rest_of (rhs Arguments)) false c) (ends (Expr 1) c)) refl) q ks v h
first_after (Binary l) o v b h q ks = λ a. ext_after q ks l v a (some_operand v (ext l l (Binary l)) l (binary_class v l (level_is l (level v) h)) refl)
first_after Assign o v b h q ks = λ a. ext_after q ks 2 v a (some_operand v (ext 1 2 Assign) 2 (assign_class v h) refl)
first_after Cond o v b h q ks = λ a. ext_after q ks 3 v a (some_operand v (ext 2 3 Cond) 3 (class_is v class.Question h (Some (ext 2 3 Cond)) refl) refl)
first_after CommaExpr o v b h q ks = λ a. ext_after q ks 0 v a (some_operand v (ext 0 0 CommaExpr) 0 (class_is v class.Comma h (Some (ext 0 0 CommaExpr)) refl) refl)
first_after Cast o v b h q ks = by_end CastHead (λ c. true) (every (λ c. implies true (ends CastHead c)) refl) q ks v refl
first_after MemberP o v b h q ks = by_end (Spec false) (λ c. may (rest_of (rhs MemberP)) false c) (every (λ c. implies (may (rest_of (rhs MemberP)) false c) (ends (Spec false) c)) refl) q ks v h
first_after Params o v b h q ks = by_end (Spec false) (λ c. may (rest_of (rhs Params)) false c) (every (λ c. implies (may (rest_of (rhs Params)) false c) (ends (Spec false) c)) refl) q ks v h
first_after Declaration o v b h q ks = by_end (Spec false) (λ c. may (rest_of (rhs Declaration)) false c) (every (λ c. implies (may (rest_of (rhs Declaration)) false c) (ends (Spec false) c)) refl) q ks v h
first_after DeclaredP o v b h q ks = by_end (Spec true) (λ c. may (rest_of (rhs DeclaredP)) false c) (every (λ c. implies (may (rest_of (rhs DeclaredP)) false c) (ends (Spec true) c)) refl) q ks v h
first_after ValueComma o v b h q ks = by_end Values (λ c. may (rest_of (rhs ValueComma)) false c) (every (λ c. implies (may (rest_of (rhs ValueComma)) false c) (ends Values c)) refl) q ks v h
first_after NextValue o v b h q ks = by_end ValuesComma (λ c. may (rest_of (rhs NextValue)) false c) (every (λ c. implies (may (rest_of (rhs NextValue)) false c) (ends ValuesComma c)) refl) q ks v h
first_after Braces o v b h q ks = by_end ValuesEnd (λ c. may (rest_of (rhs Braces)) false c) (every (λ c. implies (may (rest_of (rhs Braces)) false c) (ends ValuesEnd c)) refl) q ks v h
first_after ExprStatement o v b h q ks = by_end (Expr 0) (λ c. may (rest_of (rhs ExprStatement)) false c) (every (λ c. implies (may (rest_of (rhs ExprStatement)) false c) (ends (Expr 0) c)) refl) q ks v h
first_after Function o v b h q ks = by_end BareName (λ c. may (rest_of (rhs Function)) false c) (every (λ c. implies (may (rest_of (rhs Function)) false c) (ends BareName c)) refl) q ks v h
first_after Objects o v b h q ks = by_end (Core true) (λ c. may (rest_of (rhs Objects)) false c) (every (λ c. implies (may (rest_of (rhs Objects)) false c) (ends (Core true) c)) refl) q ks v h
first_after IfElse o v b h q ks = cc (o)
first_after (PieceP k) o v b h q ks = no_piece k
  where
    no_piece : (k : Piece) → FirstAfter (piece_rhs k) q ks v
    no_piece NextArgument = tt
    no_piece FunctionPart = tt
    no_piece Pointer = tt
    no_piece Qualifier = tt
    no_piece SecondWord = tt
    no_piece Members = tt
    no_piece NextMember = tt
    no_piece AnyLength = tt
    no_piece FullLength = tt
    no_piece NextParam = tt
    no_piece ParamLengths = tt
    no_piece NamePart = tt
    no_piece Initial = tt
    no_piece NextInit = tt
first_after (StructSpec true) o v b h q ks = tt
first_after (StructSpec false) o v b h q ks = tt
first_after _ o v b h q ks = tt
