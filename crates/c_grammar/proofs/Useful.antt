-- Wherever a production begins, it can be brought to the part that was wanted.
use Rattle.std.proofs.Common.{◌≡◌, ℕ, List, [], ◌∷◌, ◌++◌, Option, Some, None, Bool, true, false, refl, sym, ap, ◌∙◌, subst, arith, append_assoc, append-nil, ◌⊎◌, inl, inr}
use Rattle.std.specs.Prelude.{nat_le, nat_eq, IsTrue}
use Rattle.c_syntax.specs.declared.token.Token.{Token}
use Rattle.c_grammar.specs.Class as class
use Rattle.c_grammar.specs.Class.{Class, class_of, level, same_class}
use Rattle.c_grammar.specs.Grammar.{Piece, NextArgument, FunctionPart, Pointer, Qualifier, SecondWord, Members, NextMember, AnyLength, FullLength, NextParam, ParamLengths, NamePart, Initial, NextInit, Part, Only, Expr, Inside, CallEnd, ParamsEnd, CastHead, IfHead, Spec, Core, BareName, ParamTail, MemberDecl, Value, Values, ValuesComma, ValuesEnd, Statement, BlockItem, SwitchPart, ForFirst, FunctionEnd, External, Declared, ExternalRest, DeclaredRest, Symbol, One, Production, Atom, Parens, ExprInside, TypeInside, Prefix, SizeOf, Suffix, Member, Index, Call, NoArguments, Arguments, Assign, Cond, CommaExpr, Cast, Binary, PieceP, ConstSpec, WordSpec, SignSpec, StructSpec, MemberP, NameCore, FunctionCore, NoParams, Params, ParamName, ParamFunction, Declaration, FirstValue, ValueComma, NextValue, Braces, Block, Empty, ExprStatement, If, IfElse, While, Do, For, Switch, Return, Jump, CaseLabel, DefaultLabel, StaticExternal, DeclaredP, Pointed, Function, Objects, rhs}
use Rattle.c_grammar.specs.Spelling.{Spelling, Leaf, Node, Row, Spellings, Nil, Cons, Category, Level, BracketedType, InsideC, CallEndC, ParamsEndC, SpecC, CoreC, PieceC, ParamTailC, MemberC, BracesC, ValuesC, ValuesCommaC, IfC, StatementC, EmptyC, ExprStatementC, BlockC, DeclarationC, LabelC, UnitC, StaticC, DeclaredC, RestC, category, brackets_category, inside_category, accepts, tokens, all_tokens, Fits, AllFit, has_no_length, piece_code, and}
use Rattle.c_grammar.specs.Machine.{or_else, expr_opening, spec_opening, statement_opening, label_opening, core_opening, rest_opening, tail_opening, chosen, on_class, piece_class, opening, extension, if_so, extended, floor, expr_ending, expr_announced, cast_announced, spec_announced, core_ending, core_announced, values_announced, else_announced, announced}
use Rattle.c_grammar.proofs.Codes.{le_of, le_to, eq_to}
use Rattle.c_grammar.proofs.Examples.{token_of, atom, atom_fits, core, core_fits, empty, small_part, small}
use Rattle.std.proofs.lemmas.Bool.{false≢true}

-- a spelling of a part that begins with these tokens
pub record Lift (n : Part) (ts : List Token) : Type 0 where
  pub y : Spelling
  pub more : List Token
  pub fits : Fits y (One n)
  pub tokens_are : tokens y ≡ ts ++ more

abbrev pub rest_of : List Symbol → List Symbol
rest_of [] = []
rest_of (s ∷ ss) = ss

-- a production that can be brought to a part, and whose places behind the first can be filled
pub record Useful (n : Part) (p : Production) : Type 0 where
  pub lifts : (kids : Spellings) → AllFit kids (rhs p) → Lift n (all_tokens kids)
  pub is_small : small (rest_of (rhs p)) ≡ true

so : (b : Bool) → b ≡ true → IsTrue b
so b e = e

some_nat : (a b : ℕ) → Some a ≡ Some b → a ≡ b
some_nat a b h = cc (h)

some_production : (p q : Production) → Some p ≡ Some q → p ≡ q
some_production p q h = cc (h)

-- it is the part
itself : (n : Part) (p : Production) (kids : Spellings) → accepts (category p kids) n ≡ true → AllFit kids (rhs p) → Lift n (all_tokens kids)
itself n p kids e f = record { y = Node p kids; more = []; fits = (so (accepts (category p kids) n) e, f); tokens_are = sym (append-nil (all_tokens kids)) }

is : (n : Part) (p : Production) → ((kids : Spellings) → accepts (category p kids) n ≡ true) → small (rest_of (rhs p)) ≡ true → Useful n p
is n p e s = record { lifts = λ kids f. itself n p kids (e kids) f; is_small = s }

abbrev leaf : Class → Spelling
leaf c = Leaf (token_of c)

-- it begins another production of the part
begins : (n : Part) (q : Production) (x : Spelling) (others : Spellings) → accepts (category q (Cons x others)) n ≡ true → AllFit (Cons x others) (rhs q) → Lift n (tokens x)
begins n q x others e f = record { y = Node q (Cons x others); more = all_tokens others; fits = (so (accepts (category q (Cons x others)) n) e, f); tokens_are = refl }

-- and that begins a further one
onward : (n m : Part) (ts : List Token) (l : Lift m ts) → Lift n (tokens l.y) → Lift n ts
onward n m ts l k = record { y = k.y; more = l.more ++ k.more; fits = k.fits; tokens_are = k.tokens_are ∙ ap (λ z. z ++ k.more) l.tokens_are ∙ append_assoc ts l.more k.more }

-- an expression of level k stands at the head of each part that takes one of level m
expr_lift : (n : Part) (m k : ℕ) (p : Production) (kids : Spellings) → floor n ≡ Some m → nat_le m k ≡ true → category p kids ≡ Level k → AllFit kids (rhs p) → Lift n (all_tokens kids)
unfolding rhs class_of
expr_lift (Expr j) m k p kids e h c f = itself (Expr j) p kids (ap (λ z. accepts z (Expr j)) c ∙ ap (λ z. nat_le z k) (cc (e)) ∙ h) f
expr_lift Inside m k p kids e h c f = begins Inside ExprInside (Node p kids) (Cons (leaf class.RParen) Nil) refl ((so _ (ap (λ z. accepts z (Expr 0)) c ∙ le_to 0 k (omega arith)), f), (refl, tt))
expr_lift CallEnd m k p kids e h c f =
    begins CallEnd Arguments (Node p kids) (Cons (Row Nil) (Cons (leaf class.RParen) Nil)) refl ((so _ (ap (λ z. accepts z (Expr 1)) c ∙ ap (λ z. nat_le z k) (cc (e)) ∙ h), f), (tt, (refl, tt)))
expr_lift Value m k p kids e h c f = itself Value p kids (ap (λ z. accepts z Value) c ∙ ap (λ z. nat_le z k) (cc (e)) ∙ h) f
expr_lift Statement m k p kids e h c f = begins Statement ExprStatement (Node p kids) (Cons (leaf class.Semi) Nil) refl ((so _ (ap (λ z. accepts z (Expr 0)) c ∙ le_to 0 k (omega arith)), f), (refl, tt))
expr_lift BlockItem m k p kids e h c f = begins BlockItem ExprStatement (Node p kids) (Cons (leaf class.Semi) Nil) refl ((so _ (ap (λ z. accepts z (Expr 0)) c ∙ le_to 0 k (omega arith)), f), (refl, tt))
expr_lift SwitchPart m k p kids e h c f = begins SwitchPart ExprStatement (Node p kids) (Cons (leaf class.Semi) Nil) refl ((so _ (ap (λ z. accepts z (Expr 0)) c ∙ le_to 0 k (omega arith)), f), (refl, tt))
expr_lift ForFirst m k p kids e h c f = begins ForFirst ExprStatement (Node p kids) (Cons (leaf class.Semi) Nil) refl ((so _ (ap (λ z. accepts z (Expr 0)) c ∙ le_to 0 k (omega arith)), f), (refl, tt))
expr_lift (Only j) m k p kids e h c f = cc (e)
expr_lift IfHead m k p kids e h c f = cc (e)
expr_lift ParamsEnd m k p kids e h c f = cc (e)
expr_lift CastHead m k p kids e h c f = cc (e)
expr_lift (Spec j) m k p kids e h c f = cc (e)
expr_lift (Core j) m k p kids e h c f = cc (e)
expr_lift BareName m k p kids e h c f = cc (e)
expr_lift ParamTail m k p kids e h c f = cc (e)
expr_lift MemberDecl m k p kids e h c f = cc (e)
expr_lift Values m k p kids e h c f = cc (e)
expr_lift ValuesComma m k p kids e h c f = cc (e)
expr_lift ValuesEnd m k p kids e h c f = cc (e)
expr_lift FunctionEnd m k p kids e h c f = cc (e)
expr_lift External m k p kids e h c f = cc (e)
expr_lift Declared m k p kids e h c f = cc (e)
expr_lift ExternalRest m k p kids e h c f = cc (e)
expr_lift DeclaredRest m k p kids e h c f = cc (e)

shrink : (n : Part) (ts us : List Token) → Lift n (ts ++ us) → Lift n ts
shrink n ts us l = record { y = l.y; more = us ++ l.more; fits = l.fits; tokens_are = l.tokens_are ∙ append_assoc ts us l.more }

-- a type in brackets begins a cast
cast_lift : (n : Part) (m : ℕ) (p : Production) (kids : Spellings) → floor n ≡ Some m → nat_le m 13 ≡ true → category p kids ≡ BracketedType → AllFit kids (rhs p) → Lift n (all_tokens kids)
unfolding rhs
cast_lift n m p kids e h c f =
    shrink n (all_tokens kids) (tokens atom ++ []) (expr_lift n m 13 Cast (Cons (Node p kids) (Cons atom Nil)) e h refl ((so _ (ap (λ z. accepts z CastHead) c), f), (atom_fits 13 refl, tt)))

by_test {ℓ} : {X : Type ℓ} (b : Bool) → (b ≡ true → X) → (b ≡ false → X) → X
by_test true f g = f refl
by_test false f g = g refl

above : (m : ℕ) → nat_le m 14 ≡ true → nat_le m 13 ≡ false → nat_eq m 14 ≡ true
above m h g = grind (arith, h, g)

bracketed_lift : (n : Part) (m : ℕ) (p : Production) (kids : Spellings) → floor n ≡ Some m → nat_le m 14 ≡ true → category p kids ≡ BracketedType → AllFit kids (rhs p) → Lift n (all_tokens kids)
bracketed_lift (Expr j) m p kids e h c f =
    by_test (nat_le m 13) (λ low. cast_lift (Expr j) m p kids e low c f) (λ high. itself (Expr j) p kids (ap (λ z. accepts z (Expr j)) c ∙ ap (λ z. nat_eq z 14) (some_nat j m e) ∙ above m h high) f)
bracketed_lift Inside m p kids e h c f = cast_lift Inside m p kids e (ap (λ z. nat_le z 13) (sym (some_nat 0 m e))) c f
bracketed_lift CallEnd m p kids e h c f = cast_lift CallEnd m p kids e (ap (λ z. nat_le z 13) (sym (some_nat 1 m e))) c f
bracketed_lift Value m p kids e h c f = cast_lift Value m p kids e (ap (λ z. nat_le z 13) (sym (some_nat 1 m e))) c f
bracketed_lift Statement m p kids e h c f = cast_lift Statement m p kids e (ap (λ z. nat_le z 13) (sym (some_nat 0 m e))) c f
bracketed_lift BlockItem m p kids e h c f = cast_lift BlockItem m p kids e (ap (λ z. nat_le z 13) (sym (some_nat 0 m e))) c f
bracketed_lift SwitchPart m p kids e h c f = cast_lift SwitchPart m p kids e (ap (λ z. nat_le z 13) (sym (some_nat 0 m e))) c f
bracketed_lift ForFirst m p kids e h c f = cast_lift ForFirst m p kids e (ap (λ z. nat_le z 13) (sym (some_nat 0 m e))) c f
bracketed_lift (Only j) m p kids e h c f = cc (e)
bracketed_lift IfHead m p kids e h c f = cc (e)
bracketed_lift ParamsEnd m p kids e h c f = cc (e)
bracketed_lift CastHead m p kids e h c f = cc (e)
bracketed_lift (Spec j) m p kids e h c f = cc (e)
bracketed_lift (Core j) m p kids e h c f = cc (e)
bracketed_lift BareName m p kids e h c f = cc (e)
bracketed_lift ParamTail m p kids e h c f = cc (e)
bracketed_lift MemberDecl m p kids e h c f = cc (e)
bracketed_lift Values m p kids e h c f = cc (e)
bracketed_lift ValuesComma m p kids e h c f = cc (e)
bracketed_lift ValuesEnd m p kids e h c f = cc (e)
bracketed_lift FunctionEnd m p kids e h c f = cc (e)
bracketed_lift External m p kids e h c f = cc (e)
bracketed_lift Declared m p kids e h c f = cc (e)
bracketed_lift ExternalRest m p kids e h c f = cc (e)
bracketed_lift DeclaredRest m p kids e h c f = cc (e)

pub inside_cases : (x : Spelling) → (inside_category x ≡ BracketedType) ⊎ (inside_category x ≡ Level 15)
inside_cases (Node TypeInside kids) = inl refl
inside_cases _ = inr refl

pub brackets_cases : (kids : Spellings) → (brackets_category kids ≡ BracketedType) ⊎ (brackets_category kids ≡ Level 15)
brackets_cases (Cons o (Cons x xs)) = inside_cases x
brackets_cases (Cons o Nil) = inr refl
brackets_cases Nil = inr refl

le_next : (m : ℕ) → nat_le m 14 ≡ true → nat_le m 15 ≡ true
le_next m h = grind (arith, h)

parens_lift : (n : Part) (m : ℕ) (kids : Spellings) → floor n ≡ Some m → nat_le m 14 ≡ true → AllFit kids (rhs Parens) → Lift n (all_tokens kids)
parens_lift n m kids e h f = elim (brackets_cases kids) [ inl c ↦ bracketed_lift n m Parens kids e h c f | inr c ↦ expr_lift n m 15 Parens kids e (le_next m h) c f ]

use_of : (n : Part) (p q : Production) → Some p ≡ Some q → Useful n p → Useful n q
use_of n p q h u = subst (Useful n) (some_production p q h) u

by_or : {X : Type 0} (a b : Option Production) (q : Production) → or_else a b ≡ Some q → (a ≡ Some q → X) → (b ≡ Some q → X) → X
by_or (Some p) b q h f g = f h
by_or None b q h f g = g h

expr_use : (n : Part) (m k : ℕ) (p : Production) → floor n ≡ Some m → nat_le m k ≡ true → ((kids : Spellings) → category p kids ≡ Level k) → small (rest_of (rhs p)) ≡ true → Useful n p
expr_use n m k p e h c s = record { lifts = λ kids f. expr_lift n m k p kids e h (c kids) f; is_small = s }

expr_opens : (n : Part) (m : ℕ) → floor n ≡ Some m → nat_le m 14 ≡ true → (c : Class) (q : Production) → expr_opening c ≡ Some q → Useful n q
unfolding rhs
expr_opens n m e b class.Name q h = use_of n Atom q h (expr_use n m 15 Atom e (le_next m b) (λ kids. refl) refl)
expr_opens n m e b class.Number q h = use_of n Atom q h (expr_use n m 15 Atom e (le_next m b) (λ kids. refl) refl)
expr_opens n m e b class.Str q h = use_of n Atom q h (expr_use n m 15 Atom e (le_next m b) (λ kids. refl) refl)
expr_opens n m e b class.Null q h = use_of n Atom q h (expr_use n m 15 Atom e (le_next m b) (λ kids. refl) refl)
expr_opens n m e b class.LParen q h = use_of n Parens q h (record { lifts = λ kids f. parens_lift n m kids e b f; is_small = refl })
expr_opens n m e b class.Amp q h = use_of n Prefix q h (expr_use n m 14 Prefix e b (λ kids. refl) refl)
expr_opens n m e b class.Sum q h = use_of n Prefix q h (expr_use n m 14 Prefix e b (λ kids. refl) refl)
expr_opens n m e b class.Star q h = use_of n Prefix q h (expr_use n m 14 Prefix e b (λ kids. refl) refl)
expr_opens n m e b class.Tilde q h = use_of n Prefix q h (expr_use n m 14 Prefix e b (λ kids. refl) refl)
expr_opens n m e b class.Step q h = use_of n Prefix q h (expr_use n m 14 Prefix e b (λ kids. refl) refl)
expr_opens n m e b class.Sizeof q h = use_of n SizeOf q h (expr_use n m 14 SizeOf e b (λ kids. refl) refl)
expr_opens n m e b _ q h = cc (h)

-- what the words of a type begin
SpecLifts : Part → Bool → Type 0
SpecLifts n e = (p : Production) (kids : Spellings) → category p kids ≡ SpecC e → AllFit kids (rhs p) → Lift n (all_tokens kids)

struct_small : (e : Bool) → small (rest_of (rhs (StructSpec e))) ≡ true
unfolding rhs
struct_small true = refl
struct_small false = refl

spec_use : (n : Part) (e : Bool) (p : Production) → SpecLifts n e → ((kids : Spellings) → category p kids ≡ SpecC e) → small (rest_of (rhs p)) ≡ true → Useful n p
unfolding SpecLifts
spec_use n e p g c s = record { lifts = λ kids f. g p kids (c kids) f; is_small = s }

spec_opens : (n : Part) (e : Bool) → SpecLifts n e → (c : Class) (q : Production) → spec_opening e c ≡ Some q → Useful n q
unfolding rhs
spec_opens n e g class.Const q h = use_of n (ConstSpec e) q h (spec_use n e (ConstSpec e) g (λ kids. refl) refl)
spec_opens n e g class.Void q h = use_of n (WordSpec e) q h (spec_use n e (WordSpec e) g (λ kids. refl) refl)
spec_opens n e g class.Basic q h = use_of n (WordSpec e) q h (spec_use n e (WordSpec e) g (λ kids. refl) refl)
spec_opens n e g class.Sign q h = use_of n (SignSpec e) q h (spec_use n e (SignSpec e) g (λ kids. refl) refl)
spec_opens n e g class.Struct q h = use_of n (StructSpec e) q h (spec_use n e (StructSpec e) g (λ kids. refl) (struct_small e))
spec_opens n e g _ q h = cc (h)

same_bool : (e : Bool) (p : Production) (kids : Spellings) → category p kids ≡ SpecC e → accepts (category p kids) (Spec e) ≡ true
same_bool true p kids c = ap (λ z. accepts z (Spec true)) c
same_bool false p kids c = ap (λ z. accepts z (Spec false)) c

spec_itself : (e : Bool) → SpecLifts (Spec e) e
unfolding SpecLifts
spec_itself e = λ p kids c f. itself (Spec e) p kids (same_bool e p kids c) f

spec_inside : SpecLifts Inside false
unfolding SpecLifts rhs class_of
spec_inside = λ p kids c f. begins Inside TypeInside (Node p kids) (Cons (Row Nil) (Cons (Row Nil) (Cons (leaf class.RParen) Nil))) refl ((so _ (same_bool false p kids c), f), (tt, (tt, (refl, tt))))

spec_params : SpecLifts ParamsEnd false
unfolding SpecLifts rhs class_of
spec_params = λ p kids c f. begins ParamsEnd Params (Node p kids) (Cons (Row Nil) (Cons (Row Nil) (Cons (Row Nil) (Cons (leaf class.RParen) Nil)))) refl ((so _ (same_bool false p kids c), f), (tt, (tt, (tt, (refl, tt)))))

spec_member : SpecLifts MemberDecl false
unfolding SpecLifts rhs class_of
spec_member = λ p kids c f. begins MemberDecl MemberP (Node p kids) (Cons (Row Nil) (Cons (core false) (Cons (Row Nil) (Cons (leaf class.Semi) Nil)))) refl ((so _ (same_bool false p kids c), f), (tt, (core_fits false, (tt, (refl, tt)))))

abbrev declared_rest : Spellings
declared_rest = Cons (Row Nil) (Cons (core true) (Cons (Row Nil) (Cons (Row Nil) (Cons (leaf class.Semi) Nil))))

spec_declares : (n : Part) → accepts DeclarationC n ≡ true → SpecLifts n false
unfolding SpecLifts rhs class_of
spec_declares n a = λ p kids c f. begins n Declaration (Node p kids) declared_rest a ((so _ (same_bool false p kids c), f), (tt, (core_fits true, (tt, (tt, (refl, tt))))))

spec_external : (n : Part) → accepts DeclaredC n ≡ true → SpecLifts n true
unfolding SpecLifts rhs class_of
spec_external n a = λ p kids c f. begins n DeclaredP (Node p kids) (Cons empty Nil) a ((so _ (same_bool true p kids c), f), ((refl, (refl, tt)), tt))

-- one token begins one production
on_opens : (n : Part) (d : Class) (p : Production) (c : Class) (q : Production) → Useful n p → on_class d p c ≡ Some q → Useful n q
on_opens n d p c q u h = at (same_class c d) h
  where
    at : (b : Bool) → chosen b p ≡ Some q → Useful n q
    at true h = use_of n p q h u
    at false h = cc (h)

if_itself : (n : Part) (p : Production) → ((kids : Spellings) → accepts (category p kids) n ≡ true) → small (rest_of (rhs p)) ≡ true → (q : Production) → Some p ≡ Some q → Useful n q
if_itself n p a s q h = use_of n p q h (is n p a s)

-- statements
statement_opens : (n : Part) → floor n ≡ Some 0 → ((p : Production) (kids : Spellings) → accepts (category p kids) Statement ≡ true → accepts (category p kids) n ≡ true) → (c : Class) (q : Production) → statement_opening c ≡ Some q → Useful n q
unfolding rhs
statement_opens n e a class.LBrace q h = if_itself n Block (λ kids. a Block kids refl) refl q h
statement_opens n e a class.Semi q h = if_itself n Empty (λ kids. a Empty kids refl) refl q h
statement_opens n e a class.If q h = if_itself n If (λ kids. a If kids refl) refl q h
statement_opens n e a class.While q h = if_itself n While (λ kids. a While kids refl) refl q h
statement_opens n e a class.Do q h = if_itself n Do (λ kids. a Do kids refl) refl q h
statement_opens n e a class.For q h = if_itself n For (λ kids. a For kids refl) refl q h
statement_opens n e a class.Switch q h = if_itself n Switch (λ kids. a Switch kids refl) refl q h
statement_opens n e a class.Return q h = if_itself n Return (λ kids. a Return kids refl) refl q h
statement_opens n e a class.Jump q h = if_itself n Jump (λ kids. a Jump kids refl) refl q h
statement_opens n e a class.Name q h = expr_opens n 0 e refl class.Name q h
statement_opens n e a class.Number q h = expr_opens n 0 e refl class.Number q h
statement_opens n e a class.Str q h = expr_opens n 0 e refl class.Str q h
statement_opens n e a class.Null q h = expr_opens n 0 e refl class.Null q h
statement_opens n e a class.LParen q h = expr_opens n 0 e refl class.LParen q h
statement_opens n e a class.RParen q h = expr_opens n 0 e refl class.RParen q h
statement_opens n e a class.LBracket q h = expr_opens n 0 e refl class.LBracket q h
statement_opens n e a class.RBracket q h = expr_opens n 0 e refl class.RBracket q h
statement_opens n e a class.RBrace q h = expr_opens n 0 e refl class.RBrace q h
statement_opens n e a class.Comma q h = expr_opens n 0 e refl class.Comma q h
statement_opens n e a class.Colon q h = expr_opens n 0 e refl class.Colon q h
statement_opens n e a class.Question q h = expr_opens n 0 e refl class.Question q h
statement_opens n e a class.Dot q h = expr_opens n 0 e refl class.Dot q h
statement_opens n e a class.Equals q h = expr_opens n 0 e refl class.Equals q h
statement_opens n e a class.Compound q h = expr_opens n 0 e refl class.Compound q h
statement_opens n e a class.OrOr q h = expr_opens n 0 e refl class.OrOr q h
statement_opens n e a class.AndAnd q h = expr_opens n 0 e refl class.AndAnd q h
statement_opens n e a class.Bar q h = expr_opens n 0 e refl class.Bar q h
statement_opens n e a class.Caret q h = expr_opens n 0 e refl class.Caret q h
statement_opens n e a class.Equality q h = expr_opens n 0 e refl class.Equality q h
statement_opens n e a class.Relation q h = expr_opens n 0 e refl class.Relation q h
statement_opens n e a class.Shift q h = expr_opens n 0 e refl class.Shift q h
statement_opens n e a class.Slash q h = expr_opens n 0 e refl class.Slash q h
statement_opens n e a class.Amp q h = expr_opens n 0 e refl class.Amp q h
statement_opens n e a class.Sum q h = expr_opens n 0 e refl class.Sum q h
statement_opens n e a class.Star q h = expr_opens n 0 e refl class.Star q h
statement_opens n e a class.Tilde q h = expr_opens n 0 e refl class.Tilde q h
statement_opens n e a class.Step q h = expr_opens n 0 e refl class.Step q h
statement_opens n e a class.Sizeof q h = expr_opens n 0 e refl class.Sizeof q h
statement_opens n e a class.Const q h = expr_opens n 0 e refl class.Const q h
statement_opens n e a class.Static q h = expr_opens n 0 e refl class.Static q h
statement_opens n e a class.Struct q h = expr_opens n 0 e refl class.Struct q h
statement_opens n e a class.Void q h = expr_opens n 0 e refl class.Void q h
statement_opens n e a class.Basic q h = expr_opens n 0 e refl class.Basic q h
statement_opens n e a class.Sign q h = expr_opens n 0 e refl class.Sign q h
statement_opens n e a class.Else q h = expr_opens n 0 e refl class.Else q h
statement_opens n e a class.Case q h = expr_opens n 0 e refl class.Case q h
statement_opens n e a class.Default q h = expr_opens n 0 e refl class.Default q h
statement_opens n e a class.End q h = expr_opens n 0 e refl class.End q h
statement_opens n e a class.Unused q h = expr_opens n 0 e refl class.Unused q h

in_block : (p : Production) (kids : Spellings) → accepts (category p kids) Statement ≡ true → accepts (category p kids) BlockItem ≡ true
in_block p kids h = of_category (category p kids) h
  where
    of_category : (c : Category) → accepts c Statement ≡ true → accepts c BlockItem ≡ true
    of_category (Level k) h = absurd (false≢true h)
    of_category BracketedType h = absurd (false≢true h)
    of_category InsideC h = absurd (false≢true h)
    of_category CallEndC h = absurd (false≢true h)
    of_category ParamsEndC h = absurd (false≢true h)
    of_category (SpecC e) h = absurd (false≢true h)
    of_category (CoreC o bare) h = absurd (false≢true h)
    of_category (PieceC k) h = piece_no k h
      where
        piece_no : (k : Piece) → accepts (PieceC k) Statement ≡ true → accepts (PieceC k) BlockItem ≡ true
        piece_no ParamLengths h = absurd (false≢true h)
        piece_no _ h = absurd (false≢true h)
    of_category ParamTailC h = absurd (false≢true h)
    of_category MemberC h = absurd (false≢true h)
    of_category BracesC h = absurd (false≢true h)
    of_category ValuesC h = absurd (false≢true h)
    of_category ValuesCommaC h = absurd (false≢true h)
    of_category (IfC o) h = refl
    of_category StatementC h = refl
    of_category EmptyC h = refl
    of_category ExprStatementC h = refl
    of_category BlockC h = refl
    of_category DeclarationC h = refl
    of_category LabelC h = absurd (false≢true h)
    of_category UnitC h = absurd (false≢true h)
    of_category StaticC h = absurd (false≢true h)
    of_category DeclaredC h = absurd (false≢true h)
    of_category RestC h = absurd (false≢true h)

in_switch : (p : Production) (kids : Spellings) → accepts (category p kids) Statement ≡ true → accepts (category p kids) SwitchPart ≡ true
in_switch p kids h = of_category (category p kids) h
  where
    of_category : (c : Category) → accepts c Statement ≡ true → accepts c SwitchPart ≡ true
    of_category (Level k) h = absurd (false≢true h)
    of_category BracketedType h = absurd (false≢true h)
    of_category InsideC h = absurd (false≢true h)
    of_category CallEndC h = absurd (false≢true h)
    of_category ParamsEndC h = absurd (false≢true h)
    of_category (SpecC e) h = absurd (false≢true h)
    of_category (CoreC o bare) h = absurd (false≢true h)
    of_category (PieceC k) h = piece_no k h
      where
        piece_no : (k : Piece) → accepts (PieceC k) Statement ≡ true → accepts (PieceC k) SwitchPart ≡ true
        piece_no ParamLengths h = absurd (false≢true h)
        piece_no _ h = absurd (false≢true h)
    of_category ParamTailC h = absurd (false≢true h)
    of_category MemberC h = absurd (false≢true h)
    of_category BracesC h = absurd (false≢true h)
    of_category ValuesC h = absurd (false≢true h)
    of_category ValuesCommaC h = absurd (false≢true h)
    of_category (IfC o) h = refl
    of_category StatementC h = refl
    of_category EmptyC h = refl
    of_category ExprStatementC h = refl
    of_category BlockC h = refl
    of_category DeclarationC h = refl
    of_category LabelC h = refl
    of_category UnitC h = absurd (false≢true h)
    of_category StaticC h = absurd (false≢true h)
    of_category DeclaredC h = absurd (false≢true h)
    of_category RestC h = absurd (false≢true h)

core_small : (o : Bool) → small (rest_of (rhs (NameCore o))) ≡ true
unfolding rhs
core_small true = refl
core_small false = refl

function_small : (o : Bool) → small (rest_of (rhs (FunctionCore o))) ≡ true
unfolding rhs
function_small true = refl
function_small false = refl

core_itself : (o bare : Bool) → accepts (CoreC o bare) (Core o) ≡ true
core_itself true bare = refl
core_itself false bare = refl

core_opens : (o : Bool) (c : Class) (q : Production) → core_opening o c ≡ Some q → Useful (Core o) q
core_opens o class.Name q h = if_itself (Core o) (NameCore o) (λ kids. core_itself o (has_no_length kids)) (core_small o) q h
core_opens o class.LParen q h = if_itself (Core o) (FunctionCore o) (λ kids. core_itself o false) (function_small o) q h
core_opens o _ q h = cc (h)

-- what a declared name begins in an external
abbrev objects_rest : Spellings
objects_rest = Cons (Row Nil) (Cons (Row Nil) (Cons (leaf class.Semi) Nil))

object_use : (n : Part) → accepts RestC n ≡ true → (p : Production) → ((kids : Spellings) → accepts (category p kids) (Core true) ≡ true) → small (rest_of (rhs p)) ≡ true → Useful n p
unfolding rhs class_of
object_use n a p c s = record { lifts = λ kids f. begins n Objects (Node p kids) objects_rest a ((so _ (c kids), f), (tt, (tt, (refl, tt)))); is_small = s }

rest_opens : (n : Part) → accepts RestC n ≡ true → (c : Class) (q : Production) → rest_opening c ≡ Some q → Useful n q
unfolding rhs
rest_opens n a class.Star q h = if_itself n Pointed (λ kids. a) refl q h
rest_opens n a class.Name q h = use_of n (NameCore true) q h (object_use n a (NameCore true) (λ kids. refl) (core_small true))
rest_opens n a class.LParen q h = use_of n (FunctionCore true) q h (object_use n a (FunctionCore true) (λ kids. refl) (function_small true))
rest_opens n a _ q h = cc (h)

piece_small : (k : Piece) → small (rest_of (rhs (PieceP k))) ≡ true
unfolding rhs
piece_small NextArgument = refl
piece_small FunctionPart = refl
piece_small Pointer = refl
piece_small Qualifier = refl
piece_small SecondWord = refl
piece_small Members = refl
piece_small NextMember = refl
piece_small AnyLength = refl
piece_small FullLength = refl
piece_small NextParam = refl
piece_small ParamLengths = refl
piece_small NamePart = refl
piece_small Initial = refl
piece_small NextInit = refl

piece_itself : (k : Piece) → accepts (PieceC k) (Only k) ≡ true
piece_itself k = eq_to (piece_code k) (piece_code k) refl

tail_opens : (c : Class) (q : Production) → tail_opening c ≡ Some q → Useful ParamTail q
unfolding rhs
tail_opens class.Name q h = if_itself ParamTail ParamName (λ kids. refl) refl q h
tail_opens class.LBracket q h = if_itself ParamTail (PieceP ParamLengths) (λ kids. refl) refl q h
tail_opens class.LParen q h = if_itself ParamTail ParamFunction (λ kids. refl) refl q h
tail_opens _ q h = cc (h)

label_opens : (c : Class) (q : Production) → label_opening c ≡ Some q → Useful SwitchPart q
unfolding rhs
label_opens class.Case q h = if_itself SwitchPart CaseLabel (λ kids. refl) refl q h
label_opens class.Default q h = if_itself SwitchPart DefaultLabel (λ kids. refl) refl q h
label_opens _ q h = cc (h)

-- values that have begun end in a bracket
values_use : (p : Production) → ((kids : Spellings) → accepts (category p kids) ValuesEnd ≡ true) → small (rest_of (rhs p)) ≡ true → Useful Value p
unfolding rhs class_of
values_use p c s = record { lifts = λ kids f. begins Value Braces (Node p kids) (Cons (leaf class.RBrace) Nil) refl ((so _ (c kids), f), (refl, tt)); is_small = s }

-- what begins where a part is wanted
pub opening_useful : (n : Part) → small_part n ≡ true → (c : Class) (q : Production) → opening n c ≡ Some q → Useful n q
unfolding opening rhs
opening_useful (Expr j) b c q h = expr_opens (Expr j) j refl b c q h
opening_useful (Only k) b c q h = on_opens (Only k) (piece_class k) (PieceP k) c q (is (Only k) (PieceP k) (λ kids. piece_itself k) (piece_small k)) h
opening_useful IfHead b c q h = cc (h)
opening_useful Inside b c q h = by_or (spec_opening false c) (expr_opening c) q h (spec_opens Inside false spec_inside c q) (expr_opens Inside 0 refl refl c q)
opening_useful CallEnd b c q h = by_or (on_class class.RParen NoArguments c) (expr_opening c) q h (on_opens CallEnd class.RParen NoArguments c q (is CallEnd NoArguments (λ kids. refl) refl)) (expr_opens CallEnd 1 refl refl c q)
opening_useful ParamsEnd b c q h = by_or (on_class class.RParen NoParams c) (spec_opening false c) q h (on_opens ParamsEnd class.RParen NoParams c q (is ParamsEnd NoParams (λ kids. refl) refl)) (spec_opens ParamsEnd false spec_params c q)
opening_useful CastHead b c q h = cc (h)
opening_useful (Spec e) b c q h = spec_opens (Spec e) e (spec_itself e) c q h
opening_useful (Core o) b c q h = core_opens o c q h
opening_useful BareName b c q h = cc (h)
opening_useful ParamTail b c q h = tail_opens c q h
opening_useful MemberDecl b c q h = spec_opens MemberDecl false spec_member c q h
opening_useful Value b c q h = by_or (on_class class.LBrace FirstValue c) (expr_opening c) q h (on_opens Value class.LBrace FirstValue c q (values_use FirstValue (λ kids. refl) refl)) (expr_opens Value 1 refl refl c q)
opening_useful Values b c q h = cc (h)
opening_useful ValuesComma b c q h = cc (h)
opening_useful ValuesEnd b c q h = cc (h)
opening_useful Statement b c q h = statement_opens Statement refl (λ p kids a. a) c q h
opening_useful BlockItem b c q h = by_or (spec_opening false c) (statement_opening c) q h (spec_opens BlockItem false (spec_declares BlockItem refl) c q) (statement_opens BlockItem refl in_block c q)
opening_useful SwitchPart b c q h =
    by_or (label_opening c) (or_else (spec_opening false c) (statement_opening c)) q h (label_opens c q) (λ g. by_or (spec_opening false c) (statement_opening c) q g (spec_opens SwitchPart false (spec_declares SwitchPart refl) c q) (statement_opens SwitchPart refl in_switch c q))
opening_useful ForFirst b c q h =
    by_or (on_class class.Semi Empty c) (or_else (spec_opening false c) (expr_opening c)) q h (on_opens ForFirst class.Semi Empty c q (is ForFirst Empty (λ kids. refl) refl)) (λ g. by_or (spec_opening false c) (expr_opening c) q g (spec_opens ForFirst false (spec_declares ForFirst refl) c q) (expr_opens ForFirst 0 refl refl c q))
opening_useful FunctionEnd b c q h = by_or (on_class class.Semi Empty c) (on_class class.LBrace Block c) q h (on_opens FunctionEnd class.Semi Empty c q (is FunctionEnd Empty (λ kids. refl) refl)) (on_opens FunctionEnd class.LBrace Block c q (is FunctionEnd Block (λ kids. refl) refl))
opening_useful External b c q h = by_or (on_class class.Static StaticExternal c) (spec_opening true c) q h (on_opens External class.Static StaticExternal c q (is External StaticExternal (λ kids. refl) refl)) (spec_opens External true (spec_external External refl) c q)
opening_useful Declared b c q h = spec_opens Declared true (spec_external Declared refl) c q h
opening_useful ExternalRest b c q h = by_or (on_class class.Semi Empty c) (rest_opening c) q h (on_opens ExternalRest class.Semi Empty c q (is ExternalRest Empty (λ kids. refl) refl)) (rest_opens ExternalRest refl c q)
opening_useful DeclaredRest b c q h = rest_opens DeclaredRest refl c q h

-- an operator behind an operand
if_extended : (a b : Bool) (p q : Production) → if_so (and a b) (Some p) ≡ Some q → (a ≡ true) × (Some p ≡ Some q)
if_extended true true p q h = (refl, h)
if_extended true false p q h = cc (h)
if_extended false b p q h = cc (h)

extends : (n : Part) (m k l o : ℕ) (p q : Production) → floor n ≡ Some m → ((kids : Spellings) → category p kids ≡ Level l) → small (rest_of (rhs p)) ≡ true → if_so (and (nat_le m l) (nat_le o k)) (Some p) ≡ Some q → Useful n q
extends n m k l o p q e c s h = let r = if_extended (nat_le m l) (nat_le o k) p q h in use_of n p q r.1 (expr_use n m l p e r.0 c s)

extension_useful : (n : Part) (m k : ℕ) → floor n ≡ Some m → (c : Class) (q : Production) → extended m k (extension c) ≡ Some q → Useful n q
unfolding rhs
extension_useful n m k e class.Step q h = extends n m k 15 15 Suffix q e (λ kids. refl) refl h
extension_useful n m k e class.Dot q h = extends n m k 15 15 Member q e (λ kids. refl) refl h
extension_useful n m k e class.LBracket q h = extends n m k 15 15 Index q e (λ kids. refl) refl h
extension_useful n m k e class.LParen q h = extends n m k 15 15 Call q e (λ kids. refl) refl h
extension_useful n m k e class.Question q h = extends n m k 2 3 Cond q e (λ kids. refl) refl h
extension_useful n m k e class.Equals q h = extends n m k 1 2 Assign q e (λ kids. refl) refl h
extension_useful n m k e class.Compound q h = extends n m k 1 2 Assign q e (λ kids. refl) refl h
extension_useful n m k e class.Comma q h = extends n m k 0 0 CommaExpr q e (λ kids. refl) refl h
extension_useful n m k e class.OrOr q h = extends n m k 3 3 (Binary 3) q e (λ kids. refl) refl h
extension_useful n m k e class.AndAnd q h = extends n m k 4 4 (Binary 4) q e (λ kids. refl) refl h
extension_useful n m k e class.Bar q h = extends n m k 5 5 (Binary 5) q e (λ kids. refl) refl h
extension_useful n m k e class.Caret q h = extends n m k 6 6 (Binary 6) q e (λ kids. refl) refl h
extension_useful n m k e class.Amp q h = extends n m k 7 7 (Binary 7) q e (λ kids. refl) refl h
extension_useful n m k e class.Equality q h = extends n m k 8 8 (Binary 8) q e (λ kids. refl) refl h
extension_useful n m k e class.Relation q h = extends n m k 9 9 (Binary 9) q e (λ kids. refl) refl h
extension_useful n m k e class.Shift q h = extends n m k 10 10 (Binary 10) q e (λ kids. refl) refl h
extension_useful n m k e class.Sum q h = extends n m k 11 11 (Binary 11) q e (λ kids. refl) refl h
extension_useful n m k e class.Star q h = extends n m k 12 12 (Binary 12) q e (λ kids. refl) refl h
extension_useful n m k e class.Slash q h = extends n m k 12 12 (Binary 12) q e (λ kids. refl) refl h
extension_useful n m k e _ q h = cc (h)

ending_useful : (n : Part) (q : Production) → expr_ending n ≡ Some q → Useful n q
unfolding rhs
ending_useful Inside q h = if_itself Inside ExprInside (λ kids. refl) refl q h
ending_useful CallEnd q h = if_itself CallEnd Arguments (λ kids. refl) refl q h
ending_useful Statement q h = if_itself Statement ExprStatement (λ kids. refl) refl q h
ending_useful BlockItem q h = if_itself BlockItem ExprStatement (λ kids. refl) refl q h
ending_useful SwitchPart q h = if_itself SwitchPart ExprStatement (λ kids. refl) refl q h
ending_useful ForFirst q h = if_itself ForFirst ExprStatement (λ kids. refl) refl q h
ending_useful _ q h = cc (h)

level_useful : (n : Part) (o : Option ℕ) → floor n ≡ o → (k : ℕ) (c : Class) (q : Production) → expr_announced o k n c ≡ Some q → Useful n q
level_useful n None e k c q h = cc (h)
level_useful n (Some m) e k c q h = by_or (extended m k (extension c)) (expr_ending n) q h (extension_useful n m k e c q) (ending_useful n q)

cast_useful : (n : Part) (o : Option ℕ) → floor n ≡ o → (q : Production) → cast_announced o ≡ Some q → Useful n q
unfolding rhs
cast_useful n None e q h = cc (h)
cast_useful n (Some m) e q h = at (nat_le m 13) refl h
  where
    at : (b : Bool) → nat_le m 13 ≡ b → if_so b (Some Cast) ≡ Some q → Useful n q
    at true l h = use_of n Cast q h (expr_use n m 13 Cast e l (λ kids. refl) refl)
    at false l h = cc (h)

spec_ends : (e : Bool) (n : Part) (q : Production) → spec_announced e n ≡ Some q → Useful n q
unfolding rhs
spec_ends false Inside q h = if_itself Inside TypeInside (λ kids. refl) refl q h
spec_ends false ParamsEnd q h = if_itself ParamsEnd Params (λ kids. refl) refl q h
spec_ends false MemberDecl q h = if_itself MemberDecl MemberP (λ kids. refl) refl q h
spec_ends false BlockItem q h = if_itself BlockItem Declaration (λ kids. refl) refl q h
spec_ends false SwitchPart q h = if_itself SwitchPart Declaration (λ kids. refl) refl q h
spec_ends false ForFirst q h = if_itself ForFirst Declaration (λ kids. refl) refl q h
spec_ends true External q h = if_itself External DeclaredP (λ kids. refl) refl q h
spec_ends true Declared q h = if_itself Declared DeclaredP (λ kids. refl) refl q h
spec_ends true _ q h = cc (h)
spec_ends false _ q h = cc (h)

core_ends : (n : Part) → accepts RestC n ≡ true → (bare : Bool) (c : Class) (q : Production) → core_ending bare c ≡ Some q → Useful n q
unfolding rhs
core_ends n a true class.LParen q h = if_itself n Function (λ kids. a) refl q h
core_ends n a true class.Name q h = if_itself n Objects (λ kids. a) refl q h
core_ends n a true class.Number q h = if_itself n Objects (λ kids. a) refl q h
core_ends n a true class.Str q h = if_itself n Objects (λ kids. a) refl q h
core_ends n a true class.Null q h = if_itself n Objects (λ kids. a) refl q h
core_ends n a true class.RParen q h = if_itself n Objects (λ kids. a) refl q h
core_ends n a true class.LBracket q h = if_itself n Objects (λ kids. a) refl q h
core_ends n a true class.RBracket q h = if_itself n Objects (λ kids. a) refl q h
core_ends n a true class.LBrace q h = if_itself n Objects (λ kids. a) refl q h
core_ends n a true class.RBrace q h = if_itself n Objects (λ kids. a) refl q h
core_ends n a true class.Comma q h = if_itself n Objects (λ kids. a) refl q h
core_ends n a true class.Semi q h = if_itself n Objects (λ kids. a) refl q h
core_ends n a true class.Colon q h = if_itself n Objects (λ kids. a) refl q h
core_ends n a true class.Question q h = if_itself n Objects (λ kids. a) refl q h
core_ends n a true class.Dot q h = if_itself n Objects (λ kids. a) refl q h
core_ends n a true class.Equals q h = if_itself n Objects (λ kids. a) refl q h
core_ends n a true class.Compound q h = if_itself n Objects (λ kids. a) refl q h
core_ends n a true class.OrOr q h = if_itself n Objects (λ kids. a) refl q h
core_ends n a true class.AndAnd q h = if_itself n Objects (λ kids. a) refl q h
core_ends n a true class.Bar q h = if_itself n Objects (λ kids. a) refl q h
core_ends n a true class.Caret q h = if_itself n Objects (λ kids. a) refl q h
core_ends n a true class.Equality q h = if_itself n Objects (λ kids. a) refl q h
core_ends n a true class.Relation q h = if_itself n Objects (λ kids. a) refl q h
core_ends n a true class.Shift q h = if_itself n Objects (λ kids. a) refl q h
core_ends n a true class.Slash q h = if_itself n Objects (λ kids. a) refl q h
core_ends n a true class.Amp q h = if_itself n Objects (λ kids. a) refl q h
core_ends n a true class.Sum q h = if_itself n Objects (λ kids. a) refl q h
core_ends n a true class.Star q h = if_itself n Objects (λ kids. a) refl q h
core_ends n a true class.Tilde q h = if_itself n Objects (λ kids. a) refl q h
core_ends n a true class.Step q h = if_itself n Objects (λ kids. a) refl q h
core_ends n a true class.Sizeof q h = if_itself n Objects (λ kids. a) refl q h
core_ends n a true class.Const q h = if_itself n Objects (λ kids. a) refl q h
core_ends n a true class.Static q h = if_itself n Objects (λ kids. a) refl q h
core_ends n a true class.Struct q h = if_itself n Objects (λ kids. a) refl q h
core_ends n a true class.Void q h = if_itself n Objects (λ kids. a) refl q h
core_ends n a true class.Basic q h = if_itself n Objects (λ kids. a) refl q h
core_ends n a true class.Sign q h = if_itself n Objects (λ kids. a) refl q h
core_ends n a true class.If q h = if_itself n Objects (λ kids. a) refl q h
core_ends n a true class.Else q h = if_itself n Objects (λ kids. a) refl q h
core_ends n a true class.While q h = if_itself n Objects (λ kids. a) refl q h
core_ends n a true class.Do q h = if_itself n Objects (λ kids. a) refl q h
core_ends n a true class.For q h = if_itself n Objects (λ kids. a) refl q h
core_ends n a true class.Switch q h = if_itself n Objects (λ kids. a) refl q h
core_ends n a true class.Case q h = if_itself n Objects (λ kids. a) refl q h
core_ends n a true class.Default q h = if_itself n Objects (λ kids. a) refl q h
core_ends n a true class.Return q h = if_itself n Objects (λ kids. a) refl q h
core_ends n a true class.Jump q h = if_itself n Objects (λ kids. a) refl q h
core_ends n a true class.End q h = if_itself n Objects (λ kids. a) refl q h
core_ends n a true class.Unused q h = if_itself n Objects (λ kids. a) refl q h
core_ends n a false c q h = if_itself n Objects (λ kids. a) refl q h

announced_core : (bare : Bool) (n : Part) (c : Class) (q : Production) → core_announced bare n c ≡ Some q → Useful n q
announced_core bare ExternalRest c q h = core_ends ExternalRest refl bare c q h
announced_core bare DeclaredRest c q h = core_ends DeclaredRest refl bare c q h
announced_core bare _ c q h = cc (h)

values_end : (p : Production) → Useful Value p → (n : Part) (c : Class) (q : Production) → values_announced p n c ≡ Some q → Useful n q
unfolding rhs
values_end p u Value class.RBrace q h = if_itself Value Braces (λ kids. refl) refl q h
values_end p u Value class.Name q h = use_of Value p q h u
values_end p u Value class.Number q h = use_of Value p q h u
values_end p u Value class.Str q h = use_of Value p q h u
values_end p u Value class.Null q h = use_of Value p q h u
values_end p u Value class.LParen q h = use_of Value p q h u
values_end p u Value class.RParen q h = use_of Value p q h u
values_end p u Value class.LBracket q h = use_of Value p q h u
values_end p u Value class.RBracket q h = use_of Value p q h u
values_end p u Value class.LBrace q h = use_of Value p q h u
values_end p u Value class.Comma q h = use_of Value p q h u
values_end p u Value class.Semi q h = use_of Value p q h u
values_end p u Value class.Colon q h = use_of Value p q h u
values_end p u Value class.Question q h = use_of Value p q h u
values_end p u Value class.Dot q h = use_of Value p q h u
values_end p u Value class.Equals q h = use_of Value p q h u
values_end p u Value class.Compound q h = use_of Value p q h u
values_end p u Value class.OrOr q h = use_of Value p q h u
values_end p u Value class.AndAnd q h = use_of Value p q h u
values_end p u Value class.Bar q h = use_of Value p q h u
values_end p u Value class.Caret q h = use_of Value p q h u
values_end p u Value class.Equality q h = use_of Value p q h u
values_end p u Value class.Relation q h = use_of Value p q h u
values_end p u Value class.Shift q h = use_of Value p q h u
values_end p u Value class.Slash q h = use_of Value p q h u
values_end p u Value class.Amp q h = use_of Value p q h u
values_end p u Value class.Sum q h = use_of Value p q h u
values_end p u Value class.Star q h = use_of Value p q h u
values_end p u Value class.Tilde q h = use_of Value p q h u
values_end p u Value class.Step q h = use_of Value p q h u
values_end p u Value class.Sizeof q h = use_of Value p q h u
values_end p u Value class.Const q h = use_of Value p q h u
values_end p u Value class.Static q h = use_of Value p q h u
values_end p u Value class.Struct q h = use_of Value p q h u
values_end p u Value class.Void q h = use_of Value p q h u
values_end p u Value class.Basic q h = use_of Value p q h u
values_end p u Value class.Sign q h = use_of Value p q h u
values_end p u Value class.If q h = use_of Value p q h u
values_end p u Value class.Else q h = use_of Value p q h u
values_end p u Value class.While q h = use_of Value p q h u
values_end p u Value class.Do q h = use_of Value p q h u
values_end p u Value class.For q h = use_of Value p q h u
values_end p u Value class.Switch q h = use_of Value p q h u
values_end p u Value class.Case q h = use_of Value p q h u
values_end p u Value class.Default q h = use_of Value p q h u
values_end p u Value class.Return q h = use_of Value p q h u
values_end p u Value class.Jump q h = use_of Value p q h u
values_end p u Value class.End q h = use_of Value p q h u
values_end p u Value class.Unused q h = use_of Value p q h u
values_end p u _ c q h = cc (h)

else_useful : (n : Part) (c : Class) (q : Production) → else_announced n c ≡ Some q → Useful n q
unfolding rhs
else_useful Statement class.Else q h = if_itself Statement IfElse (λ kids. refl) refl q h
else_useful BlockItem class.Else q h = if_itself BlockItem IfElse (λ kids. refl) refl q h
else_useful SwitchPart class.Else q h = if_itself SwitchPart IfElse (λ kids. refl) refl q h
else_useful _ _ q h = cc (h)

-- what begins with a part that was read
pub announced_useful : (k : Category) (n : Part) (c : Class) (q : Production) → announced k n c ≡ Some q → Useful n q
unfolding announced rhs
announced_useful (Level k) n c q h = level_useful n (floor n) refl k c q h
announced_useful BracketedType n c q h = cast_useful n (floor n) refl q h
announced_useful (SpecC e) n c q h = spec_ends e n q h
announced_useful (CoreC o bare) n c q h = announced_core bare n c q h
announced_useful ValuesC n c q h = values_end ValueComma (values_use ValueComma (λ kids. refl) refl) n c q h
announced_useful ValuesCommaC n c q h = values_end NextValue (values_use NextValue (λ kids. refl) refl) n c q h
announced_useful (IfC o) n c q h = else_useful n c q h
announced_useful _ n c q h = cc (h)
