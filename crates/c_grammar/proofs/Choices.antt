-- Each production is the one that the machine chooses: where it begins, or behind the part that it begins with.
use Rattle.std.proofs.Common.{◌≡◌, ℕ, List, ◌∷◌, Some, Bool, true, false, refl, sym, ap, ◌∙◌, subst, arith, ◌⊎◌, inl, inr}
use Rattle.std.specs.Prelude.{nat_le, nat_eq}
use Rattle.c_grammar.specs.Class as class
use Rattle.c_grammar.specs.Class.{Class, class_of, class_code, level, same_class, is_atom, is_prefix, is_assignment, is_type_word}
use Rattle.c_grammar.specs.Grammar.{Takes, piece_rhs, Piece, NextArgument, FunctionPart, Pointer, Qualifier, SecondWord, Members, NextMember, AnyLength, FullLength, NextParam, ParamLengths, NamePart, Initial, NextInit, Part, Only, Expr, Inside, CallEnd, ParamsEnd, CastHead, IfHead, Spec, Core, BareName, ParamTail, MemberDecl, Value, Values, ValuesComma, ValuesEnd, Statement, BlockItem, SwitchPart, ForFirst, FunctionEnd, External, Declared, ExternalRest, DeclaredRest, Symbol, Tok, One, Production, Atom, Parens, ExprInside, TypeInside, Prefix, SizeOf, Suffix, Member, Index, Call, NoArguments, Arguments, Assign, Cond, CommaExpr, Cast, Binary, PieceP, ConstSpec, WordSpec, SignSpec, StructSpec, MemberP, NameCore, FunctionCore, NoParams, Params, ParamName, ParamFunction, Declaration, FirstValue, ValueComma, NextValue, Braces, Block, Empty, ExprStatement, If, IfElse, While, Do, For, Switch, Return, Jump, CaseLabel, DefaultLabel, Whole, StaticExternal, DeclaredP, Pointed, Function, Objects, rhs}
use Rattle.c_grammar.specs.Spelling.{Spellings, InsideC, CallEndC, ParamsEndC, ParamTailC, MemberC, BracesC, ValuesC, ValuesCommaC, StatementC, EmptyC, ExprStatementC, BlockC, DeclarationC, LabelC, StaticC, DeclaredC, RestC, category, brackets_category, accepts, takes_level, takes_type, takes_spec, takes_core, takes_piece, takes_if, takes_values, takes_rest, is_statement, has_no_length, last_open}
use Rattle.c_grammar.specs.Machine.{expr_opening, spec_opening, core_opening, tail_opening, chosen, piece_class, opening, floor, spec_announced}
use Rattle.c_grammar.proofs.Codes.{le_to, eq_of, same_self}
use Rattle.c_grammar.proofs.Examples.{small_part}
use Rattle.c_grammar.proofs.Useful.{brackets_cases}
use Rattle.c_grammar.proofs.Follow.{piece_same, trans_le}
use Rattle.std.proofs.lemmas.Bool.{false≢true}

pub false_true : false ≡ true → ⊥
false_true h = absurd (false≢true h)

-- a part stands at the left of another
abbrev pub Begins : Part → Part → Type 0
Begins (Expr j) n = (i : ℕ) × (floor n ≡ Some i) × (nat_le i j ≡ true)
Begins CastHead n = (i : ℕ) × (floor n ≡ Some i) × (nat_le i 13 ≡ true)
Begins IfHead n = is_statement n ≡ true
Begins (Spec e) n = (q : Production) × (spec_announced e n ≡ Some q)
Begins (Core o) n = (o ≡ true) × (takes_rest n ≡ true)
Begins BareName n = takes_rest n ≡ true
Begins Values n = n ≡ Value
Begins ValuesComma n = n ≡ Value
Begins ValuesEnd n = n ≡ Value
Begins _ n = ⊥

-- or is it
abbrev pub Under : Part → Part → Type 0
Under m n = ((m ≡ n) × (small_part n ≡ true)) ⊎ Begins m n

pub record Floor (k : ℕ) (n : Part) : Type 0 where
  pub i : ℕ
  pub is : floor n ≡ Some i
  pub le : nat_le i k ≡ true

pub floor_of : (k : ℕ) (m n : Part) → takes_level k m ≡ true → Under m n → Floor k n
floor_of k (Expr j) n a (inl e) = record { i = j; is = ap floor (sym e.0); le = a }
floor_of k (Expr j) n a (inr b) = record { i = b.0; is = b.1; le = trans_le b.0 j k b.2 a }
floor_of k Value n a (inl e) = record { i = 1; is = ap floor (sym e.0); le = a }
floor_of k Value n a (inr b) = absurd b
floor_of k _ n a u = absurd (false≢true a)

to_fourteen : (j : ℕ) → nat_eq j 14 ≡ true → nat_le j 14 ≡ true
to_fourteen j h = ap (λ z. nat_le z 14) (eq_of j 14 h)

type_floor : (m n : Part) → takes_type m ≡ true → Under m n → Floor 14 n
type_floor (Expr j) n a (inl e) = record { i = j; is = ap floor (sym e.0); le = to_fourteen j a }
type_floor (Expr j) n a (inr b) = record { i = b.0; is = b.1; le = trans_le b.0 j 14 b.2 (to_fourteen j a) }
type_floor CastHead n a (inl e) = absurd (false_true (ap small_part e.0 ∙ e.1))
type_floor CastHead n a (inr b) = record { i = b.0; is = b.1; le = trans_le b.0 13 14 b.2 refl }
type_floor _ n a u = absurd (false≢true a)

-- where an expression is wanted
expr_opens_at : (n : Part) (i : ℕ) → floor n ≡ Some i → (c : Class) (p : Production) → expr_opening c ≡ Some p → opening n c ≡ Some p
unfolding opening same_class
expr_opens_at (Expr j) i e c p h = h
expr_opens_at Inside i e class.Name p h = h
expr_opens_at Inside i e class.Number p h = h
expr_opens_at Inside i e class.Str p h = h
expr_opens_at Inside i e class.Null p h = h
expr_opens_at Inside i e class.LParen p h = h
expr_opens_at Inside i e class.Amp p h = h
expr_opens_at Inside i e class.Sum p h = h
expr_opens_at Inside i e class.Star p h = h
expr_opens_at Inside i e class.Tilde p h = h
expr_opens_at Inside i e class.Step p h = h
expr_opens_at Inside i e class.Sizeof p h = h
expr_opens_at Inside i e _ p h = cc (h)
expr_opens_at CallEnd i e class.Name p h = h
expr_opens_at CallEnd i e class.Number p h = h
expr_opens_at CallEnd i e class.Str p h = h
expr_opens_at CallEnd i e class.Null p h = h
expr_opens_at CallEnd i e class.LParen p h = h
expr_opens_at CallEnd i e class.Amp p h = h
expr_opens_at CallEnd i e class.Sum p h = h
expr_opens_at CallEnd i e class.Star p h = h
expr_opens_at CallEnd i e class.Tilde p h = h
expr_opens_at CallEnd i e class.Step p h = h
expr_opens_at CallEnd i e class.Sizeof p h = h
expr_opens_at CallEnd i e _ p h = cc (h)
expr_opens_at Value i e class.Name p h = h
expr_opens_at Value i e class.Number p h = h
expr_opens_at Value i e class.Str p h = h
expr_opens_at Value i e class.Null p h = h
expr_opens_at Value i e class.LParen p h = h
expr_opens_at Value i e class.Amp p h = h
expr_opens_at Value i e class.Sum p h = h
expr_opens_at Value i e class.Star p h = h
expr_opens_at Value i e class.Tilde p h = h
expr_opens_at Value i e class.Step p h = h
expr_opens_at Value i e class.Sizeof p h = h
expr_opens_at Value i e _ p h = cc (h)
expr_opens_at Statement i e class.Name p h = h
expr_opens_at Statement i e class.Number p h = h
expr_opens_at Statement i e class.Str p h = h
expr_opens_at Statement i e class.Null p h = h
expr_opens_at Statement i e class.LParen p h = h
expr_opens_at Statement i e class.Amp p h = h
expr_opens_at Statement i e class.Sum p h = h
expr_opens_at Statement i e class.Star p h = h
expr_opens_at Statement i e class.Tilde p h = h
expr_opens_at Statement i e class.Step p h = h
expr_opens_at Statement i e class.Sizeof p h = h
expr_opens_at Statement i e _ p h = cc (h)
expr_opens_at BlockItem i e class.Name p h = h
expr_opens_at BlockItem i e class.Number p h = h
expr_opens_at BlockItem i e class.Str p h = h
expr_opens_at BlockItem i e class.Null p h = h
expr_opens_at BlockItem i e class.LParen p h = h
expr_opens_at BlockItem i e class.Amp p h = h
expr_opens_at BlockItem i e class.Sum p h = h
expr_opens_at BlockItem i e class.Star p h = h
expr_opens_at BlockItem i e class.Tilde p h = h
expr_opens_at BlockItem i e class.Step p h = h
expr_opens_at BlockItem i e class.Sizeof p h = h
expr_opens_at BlockItem i e _ p h = cc (h)
expr_opens_at SwitchPart i e class.Name p h = h
expr_opens_at SwitchPart i e class.Number p h = h
expr_opens_at SwitchPart i e class.Str p h = h
expr_opens_at SwitchPart i e class.Null p h = h
expr_opens_at SwitchPart i e class.LParen p h = h
expr_opens_at SwitchPart i e class.Amp p h = h
expr_opens_at SwitchPart i e class.Sum p h = h
expr_opens_at SwitchPart i e class.Star p h = h
expr_opens_at SwitchPart i e class.Tilde p h = h
expr_opens_at SwitchPart i e class.Step p h = h
expr_opens_at SwitchPart i e class.Sizeof p h = h
expr_opens_at SwitchPart i e _ p h = cc (h)
expr_opens_at ForFirst i e class.Name p h = h
expr_opens_at ForFirst i e class.Number p h = h
expr_opens_at ForFirst i e class.Str p h = h
expr_opens_at ForFirst i e class.Null p h = h
expr_opens_at ForFirst i e class.LParen p h = h
expr_opens_at ForFirst i e class.Amp p h = h
expr_opens_at ForFirst i e class.Sum p h = h
expr_opens_at ForFirst i e class.Star p h = h
expr_opens_at ForFirst i e class.Tilde p h = h
expr_opens_at ForFirst i e class.Step p h = h
expr_opens_at ForFirst i e class.Sizeof p h = h
expr_opens_at ForFirst i e _ p h = cc (h)
expr_opens_at _ i e c p h = cc (e)

atom_class : (c : Class) → is_atom c ≡ true → expr_opening c ≡ Some Atom
atom_class class.Name h = refl
atom_class class.Number h = refl
atom_class class.Str h = refl
atom_class class.Null h = refl
atom_class _ h = absurd (false≢true h)

prefix_class : (c : Class) → is_prefix c ≡ true → expr_opening c ≡ Some Prefix
prefix_class class.Amp h = refl
prefix_class class.Sum h = refl
prefix_class class.Star h = refl
prefix_class class.Tilde h = refl
prefix_class class.Step h = refl
prefix_class _ h = absurd (false≢true h)

opens_expr : (k : ℕ) (m n : Part) → takes_level k m ≡ true → Under m n → (c : Class) (p : Production) → expr_opening c ≡ Some p → opening n c ≡ Some p
opens_expr k m n a u c p h = let f = floor_of k m n a u in expr_opens_at n f.i f.is c p h

opens_parens : (kids : Spellings) (m n : Part) → accepts (brackets_category kids) m ≡ true → Under m n → (c : Class) → c ≡ class.LParen → opening n c ≡ Some Parens
opens_parens kids m n a u c s =
    elim (brackets_cases kids) [ inl e ↦ (let f = type_floor m n (ap (λ z. accepts z m) (sym e) ∙ a) u in expr_opens_at n f.i f.is c Parens (ap expr_opening s)) | inr e ↦ opens_expr 15 m n (ap (λ z. accepts z m) (sym e) ∙ a) u c Parens (ap expr_opening s) ]

-- where the words of a type are wanted
spec_opens_at : (f : Bool) (n : Part) (q : Production) → spec_announced f n ≡ Some q → (c : Class) (p : Production) → spec_opening f c ≡ Some p → opening n c ≡ Some p
unfolding opening same_class
spec_opens_at false Inside q e class.Const p h = h
spec_opens_at false Inside q e class.Void p h = h
spec_opens_at false Inside q e class.Basic p h = h
spec_opens_at false Inside q e class.Sign p h = h
spec_opens_at false Inside q e class.Struct p h = h
spec_opens_at false Inside q e _ p h = cc (h)
spec_opens_at false ParamsEnd q e class.Const p h = h
spec_opens_at false ParamsEnd q e class.Void p h = h
spec_opens_at false ParamsEnd q e class.Basic p h = h
spec_opens_at false ParamsEnd q e class.Sign p h = h
spec_opens_at false ParamsEnd q e class.Struct p h = h
spec_opens_at false ParamsEnd q e _ p h = cc (h)
spec_opens_at false BlockItem q e class.Const p h = h
spec_opens_at false BlockItem q e class.Void p h = h
spec_opens_at false BlockItem q e class.Basic p h = h
spec_opens_at false BlockItem q e class.Sign p h = h
spec_opens_at false BlockItem q e class.Struct p h = h
spec_opens_at false BlockItem q e _ p h = cc (h)
spec_opens_at false SwitchPart q e class.Const p h = h
spec_opens_at false SwitchPart q e class.Void p h = h
spec_opens_at false SwitchPart q e class.Basic p h = h
spec_opens_at false SwitchPart q e class.Sign p h = h
spec_opens_at false SwitchPart q e class.Struct p h = h
spec_opens_at false SwitchPart q e _ p h = cc (h)
spec_opens_at false ForFirst q e class.Const p h = h
spec_opens_at false ForFirst q e class.Void p h = h
spec_opens_at false ForFirst q e class.Basic p h = h
spec_opens_at false ForFirst q e class.Sign p h = h
spec_opens_at false ForFirst q e class.Struct p h = h
spec_opens_at false ForFirst q e _ p h = cc (h)
spec_opens_at false MemberDecl q e c p h = h
spec_opens_at false _ q e c p h = cc (e)
spec_opens_at true External q e class.Const p h = h
spec_opens_at true External q e class.Void p h = h
spec_opens_at true External q e class.Basic p h = h
spec_opens_at true External q e class.Sign p h = h
spec_opens_at true External q e class.Struct p h = h
spec_opens_at true External q e _ p h = cc (h)
spec_opens_at true Declared q e c p h = h
spec_opens_at true _ q e c p h = cc (e)

opens_spec : (f : Bool) (m n : Part) → takes_spec f m ≡ true → Under m n → (c : Class) (p : Production) → spec_opening f c ≡ Some p → opening n c ≡ Some p
unfolding opening
opens_spec true (Spec true) n a (inl e) c p h = let P : Part → Type 0 = λ z. opening z c ≡ Some p in subst P e.0 h
opens_spec true (Spec true) n a (inr b) c p h = spec_opens_at true n b.0 b.1 c p h
opens_spec true (Spec false) n a u c p h = absurd (false≢true a)
opens_spec true _ n a u c p h = absurd (false≢true a)
opens_spec false (Spec false) n a (inl e) c p h = let P : Part → Type 0 = λ z. opening z c ≡ Some p in subst P e.0 h
opens_spec false (Spec false) n a (inr b) c p h = spec_opens_at false n b.0 b.1 c p h
opens_spec false (Spec true) n a u c p h = absurd (false≢true a)
opens_spec false _ n a u c p h = absurd (false≢true a)

word_class : (f : Bool) (c : Class) → is_type_word c ≡ true → spec_opening f c ≡ Some (WordSpec f)
word_class f class.Void h = refl
word_class f class.Basic h = refl
word_class f _ h = absurd (false≢true h)

opens_piece : (k : Piece) (m n : Part) → takes_piece k m ≡ true → Under m n → (c : Class) → c ≡ piece_class k → opening n c ≡ Some (PieceP k)
unfolding opening
opens_piece k (Only j) n a (inl e) c s =
    let P : Part → Type 0 = λ z. opening z c ≡ Some (PieceP k) in
    let Q : Piece → Type 0 = λ z. chosen (same_class c (piece_class z)) (PieceP z) ≡ Some (PieceP k) in
    subst P e.0 (subst Q (sym (piece_same j k a)) (ap (λ z. chosen (same_class z (piece_class k)) (PieceP k)) s ∙ ap (λ b. chosen b (PieceP k)) (same_self (piece_class k))))
opens_piece k (Only j) n a (inr b) c s = absurd b
opens_piece ParamLengths ParamTail n a (inl e) c s = let P : Part → Type 0 = λ z. opening z c ≡ Some (PieceP ParamLengths) in subst P e.0 (ap tail_opening s)
opens_piece ParamLengths ParamTail n a (inr b) c s = absurd b
opens_piece k ParamTail n a u c s = absurd (false≢true a)
opens_piece k _ n a u c s = absurd (false≢true a)

rest_opens_at : (n : Part) → takes_rest n ≡ true → (c : Class) (p : Production) → core_opening true c ≡ Some p → opening n c ≡ Some p
unfolding opening same_class
rest_opens_at ExternalRest a class.Name p h = h
rest_opens_at ExternalRest a class.LParen p h = h
rest_opens_at ExternalRest a _ p h = cc (h)
rest_opens_at DeclaredRest a class.Name p h = h
rest_opens_at DeclaredRest a class.LParen p h = h
rest_opens_at DeclaredRest a _ p h = cc (h)
rest_opens_at _ a c p h = absurd (false≢true a)

opens_core : (o bare : Bool) (m n : Part) → takes_core o bare m ≡ true → Under m n → (c : Class) (p : Production) → core_opening o c ≡ Some p → opening n c ≡ Some p
unfolding opening
opens_core true bare (Core true) n a (inl e) c p h = let P : Part → Type 0 = λ z. opening z c ≡ Some p in subst P e.0 h
opens_core true bare (Core true) n a (inr b) c p h = rest_opens_at n b.1 c p h
opens_core true bare (Core false) n a u c p h = absurd (false≢true a)
opens_core false bare (Core false) n a (inl e) c p h = let P : Part → Type 0 = λ z. opening z c ≡ Some p in subst P e.0 h
opens_core false bare (Core false) n a (inr b) c p h = absurd (false_true b.0)
opens_core false bare (Core true) n a u c p h = absurd (false≢true a)
opens_core true true BareName n a (inl e) c p h = absurd (false_true (ap small_part e.0 ∙ e.1))
opens_core true true BareName n a (inr b) c p h = rest_opens_at n b c p h
opens_core true false BareName n a u c p h = absurd (false≢true a)
opens_core false bare BareName n a u c p h = absurd (false≢true a)
opens_core true bare _ n a u c p h = absurd (false≢true a)
opens_core false bare _ n a u c p h = absurd (false≢true a)

opens_no_arguments : (m n : Part) → accepts CallEndC m ≡ true → Under m n → (c : Class) → c ≡ class.RParen → opening n c ≡ Some NoArguments
unfolding opening same_class
opens_no_arguments CallEnd n a (inl e) c s = let P : Part → Type 0 = λ z. opening z class.RParen ≡ Some NoArguments in ap (opening n) s ∙ subst P e.0 refl
opens_no_arguments CallEnd n a (inr b) c s = absurd b
opens_no_arguments _ n a u c s = absurd (false≢true a)

opens_no_params : (m n : Part) → accepts ParamsEndC m ≡ true → Under m n → (c : Class) → c ≡ class.RParen → opening n c ≡ Some NoParams
unfolding opening same_class
opens_no_params ParamsEnd n a (inl e) c s = let P : Part → Type 0 = λ z. opening z class.RParen ≡ Some NoParams in ap (opening n) s ∙ subst P e.0 refl
opens_no_params ParamsEnd n a (inr b) c s = absurd b
opens_no_params _ n a u c s = absurd (false≢true a)

opens_param_name : (m n : Part) → accepts ParamTailC m ≡ true → Under m n → (c : Class) → c ≡ class.Name → opening n c ≡ Some ParamName
unfolding opening same_class
opens_param_name ParamTail n a (inl e) c s = let P : Part → Type 0 = λ z. opening z class.Name ≡ Some ParamName in ap (opening n) s ∙ subst P e.0 refl
opens_param_name ParamTail n a (inr b) c s = absurd b
opens_param_name _ n a u c s = absurd (false≢true a)

opens_param_function : (m n : Part) → accepts ParamTailC m ≡ true → Under m n → (c : Class) → c ≡ class.LParen → opening n c ≡ Some ParamFunction
unfolding opening same_class
opens_param_function ParamTail n a (inl e) c s = let P : Part → Type 0 = λ z. opening z class.LParen ≡ Some ParamFunction in ap (opening n) s ∙ subst P e.0 refl
opens_param_function ParamTail n a (inr b) c s = absurd b
opens_param_function _ n a u c s = absurd (false≢true a)

opens_block : (m n : Part) → accepts BlockC m ≡ true → Under m n → (c : Class) → c ≡ class.LBrace → opening n c ≡ Some Block
unfolding opening same_class
opens_block Statement n a (inl e) c s = let P : Part → Type 0 = λ z. opening z class.LBrace ≡ Some Block in ap (opening n) s ∙ subst P e.0 refl
opens_block Statement n a (inr b) c s = absurd b
opens_block BlockItem n a (inl e) c s = let P : Part → Type 0 = λ z. opening z class.LBrace ≡ Some Block in ap (opening n) s ∙ subst P e.0 refl
opens_block BlockItem n a (inr b) c s = absurd b
opens_block SwitchPart n a (inl e) c s = let P : Part → Type 0 = λ z. opening z class.LBrace ≡ Some Block in ap (opening n) s ∙ subst P e.0 refl
opens_block SwitchPart n a (inr b) c s = absurd b
opens_block FunctionEnd n a (inl e) c s = let P : Part → Type 0 = λ z. opening z class.LBrace ≡ Some Block in ap (opening n) s ∙ subst P e.0 refl
opens_block FunctionEnd n a (inr b) c s = absurd b
opens_block _ n a u c s = absurd (false≢true a)

opens_empty : (m n : Part) → accepts EmptyC m ≡ true → Under m n → (c : Class) → c ≡ class.Semi → opening n c ≡ Some Empty
unfolding opening same_class
opens_empty Statement n a (inl e) c s = let P : Part → Type 0 = λ z. opening z class.Semi ≡ Some Empty in ap (opening n) s ∙ subst P e.0 refl
opens_empty Statement n a (inr b) c s = absurd b
opens_empty BlockItem n a (inl e) c s = let P : Part → Type 0 = λ z. opening z class.Semi ≡ Some Empty in ap (opening n) s ∙ subst P e.0 refl
opens_empty BlockItem n a (inr b) c s = absurd b
opens_empty SwitchPart n a (inl e) c s = let P : Part → Type 0 = λ z. opening z class.Semi ≡ Some Empty in ap (opening n) s ∙ subst P e.0 refl
opens_empty SwitchPart n a (inr b) c s = absurd b
opens_empty ForFirst n a (inl e) c s = let P : Part → Type 0 = λ z. opening z class.Semi ≡ Some Empty in ap (opening n) s ∙ subst P e.0 refl
opens_empty ForFirst n a (inr b) c s = absurd b
opens_empty FunctionEnd n a (inl e) c s = let P : Part → Type 0 = λ z. opening z class.Semi ≡ Some Empty in ap (opening n) s ∙ subst P e.0 refl
opens_empty FunctionEnd n a (inr b) c s = absurd b
opens_empty ExternalRest n a (inl e) c s = let P : Part → Type 0 = λ z. opening z class.Semi ≡ Some Empty in ap (opening n) s ∙ subst P e.0 refl
opens_empty ExternalRest n a (inr b) c s = absurd b
opens_empty _ n a u c s = absurd (false≢true a)

opens_case_label : (m n : Part) → accepts LabelC m ≡ true → Under m n → (c : Class) → c ≡ class.Case → opening n c ≡ Some CaseLabel
unfolding opening same_class
opens_case_label SwitchPart n a (inl e) c s = let P : Part → Type 0 = λ z. opening z class.Case ≡ Some CaseLabel in ap (opening n) s ∙ subst P e.0 refl
opens_case_label SwitchPart n a (inr b) c s = absurd b
opens_case_label _ n a u c s = absurd (false≢true a)

opens_default_label : (m n : Part) → accepts LabelC m ≡ true → Under m n → (c : Class) → c ≡ class.Default → opening n c ≡ Some DefaultLabel
unfolding opening same_class
opens_default_label SwitchPart n a (inl e) c s = let P : Part → Type 0 = λ z. opening z class.Default ≡ Some DefaultLabel in ap (opening n) s ∙ subst P e.0 refl
opens_default_label SwitchPart n a (inr b) c s = absurd b
opens_default_label _ n a u c s = absurd (false≢true a)

opens_static_external : (m n : Part) → accepts StaticC m ≡ true → Under m n → (c : Class) → c ≡ class.Static → opening n c ≡ Some StaticExternal
unfolding opening same_class
opens_static_external External n a (inl e) c s = let P : Part → Type 0 = λ z. opening z class.Static ≡ Some StaticExternal in ap (opening n) s ∙ subst P e.0 refl
opens_static_external External n a (inr b) c s = absurd b
opens_static_external _ n a u c s = absurd (false≢true a)

opens_pointed : (m n : Part) → accepts RestC m ≡ true → Under m n → (c : Class) → c ≡ class.Star → opening n c ≡ Some Pointed
unfolding opening same_class
opens_pointed ExternalRest n a (inl e) c s = let P : Part → Type 0 = λ z. opening z class.Star ≡ Some Pointed in ap (opening n) s ∙ subst P e.0 refl
opens_pointed ExternalRest n a (inr b) c s = absurd b
opens_pointed DeclaredRest n a (inl e) c s = let P : Part → Type 0 = λ z. opening z class.Star ≡ Some Pointed in ap (opening n) s ∙ subst P e.0 refl
opens_pointed DeclaredRest n a (inr b) c s = absurd b
opens_pointed _ n a u c s = absurd (false≢true a)

opens_while : (m n : Part) → accepts StatementC m ≡ true → Under m n → (c : Class) → c ≡ class.While → opening n c ≡ Some While
unfolding opening same_class
opens_while Statement n a (inl e) c s = let P : Part → Type 0 = λ z. opening z class.While ≡ Some While in ap (opening n) s ∙ subst P e.0 refl
opens_while Statement n a (inr b) c s = absurd b
opens_while BlockItem n a (inl e) c s = let P : Part → Type 0 = λ z. opening z class.While ≡ Some While in ap (opening n) s ∙ subst P e.0 refl
opens_while BlockItem n a (inr b) c s = absurd b
opens_while SwitchPart n a (inl e) c s = let P : Part → Type 0 = λ z. opening z class.While ≡ Some While in ap (opening n) s ∙ subst P e.0 refl
opens_while SwitchPart n a (inr b) c s = absurd b
opens_while _ n a u c s = absurd (false≢true a)

opens_do : (m n : Part) → accepts StatementC m ≡ true → Under m n → (c : Class) → c ≡ class.Do → opening n c ≡ Some Do
unfolding opening same_class
opens_do Statement n a (inl e) c s = let P : Part → Type 0 = λ z. opening z class.Do ≡ Some Do in ap (opening n) s ∙ subst P e.0 refl
opens_do Statement n a (inr b) c s = absurd b
opens_do BlockItem n a (inl e) c s = let P : Part → Type 0 = λ z. opening z class.Do ≡ Some Do in ap (opening n) s ∙ subst P e.0 refl
opens_do BlockItem n a (inr b) c s = absurd b
opens_do SwitchPart n a (inl e) c s = let P : Part → Type 0 = λ z. opening z class.Do ≡ Some Do in ap (opening n) s ∙ subst P e.0 refl
opens_do SwitchPart n a (inr b) c s = absurd b
opens_do _ n a u c s = absurd (false≢true a)

opens_for : (m n : Part) → accepts StatementC m ≡ true → Under m n → (c : Class) → c ≡ class.For → opening n c ≡ Some For
unfolding opening same_class
opens_for Statement n a (inl e) c s = let P : Part → Type 0 = λ z. opening z class.For ≡ Some For in ap (opening n) s ∙ subst P e.0 refl
opens_for Statement n a (inr b) c s = absurd b
opens_for BlockItem n a (inl e) c s = let P : Part → Type 0 = λ z. opening z class.For ≡ Some For in ap (opening n) s ∙ subst P e.0 refl
opens_for BlockItem n a (inr b) c s = absurd b
opens_for SwitchPart n a (inl e) c s = let P : Part → Type 0 = λ z. opening z class.For ≡ Some For in ap (opening n) s ∙ subst P e.0 refl
opens_for SwitchPart n a (inr b) c s = absurd b
opens_for _ n a u c s = absurd (false≢true a)

opens_switch : (m n : Part) → accepts StatementC m ≡ true → Under m n → (c : Class) → c ≡ class.Switch → opening n c ≡ Some Switch
unfolding opening same_class
opens_switch Statement n a (inl e) c s = let P : Part → Type 0 = λ z. opening z class.Switch ≡ Some Switch in ap (opening n) s ∙ subst P e.0 refl
opens_switch Statement n a (inr b) c s = absurd b
opens_switch BlockItem n a (inl e) c s = let P : Part → Type 0 = λ z. opening z class.Switch ≡ Some Switch in ap (opening n) s ∙ subst P e.0 refl
opens_switch BlockItem n a (inr b) c s = absurd b
opens_switch SwitchPart n a (inl e) c s = let P : Part → Type 0 = λ z. opening z class.Switch ≡ Some Switch in ap (opening n) s ∙ subst P e.0 refl
opens_switch SwitchPart n a (inr b) c s = absurd b
opens_switch _ n a u c s = absurd (false≢true a)

opens_return : (m n : Part) → accepts StatementC m ≡ true → Under m n → (c : Class) → c ≡ class.Return → opening n c ≡ Some Return
unfolding opening same_class
opens_return Statement n a (inl e) c s = let P : Part → Type 0 = λ z. opening z class.Return ≡ Some Return in ap (opening n) s ∙ subst P e.0 refl
opens_return Statement n a (inr b) c s = absurd b
opens_return BlockItem n a (inl e) c s = let P : Part → Type 0 = λ z. opening z class.Return ≡ Some Return in ap (opening n) s ∙ subst P e.0 refl
opens_return BlockItem n a (inr b) c s = absurd b
opens_return SwitchPart n a (inl e) c s = let P : Part → Type 0 = λ z. opening z class.Return ≡ Some Return in ap (opening n) s ∙ subst P e.0 refl
opens_return SwitchPart n a (inr b) c s = absurd b
opens_return _ n a u c s = absurd (false≢true a)

opens_jump : (m n : Part) → accepts StatementC m ≡ true → Under m n → (c : Class) → c ≡ class.Jump → opening n c ≡ Some Jump
unfolding opening same_class
opens_jump Statement n a (inl e) c s = let P : Part → Type 0 = λ z. opening z class.Jump ≡ Some Jump in ap (opening n) s ∙ subst P e.0 refl
opens_jump Statement n a (inr b) c s = absurd b
opens_jump BlockItem n a (inl e) c s = let P : Part → Type 0 = λ z. opening z class.Jump ≡ Some Jump in ap (opening n) s ∙ subst P e.0 refl
opens_jump BlockItem n a (inr b) c s = absurd b
opens_jump SwitchPart n a (inl e) c s = let P : Part → Type 0 = λ z. opening z class.Jump ≡ Some Jump in ap (opening n) s ∙ subst P e.0 refl
opens_jump SwitchPart n a (inr b) c s = absurd b
opens_jump _ n a u c s = absurd (false≢true a)

if_under : (n : Part) → is_statement n ≡ true → opening n class.If ≡ Some If
unfolding opening same_class
if_under Statement h = refl
if_under BlockItem h = refl
if_under SwitchPart h = refl
if_under _ h = absurd (false≢true h)

opens_if : (o : Bool) (m n : Part) → takes_if o m ≡ true → Under m n → (c : Class) → c ≡ class.If → opening n c ≡ Some If
opens_if o IfHead n a (inl e) c s = absurd (false_true (ap small_part e.0 ∙ e.1))
opens_if o IfHead n a (inr b) c s = ap (opening n) s ∙ if_under n b
opens_if o Statement n a (inl e) c s = ap (opening n) s ∙ if_under n (ap is_statement (sym e.0))
opens_if o Statement n a (inr b) c s = absurd b
opens_if o BlockItem n a (inl e) c s = ap (opening n) s ∙ if_under n (ap is_statement (sym e.0))
opens_if o BlockItem n a (inr b) c s = absurd b
opens_if o SwitchPart n a (inl e) c s = ap (opening n) s ∙ if_under n (ap is_statement (sym e.0))
opens_if o SwitchPart n a (inr b) c s = absurd b
opens_if o _ n a u c s = absurd (false≢true a)

first_value : opening Value class.LBrace ≡ Some FirstValue
unfolding opening same_class
first_value = refl

opens_first_value : (m n : Part) → takes_values m ≡ true → Under m n → (c : Class) → c ≡ class.LBrace → opening n c ≡ Some FirstValue
opens_first_value Values n a (inl e) c s = absurd (false_true (ap small_part e.0 ∙ e.1))
opens_first_value Values n a (inr b) c s = let P : Part → Type 0 = λ z. opening z class.LBrace ≡ Some FirstValue in ap (opening n) s ∙ subst P (sym b) first_value
opens_first_value ValuesEnd n a (inl e) c s = absurd (false_true (ap small_part e.0 ∙ e.1))
opens_first_value ValuesEnd n a (inr b) c s = let P : Part → Type 0 = λ z. opening z class.LBrace ≡ Some FirstValue in ap (opening n) s ∙ subst P (sym b) first_value
opens_first_value _ n a u c s = absurd (false≢true a)

-- the class of a token with which a production begins
abbrev pub StartsWith : List Symbol → Class → Type 0
StartsWith (Tok k ∷ ss) c = Takes k c
StartsWith _ c = ⊥

piece_first : (k : Piece) (c : Class) → StartsWith (piece_rhs k) c → c ≡ piece_class k
piece_first NextArgument c s = s
piece_first FunctionPart c s = s
piece_first Pointer c s = s
piece_first Qualifier c s = s
piece_first SecondWord c s = s
piece_first Members c s = s
piece_first NextMember c s = s
piece_first AnyLength c s = s
piece_first FullLength c s = s
piece_first NextParam c s = s
piece_first ParamLengths c s = s
piece_first NamePart c s = s
piece_first Initial c s = s
piece_first NextInit c s = s

pub opens_at : (p : Production) (kids : Spellings) (m n : Part) → accepts (category p kids) m ≡ true → Under m n → (c : Class) → StartsWith (rhs p) c → opening n c ≡ Some p
unfolding rhs
opens_at Atom kids m n a u c s = opens_expr 15 m n a u c Atom (atom_class c s)
opens_at Parens kids m n a u c s = opens_parens kids m n a u c s
opens_at Prefix kids m n a u c s = opens_expr 14 m n a u c Prefix (prefix_class c s)
opens_at SizeOf kids m n a u c s = opens_expr 14 m n a u c SizeOf (ap expr_opening s)
opens_at (PieceP k) kids m n a u c s = opens_piece k m n a u c (piece_first k c s)
opens_at (ConstSpec f) kids m n a u c s = opens_spec f m n a u c (ConstSpec f) (ap (spec_opening f) s)
opens_at (WordSpec f) kids m n a u c s = opens_spec f m n a u c (WordSpec f) (word_class f c s)
opens_at (SignSpec f) kids m n a u c s = opens_spec f m n a u c (SignSpec f) (ap (spec_opening f) s)
opens_at (StructSpec true) kids m n a u c s = opens_spec true m n a u c (StructSpec true) (ap (spec_opening true) s)
opens_at (StructSpec false) kids m n a u c s = opens_spec false m n a u c (StructSpec false) (ap (spec_opening false) s)
opens_at (NameCore o) kids m n a u c s = opens_core o (has_no_length kids) m n a u c (NameCore o) (ap (core_opening o) s)
opens_at (FunctionCore o) kids m n a u c s = opens_core o false m n a u c (FunctionCore o) (ap (core_opening o) s)
opens_at If kids m n a u c s = opens_if (last_open kids) m n a u c s
opens_at FirstValue kids m n a u c s = opens_first_value m n a u c s
opens_at NoArguments kids m n a u c s = opens_no_arguments m n a u c s
opens_at NoParams kids m n a u c s = opens_no_params m n a u c s
opens_at ParamName kids m n a u c s = opens_param_name m n a u c s
opens_at ParamFunction kids m n a u c s = opens_param_function m n a u c s
opens_at Block kids m n a u c s = opens_block m n a u c s
opens_at Empty kids m n a u c s = opens_empty m n a u c s
opens_at CaseLabel kids m n a u c s = opens_case_label m n a u c s
opens_at DefaultLabel kids m n a u c s = opens_default_label m n a u c s
opens_at StaticExternal kids m n a u c s = opens_static_external m n a u c s
opens_at Pointed kids m n a u c s = opens_pointed m n a u c s
opens_at While kids m n a u c s = opens_while m n a u c s
opens_at Do kids m n a u c s = opens_do m n a u c s
opens_at For kids m n a u c s = opens_for m n a u c s
opens_at Switch kids m n a u c s = opens_switch m n a u c s
opens_at Return kids m n a u c s = opens_return m n a u c s
opens_at Jump kids m n a u c s = opens_jump m n a u c s
opens_at ExprInside kids m n a u c s = absurd s
opens_at TypeInside kids m n a u c s = absurd s
opens_at Suffix kids m n a u c s = absurd s
opens_at Member kids m n a u c s = absurd s
opens_at Index kids m n a u c s = absurd s
opens_at Call kids m n a u c s = absurd s
opens_at Arguments kids m n a u c s = absurd s
opens_at (Binary l) kids m n a u c s = absurd s
opens_at Assign kids m n a u c s = absurd s
opens_at Cond kids m n a u c s = absurd s
opens_at CommaExpr kids m n a u c s = absurd s
opens_at Cast kids m n a u c s = absurd s
opens_at MemberP kids m n a u c s = absurd s
opens_at Params kids m n a u c s = absurd s
opens_at Declaration kids m n a u c s = absurd s
opens_at ValueComma kids m n a u c s = absurd s
opens_at NextValue kids m n a u c s = absurd s
opens_at Braces kids m n a u c s = absurd s
opens_at ExprStatement kids m n a u c s = absurd s
opens_at IfElse kids m n a u c s = absurd s
opens_at DeclaredP kids m n a u c s = absurd s
opens_at Function kids m n a u c s = absurd s
opens_at Objects kids m n a u c s = absurd s
opens_at Whole kids m n a u c s = absurd s

-- what a production begins with stands where the production stands
abbrev pub UnderFirst : List Symbol → Part → Type 0
UnderFirst (One m ∷ ss) n = Under m n
UnderFirst _ n = Unit {0}

piece_under : (k : Piece) (n : Part) → UnderFirst (piece_rhs k) n
piece_under NextArgument n = tt
piece_under FunctionPart n = tt
piece_under Pointer n = tt
piece_under Qualifier n = tt
piece_under SecondWord n = tt
piece_under Members n = tt
piece_under NextMember n = tt
piece_under AnyLength n = tt
piece_under FullLength n = tt
piece_under NextParam n = tt
piece_under ParamLengths n = tt
piece_under NamePart n = tt
piece_under Initial n = tt
piece_under NextInit n = tt

under_inside_expr : (m n : Part) → accepts InsideC m ≡ true → Under m n → Under (Expr 0) n
under_inside_expr Inside n a (inl e) = inr (0, ap floor (sym e.0), refl)
under_inside_expr Inside n a (inr b) = absurd b
under_inside_expr _ n a u = absurd (false≢true a)

under_inside_type : (m n : Part) → accepts InsideC m ≡ true → Under m n → Under (Spec false) n
under_inside_type Inside n a (inl e) = inr (TypeInside, ap (spec_announced false) (sym e.0))
under_inside_type Inside n a (inr b) = absurd b
under_inside_type _ n a u = absurd (false≢true a)

under_arguments : (m n : Part) → accepts CallEndC m ≡ true → Under m n → Under (Expr 1) n
under_arguments CallEnd n a (inl e) = inr (1, ap floor (sym e.0), refl)
under_arguments CallEnd n a (inr b) = absurd b
under_arguments _ n a u = absurd (false≢true a)

under_member : (m n : Part) → accepts MemberC m ≡ true → Under m n → Under (Spec false) n
under_member MemberDecl n a (inl e) = inr (MemberP, ap (spec_announced false) (sym e.0))
under_member MemberDecl n a (inr b) = absurd b
under_member _ n a u = absurd (false≢true a)

under_params : (m n : Part) → accepts ParamsEndC m ≡ true → Under m n → Under (Spec false) n
under_params ParamsEnd n a (inl e) = inr (Params, ap (spec_announced false) (sym e.0))
under_params ParamsEnd n a (inr b) = absurd b
under_params _ n a u = absurd (false≢true a)

under_declaration : (m n : Part) → accepts DeclarationC m ≡ true → Under m n → Under (Spec false) n
under_declaration BlockItem n a (inl e) = inr (Declaration, ap (spec_announced false) (sym e.0))
under_declaration BlockItem n a (inr b) = absurd b
under_declaration SwitchPart n a (inl e) = inr (Declaration, ap (spec_announced false) (sym e.0))
under_declaration SwitchPart n a (inr b) = absurd b
under_declaration ForFirst n a (inl e) = inr (Declaration, ap (spec_announced false) (sym e.0))
under_declaration ForFirst n a (inr b) = absurd b
under_declaration _ n a u = absurd (false≢true a)

under_declared : (m n : Part) → accepts DeclaredC m ≡ true → Under m n → Under (Spec true) n
under_declared External n a (inl e) = inr (DeclaredP, ap (spec_announced true) (sym e.0))
under_declared External n a (inr b) = absurd b
under_declared Declared n a (inl e) = inr (DeclaredP, ap (spec_announced true) (sym e.0))
under_declared Declared n a (inr b) = absurd b
under_declared _ n a u = absurd (false≢true a)

under_expr_statement : (m n : Part) → accepts ExprStatementC m ≡ true → Under m n → Under (Expr 0) n
under_expr_statement Statement n a (inl e) = inr (0, ap floor (sym e.0), refl)
under_expr_statement Statement n a (inr b) = absurd b
under_expr_statement BlockItem n a (inl e) = inr (0, ap floor (sym e.0), refl)
under_expr_statement BlockItem n a (inr b) = absurd b
under_expr_statement SwitchPart n a (inl e) = inr (0, ap floor (sym e.0), refl)
under_expr_statement SwitchPart n a (inr b) = absurd b
under_expr_statement ForFirst n a (inl e) = inr (0, ap floor (sym e.0), refl)
under_expr_statement ForFirst n a (inr b) = absurd b
under_expr_statement _ n a u = absurd (false≢true a)

under_value_comma : (m n : Part) → accepts ValuesCommaC m ≡ true → Under m n → Under Values n
under_value_comma ValuesComma n a (inl e) = absurd (false_true (ap small_part e.0 ∙ e.1))
under_value_comma ValuesComma n a (inr b) = inr b
under_value_comma ValuesEnd n a (inl e) = absurd (false_true (ap small_part e.0 ∙ e.1))
under_value_comma ValuesEnd n a (inr b) = inr b
under_value_comma _ n a u = absurd (false≢true a)

under_next_value : (m n : Part) → accepts ValuesC m ≡ true → Under m n → Under ValuesComma n
under_next_value Values n a (inl e) = absurd (false_true (ap small_part e.0 ∙ e.1))
under_next_value Values n a (inr b) = inr b
under_next_value ValuesEnd n a (inl e) = absurd (false_true (ap small_part e.0 ∙ e.1))
under_next_value ValuesEnd n a (inr b) = inr b
under_next_value _ n a u = absurd (false≢true a)

under_braces : (m n : Part) → accepts BracesC m ≡ true → Under m n → Under ValuesEnd n
under_braces Value n a (inl e) = inr (sym e.0)
under_braces Value n a (inr b) = absurd b
under_braces _ n a u = absurd (false≢true a)

under_if_else : (m n : Part) → accepts StatementC m ≡ true → Under m n → Under IfHead n
under_if_else Statement n a (inl e) = inr (ap is_statement (sym e.0))
under_if_else Statement n a (inr b) = absurd b
under_if_else BlockItem n a (inl e) = inr (ap is_statement (sym e.0))
under_if_else BlockItem n a (inr b) = absurd b
under_if_else SwitchPart n a (inl e) = inr (ap is_statement (sym e.0))
under_if_else SwitchPart n a (inr b) = absurd b
under_if_else _ n a u = absurd (false≢true a)

under_function : (m n : Part) → accepts RestC m ≡ true → Under m n → Under BareName n
under_function ExternalRest n a (inl e) = inr (ap takes_rest (sym e.0))
under_function ExternalRest n a (inr b) = absurd b
under_function DeclaredRest n a (inl e) = inr (ap takes_rest (sym e.0))
under_function DeclaredRest n a (inr b) = absurd b
under_function _ n a u = absurd (false≢true a)

under_objects : (m n : Part) → accepts RestC m ≡ true → Under m n → Under (Core true) n
under_objects ExternalRest n a (inl e) = inr (refl, ap takes_rest (sym e.0))
under_objects ExternalRest n a (inr b) = absurd b
under_objects DeclaredRest n a (inl e) = inr (refl, ap takes_rest (sym e.0))
under_objects DeclaredRest n a (inr b) = absurd b
under_objects _ n a u = absurd (false≢true a)

under_level : (k j : ℕ) (m n : Part) → takes_level k m ≡ true → Under m n → nat_le k j ≡ true → Under (Expr j) n
under_level k j m n a u h = let f = floor_of k m n a u in inr (f.i, f.is, trans_le f.i k j f.le h)

under_cast : (m n : Part) → takes_level 13 m ≡ true → Under m n → Under CastHead n
under_cast m n a u = let f = floor_of 13 m n a u in inr (f.i, f.is, f.le)

pub same_le : (l : ℕ) → nat_le l l ≡ true
same_le l = le_to l l (omega arith)

pub under_first : (p : Production) (kids : Spellings) (m n : Part) → accepts (category p kids) m ≡ true → Under m n → UnderFirst (rhs p) n
unfolding rhs
under_first ExprInside kids m n a u = under_inside_expr m n a u
under_first TypeInside kids m n a u = under_inside_type m n a u
under_first Suffix kids m n a u = under_level 15 15 m n a u refl
under_first Member kids m n a u = under_level 15 15 m n a u refl
under_first Index kids m n a u = under_level 15 15 m n a u refl
under_first Call kids m n a u = under_level 15 15 m n a u refl
under_first Arguments kids m n a u = under_arguments m n a u
under_first (Binary l) kids m n a u = under_level l l m n a u (same_le l)
under_first Assign kids m n a u = under_level 1 2 m n a u refl
under_first Cond kids m n a u = under_level 2 3 m n a u refl
under_first CommaExpr kids m n a u = under_level 0 0 m n a u refl
under_first Cast kids m n a u = under_cast m n a u
under_first MemberP kids m n a u = under_member m n a u
under_first Params kids m n a u = under_params m n a u
under_first Declaration kids m n a u = under_declaration m n a u
under_first ValueComma kids m n a u = under_value_comma m n a u
under_first NextValue kids m n a u = under_next_value m n a u
under_first Braces kids m n a u = under_braces m n a u
under_first ExprStatement kids m n a u = under_expr_statement m n a u
under_first IfElse kids m n a u = under_if_else m n a u
under_first DeclaredP kids m n a u = under_declared m n a u
under_first Function kids m n a u = under_function m n a u
under_first Objects kids m n a u = under_objects m n a u
under_first (PieceP k) kids m n a u = piece_under k n
under_first (StructSpec true) kids m n a u = tt
under_first (StructSpec false) kids m n a u = tt
under_first _ kids m n a u = tt
