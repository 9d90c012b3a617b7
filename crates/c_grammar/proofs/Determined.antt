-- Every spelling is what the machine chooses, so it is read.
use Rattle.std.proofs.Common.{◌≡◌, ℕ, List, [], ◌∷◌, ◌++◌, Option, Some, None, Bool, true, false, refl, sym, ap, ◌∙◌, subst, ◌⊎◌, inl, inr}
use Rattle.c_syntax.specs.declared.token.Token.{Token}
use Rattle.c_grammar.specs.Class as class
use Rattle.c_grammar.specs.Class.{Class, class_of, level, same_class}
use Rattle.c_grammar.specs.Grammar as grammar
use Rattle.std.specs.Prelude.{nat_le, suc}
use Rattle.c_grammar.specs.Grammar.{Terminal, Takes, piece_rhs, Piece, NextArgument, FunctionPart, Pointer, Qualifier, SecondWord, Members, NextMember, AnyLength, FullLength, NextParam, ParamLengths, NamePart, Initial, NextInit, Part, Statement, External, IfHead, Symbol, Tok, One, Many, Maybe, Production, PieceP, StructSpec, If, IfElse, While, For, Whole, Prefix, SizeOf, Binary, Assign, Cond, CommaExpr, Cast, ConstSpec, WordSpec, SignSpec, NameCore, ParamName, FirstValue, Parens, ExprInside, TypeInside, Suffix, Member, Index, Call, Arguments, MemberP, Params, Declaration, ValueComma, NextValue, Braces, ExprStatement, DeclaredP, Function, Objects, FunctionCore, rhs}
use Rattle.c_grammar.specs.Spelling.{Spelling, Leaf, Node, Row, Spellings, Nil, Cons, Category, Level, BracketedType, InsideC, CallEndC, ParamsEndC, SpecC, CoreC, PieceC, ParamTailC, MemberC, BracesC, ValuesC, ValuesCommaC, IfC, StatementC, EmptyC, ExprStatementC, BlockC, DeclarationC, LabelC, UnitC, StaticC, DeclaredC, RestC, category, accepts, tokens, all_tokens, Fits, AllFit, ItemsFit, is_if, has_body, ends_open, last_open, Spelt, Starts}
use Rattle.c_grammar.specs.Spelling as spelling
use Rattle.c_grammar.specs.Machine.{takes, opening, announced, closed, moved, at_token, give, step, then_run, run, start, whole}
use Rattle.c_grammar.proofs.Codes.{takes_complete, same_of}
use Rattle.c_grammar.proofs.Examples.{and, and_left, and_right, small_part}
use Rattle.c_grammar.proofs.Useful.{rest_of, brackets_cases}
use Rattle.c_grammar.proofs.Follow.{or, neg, implies, implied, has, ends, after, may, ok, again, clear, clear_front, clear_rest, unit_clear, body_clear, ends_after, ends_none}
use Rattle.c_grammar.proofs.Choices.{false_true, Under, StartsWith, opens_at, UnderFirst, under_first}
use Rattle.c_grammar.proofs.Behind.{some_number, AcceptsFirst, announces_at, first_after}
use Rattle.c_grammar.proofs.Reading.{first, Corner, ReadsFrom, ReadsKids, ReadsAt, ReadsItems, reads_row}
use Rattle.std.proofs.lemmas.Bool.{false≢true}

-- what a production that stands for a part begins with: a token, or a part
abbrev FirstOk : List Symbol → Type 0
FirstOk [] = ⊥
FirstOk (Tok k ∷ ss) = Unit {0}
FirstOk (One n ∷ ss) = Unit {0}
FirstOk (Many n ∷ ss) = ⊥
FirstOk (Maybe n ∷ ss) = ⊥

piece_first_ok : (k : Piece) → FirstOk (piece_rhs k)
piece_first_ok NextArgument = tt
piece_first_ok FunctionPart = tt
piece_first_ok Pointer = tt
piece_first_ok Qualifier = tt
piece_first_ok SecondWord = tt
piece_first_ok Members = tt
piece_first_ok NextMember = tt
piece_first_ok AnyLength = tt
piece_first_ok FullLength = tt
piece_first_ok NextParam = tt
piece_first_ok ParamLengths = tt
piece_first_ok NamePart = tt
piece_first_ok Initial = tt
piece_first_ok NextInit = tt

first_ok : (p : Production) (kids : Spellings) (m : Part) → accepts (category p kids) m ≡ true → FirstOk (rhs p)
unfolding rhs
first_ok Whole kids m a = absurd (false≢true a)
first_ok (PieceP k) kids m a = piece_first_ok k
first_ok (StructSpec true) kids m a = tt
first_ok (StructSpec false) kids m a = tt
first_ok _ kids m a = tt

abbrev has_part : Symbol → Bool
has_part (Tok k) = true
has_part (One n) = small_part n
has_part (Many n) = small_part n
has_part (Maybe n) = small_part n

-- all parts can be wanted
abbrev parts_small : List Symbol → Bool
parts_small [] = true
parts_small (s ∷ ss) = and (has_part s) (parts_small ss)

-- where one of them begins, the machine finds a production
starts_at : (kids : Spellings) (ss : List Symbol) (p : Production) (all : Spellings) → rhs p ≡ ss → (m n : Part) → accepts (category p all) m ≡ true → FirstOk ss → AllFit kids ss → Under m n → all_tokens all ≡ all_tokens kids → Corner (Node p all) n
starts_at kids [] p all e m n a o f u t = absurd o
starts_at (Cons (Leaf t) xs) (Tok k ∷ ss) p all e m n a o f u et =
    record { t = t; ts = all_tokens xs; p = p; tokens_are = et; opens = opens_at p all m n a u (class_of t) (let P : List Symbol → Type 0 = λ z. StartsWith z (class_of t) in subst P (sym e) f.0) }
starts_at (Cons (Node q ks) xs) (Tok k ∷ ss) p all e m n a o f u et = absurd f.0
starts_at (Cons (Row items) xs) (Tok k ∷ ss) p all e m n a o f u et = absurd f.0
starts_at Nil (Tok k ∷ ss) p all e m n a o f u et = absurd f
starts_at (Cons (Node q ks) xs) (One r ∷ ss) p all e m n a o f u et =
    let c = starts_at ks (rhs q) q ks refl r n f.0.0 (first_ok q ks r f.0.0) f.0.1 (let P : List Symbol → Type 0 = λ z. UnderFirst z n in subst P e (under_first p all m n a u)) refl in
    record { t = c.t; ts = c.ts ++ all_tokens xs; p = c.p; tokens_are = et ∙ ap (λ z. z ++ all_tokens xs) c.tokens_are; opens = c.opens }
starts_at (Cons (Leaf t) xs) (One r ∷ ss) p all e m n a o f u et = absurd f.0
starts_at (Cons (Row items) xs) (One r ∷ ss) p all e m n a o f u et = absurd f.0
starts_at Nil (One r ∷ ss) p all e m n a o f u et = absurd f
starts_at kids (Many r ∷ ss) p all e m n a o f u et = absurd o
starts_at kids (Maybe r ∷ ss) p all e m n a o f u et = absurd o

starts_part : (x : Spelling) (n : Part) → small_part n ≡ true → Fits x (One n) → Corner x n
starts_part (Leaf t) n b f = absurd f
starts_part (Row items) n b f = absurd f
starts_part (Node p kids) n b f = starts_at kids (rhs p) p kids refl n n f.0 (first_ok p kids n f.0) f.1 (inl (refl, b)) refl

has_some : (o : Option Production) (p : Production) → o ≡ Some p → has o ≡ true
has_some o p e = ap has e

or_left : (a b : Bool) → a ≡ true → or a b ≡ true
or_left a b h = ap (λ z. or z b) h

or_right : (a b : Bool) → b ≡ true → or a b ≡ true
or_right true b h = refl
or_right false b h = h

-- the first token of a spelled part opens it
first_opens : (x : Spelling) (n : Part) → Corner x n → (ys xs : List Token) (u : Token) → has (opening n (class_of (first ((tokens x ++ ys) ++ xs) u))) ≡ true
first_opens x n c ys xs u =
    let P : List Token → Type 0 = λ z. has (opening n (class_of (first ((z ++ ys) ++ xs) u))) ≡ true in
    subst P (sym c.tokens_are) (has_some (opening n (class_of c.t)) c.p c.opens)

first_one : (x : Spelling) (n : Part) → Corner x n → (xs : List Token) (u : Token) → has (opening n (class_of (first (tokens x ++ xs) u))) ≡ true
first_one x n c xs u =
    let P : List Token → Type 0 = λ z. has (opening n (class_of (first (z ++ xs) u))) ≡ true in
    subst P (sym c.tokens_are) (has_some (opening n (class_of c.t)) c.p c.opens)

-- the first token of what stands at places, before u
may_first : (xs : Spellings) (ss : List Symbol) (u : Token) (a : Class → Bool) → AllFit xs ss → parts_small ss ≡ true → a (class_of u) ≡ true → may ss (a (class_of (first (all_tokens xs) u))) (class_of (first (all_tokens xs) u)) ≡ true
may_first Nil [] u a f m h = h
may_first Nil (s ∷ ss) u a f m h = absurd f
may_first (Cons x xs) [] u a f m h = absurd f
may_first (Cons (Leaf t) xs) (Tok k ∷ ss) u a f m h = takes_complete k (class_of t) f.0
may_first (Cons (Node p ks) xs) (Tok k ∷ ss) u a f m h = absurd f.0
may_first (Cons (Row items) xs) (Tok k ∷ ss) u a f m h = absurd f.0
may_first (Cons x xs) (One n ∷ ss) u a f m h = first_one x n (starts_part x n (and_left (small_part n) (parts_small ss) m) f.0) (all_tokens xs) u
may_first (Cons (Row Nil) xs) (Many n ∷ ss) u a f m h =
    let v : Token = first (all_tokens xs) u in
    or_right (has (opening n (class_of v))) (may ss (a (class_of v)) (class_of v)) (may_first xs ss u a f.1 (and_right (small_part n) (parts_small ss) m) h)
may_first (Cons (Row (Cons y ys)) xs) (Many n ∷ ss) u a f m h =
    let v : Token = first ((tokens y ++ all_tokens ys) ++ all_tokens xs) u in
    or_left (has (opening n (class_of v))) (may ss (a (class_of v)) (class_of v)) (first_opens y n (starts_part y n (and_left (small_part n) (parts_small ss) m) f.0.0) (all_tokens ys) (all_tokens xs) u)
may_first (Cons (Leaf t) xs) (Many n ∷ ss) u a f m h = absurd f.0
may_first (Cons (Node p ks) xs) (Many n ∷ ss) u a f m h = absurd f.0
may_first (Cons (Row Nil) xs) (Maybe n ∷ ss) u a f m h =
    let v : Token = first (all_tokens xs) u in
    or_right (has (opening n (class_of v))) (may ss (a (class_of v)) (class_of v)) (may_first xs ss u a f.1 (and_right (small_part n) (parts_small ss) m) h)
may_first (Cons (Row (Cons y Nil)) xs) (Maybe n ∷ ss) u a f m h =
    let v : Token = first ((tokens y ++ []) ++ all_tokens xs) u in
    or_left (has (opening n (class_of v))) (may ss (a (class_of v)) (class_of v)) (first_opens y n (starts_part y n (and_left (small_part n) (parts_small ss) m) f.0) [] (all_tokens xs) u)
may_first (Cons (Row (Cons y (Cons z zs))) xs) (Maybe n ∷ ss) u a f m h = absurd f.0
may_first (Cons (Leaf t) xs) (Maybe n ∷ ss) u a f m h = absurd f.0
may_first (Cons (Node p ks) xs) (Maybe n ∷ ss) u a f m h = absurd f.0

none_of : (o : Option Production) → neg (has o) ≡ true → o ≡ None
none_of None h = refl
none_of (Some p) h = absurd (false≢true h)

-- a class may follow a production; an `else` may follow one that doesn't end in an `if` without `else`
abbrev Follows : Production → Spellings → Class → Type 0
Follows p kids c = (after p c ≡ true) ⊎ ((c ≡ class.Else) × (last_open kids ≡ false) × (spelling.or (is_if p) (has_body p) ≡ true))

abbrev EndsInStatement : List Symbol → Type 0
EndsInStatement [] = ⊥
EndsInStatement (s ∷ []) = s ≡ One Statement
EndsInStatement (s ∷ r ∷ ss) = EndsInStatement (r ∷ ss)

body_ends : (p : Production) → spelling.or (is_if p) (has_body p) ≡ true → EndsInStatement (rest_of (rhs p))
unfolding rhs
body_ends If h = refl
body_ends IfElse h = refl
body_ends While h = refl
body_ends For h = refl
body_ends _ h = absurd (false≢true h)

-- a statement that doesn't end so is no `if`
statement_rest : (p : Production) (kids : Spellings) → accepts (category p kids) Statement ≡ true → is_if p ≡ false → has_body p ≡ false → after p class.Else ≡ true
statement_rest Prefix kids a i b = absurd (false≢true a)
statement_rest SizeOf kids a i b = absurd (false≢true a)
statement_rest (Binary l) kids a i b = absurd (false≢true a)
statement_rest Assign kids a i b = absurd (false≢true a)
statement_rest Cond kids a i b = absurd (false≢true a)
statement_rest CommaExpr kids a i b = absurd (false≢true a)
statement_rest Cast kids a i b = absurd (false≢true a)
statement_rest (PieceP k) kids a i b = absurd (false≢true a)
statement_rest (ConstSpec e) kids a i b = absurd (false≢true a)
statement_rest (WordSpec e) kids a i b = absurd (false≢true a)
statement_rest (SignSpec e) kids a i b = absurd (false≢true a)
statement_rest (StructSpec e) kids a i b = absurd (false≢true a)
statement_rest (NameCore o) kids a i b = absurd (false≢true a)
statement_rest ParamName kids a i b = absurd (false≢true a)
statement_rest FirstValue kids a i b = absurd (false≢true a)
statement_rest NextValue kids a i b = absurd (false≢true a)
statement_rest If kids a i b = cc (i)
statement_rest IfElse kids a i b = cc (b)
statement_rest While kids a i b = cc (b)
statement_rest For kids a i b = cc (b)
statement_rest _ kids a i b = refl

abbrev is_if_category : Category → Bool
is_if_category (IfC o) = true
is_if_category _ = false

brackets_no_if : (x : Spelling) → is_if_category (spelling.inside_category x) ≡ false
brackets_no_if (Node TypeInside kids) = refl
brackets_no_if _ = refl

no_if : (p : Production) (kids : Spellings) → is_if p ≡ false → is_if_category (category p kids) ≡ false
no_if If kids h = cc (h)
no_if Parens (Cons o (Cons x xs)) h = brackets_no_if x
no_if Parens (Cons o Nil) h = refl
no_if Parens Nil h = refl
no_if _ kids h = refl

else_free : (c : Category) → accepts c Statement ≡ true → is_if_category c ≡ false → announced c Statement class.Else ≡ None
unfolding announced
else_free (IfC o) a h = cc (h)
else_free (Level k) a h = absurd (false≢true a)
else_free BracketedType a h = absurd (false≢true a)
else_free (SpecC e) a h = absurd (false≢true a)
else_free (CoreC o bare) a h = absurd (false≢true a)
else_free ValuesC a h = absurd (false≢true a)
else_free ValuesCommaC a h = absurd (false≢true a)
else_free _ a h = refl

or_false_left : (a b : Bool) → spelling.or a b ≡ false → a ≡ false
or_false_left true b h = h
or_false_left false b h = refl

or_false_right : (a b : Bool) → spelling.or a b ≡ false → b ≡ false
or_false_right true b h = cc (h)
or_false_right false b h = h

body_last : (b o : Bool) → b ≡ true → spelling.and b o ≡ false → o ≡ false
body_last true o e h = h
body_last false o e h = absurd (false≢true e)

body_or : (a b : Bool) → b ≡ true → spelling.or a b ≡ true
body_or true b h = refl
body_or false b h = h

follow_else : (p : Production) (kids : Spellings) → accepts (category p kids) Statement ≡ true → ends_open (Node p kids) ≡ false → Follows p kids class.Else
follow_else p kids a h = at (has_body p) refl
  where
    no_if' : is_if p ≡ false
    no_if' = or_false_left (is_if p) (spelling.and (has_body p) (last_open kids)) h

    at : (b : Bool) → has_body p ≡ b → Follows p kids class.Else
    at true e = inr (refl, body_last (has_body p) (last_open kids) e (or_false_right (is_if p) (spelling.and (has_body p) (last_open kids)) h), body_or (is_if p) (has_body p) e)
    at false e = inl (statement_rest p kids a no_if' e)

-- the head of an `if` with `else`
same_false : (b : Bool) → spelling.same b false ≡ true → b ≡ false
same_false false h = refl
same_false true h = absurd (false≢true h)

head_of : (q : Production) (ks : Spellings) → accepts (category q ks) IfHead ≡ true → (last_open ks ≡ false) × (spelling.or (is_if q) (has_body q) ≡ true)
head_of If ks a = (same_false (last_open ks) a, refl)
head_of Parens ks a = elim (brackets_cases ks) [ inl e ↦ absurd (false_true (ap (λ z. accepts z IfHead) (sym e) ∙ a)) | inr e ↦ absurd (false_true (ap (λ z. accepts z IfHead) (sym e) ∙ a)) ]
head_of _ ks a = absurd (false≢true a)

-- what follows the part that a production begins with may follow it
first_follows : (p : Production) (v : Class) (b : Bool) → may (rest_of (rhs p)) b v ≡ true → (q : Production) (ks : Spellings) → AcceptsFirst (rhs p) (category q ks) → Follows q ks v
unfolding rhs
first_follows IfElse v b h q ks a = let r = head_of q ks a in inr (same_of v class.Else h, r.0, r.1)
first_follows ExprInside v b h q ks a = inl (first_after ExprInside refl v b h q ks a)
first_follows TypeInside v b h q ks a = inl (first_after TypeInside refl v b h q ks a)
first_follows Suffix v b h q ks a = inl (first_after Suffix refl v b h q ks a)
first_follows Member v b h q ks a = inl (first_after Member refl v b h q ks a)
first_follows Index v b h q ks a = inl (first_after Index refl v b h q ks a)
first_follows Call v b h q ks a = inl (first_after Call refl v b h q ks a)
first_follows Arguments v b h q ks a = inl (first_after Arguments refl v b h q ks a)
first_follows (Binary l) v b h q ks a = inl (first_after (Binary l) refl v b h q ks a)
first_follows Assign v b h q ks a = inl (first_after Assign refl v b h q ks a)
first_follows Cond v b h q ks a = inl (first_after Cond refl v b h q ks a)
first_follows CommaExpr v b h q ks a = inl (first_after CommaExpr refl v b h q ks a)
first_follows Cast v b h q ks a = inl (first_after Cast refl v b h q ks a)
first_follows MemberP v b h q ks a = inl (first_after MemberP refl v b h q ks a)
first_follows Params v b h q ks a = inl (first_after Params refl v b h q ks a)
first_follows Declaration v b h q ks a = inl (first_after Declaration refl v b h q ks a)
first_follows ValueComma v b h q ks a = inl (first_after ValueComma refl v b h q ks a)
first_follows NextValue v b h q ks a = inl (first_after NextValue refl v b h q ks a)
first_follows Braces v b h q ks a = inl (first_after Braces refl v b h q ks a)
first_follows ExprStatement v b h q ks a = inl (first_after ExprStatement refl v b h q ks a)
first_follows DeclaredP v b h q ks a = inl (first_after DeclaredP refl v b h q ks a)
first_follows Function v b h q ks a = inl (first_after Function refl v b h q ks a)
first_follows Objects v b h q ks a = inl (first_after Objects refl v b h q ks a)
first_follows (PieceP k) v b h q ks a = absurd (no_first k a)
  where
    no_first : (k : Piece) → AcceptsFirst (piece_rhs k) (category q ks) → ⊥
    no_first NextArgument a = a
    no_first FunctionPart a = a
    no_first Pointer a = a
    no_first Qualifier a = a
    no_first SecondWord a = a
    no_first Members a = a
    no_first NextMember a = a
    no_first AnyLength a = a
    no_first FullLength a = a
    no_first NextParam a = a
    no_first ParamLengths a = a
    no_first NamePart a = a
    no_first Initial a = a
    no_first NextInit a = a
first_follows (StructSpec true) v b h q ks a = absurd a
first_follows (StructSpec false) v b h q ks a = absurd a
first_follows _ v b h q ks a = absurd a

-- a level that an operator has
level_fits : (v : Class) (l : ℕ) → level v ≡ Some l → nat_le (suc l) 14 ≡ true
level_fits class.OrOr l h = ap (λ z. nat_le (suc z) 14) (sym (some_number 3 l h))
level_fits class.AndAnd l h = ap (λ z. nat_le (suc z) 14) (sym (some_number 4 l h))
level_fits class.Bar l h = ap (λ z. nat_le (suc z) 14) (sym (some_number 5 l h))
level_fits class.Caret l h = ap (λ z. nat_le (suc z) 14) (sym (some_number 6 l h))
level_fits class.Amp l h = ap (λ z. nat_le (suc z) 14) (sym (some_number 7 l h))
level_fits class.Equality l h = ap (λ z. nat_le (suc z) 14) (sym (some_number 8 l h))
level_fits class.Relation l h = ap (λ z. nat_le (suc z) 14) (sym (some_number 9 l h))
level_fits class.Shift l h = ap (λ z. nat_le (suc z) 14) (sym (some_number 10 l h))
level_fits class.Sum l h = ap (λ z. nat_le (suc z) 14) (sym (some_number 11 l h))
level_fits class.Star l h = ap (λ z. nat_le (suc z) 14) (sym (some_number 12 l h))
level_fits class.Slash l h = ap (λ z. nat_le (suc z) 14) (sym (some_number 12 l h))
level_fits _ l h = cc (h)

rest_parts : (p : Production) (xs : Spellings) → AllFit xs (rest_of (rhs p)) → parts_small (rest_of (rhs p)) ≡ true
unfolding rhs
rest_parts (Binary l) (Cons (Leaf t) xs) f = ap (λ z. and true (and z true)) (level_fits (class_of t) l f.0)
rest_parts (Binary l) (Cons (Node q ks) xs) f = absurd f.0
rest_parts (Binary l) (Cons (Row items) xs) f = absurd f.0
rest_parts (Binary l) Nil f = absurd f
rest_parts (PieceP k) xs f = of_piece k
  where
    of_piece : (k : Piece) → parts_small (rest_of (piece_rhs k)) ≡ true
    of_piece NextArgument = refl
    of_piece FunctionPart = refl
    of_piece Pointer = refl
    of_piece Qualifier = refl
    of_piece SecondWord = refl
    of_piece Members = refl
    of_piece NextMember = refl
    of_piece AnyLength = refl
    of_piece FullLength = refl
    of_piece NextParam = refl
    of_piece ParamLengths = refl
    of_piece NamePart = refl
    of_piece Initial = refl
    of_piece NextInit = refl
rest_parts (StructSpec true) xs f = refl
rest_parts (StructSpec false) xs f = refl
rest_parts (NameCore true) xs f = refl
rest_parts (NameCore false) xs f = refl
rest_parts (FunctionCore true) xs f = refl
rest_parts (FunctionCore false) xs f = refl
rest_parts _ xs f = refl

-- places of which one is never empty
abbrev solid : List Symbol → Bool
solid [] = false
solid (Tok k ∷ ss) = true
solid (One n ∷ ss) = true
solid (Many n ∷ ss) = solid ss
solid (Maybe n ∷ ss) = solid ss

abbrev StartsInPart : List Symbol → Type 0
StartsInPart (One n ∷ ss) = Unit {0}
StartsInPart _ = ⊥

solid_rest : (p : Production) → StartsInPart (rhs p) → solid (rest_of (rhs p)) ≡ true
unfolding rhs
solid_rest ExprInside h = refl
solid_rest TypeInside h = refl
solid_rest Suffix h = refl
solid_rest Member h = refl
solid_rest Index h = refl
solid_rest Call h = refl
solid_rest Arguments h = refl
solid_rest (Binary l) h = refl
solid_rest Assign h = refl
solid_rest Cond h = refl
solid_rest CommaExpr h = refl
solid_rest Cast h = refl
solid_rest MemberP h = refl
solid_rest Params h = refl
solid_rest Declaration h = refl
solid_rest ValueComma h = refl
solid_rest NextValue h = refl
solid_rest Braces h = refl
solid_rest ExprStatement h = refl
solid_rest IfElse h = refl
solid_rest DeclaredP h = refl
solid_rest Function h = refl
solid_rest Objects h = refl
solid_rest (PieceP k) h = absurd (no_first k h)
  where
    no_first : (k : Piece) → StartsInPart (piece_rhs k) → ⊥
    no_first NextArgument a = a
    no_first FunctionPart a = a
    no_first Pointer a = a
    no_first Qualifier a = a
    no_first SecondWord a = a
    no_first Members a = a
    no_first NextMember a = a
    no_first AnyLength a = a
    no_first FullLength a = a
    no_first NextParam a = a
    no_first ParamLengths a = a
    no_first NamePart a = a
    no_first Initial a = a
    no_first NextInit a = a
solid_rest (StructSpec true) h = absurd h
solid_rest (StructSpec false) h = absurd h
solid_rest _ h = absurd h

append_blank : (ts us : List Token) → ts ++ us ≡ [] → us ≡ []
append_blank [] us h = h
append_blank (t ∷ ts) us h = cc (h)

not_blank : (xs : Spellings) (ss : List Symbol) → AllFit xs ss → parts_small ss ≡ true → solid ss ≡ true → all_tokens xs ≡ [] → ⊥
not_blank Nil [] f m h e = absurd (false≢true h)
not_blank Nil (s ∷ ss) f m h e = absurd f
not_blank (Cons x xs) [] f m h e = absurd f
not_blank (Cons (Leaf t) xs) (Tok k ∷ ss) f m h e = cc (e)
not_blank (Cons (Node q ks) xs) (Tok k ∷ ss) f m h e = absurd f.0
not_blank (Cons (Row items) xs) (Tok k ∷ ss) f m h e = absurd f.0
not_blank (Cons x xs) (One n ∷ ss) f m h e =
    let c = starts_part x n (and_left (small_part n) (parts_small ss) m) f.0 in
    no_tokens c.t (c.ts ++ all_tokens xs) (ap (λ z. z ++ all_tokens xs) (sym c.tokens_are) ∙ e)
  where
    no_tokens : (t : Token) (ts : List Token) → t ∷ ts ≡ [] → ⊥
    no_tokens t ts h = cc (h)
not_blank (Cons x xs) (Many n ∷ ss) f m h e = not_blank xs ss f.1 (and_right (small_part n) (parts_small ss) m) h (append_blank (tokens x) (all_tokens xs) e)
not_blank (Cons x xs) (Maybe n ∷ ss) f m h e = not_blank xs ss f.1 (and_right (small_part n) (parts_small ss) m) h (append_blank (tokens x) (all_tokens xs) e)

-- what may stand first behind the first part
record MayBe (ss : List Symbol) (v : Class) : Type 0 where
  b : Bool
  may_be : may ss b v ≡ true

may_follow : (p : Production) (all xs : Spellings) (ss : List Symbol) (u : Token) → AllFit xs ss → parts_small ss ≡ true → Follows p all (class_of u) → MayBe ss (class_of (first (all_tokens xs) u))
may_follow p all xs ss u f m (inl h) = record { b = after p (class_of (first (all_tokens xs) u)); may_be = may_first xs ss u (after p) f m h }
may_follow p all xs ss u f m (inr h) = record { b = true; may_be = may_first xs ss u (λ c. true) f m refl }

of_rest : (p : Production) (s : Symbol) (ss : List Symbol) → rhs p ≡ s ∷ ss → rest_of (rhs p) ≡ ss
of_rest p s ss e = ap rest_of e

-- the items of a row, before u
items_first : (ys : Spellings) (n : Part) (u : Token) → ItemsFit ys n → small_part n ≡ true → ((c : Class) → implies (has (opening n c)) (ends n c) ≡ true) → ends n (class_of u) ≡ true → ends n (class_of (first (all_tokens ys) u)) ≡ true
items_first Nil n u f m t h = h
items_first (Cons y ys) n u f m t h =
    let v : Token = first (tokens y ++ all_tokens ys) u in
    implied (has (opening n (class_of v))) (ends n (class_of v)) (t (class_of v)) (first_one y n (starts_part y n m f.0) (all_tokens ys) u)

last_of : (y : Spelling) (ys : Spellings) (ss : List Symbol) (x : Spelling) → AllFit ys ss → last_open (Cons x (Cons y ys)) ≡ false → last_open (Cons y ys) ≡ false
last_of y ys ss x f h = h

mutual
  -- a production is read where it stands at the left of a part
  det_node : (kids : Spellings) (ss : List Symbol) (p : Production) (all : Spellings) → rhs p ≡ ss → all ≡ kids → (m n : Part) (u : Token) → accepts (category p all) m ≡ true → FirstOk ss → AllFit kids ss → Under m n → Follows p all (class_of u) → ReadsFrom kids ss p n u
  det_node kids [] p all e ea m n u a o f un fo = absurd o
  det_node kids (Many r ∷ ss) p all e ea m n u a o f un fo = absurd o
  det_node kids (Maybe r ∷ ss) p all e ea m n u a o f un fo = absurd o
  det_node Nil (Tok k ∷ ss) p all e ea m n u a o f un fo = absurd f
  det_node Nil (One r ∷ ss) p all e ea m n u a o f un fo = absurd f
  det_node (Cons (Node q ks) xs) (Tok k ∷ ss) p all e ea m n u a o f un fo = absurd f.0
  det_node (Cons (Row items) xs) (Tok k ∷ ss) p all e ea m n u a o f un fo = absurd f.0
  det_node (Cons (Leaf t) xs) (One r ∷ ss) p all e ea m n u a o f un fo = absurd f.0
  det_node (Cons (Row items) xs) (One r ∷ ss) p all e ea m n u a o f un fo = absurd f.0
  det_node (Cons (Leaf t) xs) (Tok k ∷ ss) p all e ea m n u a o f un fo =
      let er = of_rest p (Tok k) ss e in
      let sm : parts_small ss ≡ true = (let P : List Symbol → Type 0 = λ z. AllFit xs z → parts_small z ≡ true in subst P er (rest_parts p xs) f.1) in
      ((opens_at p all m n a un (class_of t) (let P : List Symbol → Type 0 = λ z. StartsWith z (class_of t) in subst P (sym e) f.0), takes_complete k (class_of t) f.0), elim fo [ inl h ↦ det_kids xs ss u (after p) f.1 sm (λ c. let P : List Symbol → Type 0 = λ z. clear z (after p c) c ≡ true in subst P er (clear_rest p c)) h | inr h ↦ det_last xs ss (Leaf t) u h.0 f.1 sm (λ c. let P : List Symbol → Type 0 = λ z. clear_front z c ≡ true in subst P er (body_clear p h.2 c)) (ap last_open (sym ea) ∙ h.1) (let P : List Symbol → Type 0 = λ z. EndsInStatement z in subst P er (body_ends p h.2)) ])
  det_node (Cons (Node q ks) xs) (One r ∷ ss) p all e ea m n u a o f un fo =
      let er = of_rest p (One r) ss e in
      let sm : parts_small ss ≡ true = (let P : List Symbol → Type 0 = λ z. AllFit xs z → parts_small z ≡ true in subst P er (rest_parts p xs) f.1) in
      let v : Token = first (all_tokens xs) u in
      let w = may_follow p all xs ss u f.1 sm fo in
      let mv : may (rest_of (rhs p)) w.b (class_of v) ≡ true = (let P : List Symbol → Type 0 = λ z. may z w.b (class_of v) ≡ true in subst P (sym er) w.may_be) in
      let af : AcceptsFirst (rhs p) (category q ks) = (let P : List Symbol → Type 0 = λ z. AcceptsFirst z (category q ks) in subst P (sym e) f.0.0) in
      let ur : Under r n = (let P : List Symbol → Type 0 = λ z. UnderFirst z n in subst P e (under_first p all m n a un)) in
      (det_node ks (rhs q) q ks refl refl r n v f.0.0 (first_ok q ks r f.0.0) f.0.1 ur (first_follows p (class_of v) w.b mv q ks af), (announces_at p all m n a un (category q ks) af (class_of v) w.b mv, f.0.0), elim fo [ inl h ↦ det_kids xs ss u (after p) f.1 sm (λ c. let P : List Symbol → Type 0 = λ z. clear z (after p c) c ≡ true in subst P er (clear_rest p c)) h | inr h ↦ det_last xs ss (Node q ks) u h.0 f.1 sm (λ c. let P : List Symbol → Type 0 = λ z. clear_front z c ≡ true in subst P er (body_clear p h.2 c)) (ap last_open (sym ea) ∙ h.1) (let P : List Symbol → Type 0 = λ z. EndsInStatement z in subst P er (body_ends p h.2)) ], not_blank xs ss f.1 sm (let P : List Symbol → Type 0 = λ z. solid z ≡ true in subst P er (solid_rest p (let Q : List Symbol → Type 0 = λ z. StartsInPart z in subst Q (sym e) tt))))

  det_at : (x : Spelling) (s : Symbol) (v : Token) → Fits x s → has_part s ≡ true → ok s (class_of v) ≡ true → ((c : Class) → again s c ≡ true) → ReadsAt x s v
  det_at (Leaf t) (Tok k) v f m h g = takes_complete k (class_of t) f
  det_at (Leaf t) (One n) v f m h g = absurd f
  det_at (Leaf t) (Many n) v f m h g = absurd f
  det_at (Leaf t) (Maybe n) v f m h g = absurd f
  det_at (Node p ks) (Tok k) v f m h g = absurd f
  det_at (Node p ks) (Many n) v f m h g = absurd f
  det_at (Node p ks) (Maybe n) v f m h g = absurd f
  det_at (Node p ks) (One n) v f m h g =
      (det_node ks (rhs p) p ks refl refl n n v f.0 (first_ok p ks n f.0) f.1 (inl (refl, m)) (inl (ends_after p ks n (class_of v) f.0 h)), (ends_none (category p ks) n (class_of v) f.0 h, f.0))
  det_at (Row items) (Tok k) v f m h g = absurd f
  det_at (Row items) (One n) v f m h g = absurd f
  det_at (Row items) (Many n) v f m h g =
      (det_items items n v f m g (and_left (ends n (class_of v)) (neg (has (opening n (class_of v)))) h), none_of (opening n (class_of v)) (and_right (ends n (class_of v)) (neg (has (opening n (class_of v)))) h))
  det_at (Row Nil) (Maybe n) v f m h g = none_of (opening n (class_of v)) (and_right (ends n (class_of v)) (neg (has (opening n (class_of v)))) h)
  det_at (Row (Cons (Node p ks) Nil)) (Maybe n) v f m h g =
      let b = and_left (ends n (class_of v)) (neg (has (opening n (class_of v)))) h in
      (det_node ks (rhs p) p ks refl refl n n v f.0 (first_ok p ks n f.0) f.1 (inl (refl, m)) (inl (ends_after p ks n (class_of v) f.0 b)), (ends_none (category p ks) n (class_of v) f.0 b, f.0))
  det_at (Row (Cons (Leaf t) Nil)) (Maybe n) v f m h g = absurd f
  det_at (Row (Cons (Row items) Nil)) (Maybe n) v f m h g = absurd f
  det_at (Row (Cons x (Cons y ys))) (Maybe n) v f m h g = absurd f

  det_items : (items : Spellings) (n : Part) (u : Token) → ItemsFit items n → small_part n ≡ true → ((c : Class) → implies (has (opening n c)) (ends n c) ≡ true) → ends n (class_of u) ≡ true → ReadsItems items n u
  det_items Nil n u f m t h = tt
  det_items (Cons (Node p ks) xs) n u f m t h =
      let v : Token = first (all_tokens xs) u in
      let b : ends n (class_of v) ≡ true = items_first xs n u f.1 m t h in
      (det_node ks (rhs p) p ks refl refl n n v f.0.0 (first_ok p ks n f.0.0) f.0.1 (inl (refl, m)) (inl (ends_after p ks n (class_of v) f.0.0 b)), (ends_none (category p ks) n (class_of v) f.0.0 b, f.0.0), det_items xs n u f.1 m t h)
  det_items (Cons (Leaf t) xs) n u f m t' h = absurd f.0
  det_items (Cons (Row items) xs) n u f m t h = absurd f.0

  det_kids : (xs : Spellings) (ss : List Symbol) (u : Token) (a : Class → Bool) → AllFit xs ss → parts_small ss ≡ true → ((c : Class) → clear ss (a c) c ≡ true) → a (class_of u) ≡ true → ReadsKids xs ss u
  det_kids Nil [] u a f m t h = tt
  det_kids Nil (s ∷ ss) u a f m t h = absurd f
  det_kids (Cons x xs) [] u a f m t h = absurd f
  det_kids (Cons x xs) (s ∷ ss) u a f m t h =
      let v : Token = first (all_tokens xs) u in
      let c : Class = class_of v in
      let sm : parts_small ss ≡ true = and_right (has_part s) (parts_small ss) m in
      (det_at x s v f.0 (and_left (has_part s) (parts_small ss) m) (implied (may ss (a c) c) (ok s c) (and_left (implies (may ss (a c) c) (ok s c)) (and (again s c) (clear ss (a c) c)) (t c)) (may_first xs ss u a f.1 sm h)) (λ d. and_left (again s d) (clear ss (a d) d) (and_right (implies (may ss (a d) d) (ok s d)) (and (again s d) (clear ss (a d) d)) (t d))), det_kids xs ss u a f.1 sm (λ d. and_right (again s d) (clear ss (a d) d) (and_right (implies (may ss (a d) d) (ok s d)) (and (again s d) (clear ss (a d) d)) (t d))) h)

  det_last : (xs : Spellings) (ss : List Symbol) (x : Spelling) (u : Token) → class_of u ≡ class.Else → AllFit xs ss → parts_small ss ≡ true → ((c : Class) → clear_front ss c ≡ true) → last_open (Cons x xs) ≡ false → EndsInStatement ss → ReadsKids xs ss u
  det_last xs [] x u eu f m t lo en = absurd en
  det_last Nil (s ∷ ss) x u eu f m t lo en = absurd f
  det_last (Cons (Node p ks) Nil) (s ∷ []) x u eu f m t lo en =
      let g : Fits (Node p ks) (One Statement) = (let P : Symbol → Type 0 = λ z. Fits (Node p ks) z in subst P en f.0) in
      (let P : Symbol → Type 0 = λ z. ReadsAt (Node p ks) z u in subst P (sym en) (det_node ks (rhs p) p ks refl refl Statement Statement u g.0 (first_ok p ks Statement g.0) g.1 (inl (refl, refl)) (let Q : Class → Type 0 = λ z. Follows p ks z in subst Q (sym eu) (follow_else p ks g.0 lo)), (ap (announced (category p ks) Statement) eu ∙ else_free (category p ks) g.0 (no_if p ks (or_false_left (is_if p) (spelling.and (has_body p) (last_open ks)) lo)), g.0)), tt)
  det_last (Cons (Leaf t') Nil) (s ∷ []) x u eu f m t lo en = absurd (let P : Symbol → Type 0 = λ z. Fits (Leaf t') z in subst P en f.0)
  det_last (Cons (Row items) Nil) (s ∷ []) x u eu f m t lo en = absurd (let P : Symbol → Type 0 = λ z. Fits (Row items) z in subst P en f.0)
  det_last (Cons y (Cons z zs)) (s ∷ []) x u eu f m t lo en = absurd f.1
  det_last (Cons y ys) (s ∷ r ∷ ss) x u eu f m t lo en =
      let v : Token = first (all_tokens ys) u in
      let c : Class = class_of v in
      let sm : parts_small (r ∷ ss) ≡ true = and_right (has_part s) (parts_small (r ∷ ss)) m in
      (det_at y s v f.0 (and_left (has_part s) (parts_small (r ∷ ss)) m) (implied (may (r ∷ ss) true c) (ok s c) (and_left (implies (may (r ∷ ss) true c) (ok s c)) (and (again s c) (clear_front (r ∷ ss) c)) (t c)) (may_first ys (r ∷ ss) u (λ d. true) f.1 sm refl)) (λ d. and_left (again s d) (clear_front (r ∷ ss) d) (and_right (implies (may (r ∷ ss) true d) (ok s d)) (and (again s d) (clear_front (r ∷ ss) d)) (t d))), det_last ys (r ∷ ss) y u eu f.1 sm (λ d. and_right (again s d) (clear_front (r ∷ ss) d) (and_right (implies (may (r ∷ ss) true d) (ok s d)) (and (again s d) (clear_front (r ∷ ss) d)) (t d))) (last_of y ys (r ∷ ss) x f.1 lo) en)

-- a whole text
unit_small : parts_small (rhs Whole) ≡ true
unfolding rhs
unit_small = refl

one_external : (items : Spellings) (t : Token) → ReadsItems items External t → opening External (class_of t) ≡ None → takes (grammar.Exactly class.End) (class_of t) ≡ true → run (all_tokens items ++ t ∷ []) start ≡ Some (whole (Cons (Row items) (Cons (Leaf t) Nil)))
unfolding rhs step then_run
one_external items t h e k =
    reads_row items External Whole Nil (Tok (grammar.Exactly class.End) ∷ []) [] t [] h e ∙ ap (λ b. then_run (closed (moved (at_token b Whole (Cons (Row items) Nil) t [] [])) (λ all. give Whole all t [])) (run [])) k

end_class : (c : Class) → c ≡ class.End → opening External c ≡ None
unfolding opening same_class
end_class c h = ap (opening External) h

pub whole_read : (ts : List Token) (kids : Spellings) → AllFit kids (rhs Whole) → ts ≡ all_tokens kids → run ts start ≡ Some (whole kids)
unfolding rhs
whole_read ts (Cons (Row items) (Cons (Leaf t) Nil)) f e =
    let r = det_kids (Cons (Row items) (Cons (Leaf t) Nil)) (rhs Whole) t (λ c. true) f unit_small unit_clear refl in
    ap (λ z. run z start) e ∙ one_external items t r.0.0 (end_class (class_of t) f.1.0) (takes_complete (grammar.Exactly class.End) (class_of t) f.1.0)
whole_read ts (Cons (Row items) (Cons (Node p ks) xs)) f e = absurd f.1.0
whole_read ts (Cons (Row items) (Cons (Row others) xs)) f e = absurd f.1.0
whole_read ts (Cons (Row items) (Cons (Leaf t) (Cons x xs))) f e = absurd f.1.1
whole_read ts (Cons (Row items) Nil) f e = absurd f.1
whole_read ts (Cons (Leaf t) xs) f e = absurd f.0
whole_read ts (Cons (Node p ks) xs) f e = absurd f.0
whole_read ts Nil f e = absurd f
