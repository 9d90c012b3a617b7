-- The end of a text is the last token of a unit and no other.
use Rattle.std.proofs.Common.{◌≡◌, List, [], ◌∷◌, ◌++◌, Some, None, Bool, true, false, refl, sym, ap, ◌∙◌, append_assoc, append-nil}
use Rattle.c_syntax.specs.declared.token.Token.{Token}
use Rattle.c_grammar.specs.Class as class
use Rattle.c_grammar.specs.Class.{Class, class_of, level, same_class}
use Rattle.c_grammar.specs.Grammar.{Terminal, Exactly, Operator, PrefixOperator, Atomic, Assigning, TypeWord, Takes, Piece, NextArgument, FunctionPart, Pointer, Qualifier, SecondWord, Members, NextMember, AnyLength, FullLength, NextParam, ParamLengths, NamePart, Initial, NextInit, Part, External, Symbol, Tok, One, Many, Maybe, Production, PieceP, StructSpec, Whole, piece_rhs, rhs}
use Rattle.c_grammar.specs.Spelling.{Spelling, Leaf, Node, Row, Spellings, Nil, Cons, category, accepts, tokens, all_tokens, Fits, AllFit, ItemsFit, Spelt}
use Rattle.c_grammar.specs.Machine.{Frame, run, start, whole}
use Rattle.c_grammar.proofs.Codes.{same_self}
use Rattle.c_grammar.proofs.Examples.{and, and_left, and_right}
use Rattle.c_grammar.proofs.Follow.{neg, no_of}
use Rattle.c_grammar.proofs.Alive.{starts}
use Rattle.c_grammar.proofs.Exact.{spelled_is_read}

abbrev endless_terminal : Terminal → Bool
endless_terminal (Exactly c) = neg (same_class class.End c)
endless_terminal _ = true

abbrev endless : List Symbol → Bool
endless [] = true
endless (Tok k ∷ ss) = and (endless_terminal k) (endless ss)
endless (s ∷ ss) = endless ss

abbrev is_unit : Production → Bool
is_unit Whole = true
is_unit _ = false

endless_rhs : (p : Production) → is_unit p ≡ false → endless (rhs p) ≡ true
unfolding rhs same_class
endless_rhs Whole h = cc (h)
endless_rhs (PieceP k) h = of_piece k
  where
    of_piece : (k : Piece) → endless (piece_rhs k) ≡ true
    of_piece NextArgument = refl
    of_piece FunctionPart = refl
    of_piece Pointer = refl
    of_piece Qualifier = refl
    of_piece SecondWord = refl
    of_piece Members = refl
    of_piece NextMember = refl
    of_piece AnyLength = refl
    of_piece FullLength = refl
    of_piece NextParam = refl
    of_piece ParamLengths = refl
    of_piece NamePart = refl
    of_piece Initial = refl
    of_piece NextInit = refl
endless_rhs (StructSpec true) h = refl
endless_rhs (StructSpec false) h = refl
endless_rhs _ h = refl

false_true : false ≡ true → ⊥
false_true h = cc (h)

no_end : (k : Terminal) (c : Class) → endless_terminal k ≡ true → Takes k c → c ≡ class.End → ⊥
no_end (Exactly d) c h t e =
    let same : same_class class.End d ≡ true = ap (λ z. same_class z d) (sym e ∙ t) ∙ same_self d in
    false_true (sym (no_of (same_class class.End d) h) ∙ same)
no_end (Operator n) c h t e = none (sym (ap level e) ∙ t)
  where
    none : None ≡ Some n → ⊥
    none h = cc (h)
no_end PrefixOperator c h t e = false_true (sym (ap class.is_prefix e) ∙ t)
no_end Atomic c h t e = false_true (sym (ap class.is_atom e) ∙ t)
no_end Assigning c h t e = false_true (sym (ap class.is_assignment e) ∙ t)
no_end TypeWord c h t e = false_true (sym (ap class.is_type_word e) ∙ t)

abbrev NoEnd : List Token → Type 0
NoEnd [] = Unit {0}
NoEnd (t ∷ ts) = (class_of t ≡ class.End → ⊥) × NoEnd ts

no_end_append : (ts us : List Token) → NoEnd ts → NoEnd us → NoEnd (ts ++ us)
no_end_append [] us h g = g
no_end_append (t ∷ ts) us h g = (h.0, no_end_append ts us h.1 g)

not_unit : (p : Production) (kids : Spellings) (n : Part) → accepts (category p kids) n ≡ true → is_unit p ≡ false
not_unit Whole kids n a = cc (a)
not_unit _ kids n a = refl

mutual
  kids_have_none : (kids : Spellings) (ss : List Symbol) → endless ss ≡ true → AllFit kids ss → NoEnd (all_tokens kids)
  kids_have_none Nil [] h f = tt
  kids_have_none Nil (s ∷ ss) h f = absurd f
  kids_have_none (Cons x xs) [] h f = absurd f
  kids_have_none (Cons (Leaf t) xs) (Tok k ∷ ss) h f = (no_end k (class_of t) (and_left (endless_terminal k) (endless ss) h) f.0, kids_have_none xs ss (and_right (endless_terminal k) (endless ss) h) f.1)
  kids_have_none (Cons (Node p ks) xs) (Tok k ∷ ss) h f = absurd f.0
  kids_have_none (Cons (Row items) xs) (Tok k ∷ ss) h f = absurd f.0
  kids_have_none (Cons x xs) (One n ∷ ss) h f = no_end_append (tokens x) (all_tokens xs) (part_has_none x n f.0) (kids_have_none xs ss h f.1)
  kids_have_none (Cons (Row items) xs) (Many n ∷ ss) h f = no_end_append (all_tokens items) (all_tokens xs) (items_have_none items n f.0) (kids_have_none xs ss h f.1)
  kids_have_none (Cons (Leaf t) xs) (Many n ∷ ss) h f = absurd f.0
  kids_have_none (Cons (Node p ks) xs) (Many n ∷ ss) h f = absurd f.0
  kids_have_none (Cons (Row Nil) xs) (Maybe n ∷ ss) h f = kids_have_none xs ss h f.1
  kids_have_none (Cons (Row (Cons y Nil)) xs) (Maybe n ∷ ss) h f = no_end_append (tokens y ++ []) (all_tokens xs) (no_end_append (tokens y) [] (part_has_none y n f.0) tt) (kids_have_none xs ss h f.1)
  kids_have_none (Cons (Row (Cons y (Cons z zs))) xs) (Maybe n ∷ ss) h f = absurd f.0
  kids_have_none (Cons (Leaf t) xs) (Maybe n ∷ ss) h f = absurd f.0
  kids_have_none (Cons (Node p ks) xs) (Maybe n ∷ ss) h f = absurd f.0

  part_has_none : (x : Spelling) (n : Part) → Fits x (One n) → NoEnd (tokens x)
  part_has_none (Leaf t) n f = absurd f
  part_has_none (Row items) n f = absurd f
  part_has_none (Node p kids) n f = kids_have_none kids (rhs p) (endless_rhs p (not_unit p kids n f.0)) f.1

  items_have_none : (items : Spellings) (n : Part) → ItemsFit items n → NoEnd (all_tokens items)
  items_have_none Nil n f = tt
  items_have_none (Cons x xs) n f = no_end_append (tokens x) (all_tokens xs) (part_has_none x n f.0) (items_have_none xs n f.1)

-- behind it nothing stands
end_last : (ts us : List Token) (e u : Token) (rest : List Token) → class_of e ≡ class.End → NoEnd us → ts ++ (e ∷ rest) ≡ us ++ (u ∷ []) → rest ≡ []
end_last [] [] e u rest ce h g = cc (g)
end_last [] (v ∷ us) e u rest ce h g = absurd (h.0 (ap class_of (sym (head g)) ∙ ce))
  where
    head : e ∷ rest ≡ v ∷ (us ++ u ∷ []) → e ≡ v
    head g = cc (g)
end_last (t ∷ []) [] e u rest ce h g = cc (g)
end_last (t ∷ t' ∷ ts) [] e u rest ce h g = cc (g)
end_last (t ∷ ts) (v ∷ us) e u rest ce h g = end_last ts us e u rest ce h.1 (tail g)
  where
    tail : t ∷ (ts ++ (e ∷ rest)) ≡ v ∷ (us ++ u ∷ []) → ts ++ (e ∷ rest) ≡ us ++ u ∷ []
    tail g = cc (g)

unit_rest : (kids : Spellings) → AllFit kids (rhs Whole) → (ts : List Token) (e : Token) (rest : List Token) → class_of e ≡ class.End → ts ++ (e ∷ rest) ≡ all_tokens kids → rest ≡ []
unfolding rhs
unit_rest (Cons (Row items) (Cons (Leaf t) Nil)) f ts e rest ce g = end_last ts (all_tokens items) e t rest ce (items_have_none items External f.0) g
unit_rest (Cons (Row items) (Cons (Leaf t) (Cons x xs))) f ts e rest ce g = absurd f.1.1
unit_rest (Cons (Row items) (Cons (Node p ks) xs)) f ts e rest ce g = absurd f.1.0
unit_rest (Cons (Row items) (Cons (Row others) xs)) f ts e rest ce g = absurd f.1.0
unit_rest (Cons (Row items) Nil) f ts e rest ce g = absurd f.1
unit_rest (Cons (Leaf t) xs) f ts e rest ce g = absurd f.0
unit_rest (Cons (Node p ks) xs) f ts e rest ce g = absurd f.0
unit_rest Nil f ts e rest ce g = absurd f

-- where the end was read, a whole text was
pub record WholeRead (s : List Frame) : Type 0 where
  pub kids : Spellings
  pub is_whole : s ≡ whole kids

pub end_is_whole : (ts : List Token) (e : Token) (s : List Frame) → class_of e ≡ class.End → run (ts ++ e ∷ []) start ≡ Some s → WholeRead s
end_is_whole ts e s ce h =
    let st = starts (ts ++ e ∷ []) s h in
    let nothing : st.rest ≡ [] = unit_rest st.spelt.kids st.spelt.fits ts e st.rest ce (sym (append_assoc ts (e ∷ []) st.rest) ∙ st.spelt.tokens_are) in
    let all : Spelt (ts ++ e ∷ []) = record { kids = st.spelt.kids; fits = st.spelt.fits; tokens_are = sym (append-nil (ts ++ e ∷ [])) ∙ ap (λ z. (ts ++ e ∷ []) ++ z) (sym nothing) ∙ st.spelt.tokens_are } in
    record { kids = st.spelt.kids; is_whole = same (sym h ∙ spelled_is_read (ts ++ e ∷ []) all) }
  where
    same : {a b : List Frame} → Some a ≡ Some b → a ≡ b
    same h = cc (h)
