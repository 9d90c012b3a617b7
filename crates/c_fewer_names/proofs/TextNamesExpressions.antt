-- The names in typed expressions are names of a text.
use Rattle.std.proofs.Common.{◌≡◌, ℕ, List, [], ◌∷◌, ◌++◌, Option, Some, None, refl}
use Rattle.std.specs.Prelude.{Ok}
use Rattle.c_syntax.specs.Plain as plain
use Rattle.c_syntax.specs.Plain.{CExpr, CExprs}
use Rattle.c_types.specs.Scope.{Scope, Entity, entity_of}
use Rattle.c_types.specs.Operands.{Operand, Callee, Through, unary_operand, step_operand, binary_operand, assign_operand, choice_operand, comma_operand, cast_operand, index_operand, member_operand, arrow_operand, value_type, call_operand}
use Rattle.c_types.specs.Expressions.{named, through, named_callee, format_of, judged, all_judged, written}
use Rattle.c_fewer_types.specs.Written.{StringsAreShort}
use Rattle.c_helpers.specs.Names.{names_in, names_in_all, maybe_names}
use Rattle.c_fewer_types.specs.Standing.{IsTextName, MaybeHas}
use Rattle.c_fewer_types.proofs.FewerTypedRules.{after_is, both_is, three_is}
use Rattle.c_worlds.specs.Named.{Each}
use Rattle.c_fewer_names.proofs.Expressions.{each_both}
use Rattle.c_fewer_names.specs.FewerKnownLaws.{NamesAreOfText}

abbrev pub T : List ℕ → Type 0
T name = IsTextName name

-- an expression that may be missing is judged
abbrev pub MaybeJudged : Scope → Option CExpr → Type 0
MaybeJudged s None = Unit {0}
MaybeJudged s (Some e) = (x : Operand) × (judged s e ≡ Ok x)

module _ (s : Scope) (text : NamesAreOfText s) where
  -- a name that is used
  name_text : (at : ℕ) (name : List ℕ) (o : Option Entity) (x : Operand) → entity_of s name ≡ o → named s at name o ≡ Ok x → T name
  name_text at name None x e k = absurd (cc k)
  name_text at name (Some y) x e k = text name y e

  -- a name that is called
  called_text : (at : ℕ) (name : List ℕ) (o : Option Entity) (c : Callee) → entity_of s name ≡ o → named_callee s at name o ≡ Ok c → T name
  called_text at name None c e k = absurd (cc k)
  called_text at name (Some y) c e k = text name y e

  mutual
    typed_text : (e : CExpr) (x : Operand) → judged s e ≡ Ok x → Each T (names_in e)
    typed_text (plain.Number at n unsigned) x k = tt
    typed_text (plain.Str at text) x k = tt
    typed_text (plain.Null at) x k = tt
    typed_text (plain.Var at name) x k = (name_text at name (entity_of s name) x refl k, tt)
    typed_text (plain.Unary at op a) x k = let l = after_is (judged s a) (λ y. unary_operand s.tags at op y) x k in typed_text a l.0 l.1
    typed_text (plain.Step at op a) x k = let l = after_is (judged s a) (λ y. step_operand s.tags at y) x k in typed_text a l.0 l.1
    typed_text (plain.Binary at op a b) x k = let l = both_is (judged s a) (judged s b) (λ y z. binary_operand s.tags at op y z) x k in each_both T (names_in a) (names_in b) (typed_text a l.0 l.1.1) (typed_text b l.1.0 l.1.2)
    typed_text (plain.Assign at op a b) x k = let l = both_is (judged s a) (judged s b) (λ y z. assign_operand s.tags at op y z) x k in each_both T (names_in a) (names_in b) (typed_text a l.0 l.1.1) (typed_text b l.1.0 l.1.2)
    typed_text (plain.Cond at a b c) x k =
        let l = three_is (judged s a) (judged s b) (judged s c) (λ y z w. choice_operand at y z w) x k in
        each_both T (names_in a) (names_in b ++ names_in c) (typed_text a l.0 l.1.1.1) (each_both T (names_in b) (names_in c) (typed_text b l.1.0 l.1.1.2) (typed_text c l.1.1.0 l.1.1.3))
    typed_text (plain.Comma at a b) x k = let l = both_is (judged s a) (judged s b) (λ y z. comma_operand at y z) x k in each_both T (names_in a) (names_in b) (typed_text a l.0 l.1.1) (typed_text b l.1.0 l.1.2)
    typed_text (plain.Cast at t a) x k = let l = both_is (written s at t) (judged s a) (λ u y. cast_operand at u y) x k in typed_text a l.1.0 l.1.2
    typed_text (plain.SizeTy at t) x k = tt
    typed_text (plain.SizeOf at a) x k = tt
    typed_text (plain.Index at a b) x k = let l = both_is (judged s a) (judged s b) (λ y z. index_operand s.tags at y z) x k in each_both T (names_in a) (names_in b) (typed_text a l.0 l.1.1) (typed_text b l.1.0 l.1.2)
    typed_text (plain.Call at (plain.Var pos name) es) x k =
        let l = both_is (named_callee s at name (entity_of s name)) (all_judged s es) (λ c xs. call_operand at c (format_of es) xs) x k in
        (called_text at name (entity_of s name) l.0 refl l.1.1, all_text es l.1.0 l.1.2)
    typed_text (plain.Call at f es) x k =
        let l = both_is (through (judged s f)) (all_judged s es) (λ c xs. call_operand at c (format_of es) xs) x k in
        let m = after_is (judged s f) (λ y. Ok (Through (value_type y))) l.0 l.1.1 in
        each_both T (names_in f) (names_in_all es) (typed_text f m.0 m.1) (all_text es l.1.0 l.1.2)
    typed_text (plain.Member at a m) x k = let l = after_is (judged s a) (λ y. member_operand s.tags at m y.ty) x k in typed_text a l.0 l.1
    typed_text (plain.Arrow at a m) x k = let l = after_is (judged s a) (λ y. arrow_operand s.tags at m (value_type y)) x k in typed_text a l.0 l.1

    all_text : (es : CExprs) (xs : List Operand) → all_judged s es ≡ Ok xs → Each T (names_in_all es)
    all_text plain.NoExpr xs k = tt
    all_text (plain.MoreExpr e es) xs k =
        let l = both_is (judged s e) (all_judged s es) (λ x xs. Ok (x ∷ xs)) xs k in
        each_both T (names_in e) (names_in_all es) (typed_text e l.0 l.1.1) (all_text es l.1.0 l.1.2)

  pub expr_text : (e : CExpr) → StringsAreShort e → (x : Operand) → judged s e ≡ Ok x → Each T (names_in e)
  expr_text e h x k = typed_text e x k

  pub maybe_text : (o : Option CExpr) → MaybeHas StringsAreShort o → MaybeJudged s o → Each T (maybe_names o)
  maybe_text None h k = tt
  maybe_text (Some e) h k = expr_text e h k.0 k.1
