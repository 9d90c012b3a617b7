-- Names of typed expressions with fewer operators.
use Rattle.std.proofs.Common.{◌≡◌, ℕ, List, [], ◌∷◌, ◌++◌, Option, Some, None, Bool, true, false, refl, sym, ap, arith, ◌∙◌}
use Rattle.std.specs.Prelude.{is_some, Ok, codes, if◌then◌else◌}
use Rattle.std.specs.Option.{option_map_or}
use Rattle.std.specs.Str.{bytes_eq}
use Rattle.c_syntax.specs.Plain as plain
use Rattle.c_syntax.specs.Plain.{CExpr, CExprs}
use Rattle.c_syntax.specs.declared.tree.UnOp.TheVariants as unary
use Rattle.c_types.specs.declared.fault.TypeFault.TheVariants as fault
use Rattle.c_types.specs.Refusals.{after}
use Rattle.c_types.specs.Scope as entity
use Rattle.c_types.specs.Scope.{Scope, Entity, entity_of}
use Rattle.c_types.specs.Operands.{Operand, Callee, Through, are_printed, is_print_form, conversions_of, unary_operand, step_operand, binary_operand, assign_operand, choice_operand, comma_operand, cast_operand, index_operand, member_operand, arrow_operand, value_type, value_at, call_operand}
use Rattle.c_types.specs.Types as type
use Rattle.c_types.specs.Expressions.{named, through, named_callee, format_of, judged, all_judged, written}
use Rattle.c_eval.specs.Environment.{type_in, value_type_in}
use Rattle.c_fewer_types.specs.Written.{StringsAreShort, EachStringIsShort}
use Rattle.c_helpers.specs.Functions.{put_string}
use Rattle.c_helpers.specs.Names.{names_in, names_in_all, maybe_names}
use Rattle.c_helpers.specs.Fewer.{sign_of, counts_unsigned, named_call, fewer, fewer_all, maybe_fewer}
use Rattle.c_fewer_types.proofs.Judged.{keeping_is, first_kept}
use Rattle.c_fewer_types.specs.Standing.{MaybeHas}
use Rattle.c_fewer_types.proofs.FewerTypedRules.{after_is, both_is, three_is}
use Rattle.c_worlds.specs.Named.{Each}
use Rattle.c_fewer_names.proofs.Expressions.{each_both}
use Rattle.c_fewer_names.specs.FewerKnownLaws.{NamesAreOfText}
use Rattle.c_fewer_names.proofs.Trees.{K, AreKnown, text_known, format_known, sign_known, operator_known, assignment_known, element_known, step_known, not_var, call_plain}

-- an expression that may be missing is judged
abbrev pub MaybeJudged : Scope → Option CExpr → Type 0
MaybeJudged s None = Unit {0}
MaybeJudged s (Some e) = (x : Operand) × (judged s e ≡ Ok x)

-- a format that `printf` takes has conversions
converted : (format : Option (List ℕ)) (xs : List Operand) → is_print_form format xs ≡ true → (text : List ℕ) → format ≡ Some text → is_some (conversions_of text) ≡ true
converted None xs h text e = absurd (cc e)
converted (Some f) [] h text e = absurd (cc h)
converted (Some f) (x ∷ xs) h text e = let same : f ≡ text = cc e in go (conversions_of f) h (ap conversions_of same)
  where
    go : (o : Option (List ℕ)) → option_map_or (λ letters. are_printed letters xs) o false ≡ true → o ≡ conversions_of text → is_some (conversions_of text) ≡ true
    go None h k = absurd (cc h)
    go (Some letters) h k = ap is_some (sym k)

module _ (s : Scope) (text : NamesAreOfText s) where
  -- a name that is used
  name_known : (at : ℕ) (name : List ℕ) (o : Option Entity) (x : Operand) → entity_of s name ≡ o → named s at name o ≡ Ok x → K name
  name_known at name None x e k = absurd (cc k)
  name_known at name (Some y) x e k = text_known name (text name y e)

  -- a name that is called
  named_known : (at pos : ℕ) (name : List ℕ) (es : CExprs) → EachStringIsShort es → (o : Option Entity) (c : Callee) (xs : List Operand) (x : Operand) → entity_of s name ≡ o → named_callee s at name o ≡ Ok c → call_operand at c (format_of es) xs ≡ Ok x → Each K (names_in_all (fewer_all s es)) → AreKnown (named_call at pos name o (format_of es) (fewer_all s es))
  named_known at pos name es q None c xs x e k l h = absurd (cc k)
  named_known at pos name es q (Some (entity.Object t)) c xs x e k l h = (text_known name (text name (entity.Object t) e), h)
  named_known at pos name es q (Some (entity.Routine t begun)) c xs x e k l h = (text_known name (text name (entity.Routine t begun) e), h)
  named_known at pos name es q (Some (entity.BuiltIn t)) c xs x e k l h = (go (bytes_eq name (codes "puts")), h)
    where
      go : (b : Bool) → K (if b then put_string.name else name)
      go true = refl
      go false = text_known name (text name (entity.BuiltIn t) e)
  named_known at pos name plain.NoExpr q (Some entity.Printf) c xs x e k l h = (text_known name (text name entity.Printf e), h)
  named_known at pos name (plain.MoreExpr (plain.Str there format) es) q (Some entity.Printf) c xs x e k l h = (format_known format (printed c k l) (omega (arith, q.0)), h)
    where
      printed : (c : Callee) → named_callee s at name (Some entity.Printf) ≡ Ok c → call_operand at c (Some format) xs ≡ Ok x → is_some (conversions_of format) ≡ true
      printed c k l = converted (Some format) xs (first_kept (is_print_form (Some format) xs) (fault.BadCall at) [] (keeping_is {A = Operand} ((is_print_form (Some format) xs, fault.BadCall at) ∷ []) (value_at at type.Void) x (ap (λ q. after q (λ y. call_operand at y (Some format) xs)) k ∙ l)).0).0 format refl
  named_known at pos name (plain.MoreExpr y es) q (Some entity.Printf) c xs x e k l h = (text_known name (text name entity.Printf e), h)

  mutual
    pub expr_known : (e : CExpr) → StringsAreShort e → (x : Operand) → judged s e ≡ Ok x → AreKnown (fewer s e)
    expr_known (plain.Number at n unsigned) h x k = tt
    expr_known (plain.Str at text) h x k = tt
    expr_known (plain.Null at) h x k = tt
    expr_known (plain.Var at name) h x k = (name_known at name (entity_of s name) x refl k, tt)
    expr_known (plain.Unary at unary.Invert a) h x k = let l = after_is (judged s a) (λ y. unary_operand s.tags at unary.Invert y) x k in (refl, each_both K (names_in (fewer s a)) [] (expr_known a h l.0 l.1) tt)
    expr_known (plain.Unary at op a) h x k = let l = after_is (judged s a) (λ y. unary_operand s.tags at op y) x k in expr_known a h l.0 l.1
    expr_known (plain.Step at op a) h x k = let l = after_is (judged s a) (λ y. step_operand s.tags at y) x k in step_known s.tags at (fewer s a) (expr_known a h l.0 l.1) op (type_in s a)
    expr_known (plain.Binary at op a b) h x k =
        let l = both_is (judged s a) (judged s b) (λ y z. binary_operand s.tags at op y z) x k in
        operator_known s.tags at (fewer s a) (fewer s b) (expr_known a h.0 l.0 l.1.1) (expr_known b h.1 l.1.0 l.1.2) (sign_of op (counts_unsigned op (value_type_in s a) (value_type_in s b))) op (type_in s (plain.Binary at op a b)) (value_type_in s a) (value_type_in s b)
        (sign_known op (counts_unsigned op (value_type_in s a) (value_type_in s b)))
    expr_known (plain.Assign at None a b) h x k = let l = both_is (judged s a) (judged s b) (λ y z. assign_operand s.tags at None y z) x k in each_both K (names_in (fewer s a)) (names_in (fewer s b)) (expr_known a h.0 l.0 l.1.1) (expr_known b h.1 l.1.0 l.1.2)
    expr_known (plain.Assign at (Some op) a b) h x k =
        let l = both_is (judged s a) (judged s b) (λ y z. assign_operand s.tags at (Some op) y z) x k in
        assignment_known s.tags at (fewer s a) (fewer s b) (expr_known a h.0 l.0 l.1.1) (expr_known b h.1 l.1.0 l.1.2) (sign_of op (counts_unsigned op (type_in s a) (value_type_in s b))) op (type_in s a) (value_type_in s b) (sign_known op (counts_unsigned op (type_in s a) (value_type_in s b)))
    expr_known (plain.Cond at a b c) h x k =
        let l = three_is (judged s a) (judged s b) (judged s c) (λ y z w. choice_operand at y z w) x k in
        each_both K (names_in (fewer s a)) (names_in (fewer s b) ++ names_in (fewer s c)) (expr_known a h.0 l.0 l.1.1.1) (each_both K (names_in (fewer s b)) (names_in (fewer s c)) (expr_known b h.1 l.1.0 l.1.1.2) (expr_known c h.2 l.1.1.0 l.1.1.3))
    expr_known (plain.Comma at a b) h x k = let l = both_is (judged s a) (judged s b) (λ y z. comma_operand at y z) x k in each_both K (names_in (fewer s a)) (names_in (fewer s b)) (expr_known a h.0 l.0 l.1.1) (expr_known b h.1 l.1.0 l.1.2)
    expr_known (plain.Cast at t a) h x k = let l = both_is (written s at t) (judged s a) (λ u y. cast_operand at u y) x k in expr_known a h l.1.0 l.1.2
    expr_known (plain.SizeTy at t) h x k = tt
    expr_known (plain.SizeOf at a) h x k = tt
    expr_known (plain.Index at a b) h x k =
        let l = both_is (judged s a) (judged s b) (λ y z. index_operand s.tags at y z) x k in
        element_known s.tags at (fewer s a) (fewer s b) (expr_known a h.0 l.0 l.1.1) (expr_known b h.1 l.1.0 l.1.2) (value_type_in s a) (value_type_in s b)
    expr_known (plain.Call at (plain.Var pos name) es) h x k =
        let l = both_is (named_callee s at name (entity_of s name)) (all_judged s es) (λ c xs. call_operand at c (format_of es) xs) x k in
        named_known at pos name es h.1 (entity_of s name) l.0 l.1.0 x refl l.1.1 l.1.3 (all_known es h.1 l.1.0 l.1.2)
    expr_known (plain.Call at f es) h x k =
        let l = both_is (through (judged s f)) (all_judged s es) (λ c xs. call_operand at c (format_of es) xs) x k in
        let m = after_is (judged s f) (λ y. Ok (Through (value_type y))) l.0 l.1.1 in
        call_plain s at (fewer s f) (format_of es) (fewer_all s es) (not_var s f refl) (each_both K (names_in (fewer s f)) (names_in_all (fewer_all s es)) (expr_known f h.0 m.0 m.1) (all_known es h.1 l.1.0 l.1.2))
    expr_known (plain.Member at a m) h x k = let l = after_is (judged s a) (λ y. member_operand s.tags at m y.ty) x k in expr_known a h l.0 l.1
    expr_known (plain.Arrow at a m) h x k = let l = after_is (judged s a) (λ y. arrow_operand s.tags at m (value_type y)) x k in expr_known a h l.0 l.1

    all_known : (es : CExprs) → EachStringIsShort es → (xs : List Operand) → all_judged s es ≡ Ok xs → Each K (names_in_all (fewer_all s es))
    all_known plain.NoExpr h xs k = tt
    all_known (plain.MoreExpr e es) h xs k =
        let l = both_is (judged s e) (all_judged s es) (λ x xs. Ok (x ∷ xs)) xs k in
        each_both K (names_in (fewer s e)) (names_in_all (fewer_all s es)) (expr_known e h.0 l.0 l.1.1) (all_known es h.1 l.1.0 l.1.2)

  pub maybe_known : (o : Option CExpr) → MaybeHas StringsAreShort o → MaybeJudged s o → Each K (maybe_names (maybe_fewer s o))
  maybe_known None h k = tt
  maybe_known (Some e) h k = expr_known e h k.0 k.1
