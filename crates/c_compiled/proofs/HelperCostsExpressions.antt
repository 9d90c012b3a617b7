-- Names of typed expressions with fewer operators, by the kinds that occur in these.
use Rattle.std.proofs.Common.{◌≡◌, ℕ, ◌+◌, ◌<◌, List, [], ◌∷◌, ◌++◌, Option, Some, None, Bool, true, false, refl, sym, ap, ◌∙◌, subst, arith}
use Rattle.std.specs.Prelude.{◌&&◌, ◌||◌, Ok, Err, codes, if◌then◌else◌}
use Rattle.std.specs.Option.{option_map_or}
use Rattle.std.specs.List.{flat_map}
use Rattle.std.specs.Str.{bytes_eq}
use Rattle.c_syntax.specs.Plain as plain
use Rattle.c_syntax.specs.Plain.{CExpr, CExprs}
use Rattle.c_syntax.specs.declared.tree.UnOp.TheVariants as unary
use Rattle.c_syntax.specs.declared.tree.BinOp.{BinOp}
use Rattle.c_syntax.specs.declared.tree.BinOp.TheVariants as binary
use Rattle.c_types.specs.declared.fault.TypeFault.TheVariants as fault
use Rattle.c_types.specs.Refusals.{Judged, after}
use Rattle.c_types.specs.Scope as entity
use Rattle.c_types.specs.Scope.{Scope, Entity, entity_of}
use Rattle.c_types.specs.Operands.{Operand, Callee, Through, are_printed, is_print_form, conversions_of, unary_operand, step_operand, binary_operand, binary_type, is_word_place, result_converts, assign_operand, choice_operand, comma_operand, cast_operand, index_operand, member_operand, arrow_operand, value_type, value_at, call_operand}
use Rattle.c_types.specs.Types as type
use Rattle.c_types.specs.Types.{Tags, decayed}
use Rattle.c_types.specs.Expressions.{names_function, named, through, named_callee, format_of, judged, all_judged, written}
use Rattle.c_types.specs.Census.{expr_sum, exprs_sum, maybe_sum}
use Rattle.c_types.specs.Room.{Kind, used_type, is_wide_pointer, operator_kinds, pointer_kinds, binary_kinds, letter_kinds, format_kinds, called_kinds, kinds_at, PointerArithmetic, PutString, Invert}
use Rattle.c_eval.specs.Environment.{operand_type, type_in, value_type_in}
use Rattle.c_fewer_types.specs.Written.{StringsAreShort, EachStringIsShort}
use Rattle.c_helpers.specs.Functions.{put_string}
use Rattle.c_helpers.specs.Laws.{each}
use Rattle.c_helpers.specs.Names.{names_in, names_in_all, maybe_names}
use Rattle.c_helpers.specs.Fewer.{sign_of, counts_unsigned, named_call, fewer, fewer_all, maybe_fewer}
use Rattle.c_fewer_types.proofs.Judged.{keeping_is, first_kept}
use Rattle.c_fewer_types.specs.Standing.{MaybeHas}
use Rattle.c_fewer_types.proofs.FewerTypedRules.{after_is, both_is, three_is}
use Rattle.c_worlds.specs.Named.{Each}
use Rattle.c_fewer_names.proofs.Expressions.{each_both}
use Rattle.c_fewer_names.specs.FewerKnownLaws.{NamesAreOfText}
use Rattle.c_fewer_names.proofs.Trees.{is_var, not_var}
use Rattle.c_compiled.specs.HelperCostsLaws.{uses, letters_occur}
use Rattle.c_compiled.proofs.HelperCostsSums.{has}
use Rattle.c_compiled.proofs.HelperCostsTrees.{IsCalled, each_told, each_first, each_last, where_told, text_called, AreCalled, sign_called, operator_called, assignment_called, element_called, step_called, call_plain, wide_decayed, assigned_told}

-- an expression that may be missing is judged
abbrev pub MaybeJudged : Scope → Option CExpr → Type 0
MaybeJudged s None = Unit {0}
MaybeJudged s (Some e) = (x : Operand) × (judged s e ≡ Ok x)

-- ---- sums

pub front : (x y : ℕ) → 0 < x → 0 < x + y
front x y e = omega (arith, e)

pub last : (x y : ℕ) → 0 < y → 0 < x + y
last x y e = omega (arith, e)

some : (b : Bool) → b ≡ true → 0 < (if b then 1 else 0)
some true e = omega arith
some false e = absurd (cc e)

-- of the one kind that a helper function has
pub one_kind : (b : Bool) → (b && true) ≡ true → ((b || false) && true) ≡ true
one_kind true e = refl
one_kind false e = absurd (cc e)

-- ---- types

used_same : (r : Judged Operand) → used_type r ≡ decayed (operand_type r)
used_same (Ok a) = refl
used_same (Err e) = refl

-- a format that `printf` takes has conversions
converted : (occurs : Kind → Bool) (format : List ℕ) (xs : List Operand) → is_print_form (Some format) xs ≡ true → each occurs (format_kinds (Some format)) ≡ true → letters_occur occurs (conversions_of format) ≡ true
converted occurs format [] h e = absurd (cc h)
converted occurs format (x ∷ xs) h e = go (conversions_of format) h e
  where
    go : (o : Option (List ℕ)) → option_map_or (λ letters. are_printed letters xs) o false ≡ true → each occurs (option_map_or (λ letters. flat_map letter_kinds letters) o []) ≡ true → letters_occur occurs o ≡ true
    go None h e = absurd (cc h)
    go (Some letters) h e = e

module _ (occurs : Kind → Bool) where
  abbrev C : List ℕ → Type 0
  C name = IsCalled occurs name

  -- the kinds that an expression makes use of occur
  abbrev pub Tells : Scope → CExpr → Type 0
  Tells s e = (k : Kind) → 0 < expr_sum (uses k) s e → occurs k ≡ true

  abbrev pub AllTell : Scope → CExprs → Type 0
  AllTell s es = (k : Kind) → 0 < exprs_sum (uses k) s es → occurs k ≡ true

  abbrev pub MaybeTells : Scope → Option CExpr → Type 0
  MaybeTells s o = (k : Kind) → 0 < maybe_sum (uses k) s o → occurs k ≡ true

  module _ (s : Scope) where
    own : (e : CExpr) → ((k : Kind) → 0 < (if has (kinds_at s e) k then 1 else 0) → occurs k ≡ true) → each occurs (kinds_at s e) ≡ true
    own e f = each_told occurs (kinds_at s e) (λ k m. f k (some (has (kinds_at s e) k) m))

    -- those of two operands
    pointers : (op : BinOp) (a b : CExpr) → each occurs (pointer_kinds s.tags op (used_type (judged s a)) (used_type (judged s b))) ≡ true → each occurs (pointer_kinds s.tags op (value_type_in s a) (value_type_in s b)) ≡ true
    pointers op a b e =
        subst (λ z. each occurs (pointer_kinds s.tags op z (value_type_in s b)) ≡ true) (used_same (judged s a))
        (subst (λ z. each occurs (pointer_kinds s.tags op (used_type (judged s a)) z) ≡ true) (used_same (judged s b)) e)

    signed : (op : BinOp) (a b : CExpr) → each occurs (binary_kinds s op a b) ≡ true → (each occurs (operator_kinds op) ≡ true) × (each occurs (pointer_kinds s.tags op (value_type_in s a) (value_type_in s b)) ≡ true)
    signed op a b e =
        let ps = pointer_kinds s.tags op (used_type (judged s a)) (used_type (judged s b)) in
        (each_first occurs (operator_kinds op) ps e, pointers op a b (each_last occurs (operator_kinds op) ps e))

    -- an assignment with a sign
    updated : (at : ℕ) (op : BinOp) (a b : CExpr) (x y z : Operand) → judged s a ≡ Ok x → judged s b ≡ Ok y → assign_operand s.tags at (Some op) x y ≡ Ok z → each occurs (pointer_kinds s.tags op (value_type_in s a) (value_type_in s b)) ≡ true → is_wide_pointer s.tags (type_in s a) ≡ true → occurs PointerArithmetic ≡ true
    updated at op a b x y z e f g h w =
        let rules = (is_word_place x, fault.NotLvalue x.pos) ∷ (result_converts at (binary_type s.tags op x y) x.ty, fault.Mismatch at) ∷ [] in
        let k = keeping_is rules (value_at at x.ty) z g in
        let l = first_kept (is_word_place x) (fault.NotLvalue x.pos) ((result_converts at (binary_type s.tags op x y) x.ty, fault.Mismatch at) ∷ []) k.0 in
        let m = first_kept (result_converts at (binary_type s.tags op x y) x.ty) (fault.Mismatch at) [] l.1 in
        let ts : each occurs (pointer_kinds s.tags op (value_type x) (value_type y)) ≡ true =
        subst (λ r. each occurs (pointer_kinds s.tags op (value_type x) (decayed (operand_type r))) ≡ true) f
        (subst (λ r. each occurs (pointer_kinds s.tags op (decayed (operand_type r)) (value_type_in s b)) ≡ true) e h) in
        assigned_told occurs s.tags at op x y m.0 ts (subst (λ r. is_wide_pointer s.tags (operand_type r) ≡ true) e w)

  unnamed : (s : Scope) (f : CExpr) → is_var f ≡ false → names_function s f ≡ false
  unnamed s (plain.Var at name) e = absurd (cc e)
  unnamed s f e = refl

  -- what is called by its value, and the arguments
  callee_tells : (s : Scope) (at : ℕ) (f : CExpr) (es : CExprs) → is_var f ≡ false → Tells s (plain.Call at f es) → Tells s f × AllTell s es
  callee_tells s at f es e t = (
    λ i n. t i (front ((uses i).expr s (plain.Call at f es) + (if names_function s f then 0 else expr_sum (uses i) s f)) (exprs_sum (uses i) s es)
        (last ((uses i).expr s (plain.Call at f es)) (if names_function s f then 0 else expr_sum (uses i) s f) (subst (λ b. 0 < (if b then 0 else expr_sum (uses i) s f)) (sym (unnamed s f e)) n))),
    λ i n. t i (last _ _ n),
  )

  module _ (s : Scope) (text : NamesAreOfText s) where
    -- a name that is used
    name_called : (at : ℕ) (name : List ℕ) (o : Option Entity) (x : Operand) → entity_of s name ≡ o → named s at name o ≡ Ok x → C name
    name_called at name None x e k = absurd (cc k)
    name_called at name (Some y) x e k = text_called occurs name (text name y e)

    -- a name that is called
    named_called : (at pos : ℕ) (name : List ℕ) (es : CExprs) (o : Option Entity) (c : Callee) (xs : List Operand) (x : Operand) → entity_of s name ≡ o → named_callee s at name o ≡ Ok c → call_operand at c (format_of es) xs ≡ Ok x → each occurs (called_kinds name o (format_of es)) ≡ true → Each C (names_in_all (fewer_all s es))
        → AreCalled occurs (named_call at pos name o (format_of es) (fewer_all s es))
    named_called at pos name es None c xs x e k l i h = absurd (cc k)
    named_called at pos name es (Some (entity.Object t)) c xs x e k l i h = (text_called occurs name (text name (entity.Object t) e), h)
    named_called at pos name es (Some (entity.Routine t begun)) c xs x e k l i h = (text_called occurs name (text name (entity.Routine t begun) e), h)
    named_called at pos name es (Some (entity.BuiltIn t)) c xs x e k l i h = (go (bytes_eq name (codes "puts")) i, h)
      where
        go : (b : Bool) → each occurs (if b then PutString ∷ [] else []) ≡ true → C (if b then put_string.name else name)
        go true i = one_kind (occurs PutString) i
        go false i = text_called occurs name (text name (entity.BuiltIn t) e)
    named_called at pos name plain.NoExpr (Some entity.Printf) c xs x e k l i h = (text_called occurs name (text name entity.Printf e), h)
    named_called at pos name (plain.MoreExpr (plain.Str there format) es) (Some entity.Printf) c xs x e k l i h = (converted occurs format xs (printed c k l) i, h)
      where
        printed : (c : Callee) → named_callee s at name (Some entity.Printf) ≡ Ok c → call_operand at c (Some format) xs ≡ Ok x → is_print_form (Some format) xs ≡ true
        printed c k l = (first_kept (is_print_form (Some format) xs) (fault.BadCall at) [] (keeping_is {A = Operand} ((is_print_form (Some format) xs, fault.BadCall at) ∷ []) (value_at at type.Void) x (ap (λ q. after q (λ y. call_operand at y (Some format) xs)) k ∙ l)).0).0
    named_called at pos name (plain.MoreExpr y es) (Some entity.Printf) c xs x e k l i h = (text_called occurs name (text name entity.Printf e), h)

    mutual
      pub expr_called : (e : CExpr) → StringsAreShort e → (x : Operand) → judged s e ≡ Ok x → Tells s e → AreCalled occurs (fewer s e)
      expr_called (plain.Number at n unsigned) h x k t = tt
      expr_called (plain.Str at text) h x k t = tt
      expr_called (plain.Null at) h x k t = tt
      expr_called (plain.Var at name) h x k t = (name_called at name (entity_of s name) x refl k, tt)
      expr_called (plain.Unary at unary.Invert a) h x k t =
          let l = after_is (judged s a) (λ y. unary_operand s.tags at unary.Invert y) x k in
          (one_kind (occurs Invert) (own s (plain.Unary at unary.Invert a) (λ i m. t i (front _ _ m))), each_both C (names_in (fewer s a)) [] (expr_called a h l.0 l.1 (λ i m. t i (last _ _ m))) tt)
      expr_called (plain.Unary at op a) h x k t = let l = after_is (judged s a) (λ y. unary_operand s.tags at op y) x k in expr_called a h l.0 l.1 (λ i m. t i (last _ _ m))
      expr_called (plain.Step at op a) h x k t =
          let l = after_is (judged s a) (λ y. step_operand s.tags at y) x k in
          step_called occurs s.tags at (fewer s a) (expr_called a h l.0 l.1 (λ i m. t i (last _ _ m))) op (type_in s a)
          (λ w. where_told occurs (is_wide_pointer s.tags (used_type (judged s a))) PointerArithmetic (own s (plain.Step at op a) (λ i m. t i (front _ _ m)))
          (ap (λ z. is_wide_pointer s.tags z) (used_same (judged s a)) ∙ wide_decayed s.tags (type_in s a) w))
      expr_called (plain.Binary at op a b) h x k t =
          let l = both_is (judged s a) (judged s b) (λ y z. binary_operand s.tags at op y z) x k in
          let g = signed s op a b (own s (plain.Binary at op a b) (λ i m. t i (front _ _ (front _ _ m)))) in
          operator_called occurs s.tags at (fewer s a) (fewer s b) (expr_called a h.0 l.0 l.1.1 (λ i m. t i (front _ _ (last _ _ m)))) (expr_called b h.1 l.1.0 l.1.2 (λ i m. t i (last _ _ m)))
          (sign_of op (counts_unsigned op (value_type_in s a) (value_type_in s b))) op (type_in s (plain.Binary at op a b)) (value_type_in s a) (value_type_in s b)
          (sign_called occurs op (counts_unsigned op (value_type_in s a) (value_type_in s b)) g.0) g.1
      expr_called (plain.Assign at None a b) h x k t =
          let l = both_is (judged s a) (judged s b) (λ y z. assign_operand s.tags at None y z) x k in
          each_both C (names_in (fewer s a)) (names_in (fewer s b)) (expr_called a h.0 l.0 l.1.1 (λ i m. t i (front _ _ (last _ _ m)))) (expr_called b h.1 l.1.0 l.1.2 (λ i m. t i (last _ _ m)))
      expr_called (plain.Assign at (Some op) a b) h x k t =
          let l = both_is (judged s a) (judged s b) (λ y z. assign_operand s.tags at (Some op) y z) x k in
          let g = signed s op a b (own s (plain.Assign at (Some op) a b) (λ i m. t i (front _ _ (front _ _ m)))) in
          assignment_called occurs s.tags at (fewer s a) (fewer s b) (expr_called a h.0 l.0 l.1.1 (λ i m. t i (front _ _ (last _ _ m)))) (expr_called b h.1 l.1.0 l.1.2 (λ i m. t i (last _ _ m)))
          (sign_of op (counts_unsigned op (type_in s a) (value_type_in s b))) op (type_in s a) (value_type_in s b)
          (sign_called occurs op (counts_unsigned op (type_in s a) (value_type_in s b)) g.0) (λ w. updated s at op a b l.0 l.1.0 x l.1.1 l.1.2 l.1.3 g.1 w)
      expr_called (plain.Cond at a b c) h x k t =
          let l = three_is (judged s a) (judged s b) (judged s c) (λ y z w. choice_operand at y z w) x k in
          each_both C (names_in (fewer s a)) (names_in (fewer s b) ++ names_in (fewer s c)) (expr_called a h.0 l.0 l.1.1.1 (λ i m. t i (front _ _ (front _ _ (last _ _ m)))))
          (each_both C (names_in (fewer s b)) (names_in (fewer s c)) (expr_called b h.1 l.1.0 l.1.1.2 (λ i m. t i (front _ _ (last _ _ m)))) (expr_called c h.2 l.1.1.0 l.1.1.3 (λ i m. t i (last _ _ m))))
      expr_called (plain.Comma at a b) h x k t =
          let l = both_is (judged s a) (judged s b) (λ y z. comma_operand at y z) x k in
          each_both C (names_in (fewer s a)) (names_in (fewer s b)) (expr_called a h.0 l.0 l.1.1 (λ i m. t i (front _ _ (last _ _ m)))) (expr_called b h.1 l.1.0 l.1.2 (λ i m. t i (last _ _ m)))
      expr_called (plain.Cast at u a) h x k t = let l = both_is (written s at u) (judged s a) (λ v y. cast_operand at v y) x k in expr_called a h l.1.0 l.1.2 (λ i m. t i (last _ _ m))
      expr_called (plain.SizeTy at u) h x k t = tt
      expr_called (plain.SizeOf at a) h x k t = tt
      expr_called (plain.Index at a b) h x k t =
          let l = both_is (judged s a) (judged s b) (λ y z. index_operand s.tags at y z) x k in
          element_called occurs s.tags at (fewer s a) (fewer s b) (expr_called a h.0 l.0 l.1.1 (λ i m. t i (front _ _ (last _ _ m)))) (expr_called b h.1 l.1.0 l.1.2 (λ i m. t i (last _ _ m))) (value_type_in s a) (value_type_in s b)
          (pointers s binary.Add a b (own s (plain.Index at a b) (λ i m. t i (front _ _ (front _ _ m)))))
      expr_called (plain.Call at (plain.Var pos name) es) h x k t =
          let l = both_is (named_callee s at name (entity_of s name)) (all_judged s es) (λ c xs. call_operand at c (format_of es) xs) x k in
          named_called at pos name es (entity_of s name) l.0 l.1.0 x refl l.1.1 l.1.3 (own s (plain.Call at (plain.Var pos name) es) (λ i m. t i (front _ _ (front _ _ m)))) (all_called es h.1 l.1.0 l.1.2 (λ i m. t i (last _ _ m)))
      expr_called (plain.Call at f es) h x k t =
          let l = both_is (through (judged s f)) (all_judged s es) (λ c xs. call_operand at c (format_of es) xs) x k in
          let m = after_is (judged s f) (λ y. Ok (Through (value_type y))) l.0 l.1.1 in
          let g = callee_tells s at f es refl t in
          call_plain occurs s at (fewer s f) (format_of es) (fewer_all s es) (not_var s f refl)
          (each_both C (names_in (fewer s f)) (names_in_all (fewer_all s es)) (expr_called f h.0 m.0 m.1 g.0) (all_called es h.1 l.1.0 l.1.2 g.1))
      expr_called (plain.Member at a m) h x k t = let l = after_is (judged s a) (λ y. member_operand s.tags at m y.ty) x k in expr_called a h l.0 l.1 (λ i n. t i (last _ _ n))
      expr_called (plain.Arrow at a m) h x k t = let l = after_is (judged s a) (λ y. arrow_operand s.tags at m (value_type y)) x k in expr_called a h l.0 l.1 (λ i n. t i (last _ _ n))

      all_called : (es : CExprs) → EachStringIsShort es → (xs : List Operand) → all_judged s es ≡ Ok xs → AllTell s es → Each C (names_in_all (fewer_all s es))
      all_called plain.NoExpr h xs k t = tt
      all_called (plain.MoreExpr e es) h xs k t =
          let l = both_is (judged s e) (all_judged s es) (λ x xs. Ok (x ∷ xs)) xs k in
          each_both C (names_in (fewer s e)) (names_in_all (fewer_all s es)) (expr_called e h.0 l.0 l.1.1 (λ i m. t i (front _ _ m))) (all_called es h.1 l.1.0 l.1.2 (λ i m. t i (last _ _ m)))

    pub maybe_called : (o : Option CExpr) → MaybeHas StringsAreShort o → MaybeJudged s o → MaybeTells s o → Each C (maybe_names (maybe_fewer s o))
    maybe_called None h k t = tt
    maybe_called (Some e) h k t = expr_called e h k.0 k.1 t
