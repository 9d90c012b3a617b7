-- Formats among the names of typed bodies with fewer operators.
use Rattle.std.proofs.Common.{◌≡◌, ℕ, List, [], ◌∷◌, ◌++◌, Option, Some, None, Bool, true, false, length, ◌≤◌, refl, ap, sym, ◌∙◌, drop, take, take-append-drop, subst, cond}
use Rattle.std.specs.Prelude.{◌||◌, not, codes, if◌then◌else◌, Ok, Err}
use Rattle.std.specs.List.{list_any}
use Rattle.c_syntax.specs.Plain.{CExpr, CExprs, CValue, CValues, CDecl, CStmt, CStmts, CParts}
use Rattle.c_syntax.specs.declared.tree.StepOp.{StepOp}
use Rattle.c_syntax.specs.declared.tree.BinOp.{BinOp}
use Rattle.c_types.specs.Types.{CType, Tags, is_pointer, is_unsigned}
use Rattle.c_types.specs.Operands.{Operand, Callee, Through, unary_operand, step_operand, binary_operand, assign_operand, choice_operand, comma_operand, cast_operand, index_operand, member_operand, arrow_operand, value_type, call_operand}
use Rattle.c_types.specs.Expressions.{format_of, named, through, named_callee, judged, all_judged, written}
use Rattle.c_types.specs.Room.{is_wide_pointer}
use Rattle.c_eval.specs.Environment.{type_in, value_type_in}
use Rattle.c_helpers.specs.Laws.{is_strange}
use Rattle.c_helpers.specs.Functions.{format_name, put_string}
use Rattle.c_helpers.specs.Meanings.{is_format}
use Rattle.c_helpers.specs.Names.{names_in, names_in_all, maybe_names, value_names, values_names, first_names, stmt_names, stmts_names, parts_names}
use Rattle.c_helpers.specs.Fewer.{kind_word, sign_of, counts_unsigned, operator_tree, sum_tree, difference_tree, assignment_tree, plain_assignment, wide_step, step_tree, element_tree, named_call, call_tree, fewer, fewer_all, maybe_fewer, with_values, with_all_values, fewer_in, fewer_in_all, fewer_in_parts, fewer_in_body}
use Rattle.c_fewer_types.specs.Standing.{IsTextName, MaybeHas, ValueHas, ValuesHave, FirstHas, StmtHas, StmtsHave, PartsHave, IsDeclaration}
use Rattle.c_worlds.specs.Named.{Each}
use Rattle.c_fewer_names.proofs.Expressions.{each_both}
use Rattle.c_fewer_names.specs.FewerKnownLaws.{NamesAreOfText}
use Rattle.std.specs.Option.{option_map_or, option_map}
use Rattle.std.specs.Str.{bytes_eq}
use Rattle.c_types.specs.Refusals.{after, Judged, Rule, both, all_three, broken, keeping}
use Rattle.c_fewer_types.proofs.Judged.{keeping_is}
use Rattle.c_fewer_types.proofs.FewerTypedRules.{after_is, both_is, three_is}
use Rattle.std.proofs.lemmas.Slice.Eq.{bytes_eq-Decides}
use Rattle.c_types.specs.declared.fault.TypeFault.{TypeFault}
use Rattle.c_types.specs.Declarations.{Site, Slots, first_slot, next_slots, slots_of, object_rules, site_rules, braces_rules, fitting, all_fitting, first_fitting, declared_type, declared_object, declared, scope_or}
use Rattle.c_types.specs.Statements.{Around, in_loop, in_switch, condition_rules, test_rules, return_rules, switch_rules, maybe_judged, CaseLabel, PartJudged, part_scope_or, stated, all_stated, part_judged, all_parts}
use Rattle.c_types.specs.Units.{body_judged}
use Rattle.c_types.specs.Census.{scope_behind, scope_behind_all}
use Rattle.c_fewer_types.proofs.Behind.{stated_behind}
use Rattle.c_types.specs.Scope.{Scope, Entity, entity_of, Object, entered, with_name, is_declared_here}
use Rattle.c_syntax.specs.Plain as plain
use Rattle.c_syntax.specs.declared.tree.UnOp.TheVariants as unary
use Rattle.c_syntax.specs.declared.tree.StepOp.TheVariants as step
use Rattle.c_syntax.specs.declared.tree.BinOp.TheVariants as binary
use Rattle.c_types.specs.Scope as entity
use Rattle.c_types.specs.declared.fault.TypeFault.TheVariants as fault
use Rattle.c_types.specs.Types as type
use Rattle.c_compiled.proofs.Sums.{StringsFit, EachStringFits}

module _ (W : ℕ) where
  abbrev pub K : List ℕ → Type 0
  K name = is_format name ≡ true → length (drop 7 name) ≤ W

  abbrev AreKnown : CExpr → Type 0
  AreKnown e = Each K (names_in e)

  abbrev Fits : CExpr → Type 0
  Fits e = StringsFit W e

  abbrev EachFits : CExprs → Type 0
  EachFits es = EachStringFits W es

  -- a name of a text is no format's
  text_known : (name : List ℕ) → IsTextName name → K name
  text_known name n e =
      let first : take 7 name ≡ codes "printf " = (bytes_eq-Decides (take 7 name) (codes "printf ")).0 e in
      let whole : codes "printf " ++ drop 7 name ≡ name = ap (λ z. z ++ drop 7 name) (sym first) ∙ take-append-drop 7 name in
      let strange : list_any is_strange name ≡ true = subst (λ z. list_any is_strange z ≡ true) whole refl in
      absurd (cc (sym n ∙ strange))

  format_known : (format : List ℕ) → length format ≤ W → K (format_name format)
  format_known format few e = few

  if_known : (b : Bool) (x y : CExpr) → AreKnown x → AreKnown y → AreKnown (if b then x else y)
  if_known true x y h k = h
  if_known false x y h k = k

  sum_name : (b : Bool) → K (codes "pointer + " ++ kind_word b)
  sum_name true = λ e. absurd (cc e)
  sum_name false = λ e. absurd (cc e)

  swapped_name : (b : Bool) → K (kind_word b ++ codes " + pointer")
  swapped_name true = λ e. absurd (cc e)
  swapped_name false = λ e. absurd (cc e)

  moving_name : (b : Bool) → K (codes "pointer += " ++ kind_word b)
  moving_name true = λ e. absurd (cc e)
  moving_name false = λ e. absurd (cc e)

  abbrev SignIsKnown : Option (List ℕ) → Type 0
  SignIsKnown None = Unit {0}
  SignIsKnown (Some sign) = K sign × K (sign ++ codes "=")

  sign_known : (op : BinOp) (b : Bool) → SignIsKnown (sign_of op b)
  sign_known binary.Mul b = ((λ e. absurd (cc e)), (λ e. absurd (cc e)))
  sign_known binary.Div true = ((λ e. absurd (cc e)), (λ e. absurd (cc e)))
  sign_known binary.Div false = ((λ e. absurd (cc e)), (λ e. absurd (cc e)))
  sign_known binary.Mod true = ((λ e. absurd (cc e)), (λ e. absurd (cc e)))
  sign_known binary.Mod false = ((λ e. absurd (cc e)), (λ e. absurd (cc e)))
  sign_known binary.BitAnd b = ((λ e. absurd (cc e)), (λ e. absurd (cc e)))
  sign_known binary.BitOr b = ((λ e. absurd (cc e)), (λ e. absurd (cc e)))
  sign_known binary.BitXor b = ((λ e. absurd (cc e)), (λ e. absurd (cc e)))
  sign_known binary.Shl b = ((λ e. absurd (cc e)), (λ e. absurd (cc e)))
  sign_known binary.Shr true = ((λ e. absurd (cc e)), (λ e. absurd (cc e)))
  sign_known binary.Shr false = ((λ e. absurd (cc e)), (λ e. absurd (cc e)))
  sign_known op b = tt

  module _ (tags : Tags) (at : ℕ) (a b : CExpr) (h : AreKnown a) (k : AreKnown b) where
    -- a call with both
    with_two : (name : List ℕ) → K name → Each K (name ∷ (names_in a ++ (names_in b ++ [])))
    with_two name n = (n, each_both K (names_in a) (names_in b ++ []) h (each_both K (names_in b) [] k tt))

    plainly : Each K (names_in a ++ names_in b)
    plainly = each_both K (names_in a) (names_in b) h k

    sum_known : (t u : CType) → AreKnown (sum_tree tags at t u a b)
    sum_known t u = if_known (is_wide_pointer tags t) _ _ (with_two (codes "pointer + " ++ kind_word (is_unsigned u)) (sum_name (is_unsigned u))) (if_known (is_wide_pointer tags u) _ _ (with_two (kind_word (is_unsigned t) ++ codes " + pointer") (swapped_name (is_unsigned t))) plainly)

    difference_known : (t u : CType) → AreKnown (difference_tree tags at t u a b)
    difference_known t u = if_known (not (is_wide_pointer tags t)) _ _ plainly (if_known (is_pointer u) _ _ (with_two (codes "pointer - pointer") (λ e. absurd (cc e))) (with_two (codes "pointer + " ++ kind_word (is_unsigned u)) (sum_name (is_unsigned u))))

    operator_known : (o : Option (List ℕ)) (op : BinOp) (result t u : CType) → SignIsKnown o → AreKnown (operator_tree tags at o op result t u a b)
    operator_known (Some sign) op result t u s = with_two sign s.0
    operator_known None binary.Add result t u s = sum_known t u
    operator_known None binary.Sub result t u s = difference_known t u
    operator_known None op result t u s = plainly

    words_known : (op : BinOp) (t u : CType) → AreKnown (plain_assignment tags at op t u a b)
    words_known binary.Sub t u = if_known (is_wide_pointer tags t) _ _ (with_two (codes "pointer += " ++ kind_word (is_unsigned u)) (moving_name (is_unsigned u))) plainly
    words_known op t u = if_known (is_wide_pointer tags t) _ _ (with_two (codes "pointer += " ++ kind_word (is_unsigned u)) (moving_name (is_unsigned u))) plainly

    assignment_known : (o : Option (List ℕ)) (op : BinOp) (t u : CType) → SignIsKnown o → AreKnown (assignment_tree tags at o op t u a b)
    assignment_known (Some sign) op t u s = with_two (sign ++ codes "=") s.1
    assignment_known None op t u s = words_known op t u

    element_known : (t u : CType) → AreKnown (element_tree tags at t u a b)
    element_known t u = if_known (is_wide_pointer tags t || is_wide_pointer tags u) _ _ (sum_known t u) plainly

  module _ (tags : Tags) (at : ℕ) (a : CExpr) (h : AreKnown a) where
    with_one : (name : List ℕ) → K name → Each K (name ∷ (names_in a ++ []))
    with_one name n = (n, each_both K (names_in a) [] h tt)

    wide_known : (op : StepOp) (t : CType) → AreKnown (wide_step tags at op t a)
    wide_known step.PreInc t = with_one (codes "pointer += int") (λ e. absurd (cc e))
    wide_known step.PreDec t = with_one (codes "pointer += int") (λ e. absurd (cc e))
    wide_known step.PostInc t = with_one (codes "pointer++") (λ e. absurd (cc e))
    wide_known step.PostDec t = with_one (codes "pointer++") (λ e. absurd (cc e))

    step_known : (op : StepOp) (t : CType) → AreKnown (step_tree tags at op t a)
    step_known op t = if_known (is_wide_pointer tags t) _ _ (wide_known op t) h

  -- ---- what is no name doesn't become one

  abbrev is_var : CExpr → Bool
  is_var (plain.Var at name) = true
  is_var e = false

  if_var : (b : Bool) (x y : CExpr) → is_var x ≡ false → is_var y ≡ false → is_var (if b then x else y) ≡ false
  if_var true x y e f = e
  if_var false x y e f = f

  sum_var : (tags : Tags) (at : ℕ) (t u : CType) (a b : CExpr) → is_var (sum_tree tags at t u a b) ≡ false
  sum_var tags at t u a b = if_var (is_wide_pointer tags t) _ _ refl (if_var (is_wide_pointer tags u) _ _ refl refl)

  operator_var : (tags : Tags) (at : ℕ) (o : Option (List ℕ)) (op : BinOp) (result t u : CType) (a b : CExpr) → is_var (operator_tree tags at o op result t u a b) ≡ false
  operator_var tags at (Some sign) op result t u a b = refl
  operator_var tags at None binary.Add result t u a b = sum_var tags at t u a b
  operator_var tags at None binary.Sub result t u a b = if_var (not (is_wide_pointer tags t)) _ _ refl (if_var (is_pointer u) _ _ refl refl)
  operator_var tags at None op result t u a b = refl

  assignment_var : (tags : Tags) (at : ℕ) (o : Option (List ℕ)) (op : BinOp) (t u : CType) (a b : CExpr) → is_var (assignment_tree tags at o op t u a b) ≡ false
  assignment_var tags at (Some sign) op t u a b = refl
  assignment_var tags at None op t u a b = if_var (is_wide_pointer tags t) _ _ refl refl

  wide_var : (tags : Tags) (at : ℕ) (op : StepOp) (t : CType) (a : CExpr) → is_var (wide_step tags at op t a) ≡ false
  wide_var tags at step.PreInc t a = refl
  wide_var tags at step.PreDec t a = refl
  wide_var tags at step.PostInc t a = refl
  wide_var tags at step.PostDec t a = refl

  named_var : (at pos : ℕ) (name : List ℕ) (x : Option Entity) (format : Option (List ℕ)) (es : CExprs) → is_var (named_call at pos name x format es) ≡ false
  named_var at pos name (Some entity.Printf) (Some format) es = refl
  named_var at pos name (Some entity.Printf) None es = refl
  named_var at pos name (Some (entity.BuiltIn t)) format es = refl
  named_var at pos name (Some (entity.Object t)) format es = refl
  named_var at pos name (Some (entity.Routine t begun)) format es = refl
  named_var at pos name None format es = refl

  call_var : (s : Scope) (at : ℕ) (f : CExpr) (format : Option (List ℕ)) (es : CExprs) → is_var (call_tree s at f format es) ≡ false
  call_var s at (plain.Var pos name) format es = named_var at pos name (entity_of s name) format es
  call_var s at f format es = refl

  not_var : (s : Scope) (e : CExpr) → is_var e ≡ false → is_var (fewer s e) ≡ false
  not_var s (plain.Var at name) h = absurd (cc h)
  not_var s (plain.Str at text) h = refl
  not_var s (plain.Number at n unsigned) h = refl
  not_var s (plain.Null at) h = refl
  not_var s (plain.Unary at unary.Invert a) h = refl
  not_var s (plain.Unary at op a) h = refl
  not_var s (plain.Step at op a) h = if_var (is_wide_pointer s.tags (type_in s a)) _ _ (wide_var s.tags at op (type_in s a) (fewer s a)) refl
  not_var s (plain.Binary at op a b) h =
      operator_var s.tags at (sign_of op (counts_unsigned op (value_type_in s a) (value_type_in s b))) op (type_in s (plain.Binary at op a b)) (value_type_in s a) (value_type_in s b) (fewer s a) (fewer s b)
  not_var s (plain.Assign at None a b) h = refl
  not_var s (plain.Assign at (Some op) a b) h = assignment_var s.tags at (sign_of op (counts_unsigned op (type_in s a) (value_type_in s b))) op (type_in s a) (value_type_in s b) (fewer s a) (fewer s b)
  not_var s (plain.Cond at a b c) h = refl
  not_var s (plain.Comma at a b) h = refl
  not_var s (plain.Cast at u a) h = refl
  not_var s (plain.SizeTy at u) h = refl
  not_var s (plain.SizeOf at a) h = refl
  not_var s (plain.Index at a b) h = if_var (is_wide_pointer s.tags (value_type_in s a) || is_wide_pointer s.tags (value_type_in s b)) _ _ refl refl
  not_var s (plain.Call at f es) h = call_var s at (fewer s f) (format_of es) (fewer_all s es)
  not_var s (plain.Member at a m) h = refl
  not_var s (plain.Arrow at a m) h = refl

  call_plain : (s : Scope) (at : ℕ) (f : CExpr) (format : Option (List ℕ)) (es : CExprs) → is_var f ≡ false → Each K (names_in f ++ names_in_all es) → AreKnown (call_tree s at f format es)
  call_plain s at (plain.Var pos name) format es e h = absurd (cc e)
  call_plain s at f format es e h = h

  -- an expression that may be missing is judged
  abbrev MaybeJudged : Scope → Option CExpr → Type 0
  MaybeJudged s None = Unit {0}
  MaybeJudged s (Some e) = (x : Operand) × (judged s e ≡ Ok x)

  module _ (s : Scope) (text : NamesAreOfText s) where
    -- a name that is used
    name_known : (at : ℕ) (name : List ℕ) (o : Option Entity) (x : Operand) → entity_of s name ≡ o → named s at name o ≡ Ok x → K name
    name_known at name None x e k = absurd (cc k)
    name_known at name (Some y) x e k = text_known name (text name y e)

    -- a name that is called
    named_known : (at pos : ℕ) (name : List ℕ) (es : CExprs) → EachFits es → (o : Option Entity) (c : Callee) (xs : List Operand) (x : Operand) → entity_of s name ≡ o → named_callee s at name o ≡ Ok c → call_operand at c (format_of es) xs ≡ Ok x → Each K (names_in_all (fewer_all s es)) → AreKnown (named_call at pos name o (format_of es) (fewer_all s es))
    named_known at pos name es q None c xs x e k l h = absurd (cc k)
    named_known at pos name es q (Some (entity.Object t)) c xs x e k l h = (text_known name (text name (entity.Object t) e), h)
    named_known at pos name es q (Some (entity.Routine t begun)) c xs x e k l h = (text_known name (text name (entity.Routine t begun) e), h)
    named_known at pos name es q (Some (entity.BuiltIn t)) c xs x e k l h = (go (bytes_eq name (codes "puts")), h)
      where
        go : (b : Bool) → K (if b then put_string.name else name)
        go true = λ e. absurd (cc e)
        go false = text_known name (text name (entity.BuiltIn t) e)
    named_known at pos name plain.NoExpr q (Some entity.Printf) c xs x e k l h = (text_known name (text name entity.Printf e), h)
    named_known at pos name (plain.MoreExpr (plain.Str there format) es) q (Some entity.Printf) c xs x e k l h = (format_known format q.0, h)
    named_known at pos name (plain.MoreExpr y es) q (Some entity.Printf) c xs x e k l h = (text_known name (text name entity.Printf e), h)

    mutual
      expr_known : (e : CExpr) → Fits e → (x : Operand) → judged s e ≡ Ok x → AreKnown (fewer s e)
      expr_known (plain.Number at n unsigned) h x k = tt
      expr_known (plain.Str at text) h x k = tt
      expr_known (plain.Null at) h x k = tt
      expr_known (plain.Var at name) h x k = (name_known at name (entity_of s name) x refl k, tt)
      expr_known (plain.Unary at unary.Invert a) h x k = let l = after_is (judged s a) (λ y. unary_operand s.tags at unary.Invert y) x k in ((λ e. absurd (cc e)), each_both K (names_in (fewer s a)) [] (expr_known a h l.0 l.1) tt)
      expr_known (plain.Unary at op a) h x k = let l = after_is (judged s a) (λ y. unary_operand s.tags at op y) x k in expr_known a h l.0 l.1
      expr_known (plain.Step at op a) h x k = let l = after_is (judged s a) (λ y. step_operand s.tags at y) x k in step_known s.tags at (fewer s a) (expr_known a h l.0 l.1) op (type_in s a)
      expr_known (plain.Binary at op a b) h x k =
          let l = both_is (judged s a) (judged s b) (λ y z. binary_operand s.tags at op y z) x k in
          operator_known s.tags at (fewer s a) (fewer s b) (expr_known a h.0 l.0 l.1.1) (expr_known b h.1 l.1.0 l.1.2) (sign_of op (counts_unsigned op (value_type_in s a) (value_type_in s b))) op (type_in s (plain.Binary at op a b)) (value_type_in s a) (value_type_in s b)
          (sign_known op (counts_unsigned op (value_type_in s a) (value_type_in s b)))
      expr_known (plain.Assign at None a b) h x k = let l = both_is (judged s a) (judged s b) (λ y z. assign_operand s.tags at None y z) x k in each_both K (names_in (fewer s a)) (names_in (fewer s b)) (expr_known a h.0 l.0 l.1.1) (expr_known b h.1 l.1.0 l.1.2)
      expr_known (plain.Assign at (Some op) a b) h x k =
          let l = both_is (judged s a) (judged s b) (λ y z. assign_operand s.tags at (Some op) y z) x k in
          assignment_known s.tags at (fewer s a) (fewer s b) (expr_known a h.0 l.0 l.1.1) (expr_known b h.1 l.1.0 l.1.2) (sign_of op (counts_unsigned op (type_in s a) (value_type_in s b))) op (type_in s a) (value_type_in s b) (sign_known op (counts_unsigned op (type_in s a) (value_type_in s b)))
      expr_known (plain.Cond at a b c) h x k =
          let l = three_is (judged s a) (judged s b) (judged s c) (λ y z w. choice_operand at y z w) x k in
          each_both K (names_in (fewer s a)) (names_in (fewer s b) ++ names_in (fewer s c)) (expr_known a h.0 l.0 l.1.1.1) (each_both K (names_in (fewer s b)) (names_in (fewer s c)) (expr_known b h.1 l.1.0 l.1.1.2) (expr_known c h.2 l.1.1.0 l.1.1.3))
      expr_known (plain.Comma at a b) h x k = let l = both_is (judged s a) (judged s b) (λ y z. comma_operand at y z) x k in each_both K (names_in (fewer s a)) (names_in (fewer s b)) (expr_known a h.0 l.0 l.1.1) (expr_known b h.1 l.1.0 l.1.2)
      expr_known (plain.Cast at t a) h x k = let l = both_is (written s at t) (judged s a) (λ u y. cast_operand at u y) x k in expr_known a h l.1.0 l.1.2
      expr_known (plain.SizeTy at t) h x k = tt
      expr_known (plain.SizeOf at a) h x k = tt
      expr_known (plain.Index at a b) h x k =
          let l = both_is (judged s a) (judged s b) (λ y z. index_operand s.tags at y z) x k in
          element_known s.tags at (fewer s a) (fewer s b) (expr_known a h.0 l.0 l.1.1) (expr_known b h.1 l.1.0 l.1.2) (value_type_in s a) (value_type_in s b)
      expr_known (plain.Call at (plain.Var pos name) es) h x k =
          let l = both_is (named_callee s at name (entity_of s name)) (all_judged s es) (λ c xs. call_operand at c (format_of es) xs) x k in
          named_known at pos name es h.1 (entity_of s name) l.0 l.1.0 x refl l.1.1 l.1.3 (all_known es h.1 l.1.0 l.1.2)
      expr_known (plain.Call at f es) h x k =
          let l = both_is (through (judged s f)) (all_judged s es) (λ c xs. call_operand at c (format_of es) xs) x k in
          let m = after_is (judged s f) (λ y. Ok (Through (value_type y))) l.0 l.1.1 in
          call_plain s at (fewer s f) (format_of es) (fewer_all s es) (not_var s f refl) (each_both K (names_in (fewer s f)) (names_in_all (fewer_all s es)) (expr_known f h.0 m.0 m.1) (all_known es h.1 l.1.0 l.1.2))
      expr_known (plain.Member at a m) h x k = let l = after_is (judged s a) (λ y. member_operand s.tags at m y.ty) x k in expr_known a h l.0 l.1
      expr_known (plain.Arrow at a m) h x k = let l = after_is (judged s a) (λ y. arrow_operand s.tags at m (value_type y)) x k in expr_known a h l.0 l.1

      all_known : (es : CExprs) → EachFits es → (xs : List Operand) → all_judged s es ≡ Ok xs → Each K (names_in_all (fewer_all s es))
      all_known plain.NoExpr h xs k = tt
      all_known (plain.MoreExpr e es) h xs k =
          let l = both_is (judged s e) (all_judged s es) (λ x xs. Ok (x ∷ xs)) xs k in
          each_both K (names_in (fewer s e)) (names_in_all (fewer_all s es)) (expr_known e h.0 l.0 l.1.1) (all_known es h.1 l.1.0 l.1.2)

    maybe_known : (o : Option CExpr) → MaybeHas Fits o → MaybeJudged s o → Each K (maybe_names (maybe_fewer s o))
    maybe_known None h k = tt
    maybe_known (Some e) h k = expr_known e h k.0 k.1

  abbrev Short : CStmt → Type 0
  Short t = StmtHas Fits IsDeclaration t

  -- ---- scopes

  in_block : (s : Scope) → NamesAreOfText s → NamesAreOfText (entered s)
  in_block s a name x e = a name x e

  behind_name : (s : Scope) (n : List ℕ) (t : CType) → IsTextName n → NamesAreOfText s → NamesAreOfText (with_name s n (Object t))
  behind_name s n t text a name x e = go (bytes_eq name n) refl e
    where
      go : (b : Bool) → bytes_eq name n ≡ b → cond b (Some (Object t)) (entity_of s name) ≡ Some x → IsTextName name
      go true k e = ap (λ z. list_any is_strange z) ((bytes_eq-Decides name n).0 k) ∙ text
      go false k e = a name x e

  behind_local : (s : Scope) (d : CDecl) → IsTextName d.name → NamesAreOfText s → NamesAreOfText (scope_behind s (plain.Local d))
  behind_local s d text a = of_type (declared_type s d)
    where
      of_rule : (o : Option TypeFault) (t : CType) → NamesAreOfText (scope_or s (option_map_or (λ e. Err e) o (Ok (with_name s d.name (Object t)))))
      of_rule None t = behind_name s d.name t text a
      of_rule (Some f) t = a

      of_first : (r : Judged (Unit {0})) (rules : List Rule) (t : CType) → NamesAreOfText (scope_or s (after r (λ _. keeping rules (with_name s d.name (Object t)))))
      of_first (Ok u) rules t = of_rule (broken rules) t
      of_first (Err f) rules t = a

      of_type : (r : Judged CType) → NamesAreOfText (scope_or s (after r (λ t. declared_object s false d t)))
      of_type (Ok t) = of_first (first_fitting (with_name s d.name (Object t)) (record { file = false; pos = d.pos }) t d.first) ((not (is_declared_here s d.name), fault.Twice d.pos) ∷ []) t
      of_type (Err f) = a

  behind_stmt : (s : Scope) (t : CStmt) → Short t → NamesAreOfText s → NamesAreOfText (scope_behind s t)
  behind_stmt s (plain.Local d) h a = behind_local s d h.0.0 a
  behind_stmt s t h a = a

  behind_all : (s : Scope) (ss : CStmts) → StmtsHave Fits IsDeclaration ss → NamesAreOfText s → NamesAreOfText (scope_behind_all s ss)
  behind_all s plain.NoStmt h a = a
  behind_all s (plain.MoreStmt t ts) h a = behind_all (scope_behind s t) ts h.1 (behind_stmt s t h.0 a)

  all_stated_behind : (ss : CStmts) (s : Scope) (w : Around) (r : Scope) → all_stated s w ss ≡ Ok r → scope_behind_all s ss ≡ r
  all_stated_behind plain.NoStmt s w r e = cc e
  all_stated_behind (plain.MoreStmt t ts) s w r e =
      let l = both_is (stated s w t) (all_stated (scope_or s (stated s w t)) w ts) (λ _ inner. Ok inner) r e in
      let inner : all_stated (scope_behind s t) w ts ≡ Ok l.1.0 = subst (λ z. all_stated z w ts ≡ Ok l.1.0) (ap (λ q. scope_or s q) l.1.1 ∙ sym (stated_behind s w t l.0 l.1.1)) l.1.2 in
      let same : l.1.0 ≡ r = cc l.1.3 in
      all_stated_behind ts (scope_behind s t) w l.1.0 inner ∙ same

  -- ---- first values

  module _ (s : Scope) (a : NamesAreOfText s) (site : Site) where
    mutual
      value_known : (t : Option CType) (v : CValue) → ValueHas Fits v → (u : Unit {0}) → fitting s site t v ≡ Ok u → Each K (value_names (with_values (fewer s) v))
      value_known t (plain.One e) h u k = let l = after_is (judged s e) (λ x. keeping (object_rules t e x ++ site_rules site.file e x) tt) u k in expr_known s a e h l.0 l.1
      value_known t (plain.Many vs) h u k = let l = after_is (all_fitting s site (slots_of s.tags t) vs) (λ _. keeping (braces_rules site.pos (slots_of s.tags t) vs) tt) u k in values_known (slots_of s.tags t) vs h l.0 l.1

      values_known : (slots : Slots) (vs : CValues) → ValuesHave Fits vs → (u : Unit {0}) → all_fitting s site slots vs ≡ Ok u → Each K (values_names (with_all_values (fewer s) vs))
      values_known slots plain.NoValue h u k = tt
      values_known slots (plain.MoreValue v vs) h u k =
          let l = both_is (fitting s site (first_slot slots) v) (all_fitting s site (next_slots slots) vs) (λ _ _. Ok tt) u k in
          each_both K (value_names (with_values (fewer s) v)) (values_names (with_all_values (fewer s) vs)) (value_known (first_slot slots) v h.0 l.0 l.1.1) (values_known (next_slots slots) vs h.1 l.1.0 l.1.2)

    first_known : (t : CType) (o : Option CValue) → FirstHas Fits o → (u : Unit {0}) → first_fitting s site t o ≡ Ok u → Each K (first_names (option_map (with_values (fewer s)) o))
    first_known t None h u k = tt
    first_known t (Some v) h u k = value_known (Some t) v h u k

  local_known : (s : Scope) (d : CDecl) (r : Scope) → NamesAreOfText s → IsTextName d.name → FirstHas Fits d.first → declared s false d ≡ Ok r → Each K (first_names (option_map (with_values (fewer (scope_or s (declared s false d)))) d.first))
  local_known s d r a text h e =
      let k = after_is (declared_type s d) (λ t. declared_object s false d t) r e in
      let inner : Scope = with_name s d.name (Object k.0) in
      let site : Site = record { file = false; pos = d.pos } in
      let l = after_is (first_fitting inner site k.0 d.first) (λ _. keeping ((not (is_declared_here s d.name), fault.Twice d.pos) ∷ []) inner) r k.2 in
      let m = keeping_is {A = Scope} ((not (is_declared_here s d.name), fault.Twice d.pos) ∷ []) inner r l.2 in
      let there : scope_or s (declared s false d) ≡ inner = ap (λ q. scope_or s q) e ∙ sym m.1 in
      subst (λ z. Each K (first_names (option_map (with_values (fewer z)) d.first))) (sym there) (first_known inner (behind_name s d.name k.0 text a) site k.0 d.first h l.0 l.1)

  -- ---- statements

  maybe_is : (s : Scope) (o : Option CExpr) (q : Option Operand) → maybe_judged s o ≡ Ok q → MaybeJudged s o
  maybe_is s None q e = tt
  maybe_is s (Some x) q e = let l = after_is (judged s x) (λ y. Ok (Some y)) q e in (l.0, l.1)

  abbrev AreKnownIn : CStmt → Type 0
  AreKnownIn t = (s : Scope) (w : Around) (r : Scope) → NamesAreOfText s → Short t → stated s w t ≡ Ok r → Each K (stmt_names (fewer_in s t))

  abbrev AllKnownIn : CStmts → Type 0
  AllKnownIn ss = (s : Scope) (w : Around) (r : Scope) → NamesAreOfText s → StmtsHave Fits IsDeclaration ss → all_stated s w ss ≡ Ok r → Each K (stmts_names (fewer_in_all s ss))

  -- a `for`, in the scope behind its head
  for_parts : (s inner : Scope) (first : CStmt) (test step : Option CExpr) (t : CStmt) (q : Option Operand) → NamesAreOfText inner → MaybeHas Fits test → MaybeHas Fits step → both {C = Option Operand} (maybe_judged inner test) (maybe_judged inner step) (λ a _. Ok a) ≡ Ok q → Each K (stmt_names (fewer_in s first)) → Each K (stmt_names (fewer_in inner t))
      → Each K (stmt_names (fewer_in s first) ++ (maybe_names (maybe_fewer inner test) ++ (maybe_names (maybe_fewer inner step) ++ stmt_names (fewer_in inner t))))
  for_parts s inner first test step t q a ht hs e h k =
      let l = both_is {C = Option Operand} (maybe_judged inner test) (maybe_judged inner step) (λ a _. Ok a) q e in
      each_both K (stmt_names (fewer_in s first)) (maybe_names (maybe_fewer inner test) ++ (maybe_names (maybe_fewer inner step) ++ stmt_names (fewer_in inner t))) h
      (each_both K (maybe_names (maybe_fewer inner test)) (maybe_names (maybe_fewer inner step) ++ stmt_names (fewer_in inner t)) (maybe_known inner a test ht (maybe_is inner test l.0 l.1.1))
      (each_both K (maybe_names (maybe_fewer inner step)) (stmt_names (fewer_in inner t)) (maybe_known inner a step hs (maybe_is inner step l.1.0 l.1.2)) k))

  block_for : (ss : CStmts) (test step : Option CExpr) (t : CStmt) → AllKnownIn ss → AreKnownIn t → AreKnownIn (plain.For (plain.Block ss) test step t)
  block_for ss test step t all body s w r a h e =
      let head : Judged Scope = all_stated (entered s) w ss in
      let inner : Scope = scope_or s head in
      let k = three_is head (both (maybe_judged inner test) (maybe_judged inner step) (λ a _. Ok a)) (stated inner (in_loop w) t) (λ _ a _. keeping (test_rules a) s) r e in
      let behind : Scope = scope_behind_all (entered s) ss in
      let there : inner ≡ behind = ap (λ j. scope_or s j) k.1.1.1 ∙ sym (all_stated_behind ss (entered s) w k.0 k.1.1.1) in
      let b : NamesAreOfText behind = behind_all (entered s) ss h.1 (in_block s a) in
      for_parts s behind (plain.Block ss) test step t k.1.0 b h.2 h.3 (subst (λ z. both {C = Option Operand} (maybe_judged z test) (maybe_judged z step) (λ a _. Ok a) ≡ Ok k.1.0) there k.1.1.2) (all (entered s) w k.0 (in_block s a) h.1 k.1.1.1)
      (body behind (in_loop w) k.1.1.0 b h.4 (subst (λ z. stated z (in_loop w) t ≡ Ok k.1.1.0) there k.1.1.3))

  other_for : (first : CStmt) (test step : Option CExpr) (t : CStmt) (s : Scope) (w : Around) (r : Scope) → AreKnownIn first → AreKnownIn t → NamesAreOfText s → Short first → MaybeHas Fits test → MaybeHas Fits step → Short t → all_three (stated s w first) (both (maybe_judged s test) (maybe_judged s step) (λ a _. Ok a)) (stated s (in_loop w) t) (λ _ a _. keeping (test_rules a) s) ≡ Ok r
      → Each K (stmt_names (fewer_in s first) ++ (maybe_names (maybe_fewer s test) ++ (maybe_names (maybe_fewer s step) ++ stmt_names (fewer_in s t))))
  other_for first test step t s w r head body a hf hx hy ht e =
      let k = three_is (stated s w first) (both (maybe_judged s test) (maybe_judged s step) (λ a _. Ok a)) (stated s (in_loop w) t) (λ _ a _. keeping (test_rules a) s) r e in
      for_parts s s first test step t k.1.0 a hx hy k.1.1.2 (head s w k.0 a hf k.1.1.1) (body s (in_loop w) k.1.1.0 a ht k.1.1.3)

  abbrev Within : CStmt → Type 0
  Within (plain.Block ss) = AllKnownIn ss
  Within t = Unit {0}

  for_known : (first : CStmt) (test step : Option CExpr) (t : CStmt) → AreKnownIn first → Within first → AreKnownIn t → AreKnownIn (plain.For first test step t)
  for_known (plain.Block ss) test step t head all body s w r a h e = block_for ss test step t all body s w r a h e
  for_known (plain.Local d) test step t head all body s w r a h e = absurd (cc h.0)
  for_known first test step t head all body s w r a h e = other_for first test step t s w r head body a h.1 h.2 h.3 h.4 e

  label_same : (s : Scope) (at : ℕ) (r : Judged (Option Operand)) → part_scope_or s (after r (λ a. Ok (record { scope = s; labels = record { pos = at; value = a } ∷ [] }))) ≡ s
  label_same s at (Ok o) = refl
  label_same s at (Err e) = refl

  item_same : (s : Scope) (r : Judged Scope) (inner : Scope) → r ≡ Ok inner → part_scope_or s (after r (λ inner. Ok (record { scope = inner; labels = [] }))) ≡ inner
  item_same s r inner e = ap (λ q. part_scope_or s (after q (λ inner. Ok (record { scope = inner; labels = [] })))) e

  abbrev PartsAreJudged : Scope → Around → CParts → Type 0
  PartsAreJudged s w ps = (labels : List CaseLabel) × (all_parts s w ps ≡ Ok labels)

  mutual
    stmt_known : (t : CStmt) → AreKnownIn t
    stmt_known (plain.Block ss) s w r a h e = let k = after_is (all_stated (entered s) w ss) (λ _. Ok s) r e in stmts_known ss (entered s) w k.0 (in_block s a) h k.1
    stmt_known (plain.Local d) s w r a h e = local_known s d r a h.0.0 h.1 e
    stmt_known (plain.Do_expr x) s w r a h e = let k = after_is (judged s x) (λ _. Ok s) r e in expr_known s a x h k.0 k.1
    stmt_known plain.Empty s w r a h e = tt
    stmt_known (plain.If x t) s w r a h e =
        let k = both_is (judged s x) (stated s w t) (λ a _. keeping (condition_rules a) s) r e in
        each_both K (names_in (fewer s x)) (stmt_names (fewer_in s t)) (expr_known s a x h.0 k.0 k.1.1) (stmt_known t s w k.1.0 a h.1 k.1.2)
    stmt_known (plain.IfElse x t u) s w r a h e =
        let k = three_is (judged s x) (stated s w t) (stated s w u) (λ a _ _. keeping (condition_rules a) s) r e in
        each_both K (names_in (fewer s x)) (stmt_names (fewer_in s t) ++ stmt_names (fewer_in s u)) (expr_known s a x h.0 k.0 k.1.1.1)
        (each_both K (stmt_names (fewer_in s t)) (stmt_names (fewer_in s u)) (stmt_known t s w k.1.0 a h.1 k.1.1.2) (stmt_known u s w k.1.1.0 a h.2 k.1.1.3))
    stmt_known (plain.While x t) s w r a h e =
        let k = both_is (judged s x) (stated s (in_loop w) t) (λ a _. keeping (condition_rules a) s) r e in
        each_both K (names_in (fewer s x)) (stmt_names (fewer_in s t)) (expr_known s a x h.0 k.0 k.1.1) (stmt_known t s (in_loop w) k.1.0 a h.1 k.1.2)
    stmt_known (plain.Do t x) s w r a h e =
        let k = both_is (judged s x) (stated s (in_loop w) t) (λ a _. keeping (condition_rules a) s) r e in
        each_both K (stmt_names (fewer_in s t)) (names_in (fewer s x)) (stmt_known t s (in_loop w) k.1.0 a h.1 k.1.2) (expr_known s a x h.0 k.0 k.1.1)
    stmt_known (plain.For first test step t) s w r a h e = for_known first test step t (λ s w r a h e. stmt_known first s w r a h e) (within first) (λ s w r a h e. stmt_known t s w r a h e) s w r a h e
    stmt_known (plain.Return at x) s w r a h e = let k = after_is (maybe_judged s x) (λ o. keeping (return_rules at w.result o) s) r e in maybe_known s a x h (maybe_is s x k.0 k.1)
    stmt_known (plain.Break at) s w r a h e = tt
    stmt_known (plain.Continue at) s w r a h e = tt
    stmt_known (plain.Switch x ps) s w r a h e =
        let k = both_is (judged s x) (all_parts (entered s) (in_switch w) ps) (λ a labels. keeping (switch_rules a labels) s) r e in
        each_both K (names_in (fewer s x)) (parts_names (fewer_in_parts (entered s) ps)) (expr_known s a x h.0 k.0 k.1.1) (parts_known ps (entered s) (in_switch w) (in_block s a) h.1 (k.1.0, k.1.2))

    within : (t : CStmt) → Within t
    within (plain.Block ss) = λ s w r a h e. stmts_known ss s w r a h e
    within t = tt

    stmts_known : (ss : CStmts) → AllKnownIn ss
    stmts_known plain.NoStmt s w r a h e = tt
    stmts_known (plain.MoreStmt t ts) s w r a h e =
        let k = both_is (stated s w t) (all_stated (scope_or s (stated s w t)) w ts) (λ _ inner. Ok inner) r e in
        let inner : all_stated (scope_behind s t) w ts ≡ Ok k.1.0 = subst (λ z. all_stated z w ts ≡ Ok k.1.0) (ap (λ q. scope_or s q) k.1.1 ∙ sym (stated_behind s w t k.0 k.1.1)) k.1.2 in
        each_both K (stmt_names (fewer_in s t)) (stmts_names (fewer_in_all (scope_behind s t) ts)) (stmt_known t s w k.0 a h.0 k.1.1) (stmts_known ts (scope_behind s t) w k.1.0 (behind_stmt s t h.0 a) h.1 inner)

    parts_known : (ps : CParts) (s : Scope) (w : Around) → NamesAreOfText s → PartsHave Fits IsDeclaration ps → PartsAreJudged s w ps → Each K (parts_names (fewer_in_parts s ps))
    parts_known plain.NoPart s w a h e = tt
    parts_known (plain.MorePart (plain.Label at x) ps) s w a h e =
        let k = both_is (part_judged s w (plain.Label at x)) (all_parts (part_scope_or s (part_judged s w (plain.Label at x))) w ps) (λ (part : PartJudged) labels. Ok (part.labels ++ labels)) e.0 e.1 in
        parts_known ps s w a h.1 (k.1.0, subst (λ y. all_parts y w ps ≡ Ok k.1.0) (label_same s at (maybe_judged s x)) k.1.2)
    parts_known (plain.MorePart (plain.Item t) ps) s w a h e =
        let k = both_is (part_judged s w (plain.Item t)) (all_parts (part_scope_or s (part_judged s w (plain.Item t))) w ps) (λ (part : PartJudged) labels. Ok (part.labels ++ labels)) e.0 e.1 in
        let m = after_is (stated s w t) (λ inner. Ok (record { scope = inner; labels = [] })) k.0 k.1.1 in
        let goes : part_scope_or s (part_judged s w (plain.Item t)) ≡ scope_behind s t = item_same s (stated s w t) m.0 m.1 ∙ sym (stated_behind s w t m.0 m.1) in
        each_both K (stmt_names (fewer_in s t)) (parts_names (fewer_in_parts (scope_behind s t) ps)) (stmt_known t s w m.0 a h.0 m.1)
        (parts_known ps (scope_behind s t) w (behind_stmt s t h.0 a) h.1 (k.1.0, subst (λ y. all_parts y w ps ≡ Ok k.1.0) goes k.1.2))

  pub body_known : (body : CStmt) (s : Scope) (w : Around) (r : Scope) → NamesAreOfText s → Short body → body_judged s w (Some body) ≡ Ok r → Each K (stmt_names (fewer_in_body s body))
  body_known (plain.Block ss) s w r a h e = stmts_known ss s w r a h e
  body_known t s w r a h e = stmt_known t s w r a h e
