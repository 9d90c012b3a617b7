-- An expression with fewer operators does what the expression does.
use Rattle.std.proofs.Common.{◌≡◌, ℕ, ◌+◌, ◌<◌, ◌^◌, List, [], ◌∷◌, length, Option, Some, None, Bool, true, false, refl, sym, ap, ap₂, ◌∙◌, subst, ◌%◌, arith, suc}
use Rattle.std.specs.Prelude.{◌||◌, ◌&&◌, not, IfOk, Ok, Err, codes, if◌then◌else◌, ◌==◌}
use Rattle.c_syntax.specs.Plain as plain
use Rattle.c_syntax.specs.Plain.{CExpr, CTy, CExprs}
use Rattle.c_syntax.specs.declared.tree.UnOp.{UnOp}
use Rattle.c_syntax.specs.declared.tree.BinOp.{BinOp}
use Rattle.c_syntax.specs.declared.tree.StepOp.TheVariants as step
use Rattle.c_syntax.specs.declared.tree.UnOp.TheVariants as unary
use Rattle.c_syntax.specs.declared.tree.BinOp.TheVariants as binary
use Rattle.c_types.specs.declared.fault.TypeFault.TheVariants as fault
use Rattle.c_types.specs.Types as type
use Rattle.c_types.specs.Types.{CType, Tags, is_pointer, is_void, decayed, is_object_pointer, is_unsigned, is_arithmetic, promoted, CTypes, NoType, MoreType}
use Rattle.c_types.specs.Refusals.{Judged, both}
use Rattle.c_types.specs.Scope as entity
use Rattle.c_types.specs.Scope.{Scope, Entity, entity_of, is_function, built_ins}
use Rattle.c_types.specs.Constants.{Constant, binary_constant, unary_constant}
use Rattle.c_types.specs.Operands as operands
use Rattle.c_types.specs.Operands.{Other, Operand, operand, value_type, sum_type, either_unsigned, typed_or, unary_operand, binary_operand, assign_operand, choice_operand, comma_operand, cast_operand, index_operand, member_operand, arrow_operand, binary_type, number_operand, is_place, converts, step_operand, value_at as told_at, conversions_of, are_printed, is_print_form, argument_rules, count_of, function_call, call_operand}
use Rattle.c_types.specs.Expressions as expressions
use Rattle.c_types.specs.Expressions.{names_function, judged, written, named, callee_of, through, format_of, all_judged}
use Rattle.c_types.specs.Room.{is_wide_pointer}
use Rattle.std.specs.Option.{option_map, option_map_or}
use Rattle.c_valid.proofs.Constants.{constant_in_below}
use Rattle.c_fewer_types.proofs.Judged.{keeping_is, first_kept}
use Rattle.c_fewer_types.proofs.Literals.{is_var, not_var, other_call}
use Rattle.c_syntax.specs.declared.tree.StepOp.{StepOp}
use Rattle.c_fewer_values.proofs.Assignments.{numbers_are_assigned}
use Rattle.c_fewer_values.proofs.Moves.{pointers_are_assigned}
use Rattle.c_fewer_values.proofs.Steps.{wide_steps_are_taken}
use Rattle.std.specs.Str.{bytes_eq}
use Rattle.std.proofs.lemmas.Bool.{eqb-true}
use Rattle.std.proofs.lemmas.Slice.Eq.{bytes_eq-Decides}
use Rattle.c_syntax.specs.Words.{meaning}
use Rattle.c_eval.specs.BuiltIns.{printf, built_in, with_one}
use Rattle.c_helpers.specs.Functions.{format_name, put_string}
use Rattle.c_helpers.specs.Meanings.{of_one, string_put, format_put}
use Rattle.c_fewer_meaning.proofs.Printed.{printed_types, printed_same, paid_same}
use Rattle.c_eval.specs.State.{OutsideObject, Value, Word, State, Run, Missing}
use Rattle.c_eval.specs.Run.{◌>>=◌, give, undefined, choose, paid}
use Rattle.c_eval.specs.Memory.{member_at, load, kind_of}
use Rattle.c_eval.specs.Operators.{used, element_words, combined, is_true, converted, on_word, pointer_to, pointed_value, value_at, truth_value, operated, assigned, as_pointer, all_converted}
use Rattle.c_eval.specs.Environment.{operand_type, type_in, value_type_in, pointee, member_offset, constant_in, Environment, past, parameters_of, function_parameters, named_callee, callee_in, Direct, Known, Format, Through}
use Rattle.c_eval.specs.Eval.{World, unary_value, unary_place, assignment, cast_value, element, value_of, place_of, value_named, stepped, step_op, step_value, call, call_through, values_of, values_behind}
use Rattle.c_valid.specs.Valid.{IsValid, AreValid}
use Rattle.c_valid.specs.Limited.{ExprIsLimited, ExprsAreLimited}
use Rattle.c_valid.proofs.Keeping.{Keeps, bind_keeps, give_keeps}
use Rattle.c_valid.proofs.Operators.{used_keeps, as_pointer_valid, all_converted_valid}
use Rattle.c_valid.proofs.Meanings.{WorldKeeps, value_keeps, place_keeps, values_keep}
use Rattle.c_fewer_types.specs.AsGood.{IsAsGood}
use Rattle.c_alike.specs.Alike.{EachName, EachNameOf}
use Rattle.c_alike.proofs.Scopes.{each}
use Rattle.c_fewer_types.specs.Written.{OperandCanBeWritten, StringsAreShort, EachStringIsShort}
use Rattle.c_fewer_types.proofs.Can.{operands_can_be_written}
use Rattle.c_helpers.specs.Fewer.{sign_of, counts_unsigned, constant_tree, operator_tree, sum_tree, element_tree, fewer, wide_step, assignment_tree, moved_place, words_by, behind_format, named_call, call_tree, fewer_all}
use Rattle.c_fewer_types.specs.Stands.{NameStands, helper_type, function_type}
use Rattle.c_fewer_types.proofs.Names.{operator_names, element_names, step_names, assignment_names}
use Rattle.c_fewer_types.proofs.FewerKept.{literals_are_kept}
use Rattle.c_fewer_types.proofs.Rules.{typed_told, Stepped, Assigned, stepped as stepped_told, assigned as assigned_told, some_of, wide_sum, wide_is, scalar_same, sign_takes, pointer_assigned}
use Rattle.c_fewer_types.proofs.Trees.{Stands, sum_good}
use Rattle.c_fewer_types.proofs.Kept.{types_are_kept}
use Rattle.c_fewer_types.specs.Standing.{ScopesStand}
use Rattle.c_fewer_types.proofs.FewerTypedRules.{after_is, both_is, three_is}
use Rattle.c_fewer_values.specs.Helping.{Helps, EachHelps}
use Rattle.c_fewer_values.specs.Laws.{Takes, tree_of, LeadsOn, PlaceLeadsOn, IsSum}
use Rattle.c_fewer_values.proofs.Runs.{first_is, bind_same, one_argument}
use Rattle.c_fewer_values.proofs.Operators.{operators_are_evaluated, none_before}
use Rattle.c_fewer_values.proofs.Elements.{elements_are_places, elements_are_evaluated}
use Rattle.c_fewer_values.proofs.Others.{complements_are_evaluated}
use Rattle.c_fewer_meaning.specs.Ordinary.{IsSmall, IsOrdinary, AreOrdinary}
use Rattle.c_fewer_meaning.specs.Laws.{elsewhere, ExpressionsAreKept}
use Rattle.c_fewer_meaning.proofs.Typing.{binary_void, one_pointer, Pointed, index_pointed, scalar_void, place_names, sum_op, no_pointer}
use Rattle.c_fewer_meaning.proofs.Same.{Agree, used_agree, bind_agree, keeps_agree, chosen_agree, combined_agree, assignment_agree, element_agree}

-- ---- what is no place

none : Run Value
none = undefined OutsideObject

if_none : (b : Bool) (x y : CExpr) (w : World) (h : Environment) → place_of x w h ≡ undefined OutsideObject → place_of y w h ≡ undefined OutsideObject → place_of (if b then x else y) w h ≡ undefined OutsideObject
if_none true x y w h e f = e
if_none false x y w h e f = f

operator_none : (tags : Tags) (at : ℕ) (o : Option (List ℕ)) (op : BinOp) (result t u : CType) (a b : CExpr) (w : World) (h : Environment) → place_of (operator_tree tags at o op result t u a b) w h ≡ undefined OutsideObject
operator_none tags at (Some sign) op result t u a b w h = refl
operator_none tags at None binary.Add result t u a b w h = if_none (is_wide_pointer tags t) _ _ w h refl (if_none (is_wide_pointer tags u) _ _ w h refl refl)
operator_none tags at None binary.Sub result t u a b w h = if_none (not (is_wide_pointer tags t)) _ _ w h refl (if_none (is_pointer u) _ _ w h refl refl)
operator_none tags at None op result t u a b w h = refl

-- ---- what an operator takes

takes_of : (tags : Tags) (op : BinOp) (t u : CType) → (op ≡ binary.Add → (is_pointer t && is_pointer u) ≡ false) → IsSmall tags t → IsSmall tags u → Takes tags op t u
takes_of tags op t u added few small = record { added = added; left = few; right = small }

module _ (P : List ℕ → Type 0) (w : World) (s' : Scope) (outer : w.inner ≡ false) (world : WorldKeeps w) (helps : (name : List ℕ) → P name → Helps w s' name) where
  -- an expression of the text, at its place
  record Fit (here : Environment) (e : CExpr) (x : Operand) : Type 0 where
    stand : ScopesStand P here.scope s'
    short : StringsAreShort e
    limited : ExprIsLimited e
    ordinary : IsOrdinary here.scope e
    names : EachName P (fewer here.scope e)
    is : judged here.scope e ≡ Ok x

  -- what stands for it does the same
  record Same (here : Environment) (e : CExpr) : Type 0 where
    value : Agree (value_of (fewer here.scope e) w (elsewhere s' here)) (value_of e w here)
    place : Agree (place_of (fewer here.scope e) w (elsewhere s' here)) (place_of e w here)

  module _ (here : Environment) (e : CExpr) (x : Operand) (fit : Fit here e x) where
    good : (b : Operand) × (judged s' (fewer here.scope e) ≡ Ok b) × IsAsGood x b
    good = types_are_kept here.scope s' e fit.stand.tags fit.stand.written fit.stand.built_in fit.short (each P (NameStands here.scope s') fit.stand.names (fewer here.scope e) fit.names) x fit.is

    type_here : type_in here.scope e ≡ x.ty
    type_here = ap operand_type fit.is

    type_there : type_in s' (fewer here.scope e) ≡ type_in here.scope e
    type_there = ap operand_type good.1 ∙ (sym good.2.ty ∙ sym type_here)

    value_there : value_type_in s' (fewer here.scope e) ≡ value_type_in here.scope e
    value_there = ap decayed type_there

    past_there : past (fewer here.scope e) (elsewhere s' here) ≡ elsewhere s' (past e here)
    past_there = ap (λ (l : List (List ℕ)). record here { scope = s'; literals_before = here.literals_before + length l }) (literals_are_kept here.scope s' e (each P (NameStands here.scope s') fit.stand.names (fewer here.scope e) fit.names))

    keeps : Keeps IsValid (value_of e w here)
    keeps = value_keeps e w here fit.limited world

    places_keep : Keeps IsValid (place_of e w here)
    places_keep = place_keeps e w here fit.limited world

    used_keep : Keeps IsValid (value_of e w here >>= used)
    used_keep = bind_keeps {G = IsValid} {H = IsValid} keeps used_keeps

    leads : Same here e → LeadsOn w (elsewhere s' here) (fewer here.scope e)
    leads same st v = keeps_agree IsValid (value_of (fewer here.scope e) w (elsewhere s' here)) (value_of e w here) same.value st v (keeps.keeps st v)

    used_same : Same here e → Agree (value_of (fewer here.scope e) w (elsewhere s' here) >>= used) (value_of e w here >>= used)
    used_same same = used_agree (value_of (fewer here.scope e) w (elsewhere s' here)) (value_of e w here) same.value

  -- what comes behind an expression does the same behind what stands for it
  behind : (here : Environment) (e : CExpr) (x : Operand) (fit : Fit here e x) (b : CExpr) → Same (past e here) b → Agree (value_of (fewer here.scope b) w (past (fewer here.scope e) (elsewhere s' here))) (value_of b w (past e here))
  behind here e x fit b same = subst (λ h. Agree (value_of (fewer here.scope b) w h) (value_of b w (past e here))) (sym (past_there here e x fit)) same.value

  all_help : (e : CExpr) → EachName P e → EachHelps w s' e
  all_help e p = each P (Helps w s') helps e p

  undefined_same : (m n : Run Value) → m ≡ undefined OutsideObject → n ≡ undefined OutsideObject → Agree m n
  undefined_same m n e f st v = ap (λ (r : Run Value). r st) (e ∙ sym f)

  -- ---- operators

  -- two operands, one behind the other
  record Pair (here : Environment) (a b : CExpr) : Type 0 where
    first : Operand
    second : Operand
    left : Fit here a first
    right : Fit (past a here) b second
    left_same : Same here a
    right_same : Same (past a here) b

  module _ (here : Environment) (a b : CExpr) (p : Pair here a b) where
    abbrev s : Scope
    s = here.scope

    abbrev there : Environment
    there = elsewhere s' here

    abbrev a' : CExpr
    a' = fewer here.scope a

    abbrev b' : CExpr
    b' = fewer here.scope b

    abbrev A : Run Value
    A = value_of a w here >>= used

    abbrev B : Run Value
    B = value_of b w (past a here) >>= used

    abbrev A' : Run Value
    A' = value_of a' w there >>= used

    abbrev B' : Run Value
    B' = value_of b' w (past a' there) >>= used

    left_agrees : Agree A' A
    left_agrees = used_same here a p.first p.left p.left_same

    right_agrees : Agree B' B
    right_agrees = used_agree (value_of b' w (past a' there)) (value_of b w (past a here)) (behind here a p.first p.left b p.right_same)

    right_leads : LeadsOn w (past a' there) b'
    right_leads = subst (λ h. LeadsOn w h b') (sym (past_there here a p.first p.left)) (leads (past a here) b p.second p.right p.right_same)

    left_leads : LeadsOn w there a'
    left_leads = leads here a p.first p.left p.left_same

    abbrev T : CType
    T = value_type_in here.scope a

    abbrev U : CType
    U = value_type_in here.scope b

    left_type : value_type_in s' a' ≡ T
    left_type = value_there here a p.first p.left

    right_type : value_type_in s' b' ≡ U
    right_type = value_there (past a here) b p.second p.right

    operator_value : (at : ℕ) (op : BinOp) (result : CType) → EachName P (tree_of here.scope.tags at op result T U a' b') → Takes here.scope.tags op T U → is_void (type_in s' (tree_of here.scope.tags at op result T U a' b')) ≡ false → (tags : here.scope.tags ≡ s'.tags)
        → Agree (value_of (tree_of here.scope.tags at op result T U a' b') w there) (combined here.scope.tags op T U A B)
    operator_value at op result names takes void tags st v =
        subst (λ z. EachHelps w s' (tree_of z at op result T U a' b') → Takes z op T U → is_void (type_in s' (tree_of z at op result T U a' b')) ≡ false → value_of (tree_of z at op result T U a' b') w there st ≡ combined z op T U A' B' st) (sym tags)
        (λ h k m. operators_are_evaluated w there at op result T U a' b' st h k left_type right_type m left_leads right_leads v) (all_help (tree_of here.scope.tags at op result T U a' b') names) takes void
        ∙ combined_agree here.scope.tags op T U A' A B' B left_agrees right_agrees (used_keep here a p.first p.left) st v

    -- ---- elements

    abbrev E : Tags → ℕ → CExpr
    E tags at = element_tree tags at T U a' b'

    element_at : (at : ℕ) → EachName P (E here.scope.tags at) → Takes here.scope.tags binary.Add T U → ((is_wide_pointer here.scope.tags T || is_wide_pointer here.scope.tags U) ≡ true → is_void (type_in s' (sum_tree here.scope.tags at T U a' b')) ≡ false) → here.scope.tags ≡ s'.tags
        → Agree (place_of (E here.scope.tags at) w there) (element w here.scope.tags T U A B)
    element_at at names takes void tags st v =
        subst (λ z. EachHelps w s' (E z at) → Takes z binary.Add T U → ((is_wide_pointer z T || is_wide_pointer z U) ≡ true → is_void (type_in s' (sum_tree z at T U a' b')) ≡ false) → place_of (E z at) w there st ≡ element w z T U A' B' st) (sym tags)
        (λ h k m. elements_are_places w there at T U a' b' st h k left_type right_type m left_leads right_leads v) (all_help (E here.scope.tags at) names) takes void
        ∙ element_agree w here.scope.tags T U A' A B' B left_agrees right_agrees (used_keep here a p.first p.left) st v

    element_value : (at : ℕ) (result : CType) → EachName P (E here.scope.tags at) → Takes here.scope.tags binary.Add T U
        → ((is_wide_pointer here.scope.tags T || is_wide_pointer here.scope.tags U) ≡ true → (is_void (type_in s' (sum_tree here.scope.tags at T U a' b')) ≡ false) × (value_type_in s' (sum_tree here.scope.tags at T U a' b') ≡ type.Pointer result) × (is_object_pointer (type.Pointer result) ≡ true))
        → ((is_wide_pointer here.scope.tags T || is_wide_pointer here.scope.tags U) ≡ false → type_in s' (plain.Index at a' b') ≡ result) → here.scope.tags ≡ s'.tags
        → Agree (value_of (E here.scope.tags at) w there) (element w here.scope.tags T U A B >>= value_at w.inner result)
    element_value at result names takes wide narrow tags st v =
        subst (λ z. EachHelps w s' (E z at) → Takes z binary.Add T U → ((is_wide_pointer z T || is_wide_pointer z U) ≡ true → (is_void (type_in s' (sum_tree z at T U a' b')) ≡ false) × (value_type_in s' (sum_tree z at T U a' b') ≡ type.Pointer result) × (is_object_pointer (type.Pointer result) ≡ true)) → ((is_wide_pointer z T || is_wide_pointer z U) ≡ false → type_in s' (plain.Index at a' b') ≡ result) → value_of (E z at) w there st ≡ (element w z T U A' B' >>= value_at w.inner result) st) (sym tags)
        (λ h k m n. elements_are_evaluated w there at result T U a' b' st h k left_type right_type m n left_leads right_leads v) (all_help (E here.scope.tags at) names) takes wide narrow
        ∙ first_is (element w here.scope.tags T U A' B') (element w here.scope.tags T U A B) (value_at w.inner result) st (element_agree w here.scope.tags T U A' A B' B left_agrees right_agrees (used_keep here a p.first p.left) st v)

  -- ---- forms

  binary_same : (at : ℕ) (op : BinOp) (a b : CExpr) (here : Environment) (x : Operand) → Fit here (plain.Binary at op a b) x → ((y : Operand) → Fit here a y → Same here a) → ((y : Operand) → Fit (past a here) b y → Same (past a here) b) → Same here (plain.Binary at op a b)
  binary_same at op a b here x fit left right =
      let k = both_is (judged here.scope a) (judged here.scope b) (λ x y. binary_operand here.scope.tags at op x y) x fit.is in
      let l : Operand = k.0 in
      let r : Operand = k.1.0 in
      let t : CType = value_type_in here.scope a in
      let u : CType = value_type_in here.scope b in
      let result : CType = type_in here.scope (plain.Binary at op a b) in
      let q = operator_names P here.scope.tags at (sign_of op (counts_unsigned op t u)) op result t u (fewer here.scope a) (fewer here.scope b) fit.names in
      let fa : Fit here a l = record { stand = fit.stand; short = fit.short.0; limited = fit.limited.0; ordinary = fit.ordinary.2; names = q.0; is = k.1.1 } in
      let fb : Fit (past a here) b r = record { stand = fit.stand; short = fit.short.1; limited = fit.limited.1; ordinary = fit.ordinary.3; names = q.1; is = k.1.2 } in
      let pair : Pair here a b = record { first = l; second = r; left = fa; right = fb; left_same = left l fa; right_same = right r fb } in
      let told = typed_told at (binary_constant at op (is_unsigned (value_type l)) (either_unsigned l r) l.constant r.constant) (binary_type here.scope.tags op l r) x k.1.3 in
      let void : is_void (type_in s' (fewer here.scope (plain.Binary at op a b))) ≡ false = ap is_void (type_there here (plain.Binary at op a b) x fit ∙ type_here here (plain.Binary at op a b) x fit) ∙ binary_void here.scope.tags op l r x.ty told.0 in
      let types : value_type l ≡ t = sym (ap decayed (type_here here a l fa)) in
      let others : value_type r ≡ u = sym (ap decayed (type_here (past a here) b r fb)) in
      let added : op ≡ binary.Add → (is_pointer t && is_pointer u) ≡ false =
      λ e. ap₂ (λ p q. is_pointer p && is_pointer q) (sym types) (sym others) ∙ one_pointer here.scope.tags (value_type l) (value_type r) x.ty (subst (λ z. binary_type here.scope.tags z l r ≡ Some x.ty) e told.0) in
      record {
        value = operator_value here a b pair at op result fit.names (takes_of here.scope.tags op t u added fit.ordinary.0 fit.ordinary.1) void fit.stand.tags;
        place = undefined_same (place_of (fewer here.scope (plain.Binary at op a b)) w (elsewhere s' here)) (place_of (plain.Binary at op a b) w here) (operator_none here.scope.tags at (sign_of op (counts_unsigned op t u)) op result t u (fewer here.scope a) (fewer here.scope b) w (elsewhere s' here)) refl;
      }

  index_same : (at : ℕ) (a b : CExpr) (here : Environment) (x : Operand) → Fit here (plain.Index at a b) x → ((y : Operand) → Fit here a y → Same here a) → ((y : Operand) → Fit (past a here) b y → Same (past a here) b) → Same here (plain.Index at a b)
  index_same at a b here x fit left right =
      let tags : Tags = here.scope.tags in
      let k = both_is (judged here.scope a) (judged here.scope b) (λ x y. index_operand tags at x y) x fit.is in
      let l : Operand = k.0 in
      let r : Operand = k.1.0 in
      let t : CType = value_type_in here.scope a in
      let u : CType = value_type_in here.scope b in
      let a' : CExpr = fewer here.scope a in
      let b' : CExpr = fewer here.scope b in
      let q = element_names P tags at t u a' b' fit.names in
      let fa : Fit here a l = record { stand = fit.stand; short = fit.short.0; limited = fit.limited.0; ordinary = fit.ordinary.2; names = q.0; is = k.1.1 } in
      let fb : Fit (past a here) b r = record { stand = fit.stand; short = fit.short.1; limited = fit.limited.1; ordinary = fit.ordinary.3; names = q.1; is = k.1.2 } in
      let pair : Pair here a b = record { first = l; second = r; left = fa; right = fb; left_same = left l fa; right_same = right r fb } in
      let types : value_type l ≡ t = sym (ap decayed (type_here here a l fa)) in
      let others : value_type r ≡ u = sym (ap decayed (type_here (past a here) b r fb)) in
      let pointed : Pointed tags t u x = subst (λ z. Pointed tags z u x) types (subst (λ z. Pointed tags (value_type l) z x) others (index_pointed tags at l r x k.1.3)) in
      let takes : Takes tags binary.Add t u = takes_of tags binary.Add t u (λ e. one_pointer tags t u (type.Pointer pointed.to) pointed.sum) fit.ordinary.0 fit.ordinary.1 in
      let result : CType = type_in here.scope (plain.Index at a b) in
      let to : pointed.to ≡ result = sym (type_here here (plain.Index at a b) x fit ∙ pointed.ty) in
      let wide : (is_wide_pointer tags t || is_wide_pointer tags u) ≡ true → value_type_in s' (sum_tree tags at t u a' b') ≡ type.Pointer pointed.to = λ e. summed at here a b l r fa fb pointed.to (sym types) (sym others) pointed.sum (wide_names tags at t u a' b' (is_wide_pointer tags t || is_wide_pointer tags u) e fit.names) in
      let object : is_object_pointer (type.Pointer result) ≡ true = ap (λ z. is_object_pointer (type.Pointer z)) (sym to) ∙ pointed.object in
      record {
        value =
            element_value here a b pair at result fit.names takes (λ e. (pointer_void (type_in s' (sum_tree tags at t u a' b')) pointed.to (wide e), wide e ∙ ap type.Pointer to, object))
            (λ e. ap (λ b. type_in s' (if b then plain.Unary at unary.Deref (sum_tree tags at t u a' b') else plain.Index at a' b')) (sym e) ∙ type_there here (plain.Index at a b) x fit) fit.stand.tags;
        place = element_at here a b pair at fit.names takes (λ e. pointer_void (type_in s' (sum_tree tags at t u a' b')) pointed.to (wide e)) fit.stand.tags;
      }
    where
      pointer_void : (t u : CType) → decayed t ≡ type.Pointer u → is_void t ≡ false
      pointer_void type.Void u e = absurd (cc e)
      pointer_void t u e = refl

      wide_names : (tags : Tags) (at : ℕ) (t u : CType) (a b : CExpr) (c : Bool) → c ≡ true → EachName P (if c then plain.Unary at unary.Deref (sum_tree tags at t u a b) else plain.Index at a b) → EachName P (sum_tree tags at t u a b)
      wide_names tags at t u a b true e p = p
      wide_names tags at t u a b false e p = absurd (cc e)

      stands_for_it : (here : Environment) (a : CExpr) (l : Operand) → Fit here a l → Stands here.scope s' (fewer here.scope a) l
      stands_for_it here a l fit =
          let g = good here a l fit in
          record { other = g.0; is = g.1; good = g.2; can = subst (λ r. IfOk r (OperandCanBeWritten here.scope.tags)) fit.is (operands_can_be_written here.scope a fit.stand.written fit.short) }

      summed : (at : ℕ) (here : Environment) (a b : CExpr) (l r : Operand) → Fit here a l → Fit (past a here) b r → (to : CType) → value_type_in here.scope a ≡ value_type l → value_type_in here.scope b ≡ value_type r → sum_type here.scope.tags (value_type_in here.scope a) (value_type_in here.scope b) ≡ Some (type.Pointer to)
          → EachName P (sum_tree here.scope.tags at (value_type_in here.scope a) (value_type_in here.scope b) (fewer here.scope a) (fewer here.scope b)) → value_type_in s' (sum_tree here.scope.tags at (value_type_in here.scope a) (value_type_in here.scope b) (fewer here.scope a) (fewer here.scope b)) ≡ type.Pointer to
      summed at here a b l r fa fb to e f k p =
          let tags : Tags = here.scope.tags in
          let G : CType → CType → Type 0 = λ t u. sum_type tags t u ≡ Some (type.Pointer to) → EachName P (sum_tree tags at t u (fewer here.scope a) (fewer here.scope b)) → value_type_in s' (sum_tree tags at t u (fewer here.scope a) (fewer here.scope b)) ≡ type.Pointer to in
          let c : Constant = binary_constant at binary.Add (is_unsigned (value_type l)) (either_unsigned l r) l.constant r.constant in
          subst (λ t. G t (value_type_in here.scope b)) (sym e) (subst (λ u. G (value_type l) u) (sym f)
          (λ k p.
          let names = each P (NameStands here.scope s') fa.stand.names (sum_tree tags at (value_type l) (value_type r) (fewer here.scope a) (fewer here.scope b)) p in
          let g = sum_good here.scope s' fa.stand.tags at (fewer here.scope a) (fewer here.scope b) l r (stands_for_it here a l fa) (stands_for_it (past a here) b r fb) names (operand at (type.Pointer to) Other c) (ap (λ o. typed_or at (option_map (λ t. operand at t Other c) o)) k) in
          ap (λ r. decayed (operand_type r)) g.1 ∙ sym (ap decayed g.2.ty))) k p

  -- two operands of another form, of which only the names and the judgement are asked
  pair_of : (here : Environment) (a b : CExpr) (l r : Operand) → (fa : Fit here a l) → (fb : Fit (past a here) b r) → ((y : Operand) → Fit here a y → Same here a) → ((y : Operand) → Fit (past a here) b y → Same (past a here) b) → Pair here a b
  pair_of here a b l r fa fb left right = record { first = l; second = r; left = fa; right = fb; left_same = left l fa; right_same = right r fb }

  assign_same : (at : ℕ) (a b : CExpr) (here : Environment) (x : Operand) → Fit here (plain.Assign at None a b) x → ((y : Operand) → Fit here a y → Same here a) → ((y : Operand) → Fit (past a here) b y → Same (past a here) b) → Same here (plain.Assign at None a b)
  assign_same at a b here x fit left right =
      let k = both_is (judged here.scope a) (judged here.scope b) (λ x y. assign_operand here.scope.tags at None x y) x fit.is in
      let fa : Fit here a k.0 = record { stand = fit.stand; short = fit.short.0; limited = fit.limited.0; ordinary = fit.ordinary.0; names = fit.names.0; is = k.1.1 } in
      let fb : Fit (past a here) b k.1.0 = record { stand = fit.stand; short = fit.short.1; limited = fit.limited.1; ordinary = fit.ordinary.1; names = fit.names.1; is = k.1.2 } in
      let p : Pair here a b = pair_of here a b k.0 k.1.0 fa fb left right in
      let there : Environment = elsewhere s' here in
      let a' : CExpr = fewer here.scope a in
      let b' : CExpr = fewer here.scope b in
      let B' : Run Value = value_of b' w (past a' there) >>= used in
      record {
        value = λ st v.
            (λ i. assignment w (sym fit.stand.tags i) None (type_there here a k.0 fa i) (value_there (past a here) b k.1.0 fb i) (place_of a' w there) B' st)
            ∙ assignment_agree w here.scope.tags None (type_in here.scope a) (value_type_in here.scope b) (place_of a' w there) (place_of a w here) B' (value_of b w (past a here) >>= used) p.left_same.place (right_agrees here a b p) (places_keep here a k.0 fa) st v;
        place = λ st v. refl;
      }

  comma_same : (at : ℕ) (a b : CExpr) (here : Environment) (x : Operand) → Fit here (plain.Comma at a b) x → ((y : Operand) → Fit here a y → Same here a) → ((y : Operand) → Fit (past a here) b y → Same (past a here) b) → Same here (plain.Comma at a b)
  comma_same at a b here x fit left right =
      let k = both_is (judged here.scope a) (judged here.scope b) (λ x y. comma_operand at x y) x fit.is in
      let fa : Fit here a k.0 = record { stand = fit.stand; short = fit.short.0; limited = fit.limited.0; ordinary = fit.ordinary.0; names = fit.names.0; is = k.1.1 } in
      let fb : Fit (past a here) b k.1.0 = record { stand = fit.stand; short = fit.short.1; limited = fit.limited.1; ordinary = fit.ordinary.1; names = fit.names.1; is = k.1.2 } in
      let there : Environment = elsewhere s' here in
      let a' : CExpr = fewer here.scope a in
      let b' : CExpr = fewer here.scope b in
      record {
        value = bind_agree IsValid (value_of a' w there) (value_of a w here) (λ _. value_of b' w (past a' there)) (λ _. value_of b w (past a here)) (left k.0 fa).value (keeps here a k.0 fa) (λ y vy. behind here a k.0 fa b (right k.1.0 fb));
        place = λ st v. refl;
      }

  choice_same : (at : ℕ) (a b c : CExpr) (here : Environment) (x : Operand) → Fit here (plain.Cond at a b c) x → ((y : Operand) → Fit here a y → Same here a) → ((y : Operand) → Fit (past a here) b y → Same (past a here) b) → ((y : Operand) → Fit (past b (past a here)) c y → Same (past b (past a here)) c) → Same here (plain.Cond at a b c)
  choice_same at a b c here x fit left right last =
      let k = three_is (judged here.scope a) (judged here.scope b) (judged here.scope c) (λ x y z. choice_operand at x y z) x fit.is in
      let fa : Fit here a k.0 = record { stand = fit.stand; short = fit.short.0; limited = fit.limited.0; ordinary = fit.ordinary.0; names = fit.names.0; is = k.1.1.1 } in
      let fb : Fit (past a here) b k.1.0 = record { stand = fit.stand; short = fit.short.1; limited = fit.limited.1; ordinary = fit.ordinary.1; names = fit.names.1; is = k.1.1.2 } in
      let fc : Fit (past b (past a here)) c k.1.1.0 = record { stand = fit.stand; short = fit.short.2; limited = fit.limited.2; ordinary = fit.ordinary.2; names = fit.names.2; is = k.1.1.3 } in
      let there : Environment = elsewhere s' here in
      let a' : CExpr = fewer here.scope a in
      let b' : CExpr = fewer here.scope b in
      let c' : CExpr = fewer here.scope c in
      let t : CType = type_in here.scope (plain.Cond at a b c) in
      let second : Agree (value_of b' w (past a' there)) (value_of b w (past a here)) = behind here a k.0 fa b (right k.1.0 fb) in
      let third : Agree (value_of c' w (past b' (past a' there))) (value_of c w (past b (past a here))) =
      subst (λ h. Agree (value_of c' w (past b' h)) (value_of c w (past b (past a here)))) (sym (past_there here a k.0 fa)) (behind (past a here) b k.1.0 fb c (last k.1.1.0 fc)) in
      record {
        value = bind_agree IsValid (value_of a' w there >>= used) (value_of a w here >>= used)
            (λ y. choose (is_true y) (value_of b' w (past a' there)) (value_of c' w (past b' (past a' there))) >>= λ v. give (converted (type_in s' (plain.Cond at a' b' c')) v)) (λ y. choose (is_true y) (value_of b w (past a here)) (value_of c w (past b (past a here))) >>= λ v. give (converted t v))
            (used_same here a k.0 fa (left k.0 fa)) (used_keep here a k.0 fa)
            (λ y vy st v.
            ap (λ t. (choose (is_true y) (value_of b' w (past a' there)) (value_of c' w (past b' (past a' there))) >>= λ v. give (converted t v)) st) (type_there here (plain.Cond at a b c) x fit)
            ∙ first_is (choose (is_true y) (value_of b' w (past a' there)) (value_of c' w (past b' (past a' there)))) (choose (is_true y) (value_of b w (past a here)) (value_of c w (past b (past a here)))) (λ v. give (converted t v)) st (chosen_agree (is_true y) _ _ _ _ second third st v));
        place = λ st v. refl;
      }

  if_agree : (b : Bool) (m n o p : Run Value) → Agree m o → Agree n p → Agree (if b then m else n) (if b then o else p)
  if_agree true m n o p h k = h
  if_agree false m n o p h k = k

  cast_agree : (t : CType) (m n : Run Value) → Agree m n → Agree (cast_value t m) (cast_value t n)
  unfolding cast_value
  cast_agree t m n h = if_agree (is_void t) _ _ _ _ (λ st v. first_is m n (λ _. give Missing) st (h st v)) (used_agree m n h)

  cast_same : (at : ℕ) (t : CTy) (a : CExpr) (here : Environment) (x : Operand) → Fit here (plain.Cast at t a) x → ((y : Operand) → Fit here a y → Same here a) → Same here (plain.Cast at t a)
  cast_same at t a here x fit left =
      let k = both_is (written here.scope at t) (judged here.scope a) (λ u x. cast_operand at u x) x fit.is in
      let fa : Fit here a k.1.0 = record { stand = fit.stand; short = fit.short; limited = fit.limited; ordinary = fit.ordinary; names = fit.names.1; is = k.1.2 } in
      record {
        value = λ st v. ap (λ t. cast_value t (value_of (fewer here.scope a) w (elsewhere s' here)) st) (type_there here (plain.Cast at t a) x fit) ∙ cast_agree (type_in here.scope (plain.Cast at t a)) (value_of (fewer here.scope a) w (elsewhere s' here)) (value_of a w here) (left k.1.0 fa).value st v;
        place = λ st v. refl;
      }

  size_same : (e : CExpr) (here : Environment) → value_of e w here ≡ give (Word (constant_in here.scope e)) → place_of e w here ≡ undefined OutsideObject → fewer here.scope e ≡ constant_tree here.scope e → Same here e
  size_same e here k l m =
      let few : constant_in here.scope e < 2 ^ 24 = constant_in_below here.scope e in
      let whole : constant_in here.scope e % 2 ^ 24 ≡ constant_in here.scope e = omega (arith, few) in
      record {
        value = λ st v. ap (λ t. value_of t w (elsewhere s' here) st) m ∙ (ap (λ n. give (Word n) st) whole ∙ ap (λ (r : Run Value). r st) (sym k));
        place = λ st v. ap (λ t. place_of t w (elsewhere s' here) st) m ∙ ap (λ (r : Run Value). r st) (sym l);
      }

  member_same : (at : ℕ) (a : CExpr) (m : List ℕ) (here : Environment) (x : Operand) → Fit here (plain.Member at a m) x → ((y : Operand) → Fit here a y → Same here a) → Same here (plain.Member at a m)
  member_same at a m here x fit left =
      let k = after_is (judged here.scope a) (λ x. member_operand here.scope.tags at m x.ty) x fit.is in
      let fa : Fit here a k.0 = record { stand = fit.stand; short = fit.short; limited = fit.limited; ordinary = fit.ordinary; names = fit.names; is = k.1 } in
      let there : Environment = elsewhere s' here in
      let a' : CExpr = fewer here.scope a in
      let n : ℕ = member_offset here.scope.tags (type_in here.scope a) m in
      let n' : ℕ = member_offset s'.tags (type_in s' a') m in
      let offset : n' ≡ n = λ i. member_offset (sym fit.stand.tags i) (type_there here a k.0 fa i) m in
      let place : Agree (place_of a' w there >>= member_at n') (place_of a w here >>= member_at n) =
      λ st v. ap (λ z. (place_of a' w there >>= member_at z) st) offset ∙ first_is (place_of a' w there) (place_of a w here) (member_at n) st ((left k.0 fa).place st v) in
      record {
        value = λ st v.
            ap (λ t. ((place_of a' w there >>= member_at n') >>= value_at w.inner t) st) (type_there here (plain.Member at a m) x fit)
            ∙ first_is (place_of a' w there >>= member_at n') (place_of a w here >>= member_at n) (value_at w.inner (type_in here.scope (plain.Member at a m))) st (place st v);
        place = place;
      }

  arrow_same : (at : ℕ) (a : CExpr) (m : List ℕ) (here : Environment) (x : Operand) → Fit here (plain.Arrow at a m) x → ((y : Operand) → Fit here a y → Same here a) → Same here (plain.Arrow at a m)
  arrow_same at a m here x fit left =
      let k = after_is (judged here.scope a) (λ x. arrow_operand here.scope.tags at m (value_type x)) x fit.is in
      let fa : Fit here a k.0 = record { stand = fit.stand; short = fit.short; limited = fit.limited; ordinary = fit.ordinary; names = fit.names; is = k.1 } in
      let there : Environment = elsewhere s' here in
      let a' : CExpr = fewer here.scope a in
      let A : Run Value = value_of a w here >>= used in
      let A' : Run Value = value_of a' w there >>= used in
      let n : ℕ = member_offset here.scope.tags (pointee (value_type_in here.scope a)) m in
      let n' : ℕ = member_offset s'.tags (pointee (value_type_in s' a')) m in
      let offset : n' ≡ n = λ i. member_offset (sym fit.stand.tags i) (pointee (value_there here a k.0 fa i)) m in
      let place : Agree (A' >>= member_at n') (A >>= member_at n) = λ st v. ap (λ z. (A' >>= member_at z) st) offset ∙ first_is A' A (member_at n) st (used_same here a k.0 fa (left k.0 fa) st v) in
      record {
        value = λ st v. ap (λ t. ((A' >>= member_at n') >>= value_at w.inner t) st) (type_there here (plain.Arrow at a m) x fit) ∙ first_is (A' >>= member_at n') (A >>= member_at n) (value_at w.inner (type_in here.scope (plain.Arrow at a m))) st (place st v);
        place = place;
      }

  -- ---- names and operators of one operand

  named_value : (here : Environment) (at : ℕ) (name : List ℕ) (o : Option Entity) → entity_of here.scope name ≡ o → P name → ScopesStand P here.scope s' → (x : Operand) → named here.scope at name o ≡ Ok x → value_named w (elsewhere s' here) name (entity_of s' name) ≡ value_named w here name o
  unfolding value_named
  named_value here at name (Some (entity.Object t)) e p stand x k = ap (λ o. value_named w (elsewhere s' here) name o) ((stand.names name p).text (entity.Object t) e)
  named_value here at name (Some (entity.Routine t begun)) e p stand x k = ap (λ o. value_named w (elsewhere s' here) name o) ((stand.names name p).text (entity.Routine t begun) e).1
  named_value here at name (Some (entity.BuiltIn t)) e p stand x k = absurd (cc k)
  named_value here at name (Some entity.Printf) e p stand x k = absurd (cc k)
  named_value here at name None e p stand x k = absurd (cc k)

  variable_same : (at : ℕ) (name : List ℕ) (here : Environment) (x : Operand) → Fit here (plain.Var at name) x → Same here (plain.Var at name)
  variable_same at name here x fit = record { value = λ st v. ap (λ (m : Run Value). m st) (named_value here at name (entity_of here.scope name) refl fit.names fit.stand x fit.is); place = λ st v. refl }

  invert_same : (at : ℕ) (a : CExpr) (here : Environment) (x : Operand) → Fit here (plain.Unary at unary.Invert a) x → ((y : Operand) → Fit here a y → Same here a) → Same here (plain.Unary at unary.Invert a)
  unfolding unary_value unary_place
  invert_same at a here x fit left =
      let k = after_is (judged here.scope a) (λ x. unary_operand here.scope.tags at unary.Invert x) x fit.is in
      let fa : Fit here a k.0 = record { stand = fit.stand; short = fit.short; limited = fit.limited; ordinary = fit.ordinary; names = fit.names.1.1.0; is = k.1 } in
      let result : CType = type_in here.scope (plain.Unary at unary.Invert a) in
      let void : is_void (type_in s' (fewer here.scope (plain.Unary at unary.Invert a))) ≡ false = ap is_void (type_there here (plain.Unary at unary.Invert a) x fit ∙ type_here here (plain.Unary at unary.Invert a) x fit) ∙ number_void_of k.0 x k.2 in
      record {
        value = λ st v. complements_are_evaluated w (elsewhere s' here) at result (fewer here.scope a) st (all_help (fewer here.scope (plain.Unary at unary.Invert a)) fit.names) void (leads here a k.0 fa (left k.0 fa)) v ∙ first_is (value_of (fewer here.scope a) w (elsewhere s' here) >>= used) (value_of a w here >>= used) (on_word unary.Invert) st (used_same here a k.0 fa (left k.0 fa) st v);
        place = λ st v. refl;
      }
    where
      promoted_void : (b : Bool) → is_void (if b then type.Unsigned else type.Int) ≡ false
      promoted_void true = refl
      promoted_void false = refl

      number_void_of : (a x : Operand) → number_operand at unary.Invert a ≡ Ok x → is_void x.ty ≡ false
      number_void_of a x e =
          let l = keeping_is {A = Operand} ((is_arithmetic (value_type a), fault.Mismatch at) ∷ []) (operand at (promoted (value_type a)) Other (unary_constant unary.Invert a.constant)) x e in
          sym (ap (λ z. is_void z.ty) l.1) ∙ promoted_void (is_unsigned (value_type a))

  -- a function's name stays one
  names_same : (a : CExpr) (here : Environment) (x : Operand) → Fit here a x → names_function s' (fewer here.scope a) ≡ names_function here.scope a
  names_same (plain.Var at name) here x fit = go (entity_of here.scope name) refl fit.is
    where
      go : (o : Option Entity) → entity_of here.scope name ≡ o → named here.scope at name o ≡ Ok x → is_function (entity_of s' name) ≡ is_function o
      go (Some (entity.Object t)) e k = ap is_function ((fit.stand.names name fit.names).text (entity.Object t) e)
      go (Some (entity.Routine t begun)) e k = ap is_function ((fit.stand.names name fit.names).text (entity.Routine t begun) e).1
      go (Some (entity.BuiltIn t)) e k = absurd (cc k)
      go (Some entity.Printf) e k = absurd (cc k)
      go None e k = absurd (cc k)
  names_same a here x fit = other_names s' (fewer here.scope a) (not_var here.scope a refl)
    where
      other_names : (s : Scope) (a : CExpr) → is_var a ≡ false → names_function s a ≡ false
      other_names s (plain.Var at name) e = absurd (cc e)
      other_names s a e = refl

  unary_agree : (op : UnOp) (a : CExpr) (here : Environment) (y : Operand) (fa : Fit here a y) → Same here a
      → Agree (unary_value w s' op (fewer here.scope a) (value_of (fewer here.scope a) w (elsewhere s' here) >>= used) (place_of (fewer here.scope a) w (elsewhere s' here))) (unary_value w here.scope op a (value_of a w here >>= used) (place_of a w here))
  unfolding unary_value
  unary_agree unary.Address a here y fa same st v =
      ap (λ b. (if b then (value_of (fewer here.scope a) w (elsewhere s' here) >>= used) else (place_of (fewer here.scope a) w (elsewhere s' here) >>= pointer_to w.inner)) st) (names_same a here y fa)
      ∙ if_agree (names_function here.scope a) _ _ _ _ (used_same here a y fa same) (λ st v. first_is (place_of (fewer here.scope a) w (elsewhere s' here)) (place_of a w here) (pointer_to w.inner) st (same.place st v)) st v
  unary_agree unary.Deref a here y fa same st v =
      ap (λ t. ((value_of (fewer here.scope a) w (elsewhere s' here) >>= used) >>= pointed_value w.inner t) st) (value_there here a y fa)
      ∙ first_is (value_of (fewer here.scope a) w (elsewhere s' here) >>= used) (value_of a w here >>= used) (pointed_value w.inner (value_type_in here.scope a)) st (used_same here a y fa same st v)
  unary_agree unary.Not a here y fa same st v = first_is (value_of (fewer here.scope a) w (elsewhere s' here) >>= used) (value_of a w here >>= used) (λ v. give (truth_value (not (is_true v)))) st (used_same here a y fa same st v)
  unary_agree op a here y fa same st v = first_is (value_of (fewer here.scope a) w (elsewhere s' here) >>= used) (value_of a w here >>= used) (on_word op) st (used_same here a y fa same st v)

  unary_place_agree : (op : UnOp) (m n : Run Value) → Agree m n → Agree (unary_place op m) (unary_place op n)
  unfolding unary_place
  unary_place_agree unary.Deref m n h = h
  unary_place_agree op m n h = λ st v. refl

  unary_fit : (at : ℕ) (op : UnOp) (a : CExpr) (here : Environment) (x : Operand) → StringsAreShort a → ExprIsLimited a → IsOrdinary here.scope a → ScopesStand P here.scope s' → EachName P (fewer here.scope a) → judged here.scope (plain.Unary at op a) ≡ Ok x → ((y : Operand) → Fit here a y → Same here a)
      → Agree (value_of (plain.Unary at op (fewer here.scope a)) w (elsewhere s' here)) (value_of (plain.Unary at op a) w here) × Agree (place_of (plain.Unary at op (fewer here.scope a)) w (elsewhere s' here)) (place_of (plain.Unary at op a) w here)
  unary_fit at op a here x h l o stand names is left =
      let k = after_is (judged here.scope a) (λ x. unary_operand here.scope.tags at op x) x is in
      let fa : Fit here a k.0 = record { stand = stand; short = h; limited = l; ordinary = o; names = names; is = k.1 } in
      (unary_agree op a here k.0 fa (left k.0 fa), unary_place_agree op (value_of (fewer here.scope a) w (elsewhere s' here) >>= used) (value_of a w here >>= used) (used_same here a k.0 fa (left k.0 fa)))

  -- ---- steps and assignments with an operator

  stepped_agree : (tags : Tags) (op : StepOp) (t : CType) (m n : Run Value) → Agree m n → Agree (stepped w tags op t m) (stepped w tags op t n)
  unfolding stepped
  stepped_agree tags op t m n h st v =
      first_is m n (λ p. load (kind_of t) p >>= λ old. operated tags (step_op op) t type.Int old (Word 1) >>= λ new. assigned t p new >>= λ _. give (step_value op old new)) st (h st v)

  place_leads : (here : Environment) (a : CExpr) (x : Operand) (fa : Fit here a x) → Same here a → PlaceLeadsOn w (elsewhere s' here) (fewer here.scope a)
  place_leads here a x fa same st v = keeps_agree IsValid (place_of (fewer here.scope a) w (elsewhere s' here)) (place_of a w here) same.place st v ((places_keep here a x fa).keeps st v)

  -- a place of the text is no function's name, nor what stands for it
  no_function : (here : Environment) (a : CExpr) (x : Operand) (fa : Fit here a x) → is_place x.sort ≡ true → names_function s' (fewer here.scope a) ≡ false
  no_function here a x fa p = let g = good here a x fa in place_names s' (fewer here.scope a) g.0 g.1 (sym g.2.place ∙ p)

  step_same : (at : ℕ) (op : StepOp) (a : CExpr) (here : Environment) (x : Operand) → Fit here (plain.Step at op a) x → ((y : Operand) → Fit here a y → Same here a) → Same here (plain.Step at op a)
  step_same at op a here x fit left =
      let tags : Tags = here.scope.tags in
      let k = after_is (judged here.scope a) (λ x. step_operand tags at x) x fit.is in
      let l : Operand = k.0 in
      let t : CType = type_in here.scope a in
      let a' : CExpr = fewer here.scope a in
      let there : Environment = elsewhere s' here in
      let fa : Fit here a l = record { stand = fit.stand; short = fit.short; limited = fit.limited; ordinary = fit.ordinary.1; names = step_names P tags at op t a' fit.names; is = k.1 } in
      let same : Same here a = left l fa in
      let rules : Stepped tags at l x = stepped_told tags at l x k.2 in
      let is : t ≡ l.ty = type_here here a l fa in
      let void : is_void (type_in s' (fewer here.scope (plain.Step at op a))) ≡ false =
      ap is_void (type_there here (plain.Step at op a) x fit ∙ (type_here here (plain.Step at op a) x fit ∙ (ap (λ z. z.ty) rules.is ∙ scalar_same l.ty rules.scalar))) ∙ scalar_void l.ty rules.scalar in
      record {
        value = λ st v. value_by (is_wide_pointer tags t) refl l fa same rules is fit.names void st v;
        place = undefined_same (place_of (fewer here.scope (plain.Step at op a)) w there) (place_of (plain.Step at op a) w here) (if_none (is_wide_pointer tags t) _ _ w there (wide_none tags op t a') refl) refl;
      }
    where
      wide_none : (tags : Tags) (op : StepOp) (t : CType) (a : CExpr) → place_of (wide_step tags at op t a) w (elsewhere s' here) ≡ undefined OutsideObject
      wide_none tags step.PreInc t a = refl
      wide_none tags step.PreDec t a = refl
      wide_none tags step.PostInc t a = refl
      wide_none tags step.PostDec t a = refl

      value_by : (b : Bool) → is_wide_pointer here.scope.tags (type_in here.scope a) ≡ b → (l : Operand) → (fa : Fit here a l) → Same here a → Stepped here.scope.tags at l x → type_in here.scope a ≡ l.ty
          → EachName P (if b then wide_step here.scope.tags at op (type_in here.scope a) (fewer here.scope a) else plain.Step at op (fewer here.scope a))
          → is_void (type_in s' (if b then wide_step here.scope.tags at op (type_in here.scope a) (fewer here.scope a) else plain.Step at op (fewer here.scope a))) ≡ false
          → Agree (value_of (if b then wide_step here.scope.tags at op (type_in here.scope a) (fewer here.scope a) else plain.Step at op (fewer here.scope a)) w (elsewhere s' here)) (value_of (plain.Step at op a) w here)
      value_by false e l fa same rules is names void st v =
          (λ i. stepped w (sym fit.stand.tags i) op (type_there here a l fa i) (place_of (fewer here.scope a) w (elsewhere s' here)) st)
          ∙ stepped_agree here.scope.tags op (type_in here.scope a) (place_of (fewer here.scope a) w (elsewhere s' here)) (place_of a w here) same.place st v
      value_by true e l fa same rules is names void st v =
          let tags : Tags = here.scope.tags in
          let t : CType = type_in here.scope a in
          let a' : CExpr = fewer here.scope a in
          let there : Environment = elsewhere s' here in
          let some = some_of (sum_type tags (value_type l) type.Int) rules.sum in
          let types : value_type l ≡ t = scalar_same l.ty rules.scalar ∙ sym is in
          let object : is_object_pointer t ≡ true = (wide_sum tags t type.Int some.0 e (subst (λ z. sum_type tags z type.Int ≡ Some some.0) types some.1)).pointer in
          subst (λ z. EachHelps w s' (wide_step z at op t a') → is_wide_pointer z t ≡ true → element_words z t < 2 ^ 23 → is_void (type_in s' (wide_step z at op t a')) ≡ false → value_of (wide_step z at op t a') w there st ≡ stepped w z op t (place_of a' w there) st) (sym fit.stand.tags)
          (λ h k few m. wide_steps_are_taken w there at op t a' st h k object few outer (no_function here a l fa rules.place) m (place_leads here a l fa same) v) (all_help (wide_step tags at op t a') names) e fit.ordinary.0 void
          ∙ stepped_agree tags op t (place_of a' w there) (place_of a w here) same.place st v

  -- the parts of an assignment with an operator
  module _ (at : ℕ) (op : BinOp) (a b : CExpr) (here : Environment) (x : Operand) (fit : Fit here (plain.Assign at (Some op) a b) x) (p : Pair here a b) (rules : Assigned here.scope.tags at op p.first p.second x) where
    abbrev t : CType
    t = type_in here.scope a

    abbrev u : CType
    u = value_type_in here.scope b

    abbrev c' : CExpr
    c' = fewer here.scope a

    abbrev d' : CExpr
    d' = fewer here.scope b

    abbrev afar : Environment
    afar = elsewhere s' here

    type_is : t ≡ p.first.ty
    type_is = type_here here a p.first p.left

    other_is : u ≡ value_type p.second
    other_is = ap decayed (type_here (past a here) b p.second p.right)

    no_name : names_function s' c' ≡ false
    no_name = no_function here a p.first p.left rules.place

    -- with the same in the source
    agrees : Agree (assignment w here.scope.tags (Some op) t u (place_of c' w afar) (value_of d' w (past c' afar) >>= used)) (value_of (plain.Assign at (Some op) a b) w here)
    agrees = assignment_agree w here.scope.tags (Some op) t u (place_of c' w afar) (place_of a w here) (value_of d' w (past c' afar) >>= used) (value_of b w (past a here) >>= used) p.left_same.place (right_agrees here a b p) (places_keep here a p.first p.left)

    number_value : (sign : List ℕ) → sign_of op (counts_unsigned op t u) ≡ Some sign → EachName P (assignment_tree here.scope.tags at (Some sign) op t u c' d') → is_void (type_in s' (assignment_tree here.scope.tags at (Some sign) op t u c' d')) ≡ false
        → Agree (value_of (assignment_tree here.scope.tags at (Some sign) op t u c' d') w afar) (value_of (plain.Assign at (Some op) a b) w here)
    number_value sign k names void st v =
        let takes = sign_takes here.scope.tags op (counts_unsigned op t u) sign p.first p.second rules.result k rules.gives in
        let number : is_arithmetic t ≡ true = ap is_arithmetic (type_is ∙ sym (scalar_same p.first.ty rules.scalar)) ∙ takes.left in
        numbers_are_assigned w afar at op t u sign c' d' st (all_help (assignment_tree here.scope.tags at (Some sign) op t u c' d') names) k number outer no_name void (place_leads here a p.first p.left p.left_same) (right_leads here a b p) v
        ∙ (ap (λ z. assignment w z (Some op) t u (place_of c' w afar) (value_of d' w (past c' afar) >>= used) st) (sym fit.stand.tags) ∙ agrees st v)

    plain_value : (wide : Bool) → is_wide_pointer here.scope.tags t ≡ wide → sign_of op (counts_unsigned op t u) ≡ None → EachName P (if wide then moved_place at t (is_unsigned u) c' d' (words_by op here.scope.tags t) else plain.Assign at (Some op) c' d')
        → is_void (type_in s' (if wide then moved_place at t (is_unsigned u) c' d' (words_by op here.scope.tags t) else plain.Assign at (Some op) c' d')) ≡ false
        → Agree (value_of (if wide then moved_place at t (is_unsigned u) c' d' (words_by op here.scope.tags t) else plain.Assign at (Some op) c' d') w afar) (value_of (plain.Assign at (Some op) a b) w here)
    plain_value false e k names void st v =
        (λ i. assignment w (sym fit.stand.tags i) (Some op) (type_there here a p.first p.left i) (value_there (past a here) b p.second p.right i) (place_of c' w afar) (value_of d' w (past c' afar) >>= used) st) ∙ agrees st v
    plain_value true e k names void st v =
        let to = wide_is here.scope.tags t e in
        let same : value_type p.first ≡ type.Pointer to.0 = scalar_same p.first.ty rules.scalar ∙ (sym type_is ∙ to.1) in
        let goes : converts (told_at at rules.result) (type.Pointer to.0) ≡ true = subst (λ z. converts (told_at at rules.result) z ≡ true) (sym type_is ∙ to.1) rules.converts in
        let m = pointer_assigned here.scope.tags at p.first p.second to.0 same op rules.result rules.gives goes in
        let sum : IsSum op = sum_op here.scope.tags at p.first p.second to.0 op rules.result (counts_unsigned op t u) k rules.gives goes in
        let object : is_object_pointer t ≡ true = ap is_object_pointer to.1 ∙ m.1 in
        let number : is_pointer u ≡ false = no_pointer u (ap is_arithmetic other_is ∙ m.0) in
        subst (λ z. EachHelps w s' (moved_place at t (is_unsigned u) c' d' (words_by op z t)) → is_wide_pointer z t ≡ true → element_words z t < 2 ^ 23 → is_void (type_in s' (moved_place at t (is_unsigned u) c' d' (words_by op z t))) ≡ false
        → value_of (moved_place at t (is_unsigned u) c' d' (words_by op z t)) w afar st ≡ assignment w z (Some op) t u (place_of c' w afar) (value_of d' w (past c' afar) >>= used) st) (sym fit.stand.tags)
        (λ h wide few m. pointers_are_assigned w afar at op t u c' d' st h sum wide object number few outer no_name m (place_leads here a p.first p.left p.left_same) (right_leads here a b p) v)
        (all_help (moved_place at t (is_unsigned u) c' d' (words_by op here.scope.tags t)) names) e fit.ordinary.0 void
        ∙ agrees st v

    value_of_sign : (o : Option (List ℕ)) → sign_of op (counts_unsigned op t u) ≡ o → EachName P (assignment_tree here.scope.tags at o op t u c' d') → is_void (type_in s' (assignment_tree here.scope.tags at o op t u c' d')) ≡ false
        → Agree (value_of (assignment_tree here.scope.tags at o op t u c' d') w afar) (value_of (plain.Assign at (Some op) a b) w here)
    value_of_sign (Some sign) k names void = number_value sign k names void
    value_of_sign None k names void = plain_value (is_wide_pointer here.scope.tags t) refl k names void

    place_of_sign : (o : Option (List ℕ)) → place_of (assignment_tree here.scope.tags at o op t u c' d') w afar ≡ undefined OutsideObject
    place_of_sign (Some sign) = refl
    place_of_sign None = if_none (is_wide_pointer here.scope.tags t) _ _ w afar refl refl

  update_same : (at : ℕ) (op : BinOp) (a b : CExpr) (here : Environment) (x : Operand) → Fit here (plain.Assign at (Some op) a b) x → ((y : Operand) → Fit here a y → Same here a) → ((y : Operand) → Fit (past a here) b y → Same (past a here) b) → Same here (plain.Assign at (Some op) a b)
  update_same at op a b here x fit left right =
      let k = both_is (judged here.scope a) (judged here.scope b) (λ x y. assign_operand here.scope.tags at (Some op) x y) x fit.is in
      let t : CType = type_in here.scope a in
      let u : CType = value_type_in here.scope b in
      let sign : Option (List ℕ) = sign_of op (counts_unsigned op t u) in
      let q = assignment_names P here.scope.tags at sign op t u (fewer here.scope a) (fewer here.scope b) fit.names in
      let fa : Fit here a k.0 = record { stand = fit.stand; short = fit.short.0; limited = fit.limited.0; ordinary = fit.ordinary.1; names = q.0; is = k.1.1 } in
      let fb : Fit (past a here) b k.1.0 = record { stand = fit.stand; short = fit.short.1; limited = fit.limited.1; ordinary = fit.ordinary.2; names = q.1; is = k.1.2 } in
      let p : Pair here a b = record { first = k.0; second = k.1.0; left = fa; right = fb; left_same = left k.0 fa; right_same = right k.1.0 fb } in
      let rules : Assigned here.scope.tags at op k.0 k.1.0 x = assigned_told here.scope.tags at op k.0 k.1.0 x k.1.3 in
      let void : is_void (type_in s' (fewer here.scope (plain.Assign at (Some op) a b))) ≡ false =
      ap is_void (type_there here (plain.Assign at (Some op) a b) x fit ∙ (type_here here (plain.Assign at (Some op) a b) x fit ∙ ap (λ z. z.ty) rules.is)) ∙ scalar_void k.0.ty rules.scalar in
      record {
        value = value_of_sign at op a b here x fit p rules sign refl fit.names void;
        place = undefined_same (place_of (fewer here.scope (plain.Assign at (Some op) a b)) w (elsewhere s' here)) (place_of (plain.Assign at (Some op) a b) w here) (place_of_sign at op a b here x fit p rules sign) refl;
      }

  -- ---- calls

  record FitAll (here : Environment) (es : CExprs) (xs : List Operand) : Type 0 where
    stand : ScopesStand P here.scope s'
    short : EachStringIsShort es
    limited : ExprsAreLimited es
    ordinary : AreOrdinary here.scope es
    names : EachNameOf P (fewer_all here.scope es)
    is : all_judged here.scope es ≡ Ok xs

  abbrev Arguments : Environment → CExprs → Type 0
  Arguments here es = Agree (values_of (fewer_all here.scope es) w (elsewhere s' here)) (values_of es w here)

  -- a call of a name, by what the name stands for
  named_run : (h : Environment) (at pos : ℕ) (name : List ℕ) (es : CExprs) (o : Option Entity) (st : State) → entity_of h.scope name ≡ o
      → value_of (plain.Call at (plain.Var pos name) es) w h st ≡ call w (named_callee name o) (format_of es) (value_named w h name o >>= used) (values_of es w h) (values_behind es w h) st
  named_run h at pos name es o st e =
      ap (λ k. call w (named_callee name (entity_of h.scope name)) (format_of es) (value_of (plain.Var pos name) w h >>= used) (values_of es w k) (values_behind es w h) st) (none_before w h pos name)
      ∙ ap (λ o. call w (named_callee name o) (format_of es) (value_named w h name o >>= used) (values_of es w h) (values_behind es w h) st) e

  direct_agree : (name : List ℕ) (ps : CTypes) (format other : Option (List ℕ)) (p q : Run Value) (args' args printed' printed : Run (List Value)) → Agree args' args → Agree (call w (Direct name ps) other q args' printed') (call w (Direct name ps) format p args printed)
  unfolding call
  direct_agree name ps format other p q args' args printed' printed h st v = first_is args' args (λ vs. w.calls name (all_converted ps vs)) st (h st v)

  known_agree : (name : List ℕ) (ps : CTypes) (format other : Option (List ℕ)) (p q : Run Value) (args' args printed' printed : Run (List Value)) → Agree args' args → Agree (call w (Known name ps) other q args' printed') (call w (Known name ps) format p args printed)
  unfolding call
  known_agree name ps format other p q args' args printed' printed h st v = first_is args' args (λ vs. paid w.inner (built_in w.input w.inner name (all_converted ps vs))) st (h st v)

  through_agree : (ps : CTypes) (format other : Option (List ℕ)) (q p : Run Value) (args' args printed' printed : Run (List Value)) → Agree q p → Keeps IsValid p → Agree args' args → Agree (call w (Through ps) other q args' printed') (call w (Through ps) format p args printed)
  unfolding call
  through_agree ps format other q p args' args printed' printed g keeps h =
      bind_agree IsValid q p (λ x. args' >>= λ vs. call_through w x (all_converted ps vs)) (λ x. args >>= λ vs. call_through w x (all_converted ps vs)) g keeps (λ x vx st v. first_is args' args (λ vs. call_through w x (all_converted ps vs)) st (h st v))

  direct_is : (name : List ℕ) (ps : CTypes) (format : Option (List ℕ)) (p : Run Value) (args printed : Run (List Value)) → call w (Direct name ps) format p args printed ≡ (args >>= λ vs. w.calls name (all_converted ps vs))
  unfolding call
  direct_is name ps format p args printed = refl

  known_is : (name : List ℕ) (ps : CTypes) (format : Option (List ℕ)) (p : Run Value) (args printed : Run (List Value)) → call w (Known name ps) format p args printed ≡ (args >>= λ vs. paid w.inner (built_in w.input w.inner name (all_converted ps vs)))
  unfolding call
  known_is name ps format p args printed = refl

  format_is : (format : Option (List ℕ)) (p : Run Value) (args printed : Run (List Value)) → call w Format format p args printed ≡ (printed >>= λ vs. paid w.inner (printf w.inner format vs))
  unfolding call
  format_is format p args printed = refl

  object_there : (here : Environment) (name : List ℕ) (t : CType) → value_named w (elsewhere s' here) name (Some (entity.Object t)) ≡ value_named w here name (Some (entity.Object t))
  unfolding value_named
  object_there here name t = refl

  object_keeps : (here : Environment) (pos : ℕ) (name : List ℕ) (o : Option Entity) → entity_of here.scope name ≡ o → Keeps IsValid (value_named w here name o >>= used)
  object_keeps here pos name o e = bind_keeps {G = IsValid} {H = IsValid} (subst (λ o. Keeps IsValid (value_named w here name o)) e (value_keeps (plain.Var pos name) w here tt world)) used_keeps

  -- `puts`
  puts_is : (x : Value) → paid false (built_in w.input false (codes "puts") (x ∷ [])) ≡ of_one string_put (x ∷ [])
  unfolding built_in with_one of_one string_put
  puts_is x = refl

  abbrev text_types : CTypes
  text_types = MoreType (type.Pointer type.Char) NoType

  one_text : (here : Environment) (at : ℕ) (es : CExprs) (xs : List Operand) (x : Operand) → all_judged here.scope es ≡ Ok xs → function_call at true (type.Function type.Int text_types) xs ≡ Ok x → (e : CExpr) × (es ≡ plain.MoreExpr e plain.NoExpr)
  one_text here at plain.NoExpr xs x k e =
      let same : [] ≡ xs = cc k in
      absurd (cc (ap (λ z. function_call at true (type.Function type.Int text_types) z) same ∙ e))
  one_text here at (plain.MoreExpr f plain.NoExpr) xs x k e = (f, refl)
  one_text here at (plain.MoreExpr f (plain.MoreExpr g es)) xs x k e =
      let l = both_is (judged here.scope f) (all_judged here.scope (plain.MoreExpr g es)) (λ x xs. Ok (x ∷ xs)) xs k in
      let m = both_is (judged here.scope g) (all_judged here.scope es) (λ x xs. Ok (x ∷ xs)) l.1.0 l.1.2 in
      let inner : m.0 ∷ m.1.0 ≡ l.1.0 = cc m.1.3 in
      let outer : l.0 ∷ l.1.0 ≡ xs = cc l.1.3 in
      let same : xs ≡ l.0 ∷ (m.0 ∷ m.1.0) = sym outer ∙ ap (λ z. l.0 ∷ z) (sym inner) in
      let told : function_call at true (type.Function type.Int text_types) (l.0 ∷ (m.0 ∷ m.1.0)) ≡ Ok x = ap (λ z. function_call at true (type.Function type.Int text_types) z) (sym same) ∙ e in
      let rules = keeping_is {A = Operand} ((count_of text_types == length (l.0 ∷ (m.0 ∷ m.1.0)), fault.BadCall at) ∷ argument_rules text_types (l.0 ∷ (m.0 ∷ m.1.0))) (told_at at type.Int) x told in
      let count = first_kept (count_of text_types == length (l.0 ∷ (m.0 ∷ m.1.0))) (fault.BadCall at) (argument_rules text_types (l.0 ∷ (m.0 ∷ m.1.0))) rules.0 in
      let equal : 1 ≡ suc (suc (length m.1.0)) = eqb-true 1 (suc (suc (length m.1.0))) count.0 in
      absurd (omega (arith, equal))

  put_same : (at pos : ℕ) (name : List ℕ) (here : Environment) (e : CExpr) (t : CType) → entity_of here.scope name ≡ Some (entity.BuiltIn t) → name ≡ codes "puts" → t ≡ type.Function type.Int text_types → P put_string.name → Arguments here (plain.MoreExpr e plain.NoExpr) → ExprIsLimited e
      → Agree (value_of (plain.Call at (plain.Var pos put_string.name) (fewer_all here.scope (plain.MoreExpr e plain.NoExpr))) w (elsewhere s' here)) (value_of (plain.Call at (plain.Var pos name) (plain.MoreExpr e plain.NoExpr)) w here)
  put_same at pos name here e t is named ty p args limited st v =
      let there : Environment = elsewhere s' here in
      let es : CExprs = plain.MoreExpr e plain.NoExpr in
      let es' : CExprs = fewer_all here.scope es in
      let entity' = (helps put_string.name p).known (function_type put_string) refl in
      let F : List Value → Run Value = λ vs. w.calls put_string.name (all_converted text_types vs) in
      let G : List Value → Run Value = λ vs. paid w.inner (built_in w.input w.inner name (all_converted (function_parameters t) vs)) in
      let E : Run Value = value_of e w here >>= used in
      named_run there at pos put_string.name es' (Some (entity.Routine (function_type put_string) entity'.0)) st entity'.1
      ∙ (ap (λ (m : Run Value). m st) (direct_is put_string.name text_types (format_of es') (value_named w there put_string.name (Some (entity.Routine (function_type put_string) entity'.0)) >>= used) (values_of es' w there) (values_behind es' w there))
      ∙ (first_is (values_of es' w there) (values_of es w here) F st (args st v)
      ∙ (one_argument E F st
      ∙ (bind_same IsValid E (λ x. F (x ∷ [])) (λ x. G (x ∷ [])) st (bind_keeps {G = IsValid} {H = IsValid} (value_keeps e w here limited world) used_keeps) v
      (λ x st vx vs.
      (helps put_string.name p).does (of_one string_put) refl refl (as_pointer x ∷ []) st (as_pointer_valid x vx, tt) vs
      ∙ (ap (λ (m : Run Value). m st) (sym (puts_is (as_pointer x)))
      ∙ (λ i. paid (sym outer i) (built_in w.input (sym outer i) (sym named i) (all_converted (function_parameters (sym ty i)) (x ∷ []))) st)))
      ∙ (sym (one_argument E G st)
      ∙ (ap (λ (m : Run Value). m st) (sym (known_is name (function_parameters t) (format_of es) (value_named w here name (Some (entity.BuiltIn t)) >>= used) (values_of es w here) (values_behind es w here)))
      ∙ sym (named_run here at pos name es (Some (entity.BuiltIn t)) st is)))))))

  -- `printf` with a format
  format_put_is : (format : List ℕ) (vs : List Value) → format_put format vs ≡ paid false (printf false (Some format) vs)
  unfolding format_put
  format_put_is format vs = refl

  print_same : (at pos : ℕ) (name format letters : List ℕ) (here : Environment) (es : CExprs) → entity_of here.scope name ≡ Some entity.Printf → format_of es ≡ Some format → conversions_of format ≡ Some letters → P (format_name format) → Agree (values_of (behind_format (fewer_all here.scope es)) w (elsewhere s' here)) (values_behind es w here) → Keeps AreValid (values_behind es w here)
      → Agree (value_of (plain.Call at (plain.Var pos (format_name format)) (behind_format (fewer_all here.scope es))) w (elsewhere s' here)) (value_of (plain.Call at (plain.Var pos name) es) w here)
  print_same at pos name format letters here es is told letters_are p args keeps st v =
      let there : Environment = elsewhere s' here in
      let es' : CExprs = behind_format (fewer_all here.scope es) in
      let fname : List ℕ = format_name format in
      let known : helper_type fname ≡ Some (type.Function type.Void (printed_types 0 letters)) = ap (λ o. Some (type.Function type.Void (printed_types 0 (option_map_or (λ l. l) o [])))) letters_are in
      let entity' = (helps fname p).known (type.Function type.Void (printed_types 0 letters)) known in
      let ps : CTypes = printed_types 0 letters in
      named_run there at pos fname es' (Some (entity.Routine (type.Function type.Void ps) entity'.0)) st entity'.1
      ∙ (ap (λ (m : Run Value). m st) (direct_is fname ps (format_of es') (value_named w there fname (Some (entity.Routine (type.Function type.Void ps) entity'.0)) >>= used) (values_of es' w there) (values_behind es' w there))
      ∙ (first_is (values_of es' w there) (values_behind es w here) (λ vs. w.calls fname (all_converted ps vs)) st (args st v)
      ∙ (bind_same AreValid (values_behind es w here) (λ vs. w.calls fname (all_converted ps vs)) (λ vs. paid w.inner (printf w.inner (format_of es) vs)) st keeps v
      (λ vs st valid sv.
      (helps fname p).does (format_put format) refl refl (all_converted ps vs) st (all_converted_valid ps vs valid) sv
      ∙ (ap (λ (m : Run Value). m st) (format_put_is format (all_converted ps vs))
      ∙ (paid_same (printf false (Some format) (all_converted ps vs)) (printf false (Some format) vs) st (λ st. printed_same format letters vs st letters_are)
      ∙ (λ i. paid (sym outer i) (printf (sym outer i) (sym told i) vs) st))))
      ∙ (ap (λ (m : Run Value). m st) (sym (format_is (format_of es) (value_named w here name (Some entity.Printf) >>= used) (values_of es w here) (values_behind es w here)))
      ∙ sym (named_run here at pos name es (Some entity.Printf) st is)))))

  behind_keeps' : (es : CExprs) (here : Environment) → ExprsAreLimited es → Keeps AreValid (values_behind es w here)
  behind_keeps' plain.NoExpr here l = give_keeps [] tt
  behind_keeps' (plain.MoreExpr e es) here l = values_keep es w here l.1 world

  put_type : (here : Environment) (name : List ℕ) (t : CType) → ScopesStand P here.scope s' → entity_of here.scope name ≡ Some (entity.BuiltIn t) → name ≡ codes "puts" → t ≡ type.Function type.Int text_types
  put_type here name t stand e same =
      let told : Some (entity.BuiltIn (type.Function type.Int text_types)) ≡ Some (entity.BuiltIn t) = subst (λ z. meaning built_ins z ≡ Some (entity.BuiltIn t)) same (stand.built_in name t e) in
      of_some told
    where
      of_some : Some (entity.BuiltIn (type.Function type.Int text_types)) ≡ Some (entity.BuiltIn t) → t ≡ type.Function type.Int text_types
      of_some e = cc e

  letters_of : (at : ℕ) (format : List ℕ) (xs : List Operand) (x : Operand) → call_operand at operands.Format (Some format) xs ≡ Ok x → (letters : List ℕ) × (conversions_of format ≡ Some letters)
  letters_of at format xs x e =
      let k = keeping_is {A = Operand} ((is_print_form (Some format) xs, fault.BadCall at) ∷ []) (told_at at type.Void) x e in
      of_form xs (first_kept (is_print_form (Some format) xs) (fault.BadCall at) [] k.0).0
    where
      of_letters : (o : Option (List ℕ)) → conversions_of format ≡ o → (xs : List Operand) → option_map_or (λ letters. are_printed letters xs) o false ≡ true → (letters : List ℕ) × (conversions_of format ≡ Some letters)
      of_letters None c xs e = absurd (cc e)
      of_letters (Some letters) c xs e = (letters, c)

      of_form : (xs : List Operand) → is_print_form (Some format) xs ≡ true → (letters : List ℕ) × (conversions_of format ≡ Some letters)
      of_form [] e = absurd (cc e)
      of_form (x ∷ xs) e = of_letters (conversions_of format) refl xs e

  no_format : (at : ℕ) (xs : List Operand) (x : Operand) → call_operand at operands.Format None xs ≡ Ok x → ⊥
  no_format at [] x e = absurd (cc e)
  no_format at (y ∷ xs) x e = absurd (cc e)

  abbrev AllOf : CExprs → Type 0
  AllOf es = (h : Environment) (xs : List Operand) → FitAll h es xs → Arguments h es

  abbrev BehindOf : CExprs → Type 0
  BehindOf es = (h : Environment) (xs : List Operand) → EachStringIsShort es → ExprsAreLimited es → AreOrdinary h.scope es → ScopesStand P h.scope s' → EachNameOf P (behind_format (fewer_all h.scope es)) → all_judged h.scope es ≡ Ok xs
      → Agree (values_of (behind_format (fewer_all h.scope es)) w (elsewhere s' h)) (values_behind es w h)

  module _ (at pos : ℕ) (name : List ℕ) (es : CExprs) (here : Environment) (x : Operand) (stand : ScopesStand P here.scope s') (short : EachStringIsShort es) (limited : ExprsAreLimited es) (ordinary : AreOrdinary here.scope es) (all : AllOf es) (behind_them : BehindOf es) where
    abbrev far : Environment
    far = elsewhere s' here

    abbrev es' : CExprs
    es' = fewer_all here.scope es

    -- the arguments, where the call is typed
    told : (c : Judged operands.Callee) (format : Option (List ℕ)) → both c (all_judged here.scope es) (λ c xs. call_operand at c format xs) ≡ Ok x → (d : operands.Callee) × ((xs : List Operand) × (c ≡ Ok d) × (all_judged here.scope es ≡ Ok xs) × (call_operand at d format xs ≡ Ok x))
    told c format e = both_is c (all_judged here.scope es) (λ c xs. call_operand at c format xs) x e

    arguments : (xs : List Operand) → all_judged here.scope es ≡ Ok xs → EachNameOf P es' → Arguments here es
    arguments xs e names = all here xs (record { stand = stand; short = short; limited = limited; ordinary = ordinary; names = names; is = e })

    named_value_same : (o : Option Entity) (format : Option (List ℕ)) → entity_of here.scope name ≡ o → format_of es ≡ format → EachName P (named_call at pos name o format es') → both (expressions.named_callee here.scope at name o) (all_judged here.scope es) (λ c xs. call_operand at c format xs) ≡ Ok x
        → Agree (value_of (named_call at pos name o format es') w far) (value_of (plain.Call at (plain.Var pos name) es) w here)
    named_value_same (Some (entity.Object t)) format e f p is st v =
        let k = told (expressions.named_callee here.scope at name (Some (entity.Object t))) format is in
        let o : Option Entity = Some (entity.Object t) in
        let ps : CTypes = parameters_of (decayed t) in
        named_run far at pos name es' o st ((stand.names name p.0).text (entity.Object t) e)
        ∙ (through_agree ps (format_of es) (format_of es') (value_named w far name o >>= used) (value_named w here name o >>= used) (values_of es' w far) (values_of es w here) (values_behind es' w far) (values_behind es w here)
        (used_agree (value_named w far name o) (value_named w here name o) (λ st v. ap (λ (m : Run Value). m st) (object_there here name t))) (object_keeps here pos name o e) (arguments k.1.0 k.1.2 p.1) st v
        ∙ sym (named_run here at pos name es o st e))
    named_value_same (Some (entity.Routine t begun)) format e f p is st v =
        let k = told (expressions.named_callee here.scope at name (Some (entity.Routine t begun))) format is in
        let h = (stand.names name p.0).text (entity.Routine t begun) e in
        named_run far at pos name es' (Some (entity.Routine t h.0)) st h.1
        ∙ (direct_agree name (function_parameters t) (format_of es) (format_of es') (value_named w here name (Some (entity.Routine t begun)) >>= used) (value_named w far name (Some (entity.Routine t h.0)) >>= used) (values_of es' w far) (values_of es w here) (values_behind es' w far) (values_behind es w here) (arguments k.1.0 k.1.2 p.1) st v
        ∙ sym (named_run here at pos name es (Some (entity.Routine t begun)) st e))
    named_value_same (Some (entity.BuiltIn t)) format e f p is st v = go (bytes_eq name (codes "puts")) refl p st v
      where
        go : (b : Bool) → bytes_eq name (codes "puts") ≡ b → EachName P (plain.Call at (plain.Var pos (if b then put_string.name else name)) es') → Agree (value_of (plain.Call at (plain.Var pos (if b then put_string.name else name)) es') w far) (value_of (plain.Call at (plain.Var pos name) es) w here)
        go false b p st v =
            let k = told (expressions.named_callee here.scope at name (Some (entity.BuiltIn t))) format is in
            let o : Option Entity = Some (entity.BuiltIn t) in
            named_run far at pos name es' o st ((stand.names name p.0).text (entity.BuiltIn t) e)
            ∙ (known_agree name (function_parameters t) (format_of es) (format_of es') (value_named w here name o >>= used) (value_named w far name o >>= used) (values_of es' w far) (values_of es w here) (values_behind es' w far) (values_behind es w here) (arguments k.1.0 k.1.2 p.1) st v
            ∙ sym (named_run here at pos name es o st e))
        go true b p st v =
            let k = told (expressions.named_callee here.scope at name (Some (entity.BuiltIn t))) format is in
            let same : name ≡ codes "puts" = (bytes_eq-Decides name (codes "puts")).0 b in
            let ty : t ≡ type.Function type.Int text_types = put_type here name t stand e same in
            let callee : operands.Direct t true ≡ k.0 = cc k.1.1 in
            let call_told : function_call at true (type.Function type.Int text_types) k.1.0 ≡ Ok x = subst (λ z. function_call at true z k.1.0 ≡ Ok x) ty (subst (λ c. call_operand at c format k.1.0 ≡ Ok x) (sym callee) k.1.3) in
            let one = one_text here at es k.1.0 x k.1.2 call_told in
            subst (λ z. Arguments here z → ExprsAreLimited z → value_of (plain.Call at (plain.Var pos put_string.name) (fewer_all here.scope z)) w far st ≡ value_of (plain.Call at (plain.Var pos name) z) w here st) (sym one.1)
            (λ args lim. put_same at pos name here one.0 t e same ty p.0 args lim.0 st v) (arguments k.1.0 k.1.2 p.1) limited
    named_value_same (Some entity.Printf) (Some format) e f p is st v =
        let k = told (expressions.named_callee here.scope at name (Some entity.Printf)) (Some format) is in
        let callee : operands.Format ≡ k.0 = cc k.1.1 in
        let call_told : call_operand at operands.Format (Some format) k.1.0 ≡ Ok x = subst (λ c. call_operand at c (Some format) k.1.0 ≡ Ok x) (sym callee) k.1.3 in
        let letters = letters_of at format k.1.0 x call_told in
        print_same at pos name format letters.0 here es e f letters.1 p.0 (behind_them here k.1.0 short limited ordinary stand p.1 k.1.2) (behind_keeps' es here limited) st v
    named_value_same (Some entity.Printf) None e f p is st v =
        let k = told (expressions.named_callee here.scope at name (Some entity.Printf)) None is in
        let callee : operands.Format ≡ k.0 = cc k.1.1 in
        absurd (no_format at k.1.0 x (subst (λ c. call_operand at c None k.1.0 ≡ Ok x) (sym callee) k.1.3))
    named_value_same None format e f p is st v = absurd (no_callee (all_judged here.scope es) is)
      where
        no_callee : (r : Judged (List Operand)) → both {A = operands.Callee} (Err (fault.Unknown at)) r (λ c xs. call_operand at c format xs) ≡ Ok x → ⊥
        no_callee (Ok xs) e = absurd (cc e)
        no_callee (Err y) e = absurd (cc e)

  -- what isn't a name is called through its value
  callee_through : (s : Scope) (f : CExpr) → is_var f ≡ false → callee_in s f ≡ Through (parameters_of (value_type_in s f))
  callee_through s (plain.Var pos name) e = absurd (cc e)
  callee_through s f e = refl

  judged_through : (s : Scope) (at : ℕ) (f : CExpr) (r : Judged Operand) → is_var f ≡ false → callee_of s at f r ≡ through r
  judged_through s at (plain.Var pos name) r e = absurd (cc e)
  judged_through s at f r e = refl

  through_is : (r : Judged Operand) (d : operands.Callee) → through r ≡ Ok d → (y : Operand) × (r ≡ Ok y)
  through_is (Ok y) d e = (y, refl)
  through_is (Err f) d e = absurd (cc e)

  -- the call that stands for it is one of that value
  pointer_value : (at : ℕ) (f : CExpr) (es : CExprs) (here : Environment) (y : Operand) (xs : List Operand) → is_var f ≡ false → (fa : Fit here f y) → Same here f → FitAll (past f here) es xs → Arguments (past f here) es
      → Agree (value_of (plain.Call at (fewer here.scope f) (fewer_all here.scope es)) w (elsewhere s' here)) (value_of (plain.Call at f es) w here)
  pointer_value at f es here y xs v fa same fit args st s =
      let there : Environment = elsewhere s' here in
      let f' : CExpr = fewer here.scope f in
      let es' : CExprs = fewer_all here.scope es in
      let ps : CTypes = parameters_of (value_type_in here.scope f) in
      let those : Agree (values_of es' w (past f' there)) (values_of es w (past f here)) = subst (λ h. Agree (values_of es' w h) (values_of es w (past f here))) (sym (past_there here f y fa)) args in
      ap (λ c. call w c (format_of es') (value_of f' w there >>= used) (values_of es' w (past f' there)) (values_behind es' w there) st) (callee_through s' f' (not_var here.scope f v) ∙ ap (λ t. Through (parameters_of t)) (value_there here f y fa))
      ∙ (through_agree ps (format_of es) (format_of es') (value_of f' w there >>= used) (value_of f w here >>= used) (values_of es' w (past f' there)) (values_of es w (past f here)) (values_behind es' w there) (values_behind es w here) (used_same here f y fa same) (used_keep here f y fa) those st s
      ∙ ap (λ c. call w c (format_of es) (value_of f w here >>= used) (values_of es w (past f here)) (values_behind es w here) st) (sym (callee_through here.scope f v)))

  other_value : (at : ℕ) (f : CExpr) (es : CExprs) (here : Environment) (x : Operand) → is_var f ≡ false → Fit here (plain.Call at f es) x → ((y : Operand) → Fit here f y → Same here f) → AllOf es → Agree (value_of (fewer here.scope (plain.Call at f es)) w (elsewhere s' here)) (value_of (plain.Call at f es) w here)
  other_value at f es here x v fit one all =
      let k = both_is (callee_of here.scope at f (judged here.scope f)) (all_judged here.scope es) (λ c xs. call_operand at c (format_of es) xs) x fit.is in
      let y = through_is (judged here.scope f) k.0 (sym (judged_through here.scope at f (judged here.scope f) v) ∙ k.1.1) in
      let same_tree : call_tree here.scope at (fewer here.scope f) (format_of es) (fewer_all here.scope es) ≡ plain.Call at (fewer here.scope f) (fewer_all here.scope es) = other_call here.scope at (fewer here.scope f) (format_of es) (fewer_all here.scope es) (not_var here.scope f v) in
      let names : EachName P (plain.Call at (fewer here.scope f) (fewer_all here.scope es)) = subst (λ t. EachName P t) same_tree fit.names in
      let fa : Fit here f y.0 = record { stand = fit.stand; short = fit.short.0; limited = fit.limited.0; ordinary = fit.ordinary.0; names = names.0; is = y.1 } in
      let fb : FitAll (past f here) es k.1.0 = record { stand = fit.stand; short = fit.short.1; limited = fit.limited.1; ordinary = fit.ordinary.1; names = names.1; is = k.1.2 } in
      subst (λ t. Agree (value_of t w (elsewhere s' here)) (value_of (plain.Call at f es) w here)) (sym same_tree) (pointer_value at f es here y.0 k.1.0 v fa (one y.0 fa) fb (all (past f here) k.1.0 fb))

  call_value : (at : ℕ) (f : CExpr) (es : CExprs) (here : Environment) (x : Operand) → Fit here (plain.Call at f es) x → ((y : Operand) → Fit here f y → Same here f) → AllOf es → BehindOf es → Agree (value_of (fewer here.scope (plain.Call at f es)) w (elsewhere s' here)) (value_of (plain.Call at f es) w here)
  call_value at (plain.Var pos name) es here x fit one all behind_them =
      named_value_same at pos name es here x fit.stand fit.short.1 fit.limited.1 fit.ordinary.1 all behind_them (entity_of here.scope name) (format_of es) refl refl fit.names fit.is
  call_value at f es here x fit one all behind_them = other_value at f es here x refl fit one all

  -- a call is no place
  named_none : (at pos : ℕ) (name : List ℕ) (o : Option Entity) (format : Option (List ℕ)) (es : CExprs) (h : Environment) → place_of (named_call at pos name o format es) w h ≡ undefined OutsideObject
  named_none at pos name (Some entity.Printf) (Some format) es h = refl
  named_none at pos name (Some entity.Printf) None es h = refl
  named_none at pos name (Some (entity.BuiltIn t)) format es h = refl
  named_none at pos name (Some (entity.Object t)) format es h = refl
  named_none at pos name (Some (entity.Routine t begun)) format es h = refl
  named_none at pos name None format es h = refl

  tree_none : (s : Scope) (at : ℕ) (f : CExpr) (format : Option (List ℕ)) (es : CExprs) (h : Environment) → place_of (call_tree s at f format es) w h ≡ undefined OutsideObject
  tree_none s at (plain.Var pos name) format es h = named_none at pos name (entity_of s name) format es h
  tree_none s at f format es h = refl

  call_same : (at : ℕ) (f : CExpr) (es : CExprs) (here : Environment) (x : Operand) → Fit here (plain.Call at f es) x → ((y : Operand) → Fit here f y → Same here f) → AllOf es → BehindOf es → Same here (plain.Call at f es)
  call_same at f es here x fit one all behind_them = record {
    value = call_value at f es here x fit one all behind_them;
    place = undefined_same (place_of (fewer here.scope (plain.Call at f es)) w (elsewhere s' here)) (place_of (plain.Call at f es) w here) (tree_none here.scope at (fewer here.scope f) (format_of es) (fewer_all here.scope es) (elsewhere s' here)) refl;
  }

  -- one argument and those behind it
  more_same : (here : Environment) (e : CExpr) (es : CExprs) (xs : List Operand) → FitAll here (plain.MoreExpr e es) xs → ((y : Operand) → Fit here e y → Same here e) → AllOf es → Arguments here (plain.MoreExpr e es)
  more_same here e es xs fit one all =
      let k = both_is (judged here.scope e) (all_judged here.scope es) (λ x xs. Ok (x ∷ xs)) xs fit.is in
      let fa : Fit here e k.0 = record { stand = fit.stand; short = fit.short.0; limited = fit.limited.0; ordinary = fit.ordinary.0; names = fit.names.0; is = k.1.1 } in
      let fb : FitAll (past e here) es k.1.0 = record { stand = fit.stand; short = fit.short.1; limited = fit.limited.1; ordinary = fit.ordinary.1; names = fit.names.1; is = k.1.2 } in
      let there : Environment = elsewhere s' here in
      let e' : CExpr = fewer here.scope e in
      let es' : CExprs = fewer_all here.scope es in
      let those : Agree (values_of es' w (past e' there)) (values_of es w (past e here)) = subst (λ h. Agree (values_of es' w h) (values_of es w (past e here))) (sym (past_there here e k.0 fa)) (all (past e here) k.1.0 fb) in
      bind_agree IsValid (value_of e' w there >>= used) (value_of e w here >>= used) (λ v. values_of es' w (past e' there) >>= λ vs. give (v ∷ vs)) (λ v. values_of es w (past e here) >>= λ vs. give (v ∷ vs)) (used_same here e k.0 fa (one k.0 fa)) (used_keep here e k.0 fa)
      (λ v vv st s. first_is (values_of es' w (past e' there)) (values_of es w (past e here)) (λ vs. give (v ∷ vs)) st (those st s))

  mutual
    same : (e : CExpr) (here : Environment) (x : Operand) → Fit here e x → Same here e
    same (plain.Number at n unsigned) here x fit = record { value = λ st v. refl; place = λ st v. refl }
    same (plain.Str at text) here x fit = record { value = λ st v. refl; place = λ st v. refl }
    same (plain.Null at) here x fit = record { value = λ st v. refl; place = λ st v. refl }
    same (plain.Var at name) here x fit = variable_same at name here x fit
    same (plain.Unary at unary.Invert a) here x fit = invert_same at a here x fit (λ y f. same a here y f)
    same (plain.Unary at op a) here x fit = let k = unary_fit at op a here x fit.short fit.limited fit.ordinary fit.stand fit.names fit.is (λ y f. same a here y f) in record { value = k.0; place = k.1 }
    same (plain.Step at op a) here x fit = step_same at op a here x fit (λ y f. same a here y f)
    same (plain.Binary at op a b) here x fit = binary_same at op a b here x fit (λ y f. same a here y f) (λ y f. same b (past a here) y f)
    same (plain.Assign at None a b) here x fit = assign_same at a b here x fit (λ y f. same a here y f) (λ y f. same b (past a here) y f)
    same (plain.Assign at (Some op) a b) here x fit = update_same at op a b here x fit (λ y f. same a here y f) (λ y f. same b (past a here) y f)
    same (plain.Cond at a b c) here x fit = choice_same at a b c here x fit (λ y f. same a here y f) (λ y f. same b (past a here) y f) (λ y f. same c (past b (past a here)) y f)
    same (plain.Comma at a b) here x fit = comma_same at a b here x fit (λ y f. same a here y f) (λ y f. same b (past a here) y f)
    same (plain.Cast at t a) here x fit = cast_same at t a here x fit (λ y f. same a here y f)
    same (plain.SizeTy at t) here x fit = size_same (plain.SizeTy at t) here refl refl refl
    same (plain.SizeOf at a) here x fit = size_same (plain.SizeOf at a) here refl refl refl
    same (plain.Index at a b) here x fit = index_same at a b here x fit (λ y f. same a here y f) (λ y f. same b (past a here) y f)
    same (plain.Call at f es) here x fit = call_same at f es here x fit (λ y g. same f here y g) (λ h xs g. all_same es h xs g) (λ h xs a b c d n k. behind_all es h xs a b c d n k)
    same (plain.Member at a m) here x fit = member_same at a m here x fit (λ y f. same a here y f)
    same (plain.Arrow at a m) here x fit = arrow_same at a m here x fit (λ y f. same a here y f)

    all_same : (es : CExprs) → AllOf es
    all_same plain.NoExpr h xs fit st v = refl
    all_same (plain.MoreExpr e es) h xs fit st v = more_same h e es xs fit (λ y f. same e h y f) (λ k ys f. all_same es k ys f) st v

    behind_all : (es : CExprs) → BehindOf es
    behind_all plain.NoExpr h xs a b c d n k st v = refl
    behind_all (plain.MoreExpr e es) h xs a b c d n k st v =
        let l = both_is (judged h.scope e) (all_judged h.scope es) (λ x xs. Ok (x ∷ xs)) xs k in
        all_same es h l.1.0 (record { stand = d; short = a.1; limited = b.1; ordinary = c.1; names = n; is = l.1.2 }) st v

pub expressions_are_kept : ExpressionsAreKept
expressions_are_kept test w here s' e x st stand helps outer stays short limited ordinary names is v =
    let world : WorldKeeps w = record { input = stays.input; calls = λ name vs a. record { keeps = λ st s. stays.calls name vs st a s } } in
    let k = same (λ name. test name ≡ true) w s' outer world helps e here x (record { stand = stand; short = short; limited = limited; ordinary = ordinary; names = names; is = is }) in
    (k.value st v, k.place st v)
