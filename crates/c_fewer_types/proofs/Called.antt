-- A call gives what it gave, also where a helper function stands for what was called.
use Rattle.std.proofs.Common.{◌≡◌, ℕ, suc, List, [], ◌∷◌, length, Option, Some, None, Bool, true, false, refl, sym, ap, ap₂, ◌∙◌, subst, arith}
use Rattle.std.specs.Prelude.{◌&&◌, ◌||◌, ◌==◌, Ok, Err, map, if◌then◌else◌, codes}
use Rattle.std.specs.Option.{option_map_or}
use Rattle.std.specs.Str.{bytes_eq}
use Rattle.std.proofs.lemmas.Bool.Decides.{nat_tests}
use Rattle.std.proofs.lemmas.Slice.Eq.{bytes_eq-Decides}
use Rattle.c_syntax.specs.Plain as plain
use Rattle.c_syntax.specs.Plain.{CExpr, CExprs}
use Rattle.c_syntax.specs.Words.{meaning}
use Rattle.c_types.specs.declared.fault.TypeFault.{TypeFault}
use Rattle.c_types.specs.declared.fault.TypeFault.TheVariants as fault
use Rattle.c_types.specs.Types as type
use Rattle.c_types.specs.Types.{CType, CTypes, NoType, MoreType, is_arithmetic, is_pointer, is_void_pointer, is_object_pointer, same_type, types, decayed}
use Rattle.c_types.specs.Refusals.{Judged, least_of, broken}
use Rattle.c_types.specs.Scope as entity
use Rattle.c_types.specs.Scope.{Scope, Entity, entity_of, contains, built_ins}
use Rattle.c_types.specs.Operands.{Operand, value_at, value_type, is_null_constant, converts, conversions_of, are_printed, is_print_form, Callee, Direct, Format, Through, argument_rules, count_of, function_call, pointer_call, call_operand}
use Rattle.c_types.specs.Expressions.{named_callee, callee_of, through, format_of, judged, all_judged}
use Rattle.c_alike.specs.Alike.{EachName, EachNameOf}
use Rattle.c_fewer_types.specs.AsGood.{IsAsGood, AreAsGood, JudgedAsGood}
use Rattle.c_fewer_types.proofs.AsGoodRules.{rules_take_as_good}
use Rattle.c_helpers.specs.Functions.{format_name, put_string, conversion_type, arguments_from}
use Rattle.c_helpers.specs.Fewer.{behind_format, named_call, call_tree, fewer, fewer_all}
use Rattle.c_fewer_types.specs.Stands.{head_type, function_type, helper_type, NameStands, ExprStands}
use Rattle.c_fewer_types.proofs.Literals.{is_var, not_var, other_call}
use Rattle.c_fewer_types.specs.Laws.{KnowsBuiltIns}
use Rattle.c_fewer_types.proofs.Judged.{moved, refused_good, self_good, keeping_is, first_kept}
use Rattle.c_fewer_types.proofs.Calls.{number_converts, calling, helper_judged}
use Rattle.c_fewer_types.proofs.Rules.{and_true}

-- ---- what is called

call_refused : (at : ℕ) (format : Option (List ℕ)) (d : TypeFault) (xs : Judged (List Operand)) (q : Judged Operand) → JudgedAsGood (calling at format (Err d) xs) q
call_refused at format d (Ok xs) q x e = absurd (cc e)
call_refused at format d (Err y) q x e = absurd (cc e)

through_good : (at : ℕ) (t : CType) (xs ys : List Operand) → AreAsGood xs ys → JudgedAsGood (pointer_call at t xs) (pointer_call at t ys)
through_good at (type.Pointer t) xs ys g = rules_take_as_good.call at at t xs ys g
through_good at t xs ys g = refused_good (pointer_call at t ys) (fault.BadCall at)

-- a function that has a definition has one
defined_good : (at : ℕ) (d d' : Bool) (t : CType) (xs ys : List Operand) → (d ≡ true → d' ≡ true) → AreAsGood xs ys → JudgedAsGood (function_call at d t xs) (function_call at d' t ys)
defined_good at true d' t xs ys f g = subst (λ b. JudgedAsGood (function_call at true t xs) (function_call at b t ys)) (sym (f refl)) (rules_take_as_good.call at at t xs ys g)
defined_good at false d' (type.Function result ts) xs ys f g = refused_good (function_call at d' (type.Function result ts) ys) (least_of (fault.BadCall at) (broken (argument_rules ts xs)))
defined_good at false d' t xs ys f g = refused_good (function_call at d' t ys) (fault.BadCall at)

-- ---- formats

abbrev params_from : ℕ → List ℕ → CTypes
params_from i letters = types (map (λ d. head_type d.ty) (arguments_from i letters))

-- what a conversion takes converts to its parameter
letter_converts : (letter : ℕ) (x y : Operand) → IsAsGood x y → (if letter == 115 then same_type (value_type x) (type.Pointer type.Char) else is_arithmetic (value_type x)) ≡ true → converts y (head_type (conversion_type letter)) ≡ true
letter_converts letter x y g e = go (letter == 115) (letter == 100) (letter == 99) (subst (λ t. (if letter == 115 then same_type t (type.Pointer type.Char) else is_arithmetic t) ≡ true) (ap decayed g.ty) e)
  where
    or_second : (a b c d f : Bool) → b ≡ true → (a || b || c || d || f) ≡ true
    or_second true b c d f e = refl
    or_second false b c d f e = ap (λ z. z || c || d || f) e

    go : (b c d : Bool) → (if b then same_type (value_type y) (type.Pointer type.Char) else is_arithmetic (value_type y)) ≡ true
        → converts y (head_type (if b then plain.Pointer plain.Char else if c then plain.Int else if d then plain.Int else plain.Unsigned)) ≡ true
    go true c d e = or_second (is_arithmetic (value_type y) && false) (same_type (value_type y) (type.Pointer type.Char)) (is_void_pointer (value_type y) && true) (is_object_pointer (value_type y) && false) (is_null_constant y && true) e
    go false true d e = number_converts y type.Int e refl
    go false false true e = number_converts y type.Int e refl
    go false false false e = number_converts y type.Unsigned e refl

-- the arguments behind a format are those of its function
printed : (i : ℕ) (letters : List ℕ) (xs ys : List Operand) → are_printed letters xs ≡ true → AreAsGood xs ys → (count_of (params_from i letters) ≡ length ys) × (broken (argument_rules (params_from i letters) ys) ≡ None)
printed i [] [] [] e g = (refl, refl)
printed i [] [] (y ∷ ys) e g = absurd g
printed i [] (x ∷ xs) ys e g = absurd (cc e)
printed i (letter ∷ letters) [] ys e g = absurd (cc e)
printed i (letter ∷ letters) (x ∷ xs) [] e g = absurd g
printed i (letter ∷ letters) (x ∷ xs) (y ∷ ys) e g =
    let k = and_true (if letter == 115 then same_type (value_type x) (type.Pointer type.Char) else is_arithmetic (value_type x)) (are_printed letters xs) e in
    let l = printed (suc i) letters xs ys k.1 g.1 in
    let n : count_of (params_from (suc i) letters) ≡ length ys = l.0 in
    let c : converts y (head_type (conversion_type letter)) ≡ true = letter_converts letter x y g.0 k.0 in
    (omega (arith, n), ap₂ (λ b o. if b then o else Some (least_of (fault.Mismatch y.pos) o)) c l.1)

equal_count : (m n : ℕ) → m ≡ n → (m == n) ≡ true
equal_count m n e = grind (arith, nat_tests)

module _ (s s' : Scope) where
  abbrev P : List ℕ → Type 0
  P = NameStands s s'

  -- the arguments of a call, and those that stand for them
  abbrev All : CExprs → CExprs → Type 0
  All es es' = (xs : List Operand) → all_judged s es ≡ Ok xs → (ys : List Operand) × (all_judged s' es' ≡ Ok ys) × AreAsGood xs ys

  -- but for the first
  abbrev Behind : CExprs → CExprs → Type 0
  Behind es es' = (x : Operand) (xs : List Operand) → all_judged s es ≡ Ok (x ∷ xs) → (ys : List Operand) × (all_judged s' es' ≡ Ok ys) × AreAsGood xs ys

  call_with : (at : ℕ) (c d : Callee) (format other : Option (List ℕ)) (es es' : CExprs) → All es es' → ((xs ys : List Operand) → AreAsGood xs ys → JudgedAsGood (call_operand at c format xs) (call_operand at d other ys))
      → JudgedAsGood (calling at format (Ok c) (all_judged s es)) (calling at other (Ok d) (all_judged s' es'))
  call_with at c d format other es es' all h x e = go (all_judged s es) refl e
    where
      go : (r : Judged (List Operand)) → all_judged s es ≡ r → calling at format (Ok c) r ≡ Ok x → (b : Operand) × (calling at other (Ok d) (all_judged s' es') ≡ Ok b) × IsAsGood x b
      go (Ok xs) k e =
          let l = all xs k in
          let m = h xs l.0 l.2 x e in
          (m.0, ap (λ r. calling at other (Ok d) r) l.1 ∙ m.1, m.2)
      go (Err y) k e = absurd (cc e)

  -- a name that is called and stands for what it stood for
  same_called : (at pos : ℕ) (name : List ℕ) (o : Option Entity) (c d : Callee) (format : Option (List ℕ)) (es es' : CExprs) → entity_of s' name ≡ o → named_callee s' at name o ≡ Ok d → All es es'
      → ((xs ys : List Operand) → AreAsGood xs ys → JudgedAsGood (call_operand at c format xs) (call_operand at d (format_of es') ys)) → JudgedAsGood (calling at format (Ok c) (all_judged s es)) (judged s' (plain.Call at (plain.Var pos name) es'))
  same_called at pos name o c d format es es' e k all h =
      moved (calling at format (Ok c) (all_judged s es)) (judged s' (plain.Call at (plain.Var pos name) es')) (calling at (format_of es') (Ok d) (all_judged s' es'))
      (ap (λ o. calling at (format_of es') (named_callee s' at name o) (all_judged s' es')) e ∙ ap (λ r. calling at (format_of es') r (all_judged s' es')) k)
      (call_with at c d format (format_of es') es es' all h)

  -- what a call of a format's function gives is as good
  abbrev Printed : ℕ → ℕ → List ℕ → CExprs → Operand → Type 0
  Printed at pos format es' z = (b : Operand) × (judged s' (plain.Call at (plain.Var pos (format_name format)) es') ≡ Ok b) × IsAsGood z b

  print_good : (at pos : ℕ) (format : List ℕ) (es es' : CExprs) → P (format_name format) → Behind es es' → JudgedAsGood (calling at (Some format) (Ok Format) (all_judged s es)) (judged s' (plain.Call at (plain.Var pos (format_name format)) es'))
  print_good at pos format es es' p behind z e = of_arguments (all_judged s es) refl e
    where
      of_letters : (xs ys : List Operand) (o : Option (List ℕ)) → conversions_of format ≡ o → option_map_or (λ letters. are_printed letters xs) o false ≡ true → AreAsGood xs ys → all_judged s' es' ≡ Ok ys → value_at at type.Void ≡ z → Printed at pos format es' z
      of_letters xs ys None c k g l m = absurd (cc k)
      of_letters xs ys (Some letters) c k g l m =
          let n = printed 0 letters xs ys k g in
          let known : helper_type (format_name format) ≡ Some (type.Function type.Void (params_from 0 letters)) = ap (λ o. Some (type.Function type.Void (params_from 0 (option_map_or (λ l. l) o [])))) c in
          let j = helper_judged s s' at pos (format_name format) type.Void (params_from 0 letters) es' ys known p l
          (ap₂ (λ b o. if b then o else Some (least_of (fault.BadCall at) o)) (equal_count (count_of (params_from 0 letters)) (length ys) n.0) n.1) in
          (value_at at type.Void, j, subst (λ w. IsAsGood w (value_at at type.Void)) m (self_good (value_at at type.Void) refl))

      of_form : (xs : List Operand) → all_judged s es ≡ Ok xs → is_print_form (Some format) xs ≡ true → value_at at type.Void ≡ z → Printed at pos format es' z
      of_form [] k f m = absurd (cc f)
      of_form (x ∷ xs) k f m = let l = behind x xs k in of_letters xs l.0 (conversions_of format) refl f l.2 l.1 m

      of_arguments : (r : Judged (List Operand)) → all_judged s es ≡ r → calling at (Some format) (Ok Format) r ≡ Ok z → Printed at pos format es' z
      of_arguments (Ok xs) k e =
          let l = keeping_is ((is_print_form (Some format) xs, fault.BadCall at) ∷ []) (value_at at type.Void) z e in
          of_form xs k (first_kept (is_print_form (Some format) xs) (fault.BadCall at) [] l.0).0 l.1
      of_arguments (Err y) k e = absurd (cc e)

  -- without a format nothing is printed
  none_printed : (at : ℕ) (es : CExprs) (q : Judged Operand) → JudgedAsGood (calling at None (Ok Format) (all_judged s es)) q
  none_printed at es q z e = go (all_judged s es) e
    where
      go : (r : Judged (List Operand)) → calling at None (Ok Format) r ≡ Ok z → (b : Operand) × (q ≡ Ok b) × IsAsGood z b
      go (Ok []) e = absurd (cc e)
      go (Ok (x ∷ xs)) e = absurd (cc e)
      go (Err y) e = absurd (cc e)

  -- `puts`
  put_type : KnowsBuiltIns s → (name : List ℕ) (t : CType) → entity_of s name ≡ Some (entity.BuiltIn t) → bytes_eq name (codes "puts") ≡ true → t ≡ type.Function type.Int (MoreType (type.Pointer type.Char) NoType)
  put_type known name t e k =
      let same : name ≡ codes "puts" = (bytes_eq-Decides name (codes "puts")).0 k in
      let told : Some (entity.BuiltIn (type.Function type.Int (MoreType (type.Pointer type.Char) NoType))) ≡ Some (entity.BuiltIn t) = subst (λ z. meaning built_ins z ≡ Some (entity.BuiltIn t)) same (known name t e) in
      of_some told
    where
      of_some : Some (entity.BuiltIn (type.Function type.Int (MoreType (type.Pointer type.Char) NoType))) ≡ Some (entity.BuiltIn t) → t ≡ type.Function type.Int (MoreType (type.Pointer type.Char) NoType)
      of_some e = cc e

  pub named_good : KnowsBuiltIns s → (at pos : ℕ) (name : List ℕ) (x : Option Entity) (format : Option (List ℕ)) (es : CExprs) → entity_of s name ≡ x → EachName P (named_call at pos name x format (fewer_all s es))
      → (EachNameOf P (fewer_all s es) → All es (fewer_all s es)) → (EachNameOf P (behind_format (fewer_all s es)) → Behind es (behind_format (fewer_all s es)))
      → JudgedAsGood (calling at format (named_callee s at name x) (all_judged s es)) (judged s' (named_call at pos name x format (fewer_all s es)))
  named_good known at pos name (Some (entity.Object t)) format es e p all behind =
      same_called at pos name (Some (entity.Object t)) (Through (decayed t)) (Through (decayed t)) format es (fewer_all s es) (p.0.text (entity.Object t) e) refl (all p.1) (λ xs ys g. through_good at (decayed t) xs ys g)
  named_good known at pos name (Some (entity.Routine t begun)) format es e p all behind =
      let h = p.0.text (entity.Routine t begun) e in
      same_called at pos name (Some (entity.Routine t h.0)) (Direct t (contains s.defined name)) (Direct t (contains s'.defined name)) format es (fewer_all s es) h.1 refl (all p.1)
      (λ xs ys g. defined_good at (contains s.defined name) (contains s'.defined name) t xs ys p.0.defined g)
  named_good known at pos name (Some (entity.BuiltIn t)) format es e p all behind = go (bytes_eq name (codes "puts")) refl p
    where
      go : (b : Bool) → bytes_eq name (codes "puts") ≡ b → EachName P (plain.Call at (plain.Var pos (if b then put_string.name else name)) (fewer_all s es))
          → JudgedAsGood (calling at format (Ok (Direct t true)) (all_judged s es)) (judged s' (plain.Call at (plain.Var pos (if b then put_string.name else name)) (fewer_all s es)))
      go false k p =
          same_called at pos name (Some (entity.BuiltIn t)) (Direct t true) (Direct t true) format es (fewer_all s es) (p.0.text (entity.BuiltIn t) e) refl (all p.1) (λ xs ys g. rules_take_as_good.call at at t xs ys g)
      go true k p =
          let h = p.0.helper (function_type put_string) refl in
          let same : t ≡ function_type put_string = put_type known name t e k in
          same_called at pos put_string.name (Some (entity.Routine (function_type put_string) h.0)) (Direct t true) (Direct (function_type put_string) true) format es (fewer_all s es) h.1 (ap (λ b. Ok (Direct (function_type put_string) b)) h.2) (all p.1)
          (λ xs ys g. subst (λ u. JudgedAsGood (function_call at true u xs) (function_call at true (function_type put_string) ys)) (sym same) (rules_take_as_good.call at at (function_type put_string) xs ys g))
  named_good known at pos name (Some entity.Printf) (Some format) es e p all behind = print_good at pos format es (behind_format (fewer_all s es)) p.0 (behind p.1)
  named_good known at pos name (Some entity.Printf) None es e p all behind = none_printed at es (judged s' (plain.Call at (plain.Var pos name) (fewer_all s es)))
  named_good known at pos name None format es e p all behind = call_refused at format (fault.Unknown at) (all_judged s es) (judged s' (plain.Call at (plain.Var pos name) (fewer_all s es)))

  -- what isn't a name is called through its value
  callee_through : (s : Scope) (at : ℕ) (f : CExpr) (r : Judged Operand) → is_var f ≡ false → callee_of s at f r ≡ through r
  callee_through s at (plain.Var pos name) r e = absurd (cc e)
  callee_through s at f r e = refl

  through_called : (at : ℕ) (format : Option (List ℕ)) (f f' : CExpr) (es es' : CExprs) → is_var f' ≡ false → JudgedAsGood (judged s f) (judged s' f') → All es es' → JudgedAsGood (calling at format (through (judged s f)) (all_judged s es)) (judged s' (plain.Call at f' es'))
  through_called at format f f' es es' v g all = go (judged s f) refl
    where
      go : (r : Judged Operand) → judged s f ≡ r → JudgedAsGood (calling at format (through r) (all_judged s es)) (judged s' (plain.Call at f' es'))
      go (Err d) k = call_refused at format d (all_judged s es) (judged s' (plain.Call at f' es'))
      go (Ok x) k =
          let l = g x k in
          moved (calling at format (Ok (Through (value_type x))) (all_judged s es)) (judged s' (plain.Call at f' es')) (calling at (format_of es') (Ok (Through (value_type l.0))) (all_judged s' es'))
          (ap (λ c. calling at (format_of es') c (all_judged s' es')) (callee_through s' at f' (judged s' f') v ∙ ap through l.1))
          (call_with at (Through (value_type x)) (Through (value_type l.0)) format (format_of es') es es' all (λ xs ys h. subst (λ t. JudgedAsGood (pointer_call at (value_type x) xs) (pointer_call at t ys)) (ap decayed l.2.ty) (through_good at (value_type x) xs ys h)))

  other_good : (at : ℕ) (f : CExpr) (es : CExprs) → is_var f ≡ false → ExprStands s s' (plain.Call at f es) → (ExprStands s s' f → JudgedAsGood (judged s f) (judged s' (fewer s f))) → (EachNameOf P (fewer_all s es) → All es (fewer_all s es))
      → JudgedAsGood (judged s (plain.Call at f es)) (judged s' (fewer s (plain.Call at f es)))
  other_good at f es v p one all =
      let e : call_tree s at (fewer s f) (format_of es) (fewer_all s es) ≡ plain.Call at (fewer s f) (fewer_all s es) = other_call s at (fewer s f) (format_of es) (fewer_all s es) (not_var s f v) in
      let q : EachName P (plain.Call at (fewer s f) (fewer_all s es)) = subst (λ t. EachName P t) e p in
      subst (λ t. JudgedAsGood (judged s (plain.Call at f es)) (judged s' t)) (sym e)
      (subst (λ c. JudgedAsGood (calling at (format_of es) c (all_judged s es)) (judged s' (plain.Call at (fewer s f) (fewer_all s es)))) (sym (callee_through s at f (judged s f) v))
      (through_called at (format_of es) f (fewer s f) es (fewer_all s es) (not_var s f v) (one q.0) (all q.1)))

  pub call_good : KnowsBuiltIns s → (at : ℕ) (f : CExpr) (es : CExprs) → ExprStands s s' (plain.Call at f es) → (ExprStands s s' f → JudgedAsGood (judged s f) (judged s' (fewer s f)))
      → (EachNameOf P (fewer_all s es) → All es (fewer_all s es)) → (EachNameOf P (behind_format (fewer_all s es)) → Behind es (behind_format (fewer_all s es))) → JudgedAsGood (judged s (plain.Call at f es)) (judged s' (fewer s (plain.Call at f es)))
  call_good known at (plain.Var pos name) es p one all behind = named_good known at pos name (entity_of s name) (format_of es) es refl p all behind
  call_good known at f es p one all behind = other_good at f es refl p one all
