-- An expression with fewer operators is as good as the one from which it was made.
use Rattle.std.proofs.Common.{◌≡◌, ℕ, ◌+◌, ◌%◌, ◌^◌, List, [], ◌∷◌, length, Option, Some, None, Bool, true, false, refl, sym, ap, ap₂, ◌∙◌, subst}
use Rattle.std.specs.Prelude.{◌||◌, IfOk, Ok, Err, if◌then◌else◌}
use Rattle.std.specs.Option.{option_map_or}
use Rattle.c_syntax.specs.Plain as plain
use Rattle.c_syntax.specs.Plain.{CExpr, CExprs, CTy}
use Rattle.c_syntax.specs.Words.{meaning}
use Rattle.c_syntax.specs.declared.tree.UnOp.{UnOp}
use Rattle.c_syntax.specs.declared.tree.StepOp.{StepOp}
use Rattle.c_syntax.specs.declared.tree.BinOp.{BinOp}
use Rattle.c_syntax.specs.declared.tree.UnOp.TheVariants as unary
use Rattle.c_types.specs.declared.fault.TypeFault.{TypeFault}
use Rattle.c_types.specs.declared.fault.TypeFault.TheVariants as fault
use Rattle.c_types.specs.Types as type
use Rattle.c_types.specs.Types.{CType, Layout, Unfinished, Members, Tags, is_unsigned, is_object_type, is_null, words_of, decayed}
use Rattle.c_types.specs.Constants.{NotConstant, Value}
use Rattle.c_types.specs.Refusals.{Judged, after, both, all_three, keeping}
use Rattle.c_types.specs.Scope as entity
use Rattle.c_types.specs.Scope.{Scope, Entity, entity_of, contains}
use Rattle.c_types.specs.Operands.{Designator, Other, Operand, operand, value_at, place_at, value_type, is_zero, unary_operand, step_operand, binary_operand, assign_operand, choice_operand, comma_operand, cast_operand, size_operand, index_operand, member_in, member_operand, arrow_operand}
use Rattle.c_types.specs.Expressions.{named, literal, names_function, judged, all_judged, written}
use Rattle.c_eval.specs.Environment.{operand_type, type_in, value_type_in, constant_in}
use Rattle.c_alike.specs.Alike.{EachName, EachNameOf}
use Rattle.c_fewer_types.specs.AsGood.{IsAsGood, AreAsGood, JudgedAsGood}
use Rattle.c_fewer_types.proofs.AsGoodRules.{rules_take_as_good}
use Rattle.c_fewer_types.specs.Written.{ScopeCanBeWritten, OperandCanBeWritten, StringsAreShort, EachStringIsShort}
use Rattle.c_fewer_types.proofs.TypeTreesProofs.{fewer_types_are_the_same}
use Rattle.c_fewer_types.proofs.Can.{operands_can_be_written}
use Rattle.c_helpers.specs.Fewer.{sign_of, counts_unsigned, constant_tree, fewer_in_type, operator_tree, assignment_tree, step_tree, element_tree, behind_format, fewer, fewer_all}
use Rattle.c_fewer_types.specs.Stands.{NameStands, ExprStands}
use Rattle.c_fewer_types.proofs.Names.{operator_names, assignment_names, step_names, element_names}
use Rattle.c_fewer_types.specs.Laws.{KnowsBuiltIns, TypesAreKept}
use Rattle.c_fewer_types.proofs.Judged.{moved, refused_good, ok_good, self_good, with_one, with_two, keeping_is, number_good}
use Rattle.c_fewer_types.proofs.Trees.{Stands, unary_stays, operator_good, element_good, assignment_good, step_good, invert_good}
use Rattle.c_fewer_types.proofs.Called.{call_good}

-- ---- forms of several parts

with_three : (r q u v m n : Judged Operand) (f : Operand → Operand → Operand → Judged Operand) (whole : Judged Operand) → JudgedAsGood r q → JudgedAsGood u v → JudgedAsGood m n
    → ((a b c d e g : Operand) → q ≡ Ok b → v ≡ Ok d → n ≡ Ok g → IsAsGood a b → IsAsGood c d → IsAsGood e g → JudgedAsGood (f a c e) whole) → JudgedAsGood (all_three r u m f) whole
with_three (Ok a) q (Ok c) v (Ok e) n f whole h k l o x i =
    let a' = h a refl in
    let c' = k c refl in
    let e' = l e refl in
    o a a'.0 c c'.0 e e'.0 a'.1 c'.1 e'.1 a'.2 c'.2 e'.2 x i
with_three (Ok a) q (Ok c) v (Err e) n f whole h k l o x i = absurd (cc i)
with_three (Ok a) q (Err c) v (Ok e) n f whole h k l o x i = absurd (cc i)
with_three (Ok a) q (Err c) v (Err e) n f whole h k l o x i = absurd (cc i)
with_three (Err a) q (Ok c) v (Ok e) n f whole h k l o x i = absurd (cc i)
with_three (Err a) q (Ok c) v (Err e) n f whole h k l o x i = absurd (cc i)
with_three (Err a) q (Err c) v (Ok e) n f whole h k l o x i = absurd (cc i)
with_three (Err a) q (Err c) v (Err e) n f whole h k l o x i = absurd (cc i)

-- a type and an operand
with_type : (u : CType) (r q : Judged Operand) (f : CType → Operand → Judged Operand) (whole : Judged Operand) → JudgedAsGood r q → ((a b : Operand) → q ≡ Ok b → IsAsGood a b → JudgedAsGood (f u a) whole) → JudgedAsGood (both (Ok u) r f) whole
with_type u (Ok a) q f whole h k x e = let l = h a refl in k a l.0 l.1 l.2 x e
with_type u (Err d) q f whole h k x e = absurd (cc e)

no_type : (d : TypeFault) (r : Judged Operand) (f : CType → Operand → Judged Operand) (whole : Judged Operand) → JudgedAsGood (both (Err d) r f) whole
no_type d (Ok a) f whole x e = absurd (cc e)
no_type d (Err y) f whole x e = absurd (cc e)

-- at two types that are as they are told
at_types : (G : CType → CType → Type 0) (t t' u u' : CType) → t ≡ t' → u ≡ u' → G t' u' → G t u
at_types G t t' u u' e f g = subst (λ z. G z u) (sym e) (subst (λ z. G t' z) (sym f) g)

-- what is judged the same, and is no literal
self_judged : (r : Judged Operand) → ((z : Operand) → r ≡ Ok z → is_zero z.sort ≡ false) → JudgedAsGood r r
self_judged r f z e = (z, e, self_good z (f z e))

-- ---- literals, members and sizes

literal_good : (at n : ℕ) (unsigned : Bool) → IsAsGood (literal at n unsigned) (literal at n unsigned)
literal_good at n true = record { ty = refl; place = refl; designator = refl; zero = λ k. k; number = λ k. refl }
literal_good at n false = record { ty = refl; place = refl; designator = refl; zero = λ k. k; number = λ k. refl }

member_place : (tags : Tags) (at : ℕ) (m : List ℕ) (t : CType) (z : Operand) → member_operand tags at m t ≡ Ok z → is_zero z.sort ≡ false
member_place tags at m (type.Struct tag) z e = of_layout (meaning tags tag) e
  where
    of_type : (o : Option CType) → option_map_or (λ t. Ok (place_at at t)) o (Err (fault.Unknown at)) ≡ Ok z → is_zero z.sort ≡ false
    of_type None e = absurd (cc e)
    of_type (Some t) e = let same : place_at at t ≡ z = cc e in sym (ap (λ w. is_zero w.sort) same)

    of_layout : (o : Option Layout) → member_in at m o ≡ Ok z → is_zero z.sort ≡ false
    of_layout None e = absurd (cc e)
    of_layout (Some Unfinished) e = absurd (cc e)
    of_layout (Some (Members members words)) e = of_type (meaning members m) e
member_place tags at m t z e = absurd (cc e)

arrow_place : (tags : Tags) (at : ℕ) (m : List ℕ) (t : CType) (z : Operand) → arrow_operand tags at m t ≡ Ok z → is_zero z.sort ≡ false
arrow_place tags at m (type.Pointer t) z e = member_place tags at m t z e
arrow_place tags at m t z e = absurd (cc e)

-- a `sizeof` is an unsigned number
abbrev IsSize : Operand → Type 0
IsSize z = (z.ty ≡ type.Unsigned) × (z.sort ≡ Other)

size_is : (tags : Tags) (at : ℕ) (t : CType) (z : Operand) → size_operand tags at t ≡ Ok z → IsSize z
size_is tags at t z e =
    let k = keeping_is {A = Operand} ((is_object_type tags t || is_null t, fault.Mismatch at) ∷ []) (operand at type.Unsigned Other (Value (words_of tags t % 2 ^ 24))) z e in
    (sym (ap (λ w. w.ty) k.1), sym (ap (λ w. w.sort) k.1))

size_of_type : (s : Scope) (at : ℕ) (r : Judged CType) (z : Operand) → after r (λ u. size_operand s.tags at u) ≡ Ok z → IsSize z
size_of_type s at (Ok u) z e = size_is s.tags at u z e
size_of_type s at (Err d) z e = absurd (cc e)

size_of_operand : (s : Scope) (at : ℕ) (b : Bool) (r : Judged Operand) (z : Operand) → (if b then Err (fault.Mismatch at) else after r (λ x. size_operand s.tags at x.ty)) ≡ Ok z → IsSize z
size_of_operand s at true r z e = absurd (cc e)
size_of_operand s at false (Ok x) z e = size_is s.tags at x.ty z e
size_of_operand s at false (Err d) z e = absurd (cc e)

-- where only the definition of a function is asked
defined_kept : (at : ℕ) (t : CType) (b b' : Bool) → (b ≡ true → b' ≡ true) → JudgedAsGood (keeping ((b, fault.BadCall at) ∷ []) (operand at (type.Pointer t) Designator NotConstant)) (keeping ((b', fault.BadCall at) ∷ []) (operand at (type.Pointer t) Designator NotConstant))
defined_kept at t true b' f =
    let x : Operand = operand at (type.Pointer t) Designator NotConstant in
    subst (λ b. JudgedAsGood (Ok x) (keeping ((b, fault.BadCall at) ∷ []) x)) (sym (f refl)) (ok_good x x (self_good x refl))
defined_kept at t false b' f = refused_good (keeping ((b', fault.BadCall at) ∷ []) (operand at (type.Pointer t) Designator NotConstant)) (fault.BadCall at)

-- the arguments one by one
arguments_told : (r : Judged Operand) (q : Judged (List Operand)) (xs : List Operand) → both {A = Operand} {B = List Operand} r q (λ x xs. Ok (x ∷ xs)) ≡ Ok xs → (x : Operand) × ((rest : List Operand) × (r ≡ Ok x) × (q ≡ Ok rest) × (x ∷ rest ≡ xs))
arguments_told (Ok x) (Ok rest) xs e = let same : x ∷ rest ≡ xs = cc e in (x, (rest, refl, refl, same))
arguments_told (Ok x) (Err y) xs e = absurd (cc e)
arguments_told (Err d) (Ok rest) xs e = absurd (cc e)
arguments_told (Err d) (Err y) xs e = absurd (cc e)

module _ (s s' : Scope) (tags : s.tags ≡ s'.tags) (can : ScopeCanBeWritten s) (known : KnowsBuiltIns s) where
  abbrev P : List ℕ → Type 0
  P = NameStands s s'

  abbrev Kept : CExpr → Type 0
  Kept e = JudgedAsGood (judged s e) (judged s' (fewer s e))

  named_kept : (at : ℕ) (name : List ℕ) (o : Option Entity) → entity_of s name ≡ o → P name → JudgedAsGood (named s at name o) (named s' at name (entity_of s' name))
  named_kept at name (Some (entity.Object t)) e p =
      moved (Ok (place_at at t)) (named s' at name (entity_of s' name)) (Ok (place_at at t)) (ap (λ o. named s' at name o) (p.text (entity.Object t) e)) (ok_good (place_at at t) (place_at at t) (self_good (place_at at t) refl))
  named_kept at name (Some (entity.Routine t begun)) e p =
      let h = p.text (entity.Routine t begun) e in
      moved (named s at name (Some (entity.Routine t begun))) (named s' at name (entity_of s' name)) (named s' at name (Some (entity.Routine t h.0))) (ap (λ o. named s' at name o) h.1)
      (defined_kept at t (contains s.defined name) (contains s'.defined name) p.defined)
  named_kept at name (Some (entity.BuiltIn t)) e p = refused_good (named s' at name (entity_of s' name)) (fault.BadCall at)
  named_kept at name (Some entity.Printf) e p = refused_good (named s' at name (entity_of s' name)) (fault.BadCall at)
  named_kept at name None e p = refused_good (named s' at name (entity_of s' name)) (fault.Unknown at)

  -- an operand's type can be written
  operand_can : (a : CExpr) (x : Operand) → StringsAreShort a → judged s a ≡ Ok x → OperandCanBeWritten s.tags x
  operand_can a x h e = subst (λ r. IfOk r (OperandCanBeWritten s.tags)) e (operands_can_be_written s a can h)

  stands : (a : CExpr) (x b : Operand) → StringsAreShort a → judged s a ≡ Ok x → judged s' (fewer s a) ≡ Ok b → IsAsGood x b → Stands s s' (fewer s a) x
  stands a x b h e f g = record { other = b; is = f; good = g; can = operand_can a x h e }

  constant_good : (e : CExpr) → ((z : Operand) → judged s e ≡ Ok z → IsSize z) → JudgedAsGood (judged s e) (judged s' (constant_tree s e))
  constant_good e f z k =
      let l = f z k in
      (literal 0 (constant_in s e) (is_unsigned (type_in s e)), refl, number_good z (constant_in s e) (is_unsigned (type_in s e)) l.0 l.1 (ap (λ r. is_unsigned (operand_type r)) k ∙ ap is_unsigned l.0))

  member_good : (at : ℕ) (m : List ℕ) (a : CExpr) → Kept a → Kept (plain.Member at a m)
  member_good at m a k =
      with_one (judged s a) (judged s' (fewer s a)) (λ x. member_operand s.tags at m x.ty) (judged s' (plain.Member at (fewer s a) m)) k
      (λ x b e f g. moved (member_operand s.tags at m x.ty) (judged s' (plain.Member at (fewer s a) m)) (member_operand s'.tags at m b.ty) (ap (λ r. after {A = Operand} r (λ x. member_operand s'.tags at m x.ty)) f)
      (subst (λ q. JudgedAsGood (member_operand s.tags at m x.ty) q) (ap₂ (λ z t. member_operand z at m t) tags g.ty) (self_judged (member_operand s.tags at m x.ty) (λ z e. member_place s.tags at m x.ty z e))))

  arrow_good : (at : ℕ) (m : List ℕ) (a : CExpr) → Kept a → Kept (plain.Arrow at a m)
  arrow_good at m a k =
      with_one (judged s a) (judged s' (fewer s a)) (λ x. arrow_operand s.tags at m (value_type x)) (judged s' (plain.Arrow at (fewer s a) m)) k
      (λ x b e f g. moved (arrow_operand s.tags at m (value_type x)) (judged s' (plain.Arrow at (fewer s a) m)) (arrow_operand s'.tags at m (value_type b)) (ap (λ r. after {A = Operand} r (λ x. arrow_operand s'.tags at m (value_type x))) f)
      (subst (λ q. JudgedAsGood (arrow_operand s.tags at m (value_type x)) q) (ap₂ (λ z t. arrow_operand z at m (decayed t)) tags g.ty) (self_judged (arrow_operand s.tags at m (value_type x)) (λ z e. arrow_place s.tags at m (value_type x) z e))))

  cast_good : (at : ℕ) (t : CTy) (a : CExpr) → Kept a → Kept (plain.Cast at t a)
  cast_good at t a k = go (written s at t) refl
    where
      go : (w : Judged CType) → written s at t ≡ w → JudgedAsGood (both w (judged s a) (λ u x. cast_operand at u x)) (judged s' (plain.Cast at (fewer_in_type s t) (fewer s a)))
      go (Err d) e = no_type d (judged s a) (λ u x. cast_operand at u x) (judged s' (plain.Cast at (fewer_in_type s t) (fewer s a)))
      go (Ok u) e =
          with_type u (judged s a) (judged s' (fewer s a)) (λ u x. cast_operand at u x) (judged s' (plain.Cast at (fewer_in_type s t) (fewer s a))) k
          (λ x b f g. moved (cast_operand at u x) (judged s' (plain.Cast at (fewer_in_type s t) (fewer s a))) (cast_operand at u b)
          (ap₂ (λ w r. both {A = CType} {B = Operand} w r (λ u x. cast_operand at u x)) (fewer_types_are_the_same s s' at t u tags e) f) (rules_take_as_good.cast at at u x b g))

  binary_good : (at : ℕ) (op : BinOp) (a b : CExpr) → StringsAreShort a → StringsAreShort b → ExprStands s s' (plain.Binary at op a b) → Kept a → Kept b → Kept (plain.Binary at op a b)
  binary_good at op a b ha hb p ka kb =
      let result : CType = type_in s (plain.Binary at op a b) in
      with_two (judged s a) (judged s' (fewer s a)) (judged s b) (judged s' (fewer s b)) (λ x y. binary_operand s.tags at op x y) (judged s' (fewer s (plain.Binary at op a b))) ka kb
      (λ x c y d ex ey ec ed g i.
      at_types
      (λ t u. EachName P (operator_tree s.tags at (sign_of op (counts_unsigned op t u)) op result t u (fewer s a) (fewer s b)) → JudgedAsGood (binary_operand s.tags at op x y) (judged s' (operator_tree s.tags at (sign_of op (counts_unsigned op t u)) op result t u (fewer s a) (fewer s b))))
      (value_type_in s a) (value_type x) (value_type_in s b) (value_type y) (ap (λ r. decayed (operand_type r)) ex) (ap (λ r. decayed (operand_type r)) ey)
      (operator_good s s' tags at (fewer s a) (fewer s b) x y (stands a x c ha ex ec g) (stands b y d hb ey ed i) op (counts_unsigned op (value_type x) (value_type y)) (sign_of op (counts_unsigned op (value_type x) (value_type y))) result refl
      (λ z e. ap operand_type (ap₂ (λ r q. both {A = Operand} {B = Operand} r q (λ x y. binary_operand s.tags at op x y)) ex ey ∙ e))) p)

  assigned_good : (at : ℕ) (op : BinOp) (a b : CExpr) → StringsAreShort a → StringsAreShort b → ExprStands s s' (plain.Assign at (Some op) a b) → Kept a → Kept b → Kept (plain.Assign at (Some op) a b)
  assigned_good at op a b ha hb p ka kb =
      with_two (judged s a) (judged s' (fewer s a)) (judged s b) (judged s' (fewer s b)) (λ x y. assign_operand s.tags at (Some op) x y) (judged s' (fewer s (plain.Assign at (Some op) a b))) ka kb
      (λ x c y d ex ey ec ed g i.
      at_types
      (λ t u. EachName P (assignment_tree s.tags at (sign_of op (counts_unsigned op t u)) op t u (fewer s a) (fewer s b)) → JudgedAsGood (assign_operand s.tags at (Some op) x y) (judged s' (assignment_tree s.tags at (sign_of op (counts_unsigned op t u)) op t u (fewer s a) (fewer s b))))
      (type_in s a) x.ty (value_type_in s b) (value_type y) (ap operand_type ex) (ap (λ r. decayed (operand_type r)) ey)
      (assignment_good s s' tags at (fewer s a) (fewer s b) x y (stands a x c ha ex ec g) (stands b y d hb ey ed i) op (counts_unsigned op x.ty (value_type y)) (sign_of op (counts_unsigned op x.ty (value_type y))) refl) p)

  element_kept : (at : ℕ) (a b : CExpr) → StringsAreShort a → StringsAreShort b → ExprStands s s' (plain.Index at a b) → Kept a → Kept b → Kept (plain.Index at a b)
  element_kept at a b ha hb p ka kb =
      with_two (judged s a) (judged s' (fewer s a)) (judged s b) (judged s' (fewer s b)) (λ x y. index_operand s.tags at x y) (judged s' (fewer s (plain.Index at a b))) ka kb
      (λ x c y d ex ey ec ed g i.
      at_types
      (λ t u. EachName P (element_tree s.tags at t u (fewer s a) (fewer s b)) → JudgedAsGood (index_operand s.tags at x y) (judged s' (element_tree s.tags at t u (fewer s a) (fewer s b))))
      (value_type_in s a) (value_type x) (value_type_in s b) (value_type y) (ap (λ r. decayed (operand_type r)) ex) (ap (λ r. decayed (operand_type r)) ey)
      (element_good s s' tags at (fewer s a) (fewer s b) x y (stands a x c ha ex ec g) (stands b y d hb ey ed i)) p)

  step_kept : (at : ℕ) (op : StepOp) (a : CExpr) → StringsAreShort a → ExprStands s s' (plain.Step at op a) → Kept a → Kept (plain.Step at op a)
  step_kept at op a h p k =
      with_one (judged s a) (judged s' (fewer s a)) (λ x. step_operand s.tags at x) (judged s' (fewer s (plain.Step at op a))) k
      (λ x b e f g.
      subst (λ t. EachName P (step_tree s.tags at op t (fewer s a)) → JudgedAsGood (step_operand s.tags at x) (judged s' (step_tree s.tags at op t (fewer s a)))) (sym (ap operand_type e))
      (step_good s s' tags at (fewer s a) x (stands a x b h e f g) op) p)

  invert_kept : (at : ℕ) (a : CExpr) → StringsAreShort a → ExprStands s s' (plain.Unary at unary.Invert a) → Kept a → Kept (plain.Unary at unary.Invert a)
  invert_kept at a h p k =
      with_one (judged s a) (judged s' (fewer s a)) (λ x. unary_operand s.tags at unary.Invert x) (judged s' (fewer s (plain.Unary at unary.Invert a))) k
      (λ x b e f g. invert_good s s' tags at (fewer s a) x (stands a x b h e f g) (type_in s (plain.Unary at unary.Invert a)) (λ z i. ap operand_type (ap (λ r. after {A = Operand} r (λ x. unary_operand s.tags at unary.Invert x)) e ∙ i)) p.1.0)

  unary_kept : (at : ℕ) (op : UnOp) (a : CExpr) → StringsAreShort a → Kept a → JudgedAsGood (judged s (plain.Unary at op a)) (judged s' (plain.Unary at op (fewer s a)))
  unary_kept at op a h k =
      with_one (judged s a) (judged s' (fewer s a)) (λ x. unary_operand s.tags at op x) (judged s' (plain.Unary at op (fewer s a))) k (λ x b e f g. unary_stays s s' tags at (fewer s a) x (stands a x b h e f g) op)

  assign_kept : (at : ℕ) (a b : CExpr) → Kept a → Kept b → Kept (plain.Assign at None a b)
  assign_kept at a b ka kb =
      with_two (judged s a) (judged s' (fewer s a)) (judged s b) (judged s' (fewer s b)) (λ x y. assign_operand s.tags at None x y) (judged s' (plain.Assign at None (fewer s a) (fewer s b))) ka kb
      (λ x c y d ex ey ec ed g i. moved (assign_operand s.tags at None x y) (judged s' (plain.Assign at None (fewer s a) (fewer s b))) (assign_operand s'.tags at None c d)
      (ap₂ (λ r q. both {A = Operand} {B = Operand} r q (λ x y. assign_operand s'.tags at None x y)) ec ed)
      (subst (λ z. JudgedAsGood (assign_operand s.tags at None x y) (assign_operand z at None c d)) tags (rules_take_as_good.assign s.tags at at None x c y d g i)))

  comma_kept : (at : ℕ) (a b : CExpr) → Kept a → Kept b → Kept (plain.Comma at a b)
  comma_kept at a b ka kb =
      with_two (judged s a) (judged s' (fewer s a)) (judged s b) (judged s' (fewer s b)) (λ x y. comma_operand at x y) (judged s' (plain.Comma at (fewer s a) (fewer s b))) ka kb
      (λ x c y d ex ey ec ed g i. moved (comma_operand at x y) (judged s' (plain.Comma at (fewer s a) (fewer s b))) (comma_operand at c d)
      (ap₂ (λ r q. both {A = Operand} {B = Operand} r q (λ x y. comma_operand at x y)) ec ed) (rules_take_as_good.comma at at x c y d i))

  choice_kept : (at : ℕ) (a b c : CExpr) → Kept a → Kept b → Kept c → Kept (plain.Cond at a b c)
  choice_kept at a b c ka kb kc =
      with_three (judged s a) (judged s' (fewer s a)) (judged s b) (judged s' (fewer s b)) (judged s c) (judged s' (fewer s c)) (λ x y z. choice_operand at x y z) (judged s' (plain.Cond at (fewer s a) (fewer s b) (fewer s c))) ka kb kc
      (λ x u y v z w eu ev ew g h i. moved (choice_operand at x y z) (judged s' (plain.Cond at (fewer s a) (fewer s b) (fewer s c))) (choice_operand at u v w)
      (λ j. all_three {A = Operand} {B = Operand} {C = Operand} (eu j) (ev j) (ew j) (λ x y z. choice_operand at x y z)) (rules_take_as_good.choice at at x u y v z w g h i))

  mutual
    kept : (e : CExpr) → StringsAreShort e → ExprStands s s' e → Kept e
    kept (plain.Number at n unsigned) h p = ok_good (literal at n unsigned) (literal at n unsigned) (literal_good at n unsigned)
    kept (plain.Str at text) h p = self_judged (judged s (plain.Str at text)) (λ z e. let same : value_at at (type.Array type.Char (length text + 1)) ≡ z = cc e in sym (ap (λ w. is_zero w.sort) same))
    kept (plain.Null at) h p = ok_good (value_at at type.Null) (value_at at type.Null) (self_good (value_at at type.Null) refl)
    kept (plain.Var at name) h p = named_kept at name (entity_of s name) refl p
    kept (plain.Unary at unary.Invert a) h p = invert_kept at a h p (kept a h p.1.1.0)
    kept (plain.Unary at op a) h p = unary_kept at op a h (kept a h p)
    kept (plain.Step at op a) h p = step_kept at op a h p (kept a h (step_names P s.tags at op (type_in s a) (fewer s a) p))
    kept (plain.Binary at op a b) h p =
        let q = operator_names P s.tags at (sign_of op (counts_unsigned op (value_type_in s a) (value_type_in s b))) op (type_in s (plain.Binary at op a b)) (value_type_in s a) (value_type_in s b) (fewer s a) (fewer s b) p in
        binary_good at op a b h.0 h.1 p (kept a h.0 q.0) (kept b h.1 q.1)
    kept (plain.Assign at None a b) h p = assign_kept at a b (kept a h.0 p.0) (kept b h.1 p.1)
    kept (plain.Assign at (Some op) a b) h p =
        let q = assignment_names P s.tags at (sign_of op (counts_unsigned op (type_in s a) (value_type_in s b))) op (type_in s a) (value_type_in s b) (fewer s a) (fewer s b) p in
        assigned_good at op a b h.0 h.1 p (kept a h.0 q.0) (kept b h.1 q.1)
    kept (plain.Cond at a b c) h p = choice_kept at a b c (kept a h.0 p.0) (kept b h.1 p.1) (kept c h.2 p.2)
    kept (plain.Comma at a b) h p = comma_kept at a b (kept a h.0 p.0) (kept b h.1 p.1)
    kept (plain.Cast at t a) h p = cast_good at t a (kept a h p.1)
    kept (plain.SizeTy at t) h p = constant_good (plain.SizeTy at t) (λ z e. size_of_type s at (written s at t) z e)
    kept (plain.SizeOf at a) h p = constant_good (plain.SizeOf at a) (λ z e. size_of_operand s at (names_function s a) (judged s a) z e)
    kept (plain.Index at a b) h p =
        let q = element_names P s.tags at (value_type_in s a) (value_type_in s b) (fewer s a) (fewer s b) p in
        element_kept at a b h.0 h.1 p (kept a h.0 q.0) (kept b h.1 q.1)
    kept (plain.Call at f es) h p = call_good s s' known at f es p (λ q. kept f h.0 q) (λ q xs e. all_kept es h.1 q xs e) (λ q x xs e. behind_kept es h.1 q x xs e)
    kept (plain.Member at a m) h p = member_good at m a (kept a h p)
    kept (plain.Arrow at a m) h p = arrow_good at m a (kept a h p)

    all_kept : (es : CExprs) → EachStringIsShort es → EachNameOf P (fewer_all s es) → (xs : List Operand) → all_judged s es ≡ Ok xs → (ys : List Operand) × (all_judged s' (fewer_all s es) ≡ Ok ys) × AreAsGood xs ys
    all_kept plain.NoExpr h p xs e = let same : [] ≡ xs = cc e in ([], refl, subst (λ z. AreAsGood z []) same tt)
    all_kept (plain.MoreExpr e es) h p xs i =
        let k = arguments_told (judged s e) (all_judged s es) xs i in
        let l = kept e h.0 p.0 k.0 k.1.1 in
        let m = all_kept es h.1 p.1 k.1.0 k.1.2 in
        (l.0 ∷ m.0, ap₂ (λ r q. both {A = Operand} {B = List Operand} r q (λ x xs. Ok (x ∷ xs))) l.1 m.1, subst (λ z. AreAsGood z (l.0 ∷ m.0)) k.1.3 (l.2, m.2))

    behind_kept : (es : CExprs) → EachStringIsShort es → EachNameOf P (behind_format (fewer_all s es)) → (x : Operand) (xs : List Operand) → all_judged s es ≡ Ok (x ∷ xs) → (ys : List Operand) × (all_judged s' (behind_format (fewer_all s es)) ≡ Ok ys) × AreAsGood xs ys
    behind_kept plain.NoExpr h p x xs i = absurd (cc i)
    behind_kept (plain.MoreExpr e es) h p x xs i =
        let k = arguments_told (judged s e) (all_judged s es) (x ∷ xs) i in
        let same : k.1.0 ≡ xs = cc k.1.3 in
        let m = all_kept es h.1 p k.1.0 k.1.2 in
        (m.0, m.1, subst (λ z. AreAsGood z m.0) same m.2)

pub types_are_kept : TypesAreKept
types_are_kept s s' e tags can known h p = kept s s' tags can known e h p
