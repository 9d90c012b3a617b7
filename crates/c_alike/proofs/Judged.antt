-- Scopes that are alike judge alike.
use Rattle.std.proofs.Common.{◌≡◌, ℕ, List, [], ◌∷◌, Option, Some, None, refl, ap, ◌∙◌}
use Rattle.std.specs.Prelude.{Ok, Err, if◌then◌else◌}
use Rattle.std.specs.Option.{option_map_or}
use Rattle.c_syntax.specs.Plain as plain
use Rattle.c_syntax.specs.Plain.{CExpr, CExprs, CTy, CTys}
use Rattle.c_syntax.specs.Words.{meaning}
use Rattle.c_types.specs.declared.fault.TypeFault.TheVariants as fault
use Rattle.c_types.specs.Types as type
use Rattle.c_types.specs.Types.{CType, CTypes, Tags, is_object_type}
use Rattle.c_types.specs.Refusals.{after, both, all_three, keeping}
use Rattle.c_types.specs.Constants.{NotConstant}
use Rattle.c_types.specs.Scope.{Scope, Entity, Object, Routine, BuiltIn, Printf, entity_of, is_function, contains}
use Rattle.c_types.specs.Operands.{operand, Designator, value_type, unary_operand, step_operand, binary_operand, assign_operand, choice_operand, comma_operand, cast_operand, size_operand, index_operand, member_operand, arrow_operand, Direct, call_operand}
use Rattle.c_types.specs.Expressions.{named, through, named_callee, callee_of, format_of, names_function, length_in, parameter_type, is_result_type, judged, all_judged, written, parameters}
use Rattle.c_alike.specs.Alike.{ExprIsAlike, ExprsAreAlike, TyIsAlike, TysAreAlike}
use Rattle.c_alike.specs.Laws.{ExpressionsAreJudgedAlike, TypesAreJudgedAlike}

-- ---- names

named_alike : (s s' : Scope) (at : ℕ) (name : List ℕ) (o : Option Entity) → contains s.defined name ≡ contains s'.defined name → named s at name o ≡ named s' at name o
named_alike s s' at name (Some (Object t)) d = refl
named_alike s s' at name (Some (Routine t begun)) d = ap (λ b. keeping ((b, fault.BadCall at) ∷ []) (operand at (type.Pointer t) Designator NotConstant)) d
named_alike s s' at name (Some (BuiltIn t)) d = refl
named_alike s s' at name (Some Printf) d = refl
named_alike s s' at name None d = refl

named_callee_alike : (s s' : Scope) (at : ℕ) (name : List ℕ) (o : Option Entity) → contains s.defined name ≡ contains s'.defined name → named_callee s at name o ≡ named_callee s' at name o
named_callee_alike s s' at name (Some (Object t)) d = refl
named_callee_alike s s' at name (Some (Routine t begun)) d = ap (λ b. Ok (Direct t b)) d
named_callee_alike s s' at name (Some (BuiltIn t)) d = refl
named_callee_alike s s' at name (Some Printf) d = refl
named_callee_alike s s' at name None d = refl

callee_alike : (s s' : Scope) (at : ℕ) (f : CExpr) → ExprIsAlike s s' f → judged s f ≡ judged s' f → callee_of s at f (judged s f) ≡ callee_of s' at f (judged s' f)
callee_alike s s' at (plain.Var pos name) a e = ap (named_callee s at name) a.entity ∙ named_callee_alike s s' at name (entity_of s' name) a.defined
callee_alike s s' at (plain.Number pos n unsigned) a e = ap through e
callee_alike s s' at (plain.Str pos text) a e = ap through e
callee_alike s s' at (plain.Null pos) a e = ap through e
callee_alike s s' at (plain.Unary pos op x) a e = ap through e
callee_alike s s' at (plain.Step pos op x) a e = ap through e
callee_alike s s' at (plain.Binary pos op x y) a e = ap through e
callee_alike s s' at (plain.Assign pos op x y) a e = ap through e
callee_alike s s' at (plain.Cond pos x y z) a e = ap through e
callee_alike s s' at (plain.Comma pos x y) a e = ap through e
callee_alike s s' at (plain.Cast pos t x) a e = ap through e
callee_alike s s' at (plain.SizeTy pos t) a e = ap through e
callee_alike s s' at (plain.SizeOf pos x) a e = ap through e
callee_alike s s' at (plain.Index pos x y) a e = ap through e
callee_alike s s' at (plain.Call pos f es) a e = ap through e
callee_alike s s' at (plain.Member pos x m) a e = ap through e
callee_alike s s' at (plain.Arrow pos x m) a e = ap through e

names_alike : (s s' : Scope) (e : CExpr) → ExprIsAlike s s' e → names_function s e ≡ names_function s' e
names_alike s s' (plain.Var pos name) a = ap is_function a.entity
names_alike s s' (plain.Number pos n unsigned) a = refl
names_alike s s' (plain.Str pos text) a = refl
names_alike s s' (plain.Null pos) a = refl
names_alike s s' (plain.Unary pos op x) a = refl
names_alike s s' (plain.Step pos op x) a = refl
names_alike s s' (plain.Binary pos op x y) a = refl
names_alike s s' (plain.Assign pos op x y) a = refl
names_alike s s' (plain.Cond pos x y z) a = refl
names_alike s s' (plain.Comma pos x y) a = refl
names_alike s s' (plain.Cast pos t x) a = refl
names_alike s s' (plain.SizeTy pos t) a = refl
names_alike s s' (plain.SizeOf pos x) a = refl
names_alike s s' (plain.Index pos x y) a = refl
names_alike s s' (plain.Call pos f es) a = refl
names_alike s s' (plain.Member pos x m) a = refl
names_alike s s' (plain.Arrow pos x m) a = refl

-- ---- trees

mutual
  pub judged_alike : (s s' : Scope) (e : CExpr) → s.tags ≡ s'.tags → ExprIsAlike s s' e → judged s e ≡ judged s' e
  judged_alike s s' (plain.Number at n unsigned) t a = refl
  judged_alike s s' (plain.Str at text) t a = refl
  judged_alike s s' (plain.Null at) t a = refl
  judged_alike s s' (plain.Var at name) t a = ap (named s at name) a.entity ∙ named_alike s s' at name (entity_of s' name) a.defined
  judged_alike s s' (plain.Unary at op x) t a = let e = judged_alike s s' x t a in λ i. after (e i) (λ y. unary_operand (t i) at op y)
  judged_alike s s' (plain.Step at op x) t a = let e = judged_alike s s' x t a in λ i. after (e i) (λ y. step_operand (t i) at y)
  judged_alike s s' (plain.Binary at op x y) t a = let e = judged_alike s s' x t a.0 in let f = judged_alike s s' y t a.1 in λ i. both (e i) (f i) (λ u v. binary_operand (t i) at op u v)
  judged_alike s s' (plain.Assign at op x y) t a = let e = judged_alike s s' x t a.0 in let f = judged_alike s s' y t a.1 in λ i. both (e i) (f i) (λ u v. assign_operand (t i) at op u v)
  judged_alike s s' (plain.Cond at x y z) t a =
      let e = judged_alike s s' x t a.0 in let f = judged_alike s s' y t a.1 in let g = judged_alike s s' z t a.2 in λ i. all_three (e i) (f i) (g i) (λ u v w. choice_operand at u v w)
  judged_alike s s' (plain.Comma at x y) t a = let e = judged_alike s s' x t a.0 in let f = judged_alike s s' y t a.1 in λ i. both (e i) (f i) (λ u v. comma_operand at u v)
  judged_alike s s' (plain.Cast at ty x) t a = let e = written_alike s s' at ty t a.0 in let f = judged_alike s s' x t a.1 in λ i. both (e i) (f i) (λ u v. cast_operand at u v)
  judged_alike s s' (plain.SizeTy at ty) t a = let e = written_alike s s' at ty t a in λ i. after (e i) (λ u. size_operand (t i) at u)
  judged_alike s s' (plain.SizeOf at x) t a =
      let e = judged_alike s s' x t a in let n = names_alike s s' x a in λ i. if n i then Err (fault.Mismatch at) else after (e i) (λ u. size_operand (t i) at u.ty)
  judged_alike s s' (plain.Index at x y) t a = let e = judged_alike s s' x t a.0 in let f = judged_alike s s' y t a.1 in λ i. both (e i) (f i) (λ u v. index_operand (t i) at u v)
  judged_alike s s' (plain.Call at f es) t a =
      let c = callee_alike s s' at f a.0 (judged_alike s s' f t a.0) in let xs = all_judged_alike s s' es t a.1 in λ i. both (c i) (xs i) (λ u v. call_operand at u (format_of es) v)
  judged_alike s s' (plain.Member at x m) t a = let e = judged_alike s s' x t a in λ i. after (e i) (λ u. member_operand (t i) at m u.ty)
  judged_alike s s' (plain.Arrow at x m) t a = let e = judged_alike s s' x t a in λ i. after (e i) (λ u. arrow_operand (t i) at m (value_type u))

  pub all_judged_alike : (s s' : Scope) (es : CExprs) → s.tags ≡ s'.tags → ExprsAreAlike s s' es → all_judged s es ≡ all_judged s' es
  all_judged_alike s s' plain.NoExpr t a = refl
  all_judged_alike s s' (plain.MoreExpr e es) t a = let x = judged_alike s s' e t a.0 in let xs = all_judged_alike s s' es t a.1 in λ i. both (x i) (xs i) (λ u us. Ok (u ∷ us))

  pub written_alike : (s s' : Scope) (at : ℕ) (ty : CTy) → s.tags ≡ s'.tags → TyIsAlike s s' ty → written s at ty ≡ written s' at ty
  written_alike s s' at plain.Void t a = refl
  written_alike s s' at plain.Int t a = refl
  written_alike s s' at plain.Unsigned t a = refl
  written_alike s s' at plain.Char t a = refl
  written_alike s s' at plain.UChar t a = refl
  written_alike s s' at (plain.Struct name) t a = ap (λ tags. option_map_or (λ _. Ok (type.Struct name)) (meaning tags name) (Err (fault.Unknown at))) t
  written_alike s s' at (plain.Pointer ty) t a = ap (λ r. after r (λ u. Ok (type.Pointer u))) (written_alike s s' at ty t a)
  written_alike s s' at (plain.Array ty) t a =
      let e = written_alike s s' at ty t a in λ i. after (e i) (λ u. keeping ((is_object_type (t i) u, fault.Mismatch at) ∷ []) (type.Array u 0))
  written_alike s s' at (plain.ArrayOf ty n) t a =
      let e = written_alike s s' at ty t a.0 in let f = judged_alike s s' n t a.1 in
      λ i. both (e i) (f i) (λ u x. both (keeping ((is_object_type (t i) u, fault.Mismatch at) ∷ []) (type.Array u 1)) (length_in x.pos x.constant) (λ _ m. Ok (type.Array u m)))
  written_alike s s' at (plain.Func ty tys) t a =
      let e = written_alike s s' at ty t a.0 in let f = parameters_alike s s' at tys t a.1 in λ i. both (e i) (f i) (λ u us. keeping ((is_result_type u, fault.Mismatch at) ∷ []) (type.Function u us))

  pub parameters_alike : (s s' : Scope) (at : ℕ) (tys : CTys) → s.tags ≡ s'.tags → TysAreAlike s s' tys → parameters s at tys ≡ parameters s' at tys
  parameters_alike s s' at plain.NoTy t a = refl
  parameters_alike s s' at (plain.MoreTy ty tys) t a =
      let e = written_alike s s' at ty t a.0 in let f = parameters_alike s s' at tys t a.1 in λ i. both (e i) (f i) (λ u us. after (parameter_type at u) (λ v. Ok (type.MoreType v us)))

pub expressions_are_judged_alike : ExpressionsAreJudgedAlike
expressions_are_judged_alike s s' e t a = judged_alike s s' e t a

pub types_are_judged_alike : TypesAreJudgedAlike
types_are_judged_alike s s' at ty t a = written_alike s s' at ty t a
