-- What each typed expression within the limits is.
use Rattle.std.proofs.Common.{ℕ, ◌+◌, ◌*◌, ◌≤◌, Bool, true, false, ◌∷◌, length, refl, arith, if◌then◌else◌}
use Rattle.std.specs.Prelude.{◌^◌, ◌%◌, ◌==◌, Ok, Err}
use Rattle.c_syntax.specs.Plain as plain
use Rattle.c_syntax.specs.Plain.{CExpr, CExprs, CTy, CTys}
use Rattle.c_types.specs.declared.fault.TypeFault.{TypeFault}
use Rattle.c_types.specs.declared.fault.TypeFault.TheVariants as fault
use Rattle.c_types.specs.Types as type
use Rattle.c_types.specs.Types.{CType, CTypes, Tags, Layout, is_arithmetic, is_scalar, is_pointer, is_unsigned, is_void, is_null, is_struct, is_object_pointer, is_void_pointer, is_function_pointer, same_type, decayed, promoted, common_type, words_of, is_object_type}
use Rattle.c_types.specs.Refusals.{Judged, after}
use Rattle.c_types.specs.Constants.{Constant, Value}
use Rattle.c_types.specs.Scope.{Scope, entity_of}
use Rattle.c_types.specs.Operands.{Operand, Other, Zero, operand, value_at, value_type, unary_operand, step_operand, binary_operand, assign_operand, choice_operand, comma_operand, cast_operand, size_operand, index_operand, member_operand, arrow_operand, call_operand}
use Rattle.c_types.specs.Expressions.{names_function, named_callee, callee_of, format_of, judged, all_judged, written, literal}
use Rattle.c_types.specs.Census.{expr_sum, exprs_sum}
use Rattle.c_types.specs.Limits.{most_words}
use Rattle.c_fitting.specs.Fit.{AreFit}
use Rattle.c_fitting.specs.Good.{IsGood, ScopeIsGood}
use Rattle.c_fitting.proofs.Judgement.{IfOk, Any, any_ok, after_ok, both_ok, three_ok}
use Rattle.c_fitting.proofs.Sums.{weighing, widening, IsLight, first, last}
use Rattle.c_fitting.proofs.WrittenLemmas.{good_written}
use Rattle.c_fitting.proofs.ExprLemmas.{IsKnown, IsSingle, apart, known, weaker, named_known, unary_known, step_known}
use Rattle.c_fitting.proofs.FormLemmas.{binary_known, assign_known, choice_known, comma_known, cast_known, size_known, index_known, dot_known, arrow_known, CalleeIsGood, call_known, IsCallee, named_callee_known, through_known}

literal_single : (tags : Tags) (at : ℕ) (b c : Bool) (k : Constant) → IsSingle tags (operand at (if b then type.Unsigned else type.Int) (if c then Zero else Other) k)
literal_single tags at true true k = (tt, refl, refl)
literal_single tags at true false k = (tt, refl, refl)
literal_single tags at false true k = (tt, refl, refl)
literal_single tags at false false k = (tt, refl, refl)

unless_named : (G : Operand → Type 0) (b : Bool) (e : TypeFault) (r : Judged Operand) → IfOk G r → IfOk G (if b then Err e else r)
unless_named G true e r w = tt
unless_named G false e r w = w

string_short : (n : ℕ) → 1 + (n + 1) ≤ 65536 → (n + 1) * 1 ≤ most_words
string_short n h = omega (arith, h)

-- what is called, its own name being no part
callee_known : (s : Scope) → ScopeIsGood s → (at : ℕ) (f : CExpr) → (IsLight (expr_sum weighing s f) (expr_sum widening s f) → IfOk (IsKnown s f) (judged s f))
    → IsLight (if names_function s f then 0 else expr_sum weighing s f) (if names_function s f then 0 else expr_sum widening s f) → IfOk (IsCallee s f) (callee_of s at f (judged s f))
callee_known s h at (plain.Var pos name) k l =
    weaker (CalleeIsGood s.tags) (IsCallee s (plain.Var pos name)) (named_callee s at name (entity_of s name)) (λ c g. (tt, g)) (named_callee_known s at name (entity_of s name) (h.names name))
callee_known s h at (plain.Number pos n unsigned) k l = through_known s (plain.Number pos n unsigned) (judged s (plain.Number pos n unsigned)) (k l)
callee_known s h at (plain.Str pos text) k l = through_known s (plain.Str pos text) (judged s (plain.Str pos text)) (k l)
callee_known s h at (plain.Null pos) k l = through_known s (plain.Null pos) (judged s (plain.Null pos)) (k l)
callee_known s h at (plain.Unary pos op x) k l = through_known s (plain.Unary pos op x) (judged s (plain.Unary pos op x)) (k l)
callee_known s h at (plain.Step pos op x) k l = through_known s (plain.Step pos op x) (judged s (plain.Step pos op x)) (k l)
callee_known s h at (plain.Binary pos op x y) k l = through_known s (plain.Binary pos op x y) (judged s (plain.Binary pos op x y)) (k l)
callee_known s h at (plain.Assign pos op x y) k l = through_known s (plain.Assign pos op x y) (judged s (plain.Assign pos op x y)) (k l)
callee_known s h at (plain.Cond pos x y z) k l = through_known s (plain.Cond pos x y z) (judged s (plain.Cond pos x y z)) (k l)
callee_known s h at (plain.Comma pos x y) k l = through_known s (plain.Comma pos x y) (judged s (plain.Comma pos x y)) (k l)
callee_known s h at (plain.Cast pos t x) k l = through_known s (plain.Cast pos t x) (judged s (plain.Cast pos t x)) (k l)
callee_known s h at (plain.SizeTy pos t) k l = through_known s (plain.SizeTy pos t) (judged s (plain.SizeTy pos t)) (k l)
callee_known s h at (plain.SizeOf pos x) k l = through_known s (plain.SizeOf pos x) (judged s (plain.SizeOf pos x)) (k l)
callee_known s h at (plain.Index pos x y) k l = through_known s (plain.Index pos x y) (judged s (plain.Index pos x y)) (k l)
callee_known s h at (plain.Call pos f es) k l = through_known s (plain.Call pos f es) (judged s (plain.Call pos f es)) (k l)
callee_known s h at (plain.Member pos x m) k l = through_known s (plain.Member pos x m) (judged s (plain.Member pos x m)) (k l)
callee_known s h at (plain.Arrow pos x m) k l = through_known s (plain.Arrow pos x m) (judged s (plain.Arrow pos x m)) (k l)

abbrev pub ExprLight : Scope → CExpr → Type 0
ExprLight s e = IsLight (expr_sum weighing s e) (expr_sum widening s e)

mutual
  pub expr_known : (s : Scope) → ScopeIsGood s → (e : CExpr) → ExprLight s e → IfOk (IsKnown s e) (judged s e)
  expr_known s h (plain.Number at n unsigned) l =
      known s (plain.Number at n unsigned) (literal at n unsigned) tt (literal_single s.tags at unsigned (n == 0) (Value (n % 2 ^ 24)))
  expr_known s h (plain.Str at text) l =
      record { good = (tt, refl, string_short (length text) l.weight_is); place = λ _. tt; named = λ d. absurd (apart false refl d); fit = tt }
  expr_known s h (plain.Null at) l = known s (plain.Null at) (value_at at type.Null) tt (tt, refl, refl)
  expr_known s h (plain.Var at name) l = named_known s at name (entity_of s name) refl (h.names name)
  expr_known s h (plain.Unary at op a) l =
      after_ok (IsKnown s a) (IsKnown s (plain.Unary at op a)) (judged s a) (λ x. unary_operand s.tags at op x) (expr_known s h a (last _ _ _ _ l)) (λ x _ k. unary_known s at op a x k)
  expr_known s h (plain.Step at op a) l =
      after_ok (IsKnown s a) (IsKnown s (plain.Step at op a)) (judged s a) (λ x. step_operand s.tags at x) (expr_known s h a (last _ _ _ _ l)) (λ x j k. step_known s at op a x h.tags j k)
  expr_known s h (plain.Binary at op a b) l =
      both_ok (IsKnown s a) (IsKnown s b) (IsKnown s (plain.Binary at op a b)) (judged s a) (judged s b) (λ x y. binary_operand s.tags at op x y)
      (expr_known s h a (last _ _ _ _ (first _ _ _ _ l))) (expr_known s h b (last _ _ _ _ l)) (λ x y i j k m. binary_known s at op a b x y h.tags i j k m)
  expr_known s h (plain.Assign at op a b) l =
      both_ok (IsKnown s a) (IsKnown s b) (IsKnown s (plain.Assign at op a b)) (judged s a) (judged s b) (λ x y. assign_operand s.tags at op x y)
      (expr_known s h a (last _ _ _ _ (first _ _ _ _ l))) (expr_known s h b (last _ _ _ _ l)) (λ x y i j k m. assign_known s at op a b x y h.tags i j k m)
  expr_known s h (plain.Cond at a b c) l =
      three_ok (IsKnown s a) (IsKnown s b) (IsKnown s c) (IsKnown s (plain.Cond at a b c)) (judged s a) (judged s b) (judged s c) (λ x y z. choice_operand at x y z)
      (expr_known s h a (last _ _ _ _ (first _ _ _ _ (first _ _ _ _ l)))) (expr_known s h b (last _ _ _ _ (first _ _ _ _ l))) (expr_known s h c (last _ _ _ _ l))
      (λ x y z k m n. choice_known s at a b c x y z k m n)
  expr_known s h (plain.Comma at a b) l =
      both_ok (IsKnown s a) (IsKnown s b) (IsKnown s (plain.Comma at a b)) (judged s a) (judged s b) (λ x y. comma_operand at x y)
      (expr_known s h a (last _ _ _ _ (first _ _ _ _ l))) (expr_known s h b (last _ _ _ _ l)) (λ x y i j k m. comma_known s at a b x y k m)
  expr_known s h (plain.Cast at t a) l =
      both_ok (IsGood s.tags) (IsKnown s a) (IsKnown s (plain.Cast at t a)) (written s at t) (judged s a) (λ u x. cast_operand at u x)
      (good_written s at t (first _ _ _ _ (first _ _ _ _ l)).wide_is) (expr_known s h a (last _ _ _ _ l)) (λ u x _ _ g k. cast_known s at t a u x g k)
  expr_known s h (plain.SizeTy at t) l =
      after_ok Any (IsKnown s (plain.SizeTy at t)) (written s at t) (λ u. size_operand s.tags at u) (any_ok (written s at t)) (λ u _ _. size_known s at (plain.SizeTy at t) u tt)
  expr_known s h (plain.SizeOf at a) l =
      unless_named (IsKnown s (plain.SizeOf at a)) (names_function s a) (fault.Mismatch at) (after (judged s a) (λ x. size_operand s.tags at x.ty))
      (after_ok Any (IsKnown s (plain.SizeOf at a)) (judged s a) (λ x. size_operand s.tags at x.ty) (any_ok (judged s a)) (λ x _ _. size_known s at (plain.SizeOf at a) x.ty tt))
  expr_known s h (plain.Index at a b) l =
      both_ok (IsKnown s a) (IsKnown s b) (IsKnown s (plain.Index at a b)) (judged s a) (judged s b) (λ x y. index_operand s.tags at x y)
      (expr_known s h a (last _ _ _ _ (first _ _ _ _ l))) (expr_known s h b (last _ _ _ _ l)) (λ x y i j k m. index_known s at a b x y h.tags i j k m)
  expr_known s h (plain.Call at f es) l =
      both_ok (IsCallee s f) (λ _. AreFit s es) (IsKnown s (plain.Call at f es)) (callee_of s at f (judged s f)) (all_judged s es) (λ c xs. call_operand at c (format_of es) xs)
      (callee_known s h at f (λ m. expr_known s h f m) (last _ _ _ _ (first _ _ _ _ l))) (exprs_known s h es (last _ _ _ _ l))
      (λ c xs _ _ g fs. weaker (IsSingle s.tags) (IsKnown s (plain.Call at f es)) (call_operand at c (format_of es) xs) (λ b v. known s (plain.Call at f es) b (g.0, fs) v) (call_known s.tags at c (format_of es) xs g.1))
  expr_known s h (plain.Member at a m) l =
      after_ok (IsKnown s a) (IsKnown s (plain.Member at a m)) (judged s a) (λ x. member_operand s.tags at m x.ty) (expr_known s h a (last _ _ _ _ l)) (λ x _ k. dot_known s at a m x h.tags k)
  expr_known s h (plain.Arrow at a m) l =
      after_ok (IsKnown s a) (IsKnown s (plain.Arrow at a m)) (judged s a) (λ x. arrow_operand s.tags at m (value_type x)) (expr_known s h a (last _ _ _ _ l)) (λ x _ k. arrow_known s at a m x h.tags k)

  pub exprs_known : (s : Scope) → ScopeIsGood s → (es : CExprs) → IsLight (exprs_sum weighing s es) (exprs_sum widening s es) → IfOk (λ _. AreFit s es) (all_judged s es)
  exprs_known s h plain.NoExpr l = tt
  exprs_known s h (plain.MoreExpr e es) l =
      both_ok (IsKnown s e) (λ _. AreFit s es) (λ _. AreFit s (plain.MoreExpr e es)) (judged s e) (all_judged s es) (λ x xs. Ok (x ∷ xs))
      (expr_known s h e (first _ _ _ _ l)) (exprs_known s h es (last _ _ _ _ l)) (λ x xs _ _ k fs. (k.fit, fs))
