-- Words of typed expressions with fewer operators.
use Rattle.std.proofs.Common.{◌≡◌, ℕ, ◌+◌, ◌≤◌, Bool, true, false, List, ◌∷◌, ◌++◌, length, drop, Option, Some, None, refl, ap, subst, arith}
use Rattle.std.specs.Prelude.{Ok, codes, if◌then◌else◌}
use Rattle.std.specs.Str.{bytes_eq}
use Rattle.c_syntax.specs.Plain as plain
use Rattle.c_syntax.specs.Plain.{CExpr, CExprs}
use Rattle.c_syntax.specs.declared.tree.UnOp.TheVariants as unary
use Rattle.c_types.specs.Scope as entity
use Rattle.c_types.specs.Scope.{Scope, Entity, entity_of}
use Rattle.c_types.specs.Operands.{Operand, Callee, Through, unary_operand, step_operand, binary_operand, assign_operand, choice_operand, comma_operand, cast_operand, index_operand, member_operand, arrow_operand, value_type, call_operand}
use Rattle.c_types.specs.Expressions.{names_function, named, through, named_callee, format_of, judged, all_judged, written}
use Rattle.c_types.specs.Census.{expr_sum, exprs_sum, maybe_sum}
use Rattle.c_eval.specs.Environment.{type_in, value_type_in}
use Rattle.c_helpers.specs.Functions.{format_name, put_string}
use Rattle.c_helpers.specs.Meanings.{is_format}
use Rattle.c_helpers.specs.Names.{names_in, maybe_names}
use Rattle.c_helpers.specs.Fewer.{sign_of, counts_unsigned, named_call, fewer, fewer_all, maybe_fewer}
use Rattle.c_fewer_types.proofs.FewerTypedRules.{after_is, both_is, three_is}
use Rattle.c_fewer_names.specs.FewerKnownLaws.{NamesAreOfText}
use Rattle.c_fewer_names.proofs.Trees.{not_var}
use Rattle.c_fewer_names.proofs.FewerKnownExpressions.{MaybeJudged}
use Rattle.c_rates.proofs.Expressions.{text_calm}
use Rattle.c_compiled.specs.Words.{words, format_words}
use Rattle.c_compiled.proofs.RoomTrees.{sign_calm, both_words, no_word, Few, AllFew, more_few, called_few, fewer_type_words, inverted_few, operator_few, assigned_few, assignment_few, element_few, step_few, through_few}

-- the first scope is that of the tree that is made, the second that in which words are counted before
module _ (s : Scope) (text : NamesAreOfText s) (z q : Scope) where
  -- a name that is used
  name_few : (at : ℕ) (name : List ℕ) (o : Option Entity) (x : Operand) → entity_of s name ≡ o → named s at name o ≡ Ok x → Few z (plain.Var at name) 0
  name_few at name None x e k = absurd (cc k)
  name_few at name (Some y) x e k = let b = ap (λ b. if b then length (drop 7 name) + 1 else 0) (text_calm name (text name y e)) in omega (arith, b)

  -- a name that is called; what stands behind a format has the words that are left
  named_few : (at pos : ℕ) (name : List ℕ) (es : CExprs) (o : Option Entity) (t : Callee) (m : ℕ) → entity_of s name ≡ o → named_callee s at name o ≡ Ok t → AllFew z (fewer_all s es) m → ((e : CExpr) (fs : CExprs) → es ≡ plain.MoreExpr e fs → (l : ℕ) × AllFew z (fewer_all s fs) l × (expr_sum words q e + l ≤ m)) → Few z (named_call at pos name o (format_of es) (fewer_all s es)) m
  named_few at pos name es None t m e l f rest = absurd (cc l)
  named_few at pos name es (Some (entity.Object u)) t m e l f rest = called_few z at pos name (fewer_all s es) m (text_calm name (text name (entity.Object u) e)) f
  named_few at pos name es (Some (entity.Routine u begun)) t m e l f rest = called_few z at pos name (fewer_all s es) m (text_calm name (text name (entity.Routine u begun) e)) f
  named_few at pos name es (Some (entity.BuiltIn u)) t m e l f rest = called_few z at pos (if bytes_eq name (codes "puts") then put_string.name else name) (fewer_all s es) m (go (bytes_eq name (codes "puts"))) f
    where
      go : (b : Bool) → is_format (if b then put_string.name else name) ≡ false
      go true = refl
      go false = text_calm name (text name (entity.BuiltIn u) e)
  named_few at pos name plain.NoExpr (Some entity.Printf) t m e l f rest = called_few z at pos name (fewer_all s plain.NoExpr) m (text_calm name (text name entity.Printf e)) f
  named_few at pos name (plain.MoreExpr (plain.Str there format) es) (Some entity.Printf) t m e l f rest = printed (rest (plain.Str there format) es refl)
    where
      printed : (l : ℕ) × AllFew z (fewer_all s es) l × (length format + 1 + l ≤ m) → Few z (plain.Call at (plain.Var pos (format_name format)) (fewer_all s es)) m
      printed r = let a = no_word (names_function z (plain.Var pos (format_name format))) in let w = r.1 in let n = r.2 in omega (arith, a, w, n)
  named_few at pos name (plain.MoreExpr y es) (Some entity.Printf) t m e l f rest = called_few z at pos name (fewer_all s (plain.MoreExpr y es)) m (text_calm name (text name entity.Printf e)) f

  mutual
    pub expr_few : (e : CExpr) (x : Operand) → judged s e ≡ Ok x → Few z (fewer s e) (expr_sum words q e)
    expr_few (plain.Number at n unsigned) x k = omega arith
    expr_few (plain.Str at text) x k = omega arith
    expr_few (plain.Null at) x k = omega arith
    expr_few (plain.Var at name) x k = name_few at name (entity_of s name) x refl k
    expr_few (plain.Unary at unary.Invert a) x k =
        let l = after_is (judged s a) (λ y. unary_operand s.tags at unary.Invert y) x k in
        let f = inverted_few z at (type_in s (plain.Unary at unary.Invert a)) (fewer s a) (expr_sum words q a) (expr_few a l.0 l.1) in omega (arith, f)
    expr_few (plain.Unary at op a) x k =
        let l = after_is (judged s a) (λ y. unary_operand s.tags at op y) x k in let f = expr_few a l.0 l.1 in omega (arith, f)
    expr_few (plain.Step at op a) x k =
        let l = after_is (judged s a) (λ y. step_operand s.tags at y) x k in
        let f = step_few z s.tags at (fewer s a) (expr_sum words q a) (expr_few a l.0 l.1) op (type_in s a) in omega (arith, f)
    expr_few (plain.Binary at op a b) x k =
        let l = both_is (judged s a) (judged s b) (λ y z. binary_operand s.tags at op y z) x k in
        let f = operator_few z s.tags at (fewer s a) (fewer s b) (expr_sum words q a) (expr_sum words q b) (expr_few a l.0 l.1.1) (expr_few b l.1.0 l.1.2)
        (sign_of op (counts_unsigned op (value_type_in s a) (value_type_in s b))) op (type_in s (plain.Binary at op a b)) (value_type_in s a) (value_type_in s b) (sign_calm op (counts_unsigned op (value_type_in s a) (value_type_in s b))) in
        omega (arith, f)
    expr_few (plain.Assign at None a b) x k =
        let l = both_is (judged s a) (judged s b) (λ y z. assign_operand s.tags at None y z) x k in
        let f = assigned_few z s.tags at (fewer s a) (fewer s b) (expr_sum words q a) (expr_sum words q b) (expr_few a l.0 l.1.1) (expr_few b l.1.0 l.1.2) None in omega (arith, f)
    expr_few (plain.Assign at (Some op) a b) x k =
        let l = both_is (judged s a) (judged s b) (λ y z. assign_operand s.tags at (Some op) y z) x k in
        let f = assignment_few z s.tags at (fewer s a) (fewer s b) (expr_sum words q a) (expr_sum words q b) (expr_few a l.0 l.1.1) (expr_few b l.1.0 l.1.2)
        (sign_of op (counts_unsigned op (type_in s a) (value_type_in s b))) op (type_in s a) (value_type_in s b) (sign_calm op (counts_unsigned op (type_in s a) (value_type_in s b))) in
        omega (arith, f)
    expr_few (plain.Cond at a b d) x k =
        let l = three_is (judged s a) (judged s b) (judged s d) (λ y z w. choice_operand at y z w) x k in
        let f = expr_few a l.0 l.1.1.1 in let g = expr_few b l.1.0 l.1.1.2 in let h = expr_few d l.1.1.0 l.1.1.3 in
        let i = both_words (names_in (fewer s a)) (names_in (fewer s b) ++ names_in (fewer s d)) in let j = both_words (names_in (fewer s b)) (names_in (fewer s d)) in
        omega (arith, f, g, h, i, j)
    expr_few (plain.Comma at a b) x k =
        let l = both_is (judged s a) (judged s b) (λ y z. comma_operand at y z) x k in
        let f = expr_few a l.0 l.1.1 in let g = expr_few b l.1.0 l.1.2 in let i = both_words (names_in (fewer s a)) (names_in (fewer s b)) in omega (arith, f, g, i)
    expr_few (plain.Cast at t a) x k =
        let l = both_is (written s at t) (judged s a) (λ u y. cast_operand at u y) x k in let f = expr_few a l.1.0 l.1.2 in let g = fewer_type_words z s t in omega (arith, f, g)
    expr_few (plain.SizeTy at t) x k = omega arith
    expr_few (plain.SizeOf at a) x k = omega arith
    expr_few (plain.Index at a b) x k =
        let l = both_is (judged s a) (judged s b) (λ y z. index_operand s.tags at y z) x k in
        let f = element_few z s.tags at (fewer s a) (fewer s b) (expr_sum words q a) (expr_sum words q b) (expr_few a l.0 l.1.1) (expr_few b l.1.0 l.1.2) (value_type_in s a) (value_type_in s b) in omega (arith, f)
    expr_few (plain.Call at (plain.Var pos name) es) x k =
        let l = both_is (named_callee s at name (entity_of s name)) (all_judged s es) (λ g xs. call_operand at g (format_of es) xs) x k in
        let f = named_few at pos name es (entity_of s name) l.0 (exprs_sum words q es) refl l.1.1 (all_few es l.1.0 l.1.2) (λ e fs is. rest_few es l.1.0 l.1.2 e fs is) in omega (arith, f)
    expr_few (plain.Call at f es) x k =
        let l = both_is (through (judged s f)) (all_judged s es) (λ g xs. call_operand at g (format_of es) xs) x k in
        let m = after_is (judged s f) (λ y. Ok (Through (value_type y))) l.0 l.1.1 in
        let g = through_few z s at (fewer_all s es) (expr_sum words q f) (exprs_sum words q es) (all_few es l.1.0 l.1.2) (fewer s f) (format_of es) (not_var s f refl) (expr_few f m.0 m.1) in omega (arith, g)
    expr_few (plain.Member at a m) x k = let l = after_is (judged s a) (λ y. member_operand s.tags at m y.ty) x k in let f = expr_few a l.0 l.1 in omega (arith, f)
    expr_few (plain.Arrow at a m) x k = let l = after_is (judged s a) (λ y. arrow_operand s.tags at m (value_type y)) x k in let f = expr_few a l.0 l.1 in omega (arith, f)

    all_few : (es : CExprs) (xs : List Operand) → all_judged s es ≡ Ok xs → AllFew z (fewer_all s es) (exprs_sum words q es)
    all_few plain.NoExpr xs k = omega arith
    all_few (plain.MoreExpr e es) xs k =
        let l = both_is (judged s e) (all_judged s es) (λ x xs. Ok (x ∷ xs)) xs k in
        more_few z (fewer s e) (fewer_all s es) (expr_sum words q e) (exprs_sum words q es) (expr_few e l.0 l.1.1) (all_few es l.1.0 l.1.2)

    -- those behind the first
    rest_few : (es : CExprs) (xs : List Operand) → all_judged s es ≡ Ok xs → (e : CExpr) (fs : CExprs) → es ≡ plain.MoreExpr e fs → (l : ℕ) × AllFew z (fewer_all s fs) l × (expr_sum words q e + l ≤ exprs_sum words q es)
    rest_few plain.NoExpr xs k e fs is = absurd (cc is)
    rest_few (plain.MoreExpr y es) xs k e fs is =
        let l = both_is (judged s y) (all_judged s es) (λ x xs. Ok (x ∷ xs)) xs k in
        let same : es ≡ fs = cc is in let one : y ≡ e = cc is in
        subst (λ v. (l : ℕ) × AllFew z (fewer_all s fs) l × (expr_sum words q v + l ≤ expr_sum words q y + exprs_sum words q es)) one
        (subst (λ v. (l : ℕ) × AllFew z (fewer_all s v) l × (expr_sum words q y + l ≤ expr_sum words q y + exprs_sum words q es)) same (exprs_sum words q es, all_few es l.1.0 l.1.2, omega arith))

  -- one that may be missing
  pub maybe_few : (o : Option CExpr) → MaybeJudged s o → maybe_sum words z (maybe_fewer s o) + format_words (maybe_names (maybe_fewer s o)) ≤ maybe_sum words q o
  maybe_few None k = omega arith
  maybe_few (Some e) k = expr_few e k.0 k.1
