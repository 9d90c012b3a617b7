-- What typed expressions count with fewer operators, by their nodes.
use Rattle.std.proofs.Common.{◌≡◌, ℕ, ◌+◌, ◌≤◌, Bool, true, false, List, ◌∷◌, Option, Some, None, refl, sym, ap, ◌∙◌, subst, arith, take, drop, take-append-drop, ◌++◌}
use Rattle.std.specs.Prelude.{Ok, codes, if◌then◌else◌}
use Rattle.std.specs.List.{list_any}
use Rattle.std.specs.Str.{bytes_eq}
use Rattle.std.proofs.lemmas.Slice.Eq.{bytes_eq-Decides}
use Rattle.c_syntax.specs.Plain as plain
use Rattle.c_syntax.specs.Plain.{CExpr, CExprs}
use Rattle.c_syntax.specs.declared.tree.UnOp.TheVariants as unary
use Rattle.c_types.specs.Scope as entity
use Rattle.c_types.specs.Scope.{Scope, Entity, entity_of}
use Rattle.c_types.specs.Operands.{Operand, Callee, Through, unary_operand, step_operand, binary_operand, assign_operand, choice_operand, comma_operand, cast_operand, index_operand, member_operand, arrow_operand, value_type, call_operand}
use Rattle.c_types.specs.Expressions.{through, named_callee, names_function, format_of, judged, all_judged, written}
use Rattle.c_types.specs.Census.{Tally, expr_sum, exprs_sum}
use Rattle.c_eval.specs.Environment.{type_in, value_type_in}
use Rattle.c_helpers.specs.Laws.{is_strange}
use Rattle.c_helpers.specs.Functions.{format_name, put_string}
use Rattle.c_helpers.specs.Meanings.{is_format}
use Rattle.c_helpers.specs.Frames.{waiting}
use Rattle.c_helpers.specs.Cost.{cost_of}
use Rattle.c_helpers.specs.Fewer.{sign_of, counts_unsigned, named_call, fewer, fewer_all}
use Rattle.c_stated.specs.Worth.{calls_in}
use Rattle.c_fewer_types.specs.Standing.{IsTextName}
use Rattle.c_fewer_types.proofs.FewerTypedRules.{after_is, both_is, three_is}
use Rattle.c_fewer_names.specs.FewerKnownLaws.{NamesAreOfText}
use Rattle.c_fewer_names.proofs.Trees.{not_var}
use Rattle.c_rates.proofs.Trees.{Fits, AllFit, called_fits, one_fits, sign_calm, operator_fits, set_fits, assignment_fits, element_fits, step_fits, more_fit, through_fits}

-- a name of a text is no format's
pub text_calm : (name : List ℕ) → IsTextName name → is_format name ≡ false
text_calm name n = go (is_format name) refl
  where
    go : (b : Bool) → is_format name ≡ b → b ≡ false
    go false e = refl
    go true e =
        let first : take 7 name ≡ codes "printf " = (bytes_eq-Decides (take 7 name) (codes "printf ")).0 e in
        let whole : codes "printf " ++ drop 7 name ≡ name = ap (λ z. z ++ drop 7 name) (sym first) ∙ take-append-drop 7 name in
        let strange : list_any is_strange name ≡ true = subst (λ z. list_any is_strange z ≡ true) whole refl in
        absurd (cc (sym n ∙ strange))

module _ (c : Tally) (own : (s : Scope) (e : CExpr) → 1 ≤ c.expr s e) (s : Scope) (text : NamesAreOfText s) (q : Scope) where
  -- one node without a part
  alone : (e x : CExpr) → waiting x ≡ 0 → cost_of x ≤ 30 → calls_in x ≡ 0 → expr_sum c q e ≡ c.expr q e → Fits x (expr_sum c q e)
  alone e x w d u n = let o = own q e in (omega (arith, w), omega (arith, d, n, o), omega (arith, u), omega (arith, n, o))

  -- a call of a name
  named_fits : (at pos : ℕ) (name : List ℕ) (es : CExprs) (o : Option Entity) (t : Callee) (k m : ℕ) → entity_of s name ≡ o → named_callee s at name o ≡ Ok t → 1 ≤ k → AllFit (fewer_all s es) m → ((e : CExpr) (fs : CExprs) → es ≡ plain.MoreExpr e fs → (l : ℕ) × AllFit (fewer_all s fs) l × (1 + l ≤ m)) → Fits (named_call at pos name o (format_of es) (fewer_all s es)) (k + m)
  named_fits at pos name es None t k m e l o f rest = absurd (cc l)
  named_fits at pos name es (Some (entity.Object u)) t k m e l o f rest = called_fits at pos name (text_calm name (text name (entity.Object u) e)) (fewer_all s es) m k f o
  named_fits at pos name es (Some (entity.Routine u begun)) t k m e l o f rest = called_fits at pos name (text_calm name (text name (entity.Routine u begun) e)) (fewer_all s es) m k f o
  named_fits at pos name es (Some (entity.BuiltIn u)) t k m e l o f rest = called_fits at pos (if bytes_eq name (codes "puts") then put_string.name else name) (go (bytes_eq name (codes "puts"))) (fewer_all s es) m k f o
    where
      go : (b : Bool) → is_format (if b then put_string.name else name) ≡ false
      go true = refl
      go false = text_calm name (text name (entity.BuiltIn u) e)
  named_fits at pos name plain.NoExpr (Some entity.Printf) t k m e l o f rest = called_fits at pos name (text_calm name (text name entity.Printf e)) (fewer_all s plain.NoExpr) m k f o
  named_fits at pos name (plain.MoreExpr (plain.Str there format) es) (Some entity.Printf) t k m e l o f rest = printed (rest (plain.Str there format) es refl)
    where
      printed : (l : ℕ) × AllFit (fewer_all s es) l × (1 + l ≤ m) → Fits (plain.Call at (plain.Var pos (format_name format)) (fewer_all s es)) (k + m)
      printed r = let n = r.2 in let w = r.1.0 1 6 in let d = r.1.1 in let u = r.1.2 in (omega (arith, n, w, o), omega (arith, n, d, o), omega (arith, n, u, o), omega (arith, o))
  named_fits at pos name (plain.MoreExpr y es) (Some entity.Printf) t k m e l o f rest = called_fits at pos name (text_calm name (text name entity.Printf e)) (fewer_all s (plain.MoreExpr y es)) m k f o

  mutual
    pub expr_fits : (e : CExpr) (x : Operand) → judged s e ≡ Ok x → Fits (fewer s e) (expr_sum c q e)
    expr_fits (plain.Number at n unsigned) x k = alone (plain.Number at n unsigned) (plain.Number at n unsigned) refl (omega arith) refl refl
    expr_fits (plain.Str at text) x k = alone (plain.Str at text) (plain.Str at text) refl (omega arith) refl refl
    expr_fits (plain.Null at) x k = alone (plain.Null at) (plain.Null at) refl (omega arith) refl refl
    expr_fits (plain.Var at name) x k = alone (plain.Var at name) (plain.Var at name) refl (omega arith) refl refl
    expr_fits (plain.Unary at unary.Invert a) x k =
        let l = after_is (judged s a) (λ y. unary_operand s.tags at unary.Invert y) x k in
        one_fits at (codes "~") refl (fewer s a) (expr_sum c q a) (c.expr q (plain.Unary at unary.Invert a)) (expr_fits a l.0 l.1) (own q (plain.Unary at unary.Invert a))
    expr_fits (plain.Unary at op a) x k =
        let l = after_is (judged s a) (λ y. unary_operand s.tags at op y) x k in let f = expr_fits a l.0 l.1 in let o = own q (plain.Unary at op a) in
        let w = f.0 in let d = f.1 in let u = f.2 in (omega (arith, w), omega (arith, d, o), omega (arith, u), omega (arith, o))
    expr_fits (plain.Step at op a) x k =
        let l = after_is (judged s a) (λ y. step_operand s.tags at y) x k in
        step_fits s.tags at (fewer s a) (expr_sum c q a) (c.expr q (plain.Step at op a)) (expr_fits a l.0 l.1) (own q (plain.Step at op a)) op (type_in s a)
    expr_fits (plain.Binary at op a b) x k =
        let l = both_is (judged s a) (judged s b) (λ y z. binary_operand s.tags at op y z) x k in
        operator_fits s.tags at (fewer s a) (fewer s b) (expr_sum c q a) (expr_sum c q b) (c.expr q (plain.Binary at op a b)) (expr_fits a l.0 l.1.1) (expr_fits b l.1.0 l.1.2) (own q (plain.Binary at op a b))
        (sign_of op (counts_unsigned op (value_type_in s a) (value_type_in s b))) op (type_in s (plain.Binary at op a b)) (value_type_in s a) (value_type_in s b) (sign_calm op (counts_unsigned op (value_type_in s a) (value_type_in s b)))
    expr_fits (plain.Assign at None a b) x k =
        let l = both_is (judged s a) (judged s b) (λ y z. assign_operand s.tags at None y z) x k in
        set_fits s.tags at (fewer s a) (fewer s b) (expr_sum c q a) (expr_sum c q b) (c.expr q (plain.Assign at None a b)) (expr_fits a l.0 l.1.1) (expr_fits b l.1.0 l.1.2) (own q (plain.Assign at None a b))
    expr_fits (plain.Assign at (Some op) a b) x k =
        let l = both_is (judged s a) (judged s b) (λ y z. assign_operand s.tags at (Some op) y z) x k in
        assignment_fits s.tags at (fewer s a) (fewer s b) (expr_sum c q a) (expr_sum c q b) (c.expr q (plain.Assign at (Some op) a b)) (expr_fits a l.0 l.1.1) (expr_fits b l.1.0 l.1.2) (own q (plain.Assign at (Some op) a b))
        (sign_of op (counts_unsigned op (type_in s a) (value_type_in s b))) op (type_in s a) (value_type_in s b) (sign_calm op (counts_unsigned op (type_in s a) (value_type_in s b)))
    expr_fits (plain.Cond at a b d) x k =
        let l = three_is (judged s a) (judged s b) (judged s d) (λ y z w. choice_operand at y z w) x k in
        let f = expr_fits a l.0 l.1.1.1 in let g = expr_fits b l.1.0 l.1.1.2 in let h = expr_fits d l.1.1.0 l.1.1.3 in let o = own q (plain.Cond at a b d) in
        let w1 = f.0 in let w2 = g.0 in let w3 = h.0 in let d1 = f.1 in let d2 = g.1 in let d3 = h.1 in let u1 = f.2 in let u2 = g.2 in let u3 = h.2 in
        (omega (arith, w1, w2, w3), omega (arith, d1, d2, d3, o), omega (arith, u1, u2, u3), omega (arith, o))
    expr_fits (plain.Comma at a b) x k =
        let l = both_is (judged s a) (judged s b) (λ y z. comma_operand at y z) x k in
        let f = expr_fits a l.0 l.1.1 in let g = expr_fits b l.1.0 l.1.2 in let o = own q (plain.Comma at a b) in
        let w1 = f.0 in let w2 = g.0 in let d1 = f.1 in let d2 = g.1 in let u1 = f.2 in let u2 = g.2 in
        (omega (arith, w1, w2), omega (arith, d1, d2, o), omega (arith, u1, u2), omega (arith, o))
    expr_fits (plain.Cast at t a) x k =
        let l = both_is (written s at t) (judged s a) (λ u y. cast_operand at u y) x k in let f = expr_fits a l.1.0 l.1.2 in
        let w = f.0 in let d = f.1 in let u = f.2 in let i = f.3 in (omega (arith, w), omega (arith, d), omega (arith, u), omega (arith, i))
    expr_fits (plain.SizeTy at t) x k = let o = own q (plain.SizeTy at t) in (omega arith, omega (arith, o), omega arith, omega (arith, o))
    expr_fits (plain.SizeOf at a) x k = let o = own q (plain.SizeOf at a) in (omega arith, omega (arith, o), omega arith, omega (arith, o))
    expr_fits (plain.Index at a b) x k =
        let l = both_is (judged s a) (judged s b) (λ y z. index_operand s.tags at y z) x k in
        element_fits s.tags at (fewer s a) (fewer s b) (expr_sum c q a) (expr_sum c q b) (c.expr q (plain.Index at a b)) (expr_fits a l.0 l.1.1) (expr_fits b l.1.0 l.1.2) (own q (plain.Index at a b)) (value_type_in s a) (value_type_in s b)
    expr_fits (plain.Call at (plain.Var pos name) es) x k =
        let l = both_is (named_callee s at name (entity_of s name)) (all_judged s es) (λ g xs. call_operand at g (format_of es) xs) x k in
        let own_nodes : ℕ = c.expr q (plain.Call at (plain.Var pos name) es) + (if names_function q (plain.Var pos name) then 0 else c.expr q (plain.Var pos name)) in
        let o = own q (plain.Call at (plain.Var pos name) es) in
        named_fits at pos name es (entity_of s name) l.0 own_nodes (exprs_sum c q es) refl l.1.1 (omega (arith, o)) (all_fit es l.1.0 l.1.2) (λ e fs is. rest_fits es l.1.0 l.1.2 e fs is)
    expr_fits (plain.Call at f es) x k =
        let l = both_is (through (judged s f)) (all_judged s es) (λ g xs. call_operand at g (format_of es) xs) x k in
        let m = after_is (judged s f) (λ y. Ok (Through (value_type y))) l.0 l.1.1 in
        through_fits s at (fewer s f) (format_of es) (fewer_all s es) (expr_sum c q f) (exprs_sum c q es) (c.expr q (plain.Call at f es)) (not_var s f refl) (expr_fits f m.0 m.1) (all_fit es l.1.0 l.1.2) (own q (plain.Call at f es))
    expr_fits (plain.Member at a m) x k =
        let l = after_is (judged s a) (λ y. member_operand s.tags at m y.ty) x k in let f = expr_fits a l.0 l.1 in let o = own q (plain.Member at a m) in
        let w = f.0 in let d = f.1 in let u = f.2 in (omega (arith, w), omega (arith, d, o), omega (arith, u), omega (arith, o))
    expr_fits (plain.Arrow at a m) x k =
        let l = after_is (judged s a) (λ y. arrow_operand s.tags at m (value_type y)) x k in let f = expr_fits a l.0 l.1 in let o = own q (plain.Arrow at a m) in
        let w = f.0 in let d = f.1 in let u = f.2 in (omega (arith, w), omega (arith, d, o), omega (arith, u), omega (arith, o))

    all_fit : (es : CExprs) (xs : List Operand) → all_judged s es ≡ Ok xs → AllFit (fewer_all s es) (exprs_sum c q es)
    all_fit plain.NoExpr xs k = ((λ before behind. omega arith), omega arith, omega arith)
    all_fit (plain.MoreExpr e es) xs k =
        let l = both_is (judged s e) (all_judged s es) (λ x xs. Ok (x ∷ xs)) xs k in
        more_fit (fewer s e) (fewer_all s es) (expr_sum c q e) (exprs_sum c q es) (expr_fits e l.0 l.1.1) (all_fit es l.1.0 l.1.2)

    -- those behind the first
    rest_fits : (es : CExprs) (xs : List Operand) → all_judged s es ≡ Ok xs → (e : CExpr) (fs : CExprs) → es ≡ plain.MoreExpr e fs → (l : ℕ) × AllFit (fewer_all s fs) l × (1 + l ≤ exprs_sum c q es)
    rest_fits plain.NoExpr xs k e fs is = absurd (cc is)
    rest_fits (plain.MoreExpr y es) xs k e fs is =
        let l = both_is (judged s y) (all_judged s es) (λ x xs. Ok (x ∷ xs)) xs k in
        let same : es ≡ fs = cc is in
        let i = (expr_fits y l.0 l.1.1).3 in
        subst (λ z. (l : ℕ) × AllFit (fewer_all s z) l × (1 + l ≤ expr_sum c q y + exprs_sum c q es)) same (exprs_sum c q es, all_fit es l.1.0 l.1.2, omega (arith, i))
