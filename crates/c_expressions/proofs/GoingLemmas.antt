-- Lists of expressions and of types, judged one after the other.
use Rattle.std.proofs.Common.{◌≡◌, ℕ, suc, ◌+◌, ◌-◌, ◌<◌, ◌≤◌, get_or, add-one, drop-cons, List, [], ◌∷◌, length, map, drop, Option, None, refl, sym, ap, subst, ◌∙◌, arith}
use Rattle.std.specs.Prelude.{Result, Ok, Err}
use Rattle.std.proofs.lemmas.List.{drop_all}
use Rattle.c_syntax.specs.Plain.{CExprs, exprs, tys}
use Rattle.c_syntax.specs.View.{expr_of, ty_of}
use Rattle.c_syntax.specs.declared.tree.Expr.{Expr}
use Rattle.c_syntax.specs.declared.tree.Ty.{Ty}
use Rattle.c_types.specs.declared.fault.TypeFault.{TypeFault}
use Rattle.c_types.specs.Types as types
use Rattle.c_types.specs.Types.{CType, CTypes}
use Rattle.c_types.specs.Refusals.{Judged, both, after}
use Rattle.c_types.specs.Scope.{Scope}
use Rattle.c_types.specs.Operands as plain
use Rattle.c_types.specs.Expressions.{judged, all_judged, written, parameters, parameter_type}
use Rattle.c_types.specs.Known.{Grows}
use Rattle.c_types.specs.Table.{Table, known, HasType}
use Rattle.c_operands.specs.declared.operand.Operand.{Operand}
use Rattle.c_operands.specs.Seen.{IsOperand, IsJudged}
use Rattle.c_operands.proofs.OperandLemmas.{grows_then}
use Rattle.c_operands.specs.Arguments.{HasList}
use Rattle.c_operands.specs.declared.declarations.Declarations.{Declarations}
use Rattle.c_operands.specs.Scoped.{Fits}
use Rattle.c_operands.proofs.NameLemmas.{fits_kept}
use Rattle.c_expressions.specs.declared.collected.Collected.{Collected}
use Rattle.c_expressions.specs.Told.{behind, AreSoFar, AreGiven}
use Rattle.c_expressions.proofs.KeptLemmas.{list_kept}
use Rattle.c_expressions.proofs.ToldLemmas.{Others, joined, so_far_kept}

-- what is collected is what is judged of the first arguments
pub record IsCollected (now : Table) (c : Collected) (s : Scope) (left all : CExprs) : Type 0 where
  pub xs : List plain.Operand
  pub are : AreSoFar now c.refusal c.arguments.items xs
  pub is : all_judged s all ≡ behind c.refusal xs (all_judged s left)

pub record Going (old now : Table) (d : Declarations) (c : Collected) (left all : CExprs) : Type 0 where
  pub grows : Grows (known old) (known now)
  pub tags : now.tags ≡ old.tags
  pub so_far : (s : Scope) → Fits old d s → IsCollected now c s left all

behind_nothing : (others : Others) → others ≡ behind None [] others
behind_nothing (Ok ys) = refl
behind_nothing (Err e) = refl

pub begun : (table : Table) (d : Declarations) (c : Collected) (items : List Expr) (all : CExprs) → c.refusal ≡ None → c.arguments.items ≡ [] → all ≡ exprs (map expr_of items) → Going table table d c (exprs (map expr_of items)) all
begun table d c items all none empty view = record {
  grows = λ n k h. h;
  tags = refl;
  so_far = λ s fits. record {
    xs = [];
    are = subst (λ (o : Option TypeFault). AreSoFar table o c.arguments.items []) (sym none) (subst (λ (l : List _). AreSoFar table None l []) (sym empty) tt);
    is = ap (all_judged s) view ∙ (behind_nothing (all_judged s (exprs (map expr_of items))) ∙ ap (λ (o : Option TypeFault). behind o [] (all_judged s (exprs (map expr_of items)))) (sym none));
  };
}

pub goes_on : (t0 t1 t2 t3 : Table) (d : Declarations) (c new : Collected) (items : List Expr) (i : ℕ) (e : Expr) (j : Result Operand TypeFault) (all : CExprs)
    → Going t0 t1 d c (exprs (map expr_of (drop i items))) all → drop i items ≡ e ∷ drop (i + 1) items
    → ((s : Scope) → Fits t1 d s → IsJudged (IsOperand t2) j (judged s (expr_of e))) → Grows (known t1) (known t2) → t2.tags ≡ t1.tags
    → ((p : Judged plain.Operand) (xs : List plain.Operand) → IsJudged (IsOperand t2) j p → AreSoFar t2 c.refusal c.arguments.items xs
    → (ys : List plain.Operand) × AreSoFar t3 new.refusal new.arguments.items ys × ((others : Others) → behind c.refusal xs (joined p others) ≡ behind new.refusal ys others))
    → Grows (known t2) (known t3) → t3.tags ≡ t2.tags
    → Going t0 t3 d new (exprs (map expr_of (drop (i + 1) items))) all
goes_on t0 t1 t2 t3 d c new items i e j all g next judge more same add grows tags = record {
  grows = grows_then (known t0) (known t2) (known t3) (grows_then (known t0) (known t1) (known t2) g.grows more) grows;
  tags = tags ∙ (same ∙ g.tags);
  so_far = λ s fits.
      let k = g.so_far s fits in
      let h = judge s (fits_kept t0 t1 d s g.grows g.tags fits) in
      let a = add (judged s (expr_of e)) k.xs h (so_far_kept t1 t2 c.refusal c.arguments.items k.xs more k.are) in
      record {
        xs = a.0;
        are = a.1;
        is = k.is ∙ (ap (λ (l : List Expr). behind c.refusal k.xs (all_judged s (exprs (map expr_of l)))) next ∙ a.2 (all_judged s (exprs (map expr_of (drop (i + 1) items)))));
      };
}

pub done : (t0 t1 : Table) (d : Declarations) (c : Collected) (items : List Expr) (i : ℕ) (all : CExprs) (r : Result _ TypeFault) (s : Scope)
    → Going t0 t1 d c (exprs (map expr_of (drop i items))) all → length items ≤ i → Fits t0 d s
    → ((table : Table) (xs : List plain.Operand) → AreSoFar table c.refusal c.arguments.items xs → IsJudged (AreGiven table) r (behind c.refusal xs (Ok [])))
    → IsJudged (AreGiven t1) r (all_judged s all)
done t0 t1 d c items i all r s g past fits judge =
    let k = g.so_far s fits in
    let is : all_judged s all ≡ behind c.refusal k.xs (Ok []) = k.is ∙ ap (λ (l : List Expr). behind c.refusal k.xs (all_judged s (exprs (map expr_of l)))) (drop_all i items past) in
    subst (λ (p : Others). IsJudged (AreGiven t1) r p) (sym is) (judge t1 k.xs k.are)

-- ---- types, the last one first

pub record GoingTypes (old now : Table) (d : Declarations) (at : ℕ) (list : Result ℕ TypeFault) (left : List Ty) : Type 0 where
  pub grows : Grows (known old) (known now)
  pub tags : now.tags ≡ old.tags
  pub are : (s : Scope) → Fits old d s → IsJudged (HasList now) list (parameters s at (tys (map ty_of left)))

abbrev more : ℕ → CType → CTypes → Judged CTypes
more at t ts = after (parameter_type at t) (λ u. Ok (types.MoreType u ts))

pub one_type_more : (t0 t1 t2 t3 : Table) (d : Declarations) (at : ℕ) (list new ty : Result ℕ TypeFault) (t : Ty) (left : List Ty)
    → GoingTypes t0 t1 d at list left
    → ((s : Scope) → Fits t1 d s → IsJudged (HasType t2) ty (written s at (ty_of t))) → Grows (known t1) (known t2) → t2.tags ≡ t1.tags
    → ((p : Judged CType) (q : Judged CTypes) → IsJudged (HasType t2) ty p → IsJudged (HasList t2) list q → IsJudged (HasList t3) new (both p q (more at)))
    → Grows (known t2) (known t3) → t3.tags ≡ t2.tags
    → GoingTypes t0 t3 d at new (t ∷ left)
one_type_more t0 t1 t2 t3 d at list new ty t left g judge grows tags join then_grows then_tags = record {
  grows = grows_then (known t0) (known t2) (known t3) (grows_then (known t0) (known t1) (known t2) g.grows grows) then_grows;
  tags = then_tags ∙ (tags ∙ g.tags);
  are = λ s fits.
      join (written s at (ty_of t)) (parameters s at (tys (map ty_of left)))
      (judge s (fits_kept t0 t1 d s g.grows g.tags fits))
      (list_kept t1 t2 list (parameters s at (tys (map ty_of left))) grows (g.are s fits));
}

-- what is left of a list begins with the element that comes next
pub drop_at : {X : Type 0} (xs : List X) (i : ℕ) (x : X) → i < length xs → x ≡ get_or xs i x → drop i xs ≡ x ∷ drop (i + 1) xs
drop_at xs i x h e = rw (add-one, drop-cons xs i x) (ap (λ y. y ∷ drop (suc i) xs) (sym e))

-- what is left from an element on, counted from the end
pub drop_before : {X : Type 0} (xs : List X) (n k : ℕ) (x : X) → k < n → n ≤ length xs → x ≡ get_or xs (n - 1 - k) x → drop (n - (k + 1)) xs ≡ x ∷ drop (n - k) xs
drop_before xs n k x less within e =
    let i : n - (k + 1) ≡ n - 1 - k = omega arith in
    let j : n - 1 - k + 1 ≡ n - k = omega arith in
    let there : n - 1 - k < length xs = omega arith in
    ap (λ (m : ℕ). drop m xs) i ∙ (drop_at xs (n - 1 - k) x there e ∙ ap (λ (m : ℕ). x ∷ drop m xs) j)
