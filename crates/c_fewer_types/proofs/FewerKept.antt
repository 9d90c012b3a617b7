-- An expression with fewer operators has its string literals.
use Rattle.std.proofs.Common.{◌≡◌, ℕ, List, [], ◌++◌, Option, Some, None, Bool, true, false, refl, sym, ap, ap₂, ◌∙◌, subst}
use Rattle.std.specs.Prelude.{if◌then◌else◌, codes}
use Rattle.std.specs.Str.{bytes_eq}
use Rattle.c_syntax.specs.Plain as plain
use Rattle.c_syntax.specs.Plain.{CExpr, CExprs}
use Rattle.c_syntax.specs.declared.tree.UnOp.TheVariants as unary
use Rattle.c_types.specs.Scope as entity
use Rattle.c_types.specs.Scope.{Scope, Entity, entity_of}
use Rattle.c_types.specs.Expressions.{format_of}
use Rattle.c_eval.specs.Environment.{type_in, value_type_in}
use Rattle.c_eval.specs.LiteralsIn.{is_printf, names_printf, literals_in, literals_in_all, literals_behind}
use Rattle.c_alike.specs.Alike.{EachName, EachNameOf}
use Rattle.c_helpers.specs.Functions.{format_name, put_string, print_format}
use Rattle.c_helpers.specs.Fewer.{sign_of, counts_unsigned, behind_format, named_call, call_tree, fewer, fewer_all}
use Rattle.c_fewer_types.specs.Stands.{function_type, NameStands, ExprStands}
use Rattle.c_fewer_types.specs.FewerLaws.{LiteralsAreKept}
use Rattle.c_fewer_types.proofs.Literals.{called, called_with_one, operator_literals, assigned_literals, step_literals, element_literals, is_var, not_var, other_call}
use Rattle.c_fewer_types.proofs.Names.{operator_names, assignment_names, step_names, element_names}

var_printf : (s : Scope) (f : CExpr) → is_var f ≡ false → names_printf s f ≡ false
var_printf s (plain.Var at name) e = absurd (cc e)
var_printf s f e = refl

module _ (s s' : Scope) where
  abbrev P : List ℕ → Type 0
  P = NameStands s s'

  -- what is to hold of arguments, with and without the first one
  abbrev All : CExprs → Type 0
  All es = EachNameOf P (fewer_all s es) → literals_in_all s' (fewer_all s es) ≡ literals_in_all s es

  abbrev Behind : CExprs → Type 0
  Behind es = EachNameOf P (behind_format (fewer_all s es)) → literals_in_all s' (behind_format (fewer_all s es)) ≡ literals_behind s es

  abbrev BehindAll : CExprs → Type 0
  BehindAll es = EachNameOf P (fewer_all s es) → literals_behind s' (fewer_all s es) ≡ literals_behind s es

  -- a name that isn't that of `printf`
  not_printf : (name : List ℕ) (x : Option Entity) (es : CExprs) → entity_of s name ≡ x → is_printf x ≡ false → P name → All es → EachNameOf P (fewer_all s es)
      → [] ++ (if is_printf (entity_of s' name) then literals_behind s' (fewer_all s es) else literals_in_all s' (fewer_all s es)) ≡ literals_in_all s es
  not_printf name x es e f p all q = ap (λ b. if b then literals_behind s' (fewer_all s es) else literals_in_all s' (fewer_all s es)) (sym p.printf ∙ (ap is_printf e ∙ f)) ∙ all q

  named_kept : (at pos : ℕ) (name : List ℕ) (x : Option Entity) (format : Option (List ℕ)) (es : CExprs) → entity_of s name ≡ x → EachName P (named_call at pos name x format (fewer_all s es)) → All es → Behind es → BehindAll es
      → literals_in s' (named_call at pos name x format (fewer_all s es)) ≡ (if is_printf x then literals_behind s es else literals_in_all s es)
  named_kept at pos name (Some entity.Printf) (Some format) es e p all behind behind_all =
      called s s' (format_name format) (function_type (print_format format)) refl p.0 (behind_format (fewer_all s es)) ∙ behind p.1
  named_kept at pos name (Some entity.Printf) None es e p all behind behind_all =
      ap (λ b. if b then literals_behind s' (fewer_all s es) else literals_in_all s' (fewer_all s es)) (sym p.0.printf ∙ ap is_printf e) ∙ behind_all p.1
  named_kept at pos name (Some (entity.BuiltIn t)) format es e p all behind behind_all = go (bytes_eq name (codes "puts")) p
    where
      go : (b : Bool) → EachName P (plain.Call at (plain.Var pos (if b then put_string.name else name)) (fewer_all s es))
          → literals_in s' (plain.Call at (plain.Var pos (if b then put_string.name else name)) (fewer_all s es)) ≡ literals_in_all s es
      go true p = called s s' put_string.name (function_type put_string) refl p.0 (fewer_all s es) ∙ all p.1
      go false p = not_printf name (Some (entity.BuiltIn t)) es e refl p.0 all p.1
  named_kept at pos name (Some (entity.Object t)) format es e p all behind behind_all = not_printf name (Some (entity.Object t)) es e refl p.0 all p.1
  named_kept at pos name (Some (entity.Routine t begun)) format es e p all behind behind_all = not_printf name (Some (entity.Routine t begun)) es e refl p.0 all p.1
  named_kept at pos name None format es e p all behind behind_all = not_printf name None es e refl p.0 all p.1

  -- a call of what isn't a name
  other_kept : (at : ℕ) (f : CExpr) (es : CExprs) → is_var f ≡ false → ExprStands s s' (plain.Call at f es) → (ExprStands s s' f → literals_in s' (fewer s f) ≡ literals_in s f) → All es → literals_in s' (fewer s (plain.Call at f es)) ≡ literals_in s (plain.Call at f es)
  other_kept at f es v p one all =
      let e : call_tree s at (fewer s f) (format_of es) (fewer_all s es) ≡ plain.Call at (fewer s f) (fewer_all s es) = other_call s at (fewer s f) (format_of es) (fewer_all s es) (not_var s f v) in
      let q : EachName P (plain.Call at (fewer s f) (fewer_all s es)) = subst (EachName P) e p in
      ap (literals_in s') e
      ∙ (ap (λ b. literals_in s' (fewer s f) ++ (if b then literals_behind s' (fewer_all s es) else literals_in_all s' (fewer_all s es))) (var_printf s' (fewer s f) (not_var s f v))
      ∙ (ap₂ (λ x y. x ++ y) (one q.0) (all q.1) ∙ ap (λ b. literals_in s f ++ (if b then literals_behind s es else literals_in_all s es)) (sym (var_printf s f v))))

  call_kept : (at : ℕ) (f : CExpr) (es : CExprs) → ExprStands s s' (plain.Call at f es) → (ExprStands s s' f → literals_in s' (fewer s f) ≡ literals_in s f) → All es → Behind es → BehindAll es → literals_in s' (fewer s (plain.Call at f es)) ≡ literals_in s (plain.Call at f es)
  call_kept at (plain.Var pos name) es p one all behind behind_all = named_kept at pos name (entity_of s name) (format_of es) es refl p all behind behind_all
  call_kept at f es p one all behind behind_all = other_kept at f es refl p one all

  mutual
    kept : (e : CExpr) → ExprStands s s' e → literals_in s' (fewer s e) ≡ literals_in s e
    kept (plain.Number at n unsigned) p = refl
    kept (plain.Str at text) p = refl
    kept (plain.Null at) p = refl
    kept (plain.Var at name) p = refl
    kept (plain.Unary at unary.Invert a) p = called_with_one s s' (codes "~") _ refl p.1.0 (fewer s a) ∙ kept a p.1.1.0
    kept (plain.Unary at op a) p = kept a p
    kept (plain.Step at op a) p = step_literals s s' s.tags at op (type_in s a) (fewer s a) p ∙ kept a (step_names P s.tags at op (type_in s a) (fewer s a) p)
    kept (plain.Binary at op a b) p =
        let sign : Option (List ℕ) = sign_of op (counts_unsigned op (value_type_in s a) (value_type_in s b)) in
        let q = operator_names P s.tags at sign op (type_in s (plain.Binary at op a b)) (value_type_in s a) (value_type_in s b) (fewer s a) (fewer s b) p in
        operator_literals s s' s.tags at op (counts_unsigned op (value_type_in s a) (value_type_in s b)) sign (type_in s (plain.Binary at op a b)) (value_type_in s a) (value_type_in s b) (fewer s a) (fewer s b) refl p
        ∙ ap₂ (λ x y. x ++ y) (kept a q.0) (kept b q.1)
    kept (plain.Assign at None a b) p = ap₂ (λ x y. x ++ y) (kept a p.0) (kept b p.1)
    kept (plain.Assign at (Some op) a b) p =
        let sign : Option (List ℕ) = sign_of op (counts_unsigned op (type_in s a) (value_type_in s b)) in
        let q = assignment_names P s.tags at sign op (type_in s a) (value_type_in s b) (fewer s a) (fewer s b) p in
        assigned_literals s s' s.tags at op (counts_unsigned op (type_in s a) (value_type_in s b)) sign (type_in s a) (value_type_in s b) (fewer s a) (fewer s b) refl p ∙ ap₂ (λ x y. x ++ y) (kept a q.0) (kept b q.1)
    kept (plain.Cond at a b c) p = ap₂ (λ x y. x ++ y) (kept a p.0) (ap₂ (λ x y. x ++ y) (kept b p.1) (kept c p.2))
    kept (plain.Comma at a b) p = ap₂ (λ x y. x ++ y) (kept a p.0) (kept b p.1)
    kept (plain.Cast at t a) p = kept a p.1
    kept (plain.SizeTy at t) p = refl
    kept (plain.SizeOf at a) p = refl
    kept (plain.Index at a b) p =
        let q = element_names P s.tags at (value_type_in s a) (value_type_in s b) (fewer s a) (fewer s b) p in
        element_literals s s' s.tags at (value_type_in s a) (value_type_in s b) (fewer s a) (fewer s b) p ∙ ap₂ (λ x y. x ++ y) (kept a q.0) (kept b q.1)
    kept (plain.Call at f es) p = call_kept at f es p (λ q. kept f q) (λ q. all_kept es q) (λ q. behind_kept es q) (λ q. behind_all_kept es q)
    kept (plain.Member at a m) p = kept a p
    kept (plain.Arrow at a m) p = kept a p

    all_kept : (es : CExprs) → All es
    all_kept plain.NoExpr p = refl
    all_kept (plain.MoreExpr e es) p = ap₂ (λ x y. x ++ y) (kept e p.0) (all_kept es p.1)

    behind_kept : (es : CExprs) → Behind es
    behind_kept plain.NoExpr p = refl
    behind_kept (plain.MoreExpr e es) p = all_kept es p

    behind_all_kept : (es : CExprs) → BehindAll es
    behind_all_kept plain.NoExpr p = refl
    behind_all_kept (plain.MoreExpr e es) p = all_kept es p.1

pub literals_are_kept : LiteralsAreKept
literals_are_kept s s' e p = kept s s' e p
