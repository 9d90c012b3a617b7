-- Trees that are copied one after the other.
use Rattle.std.proofs.Common.{◌≡◌, ◌≤◌, ◌+◌, ℕ, List, [], ◌∷◌, ◌++◌, length, map, drop, sym, ap, ◌∙◌, append-nil, append_assoc}
use Rattle.std.specs.Prelude.{Result, Ok, Err, IfOk}
use Rattle.std.proofs.lemmas.List.{drop_all, map-append}
use Rattle.c_syntax.specs.Plain.{CExpr, CTy}
use Rattle.c_syntax.specs.View.{expr_of, ty_of}
use Rattle.c_syntax.specs.declared.tree.Expr.{Expr}
use Rattle.c_syntax.specs.declared.tree.Ty.{Ty}

-- a tree that is made is another one, if the two are equal
pub made : {E : Type 0} (r : Result Expr E) (a b : CExpr) → a ≡ b → IfOk r (λ e. expr_of e ≡ a) → IfOk r (λ e. expr_of e ≡ b)
made (Ok e) a b same h = h ∙ same
made (Err x) a b same h = tt

pub type_made : {E : Type 0} (r : Result Ty E) (a b : CTy) → a ≡ b → IfOk r (λ t. ty_of t ≡ a) → IfOk r (λ t. ty_of t ≡ b)
type_made (Ok t) a b same h = h ∙ same
type_made (Err x) a b same h = tt

module _ {A X : Type 0} (f : X → A) where
  -- the copies of the first ones, and the others
  pub one_copied : (copies new items : List X) (i : ℕ) (e x : X) → map f copies ++ map f (drop i items) ≡ map f items → drop i items ≡ e ∷ drop (i + 1) items → f x ≡ f e → new ≡ copies ++ x ∷ []
      → map f new ++ map f (drop (i + 1) items) ≡ map f items
  one_copied copies new items i e x so_far next same put =
      let rest = map f (drop (i + 1) items) in
      ap (λ (l : List X). map f l ++ rest) put
      ∙ (ap (λ (l : List A). l ++ rest) (map-append f copies (x ∷ []))
      ∙ (append_assoc (map f copies) (f x ∷ []) rest
      ∙ (ap (λ (y : A). map f copies ++ y ∷ rest) same
      ∙ (ap (λ (l : List X). map f copies ++ map f l) (sym next) ∙ so_far))))

  pub all_copied : (copies items : List X) (i : ℕ) → map f copies ++ map f (drop i items) ≡ map f items → length items ≤ i → map f copies ≡ map f items
  all_copied copies items i so_far past = sym (append-nil (map f copies)) ∙ (ap (λ (l : List X). map f copies ++ map f l) (sym (drop_all i items past)) ∙ so_far)

  pub none_copied : (copies items : List X) → copies ≡ [] → map f copies ++ map f items ≡ map f items
  none_copied copies items none = ap (λ (l : List X). map f l ++ map f items) none
