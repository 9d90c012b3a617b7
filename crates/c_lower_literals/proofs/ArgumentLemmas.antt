-- Texts of arguments and of values, one after the other.
use Rattle.std.proofs.Common.{◌≡◌, ℕ, Bool, true, false, List, [], ◌++◌, refl, sym, ap, ◌∙◌, append_assoc, append-nil}
use Rattle.c_syntax.specs.Plain as tree
use Rattle.c_syntax.specs.Plain.{CExpr, CExprs}
use Rattle.c_types.specs.Scope.{Scope}
use Rattle.c_types.specs.Table.{Table}
use Rattle.c_operands.specs.declared.declarations.Declarations.{Declarations}
use Rattle.c_operands.specs.Scoped.{Fits}
use Rattle.c_applied.specs.Calls.{argument_literals, given_literals}
use Rattle.c_lower_literals.specs.Gathered.{Adds}
use Rattle.c_lower_literals.proofs.GatherLemmas.{Texts, none_added, adds_then, adds_same}

-- in the scope of what is declared, the literals so far and those that are left are those of all
pub record Adding (d : Declarations) (xs ys : Texts) (left all : Scope → List (List ℕ)) : Type 0 where
  pub so_far : (table : Table) (s : Scope) → Fits table d s → (ls : List (List ℕ)) × Adds xs ys ls × (all s ≡ ls ++ left s)

pub none_yet : (d : Declarations) (xs : Texts) (left all : Scope → List (List ℕ)) → ((s : Scope) → all s ≡ left s) → Adding d xs xs left all
none_yet d xs left all same = record { so_far = λ table s fits. ([], none_added xs, same s) }

pub one_more : {d : Declarations} {xs ys zs : Texts} (left one rest all : Scope → List (List ℕ)) → Adding d xs ys left all → ((s : Scope) → left s ≡ one s ++ rest s) → ((table : Table) (s : Scope) → Fits table d s → Adds ys zs (one s)) → Adding d xs zs rest all
one_more left one rest all g parts adds = record {
  so_far = λ table s fits.
      let k = g.so_far table s fits in
      (k.0 ++ one s, adds_then k.1 (adds table s fits), k.2 ∙ (ap (λ (l : List (List ℕ)). k.0 ++ l) (parts s) ∙ sym (append_assoc k.0 (one s) (rest s))));
}

pub all_added : {d : Declarations} {xs ys : Texts} (left all : Scope → List (List ℕ)) → Adding d xs ys left all → ((s : Scope) → left s ≡ []) → (table : Table) (s : Scope) → Fits table d s → Adds xs ys (all s)
all_added left all g none table s fits =
    let k = g.so_far table s fits in
    adds_same (sym (k.2 ∙ (ap (λ (l : List (List ℕ)). k.0 ++ l) (none s) ∙ append-nil k.0))) k.1

-- ---- arguments

pub one_given : (skips : Bool) (s : Scope) (e : CExpr) (es : CExprs) → given_literals skips s (tree.MoreExpr e es) ≡ argument_literals skips s e ++ given_literals false s es
one_given true s e es = refl
one_given false s e es = refl

pub none_given : (skips : Bool) (s : Scope) → given_literals skips s tree.NoExpr ≡ []
none_given true s = refl
none_given false s = refl
