-- Literals that are passed, one argument after the other.
use Rattle.std.proofs.Common.{◌≡◌, ℕ, ◌+◌, ◌≤◌, Bool, true, false, List, [], ◌∷◌, ◌++◌, length, map, drop, refl, sym, ap, subst, ◌∙◌, length-append, append-nil, append_assoc, if◌then◌else◌, arith}
use Rattle.c_syntax.specs.Plain as tree
use Rattle.c_syntax.specs.Plain.{CExpr, CExprs, exprs}
use Rattle.c_types.specs.Scope.{Scope}
use Rattle.c_eval.specs.LiteralsIn.{literals_in, literals_in_all, literals_behind}
use Rattle.c_types.specs.Table.{Table}
use Rattle.c_operands.specs.declared.declarations.Declarations.{Declarations}
use Rattle.c_operands.specs.Scoped.{Fits}
use Rattle.c_addressing.specs.declared.here.Literals.{Literals}
use Rattle.c_addressing.specs.Here.{IsBehind}
use Rattle.c_addressing.proofs.HereLemmas.{behind_same, behind_then}
use Rattle.c_applied.specs.Calls.{argument_literals, given_literals}

pub both_behind : (a b c : Literals) (xs ys : List (List ℕ)) → IsBehind a b (length xs) → IsBehind b c (length ys) → IsBehind a c (length (xs ++ ys))
both_behind a b c xs ys e f = subst (λ (n : ℕ). IsBehind a c n) (sym (length-append xs ys)) (behind_then a b c (length xs) (length ys) e f)

-- what is left behind the first arguments
pub record Passing (d : Declarations) (from now : Literals) (printed skips : Bool) (all left : CExprs) : Type 0 where
  pub so_far : (table : Table) (s : Scope) → Fits table d s → (xs : List (List ℕ)) × IsBehind from now (length xs) × (given_literals printed s all ≡ xs ++ given_literals skips s left)

pub none_passed : (d : Declarations) (from : Literals) (printed : Bool) (all left : CExprs) → all ≡ left → Passing d from from printed printed all left
none_passed d from printed all left same = record { so_far = λ table s fits. ([], behind_same from, ap (given_literals printed s) same) }

one_passed : (skips : Bool) (s : Scope) (e : CExpr) (es : CExprs) → given_literals skips s (tree.MoreExpr e es) ≡ argument_literals skips s e ++ given_literals false s es
one_passed true s e es = refl
one_passed false s e es = refl

pub more_passed : (d : Declarations) (from now new : Literals) (printed skips : Bool) (all left : CExprs) (e : CExpr) (rest : CExprs) → Passing d from now printed skips all left → left ≡ tree.MoreExpr e rest
    → ((table : Table) (s : Scope) → Fits table d s → IsBehind now new (length (argument_literals skips s e))) → Passing d from new printed false all rest
more_passed d from now new printed skips all left e rest g next one = record {
  so_far = λ table s fits.
      let k = g.so_far table s fits in
      let xs = argument_literals skips s e in
      (k.0 ++ xs, both_behind from now new k.0 xs k.1 (one table s fits), k.2 ∙ (ap (λ (es : CExprs). k.0 ++ given_literals skips s es) next ∙ (ap (λ (l : List (List ℕ)). k.0 ++ l) (one_passed skips s e rest) ∙ sym (append_assoc k.0 xs (given_literals false s rest)))));
}

none_left : (skips : Bool) (s : Scope) → given_literals skips s tree.NoExpr ≡ []
none_left true s = refl
none_left false s = refl

pub all_passed : (d : Declarations) (from now : Literals) (printed skips : Bool) (all left : CExprs) → Passing d from now printed skips all left → left ≡ tree.NoExpr → (table : Table) (s : Scope) → Fits table d s → IsBehind from now (length (given_literals printed s all))
all_passed d from now printed skips all left g end table s fits =
    let k = g.so_far table s fits in
    subst (λ (l : List (List ℕ)). IsBehind from now (length l)) (sym (k.2 ∙ (ap (λ (es : CExprs). k.0 ++ given_literals skips s es) end ∙ (ap (λ (l : List (List ℕ)). k.0 ++ l) (none_left skips s) ∙ append-nil k.0)))) k.1
