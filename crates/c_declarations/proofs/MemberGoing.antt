-- Members, one after the other.
use Rattle.std.proofs.Common.{◌≡◌, ℕ, suc, ◌+◌, ◌<◌, ◌≤◌, get_or, drop-cons, add-one, List, [], ◌∷◌, length, map, drop, Option, Some, None, refl, sym, ap, subst, ◌∙◌}
use Rattle.std.specs.Prelude.{Result, Ok, Err}
use Rattle.std.specs.Result.{result_err}
use Rattle.std.proofs.lemmas.List.{drop_all}
use Rattle.c_syntax.specs.Plain.{CDecl}
use Rattle.c_syntax.specs.View.{decl_of, decls_of}
use Rattle.c_syntax.specs.declared.tree.Decl.{Decl}
use Rattle.c_types.specs.declared.fault.TypeFault.{TypeFault}
use Rattle.c_types.specs.Types.{CType}
use Rattle.c_types.specs.Refusals.{Judged}
use Rattle.c_types.specs.Scope.{Scope}
use Rattle.c_types.specs.Declarations as plain
use Rattle.c_types.specs.Declarations.{members_or}
use Rattle.c_types.specs.Known.{Grows}
use Rattle.c_types.specs.Table.{Table, known}
use Rattle.c_layouts.specs.declared.layout.Layout.{Layout}
use Rattle.c_operands.specs.Seen.{IsJudged}
use Rattle.c_operands.proofs.OperandLemmas.{grows_then}
use Rattle.c_operands.specs.Arguments.{merged}
use Rattle.c_operands.specs.declared.declarations.Declarations.{Declarations}
use Rattle.c_declared.specs.Held.{Holds}
use Rattle.c_declared.specs.Told.{told_behind}
use Rattle.c_declared.proofs.HeldLemmas.{holds_kept}
use Rattle.c_declared.proofs.ToldLemmas.{one_behind, behind_together}
use Rattle.c_declarations.specs.declared.members.Members.{Members}
use Rattle.c_declarations.specs.Members.{AreSoFar, IsClosed}
use Rattle.c_declarations.proofs.MemberLemmas.{so_far_kept}

-- the members so far, and the judgement of all by that of those that are left
pub record AreJudged (now : Table) (m : Members) (told : Option TypeFault) (s : Scope) (left all : List CDecl) : Type 0 where
  pub before : List (List ℕ × CType)
  pub are : AreSoFar (known now) s.tags m before
  pub is : plain.members s [] all ≡ told_behind told (plain.members s before left)

pub record Going (old now : Table) (d : Declarations) (m : Members) (told : Option TypeFault) (left all : List CDecl) : Type 0 where
  pub grows : Grows (known old) (known now)
  pub tags : now.tags ≡ old.tags
  pub so_far : (s : Scope) → Holds old d s → AreJudged now m told s left all

pub begun : (table : Table) (d : Declarations) (m : Members) (all : List CDecl) → ((all : _) (tags : _) → AreSoFar all tags m []) → Going table table d m None all all
begun table d m all are = record { grows = λ n k h. h; tags = refl; so_far = λ s holds. record { before = []; are = are (known table) s.tags; is = refl } }

pub goes_on : (t0 t1 t2 : Table) (d : Declarations) (m new : Members) (told r after : Option TypeFault) (items : List Decl) (i : ℕ) (x : Decl) (all : List CDecl)
    → Going t0 t1 d m told (decls_of (drop i items)) all → drop i items ≡ x ∷ drop (i + 1) items
    → ((s : Scope) (before : List (List ℕ × CType)) → Holds t1 d s → AreSoFar (known t1) s.tags m before → r ≡ result_err (plain.member s before (decl_of x)))
    → ((s : Scope) (before : List (List ℕ × CType)) → Holds t1 d s → AreSoFar (known t1) s.tags m before → AreSoFar (known t2) s.tags new (members_or before (plain.member s before (decl_of x))))
    → Grows (known t1) (known t2) → t2.tags ≡ t1.tags → after ≡ merged told r
    → Going t0 t2 d new after (decls_of (drop (i + 1) items)) all
goes_on t0 t1 t2 d m new told r after items i x all g next judge add grows tags is = record {
  grows = grows_then (known t0) (known t1) (known t2) g.grows grows;
  tags = tags ∙ g.tags;
  so_far = λ s holds.
      let k = g.so_far s holds in
      let now = holds_kept t0 t1 d s g.grows g.tags holds in
      let here = plain.member s k.before (decl_of x) in
      let rest = decls_of (drop (i + 1) items) in
      let others = plain.members s (members_or k.before here) rest in
      record {
        before = members_or k.before here;
        are = add s k.before now k.are;
        is =
            k.is
            ∙ (ap (λ (l : List Decl). told_behind told (plain.members s k.before (decls_of l))) next
            ∙ (ap (told_behind told) (one_behind here others)
            ∙ (ap (λ (o : Option TypeFault). told_behind told (told_behind o others)) (sym (judge s k.before now k.are))
            ∙ (behind_together told r others ∙ ap (λ (o : Option TypeFault). told_behind o others) (sym is)))));
      };
}

pub done : (t0 t1 : Table) (d : Declarations) (m : Members) (told : Option TypeFault) (items : List Decl) (i : ℕ) (all : List CDecl) (r : Result Layout TypeFault) (s : Scope)
    → Going t0 t1 d m told (decls_of (drop i items)) all → length items ≤ i → Holds t0 d s
    → ((all : _) (tags : _) (before : List (List ℕ × CType)) → AreSoFar all tags m before → IsJudged (IsClosed all tags) r (told_behind told (Ok before)))
    → IsJudged (IsClosed (known t1) s.tags) r (plain.members s [] all)
done t0 t1 d m told items i all r s g past holds judge =
    let k = g.so_far s holds in
    let is : plain.members s [] all ≡ told_behind told (Ok k.before) = k.is ∙ ap (λ (l : List Decl). told_behind told (plain.members s k.before (decls_of l))) (drop_all i items past) in
    subst (λ (p : Judged (List (List ℕ × CType))). IsJudged (IsClosed (known t1) s.tags) r p) (sym is) (judge (known t1) s.tags k.before k.are)

-- what is left of a list begins with the element that comes next
pub drop_at : {X : Type 0} (xs : List X) (i : ℕ) (x : X) → i < length xs → x ≡ get_or xs i x → drop i xs ≡ x ∷ drop (i + 1) xs
drop_at xs i x h e = rw (add-one, drop-cons xs i x) (ap (λ y. y ∷ drop (suc i) xs) (sym e))
