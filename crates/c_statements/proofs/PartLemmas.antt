-- Parts of a `switch` that are judged one after the other.
use Rattle.std.proofs.Common.{◌≡◌, ℕ, ◌+◌, ◌≤◌, List, [], ◌∷◌, ◌++◌, length, map, drop, Option, Some, None, refl, sym, ap, subst, ◌∙◌, append_assoc, append-nil}
use Rattle.std.specs.Prelude.{Ok, Err}
use Rattle.std.specs.Result.{result_err}
use Rattle.std.proofs.lemmas.List.{drop_all}
use Rattle.c_syntax.specs.Plain.{CParts, parts}
use Rattle.c_syntax.specs.View.{part_of}
use Rattle.c_syntax.specs.declared.tree.Part.{Part}
use Rattle.c_types.specs.declared.fault.TypeFault.{TypeFault}
use Rattle.c_types.specs.Refusals.{Judged, after, both}
use Rattle.c_types.specs.Scope.{Scope}
use Rattle.c_types.specs.Declarations.{scope_or}
use Rattle.c_types.specs.Operands.{Operand}
use Rattle.c_types.specs.Statements as plain
use Rattle.c_types.specs.Statements.{CaseLabel, PartJudged, part_judged, all_parts, part_scope_or, labels_rules}
use Rattle.c_types.specs.Known.{Grows}
use Rattle.c_types.specs.Table.{Table, known}
use Rattle.c_operands.proofs.OperandLemmas.{grows_then}
use Rattle.c_operands.specs.Arguments.{merged}
use Rattle.c_operands.specs.declared.declarations.Declarations.{Declarations}
use Rattle.c_declared.specs.Held.{Holds, IsAround}
use Rattle.c_declared.specs.Told.{told_behind}
use Rattle.c_declared.proofs.ToldLemmas.{behind_together}
use Rattle.c_conditions.specs.declared.around.Around.{Around}
use Rattle.c_conditions.specs.declared.labels.Labels.{Labels}
use Rattle.c_conditions.specs.Cases.{AreLabels, labels_in}
use Rattle.c_conditions.specs.Standing.{StandsIn}
use Rattle.c_conditions.specs.Told.{Tested, IsTested}
use Rattle.c_statements.proofs.GoingLemmas.{around_then, unchanged, stands_kept}

-- the labels of the parts that are left, behind others
abbrev with_labels : List CaseLabel → Judged (List CaseLabel) → Judged (List CaseLabel)
with_labels before others = after others (λ ls. Ok (before ++ ls))

-- a part that is a statement, by what that is
abbrev pub item_judged : Judged Scope → Judged PartJudged
item_judged p = after p (λ inner. Ok (record { scope = inner; labels = [] }))

abbrev part_then : Judged PartJudged → Judged (List CaseLabel) → Judged (List CaseLabel)
part_then p others = both p others (λ part labels. Ok (part.labels ++ labels))

-- the labels of the first parts, what is told of them, and the scope behind them
pub record ArePartsBehind (table : Table) (d : Declarations) (labels : Labels) (told : Option TypeFault) (s : Scope) (w : plain.Around) (left all : CParts) : Type 0 where
  pub scope : Scope
  pub before : List CaseLabel
  pub holds : Holds table d scope
  pub are : AreLabels labels before
  pub is : all_parts s w all ≡ told_behind told (with_labels before (all_parts scope w left))

pub record GoingParts (t0 t1 : Table) (c d : Declarations) (a : Around) (labels : Labels) (told : Option TypeFault) (left all : CParts) : Type 0 where
  pub grows : Grows (known t0) (known t1)
  pub tags : t1.tags ≡ t0.tags
  pub around : IsAround c d
  pub so_far : (s : Scope) (w : plain.Around) → Holds t0 c s → StandsIn t0 a w → ArePartsBehind t1 d labels told s w left all

no_labels : (others : Judged (List CaseLabel)) → others ≡ with_labels [] others
no_labels (Ok ls) = refl
no_labels (Err e) = refl

pub parts_begun : (table : Table) (d : Declarations) (a : Around) (labels : Labels) (all : CParts) → AreLabels labels [] → GoingParts table table d d a labels None all all
parts_begun table d a labels all none = record {
  grows = λ n k h. h;
  tags = refl;
  around = unchanged d;
  so_far = λ s w holds stands. record { scope = s; before = []; holds = holds; are = none; is = no_labels (all_parts s w all) };
}

-- a part and those behind it
one_part : (before : List CaseLabel) (p : Judged PartJudged) (others : Judged (List CaseLabel)) → with_labels before (part_then p others) ≡ told_behind (result_err p) (with_labels (before ++ labels_in p) others)
one_part before (Ok part) (Ok ls) = ap (λ (all : List CaseLabel). Ok all) (sym (append_assoc before part.labels ls))
one_part before (Ok part) (Err e) = refl
one_part before (Err d) (Ok ls) = refl
one_part before (Err d) (Err e) = refl

pub part_goes_on : (t0 t1 t2 : Table) (c d e : Declarations) (a : Around) (labels new : Labels) (told fault next : Option TypeFault) (items : List Part) (i : ℕ) (x : Part) (all : CParts)
    → GoingParts t0 t1 c d a labels told (parts (map part_of (drop i items))) all → drop i items ≡ x ∷ drop (i + 1) items
    → ((s : Scope) (w : plain.Around) → Holds t1 d s → StandsIn t1 a w → fault ≡ result_err (part_judged s w (part_of x)))
    → ((s : Scope) (w : plain.Around) (ls : List CaseLabel) → Holds t1 d s → StandsIn t1 a w → AreLabels labels ls → AreLabels new (ls ++ labels_in (part_judged s w (part_of x))))
    → ((s : Scope) (w : plain.Around) → Holds t1 d s → StandsIn t1 a w → Holds t2 e (part_scope_or s (part_judged s w (part_of x))))
    → Grows (known t1) (known t2) → t2.tags ≡ t1.tags → IsAround d e → next ≡ merged told fault
    → GoingParts t0 t2 c e a new next (parts (map part_of (drop (i + 1) items))) all
part_goes_on t0 t1 t2 c d e a labels new told fault next items i x all g cut judge label holds more same around is = record {
  grows = grows_then (known t0) (known t1) (known t2) g.grows more;
  tags = same ∙ g.tags;
  around = around_then c d e g.around around;
  so_far = λ s w h stands.
      let k = g.so_far s w h stands in
      let at = stands_kept t0 t1 a w g.grows stands in
      let p = part_judged k.scope w (part_of x) in
      let others = all_parts (part_scope_or k.scope p) w (parts (map part_of (drop (i + 1) items))) in
      let rest = with_labels (k.before ++ labels_in p) others in
      record {
        scope = part_scope_or k.scope p;
        before = k.before ++ labels_in p;
        holds = holds k.scope w k.holds at;
        are = label k.scope w k.before k.holds at k.are;
        is =
            k.is
            ∙ (ap (λ (l : List Part). told_behind told (with_labels k.before (all_parts k.scope w (parts (map part_of l))))) cut
            ∙ (ap (told_behind told) (one_part k.before p others)
            ∙ (behind_together told (result_err p) rest
            ∙ ap (λ (o : Option TypeFault). told_behind o rest) (ap (merged told) (sym (judge k.scope w k.holds at)) ∙ sym is))));
      };
}

told_labels : (told : Option TypeFault) (ls : List CaseLabel) (p : Judged (List CaseLabel)) (labels : Labels) (r : Tested) → p ≡ told_behind told (Ok ls) → AreLabels labels ls
    → ((ls : List CaseLabel) → told ≡ None → AreLabels labels ls → IsTested (labels_rules []) r (Ok ls))
    → ((e : TypeFault) (p : Judged (List CaseLabel)) → told ≡ Some e → p ≡ Err e → IsTested (labels_rules []) r p)
    → IsTested (labels_rules []) r p
told_labels None ls p labels r is are none some = subst (λ (q : Judged (List CaseLabel)). IsTested (labels_rules []) r q) (sym is) (none ls refl are)
told_labels (Some e) ls p labels r is are none some = some e p refl is

pub parts_done : (table : Table) (d : Declarations) (labels : Labels) (told : Option TypeFault) (s : Scope) (w : plain.Around) (items : List Part) (i : ℕ) (all : CParts) (r : Tested)
    → ArePartsBehind table d labels told s w (parts (map part_of (drop i items))) all → length items ≤ i
    → ((ls : List CaseLabel) → told ≡ None → AreLabels labels ls → IsTested (labels_rules []) r (Ok ls))
    → ((e : TypeFault) (p : Judged (List CaseLabel)) → told ≡ Some e → p ≡ Err e → IsTested (labels_rules []) r p)
    → IsTested (labels_rules []) r (all_parts s w all)
parts_done table d labels told s w items i all r k past none some =
    told_labels told k.before (all_parts s w all) labels r
    (k.is
    ∙ (ap (λ (l : List Part). told_behind told (with_labels k.before (all_parts k.scope w (parts (map part_of l))))) (drop_all i items past)
    ∙ ap (λ (ls : List CaseLabel). told_behind told (Ok ls)) (append-nil k.before)))
    k.are none some

-- ---- one part

pub item_told : (p : Judged Scope) → result_err (item_judged p) ≡ result_err p
item_told (Ok inner) = refl
item_told (Err e) = refl

pub item_labels : (p : Judged Scope) (ls : List CaseLabel) → ls ++ labels_in (item_judged p) ≡ ls
item_labels (Ok inner) ls = append-nil ls
item_labels (Err e) ls = append-nil ls

pub item_scope : (s : Scope) (p : Judged Scope) → part_scope_or s (item_judged p) ≡ scope_or s p
item_scope s (Ok inner) = refl
item_scope s (Err e) = refl

pub label_scope : (s : Scope) (at : ℕ) (p : Judged (Option Operand)) → part_scope_or s (after p (λ a. Ok (record { scope = s; labels = record { pos = at; value = a } ∷ [] }))) ≡ s
label_scope s at (Ok a) = refl
label_scope s at (Err e) = refl
