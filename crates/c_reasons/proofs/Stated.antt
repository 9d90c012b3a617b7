-- Statements, functions and whole texts.
use Rattle.std.proofs.Common.{◌≢◌, ℕ, List, [], ◌∷◌, Option, Some, None, Ok, Err}
use Rattle.std.specs.Option.{option_map_or}
use Rattle.c_syntax.specs.Plain as plain
use Rattle.c_syntax.specs.Plain.{CExpr, CTy, CStmt, CStmts, CPart, CParts, CDecl, CItem, CUnit}
use Rattle.c_types.specs.declared.fault.TypeFault.TheVariants as fault
use Rattle.c_types.specs.Types.{CType}
use Rattle.c_types.specs.Refusals.{Judged, both, all_three, keeping}
use Rattle.c_types.specs.Constants.{Constant, NotConstant, Undefined, Value}
use Rattle.c_types.specs.Scope.{Scope, entered}
use Rattle.c_types.specs.Operands.{Operand}
use Rattle.c_types.specs.Expressions as expressions
use Rattle.c_types.specs.Expressions.{judged, written}
use Rattle.c_types.specs.Declarations.{scope_or}
use Rattle.c_types.specs.Statements as statements
use Rattle.c_types.specs.Statements.{Around, in_loop, in_switch, CaseLabel, maybe_judged, stated, all_stated, part_judged, part_scope_or, all_parts}
use Rattle.c_types.specs.Units as units
use Rattle.c_types.specs.Units.{Signature}
use Rattle.c_types.specs.Limits.{answer_to}
use Rattle.c_reasons.proofs.Reasons.{twice, mismatch, no_main, too_large, HasReason, fine, refuses, HaveReasons, after_has, both_have, three_have, keeping_has, keeping_one, keeping_two, keeping_more, joined_have, not_memory}
use Rattle.c_reasons.proofs.Judged.{judged_has, written_has, parameter_has}
use Rattle.c_reasons.proofs.Declared.{declared_has, tag_has}

maybe_has : (s : Scope) (e : Option CExpr) → HasReason (maybe_judged s e)
maybe_has s None = fine _
maybe_has s (Some e) = after_has (judged s e) _ (judged_has s e) (λ a. fine _)

tests_have : (s : Scope) (test step : Option CExpr) → HasReason (both (maybe_judged s test) (maybe_judged s step) (λ a _. Ok a))
tests_have s test step = both_have (maybe_judged s test) (maybe_judged s step) _ (maybe_has s test) (maybe_has s step) (λ a b. fine _)

test_rules_have : (o : Option Operand) → HaveReasons (statements.test_rules o)
test_rules_have None = tt
test_rules_have (Some a) = (mismatch a.pos, tt)

return_rules_have : (at : ℕ) (t : CType) (o : Option Operand) → HaveReasons (statements.return_rules at t o)
return_rules_have at t None = (mismatch at, tt)
return_rules_have at t (Some a) = (mismatch at, tt)

case_rules_have : (at : ℕ) (c : Constant) → HaveReasons (statements.case_rules at c)
case_rules_have at NotConstant = (mismatch at, tt)
case_rules_have at (Undefined pos) = (mismatch pos, tt)
case_rules_have at (Value word) = tt

label_by : (l : Option Operand) → HaveReasons (option_map_or (λ a. statements.case_rules a.pos a.constant) l [])
label_by None = tt
label_by (Some a) = case_rules_have a.pos a.constant

labels_have : (before ls : List CaseLabel) → HaveReasons (statements.labels_rules before ls)
labels_have before [] = tt
labels_have before (l ∷ ls) = joined_have (statements.label_rules before l) (statements.labels_rules (l ∷ before) ls) (twice l.pos, label_by l.value) (labels_have (l ∷ before) ls)

-- a `for` whose head is no block
for_has : (s : Scope) (w : Around) (first : CStmt) (test step : Option CExpr) (t : CStmt) → HasReason (stated s w first) → HasReason (stated s (in_loop w) t)
    → HasReason (all_three (stated s w first) (both (maybe_judged s test) (maybe_judged s step) (λ a _. Ok a)) (stated s (in_loop w) t) (λ _ a _. keeping (statements.test_rules a) s))
for_has s w first test step t h k = three_have _ _ _ _ h (tests_have s test step) k (λ r a q. keeping_has (statements.test_rules a) _ (test_rules_have a))

mutual
  stated_has : (s : Scope) (w : Around) (t : CStmt) → HasReason (stated s w t)
  stated_has s w (plain.Block ss) = after_has (all_stated (entered s) w ss) _ (all_stated_have (entered s) w ss) (λ r. fine _)
  stated_has s w (plain.Local d) = declared_has s _ d
  stated_has s w (plain.Do_expr e) = after_has (judged s e) _ (judged_has s e) (λ a. fine _)
  stated_has s w plain.Empty = fine _
  stated_has s w (plain.If e t) = both_have (judged s e) (stated s w t) _ (judged_has s e) (stated_has s w t) (λ a r. keeping_one _ _ _ (mismatch a.pos))
  stated_has s w (plain.IfElse e t u) =
      three_have (judged s e) (stated s w t) (stated s w u) _ (judged_has s e) (stated_has s w t) (stated_has s w u) (λ a r q. keeping_one _ _ _ (mismatch a.pos))
  stated_has s w (plain.While e t) = both_have (judged s e) (stated s (in_loop w) t) _ (judged_has s e) (stated_has s (in_loop w) t) (λ a r. keeping_one _ _ _ (mismatch a.pos))
  stated_has s w (plain.Do t e) = both_have (judged s e) (stated s (in_loop w) t) _ (judged_has s e) (stated_has s (in_loop w) t) (λ a r. keeping_one _ _ _ (mismatch a.pos))
  stated_has s w (plain.For (plain.Block ss) test step t) =
      let inner = scope_or s (all_stated (entered s) w ss) in
      three_have (all_stated (entered s) w ss) (both (maybe_judged inner test) (maybe_judged inner step) (λ a _. Ok a)) (stated inner (in_loop w) t) _
      (all_stated_have (entered s) w ss) (tests_have inner test step) (stated_has inner (in_loop w) t) (λ r a q. keeping_has (statements.test_rules a) _ (test_rules_have a))
  stated_has s w (plain.For (plain.Local d) test step t) = for_has s w (plain.Local d) test step t (stated_has s w (plain.Local d)) (stated_has s (in_loop w) t)
  stated_has s w (plain.For (plain.Do_expr e) test step t) = for_has s w (plain.Do_expr e) test step t (stated_has s w (plain.Do_expr e)) (stated_has s (in_loop w) t)
  stated_has s w (plain.For plain.Empty test step t) = for_has s w plain.Empty test step t (stated_has s w plain.Empty) (stated_has s (in_loop w) t)
  stated_has s w (plain.For (plain.If e u) test step t) = for_has s w (plain.If e u) test step t (stated_has s w (plain.If e u)) (stated_has s (in_loop w) t)
  stated_has s w (plain.For (plain.IfElse e u v) test step t) = for_has s w (plain.IfElse e u v) test step t (stated_has s w (plain.IfElse e u v)) (stated_has s (in_loop w) t)
  stated_has s w (plain.For (plain.While e u) test step t) = for_has s w (plain.While e u) test step t (stated_has s w (plain.While e u)) (stated_has s (in_loop w) t)
  stated_has s w (plain.For (plain.Do u e) test step t) = for_has s w (plain.Do u e) test step t (stated_has s w (plain.Do u e)) (stated_has s (in_loop w) t)
  stated_has s w (plain.For (plain.For first also more u) test step t) = for_has s w (plain.For first also more u) test step t (stated_has s w (plain.For first also more u)) (stated_has s (in_loop w) t)
  stated_has s w (plain.For (plain.Return at e) test step t) = for_has s w (plain.Return at e) test step t (stated_has s w (plain.Return at e)) (stated_has s (in_loop w) t)
  stated_has s w (plain.For (plain.Break at) test step t) = for_has s w (plain.Break at) test step t (stated_has s w (plain.Break at)) (stated_has s (in_loop w) t)
  stated_has s w (plain.For (plain.Continue at) test step t) = for_has s w (plain.Continue at) test step t (stated_has s w (plain.Continue at)) (stated_has s (in_loop w) t)
  stated_has s w (plain.For (plain.Switch e ps) test step t) = for_has s w (plain.Switch e ps) test step t (stated_has s w (plain.Switch e ps)) (stated_has s (in_loop w) t)
  stated_has s w (plain.Return at e) = after_has (maybe_judged s e) _ (maybe_has s e) (λ a. keeping_has (statements.return_rules at w.result a) _ (return_rules_have at w.result a))
  stated_has s w (plain.Break at) = keeping_one _ _ _ (mismatch at)
  stated_has s w (plain.Continue at) = keeping_one _ _ _ (mismatch at)
  stated_has s w (plain.Switch e ps) =
      both_have (judged s e) (all_parts (entered s) (in_switch w) ps) _ (judged_has s e) (all_parts_have (entered s) (in_switch w) ps) (λ a labels. keeping_more _ _ (statements.labels_rules [] labels) _ (mismatch a.pos) (labels_have [] labels))

  all_stated_have : (s : Scope) (w : Around) (ss : CStmts) → HasReason (all_stated s w ss)
  all_stated_have s w plain.NoStmt = fine _
  all_stated_have s w (plain.MoreStmt t ts) = both_have (stated s w t) (all_stated (scope_or s (stated s w t)) w ts) _ (stated_has s w t) (all_stated_have (scope_or s (stated s w t)) w ts) (λ r inner. fine _)

  part_has : (s : Scope) (w : Around) (p : CPart) → HasReason (part_judged s w p)
  part_has s w (plain.Label at e) = after_has (maybe_judged s e) _ (maybe_has s e) (λ a. fine _)
  part_has s w (plain.Item t) = after_has (stated s w t) _ (stated_has s w t) (λ inner. fine _)

  all_parts_have : (s : Scope) (w : Around) (ps : CParts) → HasReason (all_parts s w ps)
  all_parts_have s w plain.NoPart = fine _
  all_parts_have s w (plain.MorePart p ps) = both_have (part_judged s w p) (all_parts (part_scope_or s (part_judged s w p)) w ps) _ (part_has s w p) (all_parts_have (part_scope_or s (part_judged s w p)) w ps) (λ part labels. fine _)

-- ---- functions and whole texts

declared_parameter_has : (s : Scope) (p : CDecl) → HasReason (units.declared_parameter s p)
declared_parameter_has s p = after_has (written s p.pos p.ty) _ (written_has s p.pos p.ty) (λ t. parameter_has p.pos t)

one_parameter_has : (s : Scope) (p : CDecl) → HasReason (units.parameter s p)
one_parameter_has s p = after_has (units.declared_parameter s p) _ (declared_parameter_has s p) (λ t. keeping_two _ _ _ _ _ (twice p.pos) (mismatch p.pos))

all_parameters_have : (s : Scope) (ps : List CDecl) → HasReason (units.all_parameters s ps)
all_parameters_have s [] = fine _
all_parameters_have s (p ∷ ps) =
    both_have (units.parameter s p) (units.all_parameters (units.parameter_scope_or s (units.parameter s p)) ps) _ (one_parameter_has s p) (all_parameters_have (units.parameter_scope_or s (units.parameter s p)) ps) (λ first rest. fine _)

result_has : (s : Scope) (at : ℕ) (t : CTy) → HasReason (units.result_type s at t)
result_has s at t = after_has (written s at t) _ (written_has s at t) (λ u. keeping_one _ _ _ (mismatch at))

signature_has : (s : Scope) (at : ℕ) (result : CTy) (params : List CDecl) → HasReason (units.signature s at result params)
signature_has s at result params =
    both_have (units.result_type s at result) (units.all_parameters (entered s) params) _ (result_has s at result) (all_parameters_have (entered s) params) (λ t ps. fine _)

body_has : (s : Scope) (w : Around) (body : Option CStmt) → HasReason (units.body_judged s w body)
body_has s w None = fine _
body_has s w (Some (plain.Block ss)) = all_stated_have s w ss
body_has s w (Some (plain.Local d)) = stated_has s w (plain.Local d)
body_has s w (Some (plain.Do_expr e)) = stated_has s w (plain.Do_expr e)
body_has s w (Some plain.Empty) = stated_has s w plain.Empty
body_has s w (Some (plain.If e u)) = stated_has s w (plain.If e u)
body_has s w (Some (plain.IfElse e u v)) = stated_has s w (plain.IfElse e u v)
body_has s w (Some (plain.While e u)) = stated_has s w (plain.While e u)
body_has s w (Some (plain.Do u e)) = stated_has s w (plain.Do u e)
body_has s w (Some (plain.For first also more u)) = stated_has s w (plain.For first also more u)
body_has s w (Some (plain.Return at e)) = stated_has s w (plain.Return at e)
body_has s w (Some (plain.Break at)) = stated_has s w (plain.Break at)
body_has s w (Some (plain.Continue at)) = stated_has s w (plain.Continue at)
body_has s w (Some (plain.Switch e ps)) = stated_has s w (plain.Switch e ps)

function_has : (s : Scope) (name : List ℕ) (at : ℕ) (body : Option CStmt) (f : Signature) → HasReason (units.declared_function s name at body f)
function_has s name at body f = after_has (units.body_judged (units.body_scope s name f) (units.around_body f) body) _ (body_has _ _ body) (λ r. keeping_one _ _ _ (twice at))

item_has : (s : Scope) (item : CItem) → HasReason (units.item_judged s item)
item_has s (plain.StructItem tag) = tag_has s tag
item_has s (plain.Object d) = declared_has s _ d
item_has s (plain.Function name at result params body) = after_has (units.signature s at result params) _ (signature_has s at result params) (λ f. function_has s name at body f)

all_items_have : (s : Scope) (items : List CItem) → HasReason (units.all_items s items)
all_items_have s [] = fine _
all_items_have s (item ∷ items) = both_have (units.item_judged s item) (units.all_items (scope_or s (units.item_judged s item)) items) _ (item_has s item) (all_items_have (scope_or s (units.item_judged s item)) items) (λ r inner. fine _)

unit_has : (u : CUnit) → HasReason (units.unit_judged u)
unit_has u = after_has (units.all_items (units.start_scope u) u.items) _ (all_items_have _ u.items) (λ s. keeping_one _ _ _ (no_main u.end))

answer_has : (u : CUnit) → HasReason (answer_to u)
answer_has u = after_has (units.unit_judged u) _ (unit_has u) (λ s. keeping_one _ _ _ too_large)

pub units_have_reasons : (u : CUnit) → answer_to u ≢ Err fault.Memory
units_have_reasons u = not_memory (answer_to u) (answer_has u)
