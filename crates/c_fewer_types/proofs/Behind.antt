-- The scope behind a typed statement is the one that its judgement tells.
use Rattle.std.proofs.Common.{◌≡◌, List, [], ◌∷◌, Option, ap}
use Rattle.std.specs.Prelude.{Ok}
use Rattle.c_syntax.specs.Plain as plain
use Rattle.c_syntax.specs.Plain.{CExpr, CStmt, CStmts, CPart, CParts}
use Rattle.c_types.specs.declared.fault.TypeFault.TheVariants as fault
use Rattle.c_types.specs.Refusals.{Judged, Rule, both, all_three, keeping}
use Rattle.c_types.specs.Scope.{Scope, entered}
use Rattle.c_types.specs.Operands.{Operand}
use Rattle.c_types.specs.Expressions.{judged}
use Rattle.c_types.specs.Declarations.{scope_or}
use Rattle.c_types.specs.Statements.{Around, in_loop, in_switch, condition_rules, test_rules, return_rules, switch_rules, maybe_judged, stated, all_stated, all_parts}
use Rattle.c_types.specs.Census.{scope_behind}
use Rattle.c_fewer_types.proofs.Judged.{keeping_is}
use Rattle.c_fewer_types.proofs.FewerTypedRules.{after_is, both_is, three_is}

abbrev done : Scope → Judged Scope
done s = Ok s

done_is : (x y : Scope) → done x ≡ done y → x ≡ y
done_is x y e = cc e

kept_is : (rules : List Rule) (s r : Scope) → keeping rules s ≡ Ok r → s ≡ r
kept_is rules s r e = (keeping_is {A = Scope} rules s r e).1

other_for : (s : Scope) (w : Around) (head : Judged Scope) (tests : Judged (Option Operand)) (body : Judged Scope) (r : Scope) → all_three head tests body (λ _ a _. keeping (test_rules a) s) ≡ Ok r → s ≡ r
other_for s w head tests body r e = let k = three_is head tests body (λ _ a _. keeping (test_rules a) s) r e in kept_is (test_rules k.1.0) s r k.1.1.4

pub stated_behind : (s : Scope) (w : Around) (t : CStmt) (r : Scope) → stated s w t ≡ Ok r → scope_behind s t ≡ r
stated_behind s w (plain.Block ss) r e = done_is s r (after_is (all_stated (entered s) w ss) (λ _. done s) r e).2
stated_behind s w (plain.Local d) r e = ap (λ q. scope_or s q) e
stated_behind s w (plain.Do_expr x) r e = done_is s r (after_is (judged s x) (λ _. done s) r e).2
stated_behind s w plain.Empty r e = done_is s r e
stated_behind s w (plain.If x t) r e = let k = both_is (judged s x) (stated s w t) (λ a _. keeping (condition_rules a) s) r e in kept_is (condition_rules k.0) s r k.1.3
stated_behind s w (plain.IfElse x t u) r e = let k = three_is (judged s x) (stated s w t) (stated s w u) (λ a _ _. keeping (condition_rules a) s) r e in kept_is (condition_rules k.0) s r k.1.1.4
stated_behind s w (plain.While x t) r e = let k = both_is (judged s x) (stated s (in_loop w) t) (λ a _. keeping (condition_rules a) s) r e in kept_is (condition_rules k.0) s r k.1.3
stated_behind s w (plain.Do t x) r e = let k = both_is (judged s x) (stated s (in_loop w) t) (λ a _. keeping (condition_rules a) s) r e in kept_is (condition_rules k.0) s r k.1.3
stated_behind s w (plain.For (plain.Block ss) test step t) r e =
    let inner : Scope = scope_or s (all_stated (entered s) w ss) in
    other_for s w (all_stated (entered s) w ss) (both {A = Option Operand} {B = Option Operand} (maybe_judged inner test) (maybe_judged inner step) (λ a _. Ok a)) (stated inner (in_loop w) t) r e
stated_behind s w (plain.For first test step t) r e = other_for s w (stated s w first) (both {A = Option Operand} {B = Option Operand} (maybe_judged s test) (maybe_judged s step) (λ a _. Ok a)) (stated s (in_loop w) t) r e
stated_behind s w (plain.Return at x) r e = let k = after_is (maybe_judged s x) (λ o. keeping (return_rules at w.result o) s) r e in kept_is (return_rules at w.result k.0) s r k.2
stated_behind s w (plain.Break at) r e = kept_is ((w.breaks, fault.Mismatch at) ∷ []) s r e
stated_behind s w (plain.Continue at) r e = kept_is ((w.continues, fault.Mismatch at) ∷ []) s r e
stated_behind s w (plain.Switch x ps) r e = let k = both_is (judged s x) (all_parts (entered s) (in_switch w) ps) (λ a labels. keeping (switch_rules a labels) s) r e in kept_is (switch_rules k.0 k.1.0) s r k.1.3
