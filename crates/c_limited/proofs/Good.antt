-- What is judged without a refusal, and the scope behind it.
use Rattle.std.proofs.Common.{◌≡◌, List, [], ◌∷◌, Option, Some, None, refl}
use Rattle.std.specs.Prelude.{Ok, Err}
use Rattle.std.specs.Option.{option_map_or}
use Rattle.c_syntax.specs.Plain as plain
use Rattle.c_syntax.specs.Plain.{CExpr, CStmt, CStmts}
use Rattle.c_types.specs.declared.fault.TypeFault.{TypeFault}
use Rattle.c_types.specs.declared.fault.TypeFault.TheVariants as fault
use Rattle.c_types.specs.Refusals.{Judged, Rule, after, both, all_three, broken, keeping}
use Rattle.c_types.specs.Scope.{Scope, entered}
use Rattle.c_types.specs.Operands.{Operand}
use Rattle.c_types.specs.Expressions.{judged}
use Rattle.c_types.specs.Declarations.{scope_or}
use Rattle.c_types.specs.Census.{scope_behind}
use Rattle.c_types.specs.Statements.{Around, in_loop, in_switch, condition_rules, maybe_judged, test_rules, return_rules, switch_rules, stated, all_stated, all_parts}

-- it isn't refused
abbrev pub Good : {A : Type 0} → Judged A → Type 0
Good (Ok a) = Unit {0}
Good (Err e) = ⊥

pub record Fine {A : Type 0} (r : Judged A) : Type 0 where
  pub good : Good r

pub after_fine : {A B : Type 0} (r : Judged A) (f : A → Judged B) → Fine (after r f) → Fine r
after_fine (Ok a) f g = record { good = tt }
after_fine (Err e) f g = absurd g.good

pub both_fine : {A B C : Type 0} (r : Judged A) (q : Judged B) (f : A → B → Judged C) → Fine (both r q f) → Fine r × Fine q
both_fine (Ok a) (Ok b) f g = (record { good = tt }, record { good = tt })
both_fine (Ok a) (Err e) f g = absurd g.good
both_fine (Err d) (Ok b) f g = absurd g.good
both_fine (Err d) (Err e) f g = absurd g.good

pub three_fine : {A B C D : Type 0} (a : Judged A) (b : Judged B) (c : Judged C) (f : A → B → C → Judged D) → Fine (all_three a b c f) → Fine a × Fine b × Fine c
three_fine {B = B} {C = C} a b c f g =
    let h = both_fine a (both b c (λ y z. Ok (y, z))) (λ x yz. f x yz.0 yz.1) g in
    let k = both_fine {C = B × C} b c (λ y z. Ok (y, z)) h.1 in
    (h.0, k.0, k.1)

-- ---- a scope that stays

pub record Leads (s inner : Scope) (r : Judged Scope) : Type 0 where
  pub same : scope_or s r ≡ inner

keeping_stays : (s : Scope) (rules : List Rule) → Leads s s (keeping rules s)
keeping_stays s rules = go (broken rules)
  where
    go : (o : Option TypeFault) → Leads s s (option_map_or (λ e. Err e) o (Ok s))
    go None = record { same = refl }
    go (Some e) = record { same = refl }

after_stays : {A : Type 0} (s : Scope) (r : Judged A) (f : A → Judged Scope) → ((a : A) → Leads s s (f a)) → Leads s s (after r f)
after_stays s (Ok a) f h = h a
after_stays s (Err e) f h = record { same = refl }

both_stays : {A B : Type 0} (s : Scope) (r : Judged A) (q : Judged B) (f : A → B → Judged Scope) → ((a : A) (b : B) → Leads s s (f a b)) → Leads s s (both r q f)
both_stays s (Ok a) (Ok b) f h = h a b
both_stays s (Ok a) (Err e) f h = record { same = refl }
both_stays s (Err d) (Ok b) f h = record { same = refl }
both_stays s (Err d) (Err e) f h = record { same = refl }

three_stays : {A C : Type 0} (s : Scope) (a : Judged A) (b : Judged (Option Operand)) (c : Judged C) (r : Option Operand → List Rule) → Leads s s (all_three a b c (λ _ x _. keeping (r x) s))
three_stays {C = C} s a b c r = both_stays s a (both {C = Option Operand × C} b c (λ y z. Ok (y, z))) (λ x yz. keeping (r yz.0) s) (λ x yz. keeping_stays s (r yz.0))

for_scope : (s : Scope) (w : Around) (first : CStmt) (test step : Option CExpr) (t : CStmt) → Leads s s (stated s w (plain.For first test step t))
for_scope s w (plain.Block ss) test step t =
    let head = all_stated (entered s) w ss in
    let inner : Scope = scope_or s head in
    three_stays s head (both (maybe_judged inner test) (maybe_judged inner step) (λ a _. Ok a)) (stated inner (in_loop w) t) test_rules
for_scope s w first test step t = three_stays s (stated s w first) (both (maybe_judged s test) (maybe_judged s step) (λ a _. Ok a)) (stated s (in_loop w) t) test_rules

-- only a declaration changes the scope
pub stated_scope : (s : Scope) (w : Around) (t : CStmt) → Leads s (scope_behind s t) (stated s w t)
stated_scope s w (plain.Block ss) = after_stays s (all_stated (entered s) w ss) (λ _. Ok s) (λ a. record { same = refl })
stated_scope s w (plain.Local d) = record { same = refl }
stated_scope s w (plain.Do_expr e) = after_stays s (judged s e) (λ _. Ok s) (λ a. record { same = refl })
stated_scope s w plain.Empty = record { same = refl }
stated_scope s w (plain.If e t) = both_stays s (judged s e) (stated s w t) (λ a _. keeping (condition_rules a) s) (λ a b. keeping_stays s (condition_rules a))
stated_scope s w (plain.IfElse e t u) =
    both_stays s (judged s e) (both (stated s w t) (stated s w u) (λ y z. Ok (y, z))) (λ a yz. keeping (condition_rules a) s) (λ a b. keeping_stays s (condition_rules a))
stated_scope s w (plain.While e t) = both_stays s (judged s e) (stated s (in_loop w) t) (λ a _. keeping (condition_rules a) s) (λ a b. keeping_stays s (condition_rules a))
stated_scope s w (plain.Do t e) = both_stays s (judged s e) (stated s (in_loop w) t) (λ a _. keeping (condition_rules a) s) (λ a b. keeping_stays s (condition_rules a))
stated_scope s w (plain.For first test step t) = for_scope s w first test step t
stated_scope s w (plain.Return at e) = after_stays s (maybe_judged s e) (λ a. keeping (return_rules at w.result a) s) (λ a. keeping_stays s (return_rules at w.result a))
stated_scope s w (plain.Break at) = keeping_stays s ((w.breaks, fault.Mismatch at) ∷ [])
stated_scope s w (plain.Continue at) = keeping_stays s ((w.continues, fault.Mismatch at) ∷ [])
stated_scope s w (plain.Switch e ps) = both_stays s (judged s e) (all_parts (entered s) (in_switch w) ps) (λ a labels. keeping (switch_rules a labels) s) (λ a labels. keeping_stays s (switch_rules a labels))
