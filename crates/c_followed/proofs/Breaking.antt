-- Typed statements break inside.
use Rattle.std.proofs.Common.{◌≡◌, Bool, true, false, List, [], ◌∷◌, ◌++◌, Ok, refl}
use Rattle.c_syntax.specs.Plain.{CStmt, CStmts, NoStmt, MoreStmt, Block, Local, Do_expr, Empty, If, IfElse, While, Do, For, Return, Break, Continue, Switch, CParts, NoPart, MorePart, Label, Item}
use Rattle.c_types.specs.declared.fault.TypeFault.{TypeFault}
use Rattle.c_types.specs.declared.fault.TypeFault.TheVariants as fault
use Rattle.c_types.specs.Refusals.{both, keeping}
use Rattle.c_types.specs.Expressions.{judged}
use Rattle.c_types.specs.Scope.{Scope, entered}
use Rattle.c_types.specs.Declarations.{scope_or}
use Rattle.c_types.specs.Statements.{Around, in_loop, in_switch, condition_rules, maybe_judged, test_rules, switch_rules, part_scope_or, CaseLabel, stated, all_stated, part_judged, all_parts}
use Rattle.c_followed.specs.Breaks.{BreaksAreIn, AllBreaksAreIn, PartsBreakIn}
use Rattle.c_fewer_types.proofs.FewerTypedRules.{after_is, both_is, three_is}
use Rattle.c_followed.specs.Typed.{TypedTextsBreakInside, TypedBodiesBreakInside}

-- the one rule is kept
kept : (b : Bool) (f : TypeFault) (s r : Scope) → keeping ((b, f) ∷ []) s ≡ Ok r → b ≡ true
kept true f s r e = refl
kept false f s r e = absurd (cc e)

mutual
  pub inside : (s : Scope) (w : Around) (t : CStmt) (r : Scope) → stated s w t ≡ Ok r → BreaksAreIn w.breaks w.continues t
  inside s w (Block ss) r e = let x = after_is (all_stated (entered s) w ss) (λ _. Ok s) r e in all_inside (entered s) w ss x.0 x.1
  inside s w (Local d) r e = tt
  inside s w (Do_expr x) r e = tt
  inside s w Empty r e = tt
  inside s w (If x t) r e = let y = both_is (judged s x) (stated s w t) (λ a _. keeping (condition_rules a) s) r e in inside s w t y.1.0 y.1.2
  inside s w (IfElse x t u) r e = let y = three_is (judged s x) (stated s w t) (stated s w u) (λ a _ _. keeping (condition_rules a) s) r e in (inside s w t y.1.0 y.1.1.2, inside s w u y.1.1.0 y.1.1.3)
  inside s w (While x t) r e = let y = both_is (judged s x) (stated s (in_loop w) t) (λ a _. keeping (condition_rules a) s) r e in inside s (in_loop w) t y.1.0 y.1.2
  inside s w (Do t x) r e = let y = both_is (judged s x) (stated s (in_loop w) t) (λ a _. keeping (condition_rules a) s) r e in inside s (in_loop w) t y.1.0 y.1.2
  inside s w (For (Block ss) test step t) r e =
      let inner = scope_or s (all_stated (entered s) w ss) in
      let y = three_is (all_stated (entered s) w ss) (both (maybe_judged inner test) (maybe_judged inner step) (λ a _. Ok a)) (stated inner (in_loop w) t) (λ _ a _. keeping (test_rules a) s) r e in (all_inside (entered s) w ss y.0 y.1.1.1, inside (scope_or s (all_stated (entered s) w ss)) (in_loop w) t y.1.1.0 y.1.1.3)
  inside s w (For (Local d) test step t) r e = let y = three_is (stated s w (Local d)) (both (maybe_judged s test) (maybe_judged s step) (λ a _. Ok a)) (stated s (in_loop w) t) (λ _ a _. keeping (test_rules a) s) r e in (inside s w (Local d) y.0 y.1.1.1, inside s (in_loop w) t y.1.1.0 y.1.1.3)
  inside s w (For (Do_expr x) test step t) r e = let y = three_is (stated s w (Do_expr x)) (both (maybe_judged s test) (maybe_judged s step) (λ a _. Ok a)) (stated s (in_loop w) t) (λ _ a _. keeping (test_rules a) s) r e in (inside s w (Do_expr x) y.0 y.1.1.1, inside s (in_loop w) t y.1.1.0 y.1.1.3)
  inside s w (For Empty test step t) r e = let y = three_is (stated s w Empty) (both (maybe_judged s test) (maybe_judged s step) (λ a _. Ok a)) (stated s (in_loop w) t) (λ _ a _. keeping (test_rules a) s) r e in (inside s w Empty y.0 y.1.1.1, inside s (in_loop w) t y.1.1.0 y.1.1.3)
  inside s w (For (If x a) test step t) r e = let y = three_is (stated s w (If x a)) (both (maybe_judged s test) (maybe_judged s step) (λ a _. Ok a)) (stated s (in_loop w) t) (λ _ a _. keeping (test_rules a) s) r e in (inside s w (If x a) y.0 y.1.1.1, inside s (in_loop w) t y.1.1.0 y.1.1.3)
  inside s w (For (IfElse x a b) test step t) r e = let y = three_is (stated s w (IfElse x a b)) (both (maybe_judged s test) (maybe_judged s step) (λ a _. Ok a)) (stated s (in_loop w) t) (λ _ a _. keeping (test_rules a) s) r e in (inside s w (IfElse x a b) y.0 y.1.1.1, inside s (in_loop w) t y.1.1.0 y.1.1.3)
  inside s w (For (While x a) test step t) r e = let y = three_is (stated s w (While x a)) (both (maybe_judged s test) (maybe_judged s step) (λ a _. Ok a)) (stated s (in_loop w) t) (λ _ a _. keeping (test_rules a) s) r e in (inside s w (While x a) y.0 y.1.1.1, inside s (in_loop w) t y.1.1.0 y.1.1.3)
  inside s w (For (Do a x) test step t) r e = let y = three_is (stated s w (Do a x)) (both (maybe_judged s test) (maybe_judged s step) (λ a _. Ok a)) (stated s (in_loop w) t) (λ _ a _. keeping (test_rules a) s) r e in (inside s w (Do a x) y.0 y.1.1.1, inside s (in_loop w) t y.1.1.0 y.1.1.3)
  inside s w (For (For b c z a) test step t) r e = let y = three_is (stated s w (For b c z a)) (both (maybe_judged s test) (maybe_judged s step) (λ a _. Ok a)) (stated s (in_loop w) t) (λ _ a _. keeping (test_rules a) s) r e in (inside s w (For b c z a) y.0 y.1.1.1, inside s (in_loop w) t y.1.1.0 y.1.1.3)
  inside s w (For (Return at x) test step t) r e = let y = three_is (stated s w (Return at x)) (both (maybe_judged s test) (maybe_judged s step) (λ a _. Ok a)) (stated s (in_loop w) t) (λ _ a _. keeping (test_rules a) s) r e in (inside s w (Return at x) y.0 y.1.1.1, inside s (in_loop w) t y.1.1.0 y.1.1.3)
  inside s w (For (Break at) test step t) r e = let y = three_is (stated s w (Break at)) (both (maybe_judged s test) (maybe_judged s step) (λ a _. Ok a)) (stated s (in_loop w) t) (λ _ a _. keeping (test_rules a) s) r e in (inside s w (Break at) y.0 y.1.1.1, inside s (in_loop w) t y.1.1.0 y.1.1.3)
  inside s w (For (Continue at) test step t) r e = let y = three_is (stated s w (Continue at)) (both (maybe_judged s test) (maybe_judged s step) (λ a _. Ok a)) (stated s (in_loop w) t) (λ _ a _. keeping (test_rules a) s) r e in (inside s w (Continue at) y.0 y.1.1.1, inside s (in_loop w) t y.1.1.0 y.1.1.3)
  inside s w (For (Switch x ps) test step t) r e = let y = three_is (stated s w (Switch x ps)) (both (maybe_judged s test) (maybe_judged s step) (λ a _. Ok a)) (stated s (in_loop w) t) (λ _ a _. keeping (test_rules a) s) r e in (inside s w (Switch x ps) y.0 y.1.1.1, inside s (in_loop w) t y.1.1.0 y.1.1.3)
  inside s w (Return at x) r e = tt
  inside s w (Break at) r e = kept w.breaks (fault.Mismatch at) s r e
  inside s w (Continue at) r e = kept w.continues (fault.Mismatch at) s r e
  inside s w (Switch x ps) r e = let y = both_is (judged s x) (all_parts (entered s) (in_switch w) ps) (λ a labels. keeping (switch_rules a labels) s) r e in parts_inside (entered s) (in_switch w) ps y.1.0 y.1.2

  pub all_inside : (s : Scope) (w : Around) (ts : CStmts) (r : Scope) → all_stated s w ts ≡ Ok r → AllBreaksAreIn w.breaks w.continues ts
  all_inside s w NoStmt r e = tt
  all_inside s w (MoreStmt t ts) r e = let y = both_is (stated s w t) (all_stated (scope_or s (stated s w t)) w ts) (λ _ inner. Ok inner) r e in (inside s w t y.0 y.1.1, all_inside (scope_or s (stated s w t)) w ts y.1.0 y.1.2)

  parts_inside : (s : Scope) (w : Around) (ps : CParts) (ls : List CaseLabel) → all_parts s w ps ≡ Ok ls → PartsBreakIn w.breaks w.continues ps
  parts_inside s w NoPart ls e = tt
  parts_inside s w (MorePart (Label at x) ps) ls e = let y = both_is (part_judged s w (Label at x)) (all_parts (part_scope_or s (part_judged s w (Label at x))) w ps) (λ part labels. Ok (part.labels ++ labels)) ls e in (tt, parts_inside (part_scope_or s (part_judged s w (Label at x))) w ps y.1.0 y.1.2)
  parts_inside s w (MorePart (Item t) ps) ls e =
      let y = both_is (part_judged s w (Item t)) (all_parts (part_scope_or s (part_judged s w (Item t))) w ps) (λ part labels. Ok (part.labels ++ labels)) ls e in
      let z = after_is (stated s w t) (λ inner. Ok (record { scope = inner; labels = [] })) y.0 y.1.1 in (inside s w t z.0 z.1, parts_inside (part_scope_or s (part_judged s w (Item t))) w ps y.1.0 y.1.2)

pub typed_texts_break_inside : TypedTextsBreakInside
typed_texts_break_inside s w t r e = inside s w t r e

pub typed_bodies_break_inside : TypedBodiesBreakInside
typed_bodies_break_inside s w ts r e = all_inside s w ts r e
