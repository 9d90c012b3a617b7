-- Quiet expressions leave the state as it is.
use Rattle.std.proofs.Common.{◌≡◌, true, ◌&&◌}
use Rattle.c_syntax.specs.Plain.{CExpr, Number, Str, Null, Var, Unary, Step, Binary, Assign, Cond, Comma, Cast, SizeTy, SizeOf, Index, Call, Member, Arrow}
use Rattle.c_types.specs.Scope.{entity_of}
use Rattle.c_syntax.specs.Words.{meaning}
use Rattle.c_eval.specs.Environment.{Environment, past}
use Rattle.c_eval.specs.Eval.{World, value_of, place_of}
use Rattle.c_lowered.specs.Locations.{is_quiet}
use Rattle.c_valued.proofs.Words.{Still, give_still, undefined_still, then_still, choose_still, used_still, member_still, combined_still, value_at_still, place_named_still, named_still, unary_still, unary_place_still, cast_still, element_still, both}

mutual
  pub value_still : (e : CExpr) (w : World) (here : Environment) → is_quiet e ≡ true → Still (value_of e w here)
  value_still (Number at n u) w here h = give_still _
  value_still (Str at text) w here h = give_still _
  value_still (Null at) w here h = give_still _
  value_still (Var at name) w here h = named_still w here name (entity_of here.scope name)
  value_still (Unary at op a) w here h = unary_still w here.scope op a (then_still (value_still a w here h) (λ v. used_still v)) (place_still a w here h)
  value_still (Step at op a) w here h = absurd (cc h)
  value_still (Binary at op a b) w here h =
      let s = both (is_quiet a) (is_quiet b) h in
      combined_still here.scope.tags op _ _ (then_still (value_still a w here s.0) (λ v. used_still v)) (then_still (value_still b w (past a here) s.1) (λ v. used_still v))
  value_still (Assign at op a b) w here h = absurd (cc h)
  value_still (Cond at a b c) w here h =
      let s = both (is_quiet a && is_quiet b) (is_quiet c) h in
      let t = both (is_quiet a) (is_quiet b) s.0 in
      then_still (then_still (value_still a w here t.0) (λ v. used_still v)) (λ x. then_still (choose_still _ (value_still b w (past a here) t.1) (value_still c w (past b (past a here)) s.1)) (λ v. give_still _))
  value_still (Comma at a b) w here h = let s = both (is_quiet a) (is_quiet b) h in then_still (value_still a w here s.0) (λ v. value_still b w (past a here) s.1)
  value_still (Cast at t a) w here h = cast_still _ (value_still a w here h)
  value_still (SizeTy at t) w here h = give_still _
  value_still (SizeOf at a) w here h = give_still _
  value_still (Index at a b) w here h =
      let s = both (is_quiet a) (is_quiet b) h in
      then_still (element_still w here.scope.tags _ _ (then_still (value_still a w here s.0) (λ v. used_still v)) (then_still (value_still b w (past a here) s.1) (λ v. used_still v))) (λ p. value_at_still w.inner _ p)
  value_still (Call at f es) w here h = absurd (cc h)
  value_still (Member at a m) w here h = then_still (then_still (place_still a w here h) (λ p. member_still _ p)) (λ p. value_at_still w.inner _ p)
  value_still (Arrow at a m) w here h = then_still (then_still (then_still (value_still a w here h) (λ v. used_still v)) (λ p. member_still _ p)) (λ p. value_at_still w.inner _ p)

  pub place_still : (e : CExpr) (w : World) (here : Environment) → is_quiet e ≡ true → Still (place_of e w here)
  place_still (Str at text) w here h = give_still _
  place_still (Var at name) w here h = place_named_still (meaning here.objects name)
  place_still (Unary at op a) w here h = unary_place_still op (then_still (value_still a w here h) (λ v. used_still v))
  place_still (Index at a b) w here h =
      let s = both (is_quiet a) (is_quiet b) h in
      element_still w here.scope.tags _ _ (then_still (value_still a w here s.0) (λ v. used_still v)) (then_still (value_still b w (past a here) s.1) (λ v. used_still v))
  place_still (Member at a m) w here h = then_still (place_still a w here h) (λ p. member_still _ p)
  place_still (Arrow at a m) w here h = then_still (then_still (value_still a w here h) (λ v. used_still v)) (λ p. member_still _ p)
  place_still (Number at n u) w here h = undefined_still _
  place_still (Null at) w here h = undefined_still _
  place_still (SizeTy at t) w here h = undefined_still _
  place_still (SizeOf at a) w here h = undefined_still _
  place_still (Step at op a) w here h = undefined_still _
  place_still (Binary at op a b) w here h = undefined_still _
  place_still (Assign at op a b) w here h = undefined_still _
  place_still (Cond at a b c) w here h = undefined_still _
  place_still (Comma at a b) w here h = undefined_still _
  place_still (Cast at t a) w here h = undefined_still _
  place_still (Call at f es) w here h = undefined_still _
