use Rattle.std.proofs.Common.{◌≡◌, ◌<◌, ◌≤◌, ◌+◌, ◌%◌, ◌^◌, ℕ, suc, Bool, true, false, not, ◌||◌, List, [], ◌∷◌, ◌++◌, length, map, drop, get_or, refl, sym, ap, subst, ◌∙◌, arith, rules, append-nil, append_assoc, add-one, if◌then◌else◌}
use Rattle.std.specs.Prelude.{Option, Some, None, OnOk, IfOk}
use Rattle.std.proofs.lemmas.List.{drop_all}
use Rattle.std.proofs.lemmas.Grind.{common_steps, elements}
use Rattle.eir_core.specs.declared.ops.Op.{Op}
use Rattle.eir_core.specs.declared.ops.Op.TheVariants.{Add}
use Rattle.eir_core.specs.declared.ops.Reg.{Reg}
use Rattle.eir_core.specs.declared.ops.Reg.TheVariants.{A, B, C}
use Rattle.eir_core.specs.declared.ops.Operand.TheVariants.{Reg as register}
use Rattle.eir_core.specs.declared.ops.Operand.{Operand}
use Rattle.eir_core.specs.declared.ops.Cond.{Cond}
use Rattle.c_addressing.proofs.HereLemmas.{as_code}
use Rattle.c_syntax.specs.Plain as tree
use Rattle.c_syntax.specs.Plain.{CExpr, CExprs, exprs}
use Rattle.c_syntax.specs.View.{form_of, expr_of, exprs_of, ty_of}
use Rattle.c_syntax.specs.declared.tree.Expr.{Expr}
use Rattle.c_syntax.specs.declared.tree.Exprs.{out-Exprs}
use Rattle.c_syntax.specs.declared.tree.Form.{Form}
use Rattle.c_syntax.specs.declared.tree.Form.TheFolds.{the_lemmas}
use Rattle.c_syntax.specs.declared.tree.UnOp.{UnOp}
use Rattle.c_syntax.specs.declared.tree.UnOp.TheVariants as unary
use Rattle.c_syntax.specs.declared.tree.BinOp.{BinOp}
use Rattle.c_eval.specs.Environment.{Environment, past, type_in, value_type_in, pointee, member_offset}
use Rattle.c_eval.specs.LiteralsIn.{literals_in, literals_in_all}
use Rattle.c_emission.specs.View.{direct_of, location_of}
use Rattle.c_lowered.specs.Locations as plain
use Rattle.c_lowered.specs.Operations as operations
use Rattle.c_lowered.specs.Counts.{expr_jumps, truth_jumps, exprs_jumps}
use Rattle.c_lowered.specs.Expressions.{value_code, tested, unary_code, pointed_by, step_back, binary_code, comparison_truth, assignment_code, assigned_code, updated_code, choice_code, argument_code}
use Rattle.c_counted.specs.Numbers.{IsNumber}
use Rattle.c_addressing.specs.declared.spots.Known as found
use Rattle.c_addressing.specs.declared.spots.Spot.{Spot}
use Rattle.c_addressing.specs.Here.{IsHere, IsKnown, IsSpot, Emits, IsBehind}
use Rattle.c_applied.specs.Pieces.{aimed, are_several, IsLeaf}
use Rattle.c_eval.specs.Environment.{Direct, Known, Format}
use Rattle.c_applied.specs.declared.calls.Called.{Called}
use Rattle.c_applied.specs.Calls.{IsCalled, given_literals}
use Rattle.c_lower_expressions.proofs.CallLemmas.{given_count, helper_code, helper_jumps, named_jumps, code_of_named, through_code, through_jumps, through_count}
use Rattle.c_addressing.specs.declared.here.Literals.{Literals}
use Rattle.std.specs.Prelude.{Vec}
use Rattle.c_applied.specs.Leads.{Leads, Keeps, MayLead, literal_count}
use Rattle.c_applied.proofs.LeadsLemmas.{keeps_none, kept, keeps_then, some_on, here_still, here_on, nothing, then_piece, piece_then, then_still, leads_then, leads_piece, piece_leads, literals_lead, leads, at_block, as_lead, with_count, told_block, if_ok, on_ok, same_number, same_location, same_direct, known_some, known_none, spot_some, spot_none, behind_still}
use Rattle.c_lower_expressions.specs.Adds.{Readies}
use Rattle.c_lower_expressions.specs.Parts.{address_code, test_code, right_code, sides, second_side, stored_code, changed_code, given_code}
use Rattle.c_lower_expressions.proofs.PartLemmas.{direct_code, place_taken, value_taken, junction_value, operation_value, junction_truth, comparison_truth_is, junction_is, all_wait, argument_is}
use Rattle.c_lower_expressions.proofs.GivenLemmas.{none_given, one_given, all_given}
use Rattle.c_lower_expressions.proofs.TwoLemmas.{some_direct, none_direct, leads_two, literals_two, one_more, then_more, two_more, two_jumps, second_behind, assigned_behind, updated_behind, spot_updated, operator_is, comparison_is, choice_end, choice_block, call_block, other_jumps, three_literals, three_more}
use Rattle.c_expressions.proofs.RowLemmas.{exprs_view}
use Rattle.c_expressions.proofs.GoingLemmas.{drop_at}
use Rattle.c_lower_expressions.proofs.expressions.+code.Goals as goal

pub tested-returns-clause-code : goal.tested-returns-clause-code
tested-returns-clause-code t c = λ t ht w env m n is hk hd.
    let e = (expr_of c.args.e.now) in
    let f = c.in_ok-behind.ensures.code w env m n is hk hd in
    leads (then_piece f.emits (c.in_ok-jump_if_zero.ensures t ht)) (told_block (one_more m (expr_jumps e)) (c.next.ensures (m + expr_jumps e) f.block))

pub tested-returns-clause-keeps : goal.tested-returns-clause-keeps
tested-returns-clause-keeps t c = keeps_then c.in_ok-behind.ensures.keeps (kept (c.in_ok-jump_if_zero.ensures c.args.target (same_number c.args.target)))

pub unary-returns-in-Some-clause-code : goal.unary-returns-in-Some-clause-code
unary-returns-in-Some-clause-code t c = λ at same w env m n is hk hd.
    let s = env.scope in
    let u = tree.Unary at c.args.op (expr_of c.args.a.now) in
    let r = c.in-Some.behind in
    let led = subst (λ (o : Option ℕ). MayLead c.args.out.now c.known_value.new.out o (plain.direct (expr_of c.args.e.now) w env) (literal_count s (expr_of c.args.e.now)) (m + expr_jumps (expr_of c.args.e.now))) c.in-Some.is (c.in_ok-known.ensures.code w env m is hk) in
    subst (λ (x : CExpr). Leads c.args.out.now c.known_value.new.out (value_code x w env m n) (literal_count s x) r (m + expr_jumps x)) (sym same)
    (some_direct r (plain.direct u w env) _ (subst (λ (x : CExpr). MayLead c.args.out.now c.known_value.new.out (Some r) (plain.direct x w env) (literal_count s x) (m + expr_jumps x)) same led))

pub unary-operated-requires : goal.unary-operated-requires
unary-operated-requires t c = (first_of (search (rules, the_lemmas), grind (the_lemmas, arith, common_steps), grind (the_lemmas, arith, elements)), some_on c.args.out.now c.known_value.new.out c.args.here.now.declared (c.in_ok-known.ensures.keeps) c.requires)

pub unary-returns-in-None-clause-code : goal.unary-returns-in-None-clause-code
unary-returns-in-None-clause-code t c = λ at same w env m n is hk hd.
    let s = env.scope in
    let u = tree.Unary at c.args.op (expr_of c.args.a.now) in
    let led = subst (λ (o : Option ℕ). MayLead c.args.out.now c.known_value.new.out o (plain.direct (expr_of c.args.e.now) w env) (literal_count s (expr_of c.args.e.now)) (m + expr_jumps (expr_of c.args.e.now))) c.in-None.is (c.in_ok-known.ensures.code w env m is hk) in
    let none = none_direct (literal_count s u) (m + expr_jumps u) (plain.direct u w env) (subst (λ (x : CExpr). MayLead c.args.out.now c.known_value.new.out None (plain.direct x w env) (literal_count s x) (m + expr_jumps x)) same led) in
    subst (λ (x : CExpr). IfOk c.operated.result (λ r. Leads c.args.out.now c.operated.new.out (value_code x w env m n) (literal_count s x) r (m + expr_jumps x))) (sym same)
    (if_ok c.operated.result (λ r f. as_lead (sym (ap (λ (o : Option plain.Direct). operations.direct_or o (unary_code c.args.op (value_type_in s (expr_of c.args.a.now)) (value_code (expr_of c.args.a.now) w env m n) (address_code (expr_of c.args.a.now) w env m n))) none.0)) (piece_leads none.1 f))
    (c.operated.ensures.code w env m n (here_still none.1 is) hk hd))

pub unary-returns-in-None-clause-keeps : goal.unary-returns-in-None-clause-keeps
unary-returns-in-None-clause-keeps t c = on_ok c.operated.result (λ k. keeps_then c.in_ok-known.ensures.keeps k) c.operated.ensures.keeps

pub operated-returns-then-takes_place-clause-code : goal.operated-returns-then-takes_place-clause-code
operated-returns-then-takes_place-clause-code t c = λ w env m n is hk hd.
    if_ok c.place.result (λ r f. as_lead (sym (place_taken c.args.op (value_type_in env.scope (expr_of c.args.a.now)) (value_code (expr_of c.args.a.now) w env m n) (address_code (expr_of c.args.a.now) w env m n) (sym c.takes_place.ensures ∙ c.if-takes_place.true))) f) (c.place.ensures.code w env m n is hk hd)

pub operated-after_value-requires : goal.operated-after_value-requires
operated-after_value-requires t c = some_on c.args.out.now c.value.new.out c.args.here.now.declared (c.in_ok-behind.ensures.keeps) c.requires

pub operated-returns-clause-code : goal.operated-returns-clause-code
operated-returns-clause-code t c = λ w env m n is hk hd.
    let f = c.in_ok-behind.ensures.code w env m n is hk hd in
    as_lead (sym (value_taken c.args.op (value_type_in env.scope (expr_of c.args.a.now)) (value_code (expr_of c.args.a.now) w env m n) (address_code (expr_of c.args.a.now) w env m n) (sym c.takes_place.ensures ∙ c.if-takes_place.false)))
    (leads_piece f (c.in_ok-after_value.ensures.code env.scope (here_on f.emits is).holds))

pub operated-returns-clause-keeps : goal.operated-returns-clause-keeps
operated-returns-clause-keeps t c = keeps_then c.in_ok-behind.ensures.keeps c.in_ok-after_value.ensures.keeps

pub unary_truth-returns-in-Not-clause-code : goal.unary_truth-returns-in-Not-clause-code
unary_truth-returns-in-Not-clause-code t c = λ at same t ht w env m n is hk hd.
    let u = same ∙ ap (λ (o : UnOp). tree.Unary at o (expr_of c.args.a.now)) c.in-Not.is in
    subst (λ (x : CExpr). IfOk c.truth.result (λ r. Leads c.args.out.now c.truth.new.out (test_code x w env m n c.args.holds t) (literal_count env.scope x) r (m + truth_jumps x))) (sym u) (c.truth.ensures.code t ht w env m n is hk hd)

pub unary_truth-returns-in-Minus-clause-code : goal.unary_truth-returns-in-Minus-clause-code
unary_truth-returns-in-Minus-clause-code t c = λ at same t ht w env m n is hk hd.
    let u = same ∙ ap (λ (o : UnOp). tree.Unary at o (expr_of c.args.a.now)) c.in-Minus.is in
    subst (λ (x : CExpr). IfOk c.tested.result (λ r. Leads c.args.out.now c.tested.new.out (test_code x w env m n c.args.holds t) (literal_count env.scope x) r (m + truth_jumps x))) (sym u)
    (subst (λ (x : CExpr). IfOk c.tested.result (λ r. Leads c.args.out.now c.tested.new.out (tested c.args.holds t (value_code x w env m n)) (literal_count env.scope x) r (m + (expr_jumps x + 1)))) u (c.tested.ensures.code t ht w env m n is hk hd))

pub unary_truth-returns-in-Plus-clause-code : goal.unary_truth-returns-in-Plus-clause-code
unary_truth-returns-in-Plus-clause-code t c = λ at same t ht w env m n is hk hd.
    let u = same ∙ ap (λ (o : UnOp). tree.Unary at o (expr_of c.args.a.now)) c.in-Plus.is in
    subst (λ (x : CExpr). IfOk c.tested-in-Plus.result (λ r. Leads c.args.out.now c.tested-in-Plus.new.out (test_code x w env m n c.args.holds t) (literal_count env.scope x) r (m + truth_jumps x))) (sym u)
    (subst (λ (x : CExpr). IfOk c.tested-in-Plus.result (λ r. Leads c.args.out.now c.tested-in-Plus.new.out (tested c.args.holds t (value_code x w env m n)) (literal_count env.scope x) r (m + (expr_jumps x + 1)))) u (c.tested-in-Plus.ensures.code t ht w env m n is hk hd))

pub unary_truth-returns-in-Invert-clause-code : goal.unary_truth-returns-in-Invert-clause-code
unary_truth-returns-in-Invert-clause-code t c = λ at same t ht w env m n is hk hd.
    let u = same ∙ ap (λ (o : UnOp). tree.Unary at o (expr_of c.args.a.now)) c.in-Invert.is in
    subst (λ (x : CExpr). IfOk c.tested-in-Invert.result (λ r. Leads c.args.out.now c.tested-in-Invert.new.out (test_code x w env m n c.args.holds t) (literal_count env.scope x) r (m + truth_jumps x))) (sym u)
    (subst (λ (x : CExpr). IfOk c.tested-in-Invert.result (λ r. Leads c.args.out.now c.tested-in-Invert.new.out (tested c.args.holds t (value_code x w env m n)) (literal_count env.scope x) r (m + (expr_jumps x + 1)))) u (c.tested-in-Invert.ensures.code t ht w env m n is hk hd))

pub unary_truth-returns-in-Deref-clause-code : goal.unary_truth-returns-in-Deref-clause-code
unary_truth-returns-in-Deref-clause-code t c = λ at same t ht w env m n is hk hd.
    let u = same ∙ ap (λ (o : UnOp). tree.Unary at o (expr_of c.args.a.now)) c.in-Deref.is in
    subst (λ (x : CExpr). IfOk c.tested-in-Deref.result (λ r. Leads c.args.out.now c.tested-in-Deref.new.out (test_code x w env m n c.args.holds t) (literal_count env.scope x) r (m + truth_jumps x))) (sym u)
    (subst (λ (x : CExpr). IfOk c.tested-in-Deref.result (λ r. Leads c.args.out.now c.tested-in-Deref.new.out (tested c.args.holds t (value_code x w env m n)) (literal_count env.scope x) r (m + (expr_jumps x + 1)))) u (c.tested-in-Deref.ensures.code t ht w env m n is hk hd))

pub unary_truth-returns-in-Address-clause-code : goal.unary_truth-returns-in-Address-clause-code
unary_truth-returns-in-Address-clause-code t c = λ at same t ht w env m n is hk hd.
    let u = same ∙ ap (λ (o : UnOp). tree.Unary at o (expr_of c.args.a.now)) c.in-Address.is in
    subst (λ (x : CExpr). IfOk c.tested-in-Address.result (λ r. Leads c.args.out.now c.tested-in-Address.new.out (test_code x w env m n c.args.holds t) (literal_count env.scope x) r (m + truth_jumps x))) (sym u)
    (subst (λ (x : CExpr). IfOk c.tested-in-Address.result (λ r. Leads c.args.out.now c.tested-in-Address.new.out (tested c.args.holds t (value_code x w env m n)) (literal_count env.scope x) r (m + (expr_jumps x + 1)))) u (c.tested-in-Address.ensures.code t ht w env m n is hk hd))

pub step-returns-clause-code : goal.step-returns-clause-code
step-returns-clause-code t c = λ w env m n is hk hd. leads_piece (c.in_ok-behind.ensures.code w env m n is hk hd) c.in_ok-stepped.ensures

pub step-returns-clause-keeps : goal.step-returns-clause-keeps
step-returns-clause-keeps t c = keeps_then c.in_ok-behind.ensures.keeps (kept c.in_ok-stepped.ensures)

pub member_place-offset_in-requires : goal.member_place-offset_in-requires
member_place-offset_in-requires t c = some_on c.args.out.now c.place.new.out c.args.here.now.declared (c.in_ok-behind.ensures.keeps) c.requires

pub member_behind-offset_behind-requires : goal.member_behind-offset_behind-requires
member_behind-offset_behind-requires t c = some_on c.args.out.now c.value.new.out c.args.here.now.declared (c.in_ok-behind.ensures.keeps) c.requires

pub member_place-returns-clause-code : goal.member_place-returns-clause-code
member_place-returns-clause-code t c = λ w env m n is hk hd.
    let s = env.scope in
    let f = c.in_ok-behind.ensures.code w env m n is hk hd in
    leads_piece f (piece_then c.in_ok-words.ensures.still (c.in_ok-moved_on.ensures (member_offset s.tags (type_in s (expr_of c.args.a.now)) c.args.name.now) (c.in_ok-words.ensures.words s (here_on f.emits is).holds)))

pub member_place-returns-clause-keeps : goal.member_place-returns-clause-keeps
member_place-returns-clause-keeps t c = let h = some_on c.args.out.now c.place.new.out c.args.here.now.declared c.in_ok-behind.ensures.keeps c.requires in let s = h.0 in keeps_then c.in_ok-behind.ensures.keeps (keeps_then (kept c.in_ok-words.ensures.still) (kept (c.in_ok-moved_on.ensures (member_offset s.tags (type_in s (expr_of c.args.a.now)) c.args.name.now) (c.in_ok-words.ensures.words s h.1))))

pub member_behind-returns-clause-code : goal.member_behind-returns-clause-code
member_behind-returns-clause-code t c = λ w env m n is hk hd.
    let s = env.scope in
    let f = c.in_ok-behind.ensures.code w env m n is hk hd in
    leads_piece f (piece_then c.in_ok-words.ensures.still (c.in_ok-moved_on.ensures (member_offset s.tags (pointee (value_type_in s (expr_of c.args.a.now))) c.args.name.now) (c.in_ok-words.ensures.words s (here_on f.emits is).holds)))

pub member_behind-returns-clause-keeps : goal.member_behind-returns-clause-keeps
member_behind-returns-clause-keeps t c = let h = some_on c.args.out.now c.value.new.out c.args.here.now.declared c.in_ok-behind.ensures.keeps c.requires in let s = h.0 in keeps_then c.in_ok-behind.ensures.keeps (keeps_then (kept c.in_ok-words.ensures.still) (kept (c.in_ok-moved_on.ensures (member_offset s.tags (pointee (value_type_in s (expr_of c.args.a.now))) c.args.name.now) (c.in_ok-words.ensures.words s h.1))))

pub element-returns-clause-code : goal.element-returns-clause-code
element-returns-clause-code t c = λ w env m n is hk hd.
    let b = c.in_ok-both.ensures.code w env m n is hk hd in
    let p = sides (expr_of c.args.a.now) (expr_of c.args.b.now) w env m n in
    leads_piece b.leads (as_code (ap (λ (r : Reg). Add A (operations.addend r c.in_ok-both.both.second) ∷ []) b.first ∙ ap (λ (o : Operand). Add A (operations.addend p.first o) ∷ []) b.second) c.in_ok-sum.ensures)

pub element-returns-clause-keeps : goal.element-returns-clause-keeps
element-returns-clause-keeps t c = keeps_then c.in_ok-both.ensures.keeps (kept c.in_ok-sum.ensures)

pub comma-returns-clause-code : goal.comma-returns-clause-code
comma-returns-clause-code t c = λ w env m n is hk hd.
    let f = c.in_ok-between.ensures.code w env m n is hk hd in
    let h = c.in_ok-behind.ensures.code w (past (expr_of c.args.a.now) env) (m + expr_jumps (expr_of c.args.a.now)) n (here_on f.emits is) f.block hd in
    at_block (then_more m (expr_jumps (expr_of c.args.a.now)) (expr_jumps (expr_of c.args.b.now))) (leads_two (literals_in env.scope (expr_of c.args.a.now)) (literals_in env.scope (expr_of c.args.b.now)) f h)

pub comma-returns-clause-keeps : goal.comma-returns-clause-keeps
comma-returns-clause-keeps t c = keeps_then c.in_ok-between.ensures.keeps c.in_ok-behind.ensures.keeps

pub comma-value-requires-2 : goal.comma-value-requires-2
comma-value-requires-2 t c = (first_of (search (rules, the_lemmas), grind (the_lemmas, arith, common_steps), grind (the_lemmas, arith, elements)), some_on c.args.out.now c.value.new.out c.args.here.now.declared (c.in_ok-between.ensures.keeps) c.requires)

pub pointed-returns-in_ok-point-in-Some-clause-code : goal.pointed-returns-in_ok-point-in-Some-clause-code
pointed-returns-in_ok-point-in-Some-clause-code t c = λ w env m n is hk hd.
    let x = spot_some c.in-Some.spot c.args.out.now.literals (literal_count env.scope (expr_of c.args.a.now)) (plain.known_place (expr_of c.args.a.now) w env) (subst (λ (o : Option Spot). IsSpot c.args.out.now.literals (literal_count env.scope (expr_of c.args.a.now)) o (plain.known_place (expr_of c.args.a.now) w env)) c.in-Some.is (c.in_ok-known.ensures.place w env is)) in
    subst (λ (o : Option plain.Location). Leads c.args.out.now c.point.new.out (pointed_by o (address_code (expr_of c.args.a.now) w env m n)) (literal_count env.scope (expr_of c.args.a.now)) c.plus.result (m + expr_jumps (expr_of c.args.a.now))) (sym x.1)
    (leads (then_piece (piece_then c.in_ok-known.ensures.still (c.pass.ensures.passed (literal_count env.scope (expr_of c.args.a.now)) (behind_still c.in_ok-known.ensures.still x.3))) (c.in_ok-point-in-Some.ensures x.0 x.2)) (c.plus.ensures m (expr_jumps (expr_of c.args.a.now)) hk c.jumps_of.ensures))

pub pointed-returns-in_ok-point-in-Some-clause-keeps : goal.pointed-returns-in_ok-point-in-Some-clause-keeps
pointed-returns-in_ok-point-in-Some-clause-keeps t c = keeps_then (kept c.in_ok-known.ensures.still) (keeps_then c.pass.ensures.keeps (kept (c.in_ok-point-in-Some.ensures (location_of c.in-Some.spot.place) (same_location c.in-Some.spot.place))))

pub pointed-place-requires : goal.pointed-place-requires
pointed-place-requires t c = (first_of (search (rules, the_lemmas), grind (the_lemmas, arith, common_steps), grind (the_lemmas, arith, elements)), some_on c.args.out.now c.known_place.new.out c.args.here.now.declared (kept c.in_ok-known.ensures.still) c.requires)

pub pointed-returns-in_ok-operation-in-None-clause-code : goal.pointed-returns-in_ok-operation-in-None-clause-code
pointed-returns-in_ok-operation-in-None-clause-code t c = λ w env m n is hk hd.
    let x = spot_none c.args.out.now.literals (literal_count env.scope (expr_of c.args.a.now)) (plain.known_place (expr_of c.args.a.now) w env) (subst (λ (o : Option Spot). IsSpot c.args.out.now.literals (literal_count env.scope (expr_of c.args.a.now)) o (plain.known_place (expr_of c.args.a.now) w env)) c.in-None.is (c.in_ok-known.ensures.place w env is)) in
    subst (λ (o : Option plain.Location). Leads c.args.out.now c.operation.new.out (pointed_by o (address_code (expr_of c.args.a.now) w env m n)) (literal_count env.scope (expr_of c.args.a.now)) c.in_ok-behind-in-None.behind (m + expr_jumps (expr_of c.args.a.now))) (sym x)
    (leads_piece (piece_leads c.in_ok-known.ensures.still (c.in_ok-behind-in-None.ensures.code w env m n (here_still c.in_ok-known.ensures.still is) hk hd)) c.in_ok-operation-in-None.ensures)

pub pointed-returns-in_ok-operation-in-None-clause-keeps : goal.pointed-returns-in_ok-operation-in-None-clause-keeps
pointed-returns-in_ok-operation-in-None-clause-keeps t c = keeps_then (kept c.in_ok-known.ensures.still) (keeps_then c.in_ok-behind-in-None.ensures.keeps (kept c.in_ok-operation-in-None.ensures))

pub waiting-returns-clause-code : goal.waiting-returns-clause-code
waiting-returns-clause-code t c = λ w env m n is hk hd.
    let f = c.in_ok-save.ensures n hd in
    let h = c.in_ok-behind.ensures.code w env m (suc n) (here_still f is) hk (told_block (add-one n) (c.next.ensures n hd)) in
    record { leads = piece_leads f (leads_piece h (c.in_ok-restore.ensures n hd)); first = refl; second = refl }

pub waiting-returns-clause-keeps : goal.waiting-returns-clause-keeps
waiting-returns-clause-keeps t c = let same = same_number c.args.d in keeps_then (kept (c.in_ok-save.ensures c.args.d same)) (keeps_then c.in_ok-behind.ensures.keeps (kept (c.in_ok-restore.ensures c.args.d same)))

pub waiting-value-requires : goal.waiting-value-requires
waiting-value-requires t c = (first_of (search (rules, the_lemmas), grind (the_lemmas, arith, common_steps), grind (the_lemmas, arith, elements)), some_on c.args.out.now c.save.new.out c.args.here.now.declared (kept (c.in_ok-save.ensures c.args.d (same_number c.args.d))) c.requires)

pub second-returns-in_ok-ready-in-Some-clause-code : goal.second-returns-in_ok-ready-in-Some-clause-code
second-returns-in_ok-ready-in-Some-clause-code t c = λ w env m n is hk hd.
    let x = known_some c.in-Some.right c.args.out.now.literals (literal_count env.scope (expr_of c.args.b.now)) (plain.direct (expr_of c.args.b.now) w env) (subst (λ (o : Option found.Known). IsKnown c.args.out.now.literals (literal_count env.scope (expr_of c.args.b.now)) o (plain.direct (expr_of c.args.b.now) w env)) c.in-Some.is (c.in_ok-known.ensures.value w env is)) in
    subst (λ (o : Option plain.Direct). Readies c.args.out.now c.ready.new.out (second_side n o [] (λ d. value_code (expr_of c.args.b.now) w env m d)) (literal_count env.scope (expr_of c.args.b.now)) (record { first = A; second = c.operand_of.result; behind = c.plus.result }) (m + expr_jumps (expr_of c.args.b.now))) (sym x.1)
    (record { leads = leads (then_piece (piece_then c.in_ok-known.ensures.still (c.pass.ensures.passed (literal_count env.scope (expr_of c.args.b.now)) (behind_still c.in_ok-known.ensures.still x.3))) (c.in_ok-ready-in-Some.ensures x.0 x.2)) (c.plus.ensures m (expr_jumps (expr_of c.args.b.now)) hk c.jumps_of.ensures); first = refl; second = c.operand_of.ensures x.0 x.2 })

pub second-returns-in_ok-ready-in-Some-clause-keeps : goal.second-returns-in_ok-ready-in-Some-clause-keeps
second-returns-in_ok-ready-in-Some-clause-keeps t c = keeps_then (kept c.in_ok-known.ensures.still) (keeps_then c.pass.ensures.keeps (kept (c.in_ok-ready-in-Some.ensures (direct_of c.in-Some.right.value) (same_direct c.in-Some.right.value))))

pub second-waiting-requires : goal.second-waiting-requires
second-waiting-requires t c = (first_of (search (rules, the_lemmas), grind (the_lemmas, arith, common_steps), grind (the_lemmas, arith, elements)), some_on c.args.out.now c.direct.new.out c.args.here.now.declared (kept c.in_ok-known.ensures.still) c.requires)

pub second-returns-in-None-clause-code : goal.second-returns-in-None-clause-code
second-returns-in-None-clause-code t c = λ w env m n is hk hd.
    let x = known_none c.args.out.now.literals (literal_count env.scope (expr_of c.args.b.now)) (plain.direct (expr_of c.args.b.now) w env) (subst (λ (o : Option found.Known). IsKnown c.args.out.now.literals (literal_count env.scope (expr_of c.args.b.now)) o (plain.direct (expr_of c.args.b.now) w env)) c.in-None.is (c.in_ok-known.ensures.value w env is)) in
    if_ok c.waiting.result (λ r f. subst (λ (o : Option plain.Direct). Readies c.args.out.now c.waiting.new.out (second_side n o [] (λ d. value_code (expr_of c.args.b.now) w env m d)) (literal_count env.scope (expr_of c.args.b.now)) r (m + expr_jumps (expr_of c.args.b.now))) (sym x) (record { leads = piece_leads c.in_ok-known.ensures.still f.leads; first = f.first; second = f.second })) (c.waiting.ensures.code w env m n (here_still c.in_ok-known.ensures.still is) hk hd)

pub second-returns-in-None-clause-keeps : goal.second-returns-in-None-clause-keeps
second-returns-in-None-clause-keeps t c = on_ok c.waiting.result (λ k. keeps_then (kept c.in_ok-known.ensures.still) k) c.waiting.ensures.keeps

pub known_first-returns-in_ok-ready-in-Some-clause-code : goal.known_first-returns-in_ok-ready-in-Some-clause-code
known_first-returns-in_ok-ready-in-Some-clause-code t c = λ y hy w env m n is hk hd.
    let x = known_some c.in-Some.right c.args.out.now.literals (literal_count env.scope (expr_of c.args.b.now)) (plain.direct (expr_of c.args.b.now) w env) (subst (λ (o : Option found.Known). IsKnown c.args.out.now.literals (literal_count env.scope (expr_of c.args.b.now)) o (plain.direct (expr_of c.args.b.now) w env)) c.in-Some.is (c.in_ok-known.ensures.value w env is)) in
    let l = c.in_ok-load-in-Some.ensures y hy in
    let p = c.pass.ensures.passed (literal_count env.scope (expr_of c.args.b.now)) (behind_still l (behind_still c.in_ok-known.ensures.still x.3)) in
    subst (λ (o : Option plain.Direct). Readies c.args.out.now c.ready.new.out (operations.operands n (plain.is_quiet (expr_of c.args.b.now)) (Some y) o (operations.load_to A y) (λ d. value_code (expr_of c.args.b.now) w env m d)) (literal_count env.scope (expr_of c.args.b.now)) (record { first = A; second = c.operand_of.result; behind = c.plus.result }) (m + expr_jumps (expr_of c.args.b.now))) (sym x.1)
    (record { leads = leads (piece_then (piece_then c.in_ok-known.ensures.still l) (then_piece p (c.in_ok-ready-in-Some.ensures x.0 x.2))) (c.plus.ensures m (expr_jumps (expr_of c.args.b.now)) hk c.jumps_of.ensures); first = refl; second = c.operand_of.ensures x.0 x.2 })

pub known_first-returns-in_ok-ready-in-Some-clause-keeps : goal.known_first-returns-in_ok-ready-in-Some-clause-keeps
known_first-returns-in_ok-ready-in-Some-clause-keeps t c = keeps_then (kept c.in_ok-known.ensures.still) (keeps_then (kept (c.in_ok-load-in-Some.ensures (direct_of c.args.first) (same_direct c.args.first))) (keeps_then c.pass.ensures.keeps (kept (c.in_ok-ready-in-Some.ensures (direct_of c.in-Some.right.value) (same_direct c.in-Some.right.value)))))

pub known_first-evaluated_second-requires : goal.known_first-evaluated_second-requires
known_first-evaluated_second-requires t c = (first_of (search (rules, the_lemmas), grind (the_lemmas, arith, common_steps), grind (the_lemmas, arith, elements)), some_on c.args.out.now c.direct.new.out c.args.here.now.declared (kept c.in_ok-known.ensures.still) c.requires)

pub known_first-returns-in-None-clause-code : goal.known_first-returns-in-None-clause-code
known_first-returns-in-None-clause-code t c = λ y hy w env m n is hk hd.
    let x = known_none c.args.out.now.literals (literal_count env.scope (expr_of c.args.b.now)) (plain.direct (expr_of c.args.b.now) w env) (subst (λ (o : Option found.Known). IsKnown c.args.out.now.literals (literal_count env.scope (expr_of c.args.b.now)) o (plain.direct (expr_of c.args.b.now) w env)) c.in-None.is (c.in_ok-known.ensures.value w env is)) in
    if_ok c.evaluated_second.result (λ r f. subst (λ (o : Option plain.Direct). Readies c.args.out.now c.evaluated_second.new.out (operations.operands n (plain.is_quiet (expr_of c.args.b.now)) (Some y) o (operations.load_to A y) (λ d. value_code (expr_of c.args.b.now) w env m d)) (literal_count env.scope (expr_of c.args.b.now)) r (m + expr_jumps (expr_of c.args.b.now))) (sym x) (record { leads = piece_leads c.in_ok-known.ensures.still f.leads; first = f.first; second = f.second })) (c.evaluated_second.ensures.code y hy w env m n (here_still c.in_ok-known.ensures.still is) hk hd)

pub known_first-returns-in-None-clause-keeps : goal.known_first-returns-in-None-clause-keeps
known_first-returns-in-None-clause-keeps t c = on_ok c.evaluated_second.result (λ k. keeps_then (kept c.in_ok-known.ensures.still) k) c.evaluated_second.ensures.keeps

pub evaluated_second-returns-then-may_turn-clause-code : goal.evaluated_second-returns-then-may_turn-clause-code
evaluated_second-returns-then-may_turn-clause-code t c = λ y hy w env m n is hk hd.
    let f = c.in_ok-behind.ensures.code w env m n is hk hd in
    subst (λ (q : Bool). Readies c.args.out.now c.load.new.out (if q then operations.turned y (value_code (expr_of c.args.b.now) w env m n) else operations.waiting n (operations.load_to A y) (value_code (expr_of c.args.b.now) w env m (suc n))) (literal_count env.scope (expr_of c.args.b.now)) (record { first = B; second = register A; behind = c.in_ok-behind.behind }) (m + expr_jumps (expr_of c.args.b.now))) (sym (sym (c.may_turn.ensures y hy) ∙ c.if-may_turn.true))
    (record { leads = leads_piece f (c.in_ok-load.ensures y hy); first = refl; second = refl })

pub evaluated_second-returns-then-may_turn-clause-keeps : goal.evaluated_second-returns-then-may_turn-clause-keeps
evaluated_second-returns-then-may_turn-clause-keeps t c = keeps_then c.in_ok-behind.ensures.keeps (kept (c.in_ok-load.ensures (direct_of c.args.first) (same_direct c.args.first)))

pub evaluated_second-waiting-requires : goal.evaluated_second-waiting-requires
evaluated_second-waiting-requires t c = (first_of (search (rules, the_lemmas), grind (the_lemmas, arith, common_steps), grind (the_lemmas, arith, elements)), some_on c.args.out.now c.load-2.new.out c.args.here.now.declared ((kept (c.in_ok-load-2.ensures (direct_of c.args.first) (same_direct c.args.first)))) c.requires)

pub evaluated_second-returns-clause-code : goal.evaluated_second-returns-clause-code
evaluated_second-returns-clause-code t c = λ y hy w env m n is hk hd.
    let l = c.in_ok-load-2.ensures y hy in
    let f = c.in_ok-both.ensures.code w env m n (here_still l is) hk hd in
    subst (λ (q : Bool). Readies c.args.out.now c.waiting.new.out (if q then operations.turned y (value_code (expr_of c.args.b.now) w env m n) else operations.waiting n (operations.load_to A y) (value_code (expr_of c.args.b.now) w env m (suc n))) (literal_count env.scope (expr_of c.args.b.now)) c.in_ok-both.both (m + expr_jumps (expr_of c.args.b.now))) (sym (sym (c.may_turn.ensures y hy) ∙ c.if-may_turn.false))
    (record { leads = piece_leads l f.leads; first = f.first; second = f.second })

pub evaluated_second-returns-clause-keeps : goal.evaluated_second-returns-clause-keeps
evaluated_second-returns-clause-keeps t c = keeps_then (kept (c.in_ok-load-2.ensures (direct_of c.args.first) (same_direct c.args.first))) c.in_ok-both.ensures.keeps

pub operands-returns-in-Some-clause-code : goal.operands-returns-in-Some-clause-code
operands-returns-in-Some-clause-code t c = λ w env m n is hk hd.
    let x = known_some c.in-Some.first c.args.out.now.literals (literal_count env.scope (expr_of c.args.a.now)) (plain.direct (expr_of c.args.a.now) w env) (subst (λ (o : Option found.Known). IsKnown c.args.out.now.literals (literal_count env.scope (expr_of c.args.a.now)) o (plain.direct (expr_of c.args.a.now) w env)) c.in-Some.is (c.in_ok-known.ensures.value w env is)) in
    let p = piece_then c.in_ok-known.ensures.still (c.pass.ensures.passed (literal_count env.scope (expr_of c.args.a.now)) (behind_still c.in_ok-known.ensures.still x.3)) in
    if_ok c.known_first.result (λ r f.
    subst (λ (l : List Op). Readies c.args.out.now c.known_first.new.out (operations.operands n (plain.is_quiet (expr_of c.args.b.now)) (plain.direct (expr_of c.args.a.now) w env) (plain.direct (expr_of c.args.b.now) w (past (expr_of c.args.a.now) env)) l (right_code (expr_of c.args.a.now) (expr_of c.args.b.now) w env m)) (length (literals_in env.scope (expr_of c.args.a.now) ++ literals_in env.scope (expr_of c.args.b.now))) r (m + (expr_jumps (expr_of c.args.a.now) + expr_jumps (expr_of c.args.b.now)))) (sym (direct_code (expr_of c.args.a.now) w env m n x.0 x.1))
    (subst (λ (o : Option plain.Direct). Readies c.args.out.now c.known_first.new.out (operations.operands n (plain.is_quiet (expr_of c.args.b.now)) o (plain.direct (expr_of c.args.b.now) w (past (expr_of c.args.a.now) env)) (operations.load_to A x.0) (right_code (expr_of c.args.a.now) (expr_of c.args.b.now) w env m)) (length (literals_in env.scope (expr_of c.args.a.now) ++ literals_in env.scope (expr_of c.args.b.now))) r (m + (expr_jumps (expr_of c.args.a.now) + expr_jumps (expr_of c.args.b.now)))) (sym x.1) (record { leads = at_block (then_more m (expr_jumps (expr_of c.args.a.now)) (expr_jumps (expr_of c.args.b.now))) (literals_two (literals_in env.scope (expr_of c.args.a.now)) (literals_in env.scope (expr_of c.args.b.now)) p f.leads); first = f.first; second = f.second })))
    (c.known_first.ensures.code x.0 x.2 w (past (expr_of c.args.a.now) env) (m + expr_jumps (expr_of c.args.a.now)) n (here_on p is) (c.plus.ensures m (expr_jumps (expr_of c.args.a.now)) hk c.jumps_of.ensures) hd)

pub operands-known_first-requires : goal.operands-known_first-requires
operands-known_first-requires t c = (first_of (search (rules, the_lemmas), grind (the_lemmas, arith, common_steps), grind (the_lemmas, arith, elements)), some_on c.args.out.now c.pass.new.out c.args.here.now.declared (keeps_then (kept c.in_ok-known.ensures.still) c.pass.ensures.keeps) c.requires)

pub operands-returns-in-Some-clause-keeps : goal.operands-returns-in-Some-clause-keeps
operands-returns-in-Some-clause-keeps t c = on_ok c.known_first.result (λ k. keeps_then (kept c.in_ok-known.ensures.still) (keeps_then c.pass.ensures.keeps k)) c.known_first.ensures.keeps

pub operands-value-requires : goal.operands-value-requires
operands-value-requires t c = (first_of (search (rules, the_lemmas), grind (the_lemmas, arith, common_steps), grind (the_lemmas, arith, elements)), some_on c.args.out.now c.direct.new.out c.args.here.now.declared (kept c.in_ok-known.ensures.still) c.requires)

pub operands-second-requires : goal.operands-second-requires
operands-second-requires t c = (first_of (search (rules, the_lemmas), grind (the_lemmas, arith, common_steps), grind (the_lemmas, arith, elements)), some_on c.args.out.now c.value.new.out c.args.here.now.declared (keeps_then (kept c.in_ok-known.ensures.still) c.in_ok-between-in-None.ensures.keeps) c.requires)

pub operands-returns-in_ok-both-in-None-clause-code : goal.operands-returns-in_ok-both-in-None-clause-code
operands-returns-in_ok-both-in-None-clause-code t c = λ w env m n is hk hd.
    let x = known_none c.args.out.now.literals (literal_count env.scope (expr_of c.args.a.now)) (plain.direct (expr_of c.args.a.now) w env) (subst (λ (o : Option found.Known). IsKnown c.args.out.now.literals (literal_count env.scope (expr_of c.args.a.now)) o (plain.direct (expr_of c.args.a.now) w env)) c.in-None.is (c.in_ok-known.ensures.value w env is)) in
    let f = piece_leads c.in_ok-known.ensures.still (c.in_ok-between-in-None.ensures.code w env m n (here_still c.in_ok-known.ensures.still is) hk hd) in
    let h = c.in_ok-both-in-None.ensures.code w (past (expr_of c.args.a.now) env) (m + expr_jumps (expr_of c.args.a.now)) n (here_on f.emits is) f.block hd in
    subst (λ (o : Option plain.Direct). Readies c.args.out.now c.second.new.out (operations.operands n (plain.is_quiet (expr_of c.args.b.now)) o (plain.direct (expr_of c.args.b.now) w (past (expr_of c.args.a.now) env)) (value_code (expr_of c.args.a.now) w env m n) (right_code (expr_of c.args.a.now) (expr_of c.args.b.now) w env m)) (length (literals_in env.scope (expr_of c.args.a.now) ++ literals_in env.scope (expr_of c.args.b.now))) c.in_ok-both-in-None.both (m + (expr_jumps (expr_of c.args.a.now) + expr_jumps (expr_of c.args.b.now)))) (sym x)
    (second_behind (expr_of c.args.a.now) (expr_of c.args.b.now) w env m n f h)

pub operands-returns-in_ok-both-in-None-clause-keeps : goal.operands-returns-in_ok-both-in-None-clause-keeps
operands-returns-in_ok-both-in-None-clause-keeps t c = keeps_then (kept c.in_ok-known.ensures.still) (keeps_then c.in_ok-between-in-None.ensures.keeps c.in_ok-both-in-None.ensures.keeps)

pub stored-returns-in_ok-operation-in-Some-2-clause-code : goal.stored-returns-in_ok-operation-in-Some-2-clause-code
stored-returns-in_ok-operation-in-Some-2-clause-code t c = λ w env m n is hk hd.
    let x = known_some c.in-Some.right c.args.out.now.literals (literal_count env.scope (expr_of c.args.b.now)) (plain.direct (expr_of c.args.b.now) w env) (subst (λ (o : Option found.Known). IsKnown c.args.out.now.literals (literal_count env.scope (expr_of c.args.b.now)) o (plain.direct (expr_of c.args.b.now) w env)) c.in-Some.is (c.in_ok-known.ensures.value w env is)) in
    let o1 = c.in_ok-operation-in-Some.ensures in
    let l = c.in_ok-put_known-in-Some.ensures.code x.0 (literal_count env.scope (expr_of c.args.b.now)) x.2 (behind_still o1 (behind_still c.in_ok-known.ensures.still x.3)) in
    subst (λ (o : Option plain.Direct). Leads c.args.out.now c.operation-in-Some.new.out (stored_code n o (λ d. value_code (expr_of c.args.b.now) w env m d)) (literal_count env.scope (expr_of c.args.b.now)) c.plus.result (m + expr_jumps (expr_of c.args.b.now))) (sym x.1)
    (leads (piece_then (piece_then c.in_ok-known.ensures.still o1) (then_piece l c.in_ok-operation-in-Some-2.ensures)) (c.plus.ensures m (expr_jumps (expr_of c.args.b.now)) hk c.jumps_of.ensures))

pub stored-returns-in_ok-operation-in-Some-2-clause-keeps : goal.stored-returns-in_ok-operation-in-Some-2-clause-keeps
stored-returns-in_ok-operation-in-Some-2-clause-keeps t c = keeps_then (kept c.in_ok-known.ensures.still) (keeps_then (kept c.in_ok-operation-in-Some.ensures) (keeps_then c.in_ok-put_known-in-Some.ensures.keeps (kept c.in_ok-operation-in-Some-2.ensures)))

pub stored-value-requires : goal.stored-value-requires
stored-value-requires t c = (first_of (search (rules, the_lemmas), grind (the_lemmas, arith, common_steps), grind (the_lemmas, arith, elements)), some_on c.args.out.now c.save.new.out c.args.here.now.declared ((keeps_then (kept c.in_ok-known.ensures.still) (kept (c.in_ok-save-in-None.ensures c.args.d (same_number c.args.d))))) c.requires)

pub stored-returns-in_ok-operation-in-None-clause-code : goal.stored-returns-in_ok-operation-in-None-clause-code
stored-returns-in_ok-operation-in-None-clause-code t c = λ w env m n is hk hd.
    let x = known_none c.args.out.now.literals (literal_count env.scope (expr_of c.args.b.now)) (plain.direct (expr_of c.args.b.now) w env) (subst (λ (o : Option found.Known). IsKnown c.args.out.now.literals (literal_count env.scope (expr_of c.args.b.now)) o (plain.direct (expr_of c.args.b.now) w env)) c.in-None.is (c.in_ok-known.ensures.value w env is)) in
    let f = piece_then c.in_ok-known.ensures.still (c.in_ok-save-in-None.ensures n hd) in
    let h = c.in_ok-behind-in-None.ensures.code w env m (suc n) (here_still f is) hk (told_block (add-one n) (c.next.ensures n hd)) in
    subst (λ (o : Option plain.Direct). Leads c.args.out.now c.operation-in-None.new.out (stored_code n o (λ d. value_code (expr_of c.args.b.now) w env m d)) (literal_count env.scope (expr_of c.args.b.now)) c.in_ok-behind-in-None.behind (m + expr_jumps (expr_of c.args.b.now))) (sym x)
    (piece_leads f (leads_piece h (then_piece (c.in_ok-restore-in-None.ensures n hd) c.in_ok-operation-in-None.ensures)))

pub stored-returns-in_ok-operation-in-None-clause-keeps : goal.stored-returns-in_ok-operation-in-None-clause-keeps
stored-returns-in_ok-operation-in-None-clause-keeps t c = keeps_then (keeps_then (kept c.in_ok-known.ensures.still) (kept (c.in_ok-save-in-None.ensures c.args.d (same_number c.args.d)))) (keeps_then c.in_ok-behind-in-None.ensures.keeps (keeps_then (kept (c.in_ok-restore-in-None.ensures c.args.d (same_number c.args.d))) (kept c.in_ok-operation-in-None.ensures)))

pub changed-returns-in_ok-update_by-in-Some-clause-code : goal.changed-returns-in_ok-update_by-in-Some-clause-code
changed-returns-in_ok-update_by-in-Some-clause-code t c = λ w env m n is hk hd.
    let x = known_some c.in-Some.right c.args.out.now.literals (literal_count env.scope (expr_of c.args.b.now)) (plain.direct (expr_of c.args.b.now) w env) (subst (λ (o : Option found.Known). IsKnown c.args.out.now.literals (literal_count env.scope (expr_of c.args.b.now)) o (plain.direct (expr_of c.args.b.now) w env)) c.in-Some.is (c.in_ok-known.ensures.value w env is)) in
    let o1 = c.in_ok-operation-in-Some.ensures in
    let p = c.pass.ensures.passed (literal_count env.scope (expr_of c.args.b.now)) (behind_still o1 (behind_still c.in_ok-known.ensures.still x.3)) in
    subst (λ (o : Option plain.Direct). Leads c.args.out.now c.update_by.new.out (changed_code c.args.op n o (λ d. value_code (expr_of c.args.b.now) w env m d)) (literal_count env.scope (expr_of c.args.b.now)) c.plus.result (m + expr_jumps (expr_of c.args.b.now))) (sym x.1)
    (leads (piece_then (piece_then c.in_ok-known.ensures.still o1) (then_piece p (c.in_ok-update_by-in-Some.ensures x.0 x.2))) (c.plus.ensures m (expr_jumps (expr_of c.args.b.now)) hk c.jumps_of.ensures))

pub changed-returns-in_ok-update_by-in-Some-clause-keeps : goal.changed-returns-in_ok-update_by-in-Some-clause-keeps
changed-returns-in_ok-update_by-in-Some-clause-keeps t c = keeps_then (kept c.in_ok-known.ensures.still) (keeps_then (kept c.in_ok-operation-in-Some.ensures) (keeps_then c.pass.ensures.keeps (kept (c.in_ok-update_by-in-Some.ensures (direct_of c.in-Some.right.value) (same_direct c.in-Some.right.value)))))

pub changed-value-requires : goal.changed-value-requires
changed-value-requires t c = (first_of (search (rules, the_lemmas), grind (the_lemmas, arith, common_steps), grind (the_lemmas, arith, elements)), some_on c.args.out.now c.save.new.out c.args.here.now.declared ((keeps_then (kept c.in_ok-known.ensures.still) (kept (c.in_ok-save-in-None.ensures c.args.d (same_number c.args.d))))) c.requires)

pub changed-returns-in_ok-update_by_value-in-None-clause-code : goal.changed-returns-in_ok-update_by_value-in-None-clause-code
changed-returns-in_ok-update_by_value-in-None-clause-code t c = λ w env m n is hk hd.
    let x = known_none c.args.out.now.literals (literal_count env.scope (expr_of c.args.b.now)) (plain.direct (expr_of c.args.b.now) w env) (subst (λ (o : Option found.Known). IsKnown c.args.out.now.literals (literal_count env.scope (expr_of c.args.b.now)) o (plain.direct (expr_of c.args.b.now) w env)) c.in-None.is (c.in_ok-known.ensures.value w env is)) in
    let f = piece_then c.in_ok-known.ensures.still (c.in_ok-save-in-None.ensures n hd) in
    let h = c.in_ok-behind-in-None.ensures.code w env m (suc n) (here_still f is) hk (told_block (add-one n) (c.next.ensures n hd)) in
    subst (λ (o : Option plain.Direct). Leads c.args.out.now c.update_by_value.new.out (changed_code c.args.op n o (λ d. value_code (expr_of c.args.b.now) w env m d)) (literal_count env.scope (expr_of c.args.b.now)) c.in_ok-behind-in-None.behind (m + expr_jumps (expr_of c.args.b.now))) (sym x)
    (piece_leads f (leads_piece h (then_piece (c.in_ok-restore-in-None.ensures n hd) c.in_ok-update_by_value-in-None.ensures)))

pub changed-returns-in_ok-update_by_value-in-None-clause-keeps : goal.changed-returns-in_ok-update_by_value-in-None-clause-keeps
changed-returns-in_ok-update_by_value-in-None-clause-keeps t c = keeps_then (keeps_then (kept c.in_ok-known.ensures.still) (kept (c.in_ok-save-in-None.ensures c.args.d (same_number c.args.d)))) (keeps_then c.in_ok-behind-in-None.ensures.keeps (keeps_then (kept (c.in_ok-restore-in-None.ensures c.args.d (same_number c.args.d))) (kept c.in_ok-update_by_value-in-None.ensures)))

pub assigned-returns-in_ok-store-in-Some-clause-code : goal.assigned-returns-in_ok-store-in-Some-clause-code
assigned-returns-in_ok-store-in-Some-clause-code t c = λ w env m n is hk hd.
    let x = spot_some c.in-Some.spot c.args.out.now.literals (literal_count env.scope (expr_of c.args.a.now)) (plain.known_place (expr_of c.args.a.now) w env) (subst (λ (o : Option Spot). IsSpot c.args.out.now.literals (literal_count env.scope (expr_of c.args.a.now)) o (plain.known_place (expr_of c.args.a.now) w env)) c.in-Some.is (c.in_ok-known.ensures.place w env is)) in
    let p = piece_then c.in_ok-known.ensures.still (c.pass.ensures.passed (literal_count env.scope (expr_of c.args.a.now)) (behind_still c.in_ok-known.ensures.still x.3)) in
    let f = c.in_ok-behind-in-Some.ensures.code w (past (expr_of c.args.a.now) env) (m + expr_jumps (expr_of c.args.a.now)) n (here_on p is) (c.plus.ensures m (expr_jumps (expr_of c.args.a.now)) hk c.jumps_of.ensures) hd in
    subst (λ (o : Option plain.Location). Leads c.args.out.now c.store.new.out (assigned_code n o (plain.direct (expr_of c.args.b.now) w (past (expr_of c.args.a.now) env)) (address_code (expr_of c.args.a.now) w env m n) (right_code (expr_of c.args.a.now) (expr_of c.args.b.now) w env m)) (length (literals_in env.scope (expr_of c.args.a.now) ++ literals_in env.scope (expr_of c.args.b.now))) c.in_ok-behind-in-Some.behind (m + (expr_jumps (expr_of c.args.a.now) + expr_jumps (expr_of c.args.b.now)))) (sym x.1)
    (at_block (then_more m (expr_jumps (expr_of c.args.a.now)) (expr_jumps (expr_of c.args.b.now))) (literals_two (literals_in env.scope (expr_of c.args.a.now)) (literals_in env.scope (expr_of c.args.b.now)) p (leads_piece f (c.in_ok-store-in-Some.ensures x.0 x.2))))

pub assigned-returns-in_ok-store-in-Some-clause-keeps : goal.assigned-returns-in_ok-store-in-Some-clause-keeps
assigned-returns-in_ok-store-in-Some-clause-keeps t c = keeps_then (kept c.in_ok-known.ensures.still) (keeps_then c.pass.ensures.keeps (keeps_then c.in_ok-behind-in-Some.ensures.keeps (kept (c.in_ok-store-in-Some.ensures (location_of c.in-Some.spot.place) (same_location c.in-Some.spot.place)))))

pub assigned-value-requires : goal.assigned-value-requires
assigned-value-requires t c = (first_of (search (rules, the_lemmas), grind (the_lemmas, arith, common_steps), grind (the_lemmas, arith, elements)), some_on c.args.out.now c.pass.new.out c.args.here.now.declared (keeps_then (kept c.in_ok-known.ensures.still) c.pass.ensures.keeps) c.requires)

pub assigned-place-requires : goal.assigned-place-requires
assigned-place-requires t c = (first_of (search (rules, the_lemmas), grind (the_lemmas, arith, common_steps), grind (the_lemmas, arith, elements)), some_on c.args.out.now c.known_place.new.out c.args.here.now.declared (kept c.in_ok-known.ensures.still) c.requires)

pub assigned-stored-requires : goal.assigned-stored-requires
assigned-stored-requires t c = (first_of (search (rules, the_lemmas), grind (the_lemmas, arith, common_steps), grind (the_lemmas, arith, elements)), some_on c.args.out.now c.place.new.out c.args.here.now.declared (keeps_then (kept c.in_ok-known.ensures.still) c.in_ok-between-in-None.ensures.keeps) c.requires)

pub assigned-returns-in_ok-behind-in-None-clause-code : goal.assigned-returns-in_ok-behind-in-None-clause-code
assigned-returns-in_ok-behind-in-None-clause-code t c = λ w env m n is hk hd.
    let x = spot_none c.args.out.now.literals (literal_count env.scope (expr_of c.args.a.now)) (plain.known_place (expr_of c.args.a.now) w env) (subst (λ (o : Option Spot). IsSpot c.args.out.now.literals (literal_count env.scope (expr_of c.args.a.now)) o (plain.known_place (expr_of c.args.a.now) w env)) c.in-None.is (c.in_ok-known.ensures.place w env is)) in
    let f = piece_leads c.in_ok-known.ensures.still (c.in_ok-between-in-None.ensures.code w env m n (here_still c.in_ok-known.ensures.still is) hk hd) in
    let h = c.in_ok-behind-in-None.ensures.code w (past (expr_of c.args.a.now) env) (m + expr_jumps (expr_of c.args.a.now)) n (here_on f.emits is) f.block hd in
    subst (λ (o : Option plain.Location). Leads c.args.out.now c.stored.new.out (assigned_code n o (plain.direct (expr_of c.args.b.now) w (past (expr_of c.args.a.now) env)) (address_code (expr_of c.args.a.now) w env m n) (right_code (expr_of c.args.a.now) (expr_of c.args.b.now) w env m)) (length (literals_in env.scope (expr_of c.args.a.now) ++ literals_in env.scope (expr_of c.args.b.now))) c.in_ok-behind-in-None.behind (m + (expr_jumps (expr_of c.args.a.now) + expr_jumps (expr_of c.args.b.now)))) (sym x)
    (at_block (then_more m (expr_jumps (expr_of c.args.a.now)) (expr_jumps (expr_of c.args.b.now))) (as_lead (assigned_behind n (plain.direct (expr_of c.args.b.now) w (past (expr_of c.args.a.now) env)) (address_code (expr_of c.args.a.now) w env m n) (right_code (expr_of c.args.a.now) (expr_of c.args.b.now) w env m)) (leads_two (literals_in env.scope (expr_of c.args.a.now)) (literals_in env.scope (expr_of c.args.b.now)) f h)))

pub assigned-returns-in_ok-behind-in-None-clause-keeps : goal.assigned-returns-in_ok-behind-in-None-clause-keeps
assigned-returns-in_ok-behind-in-None-clause-keeps t c = keeps_then (kept c.in_ok-known.ensures.still) (keeps_then c.in_ok-between-in-None.ensures.keeps c.in_ok-behind-in-None.ensures.keeps)

pub updated-returns-in-Some-clause-code : goal.updated-returns-in-Some-clause-code
updated-returns-in-Some-clause-code t c = λ w env m n is hk hd.
    let x = spot_some c.in-Some.spot c.args.out.now.literals (literal_count env.scope (expr_of c.args.a.now)) (plain.known_place (expr_of c.args.a.now) w env) (subst (λ (o : Option Spot). IsSpot c.args.out.now.literals (literal_count env.scope (expr_of c.args.a.now)) o (plain.known_place (expr_of c.args.a.now) w env)) c.in-Some.is (c.in_ok-known.ensures.place w env is)) in
    let p = piece_then c.in_ok-known.ensures.still (c.pass.ensures.passed (literal_count env.scope (expr_of c.args.a.now)) (behind_still c.in_ok-known.ensures.still x.3)) in
    if_ok c.updated_spot.result (λ r f. subst (λ (o : Option plain.Location). Leads c.args.out.now c.updated_spot.new.out (updated_code c.args.op n o (plain.direct (expr_of c.args.b.now) w (past (expr_of c.args.a.now) env)) (address_code (expr_of c.args.a.now) w env m n) (right_code (expr_of c.args.a.now) (expr_of c.args.b.now) w env m)) (length (literals_in env.scope (expr_of c.args.a.now) ++ literals_in env.scope (expr_of c.args.b.now))) r (m + (expr_jumps (expr_of c.args.a.now) + expr_jumps (expr_of c.args.b.now)))) (sym x.1)
    (at_block (then_more m (expr_jumps (expr_of c.args.a.now)) (expr_jumps (expr_of c.args.b.now))) (literals_two (literals_in env.scope (expr_of c.args.a.now)) (literals_in env.scope (expr_of c.args.b.now)) p (as_lead (spot_updated c.args.op n x.0 (plain.direct (expr_of c.args.b.now) w (past (expr_of c.args.a.now) env)) [] (address_code (expr_of c.args.a.now) w env m n) (right_code (expr_of c.args.a.now) (expr_of c.args.b.now) w env m)) f))))
    (c.updated_spot.ensures.code x.0 x.2 w (past (expr_of c.args.a.now) env) (m + expr_jumps (expr_of c.args.a.now)) n (here_on p is) (c.plus.ensures m (expr_jumps (expr_of c.args.a.now)) hk c.jumps_of.ensures) hd)

pub updated-returns-in-Some-clause-keeps : goal.updated-returns-in-Some-clause-keeps
updated-returns-in-Some-clause-keeps t c = on_ok c.updated_spot.result (λ k. keeps_then (kept c.in_ok-known.ensures.still) (keeps_then c.pass.ensures.keeps k)) c.updated_spot.ensures.keeps

pub updated-updated_spot-requires : goal.updated-updated_spot-requires
updated-updated_spot-requires t c = (first_of (search (rules, the_lemmas), grind (the_lemmas, arith, common_steps), grind (the_lemmas, arith, elements)), some_on c.args.out.now c.pass.new.out c.args.here.now.declared (keeps_then (kept c.in_ok-known.ensures.still) c.pass.ensures.keeps) c.requires)

pub updated-place-requires : goal.updated-place-requires
updated-place-requires t c = (first_of (search (rules, the_lemmas), grind (the_lemmas, arith, common_steps), grind (the_lemmas, arith, elements)), some_on c.args.out.now c.known_place.new.out c.args.here.now.declared (kept c.in_ok-known.ensures.still) c.requires)

pub updated-changed-requires : goal.updated-changed-requires
updated-changed-requires t c = (first_of (search (rules, the_lemmas), grind (the_lemmas, arith, common_steps), grind (the_lemmas, arith, elements)), some_on c.args.out.now c.place.new.out c.args.here.now.declared (keeps_then (kept c.in_ok-known.ensures.still) c.in_ok-between-in-None.ensures.keeps) c.requires)

pub updated-returns-in_ok-behind-in-None-clause-code : goal.updated-returns-in_ok-behind-in-None-clause-code
updated-returns-in_ok-behind-in-None-clause-code t c = λ w env m n is hk hd.
    let x = spot_none c.args.out.now.literals (literal_count env.scope (expr_of c.args.a.now)) (plain.known_place (expr_of c.args.a.now) w env) (subst (λ (o : Option Spot). IsSpot c.args.out.now.literals (literal_count env.scope (expr_of c.args.a.now)) o (plain.known_place (expr_of c.args.a.now) w env)) c.in-None.is (c.in_ok-known.ensures.place w env is)) in
    let f = piece_leads c.in_ok-known.ensures.still (c.in_ok-between-in-None.ensures.code w env m n (here_still c.in_ok-known.ensures.still is) hk hd) in
    let h = c.in_ok-behind-in-None.ensures.code w (past (expr_of c.args.a.now) env) (m + expr_jumps (expr_of c.args.a.now)) n (here_on f.emits is) f.block hd in
    subst (λ (o : Option plain.Location). Leads c.args.out.now c.changed.new.out (updated_code c.args.op n o (plain.direct (expr_of c.args.b.now) w (past (expr_of c.args.a.now) env)) (address_code (expr_of c.args.a.now) w env m n) (right_code (expr_of c.args.a.now) (expr_of c.args.b.now) w env m)) (length (literals_in env.scope (expr_of c.args.a.now) ++ literals_in env.scope (expr_of c.args.b.now))) c.in_ok-behind-in-None.behind (m + (expr_jumps (expr_of c.args.a.now) + expr_jumps (expr_of c.args.b.now)))) (sym x)
    (at_block (then_more m (expr_jumps (expr_of c.args.a.now)) (expr_jumps (expr_of c.args.b.now))) (as_lead (updated_behind c.args.op n (plain.direct (expr_of c.args.b.now) w (past (expr_of c.args.a.now) env)) (address_code (expr_of c.args.a.now) w env m n) (right_code (expr_of c.args.a.now) (expr_of c.args.b.now) w env m)) (leads_two (literals_in env.scope (expr_of c.args.a.now)) (literals_in env.scope (expr_of c.args.b.now)) f h)))

pub updated-returns-in_ok-behind-in-None-clause-keeps : goal.updated-returns-in_ok-behind-in-None-clause-keeps
updated-returns-in_ok-behind-in-None-clause-keeps t c = keeps_then (kept c.in_ok-known.ensures.still) (keeps_then c.in_ok-between-in-None.ensures.keeps c.in_ok-behind-in-None.ensures.keeps)

pub updated_spot-returns-in_ok-update_by-in-Some-clause-code : goal.updated_spot-returns-in_ok-update_by-in-Some-clause-code
updated_spot-returns-in_ok-update_by-in-Some-clause-code t c = λ l hl w env m n is hk hd.
    let x = known_some c.in-Some.right c.args.out.now.literals (literal_count env.scope (expr_of c.args.b.now)) (plain.direct (expr_of c.args.b.now) w env) (subst (λ (o : Option found.Known). IsKnown c.args.out.now.literals (literal_count env.scope (expr_of c.args.b.now)) o (plain.direct (expr_of c.args.b.now) w env)) c.in-Some.is (c.in_ok-known.ensures.value w env is)) in
    let o1 = c.in_ok-point-in-Some.ensures l hl in
    let p = c.pass.ensures.passed (literal_count env.scope (expr_of c.args.b.now)) (behind_still o1 (behind_still c.in_ok-known.ensures.still x.3)) in
    subst (λ (o : Option plain.Direct). Leads c.args.out.now c.update_by.new.out (updated_code c.args.op n (Some l) o [] (λ d. value_code (expr_of c.args.b.now) w env m d)) (literal_count env.scope (expr_of c.args.b.now)) c.plus.result (m + expr_jumps (expr_of c.args.b.now))) (sym x.1)
    (leads (piece_then (piece_then c.in_ok-known.ensures.still o1) (then_piece p (c.in_ok-update_by-in-Some.ensures x.0 x.2))) (c.plus.ensures m (expr_jumps (expr_of c.args.b.now)) hk c.jumps_of.ensures))

pub updated_spot-returns-in_ok-update_by-in-Some-clause-keeps : goal.updated_spot-returns-in_ok-update_by-in-Some-clause-keeps
updated_spot-returns-in_ok-update_by-in-Some-clause-keeps t c = keeps_then (kept c.in_ok-known.ensures.still) (keeps_then (kept (c.in_ok-point-in-Some.ensures (location_of c.args.spot) (same_location c.args.spot))) (keeps_then c.pass.ensures.keeps (kept (c.in_ok-update_by-in-Some.ensures (direct_of c.in-Some.right.value) (same_direct c.in-Some.right.value)))))

pub updated_spot-value-requires : goal.updated_spot-value-requires
updated_spot-value-requires t c = (first_of (search (rules, the_lemmas), grind (the_lemmas, arith, common_steps), grind (the_lemmas, arith, elements)), some_on c.args.out.now c.direct.new.out c.args.here.now.declared (kept c.in_ok-known.ensures.still) c.requires)

pub updated_spot-returns-in_ok-update_by_value-in-None-clause-code : goal.updated_spot-returns-in_ok-update_by_value-in-None-clause-code
updated_spot-returns-in_ok-update_by_value-in-None-clause-code t c = λ l hl w env m n is hk hd.
    let x = known_none c.args.out.now.literals (literal_count env.scope (expr_of c.args.b.now)) (plain.direct (expr_of c.args.b.now) w env) (subst (λ (o : Option found.Known). IsKnown c.args.out.now.literals (literal_count env.scope (expr_of c.args.b.now)) o (plain.direct (expr_of c.args.b.now) w env)) c.in-None.is (c.in_ok-known.ensures.value w env is)) in
    let h = piece_leads c.in_ok-known.ensures.still (c.in_ok-behind-in-None.ensures.code w env m n (here_still c.in_ok-known.ensures.still is) hk hd) in
    subst (λ (o : Option plain.Direct). Leads c.args.out.now c.update_by_value.new.out (updated_code c.args.op n (Some l) o [] (λ d. value_code (expr_of c.args.b.now) w env m d)) (literal_count env.scope (expr_of c.args.b.now)) c.in_ok-behind-in-None.behind (m + expr_jumps (expr_of c.args.b.now))) (sym x)
    (leads_piece h (then_piece (c.in_ok-point-in-None.ensures l hl) c.in_ok-update_by_value-in-None.ensures))

pub updated_spot-returns-in_ok-update_by_value-in-None-clause-keeps : goal.updated_spot-returns-in_ok-update_by_value-in-None-clause-keeps
updated_spot-returns-in_ok-update_by_value-in-None-clause-keeps t c = keeps_then (kept c.in_ok-known.ensures.still) (keeps_then c.in_ok-behind-in-None.ensures.keeps (keeps_then (kept (c.in_ok-point-in-None.ensures (location_of c.args.spot) (same_location c.args.spot))) (kept c.in_ok-update_by_value-in-None.ensures)))

pub assignment-returns-in-None-clause-code : goal.assignment-returns-in-None-clause-code
assignment-returns-in-None-clause-code t c = λ w env m n is hk hd. subst (λ (o : Option BinOp). IfOk c.assigned.result (λ r. Leads c.args.out.now c.assigned.new.out (assignment_code o n (plain.known_place (expr_of c.args.a.now) w env) (plain.direct (expr_of c.args.b.now) w (past (expr_of c.args.a.now) env)) (address_code (expr_of c.args.a.now) w env m n) (right_code (expr_of c.args.a.now) (expr_of c.args.b.now) w env m)) (length (literals_in env.scope (expr_of c.args.a.now) ++ literals_in env.scope (expr_of c.args.b.now))) r (m + (expr_jumps (expr_of c.args.a.now) + expr_jumps (expr_of c.args.b.now))))) (sym c.in-None.is) (c.assigned.ensures.code w env m n is hk hd)

pub assignment-returns-in-Some-clause-code : goal.assignment-returns-in-Some-clause-code
assignment-returns-in-Some-clause-code t c = λ w env m n is hk hd. subst (λ (o : Option BinOp). IfOk c.updated.result (λ r. Leads c.args.out.now c.updated.new.out (assignment_code o n (plain.known_place (expr_of c.args.a.now) w env) (plain.direct (expr_of c.args.b.now) w (past (expr_of c.args.a.now) env)) (address_code (expr_of c.args.a.now) w env m n) (right_code (expr_of c.args.a.now) (expr_of c.args.b.now) w env m)) (length (literals_in env.scope (expr_of c.args.a.now) ++ literals_in env.scope (expr_of c.args.b.now))) r (m + (expr_jumps (expr_of c.args.a.now) + expr_jumps (expr_of c.args.b.now))))) (sym c.in-Some.is) (c.updated.ensures.code w env m n is hk hd)

pub operation_value-operands-requires : goal.operation_value-operands-requires
operation_value-operands-requires t c = (first_of (search (rules, the_lemmas), grind (the_lemmas, arith, common_steps), grind (the_lemmas, arith, elements)), some_on c.args.out.now c.signed.new.out c.args.here.now.declared (kept c.in_ok-orders.ensures.still) c.requires)

pub comparison-operands-requires : goal.comparison-operands-requires
comparison-operands-requires t c = (first_of (search (rules, the_lemmas), grind (the_lemmas, arith, common_steps), grind (the_lemmas, arith, elements)), some_on c.args.out.now c.signed.new.out c.args.here.now.declared (kept c.in_ok-orders.ensures.still) c.requires)

pub operation_value-returns-clause-code : goal.operation_value-returns-clause-code
operation_value-returns-clause-code t c = λ w env m n is hk hd.
    let e0 = c.in_ok-orders.ensures.still in
    let b = c.in_ok-both.ensures.code w env m n (here_still e0 is) hk hd in
    as_lead (operator_is c.args.op c.in_ok-orders.orders (operations.is_signed c.args.op (value_type_in env.scope (expr_of c.args.a.now)) (value_type_in env.scope (expr_of c.args.b.now))) c.in_ok-both.both.first c.in_ok-both.both.second (sides (expr_of c.args.a.now) (expr_of c.args.b.now) w env m n) (c.in_ok-orders.ensures.signed env.scope is.holds) b.first b.second)
    (leads_piece (piece_leads e0 b.leads) c.in_ok-operator.ensures)

pub operation_value-returns-clause-keeps : goal.operation_value-returns-clause-keeps
operation_value-returns-clause-keeps t c = keeps_then (kept c.in_ok-orders.ensures.still) (keeps_then c.in_ok-both.ensures.keeps (kept c.in_ok-operator.ensures))

pub comparison-returns-clause-code : goal.comparison-returns-clause-code
comparison-returns-clause-code t c = λ t ht w env m n is hk hd.
    let e0 = c.in_ok-orders.ensures.still in
    let b = c.in_ok-both.ensures.code w env m n (here_still e0 is) hk hd in
    as_lead (comparison_is c.args.holds t c.args.test c.in_ok-orders.orders (operations.is_signed c.args.op (value_type_in env.scope (expr_of c.args.a.now)) (value_type_in env.scope (expr_of c.args.b.now))) c.in_ok-both.both.first c.in_ok-both.both.second (sides (expr_of c.args.a.now) (expr_of c.args.b.now) w env m n) (c.in_ok-orders.ensures.signed env.scope is.holds) b.first b.second)
    (leads (then_piece (piece_leads e0 b.leads).emits (c.in_ok-comparison_jump.ensures.code t ht)) (told_block (one_more m (expr_jumps (expr_of c.args.a.now) + expr_jumps (expr_of c.args.b.now))) (c.next.ensures (m + (expr_jumps (expr_of c.args.a.now) + expr_jumps (expr_of c.args.b.now))) b.leads.block)))

pub comparison-returns-clause-keeps : goal.comparison-returns-clause-keeps
comparison-returns-clause-keeps t c = keeps_then (kept c.in_ok-orders.ensures.still) (keeps_then c.in_ok-both.ensures.keeps c.in_ok-comparison_jump.ensures.keeps)

pub junction-returns-clause-code : goal.junction-returns-clause-code
junction-returns-clause-code t c = λ t ht w env m n is hk hd.
    let hend = told_block (sym (then_more m (truth_jumps (expr_of c.args.a.now)) (truth_jumps (expr_of c.args.b.now)))) (c.plus-end.ensures m (truth_jumps (expr_of c.args.a.now) + truth_jumps (expr_of c.args.b.now)) hk (c.plus.ensures (truth_jumps (expr_of c.args.a.now)) (truth_jumps (expr_of c.args.b.now)) c.truth_jumps_of.ensures c.truth_jumps_of-2.ensures)) in
    let f = c.in_ok-between.ensures.code (aimed c.args.decides c.args.holds t (m + truth_jumps (expr_of c.args.a.now) + truth_jumps (expr_of c.args.b.now))) (c.aim.ensures t (m + truth_jumps (expr_of c.args.a.now) + truth_jumps (expr_of c.args.b.now)) ht hend) w env m n is hk hd in
    let h = c.in_ok-behind.ensures.code t ht w (past (expr_of c.args.a.now) env) (m + truth_jumps (expr_of c.args.a.now)) n (here_on f.emits is) f.block hd in
    at_block (then_more m (truth_jumps (expr_of c.args.a.now)) (truth_jumps (expr_of c.args.b.now))) (as_lead (junction_is c.args.decides c.args.holds t (m + truth_jumps (expr_of c.args.a.now) + truth_jumps (expr_of c.args.b.now)) (λ holds target. test_code (expr_of c.args.a.now) w env m n holds target) (λ holds target. test_code (expr_of c.args.b.now) w (past (expr_of c.args.a.now) env) (m + truth_jumps (expr_of c.args.a.now)) n holds target)) (leads_two (literals_in env.scope (expr_of c.args.a.now)) (literals_in env.scope (expr_of c.args.b.now)) f h))

pub junction-returns-clause-keeps : goal.junction-returns-clause-keeps
junction-returns-clause-keeps t c = keeps_then c.in_ok-between.ensures.keeps c.in_ok-behind.ensures.keeps

pub junction-truth-requires-2 : goal.junction-truth-requires-2
junction-truth-requires-2 t c = (first_of (search (rules, the_lemmas), grind (the_lemmas, arith, common_steps), grind (the_lemmas, arith, elements)), some_on c.args.out.now c.truth.new.out c.args.here.now.declared (c.in_ok-between.ensures.keeps) c.requires)

pub truth_value-returns-clause-code : goal.truth_value-returns-clause-code
truth_value-returns-clause-code t c = λ w env m n is hk hd.
    let j = truth_jumps (expr_of c.args.a.now) + truth_jumps (expr_of c.args.b.now) in
    let hend = c.plus-end.ensures m j hk (c.plus.ensures (truth_jumps (expr_of c.args.a.now)) (truth_jumps (expr_of c.args.b.now)) c.truth_jumps_of.ensures c.truth_jumps_of-2.ensures) in
    let f = c.in_ok-junction.ensures.code (m + j + 1) (c.next-2.ensures (m + j) hend) w env m n is hk hd in
    let over = c.next-over.ensures (m + j + 1) (c.next.ensures (m + j) hend) in
    leads (then_piece f.emits (c.in_ok-put_truth.ensures.code (m + j + 2) (told_block (two_more m j) over))) (told_block (two_jumps m j) over)

pub truth_value-returns-clause-keeps : goal.truth_value-returns-clause-keeps
truth_value-returns-clause-keeps t c = keeps_then c.in_ok-junction.ensures.keeps c.in_ok-put_truth.ensures.keeps

pub binary-returns-in-Some-clause-code : goal.binary-returns-in-Some-clause-code
binary-returns-in-Some-clause-code t c = λ w env m n is hk hd.
    let p = junction_value c.args.op c.in-Some.decides (operations.is_signed c.args.op (value_type_in env.scope (expr_of c.args.a.now)) (value_type_in env.scope (expr_of c.args.b.now))) m (truth_jumps (expr_of c.args.a.now)) (truth_jumps (expr_of c.args.b.now)) (expr_jumps (expr_of c.args.a.now)) (expr_jumps (expr_of c.args.b.now)) (λ holds target. test_code (expr_of c.args.a.now) w env m n holds target) (λ holds target. test_code (expr_of c.args.b.now) w (past (expr_of c.args.a.now) env) (m + truth_jumps (expr_of c.args.a.now)) n holds target) (sides (expr_of c.args.a.now) (expr_of c.args.b.now) w env m n) (sym c.junction_of.ensures ∙ c.in-Some.is) in
    if_ok c.truth_value.result (λ r f. at_block (ap (λ (j : ℕ). m + j) (sym p.1)) (as_lead (sym p.0) f)) (c.truth_value.ensures.code w env m n is hk hd)

pub binary-returns-in-None-clause-code : goal.binary-returns-in-None-clause-code
binary-returns-in-None-clause-code t c = λ w env m n is hk hd.
    let p = operation_value c.args.op (operations.is_signed c.args.op (value_type_in env.scope (expr_of c.args.a.now)) (value_type_in env.scope (expr_of c.args.b.now))) m (truth_jumps (expr_of c.args.a.now)) (truth_jumps (expr_of c.args.b.now)) (expr_jumps (expr_of c.args.a.now)) (expr_jumps (expr_of c.args.b.now)) (λ holds target. test_code (expr_of c.args.a.now) w env m n holds target) (λ holds target. test_code (expr_of c.args.b.now) w (past (expr_of c.args.a.now) env) (m + truth_jumps (expr_of c.args.a.now)) n holds target) (sides (expr_of c.args.a.now) (expr_of c.args.b.now) w env m n) (sym c.junction_of.ensures ∙ c.in-None.is) in
    if_ok c.operation_value.result (λ r f. at_block (ap (λ (j : ℕ). m + j) (sym p.1)) (as_lead (sym p.0) f)) (c.operation_value.ensures.code w env m n is hk hd)

pub choice-returns-clause-code : goal.choice-returns-clause-code
choice-returns-clause-code t c = λ w env m n is hk hd.
    let s = env.scope in
    let past_a = past (expr_of c.args.a.now) env in
    let past_b = past (expr_of c.args.b.now) past_a in
    let hother = c.next-other.ensures (m + truth_jumps (expr_of c.args.a.now) + expr_jumps (expr_of c.args.b.now)) (c.plus-2.ensures (m + truth_jumps (expr_of c.args.a.now)) (expr_jumps (expr_of c.args.b.now)) (c.plus.ensures m (truth_jumps (expr_of c.args.a.now)) hk c.truth_jumps_of.ensures) c.jumps_of.ensures) in
    let start = m + truth_jumps (expr_of c.args.a.now) + expr_jumps (expr_of c.args.b.now) + 1 in
    let hend = told_block (choice_end m (truth_jumps (expr_of c.args.a.now)) (expr_jumps (expr_of c.args.b.now)) (expr_jumps (expr_of c.args.c.now))) (c.next-end.ensures (start + expr_jumps (expr_of c.args.c.now)) (c.plus-3.ensures start (expr_jumps (expr_of c.args.c.now)) hother c.jumps_of-2.ensures)) in
    let end = m + truth_jumps (expr_of c.args.a.now) + expr_jumps (expr_of c.args.b.now) + expr_jumps (expr_of c.args.c.now) + 2 in
    let f = c.in_ok-first.ensures.code start hother w env m n is hk hd in
    let is_a = here_on f.emits is in
    let one = c.in_ok-value.ensures.code w past_a (m + truth_jumps (expr_of c.args.a.now)) n is_a f.block hd in
    let j = c.in_ok-jump.ensures end hend in
    let is_b = here_still j (here_on one.emits is_a) in
    let other = c.in_ok-value-2.ensures.code w past_b start n is_b hother hd in
    let k = c.in_ok-jump-2.ensures end hend in
    leads (three_literals (literals_in s (expr_of c.args.a.now)) (literals_in s (expr_of c.args.b.now)) (literals_in s (expr_of c.args.c.now)) f.emits one.emits j other.emits k) (told_block (choice_block m (truth_jumps (expr_of c.args.a.now)) (expr_jumps (expr_of c.args.b.now)) (expr_jumps (expr_of c.args.c.now))) hend)

pub choice-value-requires : goal.choice-value-requires
choice-value-requires t c = (first_of (search (rules, the_lemmas), grind (the_lemmas, arith, common_steps), grind (the_lemmas, arith, elements)), some_on c.args.out.now c.truth.new.out c.args.here.now.declared (c.in_ok-first.ensures.keeps) c.requires)

pub choice-value-requires-2 : goal.choice-value-requires-2
choice-value-requires-2 t c = (first_of (search (rules, the_lemmas), grind (the_lemmas, arith, common_steps), grind (the_lemmas, arith, elements)), some_on c.args.out.now c.jump.new.out c.args.here.now.declared (keeps_then c.in_ok-first.ensures.keeps (keeps_then c.in_ok-value.ensures.keeps (kept (c.in_ok-jump.ensures c.next-end.result (same_number c.next-end.result))))) c.requires)

pub choice-returns-clause-keeps : goal.choice-returns-clause-keeps
choice-returns-clause-keeps t c = keeps_then (keeps_then c.in_ok-first.ensures.keeps (keeps_then c.in_ok-value.ensures.keeps (kept (c.in_ok-jump.ensures c.next-end.result (same_number c.next-end.result))))) (keeps_then c.in_ok-value-2.ensures.keeps (kept (c.in_ok-jump-2.ensures c.next-end.result (same_number c.next-end.result))))

pub indexed-fetch-requires : goal.indexed-fetch-requires
indexed-fetch-requires t c = some_on c.args.out.now c.element.new.out c.args.here.now.declared (c.in_ok-behind.ensures.keeps) c.requires

pub indexed-returns-clause-keeps : goal.indexed-returns-clause-keeps
indexed-returns-clause-keeps t c = keeps_then c.in_ok-behind.ensures.keeps c.in_ok-fetch.ensures.keeps

pub pointed_member-fetch-requires : goal.pointed_member-fetch-requires
pointed_member-fetch-requires t c = some_on c.args.out.now c.member_behind.new.out c.args.here.now.declared (c.in_ok-behind.ensures.keeps) c.requires

pub pointed_member-returns-clause-keeps : goal.pointed_member-returns-clause-keeps
pointed_member-returns-clause-keeps t c = keeps_then c.in_ok-behind.ensures.keeps c.in_ok-fetch.ensures.keeps

pub indexed-returns-clause-code : goal.indexed-returns-clause-code
indexed-returns-clause-code t c = λ w env m n is hk hd.
    let f = c.in_ok-behind.ensures.code w env m n is hk hd in
    leads_piece f (c.in_ok-fetch.ensures.code env.scope (here_on f.emits is).holds)

pub pointed_member-returns-clause-code : goal.pointed_member-returns-clause-code
pointed_member-returns-clause-code t c = λ w env m n is hk hd.
    let f = c.in_ok-behind.ensures.code w env m n is hk hd in
    as_lead (append_assoc (value_code (expr_of c.args.a.now) w env m n) (operations.moved_on (member_offset env.scope.tags (pointee (value_type_in env.scope (expr_of c.args.a.now))) c.args.name.now)) (operations.fetched (type_in env.scope (expr_of c.args.e.now))))
    (leads_piece f (c.in_ok-fetch.ensures.code env.scope (here_on f.emits is).holds))

pub member-returns-in-Some-clause-code : goal.member-returns-in-Some-clause-code
member-returns-in-Some-clause-code t c = λ at same w env m n is hk hd.
    let led = subst (λ (o : Option ℕ). MayLead c.args.out.now c.known_value.new.out o (plain.direct (expr_of c.args.e.now) w env) (literal_count env.scope (expr_of c.args.e.now)) (m + expr_jumps (expr_of c.args.e.now))) c.in-Some.is (c.in_ok-known.ensures.code w env m is hk) in
    some_direct c.in-Some.behind (plain.direct (expr_of c.args.e.now) w env) (address_code (expr_of c.args.a.now) w env m n ++ (operations.moved_on (member_offset env.scope.tags (type_in env.scope (expr_of c.args.a.now)) c.args.name.now) ++ operations.fetched (type_in env.scope (expr_of c.args.e.now)))) led

pub member-member_place-requires : goal.member-member_place-requires
member-member_place-requires t c = (first_of (search (rules, the_lemmas), grind (the_lemmas, arith, common_steps), grind (the_lemmas, arith, elements)), some_on c.args.out.now c.known_value.new.out c.args.here.now.declared (c.in_ok-known.ensures.keeps) c.requires)

pub member-fetch-requires : goal.member-fetch-requires
member-fetch-requires t c = some_on c.args.out.now c.member_place.new.out c.args.here.now.declared (keeps_then c.in_ok-known.ensures.keeps c.in_ok-behind-in-None.ensures.keeps) c.requires

pub member-returns-in_ok-fetch-in-None-clause-code : goal.member-returns-in_ok-fetch-in-None-clause-code
member-returns-in_ok-fetch-in-None-clause-code t c = λ at same w env m n is hk hd.
    let s = env.scope in
    let led = subst (λ (o : Option ℕ). MayLead c.args.out.now c.known_value.new.out o (plain.direct (expr_of c.args.e.now) w env) (literal_count s (expr_of c.args.e.now)) (m + expr_jumps (expr_of c.args.e.now))) c.in-None.is (c.in_ok-known.ensures.code w env m is hk) in
    let none = none_direct (literal_count s (expr_of c.args.e.now)) (m + expr_jumps (expr_of c.args.e.now)) (plain.direct (expr_of c.args.e.now) w env) led in
    let is_b = here_still none.1 is in
    let f = c.in_ok-behind-in-None.ensures.code w env m n is_b hk hd in
    let all = piece_leads none.1 (leads_piece f (c.in_ok-fetch-in-None.ensures.code s (here_on f.emits is_b).holds)) in
    with_count (sym (ap (literal_count s) same)) (at_block (sym (ap (λ (x : CExpr). m + expr_jumps x) same))
    (as_lead (append_assoc (address_code (expr_of c.args.a.now) w env m n) (operations.moved_on (member_offset s.tags (type_in s (expr_of c.args.a.now)) c.args.name.now)) (operations.fetched (type_in s (expr_of c.args.e.now))) ∙ sym (ap (λ (o : Option plain.Direct). operations.direct_or o (address_code (expr_of c.args.a.now) w env m n ++ (operations.moved_on (member_offset env.scope.tags (type_in env.scope (expr_of c.args.a.now)) c.args.name.now) ++ operations.fetched (type_in env.scope (expr_of c.args.e.now))))) none.0)) all))

pub member-returns-in_ok-fetch-in-None-clause-keeps : goal.member-returns-in_ok-fetch-in-None-clause-keeps
member-returns-in_ok-fetch-in-None-clause-keeps t c = keeps_then c.in_ok-known.ensures.keeps (keeps_then c.in_ok-behind-in-None.ensures.keeps c.in_ok-fetch-in-None.ensures.keeps)

pub binary_truth-returns-in-Some-clause-code : goal.binary_truth-returns-in-Some-clause-code
binary_truth-returns-in-Some-clause-code t c = λ at same t ht w env m n is hk hd.
    let p = junction_truth c.args.op c.in-Some.decides (operations.is_signed c.args.op (value_type_in env.scope (expr_of c.args.a.now)) (value_type_in env.scope (expr_of c.args.b.now))) c.args.holds t (m + truth_jumps (expr_of c.args.a.now) + truth_jumps (expr_of c.args.b.now)) (truth_jumps (expr_of c.args.a.now)) (truth_jumps (expr_of c.args.b.now)) (expr_jumps (expr_of c.args.a.now)) (expr_jumps (expr_of c.args.b.now)) (λ holds target. test_code (expr_of c.args.a.now) w env m n holds target) (λ holds target. test_code (expr_of c.args.b.now) w (past (expr_of c.args.a.now) env) (m + truth_jumps (expr_of c.args.a.now)) n holds target) (sides (expr_of c.args.a.now) (expr_of c.args.b.now) w env m n) (value_code (tree.Binary at c.args.op (expr_of c.args.a.now) (expr_of c.args.b.now)) w env m n) (sym c.junction_of.ensures ∙ c.in-Some.is) in
    subst (λ (x : CExpr). IfOk c.junction.result (λ r. Leads c.args.out.now c.junction.new.out (test_code x w env m n c.args.holds t) (literal_count env.scope x) r (m + truth_jumps x))) (sym same)
    (if_ok c.junction.result (λ r f. at_block (ap (λ (j : ℕ). m + j) (sym p.1)) (as_lead (sym p.0) f)) (c.junction.ensures.code t ht w env m n is hk hd))

pub binary_truth-returns-in-Some-comparison_of-clause-code : goal.binary_truth-returns-in-Some-comparison_of-clause-code
binary_truth-returns-in-Some-comparison_of-clause-code t c = λ at same t ht w env m n is hk hd.
    let p = comparison_truth_is c.args.op c.comparison_of.result (operations.is_signed c.args.op (value_type_in env.scope (expr_of c.args.a.now)) (value_type_in env.scope (expr_of c.args.b.now))) c.args.holds t (m + truth_jumps (expr_of c.args.a.now) + truth_jumps (expr_of c.args.b.now)) (truth_jumps (expr_of c.args.a.now)) (truth_jumps (expr_of c.args.b.now)) (expr_jumps (expr_of c.args.a.now)) (expr_jumps (expr_of c.args.b.now)) (λ holds target. test_code (expr_of c.args.a.now) w env m n holds target) (λ holds target. test_code (expr_of c.args.b.now) w (past (expr_of c.args.a.now) env) (m + truth_jumps (expr_of c.args.a.now)) n holds target) (sides (expr_of c.args.a.now) (expr_of c.args.b.now) w env m n) (value_code (tree.Binary at c.args.op (expr_of c.args.a.now) (expr_of c.args.b.now)) w env m n) (sym c.junction_of.ensures ∙ c.in-None.is) in
    let told = ap (λ (o : Option Cond). comparison_truth o c.args.holds t (operations.comparable (operations.is_signed c.args.op (value_type_in env.scope (expr_of c.args.a.now)) (value_type_in env.scope (expr_of c.args.b.now))) (sides (expr_of c.args.a.now) (expr_of c.args.b.now) w env m n)) (value_code (tree.Binary at c.args.op (expr_of c.args.a.now) (expr_of c.args.b.now)) w env m n)) (sym c.comparison_of.ensures ∙ c.in-Some-comparison_of.is) in
    subst (λ (x : CExpr). IfOk c.comparison.result (λ r. Leads c.args.out.now c.comparison.new.out (test_code x w env m n c.args.holds t) (literal_count env.scope x) r (m + truth_jumps x))) (sym same)
    (if_ok c.comparison.result (λ r f. at_block (ap (λ (j : ℕ). m + j) (sym p.1)) (as_lead (sym (p.0 ∙ told)) f)) (c.comparison.ensures.code t ht w env m n is hk hd))

pub binary_truth-returns-in-None-comparison_of-clause-code : goal.binary_truth-returns-in-None-comparison_of-clause-code
binary_truth-returns-in-None-comparison_of-clause-code t c = λ at same t ht w env m n is hk hd.
    let p = comparison_truth_is c.args.op c.comparison_of.result (operations.is_signed c.args.op (value_type_in env.scope (expr_of c.args.a.now)) (value_type_in env.scope (expr_of c.args.b.now))) c.args.holds t (m + truth_jumps (expr_of c.args.a.now) + truth_jumps (expr_of c.args.b.now)) (truth_jumps (expr_of c.args.a.now)) (truth_jumps (expr_of c.args.b.now)) (expr_jumps (expr_of c.args.a.now)) (expr_jumps (expr_of c.args.b.now)) (λ holds target. test_code (expr_of c.args.a.now) w env m n holds target) (λ holds target. test_code (expr_of c.args.b.now) w (past (expr_of c.args.a.now) env) (m + truth_jumps (expr_of c.args.a.now)) n holds target) (sides (expr_of c.args.a.now) (expr_of c.args.b.now) w env m n) (value_code (tree.Binary at c.args.op (expr_of c.args.a.now) (expr_of c.args.b.now)) w env m n) (sym c.junction_of.ensures ∙ c.in-None.is) in
    let told = ap (λ (o : Option Cond). comparison_truth o c.args.holds t (operations.comparable (operations.is_signed c.args.op (value_type_in env.scope (expr_of c.args.a.now)) (value_type_in env.scope (expr_of c.args.b.now))) (sides (expr_of c.args.a.now) (expr_of c.args.b.now) w env m n)) (value_code (tree.Binary at c.args.op (expr_of c.args.a.now) (expr_of c.args.b.now)) w env m n)) (sym c.comparison_of.ensures ∙ c.in-None-comparison_of.is) in
    let b = tree.Binary at c.args.op (expr_of c.args.a.now) (expr_of c.args.b.now) in
    let led = subst (λ (x : CExpr). IfOk c.tested.result (λ r. Leads c.args.out.now c.tested.new.out (tested c.args.holds t (value_code x w env m n)) (literal_count env.scope x) r (m + (expr_jumps x + 1)))) same (c.tested.ensures.code t ht w env m n is hk hd) in
    subst (λ (x : CExpr). IfOk c.tested.result (λ r. Leads c.args.out.now c.tested.new.out (test_code x w env m n c.args.holds t) (literal_count env.scope x) r (m + truth_jumps x))) (sym same)
    (if_ok c.tested.result (λ r f. at_block (ap (λ (j : ℕ). m + j) (sym p.1)) (as_lead (sym (p.0 ∙ told)) (at_block (other_jumps c.args.op m (truth_jumps (expr_of c.args.a.now)) (truth_jumps (expr_of c.args.b.now)) (expr_jumps (expr_of c.args.a.now)) (expr_jumps (expr_of c.args.b.now)) (sym c.junction_of.ensures ∙ c.in-None.is)) f))) led)

pub arguments-loop-e-init : goal.arguments-loop-e-init
arguments-loop-e-init t c =
    let items = (out-Exprs c.args.es.now).items.items in
    none_given c.args.here.now c.args.out.now c.args.k c.args.d c.args.waits (exprs_of c.args.es.now) (exprs (map expr_of items)) (exprs_view c.args.es.now)

pub arguments-value-requires : goal.arguments-value-requires
arguments-value-requires t c = (first_of (search (rules, the_lemmas), grind (the_lemmas, arith, common_steps), grind (the_lemmas, arith, elements)), some_on c.args.out.now c.loop-e.out c.args.here.now.declared c.loop-e.invariant.keeps c.requires)

pub arguments-loop-e-preserved : goal.arguments-loop-e-preserved
arguments-loop-e-preserved t c =
    let items = (out-Exprs c.args.es.now).items.items in
    let i = c.loop-e.e-index in
    let x = c.e-item.result in
    let within : i < length items = subst (λ (l : List Expr). i < length l) c.deref-e-items.ensures.value c.loop-e-test.true in
    let next : x ≡ get_or items i x = subst (λ (l : List Expr). x ≡ get_or l i x) c.deref-e-items.ensures.value c.e-item.is in
    one_given c.args.here.now c.args.out.now c.loop-e.out c.value.new.out c.wait.new.out c.args.k c.args.d c.loop-e.block c.loop-e.word c.in_ok-block.block c.next-word.result c.args.waits (exprs_of c.args.es.now) (exprs (map expr_of (drop i items))) (expr_of x) (exprs (map expr_of (drop (i + 1) items)))
    c.loop-e.invariant (ap (λ (l : List Expr). exprs (map expr_of l)) (drop_at items i x within next)) c.in_ok-block.ensures.code c.in_ok-wait.ensures.code c.next-word.ensures c.in_ok-block.ensures.keeps c.in_ok-wait.ensures.keeps

pub arguments-returns-clause-code : goal.arguments-returns-clause-code
arguments-returns-clause-code t c =
    let items = (out-Exprs c.args.es.now).items.items in
    let i = c.loop-e.e-index in
    let past : length items ≤ i = subst (λ (l : List Expr). length l ≤ i) c.deref-e-items.ensures.value c.loop-e-test.false in
    all_given c.args.here.now c.args.out.now c.loop-e.out c.args.k c.args.d c.loop-e.block c.loop-e.word c.args.waits (exprs_of c.args.es.now) (exprs (map expr_of (drop i items))) c.loop-e.invariant (ap (λ (l : List Expr). exprs (map expr_of l)) (drop_all i items past))

pub arguments-returns-clause-keeps : goal.arguments-returns-clause-keeps
arguments-returns-clause-keeps t c = c.loop-e.invariant.keeps

pub through-returns-clause-code : goal.through-returns-clause-code
through-returns-clause-code t c = λ w env m n is hk hd.
    let ef = (expr_of c.args.f.now) in
    let es = (exprs_of c.args.es.now) in
    let f = c.in_ok-between.ensures.code w env m n is hk hd in
    let p = c.in_ok-save.ensures n hd in
    let h = c.in_ok-behind.ensures.code w (past ef env) (m + expr_jumps ef) (suc n) (here_still p (here_on f.emits is)) f.block (told_block (add-one n) (c.next.ensures n hd)) in
    let back = m + expr_jumps ef + exprs_jumps es + 1 in
    let q = c.in_ok-call_through.ensures n back hd (c.next-2.ensures (m + expr_jumps ef + exprs_jumps es) h.block) in
    leads (leads_two (literals_in env.scope ef) (literals_in_all env.scope es) f (piece_leads p (leads_piece h q))).emits (told_block (call_block m (expr_jumps ef) (exprs_jumps es)) (c.next-3.ensures (m + expr_jumps ef + exprs_jumps es) h.block))

pub through-returns-clause-keeps : goal.through-returns-clause-keeps
through-returns-clause-keeps t c = keeps_then c.in_ok-between.ensures.keeps (keeps_then (kept (c.in_ok-save.ensures c.args.d (same_number c.args.d))) (keeps_then c.in_ok-behind.ensures.keeps (kept (c.in_ok-call_through.ensures c.args.d c.next-2.result (same_number c.args.d) (same_number c.next-2.result)))))

pub through-arguments-requires : goal.through-arguments-requires
through-arguments-requires t c = (first_of (search (rules, the_lemmas), grind (the_lemmas, arith, common_steps), grind (the_lemmas, arith, elements)), some_on c.args.out.now c.save.new.out c.args.here.now.declared (keeps_then c.in_ok-between.ensures.keeps (kept (c.in_ok-save.ensures c.args.d (same_number c.args.d)))) c.requires)

pub given-returns-clause-code : goal.given-returns-clause-code
given-returns-clause-code t c = λ w env m n is hk hd.
    let f = c.in_ok-behind.ensures.code w env m n is hk hd in
    let p = c.arguments_passed-passed.ensures c.args.out.now.types env.scope is.holds.fits in
    let k = keeps_then (kept f.emits) c.pass.ensures.keeps in
    record {
      emits = record {
        grows = k.grows;
        tags = k.tags;
        ops = ap (λ (v : Vec Op _). v.items) c.pass.ensures.ops ∙ f.emits.ops;
        passed = subst (λ (l : Literals). IsBehind c.args.out.now.literals l (length (given_literals c.args.printed env.scope (exprs_of c.args.es.now)))) (sym c.pass.ensures.literals) p;
      };
      block = f.block;
    }

pub given-returns-clause-keeps : goal.given-returns-clause-keeps
given-returns-clause-keeps t c = keeps_then c.in_ok-behind.ensures.keeps c.pass.ensures.keeps

pub call-returns-in_ok-put_helper-in-Helper-clause-code : goal.call-returns-in_ok-put_helper-in-Helper-clause-code
call-returns-in_ok-put_helper-in-Helper-clause-code t c = λ w env m n is hk hd.
    let f = c.in_ok-behind-in-Helper.ensures.code w env m n is hk hd in
    let h = subst (λ (x : Called). IsCalled x w env.scope (expr_of c.args.f.now)) c.in-Helper.is (c.callee_of.ensures c.args.out.now w env is) in
    as_lead (sym (helper_code c.in-Helper.name.now (expr_of c.args.f.now) (exprs_of c.args.es.now) w env m n h)) (at_block (sym (helper_jumps c.in-Helper.name.now (expr_of c.args.f.now) (exprs_of c.args.es.now) m h)) (with_count (ap (λ (b : Bool). length (given_literals b env.scope (exprs_of c.args.es.now))) (c.is_format_name-printed.ensures c.args.out.now.types env.scope is.holds.fits) ∙ sym (given_count env.scope (expr_of c.args.f.now) h.at c.in-Helper.name.now (exprs_of c.args.es.now) h.is)) (leads_piece f c.in_ok-put_helper-in-Helper.ensures)))

pub call-returns-in_ok-put_helper-in-Helper-clause-keeps : goal.call-returns-in_ok-put_helper-in-Helper-clause-keeps
call-returns-in_ok-put_helper-in-Helper-clause-keeps t c = keeps_then c.in_ok-behind-in-Helper.ensures.keeps (kept c.in_ok-put_helper-in-Helper.ensures)

pub call-returns-in_ok-call-in-Routine-clause-code : goal.call-returns-in_ok-call-in-Routine-clause-code
call-returns-in_ok-call-in-Routine-clause-code t c = λ w env m n is hk hd.
    let h = subst (λ (x : Called). IsCalled x w env.scope (expr_of c.args.f.now)) c.in-Routine.is (c.callee_of.ensures c.args.out.now w env is) in
    let f = c.in_ok-behind-in-Routine.ensures.code w env m (suc n) is hk (told_block (add-one n) (c.next.ensures n hd)) in
    let q = c.in_ok-call-in-Routine.ensures n (m + exprs_jumps (exprs_of c.args.es.now) + 1) (w.entry h.name) hd (c.next-in-Routine.ensures (m + exprs_jumps (exprs_of c.args.es.now)) f.block) h.entry in
    as_lead (ap (λ (l : List Op). l ++ operations.call_at n (m + exprs_jumps (exprs_of c.args.es.now) + 1) (w.entry h.name)) (all_wait (exprs_of c.args.es.now) w env m (suc n)) ∙ sym (code_of_named h.name (Direct h.name h.params) (expr_of c.args.f.now) (exprs_of c.args.es.now) w env m n h.named))
    (at_block (sym (named_jumps h.name (expr_of c.args.f.now) (exprs_of c.args.es.now) m h.named)) (with_count (sym (given_count env.scope (expr_of c.args.f.now) h.named.at h.name (exprs_of c.args.es.now) h.named.is ∙ ap (λ (b : Bool). length (given_literals b env.scope (exprs_of c.args.es.now))) h.printed))
    (leads (then_piece f.emits q) (c.next-in-Routine-2.ensures (m + exprs_jumps (exprs_of c.args.es.now)) f.block))))

pub call-returns-in_ok-call-in-Routine-clause-keeps : goal.call-returns-in_ok-call-in-Routine-clause-keeps
call-returns-in_ok-call-in-Routine-clause-keeps t c = keeps_then c.in_ok-behind-in-Routine.ensures.keeps (kept (c.in_ok-call-in-Routine.ensures c.args.d c.next-in-Routine.result c.in-Routine.entry (same_number c.args.d) (same_number c.next-in-Routine.result) (same_number c.in-Routine.entry)))

pub call-returns-in_ok-jump-in-BuiltIn-clause-code : goal.call-returns-in_ok-jump-in-BuiltIn-clause-code
call-returns-in_ok-jump-in-BuiltIn-clause-code t c = λ w env m n is hk hd.
    let f = c.in_ok-behind-in-BuiltIn.ensures.code w env m n is hk hd in
    let h = subst (λ (x : Called). IsCalled x w env.scope (expr_of c.args.f.now)) c.in-BuiltIn.is (c.callee_of.ensures c.args.out.now w env is) in
    as_lead (sym (code_of_named c.in-BuiltIn.name.now (Known c.in-BuiltIn.name.now h.params) (expr_of c.args.f.now) (exprs_of c.args.es.now) w env m n h.named)) (at_block (sym (named_jumps c.in-BuiltIn.name.now (expr_of c.args.f.now) (exprs_of c.args.es.now) m h.named)) (with_count (ap (λ (b : Bool). length (given_literals b env.scope (exprs_of c.args.es.now))) (c.is_format_name-printed.ensures c.args.out.now.types env.scope is.holds.fits) ∙ sym (given_count env.scope (expr_of c.args.f.now) h.named.at c.in-BuiltIn.name.now (exprs_of c.args.es.now) h.named.is))
    (leads (then_piece f.emits (then_piece c.in_ok-put_built_in-in-BuiltIn.ensures (c.in_ok-jump-in-BuiltIn.ensures (m + exprs_jumps (exprs_of c.args.es.now) + 1) (c.next-in-BuiltIn.ensures (m + exprs_jumps (exprs_of c.args.es.now)) f.block)))) (c.next-in-BuiltIn-2.ensures (m + exprs_jumps (exprs_of c.args.es.now)) f.block))))

pub call-returns-in_ok-jump-in-BuiltIn-clause-keeps : goal.call-returns-in_ok-jump-in-BuiltIn-clause-keeps
call-returns-in_ok-jump-in-BuiltIn-clause-keeps t c = keeps_then c.in_ok-behind-in-BuiltIn.ensures.keeps (keeps_then (kept c.in_ok-put_built_in-in-BuiltIn.ensures) (kept (c.in_ok-jump-in-BuiltIn.ensures c.next-in-BuiltIn.result (same_number c.next-in-BuiltIn.result))))

pub call-returns-in_ok-jump-in-Format-clause-code : goal.call-returns-in_ok-jump-in-Format-clause-code
call-returns-in_ok-jump-in-Format-clause-code t c = λ w env m n is hk hd.
    let f = c.in_ok-behind-in-Format.ensures.code w env m n is hk hd in
    let h = subst (λ (x : Called). IsCalled x w env.scope (expr_of c.args.f.now)) c.in-Format.is (c.callee_of.ensures c.args.out.now w env is) in
    as_lead (sym (code_of_named h.name (Format) (expr_of c.args.f.now) (exprs_of c.args.es.now) w env m n h.named)) (at_block (sym (named_jumps h.name (expr_of c.args.f.now) (exprs_of c.args.es.now) m h.named)) (with_count (ap (λ (b : Bool). length (given_literals b env.scope (exprs_of c.args.es.now))) (c.is_format_name-printed.ensures c.args.out.now.types env.scope is.holds.fits) ∙ sym (given_count env.scope (expr_of c.args.f.now) h.named.at h.name (exprs_of c.args.es.now) h.named.is))
    (leads (then_piece f.emits (c.in_ok-jump-in-Format.ensures (m + exprs_jumps (exprs_of c.args.es.now) + 1) (c.next-in-Format.ensures (m + exprs_jumps (exprs_of c.args.es.now)) f.block))) (c.next-in-Format-2.ensures (m + exprs_jumps (exprs_of c.args.es.now)) f.block))))

pub call-returns-in_ok-jump-in-Format-clause-keeps : goal.call-returns-in_ok-jump-in-Format-clause-keeps
call-returns-in_ok-jump-in-Format-clause-keeps t c = keeps_then c.in_ok-behind-in-Format.ensures.keeps (kept (c.in_ok-jump-in-Format.ensures c.next-in-Format.result (same_number c.next-in-Format.result)))

pub call-returns-in-Through-clause-code : goal.call-returns-in-Through-clause-code
call-returns-in-Through-clause-code t c = λ w env m n is hk hd.
    let h = subst (λ (x : Called). IsCalled x w env.scope (expr_of c.args.f.now)) c.in-Through.is (c.callee_of.ensures c.args.out.now w env is) in
    if_ok c.through.result (λ r f. as_lead (sym (through_code (expr_of c.args.f.now) (exprs_of c.args.es.now) w env m n h)) (at_block (sym (through_jumps (expr_of c.args.f.now) (exprs_of c.args.es.now) m h.unknown)) (with_count (sym (through_count env.scope (expr_of c.args.f.now) (exprs_of c.args.es.now) h.printed)) f))) (c.through.ensures.code w env m n is hk hd)

pub argument-returns-then-waits-clause-code : goal.argument-returns-then-waits-clause-code
argument-returns-then-waits-clause-code t c = λ w env m n is hk hd.
    let h = c.are_several-waits.ensures in
    let s = are_several (exprs_of c.args.es.now) in
    as_lead (ap (λ (b : Bool). given_code b (exprs_of c.args.es.now) w env m n ++ operations.restore A n) h ∙ (ap (λ (b : Bool). given_code s (exprs_of c.args.es.now) w env m n ++ (if b then operations.restore A n else [])) (sym (sym h ∙ c.if-waits.true)) ∙ argument_is (exprs_of c.args.es.now) w env m n))
    (leads_piece (c.in_ok-behind.ensures.code w env m n is hk hd) (c.in_ok-restore.ensures n hd))

pub argument-returns-then-waits-clause-keeps : goal.argument-returns-then-waits-clause-keeps
argument-returns-then-waits-clause-keeps t c = keeps_then c.in_ok-behind.ensures.keeps (kept (c.in_ok-restore.ensures c.args.d (same_number c.args.d)))

pub argument-returns-clause-code : goal.argument-returns-clause-code
argument-returns-clause-code t c = λ w env m n is hk hd.
    let h = c.are_several-waits.ensures in
    let s = are_several (exprs_of c.args.es.now) in
    as_lead (sym (append-nil (given_code c.are_several-waits.result (exprs_of c.args.es.now) w env m n)) ∙ (ap (λ (b : Bool). given_code b (exprs_of c.args.es.now) w env m n ++ []) h ∙ (ap (λ (b : Bool). given_code s (exprs_of c.args.es.now) w env m n ++ (if b then operations.restore A n else [])) (sym (sym h ∙ c.if-waits.false)) ∙ argument_is (exprs_of c.args.es.now) w env m n)))
    (c.in_ok-behind.ensures.code w env m n is hk hd)

pub truth-returns-in-Number-clause-code : goal.truth-returns-in-Number-clause-code
truth-returns-in-Number-clause-code t c = λ t ht w env m n is hk hd.
    subst (λ (x : Form). IfOk c.tested.result (λ r. Leads c.args.out.now c.tested.new.out (test_code (form_of x c.args.e.now.pos) w env m n c.args.holds t) (literal_count env.scope (form_of x c.args.e.now.pos)) r (m + truth_jumps (form_of x c.args.e.now.pos)))) (sym c.in-Number.is)
    (subst (λ (x : Form). IfOk c.tested.result (λ r. Leads c.args.out.now c.tested.new.out (tested c.args.holds t (value_code (form_of x c.args.e.now.pos) w env m n)) (literal_count env.scope (form_of x c.args.e.now.pos)) r (m + (expr_jumps (form_of x c.args.e.now.pos) + 1)))) c.in-Number.is (c.tested.ensures.code t ht w env m n is hk hd))

pub truth-returns-in-Str-clause-code : goal.truth-returns-in-Str-clause-code
truth-returns-in-Str-clause-code t c = λ t ht w env m n is hk hd.
    subst (λ (x : Form). IfOk c.tested-in-Str.result (λ r. Leads c.args.out.now c.tested-in-Str.new.out (test_code (form_of x c.args.e.now.pos) w env m n c.args.holds t) (literal_count env.scope (form_of x c.args.e.now.pos)) r (m + truth_jumps (form_of x c.args.e.now.pos)))) (sym c.in-Str.is)
    (subst (λ (x : Form). IfOk c.tested-in-Str.result (λ r. Leads c.args.out.now c.tested-in-Str.new.out (tested c.args.holds t (value_code (form_of x c.args.e.now.pos) w env m n)) (literal_count env.scope (form_of x c.args.e.now.pos)) r (m + (expr_jumps (form_of x c.args.e.now.pos) + 1)))) c.in-Str.is (c.tested-in-Str.ensures.code t ht w env m n is hk hd))

pub truth-returns-in-Null-clause-code : goal.truth-returns-in-Null-clause-code
truth-returns-in-Null-clause-code t c = λ t ht w env m n is hk hd.
    subst (λ (x : Form). IfOk c.tested-in-Null.result (λ r. Leads c.args.out.now c.tested-in-Null.new.out (test_code (form_of x c.args.e.now.pos) w env m n c.args.holds t) (literal_count env.scope (form_of x c.args.e.now.pos)) r (m + truth_jumps (form_of x c.args.e.now.pos)))) (sym c.in-Null.is)
    (subst (λ (x : Form). IfOk c.tested-in-Null.result (λ r. Leads c.args.out.now c.tested-in-Null.new.out (tested c.args.holds t (value_code (form_of x c.args.e.now.pos) w env m n)) (literal_count env.scope (form_of x c.args.e.now.pos)) r (m + (expr_jumps (form_of x c.args.e.now.pos) + 1)))) c.in-Null.is (c.tested-in-Null.ensures.code t ht w env m n is hk hd))

pub truth-returns-in-Name-clause-code : goal.truth-returns-in-Name-clause-code
truth-returns-in-Name-clause-code t c = λ t ht w env m n is hk hd.
    subst (λ (x : Form). IfOk c.tested-in-Name.result (λ r. Leads c.args.out.now c.tested-in-Name.new.out (test_code (form_of x c.args.e.now.pos) w env m n c.args.holds t) (literal_count env.scope (form_of x c.args.e.now.pos)) r (m + truth_jumps (form_of x c.args.e.now.pos)))) (sym c.in-Name.is)
    (subst (λ (x : Form). IfOk c.tested-in-Name.result (λ r. Leads c.args.out.now c.tested-in-Name.new.out (tested c.args.holds t (value_code (form_of x c.args.e.now.pos) w env m n)) (literal_count env.scope (form_of x c.args.e.now.pos)) r (m + (expr_jumps (form_of x c.args.e.now.pos) + 1)))) c.in-Name.is (c.tested-in-Name.ensures.code t ht w env m n is hk hd))

pub truth-returns-in-Step-clause-code : goal.truth-returns-in-Step-clause-code
truth-returns-in-Step-clause-code t c = λ t ht w env m n is hk hd.
    subst (λ (x : Form). IfOk c.tested-in-Step.result (λ r. Leads c.args.out.now c.tested-in-Step.new.out (test_code (form_of x c.args.e.now.pos) w env m n c.args.holds t) (literal_count env.scope (form_of x c.args.e.now.pos)) r (m + truth_jumps (form_of x c.args.e.now.pos)))) (sym c.in-Step.is)
    (subst (λ (x : Form). IfOk c.tested-in-Step.result (λ r. Leads c.args.out.now c.tested-in-Step.new.out (tested c.args.holds t (value_code (form_of x c.args.e.now.pos) w env m n)) (literal_count env.scope (form_of x c.args.e.now.pos)) r (m + (expr_jumps (form_of x c.args.e.now.pos) + 1)))) c.in-Step.is (c.tested-in-Step.ensures.code t ht w env m n is hk hd))

pub truth-returns-in-Assign-clause-code : goal.truth-returns-in-Assign-clause-code
truth-returns-in-Assign-clause-code t c = λ t ht w env m n is hk hd.
    subst (λ (x : Form). IfOk c.tested-in-Assign.result (λ r. Leads c.args.out.now c.tested-in-Assign.new.out (test_code (form_of x c.args.e.now.pos) w env m n c.args.holds t) (literal_count env.scope (form_of x c.args.e.now.pos)) r (m + truth_jumps (form_of x c.args.e.now.pos)))) (sym c.in-Assign.is)
    (subst (λ (x : Form). IfOk c.tested-in-Assign.result (λ r. Leads c.args.out.now c.tested-in-Assign.new.out (tested c.args.holds t (value_code (form_of x c.args.e.now.pos) w env m n)) (literal_count env.scope (form_of x c.args.e.now.pos)) r (m + (expr_jumps (form_of x c.args.e.now.pos) + 1)))) c.in-Assign.is (c.tested-in-Assign.ensures.code t ht w env m n is hk hd))

pub truth-returns-in-Cond-clause-code : goal.truth-returns-in-Cond-clause-code
truth-returns-in-Cond-clause-code t c = λ t ht w env m n is hk hd.
    subst (λ (x : Form). IfOk c.tested-in-Cond.result (λ r. Leads c.args.out.now c.tested-in-Cond.new.out (test_code (form_of x c.args.e.now.pos) w env m n c.args.holds t) (literal_count env.scope (form_of x c.args.e.now.pos)) r (m + truth_jumps (form_of x c.args.e.now.pos)))) (sym c.in-Cond.is)
    (if_ok c.tested-in-Cond.result (λ r f. at_block (three_more m (truth_jumps (expr_of c.in-Cond._a.value) + expr_jumps (expr_of c.in-Cond._b.value) + expr_jumps (expr_of c.in-Cond._c.value))) f) (subst (λ (x : Form). IfOk c.tested-in-Cond.result (λ r. Leads c.args.out.now c.tested-in-Cond.new.out (tested c.args.holds t (value_code (form_of x c.args.e.now.pos) w env m n)) (literal_count env.scope (form_of x c.args.e.now.pos)) r (m + (expr_jumps (form_of x c.args.e.now.pos) + 1)))) c.in-Cond.is (c.tested-in-Cond.ensures.code t ht w env m n is hk hd)))

pub truth-returns-in-Comma-clause-code : goal.truth-returns-in-Comma-clause-code
truth-returns-in-Comma-clause-code t c = λ t ht w env m n is hk hd.
    subst (λ (x : Form). IfOk c.tested-in-Comma.result (λ r. Leads c.args.out.now c.tested-in-Comma.new.out (test_code (form_of x c.args.e.now.pos) w env m n c.args.holds t) (literal_count env.scope (form_of x c.args.e.now.pos)) r (m + truth_jumps (form_of x c.args.e.now.pos)))) (sym c.in-Comma.is)
    (subst (λ (x : Form). IfOk c.tested-in-Comma.result (λ r. Leads c.args.out.now c.tested-in-Comma.new.out (tested c.args.holds t (value_code (form_of x c.args.e.now.pos) w env m n)) (literal_count env.scope (form_of x c.args.e.now.pos)) r (m + (expr_jumps (form_of x c.args.e.now.pos) + 1)))) c.in-Comma.is (c.tested-in-Comma.ensures.code t ht w env m n is hk hd))

pub truth-returns-in-Cast-clause-code : goal.truth-returns-in-Cast-clause-code
truth-returns-in-Cast-clause-code t c = λ t ht w env m n is hk hd.
    subst (λ (x : Form). IfOk c.tested-in-Cast.result (λ r. Leads c.args.out.now c.tested-in-Cast.new.out (test_code (form_of x c.args.e.now.pos) w env m n c.args.holds t) (literal_count env.scope (form_of x c.args.e.now.pos)) r (m + truth_jumps (form_of x c.args.e.now.pos)))) (sym c.in-Cast.is)
    (subst (λ (x : Form). IfOk c.tested-in-Cast.result (λ r. Leads c.args.out.now c.tested-in-Cast.new.out (tested c.args.holds t (value_code (form_of x c.args.e.now.pos) w env m n)) (literal_count env.scope (form_of x c.args.e.now.pos)) r (m + (expr_jumps (form_of x c.args.e.now.pos) + 1)))) c.in-Cast.is (c.tested-in-Cast.ensures.code t ht w env m n is hk hd))

pub truth-returns-in-SizeTy-clause-code : goal.truth-returns-in-SizeTy-clause-code
truth-returns-in-SizeTy-clause-code t c = λ t ht w env m n is hk hd.
    subst (λ (x : Form). IfOk c.tested-in-SizeTy.result (λ r. Leads c.args.out.now c.tested-in-SizeTy.new.out (test_code (form_of x c.args.e.now.pos) w env m n c.args.holds t) (literal_count env.scope (form_of x c.args.e.now.pos)) r (m + truth_jumps (form_of x c.args.e.now.pos)))) (sym c.in-SizeTy.is)
    (subst (λ (x : Form). IfOk c.tested-in-SizeTy.result (λ r. Leads c.args.out.now c.tested-in-SizeTy.new.out (tested c.args.holds t (value_code (form_of x c.args.e.now.pos) w env m n)) (literal_count env.scope (form_of x c.args.e.now.pos)) r (m + (expr_jumps (form_of x c.args.e.now.pos) + 1)))) c.in-SizeTy.is (c.tested-in-SizeTy.ensures.code t ht w env m n is hk hd))

pub truth-returns-in-SizeOf-clause-code : goal.truth-returns-in-SizeOf-clause-code
truth-returns-in-SizeOf-clause-code t c = λ t ht w env m n is hk hd.
    subst (λ (x : Form). IfOk c.tested-in-SizeOf.result (λ r. Leads c.args.out.now c.tested-in-SizeOf.new.out (test_code (form_of x c.args.e.now.pos) w env m n c.args.holds t) (literal_count env.scope (form_of x c.args.e.now.pos)) r (m + truth_jumps (form_of x c.args.e.now.pos)))) (sym c.in-SizeOf.is)
    (subst (λ (x : Form). IfOk c.tested-in-SizeOf.result (λ r. Leads c.args.out.now c.tested-in-SizeOf.new.out (tested c.args.holds t (value_code (form_of x c.args.e.now.pos) w env m n)) (literal_count env.scope (form_of x c.args.e.now.pos)) r (m + (expr_jumps (form_of x c.args.e.now.pos) + 1)))) c.in-SizeOf.is (c.tested-in-SizeOf.ensures.code t ht w env m n is hk hd))

pub truth-returns-in-Index-clause-code : goal.truth-returns-in-Index-clause-code
truth-returns-in-Index-clause-code t c = λ t ht w env m n is hk hd.
    subst (λ (x : Form). IfOk c.tested-in-Index.result (λ r. Leads c.args.out.now c.tested-in-Index.new.out (test_code (form_of x c.args.e.now.pos) w env m n c.args.holds t) (literal_count env.scope (form_of x c.args.e.now.pos)) r (m + truth_jumps (form_of x c.args.e.now.pos)))) (sym c.in-Index.is)
    (subst (λ (x : Form). IfOk c.tested-in-Index.result (λ r. Leads c.args.out.now c.tested-in-Index.new.out (tested c.args.holds t (value_code (form_of x c.args.e.now.pos) w env m n)) (literal_count env.scope (form_of x c.args.e.now.pos)) r (m + (expr_jumps (form_of x c.args.e.now.pos) + 1)))) c.in-Index.is (c.tested-in-Index.ensures.code t ht w env m n is hk hd))

pub truth-returns-in-Call-clause-code : goal.truth-returns-in-Call-clause-code
truth-returns-in-Call-clause-code t c = λ t ht w env m n is hk hd.
    subst (λ (x : Form). IfOk c.tested-in-Call.result (λ r. Leads c.args.out.now c.tested-in-Call.new.out (test_code (form_of x c.args.e.now.pos) w env m n c.args.holds t) (literal_count env.scope (form_of x c.args.e.now.pos)) r (m + truth_jumps (form_of x c.args.e.now.pos)))) (sym c.in-Call.is)
    (subst (λ (x : Form). IfOk c.tested-in-Call.result (λ r. Leads c.args.out.now c.tested-in-Call.new.out (tested c.args.holds t (value_code (form_of x c.args.e.now.pos) w env m n)) (literal_count env.scope (form_of x c.args.e.now.pos)) r (m + (expr_jumps (form_of x c.args.e.now.pos) + 1)))) c.in-Call.is (c.tested-in-Call.ensures.code t ht w env m n is hk hd))

pub truth-returns-in-Member-clause-code : goal.truth-returns-in-Member-clause-code
truth-returns-in-Member-clause-code t c = λ t ht w env m n is hk hd.
    subst (λ (x : Form). IfOk c.tested-in-Member.result (λ r. Leads c.args.out.now c.tested-in-Member.new.out (test_code (form_of x c.args.e.now.pos) w env m n c.args.holds t) (literal_count env.scope (form_of x c.args.e.now.pos)) r (m + truth_jumps (form_of x c.args.e.now.pos)))) (sym c.in-Member.is)
    (subst (λ (x : Form). IfOk c.tested-in-Member.result (λ r. Leads c.args.out.now c.tested-in-Member.new.out (tested c.args.holds t (value_code (form_of x c.args.e.now.pos) w env m n)) (literal_count env.scope (form_of x c.args.e.now.pos)) r (m + (expr_jumps (form_of x c.args.e.now.pos) + 1)))) c.in-Member.is (c.tested-in-Member.ensures.code t ht w env m n is hk hd))

pub truth-returns-in-Arrow-clause-code : goal.truth-returns-in-Arrow-clause-code
truth-returns-in-Arrow-clause-code t c = λ t ht w env m n is hk hd.
    subst (λ (x : Form). IfOk c.tested-in-Arrow.result (λ r. Leads c.args.out.now c.tested-in-Arrow.new.out (test_code (form_of x c.args.e.now.pos) w env m n c.args.holds t) (literal_count env.scope (form_of x c.args.e.now.pos)) r (m + truth_jumps (form_of x c.args.e.now.pos)))) (sym c.in-Arrow.is)
    (subst (λ (x : Form). IfOk c.tested-in-Arrow.result (λ r. Leads c.args.out.now c.tested-in-Arrow.new.out (tested c.args.holds t (value_code (form_of x c.args.e.now.pos) w env m n)) (literal_count env.scope (form_of x c.args.e.now.pos)) r (m + (expr_jumps (form_of x c.args.e.now.pos) + 1)))) c.in-Arrow.is (c.tested-in-Arrow.ensures.code t ht w env m n is hk hd))

pub place-returns-in-Number-clause-code : goal.place-returns-in-Number-clause-code
place-returns-in-Number-clause-code t c = λ w env m n is hk hd.
    subst (λ (x : Form). IfOk c.value-in-Number.result (λ r. Leads c.args.out.now c.value-in-Number.new.out (address_code (form_of x c.args.e.now.pos) w env m n) (literal_count env.scope (form_of x c.args.e.now.pos)) r (m + expr_jumps (form_of x c.args.e.now.pos)))) (sym c.in-Number.is)
    (subst (λ (x : Form). IfOk c.value-in-Number.result (λ r. Leads c.args.out.now c.value-in-Number.new.out (value_code (form_of x c.args.e.now.pos) w env m n) (literal_count env.scope (form_of x c.args.e.now.pos)) r (m + expr_jumps (form_of x c.args.e.now.pos)))) c.in-Number.is (c.value-in-Number.ensures.code w env m n is hk hd))

pub place-returns-in-Str-clause-code : goal.place-returns-in-Str-clause-code
place-returns-in-Str-clause-code t c = λ w env m n is hk hd.
    subst (λ (x : Form). IfOk c.value-in-Str.result (λ r. Leads c.args.out.now c.value-in-Str.new.out (address_code (form_of x c.args.e.now.pos) w env m n) (literal_count env.scope (form_of x c.args.e.now.pos)) r (m + expr_jumps (form_of x c.args.e.now.pos)))) (sym c.in-Str.is)
    (subst (λ (x : Form). IfOk c.value-in-Str.result (λ r. Leads c.args.out.now c.value-in-Str.new.out (value_code (form_of x c.args.e.now.pos) w env m n) (literal_count env.scope (form_of x c.args.e.now.pos)) r (m + expr_jumps (form_of x c.args.e.now.pos)))) c.in-Str.is (c.value-in-Str.ensures.code w env m n is hk hd))

pub place-returns-in-Null-clause-code : goal.place-returns-in-Null-clause-code
place-returns-in-Null-clause-code t c = λ w env m n is hk hd.
    subst (λ (x : Form). IfOk c.value-in-Null.result (λ r. Leads c.args.out.now c.value-in-Null.new.out (address_code (form_of x c.args.e.now.pos) w env m n) (literal_count env.scope (form_of x c.args.e.now.pos)) r (m + expr_jumps (form_of x c.args.e.now.pos)))) (sym c.in-Null.is)
    (subst (λ (x : Form). IfOk c.value-in-Null.result (λ r. Leads c.args.out.now c.value-in-Null.new.out (value_code (form_of x c.args.e.now.pos) w env m n) (literal_count env.scope (form_of x c.args.e.now.pos)) r (m + expr_jumps (form_of x c.args.e.now.pos)))) c.in-Null.is (c.value-in-Null.ensures.code w env m n is hk hd))

pub place-returns-in-Step-clause-code : goal.place-returns-in-Step-clause-code
place-returns-in-Step-clause-code t c = λ w env m n is hk hd.
    subst (λ (x : Form). IfOk c.value-in-Step.result (λ r. Leads c.args.out.now c.value-in-Step.new.out (address_code (form_of x c.args.e.now.pos) w env m n) (literal_count env.scope (form_of x c.args.e.now.pos)) r (m + expr_jumps (form_of x c.args.e.now.pos)))) (sym c.in-Step.is)
    (subst (λ (x : Form). IfOk c.value-in-Step.result (λ r. Leads c.args.out.now c.value-in-Step.new.out (value_code (form_of x c.args.e.now.pos) w env m n) (literal_count env.scope (form_of x c.args.e.now.pos)) r (m + expr_jumps (form_of x c.args.e.now.pos)))) c.in-Step.is (c.value-in-Step.ensures.code w env m n is hk hd))

pub place-returns-in-Binary-clause-code : goal.place-returns-in-Binary-clause-code
place-returns-in-Binary-clause-code t c = λ w env m n is hk hd.
    subst (λ (x : Form). IfOk c.value-in-Binary.result (λ r. Leads c.args.out.now c.value-in-Binary.new.out (address_code (form_of x c.args.e.now.pos) w env m n) (literal_count env.scope (form_of x c.args.e.now.pos)) r (m + expr_jumps (form_of x c.args.e.now.pos)))) (sym c.in-Binary.is)
    (subst (λ (x : Form). IfOk c.value-in-Binary.result (λ r. Leads c.args.out.now c.value-in-Binary.new.out (value_code (form_of x c.args.e.now.pos) w env m n) (literal_count env.scope (form_of x c.args.e.now.pos)) r (m + expr_jumps (form_of x c.args.e.now.pos)))) c.in-Binary.is (c.value-in-Binary.ensures.code w env m n is hk hd))

pub place-returns-in-Assign-clause-code : goal.place-returns-in-Assign-clause-code
place-returns-in-Assign-clause-code t c = λ w env m n is hk hd.
    subst (λ (x : Form). IfOk c.value-in-Assign.result (λ r. Leads c.args.out.now c.value-in-Assign.new.out (address_code (form_of x c.args.e.now.pos) w env m n) (literal_count env.scope (form_of x c.args.e.now.pos)) r (m + expr_jumps (form_of x c.args.e.now.pos)))) (sym c.in-Assign.is)
    (subst (λ (x : Form). IfOk c.value-in-Assign.result (λ r. Leads c.args.out.now c.value-in-Assign.new.out (value_code (form_of x c.args.e.now.pos) w env m n) (literal_count env.scope (form_of x c.args.e.now.pos)) r (m + expr_jumps (form_of x c.args.e.now.pos)))) c.in-Assign.is (c.value-in-Assign.ensures.code w env m n is hk hd))

pub place-returns-in-Cond-clause-code : goal.place-returns-in-Cond-clause-code
place-returns-in-Cond-clause-code t c = λ w env m n is hk hd.
    subst (λ (x : Form). IfOk c.value-in-Cond.result (λ r. Leads c.args.out.now c.value-in-Cond.new.out (address_code (form_of x c.args.e.now.pos) w env m n) (literal_count env.scope (form_of x c.args.e.now.pos)) r (m + expr_jumps (form_of x c.args.e.now.pos)))) (sym c.in-Cond.is)
    (subst (λ (x : Form). IfOk c.value-in-Cond.result (λ r. Leads c.args.out.now c.value-in-Cond.new.out (value_code (form_of x c.args.e.now.pos) w env m n) (literal_count env.scope (form_of x c.args.e.now.pos)) r (m + expr_jumps (form_of x c.args.e.now.pos)))) c.in-Cond.is (c.value-in-Cond.ensures.code w env m n is hk hd))

pub place-returns-in-Comma-clause-code : goal.place-returns-in-Comma-clause-code
place-returns-in-Comma-clause-code t c = λ w env m n is hk hd.
    subst (λ (x : Form). IfOk c.value-in-Comma.result (λ r. Leads c.args.out.now c.value-in-Comma.new.out (address_code (form_of x c.args.e.now.pos) w env m n) (literal_count env.scope (form_of x c.args.e.now.pos)) r (m + expr_jumps (form_of x c.args.e.now.pos)))) (sym c.in-Comma.is)
    (subst (λ (x : Form). IfOk c.value-in-Comma.result (λ r. Leads c.args.out.now c.value-in-Comma.new.out (value_code (form_of x c.args.e.now.pos) w env m n) (literal_count env.scope (form_of x c.args.e.now.pos)) r (m + expr_jumps (form_of x c.args.e.now.pos)))) c.in-Comma.is (c.value-in-Comma.ensures.code w env m n is hk hd))

pub place-returns-in-Cast-clause-code : goal.place-returns-in-Cast-clause-code
place-returns-in-Cast-clause-code t c = λ w env m n is hk hd.
    subst (λ (x : Form). IfOk c.value-in-Cast.result (λ r. Leads c.args.out.now c.value-in-Cast.new.out (address_code (form_of x c.args.e.now.pos) w env m n) (literal_count env.scope (form_of x c.args.e.now.pos)) r (m + expr_jumps (form_of x c.args.e.now.pos)))) (sym c.in-Cast.is)
    (subst (λ (x : Form). IfOk c.value-in-Cast.result (λ r. Leads c.args.out.now c.value-in-Cast.new.out (value_code (form_of x c.args.e.now.pos) w env m n) (literal_count env.scope (form_of x c.args.e.now.pos)) r (m + expr_jumps (form_of x c.args.e.now.pos)))) c.in-Cast.is (c.value-in-Cast.ensures.code w env m n is hk hd))

pub place-returns-in-SizeTy-clause-code : goal.place-returns-in-SizeTy-clause-code
place-returns-in-SizeTy-clause-code t c = λ w env m n is hk hd.
    subst (λ (x : Form). IfOk c.value-in-SizeTy.result (λ r. Leads c.args.out.now c.value-in-SizeTy.new.out (address_code (form_of x c.args.e.now.pos) w env m n) (literal_count env.scope (form_of x c.args.e.now.pos)) r (m + expr_jumps (form_of x c.args.e.now.pos)))) (sym c.in-SizeTy.is)
    (subst (λ (x : Form). IfOk c.value-in-SizeTy.result (λ r. Leads c.args.out.now c.value-in-SizeTy.new.out (value_code (form_of x c.args.e.now.pos) w env m n) (literal_count env.scope (form_of x c.args.e.now.pos)) r (m + expr_jumps (form_of x c.args.e.now.pos)))) c.in-SizeTy.is (c.value-in-SizeTy.ensures.code w env m n is hk hd))

pub place-returns-in-SizeOf-clause-code : goal.place-returns-in-SizeOf-clause-code
place-returns-in-SizeOf-clause-code t c = λ w env m n is hk hd.
    subst (λ (x : Form). IfOk c.value-in-SizeOf.result (λ r. Leads c.args.out.now c.value-in-SizeOf.new.out (address_code (form_of x c.args.e.now.pos) w env m n) (literal_count env.scope (form_of x c.args.e.now.pos)) r (m + expr_jumps (form_of x c.args.e.now.pos)))) (sym c.in-SizeOf.is)
    (subst (λ (x : Form). IfOk c.value-in-SizeOf.result (λ r. Leads c.args.out.now c.value-in-SizeOf.new.out (value_code (form_of x c.args.e.now.pos) w env m n) (literal_count env.scope (form_of x c.args.e.now.pos)) r (m + expr_jumps (form_of x c.args.e.now.pos)))) c.in-SizeOf.is (c.value-in-SizeOf.ensures.code w env m n is hk hd))

pub place-returns-in-Call-clause-code : goal.place-returns-in-Call-clause-code
place-returns-in-Call-clause-code t c = λ w env m n is hk hd.
    subst (λ (x : Form). IfOk c.value-in-Call.result (λ r. Leads c.args.out.now c.value-in-Call.new.out (address_code (form_of x c.args.e.now.pos) w env m n) (literal_count env.scope (form_of x c.args.e.now.pos)) r (m + expr_jumps (form_of x c.args.e.now.pos)))) (sym c.in-Call.is)
    (subst (λ (x : Form). IfOk c.value-in-Call.result (λ r. Leads c.args.out.now c.value-in-Call.new.out (value_code (form_of x c.args.e.now.pos) w env m n) (literal_count env.scope (form_of x c.args.e.now.pos)) r (m + expr_jumps (form_of x c.args.e.now.pos)))) c.in-Call.is (c.value-in-Call.ensures.code w env m n is hk hd))

pub value-returns-in-Unary-clause-code : goal.value-returns-in-Unary-clause-code
value-returns-in-Unary-clause-code t c = λ w env m n is hk hd.
    let same : (expr_of c.args.e.now) ≡ tree.Unary c.args.e.now.pos c.in-Unary.op (expr_of c.deref.result.now) = ap (λ (x : Form). form_of x c.args.e.now.pos) c.in-Unary.is ∙ (ap (λ (x : Expr). tree.Unary c.args.e.now.pos c.in-Unary.op (expr_of x)) (sym c.deref.ensures)) in
    c.unary.ensures.code c.args.e.now.pos same w env m n is hk hd

pub value-returns-in-Unary-clause-keeps : goal.value-returns-in-Unary-clause-keeps
value-returns-in-Unary-clause-keeps t c = c.unary.ensures.keeps

pub value-returns-in-Step-clause-code : goal.value-returns-in-Step-clause-code
value-returns-in-Step-clause-code t c = λ w env m n is hk hd.
    let same : (expr_of c.args.e.now) ≡ tree.Step c.args.e.now.pos c.in-Step.op (expr_of c.deref-in-Step.result.now) = ap (λ (x : Form). form_of x c.args.e.now.pos) c.in-Step.is ∙ (ap (λ (x : Expr). tree.Step c.args.e.now.pos c.in-Step.op (expr_of x)) (sym c.deref-in-Step.ensures)) in
    subst (λ (x : CExpr). IfOk c.step.result (λ r. Leads c.args.out.now c.step.new.out (value_code x w env m n) (literal_count env.scope x) r (m + expr_jumps x))) (sym same) (c.step.ensures.code w env m n is hk hd)

pub value-returns-in-Step-clause-keeps : goal.value-returns-in-Step-clause-keeps
value-returns-in-Step-clause-keeps t c = c.step.ensures.keeps

pub value-returns-in-Binary-clause-code : goal.value-returns-in-Binary-clause-code
value-returns-in-Binary-clause-code t c = λ w env m n is hk hd.
    let same : (expr_of c.args.e.now) ≡ tree.Binary c.args.e.now.pos c.in-Binary.op (expr_of c.deref-in-Binary.result.now) (expr_of c.deref-in-Binary-2.result.now) = ap (λ (x : Form). form_of x c.args.e.now.pos) c.in-Binary.is ∙ (ap (λ (x : Expr). tree.Binary c.args.e.now.pos c.in-Binary.op (expr_of x) (expr_of c.in-Binary.b.value)) (sym c.deref-in-Binary.ensures) ∙ (ap (λ (x : Expr). tree.Binary c.args.e.now.pos c.in-Binary.op (expr_of c.deref-in-Binary.result.now) (expr_of x)) (sym c.deref-in-Binary-2.ensures))) in
    subst (λ (x : CExpr). IfOk c.binary.result (λ r. Leads c.args.out.now c.binary.new.out (value_code x w env m n) (literal_count env.scope x) r (m + expr_jumps x))) (sym same) (c.binary.ensures.code w env m n is hk hd)

pub value-returns-in-Binary-clause-keeps : goal.value-returns-in-Binary-clause-keeps
value-returns-in-Binary-clause-keeps t c = c.binary.ensures.keeps

pub value-returns-in-Assign-clause-code : goal.value-returns-in-Assign-clause-code
value-returns-in-Assign-clause-code t c = λ w env m n is hk hd.
    let same : (expr_of c.args.e.now) ≡ tree.Assign c.args.e.now.pos c.in-Assign.op (expr_of c.deref-in-Assign.result.now) (expr_of c.deref-in-Assign-2.result.now) = ap (λ (x : Form). form_of x c.args.e.now.pos) c.in-Assign.is ∙ (ap (λ (x : Expr). tree.Assign c.args.e.now.pos c.in-Assign.op (expr_of x) (expr_of c.in-Assign.b.value)) (sym c.deref-in-Assign.ensures) ∙ (ap (λ (x : Expr). tree.Assign c.args.e.now.pos c.in-Assign.op (expr_of c.deref-in-Assign.result.now) (expr_of x)) (sym c.deref-in-Assign-2.ensures))) in
    subst (λ (x : CExpr). IfOk c.assignment.result (λ r. Leads c.args.out.now c.assignment.new.out (value_code x w env m n) (literal_count env.scope x) r (m + expr_jumps x))) (sym same) (c.assignment.ensures.code w env m n is hk hd)

pub value-returns-in-Assign-clause-keeps : goal.value-returns-in-Assign-clause-keeps
value-returns-in-Assign-clause-keeps t c = c.assignment.ensures.keeps

pub value-returns-in-Cond-clause-code : goal.value-returns-in-Cond-clause-code
value-returns-in-Cond-clause-code t c = λ w env m n is hk hd.
    let same : (expr_of c.args.e.now) ≡ tree.Cond c.args.e.now.pos (expr_of c.deref-in-Cond.result.now) (expr_of c.deref-in-Cond-2.result.now) (expr_of c.deref-in-Cond-3.result.now) = ap (λ (x : Form). form_of x c.args.e.now.pos) c.in-Cond.is ∙ (ap (λ (x : Expr). tree.Cond c.args.e.now.pos (expr_of x) (expr_of c.in-Cond.b.value) (expr_of c.in-Cond.c.value)) (sym c.deref-in-Cond.ensures) ∙ (ap (λ (x : Expr). tree.Cond c.args.e.now.pos (expr_of c.deref-in-Cond.result.now) (expr_of x) (expr_of c.in-Cond.c.value)) (sym c.deref-in-Cond-2.ensures) ∙ (ap (λ (x : Expr). tree.Cond c.args.e.now.pos (expr_of c.deref-in-Cond.result.now) (expr_of c.deref-in-Cond-2.result.now) (expr_of x)) (sym c.deref-in-Cond-3.ensures)))) in
    subst (λ (x : CExpr). IfOk c.choice.result (λ r. Leads c.args.out.now c.choice.new.out (value_code x w env m n) (literal_count env.scope x) r (m + expr_jumps x))) (sym same) (c.choice.ensures.code w env m n is hk hd)

pub value-returns-in-Cond-clause-keeps : goal.value-returns-in-Cond-clause-keeps
value-returns-in-Cond-clause-keeps t c = c.choice.ensures.keeps

pub value-returns-in-Comma-clause-code : goal.value-returns-in-Comma-clause-code
value-returns-in-Comma-clause-code t c = λ w env m n is hk hd.
    let same : (expr_of c.args.e.now) ≡ tree.Comma c.args.e.now.pos (expr_of c.deref-in-Comma.result.now) (expr_of c.deref-in-Comma-2.result.now) = ap (λ (x : Form). form_of x c.args.e.now.pos) c.in-Comma.is ∙ (ap (λ (x : Expr). tree.Comma c.args.e.now.pos (expr_of x) (expr_of c.in-Comma.b.value)) (sym c.deref-in-Comma.ensures) ∙ (ap (λ (x : Expr). tree.Comma c.args.e.now.pos (expr_of c.deref-in-Comma.result.now) (expr_of x)) (sym c.deref-in-Comma-2.ensures))) in
    subst (λ (x : CExpr). IfOk c.comma.result (λ r. Leads c.args.out.now c.comma.new.out (value_code x w env m n) (literal_count env.scope x) r (m + expr_jumps x))) (sym same) (c.comma.ensures.code w env m n is hk hd)

pub value-returns-in-Comma-clause-keeps : goal.value-returns-in-Comma-clause-keeps
value-returns-in-Comma-clause-keeps t c = c.comma.ensures.keeps

pub value-returns-in-Call-clause-code : goal.value-returns-in-Call-clause-code
value-returns-in-Call-clause-code t c = λ w env m n is hk hd.
    let same : (expr_of c.args.e.now) ≡ tree.Call c.args.e.now.pos (expr_of c.deref-in-Call.result.now) (exprs_of c.in-Call.es) = ap (λ (x : Form). form_of x c.args.e.now.pos) c.in-Call.is ∙ (ap (λ (x : Expr). tree.Call c.args.e.now.pos (expr_of x) (exprs_of c.in-Call.es)) (sym c.deref-in-Call.ensures)) in
    subst (λ (x : CExpr). IfOk c.call.result (λ r. Leads c.args.out.now c.call.new.out (value_code x w env m n) (literal_count env.scope x) r (m + expr_jumps x))) (sym same) (c.call.ensures.code w env m n is hk hd)

pub value-returns-in-Call-clause-keeps : goal.value-returns-in-Call-clause-keeps
value-returns-in-Call-clause-keeps t c = c.call.ensures.keeps

pub value-returns-in-Index-clause-code : goal.value-returns-in-Index-clause-code
value-returns-in-Index-clause-code t c = λ w env m n is hk hd.
    let same : (expr_of c.args.e.now) ≡ tree.Index c.args.e.now.pos (expr_of c.deref-in-Index.result.now) (expr_of c.deref-in-Index-2.result.now) = ap (λ (x : Form). form_of x c.args.e.now.pos) c.in-Index.is ∙ (ap (λ (x : Expr). tree.Index c.args.e.now.pos (expr_of x) (expr_of c.in-Index.b.value)) (sym c.deref-in-Index.ensures) ∙ (ap (λ (x : Expr). tree.Index c.args.e.now.pos (expr_of c.deref-in-Index.result.now) (expr_of x)) (sym c.deref-in-Index-2.ensures))) in
    subst (λ (x : CExpr). IfOk c.indexed.result (λ r. Leads c.args.out.now c.indexed.new.out (value_code x w env m n) (literal_count env.scope x) r (m + expr_jumps x))) (sym same)
    (subst (λ (x : CExpr). IfOk c.indexed.result (λ r. Leads c.args.out.now c.indexed.new.out (operations.sum_code (sides (expr_of c.deref-in-Index.result.now) (expr_of c.deref-in-Index-2.result.now) w env m n) ++ operations.fetched (type_in env.scope x)) (length (literals_in env.scope (expr_of c.deref-in-Index.result.now) ++ literals_in env.scope (expr_of c.deref-in-Index-2.result.now))) r (m + (expr_jumps (expr_of c.deref-in-Index.result.now) + expr_jumps (expr_of c.deref-in-Index-2.result.now))))) same (c.indexed.ensures.code w env m n is hk hd))

pub value-returns-in-Index-clause-keeps : goal.value-returns-in-Index-clause-keeps
value-returns-in-Index-clause-keeps t c = c.indexed.ensures.keeps

pub value-returns-in-Member-clause-code : goal.value-returns-in-Member-clause-code
value-returns-in-Member-clause-code t c = λ w env m n is hk hd.
    let same : (expr_of c.args.e.now) ≡ tree.Member c.args.e.now.pos (expr_of c.deref-in-Member.result.now) c.as_bytes.result.now = ap (λ (x : Form). form_of x c.args.e.now.pos) c.in-Member.is ∙ (ap (λ (x : Expr). tree.Member c.args.e.now.pos (expr_of x) c.in-Member.m) (sym c.deref-in-Member.ensures) ∙ (ap (λ (x : List ℕ). tree.Member c.args.e.now.pos (expr_of c.deref-in-Member.result.now) x) (sym c.as_bytes.ensures))) in
    subst (λ (x : CExpr). IfOk c.member.result (λ r. Leads c.args.out.now c.member.new.out (value_code x w env m n) (literal_count env.scope x) r (m + expr_jumps x))) (sym same)
    (subst (λ (x : CExpr). IfOk c.member.result (λ r. Leads c.args.out.now c.member.new.out (operations.direct_or (plain.direct x w env) (address_code (expr_of c.deref-in-Member.result.now) w env m n ++ (operations.moved_on (member_offset env.scope.tags (type_in env.scope (expr_of c.deref-in-Member.result.now)) c.as_bytes.result.now) ++ operations.fetched (type_in env.scope x)))) (literal_count env.scope x) r (m + expr_jumps x))) same (c.member.ensures.code c.args.e.now.pos same w env m n is hk hd))

pub value-returns-in-Member-clause-keeps : goal.value-returns-in-Member-clause-keeps
value-returns-in-Member-clause-keeps t c = c.member.ensures.keeps

pub value-returns-in-Arrow-clause-code : goal.value-returns-in-Arrow-clause-code
value-returns-in-Arrow-clause-code t c = λ w env m n is hk hd.
    let same : (expr_of c.args.e.now) ≡ tree.Arrow c.args.e.now.pos (expr_of c.deref-in-Arrow.result.now) c.as_bytes-in-Arrow.result.now = ap (λ (x : Form). form_of x c.args.e.now.pos) c.in-Arrow.is ∙ (ap (λ (x : Expr). tree.Arrow c.args.e.now.pos (expr_of x) c.in-Arrow.m) (sym c.deref-in-Arrow.ensures) ∙ (ap (λ (x : List ℕ). tree.Arrow c.args.e.now.pos (expr_of c.deref-in-Arrow.result.now) x) (sym c.as_bytes-in-Arrow.ensures))) in
    subst (λ (x : CExpr). IfOk c.pointed_member.result (λ r. Leads c.args.out.now c.pointed_member.new.out (value_code x w env m n) (literal_count env.scope x) r (m + expr_jumps x))) (sym same)
    (subst (λ (x : CExpr). IfOk c.pointed_member.result (λ r. Leads c.args.out.now c.pointed_member.new.out (value_code (expr_of c.deref-in-Arrow.result.now) w env m n ++ (operations.moved_on (member_offset env.scope.tags (pointee (value_type_in env.scope (expr_of c.deref-in-Arrow.result.now))) c.as_bytes-in-Arrow.result.now) ++ operations.fetched (type_in env.scope x))) (literal_count env.scope (expr_of c.deref-in-Arrow.result.now)) r (m + expr_jumps (expr_of c.deref-in-Arrow.result.now)))) same (c.pointed_member.ensures.code w env m n is hk hd))

pub value-returns-in-Arrow-clause-keeps : goal.value-returns-in-Arrow-clause-keeps
value-returns-in-Arrow-clause-keeps t c = c.pointed_member.ensures.keeps

pub place-returns-in-Name-clause-code : goal.place-returns-in-Name-clause-code
place-returns-in-Name-clause-code t c = λ w env m n is hk hd.
    let same : (expr_of c.args.e.now) ≡ tree.Var c.args.e.now.pos c.as_bytes.result.now = ap (λ (x : Form). form_of x c.args.e.now.pos) c.in-Name.is ∙ (ap (λ (x : List ℕ). tree.Var c.args.e.now.pos x) (sym c.as_bytes.ensures)) in
    subst (λ (x : CExpr). IfOk c.named_place.result (λ r. Leads c.args.out.now c.named_place.new.out (address_code x w env m n) (literal_count env.scope x) r (m + expr_jumps x))) (sym same) (c.named_place.ensures.code c.args.e.now.pos c.args.d w env m n is hk hd)

pub place-returns-in-Name-clause-keeps : goal.place-returns-in-Name-clause-keeps
place-returns-in-Name-clause-keeps t c = c.named_place.ensures.keeps

pub place-returns-in-Unary-clause-code : goal.place-returns-in-Unary-clause-code
place-returns-in-Unary-clause-code t c = λ w env m n is hk hd.
    let same : (expr_of c.args.e.now) ≡ tree.Unary c.args.e.now.pos c.in-Unary._op (expr_of c.deref.result.now) = ap (λ (x : Form). form_of x c.args.e.now.pos) c.in-Unary.is ∙ (ap (λ (x : Expr). tree.Unary c.args.e.now.pos c.in-Unary._op (expr_of x)) (sym c.deref.ensures)) in
    subst (λ (x : CExpr). IfOk c.value.result (λ r. Leads c.args.out.now c.value.new.out (address_code x w env m n) (literal_count env.scope x) r (m + expr_jumps x))) (sym same) (c.value.ensures.code w env m n is hk hd)

pub place-returns-in-Unary-clause-keeps : goal.place-returns-in-Unary-clause-keeps
place-returns-in-Unary-clause-keeps t c = c.value.ensures.keeps

pub place-returns-in-Index-clause-code : goal.place-returns-in-Index-clause-code
place-returns-in-Index-clause-code t c = λ w env m n is hk hd.
    let same : (expr_of c.args.e.now) ≡ tree.Index c.args.e.now.pos (expr_of c.deref-in-Index.result.now) (expr_of c.deref-in-Index-2.result.now) = ap (λ (x : Form). form_of x c.args.e.now.pos) c.in-Index.is ∙ (ap (λ (x : Expr). tree.Index c.args.e.now.pos (expr_of x) (expr_of c.in-Index.b.value)) (sym c.deref-in-Index.ensures) ∙ (ap (λ (x : Expr). tree.Index c.args.e.now.pos (expr_of c.deref-in-Index.result.now) (expr_of x)) (sym c.deref-in-Index-2.ensures))) in
    subst (λ (x : CExpr). IfOk c.element.result (λ r. Leads c.args.out.now c.element.new.out (address_code x w env m n) (literal_count env.scope x) r (m + expr_jumps x))) (sym same) (c.element.ensures.code w env m n is hk hd)

pub place-returns-in-Index-clause-keeps : goal.place-returns-in-Index-clause-keeps
place-returns-in-Index-clause-keeps t c = c.element.ensures.keeps

pub place-returns-in-Member-clause-code : goal.place-returns-in-Member-clause-code
place-returns-in-Member-clause-code t c = λ w env m n is hk hd.
    let same : (expr_of c.args.e.now) ≡ tree.Member c.args.e.now.pos (expr_of c.deref-in-Member.result.now) c.as_bytes-in-Member.result.now = ap (λ (x : Form). form_of x c.args.e.now.pos) c.in-Member.is ∙ (ap (λ (x : Expr). tree.Member c.args.e.now.pos (expr_of x) c.in-Member.m) (sym c.deref-in-Member.ensures) ∙ (ap (λ (x : List ℕ). tree.Member c.args.e.now.pos (expr_of c.deref-in-Member.result.now) x) (sym c.as_bytes-in-Member.ensures))) in
    subst (λ (x : CExpr). IfOk c.member_place.result (λ r. Leads c.args.out.now c.member_place.new.out (address_code x w env m n) (literal_count env.scope x) r (m + expr_jumps x))) (sym same) (c.member_place.ensures.code w env m n is hk hd)

pub place-returns-in-Member-clause-keeps : goal.place-returns-in-Member-clause-keeps
place-returns-in-Member-clause-keeps t c = c.member_place.ensures.keeps

pub place-returns-in-Arrow-clause-code : goal.place-returns-in-Arrow-clause-code
place-returns-in-Arrow-clause-code t c = λ w env m n is hk hd.
    let same : (expr_of c.args.e.now) ≡ tree.Arrow c.args.e.now.pos (expr_of c.deref-in-Arrow.result.now) c.as_bytes-in-Arrow.result.now = ap (λ (x : Form). form_of x c.args.e.now.pos) c.in-Arrow.is ∙ (ap (λ (x : Expr). tree.Arrow c.args.e.now.pos (expr_of x) c.in-Arrow.m) (sym c.deref-in-Arrow.ensures) ∙ (ap (λ (x : List ℕ). tree.Arrow c.args.e.now.pos (expr_of c.deref-in-Arrow.result.now) x) (sym c.as_bytes-in-Arrow.ensures))) in
    subst (λ (x : CExpr). IfOk c.member_behind.result (λ r. Leads c.args.out.now c.member_behind.new.out (address_code x w env m n) (literal_count env.scope x) r (m + expr_jumps x))) (sym same) (c.member_behind.ensures.code w env m n is hk hd)

pub place-returns-in-Arrow-clause-keeps : goal.place-returns-in-Arrow-clause-keeps
place-returns-in-Arrow-clause-keeps t c = c.member_behind.ensures.keeps

pub truth-returns-in-Unary-clause-code : goal.truth-returns-in-Unary-clause-code
truth-returns-in-Unary-clause-code t c = λ t ht w env m n is hk hd.
    let same : (expr_of c.args.e.now) ≡ tree.Unary c.args.e.now.pos c.in-Unary.op (expr_of c.deref.result.now) = ap (λ (x : Form). form_of x c.args.e.now.pos) c.in-Unary.is ∙ (ap (λ (x : Expr). tree.Unary c.args.e.now.pos c.in-Unary.op (expr_of x)) (sym c.deref.ensures)) in
    c.unary_truth.ensures.code c.args.e.now.pos same t ht w env m n is hk hd

pub truth-returns-in-Unary-clause-keeps : goal.truth-returns-in-Unary-clause-keeps
truth-returns-in-Unary-clause-keeps t c = c.unary_truth.ensures.keeps

pub truth-returns-in-Binary-clause-code : goal.truth-returns-in-Binary-clause-code
truth-returns-in-Binary-clause-code t c = λ t ht w env m n is hk hd.
    let same : (expr_of c.args.e.now) ≡ tree.Binary c.args.e.now.pos c.in-Binary.op (expr_of c.deref-in-Binary.result.now) (expr_of c.deref-in-Binary-2.result.now) = ap (λ (x : Form). form_of x c.args.e.now.pos) c.in-Binary.is ∙ (ap (λ (x : Expr). tree.Binary c.args.e.now.pos c.in-Binary.op (expr_of x) (expr_of c.in-Binary.b.value)) (sym c.deref-in-Binary.ensures) ∙ (ap (λ (x : Expr). tree.Binary c.args.e.now.pos c.in-Binary.op (expr_of c.deref-in-Binary.result.now) (expr_of x)) (sym c.deref-in-Binary-2.ensures))) in
    c.binary_truth.ensures.code c.args.e.now.pos same t ht w env m n is hk hd

pub truth-returns-in-Binary-clause-keeps : goal.truth-returns-in-Binary-clause-keeps
truth-returns-in-Binary-clause-keeps t c = c.binary_truth.ensures.keeps

pub value-returns-in-Cast-clause-code : goal.value-returns-in-Cast-clause-code
value-returns-in-Cast-clause-code t c = λ w env m n is hk hd.
    let same : (expr_of c.args.e.now) ≡ tree.Cast c.args.e.now.pos (ty_of c.in-Cast._t.value) (expr_of c.deref-in-Cast.result.now) = ap (λ (x : Form). form_of x c.args.e.now.pos) c.in-Cast.is ∙ (ap (λ (x : Expr). tree.Cast c.args.e.now.pos (ty_of c.in-Cast._t.value) (expr_of x)) (sym c.deref-in-Cast.ensures)) in
    subst (λ (x : CExpr). IfOk c.value.result (λ r. Leads c.args.out.now c.value.new.out (value_code x w env m n) (literal_count env.scope x) r (m + expr_jumps x))) (sym same) (c.value.ensures.code w env m n is hk hd)

pub value-returns-in-Cast-clause-keeps : goal.value-returns-in-Cast-clause-keeps
value-returns-in-Cast-clause-keeps t c = c.value.ensures.keeps

pub value-returns-in-Number-clause-code : goal.value-returns-in-Number-clause-code
value-returns-in-Number-clause-code t c = λ w env m n is hk hd. c.leaf.ensures.code w env m n (subst (λ (x : Form). IsLeaf (form_of x c.args.e.now.pos)) (sym c.in-Number.is) tt) is hk

pub value-returns-in-Str-clause-code : goal.value-returns-in-Str-clause-code
value-returns-in-Str-clause-code t c = λ w env m n is hk hd. c.leaf-in-Str.ensures.code w env m n (subst (λ (x : Form). IsLeaf (form_of x c.args.e.now.pos)) (sym c.in-Str.is) tt) is hk

pub value-returns-in-Null-clause-code : goal.value-returns-in-Null-clause-code
value-returns-in-Null-clause-code t c = λ w env m n is hk hd. c.leaf-in-Null.ensures.code w env m n (subst (λ (x : Form). IsLeaf (form_of x c.args.e.now.pos)) (sym c.in-Null.is) tt) is hk

pub value-returns-in-Name-clause-code : goal.value-returns-in-Name-clause-code
value-returns-in-Name-clause-code t c = λ w env m n is hk hd. c.leaf-in-Name.ensures.code w env m n (subst (λ (x : Form). IsLeaf (form_of x c.args.e.now.pos)) (sym c.in-Name.is) tt) is hk

pub value-returns-in-SizeTy-clause-code : goal.value-returns-in-SizeTy-clause-code
value-returns-in-SizeTy-clause-code t c = λ w env m n is hk hd. c.leaf-in-SizeTy.ensures.code w env m n (subst (λ (x : Form). IsLeaf (form_of x c.args.e.now.pos)) (sym c.in-SizeTy.is) tt) is hk

pub value-returns-in-SizeOf-clause-code : goal.value-returns-in-SizeOf-clause-code
value-returns-in-SizeOf-clause-code t c = λ w env m n is hk hd. c.leaf-in-SizeOf.ensures.code w env m n (subst (λ (x : Form). IsLeaf (form_of x c.args.e.now.pos)) (sym c.in-SizeOf.is) tt) is hk

pub value-returns-in-Number-clause-keeps : goal.value-returns-in-Number-clause-keeps
value-returns-in-Number-clause-keeps t c = c.leaf.ensures.keeps

pub value-returns-in-Str-clause-keeps : goal.value-returns-in-Str-clause-keeps
value-returns-in-Str-clause-keeps t c = c.leaf-in-Str.ensures.keeps

pub value-returns-in-Null-clause-keeps : goal.value-returns-in-Null-clause-keeps
value-returns-in-Null-clause-keeps t c = c.leaf-in-Null.ensures.keeps

pub value-returns-in-Name-clause-keeps : goal.value-returns-in-Name-clause-keeps
value-returns-in-Name-clause-keeps t c = c.leaf-in-Name.ensures.keeps

pub value-returns-in-SizeTy-clause-keeps : goal.value-returns-in-SizeTy-clause-keeps
value-returns-in-SizeTy-clause-keeps t c = c.leaf-in-SizeTy.ensures.keeps

pub value-returns-in-SizeOf-clause-keeps : goal.value-returns-in-SizeOf-clause-keeps
value-returns-in-SizeOf-clause-keeps t c = c.leaf-in-SizeOf.ensures.keeps

pub place-returns-in-Number-clause-keeps : goal.place-returns-in-Number-clause-keeps
place-returns-in-Number-clause-keeps t c = c.value-in-Number.ensures.keeps

pub place-returns-in-Str-clause-keeps : goal.place-returns-in-Str-clause-keeps
place-returns-in-Str-clause-keeps t c = c.value-in-Str.ensures.keeps

pub place-returns-in-Null-clause-keeps : goal.place-returns-in-Null-clause-keeps
place-returns-in-Null-clause-keeps t c = c.value-in-Null.ensures.keeps

pub place-returns-in-Step-clause-keeps : goal.place-returns-in-Step-clause-keeps
place-returns-in-Step-clause-keeps t c = c.value-in-Step.ensures.keeps

pub place-returns-in-Binary-clause-keeps : goal.place-returns-in-Binary-clause-keeps
place-returns-in-Binary-clause-keeps t c = c.value-in-Binary.ensures.keeps

pub place-returns-in-Assign-clause-keeps : goal.place-returns-in-Assign-clause-keeps
place-returns-in-Assign-clause-keeps t c = c.value-in-Assign.ensures.keeps

pub place-returns-in-Cond-clause-keeps : goal.place-returns-in-Cond-clause-keeps
place-returns-in-Cond-clause-keeps t c = c.value-in-Cond.ensures.keeps

pub place-returns-in-Comma-clause-keeps : goal.place-returns-in-Comma-clause-keeps
place-returns-in-Comma-clause-keeps t c = c.value-in-Comma.ensures.keeps

pub place-returns-in-Cast-clause-keeps : goal.place-returns-in-Cast-clause-keeps
place-returns-in-Cast-clause-keeps t c = c.value-in-Cast.ensures.keeps

pub place-returns-in-SizeTy-clause-keeps : goal.place-returns-in-SizeTy-clause-keeps
place-returns-in-SizeTy-clause-keeps t c = c.value-in-SizeTy.ensures.keeps

pub place-returns-in-SizeOf-clause-keeps : goal.place-returns-in-SizeOf-clause-keeps
place-returns-in-SizeOf-clause-keeps t c = c.value-in-SizeOf.ensures.keeps

pub place-returns-in-Call-clause-keeps : goal.place-returns-in-Call-clause-keeps
place-returns-in-Call-clause-keeps t c = c.value-in-Call.ensures.keeps

pub truth-returns-in-Number-clause-keeps : goal.truth-returns-in-Number-clause-keeps
truth-returns-in-Number-clause-keeps t c = c.tested.ensures.keeps

pub truth-returns-in-Str-clause-keeps : goal.truth-returns-in-Str-clause-keeps
truth-returns-in-Str-clause-keeps t c = c.tested-in-Str.ensures.keeps

pub truth-returns-in-Null-clause-keeps : goal.truth-returns-in-Null-clause-keeps
truth-returns-in-Null-clause-keeps t c = c.tested-in-Null.ensures.keeps

pub truth-returns-in-Name-clause-keeps : goal.truth-returns-in-Name-clause-keeps
truth-returns-in-Name-clause-keeps t c = c.tested-in-Name.ensures.keeps

pub truth-returns-in-Step-clause-keeps : goal.truth-returns-in-Step-clause-keeps
truth-returns-in-Step-clause-keeps t c = c.tested-in-Step.ensures.keeps

pub truth-returns-in-Assign-clause-keeps : goal.truth-returns-in-Assign-clause-keeps
truth-returns-in-Assign-clause-keeps t c = c.tested-in-Assign.ensures.keeps

pub truth-returns-in-Cond-clause-keeps : goal.truth-returns-in-Cond-clause-keeps
truth-returns-in-Cond-clause-keeps t c = c.tested-in-Cond.ensures.keeps

pub truth-returns-in-Comma-clause-keeps : goal.truth-returns-in-Comma-clause-keeps
truth-returns-in-Comma-clause-keeps t c = c.tested-in-Comma.ensures.keeps

pub truth-returns-in-Cast-clause-keeps : goal.truth-returns-in-Cast-clause-keeps
truth-returns-in-Cast-clause-keeps t c = c.tested-in-Cast.ensures.keeps

pub truth-returns-in-SizeTy-clause-keeps : goal.truth-returns-in-SizeTy-clause-keeps
truth-returns-in-SizeTy-clause-keeps t c = c.tested-in-SizeTy.ensures.keeps

pub truth-returns-in-SizeOf-clause-keeps : goal.truth-returns-in-SizeOf-clause-keeps
truth-returns-in-SizeOf-clause-keeps t c = c.tested-in-SizeOf.ensures.keeps

pub truth-returns-in-Index-clause-keeps : goal.truth-returns-in-Index-clause-keeps
truth-returns-in-Index-clause-keeps t c = c.tested-in-Index.ensures.keeps

pub truth-returns-in-Call-clause-keeps : goal.truth-returns-in-Call-clause-keeps
truth-returns-in-Call-clause-keeps t c = c.tested-in-Call.ensures.keeps

pub truth-returns-in-Member-clause-keeps : goal.truth-returns-in-Member-clause-keeps
truth-returns-in-Member-clause-keeps t c = c.tested-in-Member.ensures.keeps

pub truth-returns-in-Arrow-clause-keeps : goal.truth-returns-in-Arrow-clause-keeps
truth-returns-in-Arrow-clause-keeps t c = c.tested-in-Arrow.ensures.keeps

pub unary_truth-returns-in-Minus-clause-keeps : goal.unary_truth-returns-in-Minus-clause-keeps
unary_truth-returns-in-Minus-clause-keeps t c = c.tested.ensures.keeps

pub unary_truth-returns-in-Plus-clause-keeps : goal.unary_truth-returns-in-Plus-clause-keeps
unary_truth-returns-in-Plus-clause-keeps t c = c.tested-in-Plus.ensures.keeps

pub unary_truth-returns-in-Invert-clause-keeps : goal.unary_truth-returns-in-Invert-clause-keeps
unary_truth-returns-in-Invert-clause-keeps t c = c.tested-in-Invert.ensures.keeps

pub unary_truth-returns-in-Deref-clause-keeps : goal.unary_truth-returns-in-Deref-clause-keeps
unary_truth-returns-in-Deref-clause-keeps t c = c.tested-in-Deref.ensures.keeps

pub unary_truth-returns-in-Address-clause-keeps : goal.unary_truth-returns-in-Address-clause-keeps
unary_truth-returns-in-Address-clause-keeps t c = c.tested-in-Address.ensures.keeps

pub unary_truth-returns-in-Not-clause-keeps : goal.unary_truth-returns-in-Not-clause-keeps
unary_truth-returns-in-Not-clause-keeps t c = c.truth.ensures.keeps

pub unary-returns-in-Some-clause-keeps : goal.unary-returns-in-Some-clause-keeps
unary-returns-in-Some-clause-keeps t c = c.in_ok-known.ensures.keeps

pub member-returns-in-Some-clause-keeps : goal.member-returns-in-Some-clause-keeps
member-returns-in-Some-clause-keeps t c = c.in_ok-known.ensures.keeps

pub operated-returns-then-takes_place-clause-keeps : goal.operated-returns-then-takes_place-clause-keeps
operated-returns-then-takes_place-clause-keeps t c = c.place.ensures.keeps

pub binary-returns-in-Some-clause-keeps : goal.binary-returns-in-Some-clause-keeps
binary-returns-in-Some-clause-keeps t c = c.truth_value.ensures.keeps

pub binary-returns-in-None-clause-keeps : goal.binary-returns-in-None-clause-keeps
binary-returns-in-None-clause-keeps t c = c.operation_value.ensures.keeps

pub binary_truth-returns-in-Some-clause-keeps : goal.binary_truth-returns-in-Some-clause-keeps
binary_truth-returns-in-Some-clause-keeps t c = c.junction.ensures.keeps

pub assignment-returns-in-None-clause-keeps : goal.assignment-returns-in-None-clause-keeps
assignment-returns-in-None-clause-keeps t c = c.assigned.ensures.keeps

pub assignment-returns-in-Some-clause-keeps : goal.assignment-returns-in-Some-clause-keeps
assignment-returns-in-Some-clause-keeps t c = c.updated.ensures.keeps

pub argument-returns-clause-keeps : goal.argument-returns-clause-keeps
argument-returns-clause-keeps t c = c.in_ok-behind.ensures.keeps

pub call-returns-in-Through-clause-keeps : goal.call-returns-in-Through-clause-keeps
call-returns-in-Through-clause-keeps t c = c.through.ensures.keeps
