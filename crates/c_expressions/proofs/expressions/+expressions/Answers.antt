use Rattle.std.proofs.Common.{◌≡◌, ◌<◌, ◌≤◌, ◌-◌, ℕ, List, map, drop, get_or, Option, refl, sym, ap, subst, ◌∙◌, arith, rules}
use Rattle.std.specs.Prelude.{Ok, Err, IfOk, length, ◌+◌}
use Rattle.c_syntax.specs.Plain as tree
use Rattle.c_syntax.specs.Plain.{CTy, tys}
use Rattle.c_syntax.specs.declared.tree.Ty.TheVariants as type
use Rattle.c_syntax.specs.declared.tree.Expr.{Expr}
use Rattle.c_syntax.specs.View.{form_of, expr_of, exprs_of, ty_of}
use Rattle.c_syntax.specs.declared.tree.Form.{Form}
use Rattle.c_syntax.specs.declared.tree.Form.TheFolds.{the_lemmas}
use Rattle.std.proofs.lemmas.Grind.{common_steps, elements}
use Rattle.c_syntax.specs.declared.tree.Ty.{Ty}
use Rattle.c_types.specs.declared.fault.TypeFault.TheVariants as fault
use Rattle.c_types.specs.Types as types
use Rattle.c_types.specs.Refusals.{Judged, both, after, all_three}
use Rattle.c_types.specs.Scope.{entity_of}
use Rattle.c_types.specs.Expressions as expressions
use Rattle.c_types.specs.Operands as plain
use Rattle.c_types.specs.Operands.{call_operand}
use Rattle.c_types.specs.Expressions.{judged, all_judged, written, parameters, callee_of}
use Rattle.c_types.specs.Table.{known, HasType}
use Rattle.c_operands.specs.Seen.{IsOperand, IsJudged}
use Rattle.c_operands.proofs.OperandLemmas.{grows_then}
use Rattle.c_operands.specs.Arguments.{IsCallee}
use Rattle.c_operands.proofs.NameLemmas.{fits_kept}
use Rattle.c_expressions.specs.Named.{tys_of}
use Rattle.c_expressions.proofs.KeptLemmas.{judged_kept, type_kept, list_kept, callee_kept, layouts_at, some_kept, on_ok}
use Rattle.c_expressions.proofs.FormLemmas.{callee_named, callee_through, size_of_name, size_of_other}
use Rattle.c_syntax.specs.declared.tree.Exprs.{out-Exprs}
use Rattle.c_expressions.proofs.RowLemmas.{exprs_view, function_made}
use Rattle.c_expressions.proofs.GoingLemmas.{GoingTypes, begun, goes_on, done, one_type_more, drop_at, drop_before}
use Rattle.c_expressions.proofs.expressions.+expressions.Goals as goal

pub judge_one-after_one-requires : goal.judge_one-after_one-requires
judge_one-after_one-requires t c =
    let s = c.requires.0 in
    (judged s (expr_of c.args.a.now), c.in_ok-part.ensures.judged s c.requires.1)

pub judge_one-returns-clause-judged : goal.judge_one-returns-clause-judged
judge_one-returns-clause-judged t c = λ s fits.
    let old = c.args.types.now in
    let new = c.judge.new.types in
    let d = c.args.declared.now in
    c.after_one.ensures.judged (judged s (expr_of c.args.a.now)) s.tags (c.in_ok-part.ensures.judged s fits)
    (layouts_at new d s c.as_slice.result.now c.as_slice.ensures.value (fits_kept old new d s c.in_ok-part.ensures.grows c.in_ok-part.ensures.tags fits))

pub judge_type_size-after_size-requires : goal.judge_type_size-after_size-requires
judge_type_size-after_size-requires t c =
    let s = c.requires.0 in
    (written s c.args.at (ty_of c.args.t.now), c.in_ok-ty.ensures.judged s c.requires.1)

pub judge_type_size-returns-clause-judged : goal.judge_type_size-returns-clause-judged
judge_type_size-returns-clause-judged t c = λ s fits.
    let old = c.args.types.now in
    let new = c.written.new.types in
    let d = c.args.declared.now in
    c.after_size.ensures.judged (written s c.args.at (ty_of c.args.t.now)) s.tags (c.in_ok-ty.ensures.judged s fits)
    (layouts_at new d s c.as_slice.result.now c.as_slice.ensures.value (fits_kept old new d s c.in_ok-ty.ensures.grows c.in_ok-ty.ensures.tags fits))

pub judge_two-after_two-requires-clause-left : goal.judge_two-after_two-requires-clause-left
judge_two-after_two-requires-clause-left t c =
    let s = c.requires.0 in
    let fits = c.requires.1 in
    let old = c.args.types.now in
    let mid = c.judge.new.types in
    let new = c.judge-2.new.types in
    let d = c.args.declared.now in
    let first = judged s (expr_of c.args.a.now) in
    let second = judged s (expr_of c.args.b.now) in
    let at_mid = fits_kept old mid d s c.in_ok-first.ensures.grows c.in_ok-first.ensures.tags fits in
    let at_new = fits_kept mid new d s c.in_ok-second.ensures.grows c.in_ok-second.ensures.tags at_mid in
    let left = judged_kept mid new c.in_ok-first.first first c.in_ok-second.ensures.grows (c.in_ok-first.ensures.judged s fits) in
    let right = c.in_ok-second.ensures.judged s at_mid in
    (first, left)

pub judge_two-after_two-requires-clause-right : goal.judge_two-after_two-requires-clause-right
judge_two-after_two-requires-clause-right t c =
    let s = c.requires.0 in
    let fits = c.requires.1 in
    let old = c.args.types.now in
    let mid = c.judge.new.types in
    let new = c.judge-2.new.types in
    let d = c.args.declared.now in
    let first = judged s (expr_of c.args.a.now) in
    let second = judged s (expr_of c.args.b.now) in
    let at_mid = fits_kept old mid d s c.in_ok-first.ensures.grows c.in_ok-first.ensures.tags fits in
    let at_new = fits_kept mid new d s c.in_ok-second.ensures.grows c.in_ok-second.ensures.tags at_mid in
    let left = judged_kept mid new c.in_ok-first.first first c.in_ok-second.ensures.grows (c.in_ok-first.ensures.judged s fits) in
    let right = c.in_ok-second.ensures.judged s at_mid in
    (second, right)

pub judge_two-after_two-requires-clause-layouts : goal.judge_two-after_two-requires-clause-layouts
judge_two-after_two-requires-clause-layouts t c =
    let s = c.requires.0 in
    let fits = c.requires.1 in
    let old = c.args.types.now in
    let mid = c.judge.new.types in
    let new = c.judge-2.new.types in
    let d = c.args.declared.now in
    let first = judged s (expr_of c.args.a.now) in
    let second = judged s (expr_of c.args.b.now) in
    let at_mid = fits_kept old mid d s c.in_ok-first.ensures.grows c.in_ok-first.ensures.tags fits in
    let at_new = fits_kept mid new d s c.in_ok-second.ensures.grows c.in_ok-second.ensures.tags at_mid in
    let left = judged_kept mid new c.in_ok-first.first first c.in_ok-second.ensures.grows (c.in_ok-first.ensures.judged s fits) in
    let right = c.in_ok-second.ensures.judged s at_mid in
    (s.tags, layouts_at new d s c.as_slice.result.now c.as_slice.ensures.value at_new)

pub judge_two-returns-clause-judged : goal.judge_two-returns-clause-judged
judge_two-returns-clause-judged t c = λ s fits.
    let old = c.args.types.now in
    let mid = c.judge.new.types in
    let new = c.judge-2.new.types in
    let d = c.args.declared.now in
    let first = judged s (expr_of c.args.a.now) in
    let second = judged s (expr_of c.args.b.now) in
    let at_mid = fits_kept old mid d s c.in_ok-first.ensures.grows c.in_ok-first.ensures.tags fits in
    let at_new = fits_kept mid new d s c.in_ok-second.ensures.grows c.in_ok-second.ensures.tags at_mid in
    let left = judged_kept mid new c.in_ok-first.first first c.in_ok-second.ensures.grows (c.in_ok-first.ensures.judged s fits) in
    let right = c.in_ok-second.ensures.judged s at_mid in
    c.after_two.ensures.judged first second s.tags left right (layouts_at new d s c.as_slice.result.now c.as_slice.ensures.value at_new)

pub judge_three-after_three-requires-clause-test : goal.judge_three-after_three-requires-clause-test
judge_three-after_three-requires-clause-test t c =
    let s = c.requires.0 in
    let fits = c.requires.1 in
    let t0 = c.args.types.now in
    let t1 = c.judge.new.types in
    let t2 = c.judge-2.new.types in
    let t3 = c.judge-3.new.types in
    let d = c.args.declared.now in
    let test = judged s (expr_of c.args.a.now) in
    let first = judged s (expr_of c.args.b.now) in
    let second = judged s (expr_of c.args.c.now) in
    let at_1 = fits_kept t0 t1 d s c.in_ok-test.ensures.grows c.in_ok-test.ensures.tags fits in
    let at_2 = fits_kept t1 t2 d s c.in_ok-first.ensures.grows c.in_ok-first.ensures.tags at_1 in
    let p = judged_kept t1 t3 c.in_ok-test.test test (grows_then (known t1) (known t2) (known t3) c.in_ok-first.ensures.grows c.in_ok-second.ensures.grows) (c.in_ok-test.ensures.judged s fits) in
    let q = judged_kept t2 t3 c.in_ok-first.first first c.in_ok-second.ensures.grows (c.in_ok-first.ensures.judged s at_1) in
    let r = c.in_ok-second.ensures.judged s at_2 in
    (test, p)

pub judge_three-after_three-requires-clause-first : goal.judge_three-after_three-requires-clause-first
judge_three-after_three-requires-clause-first t c =
    let s = c.requires.0 in
    let fits = c.requires.1 in
    let t0 = c.args.types.now in
    let t1 = c.judge.new.types in
    let t2 = c.judge-2.new.types in
    let t3 = c.judge-3.new.types in
    let d = c.args.declared.now in
    let test = judged s (expr_of c.args.a.now) in
    let first = judged s (expr_of c.args.b.now) in
    let second = judged s (expr_of c.args.c.now) in
    let at_1 = fits_kept t0 t1 d s c.in_ok-test.ensures.grows c.in_ok-test.ensures.tags fits in
    let at_2 = fits_kept t1 t2 d s c.in_ok-first.ensures.grows c.in_ok-first.ensures.tags at_1 in
    let p = judged_kept t1 t3 c.in_ok-test.test test (grows_then (known t1) (known t2) (known t3) c.in_ok-first.ensures.grows c.in_ok-second.ensures.grows) (c.in_ok-test.ensures.judged s fits) in
    let q = judged_kept t2 t3 c.in_ok-first.first first c.in_ok-second.ensures.grows (c.in_ok-first.ensures.judged s at_1) in
    let r = c.in_ok-second.ensures.judged s at_2 in
    (first, q)

pub judge_three-after_three-requires-clause-second : goal.judge_three-after_three-requires-clause-second
judge_three-after_three-requires-clause-second t c =
    let s = c.requires.0 in
    let fits = c.requires.1 in
    let t0 = c.args.types.now in
    let t1 = c.judge.new.types in
    let t2 = c.judge-2.new.types in
    let t3 = c.judge-3.new.types in
    let d = c.args.declared.now in
    let test = judged s (expr_of c.args.a.now) in
    let first = judged s (expr_of c.args.b.now) in
    let second = judged s (expr_of c.args.c.now) in
    let at_1 = fits_kept t0 t1 d s c.in_ok-test.ensures.grows c.in_ok-test.ensures.tags fits in
    let at_2 = fits_kept t1 t2 d s c.in_ok-first.ensures.grows c.in_ok-first.ensures.tags at_1 in
    let p = judged_kept t1 t3 c.in_ok-test.test test (grows_then (known t1) (known t2) (known t3) c.in_ok-first.ensures.grows c.in_ok-second.ensures.grows) (c.in_ok-test.ensures.judged s fits) in
    let q = judged_kept t2 t3 c.in_ok-first.first first c.in_ok-second.ensures.grows (c.in_ok-first.ensures.judged s at_1) in
    let r = c.in_ok-second.ensures.judged s at_2 in
    (second, r)

pub judge_three-returns-clause-judged : goal.judge_three-returns-clause-judged
judge_three-returns-clause-judged t c = λ s fits.
    let t0 = c.args.types.now in
    let t1 = c.judge.new.types in
    let t2 = c.judge-2.new.types in
    let t3 = c.judge-3.new.types in
    let d = c.args.declared.now in
    let test = judged s (expr_of c.args.a.now) in
    let first = judged s (expr_of c.args.b.now) in
    let second = judged s (expr_of c.args.c.now) in
    let at_1 = fits_kept t0 t1 d s c.in_ok-test.ensures.grows c.in_ok-test.ensures.tags fits in
    let at_2 = fits_kept t1 t2 d s c.in_ok-first.ensures.grows c.in_ok-first.ensures.tags at_1 in
    let p = judged_kept t1 t3 c.in_ok-test.test test (grows_then (known t1) (known t2) (known t3) c.in_ok-first.ensures.grows c.in_ok-second.ensures.grows) (c.in_ok-test.ensures.judged s fits) in
    let q = judged_kept t2 t3 c.in_ok-first.first first c.in_ok-second.ensures.grows (c.in_ok-first.ensures.judged s at_1) in
    let r = c.in_ok-second.ensures.judged s at_2 in
    c.after_three.ensures.judged test first second p q r

pub judge_cast-after_cast-requires-clause-ty : goal.judge_cast-after_cast-requires-clause-ty
judge_cast-after_cast-requires-clause-ty t c =
    let s = c.requires.0 in
    let fits = c.requires.1 in
    let old = c.args.types.now in
    let mid = c.written.new.types in
    let new = c.judge.new.types in
    let d = c.args.declared.now in
    let to = written s c.args.at (ty_of c.args.t.now) in
    let part = judged s (expr_of c.args.a.now) in
    let at_mid = fits_kept old mid d s c.in_ok-ty.ensures.grows c.in_ok-ty.ensures.tags fits in
    let left = type_kept mid new c.in_ok-ty.ty to c.in_ok-part.ensures.grows (c.in_ok-ty.ensures.judged s fits) in
    let right = c.in_ok-part.ensures.judged s at_mid in
    (to, left)

pub judge_cast-after_cast-requires-clause-operand : goal.judge_cast-after_cast-requires-clause-operand
judge_cast-after_cast-requires-clause-operand t c =
    let s = c.requires.0 in
    let fits = c.requires.1 in
    let old = c.args.types.now in
    let mid = c.written.new.types in
    let new = c.judge.new.types in
    let d = c.args.declared.now in
    let to = written s c.args.at (ty_of c.args.t.now) in
    let part = judged s (expr_of c.args.a.now) in
    let at_mid = fits_kept old mid d s c.in_ok-ty.ensures.grows c.in_ok-ty.ensures.tags fits in
    let left = type_kept mid new c.in_ok-ty.ty to c.in_ok-part.ensures.grows (c.in_ok-ty.ensures.judged s fits) in
    let right = c.in_ok-part.ensures.judged s at_mid in
    (part, right)

pub judge_cast-returns-clause-judged : goal.judge_cast-returns-clause-judged
judge_cast-returns-clause-judged t c = λ s fits.
    let old = c.args.types.now in
    let mid = c.written.new.types in
    let new = c.judge.new.types in
    let d = c.args.declared.now in
    let to = written s c.args.at (ty_of c.args.t.now) in
    let part = judged s (expr_of c.args.a.now) in
    let at_mid = fits_kept old mid d s c.in_ok-ty.ensures.grows c.in_ok-ty.ensures.tags fits in
    let left = type_kept mid new c.in_ok-ty.ty to c.in_ok-part.ensures.grows (c.in_ok-ty.ensures.judged s fits) in
    let right = c.in_ok-part.ensures.judged s at_mid in
    c.after_cast.ensures.judged to part left right

pub judge_size-returns-then-is_function_name-clause-judged : goal.judge_size-returns-then-is_function_name-clause-judged
judge_size-returns-then-is_function_name-clause-judged t c = λ s fits.
    let table = c.args.types.now in
    let e = expr_of c.args.a.now in
    subst (λ (p : Judged plain.Operand). IsJudged (IsOperand table) (Err (fault.Mismatch c.args.at)) p)
    (sym (size_of_name s c.args.at e (sym (c.is_function_name.ensures s fits) ∙ c.if-is_function_name.true))) refl

pub judge_size-returns-else-is_function_name-clause-judged : goal.judge_size-returns-else-is_function_name-clause-judged
judge_size-returns-else-is_function_name-clause-judged t c = λ s fits.
    let e = expr_of c.args.a.now in
    subst (λ (p : Judged plain.Operand). IfOk c.judge_one.result (λ j. IsJudged (IsOperand c.judge_one.new.types) j p))
    (sym (size_of_other s c.args.at e (sym (c.is_function_name.ensures s fits) ∙ c.if-is_function_name.false)))
    (c.judge_one.ensures.judged s fits)

pub judge_callee-returns-in-Some-clause-judged : goal.judge_callee-returns-in-Some-clause-judged
judge_callee-returns-in-Some-clause-judged t c = λ s fits.
    let e = expr_of c.args.f.now in
    subst (λ (p : Judged plain.Callee). IfOk c.called.result (λ j. IsJudged (IsCallee c.called.new.types) j p))
    (sym (callee_named s c.args.at e c.in-Some.name.now (judged s e) c.in-Some.ensures)) (c.called.ensures.judged s fits)

pub judge_callee-through-requires : goal.judge_callee-through-requires
judge_callee-through-requires t c =
    let s = c.requires.0 in
    (judged s (expr_of c.args.f.now), c.in_ok-value-in-None.ensures.judged s c.requires.1)

pub judge_callee-returns-in_ok-value-in-None-clause-judged : goal.judge_callee-returns-in_ok-value-in-None-clause-judged
judge_callee-returns-in_ok-value-in-None-clause-judged t c = λ s fits.
    let e = expr_of c.args.f.now in
    subst (λ (p : Judged plain.Callee). IfOk c.through.result (λ j. IsJudged (IsCallee c.through.new.types) j p))
    (sym (callee_through s c.args.at e (judged s e) c.in-None.ensures)) (c.through.ensures.judged (judged s e) (c.in_ok-value-in-None.ensures.judged s fits))

pub judge_call-after_call-requires : goal.judge_call-after_call-requires
judge_call-after_call-requires t c =
    let s = c.requires.0 in
    let fits = c.requires.1 in
    let old = c.args.types.now in
    let mid = c.judge_callee.new.types in
    let new = c.judge_all.new.types in
    let d = c.args.declared.now in
    let e = expr_of c.args.f.now in
    let es = exprs_of c.args.arguments.now in
    let what = callee_of s c.args.at e (judged s e) in
    let at_mid = fits_kept old mid d s c.in_ok-callee.ensures.grows c.in_ok-callee.ensures.tags fits in
    let left = callee_kept mid new c.in_ok-callee.callee what c.in_ok-given.ensures.grows (c.in_ok-callee.ensures.judged s fits) in
    let right = c.in_ok-given.ensures.judged s at_mid in
    (what, left)

pub judge_call-returns-clause-judged : goal.judge_call-returns-clause-judged
judge_call-returns-clause-judged t c = λ s fits.
    let old = c.args.types.now in
    let mid = c.judge_callee.new.types in
    let new = c.judge_all.new.types in
    let d = c.args.declared.now in
    let e = expr_of c.args.f.now in
    let es = exprs_of c.args.arguments.now in
    let what = callee_of s c.args.at e (judged s e) in
    let at_mid = fits_kept old mid d s c.in_ok-callee.ensures.grows c.in_ok-callee.ensures.tags fits in
    let left = callee_kept mid new c.in_ok-callee.callee what c.in_ok-given.ensures.grows (c.in_ok-callee.ensures.judged s fits) in
    let right = c.in_ok-given.ensures.judged s at_mid in
    subst (λ (o : Option (List ℕ)). IfOk c.after_call.result (λ j. IsJudged (IsOperand c.after_call.new.types) j (both what (all_judged s es) (λ k xs. call_operand c.args.at k o xs))))
    c.format_of.ensures (c.after_call.ensures.judged what (all_judged s es) left right)

pub written_array-sized_array-requires-clause-ty : goal.written_array-sized_array-requires-clause-ty
written_array-sized_array-requires-clause-ty t c =
    let s = c.requires.0 in
    let fits = c.requires.1 in
    let old = c.args.types.now in
    let mid = c.written.new.types in
    let new = c.judge.new.types in
    let d = c.args.declared.now in
    let of = written s c.args.at (ty_of c.args.of.now) in
    let part = judged s (expr_of c.args.length.now) in
    let at_mid = fits_kept old mid d s c.in_ok-ty.ensures.grows c.in_ok-ty.ensures.tags fits in
    let at_new = fits_kept mid new d s c.in_ok-count.ensures.grows c.in_ok-count.ensures.tags at_mid in
    let left = type_kept mid new c.in_ok-ty.ty of c.in_ok-count.ensures.grows (c.in_ok-ty.ensures.judged s fits) in
    let right = c.in_ok-count.ensures.judged s at_mid in
    (of, left)

pub written_array-sized_array-requires-clause-length : goal.written_array-sized_array-requires-clause-length
written_array-sized_array-requires-clause-length t c =
    let s = c.requires.0 in
    let fits = c.requires.1 in
    let old = c.args.types.now in
    let mid = c.written.new.types in
    let new = c.judge.new.types in
    let d = c.args.declared.now in
    let of = written s c.args.at (ty_of c.args.of.now) in
    let part = judged s (expr_of c.args.length.now) in
    let at_mid = fits_kept old mid d s c.in_ok-ty.ensures.grows c.in_ok-ty.ensures.tags fits in
    let at_new = fits_kept mid new d s c.in_ok-count.ensures.grows c.in_ok-count.ensures.tags at_mid in
    let left = type_kept mid new c.in_ok-ty.ty of c.in_ok-count.ensures.grows (c.in_ok-ty.ensures.judged s fits) in
    let right = c.in_ok-count.ensures.judged s at_mid in
    (part, right)

pub written_array-returns-clause-judged : goal.written_array-returns-clause-judged
written_array-returns-clause-judged t c = λ s fits.
    let old = c.args.types.now in
    let mid = c.written.new.types in
    let new = c.judge.new.types in
    let d = c.args.declared.now in
    let of = written s c.args.at (ty_of c.args.of.now) in
    let part = judged s (expr_of c.args.length.now) in
    let at_mid = fits_kept old mid d s c.in_ok-ty.ensures.grows c.in_ok-ty.ensures.tags fits in
    let at_new = fits_kept mid new d s c.in_ok-count.ensures.grows c.in_ok-count.ensures.tags at_mid in
    let left = type_kept mid new c.in_ok-ty.ty of c.in_ok-count.ensures.grows (c.in_ok-ty.ensures.judged s fits) in
    let right = c.in_ok-count.ensures.judged s at_mid in
    c.sized_array.ensures.judged of part s left right (layouts_at new d s c.as_slice.result.now c.as_slice.ensures.value at_new)

pub written_function-function_type-requires-clause-gives : goal.written_function-function_type-requires-clause-gives
written_function-function_type-requires-clause-gives t c =
    let s = c.requires.0 in
    let fits = c.requires.1 in
    let old = c.args.types.now in
    let mid = c.written.new.types in
    let new = c.written_all.new.types in
    let d = c.args.declared.now in
    let of = written s c.args.at (ty_of c.args.gives.now) in
    let list = parameters s c.args.at (tys_of c.args.parameters.now) in
    let at_mid = fits_kept old mid d s c.in_ok-ty.ensures.grows c.in_ok-ty.ensures.tags fits in
    let left = type_kept mid new c.in_ok-ty.ty of c.in_ok-list.ensures.grows (c.in_ok-ty.ensures.judged s fits) in
    let right = c.in_ok-list.ensures.judged s at_mid in
    (of, left)

pub written_function-function_type-requires-clause-parameters : goal.written_function-function_type-requires-clause-parameters
written_function-function_type-requires-clause-parameters t c =
    let s = c.requires.0 in
    let fits = c.requires.1 in
    let old = c.args.types.now in
    let mid = c.written.new.types in
    let new = c.written_all.new.types in
    let d = c.args.declared.now in
    let of = written s c.args.at (ty_of c.args.gives.now) in
    let list = parameters s c.args.at (tys_of c.args.parameters.now) in
    let at_mid = fits_kept old mid d s c.in_ok-ty.ensures.grows c.in_ok-ty.ensures.tags fits in
    let left = type_kept mid new c.in_ok-ty.ty of c.in_ok-list.ensures.grows (c.in_ok-ty.ensures.judged s fits) in
    let right = c.in_ok-list.ensures.judged s at_mid in
    (list, right)

pub written_function-returns-clause-judged : goal.written_function-returns-clause-judged
written_function-returns-clause-judged t c = λ s fits.
    let old = c.args.types.now in
    let mid = c.written.new.types in
    let new = c.written_all.new.types in
    let d = c.args.declared.now in
    let of = written s c.args.at (ty_of c.args.gives.now) in
    let list = parameters s c.args.at (tys_of c.args.parameters.now) in
    let at_mid = fits_kept old mid d s c.in_ok-ty.ensures.grows c.in_ok-ty.ensures.tags fits in
    let left = type_kept mid new c.in_ok-ty.ty of c.in_ok-list.ensures.grows (c.in_ok-ty.ensures.judged s fits) in
    let right = c.in_ok-list.ensures.judged s at_mid in
    c.function_type.ensures.judged of list left right

pub judge-returns-in-Null-clause-judged : goal.judge-returns-in-Null-clause-judged
judge-returns-in-Null-clause-judged t c = λ s fits.
    subst (λ (f : Form). IfOk c.null.result (λ j. IsJudged (IsOperand c.null.new.types) j (judged s (form_of f c.args.e.now.pos)))) (sym c.in-Null.is)
    (c.null.ensures.judged)

pub judge-returns-in-Number-clause-judged : goal.judge-returns-in-Number-clause-judged
judge-returns-in-Number-clause-judged t c = λ s fits.
    subst (λ (f : Form). IfOk c.literal.result (λ j. IsJudged (IsOperand c.literal.new.types) j (judged s (form_of f c.args.e.now.pos)))) (sym c.in-Number.is)
    (c.literal.ensures.judged)

pub judge-returns-in-Str-clause-judged : goal.judge-returns-in-Str-clause-judged
judge-returns-in-Str-clause-judged t c = λ s fits.
    let e = c.args.e.now in
    subst (λ (f : Form). IfOk c.string.result (λ j. IsJudged (IsOperand c.string.new.types) j (judged s (form_of f e.pos)))) (sym c.in-Str.is)
    (subst (λ (text : List ℕ). IfOk c.string.result (λ j. IsJudged (IsOperand c.string.new.types) j (Ok (plain.value_at e.pos (types.Array types.Char (length text + 1)))))) c.as_bytes.ensures c.string.ensures.judged)

pub judge-returns-in-Name-clause-judged : goal.judge-returns-in-Name-clause-judged
judge-returns-in-Name-clause-judged t c = λ s fits.
    let e = c.args.e.now in
    subst (λ (f : Form). IfOk c.named.result (λ j. IsJudged (IsOperand c.named.new.types) j (judged s (form_of f e.pos)))) (sym c.in-Name.is)
    (subst (λ (name : List ℕ). IfOk c.named.result (λ j. IsJudged (IsOperand c.named.new.types) j (expressions.named s e.pos name (entity_of s name)))) c.as_bytes-in-Name.ensures (c.named.ensures.judged s fits))

pub judge-returns-in-Member-clause-judged : goal.judge-returns-in-Member-clause-judged
judge-returns-in-Member-clause-judged t c = λ s fits.
    let e = c.args.e.now in
    subst (λ (f : Form). IfOk c.judge_one-in-Member.result (λ j. IsJudged (IsOperand c.judge_one-in-Member.new.types) j (judged s (form_of f e.pos)))) (sym c.in-Member.is)
    (subst (λ (m : List ℕ). IfOk c.judge_one-in-Member.result (λ j. IsJudged (IsOperand c.judge_one-in-Member.new.types) j (after (judged s (expr_of c.in-Member.a.value)) (λ y. plain.member_operand s.tags e.pos m y.ty)))) c.as_bytes-in-Member.ensures
    (subst (λ (x : Expr). IfOk c.judge_one-in-Member.result (λ j. IsJudged (IsOperand c.judge_one-in-Member.new.types) j (after (judged s (expr_of x)) (λ y. plain.member_operand s.tags e.pos c.as_bytes-in-Member.result.now y.ty)))) c.deref-in-Member.ensures (c.judge_one-in-Member.ensures.judged s fits)))

pub judge-returns-in-Arrow-clause-judged : goal.judge-returns-in-Arrow-clause-judged
judge-returns-in-Arrow-clause-judged t c = λ s fits.
    let e = c.args.e.now in
    subst (λ (f : Form). IfOk c.judge_one-in-Arrow.result (λ j. IsJudged (IsOperand c.judge_one-in-Arrow.new.types) j (judged s (form_of f e.pos)))) (sym c.in-Arrow.is)
    (subst (λ (m : List ℕ). IfOk c.judge_one-in-Arrow.result (λ j. IsJudged (IsOperand c.judge_one-in-Arrow.new.types) j (after (judged s (expr_of c.in-Arrow.a.value)) (λ y. plain.arrow_operand s.tags e.pos m (plain.value_type y))))) c.as_bytes-in-Arrow.ensures
    (subst (λ (x : Expr). IfOk c.judge_one-in-Arrow.result (λ j. IsJudged (IsOperand c.judge_one-in-Arrow.new.types) j (after (judged s (expr_of x)) (λ y. plain.arrow_operand s.tags e.pos c.as_bytes-in-Arrow.result.now (plain.value_type y))))) c.deref-in-Arrow.ensures (c.judge_one-in-Arrow.ensures.judged s fits)))

pub written-plain_type-requires : goal.written-plain_type-requires
written-plain_type-requires t c = (types.Void, λ table. refl)

pub written-returns-in-Void-clause-judged : goal.written-returns-in-Void-clause-judged
written-returns-in-Void-clause-judged t c = λ s fits.
    subst (λ (t : Ty). IfOk c.plain_type.result (λ j. IsJudged (HasType c.plain_type.new.types) j (written s c.args.at (ty_of t)))) (sym c.in-Void.is)
    (c.plain_type.ensures.judged types.Void (λ table. refl))

pub written-plain_type-requires-in-Int : goal.written-plain_type-requires-in-Int
written-plain_type-requires-in-Int t c = (types.Int, λ table. refl)

pub written-returns-in-Int-clause-judged : goal.written-returns-in-Int-clause-judged
written-returns-in-Int-clause-judged t c = λ s fits.
    subst (λ (t : Ty). IfOk c.plain_type-in-Int.result (λ j. IsJudged (HasType c.plain_type-in-Int.new.types) j (written s c.args.at (ty_of t)))) (sym c.in-Int.is)
    (c.plain_type-in-Int.ensures.judged types.Int (λ table. refl))

pub written-plain_type-requires-in-Unsigned : goal.written-plain_type-requires-in-Unsigned
written-plain_type-requires-in-Unsigned t c = (types.Unsigned, λ table. refl)

pub written-returns-in-Unsigned-clause-judged : goal.written-returns-in-Unsigned-clause-judged
written-returns-in-Unsigned-clause-judged t c = λ s fits.
    subst (λ (t : Ty). IfOk c.plain_type-in-Unsigned.result (λ j. IsJudged (HasType c.plain_type-in-Unsigned.new.types) j (written s c.args.at (ty_of t)))) (sym c.in-Unsigned.is)
    (c.plain_type-in-Unsigned.ensures.judged types.Unsigned (λ table. refl))

pub written-plain_type-requires-in-Char : goal.written-plain_type-requires-in-Char
written-plain_type-requires-in-Char t c = (types.Char, λ table. refl)

pub written-returns-in-Char-clause-judged : goal.written-returns-in-Char-clause-judged
written-returns-in-Char-clause-judged t c = λ s fits.
    subst (λ (t : Ty). IfOk c.plain_type-in-Char.result (λ j. IsJudged (HasType c.plain_type-in-Char.new.types) j (written s c.args.at (ty_of t)))) (sym c.in-Char.is)
    (c.plain_type-in-Char.ensures.judged types.Char (λ table. refl))

pub written-plain_type-requires-in-UChar : goal.written-plain_type-requires-in-UChar
written-plain_type-requires-in-UChar t c = (types.UChar, λ table. refl)

pub written-returns-in-UChar-clause-judged : goal.written-returns-in-UChar-clause-judged
written-returns-in-UChar-clause-judged t c = λ s fits.
    subst (λ (t : Ty). IfOk c.plain_type-in-UChar.result (λ j. IsJudged (HasType c.plain_type-in-UChar.new.types) j (written s c.args.at (ty_of t)))) (sym c.in-UChar.is)
    (c.plain_type-in-UChar.ensures.judged types.UChar (λ table. refl))

pub judge_all-loop-e-init : goal.judge_all-loop-e-init
judge_all-loop-e-init t c =
    begun c.args.types.now c.args.declared.now c.new-collected.result (out-Exprs c.args.all.now).items.items (exprs_of c.args.all.now) c.new-collected.ensures.refusal c.new-collected.ensures.arguments (exprs_view c.args.all.now)

pub judge_all-add-requires : goal.judge_all-add-requires
judge_all-add-requires t c =
    let s = c.requires.0 in
    let g = c.loop-e.invariant in
    (judged s (expr_of c.e-item.result), c.in_ok-argument.ensures.judged s (fits_kept c.args.types.now c.loop-e.types c.args.declared.now s g.grows g.tags c.requires.1))

pub judge_all-loop-e-preserved : goal.judge_all-loop-e-preserved
judge_all-loop-e-preserved t c =
    let items = (out-Exprs c.args.all.now).items.items in
    let i = c.loop-e.e-index in
    let within : i < length items = subst (λ (l : List Expr). i < length l) c.deref-e-items.ensures.value c.loop-e-test.true in
    let next : c.e-item.result ≡ get_or items i c.e-item.result = subst (λ (l : List Expr). c.e-item.result ≡ get_or l i c.e-item.result) c.deref-e-items.ensures.value c.e-item.is in
    goes_on c.args.types.now c.loop-e.types c.judge.new.types c.add.new.types c.args.declared.now c.loop-e.collected c.add.new.self items i c.e-item.result c.in_ok-argument.argument (exprs_of c.args.all.now)
    c.loop-e.invariant (drop_at items i c.e-item.result within next) c.in_ok-argument.ensures.judged c.in_ok-argument.ensures.grows c.in_ok-argument.ensures.tags
    c.in_ok-add.ensures.added c.in_ok-add.ensures.grows c.in_ok-add.ensures.tags

pub judge_all-returns-clause-judged : goal.judge_all-returns-clause-judged
judge_all-returns-clause-judged t c = λ s fits.
    let items = (out-Exprs c.args.all.now).items.items in
    let past : length items ≤ c.loop-e.e-index = subst (λ (l : List Expr). length l ≤ c.loop-e.e-index) c.deref-e-items.ensures.value c.loop-e-test.false in
    done c.args.types.now c.loop-e.types c.args.declared.now c.loop-e.collected items c.loop-e.e-index (exprs_of c.args.all.now) c.judged.result s c.loop-e.invariant past fits c.judged.ensures

pub written-returns-in-Struct-clause-judged : goal.written-returns-in-Struct-clause-judged
written-returns-in-Struct-clause-judged t c = λ s fits.
    subst (λ (k : Ty). IfOk c.struct_type.result (λ j. IsJudged (HasType c.struct_type.new.types) j (written s c.args.at (ty_of k)))) (sym c.in-Struct.is)
    (subst (λ (name : List ℕ). IfOk c.struct_type.result (λ j. IsJudged (HasType c.struct_type.new.types) j (expressions.struct_in s c.args.at name))) c.as_bytes.ensures (c.struct_type.ensures.judged s fits))

pub judge_two-judge-requires-2 : goal.judge_two-judge-requires-2
judge_two-judge-requires-2 t c =
    (first_of (search (rules, the_lemmas), grind (the_lemmas, arith, common_steps), grind (the_lemmas, arith, elements)), some_kept c.args.types.now c.judge.new.types c.args.declared.now c.in_ok-first.ensures.grows c.in_ok-first.ensures.tags c.requires)

pub judge_three-judge-requires-2 : goal.judge_three-judge-requires-2
judge_three-judge-requires-2 t c =
    (first_of (search (rules, the_lemmas), grind (the_lemmas, arith, common_steps), grind (the_lemmas, arith, elements)), some_kept c.args.types.now c.judge.new.types c.args.declared.now c.in_ok-test.ensures.grows c.in_ok-test.ensures.tags c.requires)

pub judge_three-judge-requires-3 : goal.judge_three-judge-requires-3
judge_three-judge-requires-3 t c =
    (first_of (search (rules, the_lemmas), grind (the_lemmas, arith, common_steps), grind (the_lemmas, arith, elements)), some_kept c.judge.new.types c.judge-2.new.types c.args.declared.now c.in_ok-first.ensures.grows c.in_ok-first.ensures.tags (some_kept c.args.types.now c.judge.new.types c.args.declared.now c.in_ok-test.ensures.grows c.in_ok-test.ensures.tags c.requires))

pub judge_cast-judge-requires : goal.judge_cast-judge-requires
judge_cast-judge-requires t c =
    (first_of (search (rules, the_lemmas), grind (the_lemmas, arith, common_steps), grind (the_lemmas, arith, elements)), some_kept c.args.types.now c.written.new.types c.args.declared.now c.in_ok-ty.ensures.grows c.in_ok-ty.ensures.tags c.requires)

pub judge_call-judge_all-requires : goal.judge_call-judge_all-requires
judge_call-judge_all-requires t c =
    (first_of (search (rules, the_lemmas), grind (the_lemmas, arith, common_steps), grind (the_lemmas, arith, elements)), some_kept c.args.types.now c.judge_callee.new.types c.args.declared.now c.in_ok-callee.ensures.grows c.in_ok-callee.ensures.tags c.requires)

pub written_array-judge-requires : goal.written_array-judge-requires
written_array-judge-requires t c =
    (first_of (search (rules, the_lemmas), grind (the_lemmas, arith, common_steps), grind (the_lemmas, arith, elements)), some_kept c.args.types.now c.written.new.types c.args.declared.now c.in_ok-ty.ensures.grows c.in_ok-ty.ensures.tags c.requires)

pub written_function-written_all-requires : goal.written_function-written_all-requires
written_function-written_all-requires t c =
    (first_of (search (rules, the_lemmas), grind (the_lemmas, arith, common_steps), grind (the_lemmas, arith, elements)), some_kept c.args.types.now c.written.new.types c.args.declared.now c.in_ok-ty.ensures.grows c.in_ok-ty.ensures.tags c.requires)

pub judge_all-judge-requires : goal.judge_all-judge-requires
judge_all-judge-requires t c =
    (first_of (search (rules, the_lemmas), grind (the_lemmas, arith, common_steps), grind (the_lemmas, arith, elements)), some_kept c.args.types.now c.loop-e.types c.args.declared.now c.loop-e.invariant.grows c.loop-e.invariant.tags c.requires)

pub written_all-written-requires : goal.written_all-written-requires
written_all-written-requires t c =
    (first_of (search (rules, the_lemmas), grind (the_lemmas, arith, common_steps), grind (the_lemmas, arith, elements)), some_kept c.args.types.now c.loop-k.types c.args.declared.now c.loop-k.invariant.grows c.loop-k.invariant.tags c.requires)

pub judge_callee-returns-in_ok-value-in-None-clause-grows : goal.judge_callee-returns-in_ok-value-in-None-clause-grows
judge_callee-returns-in_ok-value-in-None-clause-grows t c =
    on_ok c.through.result (λ h. grows_then (known c.args.types.now) (known c.judge.new.types) (known c.through.new.types) c.in_ok-value-in-None.ensures.grows h) c.through.ensures.grows

pub written-returns-in_ok-ty-in-Pointer-clause-judged : goal.written-returns-in_ok-ty-in-Pointer-clause-judged
written-returns-in_ok-ty-in-Pointer-clause-judged t c = λ s fits.
    subst (λ (k : Ty). IfOk c.pointer_type.result (λ j. IsJudged (HasType c.pointer_type.new.types) j (written s c.args.at (ty_of k)))) (sym c.in-Pointer.is)
    (subst (λ (u : Ty). IfOk c.pointer_type.result (λ j. IsJudged (HasType c.pointer_type.new.types) j (after (written s c.args.at (ty_of u)) (λ k. Ok (types.Pointer k))))) c.deref.ensures
    (c.pointer_type.ensures.judged (written s c.args.at (ty_of c.deref.result.now)) (c.in_ok-ty-in-Pointer.ensures.judged s fits)))

pub written-returns-in-Func-clause-judged : goal.written-returns-in-Func-clause-judged
written-returns-in-Func-clause-judged t c = λ s fits.
    subst (λ (k : Ty). IfOk c.written_function.result (λ j. IsJudged (HasType c.written_function.new.types) j (written s c.args.at (ty_of k)))) (sym c.in-Func.is)
    (subst (λ (k : CTy). IfOk c.written_function.result (λ j. IsJudged (HasType c.written_function.new.types) j (written s c.args.at k))) (sym (function_made c.in-Func.gives c.in-Func.parameters))
    (subst (λ (u : Ty). IfOk c.written_function.result (λ j. IsJudged (HasType c.written_function.new.types) j (written s c.args.at (tree.Func (ty_of u) (tys_of c.in-Func.parameters))))) c.deref-in-Func.ensures (c.written_function.ensures.judged s fits)))

pub written_all-more_types-requires-clause-first : goal.written_all-more_types-requires-clause-first
written_all-more_types-requires-clause-first t c =
    let s = c.requires.0 in
    let g = c.loop-k.invariant in
    (written s c.args.at (ty_of c.index-next.result.now), c.in_ok-ty.ensures.judged s (fits_kept c.args.types.now c.loop-k.types c.args.declared.now s g.grows g.tags c.requires.1))

pub written_all-more_types-requires-clause-others : goal.written_all-more_types-requires-clause-others
written_all-more_types-requires-clause-others t c =
    let s = c.requires.0 in
    let g = c.loop-k.invariant in
    let left = parameters s c.args.at (tys (map ty_of (drop (c.len-count.result - c.loop-k.k) c.args.all.now.items.items))) in
    (left, list_kept c.loop-k.types c.written.new.types c.loop-k.list left c.in_ok-ty.ensures.grows (g.are s c.requires.1))

pub written_all-loop-k-preserved : goal.written_all-loop-k-preserved
written_all-loop-k-preserved t c =
    let items = c.args.all.now.items.items in
    let next = c.index-next.result.now in
    let count : c.len-count.result ≡ length items = omega arith in
    let before = drop_before items c.len-count.result c.loop-k.k next c.loop-k-test.true (omega arith) c.index-next.ensures in
    subst (λ (l : List Ty). GoingTypes c.args.types.now c.more_types.new.types c.args.declared.now c.args.at c.in_ok-list-2.list l) (sym before)
    (one_type_more c.args.types.now c.loop-k.types c.written.new.types c.more_types.new.types c.args.declared.now c.args.at c.loop-k.list c.in_ok-list-2.list c.in_ok-ty.ty next (drop (c.len-count.result - c.loop-k.k) items)
    c.loop-k.invariant c.in_ok-ty.ensures.judged c.in_ok-ty.ensures.grows c.in_ok-ty.ensures.tags c.in_ok-list-2.ensures.judged c.in_ok-list-2.ensures.grows c.in_ok-list-2.ensures.tags)

pub judge-returns-in-Binary-clause-judged : goal.judge-returns-in-Binary-clause-judged
judge-returns-in-Binary-clause-judged t c = λ s fits.
    let e = c.args.e.now in
    subst (λ (f : Form). IfOk c.judge_two.result (λ j. IsJudged (IsOperand c.judge_two.new.types) j (judged s (form_of f e.pos)))) (sym c.in-Binary.is)
    (subst (λ (x : Expr). IfOk c.judge_two.result (λ j. IsJudged (IsOperand c.judge_two.new.types) j (both (judged s (expr_of x)) (judged s (expr_of c.in-Binary.b.value)) (λ y z. plain.binary_operand s.tags e.pos c.in-Binary.op y z)))) c.deref-in-Binary.ensures
    (subst (λ (x : Expr). IfOk c.judge_two.result (λ j. IsJudged (IsOperand c.judge_two.new.types) j (both (judged s (expr_of c.deref-in-Binary.result.now)) (judged s (expr_of x)) (λ y z. plain.binary_operand s.tags e.pos c.in-Binary.op y z)))) c.deref-in-Binary-2.ensures (c.judge_two.ensures.judged s fits)))

pub judge-returns-in-Cond-clause-judged : goal.judge-returns-in-Cond-clause-judged
judge-returns-in-Cond-clause-judged t c = λ s fits.
    let e = c.args.e.now in
    let all = λ (x y z : Expr). IfOk c.judge_three.result (λ j. IsJudged (IsOperand c.judge_three.new.types) j (all_three (judged s (expr_of x)) (judged s (expr_of y)) (judged s (expr_of z)) (λ p q r. plain.choice_operand e.pos p q r))) in
    subst (λ (f : Form). IfOk c.judge_three.result (λ j. IsJudged (IsOperand c.judge_three.new.types) j (judged s (form_of f e.pos)))) (sym c.in-Cond.is)
    (subst (λ (x : Expr). all x c.in-Cond.b.value c.in-Cond.c.value) c.deref-in-Cond.ensures
    (subst (λ (x : Expr). all c.deref-in-Cond.result.now x c.in-Cond.c.value) c.deref-in-Cond-2.ensures
    (subst (λ (x : Expr). all c.deref-in-Cond.result.now c.deref-in-Cond-2.result.now x) c.deref-in-Cond-3.ensures (c.judge_three.ensures.judged s fits))))

pub judge-returns-in-Assign-clause-judged : goal.judge-returns-in-Assign-clause-judged
judge-returns-in-Assign-clause-judged t c = λ s fits.
    let e = c.args.e.now in
    subst (λ (f : Form). IfOk c.judge_two-in-Assign.result (λ j. IsJudged (IsOperand c.judge_two-in-Assign.new.types) j (judged s (form_of f e.pos)))) (sym c.in-Assign.is)
    (subst (λ (x : Expr). IfOk c.judge_two-in-Assign.result (λ j. IsJudged (IsOperand c.judge_two-in-Assign.new.types) j (both (judged s (expr_of x)) (judged s (expr_of c.in-Assign.b.value)) (λ y z. plain.assign_operand s.tags e.pos c.in-Assign.op y z)))) c.deref-in-Assign.ensures
    (subst (λ (x : Expr). IfOk c.judge_two-in-Assign.result (λ j. IsJudged (IsOperand c.judge_two-in-Assign.new.types) j (both (judged s (expr_of c.deref-in-Assign.result.now)) (judged s (expr_of x)) (λ y z. plain.assign_operand s.tags e.pos c.in-Assign.op y z)))) c.deref-in-Assign-2.ensures (c.judge_two-in-Assign.ensures.judged s fits)))

pub written-returns-in-Some-clause-judged : goal.written-returns-in-Some-clause-judged
written-returns-in-Some-clause-judged t c = λ s fits.
    let all = λ (k : CTy). IfOk c.written_array.result (λ j. IsJudged (HasType c.written_array.new.types) j (written s c.args.at k)) in
    subst (λ (k : Ty). all (ty_of k)) (sym (c.in-Array.is ∙ ap (λ (o : Option _). type.Array c.in-Array.of o) c.in-Some.is))
    (subst (λ (u : Ty). all (tree.ArrayOf (ty_of u) (expr_of c.in-Some.count.value))) c.deref-in-Some.ensures
    (subst (λ (x : Expr). all (tree.ArrayOf (ty_of c.deref-in-Some.result.now) (expr_of x))) c.deref-in-Some-2.ensures (c.written_array.ensures.judged s fits)))

pub written-returns-in_ok-ty-in-None-clause-judged : goal.written-returns-in_ok-ty-in-None-clause-judged
written-returns-in_ok-ty-in-None-clause-judged t c = λ s fits.
    let h = c.in_ok-ty-in-None in
    let old = c.args.types.now in
    let mid = c.written-in-None.new.types in
    let d = c.args.declared.now in
    let of = written s c.args.at (ty_of c.deref-in-None.result.now) in
    let layouts = layouts_at mid d s c.as_slice.result.now c.as_slice.ensures.value (fits_kept old mid d s h.ensures.grows h.ensures.tags fits) in
    subst (λ (k : Ty). IfOk c.open_array.result (λ j. IsJudged (HasType c.open_array.new.types) j (written s c.args.at (ty_of k)))) (sym (c.in-Array.is ∙ ap (λ (o : Option _). type.Array c.in-Array.of o) c.in-None.is))
    (subst (λ (u : Ty). IfOk c.open_array.result (λ j. IsJudged (HasType c.open_array.new.types) j (after (written s c.args.at (ty_of u)) (λ k. expressions.array_of s c.args.at k 0)))) c.deref-in-None.ensures
    (c.open_array.ensures.judged of s (h.ensures.judged s fits) layouts))
