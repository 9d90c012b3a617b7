use Rattle.std.proofs.Common.{◌≡◌, ◌<◌, ◌≤◌, ◌+◌, ◌%◌, ◌^◌, ℕ, Bool, true, false, List, [], ◌∷◌, ◌++◌, length, map, drop, get_or, Option, refl, sym, ap, subst, ◌∙◌, arith, rules, append-nil, if◌then◌else◌}
use Rattle.std.specs.Prelude.{OnOk, IfOk}
use Rattle.std.proofs.lemmas.Grind.{common_steps, elements}
use Rattle.c_syntax.specs.Plain as tree
use Rattle.c_syntax.specs.Plain.{CExpr, exprs}
use Rattle.c_syntax.specs.View.{form_of, expr_of, exprs_of, ty_of}
use Rattle.c_syntax.specs.declared.tree.Expr.{Expr}
use Rattle.c_syntax.specs.declared.tree.Exprs.{out-Exprs}
use Rattle.c_syntax.specs.declared.tree.Ty.{Ty}
use Rattle.c_syntax.specs.declared.tree.Form.{Form}
use Rattle.c_syntax.specs.declared.tree.Form.TheFolds.{the_lemmas}
use Rattle.c_syntax.specs.declared.tree.UnOp.{UnOp}
use Rattle.c_syntax.specs.declared.tree.BinOp.{BinOp}
use Rattle.c_syntax.specs.declared.tree.BinOp.TheVariants as binary
use Rattle.c_types.specs.Types.{decayed}
use Rattle.c_types.specs.Refusals.{Judged, both as joined}
use Rattle.c_types.specs.Scope.{Scope}
use Rattle.c_types.specs.Operands as operands
use Rattle.c_types.specs.Expressions.{judged, all_judged, written, callee_of, names_function}
use Rattle.c_eval.specs.State as run
use Rattle.c_eval.specs.Environment.{Environment, past, type_in, value_type_in, operand_type, constant_in, pointee, member_offset, callee_in}
use Rattle.c_eval.specs.LiteralsIn.{literals_in, names_printf}
use Rattle.c_code.specs.Code as code
use Rattle.c_code.specs.Code.{Site, value_code, place_code, name_code}
use Rattle.c_plain.specs.declared.instruction.Instruction.TheVariants as plain
use Rattle.c_plain.specs.declared.instruction.Unary.TheVariants as instruction
use Rattle.c_types.specs.Table.{known}
use Rattle.c_operands.specs.Seen.{IsOperand, IsJudged}
use Rattle.c_operands.proofs.OperandLemmas.{grows_then}
use Rattle.c_operands.specs.Arguments.{IsCallee}
use Rattle.c_operands.specs.Scoped.{Fits}
use Rattle.c_operands.proofs.NameLemmas.{fits_kept}
use Rattle.c_expressions.proofs.KeptLemmas.{callee_kept, on_ok}
use Rattle.c_expressions.proofs.FormLemmas.{callee_named, callee_through}
use Rattle.c_expressions.proofs.RowLemmas.{exprs_view}
use Rattle.c_expressions.proofs.GoingLemmas.{begun, goes_on, done, drop_at}
use Rattle.c_emitted.specs.Emits.{Emits}
use Rattle.c_emitted.proofs.EmitLemmas.{always, both, later, nothing}
use Rattle.c_here.specs.Here.{IsHere}
use Rattle.c_here.proofs.HereLemmas.{some_fits}
use Rattle.c_fitting.specs.Fit.{IsFit, IsPlace, IsPlaceUnless, IsAddressed}
use Rattle.c_flat_expressions.specs.Parts.{operand_code, pointer_code, given_code, given_literals, argument_code, argument_literals}
use Rattle.c_flat_expressions.proofs.OnwardLemmas.{Onward, then_on, fits_on, some_on, judged_on, type_on, layouts_on, type_among, here_on, here_grown, here_behind_code, here_kept, here_turned, sides}
use Rattle.c_flat_expressions.proofs.PartLemmas.{unary_is, operand_used, pointed_is, binary_is, assign_is, name_is, parameters_are, pointer_unnamed, call_is, no_place}
use Rattle.c_flat_expressions.proofs.GivenLemmas.{none_given, one_given, all_given, none_left}
use Rattle.c_flat_expressions.proofs.ArmLemmas.{EmitsValue, ValueEmitted, EmitsPlace, JudgesAs, JudgedAs}
use Rattle.c_flat_expressions.proofs.expressions.+code.Goals as goal

pub used-returns-clause-emits : goal.used-returns-clause-emits
used-returns-clause-emits t c = λ site env is fit. later (c.in_ok-j.ensures.emits site env is fit) (c.in_ok-add.ensures code.Use (record { means = λ names r e. refl }))

pub pointed-after_one-requires : goal.pointed-after_one-requires
pointed-after_one-requires t c = let s = c.requires.0 in (judged s (expr_of c.args.a.now), c.in_ok-part.ensures.judged s c.requires.1.fits)

pub pointed-returns-clause-judged : goal.pointed-returns-clause-judged
pointed-returns-clause-judged t c = λ s fits.
    let f : Onward c.args.types.now c.used.new.types = record { grows = c.in_ok-part.ensures.grows; tags = c.in_ok-part.ensures.tags } in
    c.after_one.ensures.judged (judged s (expr_of c.args.a.now)) s.tags (c.in_ok-part.ensures.judged s fits) (layouts_on c.as_slice.result.now f c.as_slice.ensures.value fits)

pub pointed-returns-clause-emits : goal.pointed-returns-clause-emits
pointed-returns-clause-emits t c = λ site env is fit place.
    let a = expr_of c.args.a.now in
    always c.after_one.result (subst (λ l. Emits c.args.out.now c.used.new.out l (literals_in env.scope a)) (pointed_is c.args.op c.args.at a (value_code a site env ++ code.Use ∷ []) place) (c.in_ok-part.ensures.emits site env is fit.0))

pub unary-one_behind-requires : goal.unary-one_behind-requires
unary-one_behind-requires t c = let s = c.requires.0 in (judged s (expr_of c.args.a.now), c.in_ok-part.ensures.judged s c.requires.1.fits)

pub unary-after_one-requires : goal.unary-after_one-requires
unary-after_one-requires t c =
    let s = c.requires.0 in
    let p = judged s (expr_of c.args.a.now) in
    let g : Onward c.operand.new.types c.one_behind.new.types = record { grows = c.in_ok-one_behind.ensures.grows; tags = c.in_ok-one_behind.ensures.tags } in
    (p, judged_on c.in_ok-part.part p g (c.in_ok-part.ensures.judged s c.requires.1.fits))

pub unary-returns-clause-judged : goal.unary-returns-clause-judged
unary-returns-clause-judged t c = λ s fits.
    let p = judged s (expr_of c.args.a.now) in
    let f : Onward c.args.types.now c.operand.new.types = record { grows = c.in_ok-part.ensures.grows; tags = c.in_ok-part.ensures.tags } in
    let g : Onward c.operand.new.types c.one_behind.new.types = record { grows = c.in_ok-one_behind.ensures.grows; tags = c.in_ok-one_behind.ensures.tags } in
    c.after_one.ensures.judged p s.tags (judged_on c.in_ok-part.part p g (c.in_ok-part.ensures.judged s fits)) (layouts_on c.as_slice.result.now (then_on f g) c.as_slice.ensures.value fits)

pub unary-returns-clause-emits : goal.unary-returns-clause-emits
unary-returns-clause-emits t c = λ site env is fit.
    let s = env.scope in
    let a = expr_of c.args.a.now in
    let p = judged s a in
    let emitted = later (c.in_ok-part.ensures.emits site env is fit.0 fit.1) (c.in_ok-one_behind.ensures.emits p (c.in_ok-part.ensures.judged s is.holds.fits)) in
    always c.after_one.result (subst (λ l. Emits c.args.out.now c.one_behind.new.out l (literals_in s a)) (unary_is c.args.op c.args.at a site env) emitted)

pub step-stepped-requires : goal.step-stepped-requires
step-stepped-requires t c = let s = c.requires.0 in (judged s (expr_of c.args.a.now), c.in_ok-part.ensures.judged s c.requires.1.fits)

pub step-after_one-requires : goal.step-after_one-requires
step-after_one-requires t c =
    let s = c.requires.0 in
    let p = judged s (expr_of c.args.a.now) in
    let g : Onward c.place.new.types c.stepped.new.types = record { grows = c.in_ok-stepped.ensures.grows; tags = c.in_ok-stepped.ensures.tags } in
    (p, judged_on c.in_ok-part.part p g (c.in_ok-part.ensures.judged s c.requires.1.fits))

pub step-returns-clause-judged : goal.step-returns-clause-judged
step-returns-clause-judged t c = λ s fits.
    let p = judged s (expr_of c.args.a.now) in
    let f : Onward c.args.types.now c.place.new.types = record { grows = c.in_ok-part.ensures.grows; tags = c.in_ok-part.ensures.tags } in
    let g : Onward c.place.new.types c.stepped.new.types = record { grows = c.in_ok-stepped.ensures.grows; tags = c.in_ok-stepped.ensures.tags } in
    c.after_one.ensures.judged p s.tags (judged_on c.in_ok-part.part p g (c.in_ok-part.ensures.judged s fits)) (layouts_on c.as_slice-2.result.now (then_on f g) c.as_slice-2.ensures.value fits)

pub step-returns-clause-emits : goal.step-returns-clause-emits
step-returns-clause-emits t c = λ site env is fit.
    let s = env.scope in
    let a = expr_of c.args.a.now in
    let p = judged s a in
    let f : Onward c.args.types.now c.place.new.types = record { grows = c.in_ok-part.ensures.grows; tags = c.in_ok-part.ensures.tags } in
    always c.after_one.result (later (c.in_ok-part.ensures.emits site env is fit.0 fit.1)
    (c.in_ok-stepped.ensures.emits p s.tags (c.in_ok-part.ensures.judged s is.holds.fits) (layouts_on c.as_slice.result.now f c.as_slice.ensures.value is.holds.fits) fit.2))

pub member-type_of-requires : goal.member-type_of-requires
member-type_of-requires t c = let s = c.requires.0 in (judged s (expr_of c.args.a.now), c.in_ok-part.ensures.judged s c.requires.1.fits)

pub member-member_offset-words-requires : goal.member-member_offset-words-requires
member-member_offset-words-requires t c =
    let s = c.requires.0 in
    let p = judged s (expr_of c.args.a.now) in
    let f : Onward c.args.types.now c.place.new.types = record { grows = c.in_ok-part.ensures.grows; tags = c.in_ok-part.ensures.tags } in
    let g : Onward c.place.new.types c.type_of.new.types = record { grows = c.in_ok-ty.ensures.grows; tags = c.in_ok-ty.ensures.tags } in
    (operand_type p, s.tags, type_among c.as_slice.result.now c.in_ok-ty.ty (operand_type p) (then_on f g) c.as_slice.ensures.value c.requires.1 (c.in_ok-ty.ensures.ty p (c.in_ok-part.ensures.judged s c.requires.1.fits)))

pub member-after_one-requires : goal.member-after_one-requires
member-after_one-requires t c =
    let s = c.requires.0 in
    let p = judged s (expr_of c.args.a.now) in
    let g : Onward c.place.new.types c.type_of.new.types = record { grows = c.in_ok-ty.ensures.grows; tags = c.in_ok-ty.ensures.tags } in
    (p, judged_on c.in_ok-part.part p g (c.in_ok-part.ensures.judged s c.requires.1.fits))

pub member-returns-clause-judged : goal.member-returns-clause-judged
member-returns-clause-judged t c = λ s fits.
    let p = judged s (expr_of c.args.a.now) in
    let f : Onward c.args.types.now c.place.new.types = record { grows = c.in_ok-part.ensures.grows; tags = c.in_ok-part.ensures.tags } in
    let g : Onward c.place.new.types c.type_of.new.types = record { grows = c.in_ok-ty.ensures.grows; tags = c.in_ok-ty.ensures.tags } in
    c.after_one.ensures.judged p s.tags (judged_on c.in_ok-part.part p g (c.in_ok-part.ensures.judged s fits)) (layouts_on c.as_slice-2.result.now (then_on f g) c.as_slice-2.ensures.value fits)

pub member-returns-clause-emits : goal.member-returns-clause-emits
member-returns-clause-emits t c = λ site env is fit.
    let s = env.scope in
    let a = expr_of c.args.a.now in
    let p = judged s a in
    let f : Onward c.args.types.now c.place.new.types = record { grows = c.in_ok-part.ensures.grows; tags = c.in_ok-part.ensures.tags } in
    let g : Onward c.place.new.types c.type_of.new.types = record { grows = c.in_ok-ty.ensures.grows; tags = c.in_ok-ty.ensures.tags } in
    let among = type_among c.as_slice.result.now c.in_ok-ty.ty (operand_type p) (then_on f g) c.as_slice.ensures.value is.holds (c.in_ok-ty.ensures.ty p (c.in_ok-part.ensures.judged s is.holds.fits)) in
    always c.after_one.result (later (c.in_ok-part.ensures.emits site env is fit.0 fit.1)
    (c.in_ok-add.ensures (code.Member (member_offset s.tags (operand_type p) c.args.m.now)) (record { means = λ names r e. ap (λ n. plain.Unary (instruction.Member n)) (c.member_offset-words.ensures (operand_type p) s.tags among fit.2) })))

pub arrow-pointed_type-requires : goal.arrow-pointed_type-requires
arrow-pointed_type-requires t c = let s = c.requires.0 in (judged s (expr_of c.args.a.now), c.in_ok-part.ensures.judged s c.requires.1.fits)

pub arrow-member_offset-offset-requires : goal.arrow-member_offset-offset-requires
arrow-member_offset-offset-requires t c =
    let s = c.requires.0 in
    let p = judged s (expr_of c.args.a.now) in
    let f : Onward c.args.types.now c.used.new.types = record { grows = c.in_ok-part.ensures.grows; tags = c.in_ok-part.ensures.tags } in
    let g : Onward c.used.new.types c.pointed_type.new.types = record { grows = c.in_ok-to.ensures.grows; tags = c.in_ok-to.ensures.tags } in
    (pointee (decayed (operand_type p)), s.tags, type_among c.as_slice.result.now c.in_ok-to.to (pointee (decayed (operand_type p))) (then_on f g) c.as_slice.ensures.value c.requires.1 (c.in_ok-to.ensures.ty p (c.in_ok-part.ensures.judged s c.requires.1.fits)))

pub arrow-after_one-requires : goal.arrow-after_one-requires
arrow-after_one-requires t c =
    let s = c.requires.0 in
    let p = judged s (expr_of c.args.a.now) in
    let g : Onward c.used.new.types c.pointed_type.new.types = record { grows = c.in_ok-to.ensures.grows; tags = c.in_ok-to.ensures.tags } in
    (p, judged_on c.in_ok-part.part p g (c.in_ok-part.ensures.judged s c.requires.1.fits))

pub arrow-returns-clause-judged : goal.arrow-returns-clause-judged
arrow-returns-clause-judged t c = λ s fits.
    let p = judged s (expr_of c.args.a.now) in
    let f : Onward c.args.types.now c.used.new.types = record { grows = c.in_ok-part.ensures.grows; tags = c.in_ok-part.ensures.tags } in
    let g : Onward c.used.new.types c.pointed_type.new.types = record { grows = c.in_ok-to.ensures.grows; tags = c.in_ok-to.ensures.tags } in
    c.after_one.ensures.judged p s.tags (judged_on c.in_ok-part.part p g (c.in_ok-part.ensures.judged s fits)) (layouts_on c.as_slice-2.result.now (then_on f g) c.as_slice-2.ensures.value fits)

pub arrow-returns-clause-emits : goal.arrow-returns-clause-emits
arrow-returns-clause-emits t c = λ site env is fit.
    let s = env.scope in
    let a = expr_of c.args.a.now in
    let p = judged s a in
    let f : Onward c.args.types.now c.used.new.types = record { grows = c.in_ok-part.ensures.grows; tags = c.in_ok-part.ensures.tags } in
    let g : Onward c.used.new.types c.pointed_type.new.types = record { grows = c.in_ok-to.ensures.grows; tags = c.in_ok-to.ensures.tags } in
    let among = type_among c.as_slice.result.now c.in_ok-to.to (pointee (decayed (operand_type p))) (then_on f g) c.as_slice.ensures.value is.holds (c.in_ok-to.ensures.ty p (c.in_ok-part.ensures.judged s is.holds.fits)) in
    always c.after_one.result (later (c.in_ok-part.ensures.emits site env is fit.0)
    (c.in_ok-add.ensures (code.Member (member_offset s.tags (pointee (decayed (operand_type p))) c.args.m.now)) (record { means = λ names r e. ap (λ n. plain.Unary (instruction.Member n)) (c.member_offset-offset.ensures (pointee (decayed (operand_type p))) s.tags among fit.1) })))

pub operand-returns-in_default-clause-emits : goal.operand-returns-in_default-clause-emits
operand-returns-in_default-clause-emits t c = λ site env is fit addressed.
    let a = expr_of c.args.a.now in
    subst (λ l. OnOk c.used.result (Emits c.args.out.now c.used.new.out l (literals_in env.scope a))) (operand_used c.args.op a site env c.in_default.not-Address) (c.used.ensures.emits site env is fit)

pub operand-returns-in-Address-clause-emits : goal.operand-returns-in-Address-clause-emits
operand-returns-in-Address-clause-emits t c =
    let a = expr_of c.args.a.now in
    subst (λ (op : UnOp). (site : Site) (env : Environment) → IsHere c.args.types.now c.args.here.now c.args.out.now site env → IsFit env.scope a → IsAddressed env.scope op a → OnOk c.addressed.result (Emits c.args.out.now c.addressed.new.out (operand_code op a site env) (literals_in env.scope a))) (sym c.in-Address.is) c.addressed.ensures.emits

pub addressed-returns-then-is_function_name-clause-emits : goal.addressed-returns-then-is_function_name-clause-emits
addressed-returns-then-is_function_name-clause-emits t c = λ site env is fit addressed.
    let a = expr_of c.args.a.now in
    let named : true ≡ names_function env.scope a = sym c.if-is_function_name.true ∙ c.is_function_name.ensures env.scope is.holds.fits in
    subst (λ (b : Bool). OnOk c.used.result (Emits c.args.out.now c.used.new.out (if b then value_code a site env ++ code.Use ∷ [] else place_code a site env) (literals_in env.scope a))) named (c.used.ensures.emits site env is fit)

pub addressed-returns-else-is_function_name-clause-emits : goal.addressed-returns-else-is_function_name-clause-emits
addressed-returns-else-is_function_name-clause-emits t c = λ site env is fit addressed.
    let a = expr_of c.args.a.now in
    let named : false ≡ names_function env.scope a = sym c.if-is_function_name.false ∙ c.is_function_name.ensures env.scope is.holds.fits in
    let place : IsPlace a = subst (λ (b : Bool). IsPlaceUnless b a) (sym named) addressed in
    subst (λ (b : Bool). OnOk c.place.result (Emits c.args.out.now c.place.new.out (if b then value_code a site env ++ code.Use ∷ [] else place_code a site env) (literals_in env.scope a))) named (c.place.ensures.emits site env is fit place)

pub binary-returns-in-And-clause-emits : goal.binary-returns-in-And-clause-emits
binary-returns-in-And-clause-emits t c =
    let a = expr_of c.args.a.now in
    let b = expr_of c.args.b.now in
    subst (λ (op : BinOp). (site : Site) (env : Environment) → IsHere c.args.types.now c.args.here.now c.args.out.now site env → IsFit env.scope (tree.Binary c.args.at op a b) → OnOk c.conjunction.result (Emits c.args.out.now c.conjunction.new.out (value_code (tree.Binary c.args.at op a b) site env) (literals_in env.scope (tree.Binary c.args.at op a b)))) (sym c.in-And.is) c.conjunction.ensures.emits

pub binary-returns-in-And-clause-judged : goal.binary-returns-in-And-clause-judged
binary-returns-in-And-clause-judged t c =
    let a = expr_of c.args.a.now in
    let b = expr_of c.args.b.now in
    subst (λ (op : BinOp). (s : Scope) → Fits c.args.types.now c.args.here.now.declared s → IfOk c.conjunction.result (λ j. IsJudged (IsOperand c.conjunction.new.types) j (judged s (tree.Binary c.args.at op a b)))) (sym c.in-And.is) c.conjunction.ensures.judged

pub binary-returns-in-Or-clause-emits : goal.binary-returns-in-Or-clause-emits
binary-returns-in-Or-clause-emits t c =
    let a = expr_of c.args.a.now in
    let b = expr_of c.args.b.now in
    subst (λ (op : BinOp). (site : Site) (env : Environment) → IsHere c.args.types.now c.args.here.now c.args.out.now site env → IsFit env.scope (tree.Binary c.args.at op a b) → OnOk c.disjunction.result (Emits c.args.out.now c.disjunction.new.out (value_code (tree.Binary c.args.at op a b) site env) (literals_in env.scope (tree.Binary c.args.at op a b)))) (sym c.in-Or.is) c.disjunction.ensures.emits

pub binary-returns-in-Or-clause-judged : goal.binary-returns-in-Or-clause-judged
binary-returns-in-Or-clause-judged t c =
    let a = expr_of c.args.a.now in
    let b = expr_of c.args.b.now in
    subst (λ (op : BinOp). (s : Scope) → Fits c.args.types.now c.args.here.now.declared s → IfOk c.disjunction.result (λ j. IsJudged (IsOperand c.disjunction.new.types) j (judged s (tree.Binary c.args.at op a b)))) (sym c.in-Or.is) c.disjunction.ensures.judged

pub binary-returns-in_default-clause-emits : goal.binary-returns-in_default-clause-emits
binary-returns-in_default-clause-emits t c = λ site env is fit.
    let s = env.scope in
    let a = expr_of c.args.a.now in
    let b = expr_of c.args.b.now in
    subst (λ l. OnOk c.operation.result (Emits c.args.out.now c.operation.new.out l (literals_in s a ++ literals_in s b)))
    (binary_is c.args.op s.tags (value_type_in s a) (value_type_in s b) (value_code a site env ++ code.Use ∷ []) (value_code b site (past a env) ++ code.Use ∷ []) c.in_default.not-And c.in_default.not-Or) (c.operation.ensures.emits site env is fit)

pub operation-used-requires-2 : goal.operation-used-requires-2
operation-used-requires-2 t c =
    let f : Onward c.args.types.now c.used.new.types = record { grows = c.in_ok-first.ensures.grows; tags = c.in_ok-first.ensures.tags } in
    (first_of (search (rules, the_lemmas), grind (the_lemmas, arith, common_steps), grind (the_lemmas, arith, elements)), some_on c.args.here.now.declared f c.requires)

pub operation-operated-requires-clause-left : goal.operation-operated-requires-clause-left
operation-operated-requires-clause-left t c =
    let s = c.requires.0 in
    let fits = c.requires.1.fits in
    let p = judged s (expr_of c.args.a.now) in
    let q = judged s (expr_of c.args.b.now) in
    let f : Onward c.args.types.now c.used.new.types = record { grows = c.in_ok-first.ensures.grows; tags = c.in_ok-first.ensures.tags } in
    let g : Onward c.used.new.types c.used-2.new.types = record { grows = c.in_ok-second.ensures.grows; tags = c.in_ok-second.ensures.tags } in
    (p, judged_on c.in_ok-first.first p g (c.in_ok-first.ensures.judged s fits))

pub operation-operated-requires-clause-right : goal.operation-operated-requires-clause-right
operation-operated-requires-clause-right t c =
    let s = c.requires.0 in
    let fits = c.requires.1.fits in
    let p = judged s (expr_of c.args.a.now) in
    let q = judged s (expr_of c.args.b.now) in
    let f : Onward c.args.types.now c.used.new.types = record { grows = c.in_ok-first.ensures.grows; tags = c.in_ok-first.ensures.tags } in
    let g : Onward c.used.new.types c.used-2.new.types = record { grows = c.in_ok-second.ensures.grows; tags = c.in_ok-second.ensures.tags } in
    (q, c.in_ok-second.ensures.judged s (fits_on f fits))

pub operation-after_two-requires-clause-left : goal.operation-after_two-requires-clause-left
operation-after_two-requires-clause-left t c =
    let s = c.requires.0 in
    let fits = c.requires.1.fits in
    let p = judged s (expr_of c.args.a.now) in
    let q = judged s (expr_of c.args.b.now) in
    let f : Onward c.args.types.now c.used.new.types = record { grows = c.in_ok-first.ensures.grows; tags = c.in_ok-first.ensures.tags } in
    let g : Onward c.used.new.types c.used-2.new.types = record { grows = c.in_ok-second.ensures.grows; tags = c.in_ok-second.ensures.tags } in
    let m : Onward c.used-2.new.types c.operated.new.types = record { grows = c.in_ok-operated.ensures.grows; tags = c.in_ok-operated.ensures.tags } in
    (p, judged_on c.in_ok-first.first p m (judged_on c.in_ok-first.first p g (c.in_ok-first.ensures.judged s fits)))

pub operation-after_two-requires-clause-right : goal.operation-after_two-requires-clause-right
operation-after_two-requires-clause-right t c =
    let s = c.requires.0 in
    let fits = c.requires.1.fits in
    let p = judged s (expr_of c.args.a.now) in
    let q = judged s (expr_of c.args.b.now) in
    let f : Onward c.args.types.now c.used.new.types = record { grows = c.in_ok-first.ensures.grows; tags = c.in_ok-first.ensures.tags } in
    let g : Onward c.used.new.types c.used-2.new.types = record { grows = c.in_ok-second.ensures.grows; tags = c.in_ok-second.ensures.tags } in
    let m : Onward c.used-2.new.types c.operated.new.types = record { grows = c.in_ok-operated.ensures.grows; tags = c.in_ok-operated.ensures.tags } in
    (q, judged_on c.in_ok-second.second q m (c.in_ok-second.ensures.judged s (fits_on f fits)))

pub operation-after_two-requires-clause-layouts : goal.operation-after_two-requires-clause-layouts
operation-after_two-requires-clause-layouts t c =
    let s = c.requires.0 in
    let fits = c.requires.1.fits in
    let p = judged s (expr_of c.args.a.now) in
    let q = judged s (expr_of c.args.b.now) in
    let f : Onward c.args.types.now c.used.new.types = record { grows = c.in_ok-first.ensures.grows; tags = c.in_ok-first.ensures.tags } in
    let g : Onward c.used.new.types c.used-2.new.types = record { grows = c.in_ok-second.ensures.grows; tags = c.in_ok-second.ensures.tags } in
    let m : Onward c.used-2.new.types c.operated.new.types = record { grows = c.in_ok-operated.ensures.grows; tags = c.in_ok-operated.ensures.tags } in
    (s.tags, layouts_on c.as_slice-2.result.now (then_on f (then_on g m)) c.as_slice-2.ensures.value fits)

pub operation-returns-clause-judged : goal.operation-returns-clause-judged
operation-returns-clause-judged t c = λ s fits.
    let p = judged s (expr_of c.args.a.now) in
    let q = judged s (expr_of c.args.b.now) in
    let f : Onward c.args.types.now c.used.new.types = record { grows = c.in_ok-first.ensures.grows; tags = c.in_ok-first.ensures.tags } in
    let g : Onward c.used.new.types c.used-2.new.types = record { grows = c.in_ok-second.ensures.grows; tags = c.in_ok-second.ensures.tags } in
    let m : Onward c.used-2.new.types c.operated.new.types = record { grows = c.in_ok-operated.ensures.grows; tags = c.in_ok-operated.ensures.tags } in
    c.after_two.ensures.judged p q s.tags (judged_on c.in_ok-first.first p m (judged_on c.in_ok-first.first p g (c.in_ok-first.ensures.judged s fits))) (judged_on c.in_ok-second.second q m (c.in_ok-second.ensures.judged s (fits_on f fits))) (layouts_on c.as_slice-2.result.now (then_on f (then_on g m)) c.as_slice-2.ensures.value fits)

pub assignment-used-requires : goal.assignment-used-requires
assignment-used-requires t c =
    let f : Onward c.args.types.now c.place.new.types = record { grows = c.in_ok-first.ensures.grows; tags = c.in_ok-first.ensures.tags } in
    (first_of (search (rules, the_lemmas), grind (the_lemmas, arith, common_steps), grind (the_lemmas, arith, elements)), some_on c.args.here.now.declared f c.requires)

pub assignment-sides_behind-requires-clause-left : goal.assignment-sides_behind-requires-clause-left
assignment-sides_behind-requires-clause-left t c =
    let s = c.requires.0 in
    let fits = c.requires.1.fits in
    let p = judged s (expr_of c.args.a.now) in
    let q = judged s (expr_of c.args.b.now) in
    let f : Onward c.args.types.now c.place.new.types = record { grows = c.in_ok-first.ensures.grows; tags = c.in_ok-first.ensures.tags } in
    let g : Onward c.place.new.types c.used.new.types = record { grows = c.in_ok-second.ensures.grows; tags = c.in_ok-second.ensures.tags } in
    (p, judged_on c.in_ok-first.first p g (c.in_ok-first.ensures.judged s fits))

pub assignment-sides_behind-requires-clause-right : goal.assignment-sides_behind-requires-clause-right
assignment-sides_behind-requires-clause-right t c =
    let s = c.requires.0 in
    let fits = c.requires.1.fits in
    let p = judged s (expr_of c.args.a.now) in
    let q = judged s (expr_of c.args.b.now) in
    let f : Onward c.args.types.now c.place.new.types = record { grows = c.in_ok-first.ensures.grows; tags = c.in_ok-first.ensures.tags } in
    let g : Onward c.place.new.types c.used.new.types = record { grows = c.in_ok-second.ensures.grows; tags = c.in_ok-second.ensures.tags } in
    (q, c.in_ok-second.ensures.judged s (fits_on f fits))

pub assignment-after_two-requires-clause-left : goal.assignment-after_two-requires-clause-left
assignment-after_two-requires-clause-left t c =
    let s = c.requires.0 in
    let fits = c.requires.1.fits in
    let p = judged s (expr_of c.args.a.now) in
    let q = judged s (expr_of c.args.b.now) in
    let f : Onward c.args.types.now c.place.new.types = record { grows = c.in_ok-first.ensures.grows; tags = c.in_ok-first.ensures.tags } in
    let g : Onward c.place.new.types c.used.new.types = record { grows = c.in_ok-second.ensures.grows; tags = c.in_ok-second.ensures.tags } in
    let m : Onward c.used.new.types c.sides_behind.new.types = record { grows = c.in_ok-sides_behind.ensures.grows; tags = c.in_ok-sides_behind.ensures.tags } in
    (p, judged_on c.in_ok-first.first p m (judged_on c.in_ok-first.first p g (c.in_ok-first.ensures.judged s fits)))

pub assignment-after_two-requires-clause-right : goal.assignment-after_two-requires-clause-right
assignment-after_two-requires-clause-right t c =
    let s = c.requires.0 in
    let fits = c.requires.1.fits in
    let p = judged s (expr_of c.args.a.now) in
    let q = judged s (expr_of c.args.b.now) in
    let f : Onward c.args.types.now c.place.new.types = record { grows = c.in_ok-first.ensures.grows; tags = c.in_ok-first.ensures.tags } in
    let g : Onward c.place.new.types c.used.new.types = record { grows = c.in_ok-second.ensures.grows; tags = c.in_ok-second.ensures.tags } in
    let m : Onward c.used.new.types c.sides_behind.new.types = record { grows = c.in_ok-sides_behind.ensures.grows; tags = c.in_ok-sides_behind.ensures.tags } in
    (q, judged_on c.in_ok-second.second q m (c.in_ok-second.ensures.judged s (fits_on f fits)))

pub assignment-after_two-requires-clause-layouts : goal.assignment-after_two-requires-clause-layouts
assignment-after_two-requires-clause-layouts t c =
    let s = c.requires.0 in
    let fits = c.requires.1.fits in
    let p = judged s (expr_of c.args.a.now) in
    let q = judged s (expr_of c.args.b.now) in
    let f : Onward c.args.types.now c.place.new.types = record { grows = c.in_ok-first.ensures.grows; tags = c.in_ok-first.ensures.tags } in
    let g : Onward c.place.new.types c.used.new.types = record { grows = c.in_ok-second.ensures.grows; tags = c.in_ok-second.ensures.tags } in
    let m : Onward c.used.new.types c.sides_behind.new.types = record { grows = c.in_ok-sides_behind.ensures.grows; tags = c.in_ok-sides_behind.ensures.tags } in
    (s.tags, layouts_on c.as_slice-2.result.now (then_on f (then_on g m)) c.as_slice-2.ensures.value fits)

pub assignment-returns-clause-judged : goal.assignment-returns-clause-judged
assignment-returns-clause-judged t c = λ s fits.
    let p = judged s (expr_of c.args.a.now) in
    let q = judged s (expr_of c.args.b.now) in
    let f : Onward c.args.types.now c.place.new.types = record { grows = c.in_ok-first.ensures.grows; tags = c.in_ok-first.ensures.tags } in
    let g : Onward c.place.new.types c.used.new.types = record { grows = c.in_ok-second.ensures.grows; tags = c.in_ok-second.ensures.tags } in
    let m : Onward c.used.new.types c.sides_behind.new.types = record { grows = c.in_ok-sides_behind.ensures.grows; tags = c.in_ok-sides_behind.ensures.tags } in
    c.after_two.ensures.judged p q s.tags (judged_on c.in_ok-first.first p m (judged_on c.in_ok-first.first p g (c.in_ok-first.ensures.judged s fits))) (judged_on c.in_ok-second.second q m (c.in_ok-second.ensures.judged s (fits_on f fits))) (layouts_on c.as_slice-2.result.now (then_on f (then_on g m)) c.as_slice-2.ensures.value fits)

pub comma-value-requires-2 : goal.comma-value-requires-2
comma-value-requires-2 t c =
    let f : Onward c.args.types.now c.value.new.types = record { grows = c.in_ok-first.ensures.grows; tags = c.in_ok-first.ensures.tags } in
    (first_of (search (rules, the_lemmas), grind (the_lemmas, arith, common_steps), grind (the_lemmas, arith, elements)), some_on c.args.here.now.declared f c.requires)

pub comma-after_two-requires-clause-left : goal.comma-after_two-requires-clause-left
comma-after_two-requires-clause-left t c =
    let s = c.requires.0 in
    let fits = c.requires.1.fits in
    let p = judged s (expr_of c.args.a.now) in
    let q = judged s (expr_of c.args.b.now) in
    let f : Onward c.args.types.now c.value.new.types = record { grows = c.in_ok-first.ensures.grows; tags = c.in_ok-first.ensures.tags } in
    let g : Onward c.value.new.types c.value-2.new.types = record { grows = c.in_ok-second.ensures.grows; tags = c.in_ok-second.ensures.tags } in
    (p, judged_on c.in_ok-first.first p g (c.in_ok-first.ensures.judged s fits))

pub comma-after_two-requires-clause-right : goal.comma-after_two-requires-clause-right
comma-after_two-requires-clause-right t c =
    let s = c.requires.0 in
    let fits = c.requires.1.fits in
    let p = judged s (expr_of c.args.a.now) in
    let q = judged s (expr_of c.args.b.now) in
    let f : Onward c.args.types.now c.value.new.types = record { grows = c.in_ok-first.ensures.grows; tags = c.in_ok-first.ensures.tags } in
    let g : Onward c.value.new.types c.value-2.new.types = record { grows = c.in_ok-second.ensures.grows; tags = c.in_ok-second.ensures.tags } in
    (q, c.in_ok-second.ensures.judged s (fits_on f fits))

pub comma-after_two-requires-clause-layouts : goal.comma-after_two-requires-clause-layouts
comma-after_two-requires-clause-layouts t c =
    let s = c.requires.0 in
    let fits = c.requires.1.fits in
    let p = judged s (expr_of c.args.a.now) in
    let q = judged s (expr_of c.args.b.now) in
    let f : Onward c.args.types.now c.value.new.types = record { grows = c.in_ok-first.ensures.grows; tags = c.in_ok-first.ensures.tags } in
    let g : Onward c.value.new.types c.value-2.new.types = record { grows = c.in_ok-second.ensures.grows; tags = c.in_ok-second.ensures.tags } in
    (s.tags, layouts_on c.as_slice.result.now (then_on f g) c.as_slice.ensures.value fits)

pub comma-returns-clause-judged : goal.comma-returns-clause-judged
comma-returns-clause-judged t c = λ s fits.
    let p = judged s (expr_of c.args.a.now) in
    let q = judged s (expr_of c.args.b.now) in
    let f : Onward c.args.types.now c.value.new.types = record { grows = c.in_ok-first.ensures.grows; tags = c.in_ok-first.ensures.tags } in
    let g : Onward c.value.new.types c.value-2.new.types = record { grows = c.in_ok-second.ensures.grows; tags = c.in_ok-second.ensures.tags } in
    c.after_two.ensures.judged p q s.tags (judged_on c.in_ok-first.first p g (c.in_ok-first.ensures.judged s fits)) (c.in_ok-second.ensures.judged s (fits_on f fits)) (layouts_on c.as_slice.result.now (then_on f g) c.as_slice.ensures.value fits)

pub conjunction-used-requires-2 : goal.conjunction-used-requires-2
conjunction-used-requires-2 t c =
    let f : Onward c.args.types.now c.used.new.types = record { grows = c.in_ok-first.ensures.grows; tags = c.in_ok-first.ensures.tags } in
    (first_of (search (rules, the_lemmas), grind (the_lemmas, arith, common_steps), grind (the_lemmas, arith, elements)), some_on c.args.here.now.declared f c.requires)

pub conjunction-after_two-requires-clause-left : goal.conjunction-after_two-requires-clause-left
conjunction-after_two-requires-clause-left t c =
    let s = c.requires.0 in
    let fits = c.requires.1.fits in
    let p = judged s (expr_of c.args.a.now) in
    let q = judged s (expr_of c.args.b.now) in
    let f : Onward c.args.types.now c.used.new.types = record { grows = c.in_ok-first.ensures.grows; tags = c.in_ok-first.ensures.tags } in
    let g : Onward c.used.new.types c.used-2.new.types = record { grows = c.in_ok-second.ensures.grows; tags = c.in_ok-second.ensures.tags } in
    (p, judged_on c.in_ok-first.first p g (c.in_ok-first.ensures.judged s fits))

pub conjunction-after_two-requires-clause-right : goal.conjunction-after_two-requires-clause-right
conjunction-after_two-requires-clause-right t c =
    let s = c.requires.0 in
    let fits = c.requires.1.fits in
    let p = judged s (expr_of c.args.a.now) in
    let q = judged s (expr_of c.args.b.now) in
    let f : Onward c.args.types.now c.used.new.types = record { grows = c.in_ok-first.ensures.grows; tags = c.in_ok-first.ensures.tags } in
    let g : Onward c.used.new.types c.used-2.new.types = record { grows = c.in_ok-second.ensures.grows; tags = c.in_ok-second.ensures.tags } in
    (q, c.in_ok-second.ensures.judged s (fits_on f fits))

pub conjunction-after_two-requires-clause-layouts : goal.conjunction-after_two-requires-clause-layouts
conjunction-after_two-requires-clause-layouts t c =
    let s = c.requires.0 in
    let fits = c.requires.1.fits in
    let p = judged s (expr_of c.args.a.now) in
    let q = judged s (expr_of c.args.b.now) in
    let f : Onward c.args.types.now c.used.new.types = record { grows = c.in_ok-first.ensures.grows; tags = c.in_ok-first.ensures.tags } in
    let g : Onward c.used.new.types c.used-2.new.types = record { grows = c.in_ok-second.ensures.grows; tags = c.in_ok-second.ensures.tags } in
    (s.tags, layouts_on c.as_slice.result.now (then_on f g) c.as_slice.ensures.value fits)

pub conjunction-returns-clause-judged : goal.conjunction-returns-clause-judged
conjunction-returns-clause-judged t c = λ s fits.
    let p = judged s (expr_of c.args.a.now) in
    let q = judged s (expr_of c.args.b.now) in
    let f : Onward c.args.types.now c.used.new.types = record { grows = c.in_ok-first.ensures.grows; tags = c.in_ok-first.ensures.tags } in
    let g : Onward c.used.new.types c.used-2.new.types = record { grows = c.in_ok-second.ensures.grows; tags = c.in_ok-second.ensures.tags } in
    c.after_two.ensures.judged p q s.tags (judged_on c.in_ok-first.first p g (c.in_ok-first.ensures.judged s fits)) (c.in_ok-second.ensures.judged s (fits_on f fits)) (layouts_on c.as_slice.result.now (then_on f g) c.as_slice.ensures.value fits)

pub disjunction-used-requires-2 : goal.disjunction-used-requires-2
disjunction-used-requires-2 t c =
    let f : Onward c.args.types.now c.used.new.types = record { grows = c.in_ok-first.ensures.grows; tags = c.in_ok-first.ensures.tags } in
    (first_of (search (rules, the_lemmas), grind (the_lemmas, arith, common_steps), grind (the_lemmas, arith, elements)), some_on c.args.here.now.declared f c.requires)

pub disjunction-after_two-requires-clause-left : goal.disjunction-after_two-requires-clause-left
disjunction-after_two-requires-clause-left t c =
    let s = c.requires.0 in
    let fits = c.requires.1.fits in
    let p = judged s (expr_of c.args.a.now) in
    let q = judged s (expr_of c.args.b.now) in
    let f : Onward c.args.types.now c.used.new.types = record { grows = c.in_ok-first.ensures.grows; tags = c.in_ok-first.ensures.tags } in
    let g : Onward c.used.new.types c.used-2.new.types = record { grows = c.in_ok-second.ensures.grows; tags = c.in_ok-second.ensures.tags } in
    (p, judged_on c.in_ok-first.first p g (c.in_ok-first.ensures.judged s fits))

pub disjunction-after_two-requires-clause-right : goal.disjunction-after_two-requires-clause-right
disjunction-after_two-requires-clause-right t c =
    let s = c.requires.0 in
    let fits = c.requires.1.fits in
    let p = judged s (expr_of c.args.a.now) in
    let q = judged s (expr_of c.args.b.now) in
    let f : Onward c.args.types.now c.used.new.types = record { grows = c.in_ok-first.ensures.grows; tags = c.in_ok-first.ensures.tags } in
    let g : Onward c.used.new.types c.used-2.new.types = record { grows = c.in_ok-second.ensures.grows; tags = c.in_ok-second.ensures.tags } in
    (q, c.in_ok-second.ensures.judged s (fits_on f fits))

pub disjunction-after_two-requires-clause-layouts : goal.disjunction-after_two-requires-clause-layouts
disjunction-after_two-requires-clause-layouts t c =
    let s = c.requires.0 in
    let fits = c.requires.1.fits in
    let p = judged s (expr_of c.args.a.now) in
    let q = judged s (expr_of c.args.b.now) in
    let f : Onward c.args.types.now c.used.new.types = record { grows = c.in_ok-first.ensures.grows; tags = c.in_ok-first.ensures.tags } in
    let g : Onward c.used.new.types c.used-2.new.types = record { grows = c.in_ok-second.ensures.grows; tags = c.in_ok-second.ensures.tags } in
    (s.tags, layouts_on c.as_slice.result.now (then_on f g) c.as_slice.ensures.value fits)

pub disjunction-returns-clause-judged : goal.disjunction-returns-clause-judged
disjunction-returns-clause-judged t c = λ s fits.
    let p = judged s (expr_of c.args.a.now) in
    let q = judged s (expr_of c.args.b.now) in
    let f : Onward c.args.types.now c.used.new.types = record { grows = c.in_ok-first.ensures.grows; tags = c.in_ok-first.ensures.tags } in
    let g : Onward c.used.new.types c.used-2.new.types = record { grows = c.in_ok-second.ensures.grows; tags = c.in_ok-second.ensures.tags } in
    c.after_two.ensures.judged p q s.tags (judged_on c.in_ok-first.first p g (c.in_ok-first.ensures.judged s fits)) (c.in_ok-second.ensures.judged s (fits_on f fits)) (layouts_on c.as_slice.result.now (then_on f g) c.as_slice.ensures.value fits)

pub operation-returns-clause-emits : goal.operation-returns-clause-emits
operation-returns-clause-emits t c = λ site env is fit.
    let s = env.scope in
    let fits = is.holds.fits in
    let a = expr_of c.args.a.now in
    let b = expr_of c.args.b.now in
    let p = judged s a in
    let q = judged s b in
    let f : Onward c.args.types.now c.used.new.types = record { grows = c.in_ok-first.ensures.grows; tags = c.in_ok-first.ensures.tags } in
    let g : Onward c.used.new.types c.used-2.new.types = record { grows = c.in_ok-second.ensures.grows; tags = c.in_ok-second.ensures.tags } in
    let first = c.in_ok-first.ensures.emits site env is fit.0 in
    let second = c.in_ok-second.ensures.emits site (past a env) (here_on f first is) fit.1 in
    always c.after_two.result (both first (later second (c.in_ok-operated.ensures.emits p q s.tags (judged_on c.in_ok-first.first p g (c.in_ok-first.ensures.judged s fits)) (c.in_ok-second.ensures.judged s (fits_on f fits))
    (layouts_on c.as_slice.result.now (then_on f g) c.as_slice.ensures.value fits) fit.2)))

pub assignment-returns-clause-emits : goal.assignment-returns-clause-emits
assignment-returns-clause-emits t c = λ site env is fit.
    let s = env.scope in
    let fits = is.holds.fits in
    let a = expr_of c.args.a.now in
    let b = expr_of c.args.b.now in
    let p = judged s a in
    let q = judged s b in
    let f : Onward c.args.types.now c.place.new.types = record { grows = c.in_ok-first.ensures.grows; tags = c.in_ok-first.ensures.tags } in
    let g : Onward c.place.new.types c.used.new.types = record { grows = c.in_ok-second.ensures.grows; tags = c.in_ok-second.ensures.tags } in
    let first = c.in_ok-first.ensures.emits site env is fit.0 fit.2 in
    let second = c.in_ok-second.ensures.emits site (past a env) (here_on f first is) fit.1 in
    let third = c.in_ok-sides_behind.ensures.emits p q s.tags (judged_on c.in_ok-first.first p g (c.in_ok-first.ensures.judged s fits)) (c.in_ok-second.ensures.judged s (fits_on f fits)) (layouts_on c.as_slice.result.now (then_on f g) c.as_slice.ensures.value fits) fit.3 in
    always c.after_two.result (subst (λ l. Emits c.args.out.now c.sides_behind.new.out l (literals_in s a ++ literals_in s b)) (assign_is c.args.op s.tags (type_in s a) (value_type_in s b) (place_code a site env) (value_code b site (past a env) ++ code.Use ∷ [])) (both first (later second third)))

pub comma-returns-clause-emits : goal.comma-returns-clause-emits
comma-returns-clause-emits t c = λ site env is fit.
    let s = env.scope in
    let fits = is.holds.fits in
    let a = expr_of c.args.a.now in
    let b = expr_of c.args.b.now in
    let p = judged s a in
    let q = judged s b in
    let f : Onward c.args.types.now c.value.new.types = record { grows = c.in_ok-first.ensures.grows; tags = c.in_ok-first.ensures.tags } in
    let g : Onward c.value.new.types c.value-2.new.types = record { grows = c.in_ok-second.ensures.grows; tags = c.in_ok-second.ensures.tags } in
    let first = c.in_ok-first.ensures.emits site env is fit.0 in
    let pop = c.in_ok-add.ensures code.Drop (record { means = λ names r e. refl }) in
    let second = c.in_ok-second.ensures.emits site (past a env) (here_behind_code pop (here_on f first is)) fit.1 in
    always c.after_two.result (both first (both pop second))

pub conjunction-returns-clause-emits : goal.conjunction-returns-clause-emits
conjunction-returns-clause-emits t c = λ site env is fit.
    let s = env.scope in
    let fits = is.holds.fits in
    let a = expr_of c.args.a.now in
    let b = expr_of c.args.b.now in
    let p = judged s a in
    let q = judged s b in
    let f : Onward c.args.types.now c.used.new.types = record { grows = c.in_ok-first.ensures.grows; tags = c.in_ok-first.ensures.tags } in
    let g : Onward c.used.new.types c.used-2.new.types = record { grows = c.in_ok-second.ensures.grows; tags = c.in_ok-second.ensures.tags } in
    let first = c.in_ok-first.ensures.emits site env is fit.0 in
    let second = c.in_ok-second.ensures.emits site (past a env) (here_kept c.in_ok-test.ensures.keeps (here_on f first is)) fit.1 in
    let yea = later second (c.in_ok-add.ensures code.Truth (record { means = λ names r e. refl })) in
    let nay = c.in_ok-add-2.ensures (code.Push (run.Word 0)) (record { means = λ names r e. c.wrap.ensures }) in
    let all = sides first c.in_ok-test.ensures yea c.in_ok-jump.ensures nay c.in_ok-both_sides.ensures in
    always c.after_two.result (subst (λ ls. Emits c.args.out.now c.both_sides.new.out (value_code (tree.Binary c.args.at binary.And a b) site env) (literals_in s a ++ ls)) (append-nil (literals_in s b)) all)

pub disjunction-returns-clause-emits : goal.disjunction-returns-clause-emits
disjunction-returns-clause-emits t c = λ site env is fit.
    let s = env.scope in
    let fits = is.holds.fits in
    let a = expr_of c.args.a.now in
    let b = expr_of c.args.b.now in
    let p = judged s a in
    let q = judged s b in
    let f : Onward c.args.types.now c.used.new.types = record { grows = c.in_ok-first.ensures.grows; tags = c.in_ok-first.ensures.tags } in
    let g : Onward c.used.new.types c.used-2.new.types = record { grows = c.in_ok-second.ensures.grows; tags = c.in_ok-second.ensures.tags } in
    let first = c.in_ok-first.ensures.emits site env is fit.0 in
    let yea = c.in_ok-add.ensures (code.Push (run.Word 1)) (record { means = λ names r e. c.wrap.ensures }) in
    let second = c.in_ok-second.ensures.emits site (past a env) (here_turned c.in_ok-jump.ensures (here_behind_code yea (here_kept c.in_ok-test.ensures.keeps (here_on f first is)))) fit.1 in
    let nay = later second (c.in_ok-add-2.ensures code.Truth (record { means = λ names r e. refl })) in
    always c.after_two.result (sides first c.in_ok-test.ensures yea c.in_ok-jump.ensures nay c.in_ok-both_sides.ensures)

pub choice-value-requires : goal.choice-value-requires
choice-value-requires t c =
    let f : Onward c.args.types.now c.used.new.types = record { grows = c.in_ok-first.ensures.grows; tags = c.in_ok-first.ensures.tags } in
    (first_of (search (rules, the_lemmas), grind (the_lemmas, arith, common_steps), grind (the_lemmas, arith, elements)), some_on c.args.here.now.declared f c.requires)

pub choice-value-requires-2 : goal.choice-value-requires-2
choice-value-requires-2 t c =
    let f : Onward c.args.types.now c.used.new.types = record { grows = c.in_ok-first.ensures.grows; tags = c.in_ok-first.ensures.tags } in
    let g : Onward c.used.new.types c.value.new.types = record { grows = c.in_ok-second.ensures.grows; tags = c.in_ok-second.ensures.tags } in
    (first_of (search (rules, the_lemmas), grind (the_lemmas, arith, common_steps), grind (the_lemmas, arith, elements)), some_on c.args.here.now.declared (then_on f g) c.requires)

pub choice-after_three-requires-clause-test : goal.choice-after_three-requires-clause-test
choice-after_three-requires-clause-test t c =
    let s = c.requires.0 in
    let fits = c.requires.1.fits in
    let p = judged s (expr_of c.args.a.now) in
    let q = judged s (expr_of c.args.b.now) in
    let r = judged s (expr_of c.args.c.now) in
    let f : Onward c.args.types.now c.used.new.types = record { grows = c.in_ok-first.ensures.grows; tags = c.in_ok-first.ensures.tags } in
    let g : Onward c.used.new.types c.value.new.types = record { grows = c.in_ok-second.ensures.grows; tags = c.in_ok-second.ensures.tags } in
    let m : Onward c.value.new.types c.value-2.new.types = record { grows = c.in_ok-third.ensures.grows; tags = c.in_ok-third.ensures.tags } in
    (p, judged_on c.in_ok-first.first p (then_on g m) (c.in_ok-first.ensures.judged s fits))

pub choice-after_three-requires-clause-first : goal.choice-after_three-requires-clause-first
choice-after_three-requires-clause-first t c =
    let s = c.requires.0 in
    let fits = c.requires.1.fits in
    let p = judged s (expr_of c.args.a.now) in
    let q = judged s (expr_of c.args.b.now) in
    let r = judged s (expr_of c.args.c.now) in
    let f : Onward c.args.types.now c.used.new.types = record { grows = c.in_ok-first.ensures.grows; tags = c.in_ok-first.ensures.tags } in
    let g : Onward c.used.new.types c.value.new.types = record { grows = c.in_ok-second.ensures.grows; tags = c.in_ok-second.ensures.tags } in
    let m : Onward c.value.new.types c.value-2.new.types = record { grows = c.in_ok-third.ensures.grows; tags = c.in_ok-third.ensures.tags } in
    (q, judged_on c.in_ok-second.second q m (c.in_ok-second.ensures.judged s (fits_on f fits)))

pub choice-after_three-requires-clause-second : goal.choice-after_three-requires-clause-second
choice-after_three-requires-clause-second t c =
    let s = c.requires.0 in
    let fits = c.requires.1.fits in
    let p = judged s (expr_of c.args.a.now) in
    let q = judged s (expr_of c.args.b.now) in
    let r = judged s (expr_of c.args.c.now) in
    let f : Onward c.args.types.now c.used.new.types = record { grows = c.in_ok-first.ensures.grows; tags = c.in_ok-first.ensures.tags } in
    let g : Onward c.used.new.types c.value.new.types = record { grows = c.in_ok-second.ensures.grows; tags = c.in_ok-second.ensures.tags } in
    let m : Onward c.value.new.types c.value-2.new.types = record { grows = c.in_ok-third.ensures.grows; tags = c.in_ok-third.ensures.tags } in
    (r, c.in_ok-third.ensures.judged s (fits_on (then_on f g) fits))

pub choice-converted-requires : goal.choice-converted-requires
choice-converted-requires t c =
    let s = c.requires.0 in
    let fits = c.requires.1.fits in
    let p = judged s (expr_of c.args.a.now) in
    let q = judged s (expr_of c.args.b.now) in
    let r = judged s (expr_of c.args.c.now) in
    let f : Onward c.args.types.now c.used.new.types = record { grows = c.in_ok-first.ensures.grows; tags = c.in_ok-first.ensures.tags } in
    let g : Onward c.used.new.types c.value.new.types = record { grows = c.in_ok-second.ensures.grows; tags = c.in_ok-second.ensures.tags } in
    let m : Onward c.value.new.types c.value-2.new.types = record { grows = c.in_ok-third.ensures.grows; tags = c.in_ok-third.ensures.tags } in
    let n : Onward c.value-2.new.types c.after_three.new.types = record { grows = c.in_ok-j.ensures.grows; tags = c.in_ok-j.ensures.tags } in
    (judged s (tree.Cond c.args.at (expr_of c.args.a.now) (expr_of c.args.b.now) (expr_of c.args.c.now)), c.in_ok-j.ensures.judged p q r (judged_on c.in_ok-first.first p (then_on g m) (c.in_ok-first.ensures.judged s fits)) (judged_on c.in_ok-second.second q m (c.in_ok-second.ensures.judged s (fits_on f fits))) (c.in_ok-third.ensures.judged s (fits_on (then_on f g) fits)))

pub choice-returns-clause-judged : goal.choice-returns-clause-judged
choice-returns-clause-judged t c = λ s fits.
    let p = judged s (expr_of c.args.a.now) in
    let q = judged s (expr_of c.args.b.now) in
    let r = judged s (expr_of c.args.c.now) in
    let f : Onward c.args.types.now c.used.new.types = record { grows = c.in_ok-first.ensures.grows; tags = c.in_ok-first.ensures.tags } in
    let g : Onward c.used.new.types c.value.new.types = record { grows = c.in_ok-second.ensures.grows; tags = c.in_ok-second.ensures.tags } in
    let m : Onward c.value.new.types c.value-2.new.types = record { grows = c.in_ok-third.ensures.grows; tags = c.in_ok-third.ensures.tags } in
    let n : Onward c.value-2.new.types c.after_three.new.types = record { grows = c.in_ok-j.ensures.grows; tags = c.in_ok-j.ensures.tags } in
    let o : Onward c.after_three.new.types c.converted.new.types = record { grows = c.in_ok-converted.ensures.grows; tags = c.in_ok-converted.ensures.tags } in
    judged_on c.in_ok-j.j (judged s (tree.Cond c.args.at (expr_of c.args.a.now) (expr_of c.args.b.now) (expr_of c.args.c.now))) o (c.in_ok-j.ensures.judged p q r (judged_on c.in_ok-first.first p (then_on g m) (c.in_ok-first.ensures.judged s fits)) (judged_on c.in_ok-second.second q m (c.in_ok-second.ensures.judged s (fits_on f fits))) (c.in_ok-third.ensures.judged s (fits_on (then_on f g) fits)))

pub choice-returns-clause-emits : goal.choice-returns-clause-emits
choice-returns-clause-emits t c = λ site env is fit.
    let s = env.scope in
    let fits = is.holds.fits in
    let a = expr_of c.args.a.now in
    let b = expr_of c.args.b.now in
    let p = judged s (expr_of c.args.a.now) in
    let q = judged s (expr_of c.args.b.now) in
    let r = judged s (expr_of c.args.c.now) in
    let f : Onward c.args.types.now c.used.new.types = record { grows = c.in_ok-first.ensures.grows; tags = c.in_ok-first.ensures.tags } in
    let g : Onward c.used.new.types c.value.new.types = record { grows = c.in_ok-second.ensures.grows; tags = c.in_ok-second.ensures.tags } in
    let m : Onward c.value.new.types c.value-2.new.types = record { grows = c.in_ok-third.ensures.grows; tags = c.in_ok-third.ensures.tags } in
    let n : Onward c.value-2.new.types c.after_three.new.types = record { grows = c.in_ok-j.ensures.grows; tags = c.in_ok-j.ensures.tags } in
    let first = c.in_ok-first.ensures.emits site env is fit.0 in
    let at_second = here_kept c.in_ok-test.ensures.keeps (here_on f first is) in
    let second = c.in_ok-second.ensures.emits site (past a env) at_second fit.1 in
    let third = c.in_ok-third.ensures.emits site (past b (past a env)) (here_turned c.in_ok-jump.ensures (here_on g second at_second)) fit.2 in
    later (sides first c.in_ok-test.ensures second c.in_ok-jump.ensures third c.in_ok-both_sides.ensures)
    (c.in_ok-converted.ensures.emits (judged s (tree.Cond c.args.at a b (expr_of c.args.c.now))) (c.in_ok-j.ensures.judged p q r (judged_on c.in_ok-first.first p (then_on g m) (c.in_ok-first.ensures.judged s fits)) (judged_on c.in_ok-second.second q m (c.in_ok-second.ensures.judged s (fits_on f fits))) (c.in_ok-third.ensures.judged s (fits_on (then_on f g) fits))))

pub cast_value-written-requires : goal.cast_value-written-requires
cast_value-written-requires t c = some_fits c.args.types.now c.args.here.now.declared c.requires

pub cast_value-value-requires : goal.cast_value-value-requires
cast_value-value-requires t c =
    let f : Onward c.args.types.now c.written.new.types = record { grows = c.in_ok-ty.ensures.grows; tags = c.in_ok-ty.ensures.tags } in
    (first_of (search (rules, the_lemmas), grind (the_lemmas, arith, common_steps), grind (the_lemmas, arith, elements)), some_on c.args.here.now.declared f c.requires)

pub cast_value-after_cast-requires-clause-ty : goal.cast_value-after_cast-requires-clause-ty
cast_value-after_cast-requires-clause-ty t c =
    let s = c.requires.0 in
    let fits = c.requires.1.fits in
    let to = written s c.args.at (ty_of c.args.t.now) in
    let p = judged s (expr_of c.args.a.now) in
    let f : Onward c.args.types.now c.written.new.types = record { grows = c.in_ok-ty.ensures.grows; tags = c.in_ok-ty.ensures.tags } in
    let g : Onward c.written.new.types c.value.new.types = record { grows = c.in_ok-part.ensures.grows; tags = c.in_ok-part.ensures.tags } in
    (to, type_on c.in_ok-ty.ty to g (c.in_ok-ty.ensures.judged s fits))

pub cast_value-after_cast-requires-clause-operand : goal.cast_value-after_cast-requires-clause-operand
cast_value-after_cast-requires-clause-operand t c =
    let s = c.requires.0 in
    let fits = c.requires.1.fits in
    let to = written s c.args.at (ty_of c.args.t.now) in
    let p = judged s (expr_of c.args.a.now) in
    let f : Onward c.args.types.now c.written.new.types = record { grows = c.in_ok-ty.ensures.grows; tags = c.in_ok-ty.ensures.tags } in
    let g : Onward c.written.new.types c.value.new.types = record { grows = c.in_ok-part.ensures.grows; tags = c.in_ok-part.ensures.tags } in
    (p, c.in_ok-part.ensures.judged s (fits_on f fits))

pub cast_value-cast-requires : goal.cast_value-cast-requires
cast_value-cast-requires t c =
    let s = c.requires.0 in
    let fits = c.requires.1.fits in
    let to = written s c.args.at (ty_of c.args.t.now) in
    let p = judged s (expr_of c.args.a.now) in
    let f : Onward c.args.types.now c.written.new.types = record { grows = c.in_ok-ty.ensures.grows; tags = c.in_ok-ty.ensures.tags } in
    let g : Onward c.written.new.types c.value.new.types = record { grows = c.in_ok-part.ensures.grows; tags = c.in_ok-part.ensures.tags } in
    let m : Onward c.value.new.types c.after_cast.new.types = record { grows = c.in_ok-j.ensures.grows; tags = c.in_ok-j.ensures.tags } in
    (judged s (tree.Cast c.args.at (ty_of c.args.t.now) (expr_of c.args.a.now)), c.in_ok-j.ensures.judged to p (type_on c.in_ok-ty.ty to g (c.in_ok-ty.ensures.judged s fits)) (c.in_ok-part.ensures.judged s (fits_on f fits)))

pub cast_value-returns-clause-judged : goal.cast_value-returns-clause-judged
cast_value-returns-clause-judged t c = λ s fits.
    let to = written s c.args.at (ty_of c.args.t.now) in
    let p = judged s (expr_of c.args.a.now) in
    let f : Onward c.args.types.now c.written.new.types = record { grows = c.in_ok-ty.ensures.grows; tags = c.in_ok-ty.ensures.tags } in
    let g : Onward c.written.new.types c.value.new.types = record { grows = c.in_ok-part.ensures.grows; tags = c.in_ok-part.ensures.tags } in
    let m : Onward c.value.new.types c.after_cast.new.types = record { grows = c.in_ok-j.ensures.grows; tags = c.in_ok-j.ensures.tags } in
    let n : Onward c.after_cast.new.types c.cast.new.types = record { grows = c.in_ok-cast.ensures.grows; tags = c.in_ok-cast.ensures.tags } in
    judged_on c.in_ok-j.j (judged s (tree.Cast c.args.at (ty_of c.args.t.now) (expr_of c.args.a.now))) n (c.in_ok-j.ensures.judged to p (type_on c.in_ok-ty.ty to g (c.in_ok-ty.ensures.judged s fits)) (c.in_ok-part.ensures.judged s (fits_on f fits)))

pub cast_value-returns-clause-emits : goal.cast_value-returns-clause-emits
cast_value-returns-clause-emits t c = λ site env is fit.
    let s = env.scope in
    let fits = is.holds.fits in
    let to = written s c.args.at (ty_of c.args.t.now) in
    let p = judged s (expr_of c.args.a.now) in
    let f : Onward c.args.types.now c.written.new.types = record { grows = c.in_ok-ty.ensures.grows; tags = c.in_ok-ty.ensures.tags } in
    let g : Onward c.written.new.types c.value.new.types = record { grows = c.in_ok-part.ensures.grows; tags = c.in_ok-part.ensures.tags } in
    let m : Onward c.value.new.types c.after_cast.new.types = record { grows = c.in_ok-j.ensures.grows; tags = c.in_ok-j.ensures.tags } in
    later (c.in_ok-part.ensures.emits site env (here_grown f is) fit) (c.in_ok-cast.ensures.emits (judged s (tree.Cast c.args.at (ty_of c.args.t.now) (expr_of c.args.a.now))) (c.in_ok-j.ensures.judged to p (type_on c.in_ok-ty.ty to g (c.in_ok-ty.ensures.judged s fits)) (c.in_ok-part.ensures.judged s (fits_on f fits))))

pub callee-called-requires : goal.callee-called-requires
callee-called-requires t c = some_fits c.args.types.now c.args.here.now.declared c.requires

pub callee-through-requires : goal.callee-through-requires
callee-through-requires t c = let s = c.requires.0 in (judged s (expr_of c.args.f.now), c.in_ok-value-in-None.ensures.judged s c.requires.1.fits)

pub callee-returns-in_ok-named_pointer-in-Some-clause-judged : goal.callee-returns-in_ok-named_pointer-in-Some-clause-judged
callee-returns-in_ok-named_pointer-in-Some-clause-judged t c = λ s fits.
    let e = expr_of c.args.f.now in
    subst (λ (p : Judged operands.Callee). IfOk c.called.result (λ j. IsJudged (IsCallee c.called.new.types) j p))
    (sym (callee_named s c.args.at e c.in-Some.name.now (judged s e) c.in-Some.ensures)) (c.called.ensures.judged s fits)

pub callee-returns-in_ok-named_pointer-in-Some-clause-emits : goal.callee-returns-in_ok-named_pointer-in-Some-clause-emits
callee-returns-in_ok-named_pointer-in-Some-clause-emits t c = λ site env is fit.
    let e = expr_of c.args.f.now in
    let name = c.in-Some.name.now in
    let named = name_is e name c.in-Some.ensures in
    always c.called.result (subst (λ (x : CExpr). Emits c.args.out.now c.named_pointer.new.out (pointer_code (callee_in env.scope x) (value_code x site env ++ code.Use ∷ [])) (literals_in env.scope x)) (sym named.1) (c.in_ok-named_pointer-in-Some.ensures site env is))

pub callee-returns-in_ok-value-in-None-clause-judged : goal.callee-returns-in_ok-value-in-None-clause-judged
callee-returns-in_ok-value-in-None-clause-judged t c = λ s fits.
    let e = expr_of c.args.f.now in
    subst (λ (p : Judged operands.Callee). IfOk c.through.result (λ j. IsJudged (IsCallee c.through.new.types) j p))
    (sym (callee_through s c.args.at e (judged s e) c.in-None.ensures)) (c.through.ensures.judged (judged s e) (c.in_ok-value-in-None.ensures.judged s fits))

pub callee-returns-in_ok-value-in-None-clause-emits : goal.callee-returns-in_ok-value-in-None-clause-emits
callee-returns-in_ok-value-in-None-clause-emits t c = λ site env is fit.
    let e = expr_of c.args.f.now in
    always c.through.result (subst (λ l. Emits c.args.out.now c.used.new.out l (literals_in env.scope e)) (pointer_unnamed env.scope e (value_code e site env ++ code.Use ∷ []) c.in-None.ensures) (c.in_ok-value-in-None.ensures.emits site env is fit))

pub callee-returns-in_ok-value-in-None-clause-grows : goal.callee-returns-in_ok-value-in-None-clause-grows
callee-returns-in_ok-value-in-None-clause-grows t c =
    on_ok c.through.result (λ h. grows_then (known c.args.types.now) (known c.used.new.types) (known c.through.new.types) c.in_ok-value-in-None.ensures.grows h) c.through.ensures.grows

pub argument-judge-requires : goal.argument-judge-requires
argument-judge-requires t c = some_fits c.args.types.now c.args.here.now.declared c.requires

pub argument-returns-then-skips-clause-emits : goal.argument-returns-then-skips-clause-emits
argument-returns-then-skips-clause-emits t c = λ site env is fit.
    let e = expr_of c.args.e.now in
    subst (λ (b : Bool). OnOk c.judge.result (Emits c.args.out.now c.args.out.now (argument_code b e site env) (argument_literals b env.scope e))) (sym c.if-skips.true) (always c.judge.result (nothing c.args.out.now))

pub argument-returns-else-skips-clause-emits : goal.argument-returns-else-skips-clause-emits
argument-returns-else-skips-clause-emits t c = λ site env is fit.
    let e = expr_of c.args.e.now in
    subst (λ (b : Bool). OnOk c.used.result (Emits c.args.out.now c.used.new.out (argument_code b e site env) (argument_literals b env.scope e))) (sym c.if-skips.false) (c.used.ensures.emits site env is fit)

pub given-loop-e-init : goal.given-loop-e-init
given-loop-e-init t c =
    let items = (out-Exprs c.args.arguments.now).items.items in (
      begun c.args.types.now c.args.here.now.declared c.new-collected.result items (exprs_of c.args.arguments.now) c.new-collected.ensures.refusal c.new-collected.ensures.arguments (exprs_view c.args.arguments.now),
      none_given c.args.types.now c.args.here.now c.args.out.now c.args.printed (exprs_of c.args.arguments.now) (exprs (map expr_of items)) (exprs_view c.args.arguments.now),
    )

pub given-argument-requires : goal.given-argument-requires
given-argument-requires t c =
    let g = c.loop-e.invariant.0 in
    let f : Onward c.args.types.now c.loop-e.types = record { grows = g.grows; tags = g.tags } in
    (first_of (search (rules, the_lemmas), grind (the_lemmas, arith, common_steps), grind (the_lemmas, arith, elements)), some_on c.args.here.now.declared f c.requires)

pub given-add-requires : goal.given-add-requires
given-add-requires t c =
    let s = c.requires.0 in
    let g = c.loop-e.invariant.0 in
    (judged s (expr_of c.e-item.result), c.in_ok-j.ensures.judged s (fits_kept c.args.types.now c.loop-e.types c.args.here.now.declared s g.grows g.tags c.requires.1.fits))

pub given-loop-e-preserved : goal.given-loop-e-preserved
given-loop-e-preserved t c =
    let items = (out-Exprs c.args.arguments.now).items.items in
    let i = c.loop-e.e-index in
    let within : i < length items = subst (λ (l : List Expr). i < length l) c.deref-e-items.ensures.value c.loop-e-test.true in
    let next : c.e-item.result ≡ get_or items i c.e-item.result = subst (λ (l : List Expr). c.e-item.result ≡ get_or l i c.e-item.result) c.deref-e-items.ensures.value c.e-item.is in
    let left = drop_at items i c.e-item.result within next in (
      goes_on c.args.types.now c.loop-e.types c.argument.new.types c.add.new.types c.args.here.now.declared c.loop-e.collected c.add.new.self items i c.e-item.result c.in_ok-j.j (exprs_of c.args.arguments.now)
          c.loop-e.invariant.0 left c.in_ok-j.ensures.judged c.in_ok-j.ensures.grows c.in_ok-j.ensures.tags
          c.in_ok-add.ensures.added c.in_ok-add.ensures.grows c.in_ok-add.ensures.tags,
      one_given c.args.types.now c.loop-e.types c.argument.new.types c.add.new.types c.args.here.now c.args.out.now c.loop-e.out c.argument.new.out c.args.printed c.loop-e.skips (exprs_of c.args.arguments.now) (exprs (map expr_of (drop i items))) (expr_of c.e-item.result) (exprs (map expr_of (drop (i + 1) items)))
          c.loop-e.invariant.1 (ap (λ (l : List Expr). exprs (map expr_of l)) left) c.in_ok-j.ensures.emits (record { grows = c.in_ok-j.ensures.grows; tags = c.in_ok-j.ensures.tags }) (record { grows = c.in_ok-add.ensures.grows; tags = c.in_ok-add.ensures.tags }),
    )

pub given-returns-clause-judged : goal.given-returns-clause-judged
given-returns-clause-judged t c = λ s fits.
    let items = (out-Exprs c.args.arguments.now).items.items in
    let past : length items ≤ c.loop-e.e-index = subst (λ (l : List Expr). length l ≤ c.loop-e.e-index) c.deref-e-items.ensures.value c.loop-e-test.false in
    done c.args.types.now c.loop-e.types c.args.here.now.declared c.loop-e.collected items c.loop-e.e-index (exprs_of c.args.arguments.now) c.judged.result s c.loop-e.invariant.0 past fits c.judged.ensures

pub given-returns-clause-emits : goal.given-returns-clause-emits
given-returns-clause-emits t c =
    let items = (out-Exprs c.args.arguments.now).items.items in
    let past : length items ≤ c.loop-e.e-index = subst (λ (l : List Expr). length l ≤ c.loop-e.e-index) c.deref-e-items.ensures.value c.loop-e-test.false in
    all_given c.args.types.now c.loop-e.types c.args.here.now c.args.out.now c.loop-e.out c.args.printed c.loop-e.skips (exprs_of c.args.arguments.now) (exprs (map expr_of (drop c.loop-e.e-index items))) c.loop-e.invariant.1 (none_left items c.loop-e.e-index past)

pub given-returns-clause-grows : goal.given-returns-clause-grows
given-returns-clause-grows t c = c.loop-e.invariant.0.grows

pub given-returns-clause-tags : goal.given-returns-clause-tags
given-returns-clause-tags t c = c.loop-e.invariant.0.tags

pub call-given-requires : goal.call-given-requires
call-given-requires t c =
    let f : Onward c.args.types.now c.callee.new.types = record { grows = c.in_ok-what.ensures.grows; tags = c.in_ok-what.ensures.tags } in
    (first_of (search (rules, the_lemmas), grind (the_lemmas, arith, common_steps), grind (the_lemmas, arith, elements)), some_on c.args.here.now.declared f c.requires)

pub call-after_call-requires : goal.call-after_call-requires
call-after_call-requires t c =
    let s = c.requires.0 in
    let fits = c.requires.1.fits in
    let e = expr_of c.args.f.now in
    let es = exprs_of c.args.arguments.now in
    let k = callee_of s c.args.at e (judged s e) in
    let f : Onward c.args.types.now c.callee.new.types = record { grows = c.in_ok-what.ensures.grows; tags = c.in_ok-what.ensures.tags } in
    let g : Onward c.callee.new.types c.given.new.types = record { grows = c.in_ok-all.ensures.grows; tags = c.in_ok-all.ensures.tags } in
    (k, callee_kept c.callee.new.types c.given.new.types c.in_ok-what.what k g.grows (c.in_ok-what.ensures.judged s fits))

pub call-ending-requires : goal.call-ending-requires
call-ending-requires t c =
    let s = c.requires.0 in
    let fits = c.requires.1.fits in
    let e = expr_of c.args.f.now in
    let es = exprs_of c.args.arguments.now in
    let k = callee_of s c.args.at e (judged s e) in
    let f : Onward c.args.types.now c.callee.new.types = record { grows = c.in_ok-what.ensures.grows; tags = c.in_ok-what.ensures.tags } in
    let g : Onward c.callee.new.types c.given.new.types = record { grows = c.in_ok-all.ensures.grows; tags = c.in_ok-all.ensures.tags } in
    let m : Onward c.given.new.types c.after_call.new.types = record { grows = c.in_ok-j.ensures.grows; tags = c.in_ok-j.ensures.tags } in
    (k, callee_kept c.callee.new.types c.after_call.new.types c.in_ok-what.what k (then_on g m).grows (c.in_ok-what.ensures.judged s fits))

pub call-returns-clause-judged : goal.call-returns-clause-judged
call-returns-clause-judged t c = λ s fits.
    let e = expr_of c.args.f.now in
    let es = exprs_of c.args.arguments.now in
    let k = callee_of s c.args.at e (judged s e) in
    let f : Onward c.args.types.now c.callee.new.types = record { grows = c.in_ok-what.ensures.grows; tags = c.in_ok-what.ensures.tags } in
    let g : Onward c.callee.new.types c.given.new.types = record { grows = c.in_ok-all.ensures.grows; tags = c.in_ok-all.ensures.tags } in
    let m : Onward c.given.new.types c.after_call.new.types = record { grows = c.in_ok-j.ensures.grows; tags = c.in_ok-j.ensures.tags } in
    let n : Onward c.after_call.new.types c.ending.new.types = record { grows = c.in_ok-ending.ensures.grows; tags = c.in_ok-ending.ensures.tags } in
    judged_on c.in_ok-j.j (judged s (tree.Call c.args.at e es)) n
    (subst (λ (o : Option (List ℕ)). IsJudged (IsOperand c.after_call.new.types) c.in_ok-j.j (joined k (all_judged s es) (λ x xs. operands.call_operand c.args.at x o xs)))
    c.format_of.ensures (c.in_ok-j.ensures.judged k (all_judged s es) (callee_kept c.callee.new.types c.given.new.types c.in_ok-what.what k g.grows (c.in_ok-what.ensures.judged s fits)) (c.in_ok-all.ensures.judged s (fits_on f fits))))

pub call-returns-clause-emits : goal.call-returns-clause-emits
call-returns-clause-emits t c = λ site env is fit.
    let s = env.scope in
    let fits = is.holds.fits in
    let e = expr_of c.args.f.now in
    let es = exprs_of c.args.arguments.now in
    let k = callee_of s c.args.at e (judged s e) in
    let f : Onward c.args.types.now c.callee.new.types = record { grows = c.in_ok-what.ensures.grows; tags = c.in_ok-what.ensures.tags } in
    let g : Onward c.callee.new.types c.given.new.types = record { grows = c.in_ok-all.ensures.grows; tags = c.in_ok-all.ensures.tags } in
    let m : Onward c.given.new.types c.after_call.new.types = record { grows = c.in_ok-j.ensures.grows; tags = c.in_ok-j.ensures.tags } in
    let first = c.in_ok-what.ensures.emits site env is fit.0 in
    let behind = here_on f first is in
    let second : Emits c.callee.new.out c.given.new.out (given_code (names_printf s e) es site (past e env)) (given_literals (names_printf s e) s es) =
    subst (λ (b : Bool). Emits c.callee.new.out c.given.new.out (given_code b es site (past e env)) (given_literals b s es)) (c.is_printf_name-printed.ensures s behind.holds.fits) (c.in_ok-all.ensures.emits site (past e env) behind fit.1) in
    let third = c.in_ok-ending.ensures.emits s k (fits_on (then_on f (then_on g m)) fits) (callee_kept c.callee.new.types c.after_call.new.types c.in_ok-what.what k (then_on g m).grows (c.in_ok-what.ensures.judged s fits)) (parameters_are s c.args.at e) in
    subst (λ l. Emits c.args.out.now c.ending.new.out l (literals_in s (tree.Call c.args.at e es))) (call_is c.args.at e es site env) (both first (later second third))

pub value-returns-in-Unary-clause-emits : goal.value-returns-in-Unary-clause-emits
value-returns-in-Unary-clause-emits t c =
    let e = c.args.e.now in
    subst (λ (f : Form). EmitsValue c.args.types.now c.args.here.now c.args.out.now c.unary.new.out c.unary.result (form_of f e.pos)) (sym c.in-Unary.is)
    (subst (λ (x : Expr). EmitsValue c.args.types.now c.args.here.now c.args.out.now c.unary.new.out c.unary.result (tree.Unary e.pos c.in-Unary.op (expr_of x))) c.deref.ensures
    c.unary.ensures.emits)

pub value-returns-in-Unary-clause-judged : goal.value-returns-in-Unary-clause-judged
value-returns-in-Unary-clause-judged t c =
    let e = c.args.e.now in
    subst (λ (f : Form). JudgesAs c.args.types.now c.args.here.now.declared c.unary.new.types c.unary.result (form_of f e.pos)) (sym c.in-Unary.is)
    (subst (λ (x : Expr). JudgesAs c.args.types.now c.args.here.now.declared c.unary.new.types c.unary.result (tree.Unary e.pos c.in-Unary.op (expr_of x))) c.deref.ensures
    c.unary.ensures.judged)

pub value-returns-in-Step-clause-emits : goal.value-returns-in-Step-clause-emits
value-returns-in-Step-clause-emits t c =
    let e = c.args.e.now in
    subst (λ (f : Form). EmitsValue c.args.types.now c.args.here.now c.args.out.now c.step.new.out c.step.result (form_of f e.pos)) (sym c.in-Step.is)
    (subst (λ (x : Expr). EmitsValue c.args.types.now c.args.here.now c.args.out.now c.step.new.out c.step.result (tree.Step e.pos c.in-Step.op (expr_of x))) c.deref-in-Step.ensures
    c.step.ensures.emits)

pub value-returns-in-Step-clause-judged : goal.value-returns-in-Step-clause-judged
value-returns-in-Step-clause-judged t c =
    let e = c.args.e.now in
    subst (λ (f : Form). JudgesAs c.args.types.now c.args.here.now.declared c.step.new.types c.step.result (form_of f e.pos)) (sym c.in-Step.is)
    (subst (λ (x : Expr). JudgesAs c.args.types.now c.args.here.now.declared c.step.new.types c.step.result (tree.Step e.pos c.in-Step.op (expr_of x))) c.deref-in-Step.ensures
    c.step.ensures.judged)

pub value-returns-in-Binary-clause-emits : goal.value-returns-in-Binary-clause-emits
value-returns-in-Binary-clause-emits t c =
    let e = c.args.e.now in
    subst (λ (f : Form). EmitsValue c.args.types.now c.args.here.now c.args.out.now c.binary.new.out c.binary.result (form_of f e.pos)) (sym c.in-Binary.is)
    (subst (λ (x : Expr). EmitsValue c.args.types.now c.args.here.now c.args.out.now c.binary.new.out c.binary.result (tree.Binary e.pos c.in-Binary.op (expr_of c.in-Binary.a.value) (expr_of x))) c.deref-in-Binary-2.ensures
    (subst (λ (x : Expr). EmitsValue c.args.types.now c.args.here.now c.args.out.now c.binary.new.out c.binary.result (tree.Binary e.pos c.in-Binary.op (expr_of x) (expr_of c.deref-in-Binary-2.result.now))) c.deref-in-Binary.ensures
    c.binary.ensures.emits))

pub value-returns-in-Binary-clause-judged : goal.value-returns-in-Binary-clause-judged
value-returns-in-Binary-clause-judged t c =
    let e = c.args.e.now in
    subst (λ (f : Form). JudgesAs c.args.types.now c.args.here.now.declared c.binary.new.types c.binary.result (form_of f e.pos)) (sym c.in-Binary.is)
    (subst (λ (x : Expr). JudgesAs c.args.types.now c.args.here.now.declared c.binary.new.types c.binary.result (tree.Binary e.pos c.in-Binary.op (expr_of c.in-Binary.a.value) (expr_of x))) c.deref-in-Binary-2.ensures
    (subst (λ (x : Expr). JudgesAs c.args.types.now c.args.here.now.declared c.binary.new.types c.binary.result (tree.Binary e.pos c.in-Binary.op (expr_of x) (expr_of c.deref-in-Binary-2.result.now))) c.deref-in-Binary.ensures
    c.binary.ensures.judged))

pub value-returns-in-Assign-clause-emits : goal.value-returns-in-Assign-clause-emits
value-returns-in-Assign-clause-emits t c =
    let e = c.args.e.now in
    subst (λ (f : Form). EmitsValue c.args.types.now c.args.here.now c.args.out.now c.assignment.new.out c.assignment.result (form_of f e.pos)) (sym c.in-Assign.is)
    (subst (λ (x : Expr). EmitsValue c.args.types.now c.args.here.now c.args.out.now c.assignment.new.out c.assignment.result (tree.Assign e.pos c.in-Assign.op (expr_of c.in-Assign.a.value) (expr_of x))) c.deref-in-Assign-2.ensures
    (subst (λ (x : Expr). EmitsValue c.args.types.now c.args.here.now c.args.out.now c.assignment.new.out c.assignment.result (tree.Assign e.pos c.in-Assign.op (expr_of x) (expr_of c.deref-in-Assign-2.result.now))) c.deref-in-Assign.ensures
    c.assignment.ensures.emits))

pub value-returns-in-Assign-clause-judged : goal.value-returns-in-Assign-clause-judged
value-returns-in-Assign-clause-judged t c =
    let e = c.args.e.now in
    subst (λ (f : Form). JudgesAs c.args.types.now c.args.here.now.declared c.assignment.new.types c.assignment.result (form_of f e.pos)) (sym c.in-Assign.is)
    (subst (λ (x : Expr). JudgesAs c.args.types.now c.args.here.now.declared c.assignment.new.types c.assignment.result (tree.Assign e.pos c.in-Assign.op (expr_of c.in-Assign.a.value) (expr_of x))) c.deref-in-Assign-2.ensures
    (subst (λ (x : Expr). JudgesAs c.args.types.now c.args.here.now.declared c.assignment.new.types c.assignment.result (tree.Assign e.pos c.in-Assign.op (expr_of x) (expr_of c.deref-in-Assign-2.result.now))) c.deref-in-Assign.ensures
    c.assignment.ensures.judged))

pub value-returns-in-Cond-clause-emits : goal.value-returns-in-Cond-clause-emits
value-returns-in-Cond-clause-emits t c =
    let e = c.args.e.now in
    subst (λ (f : Form). EmitsValue c.args.types.now c.args.here.now c.args.out.now c.choice.new.out c.choice.result (form_of f e.pos)) (sym c.in-Cond.is)
    (subst (λ (x : Expr). EmitsValue c.args.types.now c.args.here.now c.args.out.now c.choice.new.out c.choice.result (tree.Cond e.pos (expr_of c.in-Cond.a.value) (expr_of c.in-Cond.b.value) (expr_of x))) c.deref-in-Cond-3.ensures
    (subst (λ (x : Expr). EmitsValue c.args.types.now c.args.here.now c.args.out.now c.choice.new.out c.choice.result (tree.Cond e.pos (expr_of c.in-Cond.a.value) (expr_of x) (expr_of c.deref-in-Cond-3.result.now))) c.deref-in-Cond-2.ensures
    (subst (λ (x : Expr). EmitsValue c.args.types.now c.args.here.now c.args.out.now c.choice.new.out c.choice.result (tree.Cond e.pos (expr_of x) (expr_of c.deref-in-Cond-2.result.now) (expr_of c.deref-in-Cond-3.result.now))) c.deref-in-Cond.ensures
    c.choice.ensures.emits)))

pub value-returns-in-Cond-clause-judged : goal.value-returns-in-Cond-clause-judged
value-returns-in-Cond-clause-judged t c =
    let e = c.args.e.now in
    subst (λ (f : Form). JudgesAs c.args.types.now c.args.here.now.declared c.choice.new.types c.choice.result (form_of f e.pos)) (sym c.in-Cond.is)
    (subst (λ (x : Expr). JudgesAs c.args.types.now c.args.here.now.declared c.choice.new.types c.choice.result (tree.Cond e.pos (expr_of c.in-Cond.a.value) (expr_of c.in-Cond.b.value) (expr_of x))) c.deref-in-Cond-3.ensures
    (subst (λ (x : Expr). JudgesAs c.args.types.now c.args.here.now.declared c.choice.new.types c.choice.result (tree.Cond e.pos (expr_of c.in-Cond.a.value) (expr_of x) (expr_of c.deref-in-Cond-3.result.now))) c.deref-in-Cond-2.ensures
    (subst (λ (x : Expr). JudgesAs c.args.types.now c.args.here.now.declared c.choice.new.types c.choice.result (tree.Cond e.pos (expr_of x) (expr_of c.deref-in-Cond-2.result.now) (expr_of c.deref-in-Cond-3.result.now))) c.deref-in-Cond.ensures
    c.choice.ensures.judged)))

pub value-returns-in-Comma-clause-emits : goal.value-returns-in-Comma-clause-emits
value-returns-in-Comma-clause-emits t c =
    let e = c.args.e.now in
    subst (λ (f : Form). EmitsValue c.args.types.now c.args.here.now c.args.out.now c.comma.new.out c.comma.result (form_of f e.pos)) (sym c.in-Comma.is)
    (subst (λ (x : Expr). EmitsValue c.args.types.now c.args.here.now c.args.out.now c.comma.new.out c.comma.result (tree.Comma e.pos (expr_of c.in-Comma.a.value) (expr_of x))) c.deref-in-Comma-2.ensures
    (subst (λ (x : Expr). EmitsValue c.args.types.now c.args.here.now c.args.out.now c.comma.new.out c.comma.result (tree.Comma e.pos (expr_of x) (expr_of c.deref-in-Comma-2.result.now))) c.deref-in-Comma.ensures
    c.comma.ensures.emits))

pub value-returns-in-Comma-clause-judged : goal.value-returns-in-Comma-clause-judged
value-returns-in-Comma-clause-judged t c =
    let e = c.args.e.now in
    subst (λ (f : Form). JudgesAs c.args.types.now c.args.here.now.declared c.comma.new.types c.comma.result (form_of f e.pos)) (sym c.in-Comma.is)
    (subst (λ (x : Expr). JudgesAs c.args.types.now c.args.here.now.declared c.comma.new.types c.comma.result (tree.Comma e.pos (expr_of c.in-Comma.a.value) (expr_of x))) c.deref-in-Comma-2.ensures
    (subst (λ (x : Expr). JudgesAs c.args.types.now c.args.here.now.declared c.comma.new.types c.comma.result (tree.Comma e.pos (expr_of x) (expr_of c.deref-in-Comma-2.result.now))) c.deref-in-Comma.ensures
    c.comma.ensures.judged))

pub value-returns-in-Cast-clause-emits : goal.value-returns-in-Cast-clause-emits
value-returns-in-Cast-clause-emits t c =
    let e = c.args.e.now in
    subst (λ (f : Form). EmitsValue c.args.types.now c.args.here.now c.args.out.now c.cast_value.new.out c.cast_value.result (form_of f e.pos)) (sym c.in-Cast.is)
    (subst (λ (x : Expr). EmitsValue c.args.types.now c.args.here.now c.args.out.now c.cast_value.new.out c.cast_value.result (tree.Cast e.pos (ty_of c.in-Cast.t.value) (expr_of x))) c.deref-in-Cast-2.ensures
    (subst (λ (x : Ty). EmitsValue c.args.types.now c.args.here.now c.args.out.now c.cast_value.new.out c.cast_value.result (tree.Cast e.pos (ty_of x) (expr_of c.deref-in-Cast-2.result.now))) c.deref-in-Cast.ensures
    c.cast_value.ensures.emits))

pub value-returns-in-Cast-clause-judged : goal.value-returns-in-Cast-clause-judged
value-returns-in-Cast-clause-judged t c =
    let e = c.args.e.now in
    subst (λ (f : Form). JudgesAs c.args.types.now c.args.here.now.declared c.cast_value.new.types c.cast_value.result (form_of f e.pos)) (sym c.in-Cast.is)
    (subst (λ (x : Expr). JudgesAs c.args.types.now c.args.here.now.declared c.cast_value.new.types c.cast_value.result (tree.Cast e.pos (ty_of c.in-Cast.t.value) (expr_of x))) c.deref-in-Cast-2.ensures
    (subst (λ (x : Ty). JudgesAs c.args.types.now c.args.here.now.declared c.cast_value.new.types c.cast_value.result (tree.Cast e.pos (ty_of x) (expr_of c.deref-in-Cast-2.result.now))) c.deref-in-Cast.ensures
    c.cast_value.ensures.judged))

pub value-returns-in-Call-clause-emits : goal.value-returns-in-Call-clause-emits
value-returns-in-Call-clause-emits t c =
    let e = c.args.e.now in
    subst (λ (f : Form). EmitsValue c.args.types.now c.args.here.now c.args.out.now c.call.new.out c.call.result (form_of f e.pos)) (sym c.in-Call.is)
    (subst (λ (x : Expr). EmitsValue c.args.types.now c.args.here.now c.args.out.now c.call.new.out c.call.result (tree.Call e.pos (expr_of x) (exprs_of c.in-Call.arguments))) c.deref-in-Call.ensures
    c.call.ensures.emits)

pub value-returns-in-Call-clause-judged : goal.value-returns-in-Call-clause-judged
value-returns-in-Call-clause-judged t c =
    let e = c.args.e.now in
    subst (λ (f : Form). JudgesAs c.args.types.now c.args.here.now.declared c.call.new.types c.call.result (form_of f e.pos)) (sym c.in-Call.is)
    (subst (λ (x : Expr). JudgesAs c.args.types.now c.args.here.now.declared c.call.new.types c.call.result (tree.Call e.pos (expr_of x) (exprs_of c.in-Call.arguments))) c.deref-in-Call.ensures
    c.call.ensures.judged)

pub value-returns-in_ok-fetched-in-Index-clause-emits : goal.value-returns-in_ok-fetched-in-Index-clause-emits
value-returns-in_ok-fetched-in-Index-clause-emits t c =
    let e = c.args.e.now in
    subst (λ (f : Form). ValueEmitted c.args.types.now c.args.here.now c.args.out.now c.fetched.new.out (form_of f e.pos)) (sym c.in-Index.is)
    (subst (λ (x : Expr). ValueEmitted c.args.types.now c.args.here.now c.args.out.now c.fetched.new.out (tree.Index e.pos (expr_of c.in-Index.a.value) (expr_of x))) c.deref-in-Index-2.ensures
    (subst (λ (x : Expr). ValueEmitted c.args.types.now c.args.here.now c.args.out.now c.fetched.new.out (tree.Index e.pos (expr_of x) (expr_of c.deref-in-Index-2.result.now))) c.deref-in-Index.ensures
    (λ site env is fit. later (c.in_ok-j-in-Index.ensures.emits site env is fit) (c.in_ok-fetched-in-Index.ensures.emits (judged env.scope (tree.Index e.pos (expr_of c.deref-in-Index.result.now) (expr_of c.deref-in-Index-2.result.now))) (c.in_ok-j-in-Index.ensures.judged env.scope is.holds.fits)))))

pub value-returns-in_ok-fetched-in-Index-clause-judged : goal.value-returns-in_ok-fetched-in-Index-clause-judged
value-returns-in_ok-fetched-in-Index-clause-judged t c =
    let e = c.args.e.now in
    subst (λ (f : Form). JudgedAs c.args.types.now c.args.here.now.declared c.fetched.new.types c.in_ok-j-in-Index.j (form_of f e.pos)) (sym c.in-Index.is)
    (subst (λ (x : Expr). JudgedAs c.args.types.now c.args.here.now.declared c.fetched.new.types c.in_ok-j-in-Index.j (tree.Index e.pos (expr_of c.in-Index.a.value) (expr_of x))) c.deref-in-Index-2.ensures
    (subst (λ (x : Expr). JudgedAs c.args.types.now c.args.here.now.declared c.fetched.new.types c.in_ok-j-in-Index.j (tree.Index e.pos (expr_of x) (expr_of c.deref-in-Index-2.result.now))) c.deref-in-Index.ensures
    (λ s fits. let m : Onward c.operation.new.types c.fetched.new.types = record { grows = c.in_ok-fetched-in-Index.ensures.grows; tags = c.in_ok-fetched-in-Index.ensures.tags } in judged_on c.in_ok-j-in-Index.j (judged s (tree.Index e.pos (expr_of c.deref-in-Index.result.now) (expr_of c.deref-in-Index-2.result.now))) m (c.in_ok-j-in-Index.ensures.judged s fits))))

pub value-fetched-requires : goal.value-fetched-requires
value-fetched-requires t c = let s = c.requires.0 in let e = c.args.e.now in (judged s (tree.Index e.pos (expr_of c.deref-in-Index.result.now) (expr_of c.deref-in-Index-2.result.now)), c.in_ok-j-in-Index.ensures.judged s c.requires.1.fits)

pub value-returns-in_ok-fetched-in-Member-clause-emits : goal.value-returns-in_ok-fetched-in-Member-clause-emits
value-returns-in_ok-fetched-in-Member-clause-emits t c =
    let e = c.args.e.now in
    subst (λ (f : Form). ValueEmitted c.args.types.now c.args.here.now c.args.out.now c.fetched-in-Member.new.out (form_of f e.pos)) (sym c.in-Member.is)
    (subst (λ (x : List ℕ). ValueEmitted c.args.types.now c.args.here.now c.args.out.now c.fetched-in-Member.new.out (tree.Member e.pos (expr_of c.in-Member.a.value) x)) c.as_bytes-in-Member.ensures
    (subst (λ (x : Expr). ValueEmitted c.args.types.now c.args.here.now c.args.out.now c.fetched-in-Member.new.out (tree.Member e.pos (expr_of x) c.as_bytes-in-Member.result.now)) c.deref-in-Member.ensures
    (λ site env is fit. later (c.in_ok-j-in-Member.ensures.emits site env is fit) (c.in_ok-fetched-in-Member.ensures.emits (judged env.scope (tree.Member e.pos (expr_of c.deref-in-Member.result.now) c.as_bytes-in-Member.result.now)) (c.in_ok-j-in-Member.ensures.judged env.scope is.holds.fits)))))

pub value-returns-in_ok-fetched-in-Member-clause-judged : goal.value-returns-in_ok-fetched-in-Member-clause-judged
value-returns-in_ok-fetched-in-Member-clause-judged t c =
    let e = c.args.e.now in
    subst (λ (f : Form). JudgedAs c.args.types.now c.args.here.now.declared c.fetched-in-Member.new.types c.in_ok-j-in-Member.j (form_of f e.pos)) (sym c.in-Member.is)
    (subst (λ (x : List ℕ). JudgedAs c.args.types.now c.args.here.now.declared c.fetched-in-Member.new.types c.in_ok-j-in-Member.j (tree.Member e.pos (expr_of c.in-Member.a.value) x)) c.as_bytes-in-Member.ensures
    (subst (λ (x : Expr). JudgedAs c.args.types.now c.args.here.now.declared c.fetched-in-Member.new.types c.in_ok-j-in-Member.j (tree.Member e.pos (expr_of x) c.as_bytes-in-Member.result.now)) c.deref-in-Member.ensures
    (λ s fits. let m : Onward c.member.new.types c.fetched-in-Member.new.types = record { grows = c.in_ok-fetched-in-Member.ensures.grows; tags = c.in_ok-fetched-in-Member.ensures.tags } in judged_on c.in_ok-j-in-Member.j (judged s (tree.Member e.pos (expr_of c.deref-in-Member.result.now) c.as_bytes-in-Member.result.now)) m (c.in_ok-j-in-Member.ensures.judged s fits))))

pub value-fetched-requires-in-Member : goal.value-fetched-requires-in-Member
value-fetched-requires-in-Member t c = let s = c.requires.0 in let e = c.args.e.now in (judged s (tree.Member e.pos (expr_of c.deref-in-Member.result.now) c.as_bytes-in-Member.result.now), c.in_ok-j-in-Member.ensures.judged s c.requires.1.fits)

pub value-returns-in_ok-fetched-in-Arrow-clause-emits : goal.value-returns-in_ok-fetched-in-Arrow-clause-emits
value-returns-in_ok-fetched-in-Arrow-clause-emits t c =
    let e = c.args.e.now in
    subst (λ (f : Form). ValueEmitted c.args.types.now c.args.here.now c.args.out.now c.fetched-in-Arrow.new.out (form_of f e.pos)) (sym c.in-Arrow.is)
    (subst (λ (x : List ℕ). ValueEmitted c.args.types.now c.args.here.now c.args.out.now c.fetched-in-Arrow.new.out (tree.Arrow e.pos (expr_of c.in-Arrow.a.value) x)) c.as_bytes-in-Arrow.ensures
    (subst (λ (x : Expr). ValueEmitted c.args.types.now c.args.here.now c.args.out.now c.fetched-in-Arrow.new.out (tree.Arrow e.pos (expr_of x) c.as_bytes-in-Arrow.result.now)) c.deref-in-Arrow.ensures
    (λ site env is fit. later (c.in_ok-j-in-Arrow.ensures.emits site env is fit) (c.in_ok-fetched-in-Arrow.ensures.emits (judged env.scope (tree.Arrow e.pos (expr_of c.deref-in-Arrow.result.now) c.as_bytes-in-Arrow.result.now)) (c.in_ok-j-in-Arrow.ensures.judged env.scope is.holds.fits)))))

pub value-returns-in_ok-fetched-in-Arrow-clause-judged : goal.value-returns-in_ok-fetched-in-Arrow-clause-judged
value-returns-in_ok-fetched-in-Arrow-clause-judged t c =
    let e = c.args.e.now in
    subst (λ (f : Form). JudgedAs c.args.types.now c.args.here.now.declared c.fetched-in-Arrow.new.types c.in_ok-j-in-Arrow.j (form_of f e.pos)) (sym c.in-Arrow.is)
    (subst (λ (x : List ℕ). JudgedAs c.args.types.now c.args.here.now.declared c.fetched-in-Arrow.new.types c.in_ok-j-in-Arrow.j (tree.Arrow e.pos (expr_of c.in-Arrow.a.value) x)) c.as_bytes-in-Arrow.ensures
    (subst (λ (x : Expr). JudgedAs c.args.types.now c.args.here.now.declared c.fetched-in-Arrow.new.types c.in_ok-j-in-Arrow.j (tree.Arrow e.pos (expr_of x) c.as_bytes-in-Arrow.result.now)) c.deref-in-Arrow.ensures
    (λ s fits. let m : Onward c.arrow.new.types c.fetched-in-Arrow.new.types = record { grows = c.in_ok-fetched-in-Arrow.ensures.grows; tags = c.in_ok-fetched-in-Arrow.ensures.tags } in judged_on c.in_ok-j-in-Arrow.j (judged s (tree.Arrow e.pos (expr_of c.deref-in-Arrow.result.now) c.as_bytes-in-Arrow.result.now)) m (c.in_ok-j-in-Arrow.ensures.judged s fits))))

pub value-fetched-requires-in-Arrow : goal.value-fetched-requires-in-Arrow
value-fetched-requires-in-Arrow t c = let s = c.requires.0 in let e = c.args.e.now in (judged s (tree.Arrow e.pos (expr_of c.deref-in-Arrow.result.now) c.as_bytes-in-Arrow.result.now), c.in_ok-j-in-Arrow.ensures.judged s c.requires.1.fits)

pub value-returns-in_ok-word-in-Number-clause-emits : goal.value-returns-in_ok-word-in-Number-clause-emits
value-returns-in_ok-word-in-Number-clause-emits t c =
    let e = c.args.e.now in
    subst (λ (f : Form). EmitsValue c.args.types.now c.args.here.now c.args.out.now c.word.new.out c.judge.result (form_of f e.pos)) (sym c.in-Number.is)
    (λ site env is fit. always c.judge.result (subst (λ (k : ℕ). Emits c.args.out.now c.word.new.out (code.Push (run.Word k) ∷ []) []) (c.wrap.ensures ∙ ap (λ (k : ℕ). k % 2 ^ 24) c.from.ensures) c.in_ok-word-in-Number.ensures))

pub value-returns-in_ok-letter-in-Str-clause-emits : goal.value-returns-in_ok-letter-in-Str-clause-emits
value-returns-in_ok-letter-in-Str-clause-emits t c =
    let e = c.args.e.now in
    subst (λ (f : Form). EmitsValue c.args.types.now c.args.here.now c.args.out.now c.letter.new.self c.judge-in-Str.result (form_of f e.pos)) (sym c.in-Str.is)
    (subst (λ (x : List ℕ). EmitsValue c.args.types.now c.args.here.now c.args.out.now c.letter.new.self c.judge-in-Str.result (tree.Str e.pos x)) c.as_bytes.ensures
    (λ site env is fit. always c.judge-in-Str.result (subst (λ (n : ℕ). Emits c.args.out.now c.letter.new.self (code.Push (run.Letter site.owner n c.as_bytes.result.now 0) ∷ []) (c.as_bytes.result.now ∷ [])) is.before (c.in_ok-letter-in-Str.ensures site.owner is.owner))))

pub value-returns-in_ok-null-in-Null-clause-emits : goal.value-returns-in_ok-null-in-Null-clause-emits
value-returns-in_ok-null-in-Null-clause-emits t c =
    let e = c.args.e.now in
    subst (λ (f : Form). EmitsValue c.args.types.now c.args.here.now c.args.out.now c.null.new.self c.judge-in-Null.result (form_of f e.pos)) (sym c.in-Null.is)
    (λ site env is fit. always c.judge-in-Null.result c.in_ok-null-in-Null.ensures)

pub value-returns-in_ok-named_value-in-Name-clause-emits : goal.value-returns-in_ok-named_value-in-Name-clause-emits
value-returns-in_ok-named_value-in-Name-clause-emits t c =
    let e = c.args.e.now in
    subst (λ (f : Form). EmitsValue c.args.types.now c.args.here.now c.args.out.now c.named_value.new.out c.judge-in-Name.result (form_of f e.pos)) (sym c.in-Name.is)
    (subst (λ (x : List ℕ). EmitsValue c.args.types.now c.args.here.now c.args.out.now c.named_value.new.out c.judge-in-Name.result (tree.Var e.pos x)) c.as_bytes-in-Name.ensures
    (λ site env is fit. always c.judge-in-Name.result (c.in_ok-named_value-in-Name.ensures site env is)))

pub value-returns-in-SizeTy-clause-emits : goal.value-returns-in-SizeTy-clause-emits
value-returns-in-SizeTy-clause-emits t c = λ site env is fit.
    let e = c.args.e.now in
    subst (λ (f : Form). OnOk c.size.result (Emits c.args.out.now c.size.new.out (code.Push (run.Word (constant_in env.scope (form_of f e.pos))) ∷ []) []) → OnOk c.size.result (Emits c.args.out.now c.size.new.out (value_code (form_of f e.pos) site env) (literals_in env.scope (form_of f e.pos)))) (sym c.in-SizeTy.is) (λ h. h) (c.size.ensures.emits env.scope is.holds.fits)

pub value-returns-in-SizeOf-clause-emits : goal.value-returns-in-SizeOf-clause-emits
value-returns-in-SizeOf-clause-emits t c = λ site env is fit.
    let e = c.args.e.now in
    subst (λ (f : Form). OnOk c.size-in-SizeOf.result (Emits c.args.out.now c.size-in-SizeOf.new.out (code.Push (run.Word (constant_in env.scope (form_of f e.pos))) ∷ []) []) → OnOk c.size-in-SizeOf.result (Emits c.args.out.now c.size-in-SizeOf.new.out (value_code (form_of f e.pos) site env) (literals_in env.scope (form_of f e.pos)))) (sym c.in-SizeOf.is) (λ h. h) (c.size-in-SizeOf.ensures.emits env.scope is.holds.fits)

pub value-judge-requires : goal.value-judge-requires
value-judge-requires t c = some_fits c.args.types.now c.args.here.now.declared c.requires

pub value-judge-requires-in-Str : goal.value-judge-requires-in-Str
value-judge-requires-in-Str t c = some_fits c.args.types.now c.args.here.now.declared c.requires

pub value-judge-requires-in-Null : goal.value-judge-requires-in-Null
value-judge-requires-in-Null t c = some_fits c.args.types.now c.args.here.now.declared c.requires

pub value-judge-requires-in-Name : goal.value-judge-requires-in-Name
value-judge-requires-in-Name t c = some_fits c.args.types.now c.args.here.now.declared c.requires

pub value-size-requires : goal.value-size-requires
value-size-requires t c = some_fits c.args.types.now c.args.here.now.declared c.requires

pub value-size-requires-in-SizeOf : goal.value-size-requires-in-SizeOf
value-size-requires-in-SizeOf t c = some_fits c.args.types.now c.args.here.now.declared c.requires

pub place-returns-in_ok-letter-in-Str-clause-emits : goal.place-returns-in_ok-letter-in-Str-clause-emits
place-returns-in_ok-letter-in-Str-clause-emits t c =
    let e = c.args.e.now in
    subst (λ (f : Form). EmitsPlace c.args.types.now c.args.here.now c.args.out.now c.letter.new.self c.judge.result (form_of f e.pos)) (sym c.in-Str.is)
    (subst (λ (x : List ℕ). EmitsPlace c.args.types.now c.args.here.now c.args.out.now c.letter.new.self c.judge.result (tree.Str e.pos x)) c.as_bytes.ensures
    (λ site env is fit place. always c.judge.result (subst (λ (n : ℕ). Emits c.args.out.now c.letter.new.self (code.Push (run.Letter site.owner n c.as_bytes.result.now 0) ∷ []) (c.as_bytes.result.now ∷ [])) is.before (c.in_ok-letter-in-Str.ensures site.owner is.owner))))

pub place-returns-in_ok-named_place-in-Name-clause-emits : goal.place-returns-in_ok-named_place-in-Name-clause-emits
place-returns-in_ok-named_place-in-Name-clause-emits t c =
    let e = c.args.e.now in
    subst (λ (f : Form). EmitsPlace c.args.types.now c.args.here.now c.args.out.now c.named_place.new.out c.judge-in-Name.result (form_of f e.pos)) (sym c.in-Name.is)
    (subst (λ (x : List ℕ). EmitsPlace c.args.types.now c.args.here.now c.args.out.now c.named_place.new.out c.judge-in-Name.result (tree.Var e.pos x)) c.as_bytes-in-Name.ensures
    (λ site env is fit place. always c.judge-in-Name.result (c.in_ok-named_place-in-Name.ensures env.objects site.names is.slots is.files)))

pub place-returns-in-Unary-clause-emits : goal.place-returns-in-Unary-clause-emits
place-returns-in-Unary-clause-emits t c =
    let e = c.args.e.now in
    subst (λ (f : Form). EmitsPlace c.args.types.now c.args.here.now c.args.out.now c.pointed.new.out c.pointed.result (form_of f e.pos)) (sym c.in-Unary.is)
    (subst (λ (x : Expr). EmitsPlace c.args.types.now c.args.here.now c.args.out.now c.pointed.new.out c.pointed.result (tree.Unary e.pos c.in-Unary.op (expr_of x))) c.deref.ensures
    c.pointed.ensures.emits)

pub place-returns-in-Unary-clause-judged : goal.place-returns-in-Unary-clause-judged
place-returns-in-Unary-clause-judged t c =
    let e = c.args.e.now in
    subst (λ (f : Form). JudgesAs c.args.types.now c.args.here.now.declared c.pointed.new.types c.pointed.result (form_of f e.pos)) (sym c.in-Unary.is)
    (subst (λ (x : Expr). JudgesAs c.args.types.now c.args.here.now.declared c.pointed.new.types c.pointed.result (tree.Unary e.pos c.in-Unary.op (expr_of x))) c.deref.ensures
    c.pointed.ensures.judged)

pub place-returns-in-Index-clause-emits : goal.place-returns-in-Index-clause-emits
place-returns-in-Index-clause-emits t c =
    let e = c.args.e.now in
    subst (λ (f : Form). EmitsPlace c.args.types.now c.args.here.now c.args.out.now c.operation.new.out c.operation.result (form_of f e.pos)) (sym c.in-Index.is)
    (subst (λ (x : Expr). EmitsPlace c.args.types.now c.args.here.now c.args.out.now c.operation.new.out c.operation.result (tree.Index e.pos (expr_of c.in-Index.a.value) (expr_of x))) c.deref-in-Index-2.ensures
    (subst (λ (x : Expr). EmitsPlace c.args.types.now c.args.here.now c.args.out.now c.operation.new.out c.operation.result (tree.Index e.pos (expr_of x) (expr_of c.deref-in-Index-2.result.now))) c.deref-in-Index.ensures
    (λ site env is fit place. c.operation.ensures.emits site env is fit)))

pub place-returns-in-Index-clause-judged : goal.place-returns-in-Index-clause-judged
place-returns-in-Index-clause-judged t c =
    let e = c.args.e.now in
    subst (λ (f : Form). JudgesAs c.args.types.now c.args.here.now.declared c.operation.new.types c.operation.result (form_of f e.pos)) (sym c.in-Index.is)
    (subst (λ (x : Expr). JudgesAs c.args.types.now c.args.here.now.declared c.operation.new.types c.operation.result (tree.Index e.pos (expr_of c.in-Index.a.value) (expr_of x))) c.deref-in-Index-2.ensures
    (subst (λ (x : Expr). JudgesAs c.args.types.now c.args.here.now.declared c.operation.new.types c.operation.result (tree.Index e.pos (expr_of x) (expr_of c.deref-in-Index-2.result.now))) c.deref-in-Index.ensures
    c.operation.ensures.judged))

pub place-returns-in-Member-clause-emits : goal.place-returns-in-Member-clause-emits
place-returns-in-Member-clause-emits t c =
    let e = c.args.e.now in
    subst (λ (f : Form). EmitsPlace c.args.types.now c.args.here.now c.args.out.now c.member.new.out c.member.result (form_of f e.pos)) (sym c.in-Member.is)
    (subst (λ (x : List ℕ). EmitsPlace c.args.types.now c.args.here.now c.args.out.now c.member.new.out c.member.result (tree.Member e.pos (expr_of c.in-Member.a.value) x)) c.as_bytes-in-Member.ensures
    (subst (λ (x : Expr). EmitsPlace c.args.types.now c.args.here.now c.args.out.now c.member.new.out c.member.result (tree.Member e.pos (expr_of x) c.as_bytes-in-Member.result.now)) c.deref-in-Member.ensures
    (λ site env is fit place. c.member.ensures.emits site env is fit)))

pub place-returns-in-Member-clause-judged : goal.place-returns-in-Member-clause-judged
place-returns-in-Member-clause-judged t c =
    let e = c.args.e.now in
    subst (λ (f : Form). JudgesAs c.args.types.now c.args.here.now.declared c.member.new.types c.member.result (form_of f e.pos)) (sym c.in-Member.is)
    (subst (λ (x : List ℕ). JudgesAs c.args.types.now c.args.here.now.declared c.member.new.types c.member.result (tree.Member e.pos (expr_of c.in-Member.a.value) x)) c.as_bytes-in-Member.ensures
    (subst (λ (x : Expr). JudgesAs c.args.types.now c.args.here.now.declared c.member.new.types c.member.result (tree.Member e.pos (expr_of x) c.as_bytes-in-Member.result.now)) c.deref-in-Member.ensures
    c.member.ensures.judged))

pub place-returns-in-Arrow-clause-emits : goal.place-returns-in-Arrow-clause-emits
place-returns-in-Arrow-clause-emits t c =
    let e = c.args.e.now in
    subst (λ (f : Form). EmitsPlace c.args.types.now c.args.here.now c.args.out.now c.arrow.new.out c.arrow.result (form_of f e.pos)) (sym c.in-Arrow.is)
    (subst (λ (x : List ℕ). EmitsPlace c.args.types.now c.args.here.now c.args.out.now c.arrow.new.out c.arrow.result (tree.Arrow e.pos (expr_of c.in-Arrow.a.value) x)) c.as_bytes-in-Arrow.ensures
    (subst (λ (x : Expr). EmitsPlace c.args.types.now c.args.here.now c.args.out.now c.arrow.new.out c.arrow.result (tree.Arrow e.pos (expr_of x) c.as_bytes-in-Arrow.result.now)) c.deref-in-Arrow.ensures
    (λ site env is fit place. c.arrow.ensures.emits site env is fit)))

pub place-returns-in-Arrow-clause-judged : goal.place-returns-in-Arrow-clause-judged
place-returns-in-Arrow-clause-judged t c =
    let e = c.args.e.now in
    subst (λ (f : Form). JudgesAs c.args.types.now c.args.here.now.declared c.arrow.new.types c.arrow.result (form_of f e.pos)) (sym c.in-Arrow.is)
    (subst (λ (x : List ℕ). JudgesAs c.args.types.now c.args.here.now.declared c.arrow.new.types c.arrow.result (tree.Arrow e.pos (expr_of c.in-Arrow.a.value) x)) c.as_bytes-in-Arrow.ensures
    (subst (λ (x : Expr). JudgesAs c.args.types.now c.args.here.now.declared c.arrow.new.types c.arrow.result (tree.Arrow e.pos (expr_of x) c.as_bytes-in-Arrow.result.now)) c.deref-in-Arrow.ensures
    c.arrow.ensures.judged))

pub place-returns-in_ok-nowhere-in_default-clause-emits : goal.place-returns-in_ok-nowhere-in_default-clause-emits
place-returns-in_ok-nowhere-in_default-clause-emits t c = λ site env is fit place. absurd (no_place c.args.e.now.form c.args.e.now.pos c.in_default.not-Str c.in_default.not-Name c.in_default.not-Unary c.in_default.not-Index c.in_default.not-Member c.in_default.not-Arrow place)

pub place-judge-requires : goal.place-judge-requires
place-judge-requires t c = some_fits c.args.types.now c.args.here.now.declared c.requires

pub place-judge-requires-in-Name : goal.place-judge-requires-in-Name
place-judge-requires-in-Name t c = some_fits c.args.types.now c.args.here.now.declared c.requires

pub place-judge-requires-in_default : goal.place-judge-requires-in_default
place-judge-requires-in_default t c = some_fits c.args.types.now c.args.here.now.declared c.requires
