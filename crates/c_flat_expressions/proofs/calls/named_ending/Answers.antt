use Rattle.std.proofs.Common.{◌≡◌, ◌-◌, ℕ, List, [], ◌∷◌, refl, sym, ap, subst, ◌∙◌}
use Rattle.std.specs.Prelude.{OnOk, Option, Some}
use Rattle.c_syntax.specs.View.{exprs_of}
use Rattle.c_types.specs.Types.{decayed, NoType}
use Rattle.c_types.specs.Scope as scope
use Rattle.c_types.specs.Scope.{entity_of}
use Rattle.c_types.specs.Expressions.{format_of}
use Rattle.c_eval.specs.Environment.{named_callee, function_parameters, parameters_of}
use Rattle.c_code.specs.Code as code
use Rattle.c_code.specs.Code.{count_of, count_behind, known_code, print_code}
use Rattle.c_scopes.specs.declared.entity.Entity.{Entity}
use Rattle.c_operands.specs.Arguments.{HasList}
use Rattle.c_operands.specs.Scoped.{IsEntityOrNone}
use Rattle.c_operands.proofs.NameLemmas.{object_is, routine_is, built_in_is, printf_is, none_is}
use Rattle.c_emitted.specs.Emits.{Emits}
use Rattle.c_emitted.proofs.EmitLemmas.{on_ok, both}
use Rattle.c_here.proofs.NamedLemmas.{entity_found}
use Rattle.c_flat_expressions.specs.Parts.{ending_code, parameters_in}
use Rattle.c_flat_expressions.proofs.PartLemmas.{count_is, count_behind_is}
use Rattle.c_flat_expressions.proofs.calls.named_ending.Goals as goal

pub returns-in-Some-Routine : goal.returns-in-Some-Routine
returns-in-Some-Routine c = λ s fits list.
    let table = c.args.types.now in
    let name = c.args.name.now in
    let es = exprs_of c.args.arguments.now in
    let found = entity_found table c.args.declared.now s name fits in
    let is = c.in-Some-Routine.is ∙ ap (λ (e : Entity). Some e) c.in-Some-Routine.field-0-is in
    let k = routine_is table c.in-Some-Routine._ty c.in-Some-Routine._begun (entity_of s name) (subst (λ (o : Option Entity). IsEntityOrNone table o (entity_of s name)) (sym c.get.ensures ∙ is) found) in
    let count : c.len-count.result ≡ count_of es = c.len-count.ensures ∙ count_is c.args.arguments.now in
    subst (λ (o : Option scope.Entity). HasList table c.args.list (parameters_in (named_callee name o)) → OnOk c.direct.result (Emits c.args.out.now c.direct.new.out (ending_code (named_callee name o) (format_of es) (count_of es) (count_behind es)) [])) (sym k.1)
    (λ h. subst (λ (n : ℕ). OnOk c.direct.result (Emits c.args.out.now c.direct.new.out (code.Call name (function_parameters k.0) n ∷ []) [])) count (c.direct.ensures (function_parameters k.0) h)) list

pub returns-in_ok-add-in-Some-BuiltIn : goal.returns-in_ok-add-in-Some-BuiltIn
returns-in_ok-add-in-Some-BuiltIn c = λ s fits list.
    let table = c.args.types.now in
    let name = c.args.name.now in
    let es = exprs_of c.args.arguments.now in
    let found = entity_found table c.args.declared.now s name fits in
    let is = c.in-Some-BuiltIn.is ∙ ap (λ (e : Entity). Some e) c.in-Some-BuiltIn.field-0-is in
    let k = built_in_is table c.in-Some-BuiltIn._ty (entity_of s name) (subst (λ (o : Option Entity). IsEntityOrNone table o (entity_of s name)) (sym c.get.ensures ∙ is) found) in
    let count : c.len-count.result ≡ count_of es = c.len-count.ensures ∙ count_is c.args.arguments.now in
    subst (λ (o : Option scope.Entity). HasList table c.args.list (parameters_in (named_callee name o)) → OnOk c.known.result (Emits c.args.out.now c.known.new.out (ending_code (named_callee name o) (format_of es) (count_of es) (count_behind es)) [])) (sym k.1)
    (λ h. subst (λ (n : ℕ). OnOk c.known.result (Emits c.args.out.now c.known.new.out (code.Pay ∷ known_code name (function_parameters k.0) n) [])) count
    (on_ok c.known.result (both (c.in_ok-add-in-Some-BuiltIn.ensures code.Pay (record { means = λ names p e. refl }))) (c.known.ensures (function_parameters k.0) h))) list

pub returns-in_ok-add-in-Some-Printf : goal.returns-in_ok-add-in-Some-Printf
returns-in_ok-add-in-Some-Printf c = λ s fits list.
    let table = c.args.types.now in
    let name = c.args.name.now in
    let es = exprs_of c.args.arguments.now in
    let found = entity_found table c.args.declared.now s name fits in
    let is = c.in-Some-Printf.is ∙ ap (λ (e : Entity). Some e) c.in-Some-Printf.field-0-is in
    let k = printf_is table (entity_of s name) (subst (λ (o : Option Entity). IsEntityOrNone table o (entity_of s name)) (sym c.get.ensures ∙ is) found) in
    let count : c.saturating_sub.result ≡ count_behind es = c.saturating_sub.ensures ∙ (ap (λ (n : ℕ). n - 1) (c.len-count.ensures ∙ count_is c.args.arguments.now) ∙ count_behind_is es) in
    subst (λ (o : Option scope.Entity). OnOk c.print.result (Emits c.args.out.now c.print.new.out (ending_code (named_callee name o) (format_of es) (count_of es) (count_behind es)) [])) (sym k)
    (subst (λ (n : ℕ). OnOk c.print.result (Emits c.args.out.now c.print.new.out (code.Pay ∷ print_code (format_of es) n) [])) count
    (subst (λ (f : Option (List ℕ)). OnOk c.print.result (Emits c.args.out.now c.print.new.out (code.Pay ∷ print_code f c.saturating_sub.result) [])) c.format_of.ensures
    (on_ok c.print.result (both (c.in_ok-add-in-Some-Printf.ensures code.Pay (record { means = λ names p e. refl }))) c.print.ensures)))

pub returns-in-Some-Object : goal.returns-in-Some-Object
returns-in-Some-Object c = λ s fits list.
    let table = c.args.types.now in
    let name = c.args.name.now in
    let es = exprs_of c.args.arguments.now in
    let found = entity_found table c.args.declared.now s name fits in
    let is = c.in-Some-Object.is ∙ ap (λ (e : Entity). Some e) c.in-Some-Object.field-0-is in
    let k = object_is table c.in-Some-Object._ty (entity_of s name) (subst (λ (o : Option Entity). IsEntityOrNone table o (entity_of s name)) (sym c.get.ensures ∙ is) found) in
    let count : c.len-count.result ≡ count_of es = c.len-count.ensures ∙ count_is c.args.arguments.now in
    subst (λ (o : Option scope.Entity). HasList table c.args.list (parameters_in (named_callee name o)) → OnOk c.through.result (Emits c.args.out.now c.through.new.out (ending_code (named_callee name o) (format_of es) (count_of es) (count_behind es)) [])) (sym k.1)
    (λ h. subst (λ (n : ℕ). OnOk c.through.result (Emits c.args.out.now c.through.new.out (code.CallThrough (parameters_of (decayed k.0)) n ∷ []) [])) count (c.through.ensures (parameters_of (decayed k.0)) h)) list

pub returns-in-None : goal.returns-in-None
returns-in-None c = λ s fits list.
    let table = c.args.types.now in
    let name = c.args.name.now in
    let es = exprs_of c.args.arguments.now in
    let found = entity_found table c.args.declared.now s name fits in
    let k = none_is table (entity_of s name) (subst (λ (o : Option Entity). IsEntityOrNone table o (entity_of s name)) (sym c.get.ensures ∙ c.in-None.is) found) in
    let count : c.len-count.result ≡ count_of es = c.len-count.ensures ∙ count_is c.args.arguments.now in
    subst (λ (o : Option scope.Entity). HasList table c.args.list (parameters_in (named_callee name o)) → OnOk c.through-in-None.result (Emits c.args.out.now c.through-in-None.new.out (ending_code (named_callee name o) (format_of es) (count_of es) (count_behind es)) [])) (sym k)
    (λ h. subst (λ (n : ℕ). OnOk c.through-in-None.result (Emits c.args.out.now c.through-in-None.new.out (code.CallThrough NoType n ∷ []) [])) count (c.through-in-None.ensures NoType h)) list
