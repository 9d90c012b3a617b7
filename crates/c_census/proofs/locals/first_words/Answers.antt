use Rattle.std.proofs.Common.{◌≡◌, ◌<◌, ◌≤◌, ◌+◌, ◌-◌, ℕ, List, [], ◌∷◌, map, drop, get_or, length, Option, Some, None, refl, sym, ap, subst, ◌∙◌, arith, rules}
use Rattle.std.specs.Prelude.{Result, Ok, Err, IfOk}
use Rattle.c_syntax.specs.View.{maybe_value}
use Rattle.c_syntax.specs.declared.tree.Value.{Value}
use Rattle.c_types.specs.declared.fault.TypeFault.{TypeFault}
use Rattle.c_types.specs.Types.{CType}
use Rattle.c_types.specs.Refusals.{Judged}
use Rattle.c_types.specs.Census.{of_type}
use Rattle.c_types.specs.Limits.{initialised_words}
use Rattle.c_types.specs.Seen.{Counts}
use Rattle.c_types.specs.Table.{HasType}
use Rattle.c_operands.specs.Seen.{IsJudged}
use Rattle.c_operands.proofs.OperandLemmas.{type_within}
use Rattle.c_forms.proofs.PartLemmas.{ok_is, err_is}
use Rattle.c_census.proofs.locals.first_words.Goals as goal

pub words-requires : goal.words-requires
words-requires c =
    let table = c.args.types.now in
    let h = c.requires in
    let k = ok_is (HasType table) c.in-Ok.number h.0 (subst (λ (j : Result ℕ TypeFault). IsJudged (HasType table) j h.0) c.in-Ok.is h.1) in
    type_within table c.in-Ok.number k.0 k.2

pub returns-in-Some : goal.returns-in-Some
returns-in-Some c = λ p tags h all.
    let table = c.args.types.now in
    let k = ok_is (HasType table) c.in-Ok.number p (subst (λ (j : Result ℕ TypeFault). IsJudged (HasType table) j p) c.in-Ok.is h) in
    subst (λ (q : Judged CType). Counts c.words.result (of_type (λ t. initialised_words tags t (maybe_value c.args.first.now)) q)) (sym k.1)
    (subst (λ (o : Option Value). Counts c.words.result (initialised_words tags k.0 (maybe_value o))) (sym c.in-Some.is) (c.words.ensures k.0 tags k.2 all))

pub returns-in-None : goal.returns-in-None
returns-in-None c = λ p tags h all.
    let table = c.args.types.now in
    let k = ok_is (HasType table) c.in-Ok.number p (subst (λ (j : Result ℕ TypeFault). IsJudged (HasType table) j p) c.in-Ok.is h) in
    subst (λ (q : Judged CType). Counts c.of.result (of_type (λ t. initialised_words tags t (maybe_value c.args.first.now)) q)) (sym k.1)
    (subst (λ (o : Option Value). Counts c.of.result (initialised_words tags k.0 (maybe_value o))) (sym c.in-None.is) c.of.ensures)

pub returns-in-Err : goal.returns-in-Err
returns-in-Err c = λ p tags h all.
    let table = c.args.types.now in
    let e = err_is (HasType table) c.in-Err.field-0 p (subst (λ (j : Result ℕ TypeFault). IsJudged (HasType table) j p) c.in-Err.is h) in
    subst (λ (q : Judged CType). Counts c.of-in-Err.result (of_type (λ t. initialised_words tags t (maybe_value c.args.first.now)) q)) (sym e) c.of-in-Err.ensures
