use Rattle.std.proofs.Common.{◌≡◌, ℕ, sym, subst}
use Rattle.std.specs.Prelude.{Result}
use Rattle.c_types.specs.declared.fault.TypeFault.{TypeFault}
use Rattle.c_types.specs.Types.{CType, words_of}
use Rattle.c_types.specs.Refusals.{Judged}
use Rattle.c_types.specs.Census.{of_type}
use Rattle.c_types.specs.Seen.{Counts}
use Rattle.c_types.specs.Table.{HasType}
use Rattle.c_operands.specs.Seen.{IsJudged}
use Rattle.c_operands.proofs.OperandLemmas.{type_within}
use Rattle.c_forms.proofs.PartLemmas.{ok_is, err_is}
use Rattle.c_check.proofs.words.judged_words.Goals as goal

pub words-requires : goal.words-requires
words-requires c =
    let table = c.args.types.now in
    let h = c.requires in
    let k = ok_is (HasType table) c.in-Ok.number h.0 (subst (λ (j : Result ℕ TypeFault). IsJudged (HasType table) j h.0) c.in-Ok.is h.1) in
    type_within table c.in-Ok.number k.0 k.2

pub returns-in-Ok : goal.returns-in-Ok
returns-in-Ok c = λ p tags h all.
    let table = c.args.types.now in
    let k = ok_is (HasType table) c.in-Ok.number p (subst (λ (j : Result ℕ TypeFault). IsJudged (HasType table) j p) c.in-Ok.is h) in
    subst (λ (q : Judged CType). Counts c.words.result (of_type (words_of tags) q)) (sym k.1) (c.words.ensures k.0 tags k.2 all)
