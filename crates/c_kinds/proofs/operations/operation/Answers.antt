use Rattle.std.proofs.Common.{◌∙◌}
use Rattle.c_kinds.proofs.SideLemmas.{words_are, words_else}
use Rattle.c_kinds.proofs.operations.operation.Goals as goal

pub returns-in_default : goal.returns-in_default
returns-in_default c = λ t u tags p q.
    let d = c.in_default in
    c.words.ensures ∙ (words_are tags c.args.a c.args.b t u p q c.args.op ∙ words_else tags t u c.args.op d.not-Add d.not-Sub d.not-Eq d.not-Ne d.not-Lt d.not-Gt d.not-Le d.not-Ge)
