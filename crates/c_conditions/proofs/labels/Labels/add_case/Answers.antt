use Rattle.std.proofs.Common.{ℕ, Bool, ◌||◌, [], ◌∷◌, Option, refl, ap, ◌∙◌}
use Rattle.std.specs.Prelude.{not}
use Rattle.c_types.specs.declared.fault.TypeFault.{TypeFault}
use Rattle.c_types.specs.declared.fault.TypeFault.TheVariants as fault
use Rattle.c_types.specs.Refusals.{broken}
use Rattle.c_types.specs.Constants.{Constant, Value}
use Rattle.c_types.specs.Statements.{case_rules, same_case}
use Rattle.c_types.specs.Seen.{constant_of}
use Rattle.c_operands.specs.Arguments.{merged}
use Rattle.c_conditions.specs.Cases.{has_word, has_case}
use Rattle.c_conditions.proofs.LabelLemmas.{case_more}
use Rattle.c_conditions.proofs.labels.Labels.add_case.Goals as goal

pub returns : goal.returns
returns c = λ table x ls o h.
    let words = c.args.self.now.words.keys in
    let twice = fault.Twice c.args.at in
    let there = c.in_ok-there.ensures.there ∙ ap (λ (k : Constant). has_case words k) o.constant in
    let first = c.broken-first.ensures ∙ ap (λ (b : Bool). broken ((not b, twice) ∷ [])) there in
    let second = c.case_fault.ensures ∙ (ap (λ (n : ℕ). broken (case_rules n (constant_of c.args.a.constant))) o.at ∙ ap (λ (k : Constant). broken (case_rules x.pos k)) o.constant) in
    let own = c.merged-own.ensures ∙ (ap (λ (r : Option TypeFault). merged r c.case_fault.result) first ∙ ap (λ (r : Option TypeFault). merged (broken ((not (has_case words x.constant), twice) ∷ [])) r) second) in
    case_more c.args.self.now _ ls c.args.at x c.merged-own.result h own c.merged-self.ensures refl
    (λ y. c.in_ok-there.ensures.words y ∙ ap (λ (k : Constant). same_case (Value y) k || has_word words y) o.constant)
