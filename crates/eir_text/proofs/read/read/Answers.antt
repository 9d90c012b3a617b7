use Rattle.std.proofs.Common.{◌≡◌, ◌≢◌, ◌^◌, ◌<◌, [], Some, map, sym, ap, ◌∙◌, subst}
use Rattle.std.proofs.lemmas.Result.{IfOk-weaker, IfErr-weaker, err_from_is_err_and}
use Rattle.eir_core.specs.Eir.{Eir, size_of}
use Rattle.eir_text.specs.declared.fault.EirFault.TheVariants.{Memory, TooLarge}
use Rattle.eir_text.specs.Names.{names_of}
use Rattle.eir_text.specs.Sections.{placed_of}
use Rattle.eir_text.specs.Refusals.{first_repeat, first_unknown, names_refusal}
use Rattle.eir_text.specs.Spells.{program_said, Spells, refusal_of}
use Rattle.eir_text.specs.Reading.{places, lines_in, Refuses}
use Rattle.eir_text.proofs.RefusalLemmas.{spelled_from, refused_by_names, refused_by_size}
use Rattle.eir_text.proofs.read.read.Goals as goal

pub returns-in_err-check_names-clause-fault : goal.returns-in_err-check_names-clause-fault
returns-in_err-check_names-clause-fault c =
    let text = c.args.text.now in
    let lines : lines_in c.deref.result.now ≡ map (λ p. p.line) (placed_of text) = ap lines_in c.deref.ensures.value ∙ ap (map (λ p. p.line)) c.in_ok-lines.ensures.places in
    let p = err_from_is_err_and c.from_residual-in_err-check_names.result c.from_residual-in_err-check_names.ensures.1 in
    rw (p.1, p.2) (λ n. refused_by_names text _ c.in_ok-lines.ensures.good
    (sym (ap (λ all. names_refusal (first_repeat [] 1 all) (first_unknown (names_of all) 1 all)) lines) ∙ c.in_err-check_names.ensures.refused n))

pub returns-clause-program : goal.returns-clause-program
returns-clause-program c =
    let text = c.args.text.now in
    let lines : lines_in c.deref.result.now ≡ map (λ p. p.line) (placed_of text) = ap lines_in c.deref.ensures.value ∙ ap (map (λ p. p.line)) c.in_ok-lines.ensures.places in
    let placed : places c.deref-2.result.now ≡ placed_of text = ap places c.deref-2.ensures.value ∙ c.in_ok-lines.ensures.places in
    let spelled = spelled_from text c.in_ok-lines.ensures.good
    (sym (ap (λ all. names_refusal (first_repeat [] 1 all) (first_unknown (names_of all) 1 all)) lines) ∙ c.in_ok-check_names.ensures.good) in
    IfOk-weaker c.assembled.result (λ p. p ≡ program_said (places c.deref-2.result.now)) (λ p. Spells text p)
    (λ p e. subst (λ (q : Eir). Spells text q) (sym (e ∙ ap program_said placed)) spelled) c.assembled.ensures.program

pub returns-clause-fault : goal.returns-clause-fault
returns-clause-fault c =
    let text = c.args.text.now in
    let lines : lines_in c.deref.result.now ≡ map (λ p. p.line) (placed_of text) = ap lines_in c.deref.ensures.value ∙ ap (map (λ p. p.line)) c.in_ok-lines.ensures.places in
    let placed : program_said (places c.deref-2.result.now) ≡ program_said (placed_of text) = ap program_said (ap places c.deref-2.ensures.value ∙ c.in_ok-lines.ensures.places) in
    let names = sym (ap (λ all. names_refusal (first_repeat [] 1 all) (first_unknown (names_of all) 1 all)) lines) ∙ c.in_ok-check_names.ensures.good in
    IfErr-weaker c.assembled.result (λ e. e ≢ Memory → (e ≡ TooLarge) × (2 ^ 21 < size_of (program_said (places c.deref-2.result.now)))) (λ e. Refuses e (refusal_of text))
    (λ e q n. refused_by_size text c.in_ok-lines.ensures.good names (subst (λ (p : Eir). 2 ^ 21 < size_of p) placed (q n).1) ∙ ap Some (sym (q n).0)) c.assembled.ensures.refused
