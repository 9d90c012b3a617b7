use Rattle.std.proofs.Common.{◌+◌, ◌<◌, ◌++◌, ℕ, Option, length, sym, ap, ◌∙◌, subst, arith}
use Rattle.eir_text.specs.Names.{is_among, repeats}
use Rattle.eir_text.specs.Reading.{texts}
use Rattle.eir_text.proofs.Steps.{drop_at}
use Rattle.eir_text.proofs.NameLemmas.{LinesSoFar, lines_step}
use Rattle.eir_text.proofs.names.names_of.Goals as goal

pub loop-i-preserved : goal.loop-i-preserved
loop-i-preserved c =
    let inside : c.loop-i.i < length c.args.lines.now = omega arith in
    subst (λ (f : Option ℕ). LinesSoFar c.args.lines.now (c.loop-i.i + 1) c.add_names.new.names.keys f) (sym c.first_found-found.ensures)
    (lines_step c.args.lines.now c.loop-i.i c.index-lines-i.result c.loop-i.names.keys c.add_names.new.names.keys c.loop-i.found c.in_ok-again.again
    (drop_at c.args.lines.now c.loop-i.i c.index-lines-i.result inside c.index-lines-i.is)
    (λ before h name. c.in_ok-again.ensures.holds before h name ∙ ap (λ ls. is_among (before ++ texts ls) name) c.deref.ensures.value)
    (λ before h. c.in_ok-again.ensures.repeats before h ∙ ap (λ ls. repeats before (texts ls)) c.deref.ensures.value)
    c.loop-i.invariant)
