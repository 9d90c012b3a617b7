use Rattle.std.proofs.Common.{inl, inr, refl}
use Rattle.c_types.specs.Typed.{plain_of}
use Rattle.elvm_cli.specs.Sources.{c_runs}
use Rattle.elvm_cli.proofs.Evaluated.{no_text}
use Rattle.elvm_cli.proofs.Shows.{begun_fueled, same_is_quiet}
use Rattle.elvm_cli.proofs.evaluate.evaluate_text.Goals as goal

pub evaluate-requires-clause-blocks : goal.evaluate-requires-clause-blocks
evaluate-requires-clause-blocks g c =
    let parsed = c.in-Ok.ensures.ok.parsed in
    c.units_declare_in_blocks.ensures parsed.tokens (plain_of c.in-Ok.typed) parsed.parses.1

pub evaluate-requires-clause-small : goal.evaluate-requires-clause-small
evaluate-requires-clause-small g c =
    let spells = c.in-Ok.ensures.ok in
    ((c.answers_are_of_typed_texts.ensures (plain_of c.in-Ok.typed)).accepted spells.weight spells.types).1

pub returns-in-Ok-clause-shows : goal.returns-in-Ok-clause-shows
returns-in-Ok-clause-shows g c = inr (plain_of c.in-Ok.typed, c.in-Ok.ensures.ok, c.evaluate.ensures)

pub returns-in-Ok-clause-early : goal.returns-in-Ok-clause-early
returns-in-Ok-clause-early g c = λ early. absurd (begun_fueled (c_runs (plain_of c.in-Ok.typed)) c.args.fuel _ _ c.evaluate.result c.evaluate.ensures early)

pub returns-in-Err-clause-shows : goal.returns-in-Err-clause-shows
returns-in-Err-clause-shows g c = inl (no_text c.args.text.now c.in-Err.fault c.outcome.result c.outcome.ensures c.in-Err.ensures.err, (same_is_quiet (g.O.Sink.got c.args.out.now), refl, refl))
