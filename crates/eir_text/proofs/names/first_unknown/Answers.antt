use Rattle.std.proofs.Common.{◌≡◌, false, ◌<◌, length, arith}
use Rattle.eir_line.specs.Reading.{statement_of}
use Rattle.eir_text.specs.Names.{are_known}
use Rattle.eir_text.proofs.Steps.{drop_at}
use Rattle.eir_text.proofs.NameLemmas.{unknown_here}
use Rattle.eir_text.proofs.names.first_unknown.Goals as goal

pub returns-then-not-are_known : goal.returns-then-not-are_known
returns-then-not-are_known c = λ all h.
    let inside : c.loop-i.i < length c.args.lines.now = omega arith in
    let known = c.if-not-are_known.ensures all h in
    let unknown : are_known all (statement_of c.index-lines-i.result.line.statement) ≡ false = cc in
    unknown_here all c.args.lines.now c.loop-i.i c.index-lines-i.result _ (drop_at c.args.lines.now c.loop-i.i c.index-lines-i.result inside c.index-lines-i.is) unknown (c.loop-i.invariant all h)
