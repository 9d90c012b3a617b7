use Rattle.std.proofs.Common.{List, ap}
use Rattle.c_syntax.specs.Plain as plain
use Rattle.c_syntax.specs.Plain.{CStmt}
use Rattle.c_syntax.specs.View.{stmt_of}
use Rattle.c_helper_steps.specs.Seen.{seen}
use Rattle.c_helper_steps.proofs.Rows.{last_taken, others_left, last_of_none, others_of_none, none_left}
use Rattle.c_helper_steps.proofs.parts.Parts.take_statement.Goals as goal

pub returns-in-Some-clause-value : goal.returns-in-Some-clause-value
returns-in-Some-clause-value c = last_taken stmt_of c.args.self.now.row.items c.pop.new.self.items c.in-Some.s plain.Empty c.in-Some.ensures.items

pub returns-in-Some-clause-rest : goal.returns-in-Some-clause-rest
returns-in-Some-clause-rest c = ap (λ (l : List CStmt). record (seen c.args.self.now) { row = l }) (others_left stmt_of c.args.self.now.row.items c.pop.new.self.items c.in-Some.s c.in-Some.ensures.items)

pub returns-in-None-clause-value : goal.returns-in-None-clause-value
returns-in-None-clause-value c =
    let old = c.args.self.now.row.items in
    last_of_none stmt_of old plain.Empty (none_left old c.pop.new.self.items _ c.in-None.ensures.items c.in-None.ensures.rest c.in-None.ensures.cases.0)

pub returns-in-None-clause-rest : goal.returns-in-None-clause-rest
returns-in-None-clause-rest c =
    let old = c.args.self.now.row.items in
    ap (λ (l : List CStmt). record (seen c.args.self.now) { row = l }) (others_of_none stmt_of old c.pop.new.self.items c.in-None.ensures.items (none_left old c.pop.new.self.items _ c.in-None.ensures.items c.in-None.ensures.rest c.in-None.ensures.cases.0))
