use Rattle.std.proofs.Common.{sym, subst}
use Rattle.std.specs.Prelude.{IfOk}
use Rattle.c_syntax.specs.View.{part_of}
use Rattle.c_syntax.specs.declared.tree.Part.{Part}
use Rattle.c_types.specs.Census.{scope_behind_part}
use Rattle.c_eval.specs.Environment.{part_objects}
use Rattle.c_applied.proofs.LeadsLemmas.{nothing}
use Rattle.c_lower_blocks.specs.Laid.{Places}
use Rattle.c_lower_blocks.proofs.LaidLemmas.{lay_none}
use Rattle.c_lower_statements.proofs.switches.place_part.Goals as goal

pub returns-in-Label-clause-places : goal.returns-in-Label-clause-places
returns-in-Label-clause-places c =
    subst (λ (x : Part). Places c.args.out.now c.args.out.now c.args.here.now c.args.here.now c.args.free c.args.free (λ s. part_objects s (part_of x)) (λ s. scope_behind_part s (part_of x))) (sym c.in-Label.is)
    (lay_none c.args.out.now c.args.here.now c.args.free c.requires)

pub returns-in-Label-clause-still : goal.returns-in-Label-clause-still
returns-in-Label-clause-still c = nothing c.args.out.now

pub returns-in-Item-clause-places : goal.returns-in-Item-clause-places
returns-in-Item-clause-places c =
    subst (λ (x : Part). IfOk c.place_statement.result (λ behind. Places c.args.out.now c.place_statement.new.out c.args.here.now c.place_statement.new.here c.args.free behind (λ s. part_objects s (part_of x)) (λ s. scope_behind_part s (part_of x)))) (sym c.in-Item.is)
    c.place_statement.ensures.places

pub returns-in-Item-clause-still : goal.returns-in-Item-clause-still
returns-in-Item-clause-still c = c.place_statement.ensures.still
