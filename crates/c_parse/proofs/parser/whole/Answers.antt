use Rattle.std.proofs.Common.{◌≡◌, [], ◌∷◌, ◌∙◌, sym, ap}
use Rattle.c_grammar.specs.Values as machine
use Rattle.c_grammar.specs.Values.{tree_of}
use Rattle.c_frames.specs.Stack.{opens}
use Rattle.c_parse.proofs.Readings.{whole_parts, whole_values, some_whole}
use Rattle.c_parse.proofs.parser.whole.Goals as goal

pub unreachable-requires : goal.unreachable-requires
unreachable-requires c = some_whole (opens c.args.stack.now.items []) c.requires.whole.0 c.in_default.ensures.top c.requires.whole.1

pub unit-requires : goal.unit-requires
unit-requires c = whole_parts c.in-Some.frame c.pop.new.stack.items (opens c.args.stack.now.items []) c.requires.whole.0 c.in-Some.ensures.top c.requires.whole.1 c.in-Some.ensures.stands

pub returns : goal.returns
returns c = λ vs e. c.in_ok-unit.ensures ∙ ap tree_of (whole_values c.in-Some.frame (opens c.pop.new.stack.items []) (opens c.args.stack.now.items []) vs c.in-Some.ensures.top e)
