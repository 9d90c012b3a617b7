use Rattle.c_parse.proofs.Readings.{whole_read, unit_within}
use Rattle.c_parse.proofs.parser.parse_all.Goals as goal

pub read-requires-clause-start : goal.read-requires-clause-start
read-requires-clause-start c = c.in_ok-stack.ensures.start

pub whole-requires-clause-sound : goal.whole-requires-clause-sound
whole-requires-clause-sound c = c.in-Ok.ensures.sound

pub whole-requires-clause-whole : goal.whole-requires-clause-whole
whole-requires-clause-whole c = whole_read c.args.tokens.now c.read.new.stack.items c.requires c.in-Ok.ensures

pub returns : goal.returns
returns c =
    let w = whole_read c.args.tokens.now c.read.new.stack.items c.requires c.in-Ok.ensures in
    unit_within c.args.tokens.now c.read.new.stack.items w.0 _ c.in-Ok.ensures w.1 (c.in_ok-unit.ensures w.0 w.1)
