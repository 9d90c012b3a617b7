use Rattle.std.proofs.Common.{[], ◌∷◌}
use Rattle.c_held.specs.View.{made_of}
use Rattle.c_frames.specs.Stack.{opens}
use Rattle.c_progress.proofs.Begins.{next_as}
use Rattle.c_parse.proofs.Parts.{meets_as, put_as, token_put}
use Rattle.c_grammar.specs.declared.names.Symbol.TheVariants.{One, Many, Maybe}
use Rattle.c_parse.proofs.machine.put_part.Goals as goal

pub put_alone-requires-clause-next : goal.put_alone-requires-clause-next
put_alone-requires-clause-next c = next_as c.args.frame c.args.symbol (One c.in-One.wanted) c.in-One.is c.requires.next

pub put_alone-requires-clause-meets : goal.put_alone-requires-clause-meets
put_alone-requires-clause-meets c = meets_as c.args.part.meaning c.args.symbol (One c.in-One.wanted) c.in-One.is c.requires.meets

pub put_in_row-requires-clause-next : goal.put_in_row-requires-clause-next
put_in_row-requires-clause-next c = next_as c.args.frame c.args.symbol (Many c.in-Many.wanted) c.in-Many.is c.requires.next

pub put_maybe-requires-clause-next : goal.put_maybe-requires-clause-next
put_maybe-requires-clause-next c = next_as c.args.frame c.args.symbol (Maybe c.in-Maybe.wanted) c.in-Maybe.is c.requires.next

pub returns-in-Tok : goal.returns-in-Tok
returns-in-Tok c = token_put c.args.symbol c.in-Tok.field-0 (made_of c.args.part) c.args.frame c.args.token.now (opens c.args.stack.now.items []) c.in-Tok.is

pub returns-in-One : goal.returns-in-One
returns-in-One c = put_as c.put_alone.result c.args.frame.production c.args.stack.now.items _ c.args.symbol (One c.in-One.wanted) (made_of c.args.part) c.args.frame c.args.token.now (opens c.args.stack.now.items []) c.in-One.is c.put_alone.ensures

pub returns-in-Many : goal.returns-in-Many
returns-in-Many c = put_as c.put_in_row.result c.args.frame.production c.args.stack.now.items _ c.args.symbol (Many c.in-Many.wanted) (made_of c.args.part) c.args.frame c.args.token.now (opens c.args.stack.now.items []) c.in-Many.is c.put_in_row.ensures

pub returns-in-Maybe : goal.returns-in-Maybe
returns-in-Maybe c = put_as c.put_maybe.result c.args.frame.production c.args.stack.now.items _ c.args.symbol (Maybe c.in-Maybe.wanted) (made_of c.args.part) c.args.frame c.args.token.now (opens c.args.stack.now.items []) c.in-Maybe.is c.put_maybe.ensures
