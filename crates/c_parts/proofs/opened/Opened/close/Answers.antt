use Rattle.std.proofs.Common.{sym, ◌∙◌, ap, drop}
use Rattle.c_plain.specs.Calls.{closed}
use Rattle.c_parts.specs.Opens.{open_of}
use Rattle.c_parts.proofs.Leaving.{closes}
use Rattle.c_parts.proofs.opened.Opened.close.Goals as goal

pub returns-then-is_call : goal.returns-then-is_call
returns-then-is_call c = c.in-Some.ensures ∙ (sym (c.is_call.ensures.yes c.if-is_call.true (drop 1 c.args.self.now)) ∙ ap closed (sym c.in-Some.ensures))

pub returns : goal.returns
returns c = closes c.args.self.now c.drop_top.new.self (open_of c.in-Some.x) c.in-Some.ensures (c.is_call.ensures.no c.if-is_call.false (drop 1 c.args.self.now)) c.drop_top.ensures
