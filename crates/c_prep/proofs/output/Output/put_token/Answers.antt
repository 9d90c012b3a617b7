use Rattle.std.proofs.Common.{refl, sym, ap, ◌∙◌}
use Rattle.std.specs.Prelude.{Ok, nat_lt}
use Rattle.c_prep.proofs.Giving.{over_adds, given_one, or_none}
use Rattle.c_prep.proofs.output.Output.put_token.Goals as goal

pub returns-then-self : goal.returns-then-self
returns-then-self c = over_adds _ _ c.if-self.true

pub returns : goal.returns
returns c = given_one _ _ (Ok c.args.token) c.if-self.false c.in_ok-put.ensures (sym (or_none c.args.self.now.refused)) refl (ap (nat_lt 1000001) (c.len.ensures ∙ c.put.new.tokens.ok.0))
