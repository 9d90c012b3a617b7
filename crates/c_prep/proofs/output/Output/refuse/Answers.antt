use Rattle.std.proofs.Common.{ℕ, Some, refl, sym, ap, ◌∙◌}
use Rattle.std.specs.Prelude.{Err, nat_lt}
use Rattle.c_syntax.specs.declared.token.Kind.TheVariants.{Null}
use Rattle.c_syntax.specs.Lex.{put}
use Rattle.c_prep.specs.declared.fault.PrepFault.{PrepFault}
use Rattle.c_prep.proofs.Giving.{over_adds, given_one, or_first}
use Rattle.c_prep.proofs.output.Output.refuse.Goals as goal

pub returns-then-self : goal.returns-then-self
returns-then-self c = over_adds _ _ c.if-self.true

pub returns : goal.returns
returns c =
    given_one _ _ (Err c.args.fault) c.if-self.false (c.in_ok-put.ensures ∙ ap (λ (n : ℕ). put c.args.self.now.tokens.items (record { kind = Null; pos = n })) (sym c.requires))
    (ap (λ (e : PrepFault). Some e) c.unwrap_or.ensures ∙ or_first c.args.self.now.refused c.args.fault) refl (ap (nat_lt 1000001) (c.len.ensures ∙ c.put.new.tokens.ok.0))
