use Rattle.std.proofs.Common.{ℕ, sym, subst, ◌∙◌}
use Rattle.c_syntax.specs.Words.{meaning}
use Rattle.c_lowered.specs.Locations.{located}
use Rattle.c_counted.specs.Numbers.{IsNumber}
use Rattle.c_lower_data.proofs.StaticLemmas.{object_word, function_word}
use Rattle.c_lower_data.proofs.statics.named_word.Goals as goal

pub returns-then-names_object : goal.returns-then-names_object
returns-then-names_object c = λ out w env is.
    let name = c.args.name.now in
    subst (λ (n : ℕ). IsNumber c.address_in.result n) (sym (object_word c.args.here.now out w env name is (sym c.names_object.ensures ∙ c.if-names_object.true)))
    (c.address_in.ensures (located w (meaning env.objects name)) (c.located.ensures out w env is))

pub returns-else-names_object : goal.returns-else-names_object
returns-else-names_object c = λ out w env is.
    subst (λ (n : ℕ). IsNumber c.entry_of.result n) (sym (function_word c.args.here.now out w env c.args.name.now is (sym c.names_object.ensures ∙ c.if-names_object.false))) (c.entry_of.ensures out w env is)
