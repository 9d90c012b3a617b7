use Rattle.std.proofs.Common.{◌≡◌, ℕ, List, ap, ◌∙◌}
use Rattle.std.specs.Prelude.{is_some, is_none, not}
use Rattle.c_syntax.specs.Words.{meaning}
use Rattle.c_syntax.specs.View.{maybe_value}
use Rattle.c_types.specs.declared.fault.TypeFault.TheVariants as fault
use Rattle.c_types.specs.Scope.{is_declared_here}
use Rattle.c_signatures.proofs.ParameterLemmas.{new_as, none_view, two_told}
use Rattle.c_signatures.proofs.parameters.own_rules.Goals as goal

pub returns : goal.returns
returns c = λ s holds.
    let p = c.args.p.now in
    let names = c.args.declared.now.names.block in
    let there = c.is_declared_here-is_new.result in
    let known : there ≡ is_some (meaning names p.name) = c.is_declared_here-is_new.ensures ∙ ap (λ (n : List ℕ). is_some (meaning names n)) c.as_bytes.ensures in
    two_told (not there) c.is_none-is_plain.result (not (is_declared_here s p.name)) (is_none (maybe_value p.first)) (fault.Twice p.pos) (fault.Mismatch p.pos) c.broken_rule.result c.broken_rule-2.result c.merged.result
    c.broken_rule.ensures c.broken_rule-2.ensures c.merged.ensures (new_as c.args.types.now names s p.name there holds.fits.block known) (none_view p.first c.is_none-is_plain.result c.is_none-is_plain.ensures)
