use Rattle.std.proofs.Common.{◌≡◌, ℕ, ◌+◌, ◌++◌, Bool, true, false, not, ◌||◌, List, [], ◌∷◌, length, refl, sym, ap, subst, ◌∙◌, append_assoc, append-nil, arith, if◌then◌else◌}
use Rattle.std.specs.Prelude.{Option, Some, None, OnOk, IfOk}
use Rattle.c_syntax.specs.View.{expr_of}
use Rattle.eir_core.specs.declared.ops.Op.{Op}
use Rattle.c_lowered.specs.Locations as plain
use Rattle.c_lowered.specs.Operations.{loaded}
use Rattle.c_lowered.specs.Counts.{expr_jumps}
use Rattle.c_counted.specs.Numbers.{IsNumber}
use Rattle.c_applied.specs.Leads.{Leads, MayLead, literal_count}
use Rattle.c_applied.proofs.LeadsLemmas.{as_lead, some_leads, none_leads}
use Rattle.c_applied.proofs.PieceLemmas.{leaf_code, leaf_none}
use Rattle.c_applied.proofs.known.leaf.Goals as goal

pub returns-in-Some-clause-code : goal.returns-in-Some-clause-code
returns-in-Some-clause-code c = λ w env m n leaf is hk.
    let e = expr_of c.args.e.now in
    let d = plain.direct e w env in
    let k = literal_count env.scope e in
    let led = subst (λ (o : Option ℕ). MayLead c.args.out.now c.known_value.new.out o d k (m + expr_jumps e)) c.in-Some.is (c.in_ok-found.ensures.code w env m is hk) in
    as_lead (sym (leaf_code e w env m n leaf)) (some_leads c.in-Some.behind d led)

pub returns-in-None-clause-code : goal.returns-in-None-clause-code
returns-in-None-clause-code c = λ w env m n leaf is hk.
    let e = expr_of c.args.e.now in
    let d = plain.direct e w env in
    let k = literal_count env.scope e in
    let led = subst (λ (o : Option ℕ). MayLead c.args.out.now c.known_value.new.out o d k (m + expr_jumps e)) c.in-None.is (c.in_ok-found.ensures.code w env m is hk) in
    as_lead (sym (leaf_code e w env m n leaf)) (none_leads d led (leaf_none e w env env.scope leaf) hk)
