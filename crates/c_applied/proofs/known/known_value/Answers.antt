use Rattle.std.proofs.Common.{◌≡◌, ℕ, ◌+◌, ◌++◌, Bool, true, false, not, ◌||◌, List, [], ◌∷◌, length, refl, sym, ap, subst, ◌∙◌, append_assoc, append-nil, arith, if◌then◌else◌}
use Rattle.std.specs.Prelude.{Option, Some, None, OnOk, IfOk}
use Rattle.c_syntax.specs.View.{expr_of}
use Rattle.c_lowered.specs.Locations as plain
use Rattle.c_lowered.specs.Counts.{expr_jumps}
use Rattle.c_addressing.specs.declared.spots.Known.{Known}
use Rattle.c_addressing.specs.Here.{IsKnown}
use Rattle.c_applied.specs.Leads.{MayLead, literal_count}
use Rattle.c_addressing.specs.Here.{IsBehind}
use Rattle.c_applied.proofs.LeadsLemmas.{kept, keeps_then, piece_then, leads, known_some, known_none, behind_still}
use Rattle.c_applied.proofs.known.known_value.Goals as goal

pub returns-in_ok-put_known-in-Some-clause-code : goal.returns-in_ok-put_known-in-Some-clause-code
returns-in_ok-put_known-in-Some-clause-code c = λ w env m is hk.
    let e = expr_of c.args.e.now in
    let l = c.args.out.now.literals in
    let n = literal_count env.scope e in
    let found = known_some c.in-Some.known l n (plain.direct e w env) (subst (λ (o : Option Known). IsKnown l n o (plain.direct e w env)) c.in-Some.is (c.in_ok-found.ensures.value w env is)) in
    let behind = behind_still c.in_ok-found.ensures.still found.3 in
    subst (λ (o : Option plain.Direct). MayLead c.args.out.now c.put_known.new.out (Some c.plus.result) o n (m + expr_jumps e)) (sym found.1)
    (leads (piece_then c.in_ok-found.ensures.still (c.in_ok-put_known-in-Some.ensures.code found.0 n found.2 behind)) (c.plus.ensures m (expr_jumps e) hk c.jumps_of.ensures))

pub returns-in_ok-put_known-in-Some-clause-keeps : goal.returns-in_ok-put_known-in-Some-clause-keeps
returns-in_ok-put_known-in-Some-clause-keeps c = keeps_then (kept c.in_ok-found.ensures.still) c.in_ok-put_known-in-Some.ensures.keeps

pub returns-in-None-clause-code : goal.returns-in-None-clause-code
returns-in-None-clause-code c = λ w env m is hk.
    let e = expr_of c.args.e.now in
    let l = c.args.out.now.literals in
    let n = literal_count env.scope e in
    let none = known_none l n (plain.direct e w env) (subst (λ (o : Option Known). IsKnown l n o (plain.direct e w env)) c.in-None.is (c.in_ok-found.ensures.value w env is)) in
    subst (λ (o : Option plain.Direct). MayLead c.args.out.now c.direct.new.out None o n (m + expr_jumps e)) (sym none) c.in_ok-found.ensures.still

pub returns-in-None-clause-keeps : goal.returns-in-None-clause-keeps
returns-in-None-clause-keeps c = kept c.in_ok-found.ensures.still
