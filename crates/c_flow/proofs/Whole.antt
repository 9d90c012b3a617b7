-- The run of flat code shows what the text means.
use Rattle.std.proofs.Common.{◌≡◌, ℕ, zero, suc, ◌<◌, List, [], ◌∷◌, Some, None, refl, ap, ◌∙◌, arith}
use Rattle.std.specs.Prelude.{codes}
use Rattle.c_syntax.specs.Words.{meaning}
use Rattle.c_eval.specs.State as state
use Rattle.c_eval.specs.State.{Value, Outcome, Run}
use Rattle.c_eval.specs.Run.{after, ◌>>=◌, give, exit}
use Rattle.c_eval.specs.Text.{Text, text_of}
use Rattle.c_eval.specs.Meaning.{Rules, calls_to, opening, run_of, eval, meaning_in, own_rules, meaning_of}
use Rattle.c_code.specs.Code as code
use Rattle.c_code.specs.Machine.{Control, called, step_of, drive, program_of, nothing_yet, run_code, shown}
use Rattle.c_flow.specs.Laws.{LawOfCode}
use Rattle.c_flow.proofs.Leading.{Bounded, Keeps, Leads, moved, leads_then, leads_first}
use Rattle.c_flow.proofs.Calling.{bounded, charged_leads, calls_lead}

exit_keeps : {depth : ℕ} → Keeps {A = Value} depth exit
unfolding exit
exit_keeps st lt = tt

exit_leads : (p : Bounded) → Leads {A = Value} p exit exit (λ _. exit)
unfolding exit ◌>>=◌ after
exit_leads p = record { leads = λ st lt. (zero, λ n. refl); keeps = exit_keeps }

-- the machine does what the whole run does
run_leads : (rules : Rules) (t : Text) (input : List ℕ) (fuel : ℕ) → ((name : List ℕ) → rules.helps name ≡ None) →
    Leads (bounded rules t input (suc fuel)) (called nothing_yet [] (meaning (program_of rules t input).entries (codes "main")) []) (run_of rules t input fuel) (λ _. exit)
unfolding run_of step_of
run_leads rules t input fuel own =
    let p = bounded rules t input (suc fuel) in
    leads_then p (λ v. give (moved nothing_yet 1 (v ∷ []))) (charged_leads rules t input (suc fuel) (calls_to (suc fuel) rules t input) nothing_yet [] (codes "main") [] (calls_lead rules t input own (suc fuel)))
    (λ v. leads_first p (moved nothing_yet 1 (v ∷ [])) exit code.End refl (λ st. refl) (exit_leads p))

shows_meaning : (r : Outcome Value) (f : Control → Run Control) → shown (after r (λ _. exit >>= f)) ≡ Some (meaning_in r)
unfolding after exit ◌>>=◌
shows_meaning (state.Gives a st) f = refl
shows_meaning (state.Ended st) f = refl
shows_meaning (state.Going st) f = refl
shows_meaning (state.Undefined act st) f = refl

pub law_of_code : LawOfCode
unfolding run_code meaning_of eval ◌>>=◌
law_of_code u input fuel =
    let t = run_leads (own_rules u) (text_of u) input fuel (λ name. refl) in
    let k = t.leads (opening (text_of u) fuel) (below fuel) in
    (k.0, λ n. ap shown (k.1 n) ∙ shows_meaning (run_of (own_rules u) (text_of u) input fuel (opening (text_of u) fuel)) (λ d. drive (program_of (own_rules u) (text_of u) input) n d))
  where
    below : (fuel : ℕ) → fuel < suc fuel
    below fuel = omega arith
