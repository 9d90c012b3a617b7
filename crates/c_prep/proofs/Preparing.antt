-- From the tokens of a text to its answer.
use Rattle.std.proofs.Common.{◌≡◌, List, sym, ap, ◌∙◌, subst}
use Rattle.std.specs.Prelude.{Result, Ok, Err}
use Rattle.c_syntax.specs.declared.token.Raw.{Raw}
use Rattle.c_syntax.specs.declared.token.Token.{Token}
use Rattle.c_syntax.specs.declared.token.LexFault.{LexFault}
use Rattle.c_syntax.specs.declared.token.LexFault.TheVariants as lex_fault
use Rattle.c_syntax.specs.Scan as lexed
use Rattle.c_prep.specs.declared.fault.PrepFault.{PrepFault}
use Rattle.c_prep.specs.declared.fault.PrepFault.TheVariants as fault
use Rattle.c_prep.specs.declared.output.Output.{Output}
use Rattle.c_prep.specs.Macros.{Act}
use Rattle.c_prep.specs.Prepared.{outcome, refusal_of, all_acts, of_acts, of_raws}
use Rattle.c_prep.specs.Outcome.{Fails, Answers}
use Rattle.c_prep.specs.Views.{Follows, ReadsActs}

pub lexing_fails : (f : LexFault) (there : Result (List Raw) LexFault) → lexed.Fails f there → Fails (refusal_of f) (of_raws there)
lexing_fails lex_fault.Memory there h = tt
lexing_fails (lex_fault.BadChar p) there h = ap of_raws h
lexing_fails (lex_fault.Unclosed p) there h = ap of_raws h
lexing_fails (lex_fault.NumberRange p) there h = ap of_raws h

acts_fail : (e : PrepFault) (there : Result (List Act) PrepFault) → Fails e there → Fails e (of_acts there)
acts_fail fault.Memory there h = tt
acts_fail (fault.BadChar p) there h = ap of_acts h
acts_fail (fault.Unclosed p) there h = ap of_acts h
acts_fail (fault.NumberRange p) there h = ap of_acts h
acts_fail (fault.BadDirective p) there h = ap of_acts h
acts_fail (fault.Unbalanced p) there h = ap of_acts h
acts_fail fault.TooLarge there h = ap of_acts h

pub reading_fails : (e : PrepFault) (raws given : List Raw) (there : Result (List Raw) LexFault) → there ≡ Ok raws → given ≡ raws → Fails e (all_acts given) → Fails e (of_raws there)
reading_fails e raws given there read same h =
    let P : Result (List Raw) LexFault → Type 0 = λ z. Fails e (of_raws z) in
    subst P (ap (λ (z : List Raw). Ok z) same ∙ sym read) (acts_fail e (all_acts given) h)

acts_answer : {X : Type 0} (view : X → List Token) (result : Result X PrepFault) (o : Output) (there : Result (List Act) PrepFault) → ReadsActs (Ok o) there → ((acts : List Act) → Follows o acts → Answers view result (outcome acts)) → Answers view result (of_acts there)
acts_answer view result o (Ok acts) h k = k acts h
acts_answer view result o (Err e) h k = absurd h

pub answered : {X : Type 0} (view : X → List Token) (result : Result X PrepFault) (o : Output) (raws given : List Raw) (there : Result (List Raw) LexFault) → there ≡ Ok raws → given ≡ raws → ReadsActs (Ok o) (all_acts given)
    → ((acts : List Act) → Follows o acts → Answers view result (outcome acts)) → Answers view result (of_raws there)
answered view result o raws given there read same h k =
    let P : Result (List Raw) LexFault → Type 0 = λ z. Answers view result (of_raws z) in
    subst P (ap (λ (z : List Raw). Ok z) same ∙ sym read) (acts_answer view result o (all_acts given) h k)
