use Rattle.std.proofs.Common.{sym, subst}
use Rattle.std.specs.Prelude.{Option, OnOk}
use Rattle.c_syntax.specs.View.{value_of, maybe_value}
use Rattle.c_syntax.specs.declared.tree.Value.{Value}
use Rattle.c_eval.specs.Environment.{past_first}
use Rattle.c_objects.specs.Made.{IsQuietFirst}
use Rattle.c_applied.proofs.LeadsLemmas.{on_ok, keeps_none}
use Rattle.c_lower.specs.Words.{first_words, AddsFirst}
use Rattle.c_lower.proofs.WordLemmas.{some_first, none_first}
use Rattle.c_lower.proofs.words.add_first.Goals as goal

pub returns-in-Some-clause-words : goal.returns-in-Some-clause-words
returns-in-Some-clause-words c = λ t w env has at structs quiet.
    let h = c.args.here.now in
    let a = c.args.out.now in
    let b = c.add_first_words.new.out in
    let old = c.args.words.now.items in
    let new = c.add_first_words.new.words.items in
    let v = value_of c.in-Some.value in
    let Q : Option Value → Type 0 = λ o. IsQuietFirst env.scope (maybe_value o) in
    let G : Option Value → Type 0 = λ o. OnOk c.add_first_words.result (AddsFirst h b old new w (first_words w t (maybe_value o) env) (past_first (maybe_value o) env)) in
    subst G (sym c.in-Some.is) (on_ok c.add_first_words.result (λ adds. some_first h a b old new w t v env adds at) (c.add_first_words.ensures.words t w env has at structs (subst Q c.in-Some.is quiet)))

pub returns-in-None-clause-words : goal.returns-in-None-clause-words
returns-in-None-clause-words c = λ t w env has at structs quiet.
    let h = c.args.here.now in
    let a = c.args.out.now in
    let old = c.args.words.now.items in
    let G : Option Value → Type 0 = λ o. AddsFirst h a old old w (first_words w t (maybe_value o) env) (past_first (maybe_value o) env) in
    subst G (sym c.in-None.is) (none_first h a old w t env at)

pub returns-in-None-clause-keeps : goal.returns-in-None-clause-keeps
returns-in-None-clause-keeps c = keeps_none c.args.out.now
