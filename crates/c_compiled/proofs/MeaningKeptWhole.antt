-- The meaning is kept where the texts stand for each other.
use Rattle.std.proofs.Common.{◌≡◌, ℕ, List, Option, Some, None, refl, ap}
use Rattle.std.specs.Option.{option_map}
use Rattle.c_syntax.specs.Plain.{CUnit}
use Rattle.c_eval.specs.Text.{Text, text_of}
use Rattle.c_eval.specs.Meaning.{Rules, own_rules, meaning_in, meaning_of}
use Rattle.c_eval.specs.Helpers.{Helpers, helps_to, helper_rules}
use Rattle.c_valid.specs.Valid.{AreBytes}
use Rattle.c_helpers.specs.Meanings.{Action, stands_for}
use Rattle.c_helpers.specs.Simple.{desugared, helpers_of}
use Rattle.c_limited.proofs.Whole.{typed_texts_are_limited}
use Rattle.c_worlds.proofs.Uses.{uses_stay_valid}
use Rattle.c_fewer_calls.specs.Standing.{HelpStays, TextStands}
use Rattle.c_fewer_calls.proofs.Calls.{runs_are_kept}
use Rattle.c_compiled.specs.MeaningKeptLaws.{ProgramStands, MeaningFollows}
use Rattle.c_compiled.proofs.MeaningKeptNames.{none_stands, charges_stay}

module _ (u : CUnit) (input : List ℕ) (ration : ℕ) (bytes : AreBytes input) (k : ProgramStands u input ration) where
  abbrev h : Helpers
  h = helpers_of ration u

  abbrev t : Text
  t = text_of (desugared u)

  abbrev rules : Rules
  rules = helper_rules h t input

  used : (name : List ℕ) (o : Option Action) → stands_for name ≡ o → HelpStays (option_map (λ (action : Action). helps_to h t input name action) o)
  used name None e = tt
  used name (Some action) e = λ vs st a v. uses_stay_valid h t input name action vs st bytes k.limited (λ other. refl) e a v

  stands : TextStands k.test k.reached (own_rules u).charge rules (text_of u) t
  stands = record {
    objects = k.names;
    own = λ name r. ap (λ o. option_map (λ (action : Action). helps_to h t input name action) o) (none_stands name (k.text name r));
    charges = λ name r. charges_stay u name (k.text name r);
    functions = k.functions;
    limited = k.limited;
    does = k.does;
    stays = λ name. used name (stands_for name) refl;
  }

pub meaning_follows : MeaningFollows
unfolding meaning_of
meaning_follows stand u input fuel ration program bytes enough =
    let k : ProgramStands u input ration = stand u input ration program bytes enough in
    let fine = typed_texts_are_limited u program.typed program.small program.bytes in
    ap meaning_in (runs_are_kept k.test k.reached (own_rules u).charge (helper_rules (helpers_of ration u) (text_of (desugared u)) input) (text_of u) (text_of (desugared u)) input fuel bytes (stands u input ration bytes k) k.main k.objects k.named fine.objects)
