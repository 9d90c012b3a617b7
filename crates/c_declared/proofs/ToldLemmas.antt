-- Refusals that are told of trees judged one after the other.
use Rattle.std.proofs.Common.{◌≡◌, Option, Some, None, refl, sym, ap, ◌∙◌}
use Rattle.std.specs.Prelude.{Result, Ok, Err}
use Rattle.std.specs.Option.{option_map_or}
use Rattle.std.specs.Result.{result_err}
use Rattle.c_types.specs.declared.fault.TypeFault.{TypeFault}
use Rattle.c_types.specs.Refusals.{Judged, Rule, after, both, least_of, broken, keeping}
use Rattle.std.specs.Prelude.{List}
use Rattle.c_operands.specs.Arguments.{merged}
use Rattle.c_operands.proofs.LeastLemmas.{merged_together}
use Rattle.c_declared.specs.Told.{first_told, told_behind}

-- a tree with one part that gives nothing but its own rules
pub kept_rules : {A : Type 0} (rules : List Rule) (a : A) → result_err (keeping rules a) ≡ broken rules
kept_rules {A} rules a = by (broken rules) where
  by : (o : Option TypeFault) → result_err (option_map_or (λ e. Err e) o (Ok a)) ≡ o
  by None = refl
  by (Some e) = refl

-- the refusal of a tree with a part
pub after_refused : {A B : Type 0} (p : Judged A) (rules : List Rule) (b : A → B) → result_err (after p (λ a. keeping rules (b a))) ≡ first_told (result_err p) (broken rules)
after_refused (Ok a) rules b = kept_rules rules (b a)
after_refused (Err e) rules b = refl

-- the refusal of two parts
pub both_refused : {A B C : Type 0} (p : Judged A) (q : Judged B) (f : A → B → C) → result_err (both p q (λ a b. Ok (f a b))) ≡ merged (result_err p) (result_err q)
both_refused (Ok a) (Ok b) f = refl
both_refused (Ok a) (Err e) f = refl
both_refused (Err d) (Ok b) f = refl
both_refused (Err d) (Err e) f = refl

-- one tree and those behind it
pub one_behind : {A B : Type 0} (p : Judged A) (others : Judged B) → both p others (λ _ b. Ok b) ≡ told_behind (result_err p) others
one_behind (Ok a) (Ok b) = refl
one_behind (Ok a) (Err e) = refl
one_behind (Err d) (Ok b) = refl
one_behind (Err d) (Err e) = refl

-- the refusal of several trees
pub behind_refused : {A : Type 0} (told : Option TypeFault) (others : Judged A) → result_err (told_behind told others) ≡ merged told (result_err others)
behind_refused None others = refl
behind_refused (Some d) others = refl

-- those that are refused, together
pub behind_together : {A : Type 0} (a b : Option TypeFault) (others : Judged A) → told_behind a (told_behind b others) ≡ told_behind (merged a b) others
behind_together None b others = refl
behind_together (Some d) None others = refl
behind_together (Some d) (Some e) (Ok x) = refl
behind_together (Some d) (Some e) (Err f) = ap (λ o. Err (error_or d o)) (merged_together (Some d) (Some e) (Some f)) where
  error_or : TypeFault → Option TypeFault → TypeFault
  error_or k (Some g) = g
  error_or k None = k
