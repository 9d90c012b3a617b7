-- What the run of a text's plain code tells of the text.
use Rattle.std.proofs.Common.{◌≡◌, ℕ, ◌+◌, ◌≤◌, List, [], ◌++◌, length, Option, Some, Result, Ok, Err, inl, inr, refl, ap, ◌∙◌, sym, subst, arith}
use Rattle.std.proofs.KnownBytes.{Appends-nil}
use Rattle.std.specs.Io.KnownBytes.{Appends}
use Rattle.mach_core.specs.declared.run.RunEnd.{RunEnd}
use Rattle.mach_core.specs.Ran as machine
use Rattle.mach_core.specs.Ran.{OnInput, Ran, RanBroken, RanFewer}
use Rattle.mach_core.specs.Rule.{Rule, Moment, run}
use Rattle.c_syntax.specs.Plain.{CUnit}
use Rattle.c_eval.specs.Meaning.{Meaning, meaning_of}
use Rattle.c_rule.specs.Laws.{text_code, text_start}
use Rattle.c_rule.proofs.Whole.{rule_means_text, runs_begin_meanings}
use Rattle.c_rule.proofs.Units.{reads_behind_units}
use Rattle.c_plain.specs.Machine.{Config}
use Rattle.c_plain.specs.Program.{Program}
use Rattle.c_plain.specs.Rule.{rule_of, nothing_yet, opening_call}
use Rattle.c_tracks.specs.Starts.{IsOfText}
use Rattle.c_tracks.proofs.Whole.{runs}
use Rattle.c_tracks.proofs.Starting.{starts}
use Rattle.c_run.specs.declared.run.CEnd.{CEnd}
use Rattle.c_run.specs.Ends.{c_end}
use Rattle.c_run.specs.declared.run.CFault.{CFault}
use Rattle.c_run.specs.declared.run.CFault.TheVariants.{Read, Write, Memory}
use Rattle.c_run.specs.Machine.{MachineAnswers}
use Rattle.c_run.specs.Runs.{Tells, TellsFront, AsksBehind, TellsBroken, LacksByte, OnSource, OnSink, Answers}
use Rattle.c_run.proofs.Carried.{ended, ran_on, broken, fewer, unbegun, wants_both}
use Rattle.c_run.proofs.Ending.{none_read}

abbrev start_of : Program → ℕ → Config
start_of p fuel = (opening_call p (nothing_yet p fuel)).config

module _ (names : List (List ℕ)) (p : Program) (u : CUnit) (fuel : ℕ) (is : IsOfText names p u) (goes : Rule Config) (start : Config) (e : goes ≡ rule_of p) (g : start ≡ start_of p fuel) (left left' before after : Option (List ℕ)) where
  pub text_ended : (limit : ℕ) (end : RunEnd) (c : CEnd) (now : Config) → c_end end ≡ Some c
      → OnInput left left' (λ input given. Ran goes start left left' input given limit end now before after) → OnInput left left' (λ input given. Tells (meaning_of u input fuel) left left' given c before after)
  text_ended limit end c now h (input, given, begins, r) = (
    input,
    given,
    begins,
    ended names p (text_code u) is.code input (text_start u fuel) (start_of p fuel) (starts names p u fuel is) (meaning_of u input fuel) (rule_means_text u input fuel) (runs_begin_meanings u input fuel) left left' given limit end c now before after h
        (subst (λ (q : Rule Config). Ran q (start_of p fuel) left left' input given limit end now before after) e (subst (λ (k : Config). Ran goes k left left' input given limit end now before after) g r)),
  )

  pub text_going : (limit : ℕ) (end : RunEnd) (now : Config)
      → OnInput left left' (λ input given. Ran goes start left left' input given limit end now before after) → OnInput left left' (λ input given. TellsFront (meaning_of u input fuel) left left' given before after)
  text_going limit end now (input, given, begins, r) = (
    input,
    given,
    begins,
    ran_on names p (text_code u) is.code input (text_start u fuel) (start_of p fuel) (starts names p u fuel is) (meaning_of u input fuel) (rule_means_text u input fuel) (runs_begin_meanings u input fuel) left left' given limit end now before after
        (subst (λ (q : Rule Config). Ran q (start_of p fuel) left left' input given limit end now before after) e (subst (λ (k : Config). Ran goes k left left' input given limit end now before after) g r)),
  )

  -- what was asked for
  asked : (input given : List ℕ) (count : ℕ) → machine.AsksBehind (rule_of p) (start_of p fuel) left left' input given count before after → AsksBehind u fuel left left' input given before after
  asked input given count (inl none) = inl none
  asked input given count (inr r) =
      let same = runs names p (text_code u) is.code _ _ input r.asked (starts names p u fuel is) in
      let both = wants_both names p (text_code u) is.code _ _ (run (rule_of p) (start_of p fuel) input r.asked).config same refl r.going r.wants in
      let w = reads_behind_units u input fuel r.asked both.0 both.1 in
      let at : (run (rule_of p) (start_of p fuel) input r.asked).taken ≡ (meaning_of u input w.units).taken = same.taken ∙ sym (ap (λ (m : Meaning). m.taken) w.before) in
      inr (record {
        units = w.units;
        below = w.below;
        going = ap (λ (m : Meaning). m.end) w.before;
        behind = w.behind ∙ ap (λ (n : ℕ). n + 1) (sym (ap (λ (m : Meaning). m.taken) w.before));
        few = subst (λ (n : ℕ). length given ≤ n + 4096) at r.few;
        more = r.more;
        got = subst (λ (xs : List ℕ). Appends before after (xs ++ r.more)) (same.output ∙ sym (ap (λ (m : Meaning). m.output) w.before)) r.got;
      })

  pub text_broken : (limit : ℕ) (now : Config)
      → OnInput left left' (λ input given. RanBroken goes start left left' input given limit now before after) → OnInput left left' (λ input given. TellsBroken u fuel left left' input given before after)
  text_broken limit now (input, given, begins, r) =
      let ran : RanBroken (rule_of p) (start_of p fuel) left left' input given limit now before after =
      subst (λ (q : Rule Config). RanBroken q (start_of p fuel) left left' input given limit now before after) e (subst (λ (k : Config). RanBroken goes k left left' input given limit now before after) g r)
      in (
        input,
        given,
        begins,
        record {
          front = broken names p (text_code u) is.code input (text_start u fuel) (start_of p fuel) (starts names p u fuel is) (meaning_of u input fuel) (rule_means_text u input fuel) (runs_begin_meanings u input fuel) left left' given limit now before after ran;
          asks = asked input given ran.count ran.asks;
        },
      )

  pub text_stopped : (limit : ℕ) (now : Config)
      → OnInput left left' (λ input given. RanFewer goes start left left' input given limit now before after) → OnInput left left' (λ input given. TellsFront (meaning_of u input fuel) left left' given before after)
  text_stopped limit now (input, given, begins, r) = (
    input,
    given,
    begins,
    fewer names p (text_code u) is.code input (text_start u fuel) (start_of p fuel) (starts names p u fuel is) (meaning_of u input fuel) (rule_means_text u input fuel) (runs_begin_meanings u input fuel) left left' given limit now before after
        (subst (λ (q : Rule Config). RanFewer q (start_of p fuel) left left' input given limit now before after) e (subst (λ (k : Config). RanFewer goes k left left' input given limit now before after) g r)),
  )

  lacks : (limit : ℕ) (now : Config) → machine.LacksByte (rule_of p) (start_of p fuel) limit left left' now before after → LacksByte u fuel left left' before after
  lacks limit now r =
      let same = runs names p (text_code u) is.code _ _ r.given r.count (starts names p u fuel is) in
      let both = wants_both names p (text_code u) is.code _ _ now same r.config r.going r.wants in
      let w = reads_behind_units u r.given fuel r.count both.0 both.1 in
      record {
        given = r.given;
        consumed = r.consumed;
        bytes = r.bytes;
        units = w.units;
        below = w.below;
        going = ap (λ (m : Meaning). m.end) w.before;
        taken = ap (λ (m : Meaning). m.taken) w.before ∙ (sym same.taken ∙ r.taken);
        output = subst (λ (xs : List ℕ). Appends before after xs) (same.output ∙ sym (ap (λ (m : Meaning). m.output) w.before)) r.output;
        behind = w.behind ∙ ap (λ (n : ℕ). n + 1) (sym same.taken ∙ r.taken);
      }

  pub text_lacks : (limit : ℕ) (now : Config) → machine.LacksByte goes start limit left left' now before after → LacksByte u fuel left left' before after
  text_lacks limit now r =
      lacks limit now (subst (λ (q : Rule Config). machine.LacksByte q (start_of p fuel) limit left left' now before after) e (subst (λ (k : Config). machine.LacksByte goes k limit left left' now before after) g r))

-- no machine was made: the run stands at its start
pub machine_unbegun : {C : Type 0} (rule : Rule C) (start : C) (left before : Option (List ℕ)) → OnInput left left (λ input given. Ran rule start left left input given 0 (machine.end_of (rule.standing start)) start before before)
machine_unbegun rule start left before = let r = none_read left in (r.0, [], r.1, record { stands = refl; config = refl; needed = record { few = omega arith; none = λ e. (refl, refl) }; output = Appends-nil before })

-- an answer by equal rules from equal starts
pub answers_at : {C : Type 0} (rule rule' : Rule C) (start start' : C) → rule ≡ rule' → start ≡ start' → (result : Result CEnd CFault) (input : OnSource) (out : OnSink) → MachineAnswers rule start result input out → MachineAnswers rule' start' result input out
answers_at {C} rule rule' start start' e g result input out h = subst (λ (q : Rule C). MachineAnswers q start' result input out) e (subst (λ (k : C). MachineAnswers rule k result input out) g h)

pub text_unbegun : (u : CUnit) (fuel : ℕ) (left before : Option (List ℕ)) → OnInput left left (λ input given. TellsFront (meaning_of u input fuel) left left given before before)
text_unbegun u fuel left before = let r = none_read left in (r.0, [], r.1, unbegun (meaning_of u r.0 fuel) left before (Appends-nil before))

pub text_answers : (names : List (List ℕ)) (p : Program) (u : CUnit) (fuel : ℕ) → IsOfText names p u → (goes : Rule Config) (start : Config) → goes ≡ rule_of p → start ≡ start_of p fuel → (result : Result CEnd CFault) (input : OnSource) (out : OnSink)
    → MachineAnswers goes start result input out → Answers u fuel result input out
text_answers names p u fuel is goes start e g (Ok c) input out (limit, end, now, h, r) = text_ended names p u fuel is goes start e g input.left input.left_after out.got out.got_after limit end c now h r
text_answers names p u fuel is goes start e g (Err Read) input out (rose, (limit, now, r)) = (rose, text_lacks names p u fuel is goes start e g input.left input.left_after out.got out.got_after limit now r)
text_answers names p u fuel is goes start e g (Err Write) input out (rose, (limit, now, r)) = (rose, text_broken names p u fuel is goes start e g input.left input.left_after out.got out.got_after limit now r)
text_answers names p u fuel is goes start e g (Err Memory) input out (inl (limit, now, r)) = text_stopped names p u fuel is goes start e g input.left input.left_after out.got out.got_after limit now r
text_answers names p u fuel is goes start e g (Err Memory) input out (inr (limit, end, now, r)) = text_going names p u fuel is goes start e g input.left input.left_after out.got out.got_after limit end now r
