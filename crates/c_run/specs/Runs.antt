-- What a call that ran a text has done, against what the text means.
use Rattle.std.specs.Prelude.{◌≡◌, ◌+◌, ◌<◌, ◌≤◌, ◌⊎◌, ℕ, List, [], ◌++◌, length, Result, Ok, Err}
use Rattle.std.specs.declared.option.Option.{Option}
use Rattle.std.specs.Io.KnownBytes.{Appends, Consumes}
use Rattle.mach_core.specs.Put.{GotPrefix}
use Rattle.mach_core.specs.Outside.{Rose}
use Rattle.mach_core.specs.Ran.{AsksAsNeeded, OnInput}
use Rattle.mach_core.specs.Rule.{IsInput}
use Rattle.c_syntax.specs.Plain.{CUnit}
use Rattle.c_eval.specs.Meaning.{Meaning, Going, meaning_of}
use Rattle.c_run.specs.declared.run.CEnd.{CEnd}
use Rattle.c_run.specs.declared.run.CFault.{CFault}
use Rattle.c_run.specs.declared.run.CFault.TheVariants.{Read, Write, Memory}
use Rattle.c_run.specs.Ends.{end_of}

-- it ended as the meaning says, out got the output, and no more of the input was asked for than was taken
pub record Tells (m : Meaning) (left left' : Option (List ℕ)) (given : List ℕ) (end : CEnd) (before after : Option (List ℕ)) : Type 0 where
  pub ends : end ≡ end_of m.end
  pub output : Appends before after m.output
  pub needed : AsksAsNeeded left left' given m.taken

-- out got a prefix of the output, and no more was asked for than is taken
pub record TellsFront (m : Meaning) (left left' : Option (List ℕ)) (given : List ℕ) (before after : Option (List ℕ)) : Type 0 where
  pub front : GotPrefix before after m.output
  pub needed : AsksAsNeeded left left' given m.taken

-- before this fuel was spent the last piece was asked for where the text takes one byte more with one unit more, when out had got all the output up to there
pub record AskedBehind (u : CUnit) (fuel : ℕ) (input given : List ℕ) (before after : Option (List ℕ)) : Type 0 where
  pub units : ℕ
  pub below : units < fuel
  pub going : (meaning_of u input units).end ≡ Going
  pub behind : (meaning_of u input (units + 1)).taken ≡ (meaning_of u input units).taken + 1
  pub few : length given ≤ (meaning_of u input units).taken + 4096
  pub more : List ℕ
  pub got : Appends before after ((meaning_of u input units).output ++ more)

-- the source wasn't asked, or it was so
abbrev pub AsksBehind : CUnit → ℕ → (left left' : Option (List ℕ)) → (input given : List ℕ) → (before after : Option (List ℕ)) → Type 0
AsksBehind u fuel left left' input given before after = ((given ≡ []) × (left' ≡ left)) ⊎ AskedBehind u fuel input given before after

-- out broke: it got a prefix of the output, and nothing was asked for behind the byte at which it broke
pub record TellsBroken (u : CUnit) (fuel : ℕ) (left left' : Option (List ℕ)) (input given : List ℕ) (before after : Option (List ℕ)) : Type 0 where
  pub front : TellsFront (meaning_of u input fuel) left left' given before after
  pub asks : AsksBehind u fuel left left' input given before after

-- the source gave some bytes: on these the text goes on still with some of the fuel and has taken exactly all of them, out got its output up to there, and with one unit more it takes one byte more
pub record LacksByte (u : CUnit) (fuel : ℕ) (left left' : Option (List ℕ)) (before after : Option (List ℕ)) : Type 0 where
  pub given : List ℕ
  pub consumed : Consumes left left' given
  pub bytes : IsInput given
  pub units : ℕ
  pub below : units < fuel
  pub going : (meaning_of u given units).end ≡ Going
  pub taken : (meaning_of u given units).taken ≡ length given
  pub output : Appends before after (meaning_of u given units).output
  pub behind : (meaning_of u given (units + 1)).taken ≡ length given + 1

-- ---- calls

-- a source before and after a call: its count of faults, and what is left of it
pub record OnSource : Type 0 where
  pub faults : ℕ
  pub faults_after : ℕ
  pub left : Option (List ℕ)
  pub left_after : Option (List ℕ)

-- a sink before and after a call: its count of faults, and what it got
pub record OnSink : Type 0 where
  pub faults : ℕ
  pub faults_after : ℕ
  pub got : Option (List ℕ)
  pub got_after : Option (List ℕ)

-- what the answer of a call that ran a text with so much fuel says: how the text's run ends, or that the source failed where a byte was wanted, that the sink failed, or that no memory was found
abbrev pub Answers : CUnit → ℕ → Result CEnd CFault → OnSource → OnSink → Type 0
Answers u fuel (Ok end) input out = OnInput input.left input.left_after (λ bytes given. Tells (meaning_of u bytes fuel) input.left input.left_after given end out.got out.got_after)
Answers u fuel (Err Read) input out = Rose input.faults input.faults_after × LacksByte u fuel input.left input.left_after out.got out.got_after
Answers u fuel (Err Write) input out = Rose out.faults out.faults_after × OnInput input.left input.left_after (λ bytes given. TellsBroken u fuel input.left input.left_after bytes given out.got out.got_after)
Answers u fuel (Err Memory) input out = OnInput input.left input.left_after (λ bytes given. TellsFront (meaning_of u bytes fuel) input.left input.left_after given out.got out.got_after)
