-- What a parser answers.
use Rattle.std.specs.Prelude.{◌≡◌, ℕ, ◌<◌, ◌≤◌, List, [], ◌∷◌, ◌++◌, length, take, Some, None, Result, Ok, Err}
use Rattle.c_syntax.specs.declared.token.Token.{Token}
use Rattle.c_syntax.specs.Plain.{CUnit}
use Rattle.c_syntax.specs.View.{unit_of}
use Rattle.c_syntax.specs.declared.tree.Unit.{Unit as TheUnit}
use Rattle.c_grammar.specs.declared.names.Class.TheVariants as class
use Rattle.c_grammar.specs.Class.{class_of}
use Rattle.c_grammar.specs.Spells.{IsShallowBefore, IsSyntaxAt, IsTooDeepAt, IsUnitWithin}
use Rattle.c_grammar.specs.Values as machine
use Rattle.c_grammar.specs.Values.{depth_of}
use Rattle.c_frames.specs.Stack.{AreSound, opens}
use Rattle.c_frames.specs.declared.frame.Frame.{Frame}
use Rattle.c_parse.specs.declared.fault.ParseFault.{ParseFault}
use Rattle.c_parse.specs.declared.fault.ParseFault.TheVariants.{Syntax, TooDeep, TooLarge, Memory}

-- the last token is a text's end
pub record EndsInEnd (ts : List Token) : Type 0 where
  pub before : List Token
  pub last : Token
  pub tokens_are : ts ≡ before ++ last ∷ []
  pub is_end : class_of last ≡ class.End

-- at most 1,000,000 tokens before the end
abbrev pub IsSmall : List Token → Type 0
IsSmall ts = length ts ≤ 1000001

-- the tokens are a unit within the limits; or this is why not
abbrev pub Parses : List Token → Result CUnit ParseFault → Type 0
Parses ts (Ok tree) = IsSmall ts × IsUnitWithin ts tree
Parses ts (Err (Syntax p)) = IsSmall ts × IsSyntaxAt ts p
Parses ts (Err (TooDeep p)) = IsSmall ts × IsTooDeepAt ts p
Parses ts (Err TooLarge) = 1000001 < length ts
Parses ts (Err Memory) = ⊥

-- an answer is this one, unless memory ran out
abbrev pub IsUnlessMemory : Result CUnit ParseFault → Result CUnit ParseFault → Type 0
IsUnlessMemory (Err Memory) r = Unit {0}
IsUnlessMemory a r = a ≡ r

abbrev pub answered : Result TheUnit ParseFault → Result CUnit ParseFault
answered (Ok u) = Ok (unit_of u)
answered (Err e) = Err e

-- why reading stops, where there are not too many
abbrev pub Fails : List Token → ParseFault → Type 0
Fails ts (Syntax p) = IsSyntaxAt ts p
Fails ts (TooDeep p) = IsTooDeepAt ts p
Fails ts TooLarge = ⊥
Fails ts Memory = Unit {0}

-- an answer is right, or memory ran out
abbrev pub IsRight : List Token → Result CUnit ParseFault → Type 0
IsRight ts (Err Memory) = Unit {0}
IsRight ts r = Parses ts r

-- the tokens before token k were read, none of them nested too deep
pub record IsRead (ts : List Token) (k : ℕ) (fs : List Frame) : Type 0 where
  pub reads : machine.run (take k ts) machine.start ≡ Some (opens fs [])
  pub sound : AreSound fs []
  pub shallow : IsShallowBefore ts k

-- a token was read that is not nested too deep
pub record ReadsOn (t : Token) (old fs : List Frame) : Type 0 where
  pub steps : machine.step (opens old []) t ≡ Some (opens fs [])
  pub depth : depth_of (opens fs []) ≤ 256
  pub sound : AreSound fs []

-- or this is why not
abbrev pub Refuses : ParseFault → Token → List Frame → List Frame → Type 0
Refuses (Syntax p) t old fs = (machine.step (opens old []) t ≡ None) × (t.pos ≡ p)
Refuses (TooDeep p) t old fs = (machine.step (opens old []) t ≡ Some (opens fs [])) × (256 < depth_of (opens fs [])) × (t.pos ≡ p)
Refuses TooLarge t old fs = ⊥
Refuses Memory t old fs = Unit {0}
