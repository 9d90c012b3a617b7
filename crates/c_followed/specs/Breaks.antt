-- Where `break` and `continue` stand.
use Rattle.std.specs.Prelude.{◌≡◌, ℕ, Bool, true}
use Rattle.c_syntax.specs.Plain as plain
use Rattle.c_syntax.specs.Plain.{CStmt, CStmts, CPart, CParts}
use Rattle.c_eval.specs.State.{State, Outcome, Gives, Ended, Going, Undefined}
use Rattle.c_eval.specs.Environment.{Environment}
use Rattle.c_eval.specs.Eval.{World, Flow, Broke, Continued, does}

abbrev mutual
  -- a `break` stands in a loop or a `switch`, and a `continue` in a loop, or else where such may stand
  pub BreaksAreIn : (breaks continues : Bool) → CStmt → Type 0
  BreaksAreIn b c (plain.Block ss) = AllBreaksAreIn b c ss
  BreaksAreIn b c (plain.If e t) = BreaksAreIn b c t
  BreaksAreIn b c (plain.IfElse e t u) = BreaksAreIn b c t × BreaksAreIn b c u
  BreaksAreIn b c (plain.While e t) = BreaksAreIn true true t
  BreaksAreIn b c (plain.Do t e) = BreaksAreIn true true t
  BreaksAreIn b c (plain.For first test step t) = BreaksAreIn b c first × BreaksAreIn true true t
  BreaksAreIn b c (plain.Break at) = b ≡ true
  BreaksAreIn b c (plain.Continue at) = c ≡ true
  BreaksAreIn b c (plain.Switch e ps) = PartsBreakIn true c ps
  BreaksAreIn b c t = Unit {0}

  pub AllBreaksAreIn : (breaks continues : Bool) → CStmts → Type 0
  AllBreaksAreIn b c plain.NoStmt = Unit {0}
  AllBreaksAreIn b c (plain.MoreStmt t ts) = BreaksAreIn b c t × AllBreaksAreIn b c ts

  pub PartBreaksIn : (breaks continues : Bool) → CPart → Type 0
  PartBreaksIn b c (plain.Label at e) = Unit {0}
  PartBreaksIn b c (plain.Item t) = BreaksAreIn b c t

  pub PartsBreakIn : (breaks continues : Bool) → CParts → Type 0
  PartsBreakIn b c plain.NoPart = Unit {0}
  PartsBreakIn b c (plain.MorePart p ps) = PartBreaksIn b c p × PartsBreakIn b c ps

-- a flow that may leave
abbrev pub MayLeave : (breaks continues : Bool) → Flow → Type 0
MayLeave b c Broke = b ≡ true
MayLeave b c Continued = c ≡ true
MayLeave b c flow = Unit {0}

-- what gives a flow gives one that may leave
abbrev pub Leaves : (breaks continues : Bool) → Outcome Flow → Type 0
Leaves b c (Gives flow st) = MayLeave b c flow
Leaves b c (Ended st) = Unit {0}
Leaves b c (Going st) = Unit {0}
Leaves b c (Undefined act st) = Unit {0}

-- a statement leaves by no other `break` or `continue`; so a function's body ends or returns
abbrev pub BreaksStay : Type 0
BreaksStay = (b c : Bool) (t : CStmt) → BreaksAreIn b c t → (deep : ℕ) (w : World) (here : Environment) (st : State) → Leaves b c (does t deep w here st)
