-- Uses of the functions of formats and of `puts`, in which the second fuel begins anew at each piece.
use Rattle.std.specs.Prelude.{◌≡◌, ℕ, suc, ◌+◌, ◌^◌, ◌<◌, ◌≤◌, Bool, true, false, List, length, Some, max}
use Rattle.mach_core.specs.Rule.{input_at}
use Rattle.c_syntax.specs.Plain.{CStmts, NoStmt, MoreStmt, Block, Do_expr, Return}
use Rattle.c_types.specs.Types.{CTypes}
use Rattle.c_eval.specs.State.{Value, Run}
use Rattle.c_eval.specs.Environment.{behind, in_block, Callee, Direct, Known, Format, Through}
use Rattle.c_eval.specs.Text.{Definition, Text, function_named}
use Rattle.c_eval.specs.Helpers.{Helpers, helper_world, helper_calls, helps_to}
use Rattle.c_helpers.specs.Functions.{spend_unit}
use Rattle.c_helpers.specs.Meanings.{known_to_helpers}
use Rattle.c_lowered.specs.Counts.{is_known_to_helpers}
use Rattle.c_lowered.specs.Locations.{Linking}
use Rattle.c_memory.specs.Follows.{worth, Mode}
use Rattle.c_memory.specs.Lies.{Whole}
use Rattle.c_landing.specs.Landing.{Names, Setting}
use Rattle.c_landing.specs.Few.{words_there, Agrees}
use Rattle.c_stated.specs.Statements.{stmt_need, stmts_steps}
use Rattle.c_stated.specs.Texts.{StatementIs}
use Rattle.c_followed.specs.Breaks.{BreaksAreIn}
use Rattle.c_followed.specs.Bodies.{inside, beginning}
use Rattle.c_followed.specs.Framed.{outside, CallLands, calling, FramesFit, StandsThere}
use Rattle.c_followed.specs.Used.{in_helper}
-- where a function that prints fails as its operator
pub use Rattle.c_failing.specs.Failing.{FailsAlike}

-- what a second fuel pays for is paid where it begins
abbrev pub in_pieces : (rate spare_rate ration : ℕ) → Mode
in_pieces rate spare_rate ration = record { pay = λ x. worth rate x.left + worth spare_rate x.spare; gauge = λ x. worth (suc ration) x.left + max ration x.spare }

-- expressions one behind the other, and `return`s
abbrev pub AreStraight : CStmts → Type 0
AreStraight NoStmt = Unit {0}
AreStraight (MoreStmt (Do_expr e) ts) = AreStraight ts
AreStraight (MoreStmt (Return at e) ts) = AreStraight ts
AreStraight _ = ⊥

-- a function that prints spends a unit first, and then runs straight on; its frame is at most its charge and its words in the caller's frame, and the unit pays for all of it
pub record PrinterIs (S : Setting) (t : Text) (h : Helpers) (pieces rate : ℕ) (may : Callee → Bool) (name : List ℕ) (f : Definition) : Type 0 where
  pub found : function_named t name ≡ Some f
  pub rest : CStmts
  pub body : f.body ≡ Block (MoreStmt spend_unit rest)
  pub straight : AreStraight rest
  pub is : (calls : List ℕ → List Value → Run Value) → StatementIs (inside S f) (helper_world t S.input name calls) may (Block (MoreStmt spend_unit rest)) (beginning S f)
  pub breaks : BreaksAreIn false false f.body
  pub framed : suc (length f.params) + stmt_need (Block (MoreStmt spend_unit rest)) (beginning S f) ≤ h.charge name + words_there name
  pub paid : stmts_steps pieces rest (behind spend_unit (in_block 0 (beginning S f))) ≤ rate

-- what functions that print call: helper functions, whose calls land in a use, and what these alone know, which costs what a second fuel pays for
pub record PiecesLand (S : Setting) (t : Text) (h : Helpers) (rate spare_rate pieces : ℕ) (may : Callee → Bool) : Type 0 where
  pub through : (params : CTypes) → may (Through params) ≡ false
  pub built_in : (name : List ℕ) (params : CTypes) → may (Known name params) ≡ false
  pub format : may Format ≡ false
  pub bytes : (i : ℕ) → input_at S.input i < 2 ^ 24
  pub known : (name : List ℕ) → h.known name ≡ known_to_helpers h.ration name
  pub paid : worth spare_rate h.ration ≤ pieces
  pub calls : (name : List ℕ) (params : CTypes) → may (Direct name params) ≡ true → is_known_to_helpers name ≡ false → (first bottom : ℕ) → bottom + 1024 < 2 ^ 24 → (deep roof : ℕ) (linking : Linking) (coded named : Names)
      → CallLands (calling (in_helper S rate spare_rate h.ration first bottom) deep roof linking coded named) name 0 (λ vs. helper_calls deep h t S.input name vs)

-- a use of a function that prints lands, which takes what its second fuel pays for at its begin
abbrev pub PrinterUsesLand : Type 0
PrinterUsesLand =
    (S : Setting) (t : Text) (h : Helpers) (first rate spare_rate pieces u : ℕ) (may : Callee → Bool) → S.ground.reach ≡ Whole → FramesFit S first → PiecesLand S t h rate spare_rate pieces may → 3 + worth spare_rate h.ration ≤ u
    → (deep roof : ℕ) (linking : Linking) (coded named : Names) (name : List ℕ) (f : Definition) (operator : List Value → Run Value) → PrinterIs S t h pieces rate may name f → ((calls : List ℕ → List Value → Run Value) → Agrees (inside S f) (helper_world t S.input name calls)) → StandsThere S name f → FailsAlike h t S.input name operator
    → CallLands (calling (outside S rate) deep roof linking coded named) name u (helps_to h t S.input name operator)
