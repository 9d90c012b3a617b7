-- Calls of the function of `%s`, each turn of which spends a unit of the run and begins the second fuel anew.
use Rattle.std.specs.Prelude.{◌≡◌, ℕ, suc, ◌+◌, ◌^◌, ◌<◌, ◌≤◌, Bool, false, List, length, Some}
use Rattle.c_syntax.specs.Plain.{CExpr, CStmt, CStmts, NoStmt, MoreStmt, Block, While}
use Rattle.c_types.specs.Types.{CTypes}
use Rattle.c_eval.specs.State.{Value, Run}
use Rattle.c_eval.specs.Environment.{Environment, past, behind, in_block, Callee, Direct, callee_in}
use Rattle.c_eval.specs.Text.{Definition, Text, function_named}
use Rattle.c_eval.specs.Helpers.{Helpers, helper_world, helper_calls}
use Rattle.c_helpers.specs.Functions.{unit_name, piece_name, spend_unit, put_piece}
use Rattle.c_helpers.specs.Meanings.{known_to_helpers}
use Rattle.c_helpers.specs.Terms.{variable}
use Rattle.c_lowered.specs.Counts.{is_known_to_helpers}
use Rattle.c_lowered.specs.Locations.{Linking}
use Rattle.c_memory.specs.Follows.{worth}
use Rattle.c_landing.specs.Landing.{Names, Setting}
use Rattle.c_landing.specs.Few.{Agrees}
use Rattle.c_valued.specs.Steps.{steps}
use Rattle.c_stated.specs.Statements.{stmt_need, stmt_steps, StmtsHas}
use Rattle.c_stated.specs.Texts.{ExprIs, DeclarationIs}
use Rattle.c_followed.specs.Breaks.{BreaksAreIn}
use Rattle.c_followed.specs.Bodies.{inside, beginning}
use Rattle.c_followed.specs.Framed.{CallLands, calling, MayCall, StandsThere}
use Rattle.c_followed.specs.Used.{in_helper, HelpersStand}
use Rattle.c_followed.specs.Printed.{AreStraight}

-- a turn: a unit, a character, and what then runs straight on
abbrev pub turn_of : CExpr → CStmts → CStmt
turn_of letter rest = Block (MoreStmt spend_unit (MoreStmt (put_piece letter) rest))

abbrev pub spelling : (test letter : CExpr) → CStmts → CStmt
spelling test letter rest = Block (MoreStmt (While test (turn_of letter rest)) NoStmt)

-- the places of its parts
abbrev pub test_site : Setting → Definition → Environment
test_site S f = in_block 0 (beginning S f)

abbrev pub turn_site : CExpr → Setting → Definition → Environment
turn_site test S f = in_block 0 (past test (test_site S f))

abbrev pub piece_site : CExpr → Setting → Definition → Environment
piece_site test S f = behind spend_unit (turn_site test S f)

abbrev pub letter_site : CExpr → Setting → Definition → Environment
letter_site test S f = past (variable piece_name) (piece_site test S f)

abbrev pub rest_site : (test letter : CExpr) → Setting → Definition → Environment
rest_site test letter S f = behind (put_piece letter) (piece_site test S f)

-- a function whose body is such a loop: its frame is at most its charge, a unit of the second fuel pays for a turn, and one of the run for the second fuel that begins there
pub record SpellerIs (S : Setting) (t : Text) (h : Helpers) (rate spare_rate : ℕ) (may : Callee → Bool) (name : List ℕ) (f : Definition) : Type 0 where
  pub found : function_named t name ≡ Some f
  pub test : CExpr
  pub letter : CExpr
  pub rest : CStmts
  pub body : f.body ≡ spelling test letter rest
  pub straight : AreStraight rest
  pub tests : (calls : List ℕ → List Value → Run Value) → ExprIs (inside S f) (helper_world t S.input name calls) may test (test_site S f)
  pub letters : (calls : List ℕ → List Value → Run Value) → ExprIs (inside S f) (helper_world t S.input name calls) may letter (letter_site test S f)
  pub goes_on : (calls : List ℕ → List Value → Run Value) → StmtsHas (λ e site. ExprIs (inside S f) (helper_world t S.input name calls) may e site) (λ d site. DeclarationIs (inside S f) (helper_world t S.input name calls) may d site) rest (rest_site test letter S f)
  pub unit_params : CTypes
  pub unit : callee_in (turn_site test S f).scope (variable unit_name) ≡ Direct unit_name unit_params
  pub piece_params : CTypes
  pub piece : callee_in (piece_site test S f).scope (variable piece_name) ≡ Direct piece_name piece_params
  pub breaks : BreaksAreIn false false f.body
  pub framed : suc (length f.params) + stmt_need (spelling test letter rest) (beginning S f) ≤ h.charge name
  pub paid : stmt_steps 0 (spelling test letter rest) (beginning S f) + 2 ≤ spare_rate
  pub refilled : steps 0 letter + 8 + worth spare_rate h.ration ≤ rate

-- a call of it lands in a use, where calls of the helper functions that it calls do
abbrev pub SpellersLand : Type 0
SpellersLand =
    (S : Setting) (t : Text) (h : Helpers) (rate spare_rate : ℕ) (may : Callee → Bool) → MayCall S may → HelpersStand S t h spare_rate may → ((name : List ℕ) → h.known name ≡ known_to_helpers h.ration name)
    → (name : List ℕ) (f : Definition) → SpellerIs S t h rate spare_rate may name f → ((calls : List ℕ → List Value → Run Value) → Agrees (inside S f) (helper_world t S.input name calls)) → StandsThere S name f
    → (first bottom : ℕ) → bottom + 1024 < 2 ^ 24 → (deep roof : ℕ) (linking : Linking) (coded named : Names) → is_known_to_helpers name ≡ false → CallLands (calling (in_helper S rate spare_rate h.ration first bottom) deep roof linking coded named) name 0 (λ vs. helper_calls deep h t S.input name vs)
