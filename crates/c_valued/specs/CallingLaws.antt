-- What holds of the code of calls, and of that of all expressions.
use Rattle.std.specs.Prelude.{◌≡◌, ℕ, ◌+◌, ◌^◌, ◌<◌, ◌≤◌, Bool, true}
use Rattle.c_syntax.specs.Plain as plain
use Rattle.c_syntax.specs.Plain.{CExpr, CExprs}
use Rattle.c_eval.specs.Environment.{Environment, past, Callee, callee_in}
use Rattle.c_eval.specs.LiteralsIn.{literals_in}
use Rattle.c_eval.specs.Eval.{World, values_of}
use Rattle.c_helpers.specs.Frames.{beyond, waiting_all}
use Rattle.c_lowered.specs.Counts.{exprs_jumps}
use Rattle.c_lowered.specs.Expressions.{known_name, arguments_code}
use Rattle.c_landing.specs.Landing.{Setting, placed, Lands}
use Rattle.c_landing.specs.Few.{Agrees, LiteralsAre, IsFew}
use Rattle.c_valued.specs.Steps.{all_steps}
use Rattle.c_valued.specs.Laws.{Valued}
use Rattle.c_valued.specs.Calls.{InFrame, CallsLand, KnownIsFunction, HasWords, OfPointer, CallsAre, ArgumentsValued}

-- arguments come into the frame's words from d on, and a call lands as any other expression
pub record CallCodeLandsIn (S : Setting) (w : World) (u : ℕ) (may : Callee → Bool) : Type 0 where
  pub arguments : (es : CExprs) (site : Environment) → ArgumentsValued S w u es site → (b c k d n i o : ℕ) → waiting_all b c es ≤ n + b → k + exprs_jumps es < 2 ^ 24
      → Lands S (arguments_code es S.linking (placed S.coded i site) k d) k d n (all_steps u es) (values_of es w (placed S.named o site)) (InFrame S d)
  pub call : (at : ℕ) (f : CExpr) (es : CExprs) (site : Environment) → CallsLand S w u may → LiteralsAre S.ground w.owner (literals_in site.scope (plain.Call at f es)) site.literals_before → may (callee_in site.scope f) ≡ true
      → KnownIsFunction (known_name f) (callee_in site.scope f) → OfPointer (callee_in site.scope f) (Valued S w u f site) → HasWords (callee_in site.scope f) (waiting_all 1 (beyond f) es) → ArgumentsValued S w u es (past f site) → Valued S w u (plain.Call at f es) site

abbrev pub CallCodeLands : Type 0
CallCodeLands = (S : Setting) (w : World) (u : ℕ) (may : Callee → Bool) → Agrees S w → CallCodeLandsIn S w u may

abbrev pub ExpressionsLand : Type 0
ExpressionsLand =
    (S : Setting) (w : World) (u : ℕ) (may : Callee → Bool) (e : CExpr) (site : Environment) → Agrees S w → CallsLand S w u may → CallsAre may S.ground.valued e site.scope → IsFew e S.ground.valued site.scope
    → LiteralsAre S.ground w.owner (literals_in site.scope e) site.literals_before → Valued S w u e site
