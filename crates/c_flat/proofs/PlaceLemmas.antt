-- Places of the text behind statements.
use Rattle.std.proofs.Common.{◌≡◌, ◌+◌, ℕ, List, [], ◌∷◌, ◌++◌, length, Option, Some, None, refl, ap, ◌∙◌, arith, length-append}
use Rattle.c_syntax.specs.Plain as plain
use Rattle.c_syntax.specs.Plain.{CExpr, CValue, CStmt, CStmts, CPart, CParts}
use Rattle.c_types.specs.Scope.{Scope}
use Rattle.c_types.specs.Census.{scope_behind, scope_behind_all, scope_behind_head, scope_behind_part}
use Rattle.c_eval.specs.State.{Cell}
use Rattle.c_eval.specs.Environment.{Environment, behind_literals, past_maybe, past_first, past_stmt, declaring, behind, behind_part, behind_all, objects_in}
use Rattle.c_eval.specs.LiteralsIn.{maybe_literals, first_literals}
use Rattle.c_code.specs.Code.{Instruction, Site, stmt_code, loop_code, maybe_test_code, maybe_effect_code}
use Rattle.c_fitting.specs.Whole.{TakesNoSlot}

first_scope : (o : Option CValue) (here : Environment) → (past_first o here).scope ≡ here.scope
first_scope None here = refl
first_scope (Some v) here = refl

pub behind_scope : (t : CStmt) (here : Environment) → (behind t here).scope ≡ scope_behind here.scope t
behind_scope (plain.Local d) here = first_scope d.first (declaring d here)
behind_scope plain.Empty here = refl
behind_scope _ here = refl

pub part_scope : (p : CPart) (here : Environment) → (behind_part p here).scope ≡ scope_behind_part here.scope p
part_scope (plain.Label at e) here = refl
part_scope (plain.Item t) here = behind_scope t here

pub behind_all_scope : (ts : CStmts) (here : Environment) → (behind_all ts here).scope ≡ scope_behind_all here.scope ts
behind_all_scope plain.NoStmt here = refl
behind_all_scope (plain.MoreStmt t ts) here = behind_all_scope ts (behind t here) ∙ ap (λ (s : Scope). scope_behind_all s ts) (behind_scope t here)

-- behind what declares nothing, literals alone are more
pub past_is : (t : CStmt) (here : Environment) → TakesNoSlot t → behind t here ≡ past_stmt t here
past_is (plain.Local d) here none = absurd (omega (arith, none))
past_is plain.Empty here none = refl
past_is _ here none = refl

pub no_objects : (s : Scope) (t : CStmt) → TakesNoSlot t → objects_in s t ≡ []
no_objects s (plain.Local d) none = absurd (omega (arith, none))
no_objects s plain.Empty none = refl
no_objects s _ none = refl

pub behind_both : (ls ms : List (List ℕ)) (here : Environment) → behind_literals ms (behind_literals ls here) ≡ behind_literals (ls ++ ms) here
behind_both ls ms here =
    let k = length-append ls ms in
    let count : here.literals_before + length ls + length ms ≡ here.literals_before + length (ls ++ ms) = omega (arith, k) in
    ap (λ (n : ℕ). record here { literals_before = n }) count

pub same_place : (here : Environment) → behind_literals [] here ≡ here
same_place here =
    let count : here.literals_before + 0 ≡ here.literals_before = omega arith in
    ap (λ (n : ℕ). record here { literals_before = n }) count

pub maybe_place : (o : Option CExpr) (here : Environment) → behind_literals (maybe_literals here.scope o) here ≡ past_maybe o here
maybe_place None here = same_place here
maybe_place (Some e) here = refl

pub first_place : (o : Option CValue) (here : Environment) → behind_literals (first_literals here.scope o) here ≡ past_first o here
first_place None here = same_place here
first_place (Some v) here = refl

-- ---- the head of a `for`

-- a statement that is no block
abbrev pub no_block : CStmt → Type 0
no_block (plain.Block ss) = ⊥
no_block _ = Unit {0}

pub other_code : (first : CStmt) (test step : Option CExpr) (t : CStmt) (free : ℕ) (site : Site) (here : Environment) → no_block first
    → stmt_code (plain.For first test step t) free site here
    ≡ stmt_code first free site here ++ loop_code (maybe_test_code test site (behind first here)) (maybe_effect_code step site (past_maybe test (behind first here))) (stmt_code t free site (past_maybe step (past_maybe test (behind first here))))
other_code (plain.Block ss) test step t free site here other = absurd other
other_code plain.Empty test step t free site here other = refl
other_code _ test step t free site here other = refl

pub other_scope : (s : Scope) (first : CStmt) → no_block first → TakesNoSlot first → scope_behind_head s first ≡ s
other_scope s (plain.Block ss) other none = absurd other
other_scope s (plain.Local d) other none = absurd (omega (arith, none))
other_scope s plain.Empty other none = refl
other_scope s _ other none = refl
