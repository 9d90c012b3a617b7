-- Places of the text behind statements.
use Rattle.std.proofs.Common.{◌≡◌, ◌+◌, ℕ, false, List, [], ◌∷◌, ◌++◌, length, Option, Some, None, refl, sym, ap, ◌∙◌, arith, length-append}
use Rattle.std.specs.Prelude.{Ok, Err, not}
use Rattle.std.specs.Option.{option_map_or}
use Rattle.std.proofs.lemmas.Bool.{false≢true}
use Rattle.c_syntax.specs.Plain as plain
use Rattle.c_syntax.specs.Plain.{CExpr, CValue, CDecl, CStmt, CStmts, CPart, CParts}
use Rattle.c_syntax.specs.View.{stmt_of}
use Rattle.c_syntax.specs.declared.tree.Stmts.{Stmts}
use Rattle.c_syntax.specs.declared.tree.Stmt.{Stmt, Block', If', None', Some', out-Stmt, roll-Stmt, roll-out-Stmt}
use Rattle.c_syntax.specs.declared.tree.Stmt.TheVariants as stmt
use Rattle.c_types.specs.declared.fault.TypeFault.{TypeFault}
use Rattle.c_types.specs.declared.fault.TypeFault.TheVariants as fault
use Rattle.c_types.specs.Types.{CType}
use Rattle.c_types.specs.Refusals.{Judged, Rule, after, keeping, broken}
use Rattle.c_types.specs.Scope.{Scope, Object, with_name, is_declared_here}
use Rattle.c_types.specs.Declarations.{scope_or, declared, declared_type, declared_object, first_fitting}
use Rattle.c_types.specs.Census.{scope_behind, scope_behind_all, scope_behind_head, scope_behind_part}
use Rattle.c_eval.specs.Environment.{Environment, behind_literals, past_maybe, past_first, past_stmt, declaring, behind, behind_part, behind_all}
use Rattle.c_eval.specs.LiteralsIn.{maybe_literals}
use Rattle.c_fitting.specs.Blocks.{IsNoDeclaration}
use Rattle.c_lowered.specs.Locations.{Linking}
use Rattle.c_lowered.specs.Counts.{stmt_jumps}
use Rattle.c_lowered.specs.Statements.{Targets, for_code, stmt_code}

first_scope : (o : Option CValue) (here : Environment) → (past_first o here).scope ≡ here.scope
first_scope None here = refl
first_scope (Some v) here = refl

pub behind_scope : (t : CStmt) (here : Environment) → (behind t here).scope ≡ scope_behind here.scope t
behind_scope (plain.Local d) here = first_scope d.first (declaring d here)
behind_scope plain.Empty here = refl
behind_scope _ here = refl

pub part_scope : (p : CPart) (here : Environment) → (behind_part p here).scope ≡ scope_behind_part here.scope p
part_scope (plain.Label at e) here = refl
part_scope (plain.Item t) here = behind_scope t here

pub behind_all_scope : (ts : CStmts) (here : Environment) → (behind_all ts here).scope ≡ scope_behind_all here.scope ts
behind_all_scope plain.NoStmt here = refl
behind_all_scope (plain.MoreStmt t ts) here = behind_all_scope ts (behind t here) ∙ ap (λ (s : Scope). scope_behind_all s ts) (behind_scope t here)

-- behind what declares nothing, literals alone are more
pub past_is : (t : CStmt) (here : Environment) → IsNoDeclaration t → behind t here ≡ past_stmt t here
past_is (plain.Local d) here none = absurd (false≢true (sym none))
past_is plain.Empty here none = refl
past_is _ here none = refl

pub behind_both : (ls ms : List (List ℕ)) (here : Environment) → behind_literals ms (behind_literals ls here) ≡ behind_literals (ls ++ ms) here
behind_both ls ms here =
    let k = length-append ls ms in
    let count : here.literals_before + length ls + length ms ≡ here.literals_before + length (ls ++ ms) = omega (arith, k) in
    ap (λ (n : ℕ). record here { literals_before = n }) count

pub same_place : (here : Environment) → behind_literals [] here ≡ here
same_place here =
    let count : here.literals_before + 0 ≡ here.literals_before = omega arith in
    ap (λ (n : ℕ). record here { literals_before = n }) count

pub maybe_place : (o : Option CExpr) (here : Environment) → behind_literals (maybe_literals here.scope o) here ≡ past_maybe o here
maybe_place None here = same_place here
maybe_place (Some e) here = refl

pub three_behind : (ls ms ns : List (List ℕ)) (here : Environment) → behind_literals ns (behind_literals ms (behind_literals ls here)) ≡ behind_literals (ls ++ (ms ++ ns)) here
three_behind ls ms ns here = behind_both ms ns (behind_literals ls here) ∙ behind_both ls (ms ++ ns) here

pub four_behind : (ls ms ns os : List (List ℕ)) (here : Environment) → behind_literals os (behind_literals ns (behind_literals ms (behind_literals ls here))) ≡ behind_literals (ls ++ (ms ++ (ns ++ os))) here
four_behind ls ms ns os here = three_behind ms ns os (behind_literals ls here) ∙ behind_both ls (ms ++ (ns ++ os)) here

pub length_three : (ls ms ns : List (List ℕ)) → length ls + (length ms + length ns) ≡ length (ls ++ (ms ++ ns))
length_three ls ms ns =
    let j = length-append ms ns in
    let k = length-append ls (ms ++ ns) in
    omega (arith, j, k)

pub length_four : (ls ms ns os : List (List ℕ)) → length ls + (length ms + (length ns + length os)) ≡ length (ls ++ (ms ++ (ns ++ os)))
length_four ls ms ns os =
    let i = length-append ns os in
    let j = length-append ms (ns ++ os) in
    let k = length-append ls (ms ++ (ns ++ os)) in
    omega (arith, i, j, k)

-- ---- the head of a `for`

-- a statement that is no block
abbrev pub no_block : CStmt → Type 0
no_block (plain.Block ss) = ⊥
no_block _ = Unit {0}

pub other_code : (first : CStmt) (test step : Option CExpr) (t : CStmt) (w : Linking) (here : Environment) (k d : ℕ) (to : Targets) → no_block first
    → stmt_code (plain.For first test step t) w here k d to ≡ stmt_code first w here k d to ++ for_code (k + stmt_jumps first) test step t w (behind first here) d (λ inner at around. stmt_code t w inner at d around)
other_code (plain.Block ss) test step t w here k d to other = absurd other
other_code plain.Empty test step t w here k d to other = refl
other_code _ test step t w here k d to other = refl

pub other_scope : (s : Scope) (first : CStmt) → no_block first → IsNoDeclaration first → scope_behind_head s first ≡ s
other_scope s (plain.Block ss) other none = absurd other
other_scope s (plain.Local d) other none = absurd (false≢true (sym none))
other_scope s plain.Empty other none = refl
other_scope s _ other none = refl

pub other_block : (x : Stmt) → ((all : Stmts) → x ≡ stmt.Block all → ⊥) → no_block (stmt_of x)
unfolding roll-Stmt out-Stmt denote.Hole.Carrier.roll denote.Hole.Carrier.out
other_block (Block' shape row) h = absurd (h _ (sym (roll-out-Stmt (Block' shape row)) ∙ sym (stmt.rolls-Block _)))
other_block (If' e p t None') h = tt
other_block (If' e p t (Some' q u)) h = tt
other_block _ h = tt

-- ---- tags

-- a declaration leaves the tags as they are
abbrev keeps_tags : Scope → Judged Scope → Type 0
keeps_tags s p = (scope_or s p).tags ≡ s.tags

by_rules : (o : Option TypeFault) (s : Scope) (d : CDecl) (t : CType) → keeps_tags s (option_map_or (λ e. Err e) o (Ok (with_name s d.name (Object t))))
by_rules None s d t = refl
by_rules (Some e) s d t = refl

by_value : {A : Type 0} (p : Judged A) (rules : List Rule) (s : Scope) (d : CDecl) (t : CType) → keeps_tags s (after p (λ _. keeping rules (with_name s d.name (Object t))))
by_value (Ok a) rules s d t = by_rules (broken rules) s d t
by_value (Err e) rules s d t = refl

by_type : (p : Judged CType) (s : Scope) (d : CDecl) → ((t : CType) → keeps_tags s (declared_object s false d t)) → keeps_tags s (after p (λ t. declared_object s false d t))
by_type (Ok t) s d each = each t
by_type (Err e) s d each = refl

pub declared_tags : (s : Scope) (d : CDecl) → (scope_or s (declared s false d)).tags ≡ s.tags
declared_tags s d =
    by_type (declared_type s d) s d (λ t.
    by_value {A = Unit {0}} (first_fitting (with_name s d.name (Object t)) (record { file = false; pos = d.pos }) t d.first) ((not (is_declared_here s d.name), fault.Twice d.pos) ∷ []) s d t)
