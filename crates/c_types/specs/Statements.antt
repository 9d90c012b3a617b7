-- The statements of a function.
use Rattle.std.specs.Prelude.{ℕ, Bool, true, false, not, ◌==◌, List, [], ◌∷◌, ◌++◌, Option, Some, None, Ok, Err}
use Rattle.std.specs.Option.{option_map_or}
use Rattle.std.specs.List.{list_any}
use Rattle.c_syntax.specs.Plain as plain
use Rattle.c_syntax.specs.Plain.{CExpr, CStmt, CStmts, CPart, CParts}
use Rattle.c_types.specs.declared.fault.TypeFault.TheVariants as fault
use Rattle.c_types.specs.Types.{CType, is_void, is_arithmetic}
use Rattle.c_types.specs.Refusals.{Judged, Rule, after, both, all_three, keeping}
use Rattle.c_types.specs.Constants.{Constant, NotConstant, Undefined, Value}
use Rattle.c_types.specs.Scope.{Scope, entered}
use Rattle.c_types.specs.Operands.{Operand, value_type, is_condition, converts}
use Rattle.c_types.specs.Expressions.{judged}
use Rattle.c_types.specs.Declarations.{declared, scope_or}

-- what stands around a statement: the function's result, and whether a `continue` and a `break` have something to leave
pub record Around : Type 0 where
  pub result : CType
  pub continues : Bool
  pub breaks : Bool

abbrev pub in_loop : Around → Around
in_loop w = record w { continues = true; breaks = true }

abbrev pub in_switch : Around → Around
in_switch w = record w { breaks = true }

abbrev pub condition_rules : Operand → List Rule
condition_rules a = (is_condition a, fault.Mismatch a.pos) ∷ []

-- an expression that may be missing
abbrev pub maybe_judged : Scope → Option CExpr → Judged (Option Operand)
maybe_judged s None = Ok None
maybe_judged s (Some e) = after (judged s e) (λ a. Ok (Some a))

abbrev pub test_rules : Option Operand → List Rule
test_rules None = []
test_rules (Some a) = condition_rules a

-- a value that is given back converts to the function's result
abbrev pub return_rules : ℕ → CType → Option Operand → List Rule
return_rules at result None = (is_void result, fault.Mismatch at) ∷ []
return_rules at result (Some a) = (converts a result, fault.Mismatch at) ∷ []

-- a label of a `switch`: its place, and the expression of a case
pub record CaseLabel : Type 0 where
  pub pos : ℕ
  pub value : Option Operand

-- a case has a constant expression, whose word counts as the switch's type, so that equal words are equal cases
abbrev pub case_rules : ℕ → Constant → List Rule
case_rules at NotConstant = (false, fault.Mismatch at) ∷ []
case_rules at (Undefined pos) = (false, fault.Mismatch pos) ∷ []
case_rules at (Value word) = []

abbrev pub same_case : Constant → Constant → Bool
same_case (Value x) (Value y) = x == y
same_case _ _ = false

-- two defaults, or two equal cases
abbrev pub same_label : Option Operand → Option Operand → Bool
same_label None None = true
same_label (Some a) (Some b) = same_case a.constant b.constant
same_label _ _ = false

abbrev pub label_rules : List CaseLabel → CaseLabel → List Rule
label_rules before l =
    (not (list_any (λ other. same_label other.value l.value) before), fault.Twice l.pos)
    ∷ option_map_or (λ a. case_rules a.pos a.constant) l.value []

abbrev pub labels_rules : List CaseLabel → List CaseLabel → List Rule
labels_rules before [] = []
labels_rules before (l ∷ ls) = label_rules before l ++ labels_rules (l ∷ before) ls

-- the value of a `switch` is a number, and no two labels are the same
abbrev pub switch_rules : Operand → List CaseLabel → List Rule
switch_rules a labels = (is_arithmetic (value_type a), fault.Mismatch a.pos) ∷ labels_rules [] labels

-- what a part of a `switch` gives: the scope behind it and its label, if it is one
pub record PartJudged : Type 0 where
  pub scope : Scope
  pub labels : List CaseLabel

abbrev pub part_scope_or : Scope → Judged PartJudged → Scope
part_scope_or s (Ok part) = part.scope
part_scope_or s (Err e) = s

abbrev mutual
  -- the scope behind a statement
  pub stated : Scope → Around → CStmt → Judged Scope
  stated s w (plain.Block ss) = after (all_stated (entered s) w ss) (λ _. Ok s)
  stated s w (plain.Local d) = declared s false d
  stated s w (plain.Do_expr e) = after (judged s e) (λ _. Ok s)
  stated s w plain.Empty = Ok s
  stated s w (plain.If e t) = both (judged s e) (stated s w t) (λ a _. keeping (condition_rules a) s)
  stated s w (plain.IfElse e t u) = all_three (judged s e) (stated s w t) (stated s w u) (λ a _ _. keeping (condition_rules a) s)
  stated s w (plain.While e t) = both (judged s e) (stated s (in_loop w) t) (λ a _. keeping (condition_rules a) s)
  stated s w (plain.Do t e) = both (judged s e) (stated s (in_loop w) t) (λ a _. keeping (condition_rules a) s)
  -- declarations in its head count in the whole `for`
  stated s w (plain.For (plain.Block ss) test step t) =
      let head = all_stated (entered s) w ss in
      let inner = scope_or s head in
      all_three head (both (maybe_judged inner test) (maybe_judged inner step) (λ a _. Ok a)) (stated inner (in_loop w) t) (λ _ a _. keeping (test_rules a) s)
  stated s w (plain.For first test step t) =
      all_three (stated s w first) (both (maybe_judged s test) (maybe_judged s step) (λ a _. Ok a)) (stated s (in_loop w) t) (λ _ a _. keeping (test_rules a) s)
  stated s w (plain.Return at e) = after (maybe_judged s e) (λ a. keeping (return_rules at w.result a) s)
  stated s w (plain.Break at) = keeping ((w.breaks, fault.Mismatch at) ∷ []) s
  stated s w (plain.Continue at) = keeping ((w.continues, fault.Mismatch at) ∷ []) s
  stated s w (plain.Switch e ps) = both (judged s e) (all_parts (entered s) (in_switch w) ps) (λ a labels. keeping (switch_rules a labels) s)

  pub all_stated : Scope → Around → CStmts → Judged Scope
  all_stated s w plain.NoStmt = Ok s
  all_stated s w (plain.MoreStmt t ts) = let r = stated s w t in both r (all_stated (scope_or s r) w ts) (λ _ inner. Ok inner)

  pub part_judged : Scope → Around → CPart → Judged PartJudged
  part_judged s w (plain.Label at e) = after (maybe_judged s e) (λ a. Ok (record { scope = s; labels = record { pos = at; value = a } ∷ [] }))
  part_judged s w (plain.Item t) = after (stated s w t) (λ inner. Ok (record { scope = inner; labels = [] }))

  -- the labels of a `switch`
  pub all_parts : Scope → Around → CParts → Judged (List CaseLabel)
  all_parts s w plain.NoPart = Ok []
  all_parts s w (plain.MorePart p ps) =
      let r = part_judged s w p in
      both r (all_parts (part_scope_or s r) w ps) (λ part labels. Ok (part.labels ++ labels))
