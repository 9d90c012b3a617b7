-- Names that the statements of a block declare.
use Rattle.std.proofs.Common.{◌≡◌, ℕ, suc, List, ◌∷◌, ◌++◌, Some, refl, ap, ◌∙◌}
use Rattle.c_syntax.specs.Plain.{CStmt, Block, Local, Do_expr, Empty, If, IfElse, While, Do, For, Return, Break, Continue, Switch, CStmts, NoStmt, MoreStmt}
use Rattle.c_types.specs.Scope.{Scope}
use Rattle.c_types.specs.Census.{scope_behind}
use Rattle.c_eval.specs.State.{Cell, State}
use Rattle.c_eval.specs.Environment.{Environment, objects_in, block_objects, behind, behind_all}
use Rattle.c_place.specs.Place.{Machine}
use Rattle.c_lowered.specs.Locations.{Location}
use Rattle.c_memory.specs.Lies.{Extent}
use Rattle.c_landing.specs.Landing.{Names, placed, Setting, Ready}
use Rattle.c_valued.specs.Calls.{with_names}
use Rattle.c_stated.specs.Flows.{AreFramed}
use Rattle.c_stated.proofs.Parts.{ready_declared, behind_declared}

-- the names in scope behind a statement, and the number of the next object
abbrev pub names_behind : CStmt → ℕ → Names → Names
names_behind (Local d) next names = (d.name, Some next) ∷ names
names_behind t next names = names

abbrev pub number_behind : CStmt → ℕ → ℕ
number_behind (Local d) next = suc next
number_behind t next = next

abbrev pub names_behind_all : CStmts → ℕ → Names → Names
names_behind_all NoStmt next names = names
names_behind_all (MoreStmt t ts) next names = names_behind_all ts (number_behind t next) (names_behind t next names)

abbrev pub number_behind_all : CStmts → ℕ → ℕ
number_behind_all NoStmt next = next
number_behind_all (MoreStmt t ts) next = number_behind_all ts (number_behind t next)

pub behind_is : (t : CStmt) (names : Names) (next : ℕ) (site : Environment) → behind t (placed names next site) ≡ placed (names_behind t next names) (number_behind t next) (behind t site)
behind_is (Local d) names next site = behind_declared d names next site
behind_is (Block ss) names next site = refl
behind_is (Do_expr e) names next site = refl
behind_is Empty names next site = refl
behind_is (If e t) names next site = refl
behind_is (IfElse e t u) names next site = refl
behind_is (While e t) names next site = refl
behind_is (Do t e) names next site = refl
behind_is (For a b c t) names next site = refl
behind_is (Return at e) names next site = refl
behind_is (Break at) names next site = refl
behind_is (Continue at) names next site = refl
behind_is (Switch e ps) names next site = refl

pub behind_all_is : (ts : CStmts) (names : Names) (next : ℕ) (site : Environment) → behind_all ts (placed names next site) ≡ placed (names_behind_all ts next names) (number_behind_all ts next) (behind_all ts site)
behind_all_is NoStmt names next site = refl
behind_all_is (MoreStmt t ts) names next site = ap (behind_all ts) (behind_is t names next site) ∙ behind_all_is ts (names_behind t next names) (number_behind t next) (behind t site)

module _ (S : Setting) (bases : List Location) (bs : List Extent) (st : State) (m : Machine) (d n : ℕ) where
  -- what is asked where a statement's names are in scope, and the objects that are declared behind it
  pub record Behind (t : CStmt) (coded named : Names) (i o : ℕ) (rest : List (List Cell)) : Type 0 where
    pub ready : Ready (with_names S bases (names_behind t i coded) (names_behind t o named)) bs st m d n
    pub framed : AreFramed bs m.regs.bp bases (number_behind t i) (number_behind t o) rest

  pub ready_behind : (t : CStmt) (s : Scope) (coded named : Names) (i o : ℕ) (rest : List (List Cell)) → AreFramed bs m.regs.bp bases i o (objects_in s t ++ rest) → Ready (with_names S bases coded named) bs st m d n → Behind t coded named i o rest
  ready_behind (Local decl) s coded named i o rest x r = record { ready = ready_declared S bases coded named decl.name i o bs st m d n x.0 r; framed = x.1 }
  ready_behind (Block ss) s coded named i o rest x r = record { ready = r; framed = x }
  ready_behind (Do_expr e) s coded named i o rest x r = record { ready = r; framed = x }
  ready_behind Empty s coded named i o rest x r = record { ready = r; framed = x }
  ready_behind (If e t) s coded named i o rest x r = record { ready = r; framed = x }
  ready_behind (IfElse e t u) s coded named i o rest x r = record { ready = r; framed = x }
  ready_behind (While e t) s coded named i o rest x r = record { ready = r; framed = x }
  ready_behind (Do t e) s coded named i o rest x r = record { ready = r; framed = x }
  ready_behind (For a b c t) s coded named i o rest x r = record { ready = r; framed = x }
  ready_behind (Return at e) s coded named i o rest x r = record { ready = r; framed = x }
  ready_behind (Break at) s coded named i o rest x r = record { ready = r; framed = x }
  ready_behind (Continue at) s coded named i o rest x r = record { ready = r; framed = x }
  ready_behind (Switch e ps) s coded named i o rest x r = record { ready = r; framed = x }

  pub ready_behind_all : (ts : CStmts) (s : Scope) (coded named : Names) (i o : ℕ) → AreFramed bs m.regs.bp bases i o (block_objects s ts) → Ready (with_names S bases coded named) bs st m d n → Ready (with_names S bases (names_behind_all ts i coded) (names_behind_all ts o named)) bs st m d n
  ready_behind_all NoStmt s coded named i o x r = r
  ready_behind_all (MoreStmt t ts) s coded named i o x r =
      let b = ready_behind t s coded named i o (block_objects (scope_behind s t) ts) x r in
      ready_behind_all ts (scope_behind s t) (names_behind t i coded) (names_behind t o named) (number_behind t i) (number_behind t o) b.framed b.ready
