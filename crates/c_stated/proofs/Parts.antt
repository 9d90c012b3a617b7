-- Parts of statements: expressions that are run for what they do, conditions, and names that are declared.
use Rattle.std.proofs.Common.{◌≡◌, ℕ, suc, ◌+◌, ◌^◌, ◌<◌, ◌≤◌, Bool, true, false, List, [], ◌∷◌, ◌++◌, length, Option, Some, None, refl, sym, ap, ◌∙◌, subst, arith, if◌then◌else◌}
use Rattle.mach_core.specs.Rule.{Moment}
use Rattle.eir_core.specs.Eir.{Eir}
use Rattle.eir_core.specs.Memory.{Memory}
use Rattle.eir_core.specs.Step.{Config}
use Rattle.eir_core.specs.declared.ops.Op.{Op}
use Rattle.eir_core.specs.declared.ops.Op.TheVariants.{Jump}
use Rattle.c_syntax.specs.Plain.{CExpr, Number, Str, Null, Var, Unary, Step, Binary, Assign, Cond as Choice, Comma, Cast, SizeTy, SizeOf, Index, Call, Member, Arrow, CValue, CDecl, CStmt, Block, Local, Do_expr, Empty, If, IfElse, While, Do, For, Return, Break, Continue, Switch}
use Rattle.c_syntax.specs.declared.tree.StepOp.TheVariants as step
use Rattle.c_syntax.specs.declared.tree.BinOp.{BinOp}
use Rattle.c_syntax.specs.declared.tree.BinOp.TheVariants as binary
use Rattle.c_types.specs.Types.{CType, Int, Tags}
use Rattle.c_types.specs.Scope.{Scope}
use Rattle.c_eval.specs.State.{Value, Word, Cell, State, Outcome, Gives, Ended, Going, Undefined, Run}
use Rattle.c_eval.specs.Run.{◌>>=◌, after, give}
use Rattle.c_eval.specs.Memory.{kind_of, load}
use Rattle.c_eval.specs.Operators.{used, is_true, operated, assigned}
use Rattle.c_eval.specs.Environment.{Environment, objects_in, past_maybe, declaring, past_first, behind, type_in}
use Rattle.c_eval.specs.Eval.{World, Flow, Next, Broke, Continued, Returned, stepped, value_of, place_of, condition}
use Rattle.c_place.specs.Place.{Place, Machine, front, Has, Stands, behind_all}
use Rattle.c_lowered.specs.Locations.{Location}
use Rattle.c_lowered.specs.Operations.{constant}
use Rattle.c_lowered.specs.Expressions.{unused}
use Rattle.c_helpers.specs.Frames.{waiting}
use Rattle.c_lowered.specs.Counts.{expr_jumps}
use Rattle.c_lowered.specs.Statements.{Targets}
use Rattle.c_valued.specs.Steps.{steps}
use Rattle.c_memory.specs.Follows.{Fuel, fuel_of, here, Comes}
use Rattle.c_memory.specs.Lies.{Extent}
use Rattle.c_memory.proofs.Following.{comes_here, looser, then_follows, more_behind, give_follows, wider}
use Rattle.c_landing.specs.Landing.{address, Names, placed, Setting, Ready, Reached, Lands}
use Rattle.c_landing.specs.Few.{Agrees}
use Rattle.c_landing.proofs.Landing.{F, ready_less}
use Rattle.c_valued.specs.Decides.{is_wanted, DecidedAt, Decides, Whatever}
use Rattle.c_valued.specs.Calls.{with_names}
use Rattle.c_stated.specs.Flows.{FlowReached, IsFramed, AreFramed, Performs}
use Rattle.c_stated.specs.Statements.{DeclaresNothing}
use Rattle.c_stated.proofs.Flowing.{jump_comes}
use Rattle.c_stated.proofs.Loops.{TestReached}

-- ---- small parts

pub performs_within : {S : Setting} {code : List Op} {block d n c : ℕ} {run : Run Flow} {to : Targets} {i o : ℕ} {objects : List (List Cell)} (n1 c1 : ℕ) → n1 ≤ n → c1 ≤ c → Performs S code block d n1 c1 run to i o objects → Performs S code block d n c run to i o objects
performs_within {S = S} {code = code} {d = d} {n = n} {c = c} {run = run} {to = to} n1 c1 ln lc h = record {
  at = λ s bs st m e stands r pending. wider S.program S.input S.mode (here s m st) (fuel_of st) c1 c (run st) (FlowReached S bs st m.memory m.regs.bp d to (behind_all s code)) (FlowReached S bs st m.memory m.regs.bp d to (behind_all s code)) (h.at s bs st m e stands (ready_less S bs st m d n n1 ln r) pending) (λ v st1 s1 m1 q. q) lc;
}

-- what is run for what it does alone
pub effect_performs : {A : Type 0} {S : Setting} {code : List Op} {block d n c : ℕ} {run : Run A} {M : A → List Extent → Machine → Type 0} {to : Targets} {i o : ℕ} {objects : List (List Cell)} → Lands S code block d n c run M → Performs S code block d n c (run >>= λ _. give Next) to i o objects
effect_performs {A} {S = S} {code = code} {d = d} {c = c} {run = run} {M = M} {to = to} l = record {
  at = λ s bs st m e stands r pending.
      (let R = FlowReached S bs st m.memory m.regs.bp d to (behind_all s code) in
      then_follows S.program S.input S.mode (here s m st) (fuel_of st) c 0 c run st (λ _. give Next) (Reached S bs st m.memory m.regs.bp d (behind_all s code) M) R (l.at s bs st m e stands r)
      (λ v st1 s1 m1 le q. give_follows S.program S.input S.mode Next s1 m1 st1 0 R (record { goes = q.place; bases = q.bases; left = q.left; means = tt })) (omega arith));
}

-- a part that ends before a jump behind it
pub flow_jump : (S : Setting) (a : Moment Config) (x : Fuel) (c k : ℕ) (r : Outcome Flow) (bs : List Extent) (st : State) (mem : Memory) (bp d : ℕ) (to : Targets) (end : Place) → Has S.program end (Jump (constant k)) → k < 2 ^ 24 → F S a x c r (FlowReached S bs st mem bp d to end) → F S a x (c + 1) r (FlowReached S bs st mem bp d to (front k))
flow_jump S a x c k r bs st mem bp d to end has lt f =
    more_behind S.program S.input S.mode a x c 1 (c + 1) r (FlowReached S bs st mem bp d to end) (FlowReached S bs st mem bp d to (front k)) f (λ flow st1 s1 m1 q. by flow st1 s1 m1 q) (omega arith)
  where
    by : (flow : Flow) (st1 : State) (s1 : Place) (m1 : Machine) → FlowReached S bs st mem bp d to end flow st1 s1 m1
        → (s2 : Place) × (m2 : Machine) × Comes S.program S.input S.mode (here s1 m1 st1) (fuel_of st1) 1 (here s2 m2 st1) (fuel_of st1) × FlowReached S bs st mem bp d to (front k) flow st1 s2 m2
    by Next st1 s1 m1 q = (front k, m1, jump_comes S s1 m1 st1 (fuel_of st1) k (subst (λ z. Has S.program z (Jump (constant k))) (sym q.goes) has) lt, record { goes = refl; bases = q.bases; left = q.left; means = tt })
    by Broke st1 s1 m1 q = (s1, m1, looser S.program S.input S.mode 0 1 (comes_here S.program S.input S.mode (here s1 m1 st1) (fuel_of st1)) (omega arith), record { goes = q.goes; bases = q.bases; left = q.left; means = tt })
    by Continued st1 s1 m1 q = (s1, m1, looser S.program S.input S.mode 0 1 (comes_here S.program S.input S.mode (here s1 m1 st1) (fuel_of st1)) (omega arith), record { goes = q.goes; bases = q.bases; left = q.left; means = tt })
    by (Returned v) st1 s1 m1 q = (s1, m1, looser S.program S.input S.mode 0 1 (comes_here S.program S.input S.mode (here s1 m1 st1) (fuel_of st1)) (omega arith), record { goes = q.goes; bases = q.bases; left = q.left; means = q.means })

-- code before a jump stands within the program
pub stands_inside : (p : Eir) (s : Place) (xs ys : List Op) (op : Op) → Stands p s (xs ++ (op ∷ ys)) → s.block < length p.blocks
stands_inside p s [] ys op h = h.0.inside
stands_inside p s (x ∷ xs) ys op h = h.0.inside

-- ---- conditions

place_false : (b : Bool) (x y : Place) → (if is_wanted false b then x else y) ≡ (if b then y else x)
place_false true x y = refl
place_false false x y = refl

-- a condition that jumps where it is false
pub unless_follows : (S : Setting) (e : CExpr) (w : World) (site : Environment) (code : List Op) (block d n c target : ℕ) → Decides S code block d n c (value_of e w site >>= used) Whatever false target → (s : Place) (bs : List Extent) (st : State) (m : Machine) → s.block ≡ block → Stands S.program s code → Ready S bs st m d n
    → F S (here s m st) (fuel_of st) c (condition e w site st) (TestReached S bs st m.memory m.regs.bp d (behind_all s code) (front target))
unfolding condition
unless_follows S e w site code block d n c target h s bs st m eq stands r =
    let R = TestReached S bs st m.memory m.regs.bp d (behind_all s code) (front target) in
    then_follows S.program S.input S.mode (here s m st) (fuel_of st) c 0 c (value_of e w site >>= used) st (λ v. give (is_true v)) (DecidedAt S bs st m.memory m.regs.bp d (front target) (behind_all s code) false Whatever) R (h.at s bs st m eq stands r)
    (λ v st1 s1 m1 le q. give_follows S.program S.input S.mode (is_true v) s1 m1 st1 0 R (record { place = q.place ∙ place_false (is_true v) (front target) (behind_all s code); bases = q.bases; left = q.left; means = tt })) (omega arith)

-- or where it is true
pub where_follows : (S : Setting) (e : CExpr) (w : World) (site : Environment) (code : List Op) (block d n c target : ℕ) → Decides S code block d n c (value_of e w site >>= used) Whatever true target → (s : Place) (bs : List Extent) (st : State) (m : Machine) → s.block ≡ block → Stands S.program s code → Ready S bs st m d n
    → F S (here s m st) (fuel_of st) c (condition e w site st) (TestReached S bs st m.memory m.regs.bp d (front target) (behind_all s code))
unfolding condition
where_follows S e w site code block d n c target h s bs st m eq stands r =
    let R = TestReached S bs st m.memory m.regs.bp d (front target) (behind_all s code) in
    then_follows S.program S.input S.mode (here s m st) (fuel_of st) c 0 c (value_of e w site >>= used) st (λ v. give (is_true v)) (DecidedAt S bs st m.memory m.regs.bp d (front target) (behind_all s code) true Whatever) R (h.at s bs st m eq stands r)
    (λ v st1 s1 m1 le q. give_follows S.program S.input S.mode (is_true v) s1 m1 st1 0 R (record { place = q.place; bases = q.bases; left = q.left; means = tt })) (omega arith)

-- ---- values that aren't used

module _ {A : Type 0} (tags : Tags) (op : BinOp) (t : CType) (rp : Run Value) (x : A) where
  abbrev one_step : (Value → Value → Value) → Run Value
  one_step f = rp >>= λ p. load (kind_of t) p >>= λ old. operated tags op t Int old (Word 1) >>= λ new. assigned t p new >>= λ _. give (f old new)

  one_step_same : (f g : Value → Value → Value) (st : State) → (one_step f >>= λ _. give x) st ≡ (one_step g >>= λ _. give x) st
  unfolding ◌>>=◌ after give
  one_step_same f g st = place (rp st)
    where
      done : (old new : Value) (o : Outcome Value) → after (after o (λ _. give (f old new))) (λ _. give x) ≡ after (after o (λ _. give (g old new))) (λ _. give x)
      done old new (Gives v st1) = refl
      done old new (Ended st1) = refl
      done old new (Going st1) = refl
      done old new (Undefined act st1) = refl

      sum : (p old : Value) (o : Outcome Value) → after (after o (λ new. assigned t p new >>= λ _. give (f old new))) (λ _. give x) ≡ after (after o (λ new. assigned t p new >>= λ _. give (g old new))) (λ _. give x)
      sum p old (Gives new st1) = done old new (assigned t p new st1)
      sum p old (Ended st1) = refl
      sum p old (Going st1) = refl
      sum p old (Undefined act st1) = refl

      read : (p : Value) (o : Outcome Value) → after (after o (λ old. operated tags op t Int old (Word 1) >>= λ new. assigned t p new >>= λ _. give (f old new))) (λ _. give x) ≡ after (after o (λ old. operated tags op t Int old (Word 1) >>= λ new. assigned t p new >>= λ _. give (g old new))) (λ _. give x)
      read p (Gives old st1) = sum p old (operated tags op t Int old (Word 1) st1)
      read p (Ended st1) = refl
      read p (Going st1) = refl
      read p (Undefined act st1) = refl

      place : (o : Outcome Value) → after (after o (λ p. load (kind_of t) p >>= λ old. operated tags op t Int old (Word 1) >>= λ new. assigned t p new >>= λ _. give (f old new))) (λ _. give x) ≡ after (after o (λ p. load (kind_of t) p >>= λ old. operated tags op t Int old (Word 1) >>= λ new. assigned t p new >>= λ _. give (g old new))) (λ _. give x)
      place (Gives p st1) = read p (load (kind_of t) p st1)
      place (Ended st1) = refl
      place (Going st1) = refl
      place (Undefined act st1) = refl

-- an expression whose value isn't used does what its code's does
pub unused_same : {A : Type 0} (e : CExpr) (w : World) (site : Environment) (x : A) (st : State) → (value_of (unused e) w site >>= λ _. give x) st ≡ (value_of e w site >>= λ _. give x) st
unfolding stepped
unused_same (Step at step.PostInc a) w site x st = one_step_same site.scope.tags binary.Add (type_in site.scope a) (place_of a w site) x (λ old new. new) (λ old new. old) st
unused_same (Step at step.PostDec a) w site x st = one_step_same site.scope.tags binary.Sub (type_in site.scope a) (place_of a w site) x (λ old new. new) (λ old new. old) st
unused_same (Step at step.PreInc a) w site x st = refl
unused_same (Step at step.PreDec a) w site x st = refl
unused_same (Number at n u) w site x st = refl
unused_same (Str at text) w site x st = refl
unused_same (Null at) w site x st = refl
unused_same (Var at name) w site x st = refl
unused_same (SizeTy at t) w site x st = refl
unused_same (SizeOf at a) w site x st = refl
unused_same (Unary at op a) w site x st = refl
unused_same (Binary at op a b) w site x st = refl
unused_same (Assign at op a b) w site x st = refl
unused_same (Choice at a b c) w site x st = refl
unused_same (Comma at a b) w site x st = refl
unused_same (Cast at t a) w site x st = refl
unused_same (Index at a b) w site x st = refl
unused_same (Call at f es) w site x st = refl
unused_same (Member at a m) w site x st = refl
unused_same (Arrow at a m) w site x st = refl

-- as long, as wide and as costly
pub record AsGood (u : ℕ) (e : CExpr) : Type 0 where
  pub waits : waiting (unused e) ≡ waiting e
  pub count : expr_jumps (unused e) ≡ expr_jumps e
  pub cost : steps u (unused e) ≡ steps u e

pub as_good : (u : ℕ) (e : CExpr) → AsGood u e
as_good u (Step at step.PostInc a) = record { waits = refl; count = refl; cost = refl }
as_good u (Step at step.PostDec a) = record { waits = refl; count = refl; cost = refl }
as_good u (Step at step.PreInc a) = record { waits = refl; count = refl; cost = refl }
as_good u (Step at step.PreDec a) = record { waits = refl; count = refl; cost = refl }
as_good u (Number at n x) = record { waits = refl; count = refl; cost = refl }
as_good u (Str at text) = record { waits = refl; count = refl; cost = refl }
as_good u (Null at) = record { waits = refl; count = refl; cost = refl }
as_good u (Var at name) = record { waits = refl; count = refl; cost = refl }
as_good u (SizeTy at t) = record { waits = refl; count = refl; cost = refl }
as_good u (SizeOf at a) = record { waits = refl; count = refl; cost = refl }
as_good u (Unary at op a) = record { waits = refl; count = refl; cost = refl }
as_good u (Binary at op a b) = record { waits = refl; count = refl; cost = refl }
as_good u (Assign at op a b) = record { waits = refl; count = refl; cost = refl }
as_good u (Choice at a b c) = record { waits = refl; count = refl; cost = refl }
as_good u (Comma at a b) = record { waits = refl; count = refl; cost = refl }
as_good u (Cast at t a) = record { waits = refl; count = refl; cost = refl }
as_good u (Index at a b) = record { waits = refl; count = refl; cost = refl }
as_good u (Call at f es) = record { waits = refl; count = refl; cost = refl }
as_good u (Member at a m) = record { waits = refl; count = refl; cost = refl }
as_good u (Arrow at a m) = record { waits = refl; count = refl; cost = refl }

-- ---- declarations

-- the name of an object that lies in the frame comes into scope
pub ready_declared : (S : Setting) (bases : List Location) (coded named : Names) (name : List ℕ) (i o : ℕ) (bs : List Extent) (st : State) (m : Machine) (d n : ℕ) → IsFramed bs m.regs.bp bases i o → Ready (with_names S bases coded named) bs st m d n → Ready (with_names S bases ((name, Some i) ∷ coded) ((name, Some o) ∷ named)) bs st m d n
ready_declared S bases coded named name i o bs st m d n x r = record {
  lies = r.lies;
  letters = r.letters;
  names = (refl, (x.there, x.lies ∙ ap (λ l. address m.regs.bp l) (sym x.place)), r.names);
  file = r.file;
  room = r.room;
  under = r.under;
  fits = r.fits;
  fuelled = r.fuelled;
}

-- the place behind a declaration, with numbers for its names
pub behind_declared : (decl : CDecl) (names : Names) (next : ℕ) (site : Environment) → behind (Local decl) (placed names next site) ≡ placed ((decl.name, Some next) ∷ names) (suc next) (behind (Local decl) site)
behind_declared decl names next site = by decl.first
  where
    by : (v : Option CValue) → past_first v (declaring decl (placed names next site)) ≡ placed ((decl.name, Some next) ∷ names) (suc next) (past_first v (declaring decl site))
    by None = refl
    by (Some v) = refl

pub nothing_framed : (t : CStmt) → DeclaresNothing t → (s : Scope) (bs : List Extent) (bp : ℕ) (bases : List Location) (i o : ℕ) → AreFramed bs bp bases i o (objects_in s t)
nothing_framed (Local d) h s bs bp bases i o = absurd h
nothing_framed (Block ss) h s bs bp bases i o = tt
nothing_framed (Do_expr e) h s bs bp bases i o = tt
nothing_framed Empty h s bs bp bases i o = tt
nothing_framed (If e t) h s bs bp bases i o = tt
nothing_framed (IfElse e t u) h s bs bp bases i o = tt
nothing_framed (While e t) h s bs bp bases i o = tt
nothing_framed (Do t e) h s bs bp bases i o = tt
nothing_framed (For a b c t) h s bs bp bases i o = tt
nothing_framed (Return at e) h s bs bp bases i o = tt
nothing_framed (Break at) h s bs bp bases i o = tt
nothing_framed (Continue at) h s bs bp bases i o = tt
nothing_framed (Switch e ps) h s bs bp bases i o = tt

-- the place behind an expression that may be missing, with numbers for its names
pub past_placed : (e : Option CExpr) (names : Names) (next : ℕ) (site : Environment) → past_maybe e (placed names next site) ≡ placed names next (past_maybe e site)
past_placed None names next site = refl
past_placed (Some e) names next site = refl

-- what surrounds the code is the same, whatever names are in scope
pub agrees_named : (S : Setting) (w : World) (bases : List Location) (coded named : Names) → Agrees S w → Agrees (with_names S bases coded named) w
agrees_named S w bases coded named a = record {
  input = a.input;
  owner = a.owner;
  reach = a.reach;
  entries = a.entries;
  blocks = a.blocks;
  stands = a.stands;
  own = a.own;
  functions_apart = a.functions_apart;
  literals = a.literals;
  letters = a.letters;
  letters_apart = a.letters_apart;
}

pub first_scope : (v : Option CValue) (site : Environment) → (past_first v site).scope ≡ site.scope
first_scope None site = refl
first_scope (Some v) site = refl
