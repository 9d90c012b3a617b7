-- Statements, and parts of a `switch`, that get their code one after the other.
use Rattle.std.proofs.Common.{◌≡◌, ◌+◌, ℕ, List, [], ◌++◌, length, refl, sym, ap, subst, ◌∙◌, append_assoc, append-nil, length-append, arith}
use Rattle.eir_core.specs.declared.ops.Op.{Op}
use Rattle.c_syntax.specs.Plain as plain
use Rattle.c_syntax.specs.Plain.{CStmt, CStmts, CPart, CParts}
use Rattle.c_types.specs.Scope.{Scope}
use Rattle.c_types.specs.Census.{scope_behind, scope_behind_part}
use Rattle.c_eval.specs.Environment.{Environment, behind, behind_all, behind_part}
use Rattle.c_eval.specs.LiteralsIn.{stmt_literals, stmts_literals, part_literals, parts_literals}
use Rattle.c_cells.specs.declared.structs.StructKinds.{StructKinds}
use Rattle.c_declared.specs.Held.{HoldsSome}
use Rattle.c_fitting.specs.Blocks.{AllDeclareInBlocks, PartsDeclareInBlocks}
use Rattle.c_lowered.specs.Locations.{Linking}
use Rattle.c_lowered.specs.Counts.{stmt_jumps, stmts_jumps, part_jumps, parts_jumps}
use Rattle.c_lowered.specs.Statements as definition
use Rattle.c_lowered.specs.Statements.{stmt_code, stmts_code, part_code, parts_code}
use Rattle.c_counted.specs.Numbers.{IsNumber}
use Rattle.c_addressing.specs.declared.here.Here.{Here}
use Rattle.c_addressing.specs.declared.here.Output.{Output}
use Rattle.c_applied.proofs.LeadsLemmas.{keeps_none, nothing, leads}
use Rattle.c_lower_blocks.specs.declared.blocks.Block.{Block}
use Rattle.c_lower_blocks.specs.Standing.{Goes}
use Rattle.c_lower_blocks.proofs.StandingLemmas.{goes_on, goes_then}
use Rattle.c_lower_statements.specs.declared.targets.Targets.{Targets}
use Rattle.c_lower_statements.specs.Pieces.{behind_parts}
use Rattle.c_lower_statements.specs.Lowered.{AreTargets, IsPlaced, Reaches, Lowers, LowersAll, LowersPart, LowersParts}
use Rattle.c_lower_statements.proofs.PlaceLemmas.{behind_scope, part_scope}
use Rattle.c_lower_statements.proofs.ReachLemmas.{reach_as, reach_then}

-- a list that is cut behind a part
cut_there : {X : Type 0} (all front one rest left : List X) → all ≡ front ++ left → left ≡ one ++ rest → all ≡ (front ++ one) ++ rest
cut_there {X} all front one rest left e f = e ∙ (ap (λ (x : List X). front ++ x) f ∙ sym (append_assoc front one rest))

more_jumps : (at one rest : ℕ) → at + (one + rest) ≡ at + one + rest
more_jumps at one rest = omega arith

no_jumps : (at : ℕ) → at + 0 ≡ at
no_jumps at = omega arith

-- ---- statements

-- the code of the first statements, and what is left
pub record SoFar (a b : Output) (e : Here) (kinds : StructKinds) (l : Block) (w : Linking) (env : Environment) (n m : ℕ) (p : definition.Targets) (told : ℕ) (left all : CStmts) : Type 0 where
  pub place : Environment
  pub at : ℕ
  pub is : List Op
  pub literals : List (List ℕ)
  pub reaches : Reaches a b e kinds l w place n is (length literals) told at
  pub fit : AllDeclareInBlocks left
  pub code_is : stmts_code all w env m n p ≡ is ++ stmts_code left w place at n p
  pub literals_are : stmts_literals env.scope all ≡ literals ++ stmts_literals place.scope left
  pub ends : behind_all all env ≡ behind_all left place
  pub jumps_are : m + stmts_jumps all ≡ at + stmts_jumps left

pub record Going (old new : Output) (h e : Here) (kinds : StructKinds) (k l : Block) (to : Targets) (first told : ℕ) (left all : CStmts) : Type 0 where
  pub goes : Goes old new h e k l
  pub so_far : (w : Linking) (env : Environment) (n m : ℕ) (p : definition.Targets) → IsPlaced h kinds old k w env n → IsNumber first m → AreTargets to p → AllDeclareInBlocks all → SoFar old new e kinds l w env n m p told left all

pub begun : (a : Output) (h : Here) (kinds : StructKinds) (k : Block) (to : Targets) (first : ℕ) (all : CStmts) → HoldsSome a.types h.declared → Going a a h h kinds k k to first first all all
begun a h kinds k to first all some = record {
  goes = goes_on a a h k (keeps_none a) some;
  so_far = λ w env n m p placed hm ht fit. record {
    place = env;
    at = m;
    is = [];
    literals = [];
    reaches = record { leads = leads (nothing a) hm; placed = placed };
    fit = fit;
    code_is = refl;
    literals_are = refl;
    ends = refl;
    jumps_are = refl;
  };
}

one_so_far : (a b c : Output) (e f : Here) (kinds : StructKinds) (l j : Block) (w : Linking) (env : Environment) (n m : ℕ) (p : definition.Targets) (to : Targets) (told far : ℕ) (left rest all : CStmts) (t : CStmt) → left ≡ plain.MoreStmt t rest → AreTargets to p
    → SoFar a b e kinds l w env n m p told left all → Lowers b c e f kinds l j t to told far → SoFar a c f kinds j w env n m p far rest all
one_so_far a b c e f kinds l j w env n m p to told far left rest all t cut ht s one =
    let place = s.place in
    let fit : AllDeclareInBlocks (plain.MoreStmt t rest) = subst (λ (x : CStmts). AllDeclareInBlocks x) cut s.fit in
    let next = behind t place in
    let scope : next.scope ≡ scope_behind place.scope t = behind_scope t place in
    let ls = stmt_literals place.scope t in
    let r = one.code w place n s.at p s.reaches.placed s.reaches.leads.block ht fit.0 in
    record {
      place = next;
      at = s.at + stmt_jumps t;
      is = s.is ++ stmt_code t w place s.at n p;
      literals = s.literals ++ ls;
      reaches = reach_as refl refl (sym (length-append s.literals ls)) refl (reach_then s.reaches r);
      fit = fit.1;
      code_is =
          cut_there (stmts_code all w env m n p) s.is (stmt_code t w place s.at n p) (stmts_code rest w next (s.at + stmt_jumps t) n p) (stmts_code left w place s.at n p) s.code_is
          (ap (λ (x : CStmts). stmts_code x w place s.at n p) cut);
      literals_are =
          cut_there (stmts_literals env.scope all) s.literals ls (stmts_literals next.scope rest) (stmts_literals place.scope left) s.literals_are
          (ap (λ (x : CStmts). stmts_literals place.scope x) cut ∙ ap (λ (x : Scope). ls ++ stmts_literals x rest) (sym scope));
      ends = s.ends ∙ ap (λ (x : CStmts). behind_all x place) cut;
      jumps_are = s.jumps_are ∙ (ap (λ (x : CStmts). s.at + stmts_jumps x) cut ∙ more_jumps s.at (stmt_jumps t) (stmts_jumps rest));
    }

pub one_more : (a b c : Output) (h e f : Here) (kinds : StructKinds) (k l j : Block) (to : Targets) (first told far : ℕ) (left rest all : CStmts) (t : CStmt) → left ≡ plain.MoreStmt t rest → Going a b h e kinds k l to first told left all
    → Lowers b c e f kinds l j t to told far → Going a c h f kinds k j to first far rest all
one_more a b c h e f kinds k l j to first told far left rest all t cut g one = record {
  goes = goes_then g.goes one.goes;
  so_far = λ w env n m p placed hm ht fit. one_so_far a b c e f kinds l j w env n m p to told far left rest all t cut ht (g.so_far w env n m p placed hm ht fit) one;
}

pub all_done : (a b : Output) (h e : Here) (kinds : StructKinds) (k l : Block) (to : Targets) (first told : ℕ) (left all : CStmts) → left ≡ plain.NoStmt → Going a b h e kinds k l to first told left all → LowersAll a b h e kinds k l all to first told
all_done a b h e kinds k l to first told left all none g = record {
  goes = g.goes;
  code = λ w env n m p placed hm ht fit.
      let s = g.so_far w env n m p placed hm ht fit in
      reach_as (sym (s.ends ∙ ap (λ (x : CStmts). behind_all x s.place) none)) (sym (s.code_is ∙ (ap (λ (x : CStmts). s.is ++ stmts_code x w s.place s.at n p) none ∙ append-nil s.is)))
      (ap (λ (x : List (List ℕ)). length x) (sym (s.literals_are ∙ (ap (λ (x : CStmts). s.literals ++ stmts_literals s.place.scope x) none ∙ append-nil s.literals))))
      (sym (s.jumps_are ∙ (ap (λ (x : CStmts). s.at + stmts_jumps x) none ∙ no_jumps s.at))) s.reaches;
}

-- ---- parts of a `switch`

-- the code of the first parts, and what is left
pub record PartsSoFar (a b : Output) (e : Here) (kinds : StructKinds) (l : Block) (w : Linking) (env : Environment) (n m : ℕ) (p : definition.Targets) (told : ℕ) (left all : CParts) : Type 0 where
  pub place : Environment
  pub at : ℕ
  pub is : List Op
  pub literals : List (List ℕ)
  pub reaches : Reaches a b e kinds l w place n is (length literals) told at
  pub fit : PartsDeclareInBlocks left
  pub code_is : parts_code all w env m n p ≡ is ++ parts_code left w place at n p
  pub literals_are : parts_literals env.scope all ≡ literals ++ parts_literals place.scope left
  pub ends : behind_parts all env ≡ behind_parts left place
  pub jumps_are : m + parts_jumps all ≡ at + parts_jumps left

pub record PartsGoing (old new : Output) (h e : Here) (kinds : StructKinds) (k l : Block) (to : Targets) (first told : ℕ) (left all : CParts) : Type 0 where
  pub goes : Goes old new h e k l
  pub so_far : (w : Linking) (env : Environment) (n m : ℕ) (p : definition.Targets) → IsPlaced h kinds old k w env n → IsNumber first m → AreTargets to p → PartsDeclareInBlocks all → PartsSoFar old new e kinds l w env n m p told left all

pub parts_begun : (a : Output) (h : Here) (kinds : StructKinds) (k : Block) (to : Targets) (first : ℕ) (all : CParts) → HoldsSome a.types h.declared → PartsGoing a a h h kinds k k to first first all all
parts_begun a h kinds k to first all some = record {
  goes = goes_on a a h k (keeps_none a) some;
  so_far = λ w env n m p placed hm ht fit. record {
    place = env;
    at = m;
    is = [];
    literals = [];
    reaches = record { leads = leads (nothing a) hm; placed = placed };
    fit = fit;
    code_is = refl;
    literals_are = refl;
    ends = refl;
    jumps_are = refl;
  };
}

part_so_far : (a b c : Output) (e f : Here) (kinds : StructKinds) (l j : Block) (w : Linking) (env : Environment) (n m : ℕ) (p : definition.Targets) (to : Targets) (told far : ℕ) (left rest all : CParts) (t : CPart) → left ≡ plain.MorePart t rest → AreTargets to p
    → PartsSoFar a b e kinds l w env n m p told left all → LowersPart b c e f kinds l j t to told far → PartsSoFar a c f kinds j w env n m p far rest all
part_so_far a b c e f kinds l j w env n m p to told far left rest all t cut ht s one =
    let place = s.place in
    let fit : PartsDeclareInBlocks (plain.MorePart t rest) = subst (λ (x : CParts). PartsDeclareInBlocks x) cut s.fit in
    let next = behind_part t place in
    let scope : next.scope ≡ scope_behind_part place.scope t = part_scope t place in
    let ls = part_literals place.scope t in
    let r = one.code w place n s.at p s.reaches.placed s.reaches.leads.block ht fit.0 in
    record {
      place = next;
      at = s.at + part_jumps t;
      is = s.is ++ part_code t w place s.at n p;
      literals = s.literals ++ ls;
      reaches = reach_as refl refl (sym (length-append s.literals ls)) refl (reach_then s.reaches r);
      fit = fit.1;
      code_is =
          cut_there (parts_code all w env m n p) s.is (part_code t w place s.at n p) (parts_code rest w next (s.at + part_jumps t) n p) (parts_code left w place s.at n p) s.code_is
          (ap (λ (x : CParts). parts_code x w place s.at n p) cut);
      literals_are =
          cut_there (parts_literals env.scope all) s.literals ls (parts_literals next.scope rest) (parts_literals place.scope left) s.literals_are
          (ap (λ (x : CParts). parts_literals place.scope x) cut ∙ ap (λ (x : Scope). ls ++ parts_literals x rest) (sym scope));
      ends = s.ends ∙ ap (λ (x : CParts). behind_parts x place) cut;
      jumps_are = s.jumps_are ∙ (ap (λ (x : CParts). s.at + parts_jumps x) cut ∙ more_jumps s.at (part_jumps t) (parts_jumps rest));
    }

pub part_more : (a b c : Output) (h e f : Here) (kinds : StructKinds) (k l j : Block) (to : Targets) (first told far : ℕ) (left rest all : CParts) (t : CPart) → left ≡ plain.MorePart t rest → PartsGoing a b h e kinds k l to first told left all
    → LowersPart b c e f kinds l j t to told far → PartsGoing a c h f kinds k j to first far rest all
part_more a b c h e f kinds k l j to first told far left rest all t cut g one = record {
  goes = goes_then g.goes one.goes;
  so_far = λ w env n m p placed hm ht fit. part_so_far a b c e f kinds l j w env n m p to told far left rest all t cut ht (g.so_far w env n m p placed hm ht fit) one;
}

pub parts_done : (a b : Output) (h e : Here) (kinds : StructKinds) (k l : Block) (to : Targets) (first told : ℕ) (left all : CParts) → left ≡ plain.NoPart → PartsGoing a b h e kinds k l to first told left all → LowersParts a b h e kinds k l all to first told
parts_done a b h e kinds k l to first told left all none g = record {
  goes = g.goes;
  code = λ w env n m p placed hm ht fit.
      let s = g.so_far w env n m p placed hm ht fit in
      reach_as (sym (s.ends ∙ ap (λ (x : CParts). behind_parts x s.place) none)) (sym (s.code_is ∙ (ap (λ (x : CParts). s.is ++ parts_code x w s.place s.at n p) none ∙ append-nil s.is)))
      (ap (λ (x : List (List ℕ)). length x) (sym (s.literals_are ∙ (ap (λ (x : CParts). s.literals ++ parts_literals s.place.scope x) none ∙ append-nil s.literals))))
      (sym (s.jumps_are ∙ (ap (λ (x : CParts). s.at + parts_jumps x) none ∙ no_jumps s.at))) s.reaches;
}
