-- Statements, and parts of a `switch`, that get their code one after the other.
use Rattle.std.proofs.Common.{◌≡◌, ◌+◌, ℕ, List, [], ◌∷◌, ◌++◌, length, refl, sym, ap, subst, ◌∙◌, append_assoc, append-nil}
use Rattle.c_syntax.specs.Plain as plain
use Rattle.c_syntax.specs.Plain.{CStmt, CStmts, CPart, CParts}
use Rattle.c_types.specs.Scope.{Scope}
use Rattle.c_types.specs.Census.{scope_behind, scope_behind_part}
use Rattle.c_eval.specs.State.{Cell}
use Rattle.c_eval.specs.Environment.{Environment, objects_in, block_objects, part_objects, parts_objects, behind, behind_all, behind_part}
use Rattle.c_eval.specs.LiteralsIn.{stmt_literals, stmts_literals, part_literals, parts_literals}
use Rattle.c_code.specs.Code as code
use Rattle.c_code.specs.Code.{Instruction, Site, stmt_code, stmts_code, part_code, parts_code, label_of, labels_in}
use Rattle.c_types.specs.Table.{Table}
use Rattle.c_emitted.specs.declared.emitter.Emitter.{Emitter}
use Rattle.c_emitted.proofs.EmitLemmas.{both, nothing}
use Rattle.c_jumps.proofs.AddLemmas.{added, adds_longer}
use Rattle.c_here.specs.declared.here.Here.{Here}
use Rattle.c_fitting.specs.Whole.{StmtsAreFit, PartsAreFit}
use Rattle.c_declared.specs.Held.{HoldsSome}
use Rattle.c_cells.specs.declared.structs.StructKinds.{StructKinds}
use Rattle.c_aside.specs.declared.cases.Label as rust
use Rattle.c_aside.specs.Cases.{labels_of}
use Rattle.c_blocks.specs.declared.objects.Block.{Block}
use Rattle.c_blocks.specs.Objects.{unset_objects}
use Rattle.c_flat.specs.Compiled.{IsPlaced, Reaches, Goes, Compiles, CompilesAll, CompilesPart, CompilesParts, behind_parts}
use Rattle.c_flat.proofs.PlaceLemmas.{behind_scope, part_scope}
use Rattle.c_flat.proofs.PlacedLemmas.{nothing_more, goes_on, goes_then}

abbrev Objects : Type 0
Objects = List (List Cell)

-- nothing is emitted yet
stands_still : (table : Table) (h : Here) (kinds : StructKinds) (a : Emitter) (k : Block) (site : Site) (env : Environment) → IsPlaced table h kinds a k site env → Reaches table h kinds a a k k site env [] [] []
stands_still table h kinds a k site env p = record { emits = nothing a; placed = p; more = nothing_more k }

-- one piece behind another
pub reach_both : (mid new : Table) (h e : Here) (kinds : StructKinds) (a b c : Emitter) (k l m : Block) (site : Site) (p q : Environment) (is js : List Instruction) (ls ms : List (List ℕ)) (os more : Objects) → Reaches mid h kinds a b k l site p is ls os
    → Reaches new e kinds b c l m site q js ms more → Reaches new e kinds a c k m site q (is ++ js) (ls ++ ms) (os ++ more)
reach_both mid new h e kinds a b c k l m site p q is js ls ms os more r s = record {
  emits = both r.emits s.emits;
  placed = s.placed;
  more = s.more ∙ (ap (λ (x : Objects). x ++ more) r.more ∙ append_assoc (unset_objects k.lengths.items) os more);
}

pub three_as : (new : Table) (e : Here) (kinds : StructKinds) (a b : Emitter) (k l : Block) (site : Site) (p q : Environment) (is js : List Instruction) (ls ms : List (List ℕ)) (os more : Objects) → p ≡ q → is ≡ js → ls ≡ ms → os ≡ more
    → Reaches new e kinds a b k l site p is ls os → Reaches new e kinds a b k l site q js ms more
three_as new e kinds a b k l site p q is js ls ms os more at code literals objects r =
    subst (λ (x : Environment). Reaches new e kinds a b k l site x js ms more) at
    (subst (λ (x : List Instruction). Reaches new e kinds a b k l site p x ms more) code
    (subst (λ (x : List (List ℕ)). Reaches new e kinds a b k l site p is x more) literals (subst (λ (x : Objects). Reaches new e kinds a b k l site p is ls x) objects r)))

-- a list that is cut behind a part
cut_there : {X : Type 0} (all front one rest left : List X) → all ≡ front ++ left → left ≡ one ++ rest → all ≡ (front ++ one) ++ rest
cut_there {X} all front one rest left e f = e ∙ (ap (λ (x : List X). front ++ x) f ∙ sym (append_assoc front one rest))

-- ---- statements

-- the code of the first statements, and what is left
pub record SoFar (new : Table) (e : Here) (kinds : StructKinds) (a b : Emitter) (k l : Block) (site : Site) (env : Environment) (left all : CStmts) : Type 0 where
  pub place : Environment
  pub is : List Instruction
  pub literals : List (List ℕ)
  pub objects : List (List Cell)
  pub reaches : Reaches new e kinds a b k l site place is literals objects
  pub fit : StmtsAreFit place.scope left
  pub code_is : stmts_code all k.free site env ≡ is ++ stmts_code left k.free site place
  pub literals_are : stmts_literals env.scope all ≡ literals ++ stmts_literals place.scope left
  pub objects_are : block_objects env.scope all ≡ objects ++ block_objects place.scope left
  pub ends : behind_all all env ≡ behind_all left place

pub record Going (old new : Table) (h e : Here) (kinds : StructKinds) (a b : Emitter) (k l : Block) (left all : CStmts) : Type 0 where
  pub goes : Goes old new h e k l
  pub so_far : (site : Site) (env : Environment) → IsPlaced old h kinds a k site env → StmtsAreFit env.scope all → SoFar new e kinds a b k l site env left all

pub begun : (table : Table) (h : Here) (kinds : StructKinds) (a : Emitter) (k : Block) (all : CStmts) → HoldsSome table h.declared → Going table table h h kinds a a k k all all
begun table h kinds a k all some = record {
  goes = goes_on table table h k (λ n x y. y) refl some;
  so_far = λ site env p fit. record {
    place = env;
    is = [];
    literals = [];
    objects = [];
    reaches = stands_still table h kinds a k site env p;
    fit = fit;
    code_is = refl;
    literals_are = refl;
    objects_are = refl;
    ends = refl;
  };
}

one_so_far : (mid new : Table) (e f : Here) (kinds : StructKinds) (a b c : Emitter) (k l m : Block) (site : Site) (env : Environment) (left rest all : CStmts) (t : CStmt) → left ≡ plain.MoreStmt t rest → l.free ≡ k.free → SoFar mid e kinds a b k l site env left all
    → Compiles mid new e f kinds b c l m t → SoFar new f kinds a c k m site env rest all
one_so_far mid new e f kinds a b c k l m site env left rest all t cut free s one =
    let place = s.place in
    let fit : StmtsAreFit place.scope (plain.MoreStmt t rest) = subst (λ (x : CStmts). StmtsAreFit place.scope x) cut s.fit in
    let next = behind t place in
    let scope : next.scope ≡ scope_behind place.scope t = behind_scope t place in
    let r : Reaches new f kinds b c l m site next (stmt_code t k.free site place) (stmt_literals place.scope t) (objects_in place.scope t) =
    subst (λ (n : ℕ). Reaches new f kinds b c l m site next (stmt_code t n site place) (stmt_literals place.scope t) (objects_in place.scope t)) free (one.code site place s.reaches.placed fit.0) in
    record {
      place = next;
      is = s.is ++ stmt_code t k.free site place;
      literals = s.literals ++ stmt_literals place.scope t;
      objects = s.objects ++ objects_in place.scope t;
      reaches = reach_both mid new e f kinds a b c k l m site place next s.is (stmt_code t k.free site place) s.literals (stmt_literals place.scope t) s.objects (objects_in place.scope t) s.reaches r;
      fit = subst (λ (x : Scope). StmtsAreFit x rest) (sym scope) fit.1;
      code_is = cut_there (stmts_code all k.free site env) s.is (stmt_code t k.free site place) (stmts_code rest k.free site next) (stmts_code left k.free site place) s.code_is (ap (λ (x : CStmts). stmts_code x k.free site place) cut);
      literals_are =
          cut_there (stmts_literals env.scope all) s.literals (stmt_literals place.scope t) (stmts_literals next.scope rest) (stmts_literals place.scope left) s.literals_are
          (ap (λ (x : CStmts). stmts_literals place.scope x) cut ∙ ap (λ (x : Scope). stmt_literals place.scope t ++ stmts_literals x rest) (sym scope));
      objects_are =
          cut_there (block_objects env.scope all) s.objects (objects_in place.scope t) (block_objects next.scope rest) (block_objects place.scope left) s.objects_are
          (ap (λ (x : CStmts). block_objects place.scope x) cut ∙ ap (λ (x : Scope). objects_in place.scope t ++ block_objects x rest) (sym scope));
      ends = s.ends ∙ ap (λ (x : CStmts). behind_all x place) cut;
    }

pub one_more : (old mid new : Table) (h e f : Here) (kinds : StructKinds) (a b c : Emitter) (k l m : Block) (left rest all : CStmts) (t : CStmt) → left ≡ plain.MoreStmt t rest → Going old mid h e kinds a b k l left all → Compiles mid new e f kinds b c l m t
    → Going old new h f kinds a c k m rest all
one_more old mid new h e f kinds a b c k l m left rest all t cut g one = record {
  goes = goes_then old mid new h e f k l m g.goes one.goes;
  so_far = λ site env p fit. one_so_far mid new e f kinds a b c k l m site env left rest all t cut g.goes.free (g.so_far site env p fit) one;
}

pub all_done : (old new : Table) (h e : Here) (kinds : StructKinds) (a b : Emitter) (k l : Block) (left all : CStmts) → left ≡ plain.NoStmt → Going old new h e kinds a b k l left all → CompilesAll old new h e kinds a b k l all
all_done old new h e kinds a b k l left all none g = record {
  goes = g.goes;
  code = λ site env p fit.
      let s = g.so_far site env p fit in
      three_as new e kinds a b k l site s.place (behind_all all env) s.is (stmts_code all k.free site env) s.literals (stmts_literals env.scope all) s.objects (block_objects env.scope all)
      (sym (s.ends ∙ ap (λ (x : CStmts). behind_all x s.place) none))
      (sym (s.code_is ∙ (ap (λ (x : CStmts). s.is ++ stmts_code x k.free site s.place) none ∙ append-nil s.is)))
      (sym (s.literals_are ∙ (ap (λ (x : CStmts). s.literals ++ stmts_literals s.place.scope x) none ∙ append-nil s.literals)))
      (sym (s.objects_are ∙ (ap (λ (x : CStmts). s.objects ++ block_objects s.place.scope x) none ∙ append-nil s.objects))) s.reaches;
}

-- ---- parts of a `switch`

pub record PartsSoFar (new : Table) (e : Here) (kinds : StructKinds) (a b : Emitter) (k l : Block) (labels : List rust.Label) (site : Site) (env : Environment) (left all : CParts) : Type 0 where
  pub place : Environment
  pub is : List Instruction
  pub literals : List (List ℕ)
  pub objects : List (List Cell)
  pub reaches : Reaches new e kinds a b k l site place is literals objects
  pub fit : PartsAreFit place.scope left
  pub code_is : parts_code all k.free site env ≡ is ++ parts_code left k.free site place
  pub literals_are : parts_literals env.scope all ≡ literals ++ parts_literals place.scope left
  pub objects_are : parts_objects env.scope all ≡ objects ++ parts_objects place.scope left
  pub ends : behind_parts all env ≡ behind_parts left place
  pub labels_are : labels_in all k.free site env (length a.code) ≡ labels_of labels ++ labels_in left k.free site place (length b.code)

pub record PartsGoing (old new : Table) (h e : Here) (kinds : StructKinds) (a b : Emitter) (k l : Block) (labels : List rust.Label) (left all : CParts) : Type 0 where
  pub goes : Goes old new h e k l
  pub so_far : (site : Site) (env : Environment) → IsPlaced old h kinds a k site env → PartsAreFit env.scope all → PartsSoFar new e kinds a b k l labels site env left all

pub parts_begun : (table : Table) (h : Here) (kinds : StructKinds) (a : Emitter) (k : Block) (labels : List rust.Label) (all : CParts) → labels ≡ [] → HoldsSome table h.declared → PartsGoing table table h h kinds a a k k labels all all
parts_begun table h kinds a k labels all none some = record {
  goes = goes_on table table h k (λ n x y. y) refl some;
  so_far = λ site env p fit. record {
    place = env;
    is = [];
    literals = [];
    objects = [];
    reaches = stands_still table h kinds a k site env p;
    fit = fit;
    code_is = refl;
    literals_are = refl;
    objects_are = refl;
    ends = refl;
    labels_are = ap (λ (x : List rust.Label). labels_of x ++ labels_in all k.free site env (length a.code)) (sym none);
  };
}

part_so_far : (mid new : Table) (e f : Here) (kinds : StructKinds) (a b c : Emitter) (k l m : Block) (before after : List rust.Label) (site : Site) (env : Environment) (left rest all : CParts) (t : CPart) → left ≡ plain.MorePart t rest → l.free ≡ k.free
    → PartsSoFar mid e kinds a b k l before site env left all → CompilesPart mid new e f kinds b c l m before after t → PartsSoFar new f kinds a c k m after site env rest all
part_so_far mid new e f kinds a b c k l m before after site env left rest all t cut free s one =
    let place = s.place in
    let fit : PartsAreFit place.scope (plain.MorePart t rest) = subst (λ (x : CParts). PartsAreFit place.scope x) cut s.fit in
    let next = behind_part t place in
    let scope : next.scope ≡ scope_behind_part place.scope t = part_scope t place in
    let r : Reaches new f kinds b c l m site next (part_code t k.free site place) (part_literals place.scope t) (part_objects place.scope t) =
    subst (λ (n : ℕ). Reaches new f kinds b c l m site next (part_code t n site place) (part_literals place.scope t) (part_objects place.scope t)) free (one.code site place s.reaches.placed fit.0) in
    let long : length c.code ≡ length b.code + length (part_code t k.free site place) = adds_longer (added r.emits) in
    let told : labels_of after ≡ labels_of before ++ label_of t place (length b.code) = one.told site place s.reaches.placed fit.0 in
    record {
      place = next;
      is = s.is ++ part_code t k.free site place;
      literals = s.literals ++ part_literals place.scope t;
      objects = s.objects ++ part_objects place.scope t;
      reaches = reach_both mid new e f kinds a b c k l m site place next s.is (part_code t k.free site place) s.literals (part_literals place.scope t) s.objects (part_objects place.scope t) s.reaches r;
      fit = subst (λ (x : Scope). PartsAreFit x rest) (sym scope) fit.1;
      code_is = cut_there (parts_code all k.free site env) s.is (part_code t k.free site place) (parts_code rest k.free site next) (parts_code left k.free site place) s.code_is (ap (λ (x : CParts). parts_code x k.free site place) cut);
      literals_are =
          cut_there (parts_literals env.scope all) s.literals (part_literals place.scope t) (parts_literals next.scope rest) (parts_literals place.scope left) s.literals_are
          (ap (λ (x : CParts). parts_literals place.scope x) cut ∙ ap (λ (x : Scope). part_literals place.scope t ++ parts_literals x rest) (sym scope));
      objects_are =
          cut_there (parts_objects env.scope all) s.objects (part_objects place.scope t) (parts_objects next.scope rest) (parts_objects place.scope left) s.objects_are
          (ap (λ (x : CParts). parts_objects place.scope x) cut ∙ ap (λ (x : Scope). part_objects place.scope t ++ parts_objects x rest) (sym scope));
      ends = s.ends ∙ ap (λ (x : CParts). behind_parts x place) cut;
      labels_are =
          cut_there (labels_in all k.free site env (length a.code)) (labels_of before) (label_of t place (length b.code)) (labels_in rest k.free site next (length c.code)) (labels_in left k.free site place (length b.code)) s.labels_are
          (ap (λ (x : CParts). labels_in x k.free site place (length b.code)) cut ∙ ap (λ (n : ℕ). label_of t place (length b.code) ++ labels_in rest k.free site next n) (sym long))
          ∙ ap (λ (x : List code.Label). x ++ labels_in rest k.free site next (length c.code)) (sym told);
    }

pub part_more : (old mid new : Table) (h e f : Here) (kinds : StructKinds) (a b c : Emitter) (k l m : Block) (before after : List rust.Label) (left rest all : CParts) (t : CPart) → left ≡ plain.MorePart t rest
    → PartsGoing old mid h e kinds a b k l before left all → CompilesPart mid new e f kinds b c l m before after t → PartsGoing old new h f kinds a c k m after rest all
part_more old mid new h e f kinds a b c k l m before after left rest all t cut g one = record {
  goes = goes_then old mid new h e f k l m g.goes one.goes;
  so_far = λ site env p fit. part_so_far mid new e f kinds a b c k l m before after site env left rest all t cut g.goes.free (g.so_far site env p fit) one;
}

pub parts_done : (old new : Table) (h e : Here) (kinds : StructKinds) (a b : Emitter) (k l : Block) (labels : List rust.Label) (left all : CParts) → left ≡ plain.NoPart → PartsGoing old new h e kinds a b k l labels left all
    → CompilesParts old new h e kinds a b k l labels all
parts_done old new h e kinds a b k l labels left all none g = record {
  goes = g.goes;
  code = λ site env p fit.
      let s = g.so_far site env p fit in
      three_as new e kinds a b k l site s.place (behind_parts all env) s.is (parts_code all k.free site env) s.literals (parts_literals env.scope all) s.objects (parts_objects env.scope all)
      (sym (s.ends ∙ ap (λ (x : CParts). behind_parts x s.place) none))
      (sym (s.code_is ∙ (ap (λ (x : CParts). s.is ++ parts_code x k.free site s.place) none ∙ append-nil s.is)))
      (sym (s.literals_are ∙ (ap (λ (x : CParts). s.literals ++ parts_literals s.place.scope x) none ∙ append-nil s.literals)))
      (sym (s.objects_are ∙ (ap (λ (x : CParts). s.objects ++ parts_objects s.place.scope x) none ∙ append-nil s.objects))) s.reaches;
  told = λ site env p fit.
      let s = g.so_far site env p fit in
      sym (s.labels_are ∙ (ap (λ (x : CParts). labels_of labels ++ labels_in x k.free site s.place (length b.code)) none ∙ append-nil (labels_of labels)));
}
