-- The string literals of functions, one behind the other.
use Rattle.std.proofs.Common.{◌≡◌, ℕ, ◌-◌, true, List, [], ◌∷◌, ◌++◌, length, length-append, Option, None, refl, sym, ap, subst, ◌∙◌, append_assoc, append-nil, ◌+◌, arith}
use Rattle.std.specs.Prelude.{Ok, IsOk, is_some}
use Rattle.std.proofs.lemmas.List.{length-map}
use denote.Ref.{Bor}
use Rattle.c_syntax.specs.Plain as plain
use Rattle.c_syntax.specs.Plain.{CTy, CDecl, CStmt, CItem}
use Rattle.c_syntax.specs.View.{maybe_stmt}
use Rattle.c_syntax.specs.declared.tree.Stmt.{Stmt}
use Rattle.c_types.specs.Scope.{Scope, contains}
use Rattle.c_types.specs.Declarations.{scope_or}
use Rattle.c_types.specs.Units.{item_judged, all_items}
use Rattle.c_eval.specs.Text.{Definition, item_definitions, definitions}
use Rattle.c_types.specs.Table.{Table, texts}
use Rattle.c_operands.specs.declared.declarations.Declarations.{Declarations}
use Rattle.c_declared.specs.Held.{Holds, HoldsSome}
use Rattle.c_opening.specs.Named.{tags_in, HasNumber}
use Rattle.c_objects.specs.Passed.{behind_function}
use Rattle.c_objects.proofs.PassedLemmas.{function_passed, item_passed, ok_inner}
use Rattle.c_lower.specs.declared.bodies.Body.{Body}
use Rattle.c_lower.specs.declared.bodies.Bodies.{Bodies}
use Rattle.c_lower.specs.Bodies.{literals_in_function, functions_literals, AreEach, AreBodies, AddsBodies, PassesBodies}
use Rattle.c_lower.proofs.DefinedLemmas.{judged_ok, others_numbered}

-- ---- functions behind functions

pub no_bodies : (b : Bodies) → AddsBodies b b []
no_bodies b = record { more = []; behind = sym (append-nil b.each.items); are = tt; literals = sym (append-nil (texts b.literals.items)) }

each_then : (bs cs : List Body) (fs gs : List Definition) → AreEach bs fs → AreEach cs gs → AreEach (bs ++ cs) (fs ++ gs)
each_then [] cs [] gs h k = k
each_then [] cs (f ∷ fs) gs h k = absurd h
each_then (b ∷ bs) cs [] gs h k = absurd h
each_then (b ∷ bs) cs (f ∷ fs) gs h k = (h.0, h.1, each_then bs cs fs gs h.2 k)

literals_then : (fs gs : List Definition) → functions_literals (fs ++ gs) ≡ functions_literals fs ++ functions_literals gs
literals_then [] gs = refl
literals_then (f ∷ fs) gs =
    ap (λ (l : List (List ℕ)). literals_in_function f ++ l) (literals_then fs gs) ∙ sym (append_assoc (literals_in_function f) (functions_literals fs) (functions_literals gs))

pub bodies_then : (a b c : Bodies) (fs gs : List Definition) → AddsBodies a b fs → AddsBodies b c gs → AddsBodies a c (fs ++ gs)
bodies_then a b c fs gs f g = record {
  more = f.more ++ g.more;
  behind = g.behind ∙ (ap (λ (l : List Body). l ++ g.more) f.behind ∙ append_assoc a.each.items f.more g.more);
  are = each_then f.more g.more fs gs f.are g.are;
  literals =
      g.literals ∙ (ap (λ (l : List (List ℕ)). l ++ functions_literals gs) f.literals ∙ (append_assoc (texts a.literals.items) (functions_literals fs) (functions_literals gs)
      ∙ ap (λ (l : List (List ℕ)). texts a.literals.items ++ l) (sym (literals_then fs gs))));
}

-- how many more there are
many_more : (old new : List (Bor (List ℕ))) (more : List (List ℕ)) (before count : ℕ) → texts new ≡ texts old ++ more → before ≡ length old → count ≡ length new - before → count ≡ length more
many_more old new more before count e is made =
    let all : length (texts new) ≡ length (texts old) + length more = ap length e ∙ length-append (texts old) more in
    let now : length (texts new) ≡ length new = length-map new (λ (k : Bor (List ℕ)). k.now) in
    let then : length (texts old) ≡ length old = length-map old (λ (k : Bor (List ℕ)). k.now) in
    omega (arith, all, now, then, is, made)

-- a function more
pub one_body : (a b : Bodies) (f : Definition) (body : Body) (before : ℕ) → b.each.items ≡ a.each.items ++ body ∷ [] → body.name.now ≡ f.name → before ≡ length a.literals.items → body.count ≡ length b.literals.items - before
    → texts b.literals.items ≡ texts a.literals.items ++ literals_in_function f → AddsBodies a b (f ∷ [])
one_body a b f body before push name is count literals = record {
  more = body ∷ [];
  behind = push;
  are = (name, many_more a.literals.items b.literals.items (literals_in_function f) before body.count literals is count, tt);
  literals = literals ∙ ap (λ (l : List (List ℕ)). texts a.literals.items ++ l) (sym (append-nil (literals_in_function f)));
}

pub no_body : (b : Bodies) (s : Scope) (name : List ℕ) (at : ℕ) (result : CTy) (params : List CDecl) (body : Option Stmt) → body ≡ None → AddsBodies b b (item_definitions s (plain.Function name at result params (maybe_stmt body)))
no_body b s name at result params body none = subst (λ (o : Option Stmt). AddsBodies b b (item_definitions s (plain.Function name at result params (maybe_stmt o)))) (sym none) (no_bodies b)

-- ---- one external

pub function_gathered : (table : Table) (d : Declarations) (a b : Bodies) (s : Scope) (name : List ℕ) (at : ℕ) (result : CTy) (params : List CDecl) (body : Option CStmt) → IsOk (item_judged s (plain.Function name at result params body))
    → Holds table d (behind_function s name at result params (is_some body)) → AddsBodies a b (item_definitions s (plain.Function name at result params body))
    → PassesBodies table d a b (scope_or s (item_judged s (plain.Function name at result params body))) (item_definitions s (plain.Function name at result params body))
function_gathered table d a b s name at result params body ok holds adds =
    let p = ok_inner (item_judged s (plain.Function name at result params body)) ok in
    record { adds = adds; holds = subst (λ (r : Scope). Holds table d r) (function_passed s name at result params body p.0 p.1) holds }

-- ---- all externals

-- the externals so far, and those that are left
pub record BodiesSoFar (now : Table) (e : Declarations) (a b : Bodies) (s end : Scope) (left all : List CItem) : Type 0 where
  pub inner : Scope
  pub done : List Definition
  pub adds : AddsBodies a b done
  pub holds : Holds now e inner
  pub typed : all_items inner left ≡ Ok end
  pub whole : definitions s all ≡ done ++ definitions inner left

pub record Gathering (t0 now : Table) (d e : Declarations) (a b : Bodies) (left all : List CItem) : Type 0 where
  pub some : HoldsSome now e
  pub tags : now.tags ≡ t0.tags
  pub numbered : (name : List ℕ) → contains (tags_in left) name ≡ true → HasNumber t0 name
  pub so_far : (s end : Scope) → Holds t0 d s → all_items s all ≡ Ok end → BodiesSoFar now e a b s end left all

pub gathering_begun : (t0 : Table) (d : Declarations) (a : Bodies) (all : List CItem) → HoldsSome t0 d → ((name : List ℕ) → contains (tags_in all) name ≡ true → HasNumber t0 name) → Gathering t0 t0 d d a a all all
gathering_begun t0 d a all some numbered = record {
  some = some;
  tags = refl;
  numbered = numbered;
  so_far = λ s end holds typed. record { inner = s; done = []; adds = no_bodies a; holds = holds; typed = typed; whole = refl };
}

-- an external more
pub gathering_on : (t0 t1 t2 : Table) (d e g : Declarations) (a b c : Bodies) (x : CItem) (left rest all : List CItem) → Gathering t0 t1 d e a b left all → left ≡ x ∷ rest → HoldsSome t2 g → t2.tags ≡ t1.tags
    → ((s : Scope) → Holds t1 e s → IsOk (item_judged s x) → PassesBodies t2 g b c (scope_or s (item_judged s x)) (item_definitions s x)) → Gathering t0 t2 d g a c rest all
gathering_on t0 t1 t2 d e g a b c x left rest all k next some tags passes = record {
  some = some;
  tags = tags ∙ k.tags;
  numbered = others_numbered t0 x rest (subst (λ (l : List CItem). (name : List ℕ) → contains (tags_in l) name ≡ true → HasNumber t0 name) next k.numbered);
  so_far = λ s end holds typed.
      let f = k.so_far s end holds typed in
      let p = item_passed f.inner x rest end (subst (λ (l : List CItem). all_items f.inner l ≡ Ok end) next f.typed) in
      let m = passes f.inner f.holds (judged_ok (item_judged f.inner x) p.inner p.first) in
      let inner : Scope = scope_or f.inner (item_judged f.inner x) in
      let scope : inner ≡ p.inner = ap (scope_or f.inner) p.first in
      record {
        inner = inner;
        done = f.done ++ item_definitions f.inner x;
        adds = bodies_then a b c f.done (item_definitions f.inner x) f.adds m.adds;
        holds = m.holds;
        typed = ap (λ (r : Scope). all_items r rest) scope ∙ p.rest;
        whole = f.whole ∙ (ap (λ (l : List CItem). f.done ++ definitions f.inner l) next ∙ sym (append_assoc f.done (item_definitions f.inner x) (definitions inner rest)));
      };
}

-- all are passed
pub gathering_done : (t0 t1 : Table) (d e : Declarations) (a b : Bodies) (left all : List CItem) (s end : Scope) → Gathering t0 t1 d e a b left all → left ≡ [] → Holds t0 d s → all_items s all ≡ Ok end → AddsBodies a b (definitions s all)
gathering_done t0 t1 d e a b left all s end k none holds typed =
    let f = k.so_far s end holds typed in
    let whole : f.done ≡ definitions s all = sym (f.whole ∙ (ap (λ (l : List CItem). f.done ++ definitions f.inner l) none ∙ append-nil f.done)) in
    subst (λ (fs : List Definition). AddsBodies a b fs) whole f.adds

pub bodies_made : (a b : Bodies) (fs : List Definition) → a.each.items ≡ [] → a.literals.items ≡ [] → AddsBodies a b fs → AreBodies b fs
bodies_made a b fs each literals adds = record {
  each = subst (λ (l : List Body). AreEach l fs) (sym (adds.behind ∙ ap (λ (l : List Body). l ++ adds.more) each)) adds.are;
  literals = adds.literals ∙ ap (λ (l : List (Bor (List ℕ))). texts l ++ functions_literals fs) literals;
}
