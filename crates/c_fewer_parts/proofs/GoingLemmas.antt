-- What stays while statements are made anew.
use Rattle.std.proofs.Common.{◌≡◌, ℕ, ◌≤◌, [], List, length, Option, refl, sym, ap, subst, ◌∙◌}
use Rattle.std.specs.Prelude.{Result, Ok, Err, IfOk, OnOk}
use Rattle.c_syntax.specs.Plain as plain
use Rattle.c_syntax.specs.Plain.{CExpr, CStmt}
use Rattle.c_syntax.specs.View.{maybe, stmt_of}
use Rattle.c_syntax.specs.declared.tree.Stmt.{Stmt}
use Rattle.c_types.specs.Scope.{Scope, entered}
use Rattle.c_types.specs.Census.{scope_behind, scope_behind_head}
use Rattle.c_types.specs.Table.{Table, known, texts}
use Rattle.c_operands.proofs.OperandLemmas.{grows_then}
use Rattle.c_operands.specs.declared.declarations.Declarations.{Declarations}
use Rattle.c_declared.specs.Held.{Holds, IsAround}
use Rattle.c_declared.proofs.HeldLemmas.{holds_kept, block_entered}
use Rattle.c_signatures.specs.Blocks.{IsInside, IsSame}
use Rattle.c_signatures.proofs.BlockLemmas.{inside_then, may_end, same_holds}
use Rattle.c_statements.proofs.KeepLemmas.{no_local, no_block}
use Rattle.c_helpers.specs.Fewer.{maybe_fewer, fewer_in}
use Rattle.c_fewer_operators.specs.declared.here.Here.{Here}
use Rattle.c_fewer_trees.proofs.OnwardLemmas.{Onward}
use Rattle.c_fewer_declarations.specs.Standing.{StandsIn, StandsInSome}
use Rattle.c_fewer_declarations.proofs.StandingLemmas.{holds_on}
use Rattle.c_fewer_parts.specs.declared.parts.Turns.{Turns}
use Rattle.c_fewer_parts.specs.Going.{Goes, Stays, TurnsFrom}

-- ---- answers

pub on_any : {T E P : Type 0} (r : Result T E) → P → OnOk r P
on_any (Ok x) h = h
on_any (Err e) h = tt

-- a statement that is made is another one, if the two are equal
pub made : {E : Type 0} (r : Result Stmt E) (a b : CStmt) → a ≡ b → IfOk r (λ t. stmt_of t ≡ a) → IfOk r (λ t. stmt_of t ≡ b)
made (Ok t) a b same h = h ∙ same
made (Err x) a b same h = tt

-- ---- what stays

around_then : (c d e : Declarations) → IsAround c d → IsAround d e → IsAround c e
around_then c d e f g = record { outer = g.outer ∙ f.outer; layouts = g.layouts ∙ f.layouts; defined = g.defined ∙ f.defined }

pub unchanged : (d : Declarations) → IsAround d d
unchanged d = record { outer = refl; layouts = refl; defined = refl }

pub goes_on : {a b c : Table} {h k l : Here} → Goes a b h k → Goes b c k l → Goes a c h l
goes_on {a} {b} {c} {h} {k} {l} f g = record {
  grows = grows_then (known a) (known b) (known c) f.grows g.grows;
  tags = g.tags ∙ f.tags;
  around = around_then h.declared k.declared l.declared f.around g.around;
  names = g.names ∙ f.names;
}

-- the table of types alone has grown
pub goes_grown : {a b : Table} (h : Here) → Onward a b → Goes a b h h
goes_grown h f = record { grows = f.grows; tags = f.tags; around = unchanged h.declared; names = refl }

pub goes_same : (a : Table) (h : Here) → Goes a a h h
goes_same a h = record { grows = λ n k e. e; tags = refl; around = unchanged h.declared; names = refl }

pub stays_grown : {a b : Table} (h : Here) → Onward a b → Stays a b h h
stays_grown {a} {b} h f = record { goes = goes_grown h f; holds = λ s before. holds_kept a b h.declared s f.grows f.tags before }

pub stays_on : {a b c : Table} {h k l : Here} → Stays a b h k → Stays b c k l → Stays a c h l
stays_on f g = record { goes = goes_on f.goes g.goes; holds = λ s before. g.holds s (f.holds s before) }

-- the names of the innermost block changed
pub goes_around : {a b : Table} {h k : Here} (e : Declarations) → Goes a b h k → IsAround k.declared e → Goes a b h (record { declared = e; tags = k.tags })
goes_around {a} {b} {h} {k} e f more = record { grows = f.grows; tags = f.tags; around = around_then h.declared k.declared e f.around more; names = f.names }

-- ---- where one stands

pub stands_grown : {a b : Table} {h : Here} {s : Scope} → Onward a b → StandsIn a h s → StandsIn b h s
stands_grown f stands = record { holds = holds_on f stands; names = stands.names ∙ sym f.tags }

pub some_grown : {a b : Table} {h : Here} → Onward a b → StandsInSome a h → StandsInSome b h
some_grown f some = (some.0, stands_grown f some.1)

pub stands_still : {a b : Table} {h k : Here} {s : Scope} → Stays a b h k → StandsIn a h s → StandsIn b k s
stands_still {a} {b} {h} {k} {s} f stands = record { holds = f.holds s stands.holds; names = f.goes.names ∙ (stands.names ∙ sym f.goes.tags) }

pub some_still : {a b : Table} {h k : Here} → Stays a b h k → StandsInSome a h → StandsInSome b k
some_still f some = (some.0, stands_still f some.1)

-- ---- statements that declare nothing

behind_same : (s : Scope) (t : CStmt) → no_local t → scope_behind s t ≡ s
behind_same s (plain.Local d) h = absurd h
behind_same s plain.Empty h = refl
behind_same s _ h = refl

-- the scope of a `for` behind a head that is neither a block nor a declaration
pub head_same : (s : Scope) (t : CStmt) → no_local t → no_block t → scope_behind_head s t ≡ s
head_same s (plain.Local d) h k = absurd h
head_same s (plain.Block ss) h k = absurd k
head_same s plain.Empty h k = refl
head_same s _ h k = refl

pub behind_at : {b : Table} {k : Here} {s : Scope} (x y : Stmt) → x ≡ y → no_local (stmt_of y) → StandsIn b k s → StandsIn b k (scope_behind s (stmt_of x))
behind_at {b} {k} {s} x y is other stands = subst (λ (z : Scope). StandsIn b k z) (sym (ap (λ (z : Stmt). scope_behind s (stmt_of z)) is ∙ behind_same s (stmt_of y) other)) stands

pub behind : {T E : Type 0} {a : Table} {h : Here} {s : Scope} (b : Table) (k : Here) (r : Result T E) (x y : Stmt) → x ≡ y → no_local (stmt_of y) → StandsIn a h s → OnOk r (Stays a b h k) → OnOk r (StandsIn b k (scope_behind s (stmt_of x)))
behind b k (Ok t) x y is other stands f = behind_at x y is other (stands_still f stands)
behind b k (Err e) x y is other stands f = tt

pub going : {T E : Type 0} (a b : Table) (h k : Here) (r : Result T E) → OnOk r (Stays a b h k) → OnOk r (Goes a b h k)
going a b h k (Ok t) f = f.goes
going a b h k (Err e) f = tt

-- what was declared before a statement that declares nothing is declared behind it
pub stayed : {T E : Type 0} {a : Table} {h : Here} (b : Table) (k : Here) (r : Result T E) (x : Stmt) → no_local (stmt_of x) → StandsInSome a h
    → ((s : Scope) → StandsIn a h s → OnOk r (StandsIn b k (scope_behind s (stmt_of x)))) → OnOk r (Goes a b h k) → OnOk r (Stays a b h k)
stayed b k (Ok t) x other some f g = record {
  goes = g;
  holds = λ s before.
      (subst (λ (z : Scope). StandsIn b k z) (behind_same s (stmt_of x) other) (f s (record { holds = before; names = some.1.names }))).holds;
}
stayed b k (Err e) x other some f g = tt

-- ---- blocks

-- a block begins
pub entered_stands : {a : Table} {h : Here} {s : Scope} (e : Declarations) → e.names.block ≡ [] → IsInside h.declared e → StandsIn a h s → StandsIn a (record { declared = e; tags = h.tags }) (entered s)
entered_stands {a} {h} {s} e none inside stands = record {
  holds = block_entered a h.declared e s none inside.outer inside.layouts inside.defined stands.holds;
  names = stands.names;
}

-- and may end
pub ends : {a b : Table} {g k : Here} (h : Here) (mark : ℕ) → Goes a b g k → IsInside h.declared g.declared → mark ≡ length h.declared.names.outer → mark ≤ length k.declared.names.outer
ends {a} {b} {g} {k} h mark f inside is = may_end h.declared k.declared mark (inside_then h.declared g.declared k.declared inside f.around) is

-- what is declared behind its end is what was declared before it
pub stays_behind : {a b c : Table} {g k : Here} (h : Here) (e : Declarations) → Onward a b → Goes b c g k → texts g.tags.items ≡ texts h.tags.items → IsInside h.declared g.declared
    → (IsInside h.declared k.declared → IsSame h.declared e) → Stays a c h (record { declared = e; tags = k.tags })
stays_behind {a} {b} {c} {g} {k} h e o f names inside left =
    let same = left (inside_then h.declared g.declared k.declared inside f.around) in
    let grows = grows_then (known a) (known b) (known c) o.grows f.grows in
    record {
      goes = record {
        grows = grows;
        tags = f.tags ∙ o.tags;
        around = record { outer = same.outer; layouts = same.layouts; defined = same.defined };
        names = f.names ∙ names;
      };
      holds = λ s before. same_holds a c h.declared e s grows (f.tags ∙ o.tags) same before;
    }

-- a `for` and what stands behind its head
pub for_is : (a b : CStmt) (r : Turns) (s : Scope) (test step : Option CExpr) (body : CStmt) → a ≡ b → TurnsFrom r s test step body
    → plain.For a (maybe r.test) (maybe r.step) (stmt_of r.body) ≡ plain.For b (maybe_fewer s test) (maybe_fewer s step) (fewer_in s body)
for_is a b r s test step body head from =
    ap (λ (x : CStmt). plain.For x (maybe r.test) (maybe r.step) (stmt_of r.body)) head
    ∙ (ap (λ (x : Option CExpr). plain.For b x (maybe r.step) (stmt_of r.body)) from.test
    ∙ (ap (λ (x : Option CExpr). plain.For b (maybe_fewer s test) x (stmt_of r.body)) from.step
    ∙ ap (plain.For b (maybe_fewer s test) (maybe_fewer s step)) from.body))

pub onward_same : (a : Table) → Onward a a
onward_same a = record { grows = λ n k e. e; tags = refl }
