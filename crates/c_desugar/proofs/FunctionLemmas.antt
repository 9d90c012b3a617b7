-- Functions by their parts, and what is judged to be there.
use Rattle.std.proofs.Common.{◌≡◌, ℕ, List, Option, refl, sym, ap, ◌∙◌}
use Rattle.std.specs.Prelude.{Result, Ok, Err, IsOk, IfOk, OnOk}
use Rattle.c_syntax.specs.Plain as plain
use Rattle.c_syntax.specs.Plain.{CTy, CDecl, CStmt}
use Rattle.c_types.specs.Refusals.{Judged, after}
use Rattle.c_types.specs.Scope.{Scope}
use Rattle.c_types.specs.Table.{Table}
use Rattle.c_fewer_operators.specs.declared.here.Here.{Here}
use Rattle.c_fewer_declarations.specs.Standing.{StandsIn, StandsInSome}
use Rattle.c_fewer_declarations.proofs.StandingLemmas.{holds_on}
use Rattle.c_fewer_trees.proofs.OnwardLemmas.{Onward}

pub stands_still : {a b : Table} {h : Here} {s : Scope} → Onward a b → StandsIn a h s → StandsIn b h s
stands_still {a} {b} {h} {s} f stands = record { holds = holds_on f stands; names = stands.names ∙ sym f.tags }

pub some_still : {a b : Table} {h : Here} → Onward a b → StandsInSome a h → StandsInSome b h
some_still f some = (some.0, stands_still f some.1)

-- what comes first isn't refused where the whole isn't
pub first_ok : {A B : Type 0} (r : Judged A) (f : A → Judged B) → IsOk (after r f) → IsOk r
first_ok (Ok a) f h = refl
first_ok (Err e) f h = h

pub function_is : (name other : List ℕ) (at : ℕ) (t u : CTy) (ps qs : List CDecl) (b c : Option CStmt) → name ≡ other → t ≡ u → ps ≡ qs → b ≡ c
    → plain.Function name at t ps b ≡ plain.Function other at u qs c
function_is name other at t u ps qs b c e f g h =
    ap (λ (n : List ℕ). plain.Function n at t ps b) e
    ∙ (ap (λ (k : CTy). plain.Function other at k ps b) f
    ∙ (ap (λ (l : List CDecl). plain.Function other at u l b) g ∙ ap (λ (o : Option CStmt). plain.Function other at u qs o) h))

pub on_ok : {X E A B : Type 0} (r : Result X E) → (A → B) → OnOk r A → OnOk r B
on_ok (Ok x) f h = f h
on_ok (Err e) f h = tt

pub if_both : {X E B : Type 0} {P Q : X → Type 0} (r : Result X E) → ((x : X) → P x → B → Q x) → IfOk r P → OnOk r B → IfOk r Q
if_both (Ok x) f h k = f x h k
if_both (Err e) f h k = tt
