-- Names gone through one after the other, by the bodies of a table.
use Rattle.std.proofs.Common.{◌≡◌, ◌+◌, ◌≤◌, ℕ, Bool, true, false, List, [], ◌∷◌, ◌++◌, length, get_or, Some, None, sym, ap, subst, ◌∙◌, arith, add-one}
use Rattle.std.specs.Prelude.{is_some}
use denote.Ref.{Bor}
use Rattle.c_syntax.specs.Plain as plain
use Rattle.c_syntax.specs.Plain.{CStmt, CItem}
use Rattle.c_syntax.specs.declared.tree.Stmt.{Stmt}
use Rattle.c_types.specs.Scope.{contains}
use Rattle.c_types.specs.Units.{defined_in}
use Rattle.c_helpers.specs.Fewer.{body_names}
use Rattle.c_tree_names.specs.Added.{texts}
use Rattle.c_tree_names.specs.Items.{names_of_body}
use Rattle.c_reached.specs.Bodies.{body_in, Stands}
use Rattle.c_reached.specs.Reaching.{with_all, Reaching, AllGone, Visited}
use Rattle.c_reached.proofs.SetLemmas.{false_true, few}
use Rattle.c_reached.proofs.BodyLemmas.{body_is, body_tells}
use Rattle.c_reached.proofs.ReachedLemmas.{one_gone}

-- a table of a text tells which functions are defined
pub stands_defined : (items : List CItem) (entries : List (Bor (List ℕ) × Bor Stmt)) → Stands entries items → (f : List ℕ) → is_some (body_in entries f) ≡ contains (defined_in items) f
stands_defined items entries s f = ap is_some (s f) ∙ body_is items f

stands_names : (items : List CItem) (entries : List (Bor (List ℕ) × Bor Stmt)) → Stands entries items → (g : List ℕ) → names_of_body (body_in entries g) ≡ body_names items g
stands_names items entries s g = ap names_of_body (s g) ∙ body_tells items g

abbrev Went : List (Bor (List ℕ) × Bor Stmt) → List (List ℕ) → List (List ℕ) → ℕ → Bool → Type 0
Went entries old new place more = Visited (λ f. is_some (body_in entries f)) (body_in entries) old new place more

pub goes_on : (items : List CItem) (seeds : List (List ℕ)) (entries : List (Bor (List ℕ) × Bor Stmt)) (old new : List (List ℕ)) (place : ℕ) (more : Bool)
    → Stands entries items → Went entries old new place more → more ≡ true → Reaching items seeds old place → Reaching items seeds new (place + 1)
goes_on items seeds entries old new place true s v e r =
    let is = λ (f : List ℕ). is_some (body_in entries f) in
    let here : with_all is old (body_names items (get_or old place [])) ≡ new = sym (v.1 ∙ ap (with_all is old) (stands_names items entries s (get_or old place []))) in
    subst (λ (l : List (List ℕ)). Reaching items seeds l (place + 1)) here (subst (λ (n : ℕ). Reaching items seeds (with_all is old (body_names items (get_or old place []))) n) (sym (add-one place)) (one_gone items seeds old place is (stands_defined items entries s) v.0 r))
goes_on items seeds entries old new place false s v e r = absurd (false_true e)

pub ends_here : (items : List CItem) (seeds : List (List ℕ)) (entries : List (Bor (List ℕ) × Bor Stmt)) (old new : List (List ℕ)) (place : ℕ) (more : Bool)
    → Went entries old new place more → more ≡ false → Reaching items seeds old place → AllGone items seeds new
ends_here items seeds entries old new place false v e r =
    record { place = place; past = subst (λ (l : List (List ℕ)). length l ≤ place) (sym v.1) v.0; reaching = subst (λ (l : List (List ℕ)). Reaching items seeds l place) (sym v.1) r }
ends_here items seeds entries old new place true v e r = absurd (false_true (sym e))

defined_few : (items : List CItem) → length (defined_in items) ≤ length items
defined_few [] = omega arith
defined_few (plain.Function name at result params (Some body) ∷ items) = let n = defined_few items in omega (arith, n)
defined_few (plain.Function name at result params None ∷ items) = let n = defined_few items in omega (arith, n)
defined_few (plain.StructItem tag ∷ items) = let n = defined_few items in omega (arith, n)
defined_few (plain.Object d ∷ items) = let n = defined_few items in omega (arith, n)

pub ends_past : (items : List CItem) (seeds known : List (List ℕ)) (place rounds : ℕ) → rounds ≤ place → length items ≤ rounds → Reaching items seeds known place → AllGone items seeds known
ends_past items seeds known place rounds past many r =
    let n = few known (defined_in items) r.once r.defined in
    let m = defined_few items in
    record { place = place; past = omega (arith, past, many, n, m); reaching = r }

-- a name before others, where there were none
pub one_before : (old mid new : List (Bor (List ℕ))) (name : Bor (List ℕ)) (rest : List (List ℕ)) → old ≡ [] → mid ≡ old ++ name ∷ [] → texts new ≡ texts mid ++ rest → texts new ≡ name.now ∷ rest
one_before old mid new name rest e f g = g ∙ (ap (λ (l : List (Bor (List ℕ))). texts l ++ rest) f ∙ ap (λ (l : List (Bor (List ℕ))). texts (l ++ name ∷ []) ++ rest) e)
