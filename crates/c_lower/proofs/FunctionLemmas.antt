-- Functions, their parameters and their bodies.
use Rattle.std.proofs.Common.{◌≡◌, ℕ, suc, ◌+◌, ◌≤◌, List, [], ◌∷◌, ◌++◌, length, length-append, map, take, Option, refl, sym, ap, subst, ◌∙◌, arith}
use Rattle.c_syntax.specs.Plain.{CDecl, CStmt}
use Rattle.c_syntax.specs.View.{decls_of}
use Rattle.c_syntax.specs.declared.tree.Decl.{Decl}
use Rattle.c_types.specs.Scope.{Scope}
use Rattle.c_types.specs.Units as plain
use Rattle.c_types.specs.Units.{body_scope}
use Rattle.c_operands.specs.declared.declarations.Declarations.{Declarations}
use Rattle.c_declared.specs.Held.{Holds}
use Rattle.c_emission.specs.declared.location.Location.{Location}
use Rattle.c_lowered.specs.Locations as location
use Rattle.c_lowered.specs.Locations.{Linking}
use Rattle.c_lowered.specs.Whole.{parameter_names, parameter_bases, function_start, function_linking}
use Rattle.c_counted.specs.Numbers.{IsNumber}
use Rattle.c_addressing.specs.declared.here.Here.{Here}
use Rattle.c_addressing.specs.declared.here.Output.{Output}
use Rattle.c_addressing.specs.Here.{IsHere}
use Rattle.c_addressing.specs.Names.{entry_in}
use Rattle.c_addressing.specs.Places.{AreLocations}
use Rattle.c_lower.specs.Parameters.{HaveNumbers, KnowsParameters}
use Rattle.c_lower.specs.Functions.{defined, IsWithin, StandsBefore}

pub one_more : (m x : ℕ) → m + x + 1 ≡ m + (x + 1)
one_more m x = omega arith

pub many_locations : (xs : List Location) (ps : List location.Location) → AreLocations xs ps → length xs ≡ length ps
many_locations [] [] h = refl
many_locations [] (p ∷ ps) h = absurd h
many_locations (x ∷ xs) [] h = absurd h
many_locations (x ∷ xs) (p ∷ ps) h = ap suc (many_locations xs ps h.1)

many_bases : (names : List (List ℕ)) (d : ℕ) → length (parameter_bases names d) ≡ length names
many_bases [] d = refl
many_bases (name ∷ names) d = ap suc (many_bases names (suc d))

pub many_names : (ds : List Decl) → length (map (λ d. d.name) (decls_of ds)) ≡ length ds
many_names [] = refl
many_names (d ∷ ds) = ap suc (many_names ds)

pub free_told : (free : ℕ) (ds : List Decl) → IsNumber free (1 + length ds) → IsNumber free (suc (length (map (λ d. d.name) (decls_of ds))))
free_told free ds h =
    let next : 1 + length ds ≡ suc (length ds) = omega arith in
    subst (λ (n : ℕ). IsNumber free n) (next ∙ ap suc (sym (many_names ds))) h

-- where a body begins
pub at_body : (h0 h1 h2 : Here) (out : Output) (w : Linking) (names : List (List ℕ × Option ℕ)) (s : Scope) (name : List ℕ) (params : List CDecl) (body : CStmt) (g : plain.Signature)
    → h1.slots ≡ h0.slots → h1.bases ≡ h0.bases → h1.entries ≡ h0.entries → KnowsParameters h1 h2 (map (λ d. d.name) params) → Holds out.types h1.declared (body_scope s name g) → StandsBefore h0 out w names (defined s name params body g)
    → IsHere h2 out (function_linking w (defined s name params body g)) (function_start w names (defined s name params body g)) × ((function_start w names (defined s name params body g)).next ≡ length h2.bases.items)
at_body h0 h1 h2 out w names s name params body g slots bases entries knows holds before =
    let f = defined s name params body g in
    let own : List (List ℕ) = map (λ d. d.name) params in
    let bases1 : AreLocations h1.bases.items w.bases = subst (λ b. AreLocations b.items w.bases) (sym bases) before.bases in
    let many : length h1.bases.items ≡ length w.bases = many_locations h1.bases.items w.bases bases1 in
    let all : AreLocations h2.bases.items (w.bases ++ parameter_bases own 1) = knows.bases w.bases bases1 in
    let slots1 : HaveNumbers h1.slots names = subst (λ b. HaveNumbers b names) (sym slots) before.slots in
    let numbered : HaveNumbers h2.slots (parameter_names own (length w.bases) ++ names) = subst (λ (n : ℕ). HaveNumbers h2.slots (parameter_names own n ++ names)) many (knows.slots names slots1) in
    let count : length h2.bases.items ≡ length w.bases + length own =
    many_locations h2.bases.items (w.bases ++ parameter_bases own 1) all ∙ (length-append w.bases (parameter_bases own 1) ∙ ap (λ (n : ℕ). length w.bases + n) (many_bases own 1)) in (
      record {
        holds = subst (λ (d : Declarations). Holds out.types d (body_scope s name g)) (sym knows.declared) holds;
        slots = numbered;
        bases = all;
        entries = λ n. subst (λ m. IsNumber (entry_in m.entries n) (w.entry n)) (sym (knows.entries ∙ entries)) (before.entries n);
        literals = before.literals;
      },
      sym count,
    )

pub take_first : (xs ys : List Location) → take (length xs) (xs ++ ys) ≡ xs
take_first [] ys = refl
take_first (x ∷ xs) ys = ap (λ (l : List Location). x ∷ l) (take_first xs ys)

pub within : (h e : Here) (more : List Location) → e.slots.outer ≡ h.slots.block ++ h.slots.outer → e.bases.items ≡ h.bases.items ++ more → IsWithin h e
within h e more slots bases = record { slots = slots; bases = ap (λ (l : List Location). take (length h.bases.items) l) bases ∙ take_first h.bases.items more }

pub names_end : (names : ℕ) (h : Here) (e : Here) → names ≡ length h.slots.outer → e.slots.outer ≡ h.slots.block ++ h.slots.outer → names ≤ length e.slots.outer
names_end names h e is around =
    let k = ap length around ∙ length-append h.slots.block h.slots.outer in
    omega (arith, k, is)
