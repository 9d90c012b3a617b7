-- The slots of parameters, from the last one on.
use Rattle.std.proofs.Common.{◌≡◌, ℕ, zero, suc, ◌+◌, ◌-◌, ◌<◌, ◌≤◌, List, [], ◌∷◌, ◌++◌, length, map, drop, get_or, Option, Some, Bool, true, false, refl, sym, ap, subst, ◌∙◌, cond, arith}
use Rattle.std.specs.Str.{bytes_eq}
use Rattle.std.proofs.lemmas.List.{append-nil}
use Rattle.c_syntax.specs.Words.{meaning}
use Rattle.c_syntax.specs.View.{decls_of}
use Rattle.c_syntax.specs.declared.tree.Decl.{Decl}
use Rattle.c_scopes.specs.declared.entity.Entity.{Entity}
use Rattle.c_scopes.specs.declared.entity.Entity.TheVariants.{Object}
use Rattle.c_scopes.specs.Blocks.{Blocks}
use Rattle.c_code.specs.Machine.{parameter_slots}
use Rattle.c_pieces.specs.Places.{slot_of, AreInSlots}

-- names, each with its slot from one on
abbrev pub entries : List Decl → ℕ → List (List ℕ × Entity)
entries [] n = []
entries (d ∷ ds) n = (d.name, Object n) ∷ entries ds (suc n)

by_name : (b : Bool) (n : ℕ) (o : Option Entity) (p : Option (Option ℕ)) → slot_of o ≡ p → slot_of (cond b (Some (Object n)) o) ≡ cond b (Some (Some n)) p
by_name true n o p e = refl
by_name false n o p e = e

found : (ds : List Decl) (n : ℕ) (name : List ℕ) → slot_of (meaning (entries ds n) name) ≡ meaning (parameter_slots (map (λ d. d.name) (decls_of ds)) n) name
found [] n name = refl
found (d ∷ ds) n name = by_name (bytes_eq name d.name) n (meaning (entries ds (suc n)) name) (meaning (parameter_slots (map (λ x. x.name) (decls_of ds)) (suc n)) name) (found ds (suc n) name)

drop_whole : {A : Type 0} (xs : List A) → drop (length xs) xs ≡ []
drop_whole [] = refl
drop_whole (x ∷ xs) = drop_whole xs

-- those of the last ones are declared
abbrev pub SoFar : List Decl → ℕ → Blocks → Type 0
SoFar ds k b = (b.block ≡ entries (drop k ds) k) × (b.outer ≡ [])

pub begun : (ds : List Decl) (b : Blocks) (k : ℕ) → k ≡ length ds → b.block ≡ [] → b.outer ≡ [] → SoFar ds k b
begun ds b k e none outer = (none ∙ sym (ap (λ l. entries l k) (ap (λ n. drop n ds) e ∙ drop_whole ds)), outer)

at_place : {A : Type 0} (xs : List A) (k : ℕ) (x : A) → k < length xs → drop k xs ≡ get_or xs k x ∷ drop (suc k) xs
at_place [] k x lt = absurd (omega (arith, lt))
at_place (y ∷ xs) zero x lt = refl
at_place (y ∷ xs) (suc k) x lt = at_place xs k x (omega (arith, lt))

-- one more, before them
pub goes_on : (ds : List Decl) (step k j : ℕ) (b c : Blocks) (d : Decl) → step < length ds → k ≡ length ds - 1 - step → j ≡ length ds - (step + 1) → d ≡ get_or ds k d → SoFar ds (length ds - step) b → c.block ≡ (d.name, Object k) ∷ b.block → c.outer ≡ b.outer → SoFar ds j c
goes_on ds step k j b c d lt e f is h block outer =
    let next : length ds - step ≡ suc k = omega (arith, lt, e) in
    let here : j ≡ k = omega (arith, lt, e, f) in
    let within : k < length ds = omega (arith, lt, e) in
    let rest : b.block ≡ entries (drop (suc k) ds) (suc k) = subst (λ n. b.block ≡ entries (drop n ds) n) next h.0 in
    let all : drop k ds ≡ d ∷ drop (suc k) ds = at_place ds k d within ∙ ap (λ x. x ∷ drop (suc k) ds) (sym is) in
    subst (λ n. SoFar ds n c) (sym here) (block ∙ (ap (λ l. (d.name, Object k) ∷ l) rest ∙ sym (ap (λ l. entries l k) all)), outer ∙ h.1)

pub ends : (ds : List Decl) (step k : ℕ) (b : Blocks) → length ds ≤ step → k ≡ length ds - step → SoFar ds k b → AreInSlots b (parameter_slots (map (λ d. d.name) (decls_of ds)) 0)
ends ds step k b past e h =
    let none : k ≡ zero = omega (arith, past, e) in
    let block : b.block ≡ entries ds zero = subst (λ n. b.block ≡ entries (drop n ds) n) none h.0 in
    record { found = λ name. ap (λ l. slot_of (meaning (l ++ b.outer) name)) block ∙ (ap (λ l. slot_of (meaning (entries ds zero ++ l) name)) h.1 ∙ (ap (λ l. slot_of (meaning l name)) (append-nil (entries ds zero)) ∙ found ds zero name)) }
