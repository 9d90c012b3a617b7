-- First blocks of functions, one function behind the other.
use Rattle.std.proofs.Common.{◌≡◌, ℕ, ◌+◌, Bool, true, false, List, [], ◌∷◌, ◌++◌, Option, Some, None, refl, sym, ap, subst, ◌∙◌, if◌then◌else◌}
use Rattle.std.specs.Prelude.{Ok, unwrap_or}
use Rattle.std.specs.Str.{bytes_eq}
use Rattle.std.specs.Cmp.Lexicographic.{bytes_decides}
use Rattle.ordered.specs.Order.{insert_entry}
use denote.Ref.{Bor}
use Rattle.c_syntax.specs.Plain as tree
use Rattle.c_syntax.specs.Plain.{CTy, CDecl, CStmt, CItem}
use Rattle.c_types.specs.Refusals.{Judged}
use Rattle.c_types.specs.Scope.{Scope}
use Rattle.c_types.specs.Declarations.{scope_or}
use Rattle.c_types.specs.Units.{Signature, signature, declared_function, item_judged, all_items}
use Rattle.c_eval.specs.Text.{Definition, definition_in, item_definitions, definitions}
use Rattle.c_static.proofs.ConstantLemmas.{after_ok, both_ok}
use Rattle.c_cells.proofs.MapLemmas.{Decides, inserted}
use Rattle.c_lowered.specs.Counts.{stmt_jumps}
use Rattle.c_lowered.specs.Whole as definition
use Rattle.c_counted.specs.Numbers.{IsNumber}
use Rattle.c_addressing.specs.Names.{entry_in}
use Rattle.c_lower_data.specs.Entries.{Entries, entry_found, or_else, AddsEntry, IsFound, AreEntered}

-- ---- one entry more

bytes : Decides bytes_eq
bytes = record { same = λ x y e. (bytes_decides x y).0 e; equal = λ x y e. (bytes_decides x y).1 e }

known_stays : (old : Entries) (name : List ℕ) (block n : ℕ) (other : List ℕ) (same : Bool) → bytes_eq other name ≡ same → entry_found old name ≡ Some n → entry_found old other ≡ or_else (entry_found old other) (if same then Some block else None)
known_stays old name block n other true e h = by (entry_found old other) (ap (λ (x : List ℕ). entry_found old x) ((bytes_decides other name).0 e) ∙ h) where
  by : (o : Option ℕ) → o ≡ Some n → o ≡ or_else o (Some block)
  by (Some k) g = refl
  by None g = absurd cc
known_stays old name block n other false e h = by (entry_found old other) where
  by : (o : Option ℕ) → o ≡ or_else o None
  by (Some k) = refl
  by None = refl

-- a name of which a block is known
pub stays : (old : Entries) (name : List ℕ) (block n : ℕ) → entry_found old name ≡ Some n → AddsEntry old old name block
stays old name block n h = record { found = λ other. known_stays old name block n other (bytes_eq other name) refl h }

new_found : (old : Entries) (name : List ℕ) (block : ℕ) (other : List ℕ) (same : Bool) → bytes_eq other name ≡ same → entry_found old name ≡ None → (if same then Some block else entry_found old other) ≡ or_else (entry_found old other) (if same then Some block else None)
new_found old name block other true e h = by (entry_found old other) (ap (λ (x : List ℕ). entry_found old x) ((bytes_decides other name).0 e) ∙ h) where
  by : (o : Option ℕ) → o ≡ None → Some block ≡ or_else o (Some block)
  by None g = refl
  by (Some k) g = absurd cc
new_found old name block other false e h = by (entry_found old other) where
  by : (o : Option ℕ) → o ≡ or_else o None
  by (Some k) = refl
  by None = refl

-- another name
pub enters : (old new : Entries) (name : Bor (List ℕ)) (block : ℕ) → entry_found old name.now ≡ None → new ≡ insert_entry (λ x y. bytes_eq x.now y.now) old name block → AddsEntry old new name.now block
enters old new name block none made = record {
  found = λ other.
      ap (λ (es : Entries). entry_found es other) made ∙ (inserted (λ (k : Bor (List ℕ)). k.now) bytes_eq bytes other old name block ∙ new_found old name.now block other (bytes_eq other name.now) refl none);
}

-- ---- functions

-- the definition of a typed function
pub record IsDefined (s : Scope) (name : List ℕ) (params : List CDecl) (body : CStmt) (fs : List Definition) : Type 0 where
  pub f : Definition
  pub is : fs ≡ f ∷ []
  pub name_is : f.name ≡ name
  pub body_is : f.body ≡ body

pub defined : (s inner : Scope) (name : List ℕ) (at : ℕ) (result : CTy) (params : List CDecl) (body : CStmt) → item_judged s (tree.Function name at result params (Some body)) ≡ Ok inner
    → IsDefined s name params body (item_definitions s (tree.Function name at result params (Some body)))
defined s inner name at result params body h =
    let p = after_ok (signature s at result params) (λ f. declared_function s name at (Some body) f) inner h in
    subst (λ (r : Judged Signature). IsDefined s name params body (definition_in s name params body r)) (sym p.first) (record { f = _; is = refl; name_is = refl; body_is = refl })

-- a name that is found, once a function is entered
one_found : (old : Option ℕ) (same : Bool) (block at meant behind : ℕ) → IsNumber block at → IsFound old meant (if same then at else behind) → IsFound (or_else old (if same then Some block else None)) meant behind
one_found (Some n) same block at meant behind told h = h
one_found None true block at meant behind told h = subst (λ (m : ℕ). IsNumber block m) (sym h) told
one_found None false block at meant behind told h = h

pub one_entered : (old new : Entries) (block next : ℕ) (all fs rest : List Definition) (s : Scope) (name : List ℕ) (params : List CDecl) (body : CStmt) → IsDefined s name params body fs → AddsEntry old new name block
    → ((k : ℕ) → IsNumber block k → IsNumber next (k + (stmt_jumps body + 1))) → AreEntered old block all (fs ++ rest) → AreEntered new next all rest
one_entered old new block next all fs rest s name params body d adds behind g = record {
  at = g.at + definition.function_jumps d.f;
  told = subst (λ (b : CStmt). IsNumber next (g.at + (stmt_jumps b + 1))) (sym d.body_is) (behind g.at g.told);
  found = λ other.
      let left = definition.entry_in rest (g.at + definition.function_jumps d.f) other in
      let meant = definition.entry_in all 2 other in
      let here : IsFound (entry_found old other) meant (if bytes_eq other name then g.at else left) =
      subst (λ (n : List ℕ). IsFound (entry_found old other) meant (if bytes_eq other n then g.at else left)) d.name_is
      (subst (λ (ds : List Definition). IsFound (entry_found old other) meant (definition.entry_in (ds ++ rest) g.at other)) d.is (g.found other)) in
      subst (λ (o : Option ℕ). IsFound o meant left) (sym (adds.found other)) (one_found (entry_found old other) (bytes_eq other name) block g.at meant left g.told here);
}

-- ---- externals, one behind the other

pub record Entering (entries : Entries) (block : ℕ) (all left : List CItem) : Type 0 where
  pub so_far : (s end : Scope) → all_items s all ≡ Ok end → (here : Scope) × (all_items here left ≡ Ok end) × AreEntered entries block (definitions s all) (definitions here left)

pub none_entered : (items : List CItem) (entries : Entries) → entries ≡ [] → Entering entries 2 items items
none_entered items entries none = record {
  so_far = λ s end h. (s, h, record { at = 2; told = record { same = refl }; found = λ name. subst (λ (es : Entries). IsFound (entry_found es name) (definition.entry_in (definitions s items) 2 name) (definition.entry_in (definitions s items) 2 name)) (sym none) refl });
}

abbrev judged_as : Scope → Judged Scope
judged_as s = Ok s

ok_is : (a b : Scope) → judged_as a ≡ judged_as b → a ≡ b
ok_is a b e = cc

pub item_entered : (old new : Entries) (block next : ℕ) (all left : List CItem) (item : CItem) (rest : List CItem) → Entering old block all left → left ≡ item ∷ rest
    → ((s inner : Scope) (fs gs : List Definition) → item_judged s item ≡ Ok inner → AreEntered old block fs (item_definitions s item ++ gs) → AreEntered new next fs gs)
    → Entering new next all rest
item_entered old new block next all left item rest g same step = record {
  so_far = λ s end h.
      let k = g.so_far s end h in
      let here = k.0 in
      let judged : Judged Scope = item_judged here item in
      let p = both_ok {A = Scope} {B = Scope} {C = Scope} judged (all_items (scope_or here judged) rest) (λ _ (inner : Scope). Ok inner) end (subst (λ (l : List CItem). all_items here l ≡ Ok end) same k.1) in
      let ends : p.b ≡ end = ok_is p.b end p.rest in (
        scope_or here judged,
        p.second ∙ ap Ok ends,
        step here p.a (definitions s all) (definitions (scope_or here judged) rest) p.first (subst (λ (l : List CItem). AreEntered old block (definitions s all) (definitions here l)) same k.2),
      );
}

told_of : (o : Option ℕ) (meant : ℕ) → IsFound o meant 0 → IsNumber (unwrap_or o 0) meant
told_of (Some n) meant h = h
told_of None meant h = subst (λ (m : ℕ). IsNumber 0 m) (sym h) (record { same = refl })

pub all_entered : (entries : Entries) (block : ℕ) (all left : List CItem) → Entering entries block all left → left ≡ [] → (s end : Scope) → all_items s all ≡ Ok end → (name : List ℕ)
    → IsNumber (entry_in entries name) (definition.entry_in (definitions s all) 2 name)
all_entered entries block all left g end s last h name =
    let k = g.so_far s last h in
    told_of (entry_found entries name) (definition.entry_in (definitions s all) 2 name) (subst (λ (l : List CItem). IsFound (entry_found entries name) (definition.entry_in (definitions s all) 2 name) (definition.entry_in (definitions k.0 l) k.2.at name)) end (k.2.found name))
