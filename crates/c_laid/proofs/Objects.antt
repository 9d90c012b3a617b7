-- Objects of typed externals point to functions that are defined.
use Rattle.std.proofs.Common.{◌≡◌, ℕ, suc, Bool, true, false, List, [], ◌∷◌, ◌++◌, Option, Some, None, refl, sym, ap, ◌∙◌, subst, cond}
use Rattle.std.specs.Prelude.{Ok, Err, IsOk, not, is_some}
use Rattle.std.specs.List.{list_any}
use Rattle.std.specs.Str.{bytes_eq}
use Rattle.c_syntax.specs.Plain as plain
use Rattle.c_syntax.specs.Plain.{CDecl, CItem}
use Rattle.c_syntax.specs.Words.{meaning}
use Rattle.c_types.specs.declared.fault.TypeFault.TheVariants as fault
use Rattle.c_types.specs.Types.{CType, Unfinished, Members}
use Rattle.c_types.specs.Refusals.{Judged, Rule, keeping}
use Rattle.c_types.specs.Scope as entity
use Rattle.c_types.specs.Scope.{Scope, Entity, entity_of, with_name, is_declared_here, contains, built_ins}
use Rattle.c_types.specs.Declarations.{first_fitting, declared_type, declared_object, declared, scope_or, members, words_of_members, with_tag, is_tag, some_members}
use Rattle.c_types.specs.Units.{type_of, may_declare, entity_behind, with_function, signature, body_scope, around_body, body_judged, declared_function, item_judged, all_items, defined_in, start_scope, is_main, unit_judged}
use Rattle.c_eval.specs.Environment.{Environment, object_type_in}
use Rattle.c_eval.specs.Text.{behind_item, first_cells, file_objects, file_start}
use Rattle.c_limited.proofs.Objects.{behind_scope}
use Rattle.c_laid.proofs.First.{past_keeps}
use Rattle.c_fewer_types.proofs.Judged.{keeping_is}
use Rattle.c_fewer_types.proofs.FewerTypedRules.{after_is, both_is}
use Rattle.c_worlds.specs.Named.{CellsAreNamed, ObjectsAreNamed}
use Rattle.c_laid.specs.Pointed.{PointedFunctionsAreDefined}
use Rattle.c_laid.proofs.Values.{AreNumbered, first_named}

-- ---- scopes of file, in which these functions are defined, and whose objects have numbers

record IsFile (defined : List (List ℕ)) (s : Scope) (objects : List (List ℕ × Option ℕ)) : Type 0 where
  functions : s.defined ≡ defined
  numbered : AreNumbered s objects

behind_object : (defined : List (List ℕ)) (s : Scope) (objects : List (List ℕ × Option ℕ)) (n : List ℕ) (t : CType) (o : ℕ) → IsFile defined s objects → IsFile defined (with_name s n (entity.Object t)) ((n, Some o) ∷ objects)
behind_object defined s objects n t o a = record { functions = a.functions; numbered = λ name u e. go name u (bytes_eq name n) e }
  where
    go : (name : List ℕ) (u : CType) (b : Bool) → cond b (Some (entity.Object t)) (entity_of s name) ≡ Some (entity.Object u) → (p : ℕ) × (cond b (Some (Some o)) (meaning objects name) ≡ Some (Some p))
    go name u true e = (o, refl)
    go name u false e = a.numbered name u e

no_object : (x : Option Entity) (t u : CType) (defines : Bool) → Some (entity_behind x t defines) ≡ Some (entity.Object u) → ⊥
no_object None t u defines e = cc e
no_object (Some (entity.Object v)) t u defines e = cc e
no_object (Some (entity.Routine v begun)) t u defines e = cc e
no_object (Some (entity.BuiltIn v)) t u defines e = cc e
no_object (Some entity.Printf) t u defines e = cc e

behind_function : (defined : List (List ℕ)) (s : Scope) (objects : List (List ℕ × Option ℕ)) (n : List ℕ) (t : CType) (defines : Bool) → IsFile defined s objects → IsFile defined (with_function s n t defines) objects
behind_function defined s objects n t defines a = record { functions = a.functions; numbered = λ name u e. go name u (bytes_eq name n) e }
  where
    go : (name : List ℕ) (u : CType) (b : Bool) → cond b (Some (entity_behind (meaning s.block n) t defines)) (entity_of s name) ≡ Some (entity.Object u) → (p : ℕ) × (meaning objects name ≡ Some (Some p))
    go name u true e = absurd (no_object (meaning s.block n) t u defines e)
    go name u false e = a.numbered name u e

-- ---- externals

abbrev Points : List (List ℕ) → List ℕ → Type 0
Points defined name = contains defined name ≡ true

next : (s : Scope) (item : CItem) (items : List CItem) (r : Scope) → all_items s (item ∷ items) ≡ Ok r → (a : Scope) × ((b : Scope) × (item_judged s item ≡ Ok a) × (all_items (scope_or s (item_judged s item)) items ≡ Ok b) × (◌≡◌ {A = Judged Scope} (Ok b) (Ok r)))
next s item items r e = both_is (item_judged s item) (all_items (scope_or s (item_judged s item)) items) (λ _ inner. Ok inner) r e

-- what a declaration tells
record Declared (s : Scope) (d : CDecl) (r : Scope) : Type 0 where
  type : CType
  is : r ≡ with_name s d.name (entity.Object type)
  fits : Unit {0}
  first : first_fitting (with_name s d.name (entity.Object type)) (record { file = true; pos = d.pos }) type d.first ≡ Ok fits

declared_tells : (s : Scope) (d : CDecl) (r : Scope) → declared s true d ≡ Ok r → Declared s d r
declared_tells s d r e =
    let k = after_is (declared_type s d) (λ t. declared_object s true d t) r e in
    let inner : Scope = with_name s d.name (entity.Object k.0) in
    let l = after_is (first_fitting inner (record { file = true; pos = d.pos }) k.0 d.first) (λ _. keeping ((not (is_declared_here s d.name), fault.Twice d.pos) ∷ []) inner) r k.2 in
    let m = keeping_is {A = Scope} ((not (is_declared_here s d.name), fault.Twice d.pos) ∷ []) inner r l.2 in
    record { type = k.0; is = sym m.1; fits = l.0; first = l.1 }

abbrev IsOther : CItem → Type 0
IsOther (plain.Object d) = ⊥
IsOther item = Unit {0}

-- an external that is no object
other_file : (defined : List (List ℕ)) (s : Scope) (objects : List (List ℕ × Option ℕ)) (item : CItem) (r : Scope) → IsFile defined s objects → item_judged s item ≡ Ok r → IsOther item → IsFile defined r objects
other_file defined s objects (plain.Object d) r a e o = absurd o
other_file defined s objects (plain.StructItem tag) r a e o =
    let rules : List Rule = (not (is_tag s tag.name), fault.Twice tag.pos) ∷ (some_members tag.members, fault.Mismatch tag.pos) ∷ [] in
    let inner : Scope = with_tag s tag.name Unfinished in
    let k = after_is (members inner [] tag.members) (λ ms. keeping rules (with_tag s tag.name (Members ms (words_of_members inner.tags ms)))) r e in
    let l = keeping_is {A = Scope} rules (with_tag s tag.name (Members k.0 (words_of_members inner.tags k.0))) r k.2 in
    subst (λ z. IsFile defined z objects) l.1 (record { functions = a.functions; numbered = λ name t f. a.numbered name t f })
other_file defined s objects (plain.Function name at result params body) r a e o =
    let k = after_is (signature s at result params) (λ f. declared_function s name at body f) r e in
    let rules : List Rule = (may_declare (meaning s.block name) (type_of k.0) (is_some body), fault.Twice at) ∷ [] in
    let l = after_is (body_judged (body_scope s name k.0) (around_body k.0) body) (λ _. keeping rules (with_function s name (type_of k.0) (is_some body))) r k.2 in
    let m = keeping_is {A = Scope} rules (with_function s name (type_of k.0) (is_some body)) r l.2 in
    subst (λ z. IsFile defined z objects) m.1 (behind_function defined s objects name (type_of k.0) (is_some body) a)

all_point : (defined : List (List ℕ)) (items : List CItem) (here : Environment) (r : Scope) → IsFile defined here.scope here.objects → all_items here.scope items ≡ Ok r → ObjectsAreNamed (Points defined) (file_objects items here)
all_point defined [] here r a e = tt
all_point defined (plain.Object d ∷ items) here r a e =
    let item : CItem = plain.Object d in
    let k = next here.scope item items r e in
    let told : scope_or here.scope (item_judged here.scope item) ≡ k.0 = ap (λ q. scope_or here.scope q) k.1.1 in
    let own : Environment = record here { scope = scope_or here.scope (item_judged here.scope item); objects = (d.name, Some here.next) ∷ here.objects; next = suc here.next } in
    let later : Environment = behind_item item here in
    let x = declared_tells here.scope d k.0 k.1.1 in
    let inner : Scope = with_name here.scope d.name (entity.Object x.type) in
    let scope : later.scope ≡ inner = behind_scope item here ∙ (told ∙ x.is) in
    let objects : later.objects ≡ (d.name, Some here.next) ∷ here.objects = (past_keeps d.first own).0 in
    let file : IsFile defined inner ((d.name, Some here.next) ∷ here.objects) = behind_object defined here.scope here.objects d.name x.type here.next a in
    let cells = first_named inner ((d.name, Some here.next) ∷ here.objects) file.numbered d.first (object_type_in here.scope d) x.type (record { file = true; pos = d.pos }) x.fits (record later { literals_before = here.literals_before }) scope objects x.first in
    let after : IsFile defined later.scope later.objects = subst (λ z. IsFile defined z later.objects) (sym scope) (subst (λ z. IsFile defined inner z) (sym objects) file) in
    (subst (λ z. CellsAreNamed (Points z) (first_cells (object_type_in here.scope d) d.first (record later { literals_before = here.literals_before }))) a.functions cells, all_point defined items later k.1.0 after (subst (λ z. all_items z items ≡ Ok k.1.0) (sym (behind_scope item here)) k.1.2))
all_point defined (plain.StructItem tag ∷ items) here r a e =
    let item : CItem = plain.StructItem tag in
    let k = next here.scope item items r e in
    let told : scope_or here.scope (item_judged here.scope item) ≡ k.0 = ap (λ q. scope_or here.scope q) k.1.1 in
    all_point defined items (behind_item item here) k.1.0 (subst (λ z. IsFile defined z here.objects) (sym told) (other_file defined here.scope here.objects item k.0 a k.1.1 tt)) k.1.2
all_point defined (plain.Function name at result params body ∷ items) here r a e =
    let item : CItem = plain.Function name at result params body in
    let k = next here.scope item items r e in
    let told : scope_or here.scope (item_judged here.scope item) ≡ k.0 = ap (λ q. scope_or here.scope q) k.1.1 in
    all_point defined items (behind_item item here) k.1.0 (subst (λ z. IsFile defined z here.objects) (sym told) (other_file defined here.scope here.objects item k.0 a k.1.1 tt)) k.1.2

-- ---- the whole

ok_is : (r : Judged Scope) → IsOk r → (x : Scope) × (r ≡ Ok x)
ok_is (Ok x) h = (x, refl)
ok_is (Err e) h = absurd (cc h)

-- what is always known are functions
abbrev NoObject : Entity → Type 0
NoObject (entity.Object t) = ⊥
NoObject e = Unit {0}

abbrev NoObjects : List (List ℕ × Entity) → Type 0
NoObjects [] = Unit {0}
NoObjects (x ∷ xs) = NoObject x.1 × NoObjects xs

none : (e : Entity) (t : CType) → NoObject e → Some e ≡ Some (entity.Object t) → ⊥
none (entity.Object v) t h e = h
none (entity.Routine v begun) t h e = cc e
none (entity.BuiltIn v) t h e = cc e
none entity.Printf t h e = cc e

none_known : (xs : List (List ℕ × Entity)) → NoObjects xs → (name : List ℕ) (t : CType) → meaning (xs ++ []) name ≡ Some (entity.Object t) → ⊥
none_known [] h name t e = cc e
none_known (x ∷ xs) h name t e = go (λ e. none_known xs h.1 name t e) (bytes_eq name x.0) e
  where
    go : (meaning (xs ++ []) name ≡ Some (entity.Object t) → ⊥) → (b : Bool) → cond b (Some x.1) (meaning (xs ++ []) name) ≡ Some (entity.Object t) → ⊥
    go more true e = none x.1 t h.0 e
    go more false e = more e

pub pointed_functions_are_defined : PointedFunctionsAreDefined
pointed_functions_are_defined u typed =
    let t = ok_is (unit_judged u) typed in
    let all = after_is (all_items (start_scope u) u.items) (λ s. keeping ((list_any is_main u.items, fault.NoMain u.end) ∷ []) s) t.0 t.1 in
    all_point (defined_in u.items) u.items (file_start u) all.0 (record { functions = refl; numbered = λ name t e. absurd (none_known built_ins (tt, (tt, (tt, (tt, (tt, (tt, tt)))))) name t e) }) all.1
