-- Each object of file scope has a word.
use Rattle.std.proofs.Common.{◌≡◌, ℕ, ◌+◌, ◌≤◌, Bool, true, false, List, [], ◌∷◌, ◌++◌, length, Option, Some, None, refl, sym, ap, ◌∙◌, subst, cond, arith, length-append}
use Rattle.std.specs.Prelude.{Ok, Err, IsOk, not, is_some}
use Rattle.std.specs.List.{list_any}
use Rattle.std.specs.Str.{bytes_eq}
use Rattle.std.proofs.lemmas.List.{length-map}
use Rattle.c_syntax.specs.Plain as plain
use Rattle.c_syntax.specs.Plain.{CValue, CDecl, CTag, CItem}
use Rattle.c_syntax.specs.Words.{meaning}
use Rattle.c_types.specs.declared.fault.TypeFault.TheVariants as fault
use Rattle.c_types.specs.Types.{CType, Unfinished, Members, Tags, layout_words, is_finished, words_of, is_object_type}
use Rattle.c_types.specs.Refusals.{Judged, Rule, keeping}
use Rattle.c_types.specs.Scope.{Scope, Object, with_name, is_declared_here}
use Rattle.c_types.specs.Expressions.{written}
use Rattle.c_types.specs.Declarations.{Site, completed, object_type, first_fitting, declared_type, declared_object, declared, scope_or, member, members_or, members, types_of_members, words_of_members, with_tag, is_tag, some_members, tag_declared}
use Rattle.c_types.specs.Units.{type_of, may_declare, with_function, signature, body_scope, around_body, body_judged, declared_function, item_judged, all_items, start_scope, is_main, unit_judged}
use Rattle.c_eval.specs.State.{Holds}
use Rattle.c_eval.specs.Memory.{Kind, zero_of}
use Rattle.c_eval.specs.Environment.{Environment, type_or_void, object_type_in, cell_kinds}
use Rattle.c_eval.specs.Text.{behind_item, first_cells, file_objects, file_start}
use Rattle.c_eval.proofs.Cells.{AllObjects, LaidOut, cells_are_words}
use Rattle.c_limited.proofs.Objects.{behind_scope, item_laid}
use Rattle.c_fewer_types.proofs.Judged.{keeping_is, first_kept}
use Rattle.c_fewer_types.proofs.FewerTypedRules.{after_is, both_is}
use Rattle.c_laid.specs.Fits.{HaveWords}
use Rattle.c_laid.specs.Words.{ObjectsHaveWords}
use Rattle.c_laid.proofs.Cells.{StructsHaveWords, words_some, cells_some}

-- ---- tags behind an external

-- each member is one more
members_count : (s : Scope) (before : List (List ℕ × CType)) (ds : List CDecl) (ms : List (List ℕ × CType)) → members s before ds ≡ Ok ms → length before + length ds ≤ length ms
members_count s before [] ms e = let is : before ≡ ms = cc e in let n = ap (λ (z : List (List ℕ × CType)). length z) is in omega (arith, n)
members_count s before (d ∷ ds) ms e =
    let k = both_is (member s before d) (members s (members_or before (member s before d)) ds) (λ _ ms. Ok ms) ms e in
    let rest : members s (before ++ k.0 ∷ []) ds ≡ Ok k.1.0 = subst (λ q. members s (members_or before q) ds ≡ Ok k.1.0) k.1.1 k.1.2 in
    let is : k.1.0 ≡ ms = cc k.1.3 in
    let n = members_count s (before ++ k.0 ∷ []) ds k.1.0 rest in
    let a = length-append before (k.0 ∷ []) in
    let m = ap (λ (z : List (List ℕ × CType)). length z) is in
    omega (arith, n, a, m)

count_some : (ds : List CDecl) → some_members ds ≡ true → 1 ≤ length ds
count_some [] e = absurd (cc e)
count_some (d ∷ ds) e = omega arith

members_some : (tags : Tags) (ms : List (List ℕ × CType)) → StructsHaveWords tags → AllObjects tags (types_of_members ms) → 1 ≤ length ms → 1 ≤ words_of_members tags ms
members_some tags [] h all n = absurd (omega (arith, n))
members_some tags (m ∷ ms) h all n = let k = words_some tags h m.1 all.0 in omega (arith, k)

struct_words : (s : Scope) (tag : CTag) (r : Scope) → LaidOut s.tags → StructsHaveWords s.tags → tag_declared s tag ≡ Ok r → StructsHaveWords r.tags
struct_words s tag r laid h e =
    let inner : Scope = with_tag s tag.name Unfinished in
    let others : List Rule = (some_members tag.members, fault.Mismatch tag.pos) ∷ [] in
    let rules : List Rule = (not (is_tag s tag.name), fault.Twice tag.pos) ∷ others in
    let k = after_is (members inner [] tag.members) (λ ms. keeping rules (with_tag s tag.name (Members ms (words_of_members inner.tags ms)))) r e in
    let ms : List (List ℕ × CType) = k.0 in
    let words : ℕ = words_of_members inner.tags ms in
    let l = keeping_is {A = Scope} rules (with_tag s tag.name (Members ms words)) r k.2 in
    let once = first_kept (not (is_tag s tag.name)) (fault.Twice tag.pos) others l.0 in
    let one = first_kept (some_members tag.members) (fault.Mismatch tag.pos) [] once.1 in
    let there : scope_or s (tag_declared s tag) ≡ with_tag s tag.name (Members ms words) = ap (λ q. scope_or s q) e ∙ sym l.1 in
    let fits : LaidOut ((tag.name, Members ms words) ∷ s.tags) = subst (λ (z : Scope). LaidOut z.tags) there (item_laid s (plain.StructItem tag) laid) in
    let many = members_count inner [] tag.members ms k.1 in
    let few = count_some tag.members one.0 in
    let some : 1 ≤ words_of_members s.tags ms = members_some s.tags ms h fits.1.0 (omega (arith, many, few)) in
    let enough : 1 ≤ words = let same = fits.1.1 in omega (arith, same, some) in
    subst (λ (z : Scope). StructsHaveWords z.tags) l.1 (λ other f. by other (bytes_eq other tag.name) ms words enough f)
  where
    by : (other : List ℕ) (b : Bool) (ms : List (List ℕ × CType)) (words : ℕ) → 1 ≤ words → is_finished (cond b (Some (Members ms words)) (meaning s.tags other)) ≡ true → 1 ≤ layout_words (cond b (Some (Members ms words)) (meaning s.tags other))
    by other true ms words enough f = enough
    by other false ms words enough f = h other f

-- ---- what a declaration at file scope tells

record Declared (s : Scope) (d : CDecl) (r : Scope) : Type 0 where
  type : CType
  is : declared_type s d ≡ Ok type
  object : is_object_type s.tags type ≡ true
  fits : Unit {0}
  first : first_fitting (with_name s d.name (Object type)) (record { file = true; pos = d.pos }) type d.first ≡ Ok fits
  tags : r.tags ≡ s.tags

declared_tells : (s : Scope) (d : CDecl) (r : Scope) → declared s true d ≡ Ok r → Declared s d r
declared_tells s d r e =
    let k = after_is (declared_type s d) (λ t. declared_object s true d t) r e in
    let inner : Scope = with_name s d.name (Object k.0) in
    let l = after_is (first_fitting inner (record { file = true; pos = d.pos }) k.0 d.first) (λ _. keeping ((not (is_declared_here s d.name), fault.Twice d.pos) ∷ []) inner) r k.2 in
    let m = keeping_is {A = Scope} ((not (is_declared_here s d.name), fault.Twice d.pos) ∷ []) inner r l.2 in
    let w = after_is (written s d.pos d.ty) (λ t. object_type s d.pos (completed t d.first)) k.0 k.1 in
    let n = keeping_is {A = CType} ((is_object_type s.tags (completed w.0 d.first), fault.Mismatch d.pos) ∷ []) (completed w.0 d.first) k.0 w.2 in
    let o = first_kept (is_object_type s.tags (completed w.0 d.first)) (fault.Mismatch d.pos) [] n.0 in
    record { type = k.0; is = k.1; object = subst (λ z. is_object_type s.tags z ≡ true) n.1 o.0; fits = l.0; first = l.1; tags = sym (ap (λ (z : Scope). z.tags) m.1) }

item_words : (s : Scope) (item : CItem) (r : Scope) → LaidOut s.tags → StructsHaveWords s.tags → item_judged s item ≡ Ok r → StructsHaveWords r.tags
item_words s (plain.StructItem tag) r laid h e = struct_words s tag r laid h e
item_words s (plain.Object d) r laid h e = subst StructsHaveWords (sym (declared_tells s d r e).tags) h
item_words s (plain.Function name at result params body) r laid h e =
    let k = after_is (signature s at result params) (λ f. declared_function s name at body f) r e in
    let rules : List Rule = (may_declare (meaning s.block name) (type_of k.0) (is_some body), fault.Twice at) ∷ [] in
    let l = after_is (body_judged (body_scope s name k.0) (around_body k.0) body) (λ _. keeping rules (with_function s name (type_of k.0) (is_some body))) r k.2 in
    let m = keeping_is {A = Scope} rules (with_function s name (type_of k.0) (is_some body)) r l.2 in
    subst StructsHaveWords (ap (λ (z : Scope). z.tags) m.1) h

-- ---- objects

own_some : (o : Option CValue) (s inner : Scope) (site : Site) (t : CType) (here : Environment) (u : Unit {0}) → inner.tags ≡ s.tags → LaidOut s.tags → StructsHaveWords s.tags → is_object_type s.tags t ≡ true → first_fitting inner site t o ≡ Ok u → here.scope.tags ≡ s.tags → 1 ≤ length (first_cells t o here)
own_some None s inner site t here u tags laid h object fits same =
    let kinds : List Kind = cell_kinds here.scope.tags t in
    let a = length-map kinds (λ kind. Holds (zero_of kind)) in
    let b : length kinds ≡ words_of s.tags t = ap (λ z. length (cell_kinds z t)) same ∙ cells_are_words s.tags laid t object in
    let c = words_some s.tags h t object in
    omega (arith, a, b, c)
own_some (Some v) s inner site t here u tags laid h object fits same =
    cells_some inner site (subst LaidOut (sym tags) laid) (subst StructsHaveWords (sym tags) h) here (same ∙ sym tags) v (Some t) u fits (subst (λ z. is_object_type z t ≡ true) (sym tags) object)

next : (s : Scope) (item : CItem) (items : List CItem) (r : Scope) → all_items s (item ∷ items) ≡ Ok r → (a : Scope) × ((b : Scope) × (item_judged s item ≡ Ok a) × (all_items (scope_or s (item_judged s item)) items ≡ Ok b) × (◌≡◌ {A = Judged Scope} (Ok b) (Ok r)))
next s item items r e = both_is (item_judged s item) (all_items (scope_or s (item_judged s item)) items) (λ _ inner. Ok inner) r e

all_have : (items : List CItem) (here : Environment) (r : Scope) → LaidOut here.scope.tags → StructsHaveWords here.scope.tags → all_items here.scope items ≡ Ok r → HaveWords (file_objects items here)
all_have [] here r laid h e = tt
all_have (plain.Object d ∷ items) here r laid h e =
    let item : CItem = plain.Object d in
    let k = next here.scope item items r e in
    let told : scope_or here.scope (item_judged here.scope item) ≡ k.0 = ap (λ q. scope_or here.scope q) k.1.1 in
    let there : (behind_item item here).scope ≡ scope_or here.scope (item_judged here.scope item) = behind_scope item here in
    let x = declared_tells here.scope d k.0 k.1.1 in
    let place : Environment = record (behind_item item here) { literals_before = here.literals_before } in
    let tags : place.scope.tags ≡ here.scope.tags = ap (λ (z : Scope). z.tags) (there ∙ told) ∙ x.tags in
    let type : object_type_in here.scope d ≡ x.type = ap type_or_void x.is in
    let own : 1 ≤ length (first_cells (object_type_in here.scope d) d.first place) = subst (λ z. 1 ≤ length (first_cells z d.first place)) (sym type)
    (own_some d.first here.scope (with_name here.scope d.name (Object x.type)) (record { file = true; pos = d.pos }) x.type place x.fits refl laid h x.object x.first tags) in
    (own, all_have items (behind_item item here) k.1.0 (subst (λ (z : Scope). LaidOut z.tags) (sym there) (item_laid here.scope item laid)) (subst (λ (z : Scope). StructsHaveWords z.tags) (sym (there ∙ told)) (item_words here.scope item k.0 laid h k.1.1)) (subst (λ z. all_items z items ≡ Ok k.1.0) (sym there) k.1.2))
all_have (plain.StructItem tag ∷ items) here r laid h e =
    let item : CItem = plain.StructItem tag in
    let k = next here.scope item items r e in
    let told : scope_or here.scope (item_judged here.scope item) ≡ k.0 = ap (λ q. scope_or here.scope q) k.1.1 in
    all_have items (behind_item item here) k.1.0 (item_laid here.scope item laid) (subst (λ (z : Scope). StructsHaveWords z.tags) (sym told) (item_words here.scope item k.0 laid h k.1.1)) k.1.2
all_have (plain.Function name at result params body ∷ items) here r laid h e =
    let item : CItem = plain.Function name at result params body in
    let k = next here.scope item items r e in
    let told : scope_or here.scope (item_judged here.scope item) ≡ k.0 = ap (λ q. scope_or here.scope q) k.1.1 in
    all_have items (behind_item item here) k.1.0 (item_laid here.scope item laid) (subst (λ (z : Scope). StructsHaveWords z.tags) (sym told) (item_words here.scope item k.0 laid h k.1.1)) k.1.2

ok_is : (r : Judged Scope) → IsOk r → (x : Scope) × (r ≡ Ok x)
ok_is (Ok x) h = (x, refl)
ok_is (Err e) h = absurd (cc h)

pub objects_have_words : ObjectsHaveWords
objects_have_words u typed =
    let t = ok_is (unit_judged u) typed in
    let all = after_is (all_items (start_scope u) u.items) (λ s. keeping ((list_any is_main u.items, fault.NoMain u.end) ∷ []) s) t.0 t.1 in
    all_have u.items (file_start u) all.0 tt (λ tag f. absurd (cc f)) all.1
