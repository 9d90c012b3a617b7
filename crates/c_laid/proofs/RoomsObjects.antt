-- The words of the objects of file scope.
use Rattle.std.proofs.Common.{◌≡◌, ℕ, ◌+◌, ◌≤◌, true, false, List, [], ◌∷◌, length, Option, Some, None, nat_le, inl, refl, sym, ap, ◌∙◌, subst, arith}
use Rattle.std.specs.Prelude.{◌&&◌, ◌^◌, Ok, Err, IsOk, not}
use Rattle.std.specs.List.{list_any}
use Rattle.std.proofs.lemmas.List.{length-map}
use Rattle.std.proofs.lemmas.Bool.{and_parts, leb-true}
use Rattle.c_syntax.specs.Plain as plain
use Rattle.c_syntax.specs.Plain.{CValue, CDecl, CItem}
use Rattle.c_types.specs.declared.fault.TypeFault.TheVariants as fault
use Rattle.c_types.specs.Types.{CType, words_of, is_object_type}
use Rattle.c_types.specs.Refusals.{Judged, keeping}
use Rattle.c_types.specs.Scope.{Scope, Object, with_name, is_declared_here}
use Rattle.c_types.specs.Expressions.{written}
use Rattle.c_types.specs.Declarations.{completed, object_type, first_fitting, declared_type, declared_object, declared, scope_or}
use Rattle.c_types.specs.Units.{item_judged, all_items, start_scope, is_main, unit_judged}
use Rattle.c_types.specs.Census.{first_sum, of_type, item_sum, items_sum}
use Rattle.c_types.specs.Limits.{weight_of, most_words, file_words, has_narrow_types}
use Rattle.c_eval.specs.State.{Holds}
use Rattle.c_eval.specs.Memory.{zero_of}
use Rattle.c_eval.specs.Environment.{Environment, type_or_void, object_type_in, cell_kinds}
use Rattle.c_eval.specs.Text.{behind_item, first_cells, item_objects, file_objects, file_start, text_of}
use Rattle.c_eval.proofs.Cells.{LaidOut, cells_are_words}
use Rattle.c_limited.proofs.Sums.{weight}
use Rattle.c_limited.proofs.Objects.{cells_few, behind_scope, item_laid}
use Rattle.c_fewer_types.proofs.Judged.{keeping_is, first_kept}
use Rattle.c_fewer_types.proofs.FewerTypedRules.{after_is, both_is}
use Rattle.c_laid.specs.Rooms.{cells_in, ObjectsAreFew}

-- an object of a type that is one of objects
first_few : (s : Scope) (t : CType) (o : Option CValue) (here : Environment) → LaidOut here.scope.tags → is_object_type here.scope.tags t ≡ true → length (first_cells t o here) ≤ words_of here.scope.tags t + first_sum weight s o
first_few s t None here laid object = let a = length-map (cell_kinds here.scope.tags t) (λ kind. Holds (zero_of kind)) in let b = cells_are_words here.scope.tags laid t object in omega (arith, a, b)
first_few s t (Some v) here laid object = cells_few s v t here laid (inl object)

-- what a declaration at file scope tells
record Declared (s : Scope) (d : CDecl) (r : Scope) : Type 0 where
  type : CType
  is : declared_type s d ≡ Ok type
  object : is_object_type s.tags type ≡ true
  tags : r.tags ≡ s.tags

declared_tells : (s : Scope) (d : CDecl) (r : Scope) → declared s true d ≡ Ok r → Declared s d r
declared_tells s d r e =
    let k = after_is (declared_type s d) (λ t. declared_object s true d t) r e in
    let inner : Scope = with_name s d.name (Object k.0) in
    let l = after_is (first_fitting inner (record { file = true; pos = d.pos }) k.0 d.first) (λ _. keeping ((not (is_declared_here s d.name), fault.Twice d.pos) ∷ []) inner) r k.2 in
    let m = keeping_is {A = Scope} ((not (is_declared_here s d.name), fault.Twice d.pos) ∷ []) inner r l.2 in
    let w = after_is (written s d.pos d.ty) (λ t. object_type s d.pos (completed t d.first)) k.0 k.1 in
    let n = keeping_is {A = CType} ((is_object_type s.tags (completed w.0 d.first), fault.Mismatch d.pos) ∷ []) (completed w.0 d.first) k.0 w.2 in
    let o = first_kept (is_object_type s.tags (completed w.0 d.first)) (fault.Mismatch d.pos) [] n.0 in
    record { type = k.0; is = k.1; object = subst (λ z. is_object_type s.tags z ≡ true) n.1 o.0; tags = sym (ap (λ (z : Scope). z.tags) m.1) }

next : (s : Scope) (item : CItem) (items : List CItem) (r : Scope) → all_items s (item ∷ items) ≡ Ok r → (a : Scope) × ((b : Scope) × (item_judged s item ≡ Ok a) × (all_items (scope_or s (item_judged s item)) items ≡ Ok b) × (◌≡◌ {A = Judged Scope} (Ok b) (Ok r)))
next s item items r e = both_is (item_judged s item) (all_items (scope_or s (item_judged s item)) items) (λ _ inner. Ok inner) r e

-- an object's cells are those of its type, and a node of its first value may have one more
own_few : (d : CDecl) (here : Environment) (a : Scope) → LaidOut here.scope.tags → item_judged here.scope (plain.Object d) ≡ Ok a → cells_in (item_objects (plain.Object d) here) ≤ of_type (words_of here.scope.tags) (declared_type here.scope d) + item_sum weight here.scope (plain.Object d)
own_few d here a laid e =
    let k = declared_tells here.scope d a e in
    let inner : Environment = record (behind_item (plain.Object d) here) { literals_before = here.literals_before } in
    let same : inner.scope.tags ≡ here.scope.tags = ap (λ (z : Scope). z.tags) (behind_scope (plain.Object d) here) ∙ (ap (λ q. (scope_or here.scope q).tags) e ∙ k.tags) in
    let type : object_type_in here.scope d ≡ k.type = ap type_or_void k.is in
    let object : is_object_type inner.scope.tags (object_type_in here.scope d) ≡ true = (λ i. is_object_type (same i) (type i)) ∙ k.object in
    let few = first_few (scope_or here.scope (declared here.scope false d)) (object_type_in here.scope d) d.first inner (subst LaidOut (sym same) laid) object in
    let words : words_of inner.scope.tags (object_type_in here.scope d) ≡ words_of here.scope.tags k.type = λ i. words_of (same i) (type i) in
    let counted : of_type (words_of here.scope.tags) (declared_type here.scope d) ≡ words_of here.scope.tags k.type = ap (λ q. of_type (words_of here.scope.tags) q) k.is in
    omega (arith, few, words, counted)

all_few : (items : List CItem) (here : Environment) (r : Scope) → LaidOut here.scope.tags → all_items here.scope items ≡ Ok r → cells_in (file_objects items here) ≤ file_words here.scope items + items_sum weight here.scope items
all_few [] here r laid e = omega arith
all_few (plain.Object d ∷ items) here r laid e =
    let item : CItem = plain.Object d in
    let k = next here.scope item items r e in
    let there : (behind_item item here).scope ≡ scope_or here.scope (item_judged here.scope item) = behind_scope item here in
    let own = own_few d here k.0 laid k.1.1 in
    let rest : cells_in (file_objects items (behind_item item here)) ≤ file_words (scope_or here.scope (item_judged here.scope item)) items + items_sum weight (scope_or here.scope (item_judged here.scope item)) items =
    subst (λ z. cells_in (file_objects items (behind_item item here)) ≤ file_words z items + items_sum weight z items) there
    (all_few items (behind_item item here) k.1.0 (subst (λ z. LaidOut z.tags) (sym there) (item_laid here.scope item laid)) (subst (λ z. all_items z items ≡ Ok k.1.0) (sym there) k.1.2)) in
    omega (arith, own, rest)
all_few (plain.StructItem tag ∷ items) here r laid e =
    let item : CItem = plain.StructItem tag in
    let k = next here.scope item items r e in
    let rest = all_few items (behind_item item here) k.1.0 (item_laid here.scope item laid) k.1.2 in omega (arith, rest)
all_few (plain.Function name at result params body ∷ items) here r laid e =
    let item : CItem = plain.Function name at result params body in
    let k = next here.scope item items r e in
    let rest = all_few items (behind_item item here) k.1.0 (item_laid here.scope item laid) k.1.2 in omega (arith, rest)

ok_is : (r : Judged Scope) → IsOk r → (x : Scope) × (r ≡ Ok x)
ok_is (Ok x) h = (x, refl)
ok_is (Err e) h = absurd (cc h)

pub objects_are_few : ObjectsAreFew
objects_are_few u typed small =
    let t = ok_is (unit_judged u) typed in
    let all = after_is (all_items (start_scope u) u.items) (λ s. keeping ((list_any is_main u.items, fault.NoMain u.end) ∷ []) s) t.0 t.1 in
    let p = and_parts (nat_le (weight_of u) 65536 && nat_le (file_words (start_scope u) u.items) most_words) (has_narrow_types u) small in
    let q = and_parts (nat_le (weight_of u) 65536) (nat_le (file_words (start_scope u) u.items) most_words) p.0 in
    let light : weight_of u ≤ 65536 = leb-true (weight_of u) 65536 q.0 in
    let words : file_words (start_scope u) u.items ≤ most_words = leb-true (file_words (start_scope u) u.items) most_words q.1 in
    by (cells_in (text_of u).objects) (file_words (start_scope u) u.items) (weight_of u) (all_few u.items (file_start u) all.0 tt all.1) light words
  where
    by : (c f w : ℕ) → c ≤ f + w → w ≤ 65536 → f ≤ most_words → c ≤ 2 ^ 22 + 2 ^ 16
    by c f w h l m = omega (arith, h, l, m)
