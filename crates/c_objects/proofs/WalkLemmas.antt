-- Externals, one after the other.
use Rattle.std.proofs.Common.{◌≡◌, ℕ, suc, ◌+◌, Bool, true, false, ◌||◌, List, [], ◌∷◌, ◌++◌, length, map, Option, Some, None, refl, sym, ap, subst, ◌∙◌, append_assoc, length-append, arith}
use Rattle.std.specs.Prelude.{Ok, IsOk, is_some, slice_get, Vec}
use Rattle.std.specs.declared.alloc.Global.{Global}
use Rattle.std.specs.Str.{bytes_eq}
use Rattle.std.specs.Cmp.Lexicographic.{bytes_decides}
use Rattle.std.proofs.lemmas.List.{append-nil, map-append}
use Rattle.c_syntax.specs.Plain as plain
use Rattle.c_syntax.specs.Plain.{CTy, CValue, CDecl, CStmt, CItem}
use Rattle.c_types.specs.Types.{CType}
use Rattle.c_types.specs.Refusals.{Judged}
use Rattle.c_types.specs.Scope.{Scope, contains}
use Rattle.c_types.specs.Declarations.{declared_type, declared, scope_or}
use Rattle.c_types.specs.Units.{item_judged, all_items}
use Rattle.c_types.specs.Table.{Table}
use Rattle.c_operands.specs.declared.declarations.Declarations.{Declarations}
use Rattle.c_declared.specs.Held.{Holds, HoldsSome}
use Rattle.c_cells.specs.declared.structs.StructKinds.{StructKinds}
use Rattle.c_cells.specs.Structs.{AreStructKinds}
use Rattle.c_cells.proofs.StructLemmas.{struct_kinds_kept}
use Rattle.c_opening.specs.Named.{tag_in, tags_in, with_some, HasNumber}
use Rattle.c_eval.specs.State as run
use Rattle.c_eval.specs.Memory.{live_object}
use Rattle.c_eval.specs.Environment.{Environment, behind_literals, past_first, object_type_in, type_or_void}
use Rattle.c_eval.specs.LiteralsIn.{first_literals}
use Rattle.c_eval.specs.Text.{behind_item, behind_items, first_cells, item_objects, file_objects}
use Rattle.c_store.specs.declared.value.Cell as rust
use Rattle.c_store.specs.Values.{Cell}
use Rattle.c_store.specs.Shown.{cell_of}
use Rattle.c_resolved.specs.Same.{Tables, SameBlock, no_block, more_block}
use Rattle.c_resolved.specs.Means as means
use Rattle.c_resolved.specs.Means.{file_lengths}
use Rattle.c_emitted.specs.declared.emitter.Emitter.{Emitter}
use Rattle.c_emitted.proofs.TableLemmas.{extends_then}
use Rattle.c_static.proofs.CellLemmas.{behind_none}
use Rattle.c_objects.specs.Made.{AddsObject, AreShown, IsFile, Makes, shown_objects}
use Rattle.c_objects.specs.Passed.{behind_function}
use Rattle.c_objects.proofs.PassedLemmas.{object_passed, function_passed, function_tags, item_passed}

-- ---- externals that make no object

-- the place is that of another scope alone
abbrev pub with_scope : Scope → Environment → Environment
with_scope s here = record here { scope = s }

pub none_made : (t0 t1 : Table) (d e : Declarations) (structs : StructKinds) (out : Emitter) (here : Environment) (s : Scope) (new : List (List run.Cell)) → IsFile t0 d out here new → Holds t1 e s → AreStructKinds t1 structs s.tags
    → Makes t1 e structs out (with_scope s here) new []
none_made t0 t1 d e structs out here s new file holds kinds = record {
  more = [];
  is = record {
    holds = holds;
    stands = record { files = file.stands.files; owner = file.stands.owner; before = file.stands.before; next = file.stands.next; code = file.stands.code };
    shown = subst (AreShown out) (sym (append-nil new)) file.shown;
  };
  structs_are = kinds;
  made = refl;
}

pub function_made : (t0 t1 : Table) (d e : Declarations) (structs : StructKinds) (out : Emitter) (here : Environment) (name : List ℕ) (at : ℕ) (result : CTy) (params : List CDecl) (body : Option CStmt) (inner : Scope) (new : List (List run.Cell))
    → t1.tags ≡ t0.tags → IsFile t0 d out here new → AreStructKinds t0 structs here.scope.tags → item_judged here.scope (plain.Function name at result params body) ≡ Ok inner
    → Holds t1 e (behind_function here.scope name at result params (is_some body))
    → Makes t1 e structs out (behind_item (plain.Function name at result params body) here) new (item_objects (plain.Function name at result params body) here)
function_made t0 t1 d e structs out here name at result params body inner new same file kinds ok holds =
    let s = here.scope in
    let behind : Scope = behind_function s name at result params (is_some body) in
    let is : behind ≡ scope_or s (item_judged s (plain.Function name at result params body)) = function_passed s name at result params body inner ok in
    let structs_are : AreStructKinds t1 structs behind.tags =
    struct_kinds_kept t0 t1 structs behind.tags same (subst (AreStructKinds t0 structs) (sym (function_tags s name at result params (is_some body))) kinds) in
    subst (λ (r : Scope). Makes t1 e structs out (with_scope r here) new []) is (none_made t0 t1 d e structs out here behind new file holds structs_are)

-- ---- objects

place_is : (first : Option CValue) (x : Environment) (n : ℕ) → record (past_first first x) { literals_before = n } ≡ record x { literals_before = n }
place_is None x n = refl
place_is (Some v) x n = refl

behind_is : (first : Option CValue) (x : Environment) → past_first first x ≡ behind_literals (first_literals x.scope first) x
behind_is None x = sym (behind_none x)
behind_is (Some v) x = refl

-- behind the name of an object, whose first value comes next
abbrev pub behind_name : Scope → CDecl → Environment → Environment
behind_name s d here = record { scope = scope_or s (item_judged s (plain.Object d)); objects = (d.name, Some here.next) ∷ here.objects; next = suc here.next; literals_before = here.literals_before }

block_then : {t : Tables} {lengths : List ℕ} {cs cs' : List (List run.Cell)} {ds ds' : List (List Cell)} → SameBlock t lengths cs ds → SameBlock t lengths cs' ds' → SameBlock t lengths (cs ++ cs') (ds ++ ds')
block_then no_block after = after
block_then (more_block c before) after = more_block c (block_then before after)

-- the objects that are shown, and one more
shown_more : (a b : Emitter) (inner : Environment) (new : List (List run.Cell)) (cells : List run.Cell) (literals : List (List ℕ)) → AreShown a new → AddsObject a b inner cells literals → AreShown b (new ++ cells ∷ [])
shown_more a b inner new cells literals shown adds = record {
  same = λ names p x.
      let all : shown_objects b ≡ shown_objects a ++ map cell_of adds.object.items ∷ [] =
      ap (map (λ (o : Vec rust.Cell Global). map cell_of o.items)) adds.objects ∙ map-append (λ (o : Vec rust.Cell Global). map cell_of o.items) a.objects.items (adds.object ∷ []) in
      subst (λ (ds : List (List Cell)). SameBlock (means.tables_of names p) (file_lengths p) (new ++ cells ∷ []) ds) (sym all)
      (block_then (shown.same names p (extends_then adds.tables x)) (more_block (adds.shown.same names p x) no_block));
}

pub object_made : (t0 t1 : Table) (d0 d1 : Declarations) (structs : StructKinds) (a b : Emitter) (here : Environment) (d : CDecl) (inner : Scope) (t : CType) (new : List (List run.Cell)) → t1.tags ≡ t0.tags
    → declared here.scope true d ≡ Ok inner → declared_type here.scope d ≡ Ok t → IsFile t0 d0 a here new → AreStructKinds t0 structs here.scope.tags → Holds t1 d1 (scope_or here.scope (declared here.scope true d))
    → AddsObject a b (behind_name here.scope d here) (first_cells t d.first (behind_name here.scope d here)) (first_literals (behind_name here.scope d here).scope d.first)
    → Makes t1 d1 structs b (behind_item (plain.Object d) here) new (item_objects (plain.Object d) here)
object_made t0 t1 d0 d1 structs a b here d inner t new same ok typed file kinds holds adds =
    let s = here.scope in
    let place = behind_name s d here in
    let bare : Environment = record here { scope = place.scope; objects = place.objects; next = place.next } in
    let cells : List run.Cell = first_cells t d.first place in
    let literals : List (List ℕ) = first_literals place.scope d.first in
    let behind : behind_item (plain.Object d) here ≡ behind_literals literals bare = behind_is d.first bare in
    let tags : place.scope.tags ≡ s.tags = ap (λ (r : Judged Scope). (scope_or s r).tags) ok ∙ ap (λ (r : Scope). r.tags) (object_passed s inner d ok).is in
    let joined : length (a.objects.items ++ adds.object ∷ []) ≡ length a.objects.items + 1 = length-append a.objects.items (adds.object ∷ []) in
    let grown : length b.objects.items ≡ length (a.objects.items ++ adds.object ∷ []) = ap length adds.objects in
    let count : suc here.next ≡ length b.objects.items = omega (arith, file.stands.next, joined, grown) in
    let makes : Makes t1 d1 structs b (behind_literals literals bare) new (live_object cells ∷ []) = record {
      more = cells ∷ [];
      is = record {
        holds = holds;
        stands = record { files = adds.files; owner = adds.owner; before = adds.before; next = count; code = adds.code ∙ file.stands.code };
        shown = shown_more a b place new cells literals file.shown adds;
      };
      structs_are = struct_kinds_kept t0 t1 structs place.scope.tags same (subst (AreStructKinds t0 structs) (sym tags) kinds);
      made = refl;
    } in
    let objects : item_objects (plain.Object d) here ≡ live_object cells ∷ [] =
    ap (λ (e : Environment). live_object (first_cells (object_type_in s d) d.first e) ∷ []) (place_is d.first bare here.literals_before)
    ∙ ap (λ (u : Judged CType). live_object (first_cells (type_or_void u) d.first place) ∷ []) typed in
    subst (λ (e : Environment). Makes t1 d1 structs b e new (item_objects (plain.Object d) here)) (sym behind)
    (subst (λ (os : List run.Object). Makes t1 d1 structs b (behind_literals literals bare) new os) (sym objects) makes)

-- ---- all externals

-- the externals so far, and those that are left
pub record SoFar (now : Table) (e : Declarations) (structs : StructKinds) (out : Emitter) (here : Environment) (end : Scope) (new : List (List run.Cell)) (left all : List CItem) : Type 0 where
  pub place : Environment
  pub more : List (List run.Cell)
  pub is : IsFile now e out place (new ++ more)
  pub structs_are : AreStructKinds now structs place.scope.tags
  pub typed : all_items place.scope left ≡ Ok end
  pub objects : file_objects all here ≡ map live_object more ++ file_objects left place
  pub behind : behind_items all here ≡ behind_items left place

pub record Going (t0 now : Table) (d e : Declarations) (kinds structs : StructKinds) (a out : Emitter) (left all : List CItem) : Type 0 where
  pub some : HoldsSome now e
  pub tags : now.tags ≡ t0.tags
  pub numbered : (name : List ℕ) → contains (tags_in left) name ≡ true → HasNumber t0 name
  pub so_far : (here : Environment) (end : Scope) (new : List (List run.Cell)) → IsFile t0 d a here new → AreStructKinds t0 kinds here.scope.tags → all_items here.scope all ≡ Ok end → SoFar now e structs out here end new left all

pub begun : (t0 : Table) (d : Declarations) (kinds : StructKinds) (a : Emitter) (all : List CItem) → HoldsSome t0 d → ((name : List ℕ) → contains (tags_in all) name ≡ true → HasNumber t0 name) → Going t0 t0 d d kinds kinds a a all all
begun t0 d kinds a all some numbered = record {
  some = some;
  tags = refl;
  numbered = numbered;
  so_far = λ here end new file structs typed. record {
    place = here;
    more = [];
    is = subst (IsFile t0 d a here) (sym (append-nil new)) file;
    structs_are = structs;
    typed = typed;
    objects = refl;
    behind = refl;
  };
}

or_true : (b c : Bool) → c ≡ true → (b || c) ≡ true
or_true true c e = refl
or_true false c e = e

-- the tags of the others
others_numbered : (table : Table) (x : CItem) (rest : List CItem) → ((name : List ℕ) → contains (tags_in (x ∷ rest)) name ≡ true → HasNumber table name) → (name : List ℕ) → contains (tags_in rest) name ≡ true → HasNumber table name
others_numbered table x rest h name there = h name (by (tag_in x)) where
  by : (o : Option (List ℕ)) → contains (with_some o (tags_in rest)) name ≡ true
  by None = there
  by (Some tag) = or_true (bytes_eq name tag) (contains (tags_in rest) name) there

-- its own tag
pub own_numbered : (old now : Table) (x : CItem) (rest : List CItem) → now.tags ≡ old.tags → ((name : List ℕ) → contains (tags_in (x ∷ rest)) name ≡ true → HasNumber old name) → (name : List ℕ) → tag_in x ≡ Some name → HasNumber now name
own_numbered old now x rest same h name is =
    let first : contains (tags_in (x ∷ rest)) name ≡ true =
    ap (λ (o : Option (List ℕ)). contains (with_some o (tags_in rest)) name) is ∙ ap (λ (b : Bool). b || contains (tags_in rest) name) ((bytes_decides name name).1 refl) in
    let k = h name first in
    (k.0, ap (λ (l : List (List ℕ)). slice_get l k.0) same ∙ k.1)

is_ok : {A : Type 0} (r : Judged A) (a : A) → r ≡ Ok a → IsOk r
is_ok {A} r a e = let P : Judged A → Type 0 = λ x. IsOk x in subst P (sym e) refl

scope_behind : (item : CItem) (here : Environment) → (behind_item item here).scope ≡ scope_or here.scope (item_judged here.scope item)
scope_behind (plain.StructItem tag) here = refl
scope_behind (plain.Object d) here = by d.first where
  by : (first : Option CValue) → (past_first first (record here { scope = scope_or here.scope (item_judged here.scope (plain.Object d)); objects = (d.name, Some here.next) ∷ here.objects; next = suc here.next })).scope ≡ scope_or here.scope (item_judged here.scope (plain.Object d))
  by None = refl
  by (Some v) = refl
scope_behind (plain.Function name at result params body) here = refl

-- an external more
pub goes_on : (t0 t1 t2 : Table) (d e g : Declarations) (kinds structs more_structs : StructKinds) (a b c : Emitter) (x : CItem) (left rest all : List CItem) → Going t0 t1 d e kinds structs a b left all → left ≡ x ∷ rest
    → HoldsSome t2 g → t2.tags ≡ t1.tags
    → ((here : Environment) (new : List (List run.Cell)) → IsFile t1 e b here new → AreStructKinds t1 structs here.scope.tags → IsOk (item_judged here.scope x) → Makes t2 g more_structs c (behind_item x here) new (item_objects x here))
    → Going t0 t2 d g kinds more_structs a c rest all
goes_on t0 t1 t2 d e g kinds structs more_structs a b c x left rest all h next some tags makes = record {
  some = some;
  tags = tags ∙ h.tags;
  numbered = others_numbered t0 x rest (subst (λ (l : List CItem). (name : List ℕ) → contains (tags_in l) name ≡ true → HasNumber t0 name) next h.numbered);
  so_far = λ here end new file structs_are typed.
      let f = h.so_far here end new file structs_are typed in
      let p = item_passed f.place.scope x rest end (ap (all_items f.place.scope) (sym next) ∙ f.typed) in
      let m = makes f.place (new ++ f.more) f.is f.structs_are (is_ok (item_judged f.place.scope x) p.inner p.first) in
      let behind = behind_item x f.place in
      let scope : p.inner ≡ behind.scope = sym (scope_behind x f.place ∙ ap (scope_or f.place.scope) p.first) in
      record {
        place = behind;
        more = f.more ++ m.more;
        is = subst (IsFile t2 g c behind) (append_assoc new f.more m.more) m.is;
        structs_are = m.structs_are;
        typed = ap (λ (s : Scope). all_items s rest) (sym scope) ∙ p.rest;
        objects =
            f.objects ∙ (ap (λ (l : List CItem). map live_object f.more ++ file_objects l f.place) next
            ∙ (ap (λ (os : List run.Object). map live_object f.more ++ (os ++ file_objects rest behind)) m.made
            ∙ (sym (append_assoc (map live_object f.more) (map live_object m.more) (file_objects rest behind))
            ∙ ap (λ (os : List run.Object). os ++ file_objects rest behind) (sym (map-append live_object f.more m.more)))));
        behind = f.behind ∙ ap (λ (l : List CItem). behind_items l f.place) next;
      };
}

-- all are passed
pub done : (t0 t1 : Table) (d e : Declarations) (kinds structs : StructKinds) (a b : Emitter) (left all : List CItem) (here : Environment) (end : Scope) (new : List (List run.Cell)) → Going t0 t1 d e kinds structs a b left all → left ≡ []
    → IsFile t0 d a here new → AreStructKinds t0 kinds here.scope.tags → all_items here.scope all ≡ Ok end → Makes t1 e structs b (behind_items all here) new (file_objects all here)
done t0 t1 d e kinds structs a b left all here end new h none file structs_are typed =
    let f = h.so_far here end new file structs_are typed in
    let behind : behind_items all here ≡ f.place = f.behind ∙ ap (λ (l : List CItem). behind_items l f.place) none in
    let objects : file_objects all here ≡ map live_object f.more = f.objects ∙ (ap (λ (l : List CItem). map live_object f.more ++ file_objects l f.place) none ∙ append-nil (map live_object f.more)) in
    subst (λ (p : Environment). Makes t1 e structs b p new (file_objects all here)) (sym behind) (record { more = f.more; is = f.is; structs_are = f.structs_are; made = objects })
