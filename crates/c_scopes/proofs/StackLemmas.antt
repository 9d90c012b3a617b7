-- Stacks of declarations, and the map that finds them.
use Rattle.std.proofs.Common.{◌≡◌, ℕ, ◌+◌, Bool, true, false, List, [], ◌∷◌, ◌++◌, Option, Some, None, length, map, reverse, refl, sym, ap, ◌∙◌, subst, if◌then◌else◌}
use Rattle.std.proofs.Common.{zero, suc, ◌-◌, ◌<◌, take, arith}
use Rattle.std.specs.Prelude.{slice_get}
use Rattle.std.proofs.lemmas.Option.{slice_get_within}
use Rattle.std.specs.Map.{lookup}
use Rattle.std.specs.Str.{bytes_eq}
use Rattle.std.specs.Cmp.Lexicographic.{bytes_decides}
use Rattle.std.proofs.lemmas.List.{reverse-append, length-reverse, length-map}
use Rattle.ordered.specs.Order.{insert_entry}
use denote.Ref.{Bor}
use Rattle.c_scopes.specs.declared.entity.Entity.{Entity}
use Rattle.c_scopes.specs.declared.stack.Place.{Place}
use Rattle.c_scopes.specs.declared.stack.Declared.{Declared}
use Rattle.c_scopes.specs.Stack.{pair_of, pairs, placed, flat, looked, AreHidden, Stands, IsPushed}

abbrev pub Entries : Type 0
Entries = List (Bor (List ℕ) × Option Place)

abbrev pub with_key : Entries → Bor (List ℕ) → Option Place → Entries
with_key es k v = insert_entry (λ x y. bytes_eq x.now y.now) es k v

abbrev found : List ℕ → Entries → Option (Option Place)
found name es = lookup (λ k. bytes_eq name k.now) es

-- a look-up after a name's place was set
found_more : (name : List ℕ) (es : Entries) (k : Bor (List ℕ)) (v : Option Place)
    → found name (with_key es k v) ≡ (if bytes_eq name k.now then Some v else found name es)
found_more name [] k v = refl
found_more name (e ∷ es) k v = at (found_more name es k v) (bytes_eq k.now e.0.now) refl where
  there : (same : Bool) → (if same then Some v else found name es) ≡ (if same then Some v else (if same then Some e.1 else found name es))
  there true = refl
  there false = refl

  apart : (x y : Bool) → ((x ≡ true) → (y ≡ true) → ⊥) → (if x then Some e.1 else (if y then Some v else found name es)) ≡ (if y then Some v else (if x then Some e.1 else found name es))
  apart true true h = absurd (h refl refl)
  apart true false h = refl
  apart false y h = refl

  at : found name (with_key es k v) ≡ (if bytes_eq name k.now then Some v else found name es)
      → (same : Bool) → bytes_eq k.now e.0.now ≡ same
      → found name (if same then (e.0, v) ∷ es else e ∷ with_key es k v)
      ≡ (if bytes_eq name k.now then Some v else (if bytes_eq name e.0.now then Some e.1 else found name es))
  at step true f =
      subst (λ (n : List ℕ). (if bytes_eq name n then Some v else found name es) ≡ (if bytes_eq name k.now then Some v else (if bytes_eq name n then Some e.1 else found name es)))
      ((bytes_decides k.now e.0.now).0 f) (there (bytes_eq name k.now))
  at step false f =
      ap (λ r. if bytes_eq name e.0.now then Some e.1 else r) step
      ∙ apart (bytes_eq name e.0.now) (bytes_eq name k.now) (λ p q.
      let same : k.now ≡ e.0.now = sym ((bytes_decides name k.now).0 q) ∙ (bytes_decides name e.0.now).0 p in
      let yes : bytes_eq k.now e.0.now ≡ true = (bytes_decides k.now e.0.now).1 same in cc)

flat_if : (b : Bool) (v : Option Place) (o : Option (Option Place)) → flat (if b then Some v else o) ≡ (if b then v else flat o)
flat_if true v o = refl
flat_if false v o = refl

looked_more : (name : List ℕ) (es : Entries) (k : Bor (List ℕ)) (v : Option Place) → looked (with_key es k v) name ≡ (if bytes_eq name k.now then v else looked es name)
looked_more name es k v = ap flat (found_more name es k v) ∙ flat_if (bytes_eq name k.now) v (found name es)

pub reverse_push : (ds : List Declared) (d : Declared) → reverse (ds ++ d ∷ []) ≡ d ∷ reverse ds
reverse_push ds d = reverse-append ds (d ∷ [])

pub pairs_push : (ds : List Declared) (d : Declared) → pairs (ds ++ d ∷ []) ≡ pair_of d ∷ pairs ds
pairs_push ds d = ap (map pair_of) (reverse_push ds d)

pub length_pairs : (ds : List Declared) → length (pairs ds) ≡ length ds
length_pairs ds = length-map (reverse ds) pair_of ∙ length-reverse ds

-- a declaration more stands
pub push_stands : (ds : List Declared) (es new : Entries) (k : Bor (List ℕ)) (entity : Entity) (hidden : Option Place) (index : ℕ)
    → hidden ≡ looked es k.now → index ≡ length ds → new ≡ with_key es k (Some (record { entity = entity; index = index }))
    → Stands ds es → Stands (ds ++ record { name = k; entity = entity; hidden = hidden } ∷ []) new
push_stands ds es new k entity hidden index hides counts made s =
    let d : Declared = record { name = k; entity = entity; hidden = hidden } in
    record {
      finds = λ name.
          ap (λ all. looked all name) made
          ∙ (looked_more name es k (Some (record { entity = entity; index = index }))
          ∙ (ap (λ o. if bytes_eq name k.now then Some (record { entity = entity; index = index }) else o) (s.finds name)
          ∙ (ap (λ (n : ℕ). if bytes_eq name k.now then Some (record { entity = entity; index = n }) else placed (pairs ds) name) (counts ∙ sym (length_pairs ds))
          ∙ ap (λ ps. placed ps name) (sym (pairs_push ds d)))));
      hidden = subst AreHidden (sym (reverse_push ds d)) (hides ∙ s.finds k.now, s.hidden);
    }

-- what stood before the last declaration
pub pop_stands : (ds : List Declared) (d : Declared) (es new : Entries) → new ≡ with_key es d.name d.hidden → Stands (ds ++ d ∷ []) es → Stands ds new
pop_stands ds d es new made s =
    let hidden : AreHidden (d ∷ reverse ds) = subst AreHidden (reverse_push ds d) s.hidden in
    record {
      finds = λ name.
          ap (λ all. looked all name) made
          ∙ (looked_more name es d.name d.hidden ∙ by name (bytes_eq name d.name.now) refl (s.finds name ∙ ap (λ ps. placed ps name) (pairs_push ds d)) hidden.0);
      hidden = hidden.1;
    }
  where
    by : (name : List ℕ) (b : Bool) → bytes_eq name d.name.now ≡ b
        → looked es name ≡ (if b then Some (record { entity = d.entity; index = length (pairs ds) }) else placed (pairs ds) name)
        → d.hidden ≡ placed (pairs ds) d.name.now → (if b then d.hidden else looked es name) ≡ placed (pairs ds) name
    by name true e h g = g ∙ ap (placed (pairs ds)) (sym ((bytes_decides name d.name.now).0 e))
    by name false e h g = h

split_at : (ds : List Declared) (n : ℕ) (d : Declared) → suc n ≡ length ds → slice_get ds n ≡ Some d → ds ≡ take n ds ++ d ∷ []
split_at [] n d e h = cc
split_at (x ∷ []) zero d e h = cc
split_at (x ∷ y ∷ ds) zero d e h = absurd (omega arith)
split_at (x ∷ ds) (suc n) d e h = ap (λ rest. x ∷ rest) (split_at ds n d (omega arith) h)

-- what stands behind the last declaration's end
pub popped : (ds after : List Declared) (m : ℕ) (d : Declared) (es new : Entries) → slice_get ds (length ds - 1) ≡ Some d → after ≡ take m ds → m ≡ length ds - 1 → new ≡ with_key es d.name d.hidden → Stands ds es → Stands after new
popped ds after m d es new last cut count made s =
    let within : length ds - 1 < length ds = slice_get_within ds (length ds - 1) d last in
    let size : suc (length ds - 1) ≡ length ds = omega arith in
    let whole : ds ≡ take (length ds - 1) ds ++ d ∷ [] = split_at ds (length ds - 1) d size last in
    let before = pop_stands (take (length ds - 1) ds) d es new made (subst (λ all. Stands all es) whole s) in
    subst (λ all. Stands all new) (sym (cut ∙ ap (λ n. take n ds) count)) before
