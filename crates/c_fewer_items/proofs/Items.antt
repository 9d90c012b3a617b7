-- The externals of a text with fewer operators, one after the other.
use Rattle.std.proofs.Common.{◌≡◌, ℕ, List, [], ◌∷◌, ◌++◌, Some, None, Bool, true, false, refl, sym, ap, ◌∙◌, subst, cond}
use Rattle.std.specs.Prelude.{map, Ok}
use Rattle.std.specs.List.{find}
use Rattle.std.specs.Str.{bytes_eq}
use Rattle.std.proofs.lemmas.Slice.Eq.{bytes_eq-Decides}
use Rattle.c_syntax.specs.Plain as plain
use Rattle.c_syntax.specs.Plain.{CItem}
use Rattle.c_types.specs.Refusals.{Judged, both}
use Rattle.c_types.specs.Scope.{Scope, contains}
use Rattle.c_types.specs.Declarations.{scope_or, declared}
use Rattle.c_types.specs.Units.{item_judged, all_items}
use Rattle.c_eval.specs.Text.{Definition, item_definitions, definitions}
use Rattle.c_helpers.specs.Fewer.{static_tree, fewer_in_declaration, fewer_in_item, fewer_in_items}
use Rattle.c_helpers.specs.Simple.{kept}
use Rattle.c_fewer_types.proofs.FewerTypedRules.{both_is}
use Rattle.c_fewer_items.specs.Files.{FilesStand}
use Rattle.c_fewer_items.specs.Kept.{ItemFits, ItemsFit, FrontStands, FunctionsStand, MaybeDefinitionStands}
use Rattle.c_fewer_items.proofs.Structs.{struct_goes}
use Rattle.c_fewer_items.proofs.Functions.{Goes, function_item_goes}
use Rattle.c_fewer_items.proofs.Objects.{object_goes}

module _ (test : List ℕ → Bool) (names : List (List ℕ)) where
  pub item_goes : (s s' : Scope) (item : CItem) (r : Scope) → FilesStand test s s' → ItemFits test names s item → item_judged s item ≡ Ok r → Goes test names s s' item (kept names (fewer_in_item s item)) r
  item_goes s s' (plain.StructItem tag) r a h e = let k = struct_goes test s s' tag r a e in record { other = k.other; is = k.is; stand = k.stand; functions = refl }
  item_goes s s' (plain.Object d) r a h e =
      let k = object_goes test s s' d r a h.0 h.1 h.2 e in
      record { other = k.other; is = ap (λ z. declared s' true (fewer_in_declaration s (static_tree z) d)) (ap (λ q. scope_or s q) e) ∙ k.is; stand = k.stand; functions = refl }
  item_goes s s' (plain.Function name at result params body) r a h e = function_item_goes test names s s' name at result params body r a h.0 h.1 h.2 e

  -- ---- functions

  front_joined : (b : Bool) (f : Definition) (gs rest more : List Definition) → FrontStands test b f gs rest → FrontStands test b f (gs ++ more) (rest ++ more)
  front_joined true f gs rest more h = (h.0, ap (λ z. z ++ more) h.1, h.2)
  front_joined false f gs rest more h = ap (λ z. z ++ more) h

  functions_joined : (fs gs hs ks : List Definition) → FunctionsStand test names fs gs → FunctionsStand test names hs ks → FunctionsStand test names (fs ++ hs) (gs ++ ks)
  functions_joined [] gs hs ks a b = subst (λ z. FunctionsStand test names hs (z ++ ks)) (sym a) b
  functions_joined (f ∷ fs) gs hs ks a b = (a.0 ++ ks, front_joined (contains names f.name) f gs a.0 ks a.1, functions_joined fs a.0 hs ks a.2 b)

  abbrev is_named : List ℕ → Definition → Bool
  is_named name f = bytes_eq name f.name

  -- a function whose name is kept is found in both
  pub found_stands : (name : List ℕ) (fs gs : List Definition) → contains names name ≡ true → FunctionsStand test names fs gs → MaybeDefinitionStands test (find (is_named name) fs) (find (is_named name) gs)
  found_stands name [] gs c h = subst (λ z. MaybeDefinitionStands test None (find (is_named name) z)) (sym h) tt
  found_stands name (f ∷ fs) gs c h = go (found_stands name fs h.0 c h.2) (bytes_eq name f.name) refl (contains names f.name) refl h.1
    where
      go : MaybeDefinitionStands test (find (is_named name) fs) (find (is_named name) h.0) → (b : Bool) → bytes_eq name f.name ≡ b → (k : Bool) → contains names f.name ≡ k → FrontStands test k f gs h.0 → MaybeDefinitionStands test (cond b (Some f) (find (is_named name) fs)) (find (is_named name) gs)
      go more true e true l d =
          let same : is_named name d.0 ≡ true = ap (λ (z : Definition). bytes_eq name z.name) d.2.is ∙ e in
          subst (λ z. MaybeDefinitionStands test (Some f) z) (sym (ap (λ z. find (is_named name) z) d.1 ∙ ap (λ b. cond b (Some d.0) (find (is_named name) h.0)) same)) d.2
      go more true e false l d = absurd (cc (sym l ∙ (ap (λ z. contains names z) (sym ((bytes_eq-Decides name f.name).0 e)) ∙ c)))
      go more false e true l d =
          let other : is_named name d.0 ≡ false = ap (λ (z : Definition). bytes_eq name z.name) d.2.is ∙ e in
          subst (λ z. MaybeDefinitionStands test (find (is_named name) fs) z) (sym (ap (λ z. find (is_named name) z) d.1 ∙ ap (λ b. cond b (Some d.0) (find (is_named name) h.0)) other)) more
      go more false e false l d = subst (λ z. MaybeDefinitionStands test (find (is_named name) fs) (find (is_named name) z)) (sym d) more

  -- ---- all

  pub record AllGo (s s' : Scope) (items items' : List CItem) (r : Scope) : Type 0 where
    pub other : Scope
    pub is : all_items s' items' ≡ Ok other
    pub stand : FilesStand test r other
    pub functions : FunctionsStand test names (definitions s items) (definitions s' items')

  abbrev told : Scope → Judged Scope
  told s = Ok s

  abbrev last : Scope → Scope → Judged Scope
  last a b = Ok b

  told_is : (x y : Scope) → told x ≡ told y → x ≡ y
  told_is x y e = cc e

  pub items_go : (items : List CItem) (s s' r : Scope) → FilesStand test s s' → ItemsFit test names s items → all_items s items ≡ Ok r → AllGo s s' items (map (kept names) (fewer_in_items s items)) r
  items_go [] s s' r a h e = record { other = s'; is = refl; stand = subst (λ z. FilesStand test z s') (told_is s r e) a; functions = refl }
  items_go (item ∷ items) s s' r a h e =
      let l = both_is (item_judged s item) (all_items (scope_or s (item_judged s item)) items) last r e in
      let item' : CItem = kept names (fewer_in_item s item) in
      let m = item_goes s s' item l.0 a h.0 l.1.1 in
      let before : scope_or s (item_judged s item) ≡ l.0 = ap (λ q. scope_or s q) l.1.1 in
      let there : scope_or s' (item_judged s' item') ≡ m.other = ap (λ q. scope_or s' q) m.is in
      let inner : all_items l.0 items ≡ Ok l.1.0 = subst (λ z. all_items z items ≡ Ok l.1.0) before l.1.2 in
      let n = items_go items l.0 m.other l.1.0 m.stand (subst (λ z. ItemsFit test names z items) before h.1) inner in
      record {
        other = n.other;
        is =
            ap (λ z. both (item_judged s' item') (all_items (scope_or s' (item_judged s' item')) (map (kept names) (fewer_in_items z items))) last) before
            ∙ (ap (λ q. both q (all_items (scope_or s' q) (map (kept names) (fewer_in_items l.0 items))) last) m.is ∙ ap (λ q. both {A = Scope} {B = Scope} (told m.other) q last) n.is);
        stand = subst (λ z. FilesStand test z n.other) (told_is l.1.0 r l.1.3) n.stand;
        functions =
            subst (λ z. FunctionsStand test names (item_definitions s item ++ definitions z items) (item_definitions s' item' ++ definitions (scope_or s' (item_judged s' item')) (map (kept names) (fewer_in_items z items)))) (sym before)
            (subst (λ z. FunctionsStand test names (item_definitions s item ++ definitions l.0 items) (item_definitions s' item' ++ definitions z (map (kept names) (fewer_in_items l.0 items)))) (sym there)
            (functions_joined (item_definitions s item) (item_definitions s' item') (definitions l.0 items) (definitions m.other (map (kept names) (fewer_in_items l.0 items))) m.functions n.functions));
      }
