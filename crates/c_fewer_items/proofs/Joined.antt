-- What the front of a text adds: functions, and no object.
use Rattle.std.proofs.Common.{◌≡◌, ℕ, List, [], ◌∷◌, ◌++◌, Some, None, Bool, true, false, refl, sym, ap, ◌∙◌, subst, cond}
use Rattle.std.specs.Prelude.{◌||◌, map, Ok, Err, if◌then◌else◌}
use Rattle.std.specs.List.{find}
use Rattle.std.specs.Str.{bytes_eq}
use Rattle.c_syntax.specs.Plain as plain
use Rattle.c_syntax.specs.Plain.{CDecl, CItem}
use Rattle.c_types.specs.Refusals.{Judged}
use Rattle.c_types.specs.Scope.{Scope, contains}
use Rattle.c_types.specs.Declarations.{scope_or}
use Rattle.c_types.specs.Units.{Signature, signature, body_scope, item_judged, all_items}
use Rattle.c_eval.specs.Text.{Definition, definition_in, item_definitions, definitions, behind_items, file_objects}
use Rattle.c_helpers.specs.Functions.{Helper}
use Rattle.c_helpers.specs.Fewer.{function_of}
use Rattle.c_helpers.specs.Simple.{kept}
use Rattle.c_fewer_types.proofs.FewerTypedRules.{both_is}
use Rattle.c_fewer_items.specs.Laws.{place}
use Rattle.c_fewer_items.specs.FewerHeadsLaws.{helper_items}
use Rattle.c_fewer_items.specs.FewerFrontsLaws.{DefinitionsAreJoined, FrontsHaveNoObjects, FrontsHaveOwnNames}

abbrev told : Scope → Judged Scope
told s = Ok s

abbrev last : Scope → Scope → Judged Scope
last x y = Ok y

told_is : (x y : Scope) → told x ≡ told y → x ≡ y
told_is x y e = cc e

pub together : {A : Type 0} (xs ys zs : List A) → (xs ++ ys) ++ zs ≡ xs ++ (ys ++ zs)
together [] ys zs = refl
together (x ∷ xs) ys zs = ap (λ ws. x ∷ ws) (together xs ys zs)

-- what an external and the others come to
record Split (s : Scope) (item : CItem) (items : List CItem) (r : Scope) : Type 0 where
  inner : Scope
  behind : scope_or s (item_judged s item) ≡ inner
  rest : all_items inner items ≡ Ok r

split : (s : Scope) (item : CItem) (items : List CItem) (r : Scope) → all_items s (item ∷ items) ≡ Ok r → Split s item items r
split s item items r e =
    let k = both_is (item_judged s item) (all_items (scope_or s (item_judged s item)) items) last r e in
    let behind : scope_or s (item_judged s item) ≡ k.0 = ap (λ q. scope_or s q) k.1.1 in
    record { inner = k.0; behind = behind; rest = subst (λ z. all_items z items ≡ Ok r) behind (k.1.2 ∙ k.1.3) }

pub definitions_are_joined : DefinitionsAreJoined
definitions_are_joined [] ys s r e = ap (λ z. definitions z ys) (told_is s r e)
definitions_are_joined (x ∷ xs) ys s r e =
    let k = split s x xs r e in
    ap (λ z. item_definitions s x ++ definitions z (xs ++ ys)) k.behind
    ∙ (ap (λ ds. item_definitions s x ++ ds) (definitions_are_joined xs ys k.inner r k.rest)
    ∙ (sym (together (item_definitions s x) (definitions k.inner xs) (definitions r ys)) ∙ ap (λ z. (item_definitions s x ++ definitions z xs) ++ definitions r ys) (sym k.behind)))

pub fronts_have_no_objects : FrontsHaveNoObjects
fronts_have_no_objects names [] items s r e objects next literals = (ap (λ z. file_objects items (place z objects next literals)) (told_is s r e), ap (λ z. behind_items items (place z objects next literals)) (told_is s r e))
fronts_have_no_objects names (g ∷ gs) items s r e objects next literals =
    let k = split s (kept names (function_of g)) (helper_items names gs) r e in
    let m = fronts_have_no_objects names gs items k.inner r k.rest objects next literals in (
      ap (λ z. file_objects (helper_items names gs ++ items) (place z objects next literals)) k.behind ∙ m.0,
      ap (λ z. behind_items (helper_items names gs ++ items) (place z objects next literals)) k.behind ∙ m.1,
    )

-- ---- names

abbrev pub is_named : List ℕ → Definition → Bool
is_named name f = bytes_eq name f.name

no_or : (a b : Bool) → (a || b) ≡ false → (a ≡ false) × (b ≡ false)
no_or true b e = absurd (cc e)
no_or false b e = (refl, e)

pub item_passed : (name : List ℕ) (s : Scope) (g : Helper) (ds : List Definition) → bytes_eq name g.name ≡ false → (b : Bool) → find (is_named name) (item_definitions s (plain.Function g.name 0 g.result g.params (if b then Some g.body else None)) ++ ds) ≡ find (is_named name) ds
item_passed name s g ds e false = refl
item_passed name s g ds e true = go (signature s 0 g.result g.params)
  where
    go : (q : Judged Signature) → find (is_named name) (definition_in s g.name g.params g.body q ++ ds) ≡ find (is_named name) ds
    go (Ok f) = ap (λ b. cond b (Some (record { name = g.name; result = f.result; params = map (λ (d : CDecl). d.name) g.params; scope = body_scope s g.name f; body = g.body })) (find (is_named name) ds)) e
    go (Err f) = refl

pub fronts_have_own_names : FrontsHaveOwnNames
fronts_have_own_names names [] s name ds c = refl
fronts_have_own_names names (g ∷ gs) s name ds c =
    let k = no_or (bytes_eq name g.name) (contains (map (λ (g : Helper). g.name) gs) name) c in
    let s' : Scope = scope_or s (item_judged s (kept names (function_of g))) in
    ap (λ z. find (is_named name) z) (together (item_definitions s (kept names (function_of g))) (definitions s' (helper_items names gs)) ds)
    ∙ (item_passed name s g (definitions s' (helper_items names gs) ++ ds) k.0 (contains names g.name) ∙ fronts_have_own_names names gs s' name ds k.1)
