-- The objects of file scope begin with the cells that they had, and their names stand for them as before.
use Rattle.std.proofs.Common.{◌≡◌, ℕ, suc, ◌+◌, ◌%◌, ◌^◌, ◌<◌, List, [], ◌∷◌, ◌++◌, length, Option, Some, None, Bool, true, false, refl, sym, ap, ap₂, ◌∙◌, subst, arith}
use Rattle.std.specs.Prelude.{map, Ok, if◌then◌else◌}
use Rattle.std.specs.Option.{option_map}
use Rattle.c_syntax.specs.Plain as plain
use Rattle.c_syntax.specs.Plain.{CExpr, CValue, CValues, CDecl, CItem}
use Rattle.c_syntax.specs.declared.tree.UnOp.TheVariants as unary
use Rattle.c_types.specs.Types.{CType}
use Rattle.c_types.specs.Constants.{is_constant}
use Rattle.c_types.specs.Refusals.{Judged, broken, keeping}
use Rattle.c_types.specs.Scope as entity
use Rattle.c_types.specs.Scope.{Scope, Entity, entity_of, with_name}
use Rattle.c_types.specs.Operands.{Operand, address_operand}
use Rattle.c_types.specs.Expressions.{judged, named}
use Rattle.c_types.specs.Declarations.{Site, Slots, first_slot, next_slots, slots_of, is_static_form, static_rules, object_rules, braces_rules, fitting, all_fitting, first_fitting, scope_or, declared}
use Rattle.c_types.specs.Units.{item_judged, all_items}
use Rattle.c_syntax.specs.Words.{meaning}
use Rattle.c_eval.specs.State.{Word, Holds}
use Rattle.c_eval.specs.Memory.{live_object}
use Rattle.c_eval.specs.Operators.{converted}
use Rattle.c_eval.specs.Environment.{constant_in, object_type_in, type_or_void, cell_kinds, slot_kinds, type_or_nothing, Environment, past_first}
use Rattle.c_eval.specs.LiteralsIn.{literals_in, value_literals, values_literals}
use Rattle.c_eval.specs.Eval.{array_text}
use Rattle.c_eval.specs.Text.{behind_item, behind_items, static_pointer, static_named, static_value, zero_cells, static_cells, all_static_cells, first_cells, item_objects, file_objects}
use Rattle.c_valid.proofs.Constants.{constant_in_below}
use Rattle.c_helpers.specs.Fewer.{constant_tree, static_tree, with_values, with_all_values, fewer_in_declaration, fewer_in_item, fewer_in_items}
use Rattle.c_helpers.specs.Simple.{kept}
use Rattle.c_fewer_types.specs.Standing.{ScopesStand, ValueHas, ValuesHave, FirstHas}
use Rattle.c_fewer_types.proofs.FewerTypedRules.{after_is, both_is}
use Rattle.c_fewer_types.proofs.Texts.{is_text}
use Rattle.c_fewer_types.proofs.Judged.{keeping_is}
use Rattle.c_fewer_items.specs.Files.{FilesStand}
use Rattle.c_fewer_items.specs.Kept.{StartsAt, ItemFits, ItemsFit}
use Rattle.c_fewer_items.specs.Laws.{place}
use Rattle.c_fewer_items.proofs.Files.{file_stands}
use Rattle.c_fewer_items.proofs.Numbers.{expr_is}
use Rattle.c_fewer_items.proofs.Objects.{no_address, last_broken, no_string, has_value, declared_is, object_goes}
use Rattle.c_fewer_items.proofs.Items.{item_goes}

-- ---- what fits

-- an expression of a first value at file scope
abbrev Fitted : Scope → CExpr → Type 0
Fitted s e = (t : Option CType) × ((a : Operand) × (judged s e ≡ Ok a) × (broken (object_rules t e a ++ static_rules e a a.constant) ≡ None))

module _ (s : Scope) (at : ℕ) where
  abbrev site : Site
  site = record { file = true; pos = at }

  mutual
    value_fitted : (t : Option CType) (v : CValue) (u : Unit {0}) → fitting s site t v ≡ Ok u → ValueHas (Fitted s) v
    value_fitted t (plain.One e) u k =
        let l = after_is (judged s e) (λ a. keeping (object_rules t e a ++ static_rules e a a.constant) tt) u k in
        (t, (l.0, l.1, (keeping_is {A = Unit {0}} (object_rules t e l.0 ++ static_rules e l.0 l.0.constant) tt u l.2).0))
    value_fitted t (plain.Many vs) u k =
        let l = after_is (all_fitting s site (slots_of s.tags t) vs) (λ _. keeping (braces_rules at (slots_of s.tags t) vs) tt) u k in
        values_fitted (slots_of s.tags t) vs l.0 l.1

    values_fitted : (slots : Slots) (vs : CValues) (u : Unit {0}) → all_fitting s site slots vs ≡ Ok u → ValuesHave (Fitted s) vs
    values_fitted slots plain.NoValue u k = tt
    values_fitted slots (plain.MoreValue v vs) u k =
        let l = both_is (fitting s site (first_slot slots) v) (all_fitting s site (next_slots slots) vs) (λ _ _. Ok tt) u k in
        (value_fitted (first_slot slots) v l.0 l.1.1, values_fitted (next_slots slots) vs l.1.0 l.1.2)

  first_fitted : (t : CType) (o : Option CValue) (u : Unit {0}) → first_fitting s site t o ≡ Ok u → FirstHas (Fitted s) o
  first_fitted t None u k = tt
  first_fitted t (Some v) u k = value_fitted (Some t) v u k

-- what fits and has no static form has no string literal
quiet : (s : Scope) (e : CExpr) → ((a : Operand) → is_static_form e a ≡ false) → Fitted s e → literals_in s e ≡ []
quiet s e form f =
    let a : Operand = f.1.0 in
    let v = has_value e a (form a) a.constant (last_broken (object_rules f.0 e a) (static_rules e a a.constant) f.1.2) in
    ((expr_is s e a f.1.1).0 (ap is_constant v.1)).1

-- ---- first values

-- what is no string of an array is one value
one_cell : (e : CExpr) (t : CType) (here : Environment) → is_text e ≡ false → static_cells (plain.One e) t here ≡ Holds (converted t (static_value here e)) ∷ []
one_cell e t here h = ap (λ b. if b then map (λ c. Holds (Word c)) (array_text t e) else Holds (converted t (static_value here e)) ∷ []) (no_string t e h)

module _ (P : List ℕ → Type 0) (s s' : Scope) (stand : ScopesStand P s s') where
  name_is : (objects : List (List ℕ × Option ℕ)) (next literals at : ℕ) (name : List ℕ) (a : Operand) → P name → judged s (plain.Var at name) ≡ Ok a → static_named (place s' objects next literals) name ≡ static_named (place s objects next literals) name
  name_is objects next literals at name a p k = go (entity_of s name) refl k
    where
      go : (o : Option Entity) → entity_of s name ≡ o → named s at name o ≡ Ok a → static_pointer name (entity_of s' name) (meaning objects name) ≡ static_pointer name (entity_of s name) (meaning objects name)
      go None e k = absurd (cc k)
      go (Some (entity.Object t)) e k = ap (λ z. static_pointer name z (meaning objects name)) ((stand.names name p).text (entity.Object t) e ∙ sym e)
      go (Some (entity.Routine t begun)) e k = ap (λ z. static_pointer name z (meaning objects name)) (((stand.names name p).text (entity.Routine t begun) e).1) ∙ sym (ap (λ z. static_pointer name z (meaning objects name)) e)
      go (Some (entity.BuiltIn t)) e k = absurd (cc k)
      go (Some entity.Printf) e k = absurd (cc k)

  word_is : (e : CExpr) → Word (constant_in s' (constant_tree s e)) ≡ Word (constant_in s e)
  word_is e = let few : constant_in s e < 2 ^ 24 = constant_in_below s e in let whole : constant_in s e % 2 ^ 24 ≡ constant_in s e = omega (arith, few) in ap (λ n. Word n) whole

  module _ (objects : List (List ℕ × Option ℕ)) (next : ℕ) where
    abbrev Same : CExpr → Type 0
    Same e = (t : CType) (m : ℕ) → static_cells (plain.One (static_tree s e)) t (place s' objects next m) ≡ static_cells (plain.One e) t (place s objects next m)

    number_same : (e : CExpr) → is_text e ≡ false → ((here : Environment) → static_value here e ≡ Word (constant_in here.scope e)) → (t : CType) (m : ℕ)
        → static_cells (plain.One (constant_tree s e)) t (place s' objects next m) ≡ static_cells (plain.One e) t (place s objects next m)
    number_same e h w t m =
        one_cell (constant_tree s e) t (place s' objects next m) refl
        ∙ (ap (λ v. Holds (converted t v) ∷ []) (word_is e ∙ sym (w (place s objects next m))) ∙ sym (one_cell e t (place s objects next m) h))

    expr_same : (e : CExpr) → Fitted s e → StartsAt P e → Same e
    expr_same (plain.Str at text) f h t m = refl
    expr_same (plain.Null at) f h t m = refl
    expr_same (plain.Var at name) f h t m =
        one_cell (plain.Var at name) t (place s' objects next m) refl
        ∙ (ap (λ v. Holds (converted t v) ∷ []) (name_is objects next m at name f.1.0 h f.1.1) ∙ sym (one_cell (plain.Var at name) t (place s objects next m) refl))
    expr_same (plain.Unary at unary.Address (plain.Var there name)) f h t m =
        let l = after_is (judged s (plain.Var there name)) (λ y. address_operand at y) f.1.0 f.1.1 in
        one_cell (plain.Unary at unary.Address (plain.Var there name)) t (place s' objects next m) refl
        ∙ (ap (λ v. Holds (converted t v) ∷ []) (name_is objects next m there name l.0 h l.1) ∙ sym (one_cell (plain.Unary at unary.Address (plain.Var there name)) t (place s objects next m) refl))
    expr_same (plain.Unary at unary.Address y) f h t m = absurd (no_address s at y (λ a. refl) f.0 f.1.0 f.1.1 f.1.2)
    expr_same (plain.Unary at op y) f h t m = number_same (plain.Unary at op y) refl (λ here. refl) t m
    expr_same e f h t m = number_same e refl (λ here. refl) t m

    literals_same : (e : CExpr) → Fitted s e → StartsAt P e → literals_in s' (static_tree s e) ≡ literals_in s e
    literals_same (plain.Str at text) f h = refl
    literals_same (plain.Null at) f h = refl
    literals_same (plain.Var at name) f h = refl
    literals_same (plain.Unary at unary.Address (plain.Var there name)) f h = refl
    literals_same (plain.Unary at unary.Address y) f h = absurd (no_address s at y (λ a. refl) f.0 f.1.0 f.1.1 f.1.2)
    literals_same (plain.Unary at op y) f h = sym (quiet s (plain.Unary at op y) (λ a. refl) f)
    literals_same e f h = sym (quiet s e (λ a. refl) f)

    mutual
      value_literals_same : (v : CValue) → ValueHas (Fitted s) v → ValueHas (StartsAt P) v → value_literals s' (with_values (static_tree s) v) ≡ value_literals s v
      value_literals_same (plain.One e) f h = literals_same e f h
      value_literals_same (plain.Many vs) f h = values_literals_same vs f h

      values_literals_same : (vs : CValues) → ValuesHave (Fitted s) vs → ValuesHave (StartsAt P) vs → values_literals s' (with_all_values (static_tree s) vs) ≡ values_literals s vs
      values_literals_same plain.NoValue f h = refl
      values_literals_same (plain.MoreValue v vs) f h = ap₂ (λ x y. x ++ y) (value_literals_same v f.0 h.0) (values_literals_same vs f.1 h.1)

    mutual
      value_same : (v : CValue) (t : CType) (m : ℕ) → ValueHas (Fitted s) v → ValueHas (StartsAt P) v → static_cells (with_values (static_tree s) v) t (place s' objects next m) ≡ static_cells v t (place s objects next m)
      value_same (plain.One e) t m f h = expr_same e f h t m
      value_same (plain.Many vs) t m f h =
          ap (λ z. all_static_cells (with_all_values (static_tree s) vs) (slots_of z (Some t)) (place s' objects next m)) (sym stand.tags) ∙ values_same vs (slots_of s.tags (Some t)) m f h

      values_same : (vs : CValues) (slots : Slots) (m : ℕ) → ValuesHave (Fitted s) vs → ValuesHave (StartsAt P) vs → all_static_cells (with_all_values (static_tree s) vs) slots (place s' objects next m) ≡ all_static_cells vs slots (place s objects next m)
      values_same plain.NoValue slots m f h = ap (λ z. zero_cells (slot_kinds z slots)) (sym stand.tags)
      values_same (plain.MoreValue v vs) slots m f h =
          ap₂ (λ x y. x ++ y) (value_same v (type_or_nothing (first_slot slots)) m f.0 h.0)
          (ap (λ z. all_static_cells (with_all_values (static_tree s) vs) (next_slots slots) (place s' objects next (m + length z))) (value_literals_same v f.0 h.0) ∙ values_same vs (next_slots slots) (m + length (value_literals s v)) f.1 h.1)

    first_same : (t : CType) (o : Option CValue) (m : ℕ) → FirstHas (Fitted s) o → FirstHas (StartsAt P) o → first_cells t (option_map (with_values (static_tree s)) o) (place s' objects next m) ≡ first_cells t o (place s objects next m)
    first_same t None m f h = ap (λ z. zero_cells (cell_kinds z t)) (sym stand.tags)
    first_same t (Some v) m f h = value_same v t m f h

    -- so many literals stand before what follows
    record Behind (o : Option CValue) (m : ℕ) : Type 0 where
      literals : ℕ
      is : past_first o (place s objects next m) ≡ place s objects next literals
      too : past_first (option_map (with_values (static_tree s)) o) (place s' objects next m) ≡ place s' objects next literals

    behind_first : (o : Option CValue) (m : ℕ) → FirstHas (Fitted s) o → FirstHas (StartsAt P) o → Behind o m
    behind_first None m f h = record { literals = m; is = refl; too = refl }
    behind_first (Some v) m f h = record { literals = m + length (value_literals s v); is = refl; too = ap (λ z. place s' objects next (m + length z)) (value_literals_same v f h) }

-- ---- externals

abbrev scope_told : Scope → Judged Scope
scope_told s = Ok s

scope_is : (x y : Scope) → scope_told x ≡ scope_told y → x ≡ y
scope_is x y e = cc e

-- what an external adds, in both texts
record AddsSame (s s' : Scope) (item item' : CItem) (r other : Scope) (objects : List (List ℕ × Option ℕ)) (next m : ℕ) : Type 0 where
  cells : item_objects item' (place s' objects next m) ≡ item_objects item (place s objects next m)
  objects_then : List (List ℕ × Option ℕ)
  next_then : ℕ
  literals_then : ℕ
  is : behind_item item (place s objects next m) ≡ place r objects_then next_then literals_then
  too : behind_item item' (place s' objects next m) ≡ place other objects_then next_then literals_then

reset : (o : Option CValue) (here : Environment) (m : ℕ) → record (past_first o here) { literals_before = m } ≡ record here { literals_before = m }
reset None here m = refl
reset (Some v) here m = refl

module _ (test : List ℕ → Bool) (names : List (List ℕ)) where
  abbrev P : List ℕ → Type 0
  P name = test name ≡ true

  object_adds : (s s' : Scope) (d : CDecl) (r other : Scope) → FilesStand test s s' → ItemFits test names s (plain.Object d) → (e : declared s true d ≡ Ok r) → declared s' true (fewer_in_declaration s (static_tree r) d) ≡ Ok other → (objects : List (List ℕ × Option ℕ)) (next m : ℕ)
      → AddsSame s s' (plain.Object d) (plain.Object (fewer_in_declaration s (static_tree r) d)) r other objects next m
  object_adds s s' d r other a h e g objects next m =
      let d' : CDecl = fewer_in_declaration s (static_tree r) d in
      let k = object_goes test s s' d r a h.0 h.1 h.2 e in
      let same : k.other ≡ other = scope_is k.other other (sym k.is ∙ g) in
      let stand : ScopesStand P r other = file_stands test r other (subst (λ z. FilesStand test r z) same k.stand) in
      let x = declared_is s d r e in
      let fitted : FirstHas (Fitted r) d.first = subst (λ z. FirstHas (Fitted z) d.first) x.is (first_fitted (with_name s d.name (entity.Object x.ty)) d.pos x.ty d.first x.unit x.fits) in
      let added : List (List ℕ × Option ℕ) = (d.name, Some next) ∷ objects in
      let b = behind_first P r other stand added (suc next) d.first m fitted h.2 in
      let here : scope_or s (declared s true d) ≡ r = ap (λ q. scope_or s q) e in
      let there : scope_or s' (declared s' true d') ≡ other = ap (λ q. scope_or s' q) g in
      let type_here : object_type_in s d ≡ k.ty = ap type_or_void k.type_is in
      let type_there : object_type_in s' d' ≡ k.ty = ap type_or_void k.type_too in
      record {
        cells =
            ap₂ (λ t z. live_object (first_cells t d'.first z) ∷ []) type_there (reset d'.first (place (scope_or s' (declared s' true d')) added (suc next) m) m ∙ ap (λ z. place z added (suc next) m) there)
            ∙ (ap (λ z. live_object z ∷ []) (first_same P r other stand added (suc next) k.ty d.first m fitted h.2)
            ∙ sym (ap₂ (λ t z. live_object (first_cells t d.first z) ∷ []) type_here (reset d.first (place (scope_or s (declared s true d)) added (suc next) m) m ∙ ap (λ z. place z added (suc next) m) here)));
        objects_then = added;
        next_then = suc next;
        literals_then = b.literals;
        is = ap (λ z. past_first d.first (place z added (suc next) m)) here ∙ b.is;
        too = ap (λ z. past_first d'.first (place z added (suc next) m)) there ∙ b.too;
      }

  item_adds : (s s' : Scope) (item : CItem) (r other : Scope) → FilesStand test s s' → ItemFits test names s item → item_judged s item ≡ Ok r → item_judged s' (kept names (fewer_in_item s item)) ≡ Ok other → (objects : List (List ℕ × Option ℕ)) (next m : ℕ)
      → AddsSame s s' item (kept names (fewer_in_item s item)) r other objects next m
  item_adds s s' (plain.StructItem tag) r other a h e g objects next m =
      record { cells = refl; objects_then = objects; next_then = next; literals_then = m; is = ap (λ q. place (scope_or s q) objects next m) e; too = ap (λ q. place (scope_or s' q) objects next m) g }
  item_adds s s' (plain.Function name at result params body) r other a h e g objects next m =
      record { cells = refl; objects_then = objects; next_then = next; literals_then = m; is = ap (λ q. place (scope_or s q) objects next m) e; too = ap (λ q. place (scope_or s' q) objects next m) g }
  item_adds s s' (plain.Object d) r other a h e g objects next m =
      let here : scope_or s (declared s true d) ≡ r = ap (λ q. scope_or s q) e in
      subst (λ z. AddsSame s s' (plain.Object d) (plain.Object (fewer_in_declaration s (static_tree z) d)) r other objects next m) (sym here)
      (object_adds s s' d r other a h e (subst (λ z. declared s' true (fewer_in_declaration s (static_tree z) d) ≡ Ok other) here g) objects next m)

  -- the objects of file scope, and the names that stand for them
  pub record SameObjects (items items' : List CItem) (here here' : Environment) : Type 0 where
    pub cells : file_objects items' here' ≡ file_objects items here
    pub names_are : (behind_items items' here').objects ≡ (behind_items items here).objects

  abbrev last : Scope → Scope → Judged Scope
  last a b = Ok b

  pub objects_same : (items : List CItem) (s s' r : Scope) → FilesStand test s s' → ItemsFit test names s items → all_items s items ≡ Ok r → (objects : List (List ℕ × Option ℕ)) (next m : ℕ)
      → SameObjects items (map (kept names) (fewer_in_items s items)) (place s objects next m) (place s' objects next m)
  objects_same [] s s' r a h e objects next m = record { cells = refl; names_are = refl }
  objects_same (item ∷ items) s s' r a h e objects next m =
      let l = both_is (item_judged s item) (all_items (scope_or s (item_judged s item)) items) last r e in
      let item' : CItem = kept names (fewer_in_item s item) in
      let k = item_goes test names s s' item l.0 a h.0 l.1.1 in
      let before : scope_or s (item_judged s item) ≡ l.0 = ap (λ q. scope_or s q) l.1.1 in
      let x = item_adds s s' item l.0 k.other a h.0 l.1.1 k.is objects next m in
      let rest : List CItem = map (kept names) (fewer_in_items l.0 items) in
      let n = objects_same items l.0 k.other l.1.0 k.stand (subst (λ z. ItemsFit test names z items) before h.1) (subst (λ z. all_items z items ≡ Ok l.1.0) before l.1.2) x.objects_then x.next_then x.literals_then in
      record {
        cells =
            ap (λ z. item_objects item' (place s' objects next m) ++ file_objects (map (kept names) (fewer_in_items z items)) (behind_item item' (place s' objects next m))) before
            ∙ (ap₂ (λ y z. y ++ file_objects rest z) x.cells x.too ∙ (ap (λ z. item_objects item (place s objects next m) ++ z) n.cells ∙ ap (λ z. item_objects item (place s objects next m) ++ file_objects items z) (sym x.is)));
        names_are =
            ap (λ z. (behind_items (map (kept names) (fewer_in_items z items)) (behind_item item' (place s' objects next m))).objects) before
            ∙ (ap (λ z. (behind_items rest z).objects) x.too ∙ (n.names_are ∙ ap (λ z. (behind_items items z).objects) (sym x.is)));
      }
