-- The externals of a program, one after the other: the names in what is kept pass.
use Rattle.std.proofs.Common.{◌≡◌, ℕ, List, [], ◌∷◌, ◌++◌, Option, Some, None, Bool, true, false, drop, nat_le, length, ◌^◌, refl, sym, ap, ap₂, ◌∙◌, subst}
use Rattle.std.specs.Prelude.{◌||◌, ◌&&◌, not, is_some, Ok, Err, if◌then◌else◌}
use Rattle.std.specs.List.{list_any}
use Rattle.std.specs.Option.{option_map}
use Rattle.std.specs.Str.{bytes_eq}
use Rattle.std.proofs.lemmas.Bool.{and_parts}
use Rattle.std.proofs.lemmas.Slice.Eq.{bytes_eq-Decides}
use Rattle.c_syntax.specs.Plain as plain
use Rattle.c_syntax.specs.Plain.{CExpr, CTy, CValue, CValues, CDecl, CStmt, CItem}
use Rattle.c_syntax.specs.Words.{meaning}
use Rattle.c_syntax.specs.declared.tree.UnOp.TheVariants as unary
use Rattle.c_types.specs.Types.{CType}
use Rattle.c_types.specs.Refusals.{Judged, after, both, keeping}
use Rattle.c_types.specs.Scope.{Scope, Entity, BuiltIn, Printf, entity_of, contains, built_ins}
use Rattle.c_types.specs.Operands.{Operand, conversions_of, address_operand}
use Rattle.c_types.specs.Expressions.{named, judged}
use Rattle.c_types.specs.Declarations.{Site, Slots, first_slot, next_slots, slots_of, object_rules, site_rules, braces_rules, fitting, all_fitting, first_fitting, scope_or}
use Rattle.c_types.specs.Units.{Signature, signature, body_scope, around_body, item_judged, all_items, defined_in}
use Rattle.c_types.specs.Census.{items_sum}
use Rattle.c_eval.specs.Text.{Definition, definition_in, item_definitions, definitions}
use Rattle.c_fewer_types.specs.Written.{StringsAreShort}
use Rattle.c_helpers.specs.Laws.{is_strange}
use Rattle.c_helpers.specs.Meanings.{is_format}
use Rattle.c_helpers.specs.Names.{value_names, values_names, first_names, stmt_names}
use Rattle.c_helpers.specs.Fewer.{with_values, with_all_values, static_tree, fewer_in_body, fewer_in_function, fewer_in_item, fewer_in_items, body_names, names_at_file_scope}
use Rattle.c_helpers.specs.Simple.{with_helpers, reached}
use Rattle.c_limited.proofs.Sums.{weight}
use Rattle.c_fewer_types.specs.Standing.{IsTextName, ValueHas, ValuesHave, FirstHas, StmtHas, IsDeclaration}
use Rattle.c_fewer_types.proofs.FewerTypedRules.{after_is, both_is}
use Rattle.c_worlds.specs.Named.{Each}
use Rattle.c_fewer_items.specs.Kept.{EachIsNamed, StartsAt, BodyPasses, BodyFits, ItemFits, ItemsFit}
use Rattle.c_fewer_names.proofs.Statements.{evaluated_names_are_all, names_come_from_before}
use Rattle.c_fewer_names.proofs.TextNamesStatements.{typed_bodies_name_text}
use Rattle.c_fewer_names.specs.FewerKnownLaws.{operators, is_known_name}
use Rattle.c_fewer_names.proofs.FewerKnownStatements.{names_are_known}
use Rattle.c_fewer_names.specs.NamedObjectsLaws.{FirstsStartAt}
use Rattle.c_programs.specs.Programs.{DeclsHaveNames, ItemsHaveNames, BodiesHave}
use Rattle.c_fewer_names.specs.Names.{is_reached, passes, BodiesReach}
use Rattle.c_fewer_names.proofs.Short.{Light, front, last, object_short}
use Rattle.c_fewer_names.proofs.Scopes.{IsFile, is_known, names_of_text, is_begun, Behind, struct_behind, ObjectIs, object_behind, FunctionIs, function_behind}
use Rattle.c_fewer_names.proofs.Closed.{own_kept, operator_kept, format_kept, value_kept}

-- ---- lists

same_name : (x : List ℕ) → bytes_eq x x ≡ true
same_name x = (bytes_eq-Decides x x).1 refl

or_first : (a b : Bool) → a ≡ true → (a || b) ≡ true
or_first a b e = ap (λ z. z || b) e

or_last : (a b : Bool) → b ≡ true → (a || b) ≡ true
or_last true b e = refl
or_last false b e = e

joined_first : (xs ys : List (List ℕ)) (x : List ℕ) → contains xs x ≡ true → contains (xs ++ ys) x ≡ true
joined_first [] ys x e = absurd (cc e)
joined_first (y ∷ xs) ys x e = go (bytes_eq x y) e (λ k. joined_first xs ys x k)
  where
    go : (b : Bool) → (b || contains xs x) ≡ true → (contains xs x ≡ true → contains (xs ++ ys) x ≡ true) → (b || contains (xs ++ ys) x) ≡ true
    go true e more = refl
    go false e more = more e

joined_last : (xs ys : List (List ℕ)) (x : List ℕ) → contains ys x ≡ true → contains (xs ++ ys) x ≡ true
joined_last [] ys x e = e
joined_last (y ∷ xs) ys x e = or_last (bytes_eq x y) (contains (xs ++ ys) x) (joined_last xs ys x e)

-- what is known of each name that passes the first test, and is in a list, holds of the list
each_of : (test : List ℕ → Bool) (P : List ℕ → Type 0) (xs : List (List ℕ)) → Each (λ name. test name ≡ true) xs → ((x : List ℕ) → test x ≡ true → contains xs x ≡ true → P x) → Each P xs
each_of test P [] h f = tt
each_of test P (x ∷ xs) h f = (f x h.0 (or_first (bytes_eq x x) (contains xs x) (same_name x)), each_of test P xs h.1 (λ y k e. f y k (or_last (bytes_eq y x) (contains xs y) e)))

-- ---- parameters and bodies

named_too : (ds : List CDecl) → DeclsHaveNames ds → EachIsNamed ds
named_too [] h = tt
named_too (d ∷ ds) h = (h.0, named_too ds h.1)

module _ (Q R : CExpr → Type 0) (f : (e : CExpr) → Q e → R e) where
  mutual
    value_then : (v : CValue) → ValueHas Q v → ValueHas R v
    value_then (plain.One e) q = f e q
    value_then (plain.Many vs) q = values_then vs q

    values_then : (vs : CValues) → ValuesHave Q vs → ValuesHave R vs
    values_then plain.NoValue q = tt
    values_then (plain.MoreValue v vs) q = (value_then v q.0, values_then vs q.1)

  first_then : (o : Option CValue) → FirstHas Q o → FirstHas R o
  first_then None q = tt
  first_then (Some v) q = value_then v q

abbrev Short : CStmt → Type 0
Short t = StmtHas StringsAreShort IsDeclaration t

-- the functions of a text that are always known are none that it defines
pub own_not_built : (items : List CItem) (s r : Scope) → IsFile s → ItemsHaveNames items → all_items s items ≡ Ok r → (name : List ℕ) → contains (defined_in items) name ≡ true → meaning built_ins name ≡ None
own_not_built [] s r file names e name c = absurd (cc c)
own_not_built (plain.StructItem tag ∷ items) s r file names e name c =
    let item : CItem = plain.StructItem tag in
    let there : Scope = scope_or s (item_judged s item) in
    let l = both_is (item_judged s item) (all_items there items) (λ _ inner. Ok inner) r e in
    let b : Behind s there = subst (λ z. Behind s z) (sym (ap (λ q. scope_or s q) l.1.1)) (struct_behind s tag l.0 file l.1.1) in
    own_not_built items there l.1.0 b.file names l.1.2 name c
own_not_built (plain.Object d ∷ items) s r file names e name c =
    let item : CItem = plain.Object d in
    let there : Scope = scope_or s (item_judged s item) in
    let l = both_is (item_judged s item) (all_items there items) (λ _ inner. Ok inner) r e in
    let o : ObjectIs s d there = subst (λ z. ObjectIs s d z) (sym (ap (λ q. scope_or s q) l.1.1)) (object_behind s d l.0 file names.0 l.1.1) in
    own_not_built items there l.1.0 o.behind.file names.1 l.1.2 name c
own_not_built (plain.Function n at result params None ∷ items) s r file names e name c =
    let item : CItem = plain.Function n at result params None in
    let there : Scope = scope_or s (item_judged s item) in
    let l = both_is (item_judged s item) (all_items there items) (λ _ inner. Ok inner) r e in
    let k : FunctionIs s n at result params None there = subst (λ z. FunctionIs s n at result params None z) (sym (ap (λ q. scope_or s q) l.1.1)) (function_behind s n at result params None l.0 file names.0 (named_too params names.1) l.1.1) in
    own_not_built items there l.1.0 k.behind.file names.2 l.1.2 name c
own_not_built (plain.Function n at result params (Some body) ∷ items) s r file names e name c =
    let item : CItem = plain.Function n at result params (Some body) in
    let there : Scope = scope_or s (item_judged s item) in
    let l = both_is (item_judged s item) (all_items there items) (λ _ inner. Ok inner) r e in
    let k : FunctionIs s n at result params (Some body) there = subst (λ z. FunctionIs s n at result params (Some body) z) (sym (ap (λ q. scope_or s q) l.1.1)) (function_behind s n at result params (Some body) l.0 file names.0 (named_too params names.1) l.1.1) in
    go (bytes_eq name n) refl c (k.other refl) (λ d. own_not_built items there l.1.0 k.behind.file names.2 l.1.2 name d)
  where
    go : (b : Bool) → bytes_eq name n ≡ b → (b || contains (defined_in items) name) ≡ true → meaning built_ins n ≡ None → (contains (defined_in items) name ≡ true → meaning built_ins name ≡ None) → meaning built_ins name ≡ None
    go true q d o more = ap (λ z. meaning built_ins z) ((bytes_eq-Decides name n).0 q) ∙ o
    go false q d o more = more d

-- ---- names that pass

module _ (texts : List CItem) (plainly : (name : List ℕ) → contains (defined_in texts) name ≡ true → meaning built_ins name ≡ None) where
  abbrev kept : List (List ℕ)
  kept = reached (with_helpers texts)

  abbrev own : List (List ℕ)
  own = defined_in texts

  abbrev test : List ℕ → Bool
  test = passes kept own

  abbrev Reached : List ℕ → Type 0
  Reached name = is_reached kept own name ≡ true

  passes_too : (name : List ℕ) → Reached name → test name ≡ true
  passes_too name r = or_first (is_reached kept own name) (list_any is_strange name && (contains kept name && (is_some (meaning operators name) || is_format name))) r

  pub reached_of : (name : List ℕ) → IsTextName name → (contains own name ≡ true → contains kept name ≡ true) → is_reached kept own name ≡ true
  reached_of name n f = go (contains own name) refl
    where
      go : (b : Bool) → contains own name ≡ b → (not (list_any is_strange name) && (contains kept name || not b)) ≡ true
      go true e = ap₂ (λ x y. not x && (y || false)) n (f e)
      go false e = ap₂ (λ x y. not x && y) n (or_last (contains kept name) true refl)

  text_passes : (name : List ℕ) → IsTextName name → (contains own name ≡ true → contains kept name ≡ true) → test name ≡ true
  text_passes name n f = passes_too name (reached_of name n f)

  strange_passes : (name : List ℕ) → list_any is_strange name ≡ true → contains kept name ≡ true → (is_some (meaning operators name) || is_format name) ≡ true → test name ≡ true
  strange_passes name e k o = or_last (is_reached kept own name) (list_any is_strange name && (contains kept name && (is_some (meaning operators name) || is_format name))) (ap₂ (λ x y. x && y) e (ap₂ (λ x y. x && y) k o))

  -- what is known, and is named in a function that is kept
  name_passes : (g x : List ℕ) → IsTextName g → contains kept g ≡ true → contains (body_names texts g) x ≡ true → is_known_name x ≡ true → test x ≡ true
  name_passes g x n r c known = by_known (list_any is_strange x) (is_some (meaning operators x)) (is_format x) refl refl refl known
    where
      by_known : (s o f : Bool) → list_any is_strange x ≡ s → is_some (meaning operators x) ≡ o → is_format x ≡ f → ((not s || o) || (f && (is_some (conversions_of (drop 7 x)) && nat_le (length (drop 7 x)) (2 ^ 22)))) ≡ true → test x ≡ true
      by_known false o f e k l known = text_passes x e (λ d. own_kept texts x g n d r c)
      by_known true true f e k l known = strange_passes x e (operator_kept texts x g n k r c) (or_first (is_some (meaning operators x)) (is_format x) k)
      by_known true false true e k l known = strange_passes x e (format_kept texts x g n l r c) (or_last (is_some (meaning operators x)) (is_format x) l)
      by_known true false false e k l known = absurd (cc known)

  -- ---- first values

  abbrev InValues : List ℕ → Type 0
  InValues x = contains (names_at_file_scope texts) x ≡ true

  abbrev Starts : CExpr → Type 0
  Starts e = StartsAt Reached e

  start_passes : (e : CExpr) → Starts e → StartsAt (λ name. test name ≡ true) e
  start_passes (plain.Var at name) h = passes_too name h
  start_passes (plain.Unary at unary.Address (plain.Var pos name)) h = passes_too name h
  start_passes e h = tt

  module _ (s : Scope) (file : IsFile s) where
    name_starts : (at : ℕ) (name : List ℕ) (a : Operand) → judged s (plain.Var at name) ≡ Ok a → InValues name → Reached name
    name_starts at name a e c = reached_of name (of_entity (entity_of s name) refl e) (λ d. value_kept texts name d c)
      where
        of_entity : (o : Option Entity) → entity_of s name ≡ o → named s at name o ≡ Ok a → IsTextName name
        of_entity None k e = absurd (cc e)
        of_entity (Some x) k e = names_of_text s file name x k

    abbrev rules : Site → Option CType → CExpr → Operand → Judged (Unit {0})
    rules site t e a = keeping (object_rules t e a ++ site_rules site.file e a) tt

    mutual
      starts : (site : Site) (t : Option CType) (v : CValue) (u : Unit {0}) → fitting s site t v ≡ Ok u → ((x : List ℕ) → contains (value_names (with_values (static_tree s) v)) x ≡ true → InValues x) → ValueHas Starts v
      starts site t (plain.One (plain.Var at name)) u e f =
          let l = after_is (judged s (plain.Var at name)) (rules site t (plain.Var at name)) u e in
          name_starts at name l.0 l.1 (f name (or_first (bytes_eq name name) false (same_name name)))
      starts site t (plain.One (plain.Unary at unary.Address (plain.Var pos name))) u e f =
          let l = after_is (judged s (plain.Unary at unary.Address (plain.Var pos name))) (rules site t (plain.Unary at unary.Address (plain.Var pos name))) u e in
          let m = after_is (judged s (plain.Var pos name)) (λ y. address_operand at y) l.0 l.1 in
          name_starts pos name m.0 m.1 (f name (or_first (bytes_eq name name) false (same_name name)))
      starts site t (plain.One e) u k f = tt
      starts site t (plain.Many vs) u e f =
          let l = after_is (all_fitting s site (slots_of s.tags t) vs) (λ _. keeping (braces_rules site.pos (slots_of s.tags t) vs) tt) u e in
          all_start site (slots_of s.tags t) vs l.0 l.1 f

      all_start : (site : Site) (slots : Slots) (vs : CValues) (u : Unit {0}) → all_fitting s site slots vs ≡ Ok u → ((x : List ℕ) → contains (values_names (with_all_values (static_tree s) vs)) x ≡ true → InValues x) → ValuesHave Starts vs
      all_start site slots plain.NoValue u e f = tt
      all_start site slots (plain.MoreValue v vs) u e f =
          let l = both_is (fitting s site (first_slot slots) v) (all_fitting s site (next_slots slots) vs) (λ _ _. Ok tt) u e in (
            starts site (first_slot slots) v l.0 l.1.1 (λ x c. f x (joined_first (value_names (with_values (static_tree s) v)) (values_names (with_all_values (static_tree s) vs)) x c)),
            all_start site (next_slots slots) vs l.1.0 l.1.2 (λ x c. f x (joined_last (value_names (with_values (static_tree s) v)) (values_names (with_all_values (static_tree s) vs)) x c)),
          )

    first_starts : (site : Site) (t : CType) (o : Option CValue) (u : Unit {0}) → first_fitting s site t o ≡ Ok u → ((x : List ℕ) → contains (first_names (option_map (with_values (static_tree s)) o)) x ≡ true → InValues x) → FirstHas Starts o
    first_starts site t None u e f = tt
    first_starts site t (Some v) u e f = starts site (Some t) v u e f

  -- ---- externals

  -- each function that hasn't begun has its body further on
  abbrev Later : Scope → List CItem → Type 0
  Later s rest = (g : List ℕ) → is_begun (meaning s.block g) ≡ false → body_names texts g ≡ body_names rest g

  abbrev Values : List CItem → Type 0
  Values rest = (x : List ℕ) → contains (names_at_file_scope rest) x ≡ true → InValues x

  later_on : (s r : Scope) → Behind s r → (items rest : List CItem) → Later s items → ((g : List ℕ) → is_begun (meaning r.block g) ≡ false → body_names items g ≡ body_names rest g) → Later r rest
  later_on s r b items rest l f g e = l g (before (is_begun (meaning s.block g)) refl) ∙ f g e
    where
      before : (z : Bool) → is_begun (meaning s.block g) ≡ z → z ≡ false
      before true k = absurd (cc (sym e ∙ b.begun g k))
      before false k = refl

  -- a name that passes is reached, or has another character
  abbrev is_loose : List ℕ → Bool
  is_loose name = list_any is_strange name || is_reached kept own name

  loosely : (name : List ℕ) → test name ≡ true → is_loose name ≡ true
  loosely name e = go (list_any is_strange name) (is_reached kept own name) e
    where
      go : (s r : Bool) → (r || (s && (contains kept name && (is_some (meaning operators name) || is_format name)))) ≡ true → (s || r) ≡ true
      go true r e = refl
      go false true e = refl
      go false false e = absurd (cc e)

  strictly : (names : List (List ℕ)) → Each IsTextName names → Each (λ name. is_loose name ≡ true) names → Each Reached names
  strictly [] n h = tt
  strictly (name ∷ names) n h = (ap (λ b. b || is_reached kept own name) (sym n.0) ∙ h.0, strictly names n.1 h.1)

  each_then : (P Q : List ℕ → Type 0) → ((x : List ℕ) → P x → Q x) → (xs : List (List ℕ)) → Each P xs → Each Q xs
  each_then P Q f [] h = tt
  each_then P Q f (x ∷ xs) h = (f x h.0, each_then P Q f xs h.1)

  -- a function whose body is typed
  module _ (s : Scope) (name : List ℕ) (at : ℕ) (result : CTy) (params : List CDecl) (body : CStmt) (r : Scope) (rest : List CItem) (n : IsTextName name) (k : FunctionIs s name at result params (Some body) r) (short : Short body) (l : Later s (fewer_in_item s (plain.Function name at result params (Some body)) ∷ rest)) (c : contains kept name ≡ true) where
    abbrev inside : Scope
    inside = body_scope s name k.head

    there : body_names texts name ≡ stmt_names (fewer_in_body inside body)
    there =
        l name (k.fresh refl)
        ∙ (ap (λ b. if b then stmt_names (fewer_in_function s name (signature s at result params) body) else body_names rest name) (same_name name) ∙ ap (λ q. stmt_names (fewer_in_function s name q body)) k.told)

    names_pass : Each (λ x. test x ≡ true) (stmt_names (fewer_in_body inside body))
    names_pass =
        each_of is_known_name (λ x. test x ≡ true) (stmt_names (fewer_in_body inside body)) (names_are_known inside (around_body k.head) body k.inner (k.texts refl) short k.typed)
        (λ x known d. name_passes name x n c (ap (λ z. contains z x) there ∙ d) known)

    body_fits : BodyPasses test s name (signature s at result params) body
    body_fits = subst (λ q. BodyPasses test s name q body) (sym k.told) (evaluated_names_are_all test inside body short names_pass)

    always_known : (x : List ℕ) (y : Entity) → entity_of inside x ≡ Some y → is_known y ≡ true → is_loose x ≡ true
    always_known x y e i = loosely x (text_passes x (k.texts refl x y e) (λ d. absurd (cc (sym (plainly x d) ∙ k.known refl x y e i))))

    body_reaches : Each Reached (stmt_names body)
    body_reaches =
        strictly (stmt_names body) (typed_bodies_name_text inside (around_body k.head) body k.inner (k.texts refl) short k.typed)
        (names_come_from_before is_loose inside body (record { built_in = λ x t e. always_known x (BuiltIn t) e refl; format = λ x e. always_known x Printf e refl })
        (each_then (λ x. test x ≡ true) (λ x. is_loose x ≡ true) loosely (stmt_names (fewer_in_body inside body)) names_pass))

  pub walk : (items : List CItem) (s r : Scope) → IsFile s → Later s (fewer_in_items s items) → Values (fewer_in_items s items) → ItemsHaveNames items → BodiesHave Short (definitions s items) → Light (items_sum weight s items) → all_items s items ≡ Ok r → ItemsFit test kept s items × FirstsStartAt Reached items × BodiesReach kept Reached (definitions s items)
  walk [] s r file later values names bodies light e = (tt, tt, tt)
  walk (plain.StructItem tag ∷ items) s r file later values names bodies light e =
      let item : CItem = plain.StructItem tag in
      let there : Scope = scope_or s (item_judged s item) in
      let l = both_is (item_judged s item) (all_items there items) (λ _ inner. Ok inner) r e in
      let b : Behind s there = subst (λ z. Behind s z) (sym (ap (λ q. scope_or s q) l.1.1)) (struct_behind s tag l.0 file l.1.1) in
      let more = walk items there l.1.0 b.file (later_on s there b (fewer_in_items s (item ∷ items)) (fewer_in_items there items) later (λ g k. refl)) values names bodies (last _ light) l.1.2 in
      ((tt, more.0), more.1, more.2)
  walk (plain.Object d ∷ items) s r file later values names bodies light e =
      let item : CItem = plain.Object d in
      let there : Scope = scope_or s (item_judged s item) in
      let l = both_is (item_judged s item) (all_items there items) (λ _ inner. Ok inner) r e in
      let same : l.0 ≡ there = sym (ap (λ q. scope_or s q) l.1.1) in
      let o : ObjectIs s d there = subst (λ z. ObjectIs s d z) same (object_behind s d l.0 file names.0 l.1.1) in
      let short = object_short s d (last _ (front _ light)) in
      let first : FirstHas Starts d.first = first_starts there o.behind.file (record { file = true; pos = d.pos }) o.ty d.first o.unit o.fits (λ x c. values x (joined_first (first_names (option_map (with_values (static_tree there)) d.first)) (names_at_file_scope (fewer_in_items there items)) x c)) in
      let more = walk items there l.1.0 o.behind.file (later_on s there o.behind (fewer_in_items s (item ∷ items)) (fewer_in_items there items) later (λ g k. refl)) (λ x c. values x (joined_last (first_names (option_map (with_values (static_tree there)) d.first)) (names_at_file_scope (fewer_in_items there items)) x c)) names.1 bodies (last _ light) l.1.2 in
      ((((names.0, short.1), short.0, first_then Starts (StartsAt (λ name. test name ≡ true)) start_passes d.first first), more.0), (first, more.1), more.2)
  walk (plain.Function name at result params None ∷ items) s r file later values names bodies light e =
      let item : CItem = plain.Function name at result params None in
      let there : Scope = scope_or s (item_judged s item) in
      let l = both_is (item_judged s item) (all_items there items) (λ _ inner. Ok inner) r e in
      let k : FunctionIs s name at result params None there = subst (λ z. FunctionIs s name at result params None z) (sym (ap (λ q. scope_or s q) l.1.1)) (function_behind s name at result params None l.0 file names.0 (named_too params names.1) l.1.1) in
      let more = walk items there l.1.0 k.behind.file (later_on s there k.behind (fewer_in_items s (item ∷ items)) (fewer_in_items there items) later (λ g k. refl)) values names.2 bodies (last _ light) l.1.2 in
      (((names.0, named_too params names.1, tt), more.0), more.1, more.2)
  walk (plain.Function name at result params (Some body) ∷ items) s r file later values names bodies light e =
      let item : CItem = plain.Function name at result params (Some body) in
      let there : Scope = scope_or s (item_judged s item) in
      let l = both_is (item_judged s item) (all_items there items) (λ _ inner. Ok inner) r e in
      let k : FunctionIs s name at result params (Some body) there = subst (λ z. FunctionIs s name at result params (Some body) z) (sym (ap (λ q. scope_or s q) l.1.1)) (function_behind s name at result params (Some body) l.0 file names.0 (named_too params names.1) l.1.1) in
      let h : BodiesHave Short (definition_in s name params body (Ok k.head) ++ definitions there items) = subst (λ q. BodiesHave Short (definition_in s name params body q ++ definitions there items)) k.told bodies in
      let more = walk items there l.1.0 k.behind.file (later_on s there k.behind (fewer_in_items s (item ∷ items)) (fewer_in_items there items) later (λ g z. passed g there (fewer_in_items there items) (fewer_in_function s name (signature s at result params) body) z (k.begins refl))) values names.2 h.1 (last _ light) l.1.2 in
      let reaches : BodiesReach kept Reached (definition_in s name params body (Ok k.head) ++ definitions there items) = (λ c. body_reaches s name at result params body there (fewer_in_items there items) names.0 k h.0 later c, more.2) in (
        ((names.0, named_too params names.1, (h.0, λ c. body_fits s name at result params body there (fewer_in_items there items) names.0 k h.0 later c)), more.0),
        more.1,
        subst (λ q. BodiesReach kept Reached (definition_in s name params body q ++ definitions there items)) (sym k.told) reaches,
      )
    where
      -- another name has its body behind it
      passed : (g : List ℕ) (there : Scope) (rest : List CItem) (body : CStmt) → is_begun (meaning there.block g) ≡ false → is_begun (meaning there.block name) ≡ true → (if bytes_eq g name then stmt_names body else body_names rest g) ≡ body_names rest g
      passed g there rest body z y = go (bytes_eq g name) refl
        where
          go : (b : Bool) → bytes_eq g name ≡ b → (if b then stmt_names body else body_names rest g) ≡ body_names rest g
          go true k = absurd (cc (sym z ∙ (ap (λ q. is_begun (meaning there.block q)) ((bytes_eq-Decides g name).0 k) ∙ y)))
          go false k = refl
