-- The externals of a program: the names in their bodies and first values, by the kinds that occur in these.
use Rattle.std.proofs.Common.{◌≡◌, ℕ, ◌<◌, List, [], ◌∷◌, ◌++◌, Option, Some, None, Bool, true, false, refl, sym, ap, subst}
use Rattle.std.specs.Prelude.{Ok, if◌then◌else◌}
use Rattle.std.specs.Option.{option_map}
use Rattle.std.specs.Str.{bytes_eq}
use Rattle.c_syntax.specs.Plain as plain
use Rattle.c_syntax.specs.Plain.{CExpr, CTy, CValue, CValues, CDecl, CStmt, CItem}
use Rattle.c_syntax.specs.declared.tree.UnOp.TheVariants as unary
use Rattle.c_types.specs.Types.{CType}
use Rattle.c_types.specs.Refusals.{keeping}
use Rattle.c_types.specs.Scope.{Scope}
use Rattle.c_types.specs.Operands.{Operand}
use Rattle.c_types.specs.Expressions.{judged}
use Rattle.c_types.specs.Declarations.{Site, Slots, first_slot, next_slots, slots_of, object_rules, site_rules, braces_rules, fitting, all_fitting, first_fitting, scope_or}
use Rattle.c_types.specs.Units.{signature, body_scope, around_body, item_judged, all_items}
use Rattle.c_types.specs.Census.{items_sum, maybe_body_sum}
use Rattle.c_types.specs.Room.{Kind}
use Rattle.c_eval.specs.Text.{definition_in, definitions}
use Rattle.c_fewer_types.specs.Written.{StringsAreShort}
use Rattle.c_helpers.specs.Names.{names_in, value_names, values_names, first_names, stmt_names}
use Rattle.c_helpers.specs.Fewer.{static_tree, with_values, with_all_values, fewer_in_function, fewer_in_items, body_names, names_at_file_scope}
use Rattle.c_fewer_types.specs.Standing.{IsTextName, ValueHas, ValuesHave, FirstHas, StmtHas, IsDeclaration}
use Rattle.c_fewer_types.proofs.FewerTypedRules.{after_is, both_is}
use Rattle.c_fewer_items.specs.Kept.{EachIsNamed, ItemsFit}
use Rattle.c_worlds.specs.Named.{Each}
use Rattle.c_fewer_names.proofs.Expressions.{each_both}
use Rattle.c_fewer_names.specs.FewerKnownLaws.{NamesAreOfText}
use Rattle.c_fewer_names.proofs.TextNamesExpressions.{expr_text}
use Rattle.c_programs.specs.Programs.{DeclsHaveNames, ItemsHaveNames, BodiesHave}
use Rattle.c_fewer_names.proofs.Scopes.{IsFile, names_of_text, Behind, struct_behind, ObjectIs, object_behind, FunctionIs, function_behind}
use Rattle.c_compiled.specs.HelperCostsLaws.{uses, is_called}
use Rattle.c_compiled.proofs.HelperCostsExpressions.{front, last}
use Rattle.c_compiled.proofs.HelperCostsStatements.{bodies_call_by_kinds}

abbrev T : List ℕ → Type 0
T name = IsTextName name

abbrev Short : CStmt → Type 0
Short t = StmtHas StringsAreShort IsDeclaration t

-- ---- first values

module _ (s : Scope) (a : NamesAreOfText s) (site : Site) where
  -- what is no constant expression stays as it was
  static_text : (e : CExpr) → StringsAreShort e → (x : Operand) → judged s e ≡ Ok x → Each T (names_in (static_tree s e))
  static_text (plain.Str at text) h x k = tt
  static_text (plain.Null at) h x k = tt
  static_text (plain.Var at name) h x k = expr_text s a (plain.Var at name) h x k
  static_text (plain.Unary at unary.Address e) h x k = expr_text s a (plain.Unary at unary.Address e) h x k
  static_text e h x k = tt

  mutual
    value_text : (t : Option CType) (v : CValue) → ValueHas StringsAreShort v → (u : Unit {0}) → fitting s site t v ≡ Ok u → Each T (value_names (with_values (static_tree s) v))
    value_text t (plain.One e) h u k = let l = after_is (judged s e) (λ x. keeping (object_rules t e x ++ site_rules site.file e x) tt) u k in static_text e h l.0 l.1
    value_text t (plain.Many vs) h u k = let l = after_is (all_fitting s site (slots_of s.tags t) vs) (λ _. keeping (braces_rules site.pos (slots_of s.tags t) vs) tt) u k in values_text (slots_of s.tags t) vs h l.0 l.1

    values_text : (slots : Slots) (vs : CValues) → ValuesHave StringsAreShort vs → (u : Unit {0}) → all_fitting s site slots vs ≡ Ok u → Each T (values_names (with_all_values (static_tree s) vs))
    values_text slots plain.NoValue h u k = tt
    values_text slots (plain.MoreValue v vs) h u k =
        let l = both_is (fitting s site (first_slot slots) v) (all_fitting s site (next_slots slots) vs) (λ _ _. Ok tt) u k in
        each_both T (value_names (with_values (static_tree s) v)) (values_names (with_all_values (static_tree s) vs)) (value_text (first_slot slots) v h.0 l.0 l.1.1) (values_text (next_slots slots) vs h.1 l.1.0 l.1.2)

  first_text : (t : CType) (o : Option CValue) → FirstHas StringsAreShort o → (u : Unit {0}) → first_fitting s site t o ≡ Ok u → Each T (first_names (option_map (with_values (static_tree s)) o))
  first_text t None h u k = tt
  first_text t (Some v) h u k = value_text (Some t) v h u k

named_too : (ds : List CDecl) → DeclsHaveNames ds → EachIsNamed ds
named_too [] h = tt
named_too (d ∷ ds) h = (h.0, named_too ds h.1)

-- ---- externals

-- the names in first values are of the text, and those in bodies of it or of helper functions of kinds that occur
pub record ItemsCall (occurs : Kind → Bool) (items : List CItem) : Type 0 where
  pub values : Each T (names_at_file_scope items)
  pub bodies : (f : List ℕ) → Each (λ name. is_called occurs name ≡ true) (body_names items f)

module _ (occurs : Kind → Bool) (test : List ℕ → Bool) (kept : List (List ℕ)) where
  abbrev C : List ℕ → Type 0
  C name = is_called occurs name ≡ true

  -- where a sum counts something, the kind occurs
  abbrev Tell : (Kind → ℕ) → Type 0
  Tell count = (k : Kind) → 0 < count k → occurs k ≡ true

  -- the body of a function, and those of others
  either : (f name : List ℕ) (body : CStmt) (items : List CItem) → Each C (stmt_names body) → Each C (body_names items f) → Each C (if bytes_eq f name then stmt_names body else body_names items f)
  either f name body items h k = go (bytes_eq f name)
    where
      go : (b : Bool) → Each C (if b then stmt_names body else body_names items f)
      go true = h
      go false = k

  pub walk : (items : List CItem) (s r : Scope) → IsFile s → ItemsHaveNames items → BodiesHave Short (definitions s items) → ItemsFit test kept s items → all_items s items ≡ Ok r → Tell (λ k. items_sum (uses k) s items) → ItemsCall occurs (fewer_in_items s items)
  walk [] s r file names bodies fit e g = record { values = tt; bodies = λ f. tt }
  walk (plain.StructItem tag ∷ items) s r file names bodies fit e g =
      let item : CItem = plain.StructItem tag in
      let there : Scope = scope_or s (item_judged s item) in
      let l = both_is (item_judged s item) (all_items there items) (λ _ inner. Ok inner) r e in
      let b : Behind s there = subst (λ z. Behind s z) (sym (ap (λ q. scope_or s q) l.1.1)) (struct_behind s tag l.0 file l.1.1) in
      let more = walk items there l.1.0 b.file names bodies fit.1 l.1.2 (λ i m. g i (last _ _ m)) in
      record { values = more.values; bodies = more.bodies }
  walk (plain.Object d ∷ items) s r file names bodies fit e g =
      let item : CItem = plain.Object d in
      let there : Scope = scope_or s (item_judged s item) in
      let l = both_is (item_judged s item) (all_items there items) (λ _ inner. Ok inner) r e in
      let o : ObjectIs s d there = subst (λ z. ObjectIs s d z) (sym (ap (λ q. scope_or s q) l.1.1)) (object_behind s d l.0 file names.0 l.1.1) in
      let first : Each T (first_names (option_map (with_values (static_tree there)) d.first)) = first_text there (names_of_text there o.behind.file) (record { file = true; pos = d.pos }) o.ty d.first fit.0.1 o.unit o.fits in
      let more = walk items there l.1.0 o.behind.file names.1 bodies fit.1 l.1.2 (λ i m. g i (last _ _ m)) in
      record { values = each_both T (first_names (option_map (with_values (static_tree there)) d.first)) (names_at_file_scope (fewer_in_items there items)) first more.values; bodies = more.bodies }
  walk (plain.Function name at result params None ∷ items) s r file names bodies fit e g =
      let item : CItem = plain.Function name at result params None in
      let there : Scope = scope_or s (item_judged s item) in
      let l = both_is (item_judged s item) (all_items there items) (λ _ inner. Ok inner) r e in
      let k : FunctionIs s name at result params None there = subst (λ z. FunctionIs s name at result params None z) (sym (ap (λ q. scope_or s q) l.1.1)) (function_behind s name at result params None l.0 file names.0 (named_too params names.1) l.1.1) in
      let more = walk items there l.1.0 k.behind.file names.2 bodies fit.1 l.1.2 (λ i m. g i (last _ _ m)) in
      record { values = more.values; bodies = more.bodies }
  walk (plain.Function name at result params (Some body) ∷ items) s r file names bodies fit e g =
      let item : CItem = plain.Function name at result params (Some body) in
      let there : Scope = scope_or s (item_judged s item) in
      let l = both_is (item_judged s item) (all_items there items) (λ _ inner. Ok inner) r e in
      let k : FunctionIs s name at result params (Some body) there = subst (λ z. FunctionIs s name at result params (Some body) z) (sym (ap (λ q. scope_or s q) l.1.1)) (function_behind s name at result params (Some body) l.0 file names.0 (named_too params names.1) l.1.1) in
      let h : BodiesHave Short (definition_in s name params body (Ok k.head) ++ definitions there items) = subst (λ q. BodiesHave Short (definition_in s name params body q ++ definitions there items)) k.told bodies in
      let more = walk items there l.1.0 k.behind.file names.2 h.1 fit.1 l.1.2 (λ i m. g i (last _ _ m)) in
      let own : Each C (stmt_names (fewer_in_function s name (Ok k.head) body)) =
      bodies_call_by_kinds occurs (body_scope s name k.head) (around_body k.head) body k.inner (k.texts refl) h.0 k.typed
      (λ i m. g i (front _ _ (last _ _ (subst (λ q. 0 < maybe_body_sum (uses i) s name (Some body) q) (sym k.told) m)))) in
      let here : Each C (stmt_names (fewer_in_function s name (signature s at result params) body)) = subst (λ q. Each C (stmt_names (fewer_in_function s name q body))) (sym k.told) own in
      record { values = more.values; bodies = λ f. either f name (fewer_in_function s name (signature s at result params) body) (fewer_in_items there items) here (more.bodies f) }
