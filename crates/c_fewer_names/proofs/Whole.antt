-- The laws of the crate.
use Rattle.std.proofs.Common.{◌≡◌, ℕ, inl, inr, ◌⊎◌, List, [], ◌∷◌, Option, Some, None, Bool, true, false, drop, refl, sym, ap, ◌∙◌, subst, arith, nat_le}
use Rattle.std.specs.Prelude.{◌&&◌, ◌||◌, not, is_some, is_ok, codes, Ok, Err}
use Rattle.std.specs.List.{list_any}
use Rattle.std.specs.Str.{bytes_eq}
use Rattle.std.proofs.lemmas.Bool.{and_parts, leb-true}
use Rattle.std.proofs.lemmas.Slice.Eq.{bytes_eq-Decides}
use Rattle.c_syntax.specs.Plain as plain
use Rattle.c_syntax.specs.Plain.{CItem, CUnit}
use Rattle.c_syntax.specs.Words.{meaning}
use Rattle.c_types.specs.declared.fault.TypeFault.TheVariants as fault
use Rattle.c_types.specs.Refusals.{Judged, keeping}
use Rattle.c_types.specs.Scope.{Scope, contains, built_ins}
use Rattle.c_types.specs.Units.{defined_in, start_scope, is_main, all_items, unit_judged}
use Rattle.c_types.specs.Census.{unit_sum}
use Rattle.c_types.specs.Limits.{weight_of, most_words, has_narrow_types, file_words}
use Rattle.c_eval.specs.Text.{text_of}
use Rattle.c_limited.proofs.Sums.{weight}
use Rattle.c_helpers.specs.Functions.{Helper, format_name}
use Rattle.c_helpers.specs.Laws.{is_strange}
use Rattle.c_helpers.specs.Meanings.{is_format}
use Rattle.c_fewer_types.proofs.Judged.{keeping_is, first_kept}
use Rattle.c_fewer_types.specs.Standing.{IsTextName}
use Rattle.c_fewer_types.proofs.FewerTypedRules.{after_is}
use Rattle.c_fewer_items.specs.Kept.{ItemsFit}
use Rattle.c_fewer_names.specs.FewerKnownLaws.{operators}
use Rattle.c_fewer_items.specs.FewerStartsLaws.{IsOperator}
use Rattle.c_fewer_names.specs.NamedObjectsLaws.{FirstsStartAt}
use Rattle.c_programs.specs.Programs.{ItemsHaveNames, IsProgram}
use Rattle.c_fewer_names.specs.Names.{fewer_items, kept_in, formats_of, defined_of, is_reached, passes, BodiesReach}
use Rattle.c_fewer_names.specs.ProgramNamesLaws.{MainIsReached, ItemsAreFit, FirstsStart, BodiesAreReached, HelpersCallDefined, NamesPass}
use Rattle.c_fewer_names.proofs.Short.{Light}
use Rattle.c_fewer_names.proofs.Scopes.{starts_file}
use Rattle.c_fewer_names.proofs.Front.{operator_first, format_is, defines_same}
use Rattle.c_fewer_names.proofs.Closed.{main_kept, kept_defined, calls_defined, format_of_text, formats_call_defined}
use Rattle.c_fewer_names.proofs.Walk.{own_not_built, reached_of, walk}

-- ---- what is typed

pub record TypedAs (u : CUnit) : Type 0 where
  pub end : Scope
  pub items : all_items (start_scope u) u.items ≡ Ok end
  pub main : list_any is_main u.items ≡ true

ok_is : {A : Type 0} (r : Judged A) → is_ok r ≡ true → (a : A) × (r ≡ Ok a)
ok_is (Ok a) e = (a, refl)
ok_is (Err f) e = absurd (cc e)

pub typed_as : (u : CUnit) → IsProgram u → TypedAs u
typed_as u p =
    let o = ok_is (unit_judged u) p.typed in
    let k = after_is (all_items (start_scope u) u.items) (λ s. keeping ((list_any is_main u.items, fault.NoMain u.end) ∷ []) s) o.0 o.1 in
    let m = keeping_is {A = Scope} ((list_any is_main u.items, fault.NoMain u.end) ∷ []) k.0 o.0 k.2 in
    record { end = k.0; items = k.1; main = (first_kept (list_any is_main u.items) (fault.NoMain u.end) [] m.0).0 }

or_last : (a b : Bool) → b ≡ true → (a || b) ≡ true
or_last true b e = refl
or_last false b e = e

bytes_same : (x y : List ℕ) → bytes_eq x y ≡ true → bytes_eq y x ≡ true
bytes_same x y e = (bytes_eq-Decides y x).1 (sym ((bytes_eq-Decides x y).0 e))

-- a text that has a `main` defines it
main_defined : (items : List CItem) → list_any is_main items ≡ true → contains (defined_in items) (codes "main") ≡ true
main_defined [] e = absurd (cc e)
main_defined (plain.StructItem tag ∷ items) e = main_defined items e
main_defined (plain.Object d ∷ items) e = main_defined items e
main_defined (plain.Function name at result params None ∷ items) e = main_defined items (without result params e)
  where
    without : (result : plain.CTy) (params : List plain.CDecl) → (is_main (plain.Function name at result params None) || list_any is_main items) ≡ true → list_any is_main items ≡ true
    without plain.Int [] e = e
    without plain.Int (p ∷ ps) e = e
    without t ps e = e
main_defined (plain.Function name at result params (Some body) ∷ items) e = with_body result params e (λ k. main_defined items k)
  where
    or_name : (b : Bool) → bytes_eq name (codes "main") ≡ b → (b || list_any is_main items) ≡ true → (list_any is_main items ≡ true → contains (defined_in items) (codes "main") ≡ true) → (bytes_eq (codes "main") name || contains (defined_in items) (codes "main")) ≡ true
    or_name true k e more = ap (λ z. z || contains (defined_in items) (codes "main")) (bytes_same name (codes "main") k)
    or_name false k e more = or_last (bytes_eq (codes "main") name) (contains (defined_in items) (codes "main")) (more e)

    with_body : (result : plain.CTy) (params : List plain.CDecl) → (is_main (plain.Function name at result params (Some body)) || list_any is_main items) ≡ true → (list_any is_main items ≡ true → contains (defined_in items) (codes "main") ≡ true) → (bytes_eq (codes "main") name || contains (defined_in items) (codes "main")) ≡ true
    with_body plain.Int [] e more = or_name (bytes_eq name (codes "main")) refl e more
    with_body plain.Int (p ∷ ps) e more = or_last (bytes_eq (codes "main") name) (contains (defined_in items) (codes "main")) (more e)
    with_body t ps e more = or_last (bytes_eq (codes "main") name) (contains (defined_in items) (codes "main")) (more e)

-- the functions that a text defines are named as it names
own_of_text : (items : List CItem) → ItemsHaveNames items → (f : List ℕ) → contains (defined_in items) f ≡ true → IsTextName f
own_of_text [] h f e = absurd (cc e)
own_of_text (plain.StructItem tag ∷ items) h f e = own_of_text items h f e
own_of_text (plain.Object d ∷ items) h f e = own_of_text items h.1 f e
own_of_text (plain.Function name at result params None ∷ items) h f e = own_of_text items h.2 f e
own_of_text (plain.Function name at result params (Some body) ∷ items) h f e = go (bytes_eq f name) refl e (λ k. own_of_text items h.2 f k)
  where
    go : (b : Bool) → bytes_eq f name ≡ b → (b || contains (defined_in items) f) ≡ true → (contains (defined_in items) f ≡ true → IsTextName f) → IsTextName f
    go true k e more = ap (λ z. list_any is_strange z) ((bytes_eq-Decides f name).0 k) ∙ h.0
    go false k e more = more e

module _ (u : CUnit) (p : IsProgram u) where
  abbrev texts : List CItem
  texts = fewer_items u

  same_own : defined_in texts ≡ defined_in u.items
  same_own = defines_same (start_scope u) u.items

  textual : (f : List ℕ) → contains (defined_in texts) f ≡ true → IsTextName f
  textual f e = own_of_text u.items p.names f (ap (λ z. contains z f) (sym same_own) ∙ e)

  plainly : (name : List ℕ) → contains (defined_in texts) name ≡ true → meaning built_ins name ≡ None
  plainly name e = let t = typed_as u p in own_not_built u.items (start_scope u) t.end (starts_file (defined_in u.items)) p.names t.items name (ap (λ z. contains z name) (sym same_own) ∙ e)

  main_is : is_reached (kept_in u) (defined_in u.items) (codes "main") ≡ true
  main_is = subst (λ z. is_reached (kept_in u) z (codes "main") ≡ true) same_own (reached_of texts plainly (codes "main") refl (λ d. main_kept texts d))

  light : Light (unit_sum weight u)
  light =
      let a = and_parts (nat_le (weight_of u) 65536 && nat_le (file_words (start_scope u) u.items) most_words) (has_narrow_types u) p.small in
      let b = and_parts (nat_le (weight_of u) 65536) (nat_le (file_words (start_scope u) u.items) most_words) a.0 in
      record { le = leb-true (weight_of u) 65536 b.0 }

  record Walked (own : List (List ℕ)) : Type 0 where
    fit : ItemsFit (passes (kept_in u) own) (kept_in u) (start_scope u) u.items
    start : FirstsStartAt (λ name. is_reached (kept_in u) own name ≡ true) u.items
    reach : BodiesReach (kept_in u) (λ name. is_reached (kept_in u) own name ≡ true) (text_of u).functions

  walked : Walked (defined_in u.items)
  walked =
      let t = typed_as u p in
      let k = walk texts plainly u.items (start_scope u) t.end (starts_file (defined_in u.items)) (λ g e. refl) (λ x e. e) p.names p.bodies light t.items in
      subst (λ z. Walked z) same_own (record { fit = k.0; start = k.1; reach = k.2 })

  -- a name of helper functions that passes is kept, and is one of theirs
  pub strange_parts : (name : List ℕ) → list_any is_strange name ≡ true → passes (kept_in u) (defined_in u.items) name ≡ true → (contains (kept_in u) name ≡ true) × ((is_some (meaning operators name) || is_format name) ≡ true)
  strange_parts name s e = go (list_any is_strange name) s e
    where
      go : (b : Bool) → b ≡ true → ((not b && (contains (kept_in u) name || not (contains (defined_in u.items) name))) || (b && (contains (kept_in u) name && (is_some (meaning operators name) || is_format name)))) ≡ true → (contains (kept_in u) name ≡ true) × ((is_some (meaning operators name) || is_format name) ≡ true)
      go false k e = absurd (cc k)
      go true k e = and_parts (contains (kept_in u) name) (is_some (meaning operators name) || is_format name) e

  operator_is : (name : List ℕ) → contains (kept_in u) name ≡ true → (is_some (meaning operators name) || is_format name) ≡ true → IsOperator (formats_of u) name
  operator_is name r e = go (meaning operators name) refl e
    where
      go : (o : Option Helper) → meaning operators name ≡ o → (is_some o || is_format name) ≡ true → IsOperator (formats_of u) name
      go (Some g) k e = let q = operator_first name g k in inl (g, q.0, q.1)
      go None k e = let same = format_is name e in inr (drop 7 name, same, format_of_text texts textual (drop 7 name) (ap (λ z. contains (kept_in u) z) (sym same) ∙ r))

  own_passed : (name : List ℕ) → passes (kept_in u) (defined_in u.items) name ≡ true → contains (defined_in u.items) name ≡ true → contains (kept_in u) name ≡ true
  own_passed name e d = go (contains (defined_in u.items) name) d (list_any is_strange name) refl e
    where
      go : (b : Bool) → b ≡ true → (s : Bool) → list_any is_strange name ≡ s → ((not s && (contains (kept_in u) name || not b)) || (s && (contains (kept_in u) name && (is_some (meaning operators name) || is_format name)))) ≡ true → contains (kept_in u) name ≡ true
      go false l s k e = absurd (cc l)
      go true l true k e = (and_parts (contains (kept_in u) name) (is_some (meaning operators name) || is_format name) e).0
      go true l false k e = alone (contains (kept_in u) name) e
        where
          alone : (b : Bool) → ((b || false) || false) ≡ true → b ≡ true
          alone true e = refl
          alone false e = e

pub main_is_reached : MainIsReached
main_is_reached u p = main_is u p

pub items_are_fit : ItemsAreFit
items_are_fit u p = (walked u p).fit

pub firsts_start : FirstsStart
firsts_start u p = (walked u p).start

pub bodies_are_reached : BodiesAreReached
bodies_are_reached u p = (walked u p).reach

pub helpers_call_defined : HelpersCallDefined
helpers_call_defined u p = (calls_defined (fewer_items u), formats_call_defined (fewer_items u) (textual u p))

pub names_pass : NamesPass
names_pass u p = record {
  operators = λ name s e. let k = strange_parts u p name s e in operator_is u p name k.0 k.1;
  helpers = λ name s e. kept_defined (fewer_items u) name (strange_parts u p name s e).0;
  own = λ name e d. kept_defined (fewer_items u) name (own_passed u p name e d);
}
