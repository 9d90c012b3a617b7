-- The first file scopes.
use Rattle.std.proofs.Common.{◌≡◌, ℕ, inl, inr, List, [], ◌∷◌, Option, Some, None, Bool, true, false, refl, sym, ap, ◌∙◌, subst, cond}
use Rattle.std.specs.Prelude.{map, not}
use Rattle.std.specs.List.{list_any}
use Rattle.std.specs.Str.{bytes_eq}
use Rattle.std.proofs.lemmas.Slice.Eq.{bytes_eq-Decides}
use Rattle.c_syntax.specs.Plain.{CUnit}
use Rattle.c_syntax.specs.Words.{meaning}
use Rattle.c_types.specs.Scope.{Names, Scope, Entity, Object, Routine, BuiltIn, Printf, contains, built_ins}
use Rattle.c_types.specs.Units.{start_scope}
use Rattle.c_fewer_types.specs.Written.{EntityCanBeWritten}
use Rattle.c_helpers.specs.Functions.{Helper, print_format, format_name}
use Rattle.c_helpers.specs.Laws.{is_strange}
use Rattle.c_fewer_types.specs.Stands.{function_type, helper_type}
use Rattle.c_fewer_types.specs.Standing.{IsTextName}
use Rattle.c_fewer_items.specs.Files.{EntitiesStand, IsHelper, FilesStand}
use Rattle.c_fewer_items.proofs.Files.{in_file}
use Rattle.c_fewer_items.specs.FewerHeadsLaws.{all_functions, firsts, file, names_behind}
use Rattle.c_fewer_items.proofs.Walk.{firsts_are_known, others_stay}
use Rattle.c_fewer_items.proofs.FewerFrontsProofs.{formats_are_known, others_are_kept}
use Rattle.c_fewer_items.specs.FewerStartsLaws.{IsOperator, Passes, StartsStand}

-- ---- names in a list

module _ {A : Type 0} (test : List ℕ → Bool) where
  abbrev EachName : List (List ℕ × A) → Type 0
  EachName [] = Unit {0}
  EachName (x ∷ xs) = (test x.0 ≡ true) × EachName xs

  -- what a list says only of names that pass a test
  found_passes : (xs : List (List ℕ × A)) → EachName xs → (name : List ℕ) (a : A) → meaning xs name ≡ Some a → test name ≡ true
  found_passes [] h name a e = absurd (cc e)
  found_passes (x ∷ xs) h name a e = go (bytes_eq name x.0) refl e (λ k. found_passes xs h.1 name a k)
    where
      go : (b : Bool) → bytes_eq name x.0 ≡ b → cond b (Some x.1) (meaning xs name) ≡ Some a → (meaning xs name ≡ Some a → test name ≡ true) → test name ≡ true
      go true k e more = ap test ((bytes_eq-Decides name x.0).0 k) ∙ h.0
      go false k e more = more e

abbrev is_plain : List ℕ → Bool
is_plain name = not (list_any is_strange name)

helpers_strange : EachName {A = Helper} (λ name. list_any is_strange name) all_functions
helpers_strange = (refl, (refl, (refl, (refl, (refl, (refl, (refl, (refl, (refl, (refl, (refl, (refl, (refl, (refl, (refl, (refl, (refl, (refl, (refl, (refl, (refl, (refl, (refl, (refl, (refl, (refl, (refl, (refl, (refl, (refl, (refl, (refl, (refl, (refl, (refl, (refl, (refl, (refl, (refl, (refl, tt))))))))))))))))))))))))))))))))))))))))

built_ins_plain : EachName {A = Entity} is_plain built_ins
built_ins_plain = (refl, (refl, (refl, (refl, (refl, (refl, tt))))))

-- a name of a text is no helper function's, nor a format's
text_alone : (name : List ℕ) → IsTextName name → meaning all_functions name ≡ None
text_alone name n = go (meaning all_functions name) refl
  where
    go : (o : Option Helper) → meaning all_functions name ≡ o → o ≡ None
    go None e = refl
    go (Some g) e = absurd (cc (sym n ∙ found_passes (λ name. list_any is_strange name) all_functions helpers_strange name g e))

no_format : (name : List ℕ) → IsTextName name → (format : List ℕ) → name ≡ format_name format → ⊥
no_format name n format e = absurd (cc (sym n ∙ (ap (λ z. list_any is_strange z) e ∙ has_space format)))
  where
    has_space : (format : List ℕ) → list_any is_strange (format_name format) ≡ true
    has_space format = refl

-- the functions that are always known have names of a text
built_in_plain : (name : List ℕ) → list_any is_strange name ≡ true → meaning built_ins name ≡ None
built_in_plain name s = go (meaning built_ins name) refl
  where
    go : (o : Option Entity) → meaning built_ins name ≡ o → o ≡ None
    go None e = refl
    go (Some x) e = absurd (cc (sym (found_passes is_plain built_ins built_ins_plain name x e) ∙ ap not s))

-- ---- entities

same_stands : (o : Option Entity) → EntitiesStand o o
same_stands None = refl
same_stands (Some (Object t)) = refl
same_stands (Some (Routine t begun)) = (begun, refl, λ e. e)
same_stands (Some (BuiltIn t)) = refl
same_stands (Some Printf) = refl

abbrev AllCan : Names → Type 0
AllCan [] = Unit {0}
AllCan (x ∷ xs) = EntityCanBeWritten [] (Some x.1) × AllCan xs

found_can : (xs : Names) (name : List ℕ) → AllCan xs → EntityCanBeWritten [] (meaning xs name)
found_can [] name h = tt
found_can (x ∷ xs) name h = go (bytes_eq name x.0) (found_can xs name h.1)
  where
    go : (b : Bool) → EntityCanBeWritten [] (meaning xs name) → EntityCanBeWritten [] (cond b (Some x.1) (meaning xs name))
    go true more = h.0
    go false more = more

built_ins_can : AllCan built_ins
built_ins_can = ((refl, tt, tt), ((refl, tt, tt), ((refl, tt, (refl, tt, tt)), ((refl, tt, (refl, tt, tt)), (tt, ((refl, tt, (refl, tt, tt)), tt))))))

module _ (test : List ℕ → Bool) (names formats defined : List (List ℕ)) (u : CUnit) (p : Passes test formats defined u) where
  abbrev block : Names
  block = names_behind names (map print_format formats) (names_behind names firsts built_ins)

  abbrev there : Scope
  there = file defined block

  helper_is : (name : List ℕ) → contains defined name ≡ true → IsOperator formats name → IsHelper there name
  helper_is name d (inl k) = record {
    ty = function_type k.0;
    type_is = k.2;
    begun = contains names name;
    found = others_are_kept names formats name (λ format e. absurd (cc (sym k.1 ∙ (ap (λ z. meaning all_functions z) e ∙ none format)))) ∙ firsts_are_known names name k.0 k.1;
    defined = d;
  }
    where
      none : (format : List ℕ) → meaning all_functions (format_name format) ≡ None
      none format = refl
  helper_is name d (inr k) = record {
    ty = function_type (print_format k.0);
    type_is = ap helper_type k.1 ∙ of_format k.0;
    begun = contains names (format_name k.0);
    found = ap (λ z. meaning block z) k.1 ∙ formats_are_known names formats k.0 k.2;
    defined = d;
  }
    where
      of_format : (format : List ℕ) → helper_type (format_name format) ≡ Some (function_type (print_format format))
      of_format format = refl

  starts : FilesStand test (start_scope u) there
  starts = record {
    tags = refl;
    outer = refl;
    outer_too = refl;
    names = λ name n. subst (λ o. EntitiesStand (meaning built_ins name) o) (sym (others_are_kept names formats name (no_format name n) ∙ others_stay names name (text_alone name n))) (same_stands (meaning built_ins name));
    none = built_in_plain;
    helpers = λ name s e. helper_is name (p.helpers name s e) (p.operators name s e);
    defined = p.own;
    written = record {
      names = λ name. subst (λ o. EntityCanBeWritten [] o) (sym (in_file (start_scope u) refl name)) (found_can built_ins name built_ins_can);
      members = λ tag members words name t e f. absurd (cc e);
    };
    built_in = λ name t e. sym (in_file (start_scope u) refl name) ∙ e;
  }

pub starts_stand : StartsStand
starts_stand test names formats defined u p = starts test names formats defined u p
