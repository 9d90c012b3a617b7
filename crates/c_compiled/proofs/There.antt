-- The helper functions of a program.
use Rattle.std.proofs.Common.{◌≡◌, ℕ, List, [], ◌∷◌, ◌++◌, map, Some, Bool, true, false, refl, ap, ◌∙◌, subst, cond, arith}
use Rattle.std.specs.Prelude.{◌==◌, codes}
use Rattle.std.specs.List.{find}
use Rattle.std.specs.Str.{bytes_eq}
use Rattle.c_syntax.specs.Plain.{CDecl, CItem, CUnit}
use Rattle.c_syntax.specs.Words.{meaning}
use Rattle.c_types.specs.Types as type
use Rattle.c_types.specs.Scope.{Names, Routine, contains, built_ins, file_scope}
use Rattle.c_types.specs.Units.{start_scope}
use Rattle.c_eval.specs.Text.{Definition, Text, definitions, text_of}
use Rattle.c_eval.specs.Helpers.{Helpers}
use Rattle.c_helpers.specs.Functions.{Helper, functions, print_format, format_name, unit_name, refill_name, piece_name, digit, print_unsigned, print_hex, print_signed, print_string}
use Rattle.c_helpers.specs.Names.{stmt_names}
use Rattle.c_helpers.specs.Fewer.{fewer_in_items, function_of, formats_in, helpers_for}
use Rattle.c_helpers.specs.Simple.{with_helpers, kept, desugared, helpers_of}
use Rattle.c_fewer_types.specs.Stands.{head_type, function_type}
use Rattle.c_products.specs.MovesFound.{Parameter, Has, KnowsOf, definition}
use Rattle.c_formats.specs.DigitsLaws.{HasDigit, HasUnsigned, HasHex, HasSigned}
use Rattle.c_formats.specs.StringsLaws.{HasString}
use Rattle.c_formats.specs.Laws.{format_parameters, has_letter, HasFormat}
use Rattle.c_fewer_reached.proofs.Reached.{reached_are_defined}
use Rattle.c_fewer_reached.proofs.Kept.{defined_are_kept}
use Rattle.c_fewer_items.specs.FewerHeadsLaws.{all_functions, firsts, helper_items, file, names_behind, CallsAreDefined}
use Rattle.c_fewer_items.proofs.Walk.{firsts_are_typed, firsts_are_known, others_stay, firsts_are_found}
use Rattle.c_fewer_items.specs.FewerFrontsLaws.{AreFormats, FormatsCallDefined}
use Rattle.c_fewer_items.proofs.FewerFrontsProofs.{map_joined, helper_items_joined, all_fresh, IsBehind, fronts_are_typed}
use Rattle.c_fewer_items.proofs.Distinct.{formats_are_distinct}
use Rattle.c_fewer_items.proofs.Joined.{is_named, together, definitions_are_joined, fronts_have_own_names}
use Rattle.c_fewer_calls.specs.There.{by_name, heads_of, HasHelper}
use Rattle.c_programs.specs.Programs.{IsProgram}
use Rattle.c_fewer_names.proofs.Names.{formats_of_programs_are_formats}
use Rattle.c_compiled.specs.ProgramHelpersLaws.{reached_names, defined_names, HelpersOfProgramsAreThere}
use Rattle.c_compiled.proofs.ProgramHelpersNames.{named_so, charge_is_small, is_unknown, is_listed, format_is_own, letter_called, or_right}
use Rattle.c_compiled.proofs.ProgramHelpersFormats.{FormatIsFound, format_is_found}

found_first : (p : Definition → Bool) (xs ys : List Definition) (y : Definition) → find p xs ≡ Some y → find p (xs ++ ys) ≡ Some y
found_first p [] ys y e = absurd (cc e)
found_first p (x ∷ xs) ys y e = go (p x) e (λ k. found_first p xs ys y k)
  where
    go : (b : Bool) → cond b (Some x) (find p xs) ≡ Some y → (find p xs ≡ Some y → find p (xs ++ ys) ≡ Some y) → cond b (Some x) (find p (xs ++ ys)) ≡ Some y
    go true e more = e
    go false e more = more e

-- ---- what a name means

head_types : (ds : List CDecl) → map (λ (d : CDecl). head_type d.ty) ds ≡ map (λ (x : Parameter). x.1) (heads_of ds)
head_types [] = refl
head_types (d ∷ ds) = ap (λ ts. head_type d.ty ∷ ts) (head_types ds)

knows_of : (outside : Names) (name : List ℕ) (c : Helper) (begun : Bool) → name ≡ c.name → meaning outside name ≡ Some (Routine (function_type c) begun) → KnowsOf outside (head_type c.result) (heads_of c.params) c
knows_of outside name c begun own e = (
  begun,
  subst (λ z. meaning outside z ≡ Some (Routine (type.Function (head_type c.result) (type.types (map (λ (x : Parameter). x.1) (heads_of c.params)))) begun)) own
      (subst (λ ts. meaning outside name ≡ Some (Routine (type.Function (head_type c.result) (type.types ts)) begun)) (head_types c.params) e),
)

module _ (u : CUnit) (ration : ℕ) (h : IsProgram u) (closed : CallsAreDefined (reached_names u) (defined_names u)) (more : FormatsCallDefined (reached_names u) (defined_names u)) where
  abbrev texts : List CItem
  texts = fewer_in_items (start_scope u) u.items

  abbrev formats : List (List ℕ)
  formats = formats_in texts

  abbrev all : List CItem
  all = with_helpers texts

  abbrev names : List (List ℕ)
  names = reached_names u

  abbrev defined : List (List ℕ)
  defined = defined_names u

  abbrev t : Text
  t = text_of (desugared u)

  abbrev hs : Helpers
  hs = helpers_of ration u

  abbrev is_kept : List ℕ → Bool
  is_kept name = contains names name

  are_formats : AreFormats formats
  are_formats = formats_of_programs_are_formats u h

  -- ---- the functions of the program

  abbrev block : Names
  block = names_behind names firsts built_ins

  abbrev rest : List Definition
  rest = definitions (file defined (names_behind names (map print_format formats) block)) (map (kept names) texts)

  abbrev fronts : List Definition
  fronts = definitions (file_scope defined) (helper_items names firsts)

  abbrev format_functions : List Definition
  format_functions = definitions (file defined block) (helper_items names (map print_format formats))

  functions_are : t.functions ≡ fronts ++ (format_functions ++ rest)
  functions_are =
      ap (λ items. definitions (file_scope defined) items) (map_joined (kept names) (map function_of (helpers_for texts)) texts)
      ∙ (definitions_are_joined (helper_items names (firsts ++ map print_format formats)) (map (kept names) texts) (file_scope defined) (file defined (names_behind names (map print_format formats) block)) (fronts_are_typed names defined formats closed more are_formats (formats_are_distinct texts))
      ∙ (ap (λ items. definitions (file_scope defined) items ++ rest) (helper_items_joined names firsts (map print_format formats))
      ∙ (ap (λ ds. ds ++ rest) (definitions_are_joined (helper_items names firsts) (helper_items names (map print_format formats)) (file_scope defined) (file defined block) (firsts_are_typed names defined closed))
      ∙ together fronts format_functions rest)))

  -- what a kept helper function calls is kept
  calls_kept : (name other : List ℕ) (g c : Helper) → meaning all_functions name ≡ Some g → is_kept name ≡ true → meaning all_functions other ≡ Some c → contains (stmt_names g.body) other ≡ true → is_kept other ≡ true
  calls_kept name other g c e k f m = (defined_are_kept names all other (closed name other g c e k f m)).0

  format_kept : (format other : List ℕ) (c : Helper) → is_kept (format_name format) ≡ true → meaning all_functions other ≡ Some c → contains (stmt_names (print_format format).body) other ≡ true → is_kept other ≡ true
  format_kept format other c k f m = (defined_are_kept names all other (more format other c k f m)).0

  -- ---- all but the functions of formats

  listed_so : (name : List ℕ) (g : Helper) → meaning all_functions name ≡ Some g → name ≡ g.name
  listed_so name g e = named_so firsts name g e

  has : (name : List ℕ) (g : Helper) → meaning (by_name functions) name ≡ Some g → is_kept name ≡ true → HasHelper hs t is_kept g
  has name g e k =
      let listed : meaning all_functions name ≡ Some g = is_listed name g e in
      let own_name : name ≡ g.name = listed_so name g listed in
      let f = firsts_are_found names defined name g closed listed k in
      let own : Definition = definition (head_type g.result) (heads_of g.params) g [] f.outside defined in
      record {
        own = record {
          tags = [];
          names = f.outside;
          defined = defined;
          found = ap (λ ds. find (is_named g.name) ds) functions_are ∙ found_first (is_named g.name) fronts (format_functions ++ rest) own (subst (λ z. find (is_named z) fronts ≡ Some own) own_name f.is);
          unknown = is_unknown ration name g e;
          charge = charge_is_small u name g e;
        };
        calls = λ other c l m. (calls_kept name other g c listed k l m, knows_of f.outside other c (contains names other) (listed_so other c l) (f.knows.calls other c l m));
        put = f.knows.put;
      }

  -- ---- those of formats

  digits_there : is_kept (codes "one digit") ≡ true → HasDigit hs t
  digits_there k = let x = has (codes "one digit") digit refl k in (x.own, x.put)

  record Unsigned : Type 0 where
    digit : HasDigit hs t
    own : HasUnsigned hs t

  unsigned_there : is_kept (codes "%u") ≡ true → Unsigned
  unsigned_there k =
      let x = has (codes "%u") print_unsigned refl k in
      let c = x.calls (codes "one digit") digit refl refl in
      record { digit = digits_there c.0; own = (x.own, c.1) }

  hex_there : is_kept (codes "%x") ≡ true → HasDigit hs t × HasHex hs t
  hex_there k =
      let x = has (codes "%x") print_hex refl k in
      let c = x.calls (codes "one digit") digit refl refl in
      (digits_there c.0, (x.own, c.1))

  signed_there : is_kept (codes "%d") ≡ true → HasDigit hs t × HasUnsigned hs t × HasSigned hs t
  signed_there k =
      let x = has (codes "%d") print_signed refl k in
      let c = x.calls (codes "%u") print_unsigned refl refl in
      let w = unsigned_there c.0 in
      (w.digit, w.own, (x.own, x.put, c.1))

  string_there : is_kept (codes "%s") ≡ true → HasString hs t
  string_there k =
      let x = has (codes "%s") print_string refl k in
      (x.own, (x.calls unit_name _ refl refl).1, (x.calls piece_name _ refl refl).1)

  module _ (format : List ℕ) (k : is_kept (format_name format) ≡ true) where
    in_text : contains formats format ≡ true
    in_text = format_is_own formats u.items (start_scope u) format h.names (reached_are_defined all (format_name format) k)

    is_behind : IsBehind names defined more block
    is_behind = record { known = λ name c e. firsts_are_known names name c e; put = others_stay names (codes "putchar") refl }

    found : FormatIsFound names defined format (find (is_named (format_name format)) format_functions)
    found = format_is_found names defined more formats block format is_behind (all_fresh formats block (λ f. others_stay names (format_name f) refl ∙ refl)) are_formats (formats_are_distinct texts) in_text k

    own : Has hs t type.Void (format_parameters found.letters) (print_format format)
    own = record {
      tags = [];
      names = found.outside;
      defined = defined;
      found =
          ap (λ ds. find (is_named (format_name format)) ds) functions_are
          ∙ (fronts_have_own_names names firsts (file_scope defined) (format_name format) (format_functions ++ rest) refl
          ∙ found_first (is_named (format_name format)) format_functions rest (definition type.Void (format_parameters found.letters) (print_format format) [] found.outside defined) found.is);
      unknown = refl;
      charge = omega arith;
    }

    knows : (name : List ℕ) (c : Helper) → meaning all_functions name ≡ Some c → name ≡ c.name → KnowsOf found.outside (head_type c.result) (heads_of c.params) c
    knows name c e same = knows_of found.outside name c (contains names name) same (found.knows name c e)

    letter_kept : (l : ℕ) (c : Helper) → (l == 99) ≡ false → has_letter found.letters l ≡ true → meaning all_functions (codes "%" ++ l ∷ []) ≡ Some c → is_kept (codes "%" ++ l ∷ []) ≡ true
    letter_kept l c n m e = format_kept format (codes "%" ++ l ∷ []) c k e (or_right (bytes_eq (codes "%" ++ l ∷ []) unit_name) _ (letter_called false format 0 found.letters l n found.conversions m))

    there : HasFormat hs t format found.letters
    unfolding own found
    there = record {
      own = own;
      unit = knows unit_name _ refl refl;
      refill = knows refill_name _ refl refl;
      piece = knows piece_name _ refl refl;
      signed = λ m. let x = signed_there (letter_kept 100 print_signed refl m refl) in (x.0, x.1, x.2, knows (codes "%d") print_signed refl refl);
      unsigned = λ m. let x = unsigned_there (letter_kept 117 print_unsigned refl m refl) in (x.digit, x.own, knows (codes "%u") print_unsigned refl refl);
      hex = λ m. let x = hex_there (letter_kept 120 print_hex refl m refl) in (x.0, x.1, knows (codes "%x") print_hex refl refl);
      string = λ m. (string_there (letter_kept 115 print_string refl m refl), knows (codes "%s") print_string refl refl);
    }

pub helpers_of_programs_are_there : HelpersOfProgramsAreThere
helpers_of_programs_are_there u ration h closed more enough = record {
  ration = enough;
  operator = λ name. refl;
  known = λ name. refl;
  helpers = λ name g e k. has u ration h closed more name g e k;
  formats = λ format k. let f = found u ration h closed more format k in (f.letters, f.conversions, f.few, there u ration h closed more format k);
}
