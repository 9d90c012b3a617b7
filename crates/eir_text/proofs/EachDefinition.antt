-- Where no name is defined twice, each definition gives its name its value.
use Rattle.std.proofs.Common.{◌≡◌, ℕ, Bool, true, false, if◌then◌else◌, List, [], ◌∷◌, ◌++◌, map, Option, Some, None, refl, sym, ap, ◌∙◌, append_assoc}
use Rattle.std.specs.List.{AllByRecursion}
use Rattle.std.specs.Str.{bytes_eq}
use Rattle.std.proofs.lemmas.Bool.{or_parts}
use Rattle.std.proofs.lemmas.List.{map-append}
use Rattle.std.proofs.lemmas.List.Folds.{list_any-append}
use Rattle.std.proofs.lemmas.Slice.Eq.{bytes_eq-Decides}
use Rattle.eir_text.specs.Names.{defined, defined_after, is_among, repeats}
use Rattle.eir_text.proofs.NameLemmas.{defined_after-append}
use Rattle.eir_text.proofs.RefusalLemmas.{repeats-append}

abbrev Definition : Type 0
Definition = List ℕ × ℕ

abbrev name_of : Definition → List ℕ
name_of d = d.0

same : (x : List ℕ) → bytes_eq x x ≡ true
same x = (bytes_eq-Decides x x).1 refl

differ : (x y : List ℕ) → bytes_eq x y ≡ false → bytes_eq y x ≡ false
differ x y e = by (bytes_eq y x) refl where
  by : (b : Bool) → bytes_eq y x ≡ b → b ≡ false
  by false is = refl
  by true is = let turned : bytes_eq x y ≡ true = (bytes_eq-Decides x y).1 (sym ((bytes_eq-Decides y x).0 is)) in cc

-- definitions of other names change nothing
kept : (found : Option ℕ) (ds : List Definition) (name : List ℕ) → AllByRecursion (λ d. bytes_eq name d.0 ≡ false) ds → defined_after found ds name ≡ found
kept found [] name others = refl
kept found (d ∷ ds) name others = ap (λ b. defined_after (if b then Some d.1 else found) ds name) others.0 ∙ kept found ds name others.1

-- names that don't repeat one that stands before them are others
apart_from : (x : List ℕ) (front back : List (List ℕ)) (ds : List Definition) → repeats (front ++ x ∷ back) (map name_of ds) ≡ false → AllByRecursion (λ d. bytes_eq x d.0 ≡ false) ds
apart_from x front back [] e = tt
apart_from x front back (d ∷ ds) e =
    let parts = or_parts (is_among (front ++ x ∷ back) d.0) (repeats ((front ++ x ∷ back) ++ d.0 ∷ []) (map name_of ds)) e in
    let among = or_parts (is_among front d.0) (is_among (x ∷ back) d.0) (sym (list_any-append (λ other. bytes_eq d.0 other) front (x ∷ back)) ∙ parts.0) in
    let here = or_parts (bytes_eq d.0 x) (is_among back d.0) among.1 in
    (differ d.0 x here.0, apart_from x front (back ++ d.0 ∷ []) ds (ap (λ k. repeats k (map name_of ds)) (sym (append_assoc front (x ∷ back) (d.0 ∷ []))) ∙ parts.1))

pub each_definition_counts : (before after : List Definition) (d : Definition) → repeats [] (map name_of (before ++ d ∷ after)) ≡ false → defined (before ++ d ∷ after) d.0 ≡ Some d.1
each_definition_counts before after d e =
    let names : List (List ℕ) = map name_of before in
    let cut : repeats [] (names ++ d.0 ∷ map name_of after) ≡ false = ap (repeats []) (sym (map-append name_of before (d ∷ after))) ∙ e in
    let parts = or_parts (repeats [] names) (repeats names (d.0 ∷ map name_of after)) (sym (repeats-append [] names (d.0 ∷ map name_of after)) ∙ cut) in
    let behind = or_parts (is_among names d.0) (repeats (names ++ d.0 ∷ []) (map name_of after)) parts.1 in
    defined_after-append None before (d ∷ after) d.0
    ∙ (ap (λ b. defined_after (if b then Some d.1 else defined_after None before d.0) after d.0) (same d.0)
    ∙ kept (Some d.1) after d.0 (apart_from d.0 names [] after behind.1))
