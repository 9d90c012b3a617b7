-- What an object can have keeps its words behind the declaration of another struct, and those of a struct are some.
use Rattle.std.proofs.Common.{◌≡◌, ℕ, ◌≤◌, List, [], ◌∷◌, Option, Some, None, Bool, true, false, refl, sym, ap, ap₂, ◌∙◌, subst, cond, arith}
use Rattle.std.specs.Prelude.{◌&&◌, nat_lt}
use Rattle.std.specs.Str.{bytes_eq}
use Rattle.std.proofs.Math.Nat.{one-le-mul}
use Rattle.std.proofs.lemmas.Bool.{and_parts}
use Rattle.std.proofs.lemmas.Bool.Decides.{nat_tests}
use Rattle.std.proofs.lemmas.Slice.Eq.{bytes_eq-Decides}
use Rattle.c_syntax.specs.Words.{meaning}
use Rattle.c_types.specs.Types as type
use Rattle.c_types.specs.Types.{CType, Layout, Unfinished, Members, Tags, layout_words, is_finished, words_of, is_object_type}
use Rattle.c_compiled.specs.Few.{TagsHaveObjects}

some : (n : ℕ) → nat_lt 0 n ≡ true → 1 ≤ n
some n e = grind (arith, nat_tests, e)

-- where finished structs have words, so has each type of objects
module _ (tags : Tags) (base : (tag : List ℕ) → is_finished (meaning tags tag) ≡ true → 1 ≤ layout_words (meaning tags tag)) where
  pub words_are_some : (t : CType) → is_object_type tags t ≡ true → 1 ≤ words_of tags t
  words_are_some (type.Struct tag) o = base tag o
  words_are_some (type.Array t n) o =
      let k = and_parts (is_object_type tags t) (nat_lt 0 n) o in
      one-le-mul (some n k.1) (words_are_some t k.0)
  words_are_some type.Void o = absurd (cc o)
  words_are_some type.Null o = absurd (cc o)
  words_are_some (type.Function t ts) o = absurd (cc o)
  words_are_some type.Int o = omega arith
  words_are_some type.Unsigned o = omega arith
  words_are_some type.Char o = omega arith
  words_are_some type.UChar o = omega arith
  words_are_some (type.Pointer t) o = omega arith

-- behind a struct that wasn't declared a type of objects is one
module _ (tags : Tags) (n : List ℕ) (layout : Layout) (fresh : meaning tags n ≡ None) where
  object_behind : (t : CType) → is_object_type tags t ≡ true → is_object_type ((n, layout) ∷ tags) t ≡ true
  object_behind (type.Struct tag) o = go (bytes_eq tag n) refl
    where
      go : (b : Bool) → bytes_eq tag n ≡ b → is_finished (cond b (Some layout) (meaning tags tag)) ≡ true
      go true e = absurd (cc (sym o ∙ ap is_finished (ap (λ z. meaning tags z) ((bytes_eq-Decides tag n).0 e) ∙ fresh)))
      go false e = o
  object_behind (type.Array t k) o = let p = and_parts (is_object_type tags t) (nat_lt 0 k) o in ap₂ (λ a b. a && b) (object_behind t p.0) p.1
  object_behind type.Void o = absurd (cc o)
  object_behind type.Null o = absurd (cc o)
  object_behind (type.Function t ts) o = absurd (cc o)
  object_behind type.Int o = refl
  object_behind type.Unsigned o = refl
  object_behind type.Char o = refl
  object_behind type.UChar o = refl
  object_behind (type.Pointer t) o = refl

abbrev pub AllObjects : Tags → List (List ℕ × CType) → Type 0
AllObjects tags [] = Unit {0}
AllObjects tags (m ∷ ms) = (is_object_type tags m.1 ≡ true) × AllObjects tags ms

-- behind its own members too
module _ (tags : Tags) (n : List ℕ) (ms : List (List ℕ × CType)) (words : ℕ) where
  abbrev begun : Tags
  begun = (n, Unfinished) ∷ tags

  abbrev closed : Tags
  closed = (n, Members ms words) ∷ tags

  object_closed : (t : CType) → is_object_type begun t ≡ true → is_object_type closed t ≡ true
  object_closed (type.Struct tag) o = go (bytes_eq tag n) (meaning tags tag) o
    where
      go : (b : Bool) (l : Option Layout) → is_finished (cond b (Some Unfinished) l) ≡ true → is_finished (cond b (Some (Members ms words)) l) ≡ true
      go true l o = absurd (cc o)
      go false l o = o
  object_closed (type.Array t k) o = let p = and_parts (is_object_type begun t) (nat_lt 0 k) o in ap₂ (λ a b. a && b) (object_closed t p.0) p.1
  object_closed type.Void o = absurd (cc o)
  object_closed type.Null o = absurd (cc o)
  object_closed (type.Function t ts) o = absurd (cc o)
  object_closed type.Int o = refl
  object_closed type.Unsigned o = refl
  object_closed type.Char o = refl
  object_closed type.UChar o = refl
  object_closed (type.Pointer t) o = refl

  found_object : (others : List (List ℕ × CType)) (name : List ℕ) (t : CType) → AllObjects begun others → meaning others name ≡ Some t → is_object_type begun t ≡ true
  found_object [] name t c e = absurd (cc e)
  found_object (m ∷ others) name t c e = go (bytes_eq name m.0) (λ k. found_object others name t c.1 k) e
    where
      go : (b : Bool) → (meaning others name ≡ Some t → is_object_type begun t ≡ true) → cond b (Some m.1) (meaning others name) ≡ Some t → is_object_type begun t ≡ true
      go true more e = let is : m.1 ≡ t = cc e in subst (λ z. is_object_type begun z ≡ true) is c.0
      go false more e = more e

  -- while it is being declared
  pub begun_words : TagsHaveObjects tags → (t : CType) → is_object_type begun t ≡ true → 1 ≤ words_of begun t
  begun_words h t o = words_are_some begun base t o
    where
      base : (tag : List ℕ) → is_finished (meaning begun tag) ≡ true → 1 ≤ layout_words (meaning begun tag)
      base tag e = go (bytes_eq tag n) (meaning tags tag) (λ k. h.words (type.Struct tag) k) e
        where
          go : (b : Bool) (l : Option Layout) → (is_finished l ≡ true → 1 ≤ layout_words l) → is_finished (cond b (Some Unfinished) l) ≡ true → 1 ≤ layout_words (cond b (Some Unfinished) l)
          go true l more e = absurd (cc e)
          go false l more e = more e

  abbrev listed : Option Layout → List (List ℕ × CType)
  listed (Some (Members others count)) = others
  listed o = []

  pub tags_behind : meaning tags n ≡ None → TagsHaveObjects tags → AllObjects begun ms → 1 ≤ words → TagsHaveObjects closed
  tags_behind fresh h all few = record {
    words = λ t o. words_are_some closed base t o;
    members = λ tag name others count t e f. member tag name others count t (bytes_eq tag n) e f;
  }
    where
      base : (tag : List ℕ) → is_finished (meaning closed tag) ≡ true → 1 ≤ layout_words (meaning closed tag)
      base tag e = go (bytes_eq tag n) (meaning tags tag) (λ k. h.words (type.Struct tag) k) e
        where
          go : (b : Bool) (l : Option Layout) → (is_finished l ≡ true → 1 ≤ layout_words l) → is_finished (cond b (Some (Members ms words)) l) ≡ true → 1 ≤ layout_words (cond b (Some (Members ms words)) l)
          go true l more e = few
          go false l more e = more e

      member : (tag name : List ℕ) (others : List (List ℕ × CType)) (count : ℕ) (t : CType) (b : Bool) → cond b (Some (Members ms words)) (meaning tags tag) ≡ Some (Members others count) → meaning others name ≡ Some t → is_object_type closed t ≡ true
      member tag name others count t true e f = object_closed t (found_object ms name t all (ap (λ z. meaning z name) (ap listed e) ∙ f))
      member tag name others count t false e f = object_behind tags n (Members ms words) fresh t (h.members tag name others count t e f)
