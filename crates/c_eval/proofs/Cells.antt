-- Objects of file scope have as many cells as their types have words.
use Rattle.std.proofs.Common.{◌≡◌, ℕ, zero, suc, ◌+◌, ◌≤◌, ◌⊎◌, inl, inr, List, [], ◌∷◌, ◌++◌, length, Option, Some, None, Bool, true, false, refl, sym, ap, ◌∙◌, subst, arith, length-append}
use Rattle.std.specs.Prelude.{◌-◌, ◌*◌, ◌&&◌, ◌||◌, not, nat_lt, nat_le, map, replicate, Ok, Err, cond, if◌then◌else◌}
use Rattle.std.specs.List.{flat_map}
use Rattle.std.specs.Str.{bytes_eq}
use Rattle.std.proofs.lemmas.List.{length-map, length-replicate}
use Rattle.std.proofs.lemmas.Bool.{and_parts}
use Rattle.std.proofs.lemmas.Bool.Decides.{nat_tests}
use Rattle.std.proofs.lemmas.Slice.Eq.{bytes_eq-Decides}
use Rattle.c_syntax.specs.Words.{meaning}
use Rattle.c_types.specs.Types.{CType, Void, Int, Unsigned, Char, UChar, Null, Struct, Pointer, Array, Function, Layout, Unfinished, Members, Tags, layout_words, is_finished, words_of, is_object_type}
use Rattle.c_types.specs.Declarations.{Slots, Elements, Fields, Nothing, types_of_members, words_of_members, with_tag}
use Rattle.c_eval.specs.Memory.{Kind, kind_of}
use Rattle.c_eval.specs.Environment.{kinds_with, members_in, struct_kinds, cell_kinds, slot_kinds}

-- each of these types is one of objects
abbrev pub AllObjects : Tags → List CType → Type 0
AllObjects tags [] = Unit {0}
AllObjects tags (t ∷ ts) = (is_object_type tags t ≡ true) × AllObjects tags ts

-- the members of a layout have types of objects, and take its words
abbrev pub FitsBehind : Tags → Layout → Type 0
FitsBehind tags Unfinished = Unit {0}
FitsBehind tags (Members ms words) = AllObjects tags (types_of_members ms) × (words ≡ words_of_members tags ms)

-- no tag is declared twice, and each fits what was declared before it
abbrev pub LaidOut : Tags → Type 0
LaidOut [] = Unit {0}
LaidOut (entry ∷ tags) = (meaning tags entry.0 ≡ None) × FitsBehind tags entry.1 × LaidOut tags

-- ---- lists

repeated : {A : Type 0} (n : ℕ) (xs : List A) → length (flat_map (λ x. x) (replicate n xs)) ≡ n * length xs
repeated zero xs = omega arith
repeated (suc n) xs =
    let e : length (xs ++ flat_map (λ x. x) (replicate n xs)) ≡ length xs + length (flat_map (λ x. x) (replicate n xs)) = length-append xs (flat_map (λ x. x) (replicate n xs)) in
    let h = repeated n xs in
    e ∙ (ap (λ m. length xs + m) h ∙ omega arith)

-- ---- kinds

kinds_length : (tags : Tags) → ((tag : List ℕ) → length (struct_kinds tags tag) ≡ layout_words (meaning tags tag)) → (t : CType) → is_object_type tags t ≡ true → length (kinds_with (struct_kinds tags) t) ≡ words_of tags t
kinds_length tags structs Void h = absurd (cc h)
kinds_length tags structs Null h = absurd (cc h)
kinds_length tags structs (Function t ts) h = absurd (cc h)
kinds_length tags structs (Struct tag) h = structs tag
kinds_length tags structs (Array t n) h =
    repeated n (kinds_with (struct_kinds tags) t) ∙ ap (λ m. n * m) (kinds_length tags structs t (and_parts (is_object_type tags t) (nat_lt 0 n) h).0)
kinds_length tags structs Int h = refl
kinds_length tags structs Unsigned h = refl
kinds_length tags structs Char h = refl
kinds_length tags structs UChar h = refl
kinds_length tags structs (Pointer t) h = refl

members_length : (tags : Tags) → ((tag : List ℕ) → length (struct_kinds tags tag) ≡ layout_words (meaning tags tag)) → (ms : List (List ℕ × CType)) → AllObjects tags (types_of_members ms) →
    length (flat_map (λ t. kinds_with (struct_kinds tags) t) (types_of_members ms)) ≡ words_of_members tags ms
members_length tags structs [] all = refl
members_length tags structs (m ∷ ms) all =
    length-append (kinds_with (struct_kinds tags) m.1) (flat_map (λ t. kinds_with (struct_kinds tags) t) (types_of_members ms))
    ∙ (ap (λ n. n + length (flat_map (λ t. kinds_with (struct_kinds tags) t) (types_of_members ms))) (kinds_length tags structs m.1 all.0) ∙ ap (λ n. words_of tags m.1 + n) (members_length tags structs ms all.1))

layout_length : (tags : Tags) → ((tag : List ℕ) → length (struct_kinds tags tag) ≡ layout_words (meaning tags tag)) → (layout : Layout) → FitsBehind tags layout →
    length (flat_map (λ t. kinds_with (struct_kinds tags) t) (members_in layout)) ≡ layout_words (Some layout)
layout_length tags structs Unfinished fits = refl
layout_length tags structs (Members ms words) fits = members_length tags structs ms fits.0 ∙ sym fits.1

by_name : (b : Bool) (ks ls : List Kind) (layout : Layout) (o : Option Layout) → length ks ≡ layout_words (Some layout) → length ls ≡ layout_words o → length (if b then ks else ls) ≡ layout_words (cond b (Some layout) o)
by_name true ks ls layout o e f = e
by_name false ks ls layout o e f = f

struct_length : (tags : Tags) → LaidOut tags → (tag : List ℕ) → length (struct_kinds tags tag) ≡ layout_words (meaning tags tag)
struct_length [] laid tag = refl
struct_length (entry ∷ tags) laid tag =
    by_name (bytes_eq tag entry.0) _ _ entry.1 (meaning tags tag) (layout_length tags (struct_length tags laid.2) entry.1 laid.1) (struct_length tags laid.2 tag)

-- an object of a type has as many cells as the type has words
pub cells_are_words : (tags : Tags) → LaidOut tags → (t : CType) → is_object_type tags t ≡ true → length (cell_kinds tags t) ≡ words_of tags t
cells_are_words tags laid t h = kinds_length tags (struct_length tags laid) t h

-- ---- tags that come later

found_before : (name tag : List ℕ) (b : Bool) (tags : Tags) (layout : Layout) → bytes_eq tag name ≡ b → meaning tags name ≡ None → is_finished (meaning tags tag) ≡ true → cond b (Some layout) (meaning tags tag) ≡ meaning tags tag
found_before name tag false tags layout e fresh h = refl
found_before name tag true tags layout e fresh h =
    let same : tag ≡ name = (bytes_eq-Decides tag name).0 e in
    let none : meaning tags tag ≡ None = ap (λ x. meaning tags x) same ∙ fresh in
    let P : Option Layout → Type 0 = λ o. is_finished o ≡ true in
    absurd (cc (subst P none h))

same_meaning : (name tag : List ℕ) (tags : Tags) (layout : Layout) → meaning tags name ≡ None → is_finished (meaning tags tag) ≡ true → meaning ((name, layout) ∷ tags) tag ≡ meaning tags tag
same_meaning name tag tags layout fresh h = found_before name tag (bytes_eq tag name) tags layout refl fresh h

-- an object type is one, with as many words, behind another tag too
still_object : (name : List ℕ) (layout : Layout) (tags : Tags) → meaning tags name ≡ None → (t : CType) → is_object_type tags t ≡ true → is_object_type ((name, layout) ∷ tags) t ≡ true
still_object name layout tags fresh Void h = absurd (cc h)
still_object name layout tags fresh Null h = absurd (cc h)
still_object name layout tags fresh (Function t ts) h = absurd (cc h)
still_object name layout tags fresh (Struct tag) h = ap is_finished (same_meaning name tag tags layout fresh h) ∙ h
still_object name layout tags fresh (Array t n) h =
    let p = and_parts (is_object_type tags t) (nat_lt 0 n) h in ap (λ b. b && nat_lt 0 n) (still_object name layout tags fresh t p.0 ∙ sym p.0) ∙ h
still_object name layout tags fresh Int h = refl
still_object name layout tags fresh Unsigned h = refl
still_object name layout tags fresh Char h = refl
still_object name layout tags fresh UChar h = refl
still_object name layout tags fresh (Pointer t) h = refl

same_words : (name : List ℕ) (layout : Layout) (tags : Tags) → meaning tags name ≡ None → (t : CType) → is_object_type tags t ≡ true → words_of ((name, layout) ∷ tags) t ≡ words_of tags t
same_words name layout tags fresh Void h = refl
same_words name layout tags fresh Null h = refl
same_words name layout tags fresh (Function t ts) h = refl
same_words name layout tags fresh (Struct tag) h = ap layout_words (same_meaning name tag tags layout fresh h)
same_words name layout tags fresh (Array t n) h = ap (λ m. n * m) (same_words name layout tags fresh t (and_parts (is_object_type tags t) (nat_lt 0 n) h).0)
same_words name layout tags fresh Int h = refl
same_words name layout tags fresh Unsigned h = refl
same_words name layout tags fresh Char h = refl
same_words name layout tags fresh UChar h = refl
same_words name layout tags fresh (Pointer t) h = refl

-- the members of a struct have types of objects in all that is declared, and its words are theirs
pub record FitsIn (tags : Tags) (layout : Option Layout) : Type 0 where
  pub all : (ms : List (List ℕ × CType)) (words : ℕ) → layout ≡ Some (Members ms words) → AllObjects tags (types_of_members ms)
  pub words : (ms : List (List ℕ × CType)) (words : ℕ) → layout ≡ Some (Members ms words) → words ≡ words_of_members tags ms

all_still : (name : List ℕ) (layout : Layout) (tags : Tags) → meaning tags name ≡ None → (ms : List (List ℕ × CType)) → AllObjects tags (types_of_members ms) → AllObjects ((name, layout) ∷ tags) (types_of_members ms)
all_still name layout tags fresh [] all = tt
all_still name layout tags fresh (m ∷ ms) all = (still_object name layout tags fresh m.1 all.0, all_still name layout tags fresh ms all.1)

words_still : (name : List ℕ) (layout : Layout) (tags : Tags) → meaning tags name ≡ None → (ms : List (List ℕ × CType)) → AllObjects tags (types_of_members ms) → words_of_members ((name, layout) ∷ tags) ms ≡ words_of_members tags ms
words_still name layout tags fresh [] all = refl
words_still name layout tags fresh (m ∷ ms) all =
    ap (λ n. n + words_of_members ((name, layout) ∷ tags) ms) (same_words name layout tags fresh m.1 all.0) ∙ ap (λ n. words_of tags m.1 + n) (words_still name layout tags fresh ms all.1)

fits_here : (name : List ℕ) (layout : Layout) (tags : Tags) → meaning tags name ≡ None → FitsBehind tags layout → FitsIn ((name, layout) ∷ tags) (Some layout)
fits_here name layout tags fresh fits = record { all = all; words = words }
  where
    of_members : (l : Layout) (ms : List (List ℕ × CType)) (words : ℕ) → FitsBehind tags l → Some l ≡ Some (Members ms words) → FitsBehind tags (Members ms words)
    of_members l ms words f e = let same : l ≡ Members ms words = cc e in subst (λ x. FitsBehind tags x) same f

    all : (ms : List (List ℕ × CType)) (words : ℕ) → Some layout ≡ Some (Members ms words) → AllObjects ((name, layout) ∷ tags) (types_of_members ms)
    all ms words e = all_still name layout tags fresh ms (of_members layout ms words fits e).0

    words : (ms : List (List ℕ × CType)) (words : ℕ) → Some layout ≡ Some (Members ms words) → words ≡ words_of_members ((name, layout) ∷ tags) ms
    words ms n e = let f = of_members layout ms n fits e in f.1 ∙ sym (words_still name layout tags fresh ms f.0)

fits_later : (name : List ℕ) (layout : Layout) (tags : Tags) (o : Option Layout) → meaning tags name ≡ None → FitsIn tags o → FitsIn ((name, layout) ∷ tags) o
fits_later name layout tags o fresh fits = record {
  all = λ ms words e. all_still name layout tags fresh ms (fits.all ms words e);
  words = λ ms words e. fits.words ms words e ∙ sym (words_still name layout tags fresh ms (fits.all ms words e));
}

fits_by_name : (b : Bool) (tags : Tags) (layout : Layout) (o : Option Layout) → FitsIn tags (Some layout) → FitsIn tags o → FitsIn tags (cond b (Some layout) o)
fits_by_name true tags layout o f g = f
fits_by_name false tags layout o f g = g

pub fits_in : (tags : Tags) → LaidOut tags → (tag : List ℕ) → FitsIn tags (meaning tags tag)
fits_in [] laid tag = record { all = λ ms words e. absurd (cc e); words = λ ms words e. absurd (cc e) }
fits_in (entry ∷ tags) laid tag =
    fits_by_name (bytes_eq tag entry.0) (entry ∷ tags) entry.1 (meaning tags tag) (fits_here entry.0 entry.1 tags laid.0 laid.1) (fits_later entry.0 entry.1 tags (meaning tags tag) laid.0 (fits_in tags laid.2 tag))
