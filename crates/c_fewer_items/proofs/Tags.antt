-- Types that can be written stay narrow behind the declaration of another struct; those of its members do, where it is narrow itself.
use Rattle.std.proofs.Common.{◌≡◌, ℕ, ◌+◌, ◌*◌, List, ◌∷◌, Option, Some, None, Bool, true, false, refl, sym, ap, ap₂, ◌∙◌, cond, arith}
use Rattle.std.specs.Prelude.{is_some, nat_lt}
use Rattle.std.specs.Str.{bytes_eq}
use Rattle.std.proofs.lemmas.Bool.{and_parts}
use Rattle.std.proofs.lemmas.Slice.Eq.{bytes_eq-Decides}
use Rattle.c_syntax.specs.Words.{meaning}
use Rattle.c_types.specs.Types as type
use Rattle.c_types.specs.Types.{CType, CTypes, NoType, MoreType, Layout, Unfinished, Members, Tags, layout_words, is_finished, words_of, is_object_type}
use Rattle.c_types.specs.Limits.{is_over, wide_types, wide_types_in}
use Rattle.c_fewer_types.specs.Written.{CanBeWritten, AreParameters}
use Rattle.c_limited.specs.Narrow.{IsNarrow}

-- ---- behind another struct

-- what is known has the same layout
pub record Keeps (tags more : Tags) : Type 0 where
  pub same : (tag : List ℕ) → is_some (meaning tags tag) ≡ true → meaning more tag ≡ meaning tags tag

pub behind_keeps : (tags : Tags) (n : List ℕ) (layout : Layout) → meaning tags n ≡ None → Keeps tags ((n, layout) ∷ tags)
behind_keeps tags n layout fresh = record { same = λ tag k. go tag (bytes_eq tag n) refl k }
  where
    go : (tag : List ℕ) (b : Bool) → bytes_eq tag n ≡ b → is_some (meaning tags tag) ≡ true → cond b (Some layout) (meaning tags tag) ≡ meaning tags tag
    go tag true e k = absurd (cc (sym k ∙ ap is_some (ap (λ z. meaning tags z) ((bytes_eq-Decides tag n).0 e) ∙ fresh)))
    go tag false e k = refl

module _ (tags more : Tags) (keeps : Keeps tags more) where
  words_same : (t : CType) → CanBeWritten tags t → words_of more t ≡ words_of tags t
  words_same (type.Struct tag) c = ap layout_words (keeps.same tag c)
  words_same (type.Array t n) c = ap (λ w. n * w) (words_same t c.2)
  words_same type.Void c = refl
  words_same type.Null c = refl
  words_same type.Int c = refl
  words_same type.Unsigned c = refl
  words_same type.Char c = refl
  words_same type.UChar c = refl
  words_same (type.Pointer t) c = refl
  words_same (type.Function t ts) c = refl

  mutual
    wide_same : (t : CType) → CanBeWritten tags t → wide_types more t ≡ wide_types tags t
    wide_same (type.Struct tag) c = ap is_over (words_same (type.Struct tag) c)
    wide_same (type.Array t n) c = ap₂ (λ x y. x + y) (ap is_over (words_same (type.Array t n) c)) (wide_same t c.2)
    wide_same (type.Pointer t) c = wide_same t c
    wide_same (type.Function t ts) c = ap₂ (λ x y. x + y) (wide_same t c.1) (all_wide_same ts c.2)
    wide_same type.Void c = refl
    wide_same type.Null c = refl
    wide_same type.Int c = refl
    wide_same type.Unsigned c = refl
    wide_same type.Char c = refl
    wide_same type.UChar c = refl

    all_wide_same : (ts : CTypes) → AreParameters tags ts → wide_types_in more ts ≡ wide_types_in tags ts
    all_wide_same NoType c = refl
    all_wide_same (MoreType t ts) c = ap₂ (λ x y. x + y) (wide_same t c.1) (all_wide_same ts c.2)

  pub narrow_behind : (t : CType) → CanBeWritten tags t → IsNarrow tags t → IsNarrow more t
  narrow_behind t c h = wide_same t c ∙ h

-- ---- behind its own

module _ (tags : Tags) (n : List ℕ) (ms : List (List ℕ × CType)) (words : ℕ) (few : is_over words ≡ 0) where
  abbrev begun : Tags
  begun = (n, Unfinished) ∷ tags

  abbrev closed : Tags
  closed = (n, Members ms words) ∷ tags

  words_closed : (t : CType) → is_object_type begun t ≡ true → words_of closed t ≡ words_of begun t
  words_closed (type.Struct tag) o = go (bytes_eq tag n) (meaning tags tag) o
    where
      go : (b : Bool) (l : Option Layout) → is_finished (cond b (Some Unfinished) l) ≡ true → layout_words (cond b (Some (Members ms words)) l) ≡ layout_words (cond b (Some Unfinished) l)
      go true l o = absurd (cc o)
      go false l o = refl
  words_closed (type.Array t k) o = ap (λ w. k * w) (words_closed t (and_parts (is_object_type begun t) (nat_lt 0 k) o).0)
  words_closed type.Void o = refl
  words_closed type.Null o = refl
  words_closed type.Int o = refl
  words_closed type.Unsigned o = refl
  words_closed type.Char o = refl
  words_closed type.UChar o = refl
  words_closed (type.Pointer t) o = refl
  words_closed (type.Function t ts) o = refl

  mutual
    pub narrow_closed : (t : CType) → CanBeWritten begun t → IsNarrow begun t → IsNarrow closed t
    narrow_closed (type.Struct tag) c h = go (bytes_eq tag n) (meaning tags tag) h
      where
        go : (b : Bool) (l : Option Layout) → is_over (layout_words (cond b (Some Unfinished) l)) ≡ 0 → is_over (layout_words (cond b (Some (Members ms words)) l)) ≡ 0
        go true l h = few
        go false l h = h
    narrow_closed (type.Array t k) c h =
        let whole : is_over (words_of begun (type.Array t k)) + wide_types begun t ≡ 0 = h in
        let one : is_over (words_of begun (type.Array t k)) ≡ 0 = omega (arith, whole) in
        let two : wide_types begun t ≡ 0 = omega (arith, whole) in
        let over : is_over (words_of closed (type.Array t k)) ≡ 0 = ap (λ w. is_over (k * w)) (words_closed t c.0) ∙ one in
        let rest : wide_types closed t ≡ 0 = narrow_closed t c.2 two in
        omega (arith, over, rest)
    narrow_closed (type.Pointer t) c h = narrow_closed t c h
    narrow_closed (type.Function t ts) c h =
        let whole : wide_types begun t + wide_types_in begun ts ≡ 0 = h in
        let one : wide_types begun t ≡ 0 = omega (arith, whole) in
        let two : wide_types_in begun ts ≡ 0 = omega (arith, whole) in
        let first : wide_types closed t ≡ 0 = narrow_closed t c.1 one in
        let rest : wide_types_in closed ts ≡ 0 = all_narrow_closed ts c.2 two in
        omega (arith, first, rest)
    narrow_closed type.Void c h = refl
    narrow_closed type.Null c h = refl
    narrow_closed type.Int c h = refl
    narrow_closed type.Unsigned c h = refl
    narrow_closed type.Char c h = refl
    narrow_closed type.UChar c h = refl

    all_narrow_closed : (ts : CTypes) → AreParameters begun ts → wide_types_in begun ts ≡ 0 → wide_types_in closed ts ≡ 0
    all_narrow_closed NoType c h = refl
    all_narrow_closed (MoreType t ts) c h =
        let whole : wide_types begun t + wide_types_in begun ts ≡ 0 = h in
        let one : wide_types begun t ≡ 0 = omega (arith, whole) in
        let two : wide_types_in begun ts ≡ 0 = omega (arith, whole) in
        let first : wide_types closed t ≡ 0 = narrow_closed t c.1 one in
        let rest : wide_types_in closed ts ≡ 0 = all_narrow_closed ts c.2 two in
        omega (arith, first, rest)
