-- Directives, and what the tokens behind a `#` say.
use Rattle.std.specs.Prelude.{ℕ, Bool, true, false, ◌&&◌, List, [], ◌∷◌, Option, Some, None, Result, Ok, Err, if◌then◌else◌, codes}
use Rattle.std.specs.Option.{option_map_or}
use Rattle.std.specs.Str.{bytes_eq}
use Rattle.c_syntax.specs.declared.token.Key.TheVariants.{Else}
use Rattle.c_syntax.specs.declared.token.Mark.TheVariants.{Less, Dot, Greater}
use Rattle.c_syntax.specs.declared.token.Kind.TheVariants as kind
use Rattle.c_syntax.specs.declared.token.RawKind.{RawKind}
use Rattle.c_syntax.specs.declared.token.RawKind.TheVariants.{Plain}
use Rattle.c_syntax.specs.declared.token.Raw.{Raw}
use Rattle.c_syntax.specs.declared.header.Header.{Header}
use Rattle.c_syntax.specs.Header.{header_named}
use Rattle.c_prep.specs.declared.word.Word.{Word}
use Rattle.c_prep.specs.declared.word.Word.TheVariants as word

-- a directive; `pos` is the place of the name, `more` that of a token too many
pub data Directive : Type 0 where
  Empty : Directive
  Define : (name : List ℕ) → (pos : ℕ) → (tokens : List Raw) → Directive
  Undef : (name : List ℕ) → Directive
  -- `#ifdef`, where the name is to be kept, or `#ifndef`
  If : (name : List ℕ) → (wanted : Bool) → Directive
  Turn : (more : Option ℕ) → Directive
  Close : (more : Option ℕ) → Directive
  Include : (header : Header) → Directive

abbrev pub word_named : List ℕ → Word
word_named name =
    if bytes_eq name (codes "define") then word.Define
    else if bytes_eq name (codes "undef") then word.Undef
    else if bytes_eq name (codes "ifdef") then word.Ifdef
    else if bytes_eq name (codes "ifndef") then word.Ifndef
    else if bytes_eq name (codes "endif") then word.Endif
    else if bytes_eq name (codes "include") then word.Include
    else word.Other

-- the word that a directive begins with
abbrev pub word_of : RawKind → Word
word_of (Plain (kind.Name name)) = word_named name
word_of (Plain (kind.Key Else)) = word.Else
word_of k = word.Other

-- the place of the first of these tokens
abbrev pub first_place : List Raw → Option ℕ
first_place [] = None
first_place (r ∷ rs) = Some r.pos

-- the name that stands first, or the place of the refusal: a keyword's own, else that of the `#`
abbrev pub name_in : ℕ → ℕ → RawKind → Result (List ℕ) ℕ
name_in at pos (Plain (kind.Name name)) = Ok name
name_in at pos (Plain (kind.Key k)) = Err pos
name_in at pos k = Err at

unfoldable pub name_at : ℕ → Raw → Result (List ℕ) ℕ
name_at at r = name_in at r.pos r.kind

abbrev pub with_name : {X : Type 0} → Result (List ℕ) ℕ → (List ℕ → Result X ℕ) → Result X ℕ
with_name (Ok name) f = f name
with_name (Err at) f = Err at

abbrev pub define_at : ℕ → List Raw → Result Directive ℕ
define_at at [] = Err at
define_at at (r ∷ rs) = with_name (name_at at r) (λ name. Ok (Define name r.pos rs))

abbrev pub name_before : List Raw → List ℕ → Result (List ℕ) ℕ
name_before [] name = Ok name
name_before (r ∷ rs) name = Err r.pos

-- a name with no token behind it
unfoldable pub lone_name : ℕ → List Raw → Result (List ℕ) ℕ
lone_name at [] = Err at
lone_name at (r ∷ rs) = with_name (name_at at r) (name_before rs)

abbrev pub is_less : RawKind → Bool
is_less (Plain (kind.Mark Less)) = true
is_less k = false

abbrev pub is_dot : RawKind → Bool
is_dot (Plain (kind.Mark Dot)) = true
is_dot k = false

abbrev pub is_greater : RawKind → Bool
is_greater (Plain (kind.Mark Greater)) = true
is_greater k = false

abbrev pub is_h : RawKind → Bool
is_h (Plain (kind.Name name)) = bytes_eq name (codes "h")
is_h k = false

unfoldable pub header_of : RawKind → Option Header
header_of (Plain (kind.Name name)) = header_named name
header_of k = None

-- `.h>` right behind a header's name
abbrev pub ends_header : Raw → Raw → Raw → Bool
ends_header dot h greater = is_dot dot.kind && dot.close && is_h h.kind && h.close && is_greater greater.kind && greater.close

abbrev pub header_before : List Raw → Header → Result Directive ℕ
header_before [] header = Ok (Include header)
header_before (r ∷ rs) header = Err r.pos

-- `<stdio.h>` or another header's, with no blank between `<` and `>`
abbrev pub include_at : ℕ → List Raw → Result Directive ℕ
include_at at (less ∷ name ∷ dot ∷ h ∷ greater ∷ rs) =
    if is_less less.kind && name.close && ends_header dot h greater then option_map_or (header_before rs) (header_of name.kind) (Err at) else Err at
include_at at rs = Err at

-- the directive of a line in a part that isn't taken: all but conditionals stand for nothing
unfoldable pub passed_over : Word → ℕ → List Raw → Result Directive ℕ
passed_over word.Ifdef at rs = with_name (lone_name at rs) (λ name. Ok (If name true))
passed_over word.Ifndef at rs = with_name (lone_name at rs) (λ name. Ok (If name false))
passed_over word.Else at rs = Ok (Turn (first_place rs))
passed_over word.Endif at rs = Ok (Close (first_place rs))
passed_over w at rs = Ok Empty

unfoldable pub taken_up : Word → ℕ → List Raw → Result Directive ℕ
taken_up word.Define at rs = define_at at rs
taken_up word.Undef at rs = with_name (lone_name at rs) (λ name. Ok (Undef name))
taken_up word.Include at rs = include_at at rs
taken_up word.Other at rs = Err at
taken_up w at rs = passed_over w at rs

-- the directive of a line by what stands behind its `#`, or the place of the refusal
unfoldable pub directive_at : Bool → ℕ → List Raw → Result Directive ℕ
directive_at taken at [] = Ok Empty
directive_at taken at (r ∷ rs) = if taken then taken_up (word_of r.kind) at rs else passed_over (word_of r.kind) at rs
