-- Behind a struct's declaration the file scopes stand for each other as before.
use Rattle.std.proofs.Common.{◌≡◌, ℕ, List, [], ◌∷◌, ◌++◌, Option, Some, None, Bool, true, false, nat_lt, refl, sym, ap, ap₂, ◌∙◌, subst, cond}
use Rattle.std.specs.Prelude.{◌&&◌, not, map, is_none, is_some, IfOk, Ok}
use Rattle.std.specs.Option.{option_map, option_map_or}
use Rattle.std.specs.Str.{bytes_eq}
use Rattle.std.proofs.lemmas.Bool.{and_parts}
use Rattle.c_syntax.specs.Plain.{CExpr, CValue, CDecl, CTag}
use Rattle.c_syntax.specs.Words.{meaning}
use Rattle.c_types.specs.declared.fault.TypeFault.TheVariants as fault
use Rattle.c_types.specs.Types as type
use Rattle.c_types.specs.Types.{CType, CTypes, NoType, MoreType, Layout, Unfinished, Members, Tags, is_finished, is_object_type}
use Rattle.c_types.specs.Refusals.{Rule, after, both, keeping}
use Rattle.c_types.specs.Scope.{Scope, Entity, Object, Routine, BuiltIn, Printf, entity_of}
use Rattle.c_types.specs.Expressions.{written}
use Rattle.c_types.specs.Declarations.{object_type, member, members_or, members, words_of_members, with_tag, is_tag, some_members, tag_declared}
use Rattle.c_fewer_types.specs.Written.{CanBeWritten, AreParameters, EntityCanBeWritten, ScopeCanBeWritten}
use Rattle.c_fewer_types.proofs.TypeTreesProofs.{fewer_types_are_the_same}
use Rattle.c_fewer_types.proofs.Can.{types_can_be_written}
use Rattle.c_helpers.specs.Fewer.{with_values, fewer_in_declaration}
use Rattle.c_fewer_types.proofs.Judged.{keeping_is}
use Rattle.c_fewer_types.proofs.FewerTypedRules.{after_is, both_is, kept_is}
use Rattle.c_fewer_items.specs.Files.{FilesStand}

-- ---- tags that are known and finished in more tags

record Grows (tags more : Tags) : Type 0 where
  known : (tag : List ℕ) → is_some (meaning tags tag) ≡ true → is_some (meaning more tag) ≡ true
  finished : (tag : List ℕ) → is_finished (meaning tags tag) ≡ true → is_finished (meaning more tag) ≡ true

module _ (tags more : Tags) (g : Grows tags more) where
  object_grows : (t : CType) → is_object_type tags t ≡ true → is_object_type more t ≡ true
  object_grows type.Void e = absurd (cc e)
  object_grows type.Null e = absurd (cc e)
  object_grows (type.Function t ts) e = absurd (cc e)
  object_grows (type.Struct tag) e = g.finished tag e
  object_grows (type.Array t n) e = let p = and_parts (is_object_type tags t) (nat_lt 0 n) e in ap₂ (λ x y. x && y) (object_grows t p.0) p.1
  object_grows type.Int e = refl
  object_grows type.Unsigned e = refl
  object_grows type.Char e = refl
  object_grows type.UChar e = refl
  object_grows (type.Pointer t) e = refl

  mutual
    can_grow : (t : CType) → CanBeWritten tags t → CanBeWritten more t
    can_grow type.Null c = c
    can_grow (type.Struct tag) c = g.known tag c
    can_grow (type.Pointer t) c = can_grow t c
    can_grow (type.Array t n) c = (object_grows t c.0, c.1, can_grow t c.2)
    can_grow (type.Function t ts) c = (c.0, can_grow t c.1, parameters_grow ts c.2)
    can_grow type.Void c = tt
    can_grow type.Int c = tt
    can_grow type.Unsigned c = tt
    can_grow type.Char c = tt
    can_grow type.UChar c = tt

    parameters_grow : (ts : CTypes) → AreParameters tags ts → AreParameters more ts
    parameters_grow NoType c = tt
    parameters_grow (MoreType t ts) c = (c.0, can_grow t c.1, parameters_grow ts c.2)

  entity_grows : (o : Option Entity) → EntityCanBeWritten tags o → EntityCanBeWritten more o
  entity_grows None c = tt
  entity_grows (Some (Object t)) c = can_grow t c
  entity_grows (Some (Routine t begun)) c = can_grow t c
  entity_grows (Some (BuiltIn t)) c = can_grow t c
  entity_grows (Some Printf) c = tt

-- a tag that is finished, before others and where it was unfinished
behind_grows : (tags : Tags) (n : List ℕ) (ms : List (List ℕ × CType)) (words : ℕ) → Grows tags ((n, Members ms words) ∷ tags)
behind_grows tags n ms words = record { known = λ tag e. known (bytes_eq tag n) (meaning tags tag) e; finished = λ tag e. finished (bytes_eq tag n) (meaning tags tag) e }
  where
    known : (b : Bool) (o : Option Layout) → is_some o ≡ true → is_some (cond b (Some (Members ms words)) o) ≡ true
    known true o e = refl
    known false o e = e

    finished : (b : Bool) (o : Option Layout) → is_finished o ≡ true → is_finished (cond b (Some (Members ms words)) o) ≡ true
    finished true o e = refl
    finished false o e = e

closed_grows : (tags : Tags) (n : List ℕ) (ms : List (List ℕ × CType)) (words : ℕ) → Grows ((n, Unfinished) ∷ tags) ((n, Members ms words) ∷ tags)
closed_grows tags n ms words = record { known = λ tag e. known (bytes_eq tag n) (meaning tags tag) e; finished = λ tag e. finished (bytes_eq tag n) (meaning tags tag) e }
  where
    known : (b : Bool) (o : Option Layout) → is_some (cond b (Some Unfinished) o) ≡ true → is_some (cond b (Some (Members ms words)) o) ≡ true
    known true o e = refl
    known false o e = e

    finished : (b : Bool) (o : Option Layout) → is_finished (cond b (Some Unfinished) o) ≡ true → is_finished (cond b (Some (Members ms words)) o) ≡ true
    finished true o e = refl
    finished false o e = e

-- ---- members

abbrev pub same : CExpr → CExpr
same e = e

pub none_too : (o : Option CValue) → is_none (option_map (with_values same) o) ≡ is_none o
none_too None = refl
none_too (Some v) = refl

abbrev member_rules : List (List ℕ × CType) → ℕ → List ℕ → Bool → List Rule
member_rules before at name none = (option_map_or (λ _. false) (meaning before name) true, fault.Twice at) ∷ (none, fault.Mismatch at) ∷ []

abbrev AllCan : Tags → List (List ℕ × CType) → Type 0
AllCan tags [] = Unit {0}
AllCan tags (m ∷ ms) = CanBeWritten tags m.1 × AllCan tags ms

all_grow : (tags more : Tags) → Grows tags more → (ms : List (List ℕ × CType)) → AllCan tags ms → AllCan more ms
all_grow tags more g [] c = tt
all_grow tags more g (m ∷ ms) c = (can_grow tags more g m.1 c.0, all_grow tags more g ms c.1)

together : (tags : Tags) (xs : List (List ℕ × CType)) (m : List ℕ × CType) → AllCan tags xs → CanBeWritten tags m.1 → AllCan tags (xs ++ m ∷ [])
together tags [] m c d = (d, tt)
together tags (x ∷ xs) m c d = (c.0, together tags xs m c.1 d)

found_can : (tags : Tags) (ms : List (List ℕ × CType)) (name : List ℕ) (t : CType) → AllCan tags ms → meaning ms name ≡ Some t → CanBeWritten tags t
found_can tags [] name t c e = absurd (cc e)
found_can tags (m ∷ ms) name t c e = go (bytes_eq name m.0) (λ k. found_can tags ms name t c.1 k) e
  where
    go : (b : Bool) → (meaning ms name ≡ Some t → CanBeWritten tags t) → cond b (Some m.1) (meaning ms name) ≡ Some t → CanBeWritten tags t
    go true more e = let is : m.1 ≡ t = cc e in subst (λ z. CanBeWritten tags z) is c.0
    go false more e = more e

-- what a member is, and that it is the same with numbers as lengths
record MemberIs (s s' : Scope) (before : List (List ℕ × CType)) (d : CDecl) (m : List ℕ × CType) : Type 0 where
  can : CanBeWritten s.tags m.1
  too : member s' before (fewer_in_declaration s same d) ≡ Ok m

member_is : (s s' : Scope) (before : List (List ℕ × CType)) (d : CDecl) (m : List ℕ × CType) → s.tags ≡ s'.tags → member s before d ≡ Ok m → MemberIs s s' before d m
member_is s s' before d m tags e =
    let k = after_is (after (written s d.pos d.ty) (λ t. object_type s d.pos t)) (λ t. keeping (member_rules before d.pos d.name (is_none d.first)) (d.name, t)) m e in
    let w = after_is (written s d.pos d.ty) (λ t. object_type s d.pos t) k.0 k.1 in
    let o = keeping_is {A = CType} ((is_object_type s.tags w.0, fault.Mismatch d.pos) ∷ []) w.0 k.0 w.2 in
    let r = keeping_is {A = List ℕ × CType} (member_rules before d.pos d.name (is_none d.first)) (d.name, k.0) m k.2 in
    let c : CanBeWritten s.tags w.0 = subst (λ q. IfOk q (CanBeWritten s.tags)) w.1 (types_can_be_written s d.pos d.ty) in
    let there : object_type s' d.pos w.0 ≡ Ok k.0 = ap (λ z. keeping ((is_object_type z w.0, fault.Mismatch d.pos) ∷ []) w.0) (sym tags) ∙ w.2 in
    record {
      can = subst (λ z. CanBeWritten s.tags z) (o.1 ∙ ap (λ z. z.1) r.1) c;
      too =
          ap (λ q. after (after q (λ t. object_type s' d.pos t)) (λ t. keeping (member_rules before d.pos d.name (is_none (option_map (with_values same) d.first))) (d.name, t))) (fewer_types_are_the_same s s' d.pos d.ty w.0 tags w.1)
          ∙ (ap (λ q. after q (λ t. keeping (member_rules before d.pos d.name (is_none (option_map (with_values same) d.first))) (d.name, t))) there
          ∙ (ap (λ b. keeping (member_rules before d.pos d.name b) (d.name, k.0)) (none_too d.first) ∙ k.2));
    }

record MembersAre (s s' : Scope) (before : List (List ℕ × CType)) (ds : List CDecl) (ms : List (List ℕ × CType)) : Type 0 where
  can : AllCan s.tags ms
  too : members s' before (map (fewer_in_declaration s same) ds) ≡ Ok ms

members_are : (s s' : Scope) (before : List (List ℕ × CType)) (ds : List CDecl) (ms : List (List ℕ × CType)) → s.tags ≡ s'.tags → AllCan s.tags before → members s before ds ≡ Ok ms → MembersAre s s' before ds ms
members_are s s' before [] ms tags c e = let is : before ≡ ms = cc e in record { can = subst (λ z. AllCan s.tags z) is c; too = e }
members_are s s' before (d ∷ ds) ms tags c e =
    let k = both_is (member s before d) (members s (members_or before (member s before d)) ds) (λ _ ms. Ok ms) ms e in
    let m = member_is s s' before d k.0 tags k.1.1 in
    let rest : members s (before ++ k.0 ∷ []) ds ≡ Ok k.1.0 = subst (λ q. members s (members_or before q) ds ≡ Ok k.1.0) k.1.1 k.1.2 in
    let n = members_are s s' (before ++ k.0 ∷ []) ds k.1.0 tags (together s.tags before k.0 c m.can) rest in
    let is : k.1.0 ≡ ms = cc k.1.3 in
    record {
      can = subst (λ z. AllCan s.tags z) is n.can;
      too =
          ap (λ q. both q (members s' (members_or before q) (map (fewer_in_declaration s same) ds)) (λ _ ms. Ok ms)) m.too
          ∙ (ap (λ q. both {A = List ℕ × CType} {B = List (List ℕ × CType)} (Ok k.0) q (λ _ ms. Ok ms)) n.too ∙ k.1.3);
    }

-- ---- the declaration

abbrev listed : Option Layout → List (List ℕ × CType)
listed (Some (Members others count)) = others
listed o = []

-- behind a struct all that could be written can be, its members too
written_behind : (s : Scope) (n : List ℕ) (ms : List (List ℕ × CType)) (words : ℕ) → ScopeCanBeWritten s → AllCan ((n, Unfinished) ∷ s.tags) ms → ScopeCanBeWritten (with_tag s n (Members ms words))
written_behind s n ms words w c = record {
  names = λ name. entity_grows s.tags ((n, Members ms words) ∷ s.tags) (behind_grows s.tags n ms words) (entity_of s name) (w.names name);
  members = λ tag others count name t e f. of_tag tag others count name t (bytes_eq tag n) e f;
}
  where
    grown : Grows s.tags ((n, Members ms words) ∷ s.tags)
    grown = behind_grows s.tags n ms words

    of_tag : (tag : List ℕ) (others : List (List ℕ × CType)) (count : ℕ) (name : List ℕ) (t : CType) (b : Bool) → cond b (Some (Members ms words)) (meaning s.tags tag) ≡ Some (Members others count) → meaning others name ≡ Some t → CanBeWritten ((n, Members ms words) ∷ s.tags) t
    of_tag tag others count name t true e f = found_can ((n, Members ms words) ∷ s.tags) ms name t (all_grow ((n, Unfinished) ∷ s.tags) ((n, Members ms words) ∷ s.tags) (closed_grows s.tags n ms words) ms c) (ap (λ z. meaning z name) (ap listed e) ∙ f)
    of_tag tag others count name t false e f = can_grow s.tags ((n, Members ms words) ∷ s.tags) grown t (w.members tag others count name t e f)

tag_stands : (test : List ℕ → Bool) (s s' : Scope) (n : List ℕ) (layout layout' : Layout) → layout ≡ layout' → FilesStand test s s' → ScopeCanBeWritten (with_tag s n layout) → FilesStand test (with_tag s n layout) (with_tag s' n layout')
tag_stands test s s' n layout layout' e a w = record {
  tags = ap₂ (λ x xs. (n, x) ∷ xs) e a.tags;
  outer = a.outer;
  outer_too = a.outer_too;
  names = a.names;
  none = a.none;
  helpers = λ name k p. let h = a.helpers name k p in record { ty = h.ty; type_is = h.type_is; begun = h.begun; found = h.found; defined = h.defined };
  defined = a.defined;
  written = w;
  built_in = a.built_in;
}

-- what a declaration with fewer operators leads to
pub record StructGoes (test : List ℕ → Bool) (s s' : Scope) (tag : CTag) (r : Scope) : Type 0 where
  pub other : Scope
  pub is : tag_declared s' (record tag { members = map (fewer_in_declaration (with_tag s tag.name Unfinished) same) tag.members }) ≡ Ok other
  pub stand : FilesStand test r other

abbrev some_too : (ds : List CDecl) (f : CDecl → CDecl) → some_members (map f ds) ≡ some_members ds
some_too [] f = refl
some_too (d ∷ ds) f = refl

pub struct_goes : (test : List ℕ → Bool) (s s' : Scope) (tag : CTag) (r : Scope) → FilesStand test s s' → tag_declared s tag ≡ Ok r → StructGoes test s s' tag r
struct_goes test s s' tag r a e =
    let inner : Scope = with_tag s tag.name Unfinished in
    let inner' : Scope = with_tag s' tag.name Unfinished in
    let changed : List CDecl = map (fewer_in_declaration inner same) tag.members in
    let within : inner.tags ≡ inner'.tags = ap (λ xs. (tag.name, Unfinished) ∷ xs) a.tags in
    let rules : List Rule = (not (is_tag s tag.name), fault.Twice tag.pos) ∷ (some_members tag.members, fault.Mismatch tag.pos) ∷ [] in
    let rules' : List Rule = (not (is_tag s' tag.name), fault.Twice tag.pos) ∷ (some_members changed, fault.Mismatch tag.pos) ∷ [] in
    let k = after_is (members inner [] tag.members) (λ ms. keeping rules (with_tag s tag.name (Members ms (words_of_members inner.tags ms)))) r e in
    let ms : List (List ℕ × CType) = k.0 in
    let m = members_are inner inner' [] tag.members ms within tt k.1 in
    let layout : Layout = Members ms (words_of_members inner.tags ms) in
    let layout' : Layout = Members ms (words_of_members inner'.tags ms) in
    let l = keeping_is {A = Scope} rules (with_tag s tag.name layout) r k.2 in
    let alike : rules' ≡ rules = ap₂ (λ x y. (x, fault.Twice tag.pos) ∷ (y, fault.Mismatch tag.pos) ∷ []) (ap (λ z. not (option_map_or (λ _. true) (meaning z tag.name) false)) (sym a.tags)) (some_too tag.members (fewer_in_declaration inner same)) in
    let stand = tag_stands test s s' tag.name layout layout' (ap (λ z. Members ms (words_of_members z ms)) within) a (written_behind s tag.name ms (words_of_members inner.tags ms) a.written m.can) in
    record {
      other = with_tag s' tag.name layout';
      is =
          ap (λ q. after q (λ ms. keeping rules' (with_tag s' tag.name (Members ms (words_of_members inner'.tags ms))))) m.too
          ∙ (ap (λ x. keeping x (with_tag s' tag.name layout')) alike ∙ kept_is {A = Scope} rules (with_tag s' tag.name layout') l.0);
      stand = subst (λ z. FilesStand test z (with_tag s' tag.name layout')) l.1 stand;
    }
