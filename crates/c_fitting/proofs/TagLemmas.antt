-- Types and scopes stay good behind another tag.
use Rattle.std.proofs.Common.{◌≡◌, ℕ, zero, suc, ◌+◌, ◌*◌, ◌<◌, ◌≤◌, Bool, true, false, ◌&&◌, not, List, [], ◌∷◌, ◌++◌, Option, Some, None, refl, sym, ap, subst, ◌∙◌, cond, arith}
use Rattle.std.specs.Prelude.{nat_lt, is_none, Ok, Err}
use Rattle.std.specs.Option.{option_map_or}
use Rattle.std.specs.Str.{bytes_eq}
use Rattle.std.proofs.lemmas.Bool.{and_parts}
use Rattle.std.proofs.lemmas.Slice.Eq.{bytes_eq-Decides}
use Rattle.c_syntax.specs.Plain.{CDecl, CTag}
use Rattle.c_syntax.specs.Words.{meaning}
use Rattle.c_types.specs.declared.fault.TypeFault.{TypeFault}
use Rattle.c_types.specs.declared.fault.TypeFault.TheVariants as fault
use Rattle.c_types.specs.Types as type
use Rattle.c_types.specs.Types.{CType, CTypes, Layout, Unfinished, Members, Tags, layout_words, is_finished, words_of, is_object_type}
use Rattle.c_types.specs.Refusals.{Judged, after, both, keeping}
use Rattle.c_types.specs.Scope.{Scope, Entity, Object, Routine, BuiltIn, Printf, entity_of}
use Rattle.c_types.specs.Expressions.{written}
use Rattle.c_types.specs.Declarations.{object_type, scope_or, member, members_or, members, words_of_members, with_tag, is_tag, some_members, tag_declared}
use Rattle.c_types.specs.Census.{of_type, members_sum}
use Rattle.c_types.specs.Limits.{most_words, is_over, wide_types}
use Rattle.c_fitting.specs.Good.{IsGood, AreGood, EachIsGood, EachIsObject, MembersAreGood, LayoutIsGood, TagsAreGood, EntityIsGood, ScopeIsGood}
use Rattle.c_fitting.proofs.Judgement.{IfOk, after_ok, keeping_one, keeping_two}
use Rattle.c_fitting.proofs.Sums.{weighing, widening, IsLight, first, last}
use Rattle.c_fitting.proofs.TypeLemmas.{object_words}
use Rattle.c_fitting.proofs.WrittenLemmas.{short, good_written}

-- ---- tags that come later

-- what is finished stays as it is
pub record Persists (tags tags' : Tags) : Type 0 where
  pub finished : (name : List ℕ) → is_finished (meaning tags name) ≡ true → meaning tags' name ≡ meaning tags name

module _ (tags tags' : Tags) (p : Persists tags tags') where
  object_later : (t : CType) → is_object_type tags t ≡ true → is_object_type tags' t ≡ true
  object_later (type.Struct tag) h = ap is_finished (p.finished tag h) ∙ h
  object_later (type.Array t n) h =
      let q = and_parts (is_object_type tags t) (nat_lt 0 n) h in ap (λ b. b && nat_lt 0 n) (object_later t q.0 ∙ sym q.0) ∙ h
  object_later type.Void h = absurd (cc h)
  object_later type.Null h = absurd (cc h)
  object_later (type.Function t ts) h = absurd (cc h)
  object_later type.Int h = refl
  object_later type.Unsigned h = refl
  object_later type.Char h = refl
  object_later type.UChar h = refl
  object_later (type.Pointer t) h = refl

  words_later : (t : CType) → is_object_type tags t ≡ true → words_of tags' t ≡ words_of tags t
  words_later (type.Struct tag) h = ap layout_words (p.finished tag h)
  words_later (type.Array t n) h = ap (λ m. n * m) (words_later t (and_parts (is_object_type tags t) (nat_lt 0 n) h).0)
  words_later type.Void h = refl
  words_later type.Null h = refl
  words_later (type.Function t ts) h = refl
  words_later type.Int h = refl
  words_later type.Unsigned h = refl
  words_later type.Char h = refl
  words_later type.UChar h = refl
  words_later (type.Pointer t) h = refl

  mutual
    pub good_later : (t : CType) → IsGood tags t → IsGood tags' t
    good_later (type.Pointer t) g = good_later t g
    good_later (type.Array t n) g = (good_later t g.0, object_later t g.1, subst (λ m. n * m ≤ most_words) (sym (words_later t g.1)) g.2)
    good_later (type.Function t ts) g = (good_later t g.0, all_later ts g.1, g.2)
    good_later (type.Struct tag) g = tt
    good_later type.Void g = tt
    good_later type.Int g = tt
    good_later type.Unsigned g = tt
    good_later type.Char g = tt
    good_later type.UChar g = tt
    good_later type.Null g = tt

    pub all_later : (ts : CTypes) → AreGood tags ts → AreGood tags' ts
    all_later type.NoType g = tt
    all_later (type.MoreType t ts) g = (good_later t g.0, all_later ts g.1)

  each_good_later : (ms : List (List ℕ × CType)) → EachIsGood tags ms → EachIsGood tags' ms
  each_good_later [] g = tt
  each_good_later (m ∷ ms) g = (good_later m.1 g.0, each_good_later ms g.1)

  each_object_later : (ms : List (List ℕ × CType)) → EachIsObject tags ms → EachIsObject tags' ms
  each_object_later [] g = tt
  each_object_later (m ∷ ms) g = (object_later m.1 g.0, each_object_later ms g.1)

  sum_later : (ms : List (List ℕ × CType)) → EachIsObject tags ms → words_of_members tags' ms ≡ words_of_members tags ms
  sum_later [] g = refl
  sum_later (m ∷ ms) g = ap (λ n. n + words_of_members tags' ms) (words_later m.1 g.0) ∙ ap (λ n. words_of tags m.1 + n) (sum_later ms g.1)

  members_later : (ms : List (List ℕ × CType)) (words : ℕ) → MembersAreGood tags ms words → MembersAreGood tags' ms words
  members_later ms words g = record { sum = sum_later ms g.objects ∙ g.sum; short = g.short; some = g.some; types = each_good_later ms g.types; objects = each_object_later ms g.objects }

  layout_later : (o : Option Layout) → LayoutIsGood tags o → LayoutIsGood tags' o
  layout_later None g = tt
  layout_later (Some Unfinished) g = tt
  layout_later (Some (Members ms words)) g = members_later ms words g

  pub entity_later : (o : Option Entity) → EntityIsGood tags o → EntityIsGood tags' o
  entity_later None g = tt
  entity_later (Some (Object t)) g = good_later t g
  entity_later (Some (Routine t begun)) g = good_later t g
  entity_later (Some (BuiltIn t)) g = good_later t g
  entity_later (Some Printf) g = tt

-- ---- a tag

fresh_name : (tags : Tags) (name other : List ℕ) (layout : Layout) (b : Bool) → bytes_eq other name ≡ b → meaning tags name ≡ None → is_finished (meaning tags other) ≡ true → cond b (Some layout) (meaning tags other) ≡ meaning tags other
fresh_name tags name other layout false e fresh h = refl
fresh_name tags name other layout true e fresh h =
    let same : other ≡ name = (bytes_eq-Decides other name).0 e in
    let none : meaning tags other ≡ None = ap (λ x. meaning tags x) same ∙ fresh in
    absurd (finished_none (meaning tags other) none h)
  where
    finished_none : (o : Option Layout) → o ≡ None → is_finished o ≡ true → ⊥
    finished_none None e h = cc
    finished_none (Some l) e h = cc

begins : (tags : Tags) (name : List ℕ) (layout : Layout) → meaning tags name ≡ None → Persists tags ((name, layout) ∷ tags)
begins tags name layout fresh = record { finished = λ other h. fresh_name tags name other layout (bytes_eq other name) refl fresh h }

closes_at : (b : Bool) (layout : Layout) (o : Option Layout) → is_finished (cond b (Some Unfinished) o) ≡ true → cond b (Some layout) o ≡ cond b (Some Unfinished) o
closes_at true layout o h = absurd cc
closes_at false layout o h = refl

-- where members are closed, what was finished before stays
closes : (tags : Tags) (name : List ℕ) (layout : Layout) → Persists ((name, Unfinished) ∷ tags) ((name, layout) ∷ tags)
closes tags name layout = record { finished = λ other h. closes_at (bytes_eq other name) layout (meaning tags other) h }

unfinished_good : (tags tags' : Tags) (b : Bool) (o : Option Layout) → Persists tags tags' → LayoutIsGood tags o → LayoutIsGood tags' (cond b (Some Unfinished) o)
unfinished_good tags tags' true o p g = tt
unfinished_good tags tags' false o p g = layout_later tags tags' p o g

-- while a tag's members are declared, the tags are good
pub begun_good : (tags : Tags) → TagsAreGood tags → (name : List ℕ) → meaning tags name ≡ None → TagsAreGood ((name, Unfinished) ∷ tags)
begun_good tags h name fresh = record { at = λ other. unfinished_good tags ((name, Unfinished) ∷ tags) (bytes_eq other name) (meaning tags other) (begins tags name Unfinished fresh) (h.at other) }

closed_at : (tags tags' : Tags) (ms : List (List ℕ × CType)) (words : ℕ) (b : Bool) (o : Option Layout) → Persists tags tags' → LayoutIsGood tags o → MembersAreGood tags' ms words → LayoutIsGood tags' (cond b (Some (Members ms words)) o)
closed_at tags tags' ms words true o p g m = m
closed_at tags tags' ms words false o p g m = layout_later tags tags' p o g

closed_good : (tags : Tags) → TagsAreGood tags → (name : List ℕ) → meaning tags name ≡ None → (ms : List (List ℕ × CType)) (words : ℕ) → MembersAreGood ((name, Members ms words) ∷ tags) ms words → TagsAreGood ((name, Members ms words) ∷ tags)
closed_good tags h name fresh ms words m =
    record { at = λ other. closed_at tags ((name, Members ms words) ∷ tags) ms words (bytes_eq other name) (meaning tags other) (begins tags name (Members ms words) fresh) (h.at other) m }

-- ---- members

appended_good : (tags : Tags) (ms : List (List ℕ × CType)) (m : List ℕ × CType) → EachIsGood tags ms → IsGood tags m.1 → EachIsGood tags (ms ++ m ∷ [])
appended_good tags [] m g h = (h, tt)
appended_good tags (x ∷ ms) m g h = (g.0, appended_good tags ms m g.1 h)

appended_object : (tags : Tags) (ms : List (List ℕ × CType)) (m : List ℕ × CType) → EachIsObject tags ms → is_object_type tags m.1 ≡ true → EachIsObject tags (ms ++ m ∷ [])
appended_object tags [] m g h = (h, tt)
appended_object tags (x ∷ ms) m g h = (g.0, appended_object tags ms m g.1 h)

appended_words : (tags : Tags) (ms : List (List ℕ × CType)) (m : List ℕ × CType) → words_of_members tags (ms ++ m ∷ []) ≡ words_of_members tags ms + words_of tags m.1
appended_words tags [] m = omega arith
appended_words tags (x ∷ ms) m = let r = appended_words tags ms m in omega (arith, r)

-- a member is an object of a good type
abbrev IsMember : Tags → List ℕ × CType → Type 0
IsMember tags m = IsGood tags m.1 × (is_object_type tags m.1 ≡ true)

member_good : (s : Scope) (before : List (List ℕ × CType)) (d : CDecl) → of_type (wide_types s.tags) (written s d.pos d.ty) ≡ 0 → IfOk (IsMember s.tags) (member s before d)
member_good s before d w =
    after_ok (λ t. IsMember s.tags (d.name, t)) (IsMember s.tags) (after (written s d.pos d.ty) (λ t. object_type s d.pos t))
    (λ t. keeping ((option_map_or (λ _. false) (meaning before d.name) true, fault.Twice d.pos) ∷ (is_none d.first, fault.Mismatch d.pos) ∷ []) (d.name, t))
    (after_ok (IsGood s.tags) (λ t. IsMember s.tags (d.name, t)) (written s d.pos d.ty) (λ t. object_type s d.pos t) (good_written s d.pos d.ty w)
    (λ t _ g. keeping_one (λ u. IsMember s.tags (d.name, u)) (is_object_type s.tags t) (fault.Mismatch d.pos) t (λ o. (g, o))))
    (λ t _ g. keeping_two (IsMember s.tags) (option_map_or (λ _. false) (meaning before d.name) true) (fault.Twice d.pos) (is_none d.first) (fault.Mismatch d.pos) (d.name, t) (λ _ _. g))

-- members so far, of at least so many words
pub record SoFar (tags : Tags) (least : ℕ) (ms : List (List ℕ × CType)) : Type 0 where
  pub good : EachIsGood tags ms
  pub objects : EachIsObject tags ms
  pub words : least ≤ words_of_members tags ms

one_more : (tags : Tags) → TagsAreGood tags → (least : ℕ) (before : List (List ℕ × CType)) (m : List ℕ × CType) → SoFar tags least before → IsMember tags m → SoFar tags (suc least) (before ++ m ∷ [])
one_more tags h least before m g k =
    let e = appended_words tags before m in let o = object_words tags h m.1 k.1 in let w = g.words in
    record { good = appended_good tags before m g.good k.0; objects = appended_object tags before m g.objects k.1; words = omega (arith, e, o, w) }

-- at least one word for each member
abbrev count : List CDecl → ℕ
count [] = zero
count (d ∷ ds) = suc (count ds)

abbrev pub sums_before : (s : Scope) → List CDecl → Type 0
sums_before s ds = IsLight (members_sum weighing s ds) (members_sum widening s ds)

members_known : (s : Scope) → TagsAreGood s.tags → (least : ℕ) (before : List (List ℕ × CType)) (ds : List CDecl) → sums_before s ds → SoFar s.tags least before → IfOk (SoFar s.tags (least + count ds)) (members s before ds)
members_known s h least before [] l g = record { good = g.good; objects = g.objects; words = let w = g.words in omega (arith, w) }
members_known s h least before (d ∷ ds) l g =
    by_member (member s before d) (member_good s before d (last _ _ _ _ (first _ _ _ _ l)).wide_is) (λ m k. members_known s h (suc least) (before ++ m ∷ []) ds (last _ _ _ _ l) (one_more s.tags h least before m g k))
  where
    more_words : (ms : List (List ℕ × CType)) → SoFar s.tags (suc least + count ds) ms → SoFar s.tags (least + suc (count ds)) ms
    more_words ms g = let w = g.words in record { good = g.good; objects = g.objects; words = omega (arith, w) }

    last_of : (m : List ℕ × CType) (q : Judged (List (List ℕ × CType))) → IfOk (SoFar s.tags (suc least + count ds)) q → IfOk (SoFar s.tags (least + suc (count ds))) (both (Ok m) q (λ _ ms. Ok ms))
    last_of m (Ok ms) g = more_words ms g
    last_of m (Err e) g = tt

    none_of : (e : TypeFault) (q : Judged (List (List ℕ × CType))) → IfOk (SoFar s.tags (least + suc (count ds))) (both {A = List ℕ × CType} (Err e) q (λ _ ms. Ok ms))
    none_of e (Ok ms) = tt
    none_of e (Err d) = tt

    by_member : (r : Judged (List ℕ × CType)) → IfOk (IsMember s.tags) r → ((m : List ℕ × CType) → IsMember s.tags m → IfOk (SoFar s.tags (suc least + count ds)) (members s (before ++ m ∷ []) ds))
        → IfOk (SoFar s.tags (least + suc (count ds))) (both r (members s (members_or before r) ds) (λ _ ms. Ok ms))
    by_member (Ok m) k f = last_of m (members s (before ++ m ∷ []) ds) (f m k)
    by_member (Err e) k f = none_of e (members s before ds)

counted_some : (ds : List CDecl) → some_members ds ≡ true → 0 < count ds
counted_some [] h = absurd cc
counted_some (d ∷ ds) h = omega arith

no_tag : (o : Option Layout) → not (option_map_or (λ _. true) o false) ≡ true → o ≡ None
no_tag None h = refl
no_tag (Some l) h = absurd cc

own_words : (tags : Tags) (name : List ℕ) (ms : List (List ℕ × CType)) (words : ℕ) → words_of ((name, Members ms words) ∷ tags) (type.Struct name) ≡ words
own_words tags name ms words = by_test (bytes_eq name name) ((bytes_eq-Decides name name).1 refl)
  where
    by_test : (b : Bool) → b ≡ true → layout_words (cond b (Some (Members ms words)) (meaning tags name)) ≡ words
    by_test true e = refl
    by_test false e = absurd cc

lazily : {A : Type 0} (X : Type 0) (G : A → Type 0) (r : Judged A) → (X → IfOk G r) → IfOk (λ a. X → G a) r
lazily X G (Ok a) f = f
lazily X G (Err e) f = tt

abbrev begun : Scope → CTag → Scope
begun s tag = with_tag s tag.name Unfinished

abbrev closed : Scope → CTag → List (List ℕ × CType) → Scope
closed s tag ms = with_tag s tag.name (Members ms (words_of_members (begun s tag).tags ms))

-- a scope is that behind a tag of these members
record IsClosed (s : Scope) (tag : CTag) (x : Scope) : Type 0 where
  ms : List (List ℕ × CType)
  is : x ≡ closed s tag ms
  fresh : meaning s.tags tag.name ≡ None
  known : SoFar (begun s tag).tags (count tag.members) ms
  some : 0 < count tag.members

tag_closed : (s : Scope) → ScopeIsGood s → (tag : CTag) → sums_before (begun s tag) tag.members → IfOk (IsClosed s tag) (tag_declared s tag)
tag_closed s h tag l =
    after_ok (λ ms. meaning s.tags tag.name ≡ None → SoFar (begun s tag).tags (count tag.members) ms) (IsClosed s tag) (members (begun s tag) [] tag.members)
    (λ ms. keeping ((not (is_tag s tag.name), fault.Twice tag.pos) ∷ (some_members tag.members, fault.Mismatch tag.pos) ∷ []) (closed s tag ms))
    (lazily (meaning s.tags tag.name ≡ None) (SoFar (begun s tag).tags (count tag.members)) (members (begun s tag) [] tag.members) (λ fresh.
    members_counted (members_known (begun s tag) (begun_good s.tags h.tags tag.name fresh) zero [] tag.members l (record { good = tt; objects = tt; words = omega arith }))))
    (λ ms _ g. keeping_two (IsClosed s tag) (not (is_tag s tag.name)) (fault.Twice tag.pos) (some_members tag.members) (fault.Mismatch tag.pos) (closed s tag ms)
    (λ f m. let fresh = no_tag (meaning s.tags tag.name) f in record { ms = ms; is = refl; fresh = fresh; known = g fresh; some = counted_some tag.members m }))
  where
    members_counted : IfOk (SoFar (begun s tag).tags (zero + count tag.members)) (members (begun s tag) [] tag.members) → IfOk (SoFar (begun s tag).tags (count tag.members)) (members (begun s tag) [] tag.members)
    members_counted g = let e : zero + count tag.members ≡ count tag.members = omega arith in subst (λ n. IfOk (SoFar (begun s tag).tags n) (members (begun s tag) [] tag.members)) e g

closed_scope : (s : Scope) → ScopeIsGood s → (tag : CTag) (x : Scope) → IsClosed s tag x → wide_types x.tags (type.Struct tag.name) ≡ 0 → ScopeIsGood x
closed_scope s h tag x k w =
    let words = words_of_members (begun s tag).tags k.ms in
    let tags' = (closed s tag k.ms).tags in
    let over : is_over (words_of tags' (type.Struct tag.name)) ≡ 0 = subst (λ z. wide_types z.tags (type.Struct tag.name) ≡ 0) k.is w in
    let few : words ≤ most_words = subst (λ n. n ≤ most_words) (own_words s.tags tag.name k.ms words) (short (words_of tags' (type.Struct tag.name)) over) in
    let p : Persists (begun s tag).tags tags' = closes s.tags tag.name (Members k.ms words) in
    let least = k.known.words in let some = k.some in
    let m : MembersAreGood tags' k.ms words = record {
      sum = sum_later (begun s tag).tags tags' p k.ms k.known.objects;
      short = few;
      some = omega (arith, least, some);
      types = each_good_later (begun s tag).tags tags' p k.ms k.known.good;
      objects = each_object_later (begun s tag).tags tags' p k.ms k.known.objects;
    } in
    subst (λ z. ScopeIsGood z) (sym k.is) (record {
      tags = closed_good s.tags h.tags tag.name k.fresh k.ms words m;
      names = λ name. entity_later s.tags tags' (begins s.tags tag.name (Members k.ms words) k.fresh) (entity_of s name) (h.names name);
    })

with_answer : {A : Type 0} (G H : A → Type 0) (r : Judged A) → IfOk G r → ((a : A) → r ≡ Ok a → G a → H a) → IfOk H r
with_answer G H (Ok a) g f = f a refl g
with_answer G H (Err e) g f = tt

-- the scope behind a tag is good
pub tag_known : (s : Scope) → ScopeIsGood s → (tag : CTag) → sums_before (begun s tag) tag.members → wide_types (scope_or s (tag_declared s tag)).tags (type.Struct tag.name) ≡ 0 → IfOk ScopeIsGood (tag_declared s tag)
tag_known s h tag l w =
    with_answer (IsClosed s tag) ScopeIsGood (tag_declared s tag) (tag_closed s h tag l)
    (λ x j k. closed_scope s h tag x k (subst (λ r. wide_types (scope_or s r).tags (type.Struct tag.name) ≡ 0) j w))
