-- Members, found and added.
use Rattle.std.proofs.Common.{◌≡◌, ℕ, ◌+◌, Bool, true, false, List, [], ◌∷◌, ◌++◌, length, Option, Some, None, refl, sym, ap, subst, ◌∙◌, if◌then◌else◌, arith}
use Rattle.std.specs.Prelude.{Result, Ok, Err, slice_get, is_some, is_none, not}
use Rattle.std.specs.Option.{option_map_or}
use Rattle.std.specs.Map.{lookup}
use Rattle.std.specs.Str.{bytes_eq}
use denote.Ref.{Bor}
use Rattle.ordered.specs.Order.{insert_entry}
use Rattle.c_syntax.specs.Plain.{CDecl}
use Rattle.c_syntax.specs.View.{maybe_value}
use Rattle.c_syntax.specs.declared.tree.Value.{Value}
use Rattle.c_syntax.specs.Words.{meaning}
use Rattle.c_types.specs.declared.fault.TypeFault.{TypeFault}
use Rattle.c_types.specs.declared.fault.TypeFault.TheVariants as fault
use Rattle.c_types.specs.Types as types
use Rattle.c_types.specs.Types.{CType, Tags, words_of}
use Rattle.c_types.specs.Refusals.{Judged, Rule, broken, keeping}
use Rattle.c_types.specs.Declarations.{members_or, words_of_members}
use Rattle.c_types.specs.Known.{Known, OneType, Grows}
use Rattle.c_types.specs.declared.words.Words.{Words}
use Rattle.c_types.specs.Seen.{Counts}
use Rattle.c_layouts.specs.declared.layout.Layout.TheVariants as layout
use Rattle.c_layouts.specs.Layouts.{IsMember}
use Rattle.c_operands.specs.Arguments.{merged}
use Rattle.c_operands.proofs.LeastLemmas.{broken_first}
use Rattle.c_declared.specs.Slots.{Entries, AreListed}
use Rattle.c_declared.proofs.HeldLemmas.{members_kept}
use Rattle.c_declarations.specs.declared.members.Members.{Members}
use Rattle.c_declarations.specs.Members.{AreSoFar, IsClosed, member_rules, member_of}

-- ---- members by name

abbrev pub found : List ℕ → Entries → Option ℕ
found name entries = lookup (λ k. bytes_eq name k.now) entries

by_name : (all : List Known) (b : Bool) (n : ℕ) (t : CType) (rest : Option ℕ) (others : Option CType) → slice_get all n ≡ Some (OneType t) → IsMember all rest others
    → IsMember all (if b then Some n else rest) (if b then Some t else others)
by_name all true n t rest others h g = h
by_name all false n t rest others h g = g

pub listed_found : (all : List Known) (entries : Entries) (members : List (List ℕ × CType)) (name : List ℕ) → AreListed all entries members → IsMember all (found name entries) (meaning members name)
listed_found all [] [] name h = refl
listed_found all (e ∷ entries) (m ∷ members) name h =
    subst (λ (k : List ℕ). IsMember all (found name (e ∷ entries)) (if bytes_eq name k then Some m.1 else meaning members name)) h.0
    (by_name all (bytes_eq name e.0.now) e.1 m.1 (found name entries) (meaning members name) h.1 (listed_found all entries members name h.2))
listed_found all [] (m ∷ members) name h = absurd h
listed_found all (e ∷ entries) [] name h = absurd h

new_there : (all : List Known) (a : Option ℕ) (b : Option CType) → IsMember all a b → not (is_some a) ≡ option_map_or (λ _. false) b true
new_there all None None h = refl
new_there all None (Some t) h = absurd cc
new_there all (Some n) (Some t) h = refl
new_there all (Some n) None h = absurd h

pub new_name : (all : List Known) (entries : Entries) (members : List (List ℕ × CType)) (name : List ℕ) (b : Bool) → AreListed all entries members → b ≡ is_some (found name entries)
    → not b ≡ option_map_or (λ _. false) (meaning members name) true
new_name all entries members name b h e = ap not e ∙ new_there all (found name entries) (meaning members name) (listed_found all entries members name h)

-- ---- a member more

pub listed_more : (all : List Known) (entries : Entries) (members : List (List ℕ × CType)) (k : Bor (List ℕ)) (n : ℕ) (t : CType) → AreListed all entries members → slice_get all n ≡ Some (OneType t)
    → AreListed all (entries ++ (k, n) ∷ []) (members ++ (k.now, t) ∷ [])
listed_more all [] [] k n t h is = (refl, is, tt)
listed_more all (e ∷ entries) (m ∷ members) k n t h is = (h.0, h.1, listed_more all entries members k n t h.2 is)
listed_more all [] (m ∷ members) k n t h is = absurd h
listed_more all (e ∷ entries) [] k n t h is = absurd h

-- a key that isn't there goes last
pub inserted_last : (entries : Entries) (k : Bor (List ℕ)) (n : ℕ) → found k.now entries ≡ None → insert_entry (λ x y. bytes_eq x.now y.now) entries k n ≡ entries ++ (k, n) ∷ []
inserted_last [] k n h = refl
inserted_last (e ∷ entries) k n h = by (bytes_eq k.now e.0.now) h (inserted_last entries k n) where
  by : (b : Bool) → (if b then Some e.1 else found k.now entries) ≡ None → (found k.now entries ≡ None → insert_entry (λ x y. bytes_eq x.now y.now) entries k n ≡ entries ++ (k, n) ∷ [])
      → (if b then (e.0, n) ∷ entries else e ∷ insert_entry (λ x y. bytes_eq x.now y.now) entries k n) ≡ e ∷ (entries ++ (k, n) ∷ [])
  by true g rest = absurd cc
  by false g rest = ap (λ l. e ∷ l) (rest g)

more_words : (tags : Tags) (members : List (List ℕ × CType)) (m : List ℕ × CType) → words_of_members tags members + words_of tags m.1 ≡ words_of_members tags (members ++ m ∷ [])
more_words tags [] m = omega arith
more_words tags (x ∷ members) m = let rest = more_words tags members m in omega (arith, rest)

none_found : (o : Option ℕ) → is_some o ≡ false → o ≡ None
none_found None h = refl
none_found (Some n) h = absurd cc

not_true : (b : Bool) → not b ≡ true → b ≡ false
not_true false h = refl
not_true true h = absurd cc

first_kept : (b : Bool) (e : TypeFault) (rules : List Rule) → broken ((b, e) ∷ rules) ≡ None → b ≡ true
first_kept true e rules h = refl
first_kept false e rules h = absurd cc

kept_or : (before : List (List ℕ × CType)) (x : List ℕ × CType) (o : Option TypeFault) → o ≡ None → members_or before (option_map_or (λ e. Err e) o (Ok x)) ≡ before ++ x ∷ []
kept_or before x None h = refl
kept_or before x (Some e) h = absurd cc

none_is : (o : Option TypeFault) → is_none o ≡ true → o ≡ None
none_is None h = refl
none_is (Some e) h = absurd cc

-- a member that keeps its rules is added
pub one_member : (all : List Known) (tags : Tags) (old new : Members) (before : List (List ℕ × CType)) (d : CDecl) (k : Bor (List ℕ)) (n : ℕ) (t : CType) (w : Words) (r : Option TypeFault)
    → AreSoFar all tags old before → r ≡ broken (member_rules before d) → is_none r ≡ true → k.now ≡ d.name → slice_get all n ≡ Some (OneType t)
    → new.entries.entries ≡ insert_entry (λ x y. bytes_eq x.now y.now) old.entries.entries k n
    → Counts new.words (words_of_members tags before + words_of tags t)
    → AreSoFar all tags new (members_or before (member_of before d t))
one_member all tags old new before d k n t w r h is none same ty made counts =
    let kept : broken (member_rules before d) ≡ None = sym is ∙ none_is r none in
    let fresh = first_kept (option_map_or (λ _. false) (meaning before d.name) true) (fault.Twice d.pos) ((is_none d.first, fault.Mismatch d.pos) ∷ []) kept in
    let absent : found k.now old.entries.entries ≡ None =
    subst (λ (name : List ℕ). found name old.entries.entries ≡ None) (sym same)
    (none_found (found d.name old.entries.entries) (not_true (is_some (found d.name old.entries.entries)) (new_name all old.entries.entries before d.name (is_some (found d.name old.entries.entries)) h.listed refl ∙ fresh))) in
    let whole : members_or before (member_of before d t) ≡ before ++ (d.name, t) ∷ [] = kept_or before (d.name, t) (broken (member_rules before d)) kept in
    subst (AreSoFar all tags new) (sym whole) (record {
      listed =
          subst (λ (l : Entries). AreListed all l (before ++ (d.name, t) ∷ [])) (sym (made ∙ inserted_last old.entries.entries k n absent))
          (subst (λ (name : List ℕ). AreListed all (old.entries.entries ++ (k, n) ∷ []) (before ++ (name, t) ∷ [])) same (listed_more all old.entries.entries before k n t h.listed ty));
      counts = subst (Counts new.words) (more_words tags before (d.name, t)) counts;
    })

pub so_far_kept : (old new : List Known) (tags : Tags) (m : Members) (before : List (List ℕ × CType)) → Grows old new → AreSoFar old tags m before → AreSoFar new tags m before
so_far_kept old new tags m before grows h = record { listed = members_kept old new m.entries.entries before grows h.listed; counts = h.counts }

-- the rules of a member, the first one by its name
pub member_told : (before : List (List ℕ × CType)) (d : CDecl) (new plain : Bool) (at : ℕ) (a b r : Option TypeFault) → a ≡ broken ((new, fault.Twice at) ∷ []) → b ≡ broken ((plain, fault.Mismatch at) ∷ [])
    → r ≡ merged a b → new ≡ option_map_or (λ _. false) (meaning before d.name) true → plain ≡ is_none d.first → at ≡ d.pos → r ≡ broken (member_rules before d)
member_told before d new plain at a b r f g h e p q =
    h ∙ (ap (λ (o : Option TypeFault). merged o b) f
    ∙ (ap (λ (o : Option TypeFault). merged (broken ((new, fault.Twice at) ∷ [])) o) g
    ∙ (sym (broken_first new (fault.Twice at) ((plain, fault.Mismatch at) ∷ []))
    ∙ (ap (λ (x : Bool). broken ((x, fault.Twice at) ∷ (plain, fault.Mismatch at) ∷ [])) e
    ∙ (ap (λ (x : Bool). broken ((option_map_or (λ _. false) (meaning before d.name) true, fault.Twice at) ∷ (x, fault.Mismatch at) ∷ [])) p
    ∙ ap (λ (n : ℕ). broken ((option_map_or (λ _. false) (meaning before d.name) true, fault.Twice n) ∷ (is_none d.first, fault.Mismatch n) ∷ [])) q)))))

-- no first value in the code is none in the tree
pub none_view : (o : Option Value) → is_none o ≡ is_none (maybe_value o)
none_view None = refl
none_view (Some v) = refl

pub none_by : {X : Type 0} (o : Option X) (b : Bool) → is_some o ≡ not b → b ≡ is_none o
none_by (Some x) false e = refl
none_by (Some x) true e = absurd cc
none_by None true e = refl
none_by None false e = absurd cc

-- members that are closed
pub all_closed : (all : List Known) (tags : Tags) (m : Members) (before : List (List ℕ × CType)) → AreSoFar all tags m before → IsClosed all tags (layout.Members m.entries m.words) before
all_closed all tags m before h = record {
  is = record {
    members = before;
    count = words_of_members tags before;
    is = refl;
    found = λ name. listed_found all m.entries.entries before name h.listed;
    counts = h.counts;
  };
  listed = h.listed;
}
