-- Kinds of cells, piece by piece.
use Rattle.std.proofs.Common.{◌≡◌, ◌≤◌, ℕ, zero, suc, List, [], ◌∷◌, ◌++◌, Option, Some, None, refl, sym, ap, subst, ◌∙◌, append_assoc, arith, replicate, length}
use Rattle.std.specs.Prelude.{slice_get}
use Rattle.std.specs.List.{flat_map}
use Rattle.std.proofs.lemmas.List.{append-nil}
use Rattle.c_types.specs.Types as types
use Rattle.c_types.specs.Types.{CType, Tags}
use Rattle.c_types.specs.Declarations as plain
use Rattle.c_types.specs.Declarations.{first_slot, next_slots, capacity}
use Rattle.c_types.specs.declared.shape.Shape.{Shape}
use Rattle.c_types.specs.declared.shape.Shape.TheVariants as shape
use Rattle.c_types.specs.Known.{Known, OneType, TypeList, of_type, with_list, of_both, says}
use Rattle.c_layouts.specs.Layouts.{array_parts, tag_of}
use Rattle.c_eval.specs.Memory as memory
use Rattle.c_eval.specs.Environment.{cell_kinds, slot_kinds}
use Rattle.c_types.specs.Table.{Table, HasType}
use Rattle.c_layouts.specs.declared.layout.Layout.{Layout}
use Rattle.c_declared.specs.declared.slots.Slots.TheVariants as rust
use Rattle.c_declared.specs.Slots.{Entries, IsTypeOrNone, AreTypes, AreSlots, entries_at, behind}

-- ---- types by their shapes

some_type : (t u : CType) → Some (OneType t) ≡ Some (OneType u) → t ≡ u
some_type t u e = cc

some_pair : (p q : ℕ × ℕ) → Some p ≡ Some q → p ≡ q
some_pair p q e = cc

element_is : (o : Option Known) (n : ℕ) (t : CType) → of_type o (λ u. types.Array u n) ≡ Some (OneType t) → (u : CType) × (t ≡ types.Array u n) × (o ≡ Some (OneType u))
element_is (Some (OneType u)) n t h = (u, sym (some_type (types.Array u n) t h), refl)
element_is (Some (TypeList us)) n t h = absurd cc
element_is None n t h = absurd cc

-- an array's type is made of that of its elements
pub array_is : (tags : List (List ℕ)) (known : List Known) (s : Shape) (of n : ℕ) (t : CType) → array_parts s ≡ Some (of, n) → says tags known s ≡ Some (OneType t) → (u : CType) × (t ≡ types.Array u n) × (slice_get known of ≡ Some (OneType u))
array_is tags known (shape.Array m k) of n t e h =
    let same = some_pair (m, k) (of, n) e in
    let p = element_is (slice_get known m) k t h in
    (p.0, p.1 ∙ ap (λ (i : ℕ). types.Array p.0 i) (ap (λ (q : ℕ × ℕ). q.1) same), ap (slice_get known) (sym (ap (λ (q : ℕ × ℕ). q.0) same)) ∙ p.2)
array_is tags known shape.Void of n t e h = absurd cc
array_is tags known _ of n t e h = absurd cc

pointer_to : (o : Option Known) (t : CType) → of_type o (λ u. types.Pointer u) ≡ Some (OneType t) → (u : CType) × (t ≡ types.Pointer u)
pointer_to (Some (OneType u)) t h = (u, sym (some_type (types.Pointer u) t h))
pointer_to (Some (TypeList us)) t h = absurd cc
pointer_to None t h = absurd cc

function_by : (u : CType) (b : Option Known) (t : CType) → with_list u b (λ v vs. OneType (types.Function v vs)) ≡ Some (OneType t) → (us : types.CTypes) × (t ≡ types.Function u us)
function_by u (Some (TypeList us)) t h = (us, sym (some_type (types.Function u us) t h))
function_by u (Some (OneType v)) t h = absurd cc
function_by u None t h = absurd cc

function_of : (a b : Option Known) (t : CType) → of_both a b (λ u us. OneType (types.Function u us)) ≡ Some (OneType t) → (u : CType) × (us : types.CTypes) × (t ≡ types.Function u us)
function_of (Some (OneType u)) b t h = let p = function_by u b t h in (u, p.0, p.1)
function_of (Some (TypeList us)) b t h = absurd cc
function_of None b t h = absurd cc

no_list : (u : CType) (b : Option Known) (t : CType) → with_list u b (λ v vs. TypeList (types.MoreType v vs)) ≡ Some (OneType t) → ⊥
no_list u (Some (TypeList us)) t h = cc
no_list u (Some (OneType v)) t h = cc
no_list u None t h = cc

no_lists : (a b : Option Known) (t : CType) → of_both a b (λ u us. TypeList (types.MoreType u us)) ≡ Some (OneType t) → ⊥
no_lists (Some (OneType u)) b t h = no_list u b t h
no_lists (Some (TypeList us)) b t h = cc
no_lists None b t h = cc

abbrev IsSingle : Tags → CType → Type 0
IsSingle all t = cell_kinds all t ≡ memory.kind_of t ∷ []

-- what is no array and no struct has one cell
pub single : (tags : List (List ℕ)) (known : List Known) (s : Shape) (all : Tags) (t : CType) → array_parts s ≡ None → tag_of s ≡ None → says tags known s ≡ Some (OneType t) → cell_kinds all t ≡ memory.kind_of t ∷ []
single tags known shape.Void all t e f h = subst (IsSingle all) (some_type types.Void t h) refl
single tags known shape.Int all t e f h = subst (IsSingle all) (some_type types.Int t h) refl
single tags known shape.Unsigned all t e f h = subst (IsSingle all) (some_type types.Unsigned t h) refl
single tags known shape.Char all t e f h = subst (IsSingle all) (some_type types.Char t h) refl
single tags known shape.UChar all t e f h = subst (IsSingle all) (some_type types.UChar t h) refl
single tags known shape.Null all t e f h = subst (IsSingle all) (some_type types.Null t h) refl
single tags known (shape.Struct n) all t e f h = absurd cc
single tags known (shape.Pointer n) all t e f h = let p = pointer_to (slice_get known n) t h in subst (IsSingle all) (sym p.1) refl
single tags known (shape.Array m n) all t e f h = absurd cc
single tags known (shape.Function m n) all t e f h = let p = function_of (slice_get known m) (slice_get known n) t h in subst (IsSingle all) (sym p.2) refl
single tags known shape.NoType all t e f h = absurd cc
single tags known (shape.MoreType m n) all t e f h = absurd (no_lists (slice_get known m) (slice_get known n) t h)

-- ---- several objects

-- one more at the end
pub repeated_more : {A : Type 0} (n : ℕ) (xs : List A) → flat_map (λ x. x) (replicate (suc n) xs) ≡ flat_map (λ x. x) (replicate n xs) ++ xs
repeated_more zero xs = append-nil xs
repeated_more (suc n) xs = ap (λ l. xs ++ l) (repeated_more n xs) ∙ sym (append_assoc xs (flat_map (λ x. x) (replicate n xs)) xs)

-- ---- what a braced list leaves

slots_first : (tags : Tags) (s : plain.Slots) (t : CType) → first_slot s ≡ Some t → slot_kinds tags s ≡ cell_kinds tags t ++ slot_kinds tags (next_slots s)
slots_first tags (plain.Elements u zero) t h = absurd cc
slots_first tags (plain.Elements u (suc n)) t h = let same : u ≡ t = cc in ap (λ x. cell_kinds tags x ++ slot_kinds tags (plain.Elements u n)) same
slots_first tags (plain.Fields []) t h = absurd cc
slots_first tags (plain.Fields (u ∷ ts)) t h = let same : u ≡ t = cc in ap (λ x. cell_kinds tags x ++ slot_kinds tags (plain.Fields ts)) same
slots_first tags plain.Nothing t h = absurd cc

slots_none : (tags : Tags) (s : plain.Slots) → first_slot s ≡ None → (slot_kinds tags s ≡ []) × (slot_kinds tags (next_slots s) ≡ [])
slots_none tags (plain.Elements u zero) h = (refl, refl)
slots_none tags (plain.Elements u (suc n)) h = absurd cc
slots_none tags (plain.Fields []) h = (refl, refl)
slots_none tags (plain.Fields (u ∷ ts)) h = absurd cc
slots_none tags plain.Nothing h = (refl, refl)

pub next_behind : (k : ℕ) (s : plain.Slots) → next_slots (behind k s) ≡ behind (suc k) s
next_behind zero s = refl
next_behind (suc k) s = next_behind k (next_slots s)

none_over : (s : plain.Slots) (k : ℕ) → capacity s ≤ suc k → capacity (next_slots s) ≤ k
none_over (plain.Elements u zero) k h = omega arith
none_over (plain.Elements u (suc n)) k h = omega arith
none_over (plain.Fields []) k h = omega arith
none_over (plain.Fields (u ∷ ts)) k h = omega arith
none_over plain.Nothing k h = omega arith

-- where there is room for no more
pub none_left : (tags : Tags) (k : ℕ) (s : plain.Slots) → capacity s ≤ k → slot_kinds tags (behind k s) ≡ []
none_left tags zero (plain.Elements u zero) h = refl
none_left tags zero (plain.Elements u (suc n)) h = absurd (omega arith)
none_left tags zero (plain.Fields []) h = refl
none_left tags zero (plain.Fields (u ∷ ts)) h = absurd (omega arith)
none_left tags zero plain.Nothing h = refl
none_left tags (suc k) s h = none_left tags k (next_slots s) (none_over s k h)

-- the kinds so far, and those of what is left, are those of all
pub record IsGoing (tags : Tags) (s : plain.Slots) (from k : ℕ) (old now : List memory.Kind) : Type 0 where
  pub kinds : List memory.Kind
  pub behind_old : now ≡ old ++ kinds
  pub whole : slot_kinds tags (behind from s) ≡ kinds ++ slot_kinds tags (behind k s)

pub going_begun : (tags : Tags) (s : plain.Slots) (from : ℕ) (old : List memory.Kind) → IsGoing tags s from from old old
going_begun tags s from old = record { kinds = []; behind_old = sym (append-nil old); whole = refl }

pub goes_on : (tags : Tags) (s : plain.Slots) (from k : ℕ) (old now new : List memory.Kind) (t : CType) → IsGoing tags s from k old now → first_slot (behind k s) ≡ Some t → new ≡ now ++ cell_kinds tags t → IsGoing tags s from (suc k) old new
goes_on tags s from k old now new t g e more = record {
  kinds = g.kinds ++ cell_kinds tags t;
  behind_old = more ∙ ap (λ l. l ++ cell_kinds tags t) g.behind_old ∙ append_assoc old g.kinds (cell_kinds tags t);
  whole =
      g.whole ∙ ap (λ l. g.kinds ++ l) (slots_first tags (behind k s) t e ∙ ap (λ r. cell_kinds tags t ++ slot_kinds tags r) (next_behind k s))
      ∙ sym (append_assoc g.kinds (cell_kinds tags t) (slot_kinds tags (behind (suc k) s)));
}

pub goes_past : (tags : Tags) (s : plain.Slots) (from k : ℕ) (old now : List memory.Kind) → IsGoing tags s from k old now → first_slot (behind k s) ≡ None → IsGoing tags s from (suc k) old now
goes_past tags s from k old now g e =
    let p = slots_none tags (behind k s) e in
    record { kinds = g.kinds; behind_old = g.behind_old; whole = g.whole ∙ ap (λ l. g.kinds ++ l) (p.0 ∙ sym p.1 ∙ ap (slot_kinds tags) (next_behind k s)) }

pub going_done : (tags : Tags) (s : plain.Slots) (from k : ℕ) (old now : List memory.Kind) → IsGoing tags s from k old now → capacity s ≤ k → now ≡ old ++ slot_kinds tags (behind from s)
going_done tags s from k old now g past =
    g.behind_old ∙ ap (λ l. old ++ l) (sym (g.whole ∙ ap (λ l. g.kinds ++ l) (none_left tags k s past) ∙ append-nil g.kinds))

-- ---- members

types_counted : (table : Table) (entries : Entries) (ts : List CType) → AreTypes table entries ts → length entries ≡ length ts
types_counted table [] [] h = refl
types_counted table (e ∷ entries) (t ∷ ts) h = ap suc (types_counted table entries ts h.1)
types_counted table [] (t ∷ ts) h = absurd h
types_counted table (e ∷ entries) [] h = absurd h

-- a tag's values stand for its members
pub members_counted : (table : Table) (layouts : List Layout) (tag : ℕ) (s : plain.Slots) → AreSlots table layouts (rust.Members tag) s → length (entries_at layouts tag) ≡ capacity s
members_counted table layouts tag (plain.Fields ts) h = types_counted table (entries_at layouts tag) ts h
members_counted table layouts tag (plain.Elements t n) h = absurd h
members_counted table layouts tag plain.Nothing h = absurd h

-- the type that a value stands for
pub slot_is : (table : Table) (o : Option ℕ) (ty : ℕ) (t : Option CType) → o ≡ Some ty → IsTypeOrNone table o t → (u : CType) × (t ≡ Some u) × HasType table ty u
slot_is table o ty t e h = by t (subst (λ (k : Option ℕ). IsTypeOrNone table k t) e h) where
  by : (t : Option CType) → IsTypeOrNone table (Some ty) t → (u : CType) × (t ≡ Some u) × HasType table ty u
  by (Some u) g = (u, refl, g)
  by None g = absurd g

pub no_slot : (table : Table) (o : Option ℕ) (t : Option CType) → o ≡ None → IsTypeOrNone table o t → t ≡ None
no_slot table o t e h = by t (subst (λ (k : Option ℕ). IsTypeOrNone table k t) e h) where
  by : (t : Option CType) → IsTypeOrNone table None t → t ≡ None
  by None g = refl
  by (Some u) g = absurd g
