-- The objects of a typed text's file scope begin with valid values, and not too many.
use Rattle.std.proofs.Common.{◌≡◌, ℕ, zero, suc, ◌+◌, ◌-◌, ◌*◌, ◌≤◌, ◌⊎◌, inl, inr, List, [], ◌∷◌, ◌++◌, length, map, replicate, Option, Some, None, Bool, true, false, nat_le, nat_lt, refl, sym, ap, ◌∙◌, subst, arith, length-append, cond}
use Rattle.std.specs.Prelude.{◌&&◌, not, is_none, is_some, Ok, Err, if◌then◌else◌}
use Rattle.std.specs.List.{flat_map}
use Rattle.std.specs.Option.{option_map_or}
use Rattle.std.specs.Str.{bytes_eq}
use Rattle.std.proofs.lemmas.Bool.{and_parts, leb-true}
use Rattle.std.proofs.lemmas.List.{length-map, length-replicate}
use Rattle.c_syntax.specs.Plain as plain
use Rattle.c_syntax.specs.Plain.{CExpr, CValue, CValues, CDecl, CTag, CItem}
use Rattle.c_syntax.specs.declared.tree.UnOp.TheVariants as unary
use Rattle.c_syntax.specs.Words.{meaning}
use Rattle.c_types.specs.declared.fault.TypeFault.{TypeFault}
use Rattle.c_types.specs.declared.fault.TypeFault.TheVariants as fault
use Rattle.c_types.specs.Types as type
use Rattle.c_types.specs.Types.{CType, Layout, Unfinished, Members, Tags, layout_words, is_finished, is_character, words_of, is_object_type}
use Rattle.c_types.specs.Refusals.{Judged, Rule, after, both, broken, keeping}
use Rattle.c_types.specs.Scope.{Scope, Entity, Object, entity_of, is_declared_here, with_name}
use Rattle.c_types.specs.Expressions.{written}
use Rattle.c_types.specs.Declarations.{Slots, Elements, Fields, Nothing, first_slot, next_slots, types_of_members, slots_of_struct, slots_of, takes_string, completed, object_type, first_fitting, declared_type, declared_object, declared, scope_or, member, members_or, members, words_of_members, with_tag, is_tag, some_members, tag_declared}
use Rattle.c_types.specs.Units.{type_of, may_declare, with_function, signature, body_scope, around_body, body_judged, declared_function, item_judged, all_items}
use Rattle.c_types.specs.Census.{value_sum, values_sum, first_sum, object_sum, items_sum}
use Rattle.c_types.specs.Limits.{most_words}
use Rattle.c_eval.specs.State as state
use Rattle.c_eval.specs.State.{Value, Cell, Holds}
use Rattle.c_eval.specs.Memory.{Kind, Number, ObjectPointer, FunctionPointer, zero_of, live_object}
use Rattle.c_eval.specs.Operators.{converted}
use Rattle.c_eval.specs.Environment.{type_or_void, cell_kinds, slot_kinds, type_or_nothing, Environment, past_value, past_first, object_type_in}
use Rattle.c_eval.specs.Eval.{array_text}
use Rattle.c_eval.specs.Text.{behind_item, static_pointer, static_value, zero_cells, static_cells, all_static_cells, first_cells, item_objects, file_objects}
use Rattle.c_eval.proofs.Cells.{AllObjects, LaidOut, FitsIn, cells_are_words, fits_in}
use Rattle.c_valid.specs.Valid.{AreBytes, IsValid, CellsAreValid, ObjectIsValid, ObjectsAreValid}
use Rattle.c_valid.specs.Limited.{ExprIsLimited, ValueIsLimited, ValuesAreLimited}
use Rattle.c_valid.proofs.Constants.{constant_in_below}
use Rattle.c_valid.proofs.Operators.{converted_valid}
use Rattle.c_limited.proofs.Good.{Good, Fine, after_fine, both_fine}
use Rattle.c_limited.proofs.Sums.{weight, wide, strange, Within, front, last, value_limited, object_words}

-- ---- values

static_pointer_valid : (name : List ℕ) (x : Option Entity) (o : Option (Option ℕ)) → IsValid (static_pointer name x o)
static_pointer_valid name (Some (Object t)) (Some (Some o)) = omega arith
static_pointer_valid name x o = tt

static_valid : (here : Environment) (e : CExpr) → ExprIsLimited e → IsValid (static_value here e)
static_valid here (plain.Str at text) l = (l, omega arith)
static_valid here (plain.Null at) l = tt
static_valid here (plain.Var at name) l = static_pointer_valid name (entity_of here.scope name) (meaning here.objects name)
static_valid here (plain.Unary at unary.Address (plain.Var pos name)) l = static_pointer_valid name (entity_of here.scope name) (meaning here.objects name)
static_valid here e l = constant_in_below here.scope e

zeros_valid : (kinds : List Kind) → CellsAreValid (zero_cells kinds)
zeros_valid [] = tt
zeros_valid (Number ∷ kinds) = (omega arith, zeros_valid kinds)
zeros_valid (ObjectPointer ∷ kinds) = (tt, zeros_valid kinds)
zeros_valid (FunctionPointer ∷ kinds) = (tt, zeros_valid kinds)

abbrev word_cells : List ℕ → List Cell
word_cells cs = map (λ c. Holds (state.Word c)) cs

zero_words_valid : (n : ℕ) → CellsAreValid (word_cells (replicate n 0))
zero_words_valid zero = tt
zero_words_valid (suc n) = (omega arith, zero_words_valid n)

text_valid : (cs : List ℕ) (n : ℕ) → AreBytes cs → CellsAreValid (word_cells (cs ++ replicate n 0))
text_valid [] n b = zero_words_valid n
text_valid (c ∷ cs) n b = (omega (arith, b.0), text_valid cs n b.1)

append_valid : (xs ys : List Cell) → CellsAreValid xs → CellsAreValid ys → CellsAreValid (xs ++ ys)
append_valid [] ys a b = b
append_valid (x ∷ xs) ys a b = (a.0, append_valid xs ys a.1 b)

-- a string in an array, or one value
string_valid : (t : CType) (e : CExpr) → takes_string t e ≡ true → ExprIsLimited e → CellsAreValid (word_cells (array_text t e))
string_valid (type.Array t n) (plain.Str at text) h l = text_valid text (n - length text) l.0
string_valid (type.Array t n) e h l = absurd (cc h)
string_valid t e h l = absurd (cc h)

mutual
  cells_valid : (v : CValue) (t : CType) (here : Environment) → ValueIsLimited v → CellsAreValid (static_cells v t here)
  cells_valid (plain.One e) t here l = go (takes_string t e) refl
    where
      go : (b : Bool) → takes_string t e ≡ b → CellsAreValid (if b then word_cells (array_text t e) else Holds (converted t (static_value here e)) ∷ [])
      go true h = string_valid t e h l
      go false h = (converted_valid t (static_value here e) (static_valid here e l), tt)
  cells_valid (plain.Many vs) t here l = all_cells_valid vs (slots_of here.scope.tags (Some t)) here l

  all_cells_valid : (vs : CValues) (slots : Slots) (here : Environment) → ValuesAreLimited vs → CellsAreValid (all_static_cells vs slots here)
  all_cells_valid plain.NoValue slots here l = zeros_valid (slot_kinds here.scope.tags slots)
  all_cells_valid (plain.MoreValue v vs) slots here l =
      append_valid (static_cells v (type_or_nothing (first_slot slots)) here) (all_static_cells vs (next_slots slots) (past_value v here)) (cells_valid v (type_or_nothing (first_slot slots)) here l.0) (all_cells_valid vs (next_slots slots) (past_value v here) l.1)

-- ---- how many there are

-- the words of what a braced list stands for
abbrev pub words_in_all : Tags → List CType → ℕ
words_in_all tags [] = 0
words_in_all tags (t ∷ ts) = words_of tags t + words_in_all tags ts

abbrev pub slot_words : Tags → Slots → ℕ
slot_words tags (Elements t n) = n * words_of tags t
slot_words tags (Fields ts) = words_in_all tags ts
slot_words tags Nothing = 0

-- each is an object
abbrev pub SlotsAreObjects : Tags → Slots → Type 0
SlotsAreObjects tags (Elements t n) = is_object_type tags t ≡ true
SlotsAreObjects tags (Fields ts) = AllObjects tags ts
SlotsAreObjects tags Nothing = Unit {0}

-- an object, or nothing behind the last one
abbrev pub IsSlot : Tags → CType → Type 0
IsSlot tags t = (is_object_type tags t ≡ true) ⊎ (t ≡ type.Void)

pub first_is_slot : (tags : Tags) (slots : Slots) → SlotsAreObjects tags slots → IsSlot tags (type_or_nothing (first_slot slots))
first_is_slot tags (Elements t zero) o = inr refl
first_is_slot tags (Elements t (suc n)) o = inl o
first_is_slot tags (Fields []) o = inr refl
first_is_slot tags (Fields (t ∷ ts)) o = inl o.0
first_is_slot tags Nothing o = inr refl

pub next_are_objects : (tags : Tags) (slots : Slots) → SlotsAreObjects tags slots → SlotsAreObjects tags (next_slots slots)
next_are_objects tags (Elements t zero) o = tt
next_are_objects tags (Elements t (suc n)) o = o
next_are_objects tags (Fields []) o = tt
next_are_objects tags (Fields (t ∷ ts)) o = o.1
next_are_objects tags Nothing o = tt

pub slots_split : (tags : Tags) (slots : Slots) → words_of tags (type_or_nothing (first_slot slots)) + slot_words tags (next_slots slots) ≤ slot_words tags slots
slots_split tags (Elements t zero) = omega arith
slots_split tags (Elements t (suc n)) = more (words_of tags t)
  where
    more : (w : ℕ) → w + n * w ≤ suc n * w
    more w = omega arith
slots_split tags (Fields []) = omega arith
slots_split tags (Fields (t ∷ ts)) = omega arith
slots_split tags Nothing = omega arith

members_words : (tags : Tags) (ms : List (List ℕ × CType)) → words_in_all tags (types_of_members ms) ≡ words_of_members tags ms
members_words tags [] = refl
members_words tags (m ∷ ms) = ap (λ n. words_of tags m.1 + n) (members_words tags ms)

-- the slots of an object are objects, and have its words
struct_slots : (tags : Tags) (o : Option Layout) → FitsIn tags o → SlotsAreObjects tags (slots_of_struct o) × (slot_words tags (slots_of_struct o) ≤ layout_words o)
struct_slots tags None f = (tt, omega arith)
struct_slots tags (Some Unfinished) f = (tt, omega arith)
struct_slots tags (Some (Members ms words)) f = (f.all ms words refl, let e : words ≡ words_of_members tags ms = f.words ms words refl in omega (arith, e, members_words tags ms))

pub slots_fit : (tags : Tags) → LaidOut tags → (t : CType) → IsSlot tags t → SlotsAreObjects tags (slots_of tags (Some t)) × (slot_words tags (slots_of tags (Some t)) ≤ words_of tags t)
slots_fit tags laid (type.Array t n) (inl o) = ((and_parts (is_object_type tags t) (nat_lt 0 n) o).0, omega arith)
slots_fit tags laid (type.Array t n) (inr o) = absurd (cc o)
slots_fit tags laid (type.Struct tag) o = struct_slots tags (meaning tags tag) (fits_in tags laid tag)
slots_fit tags laid type.Void o = (tt, omega arith)
slots_fit tags laid type.Null o = (tt, omega arith)
slots_fit tags laid type.Int o = (tt, omega arith)
slots_fit tags laid type.Unsigned o = (tt, omega arith)
slots_fit tags laid type.Char o = (tt, omega arith)
slots_fit tags laid type.UChar o = (tt, omega arith)
slots_fit tags laid (type.Pointer t) o = (tt, omega arith)
slots_fit tags laid (type.Function t ts) o = (tt, omega arith)

-- cells of zeros
repeated : {A : Type 0} (n : ℕ) (xs : List A) → length (flat_map (λ x. x) (replicate n xs)) ≡ n * length xs
repeated zero xs = omega arith
repeated (suc n) xs =
    let e : length (xs ++ flat_map (λ x. x) (replicate n xs)) ≡ length xs + length (flat_map (λ x. x) (replicate n xs)) = length-append xs (flat_map (λ x. x) (replicate n xs)) in
    let h = repeated n xs in
    e ∙ (ap (λ m. length xs + m) h ∙ omega arith)

fields_length : (tags : Tags) → LaidOut tags → (ts : List CType) → AllObjects tags ts → length (flat_map (λ t. cell_kinds tags t) ts) ≡ words_in_all tags ts
fields_length tags laid [] o = refl
fields_length tags laid (t ∷ ts) o =
    length-append (cell_kinds tags t) (flat_map (λ t. cell_kinds tags t) ts) ∙ (ap (λ n. n + length (flat_map (λ t. cell_kinds tags t) ts)) (cells_are_words tags laid t o.0) ∙ ap (λ n. words_of tags t + n) (fields_length tags laid ts o.1))

pub slots_length : (tags : Tags) → LaidOut tags → (slots : Slots) → SlotsAreObjects tags slots → length (slot_kinds tags slots) ≡ slot_words tags slots
slots_length tags laid (Elements t n) o = repeated n (cell_kinds tags t) ∙ ap (λ m. n * m) (cells_are_words tags laid t o)
slots_length tags laid (Fields ts) o = fields_length tags laid ts o
slots_length tags laid Nothing o = refl

pub string_length : (tags : Tags) (t : CType) (e : CExpr) → takes_string t e ≡ true → length (array_text t e) ≤ words_of tags t
string_length tags (type.Array t n) (plain.Str at text) h =
    let p = and_parts (is_character t) (nat_le (length text) n) h in
    let le : length text ≤ n = leb-true (length text) n p.1 in
    let one : words_of tags t ≡ 1 = character t p.0 in
    let zero_bytes : List ℕ = replicate (n - length text) 0 in
    let zeros : length zero_bytes ≡ n - length text = length-replicate (n - length text) 0 in
    let all : length (text ++ zero_bytes) ≡ length text + length zero_bytes = length-append text zero_bytes in
    let whole : n * words_of tags t ≡ n = ap (λ m. n * m) one ∙ omega arith in
    omega (arith, le, all, zeros, whole)
  where
    character : (t : CType) → is_character t ≡ true → words_of tags t ≡ 1
    character type.Char h = refl
    character type.UChar h = refl
    character t h = absurd (cc h)
string_length tags (type.Array t n) e h = absurd (cc h)
string_length tags t e h = absurd (cc h)

-- a first value has no more cells than its type has words and it has nodes
module _ (s : Scope) where
  mutual
    pub cells_few : (v : CValue) (t : CType) (here : Environment) → LaidOut here.scope.tags → IsSlot here.scope.tags t → length (static_cells v t here) ≤ words_of here.scope.tags t + value_sum weight s v
    cells_few (plain.One e) t here laid o = go (takes_string t e) refl
      where
        go : (b : Bool) → takes_string t e ≡ b → length (if b then word_cells (array_text t e) else Holds (converted t (static_value here e)) ∷ []) ≤ words_of here.scope.tags t + value_sum weight s (plain.One e)
        go true h = omega (arith, length-map (array_text t e) (λ c. Holds (state.Word c)), string_length here.scope.tags t e h)
        go false h = omega arith
    cells_few (plain.Many vs) t here laid o =
        let f = slots_fit here.scope.tags laid t o in
        let le : length (all_static_cells vs (slots_of here.scope.tags (Some t)) here) ≤ slot_words here.scope.tags (slots_of here.scope.tags (Some t)) + values_sum weight s vs = all_cells_few vs (slots_of here.scope.tags (Some t)) here laid f.0 in
        omega (arith, le, f.1)

    all_cells_few : (vs : CValues) (slots : Slots) (here : Environment) → LaidOut here.scope.tags → SlotsAreObjects here.scope.tags slots → length (all_static_cells vs slots here) ≤ slot_words here.scope.tags slots + values_sum weight s vs
    all_cells_few plain.NoValue slots here laid o = omega (arith, length-map (slot_kinds here.scope.tags slots) (λ kind. Holds (zero_of kind)), slots_length here.scope.tags laid slots o)
    all_cells_few (plain.MoreValue v vs) slots here laid o =
        let a : length (static_cells v (type_or_nothing (first_slot slots)) here) ≤ words_of here.scope.tags (type_or_nothing (first_slot slots)) + value_sum weight s v = cells_few v (type_or_nothing (first_slot slots)) here laid (first_is_slot here.scope.tags slots o) in
        let b : length (all_static_cells vs (next_slots slots) (past_value v here)) ≤ slot_words here.scope.tags (next_slots slots) + values_sum weight s vs = all_cells_few vs (next_slots slots) (past_value v here) laid (next_are_objects here.scope.tags slots o) in
        omega (arith, a, b, slots_split here.scope.tags slots, length-append (static_cells v (type_or_nothing (first_slot slots)) here) (all_static_cells vs (next_slots slots) (past_value v here)))

-- ---- objects

object_valid : (s : Scope) (here : Environment) (t : CType) (v : Option CValue) → LaidOut here.scope.tags → is_object_type here.scope.tags t ≡ true → words_of here.scope.tags t ≤ most_words
    → Within (first_sum weight s v) (first_sum wide s v) (first_sum strange s v) → ObjectIsValid (live_object (first_cells t v here))
object_valid s here t None laid o le h =
    (zeros_valid (cell_kinds here.scope.tags t), omega (arith, length-map (cell_kinds here.scope.tags t) (λ kind. Holds (zero_of kind)), cells_are_words here.scope.tags laid t o, le))
object_valid s here t (Some v) laid o le h =
    let few : length (static_cells v t here) ≤ words_of here.scope.tags t + value_sum weight s v = cells_few s v t here laid (inl o) in
    (cells_valid v t here (value_limited s v h), omega (arith, few, le, h.light))

-- the type of a declaration that isn't refused is one of objects
pub object_typed : (s : Scope) (d : CDecl) → Good (declared_type s d) → is_object_type s.tags (type_or_void (declared_type s d)) ≡ true
object_typed s d g = of_type (written s d.pos d.ty) g
  where
    of_rule : (b : Bool) (t : CType) → is_object_type s.tags t ≡ b → Good (keeping ((b, fault.Mismatch d.pos) ∷ []) t) → is_object_type s.tags (type_or_void (keeping ((b, fault.Mismatch d.pos) ∷ []) t)) ≡ true
    of_rule true t e g = e
    of_rule false t e g = absurd g

    of_type : (r : Judged CType) → Good (after r (λ t. object_type s d.pos (completed t d.first))) → is_object_type s.tags (type_or_void (after r (λ t. object_type s d.pos (completed t d.first)))) ≡ true
    of_type (Ok t) g = of_rule (is_object_type s.tags (completed t d.first)) (completed t d.first) refl g
    of_type (Err e) g = absurd g

-- ---- tags behind an external

record SameTags (s : Scope) (r : Judged Scope) : Type 0 where
  same : (scope_or s r).tags ≡ s.tags

keeping_tags : (s inner : Scope) (rules : List Rule) → inner.tags ≡ s.tags → SameTags s (keeping rules inner)
keeping_tags s inner rules e = go (broken rules)
  where
    go : (o : Option TypeFault) → SameTags s (option_map_or (λ e. Err e) o (Ok inner))
    go None = record { same = e }
    go (Some f) = record { same = refl }

after_tags : {A : Type 0} (s : Scope) (r : Judged A) (f : A → Judged Scope) → ((a : A) → SameTags s (f a)) → SameTags s (after r f)
after_tags s (Ok a) f h = h a
after_tags s (Err e) f h = record { same = refl }

object_tags : (s : Scope) (file : Bool) (d : CDecl) → SameTags s (declared s file d)
object_tags s file d = after_tags s (declared_type s d) (λ t. declared_object s file d t) (λ t.
    after_tags s (first_fitting (with_name s d.name (Object t)) (record { file = file; pos = d.pos }) t d.first) (λ _. keeping ((not (is_declared_here s d.name), fault.Twice d.pos) ∷ []) (with_name s d.name (Object t)))
    (λ u. keeping_tags s (with_name s d.name (Object t)) ((not (is_declared_here s d.name), fault.Twice d.pos) ∷ []) refl))

-- a type of objects was one before a tag that isn't finished
finished_before : (b : Bool) (o : Option Layout) → is_finished (cond b (Some Unfinished) o) ≡ true → (is_finished o ≡ true) × (layout_words (cond b (Some Unfinished) o) ≡ layout_words o)
finished_before true o h = absurd (cc h)
finished_before false o h = (h, refl)

object_before : (name : List ℕ) (tags : Tags) (t : CType) → is_object_type ((name, Unfinished) ∷ tags) t ≡ true → (is_object_type tags t ≡ true) × (words_of ((name, Unfinished) ∷ tags) t ≡ words_of tags t)
object_before name tags (type.Struct tag) h = finished_before (bytes_eq tag name) (meaning tags tag) h
object_before name tags (type.Array t n) h =
    let p = and_parts (is_object_type ((name, Unfinished) ∷ tags) t) (nat_lt 0 n) h in
    let k = object_before name tags t p.0 in
    (ap (λ b. b && nat_lt 0 n) (k.0 ∙ sym p.0) ∙ h, ap (λ m. n * m) k.1)
object_before name tags type.Void h = absurd (cc h)
object_before name tags type.Null h = absurd (cc h)
object_before name tags (type.Function t ts) h = absurd (cc h)
object_before name tags type.Int h = (refl, refl)
object_before name tags type.Unsigned h = (refl, refl)
object_before name tags type.Char h = (refl, refl)
object_before name tags type.UChar h = (refl, refl)
object_before name tags (type.Pointer t) h = (refl, refl)

all_before : (name : List ℕ) (tags : Tags) (ms : List (List ℕ × CType)) → AllObjects ((name, Unfinished) ∷ tags) (types_of_members ms) → AllObjects tags (types_of_members ms) × (words_of_members ((name, Unfinished) ∷ tags) ms ≡ words_of_members tags ms)
all_before name tags [] all = (tt, refl)
all_before name tags (m ∷ ms) all =
    let k = object_before name tags m.1 all.0 in
    let l = all_before name tags ms all.1 in
    ((k.0, l.0), ap (λ n. n + words_of_members ((name, Unfinished) ∷ tags) ms) k.1 ∙ ap (λ n. words_of tags m.1 + n) l.1)

-- members have types of objects
abbrev MemberIsObject : Tags → Judged (List ℕ × CType) → Type 0
MemberIsObject tags (Ok m) = is_object_type tags m.1 ≡ true
MemberIsObject tags (Err e) = Unit {0}

abbrev MembersAreObjects : Tags → Judged (List (List ℕ × CType)) → Type 0
MembersAreObjects tags (Ok ms) = AllObjects tags (types_of_members ms)
MembersAreObjects tags (Err e) = Unit {0}

member_typed : (s : Scope) (before : List (List ℕ × CType)) (m : CDecl) → MemberIsObject s.tags (member s before m)
member_typed s before m = of_type (written s m.pos m.ty)
  where
    of_rules : (rules : List Rule) (t : CType) → is_object_type s.tags t ≡ true → (o : Option TypeFault) → MemberIsObject s.tags (option_map_or (λ e. Err e) o (Ok (m.name, t)))
    of_rules rules t e None = e
    of_rules rules t e (Some f) = tt

    of_object : (rules : List Rule) (t : CType) (b : Bool) → is_object_type s.tags t ≡ b → MemberIsObject s.tags (after (keeping ((b, fault.Mismatch m.pos) ∷ []) t) (λ t. keeping rules (m.name, t)))
    of_object rules t true e = of_rules rules t e (broken rules)
    of_object rules t false e = tt

    of_type : (r : Judged CType) → MemberIsObject s.tags (after (after r (λ t. object_type s m.pos t)) (λ t. keeping ((option_map_or (λ _. false) (meaning before m.name) true, fault.Twice m.pos) ∷ (is_none m.first, fault.Mismatch m.pos) ∷ []) (m.name, t)))
    of_type (Ok t) = of_object ((option_map_or (λ _. false) (meaning before m.name) true, fault.Twice m.pos) ∷ (is_none m.first, fault.Mismatch m.pos) ∷ []) t (is_object_type s.tags t) refl
    of_type (Err e) = tt

append_objects : (tags : Tags) (xs : List (List ℕ × CType)) (m : List ℕ × CType) → AllObjects tags (types_of_members xs) → is_object_type tags m.1 ≡ true → AllObjects tags (types_of_members (xs ++ m ∷ []))
append_objects tags [] m all e = (e, tt)
append_objects tags (x ∷ xs) m all e = (all.0, append_objects tags xs m all.1 e)

members_typed : (s : Scope) (before : List (List ℕ × CType)) (ds : List CDecl) → AllObjects s.tags (types_of_members before) → MembersAreObjects s.tags (members s before ds)
members_typed s before [] all = all
members_typed s before (d ∷ ds) all =
    behind (member s before d) (members s (members_or before (member s before d)) ds) (members_typed s (members_or before (member s before d)) ds (with_member (member s before d) (member_typed s before d)))
  where
    with_member : (r : Judged (List ℕ × CType)) → MemberIsObject s.tags r → AllObjects s.tags (types_of_members (members_or before r))
    with_member (Ok m) e = append_objects s.tags before m all e
    with_member (Err f) e = all

    behind : (r : Judged (List ℕ × CType)) (q : Judged (List (List ℕ × CType))) → MembersAreObjects s.tags q → MembersAreObjects s.tags (both r q (λ _ ms. Ok ms))
    behind (Ok m) (Ok ms) h = h
    behind (Ok m) (Err f) h = tt
    behind (Err e) (Ok ms) h = tt
    behind (Err e) (Err f) h = tt

tag_laid : (s : Scope) (tag : CTag) → LaidOut s.tags → LaidOut (scope_or s (tag_declared s tag)).tags
tag_laid s tag laid = of_members (members (with_tag s tag.name Unfinished) [] tag.members) (members_typed (with_tag s tag.name Unfinished) [] tag.members tt)
  where
    inner : List (List ℕ × CType) → Scope
    inner ms = with_tag s tag.name (Members ms (words_of_members ((tag.name, Unfinished) ∷ s.tags) ms))

    of_known : (o : Option Layout) (ms : List (List ℕ × CType)) (others : List Rule) → meaning s.tags tag.name ≡ o → AllObjects ((tag.name, Unfinished) ∷ s.tags) (types_of_members ms)
        → LaidOut (scope_or s (keeping ((not (option_map_or (λ _. true) o false), fault.Twice tag.pos) ∷ others) (inner ms))).tags
    of_known (Some layout) ms others e all = laid
    of_known None ms others e all = of_rules (broken others)
      where
        of_rules : (f : Option TypeFault) → LaidOut (scope_or s (option_map_or (λ e. Err e) f (Ok (inner ms)))).tags
        of_rules (Some f) = laid
        of_rules None = let k = all_before tag.name s.tags ms all in (e, (k.0, k.1), laid)

    of_members : (r : Judged (List (List ℕ × CType))) → MembersAreObjects ((tag.name, Unfinished) ∷ s.tags) r
        → LaidOut (scope_or s (after r (λ ms. keeping ((not (is_tag s tag.name), fault.Twice tag.pos) ∷ (some_members tag.members, fault.Mismatch tag.pos) ∷ []) (inner ms)))).tags
    of_members (Ok ms) all = of_known (meaning s.tags tag.name) ms ((some_members tag.members, fault.Mismatch tag.pos) ∷ []) refl all
    of_members (Err e) all = laid

pub item_laid : (s : Scope) (item : CItem) → LaidOut s.tags → LaidOut (scope_or s (item_judged s item)).tags
item_laid s (plain.StructItem tag) laid = tag_laid s tag laid
item_laid s (plain.Object d) laid = subst LaidOut (sym (object_tags s true d).same) laid
item_laid s (plain.Function name at result params body) laid =
    subst LaidOut (sym (after_tags s (signature s at result params) (λ f. declared_function s name at body f) (λ f.
    after_tags s (body_judged (body_scope s name f) (around_body f) body) (λ _. keeping ((may_declare (meaning s.block name) (type_of f) (is_some body), fault.Twice at) ∷ []) (with_function s name (type_of f) (is_some body)))
    (λ u. keeping_tags s (with_function s name (type_of f) (is_some body)) ((may_declare (meaning s.block name) (type_of f) (is_some body), fault.Twice at) ∷ []) refl))).same) laid

-- ---- all objects

past_scope : (v : Option CValue) (here : Environment) → (past_first v here).scope ≡ here.scope
past_scope None here = refl
past_scope (Some v) here = refl

pub behind_scope : (item : CItem) (here : Environment) → (behind_item item here).scope ≡ scope_or here.scope (item_judged here.scope item)
behind_scope (plain.Object d) here = past_scope d.first _
behind_scope (plain.StructItem tag) here = refl
behind_scope (plain.Function name at result params body) here = refl

declared_object_valid : (d : CDecl) (here : Environment) → LaidOut here.scope.tags → Fine (declared here.scope true d) → Within (object_sum weight here.scope d) (object_sum wide here.scope d) (object_sum strange here.scope d) → ObjectsAreValid (item_objects (plain.Object d) here)
declared_object_valid d here laid g h =
    let tags : (behind_item (plain.Object d) here).scope.tags ≡ here.scope.tags = ap (λ s. s.tags) (behind_scope (plain.Object d) here) ∙ (object_tags here.scope true d).same in
    let typed : is_object_type here.scope.tags (object_type_in here.scope d) ≡ true = object_typed here.scope d (after_fine (declared_type here.scope d) (λ t. declared_object here.scope true d t) g).good in (
      object_valid (scope_or here.scope (declared here.scope false d)) (record (behind_item (plain.Object d) here) { literals_before = here.literals_before }) (object_type_in here.scope d) d.first
          (subst LaidOut (sym tags) laid) (subst (λ z. is_object_type z (object_type_in here.scope d) ≡ true) (sym tags) typed) (subst (λ z. words_of z (object_type_in here.scope d) ≤ most_words) (sym tags) (object_words here.scope d h.narrow)) (last _ _ _ (front _ _ _ h)),
      tt,
    )

pub objects_valid : (items : List CItem) (here : Environment) → LaidOut here.scope.tags → Fine (all_items here.scope items) → Within (items_sum weight here.scope items) (items_sum wide here.scope items) (items_sum strange here.scope items) → ObjectsAreValid (file_objects items here)
objects_valid [] here laid g h = tt
objects_valid (plain.Object d ∷ items) here laid g h =
    let k = both_fine (item_judged here.scope (plain.Object d)) (all_items (scope_or here.scope (item_judged here.scope (plain.Object d))) items) (λ _ inner. Ok inner) g in
    let e : scope_or here.scope (item_judged here.scope (plain.Object d)) ≡ (behind_item (plain.Object d) here).scope = sym (behind_scope (plain.Object d) here) in
    let o = declared_object_valid d here laid k.0 (last _ _ _ (front _ _ _ h)) in
    (o.0, objects_valid items (behind_item (plain.Object d) here) (subst (λ z. LaidOut z.tags) e (item_laid here.scope (plain.Object d) laid)) (subst (λ z. Fine (all_items z items)) e k.1) (subst (λ z. Within (items_sum weight z items) (items_sum wide z items) (items_sum strange z items)) e (last _ _ _ h)))
objects_valid (plain.StructItem tag ∷ items) here laid g h =
    let k = both_fine (item_judged here.scope (plain.StructItem tag)) (all_items (scope_or here.scope (item_judged here.scope (plain.StructItem tag))) items) (λ _ inner. Ok inner) g in
    objects_valid items (behind_item (plain.StructItem tag) here) (item_laid here.scope (plain.StructItem tag) laid) k.1 (last _ _ _ h)
objects_valid (plain.Function name at result params body ∷ items) here laid g h =
    let item : CItem = plain.Function name at result params body in
    let k = both_fine (item_judged here.scope item) (all_items (scope_or here.scope (item_judged here.scope item)) items) (λ _ inner. Ok inner) g in
    objects_valid items (behind_item item here) (item_laid here.scope item laid) k.1 (last _ _ _ h)
