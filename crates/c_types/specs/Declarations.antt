-- First values, declarations and struct tags.
use Rattle.std.specs.Prelude.{ℕ, zero, suc, ◌+◌, Bool, true, false, not, ◌&&◌, ◌||◌, nat_le, List, [], ◌∷◌, ◌++◌, length, Option, Some, None, is_none, Ok, Err, if◌then◌else◌}
use Rattle.std.specs.Option.{option_map_or}
use Rattle.c_syntax.specs.Plain as plain
use Rattle.c_syntax.specs.Plain.{CExpr, CValue, CValues, CDecl, CTag}
use Rattle.c_syntax.specs.declared.tree.UnOp.TheVariants as unary
use Rattle.c_syntax.specs.Words.{meaning}
use Rattle.c_types.specs.declared.fault.TypeFault.TheVariants as fault
use Rattle.c_types.specs.Types.{CType, Struct, Array, is_character, Layout, Unfinished, Members, Tags, words_of, is_object_type}
use Rattle.c_types.specs.Refusals.{Judged, Rule, after, both, keeping}
use Rattle.c_types.specs.Constants.{Constant, NotConstant, Undefined, Value}
use Rattle.c_types.specs.Scope.{Scope, Object, with_name, is_declared_here}
use Rattle.c_types.specs.Operands.{Operand, converts, is_array, is_designator}
use Rattle.c_types.specs.Expressions.{judged, written}

-- where a first value stands: whether at file scope, and the place of its declaration
pub record Site : Type 0 where
  pub file : Bool
  pub pos : ℕ

-- what the values of a braced list stand for, one after the other
pub data Slots : Type 0 where
  -- so many objects of one type
  Elements : (t : CType) → (n : ℕ) → Slots
  -- one object of each type
  Fields : (ts : List CType) → Slots
  -- nothing
  Nothing : Slots

abbrev pub capacity : Slots → ℕ
capacity (Elements t n) = n
capacity (Fields ts) = length ts
capacity Nothing = 0

abbrev pub first_slot : Slots → Option CType
first_slot (Elements t (suc n)) = Some t
first_slot (Fields (t ∷ ts)) = Some t
first_slot _ = None

abbrev pub next_slots : Slots → Slots
next_slots (Elements t (suc n)) = Elements t n
next_slots (Fields (t ∷ ts)) = Fields ts
next_slots _ = Nothing

abbrev pub types_of_members : List (List ℕ × CType) → List CType
types_of_members [] = []
types_of_members (m ∷ members) = m.1 ∷ types_of_members members

abbrev pub slots_of_struct : Option Layout → Slots
slots_of_struct (Some (Members members words)) = Fields (types_of_members members)
slots_of_struct _ = Nothing

-- a braced list goes one level into an array or a struct
abbrev pub slots_of : Tags → Option CType → Slots
slots_of tags (Some (Array t n)) = Elements t n
slots_of tags (Some (Struct tag)) = slots_of_struct (meaning tags tag)
slots_of tags _ = Nothing

-- a char array may take a string, with its zero if there is room
abbrev pub takes_string : CType → CExpr → Bool
takes_string (Array t n) (plain.Str at text) = is_character t && nat_le (length text) n
takes_string _ _ = false

-- `&name`, a string, NULL, the name of an array or of a function
abbrev pub is_static_form : CExpr → Operand → Bool
is_static_form (plain.Str at text) a = true
is_static_form (plain.Null at) a = true
is_static_form (plain.Unary at unary.Address (plain.Var pos name)) a = true
is_static_form (plain.Var at name) a = is_array a.ty || is_designator a.sort
is_static_form _ a = false

-- at file scope a first value is such, or a constant expression that has a value
abbrev pub static_rules : CExpr → Operand → Constant → List Rule
static_rules e a NotConstant = (is_static_form e a, fault.Mismatch a.pos) ∷ []
static_rules e a (Undefined pos) = (false, fault.Mismatch pos) ∷ []
static_rules e a (Value word) = []

abbrev pub site_rules : Bool → CExpr → Operand → List Rule
site_rules true e a = static_rules e a a.constant
site_rules false e a = []

-- the object's own rule: an expression converts to its type, or is a string that it takes
abbrev pub object_rules : Option CType → CExpr → Operand → List Rule
object_rules (Some t) e a = (takes_string t e || converts a t, fault.Mismatch a.pos) ∷ []
object_rules None e a = []

abbrev pub count_values : CValues → ℕ
count_values plain.NoValue = 0
count_values (plain.MoreValue v vs) = 1 + count_values vs

-- no more values than there are objects for
abbrev pub braces_rules : ℕ → Slots → CValues → List Rule
braces_rules at Nothing vs = (false, fault.Mismatch at) ∷ []
braces_rules at slots vs = (nat_le (count_values vs) (capacity slots), fault.Mismatch at) ∷ []

abbrev mutual
  -- a first value fits an object of a type, or stands for no object
  pub fitting : Scope → Site → Option CType → CValue → Judged (Unit {0})
  fitting s site t (plain.One e) = after (judged s e) (λ a. keeping (object_rules t e a ++ site_rules site.file e a) tt)
  fitting s site t (plain.Many vs) = after (all_fitting s site (slots_of s.tags t) vs) (λ _. keeping (braces_rules site.pos (slots_of s.tags t) vs) tt)

  pub all_fitting : Scope → Site → Slots → CValues → Judged (Unit {0})
  all_fitting s site slots plain.NoValue = Ok tt
  all_fitting s site slots (plain.MoreValue v vs) = both (fitting s site (first_slot slots) v) (all_fitting s site (next_slots slots) vs) (λ _ _. Ok tt)

-- how many elements a first value gives an array whose length is left open
abbrev pub elements_given : CType → CValue → ℕ
elements_given t (plain.Many vs) = count_values vs
elements_given t (plain.One (plain.Str at text)) = if is_character t then length text + 1 else 1
elements_given t (plain.One _) = 1

-- an empty length needs a first value, which tells it
abbrev pub completed : CType → Option CValue → CType
completed (Array t zero) (Some v) = Array t (elements_given t v)
completed t _ = t

abbrev pub first_fitting : Scope → Site → CType → Option CValue → Judged (Unit {0})
first_fitting s site t None = Ok tt
first_fitting s site t (Some v) = fitting s site (Some t) v

-- an object has a type of objects
abbrev pub object_type : Scope → ℕ → CType → Judged CType
object_type s at t = keeping ((is_object_type s.tags t, fault.Mismatch at) ∷ []) t

-- the type of a declared object
abbrev pub declared_type : Scope → CDecl → Judged CType
declared_type s d = after (written s d.pos d.ty) (λ t. object_type s d.pos (completed t d.first))

-- an object of a type is declared, and known in its own first value
abbrev pub declared_object : Scope → Bool → CDecl → CType → Judged Scope
declared_object s file d t =
    let inner = with_name s d.name (Object t) in
    after (first_fitting inner (record { file = file; pos = d.pos }) t d.first) (λ _. keeping ((not (is_declared_here s d.name), fault.Twice d.pos) ∷ []) inner)

-- the scope behind the declaration of an object
abbrev pub declared : Scope → Bool → CDecl → Judged Scope
declared s file d = after (declared_type s d) (λ t. declared_object s file d t)

-- the scope goes on as it was behind what is refused
abbrev pub scope_or : Scope → Judged Scope → Scope
scope_or s (Ok inner) = inner
scope_or s (Err e) = s

-- ---- tags

-- a member beside those before it; it has no first value
abbrev pub member : Scope → List (List ℕ × CType) → CDecl → Judged (List ℕ × CType)
member s before m =
    after (after (written s m.pos m.ty) (λ t. object_type s m.pos t)) (λ t.
    keeping ((option_map_or (λ _. false) (meaning before m.name) true, fault.Twice m.pos) ∷ (is_none m.first, fault.Mismatch m.pos) ∷ []) (m.name, t))

abbrev pub members_or : List (List ℕ × CType) → Judged (List ℕ × CType) → List (List ℕ × CType)
members_or before (Ok m) = before ++ m ∷ []
members_or before (Err e) = before

-- the members of a tag in their order, behind those before them
abbrev pub members : Scope → List (List ℕ × CType) → List CDecl → Judged (List (List ℕ × CType))
members s before [] = Ok before
members s before (d ∷ ds) = let m = member s before d in both m (members s (members_or before m) ds) (λ _ ms. Ok ms)

abbrev pub words_of_members : Tags → List (List ℕ × CType) → ℕ
words_of_members tags [] = 0
words_of_members tags (m ∷ ms) = words_of tags m.1 + words_of_members tags ms

abbrev pub with_tag : Scope → List ℕ → Layout → Scope
with_tag s name layout = record s { tags = (name, layout) ∷ s.tags }

abbrev pub is_tag : Scope → List ℕ → Bool
is_tag s name = option_map_or (λ _. true) (meaning s.tags name) false

abbrev pub some_members : List CDecl → Bool
some_members [] = false
some_members (d ∷ ds) = true

-- a tag is declared from its name on, and its members are closed behind the last one
abbrev pub tag_declared : Scope → CTag → Judged Scope
tag_declared s tag =
    let inner = with_tag s tag.name Unfinished in
    after (members inner [] tag.members) (λ ms.
    keeping ((not (is_tag s tag.name), fault.Twice tag.pos) ∷ (some_members tag.members, fault.Mismatch tag.pos) ∷ [])
    (with_tag s tag.name (Members ms (words_of_members inner.tags ms))))
