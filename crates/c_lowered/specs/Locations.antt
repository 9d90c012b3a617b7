-- Where the things of a text lie in the memory of its program, and values that need no evaluation.
use Rattle.std.specs.Prelude.{ℕ, ◌+◌, ◌-◌, ◌%◌, ◌^◌, Bool, true, false, ◌&&◌, List, [], ◌∷◌, ◌++◌, length, Option, Some, None, slice_get, unwrap_or}
use Rattle.std.specs.Option.{option_map, option_and_then}
use Rattle.c_syntax.specs.Plain as plain
use Rattle.c_syntax.specs.Plain.{CExpr}
use Rattle.c_syntax.specs.declared.tree.UnOp.{UnOp}
use Rattle.c_syntax.specs.declared.tree.UnOp.TheVariants as unary
use Rattle.c_syntax.specs.Words.{meaning}
use Rattle.c_types.specs.Types.{CType, Struct, Array}
use Rattle.c_types.specs.Scope.{Entity, Object, entity_of}
use Rattle.c_types.specs.Expressions.{names_function}
use Rattle.c_eval.specs.State.{Cell}
use Rattle.c_eval.specs.Environment.{Environment, type_in, constant_in, member_offset}

-- at an address, or so many words behind the base of the call's frame
pub data Location : Type 0 where
  Fixed : (address : ℕ) → Location
  Framed : (offset : ℕ) → Location

-- so many words behind
abbrev pub shifted : ℕ → Location → Location
shifted n (Fixed a) = Fixed (a + n)
shifted n (Framed k) = Framed (k + n)

-- by what the code of a function is made
pub record Linking : Type 0 where
  -- the function whose code it is
  pub owner : Option (List ℕ)
  -- the number of a function's first block
  pub entry : List ℕ → ℕ
  -- the address of a string literal, by the function in which it stands (none at file scope) and how many stand before it there
  pub literal : Option (List ℕ) → ℕ → ℕ
  -- where the objects in scope lie; their numbers count them in this order
  pub bases : List Location

-- where the object of a name lies; what has no object lies at null
abbrev pub located : Linking → Option (Option ℕ) → Location
located w (Some (Some n)) = unwrap_or (slice_get w.bases n) (Fixed 0)
located w _ = Fixed 0

-- objects one after the other in a frame, from a word of it on
abbrev pub framed : List (List Cell) → ℕ → List Location
framed [] d = []
framed (cells ∷ more) d = Framed d ∷ framed more (d + length cells)

-- the objects of a block are in scope
abbrev pub with_block : List (List Cell) → ℕ → Linking → Linking
with_block objects d w = record w { bases = w.bases ++ framed objects d }

-- ---- values that need no evaluation

-- a known word, an address in the frame, or the word that lies somewhere
pub data Direct : Type 0 where
  Exactly : (word : ℕ) → Direct
  Address : (offset : ℕ) → Direct
  Stored : (l : Location) → Direct

-- it is the same whatever is written
abbrev pub is_steady : Direct → Bool
is_steady (Stored l) = false
is_steady _ = true

abbrev pub address_of : Location → Direct
address_of (Fixed a) = Exactly a
address_of (Framed k) = Address k

-- what a place of a type is worth: an array is a pointer to its first element, and a struct has no value
abbrev pub held : CType → Location → Option Direct
held (Array t n) l = Some (address_of l)
held (Struct tag) l = None
held t l = Some (Stored l)

abbrev pub named_direct : Linking → Environment → List ℕ → Option Entity → Option Direct
named_direct w here name (Some (Object t)) = held t (located w (meaning here.objects name))
named_direct w here name _ = Some (Exactly (w.entry name))

-- a place that is known before the program runs
abbrev pub known_place : CExpr → Linking → Environment → Option Location
known_place (plain.Str at text) w here = Some (Fixed (w.literal w.owner here.literals_before))
known_place (plain.Var at name) w here = Some (located w (meaning here.objects name))
known_place (plain.Member at a m) w here = option_map (shifted (member_offset here.scope.tags (type_in here.scope a) m)) (known_place a w here)
known_place _ w here = None

-- 0 less a known word
abbrev pub negated : Direct → Option Direct
negated (Exactly n) = Some (Exactly ((2 ^ 24 - n % 2 ^ 24) % 2 ^ 24))
negated _ = None

abbrev pub address_direct : Bool → Option Direct → Option Location → Option Direct
address_direct true v l = v
address_direct false v l = option_map address_of l

abbrev pub unary_direct : UnOp → Bool → Option Direct → Option Location → Option Direct
unary_direct unary.Address is_function v l = address_direct is_function v l
unary_direct unary.Minus is_function v l = option_and_then negated v
unary_direct op is_function v l = None

-- an expression whose value needs no evaluation
abbrev pub direct : CExpr → Linking → Environment → Option Direct
direct (plain.Number at n unsigned) w here = Some (Exactly (n % 2 ^ 24))
direct (plain.Str at text) w here = Some (Exactly (w.literal w.owner here.literals_before))
direct (plain.Null at) w here = Some (Exactly 0)
direct (plain.Var at name) w here = named_direct w here name (entity_of here.scope name)
direct (plain.Unary at op a) w here = unary_direct op (names_function here.scope a) (direct a w here) (known_place a w here)
direct (plain.Cast at t a) w here = direct a w here
direct (plain.SizeTy at t) w here = Some (Exactly (constant_in here.scope (plain.SizeTy at t)))
direct (plain.SizeOf at a) w here = Some (Exactly (constant_in here.scope (plain.SizeOf at a)))
direct (plain.Member at a m) w here =
    option_and_then (λ l. held (type_in here.scope (plain.Member at a m)) (shifted (member_offset here.scope.tags (type_in here.scope a) m) l)) (known_place a w here)
direct _ w here = None

-- the evaluation writes nothing and calls nothing
abbrev pub is_quiet : CExpr → Bool
is_quiet (plain.Unary at op a) = is_quiet a
is_quiet (plain.Step at op a) = false
is_quiet (plain.Binary at op a b) = is_quiet a && is_quiet b
is_quiet (plain.Assign at op a b) = false
is_quiet (plain.Cond at a b c) = is_quiet a && is_quiet b && is_quiet c
is_quiet (plain.Comma at a b) = is_quiet a && is_quiet b
is_quiet (plain.Cast at t a) = is_quiet a
is_quiet (plain.Index at a b) = is_quiet a && is_quiet b
is_quiet (plain.Call at f es) = false
is_quiet (plain.Member at a m) = is_quiet a
is_quiet (plain.Arrow at a m) = is_quiet a
is_quiet _ = true
