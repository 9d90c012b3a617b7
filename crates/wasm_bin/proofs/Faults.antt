-- Where reading is refused: within the file, or at its end.
use Rattle.std.proofs.Common.{◌≡◌, ◌≢◌, ℕ, zero, suc, ◌-◌, ◌^◌, ◌<◌, ◌≤◌, Bool, true, false, ◌||◌, ◌&&◌, List, [], ◌∷◌, length, map, take, drop, Option, Some, None, Result, Ok, Err, refl, subst, arith}
use Rattle.std.specs.Prelude.{◌==◌, min, nat_lt, nat_le, is_some, if◌then◌else◌}
use Rattle.std.specs.Str.{is_utf8}
use Rattle.std.proofs.lemmas.List.{length-drop, length-take}
use Rattle.wasm_bytes.specs.declared.fault.ModFault.{ModFault}
use Rattle.wasm_bytes.specs.declared.fault.ModFault.TheVariants.{Malformed, Unsupported, TooLarge, Memory}
use Rattle.wasm_bin.specs.declared.module.FuncType.{FuncType}
use Rattle.wasm_bytes.specs.Outcome.{◌>>=◌}
use Rattle.wasm_bytes.specs.Piece.{Piece, Cut, Reading, place, place_before, is_first, begins_with, first_of, byte_at, expected_at, cut_at, closed_at}
use Rattle.wasm_bytes.specs.Number.{unsigned_value, signed_value, is_i32, leb_at, u32_at, i32_at, limited_at}
use Rattle.wasm_bytes.specs.Text.{taken_at, bytes_at, name_at}
use Rattle.wasm_bin.specs.Opcode.{is_block, is_control, is_indexed, is_access, is_sizing, is_comparison, is_arithmetic, is_instruction, Plain, Coded}
use Rattle.wasm_bin.specs.Parts.{Parts}
use Rattle.wasm_bin.specs.Entry.{items_at, list_at, value_type_at, value_types_at, func_type_at, import_sort_at, import_at, flag_at, largest_at, limits_at, memories_at, only_at, initial_at, global_at, export_sort_at, export_at, memory_index_at, segment_at}
use Rattle.wasm_bin.specs.Body.{block_type_at, table_at, access_at, plain_of, operands_at, Blocks, may_have_else, blocks_after, opcode_at, is_last, code_at, runs_at, locals_at, sized_at, filled_at, function_at, body_at}
use Rattle.wasm_bin.specs.Section.{custom_at, customs_at, past_customs, opened_at, contents_at, section_at, other_at, start_at, params_of, each_body_at, bodies_at, code_section_at, end_at, header_at, front_at, module_at, module_in}
use Rattle.wasm_bin.specs.Module.{IsFaultWithin, IsRefusedFor}

-- a piece of a file of so many bytes
abbrev Within : ℕ → Piece → Type 0
Within n p = (length p.left ≤ p.end) × (p.end ≤ n)

abbrev Leaves : {A : Type 0} → ℕ → A × Piece → Type 0
Leaves n x = Within n x.1

-- the same, where a byte was taken from the front of a piece
abbrev Starts : {A : Type 0} → ℕ → Piece → A × Piece → Type 0
Starts n p x = Within n x.1 × (place p < n)

-- what was read is as it should be, or reading is refused within the file
abbrev Sound : {A : Type 0} → ℕ → (A → Type 0) → Result A ModFault → Type 0
Sound n P (Ok x) = P x
Sound n P (Err fault) = IsFaultWithin n fault

bind : {A B : Type 0} (n : ℕ) (P : A → Type 0) (Q : B → Type 0) (r : Result A ModFault) (f : A → Result B ModFault) → Sound n P r → ((x : A) → P x → Sound n Q (f x)) → Sound n Q (r >>= f)
bind n P Q (Ok x) f h k = k x h
bind n P Q (Err fault) f h k = h

choice : {A : Type 0} (n : ℕ) (P : A → Type 0) (b : Bool) (r s : Result A ModFault) → Sound n P r → Sound n P s → Sound n P (if b then r else s)
choice n P true r s h k = h
choice n P false r s h k = k

weaker : {A : Type 0} (n : ℕ) (P Q : A → Type 0) (r : Result A ModFault) → ((x : A) → P x → Q x) → Sound n P r → Sound n Q r
weaker n P Q (Ok x) f h = f x h
weaker n P Q (Err fault) f h = h

place_in : (n : ℕ) (p : Piece) → Within n p → place p ≤ n
place_in n p h = let e : p.end ≤ n = h.1 in omega arith

-- ---- pieces and numbers

first : (n : ℕ) (left : List ℕ) (end : ℕ) → length left ≤ end → end ≤ n → Sound n (λ (x : ℕ × Piece). Within n x.1 × (end - length left < n)) (first_of left end)
first n [] end l e = e
first n (byte ∷ left) end l e = ((omega arith, e), omega arith)

byte : (n : ℕ) (p : Piece) → Within n p → Sound n (Starts n p) (byte_at p)
byte n p h = first n p.left p.end h.0 h.1

expected : (n opcode : ℕ) (p : Piece) → Within n p → Sound n (Within n) (expected_at opcode p)
expected n opcode p h = bind n (Starts n p) (Within n) (byte_at p) _ (byte n p h) (λ b k. choice n (Within n) (b.0 == opcode) (Ok b.1) (Err (Malformed (place p))) k.0 (place_in n p h))

leb : (n m : ℕ) (p : Piece) → Within n p → Sound n (Starts n p) (leb_at m p)
unfolding leb_at
leb n zero p h = bind n (Starts n p) (Starts n p) (byte_at p) _ (byte n p h) (λ b k. choice n (Starts n p) (nat_lt b.0 128) (Ok (b.0 ∷ [], b.1)) (Err (Malformed (place p))) k (place_in n p h))
leb n (suc m) p h = bind n (Starts n p) (Starts n p) (byte_at p) _ (byte n p h) (λ b k.
    choice n (Starts n p) (nat_lt b.0 128) (Ok (b.0 ∷ [], b.1)) (leb_at m b.1 >>= λ more. Ok (b.0 ∷ more.0, more.1)) k
    (bind n (Starts n b.1) (Starts n p) (leb_at m b.1) _ (leb n m b.1 k.0) (λ more l. (l.0, k.1))))

before_in : (n : ℕ) (p : Piece) → Within n p → place_before p ≤ n
before_in n p h = let e : p.end ≤ n = h.1 in omega arith

u32 : (n : ℕ) (p : Piece) → Within n p → Sound n (Starts n p) (u32_at p)
unfolding u32_at
u32 n p h = bind n (Starts n p) (Starts n p) (leb_at 4 p) _ (leb n 4 p h) (λ b k. choice n (Starts n p) (nat_lt (unsigned_value b.0) (2 ^ 32)) (Ok (unsigned_value b.0, b.1)) (Err (Malformed (place_before b.1))) k (before_in n b.1 k.0))

i32 : (n : ℕ) (p : Piece) → Within n p → Sound n (Leaves n) (i32_at p)
unfolding i32_at
i32 n p h = bind n (Starts n p) (Leaves n) (leb_at 4 p) _ (leb n 4 p h) (λ b k. choice n (Leaves n) (is_i32 (signed_value b.0)) (Ok (signed_value b.0, b.1)) (Err (Malformed (place_before b.1))) k.0 (before_in n b.1 k.0))

limited : (n limit : ℕ) (p : Piece) → Within n p → Sound n (Leaves n) (limited_at limit p)
unfolding limited_at
limited n limit p h = bind n (Starts n p) (Leaves n) (u32_at p) _ (u32 n p h) (λ x k. choice n (Leaves n) (nat_lt limit x.0) (Err (TooLarge (place p))) (Ok x) k.1 k.0)

-- ---- bytes and names

less_left : (m : ℕ) (left : List ℕ) (end : ℕ) → length left ≤ end → length (drop m left) ≤ end
less_left m left end l = omega (arith, length-drop m left)

taken : (n m : ℕ) (p : Piece) → Within n p → Sound n (Leaves n) (taken_at m p)
unfolding taken_at
taken n m p h = choice n (Leaves n) (nat_lt (length p.left) m) (Err (Malformed p.end)) (Ok (take m p.left, record { left = drop m p.left; end = p.end })) h.1 (less_left m p.left p.end h.0, h.1)

bytes : (n : ℕ) (p : Piece) → Within n p → Sound n (Leaves n) (bytes_at p)
unfolding bytes_at
bytes n p h = bind n (Starts n p) (Leaves n) (u32_at p) _ (u32 n p h) (λ x k. taken n x.0 x.1 k.0)

name : (n : ℕ) (p : Piece) → Within n p → Sound n (Leaves n) (name_at p)
unfolding name_at
name n p h = bind n (Starts n p) (Leaves n) (u32_at p) _ (u32 n p h) (λ x k.
    bind n (Leaves n) (Leaves n) (taken_at x.0 x.1) _ (taken n x.0 x.1 k.0) (λ t l. choice n (Leaves n) (is_utf8 t.0) (Ok t) (Err (Malformed (place x.1))) l (place_in n x.1 k.0)))

-- ---- entries

-- a reading that is sound at each piece
abbrev Good : {A : Type 0} → Reading A → Type 0
Good reading = (n : ℕ) (p : Piece) → Within n p → Sound n (Leaves n) (reading p)

items : {A : Type 0} (reading : Reading A) → Good reading → (n count : ℕ) (p : Piece) → Within n p → Sound n (Leaves n) (items_at reading count p)
unfolding items_at
items reading good n zero p h = h
items reading good n (suc count) p h = bind n (Leaves n) (Leaves n) (reading p) _ (good n p h) (λ x k. bind n (Leaves n) (Leaves n) (items_at reading count x.1) _ (items reading good n count x.1 k) (λ y l. l))

list : {A : Type 0} (reading : Reading A) → Good reading → (n : ℕ) (p : Piece) → Within n p → Sound n (Leaves n) (list_at reading p)
list reading good n p h = bind n (Leaves n) (Leaves n) (limited_at (2 ^ 20) p) _ (limited n (2 ^ 20) p h) (λ x k. items reading good n x.0 x.1 k)

value_type : (n : ℕ) (p : Piece) → Within n p → Sound n (Within n) (value_type_at p)
unfolding value_type_at
value_type n p h = bind n (Starts n p) (Within n) (byte_at p) _ (byte n p h) (λ b k.
    choice n (Within n) (b.0 == 0x7F) (Ok b.1) (if nat_le 0x7C b.0 && nat_le b.0 0x7E then Err (Unsupported (place p)) else Err (Malformed (place p))) k.0
    (choice n (Within n) (nat_le 0x7C b.0 && nat_le b.0 0x7E) (Err (Unsupported (place p))) (Err (Malformed (place p))) k.1 (place_in n p h)))

value_types : (n m : ℕ) (p : Piece) → Within n p → Sound n (Within n) (value_types_at m p)
unfolding value_types_at
value_types n zero p h = h
value_types n (suc m) p h = bind n (Within n) (Within n) (value_type_at p) _ (value_type n p h) (λ q k. value_types n m q k)

func_type : Good func_type_at
unfolding func_type_at
func_type n p h = bind n (Within n) (Leaves n) (expected_at 0x60 p) _ (expected n 0x60 p h) (λ q k.
    bind n (Leaves n) (Leaves n) (limited_at (2 ^ 16) q) _ (limited n (2 ^ 16) q k) (λ x l.
    bind n (Within n) (Leaves n) (value_types_at x.0 x.1) _ (value_types n x.0 x.1 l) (λ r m.
    bind n (Starts n r) (Leaves n) (u32_at r) _ (u32 n r m) (λ y o.
    bind n (Within n) (Leaves n) (value_types_at y.0 y.1) _ (value_types n y.0 y.1 o.0) (λ s t. t)))))

import_sort : (n : ℕ) (p : Piece) → Within n p → Sound n (Within n) (import_sort_at p)
unfolding import_sort_at
import_sort n p h = bind n (Starts n p) (Within n) (byte_at p) _ (byte n p h) (λ b k.
    choice n (Within n) (b.0 == 0) (Ok b.1) (if nat_le b.0 3 then Err (Unsupported (place p)) else Err (Malformed (place p))) k.0
    (choice n (Within n) (nat_le b.0 3) (Err (Unsupported (place p))) (Err (Malformed (place p))) k.1 (place_in n p h)))

foreigners : Good import_at
unfolding import_at
foreigners n p h = bind n (Leaves n) (Leaves n) (name_at p) _ (name n p h) (λ x k.
    bind n (Leaves n) (Leaves n) (name_at x.1) _ (name n x.1 k) (λ y l.
    bind n (Within n) (Leaves n) (import_sort_at y.1) _ (import_sort n y.1 l) (λ q m.
    bind n (Starts n q) (Leaves n) (u32_at q) _ (u32 n q m) (λ z o. o.0))))

flag : Good flag_at
unfolding flag_at
flag n p h = bind n (Starts n p) (Leaves n) (byte_at p) _ (byte n p h) (λ b k. choice n (Leaves n) (nat_le b.0 1) (Ok (b.0 == 1, b.1)) (Err (Malformed (place p))) k.0 (place_in n p h))

largest : (n : ℕ) (f : Bool) (p : Piece) → Within n p → Sound n (Leaves n) (largest_at f p)
unfolding largest_at
largest n f p h = choice n (Leaves n) f (u32_at p >>= λ x. Ok (Some x.0, x.1)) (Ok (None, p)) (bind n (Starts n p) (Leaves n) (u32_at p) _ (u32 n p h) (λ x k. k.0)) h

limits : Good limits_at
unfolding limits_at
limits n p h = bind n (Leaves n) (Leaves n) (flag_at p) _ (flag n p h) (λ x k.
    bind n (Leaves n) (Leaves n) (limited_at 1024 x.1) _ (limited n 1024 x.1 k) (λ y l.
    bind n (Leaves n) (Leaves n) (largest_at x.0 y.1) _ (largest n x.0 y.1 l) (λ z m. m)))

memories : Good memories_at
unfolding memories_at
memories n p h = bind n (Starts n p) (Leaves n) (u32_at p) _ (u32 n p h) (λ x k.
    choice n (Leaves n) (x.0 == 0) (Ok (None, x.1)) (if x.0 == 1 then (limits_at x.1 >>= λ m. Ok (Some m.0, m.1)) else Err (Unsupported (place p))) k.0
    (choice n (Leaves n) (x.0 == 1) (limits_at x.1 >>= λ m. Ok (Some m.0, m.1)) (Err (Unsupported (place p))) (bind n (Leaves n) (Leaves n) (limits_at x.1) _ (limits n x.1 k.0) (λ m l. l)) k.1))

only : (n opcode : ℕ) (p : Piece) → Within n p → Sound n (Within n) (only_at opcode p)
unfolding only_at
only n opcode p h = bind n (Starts n p) (Within n) (byte_at p) _ (byte n p h) (λ b k.
    choice n (Within n) (b.0 == opcode) (Ok b.1) (if is_instruction b.0 then Err (Unsupported (place p)) else Err (Malformed (place p))) k.0
    (choice n (Within n) (is_instruction b.0) (Err (Unsupported (place p))) (Err (Malformed (place p))) k.1 (place_in n p h)))

initial : Good initial_at
unfolding initial_at
initial n p h = bind n (Within n) (Leaves n) (only_at 0x41 p) _ (only n 0x41 p h) (λ q k.
    bind n (Leaves n) (Leaves n) (i32_at q) _ (i32 n q k) (λ z l.
    bind n (Within n) (Leaves n) (only_at 0x0B z.1) _ (only n 0x0B z.1 l) (λ r m. m)))

global : Good global_at
unfolding global_at
global n p h = bind n (Within n) (Leaves n) (value_type_at p) _ (value_type n p h) (λ q k.
    bind n (Leaves n) (Leaves n) (flag_at q) _ (flag n q k) (λ x l.
    bind n (Leaves n) (Leaves n) (initial_at x.1) _ (initial n x.1 l) (λ z m. m)))

export_sort : Good export_sort_at
unfolding export_sort_at
export_sort n p h = bind n (Starts n p) (Leaves n) (byte_at p) _ (byte n p h) (λ b k.
    choice n (Leaves n) (b.0 == 0 || b.0 == 2 || b.0 == 3) (Ok b) (if b.0 == 1 then Err (Unsupported (place p)) else Err (Malformed (place p))) k.0
    (choice n (Leaves n) (b.0 == 1) (Err (Unsupported (place p))) (Err (Malformed (place p))) k.1 (place_in n p h)))

shown : Good export_at
unfolding export_at
shown n p h = bind n (Leaves n) (Leaves n) (name_at p) _ (name n p h) (λ x k.
    bind n (Leaves n) (Leaves n) (export_sort_at x.1) _ (export_sort n x.1 k) (λ y l.
    bind n (Starts n y.1) (Leaves n) (u32_at y.1) _ (u32 n y.1 l) (λ z m. m.0)))

memory_index : (n : ℕ) (p : Piece) → Within n p → Sound n (Within n) (memory_index_at p)
unfolding memory_index_at
memory_index n p h = bind n (Starts n p) (Within n) (u32_at p) _ (u32 n p h) (λ x k. choice n (Within n) (x.0 == 0) (Ok x.1) (Err (Unsupported (place p))) k.0 k.1)

segment : Good segment_at
unfolding segment_at
segment n p h = bind n (Within n) (Leaves n) (memory_index_at p) _ (memory_index n p h) (λ q k.
    bind n (Leaves n) (Leaves n) (initial_at q) _ (initial n q k) (λ x l.
    bind n (Leaves n) (Leaves n) (bytes_at x.1) _ (bytes n x.1 l) (λ y m. m)))

number : Good u32_at
number n p h = weaker n (Starts n p) (Leaves n) (u32_at p) (λ x k. k.0) (u32 n p h)

-- ---- code

block_type : Good block_type_at
unfolding block_type_at
block_type n p h = bind n (Starts n p) (Leaves n) (byte_at p) _ (byte n p h) (λ b k.
    choice n (Leaves n) (b.0 == 0x40) (Ok (false, b.1)) (value_type_at p >>= λ rest. Ok (true, rest)) k.0
    (bind n (Within n) (Leaves n) (value_type_at p) _ (value_type n p h) (λ q l. l)))

table : Good table_at
unfolding table_at
table n p h = bind n (Leaves n) (Leaves n) (list_at u32_at p) _ (list u32_at number n p h) (λ x k. bind n (Starts n x.1) (Leaves n) (u32_at x.1) _ (u32 n x.1 k) (λ y l. l.0))

access : Good access_at
unfolding access_at
access n p h = bind n (Starts n p) (Leaves n) (u32_at p) _ (u32 n p h) (λ x k. bind n (Starts n x.1) (Leaves n) (u32_at x.1) _ (u32 n x.1 k.0) (λ y l. l.0))

abbrev Any : Coded → Type 0
Any i = Unit {0}

plain : (n at op : ℕ) → at < n → Sound n Any (plain_of at op)
unfolding plain_of
plain n at op lt =
    choice n Any (op == 0x05) (Ok (op, Plain)) _ tt
    (choice n Any (is_comparison op) (Ok (op, Plain)) _ tt
    (choice n Any (is_arithmetic op) (Ok (op, Plain)) _ tt
    (choice n Any (is_control op) (Ok (op, Plain)) _ tt
    (choice n Any (is_instruction op) (Err (Unsupported at)) (Err (Malformed at)) lt (omega arith)))))

operands : (n at op : ℕ) → at < n → (p : Piece) → Within n p → Sound n (Leaves n) (operands_at at op p)
unfolding operands_at
operands n at op lt p h =
    choice n (Leaves n) (is_block op) _ _ (bind n (Leaves n) (Leaves n) (block_type_at p) _ (block_type n p h) (λ x k. k))
    (choice n (Leaves n) (is_indexed op) _ _ (bind n (Starts n p) (Leaves n) (u32_at p) _ (u32 n p h) (λ x k. k.0))
    (choice n (Leaves n) (is_access op) _ _ (bind n (Leaves n) (Leaves n) (access_at p) _ (access n p h) (λ x k. k))
    (choice n (Leaves n) (is_sizing op) _ _ (bind n (Within n) (Leaves n) (expected_at 0 p) _ (expected n 0 p h) (λ q k. k))
    (choice n (Leaves n) (op == 0x0E) _ _ (table n p h)
    (choice n (Leaves n) (op == 0x41) _ _ (bind n (Leaves n) (Leaves n) (i32_at p) _ (i32 n p h) (λ x k. k))
    (bind n Any (Leaves n) (plain_of at op) _ (plain n at op lt) (λ i k. h)))))))

opcode : (n : ℕ) (blocks : Blocks) (p : Piece) → Within n p → Sound n (Starts n p) (opcode_at blocks p)
unfolding opcode_at
opcode n blocks p h = bind n (Starts n p) (Starts n p) (byte_at p) _ (byte n p h) (λ b k.
    choice n (Starts n p) (is_block b.0) _ _
    (choice n (Starts n p) (nat_lt (length blocks) (2 ^ 20)) (Ok b) (Err (TooLarge (place p))) k k.1)
    (choice n (Starts n p) (b.0 == 0x05) _ (Ok b) (choice n (Starts n p) (may_have_else blocks) (Ok b) (Err (Malformed (place p))) k (place_in n p h)) k))

code : (n m : ℕ) (blocks : Blocks) (p : Piece) → Within n p → Sound n (Leaves n) (code_at m blocks p)
unfolding code_at
code n zero blocks p h = place_in n p h
code n (suc m) blocks p h = bind n (Starts n p) (Leaves n) (opcode_at blocks p) _ (opcode n blocks p h) (λ op k.
    bind n (Leaves n) (Leaves n) (operands_at (place p) op.0 op.1) _ (operands n (place p) op.0 k.1 op.1 k.0) (λ i l.
    choice n (Leaves n) (is_last blocks op.0) (Ok (i.0 ∷ [], i.1)) (code_at m (blocks_after op.0 blocks) i.1 >>= λ more. Ok (i.0 ∷ more.0, more.1)) l
    (bind n (Leaves n) (Leaves n) (code_at m (blocks_after op.0 blocks) i.1) _ (code n m (blocks_after op.0 blocks) i.1 l) (λ more o. o))))

runs : (n count room : ℕ) (p : Piece) → Within n p → Sound n (Leaves n) (runs_at count room p)
unfolding runs_at
runs n zero room p h = h
runs n (suc count) room p h = bind n (Leaves n) (Leaves n) (limited_at room p) _ (limited n room p h) (λ x k.
    bind n (Within n) (Leaves n) (value_type_at x.1) _ (value_type n x.1 k) (λ q l.
    bind n (Leaves n) (Leaves n) (runs_at count (room - x.0) q) _ (runs n count (room - x.0) q l) (λ more m. m)))

locals : (n params : ℕ) (p : Piece) → Within n p → Sound n (Leaves n) (locals_at params p)
unfolding locals_at
locals n params p h = bind n (Starts n p) (Leaves n) (u32_at p) _ (u32 n p h) (λ x k. runs n x.0 (2 ^ 16 - params) x.1 k.0)

-- ---- contents of a stated size

abbrev Pieces : ℕ → Cut → Type 0
Pieces n w = Within n w.inside × Within n w.behind

cut : (n size : ℕ) (p : Piece) → Within n p → Pieces n (cut_at size p)
cut n size p h =
    let m = min size (length p.left) in
    let all : length p.left ≤ p.end = h.0 in
    let end : p.end ≤ n = h.1 in
    let front = length-take m p.left in
    let back = length-drop m p.left in
    let few : m ≤ length p.left = omega arith in
    ((omega (arith, front, back), omega arith), (omega (arith, back), end))

sized : (n : ℕ) (p : Piece) → Within n p → Sound n (Pieces n) (sized_at p)
unfolding sized_at
sized n p h = bind n (Starts n p) (Pieces n) (u32_at p) _ (u32 n p h) (λ x k. cut n x.0 x.1 k.0)

filled : {A : Type 0} (reading : Reading A) → ((n : ℕ) (p : Piece) → Within n p → Sound n (Leaves n) (reading p)) → (n : ℕ) (w : Cut) → Pieces n w → Sound n (Leaves n) (filled_at reading w)
filled reading good n w h = bind n (Leaves n) (Leaves n) (reading w.inside) _ (good n w.inside h.0) (λ x k.
    bind n (Within n) (Leaves n) (closed_at w x.1) _ (choice n (Within n) ((length x.1.left == 0) && w.whole) (Ok w.behind) (Err (Malformed (place x.1))) h.1 (place_in n x.1 k)) (λ q l. l))

function : (n params : ℕ) (p : Piece) → Within n p → Sound n (Leaves n) (function_at params p)
unfolding function_at
function n params p h = bind n (Leaves n) (Leaves n) (locals_at params p) _ (locals n params p h) (λ x k.
    bind n (Leaves n) (Leaves n) (code_at (length x.1.left) [] x.1) _ (code n (length x.1.left) [] x.1 k) (λ y l. l))

body : (n params : ℕ) (p : Piece) → Within n p → Sound n (Leaves n) (body_at params p)
unfolding body_at
body n params p h = bind n (Pieces n) (Leaves n) (sized_at p) _ (sized n p h) (λ w k. filled (function_at params) (λ n q l. function n params q l) n w k)

-- ---- sections

custom : (n : ℕ) (p : Piece) → Within n p → Sound n (Within n) (custom_at p)
unfolding custom_at
custom n p h = bind n (Within n) (Within n) (expected_at 0 p) _ (expected n 0 p h) (λ q k.
    bind n (Pieces n) (Within n) (sized_at q) _ (sized n q k) (λ w l.
    bind n (Leaves n) (Within n) (name_at w.inside) _ (name n w.inside l.0) (λ x m.
    choice n (Within n) w.whole (Ok w.behind) (Err (Malformed w.inside.end)) l.1 l.0.1)))

customs : (n m : ℕ) (p : Piece) → Within n p → Sound n (Within n) (customs_at m p)
unfolding customs_at
customs n zero p h = h
customs n (suc m) p h = choice n (Within n) (begins_with 0 p) (custom_at p >>= customs_at m) (Ok p) (bind n (Within n) (Within n) (custom_at p) _ (custom n p h) (λ q k. customs n m q k)) h

abbrev Opened : ℕ → Option Cut → Type 0
Opened n None = Unit {0}
Opened n (Some w) = Pieces n w

opened : (n id : ℕ) (p : Piece) → Within n p → Sound n (Opened n) (opened_at id p)
unfolding opened_at
opened n id p h = choice n (Opened n) (begins_with id p) _ (Ok None)
    (bind n (Pieces n) (Opened n) (expected_at id p >>= sized_at) _ (bind n (Within n) (Pieces n) (expected_at id p) _ (expected n id p h) (λ q k. sized n q k)) (λ w l. l)) tt

contents : {A : Type 0} (reading : Reading A) → ((n : ℕ) (p : Piece) → Within n p → Sound n (Leaves n) (reading p)) → (absent : A) (n : ℕ) (p : Piece) (w : Option Cut) → Within n p → Opened n w → Sound n (Leaves n) (contents_at reading absent p w)
contents reading good absent n p None h k = h
contents reading good absent n p (Some w) h k = filled reading good n w k

section : {A : Type 0} (id : ℕ) (reading : Reading A) → ((n : ℕ) (p : Piece) → Within n p → Sound n (Leaves n) (reading p)) → (absent : A) (n : ℕ) (p : Piece) → Within n p → Sound n (Leaves n) (section_at id reading absent p)
section id reading good absent n p h = bind n (Within n) (Leaves n) (past_customs p) _ (customs n (length p.left) p h) (λ q k.
    bind n (Opened n) (Leaves n) (opened_at id q) _ (opened n id q k) (λ w l. contents reading good absent n q w k l))

begins_in : (n id : ℕ) (left : List ℕ) (end : ℕ) → length left ≤ end → end ≤ n → is_first id left ≡ true → end - length left < n
begins_in n id [] end l e b = absurd cc
begins_in n id (byte ∷ left) end l e b = omega arith

choice_with : {A : Type 0} (n : ℕ) (P : A → Type 0) (b : Bool) (r s : Result A ModFault) → (b ≡ true → Sound n P r) → Sound n P s → Sound n P (if b then r else s)
choice_with n P true r s h k = h refl
choice_with n P false r s h k = k

other : (n id : ℕ) (p : Piece) → Within n p → Sound n (Within n) (other_at id p)
unfolding other_at
other n id p h = bind n (Within n) (Within n) (past_customs p) _ (customs n (length p.left) p h) (λ q k.
    choice_with n (Within n) (begins_with id q) (Err (Unsupported (place q))) (Ok q) (λ b. begins_in n id q.left q.end k.0 k.1 b) k)

start : Good start_at
unfolding start_at
start n p h = bind n (Starts n p) (Leaves n) (u32_at p) _ (u32 n p h) (λ x k. k.0)

each_body : (n : ℕ) (all : List ℕ) (p : Piece) → Within n p → Sound n (Leaves n) (each_body_at all p)
unfolding each_body_at
each_body n [] p h = h
each_body n (params ∷ others) p h = bind n (Leaves n) (Leaves n) (body_at params p) _ (body n params p h) (λ x k. bind n (Leaves n) (Leaves n) (each_body_at others x.1) _ (each_body n others x.1 k) (λ y l. l))

bodies : (types : List FuncType) (funcs : List ℕ) (n : ℕ) (p : Piece) → Within n p → Sound n (Leaves n) (bodies_at types funcs p)
unfolding bodies_at
bodies types funcs n p h = bind n (Starts n p) (Leaves n) (u32_at p) _ (u32 n p h) (λ x k.
    choice n (Leaves n) (x.0 == length funcs) (each_body_at (map (params_of types) funcs) x.1) (Err (Malformed (place p))) (each_body n (map (params_of types) funcs) x.1 k.0) (place_in n p h))

code_section : (types : List FuncType) (funcs : List ℕ) (n : ℕ) (p : Piece) → Within n p → Sound n (Leaves n) (code_section_at types funcs p)
unfolding code_section_at
code_section types funcs n p h = bind n (Within n) (Leaves n) (past_customs p) _ (customs n (length p.left) p h) (λ q k.
    bind n (Opened n) (Leaves n) (opened_at 10 q) _ (opened n 10 q k) (λ w l.
    choice n (Leaves n) ((length funcs == 0) || is_some w) (contents_at (bodies_at types funcs) [] q w) (Err (Malformed (place q)))
    (contents (bodies_at types funcs) (bodies types funcs) [] n q w k l) (place_in n q k)))

ending : (n : ℕ) (p : Piece) → Within n p → Sound n (Within n) (end_at p)
unfolding end_at
ending n p h = bind n (Within n) (Within n) (past_customs p) _ (customs n (length p.left) p h) (λ q k. choice n (Within n) (length q.left == 0) (Ok q) (Err (Malformed (place q))) k (place_in n q k))

header : (n : ℕ) (p : Piece) → Within n p → Sound n (Within n) (header_at p)
unfolding header_at
header n p h =
    bind n (Within n) (Within n) _ (expected_at 0x00)
    (bind n (Within n) (Within n) _ (expected_at 0x00)
    (bind n (Within n) (Within n) _ (expected_at 0x00)
    (bind n (Within n) (Within n) _ (expected_at 0x01)
    (bind n (Within n) (Within n) _ (expected_at 0x6D)
    (bind n (Within n) (Within n) _ (expected_at 0x73)
    (bind n (Within n) (Within n) (expected_at 0x00 p) (expected_at 0x61) (expected n 0x00 p h) (expected n 0x61))
    (expected n 0x73)) (expected n 0x6D)) (expected n 0x01)) (expected n 0x00)) (expected n 0x00)) (expected n 0x00)

front : Good front_at
unfolding front_at
front n p h = bind n (Within n) (Leaves n) (header_at p) _ (header n p h) (λ a ka.
    bind n (Leaves n) (Leaves n) _ _ (section 1 (list_at func_type_at) (list func_type_at func_type) [] n a ka) (λ b kb.
    bind n (Leaves n) (Leaves n) _ _ (section 2 (list_at import_at) (list import_at foreigners) [] n b.1 kb) (λ c kc.
    bind n (Leaves n) (Leaves n) _ _ (section 3 (list_at u32_at) (list u32_at number) [] n c.1 kc) (λ d kd.
    bind n (Within n) (Leaves n) _ _ (other n 4 d.1 kd) (λ e ke.
    bind n (Leaves n) (Leaves n) _ _ (section 5 memories_at memories None n e ke) (λ f kf.
    bind n (Leaves n) (Leaves n) _ _ (section 6 (list_at global_at) (list global_at global) [] n f.1 kf) (λ g kg.
    bind n (Leaves n) (Leaves n) _ _ (section 7 (list_at export_at) (list export_at shown) [] n g.1 kg) (λ i ki.
    bind n (Leaves n) (Leaves n) _ _ (section 8 start_at start None n i.1 ki) (λ j kj. kj)))))))))

abbrev Whole : Parts → Type 0
Whole parts = Unit {0}

whole : (n : ℕ) (p : Piece) → Within n p → Sound n Whole (module_at p)
unfolding module_at
whole n p h = bind n (Leaves n) Whole (front_at p) _ (front n p h) (λ a ka.
    bind n (Within n) Whole _ _ (other n 9 a.1 ka) (λ b kb.
    bind n (Leaves n) Whole _ _ (code_section a.0.types a.0.funcs n b kb) (λ c kc.
    bind n (Leaves n) Whole _ _ (section 11 (list_at segment_at) (list segment_at segment) [] n c.1 kc) (λ d kd.
    bind n (Within n) Whole _ _ (ending n d.1 kd) (λ e ke. tt)))))

refused_within : (n : ℕ) (r : Result Parts ModFault) (fault : ModFault) → Sound n Whole r → r ≡ Err fault → IsFaultWithin n fault
refused_within n (Ok m) fault h e = absurd cc
refused_within n (Err f) fault h e = let same : f ≡ fault = cc in subst (IsFaultWithin n) same h

all_within : (bytes : List ℕ) (fault : ModFault) → module_in bytes ≡ Err fault → IsFaultWithin (length bytes) fault
all_within bytes fault e = refused_within (length bytes) (module_in bytes) fault (whole (length bytes) (record { left = bytes; end = length bytes }) (omega arith, omega arith)) e

-- a refusal, but for want of memory, lies within the file
pub faults_within : (bytes : List ℕ) (fault : ModFault) → fault ≢ Memory → IsRefusedFor bytes fault → IsFaultWithin (length bytes) fault
faults_within bytes (Malformed at) other h = all_within bytes (Malformed at) h
faults_within bytes (Unsupported at) other h = all_within bytes (Unsupported at) h
faults_within bytes (TooLarge at) other h = all_within bytes (TooLarge at) h
faults_within bytes Memory other h = absurd (other refl)

pub no_memory : (bytes : List ℕ) → module_in bytes ≡ Err Memory → ⊥
no_memory bytes e = all_within bytes Memory e
