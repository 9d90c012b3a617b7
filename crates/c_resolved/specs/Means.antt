-- Which plain instruction an instruction of C's code is.
use Rattle.std.specs.Prelude.{◌≡◌, ℕ, zero, suc, ◌<◌, ◌^◌, List, [], ◌∷◌, length, map, replicate, Some, slice_get, codes, if◌then◌else◌, Bool, true, false}
use Rattle.std.specs.Str.{bytes_eq}
use Rattle.word24.specs.Word.{number_of}
use Rattle.c_syntax.specs.declared.tree.StepOp.{StepOp}
use Rattle.c_syntax.specs.declared.tree.StepOp.TheVariants as stepping
use Rattle.c_types.specs.Types.{CTypes, NoType, MoreType, Int}
use Rattle.c_eval.specs.State as run
use Rattle.c_eval.specs.Memory as memory
use Rattle.c_eval.specs.Eval.{step_op}
use Rattle.c_code.specs.Code as code
use Rattle.c_store.specs.declared.kind.Kind.{Kind}
use Rattle.c_store.specs.declared.kind.Kind.TheVariants.{Number}
use Rattle.c_store.specs.Values.{Value}
use Rattle.c_resolved.specs.Same.{kind_in, Tables, Same}
use Rattle.c_plain.specs.declared.instruction.Arguments.{Arguments}
use Rattle.c_plain.specs.declared.instruction.First.{First}
use Rattle.c_plain.specs.declared.instruction.BuiltIn.{BuiltIn}
use Rattle.c_plain.specs.declared.instruction.BuiltIn.TheVariants as known
use Rattle.c_plain.specs.declared.instruction.Unary.TheVariants as unary
use Rattle.c_plain.specs.declared.instruction.Instruction.{Instruction}
use Rattle.c_plain.specs.declared.instruction.Instruction.TheVariants as plain
use Rattle.c_plain.specs.Program.{Program, in_span}
use Rattle.c_resolved.specs.Resolved.{kind_of, fetch_of, follow_of, operation_of, HasElements}

-- the names of the functions, by number, with the literals of a program
abbrev pub tables_of : List (List ℕ) → Program → Tables
tables_of names p = record { names = names; literals = p.literals }

-- how many cells each object of file scope has
abbrev pub file_lengths : Program → List ℕ
file_lengths p = map (λ cells. length cells) p.objects

-- a step behind its operand gives the value before
abbrev pub gives_old : StepOp → Bool
gives_old stepping.PreInc = false
gives_old stepping.PreDec = false
gives_old stepping.PostInc = true
gives_old stepping.PostDec = true

-- the function that is always known by a name
abbrev pub known_by : List ℕ → BuiltIn
known_by name =
    if bytes_eq name (codes "getchar") then known.GetChar
    else if bytes_eq name (codes "__builtin_getc") then known.GetByte
    else if bytes_eq name (codes "putchar") then known.PutChar
    else if bytes_eq name (codes "exit") then known.Exit
    else known.Other

-- the kinds to which so many arguments convert: one without a parameter stays as it is
abbrev pub argument_kinds : CTypes → ℕ → List Kind
argument_kinds ts zero = []
argument_kinds NoType (suc n) = Number ∷ argument_kinds NoType n
argument_kinds (MoreType t ts) (suc n) = kind_of t ∷ argument_kinds ts n

abbrev pub AreArguments : Program → CTypes → ℕ → Arguments → Type 0
AreArguments p params count a = (a.count ≡ count) × (in_span p.kinds a.kinds ≡ argument_kinds params count)

abbrev pub IsFirst : (slot offset : ℕ) → First → Type 0
IsFirst slot offset f = (f.slot ≡ slot) × (f.offset ≡ offset)

-- a constant has this number
abbrev pub IsConstant : List (List ℕ) → Program → run.Value → ℕ → Type 0
IsConstant names p v k = (w : Value) × (slice_get p.constants k ≡ Some w) × Same (tables_of names p) (file_lengths p) v w

-- a value is pushed: a word by itself, any other one by its number
abbrev pub Pushes : List (List ℕ) → Program → run.Value → Instruction → Type 0
Pushes names p (run.Word n) (plain.PushWord w) = number_of w ≡ n
Pushes names p v (plain.Push k) = IsConstant names p v k
Pushes names p v _ = ⊥

abbrev pub Builds : Program → List ℕ → CTypes → ℕ → Instruction → Type 0
Builds p name params count (plain.BuiltIn which a) = (which ≡ known_by name) × AreArguments p params count a
Builds p name params count _ = ⊥

abbrev pub Calls : List (List ℕ) → Program → List ℕ → CTypes → ℕ → Instruction → Type 0
Calls names p name params count (plain.Call f a) = (slice_get names f ≡ Some name) × AreArguments p params count a
Calls names p name params count _ = ⊥

abbrev pub CallsThrough : Program → CTypes → ℕ → Instruction → Type 0
CallsThrough p params count (plain.CallThrough a) = AreArguments p params count a
CallsThrough p params count _ = ⊥

abbrev pub Firsts : (slot offset : ℕ) → Kind → Instruction → Type 0
Firsts slot offset kind (plain.First f k) = IsFirst slot offset f × (k ≡ kind)
Firsts slot offset kind _ = ⊥

abbrev pub Clears : Program → (slot offset : ℕ) → List memory.Kind → Instruction → Type 0
Clears p slot offset kinds (plain.Clear f s) = IsFirst slot offset f × (map kind_in (in_span p.kinds s) ≡ kinds)
Clears p slot offset kinds _ = ⊥

abbrev pub Spells : Program → (slot offset : ℕ) → List ℕ → Instruction → Type 0
Spells p slot offset words (plain.Spell f s) = IsFirst slot offset f × (in_span p.bytes s ≡ words)
Spells p slot offset words _ = ⊥

-- a block of unset objects, one for each name of the block
abbrev pub Enters : Program → List (List run.Cell) → ℕ → Instruction → Type 0
Enters p cells count (plain.Enter s) = (map (λ n. replicate n run.Unset) (in_span p.lengths s) ≡ cells) × (length cells ≡ count)
Enters p cells count _ = ⊥

abbrev pub JumpsAt : (word count : ℕ) → Instruction → Type 0
JumpsAt word count (plain.JumpAt w n) = (number_of w ≡ word) × (n ≡ count)
JumpsAt word count _ = ⊥

-- a plain instruction is this one
abbrev pub Means : List (List ℕ) → Program → code.Instruction → Instruction → Type 0
Means names p (code.Push v) i = Pushes names p v i
Means names p code.Drop i = i ≡ plain.Pop
Means names p code.Use i = i ≡ plain.Unary unary.Use
Means names p code.Forget i = i ≡ plain.Unary unary.Forget
Means names p code.Truth i = i ≡ plain.Unary unary.Truth
Means names p code.Negate i = i ≡ plain.Unary unary.Negate
Means names p (code.Convert t) i = i ≡ plain.Unary (unary.Convert (kind_of t))
Means names p code.CheckWord i = i ≡ plain.Unary unary.CheckWord
Means names p (code.Slot slot) i = i ≡ plain.Slot slot
Means names p (code.Global o) i = Pushes names p (run.Point o 0) i
Means names p code.Nowhere i = i ≡ plain.Nowhere
Means names p (code.Fetch t) i = i ≡ plain.Unary (unary.Fetch (fetch_of t))
Means names p (code.Follow t) i = i ≡ plain.Unary (unary.Fetch (follow_of t))
Means names p (code.Member n) i = i ≡ plain.Unary (unary.Member n)
Means names p (code.OneWord op) i = i ≡ plain.Unary (unary.OneWord op)
Means names p (code.Operate tags op t u) i = (i ≡ plain.Operate (operation_of tags op t u)) × HasElements tags op t
Means names p (code.Step tags op t) i = (i ≡ plain.Step (record { kind = kind_of t; operation = operation_of tags (step_op op) t Int; gives_old = gives_old op })) × HasElements tags (step_op op) t
Means names p (code.Assign t) i = i ≡ plain.Assign (kind_of t)
Means names p (code.Update tags op t u) i = (i ≡ plain.Update (kind_of t) (operation_of tags op t u)) × HasElements tags op t
Means names p (code.JumpUnless n) i = i ≡ plain.JumpUnless n
Means names p (code.Jump n) i = i ≡ plain.Jump n
Means names p (code.Back n) i = i ≡ plain.Back n
Means names p (code.JumpAt word n) i = JumpsAt word n i
Means names p code.Pay i = i ≡ plain.Pay
Means names p (code.BuiltIn name params n) i = Builds p name params n i
Means names p (code.Call name params n) i = Calls names p name params n i
Means names p (code.CallThrough params n) i = CallsThrough p params n i
Means names p code.Return i = i ≡ plain.Return
Means names p (code.Put byte) i = (i ≡ plain.Put byte) × (byte < 2 ^ 8)
Means names p code.Decimal i = i ≡ plain.Decimal
Means names p code.Unsigned i = i ≡ plain.Unsigned
Means names p code.Character i = i ≡ plain.Character
Means names p code.Hex i = i ≡ plain.Hex
Means names p code.Digits i = i ≡ plain.Digits
Means names p code.Text i = i ≡ plain.Text
Means names p (code.Turn n) i = i ≡ plain.Turn n
Means names p (code.Printed n) i = i ≡ plain.Printed n
Means names p code.Stuck i = i ≡ plain.Stuck
Means names p (code.First slot offset t) i = Firsts slot offset (kind_of t) i
Means names p (code.Clear slot offset kinds) i = Clears p slot offset kinds i
Means names p (code.Spell slot offset words) i = Spells p slot offset words i
Means names p (code.Enter cells count) i = Enters p cells count i
Means names p code.Leave i = i ≡ plain.Leave
Means names p (code.Loop again past) i = i ≡ plain.Loop again past
Means names p (code.Switch past) i = i ≡ plain.Switch past
Means names p code.Done i = i ≡ plain.Done
Means names p code.Break i = i ≡ plain.Break
Means names p code.Continue i = i ≡ plain.Continue
Means names p code.End i = i ≡ plain.End

-- instructions one for one
pub data MeansAll (names : List (List ℕ)) (p : Program) : List code.Instruction → List Instruction → Type 0 where
  no_code : MeansAll names p [] []
  more_code : {i : code.Instruction} → {j : Instruction} → {is : List code.Instruction} → {js : List Instruction} → Means names p i j → MeansAll names p is js → MeansAll names p (i ∷ is) (j ∷ js)
