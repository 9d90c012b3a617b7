-- The program to which a text is lowered: data words, an opening call of `main`, and the code of each function.
use Rattle.std.specs.Prelude.{ℕ, zero, suc, ◌+◌, Bool, true, false, List, [], ◌∷◌, ◌++◌, length, map, Option, Some, None, is_some, if◌then◌else◌, codes}
use Rattle.std.specs.List.{flat_map}
use Rattle.std.specs.Str.{bytes_eq}
use Rattle.word24.specs.declared.word.Word.{Word as TheWord}
use Rattle.eir_core.specs.declared.ops.Reg.TheVariants.{A, BP}
use Rattle.eir_core.specs.declared.ops.Operand.TheVariants.{Reg as register}
use Rattle.eir_core.specs.declared.ops.Op.{Op}
use Rattle.eir_core.specs.declared.ops.Op.TheVariants.{Mov, Store, Exit, Jump}
use Rattle.eir_core.specs.Eir.{Eir}
use Rattle.c_syntax.specs.Plain as plain
use Rattle.c_syntax.specs.Plain.{CStmt, CItem, CUnit}
use Rattle.c_types.specs.Declarations.{scope_or}
use Rattle.c_types.specs.Units.{item_judged}
use Rattle.c_eval.specs.State.{Value, Word, Null, Point, Letter, Function, Missing, Cell, Unset, Holds, Object}
use Rattle.c_eval.specs.Memory.{same_owner}
use Rattle.c_eval.specs.Environment.{Environment}
use Rattle.c_eval.specs.LiteralsIn.{first_literals, stmt_literals}
use Rattle.c_eval.specs.Text.{Definition, text_of, behind_item, file_start}
use Rattle.c_place.specs.Code.{program}
use Rattle.c_lowered.specs.Locations.{Location, Fixed, Framed, Linking, located}
use Rattle.c_lowered.specs.Operations.{wrapped, constant, return_code}
use Rattle.c_lowered.specs.Counts.{stmt_jumps}
use Rattle.c_lowered.specs.Statements.{stmt_code, targets}

-- ---- the memory: null's word, the objects with first values, the string literals, the other objects, and then the frames

-- whether each object at file scope has a first value
abbrev pub firsts_given : List CItem → List Bool
firsts_given [] = []
firsts_given (plain.Object d ∷ items) = is_some d.first ∷ firsts_given items
firsts_given (item ∷ items) = firsts_given items

-- the words of those objects for which this is so
abbrev pub words_given : Bool → List Bool → List Object → ℕ
words_given wanted (given ∷ more) (x ∷ xs) = (if given then (if wanted then length x.cells else 0) else (if wanted then 0 else length x.cells)) + words_given wanted more xs
words_given wanted _ _ = 0

-- those with first values lie from one address on, and the others from another
abbrev pub file_bases : List Bool → List Object → (given other : ℕ) → List Location
file_bases (true ∷ more) (x ∷ xs) given other = Fixed given ∷ file_bases more xs (given + length x.cells) other
file_bases (false ∷ more) (x ∷ xs) given other = Fixed other ∷ file_bases more xs given (other + length x.cells)
file_bases _ _ given other = []

-- the literals of first values at file scope
abbrev pub item_literals : CItem → Environment → List (List ℕ)
item_literals (plain.Object d) here = first_literals (scope_or here.scope (item_judged here.scope (plain.Object d))) d.first
item_literals item here = []

abbrev pub file_literals : List CItem → Environment → List (List ℕ)
file_literals [] here = []
file_literals (item ∷ items) here = item_literals item here ++ file_literals items (behind_item item here)

-- the literals of the text by the function in which they stand, those at file scope first
abbrev pub Literals : Type 0
Literals = List (Option (List ℕ) × List (List ℕ))

abbrev pub literals_of : CUnit → Literals
literals_of u = (None, file_literals u.items (file_start u)) ∷ map (λ f. (Some f.name, stmt_literals f.scope f.body)) (text_of u).functions

-- a literal has a word for each byte and one for its zero
abbrev pub letter_words : List ℕ → List ℕ
letter_words text = text ++ 0 ∷ []

abbrev pub all_letters : Literals → List ℕ
all_letters [] = []
all_letters (entry ∷ more) = flat_map letter_words entry.1 ++ all_letters more

-- how far behind the first the literal of a number begins
abbrev pub letters_before : ℕ → List (List ℕ) → ℕ
letters_before zero texts = 0
letters_before (suc n) [] = 0
letters_before (suc n) (text ∷ texts) = length text + 1 + letters_before n texts

abbrev pub literal_address : Literals → ℕ → Option (List ℕ) → ℕ → ℕ
literal_address [] a owner number = a
literal_address (entry ∷ more) a owner number =
    if same_owner entry.0 owner then a + letters_before number entry.1 else literal_address more (a + length (flat_map letter_words entry.1)) owner number

-- ---- the functions

-- the jumps of a function's code, which returns at its end
abbrev pub function_jumps : Definition → ℕ
function_jumps f = stmt_jumps f.body + 1

-- the first block of a function
abbrev pub entry_in : List Definition → ℕ → List ℕ → ℕ
entry_in [] k name = 0
entry_in (f ∷ fs) k name = if bytes_eq name f.name then k else entry_in fs (k + function_jumps f) name

-- parameters lie behind the frame's first word, one word each
abbrev pub parameter_names : List (List ℕ) → ℕ → List (List ℕ × Option ℕ)
parameter_names [] n = []
parameter_names (name ∷ names) n = (name, Some n) ∷ parameter_names names (suc n)

abbrev pub parameter_bases : List (List ℕ) → ℕ → List Location
parameter_bases [] d = []
parameter_bases (name ∷ names) d = Framed d ∷ parameter_bases names (suc d)

-- at the start of a function's body
abbrev pub function_start : Linking → List (List ℕ × Option ℕ) → Definition → Environment
function_start w names f = record {
  scope = f.scope;
  objects = parameter_names f.params (length w.bases) ++ names;
  next = length w.bases + length f.params;
  literals_before = 0;
}

abbrev pub function_linking : Linking → Definition → Linking
function_linking w f = record w { owner = Some f.name; bases = w.bases ++ parameter_bases f.params 1 }

abbrev pub function_code : Linking → List (List ℕ × Option ℕ) → Definition → ℕ → List Op
function_code w names f k = stmt_code f.body (function_linking w f) (function_start w names f) k (suc (length f.params)) (targets 0 0) ++ return_code

abbrev pub functions_code : Linking → List (List ℕ × Option ℕ) → List Definition → ℕ → List Op
functions_code w names [] k = []
functions_code w names (f ∷ fs) k = function_code w names f k ++ functions_code w names fs (k + function_jumps f)

-- ---- the whole

-- the first address behind the data words
abbrev pub data_end : CUnit → ℕ
data_end u = 1 + words_given true (firsts_given u.items) (text_of u).objects + length (all_letters (literals_of u))

-- the base of the opening call's frame
abbrev pub frames : CUnit → ℕ
frames u = data_end u + words_given false (firsts_given u.items) (text_of u).objects

abbrev pub linking_of : CUnit → Linking
linking_of u = record {
  owner = None;
  entry = entry_in (text_of u).functions 2;
  literal = literal_address (literals_of u) (1 + words_given true (firsts_given u.items) (text_of u).objects);
  bases = file_bases (firsts_given u.items) (text_of u).objects 1 (data_end u);
}

-- the opening call of `main`, which returns to the end of the run
abbrev pub opening_code : ℕ → ℕ → List Op
opening_code base main =
    Mov BP (constant base) ∷ Mov A (constant 1) ∷ Store A (register BP) ∷ Jump (constant main) ∷ Exit ∷ Jump (constant 0) ∷ []

abbrev pub whole_code : CUnit → List Op
whole_code u = opening_code (frames u) ((linking_of u).entry (codes "main")) ++ functions_code (linking_of u) (text_of u).names (text_of u).functions 2

-- the word of a value: a function is the number of its first block, and an object its address
abbrev pub address_in : Location → ℕ
address_in (Fixed a) = a
address_in (Framed d) = d

abbrev pub word_of : Linking → Value → ℕ
word_of w (Word n) = n
word_of w Null = 0
word_of w (Point o k) = address_in (located w (Some (Some o))) + k
word_of w (Letter f i text k) = w.literal f i + k
word_of w (Function name) = w.entry name
word_of w Missing = 0

abbrev pub cell_word : Linking → Cell → ℕ
cell_word w Unset = 0
cell_word w (Holds v) = word_of w v

abbrev pub given_words : Linking → List Bool → List Object → List ℕ
given_words w (true ∷ more) (x ∷ xs) = map (cell_word w) x.cells ++ given_words w more xs
given_words w (false ∷ more) (x ∷ xs) = given_words w more xs
given_words w _ _ = []

abbrev pub data_words : CUnit → List ℕ
data_words u = 0 ∷ (given_words (linking_of u) (firsts_given u.items) (text_of u).objects ++ all_letters (literals_of u))

abbrev pub words_from : List ℕ → List TheWord
words_from ns = map wrapped ns

-- of a text whose operators became calls of helper functions
unfoldable pub lowered : CUnit → Eir
lowered u = program (whole_code u) (words_from (data_words u))
