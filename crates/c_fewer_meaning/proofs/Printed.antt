-- What is printed of arguments is what is printed of them as parameters.
use Rattle.std.proofs.Common.{◌≡◌, ℕ, zero, suc, List, [], ◌∷◌, Option, Some, None, Bool, true, false, refl, sym, ap, ◌∙◌, subst}
use Rattle.std.specs.Prelude.{◌==◌, map, codes, if◌then◌else◌}
use Rattle.std.specs.List.{list_any}
use Rattle.std.specs.Option.{option_map}
use Rattle.std.proofs.lemmas.Bool.{eqb-true}
use Rattle.c_syntax.specs.Plain as plain
use Rattle.c_types.specs.Types.{CTypes, types}
use Rattle.c_types.specs.Operands.{conversions_behind, conversions_of}
use Rattle.c_eval.specs.State.{Value, Word, Null, Point, Letter, Function, Missing, State, Run}
use Rattle.c_eval.specs.Run.{after, ◌>>=◌, give, spend, paid, put, objects_now}
use Rattle.c_eval.specs.Operators.{as_pointer, converted, all_converted}
use Rattle.c_eval.specs.BuiltIns.{put_string_at, convert, with_argument, put_format, printf}
use Rattle.c_helpers.specs.Functions.{conversion_type, arguments_from}
use Rattle.c_fewer_types.specs.Stands.{head_type}
use Rattle.c_fewer_values.proofs.Runs.{first_is, bind_each}

-- the types of a format's parameters
abbrev pub printed_types : ℕ → List ℕ → CTypes
printed_types i letters = types (map (λ d. head_type d.ty) (arguments_from i letters))

null_spells : (n : ℕ) (st : State) → put_string_at false Null st ≡ put_string_at false (Word n) st
unfolding put_string_at objects_now ◌>>=◌ after
null_spells n st = refl

string_same : (p : Value) (st : State) → put_string_at false (as_pointer p) st ≡ put_string_at false p st
string_same (Word n) st = go (n == 0)
  where
    go : (b : Bool) → put_string_at false (if b then Null else Word n) st ≡ put_string_at false (Word n) st
    go true = null_spells n st
    go false = refl
string_same Null st = refl
string_same (Point o k) st = refl
string_same (Letter f i text k) st = refl
string_same (Function f) st = refl
string_same Missing st = refl

of_string : (v : Value) → convert false 115 v ≡ put_string_at false v
unfolding convert
of_string v = refl

convert_same : (letter : ℕ) (v : Value) (st : State) → convert false letter (converted (head_type (conversion_type letter)) v) st ≡ convert false letter v st
convert_same letter v st = go (letter == 115) refl (letter == 100) (letter == 99)
  where
    go : (b : Bool) → (letter == 115) ≡ b → (c d : Bool) → convert false letter (converted (head_type (if b then plain.Pointer plain.Char else if c then plain.Int else if d then plain.Int else plain.Unsigned)) v) st ≡ convert false letter v st
    go true e c d =
        subst (λ n. convert false n (as_pointer v) st ≡ convert false n v st) (sym (eqb-true letter 115 e))
        (ap (λ (m : Run (Unit {0})). m st) (of_string (as_pointer v)) ∙ (string_same v st ∙ ap (λ (m : Run (Unit {0})). m st) (sym (of_string v))))
    go false e true d = refl
    go false e false true = refl
    go false e false false = refl

-- the letters behind a first one
more_letters : (letter : ℕ) (o : Option (List ℕ)) (letters : List ℕ) → option_map (λ ls. letter ∷ ls) o ≡ Some letters → (rest : List ℕ) × (o ≡ Some rest) × (letter ∷ rest ≡ letters)
more_letters letter (Some rest) letters e = let same : letter ∷ rest ≡ letters = cc e in (rest, refl, same)
more_letters letter None letters e = absurd (cc e)

abbrev Rest : List ℕ → Type 0
Rest format = (percent : Bool) (i : ℕ) (letters : List ℕ) (vs : List Value) (st : State) → conversions_behind percent format ≡ Some letters → put_format false percent format (all_converted (printed_types i letters) vs) st ≡ put_format false percent format vs st

plain_piece : (c : ℕ) (format : List ℕ) (more : Rest format) (i : ℕ) (letters : List ℕ) (vs : List Value) (st : State) → conversions_behind (c == 37) format ≡ Some letters → put_format false false (c ∷ format) (all_converted (printed_types i letters) vs) st ≡ put_format false false (c ∷ format) vs st
unfolding put_format
plain_piece c format more i letters vs st e = go (c == 37) e
  where
    go : (b : Bool) → conversions_behind b format ≡ Some letters
        → (if b then put_format false true format (all_converted (printed_types i letters) vs) else (put c >>= λ _. put_format false false format (all_converted (printed_types i letters) vs))) st ≡ (if b then put_format false true format vs else (put c >>= λ _. put_format false false format vs)) st
    go true e = more true i letters vs st e
    go false e = bind_each (put c) (λ _. put_format false false format (all_converted (printed_types i letters) vs)) (λ _. put_format false false format vs) st (λ u st. more false i letters vs st e)

argument_piece : (c : ℕ) (format : List ℕ) (more : Rest format) (i : ℕ) (rest : List ℕ) (vs : List Value) (st : State) → conversions_behind false format ≡ Some rest
    → with_argument (all_converted (printed_types i (c ∷ rest)) vs) (λ v vs. convert false c v >>= λ _. put_format false false format vs) st ≡ with_argument vs (λ v vs. convert false c v >>= λ _. put_format false false format vs) st
unfolding with_argument
argument_piece c format more i rest [] st e = refl
argument_piece c format more i rest (v ∷ vs) st e =
    first_is (convert false c (converted (head_type (conversion_type c)) v)) (convert false c v) (λ _. put_format false false format (all_converted (printed_types (suc i) rest) vs)) st (convert_same c v st)
    ∙ bind_each (convert false c v) (λ _. put_format false false format (all_converted (printed_types (suc i) rest) vs)) (λ _. put_format false false format vs) st (λ u st. more false (suc i) rest vs st e)

percent_piece : (c : ℕ) (format : List ℕ) (more : Rest format) (i : ℕ) (letters : List ℕ) (vs : List Value) (st : State)
    → (if c == 37 then conversions_behind false format else if list_any (λ d. c == d) (codes "duxcs") then option_map (λ letters. c ∷ letters) (conversions_behind false format) else None) ≡ Some letters
    → put_format false true (c ∷ format) (all_converted (printed_types i letters) vs) st ≡ put_format false true (c ∷ format) vs st
unfolding put_format
percent_piece c format more i letters vs st e = go (c == 37) (list_any (λ d. c == d) (codes "duxcs")) e
  where
    go : (b l : Bool) → (if b then conversions_behind false format else if l then option_map (λ letters. c ∷ letters) (conversions_behind false format) else None) ≡ Some letters
        → (if b then (put c >>= λ _. put_format false false format (all_converted (printed_types i letters) vs)) else with_argument (all_converted (printed_types i letters) vs) (λ v rest. convert false c v >>= λ _. put_format false false format rest)) st
        ≡ (if b then (put c >>= λ _. put_format false false format vs) else with_argument vs (λ v rest. convert false c v >>= λ _. put_format false false format rest)) st
    go true l e = bind_each (put c) (λ _. put_format false false format (all_converted (printed_types i letters) vs)) (λ _. put_format false false format vs) st (λ u st. more false i letters vs st e)
    go false true e =
        let k = more_letters c (conversions_behind false format) letters e in
        subst (λ ls. with_argument (all_converted (printed_types i ls) vs) (λ v rest. convert false c v >>= λ _. put_format false false format rest) st ≡ with_argument vs (λ v rest. convert false c v >>= λ _. put_format false false format rest) st) k.2 (argument_piece c format more i k.0 vs st k.1)
    go false false e = absurd (cc e)

-- nothing is left to print
none_left : (percent : Bool) (vs ws : List Value) (st : State) → put_format false percent [] vs st ≡ put_format false percent [] ws st
unfolding put_format
none_left false vs ws st = refl
none_left true vs ws st = refl

format_same : (format : List ℕ) → Rest format
format_same [] percent i letters vs st e = none_left percent (all_converted (printed_types i letters) vs) vs st
format_same (c ∷ format) false i letters vs st e = plain_piece c format (λ percent i letters vs st e. format_same format percent i letters vs st e) i letters vs st e
format_same (c ∷ format) true i letters vs st e = percent_piece c format (λ percent i letters vs st e. format_same format percent i letters vs st e) i letters vs st e

-- `printf` with arguments as its function has them
pub printed_same : (format letters : List ℕ) (vs : List Value) (st : State) → conversions_of format ≡ Some letters → printf false (Some format) (all_converted (printed_types 0 letters) vs) st ≡ printf false (Some format) vs st
unfolding printf
printed_same format letters vs st e = first_is (put_format false false format (all_converted (printed_types 0 letters) vs)) (put_format false false format vs) (λ _. give Missing) st (format_same format false 0 letters vs st e)

-- a unit that is spent before
spend_same : {A : Type 0} (n : ℕ) (m o : Run A) (st : State) → ((st : State) → m st ≡ o st) → spend m n st ≡ spend o n st
unfolding spend
spend_same zero m o st h = refl
spend_same (suc n) m o st h = h (record st { left = n })

pub paid_same : {A : Type 0} (m o : Run A) (st : State) → ((st : State) → m st ≡ o st) → paid false m st ≡ paid false o st
unfolding paid
paid_same m o st h = spend_same st.left m o st h
