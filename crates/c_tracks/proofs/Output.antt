-- Instructions that ask for words, write, or take a byte.
use Rattle.std.proofs.Common.{◌≡◌, ℕ, zero, suc, ◌+◌, ◌%◌, ◌/◌, ◌^◌, ◌<◌, Bool, true, false, List, [], ◌∷◌, ◌++◌, Ok, map, refl, sym, ap, ◌∙◌, subst, if◌then◌else◌, append_assoc, arith}
use Rattle.std.proofs.Common.{append-nil}
use Rattle.std.specs.Prelude.{◌==◌, nat_lt, ℤ, pos, negsuc}
use Rattle.std.specs.List.{AllByRecursion}
use Rattle.std.specs.Fmt.{digit_glyph, digits_onto, digits, signed_decimal}
use Rattle.word24.specs.declared.word.Word as rust_word
use Rattle.word24.specs.Word.{number_of, signed_of}
use Rattle.c_eval.specs.State as run
use Rattle.c_eval.specs.State.{State, Run}
use Rattle.c_eval.specs.Run.{◌>>=◌, after, give, undefined, put, put_all}
use Rattle.c_eval.specs.Operators as operators
use Rattle.c_code.specs.Code as instruction
use Rattle.c_code.specs.Machine as code
use Rattle.c_code.specs.Machine.{Control, step_of, with_top}
use Rattle.c_rule.specs.Stepping.{FlatCode, Store, fresh, fed}
use Rattle.c_store.specs.declared.act.Act.TheVariants as act
use Rattle.c_store.specs.Values.{Value, Word}
use Rattle.c_resolved.specs.Same.{Tables, Same, word, null, point, letter, function, missing, SameValues, no_value, more_values, lengths_of}
use Rattle.c_plain.specs.declared.instruction.Unary.TheVariants as unary
use Rattle.c_plain.specs.declared.instruction.Instruction.TheVariants as plain
use Rattle.c_plain.specs.Machine as machine
use Rattle.c_plain.specs.Machine.{Machine, Step, quiet, wrote, unless_act, on_top, onward, with_values}
use Rattle.c_plain.specs.Operators as plain_operators
use Rattle.c_plain.specs.Operators.{number_in}
use Rattle.c_plain.specs.Program.{Program}
use Rattle.c_plain.specs.Rule as rule
use Rattle.c_plain.specs.Rule.{step, hex_digits, text_put, arguments_of}
use Rattle.c_tracks.specs.Tracks.{TracksAt, Follows, goes, stops}
use Rattle.c_tracks.proofs.Basics.{top, stand, pushes, stands}
use Rattle.c_tracks.proofs.Simple.{append_same}

-- ---- bytes

put_all_output : (cs : List ℕ) → AllByRecursion (λ c. c < 2 ^ 8) cs → (st : State) → put_all cs st ≡ run.Gives tt (record st { output = st.output ++ cs })
unfolding put_all put ◌>>=◌ after give
put_all_output [] all st = ap (λ (o : List ℕ). run.Gives tt (record st { output = o })) (sym (append-nil st.output))
put_all_output (c ∷ cs) all st =
    let small : c % 2 ^ 8 ≡ c = omega (arith, all.0) in
    put_all_output cs all.1 (record st { output = st.output ++ c % 2 ^ 8 ∷ [] })
    ∙ ap (λ (o : List ℕ). run.Gives tt (record st { output = o })) (append_assoc st.output (c % 2 ^ 8 ∷ []) cs ∙ ap (λ (d : ℕ). st.output ++ d ∷ cs) small)

glyph_byte : (b : Bool) (d : ℕ) → d < 10 → (if b then 48 + d else 87 + d) < 2 ^ 8
glyph_byte true d lt = omega (arith, lt)
glyph_byte false d lt = omega (arith, lt)

bytes_if : (b : Bool) (xs ys : List ℕ) → AllByRecursion (λ c. c < 2 ^ 8) xs → AllByRecursion (λ c. c < 2 ^ 8) ys → AllByRecursion (λ c. c < 2 ^ 8) (if b then xs else ys)
bytes_if true xs ys p q = p
bytes_if false xs ys p q = q

digits_bytes : (k n : ℕ) (acc : List ℕ) → AllByRecursion (λ c. c < 2 ^ 8) acc → AllByRecursion (λ c. c < 2 ^ 8) (digits_onto k 10 false n acc)
digits_bytes zero n acc all = all
digits_bytes (suc k) n acc all =
    let last : (digit_glyph false (n % 10)) < 2 ^ 8 = glyph_byte (nat_lt (n % 10) 10) (n % 10) (omega arith) in
    bytes_if (n / 10 == 0) (digit_glyph false (n % 10) ∷ acc) (digits_onto k 10 false (n / 10) (digit_glyph false (n % 10) ∷ acc)) (last, all) (digits_bytes k (n / 10) (digit_glyph false (n % 10) ∷ acc) (last, all))

signed_bytes : (z : ℤ) → AllByRecursion (λ c. c < 2 ^ 8) (signed_decimal z)
unfolding digits
signed_bytes (pos n) = digits_bytes 64 n [] tt
signed_bytes (negsuc n) = (omega arith, digits_bytes 64 (suc n) [] tt)

-- ---- a word is asked for

word_then : {base : List ℕ} → (t : Tables) (st : State) → st.output ≡ [] → {A : Type 0} → (F : ℕ → Run A) (G : A → Run Control) (g : ℕ → Step) → {v : run.Value} → {w : Value} → Same t (lengths_of st.objects) v w
    → ((n : ℕ) → Follows base t (after (F n st) G) (g n)) → Follows base t (after (operators.of_word v F st) G) (unless_act (number_in w) g)
unfolding operators.of_word undefined after
word_then t st e F G g (word n) next = next n
word_then t st e F G g null next = stops act.OtherKind e
word_then t st e F G g (point o n k f) next = stops act.OtherKind e
word_then t st e F G g (letter owner l x k f own) next = stops act.OtherKind e
word_then t st e F G g (function m name f) next = stops act.OtherKind e
word_then t st e F G g missing next = stops act.OtherKind e

word_next : {base : List ℕ} → (t : Tables) (st : State) → st.output ≡ [] → (F : ℕ → Run Control) (g : ℕ → Step) → {v : run.Value} → {w : Value} → Same t (lengths_of st.objects) v w
    → ((n : ℕ) → Follows base t (F n st) (g n)) → Follows base t (operators.of_word v F st) (unless_act (number_in w) g)
unfolding operators.of_word undefined
word_next t st e F g (word n) next = next n
word_next t st e F g null next = stops act.OtherKind e
word_next t st e F g (point o n k f) next = stops act.OtherKind e
word_next t st e F g (letter owner l x k f own) next = stops act.OtherKind e
word_next t st e F g (function m name f) next = stops act.OtherKind e
word_next t st e F g missing next = stops act.OtherKind e

words_same : (t : Tables) (lengths ns : List ℕ) → SameValues t lengths (map run.Word ns) (map Word ns)
words_same t lengths [] = no_value
words_same t lengths (n ∷ ns) = more_values (word n) (words_same t lengths ns)

-- the machine goes on behind a piece
given_on : {base : List ℕ} → (t : Tables) (c : Control) (s : Store) (m : Machine) → TracksAt base t c s m → (bytes : List ℕ) (rest : List run.Value) (others : List Value) → SameValues t (lengths_of s.objects) rest others
    → Follows base t (after {A = Unit {0}} {B = Control} (run.Gives tt (record (fresh s) { output = [] ++ bytes })) (λ _. give (record c { at = suc c.at; stack = rest }))) (wrote (onward (with_values m others)) bytes)
unfolding after give
given_on t c s m tracks bytes rest others below = goes (stand t c s m tracks (suc c.at) (suc m.at) rest others (ap suc tracks.at) below) refl

put_on : {base : List ℕ} → (t : Tables) (c : Control) (s : Store) (m : Machine) → TracksAt base t c s m → (n : ℕ) (rest : List run.Value) (others : List Value) → SameValues t (lengths_of s.objects) rest others
    → Follows base t (after (put n (fresh s)) (λ _. give (record c { at = suc c.at; stack = rest }))) (wrote (onward (with_values m others)) (n % 2 ^ 8 ∷ []))
unfolding after give put
put_on t c s m tracks n rest others below = goes (stand t c s m tracks (suc c.at) (suc m.at) rest others (ap suc tracks.at) below) refl

digit_on : {base : List ℕ} → (t : Tables) (c : Control) (s : Store) (m : Machine) → TracksAt base t c s m → (rest : List run.Value) (others : List Value) → SameValues t (lengths_of s.objects) rest others → {v : run.Value} → {w : Value} → Same t (lengths_of s.objects) v w
    → Follows base t (code.digit_put c rest v (fresh s)) (rule.digit_put m w others)
unfolding code.digit_put after give put ◌>>=◌ undefined
digit_on t c s m tracks rest others below (word n) = goes (stand t c s m tracks c.at m.at rest others tracks.at below) refl
digit_on t c s m tracks rest others below missing = goes (stand t c s m tracks (suc c.at) (suc m.at) rest others (ap suc tracks.at) below) refl
digit_on t c s m tracks rest others below null = stops act.OtherKind refl
digit_on t c s m tracks rest others below (point o n k e) = stops act.OtherKind refl
digit_on t c s m tracks rest others below (letter owner l x k e own) = stops act.OtherKind refl
digit_on t c s m tracks rest others below (function g name e) = stops act.OtherKind refl

checked_on : {base : List ℕ} → (t : Tables) (c : Control) (s : Store) (m : Machine) → TracksAt base t c s m → (rest : List run.Value) (others : List Value) → SameValues t (lengths_of s.objects) rest others → {v : run.Value} → {w : Value} → Same t (lengths_of s.objects) v w
    → Follows base t (operators.of_word v (λ n. give (code.pushed c rest (run.Word n))) (fresh s)) (unless_act (plain_operators.and_then (number_in w) (λ n. Ok (Word n))) (λ x. quiet (machine.pushed m others x)))
unfolding operators.of_word undefined
checked_on t c s m tracks rest others below (word n) = pushes t c s m tracks (run.Word n) (Word n) rest others (word n) below
checked_on t c s m tracks rest others below null = stops act.OtherKind refl
checked_on t c s m tracks rest others below (point o n k e) = stops act.OtherKind refl
checked_on t c s m tracks rest others below (letter owner l x k e own) = stops act.OtherKind refl
checked_on t c s m tracks rest others below (function g name e) = stops act.OtherKind refl
checked_on t c s m tracks rest others below missing = stops act.OtherKind refl

module _ {base : List ℕ} (t : Tables) (p : Program) (is_t : t.literals ≡ p.literals) (f : FlatCode) (byte : ℕ) (c : Control) (s : Store) (m : Machine) (tracks : TracksAt base t c s m) where
  pub spelled_on : (F : ℕ → List ℕ) → ((n : ℕ) → AllByRecursion (λ d. d < 2 ^ 8) (F n))
      → Follows base t (with_top c.stack (λ v rest. operators.of_word v (λ n. put_all (F n)) >>= λ _. give (record c { at = suc c.at; stack = rest })) (fresh s)) (rule.spelled m F)
  unfolding ◌>>=◌
  spelled_on F small =
      top t (lengths_of s.objects) (fresh s) refl (λ v rest st. after (operators.of_word v (λ n. put_all (F n)) st) (λ _. give (record c { at = suc c.at; stack = rest })))
      (λ v rest. unless_act (number_in v) (λ n. wrote (onward (with_values m rest)) (F n))) tracks.values
      (λ v rest w others same below.
      word_then t (fresh s) refl (λ n. put_all (F n)) (λ _. give (record c { at = suc c.at; stack = rest })) (λ n. wrote (onward (with_values m others)) (F n)) same
      (λ n. spelled_word (F n) (small n) rest others below))
    where
      spelled_word : (bytes : List ℕ) → AllByRecursion (λ d. d < 2 ^ 8) bytes → (rest : List run.Value) (others : List Value) → SameValues t (lengths_of s.objects) rest others
          → Follows base t (after (put_all bytes (fresh s)) (λ _. give (record c { at = suc c.at; stack = rest }))) (wrote (onward (with_values m others)) bytes)
      spelled_word bytes all rest others below =
          subst (λ (o : run.Outcome (Unit {0})). Follows base t (after o (λ _. give (record c { at = suc c.at; stack = rest }))) (wrote (onward (with_values m others)) bytes)) (sym (put_all_output bytes all (fresh s))) (given_on t c s m tracks bytes rest others below)

  pub decimal_top : Follows base t (step_of (fed f byte) instruction.Decimal c (fresh s)) (step p byte plain.Decimal m)
  unfolding step_of
  decimal_top = spelled_on (λ n. signed_decimal (signed_of n)) (λ n. signed_bytes (signed_of n))

  pub unsigned_top : Follows base t (step_of (fed f byte) instruction.Unsigned c (fresh s)) (step p byte plain.Unsigned m)
  unfolding step_of
  unsigned_top = spelled_on (λ n. digits 10 false n) (λ n. signed_bytes (pos n))

  pub character_top : Follows base t (step_of (fed f byte) instruction.Character c (fresh s)) (step p byte plain.Character m)
  unfolding step_of ◌>>=◌
  character_top =
      top t (lengths_of s.objects) (fresh s) refl (λ v rest st. after (operators.of_word v put st) (λ _. give (record c { at = suc c.at; stack = rest })))
      (λ v rest. unless_act (number_in v) (λ n. wrote (onward (with_values m rest)) (n % 2 ^ 8 ∷ []))) tracks.values
      (λ v rest w others same below.
      word_then t (fresh s) refl put (λ _. give (record c { at = suc c.at; stack = rest })) (λ n. wrote (onward (with_values m others)) (n % 2 ^ 8 ∷ [])) same (λ n. put_on t c s m tracks n rest others below))

  pub put_byte : (d : ℕ) → d < 2 ^ 8 → Follows base t (step_of (fed f byte) (instruction.Put d) c (fresh s)) (step p byte (plain.Put d) m)
  unfolding step_of ◌>>=◌
  put_byte d small =
      let same : d % 2 ^ 8 ≡ d = omega (arith, small) in
      subst (λ (e : ℕ). Follows base t (after (put d (fresh s)) (λ _. give (code.onward c))) (wrote (onward m) (e ∷ []))) same (put_on t c s m tracks d c.stack m.values.mine tracks.values)

  pub hex_top : Follows base t (step_of (fed f byte) instruction.Hex c (fresh s)) (step p byte plain.Hex m)
  unfolding step_of
  hex_top =
      top t (lengths_of s.objects) (fresh s) refl (λ v rest. operators.of_word v (λ n. give (record c { at = suc c.at; stack = map run.Word (digits 16 false n) ++ run.Missing ∷ rest })))
      (λ v rest. unless_act (number_in v) (λ n. quiet (onward (with_values m (hex_digits n ++ rest))))) tracks.values
      (λ v rest w others same below.
      word_next t (fresh s) refl (λ n. give (record c { at = suc c.at; stack = map run.Word (digits 16 false n) ++ run.Missing ∷ rest })) (λ n. quiet (onward (with_values m (hex_digits n ++ others)))) same
      (λ n.
      stands t c s m tracks (suc c.at) (suc m.at) (map run.Word (digits 16 false n) ++ run.Missing ∷ rest) (hex_digits n ++ others) (ap suc tracks.at)
      (subst (λ (vs : List run.Value). SameValues t (lengths_of s.objects) vs (hex_digits n ++ others)) (append_assoc (map run.Word (digits 16 false n)) (run.Missing ∷ []) rest)
      (append_same t (lengths_of s.objects) (append_same t (lengths_of s.objects) (words_same t (lengths_of s.objects) (digits 16 false n)) (more_values missing no_value)) below))))

  pub digits_top : Follows base t (step_of (fed f byte) instruction.Digits c (fresh s)) (step p byte plain.Digits m)
  unfolding step_of
  digits_top =
      top t (lengths_of s.objects) (fresh s) refl (λ v rest. code.digit_put c rest v) (λ v rest. rule.digit_put m v rest) tracks.values
      (λ v rest w others same below. digit_on t c s m tracks rest others below same)

  pub jump_at : (w : rust_word.Word) (n : ℕ) → Follows base t (step_of (fed f byte) (instruction.JumpAt (number_of w) n) c (fresh s)) (step p byte (plain.JumpAt w n) m)
  unfolding step_of
  jump_at w n =
      top t (lengths_of s.objects) (fresh s) refl (λ v rest. operators.of_word v (λ x. give (if number_of w == x then record c { at = suc c.at + n; stack = rest } else code.onward c)))
      (λ v rest. unless_act (number_in v) (λ x. quiet (if number_of w == x then record (with_values m rest) { at = suc m.at + n } else onward m))) tracks.values
      (λ v rest u others same below.
      word_next t (fresh s) refl (λ x. give (if number_of w == x then record c { at = suc c.at + n; stack = rest } else code.onward c)) (λ x. quiet (if number_of w == x then record (with_values m others) { at = suc m.at + n } else onward m)) same
      (λ x. by (number_of w == x) rest others below))
    where
      by : (b : Bool) (rest : List run.Value) (others : List Value) → SameValues t (lengths_of s.objects) rest others
          → Follows base t (give (if b then record c { at = suc c.at + n; stack = rest } else code.onward c) (fresh s)) (quiet (if b then record (with_values m others) { at = suc m.at + n } else onward m))
      by true rest others below = stands t c s m tracks (suc c.at + n) (suc m.at + n) rest others (ap (λ (k : ℕ). suc k + n) tracks.at) below
      by false rest others below = stands t c s m tracks (suc c.at) (suc m.at) c.stack m.values.mine (ap suc tracks.at) tracks.values

  pub check_word : Follows base t (step_of (fed f byte) instruction.CheckWord c (fresh s)) (step p byte (plain.Unary unary.CheckWord) m)
  unfolding step_of
  check_word =
      top t (lengths_of s.objects) (fresh s) refl (λ v rest. operators.of_word v (λ n. give (code.pushed c rest (run.Word n))))
      (λ v rest. unless_act (plain_operators.and_then (number_in v) (λ n. Ok (Word n))) (λ w. quiet (machine.pushed m rest w))) tracks.values
      (λ v rest w others same below. checked_on t c s m tracks rest others below same)
