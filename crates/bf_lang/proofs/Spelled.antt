-- Which texts spell which commands.
use Rattle.std.proofs.Common.{◌≡◌, ◌≢◌, ◌⊎◌, inl, inr, ℕ, zero, suc, ◌+◌, ◌-◌, ◌<◌, ◌≤◌, Bool, true, false, cond, List, [], ◌∷◌, ◌++◌, length, take, Option, Some, None, Result, Ok, Err, refl, sym, ap, ◌∙◌, arith, subst, slice_get, get_or, nat_eq}
use Rattle.std.specs.Option.{option_map}
use Rattle.std.proofs.lemmas.List.{take_more, take_all}
use Rattle.std.proofs.lemmas.Option.{slice_get-get_or}
use Rattle.bf_lang.specs.declared.command.Command.{Command}
use Rattle.bf_lang.specs.declared.command.Command.TheVariants.{Right, Left, Plus, Minus, Write, Read, Open, Close}
use Rattle.bf_lang.specs.declared.text.BfFault.{BfFault}
use Rattle.bf_lang.specs.declared.text.BfFault.TheVariants.{Unopened, Unclosed, Memory}
use Rattle.bf_lang.specs.declared.text.Brackets.{Brackets}
use Rattle.bf_lang.specs.Balance.{IsBalanced, is_open, is_close}
use Rattle.bf_lang.specs.Brackets.{Stands, IsUnopened, IsUnclosed}
use Rattle.bf_lang.specs.Reading.{IsScanned}
use Rattle.bf_lang.specs.Text.{byte_of, command_of, with_command, commands_in, is_open_byte, is_close_byte, bf_spells, IsFirst, IsReadAs}
use Rattle.bf_lang.specs.Laws.{text_of, IsReadInOneWay, AreSpelled}
use Rattle.bf_lang.proofs.Counts.{At, at}
use Rattle.bf_lang.proofs.Counts.At.{Opens, Closes, Plain}
use Rattle.bf_lang.proofs.Depths.{Known, known_none, known_more, known_less, known_first, known_of, paired_known, balanced_paired, paired_balanced, balanced_text}
use Rattle.bf_lang.proofs.Scanned.{bytes_apart, scanned_none, scanned_plain, scanned_open, scanned_close, first_unopened, first_unclosed, all_paired}

-- the text of commands spells them
pub read_back : (code : List Command) → code ≡ commands_in (text_of code)
read_back [] = refl
read_back (Right ∷ cs) = ap (λ xs. Right ∷ xs) (read_back cs)
read_back (Left ∷ cs) = ap (λ xs. Left ∷ xs) (read_back cs)
read_back (Plus ∷ cs) = ap (λ xs. Plus ∷ xs) (read_back cs)
read_back (Minus ∷ cs) = ap (λ xs. Minus ∷ xs) (read_back cs)
read_back (Write ∷ cs) = ap (λ xs. Write ∷ xs) (read_back cs)
read_back (Read ∷ cs) = ap (λ xs. Read ∷ xs) (read_back cs)
read_back (Open ∷ cs) = ap (λ xs. Open ∷ xs) (read_back cs)
read_back (Close ∷ cs) = ap (λ xs. Close ∷ xs) (read_back cs)

same_kind : (c : Command) → (is_open_byte (byte_of c) ≡ is_open c) × (is_close_byte (byte_of c) ≡ is_close c)
same_kind Right = (refl, refl)
same_kind Left = (refl, refl)
same_kind Plus = (refl, refl)
same_kind Minus = (refl, refl)
same_kind Write = (refl, refl)
same_kind Read = (refl, refl)
same_kind Open = (refl, refl)
same_kind Close = (refl, refl)

known_bytes : (code : List Command) (d e : ℕ) → Known is_open is_close code d e → Known is_open_byte is_close_byte (text_of code) d e
known_bytes [] d e k = let same : d ≡ e = omega (arith, k.level) in known_none is_open_byte is_close_byte d e same
known_bytes (c ∷ cs) d e k = by (is_open c) (is_close c) d refl refl k (λ d' k'. known_bytes cs d' e k') where
  by : (a b : Bool) (d : ℕ) → is_open c ≡ a → is_close c ≡ b → Known is_open is_close (c ∷ cs) d e → ((d : ℕ) → Known is_open is_close cs d e → Known is_open_byte is_close_byte (text_of cs) d e) → Known is_open_byte is_close_byte (text_of (c ∷ cs)) d e
  by false false d o s k rest = known_more is_open_byte is_close_byte (byte_of c) (text_of cs) false false d d e ((same_kind c).0 ∙ o) ((same_kind c).1 ∙ s) refl (rest d (known_less is_open is_close c cs false false d d e o s refl k))
  by true true d o s k rest = known_more is_open_byte is_close_byte (byte_of c) (text_of cs) true true d d e ((same_kind c).0 ∙ o) ((same_kind c).1 ∙ s) refl (rest d (known_less is_open is_close c cs true true d d e o s refl k))
  by true false d o s k rest =
      let step : 1 + d ≡ 0 + suc d = omega arith in
      known_more is_open_byte is_close_byte (byte_of c) (text_of cs) true false d (suc d) e ((same_kind c).0 ∙ o) ((same_kind c).1 ∙ s) step (rest (suc d) (known_less is_open is_close c cs true false d (suc d) e o s step k))
  by false true zero o s k rest = absurd (known_first is_open is_close c cs e s o k)
  by false true (suc d) o s k rest =
      let step : 0 + suc d ≡ 1 + d = omega arith in
      known_more is_open_byte is_close_byte (byte_of c) (text_of cs) false true (suc d) d e ((same_kind c).0 ∙ o) ((same_kind c).1 ∙ s) step (rest d (known_less is_open is_close c cs false true (suc d) d e o s step k))

pub are_spelled : (code : List Command) → AreSpelled code
are_spelled code = record {
  paired = (λ balanced. paired_balanced code balanced, λ paired. balanced_paired code paired);
  text = λ balanced. record {
    commands = read_back code;
    paired = paired_known is_open_byte is_close_byte (text_of code) bytes_apart (known_bytes code 0 0 (known_of code 0 0 balanced));
  };
}

pub spelled_balanced : (text : List ℕ) (code : List Command) → bf_spells text code → IsBalanced code
spelled_balanced text code s = subst (λ xs. IsBalanced xs) (sym s.commands) (balanced_text text s.paired)

-- one byte further
with_append : (o : Option Command) (xs ys : List Command) → with_command o (xs ++ ys) ≡ with_command o xs ++ ys
with_append None xs ys = refl
with_append (Some c) xs ys = refl

commands_push : (bytes : List ℕ) (byte : ℕ) → commands_in (bytes ++ byte ∷ []) ≡ commands_in bytes ++ with_command (command_of byte) []
commands_push [] byte = refl
commands_push (b ∷ bytes) byte = ap (with_command (command_of b)) (commands_push bytes byte) ∙ with_append (command_of b) (commands_in bytes) (with_command (command_of byte) [])

pub commands_more : (text : List ℕ) (k : ℕ) → k < length text → commands_in (take (k + 1) text) ≡ commands_in (take k text) ++ with_command (command_of (get_or text k 0)) []
commands_more text k l = ap commands_in (take_more text k 0 l) ∙ commands_push (take k text) (get_or text k 0)

pub commands_all : (text : List ℕ) → commands_in (take (length text) text) ≡ commands_in text
commands_all text = ap commands_in (take_all (length text) text (omega arith))

with_length : (o : Option Command) (xs : List Command) → length (with_command o xs) ≤ length xs + 1
with_length None xs = omega arith
with_length (Some c) xs = omega arith

pub commands_few : (text : List ℕ) → length (commands_in text) ≤ length text
commands_few [] = omega arith
commands_few (byte ∷ bytes) = omega (arith, with_length (command_of byte) (commands_in bytes), commands_few bytes)

-- a byte and the brackets
pub byte_stands : (test : ℕ → Bool) (text : List ℕ) (k : ℕ) → k < length text → option_map test (slice_get text k) ≡ Some (test (get_or text k 0))
byte_stands test text k l = ap (option_map test) (slice_get-get_or text k 0 l)

-- each text is spelled or refused
data Scan (text : List ℕ) (k : ℕ) : Type 0 where
  Refused : (place : ℕ) → IsFirst (IsUnopened is_open_byte is_close_byte text) place → Scan text k
  Reached : (b : Brackets) → IsScanned text k b → Scan text k

scan : (text : List ℕ) (k : ℕ) → k ≤ length text → Scan text k
scan text zero le = Reached (record { depth = 0; outer = 0 }) (scanned_none text)
scan text (suc n) le = on (scan text n low) where
  low : n ≤ length text
  low = omega arith

  there : n < length text
  there = omega arith

  next : n + 1 ≡ suc n
  next = omega arith

  reached : (b : Brackets) → IsScanned text (n + 1) b → Scan text (suc n)
  reached b s = Reached b (subst (λ m. IsScanned text m b) next s)

  on : Scan text n → Scan text (suc n)
  on (Refused place f) = Refused place f
  on (Reached b s) = by (at is_open_byte is_close_byte text bytes_apart n there) where
    close : (d : ℕ) → b.depth ≡ d → Stands is_close_byte text n → Scan text (suc n)
    close zero e c = Refused n (first_unopened text n b s e c)
    close (suc d) e c = reached (record { depth = b.depth - 1; outer = b.outer }) (scanned_close text n b s there c (omega (arith, e)))

    by : At is_open_byte is_close_byte text n → Scan text (suc n)
    by (Opens o e f) = reached (record { depth = b.depth + 1; outer = cond (nat_eq b.depth 0) n b.outer }) (scanned_open text n b s there o)
    by (Closes c e f) = close b.depth refl c
    by (Plain o c e f) = reached b (scanned_plain text n b s there o c)

abbrev Outcome : Type 0
Outcome = Result (List Command) BfFault

ok_differs : (code : List Command) → (a b : Outcome) → a ≡ Ok code → b ≡ Err Memory → a ≢ b
ok_differs code a b e f h = cc

unopened_differs : (place : ℕ) → (a b : Outcome) → a ≡ Err (Unopened place) → b ≡ Err Memory → a ≢ b
unopened_differs place a b e f h = cc

unclosed_differs : (place : ℕ) → (a b : Outcome) → a ≡ Err (Unclosed place) → b ≡ Err Memory → a ≢ b
unclosed_differs place a b e f h = cc

read_some : (text : List ℕ) → (r : Result (List Command) BfFault) × IsReadAs text r × (r ≢ Err Memory)
read_some text = by (scan text (length text) (omega arith)) where
  by_depth : (b : Brackets) → IsScanned text (length text) b → (d : ℕ) → b.depth ≡ d → (r : Result (List Command) BfFault) × IsReadAs text r × (r ≢ Err Memory)
  by_depth b s zero e = (Ok (commands_in text), record { commands = refl; paired = all_paired text b s e }, ok_differs (commands_in text) (Ok (commands_in text)) (Err Memory) refl refl)
  by_depth b s (suc d) e = (Err (Unclosed b.outer), first_unclosed text b s (omega (arith, e)), unclosed_differs b.outer (Err (Unclosed b.outer)) (Err Memory) refl refl)

  by : Scan text (length text) → (r : Result (List Command) BfFault) × IsReadAs text r × (r ≢ Err Memory)
  by (Refused place f) = (Err (Unopened place), f, unopened_differs place (Err (Unopened place)) (Err Memory) refl refl)
  by (Reached b s) = by_depth b s b.depth refl

before_same_or_behind : (a b : ℕ) → (a < b) ⊎ ((a ≡ b) ⊎ (b < a))
before_same_or_behind a b = grind arith

first_once : (P : ℕ → Type 0) (a b : ℕ) → IsFirst P a → IsFirst P b → a ≡ b
first_once P a b f g = by (before_same_or_behind a b) where
  by : (a < b) ⊎ ((a ≡ b) ⊎ (b < a)) → a ≡ b
  by (inl l) = absurd (g.none_before a l f.holds)
  by (inr (inl e)) = e
  by (inr (inr l)) = absurd (f.none_before b l g.holds)

read_one : (text : List ℕ) (r r' : Result (List Command) BfFault) → IsReadAs text r → IsReadAs text r' → r ≢ Err Memory → r' ≢ Err Memory → r ≡ r'
read_one text (Ok c) (Ok d) a b m n = ap (λ x. Ok x) (a.commands ∙ sym b.commands)
read_one text (Ok c) (Err (Unopened p)) a b m n = let o = a.paired.opened p b.holds.closing in absurd (b.holds.alone o.0 o.1)
read_one text (Ok c) (Err (Unclosed p)) a b m n = let o = a.paired.closed p b.1.holds.opening in absurd (b.1.holds.alone o.0 o.1)
read_one text (Ok c) (Err Memory) a b m n = absurd (n refl)
read_one text (Err (Unopened p)) (Ok c) a b m n = let o = b.paired.opened p a.holds.closing in absurd (a.holds.alone o.0 o.1)
read_one text (Err (Unopened p)) (Err (Unopened q)) a b m n = ap (λ k. Err (Unopened k)) (first_once (IsUnopened is_open_byte is_close_byte text) p q a b)
read_one text (Err (Unopened p)) (Err (Unclosed q)) a b m n = absurd (b.0 p a.holds)
read_one text (Err (Unopened p)) (Err Memory) a b m n = absurd (n refl)
read_one text (Err (Unclosed p)) (Ok c) a b m n = let o = b.paired.closed p a.1.holds.opening in absurd (a.1.holds.alone o.0 o.1)
read_one text (Err (Unclosed p)) (Err (Unopened q)) a b m n = absurd (a.0 q b.holds)
read_one text (Err (Unclosed p)) (Err (Unclosed q)) a b m n = ap (λ k. Err (Unclosed k)) (first_once (IsUnclosed is_open_byte is_close_byte text) p q a.1 b.1)
read_one text (Err (Unclosed p)) (Err Memory) a b m n = absurd (n refl)
read_one text (Err Memory) r a b m n = absurd (m refl)

pub read_in_one_way : (text : List ℕ) → IsReadInOneWay text
read_in_one_way text = record { some = read_some text; one = λ r r' a b m n. read_one text r r' a b m n }
