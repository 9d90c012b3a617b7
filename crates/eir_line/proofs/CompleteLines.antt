-- What a line spells is its form.
use Rattle.std.proofs.Common.{◌≡◌, ◌≢◌, ℕ, zero, suc, ◌+◌, ◌*◌, ◌<◌, ◌≤◌, ◌⊎◌, Bool, true, false, not, ◌&&◌, ◌==◌, nat_lt, nat_le, cond, List, [], ◌∷◌, ◌++◌, length, take, drop, Option, Some, None, is_some, refl, sym, ap, ◌∙◌, subst, inl, inr, ⊎_elim, append_assoc, length-append, arith}
use Rattle.std.specs.List.{list_all, take_while, prefix_len}
use Rattle.std.specs.Option.{option_map_or}
use Rattle.std.specs.Char.{is_ascii_digit, is_ascii_hexdigit, digit_value}
use Rattle.std.proofs.lemmas.Bool.{eqb-true, leb-true, lt-ltb, false≢true}
use Rattle.std.proofs.lemmas.List.{append-nil}
use Rattle.std.proofs.lemmas.List.Sums.{take_while-cons}
use Rattle.eir_core.specs.declared.ops.Reg.{Reg}
use Rattle.eir_core.specs.declared.ops.Cond.{Cond}
use Rattle.eir_line.specs.declared.words.BinaryOp.{BinaryOp}
use Rattle.eir_line.specs.declared.words.Mnemonic.{Mnemonic}
use Rattle.eir_line.specs.declared.words.Mnemonic.TheVariants as mnemonic
use Rattle.eir_line.specs.Line.{Term, Statement, Line, Nothing, Binary, Putc, Getc, Exit, Jump, JumpIf, Dump, Text, Data, Long, Bytes, Note}
use Rattle.eir_line.specs.Bytes.{◌>>=◌, number_sign, quote, plus, colon, backslash, is_blank, is_octal_digit, starts_name, goes_on_name, begins, drop_while, past_blanks, past_gap, past, past_comma, name_at, ends}
use Rattle.eir_line.specs.Numbers.{value_of}
use Rattle.eir_line.specs.Words.{register_of, mnemonic_of}
use Rattle.eir_line.specs.Grammar.{label_at, labels_at, register_at, number_at, term_at, constant_at, escaped_of, hex_at, octal_at, escape_at, byte_at, string_at, mnemonic_at, operands_at, statement_at, form_of}
use Rattle.eir_line.specs.Spelling.{◌⨾◌, IsByte, AreBlanks, IsGap, IsComma, IsName, IsRegister, SpellsNumber, SpellsTerm, SpellsConstant, SpellsByte, SpellsBytes, IsWord, IsNote, SpellsStatement, SpellsLabels, IsEnd, SpellsLine}
use Rattle.eir_line.proofs.Complete.{both, begins_on, begins_other, begins_less, blank_fails, false_of, Stops, byte_read, blanks_read, gap_read, comma_read, comma_stops, blank_stops, name_read, register_read, number_read, term_read, constant_read, term_no_blank, register_no_blank, number_no_blank, constant_term, no_digit, start_no_blank}

-- a byte of a string is read, it takes a byte at least, and it is no quote
record Reads (b : ℕ) (bytes after text : List ℕ) : Type 0 where
  read : byte_at bytes ≡ Some (b, after)
  more : past quote bytes ≡ None
  first : ℕ
  others : List ℕ
  shape : text ≡ first ∷ others

escape_from : (c : ℕ) (bytes : List ℕ) (octal hex : Bool) → is_octal_digit c ≡ octal → (c == 120) ≡ hex
    → escape_at (c ∷ bytes) ≡ cond octal (octal_at (c ∷ bytes)) (cond hex (hex_at bytes) (escaped_of c >>= (λ b. Some (b, bytes))))
unfolding escape_at
escape_from c bytes octal hex o h =
    ap (λ (p : Bool). cond p (octal_at (c ∷ bytes)) (cond (c == 120) (hex_at bytes) (escaped_of c >>= (λ b. Some (b, bytes))))) o
    ∙ ap (λ (p : Bool). cond octal (octal_at (c ∷ bytes)) (cond p (hex_at bytes) (escaped_of c >>= (λ b. Some (b, bytes))))) h

behind_backslash : (bytes : List ℕ) → byte_at (backslash ∷ bytes) ≡ escape_at bytes
unfolding byte_at
behind_backslash bytes = refl

plain_byte : (b : ℕ) (after : List ℕ) → b ≢ backslash → byte_at (b ∷ after) ≡ Some (b, after)
unfolding byte_at
plain_byte b after h = ap (λ (c : Bool). cond c (escape_at after) (Some (b, after))) (false_of (b == backslash) (λ e. h (eqb-true b backslash e)))

no_quote : (b : ℕ) (after : List ℕ) → b ≢ quote → past quote (b ∷ after) ≡ None
no_quote b after h = ap (λ (c : Bool). cond c (Some after) None) (false_of (b == quote) (λ e. h (eqb-true b quote e)))

none_some : {A : Type 0} (x : A) → None ≡ Some x → ⊥
none_some x e = cc

differs : (c k : ℕ) → c < k ⊎ k < c → (c == k) ≡ false
differs c k h = false_of (c == k) (λ e. let i = eqb-true c k e in ⊎_elim (λ l. omega (arith, i, l)) (λ l. omega (arith, i, l)) h)

-- an octal digit is no mark
octal_no_mark : (c : ℕ) → is_octal_digit c ≡ true → escaped_of c ≡ None
unfolding escaped_of
octal_no_mark c h =
    let p = both (nat_le 48 c) (nat_le c 55) h in
    let low : 48 ≤ c = leb-true 48 c p.0 in
    let high : c ≤ 55 = leb-true c 55 p.1 in
    let e1 : (c == 97) ≡ false = differs c 97 (inl (omega arith)) in
    let e2 : (c == 98) ≡ false = differs c 98 (inl (omega arith)) in
    let e3 : (c == 102) ≡ false = differs c 102 (inl (omega arith)) in
    let e4 : (c == 110) ≡ false = differs c 110 (inl (omega arith)) in
    let e5 : (c == 114) ≡ false = differs c 114 (inl (omega arith)) in
    let e6 : (c == 116) ≡ false = differs c 116 (inl (omega arith)) in
    let e7 : (c == 118) ≡ false = differs c 118 (inl (omega arith)) in
    let e8 : (c == 92) ≡ false = differs c 92 (inl (omega arith)) in
    let e9 : (c == 34) ≡ false = differs c 34 (inr (omega arith)) in
    let e10 : (c == 39) ≡ false = differs c 39 (inr (omega arith)) in
    rw (e1, e2, e3, e4, e5, e6, e7, e8, e9, e10) refl

x_no_mark : escaped_of 120 ≡ None
unfolding escaped_of
x_no_mark = refl

mark_read : (b c : ℕ) (after : List ℕ) → escaped_of c ≡ Some b → escape_at (c ∷ after) ≡ Some (b, after)
mark_read b c after h =
    escape_from c after false false
    (false_of (is_octal_digit c) (λ e. none_some b (sym (octal_no_mark c e) ∙ h)))
    (false_of (c == 120) (λ e. none_some b (sym (ap escaped_of (eqb-true c 120 e) ∙ x_no_mark) ∙ h)))
    ∙ ap (λ (o : Option ℕ). o >>= (λ k. Some (k, after))) h

hex_read : (high low : ℕ) (after : List ℕ) → is_ascii_hexdigit high ≡ true → is_ascii_hexdigit low ≡ true → hex_at (high ∷ low ∷ after) ≡ Some (16 * digit_value high + digit_value low, after)
unfolding hex_at
hex_read high low after h l =
    ap (λ (c : Bool). cond (c && is_ascii_hexdigit low) (Some (16 * digit_value high + digit_value low, after)) None) h
    ∙ ap (λ (c : Bool). cond c (Some (16 * digit_value high + digit_value low, after)) None) l

stopped : (n : ℕ) (after : List ℕ) → begins is_octal_digit after ≡ false → take_while is_octal_digit (take n after) ≡ []
stopped zero after e = refl
stopped (suc n) [] e = refl
stopped (suc n) (x ∷ xs) e = take_while-cons is_octal_digit x (take n xs) ∙ ap (λ (c : Bool). cond c (x ∷ take_while is_octal_digit (take n xs)) []) e

-- the longest run among the first n bytes
run_read : (n : ℕ) (digits after : List ℕ) → list_all is_octal_digit digits ≡ true → length digits ≤ n → (begins is_octal_digit after ≡ true → length digits ≡ n) → take_while is_octal_digit (take n (digits ++ after)) ≡ digits
run_read zero [] after h le longest = refl
run_read (suc n) [] after h le longest = stopped (suc n) after (false_of (begins is_octal_digit after) (λ e. let i = longest e in omega (arith, i)))
run_read zero (d ∷ ds) after h le longest = absurd (omega arith)
run_read (suc n) (d ∷ ds) after h le longest =
    let p = both (is_octal_digit d) (list_all is_octal_digit ds) h in
    take_while-cons is_octal_digit d (take n (ds ++ after)) ∙ ap (λ (c : Bool). cond c (d ∷ take_while is_octal_digit (take n (ds ++ after))) []) p.0
    ∙ ap (λ (xs : List ℕ). d ∷ xs) (run_read n ds after p.1 (omega arith) (λ e. let i = longest e in omega (arith, i)))

seam : (xs ys : List ℕ) → drop (length xs) (xs ++ ys) ≡ ys
seam [] ys = refl
seam (x ∷ xs) ys = seam xs ys

octal_read : (digits after : List ℕ) → list_all is_octal_digit digits ≡ true → length digits ≤ 3 → (begins is_octal_digit after ≡ true → length digits ≡ 3) → value_of 8 digits < 256 → octal_at (digits ++ after) ≡ Some (value_of 8 digits, after)
unfolding octal_at
octal_read digits after h few longest small =
    ap (λ (ds : List ℕ). cond (nat_lt (value_of 8 ds) 256) (Some (value_of 8 ds, drop (length ds) (digits ++ after))) None) (run_read 3 digits after h few longest)
    ∙ ap (λ (c : Bool). cond c (Some (value_of 8 digits, drop (length digits) (digits ++ after))) None) (lt-ltb (value_of 8 digits) 256 small)
    ∙ ap (λ (xs : List ℕ). Some (value_of 8 digits, xs)) (seam digits after)

octal_escape : (digits after : List ℕ) → list_all is_octal_digit digits ≡ true → 0 < length digits → length digits ≤ 3 → (begins is_octal_digit after ≡ true → length digits ≡ 3) → value_of 8 digits < 256
    → escape_at (digits ++ after) ≡ Some (value_of 8 digits, after)
octal_escape [] after h some few longest small = absurd (omega arith)
octal_escape (d ∷ ds) after h some few longest small =
    escape_from d (ds ++ after) true (d == 120) (both (is_octal_digit d) (list_all is_octal_digit ds) h).0 refl ∙ octal_read (d ∷ ds) after h few longest small

slash_no_quote : (bytes : List ℕ) → past quote (backslash ∷ bytes) ≡ None
slash_no_quote bytes = refl

byte_spelled : (b : ℕ) (after text : List ℕ) → SpellsByte b after text → Reads b (text ++ after) after text
byte_spelled b after text s = ⊎_elim
    (λ p. subst (λ (t : List ℕ). Reads b (t ++ after) after t) (sym p.0) (record { read = plain_byte b after p.2; more = no_quote b after p.1; first = b; others = []; shape = refl }))
    (λ s2. ⊎_elim
    (λ p. subst (λ (t : List ℕ). Reads b (t ++ after) after t) (sym p.whole)
    (record { read = behind_backslash (p.mark ∷ after) ∙ mark_read b p.mark after p.meaning; more = slash_no_quote (p.mark ∷ after); first = backslash; others = p.mark ∷ []; shape = refl }))
    (λ s3. ⊎_elim
    (λ p. subst (λ (t : List ℕ). Reads b (t ++ after) after t) (sym p.whole)
    (record {
      read = behind_backslash (120 ∷ p.high ∷ p.low ∷ after) ∙ escape_from 120 (p.high ∷ p.low ∷ after) false true refl refl ∙ hex_read p.high p.low after p.first p.second ∙ ap (λ (n : ℕ). Some (n, after)) (sym p.value);
      more = slash_no_quote (120 ∷ p.high ∷ p.low ∷ after);
      first = backslash;
      others = 120 ∷ p.high ∷ p.low ∷ [];
      shape = refl;
    }))
    (λ p. subst (λ (t : List ℕ). Reads b (t ++ after) after t) (sym p.whole)
    (record {
      read = behind_backslash (p.digits ++ after) ∙ octal_escape p.digits after p.each p.some p.few p.longest (subst (λ (n : ℕ). n < 256) p.value p.small) ∙ ap (λ (n : ℕ). Some (n, after)) (sym p.value);
      more = slash_no_quote (p.digits ++ after);
      first = backslash;
      others = p.digits;
      shape = refl;
    }))
    s3)
    s2)
    s

-- the first byte of what stands for a string's bytes
record Filled (text : List ℕ) : Type 0 where
  first : ℕ
  others : List ℕ
  shape : text ≡ first ∷ others

bytes_filled : (bytes text : List ℕ) → SpellsBytes bytes text → Filled text
bytes_filled [] text h = record { first = quote; others = []; shape = h }
bytes_filled (b ∷ bytes) text h =
    let r = byte_spelled b h.1 h.0 h.2 in
    record { first = r.first; others = r.others ++ h.1; shape = h.4 ∙ ap (λ (xs : List ℕ). xs ++ h.1) r.shape }

begins_back : (back rest : List ℕ) → Filled back → begins is_octal_digit (back ++ rest) ≡ true → begins is_octal_digit back ≡ true
begins_back back rest f e = ap (begins is_octal_digit) f.shape ∙ (sym (ap (λ (xs : List ℕ). begins is_octal_digit (xs ++ rest)) f.shape) ∙ e)

farther : (b : ℕ) (back rest text : List ℕ) → Filled back → SpellsByte b back text → SpellsByte b (back ++ rest) text
farther b back rest text f s = ⊎_elim (λ p. inl p) (λ q. ⊎_elim (λ p. inr (inl p)) (λ r. ⊎_elim (λ p. inr (inr (inl p))) (λ o.
    inr (inr (inr (record {
      digits = o.digits;
      each = o.each;
      some = o.some;
      few = o.few;
      longest = λ h. o.longest (begins_back back rest f h);
      value = o.value;
      small = o.small;
      whole = o.whole;
    })))) r) q) s

string_from : (most : ℕ) (bytes : List ℕ) → string_at (suc most) bytes ≡ option_map_or (λ (rest : List ℕ). let p : List ℕ × List ℕ = ([], rest) in Some p) (past quote bytes) (byte_at bytes >>= (λ b. string_at most b.1 >>= (λ more. let p : List ℕ × List ℕ = (b.0 ∷ more.0, more.1) in Some p)))
unfolding string_at
string_from most bytes = refl

pub string_read : (bytes : List ℕ) (most : ℕ) (text rest : List ℕ) → SpellsBytes bytes text → length text ≤ most → string_at most (text ++ rest) ≡ Some (bytes, rest)
string_read bytes zero text rest h le = absurd (let f = bytes_filled bytes text h in let l : length text ≡ length (f.first ∷ f.others) = ap length f.shape in omega (arith, l))
string_read [] (suc most) text rest h le =
    ap (λ (xs : List ℕ). string_at (suc most) (xs ++ rest)) h ∙ string_from most (quote ∷ rest)
string_read (b ∷ bytes) (suc most) text rest h le =
    let front = h.0 in
    let back = h.1 in
    let r = byte_spelled b (back ++ rest) front (farther b back rest front (bytes_filled bytes back h.3) h.2) in
    let shape : text ++ rest ≡ front ++ (back ++ rest) = ap (λ (xs : List ℕ). xs ++ rest) h.4 ∙ append_assoc front back rest in
    let len : length text ≡ length front + length back = ap length h.4 ∙ length-append front back in
    let one : length front ≡ length (r.first ∷ r.others) = ap length r.shape in
    let ih : string_at most (back ++ rest) ≡ Some (bytes, rest) = string_read bytes most back rest h.3 (omega (arith, len, one)) in
    ap (string_at (suc most)) shape ∙ string_from most (front ++ (back ++ rest))
    ∙ ap (λ (o : Option (List ℕ)). option_map_or (λ (q : List ℕ). let p : List ℕ × List ℕ = ([], q) in Some p) o (byte_at (front ++ (back ++ rest)) >>= (λ c. string_at most c.1 >>= (λ more. let p : List ℕ × List ℕ = (c.0 ∷ more.0, more.1) in Some p)))) r.more
    ∙ ap (λ (o : Option (ℕ × List ℕ)). o >>= (λ c. string_at most c.1 >>= (λ more. let p : List ℕ × List ℕ = (c.0 ∷ more.0, more.1) in Some p))) r.read
    ∙ ap (λ (o : Option (List ℕ × List ℕ)). o >>= (λ more. let p : List ℕ × List ℕ = (b ∷ more.0, more.1) in Some p)) ih

one_more : (n : ℕ) → 1 + n ≡ suc n
one_more n = omega arith

past_step : (x : ℕ) (xs : List ℕ) → is_blank x ≡ true → past_blanks (x ∷ xs) ≡ past_blanks xs
past_step x xs h = ap (λ (c : Bool). drop (cond c (1 + prefix_len is_blank xs) 0) (x ∷ xs)) h ∙ ap (λ n. drop n (x ∷ xs)) (one_more (prefix_len is_blank xs))

-- blanks before make no difference
past_more : (b xs : List ℕ) → AreBlanks b → past_blanks (b ++ xs) ≡ past_blanks xs
past_more [] xs h = refl
past_more (x ∷ b) xs h = let p = both (is_blank x) (list_all is_blank b) h in past_step x (b ++ xs) p.0 ∙ past_more b xs p.1

past_here : (xs : List ℕ) → begins is_blank xs ≡ false → past_blanks xs ≡ xs
past_here xs e = blanks_read [] xs refl e

not_true : (a : Bool) → (a ≡ true → ⊥) → not a ≡ true
not_true false h = refl
not_true true h = absurd (h refl)

not_false : (a : Bool) → not a ≡ true → a ≡ false
not_false false h = refl
not_false true h = absurd (false≢true h)

abbrev no_sign : ℕ → Bool
no_sign b = not (b == number_sign)

end_sign : (e : List ℕ) → IsEnd e → begins no_sign (past_blanks e) ≡ false
end_sign e h = not_false (begins no_sign (past_blanks e)) h

sign_fails : (q : ℕ → Bool) → q number_sign ≡ false → (b : ℕ) → q b ≡ true → no_sign b ≡ true
sign_fails q f b h = not_true (b == number_sign) (λ i. false≢true (sym (ap q (eqb-true b number_sign i) ∙ f) ∙ h))

-- past its blanks a line's end begins with nothing but the sign of a comment
end_begins : (q : ℕ → Bool) → q number_sign ≡ false → (e : List ℕ) → IsEnd e → begins q (past_blanks e) ≡ false
end_begins q f e h = begins_less no_sign q (past_blanks e) (sign_fails q f) (end_sign e h)

end_case : (q : ℕ → Bool) → q 32 ≡ false → q 9 ≡ false → q 13 ≡ false → q number_sign ≡ false → (x : ℕ) (xs : List ℕ) (b : Bool) → is_blank x ≡ b → IsEnd (x ∷ xs) → q x ≡ false
end_case q space tab return sign x xs true i h = blank_fails q space tab return x i
end_case q space tab return sign x xs false i h = ap (begins q) (sym (past_here (x ∷ xs) i)) ∙ end_begins q sign (x ∷ xs) h

end_here : (q : ℕ → Bool) → q 32 ≡ false → q 9 ≡ false → q 13 ≡ false → q number_sign ≡ false → (e : List ℕ) → IsEnd e → begins q e ≡ false
end_here q space tab return sign [] h = refl
end_here q space tab return sign (x ∷ xs) h = end_case q space tab return sign x xs (is_blank x) refl h

end_stops : (e : List ℕ) → IsEnd e → Stops e
end_stops e h = record { word = end_here goes_on_name refl refl refl refl e h; sum = end_begins (λ b. b == plus) refl e h }

no_byte : (c : ℕ) (xs : List ℕ) → begins (λ b. b == c) xs ≡ false → past c xs ≡ None
no_byte c [] h = refl
no_byte c (x ∷ xs) h = ap (λ (b : Bool). cond b (Some xs) None) h

-- a statement with a mnemonic, as it is read
pub record Said (s : Statement) (text e : List ℕ) : Type 0 where
  m : Mnemonic
  word : List ℕ
  operands : List ℕ
  spelled : IsWord m word
  shape : text ≡ word ++ operands
  stops : begins goes_on_name (operands ++ e) ≡ false
  colon_none : past colon (operands ++ e) ≡ None
  rest : List ℕ
  read : operands_at m (operands ++ e) ≡ Some (s, rest)
  ended : ends rest ≡ true

-- a word alone
alone : (m : Mnemonic) (s : Statement) (text e : List ℕ) → IsWord m text → IsEnd e → operands_at m e ≡ Some (s, e) → Said s text e
alone m s text e w h r = record {
  m = m;
  word = text;
  operands = [];
  spelled = w;
  shape = sym (append-nil text);
  stops = end_here goes_on_name refl refl refl refl e h;
  colon_none = no_byte colon e (end_here (λ b. b == colon) refl refl refl refl e h);
  rest = e;
  read = r;
  ended = h;
}

-- a word, a gap and operands
gapped : (m : Mnemonic) (s : Statement) (X : List ℕ → Type 0) (text e : List ℕ) → (IsWord m ⨾ IsGap ⨾ X) text → IsEnd e
    → ((g x : List ℕ) → IsGap g → X x → operands_at m (g ++ (x ++ e)) ≡ Some (s, e)) → Said s text e
gapped m s X text e j h r =
    let k = j.second in
    let regroup : j.back ++ e ≡ k.front ++ (k.back ++ e) = ap (λ (xs : List ℕ). xs ++ e) k.whole ∙ append_assoc k.front k.back e in
    record {
      m = m;
      word = j.front;
      operands = j.back;
      spelled = j.first;
      shape = j.whole;
      stops = ap (begins goes_on_name) regroup ∙ blank_stops k.front (k.back ++ e) k.first.0;
      colon_none = ap (past colon) regroup ∙ no_byte colon (k.front ++ (k.back ++ e)) (begins_other is_blank (λ b. b == colon) (k.front ++ (k.back ++ e)) (blank_fails (λ b. b == colon) refl refl refl) (begins_on is_blank k.front (k.back ++ e) k.first.0));
      rest = e;
      read = ap (operands_at m) regroup ∙ r k.front k.back k.first k.second;
      ended = h;
    }

putc_read : (t : Term) (e g x : List ℕ) → IsEnd e → IsGap g → SpellsTerm t x → operands_at mnemonic.Putc (g ++ (x ++ e)) ≡ Some (Putc t, e)
unfolding operands_at
putc_read t e g x h hg hx =
    ap (λ (o : Option (List ℕ)). o >>= (λ first. term_at first >>= (λ u. Some (Putc u.0, u.1)))) (gap_read g (x ++ e) hg (term_no_blank t x e hx))
    ∙ ap (λ (o : Option (Term × List ℕ)). o >>= (λ u. Some (Putc u.0, u.1))) (term_read t x e hx (end_stops e h))

jump_read : (t : Term) (e g x : List ℕ) → IsEnd e → IsGap g → SpellsTerm t x → operands_at mnemonic.Jump (g ++ (x ++ e)) ≡ Some (Jump t, e)
unfolding operands_at
jump_read t e g x h hg hx =
    ap (λ (o : Option (List ℕ)). o >>= (λ first. term_at first >>= (λ u. Some (Jump u.0, u.1)))) (gap_read g (x ++ e) hg (term_no_blank t x e hx))
    ∙ ap (λ (o : Option (Term × List ℕ)). o >>= (λ u. Some (Jump u.0, u.1))) (term_read t x e hx (end_stops e h))

long_read : (t : Term) (e g x : List ℕ) → IsEnd e → IsGap g → SpellsConstant t x → operands_at mnemonic.Long (g ++ (x ++ e)) ≡ Some (Long t, e)
unfolding operands_at
long_read t e g x h hg hx =
    ap (λ (o : Option (List ℕ)). o >>= (λ first. constant_at first >>= (λ u. Some (Long u.0, u.1)))) (gap_read g (x ++ e) hg (term_no_blank t x e (constant_term t x hx).0))
    ∙ ap (λ (o : Option (Term × List ℕ)). o >>= (λ u. Some (Long u.0, u.1))) (constant_read t x e hx (end_stops e h))

getc_read : (r : Reg) (e g x : List ℕ) → IsEnd e → IsGap g → IsRegister r x → operands_at mnemonic.Getc (g ++ (x ++ e)) ≡ Some (Getc r, e)
unfolding operands_at
getc_read r e g x h hg hx =
    ap (λ (o : Option (List ℕ)). o >>= (λ first. register_at first >>= (λ u. Some (Getc u.0, u.1)))) (gap_read g (x ++ e) hg (register_no_blank r x e hx))
    ∙ ap (λ (o : Option (Reg × List ℕ)). o >>= (λ u. Some (Getc u.0, u.1))) (register_read r x e hx (end_stops e h).word)

-- a register, a comma and a value, and what is made of them
pair_read : (r : Reg) (t : Term) (f : Reg × List ℕ → Term × List ℕ → Option (Statement × List ℕ)) (e x : List ℕ) → IsEnd e → (IsRegister r ⨾ IsComma ⨾ SpellsTerm t) x
    → (register_at (x ++ e) >>= (λ a. past_comma a.1 >>= (λ second. term_at second >>= (λ u. f (a.0, []) u)))) ≡ f (r, []) (t, e)
pair_read r t f e x h j =
    let k = j.second in
    let shape : x ++ e ≡ j.front ++ (k.front ++ (k.back ++ e)) =
    ap (λ (xs : List ℕ). xs ++ e) (j.whole ∙ ap (λ (xs : List ℕ). j.front ++ xs) k.whole) ∙ append_assoc j.front (k.front ++ k.back) e ∙ ap (λ (xs : List ℕ). j.front ++ xs) (append_assoc k.front k.back e) in
    ap (λ (xs : List ℕ). register_at xs >>= (λ a. past_comma a.1 >>= (λ second. term_at second >>= (λ u. f (a.0, []) u)))) shape
    ∙ ap (λ (o : Option (Reg × List ℕ)). o >>= (λ a. past_comma a.1 >>= (λ second. term_at second >>= (λ u. f (a.0, []) u)))) (register_read r j.front (k.front ++ (k.back ++ e)) j.first (comma_stops k.front (k.back ++ e) k.first).word)
    ∙ ap (λ (o : Option (List ℕ)). o >>= (λ second. term_at second >>= (λ u. f (r, []) u))) (comma_read k.front (k.back ++ e) k.first (term_no_blank t k.back e k.second))
    ∙ ap (λ (o : Option (Term × List ℕ)). o >>= (λ u. f (r, []) u)) (term_read t k.back e k.second (end_stops e h))

pair_no_blank : (r : Reg) (t : Term) (e x : List ℕ) → (IsRegister r ⨾ IsComma ⨾ SpellsTerm t) x → begins is_blank (x ++ e) ≡ false
pair_no_blank r t e x j = ap (λ (xs : List ℕ). begins is_blank (xs ++ e)) j.whole ∙ ap (begins is_blank) (append_assoc j.front j.back e) ∙ register_no_blank r j.front (j.back ++ e) j.first

binary_read : (op : BinaryOp) (r : Reg) (t : Term) (e g x : List ℕ) → IsEnd e → IsGap g → (IsRegister r ⨾ IsComma ⨾ SpellsTerm t) x → operands_at (mnemonic.Binary op) (g ++ (x ++ e)) ≡ Some (Binary op r t, e)
unfolding operands_at
binary_read op r t e g x h hg hx =
    ap (λ (o : Option (List ℕ)). o >>= (λ first. register_at first >>= (λ a. past_comma a.1 >>= (λ second. term_at second >>= (λ u. Some (Binary op a.0 u.0, u.1)))))) (gap_read g (x ++ e) hg (pair_no_blank r t e x hx))
    ∙ pair_read r t (λ a u. Some (Binary op a.0 u.0, u.1)) e x h hx

jump_if_read : (c : Cond) (target : Term) (r : Reg) (t : Term) (e g x : List ℕ) → IsEnd e → IsGap g → (SpellsTerm target ⨾ IsComma ⨾ IsRegister r ⨾ IsComma ⨾ SpellsTerm t) x → operands_at (mnemonic.JumpIf c) (g ++ (x ++ e)) ≡ Some (JumpIf c target r t, e)
unfolding operands_at
jump_if_read c target r t e g x h hg j =
    let k = j.second in
    let tail = k.back ++ e in
    let shape : x ++ e ≡ j.front ++ (k.front ++ tail) =
    ap (λ (xs : List ℕ). xs ++ e) (j.whole ∙ ap (λ (xs : List ℕ). j.front ++ xs) k.whole) ∙ append_assoc j.front (k.front ++ k.back) e ∙ ap (λ (xs : List ℕ). j.front ++ xs) (append_assoc k.front k.back e) in
    let no_blank : begins is_blank (x ++ e) ≡ false = ap (begins is_blank) shape ∙ term_no_blank target j.front (k.front ++ tail) j.first in
    ap (λ (o : Option (List ℕ)). o >>= (λ first. term_at first >>= (λ a. past_comma a.1 >>= (λ second. register_at second >>= (λ b. past_comma b.1 >>= (λ third. term_at third >>= (λ u. Some (JumpIf c a.0 b.0 u.0, u.1)))))))) (gap_read g (x ++ e) hg no_blank)
    ∙ ap (λ (xs : List ℕ). term_at xs >>= (λ a. past_comma a.1 >>= (λ second. register_at second >>= (λ b. past_comma b.1 >>= (λ third. term_at third >>= (λ u. Some (JumpIf c a.0 b.0 u.0, u.1))))))) shape
    ∙ ap (λ (o : Option (Term × List ℕ)). o >>= (λ a. past_comma a.1 >>= (λ second. register_at second >>= (λ b. past_comma b.1 >>= (λ third. term_at third >>= (λ u. Some (JumpIf c a.0 b.0 u.0, u.1))))))) (term_read target j.front (k.front ++ tail) j.first (comma_stops k.front tail k.first))
    ∙ ap (λ (o : Option (List ℕ)). o >>= (λ second. register_at second >>= (λ b. past_comma b.1 >>= (λ third. term_at third >>= (λ u. Some (JumpIf c target b.0 u.0, u.1)))))) (comma_read k.front tail k.first (pair_no_blank r t e k.back k.second))
    ∙ pair_read r t (λ b u. Some (JumpIf c target b.0 u.0, u.1)) e k.back h k.second

gap_goes_on : (g rest : List ℕ) (q : ℕ) → IsGap g → begins is_blank rest ≡ false → begins no_sign rest ≡ true → ends (g ++ rest) ≡ false
gap_goes_on g rest q hg e s = ap (λ (xs : List ℕ). not (begins no_sign xs)) (blanks_read g rest hg.1 e) ∙ ap not s

begins_same : (p q : ℕ → Bool) (xs : List ℕ) → ((b : ℕ) → p b ≡ true → q b ≡ true) → begins p xs ≡ true → begins q xs ≡ true
begins_same p q [] h e = absurd (false≢true e)
begins_same p q (x ∷ xs) h e = h x e

data_read : (n : ℕ) (e g x : List ℕ) → IsEnd e → IsGap g → SpellsNumber n x → operands_at mnemonic.Data (g ++ (x ++ e)) ≡ Some (Data n, e)
unfolding operands_at
data_read n e g x h hg hx =
    let bytes = g ++ (x ++ e) in
    ap (λ (c : Bool). cond c (Some (Data 0, bytes)) (past_gap bytes >>= number_at >>= (λ k. Some (Data k.0, k.1))))
    (gap_goes_on g (x ++ e) 0 hg (number_no_blank n x e hx) (begins_on no_sign x e (begins_same is_ascii_digit no_sign x (sign_fails is_ascii_digit refl) hx.0.0)))
    ∙ ap (λ (o : Option (List ℕ)). o >>= number_at >>= (λ k. Some (Data k.0, k.1))) (gap_read g (x ++ e) hg (number_no_blank n x e hx))
    ∙ ap (λ (o : Option (ℕ × List ℕ)). o >>= (λ k. Some (Data k.0, k.1))) (number_read n x e hx (no_digit e (end_stops e h).word))

bare_data : (e : List ℕ) → IsEnd e → operands_at mnemonic.Data e ≡ Some (Data 0, e)
unfolding operands_at
bare_data e h = ap (λ (c : Bool). cond c (Some (Data 0, e)) (past_gap e >>= number_at >>= (λ k. Some (Data k.0, k.1)))) h

bytes_read : (bytes e g x : List ℕ) → IsEnd e → IsGap g → (IsByte quote ⨾ SpellsBytes bytes) x → operands_at mnemonic.Bytes (g ++ (x ++ e)) ≡ Some (Bytes bytes, e)
unfolding operands_at
bytes_read bytes e g x h hg j =
    let inside = j.back ++ e in
    let shape : x ++ e ≡ quote ∷ inside = ap (λ (xs : List ℕ). xs ++ e) j.whole ∙ append_assoc j.front j.back e ∙ ap (λ (xs : List ℕ). xs ++ inside) j.first in
    let len : length inside ≡ length j.back + length e = length-append j.back e in
    ap (λ (o : Option (List ℕ)). (o >>= (λ first. past quote first)) >>= (λ i. string_at (length i) i >>= (λ s. Some (Bytes s.0, s.1)))) (gap_read g (x ++ e) hg (ap (begins is_blank) shape))
    ∙ ap (λ (xs : List ℕ). past quote xs >>= (λ i. string_at (length i) i >>= (λ s. Some (Bytes s.0, s.1)))) shape
    ∙ ap (λ (o : Option (List ℕ)). o >>= (λ i. string_at (length i) i >>= (λ s. Some (Bytes s.0, s.1)))) (byte_read quote inside)
    ∙ ap (λ (o : Option (List ℕ × List ℕ)). o >>= (λ s. Some (Bytes s.0, s.1))) (string_read bytes (length inside) j.back e j.second (omega (arith, len)))

exit_read : (e : List ℕ) → operands_at mnemonic.Exit e ≡ Some (Exit, e)
unfolding operands_at
exit_read e = refl

dump_read : (e : List ℕ) → operands_at mnemonic.Dump e ≡ Some (Dump, e)
unfolding operands_at
dump_read e = refl

text_read : (e : List ℕ) → operands_at mnemonic.Text e ≡ Some (Text, e)
unfolding operands_at
text_read e = refl

note_read : (bytes : List ℕ) → operands_at mnemonic.Note bytes ≡ Some (Note, cond (begins is_blank bytes) [] bytes)
unfolding operands_at
note_read bytes = refl

note_ends : (bytes : List ℕ) (b : Bool) → (b ≡ true) ⊎ IsEnd bytes → ends (cond b [] bytes) ≡ true
note_ends bytes true h = refl
note_ends bytes false h = ⊎_elim (λ i. absurd (false≢true i)) (λ i. i) h

alone_note : (text e : List ℕ) (j : (IsWord mnemonic.Note ⨾ IsNote) text) → j.back ≡ [] → IsEnd e → Said Note text e
alone_note text e j nothing h = record {
  m = mnemonic.Note;
  word = j.front;
  operands = [];
  spelled = j.first;
  shape = j.whole ∙ ap (λ (xs : List ℕ). j.front ++ xs) nothing;
  stops = end_here goes_on_name refl refl refl refl e h;
  colon_none = no_byte colon e (end_here (λ b. b == colon) refl refl refl refl e h);
  rest = cond (begins is_blank e) [] e;
  read = note_read e;
  ended = note_ends e (begins is_blank e) (inr h);
}

pub note_said : (text e : List ℕ) → (IsWord mnemonic.Note ⨾ IsNote) text → IsEnd e → Said Note text e
note_said text e j h = ⊎_elim
    (λ (nothing : j.back ≡ []). alone_note text e j nothing h)
    (λ (blank : begins is_blank j.back ≡ true).
    let on : begins is_blank (j.back ++ e) ≡ true = begins_on is_blank j.back e blank in
    record {
      m = mnemonic.Note;
      word = j.front;
      operands = j.back;
      spelled = j.first;
      shape = j.whole;
      stops = blank_stops j.back e blank;
      colon_none = no_byte colon (j.back ++ e) (begins_other is_blank (λ b. b == colon) (j.back ++ e) (blank_fails (λ b. b == colon) refl refl refl) on);
      rest = cond (begins is_blank (j.back ++ e)) [] (j.back ++ e);
      read = note_read (j.back ++ e);
      ended = note_ends (j.back ++ e) (begins is_blank (j.back ++ e)) (inl on);
    })
    j.second

-- whether a line says nothing behind its labels
abbrev is_nothing : Statement → Bool
is_nothing Nothing = true
is_nothing _ = false

data_said : (n : ℕ) (text e : List ℕ) → SpellsStatement (Data n) text → IsEnd e → Said (Data n) text e
data_said n text e s h = ⊎_elim
    (λ p. subst (λ (k : ℕ). Said (Data k) text e) (sym p.1) (alone mnemonic.Data (Data 0) text e p.0 h (bare_data e h)))
    (λ j. gapped mnemonic.Data (Data n) (SpellsNumber n) text e j h (λ g x hg hx. data_read n e g x h hg hx))
    s

said : (s : Statement) (text e : List ℕ) → is_nothing s ≡ false → SpellsStatement s text → IsEnd e → Said s text e
said Nothing text e is j h = absurd (false≢true (sym is))
said (Binary op r t) text e is j h = gapped (mnemonic.Binary op) (Binary op r t) (IsRegister r ⨾ IsComma ⨾ SpellsTerm t) text e j h (λ g x hg hx. binary_read op r t e g x h hg hx)
said (Putc t) text e is j h = gapped mnemonic.Putc (Putc t) (SpellsTerm t) text e j h (λ g x hg hx. putc_read t e g x h hg hx)
said (Getc r) text e is j h = gapped mnemonic.Getc (Getc r) (IsRegister r) text e j h (λ g x hg hx. getc_read r e g x h hg hx)
said Exit text e is j h = alone mnemonic.Exit Exit text e j h (exit_read e)
said (Jump t) text e is j h = gapped mnemonic.Jump (Jump t) (SpellsTerm t) text e j h (λ g x hg hx. jump_read t e g x h hg hx)
said (JumpIf c target r t) text e is j h = gapped (mnemonic.JumpIf c) (JumpIf c target r t) (SpellsTerm target ⨾ IsComma ⨾ IsRegister r ⨾ IsComma ⨾ SpellsTerm t) text e j h (λ g x hg hx. jump_if_read c target r t e g x h hg hx)
said Dump text e is j h = alone mnemonic.Dump Dump text e j h (dump_read e)
said Text text e is j h = alone mnemonic.Text Text text e j h (text_read e)
said (Data n) text e is j h = data_said n text e j h
said (Long t) text e is j h = gapped mnemonic.Long (Long t) (SpellsConstant t) text e j h (λ g x hg hx. long_read t e g x h hg hx)
said (Bytes bytes) text e is j h = gapped mnemonic.Bytes (Bytes bytes) (IsByte quote ⨾ SpellsBytes bytes) text e j h (λ g x hg hx. bytes_read bytes e g x h hg hx)
said Note text e is j h = note_said text e j h

-- a statement behind blanks, as it is read: no label stands there, and a line's end follows
record StatementRead (s : Statement) (bytes : List ℕ) : Type 0 where
  no_label : label_at (past_blanks bytes) ≡ None
  rest : List ℕ
  read : statement_at bytes ≡ Some (s, rest)
  ended : ends rest ≡ true

abbrev statement_from : List ℕ → Bool → Option (Statement × List ℕ)
statement_from bytes c = cond c (Some (Nothing, bytes)) (mnemonic_at bytes >>= (λ m. operands_at m.0 m.1))

statement_is : (bytes : List ℕ) → statement_at bytes ≡ statement_from bytes (ends bytes)
unfolding statement_at
statement_is bytes = refl

abbrev label_from : Option (List ℕ × List ℕ) → Option (List ℕ × List ℕ)
label_from o = o >>= (λ name. past colon name.1 >>= (λ rest. cond (is_some (register_of name.0)) None (Some (name.0, rest))))

label_is : (bytes : List ℕ) → label_at bytes ≡ label_from (name_at bytes)
unfolding label_at
label_is bytes = refl

nothing_read : (b e : List ℕ) → AreBlanks b → IsEnd e → StatementRead Nothing (b ++ e)
nothing_read b e hb h =
    let more : past_blanks (b ++ e) ≡ past_blanks e = past_more b e hb in
    let ended : ends (b ++ e) ≡ true = ap (λ (xs : List ℕ). not (begins no_sign xs)) more ∙ h in
    let no_name : name_at (past_blanks (b ++ e)) ≡ None =
    ap (λ (c : Bool). cond c (Some (take_while goes_on_name (past_blanks (b ++ e)), drop_while goes_on_name (past_blanks (b ++ e)))) None) (ap (begins starts_name) more ∙ end_begins starts_name refl e h) in
    record {
      no_label = label_is (past_blanks (b ++ e)) ∙ ap label_from no_name;
      rest = b ++ e;
      read = statement_is (b ++ e) ∙ ap (statement_from (b ++ e)) ended;
      ended = ended;
    }

said_read : (s : Statement) (b text e : List ℕ) → AreBlanks b → Said s text e → StatementRead s (b ++ (text ++ e))
said_read s b text e hb r =
    let after = r.operands ++ e in
    let bytes = b ++ (text ++ e) in
    let shape : text ++ e ≡ r.word ++ after = ap (λ (xs : List ℕ). xs ++ e) r.shape ∙ append_assoc r.word r.operands e in
    let start : begins starts_name (r.word ++ after) ≡ true = begins_on starts_name r.word after r.spelled.0.0 in
    let no_blank : begins is_blank (text ++ e) ≡ false = ap (begins is_blank) shape ∙ begins_other starts_name is_blank (r.word ++ after) start_no_blank start in
    let here : past_blanks bytes ≡ r.word ++ after = blanks_read b (text ++ e) hb no_blank ∙ shape in
    let goes_on : ends bytes ≡ false = ap (λ (xs : List ℕ). not (begins no_sign xs)) here ∙ ap not (begins_same starts_name no_sign (r.word ++ after) (sign_fails starts_name refl) start) in
    let name : name_at (r.word ++ after) ≡ Some (r.word, after) = name_read r.word after r.spelled.0 r.stops in
    record {
      no_label = ap label_at here ∙ label_is (r.word ++ after) ∙ ap label_from name ∙ ap (λ (o : Option (List ℕ)). o >>= (λ rest. cond (is_some (register_of r.word)) None (Some (r.word, rest)))) r.colon_none;
      rest = r.rest;
      read =
          statement_is bytes ∙ ap (statement_from bytes) goes_on
          ∙ ap (λ (xs : List ℕ). (name_at xs >>= (λ word. mnemonic_of word.0 >>= (λ m. let p : Mnemonic × List ℕ = (m, word.1) in Some p))) >>= (λ m. operands_at m.0 m.1)) here
          ∙ ap (λ (o : Option (List ℕ × List ℕ)). (o >>= (λ word. mnemonic_of word.0 >>= (λ m. let p : Mnemonic × List ℕ = (m, word.1) in Some p))) >>= (λ m. operands_at m.0 m.1)) name
          ∙ ap (λ (o : Option Mnemonic). (o >>= (λ m. let p : Mnemonic × List ℕ = (m, after) in Some p)) >>= (λ m. operands_at m.0 m.1)) r.spelled.1
          ∙ r.read;
      ended = r.ended;
    }

statement_case : (s : Statement) (c : Bool) (b text e : List ℕ) → is_nothing s ≡ c → AreBlanks b → SpellsStatement s text → IsEnd e → StatementRead s (b ++ (text ++ e))
statement_case s false b text e is hb j h = said_read s b text e hb (said s text e is j h)
statement_case Nothing true b text e is hb j h = subst (λ (xs : List ℕ). StatementRead Nothing (b ++ (xs ++ e))) (sym j) (nothing_read b e hb h)
statement_case (Binary op r t) true b text e is hb j h = absurd (false≢true is)
statement_case (Putc t) true b text e is hb j h = absurd (false≢true is)
statement_case (Getc r) true b text e is hb j h = absurd (false≢true is)
statement_case Exit true b text e is hb j h = absurd (false≢true is)
statement_case (Jump t) true b text e is hb j h = absurd (false≢true is)
statement_case (JumpIf c target r t) true b text e is hb j h = absurd (false≢true is)
statement_case Dump true b text e is hb j h = absurd (false≢true is)
statement_case Text true b text e is hb j h = absurd (false≢true is)
statement_case (Data n) true b text e is hb j h = absurd (false≢true is)
statement_case (Long t) true b text e is hb j h = absurd (false≢true is)
statement_case (Bytes bytes) true b text e is hb j h = absurd (false≢true is)
statement_case Note true b text e is hb j h = absurd (false≢true is)

label_read : (name after : List ℕ) → IsName name → register_of name ≡ None → label_at (name ++ (colon ∷ after)) ≡ Some (name, after)
label_read name after h none =
    label_is (name ++ (colon ∷ after)) ∙ ap label_from (name_read name (colon ∷ after) h refl)
    ∙ ap (λ (o : Option (List ℕ)). o >>= (λ rest. cond (is_some (register_of name)) None (Some (name, rest)))) (byte_read colon after)
    ∙ ap (λ (o : Option Reg). cond (is_some o) None (Some (name, after))) none

abbrev labels_from : ℕ → List ℕ → Option (List ℕ × List ℕ) → List (List ℕ) × List ℕ
labels_from most bytes o = option_map_or (λ label. (label.0 ∷ (labels_at most label.1).0, (labels_at most label.1).1)) o ([], bytes)

labels_is : (most : ℕ) (bytes : List ℕ) → labels_at (suc most) bytes ≡ labels_from most bytes (label_at (past_blanks bytes))
unfolding labels_at
labels_is most bytes = refl

no_labels : (most : ℕ) (bytes : List ℕ) → label_at (past_blanks bytes) ≡ None → labels_at most bytes ≡ ([], bytes)
unfolding labels_at
no_labels zero bytes h = refl
no_labels (suc most) bytes h = ap (labels_from most bytes) h

labels_read : (names : List (List ℕ)) (most : ℕ) (text tail : List ℕ) → SpellsLabels names text → label_at (past_blanks tail) ≡ None → length names ≤ most → labels_at most (text ++ tail) ≡ (names, tail)
labels_read [] most text tail j h le = ap (λ (xs : List ℕ). labels_at most (xs ++ tail)) j ∙ no_labels most tail h
labels_read (name ∷ names) zero text tail j h le = absurd (omega arith)
labels_read (name ∷ names) (suc most) text tail j h le =
    let k = j.second in
    let l = k.second in
    let after = l.back ++ tail in
    let shape : text ++ tail ≡ j.front ++ (name ++ (colon ∷ after)) =
    ap (λ (xs : List ℕ). xs ++ tail) (j.whole ∙ ap (λ (xs : List ℕ). j.front ++ xs) (k.whole ∙ ap (λ (xs : List ℕ). k.front ++ xs) l.whole))
    ∙ append_assoc j.front (k.front ++ (l.front ++ l.back)) tail
    ∙ ap (λ (xs : List ℕ). j.front ++ xs) (append_assoc k.front (l.front ++ l.back) tail ∙ ap (λ (xs : List ℕ). k.front ++ xs) (append_assoc l.front l.back tail ∙ ap (λ (xs : List ℕ). xs ++ after) l.first))
    ∙ ap (λ (xs : List ℕ). j.front ++ (xs ++ (colon ∷ after))) k.first.0 in
    let here : past_blanks (j.front ++ (name ++ (colon ∷ after))) ≡ name ++ (colon ∷ after) =
    blanks_read j.front (name ++ (colon ∷ after)) j.first (begins_other starts_name is_blank (name ++ (colon ∷ after)) start_no_blank (begins_on starts_name name (colon ∷ after) k.first.1.0)) in
    let ih : labels_at most after ≡ (names, tail) = labels_read names most l.back tail l.second h (omega arith) in
    ap (labels_at (suc most)) shape ∙ labels_is most (j.front ++ (name ++ (colon ∷ after)))
    ∙ ap (labels_from most (j.front ++ (name ++ (colon ∷ after)))) (ap label_at here ∙ label_read name after k.first.1 k.first.2)
    ∙ ap (λ (p : List (List ℕ) × List ℕ). (name ∷ p.0, p.1)) ih

few_labels : (names : List (List ℕ)) (text : List ℕ) → SpellsLabels names text → length names ≤ length text
few_labels [] text j = omega arith
few_labels (name ∷ names) text j =
    let k = j.second in
    let l = k.second in
    let ih : length names ≤ length l.back = few_labels names l.back l.second in
    let a : length text ≡ length j.front + length j.back = ap length j.whole ∙ length-append j.front j.back in
    let b : length j.back ≡ length k.front + length k.back = ap length k.whole ∙ length-append k.front k.back in
    let c : length k.back ≡ length l.front + length l.back = ap length l.whole ∙ length-append l.front l.back in
    let d : length l.front ≡ 1 = ap length l.first in
    omega (arith, ih, a, b, c, d)

abbrev form_from : List (List ℕ) × List ℕ → Option Line
form_from labels = statement_at labels.1 >>= (λ s. cond (ends s.1) (Some (record { labels = labels.0; statement = s.0 })) None)

form_is : (bytes : List ℕ) → form_of bytes ≡ form_from (labels_at (length bytes) bytes)
unfolding form_of
form_is bytes = refl

-- what spells a form has it
pub line_read : (bytes : List ℕ) (line : Line) → SpellsLine line bytes → form_of bytes ≡ Some line
line_read bytes line j =
    let k = j.second in
    let l = k.second in
    let tail : j.back ≡ k.front ++ (l.front ++ l.back) = k.whole ∙ ap (λ (xs : List ℕ). k.front ++ xs) l.whole in
    let r = subst (λ (xs : List ℕ). StatementRead line.statement xs) (sym tail) (statement_case line.statement (is_nothing line.statement) k.front l.front l.back refl k.first l.first l.second) in
    let few : length line.labels ≤ length bytes =
    (let a : length bytes ≡ length j.front + length j.back = ap length j.whole ∙ length-append j.front j.back in
    let b = few_labels line.labels j.front j.first in omega (arith, a, b)) in
    form_is bytes
    ∙ ap form_from (ap (labels_at (length bytes)) j.whole ∙ labels_read line.labels (length bytes) j.front j.back j.first r.no_label few)
    ∙ ap (λ (o : Option (Statement × List ℕ)). o >>= (λ s. cond (ends s.1) (Some (record { labels = line.labels; statement = s.0 })) None)) r.read
    ∙ ap (λ (c : Bool). cond c (Some (record { labels = line.labels; statement = line.statement })) None) r.ended
