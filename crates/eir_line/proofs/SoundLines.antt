-- What is read of a line spells it.
use Rattle.std.proofs.Common.{◌≡◌, ℕ, zero, suc, ◌+◌, ◌*◌, ◌<◌, ◌≤◌, Bool, true, false, ◌&&◌, ◌==◌, nat_lt, cond, List, [], ◌∷◌, ◌++◌, length, take, drop, Option, Some, None, is_some, refl, sym, ap, ◌∙◌, subst, inl, inr, ⊎_elim, append_assoc, arith}
use Rattle.std.specs.List.{take_while}
use Rattle.std.specs.Option.{option_map_or}
use Rattle.std.specs.Char.{is_ascii_hexdigit, digit_value}
use Rattle.std.proofs.lemmas.Bool.{eqb-true, eqb-false, ltb-true, false≢true}
use Rattle.std.proofs.lemmas.List.{append-nil}
use Rattle.std.proofs.lemmas.List.Sums.{take_while-cons}
use Rattle.eir_core.specs.declared.ops.Reg.{Reg}
use Rattle.eir_line.specs.declared.words.Mnemonic.{Mnemonic}
use Rattle.eir_line.specs.declared.words.Mnemonic.TheVariants as mnemonic
use Rattle.eir_line.specs.Line.{Statement, Line, Nothing, Binary, Putc, Getc, Exit, Jump, JumpIf, Dump, Text, Data, Long, Bytes, Note}
use Rattle.eir_line.specs.Bytes.{◌>>=◌, quote, colon, backslash, is_blank, is_octal_digit, begins, past_blanks, past_gap, past, past_comma, name_at, ends}
use Rattle.eir_line.specs.Numbers.{value_of}
use Rattle.eir_line.specs.Words.{register_of, mnemonic_of}
use Rattle.eir_line.specs.Grammar.{label_at, labels_at, register_at, number_at, term_at, constant_at, escaped_of, hex_at, octal_at, escape_at, byte_at, string_at, inside_at, mnemonic_at, operands_at, statement_at, form_of}
use Rattle.eir_line.specs.Spelling.{◌⨾◌, IsByte, AreBlanks, IsGap, IsComma, IsRegister, IsLabel, SpellsNumber, SpellsTerm, SpellsConstant, SpellsByte, SpellsBytes, IsWord, IsNote, SpellsStatement, SpellsLabels, IsEnd, SpellsLine}
use Rattle.eir_line.proofs.Sound.{Takes, joined, mapped, bind_some, guard_some, guard_none, chosen, some_same, run_passes, run_begins, blanks_taken, gap_taken, byte_taken, comma_taken, name_taken, register_taken, number_taken, term_taken, constant_taken}

-- a byte of a string is spelled at the front
record TakesByte (b : ℕ) (bytes after : List ℕ) : Type 0 where
  text : List ℕ
  spelled : SpellsByte b after text
  whole : bytes ≡ text ++ after

abbrev TakesAt : List ℕ → ℕ × List ℕ → Type 0
TakesAt bytes x = TakesByte x.0 bytes x.1

both_true : (a b : Bool) → (a && b) ≡ true → (a ≡ true) × (b ≡ true)
both_true true true e = (refl, refl)
both_true true false e = absurd (false≢true e)
both_true false b e = absurd (false≢true e)

hex_taken : (bytes : List ℕ) (x : ℕ × List ℕ) → hex_at bytes ≡ Some x → TakesAt (backslash ∷ 120 ∷ bytes) x
unfolding hex_at
hex_taken [] x e = absurd (cc)
hex_taken (high ∷ []) x e = absurd (cc)
hex_taken (high ∷ low ∷ bytes) x e =
    let g = guard_some (is_ascii_hexdigit high && is_ascii_hexdigit low) (16 * digit_value high + digit_value low, bytes) x e in
    let both = both_true (is_ascii_hexdigit high) (is_ascii_hexdigit low) g.0 in
    subst (λ (y : ℕ × List ℕ). TakesAt (backslash ∷ 120 ∷ high ∷ low ∷ bytes) y) g.1
    (record {
      text = backslash ∷ 120 ∷ high ∷ low ∷ [];
      spelled = inr (inr (inl (record { high = high; low = low; first = both.0; second = both.1; value = refl; whole = refl })));
      whole = refl;
    })

-- the longest run among the first n bytes
abbrev run : ℕ → List ℕ → List ℕ
run n bytes = take_while is_octal_digit (take n bytes)

run_cons : (n x : ℕ) (xs : List ℕ) → run (suc n) (x ∷ xs) ≡ cond (is_octal_digit x) (x ∷ run n xs) []
run_cons n x xs = take_while-cons is_octal_digit x (take n xs)

run_case : (n x : ℕ) (xs : List ℕ) (b : Bool) → is_octal_digit x ≡ b → run (suc n) (x ∷ xs) ≡ cond b (x ∷ run n xs) []
run_case n x xs b e = run_cons n x xs ∙ ap (λ (c : Bool). cond c (x ∷ run n xs) []) e

record IsRun (n : ℕ) (bytes digits : List ℕ) : Type 0 where
  few : length digits ≤ n
  whole : bytes ≡ digits ++ drop (length digits) bytes
  longest : begins is_octal_digit (drop (length digits) bytes) ≡ true → length digits ≡ n

run_step : (n x : ℕ) (xs : List ℕ) (b : Bool) → is_octal_digit x ≡ b → IsRun n xs (run n xs) → IsRun (suc n) (x ∷ xs) (run (suc n) (x ∷ xs))
run_step n x xs true e ih =
    subst (IsRun (suc n) (x ∷ xs)) (sym (run_case n x xs true e))
    (record { few = omega (arith, ih.few); whole = ap (λ (ys : List ℕ). x ∷ ys) ih.whole; longest = λ h. ap (λ k. suc k) (ih.longest h) })
run_step n x xs false e ih =
    subst (IsRun (suc n) (x ∷ xs)) (sym (run_case n x xs false e)) (record { few = omega arith; whole = refl; longest = λ h. absurd (false≢true (sym e ∙ h)) })

is_run : (n : ℕ) (bytes : List ℕ) → IsRun n bytes (run n bytes)
is_run zero bytes = record { few = omega arith; whole = refl; longest = λ h. refl }
is_run (suc n) [] = record { few = omega arith; whole = refl; longest = λ h. absurd (false≢true h) }
is_run (suc n) (x ∷ xs) = run_step n x xs (is_octal_digit x) refl (is_run n xs)

not_empty : (p : ℕ → Bool) (bytes : List ℕ) → begins p bytes ≡ true → 0 < length bytes
not_empty p [] e = absurd (false≢true e)
not_empty p (b ∷ bytes) e = omega arith

octal_taken : (c : ℕ) (bytes : List ℕ) (x : ℕ × List ℕ) → is_octal_digit c ≡ true → octal_at (c ∷ bytes) ≡ Some x → TakesAt (backslash ∷ c ∷ bytes) x
unfolding octal_at
octal_taken c bytes x first e =
    let digits = run 3 (c ∷ bytes) in
    let r = is_run 3 (c ∷ bytes) in
    let g = guard_some (nat_lt (value_of 8 digits) 256) (value_of 8 digits, drop (length digits) (c ∷ bytes)) x e in
    let begun : begins is_octal_digit digits ≡ true = run_begins is_octal_digit is_octal_digit (take 3 (c ∷ bytes)) (λ b h. h) first in
    subst (λ (y : ℕ × List ℕ). TakesAt (backslash ∷ c ∷ bytes) y) g.1
    (record {
      text = backslash ∷ digits;
      spelled = inr (inr (inr (record {
        digits = digits;
        each = run_passes is_octal_digit (take 3 (c ∷ bytes));
        some = not_empty is_octal_digit digits begun;
        few = r.few;
        longest = r.longest;
        value = refl;
        small = ltb-true (value_of 8 digits) 256 g.0;
        whole = refl;
      })));
      whole = ap (λ (ys : List ℕ). backslash ∷ ys) r.whole;
    })

marked : (c : ℕ) (bytes : List ℕ) (x : ℕ × List ℕ) → (escaped_of c >>= (λ b. Some (b, bytes))) ≡ Some x → TakesAt (backslash ∷ c ∷ bytes) x
marked c bytes x e =
    let m = bind_some (escaped_of c) (λ b. Some (b, bytes)) x e in
    subst (λ (y : ℕ × List ℕ). TakesAt (backslash ∷ c ∷ bytes) y) (some_same (m.0, bytes) x m.2)
    (record { text = backslash ∷ c ∷ []; spelled = inr (inl (record { mark = c; meaning = m.1; whole = refl })); whole = refl })

escape_taken : (bytes : List ℕ) (x : ℕ × List ℕ) → escape_at bytes ≡ Some x → TakesAt (backslash ∷ bytes) x
unfolding escape_at
escape_taken [] x e = absurd (cc)
escape_taken (c ∷ bytes) x e = ⊎_elim
    (λ o. octal_taken c bytes x o.0 o.1)
    (λ o. ⊎_elim
    (λ h. subst (λ (n : ℕ). TakesAt (backslash ∷ n ∷ bytes) x) (sym (eqb-true c 120 h.0)) (hex_taken bytes x h.1))
    (λ h. marked c bytes x h.1)
    (chosen (c == 120) (hex_at bytes) (escaped_of c >>= (λ b. Some (b, bytes))) (Some x) o.1))
    (chosen (is_octal_digit c) (octal_at (c ∷ bytes)) (cond (c == 120) (hex_at bytes) (escaped_of c >>= (λ b. Some (b, bytes)))) (Some x) e)

no_quote : (b : ℕ) (bytes : List ℕ) (t : Bool) → (b == quote) ≡ t → cond t (Some bytes) None ≡ None → (b == quote) ≡ false
no_quote b bytes true e h = absurd (cc)
no_quote b bytes false e h = e

plain_taken : (bytes : List ℕ) (x : ℕ × List ℕ) → past quote bytes ≡ None → byte_at bytes ≡ Some x → TakesAt bytes x
unfolding byte_at
plain_taken [] x q e = absurd (cc)
plain_taken (b ∷ bytes) x q e = ⊎_elim
    (λ o. subst (λ (n : ℕ). TakesAt (n ∷ bytes) x) (sym (eqb-true b backslash o.0)) (escape_taken bytes x o.1))
    (λ o.
    subst (λ (y : ℕ × List ℕ). TakesAt (b ∷ bytes) y) (some_same (b, bytes) x o.1)
    (record { text = b ∷ []; spelled = inl (refl, eqb-false b quote (no_quote b bytes (b == quote) refl q), eqb-false b backslash o.0); whole = refl }))
    (chosen (b == backslash) (escape_at bytes) (Some (b, bytes)) (Some x) e)

begins_more : (p : ℕ → Bool) (xs ys : List ℕ) → begins p xs ≡ true → begins p (xs ++ ys) ≡ true
begins_more p [] ys e = absurd (false≢true e)
begins_more p (x ∷ xs) ys e = e

-- the same where less is seen of what follows
nearer : (b : ℕ) (back rest text : List ℕ) → SpellsByte b (back ++ rest) text → SpellsByte b back text
nearer b back rest text s = ⊎_elim (λ p. inl p) (λ q. ⊎_elim (λ p. inr (inl p)) (λ r. ⊎_elim (λ p. inr (inr (inl p))) (λ o.
    inr (inr (inr (record {
      digits = o.digits;
      each = o.each;
      some = o.some;
      few = o.few;
      longest = λ h. o.longest (begins_more is_octal_digit back rest h);
      value = o.value;
      small = o.small;
      whole = o.whole;
    })))) r) q) s

string_case : (most : ℕ) (bytes : List ℕ) (x : List ℕ × List ℕ) (o : Option (List ℕ)) → past quote bytes ≡ o
    → ((bs : List ℕ) (y : List ℕ × List ℕ) → string_at most bs ≡ Some y → Takes (SpellsBytes y.0) bs y.1)
    → option_map_or (λ rest. Some ([], rest)) o (byte_at bytes >>= (λ b. string_at most b.1 >>= (λ more. Some (b.0 ∷ more.0, more.1)))) ≡ Some x
    → Takes (SpellsBytes x.0) bytes x.1
string_case most bytes x (Some rest) q ih e =
    subst (λ (y : List ℕ × List ℕ). Takes (SpellsBytes y.0) bytes y.1) (some_same ([], rest) x e) (byte_taken quote bytes rest q)
string_case most bytes x None q ih e =
    let b = bind_some (byte_at bytes) (λ b. string_at most b.1 >>= (λ more. Some (b.0 ∷ more.0, more.1))) x e in
    let m = bind_some (string_at most b.0.1) (λ more. Some (b.0.0 ∷ more.0, more.1)) x b.2 in
    let first = plain_taken bytes b.0 q b.1 in
    let others = ih b.0.1 m.0 m.1 in
    subst (λ (y : List ℕ × List ℕ). Takes (SpellsBytes y.0) bytes y.1) (some_same (b.0.0 ∷ m.0.0, m.0.1) x m.2)
    (record {
      text = first.text ++ others.text;
      spelled = (first.text, others.text, nearer b.0.0 others.text m.0.1 first.text (subst (λ (a : List ℕ). SpellsByte b.0.0 a first.text) others.whole first.spelled), others.spelled, refl);
      whole = first.whole ∙ ap (λ (a : List ℕ). first.text ++ a) others.whole ∙ sym (append_assoc first.text others.text m.0.1);
    })

string_taken : (most : ℕ) (bytes : List ℕ) (x : List ℕ × List ℕ) → string_at most bytes ≡ Some x → Takes (SpellsBytes x.0) bytes x.1
unfolding string_at
string_taken zero bytes x e = absurd (cc)
string_taken (suc most) bytes x e = string_case most bytes x (past quote bytes) refl (string_taken most) e

word_taken : (bytes : List ℕ) (x : Mnemonic × List ℕ) → mnemonic_at bytes ≡ Some x → Takes (IsWord x.0) (past_blanks bytes) x.1
word_taken bytes x e =
    let n = bind_some (name_at (past_blanks bytes)) (λ word. mnemonic_of word.0 >>= (λ m. Some (m, word.1))) x e in
    let m = bind_some (mnemonic_of n.0.0) (λ m. Some (m, n.0.1)) x n.2 in
    let t = name_taken (past_blanks bytes) n.0 n.1 in
    subst (λ (y : Mnemonic × List ℕ). Takes (IsWord y.0) (past_blanks bytes) y.1) (some_same (m.0, n.0.1) x m.2) (record { text = n.0.0; spelled = (t.0, m.1); whole = t.1 })

-- a statement that stands from a place on
abbrev Stands : List ℕ → Statement × List ℕ → Type 0
Stands bytes x = Takes (SpellsStatement x.0) bytes x.1

note_taken : (start bytes : List ℕ) (b : Bool) → begins is_blank bytes ≡ b → Takes (IsWord mnemonic.Note) start bytes → Stands start (Note, cond b [] bytes)
note_taken start bytes true e w = joined (IsWord mnemonic.Note) IsNote start bytes [] w (record { text = bytes; spelled = inr e; whole = sym (append-nil bytes) })
note_taken start bytes false e w = joined (IsWord mnemonic.Note) IsNote start bytes bytes w (record { text = []; spelled = inl refl; whole = refl })

operands_taken : (m : Mnemonic) (start bytes : List ℕ) (x : Statement × List ℕ) → Takes (IsWord m) start bytes → operands_at m bytes ≡ Some x → Stands start x
unfolding operands_at
operands_taken (mnemonic.Binary op) start bytes x w e =
    let g = bind_some (past_gap bytes) (λ first. register_at first >>= (λ r. past_comma r.1 >>= (λ second. term_at second >>= (λ t. Some (Binary op r.0 t.0, t.1))))) x e in
    let r = bind_some (register_at g.0) (λ r. past_comma r.1 >>= (λ second. term_at second >>= (λ t. Some (Binary op r.0 t.0, t.1)))) x g.2 in
    let s = bind_some (past_comma r.0.1) (λ second. term_at second >>= (λ t. Some (Binary op r.0.0 t.0, t.1))) x r.2 in
    let t = bind_some (term_at s.0) (λ t. Some (Binary op r.0.0 t.0, t.1)) x s.2 in
    subst (Stands start) (some_same (Binary op r.0.0 t.0.0, t.0.1) x t.2)
    (joined (IsWord (mnemonic.Binary op)) (IsGap ⨾ IsRegister r.0.0 ⨾ IsComma ⨾ SpellsTerm t.0.0) start bytes t.0.1 w
    (joined IsGap (IsRegister r.0.0 ⨾ IsComma ⨾ SpellsTerm t.0.0) bytes g.0 t.0.1 (gap_taken bytes g.0 g.1)
    (joined (IsRegister r.0.0) (IsComma ⨾ SpellsTerm t.0.0) g.0 r.0.1 t.0.1 (register_taken g.0 r.0 r.1)
    (joined IsComma (SpellsTerm t.0.0) r.0.1 s.0 t.0.1 (comma_taken r.0.1 s.0 s.1) (term_taken s.0 t.0 t.1)))))
operands_taken mnemonic.Putc start bytes x w e =
    let g = bind_some (past_gap bytes) (λ first. term_at first >>= (λ t. Some (Putc t.0, t.1))) x e in
    let t = bind_some (term_at g.0) (λ t. Some (Putc t.0, t.1)) x g.2 in
    subst (Stands start) (some_same (Putc t.0.0, t.0.1) x t.2)
    (joined (IsWord mnemonic.Putc) (IsGap ⨾ SpellsTerm t.0.0) start bytes t.0.1 w (joined IsGap (SpellsTerm t.0.0) bytes g.0 t.0.1 (gap_taken bytes g.0 g.1) (term_taken g.0 t.0 t.1)))
operands_taken mnemonic.Getc start bytes x w e =
    let g = bind_some (past_gap bytes) (λ first. register_at first >>= (λ r. Some (Getc r.0, r.1))) x e in
    let r = bind_some (register_at g.0) (λ r. Some (Getc r.0, r.1)) x g.2 in
    subst (Stands start) (some_same (Getc r.0.0, r.0.1) x r.2)
    (joined (IsWord mnemonic.Getc) (IsGap ⨾ IsRegister r.0.0) start bytes r.0.1 w (joined IsGap (IsRegister r.0.0) bytes g.0 r.0.1 (gap_taken bytes g.0 g.1) (register_taken g.0 r.0 r.1)))
operands_taken mnemonic.Exit start bytes x w e = subst (Stands start) (some_same (Exit, bytes) x e) w
operands_taken mnemonic.Dump start bytes x w e = subst (Stands start) (some_same (Dump, bytes) x e) w
operands_taken mnemonic.Jump start bytes x w e =
    let g = bind_some (past_gap bytes) (λ first. term_at first >>= (λ t. Some (Jump t.0, t.1))) x e in
    let t = bind_some (term_at g.0) (λ t. Some (Jump t.0, t.1)) x g.2 in
    subst (Stands start) (some_same (Jump t.0.0, t.0.1) x t.2)
    (joined (IsWord mnemonic.Jump) (IsGap ⨾ SpellsTerm t.0.0) start bytes t.0.1 w (joined IsGap (SpellsTerm t.0.0) bytes g.0 t.0.1 (gap_taken bytes g.0 g.1) (term_taken g.0 t.0 t.1)))
operands_taken (mnemonic.JumpIf c) start bytes x w e =
    let g = bind_some (past_gap bytes) (λ first. term_at first >>= (λ target. past_comma target.1 >>= (λ second. register_at second >>= (λ r. past_comma r.1 >>= (λ third. term_at third >>= (λ t. Some (JumpIf c target.0 r.0 t.0, t.1))))))) x e in
    let a = bind_some (term_at g.0) (λ target. past_comma target.1 >>= (λ second. register_at second >>= (λ r. past_comma r.1 >>= (λ third. term_at third >>= (λ t. Some (JumpIf c target.0 r.0 t.0, t.1)))))) x g.2 in
    let s = bind_some (past_comma a.0.1) (λ second. register_at second >>= (λ r. past_comma r.1 >>= (λ third. term_at third >>= (λ t. Some (JumpIf c a.0.0 r.0 t.0, t.1))))) x a.2 in
    let r = bind_some (register_at s.0) (λ r. past_comma r.1 >>= (λ third. term_at third >>= (λ t. Some (JumpIf c a.0.0 r.0 t.0, t.1)))) x s.2 in
    let u = bind_some (past_comma r.0.1) (λ third. term_at third >>= (λ t. Some (JumpIf c a.0.0 r.0.0 t.0, t.1))) x r.2 in
    let t = bind_some (term_at u.0) (λ t. Some (JumpIf c a.0.0 r.0.0 t.0, t.1)) x u.2 in
    subst (Stands start) (some_same (JumpIf c a.0.0 r.0.0 t.0.0, t.0.1) x t.2)
    (joined (IsWord (mnemonic.JumpIf c)) (IsGap ⨾ SpellsTerm a.0.0 ⨾ IsComma ⨾ IsRegister r.0.0 ⨾ IsComma ⨾ SpellsTerm t.0.0) start bytes t.0.1 w
    (joined IsGap (SpellsTerm a.0.0 ⨾ IsComma ⨾ IsRegister r.0.0 ⨾ IsComma ⨾ SpellsTerm t.0.0) bytes g.0 t.0.1 (gap_taken bytes g.0 g.1)
    (joined (SpellsTerm a.0.0) (IsComma ⨾ IsRegister r.0.0 ⨾ IsComma ⨾ SpellsTerm t.0.0) g.0 a.0.1 t.0.1 (term_taken g.0 a.0 a.1)
    (joined IsComma (IsRegister r.0.0 ⨾ IsComma ⨾ SpellsTerm t.0.0) a.0.1 s.0 t.0.1 (comma_taken a.0.1 s.0 s.1)
    (joined (IsRegister r.0.0) (IsComma ⨾ SpellsTerm t.0.0) s.0 r.0.1 t.0.1 (register_taken s.0 r.0 r.1)
    (joined IsComma (SpellsTerm t.0.0) r.0.1 u.0 t.0.1 (comma_taken r.0.1 u.0 u.1) (term_taken u.0 t.0 t.1)))))))
operands_taken mnemonic.Text start bytes x w e = subst (Stands start) (some_same (Text, bytes) x e) w
operands_taken mnemonic.Data start bytes x w e = ⊎_elim
    (λ c. subst (Stands start) (some_same (Data 0, bytes) x c.1) (mapped (IsWord mnemonic.Data) (SpellsStatement (Data 0)) start bytes (λ text t. inl (t, refl)) w))
    (λ c.
    let n = bind_some (past_gap bytes >>= number_at) (λ n. Some (Data n.0, n.1)) x c.1 in
    let g = bind_some (past_gap bytes) number_at n.0 n.1 in
    subst (Stands start) (some_same (Data n.0.0, n.0.1) x n.2)
    (mapped (IsWord mnemonic.Data ⨾ IsGap ⨾ SpellsNumber n.0.0) (SpellsStatement (Data n.0.0)) start n.0.1 (λ text t. inr t)
    (joined (IsWord mnemonic.Data) (IsGap ⨾ SpellsNumber n.0.0) start bytes n.0.1 w (joined IsGap (SpellsNumber n.0.0) bytes g.0 n.0.1 (gap_taken bytes g.0 g.1) (number_taken g.0 n.0 g.2)))))
    (chosen (ends bytes) (Some (Data 0, bytes)) (past_gap bytes >>= number_at >>= (λ n. Some (Data n.0, n.1))) (Some x) e)
operands_taken mnemonic.Long start bytes x w e =
    let g = bind_some (past_gap bytes) (λ first. constant_at first >>= (λ t. Some (Long t.0, t.1))) x e in
    let t = bind_some (constant_at g.0) (λ t. Some (Long t.0, t.1)) x g.2 in
    subst (Stands start) (some_same (Long t.0.0, t.0.1) x t.2)
    (joined (IsWord mnemonic.Long) (IsGap ⨾ SpellsConstant t.0.0) start bytes t.0.1 w (joined IsGap (SpellsConstant t.0.0) bytes g.0 t.0.1 (gap_taken bytes g.0 g.1) (constant_taken g.0 t.0 t.1)))
operands_taken mnemonic.Bytes start bytes x w e =
    let i = bind_some (inside_at bytes) (λ inside. string_at (length inside) inside >>= (λ s. Some (Bytes s.0, s.1))) x e in
    let s = bind_some (string_at (length i.0) i.0) (λ s. Some (Bytes s.0, s.1)) x i.2 in
    let g = bind_some (past_gap bytes) (λ first. past quote first) i.0 i.1 in
    subst (Stands start) (some_same (Bytes s.0.0, s.0.1) x s.2)
    (joined (IsWord mnemonic.Bytes) (IsGap ⨾ IsByte quote ⨾ SpellsBytes s.0.0) start bytes s.0.1 w
    (joined IsGap (IsByte quote ⨾ SpellsBytes s.0.0) bytes g.0 s.0.1 (gap_taken bytes g.0 g.1)
    (joined (IsByte quote) (SpellsBytes s.0.0) g.0 i.0 s.0.1 (byte_taken quote g.0 i.0 g.2) (string_taken (length i.0) i.0 s.0 s.1))))
operands_taken mnemonic.Note start bytes x w e = subst (Stands start) (some_same (Note, cond (begins is_blank bytes) [] bytes) x e) (note_taken start bytes (begins is_blank bytes) refl w)

statement_taken : (bytes : List ℕ) (x : Statement × List ℕ) → statement_at bytes ≡ Some x → Takes (AreBlanks ⨾ SpellsStatement x.0) bytes x.1
unfolding statement_at
statement_taken bytes x e = ⊎_elim
    (λ c.
    subst (λ (y : Statement × List ℕ). Takes (AreBlanks ⨾ SpellsStatement y.0) bytes y.1) (some_same (Nothing, bytes) x c.1)
    (record { text = []; spelled = record { front = []; back = []; first = refl; second = refl; whole = refl }; whole = refl }))
    (λ c.
    let m = bind_some (mnemonic_at bytes) (λ m. operands_at m.0 m.1) x c.1 in
    joined AreBlanks (SpellsStatement x.0) bytes (past_blanks bytes) x.1 (blanks_taken bytes) (operands_taken m.0.0 (past_blanks bytes) m.0.1 x (word_taken bytes m.0 m.1) m.2))
    (chosen (ends bytes) (Some (Nothing, bytes)) (mnemonic_at bytes >>= (λ m. operands_at m.0 m.1)) (Some x) e)

none_of : (o : Option Reg) → is_some o ≡ false → o ≡ None
none_of None e = refl
none_of (Some r) e = absurd (false≢true (sym e))

label_taken : (bytes : List ℕ) (x : List ℕ × List ℕ) → label_at bytes ≡ Some x → Takes (IsLabel x.0 ⨾ IsByte colon) bytes x.1
unfolding label_at
label_taken bytes x e =
    let n = bind_some (name_at bytes) (λ name. past colon name.1 >>= (λ rest. cond (is_some (register_of name.0)) None (Some (name.0, rest)))) x e in
    let p = bind_some (past colon n.0.1) (λ rest. cond (is_some (register_of n.0.0)) None (Some (n.0.0, rest))) x n.2 in
    let g = guard_none (is_some (register_of n.0.0)) (n.0.0, p.0) x p.2 in
    let t = name_taken bytes n.0 n.1 in
    let name : Takes (IsLabel n.0.0) bytes n.0.1 = record { text = n.0.0; spelled = (refl, t.0, none_of (register_of n.0.0) g.0); whole = t.1 } in
    subst (λ (y : List ℕ × List ℕ). Takes (IsLabel y.0 ⨾ IsByte colon) bytes y.1) g.1
    (joined (IsLabel n.0.0) (IsByte colon) bytes n.0.1 p.0 name (byte_taken colon n.0.1 p.0 p.1))

abbrev Labelled : List ℕ → List (List ℕ) × List ℕ → Type 0
Labelled bytes x = Takes (SpellsLabels x.0) bytes x.1

regrouped : (P Q R : List ℕ → Type 0) (text : List ℕ) → ((P ⨾ Q) ⨾ R) text → (P ⨾ Q ⨾ R) text
regrouped P Q R text j = record {
  front = j.first.front;
  back = j.first.back ++ j.back;
  first = j.first.first;
  second = record { front = j.first.back; back = j.back; first = j.first.second; second = j.second; whole = refl };
  whole = j.whole ∙ ap (λ (xs : List ℕ). xs ++ j.back) j.first.whole ∙ append_assoc j.first.front j.first.back j.back;
}

labels_case : (most : ℕ) (bytes : List ℕ) (o : Option (List ℕ × List ℕ)) → label_at (past_blanks bytes) ≡ o → ((bs : List ℕ) → Labelled bs (labels_at most bs))
    → Labelled bytes (option_map_or (λ label. (label.0 ∷ (labels_at most label.1).0, (labels_at most label.1).1)) o ([], bytes))
labels_case most bytes None e ih = record { text = []; spelled = refl; whole = refl }
labels_case most bytes (Some l) e ih =
    let names = (labels_at most l.1).0 in
    let rest = (labels_at most l.1).1 in
    joined AreBlanks (IsLabel l.0 ⨾ IsByte colon ⨾ SpellsLabels names) bytes (past_blanks bytes) rest (blanks_taken bytes)
    (mapped ((IsLabel l.0 ⨾ IsByte colon) ⨾ SpellsLabels names) (IsLabel l.0 ⨾ IsByte colon ⨾ SpellsLabels names) (past_blanks bytes) rest (regrouped (IsLabel l.0) (IsByte colon) (SpellsLabels names))
    (joined (IsLabel l.0 ⨾ IsByte colon) (SpellsLabels names) (past_blanks bytes) l.1 rest (label_taken (past_blanks bytes) l e) (ih l.1)))

labels_taken : (most : ℕ) (bytes : List ℕ) → Labelled bytes (labels_at most bytes)
unfolding labels_at
labels_taken zero bytes = record { text = []; spelled = refl; whole = refl }
labels_taken (suc most) bytes = labels_case most bytes (label_at (past_blanks bytes)) refl (labels_taken most)

-- each line that has a form spells it
pub line_spelled : (bytes : List ℕ) (line : Line) → form_of bytes ≡ Some line → SpellsLine line bytes
unfolding form_of
line_spelled bytes line e =
    let labels = (labels_at (length bytes) bytes).0 in
    let left = (labels_at (length bytes) bytes).1 in
    let s = bind_some (statement_at left) (λ s. cond (ends s.1) (Some (record { labels = labels; statement = s.0 })) None) line e in
    let said : Line = record { labels = labels; statement = s.0.0 } in
    let g = guard_some (ends s.0.1) said line s.2 in
    let l = labels_taken (length bytes) bytes in
    let t = statement_taken left s.0 s.1 in
    let whole : ((AreBlanks ⨾ SpellsStatement s.0.0) ⨾ IsEnd) left = record { front = t.text; back = s.0.1; first = t.spelled; second = g.0; whole = t.whole } in
    subst (λ (f : Line). SpellsLine f bytes) g.1
    (record { front = l.text; back = left; first = l.spelled; second = regrouped AreBlanks (SpellsStatement s.0.0) IsEnd left whole; whole = l.whole })
