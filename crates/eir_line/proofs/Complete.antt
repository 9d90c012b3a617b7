-- What a text spells is read of it.
use Rattle.std.proofs.Common.{◌≡◌, ℕ, ◌≤◌, ◌⊎◌, Bool, true, false, ◌&&◌, ◌||◌, ◌==◌, nat_le, cond, List, [], ◌∷◌, ◌++◌, length, take, drop, Option, Some, None, refl, sym, ap, ◌∙◌, subst, inl, inr, ⊎_elim, append_assoc, arith}
use Rattle.std.specs.List.{list_all, take_while, prefix_len}
use Rattle.std.specs.Option.{option_map_or}
use Rattle.std.specs.Char.{is_ascii_digit}
use Rattle.std.specs.Int.{is_in_range}
use Rattle.std.proofs.lemmas.Bool.{eqb-true, eq-eqb, leb-true, false≢true}
use Rattle.eir_core.specs.declared.ops.Reg.{Reg}
use Rattle.eir_line.specs.Line.{Term, Register, Number, Label}
use Rattle.eir_line.specs.Bytes.{◌>>=◌, comma, minus, plus, is_blank, starts_name, goes_on_name, begins, drop_while, past_blanks, past_gap, past, past_comma, name_at, digits_at}
use Rattle.eir_line.specs.Numbers.{value_of}
use Rattle.eir_line.specs.Words.{register_of}
use Rattle.eir_line.specs.Grammar.{register_at, number_at, signed_at, label_value_at, named_at, term_at, constant_at, is_register}
use Rattle.eir_line.specs.Spelling.{AreBlanks, IsGap, IsComma, IsName, AreDigits, IsRegister, SpellsNumber, SpellsTerm, SpellsConstant}

pub both : (a b : Bool) → (a && b) ≡ true → (a ≡ true) × (b ≡ true)
both true true e = (refl, refl)
both true false e = absurd (false≢true e)
both false b e = absurd (false≢true e)

-- how long a run is that ends before these bytes
run_len : (p : ℕ → Bool) (xs ys : List ℕ) → list_all p xs ≡ true → begins p ys ≡ false → prefix_len p (xs ++ ys) ≡ length xs
run_len p [] [] h e = refl
run_len p [] (y ∷ ys) h e = rw e refl
run_len p (x ∷ xs) ys h e =
    let b = both (p x) (list_all p xs) h in
    let first : p x ≡ true = b.0 in
    let ih : prefix_len p (xs ++ ys) ≡ length xs = run_len p xs ys b.1 e in
    rw first (omega (arith, ih))

taken : (xs ys : List ℕ) → take (length xs) (xs ++ ys) ≡ xs
taken [] ys = refl
taken (x ∷ xs) ys = ap (λ (zs : List ℕ). x ∷ zs) (taken xs ys)

dropped : (xs ys : List ℕ) → drop (length xs) (xs ++ ys) ≡ ys
dropped [] ys = refl
dropped (x ∷ xs) ys = dropped xs ys

pub run_taken : (p : ℕ → Bool) (xs ys : List ℕ) → list_all p xs ≡ true → begins p ys ≡ false → take_while p (xs ++ ys) ≡ xs
run_taken p xs ys h e = ap (λ n. take n (xs ++ ys)) (run_len p xs ys h e) ∙ taken xs ys

pub run_dropped : (p : ℕ → Bool) (xs ys : List ℕ) → list_all p xs ≡ true → begins p ys ≡ false → drop_while p (xs ++ ys) ≡ ys
run_dropped p xs ys h e = ap (λ n. drop n (xs ++ ys)) (run_len p xs ys h e) ∙ dropped xs ys

-- a text that isn't empty begins as it does with more behind it
pub begins_on : (p : ℕ → Bool) (xs ys : List ℕ) → begins p xs ≡ true → begins p (xs ++ ys) ≡ true
begins_on p [] ys e = absurd (false≢true e)
begins_on p (x ∷ xs) ys e = e

-- what begins with one kind of byte begins with no other
pub begins_other : (p q : ℕ → Bool) (xs : List ℕ) → ((b : ℕ) → p b ≡ true → q b ≡ false) → begins p xs ≡ true → begins q xs ≡ false
begins_other p q [] h e = refl
begins_other p q (x ∷ xs) h e = h x e

false_less : (a b : Bool) → (b ≡ true → a ≡ true) → a ≡ false → b ≡ false
false_less a false h e = refl
false_less a true h e = absurd (false≢true (sym e ∙ h refl))

pub begins_less : (p q : ℕ → Bool) (xs : List ℕ) → ((b : ℕ) → q b ≡ true → p b ≡ true) → begins p xs ≡ false → begins q xs ≡ false
begins_less p q [] h e = refl
begins_less p q (x ∷ xs) h e = false_less (p x) (q x) (h x) e

pub blanks_read : (b rest : List ℕ) → AreBlanks b → begins is_blank rest ≡ false → past_blanks (b ++ rest) ≡ rest
blanks_read b rest h e = run_dropped is_blank b rest h e

pub gap_read : (g rest : List ℕ) → IsGap g → begins is_blank rest ≡ false → past_gap (g ++ rest) ≡ Some rest
gap_read g rest h e = ap (λ (c : Bool). cond c (Some (past_blanks (g ++ rest))) None) (begins_on is_blank g rest h.0) ∙ ap (λ (r : List ℕ). Some r) (blanks_read g rest h.1 e)

eqb_same : (n : ℕ) → (n == n) ≡ true
eqb_same n = eq-eqb n n refl

pub byte_read : (c : ℕ) (rest : List ℕ) → past c (c ∷ rest) ≡ Some rest
byte_read c rest = ap (λ (b : Bool). cond b (Some rest) None) (eqb_same c)

pub false_of : (a : Bool) → (a ≡ true → ⊥) → a ≡ false
false_of false h = refl
false_of true h = absurd (h refl)

pub or_cases : (a b : Bool) → (a || b) ≡ true → (a ≡ true) ⊎ (b ≡ true)
or_cases true b e = inl refl
or_cases false b e = inr e

-- a blank fails each test that the three blanks fail
pub blank_fails : (q : ℕ → Bool) → q 32 ≡ false → q 9 ≡ false → q 13 ≡ false → (b : ℕ) → is_blank b ≡ true → q b ≡ false
blank_fails q space tab return b h = ⊎_elim
    (λ i. ⊎_elim
    (λ j. ap q (eqb-true b 32 j) ∙ space)
    (λ j. ap q (eqb-true b 9 j) ∙ tab)
    (or_cases (b == 32) (b == 9) i))
    (λ i. ap q (eqb-true b 13 i) ∙ return)
    (or_cases (b == 32 || b == 9) (b == 13) h)

pub no_blank : (q : ℕ → Bool) → q 32 ≡ false → q 9 ≡ false → q 13 ≡ false → (b : ℕ) → q b ≡ true → is_blank b ≡ false
no_blank q space tab return b e = false_of (is_blank b) (λ h. false≢true (sym (blank_fails q space tab return b h) ∙ e))

pub start_no_blank : (b : ℕ) → starts_name b ≡ true → is_blank b ≡ false
start_no_blank = no_blank starts_name refl refl refl

digit_no_blank : (b : ℕ) → is_ascii_digit b ≡ true → is_blank b ≡ false
digit_no_blank = no_blank is_ascii_digit refl refl refl

pub bounds : (low high b : ℕ) → is_in_range low high b ≡ true → (low ≤ b) × (b ≤ high)
bounds low high b e = let p = both (nat_le low b) (nat_le b high) e in (leb-true low b p.0, leb-true b high p.1)

digit_no_start : (b : ℕ) → is_ascii_digit b ≡ true → starts_name b ≡ false
digit_no_start b d =
    let r = bounds 48 57 b d in
    false_of (starts_name b) (λ h. ⊎_elim
    (λ i. ⊎_elim
    (λ j. ⊎_elim
    (λ k. let u = bounds 65 90 b k in omega (arith, r.1, u.0))
    (λ k. let u = bounds 97 122 b k in omega (arith, r.1, u.0))
    (or_cases (is_in_range 65 90 b) (is_in_range 97 122 b) j))
    (λ j. let u = eqb-true b 95 j in omega (arith, r.1, u))
    (or_cases (is_in_range 65 90 b || is_in_range 97 122 b) (b == 95) i))
    (λ i. let u = eqb-true b 46 i in omega (arith, r.0, u))
    (or_cases ((is_in_range 65 90 b || is_in_range 97 122 b) || b == 95) (b == 46) h))

digit_no_minus : (b : ℕ) → is_ascii_digit b ≡ true → (b == minus) ≡ false
digit_no_minus b d = let r = bounds 48 57 b d in false_of (b == minus) (λ h. let u = eqb-true b minus h in omega (arith, r.0, u))

spread : (d u l x y z : Bool) → d ≡ true → ((((((d || u) || l) || x) || y) || z) ≡ true)
spread true u l x y z h = refl
spread false u l x y z h = absurd (false≢true h)

digit_goes_on : (b : ℕ) → is_ascii_digit b ≡ true → goes_on_name b ≡ true
digit_goes_on b h = spread (is_in_range 48 57 b) (is_in_range 65 90 b) (is_in_range 97 122 b) (b == 95) (b == 46) (b == 36) h

-- no name goes on here, and nothing is added
pub record Stops (rest : List ℕ) : Type 0 where
  pub word : begins goes_on_name rest ≡ false
  pub sum : begins (λ b. b == plus) (past_blanks rest) ≡ false

pub no_digit : (rest : List ℕ) → begins goes_on_name rest ≡ false → begins is_ascii_digit rest ≡ false
no_digit rest e = begins_less goes_on_name is_ascii_digit rest digit_goes_on e

-- before blanks a name stops
pub blank_stops : (g rest : List ℕ) → begins is_blank g ≡ true → begins goes_on_name (g ++ rest) ≡ false
blank_stops g rest h = begins_other is_blank goes_on_name (g ++ rest) (blank_fails goes_on_name refl refl refl) (begins_on is_blank g rest h)

pub blanks_stop : (q : ℕ → Bool) → q 32 ≡ false → q 9 ≡ false → q 13 ≡ false → (b rest : List ℕ) → AreBlanks b → begins q rest ≡ false → begins q (b ++ rest) ≡ false
blanks_stop q space tab return [] rest h e = e
blanks_stop q space tab return (x ∷ xs) rest h e = blank_fails q space tab return x (both (is_blank x) (list_all is_blank xs) h).0

pub comma_read : (c rest : List ℕ) → IsComma c → begins is_blank rest ≡ false → past_comma (c ++ rest) ≡ Some rest
comma_read c rest h e =
    let j = h.second in
    let shape : c ++ rest ≡ h.front ++ (comma ∷ (j.back ++ rest)) =
    ap (λ (xs : List ℕ). xs ++ rest) h.whole ∙ append_assoc h.front h.back rest ∙ ap (λ (xs : List ℕ). h.front ++ xs) (ap (λ (xs : List ℕ). xs ++ rest) j.whole ∙ append_assoc j.front j.back rest ∙ ap (λ (xs : List ℕ). xs ++ (j.back ++ rest)) j.first) in
    let blanks : past_blanks (h.front ++ (comma ∷ (j.back ++ rest))) ≡ comma ∷ (j.back ++ rest) = blanks_read h.front (comma ∷ (j.back ++ rest)) h.first refl in
    ap past_comma shape ∙ ap (λ (xs : List ℕ). past comma xs >>= (λ r. Some (past_blanks r))) blanks ∙ ap (λ (o : Option (List ℕ)). o >>= (λ r. Some (past_blanks r))) (byte_read comma (j.back ++ rest))
    ∙ ap (λ (r : List ℕ). Some r) (blanks_read j.back rest j.second e)

pub comma_stops : (c rest : List ℕ) → IsComma c → Stops (c ++ rest)
comma_stops c rest h =
    let j = h.second in
    let shape : h.front ++ (comma ∷ (j.back ++ rest)) ≡ c ++ rest =
    sym (ap (λ (xs : List ℕ). xs ++ rest) h.whole ∙ append_assoc h.front h.back rest ∙ ap (λ (xs : List ℕ). h.front ++ xs) (ap (λ (xs : List ℕ). xs ++ rest) j.whole ∙ append_assoc j.front j.back rest ∙ ap (λ (xs : List ℕ). xs ++ (j.back ++ rest)) j.first)) in
    let blanks : past_blanks (h.front ++ (comma ∷ (j.back ++ rest))) ≡ comma ∷ (j.back ++ rest) = blanks_read h.front (comma ∷ (j.back ++ rest)) h.first refl in
    subst Stops shape (record {
      word = blanks_stop goes_on_name refl refl refl h.front (comma ∷ (j.back ++ rest)) h.first refl;
      sum = ap (begins (λ b. b == plus)) blanks;
    })

pub name_read : (name rest : List ℕ) → IsName name → begins goes_on_name rest ≡ false → name_at (name ++ rest) ≡ Some (name, rest)
name_read name rest h e =
    ap (λ (c : Bool). cond c (Some (take_while goes_on_name (name ++ rest), drop_while goes_on_name (name ++ rest))) None) (begins_on starts_name name rest h.0)
    ∙ ap (λ (x : List ℕ). Some (x, drop_while goes_on_name (name ++ rest))) (run_taken goes_on_name name rest h.1 e)
    ∙ ap (λ (x : List ℕ). Some (name, x)) (run_dropped goes_on_name name rest h.1 e)

pub digits_read : (digits rest : List ℕ) → AreDigits digits → begins is_ascii_digit rest ≡ false → digits_at (digits ++ rest) ≡ Some (digits, rest)
digits_read digits rest h e =
    ap (λ (c : Bool). cond c (Some (take_while is_ascii_digit (digits ++ rest), drop_while is_ascii_digit (digits ++ rest))) None) (begins_on is_ascii_digit digits rest h.0)
    ∙ ap (λ (x : List ℕ). Some (x, drop_while is_ascii_digit (digits ++ rest))) (run_taken is_ascii_digit digits rest h.1 e)
    ∙ ap (λ (x : List ℕ). Some (digits, x)) (run_dropped is_ascii_digit digits rest h.1 e)

pub register_read : (r : Reg) (text rest : List ℕ) → IsRegister r text → begins goes_on_name rest ≡ false → register_at (text ++ rest) ≡ Some (r, rest)
unfolding register_at
register_read r text rest h e =
    ap (λ (o : Option (List ℕ × List ℕ)). o >>= (λ name. register_of name.0 >>= (λ q. Some (q, name.1)))) (name_read text rest h.0 e)
    ∙ ap (λ (o : Option Reg). o >>= (λ q. Some (q, rest))) h.1

pub number_read : (n : ℕ) (text rest : List ℕ) → SpellsNumber n text → begins is_ascii_digit rest ≡ false → number_at (text ++ rest) ≡ Some (n, rest)
unfolding number_at
number_read n text rest h e =
    ap (λ (o : Option (List ℕ × List ℕ)). o >>= (λ digits. Some (value_of 10 digits.0, digits.1))) (digits_read text rest h.0 e)
    ∙ ap (λ (m : ℕ). Some (m, rest)) (sym h.1)

signed_read : (m : Bool) (n : ℕ) (text rest : List ℕ) → SpellsTerm (Number m n) text → begins is_ascii_digit rest ≡ false → signed_at (text ++ rest) ≡ Some (Number m n, rest)
unfolding signed_at
signed_read true n text rest h e =
    let shape : text ++ rest ≡ minus ∷ (h.back ++ rest) = ap (λ (xs : List ℕ). xs ++ rest) h.whole ∙ append_assoc h.front h.back rest ∙ ap (λ (xs : List ℕ). xs ++ (h.back ++ rest)) h.first in
    ap signed_at shape ∙ ap (λ (o : Option (ℕ × List ℕ)). o >>= (λ k. Some (Number true k.0, k.1))) (number_read n h.back rest h.second e)
signed_read false n text rest h e =
    ap (λ (c : Bool). cond c (number_at (drop 1 (text ++ rest)) >>= (λ k. Some (Number true k.0, k.1))) (number_at (text ++ rest) >>= (λ k. Some (Number false k.0, k.1))))
    (begins_other is_ascii_digit (λ b. b == minus) (text ++ rest) digit_no_minus (begins_on is_ascii_digit text rest h.0.0))
    ∙ ap (λ (o : Option (ℕ × List ℕ)). o >>= (λ k. Some (Number false k.0, k.1))) (number_read n text rest h e)

named_read : (name rest : List ℕ) (o : Option Reg) → IsName name → register_of name ≡ o → begins goes_on_name rest ≡ false
    → named_at (name ++ rest) ≡ option_map_or (λ r. Some (Register r, rest)) o (label_value_at name rest)
unfolding named_at
named_read name rest o h is e =
    ap (λ (p : Option (List ℕ × List ℕ)). p >>= (λ x. option_map_or (λ r. Some (Register r, x.1)) (register_of x.0) (label_value_at x.0 x.1))) (name_read name rest h e)
    ∙ ap (λ (q : Option Reg). option_map_or (λ r. Some (Register r, rest)) q (label_value_at name rest)) is

abbrev value_from : List ℕ → List ℕ → List ℕ → Option (Term × List ℕ)
value_from name after sum = cond (begins (λ b. b == plus) sum) (number_at (past_blanks (drop 1 sum)) >>= (λ n. Some (Label name n.0, n.1))) (Some (Label name 0, after))

bare_read : (name rest : List ℕ) → begins (λ b. b == plus) (past_blanks rest) ≡ false → label_value_at name rest ≡ Some (Label name 0, rest)
unfolding label_value_at
bare_read name rest e = ap (λ (c : Bool). cond c (number_at (past_blanks (drop 1 (past_blanks rest))) >>= (λ n. Some (Label name n.0, n.1))) (Some (Label name 0, rest))) e

sum_read : (name b c d rest : List ℕ) (n : ℕ) → AreBlanks b → AreBlanks c → SpellsNumber n d → begins is_ascii_digit rest ≡ false
    → label_value_at name (b ++ (plus ∷ (c ++ (d ++ rest)))) ≡ Some (Label name n, rest)
unfolding label_value_at
sum_read name b c d rest n hb hc hd e =
    let after = b ++ (plus ∷ (c ++ (d ++ rest))) in
    ap (value_from name after) (blanks_read b (plus ∷ (c ++ (d ++ rest))) hb refl)
    ∙ ap (λ (xs : List ℕ). number_at xs >>= (λ k. Some (Label name k.0, k.1))) (blanks_read c (d ++ rest) hc (begins_other is_ascii_digit is_blank (d ++ rest) digit_no_blank (begins_on is_ascii_digit d rest hd.0.0)))
    ∙ ap (λ (o : Option (ℕ × List ℕ)). o >>= (λ k. Some (Label name k.0, k.1))) (number_read n d rest hd e)

label_read : (name : List ℕ) (addend : ℕ) (text rest : List ℕ) → SpellsTerm (Label name addend) text → Stops rest → named_at (text ++ rest) ≡ Some (Label name addend, rest)
label_read name addend text rest h s = ⊎_elim
    (λ p.
    ap (λ (xs : List ℕ). named_at (xs ++ rest)) p.0.0 ∙ named_read name rest None p.0.1 p.0.2 s.word ∙ bare_read name rest s.sum
    ∙ ap (λ (n : ℕ). Some (Label name n, rest)) (sym p.1))
    (λ j.
    let k = j.second in
    let l = k.second in
    let m = l.second in
    let tail = m.front ++ (m.back ++ rest) in
    let plus_on : l.front ++ (m.front ++ m.back) ++ rest ≡ plus ∷ tail =
    ap (λ (xs : List ℕ). xs ++ (m.front ++ m.back) ++ rest) l.first ∙ ap (λ (xs : List ℕ). plus ∷ xs) (append_assoc m.front m.back rest) in
    let shape : text ++ rest ≡ name ++ (k.front ++ (plus ∷ tail)) =
    ap (λ (xs : List ℕ). xs ++ rest) (j.whole ∙ ap (λ (xs : List ℕ). j.front ++ xs) (k.whole ∙ ap (λ (xs : List ℕ). k.front ++ xs) (l.whole ∙ ap (λ (xs : List ℕ). l.front ++ xs) m.whole)))
    ∙ append_assoc j.front (k.front ++ (l.front ++ (m.front ++ m.back))) rest
    ∙ ap (λ (xs : List ℕ). j.front ++ xs) (append_assoc k.front (l.front ++ (m.front ++ m.back)) rest)
    ∙ ap (λ (xs : List ℕ). j.front ++ (k.front ++ xs)) plus_on
    ∙ ap (λ (xs : List ℕ). xs ++ (k.front ++ (plus ∷ tail))) j.first.0 in
    ap named_at shape
    ∙ named_read name (k.front ++ (plus ∷ tail)) None j.first.1 j.first.2 (blanks_stop goes_on_name refl refl refl k.front (plus ∷ tail) k.first refl)
    ∙ sum_read name k.front m.front m.back rest addend k.first m.first m.second (no_digit rest s.word))
    h

abbrev term_from : List ℕ → Bool → Option (Term × List ℕ)
term_from bytes c = cond c (named_at bytes) (signed_at bytes)

label_starts : (name : List ℕ) (addend : ℕ) (text rest : List ℕ) → SpellsTerm (Label name addend) text → begins starts_name (text ++ rest) ≡ true
label_starts name addend text rest h = begins_on starts_name text rest (⊎_elim
    (λ p. ap (begins starts_name) p.0.0 ∙ p.0.1.0)
    (λ j. ap (begins starts_name) j.whole ∙ begins_on starts_name j.front j.back (ap (begins starts_name) j.first.0 ∙ j.first.1.0))
    h)

pub term_read : (t : Term) (text rest : List ℕ) → SpellsTerm t text → Stops rest → term_at (text ++ rest) ≡ Some (t, rest)
unfolding term_at
term_read (Register r) text rest h s =
    ap (term_from (text ++ rest)) (begins_on starts_name text rest h.0.0) ∙ named_read text rest (Some r) h.0 h.1 s.word
term_read (Number true n) text rest h s =
    let shape : text ++ rest ≡ minus ∷ (h.back ++ rest) = ap (λ (xs : List ℕ). xs ++ rest) h.whole ∙ append_assoc h.front h.back rest ∙ ap (λ (xs : List ℕ). xs ++ (h.back ++ rest)) h.first in
    let start : begins starts_name (text ++ rest) ≡ false = ap (begins starts_name) shape in
    ap (term_from (text ++ rest)) start ∙ signed_read true n text rest h (no_digit rest s.word)
term_read (Number false n) text rest h s =
    ap (term_from (text ++ rest)) (begins_other is_ascii_digit starts_name (text ++ rest) digit_no_start (begins_on is_ascii_digit text rest h.0.0)) ∙ signed_read false n text rest h (no_digit rest s.word)
term_read (Label name addend) text rest h s =
    ap (term_from (text ++ rest)) (label_starts name addend text rest h) ∙ label_read name addend text rest h s

pub term_no_blank : (t : Term) (text rest : List ℕ) → SpellsTerm t text → begins is_blank (text ++ rest) ≡ false
term_no_blank (Register r) text rest h = begins_other starts_name is_blank (text ++ rest) start_no_blank (begins_on starts_name text rest h.0.0)
term_no_blank (Number true n) text rest h = ap (begins is_blank) (ap (λ (xs : List ℕ). xs ++ rest) h.whole ∙ append_assoc h.front h.back rest ∙ ap (λ (xs : List ℕ). xs ++ (h.back ++ rest)) h.first)
term_no_blank (Number false n) text rest h = begins_other is_ascii_digit is_blank (text ++ rest) digit_no_blank (begins_on is_ascii_digit text rest h.0.0)
term_no_blank (Label name addend) text rest h = begins_other starts_name is_blank (text ++ rest) start_no_blank (label_starts name addend text rest h)

pub register_no_blank : (r : Reg) (text rest : List ℕ) → IsRegister r text → begins is_blank (text ++ rest) ≡ false
register_no_blank r text rest h = begins_other starts_name is_blank (text ++ rest) start_no_blank (begins_on starts_name text rest h.0.0)

pub number_no_blank : (n : ℕ) (text rest : List ℕ) → SpellsNumber n text → begins is_blank (text ++ rest) ≡ false
number_no_blank n text rest h = begins_other is_ascii_digit is_blank (text ++ rest) digit_no_blank (begins_on is_ascii_digit text rest h.0.0)

pub constant_term : (t : Term) (text : List ℕ) → SpellsConstant t text → SpellsTerm t text × (is_register t ≡ false)
constant_term (Register r) text h = absurd h
constant_term (Number m n) text h = (h, refl)
constant_term (Label name n) text h = (h, refl)

pub constant_read : (t : Term) (text rest : List ℕ) → SpellsConstant t text → Stops rest → constant_at (text ++ rest) ≡ Some (t, rest)
unfolding constant_at
constant_read t text rest h s =
    let p = constant_term t text h in
    ap (λ (o : Option (Term × List ℕ)). o >>= (λ term. cond (is_register term.0) None (Some term))) (term_read t text rest p.0 s)
    ∙ ap (λ (c : Bool). cond c None (Some (t, rest))) p.1
