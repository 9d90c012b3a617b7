-- What is read of a text spells it.
use Rattle.std.proofs.Common.{◌≡◌, ℕ, zero, suc, ◌⊎◌, Bool, true, false, ◌||◌, ◌==◌, cond, List, [], ◌∷◌, ◌++◌, take, drop, Option, Some, None, refl, sym, ap, ◌∙◌, subst, inl, inr, ⊎_elim, append_assoc}
use Rattle.std.specs.List.{list_all, take_while}
use Rattle.std.specs.Char.{is_ascii_digit}
use Rattle.std.specs.Int.{is_in_range}
use Rattle.std.specs.Option.{option_map_or}
use Rattle.std.proofs.lemmas.Bool.{eqb-true, false≢true}
use Rattle.std.proofs.lemmas.List.Sums.{take_while-cons}
use Rattle.eir_core.specs.declared.ops.Reg.{Reg}
use Rattle.eir_line.specs.Line.{Term, Register, Number, Label}
use Rattle.eir_line.specs.Bytes.{◌>>=◌, comma, minus, plus, is_blank, starts_name, goes_on_name, begins, drop_while, past_blanks, past_gap, past, past_comma, name_at, digits_at}
use Rattle.eir_line.specs.Numbers.{value_of}
use Rattle.eir_line.specs.Words.{register_of}
use Rattle.eir_line.specs.Grammar.{register_at, number_at, signed_at, label_value_at, named_at, term_at, constant_at, is_register}
use Rattle.eir_line.specs.Spelling.{◌⨾◌, IsByte, AreBlanks, IsGap, IsComma, IsName, AreDigits, IsRegister, IsLabel, SpellsNumber, SpellsTerm, SpellsConstant}

-- a text of this kind stands at the front, and the rest follows
pub record Takes (P : List ℕ → Type 0) (bytes rest : List ℕ) : Type 0 where
  pub text : List ℕ
  pub spelled : P text
  pub whole : bytes ≡ text ++ rest

pub joined : (P Q : List ℕ → Type 0) (bytes mid rest : List ℕ) → Takes P bytes mid → Takes Q mid rest → Takes (P ⨾ Q) bytes rest
joined P Q bytes mid rest p q = record {
  text = p.text ++ q.text;
  spelled = record { front = p.text; back = q.text; first = p.spelled; second = q.spelled; whole = refl };
  whole = p.whole ∙ ap (λ (xs : List ℕ). p.text ++ xs) q.whole ∙ sym (append_assoc p.text q.text rest);
}

pub bind_some : {A B : Type 0} (o : Option A) (f : A → Option B) (y : B) → (o >>= f) ≡ Some y → (x : A) × (o ≡ Some x) × (f x ≡ Some y)
bind_some None f y e = absurd (cc)
bind_some (Some x) f y e = (x, refl, e)

pub guard_some : {A : Type 0} (b : Bool) (x y : A) → cond b (Some x) None ≡ Some y → (b ≡ true) × (x ≡ y)
guard_some true x y e = (refl, cc)
guard_some false x y e = absurd (cc)

pub guard_none : {A : Type 0} (b : Bool) (x y : A) → cond b None (Some x) ≡ Some y → (b ≡ false) × (x ≡ y)
guard_none false x y e = (refl, cc)
guard_none true x y e = absurd (cc)

pub chosen : {A : Type 0} (b : Bool) (x y z : A) → cond b x y ≡ z → ((b ≡ true) × (x ≡ z)) ⊎ ((b ≡ false) × (y ≡ z))
chosen true x y z e = inl (refl, e)
chosen false x y z e = inr (refl, e)

pub some_same : {A : Type 0} (x y : A) → Some x ≡ Some y → x ≡ y
some_same x y e = cc

parted : (n : ℕ) (xs : List ℕ) → xs ≡ take n xs ++ drop n xs
parted zero xs = refl
parted (suc n) [] = refl
parted (suc n) (x ∷ xs) = ap (λ (ys : List ℕ). x ∷ ys) (parted n xs)

run_step : (p : ℕ → Bool) (x : ℕ) (t : List ℕ) (b : Bool) → p x ≡ b → list_all p t ≡ true → list_all p (cond b (x ∷ t) []) ≡ true
run_step p x t true e ih = rw (e, ih) refl
run_step p x t false e ih = refl

-- each byte of a run passes
pub run_passes : (p : ℕ → Bool) (xs : List ℕ) → list_all p (take_while p xs) ≡ true
run_passes p [] = refl
run_passes p (x ∷ xs) = ap (list_all p) (take_while-cons p x xs) ∙ run_step p x (take_while p xs) (p x) refl (run_passes p xs)

-- a run begins as the bytes do, where what they begin with passes
pub run_begins : (p q : ℕ → Bool) (xs : List ℕ) → ((b : ℕ) → q b ≡ true → p b ≡ true) → begins q xs ≡ true → begins q (take_while p xs) ≡ true
run_begins p q [] h e = absurd (false≢true e)
run_begins p q (x ∷ xs) h e = ap (begins q) (take_while-cons p x xs) ∙ (rw (h x e) e)

run_whole : (p : ℕ → Bool) (xs : List ℕ) → xs ≡ take_while p xs ++ drop_while p xs
run_whole p xs = parted _ xs

pub blanks_taken : (bytes : List ℕ) → Takes AreBlanks bytes (past_blanks bytes)
blanks_taken bytes = record { text = take_while is_blank bytes; spelled = run_passes is_blank bytes; whole = run_whole is_blank bytes }

pub gap_taken : (bytes rest : List ℕ) → past_gap bytes ≡ Some rest → Takes IsGap bytes rest
gap_taken bytes rest e =
    let g = guard_some (begins is_blank bytes) (past_blanks bytes) rest e in
    record {
      text = take_while is_blank bytes;
      spelled = (run_begins is_blank is_blank bytes (λ b h. h) g.0, run_passes is_blank bytes);
      whole = run_whole is_blank bytes ∙ ap (λ (r : List ℕ). take_while is_blank bytes ++ r) g.1;
    }

pub byte_taken : (c : ℕ) (bytes rest : List ℕ) → past c bytes ≡ Some rest → Takes (IsByte c) bytes rest
byte_taken c [] rest e = absurd (cc)
byte_taken c (b ∷ bytes) rest e =
    let g = guard_some (b == c) bytes rest e in
    let i : b ≡ c = eqb-true b c g.0 in
    record { text = c ∷ []; spelled = refl; whole = ap (λ (x : ℕ). x ∷ bytes) i ∙ ap (λ (r : List ℕ). c ∷ r) g.1 }

pub comma_taken : (bytes rest : List ℕ) → past_comma bytes ≡ Some rest → Takes IsComma bytes rest
comma_taken bytes rest e =
    let m = bind_some (past comma (past_blanks bytes)) (λ r. Some (past_blanks r)) rest e in
    let i : past_blanks m.0 ≡ rest = some_same (past_blanks m.0) rest m.2 in
    subst (λ (r : List ℕ). Takes IsComma bytes r) i
    (joined AreBlanks (IsByte comma ⨾ AreBlanks) bytes (past_blanks bytes) (past_blanks m.0) (blanks_taken bytes)
    (joined (IsByte comma) AreBlanks (past_blanks bytes) m.0 (past_blanks m.0) (byte_taken comma (past_blanks bytes) m.0 m.1) (blanks_taken m.0)))

widened : (d u l x y z : Bool) → (((u || l) || x) || y) ≡ true → ((((((d || u) || l) || x) || y) || z) ≡ true)
widened true u l x y z h = refl
widened false true l x y z h = refl
widened false false true x y z h = refl
widened false false false true y z h = refl
widened false false false false true z h = refl
widened false false false false false z h = absurd (false≢true h)

pub starts_goes_on : (b : ℕ) → starts_name b ≡ true → goes_on_name b ≡ true
starts_goes_on b h = widened (is_in_range 48 57 b) (is_in_range 65 90 b) (is_in_range 97 122 b) (b == 95) (b == 46) (b == 36) h

pub name_taken : (bytes : List ℕ) (x : List ℕ × List ℕ) → name_at bytes ≡ Some x → IsName x.0 × (bytes ≡ x.0 ++ x.1)
name_taken bytes x e =
    let g = guard_some (begins starts_name bytes) (take_while goes_on_name bytes, drop_while goes_on_name bytes) x e in
    subst (λ (y : List ℕ × List ℕ). IsName y.0 × (bytes ≡ y.0 ++ y.1)) g.1
    ((run_begins goes_on_name starts_name bytes starts_goes_on g.0, run_passes goes_on_name bytes), run_whole goes_on_name bytes)

pub digits_taken : (bytes : List ℕ) (x : List ℕ × List ℕ) → digits_at bytes ≡ Some x → AreDigits x.0 × (bytes ≡ x.0 ++ x.1)
digits_taken bytes x e =
    let g = guard_some (begins is_ascii_digit bytes) (take_while is_ascii_digit bytes, drop_while is_ascii_digit bytes) x e in
    subst (λ (y : List ℕ × List ℕ). AreDigits y.0 × (bytes ≡ y.0 ++ y.1)) g.1
    ((run_begins is_ascii_digit is_ascii_digit bytes (λ b h. h) g.0, run_passes is_ascii_digit bytes), run_whole is_ascii_digit bytes)

pub mapped : (P Q : List ℕ → Type 0) (bytes rest : List ℕ) → ((text : List ℕ) → P text → Q text) → Takes P bytes rest → Takes Q bytes rest
mapped P Q bytes rest f t = record { text = t.text; spelled = f t.text t.spelled; whole = t.whole }

begin_taken : (c : ℕ) (bytes : List ℕ) → begins (λ b. b == c) bytes ≡ true → Takes (IsByte c) bytes (drop 1 bytes)
begin_taken c [] e = absurd (false≢true e)
begin_taken c (b ∷ bytes) e = record { text = c ∷ []; spelled = refl; whole = ap (λ (x : ℕ). x ∷ bytes) (eqb-true b c e) }

pub register_taken : (bytes : List ℕ) (x : Reg × List ℕ) → register_at bytes ≡ Some x → Takes (IsRegister x.0) bytes x.1
unfolding register_at
register_taken bytes x e =
    let n = bind_some (name_at bytes) (λ name. register_of name.0 >>= (λ r. Some (r, name.1))) x e in
    let r = bind_some (register_of n.0.0) (λ r. Some (r, n.0.1)) x n.2 in
    let t = name_taken bytes n.0 n.1 in
    subst (λ (y : Reg × List ℕ). Takes (IsRegister y.0) bytes y.1) (some_same (r.0, n.0.1) x r.2) (record { text = n.0.0; spelled = (t.0, r.1); whole = t.1 })

pub number_taken : (bytes : List ℕ) (x : ℕ × List ℕ) → number_at bytes ≡ Some x → Takes (SpellsNumber x.0) bytes x.1
unfolding number_at
number_taken bytes x e =
    let d = bind_some (digits_at bytes) (λ digits. Some (value_of 10 digits.0, digits.1)) x e in
    let t = digits_taken bytes d.0 d.1 in
    subst (λ (y : ℕ × List ℕ). Takes (SpellsNumber y.0) bytes y.1) (some_same (value_of 10 d.0.0, d.0.1) x d.2) (record { text = d.0.0; spelled = (t.0, refl); whole = t.1 })

signed_taken : (bytes : List ℕ) (x : Term × List ℕ) → signed_at bytes ≡ Some x → Takes (SpellsTerm x.0) bytes x.1
unfolding signed_at
signed_taken bytes x e = ⊎_elim
    (λ c.
    let n = bind_some (number_at (drop 1 bytes)) (λ n. Some (Number true n.0, n.1)) x c.1 in
    subst (λ (y : Term × List ℕ). Takes (SpellsTerm y.0) bytes y.1) (some_same (Number true n.0.0, n.0.1) x n.2)
    (joined (IsByte minus) (SpellsNumber n.0.0) bytes (drop 1 bytes) n.0.1 (begin_taken minus bytes c.0) (number_taken (drop 1 bytes) n.0 n.1)))
    (λ c.
    let n = bind_some (number_at bytes) (λ n. Some (Number false n.0, n.1)) x c.1 in
    subst (λ (y : Term × List ℕ). Takes (SpellsTerm y.0) bytes y.1) (some_same (Number false n.0.0, n.0.1) x n.2) (number_taken bytes n.0 n.1))
    (chosen (begins (λ b. b == minus) bytes) (number_at (drop 1 bytes) >>= (λ n. Some (Number true n.0, n.1))) (number_at bytes >>= (λ n. Some (Number false n.0, n.1))) (Some x) e)

label_taken : (bytes name after : List ℕ) (x : Term × List ℕ) → bytes ≡ name ++ after → IsName name → register_of name ≡ None → label_value_at name after ≡ Some x → Takes (SpellsTerm x.0) bytes x.1
unfolding label_value_at
label_taken bytes name after x whole named none e =
    let label : Takes (IsLabel name) bytes after = record { text = name; spelled = (refl, named, none); whole = whole } in
    ⊎_elim
    (λ c.
    let sum = past_blanks after in
    let digits = past_blanks (drop 1 sum) in
    let n = bind_some (number_at digits) (λ n. Some (Label name n.0, n.1)) x c.1 in
    subst (λ (y : Term × List ℕ). Takes (SpellsTerm y.0) bytes y.1) (some_same (Label name n.0.0, n.0.1) x n.2)
    (mapped (IsLabel name ⨾ AreBlanks ⨾ IsByte plus ⨾ AreBlanks ⨾ SpellsNumber n.0.0) (SpellsTerm (Label name n.0.0)) bytes n.0.1 (λ text t. inr t)
    (joined (IsLabel name) (AreBlanks ⨾ IsByte plus ⨾ AreBlanks ⨾ SpellsNumber n.0.0) bytes after n.0.1 label
    (joined AreBlanks (IsByte plus ⨾ AreBlanks ⨾ SpellsNumber n.0.0) after sum n.0.1 (blanks_taken after)
    (joined (IsByte plus) (AreBlanks ⨾ SpellsNumber n.0.0) sum (drop 1 sum) n.0.1 (begin_taken plus sum c.0)
    (joined AreBlanks (SpellsNumber n.0.0) (drop 1 sum) digits n.0.1 (blanks_taken (drop 1 sum)) (number_taken digits n.0 n.1)))))))
    (λ c.
    subst (λ (y : Term × List ℕ). Takes (SpellsTerm y.0) bytes y.1) (some_same (Label name 0, after) x c.1)
    (mapped (IsLabel name) (SpellsTerm (Label name 0)) bytes after (λ text t. inl (t, refl)) label))
    (chosen (begins (λ b. b == plus) (past_blanks after)) (number_at (past_blanks (drop 1 (past_blanks after))) >>= (λ n. Some (Label name n.0, n.1))) (Some (Label name 0, after)) (Some x) e)

named_cases : (bytes name after : List ℕ) (x : Term × List ℕ) (o : Option Reg) → bytes ≡ name ++ after → IsName name → register_of name ≡ o
    → option_map_or (λ r. Some (Register r, after)) o (label_value_at name after) ≡ Some x → Takes (SpellsTerm x.0) bytes x.1
named_cases bytes name after x (Some r) whole named is e =
    subst (λ (y : Term × List ℕ). Takes (SpellsTerm y.0) bytes y.1) (some_same (Register r, after) x e) (record { text = name; spelled = (named, is); whole = whole })
named_cases bytes name after x None whole named is e = label_taken bytes name after x whole named is e

named_taken : (bytes : List ℕ) (x : Term × List ℕ) → named_at bytes ≡ Some x → Takes (SpellsTerm x.0) bytes x.1
unfolding named_at
named_taken bytes x e =
    let n = bind_some (name_at bytes) (λ name. option_map_or (λ r. Some (Register r, name.1)) (register_of name.0) (label_value_at name.0 name.1)) x e in
    let t = name_taken bytes n.0 n.1 in
    named_cases bytes n.0.0 n.0.1 x (register_of n.0.0) t.1 t.0 refl n.2

pub term_taken : (bytes : List ℕ) (x : Term × List ℕ) → term_at bytes ≡ Some x → Takes (SpellsTerm x.0) bytes x.1
unfolding term_at
term_taken bytes x e = ⊎_elim (λ c. named_taken bytes x c.1) (λ c. signed_taken bytes x c.1) (chosen (begins starts_name bytes) (named_at bytes) (signed_at bytes) (Some x) e)

constant : (t : Term) (text : List ℕ) → is_register t ≡ false → SpellsTerm t text → SpellsConstant t text
constant (Register r) text e s = absurd (false≢true (sym e))
constant (Number m n) text e s = s
constant (Label name n) text e s = s

pub constant_taken : (bytes : List ℕ) (x : Term × List ℕ) → constant_at bytes ≡ Some x → Takes (SpellsConstant x.0) bytes x.1
unfolding constant_at
constant_taken bytes x e =
    let t = bind_some (term_at bytes) (λ term. cond (is_register term.0) None (Some term)) x e in
    let g = guard_none (is_register t.0.0) t.0 x t.2 in
    subst (λ (y : Term × List ℕ). Takes (SpellsConstant y.0) bytes y.1) g.1
    (mapped (SpellsTerm t.0.0) (SpellsConstant t.0.0) bytes t.0.1 (λ text s. constant t.0.0 text g.0 s) (term_taken bytes t.0 t.1))
