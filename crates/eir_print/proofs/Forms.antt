-- The forms of printed lines.
use Rattle.std.proofs.Common.{◌≡◌, ℕ, zero, suc, ◌+◌, ◌^◌, ◌<◌, Bool, true, false, not, if◌then◌else◌, ◌==◌, ◌&&◌, List, [], ◌∷◌, ◌++◌, length, take, drop, is_some, Option, Some, None, refl, ap, subst, ◌∙◌, arith, append-nil, append_assoc}
use Rattle.std.specs.Prelude.{codes, decimal}
use Rattle.std.specs.List.{list_all, take_while, prefix_len}
use Rattle.std.specs.Option.{option_map_or}
use Rattle.std.proofs.lemmas.List.Folds.{list_all-append}
use Rattle.word24.specs.declared.word.Word.{Word}
use Rattle.word24.specs.Word.{number_of}
use Rattle.eir_core.specs.declared.ops.Reg.{Reg}
use Rattle.eir_core.specs.declared.ops.Reg.TheVariants as reg
use Rattle.eir_core.specs.declared.ops.Operand.{Operand}
use Rattle.eir_core.specs.declared.ops.Operand.TheVariants as operand
use Rattle.eir_core.specs.declared.ops.Cond.{Cond}
use Rattle.eir_core.specs.declared.ops.Cond.TheVariants.{Eq, Ne, Lt, Gt, Le, Ge}
use Rattle.eir_core.specs.declared.ops.Op.{Op}
use Rattle.eir_core.specs.declared.ops.Op.TheVariants as op
use Rattle.eir_line.specs.declared.words.BinaryOp.{BinaryOp}
use Rattle.eir_line.specs.declared.words.BinaryOp.TheVariants as binary
use Rattle.eir_line.specs.declared.words.Mnemonic.TheVariants as mnemonic
use Rattle.eir_line.specs.Line.{Term, Statement, Line, Register, Number, Nothing, Binary, Putc, Getc, Exit, Jump, JumpIf, Text, Data, Long}
use Rattle.eir_line.specs.Bytes.{◌>>=◌, drop_while, colon, ends, past, past_blanks, past_comma, goes_on_name}
use Rattle.eir_line.specs.Words.{register_of, mnemonic_of}
use Rattle.eir_line.specs.Grammar.{label_at, labels_at, register_at, named_at, label_value_at, term_at, is_register, constant_at, operands_at, statement_at, form_of}
use Rattle.eir_print.specs.Printed.{register_name, operand_text, comparison_name, with_operand, with_two, with_three, op_line, word_line, label_line}
use Rattle.eir_print.proofs.Digits.{decimal_digits, decimal_read, decimal_unspaced, decimal_unbroken, digits_taken, digits_dropped, names_go_on}

-- the text has no line feed
abbrev pub is_unbroken : List ℕ → Bool
is_unbroken text = list_all (λ b. not (b == 10)) text

-- the text of a value, which is read again wherever it is printed
pub record IsTermText (text : List ℕ) (t : Term) : Type 0 where
  pub at_end : term_at text ≡ Some (t, [])
  pub at_comma : (rest : List ℕ) → term_at (text ++ 44 ∷ rest) ≡ Some (t, 44 ∷ rest)
  pub unspaced : past_blanks (32 ∷ text) ≡ text
  pub unspaced_at_comma : (rest : List ℕ) → past_blanks (32 ∷ (text ++ 44 ∷ rest)) ≡ text ++ 44 ∷ rest
  pub unbroken : is_unbroken text ≡ true

-- the value that an operand is printed as
abbrev pub term_said : Operand → Term
term_said (operand.Reg r) = Register r
term_said (operand.Imm w) = Number false (number_of w)

register_text : (r : Reg) → IsTermText (register_name r) (Register r)
unfolding term_at named_at label_value_at register_of
register_text reg.A = record { at_end = refl; at_comma = λ rest. refl; unspaced = refl; unspaced_at_comma = λ rest. refl; unbroken = refl }
register_text reg.B = record { at_end = refl; at_comma = λ rest. refl; unspaced = refl; unspaced_at_comma = λ rest. refl; unbroken = refl }
register_text reg.C = record { at_end = refl; at_comma = λ rest. refl; unspaced = refl; unspaced_at_comma = λ rest. refl; unbroken = refl }
register_text reg.D = record { at_end = refl; at_comma = λ rest. refl; unspaced = refl; unspaced_at_comma = λ rest. refl; unbroken = refl }
register_text reg.SP = record { at_end = refl; at_comma = λ rest. refl; unspaced = refl; unspaced_at_comma = λ rest. refl; unbroken = refl }
register_text reg.BP = record { at_end = refl; at_comma = λ rest. refl; unspaced = refl; unspaced_at_comma = λ rest. refl; unbroken = refl }

pub number_text : (n : ℕ) → n < 2 ^ 64 → IsTermText (decimal n) (Number false n)
number_text n h = record {
  at_end = subst (λ bs. term_at bs ≡ Some (Number false n, [])) (append-nil (decimal n)) (decimal_read n [] h refl);
  at_comma = λ rest. decimal_read n (44 ∷ rest) h refl;
  unspaced = subst (λ bs. past_blanks (32 ∷ bs) ≡ bs) (append-nil (decimal n)) (decimal_unspaced n [] h);
  unspaced_at_comma = λ rest. decimal_unspaced n (44 ∷ rest) h;
  unbroken = decimal_unbroken n h;
}

term_text : (v : Operand) → IsTermText (operand_text v) (term_said v)
term_text (operand.Reg r) = register_text r
term_text (operand.Imm w) = let small : w.value < 2 ^ 24 = w.in_range in number_text w.value (omega arith)

-- a value behind a space, at the line's end
last_term : {X : Type 0} (text : List ℕ) (t : Term) (f : Term × List ℕ → Option X) → IsTermText text t → (term_at (past_blanks (32 ∷ text)) >>= f) ≡ f (t, [])
last_term text t f h = ap (λ bs. term_at bs >>= f) h.unspaced ∙ ap (λ o. o >>= f) h.at_end

-- a value behind a space, before a comma
first_term : {X : Type 0} (text rest : List ℕ) (t : Term) (f : Term × List ℕ → Option X) → IsTermText text t → (term_at (past_blanks (32 ∷ (text ++ 44 ∷ rest))) >>= f) ≡ f (t, 44 ∷ rest)
first_term text rest t f h = ap (λ bs. term_at bs >>= f) (h.unspaced_at_comma rest) ∙ ap (λ o. o >>= f) (h.at_comma rest)

binary_read : (b : BinaryOp) (r : Reg) (text : List ℕ) (t : Term) → IsTermText text t → operands_at (mnemonic.Binary b) (32 ∷ ((register_name r ++ codes ", ") ++ text)) ≡ Some (Binary b r t, [])
unfolding operands_at register_at register_of
binary_read b reg.A text t h = last_term text t (λ x. Some (Binary b reg.A x.0, x.1)) h
binary_read b reg.B text t h = last_term text t (λ x. Some (Binary b reg.B x.0, x.1)) h
binary_read b reg.C text t h = last_term text t (λ x. Some (Binary b reg.C x.0, x.1)) h
binary_read b reg.D text t h = last_term text t (λ x. Some (Binary b reg.D x.0, x.1)) h
binary_read b reg.SP text t h = last_term text t (λ x. Some (Binary b reg.SP x.0, x.1)) h
binary_read b reg.BP text t h = last_term text t (λ x. Some (Binary b reg.BP x.0, x.1)) h

putc_read : (text : List ℕ) (t : Term) → IsTermText text t → operands_at mnemonic.Putc (32 ∷ text) ≡ Some (Putc t, [])
unfolding operands_at
putc_read text t h = last_term text t (λ x. Some (Putc x.0, x.1)) h

jump_read : (text : List ℕ) (t : Term) → IsTermText text t → operands_at mnemonic.Jump (32 ∷ text) ≡ Some (Jump t, [])
unfolding operands_at
jump_read text t h = last_term text t (λ x. Some (Jump x.0, x.1)) h

-- what stands behind the target of a jump that compares
compared : Cond → Term × List ℕ → Option (Statement × List ℕ)
compared c target = do
  second ← past_comma target.1
  r ← register_at second
  third ← past_comma r.1
  t ← term_at third
  Some (JumpIf c target.0 r.0 t.0, t.1)

compared_read : (c : Cond) (target : Term) (r : Reg) (text : List ℕ) (t : Term) → IsTermText text t → compared c (target, 44 ∷ 32 ∷ (register_name r ++ (44 ∷ 32 ∷ text))) ≡ Some (JumpIf c target r t, [])
unfolding compared register_at register_of
compared_read c target reg.A text t h = last_term text t (λ x. Some (JumpIf c target reg.A x.0, x.1)) h
compared_read c target reg.B text t h = last_term text t (λ x. Some (JumpIf c target reg.B x.0, x.1)) h
compared_read c target reg.C text t h = last_term text t (λ x. Some (JumpIf c target reg.C x.0, x.1)) h
compared_read c target reg.D text t h = last_term text t (λ x. Some (JumpIf c target reg.D x.0, x.1)) h
compared_read c target reg.SP text t h = last_term text t (λ x. Some (JumpIf c target reg.SP x.0, x.1)) h
compared_read c target reg.BP text t h = last_term text t (λ x. Some (JumpIf c target reg.BP x.0, x.1)) h

jump_if_read : (c : Cond) (first : List ℕ) (target : Term) (r : Reg) (text : List ℕ) (t : Term) → IsTermText first target → IsTermText text t
    → operands_at (mnemonic.JumpIf c) (32 ∷ ((((first ++ codes ", ") ++ register_name r) ++ codes ", ") ++ text)) ≡ Some (JumpIf c target r t, [])
unfolding operands_at compared
jump_if_read c first target r text t g h =
    let e : (((first ++ codes ", ") ++ register_name r) ++ codes ", ") ++ text ≡ first ++ (44 ∷ 32 ∷ (register_name r ++ (44 ∷ 32 ∷ text))) = simp append_assoc in
    ap (λ bs. operands_at (mnemonic.JumpIf c) (32 ∷ bs)) e ∙ (first_term first (32 ∷ (register_name r ++ (44 ∷ 32 ∷ text))) target (compared c) g ∙ compared_read c target r text t h)

-- the form of a line without labels
statement_form : (line : List ℕ) (s : Statement) → labels_at (length line) line ≡ ([], line) → statement_at line ≡ Some (s, []) → form_of line ≡ Some (record { labels = []; statement = s })
unfolding form_of
statement_form line s unlabelled read =
    ap (λ (l : List (List ℕ) × List ℕ). statement_at l.1 >>= (λ x. if ends x.1 then Some (record { labels = l.0; statement = x.0 }) else None)) unlabelled
    ∙ ap (λ o. o >>= (λ x. if ends x.1 then Some (record { labels = []; statement = x.0 }) else None)) read

-- the statement that an operation is printed as
abbrev pub statement_said : Op → Statement
statement_said (op.Mov r v) = Binary binary.Mov r (term_said v)
statement_said (op.Add r v) = Binary binary.Add r (term_said v)
statement_said (op.Sub r v) = Binary binary.Sub r (term_said v)
statement_said (op.Load r v) = Binary binary.Load r (term_said v)
statement_said (op.Store r v) = Binary binary.Store r (term_said v)
statement_said (op.Putc v) = Putc (term_said v)
statement_said (op.Getc r) = Getc r
statement_said op.Exit = Exit
statement_said (op.Set c r v) = Binary (binary.Set c) r (term_said v)
statement_said (op.Jump v) = Jump (term_said v)
statement_said (op.JumpIf c target r v) = JumpIf c (term_said target) r (term_said v)

-- a line without labels
abbrev pub saying : Statement → Line
saying s = record { labels = []; statement = s }

-- a line of a label alone
abbrev pub labelled : List ℕ → Line
labelled name = record { labels = name ∷ []; statement = Nothing }

pub op_form : (o : Op) → form_of (op_line o) ≡ Some (saying (statement_said o))
unfolding labels_at label_at statement_at mnemonic_of operands_at register_at register_of
op_form (op.Mov r v) = statement_form (op_line (op.Mov r v)) (Binary binary.Mov r (term_said v)) refl (binary_read binary.Mov r (operand_text v) (term_said v) (term_text v))
op_form (op.Add r v) = statement_form (op_line (op.Add r v)) (Binary binary.Add r (term_said v)) refl (binary_read binary.Add r (operand_text v) (term_said v) (term_text v))
op_form (op.Sub r v) = statement_form (op_line (op.Sub r v)) (Binary binary.Sub r (term_said v)) refl (binary_read binary.Sub r (operand_text v) (term_said v) (term_text v))
op_form (op.Load r v) = statement_form (op_line (op.Load r v)) (Binary binary.Load r (term_said v)) refl (binary_read binary.Load r (operand_text v) (term_said v) (term_text v))
op_form (op.Store r v) = statement_form (op_line (op.Store r v)) (Binary binary.Store r (term_said v)) refl (binary_read binary.Store r (operand_text v) (term_said v) (term_text v))
op_form (op.Putc v) = statement_form (op_line (op.Putc v)) (Putc (term_said v)) refl (putc_read (operand_text v) (term_said v) (term_text v))
op_form (op.Getc reg.A) = statement_form (op_line (op.Getc reg.A)) (Getc reg.A) refl refl
op_form (op.Getc reg.B) = statement_form (op_line (op.Getc reg.B)) (Getc reg.B) refl refl
op_form (op.Getc reg.C) = statement_form (op_line (op.Getc reg.C)) (Getc reg.C) refl refl
op_form (op.Getc reg.D) = statement_form (op_line (op.Getc reg.D)) (Getc reg.D) refl refl
op_form (op.Getc reg.SP) = statement_form (op_line (op.Getc reg.SP)) (Getc reg.SP) refl refl
op_form (op.Getc reg.BP) = statement_form (op_line (op.Getc reg.BP)) (Getc reg.BP) refl refl
op_form op.Exit = statement_form (op_line op.Exit) Exit refl refl
op_form (op.Set Eq r v) = statement_form (op_line (op.Set Eq r v)) (Binary (binary.Set Eq) r (term_said v)) refl (binary_read (binary.Set Eq) r (operand_text v) (term_said v) (term_text v))
op_form (op.Set Ne r v) = statement_form (op_line (op.Set Ne r v)) (Binary (binary.Set Ne) r (term_said v)) refl (binary_read (binary.Set Ne) r (operand_text v) (term_said v) (term_text v))
op_form (op.Set Lt r v) = statement_form (op_line (op.Set Lt r v)) (Binary (binary.Set Lt) r (term_said v)) refl (binary_read (binary.Set Lt) r (operand_text v) (term_said v) (term_text v))
op_form (op.Set Gt r v) = statement_form (op_line (op.Set Gt r v)) (Binary (binary.Set Gt) r (term_said v)) refl (binary_read (binary.Set Gt) r (operand_text v) (term_said v) (term_text v))
op_form (op.Set Le r v) = statement_form (op_line (op.Set Le r v)) (Binary (binary.Set Le) r (term_said v)) refl (binary_read (binary.Set Le) r (operand_text v) (term_said v) (term_text v))
op_form (op.Set Ge r v) = statement_form (op_line (op.Set Ge r v)) (Binary (binary.Set Ge) r (term_said v)) refl (binary_read (binary.Set Ge) r (operand_text v) (term_said v) (term_text v))
op_form (op.Jump v) = statement_form (op_line (op.Jump v)) (Jump (term_said v)) refl (jump_read (operand_text v) (term_said v) (term_text v))
op_form (op.JumpIf Eq w r v) = statement_form (op_line (op.JumpIf Eq w r v)) (JumpIf Eq (term_said w) r (term_said v)) refl (jump_if_read Eq (operand_text w) (term_said w) r (operand_text v) (term_said v) (term_text w) (term_text v))
op_form (op.JumpIf Ne w r v) = statement_form (op_line (op.JumpIf Ne w r v)) (JumpIf Ne (term_said w) r (term_said v)) refl (jump_if_read Ne (operand_text w) (term_said w) r (operand_text v) (term_said v) (term_text w) (term_text v))
op_form (op.JumpIf Lt w r v) = statement_form (op_line (op.JumpIf Lt w r v)) (JumpIf Lt (term_said w) r (term_said v)) refl (jump_if_read Lt (operand_text w) (term_said w) r (operand_text v) (term_said v) (term_text w) (term_text v))
op_form (op.JumpIf Gt w r v) = statement_form (op_line (op.JumpIf Gt w r v)) (JumpIf Gt (term_said w) r (term_said v)) refl (jump_if_read Gt (operand_text w) (term_said w) r (operand_text v) (term_said v) (term_text w) (term_text v))
op_form (op.JumpIf Le w r v) = statement_form (op_line (op.JumpIf Le w r v)) (JumpIf Le (term_said w) r (term_said v)) refl (jump_if_read Le (operand_text w) (term_said w) r (operand_text v) (term_said v) (term_text w) (term_text v))
op_form (op.JumpIf Ge w r v) = statement_form (op_line (op.JumpIf Ge w r v)) (JumpIf Ge (term_said w) r (term_said v)) refl (jump_if_read Ge (operand_text w) (term_said w) r (operand_text v) (term_said v) (term_text w) (term_text v))

constant_only : Term × List ℕ → Option (Term × List ℕ)
constant_only x = if is_register x.0 then None else Some x

long_said : Term × List ℕ → Option (Statement × List ℕ)
long_said x = Some (Long x.0, x.1)

long_read : (n : ℕ) (text : List ℕ) → IsTermText text (Number false n) → operands_at mnemonic.Long (32 ∷ text) ≡ Some (Long (Number false n), [])
unfolding operands_at constant_at constant_only long_said
long_read n text h = ap (λ o. o >>= long_said) (last_term text (Number false n) constant_only h)

-- the line of a data word
pub word_form : (w : Word) → form_of (word_line w) ≡ Some (saying (Long (Number false (number_of w))))
unfolding labels_at label_at statement_at mnemonic_of
word_form w =
    let small : w.value < 2 ^ 24 = w.in_range in
    statement_form (word_line w) (Long (Number false w.value)) refl (long_read w.value (decimal w.value) (number_text w.value (omega arith)))

-- no labels stand at the end of a line
no_labels : (most : ℕ) → labels_at most [] ≡ ([], [])
unfolding labels_at label_at
no_labels zero = refl
no_labels (suc most) = refl

-- what a line says whose label stands before its end
labelled_form : (line name : List ℕ) → labels_at (length line) line ≡ (name ∷ [], []) → form_of line ≡ Some (labelled name)
unfolding form_of statement_at
labelled_form line name h = ap (λ (l : List (List ℕ) × List ℕ). statement_at l.1 >>= (λ x. if ends x.1 then Some (record { labels = l.0; statement = x.0 }) else None)) h

first_taken : (xs : List ℕ) → take_while goes_on_name (98 ∷ xs) ≡ 98 ∷ take_while goes_on_name xs
first_taken xs = let e : 1 + prefix_len goes_on_name xs ≡ suc (prefix_len goes_on_name xs) = omega arith in ap (λ n. take n (98 ∷ xs)) e

first_dropped : (xs : List ℕ) → drop_while goes_on_name (98 ∷ xs) ≡ drop_while goes_on_name xs
first_dropped xs = let e : 1 + prefix_len goes_on_name xs ≡ suc (prefix_len goes_on_name xs) = omega arith in ap (λ n. drop n (98 ∷ xs)) e

-- a name, and what a label makes of it
label_named : List ℕ → List ℕ → Option (List ℕ × List ℕ)
label_named name rest = past colon rest >>= (λ after. if is_some (register_of name) then None else Some (name, after))

label_read : (k : ℕ) → k < 2 ^ 64 → label_at (label_line k) ≡ Some (codes "b" ++ decimal k, [])
unfolding label_at register_of label_named
label_read k h =
    let d = decimal_digits k h in
    let bytes = decimal k ++ 58 ∷ [] in
    let taken : take_while goes_on_name (98 ∷ bytes) ≡ 98 ∷ decimal k = first_taken bytes ∙ ap (λ (x : List ℕ). 98 ∷ x) (digits_taken goes_on_name (decimal k) (58 ∷ []) names_go_on d refl) in
    let left : drop_while goes_on_name (98 ∷ bytes) ≡ 58 ∷ [] = first_dropped bytes ∙ digits_dropped goes_on_name (decimal k) (58 ∷ []) names_go_on d refl in
    ap (λ x. label_named x (drop_while goes_on_name (98 ∷ bytes))) taken ∙ ap (λ x. label_named (98 ∷ decimal k) x) left

-- the label of a block
pub label_form : (k : ℕ) → k < 2 ^ 64 → form_of (label_line k) ≡ Some (labelled (codes "b" ++ decimal k))
unfolding labels_at
label_form k h =
    let more = length (decimal k ++ codes ":") in
    labelled_form (label_line k) (codes "b" ++ decimal k)
    (ap (λ o. option_map_or (λ label. (label.0 ∷ (labels_at more label.1).0, (labels_at more label.1).1)) o ([], label_line k)) (label_read k h)
    ∙ ap (λ (ls : List (List ℕ) × List ℕ). ((codes "b" ++ decimal k) ∷ ls.0, ls.1)) (no_labels more))

pub main_form : form_of (codes "main:") ≡ Some (labelled (codes "main"))
unfolding form_of labels_at label_at statement_at register_of
main_form = refl

pub text_form : form_of (codes ".text") ≡ Some (saying Text)
unfolding form_of labels_at label_at statement_at mnemonic_of operands_at
text_form = refl

pub data_form : form_of (codes ".data") ≡ Some (saying (Data 0))
unfolding form_of labels_at label_at statement_at mnemonic_of operands_at
data_form = refl

pub empty_form : form_of [] ≡ Some (saying Nothing)
unfolding form_of labels_at label_at statement_at
empty_form = refl

-- no line has a line feed

both : (xs ys : List ℕ) → is_unbroken xs ≡ true → is_unbroken ys ≡ true → is_unbroken (xs ++ ys) ≡ true
both xs ys p q = list_all-append (λ b. not (b == 10)) xs ys ∙ (ap (λ t. t && is_unbroken ys) p ∙ q)

one_unbroken : (name : List ℕ) (v : Operand) → is_unbroken name ≡ true → is_unbroken (with_operand name (operand_text v)) ≡ true
one_unbroken name v p = both (name ++ codes " ") (operand_text v) (both name (codes " ") p refl) (term_text v).unbroken

two_unbroken : (name : List ℕ) (r : Reg) (v : Operand) → is_unbroken name ≡ true → is_unbroken (with_two name (register_name r) (operand_text v)) ≡ true
two_unbroken name r v p = both (with_operand name (register_name r) ++ codes ", ") (operand_text v) (both (with_operand name (register_name r)) (codes ", ") (one_unbroken name (operand.Reg r) p) refl) (term_text v).unbroken

three_unbroken : (name : List ℕ) (w : Operand) (r : Reg) (v : Operand) → is_unbroken name ≡ true → is_unbroken (with_three name (operand_text w) (register_name r) (operand_text v)) ≡ true
three_unbroken name w r v p =
    let two = both (with_operand name (operand_text w) ++ codes ", ") (register_name r) (both (with_operand name (operand_text w)) (codes ", ") (one_unbroken name w p) refl) (register_text r).unbroken in
    both (with_two name (operand_text w) (register_name r) ++ codes ", ") (operand_text v) (both (with_two name (operand_text w) (register_name r)) (codes ", ") two refl) (term_text v).unbroken

comparison_unbroken : (c : Cond) → is_unbroken (comparison_name c) ≡ true
comparison_unbroken Eq = refl
comparison_unbroken Ne = refl
comparison_unbroken Lt = refl
comparison_unbroken Gt = refl
comparison_unbroken Le = refl
comparison_unbroken Ge = refl

pub op_unbroken : (o : Op) → is_unbroken (op_line o) ≡ true
op_unbroken (op.Mov r v) = two_unbroken (codes "mov") r v refl
op_unbroken (op.Add r v) = two_unbroken (codes "add") r v refl
op_unbroken (op.Sub r v) = two_unbroken (codes "sub") r v refl
op_unbroken (op.Load r v) = two_unbroken (codes "load") r v refl
op_unbroken (op.Store r v) = two_unbroken (codes "store") r v refl
op_unbroken (op.Putc v) = one_unbroken (codes "putc") v refl
op_unbroken (op.Getc r) = one_unbroken (codes "getc") (operand.Reg r) refl
op_unbroken op.Exit = refl
op_unbroken (op.Set c r v) = two_unbroken (comparison_name c) r v (comparison_unbroken c)
op_unbroken (op.Jump v) = one_unbroken (codes "jmp") v refl
op_unbroken (op.JumpIf c w r v) = three_unbroken (codes "j" ++ comparison_name c) w r v (comparison_unbroken c)

pub word_unbroken : (w : Word) → is_unbroken (word_line w) ≡ true
word_unbroken w = (term_text (operand.Imm w)).unbroken

pub label_unbroken : (k : ℕ) → k < 2 ^ 64 → is_unbroken (label_line k) ≡ true
label_unbroken k h = both (codes "b" ++ decimal k) (codes ":") (number_text k h).unbroken refl
