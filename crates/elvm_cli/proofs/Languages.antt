-- A text of a language spells one program or is refused in one way.
use Rattle.std.proofs.Common.{◌≡◌, ◌≢◌, ◌⊎◌, ℕ, ◌+◌, ◌^◌, ℤ, Bool, true, false, nat_le, if◌then◌else◌, List, [], ◌∷◌, map, Option, None, Some, Result, Ok, Err, inl, inr, refl, sym, ap, ◌∙◌}
use Rattle.eir_core.specs.Eir.{Eir, size_of}
use Rattle.eir_line.specs.Line.{Line, is_in_range}
use Rattle.eir_line.specs.Grammar.{form_of}
use Rattle.eir_text.specs.declared.fault.EirFault.{EirFault}
use Rattle.eir_text.specs.declared.fault.EirFault.TheVariants as eir
use Rattle.eir_text.specs.declared.section.Section.{Section}
use Rattle.eir_text.specs.declared.section.Section.TheVariants as section
use Rattle.eir_text.specs.Names.{names_of}
use Rattle.eir_text.specs.Refusals.{first_repeat, first_unknown, line_refusal, lines_refusal, names_refusal, or_else, section_behind}
use Rattle.eir_text.specs.Sections.{lines_of, may_stand, placed_of}
use Rattle.eir_text.specs.Spells.{IsRefusedBy, program_said, refusal_of}
use Rattle.eir_text.proofs.Once.{no_refusal, unrefused_spelled}
use Rattle.bf_lang.specs.declared.command.Command.{Command}
use Rattle.bf_lang.specs.declared.text.BfFault.{BfFault}
use Rattle.bf_lang.specs.declared.text.BfFault.TheVariants as bf
use Rattle.bf_lang.specs.Text.{IsReadAs, IsRefusedFor as IsNoBrainfuck, bf_spells}
use Rattle.bf_lang.proofs.Spelled.{read_in_one_way}
use Rattle.piet_image.specs.declared.read.PpmFault.{PpmFault}
use Rattle.piet_image.specs.declared.read.PpmFault.TheVariants as ppm
use Rattle.piet_image.specs.Raster.{Raster}
use Rattle.piet_image.specs.Text.{IsRefusedFor as IsNoImage, Spells}
use Rattle.piet_image.proofs.Decided.{never_both as image_never_both}
use Rattle.piet_image.proofs.Decides.{decided as image_or_not}
use Rattle.piet_image.proofs.Reasons.{one_reason as image_one_reason}
use Rattle.ws_lang.specs.declared.fault.WsFault.{WsFault}
use Rattle.ws_lang.specs.declared.fault.WsFault.TheVariants as ws
use Rattle.ws_lang.proofs.AnswerLemmas.{spelled_or_refused}
use Rattle.ws_lang.proofs.VerdictLemmas.{one_answer}
use Rattle.ws_lang.specs.Spelling.{ws_spells}
use Rattle.ws_lang.specs.Verdict.{IsSpelledOrRefused as IsWsOrNot}
use Rattle.sq_lang.specs.declared.text.SqFault.{SqFault}
use Rattle.sq_lang.specs.declared.text.SqFault.TheVariants as sq
use Rattle.sq_lang.specs.Text.{sq_spells}
use Rattle.sq_lang.specs.Answers.{IsRefused as IsNoSq, IsRefusedFor}
use Rattle.sq_lang.proofs.Decided.{texts_are_decided}
use Rattle.sq_lang.proofs.Once.{never_both}
use Rattle.elvm_cli.specs.Refusals.{bf_refusal, eir_refusal, image_refusal, sq_refusal, ws_refusal}
use Rattle.elvm_cli.specs.Languages.{BfRefused, EirRefused, EirSpells, PietRefused, SqRefused, WsRefused}
use Rattle.elvm_cli.specs.Line.{status_of}
use Rattle.elvm_cli.specs.Exact.{IsRefusal}
use Rattle.elvm_cli.specs.declared.outcome.Outcome.{Outcome}
use Rattle.elvm_cli.specs.declared.outcome.Outcome.TheVariants.{NoMemory}
use Rattle.elvm_cli.proofs.Told.{IsLanguage, IsSpelledOrRefused, refusal_told}

-- a refusal of an EIR text that isn't want of memory is the one that comes first
eir_first : (text : List ℕ) (fault : EirFault) → eir_refusal fault ≢ NoMemory → IsRefusedBy fault text → refusal_of text ≡ Some fault
eir_first text (eir.BadLine n) told h = h
eir_first text (eir.NumberRange n) told h = h
eir_first text (eir.DuplicateLabel n) told h = h
eir_first text (eir.UnknownLabel n) told h = h
eir_first text eir.TooLarge told h = h
eir_first text eir.Memory told h = absurd (told refl)

-- an EIR text that spells a program isn't refused
eir_apart : (text : List ℕ) (p : Eir) (outcome : Outcome) → outcome ≢ NoMemory → EirSpells text p → EirRefused text outcome → ⊥
eir_apart text p outcome told spelled refused =
    let first = eir_first text refused.0 (λ e. told (sym refused.2 ∙ e)) refused.1 in
    let none = no_refusal text p spelled.0 spelled.1 in
    cc (first, none)

-- two refusals of an EIR text are the same
eir_same : (text : List ℕ) (a b : Outcome) → a ≢ NoMemory → b ≢ NoMemory → EirRefused text a → EirRefused text b → a ≡ b
eir_same text a b tolda toldb ra rb =
    let firsta = eir_first text ra.0 (λ e. tolda (sym ra.2 ∙ e)) ra.1 in
    let firstb = eir_first text rb.0 (λ e. toldb (sym rb.2 ∙ e)) rb.1 in
    let same : ra.0 ≡ rb.0 = cc (firsta, firstb) in
    sym ra.2 ∙ ap eir_refusal same ∙ rb.2

pub eir_once : (text : List ℕ) (p q : Eir) → EirSpells text p → EirSpells text q → p ≡ q
eir_once text p q hp hq = hp.0.program ∙ sym hq.0.program

-- ---- no EIR text is refused for want of memory

abbrev IsInText : Option EirFault → Type 0
IsInText o = o ≡ Some eir.Memory → ⊥

or_in_text : (first second : Option EirFault) → IsInText first → IsInText second → IsInText (or_else first second)
or_in_text None second h k = k
or_in_text (Some fault) second h k = h

line_by : (k : ℕ) (stands in_range : Bool) → IsInText (if stands then (if in_range then None else Some (eir.NumberRange k)) else Some (eir.BadLine k))
line_by k true true e = cc
line_by k true false e = cc
line_by k false in_range e = cc

line_in_text : (s : Section) (k : ℕ) (form : Option Line) → IsInText (line_refusal s k form)
line_in_text s k None e = cc
line_in_text s k (Some line) e = line_by k (may_stand s line.statement) (is_in_range line.statement) e

lines_in_text : (s : Section) (k : ℕ) (forms : List (Option Line)) → IsInText (lines_refusal s k forms)
lines_in_text s k [] e = cc
lines_in_text s k (form ∷ forms) e =
    or_in_text (line_refusal s k form) (lines_refusal (section_behind s form) (k + 1) forms) (line_in_text s k form) (lines_in_text (section_behind s form) (k + 1) forms) e

lower_in_text : (j k : ℕ) (lower : Bool) → IsInText (if lower then Some (eir.DuplicateLabel j) else Some (eir.UnknownLabel k))
lower_in_text j k true e = cc
lower_in_text j k false e = cc

names_in_text : (repeated unknown : Option ℕ) → IsInText (names_refusal repeated unknown)
names_in_text None None e = cc
names_in_text (Some j) None e = cc
names_in_text None (Some k) e = cc
names_in_text (Some j) (Some k) e = lower_in_text j k (nat_le j k) e

size_in_text : (small : Bool) → IsInText (if small then None else Some eir.TooLarge)
size_in_text true e = cc
size_in_text false e = cc

eir_in_text : (text : List ℕ) → IsInText (refusal_of text)
eir_in_text text =
    let lines : List Line = map (λ p. p.line) (placed_of text) in
    let names : Option EirFault = names_refusal (first_repeat [] 1 lines) (first_unknown (names_of lines) 1 lines) in
    let size : Option EirFault = if nat_le (size_of (program_said (placed_of text))) (2 ^ 21) then None else Some eir.TooLarge in
    or_in_text (lines_refusal section.Text 1 (map form_of (lines_of text))) (or_else names size) (lines_in_text section.Text 1 (map form_of (lines_of text)))
    (or_in_text names size (names_in_text (first_repeat [] 1 lines) (first_unknown (names_of lines) 1 lines)) (size_in_text (nat_le (size_of (program_said (placed_of text))) (2 ^ 21))))

-- an EIR text that is refused comes out so
eir_refused : (text : List ℕ) (fault : EirFault) → refusal_of text ≡ Some fault → IsSpelledOrRefused EirSpells EirRefused text
eir_refused text (eir.BadLine n) h = inr (eir_refusal (eir.BadLine n), tt, (eir.BadLine n, h, refl))
eir_refused text (eir.NumberRange n) h = inr (eir_refusal (eir.NumberRange n), tt, (eir.NumberRange n, h, refl))
eir_refused text (eir.DuplicateLabel n) h = inr (eir_refusal (eir.DuplicateLabel n), tt, (eir.DuplicateLabel n, h, refl))
eir_refused text (eir.UnknownLabel n) h = inr (eir_refusal (eir.UnknownLabel n), tt, (eir.UnknownLabel n, h, refl))
eir_refused text eir.TooLarge h = inr (eir_refusal eir.TooLarge, tt, (eir.TooLarge, h, refl))
eir_refused text eir.Memory h = absurd (eir_in_text text h)

eir_some : (text : List ℕ) (refusal : Option EirFault) → refusal_of text ≡ refusal → IsSpelledOrRefused EirSpells EirRefused text
eir_some text None e = inl (program_said (placed_of text), unrefused_spelled text e)
eir_some text (Some fault) e = eir_refused text fault e

pub eir_language : IsLanguage EirSpells EirRefused
eir_language = record {
  some = λ text. eir_some text (refusal_of text) refl;
  apart = λ text p outcome h spelled refused. eir_apart text p outcome (refusal_told outcome h) spelled refused;
  one_way = λ text a b is_a is_b first second. ap status_of (eir_same text a b (refusal_told a is_a) (refusal_told b is_b) first second);
}

-- a refused Whitespace text has status 1
ws_status : (fault : WsFault) (outcome : Outcome) → IsRefusal outcome → ws_refusal fault ≡ outcome → status_of outcome ≡ 1
ws_status (ws.BadForm n) outcome h e = sym (ap status_of e)
ws_status (ws.NumberRange n) outcome h e = sym (ap status_of e)
ws_status (ws.DuplicateLabel n) outcome h e = sym (ap status_of e)
ws_status (ws.UnknownLabel n) outcome h e = sym (ap status_of e)
ws_status ws.Memory outcome h e = absurd (refusal_told outcome h (sym e))

ws_is : (fault : WsFault) → fault ≢ ws.Memory → IsRefusal (ws_refusal fault)
ws_is (ws.BadForm n) other = tt
ws_is (ws.NumberRange n) other = tt
ws_is (ws.DuplicateLabel n) other = tt
ws_is (ws.UnknownLabel n) other = tt
ws_is ws.Memory other = absurd (other refl)

ws_some : (text : List ℕ) → IsWsOrNot text → IsSpelledOrRefused ws_spells WsRefused text
ws_some text (inl spelled) = inl spelled
ws_some text (inr refused) = inr (ws_refusal refused.0, ws_is refused.0 refused.1, (refused.0, refused.2, refl))

pub ws_language : IsLanguage ws_spells WsRefused
ws_language = record {
  some = λ text. ws_some text (spelled_or_refused text);
  apart = λ text p outcome h spelled refused. (one_answer text).taken p refused.0 (λ e. refusal_told outcome h (sym refused.2 ∙ ap ws_refusal e)) spelled refused.1;
  one_way = λ text a b is_a is_b first second. ws_status first.0 a is_a first.2 ∙ sym (ws_status second.0 b is_b second.2);
}

-- of a SUBLEQ text that spells a program want of memory alone can be told
sq_refused_spells : (text : List ℕ) (p : List ℤ) (fault : SqFault) → sq_spells text p → IsRefusedFor text fault → fault ≡ sq.Memory
sq_refused_spells text p (sq.BadNumber n) spelled refused = absurd (never_both text p (sq.BadNumber n) spelled refused)
sq_refused_spells text p (sq.NumberRange n) spelled refused = absurd (never_both text p (sq.NumberRange n) spelled refused)
sq_refused_spells text p sq.Memory spelled refused = refl

-- a refused SUBLEQ text has status 1
sq_status : (fault : SqFault) (outcome : Outcome) → IsRefusal outcome → sq_refusal fault ≡ outcome → status_of outcome ≡ 1
sq_status (sq.BadNumber n) outcome h e = sym (ap status_of e)
sq_status (sq.NumberRange n) outcome h e = sym (ap status_of e)
sq_status sq.Memory outcome h e = absurd (refusal_told outcome h (sym e))

sq_refused : (text : List ℕ) (fault : SqFault) → IsNoSq text fault → IsSpelledOrRefused sq_spells SqRefused text
sq_refused text (sq.BadNumber n) h = inr (sq_refusal (sq.BadNumber n), tt, (sq.BadNumber n, h, refl))
sq_refused text (sq.NumberRange n) h = inr (sq_refusal (sq.NumberRange n), tt, (sq.NumberRange n, h, refl))
sq_refused text sq.Memory h = absurd h.wrong

sq_some : (text : List ℕ) → ((cells : List ℤ) × sq_spells text cells) ⊎ ((fault : SqFault) × IsNoSq text fault) → IsSpelledOrRefused sq_spells SqRefused text
sq_some text (inl spelled) = inl spelled
sq_some text (inr refused) = sq_refused text refused.0 refused.1

pub sq_language : IsLanguage sq_spells SqRefused
sq_language = record {
  some = λ text. sq_some text (texts_are_decided.some text);
  apart = λ text p outcome h spelled refused. refusal_told outcome h (sym refused.2 ∙ ap sq_refusal (sq_refused_spells text p refused.0 spelled refused.1));
  one_way = λ text a b is_a is_b first second. sq_status first.0 a is_a first.2 ∙ sym (sq_status second.0 b is_b second.2);
}

-- a Brainfuck text spells one program
pub bf_spells_once : (text : List ℕ) (p q : List Command) → bf_spells text p → bf_spells text q → p ≡ q
bf_spells_once text p q hp hq = hp.commands ∙ sym hq.commands

-- of a Brainfuck text that spells a program want of memory alone can be told
bf_refused_spells : (text : List ℕ) (p : List Command) (fault : BfFault) → bf_spells text p → IsNoBrainfuck text fault → fault ≡ bf.Memory
bf_refused_spells text p (bf.Unopened n) spelled refused =
    let same : Ok p ≡ Err (bf.Unopened n) = (read_in_one_way text).one (Ok p) (Err (bf.Unopened n)) spelled refused (λ e. cc e) (λ e. cc e) in
    absurd (cc same)
bf_refused_spells text p (bf.Unclosed n) spelled refused =
    let same : Ok p ≡ Err (bf.Unclosed n) = (read_in_one_way text).one (Ok p) (Err (bf.Unclosed n)) spelled refused (λ e. cc e) (λ e. cc e) in
    absurd (cc same)
bf_refused_spells text p bf.Memory spelled refused = refl

-- a refused Brainfuck text has status 1
bf_status : (fault : BfFault) (outcome : Outcome) → IsRefusal outcome → bf_refusal fault ≡ outcome → status_of outcome ≡ 1
bf_status (bf.Unopened n) outcome h e = sym (ap status_of e)
bf_status (bf.Unclosed n) outcome h e = sym (ap status_of e)
bf_status bf.Memory outcome h e = absurd (refusal_told outcome h (sym e))

bf_some : (text : List ℕ) → ((r : Result (List Command) BfFault) × IsReadAs text r × (r ≢ Err bf.Memory)) → IsSpelledOrRefused bf_spells BfRefused text
bf_some text (Ok code, h, other) = inl (code, h)
bf_some text (Err (bf.Unopened n), h, other) = inr (bf_refusal (bf.Unopened n), tt, (bf.Unopened n, h, refl))
bf_some text (Err (bf.Unclosed n), h, other) = inr (bf_refusal (bf.Unclosed n), tt, (bf.Unclosed n, h, refl))
bf_some text (Err bf.Memory, h, other) = absurd (other refl)

pub bf_language : IsLanguage bf_spells BfRefused
bf_language = record {
  some = λ text. bf_some text (read_in_one_way text).some;
  apart = λ text p outcome h spelled refused. refusal_told outcome h (sym refused.2 ∙ ap bf_refusal (bf_refused_spells text p refused.0 spelled refused.1));
  one_way = λ text a b is_a is_b first second. bf_status first.0 a is_a first.2 ∙ sym (bf_status second.0 b is_b second.2);
}

-- of a text that spells an image want of memory alone can be told
image_refused_spells : (text : List ℕ) (codel : ℕ) (image : Raster) (fault : PpmFault) → fault ≢ ppm.Memory → Spells text codel image → IsNoImage text codel fault → ⊥
image_refused_spells text codel image ppm.BadHeader other s r = image_never_both text codel image ppm.BadHeader s r
image_refused_spells text codel image ppm.NotCodel other s r = image_never_both text codel image ppm.NotCodel s r
image_refused_spells text codel image ppm.TooLarge other s r = image_never_both text codel image ppm.TooLarge s r
image_refused_spells text codel image (ppm.BadNumber n) other s r = image_never_both text codel image (ppm.BadNumber n) s r
image_refused_spells text codel image ppm.Short other s r = image_never_both text codel image ppm.Short s r
image_refused_spells text codel image (ppm.Extra n) other s r = image_never_both text codel image (ppm.Extra n) s r
image_refused_spells text codel image ppm.Memory other s r = other refl

image_is : (fault : PpmFault) → fault ≢ ppm.Memory → IsRefusal (image_refusal fault)
image_is ppm.BadHeader other = tt
image_is ppm.NotCodel other = tt
image_is ppm.TooLarge other = tt
image_is (ppm.BadNumber n) other = tt
image_is ppm.Short other = tt
image_is (ppm.Extra n) other = tt
image_is ppm.Memory other = absurd (other refl)

image_told : (fault : PpmFault) (outcome : Outcome) → IsRefusal outcome → image_refusal fault ≡ outcome → fault ≢ ppm.Memory
image_told fault outcome h e is = refusal_told outcome h (sym e ∙ ap image_refusal is)

image_some : (text : List ℕ) (codel : ℕ) → ((image : Raster) × Spells text codel image) ⊎ ((fault : PpmFault) × (fault ≢ ppm.Memory) × IsNoImage text codel fault)
    → IsSpelledOrRefused (λ t. Spells t codel) (PietRefused codel) text
image_some text codel (inl spelled) = inl spelled
image_some text codel (inr refused) = inr (image_refusal refused.0, image_is refused.0 refused.1, (refused.0, refused.2, refl))

pub piet_language : (codel : ℕ) → IsLanguage (λ text. Spells text codel) (PietRefused codel)
piet_language codel = record {
  some = λ text. image_some text codel (image_or_not text codel);
  apart = λ text image outcome h spelled refused. image_refused_spells text codel image refused.0 (image_told refused.0 outcome h refused.2) spelled refused.1;
  one_way = λ text a b is_a is_b first second.
      ap status_of (sym first.2 ∙ ap image_refusal (image_one_reason text codel first.0 second.0 (image_told first.0 a is_a first.2) (image_told second.0 b is_b second.2) first.1 second.1) ∙ second.2);
}
