-- The line of a refusal is the lowest one with such a fault.
use Rattle.std.proofs.Common.{◌≡◌, ℕ, suc, ◌+◌, Bool, true, false, ◌||◌, if◌then◌else◌, List, [], ◌∷◌, ◌++◌, map, length, Option, Some, None, refl, sym, ap, ◌∙◌, append_assoc, append-nil, arith}
use Rattle.std.specs.List.{AllByRecursion}
use Rattle.std.proofs.lemmas.Bool.{or_parts, or_from}
use Rattle.eir_line.specs.Line.{Line, is_in_range}
use Rattle.eir_text.specs.declared.fault.EirFault.{EirFault}
use Rattle.eir_text.specs.declared.fault.EirFault.TheVariants.{BadLine, NumberRange}
use Rattle.eir_text.specs.declared.section.Section.{Section}
use Rattle.eir_text.specs.Names.{names_of, is_among, repeats, are_known}
use Rattle.eir_text.specs.Sections.{may_stand, section_after, placed_from}
use Rattle.eir_text.specs.Refusals.{line_refusal, section_behind, or_else, lines_refusal, first_repeat, first_unknown}
use Rattle.eir_text.specs.LowestLine.{IsFine, behind, IsLowestBad, IsLowestRepeat, IsLowestUnknown, IsTwice}
use Rattle.eir_text.proofs.RefusalLemmas.{repeats-append}

fine_line : (s : Section) (k : ℕ) (line : Line) → line_refusal s k (Some line) ≡ None → IsFine (record { section = s; line = line })
fine_line s k line e = by (may_stand s line.statement) (is_in_range line.statement) refl refl e where
  by : (b c : Bool) → may_stand s line.statement ≡ b → is_in_range line.statement ≡ c → (if b then (if c then None else Some (NumberRange k)) else Some (BadLine k)) ≡ None → IsFine (record { section = s; line = line })
  by true true p q e = record { stands = p; in_range = q }
  by true false p q e = cc
  by false c p q e = cc

not_refused : (s : Section) (k : ℕ) (line : Line) → IsFine (record { section = s; line = line }) → line_refusal s k (Some line) ≡ None
not_refused s k line h = rw (h.stands, h.in_range) refl

-- what is refused is refused for the lowest line
pub lowest_bad : (s : Section) (k : ℕ) (forms : List (Option Line)) (fault : EirFault) → lines_refusal s k forms ≡ Some fault → IsLowestBad s k forms fault
lowest_bad s k [] fault e = cc
lowest_bad s k (form ∷ forms) fault e =
    by form (line_refusal s k form) refl e (λ f. lowest_bad (section_behind s form) (k + 1) forms fault f)
  where
    by : (form : Option Line) (r : Option EirFault) → line_refusal s k form ≡ r → or_else r (lines_refusal (section_behind s form) (k + 1) forms) ≡ Some fault
        → (lines_refusal (section_behind s form) (k + 1) forms ≡ Some fault → IsLowestBad (section_behind s form) (k + 1) forms fault) → IsLowestBad s k (form ∷ forms) fault
    by form (Some f) is e more =
        record { before = []; form = form; after = forms; whole = refl; fine = tt; refused = (let z : k + 0 ≡ k = omega arith in rw z (is ∙ e)) }
    by None None is e more = cc
    by (Some line) None is e more =
        let h = more e in
        let next : k + suc (length h.before) ≡ k + 1 + length h.before = omega arith in
        record {
          before = line ∷ h.before;
          form = h.form;
          after = h.after;
          whole = ap (λ fs. Some line ∷ fs) h.whole;
          fine = (fine_line s k line is, h.fine);
          refused = rw next h.refused;
        }

-- and the lowest line that is refused by itself is the cause
pub bad_is_refused : (s : Section) (k : ℕ) (forms : List (Option Line)) (fault : EirFault) → IsLowestBad s k forms fault → lines_refusal s k forms ≡ Some fault
bad_is_refused s k forms fault h = rw h.whole (by s k h.before h.fine h.refused) where
  by : (s : Section) (k : ℕ) (before : List Line) → AllByRecursion IsFine (placed_from s before) → line_refusal (behind s before) (k + length before) h.form ≡ Some fault
      → lines_refusal s k (map Some before ++ h.form ∷ h.after) ≡ Some fault
  by s k [] fine e =
      let z : k + 0 ≡ k = omega arith in
      let here : line_refusal s k h.form ≡ Some fault = rw z at e in
      rw here refl
  by s k (line ∷ before) fine e =
      let next : k + suc (length before) ≡ k + 1 + length before = omega arith in
      rw (not_refused s k line fine.0) (by (section_after s line.statement) (k + 1) before fine.1 (rw next at e))

pub lowest_unknown : (names : List (List ℕ)) (first : ℕ) (lines : List Line) (k : ℕ) → first_unknown names first lines ≡ Some k → IsLowestUnknown names first lines k
lowest_unknown names first [] k e = cc
lowest_unknown names first (line ∷ lines) k e = by (are_known names line.statement) refl e (λ f. lowest_unknown names (first + 1) lines k f) where
  by : (b : Bool) → are_known names line.statement ≡ b → (if b then first_unknown names (first + 1) lines else Some first) ≡ Some k
      → (first_unknown names (first + 1) lines ≡ Some k → IsLowestUnknown names (first + 1) lines k) → IsLowestUnknown names first (line ∷ lines) k
  by false is e more =
      let same : first ≡ k = cc in
      record { before = []; line = line; after = lines; whole = refl; number = (let z : first + 0 ≡ first = omega arith in sym same ∙ sym z); known = tt; unknown = is }
  by true is e more =
      let h = more e in
      record { before = line ∷ h.before; line = h.line; after = h.after; whole = ap (λ ls. line ∷ ls) h.whole; number = omega (arith, h.number); known = (is, h.known); unknown = h.unknown }

pub unknown_is_lowest : (names : List (List ℕ)) (first : ℕ) (lines : List Line) (k : ℕ) → IsLowestUnknown names first lines k → first_unknown names first lines ≡ Some k
unknown_is_lowest names first lines k h = rw h.whole (by first h.before h.known h.number) where
  by : (first : ℕ) (before : List Line) → AllByRecursion (λ l. are_known names l.statement ≡ true) before → k ≡ first + length before → first_unknown names first (before ++ h.line ∷ h.after) ≡ Some k
  by first [] known number = let same : first ≡ k = omega (arith, number) in rw h.unknown (ap Some same)
  by first (line ∷ before) known number = rw known.0 (by (first + 1) before known.1 (omega (arith, number)))

pub lowest_repeat : (known : List (List ℕ)) (first : ℕ) (lines : List Line) (k : ℕ) → first_repeat known first lines ≡ Some k → IsLowestRepeat known first lines k
lowest_repeat known first [] k e = cc
lowest_repeat known first (line ∷ lines) k e = by (repeats known line.labels) refl e (λ f. lowest_repeat (known ++ line.labels) (first + 1) lines k f) where
  by : (b : Bool) → repeats known line.labels ≡ b → (if b then Some first else first_repeat (known ++ line.labels) (first + 1) lines) ≡ Some k
      → (first_repeat (known ++ line.labels) (first + 1) lines ≡ Some k → IsLowestRepeat (known ++ line.labels) (first + 1) lines k) → IsLowestRepeat known first (line ∷ lines) k
  by true is e more =
      let same : first ≡ k = cc in
      record {
        before = [];
        line = line;
        after = lines;
        whole = refl;
        number = (let z : first + 0 ≡ first = omega arith in sym same ∙ sym z);
        apart = refl;
        again = rw (append-nil known) is;
      }
  by false is e more =
      let h = more e in
      record {
        before = line ∷ h.before;
        line = h.line;
        after = h.after;
        whole = ap (λ ls. line ∷ ls) h.whole;
        number = omega (arith, h.number);
        apart = repeats-append known line.labels (names_of h.before) ∙ or_from (repeats known line.labels) (repeats (known ++ line.labels) (names_of h.before)) is h.apart;
        again = ap (λ ns. repeats ns h.line.labels) (sym (append_assoc known line.labels (names_of h.before))) ∙ h.again;
      }

pub repeat_is_lowest : (known : List (List ℕ)) (first : ℕ) (lines : List Line) (k : ℕ) → IsLowestRepeat known first lines k → first_repeat known first lines ≡ Some k
repeat_is_lowest known first lines k h = rw h.whole (by known first h.before h.apart h.again h.number) where
  by : (known : List (List ℕ)) (first : ℕ) (before : List Line) → repeats known (names_of before) ≡ false → repeats (known ++ names_of before) h.line.labels ≡ true → k ≡ first + length before
      → first_repeat known first (before ++ h.line ∷ h.after) ≡ Some k
  by known first [] apart again number =
      let same : first ≡ k = omega (arith, number) in
      let here : repeats known h.line.labels ≡ true = ap (λ ns. repeats ns h.line.labels) (sym (append-nil known)) ∙ again in
      rw here (ap Some same)
  by known first (line ∷ before) apart again number =
      let parts = or_parts (repeats known line.labels) (repeats (known ++ line.labels) (names_of before)) (sym (repeats-append known line.labels (names_of before)) ∙ apart) in
      rw parts.0 (by (known ++ line.labels) (first + 1) before parts.1 (ap (λ ns. repeats ns h.line.labels) (append_assoc known line.labels (names_of before)) ∙ again) (omega (arith, number)))

pub repeated_is_twice : (known names : List (List ℕ)) → repeats known names ≡ true → IsTwice known names
repeated_is_twice known [] e = cc
repeated_is_twice known (name ∷ names) e = by (is_among known name) refl e (λ f. repeated_is_twice (known ++ name ∷ []) names f) where
  by : (b : Bool) → is_among known name ≡ b → (b || repeats (known ++ name ∷ []) names) ≡ true → (repeats (known ++ name ∷ []) names ≡ true → IsTwice (known ++ name ∷ []) names) → IsTwice known (name ∷ names)
  by true is e more = record { front = []; name = name; back = names; whole = refl; twice = ap (λ ns. is_among ns name) (append-nil known) ∙ is }
  by false is e more =
      let h = more e in
      record { front = name ∷ h.front; name = h.name; back = h.back; whole = ap (λ ns. name ∷ ns) h.whole; twice = ap (λ ns. is_among ns h.name) (sym (append_assoc known (name ∷ []) h.front)) ∙ h.twice }
