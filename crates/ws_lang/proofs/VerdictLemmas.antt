-- A text has one answer.
use Rattle.std.proofs.Common.{◌≡◌, ◌≢◌, ◌⊎◌, ⊎_elim, ℕ, zero, suc, ◌<◌, ◌≤◌, List, [], ◌∷◌, ◌++◌, take, drop, Option, Some, None, refl, sym, ap, subst, ◌∙◌, arith, append_assoc}
use Rattle.std.specs.Prelude.{Contains, IsSome}
use Rattle.std.specs.List.{AllByRecursion, cons_option}
use Rattle.std.proofs.lemmas.List.{append_cancel_left, append-nil, take-take}
use Rattle.ws_lang.specs.declared.sign.Sign.{Sign}
use Rattle.ws_lang.specs.Instruction.{Label, Instruction, Mark, marks, uses, uses_of, AreDistinct, IsInRange}
use Rattle.ws_lang.specs.Spelling.{sign_of, signs_of, SpellsInstruction, SpellsCode, ws_spells}
use Rattle.ws_lang.specs.Decode.{instruction_in}
use Rattle.ws_lang.specs.Refusal.{IsSignAt, BeginsAt, BadFormAt, NumberRangeAt, LabelsRightBefore, DuplicateLabelAt, UnknownLabelAt, IsRefused}
use Rattle.ws_lang.specs.Verdict.{HasOneAnswer}
use Rattle.ws_lang.proofs.DecodeLemmas.{instruction_in-spelled, one_code}
use Rattle.ws_lang.proofs.ListingLemmas.{signs_split}
use Rattle.ws_lang.proofs.RuleLemmas.{contains_here, contains_nothing, contains_first_or_rest, marks-append, uses-append}
use Rattle.std.proofs.lemmas.List.Elements.{Contains-append_left, Contains-append_right}
use Rattle.ws_lang.specs.declared.fault.WsFault.{WsFault}
use Rattle.ws_lang.specs.declared.fault.WsFault.TheVariants.{BadForm, NumberRange, DuplicateLabel, UnknownLabel, Memory}

-- the rest of a code, behind a front that is code
pub record Behind (rest : List Sign) (before code : List Instruction) : Type 0 where
  pub after : List Instruction
  pub whole : code ≡ before ++ after
  pub spelled : SpellsCode rest after

one_front : (signs : List Sign) (i j : Instruction) (f g s t : List Sign) → signs ≡ f ++ s → SpellsInstruction f i → signs ≡ g ++ t → SpellsInstruction g j → (i ≡ j) × (s ≡ t)
one_front signs i j f g s t e h k l =
    let same : ◌≡◌ {A = Option (Instruction × List Sign)} (Some (i, s)) (Some (j, t)) = sym (instruction_in-spelled f s i h) ∙ ap instruction_in (sym e ∙ k) ∙ instruction_in-spelled g t j l in
    let pair : ◌≡◌ {A = Instruction × List Sign} (i, s) (j, t) = cc in
    (ap (λ (p : Instruction × List Sign). p.0) pair, ap (λ (p : Instruction × List Sign). p.1) pair)

pub no_front : (i : Instruction) (f s : List Sign) → SpellsInstruction f i → [] ≡ f ++ s → ⊥
no_front i f s h e = let same : ◌≡◌ {A = Option (Instruction × List Sign)} None (Some (i, s)) = ap instruction_in e ∙ instruction_in-spelled f s i h in cc

-- code in front of signs that are code
behind : (front rest : List Sign) (before code : List Instruction) → SpellsCode front before → SpellsCode (front ++ rest) code → Behind rest before code
behind front rest [] code h k = record { after = code; whole = refl; spelled = subst (λ s. SpellsCode s code) (ap (λ s. s ++ rest) h) k }
behind front rest (i ∷ before) [] h k = absurd (no_front i h.0 (h.1 ++ rest) h.3 (sym k ∙ ap (λ s. s ++ rest) h.2 ∙ append_assoc h.0 h.1 rest))
behind front rest (i ∷ before) (j ∷ code) h k =
    let one = one_front (front ++ rest) i j h.0 k.0 (h.1 ++ rest) k.1 (ap (λ s. s ++ rest) h.2 ∙ append_assoc h.0 h.1 rest) h.3 k.2 k.3 in
    let more = behind h.1 rest before code h.4 (subst (λ s. SpellsCode s code) (sym one.1) k.4) in
    record { after = more.after; whole = ap (λ x. x ∷ code) (sym one.0) ∙ ap (λ c. i ∷ c) more.whole; spelled = more.spelled }

-- what is spelled from a place on
from_place : (text : List ℕ) (at : ℕ) (before code : List Instruction) → SpellsCode (signs_of (take at text)) before → SpellsCode (signs_of text) code → Behind (signs_of (drop at text)) before code
from_place text at before code h k = behind (signs_of (take at text)) (signs_of (drop at text)) before code h (subst (λ s. SpellsCode s code) (sym (signs_split text at)) k)

some_front : (o : Option Sign) (rest : List Sign) → IsSome o → cons_option o rest ≡ [] → ⊥
some_front None rest h e = cc
some_front (Some x) rest h e = cc

-- where a sign stands there are signs
some_signs : (text : List ℕ) (at : ℕ) → IsSignAt text at → signs_of (drop at text) ≡ [] → ⊥
some_signs [] zero h e = cc
some_signs [] (suc at) h e = cc
some_signs (x ∷ text) zero h e = some_front (sign_of x) (signs_of text) h e
some_signs (x ∷ text) (suc at) h e = some_signs text at h e

sign_within : (text : List ℕ) (p q : ℕ) → p < q → IsSignAt text p → IsSignAt (take q text) p
sign_within [] zero zero lt h = h
sign_within [] zero (suc q) lt h = h
sign_within [] (suc p) zero lt h = h
sign_within [] (suc p) (suc q) lt h = h
sign_within (x ∷ text) p zero lt h = absurd (omega arith)
sign_within (x ∷ text) zero (suc q) lt h = h
sign_within (x ∷ text) (suc p) (suc q) lt h = sign_within text p q (omega arith) h

all_behind : (before after : List Instruction) → AllByRecursion IsInRange (before ++ after) → AllByRecursion IsInRange after
all_behind [] after h = h
all_behind (i ∷ before) after h = all_behind before after h.1

-- the code goes on behind a front with an instruction in range, which these signs begin with
record GoesOn (signs : List Sign) (before code : List Instruction) : Type 0 where
  instruction : Instruction
  after : List Instruction
  front : List Sign
  tail : List Sign
  whole : code ≡ before ++ instruction ∷ after
  cut : signs ≡ front ++ tail
  spelled : SpellsInstruction front instruction
  range : IsInRange instruction

going : (signs more all : List Sign) (before code after : List Instruction) → (signs ≡ [] → ⊥) → SpellsCode signs after → code ≡ before ++ after → AllByRecursion IsInRange code → all ≡ signs ++ more → GoesOn all before code
going signs more all before code [] some h whole range e = absurd (some h)
going signs more all before code (i ∷ after) some h whole range e = record {
  instruction = i;
  after = after;
  front = h.0;
  tail = h.1 ++ more;
  whole = whole;
  cut = e ∙ ap (λ s. s ++ more) h.2 ∙ append_assoc h.0 h.1 more;
  spelled = h.3;
  range = (all_behind before (i ∷ after) (subst (AllByRecursion IsInRange) whole range)).0;
}

-- at a place within a program
goes_whole : (text : List ℕ) (p : ℕ) (before code : List Instruction) → BeginsAt text p before → SpellsCode (signs_of text) code → AllByRecursion IsInRange code → GoesOn (signs_of (drop p text)) before code
goes_whole text p before code b h range =
    let k = from_place text p before code b.spelled h in
    going (signs_of (drop p text)) [] (signs_of (drop p text)) before code k.after (some_signs text p b.sign) k.spelled k.whole range (sym (append-nil (signs_of (drop p text))))

signs_on : (text : List ℕ) (p q : ℕ) → p ≤ q → signs_of (drop p text) ≡ signs_of (drop p (take q text)) ++ signs_of (drop q text)
signs_on text p q le =
    append_cancel_left (signs_of (take p text)) (signs_of (drop p text)) (signs_of (drop p (take q text)) ++ signs_of (drop q text))
    (signs_split text p ∙ sym (signs_split text q)
    ∙ ap (λ s. s ++ signs_of (drop q text)) (sym (signs_split (take q text) p) ∙ ap (λ t. signs_of t ++ signs_of (drop p (take q text))) (take-take p q text le))
    ∙ append_assoc (signs_of (take p text)) (signs_of (drop p (take q text))) (signs_of (drop q text)))

-- at a place before another where an instruction begins
goes_before : (text : List ℕ) (p q : ℕ) (before later : List Instruction) → p < q → BeginsAt text p before → BeginsAt text q later → GoesOn (signs_of (drop p text)) before later
goes_before text p q before later lt b c =
    let le : p ≤ q = omega arith in
    let k = from_place (take q text) p before later (subst (λ t. SpellsCode (signs_of t) before) (sym (take-take p q text le)) b.spelled) c.spelled in
    going (signs_of (drop p (take q text))) (signs_of (drop q text)) (signs_of (drop p text)) before later k.after (some_signs (take q text) p (sign_within text p q lt b.sign)) k.spelled k.whole c.in_range (signs_on text p q le)

-- no instruction in range is spelled from a place on
record Stops (text : List ℕ) (p : ℕ) (before : List Instruction) : Type 0 where
  begins : BeginsAt text p before
  stops : (front rest : List Sign) (i : Instruction) → signs_of (drop p text) ≡ front ++ rest → SpellsInstruction front i → IsInRange i → ⊥

bad_stops : (text : List ℕ) (p : ℕ) (h : BadFormAt text p) → Stops text p h.before
bad_stops text p h = record { begins = h.begins; stops = λ front rest i e k r. h.formless front rest i e k }

range_stops : (text : List ℕ) (p : ℕ) (h : NumberRangeAt text p) → Stops text p h.before
range_stops text p h = record {
  begins = h.begins;
  stops = λ front rest i e k r. h.outside (subst IsInRange (one_front (signs_of (drop p text)) i h.instruction front h.front rest h.rest e k h.whole h.spelled).0 r);
}

never : (text : List ℕ) (p : ℕ) (before code : List Instruction) → Stops text p before → GoesOn (signs_of (drop p text)) before code → ⊥
never text p before code h g = h.stops g.front g.tail g.instruction g.cut g.spelled g.range

less_or_not : (p q : ℕ) → (p < q) ⊎ (q ≤ p)
less_or_not p q = grind arith

equal_or_less : (p q : ℕ) → q ≤ p → (q < p) ⊎ (p ≡ q)
equal_or_less p q h = grind arith

-- two places where it stops are one
one_stop : (text : List ℕ) (p q : ℕ) (a b : List Instruction) → Stops text p a → Stops text q b → p ≡ q
one_stop text p q a b h k = ⊎_elim (λ lt. absurd (never text p a b h (goes_before text p q a b lt h.begins k.begins))) (λ le. ⊎_elim (λ lt. absurd (never text q b a k (goes_before text q p b a lt k.begins h.begins))) (λ e. e) (equal_or_less p q le)) (less_or_not p q)

-- it stops at no place of a program
no_stop : (text : List ℕ) (p : ℕ) (a code : List Instruction) → Stops text p a → SpellsCode (signs_of text) code → AllByRecursion IsInRange code → ⊥
no_stop text p a code h k r = never text p a code h (goes_whole text p a code h.begins k r)

distinct_not : (xs ys : List Label) (label : Label) → AreDistinct (xs ++ label ∷ ys) → Contains xs label → ⊥
distinct_not [] ys label h k = contains_nothing label k
distinct_not (x ∷ xs) ys label h k =
    ⊎_elim
    (λ e. h.0 (subst (λ l. Contains (xs ++ label ∷ ys) l) (sym e) (Contains-append_right xs (label ∷ ys) label (contains_here label ys))))
    (λ r. distinct_not xs ys label h.1 r)
    (contains_first_or_rest x label xs k)

pub all_contains : (P : Label → Type 0) (xs : List Label) (label : Label) → AllByRecursion P xs → Contains xs label → P label
all_contains P [] label h k = absurd (contains_nothing label k)
all_contains P (x ∷ xs) label h k = ⊎_elim (λ e. subst P e h.0) (λ r. all_contains P xs label h.1 r) (contains_first_or_rest x label xs k)

-- the instruction at a place breaks a rule of labels
record Breaks (text : List ℕ) (p : ℕ) (before : List Instruction) (instruction : Instruction) (after : List Instruction) : Type 0 where
  right : LabelsRightBefore text p before instruction after
  breaks : (tail : List Instruction) → AreDistinct (marks (before ++ instruction ∷ tail)) → AllByRecursion (Contains (marks (before ++ instruction ∷ after))) (uses (before ++ instruction ∷ tail)) → ⊥

duplicate_breaks : (text : List ℕ) (p : ℕ) (h : DuplicateLabelAt text p) → Breaks text p h.before (Mark h.label) h.after
duplicate_breaks text p h = record {
  right = h.right;
  breaks = λ tail distinct known. distinct_not (marks h.before) (marks tail) h.label (subst AreDistinct (marks-append h.before (Mark h.label ∷ tail)) distinct) h.twice;
}

unknown_breaks : (text : List ℕ) (p : ℕ) (h : UnknownLabelAt text p) → Breaks text p h.before h.instruction h.after
unknown_breaks text p h = record {
  right = h.right;
  breaks = λ tail distinct known. h.unmarked (all_contains (Contains (marks (h.before ++ h.instruction ∷ h.after))) (uses (h.before ++ h.instruction ∷ tail)) h.label known
      (subst (λ l. Contains l h.label) (sym (uses-append h.before (h.instruction ∷ tail))) (Contains-append_right (uses h.before) (uses_of h.instruction ++ uses tail) h.label (Contains-append_left (uses_of h.instruction) (uses tail) h.label h.goes))));
}

same_head : (i j : Instruction) (a b : List Instruction) → i ∷ a ≡ j ∷ b → i ≡ j
same_head i j a b e = cc

-- what breaks a rule stands at no place before another that does
not_before : (text : List ℕ) (p q : ℕ) (a b : List Instruction) (i j : Instruction) (c d : List Instruction) → p < q → Breaks text p a i c → Breaks text q b j d → ⊥
not_before text p q a b i j c d lt h k =
    let g = goes_before text p q a b lt h.right.begins k.right.begins in
    let whole : b ++ j ∷ d ≡ a ++ i ∷ c = one_code (signs_of text) (b ++ j ∷ d) (a ++ i ∷ c) k.right.spelled h.right.spelled in
    let cut : g.instruction ∷ (g.after ++ j ∷ d) ≡ i ∷ c = append_cancel_left a (g.instruction ∷ (g.after ++ j ∷ d)) (i ∷ c) (sym (append_assoc a (g.instruction ∷ g.after) (j ∷ d)) ∙ ap (λ l. l ++ j ∷ d) (sym g.whole) ∙ whole) in
    let here : b ≡ a ++ i ∷ g.after = g.whole ∙ ap (λ x. a ++ x ∷ g.after) (same_head g.instruction i (g.after ++ j ∷ d) c cut) in
    h.breaks g.after (subst (λ l. AreDistinct (marks l)) here k.right.marked_once)
    (subst (λ l. AllByRecursion (Contains (marks (a ++ i ∷ c))) (uses l)) here (subst (λ l. AllByRecursion (Contains (marks l)) (uses b)) whole k.right.marked))

one_break : (text : List ℕ) (p q : ℕ) (a b : List Instruction) (i j : Instruction) (c d : List Instruction) → Breaks text p a i c → Breaks text q b j d → p ≡ q
one_break text p q a b i j c d h k = ⊎_elim (λ lt. absurd (not_before text p q a b i j c d lt h k)) (λ le. ⊎_elim (λ lt. absurd (not_before text q p b a j i d c lt k h)) (λ e. e) (equal_or_less p q le)) (less_or_not p q)

-- at one place it is one instruction
same_break : (text : List ℕ) (p : ℕ) (a b : List Instruction) (i j : Instruction) (c d : List Instruction) → Breaks text p a i c → Breaks text p b j d → i ≡ j
same_break text p a b i j c d h k =
    let front : b ≡ a = one_code (signs_of (take p text)) b a k.right.begins.spelled h.right.begins.spelled in
    let whole : b ++ j ∷ d ≡ a ++ i ∷ c = one_code (signs_of text) (b ++ j ∷ d) (a ++ i ∷ c) k.right.spelled h.right.spelled in
    sym (same_head j i d c (append_cancel_left a (j ∷ d) (i ∷ c) (ap (λ l. l ++ j ∷ d) (sym front) ∙ whole)))

-- a mark goes nowhere
not_both : (text : List ℕ) (p q : ℕ) → DuplicateLabelAt text p → UnknownLabelAt text q → ⊥
not_both text p q h k =
    let same : p ≡ q = one_break text p q h.before k.before (Mark h.label) k.instruction h.after k.after (duplicate_breaks text p h) (unknown_breaks text q k) in
    let k' : UnknownLabelAt text p = subst (UnknownLabelAt text) (sym same) k in
    let one : Mark h.label ≡ k'.instruction = same_break text p h.before k'.before (Mark h.label) k'.instruction h.after k'.after (duplicate_breaks text p h) (unknown_breaks text p k') in
    contains_nothing k'.label (subst (λ i. Contains (uses_of i) k'.label) (sym one) k'.goes)

program_unbroken : (text : List ℕ) (p : ℕ) (code a : List Instruction) (i : Instruction) (c : List Instruction) → ws_spells text code → Breaks text p a i c → ⊥
program_unbroken text p code a i c w h =
    let whole : code ≡ a ++ i ∷ c = one_code (signs_of text) code (a ++ i ∷ c) w.spelled h.right.spelled in
    h.breaks c (subst (λ l. AreDistinct (marks l)) whole w.sound.marked_once) (subst (λ l. AllByRecursion (Contains (marks l)) (uses l)) whole w.sound.marked)

unbroken : (text : List ℕ) (p q : ℕ) (s a : List Instruction) (i : Instruction) (c : List Instruction) → Stops text p s → Breaks text q a i c → ⊥
unbroken text p q s a i c h k = no_stop text p s (a ++ i ∷ c) h k.right.spelled k.right.in_range

-- it stops in one way
no_two : (text : List ℕ) (p q : ℕ) → BadFormAt text p → NumberRangeAt text q → ⊥
no_two text p q h k =
    let same : p ≡ q = one_stop text p q h.before k.before (bad_stops text p h) (range_stops text q k) in
    let k' : NumberRangeAt text p = subst (NumberRangeAt text) (sym same) k in
    h.formless k'.front k'.rest k'.instruction k'.whole k'.spelled

not_taken : (text : List ℕ) (code : List Instruction) (fault : WsFault) → fault ≢ Memory → ws_spells text code → IsRefused text fault → ⊥
not_taken text code (BadForm p) ne w h = no_stop text p h.before code (bad_stops text p h) w.spelled w.sound.in_range
not_taken text code (NumberRange p) ne w h = no_stop text p h.before code (range_stops text p h) w.spelled w.sound.in_range
not_taken text code (DuplicateLabel p) ne w h = program_unbroken text p code h.before (Mark h.label) h.after w (duplicate_breaks text p h)
not_taken text code (UnknownLabel p) ne w h = program_unbroken text p code h.before h.instruction h.after w (unknown_breaks text p h)
not_taken text code Memory ne w h = ne refl

one_refusal : (text : List ℕ) (a b : WsFault) → a ≢ Memory → b ≢ Memory → IsRefused text a → IsRefused text b → a ≡ b
one_refusal text Memory b ne me h k = absurd (ne refl)
one_refusal text (BadForm p) Memory ne me h k = absurd (me refl)
one_refusal text (NumberRange p) Memory ne me h k = absurd (me refl)
one_refusal text (DuplicateLabel p) Memory ne me h k = absurd (me refl)
one_refusal text (UnknownLabel p) Memory ne me h k = absurd (me refl)
one_refusal text (BadForm p) (BadForm q) ne me h k = ap BadForm (one_stop text p q h.before k.before (bad_stops text p h) (bad_stops text q k))
one_refusal text (BadForm p) (NumberRange q) ne me h k = absurd (no_two text p q h k)
one_refusal text (BadForm p) (DuplicateLabel q) ne me h k = absurd (unbroken text p q h.before k.before (Mark k.label) k.after (bad_stops text p h) (duplicate_breaks text q k))
one_refusal text (BadForm p) (UnknownLabel q) ne me h k = absurd (unbroken text p q h.before k.before k.instruction k.after (bad_stops text p h) (unknown_breaks text q k))
one_refusal text (NumberRange p) (BadForm q) ne me h k = absurd (no_two text q p k h)
one_refusal text (NumberRange p) (NumberRange q) ne me h k = ap NumberRange (one_stop text p q h.before k.before (range_stops text p h) (range_stops text q k))
one_refusal text (NumberRange p) (DuplicateLabel q) ne me h k = absurd (unbroken text p q h.before k.before (Mark k.label) k.after (range_stops text p h) (duplicate_breaks text q k))
one_refusal text (NumberRange p) (UnknownLabel q) ne me h k = absurd (unbroken text p q h.before k.before k.instruction k.after (range_stops text p h) (unknown_breaks text q k))
one_refusal text (DuplicateLabel p) (BadForm q) ne me h k = absurd (unbroken text q p k.before h.before (Mark h.label) h.after (bad_stops text q k) (duplicate_breaks text p h))
one_refusal text (DuplicateLabel p) (NumberRange q) ne me h k = absurd (unbroken text q p k.before h.before (Mark h.label) h.after (range_stops text q k) (duplicate_breaks text p h))
one_refusal text (DuplicateLabel p) (DuplicateLabel q) ne me h k = ap DuplicateLabel (one_break text p q h.before k.before (Mark h.label) (Mark k.label) h.after k.after (duplicate_breaks text p h) (duplicate_breaks text q k))
one_refusal text (DuplicateLabel p) (UnknownLabel q) ne me h k = absurd (not_both text p q h k)
one_refusal text (UnknownLabel p) (BadForm q) ne me h k = absurd (unbroken text q p k.before h.before h.instruction h.after (bad_stops text q k) (unknown_breaks text p h))
one_refusal text (UnknownLabel p) (NumberRange q) ne me h k = absurd (unbroken text q p k.before h.before h.instruction h.after (range_stops text q k) (unknown_breaks text p h))
one_refusal text (UnknownLabel p) (DuplicateLabel q) ne me h k = absurd (not_both text q p k h)
one_refusal text (UnknownLabel p) (UnknownLabel q) ne me h k = ap UnknownLabel (one_break text p q h.before k.before h.instruction k.instruction h.after k.after (unknown_breaks text p h) (unknown_breaks text q k))

-- a text has one answer
pub one_answer : (text : List ℕ) → HasOneAnswer text
one_answer text = record { taken = not_taken text; refused = one_refusal text }
