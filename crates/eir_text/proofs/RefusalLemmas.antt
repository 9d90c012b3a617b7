-- Where no line is refused and no name, the text spells what the lines say, and else it spells nothing.
use Rattle.std.proofs.Common.{◌≡◌, ℕ, ◌+◌, ◌^◌, ◌<◌, Bool, true, false, ◌||◌, nat_le, if◌then◌else◌, List, [], ◌∷◌, ◌++◌, Option, Some, None, map, refl, sym, ap, ◌∙◌, append-nil, append_assoc}
use Rattle.std.specs.Prelude.{IsTrue, IsSome}
use Rattle.std.specs.List.{AllByRecursion, filter_map, cons_option}
use Rattle.std.proofs.lemmas.Bool.{or_parts, or_from, lt-leb}
use Rattle.eir_core.specs.Eir.{Eir, size_of}
use Rattle.eir_line.specs.Line.{Line, is_in_range}
use Rattle.eir_line.specs.Grammar.{form_of}
use Rattle.eir_text.specs.declared.fault.EirFault.{EirFault}
use Rattle.eir_text.specs.declared.fault.EirFault.TheVariants.{BadLine, NumberRange, DuplicateLabel, UnknownLabel, TooLarge}
use Rattle.eir_text.specs.declared.section.Section.{Section}
use Rattle.eir_text.specs.declared.section.Section.TheVariants as section
use Rattle.eir_text.specs.Names.{names_of, are_known, is_among, repeats}
use Rattle.eir_text.specs.Sections.{Placed, lines_of, section_after, placed_from, placed_of, may_stand}
use Rattle.eir_text.specs.Refusals.{line_refusal, section_behind, or_else, lines_refusal, first_repeat, first_unknown, names_refusal}
use Rattle.eir_text.specs.Spells.{program_said, Spells, refusal_of}

-- no refusal: neither the one nor the other
pub or_else_none : (a b : Option EirFault) → or_else a b ≡ None → (a ≡ None) × (b ≡ None)
or_else_none None b h = (refl, h)
or_else_none (Some e) b h = absurd cc

abbrev AllStand : List Placed → Type 0
AllStand ps = AllByRecursion (λ l. IsTrue (may_stand l.section l.line.statement)) ps

abbrev AllInRange : List Placed → Type 0
AllInRange ps = AllByRecursion (λ l. IsTrue (is_in_range l.line.statement)) ps

abbrev AllFormed : List (List ℕ) → Type 0
AllFormed ls = AllByRecursion (λ line. IsSome (form_of line)) ls

stands_in_range : (k : ℕ) (a b : Bool) → (if a then (if b then None else Some (NumberRange k)) else Some (BadLine k)) ≡ None → (a ≡ true) × (b ≡ true)
stands_in_range k true true h = (refl, refl)
stands_in_range k true false h = absurd cc
stands_in_range k false b h = absurd cc

first_good : (s : Section) (k : ℕ) (o : Option Line) (rest : List Line) → line_refusal s k o ≡ None → AllStand (placed_from (section_behind s o) rest) → AllInRange (placed_from (section_behind s o) rest)
    → IsSome o × AllStand (placed_from s (cons_option o rest)) × AllInRange (placed_from s (cons_option o rest))
first_good s k None rest h a b = absurd cc
first_good s k (Some line) rest h a b = let p = stands_in_range k (may_stand s line.statement) (is_in_range line.statement) h in (refl, (p.0, a), (p.1, b))

-- lines of which none is refused by itself
pub lines_good : (s : Section) (k : ℕ) (ls : List (List ℕ)) → lines_refusal s k (map form_of ls) ≡ None
    → AllFormed ls × AllStand (placed_from s (filter_map form_of ls)) × AllInRange (placed_from s (filter_map form_of ls))
lines_good s k [] h = (tt, tt, tt)
lines_good s k (l ∷ ls) h =
    let p = or_else_none (line_refusal s k (form_of l)) (lines_refusal (section_behind s (form_of l)) (k + 1) (map form_of ls)) h in
    let rest = lines_good (section_behind s (form_of l)) (k + 1) ls p.1 in
    let first = first_good s k (form_of l) (filter_map form_of ls) p.0 rest.1 rest.2 in
    ((first.0, rest.0), first.1, first.2)

none_refused : (s : Section) (k : ℕ) (o : Option Line) (rest : List Line) (later : Section → Option EirFault) → IsSome o
    → AllStand (placed_from s (cons_option o rest)) → AllInRange (placed_from s (cons_option o rest))
    → ((t : Section) → AllStand (placed_from t rest) → AllInRange (placed_from t rest) → later t ≡ None)
    → or_else (line_refusal s k o) (later (section_behind s o)) ≡ None
none_refused s k None rest later h a b more = absurd (let e : false ≡ true = h in cc)
none_refused s k (Some line) rest later h a b more =
    ap (λ r. or_else r (later (section_after s line.statement)))
    (ap (λ t. if t then (if is_in_range line.statement then None else Some (NumberRange k)) else Some (BadLine k)) a.0 ∙ ap (λ t. if t then None else Some (NumberRange k)) b.0)
    ∙ more (section_after s line.statement) a.1 b.1

pub good_lines : (s : Section) (k : ℕ) (ls : List (List ℕ)) → AllFormed ls → AllStand (placed_from s (filter_map form_of ls)) → AllInRange (placed_from s (filter_map form_of ls))
    → lines_refusal s k (map form_of ls) ≡ None
good_lines s k [] f a b = refl
good_lines s k (l ∷ ls) f a b =
    none_refused s k (form_of l) (filter_map form_of ls) (λ t. lines_refusal t (k + 1) (map form_of ls)) f.0 a b (λ t c d. good_lines t (k + 1) ls f.1 c d)

or_assoc : (x y z : Bool) → ((x || y) || z) ≡ (x || (y || z))
or_assoc true y z = refl
or_assoc false y z = refl

pub repeats-append : (before xs ys : List (List ℕ)) → repeats before (xs ++ ys) ≡ (repeats before xs || repeats (before ++ xs) ys)
repeats-append before [] ys = ap (λ b. repeats b ys) (sym (append-nil before))
repeats-append before (x ∷ xs) ys =
    ap (λ b. is_among before x || b) (repeats-append (before ++ x ∷ []) xs ys)
    ∙ (sym (or_assoc (is_among before x) (repeats (before ++ x ∷ []) xs) (repeats ((before ++ x ∷ []) ++ xs) ys))
    ∙ ap (λ b. (is_among before x || repeats (before ++ x ∷ []) xs) || repeats b ys) (append_assoc before (x ∷ []) xs))

some_none : (k : ℕ) (b : Bool) (o : Option ℕ) → (if b then Some k else o) ≡ None → (b ≡ false) × (o ≡ None)
some_none k true o h = absurd cc
some_none k false o h = (refl, h)

none_some : (k : ℕ) (b : Bool) (o : Option ℕ) → (if b then o else Some k) ≡ None → (b ≡ true) × (o ≡ None)
none_some k true o h = (refl, h)
none_some k false o h = absurd cc

pub no_repeat : (before : List (List ℕ)) (k : ℕ) (ls : List Line) → first_repeat before k ls ≡ None → repeats before (names_of ls) ≡ false
no_repeat before k [] h = refl
no_repeat before k (l ∷ ls) h =
    let p = some_none k (repeats before l.labels) (first_repeat (before ++ l.labels) (k + 1) ls) h in
    repeats-append before l.labels (names_of ls) ∙ or_from (repeats before l.labels) (repeats (before ++ l.labels) (names_of ls)) p.0 (no_repeat (before ++ l.labels) (k + 1) ls p.1)

pub repeat_none : (before : List (List ℕ)) (k : ℕ) (ls : List Line) → repeats before (names_of ls) ≡ false → first_repeat before k ls ≡ None
repeat_none before k [] h = refl
repeat_none before k (l ∷ ls) h =
    let p = or_parts (repeats before l.labels) (repeats (before ++ l.labels) (names_of ls)) (sym (repeats-append before l.labels (names_of ls)) ∙ h) in
    ap (λ b. if b then Some k else first_repeat (before ++ l.labels) (k + 1) ls) p.0 ∙ repeat_none (before ++ l.labels) (k + 1) ls p.1

abbrev AllKnown : List (List ℕ) → List Placed → Type 0
AllKnown names ps = AllByRecursion (λ l. IsTrue (are_known names l.line.statement)) ps

pub all_known : (names : List (List ℕ)) (k : ℕ) (ps : List Placed) → first_unknown names k (map (λ p. p.line) ps) ≡ None → AllKnown names ps
all_known names k [] h = tt
all_known names k (p ∷ ps) h =
    let q = none_some k (are_known names p.line.statement) (first_unknown names (k + 1) (map (λ l. l.line) ps)) h in
    (q.0, all_known names (k + 1) ps q.1)

pub unknown_none : (names : List (List ℕ)) (k : ℕ) (ps : List Placed) → AllKnown names ps → first_unknown names k (map (λ p. p.line) ps) ≡ None
unknown_none names k [] h = refl
unknown_none names k (p ∷ ps) h = ap (λ b. if b then first_unknown names (k + 1) (map (λ l. l.line) ps) else Some k) h.0 ∙ unknown_none names (k + 1) ps h.1

names_none : (a b : Option ℕ) → names_refusal a b ≡ None → (a ≡ None) × (b ≡ None)
names_none None None h = (refl, refl)
names_none (Some j) None h = absurd cc
names_none None (Some k) h = absurd cc
names_none (Some j) (Some k) h = at (nat_le j k) h where
  at : (b : Bool) → (if b then Some (DuplicateLabel j) else Some (UnknownLabel k)) ≡ None → (Some j ≡ None) × (Some k ≡ None)
  at true e = absurd cc
  at false e = absurd cc

-- why the lines of a text are refused, size aside
abbrev pub lines_part : List ℕ → Option EirFault
lines_part text = lines_refusal section.Text 1 (map form_of (lines_of text))

abbrev pub names_part : List ℕ → Option EirFault
names_part text =
    let lines = map (λ p. p.line) (placed_of text) in
    names_refusal (first_repeat [] 1 lines) (first_unknown (names_of lines) 1 lines)

-- where no line is refused, the text spells what the lines say
pub spelled_from : (text : List ℕ) → lines_part text ≡ None → names_part text ≡ None → Spells text (program_said (placed_of text))
spelled_from text h n =
    let lines = map (λ p. p.line) (placed_of text) in
    let l = lines_good section.Text 1 (lines_of text) h in
    let p = names_none (first_repeat [] 1 lines) (first_unknown (names_of lines) 1 lines) n in
    record {
      formed = l.0;
      placed = l.1;
      in_range = l.2;
      distinct = no_repeat [] 1 lines p.0;
      known = all_known (names_of lines) 1 (placed_of text) p.1;
      program = refl;
    }

pub unrefused_lines : (text : List ℕ) (p : Eir) → Spells text p → lines_part text ≡ None
unrefused_lines text p s = good_lines section.Text 1 (lines_of text) s.formed s.placed s.in_range

pub unrefused_names : (text : List ℕ) (p : Eir) → Spells text p → names_part text ≡ None
unrefused_names text p s =
    let lines = map (λ q. q.line) (placed_of text) in
    ap (λ a. names_refusal a (first_unknown (names_of lines) 1 lines)) (repeat_none [] 1 lines s.distinct)
    ∙ ap (names_refusal None) (unknown_none (names_of lines) 1 (placed_of text) s.known)

-- what is left where no line is refused
pub refusal_by_size : (text : List ℕ) → lines_part text ≡ None → names_part text ≡ None
    → refusal_of text ≡ (if nat_le (size_of (program_said (placed_of text))) (2 ^ 21) then None else Some TooLarge)
refusal_by_size text h n =
    let size : Option EirFault = if nat_le (size_of (program_said (placed_of text))) (2 ^ 21) then None else Some TooLarge in
    ap (λ r. or_else r (or_else (names_part text) size)) h ∙ ap (λ r. or_else r size) n

-- a refusal of the names, where no line is refused, is the text's
pub refused_by_names : (text : List ℕ) (e : EirFault) → lines_part text ≡ None → names_part text ≡ Some e → refusal_of text ≡ Some e
refused_by_names text e h n =
    let size : Option EirFault = if nat_le (size_of (program_said (placed_of text))) (2 ^ 21) then None else Some TooLarge in
    ap (λ r. or_else r (or_else (names_part text) size)) h ∙ ap (λ r. or_else r size) n

-- what lines say that is too large is refused as such
pub refused_by_size : (text : List ℕ) → lines_part text ≡ None → names_part text ≡ None → 2 ^ 21 < size_of (program_said (placed_of text)) → refusal_of text ≡ Some TooLarge
refused_by_size text h n l = refusal_by_size text h n ∙ ap (λ b. if b then None else Some TooLarge) (lt-leb (size_of (program_said (placed_of text))) (2 ^ 21) l)
