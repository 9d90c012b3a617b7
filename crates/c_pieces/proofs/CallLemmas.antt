-- Lists of parameters and formats, piece by piece.
use Rattle.std.proofs.Common.{◌≡◌, ◌+◌, ◌-◌, ℕ, zero, suc, Bool, true, false, List, [], ◌∷◌, ◌++◌, drop, refl, sym, ap, subst, ◌∙◌, append_assoc, arith}
use Rattle.std.specs.Prelude.{Some, None, if◌then◌else◌, ◌==◌}
use Rattle.std.proofs.lemmas.List.{append-nil}
use Rattle.std.proofs.lemmas.Bool.Decides.{nat_tests}
use Rattle.c_types.specs.Types as types
use Rattle.c_types.specs.Types.{CType, CTypes}
use Rattle.c_eval.specs.Environment.{function_parameters, parameters_of}
use Rattle.c_code.specs.Code as code
use Rattle.c_code.specs.Code.{pieces, convert_code, first_converted}
use Rattle.c_store.specs.declared.kind.Kind.{Kind}
use Rattle.c_store.specs.declared.kind.Kind.TheVariants.{Number}
use Rattle.c_types.specs.Table.{Table}
use Rattle.c_operands.specs.Arguments.{HasList}
use Rattle.c_resolved.specs.Resolved.{kind_of}
use Rattle.c_resolved.specs.Means.{argument_kinds}
use Rattle.c_emitted.specs.declared.emitter.Emitter.{Emitter}
use Rattle.c_emitted.specs.Emits.{Emits}
use Rattle.c_emitted.proofs.EmitLemmas.{nothing, later}
use Rattle.c_pieces.specs.declared.formats.Left.{Left}
use Rattle.c_pieces.specs.Called.{Passes}

-- ---- kinds of arguments

-- the kinds so far, and what is left of the list for so many arguments more
pub record SoFar (table : Table) (ts : CTypes) (count : ℕ) (kinds : List Kind) (rest done : ℕ) : Type 0 where
  pub us : CTypes
  pub list : HasList table rest us
  pub whole : (n : ℕ) → done + n ≡ count → kinds ++ argument_kinds us n ≡ argument_kinds ts count

pub begun : (table : Table) (ts : CTypes) (count list : ℕ) → HasList table list ts → SoFar table ts count [] list 0
begun table ts count list h = record { us = ts; list = h; whole = λ n e. let same : n ≡ count = omega (arith, e) in ap (argument_kinds ts) same }

one_less : (done n count : ℕ) → done + 1 + n ≡ count → done + suc n ≡ count
one_less done n count e = omega (arith, e)

pub one_more : (table : Table) (ts vs : CTypes) (t : CType) (count rest done behind : ℕ) (kinds more : List Kind) (kind : Kind) → (s : SoFar table ts count kinds rest done) → s.us ≡ types.MoreType t vs → HasList table behind vs → kind ≡ kind_of t
    → more ≡ kinds ++ kind ∷ [] → SoFar table ts count more behind (done + 1)
one_more table ts vs t count rest done behind kinds more kind s is list same e = record {
  us = vs;
  list = list;
  whole = λ n f.
      ap (λ (l : List Kind). l ++ argument_kinds vs n) (e ∙ ap (λ (k : Kind). kinds ++ k ∷ []) same) ∙ (append_assoc kinds (kind_of t ∷ []) (argument_kinds vs n)
      ∙ (ap (λ (us : CTypes). kinds ++ argument_kinds us (suc n)) (sym is) ∙ s.whole (suc n) (one_less done n count f)));
}

pub none_more : (table : Table) (ts : CTypes) (count rest done : ℕ) (kinds more : List Kind) → (s : SoFar table ts count kinds rest done) → s.us ≡ types.NoType → more ≡ kinds ++ Number ∷ [] → SoFar table ts count more rest (done + 1)
none_more table ts count rest done kinds more s is e = record {
  us = s.us;
  list = s.list;
  whole = λ n f.
      ap (λ (l : List Kind). l ++ argument_kinds s.us n) e ∙ (append_assoc kinds (Number ∷ []) (argument_kinds s.us n)
      ∙ (ap (λ (us : CTypes). kinds ++ (Number ∷ argument_kinds us n)) is ∙ (ap (λ (us : CTypes). kinds ++ argument_kinds us (suc n)) (sym is) ∙ s.whole (suc n) (one_less done n count f))));
}

pub all_told : (table : Table) (ts : CTypes) (count rest done : ℕ) (kinds : List Kind) → SoFar table ts count kinds rest done → done ≡ count → kinds ≡ argument_kinds ts count
all_told table ts count rest done kinds s e = let none : done + 0 ≡ count = omega (arith, e) in sym (append-nil kinds) ∙ s.whole 0 none

pub nothing_first : (a : Emitter) (ts : CTypes) → ts ≡ types.NoType → Emits a a (first_converted ts) []
nothing_first a ts e = subst (λ (us : CTypes). Emits a a (first_converted us) []) (sym e) (nothing a)

-- ---- formats

-- what was emitted of a format, and what is left of it
pub record Goes (a b : Emitter) (format : List ℕ) (count k : ℕ) (l : Left) : Type 0 where
  pub is : List code.Instruction
  pub emits : Emits a b is []
  pub whole : pieces false format count ≡ is ++ pieces l.percent (drop k format) l.count

pub percent_again : (byte count : ℕ) (rest : List ℕ) → byte ≡ 37 → pieces true (byte ∷ rest) count ≡ code.Put byte ∷ pieces false rest count
percent_again byte zero rest e = subst (λ (b : ℕ). pieces true (b ∷ rest) 0 ≡ code.Put b ∷ pieces false rest 0) (sym e) refl
percent_again byte (suc n) rest e = subst (λ (b : ℕ). pieces true (b ∷ rest) (suc n) ≡ code.Put b ∷ pieces false rest (suc n)) (sym e) refl

test_fails : (byte : ℕ) → (byte ≡ 37 → ⊥) → (byte == 37) ≡ false
test_fails byte other = grind (arith, nat_tests)

by_test : {b : Bool} (is js : List code.Instruction) → b ≡ false → (if b then is else js) ≡ js
by_test is js e = ap (λ (t : Bool). if t then is else js) e

pub no_value : (byte count : ℕ) (rest : List ℕ) → (byte ≡ 37 → ⊥) → count ≡ 0 → pieces true (byte ∷ rest) count ≡ code.Stuck ∷ []
no_value byte count rest other e =
    subst (λ (n : ℕ). pieces true (byte ∷ rest) n ≡ code.Stuck ∷ []) (sym e) (by_test (code.Put byte ∷ pieces false rest 0) (code.Stuck ∷ []) (test_fails byte other))

pub conversion : (byte count : ℕ) (rest : List ℕ) → (byte ≡ 37 → ⊥) → (count ≡ 0 → ⊥) → pieces true (byte ∷ rest) count ≡ convert_code byte ++ pieces false rest (count - 1)
conversion byte zero rest other some = absurd (some refl)
conversion byte (suc n) rest other some =
    let less : n ≡ suc n - 1 = omega arith in
    by_test (code.Put byte ∷ pieces false rest (suc n)) (convert_code byte ++ pieces false rest n) (test_fails byte other) ∙ ap (λ (m : ℕ). convert_code byte ++ pieces false rest m) less

pub a_percent : (byte count : ℕ) (rest : List ℕ) → byte ≡ 37 → pieces false (byte ∷ rest) count ≡ pieces true rest count
a_percent byte count rest e = subst (λ (b : ℕ). pieces false (b ∷ rest) count ≡ pieces true rest count) (sym e) refl

pub a_character : (byte count : ℕ) (rest : List ℕ) → (byte ≡ 37 → ⊥) → pieces false (byte ∷ rest) count ≡ code.Put byte ∷ pieces false rest count
a_character byte count rest other = by_test (pieces true rest count) (code.Put byte ∷ pieces false rest count) (test_fails byte other)

pub goes_first : (a : Emitter) (format : List ℕ) (count : ℕ) (l : Left) → l ≡ record { percent = false; count = count } → Goes a a format count 0 l
goes_first a format count l e = record { is = []; emits = nothing a; whole = ap (λ (m : Left). pieces m.percent format m.count) (sym e) }

pub passed_on : (a b c : Emitter) (format : List ℕ) (count k byte : ℕ) (l m : Left) → Goes a b format count k l → drop k format ≡ byte ∷ drop (k + 1) format → Passes b c l.percent byte l.count (Some m) → Goes a c format count (k + 1) m
passed_on a b c format count k byte l m g e p = record {
  is = g.is ++ p.0;
  emits = later g.emits p.1;
  whole = g.whole ∙ (ap (λ (f : List ℕ). g.is ++ pieces l.percent f l.count) e ∙ (ap (λ (x : List code.Instruction). g.is ++ x) (p.2 (drop (k + 1) format)) ∙ sym (append_assoc g.is p.0 (pieces m.percent (drop (k + 1) format) m.count))));
}

pub stuck : (a b c : Emitter) (format : List ℕ) (count k byte : ℕ) (l : Left) → Goes a b format count k l → drop k format ≡ byte ∷ drop (k + 1) format → Passes b c l.percent byte l.count None → Emits a c (pieces false format count) []
stuck a b c format count k byte l g e p =
    subst (λ (x : List code.Instruction). Emits a c x []) (sym (g.whole ∙ ap (λ (f : List ℕ). g.is ++ pieces l.percent f l.count) e)) (later g.emits (p (drop (k + 1) format)))

no_more : (percent : Bool) (count : ℕ) → pieces percent [] count ≡ code.Printed count ∷ []
no_more true zero = refl
no_more true (suc n) = refl
no_more false n = refl

pub all_passed : (a b c : Emitter) (format : List ℕ) (count k : ℕ) (l : Left) → Goes a b format count k l → drop k format ≡ [] → Emits b c (code.Printed l.count ∷ []) [] → Emits a c (pieces false format count) []
all_passed a b c format count k l g e p =
    subst (λ (x : List code.Instruction). Emits a c x []) (sym (g.whole ∙ (ap (λ (f : List ℕ). g.is ++ pieces l.percent f l.count) e ∙ ap (λ (x : List code.Instruction). g.is ++ x) (no_more l.percent l.count)))) (later g.emits p)

-- the second of two codes, by a test
pub by_name : (b : Bool) (is js : List code.Instruction) → b ≡ false → js ≡ (if b then is else js)
by_name b is js e = ap (λ (t : Bool). if t then is else js) (sym e)
