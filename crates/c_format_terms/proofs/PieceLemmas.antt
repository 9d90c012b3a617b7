-- What the function of a format does, byte by byte.
use Rattle.std.proofs.Common.{◌≡◌, ◌<◌, ◌≤◌, ◌+◌, ℕ, suc, Bool, true, false, List, [], ◌∷◌, ◌++◌, length, map, drop, get_or, refl, sym, ap, ◌∙◌, append_assoc, append-nil, add-one, codes}
use Rattle.std.specs.Prelude.{◌==◌, if◌then◌else◌}
use Rattle.std.proofs.lemmas.List.{drop_all, length_push}
use Rattle.c_syntax.specs.Plain.{CExpr, CStmt, CDecl}
use Rattle.c_helpers.specs.Terms.{number, declaration}
use Rattle.c_helpers.specs.Functions.{pieces, conversion, put_piece, refill, call_of, arguments_from, argument_name, conversion_type}
use Rattle.c_format_terms.specs.Written.{written}

pub written_by : (letter : ℕ) (e : CExpr) (b : Bool) → (letter == 99) ≡ b
    → (if b then put_piece e ∷ [] else refill ∷ call_of (codes "%" ++ letter ∷ []) (e ∷ []) ∷ []) ≡ written letter e
written_by letter e b h = sym (ap (λ (t : Bool). if t then put_piece e ∷ [] else refill ∷ call_of (codes "%" ++ letter ∷ []) (e ∷ []) ∷ []) h)

-- in the text of a format
pub text_by : (byte : ℕ) (format : List ℕ) (i : ℕ) (b : Bool) → (byte == 37) ≡ b
    → (if b then pieces true format i else put_piece (number byte) ∷ pieces false format i) ≡ pieces false (byte ∷ format) i
text_by byte format i b h = sym (ap (λ (t : Bool). if t then pieces true format i else put_piece (number byte) ∷ pieces false format i) h)

-- behind a percent
pub percent_by : (byte : ℕ) (format : List ℕ) (i : ℕ) (b : Bool) → (byte == 37) ≡ b
    → (if b then put_piece (number byte) ∷ pieces false format i else conversion byte i ++ pieces false format (suc i)) ≡ pieces true (byte ∷ format) i
percent_by byte format i b h = sym (ap (λ (t : Bool). if t then put_piece (number byte) ∷ pieces false format i else conversion byte i ++ pieces false format (suc i)) h)

-- a statement before what comes behind it
pub before_rest : {B : Type 0} (old new rest : List B) (x : B) → new ≡ old ++ x ∷ [] → new ++ rest ≡ old ++ x ∷ rest
before_rest old new rest x e = ap (λ (l : List _). l ++ rest) e ∙ append_assoc old (x ∷ []) rest

pub kept_length : (old new : List ℕ) (x : ℕ) → new ≡ old ++ x ∷ [] → length new ≡ suc (length old)
kept_length old new x e = ap length e ∙ (length_push old x ∙ add-one (length old))

pub conversion_kept : (old new : List CStmt) (given kept : List ℕ) (letter : ℕ) (format : List ℕ) → new ≡ old ++ conversion letter (length given) → kept ≡ given ++ letter ∷ []
    → new ++ pieces false format (length kept) ≡ old ++ (conversion letter (length given) ++ pieces false format (suc (length given)))
conversion_kept old new given kept letter format e k =
    ap (λ (l : List CStmt). l ++ pieces false format (length kept)) e
    ∙ (append_assoc old (conversion letter (length given)) (pieces false format (length kept))
    ∙ ap (λ (n : ℕ). old ++ (conversion letter (length given) ++ pieces false format n)) (kept_length given kept letter k))

no_pieces : (behind : Bool) (i : ℕ) → pieces behind [] i ≡ []
no_pieces true i = refl
no_pieces false i = refl

pub all_pieces : (row all : List CStmt) (behind : Bool) (format : List ℕ) (i n : ℕ) → length format ≤ i → row ++ pieces behind (drop i format) n ≡ all → row ≡ all
all_pieces row all behind format i n past h =
    sym (ap (λ (l : List ℕ). row ++ pieces behind l n) (drop_all i format past) ∙ (ap (λ (l : List CStmt). row ++ l) (no_pieces behind n) ∙ append-nil row)) ∙ h

-- ---- parameters

pub parameter_more : (old new : List CDecl) (d : CDecl) (letter : ℕ) (rest : List ℕ) → new ≡ old ++ d ∷ [] → d ≡ declaration (conversion_type letter) (argument_name (length old))
    → new ++ arguments_from (length new) rest ≡ old ++ arguments_from (length old) (letter ∷ rest)
parameter_more old new d letter rest e g =
    ap (λ (n : ℕ). new ++ arguments_from n rest) (ap length e ∙ (length_push old d ∙ add-one (length old)))
    ∙ (before_rest old new (arguments_from (suc (length old)) rest) d e
    ∙ ap (λ (x : CDecl). old ++ x ∷ arguments_from (suc (length old)) rest) g)

pub all_parameters : (row all : List CDecl) (letters : List ℕ) (i n : ℕ) → length letters ≤ i → row ++ arguments_from n (drop i letters) ≡ all → row ≡ all
all_parameters row all letters i n past h =
    sym (ap (λ (l : List ℕ). row ++ arguments_from n l) (drop_all i letters past) ∙ append-nil row) ∙ h
