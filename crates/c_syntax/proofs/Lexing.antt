-- Tokens one behind the other, and reading piece by piece.
use Rattle.std.proofs.Common.{◌≡◌, ℕ, Bool, true, false, List, [], ◌∷◌, ◌++◌, fold, refl, sym, ap, ◌∙◌, append_assoc, Option, Some}
use Rattle.std.specs.Prelude.{Result, Ok, Err, not, ◌&&◌, cond}
use Rattle.std.proofs.lemmas.List.{append-nil}
use Rattle.c_syntax.specs.declared.token.Mark.{Mark}
use Rattle.c_syntax.specs.declared.token.Mark.TheVariants.{Less, Dot, Greater}
use Rattle.c_syntax.specs.declared.token.Token.{Token}
use Rattle.c_syntax.specs.declared.token.LexFault.{LexFault}
use Rattle.c_syntax.specs.declared.token.LexFault.TheVariants as fault
use Rattle.c_syntax.specs.declared.header.Included.{Included}
use Rattle.c_syntax.specs.declared.scan.Piece.{Piece}
use Rattle.c_syntax.specs.Scan.{Fails}
use Rattle.c_syntax.specs.Header.{tokens_at, token_at}
use Rattle.c_syntax.specs.Lex.{joined, added, put, is_less, is_dot, is_greater, Step, step, put_all, and_then, tokens_in, finish, Reads}

pub added_last : (ts : List Token) (x t : Token) → added (ts ++ x ∷ []) t ≡ ts ++ joined x t
added_last [] x t = refl
added_last (y ∷ []) x t = refl
added_last (y ∷ z ∷ ts) x t = ap (λ us. y ∷ us) (added_last (z ∷ ts) x t)

pub not_less : (m : Option Mark) → (m ≡ Some Less → ⊥) → is_less m ≡ false
not_less (Some Less) h = absurd (h refl)
not_less _ h = refl

-- one piece of a header's text more
pub next_token : (before new : List Token) (pos : ℕ) (p : Piece) (ps all : List Piece) (total : List Token) → all ≡ p ∷ ps → new ≡ before ++ token_at p.found pos → before ++ tokens_at pos all ≡ total → new ++ tokens_at pos ps ≡ total
next_token before new pos p ps all total cut grown so_far =
    ap (λ z. z ++ tokens_at pos ps) grown ∙ append_assoc before (token_at p.found pos) (tokens_at pos ps) ∙ sym (ap (λ z. before ++ tokens_at pos z) cut) ∙ so_far

pub all_tokens : (before : List Token) (pos : ℕ) (all : List Piece) (total : List Token) → all ≡ [] → before ++ tokens_at pos all ≡ total → before ≡ total
all_tokens before pos all total none so_far = sym (ap (λ z. before ++ tokens_at pos z) none ∙ append-nil before) ∙ so_far

-- one token of a header more
pub next_put : (before new more all total : List Token) (t : Token) → all ≡ t ∷ more → new ≡ put before t → fold put before all ≡ total → fold put new more ≡ total
next_put before new more all total t cut grown so_far = ap (λ z. fold put z more) grown ∙ sym (ap (fold put before) cut) ∙ so_far

pub all_put : (before all total : List Token) → all ≡ [] → fold put before all ≡ total → before ≡ total
all_put before all total none so_far = sym (ap (fold put before) none) ∙ so_far

fold_append : (before ts more : List Token) → fold put before (ts ++ more) ≡ fold put (fold put before ts) more
fold_append before [] more = refl
fold_append before (t ∷ ts) more = fold_append (put before t) ts more

finish_all : (before ts : List Token) (read : Result (List Token) LexFault) → finish before (put_all ts read) ≡ finish (fold put before ts) read
finish_all before ts (Ok more) = ap (λ (us : List Token). Ok us) (fold_append before ts more)
finish_all before ts (Err e) = refl

-- a piece of the line of a directive
pub passed : (before : List Token) (included : Included) (inside : Bool) (p : Piece) (ps all : List Piece) (total : Result (List Token) LexFault) → all ≡ p ∷ ps → (inside && not p.gap.first) ≡ true
    → finish before (tokens_in included inside all) ≡ total → finish before (tokens_in included inside ps) ≡ total
passed before included false p ps all total cut test so_far = absurd (cc (test))
passed before included true p ps all total cut test so_far =
    sym (ap (λ z. finish before (tokens_in included true z)) cut
    ∙ ap (λ t. finish before (cond t (tokens_in included true ps) (and_then (step included p.found p.pos p.gap ps) (λ s. put_all s.tokens (tokens_in s.included s.inside ps))))) test) ∙ so_far

-- by the step that a piece makes
by_step : (before : List Token) (included : Included) (inside : Bool) (p : Piece) (ps all : List Piece) (total : Result (List Token) LexFault) → all ≡ p ∷ ps → (inside && not p.gap.first) ≡ false
    → finish before (tokens_in included inside all) ≡ total → finish before (and_then (step included p.found p.pos p.gap ps) (λ s. put_all s.tokens (tokens_in s.included s.inside ps))) ≡ total
by_step before included inside p ps all total cut test so_far =
    sym (ap (λ z. finish before (tokens_in included inside z)) cut
    ∙ ap (λ t. finish before (cond t (tokens_in included true ps) (and_then (step included p.found p.pos p.gap ps) (λ s. put_all s.tokens (tokens_in s.included s.inside ps))))) test) ∙ so_far

-- a step that was made
made : (before new : List Token) (included : Included) (inside : Bool) (ps : List Piece) (total : Result (List Token) LexFault) (s : Result Step LexFault) → Reads (Ok (included, inside)) s before new
    → finish before (and_then s (λ s. put_all s.tokens (tokens_in s.included s.inside ps))) ≡ total → finish new (tokens_in included inside ps) ≡ total
made before new included inside ps total (Ok s) r so_far =
    ap (λ z. finish z (tokens_in included inside ps)) r.1 ∙ ap (λ (f : Included × Bool). finish (fold put before s.tokens) (tokens_in f.0 f.1 ps)) r.0
    ∙ sym (finish_all before s.tokens (tokens_in s.included s.inside ps)) ∙ so_far
made before new included inside ps total (Err e) r so_far = absurd r

pub next_piece : (before new : List Token) (included included' : Included) (inside inside' : Bool) (p : Piece) (ps all : List Piece) (total : Result (List Token) LexFault) → all ≡ p ∷ ps → (inside && not p.gap.first) ≡ false
    → Reads (Ok (included', inside')) (step included p.found p.pos p.gap ps) before new → finish before (tokens_in included inside all) ≡ total → finish new (tokens_in included' inside' ps) ≡ total
next_piece before new included included' inside inside' p ps all total cut test r so_far =
    made before new included' inside' ps total (step included p.found p.pos p.gap ps) r (by_step before included inside p ps all total cut test so_far)

-- a step that was refused
stopped : (before new : List Token) (f : LexFault) (ps : List Piece) (total : Result (List Token) LexFault) (s : Result Step LexFault) → Reads (Err f) s before new
    → finish before (and_then s (λ s. put_all s.tokens (tokens_in s.included s.inside ps))) ≡ total → Fails f total
stopped before new fault.Memory ps total s r so_far = tt
stopped before new (fault.BadChar p) ps total (Ok s) r so_far = absurd (cc (r))
stopped before new (fault.Unclosed p) ps total (Ok s) r so_far = absurd (cc (r))
stopped before new (fault.NumberRange p) ps total (Ok s) r so_far = absurd (cc (r))
stopped before new (fault.BadChar p) ps total (Err e) r so_far = sym so_far ∙ cc (r)
stopped before new (fault.Unclosed p) ps total (Err e) r so_far = sym so_far ∙ cc (r)
stopped before new (fault.NumberRange p) ps total (Err e) r so_far = sym so_far ∙ cc (r)

pub no_piece : (before new : List Token) (included : Included) (inside : Bool) (f : LexFault) (p : Piece) (ps all : List Piece) (total : Result (List Token) LexFault) → all ≡ p ∷ ps → (inside && not p.gap.first) ≡ false
    → Reads (Err f) (step included p.found p.pos p.gap ps) before new → finish before (tokens_in included inside all) ≡ total → Fails f total
no_piece before new included inside f p ps all total cut test r so_far =
    stopped before new f ps total (step included p.found p.pos p.gap ps) r (by_step before included inside p ps all total cut test so_far)

pub all_pieces : (before : List Token) (included : Included) (inside : Bool) (all : List Piece) (total : Result (List Token) LexFault) → all ≡ [] → finish before (tokens_in included inside all) ≡ total → Ok before ≡ total
all_pieces before included inside all total none so_far = sym (ap (λ z. finish before (tokens_in included inside z)) none) ∙ so_far
