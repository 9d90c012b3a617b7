-- What is read is spelled.
use Rattle.std.proofs.Common.{◌≡◌, List, [], ◌∷◌, ◌++◌, Option, Some, None, Bool, true, false, refl, sym, ap, ◌∙◌, subst, append_assoc, append-nil}
use Rattle.std.specs.Prelude.{IsTrue}
use Rattle.c_syntax.specs.declared.token.Token.{Token}
use Rattle.c_grammar.specs.Class.{class_of}
use Rattle.c_grammar.specs.Grammar.{Part, Symbol, Tok, One, Many, Maybe, Production, Whole, Terminal, rhs}
use Rattle.c_grammar.specs.Spelling.{Spelling, Leaf, Node, Row, Spellings, Nil, Cons, category, accepts, tokens, all_tokens, Fits, AllFit, ItemsFit, IsUnit, Spelt}
use Rattle.c_grammar.specs.Machine.{Frame, At, append, snoc, takes, opening, announced, Progress, Moved, Finished, Stuck, moved, at_token, first_token, enter, choose, begin, unfinished, where_so, wraps, wrapped, placed, closed, give, step, then_run, run, start, whole}
use Rattle.c_grammar.proofs.Codes.{takes_sound}

pub snoc_append : (xs : Spellings) (x : Spelling) (ys : Spellings) → append (snoc xs x) ys ≡ append xs (Cons x ys)
snoc_append Nil x ys = refl
snoc_append (Cons y xs) x ys = ap (Cons y) (snoc_append xs x ys)

pub append_none : (xs : Spellings) → append xs Nil ≡ xs
append_none Nil = refl
append_none (Cons x xs) = ap (Cons x) (append_none xs)

pub tokens_append : (xs ys : Spellings) → all_tokens (append xs ys) ≡ all_tokens xs ++ all_tokens ys
tokens_append Nil ys = refl
tokens_append (Cons x xs) ys = ap (λ z. tokens x ++ z) (tokens_append xs ys) ∙ sym (append_assoc (tokens x) (all_tokens xs) (all_tokens ys))

pub tokens_snoc : (xs : Spellings) (x : Spelling) → all_tokens (snoc xs x) ≡ all_tokens xs ++ tokens x
tokens_snoc xs x = tokens_append xs (Cons x Nil) ∙ ap (λ z. all_tokens xs ++ z) (append-nil (tokens x))

-- parts so far, behind which places are left
abbrev pub Fills : Spellings → List Symbol → List Symbol → Type 0
Fills done left all = (rest : Spellings) → AllFit rest left → AllFit (append done rest) all

pub more_fills : (done : Spellings) (x : Spelling) (s : Symbol) (left all : List Symbol) → Fits x s → Fills done (s ∷ left) all → Fills (snoc done x) left all
more_fills done x s left all fx g = λ rest f. let P : Spellings → Type 0 = λ z. AllFit z all in subst P (sym (snoc_append done x rest)) (g (Cons x rest) (fx, f))

pub filled : (done : Spellings) (all : List Symbol) → Fills done [] all → AllFit done all
filled done all g = let P : Spellings → Type 0 = λ z. AllFit z all in subst P (append_none done) (g Nil tt)

abbrev pub RowFits : Spellings → List Symbol → Type 0
RowFits row (Many n ∷ left) = (rest : Spellings) → ItemsFit rest n → ItemsFit (append row rest) n
RowFits row _ = row ≡ Nil

pub no_row : (left : List Symbol) → RowFits Nil left
no_row [] = refl
no_row (Tok k ∷ left) = refl
no_row (One n ∷ left) = refl
no_row (Many n ∷ left) = λ rest f. f
no_row (Maybe n ∷ left) = refl

-- what is open has these tokens
abbrev pub Holds : List Frame → List Token → Type 0
Holds [] ts = ts ≡ []
Holds (At p done row left ∷ s) ts = (us : List Token) × (ts ≡ us ++ (all_tokens done ++ all_tokens row)) × Holds s us × Fills done left (rhs p) × RowFits row left

abbrev pub IfHolds : Option (List Frame) → List Token → Type 0
IfHolds None ts = Unit {0}
IfHolds (Some s) ts = Holds s ts

-- a production with tokens vs behind us, at a token t
abbrev ProgressHolds : Progress → Production → List Token → List Token → Token → Type 0
ProgressHolds (Moved s) p us vs t = Holds s ((us ++ vs) ++ t ∷ [])
ProgressHolds (Finished kids) p us vs t = (all_tokens kids ≡ vs) × AllFit kids (rhs p)
ProgressHolds Stuck p us vs t = Unit {0}

moved_holds : (o : Option (List Frame)) (p : Production) (us vs : List Token) (t : Token) → IfHolds o ((us ++ vs) ++ t ∷ []) → ProgressHolds (moved o) p us vs t
moved_holds None p us vs t h = tt
moved_holds (Some s) p us vs t h = h

token_holds : (b : Bool) (k : Terminal) (p : Production) (done : Spellings) (t : Token) (left : List Symbol) (s : List Frame) (us vs : List Token) → takes k (class_of t) ≡ b → Holds s us → all_tokens done ≡ vs → Fills done (Tok k ∷ left) (rhs p) → IfHolds (at_token b p done t left s) ((us ++ vs) ++ t ∷ [])
token_holds false k p done t left s us vs h hs e g = tt
token_holds true k p done t left s us vs h hs e g =
    (us, append_assoc us vs (t ∷ []) ∙ ap (λ z. us ++ z) (ap (λ z. z ++ t ∷ []) (sym e) ∙ sym (tokens_snoc done (Leaf t)) ∙ sym (append-nil (all_tokens (snoc done (Leaf t))))), hs, more_fills done (Leaf t) (Tok k) left (rhs p) (takes_sound k (class_of t) h) g, no_row left)

first_holds : (ss : List Symbol) (p : Production) (t : Token) (s : List Frame) (ts : List Token) → rhs p ≡ ss → Holds s ts → IfHolds (first_token ss p t s) (ts ++ t ∷ [])
first_holds [] p t s ts e h = tt
first_holds (Tok k ∷ left) p t s ts e h =
    let P : List Token → Type 0 = λ z. IfHolds (at_token (takes k (class_of t)) p Nil t left s) (z ++ t ∷ []) in
    subst P (append-nil ts) (token_holds (takes k (class_of t)) k p Nil t left s ts [] refl h refl (let Q : List Symbol → Type 0 = λ z. Fills Nil z (rhs p) in subst Q e (λ rest f. f)))
first_holds (One n ∷ left) p t s ts e h = tt
first_holds (Many n ∷ left) p t s ts e h = tt
first_holds (Maybe n ∷ left) p t s ts e h = tt

enter_holds : (p : Production) (t : Token) (s : List Frame) (ts : List Token) → Holds s ts → IfHolds (enter p t s) (ts ++ t ∷ [])
unfolding enter
enter_holds p t s ts h = first_holds (rhs p) p t s ts refl h

choose_holds : (o : Option Production) (t : Token) (s : List Frame) (r : Progress) (p : Production) (us vs : List Token) → Holds s (us ++ vs) → ProgressHolds r p us vs t → ProgressHolds (choose o t s r) p us vs t
choose_holds None t s r p us vs h hr = hr
choose_holds (Some q) t s r p us vs h hr = moved_holds (enter q t s) p us vs t (enter_holds q t s (us ++ vs) h)

-- an open production whose parts have tokens vs
waits : (us vs : List Token) (done : Spellings) → all_tokens done ≡ vs → us ++ vs ≡ us ++ (all_tokens done ++ [])
waits us vs done e = ap (λ z. us ++ z) (sym e ∙ sym (append-nil (all_tokens done)))

no_part : (done : Spellings) (vs : List Token) → all_tokens done ≡ vs → all_tokens (snoc done (Row Nil)) ≡ vs
no_part done vs e = tokens_snoc done (Row Nil) ∙ append-nil (all_tokens done) ∙ e

begin_holds : (left : List Symbol) (t : Token) (p : Production) (done : Spellings) (s : List Frame) (us vs : List Token) → Holds s us → all_tokens done ≡ vs → Fills done left (rhs p) → ProgressHolds (begin t p done left s) p us vs t
begin_holds [] t p done s us vs h e g = (e, filled done (rhs p) g)
begin_holds (Tok k ∷ left) t p done s us vs h e g = moved_holds (at_token (takes k (class_of t)) p done t left s) p us vs t (token_holds (takes k (class_of t)) k p done t left s us vs refl h e g)
begin_holds (One n ∷ left) t p done s us vs h e g = choose_holds (opening n (class_of t)) t (At p done Nil (One n ∷ left) ∷ s) Stuck p us vs (us, waits us vs done e, h, g, refl) tt
begin_holds (Many n ∷ left) t p done s us vs h e g =
    choose_holds (opening n (class_of t)) t (At p done Nil (Many n ∷ left) ∷ s) (begin t p (snoc done (Row Nil)) left s) p us vs (us, waits us vs done e, h, g, λ rest f. f) (begin_holds left t p (snoc done (Row Nil)) s us vs h (no_part done vs e) (more_fills done (Row Nil) (Many n) left (rhs p) tt g))
begin_holds (Maybe n ∷ left) t p done s us vs h e g =
    choose_holds (opening n (class_of t)) t (At p done Nil (Maybe n ∷ left) ∷ s) (begin t p (snoc done (Row Nil)) left s) p us vs (us, waits us vs done e, h, g, refl) (begin_holds left t p (snoc done (Row Nil)) s us vs h (no_part done vs e) (more_fills done (Row Nil) (Maybe n) left (rhs p) tt g))

unfinished_holds : (r : Progress) (p q : Production) (us vs us' vs' : List Token) (t : Token) → us ++ vs ≡ us' ++ vs' → ProgressHolds r p us vs t → ProgressHolds (unfinished r) q us' vs' t
unfinished_holds (Moved s) p q us vs us' vs' t e h = let P : List Token → Type 0 = λ z. Holds s (z ++ t ∷ []) in subst P e h
unfinished_holds (Finished kids) p q us vs us' vs' t e h = tt
unfinished_holds Stuck p q us vs us' vs' t e h = tt

so_holds : (b : Bool) (r : Progress) (q : Production) (us vs : List Token) (t : Token) → (b ≡ true → ProgressHolds r q us vs t) → ProgressHolds (where_so b r) q us vs t
so_holds true r q us vs t h = h refl
so_holds false r q us vs t h = tt

pub is_true : (b : Bool) → b ≡ true → IsTrue b
is_true b e = e

-- a part was read: its production p, behind us
wraps_holds : (ss : List Symbol) (r : Production) (p : Production) (kids : Spellings) (t : Token) (s : List Frame) (q : Production) (us vs us' vs' : List Token) → rhs r ≡ ss → us ++ vs ≡ us' ++ vs' → Holds s us → all_tokens kids ≡ vs → AllFit kids (rhs p) → ProgressHolds (wraps ss r (category p kids) (Node p kids) t s) q us' vs' t
wraps_holds [] r p kids t s q us vs us' vs' er e h ek f = tt
wraps_holds (Tok k ∷ left) r p kids t s q us vs us' vs' er e h ek f = tt
wraps_holds (One m ∷ left) r p kids t s q us vs us' vs' er e h ek f =
    so_holds (accepts (category p kids) m) (unfinished (begin t r (Cons (Node p kids) Nil) left s)) q us' vs' t (λ b. unfinished_holds (begin t r (Cons (Node p kids) Nil) left s) r q us vs us' vs' t e (begin_holds left t r (Cons (Node p kids) Nil) s us vs h (append-nil (all_tokens kids) ∙ ek) (let Q : List Symbol → Type 0 = λ z. Fills (Cons (Node p kids) Nil) left z in subst Q (sym er) (λ rest g. ((is_true (accepts (category p kids) m) b, f), g)))))
wraps_holds (Many n ∷ left) r p kids t s q us vs us' vs' er e h ek f = tt
wraps_holds (Maybe n ∷ left) r p kids t s q us vs us' vs' er e h ek f = tt

wrapped_holds : (o : Option Production) (n : Part) (p : Production) (kids : Spellings) (t : Token) (s : List Frame) (r : Progress) (q : Production) (us vs us' vs' : List Token) → us ++ vs ≡ us' ++ vs' → Holds s us → all_tokens kids ≡ vs → AllFit kids (rhs p) → (Fits (Node p kids) (One n) → ProgressHolds r q us' vs' t) → ProgressHolds (wrapped o n (category p kids) (Node p kids) t s r) q us' vs' t
wrapped_holds (Some r') n p kids t s r q us vs us' vs' e h ek f g = wraps_holds (rhs r') r' p kids t s q us vs us' vs' refl e h ek f
wrapped_holds None n p kids t s r q us vs us' vs' e h ek f g = so_holds (accepts (category p kids) n) r q us' vs' t (λ b. g (is_true (accepts (category p kids) n) b, f))

-- the tokens of an open production and of a part behind it
part_tokens : (us ws ds vs : List Token) → us ≡ ws ++ ds → us ++ vs ≡ ws ++ (ds ++ vs)
part_tokens us ws ds vs e = ap (λ z. z ++ vs) e ∙ append_assoc ws ds vs

one_tokens : (done row : Spellings) (x : Spelling) (vs : List Token) → row ≡ Nil → tokens x ≡ vs → all_tokens (snoc done x) ≡ (all_tokens done ++ all_tokens row) ++ vs
one_tokens done row x vs e ex = tokens_snoc done x ∙ ap (λ z. all_tokens done ++ z) ex ∙ ap (λ z. z ++ vs) (sym (append-nil (all_tokens done)) ∙ ap (λ z. all_tokens done ++ all_tokens z) (sym e))

maybe_tokens : (x : Spelling) (vs : List Token) → tokens x ≡ vs → tokens (Row (Cons x Nil)) ≡ vs
maybe_tokens x vs e = append-nil (tokens x) ∙ e

row_tokens : (done row : Spellings) (x : Spelling) (vs : List Token) → tokens x ≡ vs → all_tokens (snoc done (Row (snoc row x))) ≡ (all_tokens done ++ all_tokens row) ++ vs
row_tokens done row x vs e = tokens_snoc done (Row (snoc row x)) ∙ ap (λ z. all_tokens done ++ z) (tokens_snoc row x ∙ ap (λ z. all_tokens row ++ z) e) ∙ sym (append_assoc (all_tokens done) (all_tokens row) vs)

pub more_items : (row : Spellings) (x : Spelling) (n : Part) → Fits x (One n) → ((rest : Spellings) → ItemsFit rest n → ItemsFit (append row rest) n) → (rest : Spellings) → ItemsFit rest n → ItemsFit (append (snoc row x) rest) n
more_items row x n fx g rest f = let P : Spellings → Type 0 = λ z. ItemsFit z n in subst P (sym (snoc_append row x rest)) (g (Cons x rest) (fx, f))

pub all_items : (row : Spellings) (n : Part) → ((rest : Spellings) → ItemsFit rest n → ItemsFit (append row rest) n) → ItemsFit row n
all_items row n g = let P : Spellings → Type 0 = λ z. ItemsFit z n in subst P (append_none row) (g Nil tt)

placed_holds : (left : List Symbol) (p : Production) (kids : Spellings) (t : Token) (q : Production) (done row : Spellings) (s : List Frame) (us vs ws : List Token) → us ≡ ws ++ (all_tokens done ++ all_tokens row) → Holds s ws → Fills done left (rhs q) → RowFits row left → all_tokens kids ≡ vs → AllFit kids (rhs p) → ProgressHolds (placed (category p kids) (Node p kids) t q done row left s) q ws ((all_tokens done ++ all_tokens row) ++ vs) t
placed_holds [] p kids t q done row s us vs ws e h g gr ek f = tt
placed_holds (Tok k ∷ left) p kids t q done row s us vs ws e h g gr ek f = tt
placed_holds (One n ∷ left) p kids t q done row s us vs ws e h g gr ek f =
    let ds : List Token = all_tokens done ++ all_tokens row in
    wrapped_holds (announced (category p kids) n (class_of t)) n p kids t (At q done row (One n ∷ left) ∷ s) (begin t q (snoc done (Node p kids)) left s) q us vs ws (ds ++ vs) (part_tokens us ws ds vs e) (ws, e, h, g, gr) ek f (λ fx. begin_holds left t q (snoc done (Node p kids)) s ws (ds ++ vs) h (one_tokens done row (Node p kids) vs gr ek) (more_fills done (Node p kids) (One n) left (rhs q) fx g))
placed_holds (Many n ∷ left) p kids t q done row s us vs ws e h g gr ek f =
    let ds : List Token = all_tokens done ++ all_tokens row in
    wrapped_holds (announced (category p kids) n (class_of t)) n p kids t (At q done row (Many n ∷ left) ∷ s) (choose (opening n (class_of t)) t (At q done (snoc row (Node p kids)) (Many n ∷ left) ∷ s) (begin t q (snoc done (Row (snoc row (Node p kids)))) left s)) q us vs ws (ds ++ vs) (part_tokens us ws ds vs e) (ws, e, h, g, gr) ek f (λ fx. choose_holds (opening n (class_of t)) t (At q done (snoc row (Node p kids)) (Many n ∷ left) ∷ s) (begin t q (snoc done (Row (snoc row (Node p kids)))) left s) q ws (ds ++ vs) (ws, ap (λ z. ws ++ z) (append_assoc (all_tokens done) (all_tokens row) vs ∙ ap (λ z. all_tokens done ++ z) (ap (λ z. all_tokens row ++ z) (sym ek) ∙ sym (tokens_snoc row (Node p kids)))), h, g, more_items row (Node p kids) n fx gr) (begin_holds left t q (snoc done (Row (snoc row (Node p kids)))) s ws (ds ++ vs) h (row_tokens done row (Node p kids) vs ek) (more_fills done (Row (snoc row (Node p kids))) (Many n) left (rhs q) (all_items (snoc row (Node p kids)) n (more_items row (Node p kids) n fx gr)) g)))
placed_holds (Maybe n ∷ left) p kids t q done row s us vs ws e h g gr ek f =
    let ds : List Token = all_tokens done ++ all_tokens row in
    wrapped_holds (announced (category p kids) n (class_of t)) n p kids t (At q done row (Maybe n ∷ left) ∷ s) (begin t q (snoc done (Row (Cons (Node p kids) Nil))) left s) q us vs ws (ds ++ vs) (part_tokens us ws ds vs e) (ws, e, h, g, gr) ek f (λ fx. begin_holds left t q (snoc done (Row (Cons (Node p kids) Nil))) s ws (ds ++ vs) h (one_tokens done row (Row (Cons (Node p kids) Nil)) vs gr (maybe_tokens (Node p kids) vs ek)) (more_fills done (Row (Cons (Node p kids) Nil)) (Maybe n) left (rhs q) fx g))

closed_holds : (r : Progress) (q : Production) (us vs : List Token) (t : Token) (f : Spellings → Option (List Frame)) → ProgressHolds r q us vs t → ((kids : Spellings) → all_tokens kids ≡ vs → AllFit kids (rhs q) → IfHolds (f kids) ((us ++ vs) ++ t ∷ [])) → IfHolds (closed r f) ((us ++ vs) ++ t ∷ [])
closed_holds (Moved s) q us vs t f h g = h
closed_holds (Finished kids) q us vs t f h g = g kids h.0 h.1
closed_holds Stuck q us vs t f h g = tt

give_holds : (s : List Frame) (p : Production) (kids : Spellings) (t : Token) (us vs : List Token) → Holds s us → all_tokens kids ≡ vs → AllFit kids (rhs p) → IfHolds (give p kids t s) ((us ++ vs) ++ t ∷ [])
give_holds [] p kids t us vs h e f = tt
give_holds (At q done row left ∷ s) p kids t us vs h e f =
    let ds : List Token = all_tokens done ++ all_tokens row in
    let P : List Token → Type 0 = λ z. IfHolds (give p kids t (At q done row left ∷ s)) (z ++ t ∷ []) in
    subst P (sym (part_tokens us h.0 ds vs h.1)) (closed_holds (placed (category p kids) (Node p kids) t q done row left s) q h.0 (ds ++ vs) t (λ all. give q all t s) (placed_holds left p kids t q done row s us vs h.0 h.1 h.2 h.3 h.4 e f) (λ all ea fa. give_holds s q all t h.0 (ds ++ vs) h.2 ea fa))

-- each token that is read belongs to what is open
pub steps : (s : List Frame) (t : Token) (ts : List Token) → Holds s ts → IfHolds (step s t) (ts ++ t ∷ [])
unfolding step
steps [] t ts h = tt
steps (At p done (Cons x xs) left ∷ s) t ts h = tt
steps (At p done Nil left ∷ s) t ts h =
    let P : List Token → Type 0 = λ z. IfHolds (closed (begin t p done left s) (λ all. give p all t s)) (z ++ t ∷ []) in
    subst P (sym (h.1 ∙ ap (λ z. h.0 ++ z) (append-nil (all_tokens done)))) (closed_holds (begin t p done left s) p h.0 (all_tokens done) t (λ all. give p all t s) (begin_holds left t p done s h.0 (all_tokens done) h.2 refl h.3) (λ all ea fa. give_holds s p all t h.0 (all_tokens done) h.2 ea fa))

pub runs : (ts us : List Token) (s : List Frame) → Holds s us → IfHolds (run ts s) (us ++ ts)
unfolding then_run
runs [] us s h = let P : List Token → Type 0 = λ z. Holds s z in subst P (sym (append-nil us)) h
runs (t ∷ ts) us s h = on (step s t) (steps s t us h) (λ s' h'. runs ts (us ++ t ∷ []) s' h')
  where
    on : (o : Option (List Frame)) → IfHolds o (us ++ t ∷ []) → ((s' : List Frame) → Holds s' (us ++ t ∷ []) → IfHolds (run ts s') ((us ++ t ∷ []) ++ ts)) → IfHolds (then_run o (run ts)) (us ++ (t ∷ ts))
    on None h go = tt
    on (Some s') h go = let P : List Token → Type 0 = λ z. IfHolds (run ts s') z in subst P (append_assoc us (t ∷ []) ts) (go s' h)

-- a whole text
whole_holds : (ts : List Token) (kids : Spellings) → run ts start ≡ Some (whole kids) → Holds (whole kids) ts
whole_holds ts kids e = let P : Option (List Frame) → Type 0 = λ o. IfHolds o ts in subst P e (runs ts [] start ([], refl, refl, (λ rest f. f), no_row (rhs Whole)))

pub whole_fits : (ts : List Token) (kids : Spellings) → run ts start ≡ Some (whole kids) → IsUnit kids
whole_fits ts kids e = filled kids (rhs Whole) (whole_holds ts kids e).3

pub whole_tokens : (ts : List Token) (kids : Spellings) → run ts start ≡ Some (whole kids) → ts ≡ all_tokens kids
whole_tokens ts kids e = let h = whole_holds ts kids e in h.1 ∙ ap (λ z. z ++ (all_tokens kids ++ [])) h.2 ∙ append-nil (all_tokens kids)

pub whole_spelled : (ts : List Token) (kids : Spellings) → run ts start ≡ Some (whole kids) → Spelt ts
whole_spelled ts kids e = record { kids = kids; fits = whole_fits ts kids e; tokens_are = whole_tokens ts kids e }
