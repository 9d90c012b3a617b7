-- Whatever is open can be brought to an end: where the machine stands, a text starts.
use Rattle.std.proofs.Common.{◌≡◌, List, [], ◌∷◌, ◌++◌, Option, Some, None, Bool, true, false, refl, sym, ap, ◌∙◌, subst, append_assoc, append-nil}
use Rattle.c_syntax.specs.declared.token.Token.{Token}
use Rattle.c_grammar.specs.Class.{class_of}
use Rattle.c_grammar.specs.Grammar.{Part, Symbol, Tok, One, Many, Maybe, Production, Whole, rhs}
use Rattle.c_grammar.specs.Spelling.{Spelling, Node, Row, Spellings, Nil, Cons, Category, category, accepts, tokens, all_tokens, AllFit, Spelt, Starts}
use Rattle.c_grammar.specs.Machine.{Frame, At, append, snoc, takes, opening, announced, Progress, Moved, Finished, Stuck, moved, at_token, first_token, enter, choose, begin, unfinished, where_so, wraps, wrapped, placed, closed, give, step, then_run, run, start}
use Rattle.c_grammar.proofs.Sound.{Fills, more_fills, no_row, Holds, runs, IfHolds, tokens_append, tokens_snoc, more_items, all_items}
use Rattle.c_grammar.proofs.Examples.{small_part, small_symbol, small, and_left, and_right, fill, fill_fits}
use Rattle.c_grammar.proofs.Useful.{Useful, rest_of, opening_useful, announced_useful}

-- a production is open where these places are left
abbrev Wanted : Production → List Symbol → Type 0
Wanted p [] = ⊥
Wanted p (Tok k ∷ left) = ⊥
Wanted p (One n ∷ left) = Useful n p
Wanted p (Many n ∷ left) = Useful n p
Wanted p (Maybe n ∷ left) = Useful n p

abbrev Within : Production → List Frame → Type 0
Within p [] = p ≡ Whole
Within p (At q done row left ∷ s) = Wanted p left

abbrev pub Alive : List Frame → Type 0
Alive [] = Unit {0}
Alive (At p done row left ∷ s) = (small left ≡ true) × Within p s × Alive s

abbrev pub IfAlive : Option (List Frame) → Type 0
IfAlive None = Unit {0}
IfAlive (Some s) = Alive s

abbrev ProgressAlive : Progress → Type 0
ProgressAlive (Moved s) = Alive s
ProgressAlive (Finished kids) = Unit {0}
ProgressAlive Stuck = Unit {0}

moved_alive : (o : Option (List Frame)) → IfAlive o → ProgressAlive (moved o)
moved_alive None a = tt
moved_alive (Some s) a = a

token_alive : (b : Bool) (p : Production) (done : Spellings) (t : Token) (left : List Symbol) (s : List Frame) → small left ≡ true → Within p s → Alive s → IfAlive (at_token b p done t left s)
token_alive true p done t left s m w a = (m, w, a)
token_alive false p done t left s m w a = tt

first_alive : (ss : List Symbol) (p : Production) (t : Token) (s : List Frame) → small (rest_of ss) ≡ true → Within p s → Alive s → IfAlive (first_token ss p t s)
first_alive [] p t s m w a = tt
first_alive (Tok k ∷ left) p t s m w a = token_alive (takes k (class_of t)) p Nil t left s m w a
first_alive (One n ∷ left) p t s m w a = tt
first_alive (Many n ∷ left) p t s m w a = tt
first_alive (Maybe n ∷ left) p t s m w a = tt

enter_alive : (p : Production) (t : Token) (s : List Frame) → small (rest_of (rhs p)) ≡ true → Within p s → Alive s → IfAlive (enter p t s)
unfolding enter
enter_alive p t s m w a = first_alive (rhs p) p t s m w a

choose_alive : (n : Part) → small_part n ≡ true → (t : Token) (o : Option Production) → opening n (class_of t) ≡ o → (s : List Frame) (r : Progress) → ((q : Production) → Useful n q → Within q s) → Alive s → ProgressAlive r → ProgressAlive (choose o t s r)
choose_alive n b t None e s r w a ar = ar
choose_alive n b t (Some q) e s r w a ar = let u = opening_useful n b (class_of t) q e in moved_alive (enter q t s) (enter_alive q t s u.is_small (w q u) a)

begin_alive : (left : List Symbol) (t : Token) (p : Production) (done : Spellings) (s : List Frame) → small left ≡ true → Within p s → Alive s → ProgressAlive (begin t p done left s)
begin_alive [] t p done s m w a = tt
begin_alive (Tok k ∷ left) t p done s m w a = moved_alive (at_token (takes k (class_of t)) p done t left s) (token_alive (takes k (class_of t)) p done t left s (and_right (small_symbol (Tok k)) (small left) m) w a)
begin_alive (One n ∷ left) t p done s m w a = choose_alive n (and_left (small_part n) (small left) m) t (opening n (class_of t)) refl (At p done Nil (One n ∷ left) ∷ s) Stuck (λ q u. u) (m, w, a) tt
begin_alive (Many n ∷ left) t p done s m w a =
    choose_alive n (and_left (small_part n) (small left) m) t (opening n (class_of t)) refl (At p done Nil (Many n ∷ left) ∷ s) (begin t p (snoc done (Row Nil)) left s) (λ q u. u) (m, w, a) (begin_alive left t p (snoc done (Row Nil)) s (and_right (small_part n) (small left) m) w a)
begin_alive (Maybe n ∷ left) t p done s m w a =
    choose_alive n (and_left (small_part n) (small left) m) t (opening n (class_of t)) refl (At p done Nil (Maybe n ∷ left) ∷ s) (begin t p (snoc done (Row Nil)) left s) (λ q u. u) (m, w, a) (begin_alive left t p (snoc done (Row Nil)) s (and_right (small_part n) (small left) m) w a)

unfinished_alive : (r : Progress) → ProgressAlive r → ProgressAlive (unfinished r)
unfinished_alive (Moved s) a = a
unfinished_alive (Finished kids) a = tt
unfinished_alive Stuck a = tt

so_alive : (b : Bool) (r : Progress) → ProgressAlive r → ProgressAlive (where_so b r)
so_alive true r a = a
so_alive false r a = tt

wraps_alive : (ss : List Symbol) (q : Production) (c : Category) (x : Spelling) (t : Token) (s : List Frame) → small (rest_of ss) ≡ true → Within q s → Alive s → ProgressAlive (wraps ss q c x t s)
wraps_alive [] q c x t s m w a = tt
wraps_alive (Tok k ∷ left) q c x t s m w a = tt
wraps_alive (One n ∷ left) q c x t s m w a = so_alive (accepts c n) (unfinished (begin t q (Cons x Nil) left s)) (unfinished_alive (begin t q (Cons x Nil) left s) (begin_alive left t q (Cons x Nil) s m w a))
wraps_alive (Many n ∷ left) q c x t s m w a = tt
wraps_alive (Maybe n ∷ left) q c x t s m w a = tt

wrapped_alive : (n : Part) (c : Category) (x : Spelling) (t : Token) (o : Option Production) → announced c n (class_of t) ≡ o → (s : List Frame) (r : Progress) → ((q : Production) → Useful n q → Within q s) → Alive s → ProgressAlive r → ProgressAlive (wrapped o n c x t s r)
wrapped_alive n c x t None e s r w a ar = so_alive (accepts c n) r ar
wrapped_alive n c x t (Some q) e s r w a ar = let u = announced_useful c n (class_of t) q e in wraps_alive (rhs q) q c x t s u.is_small (w q u) a

placed_alive : (left : List Symbol) (c : Category) (x : Spelling) (t : Token) (q : Production) (done row : Spellings) (s : List Frame) → small left ≡ true → Within q s → Alive s → ProgressAlive (placed c x t q done row left s)
placed_alive [] c x t q done row s m w a = tt
placed_alive (Tok k ∷ left) c x t q done row s m w a = tt
placed_alive (One n ∷ left) c x t q done row s m w a =
    wrapped_alive n c x t (announced c n (class_of t)) refl (At q done row (One n ∷ left) ∷ s) (begin t q (snoc done x) left s) (λ p u. u) (m, w, a) (begin_alive left t q (snoc done x) s (and_right (small_part n) (small left) m) w a)
placed_alive (Many n ∷ left) c x t q done row s m w a =
    wrapped_alive n c x t (announced c n (class_of t)) refl (At q done row (Many n ∷ left) ∷ s) (choose (opening n (class_of t)) t (At q done (snoc row x) (Many n ∷ left) ∷ s) (begin t q (snoc done (Row (snoc row x))) left s)) (λ p u. u) (m, w, a) (choose_alive n (and_left (small_part n) (small left) m) t (opening n (class_of t)) refl (At q done (snoc row x) (Many n ∷ left) ∷ s) (begin t q (snoc done (Row (snoc row x))) left s) (λ p u. u) (m, w, a) (begin_alive left t q (snoc done (Row (snoc row x))) s (and_right (small_part n) (small left) m) w a))
placed_alive (Maybe n ∷ left) c x t q done row s m w a =
    wrapped_alive n c x t (announced c n (class_of t)) refl (At q done row (Maybe n ∷ left) ∷ s) (begin t q (snoc done (Row (Cons x Nil))) left s) (λ p u. u) (m, w, a) (begin_alive left t q (snoc done (Row (Cons x Nil))) s (and_right (small_part n) (small left) m) w a)

closed_alive : (r : Progress) (f : Spellings → Option (List Frame)) → ProgressAlive r → ((kids : Spellings) → IfAlive (f kids)) → IfAlive (closed r f)
closed_alive (Moved s) f a g = a
closed_alive (Finished kids) f a g = g kids
closed_alive Stuck f a g = tt

give_alive : (s : List Frame) (p : Production) (kids : Spellings) (t : Token) → Alive s → IfAlive (give p kids t s)
give_alive [] p kids t a = tt
give_alive (At q done row left ∷ s) p kids t a = closed_alive (placed (category p kids) (Node p kids) t q done row left s) (λ all. give q all t s) (placed_alive left (category p kids) (Node p kids) t q done row s a.0 a.1 a.2) (λ all. give_alive s q all t a.2)

pub step_alive : (s : List Frame) (t : Token) → Alive s → IfAlive (step s t)
unfolding step
step_alive [] t a = tt
step_alive (At p done (Cons x xs) left ∷ s) t a = tt
step_alive (At p done Nil left ∷ s) t a = closed_alive (begin t p done left s) (λ all. give p all t s) (begin_alive left t p done s a.0 a.1 a.2) (λ all. give_alive s p all t a.2)

pub runs_alive : (ts : List Token) (s : List Frame) → Alive s → IfAlive (run ts s)
unfolding then_run
runs_alive [] s a = a
runs_alive (t ∷ ts) s a = on (step s t) (step_alive s t a) (λ s' a'. runs_alive ts s' a')
  where
    on : (o : Option (List Frame)) → IfAlive o → ((s' : List Frame) → Alive s' → IfAlive (run ts s')) → IfAlive (then_run o (run ts))
    on None a go = tt
    on (Some s') a go = go s' a

starts_front : (ts us : List Token) → Starts (ts ++ us) → Starts ts
starts_front ts us s = record { rest = us ++ s.rest; spelt = subst Spelt (append_assoc ts us s.rest) s.spelt }

one_regroup : (ws ds tk more fs : List Token) → ws ++ ((ds ++ (tk ++ more)) ++ fs) ≡ ((ws ++ (ds ++ [])) ++ tk) ++ (more ++ fs)
one_regroup ws ds tk more fs = simp (append_assoc, append-nil) refl

many_regroup : (ws ds rs tk more fs : List Token) → ws ++ ((ds ++ (rs ++ (tk ++ more))) ++ fs) ≡ ((ws ++ (ds ++ rs)) ++ tk) ++ (more ++ fs)
many_regroup ws ds rs tk more fs = simp append_assoc refl

-- the tokens of a production whose places are filled behind a part
filled_tokens : (done : Spellings) (x : Spelling) (left : List Symbol) (xs : List Token) → tokens x ≡ xs → all_tokens (append (snoc done x) (fill left)) ≡ (all_tokens done ++ xs) ++ all_tokens (fill left)
filled_tokens done x left xs e = tokens_append (snoc done x) (fill left) ∙ ap (λ z. z ++ all_tokens (fill left)) (tokens_snoc done x ∙ ap (λ z. all_tokens done ++ z) e)

finish_give : (s : List Frame) (p : Production) (kids : Spellings) (us : List Token) → Holds s us → Within p s → Alive s → AllFit kids (rhs p) → Starts (us ++ all_tokens kids)
finish_give [] p kids us h w a f =
    record { rest = []; spelt = record { kids = kids; fits = subst (λ z. AllFit kids (rhs z)) w f; tokens_are = append-nil (us ++ all_tokens kids) ∙ ap (λ z. z ++ all_tokens kids) h } }
finish_give (At q done row [] ∷ s) p kids us h w a f = absurd w
finish_give (At q done row (Tok k ∷ left) ∷ s) p kids us h w a f = absurd w
finish_give (At q done row (One n ∷ left) ∷ s) p kids us h w a f =
    let l = w.lifts kids f in
    let next = finish_give s q (append (snoc done l.y) (fill left)) h.0 h.2 a.1 a.2 (more_fills done l.y (One n) left (rhs q) l.fits h.3 (fill left) (fill_fits left (and_right (small_part n) (small left) a.0))) in
    starts_front (us ++ all_tokens kids) (l.more ++ all_tokens (fill left)) (subst Starts (ap (λ z. h.0 ++ z) (filled_tokens done l.y left (all_tokens kids ++ l.more) l.tokens_are) ∙ one_regroup h.0 (all_tokens done) (all_tokens kids) l.more (all_tokens (fill left)) ∙ ap (λ z. ((h.0 ++ (all_tokens done ++ all_tokens z)) ++ all_tokens kids) ++ (l.more ++ all_tokens (fill left))) (sym h.4) ∙ ap (λ z. (z ++ all_tokens kids) ++ (l.more ++ all_tokens (fill left))) (sym h.1)) next)
finish_give (At q done row (Many n ∷ left) ∷ s) p kids us h w a f =
    let l = w.lifts kids f in
    let next = finish_give s q (append (snoc done (Row (snoc row l.y))) (fill left)) h.0 h.2 a.1 a.2 (more_fills done (Row (snoc row l.y)) (Many n) left (rhs q) (all_items (snoc row l.y) n (more_items row l.y n l.fits h.4)) h.3 (fill left) (fill_fits left (and_right (small_part n) (small left) a.0))) in
    starts_front (us ++ all_tokens kids) (l.more ++ all_tokens (fill left)) (subst Starts (ap (λ z. h.0 ++ z) (filled_tokens done (Row (snoc row l.y)) left (all_tokens row ++ (all_tokens kids ++ l.more)) (tokens_snoc row l.y ∙ ap (λ z. all_tokens row ++ z) l.tokens_are)) ∙ many_regroup h.0 (all_tokens done) (all_tokens row) (all_tokens kids) l.more (all_tokens (fill left)) ∙ ap (λ z. (z ++ all_tokens kids) ++ (l.more ++ all_tokens (fill left))) (sym h.1)) next)
finish_give (At q done row (Maybe n ∷ left) ∷ s) p kids us h w a f =
    let l = w.lifts kids f in
    let next = finish_give s q (append (snoc done (Row (Cons l.y Nil))) (fill left)) h.0 h.2 a.1 a.2 (more_fills done (Row (Cons l.y Nil)) (Maybe n) left (rhs q) l.fits h.3 (fill left) (fill_fits left (and_right (small_part n) (small left) a.0))) in
    starts_front (us ++ all_tokens kids) (l.more ++ all_tokens (fill left)) (subst Starts (ap (λ z. h.0 ++ z) (filled_tokens done (Row (Cons l.y Nil)) left (all_tokens kids ++ l.more) (append-nil (tokens l.y) ∙ l.tokens_are)) ∙ one_regroup h.0 (all_tokens done) (all_tokens kids) l.more (all_tokens (fill left)) ∙ ap (λ z. ((h.0 ++ (all_tokens done ++ all_tokens z)) ++ all_tokens kids) ++ (l.more ++ all_tokens (fill left))) (sym h.4) ∙ ap (λ z. (z ++ all_tokens kids) ++ (l.more ++ all_tokens (fill left))) (sym h.1)) next)

-- what stands on top, at a token's end
finish_top : (p : Production) (done : Spellings) (left : List Symbol) (s : List Frame) (ts us : List Token) → ts ≡ us ++ (all_tokens done ++ []) → Holds s us → Fills done left (rhs p) → small left ≡ true → Within p s → Alive s → Starts ts
finish_top p done left s ts us e h g m w a =
    starts_front ts (all_tokens (fill left)) (subst Starts (ap (λ z. us ++ z) (tokens_append done (fill left)) ∙ sym (append_assoc us (all_tokens done) (all_tokens (fill left))) ∙ ap (λ z. z ++ all_tokens (fill left)) (ap (λ z. us ++ z) (sym (append-nil (all_tokens done))) ∙ sym e)) (finish_give s p (append done (fill left)) us h w a (g (fill left) (fill_fits left m))))

no_items : (p : Production) (done row : Spellings) (left : List Symbol) (s : List Frame) (ts us : List Token) → row ≡ Nil → ts ≡ us ++ (all_tokens done ++ all_tokens row) → Holds s us → Fills done left (rhs p) → small left ≡ true → Within p s → Alive s → Starts ts
no_items p done row left s ts us er e h g m w a = finish_top p done left s ts us (e ∙ ap (λ z. us ++ (all_tokens done ++ all_tokens z)) er) h g m w a

finish : (s : List Frame) (ts : List Token) → Holds s ts → Alive s → Starts ts
unfolding rhs
finish [] ts h a =
    record { rest = all_tokens (fill (rhs Whole)); spelt = record { kids = fill (rhs Whole); fits = fill_fits (rhs Whole) refl; tokens_are = ap (λ z. z ++ all_tokens (fill (rhs Whole))) h } }
finish (At p done row [] ∷ s) ts h a = no_items p done row [] s ts h.0 h.4 h.1 h.2 h.3 a.0 a.1 a.2
finish (At p done row (Tok k ∷ left) ∷ s) ts h a = no_items p done row (Tok k ∷ left) s ts h.0 h.4 h.1 h.2 h.3 a.0 a.1 a.2
finish (At p done row (One n ∷ left) ∷ s) ts h a = no_items p done row (One n ∷ left) s ts h.0 h.4 h.1 h.2 h.3 a.0 a.1 a.2
finish (At p done row (Many n ∷ left) ∷ s) ts h a =
    finish_top p (snoc done (Row row)) left s ts h.0 (h.1 ∙ ap (λ z. h.0 ++ z) (sym (tokens_snoc done (Row row)) ∙ sym (append-nil (all_tokens (snoc done (Row row)))))) h.2 (more_fills done (Row row) (Many n) left (rhs p) (all_items row n h.4) h.3) (and_right (small_part n) (small left) a.0) a.1 a.2
finish (At p done row (Maybe n ∷ left) ∷ s) ts h a = no_items p done row (Maybe n ∷ left) s ts h.0 h.4 h.1 h.2 h.3 a.0 a.1 a.2

start_alive : Alive start
unfolding rhs
start_alive = (refl, refl, tt)

-- where the machine stands, a text starts
pub starts : (ts : List Token) (s : List Frame) → run ts start ≡ Some s → Starts ts
starts ts s e =
    let P : Option (List Frame) → Type 0 = λ o. IfHolds o ts in
    let Q : Option (List Frame) → Type 0 = λ o. IfAlive o in
    finish s ts (subst P e (runs ts [] start ([], refl, refl, (λ rest f. f), no_row (rhs Whole)))) (subst Q e (runs_alive ts start start_alive))
