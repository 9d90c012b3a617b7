-- The machine knows the nesting at each token that it reads.
use Rattle.std.proofs.Common.{◌≡◌, ℕ, List, [], ◌∷◌, ◌++◌, Option, Some, None, Bool, true, false, refl, sym, ap, ◌∙◌, subst, append_assoc, append-nil}
use Rattle.c_syntax.specs.declared.token.Token.{Token}
use Rattle.c_grammar.specs.Class.{class_of}
use Rattle.c_grammar.specs.Grammar.{Piece, NextArgument, FunctionPart, Pointer, Qualifier, SecondWord, Members, NextMember, AnyLength, FullLength, NextParam, ParamLengths, NamePart, Initial, NextInit, Part, Symbol, Tok, One, Many, Maybe, Production, ExprInside, TypeInside, Suffix, Member, Index, Call, Arguments, Binary, Assign, Cond, CommaExpr, Cast, MemberP, Params, Declaration, ValueComma, NextValue, Braces, ExprStatement, IfElse, DeclaredP, Function, Objects, PieceP, StructSpec, Whole, piece_rhs, rhs}
use Rattle.c_grammar.specs.Spelling.{Spelling, Leaf, Node, Row, Spellings, Nil, Cons, category, accepts}
use Rattle.c_grammar.specs.Machine.{Frame, At, snoc, takes, opening, announced, Progress, Moved, Finished, Stuck, moved, at_token, first_token, enter, choose, begin, unfinished, where_so, wraps, wrapped, placed, closed, give, step, then_run, run, start, whole}
use Rattle.c_grammar.specs.Nesting.{Context, Walk, walk, past, place, past_item, total, depths, kids_depths, row_depths, unit_depths}
use Rattle.c_grammar.specs.Depths.{past_all, past_items, context, last_depth, top_depth, then_depths, read_depths}

kids_snoc : (xs : Spellings) (w : Walk) (x : Spelling) → kids_depths w (snoc xs x) ≡ kids_depths w xs ++ depths (place (past_all w xs)) x
kids_snoc Nil w x = append-nil (depths (place w) x)
kids_snoc (Cons y ys) w x = ap (λ z. depths (place w) y ++ z) (kids_snoc ys (past w y) x) ∙ sym (append_assoc (depths (place w) y) (kids_depths (past w y) ys) (depths (place (past_all (past w y) ys)) x))

row_snoc : (xs : Spellings) (c : Context) (x : Spelling) → row_depths c (snoc xs x) ≡ row_depths c xs ++ depths (past_items c xs) x
row_snoc Nil c x = append-nil (depths c x)
row_snoc (Cons y ys) c x = ap (λ z. depths c y ++ z) (row_snoc ys (past_item c y) x) ∙ sym (append_assoc (depths c y) (row_depths (past_item c y) ys) (depths (past_items (past_item c y) ys) x))

last_snoc : (xs : Spellings) (w : Walk) (x : Spelling) → last_depth w (snoc xs x) ≡ total (place (past_all w xs))
last_snoc Nil w x = refl
last_snoc (Cons y Nil) w x = refl
last_snoc (Cons y (Cons z zs)) w x = last_snoc (Cons z zs) (past w y) x

abbrev RowOk : Spellings → List Symbol → Type 0
RowOk row (Many n ∷ left) = Unit {0}
RowOk row _ = row ≡ Nil

no_row : (left : List Symbol) → RowOk Nil left
no_row [] = refl
no_row (Tok k ∷ left) = refl
no_row (One n ∷ left) = refl
no_row (Many n ∷ left) = tt
no_row (Maybe n ∷ left) = refl

-- the nesting at the tokens of what is open
abbrev Logs : List Frame → List ℕ → Type 0
Logs [] ls = ls ≡ []
Logs (At p done row left ∷ s) ls = (us : List ℕ) × (ls ≡ us ++ (kids_depths (walk p (context s)) done ++ row_depths (place (past_all (walk p (context s)) done)) row)) × Logs s us × RowOk row left

-- with that at the token just read
abbrev IfLogs : Option (List Frame) → List ℕ → Type 0
IfLogs None ls = Unit {0}
IfLogs (Some s) ls = Logs s (ls ++ top_depth s ∷ [])

abbrev ProgressLogs : Progress → Production → Context → List ℕ → List ℕ → Type 0
ProgressLogs (Moved s) p c us vs = Logs s ((us ++ vs) ++ top_depth s ∷ [])
ProgressLogs (Finished kids) p c us vs = kids_depths (walk p c) kids ≡ vs
ProgressLogs Stuck p c us vs = Unit {0}

moved_logs : (o : Option (List Frame)) (p : Production) (c : Context) (us vs : List ℕ) → IfLogs o (us ++ vs) → ProgressLogs (moved o) p c us vs
moved_logs None p c us vs h = tt
moved_logs (Some s) p c us vs h = h

-- one token more
one_more : (us ds : List ℕ) (w : Walk) (done : Spellings) (t : Token) → kids_depths w done ≡ ds → (us ++ ds) ++ last_depth w (snoc done (Leaf t)) ∷ [] ≡ us ++ (kids_depths w (snoc done (Leaf t)) ++ [])
one_more us ds w done t e =
    append_assoc us ds (last_depth w (snoc done (Leaf t)) ∷ []) ∙ ap (λ z. us ++ z) (ap (λ z. ds ++ z ∷ []) (last_snoc done w (Leaf t)) ∙ ap (λ z. z ++ total (place (past_all w done)) ∷ []) (sym e) ∙ sym (kids_snoc done w (Leaf t)) ∙ sym (append-nil (kids_depths w (snoc done (Leaf t)))))

token_logs : (b : Bool) (p : Production) (done : Spellings) (t : Token) (left : List Symbol) (s : List Frame) (us vs : List ℕ) → Logs s us → kids_depths (walk p (context s)) done ≡ vs → IfLogs (at_token b p done t left s) (us ++ vs)
token_logs false p done t left s us vs h e = tt
token_logs true p done t left s us vs h e = (us, one_more us vs (walk p (context s)) done t e, h, no_row left)

first_logs : (ss : List Symbol) (p : Production) (t : Token) (s : List Frame) (ls : List ℕ) → Logs s ls → IfLogs (first_token ss p t s) ls
first_logs [] p t s ls h = tt
first_logs (Tok k ∷ left) p t s ls h = let P : List ℕ → Type 0 = λ z. IfLogs (at_token (takes k (class_of t)) p Nil t left s) z in subst P (append-nil ls) (token_logs (takes k (class_of t)) p Nil t left s ls [] h refl)
first_logs (One n ∷ left) p t s ls h = tt
first_logs (Many n ∷ left) p t s ls h = tt
first_logs (Maybe n ∷ left) p t s ls h = tt

enter_logs : (p : Production) (t : Token) (s : List Frame) (ls : List ℕ) → Logs s ls → IfLogs (enter p t s) ls
unfolding enter
enter_logs p t s ls h = first_logs (rhs p) p t s ls h

choose_logs : (o : Option Production) (t : Token) (s : List Frame) (r : Progress) (p : Production) (c : Context) (us vs : List ℕ) → Logs s (us ++ vs) → ProgressLogs r p c us vs → ProgressLogs (choose o t s r) p c us vs
choose_logs None t s r p c us vs h hr = hr
choose_logs (Some q) t s r p c us vs h hr = moved_logs (enter q t s) p c us vs (enter_logs q t s (us ++ vs) h)

waits : (us vs : List ℕ) (w : Walk) (done : Spellings) → kids_depths w done ≡ vs → us ++ vs ≡ us ++ (kids_depths w done ++ [])
waits us vs w done e = ap (λ z. us ++ z) (sym e ∙ sym (append-nil (kids_depths w done)))

no_part : (done : Spellings) (w : Walk) (vs : List ℕ) → kids_depths w done ≡ vs → kids_depths w (snoc done (Row Nil)) ≡ vs
no_part done w vs e = kids_snoc done w (Row Nil) ∙ append-nil (kids_depths w done) ∙ e

begin_logs : (left : List Symbol) (t : Token) (p : Production) (done : Spellings) (s : List Frame) (us vs : List ℕ) → Logs s us → kids_depths (walk p (context s)) done ≡ vs → ProgressLogs (begin t p done left s) p (context s) us vs
begin_logs [] t p done s us vs h e = e
begin_logs (Tok k ∷ left) t p done s us vs h e = moved_logs (at_token (takes k (class_of t)) p done t left s) p (context s) us vs (token_logs (takes k (class_of t)) p done t left s us vs h e)
begin_logs (One n ∷ left) t p done s us vs h e = choose_logs (opening n (class_of t)) t (At p done Nil (One n ∷ left) ∷ s) Stuck p (context s) us vs (us, waits us vs (walk p (context s)) done e, h, refl) tt
begin_logs (Many n ∷ left) t p done s us vs h e =
    choose_logs (opening n (class_of t)) t (At p done Nil (Many n ∷ left) ∷ s) (begin t p (snoc done (Row Nil)) left s) p (context s) us vs (us, waits us vs (walk p (context s)) done e, h, tt) (begin_logs left t p (snoc done (Row Nil)) s us vs h (no_part done (walk p (context s)) vs e))
begin_logs (Maybe n ∷ left) t p done s us vs h e =
    choose_logs (opening n (class_of t)) t (At p done Nil (Maybe n ∷ left) ∷ s) (begin t p (snoc done (Row Nil)) left s) p (context s) us vs (us, waits us vs (walk p (context s)) done e, h, refl) (begin_logs left t p (snoc done (Row Nil)) s us vs h (no_part done (walk p (context s)) vs e))

unfinished_logs : (r : Progress) (p q : Production) (c d : Context) (us vs us' vs' : List ℕ) → us ++ vs ≡ us' ++ vs' → ProgressLogs r p c us vs → ProgressLogs (unfinished r) q d us' vs'
unfinished_logs (Moved s) p q c d us vs us' vs' e h = let P : List ℕ → Type 0 = λ z. Logs s (z ++ top_depth s ∷ []) in subst P e h
unfinished_logs (Finished kids) p q c d us vs us' vs' e h = tt
unfinished_logs Stuck p q c d us vs us' vs' e h = tt

so_logs : (b : Bool) (r : Progress) (q : Production) (c : Context) (us vs : List ℕ) → ProgressLogs r q c us vs → ProgressLogs (where_so b r) q c us vs
so_logs true r q c us vs h = h
so_logs false r q c us vs h = tt

abbrev InPart : List Symbol → Type 0
InPart (One n ∷ ss) = Unit {0}
InPart _ = ⊥

-- the part that a production begins with stands where the production stands
same_place : (q : Production) → InPart (rhs q) → (c : Context) → place (walk q c) ≡ c
unfolding rhs
same_place ExprInside i c = refl
same_place TypeInside i c = refl
same_place Suffix i c = refl
same_place Member i c = refl
same_place Index i c = refl
same_place Call i c = refl
same_place Arguments i c = refl
same_place (Binary l) i c = refl
same_place Assign i c = refl
same_place Cond i c = refl
same_place CommaExpr i c = refl
same_place Cast i c = refl
same_place MemberP i c = refl
same_place Params i c = refl
same_place Declaration i c = refl
same_place ValueComma i c = refl
same_place NextValue i c = refl
same_place Braces i c = refl
same_place ExprStatement i c = refl
same_place IfElse i c = refl
same_place DeclaredP i c = refl
same_place Function i c = refl
same_place Objects i c = refl
same_place (PieceP k) i c = absurd (no_part_first k i)
  where
    no_part_first : (k : Piece) → InPart (piece_rhs k) → ⊥
    no_part_first NextArgument i = i
    no_part_first FunctionPart i = i
    no_part_first Pointer i = i
    no_part_first Qualifier i = i
    no_part_first SecondWord i = i
    no_part_first Members i = i
    no_part_first NextMember i = i
    no_part_first AnyLength i = i
    no_part_first FullLength i = i
    no_part_first NextParam i = i
    no_part_first ParamLengths i = i
    no_part_first NamePart i = i
    no_part_first Initial i = i
    no_part_first NextInit i = i
same_place (StructSpec true) i c = absurd i
same_place (StructSpec false) i c = absurd i
same_place _ i c = absurd i

wraps_logs : (ss : List Symbol) (r : Production) (p : Production) (kids : Spellings) (t : Token) (s : List Frame) (q : Production) (c : Context) (us vs us' vs' : List ℕ) → rhs r ≡ ss → us ++ vs ≡ us' ++ vs' → Logs s us → depths (context s) (Node p kids) ≡ vs → ProgressLogs (wraps ss r (category p kids) (Node p kids) t s) q c us' vs'
wraps_logs [] r p kids t s q c us vs us' vs' er e h ek = tt
wraps_logs (Tok k ∷ left) r p kids t s q c us vs us' vs' er e h ek = tt
wraps_logs (One m ∷ left) r p kids t s q c us vs us' vs' er e h ek =
    so_logs (accepts (category p kids) m) (unfinished (begin t r (Cons (Node p kids) Nil) left s)) q c us' vs' (unfinished_logs (begin t r (Cons (Node p kids) Nil) left s) r q (context s) c us vs us' vs' e (begin_logs left t r (Cons (Node p kids) Nil) s us vs h (append-nil (depths (place (walk r (context s))) (Node p kids)) ∙ ap (λ z. depths z (Node p kids)) (same_place r (let P : List Symbol → Type 0 = λ z. InPart z in subst P (sym er) tt) (context s)) ∙ ek)))
wraps_logs (Many n ∷ left) r p kids t s q c us vs us' vs' er e h ek = tt
wraps_logs (Maybe n ∷ left) r p kids t s q c us vs us' vs' er e h ek = tt

wrapped_logs : (o : Option Production) (n : Part) (p : Production) (kids : Spellings) (t : Token) (s : List Frame) (r : Progress) (q : Production) (c : Context) (us vs us' vs' : List ℕ) → us ++ vs ≡ us' ++ vs' → Logs s us → depths (context s) (Node p kids) ≡ vs → ProgressLogs r q c us' vs' → ProgressLogs (wrapped o n (category p kids) (Node p kids) t s r) q c us' vs'
wrapped_logs (Some r') n p kids t s r q c us vs us' vs' e h ek g = wraps_logs (rhs r') r' p kids t s q c us vs us' vs' refl e h ek
wrapped_logs None n p kids t s r q c us vs us' vs' e h ek g = so_logs (accepts (category p kids) n) r q c us' vs' g

part_logs : (us ws ds vs : List ℕ) → us ≡ ws ++ ds → us ++ vs ≡ ws ++ (ds ++ vs)
part_logs us ws ds vs e = ap (λ z. z ++ vs) e ∙ append_assoc ws ds vs

-- the depths of a part at its place, and of the parts before it
placed_one : (w : Walk) (done row : Spellings) (x : Spelling) (vs : List ℕ) → row ≡ Nil → depths (past_items (place (past_all w done)) row) x ≡ vs → kids_depths w (snoc done x) ≡ (kids_depths w done ++ row_depths (place (past_all w done)) row) ++ vs
placed_one w done row x vs e ek =
    kids_snoc done w x ∙ ap (λ z. kids_depths w done ++ z) (ap (λ z. depths (past_items (place (past_all w done)) z) x) (sym e) ∙ ek) ∙ ap (λ z. z ++ vs) (sym (append-nil (kids_depths w done)) ∙ ap (λ z. kids_depths w done ++ row_depths (place (past_all w done)) z) (sym e))

maybe_depths : (c : Context) (x : Spelling) → depths c (Row (Cons x Nil)) ≡ depths c x
maybe_depths c x = append-nil (depths c x)

placed_many : (w : Walk) (done row : Spellings) (x : Spelling) (vs : List ℕ) → depths (past_items (place (past_all w done)) row) x ≡ vs → kids_depths w (snoc done (Row (snoc row x))) ≡ (kids_depths w done ++ row_depths (place (past_all w done)) row) ++ vs
placed_many w done row x vs ek =
    kids_snoc done w (Row (snoc row x)) ∙ ap (λ z. kids_depths w done ++ z) (row_snoc row (place (past_all w done)) x ∙ ap (λ z. row_depths (place (past_all w done)) row ++ z) ek) ∙ sym (append_assoc (kids_depths w done) (row_depths (place (past_all w done)) row) vs)

more_items : (w : Walk) (done row : Spellings) (x : Spelling) (ws vs : List ℕ) → depths (past_items (place (past_all w done)) row) x ≡ vs → ws ++ ((kids_depths w done ++ row_depths (place (past_all w done)) row) ++ vs) ≡ ws ++ (kids_depths w done ++ row_depths (place (past_all w done)) (snoc row x))
more_items w done row x ws vs ek =
    ap (λ z. ws ++ z) (append_assoc (kids_depths w done) (row_depths (place (past_all w done)) row) vs ∙ ap (λ z. kids_depths w done ++ z) (ap (λ z. row_depths (place (past_all w done)) row ++ z) (sym ek) ∙ sym (row_snoc row (place (past_all w done)) x)))

placed_logs : (left : List Symbol) (p : Production) (kids : Spellings) (t : Token) (q : Production) (done row : Spellings) (s : List Frame) (us vs ws : List ℕ) → us ≡ ws ++ (kids_depths (walk q (context s)) done ++ row_depths (place (past_all (walk q (context s)) done)) row) → Logs s ws → RowOk row left → depths (context (At q done row left ∷ s)) (Node p kids) ≡ vs → ProgressLogs (placed (category p kids) (Node p kids) t q done row left s) q (context s) ws ((kids_depths (walk q (context s)) done ++ row_depths (place (past_all (walk q (context s)) done)) row) ++ vs)
placed_logs [] p kids t q done row s us vs ws e h gr ek = tt
placed_logs (Tok k ∷ left) p kids t q done row s us vs ws e h gr ek = tt
placed_logs (One n ∷ left) p kids t q done row s us vs ws e h gr ek =
    let w : Walk = walk q (context s) in
    let ds : List ℕ = kids_depths w done ++ row_depths (place (past_all w done)) row in
    wrapped_logs (announced (category p kids) n (class_of t)) n p kids t (At q done row (One n ∷ left) ∷ s) (begin t q (snoc done (Node p kids)) left s) q (context s) us vs ws (ds ++ vs) (part_logs us ws ds vs e) (ws, e, h, gr) ek (begin_logs left t q (snoc done (Node p kids)) s ws (ds ++ vs) h (placed_one w done row (Node p kids) vs gr ek))
placed_logs (Many n ∷ left) p kids t q done row s us vs ws e h gr ek =
    let w : Walk = walk q (context s) in
    let ds : List ℕ = kids_depths w done ++ row_depths (place (past_all w done)) row in
    wrapped_logs (announced (category p kids) n (class_of t)) n p kids t (At q done row (Many n ∷ left) ∷ s) (choose (opening n (class_of t)) t (At q done (snoc row (Node p kids)) (Many n ∷ left) ∷ s) (begin t q (snoc done (Row (snoc row (Node p kids)))) left s)) q (context s) us vs ws (ds ++ vs) (part_logs us ws ds vs e) (ws, e, h, gr) ek (choose_logs (opening n (class_of t)) t (At q done (snoc row (Node p kids)) (Many n ∷ left) ∷ s) (begin t q (snoc done (Row (snoc row (Node p kids)))) left s) q (context s) ws (ds ++ vs) (ws, more_items w done row (Node p kids) ws vs ek, h, tt) (begin_logs left t q (snoc done (Row (snoc row (Node p kids)))) s ws (ds ++ vs) h (placed_many w done row (Node p kids) vs ek)))
placed_logs (Maybe n ∷ left) p kids t q done row s us vs ws e h gr ek =
    let w : Walk = walk q (context s) in
    let ds : List ℕ = kids_depths w done ++ row_depths (place (past_all w done)) row in
    wrapped_logs (announced (category p kids) n (class_of t)) n p kids t (At q done row (Maybe n ∷ left) ∷ s) (begin t q (snoc done (Row (Cons (Node p kids) Nil))) left s) q (context s) us vs ws (ds ++ vs) (part_logs us ws ds vs e) (ws, e, h, gr) ek (begin_logs left t q (snoc done (Row (Cons (Node p kids) Nil))) s ws (ds ++ vs) h (placed_one w done row (Row (Cons (Node p kids) Nil)) vs gr (maybe_depths (past_items (place (past_all w done)) row) (Node p kids) ∙ ek)))

closed_logs : (r : Progress) (q : Production) (c : Context) (us vs : List ℕ) (f : Spellings → Option (List Frame)) → ProgressLogs r q c us vs → ((kids : Spellings) → kids_depths (walk q c) kids ≡ vs → IfLogs (f kids) (us ++ vs)) → IfLogs (closed r f) (us ++ vs)
closed_logs (Moved s) q c us vs f h g = h
closed_logs (Finished kids) q c us vs f h g = g kids h
closed_logs Stuck q c us vs f h g = tt

give_logs : (s : List Frame) (p : Production) (kids : Spellings) (t : Token) (us vs : List ℕ) → Logs s us → kids_depths (walk p (context s)) kids ≡ vs → IfLogs (give p kids t s) (us ++ vs)
give_logs [] p kids t us vs h e = tt
give_logs (At q done row left ∷ s) p kids t us vs h e =
    let w : Walk = walk q (context s) in
    let ds : List ℕ = kids_depths w done ++ row_depths (place (past_all w done)) row in
    let P : List ℕ → Type 0 = λ z. IfLogs (give p kids t (At q done row left ∷ s)) z in
    subst P (sym (part_logs us h.0 ds vs h.1)) (closed_logs (placed (category p kids) (Node p kids) t q done row left s) q (context s) h.0 (ds ++ vs) (λ all. give q all t s) (placed_logs left p kids t q done row s us vs h.0 h.1 h.2 h.3 e) (λ all ea. give_logs s q all t h.0 (ds ++ vs) h.2 ea))

step_logs : (s : List Frame) (t : Token) (ls : List ℕ) → Logs s ls → IfLogs (step s t) ls
unfolding step
step_logs [] t ls h = tt
step_logs (At p done (Cons x xs) left ∷ s) t ls h = tt
step_logs (At p done Nil left ∷ s) t ls h =
    let w : Walk = walk p (context s) in
    let P : List ℕ → Type 0 = λ z. IfLogs (closed (begin t p done left s) (λ all. give p all t s)) z in
    subst P (sym (h.1 ∙ ap (λ z. h.0 ++ z) (append-nil (kids_depths w done)))) (closed_logs (begin t p done left s) p (context s) h.0 (kids_depths w done) (λ all. give p all t s) (begin_logs left t p done s h.0 (kids_depths w done) h.2 refl) (λ all ea. give_logs s p all t h.0 (kids_depths w done) h.2 ea))

-- where the run leads, the depths that were read are those of what is open
LogsAfter : Option (List Frame) → List ℕ → Type 0
LogsAfter None ls = Unit {0}
LogsAfter (Some s) ls = Logs s ls

runs_log : (ts : List Token) (s : List Frame) (ls : List ℕ) → Logs s ls → LogsAfter (run ts s) (ls ++ read_depths ts s)
unfolding then_run then_depths LogsAfter
runs_log [] s ls h = let P : List ℕ → Type 0 = λ z. Logs s z in subst P (sym (append-nil ls)) h
runs_log (t ∷ ts) s ls h = on (step s t) (step_logs s t ls h) (λ s' h'. runs_log ts s' (ls ++ top_depth s' ∷ []) h')
  where
    on : (o : Option (List Frame)) → IfLogs o ls → ((s' : List Frame) → Logs s' (ls ++ top_depth s' ∷ []) → LogsAfter (run ts s') ((ls ++ top_depth s' ∷ []) ++ read_depths ts s')) → LogsAfter (then_run o (run ts)) (ls ++ then_depths o (read_depths ts))
    on None h go = tt
    on (Some s') h go = let P : List ℕ → Type 0 = λ z. LogsAfter (run ts s') z in subst P (append_assoc ls (top_depth s' ∷ []) (read_depths ts s')) (go s' h)

-- the nesting of a whole text is what the machine finds
pub depths_are_read : (ts : List Token) (kids : Spellings) → run ts start ≡ Some (whole kids) → read_depths ts start ≡ unit_depths kids
unfolding LogsAfter
depths_are_read ts kids e =
    let P : Option (List Frame) → Type 0 = λ o. LogsAfter o (read_depths ts start) in
    let h : Logs (whole kids) (read_depths ts start) = subst P e (runs_log ts start [] ([], refl, refl, no_row (rhs Whole))) in
    h.1 ∙ ap (λ z. z ++ (unit_depths kids ++ [])) h.2 ∙ append-nil (unit_depths kids)
