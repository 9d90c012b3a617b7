-- A part that was read, at the places that are left of a production.
use Rattle.std.proofs.Common.{◌≡◌, ℕ, zero, suc, ◌+◌, ◌<◌, ◌≤◌, Bool, true, false, List, [], ◌∷◌, ◌++◌, Option, Some, None, length, drop, refl, sym, ap, ◌∙◌, subst, arith}
use Rattle.std.specs.Prelude.{slice_get, IsTrue, Result, IfOk}
use Rattle.c_syntax.specs.declared.token.Token.{Token}
use Rattle.c_grammar.specs.Class.{class_of}
use Rattle.c_grammar.specs.Grammar.{rhs, HasRoom}
use Rattle.c_grammar.specs.Machine.{opening, announced}
use Rattle.c_grammar.specs.Spelling.{accepts}
use Rattle.c_grammar.specs.Values as machine
use Rattle.c_grammar.specs.Values.{Open, At, Value, ValueList, nil, cons, with_last, depth_of, category_of}
use Rattle.c_grammar.specs.declared.names.Category.{Category}
use Rattle.c_grammar.specs.declared.names.Class.{Class}
use Rattle.c_grammar.specs.declared.names.Part.{Part}
use Rattle.c_grammar.specs.declared.names.Production.{Production}
use Rattle.c_grammar.specs.declared.names.Symbol.{Symbol}
use Rattle.c_grammar.specs.declared.names.Symbol.TheVariants.{Tok, One, Many, Maybe}
use Rattle.c_grammar.specs.declared.names.Terminal.{Terminal}
use Rattle.c_held.specs.View.{made_of, value_at, values_of, row_of}
use Rattle.c_held.specs.Shape.{StandsAt, StandAt, MeetsPart, Becomes}
use Rattle.c_held.specs.declared.value.Made.{Made}
use Rattle.c_held.specs.declared.value.Meaning.{Meaning}
use Rattle.c_held.specs.declared.value.Value.{Value as Held}
use Rattle.c_held.specs.declared.value.Value.TheVariants as held
use Rattle.c_frames.specs.declared.frame.Frame.{Frame}
use Rattle.c_frames.specs.Stack.{open_of, opens, IsSound, AreSound, StandsOn, Stands, StandsNext, Grows, GrowsByOne, IsCleared}
use Rattle.c_frames.proofs.Lists.{row_last, drop_next, drop_none}
use Rattle.c_progress.specs.Places.{first_part, wanted_at, TakesRow}
use Rattle.c_progress.specs.Progress.{left_behind, begin_at, begin_behind, placed_at, put, Reads, IsWhole, Comes, Meets, IsFit, IsGoing, given, left_over}
use Rattle.c_progress.specs.declared.progress.Progress.{Progress}
use Rattle.c_progress.specs.declared.progress.Progress.TheVariants.{Moved, Finished, Stuck}
use Rattle.c_progress.proofs.Begins.{begin_grown, comes_as, next_of_none, chosen, not_chosen}
use Rattle.c_progress.proofs.Rooms.{made_category, made_fits}

-- a production that begins with a part
first_is : (ss : List Symbol) (n : Part) → Some n ≡ first_part ss → ss ≡ One n ∷ drop 1 ss
first_is [] n h = absurd (cc (h))
first_is (Tok j ∷ ss) n h = absurd (cc (h))
first_is (One m ∷ ss) n h = ap (λ z. One z ∷ ss) (sym (cc (h)))
first_is (Many m ∷ ss) n h = absurd (cc (h))
first_is (Maybe m ∷ ss) n h = absurd (cc (h))

first_there : (ss : List Symbol) (n : Part) → Some n ≡ first_part ss → Some (One n) ≡ slice_get ss 0
first_there [] n h = absurd (cc (h))
first_there (Tok j ∷ ss) n h = absurd (cc (h))
first_there (One m ∷ ss) n h = ap (λ z. Some (One z)) (cc (h))
first_there (Many m ∷ ss) n h = absurd (cc (h))
first_there (Maybe m ∷ ss) n h = absurd (cc (h))

none_first : (ss : List Symbol) (q : Production) (c : Category) (v : Value) (t : Token) (s : List Open) → None ≡ first_part ss → machine.wraps ss q c v t s ≡ machine.Stuck
none_first [] q c v t s h = refl
none_first (Tok j ∷ ss) q c v t s h = refl
none_first (One n ∷ ss) q c v t s h = absurd (cc (h))
none_first (Many n ∷ ss) q c v t s h = refl
none_first (Maybe n ∷ ss) q c v t s h = refl

pub not_wrapped : (q : Production) (c : Category) (v : Value) (t : Token) (s : List Open) → None ≡ first_part (rhs q) → machine.wraps (rhs q) q c v t s ≡ machine.Stuck
not_wrapped q c v t s h = none_first (rhs q) q c v t s h

wraps_is : (q : Production) (n : Part) (c : Category) (v : Value) (t : Token) (s : List Open) → Some n ≡ first_part (rhs q) → machine.wraps (rhs q) q c v t s ≡ machine.where_so (accepts c n) (machine.unfinished (machine.begin t q (cons v nil) (drop 1 (rhs q)) s))
wraps_is q n c v t s h = ap (λ ss. machine.wraps ss q c v t s) (first_is (rhs q) n h)

pub wrap_refused : (q : Production) (n : Part) (c : Category) (v : Value) (t : Token) (s : List Open) → Some n ≡ first_part (rhs q) → accepts c n ≡ false → machine.wraps (rhs q) q c v t s ≡ machine.Stuck
wrap_refused q n c v t s h e = wraps_is q n c v t s h ∙ ap (λ b. machine.where_so b (machine.unfinished (machine.begin t q (cons v nil) (drop 1 (rhs q)) s))) e

pub wrap_begins : (q : Production) (n : Part) (f g : Frame) (m : Made) (c : Category) (t : Token) (s : List Open) → Some n ≡ first_part (rhs q) → accepts c n ≡ true → f.production ≡ q → f.done.items ≡ [] → Grows f g (held.Part m) → machine.unfinished (begin_at g t s) ≡ machine.wraps (rhs q) q c (made_of m) t s
wrap_begins q n f g m c t s h e ep ed gr =
    ap machine.unfinished
    (begin_grown f g (held.Part m) t s gr
    ∙ ap (λ d. machine.begin t f.production (with_last (values_of d) (made_of m)) (drop (suc (length d)) (rhs f.production)) s) ed
    ∙ ap (λ p. machine.begin t p (cons (made_of m) nil) (drop 1 (rhs p)) s) ep)
    ∙ sym (ap (λ b. machine.where_so b (machine.unfinished (machine.begin t q (cons (made_of m) nil) (drop 1 (rhs q)) s))) e)
    ∙ sym (wraps_is q n c (made_of m) t s h)

pub wrap_next : (q : Production) (f : Frame) (n : Part) → Some n ≡ first_part (rhs q) → f.production ≡ q → f.done.items ≡ [] → StandsNext f (One n)
wrap_next q f n h ep ed = next_of_none q f (One n) (first_there (rhs q) n h) ep ed

pub part_stands : (f g : Frame) (n : Part) (m : Made) (fs : List Frame) → StandsOn f fs → StandsNext f (One n) → MeetsPart n m.meaning → Grows f g (held.Part m) → StandsOn g fs
part_stands f g n m fs h e k gr = gr.sound fs (One n) h e k

-- a part is put at a place
pub put_begins : (f g : Frame) (m : Made) (n : Part) (t : Token) (s : List Open) → Grows f g (held.Part m) → begin_at g t s ≡ put (One n) (made_of m) f t s
put_begins f g m n t s gr = begin_grown f g (held.Part m) t s gr

pub comes_put : (r : Progress) (p q : Production) (old fs : List Frame) (a b : machine.Progress) → a ≡ b → q ≡ p → Comes r q old fs a → Comes r p old fs b
comes_put r p q old fs a b e k h = comes_as r p old fs a b e (subst (λ z. Comes r z old fs a) k h)

open_wider : (f g : Frame) (m : Made) (n : Part) → StandsNext f (Many n) → GrowsByOne f g m → open_of g ≡ At f.production (values_of f.done.items) (with_last (row_of f.row.items) (made_of m)) (Many n ∷ left_behind f)
open_wider f g m n e h =
    ap (λ p. At p (values_of g.done.items) (row_of g.row.items) (drop (length g.done.items) (rhs p))) h.production
    ∙ ap (λ d. At f.production (values_of d) (row_of g.row.items) (drop (length d) (rhs f.production))) h.done
    ∙ ap (λ r. At f.production (values_of f.done.items) (row_of r) (drop (length f.done.items) (rhs f.production))) h.row
    ∙ ap (λ r. At f.production (values_of f.done.items) r (drop (length f.done.items) (rhs f.production))) (row_last f.row.items m)
    ∙ ap (λ ss. At f.production (values_of f.done.items) (with_last (row_of f.row.items) (made_of m)) ss) (drop_next (rhs f.production) (length f.done.items) (Many n) e)

pub next_wider : (f g : Frame) (m : Made) (k : Symbol) → GrowsByOne f g m → StandsNext f k → StandsNext g k
next_wider f g m k h e = e ∙ ap (λ p. slice_get (rhs p) (length f.done.items)) (sym h.production) ∙ ap (λ d. slice_get (rhs g.production) (length d)) (sym h.done)

pub row_enters : (f g : Frame) (m : Made) (n : Part) (p : Production) (t : Token) (s : List Open) → StandsNext f (Many n) → GrowsByOne f g m → Some p ≡ opening n (class_of t) → machine.moved (machine.enter p t (open_of g ∷ s)) ≡ put (Many n) (made_of m) f t s
row_enters f g m n p t s e h o =
    ap (λ z. machine.moved (machine.enter p t (z ∷ s))) (open_wider f g m n e h)
    ∙ chosen (opening n (class_of t)) p t (At f.production (values_of f.done.items) (with_last (row_of f.row.items) (made_of m)) (Many n ∷ left_behind f) ∷ s) (begin_behind f (machine.Values (with_last (row_of f.row.items) (made_of m))) t s) o

behind_wider : (f g : Frame) (m : Made) (v : Value) (t : Token) (s : List Open) → GrowsByOne f g m → begin_behind g v t s ≡ begin_behind f v t s
behind_wider f g m v t s h =
    ap (λ p. machine.begin t p (with_last (values_of g.done.items) v) (drop (suc (length g.done.items)) (rhs p)) s) h.production
    ∙ ap (λ d. machine.begin t f.production (with_last (values_of d) v) (drop (suc (length d)) (rhs f.production)) s) h.done

pub row_begins : (f g k : Frame) (m : Made) (n : Part) (t : Token) (s : List Open) → GrowsByOne f g m → Grows g k (held.Row g.row) → None ≡ opening n (class_of t) → begin_at k t s ≡ put (Many n) (made_of m) f t s
row_begins f g k m n t s h gr o =
    begin_grown g k (held.Row g.row) t s gr
    ∙ behind_wider f g m (machine.Values (row_of g.row.items)) t s h
    ∙ ap (λ r. begin_behind f (machine.Values (row_of r)) t s) h.row
    ∙ ap (λ r. begin_behind f (machine.Values r) t s) (row_last f.row.items m)
    ∙ not_chosen (opening n (class_of t)) t (At f.production (values_of f.done.items) (with_last (row_of f.row.items) (made_of m)) (Many n ∷ left_behind f) ∷ s) (begin_behind f (machine.Values (with_last (row_of f.row.items) (made_of m))) t s) o

pub wider_stands : (f g k : Frame) (m : Made) (n : Part) (fs : List Frame) → StandsOn f fs → StandsNext f (Many n) → GrowsByOne f g m → Grows g k (held.Row g.row) → StandsOn k fs
wider_stands f g k m n fs h e w gr = gr.sound fs (Many n) (w.sound fs h) (next_wider f g m (Many n) w e) tt

-- a part alone where none need stand
behind_cleared : (f g : Frame) (v : Value) (t : Token) (s : List Open) → IsCleared f g → begin_behind g v t s ≡ begin_behind f v t s
behind_cleared f g v t s h =
    ap (λ p. machine.begin t p (with_last (values_of g.done.items) v) (drop (suc (length g.done.items)) (rhs p)) s) h.production
    ∙ ap (λ d. machine.begin t f.production (with_last (values_of d) v) (drop (suc (length d)) (rhs f.production)) s) h.done

pub maybe_begins : (f e g k : Frame) (m : Made) (n : Part) (t : Token) (s : List Open) → IsCleared f e → GrowsByOne e g m → Grows g k (held.Row g.row) → begin_at k t s ≡ put (Maybe n) (made_of m) f t s
maybe_begins f e g k m n t s a h gr =
    begin_grown g k (held.Row g.row) t s gr
    ∙ behind_wider e g m (machine.Values (row_of g.row.items)) t s h
    ∙ behind_cleared f e (machine.Values (row_of g.row.items)) t s a
    ∙ ap (λ r. begin_behind f (machine.Values (row_of r)) t s) h.row
    ∙ ap (λ r. begin_behind f (machine.Values (row_of (r ++ m ∷ []))) t s) a.row

pub next_cleared : (f g : Frame) (k : Symbol) → IsCleared f g → StandsNext f k → StandsNext g k
next_cleared f g k h e = e ∙ ap (λ p. slice_get (rhs p) (length f.done.items)) (sym h.production) ∙ ap (λ d. slice_get (rhs g.production) (length d)) (sym h.done)

pub maybe_stands : (f e g k : Frame) (m : Made) (n : Part) (fs : List Frame) → StandsOn f fs → StandsNext f (Maybe n) → IsCleared f e → GrowsByOne e g m → Grows g k (held.Row g.row) → StandsOn k fs
maybe_stands f e g k m n fs h x a w gr = gr.sound fs (Maybe n) (w.sound fs (a.sound fs h)) (next_wider e g m (Maybe n) w (next_cleared f e (Maybe n) a x)) tt

pub maybe_production : (f e g k : Frame) (m : Made) → IsCleared f e → GrowsByOne e g m → Grows g k (held.Row g.row) → k.production ≡ f.production
maybe_production f e g k m a w gr = gr.production ∙ w.production ∙ a.production

-- a part at the places that are left
pub none_placed : (c : Category) (v : Value) (f : Frame) (t : Token) (s : List Open) → None ≡ slice_get (rhs f.production) (length f.done.items) → placed_at c v f t s ≡ machine.Stuck
none_placed c v f t s e = ap (λ ss. machine.placed c v t f.production (values_of f.done.items) (row_of f.row.items) ss s) (drop_none (rhs f.production) (length f.done.items) e)

token_placed : (k : Symbol) (c : Category) (v : Value) (f : Frame) (t : Token) (left : List Symbol) (s : List Open) → None ≡ wanted_at k → machine.placed c v t f.production (values_of f.done.items) (row_of f.row.items) (k ∷ left) s ≡ machine.Stuck
token_placed (Tok j) c v f t left s e = refl
token_placed (One n) c v f t left s e = absurd (cc (e))
token_placed (Many n) c v f t left s e = absurd (cc (e))
token_placed (Maybe n) c v f t left s e = absurd (cc (e))

pub not_placed : (k : Symbol) (c : Category) (v : Value) (f : Frame) (t : Token) (s : List Open) → StandsNext f k → None ≡ wanted_at k → placed_at c v f t s ≡ machine.Stuck
not_placed k c v f t s e w =
    ap (λ ss. machine.placed c v t f.production (values_of f.done.items) (row_of f.row.items) ss s) (drop_next (rhs f.production) (length f.done.items) k e)
    ∙ token_placed k c v f t (left_behind f) s w

wanted_placed : (k : Symbol) (n : Part) (c : Category) (v : Value) (f : Frame) (t : Token) (s : List Open) → Some n ≡ wanted_at k → machine.placed c v t f.production (values_of f.done.items) (row_of f.row.items) (k ∷ left_behind f) s ≡ machine.wrapped (announced c n (class_of t)) n c v t (At f.production (values_of f.done.items) (row_of f.row.items) (k ∷ left_behind f) ∷ s) (put k v f t s)
wanted_placed (Tok j) n c v f t s e = absurd (cc (e))
wanted_placed (One m) n c v f t s e = ap (λ z. machine.wrapped (announced c z (class_of t)) z c v t (At f.production (values_of f.done.items) (row_of f.row.items) (One m ∷ left_behind f) ∷ s) (put (One m) v f t s)) (sym (cc (e)))
wanted_placed (Many m) n c v f t s e = ap (λ z. machine.wrapped (announced c z (class_of t)) z c v t (At f.production (values_of f.done.items) (row_of f.row.items) (Many m ∷ left_behind f) ∷ s) (put (Many m) v f t s)) (sym (cc (e)))
wanted_placed (Maybe m) n c v f t s e = ap (λ z. machine.wrapped (announced c z (class_of t)) z c v t (At f.production (values_of f.done.items) (row_of f.row.items) (Maybe m ∷ left_behind f) ∷ s) (put (Maybe m) v f t s)) (sym (cc (e)))

placed_is : (k : Symbol) (n : Part) (c : Category) (v : Value) (f : Frame) (t : Token) (s : List Open) → StandsNext f k → Some n ≡ wanted_at k → placed_at c v f t s ≡ machine.wrapped (announced c n (class_of t)) n c v t (open_of f ∷ s) (put k v f t s)
placed_is k n c v f t s e w =
    ap (λ ss. machine.placed c v t f.production (values_of f.done.items) (row_of f.row.items) ss s) (drop_next (rhs f.production) (length f.done.items) k e)
    ∙ wanted_placed k n c v f t s w
    ∙ ap (λ ss. machine.wrapped (announced c n (class_of t)) n c v t (At f.production (values_of f.done.items) (row_of f.row.items) ss ∷ s) (put k v f t s)) (sym (drop_next (rhs f.production) (length f.done.items) k e))

pub placed_wraps : (k : Symbol) (n : Part) (p : Production) (c : Category) (v : Value) (f : Frame) (t : Token) (s : List Open) → StandsNext f k → Some n ≡ wanted_at k → Some p ≡ announced c n (class_of t) → machine.wraps (rhs p) p c v t (open_of f ∷ s) ≡ placed_at c v f t s
placed_wraps k n p c v f t s e w a = ap (λ o. machine.wrapped o n c v t (open_of f ∷ s) (put k v f t s)) a ∙ sym (placed_is k n c v f t s e w)

placed_plain : (k : Symbol) (n : Part) (c : Category) (v : Value) (f : Frame) (t : Token) (s : List Open) → StandsNext f k → Some n ≡ wanted_at k → None ≡ announced c n (class_of t) → placed_at c v f t s ≡ machine.where_so (accepts c n) (put k v f t s)
placed_plain k n c v f t s e w a = placed_is k n c v f t s e w ∙ ap (λ o. machine.wrapped o n c v t (open_of f ∷ s) (put k v f t s)) (sym a)

pub placed_puts : (k : Symbol) (n : Part) (c : Category) (v : Value) (f : Frame) (t : Token) (s : List Open) → StandsNext f k → Some n ≡ wanted_at k → None ≡ announced c n (class_of t) → accepts c n ≡ true → put k v f t s ≡ placed_at c v f t s
placed_puts k n c v f t s e w a b = sym (placed_plain k n c v f t s e w a ∙ ap (λ z. machine.where_so z (put k v f t s)) b)

pub placed_refused : (k : Symbol) (n : Part) (c : Category) (v : Value) (f : Frame) (t : Token) (s : List Open) → StandsNext f k → Some n ≡ wanted_at k → None ≡ announced c n (class_of t) → accepts c n ≡ false → placed_at c v f t s ≡ machine.Stuck
placed_refused k n c v f t s e w a b = placed_plain k n c v f t s e w a ∙ ap (λ z. machine.where_so z (put k v f t s)) b

pub meets_there : (k : Symbol) (n : Part) (m : Made) → Some n ≡ wanted_at k → IsFit m → accepts m.facts.category n ≡ true → Meets k m.meaning
meets_there (Tok j) n m e h a = tt
meets_there (One x) n m e h a = h x (ap (λ z. accepts m.facts.category z) (sym (cc (e))) ∙ a)
meets_there (Many x) n m e h a = tt
meets_there (Maybe x) n m e h a = tt

-- what a production that ended becomes
closed_is : (r : Progress) (f : Frame) (t : Token) (old fs : List Frame) (x : machine.Progress) → Comes r f.production old fs x → machine.closed x (λ all. machine.give f.production all t (opens old [])) ≡ given r t (opens fs [])
closed_is (Moved d) f t old fs x h = ap (λ z. machine.closed z (λ all. machine.give f.production all t (opens old []))) h.0
closed_is (Finished g) f t old fs x h =
    ap (λ z. machine.closed z (λ all. machine.give f.production all t (opens old []))) h.0
    ∙ ap (λ p. machine.give p (values_of g.done.items) t (opens old [])) (sym h.1)
    ∙ ap (λ z. machine.give g.production (values_of g.done.items) t (opens z [])) (sym h.2)
closed_is Stuck f t old fs x h = ap (λ z. machine.closed z (λ all. machine.give f.production all t (opens old []))) h

pub still_going : (r : Progress) (p : Production) (old fs : List Frame) (x : machine.Progress) → Comes r p old fs x → AreSound old [] → IsGoing r fs
still_going (Moved d) p old fs x h s = (h.2, h.1)
still_going (Finished g) p old fs x h s = let P : List Frame → Type 0 = λ z. AreSound z [] in (subst P (sym h.2) s, h.3)
still_going Stuck p old fs x h s = tt

pub less_left : (r : Progress) (p : Production) (old fs : List Frame) (x : machine.Progress) → Comes r p old fs x → left_over r fs ≤ suc (length old)
less_left (Moved d) p old fs x h = omega arith
less_left (Finished g) p old fs x h = let e : length fs ≡ length old = ap length h.2 in omega (arith, e)
less_left Stuck p old fs x h = omega arith

pub given_on : (r : Progress) (p : Production) (vs : ValueList) (m : Made) (f : Frame) (t : Token) (old fs : List Frame) → made_of m ≡ machine.made p vs → Comes r f.production old fs (placed_at m.facts.category (made_of m) f t (opens old [])) → machine.give p vs t (open_of f ∷ opens old []) ≡ given r t (opens fs [])
given_on r p vs m f t old fs e h =
    sym (ap (λ v. machine.closed (placed_at (category_of p vs) v f t (opens old [])) (λ all. machine.give f.production all t (opens old []))) e)
    ∙ sym (ap (λ c. machine.closed (placed_at c (made_of m) f t (opens old [])) (λ all. machine.give f.production all t (opens old []))) (made_category p vs m e))
    ∙ closed_is r f t old fs (placed_at m.facts.category (made_of m) f t (opens old [])) h

-- a step
pub step_of_none : (s : List Open) (t : Token) → s ≡ [] → machine.step s t ≡ None
unfolding machine.step
step_of_none s t e = ap (λ z. machine.step z t) e

row_steps : (ms : List Made) (p : Production) (vs : ValueList) (left : List Symbol) (s : List Open) (t : Token) → 0 < length ms → machine.step (At p vs (row_of ms) left ∷ s) t ≡ None
unfolding machine.step
row_steps [] p vs left s t h = absurd (omega (arith, h))
row_steps (m ∷ ms) p vs left s t h = refl

pub step_in_row : (f : Frame) (s o : List Open) (t : Token) → o ≡ open_of f ∷ s → 0 < length f.row.items → machine.step o t ≡ None
step_in_row f s o t e h = ap (λ z. machine.step z t) e ∙ row_steps f.row.items f.production (values_of f.done.items) (drop (length f.done.items) (rhs f.production)) s t h

step_is : (f : Frame) (s : List Open) (t : Token) → f.row.items ≡ [] → machine.step (open_of f ∷ s) t ≡ machine.closed (begin_at f t s) (λ all. machine.give f.production all t s)
unfolding machine.step
step_is f s t e = ap (λ r. machine.step (At f.production (values_of f.done.items) (row_of r) (drop (length f.done.items) (rhs f.production)) ∷ s) t) e

pub step_gives : (r : Progress) (f : Frame) (o : List Open) (t : Token) (old fs : List Frame) → o ≡ open_of f ∷ opens old [] → f.row.items ≡ [] → Comes r f.production old fs (begin_at f t (opens old [])) → given r t (opens fs []) ≡ machine.step o t
step_gives r f o t old fs e er h =
    sym (ap (λ z. machine.step z t) e ∙ step_is f (opens old []) t er ∙ closed_is r f t old fs (begin_at f t (opens old [])) h)

pub empty_row : (ms : List Made) → length ms ≤ 0 → ms ≡ []
empty_row [] h = refl
empty_row (m ∷ ms) h = absurd (omega (arith, h))

pub given_none : (f : Frame) (t : Token) (s : List Open) → s ≡ [] → machine.give f.production (values_of f.done.items) t s ≡ None
given_none f t s e = ap (λ z. machine.give f.production (values_of f.done.items) t z) e

-- the same place
pub meets_as : (m : Meaning) (k j : Symbol) → k ≡ j → Meets k m → Meets j m
meets_as m k j e h = subst (λ z. Meets z m) e h

pub put_as : {E : Type 0} (r : Result Progress E) (p : Production) (old fs : List Frame) (k j : Symbol) (v : Value) (f : Frame) (t : Token) (s : List Open) → k ≡ j → IfOk r (λ x. Comes x p old fs (put j v f t s)) → IfOk r (λ x. Comes x p old fs (put k v f t s))
put_as r p old fs k j v f t s e h = subst (λ z. IfOk r (λ x. Comes x p old fs (put z v f t s))) (sym e) h

pub token_put : (k : Symbol) (j : Terminal) (v : Value) (f : Frame) (t : Token) (s : List Open) → k ≡ Tok j → put k v f t s ≡ machine.Stuck
token_put k j v f t s e = ap (λ z. put z v f t s) e

-- productions that end, one after another
pub ended_going : (r : Progress) (f : Frame) (fs : List Frame) → r ≡ Finished f → IsGoing r fs → AreSound fs [] × IsWhole f
ended_going r f fs e h = subst (λ z. IsGoing z fs) e h

pub moved_there : (r : Progress) (d : ℕ) (fs : List Frame) (t : Token) (o : Option (List Open)) → r ≡ Moved d → IsGoing r fs → o ≡ given r t (opens fs []) → Reads (Some d) fs o
moved_there r d fs t o e h k =
    let g : AreSound fs [] × (depth_of (opens fs []) ≡ d) = subst (λ z. IsGoing z fs) e h in
    (k ∙ ap (λ z. given z t (opens fs [])) e, g.1, g.0)

pub stuck_there : (r : Progress) (fs : List Frame) (t : Token) (o : Option (List Open)) → r ≡ Stuck → o ≡ given r t (opens fs []) → o ≡ None
stuck_there r fs t o e k = k ∙ ap (λ z. given z t (opens fs [])) e

pub none_above : (r : Progress) (f : Frame) (fs : List Frame) (t : Token) (o : Option (List Open)) → r ≡ Finished f → opens fs [] ≡ [] → o ≡ given r t (opens fs []) → o ≡ None
none_above r f fs t o e n k = k ∙ ap (λ z. given z t (opens fs [])) e ∙ given_none f t (opens fs []) n

pub given_over : (r q : Progress) (f g : Frame) (old mid fs : List Frame) (t : Token) (o : Option (List Open)) → r ≡ Finished f → opens old [] ≡ open_of g ∷ opens mid [] → o ≡ given r t (opens old []) → machine.give f.production (values_of f.done.items) t (open_of g ∷ opens mid []) ≡ given q t (opens fs []) → o ≡ given q t (opens fs [])
given_over r q f g old mid fs t o e n k h =
    k
    ∙ ap (λ z. given z t (opens old [])) e
    ∙ ap (λ z. machine.give f.production (values_of f.done.items) t z) n
    ∙ h

pub less_over : (r : Progress) (f : Frame) (old mid : List Frame) (n : ℕ) → r ≡ Finished f → length mid + 1 ≡ length old → n ≤ suc (length mid) → n < left_over r old
less_over r f old mid n e k h =
    let g : n < suc (length old) = omega (arith, h, k) in
    subst (λ z. n < left_over z old) (sym e) g

pub class_announced : (a : Category) (n : Part) (c : Class) (t : Token) (o : Option Production) → c ≡ class_of t → o ≡ announced a n c → o ≡ announced a n (class_of t)
class_announced a n c t o k e = e ∙ ap (announced a n) k
