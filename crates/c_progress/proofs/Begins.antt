-- A token at the places that are left of a production.
use Rattle.std.proofs.Common.{◌≡◌, ℕ, zero, suc, ◌+◌, ◌-◌, ◌<◌, ◌≤◌, Bool, true, false, List, [], ◌∷◌, ◌++◌, Option, Some, None, length, drop, refl, sym, ap, ◌∙◌, subst, arith}
use Rattle.std.specs.Prelude.{slice_get}
use Rattle.c_syntax.specs.declared.token.Token.{Token}
use Rattle.c_grammar.specs.Class.{class_of}
use Rattle.c_grammar.specs.Grammar.{rhs, HasRoom}
use Rattle.c_grammar.specs.Machine.{takes, opening}
use Rattle.c_grammar.specs.Nesting.{walk, place, total}
use Rattle.c_grammar.specs.Values as machine
use Rattle.c_grammar.specs.Values.{Open, At, Value, ValueList, nil, cons, with_last, depth_of, context_of, last_depth_of, past_values}
use Rattle.c_grammar.specs.declared.names.Part.{Part}
use Rattle.c_grammar.specs.declared.names.Production.{Production}
use Rattle.c_grammar.specs.declared.names.Symbol.{Symbol}
use Rattle.c_grammar.specs.declared.names.Symbol.TheVariants.{Tok, One, Many, Maybe}
use Rattle.c_grammar.specs.declared.names.Terminal.{Terminal}
use Rattle.c_held.specs.View.{made_of, value_at, values_of, row_of}
use Rattle.c_held.specs.Shape.{StandsAt, StandAt}
use Rattle.c_held.specs.declared.value.Made.{Made}
use Rattle.c_held.specs.declared.value.Value.{Value as Held}
use Rattle.c_held.specs.declared.value.Value.TheVariants as held
use Rattle.c_frames.specs.declared.frame.Frame.{Frame}
use Rattle.c_frames.specs.Stack.{open_of, opens, walk_of, IsSound, AreSound, StandsOn, Stands, StandsNext, Grows}
use Rattle.c_frames.proofs.Lists.{values_last, depth_last, drop_next, drop_none, next_within, stand_within, all_places}
use Rattle.c_frames.proofs.Stacks.{length_more}
use Rattle.c_progress.specs.Places.{first_terminal, TakesRow}
use Rattle.c_progress.specs.Progress.{left_behind, token_at, begin_at, begin_behind, Reads, IsWhole, Comes, Passes, Turns}
use Rattle.c_progress.specs.declared.progress.Progress.{Progress}
use Rattle.c_progress.specs.declared.progress.Turn.{Turn}
use Rattle.c_grammar.specs.declared.names.Class.{Class}

-- a production with a value more
pub open_grown : (f g : Frame) (x : Held) → Grows f g x → open_of g ≡ At f.production (with_last (values_of f.done.items) (value_at x)) nil (left_behind f)
open_grown f g x h =
    ap (λ p. At p (values_of g.done.items) (row_of g.row.items) (drop (length g.done.items) (rhs p))) h.production
    ∙ ap (λ r. At f.production (values_of g.done.items) (row_of r) (drop (length g.done.items) (rhs f.production))) h.row
    ∙ ap (λ d. At f.production (values_of d) nil (drop (length d) (rhs f.production))) h.done
    ∙ ap (λ n. At f.production (values_of (f.done.items ++ x ∷ [])) nil (drop n (rhs f.production))) (length_more f.done.items x)
    ∙ ap (λ v. At f.production v nil (left_behind f)) (values_last f.done.items x)

pub begin_grown : (f g : Frame) (x : Held) (t : Token) (s : List Open) → Grows f g x → begin_at g t s ≡ begin_behind f (value_at x) t s
begin_grown f g x t s h =
    ap (λ p. machine.begin t p (values_of g.done.items) (drop (length g.done.items) (rhs p)) s) h.production
    ∙ ap (λ d. machine.begin t f.production (values_of d) (drop (length d) (rhs f.production)) s) h.done
    ∙ ap (λ n. machine.begin t f.production (values_of (f.done.items ++ x ∷ [])) (drop n (rhs f.production)) s) (length_more f.done.items x)
    ∙ ap (λ v. machine.begin t f.production v (left_behind f) s) (values_last f.done.items x)

-- a token at its place
pub token_refused : (f : Frame) (k : Terminal) (t : Token) (s : List Open) → takes k (class_of t) ≡ false → token_at f k t s ≡ None
token_refused f k t s e = ap (λ b. machine.at_token b f.production (values_of f.done.items) t (left_behind f) s) e

token_moves : (f g : Frame) (k : Terminal) (t : Token) (s : List Open) → takes k (class_of t) ≡ true → Grows f g (held.Token t) → token_at f k t s ≡ Some (open_of g ∷ s)
token_moves f g k t s e h =
    ap (λ b. machine.at_token b f.production (values_of f.done.items) t (left_behind f) s) e
    ∙ ap (λ o. Some (o ∷ s)) (sym (open_grown f g (held.Token t) h))

token_depth : (f g : Frame) (t : Token) (s : List Open) → IsSound f s → Grows f g (held.Token t) → depth_of (open_of g ∷ s) ≡ total (place (walk_of f))
token_depth f g t s a h =
    ap (λ o. depth_of (o ∷ s)) (open_grown f g (held.Token t) h)
    ∙ depth_last (values_of f.done.items) (walk f.production (context_of s)) (machine.Token' t)
    ∙ ap (λ w. total (place w)) (sym a.walked)

pub token_read : (f g : Frame) (k : Terminal) (t : Token) (old fs : List Frame) (d : ℕ) → takes k (class_of t) ≡ true → StandsOn f old → Grows f g (held.Token t) → Stands fs (open_of g ∷ opens old []) → d ≡ total (place (walk_of f)) → Reads (Some d) fs (token_at f k t (opens old []))
token_read f g k t old fs d e a h st dd = (
  token_moves f g k t (opens old []) e h ∙ ap Some (sym st.opens_are),
  ap depth_of st.opens_are ∙ token_depth f g t (opens old []) a.frame h ∙ sym dd,
  st.sound,
)

-- a production that a token begins
first_is : (ss : List Symbol) (k : Terminal) → Some k ≡ first_terminal ss → ss ≡ Tok k ∷ drop 1 ss
first_is [] k h = absurd (cc (h))
first_is (Tok j ∷ ss) k h = ap (λ z. Tok z ∷ ss) (sym (cc (h)))
first_is (One n ∷ ss) k h = absurd (cc (h))
first_is (Many n ∷ ss) k h = absurd (cc (h))
first_is (Maybe n ∷ ss) k h = absurd (cc (h))

pub entered : (p : Production) (f : Frame) (k : Terminal) (t : Token) (s : List Open) → Some k ≡ first_terminal (rhs p) → f.production ≡ p → f.done.items ≡ [] → token_at f k t s ≡ machine.enter p t s
unfolding machine.enter
entered p f k t s e ep ed =
    ap (λ d. machine.at_token (takes k (class_of t)) f.production (values_of d) t (drop (suc (length d)) (rhs f.production)) s) ed
    ∙ ap (λ q. machine.at_token (takes k (class_of t)) q nil t (drop 1 (rhs q)) s) ep
    ∙ ap (λ ss. machine.first_token ss p t s) (sym (first_is (rhs p) k e))

first_there : (ss : List Symbol) (k : Terminal) → Some k ≡ first_terminal ss → Some (Tok k) ≡ slice_get ss 0
first_there [] k h = absurd (cc (h))
first_there (Tok j ∷ ss) k h = ap (λ z. Some (Tok z)) (cc (h))
first_there (One n ∷ ss) k h = absurd (cc (h))
first_there (Many n ∷ ss) k h = absurd (cc (h))
first_there (Maybe n ∷ ss) k h = absurd (cc (h))

pub next_of_none : (p : Production) (f : Frame) (k : Symbol) → Some k ≡ slice_get (rhs p) 0 → f.production ≡ p → f.done.items ≡ [] → StandsNext f k
next_of_none p f k e ep ed = e ∙ ap (λ q. slice_get (rhs q) 0) (sym ep) ∙ ap (λ d. slice_get (rhs f.production) (length d)) (sym ed)

pub entered_next : (p : Production) (f : Frame) (k : Terminal) → Some k ≡ first_terminal (rhs p) → f.production ≡ p → f.done.items ≡ [] → StandsNext f (Tok k)
entered_next p f k e ep ed = next_of_none p f (Tok k) (first_there (rhs p) k e) ep ed

none_first : (ss : List Symbol) (p : Production) (t : Token) (s : List Open) → None ≡ first_terminal ss → machine.first_token ss p t s ≡ None
none_first [] p t s h = refl
none_first (Tok j ∷ ss) p t s h = absurd (cc (h))
none_first (One n ∷ ss) p t s h = refl
none_first (Many n ∷ ss) p t s h = refl
none_first (Maybe n ∷ ss) p t s h = refl

pub not_entered : (p : Production) (t : Token) (s : List Open) → None ≡ first_terminal (rhs p) → machine.enter p t s ≡ None
unfolding machine.enter
not_entered p t s h = none_first (rhs p) p t s h

-- the same progress
pub comes_as : (r : Progress) (p : Production) (old fs : List Frame) (a b : machine.Progress) → a ≡ b → Comes r p old fs a → Comes r p old fs b
comes_as r p old fs a b e h = subst (λ z. Comes r p old fs z) e h

pub reads_as : (d : Option ℕ) (fs : List Frame) (a b : Option (List Open)) → a ≡ b → Reads d fs a → Reads d fs b
reads_as d fs a b e h = subst (λ z. Reads d fs z) e h

-- what a token begins where a part is wanted
pub chosen : (o : Option Production) (p : Production) (t : Token) (s : List Open) (r : machine.Progress) → Some p ≡ o → machine.moved (machine.enter p t s) ≡ machine.choose o t s r
chosen o p t s r e = ap (λ z. machine.choose z t s r) e

pub not_chosen : (o : Option Production) (t : Token) (s : List Open) (r : machine.Progress) → None ≡ o → r ≡ machine.choose o t s r
not_chosen o t s r e = ap (λ z. machine.choose z t s r) e

pub begin_token : (f : Frame) (k : Terminal) (t : Token) (s : List Open) → StandsNext f (Tok k) → machine.moved (token_at f k t s) ≡ begin_at f t s
begin_token f k t s e = ap (λ ss. machine.begin t f.production (values_of f.done.items) ss s) (sym (drop_next (rhs f.production) (length f.done.items) (Tok k) e))

-- a production whose row is empty, at this place
pub open_at : (f : Frame) (k : Symbol) → StandsNext f k → f.row.items ≡ [] → open_of f ≡ At f.production (values_of f.done.items) nil (k ∷ left_behind f)
open_at f k e er =
    ap (λ r. At f.production (values_of f.done.items) (row_of r) (drop (length f.done.items) (rhs f.production))) er
    ∙ ap (λ ss. At f.production (values_of f.done.items) nil ss) (drop_next (rhs f.production) (length f.done.items) k e)

pub begin_one : (f : Frame) (n : Part) (t : Token) (s : List Open) → StandsNext f (One n) → f.row.items ≡ [] → machine.choose (opening n (class_of t)) t (open_of f ∷ s) machine.Stuck ≡ begin_at f t s
begin_one f n t s e er =
    ap (λ o. machine.choose (opening n (class_of t)) t (o ∷ s) machine.Stuck) (open_at f (One n) e er)
    ∙ ap (λ ss. machine.begin t f.production (values_of f.done.items) ss s) (sym (drop_next (rhs f.production) (length f.done.items) (One n) e))

pub begin_many : (f : Frame) (n : Part) (t : Token) (s : List Open) → StandsNext f (Many n) → f.row.items ≡ [] → machine.choose (opening n (class_of t)) t (open_of f ∷ s) (begin_behind f (machine.Values nil) t s) ≡ begin_at f t s
begin_many f n t s e er =
    ap (λ o. machine.choose (opening n (class_of t)) t (o ∷ s) (begin_behind f (machine.Values nil) t s)) (open_at f (Many n) e er)
    ∙ ap (λ ss. machine.begin t f.production (values_of f.done.items) ss s) (sym (drop_next (rhs f.production) (length f.done.items) (Many n) e))

pub begin_maybe : (f : Frame) (n : Part) (t : Token) (s : List Open) → StandsNext f (Maybe n) → f.row.items ≡ [] → machine.choose (opening n (class_of t)) t (open_of f ∷ s) (begin_behind f (machine.Values nil) t s) ≡ begin_at f t s
begin_maybe f n t s e er =
    ap (λ o. machine.choose (opening n (class_of t)) t (o ∷ s) (begin_behind f (machine.Values nil) t s)) (open_at f (Maybe n) e er)
    ∙ ap (λ ss. machine.begin t f.production (values_of f.done.items) ss s) (sym (drop_next (rhs f.production) (length f.done.items) (Maybe n) e))

-- a place that stays empty
row_stands : (k : Symbol) (f : Frame) → TakesRow k → StandsAt k (held.Row f.row)
row_stands (Tok j) f h = absurd h
row_stands (One n) f h = absurd h
row_stands (Many n) f h = tt
row_stands (Maybe n) f h = tt

pub row_grown : (f g : Frame) (k : Symbol) (fs : List Frame) → TakesRow k → StandsNext f k → StandsOn f fs → Grows f g (held.Row f.row) → StandsOn g fs
row_grown f g k fs a n h w = w.sound fs k h n (row_stands k f a)

pub passed : (f g : Frame) (k : Symbol) (o : Option Production) (t : Token) (old fs : List Frame) (w : List Open) → None ≡ o → f.row.items ≡ [] → TakesRow k → StandsNext f k → StandsOn f old → Grows f g (held.Row f.row) → fs ≡ old → Passes f g t old fs (machine.choose o t w (begin_behind f (machine.Values nil) t (opens old [])))
passed f g k o t old fs w eo er a n h gr es =
    record {
      production = gr.production;
      row = gr.row;
      further = ap length gr.done ∙ length_more f.done.items (held.Row f.row);
      stands = row_grown f g k old a n h gr;
      stack = es;
      same =
          sym (not_chosen o t w (begin_behind f (machine.Values nil) t (opens old [])) eo)
          ∙ sym (ap (λ r. begin_behind f (machine.Values (row_of r)) t (opens old [])) er)
          ∙ sym (begin_grown f g (held.Row f.row) t (opens old []) gr);
    }

-- a production with all its parts
pub begin_ended : (f : Frame) (t : Token) (s : List Open) → None ≡ slice_get (rhs f.production) (length f.done.items) → begin_at f t s ≡ machine.Finished (values_of f.done.items)
begin_ended f t s e = ap (λ ss. machine.begin t f.production (values_of f.done.items) ss s) (drop_none (rhs f.production) (length f.done.items) e)

pub whole_there : (f : Frame) (s : List Open) → IsSound f s → drop (length f.done.items) (rhs f.production) ≡ [] → length f.done.items ≡ length (rhs f.production)
whole_there f s h e =
    let a : length f.done.items ≤ length (rhs f.production) = stand_within (rhs f.production) f.done.items h.stand in
    let b : length (rhs f.production) ≤ length f.done.items = all_places (rhs f.production) (length f.done.items) e in
    omega (arith, a, b)

pub is_whole : (f : Frame) (fs : List Frame) → StandsOn f fs → None ≡ slice_get (rhs f.production) (length f.done.items) → IsWhole f
is_whole f fs h e = record { stand = h.frame.stand; all = whole_there f (opens fs []) h.frame (drop_none (rhs f.production) (length f.done.items) e) }

-- the places that a production has begun with a token
pub record HasBegun (f g : Frame) (t : Token) (old fs : List Frame) : Type 0 where
  pub production : g.production ≡ f.production
  pub row : g.row.items ≡ []
  pub stands : StandsOn g old
  pub stack : fs ≡ old
  pub same : begin_at f t (opens old []) ≡ begin_at g t (opens old [])

pub has_begun : (f g h : Frame) (t : Token) (old mid fs : List Frame) → HasBegun f g t old mid → Passes g h t mid fs (begin_at g t (opens mid [])) → HasBegun f h t old fs
has_begun f g h t old mid fs a b =
    record {
      production = b.production ∙ a.production;
      row = b.row;
      stands = subst (StandsOn h) a.stack b.stands;
      stack = b.stack ∙ a.stack;
      same = a.same ∙ (let P : List Frame → Type 0 = λ z. begin_at g t (opens z []) ≡ begin_at h t (opens z []) in subst P a.stack b.same);
    }

pub ended_there : (f g : Frame) (t : Token) (old fs : List Frame) → HasBegun f g t old fs → None ≡ slice_get (rhs g.production) (length g.done.items) → (begin_at f t (opens old []) ≡ machine.Finished (values_of g.done.items)) × (g.production ≡ f.production) × (fs ≡ old) × IsWhole g
ended_there f g t old fs a e = (a.same ∙ begin_ended g t (opens old []) e, a.production, a.stack, is_whole g old a.stands e)

pub comes_from : (r : Progress) (f g : Frame) (t : Token) (old mid fs : List Frame) → HasBegun f g t old mid → Comes r g.production mid fs (begin_at g t (opens mid [])) → Comes r f.production old fs (begin_at f t (opens old []))
comes_from r f g t old mid fs a h =
    let P : List Frame → Type 0 = λ z. Comes r g.production z fs (begin_at g t (opens z [])) in
    let Q : Production → Type 0 = λ p. Comes r p old fs (begin_at f t (opens old [])) in
    subst Q a.production (comes_as r g.production old fs (begin_at g t (opens old [])) (begin_at f t (opens old [])) (sym a.same) (subst P a.stack h))

-- a production that a token begins within another
pub entered_on : (d : Option ℕ) (p : Production) (t : Token) (mid fs : List Frame) (s : List Open) → Stands mid s → Reads d fs (machine.enter p t (opens mid [])) → Reads d fs (machine.enter p t s)
entered_on d p t mid fs s e h = reads_as d fs (machine.enter p t (opens mid [])) (machine.enter p t s) (ap (λ z. machine.enter p t z) e.opens_are) h

-- the same place, class or turn
pub next_as : (f : Frame) (k j : Symbol) → k ≡ j → StandsNext f k → StandsNext f j
next_as f k j e h = subst (StandsNext f) e h

pub class_opening : (n : Part) (c : Class) (t : Token) (o : Option Production) → c ≡ class_of t → o ≡ opening n c → o ≡ opening n (class_of t)
class_opening n c t o k e = e ∙ ap (opening n) k

pub turn_as : (r : Turn) (f : Frame) (t : Token) (old fs : List Frame) (a b : machine.Progress) → a ≡ b → Turns r f t old fs a → Turns r f t old fs b
turn_as r f t old fs a b e h = subst (λ z. Turns r f t old fs z) e h

pub begun_there : (f : Frame) (t : Token) (old : List Frame) → f.row.items ≡ [] → StandsOn f old → HasBegun f f t old old
begun_there f t old er h = record { production = refl; row = er; stands = h; stack = refl; same = refl }

pub row_stars : (f : Frame) (fs : List Frame) → StandsOn f fs → f.row_stars ≡ machine.all_stars_in (row_of f.row.items)
row_stars f fs h = h.frame.stars
