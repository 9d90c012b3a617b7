-- No more names are hidden in one another than were kept, so the depth of an expansion doesn't matter.
use Rattle.std.proofs.Common.{◌≡◌, ℕ, zero, suc, ◌+◌, ◌≤◌, ◌<◌, Bool, true, false, List, [], ◌∷◌, ◌++◌, length, Option, Some, None, refl, sym, ap, ◌∙◌, subst, arith}
use Rattle.std.specs.Prelude.{Result, Ok, Err, ◌||◌, if◌then◌else◌}
use Rattle.std.specs.List.{flat_map}
use Rattle.std.specs.Option.{option_map_or}
use Rattle.std.specs.Result.{result_unwrap_or}
use Rattle.std.specs.Str.{bytes_eq}
use Rattle.std.specs.Cmp.Lexicographic.{bytes_decides}
use Rattle.c_syntax.specs.declared.token.Raw.{Raw}
use Rattle.c_syntax.specs.declared.token.RawKind.{RawKind}
use Rattle.c_prep.specs.declared.fault.PrepFault.{PrepFault}
use Rattle.c_prep.specs.declared.fault.PrepFault.TheVariants as fault
use Rattle.c_prep.specs.declared.conditional.Open.{Open}
use Rattle.c_prep.specs.Macros.{Macros, Act, Replaces, kinds, keep, without, kept_at, expansion}
use Rattle.c_prep.specs.Directives.{Directive, Empty, Define, Undef, If, Turn, Close, Include, directive_at}
use Rattle.c_prep.specs.Lines.{State, Step, lines, lengthened, begins_line, is_taken, is_hash, clashes, paren_at, defined, with_macros, with_opens, after_else, after_endif, obeyed, directed, text_acts, line_step, and_more, and_then, acts_in, first_state}
use Rattle.c_prep.specs.Laws.{DepthIsEnough}
use Rattle.c_prep.proofs.Hiding.{stays, begins}
use Rattle.c_prep.proofs.Expanding.{kept_name}

-- a list of names
abbrev Names : Type 0
Names = List (List ℕ)

abbrev has_name : List ℕ → Names → Bool
has_name name [] = false
has_name name (x ∷ xs) = bytes_eq name x || has_name name xs

abbrev removed : List ℕ → Names → Names
removed name [] = []
removed name (x ∷ xs) = if bytes_eq name x then removed name xs else x ∷ removed name xs

-- each name that is kept is in the list
abbrev Within : Macros → Names → Type 0
Within m names = (name : List ℕ) (body : List RawKind) → m name ≡ Some body → has_name name names ≡ true

removed_within : (name : List ℕ) (xs : Names) → length (removed name xs) ≤ length xs
removed_within name [] = omega arith
removed_within name (x ∷ xs) = at (bytes_eq name x) (removed_within name xs) where
  at : (b : Bool) → length (removed name xs) ≤ length xs → length (if b then removed name xs else x ∷ removed name xs) ≤ suc (length xs)
  at true h = omega (arith, h)
  at false h = omega (arith, h)

removed_shorter : (name : List ℕ) (xs : Names) → has_name name xs ≡ true → length (removed name xs) < length xs
removed_shorter name [] h = absurd (cc (h))
removed_shorter name (x ∷ xs) h = at (bytes_eq name x) h (removed_within name xs) (λ e. removed_shorter name xs e) where
  at : (b : Bool) → (b || has_name name xs) ≡ true → length (removed name xs) ≤ length xs → (has_name name xs ≡ true → length (removed name xs) < length xs) → length (if b then removed name xs else x ∷ removed name xs) < suc (length xs)
  at true e le ih = omega (arith, le)
  at false e le ih = omega (arith, ih e)

removed_keeps : (name other : List ℕ) (xs : Names) → bytes_eq name other ≡ false → has_name other xs ≡ true → has_name other (removed name xs) ≡ true
removed_keeps name other [] apart h = h
removed_keeps name other (x ∷ xs) apart h = at (bytes_eq name x) refl (bytes_eq other x) refl h (λ e. removed_keeps name other xs apart e) where
  at : (b : Bool) → bytes_eq name x ≡ b → (c : Bool) → bytes_eq other x ≡ c → (c || has_name other xs) ≡ true → (has_name other xs ≡ true → has_name other (removed name xs) ≡ true) → has_name other (if b then removed name xs else x ∷ removed name xs) ≡ true
  at true s true t e ih = absurd (cc (sym apart ∙ (bytes_decides name other).1 ((bytes_decides name x).0 s ∙ sym ((bytes_decides other x).0 t))))
  at true s false t e ih = ih e
  at false s true t e ih = ap (λ b. b || has_name other (removed name xs)) t
  at false s false t e ih = ap (λ b. b || has_name other (removed name xs)) t ∙ ih e

without_within : (m : Macros) (names : Names) (name : List ℕ) → Within m names → Within (without name m) (removed name names)
without_within m names name w = λ other body e. at other body (bytes_eq name other) refl e where
  at : (other : List ℕ) (body : List RawKind) (b : Bool) → bytes_eq name other ≡ b → (if b then None else m other) ≡ Some body → has_name other (removed name names) ≡ true
  at other body true t e = absurd (cc (e))
  at other body false t e = removed_keeps name other names t (w other body e)

keep_within : (m : Macros) (names : Names) (name : List ℕ) (tokens : List RawKind) → Within m names → Within (keep name tokens m) (name ∷ names)
keep_within m names name tokens w = λ other body e. at other body (bytes_eq name other) refl e where
  right : (b : Bool) → (b || true) ≡ true
  right true = refl
  right false = refl

  at : (other : List ℕ) (body : List RawKind) (b : Bool) → bytes_eq name other ≡ b → (if b then Some tokens else m other) ≡ Some body → (bytes_eq other name || has_name other names) ≡ true
  at other body true t e = ap (λ b. b || has_name other names) ((bytes_decides other name).1 (sym ((bytes_decides name other).0 t)))
  at other body false t e = ap (λ b. bytes_eq other name || b) (w other body e) ∙ right (bytes_eq other name)

some_name : (name : List ℕ) (xs : Names) → has_name name xs ≡ true → 0 < length xs
some_name name [] h = absurd (cc (h))
some_name name (x ∷ xs) h = omega arith

same_all : {X Y : Type 0} (f g : X → List Y) (xs : List X) → ((x : X) → f x ≡ g x) → flat_map f xs ≡ flat_map g xs
same_all f g [] h = refl
same_all f g (x ∷ xs) h = ap (λ z. z ++ flat_map f xs) (h x) ∙ ap (λ z. g x ++ z) (same_all f g xs h)

-- a token that isn't kept, at any depths
both_stay : (a b : ℕ) (m : Macros) (pos : ℕ) (k : RawKind) → kept_at k m ≡ None → expansion a m pos k ≡ expansion b m pos k
both_stay a b m pos k e = stays a m pos k e ∙ sym (stays b m pos k e)

no_name : (a b : ℕ) (m : Macros) (pos : ℕ) (names : Names) (k : RawKind) → Within m names → length names ≤ 0 → expansion a m pos k ≡ expansion b m pos k
no_name a b m pos names k w le = at (kept_at k m) refl where
  at : (o : Option (List ℕ × List RawKind)) → kept_at k m ≡ o → expansion a m pos k ≡ expansion b m pos k
  at None e = both_stay a b m pos k e
  at (Some x) e = absurd (omega (arith, some_name x.0 names (w x.0 x.1 (kept_name k m x e)), le))

settled : (a b : ℕ) (m : Macros) (pos : ℕ) (names : Names) (k : RawKind) → Within m names → length names ≤ a → length names ≤ b → expansion a m pos k ≡ expansion b m pos k
settled zero b m pos names k w la lb = no_name zero b m pos names k w la
settled (suc a) zero m pos names k w la lb = no_name (suc a) zero m pos names k w lb
settled (suc a) (suc b) m pos names k w la lb = at (kept_at k m) refl (λ n ns j v l r. settled a b n pos ns j v l r) where
  at : (o : Option (List ℕ × List RawKind)) → kept_at k m ≡ o
      → ((n : Macros) (ns : Names) (j : RawKind) → Within n ns → length ns ≤ a → length ns ≤ b → expansion a n pos j ≡ expansion b n pos j) → expansion (suc a) m pos k ≡ expansion (suc b) m pos k
  at None e ih = both_stay (suc a) (suc b) m pos k e
  at (Some x) e ih =
      let shorter : length (removed x.0 names) < length names = removed_shorter x.0 names (w x.0 x.1 (kept_name k m x e)) in
      begins a m pos k x e
      ∙ ap (λ (z : List Act). Replaces ∷ z) (same_all (expansion a (without x.0 m) pos) (expansion b (without x.0 m) pos) x.1 (λ j. ih (without x.0 m) (removed x.0 names) j (without_within m names x.0 w) (omega (arith, shorter, la)) (omega (arith, shorter, lb))))
      ∙ sym (begins b m pos k x e)

text_settled : (a b : ℕ) (taken : Bool) (m : Macros) (names : Names) (line : List Raw) → Within m names → length names ≤ a → length names ≤ b → text_acts a taken m line ≡ text_acts b taken m line
text_settled a b true m names line w la lb = same_all (λ r. expansion a m r.pos r.kind) (λ r. expansion b m r.pos r.kind) line (λ r. settled a b m r.pos names r.kind w la lb)
text_settled a b false m names line w la lb = refl

line_settled : (a b : ℕ) (s : State) (names : Names) (line : List Raw) → Within s.macros names → length names ≤ a → length names ≤ b → line_step a s line ≡ line_step b s line
unfolding line_step
line_settled a b s names [] w la lb = refl
line_settled a b s names (r ∷ rs) w la lb =
    ap (λ (z : List Act). if is_hash r.kind then directed s r.pos (directive_at (is_taken s.opens) r.pos rs) else Ok (record { acts = z; state = s })) (text_settled a b (is_taken s.opens) s.macros names (r ∷ rs) w la lb)

-- a line keeps one name more at most
record Grown (m : Macros) (names : Names) : Type 0 where
  more : Names
  within : Within m more
  few : length more ≤ suc (length names)

same_names : (m : Macros) (names : Names) → Within m names → Grown m names
same_names m names w = record { more = names; within = w; few = omega arith }

abbrev macros_in : Step → Macros
macros_in step = step.state.macros

abbrev stepped : Step → Result Step PrepFault
stepped s = Ok s

grown_by : (s t : Step) (names : Names) → stepped s ≡ Ok t → Grown (macros_in s) names → Grown (macros_in t) names
grown_by s t names e g = subst (λ (z : Macros). Grown z names) (ap (λ (o : Result Step PrepFault). macros_in (result_unwrap_or o s)) e) g

defined_grows : (s : State) (names : Names) (name : List ℕ) (pos : ℕ) (tokens : List Raw) (t : Step) → Within s.macros names → with_macros s (defined name pos tokens s.macros) ≡ Ok t → Grown (macros_in t) names
unfolding defined
defined_grows s names name pos tokens t w h = at (clashes name (kinds tokens) s.macros) (paren_at tokens) h where
  kept : Macros
  kept = keep name (kinds tokens) s.macros

  at : (b : Bool) (o : Option ℕ) → with_macros s (if b then Err (fault.BadDirective pos) else option_map_or (λ p. Err (fault.BadDirective p)) o (Ok kept)) ≡ Ok t → Grown (macros_in t) names
  at true o e = absurd (cc (e))
  at false (Some p) e = absurd (cc (e))
  at false None e = grown_by (record { acts = []; state = record s { macros = kept } }) t names e (record { more = name ∷ names; within = keep_within s.macros names name (kinds tokens) w; few = omega arith })

opens_grow : (s : State) (names : Names) (there : Result (List Open) PrepFault) (t : Step) → Within s.macros names → with_opens s there ≡ Ok t → Grown (macros_in t) names
opens_grow s names (Ok opens) t w h = grown_by (record { acts = []; state = record s { opens = opens } }) t names h (same_names s.macros names w)
opens_grow s names (Err e) t w h = absurd (cc (h))

obeyed_grows : (s : State) (names : Names) (at : ℕ) (d : Directive) (t : Step) → Within s.macros names → obeyed s at d ≡ Ok t → Grown (macros_in t) names
obeyed_grows s names at Empty t w h = grown_by _ t names h (same_names s.macros names w)
obeyed_grows s names at (Define name pos tokens) t w h = defined_grows s names name pos tokens t w h
obeyed_grows s names at (Undef name) t w h =
    grown_by _ t names h (record { more = removed name names; within = without_within s.macros names name w; few = omega (arith, removed_within name names) })
obeyed_grows s names at (If name wanted) t w h = grown_by _ t names h (same_names s.macros names w)
obeyed_grows s names at (Turn more) t w h = opens_grow s names (after_else at more s.opens) t w h
obeyed_grows s names at (Close more) t w h = opens_grow s names (after_endif at more s.opens) t w h
obeyed_grows s names at (Include header) t w h = grown_by _ t names h (same_names s.macros names w)

directed_grows : (s : State) (names : Names) (at : ℕ) (d : Result Directive ℕ) (t : Step) → Within s.macros names → directed s at d ≡ Ok t → Grown (macros_in t) names
directed_grows s names at (Ok d) t w h = obeyed_grows s names at d t w h
directed_grows s names at (Err p) t w h = absurd (cc (h))

line_grows : (most : ℕ) (s : State) (names : Names) (line : List Raw) (t : Step) → Within s.macros names → line_step most s line ≡ Ok t → Grown (macros_in t) names
unfolding line_step
line_grows most s names [] t w h = grown_by _ t names h (same_names s.macros names w)
line_grows most s names (r ∷ rs) t w h = at (is_hash r.kind) h where
  at : (b : Bool) → (if b then directed s r.pos (directive_at (is_taken s.opens) r.pos rs) else Ok (record { acts = text_acts most (is_taken s.opens) s.macros (r ∷ rs); state = s })) ≡ Ok t → Grown (macros_in t) names
  at true e = directed_grows s names r.pos (directive_at (is_taken s.opens) r.pos rs) t w e
  at false e = grown_by _ t names e (same_names s.macros names w)

acts_settled : (a b : ℕ) (s : State) (names : Names) (ls : List (List Raw)) → Within s.macros names → length names + length ls ≤ a → length names + length ls ≤ b → acts_in a s ls ≡ acts_in b s ls
acts_settled a b s names [] w la lb = refl
acts_settled a b s names (line ∷ more) w la lb =
    ap (λ z. and_then z (λ step. and_more step.acts (acts_in a step.state more))) (line_settled a b s names line w (omega (arith, la)) (omega (arith, lb)))
    ∙ at (line_step b s line) refl (λ t ns v l r. acts_settled a b t.state ns more v l r) where
      at : (there : Result Step PrepFault) → line_step b s line ≡ there
          → ((t : Step) (ns : Names) → Within (macros_in t) ns → length ns + length more ≤ a → length ns + length more ≤ b → acts_in a t.state more ≡ acts_in b t.state more)
          → and_then there (λ step. and_more step.acts (acts_in a step.state more)) ≡ and_then there (λ step. and_more step.acts (acts_in b step.state more))
      at (Ok t) e ih = let g = line_grows b s names line t w e in ap (and_more t.acts) (ih t g.more g.within (omega (arith, g.few, la)) (omega (arith, g.few, lb)))
      at (Err f) e ih = refl

lines_few : (rs : List Raw) → length (lines rs) ≤ length rs
lines_few [] = omega arith
lines_few (r ∷ rs) = at (begins_line rs) (lines rs) (lines_few rs) where
  at : (b : Bool) (ls : List (List Raw)) → length ls ≤ length rs → length (if b then (r ∷ []) ∷ ls else lengthened r ls) ≤ suc (length rs)
  at true ls h = omega (arith, h)
  at false [] h = omega (arith, h)
  at false (l ∷ ls) h = omega (arith, h)

pub depth_is_enough : DepthIsEnough
depth_is_enough = λ raws most enough. acts_settled most (length raws) first_state [] (lines raws) (λ name body e. absurd (cc (e))) (omega (arith, enough, lines_few raws)) (omega (arith, lines_few raws))
