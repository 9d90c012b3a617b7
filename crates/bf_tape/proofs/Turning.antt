-- What loops do.
use Rattle.std.proofs.Common.{◌≡◌, ◌≢◌, ℕ, zero, suc, ◌+◌, ◌*◌, ◌^◌, ◌<◌, ◌≤◌, Bool, true, false, cond, List, [], ◌∷◌, ◌++◌, refl, sym, ap, subst, ◌∙◌, arith, append_assoc, ne_eqb, suc-mul}
use Rattle.bf_lang.specs.declared.command.Command.{Command}
use Rattle.bf_lang.specs.declared.command.Command.TheVariants.{Right, Left, Plus, Minus}
use Rattle.bf_lang.specs.Cells.{raised, lowered}
use Rattle.bf_lang.specs.Balance.{IsBalanced}
use Rattle.bf_lang.proofs.Partners.{balanced_append, balanced_loop}
use Rattle.bf_tape.specs.Tape.{Tape, get, put}
use Rattle.bf_tape.specs.Does.{Does, loop, Turns}
use Rattle.bf_tape.specs.Does.Turns.{Over as over, Turn as turn}
use Rattle.bf_tape.specs.Code.{goto_code, clear_code, while_code, times_code, slide_code, shift_code, walk_code, if_code, then_body, then_loop, else_loop}
use Rattle.bf_tape.specs.Piece.{Repeats, Walks, Counts, shifted}
use Rattle.bf_tape.specs.Piece.Repeats.{Over, Turn}
use Rattle.bf_tape.specs.Piece.Walks.{Over as Stay, Turn as Go}
use Rattle.bf_tape.specs.Piece.Counts.{Over as Done, Turn as Again}
use Rattle.bf_tape.proofs.Moves.{does_plus, does_minus, does_then, does_loop}
use Rattle.bf_tape.proofs.Slotted.{get_held, put_held, held}
use Rattle.bf_tape.proofs.Pieces.{does_goto, does_clear, does_rights, does_lefts, balanced_goto, balanced_many, balanced_clear}

turns_of : {input : List ℕ} {body : List Command} {c : ℕ} {s s' : Tape} {n : ℕ} → c < 256 → Repeats input body c s s' n → Turns input (goto_code c 0 ++ body ++ goto_code 0 c) c s s' n
turns_of {c = c} lt (Over s z) = over s z
turns_of {input = input} {body = body} {c = c} lt (Turn s s' s'' a b on does more) =
    let e : a + 511 + 1 + b ≡ a + 512 + b = omega arith in
    subst (λ k. Turns input (goto_code c 0 ++ body ++ goto_code 0 c) c s s'' k) e
    (turn s s' s'' (a + 511) b on
    (does_then (a + 511) (does_then (a + 255) (does_goto input c 0 s 255 (omega arith)) does (omega arith)) (does_goto input 0 c s' 255 (omega arith)) (omega arith))
    (turns_of lt more))

pub balanced_while : (h c : ℕ) (body : List Command) → IsBalanced body → IsBalanced (while_code h c body)
balanced_while h c body b =
    balanced_append (goto_code h c) (loop (goto_code c 0 ++ body ++ goto_code 0 c)) (balanced_goto h c)
    (balanced_loop (goto_code c 0 ++ body ++ goto_code 0 c) (balanced_append (goto_code c 0 ++ body) (goto_code 0 c) (balanced_append (goto_code c 0) body (balanced_goto c 0) b) (balanced_goto 0 c)))

pub does_while : {input : List ℕ} {body : List Command} {s s' : Tape} {n : ℕ} (h c : ℕ) → h < 256 → c < 256 → IsBalanced body → Repeats input body c s s' n → Does input (while_code h c body) h s c s' (n + 512)
does_while {input = input} {body = body} {s = s} {n = n} h c lh lc b repeats =
    does_then (n + 512) (does_goto input h c s 255 (omega arith))
    (does_loop (balanced_append (goto_code c 0 ++ body) (goto_code 0 c) (balanced_append (goto_code c 0) body (balanced_goto c 0) b) (balanced_goto 0 c)) (turns_of lc repeats)) (omega arith)

-- the same machine, under another frame
pub reframe : {input : List ℕ} {cs : List Command} {h k : ℕ} {s s' : Tape} {n : ℕ} (h' : ℕ) (t : Tape) → Does input cs h s k s' n → t.base + h' ≡ s'.base + k → t.cells ≡ s'.cells → t.taken ≡ s'.taken → t.output ≡ s'.output → Does input cs h s h' t n
reframe h' t does at cells taken output = record {
  balanced = does.balanced;
  lands = λ code rest m place shows.
      let there = does.lands code rest m place shows in
      let old = there.shows in
      record {
        count = there.count;
        few = there.few;
        stops = there.stops;
        shows = record {
          head = old.head ∙ sym at;
          fell = old.fell;
          cells = λ p. old.cells p ∙ ap (λ f. f p) (sym cells);
          bytes = λ p. subst (λ f. f p < 2 ^ 8) (sym cells) (old.bytes p);
          taken = old.taken ∙ sym taken;
          output = old.output ∙ sym output;
        };
      };
}

pub reframe_start : {input : List ℕ} {cs : List Command} {h k : ℕ} {s s' : Tape} {n : ℕ} (h' : ℕ) (t : Tape) → Does input cs h s k s' n → s.base + h ≡ t.base + h' → s.cells ≡ t.cells → s.taken ≡ t.taken → s.output ≡ t.output → Does input cs h' t k s' n
reframe_start h' t does at cells taken output = record {
  balanced = does.balanced;
  lands = λ code rest m place shows.
      does.lands code rest m place (record {
        head = shows.head ∙ sym at;
        fell = shows.fell;
        cells = λ p. shows.cells p ∙ ap (λ f. f p) (sym cells);
        bytes = λ p. subst (λ f. f p < 2 ^ 8) (sym cells) (shows.bytes p);
        taken = shows.taken ∙ sym taken;
        output = shows.output ∙ sym output;
      });
}

pub does_slide : (input : List ℕ) (by : ℕ) (right : Bool) (s : Tape) → (right ≡ false → by ≤ s.base) → Does input (slide_code by right) 0 s 0 (shifted s by right) by
does_slide input by true s fits = reframe 0 (shifted s by true) (does_rights input by 0 s) (omega arith) refl refl refl
does_slide input by false s fits =
    let t : Tape = shifted s by false in
    let le : by ≤ s.base = fits refl in
    let at : t.base + (0 + by) ≡ s.base + 0 = omega arith in
    reframe_start 0 s (does_lefts input by 0 t) at refl refl refl

pub repeats_of : {input : List ℕ} {body : List Command} {c by : ℕ} {right : Bool} {s s' : Tape} {t n : ℕ} → by ≤ 256 → Walks input body c by right s s' t n → Repeats input (body ++ slide_code by right) c s s' n
repeats_of le (Stay s z) = Over s z
repeats_of {input = input} {body = body} {c = c} {by = by} {right = right} le (Go s s' s'' t a b on does same fits more) =
    let e : a + 512 + 512 + b ≡ a + 1024 + b = omega arith in
    subst (λ k. Repeats input (body ++ slide_code by right) c s s'' k) e
    (Turn s (shifted s' by right) s'' (a + 512) b on (does_then (a + 512) does (does_slide input by right s' fits) (omega arith)) (repeats_of le more))

pub balanced_slide : (by : ℕ) (right : Bool) → IsBalanced (slide_code by right)
balanced_slide by true = balanced_many by Right refl
balanced_slide by false = balanced_many by Left refl

-- as long as the cell is not 0, the body and then a shift
pub does_walk : {input : List ℕ} {body : List Command} {s s' : Tape} {t n : ℕ} (h c by : ℕ) (right : Bool) → h < 256 → c < 256 → by ≤ 256 → IsBalanced body → Walks input body c by right s s' t n → Does input (walk_code h c by right body) h s c s' (n + 512)
does_walk {body = body} h c by right lh lc le b walks = does_while h c lh lc (balanced_append body (slide_code by right) b (balanced_slide by right)) (repeats_of le walks)

-- the frame moves
pub does_shift : (input : List ℕ) (h by : ℕ) (right : Bool) (s : Tape) → h < 256 → by ≤ 256 → (right ≡ false → by ≤ s.base) → Does input (shift_code h by right) h s 0 (shifted s by right) 512
does_shift input h by right s lh le fits = does_then 512 (does_goto input h 0 s 255 (omega arith)) (does_slide input by right s fits) (omega arith)

pub balanced_shift : (h by : ℕ) (right : Bool) → IsBalanced (shift_code h by right)
balanced_shift h by right = balanced_append (goto_code h 0) (slide_code by right) (balanced_goto h 0) (balanced_slide by right)

pub balanced_walk : (h c by : ℕ) (right : Bool) (body : List Command) → IsBalanced body → IsBalanced (walk_code h c by right body)
balanced_walk h c by right body b = balanced_while h c (body ++ slide_code by right) (balanced_append body (slide_code by right) b (balanced_slide by right))

-- turns that take the cell down by themselves
counts_turns : {input : List ℕ} {body : List Command} {c : ℕ} {s s' : Tape} {n : ℕ} → Counts input body c s s' n → Turns input (Minus ∷ body) c s s' n
counts_turns (Done s z) = over s z
counts_turns {input = input} {body = body} {c = c} (Again s s' s'' a b k is does more) =
    let e : a + 1 + 1 + b ≡ a + 2 + b = omega arith in
    let minus : Does input (Minus ∷ []) c s c (put s c k) 1 = subst (λ v. Does input (Minus ∷ []) c s c (put s c (lowered v)) 1) is (does_minus input c s) in
    subst (λ m. Turns input (Minus ∷ body) c s s'' m) e
    (turn s s' s'' (a + 1) b (λ z. absurd (omega (arith, is, z))) (does_then (a + 1) minus does (omega arith)) (counts_turns more))

pub balanced_times : (h c : ℕ) (body : List Command) → IsBalanced body → IsBalanced (times_code h c body)
balanced_times h c body b = balanced_append (goto_code h c) (loop (Minus ∷ body)) (balanced_goto h c) (balanced_loop (Minus ∷ body) b)

-- as often as a cell says
pub does_times : {input : List ℕ} {body : List Command} {s s' : Tape} {n : ℕ} (h c : ℕ) → h < 256 → c < 256 → IsBalanced body → Counts input body c s s' n → Does input (times_code h c body) h s c s' (n + 512)
does_times {input = input} {body = body} {s = s} {n = n} h c lh lc b counts =
    does_then (n + 512) (does_goto input h c s 255 (omega arith)) (does_loop {body = Minus ∷ body} b (counts_turns counts)) (omega arith)

-- a cell that is known
pub put_same : (s : Tape) (c v : ℕ) → get s c ≡ v → put s c v ≡ s
put_same s c v e = ap (λ x. put s c x) (sym e) ∙ held s (c ∷ [])

pub get_put : (s : Tape) (c v : ℕ) → get (put s c v) c ≡ v
get_put s c v = get_held s (c ∷ []) (v ∷ []) 0 (tt, tt) (omega arith) refl

pub get_other : (s : Tape) (c d v : ℕ) → c ≢ d → get (put s c v) d ≡ get s d
get_other s c d v differ = ap (λ t. cond t v (s.cells (s.base + d))) (ne_eqb (s.base + d) (s.base + c) (λ e. differ (omega arith)))

module _ (input : List ℕ) (h c spare : ℕ) (this other : List Command) (lh : h < 256) (lc : c < 256) (ls : spare < 256) (differ : c ≢ spare) (b : IsBalanced this) (b' : IsBalanced other) where
  abbrev first : List Command
  first = goto_code c 0 ++ this ++ goto_code 0 spare ++ (Minus ∷ []) ++ goto_code spare c ++ loop (Minus ∷ [])

  abbrev second : List Command
  second = goto_code spare 0 ++ other ++ goto_code 0 spare ++ (Minus ∷ [])

  pub balanced_first : IsBalanced first
  balanced_first =
      balanced_append (goto_code c 0 ++ this ++ goto_code 0 spare ++ (Minus ∷ []) ++ goto_code spare c) (loop (Minus ∷ []))
      (balanced_append (goto_code c 0 ++ this ++ goto_code 0 spare ++ (Minus ∷ [])) (goto_code spare c)
      (balanced_append (goto_code c 0 ++ this ++ goto_code 0 spare) (Minus ∷ [])
      (balanced_append (goto_code c 0 ++ this) (goto_code 0 spare) (balanced_append (goto_code c 0) this (balanced_goto c 0) b) (balanced_goto 0 spare)) refl)
      (balanced_goto spare c)) refl

  pub balanced_second : IsBalanced second
  balanced_second =
      balanced_append (goto_code spare 0 ++ other ++ goto_code 0 spare) (Minus ∷ [])
      (balanced_append (goto_code spare 0 ++ other) (goto_code 0 spare) (balanced_append (goto_code spare 0) other (balanced_goto spare 0) b') (balanced_goto 0 spare)) refl

  -- the cell to spare is 1
  ready : (s : Tape) → Does input (clear_code h spare ++ (Plus ∷ []) ++ goto_code spare c) h s c (put s spare 1) 2048
  ready s =
      let one : put (put s spare 0) spare (raised (get (put s spare 0) spare)) ≡ put s spare 1 =
      ap (λ v. put (put s spare 0) spare (raised v)) (get_put s spare 0) ∙ put_held s (spare ∷ []) (0 ∷ []) 0 1 (tt, tt) (omega arith) refl in
      does_then 2048 (does_then 1025 (does_clear input h spare s lh ls) (subst (λ t. Does input (Plus ∷ []) spare (put s spare 0) spare t 1) one (does_plus input spare (put s spare 0))) (omega arith)) (does_goto input spare c (put s spare 1) 255 (omega arith)) (omega arith)

  -- the cell is not 0
  pub does_this : (s t : Tape) (n : ℕ) → get s c ≢ 0 → Does input this 0 (put s spare 1) 0 t n → get t spare ≡ 1 → Does input (if_code h c spare this other) h s spare (put (put t spare 0) c 0) (n + 8192)
  does_this s t n on does kept =
      let s1 : Tape = put s spare 1 in
      let t1 : Tape = put t spare 0 in
      let t2 : Tape = put t1 c 0 in
      let still : get s1 c ≢ 0 = λ e. on (sym (get_other s spare c 1 (λ x. differ (sym x))) ∙ e) in
      let minus : Does input (Minus ∷ []) spare t spare t1 1 = subst (λ v. Does input (Minus ∷ []) spare t spare (put t spare v) 1) (ap lowered kept) (does_minus input spare t) in
      let clear : Does input (goto_code spare c ++ loop (Minus ∷ [])) spare t1 c t2 1024 = does_clear input spare c t1 ls lc in
      let body : Does input first c s1 c t2 (n + 2000) =
      let e : first ≡ goto_code c 0 ++ this ++ goto_code 0 spare ++ (Minus ∷ []) ++ (goto_code spare c ++ loop (Minus ∷ [])) = append_assoc (goto_code c 0 ++ this ++ goto_code 0 spare ++ (Minus ∷ [])) (goto_code spare c) (loop (Minus ∷ [])) in
      subst (λ xs. Does input xs c s1 c t2 (n + 2000)) (sym e)
      (does_then (n + 2000)
      (does_then (n + 600) (does_then (n + 510) (does_then (n + 255) (does_goto input c 0 s1 255 (omega arith)) does (omega arith)) (does_goto input 0 spare t 255 (omega arith)) (omega arith)) minus (omega arith))
      clear (omega arith)) in
      let turns : Turns input first c s1 t2 (n + 2000 + 1 + 0) = turn s1 t2 t2 (n + 2000) 0 still body (over t2 (get_put t1 c 0)) in
      let zero_there : get t2 spare ≡ 0 = get_other t1 c spare 0 differ ∙ get_put t spare 0 in
      does_then (n + 8192)
      (does_then (n + 6000) (does_then (n + 5000) (ready s) (does_loop balanced_first turns) (omega arith)) (does_goto input c spare t2 255 (omega arith)) (omega arith))
      (does_loop balanced_second (over t2 zero_there)) (omega arith)

  -- the cell is 0
  pub does_other : (s t : Tape) (n : ℕ) → get s c ≡ 0 → Does input other 0 (put s spare 1) 0 t n → get t spare ≡ 1 → Does input (if_code h c spare this other) h s spare (put t spare 0) (n + 8192)
  does_other s t n off does kept =
      let s1 : Tape = put s spare 1 in
      let t1 : Tape = put t spare 0 in
      let still : get s1 c ≡ 0 = get_other s spare c 1 (λ x. differ (sym x)) ∙ off in
      let one : get s1 spare ≢ 0 = λ e. absurd (omega (arith, get_put s spare 1)) in
      let minus : Does input (Minus ∷ []) spare t spare t1 1 = subst (λ v. Does input (Minus ∷ []) spare t spare (put t spare v) 1) (ap lowered kept) (does_minus input spare t) in
      let body : Does input second spare s1 spare t1 (n + 600) =
      does_then (n + 600) (does_then (n + 510) (does_then (n + 255) (does_goto input spare 0 s1 255 (omega arith)) does (omega arith)) (does_goto input 0 spare t 255 (omega arith)) (omega arith)) minus (omega arith) in
      let turns : Turns input second spare s1 t1 (n + 600 + 1 + 0) = turn s1 t1 t1 (n + 600) 0 one body (over t1 (get_put t spare 0)) in
      does_then (n + 8192)
      (does_then 6000 (does_then 5000 (ready s) (does_loop balanced_first (over s1 still)) (omega arith)) (does_goto input c spare s1 255 (omega arith)) (omega arith))
      (does_loop balanced_second turns) (omega arith)

-- turns that count a cell down
pub counted_repeats : (input : List ℕ) (body : List Command) (c most top : ℕ) (at : ℕ → Tape) → ((n : ℕ) → get (at n) c ≡ n) → ((n : ℕ) → n < top → Does input body 0 (at (suc n)) 0 (at n) most) → (n : ℕ) → n ≤ top → Repeats input body c (at n) (at 0) (n * (most + 512))
counted_repeats input body c most top at is step zero le = let e : 0 ≡ 0 * (most + 512) = omega arith in subst (λ k. Repeats input body c (at 0) (at 0) k) e (Over (at 0) (is 0))
counted_repeats input body c most top at is step (suc n) le =
    let e : most + 512 + n * (most + 512) ≡ suc n * (most + 512) = omega (arith, suc-mul n (most + 512)) in
    subst (λ k. Repeats input body c (at (suc n)) (at 0) k) e (Turn (at (suc n)) (at n) (at 0) most (n * (most + 512)) (λ z. absurd (omega (arith, is (suc n)))) (step n (omega arith)) (counted_repeats input body c most top at is step n (omega arith)))

pub balanced_if : (h c spare : ℕ) (this other : List Command) → IsBalanced this → IsBalanced other → IsBalanced (if_code h c spare this other)
balanced_if h c spare this other b b' =
    balanced_append (clear_code h spare ++ (Plus ∷ []) ++ goto_code spare c ++ then_loop c spare this ++ goto_code c spare) (else_loop spare other)
    (balanced_append (clear_code h spare ++ (Plus ∷ []) ++ goto_code spare c ++ then_loop c spare this) (goto_code c spare)
    (balanced_append (clear_code h spare ++ (Plus ∷ []) ++ goto_code spare c) (then_loop c spare this)
    (balanced_append (clear_code h spare ++ (Plus ∷ [])) (goto_code spare c) (balanced_append (clear_code h spare) (Plus ∷ []) (balanced_clear h spare) refl) (balanced_goto spare c))
    (balanced_loop (then_body c spare this)
    (balanced_append (goto_code c 0 ++ this ++ goto_code 0 spare ++ (Minus ∷ []) ++ goto_code spare c) (loop (Minus ∷ []))
    (balanced_append (goto_code c 0 ++ this ++ goto_code 0 spare ++ (Minus ∷ [])) (goto_code spare c)
    (balanced_append (goto_code c 0 ++ this ++ goto_code 0 spare) (Minus ∷ [])
    (balanced_append (goto_code c 0 ++ this) (goto_code 0 spare) (balanced_append (goto_code c 0) this (balanced_goto c 0) b) (balanced_goto 0 spare)) refl)
    (balanced_goto spare c)) refl)))
    (balanced_goto c spare))
    (balanced_loop (goto_code spare 0 ++ other ++ goto_code 0 spare ++ (Minus ∷ []))
    (balanced_append (goto_code spare 0 ++ other ++ goto_code 0 spare) (Minus ∷ [])
    (balanced_append (goto_code spare 0 ++ other) (goto_code 0 spare) (balanced_append (goto_code spare 0) other (balanced_goto spare 0) b') (balanced_goto 0 spare)) refl))
