-- What the calls add.
use Rattle.std.proofs.Common.{◌≡◌, ◌≢◌, ℕ, zero, suc, ◌+◌, ◌-◌, ◌<◌, ◌≤◌, Bool, true, false, cond, nat_lt, List, [], ◌∷◌, ◌++◌, length, Result, Ok, Err, OnOk, refl, sym, ap, subst, ◌∙◌, arith, length-append, append-nil}
use Rattle.mach_core.specs.Rule.{IsInput}
use Rattle.bf_lang.specs.declared.command.Command.{Command}
use Rattle.bf_lang.specs.declared.command.Command.TheVariants.{Right, Left, Plus, Minus, Open, Close}
use Rattle.bf_lang.specs.Balance.{IsBalanced}
use Rattle.bf_tape.specs.Tape.{Tape, get, put}
use Rattle.bf_tape.specs.Does.{Does, loop}
use Rattle.bf_tape.specs.Code.{many, goto_code, more_code, while_code, times_code, slide_code, walk_code, if_code}
use Rattle.bf_tape.specs.Piece.{Piece, joined, Adds, Loops, Strolls, Times, Chooses}
use Rattle.bf_tape.proofs.Turning.{balanced_while, does_while, balanced_walk, does_walk, balanced_times, does_times, balanced_if, does_this, does_other}

pub many_more : (count k : ℕ) (c : Command) → k < count → many (count - k) c ≡ c ∷ many (count - (k + 1)) c
many_more count k c h = let e : count - k ≡ suc (count - (k + 1)) = omega arith in ap (λ n. many n c) e

pub length-many : (n : ℕ) (c : Command) → length (many n c) ≡ n
length-many zero c = refl
length-many (suc n) c = omega (arith, length-many n c)

pub length_more : (v : ℕ) → v < 256 → length (more_code v) ≤ 128
length_more v lt = by (nat_lt 128 v) refl where
  by : (b : Bool) → nat_lt 128 v ≡ b → length (cond b (many (256 - v) Minus) (many v Plus)) ≤ 128
  by true e = let high : 128 < v = grind arith in omega (arith, length-many (256 - v) Minus)
  by false e = let low : v ≤ 128 = grind arith in omega (arith, length-many v Plus)

-- commands with an effect
pub adds_of : (p : Piece) (code : List Command) (cell : ℕ) (kind : Tape → Type 0) (effect : List ℕ → Tape → Tape) (most long : ℕ) → length code ≤ long → IsBalanced code
    → ((input : List ℕ) (s : Tape) → IsInput input → kind s → Does input code p.cell s cell (effect input s) most) → Adds p (joined p code cell) kind effect most long
adds_of p code cell kind effect most long short balanced does = record { added = code; commands = refl; short = short; balanced = balanced; does = does }

-- after commands were joined
pub code_done : {T E : Type 0} (r : Result T E) (old new : Piece) (code xs : List Command) (cell : ℕ) → OnOk r (new ≡ joined old code cell) → code ≡ xs → OnOk r (new ≡ joined old xs cell)
code_done (Ok x) old new code xs cell is same = is ∙ ap (λ ys. joined old ys cell) same
code_done (Err e) old new code xs cell is same = tt

pub done : {T E : Type 0} {kind : Tape → Type 0} {effect : List ℕ → Tape → Tape} {most long : ℕ} (r : Result T E) (old new : Piece) (code xs : List Command) (cell : ℕ) → OnOk r (new ≡ joined old code cell) → code ≡ xs → Adds old (joined old xs cell) kind effect most long → OnOk r (Adds old new kind effect most long)
done {kind = kind} {effect = effect} {most = most} {long = long} (Ok x) old new code xs cell is same adds = subst (λ p. Adds old p kind effect most long) (sym (is ∙ ap (λ ys. joined old ys cell) same)) adds
done (Err e) old new code xs cell is same adds = tt

-- a claim on the piece afterwards
pub claim_done : {T E : Type 0} (P : Piece → Type 0) (r : Result T E) (old new : Piece) (code xs : List Command) (cell : ℕ) → OnOk r (new ≡ joined old code cell) → code ≡ xs → P (joined old xs cell) → OnOk r (P new)
claim_done P (Ok x) old new code xs cell is same holds = subst (λ p. P p) (sym (is ∙ ap (λ ys. joined old ys cell) same)) holds
claim_done P (Err e) old new code xs cell is same holds = tt

pub adds_while : (p body : Piece) (c : ℕ) → p.cell < 256 → c < 256 → IsBalanced body.commands → Loops p (joined p (while_code p.cell c body.commands) c) body c
adds_while p body c hp hc b = record {
  added = while_code p.cell c body.commands;
  commands = refl;
  short = simp (length-append, length-many) (omega arith);
  balanced = balanced_while p.cell c body.commands b;
  does = λ input s s' n is_input repeats. does_while p.cell c hp hc b repeats;
}

pub length_slide : (by : ℕ) (right : Bool) → length (slide_code by right) ≡ by
length_slide by true = length-many by Right
length_slide by false = length-many by Left

pub adds_walk : (p body : Piece) (c by : ℕ) (right : Bool) → p.cell < 256 → c < 256 → by ≤ 256 → IsBalanced body.commands → Strolls p (joined p (walk_code p.cell c by right body.commands) c) body c by right
adds_walk p body c by right hp hc le b = record {
  added = walk_code p.cell c by right body.commands;
  commands = refl;
  short = simp (length-append, length-many, length_slide) (omega arith);
  balanced = balanced_walk p.cell c by right body.commands b;
  does = λ input s s' t n is_input walks. does_walk p.cell c by right hp hc le b walks;
}

pub adds_times : (p body : Piece) (c : ℕ) → p.cell < 256 → c < 256 → IsBalanced body.commands → Times p (joined p (times_code p.cell c body.commands) c) body c
adds_times p body c hp hc b = record {
  added = times_code p.cell c body.commands;
  commands = refl;
  short = simp (length-append, length-many) (omega arith);
  balanced = balanced_times p.cell c body.commands b;
  does = λ input s s' n is_input counts. does_times p.cell c hp hc b counts;
}

pub adds_if : (p this other : Piece) (c spare : ℕ) → p.cell < 256 → c < 256 → spare < 256 → c ≢ spare → IsBalanced this.commands → IsBalanced other.commands
    → Chooses p (joined p (if_code p.cell c spare this.commands other.commands) spare) this other c spare
adds_if p this other c spare hp hc hs differ b b' = record {
  added = if_code p.cell c spare this.commands other.commands;
  commands = refl;
  short = simp (length-append, length-many) (omega arith);
  balanced = balanced_if p.cell c spare this.commands other.commands b b';
  does_this = λ input s t n is_input on does kept. does_this input p.cell c spare this.commands other.commands hp hc hs differ b b' s t n on does kept;
  does_other = λ input s t n is_input off does kept. does_other input p.cell c spare this.commands other.commands hp hc hs differ b b' s t n off does kept;
}
