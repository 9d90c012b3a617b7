-- How what commands do is joined.
use Rattle.std.proofs.Common.{◌≡◌, ◌≢◌, ℕ, zero, suc, ◌+◌, ◌^◌, ◌<◌, ◌≤◌, true, false, nat_eq, nat_lt, cond, List, [], ◌∷◌, ◌++◌, length, drop, Option, Some, None, refl, sym, ap, subst, ◌∙◌, arith, add-zero, add-one, append_assoc, append-nil, length-append, eq-eqb, ne_eqb}
use Rattle.std.proofs.lemmas.Bool.{lt-ltb}
use Rattle.std.proofs.lemmas.Bool.Decides.{nat_tests}
use Rattle.mach_core.specs.declared.machine.Status.TheVariants.{Going, Ended, Fault}
use Rattle.mach_core.specs.Rule.{Moment, applied, run_from, input_at, IsInput}
use Rattle.mach_core.proofs.Inputs.{input_at_byte}
use Rattle.mach_core.proofs.Runs.{applied-going, run_from-add}
use Rattle.bf_lang.specs.declared.command.Command.{Command}
use Rattle.bf_lang.specs.declared.command.Command.TheVariants.{Right, Left, Plus, Minus, Write, Read, Open, Close}
use Rattle.bf_lang.specs.Cells.{Cells, cell_at, with_cell, raised, lowered}
use Rattle.bf_lang.specs.Balance.{IsBalanced}
use Rattle.bf_lang.specs.Step.{Config, bf_rule, close_in, open_before, after, to_left, takes, bytes_of, here}
use Rattle.mach_core.proofs.Lists.{at_head, after_head, inside, skipped}
use Rattle.bf_lang.proofs.TapeCells.{cell-with_cell}
use Rattle.bf_lang.proofs.Partners.{close_of_loop, open_of_loop, balanced_append, balanced_loop}
use Rattle.bf_tape.specs.Tape.{Tape, Shows, get, put, set_cell}
use Rattle.bf_tape.specs.Piece.{taken_in, written_out}
use Rattle.bf_tape.specs.Does.{Lands, Does, loop, Turns, Strides}
use Rattle.bf_tape.specs.Does.Turns.{Over, Turn}
use Rattle.bf_tape.specs.Does.Strides.{Stand, Stride}

-- what a command makes of a moment
abbrev pub moved_by : List Command → List ℕ → Moment Config → Option Command → Moment Config
moved_by code input m o = record {
  config = after code m.config o (cond (takes o) (input_at input m.taken) 0);
  taken = cond (takes o) (m.taken + 1) m.taken;
  output = m.output ++ bytes_of o m.config;
}

-- one command
pub command_step : (code : List Command) (input : List ℕ) (m : Moment Config) (x : Command) (xs : List Command) → drop m.config.place code ≡ x ∷ xs → m.config.fell ≡ false → applied (bf_rule code) input m ≡ moved_by code input m (Some x)
command_step code input m x xs e f =
    let going : (bf_rule code).standing m.config ≡ Going =
    ap (λ b. cond b (Fault 1) (cond (nat_lt m.config.place (length code)) Going Ended)) f ∙ ap (λ b. cond b Going Ended) (lt-ltb m.config.place (length code) (inside code m.config.place x xs e)) in
    applied-going (bf_rule code) input m going ∙ ap (λ o. moved_by code input m o) (at_head code m.config.place x xs e)

-- a moment that is at the next place
pub record Moved (m m' : Moment Config) (h : ℕ) (s : Tape) : Type 0 where
  pub on : m'.config.place ≡ m.config.place + 1
  pub shows : Shows m' h s

pub single : (input : List ℕ) (c : Command) (h : ℕ) (s : Tape) (h' : ℕ) (s' : Tape) → IsBalanced (c ∷ []) → ((code : List Command) (m : Moment Config) → Shows m h s → Moved m (moved_by code input m (Some c)) h' s') → Does input (c ∷ []) h s h' s' 1
single input c h s h' s' b f = record {
  balanced = b;
  lands = λ code rest m at shows.
      let there = f code m shows in
      let e : run_from (bf_rule code) input m 1 ≡ moved_by code input m (Some c) = command_step code input m c rest at shows.fell in
      record {
        count = 1;
        few = omega arith;
        stops = ap (λ x. x.config.place) e ∙ there.on;
        shows = subst (λ x. Shows x h' s') (sym e) there.shows;
      };
}

pub does_right : (input : List ℕ) (h : ℕ) (s : Tape) → Does input (Right ∷ []) h s (h + 1) s 1
does_right input h s = single input Right h s (h + 1) s refl (λ code m shows. record {
  on = refl;
  shows = record { head = omega (arith, shows.head); fell = shows.fell; cells = shows.cells; bytes = shows.bytes; taken = shows.taken; output = append-nil m.output ∙ shows.output };
})

pub does_left : (input : List ℕ) (h : ℕ) (s : Tape) → Does input (Left ∷ []) (h + 1) s h s 1
does_left input h s = single input Left (h + 1) s h s refl (λ code m shows.
    let e : m.config.head ≡ suc (s.base + h) = omega (arith, shows.head) in
    let there : Moment Config = record { config = record { place = m.config.place + 1; head = s.base + h; cells = m.config.cells; fell = m.config.fell }; taken = m.taken; output = m.output ++ [] } in
    let is : there ≡ moved_by code input m (Some Left) = ap (λ n. record { config = to_left m.config n; taken = m.taken; output = m.output ++ [] }) (sym e) in
    subst (λ x. Moved m x h s) is (record {
      on = refl;
      shows = record { head = refl; fell = shows.fell; cells = shows.cells; bytes = shows.bytes; taken = shows.taken; output = append-nil m.output ∙ shows.output };
    }))

pub bytes_put : (cells : ℕ → ℕ) (p v : ℕ) → ((q : ℕ) → cells q < 2 ^ 8) → v < 2 ^ 8 → (q : ℕ) → set_cell cells p v q < 2 ^ 8
bytes_put cells p v all one q = elim (nat_eq q p) as (λ b. cond b v (cells q) < 2 ^ 8) [ true ↦ one | false ↦ all q ]

-- the cell under the head, changed by a command
changed : (m : Moment Config) (h : ℕ) (s : Tape) (v : ℕ) → Shows m h s → (q : ℕ) → cell_at (with_cell m.config.cells m.config.head v) q ≡ (put s h v).cells q
changed m h s v shows q =
    cell-with_cell m.config.cells m.config.head v q
    ∙ (ap (λ p. cond (nat_eq q p) v (cell_at m.config.cells q)) shows.head ∙ ap (λ x. cond (nat_eq q (s.base + h)) v x) (shows.cells q))

pub here_is : (m : Moment Config) (h : ℕ) (s : Tape) → Shows m h s → here m.config ≡ get s h
here_is m h s shows = ap (λ p. cell_at m.config.cells p) shows.head ∙ shows.cells (s.base + h)

lowered_byte : (n : ℕ) → n < 2 ^ 8 → lowered n < 2 ^ 8
lowered_byte zero h = omega arith
lowered_byte (suc n) h = omega arith

pub does_plus : (input : List ℕ) (h : ℕ) (s : Tape) → Does input (Plus ∷ []) h s h (put s h (raised (get s h))) 1
does_plus input h s = single input Plus h s h (put s h (raised (get s h))) refl (λ code m shows. record {
  on = refl;
  shows = record {
    head = shows.head;
    fell = shows.fell;
    cells = λ q. ap (λ v. cell_at (with_cell m.config.cells m.config.head (raised v)) q) (here_is m h s shows) ∙ changed m h s (raised (get s h)) shows q;
    bytes = bytes_put s.cells (s.base + h) (raised (get s h)) shows.bytes (omega arith);
    taken = shows.taken;
    output = append-nil m.output ∙ shows.output;
  };
})

pub does_minus : (input : List ℕ) (h : ℕ) (s : Tape) → Does input (Minus ∷ []) h s h (put s h (lowered (get s h))) 1
does_minus input h s = single input Minus h s h (put s h (lowered (get s h))) refl (λ code m shows. record {
  on = refl;
  shows = record {
    head = shows.head;
    fell = shows.fell;
    cells = λ q. ap (λ v. cell_at (with_cell m.config.cells m.config.head (lowered v)) q) (here_is m h s shows) ∙ changed m h s (lowered (get s h)) shows q;
    bytes = bytes_put s.cells (s.base + h) (lowered (get s h)) shows.bytes (lowered_byte (get s h) (shows.bytes (s.base + h)));
    taken = shows.taken;
    output = append-nil m.output ∙ shows.output;
  };
})

-- the next byte of the input
pub does_read : (input : List ℕ) (h : ℕ) (s : Tape) → IsInput input → Does input (Read ∷ []) h s h (taken_in input s h) 1
does_read input h s is_input = single input Read h s h (taken_in input s h) refl (λ code m shows. record {
  on = refl;
  shows = record {
    head = shows.head;
    fell = shows.fell;
    cells = λ q. ap (λ t. cell_at (with_cell m.config.cells m.config.head (input_at input t)) q) shows.taken ∙ changed m h s (input_at input s.taken) shows q;
    bytes = bytes_put s.cells (s.base + h) (input_at input s.taken) shows.bytes (input_at_byte input s.taken is_input);
    taken = ap (λ t. t + 1) shows.taken;
    output = append-nil m.output ∙ shows.output;
  };
})

-- a byte for the output
pub does_write : (input : List ℕ) (h : ℕ) (s : Tape) → Does input (Write ∷ []) h s h (written_out s h) 1
does_write input h s = single input Write h s h (written_out s h) refl (λ code m shows. record {
  on = refl;
  shows = record {
    head = shows.head;
    fell = shows.fell;
    cells = shows.cells;
    bytes = shows.bytes;
    taken = shows.taken;
    output = ap (λ v. m.output ++ v ∷ []) (here_is m h s shows) ∙ ap (λ o. o ++ get s h ∷ []) shows.output;
  };
})

-- nothing
pub does_none : (input : List ℕ) (h : ℕ) (s : Tape) → Does input [] h s h s 0
does_none input h s = record { balanced = refl; lands = λ code rest m at shows. record { count = 0; few = omega arith; stops = sym (add-zero m.config.place); shows = shows } }

-- more commands allowed
pub does_within : {input : List ℕ} {cs : List Command} {h h' : ℕ} {s s' : Tape} {a : ℕ} (b : ℕ) → Does input cs h s h' s' a → a ≤ b → Does input cs h s h' s' b
does_within b f le = record { balanced = f.balanced; lands = λ code rest m at shows. let there = f.lands code rest m at shows in record { count = there.count; few = omega (arith, there.few); stops = there.stops; shows = there.shows } }

-- of a run of which the first part is known
pub lands_after : (code : List Command) (input : List ℕ) (m : Moment Config) (n k h most a b : ℕ) (s : Tape) → n ≤ a → Lands code input (run_from (bf_rule code) input m n) k h s b → a + b ≤ most → Lands code input m k h s most
lands_after code input m n k h most a b s le there few =
    let e : run_from (bf_rule code) input m (n + there.count) ≡ run_from (bf_rule code) input (run_from (bf_rule code) input m n) there.count = run_from-add (bf_rule code) input m n there.count in
    record {
      count = n + there.count;
      few = omega (arith, there.few);
      stops = ap (λ x. x.config.place) e ∙ there.stops;
      shows = subst (λ x. Shows x h s) (sym e) there.shows;
    }

-- the one after the other
pub does_then : {input : List ℕ} {xs ys : List Command} {h h' h'' : ℕ} {s s' s'' : Tape} {a b : ℕ} (most : ℕ) → Does input xs h s h' s' a → Does input ys h' s' h'' s'' b → a + b ≤ most → Does input (xs ++ ys) h s h'' s'' most
does_then {input = input} {xs = xs} {ys = ys} {h'' = h''} {s'' = s''} {a = a} {b = b} most f g few = record {
  balanced = balanced_append xs ys f.balanced g.balanced;
  lands = λ code rest m at shows.
      let first = f.lands code (ys ++ rest) m (at ∙ append_assoc xs ys rest) shows in
      let m' = run_from (bf_rule code) input m first.count in
      let at' : drop m'.config.place code ≡ ys ++ rest = ap (λ k. drop k code) first.stops ∙ skipped code m.config.place xs (ys ++ rest) (at ∙ append_assoc xs ys rest) in
      let second = g.lands code rest m' at' first.shows in
      let e : m'.config.place + length ys ≡ m.config.place + length (xs ++ ys) = omega (arith, first.stops, length-append xs ys) in
      lands_after code input m first.count (m.config.place + length (xs ++ ys)) h'' most a b s'' first.few (subst (λ k. Lands code input m' k h'' s'' b) e second) few;
}

-- a test of a cell
is_zero : (v : ℕ) → v ≡ 0 → nat_eq v 0 ≡ true
is_zero v e = eq-eqb v 0 e

not_zero : (v : ℕ) → v ≢ 0 → nat_eq v 0 ≡ false
not_zero v e = ne_eqb v 0 e

-- the moment at another place
abbrev pub placed : Moment Config → ℕ → Moment Config
placed m k = record { config = record { place = k; head = m.config.head; cells = m.config.cells; fell = m.config.fell }; taken = m.taken; output = m.output ++ [] }

shows_placed : (m : Moment Config) (k h : ℕ) (s : Tape) → Shows m h s → Shows (placed m k) h s
shows_placed m k h s shows = record { head = shows.head; fell = shows.fell; cells = shows.cells; bytes = shows.bytes; taken = shows.taken; output = append-nil m.output ∙ shows.output }

-- one command that only goes to a place
lands_placed : (code : List Command) (input : List ℕ) (m : Moment Config) (x : Command) (xs : List Command) (k h : ℕ) (s : Tape)
    → drop m.config.place code ≡ x ∷ xs → Shows m h s → moved_by code input m (Some x) ≡ placed m k → Lands code input m k h s 1
lands_placed code input m x xs k h s at shows is =
    let e : run_from (bf_rule code) input m 1 ≡ placed m k = command_step code input m x xs at shows.fell ∙ is in
    record { count = 1; few = omega arith; stops = ap (λ x. x.config.place) e; shows = subst (λ x. Shows x h s) (sym e) (shows_placed m k h s shows) }

-- what stands in a loop
at_body : (code body rest : List Command) (k : ℕ) → drop k code ≡ Open ∷ (body ++ Close ∷ rest) → drop (k + 1) code ≡ body ++ Close ∷ rest
at_body code body rest k at = ap (λ j. drop j code) (add-one k) ∙ after_head code k Open (body ++ Close ∷ rest) at

at_close : (code body rest : List Command) (k : ℕ) → drop k code ≡ Open ∷ (body ++ Close ∷ rest) → drop (k + 1 + length body) code ≡ Close ∷ rest
at_close code body rest k at = skipped code (k + 1) body (Close ∷ rest) (at_body code body rest k at)

-- a loop at its closing bracket
from_close : {input : List ℕ} {body : List Command} {h : ℕ} {s s' : Tape} {n : ℕ} (code rest : List Command) (k : ℕ) → IsBalanced body → drop k code ≡ Open ∷ (body ++ Close ∷ rest) → Turns input body h s s' n
    → (m : Moment Config) → m.config.place ≡ k + 1 + length body → Shows m h s → Lands code input m (k + 1 + length body + 1) h s' (n + 1)
from_close {input = input} {body = body} {h = h} code rest k b at (Over s zero_here) m here_at shows =
    let is_close : drop m.config.place code ≡ Close ∷ rest = ap (λ j. drop j code) here_at ∙ at_close code body rest k at in
    let e : moved_by code input m (Some Close) ≡ placed m (m.config.place + 1) = ap (λ t. placed m (cond t (m.config.place + 1) (open_before code m.config.place 0))) (is_zero (here m.config) (here_is m h s shows ∙ zero_here)) in
    let there = lands_placed code input m Close rest (m.config.place + 1) h s is_close shows e in
    record { count = there.count; few = there.few; stops = there.stops ∙ ap (λ j. j + 1) here_at; shows = there.shows }
from_close {input = input} {body = body} {h = h} code rest k b at (Turn s s' s'' p q on does turns) m here_at shows =
    let is_close : drop m.config.place code ≡ Close ∷ rest = ap (λ j. drop j code) here_at ∙ at_close code body rest k at in
    let back : open_before code m.config.place 0 ≡ k + 1 = ap (λ j. open_before code j 0) here_at ∙ open_of_loop code body rest k b at in
    let e : moved_by code input m (Some Close) ≡ placed m (k + 1) =
    ap (λ t. placed m (cond t (m.config.place + 1) (open_before code m.config.place 0))) (not_zero (here m.config) (λ z. on (sym (here_is m h s shows) ∙ z))) ∙ ap (placed m) back in
    let first = lands_placed code input m Close rest (k + 1) h s is_close shows e in
    let m1 = run_from (bf_rule code) input m first.count in
    let around = does.lands code (Close ∷ rest) m1 (ap (λ j. drop j code) first.stops ∙ at_body code body rest k at) first.shows in
    let m2 = run_from (bf_rule code) input m1 around.count in
    let last = from_close code rest k b at turns m2 (around.stops ∙ ap (λ j. j + length body) first.stops) around.shows in
    lands_after code input m first.count (k + 1 + length body + 1) h (p + 1 + q + 1) 1 (p + (q + 1)) s'' first.few
    (lands_after code input m1 around.count (k + 1 + length body + 1) h (p + (q + 1)) p (q + 1) s'' around.few last (omega arith)) (omega arith)

-- a loop
pub does_loop : {input : List ℕ} {body : List Command} {h : ℕ} {s s' : Tape} {n : ℕ} → IsBalanced body → Turns input body h s s' n → Does input (loop body) h s h s' (n + 1)
does_loop {input = input} {body = body} {h = h} {s' = s'} {n = n} b turns = record {
  balanced = balanced_loop body b;
  lands = λ code rest m at shows.
      let k = m.config.place in
      let at' : drop k code ≡ Open ∷ (body ++ Close ∷ rest) = at ∙ ap (λ xs. Open ∷ xs) (append_assoc body (Close ∷ []) rest) in
      let e : k + 1 + length body + 1 ≡ k + length (loop body) = omega (arith, length-append body (Close ∷ [])) in
      subst (λ j. Lands code input m j h s' (n + 1)) e (from_open code rest k at' turns m refl shows);
}
  where
    from_open : {s s' : Tape} {n : ℕ} (code rest : List Command) (k : ℕ) → drop k code ≡ Open ∷ (body ++ Close ∷ rest) → Turns input body h s s' n
        → (m : Moment Config) → m.config.place ≡ k → Shows m h s → Lands code input m (k + 1 + length body + 1) h s' (n + 1)
    from_open code rest k at (Over s zero_here) m here_at shows =
        let is_open : drop m.config.place code ≡ Open ∷ (body ++ Close ∷ rest) = ap (λ j. drop j code) here_at ∙ at in
        let e : moved_by code input m (Some Open) ≡ placed m (m.config.place + 1 + close_in 0 (drop (m.config.place + 1) code) + 1) =
        ap (λ t. placed m (cond t (m.config.place + 1 + close_in 0 (drop (m.config.place + 1) code) + 1) (m.config.place + 1))) (is_zero (here m.config) (here_is m h s shows ∙ zero_here)) in
        let j : m.config.place + 1 + close_in 0 (drop (m.config.place + 1) code) + 1 ≡ k + 1 + length body + 1 = ap (λ x. x + 1 + close_in 0 (drop (x + 1) code) + 1) here_at ∙ ap (λ x. k + 1 + x + 1) (close_of_loop code body rest k b at) in
        let there = lands_placed code input m Open (body ++ Close ∷ rest) (m.config.place + 1 + close_in 0 (drop (m.config.place + 1) code) + 1) h s is_open shows e in
        record { count = there.count; few = there.few; stops = there.stops ∙ j; shows = there.shows }
    from_open code rest k at (Turn s s' s'' p q on does turns) m here_at shows =
        let is_open : drop m.config.place code ≡ Open ∷ (body ++ Close ∷ rest) = ap (λ j. drop j code) here_at ∙ at in
        let e : moved_by code input m (Some Open) ≡ placed m (m.config.place + 1) =
        ap (λ t. placed m (cond t (m.config.place + 1 + close_in 0 (drop (m.config.place + 1) code) + 1) (m.config.place + 1))) (not_zero (here m.config) (λ z. on (sym (here_is m h s shows) ∙ z))) in
        let first = lands_placed code input m Open (body ++ Close ∷ rest) (m.config.place + 1) h s is_open shows e in
        let m1 = run_from (bf_rule code) input m first.count in
        let on_body : m1.config.place ≡ k + 1 = first.stops ∙ ap (λ j. j + 1) here_at in
        let around = does.lands code (Close ∷ rest) m1 (ap (λ j. drop j code) on_body ∙ at_body code body rest k at) first.shows in
        let m2 = run_from (bf_rule code) input m1 around.count in
        let last = from_close code rest k b at turns m2 (around.stops ∙ ap (λ j. j + length body) on_body) around.shows in
        lands_after code input m first.count (k + 1 + length body + 1) h (p + 1 + q + 1) 1 (p + (q + 1)) s'' first.few
        (lands_after code input m1 around.count (k + 1 + length body + 1) h (p + (q + 1)) p (q + 1) s'' around.few last (omega arith)) (omega arith)

-- one turn of a loop that is not over: from behind its `[` back to there, or past its `]`
pub turn_lands : {input : List ℕ} {body : List Command} {h : ℕ} {s s' : Tape} {n : ℕ} (code rest : List Command) (k : ℕ) → drop k code ≡ Open ∷ (body ++ Close ∷ rest) → Does input body h s h s' n
    → (m : Moment Config) → m.config.place ≡ k + 1 → Shows m h s → Lands code input m (cond (nat_eq (get s' h) 0) (k + 1 + length body + 1) (k + 1)) h s' (n + 1)
turn_lands {input = input} {body = body} {h = h} {s = s} {s' = s'} {n = n} code rest k at does m here_at shows =
    let around = does.lands code (Close ∷ rest) m (ap (λ j. drop j code) here_at ∙ at_body code body rest k at) shows in
    let m1 = run_from (bf_rule code) input m around.count in
    let place : m1.config.place ≡ k + 1 + length body = around.stops ∙ ap (λ j. j + length body) here_at in
    let is_close : drop m1.config.place code ≡ Close ∷ rest = ap (λ j. drop j code) place ∙ at_close code body rest k at in
    let back : open_before code m1.config.place 0 ≡ k + 1 = ap (λ j. open_before code j 0) place ∙ open_of_loop code body rest k does.balanced at in
    let e : moved_by code input m1 (Some Close) ≡ placed m1 (cond (nat_eq (get s' h) 0) (k + 1 + length body + 1) (k + 1)) =
    ap (λ v. placed m1 (cond (nat_eq v 0) (m1.config.place + 1) (open_before code m1.config.place 0))) (here_is m1 h s' around.shows)
    ∙ (λ i. placed m1 (cond (nat_eq (get s' h) 0) (place i + 1) (back i))) in
    lands_after code input m around.count (cond (nat_eq (get s' h) 0) (k + 1 + length body + 1) (k + 1)) h (n + 1) n 1 s' around.few
    (lands_placed code input m1 Close rest (cond (nat_eq (get s' h) 0) (k + 1 + length body + 1) (k + 1)) h s' is_close around.shows e) (omega arith)

-- a loop of strides at its closing bracket
stride_close : {input : List ℕ} {body : List Command} {h h' : ℕ} {s s' : Tape} {n : ℕ} (code rest : List Command) (k : ℕ) → IsBalanced body → drop k code ≡ Open ∷ (body ++ Close ∷ rest) → Strides input body h s h' s' n
    → (m : Moment Config) → m.config.place ≡ k + 1 + length body → Shows m h s → Lands code input m (k + 1 + length body + 1) h' s' (n + 1)
stride_close {input = input} {body = body} code rest k b at (Stand h s zero_here) m here_at shows =
    let is_close : drop m.config.place code ≡ Close ∷ rest = ap (λ j. drop j code) here_at ∙ at_close code body rest k at in
    let e : moved_by code input m (Some Close) ≡ placed m (m.config.place + 1) = ap (λ t. placed m (cond t (m.config.place + 1) (open_before code m.config.place 0))) (is_zero (here m.config) (here_is m h s shows ∙ zero_here)) in
    let there = lands_placed code input m Close rest (m.config.place + 1) h s is_close shows e in
    record { count = there.count; few = there.few; stops = there.stops ∙ ap (λ j. j + 1) here_at; shows = there.shows }
stride_close {input = input} {body = body} code rest k b at (Stride h h' h'' s s' s'' p q on does turns) m here_at shows =
    let is_close : drop m.config.place code ≡ Close ∷ rest = ap (λ j. drop j code) here_at ∙ at_close code body rest k at in
    let back : open_before code m.config.place 0 ≡ k + 1 = ap (λ j. open_before code j 0) here_at ∙ open_of_loop code body rest k b at in
    let e : moved_by code input m (Some Close) ≡ placed m (k + 1) =
    ap (λ t. placed m (cond t (m.config.place + 1) (open_before code m.config.place 0))) (not_zero (here m.config) (λ z. on (sym (here_is m h s shows) ∙ z))) ∙ ap (placed m) back in
    let first = lands_placed code input m Close rest (k + 1) h s is_close shows e in
    let m1 = run_from (bf_rule code) input m first.count in
    let around = does.lands code (Close ∷ rest) m1 (ap (λ j. drop j code) first.stops ∙ at_body code body rest k at) first.shows in
    let m2 = run_from (bf_rule code) input m1 around.count in
    let last = stride_close code rest k b at turns m2 (around.stops ∙ ap (λ j. j + length body) first.stops) around.shows in
    lands_after code input m first.count (k + 1 + length body + 1) h'' (p + 1 + q + 1) 1 (p + (q + 1)) s'' first.few
    (lands_after code input m1 around.count (k + 1 + length body + 1) h'' (p + (q + 1)) p (q + 1) s'' around.few last (omega arith)) (omega arith)

-- a loop of strides
pub does_strides : {input : List ℕ} {body : List Command} {h h' : ℕ} {s s' : Tape} {n : ℕ} → IsBalanced body → Strides input body h s h' s' n → Does input (loop body) h s h' s' (n + 1)
does_strides {input = input} {body = body} {h' = h'} {s' = s'} {n = n} b turns = record {
  balanced = balanced_loop body b;
  lands = λ code rest m at shows.
      let k = m.config.place in
      let at' : drop k code ≡ Open ∷ (body ++ Close ∷ rest) = at ∙ ap (λ xs. Open ∷ xs) (append_assoc body (Close ∷ []) rest) in
      let e : k + 1 + length body + 1 ≡ k + length (loop body) = omega (arith, length-append body (Close ∷ [])) in
      subst (λ j. Lands code input m j h' s' (n + 1)) e (stride_open code rest k at' turns m refl shows);
}
  where
    stride_open : {h h' : ℕ} {s s' : Tape} {n : ℕ} (code rest : List Command) (k : ℕ) → drop k code ≡ Open ∷ (body ++ Close ∷ rest) → Strides input body h s h' s' n
        → (m : Moment Config) → m.config.place ≡ k → Shows m h s → Lands code input m (k + 1 + length body + 1) h' s' (n + 1)
    stride_open code rest k at (Stand h s zero_here) m here_at shows =
        let is_open : drop m.config.place code ≡ Open ∷ (body ++ Close ∷ rest) = ap (λ j. drop j code) here_at ∙ at in
        let e : moved_by code input m (Some Open) ≡ placed m (m.config.place + 1 + close_in 0 (drop (m.config.place + 1) code) + 1) =
        ap (λ t. placed m (cond t (m.config.place + 1 + close_in 0 (drop (m.config.place + 1) code) + 1) (m.config.place + 1))) (is_zero (here m.config) (here_is m h s shows ∙ zero_here)) in
        let j : m.config.place + 1 + close_in 0 (drop (m.config.place + 1) code) + 1 ≡ k + 1 + length body + 1 = ap (λ x. x + 1 + close_in 0 (drop (x + 1) code) + 1) here_at ∙ ap (λ x. k + 1 + x + 1) (close_of_loop code body rest k b at) in
        let there = lands_placed code input m Open (body ++ Close ∷ rest) (m.config.place + 1 + close_in 0 (drop (m.config.place + 1) code) + 1) h s is_open shows e in
        record { count = there.count; few = there.few; stops = there.stops ∙ j; shows = there.shows }
    stride_open code rest k at (Stride h h' h'' s s' s'' p q on does turns) m here_at shows =
        let is_open : drop m.config.place code ≡ Open ∷ (body ++ Close ∷ rest) = ap (λ j. drop j code) here_at ∙ at in
        let e : moved_by code input m (Some Open) ≡ placed m (m.config.place + 1) =
        ap (λ t. placed m (cond t (m.config.place + 1 + close_in 0 (drop (m.config.place + 1) code) + 1) (m.config.place + 1))) (not_zero (here m.config) (λ z. on (sym (here_is m h s shows) ∙ z))) in
        let first = lands_placed code input m Open (body ++ Close ∷ rest) (m.config.place + 1) h s is_open shows e in
        let m1 = run_from (bf_rule code) input m first.count in
        let on_body : m1.config.place ≡ k + 1 = first.stops ∙ ap (λ j. j + 1) here_at in
        let around = does.lands code (Close ∷ rest) m1 (ap (λ j. drop j code) on_body ∙ at_body code body rest k at) first.shows in
        let m2 = run_from (bf_rule code) input m1 around.count in
        let last = stride_close code rest k b at turns m2 (around.stops ∙ ap (λ j. j + length body) on_body) around.shows in
        lands_after code input m first.count (k + 1 + length body + 1) h'' (p + 1 + q + 1) 1 (p + (q + 1)) s'' first.few
        (lands_after code input m1 around.count (k + 1 + length body + 1) h'' (p + (q + 1)) p (q + 1) s'' around.few last (omega arith)) (omega arith)
