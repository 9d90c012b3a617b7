-- The Brainfuck program follows the EIR program.
use Rattle.std.proofs.Common.{◌≡◌, ℕ, zero, suc, ◌+◌, ◌-◌, ◌*◌, ◌^◌, ◌<◌, ◌≤◌, Bool, true, false, nat_eq, nat_lt, cond, List, [], ◌∷◌, ◌++◌, length, drop, Some, unwrap_or, refl, sym, ap, subst, ◌∙◌, arith, add-one, append-nil, length-append}
use Rattle.std.proofs.lemmas.Bool.{ltb-true, ltb-false, lt-ltb, le-ltb}
use Rattle.std.specs.FinMap as map
use Rattle.std.specs.Ordering.{nat_cmp}
use Rattle.mach_core.specs.declared.machine.Status.TheVariants.{Going, Ended, Fault}
use Rattle.mach_core.specs.Rule.{Moment, IsInput, input_at, applied, run_from, run, at_start}
use Rattle.mach_core.proofs.Lists.{after_head, skipped, drop_none}
use Rattle.mach_core.proofs.Runs.{applied-going, run_from-add}
use Rattle.mach_core.proofs.Inputs.{input_at_byte}
use Rattle.word24.specs.Word.{IsWord}
use Rattle.eir_core.specs.declared.ops.Op.{Op}
use Rattle.eir_core.specs.declared.ops.Op.TheVariants.{Mov, Add, Sub, Load, Store, Putc, Getc, Set, Exit, Jump, JumpIf}
use Rattle.eir_core.specs.Eir.{Eir, IsEir}
use Rattle.eir_core.specs.Step.{Config, op_at, after, eir_rule, eir_start, takes, bytes_of}
use Rattle.eir_core.specs.Words.{IsWords, IsPlaced}
use Rattle.eir_core.proofs.WordsKept.{after-IsWords, eir_start-IsWords}
use Rattle.eir_core.proofs.Placed.{after-IsPlaced, eir_start-IsPlaced, op_at_placed}
use Rattle.sim_trait.specs.Alike.{Alike, StandsAs}
use Rattle.bf_lang.specs.declared.command.Command.{Command}
use Rattle.bf_lang.specs.declared.command.Command.TheVariants.{Open, Close}
use Rattle.bf_lang.specs.Step.{Config as BfConfig, bf_rule, bf_start, open_before, close_in}
use Rattle.bf_lang.proofs.Partners.{open_of_loop}
use Rattle.bf_tape.specs.Tape.{Tape, Shows, get, put}
use Rattle.bf_tape.specs.Does.{loop}
use Rattle.bf_tape.proofs.Moves.{moved_by, command_step, here_is}
use Rattle.bf_tape.proofs.Turning.{get_other}
use Rattle.bf_ops.specs.Perform.{steps_of}
use Rattle.bf_choice.specs.Choice.{chosen, bit_cell, spare_cell, digits_of}
use Rattle.bf_turn.specs.Number.{digits_in, number_at}
use Rattle.bf_turn.specs.Turn.{IsSettled, choosing, Settles, Stops, turn_most}
use Rattle.bf_turn.proofs.Beside.{of_chosen, keeps_same}
use Rattle.bf_back.specs.Data.{blank, loaded}
use Rattle.bf_back.specs.Related.{loop_place, Related}
use Rattle.bf_back.specs.Whole.{words_of, IsWhole}
use Rattle.bf_back.proofs.Loaded.{laid_of}

-- a tape with other bytes taken and written
abbrev told : Tape → ℕ → List ℕ → Tape
told s k o = record { base = s.base; cells = s.cells; taken = k; output = o }

chosen_told : (d : ℕ) (bs : List Bool) (s : Tape) (k : ℕ) (o : List ℕ) → chosen d bs (told s k o) ≡ told (chosen d bs s) k o
chosen_told zero bs s k o = refl
chosen_told (suc d) [] s k o = refl
chosen_told (suc d) (b ∷ bs) s k o = chosen_told d bs (put (put s (bit_cell d) (cond b 1 0)) (spare_cell d) 0) k o

chosen_first : (d : ℕ) (bs : List Bool) (s : Tape) → get (chosen d bs s) 0 ≡ get s 0
chosen_first zero bs s = refl
chosen_first (suc d) [] s = refl
chosen_first (suc d) (b ∷ bs) s =
    chosen_first d bs (put (put s (bit_cell d) (cond b 1 0)) (spare_cell d) 0) ∙ (get_other (put s (bit_cell d) (cond b 1 0)) (spare_cell d) 0 0 (omega arith) ∙ get_other s (bit_cell d) 0 (cond b 1 0) (omega arith))

-- the byte that an operation is fed matters only where it takes one
fed_same : (p : Eir) (c : Config) (op : Op) (x : ℕ) → after p c (Some op) (cond (takes (Some op)) x 0) ≡ after p c (Some op) x
fed_same p c (Mov r v) x = refl
fed_same p c (Add r v) x = refl
fed_same p c (Sub r v) x = refl
fed_same p c (Load r v) x = refl
fed_same p c (Store r v) x = refl
fed_same p c (Putc v) x = refl
fed_same p c (Getc r) x = refl
fed_same p c (Set test r v) x = refl
fed_same p c Exit x = refl
fed_same p c (Jump v) x = refl
fed_same p c (JumpIf test v r w) x = refl

pub going_below : (p : Eir) (c : Config) → (eir_rule p).standing c ≡ Going → c.block < length p.blocks
going_below p c e = elim (nat_lt c.block (length p.blocks)) as (λ b. nat_lt c.block (length p.blocks) ≡ b → cond b Going Ended ≡ Going → c.block < length p.blocks) [
  | true ↦ λ y _. ltb-true c.block (length p.blocks) y
  | false ↦ λ y g. cc
] refl e

module _ (p : Eir) (sound : IsEir p) (code : List Command) (w : IsWhole p code) where
  abbrev body : List Command
  body = w.body

  abbrev k : ℕ
  k = length w.setup

  at_loop : drop k code ≡ Open ∷ (body ++ Close ∷ [])
  at_loop = let e : k ≡ 0 + k = omega arith in ap (λ j. drop j code) e ∙ skipped code 0 w.setup (loop body) (drop_none code ∙ w.parts)

  at_body : drop (k + 1) code ≡ body ++ Close ∷ []
  at_body = ap (λ j. drop j code) (add-one k) ∙ after_head code k Open (body ++ Close ∷ []) at_loop

  at_close : drop (k + 1 + length body) code ≡ Close ∷ []
  at_close = skipped code (k + 1) body (Close ∷ []) at_body

  long : length code ≡ k + 1 + length body + 1
  long = omega (arith, ap length w.parts, length-append w.setup (loop body), length-append body (Close ∷ []))

  back : open_before code (k + 1 + length body) 0 ≡ k + 1
  back = open_of_loop code body [] k w.balanced at_loop

  pub place_is : loop_place code ≡ k + 1
  place_is = let e : length code - 1 ≡ k + 1 + length body = omega (arith, long) in ap (λ j. open_before code j 0) e ∙ back

  -- the last command
  closes : (input : List ℕ) (m : Moment BfConfig) (t : Tape) → m.config.place ≡ k + 1 + length body → Shows m 0 t
      → ((applied (bf_rule code) input m).config.place ≡ cond (nat_eq (get t 0) 0) (length code) (k + 1)) × Shows (applied (bf_rule code) input m) 0 t
  closes input m t at shows =
      let step : applied (bf_rule code) input m ≡ moved_by code input m (Some Close) = command_step code input m Close [] (ap (λ j. drop j code) at ∙ at_close) shows.fell in
      let past : m.config.place + 1 ≡ length code = omega (arith, at, long) in
      let again : open_before code m.config.place 0 ≡ k + 1 = ap (λ j. open_before code j 0) at ∙ back in (
        ap (λ x. x.config.place) step
            ∙ (ap (λ v. cond (nat_eq v 0) (m.config.place + 1) (open_before code m.config.place 0)) (here_is m 0 t shows) ∙ (λ i. cond (nat_eq (get t 0) 0) (past i) (again i))),
        subst (λ x. Shows x 0 t) (sym step) (record { head = shows.head; fell = shows.fell; cells = shows.cells; bytes = shows.bytes; taken = shows.taken; output = append-nil m.output ∙ shows.output }),
      )

  -- where a turn begins
  record At (c : Config) (m : Moment BfConfig) : Type 0 where
    place : m.config.place ≡ k + 1
    tape : Tape
    shows : Shows m 0 (choosing p c tape)
    settled : IsSettled p c tape

  -- what can be seen, and what is related
  record Arrives (c : Config) (m : Moment BfConfig) (taken : ℕ) (output : List ℕ) : Type 0 where
    related : Related p code c m.config
    taken_is : m.taken ≡ taken
    output_is : m.output ≡ output

  taken_there : (c : Config) (m : Moment BfConfig) (a : At c m) → m.taken ≡ a.tape.taken
  taken_there c m a = a.shows.taken ∙ of_chosen (λ t. t.taken) (λ t x v. refl) (digits_in p) (digits_of (digits_in p) (number_at p c.block c.index)) a.tape

  output_there : (c : Config) (m : Moment BfConfig) (a : At c m) → m.output ≡ a.tape.output
  output_there c m a = a.shows.output ∙ of_chosen (λ t. t.output) (λ t x v. refl) (digits_in p) (digits_of (digits_in p) (number_at p c.block c.index)) a.tape

  related_at : (c : Config) (m : Moment BfConfig) → IsWords c → IsPlaced p c → c.block < length p.blocks → At c m → Related p code c m.config
  related_at c m words placed within a = record {
    words = words;
    placed = placed;
    going = λ _. record {
      place = a.place ∙ sym place_is;
      tape = a.tape;
      shows = record { head = a.shows.head; fell = a.shows.fell; cells = a.shows.cells; bytes = a.shows.bytes; taken = sym (taken_there c m a) ∙ a.shows.taken; output = sym (output_there c m a) ∙ a.shows.output };
      settled = a.settled;
    };
    ended = λ past. absurd (omega (arith, past, within));
  }

  arrives : (input : List ℕ) (c : Config) (m : Moment BfConfig) → IsInput input → IsWords c → IsPlaced p c → (a : At c m) → (j : ℕ) × (j ≤ turn_most p + 1) × Arrives c (run_from (bf_rule code) input m j) m.taken m.output
  arrives input c m is words placed a =
      elim (nat_lt c.block (length p.blocks)) as (λ t. nat_lt c.block (length p.blocks) ≡ t → (j : ℕ) × (j ≤ turn_most p + 1) × Arrives c (run_from (bf_rule code) input m j) m.taken m.output) [
        | true ↦ λ t. (0, omega arith, record { related = related_at c m words placed (ltb-true c.block (length p.blocks) t) a; taken_is = refl; output_is = refl })
        | false ↦ λ t.
            let past : length p.blocks ≤ c.block = ltb-false c.block (length p.blocks) t in
            let stops : Stops input body (choosing p c a.tape) a.tape.taken a.tape.output (turn_most p) = w.turn.ends input c a.tape is a.settled past in
            let lands = stops.does.lands code (Close ∷ []) m (ap (λ j. drop j code) a.place ∙ at_body) a.shows in
            let m1 : Moment BfConfig = run_from (bf_rule code) input m lands.count in
            let close = closes input m1 stops.tape (lands.stops ∙ ap (λ j. j + length body) a.place) lands.shows in (
              suc lands.count,
              omega (arith, lands.few),
              record {
                related = record {
                  words = words;
                  placed = placed;
                  going = λ within. absurd (omega (arith, past, within));
                  ended = λ _. (close.0 ∙ ap (λ v. cond (nat_eq v 0) (length code) (k + 1)) stops.zero, close.1.fell);
                };
                taken_is = close.1.taken ∙ (stops.taken_is ∙ sym (taken_there c m a));
                output_is = close.1.output ∙ (stops.output_is ∙ sym (output_there c m a));
              },
            )
      ] refl

  -- one step of the program
  pub follows : (input : List ℕ) (s : Moment Config) (m : Moment BfConfig) → IsInput input → Alike (Related p code) s m → (eir_rule p).standing s.config ≡ Going
      → (op : Op) × (op_at p s.config ≡ Some op) × ((j : ℕ) × (1 ≤ j) × (j ≤ steps_of op s.config.regs + 2 * turn_most p + 2) × Alike (Related p code) (applied (eir_rule p) input s) (run_from (bf_rule code) input m j))
  follows input s m is alike going =
      let c : Config = s.config in
      let rel = alike.related in
      let within : c.block < length p.blocks = going_below p c going in
      let at = rel.going within in
      let t : Tape = told at.tape m.taken m.output in
      let found = op_at_placed p c rel.placed within in
      let op : Op = found.0 in
      let shows : Shows m 0 (choosing p c t) =
      subst (λ u. Shows m 0 u) (sym (chosen_told (digits_in p) (digits_of (digits_in p) (number_at p c.block c.index)) at.tape m.taken m.output))
      (record { head = at.shows.head; fell = at.shows.fell; cells = at.shows.cells; bytes = at.shows.bytes; taken = refl; output = refl }) in
      let settled : IsSettled p c t = record { running = at.settled.running; bare = at.settled.bare; spare = at.settled.spare; flag = at.settled.flag; keeps = keeps_same c.regs c.memory at.tape t (λ x far. refl) at.settled.keeps } in
      let byte : ℕ = input_at input m.taken in
      let c' : Config = after p c (Some op) byte in
      let set : Settles input body (choosing p c t) p c' t.base (cond (takes (Some op)) (m.taken + 1) m.taken) (m.output ++ bytes_of c.regs (Some op)) (steps_of op c.regs + turn_most p) =
      w.turn.goes input c op t is (record { regs = rel.words.regs; memory = rel.words.memory }) settled found.1 in
      let lands = set.does.lands code (Close ∷ []) m (ap (λ j. drop j code) (at.place ∙ place_is) ∙ at_body) shows in
      let m1 : Moment BfConfig = run_from (bf_rule code) input m lands.count in
      let close = closes input m1 (choosing p c' set.tape) (lands.stops ∙ ap (λ j. j + length body) (at.place ∙ place_is)) lands.shows in
      let m2 : Moment BfConfig = run_from (bf_rule code) input m (suc lands.count) in
      let one : get (choosing p c' set.tape) 0 ≡ 1 = chosen_first (digits_in p) (digits_of (digits_in p) (number_at p c'.block c'.index)) set.tape ∙ set.settled.running in
      let a : At c' m2 = record { place = close.0 ∙ ap (λ v. cond (nat_eq v 0) (length code) (k + 1)) one; tape = set.tape; shows = close.1; settled = set.settled } in
      let arr = arrives input c' m2 is (after-IsWords p c (Some op) byte rel.words (byte_word (input_at_byte input m.taken is))) (after-IsPlaced p c (Some op) byte sound rel.placed) a in
      let there = arr.2 in
      let next : Moment Config = record { config = c'; taken = cond (takes (Some op)) (m.taken + 1) m.taken; output = m.output ++ bytes_of c.regs (Some op) } in
      let same : applied (eir_rule p) input s ≡ next =
      applied-going (eir_rule p) input s going
      ∙ (ap (λ o. record { config = after p c o (cond (takes o) (input_at input s.taken) 0); taken = cond (takes o) (s.taken + 1) s.taken; output = s.output ++ bytes_of c.regs o }) found.1
      ∙ (ap (λ x. record { config = x; taken = cond (takes (Some op)) (s.taken + 1) s.taken; output = s.output ++ bytes_of c.regs (Some op) }) (fed_same p c op (input_at input s.taken))
      ∙ (λ i. record { config = after p c (Some op) (input_at input (sym alike.taken i)); taken = cond (takes (Some op)) (sym alike.taken i + 1) (sym alike.taken i); output = sym alike.output i ++ bytes_of c.regs (Some op) }))) in
      let run_is : run_from (bf_rule code) input m (suc lands.count + arr.0) ≡ run_from (bf_rule code) input m2 arr.0 = run_from-add (bf_rule code) input m (suc lands.count) arr.0 in
      let alike' : Alike (Related p code) (applied (eir_rule p) input s) (run_from (bf_rule code) input m (suc lands.count + arr.0)) =
      subst (λ x. Alike (Related p code) x (run_from (bf_rule code) input m (suc lands.count + arr.0))) (sym same)
      (subst (λ x. Alike (Related p code) next x) (sym run_is)
      (record { related = there.related; taken = there.taken_is ∙ (taken_there c' m2 a ∙ set.taken_is); output = there.output_is ∙ (output_there c' m2 a ∙ set.output_is) })) in
      (op, found.1, (suc lands.count + arr.0, omega arith, omega (arith, lands.few, arr.1), alike'))
    where
      byte_word : {n : ℕ} → n < 2 ^ 8 → IsWord n
      byte_word lt = omega arith

  -- the beginning
  pub loads_all : (input : List ℕ) → IsInput input → IsSettled p (eir_start p) (loaded (words_of p)) → (j : ℕ) × (j ≤ length p.words * 2 ^ 15 + 2 ^ 22 + turn_most p + 2) × Alike (Related p code) (at_start (eir_start p)) (run (bf_rule code) (bf_start code) input j)
  loads_all input is settled =
      let m : Moment BfConfig = at_start (bf_start code) in
      let start : Shows m 0 blank = record { head = refl; fell = refl; cells = λ q. ap (λ o. unwrap_or o 0) (map.get-empty nat_cmp q); bytes = λ q. omega arith; taken = refl; output = refl } in
      let c : Config = eir_start p in
      let t : Tape = choosing p c (loaded (words_of p)) in
      let lands = (w.begins input is).lands code (loop body) m (drop_none code ∙ w.parts) start in
      let m1 : Moment BfConfig = run_from (bf_rule code) input m lands.count in
      let at : m1.config.place ≡ k = lands.stops ∙ omega arith in
      let one : get t 0 ≡ 1 = chosen_first (digits_in p) (digits_of (digits_in p) (number_at p c.block c.index)) (loaded (words_of p)) ∙ settled.running in
      let step : applied (bf_rule code) input m1 ≡ moved_by code input m1 (Some Open) = command_step code input m1 Open (body ++ Close ∷ []) (ap (λ j. drop j code) at ∙ at_loop) lands.shows.fell in
      let m2 : Moment BfConfig = run_from (bf_rule code) input m (suc lands.count) in
      let sh = lands.shows in
      let shows : Shows m2 0 t = subst (λ x. Shows x 0 t) (sym step) (record { head = sh.head; fell = sh.fell; cells = sh.cells; bytes = sh.bytes; taken = sh.taken; output = append-nil m1.output ∙ sh.output }) in
      let there : m2.config.place ≡ k + 1 = ap (λ x. x.config.place) step ∙ (ap (λ v. cond (nat_eq v 0) (m1.config.place + 1 + close_in 0 (drop (m1.config.place + 1) code) + 1) (m1.config.place + 1)) (here_is m1 0 t sh ∙ one) ∙ ap (λ j. j + 1) at) in
      let a : At c m2 = record { place = there; tape = loaded (words_of p); shows = shows; settled = settled } in
      let arr = arrives input c m2 is (eir_start-IsWords p) (eir_start-IsPlaced p sound) a in
      let run_is : run_from (bf_rule code) input m (suc lands.count + arr.0) ≡ run_from (bf_rule code) input m2 arr.0 = run_from-add (bf_rule code) input m (suc lands.count) arr.0 in (
        suc lands.count + arr.0,
        omega (arith, lands.few, arr.1),
        subst (λ x. Alike (Related p code) (at_start c) x) (sym run_is)
            (record { related = arr.2.related; taken = arr.2.taken_is ∙ (taken_there c m2 a ∙ laid_of (λ x. x.taken) (λ x y v. refl) 174 (words_of p) blank); output = arr.2.output_is ∙ (output_there c m2 a ∙ laid_of (λ x. x.output) (λ x y v. refl) 174 (words_of p) blank) }),
      )

  -- related configurations stand alike
  pub stands_as : (c : Config) (d : BfConfig) → Related p code c d → StandsAs (eir_rule p) (bf_rule code) c d
  stands_as c d rel =
      elim (nat_lt c.block (length p.blocks)) as (λ b. nat_lt c.block (length p.blocks) ≡ b → StandsAs (eir_rule p) (bf_rule code) c d) [
        | true ↦ λ y.
            let at = rel.going (ltb-true c.block (length p.blocks) y) in
            let e : (eir_rule p).standing c ≡ Going = ap (λ b. cond b Going Ended) y in
            let inside : d.place < length code = omega (arith, at.place ∙ place_is, long) in
            let f : (bf_rule code).standing d ≡ Going = ap (λ b. cond b (Fault 1) (cond (nat_lt d.place (length code)) Going Ended)) at.shows.fell ∙ ap (λ b. cond b Going Ended) (lt-ltb d.place (length code) inside) in
            record { no_fault = λ n h. cc; ended = ((λ h. absurd (apart (sym f ∙ h))), (λ h. absurd (apart (sym e ∙ h)))) }
        | false ↦ λ y.
            let over = rel.ended (ltb-false c.block (length p.blocks) y) in
            let e : (eir_rule p).standing c ≡ Ended = ap (λ b. cond b Going Ended) y in
            let f : (bf_rule code).standing d ≡ Ended =
            ap (λ b. cond b (Fault 1) (cond (nat_lt d.place (length code)) Going Ended)) over.1 ∙ ap (λ b. cond b Going Ended) (le-ltb d.place (length code) (omega (arith, over.0))) in
            record { no_fault = λ n h. cc; ended = ((λ _. e), (λ _. f)) }
      ] refl
    where
      apart : Going ≡ Ended → ⊥
      apart e = cc
