-- A function's code in its frame.
use Rattle.std.proofs.Common.{◌≡◌, ℕ, suc, ◌+◌, ◌^◌, ◌<◌, ◌≤◌, Bool, false, List, [], ◌∷◌, ◌++◌, length, refl, sym, ap, ◌∙◌, subst, arith, length-append}
use Rattle.mach_core.specs.Rule.{Moment}
use Rattle.eir_core.specs.Memory.{Memory, word_at}
use Rattle.eir_core.specs.Step.{Config, with_reg}
use Rattle.eir_core.specs.declared.ops.Reg.TheVariants.{B, BP}
use Rattle.eir_core.specs.declared.ops.Operand.TheVariants.{Reg as register}
use Rattle.eir_core.specs.declared.ops.Op.{Op}
use Rattle.eir_core.specs.declared.ops.Op.TheVariants.{Load}
use Rattle.c_types.specs.Types.{CType, NoType, MoreType}
use Rattle.c_eval.specs.State.{Value, Missing, State, Outcome, Gives, Ended, Going, Undefined, Cell}
use Rattle.c_eval.specs.Run.{◌>>=◌, after, give, objects_now, with_objects}
use Rattle.c_eval.specs.Memory.{enter, leave, within}
use Rattle.c_eval.specs.Operators.{converted}
use Rattle.c_eval.specs.Environment.{Callee}
use Rattle.c_eval.specs.Eval.{World, Flow, Next, Broke, Continued, Returned, does}
use Rattle.c_eval.specs.Text.{Definition}
use Rattle.c_eval.specs.Meaning.{argument_objects, argument_names, result_of, body_environment, runs}
use Rattle.c_place.specs.Place.{Place, front, behind, behind_all, Machine, Stands}
use Rattle.c_place.proofs.Running.{one_jump, stands_first, stands_rest}
use Rattle.c_lowered.specs.Locations.{Location}
use Rattle.c_lowered.specs.Operations.{return_code}
use Rattle.c_lowered.specs.Statements.{targets, stmt_code}
use Rattle.c_lowered.specs.Whole.{function_jumps, parameter_names, parameter_bases}
use Rattle.c_memory.specs.Follows.{Fuel, fuel_of, here, Comes}
use Rattle.c_memory.specs.Lies.{Extent, extent, base, Lies, bases_from, words_of_all, with_new, left_from, IsFree}
use Rattle.c_memory.proofs.Lying.{lies_up, lies_down, post_lower}
use Rattle.c_memory.proofs.Entering.{base_old, enter_lies, free_there, leave_lies}
use Rattle.c_memory.proofs.Following.{comes_here, comes_one, comes_quiet, comes_then, after_follows, then_follows}
use Rattle.c_landing.specs.Landing.{Setting, Ready, Left, Reached, InA, Names}
use Rattle.c_landing.specs.Few.{Agrees}
use Rattle.c_landing.proofs.Landing.{F, names_later, ready_later}
use Rattle.c_landing.proofs.Stilling.{object_room}
use Rattle.c_valued.specs.Calls.{WordsMean, UnitPays, with_names, CallsLand}
use Rattle.c_valued.proofs.Arguments.{first_converted}
use Rattle.c_stated.specs.Flows.{GoesOn, FlowReached, AreFramed}
use Rattle.c_stated.specs.Statements.{DeclaresNothing, stmt_need, stmt_steps}
use Rattle.c_stated.proofs.Blocks.{names_more}
use Rattle.c_stated.proofs.Parts.{nothing_framed, agrees_named}
use Rattle.c_stated.proofs.Texts.{text_stated}
use Rattle.c_followed.specs.Breaks.{BreaksAreIn, MayLeave, Leaves}
use Rattle.c_followed.proofs.Staying.{stays}
use Rattle.c_followed.specs.Bodies.{at_file, inside, beginning, code_of, PerformedBy, FunctionIs, BodyLands}
use Rattle.c_followed.proofs.Parameters.{words_few, arguments_mean, arguments_framed, parameters_named}

-- ---- the way back

abbrev aside : Machine → Machine
aside m = record m { regs = with_reg m.regs B (word_at m.memory m.regs.bp) }

return_comes : (S : Setting) (s : Place) (m : Machine) (st : State) (x : Fuel) → Stands S.program s return_code → Comes S.program S.input S.mode (here s m st) x 2 (here (front (word_at m.memory m.regs.bp)) (aside m) st) x
return_comes S s m st x h =
    let p1 = behind s (Load B (register BP)) in
    comes_then S.program S.input S.mode 1 1 2 (comes_quiet S.program S.input S.mode s m st (Load B (register BP) ∷ []) x (tt, tt) (h.0, tt))
    (comes_one S.program S.input S.mode x (one_jump S.program S.input p1 (aside m) st.taken st.output (register B) h.1.0)) (omega arith)

-- a flow by which a function's body is left
record Leaving (S : Setting) (bs : List Extent) (st : State) (mem : Memory) (bp d : ℕ) (end : Place) (flow : Flow) (st1 : State) (s1 : Place) (m1 : Machine) : Type 0 where
  reached : FlowReached S bs st mem bp d (targets 0 0) end flow st1 s1 m1
  leaves : MayLeave false false flow

leaving : (S T : Setting) (a : Moment Config) (x : Fuel) (c : ℕ) (r : Outcome Flow) (bs : List Extent) (st : State) (mem : Memory) (bp d : ℕ) (end : Place) → F S a x c r (FlowReached T bs st mem bp d (targets 0 0) end) → Leaves false false r → F S a x c r (Leaving T bs st mem bp d end)
leaving S T a x c (Gives flow st1) bs st mem bp d end (s, m, g, q) h = (s, m, g, record { reached = q; leaves = h })
leaving S T a x c (Ended st1) bs st mem bp d end (s, m, g, q) h = (s, m, g, q)
leaving S T a x c (Going st1) bs st mem bp d end (s, m, n, g, q) h = (s, m, n, g, q)
leaving S T a x c (Undefined act st1) bs st mem bp d end (s, m, y, g) h = (s, m, y, g)

-- what a function gives for a flow
abbrev given : CType → Flow → Value
given t (Returned v) = converted t v
given t flow = Missing

-- ---- a body

module _ (S : Setting) (w : World) (f : Definition) (k frame count worth_one : ℕ) (agrees : Agrees (inside S f) w) (performed : PerformedBy (inside S f) w count f.body (beginning S f)) (declares : DeclaresNothing f.body) (breaks : BreaksAreIn false false f.body) (framed : suc (length f.params) + stmt_need f.body (beginning S f) ≤ frame) (paid : count + 2 ≤ worth_one)
    (small : k + function_jumps f < 2 ^ 24) (stands : Stands S.program (front k) (code_of S f k)) where
  abbrev first_free : ℕ
  first_free = suc (length f.params)

  abbrev need : ℕ
  need = stmt_need f.body (beginning S f)

  abbrev bases : List Location
  bases = S.file_bases ++ parameter_bases f.params 1

  abbrev coded : Names
  coded = parameter_names f.params (length S.file_bases) ++ S.file_coded

  abbrev body : List Op
  body = stmt_code f.body (inside S f).linking (beginning S f) k first_free (targets 0 0)

  abbrev end : Place
  end = behind_all (front k) body

  module _ (vs : List Value) (bs : List Extent) (st : State) (m : Machine) (r : Ready (at_file S) bs st m 0 frame) (args : WordsMean S.ground bs m.memory (m.regs.bp + 1) vs) where
    abbrev bp : ℕ
    bp = m.regs.bp

    abbrev objects : List (List Cell)
    objects = argument_objects f.params vs

    abbrev first : ℕ
    first = length st.objects

    -- where the body is run
    abbrev T : Setting
    T = with_names (inside S f) bases coded (argument_names f.params vs first ++ S.file_named)

    abbrev bs1 : List Extent
    bs1 = bs ++ bases_from (bp + 1) objects

    abbrev st1 : State
    st1 = record st { objects = with_new st.objects objects }

    lies0 : Lies S.ground bs st.objects m.memory (bp + 1)
    lies0 = lies_up (bp + 1) r.lies (omega arith)

    lies1 : Lies S.ground bs1 st1.objects m.memory (bp + 1 + words_of_all objects)
    lies1 = enter_lies S.ground bs st.objects m.memory (bp + 1) objects lies0 (omega arith) (omega (arith, r.room, r.fits, framed, words_few f.params vs)) (arguments_mean S.ground bs m.memory (bp + 1) f.params vs args)

    ready : Ready T bs1 st1 m first_free need
    ready =
        let longer : length bs ≤ length bs1 = omega (arith, length-append bs (bases_from (bp + 1) objects)) in
        let grown : (o : ℕ) → o < length bs → extent bs1 o ≡ extent bs o = λ o lt. base_old bs (bases_from (bp + 1) objects) o lt in
        let pos : (o : ℕ) → o < length bs1 → 1 ≤ base bs1 o = λ o lt. (object_room S.ground bs1 st1.objects m.memory (bp + 1 + words_of_all objects) o lies1 lt).0 in
        let framed0 = arguments_framed f.params vs S.file_bases bs bp 1 (bp + 1) refl in
        let framed1 = subst (λ z. AreFramed bs1 bp bases (length S.file_bases) z objects) r.lies.count framed0 in
        let file = names_more bs1 bp S.file_bases (parameter_bases f.params 1) S.file_coded S.file_named pos (names_later bs bs1 bp S.file_bases S.file_coded S.file_named longer grown (r.file bp)) in
        record {
          lies = lies_up (bp + first_free) lies1 (omega (arith, words_few f.params vs));
          letters = λ owner number text j c e g. (let l = r.letters owner number text j c e g in (l.0, l.1, l.2, free_there bs st.objects (bp + 1) objects (S.ground.literal owner number + j) r.lies.count (omega (arith, l.2)) l.3));
          names = parameters_named f.params vs bs1 bp bases (length S.file_bases) first S.file_coded S.file_named framed1 file;
          file = λ z. names_later bs bs1 z S.file_bases S.file_coded S.file_named longer grown (r.file z);
          room = omega (arith, r.room, framed);
          under = r.under;
          fits = r.fits;
          fuelled = r.fuelled;
        }

    body_follows : F S (here (front k) m st1) (fuel_of st1) count (does f.body S.deep w (body_environment f S.file_named vs first) st1) (Leaving T bs1 st1 m.memory bp first_free end)
    body_follows =
        let performs = performed bases coded (argument_names f.params vs first ++ S.file_named) k first_free need (length S.file_bases + length f.params) (first + length objects) (targets 0 0) (omega arith) (omega arith) (omega (arith, small)) (omega arith) (omega arith) in
        leaving S T (here (front k) m st1) (fuel_of st1) count (does f.body S.deep w (body_environment f S.file_named vs first) st1) bs1 st1 m.memory bp first_free end
        (performs.at (front k) bs1 st1 m refl (stands_first S.program (front k) body return_code stands) ready (nothing_framed f.body declares f.scope bs1 bp bases (length S.file_bases + length f.params) (first + length objects)))
        (stays false false f.body breaks S.deep w (body_environment f S.file_named vs first) st1)

    -- behind the body its objects have gone, and the word to return to is as it was
    record Over (flow : Flow) (st2 : State) (s2 : Place) (m2 : Machine) : Type 0 where
      back : Stands S.program s2 return_code
      bases2 : List Extent
      left : Left S bs st m.memory bp 0 bases2 st2 m2
      word : word_at m2.memory bp ≡ word_at m.memory bp
      means : InA S (given f.result flow) bases2 m2

    back_there : (flow : Flow) (s2 : Place) → MayLeave false false flow → GoesOn S.program (targets 0 0) end flow s2 → Stands S.program s2 return_code
    back_there Next s2 h e = subst (λ z. Stands S.program z return_code) (sym e) (stands_rest S.program (front k) body return_code stands)
    back_there Broke s2 h e = absurd (cc h)
    back_there Continued s2 h e = absurd (cc h)
    back_there (Returned v) s2 h e = e

    given_there : (flow : Flow) (bs2 : List Extent) (st2 : State) (m2 : Machine) → Ready T bs2 st2 m2 first_free need → (means : Rattle.c_stated.specs.Flows.FlowInA T flow bs2 m2) → InA S (given f.result flow) bs2 m2
    given_there Next bs2 st2 m2 r2 h = tt
    given_there Broke bs2 st2 m2 r2 h = tt
    given_there Continued bs2 st2 m2 r2 h = tt
    given_there (Returned v) bs2 st2 m2 r2 h = first_converted T w (agrees_named (inside S f) w bases coded (argument_names f.params vs first ++ S.file_named) agrees) 0 bs2 st2 m2 first_free need r2 (MoreType f.result NoType) (v ∷ []) h

    within_follows : F S (here (front k) m st) (fuel_of st) count (within objects (λ n. does f.body S.deep w (body_environment f S.file_named vs n)) st) Over
    unfolding within enter leave objects_now with_objects ◌>>=◌ after give
    within_follows =
        after_follows S.program S.input S.mode (here (front k) m st) (fuel_of st) count 0 count (does f.body S.deep w (body_environment f S.file_named vs first) st1) (λ a. leave first >>= λ _. give a) (Leaving T bs1 st1 m.memory bp first_free end) Over body_follows
        (λ flow st2 s2 m2 le q.
        let l = q.reached.left in
        let both = leave_lies S.ground bs st.objects m.memory (bp + 1) objects q.reached.bases st2.objects m2.memory (bp + first_free) (bp + first_free) lies0 (omega arith) l.lies l.post in
        let st3 : State = record st2 { objects = left_from first st2.objects } in
        let free : IsFree bs st.objects bp = λ o j c e g. omega (arith, r.lies.below o j c e, g) in (
          s2,
          m2,
          comes_here S.program S.input S.mode (here s2 m2 st3) (fuel_of st3),
          record {
            back = back_there flow s2 q.leaves q.reached.goes;
            bases2 = q.reached.bases;
            left = record { framed = l.framed; lies = lies_down r.lies both.1 both.0; post = post_lower (bp + 1) (bp + 0) (omega arith) both.1; charge = l.charge; words = l.words };
            word = both.1.keeps bp (omega arith) free;
            means = given_there flow q.reached.bases st2 m2 (ready_later T bs1 q.reached.bases st1 st2 m m2 first_free need ready l le) q.reached.means;
          },
        ))
        (omega arith)

    returned : (flow : Flow) (st2 : State) (s2 : Place) (m2 : Machine) → Over flow st2 s2 m2 → F S (here s2 m2 st2) (fuel_of st2) 2 (give (given f.result flow) st2) (Reached S bs st m.memory bp 0 (front (word_at m.memory bp)) (InA S))
    unfolding give
    returned flow st2 s2 m2 q = (
      front (word_at m2.memory m2.regs.bp),
      aside m2,
      return_comes S s2 m2 st2 (fuel_of st2) q.back,
      record {
        place = ap front (ap (word_at m2.memory) q.left.framed ∙ q.word);
        bases = q.bases2;
        left = record { framed = q.left.framed; lies = q.left.lies; post = q.left.post; charge = q.left.charge; words = q.left.words };
        means = q.means;
      },
    )

    result_follows : (flow : Flow) (st2 : State) (s2 : Place) (m2 : Machine) → Over flow st2 s2 m2 → F S (here s2 m2 st2) (fuel_of st2) 2 (result_of f.result flow st2) (Reached S bs st m.memory bp 0 (front (word_at m.memory bp)) (InA S))
    unfolding result_of
    result_follows Next st2 s2 m2 q = returned Next st2 s2 m2 q
    result_follows Broke st2 s2 m2 q = returned Broke st2 s2 m2 q
    result_follows Continued st2 s2 m2 q = returned Continued st2 s2 m2 q
    result_follows (Returned v) st2 s2 m2 q = returned (Returned v) st2 s2 m2 q

    run_follows : F S (here (front k) m st) (fuel_of st) worth_one (runs f S.file_named S.deep w vs st) (Reached S bs st m.memory bp 0 (front (word_at m.memory bp)) (InA S))
    unfolding runs
    run_follows =
        then_follows S.program S.input S.mode (here (front k) m st) (fuel_of st) count 2 worth_one (within objects (λ n. does f.body S.deep w (body_environment f S.file_named vs n))) st (result_of f.result) Over (Reached S bs st m.memory bp 0 (front (word_at m.memory bp)) (InA S)) within_follows
        (λ flow st2 s2 m2 le q. result_follows flow st2 s2 m2 q) paid

  pub performed_lands : BodyLands S w f k frame worth_one
  performed_lands = record { at = λ vs bs st m r args. run_follows vs bs st m r args }

pub body_lands : (S : Setting) (w : World) (u worth_one : ℕ) (may : Callee → Bool) (f : Definition) (k frame : ℕ) → Agrees (inside S f) w → UnitPays S.mode w.inner worth_one → CallsLand (inside S f) w u may → FunctionIs S w u may frame worth_one f → k + function_jumps f < 2 ^ 24 → Stands S.program (front k) (code_of S f k)
    → BodyLands S w f k frame worth_one
body_lands S w u worth_one may f k frame agrees unit land is small stands =
    performed_lands S w f k frame (stmt_steps u f.body (beginning S f)) worth_one agrees (text_stated (inside S f) w agrees u may land worth_one unit f.body (beginning S f) is.body (omega (arith, is.paid))) is.declares is.breaks is.framed is.paid small stands
