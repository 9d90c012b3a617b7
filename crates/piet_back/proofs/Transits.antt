-- From the end of one lane to the end of the next.
use Rattle.std.proofs.Common.{◌≡◌, ℕ, zero, suc, ◌+◌, ◌-◌, ◌*◌, ◌<◌, ◌≤◌, List, [], ◌∷◌, ◌++◌, length, Option, Some, None, slice_get, unwrap_or, map as map_list, pos, ℤ, refl, sym, ap, subst, ◌∙◌, arith}
use Rattle.mach_core.specs.declared.machine.Status.TheVariants.{Ended}
use Rattle.mach_core.specs.Rule.{Rule, Moment, run_from, at_start}
use Rattle.mach_core.proofs.Runs.{run_from-add}
use Rattle.eir_core.specs.Eir.{Eir}
use Rattle.piet_image.specs.Raster.{Raster}
use Rattle.piet_lang.specs.declared.act.Act.{Act}
use Rattle.piet_lang.specs.Rule.{rule_of, start_of}
use Rattle.piet_lang.specs.Step.{Config as PietConfig}
use Rattle.piet_lane.specs.declared.command.Command.{Command}
use Rattle.piet_lane.specs.Board.{lane_at}
use Rattle.piet_lane.specs.Lanes.{acts_of, lanes_of}
use Rattle.piet_lane.specs.Runs.{Values, with_stack, after_all, Fit, moment_at, AtEnd}
use Rattle.piet_stack.specs.Makes.{values_at, Does}
use Rattle.piet_back.specs.Lanes.{lanes, start_lane}
use Rattle.piet_back.specs.Related.{RunsProgram}

lane_is : (all : List (List Command)) (j : ℕ) (code : List Command) → slice_get all j ≡ Some code → lane_at (lanes_of all) j ≡ acts_of code
lane_is [] zero code e = cc
lane_is [] (suc j) code e = cc
lane_is (x ∷ all) zero code e = ap (λ o. acts_of (unwrap_or o x)) e
lane_is (x ∷ all) (suc j) code e = lane_is all j code e

length-lanes_of : (all : List (List Command)) → length (lanes_of all) ≡ length all
length-lanes_of [] = refl
length-lanes_of (x ∷ all) = ap suc (length-lanes_of all)

length-acts : (code : List Command) → length (acts_of code) ≡ length code
length-acts [] = refl
length-acts (c ∷ code) = ap suc (length-acts code)

inside_of : (all : List (List Command)) (j : ℕ) (code : List Command) → slice_get all j ≡ Some code → j < length all
inside_of [] zero code e = cc
inside_of [] (suc j) code e = cc
inside_of (x ∷ all) zero code e = omega arith
inside_of (x ∷ all) (suc j) code e = let more = inside_of all j code e in omega (arith, more)

-- the same configuration, whatever was taken and written
pub at_config : (all : List (List Act)) (reach i : ℕ) (v : Values) (m : Moment PietConfig) → AtEnd all reach i v m → (taken : ℕ) (output : List ℕ) (n : Moment PietConfig) → m.config ≡ n.config → n.taken ≡ taken → n.output ≡ output
    → AtEnd all reach i (record { stack = v.stack; taken = taken; output = output }) n
at_config all reach i v m e taken output n same t o = record {
  x = e.x;
  chooser = e.chooser;
  here = e.here;
  known = e.known;
  is = λ k. record { config = (ap (λ (z : Moment PietConfig). z.config) e.is ∙ same) k; taken = sym t k; output = sym o k };
}

pub end_stack : (all : List (List Act)) (reach i : ℕ) (v : Values) (m : Moment PietConfig) → AtEnd all reach i v m → v.stack ≡ m.config.stack
end_stack all reach i v m e = ap (λ (z : Moment PietConfig). z.config.stack) e.is

module _ (p : Eir) (q : Raster) (reach : ℕ) (runs : RunsProgram p q reach) (input : List ℕ) where
  abbrev rule : Rule PietConfig
  rule = rule_of q

  -- at the end of some lane, with the number of the next one on top
  pub record Ready (m : Moment PietConfig) (j : ℕ) (s : List ℤ) (taken : ℕ) (output : List ℕ) : Type 0 where
    pub lane : ℕ
    pub ends : AtEnd (lanes_of (lanes p)) reach lane (values_at (pos j ∷ s) taken output) m

  -- some steps later
  pub record Arrives (m : Moment PietConfig) (most j : ℕ) (s : List ℤ) (taken : ℕ) (output : List ℕ) : Type 0 where
    pub steps : ℕ
    pub some : 1 ≤ steps
    pub few : steps ≤ most
    pub ready : Ready (run_from rule input m steps) j s taken output

  -- through a lane
  pub transit : (m : Moment PietConfig) (j : ℕ) (s : List ℤ) (taken : ℕ) (output : List ℕ) (code : List Command) (short j' : ℕ) (s' : List ℤ) (taken' : ℕ) (output' : List ℕ)
      → Ready m j s taken output → slice_get (lanes p) j ≡ Some code → j ≤ 32767 → length code ≤ short → Does input code (values_at s taken output) (values_at (pos j' ∷ s') taken' output')
      → Arrives m (64 * (length (lanes p) + short + 1)) j' s' taken' output'
  transit m j s taken output code short j' s' taken' output' r is small few does =
      let all = lanes_of (lanes p) in
      let v = values_at s taken output in
      let lane = lane_is (lanes p) j code is in
      let count = length-lanes_of (lanes p) in
      let below = inside_of (lanes p) j code is in
      let fit : Fit input v (lane_at all j) = subst (λ (acts : List Act). Fit input v acts) (sym lane) does.fits in
      let c = runs.goes_on input r.lane j s v m r.ends small (omega (arith, count, below)) fit in
      let size : length (lane_at all j) ≡ length code = ap length lane ∙ length-acts code in
      record {
        steps = c.count;
        some = c.some;
        few = let f = c.few in omega (arith, f, count, size, few);
        ready = record { lane = j; ends = subst (λ (w : Values). AtEnd all reach j w (run_from rule input m c.count)) (ap (λ (acts : List Act). after_all input v acts) lane ∙ does.made) c.there };
      }

  pub and_on : (m : Moment PietConfig) (a b j : ℕ) (s : List ℤ) (taken : ℕ) (output : List ℕ) (j' : ℕ) (s' : List ℤ) (taken' : ℕ) (output' : List ℕ)
      → Arrives m a j s taken output → ((n : Moment PietConfig) → Ready n j s taken output → Arrives n b j' s' taken' output') → Arrives m (a + b) j' s' taken' output'
  and_on m a b j s taken output j' s' taken' output' x f =
      let y = f (run_from rule input m x.steps) x.ready in
      record {
        steps = x.steps + y.steps;
        some = let z = x.some in omega (arith, z);
        few = let u = x.few in let w = y.few in omega (arith, u, w);
        ready = subst (λ (n : Moment PietConfig). Ready n j' s' taken' output') (sym (run_from-add rule input m x.steps y.steps)) y.ready;
      }

  pub looser : (m : Moment PietConfig) (a b j : ℕ) (s : List ℤ) (taken : ℕ) (output : List ℕ) → a ≤ b → Arrives m a j s taken output → Arrives m b j s taken output
  looser m a b j s taken output le x = record { steps = x.steps; some = x.some; few = let f = x.few in omega (arith, f, le); ready = x.ready }

  -- to the end of the run
  pub record Over (m : Moment PietConfig) (most taken : ℕ) (output : List ℕ) : Type 0 where
    pub steps : ℕ
    pub some : 1 ≤ steps
    pub few : steps ≤ most
    pub ended : (run_from rule input m steps).config.standing ≡ Ended
    pub took : (run_from rule input m steps).taken ≡ taken
    pub wrote : (run_from rule input m steps).output ≡ output

  pub finish : (m : Moment PietConfig) (j : ℕ) (s : List ℤ) (taken : ℕ) (output : List ℕ) → Ready m j s taken output → j ≤ 32767 → length (lanes p) ≤ j → Over m (64 * (length (lanes p) + 1)) taken output
  finish m j s taken output r small beyond =
      let count = length-lanes_of (lanes p) in
      let c = runs.finishes input r.lane j s (values_at s taken output) m r.ends small (omega (arith, count, beyond)) in
      record { steps = c.count; some = c.some; few = let f = c.few in omega (arith, f, count); ended = c.there.0; took = c.there.1; wrote = c.there.2 }

  -- from the start through the first lane
  pub begin : (code : List Command) (short j' : ℕ) (s' : List ℤ) (taken' : ℕ) (output' : List ℕ) → slice_get (lanes p) (start_lane p) ≡ Some code → length code ≤ short → Does input code (values_at [] 0 []) (values_at (pos j' ∷ s') taken' output')
      → Arrives (at_start (start_of q)) (64 * (length (lanes p) + short + 1)) j' s' taken' output'
  begin code short j' s' taken' output' is few does =
      let all = lanes_of (lanes p) in
      let v = values_at [] 0 [] in
      let lane = lane_is (lanes p) (start_lane p) code is in
      let count = length-lanes_of (lanes p) in
      let fit : Fit input v (lane_at all (start_lane p)) = subst (λ (acts : List Act). Fit input v acts) (sym lane) does.fits in
      let c = runs.begins input fit in
      let size : length (lane_at all (start_lane p)) ≡ length code = ap length lane ∙ length-acts code in
      record {
        steps = c.count;
        some = c.some;
        few = let f = c.few in omega (arith, f, count, size, few);
        ready = record { lane = start_lane p; ends = subst (λ (w : Values). AtEnd all reach (start_lane p) w (run_from rule input (at_start (start_of q)) c.count)) (ap (λ (acts : List Act). after_all input v acts) lane ∙ does.made) c.there };
      }
