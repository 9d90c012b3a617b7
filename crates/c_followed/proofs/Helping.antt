-- A helper function's code in its frame, seen from outside it.
use Rattle.std.proofs.Common.{◌≡◌, ℕ, suc, ◌+◌, ◌^◌, ◌<◌, ◌≤◌, Bool, true, List, [], length, refl, sym, ap, ◌∙◌, subst, arith}
use Rattle.std.specs.Prelude.{take}
use Rattle.eir_core.specs.Memory.{word_at}
use Rattle.eir_core.specs.declared.ops.Op.{Op}
use Rattle.c_eval.specs.State.{Value, State, Run}
use Rattle.c_eval.specs.Environment.{Callee}
use Rattle.c_eval.specs.Eval.{World}
use Rattle.c_eval.specs.Text.{Definition, Text}
use Rattle.c_eval.specs.Meaning.{runs}
use Rattle.c_eval.specs.Helpers.{Helpers, behind_helper, own_charged, helper_world}
use Rattle.c_place.specs.Place.{Place, front, behind_all, Machine}
use Rattle.c_memory.specs.Follows.{fuel_of, Mode, here, Comes}
use Rattle.c_memory.specs.Lies.{Extent, Reach, reached, Ground, Means, Lies, Post}
use Rattle.c_memory.proofs.Lying.{lies_up, reached_grows}
use Rattle.c_memory.proofs.Entering.{means_out, out_of_helper}
use Rattle.c_memory.proofs.Following.{Claim, first_then, more_behind, own_charged_follows, spare_less}
use Rattle.c_landing.specs.Landing.{Setting, Ready, Reached, InA, LettersLie}
use Rattle.c_landing.specs.Few.{Agrees}
use Rattle.c_landing.proofs.Landing.{F}
use Rattle.c_valued.specs.Calls.{WordsMean, UnitPays, CallsLand}
use Rattle.c_followed.specs.Bodies.{at_file, inside, BodyLands}
use Rattle.c_followed.proofs.Bodies.{body_lands}
use Rattle.c_followed.specs.Framed.{OpensFrame, called}
use Rattle.c_followed.proofs.Entered.{word_back, lies_opened, letters_opened, arguments_opened, post_closed}
use Rattle.c_followed.specs.Used.{in_helper_by, in_helper, IsCalled, HelpersStand}

-- what is left behind a call of a helper function, whose own objects are gone: pointers reach as far as before it
pub record Helped (g : Ground) (bs : List Extent) (st : State) (m : Machine) (d : ℕ) (to : Place) (v : Value) (st1 : State) (s1 : Place) (m1 : Machine) : Type 0 where
  pub place : s1 ≡ to
  pub framed : m1.regs.bp ≡ m.regs.bp
  pub bases : List Extent
  pub lies : Lies g bases st1.objects m1.memory (m.regs.bp + d)
  pub post : Post (m.regs.bp + d) bs st.objects m.memory bases st1.objects m1.memory
  pub charge : st1.charge ≡ st.charge
  pub words : st1.words ≡ st.words
  pub means : Means g bases v m1.regs.a

module _ (S : Setting) (mode : Mode) (first bottom : ℕ) where
  abbrev I : Setting
  I = in_helper_by mode S first bottom

  -- a function's code lands in its frame
  module _ (deep : ℕ) (name : List ℕ) (f : Definition) (w : World) (charge frame cost : ℕ) (lands : (roof : ℕ) → BodyLands (called I deep roof) w f (S.ground.entry name) frame cost)
      (code : List Op) (c d : ℕ) (vs : List Value) (s : Place) (reach : Reach) (bs : List Extent) (st : State) (m : Machine)
      (o : OpensFrame S.program S.input code s m d (S.ground.entry name) c)
      (lies : Lies I.ground bs st.objects m.memory (m.regs.bp + d)) (letters : LettersLie I.ground bs st.objects m.memory m.regs.bp) (args : WordsMean I.ground bs m.memory (m.regs.bp + suc d) vs)
      (within : reached reach bs ≤ length bs) (reaches : first ≤ reached reach bs) (room : m.regs.bp + d + frame ≤ bottom + (st.words + charge)) (top : bottom + 1024 < 2 ^ 24) (fuelled : I.mode.gauge (fuel_of st) < deep) where
    abbrev g : Ground
    g = record S.ground { reach = reach }

    abbrev run : Run Value
    run = runs f [] deep w vs

    abbrev Q : Claim Value
    Q = Helped g bs st m d (behind_all s code)

    module _ (le : st.words + charge ≤ 1024) where
      abbrev roof1 : ℕ
      roof1 = bottom + (st.words + charge)

      abbrev S1 : Setting
      S1 = called I deep roof1

      abbrev st2 : State
      st2 = record st { words = st.words + charge }

      ready : Ready (at_file S1) bs st2 o.opened 0 frame
      ready = record {
        lies = lies_opened S.program S.input code s m d (S.ground.entry name) c o I.ground bs st.objects lies;
        letters = letters_opened S.program S.input code s m d (S.ground.entry name) c o I.ground bs st.objects letters;
        names = tt;
        file = λ z. tt;
        room = omega (arith, o.framed, room);
        under = omega arith;
        fits = omega (arith, top, le);
        fuelled = fuelled;
      }

      abbrev Q1 : Claim Value
      Q1 = Reached S1 bs st2 o.opened.memory o.opened.regs.bp 0 (front (word_at o.opened.memory o.opened.regs.bp)) (InA S1)

      abbrev R : Claim Value
      R v st4 s4 m4 = Q v (behind_helper st st4) s4 m4

      body : F S1 (here (front (S.ground.entry name)) o.opened st2) (fuel_of st2) cost (run st2) Q1
      body = (lands roof1).at vs bs st2 o.opened ready (arguments_opened S.program S.input code s m d (S.ground.entry name) c o I.ground bs st.objects vs args)

      -- the frame is closed, and the objects that the call made are gone
      home : (v : Value) (st4 : State) (s4 : Place) (m4 : Machine) → Q1 v st4 s4 m4 → (s5 : Place) × (m5 : Machine) × Comes S.program S.input I.mode (here s4 m4 st4) (fuel_of st4) 1 (here s5 m5 st4) (fuel_of st4) × R v st4 s5 m5
      home v st4 s4 m4 q =
          let at : s4 ≡ front o.back = q.place ∙ ap front (word_back S.program S.input code s m d (S.ground.entry name) c o) in
          let m5 : Machine = record m4 { regs = record m4.regs { bp = m.regs.bp } } in
          let post = post_closed S.program S.input code s m d (S.ground.entry name) c o I.ground bs st.objects q.bases st4.objects m4.memory q.left.post in
          let gone = out_of_helper g bs st.objects m.memory (m.regs.bp + d) q.bases st4.objects m4.memory (o.opened.regs.bp + 0) first lies.count within reaches q.left.lies post in
          let n = length bs in
          let all : n ≤ length (take n q.bases) = omega (arith, gone.1.longer) in (
            behind_all s code,
            m5,
            subst (λ z. Comes S.program S.input I.mode (here z m4 st4) (fuel_of st4) 1 (here (behind_all s code) m5 st4) (fuel_of st4)) (sym at) (o.closed I.mode m4 st4 (fuel_of st4) (q.left.framed ∙ o.framed)),
            record {
              place = refl;
              framed = refl;
              bases = take n q.bases;
              lies = subst (λ z. Lies g (take n q.bases) (take z st4.objects) m4.memory (m.regs.bp + d)) lies.count (lies_up (m.regs.bp + d) gone.0 (omega (arith, o.framed)));
              post = subst (λ z. Post (m.regs.bp + d) bs st.objects m.memory (take n q.bases) (take z st4.objects) m4.memory) lies.count gone.1;
              charge = q.left.charge;
              words = refl;
              means = means_out g first n q.bases v m4.regs.a (omega (arith, reaches, within)) (omega (arith, reaches, reached_grows reach bs (take n q.bases) all)) q.means;
            },
          )

      part : F I (here o.next o.moved st) (fuel_of st) (c + (cost + 1)) (run st2) R
      part =
          first_then S.program S.input I.mode c (cost + 1) (c + (cost + 1)) (run st2) R (o.rest I.mode st (fuel_of st))
          (more_behind S.program S.input I.mode (here (front (S.ground.entry name)) o.opened st) (fuel_of st) cost 1 (cost + 1) (run st2) Q1 R body home (omega arith)) (omega arith)

    -- from behind the first operation of a call to behind the call
    pub helper_follows : F I (here o.next o.moved st) (fuel_of st) (c + (cost + 1)) (own_charged charge run st) Q
    helper_follows = own_charged_follows S.program S.input I.mode charge (c + (cost + 1)) run o.next o.moved st Q part

-- ---- functions that call helper functions alone

module _ (S : Setting) (t : Text) (h : Helpers) (rate spare_rate : ℕ) (may : Callee → Bool) (stand : HelpersStand S t h spare_rate may) (first bottom : ℕ) where
  abbrev U : Setting
  U = in_helper S rate spare_rate h.ration first bottom

  pub spare_pays : UnitPays U.mode true spare_rate
  spare_pays l n = spare_less rate spare_rate h.ration l n

  pub agrees_at : (deep roof : ℕ) (name : List ℕ) (f : Definition) (calls : List ℕ → List Value → Run Value) → IsCalled t may name f → Agrees (inside (called U deep roof) f) (helper_world t S.input name calls)
  agrees_at deep roof name f calls is = let a = stand.agrees name f calls is in record {
    input = a.input;
    owner = a.owner;
    reach = λ e. absurd (cc e);
    entries = a.entries;
    blocks = a.blocks;
    stands = a.stands;
    own = a.own;
    functions_apart = a.functions_apart;
    literals = a.literals;
    letters = a.letters;
    letters_apart = a.letters_apart;
  }

  pub helper_body : (deep roof : ℕ) (name : List ℕ) (f : Definition) (calls : List ℕ → List Value → Run Value) → IsCalled t may name f → CallsLand (inside (called U deep roof) f) (helper_world t S.input name calls) 0 may
      → BodyLands (called U deep roof) (helper_world t S.input name calls) f (S.ground.entry name) (h.charge name) spare_rate
  helper_body deep roof name f calls is land =
      let x = stand.is name f calls is in
      body_lands (called U deep roof) (helper_world t S.input name calls) 0 spare_rate may f (S.ground.entry name) (h.charge name) (agrees_at deep roof name f calls is) spare_pays land (record { body = x.body; declares = x.declares; breaks = x.breaks; framed = x.framed; paid = x.paid }) (stand.there name f is).small (stand.there name f is).code
