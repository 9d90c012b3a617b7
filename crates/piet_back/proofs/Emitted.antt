-- What an emission gives.
use Rattle.std.proofs.Common.{◌≡◌, ℕ, ◌+◌, ◌*◌, ◌^◌, ◌<◌, ◌≤◌, max, Bool, true, false, cond, nat_lt, List, [], length, Option, None, Some, refl, sym, ap, subst, ◌∙◌, arith, append-nil}
use Rattle.std.proofs.lemmas.Bool.{ltb-true, ltb-false}
use Rattle.mach_core.specs.declared.machine.Status.TheVariants.{Going, Ended, Fault}
use Rattle.std.specs.Io.KnownBytes.{Appends}
use Rattle.mach_core.specs.Put.{PutsText, PutsFront}
use Rattle.mach_core.specs.Rule.{at_start}
use Rattle.eir_core.specs.Eir.{Eir, IsEir, size_of}
use Rattle.eir_core.specs.Reach.{near_at}
use Rattle.eir_core.specs.Step.{Config, eir_rule}
use Rattle.sim_trait.specs.Alike.{StandsAs}
use Rattle.sim_trait.specs.Laws.{Simulates}
use Rattle.piet_image.specs.Raster.{Raster, picture_of}
use Rattle.piet_image.proofs.Images.{image_atlas}
use Rattle.piet_lang.specs.Rule.{rule_of, start_of}
use Rattle.piet_lang.specs.Step.{Config as PietConfig}
use Rattle.piet_lane.specs.declared.command.Command.{Command}
use Rattle.piet_lane.specs.Drawn.{Drawn, IsDrawn, board_text, IsBoardText}
use Rattle.piet_lane.specs.Lanes.{lanes_of}
use Rattle.piet_lane.specs.Runs.{RunsLanes, AtEnd}
use Rattle.piet_lane.proofs.Drawing.{text_is}
use Rattle.piet_stack.specs.Makes.{values_at}
use Rattle.piet_back.specs.Lanes.{layout_of, lanes, start_lane}
use Rattle.piet_back.specs.Laws.{piet_slowdown, StandsFor}
use Rattle.piet_back.specs.Related.{RunsProgram, Related}
use Rattle.piet_back.proofs.Simulation.{IsTiny, tiny_of}
use Rattle.piet_back.proofs.Following.{follows, bound_is}
use Rattle.piet_back.proofs.Loading.{loads, loads_few}
use Rattle.piet_back.proofs.Reached.{lanes_reached}

stands_as : (p : Eir) (q : Raster) (c : Config) (d : PietConfig) → Related p q c d → StandsAs (eir_rule p) (rule_of q) c d
stands_as p q c d rel = by (nat_lt c.block (length p.blocks)) refl
  where
    going_not : d.standing ≡ Going → d.standing ≡ Ended → ⊥
    going_not f h = cc

    source_not : (eir_rule p).standing c ≡ Going → (eir_rule p).standing c ≡ Ended → ⊥
    source_not f h = cc

    going_fault : (code : ℕ) → d.standing ≡ Going → d.standing ≡ Fault code → ⊥
    going_fault code f h = cc

    ended_fault : (code : ℕ) → d.standing ≡ Ended → d.standing ≡ Fault code → ⊥
    ended_fault code f h = cc

    by : (b : Bool) → nat_lt c.block (length p.blocks) ≡ b → StandsAs (eir_rule p) (rule_of q) c d
    by true t =
        let there = rel.going (ltb-true c.block (length p.blocks) t) in
        let e : (eir_rule p).standing c ≡ Going = ap (λ b. cond b Going Ended) t in
        let f : d.standing ≡ Going = (there.runs.going there.lane (values_at d.stack 0 []) (at_start d) there.ends).0 in
        record { no_fault = λ code h. going_fault code f h; ended = ((λ h. absurd (going_not f h)), (λ h. absurd (source_not e h))) }
    by false t =
        let e : (eir_rule p).standing c ≡ Ended = ap (λ b. cond b Going Ended) t in
        let f : d.standing ≡ Ended = rel.ended (ltb-false c.block (length p.blocks) t) in
        record { no_fault = λ code h. ended_fault code f h; ended = ((λ h. e), (λ h. f)) }

pub simulates : (p : Eir) (q : Raster) (reach : ℕ) → IsEir p → size_of p ≤ 2 ^ 12 → RunsProgram p q reach → Simulates (rule_of q) (start_of q) (Related p q) piet_slowdown p
simulates p q reach sound small runs =
    let tiny = tiny_of p small in
    record {
      counts = omega arith;
      loads = λ input bytes.
          let l = loads p q reach runs input tiny sound in
          let most = loads_few p (length (lanes p)) tiny refl in
          (l.0, omega (arith, l.1, most), l.2);
      steps = λ input s m bytes same going.
          let f = follows p q input sound tiny bytes s m same going in
          let most = bound_is (length (lanes p)) (near_at p s.config) (length p.words) p tiny refl f.filled in
          let few = f.few in
          (f.steps, f.some, omega (arith, few, most), f.alike);
      stands = λ c d rel. stands_as p q c d rel;
    }

pub text_stands : (p : Eir) (d : Drawn) (text : List ℕ) → IsEir p → size_of p ≤ 2 ^ 12 → d.lanes ≡ lanes p → d.start ≡ start_lane p → IsBoardText d text → StandsFor p text
text_stands p d text sound small same start t =
    let q = t.image in
    let first = subst (λ (all : List (List Command)). RunsLanes (picture_of q) (image_atlas q) (lanes_of all) d.start (AtEnd (lanes_of all) d.reach)) same t.runs in
    let runs = subst (λ k. RunsLanes (picture_of q) (image_atlas q) (lanes_of (lanes p)) k (AtEnd (lanes_of (lanes p)) d.reach)) start first in
    (q, record { short = t.few; spelled = t.spells; simulates = simulates p q d.reach sound small runs })

pub puts_stands : (p : Eir) (d : Drawn) (a b : Option (List ℕ)) → IsEir p → size_of p ≤ 2 ^ 12 → d.lanes ≡ lanes p → d.start ≡ start_lane p → PutsText a b (IsBoardText d) → PutsText a b (StandsFor p)
puts_stands p d a b sound small same start t = (t.0, t.1, text_stands p d t.0 sound small same start t.2)

pub front_stands : (p : Eir) (d : Drawn) (a b : Option (List ℕ)) → IsEir p → size_of p ≤ 2 ^ 12 → d.lanes ≡ lanes p → d.start ≡ start_lane p → PutsFront a b (IsBoardText d) → PutsFront a b (StandsFor p)
front_stands p d a b sound small same start t = (t.0, t.1, text_stands p d t.0 sound small same start t.2)

-- nothing is a front of a text that stands for the program
abbrev pub drawn_by : Eir → Drawn
drawn_by p = record { lanes = lanes p; reach = 512; start = start_lane p }

pub is_drawn : (p : Eir) → size_of p ≤ 2 ^ 12 → IsDrawn (drawn_by p)
is_drawn p small =
    let tiny = tiny_of p small in
    let count = tiny.lanes in
    let few = tiny.small in
    record { few = omega (arith, count, few); known = omega (arith, count); reached = lanes_reached p tiny; short = omega arith }

pub stands_text : (p : Eir) → IsEir p → size_of p ≤ 2 ^ 12 → StandsFor p (board_text (drawn_by p))
stands_text p sound small = text_stands p (drawn_by p) (board_text (drawn_by p)) sound small refl refl (text_is (drawn_by p) (is_drawn p small))

nothing_sent : (a : Option (List ℕ)) → Appends a a []
nothing_sent None = tt
nothing_sent (Some xs) = sym (append-nil xs)

pub nothing_stands : (p : Eir) (a : Option (List ℕ)) → IsEir p → size_of p ≤ 2 ^ 12 → PutsFront a a (StandsFor p)
nothing_stands p a sound small = (board_text (drawn_by p), record { sent = []; rest = board_text (drawn_by p); appended = nothing_sent a; whole = refl }, stands_text p sound small)
