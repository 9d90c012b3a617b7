-- Single steps from a codel that is a block of its own.
use Rattle.piet_image.specs.declared.place.Place.{Place}
use Rattle.piet_image.specs.declared.place.Stand.{Stand}
use Rattle.piet_lang.specs.declared.act.Departure.{Departure}
use Rattle.std.proofs.Common.{◌≡◌, ℕ, ◌+◌, cond, List, [], ◌++◌, Option, Some, None, unwrap_or, refl, ap, ◌∙◌}
use Rattle.mach_core.specs.declared.machine.Status.TheVariants.{Going}
use Rattle.mach_core.specs.Rule.{Moment, applied, input_at}
use Rattle.mach_core.proofs.Runs.{applied-going}
use Rattle.piet_image.specs.declared.colour.Colour.{Colour}
use Rattle.piet_image.specs.declared.colour.Colour.TheVariants.{White, Black, Hue}
use Rattle.piet_image.specs.declared.met.Met.{Met}
use Rattle.piet_image.specs.declared.met.Met.TheVariants.{Free, Onto}
use Rattle.piet_image.specs.Picture.{Picture, met_by, met_at, ahead, beside}
use Rattle.piet_image.specs.Slide.{forward, Slides}
use Rattle.piet_image.specs.Block.{Atlas}
use Rattle.piet_lang.specs.Act.{act_between}
use Rattle.piet_lang.specs.Step.{Config, sliding, attempt_on, attempt, attempts, departure_at, departure, departed, act_taken, takes, bytes_of, next_of, wants_of, written_of, piet_rule}
use Rattle.piet_image.proofs.Slides.{one_end}
use Rattle.piet_image.proofs.Blocks.{Alone, alone-exit}

-- what is free is white
free_white : (f : Picture) (o : Option Place) (q : Place) → met_at f o ≡ Free q → f q ≡ Some White
free_white f None q e = cc
free_white f (Some p) q e = go (f p) refl e
  where
    go : (c : Option Colour) → f p ≡ c → met_by p c ≡ Free q → f q ≡ Some White
    go None is h = cc
    go (Some White) is h = cc
    go (Some Black) is h = cc
    go (Some (Hue a b)) is h = cc

module _ (f : Picture) (atlas : Atlas f) where
  -- the first attempt is the one that counts
  first_attempt : (h l : ℕ) (s : Stand) (r : Option Departure) → attempt f atlas h l s ≡ Some r → attempts f atlas 4 h l s ≡ Some r
  unfolding attempts
  first_attempt h l s r e = rw e refl

  pub departs_by : (h l : ℕ) (s : Stand) (m : Met) (r : Option Departure) → Alone f s.place h l → ahead f s.pointer s.place ≡ m → attempt_on atlas.slid h l s m ≡ Some r → departure f atlas s ≡ r
  departs_by h l s m r alone met e =
      let out = alone-exit f atlas s.place h l s.pointer s.chooser alone in
      let first : attempt f atlas h l s ≡ Some r = ap (λ p. attempt_on atlas.slid h l s (ahead f s.pointer p)) out ∙ (ap (attempt_on atlas.slid h l s) met ∙ e) in
      ap (departure_at f atlas s) alone.is ∙ ap (λ o. unwrap_or o None) (first_attempt h l s r first)

  -- onto a colour
  pub departs_onto : (h l : ℕ) (s : Stand) (q : Place) (h' l' : ℕ) → Alone f s.place h l → ahead f s.pointer s.place ≡ Onto q h' l' → departure f atlas s ≡ Some (record { act = act_between h l h' l'; to = forward s q })
  departs_onto h l s q h' l' alone met = departs_by h l s (Onto q h' l') (Some (record { act = act_between h l h' l'; to = forward s q })) alone met refl

  -- over white
  pub departs_over : (h l : ℕ) (s : Stand) (q : Place) (end : Option Stand) → Alone f s.place h l → ahead f s.pointer s.place ≡ Free q → Slides f [] (forward s q) end → departure f atlas s ≡ sliding end
  departs_over h l s q end alone met slides =
      let same : atlas.slid (forward s q) ≡ end = one_end f [] (forward s q) (atlas.slid (forward s q)) end (atlas.slides (forward s q) (free_white f (beside s.pointer s.place) q met)) slides in
      departs_by h l s (Free q) (sliding end) alone met (ap (λ x. Some (sliding x)) same)

  -- what a departure makes of a moment
  abbrev pub leaving : List ℕ → Moment Config → Option Departure → Moment Config
  leaving input m d = record {
    config = departed f atlas m.config d (cond (takes (act_taken d)) (input_at input m.taken) 0);
    taken = cond (takes (act_taken d)) (m.taken + 1) m.taken;
    output = m.output ++ bytes_of (act_taken d) m.config.stack;
  }

  pub step_is : (input : List ℕ) (m : Moment Config) (d : Option Departure) → m.config.standing ≡ Going → m.config.reading ≡ None → departure f atlas m.config.at ≡ d → applied (piet_rule f atlas) input m ≡ leaving input m d
  step_is input m d going none is =
      applied-going (piet_rule f atlas) input m going
      ∙ (ap (λ r. record {
        config = next_of f atlas m.config r (cond (wants_of f atlas m.config r) (input_at input m.taken) 0);
        taken = cond (wants_of f atlas m.config r) (m.taken + 1) m.taken;
        output = m.output ++ written_of f atlas m.config r;
      }) none
      ∙ ap (leaving input m) is)
