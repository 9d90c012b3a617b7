-- Steps that are quiet.
use Rattle.std.proofs.Common.{◌≡◌, ℕ, ◌+◌, Option, None, Some, sym, ap, ◌∙◌}
use Rattle.mach_core.specs.declared.machine.Status.TheVariants.{Going}
use Rattle.mach_core.specs.Silent.{StepsSilently}
use Rattle.mach_core.proofs.Silently.{silent_more}
use Rattle.piet_image.specs.declared.place.Place.{Place}
use Rattle.piet_image.specs.declared.place.Stand.{Stand}
use Rattle.piet_image.specs.declared.met.Met.{Met}
use Rattle.piet_image.specs.declared.met.Met.TheVariants.{Onto}
use Rattle.piet_image.specs.Picture.{Picture}
use Rattle.piet_image.specs.Block.{IsHue, Atlas}
use Rattle.piet_lang.specs.declared.act.Act.{Act}
use Rattle.piet_lang.specs.declared.act.Departure.{Departure}
use Rattle.piet_lang.specs.Act.{act_between}
use Rattle.piet_lang.specs.Depart.{Counts}
use Rattle.piet_lang.specs.Quiet.{IsQuietStep, IsQuiet}
use Rattle.piet_lang.specs.Step.{Config, acted, act_taken, takes, bytes_of, attempt_on, departure, departed, next_of, wants_of, written_of, piet_rule}
use Rattle.piet_lang.proofs.DepartLemmas.{departs_by}

module _ (f : Picture) (atlas : Atlas f) where
  -- onto a colour, with a command on the way
  pub passes : (s from : Stand) (q : Place) (h l h' l' : ℕ) (met : Met) (act : Act) → IsHue f s.place h l → Counts f atlas s from met → met ≡ Onto q h' l' → Some act ≡ act_between h l h' l'
      → departure f atlas s ≡ Some (record { act = Some act; to = record { place = q; pointer = from.pointer; chooser = from.chooser } })
  passes s from q h l h' l' met act is counts e a =
      let to : Stand = record { place = q; pointer = from.pointer; chooser = from.chooser } in
      sym (departs_by f atlas s from met h l (Some (record { act = act_between h l h' l'; to = to })) is counts (ap (attempt_on atlas.slid h l from) e))
      ∙ ap (λ (o : Option Act). Some (record { act = o; to = to })) (sym a)

  pub quiet_step : (c new : Config) (act : Act) (to : Stand) → c.standing ≡ Going → c.reading ≡ None → departure f atlas c.at ≡ Some (record { act = Some act; to = to }) → IsQuiet act → new ≡ acted (atlas.size c.at.place) c act to 0
      → IsQuietStep (piet_rule f atlas) c new
  quiet_step c new act to going none is quiet e = record {
    going = going;
    takes_none = ap (wants_of f atlas c) none ∙ (ap (λ (d : Option Departure). takes (act_taken d)) is ∙ quiet.takes_none);
    writes_none = ap (written_of f atlas c) none ∙ (ap (λ (d : Option Departure). bytes_of (act_taken d) c.stack) is ∙ quiet.writes_none c.stack);
    leads = ap (λ r. next_of f atlas c r 0) none ∙ (ap (λ d. departed f atlas c d 0) is ∙ sym e);
  }
