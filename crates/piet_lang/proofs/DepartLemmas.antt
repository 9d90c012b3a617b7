-- The attempts to leave a block, one after the other.
use Rattle.std.proofs.Common.{◌≡◌, ℕ, suc, [], Option, None, Some, unwrap_or, refl, sym, ap, ◌∙◌}
use Rattle.piet_image.specs.declared.colour.Colour.{Colour}
use Rattle.piet_image.specs.declared.colour.Colour.TheVariants.{White, Black, Hue}
use Rattle.piet_image.specs.declared.place.Place.{Place}
use Rattle.piet_image.specs.declared.place.Stand.{Stand}
use Rattle.piet_image.specs.declared.met.Met.{Met}
use Rattle.piet_image.specs.declared.met.Met.TheVariants.{Blocked, Free, Onto}
use Rattle.piet_image.specs.Picture.{Picture, ahead, beside}
use Rattle.piet_image.specs.Slide.{Slides}
use Rattle.piet_image.specs.Block.{IsHue, Atlas}
use Rattle.piet_image.proofs.Slides.{one_end}
use Rattle.piet_image.proofs.SlideEnds.{free_at}
use Rattle.piet_lang.specs.declared.act.Act.{Act}
use Rattle.piet_lang.specs.declared.act.Departure.{Departure}
use Rattle.piet_lang.specs.Act.{act_between}
use Rattle.piet_lang.specs.Chart.{HasHue}
use Rattle.piet_lang.specs.Depart.{Counts, Failed}
use Rattle.piet_lang.specs.Step.{sliding, attempt_on, or_else, toggle, turn, attempt, attempts, departure_at, departure, act_taken}

some_first : (slid : Stand → Option Stand) (h l : ℕ) (s : Stand) (met : Met) (b : Option (Option Departure)) → (met ≡ Blocked → ⊥) → or_else (attempt_on slid h l s met) b ≡ attempt_on slid h l s met
some_first slid h l s Blocked b some = absurd (some refl)
some_first slid h l s (Free q) b some = refl
some_first slid h l s (Onto q h' l') b some = refl

module _ (f : Picture) (atlas : Atlas f) where
  abbrev pub met_from : Stand → Met
  met_from s = ahead f s.pointer (atlas.exit s.place s.pointer s.chooser)

  pub counts_first : (s from : Stand) (left more : ℕ) (met : Met) → left ≡ suc more → Failed f atlas s from left → met ≡ met_from from → (met ≡ Blocked → ⊥) → Counts f atlas s from met
  unfolding attempts
  counts_first s from left more met e failed is some = record {
    place = failed.place;
    meets = is;
    some = some;
    first = λ h l.
        failed.same h l
        ∙ (ap (λ n. attempts f atlas n h l from) e
        ∙ (ap (λ m. or_else (attempt_on atlas.slid h l from m) (or_else (attempt f atlas h l (toggle from)) (attempts f atlas more h l (turn (toggle from))))) (sym is)
        ∙ some_first atlas.slid h l from met (or_else (attempt f atlas h l (toggle from)) (attempts f atlas more h l (turn (toggle from)))) some));
  }

  pub counts_second : (s from : Stand) (left more : ℕ) (met other : Met) → left ≡ suc more → Failed f atlas s from left → met ≡ met_from from → met ≡ Blocked → other ≡ met_from (toggle from) → (other ≡ Blocked → ⊥) → Counts f atlas s (toggle from) other
  unfolding attempts
  counts_second s from left more met other e failed is blocked there some = record {
    place = failed.place;
    meets = there;
    some = some;
    first = λ h l.
        failed.same h l
        ∙ (ap (λ n. attempts f atlas n h l from) e
        ∙ (ap (λ m. or_else (attempt_on atlas.slid h l from m) (or_else (attempt f atlas h l (toggle from)) (attempts f atlas more h l (turn (toggle from))))) (sym is ∙ blocked)
        ∙ (ap (λ m. or_else (attempt_on atlas.slid h l (toggle from) m) (attempts f atlas more h l (turn (toggle from)))) (sym there)
        ∙ some_first atlas.slid h l (toggle from) other (attempts f atlas more h l (turn (toggle from))) some)));
  }

  pub failed_more : (s from : Stand) (left more : ℕ) (met other : Met) → left ≡ suc more → Failed f atlas s from left → met ≡ met_from from → met ≡ Blocked → other ≡ met_from (toggle from) → other ≡ Blocked → Failed f atlas s (turn (toggle from)) more
  unfolding attempts
  failed_more s from left more met other e failed is blocked there stuck = record {
    place = failed.place;
    same = λ h l.
        failed.same h l
        ∙ (ap (λ n. attempts f atlas n h l from) e
        ∙ (ap (λ m. or_else (attempt_on atlas.slid h l from m) (or_else (attempt f atlas h l (toggle from)) (attempts f atlas more h l (turn (toggle from))))) (sym is ∙ blocked)
        ∙ ap (λ m. or_else (attempt_on atlas.slid h l (toggle from) m) (attempts f atlas more h l (turn (toggle from)))) (sym there ∙ stuck)));
  }

  pub failed_all : (s from : Stand) (left : ℕ) → left ≡ 0 → Failed f atlas s from left → (h l : ℕ) → attempts f atlas 4 h l s ≡ None
  unfolding attempts
  failed_all s from left e failed h l = failed.same h l ∙ ap (λ n. attempts f atlas n h l from) e

  -- what is met and white
  pub met_white : (s from : Stand) (met : Met) → Counts f atlas s from met → (q : Place) → met ≡ Free q → f q ≡ Some White
  met_white s from met counts q e = (free_at f (beside from.pointer (atlas.exit from.place from.pointer from.chooser)) q (sym counts.meets ∙ e)).white

  pub departs_by : (s from : Stand) (met : Met) (h l : ℕ) (to : Option Departure) → IsHue f s.place h l → Counts f atlas s from met → attempt_on atlas.slid h l from met ≡ Some to → to ≡ departure f atlas s
  departs_by s from met h l to is counts e = sym (ap (departure_at f atlas s) is ∙ ap (λ o. unwrap_or o None) (counts.first h l ∙ e))

  pub departs_white : (s : Stand) (end : Option Stand) → f s.place ≡ Some White → Slides f [] s end → sliding end ≡ departure f atlas s
  departs_white s end is slides = ap sliding (one_end f [] s end (atlas.slid s) slides (atlas.slides s is)) ∙ sym (ap (departure_at f atlas s) is)

  -- over white
  pub enters_white : (h l : ℕ) (from : Stand) (q : Place) (end : Option Stand) → f q ≡ Some White → Slides f [] (record { place = q; pointer = from.pointer; chooser = from.chooser }) end → attempt_on atlas.slid h l from (Free q) ≡ Some (sliding end)
  enters_white h l from q end is slides =
      let to : Stand = record { place = q; pointer = from.pointer; chooser = from.chooser } in
      ap (λ o. Some (sliding o)) (one_end f [] to (atlas.slid to) end (atlas.slides to is) slides)
