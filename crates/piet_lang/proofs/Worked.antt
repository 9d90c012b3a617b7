-- Commands, numbers, slides and runs, worked out by the definitions.
use Rattle.std.proofs.Common.{◌≡◌, ℕ, zero, suc, ◌^◌, ◌-◌, ◌∙◌, true, false, List, [], ◌∷◌, Option, None, Some, unwrap_or, pos, negsuc, refl, ap}
use Rattle.mach_core.specs.declared.machine.Status.TheVariants.{Ended}
use Rattle.mach_core.specs.Rule.{run, at_start}
use Rattle.piet_image.specs.declared.colour.Colour.{Colour}
use Rattle.piet_image.specs.declared.colour.Colour.TheVariants.{White, Black, Hue}
use Rattle.piet_image.specs.declared.place.Place.{Place}
use Rattle.piet_image.specs.declared.place.Pointer.{Pointer}
use Rattle.piet_image.specs.declared.place.Pointer.TheVariants.{Right, Down, Left, Up}
use Rattle.piet_image.specs.declared.place.Chooser.TheVariants.{ToLeft, ToRight}
use Rattle.piet_image.specs.declared.place.Stand.{Stand}
use Rattle.piet_image.specs.Block.{IsHue, Atlas}
use Rattle.piet_image.specs.Picture.{Picture, ahead, beside}
use Rattle.piet_image.specs.Raster.{picture_of}
use Rattle.piet_image.specs.Slide.{slide, Slides}
use Rattle.piet_image.proofs.Blocks.{Alone, alone-exit}
use Rattle.piet_image.proofs.Slides.{one_end}
use Rattle.piet_lang.specs.declared.act.Act.TheVariants.{Push, Pop, Add, Subtract, Divide, Modulo, Not, Greater, Point, Switch, Roll, OutChar}
use Rattle.piet_lang.specs.declared.act.Departure.{Departure}
use Rattle.piet_lang.specs.declared.number.Seen.TheVariants.{Blanks, Digits, Outside}
use Rattle.piet_lang.specs.declared.number.Progress.TheVariants.{On, Closed}
use Rattle.piet_lang.specs.Act.{act_between, after_act, act_fits, turns_of, toggles_of}
use Rattle.piet_lang.specs.Number.{after_blanks, after_digits}
use Rattle.piet_lang.specs.Step.{attempt_on, attempt, attempts, departure, sliding, toggle, turn, turned_by, bytes_of, corner, piet_rule, piet_start}
use Rattle.piet_lang.proofs.Steps.{step_is}

-- from red to dark red, to yellow, from dark magenta to light red, and from a colour to itself
pub darker_pushes : act_between 0 1 0 2 ≡ Some Push
darker_pushes = refl

pub one_hue_adds : act_between 0 1 1 1 ≡ Some Add
one_hue_adds = refl

pub round_the_hues : act_between 5 2 0 0 ≡ Some Subtract
round_the_hues = refl

pub back_one_hue : act_between 0 1 5 0 ≡ Some OutChar
back_one_hue = refl

pub same_colour : act_between 3 2 3 2 ≡ None
same_colour = refl

-- push pushes the size of the block
pub pushes : after_act Push 35 0 (pos 7 ∷ []) ≡ pos 35 ∷ pos 7 ∷ []
pushes = refl

-- the second value comes first: 5 - 2, -7 / 2, -7 % 2, 7 % -2, 5 > 2
pub subtracts : after_act Subtract 1 0 (pos 2 ∷ pos 5 ∷ []) ≡ pos 3 ∷ []
subtracts = refl

pub divides : after_act Divide 1 0 (pos 2 ∷ negsuc 6 ∷ []) ≡ negsuc 3 ∷ []
divides = refl

pub remains : after_act Modulo 1 0 (pos 2 ∷ negsuc 6 ∷ []) ≡ pos 1 ∷ []
remains = refl

pub remains_below : after_act Modulo 1 0 (negsuc 1 ∷ pos 7 ∷ []) ≡ negsuc 0 ∷ []
remains_below = refl

pub compares : after_act Greater 1 0 (pos 2 ∷ pos 5 ∷ []) ≡ pos 1 ∷ []
compares = refl

-- a zero divisor, and too few values, keep all
pub by_zero : after_act Divide 1 0 (pos 0 ∷ pos 5 ∷ []) ≡ pos 0 ∷ pos 5 ∷ []
by_zero = refl

pub too_few : after_act Add 1 0 (pos 4 ∷ []) ≡ pos 4 ∷ []
too_few = refl

pub none_to_pop : after_act Pop 1 0 [] ≡ []
none_to_pop = refl

pub nots : after_act Not 1 0 (pos 0 ∷ []) ≡ pos 1 ∷ []
nots = refl

-- one roll three deep buries the top value; a negative number of rolls brings it back
pub rolls : after_act Roll 1 0 (pos 1 ∷ pos 3 ∷ pos 30 ∷ pos 20 ∷ pos 10 ∷ pos 9 ∷ []) ≡ pos 20 ∷ pos 10 ∷ pos 30 ∷ pos 9 ∷ []
rolls = refl

pub rolls_back : after_act Roll 1 0 (negsuc 0 ∷ pos 3 ∷ pos 20 ∷ pos 10 ∷ pos 30 ∷ pos 9 ∷ []) ≡ pos 30 ∷ pos 20 ∷ pos 10 ∷ pos 9 ∷ []
rolls_back = refl

-- deeper than the stack, or of a negative depth, it is ignored; of depth 1 it moves nothing
pub rolls_too_deep : after_act Roll 1 0 (pos 1 ∷ pos 3 ∷ pos 20 ∷ pos 10 ∷ []) ≡ pos 1 ∷ pos 3 ∷ pos 20 ∷ pos 10 ∷ []
rolls_too_deep = refl

pub rolls_below_zero : after_act Roll 1 0 (pos 1 ∷ negsuc 2 ∷ pos 20 ∷ pos 10 ∷ []) ≡ pos 1 ∷ negsuc 2 ∷ pos 20 ∷ pos 10 ∷ []
rolls_below_zero = refl

pub rolls_one : after_act Roll 1 0 (pos 5 ∷ pos 1 ∷ pos 20 ∷ []) ≡ pos 20 ∷ []
rolls_one = refl

-- five quarter turns are one, and one back is three
pub turns : turned_by (turns_of Point (pos 5 ∷ [])) Right ≡ Down
turns = refl

pub turns_back : turned_by (turns_of Point (negsuc 0 ∷ [])) Right ≡ Up
turns_back = refl

pub toggles : toggles_of Switch (negsuc 2 ∷ []) ≡ 1
toggles = refl

-- -1 is written as the byte 255
pub below_zero : bytes_of (Some OutChar) (negsuc 0 ∷ []) ≡ 255 ∷ []
below_zero = refl

-- the sum of the largest value and 1 is outside, and 0 less the lowest too
pub sum_outside : act_fits Add (pos 1 ∷ pos (2 ^ 63 - 1) ∷ []) ≡ false
sum_outside = refl

pub difference_outside : act_fits Subtract (negsuc (2 ^ 63 - 1) ∷ pos 0 ∷ []) ≡ false
difference_outside = refl

-- a blank, a sign, a digit and the byte behind them
pub blank_seen : after_blanks 32 ≡ On Blanks
blank_seen = refl

pub minus_seen : after_blanks 45 ≡ On (Digits true 0)
minus_seen = refl

pub digit_seen : after_digits true 4 50 ≡ On (Digits true 42)
digit_seen = refl

pub number_closed : after_digits true 42 120 ≡ Closed (negsuc 41)
number_closed = refl

pub digit_outside : after_digits false 922337203685477580 56 ≡ On Outside
digit_outside = refl

abbrev at : ℕ → ℕ → Stand
at x y = record { place = record { x = x; y = y }; pointer = Right; chooser = ToLeft }

-- white, white, red: a slide enters the red
abbrev lane : Picture
lane = picture_of (record { width = 3; height = 1; codels = White ∷ White ∷ Hue 0 1 ∷ [] })

pub slides : Slides lane [] (at 0 0) (Some (at 2 0))
unfolding slide
slides = record { count = 2; ends = refl }

-- white and nothing else: a slide turns and toggles at each stop, and ends where it stops for the second time with one pointer
abbrev room : Picture
room = picture_of (record { width = 2; height = 2; codels = White ∷ White ∷ White ∷ White ∷ [] })

pub slides_round : Slides room [] (at 0 0) None
unfolding slide
slides_round = record { count = 10; ends = refl }

-- white, white and below them black and red: the slide stops at the edge, turns and enters the red
abbrev bend : Picture
bend = picture_of (record { width = 2; height = 2; codels = White ∷ White ∷ Black ∷ Hue 0 1 ∷ [] })

pub slides_down : Slides bend [] (at 0 0) (Some (record { place = record { x = 1; y = 1 }; pointer = Down; chooser = ToRight }))
unfolding slide
slides_down = record { count = 3; ends = refl }

-- a run over white goes without a command
pub over_white : (atlas : Atlas lane) → departure lane atlas (at 0 0) ≡ Some (record { act = None; to = at 2 0 })
over_white atlas = ap sliding (one_end lane [] (at 0 0) (atlas.slid (at 0 0)) (Some (at 2 0)) (atlas.slides (at 0 0) refl) slides)

-- black at the top left: the run has ended
pub black_has_ended : (piet_start (picture_of (record { width = 1; height = 1; codels = Black ∷ [] }))).standing ≡ Ended
black_has_ended = refl

-- one red codel: the eight attempts fail, and the first step ends the run
abbrev codel : Picture
codel = picture_of (record { width = 1; height = 1; codels = Hue 0 1 ∷ [] })

abbrev seen : Option Place → Option Colour
seen None = None
seen (Some p) = codel p

codel_alone : Alone codel corner 0 1
codel_alone = record { is = refl; apart = apart }
  where
    apart : (d : Pointer) (q : Place) → beside d corner ≡ Some q → IsHue codel q 0 1 → ⊥
    apart Right q e is = absurd (let z : seen None ≡ Some (Hue 0 1) = ap seen e ∙ is in cc)
    apart Down q e is = absurd (let z : seen None ≡ Some (Hue 0 1) = ap seen e ∙ is in cc)
    apart Left q e is = absurd (let z : beside Left corner ≡ Some q = e in cc)
    apart Up q e is = absurd (let z : beside Up corner ≡ Some q = e in cc)

walled : (d : Pointer) (s : Stand) (h l : ℕ) (slid : Stand → Option Stand) → attempt_on slid h l s (ahead codel d corner) ≡ None
walled Right s h l slid = refl
walled Down s h l slid = refl
walled Left s h l slid = refl
walled Up s h l slid = refl

module _ (atlas : Atlas codel) where
  fails : (s : Stand) → s.place ≡ corner → attempt codel atlas 0 1 s ≡ None
  fails s e =
      ap (λ p. attempt_on atlas.slid 0 1 s (ahead codel s.pointer (atlas.exit p s.pointer s.chooser))) e
      ∙ (ap (λ p. attempt_on atlas.slid 0 1 s (ahead codel s.pointer p)) (alone-exit codel atlas corner 0 1 s.pointer s.chooser codel_alone)
      ∙ walled s.pointer s 0 1 atlas.slid)

  all_fail : (n : ℕ) (s : Stand) → s.place ≡ corner → attempts codel atlas n 0 1 s ≡ None
  unfolding attempts
  all_fail zero s e = refl
  all_fail (suc n) s e = rw (fails s e, fails (toggle s) e) (all_fail n (turn (toggle s)) e)

  pub one_codel_ends : (input : List ℕ) → (run (piet_rule codel atlas) (piet_start codel) input 1).config.standing ≡ Ended
  one_codel_ends input =
      ap (λ m. m.config.standing) (step_is codel atlas input (at_start (piet_start codel)) None refl refl (ap (λ (o : Option (Option Departure)). unwrap_or o None) (all_fail 4 (at 0 0) refl)))
