-- Known places and values, by their parts.
use Rattle.std.proofs.Common.{◌≡◌, ℕ, ◌+◌, ◌-◌, ◌%◌, ◌^◌, refl, sym, ap, subst, ◌∙◌, arith}
use Rattle.std.specs.Prelude.{Option, Some, None, option_map, option_and_then}
use Rattle.c_types.specs.Types.{CType}
use Rattle.c_operands.specs.declared.class.Class.{Class}
use Rattle.c_operands.specs.Classes.{class_of}
use Rattle.c_lowered.specs.Locations as plain
use Rattle.c_emission.specs.declared.location.Location.{Location}
use Rattle.c_emission.specs.declared.location.Direct.{Direct}
use Rattle.c_emission.specs.declared.location.Direct.TheVariants.{Exactly, Address, Stored}
use Rattle.c_counted.specs.Numbers.{IsNumber}
use Rattle.c_addressing.specs.declared.here.Literals.{Literals}
use Rattle.c_addressing.specs.declared.spots.Known.{Known}
use Rattle.c_addressing.specs.declared.spots.Spot.{Spot}
use Rattle.c_addressing.specs.Classes.{held_by}
use Rattle.c_addressing.specs.Here.{IsBehind, IsSpot, IsKnown}
use Rattle.c_addressing.specs.Places.{IsLocation, IsDirect, IsDirectOrNone}
use Rattle.c_addressing.proofs.ClassLemmas.{held_is}

-- a word that is a number modulo 2^24
pub low_number : (told n : ℕ) → told ≡ n % 2 ^ 24 → IsNumber told n
low_number told n e = record { same = omega (arith, e) }

pub known_some : (v : Direct) (at : Literals) (l : Literals) (count : ℕ) (d : Option plain.Direct) → IsDirectOrNone (Some v) d → IsBehind l at count → IsKnown l count (Some (record { value = v; literals = at })) d
known_some v at l count (Some d) h e = (h, e)
known_some v at l count None h e = absurd h

pub known_none : (l : Literals) (count : ℕ) (d : Option plain.Direct) → IsDirectOrNone None d → IsKnown l count None d
known_none l count None h = h
known_none l count (Some d) h = absurd h

pub spot_some : (s : Spot) (v : Direct) (l : Literals) (count : ℕ) (p : Option plain.Location) → IsSpot l count (Some s) p → ((q : plain.Location) → IsLocation s.place q → IsDirect v (plain.address_of q)) → IsKnown l count (Some (record { value = v; literals = s.literals })) (option_map plain.address_of p)
spot_some s v l count (Some q) h f = (f q h.0, h.1)
spot_some s v l count None h f = absurd h

pub spot_none : (l : Literals) (count : ℕ) (p : Option plain.Location) → IsSpot l count None p → IsKnown l count None (option_map plain.address_of p)
spot_none l count None h = h
spot_none l count (Some q) h = absurd h

-- 0 less a known word
pub word_less : (k : Known) (word r : ℕ) (l : Literals) (count : ℕ) (d : Option plain.Direct) → k.value ≡ Exactly word → IsKnown l count (Some k) d → ((n : ℕ) → IsNumber word n → IsNumber r ((2 ^ 24 - n % 2 ^ 24) % 2 ^ 24))
    → IsKnown l count (Some (record { value = Exactly r; literals = k.literals })) (option_and_then plain.negated d)
word_less k word r l count (Some d) e h f = word_of d (subst (λ (v : Direct). IsDirect v d) e h.0) where
  word_of : (d : plain.Direct) → IsDirect (Exactly word) d → IsKnown l count (Some (record { value = Exactly r; literals = k.literals })) (plain.negated d)
  word_of (plain.Exactly n) is = (f n is, h.1)
  word_of (plain.Address n) is = absurd is
  word_of (plain.Stored p) is = absurd is
word_less k word r l count None e h f = absurd h

pub address_less : (k : Known) (o : ℕ) (l : Literals) (count : ℕ) (d : Option plain.Direct) → k.value ≡ Address o → IsKnown l count (Some k) d → IsKnown l count None (option_and_then plain.negated d)
address_less k o l count (Some d) e h = none_of d (subst (λ (v : Direct). IsDirect v d) e h.0) where
  none_of : (d : plain.Direct) → IsDirect (Address o) d → IsKnown l count None (plain.negated d)
  none_of (plain.Address n) is = tt
  none_of (plain.Exactly n) is = absurd is
  none_of (plain.Stored p) is = absurd is
address_less k o l count None e h = absurd h

pub stored_less : (k : Known) (o : Location) (l : Literals) (count : ℕ) (d : Option plain.Direct) → k.value ≡ Stored o → IsKnown l count (Some k) d → IsKnown l count None (option_and_then plain.negated d)
stored_less k o l count (Some d) e h = none_of d (subst (λ (v : Direct). IsDirect v d) e h.0) where
  none_of : (d : plain.Direct) → IsDirect (Stored o) d → IsKnown l count None (plain.negated d)
  none_of (plain.Stored p) is = tt
  none_of (plain.Exactly n) is = absurd is
  none_of (plain.Address n) is = absurd is
stored_less k o l count None e h = absurd h

pub none_less : (l : Literals) (count : ℕ) (d : Option plain.Direct) → IsKnown l count None d → IsKnown l count None (option_and_then plain.negated d)
none_less l count None h = h
none_less l count (Some d) h = absurd h

-- what a known place is worth
pub worth : (s : Spot) (l : Literals) (count : ℕ) (p : Option plain.Location) (t : CType) (c : Class) (r : Option Known) → c ≡ class_of t → IsSpot l count (Some s) p
    → ((q : plain.Location) → IsLocation s.place q → IsBehind l s.literals count → IsKnown l count r (held_by c q)) → IsKnown l count r (option_and_then (λ q. plain.held t q) p)
worth s l count (Some q) t c r e h f = subst (λ (v : Option plain.Direct). IsKnown l count r v) (ap (λ (k : Class). held_by k q) e ∙ held_is t q) (f q h.0 h.1)
worth s l count None t c r e h f = absurd h

pub worth_none : (l : Literals) (count : ℕ) (p : Option plain.Location) (t : CType) → IsSpot l count None p → IsKnown l count None (option_and_then (λ q. plain.held t q) p)
worth_none l count None t h = h
worth_none l count (Some q) t h = absurd h

-- a member of a known place
pub member_some : (s : Spot) (place : Location) (l : Literals) (count k : ℕ) (p : Option plain.Location) → IsSpot l count (Some s) p → ((q : plain.Location) → IsLocation s.place q → IsLocation place (plain.shifted k q))
    → IsSpot l count (Some (record { place = place; literals = s.literals })) (option_map (plain.shifted k) p)
member_some s place l count k (Some q) h f = (f q h.0, h.1)
member_some s place l count k None h f = absurd h

pub member_none : (l : Literals) (count k : ℕ) (p : Option plain.Location) → IsSpot l count None p → IsSpot l count None (option_map (plain.shifted k) p)
member_none l count k None h = h
member_none l count k (Some q) h = absurd h

pub then_map : (t : CType) (k : ℕ) (p : Option plain.Location) → option_and_then (λ q. plain.held t q) (option_map (plain.shifted k) p) ≡ option_and_then (λ q. plain.held t (plain.shifted k q)) p
then_map t k (Some q) = refl
then_map t k None = refl
