-- The laws of the crate.
use Rattle.c_products.specs.MovesLaws.{SumsAreComputed, SwappedSumsAreComputed, PointersAreMoved, StepsAreTaken, DifferencesAreComputed}
use Rattle.c_products.proofs.Uses.{sums}
use Rattle.c_products.proofs.Swapped.{swapped_sums}
use Rattle.c_products.proofs.Moving.{moving_sums}
use Rattle.c_products.proofs.Steps.{steps}
use Rattle.c_products.proofs.Between.{differences}

pub sums_are_computed : SumsAreComputed
sums_are_computed h t unsigned enough s own input vs st valid sv = sums h t input unsigned s own enough vs st valid sv

pub swapped_sums_are_computed : SwappedSumsAreComputed
swapped_sums_are_computed h t unsigned enough s sum own known input vs st valid sv = swapped_sums h t input unsigned enough s sum own known vs st valid sv

pub pointers_are_moved : PointersAreMoved
pointers_are_moved h t unsigned enough s sum own known input vs st valid sv = moving_sums h t input unsigned enough s sum own known vs st valid sv

pub steps_are_taken : StepsAreTaken
steps_are_taken h t own input vs st valid sv = steps h t input own vs st

pub differences_are_computed : DifferencesAreComputed
differences_are_computed h t enough s d kq own kd input p q words st valid some few sv = differences h t input enough s d kq own kd p q words st valid.0 valid.1.0 some few
