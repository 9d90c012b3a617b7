use Rattle.std.proofs.Common.{false, [], ◌∷◌, refl, ◌∙◌}
use Rattle.c_syntax.specs.View.{decl_of}
use Rattle.c_types.specs.Types.{words_of}
use Rattle.c_types.specs.Declarations.{declared, scope_or}
use Rattle.c_eval.specs.Environment.{object_type_in}
use Rattle.c_emission.specs.declared.location.Location.TheVariants as rust
use Rattle.c_expressions.proofs.KeptLemmas.{layouts_at}
use Rattle.c_addressing.proofs.HereLemmas.{still, holds_later, some_later}
use Rattle.c_applied.proofs.LeadsLemmas.{kept, keeps_then, then_still, told_block}
use Rattle.c_lower_blocks.proofs.LaidLemmas.{low_number}
use Rattle.c_lower_blocks.proofs.StandingLemmas.{unset_words}
use Rattle.c_lower_blocks.proofs.places.place_object.Goals as goal

pub declare_object-requires : goal.declare_object-requires
declare_object-requires c = some_later c.args.out.now c.object_type.new.out c.args.here.now.declared c.in_ok-ty.ensures.still c.requires

pub returns-clause-places : goal.returns-clause-places
returns-clause-places c =
    let old = c.args.out.now in
    let mid = c.object_type.new.out in
    let h = c.args.here.now in
    let d = decl_of c.args.d.now in
    let quiet = c.in_ok-ty.ensures.still in
    let declares = c.in_ok-declare_object.ensures in
    let some = some_later old mid h.declared quiet c.requires in
    record {
      keeps = keeps_then (kept quiet) (record { grows = declares.grows; tags = declares.tags });
      around = declares.around;
      slots = refl;
      entries = refl;
      more = rust.Framed c.args.free ∷ [];
      bases = c.in_ok-add_place.ensures;
      holds = (scope_or some.0 (declared some.0 false d), declares.holds some.0 some.1);
      laid = λ s n holds is.
          let t = object_type_in s d in
          let count = words_of s.tags t in
          let now = holds_later old mid h.declared s quiet holds in
          let layouts = layouts_at mid.types h.declared s c.as_slice-layouts.result.now c.as_slice-layouts.ensures.value now.fits in
          let counts = c.words-count.ensures t s.tags (c.in_ok-ty.ensures.ty s holds) layouts in
          let long = low_number c.get-length.result count (c.get-length.ensures.value ∙ c.low-low.ensures count counts) in
          record { holds = declares.holds s now; places = (is, tt); free = told_block (unset_words n count) (c.plus.ensures n count is long) };
    }

pub returns-clause-still : goal.returns-clause-still
returns-clause-still c =
    let mid = c.object_type.new.out in
    then_still c.in_ok-ty.ensures.still (still mid (record mid { types = c.declare_object.new.types }) c.in_ok-declare_object.ensures.grows c.in_ok-declare_object.ensures.tags refl refl)
