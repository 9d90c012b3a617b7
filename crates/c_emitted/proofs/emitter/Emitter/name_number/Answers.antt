use Rattle.std.proofs.Common.{◌≡◌, ℕ, [], refl}
use Rattle.std.specs.Prelude.{Some, slice_get}
use Rattle.c_emitted.specs.Emits.{texts, tables_of}
use Rattle.c_emitted.proofs.TableLemmas.{names_grown}
use Rattle.c_emitted.proofs.EmitLemmas.{always, if_equal, quiet, unchanged, names_more, name_at}
use Rattle.c_emitted.proofs.emitter.Emitter.name_number.Goals as goal

pub returns-clause-emits : goal.returns-clause-emits
returns-clause-emits c =
    let a = c.args.self.now in
    let keys = c.insert_full.new.self.keys in
    always c.number_of.result
    (quiet a (record a { names = c.insert_full.new.self }) [] refl (names_more (tables_of a) (texts keys) (names_grown a.names.keys keys c.args.name c.in_ok-number.ensures.keys)) (record { owner = refl; objects = refl; files = refl }) (unchanged a))

pub returns-clause-named : goal.returns-clause-named
returns-clause-named c =
    let keys = c.insert_full.new.self.keys in
    let there : slice_get (texts keys) c.in_ok-number.number ≡ Some c.args.name.now = name_at keys c.in_ok-number.number c.args.name.now c.in_ok-number.ensures.stored.0 c.in_ok-number.ensures.stored.1 c.in_ok-number.ensures.stored.2 in
    if_equal c.number_of.result c.in_ok-number.number (λ (f : ℕ). slice_get (texts keys) f ≡ Some c.args.name.now) there c.number_of.ensures
