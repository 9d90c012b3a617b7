use Rattle.std.proofs.Common.{◌≡◌, List, ◌++◌, map, ap, ◌∙◌}
use Rattle.std.specs.List.{flat_map}
use Rattle.c_types.specs.Declarations.{Fields, types_of_members}
use Rattle.c_store.specs.declared.kind.Kind.{Kind}
use Rattle.c_eval.specs.Environment.{kinds_with, struct_kinds}
use Rattle.c_resolved.specs.Same.{kind_in}
use Rattle.c_declared.specs.Slots.{entries_at}
use Rattle.c_cells.proofs.StructLemmas.{listed_types, closed}
use Rattle.c_cells.proofs.structs.StructKinds.close.Goals as goal

pub add_left-requires : goal.add_left-requires
add_left-requires c = (Fields (types_of_members c.requires.0), listed_types c.args.types.now (entries_at c.args.layouts.now c.args.tag) c.requires.0 c.requires.1.listed)

pub returns : goal.returns
returns c = λ name members words tags distinct at has structs.
    let table = c.args.types.now in
    let all = types_of_members members in
    let kinds : map kind_in c.add_left.new.kinds.items ≡ flat_map (λ t. kinds_with (struct_kinds tags) t) all =
    c.in_ok-add_left.ensures (Fields all) tags (listed_types table (entries_at c.args.layouts.now c.args.tag) members has.listed) structs
    ∙ ap (λ (l : List Kind). map kind_in l ++ flat_map (λ t. kinds_with (struct_kinds tags) t) all) c.new-row.ensures.items in
    closed table c.args.self.now (record c.args.self.now { rows = c.insert.new.self }) c.args.tag name members words tags c.add_left.new.kinds distinct at c.in_ok-insert.ensures.entries kinds structs
