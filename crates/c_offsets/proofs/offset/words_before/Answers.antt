use Rattle.std.proofs.Common.{◌≤◌, ℕ, List, length, sym, subst, ◌∙◌, add-one, arith}
use Rattle.std.specs.Prelude.{slice_get}
use Rattle.c_types.specs.Types.{CType, words_of}
use Rattle.c_types.specs.Known.{OneType}
use Rattle.c_types.specs.Table.{Table, known, HasType}
use Rattle.c_declared.specs.Slots.{Entries}
use Rattle.std.proofs.lemmas.Option.{slice_get_within}
use Rattle.c_offsets.proofs.OffsetLemmas.{next, IsNext, begun, found_here, goes_on, at_end, IsEntry, entry_is, no_entry}
use Rattle.c_offsets.proofs.offset.words_before.Goals as goal

has_type : (table : Table) (entries : Entries) (all : List (List ℕ × CType)) (k ty : ℕ) (name : List ℕ) (found : _) (e : IsEntry (slice_get entries k) name found ty) → (n : IsNext (known table) e.e all k) → HasType table ty n.m.1
has_type table entries all k ty name found e n = subst (λ (i : ℕ). HasType table i n.m.1) e.number n.ty

pub loop-k-init : goal.loop-k-init
loop-k-init c = λ all tags h layouts. begun tags all c.args.name.now c.of-sum.result c.of-sum.ensures

pub loop-k-preserved : goal.loop-k-preserved
loop-k-preserved c = λ all tags h layouts.
    let table = c.args.types.now in
    let entries = c.args.members.now.entries in
    let k = c.loop-k.k in
    let e = entry_is (slice_get entries k) c.args.name.now c.in-Some.found c.in-Some.ty (sym c.member_at.ensures ∙ c.in-Some.is) in
    let n = next (known table) entries all k e.e h e.there in
    let s = c.loop-k.invariant all tags h layouts in
    let counts = c.plus-sum.ensures s.count (words_of tags n.m.1) s.counts (c.words.ensures n.m.1 tags (has_type table entries all k c.in-Some.ty c.args.name.now c.in-Some.found e n) layouts) in
    rw add-one (goes_on (known table) tags all c.args.name.now c.loop-k.sum c.plus-sum.result k e.e s n (e.same ∙ c.if-found.false) counts)

pub words-requires : goal.words-requires
words-requires c =
    let table = c.args.types.now in
    let entries = c.args.members.now.entries in
    let k = c.loop-k.k in
    let e = entry_is (slice_get entries k) c.args.name.now c.in-Some.found c.in-Some.ty (sym c.member_at.ensures ∙ c.in-Some.is) in
    let n = next (known table) entries c.requires.0 k e.e c.requires.1 e.there in
    slice_get_within (known table) c.in-Some.ty (OneType n.m.1) (has_type table entries c.requires.0 k c.in-Some.ty c.args.name.now c.in-Some.found e n)

pub returns-then-found : goal.returns-then-found
returns-then-found c = λ all tags h layouts.
    let table = c.args.types.now in
    let entries = c.args.members.now.entries in
    let k = c.loop-k.k in
    let e = entry_is (slice_get entries k) c.args.name.now c.in-Some.found c.in-Some.ty (sym c.member_at.ensures ∙ c.in-Some.is) in
    found_here (known table) tags all c.args.name.now c.loop-k.sum k e.e (c.loop-k.invariant all tags h layouts) (next (known table) entries all k e.e h e.there) (e.same ∙ c.if-found.true)

pub returns-in-None : goal.returns-in-None
returns-in-None c = λ all tags h layouts.
    let entries = c.args.members.now.entries in
    at_end (known c.args.types.now) tags entries all c.args.name.now c.loop-k.sum c.loop-k.k h (c.loop-k.invariant all tags h layouts) (no_entry _ entries c.loop-k.k (sym c.member_at.ensures ∙ c.in-None.is))

pub returns : goal.returns
returns c = λ all tags h layouts.
    let entries = c.args.members.now.entries in
    let past : length entries ≤ c.loop-k.k = omega (arith, c.loop-k-test.false, c.len-k-end.ensures.len) in
    at_end (known c.args.types.now) tags entries all c.args.name.now c.loop-k.sum c.loop-k.k h (c.loop-k.invariant all tags h layouts) past
