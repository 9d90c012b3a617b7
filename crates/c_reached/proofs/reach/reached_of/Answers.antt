use Rattle.std.proofs.Common.{◌≡◌, List, [], ℕ, map, sym, ap, subst, ◌∙◌, arith}
use Rattle.std.specs.Prelude.{is_some}
use Rattle.std.proofs.lemmas.List.{length-map}
use denote.Ref.{Bor}
use Rattle.c_syntax.specs.View.{item_of}
use Rattle.c_tree_names.specs.Added.{texts}
use Rattle.c_reached.specs.Bodies.{body_in}
use Rattle.c_reached.specs.Reaching.{seeds_of, with_all, Reaching}
use Rattle.c_reached.proofs.ReachedLemmas.{first_ones, gone_reached}
use Rattle.c_reached.proofs.GoingLemmas.{stands_defined}
use Rattle.c_reached.proofs.reach.reached_of.Goals as goal

pub returns : goal.returns
returns c = λ name.
    let items = map item_of c.args.items.now in
    let seeds = seeds_of items in
    let entries = c.in_ok-bodies.bodies.entries in
    let is = λ (f : List ℕ). is_some (body_in entries f) in
    let stands = c.in_ok-bodies.ensures in
    let begun : texts c.put_all.new.known.keys ≡ with_all is [] seeds =
    c.in_ok-put_all.ensures ∙ (ap (λ (l : List (Bor (List ℕ))). with_all is (texts l) (texts c.as_slice.result.now)) c.new-known.ensures.empty ∙ ap (with_all is []) (ap texts c.as_slice.ensures.value ∙ c.in_ok-first.ensures)) in
    let start = subst (λ (l : List (List ℕ)). Reaching items seeds l 0) (sym begun) (first_ones items seeds is (stands_defined items entries stands)) in
    gone_reached items (texts c.go_on.new.known.keys) (c.in_ok-go_on.ensures items seeds stands (let n = length-map c.args.items.now item_of in omega (arith, n)) start) name
