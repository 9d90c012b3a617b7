-- A block has one size, so a picture has one atlas.
use Rattle.piet_image.specs.Laws.{Agree}
use Rattle.piet_image.specs.declared.place.Place.{Place}
use Rattle.piet_image.specs.declared.place.Stand.{Stand}
use Rattle.std.proofs.Common.{◌≡◌, ℕ, suc, ◌≤◌, ◌⊎◌, inl, inr, List, [], ◌∷◌, length, Some, refl, sym, ap, subst, ◌∙◌, arith}
use Rattle.piet_image.specs.declared.colour.Colour.TheVariants.{White}
use Rattle.piet_image.specs.declared.place.Pointer.{Pointer}
use Rattle.piet_image.specs.declared.place.Chooser.{Chooser}
use Rattle.piet_image.specs.Picture.{Picture}
use Rattle.piet_image.specs.Block.{IsHue, Among, Distinct, HasSize, Atlas}
use Rattle.piet_image.proofs.Slides.{one_end}
use Rattle.piet_image.proofs.AtlasOf.{exit_same}

record Out (m : Place) (ns : List Place) : Type 0 where
  rest : List Place
  fewer : length ns ≡ suc (length rest)
  keeps : (q : Place) → Among q ns → (m ≡ q) ⊎ Among q rest

take_out : (m : Place) (ns : List Place) → Among m ns → Out m ns
take_out m [] k = absurd k
take_out m (n ∷ ns) (inl e) = record { rest = ns; fewer = refl; keeps = λ q k. go q k }
  where
    go : (q : Place) → Among q (n ∷ ns) → (m ≡ q) ⊎ Among q ns
    go q (inl s) = inl (sym e ∙ s)
    go q (inr k) = inr k
take_out m (n ∷ ns) (inr k) = step (take_out m ns k)
  where
    step : Out m ns → Out m (n ∷ ns)
    step r = record { rest = n ∷ r.rest; fewer = ap suc r.fewer; keeps = λ q k. go q k }
      where
        later : (q : Place) → (m ≡ q) ⊎ Among q r.rest → (m ≡ q) ⊎ Among q (n ∷ r.rest)
        later q (inl s) = inl s
        later q (inr k) = inr (inr k)

        go : (q : Place) → Among q (n ∷ ns) → (m ≡ q) ⊎ Among q (n ∷ r.rest)
        go q (inl s) = inr (inl s)
        go q (inr k) = later q (r.keeps q k)

no_longer : (ms ns : List Place) → Distinct ms → ((q : Place) → Among q ms → Among q ns) → length ms ≤ length ns
no_longer [] ns d part = omega arith
no_longer (m ∷ ms) ns d part = go (no_longer ms) (take_out m ns (part m (inl refl)))
  where
    go : ((ns : List Place) → Distinct ms → ((q : Place) → Among q ms → Among q ns) → length ms ≤ length ns) → Out m ns → length (m ∷ ms) ≤ length ns
    go more out =
        let short = more out.rest d.1 (λ q k. pick q k (out.keeps q (part q (inr k)))) in
        omega (arith, short, out.fewer)
      where
        pick : (q : Place) → Among q ms → (m ≡ q) ⊎ Among q out.rest → Among q out.rest
        pick q k (inl s) = absurd (d.0 (subst (λ z. Among z ms) (sym s) k))
        pick q k (inr a) = a

pub size_same : (f : Picture) (p : Place) (a b : ℕ) → HasSize f p a → HasSize f p b → a ≡ b
size_same f p a b s t =
    let x = no_longer s.members t.members s.distinct (λ q k. (t.all q).1 ((s.all q).0 k)) in
    let y = no_longer t.members s.members t.distinct (λ q k. (s.all q).1 ((t.all q).0 k)) in
    let u = s.count in
    let v = t.count in
    omega arith

pub one_atlas : (f : Picture) (a b : Atlas f) → Agree f a b
one_atlas f a b = record {
  size = λ p h l is. size_same f p (a.size p) (b.size p) (a.sized p h l is) (b.sized p h l is);
  exit = λ p h l d c is. exit_same f p d c (a.exit p d c) (b.exit p d c) (a.exits p h l d c is) (b.exits p h l d c is);
  slid = λ s is. one_end f [] s (a.slid s) (b.slid s) (a.slides s is) (b.slides s is);
}
