-- The expansion of a token, macro by macro.
use Rattle.std.proofs.Common.{◌≡◌, ℕ, suc, ◌+◌, ◌-◌, ◌≤◌, ◌<◌, Bool, true, false, List, [], ◌∷◌, ◌++◌, length, Option, Some, None, Bor, refl, sym, ap, ◌∙◌, subst, append_assoc, arith, length-append}
use Rattle.std.proofs.lemmas.List.{append-nil}
use Rattle.std.specs.List.{flat_map}
use Rattle.std.specs.Option.{option_map_or, unwrap_or}
use Rattle.c_syntax.specs.declared.token.Raw.{Raw}
use Rattle.c_syntax.specs.declared.token.Kind.TheVariants as kind
use Rattle.c_syntax.specs.declared.token.RawKind.{RawKind}
use Rattle.c_syntax.specs.declared.token.RawKind.TheVariants.{Plain, Hash, Wide}
use Rattle.c_prep.specs.declared.table.Table.{Table}
use Rattle.c_prep.specs.declared.output.Output.{Output}
use Rattle.c_prep.specs.declared.expand.Frame.{Frame}
use Rattle.c_prep.specs.Macros.{Macros, Act, Replaces, Gives, kinds, item_of, keep, without, kept_at, expansion}
use Rattle.c_prep.specs.Prepared.{is_over}
use Rattle.c_prep.specs.Views.{macros_of, size_of, Follows, Adds}
use Rattle.c_prep.specs.Frames.{Stays, Begins, TakenName, TakenBy, Taken}
use Rattle.c_prep.proofs.Hiding.{stays, begins, kept_as}
use Rattle.c_prep.proofs.Naming.{restored}
use Rattle.c_prep.proofs.Giving.{over_more, over_follows, follows_over}

-- the macros inside of frames, of which the innermost comes first
abbrev pub level : Macros → List Frame → Macros
level m [] = m
level m (f ∷ fs) = without f.name.now (level m fs)

-- each frame has the tokens that were kept under its name
abbrev pub Sound : Macros → List Frame → Type 0
Sound m [] = Unit {0}
Sound m (f ∷ fs) = (level m fs f.name.now ≡ Some (kinds f.body.now)) × Sound m fs

-- what is left of the expansion
abbrev pub run : ℕ → Macros → ℕ → List Frame → List Act
run most m pos [] = []
run most m pos (f ∷ fs) = flat_map (expansion (most - length (f ∷ fs)) (level m (f ∷ fs)) pos) (kinds f.rest.now) ++ run most m pos fs

-- what the name of a token that is kept is kept with
pub kept_name : (k : RawKind) (m : Macros) (x : List ℕ × List RawKind) → kept_at k m ≡ Some x → m x.0 ≡ Some x.1
kept_name (Plain (kind.Name n)) m x e = at (m n) refl e where
  at : (o : Option (List RawKind)) → m n ≡ o → kept_as n o ≡ Some x → m x.0 ≡ Some x.1
  at None h e = absurd (cc (e))
  at (Some body) h e = subst (λ (y : List ℕ × List RawKind). m y.0 ≡ Some y.1) (ap (λ o. unwrap_or o (n, body)) e) h
kept_name (Plain _) m x e = absurd (cc (e))
kept_name Hash m x e = absurd (cc (e))
kept_name Wide m x e = absurd (cc (e))

-- the state of an expansion: the macros, their number, and the frames
pub record Inside (m : Macros) (size : ℕ) (t : Table) (fs : List Frame) : Type 0 where
  pub macros : macros_of t ≡ level m fs
  pub small : size_of t + length fs ≤ size
  pub sound : Sound m fs

-- one act
pub record Acted (most : ℕ) (m : Macros) (pos : ℕ) (k : RawKind) (fs gs : List Frame) (o p : Output) : Type 0 where
  pub act : Act
  pub same : expansion (most - length fs) (level m fs) pos k ++ run most m pos fs ≡ act ∷ run most m pos gs
  pub out : Adds o p (act ∷ [])

taken_stays : (m : Macros) (size pos : ℕ) (k : RawKind) (t u : Table) (fs gs : List Frame) (o p : Output) → Inside m size t fs → kept_at k (macros_of t) ≡ None → Stays k pos t u fs gs o p
    → Inside m size u gs × (length gs ≤ length fs + 1) × ((most : ℕ) → size ≤ most → Acted most m pos k fs gs o p)
taken_stays m size pos k t u fs gs o p i e h = (
  record {
    macros = h.macros ∙ i.macros ∙ sym (ap (level m) h.frames);
    small = omega (arith, h.size, i.small, ap (λ (z : List Frame). length z) h.frames);
    sound = subst (Sound m) (sym h.frames) i.sound;
  },
  omega (arith, ap (λ (z : List Frame). length z) h.frames),
  λ most fits. record {
    act = Gives (item_of k pos);
    same = ap (λ (z : List Act). z ++ run most m pos fs) (stays (most - length fs) (level m fs) pos k (sym (ap (kept_at k) i.macros) ∙ e)) ∙ ap (λ (z : List Frame). Gives (item_of k pos) ∷ run most m pos z) (sym h.frames);
    out = h.out;
  },
)

-- the frame that was begun
begun_inside : (m : Macros) (size : ℕ) (t u : Table) (fs gs : List Frame) (name : List ℕ) (body : List RawKind) (f : Frame) → Inside m size t fs → macros_of t name ≡ Some body → macros_of u ≡ without name (macros_of t) → size_of u + 1 ≡ size_of t
    → gs ≡ f ∷ fs → f.name.now ≡ name → kinds f.body.now ≡ body → Inside m size u gs
begun_inside m size t u fs gs name body f i kept macros smaller frames named bodied =
    record {
      macros = macros ∙ ap (without name) i.macros ∙ ap (λ n. without n (level m fs)) (sym named) ∙ sym (ap (level m) frames);
      small = omega (arith, i.small, smaller, ap (λ (z : List Frame). length z) frames);
      sound = subst (Sound m) (sym frames) (ap (λ n. level m fs n) named ∙ sym (ap (λ (z : Macros). z name) i.macros) ∙ kept ∙ ap (λ (z : List RawKind). Some z) (sym bodied), i.sound);
    }

begun_run : (most : ℕ) (m : Macros) (pos : ℕ) (k : RawKind) (fs gs : List Frame) (name : List ℕ) (body : List RawKind) (f : Frame) → length fs < most → kept_at k (level m fs) ≡ Some (name, body)
    → gs ≡ f ∷ fs → f.name.now ≡ name → kinds f.rest.now ≡ body → expansion (most - length fs) (level m fs) pos k ++ run most m pos fs ≡ Replaces ∷ run most m pos gs
begun_run most m pos k fs gs name body f fits kept frames named rest =
    let fuel : most - length fs ≡ suc (most - (length fs + 1)) = omega arith in
    let less : most - (length fs + 1) ≡ most - length (f ∷ fs) = omega arith in
    ap (λ n. expansion n (level m fs) pos k ++ run most m pos fs) fuel
    ∙ ap (λ (z : List Act). z ++ run most m pos fs) (begins (most - (length fs + 1)) (level m fs) pos k (name, body) kept)
    ∙ ap (λ n. Replaces ∷ (flat_map (expansion n (without name (level m fs)) pos) body ++ run most m pos fs)) less
    ∙ ap (λ n. Replaces ∷ (flat_map (expansion (most - length (f ∷ fs)) (without n (level m fs)) pos) body ++ run most m pos fs)) (sym named)
    ∙ ap (λ (z : List RawKind). Replaces ∷ (flat_map (expansion (most - length (f ∷ fs)) (level m (f ∷ fs)) pos) z ++ run most m pos fs)) (sym rest)
    ∙ ap (λ (z : List Frame). Replaces ∷ run most m pos z) (sym frames)

taken_begins : (m : Macros) (size pos : ℕ) (k : RawKind) (x : List ℕ × List RawKind) (t u : Table) (fs gs : List Frame) (o p : Output) → Inside m size t fs → kept_at k (macros_of t) ≡ Some x → Begins x.0 x.1 t u fs gs o p
    → Inside m size u gs × (length gs ≤ length fs + 1) × ((most : ℕ) → size ≤ most → Acted most m pos k fs gs o p)
taken_begins m size pos k x t u fs gs o p i e h =
    let longer = ap (λ (z : List Frame). length z) h.frames in (
      begun_inside m size t u fs gs x.0 x.1 h.frame i (kept_name k (macros_of t) x e) h.macros h.size h.frames h.named h.bodied,
      omega (arith, longer),
      λ most fits. record {
        act = Replaces;
        same = begun_run most m pos k fs gs x.0 x.1 h.frame (omega (arith, i.small, h.size, fits)) (sym (ap (kept_at k) i.macros) ∙ e) h.frames h.named (ap kinds h.begun ∙ h.bodied);
        out = h.out;
      },
    )

pub taken_by : (m : Macros) (size pos : ℕ) (k : RawKind) (t u : Table) (fs gs : List Frame) (o p : Output) (kept : Option (List ℕ × List RawKind)) → kept_at k (macros_of t) ≡ kept → Inside m size t fs → TakenBy kept k pos t u fs gs o p
    → Inside m size u gs × (length gs ≤ length fs + 1) × ((most : ℕ) → size ≤ most → Acted most m pos k fs gs o p)
taken_by m size pos k t u fs gs o p None e i h = taken_stays m size pos k t u fs gs o p i e h
taken_by m size pos k t u fs gs o p (Some x) e i h = taken_begins m size pos k x t u fs gs o p i e h

-- how far the output is: a part of the expansion was given, and what is left is what the frames have, unless the output is too large
pub record Partly (all left_run : List Act) (o : Output) (before : List Act) : Type 0 where
  pub done : List Act
  pub left : List Act
  pub whole : done ++ left ≡ all
  pub still : o.over ≡ false → left ≡ left_run
  pub out : Follows o (before ++ done)

pub record Running (m : Macros) (size pos : ℕ) (k : RawKind) (t : Table) (fs : List Frame) (first o : Output) : Type 0 where
  pub inside : Inside m size t fs
  pub acts : (most : ℕ) (before : List Act) → size ≤ most → Follows first before → Partly (expansion most m pos k) (run most m pos fs) o before

-- the token itself was taken
pub run_first : (m : Macros) (size pos : ℕ) (k : RawKind) (t u : Table) (fs gs : List Frame) (o p : Output) → macros_of t ≡ m → size_of t ≤ size → fs ≡ [] → Taken k pos t u fs gs o p → Running m size pos k u gs o p
unfolding Adds
run_first m size pos k t u fs gs o p same small empty taken =
    let h : Taken k pos t u [] gs o p = subst (λ (z : List Frame). Taken k pos t u z gs o p) empty taken in
    let i : Inside m size t [] = record { macros = same; small = omega (arith, small); sound = tt } in
    let took = taken_by m size pos k t u [] gs o p (kept_at k (macros_of t)) refl i h in
    record {
      inside = took.0;
      acts = λ most before fits f.
          let a = took.2 most fits in
          let none : List Frame = [] in
          let all : most - length none ≡ most = omega arith in
          record { done = a.act ∷ []; left = run most m pos gs; whole = sym a.same ∙ append-nil (expansion (most - length none) m pos k) ∙ ap (λ n. expansion n m pos k) all; still = λ _. refl; out = a.out before f };
    }

-- the next token of the innermost frame is taken
pub run_next : (m : Macros) (size pos : ℕ) (k : RawKind) (next : Raw) (t u : Table) (f g : Frame) (fs all gs : List Frame) (first o p : Output) → all ≡ f ∷ fs → o.over ≡ false → f.rest.now ≡ next ∷ g.rest.now → g.name.now ≡ f.name.now → g.body.now ≡ f.body.now
    → Taken next.kind pos t u (g ∷ fs) gs o p → Running m size pos k t all first o
    → Running m size pos k u gs first p × ((most : ℕ) → size ≤ most → length (run most m pos all) ≡ 1 + length (run most m pos gs)) × (length gs ≤ length all + 1)
unfolding Adds
run_next m size pos k next t u f g fs all gs first o p cut over rest named bodied h r =
    let old : Inside m size t (f ∷ fs) = subst (Inside m size t) cut r.inside in
    let levels : level m (f ∷ fs) ≡ level m (g ∷ fs) = ap (λ n. without n (level m fs)) (sym named) in
    let i : Inside m size t (g ∷ fs) = record {
      macros = old.macros ∙ levels;
      small = omega (arith, old.small);
      sound = (ap (level m fs) named ∙ old.sound.0 ∙ ap (λ (z : List Raw). Some (kinds z)) (sym bodied), old.sound.1);
    } in
    let took = taken_by m size pos next.kind t u (g ∷ fs) gs o p (kept_at next.kind (macros_of t)) refl i h in
    let step : (most : ℕ) → (a : Acted most m pos next.kind (g ∷ fs) gs o p) → run most m pos all ≡ a.act ∷ run most m pos gs =
    λ most a. ap (run most m pos) cut
    ∙ ap (λ (z : Macros). flat_map (expansion (most - length (f ∷ fs)) z pos) (kinds f.rest.now) ++ run most m pos fs) levels
    ∙ ap (λ (z : List Raw). flat_map (expansion (most - length (g ∷ fs)) (level m (g ∷ fs)) pos) (kinds z) ++ run most m pos fs) rest
    ∙ append_assoc (expansion (most - length (g ∷ fs)) (level m (g ∷ fs)) pos next.kind) (flat_map (expansion (most - length (g ∷ fs)) (level m (g ∷ fs)) pos) (kinds g.rest.now)) (run most m pos fs)
    ∙ a.same in (
      record {
        inside = took.0;
        acts = λ most before fits start.
            let a = took.2 most fits in
            let was = r.acts most before fits start in
            record {
              done = was.done ++ a.act ∷ [];
              left = run most m pos gs;
              whole = append_assoc was.done (a.act ∷ []) (run most m pos gs) ∙ ap (λ (z : List Act). was.done ++ z) (sym (was.still over ∙ step most a)) ∙ was.whole;
              still = λ _. refl;
              out = subst (Follows p) (append_assoc before was.done (a.act ∷ [])) (a.out (before ++ was.done) was.out);
            };
      },
      λ most fits. omega (arith, ap (λ (z : List Act). length z) (step most (took.2 most fits))),
      omega (arith, took.1, ap (λ (z : List Frame). length z) cut),
    )

-- the innermost macro is left
pub run_left : (m : Macros) (size pos : ℕ) (k : RawKind) (t u : Table) (f : Frame) (fs all : List Frame) (first o : Output) → all ≡ f ∷ fs → (o.over ≡ false → f.rest.now ≡ []) → macros_of u ≡ keep f.name.now (kinds f.body.now) (macros_of t) → size_of u ≤ size_of t + 1
    → Running m size pos k t all first o → Running m size pos k u fs first o
run_left m size pos k t u f fs all first o cut ends kept small r =
    let old : Inside m size t (f ∷ fs) = subst (Inside m size t) cut r.inside in
    record {
      inside = record {
        macros = kept ∙ ap (keep f.name.now (kinds f.body.now)) old.macros ∙ restored f.name.now (kinds f.body.now) (level m fs) old.sound.0;
        small = omega (arith, old.small, small);
        sound = old.sound.1;
      };
      acts = λ most before fits start.
          let was = r.acts most before fits start in
          record {
            done = was.done;
            left = was.left;
            whole = was.whole;
            still = λ over. was.still over ∙ ap (run most m pos) cut ∙ ap (λ (z : List Raw). flat_map (expansion (most - length (f ∷ fs)) (level m (f ∷ fs)) pos) (kinds z) ++ run most m pos fs) (ends over);
            out = was.out;
          };
    }

-- all was given
finished : (all : List Act) (o : Output) (before : List Act) (b : Bool) → o.over ≡ b → Partly all [] o before → Follows o (before ++ all)
finished all o before false e h =
    let none : h.done ≡ all = sym (append-nil h.done) ∙ ap (λ (z : List Act). h.done ++ z) (sym (h.still e)) ∙ h.whole in
    subst (λ (z : List Act). Follows o (before ++ z)) none h.out
finished all o before true e h =
    follows_over o (before ++ all) e (subst (λ (z : List Act). is_over z ≡ true) (append_assoc before h.done h.left ∙ ap (λ (z : List Act). before ++ z) h.whole) (over_more (before ++ h.done) h.left (over_follows o (before ++ h.done) e h.out)))

pub run_end : (m : Macros) (size pos : ℕ) (k : RawKind) (t : Table) (fs : List Frame) (first o : Output) → fs ≡ [] → Running m size pos k t fs first o
    → (macros_of t ≡ m) × (size_of t ≤ size) × ((most : ℕ) → size ≤ most → Adds first o (expansion most m pos k))
unfolding Adds
run_end m size pos k t fs first o none r =
    let i : Inside m size t [] = subst (Inside m size t) none r.inside in (
      i.macros,
      omega (arith, i.small),
      λ most fits before start. finished (expansion most m pos k) o before o.over refl (subst (λ (z : List Frame). Partly (expansion most m pos k) (run most m pos z) o before) none (r.acts most before fits start)),
    )
