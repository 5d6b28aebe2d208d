-- The order of lines, turn by turn: in each turn a legal continuation is what that turn takes and then a legal continuation of the
-- next one, with comments anywhere; and the lines of a town that keeps its limits are legal from the start.
use Prim.Native.Nat.{ℕ, ◌+◌, ◌≤◌, ◌<◌}
use mathlib.Core.Path.{◌≡◌, refl}
use mathlib.Core.Bool.{Bool, true, ◌&&◌}
use mathlib.Core.List.{List, [], ◌∷◌, ◌++◌, map}
use native.Mathlib.Omega.{arith}
use lib.Dec.{leb, ltb, eqb}
use lib.ListN.{length}
use borrow.Author.Tests.{ltb-true, leb-true, eqb-true, lt-ltb, le-leb, eq-eqb}
use Rattle.model.specs.Limits.{max_arcs, max_intervals}
use Rattle.model.specs.NetworkRules.{junctions_keep}
use Rattle.model.specs.Rules.{fences_keep_lem}
use Rattle.model.proofs.Rules.{true_both, both_true}
use Rattle.townfile.specs.Grammar.{Named, Arc, Town, Each, Line, TN, FN, JN, AR, CM, without_comments, lines_in_order}
use Rattle.townfile.specs.Lines.{after_town_lem, after_fences_lem, after_junction, after_arc_lem}
use Rattle.townfile.specs.FirstFault.{start}
use Rattle.townfile.specs.declared.progress.Progress.{Progress}
use Rattle.townfile.proofs.Kept.{ArcTested, NamesFrom, PartsKept}
use Rattle.townfile.proofs.Order.{arc_limits, Allowed, after_all, Legal}

-- In either form.
module _ (held : Bool) where
  -- ---- Comments

  pub commented_legal : (p : Progress) (say : List Line) → Legal held p (without_comments say) → Legal held p say
  unfolding Legal without_comments
  commented_legal p [] legal = legal
  commented_legal p (TN junctions intervals ∷ say) legal = (legal.0, commented_legal (after_town_lem p held (junctions ∷ intervals ∷ [])) say legal.1)
  commented_legal p (FN fences ∷ say) legal = (legal.0, commented_legal (after_fences_lem p) say legal.1)
  commented_legal p (JN named ∷ say) legal = (legal.0, commented_legal (after_junction p named.number) say legal.1)
  commented_legal p (AR arc ∷ say) legal = (legal.0, commented_legal (after_arc_lem p) say legal.1)
  commented_legal p (CM ∷ say) legal = (record { mark_in_turn = refl; counts_match = tt; keeps = refl }, commented_legal p say legal)

  pub after_commented : (p : Progress) (say : List Line) → after_all held p say ≡ after_all held p (without_comments say)
  unfolding after_all without_comments
  after_commented p [] = refl
  after_commented p (TN junctions intervals ∷ say) = after_commented (after_town_lem p held (junctions ∷ intervals ∷ [])) say
  after_commented p (FN fences ∷ say) = after_commented (after_fences_lem p) say
  after_commented p (JN named ∷ say) = after_commented (after_junction p named.number) say
  after_commented p (AR arc ∷ say) = after_commented (after_arc_lem p) say
  after_commented p (CM ∷ say) = after_commented p say

  -- ---- What a line that is allowed keeps

  same_turn : (p : Progress) (turn turn' : ℕ) → p.turn ≡ turn → eqb p.turn turn' ≡ true → turn ≡ turn'
  same_turn p turn turn' at mark_in_turn = cc (eqb-true p.turn turn' mark_in_turn)

  arc_allowed : (p : Progress) (arc : Arc) → Allowed held p (AR arc) → ArcTested p.junctions p.intervals arc × (p.arcs < max_arcs)
  arc_allowed p arc allowed =
      let limits = arc_limits p arc allowed.keeps in
      (record { ends_keep = limits.0; length_keeps = limits.1; speeds_keep = limits.2; hold_keeps_law = limits.3; per_interval = allowed.counts_match.1 }, limits.4)

  allowed_arc : (p : Progress) (arc : Arc) → 2 ≤ p.turn → held ≡ p.held → ArcTested p.junctions p.intervals arc → p.arcs < max_arcs → Allowed held p (AR arc)
  allowed_arc p arc turn form kept few = record {
    mark_in_turn = le-leb 2 p.turn turn;
    counts_match = (form, kept.per_interval);
    keeps =
        both_true (both_true (both_true (both_true kept.ends_keep kept.length_keeps) kept.speeds_keep) kept.hold_keeps_law) (lt-ltb p.arcs max_arcs few);
  }

  name_allowed : (p : Progress) (named : Named) → Allowed held p (JN named) → (named.number < p.junctions) × (p.unnamed ≤ named.number)
  name_allowed p named allowed =
      let both = true_both (ltb named.number p.junctions) (leb p.unnamed named.number) allowed.keeps in
      (ltb-true named.number p.junctions both.0, leb-true p.unnamed named.number both.1)

  -- ---- From legal lines to a town

  record ArcsLeft (junctions intervals before : ℕ) (lines : List Line) : Type 0 where
    arcs : List Arc
    order : lines ≡ map AR arcs
    kept : Each (ArcTested junctions intervals) arcs
    few : before + length arcs ≤ max_arcs

  record NamesLeft (p : Progress) (lines : List Line) : Type 0 where
    names : List Named
    rest : List Line
    order : lines ≡ map JN names ++ rest
    kept : NamesFrom p.junctions p.unnamed names
    left : ArcsLeft p.junctions p.intervals p.arcs rest

  record FencesLeft (p : Progress) (lines : List Line) : Type 0 where
    fences : List ℕ
    rest : List Line
    order : lines ≡ FN fences ∷ rest
    count : length fences ≡ p.intervals
    keep : fences_keep_lem fences ≡ true
    left : NamesLeft (after_fences_lem p) rest

  record TownLeft (p : Progress) (lines : List Line) : Type 0 where
    junctions : ℕ
    intervals : ℕ
    rest : List Line
    order : lines ≡ TN junctions intervals ∷ rest
    keep : (junctions_keep junctions && ltb 0 intervals && leb intervals max_intervals) ≡ true
    left : FencesLeft (after_town_lem p held (junctions ∷ intervals ∷ [])) rest

  with_arc : (p : Progress) (arc : Arc) (lines : List Line) → Allowed held p (AR arc) → (p.arcs < max_arcs → ArcsLeft p.junctions p.intervals (p.arcs + 1) lines) →
      ArcsLeft p.junctions p.intervals p.arcs (AR arc ∷ lines)
  unfolding Each
  with_arc p arc lines allowed later =
      let here = arc_allowed p arc allowed in
      let left = later here.1 in
      record { arcs = arc ∷ left.arcs; order = rw left.order; kept = (here.0, left.kept); few = omega (arith, left.few) }

  arcs_left : (p : Progress) (say : List Line) → p.turn ≡ 3 → p.arcs ≤ max_arcs → Legal held p say → ArcsLeft p.junctions p.intervals p.arcs (without_comments say)
  unfolding Legal without_comments Each
  arcs_left p [] turn few legal = record { arcs = []; order = refl; kept = tt; few = omega arith }
  arcs_left p (TN junctions intervals ∷ say) turn few legal = absurd (omega (arith, same_turn p 3 0 turn legal.0.mark_in_turn))
  arcs_left p (FN fences ∷ say) turn few legal = absurd (omega (arith, same_turn p 3 1 turn legal.0.mark_in_turn))
  arcs_left p (JN named ∷ say) turn few legal = absurd (omega (arith, same_turn p 3 2 turn legal.0.mark_in_turn))
  arcs_left p (AR arc ∷ say) turn few legal = with_arc p arc (without_comments say) legal.0 (λ h. arcs_left (after_arc_lem p) say refl (omega arith) legal.1)
  arcs_left p (CM ∷ say) turn few legal = arcs_left p say turn few legal.1

  names_left : (p : Progress) (say : List Line) → p.turn ≡ 2 → p.arcs ≤ max_arcs → Legal held p say → NamesLeft p (without_comments say)
  unfolding Legal without_comments Each NamesFrom
  names_left p [] turn few legal = record { names = []; rest = []; order = refl; kept = tt; left = record { arcs = []; order = refl; kept = tt; few = omega arith } }
  names_left p (TN junctions intervals ∷ say) turn few legal = absurd (omega (arith, same_turn p 2 0 turn legal.0.mark_in_turn))
  names_left p (FN fences ∷ say) turn few legal = absurd (omega (arith, same_turn p 2 1 turn legal.0.mark_in_turn))
  names_left p (JN named ∷ say) turn few legal =
      let later = names_left (after_junction p named.number) say turn few legal.1 in
      record { names = named ∷ later.names; rest = later.rest; order = rw later.order; kept = (name_allowed p named legal.0, later.kept); left = later.left }
  names_left p (AR arc ∷ say) turn few legal = record {
    names = [];
    rest = AR arc ∷ without_comments say;
    order = refl;
    kept = tt;
    left = with_arc p arc (without_comments say) legal.0 (λ h. arcs_left (after_arc_lem p) say refl (omega arith) legal.1);
  }
  names_left p (CM ∷ say) turn few legal = names_left p say turn few legal.1

  fences_left : (p : Progress) (say : List Line) → p.turn ≡ 1 → p.arcs ≤ max_arcs → Legal held p say → FencesLeft p (without_comments say)
  unfolding Legal without_comments
  fences_left p [] turn few legal = absurd (omega arith)
  fences_left p (TN junctions intervals ∷ say) turn few legal = absurd (omega (arith, same_turn p 1 0 turn legal.0.mark_in_turn))
  fences_left p (FN fences ∷ say) turn few legal =
      record {
        fences = fences;
        rest = without_comments say;
        order = refl;
        count = legal.0.counts_match;
        keep = legal.0.keeps;
        left = names_left (after_fences_lem p) say refl few legal.1;
      }
  fences_left p (JN named ∷ say) turn few legal = absurd (omega (arith, same_turn p 1 2 turn legal.0.mark_in_turn))
  fences_left p (AR arc ∷ say) turn few legal = absurd (omega (arith, leb-true 2 p.turn legal.0.mark_in_turn))
  fences_left p (CM ∷ say) turn few legal = fences_left p say turn few legal.1

  town_left : (p : Progress) (say : List Line) → p.turn ≡ 0 → p.arcs ≤ max_arcs → Legal held p say → TownLeft p (without_comments say)
  unfolding Legal without_comments
  town_left p [] turn few legal = absurd (omega arith)
  town_left p (TN junctions intervals ∷ say) turn few legal =
      let left = fences_left (after_town_lem p held (junctions ∷ intervals ∷ [])) say refl few legal.1 in
      record { junctions = junctions; intervals = intervals; rest = without_comments say; order = refl; keep = legal.0.keeps; left = left }
  town_left p (FN fences ∷ say) turn few legal = absurd (omega (arith, same_turn p 0 1 turn legal.0.mark_in_turn))
  town_left p (JN named ∷ say) turn few legal = absurd (omega (arith, same_turn p 0 2 turn legal.0.mark_in_turn))
  town_left p (AR arc ∷ say) turn few legal = absurd (omega (arith, leb-true 2 p.turn legal.0.mark_in_turn))
  town_left p (CM ∷ say) turn few legal = town_left p say turn few legal.1

  left_town : (lines : List Line) → TownLeft start lines → (T : Town) × (lines ≡ lines_in_order T) × PartsKept T
  left_town lines town =
      let fences = town.left in
      let names = fences.left in
      let arcs = names.left in
      let some = true_both (junctions_keep town.junctions && ltb 0 town.intervals) (leb town.intervals max_intervals) town.keep in
      let all = true_both (junctions_keep town.junctions) (ltb 0 town.intervals) some.0 in (
        record { junctions = town.junctions; fences = fences.fences; names = names.names; arcs = arcs.arcs },
        rw (town.order, fences.order, names.order, arcs.order, fences.count),
        record {
          junctions_keep_law = all.0;
          count_keeps_law = rw fences.count (both_true all.1 some.1);
          fences_keep = fences.keep;
          names_kept = names.kept;
          arcs_kept = rw fences.count arcs.kept;
          arcs_few = omega (arith, arcs.few);
        },
      )

  pub legal_town : (say : List Line) → Legal held start say → (T : Town) × (without_comments say ≡ lines_in_order T) × PartsKept T
  legal_town say legal = left_town (without_comments say) (town_left start say refl (omega arith) legal)

  -- ---- From a town to legal lines

  arcs_legal : (p : Progress) (arcs : List Arc) → 2 ≤ p.turn → held ≡ p.held → Each (ArcTested p.junctions p.intervals) arcs →
      p.arcs + length arcs ≤ max_arcs → Legal held p (map AR arcs)
  unfolding Legal Each
  arcs_legal p [] turn form kept few = turn
  arcs_legal p (arc ∷ arcs) turn form kept few = (allowed_arc p arc turn form kept.0 (omega arith), arcs_legal (after_arc_lem p) arcs (omega arith) form kept.1 (omega arith))

  names_legal : (p : Progress) (names : List Named) (arcs : List Arc) → p.turn ≡ 2 → held ≡ p.held → NamesFrom p.junctions p.unnamed names →
      Each (ArcTested p.junctions p.intervals) arcs → p.arcs + length arcs ≤ max_arcs → Legal held p (map JN names ++ map AR arcs)
  unfolding Legal NamesFrom
  names_legal p [] arcs turn form named kept few = arcs_legal p arcs (omega arith) form kept few
  names_legal p (name ∷ names) arcs turn form named kept few = (
    record {
      mark_in_turn = eq-eqb p.turn 2 turn;
      counts_match = tt;
      keeps = both_true (lt-ltb name.number p.junctions named.0.0) (le-leb p.unnamed name.number named.0.1);
    },
    names_legal (after_junction p name.number) names arcs turn form named.1 kept few,
  )

  pub town_legal : (T : Town) → PartsKept T → Legal held start (lines_in_order T)
  unfolding Legal
  town_legal T parts =
      let count = true_both (ltb 0 (length T.fences)) (leb (length T.fences) max_intervals) parts.count_keeps_law in
      let read = after_fences_lem (after_town_lem start held (T.junctions ∷ length T.fences ∷ [])) in (
        record { mark_in_turn = refl; counts_match = tt; keeps = both_true (both_true parts.junctions_keep_law count.0) count.1 },
        (
          record { mark_in_turn = refl; counts_match = refl; keeps = parts.fences_keep },
          names_legal read T.names T.arcs refl refl parts.names_kept parts.arcs_kept (omega (arith, parts.arcs_few)),
        ),
      )

  -- ---- The counts in the end

  -- A progress has these counts.
  pub record Counted (form : Bool) (junctions intervals arcs : ℕ) (p : Progress) : Type 0 where
    pub form_is : p.held ≡ form
    pub junctions_counted : p.junctions ≡ junctions
    pub intervals_counted : p.intervals ≡ intervals
    pub arcs_counted : p.arcs ≡ arcs

  arcs_counted : (p : Progress) (arcs : List Arc) → Counted p.held p.junctions p.intervals (p.arcs + length arcs) (after_all held p (map AR arcs))
  unfolding after_all
  arcs_counted p [] = record { form_is = refl; junctions_counted = refl; intervals_counted = refl; arcs_counted = omega arith }
  arcs_counted p (arc ∷ arcs) =
      let later = arcs_counted (after_arc_lem p) arcs in
      record {
        form_is = later.form_is;
        junctions_counted = later.junctions_counted;
        intervals_counted = later.intervals_counted;
        arcs_counted = omega (arith, later.arcs_counted);
      }

  names_counted : (p : Progress) (names : List Named) (arcs : List Arc) →
      Counted p.held p.junctions p.intervals (p.arcs + length arcs) (after_all held p (map JN names ++ map AR arcs))
  unfolding after_all
  names_counted p [] arcs = arcs_counted p arcs
  names_counted p (named ∷ names) arcs = names_counted (after_junction p named.number) names arcs

  pub town_counted : (T : Town) → Counted held T.junctions (length T.fences) (length T.arcs) (after_all held start (lines_in_order T))
  unfolding after_all
  town_counted T =
      let later = names_counted (after_fences_lem (after_town_lem start held (T.junctions ∷ length T.fences ∷ []))) T.names T.arcs in
      record {
        form_is = later.form_is;
        junctions_counted = later.junctions_counted;
        intervals_counted = later.intervals_counted;
        arcs_counted = omega (arith, later.arcs_counted);
      }
