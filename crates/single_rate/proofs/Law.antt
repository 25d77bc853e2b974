-- The laws of what flows over the edges of a level's graph.
use Rattle.std.proofs.Common.{◌≡◌, ℕ, List, [], ◌∷◌, ◌++◌, map, Ok, Err, refl, ap, sym, subst, append_assoc}
use Rattle.std.proofs.lemmas.List.{append-nil}
use Rattle.sdf_level.specs.View.{LevelView}
use Rattle.sdf_level.specs.Firings.{firings, EachFiring, actors_of}
use Rattle.sdf_level.specs.Orders.{IsAdmissible}
use Rattle.sdf_level.specs.Run.{Fire}
use Rattle.sdf_level.specs.Told.{lines_after, reads_after, Tells}
use Rattle.sdf_level.specs.LevelRun.{IsLevelRun}
use Rattle.sdf_level.specs.Laws.{Suffices}
use Rattle.sdf_level.specs.declared.turn.Turn.{Turn}
use Rattle.sdf_level.proofs.SameTokens as runs
use Rattle.single_rate.specs.Wires.{wires}
use Rattle.single_rate.specs.Flow.{Given, IsFlow}
use Rattle.single_rate.specs.Delivers.{at_firing, arrived, Delivers}
use Rattle.single_rate.specs.Expanded.{nodes}
use Rattle.single_rate.specs.Laws.{graph, HasOneFlow, IsGiven, AnswersTo}
use Rattle.sdf_level.specs.declared.token_name.TokenName.{TokenName}
use Rattle.single_rate.specs.Names.{names}
use Rattle.single_rate.specs.NamedLines.{named}
use Rattle.single_rate.proofs.NamedEdges.{edges-named}
use Rattle.single_rate.proofs.Places.{erased, wires-again}
use Rattle.single_rate.proofs.AllNumbered.{edges-in}
use Rattle.single_rate.proofs.AllLinks.{AllFit}
use Rattle.single_rate.proofs.Fits.{all-fit}
use Rattle.single_rate.proofs.Delivered.{ranges, ranges-are_flow, flow-is_ranges, flow-delivers}

-- of each firing what the two say of it
both : (P Q R : List ℕ → ℕ → Type 0) → ((before : List ℕ) (b : ℕ) → P before b → Q before b → R before b) → (before rest : List ℕ) → EachFiring P before rest → EachFiring Q before rest → EachFiring R before rest
both P Q R join before [] p q = tt
both P Q R join before (b ∷ rest) p q = (join before b p.0 q.0, both P Q R join (before ++ b ∷ []) rest p.1 q.1)

first-firings : (P : List ℕ → ℕ → Type 0) (before first after : List ℕ) → EachFiring P before (first ++ after) → EachFiring P before first
first-firings P before [] after each = tt
first-firings P before (b ∷ first) after each = (each.0, first-firings P (before ++ b ∷ []) first after each.1)

pub next-firing : (P : List ℕ → ℕ → Type 0) (before first after : List ℕ) (b : ℕ) → EachFiring P before (first ++ b ∷ after) → P (before ++ first) b
next-firing P before [] after b each = let Q : List ℕ → Type 0 = λ l. P l b in subst Q (sym (append-nil before)) each.0
next-firing P before (c ∷ first) after b each = let Q : List ℕ → Type 0 = λ l. P l b in subst Q (append_assoc before (c ∷ []) first) (next-firing P (before ++ c ∷ []) first after b each.1)

-- names flow as the formula says
pub names-flow : (level : LevelView) (q : List ℕ) (turns : List Turn) → IsGiven level q turns (names level) → Suffices level q → IsFlow (names level) (graph level q turns) (named level q)
names-flow level q turns is suffices =
    let fits = all-fit level q (names level) is.lengths is.level_kept suffices is.repetition.agree in
    let P : List (List TokenName) → Type 0 = λ x. IsFlow (names level) (graph level q turns) x in
    subst P (edges-named level q is.level_kept [] level.links 0 refl fits) (rw (wires-again (nodes level q turns) (wires level q) (edges-in level q turns is.level_kept is.order)) (ranges-are_flow level q (names level) fits))

module _ {T : Type 0} (level : LevelView) (q : List ℕ) (turns : List Turn) (given : Given T) (is : IsGiven level q turns given) (suffices : Suffices level q) where
  again : graph level q turns ≡ map erased (wires level q)
  again = wires-again (nodes level q turns) (wires level q) (edges-in level q turns is.level_kept is.order)

  fits : AllFit level q given 0 level.links given.delays
  fits = all-fit level q given is.lengths is.level_kept suffices is.repetition.agree

  pub one-flow : HasOneFlow given (graph level q turns)
  one-flow = record {
    on = ranges level q given fits;
    flows = rw again (ranges-are_flow level q given fits);
    only = λ other flow. sym (flow-is_ranges level q given fits other (rw again at flow));
  }

  pub flows-deliver : (on : List (List T)) → IsFlow given (graph level q turns) on → (list : List ℕ) → IsAdmissible level q list → Delivers level q given (graph level q turns) on list
  flows-deliver on flow list admissible = rw again (flow-delivers level q given fits is.level_kept list admissible on (rw again at flow))

  module _ {F : Type 0} (fire : Fire T F) (on : List (List T)) (flow : IsFlow given (graph level q turns) on) where
    abbrev Fed : List ℕ → ℕ → Type 0
    Fed before b = reads_after level given.sources given.delays given.made before b ≡ at_firing level (graph level q turns) on b (firings b before)

    delivers : Delivers level q given (graph level q turns) on (actors_of turns)
    delivers = flows-deliver on flow (actors_of turns) is.order.order.admissible

    tells : (before : List ℕ) (b : ℕ) → Fed before b → AnswersTo level fire given (graph level q turns) on before b → Tells level fire given.sources given.delays given.made before b
    tells before b fed answers = rw fed answers

    pub run-ends : EachFiring (AnswersTo level fire given (graph level q turns) on) [] (actors_of turns) → IsLevelRun level q given.sources given.delays fire (Ok (arrived level (graph level q turns) on))
    run-ends answers = record {
      list = actors_of turns;
      order = is.order.order;
      ends = record {
        lines = Ok (lines_after level given.delays given.made (actors_of turns));
        runs = runs.lines_told level fire given.sources given.delays (actors_of turns) (lines_after level given.delays given.made (actors_of turns)) record {
          made = given.made;
          each = both Fed (AnswersTo level fire given (graph level q turns) on) (Tells level fire given.sources given.delays given.made) tells [] (actors_of turns) delivers.firings answers;
          lines_are = refl;
        };
        is_end = ap Ok (sym delivers.ends);
      };
    }

    pub run-faults : (before after : List ℕ) (b : ℕ) (fault : F) → actors_of turns ≡ before ++ b ∷ after → EachFiring (AnswersTo level fire given (graph level q turns) on) [] before →
        fire b (firings b before) (at_firing level (graph level q turns) on b (firings b before)) (Err fault) → IsLevelRun level q given.sources given.delays fire (Err fault)
    run-faults before after b fault all answers gives =
        let P : List ℕ → Type 0 = λ l. EachFiring Fed [] l in
        let fed : P (before ++ b ∷ after) = subst P all delivers.firings in
        let here : Fed before b = next-firing Fed [] before after b fed in
        record {
          list = actors_of turns;
          order = is.order.order;
          ends = record {
            lines = Err fault;
            runs = runs.fault_told level fire given.sources given.delays (actors_of turns) fault record {
              made = given.made;
              meets = record {
                first = before;
                actor = b;
                after = after;
                rest_is = all;
                each = both Fed (AnswersTo level fire given (graph level q turns) on) (Tells level fire given.sources given.delays given.made) tells [] before (first-firings Fed [] before (b ∷ after) fed) answers;
                gives = rw here gives;
              };
            };
            is_end = refl;
          };
        }
