-- How a board ends.
use Rattle.std.proofs.Common.{◌≡◌, ⊎_elim, Bool, true, false, [], Option, Some, None, Result, Ok, Err, slice_get, refl, ap, ◌∙◌, subst}
use Rattle.std.specs.Prelude.{slice_index_or}
use Rattle.std.proofs.lemmas.Option.{slice_get-get_or, slice_get_within}
use Rattle.job_preparing.specs.Handing.{end_of, given_of}
use Rattle.job_preparing.specs.declared.handing.JobGiven.{JobGiven}
use Rattle.job_rules.specs.Items.{no_graph}
use Rattle.job_rules.specs.Words.{Answer, answer_of}
use Rattle.nested_jobs.specs.Marks.{Done}
use Rattle.pisdf_model.specs.declared.graph.Graph.{Graph}
use Rattle.pisdf_meaning.specs.Meaning.{Means}
use Rattle.pisdf_meaning.specs.Run.{IterationEnds, top_firing}
use Rattle.pisdf_meaning.specs.declared.refusal.Refusal.{Refusal}
use Rattle.board_rules.specs.AskingLaws.{BoardsEnd, EndsAreMeant}
use Rattle.board_rules.specs.Keys.{Key}
use Rattle.board_rules.specs.Laws.{JournalsTellSteps}
use Rattle.board_rules.specs.Legal.{HasEnded, state_after}
use Rattle.firing_board.specs.Beginning.{EndsWith}
use Rattle.firing_board.specs.Core.{IsEndFor}
use Rattle.firing_board.specs.Ends.{EndsAs, HasFinished, IsOver}
use Rattle.firing_board.specs.Invariants.{Keeps, view_with}
use Rattle.firing_board.specs.Runs.{AreAllIdle}
use Rattle.firing_board.specs.declared.state.Core.{Core}
use Rattle.firing_board.specs.declared.ending.BoardEnd.{BoardEnd}
use Rattle.firing_board.specs.declared.ending.BoardEnd.TheVariants as ends
use Rattle.firing_board.proofs.Fields.{same_steps}
use Rattle.firing_board.proofs.Rows.{the_same}

end_there : (answer : Answer) (end : Option (Result JobGiven Refusal)) → IsEndFor answer end → (e : Result JobGiven Refusal) × (end ≡ Some e) × (answer ≡ answer_of (end_of e))
end_there answer None is = absurd is
end_there answer (Some e) is = (e, refl, is)

module _ (tell : JournalsTellSteps) (key : Key) (c : Core) (starved : Bool) (keeps : Keeps key c starved) where
  pub all_idle : IsOver (view_with key c starved) → AreAllIdle (view_with key c starved)
  all_idle over = ⊎_elim (λ (f : HasFinished (view_with key c starved)). record { taken = f.taken; at = f.at; run_none = λ w lt. f.ended.none_run w lt }) (λ o. o.1) over

module _ (tell : JournalsTellSteps) (ended : BoardsEnd) (key : Key) (c : Core) (keeps : Keeps key c false) where
  pub top_ended : HasFinished (view_with key c false) → (e : Result JobGiven Refusal) × (c.end ≡ Some e) × ((state_after key keeps.taken).marks [] ≡ Done (answer_of (end_of e)))
  top_ended f =
      let at = subst (HasEnded key) (same_steps tell key c false keeps f.taken f.at) f.ended in
      let done = (ended key keeps.taken keeps.is_key keeps.at.kept.legal).0 at in
      let e = end_there done.0 c.end (keeps.at.has_end done.0 done.1) in
      (e.0, e.1, done.1 ∙ ap (λ (a : Answer). Done a) e.2)

  pub iteration_ends : EndsAreMeant → (e : Result JobGiven Refusal) → (state_after key keeps.taken).marks [] ≡ Done (answer_of (end_of e)) → IterationEnds key.graphs key.ins key.delays (end_of e)
  iteration_ends meant e done =
      let fit = keeps.is_key.fit in
      let means = meant key keeps.taken (end_of e) keeps.is_key keeps.at.kept.legal done in
      let top : slice_index_or key.graphs.graphs key.graphs.top no_graph ≡ fit.g = the_same (slice_get key.graphs.graphs key.graphs.top) (slice_index_or key.graphs.graphs key.graphs.top no_graph) fit.g (slice_get-get_or key.graphs.graphs key.graphs.top no_graph (slice_get_within key.graphs.graphs key.graphs.top fit.g fit.here)) fit.here in
      record {
        top = fit.g;
        top_is = fit.here;
        means = subst (λ (g : Graph). Means key.graphs.graphs (top_firing g key.graphs.top key.ins key.delays) (end_of e)) top means;
      }

pub must_end : (tell : JournalsTellSteps) (ended : BoardsEnd) (key : Key) (c : Core) (starved : Bool) → Keeps key c starved → IsOver (view_with key c starved) → starved ≡ false → (e : Result JobGiven Refusal) × (c.end ≡ Some e)
must_end tell ended key c false keeps over live = ⊎_elim (λ (f : HasFinished (view_with key c false)). let e = top_ended tell ended key c keeps f in (e.0, e.1)) (λ o. let t = o.0 in absurd (cc)) over
must_end tell ended key c true keeps over live = absurd (cc)

pub ends_as : (tell : JournalsTellSteps) (ended : BoardsEnd) → EndsAreMeant → (key : Key) (c : Core) (starved : Bool) → Keeps key c starved → IsOver (view_with key c starved) → (end : BoardEnd) → EndsWith c starved end → EndsAs (view_with key c starved) end
ends_as tell ended meant key c true keeps over (ends.Done iteration delays journal) w = let no = w.0 in absurd (cc)
ends_as tell ended meant key c true keeps over (ends.Refused refusal journal) w = let no = w.0 in absurd (cc)
ends_as tell ended meant key c true keeps over ends.Starved w = refl
ends_as tell ended meant key c false keeps over ends.Starved w = absurd (let no : false ≡ true = w in cc)
ends_as tell ended meant key c false keeps over (ends.Done iteration delays journal) w = ⊎_elim
    (λ (f : HasFinished (view_with key c false)).
    let e = top_ended tell ended key c keeps f in
    let is : e.0 ≡ Ok w.2 = (let one = e.1 in let two = w.3 in cc) in
    let it = iteration_ends tell ended key c keeps meant e.0 e.2 in (
      refl,
      w.1,
      record {
        given = given_of w.2;
        ends = subst (λ x. IterationEnds key.graphs key.ins key.delays (end_of x)) is it;
        iteration_is = w.4;
        state_is = w.5;
      },
    ))
    (λ o. let t = o.0 in absurd (cc))
    over
ends_as tell ended meant key c false keeps over (ends.Refused refusal journal) w = ⊎_elim
    (λ (f : HasFinished (view_with key c false)).
    let e = top_ended tell ended key c keeps f in
    let is : e.0 ≡ Err refusal = (let one = e.1 in let two = w.2 in cc) in
    let it = iteration_ends tell ended key c keeps meant e.0 e.2 in
    (refl, w.1, subst (λ x. IterationEnds key.graphs key.ins key.delays (end_of x)) is it))
    (λ o. let t = o.0 in absurd (cc))
    over
