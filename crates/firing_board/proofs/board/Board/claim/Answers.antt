use Rattle.std.proofs.Common.{◌≡◌, ◌∙◌, Bool, true, false, is_some, sym, ap, ap₂, subst}
use Rattle.board_rules.specs.Keys.{Key}
use Rattle.firing_board.specs.Signatures.{counts_by}
use Rattle.firing_board.specs.Table.View.{firings_of}
use Rattle.firing_board.specs.Claims.{Claims, EntersAs}
use Rattle.firing_board.specs.Firings.{FiringsGoOn, LeasesFrame}
use Rattle.firing_board.specs.Invariants.{HasMemoryUnless, Keeps, key_of, key_with, view_with}
use Rattle.firing_board.specs.View.{BoardView}
use Rattle.firing_board.specs.Wanting.{MayStarve}
use Rattle.firing_board.proofs.Fields.{key_same}
use Rattle.firing_board.proofs.KeptViews.{claims_as, enters_as, keeping, leases_as, may_claim_by, starves_as}
use Rattle.firing_board.proofs.Rows.{all_go_on}
use Rattle.firing_board.proofs.EndedLevels.{levels_same}
use Rattle.firing_board.proofs.board.Board.claim.Goals as goal

pub claim-claimed-requires-clause-may : goal.claim-claimed-requires-clause-may
claim-claimed-requires-clause-may c =
    let i = c.self.inside in
    (key_of i, may_claim_by c.entries_tell_steps.ensures.steps i c.self.invariant c.args.self.now c.self.view_is c.if-self.false c.args.worker c.requires)

pub claim-claimed-requires-clause-room : goal.claim-claimed-requires-clause-room
claim-claimed-requires-clause-room c = subst (λ (b : Bool). HasMemoryUnless b c.self.inside.core) c.if-self.false c.self.invariant.2

pub invariant_of-self : goal.invariant_of-self
invariant_of-self c =
    let i = c.self.inside in
    let key = key_of i in
    let live = c.if-self.false in
    let new = c.claim-claimed.new.core in
    let may = may_claim_by c.entries_tell_steps.ensures.steps i c.self.invariant c.args.self.now c.self.view_is live c.args.worker c.requires in
    let same = key_same (counts_by i.signatures) i.top.value i.core new c.claim-claimed.ensures.kept.0 in (
      subst (λ (k : Key). Keeps k new i.starved) (sym same) (subst (λ (b : Bool). Keeps key new b) (sym live) (c.in-Ok.ensures.claimed key may).keeps),
      levels_same i.core.table.graphs new.table.graphs c.claim-claimed.new.keeping.levels c.claim-claimed.ensures.kept.0.graphs_are (c.claim-claimed.ensures.kept.1.graphs i.core.table.graphs c.self.invariant.1),
      subst (λ (b : Bool). HasMemoryUnless b new) (sym live) c.in-Ok.ensures.room,
      c.claim-claimed.ensures.kept.0.slots_each ∙ (c.self.invariant.3 ∙ sym c.claim-claimed.ensures.kept.0.one_each),
    )

pub invariant_of-self-in-Err : goal.invariant_of-self-in-Err
invariant_of-self-in-Err c =
    let i = c.self.inside in
    let key = key_of i in
    let new = c.claim-claimed.new.core in
    let may = may_claim_by c.entries_tell_steps.ensures.steps i c.self.invariant c.args.self.now c.self.view_is c.if-self.false c.args.worker c.requires in
    let same = key_same (counts_by i.signatures) i.top.value i.core new c.claim-claimed.ensures.kept.0 in (
      subst (λ (k : Key). Keeps k new true) (sym same) (c.in-Err.ensures.refused key may).keeps,
      levels_same i.core.table.graphs new.table.graphs c.claim-claimed.new.keeping.levels c.claim-claimed.ensures.kept.0.graphs_are (c.claim-claimed.ensures.kept.1.graphs i.core.table.graphs c.self.invariant.1),
      tt,
      c.claim-claimed.ensures.kept.0.slots_each ∙ (c.self.invariant.3 ∙ sym c.claim-claimed.ensures.kept.0.one_each),
    )

pub returns-then-self-clause-licensed : goal.returns-then-self-clause-licensed
returns-then-self-clause-licensed c = λ is live.
    let starves = c.if-self.true in
    let same = ap (λ (b : BoardView). b.starved) c.self.view_is in
    absurd (cc)

pub returns-in-Ok-clause-claims : goal.returns-in-Ok-clause-claims
returns-in-Ok-clause-claims c =
    let i = c.self.inside in
    let key = key_of i in
    let live = c.if-self.false in
    let new = c.claim-claimed.new.core in
    let w = c.args.worker in
    let has = is_some i.keeping.kept in
    let may = may_claim_by c.entries_tell_steps.ensures.steps i c.self.invariant c.args.self.now c.self.view_is live w c.requires in
    let same = key_same (counts_by i.signatures) i.top.value i.core new c.claim-claimed.ensures.kept.0 in
    let before : keeping has (view_with key i.core false) ≡ c.args.self.now = ap (λ (b : Bool). keeping has (view_with key i.core b)) (sym live) ∙ c.self.view_is in
    let after : keeping has (view_with key new false) ≡ keeping (is_some c.claim-claimed.new.keeping.kept) (view_with (key_with (counts_by i.signatures) i.top.value new) new i.starved) =
    ap (λ (b : Bool). keeping has (view_with key new b)) (sym live)
    ∙ ap₂ (λ (k : Key) (h : Bool). keeping h (view_with k new i.starved)) (sym same) (sym c.claim-claimed.ensures.kept.1.kept) in
    subst (λ (b : BoardView). Claims b (keeping (is_some c.claim-claimed.new.keeping.kept) (view_with (key_with (counts_by i.signatures) i.top.value new) new i.starved)) w c.in-Ok.claim) before
    (subst (λ (b : BoardView). Claims (keeping has (view_with key i.core false)) b w c.in-Ok.claim) after
    (claims_as has (view_with key i.core false) (view_with key new false) w c.in-Ok.claim (c.in-Ok.ensures.claimed key may).claims))

pub returns-in-Ok-clause-enters : goal.returns-in-Ok-clause-enters
returns-in-Ok-clause-enters c =
    let i = c.self.inside in
    let key = key_of i in
    let live = c.if-self.false in
    let new = c.claim-claimed.new.core in
    let w = c.args.worker in
    let has = is_some i.keeping.kept in
    let may = may_claim_by c.entries_tell_steps.ensures.steps i c.self.invariant c.args.self.now c.self.view_is live w c.requires in
    let same = key_same (counts_by i.signatures) i.top.value i.core new c.claim-claimed.ensures.kept.0 in
    let before : keeping has (view_with key i.core false) ≡ c.args.self.now = ap (λ (b : Bool). keeping has (view_with key i.core b)) (sym live) ∙ c.self.view_is in
    let after : keeping has (view_with key new false) ≡ keeping (is_some c.claim-claimed.new.keeping.kept) (view_with (key_with (counts_by i.signatures) i.top.value new) new i.starved) =
    ap (λ (b : Bool). keeping has (view_with key new b)) (sym live)
    ∙ ap₂ (λ (k : Key) (h : Bool). keeping h (view_with k new i.starved)) (sym same) (sym c.claim-claimed.ensures.kept.1.kept) in
    subst (λ (b : BoardView). EntersAs b (keeping (is_some c.claim-claimed.new.keeping.kept) (view_with (key_with (counts_by i.signatures) i.top.value new) new i.starved)) w c.in-Ok.claim) before
    (subst (λ (b : BoardView). EntersAs (keeping has (view_with key i.core false)) b w c.in-Ok.claim) after
    (enters_as has (view_with key i.core false) (view_with key new false) w c.in-Ok.claim (c.in-Ok.ensures.claimed key may).enters))

pub returns-in-Ok-clause-licensed : goal.returns-in-Ok-clause-licensed
returns-in-Ok-clause-licensed c = λ is was.
    let i = c.self.inside in
    let key = key_of i in
    let new = c.claim-claimed.new.core in
    let w = c.args.worker in
    let may = may_claim_by c.entries_tell_steps.ensures.steps i c.self.invariant c.args.self.now c.self.view_is c.if-self.false w c.requires in
    let claims = subst (Claims (view_with key i.core false) (view_with key new false) w) is (c.in-Ok.ensures.claimed key may).claims in
    let wrong : false ≡ true = ap (λ (b : BoardView). b.starved) claims in
    absurd (cc)

pub returns-in-Err-clause-claims : goal.returns-in-Err-clause-claims
returns-in-Err-clause-claims c =
    let i = c.self.inside in
    let key = key_of i in
    let new = c.claim-claimed.new.core in
    let may = may_claim_by c.entries_tell_steps.ensures.steps i c.self.invariant c.args.self.now c.self.view_is c.if-self.false c.args.worker c.requires in
    let same = key_same (counts_by i.signatures) i.top.value i.core new c.claim-claimed.ensures.kept.0 in
    ap₂ (λ (k : Key) (h : Bool). keeping h (view_with k new true)) same c.claim-claimed.ensures.kept.1.kept
    ∙ (ap (keeping (is_some i.keeping.kept)) (c.in-Err.ensures.refused key may).starves ∙ ap (λ (b : BoardView). record b { starved = true; firings = firings_of new.table }) c.self.view_is)

pub returns-in-Err-clause-enters : goal.returns-in-Err-clause-enters
returns-in-Err-clause-enters c =
    let i = c.self.inside in
    let key = key_of i in
    let may = may_claim_by c.entries_tell_steps.ensures.steps i c.self.invariant c.args.self.now c.self.view_is c.if-self.false c.args.worker c.requires in
    ap (λ (b : BoardView). b.journal) (c.in-Err.ensures.refused key may).starves ∙ ap (λ (b : BoardView). b.journal) c.self.view_is

pub returns-in-Err-clause-licensed : goal.returns-in-Err-clause-licensed
returns-in-Err-clause-licensed c = λ is was.
    let i = c.self.inside in
    let key = key_of i in
    let live = c.if-self.false in
    let w = c.args.worker in
    let has = is_some i.keeping.kept in
    let may = may_claim_by c.entries_tell_steps.ensures.steps i c.self.invariant c.args.self.now c.self.view_is live w c.requires in
    let before : keeping has (view_with key i.core false) ≡ c.args.self.now = ap (λ (b : Bool). keeping has (view_with key i.core b)) (sym live) ∙ c.self.view_is in
    subst (λ (b : BoardView). MayStarve b w) before (starves_as has (view_with key i.core false) w (c.in-Err.ensures.licensed key may))

pub returns-then-self-clause-firings : goal.returns-then-self-clause-firings
returns-then-self-clause-firings c = all_go_on c.args.self.now.firings

pub returns-in-Ok-clause-leases : goal.returns-in-Ok-clause-leases
returns-in-Ok-clause-leases c =
    let i = c.self.inside in
    let key = key_of i in
    let live = c.if-self.false in
    let new = c.claim-claimed.new.core in
    let w = c.args.worker in
    let has = is_some i.keeping.kept in
    let may = may_claim_by c.entries_tell_steps.ensures.steps i c.self.invariant c.args.self.now c.self.view_is live w c.requires in
    let same = key_same (counts_by i.signatures) i.top.value i.core new c.claim-claimed.ensures.kept.0 in
    let after : keeping has (view_with key new false) ≡ keeping (is_some c.claim-claimed.new.keeping.kept) (view_with (key_with (counts_by i.signatures) i.top.value new) new i.starved) =
    ap (λ (b : Bool). keeping has (view_with key new b)) (sym live)
    ∙ ap₂ (λ (k : Key) (h : Bool). keeping h (view_with k new i.starved)) (sym same) (sym c.claim-claimed.ensures.kept.1.kept) in
    subst (λ (b : BoardView). LeasesFrame b w c.in-Ok.claim) after (leases_as has (view_with key new false) w c.in-Ok.claim (c.in-Ok.ensures.claimed key may).leases)

pub returns-in-Ok-clause-firings : goal.returns-in-Ok-clause-firings
returns-in-Ok-clause-firings c =
    let i = c.self.inside in
    let new = c.claim-claimed.new.core in
    let may = may_claim_by c.entries_tell_steps.ensures.steps i c.self.invariant c.args.self.now c.self.view_is c.if-self.false c.args.worker c.requires in
    subst (λ (b : BoardView). FiringsGoOn b.firings (firings_of new.table)) c.self.view_is (c.in-Ok.ensures.claimed (key_of i) may).firings

pub returns-in-Err-clause-firings : goal.returns-in-Err-clause-firings
returns-in-Err-clause-firings c =
    let i = c.self.inside in
    let new = c.claim-claimed.new.core in
    let may = may_claim_by c.entries_tell_steps.ensures.steps i c.self.invariant c.args.self.now c.self.view_is c.if-self.false c.args.worker c.requires in
    subst (λ (b : BoardView). FiringsGoOn b.firings (firings_of new.table)) c.self.view_is (c.in-Err.ensures.refused (key_of i) may).firings

pub claim-claimed-requires-clause-graphs : goal.claim-claimed-requires-clause-graphs
claim-claimed-requires-clause-graphs c = c.self.invariant.1
