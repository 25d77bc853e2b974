use Rattle.std.proofs.Common.{◌≡◌, ◌∙◌, ◌==◌, ◌≤◌, IfOk, Bool, true, false, codes, string_bytes, length, ℤ, ap, subst, sym, arith}
use Rattle.std.proofs.lemmas.Bool.Decides.{nat_tests}
use Rattle.serde_json.specs.Data.{Data, member, object}
use Rattle.serde_json.specs.View.{view}
use Rattle.pisdf_model.specs.declared.fifo.Life.{Life}
use Rattle.pisdf_model.specs.declared.fifo.Life.TheVariants.{Firing}
use Rattle.graph_format.specs.Canonical.{end_members, fifo_value, is_no_delay}
use Rattle.graph_format.specs.Named.{named_fifo, stated_delay, stated_life}
use Rattle.graph_format.specs.Objects.{has_lives}
use Rattle.graph_writer.proofs.CanonicalDelays.{only_empty}
use Rattle.graph_writer.proofs.WrittenFifos.{living, stated_as_it_is, without_delay, without_life}
use Rattle.graph_writer.proofs.fifo.FifosWriter.value.Goals as goal

pub returns-then-is_empty-clause-shown : goal.returns-then-is_empty-clause-shown
returns-then-is_empty-clause-shown c =
    let graphs = c.args.self.now.graphs.now in
    let fifo = c.args.fifo.now in
    let none : is_no_delay (stated_delay fifo.delay) ≡ true = only_empty fifo.delay ∙ ap (λ tokens. length {A = ℤ} tokens == 0) (sym c.items-tokens.ensures) ∙ sym c.is_empty.ensures ∙ c.if-is_empty.true in
    let same : object (end_members false Firing (string_bytes c.in_ok-from.from) (string_bytes c.in_ok-to.to)) ≡ fifo_value graphs.version (named_fifo graphs c.args.self.now.graph.now fifo) =
    rw (c.in_ok-from.ensures, c.in_ok-to.ensures) (without_delay graphs.version (named_fifo graphs c.args.self.now.graph.now fifo) none) in
    subst (λ (d : Data). IfOk c.undelayed.result (λ v. view v ≡ d)) same c.undelayed.ensures

pub returns-then-self-lt2-clause-shown : goal.returns-then-self-lt2-clause-shown
returns-then-self-lt2-clause-shown c =
    let graphs = c.args.self.now.graphs.now in
    let fifo = c.args.fifo.now in
    let some : is_no_delay (stated_delay fifo.delay) ≡ false = only_empty fifo.delay ∙ ap (λ tokens. length {A = ℤ} tokens == 0) (sym c.items-tokens.ensures) ∙ sym c.is_empty.ensures ∙ c.if-is_empty.false in
    let old : has_lives graphs.version ≡ false = grind (arith, nat_tests, c.if-self-lt2.true) in
    let same : object (member (codes "delay") (view c.in_ok-delay.delay) (end_members false Firing (string_bytes c.in_ok-from.from) (string_bytes c.in_ok-to.to))) ≡ fifo_value graphs.version (named_fifo graphs c.args.self.now.graph.now fifo) =
    rw (c.in_ok-from.ensures, c.in_ok-to.ensures, c.in_ok-delay.ensures.shown, c.items-tokens.ensures) (without_life graphs.version (named_fifo graphs c.args.self.now.graph.now fifo) some old) in
    subst (λ (d : Data). IfOk c.delayed.result (λ v. view v ≡ d)) same c.delayed.ensures

pub returns-clause-shown : goal.returns-clause-shown
returns-clause-shown c =
    let graphs = c.args.self.now.graphs.now in
    let fifo = c.args.fifo.now in
    let some : is_no_delay (stated_delay fifo.delay) ≡ false = only_empty fifo.delay ∙ ap (λ tokens. length {A = ℤ} tokens == 0) (sym c.items-tokens.ensures) ∙ sym c.is_empty.ensures ∙ c.if-is_empty.false in
    let later : 2 ≤ graphs.version = c.if-self-lt2.false in
    let has : has_lives graphs.version ≡ true = grind (arith, nat_tests) in
    let same : object (member (codes "delay") (view c.in_ok-delay.delay) (end_members true (stated_life graphs.version fifo.life) (string_bytes c.in_ok-from.from) (string_bytes c.in_ok-to.to))) ≡ fifo_value graphs.version (named_fifo graphs c.args.self.now.graph.now fifo) =
    rw (c.in_ok-from.ensures, c.in_ok-to.ensures, c.in_ok-delay.ensures.shown, c.items-tokens.ensures) (living graphs.version (named_fifo graphs c.args.self.now.graph.now fifo) some has) in
    let as_it_is : object (member (codes "delay") (view c.in_ok-delay.delay) (end_members true fifo.life (string_bytes c.in_ok-from.from) (string_bytes c.in_ok-to.to))) ≡ fifo_value graphs.version (named_fifo graphs c.args.self.now.graph.now fifo) =
    ap (λ (life : Life). object (member (codes "delay") (view c.in_ok-delay.delay) (end_members true life (string_bytes c.in_ok-from.from) (string_bytes c.in_ok-to.to)))) (sym (stated_as_it_is graphs.version fifo.life later)) ∙ same in
    subst (λ (d : Data). IfOk c.living.result (λ v. view v ≡ d)) as_it_is c.living.ensures
