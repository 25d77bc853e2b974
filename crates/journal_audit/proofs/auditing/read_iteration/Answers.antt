use Rattle.std.proofs.Common.{◌≡◌, ◌+◌, ◌-◌, ℕ, ℤ, List, drop, length, take, None, refl, sym, ap, ◌∙◌, subst}
use Rattle.kernel_gate.specs.Signed.{unnamed}
use Rattle.pisdf_meaning.specs.Run.{first_lack, taken}
use Rattle.board_rules.specs.Keys.{IsKey}
use Rattle.quiescent_driver.specs.Given.{key_with}
use Rattle.quiescent_driver.specs.Journals.{key_at}
use Rattle.quiescent_driver.specs.LackSeen.{lack_of}
use Rattle.quiescent_driver.specs.Streams.{rest_of}
use Rattle.quiescent_driver.specs.Top.{top_of}
use Rattle.journal_laws.proofs.Iterations.{needs}
use Rattle.journal_laws.proofs.Onward.{RunGiven}
use Rattle.journal_audit.specs.Replays.{HasReadBoard}
use Rattle.journal_audit.proofs.Iterations.{IterationLaws, ends_short, is_key_here, lack_there, no_lack, reads_to, top_here, top_in}
use Rattle.journal_audit.proofs.ReadBoards.{rest_is}
use Rattle.journal_audit.proofs.auditing.read_iteration.Goals as goal

pub returns-then-is_some : goal.returns-then-is_some
returns-then-is_some g c = λ iterations less may.
    let graphs = c.args.graphs.now in
    let kernels = g.K.Gate.kernels c.args.gate.now in
    let tokens = c.args.streams.now.tokens.now in
    let n = c.args.number in
    let found = lack_there lack_of c.first_lack.result (sym c.is_some.ensures ∙ c.if-is_some.true) (first_lack 0 c.args.streams.now.needs.now (rest_of n c.args.streams.now.needs.now tokens)) c.first_lack.ensures in
    ends_short graphs kernels tokens iterations c.args.workers c.args.journal.now c.requires.sound n less (top_of graphs) (top_here graphs may.valid) found.0 (ap (λ (ns : List ℕ). first_lack 0 ns (rest_of n ns tokens)) (sym c.requires.needs) ∙ found.1) c.args.delays.now.lists
    c.args.reading.now c.requires.read

pub read_board-requires : goal.read_board-requires
read_board-requires g c =
    let graphs = c.args.graphs.now in
    let kernels = g.K.Gate.kernels c.args.gate.now in
    let tokens = c.args.streams.now.tokens.now in
    let n = c.args.number in
    let valid = c.requires.run.valid in
    let can = c.runnable.ensures (unnamed kernels) graphs valid in
    let given : RunGiven graphs kernels tokens (n + 1) c.args.workers = record {
      may = c.requires.run;
      ends = c.legal_journals_end.ensures;
      meant = c.meanings_exist.ensures.firings graphs valid.valid;
      keeps = c.sizes_kept.ensures (unnamed kernels) graphs valid.valid can.fit c.requires.run.lengths;
    } in
    let none = no_lack lack_of c.first_lack.result (sym c.is_some.ensures ∙ c.if-is_some.false) (first_lack 0 c.args.streams.now.needs.now (rest_of n c.args.streams.now.needs.now tokens)) c.first_lack.ensures in
    let fed : first_lack 0 (needs graphs) (rest_of n (needs graphs) tokens) ≡ None = ap (λ (ns : List ℕ). first_lack 0 ns (rest_of n ns tokens)) (sym c.requires.needs) ∙ none in
    let is = is_key_here graphs kernels tokens c.args.workers c.args.journal.now n c.args.delays.now.lists c.args.reading.now c.requires.read given c.requires.sound fed in
    let ins : c.as_slice.result.now ≡ taken (needs graphs) (rest_of n (needs graphs) tokens) =
    c.as_slice.ensures.value ∙ (c.in_ok-ins.ensures ∙ ap (λ (ns : List ℕ). taken ns (rest_of n ns tokens)) c.requires.needs) in
    subst (λ (lists : List (List ℤ)). IsKey (key_with graphs kernels c.args.delays.now.lists lists c.args.workers)) (sym ins) is

pub returns : goal.returns
returns g c = λ iterations less may.
    let graphs = c.args.graphs.now in
    let kernels = g.K.Gate.kernels c.args.gate.now in
    let tokens = c.args.streams.now.tokens.now in
    let n = c.args.number in
    let state = c.args.delays.now.lists in
    let journal = c.args.journal.now in
    let reading = c.args.reading.now in
    let read = c.in_ok-read.read in
    let valid = c.requires.run.valid in
    let can = c.runnable.ensures (unnamed kernels) graphs valid in
    let given : RunGiven graphs kernels tokens (n + 1) c.args.workers = record {
      may = c.requires.run;
      ends = c.legal_journals_end.ensures;
      meant = c.meanings_exist.ensures.firings graphs valid.valid;
      keeps = c.sizes_kept.ensures (unnamed kernels) graphs valid.valid can.fit c.requires.run.lengths;
    } in
    let laws : IterationLaws = record {
      lines_are = c.entries_are_lines.ensures;
      plain = c.paths_are_plain.ensures;
      ended = c.boards_end.ensures.ended;
      meant = c.boards_end.ensures.meant;
      tell = c.journals_tell_one_thread.ensures.tell;
    } in
    let none = no_lack lack_of c.first_lack.result (sym c.is_some.ensures ∙ c.if-is_some.false) (first_lack 0 c.args.streams.now.needs.now (rest_of n c.args.streams.now.needs.now tokens)) c.first_lack.ensures in
    let fed : first_lack 0 (needs graphs) (rest_of n (needs graphs) tokens) ≡ None = ap (λ (ns : List ℕ). first_lack 0 ns (rest_of n ns tokens)) (sym c.requires.needs) ∙ none in
    let is = is_key_here graphs kernels tokens c.args.workers journal n state reading c.requires.read given c.requires.sound fed in
    let ins : c.as_slice.result.now ≡ taken (needs graphs) (rest_of n (needs graphs) tokens) =
    c.as_slice.ensures.value ∙ (c.in_ok-ins.ensures ∙ ap (λ (ns : List ℕ). taken ns (rest_of n ns tokens)) c.requires.needs) in
    let text : List ℕ = take (length journal - reading.bytes) (drop reading.bytes journal) in
    let board : HasReadBoard graphs (key_at graphs kernels tokens c.args.workers n state) n text read =
    subst (λ (lists : List (List ℤ)). HasReadBoard graphs (key_with graphs kernels state lists c.args.workers) n text read) ins c.in_ok-read.ensures in
    let b : HasReadBoard graphs (key_at graphs kernels tokens c.args.workers n state) n (drop reading.bytes journal) read =
    subst (λ (t : List ℕ). HasReadBoard graphs (key_at graphs kernels tokens c.args.workers n state) n t read) (rest_is reading.bytes journal) board in
    reads_to laws graphs kernels tokens c.args.workers journal n state reading c.requires.read (top_in graphs valid) c.requires.sound fed is read b
    record { boards = reading.boards + 1; bytes = reading.bytes + read.bytes; lines = reading.lines + read.lines } refl refl refl iterations less read.end b.stops c.next_after.new.delays.lists c.next_after.result c.next_after.ensures
