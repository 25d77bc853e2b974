use Rattle.kernel_gate.specs.Signed.{unnamed}
use Rattle.journal_laws.proofs.OneText.{steps_same, whole_ends}
use Rattle.journal_laws.proofs.texts.texts_are_one.Goals as goal

pub returns-clause-steps : goal.returns-clause-steps
returns-clause-steps c = λ graphs kernels streams iterations workers texts state taken text may come whole shares.
    steps_same graphs kernels streams iterations workers record {
      may = may;
      ends = c.legal_journals_end.ensures;
      meant = c.meanings_exist.ensures.firings graphs may.valid.valid;
      keeps = c.sizes_kept.ensures (unnamed kernels) graphs may.valid.valid (c.runnable.ensures (unnamed kernels) graphs may.valid).fit may.lengths;
    }
    record {
      meaning = c.one_meaning.ensures.firings graphs.graphs;
      run = c.one_meaning.ensures.runs graphs;
      boards = c.board_laws.ensures;
      once = c.next_steps_are_one.ensures;
      begin = c.lines_begin.ensures.begin;
      tell = c.lines_begin.ensures.tell;
      stay = c.journals_grow.ensures.ended;
      lines_are = c.entries_are_lines.ensures;
      plain = c.paths_are_plain.ensures;
    }
    texts state taken text come whole shares

pub returns-clause-whole : goal.returns-clause-whole
returns-clause-whole c = λ graphs kernels streams iterations workers text other may one two shares.
    whole_ends graphs kernels streams iterations workers record {
      may = may;
      ends = c.legal_journals_end.ensures;
      meant = c.meanings_exist.ensures.firings graphs may.valid.valid;
      keeps = c.sizes_kept.ensures (unnamed kernels) graphs may.valid.valid (c.runnable.ensures (unnamed kernels) graphs may.valid).fit may.lengths;
    }
    record {
      meaning = c.one_meaning.ensures.firings graphs.graphs;
      run = c.one_meaning.ensures.runs graphs;
      boards = c.board_laws.ensures;
      once = c.next_steps_are_one.ensures;
      begin = c.lines_begin.ensures.begin;
      tell = c.lines_begin.ensures.tell;
      stay = c.journals_grow.ensures.ended;
      lines_are = c.entries_are_lines.ensures;
      plain = c.paths_are_plain.ensures;
    }
    text other one two shares
