use Rattle.board_rules.proofs.Answering.{end_alike}
use Rattle.board_rules.proofs.laws.workers_dont_matter.Goals as goal

pub returns : goal.returns
returns c = λ one other taken others differ is is' legal ended legal' ended'.
    end_alike one other taken others differ (c.one_meaning.ensures.firings other.graphs.graphs) (c.journals_tell_one_thread.ensures.tell one taken is legal ended) (c.journals_tell_one_thread.ensures.tell other others is' legal' ended')
