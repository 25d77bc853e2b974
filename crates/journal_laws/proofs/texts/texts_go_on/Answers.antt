use Rattle.journal_laws.proofs.Joining.{goes_on}
use Rattle.journal_laws.proofs.texts.texts_go_on.Goals as goal
use Rattle.kernel_gate.specs.Signed.{unnamed}

pub returns : goal.returns
returns c = λ graphs kernels streams iterations workers texts state taken may come.
    goes_on graphs kernels streams workers iterations record {
      may = may;
      ends = c.legal_journals_end.ensures;
      meant = c.meanings_exist.ensures.firings graphs may.valid.valid;
      keeps = c.sizes_kept.ensures (unnamed kernels) graphs may.valid.valid (c.runnable.ensures (unnamed kernels) graphs may.valid).fit may.lengths;
    }
    texts state taken come
