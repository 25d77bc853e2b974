use Rattle.std.proofs.Common.{◌≡◌, ℕ, List, inr, subst, true, false}
use Rattle.pisdf_program.specs.Worked.{PutsLine}
use Rattle.pisdf_program.specs.declared.status.Status.TheVariants.{WantOfMemory, WriteFault}
use Rattle.pisdf_program.proofs.program.tell.Goals as goal

pub returns-in-Err-clause-tells : goal.returns-in-Err-clause-tells
returns-in-Err-clause-tells g c =
    let written = g.E.Sink.written in
    let faults = g.E.Sink.faults in
    let new = c.put_line-in-Err.new.err in
    inr (
      λ (e : c.args.status ≡ WriteFault). let yes : c.is_write_fault.result ≡ true = c.is_write_fault.ensures.1 e in let no : c.is_write_fault.result ≡ false = c.if-is_write_fault.false in absurd cc,
      inr (subst (λ (line : List ℕ). PutsLine line WantOfMemory (written c.args.err.now) (written new) (faults c.args.err.now) (faults new) c.put_line-in-Err.result) c.as_bytes.ensures.value c.put_line-in-Err.ensures),
    )
