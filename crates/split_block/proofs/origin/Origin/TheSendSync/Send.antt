use denote.Param.Send.{IsSend, owning_send}
use Rattle.split_block.specs.contracts.origin.Origin as C

pub send : IsSend C.the_row
send = owning_send C.the_type tt (λ o. tt) (λ k x w. tt)
