-- Results that are told so.
use Rattle.std.proofs.Common.{Result, Ok, Err, IfOk}
use Rattle.std.specs.Prelude.{OnOk}

pub ok_more : {E T : Type 0} (Q P : T → Type 0) (r : Result T E) → ((x : T) → Q x → P x) → IfOk r Q → IfOk r P
ok_more Q P (Ok x) more is = more x is
ok_more Q P (Err e) more is = tt

pub on_ok : {E T Q P : Type 0} (r : Result T E) → (Q → P) → OnOk r Q → OnOk r P
on_ok (Ok x) more is = more is
on_ok (Err e) more is = tt
