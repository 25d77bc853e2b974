-- What a test's answer says, put otherwise.
use Rattle.std.proofs.Common.{Bool, true, false, Result, Ok, Err, IfOk, OnOk}
use Rattle.std.specs.Bool.{OnTrue, OnFalse}

pub OnTrue-map : {P Q : Type 0} (b : Bool) → (P → Q) → OnTrue b P → OnTrue b Q
OnTrue-map true f p = f p
OnTrue-map false f p = tt

pub OnFalse-map : {P Q : Type 0} (b : Bool) → (P → Q) → OnFalse b P → OnFalse b Q
OnFalse-map true f p = tt
OnFalse-map false f p = f p

pub OnTrue-ok : {E P Q : Type 0} (r : Result Bool E) → (P → Q) → IfOk r (λ b. OnTrue b P) → IfOk r (λ b. OnTrue b Q)
OnTrue-ok (Ok b) f p = OnTrue-map b f p
OnTrue-ok (Err e) f p = tt

pub OnFalse-ok : {E P Q : Type 0} (r : Result Bool E) → (P → Q) → IfOk r (λ b. OnFalse b P) → IfOk r (λ b. OnFalse b Q)
OnFalse-ok (Ok b) f p = OnFalse-map b f p
OnFalse-ok (Err e) f p = tt

pub OnOk-map : {T E P Q : Type 0} (r : Result T E) → (P → Q) → OnOk r P → OnOk r Q
OnOk-map (Ok x) f p = f p
OnOk-map (Err e) f p = tt
