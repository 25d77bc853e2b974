-- Answers that are passed on.
use Rattle.std.proofs.Common.{◌≡◌, Result, Ok, Err, IfOk, IfErr, OnOk}
use Rattle.std.specs.Result.{IsErrAnd}
use Rattle.pisdf_meaning.specs.Endings.{Answers, IfRefused}
use Rattle.pisdf_meaning.specs.declared.refusal.PlainFault.{PlainFault}
use Rattle.pisdf_meaning.specs.declared.refusal.PlainFault.TheVariants.{Refused, Memory}
use Rattle.pisdf_meaning.specs.declared.refusal.Refusal.{Refusal}

pub refused-map : (P Q : Refusal → Type 0) → ((refusal : Refusal) → P refusal → Q refusal) → (fault : PlainFault) → IfRefused P fault → IfRefused Q fault
refused-map P Q turn (Refused refusal) holds = turn refusal holds
refused-map P Q turn Memory holds = tt

module _ {T : Type 0} where
  -- what holds of a fault holds of the same fault passed on
  pub passed_on : (P : Refusal → Type 0) (result : Result T PlainFault) (fault : PlainFault) → IsErrAnd result (λ e. e ≡ fault) → IfRefused P fault → IfErr result (IfRefused P)
  passed_on P (Ok v) fault is holds = tt
  passed_on P (Err e) fault is holds = rw is holds

  pub passed_answer : (P : Result T Refusal → Type 0) (result : Result T PlainFault) (fault : PlainFault) → IsErrAnd result (λ e. e ≡ fault) → IfRefused (λ refusal. P (Err refusal)) fault → Answers P result
  passed_answer P (Ok v) fault is holds = absurd is
  passed_answer P (Err e) fault is holds = rw is holds

  pub answers-map : (P Q : Result T Refusal → Type 0) → ((answer : Result T Refusal) → P answer → Q answer) → (result : Result T PlainFault) → Answers P result → Answers Q result
  answers-map P Q turn (Ok v) holds = turn (Ok v) holds
  answers-map P Q turn (Err e) holds = refused-map (λ r. P (Err r)) (λ r. Q (Err r)) (λ r. turn (Err r)) e holds

  pub answers_of : (P : Result T Refusal → Type 0) (result : Result T PlainFault) → IfOk result (λ v. P (Ok v)) → IfErr result (IfRefused (λ r. P (Err r))) → Answers P result
  answers_of P (Ok v) ok err = ok
  answers_of P (Err e) ok err = err

  pub ok-map2 : (P Q R : T → Type 0) → ((v : T) → P v → Q v → R v) → (result : Result T PlainFault) → IfOk result P → IfOk result Q → IfOk result R
  ok-map2 P Q R turn (Ok v) p q = turn v p q
  ok-map2 P Q R turn (Err e) p q = tt

  pub ok-map : (P Q : T → Type 0) → ((v : T) → P v → Q v) → (result : Result T PlainFault) → IfOk result P → IfOk result Q
  ok-map P Q turn (Ok v) p = turn v p
  ok-map P Q turn (Err e) p = tt

  pub err-map : (P Q : Refusal → Type 0) → ((refusal : Refusal) → P refusal → Q refusal) → (result : Result T PlainFault) → IfErr result (IfRefused P) → IfErr result (IfRefused Q)
  err-map P Q turn (Ok v) holds = tt
  err-map P Q turn (Err e) holds = refused-map P Q turn e holds

  -- what is never refused is refused in no way
  pub none_refused : (P : Refusal → Type 0) (result : Result T PlainFault) → IfErr result (IfRefused (λ refusal. ⊥)) → IfErr result (IfRefused P)
  none_refused P result never = err-map (λ refusal. ⊥) P (λ refusal none. absurd none) result never

  pub on-map2 : (P Q R : Type 0) → (P → Q → R) → (result : Result T PlainFault) → OnOk result P → OnOk result Q → OnOk result R
  on-map2 P Q R turn (Ok v) p q = turn p q
  on-map2 P Q R turn (Err e) p q = tt

  pub ok-on : (P R : T → Type 0) (Q : Type 0) → ((v : T) → Q → P v → R v) → (result : Result T PlainFault) → OnOk result Q → IfOk result P → IfOk result R
  ok-on P R Q turn (Ok v) q p = turn v q p
  ok-on P R Q turn (Err e) q p = tt
