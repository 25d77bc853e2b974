-- What a thread of a crew borrows may cross to it.
use mathlib.Core.List.{List, [], ◌∷◌}
use mir.Syntax.{Lifetime, Sym}
use base.Fml.{Lft}
use denote.Param.{param}
use denote.Param.Send.{IsSend, IsSync, mut_send, recorded_send, shr_send, struct_send}
use denote.RattleType.{RattleType}
use denote.Ref.{MutRef, ShrRef}
use denote.Struct.Declared.{shape}
use denote.Struct.Tuple.{TupleAt, field_at, type_at}
use Rattle.std.proofs.alloc.Global.TheSendSync as global
use Rattle.std.proofs.option.Option.TheSendSync as option
use Rattle.std.specs.contracts.alloc.Global as Global
use Rattle.std.specs.contracts.option.Option as Option
use Rattle.board_lock.proofs.lock.Lock.TheSendSync as lock
use Rattle.board_lock.proofs.pass.Pass.TheSendSync as pass
use Rattle.board_lock.specs.contracts.lock.Lock as Lock
use Rattle.board_lock.specs.contracts.pass.Pass as Pass
use Rattle.board_rules.specs.contracts.entry.Entry as Entry
use Rattle.firing_board.specs.contracts.board.Board as Board
use Rattle.firing_board.specs.contracts.locked.BoardKey as BoardKey
use Rattle.firing_board.specs.contracts.locked.FramePlaces as FramePlaces
use Rattle.firing_board.specs.contracts.locked.BoardLocked.TheImpl.{ghosts}
use Rattle.worker_crew.proofs.BoardSending.{board_send}

-- ---- a slot with a pass, and the lock

abbrev pass_row : RattleType
pass_row = Pass.the_row Board.the_row BoardKey.the_row Entry.the_row FramePlaces.the_row ghosts

abbrev slot_row : RattleType
slot_row = Option.the_row pass_row

slot_send : IsSend slot_row
slot_send = option.the_send pass_row (pass.the_send Board.the_row BoardKey.the_row Entry.the_row FramePlaces.the_row ghosts board_send)

abbrev lock_row : RattleType
lock_row = Lock.the_row Board.the_row BoardKey.the_row Entry.the_row FramePlaces.the_row ghosts

lock_sync : IsSync lock_row
lock_sync = lock.the_sync Board.the_row BoardKey.the_row Entry.the_row FramePlaces.the_row ghosts board_send

-- ---- these, beside the runtime, the allocator and the kernels

module _ (K R : RattleType) (k : IsSync (param 0 K)) (r : IsSync (param 1 R)) (ν : Sym) (l₁ l₂ l₃ l₄ l₅ : Lifetime) (κ₁ κ₂ κ₃ κ₄ κ₅ : Lft) where
  abbrev pub captures : List RattleType
  captures = MutRef l₁ κ₁ slot_row ∷ ShrRef l₂ κ₂ (param 1 R) ∷ ShrRef l₃ κ₃ Global.the_row ∷ ShrRef l₄ κ₄ lock_row ∷ ShrRef l₅ κ₅ (param 0 K) ∷ []

  pub captures_send : IsSend (TupleAt ν captures)
  captures_send = recorded_send (field_at ν captures).row _ _ (type_at ν captures).to_one (struct_send (shape (type_at ν captures)) (
    mut_send l₁ κ₁ slot_row slot_send,
    (shr_send l₂ κ₂ (param 1 R) r, (shr_send l₃ κ₃ Global.the_row global.the_sync, (shr_send l₄ κ₄ lock_row lock_sync, (shr_send l₅ κ₅ (param 0 K) k, tt)))),
  ))
