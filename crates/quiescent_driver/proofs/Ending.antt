-- What a board that is over tells.
use Rattle.std.proofs.Common.{◌≡◌, List, true, false, Result, Ok, Err, IfOk, inl, inr, sym, ◌∙◌, subst}
use Rattle.board_rules.specs.Keys.{Key}
use Rattle.board_rules.specs.declared.entry.Entry.{Entry}
use Rattle.firing_board.specs.Ends.{EndsAs, IsOver}
use Rattle.firing_board.specs.View.{BoardView}
use Rattle.firing_board.specs.declared.ending.BoardEnd.{BoardEnd}
use Rattle.firing_board.specs.declared.ending.BoardEnd.TheVariants as ends
use Rattle.quiescent_driver.specs.Endings.{EndsWith, IsWhole}

-- the journal of a board that isn't starved has ended
whole : (b : BoardView) (entries : List Entry) → b.starved ≡ false → IsOver b → entries ≡ b.journal → IsWhole b.key entries
whole b entries live (inl f) is = record { taken = f.taken; legal = f.at.legal; ended = f.ended; entries_are = sym (is ∙ f.at.entered) }
whole b entries live (inr (starved, idle)) is = let e : true ≡ false = sym starved ∙ live in cc

pub ends_here : (b : BoardView) (end : BoardEnd) → IsOver b → EndsAs b end → EndsWith b.key end
ends_here b (ends.Done iteration delays journal) over (live, entries, gives) = (gives, whole b journal.entries live over entries)
ends_here b (ends.Refused refusal journal) over (live, entries, refused) = (refused, whole b journal.entries live over entries)
ends_here b ends.Starved over starved = tt

pub ends_so : {E : Type 0} (key : Key) (b : BoardView) (result : Result BoardEnd E) → b.key ≡ key → IsOver b → IfOk result (EndsAs b) → IfOk result (EndsWith key)
ends_so key b (Ok end) key_is over ending = subst (λ k. EndsWith k end) key_is (ends_here b end over ending)
ends_so key b (Err e) key_is over ending = tt
